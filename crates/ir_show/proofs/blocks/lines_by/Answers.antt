use Rattle.std.proofs.Common.{◌≡◌, Ok, Err, Option, ℕ, sym, subst, flat_map}
use Rattle.std.specs.Global.{Vec}
use Rattle.std.specs.Prelude.{IfOk, IfSome}
use Rattle.std.specs.Result.{result_ok}
use Rattle.std.specs.declared.result.Result.{Result}
use Rattle.ir_show.specs.Blocks.{block_lines}
use Rattle.ir_show.proofs.blocks.lines_by.Goals as goal

-- what holds of the value in an `Ok` holds of it where errors are dropped
with_no_error : {T E : Type 0} (P : T → Type 0) (r : Result T E) → IfOk r P → IfSome (result_ok r) P
with_no_error P (Ok v) h = h
with_no_error P (Err e) h = tt

pub returns : goal.returns
returns g c =
    let P : Vec (Vec ℕ) → Type 0 = λ texts. flat_map (λ (text : Vec ℕ). text.items) texts.items ≡ block_lines c.args.pieces.now c.args.block in
    subst (λ (made : Option (Vec (Vec ℕ))). IfSome made P) (sym c.ok.ensures.value) (with_no_error P c.texts_by.result c.texts_by.ensures)

use Rattle.std.proofs.Common.{◌≡◌, ◌+◌, ◌-◌, ℕ, List, Ok, Err, subst, arith, flat_map}
use Rattle.std.specs.Global.{Vec}
use Rattle.std.specs.Prelude.{IfOk}
use Rattle.std.specs.List.{range_with_len}
use Rattle.std.specs.declared.result.Result.{Result}
use Rattle.ir_plan.proofs.Crews.{by_closure, of_closure}
use Rattle.ir_show.specs.Blocks.{line_of_node}
use Rattle.ir_show.proofs.Pieces.{texts_made}
use Rattle.ir_show.proofs.blocks.texts_by.OwnLists.{same-1-1}
use Rattle.ir_show.proofs.blocks.texts_by.Goals as goal

-- what holds of the value in an `Ok`
of_ok : {T E : Type 0} (r : Result T E) (P R : T → Type 0) → IfOk r P → ((v : T) → P v → R v) → IfOk r R
of_ok (Ok v) P R h f = f v h
of_ok (Err e) P R h f = tt

pub returns : goal.returns
returns g c =
    let p = c.args.pieces.now in
    let first : ℕ = c.args.block.from in
    let line : ℕ → List ℕ = λ u. line_of_node p u in
    let begin : first + 0 ≡ first = omega arith in
    of_ok c.texts.result _ _ c.texts.ensures
    (λ v zipped.
    subst (λ (u : ℕ). flat_map (λ (t : Vec ℕ). t.items) v.items ≡ flat_map line (range_with_len u (c.args.block.to - first))) begin
    (texts_made line first 0 (c.args.block.to - first) v.items (by_closure (Vec ℕ) _ _ (same-1-1 c.texts-arg-2-1.given) _ _ _ zipped)))

pub texts-requires-clause-each : goal.texts-requires-clause-each
texts-requires-clause-each g c =
    let block = c.requires.block in
    let low = block.0 in
    let high = block.1 in
    of_closure (Vec ℕ) _ _ (same-1-1 c.texts-arg-2-1.given) _ (c.args.block.to - c.args.block.from) (λ k lt. (omega (arith, lt, low, high), c.requires.pieces))

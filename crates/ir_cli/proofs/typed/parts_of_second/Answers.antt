use Rattle.std.proofs.Common.{◌≡◌, ℕ, List, ◌∷◌, [], Bool, true, false, length, refl, arith, suc, ◌+◌, lit<}
use Rattle.std.specs.Prelude.{None}
use Rattle.std.specs.List.{list_any, position_or_len}
use Rattle.std.proofs.lemmas.Str.Pattern.{split_once_first}
use Rattle.ir_cli.specs.Meaning.{is_comma}
use Rattle.ir_cli.proofs.typed.parts_of_second.Goals as goal

no_comma : (word : List ℕ) → position_or_len is_comma word ≡ length word → list_any is_comma word ≡ false
no_comma [] e = refl
no_comma (x ∷ xs) e = go (is_comma x) refl e (no_comma xs)
  where
    go : (b : Bool) → is_comma x ≡ b → position_or_len is_comma (x ∷ xs) ≡ length (x ∷ xs) → (position_or_len is_comma xs ≡ length xs → list_any is_comma xs ≡ false) → list_any is_comma (x ∷ xs) ≡ false
    go true is e rest = absurd (let bad : 0 ≡ suc (length xs) = rw is at e in omega arith)
    go false is e rest = rw is (rest (let tail : 1 + position_or_len is_comma xs ≡ suc (length xs) = rw is at e in omega arith))

pub returns-in-None-clause-root : goal.returns-in-None-clause-root
returns-in-None-clause-root c =
    let far : position_or_len is_comma c.args.word.now ≡ length c.args.word.now = split_once_first 44 c.args.word.now None c.in-None.ensures.cases (lit< tt) in
    rw (no_comma c.args.word.now far) refl

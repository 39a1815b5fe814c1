use Rattle.std.proofs.Common.{◌≡◌, ◌∙◌, ◌/◌, ◌%◌, ℕ, List, Some, length, slice_get, refl, sym, ap, arith}
use Rattle.std.proofs.lemmas.Bool.{eqb-true, eq-eqb}
use Rattle.std.proofs.lemmas.Option.{slice_get_read, slice_get_within}
use Rattle.ir_tables.proofs.keyed.is_fresh.Goals as goal

pub returns-in-Some : goal.returns-in-Some
returns-in-Some c =
    let keys : List ℕ = c.args.keys.now in
    let v : ℕ = c.args.entry.0 % 65536 in
    let entered : ℕ = c.args.entry.0 / 65536 in
    let key : ℕ = c.in-Some.key.now in
    let found = c.in-Some.ensures.lookup in
    let read : slice_get keys v ≡ Some key = slice_get_read keys (length keys) v key refl found.3.0 found.1 in (
      λ is. read ∙ ap Some (eqb-true key entered is),
      λ fresh. let same : Some key ≡ Some entered = sym read ∙ fresh in eq-eqb key entered (cc same),
    )

pub returns-in-None : goal.returns-in-None
returns-in-None c = (
  λ is. cc is,
  λ fresh. absurd (omega (arith, slice_get_within c.args.keys.now (c.args.entry.0 % 65536) (c.args.entry.0 / 65536) fresh, c.in-None.ensures.lookup.3)),
)

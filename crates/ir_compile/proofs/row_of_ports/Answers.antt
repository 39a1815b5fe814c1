use Rattle.std.proofs.Common.{◌<◌, List, ℕ, length, arith, sym, ◌∙◌}
use Rattle.std.proofs.lemmas.Bool.{eqb-false}
use Rattle.std.proofs.lemmas.List.{length-map}
use Rattle.ir_model.proofs.Partial.{partial_full}
use Rattle.ir_lookup.specs.Words.{start_of, starts_of}
use Rattle.ir_compile.proofs.MarkedStarts.{some_stand}
use Rattle.ir_compile.proofs.row_of_ports.Goals as goal
use Rattle.ir_compile.proofs.row_of_ports.Goals.{then-is_empty+in_ok-push_only, else-is_empty}

pub of-requires : goal.of-requires
of-requires c =
    let some = some_stand c.args.n c.args.own c.args.plain.now c.requires.own c.requires.every in
    elim c.if-is_empty.branch [
      | then-is_empty+in_ok-push_only w ↦ rw w.words-is (w.in_ok-push_only.ensures some.0 some.1 (c.in_ok-words.ensures some.0 some.1)).ascending
      | else-is_empty w ↦ rw w.words-is (c.in_ok-words.ensures some.0 some.1).ascending
    ]

pub returns : goal.returns
returns c = λ ports stand.
    rw c.of.ensures (elim c.if-is_empty.branch [
      | then-is_empty+in_ok-push_only w ↦ rw w.words-is (w.in_ok-push_only.ensures ports stand (c.in_ok-words.ensures ports stand))
      | else-is_empty w ↦
          let ne = eqb-false _ _ (sym c.is_empty.ensures ∙ w.if-is_empty.false) in
          let items : List ℕ = c.in_ok-words.words.items in
          let same = length-map items start_of in
          let full : 0 < length (starts_of items) = omega (arith, ne, same, c.in_ok-words.words.ok) in
          rw w.words-is (partial_full _ _ ports c.requires.own _ (c.in_ok-words.ensures ports stand) full)
    ])

use Rattle.std.proofs.Common.{ℕ, ◌<◌, length, sym, subst, inl, inr, arith}
use Rattle.std.specs.Prelude.{slice_index, ◌≤◌}
use Rattle.std.proofs.lemmas.Bool.{cases_eq, cases_lt}
use Rattle.ir_model.specs.Subtree.{itself}
use Rattle.ir_numbering.proofs.Nested.{subtree_ends, parents_inside}
use Rattle.ir_numbering.proofs.parents.subtree_size.Goals as goal
use Rattle.ir_numbering.proofs.parents.subtree_size.Goals.{then-loop-end-test+else-parents-end, else-loop-end-test}

pub loop-end-smaller : goal.loop-end-smaller
loop-end-smaller c =
    let l = c.loop-end.invariant in
    let from = l.from in
    let h = c.loop-end-test.true in
    let some = (((c.requires.sizes.each c.loop-end.end (omega arith) h).places c.loop-end.end h).0 itself).1 in
    omega arith

pub loop-end-preserved : goal.loop-end-preserved
loop-end-preserved c =
    let l = c.loop-end.invariant in
    let from = l.from in
    let end = c.loop-end.end in
    let h = c.loop-end-test.true in
    let sub = c.requires.sizes.each end (omega arith) h in
    let some = ((sub.places end h).0 itself).1 in
    let within = sub.within in
    record {
      from = omega arith;
      to = omega arith;
      inside = λ k low high.
          elim (cases_lt k end) [
            | inl lt ↦ l.inside k low lt
            | inr ge ↦
                elim (cases_eq k end) [
                  | inl e ↦ subst (λ (x : ℕ). c.args.place ≤ slice_index c.args.parents.now x) (sym e) c.if-parents-end.true
                  | inr ne ↦ let p = parents_inside _ _ c.requires.nested end _ sub k (omega arith) high in omega arith
                ]
          ];
    }

pub returns : goal.returns
returns c =
    let l = c.loop-end.invariant in
    let last : c.loop-end.end < length c.args.parents.now → slice_index c.args.parents.now c.loop-end.end < c.args.place = λ h.
    elim c.loop-end-test.branch [
      | then-loop-end-test+else-parents-end w ↦ let f = w.if-parents-end.false in omega arith
      | else-loop-end-test w ↦ let f = w.loop-end-test.false in omega arith
    ] in
    subtree_ends _ _ c.requires.nested _ c.loop-end.end l.from l.to l.inside last

use Rattle.std.proofs.Common.{◌+◌, ◌<◌, ℕ, refl, sym, ◌∙◌, arith, w16}
use Rattle.std.specs.Int.{trailing_zeros}
use Rattle.ir_lanes.proofs.Batches.{next_in, next_marked, next_past, next_rest, marking_done}
use Rattle.ir_lanes.proofs.marks.put_word.Goals as goal
use Rattle.ir_lanes.proofs.marks.put_word.Goals.{then-d-len+in_ok-push, else-d-len}

pub loop-rest-preserved : goal.loop-rest-preserved
loop-rest-preserved c =
    let word = c.args.word in
    let first = c.args.first in
    let old = c.args.row.now.items in
    let before = c.args.marked.now.items in
    let bit : ℕ = c.loop-rest.bit in
    let rest : ℕ = c.loop-rest.rest in
    let row = c.loop-rest.row.items in
    let marked = c.loop-rest.marked.items in
    let skip : ℕ = trailing_zeros w16 rest in
    let i = c.loop-rest.invariant in
    let fits = c.ranges.word.fits in
    let some = c.loop-rest-test.true in
    let within : bit + skip < 16 = next_in word first bit skip rest old before row marked fits c.requires.clean i.rest some refl i.marking in
    let left = next_rest word first bit skip rest old before row marked fits c.requires.clean i.rest some refl i.marking in
    elim c.if-d-len.branch [
      | then-d-len+in_ok-push w ↦
          rw (w.row-is, w.marked-is, w.in_ok-push.ensures.items) (record {
            few = omega (arith, within);
            rest = left;
            marking = next_marked word first bit skip rest old before row marked fits c.requires.clean i.rest some refl i.marking (omega (arith, w.if-d-len.true, c.len.ensures, c.loop-rest.row.ok.0));
          })
      | else-d-len w ↦
          rw (w.row-is, w.marked-is) (record {
            few = omega (arith, within);
            rest = left;
            marking = next_past word first bit skip rest old before row marked fits c.requires.clean i.rest some refl i.marking (λ room. omega (arith, room, w.if-d-len.false, c.len.ensures, c.loop-rest.row.ok.0));
          })
    ]

pub returns : goal.returns
returns c =
    let i = c.loop-rest.invariant in
    marking_done c.args.word c.args.first c.loop-rest.bit c.args.row.now.items c.args.marked.now.items c.loop-rest.row.items c.loop-rest.marked.items i.few c.requires.clean
    (sym i.rest ∙ c.loop-rest-test.false) i.marking

use Rattle.std.proofs.Common.{◌≡◌, ◌≤◌, ◌<◌, ◌+◌, ◌∙◌, ℕ, ap, true, not, arith, take, length, filter}
use Rattle.ir_model.specs.Graph.{Name, names, among}
use Rattle.ir_graph.specs.View.{rows_view}
use Rattle.ir_model.specs.Places.{neighbors_at}
use Rattle.ir_graph.proofs.Edges.{left_passed, left_skipped, place_passed, there_then}
use Rattle.ir_graph.proofs.by_place.later_edge.Goals as goal
use Rattle.ir_graph.proofs.by_place.later_edge.Goals.{in-Some+else-left-eq0, in_default}

pub returns-then-left-eq0 : goal.returns-then-left-eq0
returns-then-left-eq0 c =
    place_passed {X = Name × ℕ} (λ e. not (among (take c.args.node (names (rows_view c.args.rows.now))) e.0)) (neighbors_at (rows_view c.args.rows.now) c.args.node) c.loop-i.i c.loop-i.left c.args.place (c.in-Some.edge.0.now, c.in-Some.edge.1)
    c.in-Some.ensures.there (ap not c.in-Some.ensures.later) c.if-left-eq0.true c.loop-i.invariant.counted

pub loop-i-preserved : goal.loop-i-preserved
loop-i-preserved c =
    let g = rows_view c.args.rows.now in
    let row = neighbors_at g c.args.node in
    let counted = λ (n : ℕ). n + length (filter {X = Name × ℕ} (λ e. not (among (take c.args.node (names g)) e.0)) (take (c.loop-i.i + 1) row)) in
    let within : c.loop-i.i < length row = omega arith in
    elim c.match-later_at.branch [
      | in-Some+else-left-eq0 w ↦
          (let some : 1 ≤ c.loop-i.left = omega arith in
          record {
            counted = ap counted w.left-is
                ∙ left_passed {X = Name × ℕ} (λ e. not (among (take c.args.node (names g)) e.0)) row c.loop-i.i c.loop-i.left c.args.place (w.in-Some.edge.0.now, w.in-Some.edge.1) w.in-Some.ensures.there (ap not w.in-Some.ensures.later) some c.loop-i.invariant.counted;
            end = c.loop-i.invariant.end;
          })
      | in_default w ↦
          (let here = there_then row c.loop-i.i within (λ e. among (take c.args.node (names g)) e.0 ≡ true) w.in_default.ensures.before in
          record {
            counted = ap counted w.left-is
                ∙ left_skipped {X = Name × ℕ} (λ e. not (among (take c.args.node (names g)) e.0)) row c.loop-i.i c.loop-i.left c.args.place here.0 here.1 (ap not here.2) c.loop-i.invariant.counted;
            end = c.loop-i.invariant.end;
          })
    ]

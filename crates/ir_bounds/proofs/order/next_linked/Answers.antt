use Rattle.std.proofs.Common.{◌≡◌, ◌<◌, ℕ, true, false, length, sym, ◌∙◌, arith}
use Rattle.ir_model.specs.Topology.{node_count, ports_of}
use Rattle.ir_bounds.proofs.Linked.{best_taken, best_marked, best_kept, best_most, some_yes, some_no}
use Rattle.ir_bounds.proofs.order.next_linked.Goals as goal
use Rattle.ir_bounds.proofs.order.next_linked.Goals.{then-not-marks-v+then-is_more_linked, else-not-marks-v, else-not-marks-v-via-then-not-marks-v+else-is_more_linked, else-not-marks-v-via-else-not-marks-v}

pub loop-v-preserved : goal.loop-v-preserved
loop-v-preserved c =
    let net = c.args.topology.now in
    let marks = c.args.marks.now in
    let v = c.loop-v.v in
    let n : ℕ = node_count net in
    let degree : ℕ → ℕ = λ x. length (ports_of net x) in
    let within : v < n = omega (arith, c.loop-v-test.true, c.requires) in
    elim c.if-not-marks-v.branch [
      | then-not-marks-v+then-is_more_linked w ↦
          rw w.best-is (best_taken degree marks n v within c.loop-v.best c.loop-v.invariant w.if-not-marks-v.true
          (some_yes c.loop-v.best w.is_more_linked.result (λ x. degree x < degree v) w.is_more_linked.ensures.some w.if-is_more_linked.true))
      | else-not-marks-v w ↦
          rw w.best-is
          (elim w.else-not-marks-v.branch [
            | else-not-marks-v-via-then-not-marks-v+else-is_more_linked w' ↦
                best_kept degree marks n v within c.loop-v.best c.loop-v.invariant
                (λ e. let yes_more = w'.is_more_linked.ensures.none e in let bad : false ≡ true = sym w'.if-is_more_linked.false ∙ yes_more in cc bad)
                (some_no c.loop-v.best w'.is_more_linked.result (λ x. degree x < degree v) w'.is_more_linked.ensures.some w'.if-is_more_linked.false)
            | else-not-marks-v-via-else-not-marks-v w' ↦ best_marked degree marks n v within c.loop-v.best c.loop-v.invariant w'.if-not-marks-v.false
          ])
    ]

pub returns-clause-none : goal.returns-clause-none
returns-clause-none c = λ e v lt. c.loop-v.invariant.none e v (omega (arith, lt, c.loop-v-test.false, c.requires))

pub returns-clause-node : goal.returns-clause-node
returns-clause-node c = c.loop-v.invariant.node

pub returns-clause-free : goal.returns-clause-free
returns-clause-free c = c.loop-v.invariant.free

pub returns-clause-most : goal.returns-clause-most
returns-clause-most c =
    best_most (λ x. length (ports_of c.args.topology.now x)) c.args.marks.now (node_count c.args.topology.now) c.loop-v.v c.loop-v.best c.loop-v.invariant (omega (arith, c.loop-v-test.false, c.requires))

use Rattle.std.proofs.Common.{◌≡◌, ◌<◌, ◌∙◌, ℕ, true, List, length, get_or, nat_lt, Option, Some, slice_get, refl, sym, ap, subst}
use Rattle.std.specs.List.{list_all}
use Rattle.std.proofs.lemmas.Option.{slice_get-get_or}
use Rattle.ir_model.specs.Topology.{node_count}
use Rattle.ir_model.specs.Plan.{Plan}
use Rattle.ir_trace.specs.Row.{Segment}
use Rattle.ir_trace.specs.Checked.{plan_at, IsFrontOfWalk}
use Rattle.ir_trace.specs.Leaving.{IsStray, LeavesIn}
use Rattle.ir_trace.specs.declared.departing.Departure.{Departure}
use Rattle.ir_trace.proofs.Inspecting.{part_facts}
use Rattle.ir_trace.proofs.departing.left_in.Goals as goal

-- the hops as they are read begin with a node
first_hop : (hops slice : List ℕ) (at : ℕ) → slice ≡ hops → 0 < length hops → get_or slice 0 0 ≡ at → slice_get hops 0 ≡ Some at
first_hop hops slice at same some is = slice_get-get_or hops 0 0 some ∙ ap (λ (u : ℕ). Some u) (ap (λ (hs : List ℕ). get_or hs 0 0) (sym same) ∙ is)

other_hop : (hops slice : List ℕ) (at : ℕ) → slice ≡ hops → 0 < length hops → (get_or slice 0 0 ≡ at → ⊥) → slice_get hops 0 ≡ Some at → ⊥
other_hop hops slice at same some other found =
    let e : Some (get_or hops 0 0) ≡ Some at = sym (slice_get-get_or hops 0 0 some) ∙ found in
    other (ap (λ (hs : List ℕ). get_or hs 0 0) same ∙ cc e)

-- what holds by a plan and some hops, by others that they are
by_same : (P : Plan → List ℕ → Type 0) (t s : Plan) (slice hops : List ℕ) → t ≡ s → slice ≡ hops → P t slice → P s hops
by_same P t s slice hops plan same h = subst (P s) same (subst (λ (p : Plan). P p slice) plan h)

pub first_stray-requires-clause-hops : goal.first_stray-requires-clause-hops
first_stray-requires-clause-hops c =
    let part : Segment = c.args.segment.now in
    by_same (λ (p : Plan) (hs : List ℕ). list_all (λ u. nat_lt u (node_count p.topology)) hs ≡ true) (plan_at c.args.plans.now part.epoch) c.plan_at.result.now part.hops c.as_slice-hops.result.now
    (sym (c.plan_at.ensures ∙ ap (λ (p : Segment). plan_at c.args.plans.now p.epoch) c.segment.view_is)) (sym (c.as_slice-hops.ensures.value ∙ ap (λ (p : Segment). p.hops) c.segment.view_is))
    (part_facts (node_count (plan_at c.args.plans.now part.epoch).topology) part c.requires.hops).within

pub first_stray-requires-clause-dest : goal.first_stray-requires-clause-dest
first_stray-requires-clause-dest c =
    subst (λ (p : Plan). c.args.dest < node_count p.topology) (sym (c.plan_at.ensures ∙ ap (λ (p : Segment). plan_at c.args.plans.now p.epoch) c.segment.view_is)) c.requires.dest

pub returns-then-hops-at : goal.returns-then-hops-at
returns-then-hops-at c =
    let part : Segment = c.args.segment.now in
    let some : 0 < length part.hops = (part_facts (node_count (plan_at c.args.plans.now part.epoch).topology) part c.requires.hops).some in
    let above : c.args.above < part.epoch = subst (λ (e : ℕ). c.args.above < e) (ap (λ (p : Segment). p.epoch) c.segment.view_is) c.if-segment-above.false in
    let hops : c.as_slice-hops.result.now ≡ part.hops = c.as_slice-hops.ensures.value ∙ ap (λ (p : Segment). p.hops) c.segment.view_is in
    (refl, above, refl, other_hop part.hops c.as_slice-hops.result.now c.args.at hops some c.if-hops-at.true)

pub returns-in_err-hop : goal.returns-in_err-hop
returns-in_err-hop c =
    let part : Segment = c.args.segment.now in
    let some : 0 < length part.hops = (part_facts (node_count (plan_at c.args.plans.now part.epoch).topology) part c.requires.hops).some in
    let above : c.args.above < part.epoch = subst (λ (e : ℕ). c.args.above < e) (ap (λ (p : Segment). p.epoch) c.segment.view_is) c.if-segment-above.false in
    let hops : c.as_slice-hops.result.now ≡ part.hops = c.as_slice-hops.ensures.value ∙ ap (λ (p : Segment). p.hops) c.segment.view_is in
    let plan : c.plan_at.result.now ≡ plan_at c.args.plans.now part.epoch = c.plan_at.ensures ∙ ap (λ (p : Segment). plan_at c.args.plans.now p.epoch) c.segment.view_is in
    let front : IsFrontOfWalk (plan_at c.args.plans.now part.epoch) c.args.dest part.hops =
    by_same (λ (p : Plan) (hs : List ℕ). IsFrontOfWalk p c.args.dest hs) c.plan_at.result.now (plan_at c.args.plans.now part.epoch) c.as_slice-hops.result.now part.hops plan hops c.in_err-hop.ensures.front in
    subst (λ (o : Option Departure). LeavesIn c.args.plans.now c.args.dest c.args.place part c.args.at c.args.above o) (sym c.from_residual.ensures)
    (above, first_hop part.hops c.as_slice-hops.result.now c.args.at hops some c.if-hops-at.false, front)

pub returns : goal.returns
returns c =
    let part : Segment = c.args.segment.now in
    let some : 0 < length part.hops = (part_facts (node_count (plan_at c.args.plans.now part.epoch).topology) part c.requires.hops).some in
    let above : c.args.above < part.epoch = subst (λ (e : ℕ). c.args.above < e) (ap (λ (p : Segment). p.epoch) c.segment.view_is) c.if-segment-above.false in
    let hops : c.as_slice-hops.result.now ≡ part.hops = c.as_slice-hops.ensures.value ∙ ap (λ (p : Segment). p.hops) c.segment.view_is in
    let plan : c.plan_at.result.now ≡ plan_at c.args.plans.now part.epoch = c.plan_at.ensures ∙ ap (λ (p : Segment). plan_at c.args.plans.now p.epoch) c.segment.view_is in
    let stray : IsStray (plan_at c.args.plans.now part.epoch) c.args.dest part.hops c.in_ok-hop.hop c.in_ok-hop.next =
    by_same (λ (p : Plan) (hs : List ℕ). IsStray p c.args.dest hs c.in_ok-hop.hop c.in_ok-hop.next) c.plan_at.result.now (plan_at c.args.plans.now part.epoch) c.as_slice-hops.result.now part.hops plan hops c.in_ok-hop.ensures.stray in
    (refl, above, first_hop part.hops c.as_slice-hops.result.now c.args.at hops some c.if-hops-at.false, stray)

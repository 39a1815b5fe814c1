use Rattle.std.proofs.Common.{◌≤◌, ◌*◌, List, ℕ, length, drop, replicate, slice_index, ap, sym, subst, ◌∙◌, arith}
use Rattle.std.proofs.lemmas.List.{take_at}
use Rattle.ir_lanes.specs.Lanes.{AreNear, far, in_lane}
use Rattle.ir_lanes.specs.Equation.{IsSourceStart}
use Rattle.ir_lanes.proofs.Starts.{near_none, far_none}
use Rattle.ir_lanes.proofs.outward.source_starts.Goals as goal

pub begin_all-requires-clause-near : goal.begin_all-requires-clause-near
begin_all-requires-clause-near c =
    let none = c.in_ok-starts.ensures.items_if_clones_equal (λ y e. e) ∙ ap (λ (n : ℕ). replicate (n * 16) 2147483648) c.nodes.ensures.count in
    subst (λ (xs : List ℕ). AreNear c.args.topology.now xs) (sym (c.as_mut_slice.ensures.value ∙ none)) (near_none c.args.topology.now)

pub begin_all-requires-clause-empty : goal.begin_all-requires-clause-empty
begin_all-requires-clause-empty c = λ k v k_in v_in.
    (let none = c.in_ok-starts.ensures.items_if_clones_equal (λ y e. e) ∙ ap (λ (n : ℕ). replicate (n * 16) 2147483648) c.nodes.ensures.count in
    subst (λ (xs : List ℕ). far ≤ in_lane xs k v) (sym (c.as_mut_slice.ensures.value ∙ none)) (far_none c.args.topology.now k v k_in v_in))

pub returns-clause-near : goal.returns-clause-near
returns-clause-near c =
    let now : List ℕ = c.begin_all.new.starts in
    let old : List ℕ = c.in_ok-starts.starts.items in
    let long = c.begin_all.auto.starts ∙ ap length c.as_mut_slice.ensures.value in
    let back = take_at now (drop (length now) old) c.in_ok-starts.starts.len (omega (arith, long, c.in_ok-starts.starts.ok.0)) in
    subst (λ (xs : List ℕ). AreNear c.args.topology.now xs) (sym back) c.begin_all.ensures.near

pub returns-clause-starts : goal.returns-clause-starts
returns-clause-starts c = λ k k_in.
    (let now : List ℕ = c.begin_all.new.starts in
    let old : List ℕ = c.in_ok-starts.starts.items in
    let long = c.begin_all.auto.starts ∙ ap length c.as_mut_slice.ensures.value in
    let back = take_at now (drop (length now) old) c.in_ok-starts.starts.len (omega (arith, long, c.in_ok-starts.starts.ok.0)) in
    subst (λ (xs : List ℕ). IsSourceStart c.args.topology.now c.args.unit (slice_index c.args.sources.now k) (in_lane xs k)) (sym back) (c.begin_all.ensures.starts k k_in))

use Rattle.std.proofs.Common.{◌≤◌, ◌*◌, List, ℕ, length, drop, replicate, slice_index, ap, sym, subst, ◌∙◌, arith}
use Rattle.std.proofs.lemmas.List.{take_at}
use Rattle.ir_lanes.specs.Lanes.{AreNear, far, in_lane}
use Rattle.ir_lanes.specs.Equation.{IsEndStart}
use Rattle.ir_lanes.proofs.Starts.{near_none, far_none}
use Rattle.ir_lanes.proofs.inward.end_starts.Goals as goal

pub put_ends-requires-clause-near : goal.put_ends-requires-clause-near
put_ends-requires-clause-near c =
    let none = c.in_ok-starts.ensures.items_if_clones_equal (λ y e. e) ∙ ap (λ (n : ℕ). replicate (n * 16) 2147483648) c.nodes.ensures.count in
    subst (λ (xs : List ℕ). AreNear c.args.topology.now xs) (sym (c.as_mut_slice.ensures.value ∙ none)) (near_none c.args.topology.now)

pub put_ends-requires-clause-empty : goal.put_ends-requires-clause-empty
put_ends-requires-clause-empty c = λ k v k_in v_in.
    (let none = c.in_ok-starts.ensures.items_if_clones_equal (λ y e. e) ∙ ap (λ (n : ℕ). replicate (n * 16) 2147483648) c.nodes.ensures.count in
    subst (λ (xs : List ℕ). far ≤ in_lane xs k v) (sym (c.as_mut_slice.ensures.value ∙ none)) (far_none c.args.topology.now k v k_in v_in))

pub returns-clause-near : goal.returns-clause-near
returns-clause-near c =
    let now : List ℕ = c.put_ends.new.starts in
    let old : List ℕ = c.in_ok-starts.starts.items in
    let long = c.put_ends.auto.starts ∙ ap length c.as_mut_slice.ensures.value in
    let back = take_at now (drop (length now) old) c.in_ok-starts.starts.len (omega (arith, long, c.in_ok-starts.starts.ok.0)) in
    subst (λ (xs : List ℕ). AreNear c.args.topology.now xs) (sym back) c.put_ends.ensures.near

pub returns-clause-starts : goal.returns-clause-starts
returns-clause-starts c = λ k k_in.
    (let now : List ℕ = c.put_ends.new.starts in
    let old : List ℕ = c.in_ok-starts.starts.items in
    let long = c.put_ends.auto.starts ∙ ap length c.as_mut_slice.ensures.value in
    let back = take_at now (drop (length now) old) c.in_ok-starts.starts.len (omega (arith, long, c.in_ok-starts.starts.ok.0)) in
    subst (λ (xs : List ℕ). IsEndStart c.args.topology.now (slice_index c.args.ends.now k) (in_lane xs k)) (sym back) (c.put_ends.ensures.starts k k_in))

use Rattle.std.proofs.Common.{◌≤◌, ◌+◌, ◌-◌, ◌/◌, ℕ, slice_index, arith, refl, inl, inr, subst, sym}
use Rattle.std.proofs.lemmas.Bool.{iff_false}
use Rattle.ir_model.specs.Row.{labels}
use Rattle.ir_lookup.proofs.HalvingLemmas.{lower_half, upper_half, few_compared, all_compared, place_found, IsHalved, all_left, count_told}
use Rattle.ir_lookup.proofs.halving.place_counted.Goals as goal

pub is_above-requires-clause-room : goal.is_above-requires-clause-room
is_above-requires-clause-room c =
    let fits = c.len-high.type_inv in
    let e = c.len-high.ensures.len in
    few_compared _ _ _ _ _ c.halves.invariant c.halves-test.true (omega arith)

pub halves-preserved-then-is_above : goal.halves-preserved-then-is_above
halves-preserved-then-is_above c =
    let above = c.is_above.ensures.above.0 c.if-is_above.true in
    rw c.is_above.ensures.counted (lower_half _ c.len-high.ensures.ascending _ _ _ _ _ c.halves.invariant c.halves-test.true refl above)

pub halves-preserved : goal.halves-preserved
halves-preserved c =
    let not_above = iff_false c.is_above.ensures.above c.if-is_above.false in
    let middle = c.halves.low + (c.halves.high - c.halves.low) / 2 in
    let below : slice_index (labels c.args.starts.now) middle ≤ c.args.d = omega (arith, not_above) in
    rw c.is_above.ensures.counted (upper_half _ c.len-high.ensures.ascending _ _ _ _ _ c.halves.invariant c.halves-test.true refl below)

pub returns-then-low-eq0-clause-halves : goal.returns-then-low-eq0-clause-halves
returns-then-low-eq0-clause-halves c = all_compared c.args.starts.now c.args.d _ _ _ c.halves.invariant (omega arith)

pub returns-else-low-eq0-clause-halves : goal.returns-else-low-eq0-clause-halves
returns-else-low-eq0-clause-halves c = all_compared c.args.starts.now c.args.d _ _ _ c.halves.invariant (omega arith)

pub returns-then-low-eq0-clause-place : goal.returns-then-low-eq0-clause-place
returns-then-low-eq0-clause-place c =
    place_found c.args.starts.now c.requires.some c.args.d _ _ _ _ c.halves.invariant c.halves-test.false (inl (c.if-low-eq0.true, omega arith))

pub returns-else-low-eq0-clause-place : goal.returns-else-low-eq0-clause-place
returns-else-low-eq0-clause-place c =
    place_found c.args.starts.now c.requires.some c.args.d _ _ _ _ c.halves.invariant c.halves-test.false (inr (omega arith, refl))

pub returns-then-low-eq0-clause-count : goal.returns-then-low-eq0-clause-count
returns-then-low-eq0-clause-count c = count_told c.args.starts.now c.args.d _ _ _ c.halves.invariant c.halves-test.false

pub returns-else-low-eq0-clause-count : goal.returns-else-low-eq0-clause-count
returns-else-low-eq0-clause-count c = count_told c.args.starts.now c.args.d _ _ _ c.halves.invariant c.halves-test.false

pub returns-then-low-eq0-clause-ascending : goal.returns-then-low-eq0-clause-ascending
returns-then-low-eq0-clause-ascending c = c.len-high.ensures.ascending

pub returns-else-low-eq0-clause-ascending : goal.returns-else-low-eq0-clause-ascending
returns-else-low-eq0-clause-ascending c = c.len-high.ensures.ascending

pub halves-init : goal.halves-init
halves-init c =
    subst (λ (count : ℕ). IsHalved c.args.starts.now c.args.d 0 c.len-high.result count) (sym c.requires.none)
    (subst (λ (high : ℕ). IsHalved c.args.starts.now c.args.d 0 high 0) (sym c.len-high.ensures.len) (all_left c.args.starts.now c.args.d c.requires.some))

pub is_above-requires-clause-place : goal.is_above-requires-clause-place
is_above-requires-clause-place c =
    let some = c.halves-test.true in
    omega (arith, c.halves.invariant.within)

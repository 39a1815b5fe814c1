use Rattle.std.proofs.Common.{◌≡◌, ◌≤◌, ◌∙◌, ℕ, List, Option, length, subst, sym, arith}
use Rattle.std.specs.Prelude.{IfOk}
use Rattle.ir_prefix.specs.Ranges.{IsFewestRanges, TellsPorts, ranges_of}
use Rattle.ir_exports.proofs.RangeTexts.{ports_many}
use Rattle.ir_exports.proofs.ranges.ranges_of.Goals as goal

pub label_ranges-requires : goal.label_ranges-requires
label_ranges-requires c =
    let is = c.invariant.ensures.plan in
    let few = is.topology.few_nodes in
    let many = ports_many c.args.plan.now is c.args.u in
    subst (λ (ports : List (Option ℕ)). length ports ≤ 65536) (sym (c.as_slice.ensures.value ∙ c.in_ok-ports.ensures)) (omega (arith, few, many))

pub returns-clause-ranges : goal.returns-clause-ranges
returns-clause-ranges c =
    subst (λ (ports : List (Option ℕ)). IfOk c.label_ranges.result (λ set. set.items ≡ ranges_of ports)) (c.as_slice.ensures.value ∙ c.in_ok-ports.ensures) c.label_ranges.ensures.ranges

pub returns-clause-tells : goal.returns-clause-tells
returns-clause-tells c =
    subst (λ (ports : List (Option ℕ)). IfOk c.label_ranges.result (λ set. TellsPorts ports set.items)) (c.as_slice.ensures.value ∙ c.in_ok-ports.ensures) c.label_ranges.ensures.tells

pub returns-clause-fewest : goal.returns-clause-fewest
returns-clause-fewest c =
    subst (λ (ports : List (Option ℕ)). IfOk c.label_ranges.result (λ set. IsFewestRanges ports (length set.items))) (c.as_slice.ensures.value ∙ c.in_ok-ports.ensures)
    c.label_ranges.ensures.fewest

pub returns-clause-few : goal.returns-clause-few
returns-clause-few c =
    let many = ports_many c.args.plan.now c.invariant.ensures.plan c.args.u in
    subst (λ (n : ℕ). IfOk c.label_ranges.result (λ set. length set.items ≤ n)) many
    (subst (λ (ports : List (Option ℕ)). IfOk c.label_ranges.result (λ set. length set.items ≤ length ports)) (c.as_slice.ensures.value ∙ c.in_ok-ports.ensures) c.label_ranges.ensures.few)

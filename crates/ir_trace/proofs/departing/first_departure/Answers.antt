use Rattle.std.proofs.Common.{◌≡◌, ◌∙◌, true, false, length, refl, sym, ap}
use Rattle.ir_trace.specs.Row.{TraceRow}
use Rattle.ir_trace.specs.Inspect.{are_known}
use Rattle.ir_trace.proofs.Parts.{unknown_told, parts_over, part_told, fate_told}
use Rattle.ir_trace.proofs.departing.first_departure.Goals as goal

pub returns-then-not-are_known : goal.returns-then-not-are_known
returns-then-not-are_known c =
    let parts = c.as_slice-segments.ensures.value ∙ ap (λ (r : TraceRow). r.parts) c.row.view_is in
    let unknown : are_known (length c.args.plans.now) c.args.row.now.parts ≡ false = ap (are_known (length c.args.plans.now)) (sym parts) ∙ sym c.if-not-are_known.ensures in
    unknown_told c.args.plans.now c.args.row.now c.requires unknown

pub first_left-requires : goal.first_left-requires
first_left-requires c =
    let parts = c.as_slice-segments.ensures.value ∙ ap (λ (r : TraceRow). r.parts) c.row.view_is in
    let dest = ap (λ (r : TraceRow). r.dest) c.row.view_is in
    let known : are_known (length c.args.plans.now) c.args.row.now.parts ≡ true = ap (are_known (length c.args.plans.now)) (sym parts) ∙ sym c.if-not-are_known.ensures in
    rw (parts, dest) (parts_over c.args.plans.now c.args.row.now c.requires known)

pub returns-in-Some : goal.returns-in-Some
returns-in-Some c =
    let parts = c.as_slice-segments.ensures.value ∙ ap (λ (r : TraceRow). r.parts) c.row.view_is in
    let dest = ap (λ (r : TraceRow). r.dest) c.row.view_is in
    let source = ap (λ (r : TraceRow). r.source) c.row.view_is in
    let known : are_known (length c.args.plans.now) c.args.row.now.parts ≡ true = ap (are_known (length c.args.plans.now)) (sym parts) ∙ sym c.if-not-are_known.ensures in
    part_told c.args.plans.now c.args.row.now c.requires known c.in-Some.left (rw (parts, dest, source) at c.in-Some.ensures.left)

pub returns : goal.returns
returns c =
    let parts = c.as_slice-segments.ensures.value ∙ ap (λ (r : TraceRow). r.parts) c.row.view_is in
    let dest = ap (λ (r : TraceRow). r.dest) c.row.view_is in
    let source = ap (λ (r : TraceRow). r.source) c.row.view_is in
    let fate = ap (λ (r : TraceRow). r.fate) c.row.view_is in
    let known : are_known (length c.args.plans.now) c.args.row.now.parts ≡ true = ap (are_known (length c.args.plans.now)) (sym parts) ∙ sym c.if-not-are_known.ensures in
    rw (c.left_by_fate.ensures, c.last_segment.ensures, parts, dest, fate) (fate_told c.args.plans.now c.args.row.now c.requires known (rw (parts, dest, source) at c.in_default.ensures.joined) _ refl)

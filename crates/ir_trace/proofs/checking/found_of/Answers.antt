use Rattle.std.proofs.Common.{◌≡◌, ◌==◌, ◌∙◌, true, false, length, nat_le, refl, ap, sym}
use Rattle.std.specs.List.{list_all}
use Rattle.std.proofs.lemmas.Bool.{ne_eqb, eq-eqb}
use Rattle.ir_trace.specs.Row.{Segment, TraceRow}
use Rattle.ir_trace.specs.Inspect.{are_known, has_arrived, segments_weight}
use Rattle.ir_trace.proofs.Determined.{left_finds, rest_finds, rest_short}
use Rattle.ir_trace.proofs.checking.found_of.Goals as goal

pub first_departure-requires : goal.first_departure-requires
first_departure-requires c = record { topology = c.args.topology.now; plans_are = c.requires.over; row_is = c.requires.row }

pub returns-in-Some : goal.returns-in-Some
returns-in-Some c = sym (left_finds c.args.topology.now c.args.plans.now c.args.row.now c.requires.over c.requires.row c.in-Some.field-0 c.in-Some.ensures)

pub weight_of-requires-clause-short : goal.weight_of-requires-clause-short
weight_of-requires-clause-short c =
    let parts = c.as_slice-segments.ensures.value ∙ ap (λ (r : TraceRow). r.parts) c.row.view_is in
    let known : are_known (length c.args.plans.now) c.args.row.now.parts ≡ true = ap (are_known (length c.args.plans.now)) (sym parts) ∙ sym c.if-not-are_known.ensures in
    ap (list_all (λ (part : Segment). nat_le (length part.hops) 32768)) parts ∙ rest_short c.args.topology.now c.args.plans.now c.args.row.now c.requires.over c.requires.row known c.in_default.ensures

pub returns-then-not-has_arrived : goal.returns-then-not-has_arrived
returns-then-not-has_arrived c =
    let row = c.args.row.now in
    let parts = c.as_slice-segments.ensures.value ∙ ap (λ (r : TraceRow). r.parts) c.row.view_is in
    let dest = ap (λ (r : TraceRow). r.dest) c.row.view_is in
    let fate = ap (λ (r : TraceRow). r.fate) c.row.view_is in
    let known : are_known (length c.args.plans.now) row.parts ≡ true = ap (are_known (length c.args.plans.now)) (sym parts) ∙ sym c.if-not-are_known.ensures in
    let arrived : has_arrived row.dest row.fate row.parts ≡ false = sym (rw (c.last_segment-last.ensures, parts, dest, fate) at c.if-not-has_arrived.ensures) in
    sym (rest_finds c.args.topology.now c.args.plans.now row c.requires.over c.requires.row known c.in_default.ensures false _ arrived refl)

pub returns-then-weight_of-row : goal.returns-then-weight_of-row
returns-then-weight_of-row c =
    let row = c.args.row.now in
    let parts = c.as_slice-segments.ensures.value ∙ ap (λ (r : TraceRow). r.parts) c.row.view_is in
    let dest = ap (λ (r : TraceRow). r.dest) c.row.view_is in
    let fate = ap (λ (r : TraceRow). r.fate) c.row.view_is in
    let known : are_known (length c.args.plans.now) row.parts ≡ true = ap (are_known (length c.args.plans.now)) (sym parts) ∙ sym c.if-not-are_known.ensures in
    let arrived : has_arrived row.dest row.fate row.parts ≡ true = sym (rw (c.last_segment-last.ensures, parts, dest, fate) at c.if-not-has_arrived.ensures) in
    let weight : c.row.inside.weight ≡ row.weight = ap (λ (r : TraceRow). r.weight) c.row.view_is in
    let sum : c.weight_of.result ≡ segments_weight c.args.topology.now row.parts = c.weight_of.ensures ∙ ap (segments_weight c.args.topology.now) parts in
    let weighs : (segments_weight c.args.topology.now row.parts == row.weight) ≡ false = ne_eqb (segments_weight c.args.topology.now row.parts) row.weight (λ e. c.if-weight_of-row.true (sum ∙ e ∙ sym weight)) in
    sym (rest_finds c.args.topology.now c.args.plans.now row c.requires.over c.requires.row known c.in_default.ensures true false arrived weighs)

pub returns : goal.returns
returns c =
    let row = c.args.row.now in
    let parts = c.as_slice-segments.ensures.value ∙ ap (λ (r : TraceRow). r.parts) c.row.view_is in
    let dest = ap (λ (r : TraceRow). r.dest) c.row.view_is in
    let fate = ap (λ (r : TraceRow). r.fate) c.row.view_is in
    let known : are_known (length c.args.plans.now) row.parts ≡ true = ap (are_known (length c.args.plans.now)) (sym parts) ∙ sym c.if-not-are_known.ensures in
    let arrived : has_arrived row.dest row.fate row.parts ≡ true = sym (rw (c.last_segment-last.ensures, parts, dest, fate) at c.if-not-has_arrived.ensures) in
    let weight : c.row.inside.weight ≡ row.weight = ap (λ (r : TraceRow). r.weight) c.row.view_is in
    let sum : c.weight_of.result ≡ segments_weight c.args.topology.now row.parts = c.weight_of.ensures ∙ ap (segments_weight c.args.topology.now) parts in
    let weighs : (segments_weight c.args.topology.now row.parts == row.weight) ≡ true = eq-eqb (segments_weight c.args.topology.now row.parts) row.weight (sym sum ∙ c.if-weight_of-row.false ∙ weight) in
    sym (rest_finds c.args.topology.now c.args.plans.now row c.requires.over c.requires.row known c.in_default.ensures true true arrived weighs)

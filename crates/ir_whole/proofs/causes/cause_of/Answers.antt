use Rattle.std.proofs.Common.{◌≡◌, ◌∙◌, ℕ, Bool, nat_le, sym, ap}
use Rattle.std.specs.List.{list_any}
use Rattle.ir_trace.specs.Row.{TraceRow}
use Rattle.ir_trace.specs.declared.row.RowFate.TheVariants.{Retired, Down, Full}
use Rattle.ir_whole.specs.declared.finding.WholeKind.TheVariants.{NeverRetired, NeverDown, NeverFull}
use Rattle.ir_whole.specs.Judged.{retires_above, end_epoch, none_if, cause_by}
use Rattle.ir_whole.proofs.causes.cause_of.Goals as goal

pub returns-in-Retired : goal.returns-in-Retired
returns-in-Retired c =
    let fate : c.args.row.now.fate ≡ Retired = sym (ap (λ (r : TraceRow). r.fate) c.row.view_is) ∙ c.in-Retired.is in
    c.none_if.ensures
    ∙ ap (λ (b : Bool). none_if b NeverRetired) (c.is_retired.ensures ∙ ap (λ (e : ℕ). list_any (retires_above e) c.args.steps.now) c.end_epoch.ensures)
    ∙ ap (cause_by c.args.topology.now c.args.steps.now c.args.capacity c.args.trace.now (end_epoch c.args.row.now)) (sym fate)

pub returns-in-Down : goal.returns-in-Down
returns-in-Down c =
    let fate : c.args.row.now.fate ≡ Down c.in-Down.low c.in-Down.high = sym (ap (λ (r : TraceRow). r.fate) c.row.view_is) ∙ c.in-Down.is in
    c.none_if-in-Down.ensures
    ∙ ap (λ (b : Bool). none_if b NeverDown) c.is_taken_down.ensures
    ∙ ap (cause_by c.args.topology.now c.args.steps.now c.args.capacity c.args.trace.now (end_epoch c.args.row.now)) (sym fate)

pub returns-in-Full : goal.returns-in-Full
returns-in-Full c =
    let fate : c.args.row.now.fate ≡ Full c.in-Full.from c.in-Full.to = sym (ap (λ (r : TraceRow). r.fate) c.row.view_is) ∙ c.in-Full.is in
    c.none_if-in-Full.ensures
    ∙ ap (λ (n : ℕ). none_if (nat_le c.args.capacity n) NeverFull) c.passing.ensures
    ∙ ap (cause_by c.args.topology.now c.args.steps.now c.args.capacity c.args.trace.now (end_epoch c.args.row.now)) (sym fate)

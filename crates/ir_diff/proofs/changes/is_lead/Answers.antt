use Rattle.std.proofs.Common.{◌∙◌, sym}
use Rattle.std.proofs.lemmas.Bool.{both_ways, false_from_ne_true}
use Rattle.ir_diff.specs.Changes.{has_lead, has_start}
use Rattle.ir_diff.proofs.Cuts.{lead_at_cut}
use Rattle.ir_diff.proofs.Members.{lead_start}
use Rattle.ir_diff.proofs.changes.is_lead.Goals as goal

pub returns-then-is_start : goal.returns-then-is_start
returns-then-is_start c = lead_at_cut c.args.row.now c.requires.ascending c.args.lead c.args.place (c.is_start.ensures.place c.if-is_start.true)

pub returns-else-is_start : goal.returns-else-is_start
returns-else-is_start c =
    c.if-is_start.false
    ∙ sym (false_from_ne_true (has_lead c.args.row.now c.args.lead) (λ t.
    both_ways (has_start c.args.row.now c.args.lead.start) (sym c.is_start.ensures.value ∙ c.if-is_start.false) (lead_start c.args.row.now c.args.lead t)))

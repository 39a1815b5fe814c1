use Rattle.ir_diff.proofs.Laws.{same_row, they_are_fewest, they_change}
use Rattle.ir_patches.specs.DiffText.{changes_at, new_leads, old_leads}
use Rattle.ir_patches.proofs.Leads.{differs, new_up, old_up}
use Rattle.ir_patches.proofs.laws.lines_make_the_new_rows.Goals as goal

pub returns-clause-differs : goal.returns-clause-differs
returns-clause-differs c p u named u_in =
    differs (changes_at p u) (old_leads p u) (new_leads p u) (same_row (old_leads p u) (new_leads p u) (old_up p named u) (new_up p named u u_in))

pub returns-clause-patched : goal.returns-clause-patched
returns-clause-patched c p u named u_in = they_change (old_leads p u) (new_leads p u) (old_up p named u) (new_up p named u u_in)

pub returns-clause-fewest : goal.returns-clause-fewest
returns-clause-fewest c p u named u_in = they_are_fewest (old_leads p u) (new_leads p u) (old_up p named u) (new_up p named u u_in)

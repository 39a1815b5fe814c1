-- The lines of notices, and what an outcome says.
use Rattle.std.specs.Prelude.{◌≡◌, ◌≢◌, ℕ, Bool, true, List, Option, None, Some}
use Rattle.ir_cli.specs.declared.ending.Ending.{Ending}
use Rattle.ir_cli.specs.declared.ending.Ending.TheVariants as endings
use Rattle.ir_cli.specs.declared.notice.Notice.{Notice}
use Rattle.ir_cli.specs.declared.notice.Notice.TheVariants as notices
use Rattle.ir_cli.specs.declared.outcome.Told.{Told}
use Rattle.ir_cli.specs.declared.outcome.Told.TheVariants.{Steps, Fault}
use Rattle.ir_cli.specs.Answer.{Answer, Found, printed}
use Rattle.ir_cli.specs.Lines.{topology_line, new_line, new_node_line, gone_line, new_opening_line, script_line, numbering_line, opening_line, finding_line, whole_line, ok_line, steps_text, unreadable_line, too_large_line, unwritable_line, out_of_memory_line, no_thread_line}

-- the line of a notice
abbrev pub notice_line : Notice → List ℕ
notice_line (notices.Unreadable source) = unreadable_line source
notice_line (notices.TooLarge source) = too_large_line source
notice_line (notices.Topology error) = topology_line (error.line, error.kind)
notice_line (notices.New error) = new_line (error.line, error.kind)
notice_line (notices.NewNode u) = new_node_line
notice_line (notices.Gone u) = gone_line
notice_line (notices.NewOpening error) = new_opening_line error
notice_line (notices.Script error) = script_line (error.line, error.kind)
notice_line (notices.Numbering fault) = numbering_line (fault.line, fault.kind)
notice_line (notices.Opening error) = opening_line error
notice_line (notices.Finding finding departure) = finding_line finding
notice_line (notices.Beside finding) = whole_line finding
notice_line (notices.Sound rows) = ok_line rows
notice_line notices.Unwritable = unwritable_line
notice_line notices.NoMemory = out_of_memory_line
notice_line notices.NoThread = no_thread_line

-- the lines of faults of what was reported
abbrev pub told_text : Told → List ℕ
told_text (Steps steps) = steps_text steps.items
told_text (Fault notice) = notice_line notice

-- What a check found is what the output was given, in the form that is asked for; of a run that ended with a finding there is
-- something that was found.
abbrev pub ShowsFound : (Answer → Answer) → Option Notice → Ending → (out : Bool → List ℕ → Type 0) → Type 0
ShowsFound form None ending out = ending ≢ endings.Found
ShowsFound form (Some notice) ending out = (text : List ℕ) × (printed (form (Found (notice_line notice))) ≡ Some text) × out true text

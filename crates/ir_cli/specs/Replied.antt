-- How a run ends with an answer.
use Rattle.std.specs.Prelude.{◌≡◌, ℕ, Bool, true, false, List, []}
use Rattle.ir_cli.specs.declared.ending.Ending.{Ending}
use Rattle.ir_cli.specs.declared.ending.Ending.TheVariants as endings
use Rattle.ir_cli.specs.Answer.{Answer, Ran, Found, Refused, NoThread}
use Rattle.ir_cli.specs.declared.read.Source.{Source}
use Rattle.ir_streams.specs.declared.reading.NoInput.{NoInput}
use Rattle.ir_streams.specs.declared.reading.NoInput.TheVariants.{Unreadable, TooLarge, NoMemory}
use Rattle.ir_cli.specs.Lines.{unwritable_line, unreadable_line, too_large_line, out_of_memory_line, no_thread_line}

-- what the writers were given of an answer; where memory for its lines was refused, that is reported
abbrev pub RepliesAs : Ending → Answer → (out : Bool → List ℕ → Type 0) (unused : Type 0) (told : List ℕ → Type 0) → Type 0
RepliesAs endings.NoMemory answer out unused told = unused × told out_of_memory_line
RepliesAs endings.Done (Ran trace refusals) out unused told = out true trace × told refusals
RepliesAs endings.Unwritable (Ran trace refusals) out unused told = out false trace × told unwritable_line
RepliesAs endings.Found (Found line) out unused told = out true line × told []
RepliesAs endings.Unwritable (Found line) out unused told = out false line × told unwritable_line
RepliesAs endings.Refused (Refused line) out unused told = unused × told line
RepliesAs endings.NoThread NoThread out unused told = unused × told no_thread_line
RepliesAs ending answer out unused told = ⊥

-- what is reported of an input that was not read
abbrev pub UnreadAs : Source → Ending → NoInput → (told : List ℕ → Type 0) → Type 0
UnreadAs source ending Unreadable told = (ending ≡ endings.Unreadable) × told (unreadable_line source)
UnreadAs source ending TooLarge told = (ending ≡ endings.TooLarge) × told (too_large_line source)
UnreadAs source ending NoMemory told = (ending ≡ endings.NoMemory) × told out_of_memory_line

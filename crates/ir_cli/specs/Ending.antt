-- How a run of the program ends: its status, what was read, and what it wrote.
use Rattle.std.specs.Prelude.{◌≡◌, ◌⊎◌, ◌==◌, ◌||◌, ◌&&◌, ℕ, Bool, true, false, not, List, [], Some}
use Rattle.ir_streams.specs.declared.reading.NoInput.{NoInput}
use Rattle.ir_streams.specs.declared.reading.NoInput.TheVariants as unread
use Rattle.ir_cli.specs.declared.ending.Ending.{Ending}
use Rattle.ir_cli.specs.declared.ending.Ending.TheVariants as endings
use Rattle.ir_cli.specs.declared.read.Source.{Source}
use Rattle.ir_cli.specs.Answer.{Answer, Ran, Found, Refused, NoThread, printed}
use Rattle.ir_cli.specs.Lines.{unreadable_line, too_large_line, unwritable_line, out_of_memory_line, no_thread_line}

-- the exit status
abbrev pub status_of : Ending → ℕ
status_of endings.Done = 0
status_of endings.Unreadable = 1
status_of endings.TooLarge = 1
status_of endings.Refused = 1
status_of endings.Found = 1
status_of endings.Unwritable = 1
status_of endings.NoMemory = 3
status_of endings.NoThread = 3

-- the run ended with status 0, or with status 1 and nothing reported on standard error: a finding is in its output
abbrev pub is_whole : ℕ → Bool → Bool
is_whole status is_told = status == 0 || status == 1 && not is_told

-- What a run comes to by the answers to its texts. `read` says that these are the texts of all inputs, and `stops` that
-- the reading stopped at this source, and why. `out` says what the writer of the output was given, and whether it took
-- all of it; `unused` says that it was given nothing. `told` says what the writer of faults was given, where one that
-- fails is passed over.
abbrev pub EndsAs : (List (List ℕ) → Answer → Type 0) → Ending → (read : List (List ℕ) → Type 0) (stops : Source → NoInput → Type 0) (out : Bool → List ℕ → Type 0) (unused : Type 0) (told : List ℕ → Type 0) → Type 0
EndsAs answers endings.Done read stops out unused told =
    (texts : List (List ℕ)) × (text : List ℕ) × (refused : List ℕ) × read texts × answers texts (Ran text refused) × out true text × told refused
EndsAs answers endings.Unreadable read stops out unused told = (source : Source) × stops source unread.Unreadable × unused × told (unreadable_line source)
EndsAs answers endings.TooLarge read stops out unused told = (source : Source) × stops source unread.TooLarge × unused × told (too_large_line source)
EndsAs answers endings.Refused read stops out unused told =
    (texts : List (List ℕ)) × (line : List ℕ) × read texts × answers texts (Refused line) × unused × told line
EndsAs answers endings.Found read stops out unused told =
    (texts : List (List ℕ)) × (line : List ℕ) × read texts × answers texts (Found line) × out true line × told []
EndsAs answers endings.Unwritable read stops out unused told =
    (texts : List (List ℕ)) × (answer : Answer) × (text : List ℕ) × read texts × answers texts answer × (printed answer ≡ Some text) × out false text × told unwritable_line
EndsAs answers endings.NoMemory read stops out unused told =
    (((texts : List (List ℕ)) × read texts) ⊎ ((source : Source) × stops source unread.NoMemory)) × unused × told out_of_memory_line
EndsAs answers endings.NoThread read stops out unused told = (texts : List (List ℕ)) × read texts × answers texts NoThread × unused × told no_thread_line

-- A run with this status ends in one of the ways that have it.
abbrev pub Ends : (List (List ℕ) → Answer → Type 0) → ℕ → (read : List (List ℕ) → Type 0) (stops : Source → NoInput → Type 0) (out : Bool → List ℕ → Type 0) (unused : Type 0) (told : List ℕ → Type 0) → Type 0
Ends answers status read stops out unused told = (ending : Ending) × (status ≡ status_of ending) × EndsAs answers ending read stops out unused told

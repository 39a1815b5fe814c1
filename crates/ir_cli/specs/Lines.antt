-- The lines that report a refusal, and an input that was not read.
use Rattle.std.specs.Prelude.{ℕ, ◌-◌, List, [], ◌∷◌, ◌++◌, Result, Ok, Err, codes, decimal, flat_map, slice_index_or}
use Rattle.ir_model.specs.declared.Fault.{Fault}
use Rattle.ir_adjlist.specs.Told as texts
use Rattle.ir_core.specs.Codes.{open_code, refusal_code}
use Rattle.ir_core.specs.declared.event.OpenError.{OpenError}
use Rattle.ir_core.specs.declared.event.Reply.{Reply}
use Rattle.ir_core.specs.declared.event.Refused.{Refused}
use Rattle.ir_trace.specs.Codes as findings
use Rattle.ir_trace.specs.declared.finding.Finding.{Finding}
use Rattle.ir_trace.specs.declared.finding.FindingKind.{FindingKind}
use Rattle.ir_trace.specs.Rows.{spaced}
use Rattle.ir_whole.specs.Codes.{whole_code}
use Rattle.ir_whole.specs.declared.finding.WholeFinding.{WholeFinding}
use Rattle.ir_whole.specs.declared.finding.WholeKind.{WholeKind}
use Rattle.ir_script.specs.Order.{order_fault_code}
use Rattle.ir_script.specs.declared.order_fault.OrderFaultKind.{OrderFaultKind}
use Rattle.ir_script.specs.Script as scripts
use Rattle.ir_script.specs.declared.fault.ScriptFault.{ScriptFault}
use Rattle.ir_cli.specs.declared.read.Source.{Source}
use Rattle.ir_cli.specs.declared.read.Source.TheVariants.{Input, Topology, New, Script, Trace, Numbering}

-- `WHAT LINE NAME`
abbrev pub numbered_line : List ℕ → ℕ → List ℕ → List ℕ
numbered_line what line name = what ++ spaced (decimal line) ++ spaced name ++ 10 ∷ []

-- the word with this number, counted from 1
abbrev pub word_of : List (List ℕ) → ℕ → List ℕ
word_of words number = slice_index_or words (number - 1) []

-- the words of the faults of a topology, in the order of their numbers
abbrev pub fault_words : List (List ℕ)
fault_words =
    codes "BadByte" ∷ codes "BadName" ∷ codes "BadRow" ∷ codes "BadWeight" ∷ codes "TooManyNodes"
    ∷ codes "TooManyEdges" ∷ codes "NoMemory" ∷ []

abbrev pub fault_name : Fault → List ℕ
fault_name kind = word_of fault_words (texts.text_code kind)

-- those of the faults of a script
abbrev pub script_fault_words : List (List ℕ)
script_fault_words =
    codes "BadByte" ∷ codes "BadCommand" ∷ codes "BadNumber" ∷ codes "UnknownNode" ∷ codes "UnknownLink"
    ∷ codes "NoMemory" ∷ []

abbrev pub script_fault_name : ScriptFault → List ℕ
script_fault_name kind = word_of script_fault_words (scripts.fault_code kind)

-- those of the faults of an order of nodes
abbrev pub order_fault_words : List (List ℕ)
order_fault_words =
    codes "BadByte" ∷ codes "BadRow" ∷ codes "UnknownNode" ∷ codes "Twice" ∷ codes "Missing"
    ∷ codes "NoMemory" ∷ []

abbrev pub order_fault_name : OrderFaultKind → List ℕ
order_fault_name kind = word_of order_fault_words (order_fault_code kind)

-- those of the refusals of an opening
abbrev pub opening_words : List (List ℕ)
opening_words =
    codes "NoNode" ∷ codes "Empty" ∷ codes "Disconnected" ∷ codes "TooLarge" ∷ codes "NoMemory"
    ∷ codes "TooManyReaders" ∷ codes "Used" ∷ []

abbrev pub open_error_name : OpenError → List ℕ
open_error_name error = word_of opening_words (open_code error)

-- those of the refusals of a step
abbrev pub refusal_words : List (List ℕ)
refusal_words =
    codes "NoNode" ∷ codes "NoLink" ∷ codes "NoChannel" ∷ codes "NoEpoch" ∷ codes "HandFull"
    ∷ codes "HandEmpty" ∷ codes "Empty" ∷ codes "BadView" ∷ codes "Same" ∷ codes "EpochsFull"
    ∷ codes "Disconnected" ∷ codes "TooManyPackets" ∷ codes "NoMemory" ∷ codes "InboxFull" ∷ codes "TooManyChanges"
    ∷ codes "Used" ∷ codes "LinkDown" ∷ []

abbrev pub refusal_name : Refused → List ℕ
refusal_name refusal = word_of refusal_words (refusal_code refusal)

-- those of the findings
abbrev pub finding_words : List (List ℕ)
finding_words =
    codes "NotTrace" ∷ codes "BadRow" ∷ codes "UnknownNode" ∷ codes "UnknownEpoch" ∷ codes "NotAPrefix"
    ∷ codes "NotAtDestination" ∷ codes "BadWeight" ∷ codes "Repeated" ∷ codes "NoMemory" ∷ []

abbrev pub finding_name : FindingKind → List ℕ
finding_name kind = word_of finding_words (findings.finding_code kind)

-- `finding LINE KIND`
abbrev pub finding_line : Finding → List ℕ
finding_line f = numbered_line (codes "finding") f.line (finding_name f.kind)

-- those of the findings beside a script
abbrev pub whole_words : List (List ℕ)
whole_words =
    codes "NeverInjected" ∷ codes "NotYetInstalled" ∷ codes "NeverDown" ∷ codes "NeverRetired" ∷ codes "NeverFull"
    ∷ codes "NoMemory" ∷ []

abbrev pub whole_name : WholeKind → List ℕ
whole_name kind = word_of whole_words (whole_code kind)

-- the same of a finding beside a script
abbrev pub whole_line : WholeFinding → List ℕ
whole_line f = numbered_line (codes "finding") f.line (whole_name f.kind)

-- `ok N`
abbrev pub ok_line : ℕ → List ℕ
ok_line rows = codes "ok" ++ spaced (decimal rows) ++ 10 ∷ []

-- `topology LINE KIND`
abbrev pub topology_line : ℕ × Fault → List ℕ
topology_line f = numbered_line (codes "topology") f.0 (fault_name f.1)

-- `new LINE KIND`
abbrev pub new_line : ℕ × Fault → List ℕ
new_line f = numbered_line (codes "new") f.0 (fault_name f.1)

-- the lines of a node that the new network alone has, and of one that the old network alone has
abbrev pub new_node_line : List ℕ
new_node_line = codes "new UnknownNode\n"

abbrev pub gone_line : List ℕ
gone_line = codes "new Missing\n"

-- `script LINE KIND`
abbrev pub script_line : ℕ × ScriptFault → List ℕ
script_line f = numbered_line (codes "script") f.0 (script_fault_name f.1)

-- `numbering LINE KIND`
abbrev pub numbering_line : ℕ × OrderFaultKind → List ℕ
numbering_line f = numbered_line (codes "numbering") f.0 (order_fault_name f.1)

-- `opening NAME`
abbrev pub opening_line : OpenError → List ℕ
opening_line e = codes "opening " ++ open_error_name e ++ 10 ∷ []

-- `new NAME`
abbrev pub new_opening_line : OpenError → List ℕ
new_opening_line e = codes "new " ++ open_error_name e ++ 10 ∷ []

-- `refused LINE NAME`
abbrev pub refused_line : ℕ → Refused → List ℕ
refused_line line e = numbered_line (codes "refused") line (refusal_name e)

-- the line of a step that was refused
abbrev pub reply_line : ℕ × Result Reply Refused → List ℕ
reply_line (line, Ok reply) = []
reply_line (line, Err refusal) = refused_line line refusal

-- the same, where the number of the line is beside the refusal
abbrev pub step_line : ℕ × Refused → List ℕ
step_line step = refused_line step.0 step.1

-- a line for each step that was refused, in order
abbrev pub steps_text : List (ℕ × Refused) → List ℕ
steps_text steps = flat_map step_line steps

abbrev pub source_name : Source → List ℕ
source_name Input = codes "input"
source_name Topology = codes "topology"
source_name New = codes "new"
source_name Script = codes "script"
source_name Trace = codes "trace"
source_name Numbering = codes "numbering"

abbrev pub unreadable_line : Source → List ℕ
unreadable_line source = source_name source ++ codes " unreadable\n"

abbrev pub too_large_line : Source → List ℕ
too_large_line source = source_name source ++ codes " too large\n"

abbrev pub unwritable_line : List ℕ
unwritable_line = codes "output unwritable\n"

abbrev pub out_of_memory_line : List ℕ
out_of_memory_line = codes "out of memory\n"

abbrev pub no_thread_line : List ℕ
no_thread_line = codes "no thread\n"

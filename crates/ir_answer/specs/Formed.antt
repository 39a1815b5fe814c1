-- An answer in the form that the words ask for: what is printed stands as it is, or as its JSON.
use Rattle.std.specs.Prelude.{◌≡◌, ℕ, ◌==◌, if◌then◌else◌, is_some, Bool, true, false, List, Option, None, Some, Result, Ok, Err}
use Rattle.std.specs.declared.alloc.AllocError.{AllocError}
use Rattle.ir_model.specs.Text.{lines}
use Rattle.ir_json.specs.declared.shape.Shape.{Shape}
use Rattle.ir_json.specs.declared.shape.Shape.TheVariants as shapes
use Rattle.ir_json.specs.JsonText.{json_text}
use Rattle.ir_cli.specs.declared.words.Words.{Words}
use Rattle.ir_cli.specs.declared.words.Sub.{Sub}
use Rattle.ir_cli.specs.declared.words.Sub.TheVariants.{Plan, Walk, Stats, Compare, Diff, Draw, Prefixes, Ranges, Xdp, Sim, Live, Check}
use Rattle.ir_cli.specs.Answer.{Answer, Ran, Found, Refused, NoThread}
use Rattle.ir_cli.specs.declared.ending.Ending.TheVariants as endings
use Rattle.ir_cli.specs.declared.outcome.RunOutcome.{RunOutcome}
use Rattle.ir_cli.specs.Lines.{out_of_memory_line, unwritable_line}
use Rattle.ir_cli.specs.Notices.{told_text}

-- the shape of a trace, by its version
abbrev pub trace_shape : Words → Shape
trace_shape words = if words.restamps == 0 then shapes.Trace else shapes.Restamps

-- the shape of what `plan` prints
abbrev pub plan_shape : Words → Shape
plan_shape words = if words.order_alone then shapes.Order else if is_some words.nodes then shapes.Nodes else shapes.Plan

-- the shape of what a subcommand prints; a drawing has none, and neither have lines
abbrev pub shape_of : Sub → Words → Option Shape
shape_of Plan words = Some (plan_shape words)
shape_of Walk words = Some shapes.Walk
shape_of Stats words = Some (if words.each then (if words.by_node then shapes.Losses else shapes.Failures) else shapes.Stats)
shape_of Compare words = Some shapes.Compare
shape_of Diff words = Some shapes.Diff
shape_of Draw words = None
shape_of Prefixes words = Some shapes.Prefixes
shape_of Ranges words = Some shapes.Ranges
shape_of Xdp words = None
shape_of Sim words = Some (if words.steps then shapes.Steps else trace_shape words)
shape_of Live words = Some (trace_shape words)
shape_of Check words = Some shapes.Check

-- the shape as which it is printed as JSON, where the words ask for that
abbrev pub asked_shape : Sub → Words → Option Shape
asked_shape sub words = if words.json then shape_of sub words else None

-- a text as it is, or as its JSON where there is a shape
abbrev pub shaped : Option Shape → List ℕ → List ℕ
shaped None text = text
shaped (Some shape) text = json_text shape (lines text)

-- what is printed in that form; what is reported stays
abbrev pub in_shape : Option Shape → Answer → Answer
in_shape shape (Ran text refusals) = Ran (shaped shape text) refusals
in_shape shape (Found line) = Found (shaped shape line)
in_shape shape (Refused line) = Refused line
in_shape shape NoThread = NoThread

-- an answer as the words ask for it
abbrev pub asked_form : Sub → Words → Answer → Answer
asked_form sub words answer = in_shape (asked_shape sub words) answer

-- the answers to texts in that form
abbrev pub InForm : Sub → Words → (List (List ℕ) → Answer → Type 0) → List (List ℕ) → Answer → Type 0
InForm sub words answers texts answer = (plain : Answer) × answers texts plain × (answer ≡ asked_form sub words plain)

-- what a writer was given of a text: whether it took all of it, or nothing for want of memory
abbrev pub IsTextPut : List ℕ → Result Bool AllocError → (out : Bool → List ℕ → Type 0) (unused : Type 0) → Type 0
IsTextPut text (Ok sent) out unused = out sent text
IsTextPut text (Err error) out unused = unused

-- What a run comes to after its output: as reported, with these lines of faults, where all of it was taken; else to a
-- fault.
abbrev pub EndsPut : Result Bool AllocError → RunOutcome → List ℕ → RunOutcome → (told : List ℕ → Type 0) → Type 0
EndsPut (Ok true) whole lines outcome told = (outcome ≡ whole) × told lines
EndsPut (Ok false) whole lines outcome told =
    (outcome.ending ≡ endings.Unwritable) × (outcome.found ≡ None) × told unwritable_line × told (told_text outcome.told)
EndsPut (Err error) whole lines outcome told =
    (outcome.ending ≡ endings.NoMemory) × (outcome.found ≡ None) × told out_of_memory_line × told (told_text outcome.told)

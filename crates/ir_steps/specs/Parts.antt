-- What the parts of a drain do to a world and to a text.
use Rattle.std.specs.Prelude.{◌≡◌, ℕ, List, [], ◌++◌, Bool, Result, Ok, Err, IfErr, is_ok, slice_get}
use Rattle.ir_model.specs.Graph.{Name}
use Rattle.ir_model.specs.Topology.{Topology}
use Rattle.ir_core.specs.declared.event.Event.{Event}
use Rattle.ir_core.specs.declared.event.Reply.{Reply}
use Rattle.ir_core.specs.declared.event.Refused.{Refused}
use Rattle.ir_core.specs.Setting.{Setting}
use Rattle.ir_core.specs.Entry.{Entry}
use Rattle.ir_core.specs.World.{World, IsWorld}
use Rattle.ir_core.specs.Shows.{Shows, AnswersAfter}
use Rattle.ir_core.specs.declared.event.Step.{Step}
use Rattle.ir_core.specs.Drain.{IsDrained}
use Rattle.ir_core.specs.Run.{IsStepAnswered}
use Rattle.ir_steps.specs.Words.{event_line}
use Rattle.ir_steps.specs.Drained.{AreLinesBetween}
use Rattle.ir_steps.specs.Told.{AreStepLines}

-- the world is that of a history
abbrev pub HasHistory : World → Type 0
HasHistory s = (log : List Entry) × Shows log s

-- an event was played, with this reply
pub record IsApplied (e : Event) (reply : Result Reply Refused) (s new : World) : Type 0 where
  pub history : (log : List Entry) → Shows log s → AnswersAfter log e reply s.opening new
  pub refused : IfErr reply (λ _. new ≡ s)
  pub opening : new.opening ≡ s.opening
  pub world : IsWorld new

-- its line over the world after it, where it was accepted
abbrev pub added_line : List Name → Topology → ℕ → World → Event → Result Reply Refused → List ℕ
added_line nodes net line new e (Ok reply) = event_line nodes net line (λ id. slice_get new.records id) e (Ok reply)
added_line nodes net line new e (Err refusal) = []

-- An event was played, accepted or not, and a text has its line where it was accepted.
pub record Plays (nodes : List Name) (net : Topology) (line : ℕ) (e : Event) (accepted : Bool) (s new : World) (old now : List ℕ) : Type 0 where
  pub reply : Result Reply Refused
  pub accepted_is : accepted ≡ is_ok reply
  pub applied : IsApplied e reply s new
  pub text_is : now ≡ old ++ added_line nodes net line new e reply

-- A text has more lines: those of what the nodes do from each history of a world to what this makes of it.
pub record AddsText (nodes : List Name) (net : Topology) (line : ℕ) (after : List Entry → List Entry) (s : World) (old new : List ℕ) : Type 0 where
  pub text : List ℕ
  pub text_is : new ≡ old ++ text
  pub lines : (log : List Entry) → Shows log s → AreLinesBetween nodes net line log (after log) text

-- a drain was played, and the text has its lines
abbrev pub IsDrainedWith : List Name → Topology → ℕ → List Entry → Setting → World → List ℕ → Type 0
IsDrainedWith nodes net line log setting new text =
    (later : List Entry) × IsDrained setting log later × Shows later new × AreLinesBetween nodes net line log later text

pub record AddsDrain (nodes : List Name) (net : Topology) (line : ℕ) (s new : World) (old now : List ℕ) : Type 0 where
  pub text : List ℕ
  pub text_is : now ≡ old ++ text
  pub opening : new.opening ≡ s.opening
  pub drained : (log : List Entry) → Shows log s → IsDrainedWith nodes net line log s.opening new text

-- A step was played with this reply, and a text has its lines.
abbrev pub IsStepWith : List Name → ℕ → List Entry → Step → Result Reply Refused → Setting → World → List ℕ → Type 0
IsStepWith nodes line log step reply setting new text =
    (later : List Entry) × IsStepAnswered setting log step reply later × Shows later new × AreStepLines nodes setting line log step reply later text

pub record AddsStep (nodes : List Name) (line : ℕ) (step : Step) (reply : Result Reply Refused) (s new : World) (old now : List ℕ) : Type 0 where
  pub text : List ℕ
  pub text_is : now ≡ old ++ text
  pub opening : new.opening ≡ s.opening
  pub stepped : (log : List Entry) → Shows log s → IsStepWith nodes line log step reply s.opening new text

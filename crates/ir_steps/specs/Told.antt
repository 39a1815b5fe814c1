-- The text of a run's steps.
use Rattle.std.specs.Prelude.{◌≡◌, ℕ, List, [], ◌∷◌, ◌++◌, Result, codes}
use Rattle.ir_model.specs.Graph.{Name}
use Rattle.ir_core.specs.declared.event.Step.{Step}
use Rattle.ir_core.specs.declared.event.Step.TheVariants as step
use Rattle.ir_core.specs.declared.event.Reply.{Reply}
use Rattle.ir_core.specs.declared.event.Refused.{Refused}
use Rattle.ir_core.specs.Setting.{Setting}
use Rattle.ir_core.specs.Entry.{Entry}
use Rattle.ir_core.specs.History as history
use Rattle.ir_core.specs.World.{World}
use Rattle.ir_core.specs.Run.{IsStepAnswered, IsPlayed}
use Rattle.ir_steps.specs.Words.{event_line}
use Rattle.ir_steps.specs.Drained.{AreLinesBetween}

-- The lines of a step that leads from one history to another, with its reply: one of an event, and of a drain one for
-- each event that the nodes played.
abbrev pub AreStepLines : List Name → Setting → ℕ → List Entry → Step → Result Reply Refused → List Entry → List ℕ → Type 0
AreStepLines nodes setting line log (step.Event e) reply later text = text ≡ event_line nodes setting.topology line (λ id. history.packet id later) e reply
AreStepLines nodes setting line log step.Drain reply later text = AreLinesBetween nodes setting.topology line log later text

-- The lines of a run from one history to another: for each step, beside the number of its line in the script, those of
-- that step after the history so far.
abbrev pub AreLinesOfRun : List Name → Setting → List Entry → List ℕ → List Step → List (Result Reply Refused) → List Entry → List ℕ → Type 0
AreLinesOfRun nodes setting log [] [] [] later text = (later ≡ log) × (text ≡ [])
AreLinesOfRun nodes setting log (line ∷ lines) (s ∷ steps) (reply ∷ replies) later text =
    (mid : List Entry) × (first : List ℕ) × (rest : List ℕ) × IsStepAnswered setting log s reply mid × AreStepLines nodes setting line log s reply mid first
    × AreLinesOfRun nodes setting mid lines steps replies later rest × (text ≡ first ++ rest)
AreLinesOfRun nodes setting log lines steps replies later text = ⊥

-- A world was played to, as `IsPlayed` says, and the text has `steps 1` and then the lines of its run.
pub record IsTold (nodes : List Name) (setting : Setting) (lines : List ℕ) (steps : List Step) (replies : List (Result Reply Refused)) (s : World) (text : List ℕ) : Type 0 where
  pub played : IsPlayed setting steps replies s
  pub rest : List ℕ
  pub told : AreLinesOfRun nodes setting [] lines steps replies played.log rest
  pub text_is : text ≡ codes "steps 1\n" ++ rest

-- How a run of steps goes.
use Rattle.std.specs.Prelude.{◌≡◌, List, [], ◌∷◌, Result, Ok}
use Rattle.ir_core.specs.declared.event.Step.{Step}
use Rattle.ir_core.specs.declared.event.Step.TheVariants as step
use Rattle.ir_core.specs.declared.event.Reply.{Reply}
use Rattle.ir_core.specs.declared.event.Reply.TheVariants.{Changed}
use Rattle.ir_core.specs.declared.event.Refused.{Refused}
use Rattle.ir_core.specs.Setting.{Setting}
use Rattle.ir_core.specs.Entry.{Entry}
use Rattle.ir_core.specs.History as history
use Rattle.ir_core.specs.World.{World}
use Rattle.ir_core.specs.Shows.{Shows, IsAnswered}
use Rattle.ir_core.specs.Plain.{HasNoRestamp}
use Rattle.ir_core.specs.Sound.{AllSound, AllOfOneEpoch}
use Rattle.ir_core.specs.Drain.{IsDrained}

-- the reply to a step after a history, and the later history
abbrev pub IsStepAnswered : Setting → List Entry → Step → Result Reply Refused → List Entry → Type 0
IsStepAnswered setting log (step.Event e) reply later = IsAnswered setting log e reply later
IsStepAnswered setting log step.Drain reply later = (reply ≡ Ok Changed) × IsDrained setting log later

-- the later world is that of the history after the step and its reply
abbrev pub StepsAfter : List Entry → Step → Result Reply Refused → Setting → World → Type 0
StepsAfter log s reply setting new = (later : List Entry) × IsStepAnswered setting log s reply later × Shows later new

-- A run goes from one history to another: each reply is that to its step after the history so far.
abbrev pub IsRun : Setting → List Entry → List Step → List (Result Reply Refused) → List Entry → Type 0
IsRun setting log [] [] later = later ≡ log
IsRun setting log [] (reply ∷ replies) later = ⊥
IsRun setting log (s ∷ steps) [] later = ⊥
IsRun setting log (s ∷ steps) (reply ∷ replies) later =
    (mid : List Entry) × IsStepAnswered setting log s reply mid × IsRun setting mid steps replies later

-- A world was played to from the empty history: by these steps with these replies. It is the world of that history,
-- in which every record is sound, and no packet is concerned after its end. Where no restamp is allowed, no Act has one,
-- and every record is of one epoch.
pub record IsPlayed (setting : Setting) (steps : List Step) (replies : List (Result Reply Refused)) (s : World) : Type 0 where
  pub log : List Entry
  pub run : IsRun setting [] steps replies log
  pub shows : Shows log s
  pub sound : AllSound setting log
  pub ends_once : history.NothingAfterTheEnd log
  pub never_restamped : setting.restamps ≡ 0 → HasNoRestamp log
  pub without_restamps : setting.restamps ≡ 0 → AllOfOneEpoch setting log

-- What the world's own functions answer to an event, by the world before and after it.
use Rattle.std.specs.Prelude.{◌≡◌, ℕ, None, Result, Err, ◌⊎◌}
use Rattle.ir_model.specs.declared.Kind.{Kind}
use Rattle.ir_plan.specs.Building.{Labelling}
use Rattle.ir_core.specs.declared.event.Event.{Event}
use Rattle.ir_core.specs.declared.event.Reply.{Reply}
use Rattle.ir_core.specs.declared.event.Refused.{Refused}
use Rattle.ir_core.specs.declared.event.Refused.TheVariants.{NoMemory}
use Rattle.ir_core.specs.Entry.{Entry}
use Rattle.ir_core.specs.Meaning.{ComesTo, Installs, install_refusal}
use Rattle.ir_core.specs.World.{World, sight_in, IsAnswer}
use Rattle.ir_core.specs.Shows.{AsksForMemory, MayWantMemory}

-- an answer where memory may be wanted: then nothing is changed
abbrev pub IsAnswerOr : Result Entry Refused → World → World → Result Reply Refused → Type 0
IsAnswerOr wanted old new result =
    IsAnswer old new wanted result ⊎ (AsksForMemory wanted × (result ≡ Err NoMemory) × (new ≡ old))

-- an answer to an install
abbrev pub IsInstallAnswer : World → World → Labelling → Kind → ℕ → Result Reply Refused → Type 0
IsInstallAnswer old new labels kind root result =
    ((wanted : Result Entry Refused) × Installs old.opening (sight_in old) labels kind root wanted × IsAnswer old new wanted result)
    ⊎ ((install_refusal old.opening (sight_in old) root ≡ None) × (result ≡ Err NoMemory) × (new ≡ old))

-- an answer to any event
abbrev pub IsAnswerTo : Event → World → World → Result Reply Refused → Type 0
IsAnswerTo e old new result =
    ((wanted : Result Entry Refused) × ComesTo old.opening (sight_in old) e wanted × IsAnswer old new wanted result)
    ⊎ (MayWantMemory old.opening (sight_in old) e × (result ≡ Err NoMemory) × (new ≡ old))

use Rattle.std.proofs.Common.{◌≡◌, List, [], ◌∷◌, ◌++◌, None, refl, sym, subst}
use Rattle.std.specs.Prelude.{Result}
use Rattle.ir_core.specs.declared.opening.Opening.{Opening}
use Rattle.ir_core.specs.declared.event.Step.{Step}
use Rattle.ir_core.specs.declared.event.Reply.{Reply}
use Rattle.ir_core.specs.declared.event.Refused.{Refused}
use Rattle.ir_core.specs.Setting.{Setting}
use Rattle.ir_core.specs.Entry.{Entry}
use Rattle.ir_core.specs.Opened.{IsOpenedWith, open_refused}
use Rattle.ir_core.specs.World.{World}
use Rattle.ir_core.specs.Shows.{Shows}
use Rattle.ir_core.specs.Sound.{AllSound}
use Rattle.ir_core.proofs.Theorem.{all_of_one_epoch}
use Rattle.ir_core.proofs.Plains.{never_in}
use Rattle.ir_core.specs.Run.{IsStepAnswered, StepsAfter, IsRun, IsPlayed}

-- one more step of a run
pub run_more : (o : Setting) (log : List Entry) (steps : List Step) (replies : List (Result Reply Refused)) (mid later : List Entry) (s : Step) (r : Result Reply Refused) →
    IsRun o log steps replies mid → IsStepAnswered o mid s r later → IsRun o log (steps ++ s ∷ []) (replies ++ r ∷ []) later
run_more o log [] [] mid later s r run answered = (later, subst (λ (x : List Entry). IsStepAnswered o x s r later) run answered, refl)
run_more o log [] (x ∷ replies) mid later s r run answered = elim run [ ]
run_more o log (y ∷ steps) [] mid later s r run answered = elim run [ ]
run_more o log (y ∷ steps) (x ∷ replies) mid later s r run answered =
    (run.0, run.1, run_more o run.0 steps replies mid later s r run.2 answered)

-- a run so far
pub record Ran (opening : Opening) (steps : List Step) (replies : List (Result Reply Refused)) (world : World) : Type 0 where
  pub opened : IsOpenedWith opening world.opening
  pub accepted : open_refused opening ≡ None
  pub log : List Entry
  pub run : IsRun world.opening [] steps replies log
  pub shows : Shows log world

pub ran_more : (opening : Opening) (steps : List Step) (replies : List (Result Reply Refused)) (world new : World) (s : Step) (r : Result Reply Refused) →
    Ran opening steps replies world → new.opening ≡ world.opening → ((log : List Entry) → Shows log world → StepsAfter log s r world.opening new) →
    Ran opening (steps ++ s ∷ []) (replies ++ r ∷ []) new
ran_more opening steps replies world new s r ran same after =
    let a = after ran.log ran.shows in
    record {
      opened = subst (λ (o : Setting). IsOpenedWith opening o) (sym same) ran.opened;
      accepted = ran.accepted;
      log = a.0;
      run = subst (λ (o : Setting). IsRun o [] (steps ++ s ∷ []) (replies ++ r ∷ []) a.0) (sym same) (run_more world.opening [] steps replies ran.log a.0 s r ran.run a.1);
      shows = a.2;
    }

pub ran_played : (opening : Opening) (steps : List Step) (replies : List (Result Reply Refused)) (world : World) → Ran opening steps replies world →
    ((log : List Entry) → Shows log world → AllSound world.opening log) → IsPlayed world.opening steps replies world
ran_played opening steps replies world ran sound =
    let all = sound ran.log ran.shows in
    record {
      log = ran.log;
      run = ran.run;
      shows = ran.shows;
      sound = all;
      ends_once = ran.shows.ends_once;
      never_restamped = λ none. never_in world.opening ran.log ran.shows.ends_once (all_of_one_epoch world.opening ran.log all none);
      without_restamps = all_of_one_epoch world.opening ran.log all;
    }

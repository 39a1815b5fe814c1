use Rattle.std.proofs.Common.{◌≡◌, ℕ, List, [], ◌∷◌, ◌++◌, append_assoc, None, refl, sym, ap, ◌∙◌, subst}
use Rattle.std.specs.Prelude.{Result, Ok, slice_get, codes}
use Rattle.std.proofs.lemmas.List.{append-nil}
use Rattle.ir_model.specs.Graph.{Name}
use Rattle.ir_model.specs.Topology.{Topology}
use Rattle.ir_core.specs.declared.opening.Opening.{Opening}
use Rattle.ir_core.specs.declared.event.Event.{Event}
use Rattle.ir_core.specs.declared.event.Step.{Step}
use Rattle.ir_core.specs.declared.event.Step.TheVariants as step
use Rattle.ir_core.specs.declared.event.Reply.{Reply}
use Rattle.ir_core.specs.declared.event.Reply.TheVariants.{Changed}
use Rattle.ir_core.specs.declared.event.Refused.{Refused}
use Rattle.ir_core.specs.Setting.{Setting}
use Rattle.ir_core.specs.Entry.{Entry}
use Rattle.ir_core.specs.World.{World}
use Rattle.ir_core.specs.Shows.{Shows, AnswersAfter}
use Rattle.ir_core.specs.Sound.{AllSound}
use Rattle.ir_core.specs.Run.{IsStepAnswered, IsRun}
use Rattle.ir_core.specs.Opened.{IsOpenedWith, open_refused}
use Rattle.ir_core.proofs.Theorem.{all_of_one_epoch}
use Rattle.ir_core.proofs.Plains.{never_in}
use Rattle.ir_core.proofs.Runs.{Ran, run_more}
use Rattle.ir_steps.specs.Told.{AreStepLines, AreLinesOfRun, IsTold}
use Rattle.ir_steps.specs.Words.{event_line}
use Rattle.ir_steps.specs.Drained.{AreLinesBetween}
use Rattle.ir_steps.specs.Parts.{AddsDrain, AddsStep}
use Rattle.ir_steps.proofs.Adding.{told_by}

-- one more step of a run, and its lines
told_more : (nodes : List Name) (o : Setting) (log : List Entry) (lines : List ℕ) (steps : List Step) (replies : List (Result Reply Refused)) (mid later : List Entry) (line : ℕ) (s : Step) (r : Result Reply Refused) (text first : List ℕ) →
    AreLinesOfRun nodes o log lines steps replies mid text → IsStepAnswered o mid s r later → AreStepLines nodes o line mid s r later first →
    AreLinesOfRun nodes o log (lines ++ line ∷ []) (steps ++ s ∷ []) (replies ++ r ∷ []) later (text ++ first)
told_more nodes o log [] [] [] mid later line s r text first h answered told = (
  later,
  first,
  [],
  subst (λ (x : List Entry). IsStepAnswered o x s r later) h.0 answered,
  subst (λ (x : List Entry). AreStepLines nodes o line x s r later first) h.0 told,
  (refl, refl),
  ap (λ (t : List ℕ). t ++ first) h.1 ∙ sym (append-nil first),
)
told_more nodes o log [] [] (x ∷ replies) mid later line s r text first h answered told = elim h [ ]
told_more nodes o log [] (x ∷ steps) [] mid later line s r text first h answered told = elim h [ ]
told_more nodes o log [] (x ∷ steps) (y ∷ replies) mid later line s r text first h answered told = elim h [ ]
told_more nodes o log (n ∷ lines) [] [] mid later line s r text first h answered told = elim h [ ]
told_more nodes o log (n ∷ lines) [] (y ∷ replies) mid later line s r text first h answered told = elim h [ ]
told_more nodes o log (n ∷ lines) (x ∷ steps) [] mid later line s r text first h answered told = elim h [ ]
told_more nodes o log (n ∷ lines) (x ∷ steps) (y ∷ replies) mid later line s r text first h answered told = (
  h.0,
  h.1,
  h.2 ++ first,
  h.3,
  h.4,
  told_more nodes o h.0 lines steps replies mid later line s r h.2 first h.5 answered told,
  ap (λ (t : List ℕ). t ++ first) h.6 ∙ append_assoc h.1 h.2 first,
)

-- a run so far, and its text
pub record TellsSo (opening : Opening) (nodes : List Name) (lines : List ℕ) (steps : List Step) (replies : List (Result Reply Refused)) (world : World) (text : List ℕ) : Type 0 where
  pub ran : Ran opening steps replies world
  pub rest : List ℕ
  pub text_is : text ≡ codes "steps 1\n" ++ rest
  pub told : AreLinesOfRun nodes world.opening [] lines steps replies ran.log rest

pub tells_more : (opening : Opening) (nodes : List Name) (lines : List ℕ) (steps : List Step) (replies : List (Result Reply Refused)) (world new : World) (line : ℕ) (s : Step) (r : Result Reply Refused) (old now : List ℕ) →
    TellsSo opening nodes lines steps replies world old → AddsStep nodes line s r world new old now → TellsSo opening nodes (lines ++ line ∷ []) (steps ++ s ∷ []) (replies ++ r ∷ []) new now
tells_more opening nodes lines steps replies world new line s r old now so add =
    let a = add.stepped so.ran.log so.ran.shows in
    record {
      ran = record {
        opened = subst (λ (o : Setting). IsOpenedWith opening o) (sym add.opening) so.ran.opened;
        accepted = so.ran.accepted;
        log = a.0;
        run = subst (λ (o : Setting). IsRun o [] (steps ++ s ∷ []) (replies ++ r ∷ []) a.0) (sym add.opening) (run_more world.opening [] steps replies so.ran.log a.0 s r so.ran.run a.1);
        shows = a.2;
      };
      rest = so.rest ++ add.text;
      text_is = add.text_is ∙ ap (λ (t : List ℕ). t ++ add.text) so.text_is ∙ append_assoc (codes "steps 1\n") so.rest add.text;
      told = subst (λ (o : Setting). AreLinesOfRun nodes o [] (lines ++ line ∷ []) (steps ++ s ∷ []) (replies ++ r ∷ []) a.0 (so.rest ++ add.text)) (sym add.opening)
          (told_more nodes world.opening [] lines steps replies so.ran.log a.0 line s r so.rest add.text so.told a.1 a.3);
    }

pub tells_all : (opening : Opening) (nodes : List Name) (lines : List ℕ) (steps : List Step) (replies : List (Result Reply Refused)) (world : World) (text : List ℕ) → TellsSo opening nodes lines steps replies world text →
    ((log : List Entry) → Shows log world → AllSound world.opening log) → IsTold nodes world.opening lines steps replies world text
tells_all opening nodes lines steps replies world text so sound =
    let ran = so.ran in
    let all = sound ran.log ran.shows in
    record {
      played = record {
        log = ran.log;
        run = ran.run;
        shows = ran.shows;
        sound = all;
        ends_once = ran.shows.ends_once;
        never_restamped = λ none. never_in world.opening ran.log ran.shows.ends_once (all_of_one_epoch world.opening ran.log all none);
        without_restamps = all_of_one_epoch world.opening ran.log all;
      };
      rest = so.rest;
      told = so.told;
      text_is = so.text_is;
    }

-- the run of no step, whose text is its first line
pub tells_none : (opening : Opening) (nodes : List Name) (world : World) → IsOpenedWith opening world.opening → open_refused opening ≡ None → Shows [] world → TellsSo opening nodes [] [] [] world (codes "steps 1\n")
tells_none opening nodes world opened accepted shows = record {
  ran = record { opened = opened; accepted = accepted; log = []; run = refl; shows = shows };
  rest = [];
  text_is = sym (append-nil (codes "steps 1\n"));
  told = (refl, refl);
}

-- ---- the lines of one step

pub step_event : (nodes : List Name) (net : Topology) (line : ℕ) (e : Event) (reply : Result Reply Refused) (s new : World) (old now : List ℕ) → net ≡ s.opening.topology →
    ((log : List Entry) → Shows log s → AnswersAfter log e reply s.opening new) → new.opening ≡ s.opening → now ≡ old ++ event_line nodes net line (λ id. slice_get new.records id) e reply →
    AddsStep nodes line (step.Event e) reply s new old now
step_event nodes net line e reply s new old now over answers same is = record {
  text = event_line nodes net line (λ id. slice_get new.records id) e reply;
  text_is = is;
  opening = same;
  stepped = λ log k. (let a = answers log k in (
    a.0,
    a.1,
    a.2,
    ap (λ (n : Topology). event_line nodes n line (λ id. slice_get new.records id) e reply) over ∙ told_by nodes s.opening.topology line e reply a.0 new a.2,
  ));
}

pub step_drain : (nodes : List Name) (net : Topology) (line : ℕ) (s new : World) (old now : List ℕ) → net ≡ s.opening.topology → AddsDrain nodes net line s new old now →
    AddsStep nodes line step.Drain (Ok Changed) s new old now
step_drain nodes net line s new old now over a = record {
  text = a.text;
  text_is = a.text_is;
  opening = a.opening;
  stepped = λ log k. (let d = a.drained log k in (
    d.0,
    (refl, d.1),
    d.2,
    subst (λ (n : Topology). AreLinesBetween nodes n line log d.0 a.text) over d.3,
  ));
}

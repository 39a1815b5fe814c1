-- The plans of a run leave out the links that are avoided when they are made.
use Rattle.std.proofs.Common.{◌≡◌, ℕ, zero, suc, ◌+◌, ◌-◌, ◌<◌, Bool, true, false, cond, List, [], ◌∷◌, ◌++◌, length, Option, Some, None, slice_get, refl, sym, ap, subst, ◌∙◌, arith, ◌⊎◌, inl, inr}
use Rattle.std.specs.Prelude.{Result, Ok, Err, ◌&&◌, ◌==◌, reverse}
use Rattle.std.proofs.lemmas.Option.{none-some}
use Rattle.std.proofs.lemmas.Bool.{eq-eqb, eqb-true}
use Rattle.ir_model.specs.declared.Hop.{Hop}
use Rattle.ir_model.specs.declared.Kind.{Kind}
use Rattle.ir_model.specs.Topology.{Topology, port_at}
use Rattle.ir_model.specs.Plan.{Plan}
use Rattle.ir_model.proofs.Restrict.{port_at-restrict}
use Rattle.ir_core.specs.declared.board.Board.{Board}
use Rattle.ir_core.specs.declared.event.Event.{Event}
use Rattle.ir_core.specs.declared.event.Event.TheVariants as event
use Rattle.ir_core.specs.declared.event.Step.{Step}
use Rattle.ir_core.specs.declared.event.Step.TheVariants as step
use Rattle.ir_core.specs.declared.event.Reply.{Reply}
use Rattle.ir_core.specs.declared.event.Refused.{Refused}
use Rattle.ir_core.specs.declared.packet.Fate.{Fate}
use Rattle.ir_core.specs.declared.packet.Fate.TheVariants.{Down}
use Rattle.ir_core.specs.Board.{is_used, is_heeded, is_link_up, links_used, installed}
use Rattle.ir_core.specs.Record.{Record, present, stamp_of}
use Rattle.ir_core.specs.Setting.{Setting, links_of}
use Rattle.ir_core.specs.Entry.{Entry, DidInject, DidLearn, DidTake, DidRead, DidAct, DidChange, DidInstall}
use Rattle.ir_core.specs.History as history
use Rattle.ir_core.specs.Meaning.{IsMade, ComesTo, InstallsUnless, installs_made, topology_up, newest_of, sight_after, with_entry, install_refusal, labelling_next, injects, learns, takes, reads, acts}
use Rattle.ir_core.specs.Sound.{IsSoundBy, IsPlanAmong, FateFits, last_of}
use Rattle.ir_plan.specs.Building.{Labelling, FromRoot}
use Rattle.ir_core.specs.Shows.{IsAnswered}
use Rattle.ir_core.specs.Run.{IsStepAnswered, IsRun}
use Rattle.ir_core.specs.Drain.{after_rounds}
use Rattle.ir_core.specs.Avoided.{made_by, AreDropsForUsedLinks, AreNoDropsForAvoided, IsSoInRuns}
use Rattle.ir_core.proofs.Used.{used_there, used_at_first}
use Rattle.ir_core.proofs.Walks.{port_of}
use Rattle.ir_core.proofs.Segments.{of_present}
use Rattle.ir_core.proofs.Alike.{IsPassed, SameEpochs, passed_keeps, kept_rounds, injects_passed, learns_passed, takes_passed, reads_passed, acts_passed, IsBoardChange, change_comes}

-- each port of a plan is by a link that was up and heeded when the plan was made
abbrev AreOverUsed : Setting → List Entry → Type 0
AreOverUsed o log = (k : ℕ) (t : Plan) → slice_get (history.plans o log) k ≡ Some t → (u p : ℕ) (hop : Hop) → port_at t.topology u p ≡ Some hop → is_used (made_by (k + 1) log) hop.link ≡ true

same_over : (o : Setting) (log later : List Entry) → SameEpochs o log later → AreOverUsed o log → AreOverUsed o later
same_over o log later same is k t at u p hop port =
    ap (λ (b : Board). is_used b hop.link) (same.made (k + 1)) ∙ is k t (ap (λ (plans : List Plan). slice_get plans k) (sym same.plans) ∙ at) u p hop port

change_over : (o : Setting) (log : List Entry) (w : Result Entry Refused) → IsBoardChange w → AreOverUsed o log → AreOverUsed o (with_entry log w)
change_over o log (Err e) h is = is
change_over o log (Ok (DidChange b)) h is = is
change_over o log (Ok (DidInstall e t b)) h is = absurd h
change_over o log (Ok (DidInject id e s d m)) h is = absurd h
change_over o log (Ok (DidLearn e)) h is = absurd h
change_over o log (Ok (DidTake u way id)) h is = absurd h
change_over o log (Ok (DidRead u k)) h is = absurd h
change_over o log (Ok (DidAct u id way restamp v)) h is = absurd h

-- a plan of a list with one more is one of the list, or that one
one_of : (plans : List Plan) (t s : Plan) (k : ℕ) → slice_get (plans ++ t ∷ []) k ≡ Some s → ((k < length plans) × (slice_get plans k ≡ Some s)) ⊎ ((k ≡ length plans) × (t ≡ s))
one_of [] t s zero at = inr (refl, cc at)
one_of [] t s (suc k) at = absurd (none-some s at)
one_of (x ∷ plans) t s zero at = inl (omega arith, at)
one_of (x ∷ plans) t s (suc k) at = elim (one_of plans t s k at) [ inl a ↦ inl (omega (arith, a.0), a.1) | inr a ↦ inr (ap suc a.0, a.1) ]

module _ (o : Setting) (log : List Entry) (t : Plan) (b : Board) where
  abbrev count : ℕ
  count = length (history.plans o log)

  made_before : (k : ℕ) → k < count → (c : Bool) → (count + 1 == k + 1) ≡ c → cond c (newest_of (history.boards log)) (made_by (k + 1) log) ≡ made_by (k + 1) log
  made_before k lt true e = absurd (let same = eqb-true (count + 1) (k + 1) e in omega (arith, same, lt))
  made_before k lt false e = refl

  made_now : (k : ℕ) → k ≡ count → made_by (k + 1) (DidInstall (count + 1) t b ∷ log) ≡ newest_of (history.boards log)
  made_now k is = ap (λ (c : Bool). cond c (newest_of (history.boards log)) (made_by (k + 1) log)) (eq-eqb (count + 1) (k + 1) (omega (arith, is)))

  -- an epoch that is installed over the links that are used
  installed_over : t.topology ≡ topology_up o (sight_after o log) → AreOverUsed o log → AreOverUsed o (DidInstall (count + 1) t b ∷ log)
  installed_over over is k s at u p hop port = elim (one_of (history.plans o log) t s k at) [
    | inl a ↦ ap (λ (b : Board). is_used b hop.link) (made_before k a.0 (count + 1 == k + 1) refl) ∙ is k s a.1 u p hop port
    | inr a ↦
        let left = port_at-restrict (links_used (newest_of (history.boards log)) (links_of o)) o.topology u p hop (ap (λ (n : Topology). port_at n u p) (sym over ∙ ap (λ (x : Plan). x.topology) a.1) ∙ port) in
        ap (λ (b : Board). is_used b hop.link) (made_now k a.0) ∙ used_there (newest_of (history.boards log)) (links_of o) hop.link left.2
  ]

module _ (o : Setting) where
  install_over : (log : List Entry) (labels : Labelling) (kind : Kind) (w : Result Entry Refused) (x : Option Refused) → InstallsUnless o (sight_after o log) labels kind w x → AreOverUsed o log → AreOverUsed o (with_entry log w)
  install_over log labels kind w (Some e) comes is = subst (λ (z : Result Entry Refused). AreOverUsed o (with_entry log z)) (sym comes) is
  install_over log labels kind w None comes is = subst (λ (z : Result Entry Refused). AreOverUsed o (with_entry log z)) (sym comes.2) (by_made comes.0 comes.1)
    where
      by_made : (made : Option Plan) → IsMade labels kind (topology_up o (sight_after o log)) made → AreOverUsed o (with_entry log (installs_made (sight_after o log) made))
      by_made None m = is
      by_made (Some t) m = installed_over o log t (installed (newest_of (history.boards log)) (length (history.plans o log) + 1)) m.over is

  passed_over : (log : List Entry) (w v : Result Entry Refused) → w ≡ v → IsPassed v → AreOverUsed o log → AreOverUsed o (with_entry log w)
  passed_over log w v comes passed is = same_over o log (with_entry log w) (passed_keeps o log w (subst (λ (x : Result Entry Refused). IsPassed x) (sym comes) passed)) is

  event_over : (log : List Entry) (e : Event) (w : Result Entry Refused) → ComesTo o (sight_after o log) e w → AreOverUsed o log → AreOverUsed o (with_entry log w)
  event_over log (event.Install kind root) w comes is = install_over log (labelling_next o (sight_after o log) kind root) kind w (install_refusal o (sight_after o log) root) comes is
  event_over log (event.Renumber kind root) w comes is = install_over log (FromRoot o.labels root) kind w (install_refusal o (sight_after o log) root) comes is
  event_over log (event.Retire f) w comes is = change_over o log w (change_comes o (sight_after o log) (event.Retire f) tt w comes) is
  event_over log (event.Down l) w comes is = change_over o log w (change_comes o (sight_after o log) (event.Down l) tt w comes) is
  event_over log (event.Up l) w comes is = change_over o log w (change_comes o (sight_after o log) (event.Up l) tt w comes) is
  event_over log (event.Avoid l) w comes is = change_over o log w (change_comes o (sight_after o log) (event.Avoid l) tt w comes) is
  event_over log (event.Heed l) w comes is = change_over o log w (change_comes o (sight_after o log) (event.Heed l) tt w comes) is
  event_over log (event.Inject source dest) w comes is = passed_over log w (injects o (sight_after o log) source dest) comes (injects_passed o (sight_after o log) source dest) is
  event_over log (event.Learn e) w comes is = passed_over log w (learns (sight_after o log) e) comes (learns_passed (sight_after o log) e) is
  event_over log (event.Take u way) w comes is = passed_over log w (takes o (sight_after o log) u way) comes (takes_passed o (sight_after o log) u way) is
  event_over log (event.Read u k) w comes is = passed_over log w (reads o (sight_after o log) u k) comes (reads_passed o (sight_after o log) u k) is
  event_over log (event.Act u) w comes is = passed_over log w (acts o (sight_after o log) u) comes (acts_passed o (sight_after o log) u) is

  step_over : (log later : List Entry) (x : Step) (reply : Result Reply Refused) → IsStepAnswered o log x reply later → AreOverUsed o log → AreOverUsed o later
  step_over log later (step.Event e) reply answered is = by_answer answered
    where
      by_answer : IsAnswered o log e reply later → AreOverUsed o later
      by_answer (inl a) = subst (λ (z : List Entry). AreOverUsed o z) (sym a.3) (event_over log e a.0 a.1 is)
      by_answer (inr a) = subst (λ (z : List Entry). AreOverUsed o z) (sym a.2) is
  step_over log later step.Drain reply answered is =
      subst (λ (z : List Entry). AreOverUsed o z) (sym answered.1.ends) (same_over o log (after_rounds o (suc answered.1.rounds) log) (kept_rounds o (suc answered.1.rounds) log) is)

  run_over : (steps : List Step) (replies : List (Result Reply Refused)) (log later : List Entry) → IsRun o log steps replies later → AreOverUsed o log → AreOverUsed o later
  run_over [] [] log later run is = subst (λ (z : List Entry). AreOverUsed o z) (sym run) is
  run_over [] (reply ∷ replies) log later run is = absurd run
  run_over (x ∷ steps) [] log later run is = absurd run
  run_over (x ∷ steps) (reply ∷ replies) log later run is = run_over steps replies run.0 later run.2 (step_over log run.0 x reply run.1 is)

  first_over : AreOverUsed o []
  first_over k t at u p hop port = used_at_first hop.link

dropped_over : (o : Setting) (log : List Entry) (l : ℕ) (g : Record) → IsSoundBy (IsPlanAmong (history.plans o log)) g → g.fate ≡ Down l → AreOverUsed o log → is_used (made_by g.epoch log) l ≡ true
dropped_over o log l g sound down is =
    let fits = subst (λ (f : Fate). FateFits sound.plan g sound.sound.walk f) down sound.sound.fate in
    let leads = fits.1.1 in
    let port = port_of sound.plan (last_of g.hops) g.dest leads.0 leads.1 in
    let epoch : g.epoch - 1 + 1 ≡ g.epoch = omega (arith, sound.of_epoch.0) in
    ap (λ (e : ℕ). is_used (made_by e log) l) (sym epoch) ∙ ap (λ (x : ℕ). is_used (made_by (g.epoch - 1 + 1) log) x) (sym leads.2)
    ∙ is (g.epoch - 1) sound.plan sound.of_epoch.1 _ port.0 leads.0 port.1

pub for_used : IsSoInRuns AreDropsForUsedLinks
for_used steps replies world played id l r at down =
    let sound = played.sound id r at in
    let o = world.opening in
    dropped_over o played.log l (present r) (of_present (IsSoundBy (IsPlanAmong (history.plans o played.log))) (reverse r.restamps) r sound.each) down
    (run_over o steps replies [] played.log played.run (first_over o))

pub not_for_avoided : IsSoInRuns AreNoDropsForAvoided
not_for_avoided steps replies world played id l r at avoided down =
    never (is_link_up (made_by (stamp_of r) played.log) l) (is_heeded (made_by (stamp_of r) played.log) l) (for_used steps replies world played id l r at down) avoided
  where
    never : (a b : Bool) → (a && b) ≡ true → b ≡ false → ⊥
    never true b e f = cc (e, f)
    never false b e f = cc e

-- What the controller's steps of a list install.
use Rattle.std.proofs.Common.{◌≡◌, ◌≢◌, ℕ, zero, suc, ◌<◌, ◌≤◌, List, [], ◌∷◌, ◌++◌, length, take, replicate, slice_index_or, Option, Some, None, refl, sym, ap, ◌∙◌, subst, arith, true, false, Bool, inl, inr}
use Rattle.std.specs.Prelude.{Result, Ok, Err, is_ok, IfOk}
use Rattle.std.proofs.lemmas.Option.{slice_get_within}
use Rattle.ir_model.specs.declared.Hop.{Hop}
use Rattle.ir_model.specs.declared.Kind.{Kind}
use Rattle.ir_model.specs.declared.Kind.TheVariants.{Tree}
use Rattle.ir_model.specs.Topology.{Topology, IsTopology, is_up, restrict}
use Rattle.ir_model.specs.Plan.{Plan}
use Rattle.ir_model.proofs.Restrict.{rows_all}
use Rattle.ir_core.specs.declared.TheConstants.{MAX_LINKS}
use Rattle.ir_core.specs.declared.board.Board.{Board}
use Rattle.ir_plan.specs.declared.tour.LabelOrder.{LabelOrder}
use Rattle.ir_core.specs.declared.opening.Opening.{Opening}
use Rattle.ir_core.specs.declared.built.Install.{Install}
use Rattle.ir_core.specs.declared.event.Event.{Event}
use Rattle.ir_core.specs.declared.event.Event.TheVariants as event
use Rattle.ir_core.specs.declared.event.Step.{Step}
use Rattle.ir_core.specs.declared.event.Step.TheVariants as step
use Rattle.ir_core.specs.declared.event.Reply.{Reply}
use Rattle.ir_core.specs.declared.event.Refused.{Refused}
use Rattle.ir_core.specs.declared.event.Refused.TheVariants.{NoMemory, Disconnected}
use Rattle.ir_core.specs.Marks.{both}
use Rattle.ir_core.specs.Board.{links_used, marked, heeding, retired_below}
use Rattle.ir_core.specs.Refusals.{retire_refused, mark_refused, heed_refused}
use Rattle.ir_core.specs.Setting.{Setting, links_of}
use Rattle.ir_core.specs.Opened.{IsOpenedWith}
use Rattle.ir_core.specs.Entry.{Entry, DidChange}
use Rattle.ir_core.specs.History as history
use Rattle.ir_plan.specs.Building.{Labelling}
use Rattle.ir_core.specs.Drafts.{items_of, kept_order, labelling_by}
use Rattle.ir_core.proofs.Labelled.{tree_keeps}
use Rattle.ir_core.specs.Meaning.{Sight, IsMade, ComesTo, Installs, InstallsUnless, unless, install_refusal, installs_made, topology_up, newest, newest_of, newest_plan, plan_of, sight_after, with_entry}
use Rattle.ir_core.specs.World.{World, IsWorld, sight_in}
use Rattle.ir_core.specs.Shows.{Shows, AnswersAfter, IsAnswered, reply_to}
use Rattle.ir_core.proofs.Accepted.{same_entry, not_accepted}
use Rattle.ir_core.specs.Installed.{IsTaken, IsControlled, IsControlRun, labelled_by, IsNextInstall, IsInstallOf, IsBuiltFrom, AreBuiltFrom, AreInstallsWithPlans, ControlsOn, IsPlainChange}

built_push : (o : Setting) (installs : List Install) (plans : List Plan) (i : Install) (t : Plan) → AreBuiltFrom o installs plans → IsBuiltFrom o i t → AreBuiltFrom o (installs ++ i ∷ []) (plans ++ t ∷ [])
built_push o [] [] i t b is = (is, tt)
built_push o [] (s ∷ plans) i t b is = absurd b
built_push o (x ∷ installs) [] i t b is = absurd b
built_push o (x ∷ installs) (s ∷ plans) i t b is = (b.0, built_push o installs plans i t b.1 is)

-- the plans after a change of the board
plans_kept : (o : Setting) (log : List Entry) (x : Option Refused) (board : Board) → history.plans o (with_entry log (unless x (Ok (DidChange board)))) ≡ history.plans o log
plans_kept o log (Some e) board = refl
plans_kept o log None board = refl

change_plans : (o : Setting) (log : List Entry) (e : Event) → IsPlainChange e → (wanted : Result Entry Refused) → ComesTo o (sight_after o log) e wanted → history.plans o (with_entry log wanted) ≡ history.plans o log
change_plans o log (event.Retire f) is wanted comes =
    let b = newest (sight_after o log) in
    ap (λ (w : Result Entry Refused). history.plans o (with_entry log w)) comes ∙ plans_kept o log (retire_refused b f) (retired_below b f)
change_plans o log (event.Down l) is wanted comes =
    let b = newest (sight_after o log) in
    ap (λ (w : Result Entry Refused). history.plans o (with_entry log w)) comes ∙ plans_kept o log (mark_refused (links_of o) b l false) (marked b l false)
change_plans o log (event.Up l) is wanted comes =
    let b = newest (sight_after o log) in
    ap (λ (w : Result Entry Refused). history.plans o (with_entry log w)) comes ∙ plans_kept o log (mark_refused (links_of o) b l true) (marked b l true)
change_plans o log (event.Avoid l) is wanted comes =
    let b = newest (sight_after o log) in
    ap (λ (w : Result Entry Refused). history.plans o (with_entry log w)) comes ∙ plans_kept o log (heed_refused (links_of o) b l false) (heeding b l false)
change_plans o log (event.Heed l) is wanted comes =
    let b = newest (sight_after o log) in
    ap (λ (w : Result Entry Refused). history.plans o (with_entry log w)) comes ∙ plans_kept o log (heed_refused (links_of o) b l true) (heeding b l true)
change_plans o log (event.Install kind root) is wanted comes = absurd is
change_plans o log (event.Renumber kind root) is wanted comes = absurd is
change_plans o log (event.Inject source dest) is wanted comes = absurd is
change_plans o log (event.Learn e) is wanted comes = absurd is
change_plans o log (event.Take u way) is wanted comes = absurd is
change_plans o log (event.Read u k) is wanted comes = absurd is
change_plans o log (event.Act u) is wanted comes = absurd is

change_controlled : (o : Setting) (log later : List Entry) (e : Event) → IsPlainChange e → IsTaken o log e later → IsControlled o log (step.Event e) later
change_controlled o log later (event.Retire f) is t = t
change_controlled o log later (event.Down l) is t = t
change_controlled o log later (event.Up l) is t = t
change_controlled o log later (event.Avoid l) is t = t
change_controlled o log later (event.Heed l) is t = t
change_controlled o log later (event.Install kind root) is t = absurd is
change_controlled o log later (event.Renumber kind root) is t = absurd is
change_controlled o log later (event.Inject source dest) is t = absurd is
change_controlled o log later (event.Learn e) is t = absurd is
change_controlled o log later (event.Take u way) is t = absurd is
change_controlled o log later (event.Read u k) is t = absurd is
change_controlled o log later (event.Act u) is t = absurd is

-- a change of the board
pub change_taken : (s new : World) (e : Event) (reply : Result Reply Refused) → IsPlainChange e → new.opening ≡ s.opening → ((log : List Entry) → Shows log s → AnswersAfter log e reply s.opening new) → reply ≢ Err NoMemory →
    (installs : List Install) → ControlsOn s (step.Event e) installs new installs
change_taken s new e reply is same answers memory installs = (same, λ log k built. by_answer log built (answers log k).0 (answers log k).1 (answers log k).2)
  where
    by_answer : (log : List Entry) → AreBuiltFrom s.opening installs (history.plans s.opening log) → (later : List Entry) → IsAnswered s.opening log e reply later → Shows later new →
        (x : List Entry) × IsControlled s.opening log (step.Event e) x × Shows x new × AreBuiltFrom s.opening installs (history.plans s.opening x)
    by_answer log built later (inl a) shows =
        let plans = ap (λ (x : List Entry). history.plans s.opening x) a.3 ∙ change_plans s.opening log e is a.0 a.1 in
        (later, change_controlled s.opening log later e is (a.0, a.1, a.3), shows, subst (λ (plans : List Plan). AreBuiltFrom s.opening installs plans) (sym plans) built)
    by_answer log built later (inr a) shows = absurd (memory a.1)

-- what an install comes to, by what its plan is built from
module _ (s : World) (t : Sight) (same : t.plans ≡ s.plans) (keeps : Bool) (kind : Kind) (root : ℕ) (i : Install) (is : IsNextInstall s keeps kind root i) where
  abbrev given : Labelling
  given = labelling_by s.opening.labels root (kept_order keeps kind (newest_plan s.opening t).order)

  labelled : given ≡ labelled_by i
  labelled =
      ap (λ (n : LabelOrder). labelling_by n root (kept_order keeps kind (newest_plan s.opening t).order)) (sym is.labels)
      ∙ ap (λ (u : ℕ). labelling_by i.labels u (kept_order keeps kind (newest_plan s.opening t).order)) (sym is.root)
      ∙ ap (labelling_by i.labels i.root) (ap (λ (plans : List Plan). kept_order keeps kind (plan_of s.opening plans (length plans)).order) same ∙ sym is.kept)

  next_made : (wanted : Result Entry Refused) → Installs s.opening t given kind root wanted → Installs s.opening t (labelled_by i) i.kind i.root wanted
  next_made wanted comes =
      subst (λ (l : Labelling). Installs s.opening t l i.kind i.root wanted) labelled
      (subst (λ (k : Kind). Installs s.opening t given k i.root wanted) (sym is.kind) (subst (λ (u : ℕ). Installs s.opening t given kind u wanted) (sym is.root) comes))

install_comes : (s : World) (t : Sight) → t.plans ≡ s.plans → (e : Event) (i : Install) → IsInstallOf s e i → (wanted : Result Entry Refused) → ComesTo s.opening t e wanted → Installs s.opening t (labelled_by i) i.kind i.root wanted
install_comes s t same (event.Install kind root) i is wanted comes = next_made s t same s.opening.keeps kind root i is wanted comes
install_comes s t same (event.Renumber kind root) i is wanted comes = next_made s t same false kind root i is wanted comes
install_comes s t same (event.Retire f) i is wanted comes = absurd is
install_comes s t same (event.Down l) i is wanted comes = absurd is
install_comes s t same (event.Up l) i is wanted comes = absurd is
install_comes s t same (event.Avoid l) i is wanted comes = absurd is
install_comes s t same (event.Heed l) i is wanted comes = absurd is
install_comes s t same (event.Inject source dest) i is wanted comes = absurd is
install_comes s t same (event.Learn e) i is wanted comes = absurd is
install_comes s t same (event.Take u way) i is wanted comes = absurd is
install_comes s t same (event.Read u k) i is wanted comes = absurd is
install_comes s t same (event.Act u) i is wanted comes = absurd is

install_controlled : (s : World) (log later : List Entry) (e : Event) (i : Install) → IsInstallOf s e i → IsTaken s.opening log e later → IsControlled s.opening log (step.Event e) later
install_controlled s log later (event.Install kind root) i is t = t
install_controlled s log later (event.Renumber kind root) i is t = t
install_controlled s log later (event.Retire f) i is t = absurd is
install_controlled s log later (event.Down l) i is t = absurd is
install_controlled s log later (event.Up l) i is t = absurd is
install_controlled s log later (event.Avoid l) i is t = absurd is
install_controlled s log later (event.Heed l) i is t = absurd is
install_controlled s log later (event.Inject source dest) i is t = absurd is
install_controlled s log later (event.Learn e) i is t = absurd is
install_controlled s log later (event.Take u way) i is t = absurd is
install_controlled s log later (event.Read u k) i is t = absurd is
install_controlled s log later (event.Act u) i is t = absurd is

-- the links that are up, which its plan is over, and the order of all
abbrev IsOverUp : World → Install → Type 0
IsOverUp s i = (length i.up.items ≡ links_of s.opening) × (i.up.items ≡ links_used (newest (sight_in s)) (links_of s.opening)) × (i.labels ≡ s.opening.labels) × (i.kind ≡ Tree → items_of i.kept ≡ None)

over_up : (s : World) (e : Event) (i : Install) → IsInstallOf s e i → IsOverUp s i
over_up s (event.Install kind root) i is = (is.count, is.up, is.labels, λ tree. is.kept ∙ tree_keeps s.opening.keeps kind (newest_plan s.opening (sight_in s)).order (sym is.kind ∙ tree))
over_up s (event.Renumber kind root) i is = (is.count, is.up, is.labels, λ _. is.kept)
over_up s (event.Retire f) i is = absurd is
over_up s (event.Down l) i is = absurd is
over_up s (event.Up l) i is = absurd is
over_up s (event.Avoid l) i is = absurd is
over_up s (event.Heed l) i is = absurd is
over_up s (event.Inject source dest) i is = absurd is
over_up s (event.Learn e) i is = absurd is
over_up s (event.Take u way) i is = absurd is
over_up s (event.Read u k) i is = absurd is
over_up s (event.Act u) i is = absurd is

-- an install, accepted or refused
module _ (s new : World) (e : Event) (i : Install) (is : IsInstallOf s e i) (reply : Result Reply Refused) (same : new.opening ≡ s.opening)
    (answers : (log : List Entry) → Shows log s → AnswersAfter log e reply s.opening new) (memory : reply ≢ Err NoMemory) where
  refused_by : (log later : List Entry) (installs : List Install) (wanted : Result Entry Refused) → is_ok (reply_to wanted) ≡ false → later ≡ with_entry log wanted →
      AreBuiltFrom s.opening installs (history.plans s.opening log) → AreBuiltFrom s.opening installs (history.plans s.opening later)
  refused_by log later installs (Ok entry) not is built = cc
  refused_by log later installs (Err e) not is built = subst (λ (x : List Entry). AreBuiltFrom s.opening installs (history.plans s.opening x)) (sym is) built

  pub install_refused_so : is_ok reply ≡ false → (installs : List Install) → ControlsOn s (step.Event e) installs new installs
  install_refused_so not installs = (same, λ log k built. by_answer log built (answers log k).0 (answers log k).1 (answers log k).2)
    where
      by_answer : (log : List Entry) → AreBuiltFrom s.opening installs (history.plans s.opening log) → (later : List Entry) → IsAnswered s.opening log e reply later → Shows later new →
          (x : List Entry) × IsControlled s.opening log (step.Event e) x × Shows x new × AreBuiltFrom s.opening installs (history.plans s.opening x)
      by_answer log built later (inl a) shows =
          (later, install_controlled s log later e i is (a.0, a.1, a.3), shows, refused_by log later installs a.0 (sym (ap (λ (r : Result Reply Refused). is_ok r) a.2) ∙ not) a.3 built)
      by_answer log built later (inr a) shows = absurd (memory a.1)

  built_by : (log later : List Entry) (installs : List Install) (wanted : Result Entry Refused) (x : Option Refused) → is_ok (reply_to wanted) ≡ true → later ≡ with_entry log wanted →
      InstallsUnless s.opening (sight_after s.opening log) (labelled_by i) i.kind wanted x → ((t : Plan) → IsMade (labelled_by i) i.kind (topology_up s.opening (sight_after s.opening log)) (Some t) → IsBuiltFrom s.opening i t) →
      AreBuiltFrom s.opening installs (history.plans s.opening log) → AreBuiltFrom s.opening (installs ++ i ∷ []) (history.plans s.opening later)
  built_by log later installs (Err e) x did went comes from built = cc
  built_by log later installs (Ok entry) (Some e) did went comes from built = absurd (not_accepted e entry (sym comes))
  built_by log later installs (Ok entry) None did went comes from built = by_made comes.0 comes.1 comes.2
    where
      by_made : (made : Option Plan) → IsMade (labelled_by i) i.kind (topology_up s.opening (sight_after s.opening log)) made → Ok entry ≡ installs_made (sight_after s.opening log) made →
          AreBuiltFrom s.opening (installs ++ i ∷ []) (history.plans s.opening later)
      by_made None m e = absurd (not_accepted Disconnected entry (sym e))
      by_made (Some t) m e =
          let plans = ap (λ (x : List Entry). history.plans s.opening x) went ∙ ap (λ (x : Entry). history.plans s.opening (x ∷ log)) (same_entry entry _ e) in
          subst (λ (plans : List Plan). AreBuiltFrom s.opening (installs ++ i ∷ []) plans) (sym plans) (built_push s.opening installs (history.plans s.opening log) i t built (from t m))

  pub install_accepted_so : is_ok reply ≡ true → (installs : List Install) → ControlsOn s (step.Event e) installs new (installs ++ i ∷ [])
  install_accepted_so did installs = (same, λ log k built. by_answer log k built (answers log k).0 (answers log k).1 (answers log k).2)
    where
      by_answer : (log : List Entry) → Shows log s → AreBuiltFrom s.opening installs (history.plans s.opening log) → (later : List Entry) → IsAnswered s.opening log e reply later → Shows later new →
          (x : List Entry) × IsControlled s.opening log (step.Event e) x × Shows x new × AreBuiltFrom s.opening (installs ++ i ∷ []) (history.plans s.opening x)
      by_answer log k built later (inl a) shows =
          let over = over_up s e i is in
          let here : i.up.items ≡ links_used (newest (sight_after s.opening log)) (links_of s.opening) = over.1 ∙ ap (λ (boards : List Board). links_used (newest_of boards) (links_of s.opening)) k.boards in (
            later,
            install_controlled s log later e i is (a.0, a.1, a.3),
            shows,
            built_by log later installs a.0 (install_refusal s.opening (sight_after s.opening log) i.root) (sym (ap (λ (r : Result Reply Refused). is_ok r) a.2) ∙ did) a.3
                (install_comes s (sight_after s.opening log) (sym k.plans) e i is a.0 a.1)
                (λ t m. (over.0, subst (λ (xs : List Bool). IsMade (labelled_by i) i.kind (restrict xs s.opening.topology) (Some t)) (sym here) m, over.2, over.3)) built,
          )
      by_answer log k built later (inr a) shows = absurd (memory a.1)

-- with all links up and heeded a network is as it was
abbrev all_used : ℕ → ℕ → List Bool
all_used n m = both (take n (replicate m true)) (take n (replicate m true))

all_up : (n m l : ℕ) → l < n → n ≤ m → slice_index_or (all_used n m) l false ≡ true
all_up zero m l lt le = absurd (omega arith)
all_up (suc n) zero l lt le = absurd (omega arith)
all_up (suc n) (suc m) zero lt le = refl
all_up (suc n) (suc m) (suc l) lt le = all_up n m l (omega arith) (omega arith)

restrict_all : (net : Topology) → IsTopology net → length net.links ≤ MAX_LINKS → restrict (all_used (length net.links) MAX_LINKS) net ≡ net
restrict_all net ok few =
    ap (λ (ports : List (List Hop)). record { links = net.links; ports = ports })
    (rows_all (is_up (all_used (length net.links) MAX_LINKS)) net.ports (λ u k x e. (let port = ok.ports u k x e in all_up (length net.links) MAX_LINKS x.link (slice_get_within net.links x.link port.0 port.1) few)))

-- the install of the first epoch
pub first_built : (s : World) → IsWorld s → Shows [] s → (i : Install) → length i.up.items ≡ links_of s.opening → i.up.items ≡ links_used (newest (sight_in s)) (links_of s.opening) →
    i.labels ≡ s.opening.labels → items_of i.kept ≡ None → IsMade (labelled_by i) i.kind s.opening.topology (Some s.opening.first) → AreBuiltFrom s.opening (i ∷ []) (s.opening.first ∷ [])
first_built s ok k i marks is_up same_labels none made =
    let here : i.up.items ≡ all_used (links_of s.opening) MAX_LINKS = is_up ∙ ap (λ (boards : List Board). links_used (newest_of boards) (links_of s.opening)) k.boards in
    let whole = ap (λ (xs : List Bool). restrict xs s.opening.topology) here ∙ restrict_all s.opening.topology ok.opening.topology ok.opening.few_links in
    ((marks, subst (λ (net : Topology). IsMade (labelled_by i) i.kind net (Some s.opening.first)) (sym whole) made, same_labels, λ _. none), tt)

run_more : (o : Setting) (log mid later : List Entry) (steps : List Step) (s : Step) → IsControlRun o log steps mid → IsControlled o mid s later → IsControlRun o log (steps ++ s ∷ []) later
run_more o log mid later [] s run next = (later, subst (λ (x : List Entry). IsControlled o x s later) run next, refl)
run_more o log mid later (y ∷ steps) s run next = (run.0, run.1, run_more o run.0 mid later steps s run.2 next)

-- the steps so far
pub record ControlSo (opening : Opening) (steps : List Step) (world : World) (installs : List Install) : Type 0 where
  pub opened : IsOpenedWith opening world.opening
  pub log : List Entry
  pub run : IsControlRun world.opening [] steps log
  pub shows : Shows log world
  pub built : AreBuiltFrom world.opening installs (history.plans world.opening log)

pub control_more : (opening : Opening) (steps : List Step) (s : Step) (world new : World) (installs more : List Install) → ControlSo opening steps world installs →
    ControlsOn world s installs new more → ControlSo opening (steps ++ s ∷ []) new more
control_more opening steps s world new installs more so on =
    let next = on.1 so.log so.shows so.built in
    let back = sym on.0 in
    record {
      opened = subst (λ (o : Setting). IsOpenedWith opening o) back so.opened;
      log = next.0;
      run = subst (λ (o : Setting). IsControlRun o [] (steps ++ s ∷ []) next.0) back (run_more world.opening [] so.log next.0 steps s so.run next.1);
      shows = next.2;
      built = subst (λ (o : Setting). AreBuiltFrom o more (history.plans o next.0)) back next.3;
    }

pub control_all : (opening : Opening) (steps all : List Step) (world : World) (installs : List Install) (plans : List Plan) → steps ≡ all → ControlSo opening steps world installs →
    plans ≡ world.plans → AreInstallsWithPlans opening all installs plans
control_all opening steps all world installs plans same so are = record {
  installs_are = record { setting = world.opening; opened = so.opened; log = so.log; run = subst (λ (xs : List Step). IsControlRun world.opening [] xs so.log) same so.run; built = so.built };
  plans_are = are ∙ so.shows.plans;
}

-- what holds of all installs holds of these
pub of_installs : {X E : Type 0} (r : Result X E) (Q : List Install → Type 0) → IfOk r (λ _. (installs : List Install) → Q installs) → (installs : List Install) → IfOk r (λ _. Q installs)
of_installs (Ok x) Q k installs = k installs
of_installs (Err e) Q k installs = tt

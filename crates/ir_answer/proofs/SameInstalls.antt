-- Two lists of installs of one opening and one list of steps have the same plans.
use Rattle.std.proofs.Common.{◌≡◌, ◌+◌, ℕ, suc, List, [], ◌∷◌, ◌++◌, length, Option, Some, None, Bool, true, false, refl, sym, ap, ◌∙◌, subst}
use Rattle.std.specs.Prelude.{Result, Ok}
use Rattle.std.proofs.lemmas.Option.{none-some}
use Rattle.ir_model.specs.declared.Kind.{Kind}
use Rattle.ir_model.specs.Topology.{Topology, restrict}
use Rattle.ir_model.specs.Walk.{IsConnected, IsDisconnected}
use Rattle.ir_model.specs.Plan.{Plan}
use Rattle.ir_plan.specs.declared.tour.LabelOrder.{LabelOrder}
use Rattle.ir_plan.specs.Building.{Labelling, FromRoot, IsPlanBy}
use Rattle.ir_core.proofs.Labelled.{IsTwin, twins, twin_next, made_moved}
use Rattle.ir_core.proofs.Alike.{AreTwins, twins-length, twins-push, first_twins, next_same}
use Rattle.ir_core.specs.declared.opening.Opening.{Opening}
use Rattle.ir_core.specs.declared.board.Board.{Board}
use Rattle.ir_core.specs.Board.{links_used, marked, heeding, retired_below, installed}
use Rattle.ir_core.specs.Refusals.{retire_refused, mark_refused, heed_refused, install_refused}
use Rattle.ir_core.specs.declared.built.Install.{Install}
use Rattle.ir_core.specs.declared.event.Event.TheVariants as event
use Rattle.ir_core.specs.declared.event.Step.{Step}
use Rattle.ir_core.specs.declared.event.Step.TheVariants as step
use Rattle.ir_core.specs.declared.event.Refused.{Refused}
use Rattle.ir_core.specs.Setting.{Setting, nodes_of, links_of}
use Rattle.ir_core.specs.Entry.{Entry, DidChange}
use Rattle.ir_core.specs.History as history
use Rattle.ir_core.specs.Meaning.{IsMade, Installs, InstallsUnless, labelling_next, unless, install_refusal, installs_made, topology_up, newest_of, sight_after, with_entry}
use Rattle.ir_core.specs.Installed.{labelled_by, IsTaken, IsControlled, IsControlRun, IsBuiltFrom, AreBuiltFrom, AreInstallsOf}
use Rattle.ir_trace.specs.declared.finding.FindingKind.{FindingKind}
use Rattle.ir_trace.specs.declared.finding.FindingKind.TheVariants.{NotTrace, BadRow, UnknownNode, UnknownEpoch, NotAPrefix, NotAtDestination, BadWeight, Repeated, NoMemory}
use Rattle.ir_trace.specs.Row.{TraceRow}
use Rattle.ir_trace.specs.Checked.{ArePlansOf, Finds}
use Rattle.ir_answer.specs.Agreed.{HaveSamePlans}

-- ---- two runs of the controller's steps

-- no plan is of a network that is disconnected
pub not_both : (labels : Labelling) (kind : Kind) (net : Topology) (t : Plan) → IsMade labels kind net (Some t) → IsDisconnected net → ⊥
not_both labels kind net t made apart =
    let walk = subst (λ (n : Topology). IsConnected n) made.over made.valid.connected apart.0 apart.1 apart.2 apart.3 in
    apart.4 walk.0 walk.1

-- two settings over one network that label alike, and two histories with the same boards, and plans of the same kinds, roots,
-- networks and labels
module _ (o p : Setting) (over : o.topology ≡ p.topology) (order : o.labels ≡ p.labels) (keep : o.keeps ≡ p.keeps) (first : o.first.order ≡ p.first.order) where
  record AreAlike (log other : List Entry) : Type 0 where
    boards : history.boards log ≡ history.boards other
    plans : AreTwins (history.plans o log) (history.plans p other)

  -- the histories after one event
  taken : (log other later next : List Entry) (w v : Result Entry Refused) → later ≡ with_entry log w → next ≡ with_entry other v → AreAlike (with_entry log w) (with_entry other v) → AreAlike later next
  taken log other later next w v went goes is =
      subst (λ (x : List Entry). AreAlike x next) (sym went) (subst (λ (x : List Entry). AreAlike (with_entry log w) x) (sym goes) is)

  -- a change of the board, which is refused by both or accepted by both
  changed : (log other : List Entry) → AreAlike log other → (x : Option Refused) (b : Board) → AreAlike (with_entry log (unless x (Ok (DidChange b)))) (with_entry other (unless x (Ok (DidChange b))))
  changed log other is (Some e) b = is
  changed log other is None b = record { boards = ap (λ (boards : List Board). boards ++ b ∷ []) is.boards; plans = is.plans }

  change_alike : (log other : List Entry) → AreAlike log other → (x : Option Refused) (b : Board) (w v : Result Entry Refused) → w ≡ unless x (Ok (DidChange b)) → v ≡ unless x (Ok (DidChange b)) → AreAlike (with_entry log w) (with_entry other v)
  change_alike log other is x b w v comes goes =
      subst (λ (z : Result Entry Refused). AreAlike (with_entry log z) (with_entry other v)) (sym comes)
      (subst (λ (z : Result Entry Refused). AreAlike (with_entry log (unless x (Ok (DidChange b)))) (with_entry other z)) (sym goes) (changed log other is x b))

  retire_alike : (log other later next : List Entry) → AreAlike log other → (f : ℕ) → IsTaken o log (event.Retire f) later → IsTaken p other (event.Retire f) next → AreAlike later next
  retire_alike log other later next is f a b =
      let one = newest_of (history.boards log) in
      let same = ap (λ (boards : List Board). unless (retire_refused (newest_of boards) f) (Ok (DidChange (retired_below (newest_of boards) f)))) (sym is.boards) in
      taken log other later next a.0 b.0 a.2 b.2 (change_alike log other is (retire_refused one f) (retired_below one f) a.0 b.0 a.1 (b.1 ∙ same))

  -- what a mark of a link comes to
  abbrev MarksAs : Setting → List Entry → ℕ → Bool → Result Entry Refused → Type 0
  MarksAs s log l up w = w ≡ unless (mark_refused (links_of s) (newest_of (history.boards log)) l up) (Ok (DidChange (marked (newest_of (history.boards log)) l up)))

  mark_alike : (log other later next : List Entry) → AreAlike log other → (l : ℕ) (up : Bool) (w v : Result Entry Refused) → MarksAs o log l up w → MarksAs p other l up v
      → later ≡ with_entry log w → next ≡ with_entry other v → AreAlike later next
  mark_alike log other later next is l up w v comes goes went gone =
      let one = newest_of (history.boards log) in
      let links = ap (λ (net : Topology). unless (mark_refused (length net.links) (newest_of (history.boards other)) l up) (Ok (DidChange (marked (newest_of (history.boards other)) l up)))) (sym over) in
      let boards = ap (λ (boards : List Board). unless (mark_refused (links_of o) (newest_of boards) l up) (Ok (DidChange (marked (newest_of boards) l up)))) (sym is.boards) in
      taken log other later next w v went gone (change_alike log other is (mark_refused (links_of o) one l up) (marked one l up) w v comes (goes ∙ links ∙ boards))

  -- what a link that is to be heeded or avoided comes to
  abbrev HeedsAs : Setting → List Entry → ℕ → Bool → Result Entry Refused → Type 0
  HeedsAs s log l heed w = w ≡ unless (heed_refused (links_of s) (newest_of (history.boards log)) l heed) (Ok (DidChange (heeding (newest_of (history.boards log)) l heed)))

  heed_alike : (log other later next : List Entry) → AreAlike log other → (l : ℕ) (heed : Bool) (w v : Result Entry Refused) → HeedsAs o log l heed w → HeedsAs p other l heed v
      → later ≡ with_entry log w → next ≡ with_entry other v → AreAlike later next
  heed_alike log other later next is l heed w v comes goes went gone =
      let one = newest_of (history.boards log) in
      let links = ap (λ (net : Topology). unless (heed_refused (length net.links) (newest_of (history.boards other)) l heed) (Ok (DidChange (heeding (newest_of (history.boards other)) l heed)))) (sym over) in
      let boards = ap (λ (boards : List Board). unless (heed_refused (links_of o) (newest_of boards) l heed) (Ok (DidChange (heeding (newest_of boards) l heed)))) (sym is.boards) in
      taken log other later next w v went gone (change_alike log other is (heed_refused (links_of o) one l heed) (heeding one l heed) w v comes (goes ∙ links ∙ boards))

  -- an install, which is refused by both or accepted by both
  up_same : (log other : List Entry) → AreAlike log other → topology_up o (sight_after o log) ≡ topology_up p (sight_after p other)
  up_same log other is =
      ap (λ (boards : List Board). restrict (links_used (newest_of boards) (links_of o)) o.topology) is.boards
      ∙ ap (λ (net : Topology). restrict (links_used (newest_of (history.boards other)) (length net.links)) net) over

  refused_same : (log other : List Entry) → AreAlike log other → (root : ℕ) → install_refusal o (sight_after o log) root ≡ install_refusal p (sight_after p other) root
  refused_same log other is root =
      ap (λ (boards : List Board). install_refused (nodes_of o) (length (history.plans o log)) (newest_of boards) root) is.boards
      ∙ ap (λ (n : ℕ). install_refused (nodes_of o) n (newest_of (history.boards other)) root) (twins-length _ _ is.plans)
      ∙ ap (λ (net : Topology). install_refusal (record p { topology = net }) (sight_after p other) root) over

  -- by what the next plan is labelled
  labels_same : (log other : List Entry) → AreAlike log other → (kind : Kind) (root : ℕ) → labelling_next o (sight_after o log) kind root ≡ labelling_next p (sight_after p other) kind root
  labels_same log other is kind root = next_same o p order keep first (history.plans o log) (history.plans p other) is.plans kind root

  installed_alike : (log other : List Entry) → AreAlike log other → (labels : Labelling) (kind : Kind) (x y : Option Plan) → IsMade labels kind (topology_up o (sight_after o log)) x → IsMade labels kind (topology_up p (sight_after p other)) y →
      AreAlike (with_entry log (installs_made (sight_after o log) x)) (with_entry other (installs_made (sight_after p other) y))
  installed_alike log other is labels kind None None made given = is
  installed_alike log other is labels kind None (Some u) made given =
      absurd (not_both labels kind (topology_up p (sight_after p other)) u given (subst (λ (net : Topology). IsDisconnected net) (up_same log other is) made))
  installed_alike log other is labels kind (Some t) None made given =
      absurd (not_both labels kind (topology_up o (sight_after o log)) t made (subst (λ (net : Topology). IsDisconnected net) (sym (up_same log other is)) given))
  installed_alike log other is labels kind (Some t) (Some u) made given =
      let count = twins-length (history.plans o log) (history.plans p other) is.plans in
      let board = ap (λ (boards : List Board). installed (newest_of boards) (length (history.plans o log) + 1)) is.boards ∙ ap (λ (n : ℕ). installed (newest_of (history.boards other)) (n + 1)) count in
      let here = subst (λ (net : Topology). IsMade labels kind net (Some t)) (up_same log other is) made in
      record {
        boards = ap (λ (boards : List Board). boards ++ installed (newest_of (history.boards log)) (length (history.plans o log) + 1) ∷ []) is.boards ∙ ap (λ (b : Board). history.boards other ++ b ∷ []) board;
        plans = twins-push (history.plans o log) (history.plans p other) t u is.plans (twins (topology_up p (sight_after p other)) kind labels u t given here);
      }

  install_alike : (log other : List Entry) → AreAlike log other → (labels : Labelling) (kind : Kind) (w v : Result Entry Refused) (x y : Option Refused) → x ≡ y →
      InstallsUnless o (sight_after o log) labels kind w x → InstallsUnless p (sight_after p other) labels kind v y → AreAlike (with_entry log w) (with_entry other v)
  install_alike log other is labels kind w v (Some e) (Some f) same comes goes =
      subst (λ (z : Result Entry Refused). AreAlike (with_entry log z) (with_entry other v)) (sym comes) (subst (λ (z : Result Entry Refused). AreAlike log (with_entry other z)) (sym goes) is)
  install_alike log other is labels kind w v (Some e) None same comes goes = absurd (none-some e (sym same))
  install_alike log other is labels kind w v None (Some f) same comes goes = absurd (none-some f same)
  install_alike log other is labels kind w v None None same comes goes =
      subst (λ (z : Result Entry Refused). AreAlike (with_entry log z) (with_entry other v)) (sym comes.2)
      (subst (λ (z : Result Entry Refused). AreAlike (with_entry log (installs_made (sight_after o log) comes.0)) (with_entry other z)) (sym goes.2) (installed_alike log other is labels kind comes.0 goes.0 comes.1 goes.1))

  made_alike : (log other later next : List Entry) → AreAlike log other → (labels theirs : Labelling) → labels ≡ theirs → (kind : Kind) (root : ℕ) (w v : Result Entry Refused) →
      Installs o (sight_after o log) labels kind root w → Installs p (sight_after p other) theirs kind root v → later ≡ with_entry log w → next ≡ with_entry other v → AreAlike later next
  made_alike log other later next is labels theirs by kind root w v comes goes went gone =
      taken log other later next w v went gone
      (install_alike log other is labels kind w v (install_refusal o (sight_after o log) root) (install_refusal p (sight_after p other) root) (refused_same log other is root) comes
      (subst (λ (l : Labelling). Installs p (sight_after p other) l kind root v) (sym by) goes))

  -- a step that is passed over
  passed : (log other later next : List Entry) → AreAlike log other → later ≡ log → next ≡ other → AreAlike later next
  passed log other later next is went stays = subst (λ (x : List Entry). AreAlike x next) (sym went) (subst (λ (x : List Entry). AreAlike log x) (sym stays) is)

  step_alike : (log other later next : List Entry) → AreAlike log other → (x : Step) → IsControlled o log x later → IsControlled p other x next → AreAlike later next
  step_alike log other later next is (step.Event (event.Install kind root)) a b =
      made_alike log other later next is _ _ (labels_same log other is kind root) kind root a.0 b.0 a.1 b.1 a.2 b.2
  step_alike log other later next is (step.Event (event.Renumber kind root)) a b =
      made_alike log other later next is _ _ (ap (λ (n : LabelOrder). FromRoot n root) order) kind root a.0 b.0 a.1 b.1 a.2 b.2
  step_alike log other later next is (step.Event (event.Retire f)) a b = retire_alike log other later next is f a b
  step_alike log other later next is (step.Event (event.Down l)) a b = mark_alike log other later next is l false a.0 b.0 a.1 b.1 a.2 b.2
  step_alike log other later next is (step.Event (event.Up l)) a b = mark_alike log other later next is l true a.0 b.0 a.1 b.1 a.2 b.2
  step_alike log other later next is (step.Event (event.Avoid l)) a b = heed_alike log other later next is l false a.0 b.0 a.1 b.1 a.2 b.2
  step_alike log other later next is (step.Event (event.Heed l)) a b = heed_alike log other later next is l true a.0 b.0 a.1 b.1 a.2 b.2
  step_alike log other later next is (step.Event (event.Inject source dest)) a b = passed log other later next is a b
  step_alike log other later next is (step.Event (event.Learn e)) a b = passed log other later next is a b
  step_alike log other later next is (step.Event (event.Take u way)) a b = passed log other later next is a b
  step_alike log other later next is (step.Event (event.Read u k)) a b = passed log other later next is a b
  step_alike log other later next is (step.Event (event.Act u)) a b = passed log other later next is a b
  step_alike log other later next is step.Drain a b = passed log other later next is a b

  run_alike : (steps : List Step) (log other later next : List Entry) → AreAlike log other → IsControlRun o log steps later → IsControlRun p other steps next → AreAlike later next
  run_alike [] log other later next is a b = passed log other later next is a b
  run_alike (x ∷ steps) log other later next is a b = run_alike steps a.0 b.0 later next (step_alike log other a.0 b.0 is x a.1 b.1) a.2 b.2

-- ---- the installs of two such runs

-- two installs over the same links that are up, whose plans are of one kind and labelled alike
abbrev IsSame : Topology → Install → Install → Type 0
IsSame net i j = (t : Plan) → IsPlanBy (restrict i.up.items net) i.kind (labelled_by i) t → IsPlanBy (restrict j.up.items net) j.kind (labelled_by j) t

abbrev pub AreSame : Topology → List Install → List Install → Type 0
AreSame net [] [] = Unit {0}
AreSame net [] (j ∷ others) = ⊥
AreSame net (i ∷ installs) [] = ⊥
AreSame net (i ∷ installs) (j ∷ others) = IsSame net i j × AreSame net installs others

module _ (net : Topology) (o p : Setting) (first : o.topology ≡ net) (second : p.topology ≡ net) where
  -- t is as s, which is as the plan of the other install
  one_same : (i j : Install) (s u : Plan) → IsTwin u s → IsBuiltFrom o i s → IsBuiltFrom p j u → IsSame net i j
  one_same i j s u twin a b t is =
      let mine = subst (λ (n : Topology). IsPlanBy (restrict i.up.items n) i.kind (labelled_by i) s) first a.1 in
      let theirs = subst (λ (n : Topology). IsPlanBy (restrict j.up.items n) j.kind (labelled_by j) u) second b.1 in
      made_moved (restrict j.up.items net) j.kind (labelled_by j) u t (twin_next u s t twin (twins (restrict i.up.items net) i.kind (labelled_by i) s t mine is)) theirs

  built_same : (ss ts : List Plan) (installs others : List Install) → AreTwins ss ts → AreBuiltFrom o installs ss → AreBuiltFrom p others ts → AreSame net installs others
  built_same [] [] [] [] like a b = tt
  built_same [] [] [] (j ∷ others) like a b = absurd b
  built_same [] [] (i ∷ installs) others like a b = absurd a
  built_same [] (t ∷ ts) installs others like a b = absurd like
  built_same (s ∷ ss) [] installs others like a b = absurd like
  built_same (s ∷ ss) (t ∷ ts) [] others like a b = absurd a
  built_same (s ∷ ss) (t ∷ ts) (i ∷ installs) [] like a b = absurd b
  built_same (s ∷ ss) (t ∷ ts) (i ∷ installs) (j ∷ others) like a b = (one_same i j s t like.0 a.0 b.0, built_same ss ts installs others like.1 a.1 b.1)

pub installs_same : (opening : Opening) (steps : List Step) (installs others : List Install) → AreInstallsOf opening steps installs → AreInstallsOf opening steps others → AreSame opening.topology installs others
installs_same opening steps installs others a b =
    let o = a.setting in
    let p = b.setting in
    let over = a.opened.topology ∙ sym b.opened.topology in
    let order = a.opened.labels ∙ sym b.opened.labels in
    let keep = a.opened.keeps ∙ sym b.opened.keeps in
    let twin = first_twins opening o p a.opened b.opened in
    let start : AreAlike o p over order keep (sym twin.order) [] [] = record { boards = refl; plans = (twin, tt) } in
    let alike = run_alike o p over order keep (sym twin.order) steps [] [] a.log b.log start a.run b.run in
    built_same opening.topology o p a.opened.topology b.opened.topology (history.plans o a.log) (history.plans p b.log) installs others alike.plans a.built b.built

-- ---- what is checked by them

pub plans_moved : (net : Topology) (installs others : List Install) (plans : List Plan) → AreSame net installs others → ArePlansOf net installs plans → ArePlansOf net others plans
plans_moved net [] [] plans same are = are
plans_moved net [] (j ∷ others) plans same are = absurd same
plans_moved net (i ∷ installs) [] plans same are = absurd same
plans_moved net (i ∷ installs) (j ∷ others) [] same are = absurd are
plans_moved net (i ∷ installs) (j ∷ others) (t ∷ plans) same are = (same.0 t are.0, plans_moved net installs others plans same.1 are.1)

-- two such lists have the same plans
pub have_same_plans : (opening : Opening) (steps : List Step) (installs others : List Install) → AreInstallsOf opening steps installs → AreInstallsOf opening steps others → HaveSamePlans opening.topology installs others
have_same_plans opening steps installs others a b = record {
  there = λ plans are. plans_moved opening.topology installs others plans (installs_same opening steps installs others a b) are;
  back = λ plans are. plans_moved opening.topology others installs plans (installs_same opening steps others installs b a) are;
}

module _ (net : Topology) (installs others : List Install) (same : HaveSamePlans net installs others) (rows : List TraceRow) where
  pub finds_moved : (line : ℕ) (kind : FindingKind) → Finds net others rows line kind → Finds net installs rows line kind
  finds_moved line NotTrace h = (h.0, same.back h.0 h.1, h.2)
  finds_moved line BadRow h = (h.0, same.back h.0 h.1, h.2)
  finds_moved line UnknownNode h = (h.0, same.back h.0 h.1, h.2)
  finds_moved line UnknownEpoch h = (h.0, same.back h.0 h.1, h.2)
  finds_moved line NotAPrefix h = (h.0, same.back h.0 h.1, h.2)
  finds_moved line NotAtDestination h = (h.0, same.back h.0 h.1, h.2)
  finds_moved line BadWeight h = (h.0, same.back h.0 h.1, h.2)
  finds_moved line Repeated h = (h.0, same.back h.0 h.1, h.2)
  finds_moved line NoMemory h = h

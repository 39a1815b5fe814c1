-- The epochs of a run, and those of its controller's steps alone: they are built alike.
use Rattle.std.proofs.Common.{◌≡◌, ◌≢◌, ℕ, zero, suc, ◌+◌, ◌-◌, List, [], ◌∷◌, ◌++◌, length, Option, Some, None, Bool, true, false, cond, refl, sym, ap, ◌∙◌, subst, inl, inr}
use Rattle.std.specs.Prelude.{Result, Ok, Err, not, ◌||◌, ◌==◌, nat_lt, nat_le, is_some, slice_get, slice_index_or}
use Rattle.std.proofs.lemmas.Option.{none-some}
use Rattle.std.proofs.lemmas.List.Elements.{All-head, All-tail}
use Rattle.ir_model.specs.declared.Hop.{Hop}
use Rattle.ir_model.specs.declared.Kind.{Kind}
use Rattle.ir_model.specs.Topology.{Topology, ports_of, restrict}
use Rattle.ir_model.specs.Walk.{IsConnected, IsDisconnected}
use Rattle.ir_model.specs.Plan.{Plan}
use Rattle.ir_plan.specs.declared.tour.LabelOrder.{LabelOrder}
use Rattle.ir_plan.specs.Building.{Labelling, FromRoot}
use Rattle.ir_core.specs.Drafts.{kept_order, labelling_by}
use Rattle.ir_core.proofs.Labelled.{IsTwin, twins, made_moved}
use Rattle.ir_core.specs.declared.opening.Opening.{Opening}
use Rattle.ir_core.specs.declared.board.Board.{Board}
use Rattle.ir_core.specs.Board.{links_used, marked, heeding, retired_below, installed}
use Rattle.ir_core.specs.Refusals.{inject_refused, retire_refused, mark_refused, heed_refused, install_refused}
use Rattle.ir_core.specs.declared.built.Install.{Install}
use Rattle.ir_core.specs.declared.event.Event.{Event}
use Rattle.ir_core.specs.declared.event.Event.TheVariants as event
use Rattle.ir_core.specs.declared.event.Step.{Step}
use Rattle.ir_core.specs.declared.event.Step.TheVariants as step
use Rattle.ir_core.specs.declared.event.Reply.{Reply}
use Rattle.ir_core.specs.declared.event.Refused.{Refused}
use Rattle.ir_core.specs.declared.event.Refused.TheVariants.{NoNode, NoEpoch, InboxFull, HandFull, BadView, NoMemory}
use Rattle.ir_core.specs.declared.event.Way.{Way}
use Rattle.ir_core.specs.declared.event.Way.TheVariants.{Inbox, Link}
use Rattle.ir_core.specs.declared.packet.Held.{Held}
use Rattle.ir_core.specs.Record.{hop_room}
use Rattle.ir_core.specs.Setting.{Setting, nodes_of, links_of, channel_of, into}
use Rattle.ir_core.specs.Opened.{IsOpenedWith}
use Rattle.ir_core.specs.Entry.{Entry, DidInject, DidLearn, DidTake, DidRead, DidAct, DidChange, DidInstall}
use Rattle.ir_core.specs.History as history
use Rattle.ir_core.specs.Meaning.{Sight, IsMade, ComesTo, Installs, InstallsUnless, unless, install_refusal, labelling_next, plan_of, installs_made, topology_up, newest, newest_of, is_full, sight_after, with_entry, injects, learns, takes, takes_from, takes_first, reads, acts, acts_on, retires, marks, heeds}
use Rattle.ir_core.specs.World.{World}
use Rattle.ir_core.specs.Shows.{IsAnswered}
use Rattle.ir_core.specs.Run.{IsStepAnswered, IsRun}
use Rattle.ir_core.specs.Avoided.{made_by}
use Rattle.ir_core.specs.Drain.{after_read, after_act, after_take, after_way, after_ports, after_visit, after_visits, after_rounds}
use Rattle.ir_core.specs.Installed.{IsControlled, IsControlRun, labelled_by, AreBuiltFrom, IsPlainChange, NoneWantsMemory, AreEpochsOf}

abbrev pub AreTwins : List Plan → List Plan → Type 0
AreTwins [] [] = Unit {0}
AreTwins [] (t ∷ ts) = ⊥
AreTwins (s ∷ ss) [] = ⊥
AreTwins (s ∷ ss) (t ∷ ts) = IsTwin t s × AreTwins ss ts

-- two histories with the same boards, and plans of the same kinds, roots, networks and labels
record AreAlike (o p : Setting) (log other : List Entry) : Type 0 where
  boards : history.boards log ≡ history.boards other
  plans : AreTwins (history.plans o log) (history.plans p other)

pub twins-length : (ss ts : List Plan) → AreTwins ss ts → length ss ≡ length ts
twins-length [] [] h = refl
twins-length [] (t ∷ ts) h = absurd h
twins-length (s ∷ ss) [] h = absurd h
twins-length (s ∷ ss) (t ∷ ts) h = ap suc (twins-length ss ts h.1)

pub twins-push : (ss ts : List Plan) (s t : Plan) → AreTwins ss ts → IsTwin t s → AreTwins (ss ++ s ∷ []) (ts ++ t ∷ [])
twins-push [] [] s t h is = (is, tt)
twins-push [] (y ∷ ts) s t h is = absurd h
twins-push (x ∷ ss) [] s t h is = absurd h
twins-push (x ∷ ss) (y ∷ ts) s t h is = (h.0, twins-push ss ts s t h.1 is)

-- the plans at one place have one order
pub twins-at : (ss ts : List Plan) → AreTwins ss ts → (k : ℕ) (d e : Plan) → d.order ≡ e.order → (slice_index_or ss k d).order ≡ (slice_index_or ts k e).order
twins-at [] [] h k d e same = same
twins-at [] (t ∷ ts) h k d e same = absurd h
twins-at (s ∷ ss) [] h k d e same = absurd h
twins-at (s ∷ ss) (t ∷ ts) h zero d e same = sym h.0.order
twins-at (s ∷ ss) (t ∷ ts) h (suc k) d e same = twins-at ss ts h.1 k d e same

-- by what the next plans are labelled
pub next_same : (o p : Setting) → o.labels ≡ p.labels → o.keeps ≡ p.keeps → o.first.order ≡ p.first.order → (ss ts : List Plan) → AreTwins ss ts → (kind : Kind) (root : ℕ) →
    labelling_by o.labels root (kept_order o.keeps kind (plan_of o ss (length ss)).order) ≡ labelling_by p.labels root (kept_order p.keeps kind (plan_of p ts (length ts)).order)
next_same o p order keep first ss ts are kind root =
    let newest : (plan_of o ss (length ss)).order ≡ (plan_of p ts (length ts)).order =
    twins-at ss ts are (length ss - 1) o.first p.first first ∙ ap (λ (n : ℕ). (slice_index_or ts (n - 1) p.first).order) (twins-length ss ts are) in
    ap (λ (xs : List ℕ). labelling_by o.labels root (kept_order o.keeps kind xs)) newest
    ∙ ap (λ (k : Bool). labelling_by o.labels root (kept_order k kind (plan_of p ts (length ts)).order)) keep
    ∙ ap (λ (n : LabelOrder). labelling_by n root (kept_order p.keeps kind (plan_of p ts (length ts)).order)) order

twins_built : (o p : Setting) → o.topology ≡ p.topology → o.labels ≡ p.labels → (installs : List Install) (ss ts : List Plan) → AreTwins ss ts → AreBuiltFrom p installs ts → AreBuiltFrom o installs ss
twins_built o p same order [] [] [] h built = tt
twins_built o p same order [] [] (t ∷ ts) h built = absurd h
twins_built o p same order [] (s ∷ ss) [] h built = absurd h
twins_built o p same order [] (s ∷ ss) (t ∷ ts) h built = absurd built
twins_built o p same order (i ∷ installs) [] [] h built = absurd built
twins_built o p same order (i ∷ installs) [] (t ∷ ts) h built = absurd h
twins_built o p same order (i ∷ installs) (s ∷ ss) [] h built = absurd h
twins_built o p same order (i ∷ installs) (s ∷ ss) (t ∷ ts) h built = (
  (
    built.0.0 ∙ ap (λ (net : Topology). length net.links) (sym same),
    subst (λ (net : Topology). IsMade (labelled_by i) i.kind (restrict i.up.items net) (Some s)) (sym same) (made_moved (restrict i.up.items p.topology) i.kind (labelled_by i) t s h.0 built.0.1),
    built.0.2 ∙ sym order,
    built.0.3,
  ),
  twins_built o p same order installs ss ts h.1 built.1,
)

-- Entries of the steps that are no controller's change neither boards nor plans, nor what the plans were made by.
abbrev pub IsPassed : Result Entry Refused → Type 0
IsPassed (Err e) = Unit {0}
IsPassed (Ok (DidInject id e s d m)) = Unit {0}
IsPassed (Ok (DidLearn e)) = Unit {0}
IsPassed (Ok (DidTake u way id)) = Unit {0}
IsPassed (Ok (DidRead u k)) = Unit {0}
IsPassed (Ok (DidAct u id way restamp v)) = Unit {0}
IsPassed (Ok (DidChange b)) = ⊥
IsPassed (Ok (DidInstall e t b)) = ⊥

pub record SameEpochs (o : Setting) (log later : List Entry) : Type 0 where
  pub boards : history.boards later ≡ history.boards log
  pub plans : history.plans o later ≡ history.plans o log
  pub made : (e : ℕ) → made_by e later ≡ made_by e log

pub passed_keeps : (o : Setting) (log : List Entry) (w : Result Entry Refused) → IsPassed w → SameEpochs o log (with_entry log w)
passed_keeps o log (Err e) is = record { boards = refl; plans = refl; made = λ e. refl }
passed_keeps o log (Ok (DidInject id e s d m)) is = record { boards = refl; plans = refl; made = λ e. refl }
passed_keeps o log (Ok (DidLearn e)) is = record { boards = refl; plans = refl; made = λ e. refl }
passed_keeps o log (Ok (DidTake u way id)) is = record { boards = refl; plans = refl; made = λ e. refl }
passed_keeps o log (Ok (DidRead u k)) is = record { boards = refl; plans = refl; made = λ e. refl }
passed_keeps o log (Ok (DidAct u id way restamp v)) is = record { boards = refl; plans = refl; made = λ e. refl }
passed_keeps o log (Ok (DidChange b)) is = absurd is
passed_keeps o log (Ok (DidInstall e t b)) is = absurd is

keeps_both : (o : Setting) (log mid later : List Entry) → SameEpochs o log mid → SameEpochs o mid later → SameEpochs o log later
keeps_both o log mid later a b = record { boards = b.boards ∙ a.boards; plans = b.plans ∙ a.plans; made = λ e. b.made e ∙ a.made e }

-- what the steps that are no controller's come to
one_of : (a : Bool) (w v : Result Entry Refused) → IsPassed w → IsPassed v → IsPassed (cond a w v)
one_of true w v p q = p
one_of false w v p q = q

unless_passed : (x : Option Refused) (w : Result Entry Refused) → IsPassed w → IsPassed (unless x w)
unless_passed (Some e) w p = tt
unless_passed None w p = p

pub injects_passed : (o : Setting) (s : Sight) (source dest : ℕ) → IsPassed (injects o s source dest)
injects_passed o s source dest =
    let did = DidInject s.injected s.learnt source dest (hop_room o.restamps (nodes_of o)) in
    unless_passed (inject_refused (nodes_of o) o.max_packets s.injected source dest) (cond (is_full o s (into o source Inbox)) (Err InboxFull) (Ok did))
    (one_of (is_full o s (into o source Inbox)) (Err InboxFull) (Ok did) tt tt)

pub learns_passed : (s : Sight) (e : ℕ) → IsPassed (learns s e)
learns_passed s e = one_of ((e == 0) || nat_lt (newest s).current e) (Err NoEpoch) (Ok (DidLearn e)) tt tt

first_passed : (u : ℕ) (way : Way) (x : Option ℕ) → IsPassed (takes_first u way x)
first_passed u way None = tt
first_passed u way (Some id) = tt

from_passed : (s : Sight) (u : ℕ) (way : Way) (x : Option ℕ) → IsPassed (takes_from s u way x)
from_passed s u way None = tt
from_passed s u way (Some c) = one_of (is_some (s.hand u)) (Err HandFull) (takes_first u way (slice_get (s.waiting c) 0)) tt (first_passed u way (slice_get (s.waiting c) 0))

pub takes_passed : (o : Setting) (s : Sight) (u : ℕ) (way : Way) → IsPassed (takes o s u way)
takes_passed o s u way = one_of (not (nat_lt u (nodes_of o))) (Err NoNode) (takes_from s u way (channel_of o u way)) tt (from_passed s u way (channel_of o u way))

pub reads_passed : (o : Setting) (s : Sight) (u k : ℕ) → IsPassed (reads o s u k)
reads_passed o s u k =
    let old = nat_lt k (s.view u) || nat_le (length s.boards) k in
    one_of (not (nat_lt u (nodes_of o))) (Err NoNode) (cond old (Err BadView) (Ok (DidRead u k))) tt (one_of old (Err BadView) (Ok (DidRead u k)) tt tt)

on_passed : (o : Setting) (s : Sight) (u : ℕ) (x : Option Held) → IsPassed (acts_on o s u x)
on_passed o s u None = tt
on_passed o s u (Some held) = tt

pub acts_passed : (o : Setting) (s : Sight) (u : ℕ) → IsPassed (acts o s u)
acts_passed o s u = one_of (not (nat_lt u (nodes_of o))) (Err NoNode) (acts_on o s u (s.hand u)) tt (on_passed o s u (s.hand u))

-- a drain changes neither boards nor plans
kept_read : (o : Setting) (u : ℕ) (log : List Entry) → SameEpochs o log (after_read o u log)
kept_read o u log =
    let k = length (history.boards log) - 1 in
    passed_keeps o log (reads o (sight_after o log) u k) (reads_passed o (sight_after o log) u k)

kept_act : (o : Setting) (u : ℕ) (log : List Entry) → SameEpochs o log (after_act o u log)
kept_act o u log = passed_keeps o log (acts o (sight_after o log) u) (acts_passed o (sight_after o log) u)

kept_take : (o : Setting) (u : ℕ) (way : Way) (log : List Entry) → SameEpochs o log (after_take o u way log)
kept_take o u way log = passed_keeps o log (takes o (sight_after o log) u way) (takes_passed o (sight_after o log) u way)

kept_way : (o : Setting) (u : ℕ) (way : Way) (log : List Entry) → SameEpochs o log (after_way o u way log)
kept_way o u way log = keeps_both o log (after_take o u way log) (after_way o u way log) (kept_take o u way log) (kept_act o u (after_take o u way log))

kept_ports : (o : Setting) (u : ℕ) (hops : List Hop) (log : List Entry) → SameEpochs o log (after_ports o u hops log)
kept_ports o u [] log = record { boards = refl; plans = refl; made = λ e. refl }
kept_ports o u (hop ∷ hops) log =
    keeps_both o log (after_way o u (Link hop.link) log) (after_ports o u (hop ∷ hops) log) (kept_way o u (Link hop.link) log) (kept_ports o u hops (after_way o u (Link hop.link) log))

kept_visit : (o : Setting) (u : ℕ) (log : List Entry) → SameEpochs o log (after_visit o u log)
kept_visit o u log =
    let seen = after_read o u log in
    let acted = after_act o u seen in
    let came = after_way o u Inbox acted in
    keeps_both o log seen (after_visit o u log) (kept_read o u log)
    (keeps_both o seen acted (after_visit o u log) (kept_act o u seen) (keeps_both o acted came (after_visit o u log) (kept_way o u Inbox acted) (kept_ports o u (ports_of o.topology u) came)))

kept_visits : (o : Setting) (k : ℕ) (log : List Entry) → SameEpochs o log (after_visits o k log)
kept_visits o zero log = record { boards = refl; plans = refl; made = λ e. refl }
kept_visits o (suc k) log = keeps_both o log (after_visits o k log) (after_visits o (suc k) log) (kept_visits o k log) (kept_visit o k (after_visits o k log))

pub kept_rounds : (o : Setting) (k : ℕ) (log : List Entry) → SameEpochs o log (after_rounds o k log)
kept_rounds o zero log = record { boards = refl; plans = refl; made = λ e. refl }
kept_rounds o (suc k) log = keeps_both o log (after_rounds o k log) (after_rounds o (suc k) log) (kept_rounds o k log) (kept_visits o (nodes_of o) (after_rounds o k log))

-- a step that is passed over leaves histories alike
alike_kept : (o p : Setting) (log mid other : List Entry) → SameEpochs o log mid → AreAlike o p log other → AreAlike o p mid other
alike_kept o p log mid other keeps is =
    record { boards = keeps.boards ∙ is.boards; plans = subst (λ (plans : List Plan). AreTwins plans (history.plans p other)) (sym keeps.plans) is.plans }

-- what a change of the board comes to
abbrev pub IsBoardChange : Result Entry Refused → Type 0
IsBoardChange (Err e) = Unit {0}
IsBoardChange (Ok (DidChange b)) = Unit {0}
IsBoardChange (Ok (DidInstall e t b)) = ⊥
IsBoardChange (Ok (DidInject id e s d m)) = ⊥
IsBoardChange (Ok (DidLearn e)) = ⊥
IsBoardChange (Ok (DidTake u way id)) = ⊥
IsBoardChange (Ok (DidRead u k)) = ⊥
IsBoardChange (Ok (DidAct u id way restamp v)) = ⊥

change_or : (x : Option Refused) (board : Board) → IsBoardChange (unless x (Ok (DidChange board)))
change_or (Some e) board = tt
change_or None board = tt

pub change_comes : (o : Setting) (s : Sight) (e : Event) → IsPlainChange e → (w : Result Entry Refused) → ComesTo o s e w → IsBoardChange w
change_comes o s (event.Retire f) is w comes = subst IsBoardChange (sym comes) (change_or (retire_refused (newest s) f) (retired_below (newest s) f))
change_comes o s (event.Down l) is w comes = subst IsBoardChange (sym comes) (change_or (mark_refused (links_of o) (newest s) l false) (marked (newest s) l false))
change_comes o s (event.Up l) is w comes = subst IsBoardChange (sym comes) (change_or (mark_refused (links_of o) (newest s) l true) (marked (newest s) l true))
change_comes o s (event.Avoid l) is w comes = subst IsBoardChange (sym comes) (change_or (heed_refused (links_of o) (newest s) l false) (heeding (newest s) l false))
change_comes o s (event.Heed l) is w comes = subst IsBoardChange (sym comes) (change_or (heed_refused (links_of o) (newest s) l true) (heeding (newest s) l true))
change_comes o s (event.Install kind root) is w comes = absurd is
change_comes o s (event.Renumber kind root) is w comes = absurd is
change_comes o s (event.Inject source dest) is w comes = absurd is
change_comes o s (event.Learn e) is w comes = absurd is
change_comes o s (event.Take u way) is w comes = absurd is
change_comes o s (event.Read u k) is w comes = absurd is
change_comes o s (event.Act u) is w comes = absurd is

-- Two settings over one network that label alike. A change comes to the same by the same boards.
module _ (o p : Setting) (over : o.topology ≡ p.topology) (order : o.labels ≡ p.labels) (keep : o.keeps ≡ p.keeps) (first : o.first.order ≡ p.first.order) where
  marks_same : (s t : Sight) (l : ℕ) (up : Bool) → s.boards ≡ t.boards → marks o s l up ≡ marks p t l up
  marks_same s t l up same =
      ap (λ (boards : List Board). marks o (record s { boards = boards }) l up) same ∙ ap (λ (net : Topology). marks (record o { topology = net }) t l up) over

  heeds_same : (s t : Sight) (l : ℕ) (heed : Bool) → s.boards ≡ t.boards → heeds o s l heed ≡ heeds p t l heed
  heeds_same s t l heed same =
      ap (λ (boards : List Board). heeds o (record s { boards = boards }) l heed) same ∙ ap (λ (net : Topology). heeds (record o { topology = net }) t l heed) over

  change_same : (s t : Sight) → s.boards ≡ t.boards → (e : Event) → IsPlainChange e → (w v : Result Entry Refused) → ComesTo o s e w → ComesTo p t e v → w ≡ v
  change_same s t same (event.Retire f) is w v comes goes = comes ∙ ap (λ (boards : List Board). retires (record s { boards = boards }) f) same ∙ sym goes
  change_same s t same (event.Down l) is w v comes goes = comes ∙ marks_same s t l false same ∙ sym goes
  change_same s t same (event.Up l) is w v comes goes = comes ∙ marks_same s t l true same ∙ sym goes
  change_same s t same (event.Avoid l) is w v comes goes = comes ∙ heeds_same s t l false same ∙ sym goes
  change_same s t same (event.Heed l) is w v comes goes = comes ∙ heeds_same s t l true same ∙ sym goes
  change_same s t same (event.Install kind root) is w v comes goes = absurd is
  change_same s t same (event.Renumber kind root) is w v comes goes = absurd is
  change_same s t same (event.Inject source dest) is w v comes goes = absurd is
  change_same s t same (event.Learn e) is w v comes goes = absurd is
  change_same s t same (event.Take u way) is w v comes goes = absurd is
  change_same s t same (event.Read u k) is w v comes goes = absurd is
  change_same s t same (event.Act u) is w v comes goes = absurd is

  changed : (log other : List Entry) → AreAlike o p log other → (w : Result Entry Refused) → IsBoardChange w → AreAlike o p (with_entry log w) (with_entry other w)
  changed log other is (Err e) h = is
  changed log other is (Ok (DidChange b)) h = record { boards = ap (λ (boards : List Board). boards ++ b ∷ []) is.boards; plans = is.plans }
  changed log other is (Ok (DidInstall e t b)) h = absurd h
  changed log other is (Ok (DidInject id e s d m)) h = absurd h
  changed log other is (Ok (DidLearn e)) h = absurd h
  changed log other is (Ok (DidTake u way id)) h = absurd h
  changed log other is (Ok (DidRead u k)) h = absurd h
  changed log other is (Ok (DidAct u id way restamp v)) h = absurd h

  change_alike : (log other : List Entry) → AreAlike o p log other → (e : Event) → IsPlainChange e → (w v : Result Entry Refused) → ComesTo o (sight_after o log) e w → ComesTo p (sight_after p other) e v →
      AreAlike o p (with_entry log w) (with_entry other v)
  change_alike log other is e change w v comes goes =
      let same = change_same (sight_after o log) (sight_after p other) is.boards e change w v comes goes in
      subst (λ (x : Result Entry Refused). AreAlike o p (with_entry log w) (with_entry other x)) same (changed log other is w (change_comes o (sight_after o log) e change w comes))

  -- an install, which is refused by both or accepted by both
  up_same : (log other : List Entry) → AreAlike o p log other → topology_up o (sight_after o log) ≡ topology_up p (sight_after p other)
  up_same log other is =
      ap (λ (boards : List Board). restrict (links_used (newest_of boards) (links_of o)) o.topology) is.boards
      ∙ ap (λ (net : Topology). restrict (links_used (newest_of (history.boards other)) (length net.links)) net) over

  refused_same : (log other : List Entry) → AreAlike o p log other → (root : ℕ) → install_refusal o (sight_after o log) root ≡ install_refusal p (sight_after p other) root
  refused_same log other is root =
      ap (λ (boards : List Board). install_refused (nodes_of o) (length (history.plans o log)) (newest_of boards) root) is.boards
      ∙ ap (λ (n : ℕ). install_refused (nodes_of o) n (newest_of (history.boards other)) root) (twins-length _ _ is.plans)
      ∙ ap (λ (net : Topology). install_refusal (record p { topology = net }) (sight_after p other) root) over

  not_both : (labels : Labelling) (kind : Kind) (net : Topology) (t : Plan) → IsMade labels kind net (Some t) → IsDisconnected net → ⊥
  not_both labels kind net t made apart =
      let walk = subst (λ (n : Topology). IsConnected n) made.over made.valid.connected apart.0 apart.1 apart.2 apart.3 in
      apart.4 walk.0 walk.1

  -- by what the next plan is labelled
  labels_same : (log other : List Entry) → AreAlike o p log other → (kind : Kind) (root : ℕ) → labelling_next o (sight_after o log) kind root ≡ labelling_next p (sight_after p other) kind root
  labels_same log other is kind root = next_same o p order keep first (history.plans o log) (history.plans p other) is.plans kind root

  installed_alike : (log other : List Entry) → AreAlike o p log other → (labels : Labelling) (kind : Kind) (x y : Option Plan) → IsMade labels kind (topology_up o (sight_after o log)) x → IsMade labels kind (topology_up p (sight_after p other)) y →
      AreAlike o p (with_entry log (installs_made (sight_after o log) x)) (with_entry other (installs_made (sight_after p other) y))
  installed_alike log other is labels kind None None made given = is
  installed_alike log other is labels kind None (Some u) made given =
      absurd (not_both labels kind (topology_up p (sight_after p other)) u given (subst (λ (net : Topology). IsDisconnected net) (up_same log other is) made))
  installed_alike log other is labels kind (Some t) None made given =
      absurd (not_both labels kind (topology_up o (sight_after o log)) t made (subst (λ (net : Topology). IsDisconnected net) (sym (up_same log other is)) given))
  installed_alike log other is labels kind (Some t) (Some u) made given =
      let count = twins-length (history.plans o log) (history.plans p other) is.plans in
      let board = ap (λ (boards : List Board). installed (newest_of boards) (length (history.plans o log) + 1)) is.boards ∙ ap (λ (n : ℕ). installed (newest_of (history.boards other)) (n + 1)) count in
      let here = subst (λ (net : Topology). IsMade labels kind net (Some t)) (up_same log other is) made in
      record {
        boards = ap (λ (boards : List Board). boards ++ installed (newest_of (history.boards log)) (length (history.plans o log) + 1) ∷ []) is.boards ∙ ap (λ (b : Board). history.boards other ++ b ∷ []) board;
        plans = twins-push (history.plans o log) (history.plans p other) t u is.plans (twins (topology_up p (sight_after p other)) kind labels u t given here);
      }

  install_alike : (log other : List Entry) → AreAlike o p log other → (labels theirs : Labelling) → labels ≡ theirs → (kind : Kind) (root : ℕ) (w v : Result Entry Refused) →
      Installs o (sight_after o log) labels kind root w → Installs p (sight_after p other) theirs kind root v → AreAlike o p (with_entry log w) (with_entry other v)
  install_alike log other is labels theirs by kind root w v comes goes =
      either (install_refusal o (sight_after o log) root) (install_refusal p (sight_after p other) root) (refused_same log other is root) comes
      (subst (λ (l : Labelling). Installs p (sight_after p other) l kind root v) (sym by) goes)
    where
      either : (x y : Option Refused) → x ≡ y → InstallsUnless o (sight_after o log) labels kind w x → InstallsUnless p (sight_after p other) labels kind v y → AreAlike o p (with_entry log w) (with_entry other v)
      either (Some e) (Some f) same comes goes =
          subst (λ (z : Result Entry Refused). AreAlike o p (with_entry log z) (with_entry other v)) (sym comes) (subst (λ (z : Result Entry Refused). AreAlike o p log (with_entry other z)) (sym goes) is)
      either (Some e) None same comes goes = absurd (none-some e (sym same))
      either None (Some f) same comes goes = absurd (none-some f same)
      either None None same comes goes =
          subst (λ (z : Result Entry Refused). AreAlike o p (with_entry log z) (with_entry other v)) (sym comes.2)
          (subst (λ (z : Result Entry Refused). AreAlike o p (with_entry log (installs_made (sight_after o log) comes.0)) (with_entry other z)) (sym goes.2) (installed_alike log other is labels kind comes.0 goes.0 comes.1 goes.1))

  -- what an event that is no controller's comes to
  event_passed : (s : Sight) (w v : Result Entry Refused) → IsPassed v → w ≡ v → IsPassed w
  event_passed s w v is comes = subst (λ (x : Result Entry Refused). IsPassed x) (sym comes) is

  skipped : (log other later next : List Entry) → AreAlike o p log other → (w : Result Entry Refused) → IsPassed w → later ≡ with_entry log w → next ≡ other → AreAlike o p later next
  skipped log other later next is w passed went stays =
      subst (λ (x : List Entry). AreAlike o p x next) (sym went) (subst (λ (x : List Entry). AreAlike o p (with_entry log w) x) (sym stays) (alike_kept o p log (with_entry log w) other (passed_keeps o log w passed) is))

  taken : (log other later next : List Entry) (w v : Result Entry Refused) → later ≡ with_entry log w → next ≡ with_entry other v → AreAlike o p (with_entry log w) (with_entry other v) → AreAlike o p later next
  taken log other later next w v went goes is =
      subst (λ (x : List Entry). AreAlike o p x next) (sym went) (subst (λ (x : List Entry). AreAlike o p (with_entry log w) x) (sym goes) is)

  event_alike : (log other later next : List Entry) → AreAlike o p log other → (e : Event) (w : Result Entry Refused) → ComesTo o (sight_after o log) e w → later ≡ with_entry log w → IsControlled p other (step.Event e) next → AreAlike o p later next
  event_alike log other later next is (event.Install kind root) w comes went t =
      taken log other later next w t.0 went t.2 (install_alike log other is _ _ (labels_same log other is kind root) kind root w t.0 comes t.1)
  event_alike log other later next is (event.Renumber kind root) w comes went t =
      taken log other later next w t.0 went t.2 (install_alike log other is _ _ (ap (λ (n : LabelOrder). FromRoot n root) order) kind root w t.0 comes t.1)
  event_alike log other later next is (event.Retire f) w comes went t = taken log other later next w t.0 went t.2 (change_alike log other is (event.Retire f) tt w t.0 comes t.1)
  event_alike log other later next is (event.Down l) w comes went t = taken log other later next w t.0 went t.2 (change_alike log other is (event.Down l) tt w t.0 comes t.1)
  event_alike log other later next is (event.Up l) w comes went t = taken log other later next w t.0 went t.2 (change_alike log other is (event.Up l) tt w t.0 comes t.1)
  event_alike log other later next is (event.Avoid l) w comes went t = taken log other later next w t.0 went t.2 (change_alike log other is (event.Avoid l) tt w t.0 comes t.1)
  event_alike log other later next is (event.Heed l) w comes went t = taken log other later next w t.0 went t.2 (change_alike log other is (event.Heed l) tt w t.0 comes t.1)
  event_alike log other later next is (event.Inject source dest) w comes went stays =
      skipped log other later next is w (event_passed (sight_after o log) w (injects o (sight_after o log) source dest) (injects_passed o (sight_after o log) source dest) comes) went stays
  event_alike log other later next is (event.Learn e) w comes went stays =
      skipped log other later next is w (event_passed (sight_after o log) w (learns (sight_after o log) e) (learns_passed (sight_after o log) e) comes) went stays
  event_alike log other later next is (event.Take u way) w comes went stays =
      skipped log other later next is w (event_passed (sight_after o log) w (takes o (sight_after o log) u way) (takes_passed o (sight_after o log) u way) comes) went stays
  event_alike log other later next is (event.Read u k) w comes went stays =
      skipped log other later next is w (event_passed (sight_after o log) w (reads o (sight_after o log) u k) (reads_passed o (sight_after o log) u k) comes) went stays
  event_alike log other later next is (event.Act u) w comes went stays =
      skipped log other later next is w (event_passed (sight_after o log) w (acts o (sight_after o log) u) (acts_passed o (sight_after o log) u) comes) went stays

  answer_alike : (log other later next : List Entry) → AreAlike o p log other → (e : Event) (reply : Result Reply Refused) → reply ≢ Err NoMemory → IsAnswered o log e reply later → IsControlled p other (step.Event e) next → AreAlike o p later next
  answer_alike log other later next is e reply memory (inl a) t = event_alike log other later next is e a.0 a.1 a.3 t
  answer_alike log other later next is e reply memory (inr a) t = absurd (memory a.1)

  step_alike : (log other later next : List Entry) → AreAlike o p log other → (x : Step) (reply : Result Reply Refused) → reply ≢ Err NoMemory → IsStepAnswered o log x reply later → IsControlled p other x next → AreAlike o p later next
  step_alike log other later next is (step.Event e) reply memory answered t = answer_alike log other later next is e reply memory answered t
  step_alike log other later next is step.Drain reply memory answered stays =
      let keeps = kept_rounds o (suc answered.1.rounds) log in
      subst (λ (x : List Entry). AreAlike o p x next) (sym answered.1.ends)
      (subst (λ (x : List Entry). AreAlike o p (after_rounds o (suc answered.1.rounds) log) x) (sym stays) (alike_kept o p log (after_rounds o (suc answered.1.rounds) log) other keeps is))

  run_alike : (steps : List Step) (replies : List (Result Reply Refused)) (log other later next : List Entry) → AreAlike o p log other → NoneWantsMemory replies → IsRun o log steps replies later → IsControlRun p other steps next →
      AreAlike o p later next
  run_alike [] [] log other later next is memory run control =
      subst (λ (x : List Entry). AreAlike o p x next) (sym run) (subst (λ (x : List Entry). AreAlike o p log x) (sym control) is)
  run_alike [] (reply ∷ replies) log other later next is memory run control = absurd run
  run_alike (x ∷ steps) [] log other later next is memory run control = absurd run
  run_alike (x ∷ steps) (reply ∷ replies) log other later next is memory run control =
      run_alike steps replies run.0 control.0 later next
      (step_alike log other run.0 control.0 is x reply (All-head (λ (r : Result Reply Refused). r ≢ Err NoMemory) reply replies memory) run.1 control.1)
      (All-tail (λ (r : Result Reply Refused). r ≢ Err NoMemory) reply replies memory) run.2 control.2

-- the first epochs of two openings alike
pub first_twins : (opening : Opening) (o p : Setting) → IsOpenedWith opening o → IsOpenedWith opening p → IsTwin p.first o.first
first_twins opening o p a b = twins opening.topology opening.kind (FromRoot opening.labels opening.root) p.first o.first b.first a.first

-- the epochs of a run are built from the installs of its steps
pub epochs_built : (opening : Opening) (steps : List Step) (replies : List (Result Reply Refused)) (world : World) (installs : List Install) →
    AreEpochsOf opening steps replies world installs
epochs_built opening steps replies world installs opened played memory built =
    let o = world.opening in
    let p = built.setting in
    let over = opened.topology ∙ sym built.opened.topology in
    let order = opened.labels ∙ sym built.opened.labels in
    let twin = first_twins opening o p opened built.opened in
    let start : AreAlike o p [] [] = record { boards = refl; plans = (twin, tt) } in
    let alike = run_alike o p over order (opened.keeps ∙ sym built.opened.keeps) (sym twin.order) steps replies [] [] played.log built.log start memory played.run built.run in
    subst (λ (plans : List Plan). AreBuiltFrom o installs plans) (sym played.shows.plans) (twins_built o p over order installs (history.plans o played.log) (history.plans p built.log) alike.plans built.built)

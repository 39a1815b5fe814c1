-- What commands make of the board and of the epochs.
use Rattle.std.specs.Prelude.{◌≡◌, ◌⊎◌, ℕ, zero, suc, ◌+◌, ◌<◌, ◌≤◌, Bool, true, false, nat_lt, nat_le, cond, List, [], ◌∷◌, ◌++◌, All, Option, Some, None, Ok, Err, length, take, slice_set}
use Rattle.std.proofs.Common.{refl, sym, ap, ◌∙◌, subst, arith, inl, inr}
use Rattle.std.proofs.lemmas.Bool.{leb-true}
use Rattle.std.proofs.lemmas.Grind.{common_steps}
use Rattle.std.proofs.lemmas.List.{take-replicate, take-append-le, take_all, length-append}
use Rattle.std.proofs.lemmas.List.Elements.{All-nil, All-push, All-append}
use Rattle.std.proofs.Math.Seq.{take-set-lt}
use Rattle.ir_model.specs.declared.Kind.{Kind}
use Rattle.ir_model.specs.Topology.{Topology, restrict}
use Rattle.ir_plan.specs.declared.tour.LabelOrder.{LabelOrder}
use Rattle.ir_plan.specs.Building.{Labelling, FromRoot}
use Rattle.ir_core.specs.Drafts.{kept_order, labelling_by}
use Rattle.ir_core.specs.declared.TheConstants.{MAX_LINKS}
use Rattle.ir_core.specs.declared.board.Board.{Board}
use Rattle.ir_core.specs.Marks.{both}
use Rattle.ir_core.specs.Board.{links_used, marked, heeding}
use Rattle.ir_core.specs.Meaning.{IsMade}
use Rattle.ir_epochs.specs.declared.registry.Stamp.{Stamp}
use Rattle.ir_epochs.specs.declared.handles.Receipt.{Receipt}
use Rattle.ir_epochs.specs.declared.entry.Entry.{Entry}
use Rattle.ir_epochs.specs.declared.entry.Entry.TheVariants.{Opened, Changed}
use Rattle.ir_epochs.specs.declared.entry.Change.{Change}
use Rattle.ir_epochs.specs.declared.entry.Change.TheVariants as change
use Rattle.ir_epochs.specs.Entries.{board_of, changed, stamp_next, installed_stamp}
use Rattle.ir_epochs.specs.Handles.{published, writer_board}
use Rattle.ir_epochs.specs.Stamps.{knows, registry_name}
use Rattle.ir_epochs.proofs.Rising.{board_last}
use Rattle.ir_epochs.proofs.Lasts.{stamp_more}
use Rattle.ir_links.specs.Ends.{Word}
use Rattle.ir_worker.specs.declared.node.Node.{Node}
use Rattle.ir_core.specs.declared.event.Refused.{Refused}
use Rattle.ir_core.specs.declared.event.Refused.TheVariants.{NoLink}
use Rattle.ir_core.specs.Refusals.{mark_refused, heed_refused}
use Rattle.ir_core.specs.declared.command.Command.{Command}
use Rattle.ir_core.specs.declared.command.Command.TheVariants.{Inject, Install, Renumber, Retire, Down, Up, Avoid, Heed, Drain}
use Rattle.std.specs.List.{AllByRecursion}
use Rattle.ir_worker.specs.Account.{NeverCurrent}
use Rattle.ir_worker.specs.Seen.{Parcel}
use Rattle.ir_worker.proofs.Restamps.{never_now}
use Rattle.ir_control.specs.declared.net.Net.{Net}
use Rattle.ir_control.specs.declared.controller.Controller.{Controller}
use Rattle.ir_control.specs.Changes.{order_of, current_order, topology_up, labelling_next, Publishes, PublishesNothing}
use Rattle.ir_control.specs.Nets.{first_plan}
use Rattle.ir_control.specs.Parts.{AreFreshParts}
use Rattle.ir_control.specs.Desks.{Desk}
use Rattle.ir_control.specs.Agreed.{AreOfOne}
use Rattle.ir_control.specs.Answers.{CommandAnswer, epoch_after}
use Rattle.ir_control.specs.Planned.{LinkMarks, all_marked, used_in, marks_after, stamp_by, stamps_in, IsPlannedAs, IsAsked, AreAsked}
use Rattle.ir_control.specs.Carried.{IsChangedAs, IsInstalledAs, InstallsAndLearns, IsCarriedOut, AreCarriedOut}

-- a mark that is not refused is that of a link
link_in : (links l : ℕ) (rest : Option Refused) → cond (nat_le links l) (Some NoLink) rest ≡ None → l < links
link_in links l rest e = by (nat_le links l) rest refl e
  where
    by : (t : Bool) (rest : Option Refused) → nat_le links l ≡ t → cond t (Some NoLink) rest ≡ None → l < links
    by true rest is e = absurd (cc e)
    by false rest is e = grind (arith, common_steps)

no_stamp : (P : Stamp → Type 0) (x : CommandAnswer) → stamp_by x ≡ [] → All P (stamp_by x)
no_stamp P x none = subst (All P) (sym none) (All-nil P)

used_le : {X : Type 0} (m n : ℕ) → (n ≡ m) ⊎ ((n ≡ m + 1) × X) → m ≤ n
used_le m n (inl e) = omega (arith, e)
used_le m n (inr e) = (let more = e.0 in omega (arith, more))

after_epoch : (last most : ℕ) (s : Stamp) → last ≤ most → s.epoch ≤ most → epoch_after last (Ok (Some s)) ≤ most
after_epoch last most s a b = by (nat_lt last s.epoch)
  where
    by : (t : Bool) → cond t s.epoch last ≤ most
    by true = b
    by false = a

-- a beginning of a list with one entry more is one of the list, or the whole
take_last : (xs : List Entry) (e : Entry) (n : ℕ) → (take n (xs ++ e ∷ []) ≡ take n xs) ⊎ (take n (xs ++ e ∷ []) ≡ xs ++ e ∷ [])
take_last xs e n = by (nat_le n (length xs)) refl
  where
    by : (t : Bool) → nat_le n (length xs) ≡ t → (take n (xs ++ e ∷ []) ≡ take n xs) ⊎ (take n (xs ++ e ∷ []) ≡ xs ++ e ∷ [])
    by true is = inl (take-append-le n xs (e ∷ []) (leb-true n (length xs) is))
    by false is =
        let beyond : length xs < n = grind (arith, common_steps) in
        inr (take_all n (xs ++ e ∷ []) (let m = length-append xs (e ∷ []) in omega (arith, m, beyond)))

-- one change more, after which no epoch is current that passes the test
never_more : (p : ℕ → Bool) (xs : List Entry) (c : Change) → NeverCurrent p xs → p (changed (board_of xs) c).current ≡ false → NeverCurrent p (xs ++ Changed c ∷ [])
never_more p xs c never now n = by (take_last xs (Changed c) n)
  where
    by : (take n (xs ++ Changed c ∷ []) ≡ take n xs) ⊎ (take n (xs ++ Changed c ∷ []) ≡ xs ++ Changed c ∷ []) → p (board_of (take n (xs ++ Changed c ∷ []))).current ≡ false
    by (inl e) = ap (λ (ys : List Entry). p (board_of ys).current) e ∙ never n
    by (inr e) = ap (λ (ys : List Entry). p (board_of ys).current) e ∙ ap (λ (b : Board). p b.current) (board_last xs c) ∙ now

never_at_first : (p : ℕ → Bool) (links : ℕ) (s : Stamp) → p 1 ≡ false → NeverCurrent p (Opened links s ∷ [])
never_at_first p links s none zero = none
never_at_first p links s none (suc n) = ap (λ (ys : List Entry). p (board_of ys).current) (take_all (suc n) (Opened links s ∷ []) (omega arith)) ∙ none

module _ {B : Type 0} (net : Net) (origin : Controller B) where
  -- the controller is of the net and of the board of another one, on which the links have these marks and the current
  -- epoch has this order, and has used up this epoch
  pub record Stands (m : LinkMarks) (last : ℕ) (c : Controller B) : Type 0 where
    pub opening : c.opening ≡ net.opening
    pub labels : c.labels ≡ net.labels
    pub keeps : c.keeps ≡ net.keeps
    pub newest : current_order c ≡ m.order
    pub board : writer_board c.writer ≡ writer_board origin.writer
    pub ups : take (length net.topology.links) (board_of (published c.writer)).up ≡ m.up
    pub heeds : take (length net.topology.links) (board_of (published c.writer)).heeded ≡ m.heeded
    pub used : last ≤ c.used

  abbrev links : ℕ
  links = length net.topology.links

  same_up : (m : LinkMarks) (last : ℕ) (c : Controller B) → Stands m last c → topology_up c ≡ restrict (used_in m) net.topology
  same_up m last c is =
      let over : (knows c.opening).topology ≡ net.topology = ap (λ (s : Stamp). (knows s).topology) is.opening ∙ net.opened.topology in
      ap (λ (g : Topology). restrict (links_used (board_of (published c.writer)) (length g.links)) g) over
      ∙ ap (λ (up : List Bool). restrict (both up (take links (board_of (published c.writer)).heeded)) net.topology) is.ups
      ∙ ap (λ (heeded : List Bool). restrict (both m.up heeded) net.topology) is.heeds

  unmoved : (m : LinkMarks) (last : ℕ) (a b : Controller B) → b ≡ a → Stands m last a → Stands m last b
  unmoved m last a b same is = subst (λ (c : Controller B). Stands m last c) (sym same) is

  nothing : (m : LinkMarks) (last : ℕ) (a b : Controller B) → PublishesNothing a b → a.used ≤ b.used → Stands m last a → Stands m last b
  nothing m last a b none le is = record {
    opening = none.opening ∙ is.opening;
    labels = none.labels ∙ is.labels;
    keeps = none.keeps ∙ is.keeps;
    newest = ap (λ (xs : List Entry). order_of (installed_stamp xs)) none.published_is ∙ is.newest;
    board = none.board ∙ is.board;
    ups = ap (λ (xs : List Entry). take links (board_of xs).up) none.published_is ∙ is.ups;
    heeds = ap (λ (xs : List Entry). take links (board_of xs).heeded) none.published_is ∙ is.heeds;
    used = (let u = is.used in omega (arith, u, le));
  }

  -- the links have these marks on a board
  abbrev IsMarkedAs : LinkMarks → Board → Type 0
  IsMarkedAs m b = (take links b.up ≡ m.up) × (take links b.heeded ≡ m.heeded)

  one_more : (m m' : LinkMarks) (last last' : ℕ) (a b : Controller B) (c : Change) (t : Receipt) → Publishes a b c t → IsMarkedAs m' (changed (board_of (published a.writer)) c)
      → order_of (stamp_next (installed_stamp (published a.writer)) c) ≡ m'.order → last' ≤ b.used → Stands m last a → Stands m' last' b
  one_more m m' last last' a b c t more marks by le is = record {
    opening = more.opening ∙ is.opening;
    labels = more.labels ∙ is.labels;
    keeps = more.keeps ∙ is.keeps;
    newest = ap (λ (xs : List Entry). order_of (installed_stamp xs)) more.published_is ∙ ap order_of (stamp_more (published a.writer) c) ∙ by;
    board = more.board ∙ is.board;
    ups = ap (λ (xs : List Entry). take links (board_of xs).up) more.published_is ∙ ap (λ (b : Board). take links b.up) (board_last (published a.writer) c) ∙ marks.0;
    heeds = ap (λ (xs : List Entry). take links (board_of xs).heeded) more.published_is ∙ ap (λ (b : Board). take links b.heeded) (board_last (published a.writer) c) ∙ marks.1;
    used = le;
  }

  -- a change that installs nothing
  accepted : (why_not : Option Refused) (c : Change) (m m' : LinkMarks) (last : ℕ) (a b : Desk B) → IsChangedAs why_not c a (Ok None) b → Stands m last a.controller
      → (why_not ≡ None → IsMarkedAs m' (changed (board_of (published a.controller.writer)) c)) → ((o : Option Stamp) → stamp_next o c ≡ o) → m.order ≡ m'.order → Stands m' last b.controller
  accepted why_not c m m' last a b done is marks none same_order =
      one_more m m' last last a.controller b.controller c done.1.0 done.1.1.1.1 (marks done.1.1.1.0) (ap order_of (none (installed_stamp (published a.controller.writer))) ∙ is.newest ∙ same_order) (let u = is.used in let same = done.1.1.0 in omega (arith, u, same)) is

  rejected : (why_not : Option Refused) (c : Change) (m : LinkMarks) (last : ℕ) (a b : Desk B) (why : Refused) → IsChangedAs why_not c a (Err why) b → Stands m last a.controller → Stands m last b.controller
  rejected why_not c m last a b why done is = nothing m last a.controller b.controller done.1.1.1 (let same = done.1.0 in omega (arith, same)) is

  -- a link's mark
  link_here : (m : LinkMarks) (last : ℕ) (c : Controller B) (l : ℕ) (rest : Option Refused) → Stands m last c → cond (nat_le (length (knows c.opening).topology.links) l) (Some NoLink) rest ≡ None → l < links
  link_here m last c l rest is allowed =
      let over : length (knows c.opening).topology.links ≡ links = ap (λ (s : Stamp). length (knows s).topology.links) is.opening ∙ ap (λ (g : Topology). length g.links) net.opened.topology in
      let within = link_in (length (knows c.opening).topology.links) l rest allowed in
      omega (arith, over, within)

  set_there : (xs ys : List Bool) (l : ℕ) (w : Bool) → take links xs ≡ ys → l < links → take links (slice_set xs l w) ≡ slice_set ys l w
  set_there xs ys l w is within = take-set-lt links xs l w within ∙ ap (λ (marks : List Bool). slice_set marks l w) is

  marked_up : (m : LinkMarks) (last : ℕ) (c : Controller B) (l : ℕ) (w : Bool) → Stands m last c → mark_refused (length (knows c.opening).topology.links) (board_of (published c.writer)) l w ≡ None
      → IsMarkedAs (record m { up = slice_set m.up l w }) (marked (board_of (published c.writer)) l w)
  marked_up m last c l w is allowed = (set_there _ _ l w is.ups (link_here m last c l _ is allowed), is.heeds)

  marked_heeded : (m : LinkMarks) (last : ℕ) (c : Controller B) (l : ℕ) (w : Bool) → Stands m last c → heed_refused (length (knows c.opening).topology.links) (board_of (published c.writer)) l w ≡ None
      → IsMarkedAs (record m { heeded = slice_set m.heeded l w }) (heeding (board_of (published c.writer)) l w)
  marked_heeded m last c l w is allowed = (is.ups, set_there _ _ l w is.heeds (link_here m last c l _ is allowed))

  of_one : (keeps : Bool) (kind : Kind) (root : ℕ) (m : LinkMarks) (last : ℕ) (a b : Desk B) (s : Stamp) → InstallsAndLearns a b keeps kind root s → Stands m last a.controller → registry_name s ≡ registry_name net.opening
  of_one keeps kind root m last a b s done is =
      ap registry_name (sym done.stamp_is) ∙ done.installs.registered ∙ sym a.controller.of_registry ∙ ap registry_name is.opening

  -- by what a plan is labelled
  labels_same : (keeps : Bool) (kind : Kind) (root : ℕ) (m : LinkMarks) (last : ℕ) (c : Controller B) → Stands m last c → labelling_next c keeps kind root ≡ labelling_by net.labels root (kept_order keeps kind m.order)
  labels_same keeps kind root m last c is =
      ap (λ (n : LabelOrder). labelling_by n root (kept_order keeps kind (current_order c))) is.labels ∙ ap (λ (xs : List ℕ). labelling_by net.labels root (kept_order keeps kind xs)) is.newest

  installed : (keeps : Bool) (kind : Kind) (root : ℕ) (m : LinkMarks) (last : ℕ) (a b : Desk B) (s : Stamp) → InstallsAndLearns a b keeps kind root s → Stands m last a.controller →
      IsPlannedAs (labelling_by net.labels root (kept_order keeps kind m.order)) kind net.topology m last (Ok (Some s)) × Stands (record m { order = (knows s).order }) (epoch_after last (Ok (Some s))) b.controller
  installed keeps kind root m last a b s done is =
      let i = done.installs in
      let same : i.stamp.epoch ≡ s.epoch = ap (λ (x : Stamp). x.epoch) done.stamp_is in
      let number = i.epoch in
      let before = is.used in
      let now = i.used in
      let labels = labelling_by net.labels root (kept_order keeps kind m.order) in
      let made : IsMade labels kind (restrict (used_in m) net.topology) (Some (knows i.stamp)) =
      subst (λ (l : Labelling). IsMade l kind (restrict (used_in m) net.topology) (Some (knows i.stamp))) (labels_same keeps kind root m last a.controller is)
      (subst (λ (g : Topology). IsMade (labelling_next a.controller keeps kind root) kind g (Some (knows i.stamp))) (same_up m last a.controller is) i.plan) in (
        (omega (arith, same, number, before), subst (λ (x : Stamp). IsMade labels kind (restrict (used_in m) net.topology) (Some (knows x))) done.stamp_is made),
        one_more m (record m { order = (knows s).order }) last (epoch_after last (Ok (Some s))) a.controller b.controller (change.Install i.stamp) done.receipt i.publishes (is.ups, is.heeds)
            (ap (λ (x : Stamp). (knows x).order) done.stamp_is) (after_epoch last b.controller.used s (omega (arith, before, now)) (omega (arith, same, number, now))) is,
      )

  -- an install that is refused
  not_installed : (keeps : Bool) (kind : Kind) (root : ℕ) (m : LinkMarks) (last : ℕ) (a b : Desk B) (why : Refused) → IsInstalledAs keeps kind root a (Err why) b → Stands m last a.controller → Stands m last b.controller
  not_installed keeps kind root m last a b why done is = nothing m last a.controller b.controller done.1.nothing (used_le a.controller.used b.controller.used done.1.used) is

  module _ (was_full : Word Parcel) where
    step : (c : Command) (m : LinkMarks) (last : ℕ) (a b : Desk B) (answer : CommandAnswer) → IsCarriedOut was_full c a answer b → Stands m last a.controller →
        IsAsked net.labels net.keeps net.topology m last c answer × Stands (marks_after m c answer) (epoch_after last answer) b.controller
    step (Inject source dest) m last a b (Ok None) done is = (refl, unmoved m last a.controller b.controller done.3 is)
    step (Inject source dest) m last a b (Ok (Some s)) done is = absurd done.0
    step (Inject source dest) m last a b (Err why) done is = (refl, unmoved m last a.controller b.controller done.3 is)
    step (Install kind root) m last a b (Ok None) done is = absurd done
    step (Install kind root) m last a b (Ok (Some s)) done is =
        let one = installed a.controller.keeps kind root m last a b s done is in
        (subst (λ (k : Bool). IsPlannedAs (labelling_by net.labels root (kept_order k kind m.order)) kind net.topology m last (Ok (Some s))) is.keeps one.0, one.1)
    step (Install kind root) m last a b (Err why) done is = (tt, not_installed a.controller.keeps kind root m last a b why done is)
    step (Renumber kind root) m last a b (Ok None) done is = absurd done
    step (Renumber kind root) m last a b (Ok (Some s)) done is = installed false kind root m last a b s done is
    step (Renumber kind root) m last a b (Err why) done is = (tt, not_installed false kind root m last a b why done is)
    step (Retire floor) m last a b (Ok None) done is = (refl, accepted _ (change.Retire floor) m m last a b done is (λ allowed. (is.ups, is.heeds)) (λ o. refl) refl)
    step (Retire floor) m last a b (Ok (Some s)) done is = absurd done
    step (Retire floor) m last a b (Err why) done is = (refl, rejected _ (change.Retire floor) m last a b why done is)
    step (Down l) m last a b (Ok None) done is = (refl, accepted _ (change.Down l) m (record m { up = slice_set m.up l false }) last a b done is (λ allowed. marked_up m last a.controller l false is allowed) (λ o. refl) refl)
    step (Down l) m last a b (Ok (Some s)) done is = absurd done
    step (Down l) m last a b (Err why) done is = (refl, rejected _ (change.Down l) m last a b why done is)
    step (Up l) m last a b (Ok None) done is = (refl, accepted _ (change.Up l) m (record m { up = slice_set m.up l true }) last a b done is (λ allowed. marked_up m last a.controller l true is allowed) (λ o. refl) refl)
    step (Up l) m last a b (Ok (Some s)) done is = absurd done
    step (Up l) m last a b (Err why) done is = (refl, rejected _ (change.Up l) m last a b why done is)
    step (Avoid l) m last a b (Ok None) done is = (refl, accepted _ (change.Avoid l) m (record m { heeded = slice_set m.heeded l false }) last a b done is (λ allowed. marked_heeded m last a.controller l false is allowed) (λ o. refl) refl)
    step (Avoid l) m last a b (Ok (Some s)) done is = absurd done
    step (Avoid l) m last a b (Err why) done is = (refl, rejected _ (change.Avoid l) m last a b why done is)
    step (Heed l) m last a b (Ok None) done is = (refl, accepted _ (change.Heed l) m (record m { heeded = slice_set m.heeded l true }) last a b done is (λ allowed. marked_heeded m last a.controller l true is allowed) (λ o. refl) refl)
    step (Heed l) m last a b (Ok (Some s)) done is = absurd done
    step (Heed l) m last a b (Err why) done is = (refl, rejected _ (change.Heed l) m last a b why done is)
    step Drain m last a b (Ok None) done is = (refl, unmoved m last a.controller b.controller done.2 is)
    step Drain m last a b (Ok (Some s)) done is = absurd (let e = done.0 in cc e)
    step Drain m last a b (Err why) done is = absurd (let e = done.0 in cc e)

    pub all_asked : (commands : List Command) (m : LinkMarks) (last : ℕ) (a b : Desk B) (answers : List CommandAnswer) → AreCarriedOut was_full commands a answers b → Stands m last a.controller → AreAsked net.labels net.keeps net.topology m last commands answers
    all_asked [] m last a b answers done is = tt
    all_asked (c ∷ commands) m last a b [] done is = tt
    all_asked (c ∷ commands) m last a b (x ∷ answers) done is =
        let one = step c m last a done.0 x done.1 is in
        (one.0, all_asked commands (marks_after m c x) (epoch_after last x) done.0 b answers done.2 one.1)

    -- it is the same board
    pub same_board : (commands : List Command) (m : LinkMarks) (last : ℕ) (a b : Desk B) (answers : List CommandAnswer) → AreCarriedOut was_full commands a answers b → Stands m last a.controller → writer_board b.controller.writer ≡ writer_board origin.writer
    same_board [] m last a b [] done is = ap (λ (d : Desk B). writer_board d.controller.writer) done ∙ is.board
    same_board [] m last a b (x ∷ answers) done is = absurd done
    same_board (c ∷ commands) m last a b [] done is = absurd done
    same_board (c ∷ commands) m last a b (x ∷ answers) done is =
        same_board commands (marks_after m c x) (epoch_after last x) done.0 b answers done.2 (step c m last a done.0 x done.1 is).1

    -- the stamps that were installed are of the net's registry
    stamp_of_one : (c : Command) (m : LinkMarks) (last : ℕ) (a b : Desk B) (x : CommandAnswer) → IsCarriedOut was_full c a x b → Stands m last a.controller → AreOfOne net.opening (stamp_by x)
    stamp_of_one (Install kind root) m last a b (Ok (Some s)) done is = All-push (λ t. registry_name t ≡ registry_name net.opening) [] s (All-nil (λ t. registry_name t ≡ registry_name net.opening)) (of_one a.controller.keeps kind root m last a b s done is)
    stamp_of_one (Install kind root) m last a b (Ok None) done is = absurd done
    stamp_of_one (Install kind root) m last a b (Err why) done is = All-nil (λ t. registry_name t ≡ registry_name net.opening)
    stamp_of_one (Renumber kind root) m last a b (Ok (Some s)) done is = All-push (λ t. registry_name t ≡ registry_name net.opening) [] s (All-nil (λ t. registry_name t ≡ registry_name net.opening)) (of_one false kind root m last a b s done is)
    stamp_of_one (Renumber kind root) m last a b (Ok None) done is = absurd done
    stamp_of_one (Renumber kind root) m last a b (Err why) done is = All-nil (λ t. registry_name t ≡ registry_name net.opening)
    stamp_of_one (Inject source dest) m last a b x done is = no_stamp (λ t. registry_name t ≡ registry_name net.opening) x (step (Inject source dest) m last a b x done is).0
    stamp_of_one (Retire floor) m last a b x done is = no_stamp (λ t. registry_name t ≡ registry_name net.opening) x (step (Retire floor) m last a b x done is).0
    stamp_of_one (Down l) m last a b x done is = no_stamp (λ t. registry_name t ≡ registry_name net.opening) x (step (Down l) m last a b x done is).0
    stamp_of_one (Up l) m last a b x done is = no_stamp (λ t. registry_name t ≡ registry_name net.opening) x (step (Up l) m last a b x done is).0
    stamp_of_one (Avoid l) m last a b x done is = no_stamp (λ t. registry_name t ≡ registry_name net.opening) x (step (Avoid l) m last a b x done is).0
    stamp_of_one (Heed l) m last a b x done is = no_stamp (λ t. registry_name t ≡ registry_name net.opening) x (step (Heed l) m last a b x done is).0
    stamp_of_one Drain m last a b x done is = no_stamp (λ t. registry_name t ≡ registry_name net.opening) x (step Drain m last a b x done is).0

    pub stamps_of_one : (commands : List Command) (m : LinkMarks) (last : ℕ) (a b : Desk B) (answers : List CommandAnswer) → AreCarriedOut was_full commands a answers b → Stands m last a.controller → AreOfOne net.opening (stamps_in answers)
    stamps_of_one commands m last a b [] done is = All-nil (λ t. registry_name t ≡ registry_name net.opening)
    stamps_of_one [] m last a b (x ∷ answers) done is = absurd done
    stamps_of_one (c ∷ commands) m last a b (x ∷ answers) done is =
        All-append (λ t. registry_name t ≡ registry_name net.opening) (stamp_by x) (stamps_in answers) (stamp_of_one c m last a done.0 x done.1 is)
        (stamps_of_one commands (marks_after m c x) (epoch_after last x) done.0 b answers done.2 (step c m last a done.0 x done.1 is).1)

kept_never : (p : ℕ → Bool) (xs ys : List Entry) → ys ≡ xs → NeverCurrent p xs → NeverCurrent p ys
kept_never p xs ys same never = subst (NeverCurrent p) (sym same) never

split_all : (p : ℕ → Bool) (x : CommandAnswer) (answers : List CommandAnswer) → AllByRecursion (λ s. p s.epoch ≡ false) (stamps_in (x ∷ answers)) → AllByRecursion (λ s. p s.epoch ≡ false) (stamp_by x) × AllByRecursion (λ s. p s.epoch ≡ false) (stamps_in answers)
split_all p (Ok None) answers all = (tt, all)
split_all p (Ok (Some s)) answers all = ((all.0, tt), all.1)
split_all p (Err why) answers all = (tt, all)

-- an epoch that was current on the board is that of the opening or one of those that were installed
module _ {B : Type 0} (was_full : Word Parcel) (p : ℕ → Bool) where
  changed_never : (why_not : Option Refused) (c : Change) (a b : Desk B) (x : CommandAnswer) → IsChangedAs why_not c a x b → ((board : Board) → (changed board c).current ≡ board.current)
      → NeverCurrent p (published a.controller.writer) → NeverCurrent p (published b.controller.writer)
  changed_never why_not c a b (Ok (Some s)) done keeps never = absurd done
  changed_never why_not c a b (Ok None) done keeps never =
      kept_never p _ _ done.1.1.1.1.published_is (never_more p (published a.controller.writer) c never (ap p (keeps (board_of (published a.controller.writer))) ∙ never_now p (published a.controller.writer) never))
  changed_never why_not c a b (Err why) done keeps never = kept_never p _ _ done.1.1.1.published_is never

  moved_never : (a b : Desk B) → b.controller ≡ a.controller → NeverCurrent p (published a.controller.writer) → NeverCurrent p (published b.controller.writer)
  moved_never a b same never = kept_never p _ _ (ap (λ (c : Controller B). published c.writer) same) never

  installed_never : (keeps : Bool) (kind : Kind) (root : ℕ) (a b : Desk B) (x : CommandAnswer) → IsInstalledAs keeps kind root a x b → AllByRecursion (λ s. p s.epoch ≡ false) (stamp_by x) → NeverCurrent p (published a.controller.writer) → NeverCurrent p (published b.controller.writer)
  installed_never keeps kind root a b (Ok None) done none never = absurd done
  installed_never keeps kind root a b (Ok (Some s)) done none never =
      let i = done.installs in
      kept_never p _ _ i.publishes.published_is (never_more p (published a.controller.writer) (change.Install i.stamp) never (ap (λ (x : Stamp). p x.epoch) done.stamp_is ∙ none.0))
  installed_never keeps kind root a b (Err why) done none never = kept_never p _ _ done.1.nothing.published_is never

  step_never : (c : Command) (a b : Desk B) (x : CommandAnswer) → IsCarriedOut was_full c a x b → AllByRecursion (λ s. p s.epoch ≡ false) (stamp_by x) → NeverCurrent p (published a.controller.writer) → NeverCurrent p (published b.controller.writer)
  step_never (Inject source dest) a b x done none never = moved_never a b done.3 never
  step_never (Install kind root) a b x done none never = installed_never a.controller.keeps kind root a b x done none never
  step_never (Renumber kind root) a b x done none never = installed_never false kind root a b x done none never
  step_never (Retire floor) a b x done none never = changed_never _ (change.Retire floor) a b x done (λ board. refl) never
  step_never (Down l) a b x done none never = changed_never _ (change.Down l) a b x done (λ board. refl) never
  step_never (Up l) a b x done none never = changed_never _ (change.Up l) a b x done (λ board. refl) never
  step_never (Avoid l) a b x done none never = changed_never _ (change.Avoid l) a b x done (λ board. refl) never
  step_never (Heed l) a b x done none never = changed_never _ (change.Heed l) a b x done (λ board. refl) never
  step_never Drain a b x done none never = moved_never a b done.2 never

  pub never_all : (commands : List Command) (a b : Desk B) (answers : List CommandAnswer) → AreCarriedOut was_full commands a answers b → AllByRecursion (λ s. p s.epoch ≡ false) (stamps_in answers) → NeverCurrent p (published a.controller.writer) → NeverCurrent p (published b.controller.writer)
  never_all [] a b [] done none never = subst (λ (d : Desk B). NeverCurrent p (published d.controller.writer)) (sym done) never
  never_all [] a b (x ∷ answers) done none never = absurd done
  never_all (c ∷ commands) a b [] done none never = absurd done
  never_all (c ∷ commands) a b (x ∷ answers) done none never =
      let parts = split_all p x answers none in
      never_all commands done.0 b answers done.2 parts.1 (step_never c a done.0 x done.1 parts.0 never)

-- as the parts are handed out
module _ {B : Type 0} (net : Net) (nodes : List Node) (opened : Desk B) (fresh : AreFreshParts net nodes opened.injector opened.controller) where
  pub stands_first : Stands net opened.controller (all_marked (length net.topology.links) (first_plan net).order) 1 opened.controller
  stands_first = record {
    opening = fresh.controller_opening;
    labels = fresh.controller_labels;
    keeps = fresh.controller_keeps;
    newest = ap (λ (xs : List Entry). order_of (installed_stamp xs)) fresh.board;
    board = refl;
    ups = ap (λ (xs : List Entry). take (length net.topology.links) (board_of xs).up) fresh.board
        ∙ take-replicate (length net.topology.links) MAX_LINKS true (let few = net.opened.few_links in few);
    heeds = ap (λ (xs : List Entry). take (length net.topology.links) (board_of xs).heeded) fresh.board
        ∙ take-replicate (length net.topology.links) MAX_LINKS true (let few = net.opened.few_links in few);
    used = (let u = fresh.used in omega (arith, u));
  }

  pub never_first : (p : ℕ → Bool) → p 1 ≡ false → NeverCurrent p (published opened.controller.writer)
  never_first p none = subst (NeverCurrent p) (sym fresh.board) (never_at_first p (length net.topology.links) net.opening none)

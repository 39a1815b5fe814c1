-- A live run, of a run of the nodes and its report.
use Rattle.std.specs.Prelude.{◌≡◌, ℕ, ◌≤◌, Bool, true, not, List, [], ◌∷◌, ◌++◌, All, Option, Some, None, IfSome, Result, Ok, Err, IfOk, IfErr, length, map, slice_get, slice_index_or}
use Rattle.std.proofs.Common.{refl, ap, sym, ◌∙◌, subst, arith}
use Rattle.std.specs.List.{AllByRecursion}
use Rattle.std.proofs.lemmas.List.Elements.{All-nil, All-push, All-append}
use Rattle.std.proofs.lemmas.Option.{slice_get-get_or}
use mathlib.Core.List.{IsPrefix}
use Rattle.ir_core.specs.declared.packet.Restamp.{Restamp}
use Rattle.ir_core.specs.declared.command.Command.{Command}
use Rattle.ir_core.specs.Sound.{IsSoundRecord}
use Rattle.ir_epochs.specs.Handles.{known, published, reader_board, writer_board}
use Rattle.ir_epochs.specs.Stamps.{registry_name}
use Rattle.ir_worker.specs.declared.parcel.Outcome.{Outcome}
use Rattle.ir_worker.specs.Account.{NeverCurrent}
use Rattle.ir_worker.specs.Seen.{stamps_of}
use Rattle.ir_worker.proofs.Restamps.{never_earlier}
use Rattle.ir_control.specs.Nets.{first_plan}
use Rattle.ir_control.specs.Reports.{IsSoundOutcome}
use Rattle.ir_control.proofs.Restamped.{not_told}
use Rattle.ir_control.specs.Agreed.{AreOfOne, Agrees}
use Rattle.ir_control.specs.Planned.{Planned, planned, stamps_in, IsPlanIn, all_marked}
use Rattle.ir_control.proofs.Agreement.{at_all, all_mapped, all_agree}
use Rattle.ir_control.proofs.Asked.{Stands, stands_first, never_first, all_asked, same_board, stamps_of_one, never_all}
use Rattle.ir_control.proofs.Epochs.{among, all_among, none_beside, not_beside, entered_among, first_among, sound_by_plans}
use Rattle.ir_model.specs.Topology.{node_count}
use Rattle.ir_epochs.specs.declared.registry.Stamp.{Stamp}
use Rattle.ir_worker.specs.declared.node.Node.{Node}
use Rattle.ir_worker.specs.declared.serving.NoMemory.{NoMemory}
use Rattle.ir_links.specs.Ends.{Word}
use Rattle.ir_epochs.specs.Looks.{Look}
use Rattle.ir_worker.specs.Seen.{Parcel}
use Rattle.ir_control.specs.declared.net.Net.{Net}
use Rattle.ir_control.specs.declared.injector.Accepted.{Accepted}
use Rattle.ir_control.specs.Parts.{AreFreshParts, AreFirstNodes, IsInjectorOf}
use Rattle.ir_control.specs.Reports.{IsReport}
use Rattle.ir_control.proofs.Returned.{first_apart}
use Rattle.ir_control.specs.Desks.{Desk, desk_of}
use Rattle.ir_control.specs.declared.live.Live.{Live}
use Rattle.ir_control.specs.declared.live.LiveError.{LiveError}
use Rattle.ir_control.specs.declared.live.LiveError.TheVariants as live_error
use Rattle.ir_control.specs.declared.working.LiveRun.{LiveRun}
use Rattle.ir_control.specs.Answers.{accepted_from}
use Rattle.ir_control.specs.Lives.{AreSameNodes, IsLive, IsRefusal}
use Rattle.ir_control.specs.Runs.{IsNetRun, IsStopped, IsUnreported}
use Rattle.ir_control.proofs.Accepting.{same_injector, injector_kept, accepted_are}
use Rattle.ir_control.proofs.Causes.{causes_are}
use Rattle.ir_control.proofs.Back.{first_back, same_back, turned_back, all_there}
use Rattle.ir_control.specs.declared.injector.Injector.{Injector}

pub given : {A : Type 0} (P : A → Type 0) (o : Option A) (x : A) → o ≡ Some x → IfSome o P → P x
given {A} P o x is h = subst (λ (z : Option A). IfSome z P) is h

-- a thread that was not started is that of a node of the net
module _ (unstarted : ℕ → Type 0) (net : Net) where
  pub refused : (n : ℕ) (nodes : List Node) (error : LiveError) → AreFirstNodes net n nodes → IsStopped unstarted nodes error → IsRefusal unstarted net error
  refused n nodes live_error.Spent first h = absurd h
  refused n nodes live_error.NoThread first h = (h.1.index, (first.each h.0 h.1 h.2).0.index_in, h.3)
  refused n nodes live_error.NoMemory first h = tt
  refused n nodes live_error.TooManyReaders first h = absurd h

  pub unreported : (result : Result Live LiveError) → IfErr result IsUnreported → IfErr result (IsRefusal unstarted net)
  unreported (Ok live) h = tt
  unreported (Err live_error.Spent) h = absurd h
  unreported (Err live_error.NoThread) h = absurd h
  unreported (Err live_error.NoMemory) h = tt
  unreported (Err live_error.TooManyReaders) h = absurd h

module _ (was_full was_empty : Word Parcel) (looked : Look Parcel) (may_end : ℕ → ℕ → Type 0) {B : Type 0} (net : Net) (nodes : List Node) (opened : Desk B) (commands : List Command) (run : LiveRun B)
    (fresh : AreFreshParts net nodes opened.injector opened.controller) (done : IsNetRun was_full was_empty looked may_end net.opening nodes opened commands run) where
  pub nodes_back : AreFirstNodes net (node_count net.topology) (map (λ (b : Node × Option NoMemory). b.0) run.back.items)
  nodes_back = first_back net (node_count net.topology) was_full was_empty looked may_end nodes run.back.items fresh.nodes_are done.came_back

  pub injector_back : IsInjectorOf net run.parts.injector
  injector_back = injector_kept net opened.injector run.parts.injector fresh.injector_of (same_injector was_full commands opened (desk_of run.parts) done.answers done.carried_out)

  accepted : run.parts.injector.accepted.items ≡ accepted_from 0 1 commands done.answers
  accepted =
      accepted_are was_full commands opened (desk_of run.parts) done.answers done.carried_out
      ∙ ap (λ (xs : List Accepted). xs ++ accepted_from (length xs) opened.injector.newest.epoch commands done.answers) fresh.nothing
      ∙ ap (λ (e : ℕ). accepted_from 0 e commands done.answers) (ap (λ (s : Stamp). s.epoch) fresh.learnt ∙ net.opened.epoch)

  abbrev back : List Node
  back = map (λ (b : Node × Option NoMemory). b.0) run.back.items

  came : AreSameNodes nodes back
  came = same_back net (node_count net.topology) was_full was_empty looked may_end nodes run.back.items fresh.nodes_are done.came_back

  stands : Stands net opened.controller (all_marked (length net.topology.links) (first_plan net).order) 1 opened.controller
  stands = stands_first net nodes opened fresh

  pub boards_back : All (λ n. reader_board n.reader ≡ writer_board run.parts.controller.writer) (map (λ (b : Node × Option NoMemory). b.0) run.back.items)
  boards_back k d lt =
      let count = came.count in
      (came.each k d d (omega (arith, lt, count))).reader ∙ fresh.boards k d (omega (arith, lt, count))
      ∙ sym (same_board net opened.controller was_full commands (all_marked (length net.topology.links) (first_plan net).order) 1 opened (desk_of run.parts) done.answers done.carried_out stands)

  abbrev whole : List Stamp
  whole = net.opening ∷ stamps_in done.answers

  pub stamps_of_net : AreOfOne net.opening run.stamps.items
  stamps_of_net = subst (AreOfOne net.opening) (sym done.stamps)
      (All-append (λ t. registry_name t ≡ registry_name net.opening) (net.opening ∷ []) (stamps_in done.answers)
      (All-push (λ t. registry_name t ≡ registry_name net.opening) [] net.opening (All-nil (λ t. registry_name t ≡ registry_name net.opening)) refl)
      (stamps_of_one net opened.controller was_full commands (all_marked (length net.topology.links) (first_plan net).order) 1 opened (desk_of run.parts) done.answers done.carried_out stands))

  abbrev beside : ℕ → Bool
  beside e = not (among whole e)

  there : AllByRecursion (λ s. among whole s.epoch ≡ true) whole
  there = all_among whole

  opening_there : among whole 1 ≡ true
  opening_there = ap (among whole) (sym net.opened.epoch) ∙ there.0

  never_published : NeverCurrent beside (published run.parts.controller.writer)
  never_published = never_all was_full beside commands opened (desk_of run.parts) done.answers done.carried_out (none_beside whole (stamps_in done.answers) there.1) (never_first net nodes opened fresh beside (ap not opening_there))

  module _ (came_back : Node → Type 0) (was_closed : Injector → Type 0) (live : Live) (report : IsReport net (map (λ (b : Node × Option NoMemory). b.0) run.back.items) run.parts.injector live.report)
      (read : All (λ n. IsPrefix (known n.reader) (published run.parts.controller.writer)) (map (λ (b : Node × Option NoMemory). b.0) run.back.items))
      (first : All (λ s. Agrees run.stamps.items s) live.report.stamps.items) (later : All (λ row. All (λ s. Agrees run.stamps.items s) row.items) live.report.later.items) where
    never_read : (k : ℕ) (n : Node) → slice_get back k ≡ Some n → NeverCurrent beside (known n.reader)
    never_read k n got = never_earlier beside (known n.reader) (published run.parts.controller.writer) (at_all (λ n. IsPrefix (known n.reader) (published run.parts.controller.writer)) back read k n got) never_published

    restamps_there : (k : ℕ) (o : Outcome) → slice_get report.outcomes k ≡ Some o → All (λ (s : Restamp). among whole s.epoch ≡ true) o.packet.restamps
    restamps_there k o got j d lt =
        not_beside (among whole (slice_index_or o.packet.restamps j d).epoch)
        (not_told beside net back run.parts.injector live.report report never_read k o got j (slice_index_or o.packet.restamps j d) (slice_get-get_or o.packet.restamps j d lt))

    first_there : (k : ℕ) (o : Outcome) → slice_get report.outcomes k ≡ Some o → among whole o.packet.epoch ≡ true
    first_there = first_among whole report.outcomes run.parts.injector.accepted.items report.heads
        (subst (AllByRecursion (λ (a : Accepted). among whole a.epoch ≡ true)) (sym accepted) (entered_among whole commands done.answers 0 1 opening_there there.1))

    agree : (k : ℕ) (o : Outcome) → slice_get report.outcomes k ≡ Some o → All (λ s. Agrees whole s) (stamps_of o.stamp o.later.items)
    agree k o got = subst (λ (plans : List Stamp). All (λ s. Agrees plans s) (stamps_of o.stamp o.later.items)) done.stamps
        (all_agree run.stamps.items report.outcomes live.report.stamps.items report.stamps first (λ row. row.items) (λ (o : Outcome). o.later) (λ o. refl) live.report.later.items report.later later k o got)

    sound : All (λ r. ∥ IsSoundRecord net.restamps (IsPlanIn (planned whole)) r ∥₁) live.report.records.items
    sound = subst (All (λ r. ∥ IsSoundRecord net.restamps (IsPlanIn (planned whole)) r ∥₁)) (sym report.records)
        (all_mapped (λ r. ∥ IsSoundRecord net.restamps (IsPlanIn (planned whole)) r ∥₁) (λ (o : Outcome). o.packet) report.outcomes
        (λ k o got. sound_by_plans whole net.restamps (stamps_of o.stamp o.later.items) o.packet (at_all IsSoundOutcome report.outcomes report.sound k o got).1
        (at_all (λ (o : Outcome). length o.packet.restamps ≤ net.restamps) report.outcomes report.few k o got) (agree k o got) (first_there k o got) (restamps_there k o got)))

    is_live : was_closed run.parts.injector → live.refusals ≡ run.refusals → All (λ b. b.1 ≡ None) run.back.items → All came_back back → IsLive B was_full was_empty looked may_end came_back was_closed net commands live
    is_live closed told served shown =
        let turned = turned_back net (node_count net.topology) was_full was_empty looked may_end nodes run.back.items fresh.nodes_are done.came_back served in
        record {
          carried = record {
            first = nodes;
            opened = opened;
            handed_out = fresh;
            answers = done.answers;
            closed = desk_of run.parts;
            carried_out = done.carried_out;
            refusals = ap (λ xs. xs.items) told ∙ done.refusals;
            injector_shown = closed;
            accepted = accepted;
          };
          turned = record {
            last = back;
            same_nodes = came;
            turned = turned;
            shown = shown;
            read = read;
          };
          reported = record {
            nodes_of = first_apart net (node_count net.topology) back nodes_back;
            all_there = all_there net (node_count net.topology) back nodes_back;
            injector_of = injector_back;
            told = report;
            causes = causes_are was_full was_empty looked may_end net nodes back run.parts.injector live.report _ (published run.parts.controller.writer) came.count fresh.fresh_nodes turned read report;
          };
          sound = record {
            plans = planned whole;
            plans_are = ap (λ (e : ℕ). let p : Planned = record { epoch = e; plan = first_plan net } in p ∷ planned (stamps_in done.answers)) net.opened.epoch;
            asked = all_asked net opened.controller was_full commands (all_marked (length net.topology.links) (first_plan net).order) 1 opened (desk_of run.parts) done.answers done.carried_out stands;
            sound = sound;
          };
        }

  pub lived : (came_back : Node → Type 0) (was_closed : Injector → Type 0) → was_closed run.parts.injector → (result : Result Live LiveError) →
      IfOk result (λ live. IsReport net (map (λ (b : Node × Option NoMemory). b.0) run.back.items) run.parts.injector live.report) →
      IfOk result (λ _. All (λ n. IsPrefix (known n.reader) (published run.parts.controller.writer)) (map (λ (b : Node × Option NoMemory). b.0) run.back.items)) →
      IfOk result (λ live. All (λ s. Agrees run.stamps.items s) live.report.stamps.items) →
      IfOk result (λ live. All (λ row. All (λ s. Agrees run.stamps.items s) row.items) live.report.later.items) →
      IfOk result (λ live. live.refusals ≡ run.refusals) → IfOk result (λ _. All (λ b. b.1 ≡ None) run.back.items) →
      IfOk result (λ _. All came_back (map (λ (b : Node × Option NoMemory). b.0) run.back.items)) →
      IfOk result (λ live. IsLive B was_full was_empty looked may_end came_back was_closed net commands live)
  lived came_back was_closed closed (Ok live) report read first later told served shown = is_live came_back was_closed live report read first later closed told served shown
  lived came_back was_closed closed (Err e) report read first later told served shown = tt

-- The records of a live run can be written: their ends are those of packets that were accepted, so they are nodes.
use Rattle.std.proofs.Common.{◌≡◌, ℕ, zero, suc, ◌+◌, ◌<◌, ◌≤◌, ◌==◌, Bool, true, false, not, ◌&&◌, cond, nat_lt, nat_le, List, [], ◌∷◌, ◌++◌, length, map, slice_get, Some, None, Ok, Err, refl, sym, ap, ◌∙◌, subst, arith}
use Rattle.std.specs.Prelude.{All}
use Rattle.std.specs.List.{AllByRecursion}
use Rattle.std.proofs.lemmas.Bool.{ltb-true, leb-true, and_parts}
use Rattle.std.proofs.lemmas.Option.{same_Some, none-some, slice_get_within, get_or_from_slice_get}
use Rattle.ir_model.specs.Topology.{Topology, IsTopology, node_count}
use Rattle.ir_core.specs.declared.TheConstants.{MAX_NODES, MAX_LINKS, MAX_CAPACITY, MAX_PACKETS, MAX_RESTAMPS}
use Rattle.ir_core.specs.declared.command.Command.{Command}
use Rattle.ir_core.specs.declared.command.Command.TheVariants.{Inject, Install, Renumber, Retire, Down, Up, Avoid, Heed, Drain}
use Rattle.ir_core.specs.Record.{Record}
use Rattle.ir_core.specs.Opened.{open_refused, is_small, is_within}
use Rattle.ir_epochs.specs.declared.registry.Stamp.{Stamp}
use Rattle.ir_epochs.specs.Stamps.{knows}
use Rattle.ir_worker.specs.Account.{Head, head_of}
use Rattle.ir_worker.specs.declared.parcel.Outcome.{Outcome}
use Rattle.ir_worker.specs.Seen.{Parcel, stamps_of}
use Rattle.ir_control.specs.declared.injector.Accepted.{Accepted}
use Rattle.ir_core.specs.declared.event.Refused.TheVariants.{NoNode, TooManyPackets}
use Rattle.ir_core.specs.Refusals.{inject_refused}
use Rattle.ir_core.specs.declared.event.OpenError.TheVariants.{Empty, TooLarge}
use Rattle.ir_core.specs.declared.event.OpenError.TheVariants as openings
use Rattle.ir_core.specs.declared.opening.Opening.{Opening}
use Rattle.ir_control.specs.declared.injector.Injector.{Injector}
use Rattle.ir_control.specs.declared.net.Net.{Net}
use Rattle.ir_control.specs.Heads.{head_at}
use Rattle.ir_control.specs.Reports.{IsSoundOutcome}
use Rattle.ir_control.specs.Told.{IsOutcomeIn}
use Rattle.ir_links.specs.Ends.{Word}
use Rattle.ir_epochs.specs.Looks.{Look}
use Rattle.ir_control.specs.Desks.{Desk}
use Rattle.ir_control.specs.declared.live.Live.{Live}
use Rattle.ir_control.specs.Answers.{CommandAnswer, accepted_by, accepted_from, epoch_after}
use Rattle.ir_control.specs.Carried.{IsCarriedOut, AreCarriedOut}
use Rattle.ir_control.specs.Lives.{IsLive}
use Rattle.ir_worker.specs.declared.node.Node.{Node}
use Rattle.ir_trace.specs.Written.{HasSegments, HaveSegments}
use Rattle.ir_shell.proofs.Reports.{has_segments}

-- the ends are nodes
abbrev IsEntered : ℕ → Accepted → Type 0
IsEntered n a = (a.source < n) × (a.dest < n)

in_range : (n most count source dest : ℕ) → inject_refused n most count source dest ≡ None → (source < n) × (dest < n)
in_range n most count source dest e = by (nat_lt source n) (nat_lt dest n) refl refl e
  where
    by : (t u : Bool) → nat_lt source n ≡ t → nat_lt dest n ≡ u → cond (not (t && u)) (Some NoNode) (cond (nat_le most count) (Some TooManyPackets) None) ≡ None → (source < n) × (dest < n)
    by true true a b h = (ltb-true source n a, ltb-true dest n b)
    by true false a b h = absurd (cc h)
    by false u a b h = absurd (cc h)

module _ (was_full : Word Parcel) {B : Type 0} (before next : Desk B) (n : ℕ) where
  -- the injector stays that of its net
  kept : (c : Command) (answer : CommandAnswer) → IsCarriedOut was_full c before answer next → next.injector.opening ≡ before.injector.opening
  kept (Inject source dest) answer k = k.1.opening
  kept (Install kind root) (Ok None) k = absurd k
  kept (Install kind root) (Ok (Some s)) k = k.learnt.opening
  kept (Install kind root) (Err why) k = ap (λ i. i.opening) k.0
  kept (Renumber kind root) (Ok None) k = absurd k
  kept (Renumber kind root) (Ok (Some s)) k = k.learnt.opening
  kept (Renumber kind root) (Err why) k = ap (λ i. i.opening) k.0
  kept (Retire floor) (Ok None) k = ap (λ i. i.opening) k.0
  kept (Retire floor) (Ok (Some s)) k = absurd k
  kept (Retire floor) (Err why) k = ap (λ i. i.opening) k.0
  kept (Down link) (Ok None) k = ap (λ i. i.opening) k.0
  kept (Down link) (Ok (Some s)) k = absurd k
  kept (Down link) (Err why) k = ap (λ i. i.opening) k.0
  kept (Up link) (Ok None) k = ap (λ i. i.opening) k.0
  kept (Up link) (Ok (Some s)) k = absurd k
  kept (Up link) (Err why) k = ap (λ i. i.opening) k.0
  kept (Avoid link) (Ok None) k = ap (λ i. i.opening) k.0
  kept (Avoid link) (Ok (Some s)) k = absurd k
  kept (Avoid link) (Err why) k = ap (λ i. i.opening) k.0
  kept (Heed link) (Ok None) k = ap (λ i. i.opening) k.0
  kept (Heed link) (Ok (Some s)) k = absurd k
  kept (Heed link) (Err why) k = ap (λ i. i.opening) k.0
  kept Drain answer k = ap (λ i. i.opening) k.1

  -- the packet that a command put in
  one_entered : node_count (knows before.injector.opening).topology ≡ n → (c : Command) (answer : CommandAnswer) (id epoch : ℕ) (later : List Accepted) → IsCarriedOut was_full c before answer next → AllByRecursion (IsEntered n) later
      → AllByRecursion (IsEntered n) (accepted_by id epoch c answer ++ later)
  one_entered e (Inject source dest) (Ok None) id epoch later k all =
      (subst (λ (m : ℕ). (source < m) × (dest < m)) e (in_range (node_count (knows before.injector.opening).topology) before.injector.max_packets (length before.injector.accepted.items) source dest k.0.1.0), all)
  one_entered e (Inject source dest) (Ok (Some s)) id epoch later k all = absurd k.0
  one_entered e (Inject source dest) (Err why) id epoch later k all = all
  one_entered e (Install kind root) answer id epoch later k all = all
  one_entered e (Renumber kind root) answer id epoch later k all = all
  one_entered e (Retire floor) answer id epoch later k all = all
  one_entered e (Down link) answer id epoch later k all = all
  one_entered e (Up link) answer id epoch later k all = all
  one_entered e (Avoid link) answer id epoch later k all = all
  one_entered e (Heed link) answer id epoch later k all = all
  one_entered e Drain answer id epoch later k all = all

-- the packets that commands put in
entered : (was_full : Word Parcel) {B : Type 0} (n : ℕ) (commands : List Command) (before : Desk B) (answers : List CommandAnswer) (after : Desk B) (id epoch : ℕ) → node_count (knows before.injector.opening).topology ≡ n → AreCarriedOut was_full commands before answers after
    → AllByRecursion (IsEntered n) (accepted_from id epoch commands answers)
entered was_full n [] before [] after id epoch e k = tt
entered was_full n [] before (answer ∷ answers) after id epoch e k = absurd k
entered was_full n (c ∷ commands) before [] after id epoch e k = absurd k
entered was_full n (c ∷ commands) before (answer ∷ answers) after id epoch e k =
    let next = k.0 in
    let same = ap (λ (s : Stamp). node_count (knows s).topology) (kept was_full before next n c answer k.1) ∙ e in
    let later = entered was_full n commands next answers after (id + length (accepted_by id epoch c answer)) (epoch_after epoch answer) same k.2 in
    one_entered was_full before next n e c answer id epoch (accepted_from (id + length (accepted_by id epoch c answer)) (epoch_after epoch answer) commands answers) k.1 later

-- so are the ends of the records
ends_in : (n : ℕ) (outcomes : List Outcome) (accepted : List Accepted) → map (λ o. head_of o.packet) outcomes ≡ map head_at accepted → AllByRecursion (IsEntered n) accepted
    → (i : ℕ) (o : Outcome) → slice_get outcomes i ≡ Some o → (o.packet.source < n) × (o.packet.dest < n)
ends_in n [] accepted e all i o at = absurd (none-some o at)
ends_in n (x ∷ outcomes) [] e all i o at = absurd (cc e)
ends_in n (x ∷ outcomes) (a ∷ accepted) e all zero o at =
    let head : head_of x.packet ≡ head_at a = cc e in
    let here : x ≡ o = same_Some x o at in
    let source : x.packet.source ≡ a.source = ap (λ (h : Head). h.source) head in
    let dest : x.packet.dest ≡ a.dest = ap (λ (h : Head). h.dest) head in
    subst (λ (y : Outcome). (y.packet.source < n) × (y.packet.dest < n)) here (let k = all.0.0 in omega arith, let k = all.0.1 in omega arith)
ends_in n (x ∷ outcomes) (a ∷ accepted) e all (suc i) o at = ends_in n outcomes accepted (cc e) all.1 i o at

of_outcome : (outcomes : List Outcome) (i : ℕ) (r : Record) → slice_get (map (λ o. o.packet) outcomes) i ≡ Some r → (o : Outcome) × (slice_get outcomes i ≡ Some o) × (o.packet ≡ r)
of_outcome [] i r at = absurd (none-some r at)
of_outcome (x ∷ outcomes) zero r at = (x, refl, same_Some x.packet r at)
of_outcome (x ∷ outcomes) (suc i) r at = of_outcome outcomes i r at

all_at : {X : Type 0} (P : X → Type 0) (xs : List X) (i : ℕ) (x : X) → All P xs → slice_get xs i ≡ Some x → P x
all_at P xs i x all at = subst P (get_or_from_slice_get xs i x x at) (all i x (slice_get_within xs i x at))

-- each record of a live run can be written over the network of its net's opening
pub live_records : (was_full was_empty : Word Parcel) (looked : Look Parcel) (may_end : ℕ → ℕ → Type 0) (came_back : Node → Type 0) (was_closed : Injector → Type 0) {B : Type 0} (net : Net) (commands : List Command) (live : Live) → IsLive B was_full was_empty looked may_end came_back was_closed net commands live → (over : Topology) → IsTopology over → node_count over ≤ MAX_NODES → (knows net.opening).topology ≡ over
    → HaveSegments over live.report.records.items
live_records was_full was_empty looked may_end came_back was_closed net commands live is over ok few opening i r at =
    let found = of_outcome is.reported.told.outcomes i r (ap (λ (rs : List Record). slice_get rs i) (sym is.reported.told.records) ∙ at) in
    let o = found.0 in
    let there = found.1 in
    let nodes : node_count (knows is.carried.opened.injector.opening).topology ≡ node_count over = ap (λ (s : Stamp). node_count (knows s).topology) is.carried.handed_out.injector_of.opening ∙ ap (λ (g : Topology). length g.ports) opening in
    let all = entered was_full (node_count over) commands is.carried.opened is.carried.answers is.carried.closed 0 1 nodes is.carried.carried_out in
    let every = subst (AllByRecursion (IsEntered (node_count over))) (sym is.carried.accepted) all in
    let ends = ends_in (node_count over) is.reported.told.outcomes is.carried.closed.injector.accepted.items is.reported.told.heads every i o there in
    let sound = all_at IsSoundOutcome is.reported.told.outcomes i o is.reported.told.sound there in
    let of_net = all_at (IsOutcomeIn net.opening) is.reported.told.outcomes i o is.reported.told.of_net there in
    subst (λ (x : Record). HasSegments over x) found.2 (has_segments over ok net.opening opening (stamps_of o.stamp o.later.items) o.packet few ends.0 ends.1 of_net sound.1)

-- what is opened is a network of few nodes
pub few_nodes : (opening : Opening) → open_refused opening ≡ None → node_count opening.topology ≤ MAX_NODES
few_nodes opening e = by (node_count opening.topology == 0) (nat_le (node_count opening.topology) opening.root) (is_small opening) refl e
  where
    by : (t u v : Bool) → is_small opening ≡ v → cond t (Some Empty) (cond u (Some openings.NoNode) (cond (not v) (Some TooLarge) None)) ≡ None → node_count opening.topology ≤ MAX_NODES
    by true u v s h = absurd (cc h)
    by false true v s h = absurd (cc h)
    by false false false s h = absurd (cc h)
    by false false true s h =
        let nodes = nat_le (node_count opening.topology) MAX_NODES in
        let links = nat_le (length opening.topology.links) MAX_LINKS in
        let places = is_within opening.capacity MAX_CAPACITY in
        let packets = is_within opening.max_packets MAX_PACKETS in
        leb-true (node_count opening.topology) MAX_NODES (and_parts nodes links (and_parts (nodes && links) places (and_parts (nodes && links && places) packets (and_parts (nodes && links && places && packets) (nat_le opening.restamps MAX_RESTAMPS) s).0).0).0).0

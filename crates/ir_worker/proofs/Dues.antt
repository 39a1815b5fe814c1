-- A parcel that was taken by a way is due there.
use Rattle.std.proofs.Common.{◌≡◌, ℕ, zero, suc, ◌+◌, ◌-◌, ◌<◌, ◌≤◌, length, List, [], ◌∷◌, ◌++◌, slice_get, Some, None, refl, sym, ap, ◌∙◌, subst, arith, Bool, true, false, cond, nat_lt, inl, inr}
use Rattle.std.specs.Prelude.{All}
use Rattle.std.proofs.lemmas.Option.{same_Some, none-some}
use Rattle.std.proofs.lemmas.Grind.{common_steps}
use Rattle.std.proofs.lemmas.Nat.{mul-le}
use Rattle.std.proofs.Math.Logic.{∥∥₁_elim, ∥∥₁_prop}
use Rattle.std.proofs.Math.Nat.{ℕ_set}
use Rattle.ir_model.specs.declared.Link.{Link as Edge}
use Rattle.ir_model.specs.declared.Hop.{Hop}
use Rattle.ir_model.specs.Topology.{Topology, IsTopology, IsLink, Joins, node_count, port_at, ports_of, port_back, restrict}
use Rattle.ir_model.specs.Plan.{Plan, next_hop, IsPlan}
use Rattle.ir_model.proofs.Restrict.{port_at-restrict}
use Rattle.ir_core.specs.declared.event.Way.{Way}
use Rattle.ir_core.specs.declared.event.Way.TheVariants.{Inbox, Link}
use Rattle.ir_core.specs.declared.event.Verdict.{Verdict}
use Rattle.ir_core.specs.declared.event.Verdict.TheVariants.{CameByDown, BelowFloor, Arrives, LeavesByDown, NoRoom, GoesOn}
use Rattle.ir_core.specs.Record.{Record, hop_room, present}
use Rattle.ir_core.specs.Sound.{LeadsOn, last_of}
use Rattle.ir_core.specs.Entry.{restamped, restamp_by}
use Rattle.ir_core.specs.World.{IsDue}
use Rattle.ir_core.proofs.Walks.{port_of, last_of-push}
use Rattle.ir_epochs.specs.declared.registry.Stamp.{Stamp}
use Rattle.ir_epochs.specs.Stamps.{knows}
use Rattle.ir_epochs.specs.Over.{IsOver}
use Rattle.ir_epochs.proofs.Overs.{over_nodes}
use Rattle.ir_worker.specs.Seen.{Parcel, IsSegmentUnderWay, IsNextNode, HasRoomOf, IsOfNet, stamps_of, present_stamp, stamp_now}
use Rattle.ir_worker.specs.Ends.{CameBy}
use Rattle.ir_worker.proofs.Routes.{split_of, stamps_push}

-- no port leads back to its own node
no_loop : (net : Topology) → IsTopology net → (u p : ℕ) (h : Hop) → port_at net u p ≡ Some h → h.node ≡ u → ⊥
no_loop net is u p h at e =
    let port = is.ports u p h at in
    let link : IsLink (node_count net) port.0 = is.links h.link port.0 port.1 in
    by_ends port.0 link.ordered port.2
  where
    by_ends : (link : Edge) → link.low < link.high → Joins link u h.node → ⊥
    by_ends link lt (inl j) = let a = j.0 in let b = j.1 in omega arith
    by_ends link lt (inr j) = let a = j.0 in let b = j.1 in omega arith

-- the link that leads from the node of a port of u to u is the port's
over_link : (net over : Topology) → IsOver net over → ∥ IsTopology net ∥₁ → (u j : ℕ) (mine : Hop) → port_at net u j ≡ Some mine → (p : ℕ) (h : Hop) → port_at over mine.node p ≡ Some h → h.node ≡ u → h.link ≡ mine.link
over_link net over o is u j mine at p h there to =
    ∥∥₁_elim is (ℕ_set _ _) (λ ok. ∥∥₁_elim o (ℕ_set _ _) (λ w.
    let up : port_at (restrict w.0 net) mine.node p ≡ Some h = subst (λ (n : Topology). port_at n mine.node p ≡ Some h) w.2 there in
    let q = port_at-restrict w.0 net mine.node p h up in
    let back = ok.paired mine.node q.0 h q.1 in
    let here : port_at net u back.0 ≡ Some (port_back mine.node h) = subst (λ (x : ℕ). port_at net x back.0 ≡ Some (port_back mine.node h)) to back.1 in
    let one : back.0 ≡ j = ok.single u back.0 j (port_back mine.node h) mine here at refl in
    let same : port_back mine.node h ≡ mine = same_Some (port_back mine.node h) mine (sym here ∙ ap (λ (x : ℕ). port_at net u x) one ∙ at) in
    ap (λ (x : Hop). x.link) same))

-- what was taken from the inbox is at its source, and what was taken by a port was led there by its link
pub due : (net : Topology) (t : Plan) → ∥ IsTopology net ∥₁ → IsPlan t → IsOver net t.topology → (r : Record) (next u : ℕ) (way : Way) →
    IsSegmentUnderWay t r next → CameBy (ports_of net u) u way (last_of r.hops) next → IsDue t r u way
due net t ok is o r next u Inbox k came = by_next k.goes
  where
    by_next : IsNextNode t r next → (r.hops ≡ u ∷ []) × (r.source ≡ u)
    by_next (inl e) = let s : r.source ≡ u = sym e.1 ∙ came.1 in (e.0 ∙ ap (λ (x : ℕ). x ∷ []) s, s)
    by_next (inr on) =
        let p = port_of t (last_of r.hops) r.dest on.0 on.1 in
        absurd (no_loop t.topology is.topology (last_of r.hops) p.0 on.0 p.1 (on.2 ∙ came.1 ∙ sym came.0))
due net t ok is o r next u (Link l) k came = by_next k.goes
  where
    j : ℕ
    j = came.1.0

    mine : Hop
    mine = came.1.1

    by_next : IsNextNode t r next → LeadsOn t r l u
    by_next (inl e) = absurd (apart e.0 e.1)
      where
        apart : r.hops ≡ r.source ∷ [] → next ≡ r.source → ⊥
        apart hops s =
            let last : last_of r.hops ≡ r.source = ap last_of hops in
            ∥∥₁_elim ok (λ x y. absurd x) (λ net_ok. no_loop net net_ok u j mine came.1.2 (sym came.1.4 ∙ last ∙ sym s ∙ came.0))
    by_next (inr on) =
        let p = port_of t (last_of r.hops) r.dest on.0 on.1 in
        let there : port_at t.topology mine.node p.0 ≡ Some on.0 = subst (λ (x : ℕ). port_at t.topology x p.0 ≡ Some on.0) came.1.4 p.1 in
        (on.0, on.1, over_link net t.topology o ok u j mine came.1.2 p.0 on.0 there (on.2 ∙ came.0) ∙ came.1.3, on.2 ∙ came.0)

-- the port that a plan over links of the network names is a port of the node
pub port_there : (net : Topology) (t : Plan) → IsOver net t.topology → (u d : ℕ) (h : Hop) → next_hop t u d ≡ Some h → ∥ ((j : ℕ) × (slice_get (ports_of net u) j ≡ Some h)) ∥₁
port_there net t o u d h e =
    let p = port_of t u d h e in
    ∥∥₁_elim o ∥∥₁_prop (λ w.
    let up : port_at (restrict w.0 net) u p.0 ≡ Some h = subst (λ (n : Topology). port_at n u p.0 ≡ Some h) w.2 p.1 in
    let q = port_at-restrict w.0 net u p.0 h up in
    ∣ (q.0, q.1) ∣₁)

-- the network of a stamp's plan is one
pub net_of : (s : Stamp) → ∥ IsTopology (knows s).topology ∥₁
net_of s = ∥∥₁_elim s.sound ∥∥₁_prop (λ k. ∣ k.topology ∣₁)

-- what a node of the opening's net took is due there
pub due_at : (opening s : Stamp) (plan : Plan) → plan ≡ knows s → IsPlan plan → IsOver (knows opening).topology (knows s).topology → (r : Record) (next u : ℕ) (way : Way) (ports : List Hop) →
    ports ≡ ports_of (knows opening).topology u → IsSegmentUnderWay (knows s) (present r) next → last_of (present r).hops ≡ last_of r.hops → CameBy ports u way (last_of r.hops) next → IsDue (knows s) (present r) u way
due_at opening s plan e is o r next u way ports all k last came =
    due (knows opening).topology (knows s) (net_of opening) (subst IsPlan e is) o (present r) next u way k
    (subst (λ (x : ℕ). CameBy (ports_of (knows opening).topology u) u way x next) (sym last) (subst (λ (xs : List Hop). CameBy xs u way (last_of r.hops) next) all came))

-- the present stamp is of the net
pub now_of_net : (opening first : Stamp) (later : List Stamp) → All (λ s. IsOfNet opening s) (stamps_of first later) → IsOfNet opening (present_stamp first later)
now_of_net opening first later all =
    (subst (λ (xs : List Stamp). All (λ (s : Stamp). IsOfNet opening s) xs) (split_of first later) all) 0 first (omega arith)

-- a port leads elsewhere
pub elsewhere : (opening : Stamp) (u j : ℕ) (ports : List Hop) (h : Hop) → ports ≡ ports_of (knows opening).topology u → slice_get ports j ≡ Some h → u ≡ h.node → ⊥
elsewhere opening u j ports h all at e =
    ∥∥₁_elim (net_of opening) (λ x y. absurd x) (λ ok. no_loop (knows opening).topology ok u j h (ap (λ (xs : List Hop). slice_get xs j) (sym all) ∙ at) (sym e))

-- the nodes of two stamps of one net are as many
pub same_nodes : (opening s p : Stamp) → IsOfNet opening s → IsOfNet opening p → node_count (knows s).topology ≡ node_count (knows p).topology
same_nodes opening s p a b = over_nodes (knows opening).topology (knows s).topology a.1 ∙ sym (over_nodes (knows opening).topology (knows p).topology b.1)

-- where there is a restamp, one was left
pub some_left : (left current e : ℕ) (v : Verdict) → restamp_by left current v ≡ Some e → 0 < left
some_left left current e BelowFloor is = by_test (nat_lt 0 left) refl is
  where
    by_test : (b : Bool) → nat_lt 0 left ≡ b → cond b (Some current) None ≡ Some e → 0 < left
    by_test true test is = grind (arith, common_steps)
    by_test false test is = absurd (none-some e is)
some_left left current e (CameByDown l) is = absurd (none-some e is)
some_left left current e Arrives is = absurd (none-some e is)
some_left left current e (LeavesByDown l) is = absurd (none-some e is)
some_left left current e (NoRoom h) is = absurd (none-some e is)
some_left left current e (GoesOn h) is = absurd (none-some e is)

-- and there is room for the hops of one more
pub room_more : (opening s : Stamp) (restamps allowed had current e : ℕ) (v : Verdict) (p : Parcel) → IsOfNet opening s → HasRoomOf opening restamps p →
    allowed ≡ restamps → had ≡ length p.packet.restamps → restamp_by (allowed - had) current v ≡ Some e → hop_room (length p.packet.restamps + 1) (node_count (knows s).topology) ≤ p.packet.room
room_more opening s restamps allowed had current e v p of roomy all so_far again =
    let some = some_left (allowed - had) current e v again in
    let less = node_count (knows opening).topology - 1 in
    let le = mul-le (length p.packet.restamps + 1 + 1) less (restamps + 1) less (omega (arith, some, all, so_far)) (omega arith) in
    rw (roomy, over_nodes (knows opening).topology (knows s).topology of.1) (omega (arith, le))

-- a restamped parcel has all stamps of the net, and is at the node
all_cons : (P : Stamp → Type 0) (s : Stamp) (ss : List Stamp) → P s → All P ss → All P (s ∷ ss)
all_cons P s ss here all zero d lt = here
all_cons P s ss here all (suc k) d lt = all k d (omega arith)

pub restamped_of_net : (opening first : Stamp) (later : List Stamp) (s : Stamp) (p : Parcel) → p.first ≡ first → p.later ≡ later ++ s ∷ [] → IsOfNet opening s → All (λ x. IsOfNet opening x) (stamps_of first later) → All (λ x. IsOfNet opening x) (stamps_of p.first p.later)
restamped_of_net opening first later s p same grown here all =
    let both : stamps_of p.first p.later ≡ s ∷ stamps_of first later = ap (λ (x : Stamp). stamps_of x p.later) same ∙ ap (λ (x : List Stamp). stamps_of first x) grown ∙ stamps_push first later s in
    subst (λ (xs : List Stamp). All (λ (x : Stamp). IsOfNet opening x) xs) (sym both) (all_cons (λ (x : Stamp). IsOfNet opening x) s (stamps_of first later) here all)

pub restamped_last : (ports : List Hop) (u : ℕ) (way : Way) (e next : ℕ) (r : Record) → CameBy ports u way (last_of r.hops) next → last_of (restamped u way e r).hops ≡ u
restamped_last ports u Inbox e next r came = came.0
restamped_last ports u (Link l) e next r came = last_of-push r.hops u

-- what was to go on still is, when it comes back
pub leads_same : (h : Hop) (p q back : Parcel) → LeadsOn (knows (stamp_now p)) (present q.packet) h.link h.node → q.first ≡ p.first → q.later ≡ p.later → back ≡ q → LeadsOn (knows (stamp_now back)) (present back.packet) h.link h.node
leads_same h p q back on first later same =
    let stamps : stamp_now q ≡ stamp_now p = ap (λ (x : Stamp). present_stamp x q.later) first ∙ ap (λ (x : List Stamp). present_stamp p.first x) later in
    subst (λ (x : Parcel). LeadsOn (knows (stamp_now x)) (present x.packet) h.link h.node) (sym same)
    (subst (λ (s : Stamp). LeadsOn (knows s) (present q.packet) h.link h.node) (sym stamps) on)

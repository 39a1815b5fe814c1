-- The records that a net reports can be written: each segment is a walk by the plan of its stamp, which is over links of
-- the opening's network.
use Rattle.std.proofs.Common.{◌≡◌, ℕ, zero, suc, ◌+◌, ◌-◌, ◌<◌, ◌≤◌, ◌==◌, ◌⊎◌, inl, inr, ⊎_elim, Bool, true, false, List, [], ◌∷◌, ◌++◌, length, take, drop, slice_get, slice_index, Option, Some, None, refl, sym, ap, ◌∙◌, subst, arith, add-one}
use Rattle.std.specs.Prelude.{reverse, All}
use Rattle.std.specs.List.{AllByRecursion}
use Rattle.std.proofs.Math.Bridge.{le_prop}
use Rattle.std.proofs.Math.Logic.{∥∥₁_elim, ∥∥₁_prop}
use Rattle.std.proofs.Math.Nat.{ℕ_set}
use Rattle.std.proofs.lemmas.Bool.{eqb-true, eqb-false}
use Rattle.std.proofs.lemmas.List.{length-append, length-drop, length-take-le, length-reverse, drop-drop, take-append-drop}
use Rattle.std.proofs.lemmas.Option.{same_Some, none-some, slice_get_within}
use Rattle.ir_model.specs.declared.Hop.{Hop}
use Rattle.ir_model.specs.declared.Link.{Link}
use Rattle.ir_model.specs.Topology.{Topology, IsTopology, IsPort, node_count, port_at, ports_of, restrict}
use Rattle.ir_model.specs.Plan.{Plan, table_port}
use Rattle.ir_model.specs.Walk.{Linked, LeadsTo, IsWalk}
use Rattle.ir_model.proofs.Restrict.{node_count-restrict, port_at-restrict}
use Rattle.ir_model.proofs.Tables.{prescribed_unique}
use Rattle.ir_model.proofs.Walks.{port_facts}
use Rattle.ir_core.specs.declared.TheConstants.{MAX_NODES, MAX_RESTAMPS}
use Rattle.ir_core.specs.declared.packet.Fate.{Fate}
use Rattle.ir_core.specs.declared.packet.Fate.TheVariants.{Delivered, Retired, Down, Full, Left}
use Rattle.ir_core.specs.declared.packet.Restamp.{Restamp}
use Rattle.ir_core.specs.Record.{Record, segments, segments_in, present_in, until}
use Rattle.ir_core.specs.Sound.{IsSound, FateFits, LeadsOn, ArePlaces, last_of}
use Rattle.ir_core.specs.World.{StepsTo}
use Rattle.ir_core.proofs.Segments.{places_more, last_drop, last_take}
use Rattle.ir_core.proofs.Hops.{walk_append, walk_tail}
use Rattle.ir_core.proofs.Routed.{most, most_within}
use Rattle.ir_core.proofs.Walks.{IsWalkFrom, walk_of, port_of}
use Rattle.ir_core.proofs.Walks as table
use Rattle.ir_epochs.specs.declared.registry.Stamp.{Stamp}
use Rattle.ir_epochs.specs.Stamps.{knows}
use Rattle.ir_worker.specs.Seen.{EachBy, IsSoundByStamp, IsSoundByStamps, IsOfNet}
use Rattle.ir_trace.specs.Written.{FateIsIn, HasSegments}

-- ---- what is known to be there is found

-- a port that leads to v, or there is none
first_to : (v : ℕ) (xs : List Hop) → ((p : ℕ) × (hop : Hop) × (slice_get xs p ≡ Some hop) × (hop.node ≡ v)) ⊎ ((p : ℕ) (hop : Hop) → slice_get xs p ≡ Some hop → hop.node ≡ v → ⊥)
first_to v [] = inr (λ p hop at e. absurd (cc at))
first_to v (x ∷ xs) = by (x.node == v) refl (first_to v xs)
  where
    none : (x.node == v) ≡ false → ((p : ℕ) (hop : Hop) → slice_get xs p ≡ Some hop → hop.node ≡ v → ⊥) → (p : ℕ) (hop : Hop) → slice_get (x ∷ xs) p ≡ Some hop → hop.node ≡ v → ⊥
    none other later zero hop at e = eqb-false x.node v other (ap (λ (h : Hop). h.node) (same_Some x hop at) ∙ e)
    none other later (suc p) hop at e = later p hop at e

    by : (t : Bool) → (x.node == v) ≡ t → ((p : ℕ) × (hop : Hop) × (slice_get xs p ≡ Some hop) × (hop.node ≡ v)) ⊎ ((p : ℕ) (hop : Hop) → slice_get xs p ≡ Some hop → hop.node ≡ v → ⊥)
        → ((p : ℕ) × (hop : Hop) × (slice_get (x ∷ xs) p ≡ Some hop) × (hop.node ≡ v)) ⊎ ((p : ℕ) (hop : Hop) → slice_get (x ∷ xs) p ≡ Some hop → hop.node ≡ v → ⊥)
    by true e later = inl (0, x, refl, eqb-true x.node v e)
    by false e later = ⊎_elim (λ k. inl (suc k.0, k.1, k.2, k.3)) (λ away. inr (none e away)) later

linked_out : (net : Topology) (u v : ℕ) → ∥ Linked net u v ∥₁ → Linked net u v
linked_out net u v h = ⊎_elim (λ k. k) (λ later. absurd (∥∥₁_elim h (λ x y. absurd x) (λ k. later k.0 k.1 k.2 k.3))) (first_to v (ports_of net u))

leads_out : (net : Topology) (u d : ℕ) (rest : List ℕ) → ∥ LeadsTo net u d rest ∥₁ → LeadsTo net u d rest
leads_out net u d [] h = (∥∥₁_elim h (ℕ_set _ _) (λ k. k.0), ∥∥₁_elim h le_prop (λ k. k.1))
leads_out net u d (v ∷ rest) h =
    (linked_out net u v (∥∥₁_elim h ∥∥₁_prop (λ k. ∣ k.0 ∣₁)), leads_out net v d rest (∥∥₁_elim h ∥∥₁_prop (λ k. ∣ k.1 ∣₁)))

walk_out : (net : Topology) (u d : ℕ) (hops : List ℕ) → ∥ IsWalk net u d hops ∥₁ → IsWalk net u d hops
walk_out net u d [] h = absurd (∥∥₁_elim h (λ x y. absurd x) (λ k. k))
walk_out net u d (x ∷ rest) h = (∥∥₁_elim h (ℕ_set _ _) (λ k. k.0), leads_out net u d rest (∥∥₁_elim h ∥∥₁_prop (λ k. ∣ k.1 ∣₁)))

places_out : (n : ℕ) (latest : List Restamp) → ∥ ArePlaces n latest ∥₁ → ArePlaces n latest
places_out n [] h = tt
places_out n (s ∷ older) h = (∥∥₁_elim h le_prop (λ k. k.0), places_out s.from older (∥∥₁_elim h ∥∥₁_prop (λ k. ∣ k.1 ∣₁)))

fate_out : (net : Topology) (fate : Fate) → ∥ FateIsIn net fate ∥₁ → FateIsIn net fate
fate_out net Delivered h = tt
fate_out net Retired h = tt
fate_out net (Down l) h = ∥∥₁_elim h le_prop (λ k. k)
fate_out net (Full l to) h = by (slice_get net.links l) refl
  where
    by_end : (link : Link) → slice_get net.links l ≡ Some link → (t : Bool) → (to == link.low) ≡ t → (to ≡ link.low) ⊎ (to ≡ link.high)
    by_end link at true e = inl (eqb-true to link.low e)
    by_end link at false e =
        inr (∥∥₁_elim h (ℕ_set _ _) (λ k.
        let same : k.0 ≡ link = same_Some k.0 link (sym k.1 ∙ at) in
        ⊎_elim (λ low. absurd (eqb-false to link.low e (low ∙ ap (λ (x : Link). x.low) same))) (λ high. high ∙ ap (λ (x : Link). x.high) same) k.2))

    by : (o : Option Link) → slice_get net.links l ≡ o → FateIsIn net (Full l to)
    by None e = absurd (∥∥₁_elim h (λ x y. absurd x) (λ k. none-some k.0 (sym e ∙ k.1)))
    by (Some link) e = (link, e, by_end link e (to == link.low) refl)
fate_out net Left h = tt

by_recursion : {X : Type 0} (P : X → Type 0) (xs : List X) → All P xs → AllByRecursion P xs
by_recursion P [] all = tt
by_recursion P (x ∷ xs) all = (all 0 x (omega arith), by_recursion P xs (λ k d lt. all (suc k) d (omega arith)))

-- ---- where a walk ends

leads_end : (net : Topology) (u d : ℕ) (rest : List ℕ) → LeadsTo net u d rest → d < node_count net
leads_end net u d [] k = k.1
leads_end net u d (v ∷ rest) k = leads_end net v d rest k.1

walk_end : (net : Topology) (u d : ℕ) (hops : List ℕ) → IsWalk net u d hops → d < node_count net
walk_end net u d [] k = absurd k
walk_end net u d (x ∷ rest) k = leads_end net u d rest k.1

-- A segment between nodes of the network is a walk of it, and not long.
abbrev IsLeg : Topology → Record → Type 0
IsLeg net g = g.source < node_count net → g.dest < node_count net → IsWalk net g.source (last_of g.hops) g.hops × (length g.hops ≤ node_count net)

module _ (net : Topology) (ok : IsTopology net) where
  -- ---- a plan over links of the network
  module _ (t : Plan) (up : List Bool) (over : t.topology ≡ restrict up net) where
    port_in : (u p : ℕ) (hop : Hop) → port_at t.topology u p ≡ Some hop → (q : ℕ) × (port_at net u q ≡ Some hop)
    port_in u p hop at = let was = port_at-restrict up net u p hop (ap (λ (n : Topology). port_at n u p) (sym over) ∙ at) in (was.0, was.1)

    nodes_same : node_count t.topology ≡ node_count net
    nodes_same = ap (λ (n : Topology). length n.ports) over ∙ node_count-restrict up net

    step_linked : (u d v : ℕ) → StepsTo t d u v → Linked net u v
    step_linked u d v s = let from = port_of t u d s.0 s.1 in let at = port_in u from.0 s.0 from.1 in (at.0, s.0, at.1, s.2)

    front_leads : (d u : ℕ) (front rest : List ℕ) → u < node_count net → table.IsWalk t d (u ∷ front ++ rest) → LeadsTo net u (last_of (u ∷ front)) front
    front_leads d u [] rest u_in k = (refl, u_in)
    front_leads d u (v ∷ front) rest u_in k =
        let s = step_linked u d v k.1 in
        let v_in : v < node_count net = subst (λ (x : ℕ). x < node_count net) s.3 (port_facts net ok u s.0 s.1 s.2).to in
        (s, front_leads d v front rest v_in k.2)

    front_walk : (source d : ℕ) (hops rest walk : List ℕ) → source < node_count net → 0 < length hops → hops ++ rest ≡ walk → IsWalkFrom t source d walk → IsWalk net source (last_of hops) hops
    front_walk source d [] rest walk source_in some e w = absurd (omega arith)
    front_walk source d (x ∷ front) rest walk source_in some e w =
        let here : IsWalkFrom t source d (x ∷ front ++ rest) = subst (λ (ws : List ℕ). IsWalkFrom t source d ws) (sym e) w in
        let same : x ≡ source = here.begins in
        (same, subst (λ (y : ℕ). LeadsTo net y (last_of (x ∷ front)) front) same (front_leads d x front rest (omega arith) here.steps))

    leg : (g : Record) → IsSound t g → IsLeg net g
    leg g k source_in dest_in =
        let n = nodes_same in
        let w = k.plan.walks g.source g.dest (omega arith) (omega arith) in
        let same : w.0 ≡ k.walk = prescribed_unique t.topology (table_port t) g.source g.dest w.0 k.walk w.1 k.prescribed in
        let lengths = ap length k.follows.1 in
        let walks = ap length same in
        (front_walk g.source g.dest g.hops k.follows.0 k.walk source_in k.not_empty k.follows.1 (walk_of t g.source g.dest k.walk k.prescribed), omega (arith, w.2, length-append g.hops k.follows.0, lengths, walks))

    -- the link along which the table leads on, and its end
    link_on : (g : Record) (l node : ℕ) → LeadsOn t g l node → (link : Link) × (slice_get net.links l ≡ Some link) × ((node ≡ link.low) ⊎ (node ≡ link.high))
    link_on g l node on =
        let from = port_of t (last_of g.hops) g.dest on.0 on.1 in
        let at = port_in (last_of g.hops) from.0 on.0 from.1 in
        let port : IsPort net (last_of g.hops) on.0 = ok.ports (last_of g.hops) at.0 on.0 at.1 in (
          port.0,
          ap (slice_get net.links) (sym on.2) ∙ port.1,
          ⊎_elim (λ ends. inr (sym on.3 ∙ sym ends.1)) (λ ends. inl (sym on.3 ∙ sym ends.0)) port.2,
        )

    fate_in : (g : Record) (walk : List ℕ) (fate : Fate) → FateFits t g walk fate → FateIsIn net fate
    fate_in g walk Delivered fits = tt
    fate_in g walk Retired fits = tt
    fate_in g walk (Down l) fits = let link = link_on g l fits.0 fits.1.1 in slice_get_within net.links l link.0 link.1
    fate_in g walk (Full l node) fits = link_on g l node fits.1
    fate_in g walk Left fits = tt

  -- ---- all segments of a record
  walk_in : (latest : List Restamp) (r : Record) (m : ℕ) → node_count net ≡ m + 1 → r.source < node_count net → r.dest < node_count net → ArePlaces (length r.hops) latest → AllByRecursion (IsLeg net) (segments_in latest r)
      → IsWalk net r.source (last_of r.hops) r.hops × (length r.hops ≤ most latest m + 1)
  walk_in [] r m n source_in dest_in places each = let k = each.0 source_in dest_in in (k.0, omega (arith, k.1))
  walk_in (s ∷ older) r m n source_in dest_in places each =
      let lt = places.0 in
      let there = length-take-le (s.from + 1) r.hops (omega arith) in
      let within : ArePlaces (length (take (s.from + 1) r.hops)) older = rw there (places_more older s.from (s.from + 1) (omega arith) places.1) in
      let below = walk_in older (until s r) m n source_in dest_in within each.1 in
      let front : IsWalk net r.source (slice_index r.hops s.from) (take (s.from + 1) r.hops) =
      subst (λ (x : ℕ). IsWalk net r.source x (take (s.from + 1) r.hops)) (ap (λ (n : ℕ). last_of (take n r.hops)) (add-one s.from) ∙ last_take s.from r.hops lt) below.0 in
      let k = each.0 (walk_end net r.source (slice_index r.hops s.from) (take (s.from + 1) r.hops) front) dest_in in
      let here = walk_tail net (slice_index r.hops s.from) (last_of (drop s.from r.hops)) (drop s.from r.hops) k.0 in
      let back : LeadsTo net (slice_index r.hops s.from) (last_of r.hops) (drop (s.from + 1) r.hops) =
      subst (λ (x : ℕ). LeadsTo net (slice_index r.hops s.from) x (drop (s.from + 1) r.hops)) (last_drop s.from r.hops lt)
      (subst (λ (xs : List ℕ). LeadsTo net (slice_index r.hops s.from) (last_of (drop s.from r.hops)) xs) (drop-drop 1 s.from r.hops) here) in
      let rest = length-drop s.from r.hops in (
        subst (λ (xs : List ℕ). IsWalk net r.source (last_of r.hops) xs) (take-append-drop (s.from + 1) r.hops)
            (walk_append net r.source (slice_index r.hops s.from) (last_of r.hops) (take (s.from + 1) r.hops) (drop (s.from + 1) r.hops) front back),
        omega (arith, k.1, below.1),
      )

  -- ---- by the stamps of a record
  module _ (opening : Stamp) (over : (knows opening).topology ≡ net) where
    abbrev AreOfNet : List Stamp → Type 0
    AreOfNet ss = AllByRecursion (IsOfNet opening) ss

    legs : (ss : List Stamp) (gs : List Record) → AreOfNet ss → EachBy IsSoundByStamp ss gs → ∥ AllByRecursion (IsLeg net) gs ∥₁
    legs [] [] a e = ∣ tt ∣₁
    legs [] (g ∷ gs) a e = absurd e
    legs (s ∷ ss) [] a e = absurd e
    legs (s ∷ ss) (g ∷ gs) a e =
        ∥∥₁_elim a.0.1 ∥∥₁_prop (λ w. ∥∥₁_elim (legs ss gs a.1 e.1) ∥∥₁_prop (λ rest. ∣ (leg (knows s) w.0 (w.2 ∙ ap (restrict w.0) over) g e.0.1, rest) ∣₁))

    fates : (ss : List Stamp) (latest : List Restamp) (r : Record) → AreOfNet ss → EachBy IsSoundByStamp ss (segments_in latest r) → ∥ FateIsIn net r.fate ∥₁
    fates [] [] r a e = absurd e
    fates [] (x ∷ older) r a e = absurd e
    fates (s ∷ ss) [] r a e =
        ∥∥₁_elim a.0.1 ∥∥₁_prop (λ w. ∣ fate_in (knows s) w.0 (w.2 ∙ ap (restrict w.0) over) (present_in [] r) e.0.1.walk r.fate e.0.1.fate ∣₁)
    fates (s ∷ ss) (x ∷ older) r a e =
        ∥∥₁_elim a.0.1 ∥∥₁_prop (λ w. ∣ fate_in (knows s) w.0 (w.2 ∙ ap (restrict w.0) over) (present_in (x ∷ older) r) e.0.1.walk r.fate e.0.1.fate ∣₁)

    -- a record that is sound by stamps of the net
    pub has_segments : (ss : List Stamp) (r : Record) → node_count net ≤ MAX_NODES → r.source < node_count net → r.dest < node_count net
        → ∥ All (IsOfNet opening) ss ∥₁ → ∥ IsSoundByStamps ss r ∥₁ → HasSegments net r
    has_segments ss r few source_in dest_in every sound =
        let of_net : ∥ AreOfNet ss ∥₁ = ∥∥₁_elim every ∥∥₁_prop (λ a. ∣ by_recursion (IsOfNet opening) ss a ∣₁) in
        let latest = reverse r.restamps in
        let places : ArePlaces (length r.hops) latest = places_out (length r.hops) latest (∥∥₁_elim sound ∥∥₁_prop (λ k. ∣ k.places ∣₁)) in
        let restamps : length r.restamps ≤ MAX_RESTAMPS = ∥∥₁_elim sound le_prop (λ k. k.few) in
        let n : node_count net ≡ (node_count net - 1) + 1 = omega arith in
        let walks : ∥ IsWalk net r.source (last_of r.hops) r.hops × (length r.hops ≤ most latest (node_count net - 1) + 1) ∥₁ =
        ∥∥₁_elim of_net ∥∥₁_prop (λ a. ∥∥₁_elim sound ∥∥₁_prop (λ k. ∥∥₁_elim (legs ss (segments r) a k.each) ∥∥₁_prop (λ each. ∣ walk_in latest r (node_count net - 1) n source_in dest_in places each ∣₁))) in
        let short : length r.hops ≤ most latest (node_count net - 1) + 1 = ∥∥₁_elim walks le_prop (λ k. k.1) in
        let reversed = length-reverse r.restamps in
        let bound = most_within latest MAX_RESTAMPS (node_count net - 1) (omega arith) in
        record {
          writable = record {
            source = source_in;
            dest = dest_in;
            first = r.source;
            last = last_of r.hops;
            hops = walk_out net r.source (last_of r.hops) r.hops (∥∥₁_elim walks ∥∥₁_prop (λ k. ∣ k.0 ∣₁));
            few = omega arith;
            fate = fate_out net r.fate (∥∥₁_elim of_net ∥∥₁_prop (λ a. ∥∥₁_elim sound ∥∥₁_prop (λ k. fates ss latest r a k.each)));
          };
          few = omega arith;
          places = places;
        }

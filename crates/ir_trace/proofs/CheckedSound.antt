-- A row of which there is no finding is sound in the words of the packet core.
use Rattle.std.proofs.Common.{◌≡◌, ◌<◌, ◌≤◌, ◌-◌, ℕ, zero, suc, true, cond, List, [], ◌∷◌, ◌++◌, length, nat_lt, slice_get, Option, Some, None, refl, sym, ap, subst, ◌∙◌, arith, inl, inr, append_assoc}
use Rattle.std.specs.Prelude.{option_map, option_and_then}
use Rattle.std.specs.List.{list_all}
use Rattle.std.proofs.lemmas.Bool.{and_parts, eq-eqb, ne_eqb, ltb-true}
use Rattle.std.proofs.lemmas.List.{append-nil}
use Rattle.std.proofs.lemmas.Option.{none-some, same_Some, get_or_from_slice_get, slice_get-get_or}
use Rattle.ir_model.specs.declared.Hop.{Hop}
use Rattle.ir_model.specs.declared.Link.{Link}
use Rattle.ir_model.specs.declared.Kind.{Kind}
use Rattle.ir_model.specs.declared.Kind.TheVariants.{Tree, Shortest, Compact, Landmark}
use Rattle.ir_model.specs.Topology.{Topology, node_count, port_at, IsLink, IsPort, Joins}
use Rattle.ir_model.specs.Table.{IsPrescribedWalk, IsShortestTable}
use Rattle.ir_model.specs.Compact.{IsCompactTable}
use Rattle.ir_model.specs.Plan.{Plan, table_port, next_hop, IsPlan, IsTableOf}
use Rattle.ir_model.proofs.Reach.{connected_distances}
use Rattle.ir_model.proofs.Tables.{prescribed_nearer, prescribed_shortest}
use Rattle.ir_plan.proofs.LandmarkPlans.{landmark_weight}
use Rattle.ir_core.specs.declared.packet.Fate.{Fate}
use Rattle.ir_core.specs.declared.packet.Fate.TheVariants as fate
use mathlib.Core.List.{IsPrefix}
use Rattle.ir_core.specs.Sound.{last_of, IsSound, WeighsTheDistance}
use Rattle.ir_core.proofs.Walks.{port_of}
use Rattle.ir_trace.specs.declared.row.RowFate.{RowFate}
use Rattle.ir_trace.specs.declared.row.RowFate.TheVariants.{Delivered, Retired, Down, Full, Left}
use Rattle.ir_trace.specs.Row.{Segment, TraceRow}
use Rattle.ir_trace.specs.Written.{link_at, other_end}
use Rattle.ir_trace.specs.Again.{fate_again}
use Rattle.ir_trace.specs.Checked.{plan_at, no_part, last_part, is_part_over, IsRowOver, KnowsEpochs, IsFrontOfWalk, IsWholeWalk, AreJoined, ArePair, GoesOn, FollowsWalks, HasArrived}
use Rattle.ir_trace.specs.Inspect.{is_node, next_of, leads_through, AreOver}
use Rattle.ir_trace.specs.SoundRows.{segment_of, IsOrdered, IsSoundRow}
use Rattle.ir_trace.proofs.Inspecting.{part_facts}
use Rattle.ir_trace.proofs.CheckedRows.{all_at}
use Rattle.ir_trace.proofs.Fronts.{node_is, leads_through-push, front_back}

-- the next node is that of a next hop
hop_to : (t : Plan) (x d y : ℕ) → next_of t x d ≡ Some y → (h : Hop) × (next_hop t x d ≡ Some h) × (h.node ≡ y)
hop_to t x d y e = by_port (table_port t x d) refl e
  where
    by_hop : (p : ℕ) → table_port t x d ≡ Some p → (h : Option Hop) → port_at t.topology x p ≡ h → option_map (λ (hop : Hop). hop.node) h ≡ Some y → (h : Hop) × (next_hop t x d ≡ Some h) × (h.node ≡ y)
    by_hop p is None at f = absurd (none-some y f)
    by_hop p is (Some hop) at f = let there : next_hop t x d ≡ Some hop = rw is at in (hop, there, same_Some hop.node y f)

    by_port : (q : Option ℕ) → table_port t x d ≡ q → option_and_then (λ p. option_map (λ (hop : Hop). hop.node) (port_at t.topology x p)) q ≡ Some y → (h : Hop) × (next_hop t x d ≡ Some h) × (h.node ≡ y)
    by_port None is f = absurd (none-some y f)
    by_port (Some p) is f = by_hop p is (port_at t.topology x p) refl f

-- the ends of a link, given in two ways
same_ends : (link : Link) (x v low high : ℕ) → Joins link x v → ArePair x v low high → low < high → link.low < link.high → (link.low ≡ low) × (link.high ≡ high)
same_ends link x v low high (inl j) (inl p) lt up = (j.0 ∙ p.0, j.1 ∙ p.1)
same_ends link x v low high (inl j) (inr p) lt up = absurd (omega (arith, j.0, j.1, p.0, p.1))
same_ends link x v low high (inr j) (inl p) lt up = absurd (omega (arith, j.0, j.1, p.0, p.1))
same_ends link x v low high (inr j) (inr p) lt up = (j.0 ∙ p.1, j.1 ∙ p.0)

other_is : (link : Link) (x v : ℕ) → Joins link x v → link.low < link.high → other_end link v ≡ x
other_is link x v (inl j) up = ap (λ b. cond b link.high link.low) (ne_eqb link.low v (λ e. omega (arith, e, j.1, up))) ∙ j.0
other_is link x v (inr j) up = ap (λ b. cond b link.high link.low) (eq-eqb link.low v j.0) ∙ j.1

module _ (net : Topology) (t : Plan) (is : IsPlan t) (same : t.topology.links ≡ net.links) (id d epoch : ℕ) (d_in : d < node_count t.topology) where
  each_sound : (hops : List ℕ) → IsFrontOfWalk t d hops → IsSound t (segment_of id d epoch hops fate.Retired)
  each_sound [] f = absurd f
  each_sound (u ∷ rest) f = record { plan = is; walk = f.0; prescribed = f.1; not_empty = omega arith; follows = f.2; fate = tt }

  left_sound : (hops : List ℕ) → IsFrontOfWalk t d hops → IsSound t (segment_of id d epoch hops fate.Left)
  left_sound [] f = absurd f
  left_sound (u ∷ rest) f = record { plan = is; walk = f.0; prescribed = f.1; not_empty = omega arith; follows = f.2; fate = tt }

  record Going (u : ℕ) (rest : List ℕ) (v : ℕ) : Type 0 where
    walk : List ℕ
    prescribed : IsPrescribedWalk t.topology (table_port t) u d walk
    prefix : IsPrefix ((u ∷ rest) ++ v ∷ []) walk
    hop : Hop
    next : next_hop t (last_of (u ∷ rest)) d ≡ Some hop
    node : hop.node ≡ v
    link : Link
    at : slice_get net.links hop.link ≡ Some link
    joins : Joins link (last_of (u ∷ rest)) v
    ordered : link.low < link.high

  going : (u : ℕ) (rest : List ℕ) (v : ℕ) → IsFrontOfWalk t d ((u ∷ rest) ++ v ∷ []) → Going u rest v
  going u rest v f =
      let led = sym (leads_through-push t d u rest v) ∙ front_back t is d d_in u (rest ++ v ∷ []) f in
      let on = node_is (next_of t (last_of (u ∷ rest)) d) v (and_parts (leads_through t d u rest) (is_node (next_of t (last_of (u ∷ rest)) d) v) led).1 in
      let h = hop_to t (last_of (u ∷ rest)) d v on in
      let p = port_of t (last_of (u ∷ rest)) d h.0 h.1 in
      let port : IsPort t.topology (last_of (u ∷ rest)) h.0 = is.topology.ports (last_of (u ∷ rest)) p.0 h.0 p.1 in
      let kind : IsLink (node_count t.topology) port.0 = is.topology.links h.0.link port.0 port.1 in
      record {
        walk = f.0;
        prescribed = f.1;
        prefix = f.2;
        hop = h.0;
        next = h.1;
        node = h.2;
        link = port.0;
        at = ap (λ (ls : List Link). slice_get ls h.0.link) (sym same) ∙ port.1;
        joins = subst (λ (y : ℕ). Joins port.0 (last_of (u ∷ rest)) y) h.2 port.2;
        ordered = kind.ordered;
      }

  along : (u : ℕ) (rest : List ℕ) (v : ℕ) (g : Going u rest v) → IsPrefix (u ∷ rest) g.walk
  along u rest v g = (v ∷ g.prefix.0, sym (append_assoc (u ∷ rest) (v ∷ []) g.prefix.0) ∙ g.prefix.1)

  weighs : (k : Kind) → k ≡ t.kind → (u : ℕ) (rest : List ℕ) → u < node_count t.topology → IsPrescribedWalk t.topology (table_port t) u d (u ∷ rest) → WeighsTheDistance k t (segment_of id d epoch (u ∷ rest) fate.Delivered)
  weighs Tree e u rest u_in whole = tt
  weighs Shortest e u rest u_in whole =
      let table : IsShortestTable t.topology (table_port t) = subst (λ (k : Kind). IsTableOf k t.topology t.order is.parents (table_port t)) (sym e) is.table in
      (prescribed_shortest t.topology is.topology (table_port t) table u d u_in d_in (u ∷ rest) whole).1
  weighs Compact e u rest u_in whole =
      let table : IsCompactTable t.topology t.order (table_port t) = subst (λ (k : Kind). IsTableOf k t.topology t.order is.parents (table_port t)) (sym e) is.table in
      (prescribed_nearer t.topology is.topology (table_port t) table.nearer u d u_in d_in (u ∷ rest) whole).1
  weighs (Landmark detour) e u rest u_in whole =
      let far = connected_distances t.topology is.topology is.connected u d u_in d_in in
      (far.0, far.1, landmark_weight t is detour (sym e) u d far.0 far.1 (u ∷ rest) whole)

  last_sound : (hops : List ℕ) → list_all (λ u. nat_lt u (node_count t.topology)) hops ≡ true → IsFrontOfWalk t d hops → (f : RowFate) → GoesOn t d hops f → (f ≡ Delivered → IsWholeWalk t d hops) → IsOrdered f
      → (x : Fate) × (fate_again net x ≡ f) × IsSound t (segment_of id d epoch hops x)
  last_sound [] within front f on whole ordered = absurd front
  last_sound (u ∷ rest) within front Delivered on whole ordered =
      let w = whole refl in
      let u_in : u < node_count t.topology = ltb-true u (node_count t.topology) (and_parts (nat_lt u (node_count t.topology)) (list_all (λ u. nat_lt u (node_count t.topology)) rest) within).0 in
      (fate.Delivered, refl, record { plan = is; walk = u ∷ rest; prescribed = w; not_empty = omega arith; follows = ([], append-nil (u ∷ rest)); fate = (refl, weighs t.kind refl u rest u_in w) })
  last_sound (u ∷ rest) within front Retired on whole ordered = (fate.Retired, refl, each_sound (u ∷ rest) front)
  last_sound (u ∷ rest) within front Left on whole ordered = (fate.Left, refl, left_sound (u ∷ rest) front)
  last_sound (u ∷ rest) within front (Full from to) on whole ordered =
      let g = going u rest to on.0 in
      let link : link_at net g.hop.link ≡ g.link = get_or_from_slice_get net.links g.hop.link g.link _ g.at in
      let other : other_end (link_at net g.hop.link) to ≡ from = ap (λ (l : Link). other_end l to) link ∙ other_is g.link (last_of (u ∷ rest)) to g.joins g.ordered ∙ on.1 in (
        fate.Full g.hop.link to,
        ap (λ (x : ℕ). Full x to) other,
        record { plan = is; walk = g.walk; prescribed = g.prescribed; not_empty = omega arith; follows = along u rest to g; fate = (g.prefix, (g.hop, g.next, refl, g.node)) },
      )
  last_sound (u ∷ rest) within front (Down low high) on whole ordered =
      let g = going u rest on.0 on.1 in
      let link : link_at net g.hop.link ≡ g.link = get_or_from_slice_get net.links g.hop.link g.link _ g.at in
      let ends = same_ends g.link (last_of (u ∷ rest)) on.0 low high g.joins on.2 ordered g.ordered in
      let lows : (link_at net g.hop.link).low ≡ low = ap (λ (l : Link). l.low) link ∙ ends.0 in
      let highs : (link_at net g.hop.link).high ≡ high = ap (λ (l : Link). l.high) link ∙ ends.1 in (
        fate.Down g.hop.link,
        ap (λ (x : ℕ). Down x (link_at net g.hop.link).high) lows ∙ ap (λ (x : ℕ). Down low x) highs,
        record { plan = is; walk = g.walk; prescribed = g.prescribed; not_empty = omega arith; follows = along u rest on.0 g; fate = (on.0, (g.prefix, (g.hop, g.next, refl, g.node))) },
      )

front_at : (plans : List Plan) (d u above : ℕ) (parts : List Segment) → AreJoined plans d u above parts → (i : ℕ) (part : Segment) → slice_get parts i ≡ Some part → IsFrontOfWalk (plan_at plans part.epoch) d part.hops
front_at plans d u above [] are i part at = absurd (cc at)
front_at plans d u above (p ∷ parts) are zero part at = let e : p ≡ part = cc at in subst (λ (q : Segment). IsFrontOfWalk (plan_at plans q.epoch) d q.hops) e are.2
front_at plans d u above (p ∷ parts) are (suc i) part at = front_at plans d (last_of p.hops) p.epoch parts are.3 i part at

pub sound_row : (net : Topology) (plans : List Plan) (row : TraceRow) → AreOver (node_count net) plans → ((e : ℕ) → 0 < e → e ≤ length plans → (plan_at plans e).topology.links ≡ net.links) → IsRowOver (node_count net) row
    → KnowsEpochs plans row.parts → FollowsWalks plans row → HasArrived plans row → IsSoundRow net plans row
sound_row net plans row over links is known follows arrived =
    let last = last_part row.parts in
    let last_is : slice_get row.parts (length row.parts - 1) ≡ Some last = slice_get-get_or row.parts (length row.parts - 1) no_part (let some = is.some in omega arith) in
    let e = known (length row.parts - 1) last last_is in
    let o = over last.epoch e.0 e.1 in
    let facts = part_facts (node_count net) last (all_at (is_part_over (node_count net)) row.parts is.parts (length row.parts - 1) last last_is) in
    let N : ℕ → Type 0 = λ n. list_all (λ u. nat_lt u n) last.hops ≡ true in
    record {
      each = λ i part at. (let k = known i part at in let p = over part.epoch k.0 k.1 in
          each_sound net (plan_at plans part.epoch) p.0 (links part.epoch k.0 k.1) row.id row.dest part.epoch (omega (arith, is.dest, p.1)) part.hops (front_at plans row.dest row.source 0 row.parts follows.joined i part at));
      last = λ ordered. last_sound net (plan_at plans last.epoch) o.0 (links last.epoch e.0 e.1) row.id row.dest last.epoch (omega (arith, is.dest, o.1)) last.hops (subst N (sym o.1) facts.within)
          (front_at plans row.dest row.source 0 row.parts follows.joined (length row.parts - 1) last last_is) row.fate follows.goes_on arrived ordered;
    }

-- A row leaves the walks of its epochs first at one place at most.
use Rattle.std.proofs.Common.{◌≡◌, ◌≢◌, ◌<◌, ◌≤◌, ◌⊎◌, ◌==◌, ℕ, zero, suc, Bool, true, ◌&&◌, List, [], ◌∷◌, length, take, slice_get, nat_le, Option, Some, None, refl, sym, ap, subst, ◌∙◌, arith, inl, inr}
use Rattle.std.specs.List.{list_all}
use Rattle.std.proofs.lemmas.Bool.{and_parts, cases_eq}
use Rattle.std.proofs.lemmas.List.{take_all}
use Rattle.ir_model.specs.Topology.{Topology, node_count}
use Rattle.ir_model.specs.Plan.{Plan, IsPlan}
use Rattle.ir_core.specs.declared.built.Install.{Install}
use Rattle.ir_core.specs.Sound.{last_of}
use Rattle.ir_trace.specs.Row.{Segment, TraceRow}
use Rattle.ir_trace.specs.Checked.{plan_at, IsRowOver, ArePlansOf, KnowsEpochs, IsFrontOfWalk, AreJoined, FollowsWalks}
use Rattle.ir_trace.specs.declared.finding.FindingKind.TheVariants.{NotAPrefix}
use Rattle.ir_trace.specs.Inspect.{is_node, next_of, leads_through, are_known, are_joined, goes_on, has_arrived, segments_weight, first_of_four, found_of, AreOver}
use Rattle.ir_trace.proofs.CheckedRows.{over_plans, short_parts, follows, known_is, computed, is_found_as}
use Rattle.ir_trace.proofs.Fronts.{node_is, front_back}
use Rattle.ir_trace.proofs.CheckedTrace.{over_from}
use Rattle.ir_trace.specs.declared.departing.Departure.{Departure}
use Rattle.ir_trace.specs.declared.departing.Departure.TheVariants.{Epoch, Start, Hop, Fate}
use Rattle.ir_trace.specs.Leaving.{stands_after, last_epoch, IsStray, IsReachedByParts, LeavesAmong, LeavesByFate, Leaves, IsDeparture, LeavesIn}

apart : (a b : ℕ) → a ≢ b → (a < b) ⊎ (b < a)
apart a b ne = grind (arith, ne)

-- something is only at places of a list
within : {A : Type 0} (xs : List A) (i : ℕ) (x : A) → slice_get xs i ≡ Some x → i < length xs
within [] i x at = absurd (cc at)
within (y ∷ xs) zero x at = omega arith
within (y ∷ xs) (suc i) x at = omega (arith, within xs i x at)

-- ---- hops

-- the table sends on from each node that it leads through to the next one
led_at : (t : Plan) (d u : ℕ) (rest : List ℕ) (m j v : ℕ) → leads_through t d u (take m rest) ≡ true → j < m → slice_get rest j ≡ Some v → next_of t (last_of (u ∷ take j rest)) d ≡ Some v
led_at t d u [] m j v led lt at = absurd (cc at)
led_at t d u (w ∷ rest) zero j v led lt at = absurd (omega arith)
led_at t d u (w ∷ rest) (suc m) zero v led lt at =
    let same : w ≡ v = cc at in
    node_is (next_of t u d) w (and_parts (is_node (next_of t u d) w) (leads_through t d w (take m rest)) led).0 ∙ ap (λ (x : ℕ). Some x) same
led_at t d u (w ∷ rest) (suc m) (suc j) v led lt at =
    led_at t d w rest m j v (and_parts (is_node (next_of t u d) w) (leads_through t d w (take m rest)) led).1 (omega arith) at

module _ (t : Plan) (is : IsPlan t) (d : ℕ) (d_in : d < node_count t.topology) where
  -- no front of the walk goes past the first hop that leaves it
  not_past : (hops : List ℕ) (i : ℕ) (next : Option ℕ) (m : ℕ) → IsStray t d hops i next → IsFrontOfWalk t d (take m hops) → i < m → ⊥
  not_past hops i next zero s f lt = absurd (omega arith)
  not_past [] i next (suc m) s f lt = f
  not_past (u ∷ rest) zero next (suc m) s f lt = s.front
  not_past (u ∷ rest) (suc i) next (suc m) s f lt =
      s.other (s.next_is ∙ led_at t d u rest m i s.hop (front_back t is d d_in u (take m rest) f) (omega arith) s.hop_is)

  not_whole : (hops : List ℕ) (i : ℕ) (next : Option ℕ) → IsStray t d hops i next → IsFrontOfWalk t d hops → ⊥
  not_whole hops i next s f =
      not_past hops i next (length hops) s (subst (IsFrontOfWalk t d) (sym (take_all (length hops) hops (omega arith))) f) (within hops i s.hop s.hop_is)

  same_stray : (hops : List ℕ) (i j : ℕ) (next other : Option ℕ) → IsStray t d hops i next → IsStray t d hops j other → i ≡ j
  same_stray hops i j next other s r = elim (cases_eq i j) [
    | inl e ↦ e
    | inr ne ↦ elim (apart i j ne) [
      | inl less ↦ absurd (not_past hops i next j s r.front less)
      | inr more ↦ absurd (not_past hops j other i r s.front more)
    ]
  ]

-- ---- parts

-- a part is joined to those before it, of a packet that is at u under this epoch
record IsJoinedTo (plans : List Plan) (d u above : ℕ) (part : Segment) : Type 0 where
  pub rises : above < part.epoch
  pub begins : slice_get part.hops 0 ≡ Some u
  pub front : IsFrontOfWalk (plan_at plans part.epoch) d part.hops

joined_at : (plans : List Plan) (d u above : ℕ) (parts : List Segment) (m k : ℕ) (part : Segment) → AreJoined plans d u above (take m parts) → k < m → slice_get parts k ≡ Some part
    → IsJoinedTo plans d (stands_after u (take k parts)) (last_epoch above (take k parts)) part
joined_at plans d u above [] m k part are lt at = absurd (cc at)
joined_at plans d u above (p ∷ parts) zero k part are lt at = absurd (omega arith)
joined_at plans d u above (p ∷ parts) (suc m) zero part are lt at =
    let same : p ≡ part = cc at in
    subst (IsJoinedTo plans d u above) same (record { rises = are.0; begins = are.1; front = are.2 })
joined_at plans d u above (p ∷ parts) (suc m) (suc k) part are lt at = joined_at plans d (last_of p.hops) p.epoch parts m k part are.3 (omega arith) at

-- where some parts are left, and how
record IsLeftAt (plans : List Plan) (d u : ℕ) (parts : List Segment) (left : Departure) : Type 0 where
  pub k : ℕ
  pub part : Segment
  pub reached : IsReachedByParts plans d u parts k part
  pub leaves : LeavesIn plans d k part (stands_after u (take k parts)) (last_epoch 0 (take k parts)) (Some left)

left_at : (plans : List Plan) (d u : ℕ) (parts : List Segment) (left : Departure) → LeavesAmong plans d u parts left → IsLeftAt plans d u parts left
left_at plans d u parts (Epoch k) h = record { k = k; part = h.0; reached = h.1; leaves = (refl, h.2) }
left_at plans d u parts (Start k at) h = record { k = k; part = h.0; reached = h.1; leaves = (refl, h.2, h.3, λ e. h.4 (e ∙ ap (λ (x : ℕ). Some x) (sym h.3))) }
left_at plans d u parts (Hop k i next) h = record { k = k; part = h.0; reached = h.1; leaves = (refl, h.2, h.3, h.4) }
left_at plans d u parts (Fate next) h = absurd h

module _ (n : ℕ) (plans : List Plan) (over : AreOver n plans) (d : ℕ) (d_in : d < n) where
  -- the plan of a known epoch
  module _ (part : Segment) (known : (0 < part.epoch) × (part.epoch ≤ length plans)) where
    plan : IsPlan (plan_at plans part.epoch)
    plan = (over part.epoch known.0 known.1).0

    there : d < node_count (plan_at plans part.epoch).topology
    there = let same = (over part.epoch known.0 known.1).1 in omega (arith, same)

    not_joined : (k u above : ℕ) (left : Departure) → LeavesIn plans d k part u above (Some left) → IsJoinedTo plans d u above part → ⊥
    not_joined k u above (Epoch s) h j = omega (arith, h.1, j.rises)
    not_joined k u above (Start s at) h j = h.3 j.begins
    not_joined k u above (Hop s i next) h j = not_whole (plan_at plans part.epoch) plan d there part.hops i next h.3 j.front
    not_joined k u above (Fate next) h j = h

    same_in : (k u above : ℕ) (a b : Departure) → LeavesIn plans d k part u above (Some a) → LeavesIn plans d k part u above (Some b) → a ≡ b
    same_in k u above (Fate next) b h g = absurd h
    same_in k u above (Epoch s) (Fate next) h g = absurd g
    same_in k u above (Start s at) (Fate next) h g = absurd g
    same_in k u above (Hop s i next) (Fate other) h g = absurd g
    same_in k u above (Epoch s) (Epoch r) h g = ap (λ (x : ℕ). Epoch x) (h.0 ∙ sym g.0)
    same_in k u above (Epoch s) (Start r at) h g = absurd (omega (arith, h.1, g.1))
    same_in k u above (Epoch s) (Hop r i next) h g = absurd (omega (arith, h.1, g.1))
    same_in k u above (Start s at) (Epoch r) h g = absurd (omega (arith, h.1, g.1))
    same_in k u above (Start s at) (Start r v) h g =
        let place : s ≡ r = h.0 ∙ sym g.0 in
        let node : at ≡ v = h.2 ∙ sym g.2 in
        cc
    same_in k u above (Start s at) (Hop r i next) h g = absurd (h.3 g.2)
    same_in k u above (Hop s i next) (Epoch r) h g = absurd (omega (arith, h.1, g.1))
    same_in k u above (Hop s i next) (Start r at) h g = absurd (g.3 h.2)
    same_in k u above (Hop s i next) (Hop r j other) h g =
        let place : s ≡ r = h.0 ∙ sym g.0 in
        let hop : i ≡ j = same_stray (plan_at plans part.epoch) plan d there part.hops i j next other h.3 g.3 in
        let node : next ≡ other = h.3.next_is ∙ ap (λ (x : ℕ). next_of (plan_at plans part.epoch) (last_of (take x part.hops)) d) hop ∙ sym g.3.next_is in
        cc

  module _ (u : ℕ) (parts : List Segment) (known : KnowsEpochs plans parts) where
    not_beyond : (left : Departure) (m : ℕ) → (l : IsLeftAt plans d u parts left) → AreJoined plans d u 0 (take m parts) → l.k < m → ⊥
    not_beyond left m l are lt =
        not_joined l.part (known l.k l.part l.reached.part_is) l.k (stands_after u (take l.k parts)) (last_epoch 0 (take l.k parts)) left l.leaves
        (joined_at plans d u 0 parts m l.k l.part are lt l.reached.part_is)

    not_all : (left : Departure) → IsLeftAt plans d u parts left → AreJoined plans d u 0 parts → ⊥
    not_all left l are =
        not_beyond left (length parts) l (subst (AreJoined plans d u 0) (sym (take_all (length parts) parts (omega arith))) are) (within parts l.k l.part l.reached.part_is)

    same_place : (a b : Departure) (l : IsLeftAt plans d u parts a) (r : IsLeftAt plans d u parts b) → l.k ≡ r.k
    same_place a b l r = elim (cases_eq l.k r.k) [
      | inl e ↦ e
      | inr ne ↦ elim (apart l.k r.k ne) [
        | inl less ↦ absurd (not_beyond a r.k l r.reached.before less)
        | inr more ↦ absurd (not_beyond b l.k r l.reached.before more)
      ]
    ]

    same_left : (a b : Departure) → IsLeftAt plans d u parts a → IsLeftAt plans d u parts b → a ≡ b
    same_left a b l r =
        let place : r.k ≡ l.k = sym (same_place a b l r) in
        let some : Some r.part ≡ Some l.part = sym r.reached.part_is ∙ ap (λ (x : ℕ). slice_get parts x) place ∙ l.reached.part_is in
        let part : r.part ≡ l.part = cc some in
        let leaves = subst (λ (p : Segment). LeavesIn plans d l.k p (stands_after u (take l.k parts)) (last_epoch 0 (take l.k parts)) (Some b)) part
        (subst (λ (x : ℕ). LeavesIn plans d x r.part (stands_after u (take x parts)) (last_epoch 0 (take x parts)) (Some b)) place r.leaves) in
        same_in l.part (known l.k l.part l.reached.part_is) l.k (stands_after u (take l.k parts)) (last_epoch 0 (take l.k parts)) a b l.leaves leaves

-- ---- rows

module _ (n : ℕ) (plans : List Plan) (over : AreOver n plans) (row : TraceRow) (d_in : row.dest < n) (known : KnowsEpochs plans row.parts) where
  -- how a row is left
  data Way : Departure → Type 0 where
    among : {left : Departure} → IsLeftAt plans row.dest row.source row.parts left → Way left
    by_fate : {next : Option ℕ} → LeavesByFate plans row next → Way (Fate next)

  way_of : (left : Departure) → Leaves plans row left → Way left
  way_of (Epoch k) h = among (left_at plans row.dest row.source row.parts (Epoch k) h)
  way_of (Start k at) h = among (left_at plans row.dest row.source row.parts (Start k at) h)
  way_of (Hop k i next) h = among (left_at plans row.dest row.source row.parts (Hop k i next) h)
  way_of (Fate next) h = by_fate h

  not_followed : (left : Departure) → Way left → FollowsWalks plans row → ⊥
  not_followed left (among l) f = not_all n plans over row.dest d_in row.source row.parts known left l f.joined
  not_followed (Fate next) (by_fate h) f = h.other f.goes_on

  same_way : (a b : Departure) → Way a → Way b → a ≡ b
  same_way a b (among l) (among r) = same_left n plans over row.dest d_in row.source row.parts known a b l r
  same_way a (Fate next) (among l) (by_fate g) = absurd (not_all n plans over row.dest d_in row.source row.parts known a l g.joined)
  same_way (Fate next) b (by_fate h) (among r) = absurd (not_all n plans over row.dest d_in row.source row.parts known b r h.joined)
  same_way (Fate next) (Fate other) (by_fate h) (by_fate g) = ap (λ (x : Option ℕ). Fate x) (h.next_is ∙ sym g.next_is)

pub one_departure : (net : Topology) (installs : List Install) (plans : List Plan) (row : TraceRow) (found other : Option Departure) → ArePlansOf net installs plans → IsRowOver (node_count net) row
    → IsDeparture plans row found → IsDeparture plans row other → found ≡ other
one_departure net installs plans row None None are is h g = refl
one_departure net installs plans row None (Some b) are is h g =
    let over = over_from net installs plans are in
    absurd (not_followed (node_count net) plans over row is.dest g.0 b (way_of (node_count net) plans over row is.dest g.0 b g.1) (h g.0))
one_departure net installs plans row (Some a) None are is h g =
    let over = over_from net installs plans are in
    absurd (not_followed (node_count net) plans over row is.dest h.0 a (way_of (node_count net) plans over row is.dest h.0 a h.1) (g h.0))
one_departure net installs plans row (Some a) (Some b) are is h g =
    let over = over_from net installs plans are in
    ap (λ (x : Departure). Some x)
    (same_way (node_count net) plans over row is.dest h.0 a b (way_of (node_count net) plans over row is.dest h.0 a h.1) (way_of (node_count net) plans over row is.dest h.0 b g.1))

-- ---- what a check finds of a row that leaves its walks, and of one that follows them

module _ (net : Topology) (plans : List Plan) (row : TraceRow) (over : AreOver (node_count net) plans) (is : IsRowOver (node_count net) row) where
  pub left_finds : (left : Departure) → IsDeparture plans row (Some left) → found_of net plans row ≡ Some NotAPrefix
  left_finds left h = elim (is_found_as net plans row over is [] NotAPrefix (h.0, not_followed (node_count net) plans over row is.dest h.0 left (way_of (node_count net) plans over row is.dest h.0 left h.1))) [
    | inl e ↦ e
    | inr other ↦ absurd (cc other.0)
  ]

  module _ (known : are_known (length plans) row.parts ≡ true) (none : IsDeparture plans row None) where
    followed : (are_joined plans row.dest row.source 0 row.parts && goes_on plans row.dest row.fate row.parts) ≡ true
    followed = (follows net plans row over is known).back (none ((known_is net plans row over is).yes known))

    pub rest_finds : (arrived weighs : Bool) → has_arrived row.dest row.fate row.parts ≡ arrived → (segments_weight net row.parts == row.weight) ≡ weighs
        → found_of net plans row ≡ first_of_four true true arrived weighs
    rest_finds arrived weighs ends weight = computed net plans row over is true true arrived weighs known followed ends weight

    pub rest_short : list_all (λ part. nat_le (length part.hops) 32768) row.parts ≡ true
    rest_short =
        short_parts (node_count net) plans over row.dest row.source 0 row.parts (over_plans (node_count net) plans row.dest row.parts over known is.parts is.dest)
        (and_parts (are_joined plans row.dest row.source 0 row.parts) (goes_on plans row.dest row.fate row.parts) followed).0

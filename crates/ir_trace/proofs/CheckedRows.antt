-- What the checker computes of a row is what the definition says of it.
use Rattle.std.proofs.Common.{◌≡◌, ◌⊎◌, ◌<◌, ◌≤◌, ◌-◌, ◌*◌, ◌==◌, ℕ, zero, suc, Bool, true, false, not, ◌&&◌, ◌||◌, List, [], ◌∷◌, ◌++◌, length, slice_get, nat_lt, nat_le, Option, Some, None, refl, sym, ap, subst, ◌∙◌, arith, inl, inr, ⊎_elim}
use Rattle.std.specs.List.{list_all}
use Rattle.std.proofs.lemmas.Bool.{and_parts, and_from, or_cases, eqb-true, eq-eqb, ltb-true, lt-ltb, leb-true, le-leb, both_ways}
use Rattle.std.proofs.lemmas.Option.{slice_get-get_or}
use Rattle.ir_model.specs.Topology.{Topology, node_count}
use Rattle.ir_model.specs.declared.Detour.{Detour}
use Rattle.ir_model.specs.declared.Kind.{Kind}
use Rattle.ir_model.specs.declared.Kind.TheVariants.{Tree, Shortest, Compact, Landmark}
use Rattle.ir_model.specs.Walk.{IsDistance, walk_weight}
use Rattle.ir_model.specs.Table.{IsShortestTable, IsNearerTable}
use Rattle.ir_model.specs.Compact.{IsCompactTable}
use Rattle.ir_model.specs.Plan.{Plan, IsPlan, IsTableOf, table_port}
use Rattle.ir_model.proofs.Reach.{connected_distances}
use Rattle.ir_model.proofs.Tables.{prescribed_nearer, shortest_is_nearer}
use Rattle.ir_plan.specs.Starts.{IsOfShortestWays}
use Rattle.ir_plan.proofs.LandmarkPlans.{landmark_weight}
use Rattle.ir_core.specs.Sound.{last_of}
use Rattle.ir_trace.specs.declared.row.RowFate.{RowFate}
use Rattle.ir_trace.specs.declared.row.RowFate.TheVariants.{Delivered, Retired, Down, Full, Left}
use Rattle.ir_trace.specs.declared.finding.FindingKind.{FindingKind}
use Rattle.ir_trace.specs.declared.finding.FindingKind.TheVariants.{NotTrace, BadRow, UnknownNode, UnknownEpoch, NotAPrefix, NotAtDestination, BadWeight, Repeated, NoMemory}
use Rattle.ir_trace.specs.Row.{Segment, TraceRow}
use Rattle.ir_trace.specs.Checked.{plan_at, no_part, last_part, is_part_over, IsRowOver, KnowsEpochs, IsFrontOfWalk, IsWholeWalk, AreJoined, ArePair, GoesOn, FollowsWalks, HasArrived, Weighs, ArrivesShortest, ArrivesWithin, HasNewId, IsFindingOf, IsFine}
use Rattle.ir_trace.specs.Inspect.{is_node, next_of, leads_through, follows_from, are_known, are_joined, fits_fate, goes_on, is_delivered, has_arrived, segments_weight, first_of_four, found_of, AreOver, IsOverPlan, AreOverPlans}
use Rattle.ir_trace.proofs.Inspecting.{part_facts}
use Rattle.ir_trace.proofs.Fronts.{leads_through-push, front, front_back, whole, whole_back}

-- the test is true exactly where the fact holds
pub record Tells (b : Bool) (P : Type 0) : Type 0 where
  pub yes : b ≡ true → P
  pub back : P → b ≡ true

no : (b : Bool) (P : Type 0) → Tells b P → b ≡ false → P → ⊥
no b P t e p = both_ways b e (t.back p)

off : (b : Bool) (P : Type 0) → Tells b P → (P → ⊥) → b ≡ false
off true P t none = absurd (none (t.yes refl))
off false P t none = refl

-- ---- epochs

known_tells : (n : ℕ) (parts : List Segment) → are_known n parts ≡ true → (i : ℕ) (part : Segment) → slice_get parts i ≡ Some part → (0 < part.epoch) × (part.epoch ≤ n)
known_tells n [] h i part at = absurd (cc at)
known_tells n (p ∷ parts) h zero part at =
    let here = and_parts (nat_lt 0 p.epoch) (nat_le p.epoch n) (and_parts (nat_lt 0 p.epoch && nat_le p.epoch n) (are_known n parts) h).0 in
    let same : p ≡ part = cc at in
    subst (λ (q : Segment). (0 < q.epoch) × (q.epoch ≤ n)) same (ltb-true 0 p.epoch here.0, leb-true p.epoch n here.1)
known_tells n (p ∷ parts) h (suc i) part at = known_tells n parts (and_parts (nat_lt 0 p.epoch && nat_le p.epoch n) (are_known n parts) h).1 i part at

known_back : (n : ℕ) (parts : List Segment) → ((i : ℕ) (part : Segment) → slice_get parts i ≡ Some part → (0 < part.epoch) × (part.epoch ≤ n)) → are_known n parts ≡ true
known_back n [] h = refl
known_back n (p ∷ parts) h =
    let here = h 0 p refl in
    and_from (nat_lt 0 p.epoch && nat_le p.epoch n) (are_known n parts) (and_from (nat_lt 0 p.epoch) (nat_le p.epoch n) (lt-ltb 0 p.epoch here.0) (le-leb p.epoch n here.1)) (known_back n parts (λ i part at. h (suc i) part at))

-- ---- parts

pub all_at : (test : Segment → Bool) (parts : List Segment) → list_all test parts ≡ true → (i : ℕ) (part : Segment) → slice_get parts i ≡ Some part → test part ≡ true
all_at test [] h i part at = absurd (cc at)
all_at test (p ∷ parts) h zero part at = let same : p ≡ part = cc at in ap test (sym same) ∙ (and_parts (test p) (list_all test parts) h).0
all_at test (p ∷ parts) h (suc i) part at = all_at test parts (and_parts (test p) (list_all test parts) h).1 i part at

-- the parts of a row whose epochs are known
pub over_plans : (n : ℕ) (plans : List Plan) (d : ℕ) (parts : List Segment) → AreOver n plans → are_known (length plans) parts ≡ true → list_all (is_part_over n) parts ≡ true → d < n → AreOverPlans plans d parts
over_plans n plans d parts over known parts_over d_in i part at =
    let epoch = known_tells (length plans) parts known i part at in
    let nodes : node_count (plan_at plans part.epoch).topology ≡ n = (over part.epoch epoch.0 epoch.1).1 in
    record {
      above = epoch.0;
      within = epoch.1;
      hops = subst (λ (m : ℕ). is_part_over m part ≡ true) (sym nodes) (all_at (is_part_over n) parts parts_over i part at);
      dest = omega (arith, nodes);
    }

module _ (n : ℕ) (plans : List Plan) (over : AreOver n plans) (d : ℕ) where
  follows_tells : (u : ℕ) (part : Segment) → IsOverPlan plans d part → Tells (follows_from (plan_at plans part.epoch) d u part.hops) ((slice_get part.hops 0 ≡ Some u) × IsFrontOfWalk (plan_at plans part.epoch) d part.hops)
  follows_tells u part is = by part.hops (part_facts (node_count t.topology) part is.hops).within
    where
      t : Plan
      t = plan_at plans part.epoch

      by : (hops : List ℕ) → list_all (λ x. nat_lt x (node_count t.topology)) hops ≡ true → Tells (follows_from t d u hops) ((slice_get hops 0 ≡ Some u) × IsFrontOfWalk t d hops)
      by [] within = record { yes = λ e. absurd (cc e); back = λ p. absurd p.1 }
      by (x ∷ rest) within =
          let plan : IsPlan t = (over part.epoch is.above is.within).0 in
          let x_in : x < node_count t.topology = ltb-true x (node_count t.topology) (and_parts (nat_lt x (node_count t.topology)) (list_all (λ x. nat_lt x (node_count t.topology)) rest) within).0 in
          record {
            yes = λ e. (let both = and_parts (x == u) (leads_through t d x rest) e in (ap (λ (y : ℕ). Some y) (eqb-true x u both.0), (front t plan d is.dest x rest x_in both.1).front));
            back = λ p. and_from (x == u) (leads_through t d x rest) (eq-eqb x u (let e : Some x ≡ Some u = p.0 in cc e)) (front_back t plan d is.dest x rest p.1);
          }

  pub joined_tells : (u above : ℕ) (parts : List Segment) → AreOverPlans plans d parts → Tells (are_joined plans d u above parts) (AreJoined plans d u above parts)
  joined_tells u above [] is = record { yes = λ e. tt; back = λ p. refl }
  joined_tells u above (part ∷ parts) is =
      let here = follows_tells u part (is 0 part refl) in
      let later = joined_tells (last_of part.hops) part.epoch parts (λ i p at. is (suc i) p at) in
      let f = follows_from (plan_at plans part.epoch) d u part.hops in
      let rest = are_joined plans d (last_of part.hops) part.epoch parts in
      record {
        yes = λ e. (let one = and_parts (nat_lt above part.epoch) (f && rest) e in let two = and_parts f rest one.1 in
            let p = here.yes two.0 in (ltb-true above part.epoch one.0, p.0, p.1, later.yes two.1));
        back = λ p. and_from (nat_lt above part.epoch) (f && rest) (lt-ltb above part.epoch p.0) (and_from f rest (here.back (p.1, p.2)) (later.back p.3));
      }

  -- the table of its epoch leads through each part
  pub record IsLed (part : Segment) : Type 0 where
    pub first : ℕ
    pub rest : List ℕ
    pub hops : part.hops ≡ first ∷ rest
    pub within : first < node_count (plan_at plans part.epoch).topology
    pub led : leads_through (plan_at plans part.epoch) d first rest ≡ true

  led_from : (u : ℕ) (part : Segment) → IsOverPlan plans d part → follows_from (plan_at plans part.epoch) d u part.hops ≡ true → IsLed part
  led_from u part is h = by part.hops refl (part_facts (node_count t.topology) part is.hops).within h
    where
      t : Plan
      t = plan_at plans part.epoch

      by : (hops : List ℕ) → part.hops ≡ hops → list_all (λ x. nat_lt x (node_count t.topology)) hops ≡ true → follows_from t d u hops ≡ true → IsLed part
      by [] e within f = absurd (cc f)
      by (x ∷ rest) e within f = record {
        first = x;
        rest = rest;
        hops = e;
        within = ltb-true x (node_count t.topology) (and_parts (nat_lt x (node_count t.topology)) (list_all (λ x. nat_lt x (node_count t.topology)) rest) within).0;
        led = (and_parts (x == u) (leads_through t d x rest) f).1;
      }

  pub part_led : (u above : ℕ) (parts : List Segment) → AreOverPlans plans d parts → are_joined plans d u above parts ≡ true → (i : ℕ) (part : Segment) → slice_get parts i ≡ Some part → IsLed part
  part_led u above [] is h i part at = absurd (cc at)
  part_led u above (p ∷ parts) is h zero part at =
      let one = and_parts (nat_lt above p.epoch) (follows_from (plan_at plans p.epoch) d u p.hops && are_joined plans d (last_of p.hops) p.epoch parts) h in
      let two = and_parts (follows_from (plan_at plans p.epoch) d u p.hops) (are_joined plans d (last_of p.hops) p.epoch parts) one.1 in
      let same : p ≡ part = cc at in
      subst IsLed same (led_from u p (is 0 p refl) two.0)
  part_led u above (p ∷ parts) is h (suc i) part at =
      let one = and_parts (nat_lt above p.epoch) (follows_from (plan_at plans p.epoch) d u p.hops && are_joined plans d (last_of p.hops) p.epoch parts) h in
      let two = and_parts (follows_from (plan_at plans p.epoch) d u p.hops) (are_joined plans d (last_of p.hops) p.epoch parts) one.1 in
      part_led (last_of p.hops) p.epoch parts (λ j q e. is (suc j) q e) two.1 i part at

  short_part : (part : Segment) → IsOverPlan plans d part → IsLed part → nat_le (length part.hops) 32768 ≡ true
  short_part part is led =
      let t = plan_at plans part.epoch in
      let plan : IsPlan t = (over part.epoch is.above is.within).0 in
      le-leb (length part.hops) 32768 (omega (arith, (front t plan d is.dest led.first led.rest led.within led.led).short, plan.topology.few_nodes, ap length led.hops))

  pub short_parts : (u above : ℕ) (parts : List Segment) → AreOverPlans plans d parts → are_joined plans d u above parts ≡ true → list_all (λ part. nat_le (length part.hops) 32768) parts ≡ true
  short_parts u above parts is h = all parts (λ i part at. short_part part (is i part at) (part_led u above parts is h i part at))
    where
      all : (ps : List Segment) → ((i : ℕ) (part : Segment) → slice_get ps i ≡ Some part → nat_le (length part.hops) 32768 ≡ true) → list_all (λ part. nat_le (length part.hops) 32768) ps ≡ true
      all [] each = refl
      all (p ∷ ps) each = and_from (nat_le (length p.hops) 32768) (list_all (λ part. nat_le (length part.hops) 32768) ps) (each 0 p refl) (all ps (λ i part at. each (suc i) part at))

  -- ---- the end of the way

  module _ (part : Segment) (is : IsOverPlan plans d part) (led : IsLed part) where
    on_tells : (v : ℕ) → Tells (is_node (next_of (plan_at plans part.epoch) (last_of part.hops) d) v) (IsFrontOfWalk (plan_at plans part.epoch) d (part.hops ++ v ∷ []))
    on_tells v = subst (λ (hops : List ℕ). Tells (is_node (next_of (plan_at plans part.epoch) (last_of hops) d) v) (IsFrontOfWalk (plan_at plans part.epoch) d (hops ++ v ∷ []))) (sym led.hops) (record {
      yes = λ e. (front (plan_at plans part.epoch) (over part.epoch is.above is.within).0 d is.dest led.first (led.rest ++ v ∷ []) led.within
          (leads_through-push (plan_at plans part.epoch) d led.first led.rest v ∙ and_from (leads_through (plan_at plans part.epoch) d led.first led.rest) (is_node (next_of (plan_at plans part.epoch) (last_of (led.first ∷ led.rest)) d) v) led.led e)).front;
      back = λ p. (and_parts (leads_through (plan_at plans part.epoch) d led.first led.rest) (is_node (next_of (plan_at plans part.epoch) (last_of (led.first ∷ led.rest)) d) v)
          (sym (leads_through-push (plan_at plans part.epoch) d led.first led.rest v) ∙ front_back (plan_at plans part.epoch) (over part.epoch is.above is.within).0 d is.dest led.first (led.rest ++ v ∷ []) p)).1;
    })

    fate_tells : (fate : RowFate) → Tells (fits_fate fate (last_of part.hops) (next_of (plan_at plans part.epoch) (last_of part.hops) d)) (GoesOn (plan_at plans part.epoch) d part.hops fate)
    fate_tells Delivered = record { yes = λ e. tt; back = λ p. refl }
    fate_tells Retired = record { yes = λ e. tt; back = λ p. refl }
    fate_tells Left = record { yes = λ e. tt; back = λ p. refl }
    fate_tells (Full from to) =
        let u = last_of part.hops in
        let on = on_tells to in
        let b = is_node (next_of (plan_at plans part.epoch) (last_of part.hops) d) to in
        record {
          yes = λ e. (let both = and_parts (u == from) b e in (on.yes both.1, eqb-true u from both.0));
          back = λ p. and_from (u == from) b (eq-eqb u from p.1) (on.back p.0);
        }
    fate_tells (Down low high) =
        let u = last_of part.hops in
        let test = λ (v : ℕ). is_node (next_of (plan_at plans part.epoch) (last_of part.hops) d) v in
        record {
          yes = λ e. ⊎_elim
              (λ (h : ((u == low) && test high) ≡ true). (let both = and_parts (u == low) (test high) h in (high, (on_tells high).yes both.1, inl (eqb-true u low both.0, refl))))
              (λ (h : ((u == high) && test low) ≡ true). (let both = and_parts (u == high) (test low) h in (low, (on_tells low).yes both.1, inr (eqb-true u high both.0, refl))))
              (or_cases ((u == low) && test high) ((u == high) && test low) e);
          back = λ p. by p.0 p.1 p.2;
        }
      where
        first : (a b : Bool) → a ≡ true → (a || b) ≡ true
        first true b e = refl
        first false b e = absurd (cc e)

        second : (a b : Bool) → b ≡ true → (a || b) ≡ true
        second true b e = refl
        second false b e = e

        by : (v : ℕ) → IsFrontOfWalk (plan_at plans part.epoch) d (part.hops ++ v ∷ []) → ArePair (last_of part.hops) v low high → fits_fate (Down low high) (last_of part.hops) (next_of (plan_at plans part.epoch) (last_of part.hops) d) ≡ true
        by v on (inl ends) =
            first _ _ (and_from (last_of part.hops == low) (is_node (next_of (plan_at plans part.epoch) (last_of part.hops) d) high) (eq-eqb (last_of part.hops) low ends.0)
            (subst (λ (x : ℕ). is_node (next_of (plan_at plans part.epoch) (last_of part.hops) d) x ≡ true) ends.1 ((on_tells v).back on)))
        by v on (inr ends) =
            second _ _ (and_from (last_of part.hops == high) (is_node (next_of (plan_at plans part.epoch) (last_of part.hops) d) low) (eq-eqb (last_of part.hops) high ends.0)
            (subst (λ (x : ℕ). is_node (next_of (plan_at plans part.epoch) (last_of part.hops) d) x ≡ true) ends.1 ((on_tells v).back on)))

    whole_tells : Tells (last_of part.hops == d) (IsWholeWalk (plan_at plans part.epoch) d part.hops)
    whole_tells = subst (λ (hops : List ℕ). Tells (last_of hops == d) (IsWholeWalk (plan_at plans part.epoch) d hops)) (sym led.hops) (record {
      yes = λ e. (refl, whole (plan_at plans part.epoch) (over part.epoch is.above is.within).0 d is.dest led.first led.rest led.led (eqb-true (last_of (led.first ∷ led.rest)) d e));
      back = λ p. eq-eqb (last_of (led.first ∷ led.rest)) d (whole_back (plan_at plans part.epoch) d led.first led.rest p.1);
    })

    arrived_tells : (fate : RowFate) → Tells (not (is_delivered fate) || (last_of part.hops == d)) (fate ≡ Delivered → IsWholeWalk (plan_at plans part.epoch) d part.hops)
    arrived_tells Delivered = record { yes = λ e same. whole_tells.yes e; back = λ p. whole_tells.back (p refl) }
    arrived_tells Retired = record { yes = λ e same. absurd (cc same); back = λ p. refl }
    arrived_tells (Down low high) = record { yes = λ e same. absurd (cc same); back = λ p. refl }
    arrived_tells (Full from to) = record { yes = λ e same. absurd (cc same); back = λ p. refl }
    arrived_tells Left = record { yes = λ e same. absurd (cc same); back = λ p. refl }

-- ---- rows

-- what is found of a row alone
abbrev pub IsFound : Topology → List Plan → TraceRow → Option FindingKind → Type 0
IsFound net plans row None = KnowsEpochs plans row.parts × FollowsWalks plans row × HasArrived plans row × Weighs net row
IsFound net plans row (Some UnknownEpoch) = KnowsEpochs plans row.parts → ⊥
IsFound net plans row (Some NotAPrefix) = KnowsEpochs plans row.parts × (FollowsWalks plans row → ⊥)
IsFound net plans row (Some NotAtDestination) = KnowsEpochs plans row.parts × FollowsWalks plans row × (HasArrived plans row → ⊥)
IsFound net plans row (Some BadWeight) = KnowsEpochs plans row.parts × FollowsWalks plans row × HasArrived plans row × (Weighs net row → ⊥)
IsFound net plans row (Some kind) = ⊥

module _ (net : Topology) (plans : List Plan) (row : TraceRow) (over : AreOver (node_count net) plans) (is : IsRowOver (node_count net) row) where
  pub last_is : slice_get row.parts (length row.parts - 1) ≡ Some (last_part row.parts)
  last_is = slice_get-get_or row.parts (length row.parts - 1) no_part (let some = is.some in omega arith)

  pub follows : are_known (length plans) row.parts ≡ true → Tells (are_joined plans row.dest row.source 0 row.parts && goes_on plans row.dest row.fate row.parts) (FollowsWalks plans row)
  follows known =
      let each = over_plans (node_count net) plans row.dest row.parts over known is.parts is.dest in
      let joined = joined_tells (node_count net) plans over row.dest row.source 0 row.parts each in
      let last = last_part row.parts in
      let led = λ (h : are_joined plans row.dest row.source 0 row.parts ≡ true). part_led (node_count net) plans over row.dest row.source 0 row.parts each h (length row.parts - 1) last last_is in
      let fate = λ (h : are_joined plans row.dest row.source 0 row.parts ≡ true). fate_tells (node_count net) plans over row.dest last (each (length row.parts - 1) last last_is) (led h) row.fate in
      record {
        yes = λ e. (let both = and_parts (are_joined plans row.dest row.source 0 row.parts) (goes_on plans row.dest row.fate row.parts) e in record { joined = joined.yes both.0; goes_on = (fate both.0).yes both.1 });
        back = λ p. (let h = joined.back p.joined in and_from (are_joined plans row.dest row.source 0 row.parts) (goes_on plans row.dest row.fate row.parts) h ((fate h).back p.goes_on));
      }

  arrives : are_known (length plans) row.parts ≡ true → are_joined plans row.dest row.source 0 row.parts ≡ true → Tells (has_arrived row.dest row.fate row.parts) (HasArrived plans row)
  arrives known h =
      let each = over_plans (node_count net) plans row.dest row.parts over known is.parts is.dest in
      let last = last_part row.parts in
      arrived_tells (node_count net) plans over row.dest last (each (length row.parts - 1) last last_is) (part_led (node_count net) plans over row.dest row.source 0 row.parts each h (length row.parts - 1) last last_is) row.fate

  pub found : IsFound net plans row (found_of net plans row)
  found = by (are_known (length plans) row.parts) (are_joined plans row.dest row.source 0 row.parts && goes_on plans row.dest row.fate row.parts) (has_arrived row.dest row.fate row.parts) (segments_weight net row.parts == row.weight) refl refl refl refl
    where
      by : (a b c e : Bool) → are_known (length plans) row.parts ≡ a → (are_joined plans row.dest row.source 0 row.parts && goes_on plans row.dest row.fate row.parts) ≡ b → has_arrived row.dest row.fate row.parts ≡ c → (segments_weight net row.parts == row.weight) ≡ e
          → IsFound net plans row (first_of_four a b c e)
      by false b c e ha hb hc he = λ known. both_ways (are_known (length plans) row.parts) ha (known_back (length plans) row.parts known)
      by true false c e ha hb hc he = (known_tells (length plans) row.parts ha, no _ _ (follows ha) hb)
      by true true false e ha hb hc he =
          let joined = (and_parts (are_joined plans row.dest row.source 0 row.parts) (goes_on plans row.dest row.fate row.parts) hb).0 in
          (known_tells (length plans) row.parts ha, (follows ha).yes hb, no _ _ (arrives ha joined) hc)
      by true true true false ha hb hc he =
          let joined = (and_parts (are_joined plans row.dest row.source 0 row.parts) (goes_on plans row.dest row.fate row.parts) hb).0 in
          (known_tells (length plans) row.parts ha, (follows ha).yes hb, (arrives ha joined).yes hc, λ w. both_ways (segments_weight net row.parts == row.weight) he (eq-eqb (segments_weight net row.parts) row.weight (sym w)))
      by true true true true ha hb hc he =
          let joined = (and_parts (are_joined plans row.dest row.source 0 row.parts) (goes_on plans row.dest row.fate row.parts) hb).0 in
          (known_tells (length plans) row.parts ha, (follows ha).yes hb, (arrives ha joined).yes hc, sym (eqb-true (segments_weight net row.parts) row.weight he))

  -- ---- what is said of the row is what is computed

  pub known_is : Tells (are_known (length plans) row.parts) (KnowsEpochs plans row.parts)
  known_is = record { yes = λ e. known_tells (length plans) row.parts e; back = λ p. known_back (length plans) row.parts p }

  weighs_is : Tells (segments_weight net row.parts == row.weight) (Weighs net row)
  weighs_is = record { yes = λ e. sym (eqb-true (segments_weight net row.parts) row.weight e); back = λ w. eq-eqb (segments_weight net row.parts) row.weight (sym w) }

  pub computed : (a b c e : Bool) → are_known (length plans) row.parts ≡ a → (are_joined plans row.dest row.source 0 row.parts && goes_on plans row.dest row.fate row.parts) ≡ b → has_arrived row.dest row.fate row.parts ≡ c → (segments_weight net row.parts == row.weight) ≡ e
      → found_of net plans row ≡ first_of_four a b c e
  computed a b c e ha hb hc he =
      let follow = are_joined plans row.dest row.source 0 row.parts && goes_on plans row.dest row.fate row.parts in
      let arrived = has_arrived row.dest row.fate row.parts in
      let weighs = segments_weight net row.parts == row.weight in
      ap (λ (x : Bool). first_of_four x follow arrived weighs) ha
      ∙ ap (λ (x : Bool). first_of_four a x arrived weighs) hb
      ∙ ap (λ (x : Bool). first_of_four a b x weighs) hc
      ∙ ap (λ (x : Bool). first_of_four a b c x) he

  joined_from : (are_joined plans row.dest row.source 0 row.parts && goes_on plans row.dest row.fate row.parts) ≡ true → are_joined plans row.dest row.source 0 row.parts ≡ true
  joined_from e = (and_parts (are_joined plans row.dest row.source 0 row.parts) (goes_on plans row.dest row.fate row.parts) e).0

  -- a finding of the row alone is the one that is computed; where its id alone is not new, none is computed
  pub is_found_as : (earlier : List TraceRow) (kind : FindingKind) → IsFindingOf net plans earlier row kind
      → (found_of net plans row ≡ Some kind) ⊎ ((kind ≡ Repeated) × (found_of net plans row ≡ None) × (HasNewId earlier row → ⊥))
  is_found_as earlier NotTrace h = absurd h
  is_found_as earlier BadRow h = absurd h
  is_found_as earlier UnknownNode h = absurd h
  is_found_as earlier NoMemory h = absurd h
  is_found_as earlier UnknownEpoch h =
      inl (computed false (are_joined plans row.dest row.source 0 row.parts && goes_on plans row.dest row.fate row.parts) (has_arrived row.dest row.fate row.parts) (segments_weight net row.parts == row.weight) (off _ _ known_is h) refl refl refl)
  is_found_as earlier NotAPrefix h =
      let known = known_is.back h.0 in
      inl (computed true false (has_arrived row.dest row.fate row.parts) (segments_weight net row.parts == row.weight) known (off _ _ (follows known) h.1) refl refl)
  is_found_as earlier NotAtDestination h =
      let known = known_is.back h.0 in
      let walks = (follows known).back h.1 in
      inl (computed true true false (segments_weight net row.parts == row.weight) known walks (off _ _ (arrives known (joined_from walks)) h.2) refl)
  is_found_as earlier BadWeight h =
      let known = known_is.back h.0 in
      let walks = (follows known).back h.1 in
      inl (computed true true true false known walks ((arrives known (joined_from walks)).back h.2) (off _ _ weighs_is h.3))
  is_found_as earlier Repeated h =
      let known = known_is.back h.0 in
      let walks = (follows known).back h.1 in
      inr (refl, computed true true true true known walks ((arrives known (joined_from walks)).back h.2) (weighs_is.back h.3), h.4)

  -- nothing is computed of a fine row
  pub is_fine_as : (earlier : List TraceRow) → IsFine net plans earlier row → found_of net plans row ≡ None
  is_fine_as earlier fine =
      let known = known_is.back fine.epochs in
      let walks = (follows known).back fine.walks in
      computed true true true true known walks ((arrives known (joined_from walks)).back fine.arrived) (weighs_is.back fine.weight)

  -- the plan of the last part, and its nodes
  last_plan : KnowsEpochs plans row.parts → IsPlan (plan_at plans (last_part row.parts).epoch)
  last_plan known = let e = known (length row.parts - 1) (last_part row.parts) last_is in (over (last_part row.parts).epoch e.0 e.1).0

  last_nodes : KnowsEpochs plans row.parts → node_count (plan_at plans (last_part row.parts).epoch).topology ≡ node_count net
  last_nodes known = let e = known (length row.parts - 1) (last_part row.parts) last_is in (over (last_part row.parts).epoch e.0 e.1).1

  -- with a kind of shortest ways the whole of the last walk weighs the distance
  pub shortest : KnowsEpochs plans row.parts → HasArrived plans row → ArrivesShortest plans row
  shortest known arrived delivered kind = by (last_part row.parts).hops (part_facts (node_count net) (last_part row.parts) (all_at (is_part_over (node_count net)) row.parts is.parts (length row.parts - 1) (last_part row.parts) last_is)).within (arrived delivered)
    where
      t : Plan
      t = plan_at plans (last_part row.parts).epoch

      plan : IsPlan (plan_at plans (last_part row.parts).epoch)
      plan = last_plan known

      nodes : node_count (plan_at plans (last_part row.parts).epoch).topology ≡ node_count net
      nodes = last_nodes known

      nearer : (k : Kind) → k ≡ (plan_at plans (last_part row.parts).epoch).kind → IsOfShortestWays k → IsNearerTable (plan_at plans (last_part row.parts).epoch).topology (table_port (plan_at plans (last_part row.parts).epoch))
      nearer Tree e short = absurd short
      nearer (Landmark detour) e short = absurd short
      nearer Shortest e short =
          let table : IsShortestTable (plan_at plans (last_part row.parts).epoch).topology (table_port (plan_at plans (last_part row.parts).epoch)) = subst (λ (k : Kind). IsTableOf k (plan_at plans (last_part row.parts).epoch).topology (plan_at plans (last_part row.parts).epoch).order plan.parents (table_port (plan_at plans (last_part row.parts).epoch))) (sym e) plan.table in
          shortest_is_nearer (plan_at plans (last_part row.parts).epoch).topology (table_port (plan_at plans (last_part row.parts).epoch)) table
      nearer Compact e short =
          let table : IsCompactTable (plan_at plans (last_part row.parts).epoch).topology (plan_at plans (last_part row.parts).epoch).order (table_port (plan_at plans (last_part row.parts).epoch)) = subst (λ (k : Kind). IsTableOf k (plan_at plans (last_part row.parts).epoch).topology (plan_at plans (last_part row.parts).epoch).order plan.parents (table_port (plan_at plans (last_part row.parts).epoch))) (sym e) plan.table in
          table.nearer

      table : IsNearerTable (plan_at plans (last_part row.parts).epoch).topology (table_port (plan_at plans (last_part row.parts).epoch))
      table = nearer (plan_at plans (last_part row.parts).epoch).kind refl kind

      by : (hops : List ℕ) → list_all (λ u. nat_lt u (node_count net)) hops ≡ true → IsWholeWalk (plan_at plans (last_part row.parts).epoch) row.dest hops
          → (u : ℕ) × (slice_get hops 0 ≡ Some u) × IsDistance (plan_at plans (last_part row.parts).epoch).topology u row.dest (walk_weight (plan_at plans (last_part row.parts).epoch).topology hops)
      by [] within whole = absurd whole
      by (u ∷ rest) within whole =
          let u_in : u < node_count net = ltb-true u (node_count net) (and_parts (nat_lt u (node_count net)) (list_all (λ u. nat_lt u (node_count net)) rest) within).0 in
          (u, refl, (prescribed_nearer (plan_at plans (last_part row.parts).epoch).topology plan.topology (table_port (plan_at plans (last_part row.parts).epoch)) table u row.dest (omega (arith, u_in, nodes)) (omega (arith, is.dest, nodes)) (u ∷ rest) whole).1)

  -- with a kind of landmarks it weighs no more than the stretch allows
  pub within_stretch : KnowsEpochs plans row.parts → HasArrived plans row → ArrivesWithin plans row
  within_stretch known arrived delivered detour kind =
      by (last_part row.parts).hops (part_facts (node_count net) (last_part row.parts) (all_at (is_part_over (node_count net)) row.parts is.parts (length row.parts - 1) (last_part row.parts) last_is)).within (arrived delivered)
    where
      plan : IsPlan (plan_at plans (last_part row.parts).epoch)
      plan = last_plan known

      nodes : node_count (plan_at plans (last_part row.parts).epoch).topology ≡ node_count net
      nodes = last_nodes known

      by : (hops : List ℕ) → list_all (λ u. nat_lt u (node_count net)) hops ≡ true → IsWholeWalk (plan_at plans (last_part row.parts).epoch) row.dest hops
          → (u : ℕ) × (slice_get hops 0 ≡ Some u) × (n : ℕ) × IsDistance (plan_at plans (last_part row.parts).epoch).topology u row.dest n
          × (100 * walk_weight (plan_at plans (last_part row.parts).epoch).topology hops ≤ detour.stretch * n)
      by [] within whole = absurd whole
      by (u ∷ rest) within whole =
          let u_in : u < node_count net = ltb-true u (node_count net) (and_parts (nat_lt u (node_count net)) (list_all (λ u. nat_lt u (node_count net)) rest) within).0 in
          let far = connected_distances (plan_at plans (last_part row.parts).epoch).topology plan.topology plan.connected u row.dest (omega (arith, u_in, nodes)) (omega (arith, is.dest, nodes)) in
          (u, refl, far.0, far.1, landmark_weight (plan_at plans (last_part row.parts).epoch) plan detour kind u row.dest far.0 far.1 (u ∷ rest) whole)

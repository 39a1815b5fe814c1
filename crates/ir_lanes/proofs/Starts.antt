-- What a search from sixteen nodes starts with.
use Rattle.std.proofs.Common.{◌≡◌, ◌≢◌, ℕ, ◌+◌, ◌*◌, ◌<◌, ◌≤◌, List, length, replicate, set, slice_get, slice_index, Some, refl, sym, subst, ◌∙◌, arith, ⊎_elim, length-set, get_or-set_same, get_or-set_other}
use Rattle.std.proofs.lemmas.Bool.{cases_eq, cases_lt}
use Rattle.std.proofs.lemmas.Nat.{mul-le}
use Rattle.std.proofs.lemmas.List.{get_or-replicate, get_or_past, length-replicate}
use Rattle.ir_model.specs.declared.Hop.{Hop}
use Rattle.ir_model.specs.Topology.{Topology, node_count, ports_of, port_at, IsTopology}
use Rattle.ir_model.proofs.Walks.{PortFacts, port_facts}
use Rattle.ir_lanes.specs.Lanes.{in_lane, far, most_added, AreNear, HaveLanes}
use Rattle.ir_lanes.specs.Equation.{IsSourceStart}

-- what a step adds is small
pub added_small : (net : Topology) → IsTopology net → (unit : ℕ) → unit ≤ 32768 → (u p : ℕ) (hop : Hop) → port_at net u p ≡ Some hop → hop.weight * unit ≤ 2147450880
added_small net ok unit few u p hop port = mul-le hop.weight unit 65535 32768 (port_facts net ok u p hop port).bounded few

-- the ports of a node, as they were read, lead to nodes that have lanes
pub ports_have : (net : Topology) → IsTopology net → (lanes : List ℕ) → AreNear net lanes
    → (u : ℕ) (ports : List Hop) → ports ≡ ports_of net u → HaveLanes ports lanes
ports_have net ok lanes near u ports is p hop at_p =
    let port : port_at net u p ≡ Some hop = subst (λ (hops : List Hop). slice_get hops p ≡ Some hop) is at_p in
    let facts : PortFacts net u hop = port_facts net ok u p hop port in
    omega (arith, facts.to, near.every)

-- and what a step by one of them adds is not too much
pub ports_light : (net : Topology) → IsTopology net → (unit : ℕ) → unit ≤ 32768
    → (u : ℕ) (ports : List Hop) → ports ≡ ports_of net u → (p : ℕ) (hop : Hop) → slice_get ports p ≡ Some hop → hop.weight * unit ≤ most_added
ports_light net ok unit few u ports is p hop at_p =
    let port : port_at net u p ≡ Some hop = subst (λ (hops : List Hop). slice_get hops p ≡ Some hop) is at_p in
    omega (arith, added_small net ok unit few u p hop port)

-- ---- one place of the lanes is written

module _ (lanes : List ℕ) (y lane x : ℕ) (lane_in : lane < 16) (room : y * 16 + lane < length lanes) where
  pub lane_written : in_lane (set lanes (y * 16 + lane) x) lane y ≡ x
  lane_written = get_or-set_same lanes (y * 16 + lane) x 0 room

  pub lane_kept_node : (v : ℕ) → v ≢ y → in_lane (set lanes (y * 16 + lane) x) lane v ≡ in_lane lanes lane v
  lane_kept_node v other = get_or-set_other lanes (y * 16 + lane) (v * 16 + lane) x 0 (λ e. other (omega (arith, e)))

  pub lane_kept : (k v : ℕ) → k < 16 → k ≢ lane → in_lane (set lanes (y * 16 + lane) x) k v ≡ in_lane lanes k v
  lane_kept k v k_in other = get_or-set_other lanes (y * 16 + lane) (v * 16 + k) x 0 (λ e. other (omega (arith, e, k_in, lane_in)))

  pub near_written : (net : Topology) → x ≤ far → AreNear net lanes → AreNear net (set lanes (y * 16 + lane) x)
  near_written net low near = record {
    every = length-set lanes (y * 16 + lane) x ∙ near.every;
    near = λ i. ⊎_elim (λ (e : i ≡ y * 16 + lane). let P : ℕ → Type 0 = λ j. slice_index (set lanes (y * 16 + lane) x) j ≤ far in
        subst P (sym e) (omega (arith, lane_written, low)))
        (λ (ne : i ≢ y * 16 + lane). let same : slice_index (set lanes (y * 16 + lane) x) i ≡ slice_index lanes i = get_or-set_other lanes (y * 16 + lane) i x 0 ne in omega (arith, same, near.near i))
        (cases_eq i (y * 16 + lane));
  }

-- lanes where nothing is near
pub near_none : (net : Topology) → AreNear net (replicate (node_count net * 16) 2147483648)
near_none net = record {
  every = length-replicate (node_count net * 16) 2147483648;
  near = λ i. ⊎_elim
      (λ (i_in : i < node_count net * 16). let is : slice_index (replicate (node_count net * 16) 2147483648) i ≡ 2147483648 = get_or-replicate (node_count net * 16) i 2147483648 0 i_in in omega (arith, is))
      (λ (past : node_count net * 16 ≤ i). let none : slice_index (replicate (node_count net * 16) 2147483648) i ≡ 0 = get_or_past (replicate (node_count net * 16) 2147483648) i 0 (omega (arith, length-replicate {A = ℕ} (node_count net * 16) 2147483648, past)) in omega (arith, none))
      (cases_lt i (node_count net * 16));
}

pub far_none : (net : Topology) (k v : ℕ) → k < 16 → v < node_count net → far ≤ in_lane (replicate (node_count net * 16) 2147483648) k v
far_none net k v k_in v_in =
    let is : in_lane (replicate (node_count net * 16) 2147483648) k v ≡ 2147483648 = get_or-replicate (node_count net * 16) (v * 16 + k) 2147483648 0 (omega (arith, k_in, v_in)) in
    omega (arith, is)

-- ---- the neighbours of one node get their starts

-- the first i neighbours of s have their starts in a lane
pub record IsBeginning (net : Topology) (unit s lane i : ℕ) (old starts : List ℕ) : Type 0 where
  pub near : AreNear net starts
  pub below : (p : ℕ) (hop : Hop) → p < i → port_at net s p ≡ Some hop → in_lane starts lane hop.node ≤ hop.weight * unit + p
  pub met : (v : ℕ) → v < node_count net → in_lane starts lane v < far
      → (p : ℕ) × (hop : Hop) × (port_at net s p ≡ Some hop) × (hop.node ≡ v) × (in_lane starts lane v ≡ hop.weight * unit + p)
  pub others : (k v : ℕ) → k < 16 → k ≢ lane → in_lane starts k v ≡ in_lane old k v

pub beginning_none : (net : Topology) (unit s lane : ℕ) (starts : List ℕ) → AreNear net starts → ((v : ℕ) → v < node_count net → far ≤ in_lane starts lane v) → IsBeginning net unit s lane 0 starts starts
beginning_none net unit s lane starts near empty = record {
  near = near;
  below = λ p hop p_in port. absurd (omega (arith, p_in));
  met = λ v v_in less. absurd (omega (arith, less, empty v v_in));
  others = λ k v k_in other. refl;
}

pub beginning_more : (net : Topology) → IsTopology net → (unit s lane i : ℕ) (hop : Hop) (old starts : List ℕ) → unit ≤ 32768 → i < unit → lane < 16 → port_at net s i ≡ Some hop
    → IsBeginning net unit s lane i old starts → IsBeginning net unit s lane (i + 1) old (set starts (hop.node * 16 + lane) (hop.weight * unit + i))
beginning_more net ok unit s lane i hop old starts few i_in lane_in port before =
    let y : ℕ = hop.node in
    let x : ℕ = hop.weight * unit + i in
    let facts : PortFacts net s hop = port_facts net ok s i hop port in
    let room : y * 16 + lane < length starts = omega (arith, facts.to, lane_in, before.near.every) in
    let written : in_lane (set starts (y * 16 + lane) x) lane y ≡ x = lane_written starts y lane x lane_in room in
    let kept = lane_kept_node starts y lane x lane_in room in
    record {
      near = near_written starts y lane x lane_in room net (omega (arith, added_small net ok unit few s i hop port, i_in, few)) before.near;
      below = λ p h p_in at_p. ⊎_elim
          (λ (less : p < i).
          let apart : h.node ≢ y = λ e. (let same : p ≡ i = ok.single s p i h hop at_p port e in omega (arith, same, less)) in
          omega (arith, kept h.node apart, before.below p h less at_p))
          (λ (ge : i ≤ p). let same : p ≡ i = omega (arith, ge, p_in) in
          let P : ℕ → Type 0 = λ q. port_at net s q ≡ Some h in
          let is : hop ≡ h = cc (port, subst P same at_p) in
          let Q : Hop → Type 0 = λ g. in_lane (set starts (y * 16 + lane) x) lane g.node ≤ g.weight * unit + p in
          subst Q is (omega (arith, written, ge)))
          (cases_lt p i);
      met = λ v v_in less. ⊎_elim
          (λ (e : v ≡ y). (i, hop, port, sym e, subst (λ w. in_lane (set starts (y * 16 + lane) x) lane w ≡ x) (sym e) written))
          (λ (ne : v ≢ y). let old_one = before.met v v_in (omega (arith, less, kept v ne)) in
          (old_one.0, old_one.1, old_one.2, old_one.3, kept v ne ∙ old_one.4))
          (cases_eq v y);
      others = λ k v k_in other. lane_kept starts y lane x lane_in room k v k_in other ∙ before.others k v k_in other;
    }

pub beginning_done : (net : Topology) (unit s lane i : ℕ) (old starts : List ℕ) → ((p : ℕ) (hop : Hop) → port_at net s p ≡ Some hop → p < i) → IsBeginning net unit s lane i old starts
    → IsSourceStart net unit s (in_lane starts lane)
beginning_done net unit s lane i old starts all so_far = record { below = λ p hop port. so_far.below p hop (all p hop port) port; met = so_far.met }

-- ---- all lanes

-- the first i lanes have the starts of their nodes, and in the others nothing is near
pub record AreBegun (net : Topology) (unit : ℕ) (sources : List ℕ) (i : ℕ) (starts : List ℕ) : Type 0 where
  pub near : AreNear net starts
  pub begun : (k : ℕ) → k < i → k < 16 → IsSourceStart net unit (slice_index sources k) (in_lane starts k)
  pub empty : (k v : ℕ) → i ≤ k → k < 16 → v < node_count net → far ≤ in_lane starts k v

-- what one function starts with another does that is the same
start_same : (net : Topology) (unit s : ℕ) (f g : ℕ → ℕ) → ((v : ℕ) → g v ≡ f v) → IsSourceStart net unit s f → IsSourceStart net unit s g
start_same net unit s f g same is = record {
  below = λ p hop port. omega (arith, same hop.node, is.below p hop port);
  met = λ v v_in less. let m = is.met v v_in (omega (arith, same v, less)) in (m.0, m.1, m.2, m.3, same v ∙ m.4);
}

pub begun_more : (net : Topology) (unit : ℕ) (sources : List ℕ) (i : ℕ) (starts next : List ℕ) → AreBegun net unit sources i starts → AreNear net next
    → IsSourceStart net unit (slice_index sources i) (in_lane next i) → ((k v : ℕ) → k < 16 → k ≢ i → in_lane next k v ≡ in_lane starts k v) → AreBegun net unit sources (i + 1) next
begun_more net unit sources i starts next before near here others = record {
  near = near;
  begun = λ k less k_in. ⊎_elim
      (λ (e : k ≡ i). let P : ℕ → Type 0 = λ j. IsSourceStart net unit (slice_index sources j) (in_lane next j) in subst P (sym e) here)
      (λ (ne : k ≢ i). start_same net unit (slice_index sources k) (in_lane starts k) (in_lane next k) (λ v. others k v k_in ne) (before.begun k (omega (arith, less, ne)) k_in))
      (cases_eq k i);
  empty = λ k v ge k_in v_in. omega (arith, others k v k_in (λ e. omega (arith, e, ge)), before.empty k v (omega (arith, ge)) k_in v_in);
}

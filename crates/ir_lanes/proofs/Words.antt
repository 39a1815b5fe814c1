-- Words of ports: which ports lead nearer, given by the distances in lanes.
use Rattle.std.proofs.Common.{◌≡◌, ◌≢◌, ◌↔◌, ℕ, zero, suc, ◌+◌, ◌*◌, ◌/◌, ◌%◌, ◌^◌, ◌<◌, ◌≤◌, Bool, true, false, cond, eqb, List, [], ◌∷◌, ◌++◌, Some, length, sum_by, take, slice_index, slice_index_or, refl, sym, ap, subst, ◌∙◌, arith, ⊎_elim}
use Rattle.std.proofs.lemmas.Bool.{cases_lt, eqb-true, eqb-false}
use Rattle.std.proofs.lemmas.Option.{slice_get_within, slice_get-get_or}
use Rattle.std.proofs.lemmas.List.{get_or_append_left, get_or_push, length_push}
use Rattle.std.proofs.lemmas.List.Sums.{sum_by_more, sum_by-cons}
use Rattle.ir_model.specs.declared.Hop.{Hop}
use Rattle.ir_model.specs.Topology.{Topology, node_count, ports_of, port_at, IsTopology}
use Rattle.ir_model.specs.Walk.{IsDistance}
use Rattle.ir_model.specs.Table.{LeadsNearer}
use Rattle.ir_model.proofs.Tables.{distance_unique}
use Rattle.ir_model.proofs.Walks.{PortFacts, port_facts, degree_bound}
use Rattle.ir_tables.proofs.Rounds.{past}
use Rattle.ir_lanes.specs.Lanes.{in_lane}
use Rattle.ir_lanes.specs.Inward.{ports_before, IsSet, ArePortWords, IsTightIn, IsPushing, IsPushed, AreTightWords}

take_mono : (rows : List (List Hop)) (a b : ℕ) → a ≤ b → sum_by length (take a rows) ≤ sum_by length (take b rows)
take_mono [] zero zero h = omega arith
take_mono [] zero (suc b) h = omega arith
take_mono [] (suc a) zero h = omega arith
take_mono [] (suc a) (suc b) h = omega arith
take_mono (row ∷ rows) zero b h = omega arith
take_mono (row ∷ rows) (suc a) zero h = absurd (omega (arith, h))
take_mono (row ∷ rows) (suc a) (suc b) h =
    let rest = take_mono rows a b (omega (arith, h)) in
    omega (arith, rest, sum_by-cons length row (take a rows), sum_by-cons length row (take b rows))

pub before_more : (net : Topology) (u : ℕ) → u < node_count net → ports_before net (u + 1) ≡ ports_before net u + length (ports_of net u)
before_more net u u_in = sum_by_more length net.ports u [] u_in

-- there are not too many ports
pub before_few : (net : Topology) → IsTopology net → (u : ℕ) → u ≤ node_count net → ports_before net u ≤ u * 32768
before_few net ok zero u_in = omega arith
before_few net ok (suc u) u_in =
    let few : node_count net ≤ 32768 = ok.few_nodes in
    let more : ports_before net (u + 1) ≡ ports_before net u + length (ports_of net u) = before_more net u (omega (arith, u_in)) in
    let next : suc u ≡ u + 1 = omega arith in
    let same : ports_before net (suc u) ≡ ports_before net (u + 1) = ap (ports_before net) next in
    omega (arith, before_few net ok u (omega (arith, u_in)), degree_bound net ok u, few, more, same)

-- the ports of an earlier node are before those of a later one
pub port_before : (net : Topology) (v u p : ℕ) → v < u → v < node_count net → p < length (ports_of net v) → ports_before net v + p < ports_before net u
port_before net v u p less v_in p_in =
    let up : ports_before net (v + 1) ≤ ports_before net u = take_mono net.ports (v + 1) u (omega (arith, less)) in
    omega (arith, up, before_more net v v_in, p_in)

-- the ports of a node are among all
pub ports_within : (net : Topology) (u : ℕ) → u < node_count net → ports_before net u + length (ports_of net u) ≤ ports_before net (node_count net)
ports_within net u u_in =
    let up : ports_before net (u + 1) ≤ ports_before net (node_count net) = take_mono net.ports (u + 1) (node_count net) (omega (arith, u_in)) in
    omega (arith, up, before_more net u u_in)

-- ---- pushes

pub pushing_none : (net : Topology) (weights : List ℕ) (u : ℕ) (old : List ℕ) → IsPushing net weights u 0 old old
pushing_none net weights u old = record { longer = omega arith; kept = λ j less. refl; bit = λ p k hop less k_in port. absurd (omega (arith, less)) }

pub pushing_more : (net : Topology) (weights : List ℕ) (u i : ℕ) (old words : List ℕ) (hop : Hop) (word : ℕ) → port_at net u i ≡ Some hop
    → ((k : ℕ) → k < 16 → IsSet word k ↔ IsTightIn weights k u hop) → IsPushing net weights u i old words → IsPushing net weights u (i + 1) old (words ++ word ∷ [])
pushing_more net weights u i old words hop word port bits before = record {
  longer = omega (arith, length_push words word, before.longer);
  kept = λ j less. get_or_append_left words (word ∷ []) 0 j (omega (arith, less, before.longer)) ∙ before.kept j less;
  bit = λ p k h less k_in at_p. ⊎_elim
      (λ (earlier : p < i).
      let same : slice_index (words ++ word ∷ []) (length old + p) ≡ slice_index words (length old + p) = get_or_append_left words (word ∷ []) 0 (length old + p) (omega (arith, earlier, before.longer)) in
      subst (λ w. IsSet w k ↔ IsTightIn weights k u h) (sym same) (before.bit p k h earlier k_in at_p))
      (λ (ge : i ≤ p).
      let same : p ≡ i = omega (arith, ge, less) in
      let P : ℕ → Type 0 = λ q. port_at net u q ≡ Some h in
      let is : hop ≡ h = cc (port, subst P same at_p) in
      let written : slice_index (words ++ word ∷ []) (length old + p) ≡ word = get_or_push words word 0 (length old + p) (omega (arith, before.longer, same)) in
      let Q : Hop → Type 0 = λ g. IsSet word k ↔ IsTightIn weights k u g in
      subst (λ w. IsSet w k ↔ IsTightIn weights k u h) (sym written) (subst Q is (bits k k_in)))
      (cases_lt p i);
}

pub tight_none : (net : Topology) (weights : List ℕ) (words : List ℕ) → length words ≡ 0 → AreTightWords net weights 0 words
tight_none net weights words none = record { every = none; bit = λ v p k hop less k_in port. absurd (omega (arith, less)) }

pub tight_more : (net : Topology) → IsTopology net → (weights : List ℕ) (u : ℕ) (old words : List ℕ) → u < node_count net → IsPushed net weights u old words → AreTightWords net weights u old → AreTightWords net weights (u + 1) words
tight_more net ok weights u old words u_in pushed before = record {
  every = omega (arith, pushed.longer, before.every, before_more net u u_in);
  bit = λ v p k hop less k_in port.
      let p_in : p < length (ports_of net v) = slice_get_within (ports_of net v) p hop port in
      ⊎_elim
      (λ (earlier : v < u).
      let v_in : v < node_count net = omega (arith, earlier, u_in) in
      let same : slice_index words (ports_before net v + p) ≡ slice_index old (ports_before net v + p) = pushed.kept (ports_before net v + p) (omega (arith, port_before net v u p earlier v_in p_in, before.every)) in
      subst (λ w. IsSet w k ↔ IsTightIn weights k v hop) (sym same) (before.bit v p k hop earlier k_in port))
      (λ (ge : u ≤ v).
      let same : v ≡ u = omega (arith, ge, less) in
      let P : ℕ → Type 0 = λ x. port_at net x p ≡ Some hop in
      let Q : ℕ → Type 0 = λ x. IsSet (slice_index words (x + p)) k ↔ IsTightIn weights k u hop in
      let R : ℕ → Type 0 = λ x. IsSet (slice_index words (ports_before net x + p)) k ↔ IsTightIn weights k x hop in
      let p_in' : p < length (ports_of net u) = slice_get_within (ports_of net u) p hop (subst P same port) in
      subst R (sym same) (subst Q before.every (pushed.bit p k hop p_in' k_in (subst P same port))))
      (cases_lt v u);
}

-- ---- what the distances say

module _ (net : Topology) (ok : IsTopology net) (ends weights : List ℕ)
    (weight : (k u : ℕ) → k < 16 → u < node_count net → IsDistance net u (slice_index ends k) (in_lane weights k u)) where
  -- a step that goes as far as the distances do leads nearer, and none other does
  tight_nearer : (u p k : ℕ) (hop : Hop) → u < node_count net → k < 16 → port_at net u p ≡ Some hop → IsTightIn weights k u hop ↔ LeadsNearer net u (slice_index ends k) p
  tight_nearer u p k hop u_in k_in port =
      let facts : PortFacts net u hop = port_facts net ok u p hop port in
      let d : ℕ = slice_index ends k in
      let there : IsDistance net hop.node d (in_lane weights k hop.node) = weight k hop.node k_in facts.to in
      let here : IsDistance net u d (in_lane weights k u) = weight k u k_in u_in in (
        (λ tight. (hop, in_lane weights k hop.node, port, there, subst (λ (w : ℕ). IsDistance net u d w) tight here)),
        (λ near.
            let is : near.0 ≡ hop = cc (near.2, port) in
            let rest : IsDistance net hop.node d near.1 = subst (λ (h : Hop). IsDistance net h.node d near.1) is near.3 in
            let same : near.1 ≡ in_lane weights k hop.node = distance_unique net hop.node d near.1 (in_lane weights k hop.node) rest there in
            let total : in_lane weights k u ≡ near.0.weight + near.1 = distance_unique net u d (in_lane weights k u) (near.0.weight + near.1) here near.4 in
            let by : near.0.weight ≡ hop.weight = ap (λ (h : Hop). h.weight) is in
            omega (arith, total, same, by)),
      )

  pub words_nearer : ((k u : ℕ) → k < 16 → u < node_count net → u ≢ slice_index ends k → (p : ℕ) × LeadsNearer net u (slice_index ends k) p) → (words : List ℕ)
      → AreTightWords net weights (node_count net) words → ArePortWords net ends words
  words_nearer nearer words tight = record {
    every = tight.every;
    bit = λ u p k u_in p_in k_in.
        let hop : Hop = slice_index_or (ports_of net u) p past in
        let port : port_at net u p ≡ Some hop = slice_get-get_or (ports_of net u) p past p_in in
        let one = tight.bit u p k hop u_in k_in port in
        let other = tight_nearer u p k hop u_in k_in port in (
          (λ set. other.0 (one.0 set)),
          (λ near. one.1 (other.1 near)),
        );
    nearer = λ u k u_in k_in ne. nearer k u k_in u_in ne;
  }

-- ---- one bit

-- a bit is set where the test passes
pub bit_is : (a b word k : ℕ) (t : Bool) → eqb a b ≡ t → word / 2 ^ k % 2 ≡ cond t 1 0 → IsSet word k ↔ (a ≡ b)
bit_is a b word k true e is = ((λ set. eqb-true a b e), (λ same. is))
bit_is a b word k false e is = ((λ set. absurd (omega (arith, is, set))), (λ same. absurd (eqb-false a b e same)))

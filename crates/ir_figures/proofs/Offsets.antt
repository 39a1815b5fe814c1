-- Where the links of a node begin.
use Rattle.std.proofs.Common.{◌≡◌, ℕ, zero, suc, ◌+◌, ◌-◌, ◌*◌, ◌<◌, ◌≤◌, List, [], ◌∷◌, ◌++◌, length, get_or, replicate, Some, refl, ap, sym, ◌∙◌, subst, inl, inr, arith, slice_index, length-append}
use Rattle.std.specs.List.{range_with_len}
use Rattle.std.proofs.lemmas.Bool.{cases_eq, cases_lt}
use Rattle.std.proofs.lemmas.List.{length-map, get_or-map, get_or_push, get_or_append_left, get_or-append_right, length-replicate, get_or-replicate}
use Rattle.std.proofs.lemmas.List.FromFn.{get_or-range_with_len, length-range_with_len}
use Rattle.std.proofs.lemmas.List.Sums.{sum_by_more}
use Rattle.std.proofs.lemmas.Option.{slice_get-get_or}
use Rattle.ir_model.specs.declared.Hop.{Hop}
use Rattle.ir_model.specs.Topology.{Topology, IsTopology, node_count, ports_of, port_at}
use Rattle.ir_model.specs.Numbering.{neighbors_of}
use Rattle.ir_model.proofs.Pigeonhole.{Mem, mem_at, length-le_from_within}
use Rattle.ir_model.proofs.Walks.{port_facts}
use Rattle.ir_tables.proofs.Rounds.{past}
use Rattle.ir_figures.specs.Exits.{exits_before, AreExits, AreNextExits}

-- the hop at a port below the degree
pub hop_at : (net : Topology) (u p : ℕ) → p < length (ports_of net u) → (hop : Hop) × (port_at net u p ≡ Some hop)
hop_at net u p lt = (get_or (ports_of net u) p past, slice_get-get_or (ports_of net u) p past lt)

-- the node beyond a port
behind : (net : Topology) (u p : ℕ) → p < length (ports_of net u) → slice_index (neighbors_of net u) p ≡ (get_or (ports_of net u) p past).node
behind net u p lt = get_or-map (λ (hop : Hop). hop.node) (ports_of net u) p past 0 lt

-- a node has no more ports than the network has nodes
pub degree_le : (net : Topology) → IsTopology net → (u : ℕ) → length (ports_of net u) ≤ node_count net
unfolding hop_at
degree_le net ok u =
    let count : length (neighbors_of net u) ≡ length (ports_of net u) = length-map (ports_of net u) (λ (hop : Hop). hop.node) in
    let all : length (range_with_len 0 (node_count net)) ≡ node_count net = length-range_with_len 0 (node_count net) in
    let few : length (neighbors_of net u) ≤ length (range_with_len 0 (node_count net)) =
    length-le_from_within (neighbors_of net u) (range_with_len 0 (node_count net))
    (λ i j less lt e.
    (let low : i < length (ports_of net u) = omega (arith, count, less, lt) in
    let high : j < length (ports_of net u) = omega (arith, count, lt) in
    let one = hop_at net u i low in
    let other = hop_at net u j high in
    let same : i ≡ j = ok.single u i j one.0 other.0 one.1 other.1 (sym (behind net u i low) ∙ e ∙ behind net u j high) in
    omega (arith, same, less)))
    (λ k lt.
    (let within : k < length (ports_of net u) = omega (arith, count, lt) in
    let one = hop_at net u k within in
    let below : one.0.node < node_count net = (port_facts net ok u k one.0 one.1).to in
    let there : get_or (range_with_len 0 (node_count net)) one.0.node 0 ≡ one.0.node = get_or-range_with_len 0 (node_count net) one.0.node 0 below ∙ omega arith in
    subst (Mem (range_with_len 0 (node_count net))) (there ∙ sym (behind net u k within)) (mem_at (range_with_len 0 (node_count net)) one.0.node (omega (arith, all, below))))) in
    omega (arith, count, all, few)

pub before_more : (net : Topology) (u : ℕ) → u < node_count net → exits_before net (u + 1) ≡ exits_before net u + length (ports_of net u)
before_more net u lt = sum_by_more length net.ports u [] lt

pub before_le : (net : Topology) → IsTopology net → (u : ℕ) → u ≤ node_count net → exits_before net u ≤ 32768 * u
before_le net ok zero le = omega arith
before_le net ok (suc u) le =
    let more : exits_before net (u + 1) ≡ exits_before net u + length (ports_of net u) = before_more net u (omega (arith, le)) in
    let next : suc u ≡ u + 1 = omega arith in
    let up : exits_before net (suc u) ≡ exits_before net (u + 1) = ap (exits_before net) next in
    omega (arith, up, more, degree_le net ok u, ok.few_nodes, before_le net ok u (omega (arith, le)))

-- they begin in the order of the nodes
pub before_up : (net : Topology) (u k : ℕ) → u + k ≤ node_count net → exits_before net u ≤ exits_before net (u + k)
before_up net u zero le = omega (arith, ap (exits_before net) (let e : u + 0 ≡ u = omega arith in e))
before_up net u (suc k) le =
    let more : exits_before net (u + k + 1) ≡ exits_before net (u + k) + length (ports_of net (u + k)) = before_more net (u + k) (omega (arith, le)) in
    let same : u + suc k ≡ u + k + 1 = omega arith in
    let next : exits_before net (u + suc k) ≡ exits_before net (u + k + 1) = ap (exits_before net) same in
    omega (arith, more, next, before_up net u k (omega (arith, le)))

pub before_mono : (net : Topology) (u v : ℕ) → u ≤ v → v ≤ node_count net → exits_before net u ≤ exits_before net v
before_mono net u v le in_net = subst (λ (x : ℕ). exits_before net u ≤ exits_before net x) (omega (arith, le)) (before_up net u (v - u) (omega (arith, le, in_net)))

-- a number is that of one node's link alone
pub one_node : (net : Topology) (u v c : ℕ) → u < node_count net → v < node_count net → exits_before net u ≤ c → c < exits_before net (u + 1) → exits_before net v ≤ c → c < exits_before net (v + 1) → u ≡ v
one_node net u v c hu hv a b d e =
    elim (cases_lt u v) [
      | inl lt ↦ absurd (omega (arith, b, d, before_mono net (u + 1) v (omega (arith, lt)) (omega (arith, hv))))
      | inr le ↦ (elim (cases_eq u v) [
        | inl same ↦ same
        | inr ne ↦ absurd (omega (arith, a, e, before_mono net (v + 1) u (omega (arith, le, ne)) (omega (arith, hu))))
      ])
    ]

-- the links of one more node
pub exits_more : (net : Topology) (u start : ℕ) (first nodes more : List ℕ) → u < node_count net → start ≡ length nodes → AreExits net u first nodes → AreNextExits nodes u (length (ports_of net u)) more
    → AreExits net (u + 1) (first ++ start ∷ []) more
exits_more net u start first nodes more lt begins so_far next =
    let links : ℕ = length (ports_of net u) in
    let counted : exits_before net (u + 1) ≡ exits_before net u + links = before_more net u lt in
    let longer : length more ≡ length nodes + links = ap length next ∙ length-append nodes (replicate links u) ∙ ap (λ (x : ℕ). length nodes + x) (length-replicate links u) in
    let old : (c : ℕ) → c < length nodes → slice_index more c ≡ slice_index nodes c = λ c h. ap (λ (xs : List ℕ). slice_index xs c) next ∙ get_or_append_left nodes (replicate links u) 0 c h in
    let new : (c : ℕ) → length nodes ≤ c → c < length more → slice_index more c ≡ u = λ c from below.
    ap (λ (xs : List ℕ). slice_index xs c) next ∙ get_or-append_right nodes (replicate links u) (length nodes) c 0 refl from ∙ get_or-replicate links (c - length nodes) u 0 (omega (arith, longer, from, below)) in
    record {
      every = length-append first (start ∷ []) ∙ omega (arith, so_far.every);
      starts = λ v h. elim (cases_eq v u) [
        | inl e ↦ get_or_push first start 0 v (so_far.every ∙ sym e) ∙ begins ∙ so_far.all ∙ ap (exits_before net) (sym e)
        | inr ne ↦ get_or_append_left first (start ∷ []) 0 v (omega (arith, so_far.every, h, ne)) ∙ so_far.starts v (omega (arith, h, ne))
      ];
      all = omega (arith, longer, counted, so_far.all);
      node = λ c h. elim (cases_lt c (length nodes)) [
        | inl l ↦ omega (arith, old c l, so_far.node c l)
        | inr g ↦ omega (arith, new c g h)
      ];
      after = λ c h. elim (cases_lt c (length nodes)) [
        | inl l ↦ omega (arith, ap (exits_before net) (old c l), so_far.after c l)
        | inr g ↦ omega (arith, ap (exits_before net) (new c g h), so_far.all, g)
      ];
      below = λ c h. elim (cases_lt c (length nodes)) [
        | inl l ↦ omega (arith, ap (λ (x : ℕ). exits_before net (x + 1)) (old c l), so_far.below c l)
        | inr g ↦ omega (arith, ap (λ (x : ℕ). exits_before net (x + 1)) (new c g h), counted, longer, so_far.all, h)
      ];
    }

pub exits_none : (net : Topology) (first nodes : List ℕ) → length first ≡ 0 → length nodes ≡ 0 → AreExits net 0 first nodes
exits_none net first nodes none empty = record {
  every = none;
  starts = λ u lt. absurd (omega (arith, lt));
  all = empty;
  node = λ c lt. absurd (omega (arith, empty, lt));
  after = λ c lt. absurd (omega (arith, empty, lt));
  below = λ c lt. absurd (omega (arith, empty, lt));
}

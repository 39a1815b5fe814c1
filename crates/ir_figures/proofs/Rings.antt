-- Links that wait for each other, as arcs between their numbers.
use Rattle.std.proofs.Common.{◌≡◌, ℕ, ◌+◌, ◌-◌, ◌<◌, Bool, List, [], length, map, Some, slice_index, slice_index_or, ap, sym, ◌∙◌, subst, inl, inr, arith}
use Rattle.std.proofs.lemmas.Bool.{cases_lt}
use Rattle.std.proofs.lemmas.List.{length-map, get_or-map}
use Rattle.ir_model.specs.declared.Hop.{Hop}
use Rattle.ir_model.specs.Topology.{Topology, IsTopology, node_count, ports_of, port_at}
use Rattle.ir_model.specs.Plan.{Plan, IsPlan}
use Rattle.ir_model.proofs.Walks.{port_facts}
use Rattle.ir_figures.specs.Arcs.{marks_of, width_of, IsArc, IsDigraph, IsAcyclic, IsRing}
use Rattle.ir_figures.specs.Waits.{Waits, IsWithoutRing, IsWaitingRing}
use Rattle.ir_figures.specs.Exits.{exits_before, AreExits, IsExitAt, AreLinks, AreLeftBy}
use Rattle.ir_figures.proofs.Offsets.{degree_le, before_more, before_le, before_mono, one_node}
use Rattle.ir_figures.proofs.Onward.{port_below, mark_within}

-- a link that waits: it leaves a node by one of its ports, and leads to v
pub record LinkLeads (net : Topology) (u p v : ℕ) : Type 0 where
  pub from : u < node_count net
  pub port : p < length (ports_of net u)
  pub hop : Hop
  pub leads : port_at net u p ≡ Some hop
  pub there : hop.node ≡ v

pub waits_leads : (s : Plan) → IsPlan s → (u p v q : ℕ) → Waits s u p v q → LinkLeads s.topology u p v
waits_leads s is u p v q w = record {
  from = w.from;
  port = port_below s is u w.goal p w.from w.to w.leaves;
  hop = w.hop;
  leads = w.leads;
  there = w.there;
}

-- what holds of each node of waiting links holds of each node of a ring
pub ring_nodes : (net : Topology) (waits : ℕ → ℕ → ℕ → ℕ → Type 0) → ((u p v q : ℕ) → waits u p v q → LinkLeads net u p v) → (nodes ports : List ℕ) → IsWaitingRing waits nodes ports
    → (i : ℕ) → i < length nodes → slice_index nodes i < node_count net
ring_nodes net waits leads nodes ports ring i lt = elim (cases_lt (i + 1) (length nodes)) [
  | inl less ↦ (leads (slice_index nodes i) (slice_index ports i) (slice_index nodes (i + 1)) (slice_index ports (i + 1)) (ring.next i less)).from
  | inr last ↦
      let end : length nodes - 1 ≡ i = omega (arith, lt, last) in
      subst (λ (k : ℕ). slice_index nodes k < node_count net) end
      (leads (slice_index nodes (length nodes - 1)) (slice_index ports (length nodes - 1)) (slice_index nodes 0) (slice_index ports 0) ring.closed).from
]

module _ (net : Topology) (ok : IsTopology net) (first nodes : List ℕ) (exits : AreExits net (node_count net) first nodes) where
  -- the port of the link with a number
  port_of : ℕ → ℕ
  port_of c = c - exits_before net (slice_index nodes c)

  port_in : (c : ℕ) → c < length nodes → port_of c < length (ports_of net (slice_index nodes c))
  unfolding port_of
  port_in c lt = omega (arith, exits.after c lt, exits.below c lt, before_more net (slice_index nodes c) (exits.node c lt))

  number : (c : ℕ) → c < length nodes → exits_before net (slice_index nodes c) + port_of c ≡ c
  unfolding port_of
  number c lt = omega (arith, exits.after c lt)

  -- of one node and port there is one link
  same_link : (c d : ℕ) → c < length nodes → d < length nodes → slice_index nodes c ≡ slice_index nodes d → port_of c ≡ port_of d → c ≡ d
  same_link c d hc hd node port = omega (arith, number c hc, number d hd, ap (exits_before net) node, port)

  -- the links, by which of them wait for which
  module _ (waits : ℕ → ℕ → ℕ → ℕ → Type 0) (blocks : List ℕ) (marks : List (List Bool)) (links : AreLinks net waits blocks marks (exits_before net (node_count net))) where
    count : length nodes ≡ length marks
    count = exits.all ∙ sym links.every_row

    exit : (c : ℕ) → c < length nodes → IsExitAt net waits blocks marks (slice_index nodes c) (port_of c) c
    exit c lt =
        subst (IsExitAt net waits blocks marks (slice_index nodes c) (port_of c)) (number c lt)
        (links.each (slice_index nodes c) (port_of c) (exits.node c lt) (port_in c lt) (omega (arith, number c lt, lt, exits.all)))

    -- the node beyond a link
    next_in : (c : ℕ) (lt : c < length nodes) → (exit c lt).hop.node < node_count net
    next_in c lt = (port_facts net ok (slice_index nodes c) (port_of c) (exit c lt).hop (exit c lt).leads).to

    wide : (c : ℕ) (lt : c < length nodes) → width_of marks c ≡ length (ports_of net (exit c lt).hop.node)
    wide c lt = (exit c lt).onward.every

    pub digraph : IsDigraph blocks marks
    digraph = record {
      every = links.every_block ∙ sym links.every_row;
      few = omega (arith, links.every_row, before_le net ok (node_count net) (omega arith), ok.few_nodes);
      narrow = λ c lt. (let c_in : c < length nodes = omega (arith, lt, count) in omega (arith, wide c c_in, degree_le net ok (exit c c_in).hop.node, ok.few_nodes));
      within = λ c lt.
          let c_in : c < length nodes = omega (arith, lt, count) in
          omega (
            arith,
            wide c c_in,
            (exit c c_in).block,
            before_more net (exit c c_in).hop.node (next_in c c_in),
            links.every_row,
            before_mono net ((exit c c_in).hop.node + 1) (node_count net) (omega (arith, next_in c c_in)) (omega arith),
          );
    }

    -- a link that waits for another one has an arc to it
    arc_of : ((u p v q : ℕ) → waits u p v q → LinkLeads net u p v) → (u p v q : ℕ) → waits u p v q
        → (exits_before net u + p < length marks) × IsArc blocks marks (exits_before net u + p) (exits_before net v + q)
    arc_of leads u p v q w =
        let l = leads u p v q w in
        let c_in : exits_before net u + p < length marks =
        omega (arith, links.every_row, l.port, before_more net u l.from, before_mono net (u + 1) (node_count net) (omega (arith, l.from)) (omega arith)) in
        let at = links.each u p l.from l.port (omega (arith, c_in, links.every_row)) in
        let same : at.hop ≡ l.hop = cc (at.leads, l.leads) in
        let node : at.hop.node ≡ v = ap (λ (h : Hop). h.node) same ∙ l.there in
        let marked = at.onward.marked q (subst (λ (x : ℕ). waits u p x q) (sym node) w) in (
          c_in,
          record {
            place = q;
            within = mark_within (slice_index_or marks (exits_before net u + p) []) q marked;
            marked = marked;
            leads = omega (arith, at.block, ap (exits_before net) node);
          },
        )

    pub without_ring : ((u p v q : ℕ) → waits u p v q → LinkLeads net u p v) → IsAcyclic blocks marks → IsWithoutRing waits
    without_ring leads acyclic = (
      λ u p. acyclic.0 (exits_before net u + p),
      λ u p v q w.
          let arc = arc_of leads u p v q w in
          acyclic.1 (exits_before net u + p) (exits_before net v + q) arc.0 arc.1,
    )

    -- a link with an arc to another one waits for it
    waits_of : (c d : ℕ) → c < length nodes → d < length nodes → IsArc blocks marks c d → waits (slice_index nodes c) (port_of c) (slice_index nodes d) (port_of d)
    waits_of c d hc hd arc =
        let at = exit c hc in
        let q_in : arc.place < length (ports_of net at.hop.node) = omega (arith, arc.within, wide c hc) in
        let place : d ≡ exits_before net at.hop.node + arc.place = omega (arith, arc.leads, at.block) in
        let node : at.hop.node ≡ slice_index nodes d =
        one_node net at.hop.node (slice_index nodes d) d (next_in c hc) (exits.node d hd) (omega (arith, place)) (omega (arith, place, q_in, before_more net at.hop.node (next_in c hc))) (exits.after d hd) (exits.below d hd) in
        let port : arc.place ≡ port_of d = omega (arith, place, number d hd, ap (exits_before net) node) in
        subst (λ (x : ℕ). waits (slice_index nodes c) (port_of c) x (port_of d)) node
        (subst (λ (x : ℕ). waits (slice_index nodes c) (port_of c) at.hop.node x) port (at.onward.only arc.place arc.marked))

    pub waiting : (ring named : List ℕ) → IsRing blocks marks ring → AreLeftBy nodes ring named → (ports : List ℕ) × IsWaitingRing waits named ports
    waiting ring named r n =
        let ports : List ℕ = map port_of ring in
        let size : length ports ≡ length ring = length-map ring port_of in
        let port : (i : ℕ) → i < length ring → slice_index ports i ≡ port_of (slice_index ring i) = λ i lt. get_or-map port_of ring i 0 0 lt in
        let within : (i : ℕ) → i < length ring → slice_index ring i < length nodes = λ i lt. omega (arith, r.nodes i lt, count) in
        let on : (i j : ℕ) → i < length ring → j < length ring → IsArc blocks marks (slice_index ring i) (slice_index ring j) → waits (slice_index named i) (slice_index ports i) (slice_index named j) (slice_index ports j) =
        λ i j hi hj arc.
        subst (λ (x : ℕ). waits x (slice_index ports i) (slice_index named j) (slice_index ports j)) (sym (n.each i hi))
        (subst (λ (x : ℕ). waits (slice_index nodes (slice_index ring i)) x (slice_index named j) (slice_index ports j)) (sym (port i hi))
        (subst (λ (x : ℕ). waits (slice_index nodes (slice_index ring i)) (port_of (slice_index ring i)) x (slice_index ports j)) (sym (n.each j hj))
        (subst (λ (x : ℕ). waits (slice_index nodes (slice_index ring i)) (port_of (slice_index ring i)) (slice_index nodes (slice_index ring j)) x) (sym (port j hj))
        (waits_of (slice_index ring i) (slice_index ring j) (within i hi) (within j hj) arc)))) in (
          ports,
          record {
            some = omega (arith, n.every, r.some);
            every = omega (arith, size, n.every);
            once = λ i j lt hj node alike.
                let j_in : j < length ring = omega (arith, hj, n.every) in
                let i_in : i < length ring = omega (arith, lt, j_in) in
                r.once i j lt j_in
                (same_link (slice_index ring i) (slice_index ring j) (within i i_in) (within j j_in)
                (sym (n.each i i_in) ∙ node ∙ n.each j j_in) (sym (port i i_in) ∙ alike ∙ port j j_in));
            next = λ i lt. on i (i + 1) (omega (arith, lt, n.every)) (omega (arith, lt, n.every)) (r.arcs i (omega (arith, lt, n.every)));
            closed =
                subst (λ (k : ℕ). waits (slice_index named (k - 1)) (slice_index ports (k - 1)) (slice_index named 0) (slice_index ports 0)) (sym n.every)
                (on (length ring - 1) 0 (omega (arith, r.some)) r.some r.closed);
          },
        )

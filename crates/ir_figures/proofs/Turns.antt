-- Walks do not turn back, and in a tree they go up before they go down.
use Rattle.std.proofs.Common.{◌≡◌, ◌≢◌, ℕ, zero, suc, ◌+◌, ◌-◌, ◌<◌, ◌≤◌, cond, ltb, true, false, List, [], ◌∷◌, length, slice_index, Option, Some, refl, ap, sym, ◌∙◌, subst, inl, inr, arith, length-take, lt-ltb, le-ltb}
use Rattle.ir_model.specs.declared.Hop.{Hop}
use Rattle.ir_model.specs.declared.Kind.{Kind}
use Rattle.ir_model.specs.declared.Kind.TheVariants.{Tree}
use Rattle.ir_model.specs.Topology.{Topology, node_count, port_at}
use Rattle.ir_model.specs.Numbering.{IsDepthFirst, neighbors_of}
use Rattle.ir_model.specs.Table.{next_node, Continues, IsPrescribedWalk}
use Rattle.ir_model.specs.Tree.{IsParent, IsTreeStep, IsTreeTable}
use Rattle.ir_model.specs.Plan.{Plan, IsPlan, IsTableOf, table_port, label_in}
use Rattle.ir_model.proofs.Walks.{port_facts}
use Rattle.ir_tables.proofs.Ways.{is_next}
use Rattle.ir_figures.specs.Waits.{Waits, IsWithoutRing, IsWaitingRing}
use Rattle.ir_figures.specs.FiguresText.{behind}
use Rattle.ir_figures.proofs.Onward.{goes_elsewhere, port_leads}

-- a table that leads from u to v and from v to u has no walk from u
round_trip : (net : Topology) (table : ℕ → ℕ → Option ℕ) (d u v : ℕ) (walk : List ℕ) → u ≢ d → v ≢ d → next_node net table u d ≡ Some v → next_node net table v d ≡ Some u → Continues net table d u walk → ⊥
round_trip net table d u v [] hu hv on back c = hu c
round_trip net table d u v (y ∷ []) hu hv on back c = (let same : y ≡ v = cc (c.1, on) in hv (sym same ∙ c.2))
round_trip net table d u v (y ∷ z ∷ rest) hu hv on back c =
    let same : y ≡ v = cc (c.1, on) in
    let then = subst (λ (x : ℕ). Continues net table d x (z ∷ rest)) same c.2 in
    let again : z ≡ u = cc (then.1, back) in
    round_trip net table d u v rest hu hv on back (subst (λ (x : ℕ). Continues net table d x rest) again then.2)

-- no link waits for the one back
pub no_turn : (s : Plan) → IsPlan s → (u p v q : ℕ) → Waits s u p v q → (hop : Hop) → port_at s.topology v q ≡ Some hop → hop.node ≢ u
no_turn s is u p v q w hop leads e =
    let hu : u ≢ w.goal = goes_elsewhere s is u w.goal p w.to w.leaves in
    let hv : v ≢ w.goal = goes_elsewhere s is v w.goal q w.to w.goes_on in
    let on : next_node s.topology (table_port s) u w.goal ≡ Some w.hop.node = is_next s.topology (table_port s) u w.goal w.hop (record { port = p; held = w.leaves; there = w.leads }) in
    let back : next_node s.topology (table_port s) v w.goal ≡ Some hop.node = is_next s.topology (table_port s) v w.goal hop (record { port = q; held = w.goes_on; there = leads }) in
    let walk = is.walks u w.goal w.from w.to in
    begun walk.0 walk.1 hu hv (on ∙ ap (λ (x : ℕ). Some x) w.there) (back ∙ ap (λ (x : ℕ). Some x) e)
  where
    begun : (walk : List ℕ) → IsPrescribedWalk s.topology (table_port s) u w.goal walk → u ≢ w.goal → v ≢ w.goal → next_node s.topology (table_port s) u w.goal ≡ Some v → next_node s.topology (table_port s) v w.goal ≡ Some u → ⊥
    begun [] c hu hv on back = c
    begun (x ∷ rest) c hu hv on back = round_trip s.topology (table_port s) w.goal u v rest hu hv on back c.1

module _ (s : Plan) (is : IsPlan s) (tree : s.kind ≡ Tree) where
  numbers : IsDepthFirst (neighbors_of s.topology) (node_count s.topology) s.root s.order is.parents
  numbers = is.numbering tree

  table : IsTreeTable s.topology s.order is.parents (table_port s)
  table = subst (λ (k : Kind). IsTableOf k s.topology s.order is.parents (table_port s)) tree is.table

  -- a parent has the lesser label
  parent_first : (x y : ℕ) → IsParent s.order is.parents x y → (label_in s y ≡ slice_index is.parents (label_in s x)) × (label_in s y < label_in s x)
  parent_first x y h =
      let i_in : h.0 < node_count s.topology = omega (arith, h.2, numbers.every) in
      let lower : slice_index is.parents h.0 < h.0 = omega (arith, (numbers.next h.0 h.1 i_in).below, length-take h.0 s.order, h.2) in
      let own : label_in s x ≡ h.0 = ap (slice_index s.labels) (sym h.3) ∙ is.labels.back h.0 i_in in
      let father : label_in s y ≡ slice_index is.parents h.0 = ap (slice_index s.labels) (sym h.4) ∙ is.labels.back (slice_index is.parents h.0) (omega (arith, lower, i_in)) in
      (father ∙ ap (slice_index is.parents) (sym own), omega (arith, father, own, lower))

  -- where a port of the table leads, one node is the other's parent
  step_of : (u d p : ℕ) (hop : Hop) → u < node_count s.topology → d < node_count s.topology → table_port s u d ≡ Some p → port_at s.topology u p ≡ Some hop → IsTreeStep s.order is.parents u hop.node
  step_of u d p hop hu hd held leads =
      let by = table.port u d hu hd (goes_elsewhere s is u d p hd held) in
      let port : by.0 ≡ p = cc (by.3, held) in
      let same : by.1 ≡ hop = cc (subst (λ (x : ℕ). port_at s.topology u x ≡ Some by.1) port by.4, leads) in
      subst (λ (h : Hop). IsTreeStep s.order is.parents u h.node) same by.5.1.0

  -- links towards the root fall by the label that they leave, links away from it rise by the label that they lead to
  number : ℕ → ℕ → ℕ
  number u p = cond (ltb (label_in s (behind s.topology u p)) (label_in s u)) (node_count s.topology - label_in s u) (node_count s.topology + label_in s (behind s.topology u p))

  upwards : (u p v : ℕ) → behind s.topology u p ≡ v → label_in s v < label_in s u → number u p ≡ node_count s.topology - label_in s u
  unfolding number
  upwards u p v e lt =
      let less : label_in s (behind s.topology u p) < label_in s u = omega (arith, ap (label_in s) e, lt) in
      let test : ltb (label_in s (behind s.topology u p)) (label_in s u) ≡ true = lt-ltb (label_in s (behind s.topology u p)) (label_in s u) less in
      ap (λ b. cond b (node_count s.topology - label_in s u) (node_count s.topology + label_in s (behind s.topology u p))) test

  downwards : (u p v : ℕ) → behind s.topology u p ≡ v → label_in s u < label_in s v → number u p ≡ node_count s.topology + label_in s v
  unfolding number
  downwards u p v e lt =
      let more : label_in s u ≤ label_in s (behind s.topology u p) = omega (arith, ap (label_in s) e, lt) in
      let test : ltb (label_in s (behind s.topology u p)) (label_in s u) ≡ false = le-ltb (label_in s (behind s.topology u p)) (label_in s u) more in
      ap (λ b. cond b (node_count s.topology - label_in s u) (node_count s.topology + label_in s (behind s.topology u p))) test ∙ ap (λ (x : ℕ). node_count s.topology + label_in s x) e

  behind_at : (u p : ℕ) (hop : Hop) → port_at s.topology u p ≡ Some hop → behind s.topology u p ≡ hop.node
  behind_at u p hop e = rw e refl

  -- a node has one parent
  one_parent : (x y z : ℕ) → x < node_count s.topology → y < node_count s.topology → z < node_count s.topology → IsParent s.order is.parents x y → IsParent s.order is.parents x z → y ≡ z
  one_parent x y z hx hy hz a b =
      let same : label_in s y ≡ label_in s z = (parent_first x y a).0 ∙ sym (parent_first x z b).0 in
      sym (is.labels.there y hy) ∙ ap (slice_index s.order) same ∙ is.labels.there z hz

  rises : (u p v q : ℕ) → Waits s u p v q → number u p < number v q
  rises u p v q w =
      let next = port_leads s is v w.goal q v_in w.to w.goes_on in
      let one : behind s.topology u p ≡ v = behind_at u p w.hop w.leads ∙ w.there in
      let two : behind s.topology v q ≡ next.0.node = behind_at v q next.0 next.1 in
      let first : IsTreeStep s.order is.parents u v = subst (λ (x : ℕ). IsTreeStep s.order is.parents u x) w.there (step_of u w.goal p w.hop w.from w.to w.leaves w.leads) in
      by next.0 next.1 one two first (step_of v w.goal q next.0 v_in w.to w.goes_on next.1)
    where
      v_in : v < node_count s.topology
      v_in = subst (λ (x : ℕ). x < node_count s.topology) w.there (port_facts s.topology is.topology u p w.hop w.leads).to

      by : (hop : Hop) → port_at s.topology v q ≡ Some hop → behind s.topology u p ≡ v → behind s.topology v q ≡ hop.node → IsTreeStep s.order is.parents u v → IsTreeStep s.order is.parents v hop.node → number u p < number v q
      by hop leads one two (inl up) (inl on) =
          omega (arith, upwards u p v one (parent_first u v up).1, upwards v q hop.node two (parent_first v hop.node on).1, (parent_first u v up).1, is.labels.label u w.from)
      by hop leads one two (inl up) (inr down) =
          omega (arith, upwards u p v one (parent_first u v up).1, downwards v q hop.node two (parent_first hop.node v down).1, (parent_first hop.node v down).1, is.labels.label u w.from)
      by hop leads one two (inr down) (inr on) =
          omega (arith, downwards u p v one (parent_first v u down).1, downwards v q hop.node two (parent_first hop.node v on).1, (parent_first hop.node v on).1)
      by hop leads one two (inr down) (inl back) =
          absurd (no_turn s is u p v q w hop leads (sym (one_parent v u hop.node v_in w.from (port_facts s.topology is.topology v q hop leads).to down back)))

  pub tree_without_ring : IsWithoutRing (Waits s)
  tree_without_ring = (number, rises)

-- numbers that rise around a ring would rise above themselves
module _ (waits : ℕ → ℕ → ℕ → ℕ → Type 0) (nodes ports : List ℕ) (without : IsWithoutRing waits) (ring : IsWaitingRing waits nodes ports) where
  at : ℕ → ℕ
  at i = without.0 (slice_index nodes i) (slice_index ports i)

  rises_from : (i : ℕ) → i < length nodes → at 0 ≤ at i
  unfolding at
  rises_from zero lt = omega arith
  rises_from (suc i) lt =
      let next : i + 1 ≡ suc i = omega arith in
      let more = without.1 (slice_index nodes i) (slice_index ports i) (slice_index nodes (i + 1)) (slice_index ports (i + 1)) (ring.next i (omega (arith, lt))) in
      let same : without.0 (slice_index nodes (i + 1)) (slice_index ports (i + 1)) ≡ without.0 (slice_index nodes (suc i)) (slice_index ports (suc i)) = ap (λ (x : ℕ). without.0 (slice_index nodes x) (slice_index ports x)) next in
      omega (arith, more, same, rises_from i (omega (arith, lt)))

  pub no_ring : ⊥
  unfolding at
  no_ring =
      let all = rises_from (length nodes - 1) (omega (arith, ring.some)) in
      let closed = without.1 (slice_index nodes (length nodes - 1)) (slice_index ports (length nodes - 1)) (slice_index nodes 0) (slice_index ports 0) ring.closed in
      omega (arith, all, closed)

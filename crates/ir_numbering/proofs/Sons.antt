-- The sons of a node of a depth-first numbering are in the order of the ports to them.
use Rattle.std.proofs.Common.{◌≡◌, ℕ, ◌<◌, ◌≤◌, List, length, get_or, take, refl, sym, ◌∙◌, subst, inl, inr, arith}
use Rattle.std.specs.Prelude.{slice_index, Contains}
use Rattle.std.proofs.lemmas.Bool.{cases_lt, cases_eq}
use Rattle.std.proofs.lemmas.List.{get_or-take, get_or_default, length-take-le}
use Rattle.ir_model.specs.Topology.{Topology, node_count, IsTopology}
use Rattle.ir_model.specs.Numbering.{neighbors_of, IsDepthFirst, IsFirstOutside}
use Rattle.ir_numbering.specs.Numbering.{IsPortTo}
use Rattle.ir_numbering.proofs.Neighbors.{neighbor_at, port_of_neighbor}
use Rattle.ir_numbering.proofs.Nested.{depth_first_nests, same_place}
use Rattle.ir_numbering.proofs.CellPorts.{one_port}

-- what is among the first has a place among them
among_first : (xs : List ℕ) (e x : ℕ) → e ≤ length xs → Contains (take e xs) x → (k : ℕ) × (k < e) × (slice_index xs k ≡ x)
among_first xs e x h w =
    let len = length-take-le e xs h in
    let within : w.0 < e = omega (arith, w.1) in
    (w.0, within, get_or_default xs w.0 0 x (omega arith) ∙ sym (get_or-take e xs w.0 x within) ∙ w.2)

module _ (net : Topology) (ok : IsTopology net) (order parents : List ℕ) (root : ℕ) (is : IsDepthFirst (neighbors_of net) (node_count net) root order parents) (a : ℕ) where
  -- the later port leads to no earlier son: when that got its place, the earlier port led to a node without one
  not_before : (c e p q : ℕ) → c < node_count net → 0 < e → e < c → slice_index parents e ≡ a → IsPortTo net (slice_index order a) p (slice_index order c)
      → IsPortTo net (slice_index order a) q (slice_index order e) → p < q → ⊥
  not_before c e p q h from lt son to to' less =
      let every = is.every in
      let low = (depth_first_nests (neighbors_of net) (node_count net) root order parents is).lower e from (omega arith) in
      let u = slice_index order a in
      let at : get_or (take e order) (slice_index parents e) 0 ≡ u = subst (λ (k : ℕ). get_or (take e order) (slice_index parents e) 0 ≡ slice_index order k) son (get_or-take e order (slice_index parents e) 0 low) in
      let f : IsFirstOutside (take e order) (neighbors_of net u) (slice_index order e) =
      subst (λ (x : ℕ). IsFirstOutside (take e order) (neighbors_of net x) (slice_index order e)) at (is.next e from (omega arith)).neighbor in
      let w = port_of_neighbor net u f.port f.below in
      let first : f.port ≡ q = one_port net ok u f.port q _ _ (f.is) (w.0, w.1, w.2) to' in
      let there = neighbor_at net u p to.0 to.1 in
      let seen : Contains (take e order) (slice_index order c) = subst (Contains (take e order)) (there.1 ∙ to.2) (f.first p (omega arith)) in
      let k = among_first order e (slice_index order c) (omega arith) seen in
      let same = same_place (neighbors_of net) (node_count net) root order parents is k.0 c (omega (arith, k.1)) h k.2 in
      omega (arith, k.1)

  pub sons_rise : (c e p q : ℕ) → c < node_count net → 0 < e → e < node_count net → slice_index parents e ≡ a → IsPortTo net (slice_index order a) p (slice_index order c)
      → IsPortTo net (slice_index order a) q (slice_index order e) → p < q → c < e
  sons_rise c e p q h from h' son to to' less =
      elim (cases_lt c e) [
        | inl lt ↦ lt
        | inr ge ↦
            elim (cases_eq c e) [
              | inl same ↦ let one = one_port net ok _ p q (slice_index order c) (slice_index order e) (subst (λ (x : ℕ). slice_index order c ≡ slice_index order x) same refl) to to' in absurd (omega arith)
              | inr ne ↦ absurd (not_before c e p q h from (omega arith) son to to' less)
            ]
      ]

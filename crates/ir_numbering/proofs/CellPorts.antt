-- The ports of a node in a tree, place by place, are those to its sons and the one to its father.
use Rattle.std.proofs.Common.{◌≡◌, ℕ, ◌<◌, List, length, refl, ap, sym, ◌∙◌, subst, inl, inr, arith, Option, Some}
use Rattle.std.specs.Prelude.{slice_index, unwrap_or}
use Rattle.std.proofs.lemmas.Bool.{cases_eq}
use Rattle.std.proofs.lemmas.Option.{slice_get_within}
use Rattle.ir_model.specs.declared.Hop.{Hop}
use Rattle.ir_model.specs.Topology.{Topology, node_count, ports_of, port_at, IsTopology}
use Rattle.ir_model.specs.Numbering.{neighbors_of, IsDepthFirst}
use Rattle.ir_model.specs.Subtree.{IsUnder, itself, IsNested, IsTreePorts}
use Rattle.ir_model.specs.Compiled.{port_to}
use Rattle.ir_numbering.specs.Numbering.{IsPortTo}
use Rattle.ir_numbering.specs.Cells.{AreTreeCells}
use Rattle.ir_numbering.proofs.Nested.{depth_first_nests, under_above, all_under, same_place}

-- two ports to one node are one
pub one_port : (net : Topology) → IsTopology net → (u p q v w : ℕ) → v ≡ w → IsPortTo net u p v → IsPortTo net u q w → p ≡ q
one_port net ok u p q v w e a b = ok.single u p q a.0 b.0 a.1 b.1 (a.2 ∙ (e ∙ sym b.2))

-- one port leads to one node
pub one_node : (net : Topology) (u p q v w : ℕ) → p ≡ q → IsPortTo net u p v → IsPortTo net u q w → v ≡ w
one_node net u p q v w e a b =
    let there : port_at net u q ≡ Some a.0 = subst (λ (x : ℕ). port_at net u x ≡ Some a.0) e a.1 in
    let hops : a.0 ≡ b.0 = some_hop a.0 b.0 (sym there ∙ b.1) in
    sym a.2 ∙ (ap (λ (h : Hop). h.node) hops ∙ b.2)
  where
    some_hop : (x y : Hop) → ◌≡◌ {A = Option Hop} (Some x) (Some y) → x ≡ y
    some_hop x y f = cc

module _ (net : Topology) (ok : IsTopology net) (order parents : List ℕ) (root : ℕ) (is : IsDepthFirst (neighbors_of net) (node_count net) root order parents)
    (a : ℕ) (own : a < node_count net) (ports : List (Option ℕ)) (cells : AreTreeCells net order parents a (node_count net) ports) where
  nest : IsNested (node_count net) parents
  nest = depth_first_nests (neighbors_of net) (node_count net) root order parents is

  out : ℕ → ℕ
  out c = unwrap_or (port_to ports c) 0

  son_port : (c : ℕ) → 0 < c → c < node_count net → slice_index parents c ≡ a → (port_to ports c ≡ Some (out c)) × IsPortTo net (slice_index order a) (out c) (slice_index order c)
  unfolding out
  son_port c from h e =
      let s = (cells.each c h).son c from h e itself in
      rw s.1 (refl, s.2)

  to_sons : (c d : ℕ) → 0 < c → slice_index parents c ≡ a → d < node_count net → IsUnder parents c d → port_to ports d ≡ Some (out c)
  to_sons c d from e h v =
      let le = under_above (node_count net) parents nest c v h in
      let h' : c < node_count net = omega arith in
      let s = (cells.each d h).son c from h' e v in
      let t = son_port c from h' e in
      s.1 ∙ ap Some (one_port net ok _ s.0 (out c) (slice_index order c) (slice_index order c) refl s.2 t.1)

  sons_apart : (c e : ℕ) → 0 < c → 0 < e → slice_index parents c ≡ a → slice_index parents e ≡ a → c < node_count net → e < node_count net → out c ≡ out e → c ≡ e
  sons_apart c e from from' p p' h h' eq =
      same_place (neighbors_of net) (node_count net) root order parents is c e h h' (one_node net _ (out c) (out e) (slice_index order c) (slice_index order e) eq (son_port c from h p).1 (son_port e from' h' p').1)

  -- the port to the parent, where there is one
  up_port : 0 < a → (up : ℕ) × IsPortTo net (slice_index order a) up (slice_index order (slice_index parents a))
      × ((d : ℕ) → d < node_count net → (IsUnder parents a d → ⊥) → port_to ports d ≡ Some up)
  up_port from =
      let low = nest.lower a from own in
      let outside : IsUnder parents a (slice_index parents a) → ⊥ = λ v. let le = under_above (node_count net) parents nest a v (omega arith) in omega arith in
      let f = (cells.each (slice_index parents a) (omega (arith, own))).father outside in
      (f.0, f.2, λ d h off. let g = (cells.each d h).father off in g.1 ∙ ap Some (one_port net ok _ g.0 f.0 _ _ refl g.2 f.2))

  pub cell_ports : (out : ℕ → ℕ) × (up : ℕ) × IsTreePorts (node_count net) a parents ports out up
      × ((c : ℕ) → 0 < c → c < node_count net → slice_index parents c ≡ a → IsPortTo net (slice_index order a) (out c) (slice_index order c))
      × (0 < a → IsPortTo net (slice_index order a) up (slice_index order (slice_index parents a)))
  cell_ports =
      let sons_to : (c : ℕ) → 0 < c → c < node_count net → slice_index parents c ≡ a → IsPortTo net (slice_index order a) (out c) (slice_index order c) = λ c from h e.
      (son_port c from h e).1 in
      elim (cases_eq a 0) [
        | inl z ↦ (
          out,
          length (ports_of net (slice_index order a)),
          record {
            sons = to_sons;
            father = λ d h off. absurd (off (all_under (node_count net) parents nest a z d d (omega arith) h));
            apart = sons_apart;
            not_up = λ c from e h eq.
                let s = sons_to c from h e in
                let within = slice_get_within (ports_of net (slice_index order a)) (out c) s.0 s.1 in
                omega arith;
          },
          sons_to,
          λ from. absurd (omega arith),
        )
        | inr nz ↦
            let up = up_port (omega arith) in (
              out,
              up.0,
              record {
                sons = to_sons;
                father = up.2;
                apart = sons_apart;
                not_up = λ c from e h eq.
                    let low = nest.lower a (omega arith) own in
                    let low' = nest.lower c from h in
                    let nodes = one_node net _ (out c) up.0 _ _ eq (son_port c from h e).1 up.1 in
                    let bad = same_place (neighbors_of net) (node_count net) root order parents is c (slice_index parents a) h (omega arith) nodes in
                    omega arith;
              },
              sons_to,
              λ from. up.1,
            )
      ]

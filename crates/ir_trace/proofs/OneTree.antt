-- A tree has one tree table.
use Rattle.std.proofs.Common.{◌≡◌, ℕ, ◌<◌, List, [], ◌∷◌, length, Option, Some, sym, ap, ◌∙◌, inl, inr, arith}
use Rattle.std.specs.Prelude.{slice_index}
use Rattle.std.proofs.lemmas.Bool.{cases_eq}
use Rattle.ir_model.specs.Topology.{Topology, node_count, IsTopology}
use Rattle.ir_model.specs.Numbering.{neighbors_of, IsDepthFirst}
use Rattle.ir_model.specs.Subtree.{IsNested}
use Rattle.ir_model.specs.Tree.{IsParent, IsTreeStep, LeadsInTree, IsTreeTable}
use Rattle.ir_model.specs.Plan.{AreLabels}
use Rattle.ir_numbering.specs.Numbering.{IsPortTo}
use Rattle.ir_numbering.specs.Cells.{IsTreeCell}
use Rattle.ir_numbering.proofs.Nested.{depth_first_nests, under_cases, son_above}
use Rattle.ir_numbering.proofs.TreePorts.{tree_cell}

-- ---- parents that agree but for the root's

module _ (order parents others : List ℕ) (agree : (i : ℕ) → 0 < i → i < length order → slice_index parents i ≡ slice_index others i) where
  parent_moved : (u v : ℕ) → IsParent order parents u v → IsParent order others u v
  parent_moved u v h = (h.0, h.1, h.2, h.3, ap (slice_index order) (sym (agree h.0 h.1 h.2)) ∙ h.4)

  step_moved : (u v : ℕ) → IsTreeStep order parents u v → IsTreeStep order others u v
  step_moved u v (inl h) = inl (parent_moved u v h)
  step_moved u v (inr h) = inr (parent_moved v u h)

  leads_moved : (u d : ℕ) (rest : List ℕ) → LeadsInTree order parents u d rest → LeadsInTree order others u d rest
  leads_moved u d [] h = h
  leads_moved u d (v ∷ rest) h = (step_moved u v h.0, leads_moved v d rest h.1)

  pub table_moved : (net : Topology) (table : ℕ → ℕ → Option ℕ) → IsTreeTable net order parents table → IsTreeTable net order others table
  table_moved net table is = record {
    own = is.own;
    port = λ u d hu hd ne. (let w = is.port u d hu hd ne in (w.0, w.1, w.2, w.3, w.4, (w.5.0, leads_moved u d (w.1.node ∷ w.2) w.5.1, w.5.2)));
  }

-- ---- the table of a tree

module _ (net : Topology) (ok : IsTopology net) (order parents labels : List ℕ) (root : ℕ)
    (is : IsDepthFirst (neighbors_of net) (node_count net) root order parents) (l : AreLabels (node_count net) order labels) where
  nest : IsNested (node_count net) parents
  nest = depth_first_nests (neighbors_of net) (node_count net) root order parents is

  -- two ports of a node that lead to one node are one
  one_port : (u v : ℕ) (x y : Option ℕ) → (p : ℕ) × (x ≡ Some p) × IsPortTo net u p v → (p : ℕ) × (y ≡ Some p) × IsPortTo net u p v → x ≡ y
  one_port u v x y g h = g.1 ∙ ap (λ (p : ℕ). Some p) (ok.single u g.0 h.0 g.2.0 h.2.0 g.2.1 h.2.1 (g.2.2 ∙ sym h.2.2)) ∙ sym h.1

  one_cell : (a i : ℕ) (x y : Option ℕ) → i < node_count net → IsTreeCell net order parents a i x → IsTreeCell net order parents a i y → x ≡ y
  one_cell a i x y hi c e =
      elim (cases_eq i a) [
        | inl own ↦ c.own own ∙ sym (e.own own)
        | inr other ↦
            elim (under_cases (node_count net) parents nest a i i (omega arith) hi) [
              | inl under ↦
                  let s = son_above (node_count net) parents nest a under hi other in
                  one_port (slice_index order a) (slice_index order s.0) x y (c.son s.0 s.1 s.3 s.2 s.4) (e.son s.0 s.1 s.3 s.2 s.4)
              | inr out ↦ one_port (slice_index order a) (slice_index order (slice_index parents a)) x y (c.father out) (e.father out)
            ]
      ]

  pub one_table : (table other : ℕ → ℕ → Option ℕ) → IsTreeTable net order parents table → IsTreeTable net order parents other
      → (u d : ℕ) → u < node_count net → d < node_count net → table u d ≡ other u d
  one_table table other t o u d hu hd =
      one_cell (slice_index labels u) (slice_index labels d) (table u d) (other u d) (l.label d hd)
      (tree_cell net order parents labels root is l table t u d hu hd) (tree_cell net order parents labels root is l other o u d hu hd)

-- The row of a node of a tree plan, by its sons and its father.
use Rattle.std.proofs.Common.{◌≡◌, ◌≢◌, ◌⊎◌, ℕ, ◌+◌, ◌-◌, ◌<◌, ◌≤◌, List, length, Option, Some, get_or, refl, ap, sym, ◌∙◌, subst, inl, inr, arith}
use Rattle.std.specs.Prelude.{slice_index, Contains, AllPairs}
use Rattle.std.proofs.lemmas.Bool.Decides.{nat_tests}
use Rattle.std.proofs.lemmas.List.{get_or-map, length-map, get_or_default}
use Rattle.ir_model.specs.declared.Hop.{Hop}
use Rattle.ir_model.specs.declared.Kind.{Kind}
use Rattle.ir_model.specs.declared.Kind.TheVariants.{Tree}
use Rattle.ir_model.specs.Topology.{Topology, node_count, port_at}
use Rattle.ir_model.specs.Subtree.{IsUnder, itself, IsSubtree, IsNested, IsTreePorts}
use Rattle.ir_model.specs.Numbering.{neighbors_of}
use Rattle.ir_model.specs.Tree.{IsParent, IsTreeTable}
use Rattle.ir_model.specs.Row.{Start, labels as start_labels, start_ports}
use Rattle.ir_model.specs.Compiled.{port_to, label_after}
use Rattle.ir_model.specs.Plan.{Plan, IsPlan, IsTableOf, table_port, label_in, row_in, by_label}
use Rattle.ir_model.proofs.Rows.{no_start, rises}
use Rattle.ir_model.proofs.Round.{start_is_label}
use Rattle.ir_numbering.specs.Numbering.{IsPortTo}
use Rattle.ir_numbering.proofs.Nested.{depth_first_nests, subtree_of}
use Rattle.ir_numbering.proofs.TreePorts.{tree_ports}
use Rattle.ir_numbering.proofs.TreeRow.{tree_row}
use Rattle.ir_plan.specs.TreeRows.{IsTreeRow, HasStart, HasTreeRow, subtree_end}

-- two starts of one label and port are one
same_start : (s : Start) (l p : ℕ) → s.label ≡ l → s.port ≡ p → ◌≡◌ {A = Start} s (record { label = l; port = p })
same_start s l p el ep =
    ap (λ (x : ℕ). let t : Start = record { label = x; port = s.port } in t) el ∙ ap (λ (x : ℕ). let t : Start = record { label = l; port = x } in t) ep

-- the start at a label of a row
pub start_at : (row : List Start) (d : ℕ) → Contains (start_labels row) d → (s : Start) × Contains row s × (s.label ≡ d)
start_at row d w =
    let len : length (start_labels row) ≡ length row = length-map row (λ (s : Start). s.label) in
    let h : w.0 < length row = omega (arith, w.1) in
    let s = get_or row w.0 no_start in
    (s, (w.0, h, get_or_default row w.0 s no_start h), sym (get_or-map (λ (t : Start). t.label) row w.0 no_start d h) ∙ w.2)

-- its label is among the labels
label_in_row : (row : List Start) (s : Start) → Contains row s → Contains (start_labels row) s.label
label_in_row row s w =
    let len : length (start_labels row) ≡ length row = length-map row (λ (t : Start). t.label) in
    (w.0, omega (arith, w.1), get_or-map (λ (t : Start). t.label) row w.0 s s.label w.1 ∙ ap (λ (t : Start). t.label) w.2)

some_same : (x y : ℕ) → ◌≡◌ {A = Option ℕ} (Some x) (Some y) → x ≡ y
some_same x y e = cc

-- a port leads to one node
same_node : (net : Topology) (u p q v w : ℕ) → p ≡ q → IsPortTo net u p v → IsPortTo net u q w → v ≡ w
same_node net u p q v w e a b =
    let same : Some a.0 ≡ Some b.0 = sym a.1 ∙ ap (port_at net u) e ∙ b.1 in
    let hop : a.0 ≡ b.0 = cc same in
    sym a.2 ∙ ap (λ (h : Hop). h.node) hop ∙ b.2

-- the end of the subtree is a label outside it
pub end_outside : (n a size d : ℕ) → a < n → 0 < a → 0 < size → a + size ≤ n → d ≡ label_after n (a + size - 1) → a ≤ d → d < a + size → ⊥
end_outside n a size d own from some within e low high = grind (arith, nat_tests)

module _ (s : Plan) (is : IsPlan s) (is_tree : s.kind ≡ Tree) (u size : ℕ) (hu : u < node_count s.topology) (nest : IsNested (node_count s.topology) is.parents)
    (sub : IsSubtree (node_count s.topology) is.parents (label_in s u) size) (out : ℕ → ℕ) (up : ℕ)
    (tree : IsTreePorts (node_count s.topology) (label_in s u) is.parents (by_label s u) out up)
    (to_son : (c : ℕ) → 0 < c → c < node_count s.topology → slice_index is.parents c ≡ label_in s u → IsPortTo s.topology u (out c) (slice_index s.order c))
    (to_father : 0 < label_in s u → IsPortTo s.topology u up (slice_index s.order (slice_index is.parents (label_in s u)))) where
  own : label_in s u < node_count s.topology
  own = is.labels.label u hu

  law : (d : ℕ) → Contains (start_labels (row_in s u)) d → ((0 < d) × (d < node_count s.topology) × (slice_index is.parents d ≡ label_in s u))
      ⊎ ((0 < label_in s u) × (d ≡ subtree_end (node_count s.topology) (label_in s u) size))
  law d w = (tree_row (node_count s.topology) (label_in s u) size is.parents nest own sub (by_label s u) out up tree (row_in s u) (is.rows u hu) d).0 w

  stands : (d : ℕ) → ((0 < d) × (d < node_count s.topology) × (slice_index is.parents d ≡ label_in s u))
      ⊎ ((0 < label_in s u) × (d ≡ subtree_end (node_count s.topology) (label_in s u) size)) → Contains (start_labels (row_in s u)) d
  stands d w = (tree_row (node_count s.topology) (label_in s u) size is.parents nest own sub (by_label s u) out up tree (row_in s u) (is.rows u hu) d).1 w

  port_is : (start : Start) → Contains (row_in s u) start → port_to (by_label s u) start.label ≡ Some start.port
  port_is start w = subst (λ (t : Start). port_to (by_label s u) t.label ≡ Some t.port) w.2 ((is.rows u hu).their_ports w.0 start w.1)

  -- the port of a start at a son's label
  son_port : (start : Start) → Contains (row_in s u) start → (c : ℕ) → start.label ≡ c → 0 < c → c < node_count s.topology → slice_index is.parents c ≡ label_in s u → start.port ≡ out c
  son_port start w c e from h p = some_same start.port (out c) (sym (port_is start w) ∙ ap (port_to (by_label s u)) e ∙ tree.sons c c from p h itself)

  -- the port of the start at the end of the subtree
  father_port : (start : Start) → Contains (row_in s u) start → 0 < label_in s u → start.label ≡ subtree_end (node_count s.topology) (label_in s u) size → start.port ≡ up
  father_port start w from e =
      let n = node_count s.topology in
      let a = label_in s u in
      let some = ((sub.places a own).0 itself).1 in
      let d = subtree_end n a size in
      let in_row : Contains (start_labels (row_in s u)) d = stands d (inr (from, refl)) in
      let label : d < n = start_is_label n a (by_label s u) d (((is.rows u hu).starts d).0 in_row) in
      let off : IsUnder is.parents a d → ⊥ = λ t. let r = (sub.places d label).0 t in end_outside n a size d own from (omega (arith, some)) sub.within refl r.0 r.1 in
      some_same start.port up (sym (port_is start w) ∙ ap (port_to (by_label s u)) e ∙ tree.father d label off)

  -- the place of a parent's child, and of its parent
  place_within : (v w : ℕ) (h : IsParent s.order is.parents v w) → h.0 < node_count s.topology
  place_within v w h = subst (λ (n : ℕ). h.0 < n) is.labels.every_label h.2

  place_of : (v w : ℕ) (h : IsParent s.order is.parents v w) → h.0 ≡ label_in s v
  place_of v w h = sym (is.labels.back h.0 (place_within v w h)) ∙ ap (slice_index s.labels) h.3

  place_of_parent : (v w : ℕ) (h : IsParent s.order is.parents v w) → slice_index is.parents h.0 ≡ label_in s w
  place_of_parent v w h =
      let lower = nest.lower h.0 h.1 (place_within v w h) in
      let below = place_within v w h in
      sym (is.labels.back (slice_index is.parents h.0) (omega arith)) ∙ ap (slice_index s.labels) h.4

  no_other_start : (start : Start) → Contains (row_in s u) start → (v : ℕ) × IsPortTo s.topology u start.port v
      × ((IsParent s.order is.parents v u × (start.label ≡ label_in s v))
      ⊎ (IsParent s.order is.parents u v × (start.label ≡ subtree_end (node_count s.topology) (label_in s u) size)))
  no_other_start start w =
      let l = start.label in
      let a = label_in s u in
      let in_row : Contains (start_labels (row_in s u)) l = label_in_row (row_in s u) start w in
      elim (law l in_row) [
        | inl son ↦
            let port = son_port start w l refl son.0 son.1 son.2 in
            let is_son : IsParent s.order is.parents (slice_index s.order l) u =
            (l, son.0, subst (λ (n : ℕ). l < n) (sym is.labels.every_label) son.1, refl, ap (slice_index s.order) son.2 ∙ is.labels.there u hu) in
            (slice_index s.order l, subst (λ (p : ℕ). IsPortTo s.topology u p (slice_index s.order l)) (sym port) (to_son l son.0 son.1 son.2), inl (is_son, sym (is.labels.back l son.1)))
        | inr end ↦
            let port = father_port start w end.0 end.1 in
            let v = slice_index s.order (slice_index is.parents a) in
            let is_father : IsParent s.order is.parents u v = (a, end.0, subst (λ (n : ℕ). a < n) (sym is.labels.every_label) own, is.labels.there u hu, refl) in
            (v, subst (λ (p : ℕ). IsPortTo s.topology u p v) (sym port) (to_father end.0), inr (is_father, end.1))
      ]

  start_for_son : (w : ℕ) → IsParent s.order is.parents w u → (p : ℕ) × IsPortTo s.topology u p w × HasStart (row_in s u) (label_in s w) p
  start_for_son w h =
      let c = h.0 in
      let below = place_within w u h in
      let under = place_of_parent w u h in
      let found = start_at (row_in s u) c (stands c (inl (h.1, below, under))) in
      let port = son_port found.0 found.1 c found.2 h.1 below under in (
        out c,
        subst (λ (x : ℕ). IsPortTo s.topology u (out c) x) h.3 (to_son c h.1 below under),
        subst (λ (t : Start). Contains (row_in s u) t) (same_start found.0 (label_in s w) (out c) (found.2 ∙ place_of w u h) port) found.1,
      )

  start_for_father : (v : ℕ) → IsParent s.order is.parents u v
      → (p : ℕ) × IsPortTo s.topology u p v × HasStart (row_in s u) (subtree_end (node_count s.topology) (label_in s u) size) p
  start_for_father v h =
      let d = subtree_end (node_count s.topology) (label_in s u) size in
      let from : 0 < label_in s u = subst (λ (x : ℕ). 0 < x) (place_of u v h) h.1 in
      let found = start_at (row_in s u) d (stands d (inr (from, refl))) in
      let port = father_port found.0 found.1 from found.2 in
      let is_v : slice_index s.order (slice_index is.parents (label_in s u)) ≡ v = ap (λ (x : ℕ). slice_index s.order (slice_index is.parents x)) (sym (place_of u v h)) ∙ h.4 in (
        up,
        subst (λ (x : ℕ). IsPortTo s.topology u up x) is_v (to_father from),
        subst (λ (t : Start). Contains (row_in s u) t) (same_start found.0 d up found.2 port) found.1,
      )

  -- nobody is the father and a son of one node
  not_both : (v : ℕ) → IsParent s.order is.parents v u → IsParent s.order is.parents u v → ⊥
  not_both v son father =
      let l = nest.lower son.0 son.1 (place_within v u son) in
      let m = nest.lower father.0 father.1 (place_within u v father) in
      omega (arith, place_of v u son, place_of u v father, place_of_parent v u son, place_of_parent u v father)

  -- starts with one port have one label
  same_label : (start other : Start) → Contains (row_in s u) start → Contains (row_in s u) other → start.port ≡ other.port → start.label ≡ other.label
  same_label start other w x e =
      let a = no_other_start start w in
      let b = no_other_start other x in
      let v : a.0 ≡ b.0 = same_node s.topology u start.port other.port a.0 b.0 e a.1 b.1 in
      elim a.2 [
        | inl son ↦ elim b.2 [
          | inl son' ↦ son.1 ∙ ap (label_in s) v ∙ sym son'.1
          | inr father ↦ absurd (not_both a.0 son.0 (subst (λ (y : ℕ). IsParent s.order is.parents u y) (sym v) father.0))
        ]
        | inr father ↦ elim b.2 [
          | inl son ↦ absurd (not_both a.0 (subst (λ (y : ℕ). IsParent s.order is.parents y u) (sym v) son.0) father.0)
          | inr father' ↦ father.1 ∙ sym father'.1
        ]
      ]

  ports_differ : AllPairs (λ p q. p ≢ q) (start_ports (row_in s u))
  ports_differ i j d lt below e =
      let row = row_in s u in
      let len : length (start_ports row) ≡ length row = length-map row (λ (t : Start). t.port) in
      let len' : length (start_labels row) ≡ length row = length-map row (λ (t : Start). t.label) in
      let hi : i < length row = omega arith in
      let hj : j < length row = omega arith in
      let x = get_or row i no_start in
      let y = get_or row j no_start in
      let port : x.port ≡ y.port = sym (get_or-map (λ (t : Start). t.port) row i no_start d hi) ∙ e ∙ get_or-map (λ (t : Start). t.port) row j no_start d hj in
      let label = same_label x y (i, hi, get_or_default row i x no_start hi) (j, hj, get_or_default row j y no_start hj) port in
      let r = rises (start_labels row) (is.rows u hu).ascending i j lt (omega arith) in
      omega (arith, label, get_or-map (λ (t : Start). t.label) row i no_start 0 hi, get_or-map (λ (t : Start). t.label) row j no_start 0 hj)

  pub tree_row_stands : IsTreeRow s is.parents size u
  tree_row_stands = record { numbering = is.numbering is_tree; subtree = sub; sons = start_for_son; father = start_for_father; no_other = no_other_start; one_each = ports_differ }

-- the row of each node of a tree plan, by the tree of its numbers
pub tree_of : (s : Plan) → (is : IsPlan s) → s.kind ≡ Tree → IsTreeTable s.topology s.order is.parents (table_port s)
tree_of s is tree = subst (λ (k : Kind). IsTableOf k s.topology s.order is.parents (table_port s)) tree is.table

pub nests : (s : Plan) → (is : IsPlan s) → s.kind ≡ Tree → IsNested (node_count s.topology) is.parents
nests s is tree = depth_first_nests (neighbors_of s.topology) (node_count s.topology) s.root s.order is.parents (is.numbering tree)

pub tree_rows : (s : Plan) → IsPlan s → s.kind ≡ Tree → (u : ℕ) → u < node_count s.topology → HasTreeRow s u
tree_rows s is tree u hu =
    let ports = tree_ports s.topology s.order is.parents s.labels s.root (is.numbering tree) is.labels (table_port s) (tree_of s is tree) is.topology u hu in
    let sub = subtree_of (node_count s.topology) is.parents (nests s is tree) (label_in s u) (is.labels.label u hu) in
    (is.parents, sub.0, tree_row_stands s is tree u sub.0 hu (nests s is tree) sub.1 ports.0 ports.1 ports.2 ports.3 ports.4)

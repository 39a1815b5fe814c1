-- A table of tree cells routes along the tree.
use Rattle.std.proofs.Common.{◌≡◌, ◌≢◌, ℕ, ◌<◌, List, [], ◌∷◌, refl, ap, sym, ◌∙◌, subst, inl, inr, arith, map, Option, Some, None}
use Rattle.std.specs.Prelude.{slice_index, AllPairs, All}
use Rattle.std.specs.List.{AllByRecursion}
use Rattle.std.proofs.lemmas.List.Kept.{AllPairs-cons}
use Rattle.std.proofs.lemmas.List.Elements.{All-cons}
use Rattle.ir_model.specs.declared.Hop.{Hop}
use Rattle.ir_model.specs.Topology.{Topology, node_count, port_at}
use Rattle.ir_model.specs.Numbering.{neighbors_of, IsDepthFirst}
use Rattle.ir_model.specs.Subtree.{IsUnder, itself, IsNested}
use Rattle.ir_model.specs.Plan.{AreLabels}
use Rattle.ir_model.specs.Table.{Table, port_in, next_node, Continues, IsPrescribedWalk}
use Rattle.ir_model.specs.Tree.{IsTreeStep, LeadsInTree, IsTreePath, IsTreeTable}
use Rattle.ir_numbering.specs.Numbering.{IsPortTo}
use Rattle.ir_numbering.specs.Cells.{IsTreeCell, AreTreeRows}
use Rattle.ir_tables.specs.Listed.{listed_port, IsPortList, IsListed}
use Rattle.ir_numbering.proofs.Nested.{depth_first_nests, under_above, same_place}
use Rattle.ir_numbering.proofs.Ways.{IsStep, Goes, way, step_in, after_way, way_in, not_again, After}

module _ (net : Topology) (order parents labels : List ℕ) (root : ℕ)
    (is : IsDepthFirst (neighbors_of net) (node_count net) root order parents) (l : AreLabels (node_count net) order labels) where
  nest : IsNested (node_count net) parents
  nest = depth_first_nests (neighbors_of net) (node_count net) root order parents is

  abbrev at_place : ℕ → ℕ
  at_place k = slice_index order k

  step_in_tree : (a i k : ℕ) → a < node_count net → IsStep (node_count net) parents i a k → IsTreeStep order parents (slice_index order a) (slice_index order k)
  step_in_tree a i k own s =
      let every = is.every in
      elim s [
        | inl d ↦ let h = d.1 in inr (k, d.0, omega arith, refl, ap at_place d.2)
        | inr u ↦ inl (a, u.0, omega arith, refl, ap at_place (sym u.1))
      ]

  way_in_tree : (a i : ℕ) → a < node_count net → (rest : List ℕ) → Goes (node_count net) parents i a rest
      → LeadsInTree order parents (slice_index order a) (slice_index order i) (map at_place rest)
  way_in_tree a i own [] w = ap at_place w
  way_in_tree a i own (b ∷ rest) w =
      (step_in_tree a i b own w.0, way_in_tree b i (step_in (node_count net) parents nest a i b own w.0) rest w.1)

  others_apart : (a i : ℕ) → a < node_count net → (rest : List ℕ) → AllByRecursion (After (node_count net) parents nest i a) rest → AllByRecursion (λ k. k < node_count net) rest
      → All (λ y. slice_index order a ≢ y) (map at_place rest)
  others_apart a i own [] after within = λ k d h. absurd (omega arith)
  others_apart a i own (b ∷ rest) after within =
      All-cons (λ y. slice_index order a ≢ y) (slice_index order b) (map at_place rest)
      (λ e. not_again (node_count net) parents nest a i b after.0 (same_place (neighbors_of net) (node_count net) root order parents is a b own within.0 e))
      (others_apart a i own rest after.1 within.1)

  way_apart : (a i : ℕ) → a < node_count net → i < node_count net → (rest : List ℕ) → Goes (node_count net) parents i a rest
      → AllPairs (λ x y. x ≢ y) (map at_place (a ∷ rest))
  way_apart a i own h [] w = AllPairs-cons (λ x y. x ≢ y) (slice_index order a) [] (λ k d l. absurd (omega arith)) (λ j k d lt l. absurd (omega arith))
  way_apart a i own h (b ∷ rest) w =
      AllPairs-cons (λ x y. x ≢ y) (slice_index order a) (map at_place (b ∷ rest))
      (others_apart a i own (b ∷ rest) (after_way (node_count net) parents nest a i own h (b ∷ rest) w) (way_in (node_count net) parents nest a i own (b ∷ rest) w))
      (way_apart b i (step_in (node_count net) parents nest a i b own w.0) h rest w.1)

  step_differs : (a i k : ℕ) → a < node_count net → i < node_count net → IsStep (node_count net) parents i a k → a ≢ i
  step_differs a i k own h s e =
      elim s [
        | inl d ↦
            let low = nest.lower k d.0 d.1 in
            let p = d.2 in
            let le = under_above (node_count net) parents nest k d.3 h in
            omega arith
        | inr u ↦ u.2 (subst (IsUnder parents a) e itself)
      ]

  module _ (table : ℕ → ℕ → Option ℕ)
      (cells : (u d : ℕ) → u < node_count net → d < node_count net → IsTreeCell net order parents (slice_index labels u) (slice_index labels d) (table u d)) where
    -- the port to the next node on the way
    step_port : (a i k : ℕ) → a < node_count net → i < node_count net → IsStep (node_count net) parents i a k
        → (p : ℕ) × (table (slice_index order a) (slice_index order i) ≡ Some p) × IsPortTo net (slice_index order a) p (slice_index order k)
    step_port a i k own h s =
        let C : ℕ → ℕ → Type 0 = λ x y. IsTreeCell net order parents x y (table (slice_index order a) (slice_index order i)) in
        let raw = cells (slice_index order a) (slice_index order i) (l.node a own) (l.node i h) in
        let cell : C a i = subst (λ (y : ℕ). C a y) (l.back i h) (subst (λ (x : ℕ). C x (slice_index labels (slice_index order i))) (l.back a own) raw) in
        elim s [
          | inl d ↦ cell.son k d.0 d.1 d.2 d.3
          | inr u ↦
              let f = cell.father u.2 in
              (f.0, f.1, subst (λ (x : ℕ). IsPortTo net (slice_index order a) f.0 (slice_index order x)) (sym u.1) f.2)
        ]

    step_next : (a i k : ℕ) → a < node_count net → i < node_count net → IsStep (node_count net) parents i a k
        → next_node net table (slice_index order a) (slice_index order i) ≡ Some (slice_index order k)
    step_next a i k own h s =
        let p = step_port a i k own h s in
        let at = p.2.1 in
        rw (p.1, at) (ap Some p.2.2)

    way_continues : (a i : ℕ) → a < node_count net → i < node_count net → (rest : List ℕ) → Goes (node_count net) parents i a rest
        → Continues net table (slice_index order i) (slice_index order a) (map at_place rest)
    way_continues a i own h [] w = ap at_place w
    way_continues a i own h (b ∷ rest) w = (
      (λ e. step_differs a i b own h w.0 (same_place (neighbors_of net) (node_count net) root order parents is a i own h e)),
      step_next a i b own h w.0,
      way_continues b i (step_in (node_count net) parents nest a i b own w.0) h rest w.1,
    )

    pub tree_walk : (u d : ℕ) → u < node_count net → d < node_count net → (walk : List ℕ) × IsPrescribedWalk net table u d walk
    tree_walk u d u_in d_in =
        let a = slice_index labels u in
        let i = slice_index labels d in
        let w = way (node_count net) parents nest a a i (omega arith) (l.label u u_in) (l.label d d_in) in
        let to = way_continues a i (l.label u u_in) (l.label d d_in) w.0 w.1 in
        let P : ℕ → Type 0 = λ x. Continues net table (slice_index order i) x (map at_place w.0) in
        let Q : ℕ → Type 0 = λ y. Continues net table y u (map at_place w.0) in
        (u ∷ map at_place w.0, (refl, subst Q (l.there d d_in) (subst P (l.there u u_in) to)))

    pub tree_own : (d : ℕ) → d < node_count net → table d d ≡ None
    tree_own d d_in = (cells d d d_in d_in).own refl

    -- the first step from a node to another
    first_step : (u d : ℕ) → u < node_count net → d < node_count net → u ≢ d → (rest : List ℕ) → Goes (node_count net) parents (slice_index labels d) (slice_index labels u) rest
        → (p : ℕ) × (hop : Hop) × (more : List ℕ) × (table u d ≡ Some p) × (port_at net u p ≡ Some hop) × IsTreePath order parents u d (u ∷ hop.node ∷ more)
    first_step u d u_in d_in ne [] w = absurd (ne (sym (l.there u u_in) ∙ ap at_place w ∙ l.there d d_in))
    first_step u d u_in d_in ne (b ∷ rest) w =
        let a = slice_index labels u in
        let i = slice_index labels d in
        let own = l.label u u_in in
        let h = l.label d d_in in
        let p = step_port a i b own h w.0 in
        let is_u = l.there u u_in in
        let is_d = l.there d d_in in
        let hop = p.2.0 in
        let is_hop : hop.node ≡ slice_index order b = p.2.2 in
        let found : table u d ≡ Some p.0 = ap (λ (x : ℕ). table x d) (sym is_u) ∙ (ap (table (slice_index order a)) (sym is_d) ∙ p.1) in
        let at : port_at net u p.0 ≡ Some hop = subst (λ (x : ℕ). port_at net x p.0 ≡ Some hop) is_u p.2.1 in
        let path : LeadsInTree order parents (slice_index order a) (slice_index order i) (map at_place (b ∷ rest)) = way_in_tree a i own (b ∷ rest) w in
        let apart : AllPairs (λ x y. x ≢ y) (map at_place (a ∷ b ∷ rest)) = way_apart a i own h (b ∷ rest) w in
        let P : ℕ → ℕ → ℕ → Type 0 = λ x y z. LeadsInTree order parents x y (z ∷ map at_place rest) × AllPairs (λ v w. v ≢ w) (x ∷ z ∷ map at_place rest) in
        let whole : P u d hop.node = subst (λ (z : ℕ). P u d z) (sym is_hop) (subst (λ (y : ℕ). P u y (slice_index order b)) is_d (subst (λ (x : ℕ). P x (slice_index order i) (slice_index order b)) is_u (path, apart))) in
        (p.0, hop, map at_place rest, found, at, (refl, whole.0, whole.1))

    pub tree_table_is : IsTreeTable net order parents table
    tree_table_is = record {
      own = tree_own;
      port = λ u d u_in d_in ne.
          let w = way (node_count net) parents nest (slice_index labels u) (slice_index labels u) (slice_index labels d) (omega arith) (l.label u u_in) (l.label d d_in) in
          first_step u d u_in d_in ne w.0 w.1;
    }

  -- a list of tree cells prescribes its walks
  module _ (ports : List (Option ℕ)) (rows : AreTreeRows net order parents labels (node_count net) ports) where
    pub rows_listed : IsPortList net ports
    rows_listed = record {
      len = rows.every;
      own = tree_own (listed_port (node_count net) ports) rows.each;
      walks = tree_walk (listed_port (node_count net) ports) rows.each;
    }

    pub listed_is_tree : (table : Table) → IsListed net ports table → IsTreeTable net order parents (port_in table)
    listed_is_tree table t = tree_table_is (port_in table) (λ u d u_in d_in.
        subst (λ (port : Option ℕ). IsTreeCell net order parents (slice_index labels u) (slice_index labels d) port) (sym (t.held u d u_in d_in)) (rows.each u d u_in d_in))

-- What a tree table holds, place by place.
use Rattle.std.proofs.Common.{◌≡◌, ◌≢◌, ℕ, zero, suc, ◌+◌, ◌*◌, ◌<◌, ◌≤◌, List, [], ◌∷◌, ◌++◌, length, get_or, refl, ap, sym, ◌∙◌, subst, inl, inr, arith, map, Option, Some, None}
use Rattle.std.specs.Prelude.{slice_index, slice_index_or, IsSomeAnd}
use Rattle.std.proofs.lemmas.Bool.{cases_eq}
use Rattle.std.proofs.lemmas.List.{get_or-map, length-map, get_or_append_left, get_or-append-add, length-append, length_push}
use Rattle.std.proofs.lemmas.Nat.{mul-add-lt}
use Rattle.ir_model.specs.Topology.{Topology, node_count, IsTopology}
use Rattle.ir_model.specs.Walk.{Linked}
use Rattle.ir_model.specs.Numbering.{neighbors_of, IsDepthFirst}
use Rattle.ir_model.specs.Subtree.{IsUnder, itself, child, IsNested}
use Rattle.ir_model.specs.Plan.{AreLabels}
use Rattle.ir_numbering.specs.Numbering.{IsPortTo, IsParentPort}
use Rattle.ir_numbering.specs.Cells.{IsTreeCell, AreTreeCells, AreTreeRows}
use Rattle.ir_numbering.proofs.Lists.{each_push}
use Rattle.ir_numbering.proofs.Nested.{depth_first_nests, under_above, parent_under, same_place, same_son}
use Rattle.ir_numbering.proofs.Ways.{parent_linked}

module _ (net : Topology) (ok : IsTopology net) (order parents : List ℕ)
    (is : IsDepthFirst (neighbors_of net) (node_count net) (slice_index order 0) order parents) (a : ℕ) (own : a < node_count net) where
  nest : IsNested (node_count net) parents
  nest = depth_first_nests (neighbors_of net) (node_count net) (slice_index order 0) order parents is

  -- the cell of the place itself
  pub own_cell : IsTreeCell net order parents a a None
  own_cell = record {
    own = λ e. refl;
    son = λ c from h e u. let low = nest.lower c from h in let le = under_above (node_count net) parents nest c u own in absurd (omega arith);
    father = λ off. absurd (off itself);
  }

  -- where the port that a place holds for its parent leads
  pub parent_port_to : (up : Option ℕ) → IsParentPort net order parents (slice_index order a) up → 0 < a
      → (p : ℕ) × (up ≡ Some p) × IsPortTo net (slice_index order a) p (slice_index order (slice_index parents a))
  parent_port_to up port from =
      let every = is.every in
      let other = port.others (λ e. is.once 0 a 0 (omega arith) (omega arith) (sym e)) in
      let parent = other.4 in
      let k_in = parent.2 in
      let same : parent.0 ≡ a = same_place (neighbors_of net) (node_count net) (slice_index order 0) order parents is parent.0 a (omega arith) own parent.3 in
      let v : slice_index order (slice_index parents a) ≡ other.1 = ap (λ (k : ℕ). slice_index order (slice_index parents k)) (sym same) ∙ parent.4 in
      (other.0, other.2, subst (λ (x : ℕ). IsPortTo net (slice_index order a) other.0 x) (sym v) other.3)

  -- that of the root
  pub root_cell : (up : Option ℕ) → IsParentPort net order parents (slice_index order a) up → 0 ≢ a → IsTreeCell net order parents a 0 up
  root_cell up port ne = record {
    own = λ e. absurd (ne e);
    son = λ c from h e u. let le = under_above (node_count net) parents nest c u (omega arith) in absurd (omega arith);
    father = λ off. parent_port_to up port (omega arith);
  }

  -- that of a son
  pub son_cell : (i : ℕ) → 0 < i → i < node_count net → slice_index parents i ≡ a → (port : Option ℕ)
      → IsSomeAnd port (λ p. IsPortTo net (slice_index order a) p (slice_index order i)) → IsTreeCell net order parents a i port
  son_cell i from h e None s = absurd s
  son_cell i from h e (Some p) s =
      let low = nest.lower i from h in
      record {
        own = λ f. absurd (omega arith);
        son = λ c from' h' e' u.
            let same = same_son (node_count net) parents nest c i a from' from h' h e' e h u itself in
            (p, refl, subst (λ (x : ℕ). IsPortTo net (slice_index order a) p (slice_index order x)) (sym same) s);
        father = λ off. absurd (off (child i from (subst (IsUnder parents a) (sym e) itself)));
      }

  -- that of all others is their parent's
  pub other_cell : (i : ℕ) → 0 < i → i < node_count net → i ≢ a → slice_index parents i ≢ a → (port : Option ℕ)
      → IsTreeCell net order parents a (slice_index parents i) port → IsTreeCell net order parents a i port
  other_cell i from h ne ne' port cell = record {
    own = λ e. absurd (ne e);
    son = λ c from' h' e u. cell.son c from' h' e (parent_under (node_count net) parents nest c u (λ f. ne' (subst (λ (x : ℕ). slice_index parents x ≡ a) (sym f) e)));
    father = λ off. cell.father (λ u. off (child i from u));
  }

  -- a place has its cell where those before it have theirs
  cell_by : (up : Option ℕ) → IsParentPort net order parents (slice_index order a) up → (i : ℕ) → i < node_count net
      → ((j : ℕ) → j < i → (port : Option ℕ) × IsTreeCell net order parents a j port) → (port : Option ℕ) × IsTreeCell net order parents a i port
  cell_by up port i h before =
      elim (cases_eq i a) [
        | inl e ↦ (None, subst (λ (k : ℕ). IsTreeCell net order parents a k None) (sym e) own_cell)
        | inr ne ↦
            elim (cases_eq i 0) [
              | inl z ↦ (up, subst (λ (k : ℕ). IsTreeCell net order parents a k up) (sym z) (root_cell up port (omega arith)))
              | inr nz ↦
                  elim (cases_eq (slice_index parents i) a) [
                    | inl e ↦
                        let l : Linked net (slice_index order a) (slice_index order i) =
                        subst (λ (k : ℕ). Linked net (slice_index order k) (slice_index order i)) e (parent_linked net ok (slice_index order 0) order parents is i (omega arith) h) in
                        (Some l.0, son_cell i (omega arith) h e (Some l.0) (l.1, l.2, l.3))
                    | inr ne' ↦
                        let low = nest.lower i (omega arith) h in
                        let c = before (slice_index parents i) low in
                        (c.0, other_cell i (omega arith) h ne ne' c.0 c.1)
                  ]
            ]
      ]

  cell_of : (up : Option ℕ) → IsParentPort net order parents (slice_index order a) up → (fuel i : ℕ) → i < fuel → i < node_count net → (port : Option ℕ) × IsTreeCell net order parents a i port
  cell_of up port zero i f h = absurd (omega arith)
  cell_of up port (suc fuel) i f h = cell_by up port i h (λ j lt. cell_of up port fuel j (omega arith) (omega arith))

-- a row by label, node by node
module _ (net : Topology) (order parents labels : List ℕ) (l : AreLabels (node_count net) order labels) where
  pub row_added : (u : ℕ) (ports row : List (Option ℕ)) → u < node_count net → AreTreeRows net order parents labels u ports
      → AreTreeCells net order parents (slice_index labels u) (node_count net) row
      → AreTreeRows net order parents labels (u + 1) (ports ++ map (λ label. slice_index_or row label None) labels)
  row_added u ports row h rows cells =
      let every = rows.every in
      let n = l.every_node in
      let more : List (Option ℕ) = map (λ label. slice_index_or row label None) labels in
      let len : length more ≡ length labels = length-map labels (λ label. slice_index_or row label None) in
      let sum = length-append ports more in
      record {
        every = omega arith;
        each = λ v d v_in d_in.
            elim (cases_eq v u) [
              | inl e ↦
                  let at : get_or (ports ++ more) (u * node_count net + d) None ≡ get_or more d None =
                  ap (λ (k : ℕ). get_or (ports ++ more) (k + d) None) (sym every) ∙ get_or-append-add ports more d None in
                  let is : get_or more d None ≡ get_or row (slice_index labels d) None = get_or-map (λ label. slice_index_or row label None) labels d 0 None (omega arith) in
                  let here = cells.each (slice_index labels d) (l.label d d_in) in
                  let cell = subst (λ (port : Option ℕ). IsTreeCell net order parents (slice_index labels u) (slice_index labels d) port) (sym (at ∙ is)) here in
                  subst (λ (w : ℕ). IsTreeCell net order parents (slice_index labels w) (slice_index labels d) (slice_index_or (ports ++ more) (w * node_count net + d) None)) (sym e) cell
              | inr ne ↦
                  let lt : v < u = omega arith in
                  let place = mul-add-lt v (node_count net) d u lt d_in in
                  let at : get_or (ports ++ more) (v * node_count net + d) None ≡ get_or ports (v * node_count net + d) None =
                  get_or_append_left ports more None (v * node_count net + d) (omega arith) in
                  subst (λ (port : Option ℕ). IsTreeCell net order parents (slice_index labels v) (slice_index labels d) port) (sym at) (rows.each v d lt d_in)
            ];
      }

-- a row grows
pub cell_added : (net : Topology) (order parents : List ℕ) (a i : ℕ) (ports : List (Option ℕ)) (port : Option ℕ) → AreTreeCells net order parents a i ports
    → IsTreeCell net order parents a i port → AreTreeCells net order parents a (i + 1) (ports ++ port ∷ [])
cell_added net order parents a i ports port cells cell =
    let every = cells.every in
    let len = length_push ports port in
    record {
      every = omega arith;
      each = each_push (IsTreeCell net order parents a) ports port None i every cells.each cell;
    }

-- there are ports by place for each node
pub cells_of : (net : Topology) (ok : IsTopology net) (order parents : List ℕ) → IsDepthFirst (neighbors_of net) (node_count net) (slice_index order 0) order parents
    → (a : ℕ) → a < node_count net → (up : Option ℕ) → IsParentPort net order parents (slice_index order a) up
    → (count : ℕ) → count ≤ node_count net → (ports : List (Option ℕ)) × AreTreeCells net order parents a count ports
cells_of net ok order parents is a own up port zero h = ([], record { every = refl; each = λ i lt. absurd (omega (arith, lt)) })
cells_of net ok order parents is a own up port (suc count) h =
    let before = cells_of net ok order parents is a own up port count (omega arith) in
    let cell = cell_of net ok order parents is a own up port (suc count) count (omega arith) (omega arith) in
    let e : count + 1 ≡ suc count = omega arith in
    (before.0 ++ cell.0 ∷ [], subst (λ (k : ℕ). AreTreeCells net order parents a k (before.0 ++ cell.0 ∷ [])) e (cell_added net order parents a count before.0 cell.0 before.1 cell.1))

-- What a tree table holds at a node, by label.
use Rattle.std.proofs.Common.{◌≡◌, ◌≢◌, ℕ, suc, ◌<◌, List, [], ◌∷◌, length, refl, ap, sym, ◌∙◌, subst, inl, inr, arith, map, Option, Some, None}
use Rattle.std.specs.Prelude.{slice_index, All}
use Rattle.std.proofs.lemmas.Bool.{cases_eq}
use Rattle.std.proofs.lemmas.List.{get_or-map, length-map}
use Rattle.ir_model.specs.declared.Hop.{Hop}
use Rattle.ir_model.specs.Topology.{Topology, node_count, port_at, IsTopology}
use Rattle.ir_model.specs.Numbering.{neighbors_of, IsDepthFirst}
use Rattle.ir_model.specs.Subtree.{IsUnder, itself, child, IsNested, IsTreePorts}
use Rattle.ir_model.specs.Plan.{AreLabels}
use Rattle.ir_model.specs.Compiled.{port_to}
use Rattle.ir_model.specs.Tree.{IsTreeStep, LeadsInTree, IsTreePath, IsTreeTable}
use Rattle.ir_numbering.specs.Numbering.{IsPortTo}
use Rattle.ir_numbering.specs.Cells.{IsTreeCell, AreTreeCells}
use Rattle.ir_numbering.proofs.Nested.{depth_first_nests, under_above, parent_under, same_place, same_son}
use Rattle.ir_numbering.proofs.Ways.{under_through}
use Rattle.ir_numbering.proofs.CellPorts.{cell_ports}

module _ (net : Topology) (order parents labels : List ℕ) (root : ℕ)
    (is : IsDepthFirst (neighbors_of net) (node_count net) root order parents) (l : AreLabels (node_count net) order labels) where
  nest : IsNested (node_count net) parents
  nest = depth_first_nests (neighbors_of net) (node_count net) root order parents is

  same : (i j : ℕ) → i < node_count net → j < length order → slice_index order i ≡ slice_index order j → i ≡ j
  same i j h h' e = let every = is.every in same_place (neighbors_of net) (node_count net) root order parents is i j h (omega arith) e

  -- a path that meets the son k of a and not a again stays under k
  stays_in : (a k d : ℕ) → 0 < k → slice_index parents k ≡ a → (j i : ℕ) → j < node_count net → i < node_count net → IsUnder parents k j
      → (rest : List ℕ) → LeadsInTree order parents (slice_index order j) d rest → d ≡ slice_index order i → All (λ y. slice_index order a ≢ y) rest → IsUnder parents k i
  stays_in a k d from e j i h h' u [] path end off = let every = is.every in subst (IsUnder parents k) (same j i h (omega arith) (path ∙ end)) u
  stays_in a k d from e j i h h' u (y ∷ rest) path end off =
      elim path.0 [
        | inl up ↦
            -- y is the parent of j
            let m = up.0 in
            let here : j ≡ m = same j m h up.2 (sym up.3) in
            let m_from = up.1 in
            let every = is.every in
            let low = nest.lower j (omega arith) h in
            let y_is : slice_index order (slice_index parents j) ≡ y = ap (λ (x : ℕ). slice_index order (slice_index parents x)) here ∙ up.4 in
            elim (cases_eq j k) [
              | inl at ↦
                  let bad : slice_index order a ≡ y = ap (λ (x : ℕ). slice_index order x) (sym (ap (λ (x : ℕ). slice_index parents x) at ∙ e)) ∙ y_is in
                  absurd (off 0 y (omega arith) bad)
              | inr ne ↦
                  stays_in a k d from e (slice_index parents j) i (omega arith) h' (parent_under (node_count net) parents nest k u ne) rest
                  (subst (λ (x : ℕ). LeadsInTree order parents x d rest) (sym y_is) path.1) end (λ p q lt. off (suc p) q (omega arith))
            ]
        | inr down ↦
            -- j is the parent of y
            let m = down.0 in
            let m_in = down.2 in
            let every = is.every in
            let low = nest.lower m down.1 (omega arith) in
            let here : j ≡ slice_index parents m = same j (slice_index parents m) h (omega arith) (sym down.4) in
            stays_in a k d from e m i (omega arith) h' (child m down.1 (subst (IsUnder parents k) here u)) rest
            (subst (λ (x : ℕ). LeadsInTree order parents x d rest) (sym down.3) path.1) end (λ p q lt. off (suc p) q (omega arith))
      ]

  -- a path that is not under a and does not meet a stays outside
  stays_out : (a d : ℕ) → a < node_count net → (j i : ℕ) → j < node_count net → i < node_count net → (IsUnder parents a j → ⊥)
      → (rest : List ℕ) → LeadsInTree order parents (slice_index order j) d rest → d ≡ slice_index order i → All (λ y. slice_index order a ≢ y) rest → IsUnder parents a i → ⊥
  stays_out a d own j i h h' out [] path end off = let every = is.every in λ u. out (subst (IsUnder parents a) (sym (same j i h (omega arith) (path ∙ end))) u)
  stays_out a d own j i h h' out (y ∷ rest) path end off =
      elim path.0 [
        | inl up ↦
            let m = up.0 in
            let here : j ≡ m = same j m h up.2 (sym up.3) in
            let m_from = up.1 in
            let low = nest.lower j (omega arith) h in
            let y_is : slice_index order (slice_index parents j) ≡ y = ap (λ (x : ℕ). slice_index order (slice_index parents x)) here ∙ up.4 in
            stays_out a d own (slice_index parents j) i (omega arith) h' (λ u. out (child j (omega arith) u)) rest
            (subst (λ (x : ℕ). LeadsInTree order parents x d rest) (sym y_is) path.1) end (λ p q lt. off (suc p) q (omega arith))
        | inr down ↦
            let m = down.0 in
            let m_in = down.2 in
            let every = is.every in
            let low = nest.lower m down.1 (omega arith) in
            let here : j ≡ slice_index parents m = same j (slice_index parents m) h (omega arith) (sym down.4) in
            let ne : m ≢ a = λ e. off 0 y (omega arith) (ap (λ (x : ℕ). slice_index order x) (sym e) ∙ down.3) in
            stays_out a d own m i (omega arith) h' (λ u. out (subst (IsUnder parents a) (sym here) (parent_under (node_count net) parents nest a u ne))) rest
            (subst (λ (x : ℕ). LeadsInTree order parents x d rest) (sym down.3) path.1) end (λ p q lt. off (suc p) q (omega arith))
      ]

  module _ (table : ℕ → ℕ → Option ℕ) (tree : IsTreeTable net order parents table) where
    -- what a tree table holds, place by place
    pub tree_cell : (u d : ℕ) → u < node_count net → d < node_count net → IsTreeCell net order parents (slice_index labels u) (slice_index labels d) (table u d)
    tree_cell u d u_in d_in =
        elim (cases_eq u d) [
          | inl e ↦ own_is u u_in d e
          | inr ne ↦ other_is u d u_in d_in ne (tree.port u d u_in d_in ne)
        ]
      where
        own_is : (u : ℕ) → u < node_count net → (d : ℕ) → u ≡ d → IsTreeCell net order parents (slice_index labels u) (slice_index labels d) (table u d)
        own_is u u_in d e =
            let own = l.label u u_in in
            subst (λ (x : ℕ). IsTreeCell net order parents (slice_index labels u) (slice_index labels x) (table u x)) e (record {
              own = λ f. tree.own u u_in;
              son = λ c from h p v.
                  let low = nest.lower c from h in
                  let le = under_above (node_count net) parents nest c v own in
                  absurd (omega arith);
              father = λ off. absurd (off itself);
            })

        other_is : (u d : ℕ) → u < node_count net → d < node_count net → u ≢ d
            → (p : ℕ) × (hop : Hop) × (rest : List ℕ) × (table u d ≡ Some p) × (port_at net u p ≡ Some hop) × IsTreePath order parents u d (u ∷ hop.node ∷ rest)
            → IsTreeCell net order parents (slice_index labels u) (slice_index labels d) (table u d)
        other_is u d u_in d_in ne w =
            let own = l.label u u_in in
            let dest = l.label d d_in in
            let every = is.every in
            let is_u = l.there u u_in in
            let a = slice_index labels u in
            let i = slice_index labels d in
            let hop = w.1 in
            let apart = w.5.2 in
            let way = w.5.1 in
            let step : IsTreeStep order parents u hop.node = way.0 in
            let off : All (λ y. slice_index order a ≢ y) w.2 = λ k q lt e.
            apart 0 (suc (suc k)) q (omega arith) (omega arith) (sym is_u ∙ e) in
            let to : IsPortTo net (slice_index order a) w.0 hop.node = (hop, subst (λ (x : ℕ). port_at net x w.0 ≡ Some hop) (sym is_u) w.4, refl) in
            let not_own : i ≢ a = λ e. ne (sym is_u ∙ (ap (λ (x : ℕ). slice_index order x) (sym e) ∙ l.there d d_in)) in
            let end : d ≡ slice_index order i = sym (l.there d d_in) in
            elim step [
              | inl up ↦
                  let m = up.0 in
                  let m_from = up.1 in
                  let here : a ≡ m = same a m own up.2 (is_u ∙ sym up.3) in
                  let low = nest.lower a (omega arith) own in
                  let y_is : slice_index order (slice_index parents a) ≡ hop.node = ap (λ (x : ℕ). slice_index order (slice_index parents x)) here ∙ up.4 in
                  let outside : IsUnder parents a (slice_index parents a) → ⊥ = λ v. let le = under_above (node_count net) parents nest a v (omega arith) in omega arith in
                  let out : IsUnder parents a i → ⊥ = stays_out a d own (slice_index parents a) i (omega arith) dest outside w.2
                  (subst (λ (x : ℕ). LeadsInTree order parents x d w.2) (sym y_is) way.1) end off in
                  record {
                    own = λ e. absurd (not_own e);
                    son = λ c from h p v. absurd (out (under_through (node_count net) parents nest a c (child c from (subst (IsUnder parents a) (sym p) itself)) v));
                    father = λ f. (w.0, w.3, subst (λ (x : ℕ). IsPortTo net (slice_index order a) w.0 x) (sym y_is) to);
                  }
              | inr down ↦
                  let k = down.0 in
                  let k_in = down.2 in
                  let k_from = down.1 in
                  let low = nest.lower k down.1 (omega arith) in
                  let here : a ≡ slice_index parents k = same a (slice_index parents k) own (omega arith) (is_u ∙ sym down.4) in
                  let inside : IsUnder parents k i = stays_in a k d down.1 (sym here) k i (omega arith) dest itself w.2
                  (subst (λ (x : ℕ). LeadsInTree order parents x d w.2) (sym down.3) way.1) end off in
                  record {
                    own = λ e. absurd (not_own e);
                    son = λ c from h p v.
                        let one : k ≡ c = same_son (node_count net) parents nest k c a down.1 from (omega arith) h (sym here) p dest inside v in
                        (w.0, w.3, subst (λ (x : ℕ). IsPortTo net (slice_index order a) w.0 x) (sym down.3 ∙ ap (λ (x : ℕ). slice_index order x) one) to);
                    father = λ f. absurd (f (under_through (node_count net) parents nest a k (child k down.1 (subst (IsUnder parents a) here itself)) inside));
                  }
            ]

    module _ (ok : IsTopology net) (u : ℕ) (u_in : u < node_count net) where
      -- the port to a label
      pub port_read : (d : ℕ) → d < node_count net → port_to (map (table u) order) d ≡ table u (slice_index order d)
      port_read d h = let every = is.every in get_or-map (table u) order d 0 None (omega arith)

      -- the ports of a node by label
      table_cells : AreTreeCells net order parents (slice_index labels u) (node_count net) (map (table u) order)
      table_cells = record {
        every = length-map order (table u) ∙ is.every;
        each = λ d h.
            subst (λ (port : Option ℕ). IsTreeCell net order parents (slice_index labels u) d port) (sym (port_read d h))
            (subst (λ (x : ℕ). IsTreeCell net order parents (slice_index labels u) x (table u (slice_index order d))) (l.back d h)
            (tree_cell u (slice_index order d) u_in (l.node d h)));
      }

      pub tree_ports : (out : ℕ → ℕ) × (up : ℕ) × IsTreePorts (node_count net) (slice_index labels u) parents (map (table u) order) out up
          × ((c : ℕ) → 0 < c → c < node_count net → slice_index parents c ≡ slice_index labels u → IsPortTo net u (out c) (slice_index order c))
          × (0 < slice_index labels u → IsPortTo net u up (slice_index order (slice_index parents (slice_index labels u))))
      tree_ports =
          let here = l.there u u_in in
          let ports = cell_ports net ok order parents root is (slice_index labels u) (l.label u u_in) (map (table u) order) table_cells in (
            ports.0,
            ports.1,
            ports.2,
            λ c from h e. subst (λ (x : ℕ). IsPortTo net x (ports.0 c) (slice_index order c)) here (ports.3 c from h e),
            λ from. subst (λ (x : ℕ). IsPortTo net x ports.1 (slice_index order (slice_index parents (slice_index labels u)))) here (ports.4 from),
          )

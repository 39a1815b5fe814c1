-- How many starts the rows of a tree have together.
use Rattle.std.proofs.Common.{◌≡◌, ◌≢◌, ◌⊎◌, ℕ, ◌+◌, ◌-◌, ◌*◌, ◌<◌, ◌≤◌, ◌==◌, ◌&&◌, nat_lt, cond, List, [], length, get_or, refl, ap, sym, ◌∙◌, subst, inl, inr, arith, eq-eqb}
use Rattle.std.specs.Prelude.{◌↔◌, Contains, sum_by, slice_index, slice_index_or}
use Rattle.std.proofs.lemmas.Bool.{cases_eq, ne_eqb}
use Rattle.std.proofs.lemmas.Bool.Decides.{nat_tests}
use Rattle.std.proofs.lemmas.List.{length-map, take_all}
use Rattle.std.proofs.lemmas.List.Elements.{Contains-get_or}
use Rattle.ir_model.specs.Subtree.{IsUnder, itself, child, IsSubtree, IsNested}
use Rattle.ir_model.specs.Row.{Start, labels as start_labels, IsAscending}
use Rattle.ir_model.specs.Compiled.{label_after}
use Rattle.ir_model.specs.declared.Kind.TheVariants.{Tree}
use Rattle.ir_model.specs.Topology.{node_count}
use Rattle.ir_model.specs.Plan.{Plan, IsPlan, AreLabels, table_port, label_in, row_in, by_label}
use Rattle.ir_model.proofs.Rows.{rises}
use Rattle.ir_plan.specs.TreeRows.{subtree_end}
use Rattle.ir_numbering.proofs.Nested.{subtree_of}
use Rattle.ir_numbering.proofs.TreePorts.{tree_ports}
use Rattle.ir_numbering.proofs.TreeRow.{tree_row}
use Rattle.ir_plan.proofs.TreePlans.{end_outside, tree_of, nests}
use Rattle.ir_plan.proofs.Counting.{sum_to, sum_to_same, sum_to_both, sum_to_zero, sum_to_one, sum_to_swapped, sum_by_places, all_but_one, stands_in, stands_in_yes, stands_in_no, length_counted}

-- 1 where d is the place of a son of the place a
abbrev is_son : List ℕ → ℕ → ℕ → ℕ
is_son parents a d = cond (nat_lt 0 d && (slice_index parents d == a)) 1 0

-- 1 where d is the end of the subtree of a place that is not the first
abbrev is_end : ℕ → ℕ → ℕ → ℕ
is_end a e d = cond (nat_lt 0 a && (e == d)) 1 0

test_yes : (x p q : ℕ) → 0 < x → p ≡ q → cond {A = ℕ} (nat_lt 0 x && (p == q)) 1 0 ≡ 1
test_yes x p q from e = grind (arith, nat_tests)

test_no : (x p q : ℕ) → (x ≡ 0) ⊎ (p ≢ q) → cond {A = ℕ} (nat_lt 0 x && (p == q)) 1 0 ≡ 0
test_no x p q h = grind (arith, nat_tests)

test_cases : (x p q : ℕ) → ((0 < x) × (p ≡ q)) ⊎ ((x ≡ 0) ⊎ (p ≢ q))
test_cases x p q =
    elim (cases_eq x 0) [
      | inl z ↦ inr (inl z)
      | inr nz ↦ elim (cases_eq p q) [ inl e ↦ inl (omega arith, e) | inr ne ↦ inr (inr ne) ]
    ]

-- what is known of the row of the place a
pub record IsRowOfTree (n : ℕ) (parents : List ℕ) (a size : ℕ) (row : List Start) : Type 0 where
  pub place : a < n
  pub subtree : IsSubtree n parents a size
  pub ascending : IsAscending row
  pub starts : (d : ℕ) → Contains (start_labels row) d ↔ (((0 < d) × (d < n) × (slice_index parents d ≡ a)) ⊎ ((0 < a) × (d ≡ subtree_end n a size)))

-- the end of a subtree is a label
end_below : (n a size : ℕ) → a < n → 0 < size → a + size ≤ n → label_after n (a + size - 1) < n
end_below n a size own some within = grind (arith, nat_tests)

module _ (n : ℕ) (parents : List ℕ) (a size : ℕ) (row : List Start) (is : IsRowOfTree n parents a size row) where
  some : 0 < size
  some = let r = ((is.subtree.places a is.place).0 itself).1 in omega arith

  end_label : subtree_end n a size < n
  end_label = end_below n a size is.place some is.subtree.within

  -- no son is at the end
  son_inside : (d : ℕ) → 0 < d → d < n → slice_index parents d ≡ a → 0 < a → subtree_end n a size ≢ d
  son_inside d from label p above e =
      let under : IsUnder parents a d = child d from (subst (IsUnder parents a) (sym p) itself) in
      let r = (is.subtree.places d label).0 under in
      end_outside n a size d is.place above some is.subtree.within (sym e) r.0 r.1

  -- a label is a start once or not at all
  start_is : (d : ℕ) → d < n → stands_in (start_labels row) d ≡ is_son parents a d + is_end a (subtree_end n a size) d
  start_is d label =
      let e = subtree_end n a size in
      let p = slice_index parents d in
      let row_has = is.starts d in
      elim (test_cases d p a) [
        | inl son ↦ elim (test_cases a e d) [
          | inl end ↦ absurd (son_inside d son.0 label son.1 end.0 end.1)
          | inr no_end ↦
              let in_row = stands_in_yes (start_labels row) d (row_has.1 (inl (son.0, label, son.1))) in
              rw (in_row, test_yes d p a son.0 son.1, test_no a e d no_end) refl
        ]
        | inr no_son ↦ elim (test_cases a e d) [
          | inl end ↦
              let in_row = stands_in_yes (start_labels row) d (row_has.1 (inr (end.0, sym end.1))) in
              rw (in_row, test_no d p a no_son, test_yes a e d end.0 end.1) refl
          | inr no_end ↦
              let out : Contains (start_labels row) d → ⊥ = λ w. neither d no_son no_end (row_has.0 w) in
              rw (stands_in_no (start_labels row) d out, test_no d p a no_son, test_no a e d no_end) refl
        ]
      ]
    where
      neither : (d : ℕ) → (d ≡ 0) ⊎ (slice_index parents d ≢ a) → (a ≡ 0) ⊎ (subtree_end n a size ≢ d)
          → ((0 < d) × (d < n) × (slice_index parents d ≡ a)) ⊎ ((0 < a) × (d ≡ subtree_end n a size)) → ⊥
      neither d no_son no_end (inl son) = elim no_son [ inl z ↦ omega (arith, son.0) | inr ne ↦ ne son.2 ]
      neither d no_son no_end (inr end) = elim no_end [ inl z ↦ omega (arith, end.0) | inr ne ↦ ne (sym end.1) ]

  label_below : (k : ℕ) → k < length (start_labels row) → get_or (start_labels row) k 0 < n
  label_below k h =
      elim ((is.starts (get_or (start_labels row) k 0)).0 (Contains-get_or (start_labels row) k 0 h)) [
        | inl son ↦ son.1
        | inr end ↦ rw end.1 end_label
      ]

  -- the row has a start for each son, and one more but at the first place
  row_counted : length row ≡ sum_to (is_son parents a) n + cond (a == 0) 0 1
  row_counted =
      let e = subtree_end n a size in
      let ends : sum_to (is_end a e) n ≡ cond (a == 0) 0 1 =
      elim (cases_eq a 0) [
        | inl z ↦ rw (eq-eqb a 0 z) (sum_to_zero (is_end a e) n (λ d h. test_no a e d (inl z)))
        | inr nz ↦ rw (ne_eqb a 0 nz)
            (sum_to_one (is_end a e) n e end_label (λ i h ne. test_no a e i (inr (λ q. ne (sym q)))) ∙ test_yes a e e (omega arith) refl)
      ] in
      sym (length-map row (λ (s : Start). s.label))
      ∙ length_counted (start_labels row) n (λ i j lt h q. let r = rises (start_labels row) is.ascending i j lt h in omega arith) label_below
      ∙ sum_to_same (stands_in (start_labels row)) (λ d. is_son parents a d + is_end a e d) n start_is
      ∙ sum_to_both (is_son parents a) (is_end a e) n
      ∙ ap (λ (x : ℕ). sum_to (is_son parents a) n + x) ends

-- each place but the first is a son of one node
one_father : (n : ℕ) (parents order labels : List ℕ) → AreLabels n order labels → IsNested n parents → (d : ℕ) → d < n
    → sum_to (λ u. is_son parents (slice_index labels u) d) n ≡ cond (d == 0) 0 1
one_father n parents order labels named nest d h =
    elim (cases_eq d 0) [
      | inl z ↦ rw (eq-eqb d 0 z) (sum_to_zero (λ u. is_son parents (slice_index labels u) d) n (λ u l. test_no d (slice_index parents d) (slice_index labels u) (inl z)))
      | inr nz ↦
          let p = slice_index parents d in
          let lower = nest.lower d (omega arith) h in
          let k = slice_index order p in
          let at_k : p ≡ slice_index labels k = sym (named.back p (omega arith)) in
          let others : (u : ℕ) → u < n → u ≢ k → is_son parents (slice_index labels u) d ≡ 0 = λ u l ne.
          test_no d p (slice_index labels u) (inr (λ e. ne (sym (ap (slice_index order) e ∙ named.there u l)))) in
          rw (ne_eqb d 0 nz)
          (sum_to_one (λ u. is_son parents (slice_index labels u) d) n k (named.node p (omega arith)) others ∙ test_yes d p (slice_index labels k) (omega arith) at_k)
    ]

pub tree_starts : (n : ℕ) (parents order labels : List ℕ) (rows : List (List Start)) → 0 < n → AreLabels n order labels → IsNested n parents → length rows ≡ n
    → ((u : ℕ) → u < n → (size : ℕ) × IsRowOfTree n parents (slice_index labels u) size (slice_index_or rows u [])) → sum_by length rows ≡ 2 * (n - 1)
tree_starts n parents order labels rows some named nest every tree =
    let size_of : ℕ → ℕ = λ u. length (slice_index_or rows u []) in
    let sons_of : ℕ → ℕ = λ u. sum_to (is_son parents (slice_index labels u)) n in
    let last : ℕ → ℕ = λ u. cond (slice_index labels u == 0) 0 1 in
    let places : sum_by length rows ≡ sum_to size_of n =
    ap (λ (xs : List (List Start)). sum_by length xs) (sym (take_all n rows (omega arith))) ∙ sum_by_places (λ (row : List Start). length row) rows [] n (omega arith) in
    let counted = sum_to_same size_of (λ u. sons_of u + last u) n (λ u h. let t = tree u h in row_counted n parents (slice_index labels u) t.0 (slice_index_or rows u []) t.1) in
    let both = sum_to_both sons_of last n in
    let swapped = sum_to_swapped (λ u. is_son parents (slice_index labels u)) n n in
    let fathers = sum_to_same (λ d. sum_to (λ u. is_son parents (slice_index labels u) d) n) (λ d. cond (d == 0) 0 1) n (one_father n parents order labels named nest) in
    let but_first = all_but_one (λ d. d) n 0 some refl (λ i h ne. ne) in
    let but_root = all_but_one (slice_index labels) n (slice_index order 0) (named.node 0 some) (named.back 0 some)
    (λ u h ne z. ne (sym (named.there u h) ∙ ap (slice_index order) z)) in
    omega arith

-- all rows of a tree plan of n nodes have 2 (n - 1) starts
pub tree_plan_starts : (s : Plan) → IsPlan s → s.kind ≡ Tree → sum_by length s.rows ≡ 2 * (node_count s.topology - 1)
tree_plan_starts s is tree =
    let n = node_count s.topology in
    let root = is.root_in in
    let row : (u : ℕ) → u < n → (size : ℕ) × IsRowOfTree n is.parents (label_in s u) size (row_in s u) = λ u hu.
    let ports = tree_ports s.topology s.order is.parents s.labels s.root (is.numbering tree) is.labels (table_port s) (tree_of s is tree) is.topology u hu in
    let sub = subtree_of n is.parents (nests s is tree) (label_in s u) (is.labels.label u hu) in (
      sub.0,
      record {
        place = is.labels.label u hu;
        subtree = sub.1;
        ascending = (is.rows u hu).ascending;
        starts = tree_row n (label_in s u) sub.0 is.parents (nests s is tree) (is.labels.label u hu) sub.1 (by_label s u) ports.0 ports.1 ports.2 (row_in s u) (is.rows u hu);
      },
    ) in
    tree_starts n is.parents s.order s.labels s.rows (omega arith) is.labels (nests s is tree) is.row_of_each row

-- Subtrees and tree rows in words of nodes.
use Rattle.std.proofs.Common.{◌≡◌, ◌≢◌, ℕ, ◌+◌, ◌-◌, ◌<◌, ◌≤◌, List, refl, ap, sym, ◌∙◌, subst, inl, inr, ◌⊎◌, arith, map}
use Rattle.std.specs.Prelude.{slice_index, ◌↔◌}
use Rattle.std.proofs.lemmas.Bool.{cases_lt, cases_eq}
use Rattle.ir_model.specs.Topology.{node_count}
use Rattle.ir_model.specs.Numbering.{IsDepthFirst, neighbors_of}
use Rattle.ir_model.specs.Interval.{InInterval}
use Rattle.ir_model.specs.Subtree.{IsUnder, itself, child, IsNested}
use Rattle.ir_model.specs.Plan.{AreLabels}
use Rattle.ir_model.specs.Tree.{IsParent}
use Rattle.ir_numbering.specs.Laws.{IsBelow, at, from_parent, end_label, SubtreesAreIntervals, OthersAreAnInterval, TreeRowsStartAtSons}
use Rattle.ir_numbering.proofs.Nested.{depth_first_nests}
use Rattle.ir_numbering.proofs.TreePorts.{tree_ports}
use Rattle.ir_numbering.proofs.TreeRow.{after_cases, tree_row}

-- where a run of labels ends, in cyclic order
end_cases : (n a size : ℕ) → a + size ≤ n → 0 < size → ((end_label n a size ≡ a + size) × (a + size < n)) ⊎ ((end_label n a size ≡ 0) × (a + size ≡ n))
end_cases n a size fits some =
    elim (after_cases n (a + size - 1) (omega arith)) [
      | inl c ↦ let e = c.1 in let h = c.0 in inl (omega arith, omega arith)
      | inr c ↦ let e = c.1 in let h = c.0 in inr (e, omega arith)
    ]

run_is_interval : (n a size i b : ℕ) → i < n → 0 < size → ((b ≡ a + size) × (a + size < n)) ⊎ ((b ≡ 0) × (a + size ≡ n))
    → ((a ≤ i) × (i < a + size)) ↔ InInterval n a b i
run_is_interval n a size i b h some end =
    elim end [
      | inl c ↦
          let e = c.0 in (
            λ w. let low = w.0 in let high = w.1 in inl (omega arith, low, omega arith),
            λ w. elim w [ inl x ↦ let y = x.2 in (x.1, omega arith) | inr x ↦ let y = x.0 in absurd (omega arith) ],
          )
      | inr c ↦
          let e = c.0 in
          let f = c.1 in (
            λ w. let low = w.0 in inr (omega arith, inl (low, h)),
            λ w. elim w [ inl x ↦ let y = x.0 in absurd (omega arith) | inr x ↦ elim x.1 [ inl y ↦ (y.0, omega arith) | inr y ↦ absurd (omega arith) ] ],
          )
    ]

rest_is_interval : (n a size i b : ℕ) → i < n → 0 < a → 0 < size → ((b ≡ a + size) × (a + size < n)) ⊎ ((b ≡ 0) × (a + size ≡ n))
    → (((a ≤ i) × (i < a + size)) → ⊥) ↔ InInterval n b a i
rest_is_interval n a size i b h from some end =
    elim end [
      | inl c ↦
          let e = c.0 in (
            λ off. elim (cases_lt i a) [
              | inl lt ↦ inr (omega arith, inr lt)
              | inr ge ↦ elim (cases_lt i (a + size)) [ inl lt ↦ absurd (off (ge, lt)) | inr past ↦ inr (omega arith, inl (omega arith, h)) ]
            ],
            λ w r. let low = r.0 in let high = r.1 in
                elim w [ inl x ↦ let y = x.0 in omega arith | inr x ↦ elim x.1 [ inl y ↦ let z = y.0 in omega arith | inr y ↦ omega arith ] ],
          )
      | inr c ↦
          let e = c.0 in
          let f = c.1 in (
            λ off. elim (cases_lt i a) [ inl lt ↦ inl (omega arith, omega arith, lt) | inr ge ↦ absurd (off (ge, omega arith)) ],
            λ w r. let low = r.0 in
                elim w [ inl x ↦ let y = x.2 in omega arith | inr x ↦ let y = x.0 in omega arith ],
          )
    ]

module _ (adjacent : ℕ → List ℕ) (n root : ℕ) (order parents numbers : List ℕ) (is : IsDepthFirst adjacent n root order parents) (l : AreLabels n order numbers) where
  nest : IsNested n parents
  nest = depth_first_nests adjacent n root order parents is

  -- the label of a node at a place
  parent_label : (v w : ℕ) → (p : IsParent order parents v w) → (slice_index numbers v ≡ p.0) × (slice_index numbers w ≡ slice_index parents p.0)
  parent_label v w p =
      let every = is.every in
      let h = p.2 in
      let low = nest.lower p.0 p.1 (omega arith) in (
        ap (λ (x : ℕ). slice_index numbers x) (sym p.3) ∙ l.back p.0 (omega arith),
        ap (λ (x : ℕ). slice_index numbers x) (sym p.4) ∙ l.back (slice_index parents p.0) (omega arith),
      )

  below_under : (u : ℕ) {v : ℕ} → IsBelow order parents u v → IsUnder parents (slice_index numbers u) (slice_index numbers v)
  below_under u at = itself
  below_under u (from_parent v w p b) =
      let e = parent_label v w p in
      subst (IsUnder parents (slice_index numbers u)) (sym e.0) (child p.0 p.1 (subst (IsUnder parents (slice_index numbers u)) e.1 (below_under u b)))

  under_below : (a : ℕ) {i : ℕ} → IsUnder parents a i → i < n → IsBelow order parents (slice_index order a) (slice_index order i)
  under_below a itself h = at
  under_below a (child i from u) h =
      let every = is.every in
      let low = nest.lower i from h in
      from_parent (slice_index order i) (slice_index order (slice_index parents i)) (i, from, omega arith, refl, refl) (under_below a u (omega arith))

  below_is : (u v : ℕ) → u < n → v < n → IsBelow order parents u v ↔ IsUnder parents (slice_index numbers u) (slice_index numbers v)
  below_is u v u_in v_in = (
    below_under u,
    λ w. subst (λ (x : ℕ). IsBelow order parents u x) (l.there v v_in)
        (subst (λ (x : ℕ). IsBelow order parents x (slice_index order (slice_index numbers v))) (l.there u u_in) (under_below (slice_index numbers u) w (l.label v v_in))),
  )

  not_root : (u : ℕ) → u < n → u ≢ root → 0 < slice_index numbers u
  not_root u u_in ne =
      elim (cases_eq (slice_index numbers u) 0) [
        | inl e ↦ absurd (ne (sym (l.there u u_in) ∙ (ap (λ (x : ℕ). slice_index order x) e ∙ is.root_first)))
        | inr nz ↦ omega arith
      ]

  no_root : (u : ℕ) → u < n → 0 < slice_index numbers u → u ≢ root
  no_root u u_in from e =
      let zero_is : slice_index numbers u ≡ 0 = ap (λ (x : ℕ). slice_index numbers x) (e ∙ sym is.root_first) ∙ l.back 0 (omega arith) in
      omega arith

pub subtrees_are : SubtreesAreIntervals
subtrees_are adjacent n root u v size order parents numbers is l u_in v_in sub =
    let a = slice_index numbers u in
    let i = slice_index numbers v in
    let some : a < a + size = ((sub.places a (l.label u u_in)).0 itself).1 in
    let b = below_is adjacent n root order parents numbers is l u v u_in v_in in
    let r = run_is_interval n a size i (end_label n a size) (l.label v v_in) (omega arith) (end_cases n a size sub.within (omega arith)) in
    let p = sub.places i (l.label v v_in) in
    (λ w. r.0 (p.0 (b.0 w)), λ w. b.1 (p.1 (r.1 w)))

pub others_are : OthersAreAnInterval
others_are adjacent n root u v size order parents numbers is l u_in v_in ne sub =
    let a = slice_index numbers u in
    let i = slice_index numbers v in
    let some : a < a + size = ((sub.places a (l.label u u_in)).0 itself).1 in
    let from = not_root adjacent n root order parents numbers is l u u_in ne in
    let b = below_is adjacent n root order parents numbers is l u v u_in v_in in
    let r = rest_is_interval n a size i (end_label n a size) (l.label v v_in) from (omega arith) (end_cases n a size sub.within (omega arith)) in
    let p = sub.places i (l.label v v_in) in
    (λ off. r.0 (λ w. off (b.1 (p.1 w))), λ w x. r.1 w (p.0 (b.0 x)))

pub tree_rows_start : TreeRowsStartAtSons
tree_rows_start net root u size order parents numbers table row ok is l tree u_in sub canon d =
    let n = node_count net in
    let a = slice_index numbers u in
    let every = is.every in
    let nested = depth_first_nests (neighbors_of net) n root order parents is in
    let ports = tree_ports net order parents numbers root is l table tree ok u u_in in
    let starts = tree_row n a size parents nested (l.label u u_in) sub (map (table u) order) ports.0 ports.1 ports.2 row canon d in (
      λ w. elim (starts.0 w) [
        | inl s ↦
            let h = s.1 in
            inl (slice_index order d, (d, s.0, omega arith, refl, ap (λ (x : ℕ). slice_index order x) s.2 ∙ l.there u u_in), sym (l.back d s.1))
        | inr e ↦ inr (no_root (neighbors_of net) n root order parents numbers is l u u_in e.0, e.1)
      ],
      λ w. starts.1 (elim w [
        | inl s ↦
            let p = s.1 in
            let e = parent_label (neighbors_of net) n root order parents numbers is l s.0 u p in
            let here : d ≡ p.0 = s.2 ∙ e.0 in
            let from = p.1 in
            let h = p.2 in
            inl (omega arith, omega arith, ap (λ (x : ℕ). slice_index parents x) here ∙ sym e.1)
        | inr e ↦ inr (not_root (neighbors_of net) n root order parents numbers is l u u_in e.0, e.1)
      ]),
    )

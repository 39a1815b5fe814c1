-- Subtrees are runs of places.
use Rattle.std.proofs.Common.{◌≡◌, ◌≢◌, ℕ, zero, suc, ◌+◌, ◌-◌, ◌<◌, ◌≤◌, List, length, get_or, take, refl, sym, ◌∙◌, subst, inl, inr, ◌⊎◌, arith}
use Rattle.std.specs.Prelude.{Contains, slice_index}
use Rattle.std.proofs.lemmas.Bool.{cases_lt, cases_eq}
use Rattle.std.proofs.lemmas.List.{get_or-take, length-take-le}
use Rattle.ir_model.specs.Numbering.{NoneOutside, IsDepthFirst}
use Rattle.ir_model.specs.Subtree.{IsUnder, itself, child, IsSubtree, IsNested}

longer_take : (xs : List ℕ) (k i x : ℕ) → k ≤ i → i ≤ length xs → Contains (take k xs) x → Contains (take i xs) x
longer_take xs k i x h inside w =
    let len = length-take-le k xs (omega arith) in
    let len' = length-take-le i xs inside in
    let at : w.0 < k = omega (arith, w.1) in
    (w.0, omega arith, get_or-take i xs w.0 x (omega arith) ∙ sym (get_or-take k xs w.0 x at) ∙ w.2)

module _ (adjacent : ℕ → List ℕ) (n root : ℕ) (order parents : List ℕ) (d : IsDepthFirst adjacent n root order parents) where
  parent_lower : (i : ℕ) → 0 < i → i < n → slice_index parents i < i
  parent_lower i from label =
      let e = d.every in
      let len = length-take-le i order (omega arith) in
      let b = (d.next i from label).below in
      omega arith

  parent_nested : (i k : ℕ) → slice_index parents i < k → k < i → i < n → slice_index parents i ≤ slice_index parents k
  parent_nested i k above lt label =
      let every = d.every in
      let later = d.next i (omega arith) label in
      let sooner = d.next k (omega arith) (omega arith) in
      let j = slice_index parents i in
      let len = length-take-le k order (omega arith) in
      let f = later.neighbor in
      elim (cases_lt (slice_index parents k) j) [
        | inr ge ↦ ge
        | inl lower ↦
            let same : get_or (take k order) j 0 ≡ get_or (take i order) j 0 = get_or-take k order j 0 above ∙ sym (get_or-take i order j 0 (omega arith)) in
            let none : NoneOutside (take k order) (adjacent (get_or (take i order) j 0)) =
            subst (λ (v : ℕ). NoneOutside (take k order) (adjacent v)) same (sooner.greatest j lower (omega arith)) in
            let seen : Contains (take k order) (get_or order i 0) = subst (Contains (take k order)) f.is (none f.port f.below) in
            absurd (f.outside (longer_take order k i (get_or order i 0) (omega arith) (omega arith) seen))
      ]

  pub depth_first_nests : IsNested n parents
  depth_first_nests = record { lower = parent_lower; nested = parent_nested }

module _ (n : ℕ) (parents : List ℕ) (nest : IsNested n parents) (a : ℕ) where
  pub under_above : {i : ℕ} → IsUnder parents a i → i < n → a ≤ i
  under_above itself h = omega arith
  under_above (child i from u) h = let l = nest.lower i from h in let r = under_above u (omega arith) in omega arith

  -- what is between a place and its parent is under what the parent is under
  between : (fuel k j i : ℕ) → k ≤ fuel → j < k → k < i → i < n → slice_index parents i ≡ j → IsUnder parents a j → IsUnder parents a k
  between zero k j i f lt lt' h e u = absurd (omega arith)
  between (suc fuel) k j i f lt lt' h e u =
      let p = nest.nested i k (omega arith) lt' h in
      let l = nest.lower k (omega arith) (omega arith) in
      elim (cases_eq (slice_index parents k) j) [
        | inl same ↦ child k (omega arith) (subst (IsUnder parents a) (sym same) u)
        | inr ne ↦ child k (omega arith) (between fuel (slice_index parents k) j i (omega arith) (omega arith) (omega arith) h e u)
      ]

  -- a subtree leaves no place out
  pub under_run : {i : ℕ} → IsUnder parents a i → i < n → (k : ℕ) → a ≤ k → k ≤ i → IsUnder parents a k
  under_run itself h k from to = let e : a ≡ k = omega arith in subst (IsUnder parents a) e itself
  under_run (child i from u) h k low high =
      let l = nest.lower i from h in
      elim (cases_eq k i) [
        | inl e ↦ subst (IsUnder parents a) (sym e) (child i from u)
        | inr ne ↦
            elim (cases_lt (slice_index parents i) k) [
              | inl above ↦ between k k (slice_index parents i) i (omega arith) above (omega arith) h refl u
              | inr within ↦ under_run u (omega arith) k low within
            ]
      ]

  -- what follows a place as long as parents are not before it is under it
  under_from : (fuel i end : ℕ) → i ≤ fuel → a ≤ i → i < end → end ≤ n → ((k : ℕ) → a < k → k < end → a ≤ slice_index parents k) → IsUnder parents a i
  under_from zero i end f low high h all = let e : a ≡ i = omega arith in subst (IsUnder parents a) e itself
  under_from (suc fuel) i end f low high h all =
      elim (cases_eq a i) [
        | inl e ↦ subst (IsUnder parents a) e itself
        | inr ne ↦
            let l = nest.lower i (omega arith) (omega arith) in
            let p = all i (omega arith) high in
            child i (omega arith) (under_from fuel (slice_index parents i) end (omega arith) p (omega arith) h all)
      ]

  not_under : {e : ℕ} → IsUnder parents a e → a < e → slice_index parents e < a → e < n → ⊥
  not_under itself lt out h = omega arith
  not_under (child e from u) lt out h = let l = nest.lower e from h in let r = under_above u (omega arith) in omega arith

  -- the subtree ends where a parent is before the place
  pub subtree_ends : (end : ℕ) → a < end → end ≤ n → ((k : ℕ) → a < k → k < end → a ≤ slice_index parents k) → (end < n → slice_index parents end < a) → IsSubtree n parents a (end - a)
  subtree_ends end from to all last = record {
    within = omega arith;
    places = λ i label. (
      λ u. elim (cases_lt i end) [
        | inl lt ↦ (under_above u label, omega arith)
        | inr ge ↦ absurd (not_under (under_run u label end (omega arith) ge) from (last (omega arith)) (omega arith))
      ],
      λ h. under_from i i end (omega arith) h.0 (omega (arith, h.1)) to all,
    );
  }

  -- what is under a place and not that place is under one of its sons
  pub son_above : {d : ℕ} → IsUnder parents a d → d < n → d ≢ a → (c : ℕ) × (0 < c) × (slice_index parents c ≡ a) × (c < n) × IsUnder parents c d
  son_above itself h ne = absurd (ne refl)
  son_above (child d from u) h ne =
      let l = nest.lower d from h in
      elim (cases_eq (slice_index parents d) a) [
        | inl e ↦ (d, from, e, h, itself)
        | inr other ↦
            let w = son_above u (omega arith) other in
            (w.0, w.1, w.2, w.3, child d from w.4)
      ]

  -- all places are under the first
  pub all_under : a ≡ 0 → (fuel d : ℕ) → d ≤ fuel → d < n → IsUnder parents a d
  all_under e zero d f h = let z : a ≡ d = omega arith in subst (IsUnder parents a) z itself
  all_under e (suc fuel) d f h =
      elim (cases_eq d 0) [
        | inl z ↦ let y : a ≡ d = omega arith in subst (IsUnder parents a) y itself
        | inr nz ↦ let l = nest.lower d (omega arith) h in child d (omega arith) (all_under e fuel (slice_index parents d) (omega arith) (omega arith))
      ]

  pub outside_means : (d : ℕ) → d < n → (IsUnder parents a d → ⊥) → 0 < a
  outside_means d h out = elim (cases_eq a 0) [ inl z ↦ absurd (out (all_under z d d (omega arith) h)) | inr nz ↦ omega arith ]

  -- a place above another, and not that place, is above its parent
  pub parent_under : {d : ℕ} → IsUnder parents a d → d ≢ a → IsUnder parents a (slice_index parents d)
  parent_under itself ne = absurd (ne refl)
  parent_under (child d from u) ne = u

  -- the parents of the places of a subtree, but of the first, are in it
  pub parents_inside : (size : ℕ) → IsSubtree n parents a size → (k : ℕ) → a < k → k < a + size → a ≤ slice_index parents k
  parents_inside size sub k from to =
      let within = sub.within in
      let u = (sub.places k (omega arith)).1 (omega arith, to) in
      let low = nest.lower k (omega arith) (omega arith) in
      under_above (parent_under u (omega arith)) (omega arith)

  pub under_cases : (fuel d : ℕ) → d ≤ fuel → d < n → IsUnder parents a d ⊎ (IsUnder parents a d → ⊥)
  under_cases zero d f h =
      elim (cases_eq d a) [
        | inl e ↦ inl (subst (IsUnder parents a) (sym e) itself)
        | inr ne ↦ inr (λ u. let r = under_above u h in omega arith)
      ]
  under_cases (suc fuel) d f h =
      elim (cases_eq d a) [
        | inl e ↦ inl (subst (IsUnder parents a) (sym e) itself)
        | inr ne ↦
            elim (cases_eq d 0) [
              | inl z ↦ inr (λ u. let r = under_above u h in omega arith)
              | inr nz ↦
                  let l = nest.lower d (omega arith) h in
                  elim (under_cases fuel (slice_index parents d) (omega arith) (omega arith)) [
                    | inl u ↦ inl (child d (omega arith) u)
                    | inr off ↦ inr (λ u. off (parent_under u ne))
                  ]
            ]
      ]

-- different places have different nodes
pub same_place : (adjacent : ℕ → List ℕ) (n root : ℕ) (order parents : List ℕ) → IsDepthFirst adjacent n root order parents
    → (i j : ℕ) → i < n → j < n → slice_index order i ≡ slice_index order j → i ≡ j
same_place adjacent n root order parents d i j h h' e =
    let every = d.every in
    elim (cases_lt i j) [
      | inl lt ↦ absurd (d.once i j 0 lt (omega arith) e)
      | inr ge ↦ elim (cases_lt j i) [ inl lt ↦ absurd (d.once j i 0 lt (omega arith) (sym e)) | inr le ↦ omega arith ]
    ]

-- two sons of a place that have a place under them are one
pub same_son : (n : ℕ) (parents : List ℕ) → IsNested n parents → (c e a : ℕ) → 0 < c → 0 < e → c < n → e < n → slice_index parents c ≡ a → slice_index parents e ≡ a
    → {i : ℕ} → i < n → IsUnder parents c i → IsUnder parents e i → c ≡ e
same_son n parents nest c e a from from' h h' is is' {i} label u v =
    let low = nest.lower c from h in
    let low' = nest.lower e from' h' in
    let le = under_above n parents nest c u label in
    let le' = under_above n parents nest e v label in
    elim (cases_lt c e) [
      | inl lt ↦
          let w = under_run n parents nest c u label e (omega arith) le' in
          let x = parent_under n parents nest c w (omega arith) in
          let y = under_above n parents nest c x (omega arith) in
          absurd (omega arith)
      | inr ge ↦
          elim (cases_lt e c) [
            | inl lt ↦
                let w = under_run n parents nest e v label c (omega arith) le in
                let x = parent_under n parents nest e w (omega arith) in
                let y = under_above n parents nest e x (omega arith) in
                absurd (omega arith)
            | inr le2 ↦ omega arith
          ]
    ]

-- the subtree of each place is a run of places
end_of : (n : ℕ) (parents : List ℕ) → IsNested n parents → (a fuel end : ℕ) → a < end → end ≤ n → n ≤ end + fuel
    → ((k : ℕ) → a < k → k < end → a ≤ slice_index parents k) → (size : ℕ) × IsSubtree n parents a size
end_of n parents nest a zero end from to f all = (end - a, subtree_ends n parents nest a end from to all (λ h. absurd (omega arith)))
end_of n parents nest a (suc fuel) end from to f all =
    elim (cases_lt (slice_index parents end) a) [
      | inl lt ↦ (end - a, subtree_ends n parents nest a end from to all (λ h. lt))
      | inr ge ↦
          elim (cases_eq end n) [
            | inl e ↦ (end - a, subtree_ends n parents nest a end from to all (λ h. absurd (omega arith)))
            | inr ne ↦
                end_of n parents nest a fuel (suc end) (omega arith) (omega arith) (omega arith)
                (λ k low high. elim (cases_eq k end) [ inl e ↦ subst (λ (x : ℕ). a ≤ slice_index parents x) (sym e) ge | inr ne2 ↦ all k low (omega arith) ])
          ]
    ]

pub subtree_of : (n : ℕ) (parents : List ℕ) → IsNested n parents → (a : ℕ) → a < n → (size : ℕ) × IsSubtree n parents a size
subtree_of n parents nest a own = end_of n parents nest a n (suc a) (omega arith) (omega arith) (omega arith) (λ k low high. absurd (omega arith))

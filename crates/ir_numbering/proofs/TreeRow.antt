-- Where the starts of a node of a tree are.
use Rattle.std.proofs.Common.{◌≡◌, ◌≢◌, ℕ, ◌+◌, ◌-◌, ◌<◌, ◌≤◌, List, refl, ap, sym, ◌∙◌, subst, inl, inr, ◌⊎◌, arith, Option, Some}
use Rattle.std.specs.Prelude.{◌↔◌, Contains, slice_index}
use Rattle.std.proofs.lemmas.Bool.{cases_lt, cases_eq}
use Rattle.std.proofs.lemmas.Bool.Decides.{nat_tests}
use Rattle.ir_model.specs.Row.{Start, labels}
use Rattle.ir_model.specs.Compiled.{port_to, label_after, label_before, predecessor, IsChange, IsStart, IsCanonical}
use Rattle.ir_model.proofs.Round.{shown, shown_own, shown_other, option_cases}
use Rattle.ir_model.proofs.Fewest.{predecessor_is_label, predecessor_differs}
use Rattle.ir_model.specs.Subtree.{IsUnder, itself, child, IsSubtree, IsNested, IsTreePorts}
use Rattle.ir_numbering.proofs.Nested.{under_above, under_run, son_above, outside_means}

pub after_cases : (n d : ℕ) → d < n → ((d + 1 < n) × (label_after n d ≡ d + 1)) ⊎ ((d + 1 ≡ n) × (label_after n d ≡ 0))
after_cases n d h = grind (arith, nat_tests)

before_cases : (n d : ℕ) → d < n → ((0 < d) × (label_before n d + 1 ≡ d)) ⊎ ((d ≡ 0) × (label_before n d + 1 ≡ n))
before_cases n d h = grind (arith, nat_tests)

-- the predecessor of d is the label before it, or the one before the own label where that is the own
predecessor_cases : (n a d : ℕ) → ((label_before n d ≡ a) × (predecessor n a d ≡ label_before n a)) ⊎ ((label_before n d ≢ a) × (predecessor n a d ≡ label_before n d))
predecessor_cases n a d =
    elim (cases_eq (label_before n d) a) [
      | inl e ↦ inl (e, ap (shown n a) e ∙ shown_own n a)
      | inr ne ↦ inr (ne, shown_other n a (label_before n d) ne)
    ]

-- labels of one port have that port
one_port : (a b : Option ℕ) (x y : ℕ) → a ≡ b → a ≡ Some x → b ≡ Some y → x ≡ y
one_port a b x y e f g = cc

module _ (n a size : ℕ) (parents : List ℕ) (nest : IsNested n parents) (own : a < n) (sub : IsSubtree n parents a size) where
  own_under : a < a + size
  own_under = ((sub.places a own).0 itself).1

  module _ (ports : List (Option ℕ)) (out : ℕ → ℕ) (up : ℕ) (tree : IsTreePorts n a parents ports out up) where
    -- inside the subtree and not at a son the port does not change
    inside_quiet : (d : ℕ) → d < n → a < d → d < a + size → slice_index parents d ≢ a → IsChange n a ports d → ⊥
    inside_quiet d h low high ne change =
        let u = (sub.places d h).1 (omega arith, high) in
        let l = nest.lower d (omega arith) h in
        let w = son_above n parents nest a u h (omega arith) in
        let c = w.0 in
        let c_ne : c ≢ d = λ e. ne (subst (λ (x : ℕ). slice_index parents x ≡ a) e w.2) in
        let c_le = under_above n parents nest c w.4 h in
        let c_low = nest.lower c w.1 w.3 in
        let above : a < c = let p = w.2 in omega arith in
        let e : label_before n d + 1 ≡ d = grind (arith, before_cases n d h) in
        let before : predecessor n a d ≡ label_before n d = shown_other n a (label_before n d) (omega arith) in
        let under : IsUnder parents c (label_before n d) = under_run n parents nest c w.4 h (label_before n d) (omega arith) (omega arith) in
        change.2 (tree.sons c d w.1 w.2 h w.4 ∙ sym (tree.sons c (label_before n d) w.1 w.2 (omega arith) under) ∙ ap (port_to ports) (sym before))

    -- outside it the port changes only at its end
    outside_quiet : (d : ℕ) → d < n → (IsUnder parents a d → ⊥) → d ≢ label_after n (a + size - 1) → IsChange n a ports d → ⊥
    outside_quiet d h off ne change =
        let from = outside_means n parents nest a d h off in
        let s = own_under in
        let fits = sub.within in
        let p_label = predecessor_is_label n a d own h in
        let p_ne = predecessor_differs n a d own h (omega arith) in
        let d_out : (a ≤ d → d < a + size → ⊥) = λ l u. off ((sub.places d h).1 (l, u)) in
        let p_off : IsUnder parents a (predecessor n a d) → ⊥ = λ u.
        let r = (sub.places (predecessor n a d) p_label).0 u in
        let low = r.0 in
        let high = r.1 in
        elim (predecessor_cases n a d) [
          | inl at ↦ let i = at.1 in grind (arith, before_cases n a own)
          | inr at ↦
              let i = at.1 in
              let end : a + size - 1 < n = omega arith in
              ne (grind (arith, before_cases n d h, after_cases n (a + size - 1) end))
        ] in
        change.2 (tree.father d h off ∙ sym (tree.father (predecessor n a d) p_label p_off))

    under_or : (d : ℕ) → d < n → IsUnder parents a d ⊎ (IsUnder parents a d → ⊥)
    under_or d h =
        elim (cases_lt d a) [
          | inl l ↦ inr (λ u. let r = (sub.places d h).0 u in omega arith)
          | inr low ↦
              elim (cases_lt d (a + size)) [
                | inl high ↦ inl ((sub.places d h).1 (low, high))
                | inr g ↦ inr (λ u. let r = (sub.places d h).0 u in omega arith)
              ]
        ]

    parent_above : {d : ℕ} → IsUnder parents a d → d < n → d ≢ a → a ≤ slice_index parents d
    parent_above itself h ne = absurd (ne refl)
    parent_above (child d from u) h ne = let l = nest.lower d from h in under_above n parents nest a u (omega arith)

    -- each start is a son's label or the end of the subtree
    tree_start_is : (d : ℕ) → IsStart n a ports d → ((0 < d) × (d < n) × (slice_index parents d ≡ a)) ⊎ ((0 < a) × (d ≡ label_after n (a + size - 1)))
    tree_start_is d s =
        let size1 = own_under in
        let fits = sub.within in
        elim s [
          | inl ch ↦
              let label = ch.0 in
              let ne = ch.1 in
              elim (under_or d label) [
                | inl u ↦
                    let r = (sub.places d label).0 u in
                    elim (cases_eq (slice_index parents d) a) [
                      | inl e ↦ inl (omega arith, label, e)
                      | inr other ↦ absurd (inside_quiet d label (omega arith) r.1 other ch)
                    ]
                | inr off ↦
                    elim (cases_eq d (label_after n (a + size - 1))) [
                      | inl e ↦ inr (outside_means n parents nest a d label off, e)
                      | inr other ↦ absurd (outside_quiet d label off other ch)
                    ]
              ]
          | inr al ↦
              let label = al.0 in
              let ne = al.1 in
              let e = al.2 in
              elim (under_or d label) [
                | inl u ↦
                    let r = (sub.places d label).0 u in
                    let p = parent_above u label ne in
                    let l = nest.lower d (omega arith) label in
                    let next : d ≡ a + 1 = grind (arith, after_cases n a own) in
                    inl (omega arith, label, omega arith)
                | inr off ↦
                    let out_range : (a ≤ d → d < a + size → ⊥) = λ l u. off ((sub.places d label).1 (l, u)) in
                    let one : a ≡ a + size - 1 = grind (arith, after_cases n a own) in
                    inr (outside_means n parents nest a d label off, subst (λ (x : ℕ). d ≡ label_after n x) one e)
              ]
        ]

    -- a son's label is a start
    son_starts : (d : ℕ) → 0 < d → d < n → slice_index parents d ≡ a → IsStart n a ports d
    son_starts d from label e =
        let l = nest.lower d from label in
        let ne : d ≢ a = omega arith in
        let p = predecessor n a d in
        let p_label = predecessor_is_label n a d own label in
        let p_ne = predecessor_differs n a d own label (omega arith) in
        let port = tree.sons d d from e label itself in
        elim (option_cases (port_to ports d) (port_to ports p)) [
          | inr differ ↦ inl (label, ne, differ)
          | inl same ↦
              elim (under_or p p_label) [
                | inr off ↦ absurd (tree.not_up d from e label (one_port (port_to ports d) (port_to ports p) (out d) up same port (tree.father p p_label off)))
                | inl u ↦
                    let w = son_above n parents nest a u p_label p_ne in
                    let is : w.0 ≡ d = tree.apart w.0 d w.1 from w.2 e w.3 label (sym {b = out w.0} (one_port (port_to ports d) (port_to ports p) (out d) (out w.0) same port (tree.sons w.0 p w.1 w.2 p_label w.4))) in
                    let v : IsUnder parents d p = subst (λ (c : ℕ). IsUnder parents c p) is w.4 in
                    let above = under_above n parents nest d v p_label in
                    elim (predecessor_cases n a d) [
                      | inr at ↦ let i = at.1 in absurd (grind (arith, before_cases n d label))
                      | inl at ↦
                          let i = at.1 in
                          let j = at.0 in
                          let first : a ≡ 0 = grind (arith, before_cases n a own) in
                          let last : p + 1 ≡ n = grind (arith, before_cases n a own) in
                          let one : d ≡ 1 = grind (arith, before_cases n d label) in
                          let all : (c : ℕ) → c < n → c ≢ a → port_to ports c ≡ Some (out d) = λ c h other.
                          tree.sons d c from e h (under_run n parents nest d v p_label c (omega arith) (omega arith)) in
                          let after : d ≡ label_after n a = grind (arith, after_cases n a own) in
                          inr (label, ne, after, λ c f ch fh cn fn. all c ch cn ∙ sym (all f fh fn))
                    ]
              ]
        ]

    -- the end of the subtree is a label of those that go to the father
    pub end_is_out : 0 < a → (label_after n (a + size - 1) < n) × (IsUnder parents a (label_after n (a + size - 1)) → ⊥)
    end_is_out from =
        let size1 = own_under in
        let fits = sub.within in
        let end : a + size - 1 < n = omega arith in
        let label : label_after n (a + size - 1) < n = grind (arith, after_cases n (a + size - 1) end) in (
          label,
          λ u. let r = (sub.places (label_after n (a + size - 1)) label).0 u in let low = r.0 in let high = r.1 in grind (arith, after_cases n (a + size - 1) end),
        )

    -- so is the end of the subtree, but at the root
    end_starts : (d : ℕ) → 0 < a → d ≡ label_after n (a + size - 1) → IsStart n a ports d
    end_starts d from e =
        let size1 = own_under in
        let fits = sub.within in
        let end : a + size - 1 < n = omega arith in
        let label : d < n = subst (λ (x : ℕ). x < n) (sym e) (end_is_out from).0 in
        let off : IsUnder parents a d → ⊥ = subst (λ (x : ℕ). IsUnder parents a x → ⊥) (sym e) (end_is_out from).1 in
        let ne : d ≢ a = λ f. off (subst (IsUnder parents a) (sym f) itself) in
        let p = predecessor n a d in
        let p_label = predecessor_is_label n a d own label in
        let p_ne = predecessor_differs n a d own label (omega arith) in
        let port = tree.father d label off in
        elim (option_cases (port_to ports d) (port_to ports p)) [
          | inr differ ↦ inl (label, ne, differ)
          | inl same ↦
              elim (under_or p p_label) [
                | inl u ↦
                    let w = son_above n parents nest a u p_label p_ne in
                    absurd (tree.not_up w.0 w.1 w.2 w.3 (sym {b = out w.0} (one_port (port_to ports d) (port_to ports p) up (out w.0) same port (tree.sons w.0 p w.1 w.2 p_label w.4))))
                | inr p_off ↦
                    let back : label_before n d ≡ a + size - 1 = grind (arith, after_cases n (a + size - 1) end, before_cases n d label) in
                    elim (predecessor_cases n a d) [
                      | inr at ↦ let i = at.1 in absurd (p_off ((sub.places p p_label).1 (omega arith, omega arith)))
                      | inl at ↦
                          let j = at.0 in
                          let one : a + size - 1 ≡ a = omega arith in
                          let all : (c : ℕ) → c < n → c ≢ a → port_to ports c ≡ Some up = λ c h other.
                          tree.father c h (λ u. let r = (sub.places c h).0 u in omega arith) in
                          inr (label, ne, subst (λ (x : ℕ). d ≡ label_after n x) one e, λ c f ch fh cn fn. all c ch cn ∙ sym (all f fh fn))
                    ]
              ]
        ]

    -- the starts of a node's row in a tree: its sons' labels, and the end of its subtree but at the root
    pub tree_starts : (d : ℕ) → IsStart n a ports d ↔ (((0 < d) × (d < n) × (slice_index parents d ≡ a)) ⊎ ((0 < a) × (d ≡ label_after n (a + size - 1))))
    tree_starts d = (tree_start_is d, λ s. elim s [ inl son ↦ son_starts d son.0 son.1 son.2 | inr end ↦ end_starts d end.0 end.1 ])

    pub tree_row : (row : List Start) → IsCanonical n a ports row → (d : ℕ)
        → Contains (labels row) d ↔ (((0 < d) × (d < n) × (slice_index parents d ≡ a)) ⊎ ((0 < a) × (d ≡ label_after n (a + size - 1))))
    tree_row row canon d = (λ w. (tree_starts d).0 ((canon.starts d).0 w), λ s. (canon.starts d).1 ((tree_starts d).1 s))

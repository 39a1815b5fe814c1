-- Rows of marks in which further marks stand.
use Rattle.std.proofs.Common.{◌≡◌, ◌⊎◌, ℕ, ◌+◌, ◌<◌, Bool, true, false, List, [], Option, Some, length, set, slice_index, slice_index_or, refl, ap, sym, ◌∙◌, subst, inl, inr, arith, length-set, get_or-set_same, get_or-set_other}
use Rattle.std.proofs.lemmas.Bool.{cases_eq, cases_lt}
use Rattle.std.proofs.lemmas.List.{get_or_past}
use Rattle.ir_figures.specs.Arcs.{width_of, IsArcMarked}
use Rattle.ir_figures.specs.Parts.{StandsAt, AreMarkedToo}
use Rattle.ir_figures.proofs.Onward.{mark_within}

-- a mark stands in one of the rows
pub marked_row : (rows : List (List Bool)) (a k : ℕ) → IsArcMarked rows a k → a < length rows
marked_row rows a k at = elim (cases_lt a (length rows)) [
  | inl l ↦ l
  | inr past ↦
      let none : length (slice_index_or rows a []) ≡ 0 = ap length (get_or_past rows a [] past) in
      absurd (omega (arith, mark_within (slice_index_or rows a []) k at, none))
]

-- a mark has one place
pub stands_once : (begins inner : List ℕ) (marks : List (List Bool)) (numbers : List (Option ℕ)) (a k c q d r : ℕ)
    → StandsAt begins inner marks numbers a k c q → StandsAt begins inner marks numbers a k d r → (d ≡ c) × (r ≡ q)
stands_once begins inner marks numbers a k c q d r one other =
    let row : d ≡ c = cc (one.row, other.row) in
    let target : slice_index begins c + q ≡ slice_index begins d + r = cc (one.target, other.target) in
    (row, omega (arith, target, ap (slice_index begins) row))

module _ (stands : ℕ → ℕ → ℕ → ℕ → Type 0) where
  pub too_none : (done : ℕ → ℕ → Type 0) (rows : List (List Bool)) → ((a k c q : ℕ) → done a k → stands a k c q → ⊥) → AreMarkedToo stands done rows rows
  too_none done rows none = record {
    every = refl;
    wide = λ c. refl;
    kept = λ c q at. at;
    too = λ a k c q d s. absurd (none a k c q d s);
    only = λ c q at. inl at;
  }

  pub too_more : (one other all : ℕ → ℕ → Type 0) (old rows new : List (List Bool)) → ((a k : ℕ) → all a k → one a k ⊎ other a k)
      → AreMarkedToo stands one old rows → AreMarkedToo stands other rows new → AreMarkedToo stands all old new
  too_more one other all old rows new split first second = record {
    every = second.every ∙ first.every;
    wide = λ c. second.wide c ∙ first.wide c;
    kept = λ c q at. second.kept c q (first.kept c q at);
    too = λ a k c q d s. elim (split a k d) [ inl o ↦ second.kept c q (first.too a k c q o s) | inr o ↦ second.too a k c q o s ];
    only = λ c q at. elim (second.only c q at) [ inl o ↦ first.only c q o | inr o ↦ inr o ];
  }

  pub too_less : (one other : ℕ → ℕ → Type 0) (old new : List (List Bool)) → ((a k : ℕ) → other a k → one a k) → AreMarkedToo stands one old new → AreMarkedToo stands other old new
  too_less one other old new less are = record {
    every = are.every;
    wide = are.wide;
    kept = are.kept;
    too = λ a k c q d s. are.too a k c q (less a k d) s;
    only = are.only;
  }

  -- a mark more
  pub too_one : (rows : List (List Bool)) (a k c q : ℕ) → c < length rows → q < width_of rows c → stands a k c q → ((d r : ℕ) → stands a k d r → (d ≡ c) × (r ≡ q))
      → AreMarkedToo stands (λ x y. (x ≡ a) × (y ≡ k)) rows (set rows c (set (slice_index_or rows c []) q true))
  too_one rows a k c q c_in q_in here once =
      let row : List Bool = slice_index_or rows c [] in
      let new : List (List Bool) = set rows c (set row q true) in
      let same : slice_index_or new c [] ≡ set row q true = get_or-set_same rows c (set row q true) [] c_in in
      let other : (x : ℕ) → (x ≡ c → ⊥) → slice_index_or new x [] ≡ slice_index_or rows x [] = λ x ne. get_or-set_other rows c x (set row q true) [] ne in
      let marked : IsArcMarked new c q = ap (λ (xs : List Bool). slice_index_or xs q false) same ∙ get_or-set_same row q true false q_in in
      let beside : (y : ℕ) → (y ≡ q → ⊥) → slice_index_or (slice_index_or new c []) y false ≡ slice_index_or row y false = λ y ne. ap (λ (xs : List Bool). slice_index_or xs y false) same ∙ get_or-set_other row q y true false ne in
      record {
        every = length-set rows c (set row q true);
        wide = λ x. elim (cases_eq x c) [
          | inl e ↦ ap (width_of new) e ∙ ap length same ∙ length-set row q true ∙ ap (width_of rows) (sym e)
          | inr ne ↦ ap length (other x ne)
        ];
        kept = λ x y at. elim (cases_eq x c) [
          | inl e ↦ elim (cases_eq y q) [
            | inl f ↦ subst (λ (z : ℕ). IsArcMarked new z y) (sym e) (subst (λ (z : ℕ). IsArcMarked new c z) (sym f) marked)
            | inr nf ↦ subst (λ (z : ℕ). IsArcMarked new z y) (sym e) (beside y nf ∙ subst (λ (z : ℕ). IsArcMarked rows z y) e at)
          ]
          | inr ne ↦ ap (λ (xs : List Bool). slice_index_or xs y false) (other x ne) ∙ at
        ];
        too = λ x y d r done s.
            let is = once d r (subst (λ (z : ℕ). stands z k d r) done.0 (subst (λ (z : ℕ). stands x z d r) done.1 s)) in
            subst (λ (z : ℕ). IsArcMarked new z r) (sym is.0) (subst (λ (z : ℕ). IsArcMarked new c z) (sym is.1) marked);
        only = λ x y at. elim (cases_eq x c) [
          | inl e ↦ elim (cases_eq y q) [
            | inl f ↦ inr (a, k, subst (λ (z : ℕ). stands a k z y) (sym e) (subst (λ (z : ℕ). stands a k c z) (sym f) here))
            | inr nf ↦ inl (subst (λ (z : ℕ). IsArcMarked rows z y) (sym e) (sym (beside y nf) ∙ subst (λ (z : ℕ). IsArcMarked new z y) e at))
          ]
          | inr ne ↦ inl (sym (ap (λ (xs : List Bool). slice_index_or xs y false) (other x ne)) ∙ at)
        ];
      }

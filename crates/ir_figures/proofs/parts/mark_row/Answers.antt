use Rattle.std.proofs.Common.{◌≡◌, ◌⊎◌, ◌∙◌, ◌+◌, ◌-◌, ◌<◌, ◌≤◌, ℕ, List, Bool, Option, None, Some, true, false, [], length, set, slice_index, slice_index_or, ap, sym, subst, inl, inr, arith}
use Rattle.std.specs.Global.{Vec}
use Rattle.std.proofs.lemmas.Bool.{cases_lt}
use Rattle.std.proofs.lemmas.List.{get_or_read, map-set}
use Rattle.ir_figures.specs.Arcs.{marks_of, width_of, IsArcMarked}
use Rattle.ir_figures.specs.Parts.{StandsAt, AreMarkedToo}
use Rattle.ir_figures.proofs.Marked.{stands_once, too_none, too_more, too_one}
use Rattle.ir_figures.proofs.Marks.{marks_len, marks_at}
use Rattle.ir_figures.proofs.parts.mark_row.Goals.{then-row-k+in-Some, then-row-k+in_default, else-row-k}
use Rattle.ir_figures.proofs.parts.mark_row.Goals as goal

-- the place that comes next, or one that is done
next_place : (a k x y : ℕ) → (x ≡ a) × (y < k + 1) → ((x ≡ a) × (y < k)) ⊎ ((x ≡ a) × (y ≡ k))
next_place a k x y d = elim (cases_lt y k) [ inl lt ↦ inl (d.0, lt) | inr ge ↦ inr (d.0, omega (arith, ge, d.1)) ]

-- a place at which no mark stands
passed : (stands : ℕ → ℕ → ℕ → ℕ → Type 0) (a k : ℕ) (old rows : List (List Bool)) → ((c q : ℕ) → stands a k c q → ⊥)
    → AreMarkedToo stands (λ x y. (x ≡ a) × (y < k)) old rows → AreMarkedToo stands (λ x y. (x ≡ a) × (y < k + 1)) old rows
passed stands a k old rows none so_far =
    too_more stands (λ x y. (x ≡ a) × (y < k)) (λ x y. (x ≡ a) × (y ≡ k)) (λ x y. (x ≡ a) × (y < k + 1)) old rows rows (next_place a k) so_far
    (too_none stands (λ x y. (x ≡ a) × (y ≡ k)) rows (λ x y c q d s. none c q (subst (λ (z : ℕ). stands z k c q) d.0 (subst (λ (z : ℕ). stands x z c q) d.1 s))))

pub loop-k-preserved : goal.loop-k-preserved
loop-k-preserved c =
    let begins = c.args.begins.now in
    let inner = c.args.inner.now in
    let marks = marks_of c.args.marks.now in
    let numbers = c.args.numbers.now in
    let stands : ℕ → ℕ → ℕ → ℕ → Type 0 = StandsAt begins inner marks numbers in
    let old : List (List Bool) = marks_of c.args.rows.now.items in
    let rows : List (List Bool) = marks_of c.loop-k.rows.items in
    let a : ℕ = c.args.a in
    let k : ℕ = c.loop-k.k in
    let row_is : slice_index_or marks a [] ≡ c.as_slice-row.result.now = marks_at c.args.marks.now a c.index-marks-a.result c.requires.link c.index-marks-a.is ∙ sym c.as_slice-row.ensures.value in
    elim c.if-row-k.branch [
      | then-row-k+in-Some w ↦
          let d : ℕ = w.in-Some.d in
          let x : ℕ = c.args.c in
          let q : ℕ = d - slice_index begins x in
          let at : IsArcMarked marks a k = ap (λ (xs : List Bool). slice_index_or xs k false) row_is ∙ w.if-row-k.true in
          let there : slice_index_or numbers (slice_index inner a + k) None ≡ Some d = w.in-Some.is in
          let place = c.requires.places.place a k x d at c.requires.number there in
          let x_in : x < length rows = omega (arith, c.requires.places.row a x c.requires.number, c.loop-k.invariant.every) in
          let q_in : q < width_of rows x = omega (arith, place.0, place.1, c.loop-k.invariant.wide x) in
          let sum : d ≡ slice_index begins x + q = omega (arith, place.0) in
          let here : stands a k x q = record { marked = at; row = c.requires.number; target = there ∙ ap Some sum } in
          let read = get_or_read c.loop-k.rows.items x w.index_mut.result.now (omega (arith, x_in, marks_len c.loop-k.rows.items)) w.index_mut.ensures.value w.index_mut.result.now in
          let row : slice_index_or rows x [] ≡ w.index_mut.result.now.items = marks_at c.loop-k.rows.items x w.index_mut.result.now (omega (arith, x_in, marks_len c.loop-k.rows.items)) read in
          let new : marks_of c.if-row-k.rows.items ≡ set rows x (set (slice_index_or rows x []) q true) =
          ap (λ (v : Vec (Vec Bool)). marks_of v.items) w.rows-is ∙ map-set (λ (r : Vec Bool). r.items) c.loop-k.rows.items x w.mark.new.row
          ∙ ap (set rows x) (w.mark.ensures ∙ ap (λ (xs : List Bool). set xs q true) (sym row)) in
          let one = too_one stands rows a k x q x_in q_in here (λ y r s. stands_once begins inner marks numbers a k x q y r here s) in
          subst (AreMarkedToo stands (λ y z. (y ≡ a) × (z < k + 1)) old) (sym new)
          (too_more stands (λ y z. (y ≡ a) × (z < k)) (λ y z. (y ≡ a) × (z ≡ k)) (λ y z. (y ≡ a) × (z < k + 1)) old rows (set rows x (set (slice_index_or rows x []) q true)) (next_place a k) c.loop-k.invariant one)
      | then-row-k+in_default w ↦
          subst (λ (v : Vec (Vec Bool)). AreMarkedToo stands (λ y z. (y ≡ a) × (z < k + 1)) old (marks_of v.items)) (sym w.rows-is)
          (passed stands a k old rows (λ x q s. w.in_default.not-Some (slice_index begins x + q) s.target) c.loop-k.invariant)
      | else-row-k w ↦
          subst (λ (v : Vec (Vec Bool)). AreMarkedToo stands (λ y z. (y ≡ a) × (z < k + 1)) old (marks_of v.items)) (sym w.rows-is)
          (passed stands a k old rows (λ x q s. (let no : slice_index_or (slice_index_or marks a []) k false ≡ false = ap (λ (xs : List Bool). slice_index_or xs k false) row_is ∙ w.if-row-k.false in cc (no, s.marked))) c.loop-k.invariant)
    ]

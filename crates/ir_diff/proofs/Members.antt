-- The starts that a row has, with their nodes.
use Rattle.std.proofs.Common.{◌≡◌, ℕ, suc, ◌<◌, Bool, true, false, List, [], ◌∷◌, length, get_or, refl, ap, sym, subst, ◌∙◌, inl, inr, nat_eq, arith}
use Rattle.std.specs.Prelude.{◌&&◌, not}
use Rattle.std.specs.Cmp.{IsEquivalence}
use Rattle.std.proofs.lemmas.Cmp.{nat_eq_equiv}
use Rattle.std.proofs.lemmas.Bool.{and_from, and_parts, cases_order, eq-eqb, eqb-true, false≢true, not-true, or_cases}
use Rattle.std.proofs.lemmas.List.Folds.{list_any_at}
use Rattle.std.proofs.lemmas.Map.Made.{is_member-filter}
use Rattle.ir_diff.specs.declared.changes.Lead.{Lead}
use Rattle.ir_diff.specs.Changes.{lead_starts, AscendByStart, is_one_of, is_same, has_start, has_lead, removed_starts, put_leads}
use Rattle.ir_diff.proofs.Places.{none, start_at, length_starts, rises}

pub same_true : (a b : Lead) → is_same a b ≡ true → a ≡ b
same_true a b h =
    let parts = and_parts (nat_eq a.start b.start) (nat_eq a.node b.node) h in
    let lead : ℕ → ℕ → Lead = λ s n. record { start = s; node = n } in
    ap (λ s. lead s a.node) (eqb-true a.start b.start parts.0) ∙ ap (λ n. lead b.start n) (eqb-true a.node b.node parts.1)

pub same_equiv : IsEquivalence is_same
same_equiv = record {
  refl = λ x. and_from (nat_eq x.start x.start) (nat_eq x.node x.node) (eq-eqb x.start x.start refl) (eq-eqb x.node x.node refl);
  symm = λ x y. ap (λ (b : Bool). b && nat_eq x.node y.node) (nat_eq_equiv.symm x.start y.start) ∙ ap (λ (b : Bool). nat_eq y.start x.start && b) (nat_eq_equiv.symm x.node y.node);
  congr = λ x y z e. ap (λ (w : Lead). is_same w z) (same_true x y e);
}

pub lead_place : (row : List Lead) (m : Lead) → has_lead row m ≡ true → (k : ℕ) × (k < length row) × (get_or row k none ≡ m)
lead_place [] m h = absurd (false≢true h)
lead_place (x ∷ row) m h =
    elim (or_cases (is_same m x) (has_lead row m) h) [
      | inl e ↦ (0, omega arith, sym (same_true m x e))
      | inr e ↦ let r = lead_place row m e in (suc r.0, omega (arith, r.1), r.2)
    ]

pub place_lead : (row : List Lead) (k : ℕ) (d : Lead) → k < length row → has_lead row (get_or row k d) ≡ true
place_lead row k d h = list_any_at (is_same (get_or row k d)) row k d h (same_equiv.refl (get_or row k d))

pub start_place : (row : List Lead) (s : ℕ) → has_start row s ≡ true → (k : ℕ) × (k < length row) × ((get_or row k none).start ≡ s)
start_place [] s h = absurd (false≢true h)
start_place (x ∷ row) s h =
    elim (or_cases (nat_eq s x.start) (has_start row s) h) [
      | inl e ↦ (0, omega arith, sym (eqb-true s x.start e))
      | inr e ↦ let r = start_place row s e in (suc r.0, omega (arith, r.1), r.2)
    ]

pub place_start : (row : List Lead) (k : ℕ) (d : Lead) → k < length row → has_start row (get_or row k d).start ≡ true
place_start row k d h =
    let len = length_starts row in
    list_any_at (nat_eq (get_or row k d).start) (lead_starts row) k 0 (omega arith) (eq-eqb (get_or row k d).start (get_or (lead_starts row) k 0) (sym (start_at row k d h)))

pub lead_start : (row : List Lead) (m : Lead) → has_lead row m ≡ true → has_start row m.start ≡ true
lead_start row m h = let p = lead_place row m h in subst (λ (x : Lead). has_start row x.start ≡ true) p.2 (place_start row p.0 none p.1)

pub start_lead : (row : List Lead) (s : ℕ) → has_start row s ≡ true → (m : Lead) × (has_lead row m ≡ true) × (m.start ≡ s)
start_lead row s h = let p = start_place row s h in (get_or row p.0 none, place_lead row p.0 none p.1, p.2)

-- a row leads by each start to one node
pub only_lead : (row : List Lead) → AscendByStart row → (a b : Lead) → has_lead row a ≡ true → has_lead row b ≡ true → a.start ≡ b.start → a ≡ b
only_lead row up a b here there same =
    let p = lead_place row a here in
    let q = lead_place row b there in
    let first : get_or (lead_starts row) p.0 0 ≡ a.start = start_at row p.0 none p.1 ∙ ap (λ (m : Lead). m.start) p.2 in
    let second : get_or (lead_starts row) q.0 0 ≡ b.start = start_at row q.0 none q.1 ∙ ap (λ (m : Lead). m.start) q.2 in
    elim (cases_order p.0 q.0) [
      | inl e ↦ sym p.2 ∙ ap (λ (k : ℕ). get_or row k none) e ∙ q.2
      | inr apart ↦ elim apart [
        | inl lt ↦ absurd (omega (arith, rises row up p.0 q.0 lt q.1, first, second, same))
        | inr gt ↦ absurd (omega (arith, rises row up q.0 p.0 gt p.1, first, second, same))
      ]
    ]

module _ (old new : List Lead) where
  pub put_has : (m : Lead) → has_lead (put_leads old new) m ≡ (has_lead new m && not (has_lead old m))
  put_has m = is_member-filter same_equiv (λ (x : Lead). not (has_lead old x)) m (λ x e. ap (λ (y : Lead). not (has_lead old y)) (same_true m x e)) new

  pub removed_has : (s : ℕ) → is_one_of (removed_starts old new) s ≡ (has_start old s && not (has_start new s))
  removed_has s = is_member-filter nat_eq_equiv (λ (x : ℕ). not (has_start new x)) s (λ x e. ap (λ (y : ℕ). not (has_start new y)) (eqb-true s x e)) (lead_starts old)

  pub put_start : (s : ℕ) → has_start (put_leads old new) s ≡ true → (m : Lead) × (has_lead new m ≡ true) × (has_lead old m ≡ false) × (m.start ≡ s)
  put_start s h =
      let there = start_lead (put_leads old new) s h in
      let parts = and_parts (has_lead new there.0) (not (has_lead old there.0)) (sym (put_has there.0) ∙ there.1) in
      (there.0, parts.0, not-true (has_lead old there.0) parts.1, there.2)

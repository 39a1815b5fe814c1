-- The old row with what is removed and put is the new row, and fewer do not do it.
use Rattle.std.proofs.Common.{◌≡◌, ℕ, suc, ◌<◌, ◌≤◌, ◌⊎◌, ◌↔◌, Bool, true, false, List, [], ◌∷◌, length, get_or, refl, ap, sym, subst, ◌∙◌, inl, inr, nat_eq, arith}
use Rattle.std.specs.Prelude.{◌&&◌, ◌||◌, not}
use Rattle.std.specs.List.{AllPairs, IsDistinct, filter}
use Rattle.std.proofs.lemmas.Cmp.{nat_eq_equiv}
use Rattle.std.proofs.Math.Bool.{and-true}
use Rattle.std.proofs.lemmas.Bool.{cond_both, and_cases, and_from, and_left, and_parts, and_right, both_ways, cases_Bool, false_from_ne_true, false≢true, true≢false, ne_eqb, not-false, not-true, not_from_false, not_from_true, or_cases, or_from, or_left, or_parts, or_right}
use Rattle.std.proofs.lemmas.List.Kept.{AllPairs-filter, AllPairs-from_increasing, IsStrictlyIncreasing-filter}
use Rattle.std.proofs.lemmas.Map.Keys.{IsDistinct-from_apart}
use Rattle.std.proofs.lemmas.Map.Made.{length-le_from_is_member}
use Rattle.ir_diff.specs.declared.changes.Lead.{Lead}
use Rattle.ir_diff.specs.Changes.{lead_starts, AscendByStart, is_one_of, is_same, has_start, has_lead, removed_starts, put_leads, IsPatched, MakesNewRow, IsFewestChange}
use Rattle.ir_diff.proofs.Places.{none, start_at, length_starts, rises, tail_up}
use Rattle.ir_diff.proofs.Members.{same_true, same_equiv, lead_place, lead_start, start_lead, only_lead, put_has, removed_has, put_start}

-- ---- rows with the same leads are one row

cancel : (b x y : Bool) → b ≡ false → (b || x) ≡ (b || y) → x ≡ y
cancel true x y e h = absurd (true≢false e)
cancel false x y e h = h

not_behind : (x : Lead) (row : List Lead) → AscendByStart (x ∷ row) → (m : Lead) → m ≡ x → has_lead row m ≡ false
not_behind x row up m e =
    false_from_ne_true (has_lead row m) (λ t.
    let p = lead_place row m t in
    let r = rises (x ∷ row) up 0 (suc p.0) (omega arith) (omega (arith, p.1)) in
    let s : get_or (lead_starts row) p.0 0 ≡ m.start = start_at row p.0 none p.1 ∙ ap (λ (y : Lead). y.start) p.2 in
    let f : m.start ≡ x.start = ap (λ (y : Lead). y.start) e in
    absurd (omega (arith, r, s, f)))

first_same : (x y : Lead) (xs ys : List Lead) → AscendByStart (x ∷ xs) → AscendByStart (y ∷ ys) → has_lead (y ∷ ys) x ≡ true → has_lead (x ∷ xs) y ≡ true → x ≡ y
first_same x y xs ys up up' here there =
    elim (or_cases (is_same x y) (has_lead ys x) here) [
      | inl e ↦ same_true x y e
      | inr behind ↦ elim (or_cases (is_same y x) (has_lead xs y) there) [
        | inl e ↦ sym (same_true y x e)
        | inr after ↦
            let p = lead_place ys x behind in
            let q = lead_place xs y after in
            let r = rises (y ∷ ys) up' 0 (suc p.0) (omega arith) (omega (arith, p.1)) in
            let s = rises (x ∷ xs) up 0 (suc q.0) (omega arith) (omega (arith, q.1)) in
            let f : get_or (lead_starts ys) p.0 0 ≡ x.start = start_at ys p.0 none p.1 ∙ ap (λ (m : Lead). m.start) p.2 in
            let g : get_or (lead_starts xs) q.0 0 ≡ y.start = start_at xs q.0 none q.1 ∙ ap (λ (m : Lead). m.start) q.2 in
            absurd (omega (arith, r, s, f, g))
      ]
    ]

rest_same : (x : Lead) (xs ys : List Lead) → AscendByStart (x ∷ xs) → AscendByStart (x ∷ ys) → ((m : Lead) → has_lead (x ∷ xs) m ≡ has_lead (x ∷ ys) m) → (m : Lead) → has_lead xs m ≡ has_lead ys m
rest_same x xs ys up up' h m =
    elim (cases_Bool (is_same m x)) [
      | inl e ↦ not_behind x xs up m (same_true m x e) ∙ sym (not_behind x ys up' m (same_true m x e))
      | inr e ↦ cancel (is_same m x) (has_lead xs m) (has_lead ys m) e (h m)
    ]

same_rows : (xs ys : List Lead) → AscendByStart xs → AscendByStart ys → ((m : Lead) → has_lead xs m ≡ has_lead ys m) → xs ≡ ys
same_rows [] [] up up' h = refl
same_rows [] (y ∷ ys) up up' h = absurd (false≢true (h y ∙ or_left (is_same y y) (has_lead ys y) (same_equiv.refl y)))
same_rows (x ∷ xs) [] up up' h = absurd (false≢true (sym (h x) ∙ or_left (is_same x x) (has_lead xs x) (same_equiv.refl x)))
same_rows (x ∷ xs) (y ∷ ys) up up' h =
    let e : x ≡ y = first_same x y xs ys up up' (sym (h x) ∙ or_left (is_same x x) (has_lead xs x) (same_equiv.refl x)) (h y ∙ or_left (is_same y y) (has_lead ys y) (same_equiv.refl y)) in
    let up'' : AscendByStart (x ∷ ys) = subst (λ (z : Lead). AscendByStart (z ∷ ys)) (sym e) up' in
    let h' : (m : Lead) → has_lead (x ∷ xs) m ≡ has_lead (x ∷ ys) m = subst (λ (z : Lead). (m : Lead) → has_lead (x ∷ xs) m ≡ has_lead (z ∷ ys) m) (sym e) h in
    ap (λ (zs : List Lead). x ∷ zs) (same_rows xs ys (tail_up x xs up) (tail_up x ys up'') (rest_same x xs ys up up'' h')) ∙ ap (λ (z : Lead). z ∷ ys) e

nothing : {X : Type 0} (xs : List X) → length xs ≤ 0 → xs ≡ []
nothing [] h = refl
nothing (x ∷ xs) h = absurd (omega (arith, h))

-- ---- what is removed and put makes the new row

by_cases : (n o p r s : Bool) → p ≡ (n && not o) → (n ≡ true → o ≡ true → r ≡ false) → (n ≡ true → o ≡ true → s ≡ false) → (n ≡ false → o ≡ true → (r ≡ true) ⊎ (s ≡ true))
    → n ≡ (p || (o && (not r && not s)))
by_cases true true p r s e kept still gone = sym (or_right p (not r && not s) (and_from (not r) (not s) (not_from_false r (kept refl refl)) (not_from_false s (still refl refl))))
by_cases true false p r s e kept still gone = sym (or_left p false e)
by_cases false true p r s e kept still gone =
    sym (or_from p (not r && not s) e (elim (gone refl refl) [
      | inl is ↦ and_left (not r) (not s) (not_from_true r is)
      | inr is ↦ and_right (not r) (not s) (not_from_true s is)
    ]))
by_cases false false p r s e kept still gone = sym (or_from p false e refl)

module _ (old new : List Lead) (up : AscendByStart old) (up' : AscendByStart new) where
  not_removed : (m : Lead) → has_lead new m ≡ true → is_one_of (removed_starts old new) m.start ≡ false
  not_removed m is = removed_has old new m.start ∙ and_right (has_start old m.start) (not (has_start new m.start)) (not_from_true (has_start new m.start) (lead_start new m is))

  not_put : (m : Lead) → has_lead new m ≡ true → has_lead old m ≡ true → has_start (put_leads old new) m.start ≡ false
  not_put m is was =
      false_from_ne_true (has_start (put_leads old new) m.start) (λ t.
      let x = put_start old new m.start t in
      both_ways (has_lead old x.0) x.2 (subst (λ (y : Lead). has_lead old y ≡ true) (sym (only_lead new up' x.0 m x.1 is x.3)) was))

  put_there : (x : Lead) → has_lead new x ≡ true → has_lead old x ≡ false → has_start (put_leads old new) x.start ≡ true
  put_there x is was = lead_start (put_leads old new) x (put_has old new x ∙ and_from (has_lead new x) (not (has_lead old x)) is (not_from_false (has_lead old x) was))

  other_node : (m : Lead) → has_lead new m ≡ false → has_lead old m ≡ true → has_start new m.start ≡ true → has_start (put_leads old new) m.start ≡ true
  other_node m is was start =
      let x = start_lead new m.start start in
      elim (cases_Bool (has_lead old x.0)) [
        | inl t ↦ absurd (both_ways (has_lead new m) is (subst (λ (y : Lead). has_lead new y ≡ true) (only_lead old up x.0 m t was x.2) x.1))
        | inr f ↦ subst (λ (s : ℕ). has_start (put_leads old new) s ≡ true) x.2 (put_there x.0 x.1 f)
      ]

  gone : (m : Lead) → has_lead new m ≡ false → has_lead old m ≡ true → (is_one_of (removed_starts old new) m.start ≡ true) ⊎ (has_start (put_leads old new) m.start ≡ true)
  gone m is was =
      elim (cases_Bool (has_start new m.start)) [
        | inl t ↦ inr (other_node m is was t)
        | inr f ↦ inl (removed_has old new m.start ∙ and_from (has_start old m.start) (not (has_start new m.start)) (lead_start old m was) (not_from_false (has_start new m.start) f))
      ]

  makes : IsPatched old (removed_starts old new) (put_leads old new) new
  makes = record {
    ascending = up';
    leads = λ m. by_cases (has_lead new m) (has_lead old m) (has_lead (put_leads old new) m) (is_one_of (removed_starts old new) m.start) (has_start (put_leads old new) m.start)
        (put_has old new m) (λ is was. not_removed m is) (not_put m) (gone m);
  }

  pub they_change : MakesNewRow old new (removed_starts old new) (put_leads old new)
  they_change = (makes, λ row patched. same_rows row new patched.ascending up' (λ m. patched.leads m ∙ sym (makes.leads m)))

  -- ---- fewer do not

  put_apart : IsDistinct is_same (put_leads old new)
  put_apart =
      let less : Lead → Lead → Type 0 = λ x y. x.start < y.start in
      let all : AllPairs less new = λ i j d lt l. let r = rises new up' i j lt l in let a = start_at new i d (omega (arith, lt, l)) in let b = start_at new j d l in omega (arith, r, a, b) in
      let pairs : AllPairs less (put_leads old new) = AllPairs-filter less (λ (m : Lead). not (has_lead old m)) new all in
      IsDistinct-from_apart is_same (put_leads old new) (λ i j d lt l.
      let x = get_or (put_leads old new) i d in
      let y = get_or (put_leads old new) j d in
      let r = pairs i j d lt l in
      and_left (nat_eq x.start y.start) (nat_eq x.node y.node) (ne_eqb x.start y.start (λ e. absurd (omega (arith, r, e)))))

  removed_apart : IsDistinct nat_eq (removed_starts old new)
  removed_apart =
      let pairs = AllPairs-from_increasing (removed_starts old new) (IsStrictlyIncreasing-filter (λ s. not (has_start new s)) (lead_starts old) up) in
      IsDistinct-from_apart nat_eq (removed_starts old new) (λ i j d lt l.
      let r = pairs i j d lt l in
      ne_eqb (get_or (removed_starts old new) i d) (get_or (removed_starts old new) j d) (λ e. absurd (omega (arith, r, e))))

  module _ (removed : List ℕ) (put : List Lead) (patched : IsPatched old removed put new) where
    puts_it : (m : Lead) → has_lead (put_leads old new) m ≡ true → has_lead put m ≡ true
    puts_it m h =
        let parts = and_parts (has_lead new m) (not (has_lead old m)) (sym (put_has old new m) ∙ h) in
        let rest = not (is_one_of removed m.start) && not (has_start put m.start) in
        elim (or_cases (has_lead put m) (has_lead old m && rest) (sym (patched.leads m) ∙ parts.0)) [
          | inl t ↦ t
          | inr t ↦ absurd (both_ways (has_lead old m) (not-true (has_lead old m) parts.1) (and_parts (has_lead old m) rest t).0)
        ]

    -- what is put at a start of the new row alone
    puts_there : (s : ℕ) → has_start put s ≡ true → has_start new s ≡ true
    puts_there s h =
        let x = start_lead put s h in
        let rest = has_lead old x.0 && (not (is_one_of removed x.0.start) && not (has_start put x.0.start)) in
        subst (λ (t : ℕ). has_start new t ≡ true) x.2 (lead_start new x.0 (patched.leads x.0 ∙ or_left (has_lead put x.0) rest x.1))

    removes_it : (s : ℕ) → is_one_of (removed_starts old new) s ≡ true → is_one_of removed s ≡ true
    removes_it s h =
        let parts = and_parts (has_start old s) (not (has_start new s)) (sym (removed_has old new s) ∙ h) in
        let away : has_start new s ≡ false = not-true (has_start new s) parts.1 in
        let m = start_lead old s parts.0 in
        let rest = not (is_one_of removed m.0.start) && not (has_start put m.0.start) in
        let lost : has_lead new m.0 ≡ false = false_from_ne_true (has_lead new m.0) (λ t. both_ways (has_start new s) away (subst (λ (u : ℕ). has_start new u ≡ true) m.2 (lead_start new m.0 t))) in
        let none_left = or_parts (has_lead put m.0) (has_lead old m.0 && rest) (sym (patched.leads m.0) ∙ lost) in
        elim (and_cases (has_lead old m.0) rest none_left.1) [
          | inl f ↦ absurd (both_ways (has_lead old m.0) f m.1)
          | inr f ↦ elim (and_cases (not (is_one_of removed m.0.start)) (not (has_start put m.0.start)) f) [
            | inl g ↦ subst (λ (u : ℕ). is_one_of removed u ≡ true) m.2 (not-false (is_one_of removed m.0.start) g)
            | inr g ↦ absurd (both_ways (has_start new s) away (subst (λ (u : ℕ). has_start new u ≡ true) m.2 (puts_there m.0.start (not-false (has_start put m.0.start) g))))
          ]
        ]

  pub they_are_fewest : IsFewestChange old new (length (removed_starts old new)) (length (put_leads old new))
  they_are_fewest = record {
    removed = λ removed put patched. length-le_from_is_member nat_eq_equiv (removed_starts old new) removed removed_apart (removes_it removed put patched);
    put = λ removed put patched. length-le_from_is_member same_equiv (put_leads old new) put put_apart (puts_it removed put patched);
  }

  -- ---- where nothing changes

  unchanged : IsPatched old [] [] old
  unchanged = record { ascending = up; leads = λ m. sym (and-true (has_lead old m)) }

  pub same_row : (old ≡ new) ↔ ((removed_starts old new ≡ []) × (put_leads old new ≡ []))
  same_row = (
    λ e.
        let patched : IsPatched old [] [] new = subst (λ (row : List Lead). IsPatched old [] [] row) e unchanged in
        (nothing (removed_starts old new) (they_are_fewest.removed [] [] patched), nothing (put_leads old new) (they_are_fewest.put [] [] patched)),
    λ h.
        they_change.1 old (subst (λ (r : List ℕ). IsPatched old r (put_leads old new) old) (sym h.0) (subst (λ (p : List Lead). IsPatched old [] p old) (sym h.1) unchanged)),
  )

-- ---- no more than the starts

few_kept : {X : Type 0} (p : X → Bool) (xs : List X) → length (filter p xs) ≤ length xs
few_kept p [] = omega arith
few_kept p (x ∷ xs) =
    let rest = few_kept p xs in
    cond_both (p x) (x ∷ filter p xs) (filter p xs) (λ ys. length ys ≤ suc (length xs)) (λ _. omega (arith, rest)) (λ _. omega (arith, rest))

pub few_removed : (old new : List Lead) → length (removed_starts old new) ≤ length old
few_removed old new = let few = few_kept (λ (s : ℕ). not (has_start new s)) (lead_starts old) in let len = length_starts old in omega (arith, few, len)

pub few_put : (old new : List Lead) → length (put_leads old new) ≤ length new
few_put old new = few_kept (λ (m : Lead). not (has_lead old m)) new

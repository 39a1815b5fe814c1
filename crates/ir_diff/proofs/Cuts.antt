-- Where a walk along a row stops.
use Rattle.std.proofs.Common.{◌≡◌, ◌≢◌, ℕ, ◌+◌, ◌<◌, true, false, List, length, get_or, ap, sym, subst, ◌∙◌, inl, inr, nat_eq, arith}
use Rattle.std.proofs.lemmas.Bool.{and_from, cases_eq, cases_lt, eq-eqb, ne_eqb, false_from_ne_true}
use Rattle.std.proofs.lemmas.List.Folds.{list_any_at, list_any_none}
use Rattle.std.proofs.lemmas.List.Elements.{All-from_get_or}
use Rattle.ir_diff.specs.declared.changes.Lead.{Lead}
use Rattle.ir_diff.specs.Changes.{lead_starts, AscendByStart, has_start, has_lead, is_same}
use Rattle.ir_diff.specs.Cuts.{AreLowerStarts, EndsLower, IsStartAt}
use Rattle.ir_diff.proofs.Places.{none, start_at, length_starts, rises}
use Rattle.ir_diff.proofs.Members.{only_lead, place_lead, place_start}

pub one_more : (row : List Lead) (start count : ℕ) (d : Lead) → AreLowerStarts row start count → count < length row → (get_or row count d).start < start → AreLowerStarts row start (count + 1)
one_more row start count d are inside less =
    let here = start_at row count d inside in
    record {
      within = omega arith;
      below = λ k h. elim (cases_eq k count) [ inl e ↦ rw e (omega arith) | inr ne ↦ are.below k (omega arith) ];
    }

module _ (row : List Lead) (up : AscendByStart row) (start place : ℕ) (cut : EndsLower row start place) where
  -- none but that after the cut is this one
  apart : (k : ℕ) → k < length row → k ≢ place → get_or (lead_starts row) k 0 ≢ start
  apart k h ne =
      elim (cases_lt k place) [
        | inl lt ↦ let b = cut.front.below k lt in λ e. absurd (omega (arith, e, b))
        | inr ge ↦ let r = rises row up place k (omega arith) h in let b = cut.behind (omega arith) in λ e. absurd (omega (arith, e, b, r))
      ]

  nowhere : (place < length row → get_or (lead_starts row) place 0 ≢ start) → (k : ℕ) → k < length row → get_or (lead_starts row) k 0 ≢ start
  nowhere away k h = elim (cases_eq k place) [ inl e ↦ rw e (away (omega arith)) | inr ne ↦ apart k h ne ]

  pub absent : (place < length row → get_or (lead_starts row) place 0 ≢ start) → has_start row start ≡ false
  absent away =
      let len = length_starts row in
      list_any_none (nat_eq start) (lead_starts row)
      (All-from_get_or (λ (s : ℕ). nat_eq start s ≡ false) (lead_starts row) 0 (λ k h. ne_eqb start (get_or (lead_starts row) k 0) (λ e. nowhere away k (omega arith) (sym e))))

  pub at_cut : place < length row → nat_eq (get_or row place none).start start ≡ has_start row start
  at_cut inside =
      elim (cases_eq (get_or row place none).start start) [
        | inl e ↦ eq-eqb (get_or row place none).start start e ∙ sym (subst (λ (s : ℕ). has_start row s ≡ true) e (place_start row place none inside))
        | inr ne ↦ ne_eqb (get_or row place none).start start ne ∙ sym (absent (λ lt e. ne (sym (start_at row place none lt) ∙ e)))
      ]

pub lead_at_cut : (row : List Lead) → AscendByStart row → (m : Lead) (place : ℕ) → IsStartAt row m.start place → nat_eq (get_or row place none).node m.node ≡ has_lead row m
lead_at_cut row up m place is =
    let same : (get_or row place none).start ≡ m.start = sym (start_at row place none is.within) ∙ is.same in
    elim (cases_eq (get_or row place none).node m.node) [
      | inl e ↦ eq-eqb (get_or row place none).node m.node e ∙ sym (list_any_at (is_same m) row place none is.within
          (and_from (nat_eq m.start (get_or row place none).start) (nat_eq m.node (get_or row place none).node) (eq-eqb m.start (get_or row place none).start (sym same)) (eq-eqb m.node (get_or row place none).node (sym e))))
      | inr ne ↦ ne_eqb (get_or row place none).node m.node ne
          ∙ sym (false_from_ne_true (has_lead row m) (λ t. ne (ap (λ (x : Lead). x.node) (only_lead row up (get_or row place none) m (place_lead row place none is.within) t same))))
    ]

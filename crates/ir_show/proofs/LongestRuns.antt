-- Where it is decided which ports a label may take, each label has a longest run.
use Rattle.std.proofs.Common.{◌≡◌, ◌≢◌, ℕ, zero, suc, ◌-◌, ◌<◌, List, length, map, get_or, sym, ap, ◌∙◌, subst, inl, inr, arith}
use Rattle.std.specs.Prelude.{slice_index}
use Rattle.std.proofs.lemmas.Bool.{cases_eq, cases_lt}
use Rattle.std.proofs.lemmas.List.{get_or-map, length-map}
use Rattle.ir_model.specs.Choices.{AreChoices, label_from, Serves, Run, IsLongestRun}
use Rattle.ir_model.proofs.Going.{from_is_label}
use Rattle.ir_model.proofs.Steps.{run_in, AreLongest}
use Rattle.ir_show.proofs.Searching.{IsDecided, least_of, any_below, chosen_list}

-- what may be taken is decided for each label, and no port from `bound` on may be
pub record AreDecided (n : ℕ) (may : ℕ → ℕ → Type 0) (bound : ℕ) : Type 0 where
  pub each : (d p : ℕ) → d < n → IsDecided (may d p)
  pub low : (d p : ℕ) → may d p → p < bound

module _ (n own : ℕ) (may : ℕ → ℕ → Type 0) (valid : AreChoices n own may) (bound : ℕ) (decided : AreDecided n may bound) where
  decide_serves : (p a : ℕ) → a < n → (count : ℕ) → IsDecided (Serves n own may p a count)
  decide_serves p a label zero = inl (λ i lt ne. absurd (omega (arith, lt)))
  decide_serves p a label (suc count) =
      let d = label_from n a count in
      let more : (d ≢ own → may d p) → Serves n own may p a count → Serves n own may p a (suc count) =
      λ here all i lt ne. elim (cases_eq i count) [
        | inl e ↦ subst (λ (j : ℕ). may (label_from n a j) p) (sym e) (here (λ f. ne (ap (label_from n a) e ∙ f)))
        | inr other ↦ all i (omega (arith, lt, other)) ne
      ] in
      elim (decide_serves p a label count) [
        | inr not ↦ inr (λ all. not (λ i lt ne. all i (omega (arith, lt)) ne))
        | inl all ↦
            elim (cases_eq d own) [
              | inl e ↦ inl (more (λ other. absurd (other e)) all)
              | inr other ↦
                  elim (decided.each d p (from_is_label n a count label)) [
                    | inl is ↦ inl (more (λ _. is) all)
                    | inr not ↦ inr (λ served. not (served count (omega arith) other))
                  ]
            ]
      ]

  -- a port below the bound serves so many labels from a on
  abbrev IsServed : ℕ → ℕ → Type 0
  IsServed a count = (p : ℕ) × (p < bound) × Serves n own may p a count

  decide_served : (a : ℕ) → a < n → (count : ℕ) → IsDecided (IsServed a count)
  decide_served a label count = any_below (λ p. Serves n own may p a count) (λ p. decide_serves p a label count) bound

  served_one : (a : ℕ) → a < n → a ≢ own → IsServed a 1
  served_one a label other =
      let some = valid.some a label other in
      (some.0, decided.low a some.0 some.1, λ i lt ne. let e : 0 ≡ i = omega (arith, lt) in subst (λ (j : ℕ). may (label_from n a j) some.0) e some.1)

  pub longest_run : (a : ℕ) → a < n → a ≢ own → (run : Run) × IsLongestRun n own may a run
  longest_run a label other =
      let one : n - (n - 1) ≡ 1 = omega (arith, label) in
      let left = least_of (λ k. IsServed a (n - k)) (λ k. decide_served a label (n - k)) (n - 1) (subst (IsServed a) (sym one) (served_one a label other)) in
      let count = n - left.0 in
      let least = least_of (λ p. Serves n own may p a count) (λ p. decide_serves p a label count) left.1.0 left.1.2 in
      let run : Run = record { port = least.0; count = count } in (
        run,
        record {
          within = omega arith;
          serves = least.1;
          longest = λ p more within serves.
              elim (cases_lt count more) [
                | inr le ↦ le
                | inl lt ↦
                    let low : p < bound = decided.low a p (serves 0 (omega (arith, lt)) other) in
                    let back : n - (n - more) ≡ more = omega (arith, within) in
                    let far = left.2 (n - more) (subst (IsServed a) (sym back) (p, low, serves)) in
                    omega (arith, far, within)
              ];
          least = least.2;
        },
      )

  -- the tables that have them
  pub longest_tables : (counts : List ℕ) × (ports : List ℕ) × (length counts ≡ n) × AreLongest n own may counts ports
  longest_tables =
      let none : Run = record { port = 0; count = 0 } in
      let all = chosen_list none (λ a run. a ≢ own → IsLongestRun n own may a run) n
      (λ a label. elim (cases_eq a own) [
        | inl e ↦ (none, λ other. absurd (other e))
        | inr other ↦ let run = longest_run a label other in (run.0, λ _. run.1)
      ]) in
      let count : Run → ℕ = λ r. r.count in
      let port : Run → ℕ = λ r. r.port in (
        map count all.0,
        map port all.0,
        length-map all.0 count ∙ all.1,
        λ a label other.
            let within : a < length all.0 = omega (arith, label, all.1) in
            let counts : slice_index (map count all.0) a ≡ (get_or all.0 a none).count = get_or-map count all.0 a none 0 within in
            let ports : slice_index (map port all.0) a ≡ (get_or all.0 a none).port = get_or-map port all.0 a none 0 within in
            subst (IsLongestRun n own may a) (sym (made (run_in (map count all.0) (map port all.0) a) (get_or all.0 a none) ports counts)) (all.2 a label other),
      )
    where
      made : (x y : Run) → x.port ≡ y.port → x.count ≡ y.count → x ≡ y
      made x y ports counts = ap (λ p. record { port = p; count = x.count }) ports ∙ ap (λ c. record { port = y.port; count = c }) counts

-- The longest runs of one port, and the best over the ports so far.
use Rattle.std.proofs.Common.{◌≡◌, ◌↔◌, ℕ, zero, suc, ◌+◌, ◌<◌, ◌≤◌, ◌≢◌, min, List, Bool, true, false, ap, sym, ◌∙◌, subst, inl, inr, ◌⊎◌, arith}
use Rattle.std.proofs.lemmas.Bool.{cases_lt}
use Rattle.std.specs.Prelude.{slice_index_or}
use Rattle.ir_model.specs.Compiled.{label_after}
use Rattle.ir_model.specs.Choices.{label_from, Serves, Run, IsLongestRun}
use Rattle.ir_model.proofs.Going.{from_from, from_where}

-- the row of one port's marks has the label d
abbrev pub Marks : List Bool → ℕ → Type 0
Marks row d = slice_index_or row d false ≡ true

-- one port serves so many labels from a on, and not the next
pub record IsRowRun (n own : ℕ) (row : List Bool) (a count : ℕ) : Type 0 where
  pub within : count ≤ n
  pub serves : Serves n own (λ d _. Marks row d) 0 a count
  pub stops : count < n → (label_from n a count ≢ own) × (Marks row (label_from n a count) → ⊥)

module _ (n own : ℕ) (row : List Bool) where
  row_serves : (a count : ℕ) → IsRowRun n own row (label_after n a) count → (a ≢ own → Marks row a) → ((i : ℕ) → label_from n (label_after n a) i ≡ label_from n a (suc i))
      → (i : ℕ) → i < min (count + 1) n → label_from n a i ≢ own → Marks row (label_from n a i)
  row_serves a count run here at zero l off = here off
  row_serves a count run here at (suc i) l off = subst (Marks row) (at i) (run.serves i (omega arith) (λ e. off (sym (at i) ∙ e)))

  pub row_step : (a count : ℕ) → 0 < n → IsRowRun n own row (label_after n a) count → (a ≢ own → Marks row a) → IsRowRun n own row a (min (count + 1) n)
  row_step a count some run here =
      let at : (i : ℕ) → label_from n (label_after n a) i ≡ label_from n a (suc i) = λ i. let e : i + 1 ≡ suc i = omega arith in from_from n a 1 i ∙ ap (label_from n a) e in
      record {
        within = omega arith;
        serves = λ i l off. row_serves a count run here at i l off;
        stops = λ inside.
            let e : min (count + 1) n ≡ suc count = omega arith in
            let s = run.stops (omega arith) in
            let there : label_from n a (min (count + 1) n) ≡ label_from n (label_after n a) count = ap (label_from n a) e ∙ sym (at count) in
            (λ f. s.0 (sym there ∙ f), λ m. s.1 (subst (Marks row) there m));
      }

  pub row_more : (a count : ℕ) → count < n → IsRowRun n own row (label_after n a) count → (a ≢ own → Marks row a) → IsRowRun n own row a (count + 1)
  row_more a count inside run here =
      let e : min (count + 1) n ≡ count + 1 = omega arith in
      subst (IsRowRun n own row a) e (row_step a count (omega arith) run here)

  pub row_round : (a count : ℕ) → 0 < n → n ≤ count → IsRowRun n own row (label_after n a) count → (a ≢ own → Marks row a) → IsRowRun n own row a n
  row_round a count some past run here =
      let e : min (count + 1) n ≡ n = omega arith in
      subst (IsRowRun n own row a) e (row_step a count some run here)

  not_served : (a : ℕ) → ((a ≢ own → Marks row a) → ⊥) → (a ≢ own) × (Marks row a → ⊥)
  not_served a out = (λ e. out (λ ne. absurd (ne e)), λ m. out (λ _. m))

  pub row_stop : (a : ℕ) → ((a ≢ own → Marks row a) → ⊥) → IsRowRun n own row a 0
  row_stop a out = record {
    within = omega arith;
    serves = λ i l off. absurd (omega arith);
    stops = λ _. not_served a out;
  }

  from_zero : (i : ℕ) → i < n → label_from n 0 i ≡ i
  from_zero i l = elim (from_where n 0 i (omega arith) (omega arith)) [ inl w ↦ omega (arith, w.1) | inr w ↦ absurd (omega (arith, w.0)) ]

  -- from the label 0 on
  pub row_front : (count : ℕ) → count ≤ n → ((i : ℕ) → i < count → i ≢ own → Marks row i) → (count < n → (count ≢ own → Marks row count) → ⊥) → IsRowRun n own row 0 count
  row_front count h marks stop = record {
    within = h;
    serves = λ i l off.
        let e = from_zero i (omega arith) in
        subst (Marks row) (sym e) (marks i l (λ f. off (e ∙ f)));
    stops = λ inside.
        let e = from_zero count inside in
        let s = not_served count (stop inside) in
        (λ f. s.0 (sym e ∙ f), λ m. s.1 (subst (Marks row) e m));
  }

-- the better of the run of the port m with r labels and the one of the port p with c labels, which is kept where they are as long
abbrev pub IsBetter : ℕ → ℕ → ℕ → ℕ → ℕ → ℕ → Type 0
IsBetter r m c p count port = ((c < r) × (count ≡ r) × (port ≡ m)) ⊎ ((r ≤ c) × (count ≡ c) × (port ≡ p))

-- the longest run of the ports below m, by the least of them
pub record IsBestBelow (n own : ℕ) (may : ℕ → ℕ → Type 0) (m a count port : ℕ) : Type 0 where
  pub within : count ≤ n
  pub serves : Serves n own may port a count
  pub longest : (q t : ℕ) → q < m → t ≤ n → Serves n own may q a t → t ≤ count
  pub least : (q : ℕ) → q < m → Serves n own may q a count → port ≤ q
  pub low : port ≤ m

module _ (n own : ℕ) (may : ℕ → ℕ → Type 0) where
  pub best_more : (m a c p r count port : ℕ) (row : List Bool) → IsBestBelow n own may m a c p → IsRowRun n own row a r
      → ((d : ℕ) → may d m ↔ Marks row d) → IsBetter r m c p count port → IsBestBelow n own may (m + 1) a count port
  best_more m a c p r count port row best run is better =
      let top : (t : ℕ) → t ≤ n → Serves n own may m a t → t ≤ r = λ t h s.
      elim (cases_lt r t) [
        | inl more ↦
            let stop = run.stops (omega arith) in
            absurd (stop.1 ((is (label_from n a r)).0 (s r more stop.0)))
        | inr le ↦ le
      ] in
      elim better [
        | inl w ↦
            subst (λ (x : ℕ). IsBestBelow n own may (m + 1) a x port) (sym w.1) (subst (λ (x : ℕ). IsBestBelow n own may (m + 1) a r x) (sym w.2) (record {
              within = run.within;
              serves = λ i l off. (is (label_from n a i)).1 (run.serves i l off);
              longest = λ q t l h s.
                  elim (cases_lt q m) [
                    | inl below ↦ let le = best.longest q t below h s in omega (arith, w.0)
                    | inr last ↦ let e : q ≡ m = omega arith in top t h (subst (λ (x : ℕ). Serves n own may x a t) e s)
                  ];
              least = λ q l s.
                  elim (cases_lt q m) [
                    | inl below ↦ let le = best.longest q r below run.within s in absurd (omega (arith, w.0))
                    | inr last ↦ omega arith
                  ];
              low = omega arith;
            }))
        | inr w ↦
            let low = best.low in
            subst (λ (x : ℕ). IsBestBelow n own may (m + 1) a x port) (sym w.1) (subst (λ (x : ℕ). IsBestBelow n own may (m + 1) a c x) (sym w.2) (record {
              within = best.within;
              serves = best.serves;
              longest = λ q t l h s.
                  elim (cases_lt q m) [
                    | inl below ↦ best.longest q t below h s
                    | inr last ↦ let e : q ≡ m = omega arith in let le = top t h (subst (λ (x : ℕ). Serves n own may x a t) e s) in omega (arith, w.0)
                  ];
              least = λ q l s.
                  elim (cases_lt q m) [
                    | inl below ↦ best.least q below s
                    | inr last ↦ omega arith
                  ];
              low = omega arith;
            }))
      ]

  -- with all ports it is the longest run
  pub best_all : (m a count port : ℕ) → a ≢ own → ((d q : ℕ) → m ≤ q → may d q → ⊥) → IsBestBelow n own may m a count port
      → IsLongestRun n own may a (let run : Run = record { port = port; count = count } in run)
  best_all m a count port off past best = record {
    within = best.within;
    serves = best.serves;
    longest = λ q t h s.
        elim (cases_lt q m) [
          | inl below ↦ best.longest q t below h s
          | inr other ↦ elim (cases_lt 0 t) [ inl some ↦ absurd (past a q other (s 0 some off)) | inr none ↦ omega arith ]
        ];
    least = λ q s.
        let low = best.low in
        elim (cases_lt q m) [ inl below ↦ best.least q below s | inr other ↦ omega arith ];
  }

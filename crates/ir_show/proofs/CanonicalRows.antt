-- Each list of destinations has a canonical row.
use Rattle.std.proofs.Common.{◌≡◌, ◌≢◌, ℕ, zero, suc, ◌+◌, ◌<◌, ◌≤◌, List, [], ◌∷◌, ◌++◌, Option, Some, None, subst, inl, inr, arith}
use Rattle.std.specs.Prelude.{IsSome}
use Rattle.std.proofs.lemmas.Bool.{cases_eq, cases_lt}
use Rattle.ir_model.specs.Row.{Start}
use Rattle.ir_model.specs.Compiled.{port_to, label_after, predecessor, IsDestinations, IsChange, IsCanonical}
use Rattle.ir_model.proofs.Partial.{IsPartial, partial_skipped, partial_pushed, partial_full, partial_empty, partial_alone}
use Rattle.ir_model.proofs.Round.{option_cases, after_is_label, after_differs}
use Rattle.ir_show.proofs.Searching.{IsDecided, option_is}

module _ (n own : ℕ) (ports : List (Option ℕ)) (valid : IsDestinations n own ports) where
  -- the port of a destination
  destination_port : (d : ℕ) → d < n → d ≢ own → (p : ℕ) × (port_to ports d ≡ Some p)
  destination_port d label other =
      elim (option_is (port_to ports d)) [
        | inl there ↦ there
        | inr none ↦ let P : Option ℕ → Type 0 = λ o. IsSome o in let bad : P None = subst P none (valid.some d label other) in absurd (cc bad)
      ]

  decide_change : (d : ℕ) → d < n → IsDecided (IsChange n own ports d)
  decide_change d label =
      elim (cases_eq d own) [
        | inl e ↦ inr (λ change. change.1 e)
        | inr other ↦
            elim (option_cases (port_to ports d) (port_to ports (predecessor n own d))) [
              | inl same ↦ inr (λ change. change.2 same)
              | inr differ ↦ inl (label, other, differ)
            ]
      ]

  partial_to : (d : ℕ) → d ≤ n → (row : List Start) × IsPartial n own ports d row
  partial_to zero le = (
    [],
    record {
      ascending = λ k l. absurd (omega arith);
      only = λ c w. absurd (omega (arith, w.1));
      every = λ c l. absurd (omega (arith, l));
      their_ports = λ k s l. absurd (omega (arith, l));
    },
  )
  partial_to (suc d) le =
      let before = partial_to d (omega (arith, le)) in
      let next : d + 1 ≡ suc d = omega arith in
      elim (decide_change d (omega (arith, le))) [
        | inl change ↦
            let port = destination_port d change.0 change.1 in
            let s : Start = record { label = d; port = port.0 } in
            (before.0 ++ s ∷ [], subst (λ (m : ℕ). IsPartial n own ports m (before.0 ++ s ∷ [])) next (partial_pushed n own ports d before.0 before.1 change port.0 port.1))
        | inr quiet ↦ (before.0, subst (λ (m : ℕ). IsPartial n own ports m before.0) next (partial_skipped n own ports d before.0 before.1 quiet))
      ]

  pub canonical_some : (row : List Start) × IsCanonical n own ports row
  canonical_some = let all = partial_to n (omega arith) in of_partial all.0 all.1
    where
      of_partial : (row : List Start) → IsPartial n own ports n row → (row : List Start) × IsCanonical n own ports row
      of_partial [] h =
          elim (cases_lt 1 n) [
            | inl two ↦
                let first = label_after n own in
                let port = destination_port first (after_is_label n own valid.has_own) (after_differs n own valid.has_own two) in
                let s : Start = record { label = first; port = port.0 } in
                (s ∷ [], partial_empty n own ports valid.has_own two h port.0 port.1)
            | inr one ↦ ([], partial_alone n own ports (let own_in = valid.has_own in omega (arith, one, own_in)) valid.has_own h)
          ]
      of_partial (s ∷ row) h = (s ∷ row, partial_full n own ports valid.has_own (s ∷ row) h (omega arith))

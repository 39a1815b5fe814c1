-- A row of no words.
use Rattle.std.proofs.Common.{◌≡◌, ℕ, ◌<◌, ◌++◌, List, [], ◌∷◌, length, Option, Some, subst, sym, ap, ◌∙◌}
use Rattle.std.proofs.lemmas.List.{nil_from_length}
use Rattle.ir_model.specs.Row.{Start}
use Rattle.ir_model.specs.Compiled.{IsCanonical, port_to, label_after}
use Rattle.ir_model.proofs.Partial.{IsPartial, partial_empty, partial_alone}
use Rattle.ir_lookup.specs.Words.{starts_of}

no_starts : (items : List ℕ) → length items ≡ 0 → starts_of items ≡ []
no_starts items h = ap starts_of (nil_from_length items h)

module _ (n own : ℕ) (ports : List (Option ℕ)) (items : List ℕ) (part : IsPartial n own ports n (starts_of items)) (none : length items ≡ 0) (has_own : own < n) where
  pub canonical_alone : n ≡ 1 → IsCanonical n own ports (starts_of items)
  canonical_alone one =
      let e = no_starts items none in
      subst (IsCanonical n own ports) (sym e) (partial_alone n own ports one has_own (subst (IsPartial n own ports n) e part))

  pub canonical_only : 1 < n → (first port : ℕ) → first ≡ label_after n own → port_to ports first ≡ Some port
      → IsCanonical n own ports (let s : Start = record { label = first; port = port } in starts_of items ++ s ∷ [])
  canonical_only two first port is to =
      let e = no_starts items none in
      subst (λ (row : List Start). IsCanonical n own ports (let s : Start = record { label = first; port = port } in row ++ s ∷ [])) (sym e)
      (subst (λ (l : ℕ). IsCanonical n own ports (let s : Start = record { label = l; port = port } in s ∷ [])) (sym is)
      (partial_empty n own ports has_own two (subst (IsPartial n own ports n) e part) port (ap (port_to ports) (sym is) ∙ to)))

use Rattle.std.proofs.Common.{◌≡◌, ◌<◌, ◌≤◌, ℕ, length, get_or, List, arith, sym, ◌∙◌, inl, inr}
use Rattle.std.specs.Prelude.{Result, Ok, Err}
use Rattle.std.specs.Result.{is_ok, MatchResult}
use Rattle.std.proofs.lemmas.Bool.{cases_lt}
use Rattle.std.proofs.lemmas.List.Sorted.{searched}
use Rattle.ir_prefix.specs.Joined.{is_among}
use Rattle.ir_prefix.proofs.AmongLemmas.{among_at, among_none}
use Rattle.ir_prefix.proofs.names.has_port.Goals as goal

found : (xs : List ℕ) (p : ℕ) (r : Result ℕ ℕ) → MatchResult r (λ i. (i < length xs) × (get_or xs i 0 ≡ p)) (λ i. (i ≤ length xs) × ((k : ℕ) → k < i → get_or xs k 0 < p) × ((k : ℕ) → i ≤ k → k < length xs → p < get_or xs k 0)) → is_ok r ≡ is_among xs p
found xs p (Ok i) h = sym (among_at xs i p h.0 h.1)
found xs p (Err i) h = sym (among_none xs p (λ k l e. elim (cases_lt k i) [ inl low ↦ let a = h.1 k low in omega arith | inr high ↦ let a = h.2 k high l in omega arith ]))

pub returns : goal.returns
returns c = c.is_ok.ensures.value ∙ found _ _ _ (searched _ _ _ c.binary_search.ensures.position (λ i j. c.requires i j 0))

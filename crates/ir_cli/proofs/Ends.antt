-- Ends of an input.
use Rattle.std.proofs.Common.{ℕ, List, [], ◌++◌, take, drop, ap, ◌∙◌, append_assoc}
use Rattle.std.proofs.lemmas.List.{append-nil, take-append-drop}
use Rattle.ir_cli.specs.Cut.{EndsWithBytes}

pub end_none : (input : List ℕ) → EndsWithBytes input []
end_none input = (input, append-nil input)

-- what follows n bytes more
pub end_behind : (input : List ℕ) (at n : ℕ) → EndsWithBytes input (drop n (drop at input))
end_behind input at n = (take at input ++ take n (drop at input), append_assoc (take at input) (take n (drop at input)) (drop n (drop at input)) ∙ ap (λ (xs : List ℕ). take at input ++ xs) (take-append-drop n (drop at input)) ∙ take-append-drop at input)

pub end_of_end : (input mid rest : List ℕ) → EndsWithBytes input mid → EndsWithBytes mid rest → EndsWithBytes input rest
end_of_end input mid rest a b = (a.0 ++ b.0, append_assoc a.0 b.0 rest ∙ ap (λ (xs : List ℕ). a.0 ++ xs) b.1 ∙ a.1)

-- Escaped text is read again.
use Rattle.std.proofs.Common.{◌≡◌, ℕ, false, List, [], ◌∷◌, ◌++◌, Some, option_map, refl, ap, ◌∙◌, ⊎_elim, append_assoc}
use Rattle.std.proofs.lemmas.Bool.{cases_eq, eq-eqb, ne_eqb}
use Rattle.ir_show.specs.Quoted.{escaped_byte, escaped, read_on, read_quoted}

-- an escaped byte is read as the byte
read_byte : (b : ℕ) (rest : List ℕ) → read_on false (escaped_byte b ++ rest) ≡ option_map (λ f. (b ∷ f.0, f.1)) (read_on false rest)
read_byte b rest =
    ⊎_elim (λ quote. rw (eq-eqb b 34 quote) refl)
    (λ plain. ⊎_elim
    (λ slash. rw (ne_eqb b 34 plain, eq-eqb b 92 slash) refl)
    (λ other. rw (ne_eqb b 34 plain, ne_eqb b 92 other) (rw (ne_eqb b 34 plain, ne_eqb b 92 other) refl))
    (cases_eq b 92)) (cases_eq b 34)

pub read_again : (text rest : List ℕ) → read_quoted (escaped text ++ 34 ∷ rest) ≡ Some (text, rest)
read_again [] rest = refl
read_again (b ∷ text) rest =
    ap read_quoted (append_assoc (escaped_byte b) (escaped text) (34 ∷ rest)) ∙ read_byte b (escaped text ++ 34 ∷ rest)
    ∙ ap (option_map (λ (f : List ℕ × List ℕ). (b ∷ f.0, f.1))) (read_again text rest)

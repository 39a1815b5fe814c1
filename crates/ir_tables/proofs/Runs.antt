-- The links of a network's nodes, one node after the other.
use Rattle.std.proofs.Common.{◌≡◌, ℕ, ◌+◌, ◌<◌, List, [], ◌∷◌, ◌++◌, length, take, ap, sym, ◌∙◌, arith, get_or, append_assoc}
use Rattle.std.proofs.lemmas.List.{take_more, length-take-le, append-nil}
use Rattle.ir_tables.specs.Numbered.{Numbers, links_at, links_from}

-- ---- links of one node more

links_from_append : (first : ℕ) (xs : List Numbers) (es : Numbers) → links_from first (xs ++ es ∷ []) ≡ links_from first xs ++ links_at (first + length xs) es
links_from_append first [] es = let here : first ≡ first + 0 = omega arith in append-nil (links_at first es) ∙ ap (λ u. links_at u es) here
links_from_append first (x ∷ xs) es =
    let at : first + 1 + length xs ≡ first + length (x ∷ xs) = omega arith in
    ap (λ ls. links_at first x ++ ls) (links_from_append (first + 1) xs es ∙ ap (λ u. links_from (first + 1) xs ++ links_at u es) at)
    ∙ sym (append_assoc (links_at first x) (links_from (first + 1) xs) (links_at (first + length (x ∷ xs)) es))

pub links_step : (rows : List Numbers) (u : ℕ) → u < length rows → links_from 0 (take (u + 1) rows) ≡ links_from 0 (take u rows) ++ links_at u (get_or rows u [])
links_step rows u lt =
    let len : 0 + length (take u rows) ≡ u = omega (arith, length-take-le u rows (omega (arith, lt))) in
    ap (links_from 0) (take_more rows u [] lt) ∙ links_from_append 0 (take u rows) (get_or rows u []) ∙ ap (λ k. links_from 0 (take u rows) ++ links_at k (get_or rows u [])) len

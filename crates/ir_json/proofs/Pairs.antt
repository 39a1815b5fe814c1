-- A pair of a list, and the pairs after it.
use Rattle.std.proofs.Common.{◌≡◌, ℕ, Bool, false, List, [], ◌∷◌, ◌++◌, drop, refl, sym, ap, ◌∙◌, append_assoc}
use Rattle.std.proofs.lemmas.List.{append-nil}
use Rattle.ir_model.specs.Graph.{Name}
use Rattle.ir_json.specs.Signs.{filled}
use Rattle.ir_json.specs.Lists.{comma, pairs_from}

pairs_next : (template : List ℕ) (is_first : Bool) (first : Name) (words : List Name) → pairs_from template is_first (first ∷ words) ≡ (comma is_first ++ filled template (first ∷ words)) ++ pairs_from template false (drop 1 words)
pairs_next template is_first first [] = sym (append-nil (comma is_first ++ filled template (first ∷ [])))
pairs_next template is_first first (second ∷ words) = refl

-- after what is written a pair is written
pub pairs_on : (template text written whole lead : List ℕ) (is_first : Bool) (first : Name) (words after rest : List Name)
    → text ++ pairs_from template is_first words ≡ whole → words ≡ first ∷ after → lead ≡ comma is_first → written ≡ (text ++ lead) ++ filled template words → rest ≡ drop 1 after
    → written ++ pairs_from template false rest ≡ whole
pairs_on template text written whole lead is_first first words after rest so_far split lead_is written_is rest_is =
    let all : List ℕ = pairs_from template false (drop 1 after) in
    let item : List ℕ = filled template words in
    ap (λ w. w ++ pairs_from template false rest) written_is
    ∙ ap (λ r. ((text ++ lead) ++ item) ++ pairs_from template false r) rest_is
    ∙ append_assoc (text ++ lead) item all
    ∙ append_assoc text lead (item ++ all)
    ∙ ap (λ l. text ++ (l ++ (item ++ all))) lead_is
    ∙ ap (λ t. text ++ t) (sym (append_assoc (comma is_first) item all))
    ∙ ap (λ ws. text ++ ((comma is_first ++ filled template ws) ++ all)) split
    ∙ ap (λ t. text ++ t) (sym (pairs_next template is_first first after))
    ∙ ap (λ ws. text ++ pairs_from template is_first ws) (sym split)
    ∙ so_far

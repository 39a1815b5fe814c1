-- What has a mark in a list of changes, and what follows it.
use Rattle.std.proofs.Common.{◌≡◌, ℕ, Bool, true, false, List, [], ◌∷◌, ◌++◌, refl, sym, ap, ◌∙◌, append_assoc}
use Rattle.std.proofs.lemmas.List.{append-nil}
use Rattle.ir_model.specs.Graph.{Name}
use Rattle.ir_json.specs.Lists.{goes, is_still_first, marked_item, after_mark, marked_from}

module _ (mark template : List ℕ) (is_first : Bool) (one : Name) where
  abbrev left_of : Name → List Name → List ℕ
  left_of first words = marked_from mark template (is_still_first mark is_first first) words

  pub marked_next : (words : List Name)
      → marked_from mark template is_first (one ∷ words) ≡ marked_item mark template is_first (one ∷ words) ++ left_of one (after_mark one words)
  marked_next words = go words (goes one) refl
    where
      go : (words : List Name) (b : Bool) → goes one ≡ b → marked_from mark template is_first (one ∷ words) ≡ marked_item mark template is_first (one ∷ words) ++ left_of one (after_mark one words)
      go [] true is = rw is (sym (append-nil (marked_item mark template is_first (one ∷ []))))
      go [] false is = rw is (sym (append-nil (marked_item mark template is_first (one ∷ []))))
      go (two ∷ []) true is = rw is (sym (append-nil (marked_item mark template is_first (one ∷ two ∷ []))))
      go (two ∷ []) false is = rw is (sym (append-nil (marked_item mark template is_first (one ∷ two ∷ []))))
      go (two ∷ three ∷ rest) true is = rw is refl
      go (two ∷ three ∷ rest) false is = rw is refl

-- after what is written the rest is written
pub marked_on : (mark template text written whole : List ℕ) (is_first next : Bool) (one : Name) (words after rest : List Name)
    → text ++ marked_from mark template is_first words ≡ whole → words ≡ one ∷ after → written ≡ text ++ marked_item mark template is_first words
    → next ≡ is_still_first mark is_first one → rest ≡ after_mark one after → written ++ marked_from mark template next rest ≡ whole
marked_on mark template text written whole is_first next one words after rest so_far split written_is next_is rest_is =
    ap (λ w. w ++ marked_from mark template next rest) written_is
    ∙ append_assoc text (marked_item mark template is_first words) (marked_from mark template next rest)
    ∙ ap (λ (ws : List Name). text ++ (marked_item mark template is_first ws ++ marked_from mark template next rest)) split
    ∙ ap (λ (b : Bool). text ++ (marked_item mark template is_first (one ∷ after) ++ marked_from mark template b rest)) next_is
    ∙ ap (λ (ws : List Name). text ++ (marked_item mark template is_first (one ∷ after) ++ marked_from mark template (is_still_first mark is_first one) ws)) rest_is
    ∙ ap (λ t. text ++ t) (sym (marked_next mark template is_first one after))
    ∙ ap (λ (ws : List Name). text ++ marked_from mark template is_first ws) (sym split)
    ∙ so_far

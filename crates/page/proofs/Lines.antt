-- The lines of a text, a line at a time.
use Rattle.std.proofs.Common.{◌≡◌, ◌≢◌, ◌<◌, ℕ, suc, List, [], ◌∷◌, ◌++◌, length, map, get_or, refl, sym, ap, ◌∙◌, arith, ne_eqb, append-nil}
use Rattle.std.proofs.lemmas.List.{nil_from_length}
use Rattle.ir_model.specs.Text.{lines, onto_first}

-- no byte of it is a line feed
abbrev pub HasNoFeed : List ℕ → Type 0
HasNoFeed bytes = (i : ℕ) → i < length bytes → get_or bytes i 0 ≢ 10

line_cut : (line behind : List ℕ) → HasNoFeed line → lines (line ++ 10 ∷ behind) ≡ line ∷ lines behind
line_cut [] behind none = refl
line_cut (b ∷ line) behind none =
    rw (ne_eqb b 10 (none 0 (omega arith))) (ap (onto_first b) (line_cut line behind (λ i less. none (suc i) (omega arith))))

line_last : (line : List ℕ) → HasNoFeed line → 0 < length line → lines line ≡ line ∷ []
line_last [] none some = absurd (omega arith)
line_last (b ∷ []) none some = rw (ne_eqb b 10 (none 0 (omega arith))) refl
line_last (b ∷ c ∷ line) none some =
    rw (ne_eqb b 10 (none 0 (omega arith))) (ap (onto_first b) (line_last (c ∷ line) (λ i less. none (suc i) (omega arith)) (omega arith)))

-- texts that have the lines of what is read
module _ {S : Type 0} (bytes : S → List ℕ) where
  onto_last : (found : List S) (one : S) (more : List (List ℕ)) → map bytes (found ++ one ∷ []) ++ more ≡ map bytes found ++ bytes one ∷ more
  onto_last [] one more = refl
  onto_last (x ∷ found) one more = ap (λ ls. bytes x ∷ ls) (onto_last found one more)

  module _ (text : List ℕ) (found : List S) (rest : List ℕ) (read : lines text ≡ map bytes found ++ lines rest) where
    pub line_more : (one : S) (line behind : List ℕ) → rest ≡ line ++ 10 ∷ behind → HasNoFeed line → bytes one ≡ line → lines text ≡ map bytes (found ++ one ∷ []) ++ lines behind
    line_more one line behind cut none same =
        read ∙ ap (λ ls. map bytes found ++ ls) (ap lines cut ∙ line_cut line behind none)
        ∙ ap (λ l. map bytes found ++ l ∷ lines behind) (sym same) ∙ sym (onto_last found one (lines behind))

    pub all_and_last : (one : S) → HasNoFeed rest → 0 < length rest → bytes one ≡ rest → map bytes (found ++ one ∷ []) ≡ lines text
    all_and_last one none some same =
        sym (append-nil (map bytes (found ++ one ∷ []))) ∙ onto_last found one [] ∙ ap (λ l. map bytes found ++ l ∷ []) same
        ∙ ap (λ ls. map bytes found ++ ls) (sym (line_last rest none some)) ∙ sym read

    pub all_of_it : length rest ≡ 0 → map bytes found ≡ lines text
    all_of_it none = sym (read ∙ ap (λ r. map bytes found ++ lines r) (nil_from_length rest none) ∙ append-nil (map bytes found))

-- A text after others in a list of bytes.
use Rattle.std.proofs.Common.{◌≡◌, ℕ, suc, ◌+◌, ◌-◌, ◌≤◌, List, [], ◌∷◌, ◌++◌, take, drop, length, map, All, refl, ap, sym, ◌∙◌, arith}
use Rattle.std.proofs.lemmas.List.{take_all, take-append-le, drop_at, drop-append-le, length-drop, map_push, length-take-le}
use Rattle.std.proofs.Math.Seq.{take-append-add}
use Rattle.ir_streams.specs.Texts.{text_of}

-- a span lies within these bytes
abbrev LiesIn : List ℕ → ℕ × ℕ → Type 0
LiesIn bytes span = (span.0 ≤ span.1) × (span.1 ≤ length bytes)

module _ (xs ys : List ℕ) where
  text_stays : (span : ℕ × ℕ) → LiesIn xs span → text_of (xs ++ ys) span ≡ text_of xs span
  text_stays span lies =
      ap (take (span.1 - span.0)) (drop-append-le span.0 xs ys (omega (arith, lies.0, lies.1)))
      ∙ take-append-le (span.1 - span.0) (drop span.0 xs) ys (omega (arith, lies.0, lies.1, length-drop span.0 xs))

  pub texts_stay : (spans : List (ℕ × ℕ)) → All (LiesIn xs) spans → map (text_of (xs ++ ys)) spans ≡ map (text_of xs) spans
  texts_stay [] all = refl
  texts_stay (s ∷ spans) all =
      ap (λ (t : List ℕ). t ∷ map (text_of (xs ++ ys)) spans) (text_stays s (all 0 s (omega arith)))
      ∙ ap (λ (ts : List (List ℕ)). text_of xs s ∷ ts) (texts_stay spans (λ k d l. all (suc k) d (omega (arith, l))))

  pub text_added : text_of (xs ++ ys) (length xs, length xs + length ys) ≡ ys
  text_added = ap (take (length xs + length ys - length xs)) (drop_at xs ys (length xs) refl) ∙ take_all (length xs + length ys - length xs) ys (omega arith)

  pub texts_more : (spans : List (ℕ × ℕ)) → All (LiesIn xs) spans
      → map (text_of (xs ++ ys)) (spans ++ (length xs, length xs + length ys) ∷ []) ≡ map (text_of xs) spans ++ ys ∷ []
  texts_more spans all =
      map_push (text_of (xs ++ ys)) spans (length xs, length xs + length ys)
      ∙ ap (λ (ts : List (List ℕ)). ts ++ text_of (xs ++ ys) (length xs, length xs + length ys) ∷ []) (texts_stay spans all)
      ∙ ap (λ (t : List ℕ). map (text_of xs) spans ++ t ∷ []) text_added

-- bytes are put after the first ones of others
pub front_put : (a m : ℕ) (xs ys rest : List ℕ) → a ≤ length xs → m ≤ length ys → take (a + m) (take a xs ++ (ys ++ rest)) ≡ take a xs ++ take m ys
front_put a m xs ys rest within fits =
    ap (λ (k : ℕ). take (k + m) (take a xs ++ (ys ++ rest))) (sym (length-take-le a xs within))
    ∙ take-append-add (take a xs) (ys ++ rest) m
    ∙ ap (λ (t : List ℕ). take a xs ++ t) (take-append-le m ys rest fits)

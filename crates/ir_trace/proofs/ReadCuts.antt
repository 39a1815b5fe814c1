-- A line and its line feed at the front of a text.
use Rattle.std.proofs.Common.{◌≡◌, ◌<◌, ◌+◌, ◌-◌, ℕ, zero, suc, Bool, true, false, not, cond, ◌==◌, List, [], ◌∷◌, length, take, drop, position, Option, Some, None, nat_lt, refl, sym, ap, subst, ◌∙◌, arith}
use Rattle.std.specs.List.{list_all, prefix_len}
use Rattle.std.proofs.lemmas.Bool.{and_from, ltb-true, ltb-false, eqb-true}
use Rattle.std.proofs.lemmas.List.{take_rest}
use Rattle.ir_model.proofs.Pieces.{stops, goes_on, not-true-false, prefix_len-le}
use Rattle.ir_trace.specs.Line.{HasNoFeed, CutsLine}

abbrev is_text : ℕ → Bool
is_text b = not (b == 10)

no_feed : (bs : List ℕ) → prefix_len is_text bs ≡ length bs → HasNoFeed bs
no_feed [] e = refl
no_feed (b ∷ bs) e = let on = goes_on is_text b bs (length bs) e in and_from (is_text b) (list_all is_text bs) on.0 (no_feed bs on.1)

cut_at : (bs : List ℕ) (n : ℕ) → prefix_len is_text bs ≡ n → n < length bs → CutsLine bs (take n bs) (drop (suc n) bs)
cut_at [] n e h = absurd (omega arith)
cut_at (b ∷ bs) zero e h = record { whole = ap (λ c. c ∷ bs) (eqb-true b 10 (not-true-false (b == 10) (stops is_text b bs e))); inside = refl }
cut_at (b ∷ bs) (suc n) e h =
    let on = goes_on is_text b bs n e in
    let later = cut_at bs n on.1 (omega arith) in
    record { whole = ap (λ t. b ∷ t) later.whole; inside = and_from (is_text b) (list_all is_text (take n bs)) on.0 later.inside }

abbrev Found : List ℕ → Option ℕ → Type 0
Found bs None = HasNoFeed bs
Found bs (Some n) = CutsLine bs (take n bs) (drop (suc n) bs)

found : (bs : List ℕ) → Found bs (position (λ b. b == 10) bs)
found bs = by (nat_lt (prefix_len is_text bs) (length bs)) refl
  where
    by : (t : Bool) → nat_lt (prefix_len is_text bs) (length bs) ≡ t → Found bs (cond t (Some (prefix_len is_text bs)) None)
    by true e = cut_at bs (prefix_len is_text bs) refl (ltb-true _ _ e)
    by false e = no_feed bs (omega (arith, ltb-false _ _ e, prefix_len-le is_text bs))

pub no_feed_found : (bs : List ℕ) → None ≡ position (λ b. b == 10) bs → HasNoFeed bs
no_feed_found bs e = subst (Found bs) (sym e) (found bs)

pub feed_found : (bs : List ℕ) (n : ℕ) → Some n ≡ position (λ b. b == 10) bs → CutsLine bs (take n bs) (take (length bs - (n + 1)) (drop (n + 1) bs))
feed_found bs n e =
    let one : n + 1 ≡ suc n = omega arith in
    let rest : take (length bs - (n + 1)) (drop (n + 1) bs) ≡ drop (suc n) bs = take_rest bs (n + 1) ∙ ap (λ k. drop k bs) one in
    subst (λ after. CutsLine bs (take n bs) after) (sym rest) (subst (Found bs) (sym e) (found bs))

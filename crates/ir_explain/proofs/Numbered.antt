-- The lines of a text, one after the other.
use Rattle.std.proofs.Common.{◌≡◌, ℕ, zero, suc, ◌+◌, ◌<◌, ◌≤◌, List, [], ◌∷◌, drop, length, slice_index_or, refl, sym, ap, subst, ◌∙◌, arith}
use Rattle.ir_model.specs.Text.{lines}
use Rattle.ir_explain.specs.Lines.{line_numbered}

-- of the lines from a place on the first is the one at that place, and the others are those from the next place on
front_at : (ls : List (List ℕ)) (k : ℕ) (line : List ℕ) (after : List (List ℕ)) → drop k ls ≡ line ∷ after
    → (line ≡ slice_index_or ls k []) × (after ≡ drop (suc k) ls)
front_at ls zero line after h = (sym (ap (λ x. slice_index_or x 0 []) h), sym (ap (drop 1) h))
front_at [] (suc k) line after h = absurd (omega (arith, ap length h))
front_at (l ∷ ls) (suc k) line after h = front_at ls k line after h

-- where no line is left from a place on, there is none at a later one
none_at : (ls : List (List ℕ)) (k n : ℕ) → drop k ls ≡ [] → k ≤ n → slice_index_or ls n [] ≡ []
none_at [] k zero h le = refl
none_at [] k (suc n) h le = refl
none_at (l ∷ ls) zero n h le = absurd (omega (arith, ap length h))
none_at (l ∷ ls) (suc k) zero h le = absurd (omega (arith, le))
none_at (l ∷ ls) (suc k) (suc n) h le = none_at ls k n h (omega (arith, le))

-- the rest of a text is its lines after so many, and this is the last of those
abbrev pub IsLineBefore : List ℕ → ℕ → List ℕ → List ℕ → Type 0
IsLineBefore text k found rest = (lines rest ≡ drop k (lines text)) × (found ≡ line_numbered text k)

-- the next line
pub line_after : (text rest line after found : List ℕ) (k : ℕ) → IsLineBefore text k found rest → lines rest ≡ line ∷ lines after → IsLineBefore text (k + 1) line after
line_after text rest line after found k is split =
    let at = front_at (lines text) k line (lines after) (sym is.0 ∙ split) in
    let next : suc k ≡ k + 1 = omega arith in
    subst (λ (n : ℕ). IsLineBefore text n line after) next (at.1, at.0)

-- none is left
pub line_behind : (text rest found : List ℕ) (k n : ℕ) → IsLineBefore text k found rest → length rest ≡ 0 → k < n → [] ≡ line_numbered text n
line_behind text rest found k zero is none lt = absurd (omega (arith, lt))
line_behind text [] found k (suc n) is none lt = sym (none_at (lines text) k n (sym is.0) (omega (arith, lt)))
line_behind text (b ∷ rest) found k (suc n) is none lt = absurd (omega (arith, none))

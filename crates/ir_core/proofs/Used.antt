-- The links that installs use: those that are up and heeded.
use Rattle.std.proofs.Common.{◌≡◌, ℕ, zero, suc, ◌+◌, ◌<◌, ◌≤◌, Bool, true, false, List, [], ◌∷◌, ◌++◌, length, get_or, take, replicate, refl, sym, ap, ◌∙◌, arith}
use Rattle.std.specs.Prelude.{◌&&◌}
use Rattle.std.proofs.lemmas.List.{take_more, length-take-le, get_or-take, get_or_default}
use Rattle.ir_core.specs.declared.TheConstants.{MAX_LINKS}
use Rattle.ir_core.specs.declared.board.Board.{Board}
use Rattle.ir_core.specs.Marks.{both}
use Rattle.ir_core.specs.Board.{opening_board, is_used, links_used}

pub length_both : (xs ys : List Bool) → length xs ≡ length ys → length (both xs ys) ≡ length xs
length_both [] ys e = refl
length_both (x ∷ xs) [] e = sym e
length_both (x ∷ xs) (y ∷ ys) e = ap suc (length_both xs ys (omega (arith, e)))

neither : (b : Bool) → (b && false) ≡ false
neither true = refl
neither false = refl

at_both : (xs ys : List Bool) (l : ℕ) → get_or (both xs ys) l false ≡ (get_or xs l false && get_or ys l false)
at_both [] ys l = refl
at_both (x ∷ xs) [] l = sym (neither (get_or (x ∷ xs) l false))
at_both (x ∷ xs) (y ∷ ys) zero = refl
at_both (x ∷ xs) (y ∷ ys) (suc l) = at_both xs ys l

-- the first marks of both lists, and the next one
pub both_more : (xs ys : List Bool) (n l : ℕ) → l < n → n ≤ length xs → n ≤ length ys →
    take (l + 1) (both (take n xs) (take n ys)) ≡ take l (both (take n xs) (take n ys)) ++ (get_or xs l true && get_or ys l true) ∷ []
both_more xs ys n l lt few less =
    let a = length-take-le n xs few in
    let b = length-take-le n ys less in
    let here : (zs : List Bool) → n ≤ length zs → get_or (take n zs) l false ≡ get_or zs l true =
    λ zs le. get_or-take n zs l false lt ∙ get_or_default zs l false true (omega (arith, lt, le)) in
    let value : get_or (both (take n xs) (take n ys)) l false ≡ (get_or xs l true && get_or ys l true) =
    at_both (take n xs) (take n ys) l ∙ ap (λ (x : Bool). x && get_or (take n ys) l false) (here xs few) ∙ ap (λ (y : Bool). get_or xs l true && y) (here ys less) in
    take_more (both (take n xs) (take n ys)) l false (let c = length_both (take n xs) (take n ys) (a ∙ sym b) in omega (arith, a, c, lt))
    ∙ ap (λ (b : Bool). take l (both (take n xs) (take n ys)) ++ b ∷ []) value

true_both : (a b : Bool) → (a && b) ≡ true → (a ≡ true) × (b ≡ true)
true_both true b e = (refl, e)
true_both false b e = absurd (cc e)

-- a mark that is among the first ones
taken_true : (n l : ℕ) (xs : List Bool) → get_or (take n xs) l false ≡ true → get_or xs l true ≡ true
taken_true zero l xs e = absurd (cc e)
taken_true (suc n) l [] e = refl
taken_true (suc n) zero (x ∷ xs) e = e
taken_true (suc n) (suc l) (x ∷ xs) e = taken_true n l xs e

pub used_there : (b : Board) (n l : ℕ) → get_or (links_used b n) l false ≡ true → is_used b l ≡ true
used_there b n l e =
    let parts = true_both _ _ (sym (at_both (take n b.up) (take n b.heeded) l) ∙ e) in
    rw (taken_true n l b.up parts.0, taken_true n l b.heeded parts.1) refl

all_there : (n l : ℕ) → get_or (replicate n true) l true ≡ true
all_there zero l = refl
all_there (suc n) zero = refl
all_there (suc n) (suc l) = all_there n l

-- at first installs use all links
pub used_at_first : (l : ℕ) → is_used opening_board l ≡ true
used_at_first l = rw (all_there MAX_LINKS l) refl

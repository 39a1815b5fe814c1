-- How many members of a set of prefixes pass a test.
use Rattle.std.proofs.Common.{◌≡◌, ℕ, zero, suc, ◌+◌, ◌<◌, ◌≤◌, List, [], ◌∷◌, length, get_or, Bool, true, false, refl, ap, ◌∙◌, arith}
use Rattle.std.specs.List.{Contains}

abbrev pub hit : Bool → ℕ
hit true = 1
hit false = 0

abbrev pub tally : {X : Type 0} → (X → Bool) → List X → ℕ
tally p [] = 0
tally p (x ∷ xs) = hit (p x) + tally p xs

hit_small : (b : Bool) → hit b ≤ 1
hit_small true = omega arith
hit_small false = omega arith

pub tally-le-length : {X : Type 0} (p : X → Bool) (xs : List X) → tally p xs ≤ length xs
tally-le-length p [] = omega arith
tally-le-length p (x ∷ xs) = let h = tally-le-length p xs in let b = hit_small (p x) in omega arith

-- of three tests one at most passes, and only where a fourth does
pub tally_three : {X : Type 0} (p q r s : X → Bool) → ((x : X) → hit (p x) + hit (q x) + hit (r x) ≤ hit (s x)) → (xs : List X) → tally p xs + tally q xs + tally r xs ≤ tally s xs
tally_three p q r s h [] = omega arith
tally_three p q r s h (x ∷ xs) = let e = h x in let k = tally_three p q r s h xs in omega arith

hit_true : (b : Bool) → b ≡ true → hit b ≡ 1
hit_true true e = refl
hit_true false e = absurd cc

some_at : {X : Type 0} (p : X → Bool) (xs : List X) (x : X) (k : ℕ) → k < length xs → get_or xs k x ≡ x → p x ≡ true → 0 < tally p xs
some_at p [] x k l e t = absurd (omega arith)
some_at p (y ∷ xs) x zero l e t = let h = hit_true (p y) (ap p e ∙ t) in omega arith
some_at p (y ∷ xs) x (suc k) l e t = let h = some_at p xs x k (omega arith) e t in omega arith

pub tally_some : {X : Type 0} (p : X → Bool) (xs : List X) (x : X) → Contains xs x → p x ≡ true → 0 < tally p xs
tally_some p xs x c t = some_at p xs x c.0 c.1 c.2 t

first_or_rest : {X : Type 0} (p : X → Bool) (x : X) (xs : List X) (b : Bool) → p x ≡ b → 0 < hit b + tally p xs → (0 < tally p xs → (m : X) × Contains xs m × (p m ≡ true)) → (m : X) × Contains (x ∷ xs) m × (p m ≡ true)
first_or_rest p x xs true e l f = (x, (0, omega arith, refl), e)
first_or_rest p x xs false e l f = let r = f (omega arith) in (r.0, (suc r.1.0, omega (arith, r.1.1), r.1.2), r.2)

pub tally_found : {X : Type 0} (p : X → Bool) (xs : List X) → 0 < tally p xs → (m : X) × Contains xs m × (p m ≡ true)
tally_found p [] l = absurd (omega arith)
tally_found p (x ∷ xs) l = first_or_rest p x xs (p x) refl l (tally_found p xs)

-- The names of a node: which ports are in a list, and what joining two lists makes of them.
use Rattle.std.specs.Prelude.{◌≡◌, ℕ, ◌<◌, ◌==◌, ◌||◌, ◌&&◌, ◌⊎◌, List, [], ◌∷◌, length, Bool, true, false, Option, Some, None}

-- a port is in the list
abbrev pub is_among : List ℕ → ℕ → Bool
is_among [] p = false
is_among (x ∷ xs) p = (x == p) || is_among xs p

-- the names of a node have what a prefix above names, where an empty list has all of them
abbrev pub is_named : List ℕ → Option ℕ → Bool
is_named [] q = true
is_named (x ∷ xs) None = false
is_named (x ∷ xs) (Some p) = is_among (x ∷ xs) p

-- these are the ports of both lists
abbrev pub IsShared : List ℕ → List ℕ → List ℕ → Type 0
IsShared a b c = (p : ℕ) → is_among c p ≡ (is_among a p && is_among b p)

-- and these those of either
abbrev pub IsEither : List ℕ → List ℕ → List ℕ → Type 0
IsEither a b c = (p : ℕ) → is_among c p ≡ (is_among a p || is_among b p)

-- the two lists share no port
abbrev pub AreApart : List ℕ → List ℕ → Type 0
AreApart a b = (p : ℕ) → (is_among a p && is_among b p) ≡ false

-- the ports of both lists, or where there are none those of either
abbrev pub ArePortsOfBoth : List ℕ → List ℕ → List ℕ → Type 0
ArePortsOfBoth a b c = ((0 < length c) × IsShared a b c) ⊎ (AreApart a b × IsEither a b c)

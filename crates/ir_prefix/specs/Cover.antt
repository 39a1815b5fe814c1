-- The prefixes that are given for a trie, each node before what lies below it.
use Rattle.std.specs.Prelude.{◌≡◌, ◌==◌, ◌&&◌, ◌≤◌, count_by, ℕ, ◌+◌, ◌-◌, ◌*◌, ◌^◌, ◌<◌, List, [], ◌∷◌, ◌++◌, Bool, true, false, Option, Some, None, slice_index}
use Rattle.std.specs.List.Sorted.{IsNonDecreasing}
use Rattle.ir_prefix.specs.Joined.{is_named}
use Rattle.ir_prefix.specs.Described.{names_of, Describes, IsJoin, Trie, Free, Alike, Fork}
use Rattle.ir_prefix.specs.declared.cover.Prefix.{Prefix}

-- the prefix of the node so high, the index-th of its height
abbrev pub prefix_at : ℕ → ℕ → ℕ → ℕ → Prefix
prefix_at bits h i p = record { value = i * 2 ^ h; length = bits - h; port = p }

-- a prefix is given unless the one above names one of the node's names
abbrev pub told_unless : Bool → Prefix → List Prefix
told_unless true m = []
told_unless false m = m ∷ []

abbrev pub cover_told : ℕ → ℕ → ℕ → List ℕ → Option ℕ → List Prefix
cover_told bits h i names above = told_unless (is_named names above) (prefix_at bits h i (slice_index names 0))

-- what the node's halves find above them
abbrev pub taken_unless : Bool → Option ℕ → ℕ → Option ℕ
taken_unless true above p = above
taken_unless false above p = Some p

abbrev pub taken : List ℕ → Option ℕ → Option ℕ
taken names above = taken_unless (is_named names above) above (slice_index names 0)

abbrev pub cover_of : ℕ → Trie → ℕ → ℕ → Option ℕ → List Prefix
cover_of bits Free h i above = []
cover_of bits (Alike p) h i above = cover_told bits h i (p ∷ []) above
cover_of bits (Fork names l r) h i above =
    cover_told bits h i names above ++ (cover_of bits l (h - 1) (2 * i) (taken names above) ++ cover_of bits r (h - 1) (2 * i + 1) (taken names above))

-- the prefixes that are given for a trie of these ports
abbrev pub IsCover : List (Option ℕ) → ℕ → List Prefix → Type 0
IsCover ports bits set = (t : Trie) × Describes ports bits 0 t × (set ≡ cover_of bits t bits 0 None)

-- each node is no higher than its height, and has the names that follow from its halves
abbrev pub IsTrie : ℕ → Trie → Type 0
IsTrie h Free = Unit {0}
IsTrie h (Alike p) = Unit {0}
IsTrie h (Fork names l r) = (0 < h) × IsTrie (h - 1) l × IsTrie (h - 1) r × IsJoin (names_of l) (names_of r) names × IsNonDecreasing names

-- no two prefixes have one length and one value
abbrev pub AreDistinct : List Prefix → Type 0
AreDistinct set = (length value : ℕ) → count_by (λ (m : Prefix). (m.length == length) && (m.value == value)) set ≤ 1

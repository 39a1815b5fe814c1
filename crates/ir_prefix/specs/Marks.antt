-- The names of a node as the bits of a number, where each port is below 63, and a trie as a list of marks.
use Rattle.std.specs.Prelude.{◌≡◌, ◌==◌, ◌⊎◌, ℕ, ◌<◌, min, List, [], ◌∷◌, ◌++◌, Option, Some, None, All, IfSome, filter, if◌then◌else◌}
use Rattle.std.specs.Int.{bit_at}
use Rattle.std.specs.Int.Bits.{bit_and, bit_or}
use Rattle.std.specs.List.{range_with_len}
use Rattle.ir_prefix.specs.Described.{Describes, names_of, Trie, Free, Alike, Fork}
use Rattle.ir_prefix.specs.Joined.{is_named}
use Rattle.ir_prefix.specs.declared.marks.Mark.{Mark}
use Rattle.ir_prefix.specs.declared.marks.Mark.TheVariants.{NoPort, OnePort, Pair, Several}

-- a bit can stand for each port
abbrev pub AreLow : List (Option ℕ) → Type 0
AreLow ports = All (λ (o : Option ℕ). IfSome o (λ p. p < 63)) ports

unfoldable pub low_ports : List ℕ
low_ports = range_with_len 0 63

-- the bit of a name: that of the port; the last one is that of no port, and of each port that is not low
abbrev pub bit_of : Option ℕ → ℕ
bit_of None = 63
bit_of (Some p) = min p 63

-- the bits of a number say which names a node has
abbrev pub AreNameBits : List ℕ → ℕ → Type 0
AreNameBits names m = (q : Option ℕ) → is_named names q ≡ (bit_at m (bit_of q) == 1)

-- the low ports whose bits are set, ascending
abbrev pub ports_in : ℕ → List ℕ
ports_in m = filter (λ p. bit_at m p == 1) low_ports

-- the names that two nodes share, or those of both where they share none
abbrev pub joined_bits : ℕ → ℕ → ℕ
joined_bits a b = if bit_and a b == 0 then bit_or a b else bit_and a b

-- the marks of a trie: those of its right half, those of its left half, and its own; or one for it and two halves with one
-- port each
abbrev pub AreMarks : Trie → List Mark → Type 0
AreMarks Free marks = marks ≡ NoPort ∷ []
AreMarks (Alike p) marks = marks ≡ OnePort p ∷ []
AreMarks (Fork names l r) marks =
    ((m : ℕ) × (left : List Mark) × (right : List Mark) × (names ≡ ports_in m) × (marks ≡ (right ++ left) ++ Several m ∷ []) × AreMarks l left × AreMarks r right)
    ⊎ ((m : ℕ) × (p : ℕ) × (q : ℕ) × (names ≡ ports_in m) × (marks ≡ Pair m p q ∷ []) × (l ≡ Alike p) × (r ≡ Alike q))

-- after other marks come those of a trie
abbrev pub EndsIn : Trie → List Mark → List Mark → Type 0
EndsIn t rest marks = (more : List Mark) × AreMarks t more × (marks ≡ rest ++ more)

-- the marks of the node so high, the index-th of its height, are added, and its names are those bits
pub record IsNodeMarked (ports : List (Option ℕ)) (h i m : ℕ) (before after : List Mark) : Type 0 where
  pub trie : Trie
  pub marks : List Mark
  pub describes : Describes ports h i trie
  pub are : AreMarks trie marks
  pub added : after ≡ before ++ marks
  pub bits : AreNameBits (names_of trie) m

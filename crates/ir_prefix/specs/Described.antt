-- The nodes of a trie.
use Rattle.std.specs.Prelude.{◌≡◌, ℕ, ◌+◌, ◌-◌, ◌*◌, ◌/◌, ◌^◌, ◌<◌, ◌||◌, ◌&&◌, ◌⊎◌, List, [], ◌∷◌, length, false, Option, Some}
use Rattle.std.specs.List.Sorted.{IsNonDecreasing}
use Rattle.ir_model.specs.Compiled.{port_to}
use Rattle.ir_prefix.specs.Joined.{is_named, ArePortsOfBoth}

-- A trie: no port lies below it, one port, or several. Of several, the names by which it needs the fewest prefixes,
-- ascending, and its two halves.
pub data Trie : Type 0 where
  Free : Trie
  Alike : ℕ → Trie
  Fork : List ℕ → Trie → Trie → Trie

abbrev pub names_of : Trie → List ℕ
names_of Free = []
names_of (Alike p) = p ∷ []
names_of (Fork names l r) = names

abbrev pub IsFree : Trie → Type 0
IsFree Free = Unit {0}
IsFree (Alike p) = ⊥
IsFree (Fork names l r) = ⊥

-- no port or this one lies below
abbrev pub IsAlike : Trie → ℕ → Type 0
IsAlike Free q = Unit {0}
IsAlike (Alike p) q = p ≡ q
IsAlike (Fork names l r) q = ⊥

-- the node of two halves
abbrev pub IsNodeOfHalves : Trie → Trie → Trie → Type 0
IsNodeOfHalves l r Free = IsFree l × IsFree r
IsNodeOfHalves l r (Alike p) = IsAlike l p × IsAlike r p × ((l ≡ Alike p) ⊎ (r ≡ Alike p))
IsNodeOfHalves l r (Fork names x y) = (x ≡ l) × (y ≡ r) × (IsFree l → IsFree r → ⊥) × ArePortsOfBoth (names_of l) (names_of r) names × IsNonDecreasing names

-- how the names of a node follow from those of its halves
pub record IsJoin (a b c : List ℕ) : Type 0 where
  pub some : 0 < length c
  pub joins : ((q : Option ℕ) → is_named c q ≡ (is_named a q && is_named b q))
      ⊎ ((q : Option ℕ) → ((is_named a q && is_named b q) ≡ false) × (is_named c q ≡ (is_named a q || is_named b q)))

-- what the node so high, the index-th of its height, says of the ports of its numbers
abbrev pub Describes : List (Option ℕ) → ℕ → ℕ → Trie → Type 0
Describes ports h i Free = (x p : ℕ) → x / 2 ^ h ≡ i → port_to ports x ≡ Some p → ⊥
Describes ports h i (Alike p) = ((x r : ℕ) → x / 2 ^ h ≡ i → port_to ports x ≡ Some r → r ≡ p) × ((x : ℕ) × (x / 2 ^ h ≡ i) × (port_to ports x ≡ Some p))
Describes ports h i (Fork names l r) =
    (0 < h) × Describes ports (h - 1) (2 * i) l × Describes ports (h - 1) (2 * i + 1) r × IsJoin (names_of l) (names_of r) names × IsNonDecreasing names

-- Blocks of numbers, each divided until it is no label's, the own label's alone, or of one port.
use Rattle.std.specs.Prelude.{◌≡◌, ℕ, ◌+◌, ◌-◌, ◌*◌, ◌/◌, ◌^◌, ◌<◌, ◌≤◌, List, [], ◌∷◌, ◌++◌, length, Option, Some, None}
use Rattle.ir_model.specs.Compiled.{port_to}
use Rattle.ir_prefix.specs.Cover.{prefix_at}
use Rattle.ir_prefix.specs.declared.cover.Prefix.{Prefix}
use Rattle.ir_prefix.specs.Runs.{HasTwo}

-- a part: a block of numbers beyond the labels, of labels without a port, of one port, or its two halves
pub data Part : Type 0 where
  Beyond : Part
  Unsent : Part
  OnePort : ℕ → Part
  Halves : Part → Part → Part

-- what a part says of the numbers of such a block
abbrev pub Divides : List (Option ℕ) → ℕ → ℕ → Part → Type 0
Divides ports h i Beyond = (x : ℕ) → x / 2 ^ h ≡ i → length ports ≤ x
Divides ports h i Unsent = (x : ℕ) → x / 2 ^ h ≡ i → (x < length ports) × (port_to ports x ≡ None)
Divides ports h i (OnePort p) =
    ((x : ℕ) → x / 2 ^ h ≡ i → x < length ports) × ((x r : ℕ) → x / 2 ^ h ≡ i → port_to ports x ≡ Some r → r ≡ p)
    × ((x : ℕ) × (x / 2 ^ h ≡ i) × (port_to ports x ≡ Some p))
Divides ports h i (Halves l r) = (0 < h) × Divides ports (h - 1) (2 * i) l × Divides ports (h - 1) (2 * i + 1) r × HasTwo ports h i

-- a prefix for each part of one port
abbrev pub pieces_of : ℕ → Part → ℕ → ℕ → List Prefix
pieces_of bits Beyond h i = []
pieces_of bits Unsent h i = []
pieces_of bits (OnePort p) h i = prefix_at bits h i p ∷ []
pieces_of bits (Halves l r) h i = pieces_of bits l (h - 1) (2 * i) ++ pieces_of bits r (h - 1) (2 * i + 1)

-- Two networks of the same nodes, in whatever order each has them.
use Rattle.std.specs.Prelude.{◌≡◌, ℕ, Bool, true, not, is_some, unwrap_or, List, Option, None, Some, bytes_eq, map}
use Rattle.std.specs.List.{list_all, position}
use Rattle.ir_model.specs.Graph.{Name}
use Rattle.ir_patches.specs.declared.nodes.OtherNode.{OtherNode}
use Rattle.ir_patches.specs.declared.nodes.OtherNode.TheVariants.{Unknown, Missing}

-- the name is one of these
abbrev pub is_there : List Name → Name → Bool
is_there nodes name = is_some (position (bytes_eq name) nodes)

-- the number of a name among these; 0 for one that is not there
abbrev pub number_named : List Name → Name → ℕ
number_named nodes name = unwrap_or (position (bytes_eq name) nodes) 0

-- the numbers that one network has for the nodes of another
abbrev pub numbers_in : (old nodes : List Name) → List ℕ
numbers_in old nodes = map (number_named old) nodes

-- the first of these names that is not among others
abbrev pub first_other : List Name → List Name → Option ℕ
first_other others nodes = position (λ name. not (is_there others name)) nodes

-- all of these names are among others
abbrev pub are_there : List Name → List Name → Bool
are_there others nodes = list_all (is_there others) nodes

-- each of two networks has all nodes of the other
abbrev pub HaveSameNodes : (old new : List Name) → Type 0
HaveSameNodes old new = (are_there old new ≡ true) × (are_there new old ≡ true)

-- The first node of the new network that the old one has not; or, where it has all of them, the first node of the old
-- network that the new one has not.
abbrev pub IsOtherNode : (old new : List Name) → OtherNode → Type 0
IsOtherNode old new (Unknown u) = first_other old new ≡ Some u
IsOtherNode old new (Missing u) = (first_other old new ≡ None) × (first_other new old ≡ Some u)

-- The row of a node within a bound, and the marks that it is chosen by.
use Rattle.std.specs.Prelude.{◌≡◌, ◌↔◌, ℕ, ◌+◌, ◌<◌, ◌≤◌, Bool, true, false, Option, List, length, slice_index, slice_index_or}
use Rattle.ir_model.specs.Topology.{Topology, node_count}
use Rattle.ir_model.specs.Row.{Start, intervals_of}
use Rattle.ir_model.specs.Compiled.{IsDestinations, IsCanonical}
use Rattle.ir_model.specs.Choices.{AreChoices, AreChosen, FitsChoices, IsFewestOfChoices}
use Rattle.ir_model.specs.Within.{MayLead}

-- the label d is that of a node, and the port p of the node with the label a leads to it within the bound
abbrev pub MayTakePort : Topology → (ℕ → ℕ → ℕ → Type 0) → List ℕ → ℕ → ℕ → ℕ → Type 0
MayTakePort net bound order a d p = (d < node_count net) × MayLead net bound order a d p

-- the marks of a port of this weight, by label: where the weight and their bound are within the own one
pub record AreMarksWithin (n : ℕ) (order : List ℕ) (weight : ℕ) (own theirs : List ℕ) (row : List Bool) : Type 0 where
  pub every : length row ≡ n
  pub marks : (d : ℕ) → d < n → (slice_index_or row d false ≡ true) ↔ (weight + slice_index theirs (slice_index order d) ≤ slice_index own (slice_index order d))

-- The row of the node with the label a is the canonical one of the ports that the rule chooses of those that lead
-- within the bound. Its intervals give each label but a such a port, and no fewer intervals do.
pub record IsRowWithin (net : Topology) (bound : ℕ → ℕ → ℕ → Type 0) (order : List ℕ) (a : ℕ) (row : List Start) : Type 0 where
  pub ports : List (Option ℕ)
  pub choices : AreChoices (node_count net) a (MayLead net bound order a)
  pub chosen : AreChosen (node_count net) a (MayLead net bound order a) ports
  pub destinations : IsDestinations (node_count net) a ports
  pub canonical : IsCanonical (node_count net) a ports row
  pub fits : FitsChoices (node_count net) a (MayLead net bound order a) (intervals_of row)
  pub fewest : IsFewestOfChoices (node_count net) a (MayLead net bound order a) (length row)

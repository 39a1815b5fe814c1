-- What a stamp knows, and of which registry it is.
use Rattle.std.specs.Prelude.{◌≡◌, ℕ, List, map}
use Rattle.once_cell.specs.Once.{cell_name}
use Rattle.ir_model.specs.Plan.{Plan}
use Rattle.ir_epochs.specs.declared.registry.Registry.{Registry}
use Rattle.ir_epochs.specs.declared.registry.Stamp.{Stamp}

-- which epoch a stamp is of
abbrev pub epoch_of : Stamp → ℕ
epoch_of s = s.epoch

-- the plan of its epoch
abbrev pub knows : Stamp → Plan
knows s = s.known.value

-- the names of its registry's cells, by which registries are told apart
abbrev pub registry_name : Stamp → List ℕ
registry_name s = s.registry.numbers

-- the stamp is of this registry
abbrev pub IsOf : Registry → Stamp → Type 0
IsOf r s = registry_name s ≡ map cell_name r.cells

-- Stamps that know the plans of others.
use Rattle.std.specs.Prelude.{◌≡◌, List, All}
use Rattle.ir_epochs.specs.declared.registry.Stamp.{Stamp}
use Rattle.ir_epochs.specs.Stamps.{knows, registry_name}

-- they are all of the registry of this one
abbrev pub AreOfOne : Stamp → List Stamp → Type 0
AreOfOne s stamps = All (λ t. registry_name t ≡ registry_name s) stamps

-- it knows the plan of each of these that is of its epoch
abbrev pub Agrees : List Stamp → Stamp → Type 0
Agrees stamps s = All (λ t. s.epoch ≡ t.epoch → knows s ≡ knows t) stamps

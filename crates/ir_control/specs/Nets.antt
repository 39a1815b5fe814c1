-- What a clause reads of a net.
use Rattle.std.specs.Prelude.{◌≡◌, Some}
use Rattle.std.specs.Arc.{arc_value}
use Rattle.ir_model.specs.Plan.{Plan}
use Rattle.ir_core.specs.declared.opening.Opening.{Opening}
use Rattle.ir_plan.specs.Building.{FromRoot}
use Rattle.ir_core.specs.Meaning.{IsMade}
use Rattle.ir_epochs.specs.declared.registry.Registry.{Registry}
use Rattle.ir_epochs.specs.declared.registry.Stamp.{Stamp}
use Rattle.ir_epochs.specs.Stamps.{knows}
use Rattle.ir_control.specs.declared.net.Net.{Net}

-- the plan of epoch 1
abbrev pub first_plan : Net → Plan
first_plan net = knows net.opening

-- the registry of its plans, and the stamp of epoch 1
abbrev pub registry_in : Net → Registry
registry_in net = arc_value net.registry

abbrev pub first_stamp : Net → Stamp
first_stamp net = net.opening

-- A net for this opening: epoch 1 has a plan of the opening's kind and root over all links, labelled in its order.
pub record IsNetFor (opening : Opening) (net : Net) : Type 0 where
  pub topology : net.topology ≡ opening.topology
  pub labels : net.labels ≡ opening.labels
  pub keeps : net.keeps ≡ opening.keeps
  pub first : IsMade (FromRoot opening.labels opening.root) opening.kind opening.topology (Some (first_plan net))
  pub capacity : net.capacity ≡ opening.capacity
  pub max_packets : net.max_packets ≡ opening.max_packets
  pub restamps : net.restamps ≡ opening.restamps

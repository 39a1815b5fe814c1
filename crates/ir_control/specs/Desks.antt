-- What commands change.
use Rattle.ir_control.specs.declared.injector.Injector.{Injector}
use Rattle.ir_control.specs.declared.controller.Controller.{Controller}
use Rattle.ir_control.specs.declared.net.Parts.{Parts}

-- the injector and the controller of a net
pub record Desk (B : Type 0) : Type 0 where
  pub injector : Injector
  pub controller : Controller B

abbrev pub desk_of : {B : Type 0} → Parts B → Desk B
desk_of parts = record { injector = parts.injector; controller = parts.controller }

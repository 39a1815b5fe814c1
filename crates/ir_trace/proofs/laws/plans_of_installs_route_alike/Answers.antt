use Rattle.ir_trace.proofs.Routing.{plans_alike}
use Rattle.ir_trace.proofs.laws.plans_of_installs_route_alike.Goals as goal

pub returns : goal.returns
returns c = plans_alike

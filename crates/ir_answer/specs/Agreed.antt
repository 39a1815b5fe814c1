-- That a check has one right answer.
use Rattle.std.specs.Prelude.{◌≡◌, List}
use Rattle.ir_model.specs.Topology.{Topology}
use Rattle.ir_model.specs.Plan.{Plan}
use Rattle.ir_core.specs.declared.built.Install.{Install}
use Rattle.ir_trace.specs.Checked.{ArePlansOf}
use Rattle.ir_cli.specs.Answer.{Answer}

-- Two lists of installs have the same plans: a list of plans is of the one where it is of the other. So what is found by
-- the one is found by the other.
pub record HaveSamePlans (topology : Topology) (installs others : List Install) : Type 0 where
  pub there : (plans : List Plan) → ArePlansOf topology installs plans → ArePlansOf topology others plans
  pub back : (plans : List Plan) → ArePlansOf topology others plans → ArePlansOf topology installs plans

-- No two answers are of these.
abbrev pub HaveOneAnswer : (Answer → Type 0) → Type 0
HaveOneAnswer answers = (one other : Answer) → answers one → answers other → one ≡ other

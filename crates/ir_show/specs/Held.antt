-- The text of a plan as the program holds it.
use Rattle.std.specs.Prelude.{◌≡◌, ℕ, List, [], Some}
use Rattle.ir_model.specs.Graph.{names}
use Rattle.ir_show.specs.declared.plan_text.PlanText.TheInside.{Inside}
use Rattle.ir_show.specs.Blocks.{ArePieces}
use Rattle.ir_show.specs.PlanText.{plan_text}

abbrev pub plan_text_held : Inside → List ℕ
plan_text_held held = plan_text (names held.pieces.graph) held.pieces.plan

-- nothing is written of the text
pub record IsHeld (held : Inside) : Type 0 where
  pub pieces : ArePieces held.pieces
  pub parts : held.parts ≡ Some []

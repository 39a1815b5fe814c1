-- The refusals of a plan: their numbers, and what those of the layers below come to.
use Rattle.std.specs.Prelude.{ℕ}
use Rattle.ir_plan.specs.declared.error.PlanError.{PlanError}
use Rattle.ir_plan.specs.declared.error.PlanError.TheVariants.{NoNode, Empty, Disconnected, NoMemory}
use Rattle.ir_numbering.specs.declared.error.NumberError.{NumberError}
use Rattle.ir_numbering.specs.declared.error.NumberError.TheVariants as number

abbrev pub plan_code : PlanError → ℕ
plan_code NoNode = 1
plan_code Empty = 2
plan_code Disconnected = 3
plan_code NoMemory = 4

abbrev pub from_number : NumberError → PlanError
from_number number.NoNode = NoNode
from_number number.Disconnected = Disconnected
from_number number.NoMemory = NoMemory

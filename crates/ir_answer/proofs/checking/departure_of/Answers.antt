use Rattle.std.proofs.Common.{◌≡◌, ◌+◌, ◌-◌, ℕ, List, Option, Some, None, slice_get, arith}
use Rattle.std.specs.Prelude.{IfSome}
use Rattle.ir_model.specs.Plan.{Plan}
use Rattle.ir_trace.specs.declared.departing.Departure.{Departure}
use Rattle.ir_trace.specs.Leaving.{IsDeparture}
use Rattle.ir_trace.specs.Row.{TraceRow}
use Rattle.ir_answer.specs.Checks.{LeavesOn}
use Rattle.ir_answer.proofs.checking.departure_of.Goals as goal

leaves_on : (plans : List Plan) (rows : List TraceRow) (line place : ℕ) (row : TraceRow) (found : Option Departure) → line ≡ place + 2 → slice_get rows place ≡ Some row → IsDeparture plans row found
    → IfSome found (LeavesOn plans rows line)
leaves_on plans rows line place row None number at is = tt
leaves_on plans rows line place row (Some departure) number at is = (place, row, number, at, is)

pub first_departure-requires : goal.first_departure-requires
first_departure-requires c = record {
  topology = c.args.topology.now;
  plans_are = c.requires.plans;
  row_is = c.requires.rows (c.args.finding.line - 2) c.row.result.now c.row.ensures;
}

pub returns : goal.returns
returns c =
    let number : c.args.finding.line ≡ c.args.finding.line - 2 + 2 = omega (arith, c.if-finding-lt2.false) in
    leaves_on c.args.plans.now c.args.read.now c.args.finding.line (c.args.finding.line - 2) c.row.result.now c.first_departure.result number c.row.ensures c.first_departure.ensures

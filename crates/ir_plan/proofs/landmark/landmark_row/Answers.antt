use Rattle.std.proofs.Common.{List}
use Rattle.std.proofs.lemmas.Result.{IfOk-weaker}
use Rattle.std.specs.Prelude.{slice_index}
use Rattle.ir_model.specs.declared.Kind.TheVariants.{Landmark}
use Rattle.ir_model.specs.Row.{Start}
use Rattle.ir_model.specs.Landmark.{IsLandmarkBound}
use Rattle.ir_bounds.specs.Rows.{IsRowWithin}
use Rattle.ir_bounds.specs.Detours.{AreDetourBounds}
use Rattle.ir_plan.specs.NodeRows.{IsNodeRow}
use Rattle.ir_plan.proofs.LandmarkPlans.{row_of_detour}
use Rattle.ir_plan.proofs.landmark.landmark_row.Goals as goal

pub returns-in-Some : goal.returns-in-Some
returns-in-Some c =
    let net = c.args.topology.now in
    let numbers = c.args.numbering.now in
    let a = slice_index numbers.labels c.args.u in
    let held = c.in-Some.held in
    let are : AreDetourBounds net (slice_index numbers.order 0) c.args.detour held = rw c.in-Some.is at c.requires.bounds in
    IfOk-weaker c.row.result (λ (row : List Start). IsRowWithin net (IsLandmarkBound net held.owners.landmarks.items held.stretch) numbers.order a row)
    (λ (row : List Start). IsNodeRow (Landmark c.args.detour) net numbers.order numbers.parents a row)
    (λ row is. row_of_detour net numbers.order numbers.parents a c.args.detour held are row is)
    c.row.ensures

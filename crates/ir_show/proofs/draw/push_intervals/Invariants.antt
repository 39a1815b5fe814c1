use Rattle.std.proofs.Common.{◌≡◌, ◌++◌, ◌==◌, length, take, filter, string_bytes}
use Rattle.ir_model.specs.Row.{intervals_of}
use Rattle.ir_model.specs.Plan.{row_in}
use Rattle.ir_show.specs.Drawing.{goes_by}
use Rattle.ir_show.proofs.Drawn.{shown_intervals}
use Rattle.ir_show.proofs.draw.push_intervals.Given as goal

abbrev pub invariant-loop-i : goal.invariant-loop-i
invariant-loop-i l =
    (string_bytes l.text ≡ string_bytes l.fn.text ++ shown_intervals (goes_by l.plan.topology l.u l.link) (take l.i (intervals_of (row_in l.plan l.u))))
    × (l.first ≡ (length (filter (goes_by l.plan.topology l.u l.link) (take l.i (intervals_of (row_in l.plan l.u)))) == 0))

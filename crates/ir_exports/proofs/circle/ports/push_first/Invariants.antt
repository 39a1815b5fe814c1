use Rattle.std.proofs.Common.{◌≡◌, ◌++◌, ◌==◌, length, take, filter, flat_map, string_bytes}
use Rattle.ir_model.specs.Interval.{PortInterval}
use Rattle.ir_model.specs.Row.{intervals_of}
use Rattle.ir_model.specs.Plan.{row_in}
use Rattle.ir_trace.specs.Rows.{spaced}
use Rattle.ir_exports.specs.Ports.{said}
use Rattle.ir_exports.proofs.circle.ports.push_first.Given as goal

abbrev pub invariant-loop-i : goal.invariant-loop-i
invariant-loop-i l =
    (string_bytes l.text ≡ string_bytes l.fn.text ++ flat_map (λ (m : PortInterval). spaced (said m)) (take 6 (filter (λ (m : PortInterval). m.port == l.port) (take l.i (intervals_of (row_in l.plan l.u))))))
    × (l.seen ≡ length (filter (λ (m : PortInterval). m.port == l.port) (take l.i (intervals_of (row_in l.plan l.u)))))

use Rattle.std.proofs.Common.{◌≡◌, ◌∙◌, refl, sym, ap, get_or}
use Rattle.ir_model.specs.Interval.{PortInterval}
use Rattle.ir_model.specs.Row.{intervals_of}
use Rattle.ir_model.proofs.Rows.{interval_is}
use Rattle.ir_show.specs.WalkText.{no_interval}
use Rattle.ir_show.proofs.WalkLines.{begins_at}
use Rattle.ir_show.proofs.interval.interval_of.Goals as goal

pub returns : goal.returns
returns c =
    let row = c.args.row.now in
    let m = get_or (intervals_of row) c.args.i no_interval in
    let start : c.start.result ≡ m.start = begins_at row c.args.i c.start.result c.requires c.start.ensures in
    let end : c.end_of.result ≡ m.end = c.end_of.ensures in
    let port : c.port.result ≡ m.port = c.port.ensures ∙ ap (λ (m : PortInterval). m.port) (sym (interval_is row c.args.i no_interval c.requires)) in
    rw (start, end, port) refl

use Rattle.std.proofs.Common.{◌≡◌, ◌∙◌, ap}
use Rattle.ir_model.specs.Interval.{PortInterval}
use Rattle.ir_model.specs.Plan.{label_in, row_in}
use Rattle.ir_show.specs.Intervals.{as_interval}
use Rattle.ir_show.specs.WalkText.{interval_with}
use Rattle.ir_show.proofs.walk.stop_of.Goals as goal

pub returns-clause-stop : goal.returns-clause-stop
returns-clause-stop c =
    let s = c.args.plan.now in
    let row = row_in s c.args.u in
    let is : as_interval c.interval_with-interval.result ≡ interval_with row (label_in s c.args.to) =
    c.interval_with-interval.ensures ∙ ap (λ r. interval_with r c.label_of.result) c.row.ensures.row ∙ ap (interval_with row) c.label_of.ensures in
    record {
      before = c.requires.other;
      label = c.label_of-2.ensures;
      start = ap (λ (m : PortInterval). m.start) is;
      end = ap (λ (m : PortInterval). m.end) is;
      hop = c.hop_towards.ensures;
    }

use Rattle.std.proofs.Common.{◌≡◌, ◌∙◌, ◌++◌, ℕ, List, ap, string_bytes}
use Rattle.std.proofs.Common.{get_or}
use Rattle.std.specs.Prelude.{◌*◌, codes, decimal, false}
use Rattle.ir_model.specs.Interval.{PortInterval}
use Rattle.ir_model.specs.Topology.{node_count}
use Rattle.ir_model.specs.Row.{intervals_of}
use Rattle.ir_model.specs.Plan.{row_in}
use Rattle.ir_show.specs.WalkText.{no_interval}
use Rattle.ir_exports.specs.Around.{outside_start, bound}
use Rattle.ir_show.specs.Intervals.{as_interval}
use Rattle.ir_exports.proofs.Written.{followed, two}
use Rattle.ir_exports.proofs.circle.around.push_bound.Goals as goal

pub returns : goal.returns
returns c =
    let old = string_bytes c.args.text.now in
    let it = as_interval c.interval_at-interval.result in
    let m = get_or (intervals_of (row_in c.args.plan.now c.args.u)) c.args.i no_interval in
    let count : c.nodes.result ≡ node_count c.args.plan.now.topology = c.nodes.ensures.count in
    let is : it ≡ m = c.interval_at-interval.ensures.interval in
    let here : string_bytes c.write.new.self ≡ old ++ (outside_start c.nodes.result (2 * it.start) false ++ (decimal it.start ++ codes "</text>\n")) =
    followed old (outside_start c.nodes.result (2 * it.start) false) ((decimal it.start ++ codes "</text>\n")) (string_bytes c.push_outside.new.text) (string_bytes c.write.new.self) c.in_ok-push_outside.ensures c.in_ok-write.ensures.bytes in
    here
    ∙ ap (λ (t : List ℕ). old ++ t) (two (outside_start c.nodes.result (2 * it.start) false) (decimal it.start) (codes "</text>\n"))
    ∙ ap (λ (n : ℕ). old ++ (bound n it)) count
    ∙ ap (λ (x : PortInterval). old ++ (bound (node_count c.args.plan.now.topology) x)) is

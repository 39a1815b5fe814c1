use Rattle.std.proofs.Common.{◌≡◌, ◌<◌, ◌∙◌, ℕ, ap, sym, subst, length, get_or, arith}
use Rattle.std.specs.List.{All}
use Rattle.std.proofs.lemmas.List.{get_or-map}
use Rattle.std.proofs.lemmas.List.Elements.{All-get_or}
use Rattle.ir_model.specs.Interval.{PortInterval}
use Rattle.ir_model.specs.Topology.{node_count, ports_of}
use Rattle.ir_model.specs.Row.{Start, intervals_of}
use Rattle.ir_model.specs.Plan.{row_in}
use Rattle.ir_model.proofs.Rows.{no_start, interval_is, length-intervals_of}
use Rattle.ir_show.specs.Intervals.{as_interval}
use Rattle.ir_show.specs.WalkText.{no_interval}
use Rattle.ir_show.proofs.PlanLines.{leads}
use Rattle.ir_show.proofs.interval.interval_at.Goals as goal

pub returns-clause-interval : goal.returns-clause-interval
returns-clause-interval c = c.interval_of.ensures ∙ ap (λ r. get_or (intervals_of r) c.args.i no_interval) c.row.ensures.row

pub returns-clause-start : goal.returns-clause-start
returns-clause-start c =
    let n = node_count c.args.plan.now.topology in
    let row = row_in c.args.plan.now c.args.u in
    let is : as_interval c.interval_of.result ≡ get_or (intervals_of row) c.args.i no_interval = c.interval_of.ensures ∙ ap (λ r. get_or (intervals_of r) c.args.i no_interval) c.row.ensures.row in
    let Within : PortInterval → Type 0 = λ m. (m.start < n) × (m.end < n) in
    let within : All Within (intervals_of row) = rw c.row.ensures.row at c.row.ensures.fits.within in
    let P : ℕ → Type 0 = λ x. x < n in
    subst P (sym (ap (λ (m : PortInterval). m.start) is)) (All-get_or Within (intervals_of row) c.args.i no_interval (omega (arith, length-intervals_of row, c.requires.place)) within).0

pub returns-clause-end : goal.returns-clause-end
returns-clause-end c =
    let n = node_count c.args.plan.now.topology in
    let row = row_in c.args.plan.now c.args.u in
    let is : as_interval c.interval_of.result ≡ get_or (intervals_of row) c.args.i no_interval = c.interval_of.ensures ∙ ap (λ r. get_or (intervals_of r) c.args.i no_interval) c.row.ensures.row in
    let Within : PortInterval → Type 0 = λ m. (m.start < n) × (m.end < n) in
    let within : All Within (intervals_of row) = rw c.row.ensures.row at c.row.ensures.fits.within in
    let P : ℕ → Type 0 = λ x. x < n in
    subst P (sym (ap (λ (m : PortInterval). m.end) is)) (All-get_or Within (intervals_of row) c.args.i no_interval (omega (arith, length-intervals_of row, c.requires.place)) within).1

pub returns-clause-port : goal.returns-clause-port
returns-clause-port c =
    let row = row_in c.args.plan.now c.args.u in
    let is : as_interval c.interval_of.result ≡ get_or (intervals_of row) c.args.i no_interval = c.interval_of.ensures ∙ ap (λ r. get_or (intervals_of r) c.args.i no_interval) c.row.ensures.row in
    let port : c.interval_of.result.port ≡ (get_or row c.args.i no_start).port =
    ap (λ (m : PortInterval). m.port) (is ∙ interval_is row c.args.i no_interval c.requires.place) ∙ get_or-map (λ (t : Start). t.port) row c.args.i no_start 0 c.requires.place in
    let P : ℕ → Type 0 = λ p. p < length (ports_of c.args.plan.now.topology c.args.u) in
    subst P (sym port) (leads c.args.plan.now c.requires.plan c.args.u c.args.i c.requires.node c.requires.place).port

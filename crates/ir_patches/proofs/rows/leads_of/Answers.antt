use Rattle.std.proofs.Common.{◌≡◌, ◌≤◌, ◌∙◌, ℕ, List, length, map, sym, ap, subst, arith}
use Rattle.std.specs.List.Sorted.{IsStrictlyIncreasing}
use Rattle.std.proofs.lemmas.List.{length-map, take_all}
use Rattle.ir_diff.specs.Changes.{lead_starts}
use Rattle.ir_model.specs.Plan.{by_label, label_in, row_in}
use Rattle.ir_model.specs.Row.{labels}
use Rattle.ir_model.specs.Topology.{node_count}
use Rattle.ir_plan.proofs.Standing.{short_row}
use Rattle.ir_patches.specs.DiffText.{lead_of}
use Rattle.ir_patches.proofs.Leads.{starts_are}
use Rattle.ir_patches.proofs.rows.leads_of.Goals as goal

pub returns-clause-ascending : goal.returns-clause-ascending
returns-clause-ascending c =
    let s = c.args.plan.now in
    let row = row_in s c.args.u in
    let f = lead_of c.args.numbers.now s.topology c.args.u in
    let past : length row ≤ c.loop-place.place = omega (arith, c.loop-place-test.false, c.len-count.ensures.len, ap length c.row.ensures.row) in
    let whole : c.loop-place.leads.items ≡ map f row = c.loop-place.invariant ∙ ap (map f) (take_all c.loop-place.place row past) in
    let starts : lead_starts c.loop-place.leads.items ≡ labels row = ap lead_starts whole ∙ starts_are c.args.numbers.now s.topology c.args.u row in
    subst (λ (ks : List ℕ). IsStrictlyIncreasing ks) (ap labels c.row.ensures.row ∙ sym starts) c.len-count.ensures.ascending

pub returns-clause-few : goal.returns-clause-few
returns-clause-few c =
    let s = c.args.plan.now in
    let row = row_in s c.args.u in
    let f = lead_of c.args.numbers.now s.topology c.args.u in
    let past : length row ≤ c.loop-place.place = omega (arith, c.loop-place-test.false, c.len-count.ensures.len, ap length c.row.ensures.row) in
    let whole : c.loop-place.leads.items ≡ map f row = c.loop-place.invariant ∙ ap (map f) (take_all c.loop-place.place row past) in
    let short = short_row (node_count s.topology) (label_in s c.args.u) (by_label s c.args.u) row (c.requires.plan.rows c.args.u c.requires.node) in
    let few = c.requires.plan.topology.few_nodes in
    let long : length c.loop-place.leads.items ≡ length row = ap length whole ∙ length-map row f in
    omega (arith, short, few, long)

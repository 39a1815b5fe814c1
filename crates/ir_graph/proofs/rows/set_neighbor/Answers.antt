use Rattle.std.proofs.Common.{map, ◌∙◌, sym, ap, is_some, string_bytes, true≢false}
use Rattle.ir_model.specs.Graph.{put}
use Rattle.ir_graph.proofs.Views.{change_row-view, present_at, set_value-put}
use Rattle.ir_graph.proofs.rows.set_neighbor.Goals as goal

pub returns-in-Some : goal.returns-in-Some
returns-in-Some c =
    let there = present_at c.args.rows.now.entries c.args.at c.index_mut-row.result.now c.args.name.now c.index_mut-row.ensures.value c.requires.there in
    change_row-view c.args.rows.now.entries c.args.at c.index_mut-row.result.now (c.get_mut.follows.lender c.args.weight) (λ es. put es c.args.name.now c.args.weight) c.index_mut-row.ensures.value
    (ap (map (λ e. (string_bytes e.0, e.1))) (c.get_mut.follows.holds c.args.weight).0 ∙ set_value-put c.index_mut-row.result.now.entries c.args.name.now c.args.weight there)

pub returns-in_default : goal.returns-in_default
returns-in_default c =
    let there = present_at c.args.rows.now.entries c.args.at c.index_mut-row.result.now c.args.name.now c.index_mut-row.ensures.value c.requires.there in
    absurd (true≢false (sym there ∙ sym (ap is_some c.in_default.ensures.value)))

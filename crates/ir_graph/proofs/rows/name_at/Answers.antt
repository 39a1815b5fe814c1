use Rattle.std.proofs.Common.{◌∙◌, ap, Some, string_bytes, List, ℕ}
use Rattle.ir_graph.specs.View.{row_view}
use Rattle.ir_graph.proofs.Views.{key_at-view}
use Rattle.ir_graph.proofs.rows.name_at.Goals as goal

pub returns-in-Some : goal.returns-in-Some
returns-in-Some c = ap (λ (x : List ℕ). Some x) c.as_str.ensures.value ∙ key_at-view string_bytes row_view c.args.rows.now.entries c.args.place _ c.in-Some.ensures.entry

pub returns-in-None : goal.returns-in-None
returns-in-None c = key_at-view string_bytes row_view c.args.rows.now.entries c.args.place _ c.in-None.ensures.entry

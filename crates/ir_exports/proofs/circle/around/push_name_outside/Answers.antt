use Rattle.std.proofs.Common.{◌≡◌, ◌++◌, string_bytes}
use Rattle.ir_model.specs.Graph.{names}
use Rattle.ir_trace.specs.Written.{name_at}
use Rattle.std.specs.Prelude.{codes}
use Rattle.ir_exports.specs.Names.{short_name}
use Rattle.ir_exports.specs.Around.{outside_start}
use Rattle.ir_exports.proofs.Written.{followed}
use Rattle.ir_exports.proofs.circle.around.push_name_outside.Goals as goal

pub returns : goal.returns
returns c =
    let old = string_bytes c.args.text.now in
    let here : string_bytes c.push_str.new.self ≡ old ++ (outside_start c.args.n c.args.half_cells c.args.is_bold ++ short_name (name_at (names c.args.graph.now) c.args.v) ++ codes "</text>\n") =
    followed old (outside_start c.args.n c.args.half_cells c.args.is_bold ++ short_name (name_at (names c.args.graph.now) c.args.v)) (codes "</text>\n") (string_bytes c.push_short_name.new.text) (string_bytes c.push_str.new.self) (followed old (outside_start c.args.n c.args.half_cells c.args.is_bold) (short_name (name_at (names c.args.graph.now) c.args.v)) (string_bytes c.push_outside.new.text) (string_bytes c.push_short_name.new.text) c.in_ok-push_outside.ensures c.in_ok-push_short_name.ensures) c.in_ok-push_str.ensures.bytes in
    here

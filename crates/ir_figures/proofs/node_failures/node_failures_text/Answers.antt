use Rattle.std.proofs.Common.{◌∙◌, ◌++◌, List, ℕ, codes, map, ap}
use Rattle.std.specs.List.{range_with_len}
use Rattle.ir_model.specs.Topology.{node_count}
use Rattle.ir_show.specs.Words.{line_text}
use Rattle.ir_figures.specs.Failures.{IsNodeLine, failures_head}
use Rattle.ir_figures.specs.Made.{bytes_made}
use Rattle.ir_figures.proofs.FailureLines.{bytes_joined, bytes_zipped, on_text}
use Rattle.ir_figures.proofs.node_failures.node_failures_text.Goals as goal

pub returns : goal.returns
returns c =
    let s = c.args.plan.now in
    let made = c.args.lines.now in
    on_text c.failures_text.result
    (λ text told. record {
      words = told.0;
      figures = told.1;
      lines = map bytes_made made;
      each = bytes_zipped (IsNodeLine c.args.graph.now s c.args.kind c.args.order c.args.other.now) (range_with_len 0 (node_count s.topology)) made c.requires.lines;
      whole = told.2 ∙ ap (λ (t : List ℕ). line_text (failures_head (codes "nodes") s told.0) ++ t) (bytes_joined made);
    })
    c.failures_text.ensures

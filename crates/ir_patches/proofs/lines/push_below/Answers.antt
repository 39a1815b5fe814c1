use Rattle.std.proofs.Common.{◌∙◌, sym, string_bytes, arith}
use Rattle.ir_model.specs.Graph.{names}
use Rattle.ir_patches.proofs.Steps.{below_written, from_on}
use Rattle.ir_patches.proofs.lines.push_below.Goals as goal

pub loop-end-preserved : goal.loop-end-preserved
loop-end-preserved c =
    let put = c.args.put.now in
    let i = c.loop-end.end in
    let inv = c.loop-end.invariant in
    record {
      text = below_written (names c.args.graph.now) c.args.start put i (string_bytes c.loop-end.text) _ _ c.loop-end-test.true c.if-put-end.true inv.text c.in_ok-push_put.ensures;
      rest = sym (from_on c.args.start put i c.loop-end-test.true c.if-put-end.true) ∙ inv.rest;
      within = omega (arith, c.loop-end-test.true);
    }

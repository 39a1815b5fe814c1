use Rattle.std.proofs.Common.{◌≡◌, ◌∷◌, ◌++◌, [], rules, arith}
use Rattle.std.proofs.lemmas.List.{length_push}
use Rattle.ir_lanes.proofs.Batches.{sixteen_more}
use Rattle.ir_lanes.proofs.marks.sixteen_from.Goals as goal

pub loop-k-preserved : goal.loop-k-preserved
loop-k-preserved c =
    let i = c.loop-k.invariant in
    let pushed : c.push.new.self.items ≡ c.loop-k.sixteen.items ++ c.node_from.result ∷ [] = search rules in
    rw pushed (record {
      long = omega (arith, length_push c.loop-k.sixteen.items c.node_from.result, i.long);
      each = sixteen_more c.args.nodes.now c.args.first c.loop-k.k c.loop-k.sixteen.items c.node_from.result i.long c.node_from.ensures i.each;
    })

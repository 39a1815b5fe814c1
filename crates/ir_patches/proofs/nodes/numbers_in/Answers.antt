use Rattle.std.proofs.Common.{◌<◌, ◌∙◌, ◌∷◌, ◌++◌, [], ℕ, List, length, map, take, sym, ap, arith}
use Rattle.std.proofs.lemmas.List.{map_more}
use Rattle.ir_model.specs.Graph.{names}
use Rattle.ir_patches.specs.Nodes.{number_named}
use Rattle.ir_patches.proofs.Numbers.{names_long}
use Rattle.ir_patches.proofs.nodes.numbers_in.Goals as goal

pub loop-u-preserved : goal.loop-u-preserved
loop-u-preserved c =
    let nodes = names c.args.graph.now in
    let f = number_named (names c.args.old.now) in
    let u = c.loop-u.u in
    let within : u < length nodes = omega (arith, c.loop-u-test.true, c.number_of_nodes-count.ensures.len, names_long c.args.graph.now) in
    c.in_ok-push.ensures.items
    ∙ ap (λ (ns : List ℕ). ns ++ c.number_of.result ∷ []) c.loop-u.invariant
    ∙ ap (λ (n : ℕ). map f (take u nodes) ++ n ∷ []) c.number_of.ensures
    ∙ sym (map_more f nodes u [] within)

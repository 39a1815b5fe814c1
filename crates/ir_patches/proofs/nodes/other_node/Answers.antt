use Rattle.std.proofs.Common.{rules, ◌≡◌, ◌∙◌, None, sym}
use Rattle.ir_model.specs.Graph.{names}
use Rattle.ir_patches.proofs.Numbers.{all_there}
use Rattle.ir_patches.proofs.nodes.other_node.Goals as goal

pub returns-in-None : goal.returns-in-None
returns-in-None c =
    let first : c.first_other.result ≡ None = search rules in
    let second : c.first_other-2.result ≡ None = search rules in
    (all_there (names c.args.old.now) (names c.args.new.now) (sym c.first_other.ensures ∙ first), all_there (names c.args.new.now) (names c.args.old.now) (sym c.first_other-2.ensures ∙ second))

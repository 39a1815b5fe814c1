use Rattle.std.proofs.Common.{◌∙◌, sym, arith}
use Rattle.std.proofs.lemmas.Grind.{common_steps}
use Rattle.std.proofs.lemmas.List.{get_or_default}
use Rattle.ir_prefix.specs.declared.trie.TrieNode.TheVariants.{NoPort}
use Rattle.ir_prefix.proofs.NodeLemmas.{stands_inside, stands_fork}
use Rattle.ir_prefix.proofs.trie.names_at.Goals as goal

pub index-requires : goal.index-requires
index-requires c =
    let n = stands_inside c.args.nodes.now.list.items c.args.nodes.now.names.items c.args.place c.requires.0 c.requires.1 in
    let k = c.args.nodes.now.list.ok in
    omega arith

pub unwrap-requires : goal.unwrap-requires
unwrap-requires c =
    let list = c.args.nodes.now.list.items in
    let names = c.args.nodes.now.names.items in
    let n = stands_inside list names c.args.place c.requires.0 c.requires.1 in
    let f = stands_fork list names c.args.place c.in-Several.places c.requires.0 (get_or_default list c.args.place NoPort c.index.result.now n ∙ sym c.index.ensures ∙ c.in-Several.is) c.requires.1 in
    let order = f.order in
    let inside = f.inside in
    let deref = c.deref.ensures.value in
    grind (arith, common_steps, c.get.ensures.lookup, order, inside, deref)

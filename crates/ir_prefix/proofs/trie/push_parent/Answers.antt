use Rattle.std.proofs.Common.{◌∙◌, sym, arith}
use Rattle.std.proofs.lemmas.List.{get_or_default}
use Rattle.std.proofs.lemmas.Result.{IfOk-weaker}
use Rattle.ir_prefix.specs.declared.trie.TrieNode.TheVariants.{NoPort}
use Rattle.ir_prefix.proofs.NodeLemmas.{free_stands, stands_inside, merged_stands}
use Rattle.ir_prefix.proofs.trie.push_parent.Goals as goal

pub index-requires-2 : goal.index-requires-2
index-requires-2 c =
    let n = stands_inside c.args.nodes.now.list.items c.args.nodes.now.names.items c.args.right c.requires.right.0 c.requires.right.1 in
    let k = c.args.nodes.now.list.ok in
    omega arith

pub returns-in-Some-clause-stands : goal.returns-in-Some-clause-stands
returns-in-Some-clause-stands c =
    let before = c.args.nodes.now in
    IfOk-weaker c.push_node.result _ _
    (λ place holds. λ l r sl sr.
    merged_stands before.list.items c.push_node.new.nodes.list.items before.names.items c.push_node.new.nodes.names.items c.args.left c.args.right place c.index.result.now c.index-2.result.now c.in-Some.node l r
    (get_or_default before.list.items c.args.left NoPort c.index.result.now (stands_inside before.list.items before.names.items c.args.left l sl) ∙ sym c.index.ensures)
    (get_or_default before.list.items c.args.right NoPort c.index-2.result.now (stands_inside before.list.items before.names.items c.args.right r sr) ∙ sym c.index-2.ensures)
    c.in-Some.ensures.merged sl sr holds)
    c.push_node.ensures.holds

pub returns-clause-stands : goal.returns-clause-stands
returns-clause-stands c =
    let list = c.args.nodes.now.list.items in
    let names = c.args.nodes.now.names.items in
    IfOk-weaker c.push_fork.result _ _
    (λ place over. λ l r sl sr.
    over l r sl sr (λ fl fr.
    c.merged.ensures.free c.in_default.is
    (c.index.ensures ∙ sym (get_or_default list c.args.left NoPort c.index.result.now (stands_inside list names c.args.left l sl)) ∙ free_stands list names c.args.left l fl sl)
    (c.index-2.ensures ∙ sym (get_or_default list c.args.right NoPort c.index-2.result.now (stands_inside list names c.args.right r sr)) ∙ free_stands list names c.args.right r fr sr)))
    c.push_fork.ensures.stands

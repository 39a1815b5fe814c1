use Rattle.std.proofs.Common.{◌-◌, ◌*◌, None, arith}
use Rattle.std.proofs.lemmas.List.{get_or_past}
use Rattle.std.proofs.lemmas.Result.{IfOk-weaker}
use Rattle.ir_prefix.specs.Described.{Free, Alike}
use Rattle.ir_prefix.proofs.BlockLemmas.{left_within, right_within}
use Rattle.ir_prefix.proofs.NodeLemmas.{grows_twice, stands_on}
use Rattle.ir_prefix.proofs.TrieLemmas.{names_rise, parent_describes}
use Rattle.ir_prefix.proofs.trie.+push_trie.Goals as goal

pub returns-in-Beyond-clause-stands : goal.returns-in-Beyond-clause-stands
returns-in-Beyond-clause-stands t c =
    IfOk-weaker c.push_node.result _ _ (λ place holds. (Free, (λ x p e o. let n = get_or_past c.args.ports.now x None (c.in-Beyond.ensures x e) in absurd (cc (o, n))), holds)) c.push_node.ensures.holds

pub returns-in-Unsent-clause-stands : goal.returns-in-Unsent-clause-stands
returns-in-Unsent-clause-stands t c =
    IfOk-weaker c.push_node-in-Unsent.result _ _ (λ place holds. (Free, (λ x p e o. let n = (c.in-Unsent.ensures x e).1 in absurd (cc (o, n))), holds)) c.push_node-in-Unsent.ensures.holds

pub returns-in-OnePort-clause-stands : goal.returns-in-OnePort-clause-stands
returns-in-OnePort-clause-stands t c =
    IfOk-weaker c.push_node-in-OnePort.result _ _ (λ place holds. (Alike c.in-OnePort.port, (c.in-OnePort.ensures.1, c.in-OnePort.ensures.2), holds)) c.push_node-in-OnePort.ensures.holds

pub push_trie-requires : goal.push_trie-requires
push_trie-requires t c = (omega arith, (c.requires.runs, left_within c.args.index c.args.height 65536 c.in-Mixed.ensures.0 c.requires.inside))

pub push_trie-requires-in-Mixed : goal.push_trie-requires-in-Mixed
push_trie-requires-in-Mixed t c = (omega arith, (c.requires.runs, right_within c.args.index c.args.height 65536 c.in-Mixed.ensures.0 c.requires.inside))

pub push_parent-requires-clause-left : goal.push_parent-requires-clause-left
push_parent-requires-clause-left t c =
    let w = c.in_ok-left-in-Mixed.ensures.stands in
    (w.0, names_rise c.args.ports.now (c.args.height - 1) (2 * c.args.index) w.0 w.1, stands_on c.push_trie.new.nodes c.push_trie-in-Mixed.new.nodes c.in_ok-right-in-Mixed.ensures.grows c.in_ok-left-in-Mixed.left w.0 w.2)

pub returns-in_ok-right-in-Mixed-clause-grows : goal.returns-in_ok-right-in-Mixed-clause-grows
returns-in_ok-right-in-Mixed-clause-grows t c =
    let both = grows_twice c.args.nodes.now c.push_trie.new.nodes c.push_trie-in-Mixed.new.nodes c.in_ok-left-in-Mixed.ensures.grows c.in_ok-right-in-Mixed.ensures.grows in
    IfOk-weaker c.push_parent.result _ _ (λ x more. grows_twice c.args.nodes.now c.push_trie-in-Mixed.new.nodes c.push_parent.new.nodes both more) c.push_parent.ensures.grows

pub returns-in_ok-right-in-Mixed-clause-stands : goal.returns-in_ok-right-in-Mixed-clause-stands
returns-in_ok-right-in-Mixed-clause-stands t c =
    let l = c.in_ok-left-in-Mixed.ensures.stands in
    let r = c.in_ok-right-in-Mixed.ensures.stands in
    let on = stands_on c.push_trie.new.nodes c.push_trie-in-Mixed.new.nodes c.in_ok-right-in-Mixed.ensures.grows c.in_ok-left-in-Mixed.left l.0 l.2 in
    IfOk-weaker c.push_parent.result _ _ (λ place over.
    let w = over l.0 r.0 on r.2 in
    (w.0, parent_describes c.args.ports.now c.args.height c.args.index c.in-Mixed.ensures.0 l.0 r.0 w.0 l.1 r.1 w.1, w.2))
    c.push_parent.ensures.stands

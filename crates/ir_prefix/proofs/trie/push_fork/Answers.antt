use Rattle.std.proofs.Common.{◌≡◌, ◌++◌, ◌∙◌, ℕ, List, length, refl, sym, ap, subst, arith}
use Rattle.ir_prefix.specs.Described.{Fork, names_of}
use Rattle.ir_prefix.specs.Joined.{ArePortsOfBoth}
use Rattle.ir_prefix.specs.Nodes.{Grows}
use Rattle.ir_prefix.specs.declared.trie.TrieNode.{TrieNode}
use Rattle.ir_prefix.proofs.NodeLemmas.{stands_on, fork_stands}
use Rattle.ir_prefix.proofs.Results.{both_hold}
use Rattle.ir_prefix.proofs.trie.push_fork.Goals as goal

pub returns-clause-stands : goal.returns-clause-stands
returns-clause-stands c =
    let before = c.args.nodes.now in
    let after = c.push_node.new.nodes in
    let own = c.join.new.room.items in
    let r = c.push_node.result in
    both_hold r _ _ _ (λ place grown holds. λ l r sl sr several.
    let whole : after.names.items ≡ before.names.items ++ own = grown.1 ∙ c.in_ok-extend_from_slice.ensures.items ∙ ap (λ (xs : List ℕ). before.names.items ++ xs) c.as_slice.ensures.value in
    let grows : Grows before after = record { nodes = grown.0; names = (own, whole) } in
    let joined = subst (λ (xs : List ℕ). ArePortsOfBoth xs (names_of r) own) (c.names_at.ensures l sl) (subst (λ (ys : List ℕ). ArePortsOfBoth c.names_at.result.now ys own) (c.names_at-2.ensures r sr) c.in_ok-join.ensures.joined) in
    let first : c.len-first.result ≡ length before.names.items = omega (arith, c.len-first.ensures, before.names.ok) in
    let extended : c.len-end.result ≡ length c.extend_from_slice.new.self.items = omega (arith, c.len-end.ensures, c.extend_from_slice.new.self.ok) in
    let end : c.len-end.result ≡ length after.names.items = extended ∙ ap (λ (xs : List ℕ). length xs) (sym grown.1) in (
      Fork own l r,
      (refl, refl, several, joined, c.in_ok-join.ensures.rising),
      fork_stands after.list.items before.names.items own after.names.items c.len-first.result c.len-end.result c.args.left c.args.right place l r first end whole holds
          (stands_on before after grows c.args.left l sl) (stands_on before after grows c.args.right r sr),
    ))
    (both_hold r _ _ (λ _. ((more : List TrieNode) × (after.list.items ≡ before.list.items ++ more)) × (after.names.items ≡ c.extend_from_slice.new.self.items)) (λ _ g n. (g.nodes, n)) c.push_node.ensures.grows c.push_node.ensures.names)
    c.push_node.ensures.holds

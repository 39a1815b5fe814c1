use Rattle.std.proofs.Common.{◌^◌, ◌≤◌, ◌<◌, arith}
use Rattle.std.proofs.Math.Nat.{pow-le-pow_right}
use Rattle.std.proofs.lemmas.Grind.{common_steps}
use Rattle.ir_prefix.proofs.TrieLemmas.{described_is_trie}
use Rattle.ir_prefix.proofs.cover.cover_by_names.Goals as goal

pub push_trie-requires-clause-inside : goal.push_trie-requires-clause-inside
push_trie-requires-clause-inside c = let two : 0 < 2 = omega arith in let p : 2 ^ c.args.bits ≤ 2 ^ 16 = pow-le-pow_right two c.requires.bits in omega arith

pub cover-requires-clause-trie : goal.cover-requires-clause-trie
cover-requires-clause-trie c = let w = c.in_ok-root.ensures.stands in (w.0, described_is_trie c.args.ports.now _ 0 w.0 w.1, w.2)

pub cover-requires-clause-inside : goal.cover-requires-clause-inside
cover-requires-clause-inside c = let two : 0 < 2 = omega arith in let p : 2 ^ c.args.bits ≤ 2 ^ 16 = pow-le-pow_right two c.requires.bits in omega arith

pub returns : goal.returns
returns c =
    let w = c.in_ok-root.ensures.stands in
    let whole = c.in_ok-cover.ensures w.0 w.2 in
    (w.0, w.1, grind (arith, common_steps, whole, c.new-set.ensures.items))

use Rattle.std.proofs.Common.{◌^◌, ◌≤◌, ◌<◌, arith}
use Rattle.std.proofs.Math.Nat.{pow-le-pow_right}
use Rattle.std.proofs.lemmas.Grind.{common_steps}
use Rattle.ir_prefix.proofs.TrieLemmas.{described_is_trie}
use Rattle.ir_prefix.proofs.marks.cover_by_marks.Goals as goal

pub push_marks-requires-clause-inside : goal.push_marks-requires-clause-inside
push_marks-requires-clause-inside c = let two : 0 < 2 = omega arith in let p : 2 ^ c.args.bits ≤ 2 ^ 16 = pow-le-pow_right two c.requires.bits in omega arith

pub take_marks-requires-clause-trie : goal.take_marks-requires-clause-trie
take_marks-requires-clause-trie c = let w = c.in_ok-push_marks.ensures in (w.trie, _, described_is_trie c.args.ports.now _ 0 w.trie w.describes, (w.marks, w.are, w.added))

pub take_marks-requires-clause-inside : goal.take_marks-requires-clause-inside
take_marks-requires-clause-inside c = let two : 0 < 2 = omega arith in let p : 2 ^ c.args.bits ≤ 2 ^ 16 = pow-le-pow_right two c.requires.bits in omega arith

pub returns : goal.returns
returns c =
    let w = c.in_ok-push_marks.ensures in
    let whole = c.in_ok-take_marks.ensures.prefixes w.trie _ (described_is_trie c.args.ports.now _ 0 w.trie w.describes) (w.marks, w.are, w.added) in
    (w.trie, w.describes, grind (arith, common_steps, whole, c.new-set.ensures.items))

use Rattle.std.proofs.Common.{arith, rules, ◌+◌, ◌*◌, ◌++◌, ◌∷◌, [], ◌∙◌, ap, None, inl, inr}
use Rattle.std.proofs.lemmas.List.{get_or_past}
use Rattle.std.proofs.lemmas.Result.{IfOk-weaker}
use Rattle.std.specs.Int.{bit_at}
use Rattle.std.specs.Int.Bits.{bit_and}
use Rattle.std.proofs.lemmas.Bool.{cases_eq}
use Rattle.ir_prefix.specs.declared.marks.Mark.TheVariants.{Several}
use Rattle.ir_prefix.proofs.BlockLemmas.{left_within, right_within}
use Rattle.ir_prefix.proofs.MarkLemmas.{free_marked, one_marked, freed_marked, joined_marked, low_at, pair_marked}
use Rattle.ir_prefix.proofs.marks.+push_marks.Goals as goal

pub returns-in-Beyond : goal.returns-in-Beyond
returns-in-Beyond t c =
    IfOk-weaker c.push_mark.result _ _
    (λ names e. free_marked c.args.ports.now c.args.height c.args.index names c.args.marks.now.items c.push_mark.new.marks.items (λ x p at o. let n = get_or_past c.args.ports.now x None (c.in-Beyond.ensures x at) in absurd (cc (o, n))) e.0 e.1)
    c.push_mark.ensures

pub returns-in-Unsent : goal.returns-in-Unsent
returns-in-Unsent t c =
    IfOk-weaker c.push_mark-in-Unsent.result _ _
    (λ names e. free_marked c.args.ports.now c.args.height c.args.index names c.args.marks.now.items c.push_mark-in-Unsent.new.marks.items (λ x p at o. let n = (c.in-Unsent.ensures x at).1 in absurd (cc (o, n))) e.0 e.1)
    c.push_mark-in-Unsent.ensures

pub push_one-requires : goal.push_one-requires
push_one-requires t c = let w = c.in-OnePort.ensures.2 in low_at c.args.ports.now w.0 c.in-OnePort.port c.requires.low w.2

pub returns-in-OnePort : goal.returns-in-OnePort
returns-in-OnePort t c =
    let w = c.in-OnePort.ensures.2 in
    IfOk-weaker c.push_one.result _ _
    (λ names e. one_marked c.args.ports.now c.args.height c.args.index names c.in-OnePort.port c.args.marks.now.items c.push_one.new.marks.items (c.in-OnePort.ensures.1, w) (low_at c.args.ports.now w.0 c.in-OnePort.port c.requires.low w.2) e.0 e.1)
    c.push_one.ensures

pub push_pair-requires : goal.push_pair-requires
push_pair-requires t c =
    let w = c.in-Some.ensures in
    (low_at c.args.ports.now (2 * c.args.index) c.in-Some.left c.requires.low w.1, low_at c.args.ports.now (2 * c.args.index + 1) c.in-Some.right c.requires.low w.2)

pub push_marks-requires : goal.push_marks-requires
push_marks-requires t c = (omega arith, (c.requires.runs, (c.requires.low, right_within c.args.index c.args.height 65536 c.in-Mixed.ensures.0 c.requires.inside)))

pub push_marks-requires-in-Mixed : goal.push_marks-requires-in-Mixed
push_marks-requires-in-Mixed t c = (omega arith, (c.requires.runs, (c.requires.low, left_within c.args.index c.args.height 65536 c.in-Mixed.ensures.0 c.requires.inside)))

pub returns-in-Some : goal.returns-in-Some
returns-in-Some t c =
    let w = c.in-Some.ensures in
    let ports = c.args.ports.now in
    let left = c.in-Some.left in
    let right = c.in-Some.right in
    IfOk-weaker c.push_pair.result _ _
    (λ names e. pair_marked ports c.args.height c.args.index names left right c.args.marks.now.items c.push_pair.new.marks.items w.0 w.1 w.2 (low_at ports (2 * c.args.index) left c.requires.low w.1) (low_at ports (2 * c.args.index + 1) right c.requires.low w.2) e.0 e.1)
    c.push_pair.ensures

pub returns-in_ok-left-in-Mixed : goal.returns-in_ok-left-in-Mixed
returns-in_ok-left-in-Mixed t c =
    let a = c.in_ok-left-in-Mixed.left in
    let b = c.in_ok-right-in-Mixed.right in
    let w = c.push_parent.ensures in
    let old = c.args.marks.now.items in
    let behind = c.push_marks.new.marks.items in
    let both = c.push_marks-in-Mixed.new.marks.items in
    let after = c.push_parent.new.marks.items in
    elim (cases_eq (bit_at (bit_and a b) 63) 1) [
      | inl set ↦
          IfOk-weaker c.push_parent.result _ _ (λ names e.
          freed_marked c.args.ports.now c.args.height c.args.index a b names c.len-before.result old behind both after c.in-Mixed.ensures.0 (search rules) c.in_ok-right-in-Mixed.ensures c.in_ok-left-in-Mixed.ensures
          set (let k = c.args.marks.now.ok in omega (arith, c.len-before.ensures, k)) e.1 e.0)
          (w.free set)
      | inr unset ↦
          IfOk-weaker c.push_parent.result _ _ (λ names e.
          joined_marked c.args.ports.now c.args.height c.args.index a b names c.len-before.result old behind both after c.in-Mixed.ensures.0 (search rules) c.in_ok-right-in-Mixed.ensures c.in_ok-left-in-Mixed.ensures
          unset (e.1 ∙ ap (λ x. both ++ Several x ∷ []) e.0) e.0)
          (w.several unset)
    ]

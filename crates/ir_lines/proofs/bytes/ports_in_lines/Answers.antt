use Rattle.std.proofs.Common.{◌≡◌, ◌*◌, ◌+◌, ◌++◌, ◌∷◌, [], ℕ, List, length, ap, sym, ◌∙◌, subst, arith}
use Rattle.ir_lines.specs.Words.{groups}
use Rattle.ir_lines.proofs.ByteLemmas.{HoldSome, hold_all, hold_more}
use Rattle.ir_lines.proofs.bytes.ports_in_lines.Goals as goal

pub loop-place-preserved : goal.loop-place-preserved
loop-place-preserved c =
    subst (λ (words : List ℕ). HoldSome c.args.labels c.args.row.now words (c.loop-place.place + 1)) (sym c.in_ok-push.ensures.items)
    (hold_more c.args.labels c.args.row.now c.loop-place.words.items c.word_of_ports.result c.loop-place.place c.loop-place.invariant
    c.word_of_ports.ensures.ports c.word_of_ports.ensures.over)

pub loop-place-init : goal.loop-place-init
loop-place-init c =
    let none = c.in_ok-words.ensures.items in
    record {
      every = ap (λ (xs : List ℕ). length xs) none;
      ports = λ label l. absurd (omega arith);
      over = λ label l. absurd (omega arith);
    }

pub returns-clause-hold : goal.returns-clause-hold
returns-clause-hold c =
    let all : c.loop-place.place ≡ 32 * groups c.args.labels 128 = omega (arith, c.loop-place-test.false, c.loop-place.auto.place-end) in
    hold_all c.args.labels c.args.row.now c.loop-place.words.items c.loop-place.place c.loop-place.invariant all

use Rattle.std.proofs.Common.{◌≡◌, ◌+◌, ◌-◌, ◌∙◌, sym, ap, subst, ℕ, List, true, false, bytes_eq, drop, take, length, arith}
use Rattle.std.specs.List.{prefix_len}
use Rattle.std.proofs.lemmas.List.{take_rest}
use Rattle.ir_model.specs.Text.{lines}
use Rattle.ir_cli.specs.Cut.{is_cut, EndsWithBytes}
use Rattle.ir_cli.proofs.Ends.{end_behind, end_none}
use Rattle.ir_cli.proofs.Cutting.{is_text, before_more, at_cut, no_cut}
use Rattle.ir_cli.proofs.parting.cut.Goals as goal

pub loop-at-preserved : goal.loop-at-preserved
loop-at-preserved c =
    let input = c.args.input.now in
    let at = c.loop-at.at in
    let n = c.before-len.result in
    let rest : take (length input - at) (drop at input) ≡ drop at input = take_rest input at in
    let len : prefix_len is_text (drop at input) ≡ n = sym (c.before-len.ensures.len ∙ ap (prefix_len is_text) rest) in
    let other : is_cut (take n (drop at input)) ≡ false = ap (λ bs. is_cut (take n bs)) (sym rest) ∙ ap (λ l. bytes_eq (take n (take (length input - at) (drop at input))) l) (sym c.as_slice.ensures) ∙ sym c.if-eq.ensures in
    before_more input at n c.loop-at.invariant (omega arith) len other

pub returns-then-eq-clause-script : goal.returns-then-eq-clause-script
returns-then-eq-clause-script c =
    let input = c.args.input.now in
    let at = c.loop-at.at in
    let n = c.before-len.result in
    let rest : take (length input - at) (drop at input) ≡ drop at input = take_rest input at in
    let len : prefix_len is_text (drop at input) ≡ n = sym (c.before-len.ensures.len ∙ ap (prefix_len is_text) rest) in
    let same : is_cut (take n (drop at input)) ≡ true = ap (λ bs. is_cut (take n bs)) (sym rest) ∙ ap (λ l. bytes_eq (take n (take (length input - at) (drop at input))) l) (sym c.as_slice.ensures) ∙ sym c.if-eq.ensures in
    ap lines (c.behind_line.ensures ∙ ap (drop (n + 1)) rest) ∙ (at_cut input at n c.loop-at.invariant (omega arith) len same).1

pub returns-then-eq-clause-topology : goal.returns-then-eq-clause-topology
returns-then-eq-clause-topology c =
    let input = c.args.input.now in
    let at = c.loop-at.at in
    let n = c.before-len.result in
    let rest : take (length input - at) (drop at input) ≡ drop at input = take_rest input at in
    let len : prefix_len is_text (drop at input) ≡ n = sym (c.before-len.ensures.len ∙ ap (prefix_len is_text) rest) in
    let same : is_cut (take n (drop at input)) ≡ true = ap (λ bs. is_cut (take n bs)) (sym rest) ∙ ap (λ l. bytes_eq (take n (take (length input - at) (drop at input))) l) (sym c.as_slice.ensures) ∙ sym c.if-eq.ensures in
    (at_cut input at n c.loop-at.invariant (omega arith) len same).0

pub returns-clause-topology : goal.returns-clause-topology
returns-clause-topology c = (no_cut c.args.input.now c.loop-at.at c.loop-at.invariant (omega arith)).0

pub returns-clause-script : goal.returns-clause-script
returns-clause-script c = (no_cut c.args.input.now c.loop-at.at c.loop-at.invariant (omega arith)).1

pub returns-then-eq-clause-end : goal.returns-then-eq-clause-end
returns-then-eq-clause-end c =
    let input = c.args.input.now in
    let at = c.loop-at.at in
    let n = c.before-len.result in
    let rest : take (length input - at) (drop at input) ≡ drop at input = take_rest input at in
    subst (λ (xs : List ℕ). EndsWithBytes input xs) (sym (c.behind_line.ensures ∙ ap (drop (n + 1)) rest)) (end_behind input at (n + 1))

pub returns-clause-end : goal.returns-clause-end
returns-clause-end c = end_none c.args.input.now

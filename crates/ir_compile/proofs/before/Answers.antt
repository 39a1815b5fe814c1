use Rattle.std.proofs.Common.{◌≡◌, ◌≢◌, ◌-◌, ◌∙◌, ℕ, cond, ap, sym}
use Rattle.std.proofs.lemmas.Bool.{ne_eqb}
use Rattle.ir_model.specs.Compiled.{label_before, predecessor}
use Rattle.ir_model.proofs.Round.{shown_other}
use Rattle.ir_compile.proofs.before.Goals as goal
use Rattle.ir_compile.proofs.before.Goals.{then-d-eq0, else-d-eq0}

first_back : (n d x : ℕ) → d ≡ 0 → x ≡ n - 1 → x ≡ label_before n d
first_back n d x zero is = is ∙ sym (ap (λ (k : ℕ). label_before n k) zero)

later_back : (n d x : ℕ) → d ≢ 0 → x ≡ d - 1 → x ≡ label_before n d
later_back n d x some is = is ∙ sym (ap (λ b. cond b (n - 1) (d - 1)) (ne_eqb d 0 some))

-- the label before, which is not the own one
other_back : (n own d x : ℕ) → x ≢ own → x ≡ label_before n d → x ≡ predecessor n own d
other_back n own d x other is = is ∙ sym (shown_other n own (label_before n d) (λ e. other (is ∙ e)))

pub returns-then-one_back-own-clause-before : goal.returns-then-one_back-own-clause-before
returns-then-one_back-own-clause-before c =
    other_back c.args.n c.args.own c.args.d c.if-d-eq0.one_back c.if-one_back-own.true
    (elim c.if-d-eq0.branch [
      | then-d-eq0 w ↦ first_back c.args.n c.args.d c.if-d-eq0.one_back w.if-d-eq0.true w.one_back-is
      | else-d-eq0 w ↦ later_back c.args.n c.args.d c.if-d-eq0.one_back w.if-d-eq0.false w.one_back-is
    ])

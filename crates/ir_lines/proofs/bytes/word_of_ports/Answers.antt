use Rattle.std.proofs.Common.{◌≡◌, ◌+◌, ◌<◌, ◌≤◌, ℕ, sym, ◌∙◌, subst, arith}
use Rattle.ir_model.specs.Row.{HasPort}
use Rattle.ir_lines.specs.Looks.{byte_of}
use Rattle.ir_lines.proofs.ByteLemmas.{four}
use Rattle.ir_lines.proofs.bytes.word_of_ports.Goals as goal

pub returns-clause-ports : goal.returns-clause-ports
returns-clause-ports c = λ i few.
    let n = c.args.labels in
    let a = c.args.label in
    let e : a ≡ a + 0 = omega arith in
    four (λ (i : ℕ). a + i < n → HasPort n c.args.row.now (a + i) (byte_of c.packed.result i))
    (λ is. subst (λ (p : ℕ). HasPort n c.args.row.now (a + 0) p) (sym c.packed.ensures.first) (subst (λ (x : ℕ). HasPort n c.args.row.now x c.byte_at.result) e (c.byte_at.ensures.port (omega arith))))
    (λ is. subst (λ (p : ℕ). HasPort n c.args.row.now (a + 1) p) (sym c.packed.ensures.second) (c.byte_at-2.ensures.port is))
    (λ is. subst (λ (p : ℕ). HasPort n c.args.row.now (a + 2) p) (sym c.packed.ensures.third) (c.byte_at-3.ensures.port is))
    (λ is. subst (λ (p : ℕ). HasPort n c.args.row.now (a + 3) p) (sym c.packed.ensures.fourth) (c.byte_at-4.ensures.port is)) i few

pub returns-clause-over : goal.returns-clause-over
returns-clause-over c = λ i few.
    let n = c.args.labels in
    let a = c.args.label in
    four (λ (i : ℕ). n ≤ a + i → byte_of c.packed.result i ≡ 255)
    (λ past. c.packed.ensures.first ∙ c.byte_at.ensures.over (omega arith))
    (λ past. c.packed.ensures.second ∙ c.byte_at-2.ensures.over past)
    (λ past. c.packed.ensures.third ∙ c.byte_at-3.ensures.over past)
    (λ past. c.packed.ensures.fourth ∙ c.byte_at-4.ensures.over past) i few

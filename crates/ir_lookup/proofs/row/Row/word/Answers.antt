use Rattle.std.proofs.Common.{◌≡◌, ◌*◌, ◌+◌, ◌/◌, ◌%◌, ◌∙◌, ℕ, ap, arith}
use Rattle.ir_model.specs.Row.{Start}
use Rattle.ir_lookup.specs.declared.TheConstants.{WORD_BASE}
use Rattle.ir_lookup.proofs.row.Row.word.Goals as goal

pub returns : goal.returns
returns c =
    let word : ℕ = c.args.label * WORD_BASE + c.args.port in
    let label : word / WORD_BASE ≡ c.args.label = omega arith in
    let port : word % WORD_BASE ≡ c.args.port = omega arith in
    ap (λ (l : ℕ). let s : Start = record { label = l; port = word % WORD_BASE } in s) label ∙ ap (λ (p : ℕ). let s : Start = record { label = c.args.label; port = p } in s) port

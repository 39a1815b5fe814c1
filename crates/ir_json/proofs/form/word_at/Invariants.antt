use Rattle.std.proofs.Common.{◌≡◌, drop}
use Rattle.ir_model.specs.Text.{words_of}
use Rattle.ir_json.proofs.form.word_at.Given as goal

abbrev pub invariant-loop-skipped : goal.invariant-loop-skipped
invariant-loop-skipped l = words_of l.rest ≡ drop l._skipped (words_of l.fn.line)

use Rattle.std.proofs.Common.{◌≡◌, ℕ, List, Option, Some, None, refl, sym, arith}
use Rattle.std.specs.Str.Parse.{ParsesUnsigned, ExplainsUnsignedError, HasUnsignedDigitsIfOk}
use Rattle.clap.specs.Words.{Row, Text, first_of, found_of, rows_of}
use Rattle.ir_cli.specs.Meaning.{IsNumber}
use Rattle.ir_cli.proofs.Given.{given_is_read, is_none_then, number_is, number_not_read, number_read}
use Rattle.ir_cli.proofs.typed.number_in.Goals as goal
use Rattle.ir_cli.proofs.typed.number_in.Goals.{else-least-number-via-then-least-number+else-number-most, else-least-number-via-else-least-number}

-- a range that no number of a given option is in holds no number of it, and the option is not without one
outside : (name : Text) (rows : List Row) (t : Text) (least most : ℕ) → first_of name rows ≡ Some t
    → ((n : ℕ) → IsNumber name rows least most (Some n) → ⊥) → (n : Option ℕ) → IsNumber name rows least most n → ⊥
outside name rows t least most is none None not = given_is_read name rows t is not
outside name rows t least most is none (Some n) number = none n number

pub returns-then-number-most : goal.returns-then-number-most
returns-then-number-most c =
    number_read (λ bs r. ParsesUnsigned 64 10 bs r × ExplainsUnsignedError 10 bs r × HasUnsignedDigitsIfOk bs r) (λ t r gave. gave.0) (found_of c.args.found.now) c.args.name.now (Some c.in_ok-number.number) c.in_ok-number.number c.args.least c.args.most
    c.in_ok-number.ensures.none c.in_ok-number.ensures.value refl (omega (arith, c.if-least-number.true)) (omega (arith, c.if-number-most.true))

pub returns-in_err-number : goal.returns-in_err-number
returns-in_err-number c =
    is_none_then c.from_residual.result _ _ c.from_residual.ensures (outside c.args.name.now (rows_of (found_of c.args.found.now)) c.in-Some.field-0.now c.args.least c.args.most (sym c.in-Some.ensures) (λ n is.
    number_not_read (λ bs r. ParsesUnsigned 64 10 bs r × ExplainsUnsignedError 10 bs r × HasUnsignedDigitsIfOk bs r) (λ t r gave. gave.0) (found_of c.args.found.now) c.args.name.now n c.args.least c.args.most
    c.ranges.most.fits c.in_err-number.ensures.value is))

pub returns-else-least-number : goal.returns-else-least-number
returns-else-least-number c = outside c.args.name.now (rows_of (found_of c.args.found.now)) c.in-Some.field-0.now c.args.least c.args.most (sym c.in-Some.ensures)
    (λ n is. let same = number_is (λ bs r. ParsesUnsigned 64 10 bs r × ExplainsUnsignedError 10 bs r × HasUnsignedDigitsIfOk bs r) (λ t r gave. gave.0) (found_of c.args.found.now) c.args.name.now c.in_ok-number.number n c.args.least c.args.most
    c.in_ok-number.ensures.value is in
    elim c.else-least-number.branch [
      | else-least-number-via-then-least-number+else-number-most w ↦ omega (arith, same, is.4, is.5, w.if-number-most.false)
      | else-least-number-via-else-least-number w ↦ omega (arith, same, is.4, is.5, w.if-least-number.false)
    ])

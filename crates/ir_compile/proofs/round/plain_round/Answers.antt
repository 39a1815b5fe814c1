use Rattle.std.proofs.Common.{ℕ, List, Some, drop, length, ap, ◌∙◌, arith}
use Rattle.std.proofs.lemmas.List.{take_at}
use Rattle.std.proofs.lemmas.Result.{IfOk-weaker}
use Rattle.ir_model.specs.Choices.{label_from}
use Rattle.ir_model.proofs.Going.{from_is_label}
use Rattle.ir_compile.proofs.round.plain_round.Goals as goal

pub returns-clause-ports : goal.returns-clause-ports
returns-clause-ports c =
    let n = c.args.n in
    let s = c.args.start in
    let places : List ℕ = c.put_round.new.places in
    let whole = take_at places (drop (length places) c.in_ok-places.places.items) c.in_ok-places.places.len (let len = c.put_round.ensures.length in omega (arith, len, c.as_mut_slice.ensures.len, c.in_ok-places.ensures.len)) in
    let turned = rw (c.as_slice.ensures.value, whole) at c.turned.ensures.each in
    IfOk-weaker c.turned.result _ _
    (λ plain each held stand. c.put_round.ensures.ports held (λ j l ne. stand.each (label_from n s j) (from_is_label n s j c.requires.start) ne ∙ ap (λ (p : ℕ). Some p) (each j l)))
    turned

pub overflow_add-n : goal.overflow_add-n
overflow_add-n c = record { fits = omega (arith, c.ranges.n.fits) }

pub put_round-requires : goal.put_round-requires
put_round-requires c =
    let room = c.as_mut_slice.ensures.len in
    let long = c.in_ok-places.ensures.len in
    record {
      room = omega (arith, room, long);
      steps = c.requires.steps;
      ports = c.requires.ports;
      start = c.requires.start;
      off = c.requires.off;
    }

pub turned-requires : goal.turned-requires
turned-requires c = record { start = c.requires.start; room = omega (arith, c.as_slice.ensures.len, c.in_ok-places.ensures.len) }

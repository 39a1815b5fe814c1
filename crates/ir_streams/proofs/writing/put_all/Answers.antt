use Rattle.std.proofs.Common.{◌<◌, ℕ, length, take, Ok, inl, inr, subst, arith, rules}
use Rattle.std.proofs.lemmas.List.{take_rest}
use Rattle.std.specs.Io.KnownBytes.{Appends}
use Rattle.ir_streams.specs.Writing.{PutsSome}
use Rattle.ir_streams.proofs.Sent.{taken_some, taken_on, breaks, breaks_on, appends_nothing}
use Rattle.ir_streams.proofs.writing.put_all.Goals as goal

pub returns-in-Ok-eq0 : goal.returns-in-Ok-eq0
returns-in-Ok-eq0 g c =
    let mid = c.loop-rest.writer in
    let rest = c.loop-rest.rest.now in
    let last = c.put_some.new.writer in
    let some : 0 < length rest = search rules in
    breaks_on g.W.Writer.contents g.W.Writer.wrote g.W.Writer.settled c.args.writer.now c.args.text.now mid rest c.loop-rest.invariant last
    (breaks g.W.Writer.contents g.W.Writer.wrote g.W.Writer.settled mid rest last some
    (inr (subst (λ (n : ℕ). PutsSome g.W.Writer.wrote g.W.Writer.settled mid rest (Ok n) last) c.in-Ok-eq0.field-0-test c.in-Ok-eq0.ensures.calls))
    (subst (λ (n : ℕ). Appends (g.W.Writer.contents mid) (g.W.Writer.contents last) (take n rest)) c.in-Ok-eq0.field-0-test c.in-Ok-eq0.ensures.bytes))

pub loop-rest-preserved : goal.loop-rest-preserved
loop-rest-preserved g c =
    let n = c.in-Ok.n in
    taken_on g.W.Writer.contents g.W.Writer.wrote g.W.Writer.settled c.args.writer.now c.args.text.now c.loop-rest.writer c.loop-rest.rest.now c.loop-rest.invariant c.put_some.new.writer _
    (taken_some g.W.Writer.contents g.W.Writer.wrote g.W.Writer.settled c.loop-rest.writer c.loop-rest.rest.now c.put_some.new.writer n (omega (arith, c.in-Ok.n-test)) c.in-Ok.ensures.bound c.in-Ok.ensures.calls c.in-Ok.ensures.bytes _ (take_rest _ n))

pub returns-in-Err : goal.returns-in-Err
returns-in-Err g c =
    let mid = c.loop-rest.writer in
    let rest = c.loop-rest.rest.now in
    let last = c.put_some.new.writer in
    let some : 0 < length rest = search rules in
    breaks_on g.W.Writer.contents g.W.Writer.wrote g.W.Writer.settled c.args.writer.now c.args.text.now mid rest c.loop-rest.invariant last
    (breaks g.W.Writer.contents g.W.Writer.wrote g.W.Writer.settled mid rest last some (inl (_, c.in-Err.ensures.calls)) (appends_nothing _ _ c.in-Err.ensures.bytes))

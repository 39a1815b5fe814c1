use Rattle.std.proofs.Common.{Option, subst}
use Rattle.ir_show.specs.declared.worst.Weighed.{Weighed}
use Rattle.ir_show.specs.Before.{IsWorstBefore}
use Rattle.ir_show.proofs.Pairs.{passes, begins, takes, keeps, worse_by, as_weighed}
use Rattle.ir_show.proofs.worst.worse_of.Goals as goal

pub returns-then-pair : goal.returns-then-pair
returns-then-pair c = λ n walk distance from_in to_in positive weighed before. passes n walk distance c.args.pair.ends.from c.args.pair.ends.to c.if-pair.true c.args.best before

pub returns-in_default : goal.returns-in_default
returns-in_default c = λ n walk distance from_in to_in positive weighed before.
    let P : Option Weighed → Type 0 = λ best. IsWorstBefore n walk distance c.args.pair.ends.from c.args.pair.ends.to best in
    (begins n walk distance c.args.pair.ends.from c.args.pair.ends.to from_in to_in c.if-pair.false (subst P c.in_default.is before), weighed)

pub returns-then-is_worse : goal.returns-then-is_worse
returns-then-is_worse c = λ n walk distance from_in to_in positive weighed before.
    let pair = c.args.pair in
    let other = c.in-Some.other in
    let P : Option Weighed → Type 0 = λ best. IsWorstBefore n walk distance pair.ends.from pair.ends.to best in
    let is = subst P c.in-Some.is before in
    (takes n walk distance positive pair.ends.from pair.ends.to other.ends.from other.ends.to from_in to_in c.if-pair.false is.0 (worse_by n walk distance pair other weighed is.1 (c.is_worse.ensures.0 c.if-is_worse.true)), weighed)

pub returns-else-is_worse : goal.returns-else-is_worse
returns-else-is_worse c = λ n walk distance from_in to_in positive weighed before.
    let pair = c.args.pair in
    let other = c.in-Some.other in
    let P : Option Weighed → Type 0 = λ best. IsWorstBefore n walk distance pair.ends.from pair.ends.to best in
    let is = subst P c.in-Some.is before in
    (keeps n walk distance pair.ends.from pair.ends.to other.ends.from other.ends.to is.0 (λ worse. (let yes = c.is_worse.ensures.1 (as_weighed n walk distance pair other weighed is.1 worse) in cc (yes, c.if-is_worse.false))), is.1)

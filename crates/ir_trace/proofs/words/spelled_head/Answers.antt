use Rattle.std.proofs.Common.{arith}
use Rattle.ir_trace.specs.Spelled.{fate_held}
use Rattle.ir_trace.proofs.ReadSpellings.{no_head_fate, no_head_id, no_head_weight, has_head}
use Rattle.ir_trace.proofs.words.spelled_head.Goals as goal

pub returns-in_default-spelled_fate : goal.returns-in_default-spelled_fate
returns-in_default-spelled_fate c = no_head_fate c.args.words.now (omega arith) c.in_default-spelled_fate.ensures

pub returns-in_default-number : goal.returns-in_default-number
returns-in_default-number c = no_head_id c.args.words.now (omega arith) c.in_default-number.ensures

pub returns-in_default-number-2 : goal.returns-in_default-number-2
returns-in_default-number-2 c = no_head_weight c.args.words.now (omega arith) c.in_default-number-2.ensures

pub returns : goal.returns
returns c =
    has_head c.args.words.now (omega arith) (fate_held c.in-Some.fate) c.in-Some.rest.now c.in-Some-number.id c.in-Some-number-2.weight
    c.in-Some.ensures (omega arith) (omega arith) c.in-Some-number.ensures c.in-Some-number-2.ensures

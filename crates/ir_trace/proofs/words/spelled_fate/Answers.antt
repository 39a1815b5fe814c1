use Rattle.ir_trace.specs.Spelled.{texts}
use Rattle.ir_trace.proofs.ReadSpellings.{no_fate, no_down, no_full}
use Rattle.ir_trace.proofs.words.spelled_fate.Goals as goal

pub returns-in_default : goal.returns-in_default
returns-in_default c =
    no_fate c.args.word.now (texts c.args.rest.now) c.in_default.not-delivered c.in_default.not-retired c.in_default.not-left c.in_default.not-down c.in_default.not-full

pub returns-in_default-rest : goal.returns-in_default-rest
returns-in_default-rest c = no_down c.args.word.now c.args.rest.now c.in-down.is c.in_default-rest.len_below

pub returns-in_default-rest-2 : goal.returns-in_default-rest-2
returns-in_default-rest-2 c = no_full c.args.word.now c.args.rest.now c.in-full.is c.in_default-rest-2.len_below

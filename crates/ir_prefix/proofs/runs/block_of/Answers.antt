use Rattle.std.proofs.Common.{◌*◌, arith}
use Rattle.ir_prefix.proofs.RunLemmas.{mixed_block, block_of_port, unsent_block}
use Rattle.ir_prefix.proofs.runs.block_of.Goals as goal

pub returns-then-run-low : goal.returns-then-run-low
returns-then-run-low c =
    let w = c.requires.runs.each (c.args.index * c.pow-size.result) (record { first = 0; port = 0; end = 0 }) (omega arith) in
    mixed_block c.args.ports.now c.args.height c.args.index c.pow-size.result c.pow-size.ensures _ w.0 (omega arith) w.1 c.if-run-low.true

pub returns-then-run-low-2 : goal.returns-then-run-low-2
returns-then-run-low-2 c =
    let w = c.requires.runs.each (c.args.index * c.pow-size.result) (record { first = 0; port = 0; end = 0 }) (omega arith) in
    block_of_port c.args.ports.now c.args.height c.args.index c.pow-size.result c.pow-size.ensures _ w.0 (omega arith) c.if-run-low-2.true

pub returns : goal.returns
returns c =
    let w = c.requires.runs.each (c.args.index * c.pow-size.result) (record { first = 0; port = 0; end = 0 }) (omega arith) in
    unsent_block c.args.ports.now c.args.height c.args.index c.pow-size.result c.pow-size.ensures _ w.0 (omega arith) (omega arith)

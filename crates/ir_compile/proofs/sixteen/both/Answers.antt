use Rattle.ir_compile.proofs.ShortRuns.{lanes_both}
use Rattle.ir_compile.proofs.sixteen.both.Goals as goal

pub returns : goal.returns
returns c = lanes_both c.args.a c.args.b c.requires.left c.requires.right

use Rattle.ir_answer.proofs.Runs.{fits_sub}
use Rattle.ir_answer.proofs.running.follow_by.Goals as goal

pub follow_as-requires-clause-kind : goal.follow_as-requires-clause-kind
follow_as-requires-clause-kind g c κs within = fits_sub c.args.words.now.sub c.args.words.now c.requires.kind

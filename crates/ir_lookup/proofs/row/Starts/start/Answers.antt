use Rattle.ir_lookup.proofs.WordLemmas.{label_read}
use Rattle.ir_lookup.proofs.row.Starts.start.Goals as goal

pub returns : goal.returns
returns c = label_read _ _ _ _ c.self.view_is c.requires c.index.ensures

use Rattle.ir_lookup.proofs.WordLemmas.{port_read}
use Rattle.ir_lookup.proofs.row.Starts.port.Goals as goal

pub returns : goal.returns
returns c = port_read _ _ _ _ c.self.view_is c.requires c.index.ensures

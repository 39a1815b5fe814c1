use denote.Param.Send.{IsSync, part_keyless}
use Rattle.ir_epochs.specs.contracts.tag.Tag.{the_row}
use Rattle.ir_epochs.proofs.tag.Tag.TheSendSync.Send.{send}

pub sync : IsSync the_row
sync = record { shared = λ d b o κ q. part_keyless the_row send q d b o }

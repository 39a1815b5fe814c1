use Rattle.ir_epochs.proofs.Adding.{looks_moves}
use Rattle.ir_epochs.proofs.chronicle.bound_log.Goals as goal

pub compare_exchange-requires : goal.compare_exchange-requires
compare_exchange-requires c =
    let offer = c.plain-offer.ensures in (
      c.requires.head.0,
      c.requires.book.0,
      c.requires.book.1,
      offer.0,
      rw (c.requires.head.1, offer.3) (looks_moves c.args.front.now.log c.plain-offer.result.ask c.args.pen.now.nib c.requires.right),
    )

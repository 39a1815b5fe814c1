use Rattle.std.proofs.Common.{◌≡◌, ◌+◌, length, arith}
use Rattle.ir_epochs.proofs.Adding.{reserve_moves}
use Rattle.ir_epochs.proofs.chronicle.take_pen.Goals as goal

pub compare_exchange-found-requires : goal.compare_exchange-found-requires
compare_exchange-found-requires c =
    let offer = c.plain-offer.ensures in
    let version = c.requires.version in (
      c.requires.head.0,
      c.requires.book.0,
      c.requires.book.1,
      offer.0,
      rw (c.requires.head.1, c.requires.none, offer.3) (reserve_moves c.args.front.now.log c.plain-offer.result.ask (c.args.version + c.args.version) (omega (arith, version))),
    )

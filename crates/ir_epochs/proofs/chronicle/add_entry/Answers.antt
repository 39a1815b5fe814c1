use Rattle.std.proofs.Common.{◌≡◌, ◌+◌, length, arith}
use Rattle.ir_epochs.proofs.Adding.{adds_moves}
use Rattle.ir_epochs.proofs.chronicle.add_entry.Goals as goal

pub compare_exchange-requires : goal.compare_exchange-requires
compare_exchange-requires c =
    let offer = c.plain-offer.ensures in
    let version = c.requires.version in (
      c.requires.head.0,
      c.requires.book.0,
      c.requires.book.1,
      offer.0,
      rw (c.requires.head.1, offer.1, offer.3) (adds_moves c.args.front.now.log c.args.entry.now c.args.pen.now.nib (c.args.version + c.args.version + 1) (omega (arith, version)) c.requires.right c.requires.key),
    )

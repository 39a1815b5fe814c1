use Rattle.std.proofs.Common.{refl, length}
use Rattle.std.proofs.lemmas.Option.{slice_get_read}
use Rattle.ir_control.proofs.Nets.{lines_kept, sent_by, not_sent_by}
use Rattle.ir_control.proofs.injector.send_to.Goals as goal

pub send-requires-after_bounds : goal.send-requires-after_bounds
send-requires-after_bounds g c κs within =
    c.requires.goes c.index_mut-out.result.now (slice_get_read c.args.outs.now.items (length c.args.outs.now.items) c.args.node c.index_mut-out.result.now refl c.requires.node c.index_mut-out.ensures.value)

pub returns-clause-sent : goal.returns-clause-sent
returns-clause-sent g c =
    sent_by c.args.outs.now.items c.args.node c.index_mut-out.result.now _ c.args.parcel c.requires.node c.index_mut-out.ensures.value c.in-Ok.ensures.sent

pub returns-clause-lines : goal.returns-clause-lines
returns-clause-lines g c = lines_kept c.args.outs.now.items c.args.node _ _ c.index_mut-out.ensures.value c.in-Ok.ensures.channel

pub returns-in-Err-clause-sent : goal.returns-in-Err-clause-sent
returns-in-Err-clause-sent g c =
    not_sent_by g.R.Moments.was_full c.args.outs.now.items c.args.node c.index_mut-out.result.now _ c.args.parcel c.requires.node c.index_mut-out.ensures.value c.in-Err.ensures.sent.1 c.in-Err.ensures.moment

use Rattle.ir_cli.proofs.write.tell.Goals as goal

pub returns : goal.returns
returns g c = (c.write_text-told.result, (c.write_text-told.ensures.calls, c.write_text-told.ensures.bytes))

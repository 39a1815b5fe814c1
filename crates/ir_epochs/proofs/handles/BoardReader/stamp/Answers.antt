use Rattle.ir_epochs.proofs.handles.BoardReader.stamp.Goals as goal

pub returns : goal.returns
returns c = rw c.again.ensures c.args.self.now.newest.made.stamp

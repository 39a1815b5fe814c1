use Rattle.std.proofs.Common.{◌≡◌, fold, ap, ◌∙◌}
use Rattle.ir_epochs.proofs.Steps.{sees}
use Rattle.ir_epochs.proofs.handles.show.Goals as goal

pub publish_as-writer-requires : goal.publish_as-writer-requires
publish_as-writer-requires g c next is =
    let same : next ≡ c.args._next.now = is ∙ ap (λ ops. fold (λ _ p. p) c.args.writer.desk.shown.value ops) c.requires.pending in
    rw same (sees _ _ c.args.writer.desk.shown.value c.args._next.now c.requires.board c.requires.later)

use Rattle.std.proofs.Common.{subst}
use Rattle.ir_epochs.specs.declared.published.Published.{Published}
use Rattle.ir_epochs.specs.Entries.{IsCurrent}
use Rattle.ir_epochs.proofs.handles.BoardWriter.stamp.Goals as goal

pub returns : goal.returns
returns g c =
    let now = c.published.result.now in
    rw c.again.ensures (subst (λ (p : Published). IsCurrent p.front.log now.stamp) c.published.ensures now.made.stamp)

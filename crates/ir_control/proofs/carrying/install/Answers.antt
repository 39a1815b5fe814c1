use Rattle.std.specs.Prelude.{◌≡◌, Option, Some}
use Rattle.std.proofs.Common.{ap, ◌∙◌}
use Rattle.ir_epochs.specs.declared.registry.Stamp.{Stamp}
use Rattle.ir_epochs.specs.declared.entry.Change.TheVariants.{Install}
use Rattle.ir_epochs.specs.Entries.{installed_by}
use Rattle.ir_epochs.specs.Handles.{told, published}
use Rattle.ir_epochs.proofs.Lasts.{installed_last}
use Rattle.ir_control.specs.Accepted.{stamp_after_learning}
use Rattle.ir_control.proofs.carrying.install.Goals as goal

pub returns-in-Some : goal.returns-in-Some
returns-in-Some g c =
    let i = c.in-Ok.ensures.answer in
    let s : Stamp = i.stamp in
    let by : installed_by (told c.in-Ok.receipt) ≡ Some s = ap installed_by (i.publishes.told_is ∙ i.publishes.published_is) ∙ installed_last (published c.args.parts.now.controller.writer) (Install s) s in
    let same : s ≡ c.again.result = cc (by, c.in-Some.ensures.installed, c.again.ensures) in
    record {
      receipt = c.in-Ok.receipt;
      installs = i;
      stamp_is = same;
      learnt = record {
        newest = c.learn.ensures.newest ∙ ap (λ (o : Option Stamp). stamp_after_learning c.args.parts.now.injector.newest o) (by ∙ ap Some same);
        outs = c.learn.ensures.same.1;
        accepted = c.learn.ensures.same.2;
        opening = c.learn.ensures.same.0;
        most = c.learn.ensures.same.3;
      };
    }

pub unreachable-requires : goal.unreachable-requires
unreachable-requires g c =
    let i = c.in-Ok.ensures.answer in
    let by : installed_by (told c.in-Ok.receipt) ≡ Some i.stamp = ap installed_by (i.publishes.told_is ∙ i.publishes.published_is) ∙ installed_last (published c.args.parts.now.controller.writer) (Install i.stamp) i.stamp in
    absurd (cc (by, c.in-None.ensures.installed))

use Rattle.std.proofs.Common.{subst, ap, ◌∙◌}
use Rattle.std.proofs.lemmas.Result.{IfOk-at_ok}
use Rattle.std.specs.Prelude.{List}
use Rattle.ir_control.specs.Carried.{AreTold}
use Rattle.ir_control.specs.Desks.{desk_of}
use Rattle.ir_control.specs.Runs.{CameBack, IsStopped}
use Rattle.ir_worker.specs.declared.node.Node.{Node}
use Rattle.ir_worker.specs.Turns.{MayEnd}
use Rattle.ir_control.proofs.working.fn.run_nodes.scope.Goals as goal

pub returns-in-Err : goal.returns-in-Err
returns-in-Err g c = record {
  run = tt;
  closed = tt;
  set = tt;
  stopped = subst (λ (ns : List Node). IsStopped (g.S.Starter.unstarted c.captures.by.now.starter.now) ns c.in-Err.error) (ap (λ v. v.items) c.replace-nodes.ensures.value) c.in-Err.ensures.stopped;
}

pub returns : goal.returns
returns g c =
    let may_end = MayEnd g.F.Flag.was_set g.G.Gate.barred c.captures.by.now.stop.now c.captures.by.now.gate.now in
    let ended = c.in-Ok-join_all.ensures in
    let told = IfOk-at_ok (λ told. AreTold g.R.Moments.was_full c.captures.commands.now (desk_of c.captures.parts) (desk_of c.carry_and_close-told.new.parts) c.captures.net.now.opening told.0.items told.1.items)
    ended.told c.carry_and_close-told.ensures.told in record {
      run = record {
        came_back = subst (λ (ns : List Node). CameBack g.R.Moments.was_full g.R.Moments.was_empty g.R.Looks.looked may_end ns c.in-Ok-join_all.ended.0.items)
            (c.in-Ok.ensures.nodes ∙ ap (λ v. v.items) c.replace-nodes.ensures.value) (ended.back c.captures.by.now.stop.now c.captures.by.now.gate.now c.in-Ok.ensures.by);
        answers = told.0;
        carried_out = told.1;
        refusals = told.2;
        stamps = told.3;
      };
      closed = c.carry_and_close-told.ensures.closed;
      set = c.carry_and_close-told.ensures.set;
      stopped = tt;
    }

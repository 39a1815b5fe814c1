use Rattle.std.proofs.Common.{◌≡◌, ℕ, ◌+◌, ◌∙◌, length, ap, arith, Option}
use Rattle.std.specs.Prelude.{unwrap_or}
use Rattle.ir_plan.specs.declared.distances.TheConstants.{NO_PORT}
use Rattle.std.proofs.lemmas.List.{length_push}
use Rattle.ir_model.specs.Plan.{table_port, node_in}
use Rattle.ir_plan.specs.Distances.{column_port}
use Rattle.ir_plan.proofs.Lists.{read_pushed}
use Rattle.ir_plan.proofs.Differences.{column_port_is}
use Rattle.ir_plan.proofs.distances.column.Goals as goal

pub loop-u-preserved : goal.loop-u-preserved
loop-u-preserved c =
    let plan = c.args.plan.now in
    let there : node_in plan c.label_of-label.result ≡ c.args.d = ap (node_in plan) c.label_of-label.ensures ∙ c.nodes-nodes.ensures.plan.labels.there c.args.d c.requires in
    let read : c.unwrap_or.result ≡ column_port (table_port plan c.loop-u.u c.args.d) =
    c.unwrap_or.ensures ∙ ap (λ (o : Option ℕ). unwrap_or o NO_PORT) c.port.ensures ∙ ap (λ (d : ℕ). unwrap_or (table_port plan c.loop-u.u d) NO_PORT) there ∙ column_port_is (table_port plan c.loop-u.u c.args.d) in
    record {
      every = ap length c.in_ok-push.ensures.items ∙ length_push c.loop-u.ports.items c.unwrap_or.result ∙ ap (λ (k : ℕ). k + 1) c.loop-u.invariant.every;
      ports = read_pushed (λ (k : ℕ). column_port (table_port plan k c.args.d)) c.loop-u.ports.items c.push.new.self.items c.loop-u.u c.unwrap_or.result c.loop-u.invariant.every c.loop-u.invariant.ports c.in_ok-push.ensures.items read;
    }

pub returns : goal.returns
returns c = record {
  every = omega (arith, c.loop-u.invariant.every, c.nodes-nodes.ensures.count);
  port = λ u lt. c.loop-u.invariant.ports u (omega (arith, lt, c.nodes-nodes.ensures.count));
}

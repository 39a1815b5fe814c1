use Rattle.std.proofs.Common.{subst, sym, refl, rules, get_or, ◌⊎◌, inl, inr}
use Rattle.std.proofs.lemmas.Iterator.Adapters.{YieldsList-from_vec}
use Rattle.std.proofs.lemmas.Iterator.Consumers.{YieldsList-turn}
use Rattle.std.proofs.lemmas.Option.{slice_get_read}
use Rattle.std.specs.Prelude.{◌≡◌, ℕ, ◌<◌, List, length}
use Rattle.ir_worker.specs.declared.node.Node.{Node}
use Rattle.ir_control.specs.declared.live.LiveError.{LiveError}
use Rattle.ir_control.specs.declared.live.LiveError.TheVariants.{NoThread, NoMemory}
use Rattle.ir_control.specs.Runs.{IsStopped}
use Rattle.ir_control.proofs.Kept.{one_more}
use Rattle.ir_control.proofs.Promised.{promised_push}
use Rattle.ir_control.proofs.working.start_all.Goals as goal

pub loop-node-preserved : goal.loop-node-preserved
loop-node-preserved g c =
    let added = c.in_default-start.ensures.started in (
      promised_push (λ h. h.promise.node.value) c.loop-node.running.items c.start.new.running.items c.loop-node.yielded added.0 c.in-Some.node c.loop-node.invariant.0 added.1 added.2,
      one_more (λ h. (h.promise.stop.value ≡ c.args.by.now.stop.now) × (h.promise.gate.value ≡ c.args.by.now.gate.now)) c.loop-node.running.items c.start.new.running.items added.0 c.loop-node.invariant.1 added.1 added.3,
    )

-- one of these nodes, whose thread was not started, or want of memory
stopped : (unstarted : ℕ → Type 0) (nodes : List Node) (k : ℕ) (n : Node) (error : LiveError) → (k < length nodes) × (n ≡ get_or nodes k n) →
    ((error ≡ NoMemory) ⊎ ((error ≡ NoThread) × unstarted n.index)) → IsStopped unstarted nodes error
stopped unstarted nodes k n error turn (inl e) = subst (IsStopped unstarted nodes) (sym e) tt
stopped unstarted nodes k n error turn (inr w) =
    subst (IsStopped unstarted nodes) (sym w.0) (k, n, slice_get_read nodes (length nodes) k n refl turn.0 turn.1, w.1)

pub returns-in-Err-clause-stopped : goal.returns-in-Err-clause-stopped
returns-in-Err-clause-stopped g c =
    let turn = YieldsList-turn (YieldsList-from_vec {s = c.into_iter-node-iterator.result} c.args.nodes.items (search rules) (search rules))
    c.loop-node.yielded c.loop-node.node-iterator c.loop-node.yielded_by c.next.result c.next.new.self c.in-Some.node c.in-Some.is c.next.ensures.steps in
    stopped (g.S.Starter.unstarted c.args.by.now.starter.now) c.args.nodes.items (length c.loop-node.yielded) c.in-Some.node c.in-Err.error turn c.in-Err.ensures.refused

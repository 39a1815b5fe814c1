use Rattle.std.specs.Prelude.{ℕ}
use Rattle.ir_model.specs.declared.Hop.{Hop}
use Rattle.ir_links.specs.Ends.{Channel}
use Rattle.ir_epochs.specs.declared.registry.Stamp.{Stamp}
use Rattle.ir_worker.specs.declared.parcel.Place.{Place}
use Rattle.ir_control.specs.Wired.{IsNetChannel}
use Rattle.ir_control.proofs.Rows.{one_more, row_done}
use Rattle.ir_control.proofs.channels.add_ways.Goals as goal

abbrev has_way : Stamp → ℕ → ℕ → ℕ → Hop → Channel Place → Type 0
has_way opening restamps capacity v hop channel = IsNetChannel opening restamps capacity v hop.node channel

pub loop-hop-preserved : goal.loop-hop-preserved
loop-hop-preserved c =
    one_more c.args.topology.now (has_way c.args.terms.now.opening.now c.args.terms.now.restamps c.args.terms.now.capacity) c.args.u c.loop-hop.hop-index c.ports-hop-items.result.now
    c.ports-hop-items.ensures
    c.loop-hop.ways.items c.push.new.self.items c.in_ok-channel.field-0 _ c.loop-hop.invariant c.loop-hop-test.true c.in_ok-channel.ensures c.in_ok-push.ensures.items

pub returns : goal.returns
returns c =
    row_done c.args.topology.now (has_way c.args.terms.now.opening.now c.args.terms.now.restamps c.args.terms.now.capacity) c.args.u c.loop-hop.hop-index c.ports-hop-items.result.now
    c.ports-hop-items.ensures
    c.loop-hop.ways.items c.loop-hop.invariant c.requires.node c.loop-hop-test.false c.loop-hop.auto.hop-index-end

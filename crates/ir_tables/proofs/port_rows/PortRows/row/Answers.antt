use Rattle.std.proofs.Common.{length, ap, arith}
use Rattle.ir_tables.proofs.Cuts.{place_behind, row_read}
use Rattle.ir_tables.proofs.port_rows.PortRows.row.Goals as goal

pub index-requires : goal.index-requires
index-requires c =
    let behind = place_behind c.self.inside.begins.items c.self.inside.hops.items c.args.self.now c.args.node c.self.invariant c.self.view_is c.requires in
    omega (arith, behind, c.self.inside.begins.ok.0)

pub overflow_add-node : goal.overflow_add-node
overflow_add-node c =
    let behind = place_behind c.self.inside.begins.items c.self.inside.hops.items c.args.self.now c.args.node c.self.invariant c.self.view_is c.requires in
    omega (arith, behind, c.self.inside.begins.ok.0, c.self.inside.begins.small)

pub index-requires-2 : goal.index-requires-2
index-requires-2 c =
    let behind = place_behind c.self.inside.begins.items c.self.inside.hops.items c.args.self.now c.args.node c.self.invariant c.self.view_is c.requires in
    omega (arith, behind, c.self.inside.begins.ok.0)

pub offset_bounds-deref-index : goal.offset_bounds-deref-index
offset_bounds-deref-index c =
    let r = row_read c.self.inside.begins.items c.self.inside.hops.items c.args.self.now c.args.node c.index.result.now c.index-2.result.now c.self.invariant c.self.view_is c.requires c.index.ensures c.index-2.ensures in
    omega (arith, r.0, r.1, c.self.inside.hops.small)

pub slice_bounds-result-count : goal.slice_bounds-result-count
slice_bounds-result-count c =
    let r = row_read c.self.inside.begins.items c.self.inside.hops.items c.args.self.now c.args.node c.index.result.now c.index-2.result.now c.self.invariant c.self.view_is c.requires c.index.ensures c.index-2.ensures in
    r.0

pub slice_bounds-result-start : goal.slice_bounds-result-start
slice_bounds-result-start c =
    let r = row_read c.self.inside.begins.items c.self.inside.hops.items c.args.self.now c.args.node c.index.result.now c.index-2.result.now c.self.invariant c.self.view_is c.requires c.index.ensures c.index-2.ensures in
    omega (arith, r.0)

pub slice_bounds-result-end : goal.slice_bounds-result-end
slice_bounds-result-end c =
    let r = row_read c.self.inside.begins.items c.self.inside.hops.items c.args.self.now c.args.node c.index.result.now c.index-2.result.now c.self.invariant c.self.view_is c.requires c.index.ensures c.index-2.ensures in
    omega (arith, r.1, ap length c.deref.ensures.value)

pub returns : goal.returns
returns c =
    let r = row_read c.self.inside.begins.items c.self.inside.hops.items c.args.self.now c.args.node c.index.result.now c.index-2.result.now c.self.invariant c.self.view_is c.requires c.index.ensures c.index-2.ensures in
    rw c.deref.ensures.value r.2

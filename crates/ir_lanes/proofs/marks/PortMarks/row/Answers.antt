use Rattle.std.proofs.Common.{◌≡◌, ◌*◌, ◌↔◌, ◌∙◌, ◌+◌, ◌<◌, ◌≤◌, [], ℕ, List, length, ap, sym, subst, arith}
use Rattle.std.specs.Prelude.{slice_index, slice_index_or}
use Rattle.ir_model.specs.Topology.{node_count}
use Rattle.ir_model.specs.Table.{LeadsNearer}
use Rattle.ir_model.proofs.Walks.{degree_bound}
use Rattle.ir_lanes.specs.Inward.{IsSet, ports_before}
use Rattle.ir_lanes.specs.Marks.{PortMarks}
use Rattle.ir_lanes.proofs.Words.{before_few}
use Rattle.ir_lanes.proofs.Batches.{begin_read, has_place, marked_here, IsMarkedTo, marked_none, marked_more}
use Rattle.ir_lanes.proofs.marks.PortMarks.row.Goals as goal

pub overflow_add-place : goal.overflow_add-place
overflow_add-place c =
    let net = c.args.topology.now in
    let u = c.args.node in
    let inside : c.self.inside.begins.items ≡ c.args.self.now.begins = ap (λ (m : PortMarks). m.begins) c.self.view_is in
    let read = begin_read net c.args.order.now c.args.self.now c.requires.marks u c.requires.node c.self.inside.begins.items inside c.index.result.now c.index.ensures in
    let ok = c.invariant.ensures.topology in
    let few : node_count net ≤ 32768 = ok.few_nodes in
    let before = before_few net ok u (omega (arith, c.requires.node)) in
    record { fits = omega (arith, read, before, few, degree_bound net ok u, c.requires.node, c.requires.port) }

pub index-requires : goal.index-requires
index-requires c =
    let inside = ap (λ (m : PortMarks). length m.begins) c.self.view_is in
    omega (arith, c.requires.node, c.requires.marks.every, inside, c.self.inside.begins.ok.0)

pub overflow_mul-batch : goal.overflow_mul-batch
overflow_mul-batch c =
    record { fits = omega (arith, c.loop-batch-test.true, c.div_ceil-batch-end.ensures, c.requires.few) }

pub word-requires-clause-batch : goal.word-requires-clause-batch
word-requires-clause-batch c =
    omega (arith, c.loop-batch-test.true, c.div_ceil-batch-end.ensures, c.requires.marks.enough)

pub put_word-requires : goal.put_word-requires
put_word-requires c =
    let i = c.loop-batch.invariant in
    record {
      first = omega (arith, c.loop-batch-test.true, c.div_ceil-batch-end.ensures, c.requires.few);
      few = omega (arith, i.every, c.requires.few);
      clean = i.behind;
    }

pub word-requires-clause-place : goal.word-requires-clause-place
word-requires-clause-place c =
    let net = c.args.topology.now in
    let nodes = c.args.order.now in
    let u = c.args.node in
    let inside : c.self.inside.begins.items ≡ c.args.self.now.begins = ap (λ (m : PortMarks). m.begins) c.self.view_is in
    let read = begin_read net nodes c.args.self.now c.requires.marks u c.requires.node c.self.inside.begins.items inside c.index.result.now c.index.ensures in
    let b_in : c.loop-batch.batch * 16 < length nodes = omega (arith, c.loop-batch-test.true, c.div_ceil-batch-end.ensures) in
    omega (arith, read, has_place net nodes c.args.self.now c.requires.marks u c.args.port c.loop-batch.batch c.requires.node c.requires.port b_in)

pub loop-batch-init : goal.loop-batch-init
loop-batch-init c =
    let none = c.in_ok-row.ensures.items_if_clones_equal (λ y e. e) in
    rw (none, c.new-marked.ensures.items) (marked_none c.args.topology.now c.args.order.now c.args.node c.args.port)

pub loop-batch-preserved : goal.loop-batch-preserved
loop-batch-preserved c =
    let net = c.args.topology.now in
    let nodes = c.args.order.now in
    let marks = c.args.self.now in
    let u = c.args.node in
    let p = c.args.port in
    let b : ℕ = c.loop-batch.batch in
    let inside : c.self.inside.begins.items ≡ marks.begins = ap (λ (m : PortMarks). m.begins) c.self.view_is in
    let read = begin_read net nodes marks c.requires.marks u c.requires.node c.self.inside.begins.items inside c.index.result.now c.index.ensures in
    let words : List ℕ = slice_index_or marks.batches b [] in
    let word : c.word.result ≡ slice_index words (ports_before net u + p) = c.word.ensures ∙ ap (λ (x : ℕ). slice_index words (x + p)) read in
    let b_in : b * 16 < length nodes = omega (arith, c.loop-batch-test.true, c.div_ceil-batch-end.ensures) in
    let bits = λ (k : ℕ) (k_in : k < 16) (room : b * 16 + k < length nodes).
    subst (λ (w : ℕ). IsSet w k ↔ LeadsNearer net u (slice_index nodes (b * 16 + k)) p) (sym word) (marked_here net nodes marks c.requires.marks u p b c.requires.node c.requires.port b_in k k_in room) in
    let next : b * 16 + 16 ≡ (b + 1) * 16 = omega arith in
    subst (λ (i : ℕ). IsMarkedTo net nodes u p i c.put_word.new.row.items c.put_word.new.marked.items) next
    (marked_more net nodes u p (b * 16) c.word.result c.loop-batch.row.items c.loop-batch.marked.items c.put_word.new.row.items c.put_word.new.marked.items bits c.loop-batch.invariant c.in_ok-put_word.ensures)

pub returns-clause-marks : goal.returns-clause-marks
returns-clause-marks c =
    let i = c.loop-batch.invariant in
    record { every = i.every; marks = λ d d_in. i.below d d_in (omega (arith, d_in, c.loop-batch-test.false, c.div_ceil-batch-end.ensures)) }

pub returns-clause-marked : goal.returns-clause-marked
returns-clause-marked c =
    let i = c.loop-batch.invariant in
    record { place = λ d has. omega (arith, i.place d has, i.every); each = λ d d_in yes. i.each d (omega (arith, d_in, i.every)) yes }

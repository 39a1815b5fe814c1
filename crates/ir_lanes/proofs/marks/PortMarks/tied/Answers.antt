use Rattle.std.proofs.Common.{◌≡◌, ◌*◌, ◌<◌, ◌≤◌, ◌∙◌, [], ℕ, List, length, ap, subst, arith}
use Rattle.std.specs.Prelude.{slice_index_or}
use Rattle.std.specs.Global.{Vec}
use Rattle.std.proofs.lemmas.List.{length-map}
use Rattle.ir_model.specs.declared.Hop.{Hop}
use Rattle.ir_model.specs.Topology.{ports_of}
use Rattle.ir_lanes.specs.Inward.{ports_before}
use Rattle.ir_lanes.specs.Marks.{PortMarks, ArePushedTied, word_lists}
use Rattle.ir_lanes.proofs.Batches.{begin_read, words_read}
use Rattle.ir_lanes.proofs.PortLanes.{ports_place, tied_more}
use Rattle.ir_lanes.proofs.marks.PortMarks.tied.Goals as goal

pub index-requires : goal.index-requires
index-requires c =
    let marks = c.args.self.now in
    let items = c.self.inside.batches.items in
    let b_in : c.loop-batch.batch * 16 < length c.args.order.now = omega (arith, c.loop-batch-test.true, c.div_ceil-batches.ensures) in
    let lists : length (word_lists items) ≡ length marks.batches = ap (λ (m : PortMarks). length m.batches) c.self.view_is in
    let long : length (word_lists items) ≡ length items = length-map items (λ (w : Vec ℕ). w.items) in
    omega (arith, b_in, c.requires.marks.enough, lists, long, c.self.inside.batches.ok.0)

pub push_tied-requires-clause-words : goal.push_tied-requires-clause-words
push_tied-requires-clause-words c =
    let net = c.args.topology.now in
    let marks = c.args.self.now in
    let u : ℕ = c.args.node in
    let b : ℕ = c.loop-batch.batch in
    let inside = ap (λ (m : PortMarks). m.begins) c.self.view_is in
    let lists = ap (λ (m : PortMarks). m.batches) c.self.view_is in
    let b_in : b * 16 < length c.args.order.now = omega (arith, c.loop-batch-test.true, c.div_ceil-batches.ensures) in
    let begin = begin_read net c.args.order.now marks c.requires.marks u c.requires.node c.self.inside.begins.items inside c.index-begin.result.now c.index-begin.ensures in
    let words : c.as_slice.result.now ≡ slice_index_or marks.batches b [] =
    c.as_slice.ensures.value ∙ words_read c.self.inside.batches.items marks.batches lists b (omega (arith, b_in, c.requires.marks.enough)) c.index.result.now c.index.ensures in
    let ports = ap (λ (hops : List Hop). length hops) c.ports-ports.ensures in
    let longer = ap (λ (ws : List ℕ). length ws) words in
    omega (arith, begin, longer, ports, ports_place net c.args.order.now marks c.requires.marks u b c.requires.node b_in)

pub loop-batch-preserved : goal.loop-batch-preserved
loop-batch-preserved c =
    let net = c.args.topology.now in
    let marks = c.args.self.now in
    let u : ℕ = c.args.node in
    let b : ℕ = c.loop-batch.batch in
    let old : List ℕ = c.loop-batch.tied.items in
    let new : List ℕ = c.push_tied.new.tied.items in
    let inside = ap (λ (m : PortMarks). m.begins) c.self.view_is in
    let lists = ap (λ (m : PortMarks). m.batches) c.self.view_is in
    let b_in : b * 16 < length c.args.order.now = omega (arith, c.loop-batch-test.true, c.div_ceil-batches.ensures) in
    let begin = begin_read net c.args.order.now marks c.requires.marks u c.requires.node c.self.inside.begins.items inside c.index-begin.result.now c.index-begin.ensures in
    let words : c.as_slice.result.now ≡ slice_index_or marks.batches b [] =
    c.as_slice.ensures.value ∙ words_read c.self.inside.batches.items marks.batches lists b (omega (arith, b_in, c.requires.marks.enough)) c.index.result.now c.index.ensures in
    tied_more net c.args.order.now marks c.requires.marks u b c.requires.node b_in old new c.loop-batch.invariant
    (subst (λ (ws : List ℕ). ArePushedTied ws (ports_before net u) (length (ports_of net u)) old new) words
    (subst (λ (x : ℕ). ArePushedTied c.as_slice.result.now x (length (ports_of net u)) old new) begin
    (subst (λ (hops : List Hop). ArePushedTied c.as_slice.result.now c.index-begin.result.now (length hops) old new) c.ports-ports.ensures c.in_ok-push_tied.ensures)))

pub push_tied-requires-clause-few : goal.push_tied-requires-clause-few
push_tied-requires-clause-few c = omega (arith, c.requires.ports, ap (λ (hops : List Hop). length hops) c.ports-ports.ensures)

pub loop-batch-init : goal.loop-batch-init
loop-batch-init c = record {
  every = ap (λ (ws : List ℕ). length ws) c.in_ok-tied.ensures.items;
  bit = λ d p d_in d_listed. absurd (omega (arith, d_in));
}

pub returns : goal.returns
returns c =
    let i = c.loop-batch.invariant in
    let all : length c.args.order.now ≤ c.loop-batch.batch * 16 = omega (arith, c.loop-batch-test.false, c.div_ceil-batches.ensures) in
    record {
      enough = omega (arith, all, i.every);
      bit = λ d p d_in. i.bit d p (omega (arith, d_in, all)) d_in;
    }

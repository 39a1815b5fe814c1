use Rattle.std.proofs.Common.{◌≡◌, ◌↔◌, ◌<◌, ◌≤◌, ◌∙◌, ℕ, List, ap, sym, subst, arith}
use Rattle.std.specs.Prelude.{slice_index}
use Rattle.ir_model.specs.Topology.{node_count}
use Rattle.ir_model.specs.Landmark.{IsLandmarkBound}
use Rattle.ir_compile.specs.PortBits.{HasPortBit}
use Rattle.ir_bounds.specs.Near.{entry_node, entry_bound}
use Rattle.ir_bounds.specs.Words.{LeadsBy}
use Rattle.ir_bounds.proofs.LedWords.{port_begun, port_done, settle, settled_all, others_put, numbers_lead}
use Rattle.ir_bounds.proofs.words.put_port.Goals as goal

pub loop-j-init : goal.loop-j-init
loop-j-init c =
    let numbers = c.args.numbering.now in
    let held = c.args.held.now in
    let list : List ℕ = c.part-begin.result.0.now in
    let begin : ℕ = c.part-begin.result.1 in
    record {
      others = λ a q ha low ne. ((λ bit. bit), (λ bit. bit));
      settled = port_begun c.args.topology.now c.invariant.ensures.topology held.owners.landmarks.items held.stretch numbers.order numbers.labels c.requires.labels c.args.at.0 c.args.at.1 (slice_index list begin) c.port-hop.result
          (entry_node list begin) (entry_bound list begin) c.args.words.now c.requires.few c.port-hop.ensures c.part-begin.ensures.near c.requires.words;
    }

pub loop-j-preserved : goal.loop-j-preserved
loop-j-preserved c =
    let net = c.args.topology.now in
    let ok = c.invariant.ensures.topology in
    let u : ℕ = c.args.at.0 in
    let p : ℕ = c.args.at.1 in
    let numbers = c.args.numbering.now in
    let held = c.args.held.now in
    let landmarks = held.owners.landmarks.items in
    let list : List ℕ = c.part-begin.result.0.now in
    let begin : ℕ = c.part-begin.result.1 in
    let j : ℕ = c.loop-j.j in
    let hop = c.port-hop.result in
    let entry = c.part-begin.ensures.near.each j (omega (arith, c.loop-j-test.true, c.loop-j.auto.j-end)) in
    let node : ℕ = entry_node list begin j in
    let label : ℕ = c.label_of-label.result in
    let word : ℕ = c.with_bit.result in
    let bound : ℕ → ℕ → ℕ → Type 0 = IsLandmarkBound net landmarks held.stretch in
    let label_is : label ≡ slice_index numbers.labels node = c.label_of-label.ensures ∙ ap (slice_index numbers.labels) c.entry-node.ensures.node in
    let there : slice_index numbers.order label ≡ node = ap (slice_index numbers.order) label_is ∙ c.requires.labels.there node entry.0 in
    let inside : label < node_count net = (let low = c.requires.labels.label node entry.0 in omega (arith, low, label_is)) in
    let within = rw (c.entry-node.ensures.node, c.entry-node.ensures.bound) at c.are_within-leads.ensures in
    let leads = numbers_lead net ok landmarks held.stretch u node p (entry_bound list begin j) (slice_index c.args.whole.now node) hop c.port-hop.ensures entry.1 (c.requires.whole.each node entry.0) in
    let own = c.with_bit.ensures.own in
    let is : HasPortBit word p ↔ LeadsBy net bound bound u node p = ((λ bit. leads.0 (within.0 (own.1 bit))), (λ l. own.0 (within.1 (leads.1 l)))) in
    let before = c.loop-j.invariant in
    record {
      others = others_put (node_count net) p c.args.words.now c.loop-j.words label word before.others before.settled.every inside c.with_bit.ensures.others;
      settled = settle (node_count net) numbers.order numbers.labels c.requires.labels (entry_node list begin) (slice_index list begin) (λ (a w : ℕ). HasPortBit w p ↔ LeadsBy net bound bound u (slice_index numbers.order a) p)
          j label word c.loop-j.words before.settled entry.0 label_is (subst (λ (d : ℕ). HasPortBit word p ↔ LeadsBy net bound bound u d p) (sym there) is);
    }

pub returns : goal.returns
returns c =
    let net = c.args.topology.now in
    let u : ℕ = c.args.at.0 in
    let p : ℕ = c.args.at.1 in
    let numbers = c.args.numbering.now in
    let held = c.args.held.now in
    let landmarks = held.owners.landmarks.items in
    let bound : ℕ → ℕ → ℕ → Type 0 = IsLandmarkBound net landmarks held.stretch in
    let list : List ℕ = c.part-begin.result.0.now in
    let begin : ℕ = c.part-begin.result.1 in
    let v = c.loop-j.invariant in
    let last : slice_index list begin ≤ c.loop-j.j = omega (arith, c.loop-j-test.false) in
    port_done net c.invariant.ensures.topology landmarks held.stretch numbers.order numbers.labels c.requires.labels u p c.args.words.now c.loop-j.words c.requires.words v.settled.every v.others
    (settled_all (node_count net) numbers.order numbers.labels c.requires.labels (entry_node list begin) (slice_index list begin) (λ (a w : ℕ). HasPortBit w p ↔ LeadsBy net bound bound u (slice_index numbers.order a) p)
    c.loop-j.j c.loop-j.words v.settled last)

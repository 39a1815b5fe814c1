use Rattle.std.proofs.Common.{◌∙◌, ℕ, List, length, refl, ap, subst, arith}
use Rattle.std.proofs.lemmas.Result.{IfOk-weaker}
use Rattle.ir_lanes.specs.Marks.{AreTied}
use Rattle.ir_plan.proofs.CompactRows.{words_some, words_longest}
use Rattle.ir_plan.proofs.compact.word_runs.Goals as goal

pub runs_by_words-requires-clause-own : goal.runs_by_words-requires-clause-own
runs_by_words-requires-clause-own c =
    let label = c.requires.labels.label c.args.u c.requires.node in
    omega (arith, label, c.label_of-own.ensures, c.nodes-nodes.ensures.count)

pub runs_by_words-requires-clause-every : goal.runs_by_words-requires-clause-every
runs_by_words-requires-clause-every c =
    let long = ap (λ (words : List ℕ). length words) c.as_slice.ensures.value in
    let order = ap (λ (nodes : List ℕ). length nodes) c.requires.ties.same in
    omega (arith, long, order, c.in_ok-tied.ensures.enough, c.requires.labels.every_label, c.nodes-nodes.ensures.count)

pub runs_by_words-requires-clause-some : goal.runs_by_words-requires-clause-some
runs_by_words-requires-clause-some c =
    let net = c.args.topology.now in
    let numbers = c.args.numbering.now in
    let words : List ℕ = c.in_ok-tied.tied.items in
    let tied : AreTied net numbers.order c.args.u words = subst (λ (order : List ℕ). AreTied net order c.args.u words) c.requires.ties.same c.in_ok-tied.ensures in
    rw (c.nodes-nodes.ensures.count, c.label_of-own.ensures, c.as_slice.ensures.value)
    (words_some net c.nodes-nodes.ensures.topology numbers.order numbers.labels c.requires.labels c.args.u c.requires.node words tied c.args.ties.now.marks c.requires.ties.marks)

pub returns-clause-longest : goal.returns-clause-longest
returns-clause-longest c =
    let net = c.args.topology.now in
    let numbers = c.args.numbering.now in
    let words : List ℕ = c.in_ok-tied.tied.items in
    let tied : AreTied net numbers.order c.args.u words = subst (λ (order : List ℕ). AreTied net order c.args.u words) c.requires.ties.same c.in_ok-tied.ensures in
    IfOk-weaker c.runs_by_words.result _ _
    (λ made longest. words_longest net c.nodes-nodes.ensures.topology numbers.order numbers.labels c.requires.labels c.args.u c.requires.node words tied c.requires.ports made.0.items made.1.items longest)
    (rw (c.nodes-nodes.ensures.count, c.label_of-own.ensures, c.as_slice.ensures.value) at c.runs_by_words.ensures.longest)

pub overflow_cast-nodes : goal.overflow_cast-nodes
overflow_cast-nodes c =
    let few = c.nodes-nodes.ensures.topology.few_nodes in
    let count = c.nodes-nodes.ensures.count in
    omega (arith, few, count)

pub label_of-own-requires : goal.label_of-own-requires
label_of-own-requires c = rw c.requires.labels.every_label c.requires.node

pub tied-requires : goal.tied-requires
tied-requires c = record {
  ties = record { same = refl; marks = rw c.requires.ties.same c.requires.ties.marks };
  every = ap (λ (nodes : List ℕ). length nodes) c.requires.ties.same ∙ c.requires.labels.every_label;
  node = c.requires.node;
  ports = c.requires.ports;
}

pub returns-clause-counts : goal.returns-clause-counts
returns-clause-counts c = rw c.nodes-nodes.ensures.count at c.runs_by_words.ensures.counts

pub returns-clause-ports : goal.returns-clause-ports
returns-clause-ports c = rw c.nodes-nodes.ensures.count at c.runs_by_words.ensures.ports

use Rattle.std.proofs.Common.{◌≡◌, ◌+◌, ◌<◌, ◌∙◌, ◌++◌, ◌∷◌, ℕ, [], length, List, Some, get_or, sym, ap, subst, arith, slice_get}
use Rattle.std.specs.Prelude.{slice_index}
use Rattle.std.proofs.lemmas.Bool.{iff_false}
use Rattle.std.proofs.lemmas.List.{map_push}
use Rattle.std.proofs.lemmas.Option.{slice_get-get_or}
use Rattle.ir_model.specs.declared.Hop.{Hop}
use Rattle.ir_model.specs.Topology.{Topology, IsTopology, ports_of}
use Rattle.ir_model.specs.Row.{Start}
use Rattle.ir_model.proofs.Walks.{degree_bound, port_facts}
use Rattle.ir_lookup.specs.Words.{start_of, starts_of}
use Rattle.ir_numbering.specs.Numbering.{Numbering, IsNumberingOf}
use Rattle.ir_plan.specs.SonStarts.{AreSonStarts}
use Rattle.ir_plan.proofs.SonStarts.{start_with, starts_none, starts_pushed, starts_skipped}
use Rattle.ir_plan.proofs.tree.son_words.Goals as goal
use Rattle.ir_plan.proofs.tree.son_words.Goals.{then-has_parent+in_ok-push, else-has_parent}

-- a port leads to a node that has a label
leads_in : (net : Topology) → IsTopology net → (numbers : Numbering) → IsNumberingOf net numbers → (u p : ℕ) (ports : List Hop) → ports ≡ ports_of net u → p < length ports
    → (let none : Hop = record { node = 0; link = 0; weight = 0 } in (get_or ports p none).node < length numbers.order)
leads_in net ok numbers is u p ports same within =
    let none : Hop = record { node = 0; link = 0; weight = 0 } in
    let hop = get_or ports p none in
    let at = subst (λ (xs : List Hop). slice_get xs p ≡ Some hop) same (slice_get-get_or ports p none within) in
    subst (λ (n : ℕ). hop.node < n) (sym is.labels.every_label) (port_facts net ok u p hop at).to

pub overflow_cast-p : goal.overflow_cast-p
overflow_cast-p c =
    let net = c.args.topology.now in
    let bound = degree_bound net c.invariant.ensures.topology c.args.u in
    let few = c.invariant.ensures.topology.few_nodes in
    let e = ap (λ (xs : List Hop). length xs) c.ports-ports.ensures in
    let h = c.loop-p-test.true in
    omega arith

pub loop-p-init : goal.loop-p-init
loop-p-init c =
    rw c.in_ok-words.ensures.items
    (starts_none c.args.topology.now c.invariant.ensures.topology c.args.numbering.now c.requires.numbering c.args.u c.requires.node)

pub has_parent-requires-clause-node : goal.has_parent-requires-clause-node
has_parent-requires-clause-node c =
    leads_in c.args.topology.now c.invariant.ensures.topology c.args.numbering.now c.requires.numbering c.args.u c.loop-p.p c.ports-ports.result.now c.ports-ports.ensures c.loop-p-test.true

pub has_parent-requires-clause-other : goal.has_parent-requires-clause-other
has_parent-requires-clause-other c = subst (λ (n : ℕ). c.args.u < n) (sym c.requires.numbering.labels.every_label) c.requires.node

pub label_of-requires : goal.label_of-requires
label_of-requires c =
    leads_in c.args.topology.now c.invariant.ensures.topology c.args.numbering.now c.requires.numbering c.args.u c.loop-p.p c.ports-ports.result.now c.ports-ports.ensures c.loop-p-test.true

pub loop-p-preserved : goal.loop-p-preserved
loop-p-preserved c =
    let net = c.args.topology.now in
    let numbers = c.args.numbering.now in
    let p = c.loop-p.p in
    let none : Hop = record { node = 0; link = 0; weight = 0 } in
    let hop = get_or c.ports-ports.result.now p none in
    let at = subst (λ (xs : List Hop). slice_get xs p ≡ Some hop) c.ports-ports.ensures (slice_get-get_or c.ports-ports.result.now p none c.loop-p-test.true) in
    let ok = c.invariant.ensures.topology in
    let before = starts_of c.loop-p.words.items in
    elim c.if-has_parent.branch [
      | then-has_parent+in_ok-push w ↦
          let is : start_of w.word.result ≡ start_with (slice_index numbers.labels hop.node) p = w.word.ensures ∙ ap (λ (l : ℕ). start_with l p) w.label_of.ensures in
          let added = ap starts_of w.in_ok-push.ensures.items ∙ map_push start_of c.loop-p.words.items w.word.result ∙ ap (λ (s : Start). before ++ s ∷ []) is in
          rw w.words-is (subst (AreSonStarts net numbers c.args.u (p + 1)) (sym added)
          (starts_pushed net ok numbers c.requires.numbering c.args.u c.requires.node p before c.loop-p.invariant hop at (c.has_parent.ensures.0 w.if-has_parent.true)))
      | else-has_parent w ↦
          rw w.words-is (starts_skipped net ok numbers c.requires.numbering c.args.u c.requires.node p before c.loop-p.invariant hop at (iff_false c.has_parent.ensures w.if-has_parent.false))
    ]

pub returns : goal.returns
returns c =
    let net = c.args.topology.now in
    let end = c.loop-p.auto.p-end in
    let e = ap (λ (xs : List Hop). length xs) c.ports-ports.ensures in
    let last : c.loop-p.p ≡ length (ports_of net c.args.u) = omega (arith, c.loop-p-test.false) in
    subst (λ (k : ℕ). AreSonStarts net c.args.numbering.now c.args.u k (starts_of c.loop-p.words.items)) last c.loop-p.invariant

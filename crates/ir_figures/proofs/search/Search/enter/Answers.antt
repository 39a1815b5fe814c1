use Rattle.std.proofs.Common.{◌≡◌, ◌+◌, ◌-◌, ◌<◌, ℕ, List, length, slice_index, slice_set, sym, subst, arith}
use Rattle.std.proofs.lemmas.List.{get_or_read}
use Rattle.ir_figures.specs.Arcs.{marks_of, width_of}
use Rattle.ir_figures.specs.Search.{IsSearch}
use Rattle.ir_figures.proofs.Marks.{marks_len}
use Rattle.ir_figures.proofs.Steps.{entered_search}
use Rattle.ir_figures.proofs.search.Search.enter.Goals as goal

pub overflow_cast-d : goal.overflow_cast-d
overflow_cast-d c = omega (arith, c.requires.node, marks_len c.args.leads.now, c.requires.digraph.few)

pub returns-clause-search : goal.returns-clause-search
returns-clause-search c =
    let s = c.args.self.now in
    let marks = marks_of c.args.leads.now in
    let node : c.args.d < length marks = omega (arith, c.requires.node, marks_len c.args.leads.now) in
    let read : c.index_mut.result.now ≡ slice_index s.due.items c.args.d = get_or_read s.due.items c.args.d c.index_mut.result.now (omega (arith, node, c.requires.search.due_are.every)) c.index_mut.ensures.value 0 in
    let width : c.index_mut.result.now - 1 ≡ width_of marks c.args.d + 1 = omega (arith, read, c.requires.fresh) in
    let done = entered_search c.args.first.now marks s.due.items s.numbers.items s.path.items s.total c.args.d c.requires.search node c.requires.fresh c.requires.from in
    subst (λ (x : ℕ). IsSearch c.args.first.now marks (slice_set s.due.items c.args.d x) s.numbers.items c.push.new.self.items (s.total - 1)) (sym width)
    (subst (λ (xs : List ℕ). IsSearch c.args.first.now marks (slice_set s.due.items c.args.d (width_of marks c.args.d + 1)) s.numbers.items xs (s.total - 1)) (sym c.in_ok-push.ensures.items) done)

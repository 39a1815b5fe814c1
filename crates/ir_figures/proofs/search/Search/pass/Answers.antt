use Rattle.std.proofs.Common.{◌≡◌, ◌-◌, ◌<◌, ℕ, length, slice_index, subst, arith}
use Rattle.std.proofs.lemmas.List.{get_or_read}
use Rattle.ir_figures.specs.Arcs.{marks_of}
use Rattle.ir_figures.proofs.Steps.{passed_search}
use Rattle.ir_figures.proofs.search.Search.pass.Goals as goal

pub returns-clause-search : goal.returns-clause-search
returns-clause-search c =
    let s = c.args.self.now in
    let node : c.args.c < length (marks_of c.args.leads.now) = subst (λ (x : ℕ). x < length (marks_of c.args.leads.now)) c.requires.last.1 (c.requires.search.path_is.opened (length s.path.items - 1) (omega (arith, c.requires.last.0))).node in
    let read : c.index_mut.result.now ≡ slice_index s.due.items c.args.c = get_or_read s.due.items c.args.c c.index_mut.result.now (omega (arith, node, c.requires.search.due_are.every)) c.index_mut.ensures.value 0 in
    passed_search c.args.first.now (marks_of c.args.leads.now) s.due.items s.numbers.items s.path.items s.total c.args.c (c.index_mut.result.now - 1)
    c.requires.search c.requires.last.0 c.requires.last.1 (omega (arith, read, c.requires.more)) (omega (arith, read, c.requires.more))
    (λ q e marked. c.requires.place q (omega (arith, read, c.requires.more, e)) marked)

use Rattle.std.proofs.Common.{◌≡◌, ◌-◌, ℕ, length, take, ap, ◌∙◌, arith}
use Rattle.ir_figures.specs.Arcs.{marks_of}
use Rattle.ir_figures.proofs.Steps.{left_search}
use Rattle.ir_figures.proofs.search.Search.leave.Goals as goal

pub returns-clause-search : goal.returns-clause-search
returns-clause-search c =
    let s = c.args.self.now in
    let len : s.path.len ≡ length s.path.items = omega (arith, s.path.ok) in
    left_search c.args.first.now (marks_of c.args.leads.now) s.due.items s.numbers.items s.path.items c.pop.new.self.items s.total c.args.c
    c.requires.digraph c.requires.search c.requires.last.0 c.requires.last.1 c.requires.passed (c.pop.ensures.rest ∙ ap (λ (n : ℕ). take (n - 1) s.path.items) len)

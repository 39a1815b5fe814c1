use Rattle.std.proofs.Common.{◌≡◌, ◌+◌, ℕ, List, length, sum, slice_index, ap, sym, ◌∙◌, inl, inr, arith}
use Rattle.std.proofs.lemmas.Bool.{cases_eq}
use Rattle.std.proofs.lemmas.List.{get_or_push, get_or_append_left}
use Rattle.std.proofs.lemmas.List.Sums.{sum_by_push}
use Rattle.ir_figures.specs.Arcs.{marks_of, width_of}
use Rattle.ir_figures.proofs.Marks.{marks_len, width_at}
use Rattle.ir_figures.proofs.Start.{fresh_search}
use Rattle.ir_figures.proofs.search.Search.new.Goals as goal

pub overflow_cast-steps : goal.overflow_cast-steps
overflow_cast-steps c =
    omega (arith, c.len.ensures, width_at c.args.leads.now c.loop-row.row-index c.row-item.result c.loop-row-test.true c.row-item.is, c.requires.narrow c.loop-row.row-index c.loop-row-test.true)

pub overflow_add-steps : goal.overflow_add-steps
overflow_add-steps c =
    omega (arith, c.len.ensures, width_at c.args.leads.now c.loop-row.row-index c.row-item.result c.loop-row-test.true c.row-item.is, c.requires.narrow c.loop-row.row-index c.loop-row-test.true)

pub loop-row-preserved : goal.loop-row-preserved
loop-row-preserved c =
    let width = width_at c.args.leads.now c.loop-row.row-index c.row-item.result c.loop-row-test.true c.row-item.is in
    let pushed = c.in_ok-push.ensures.items in
    let steps : ℕ = c.len.result + 2 in
    let narrow = c.requires.narrow c.loop-row.row-index c.loop-row-test.true in
    record {
      every = omega (arith, c.in_ok-push.ensures.len, c.loop-row.invariant.every);
      sum_is = ap sum pushed ∙ sum_by_push (λ (x : ℕ). x) c.loop-row.due.items steps ∙ ap (λ (x : ℕ). x + steps) c.loop-row.invariant.sum_is;
      light = omega (arith, c.len.ensures, width, narrow, c.loop-row.invariant.light);
      steps = λ k lt.
          (let size : length c.loop-row.due.items ≡ c.loop-row.row-index = omega (arith, c.loop-row.invariant.every, c.loop-row.due.ok) in
          elim (cases_eq k c.loop-row.row-index) [
            | inl e ↦
                ap (λ (xs : List ℕ). slice_index xs k) pushed ∙ get_or_push c.loop-row.due.items steps 0 k (size ∙ sym e) ∙ omega (arith, c.len.ensures, width, ap (width_of (marks_of c.args.leads.now)) e)
            | inr ne ↦
                ap (λ (xs : List ℕ). slice_index xs k) pushed ∙ get_or_append_left c.loop-row.due.items _ 0 k (omega (arith, size, lt, ne)) ∙ c.loop-row.invariant.steps k (omega (arith, lt, ne))
          ]);
    }

pub returns-clause-search : goal.returns-clause-search
returns-clause-search c = λ first.
    fresh_search first (marks_of c.args.leads.now) c.loop-row.due.items c.in_ok-numbers.numbers.items c.new-path.result.items c.loop-row.total
    (omega (arith, marks_len c.args.leads.now, c.loop-row.invariant.every, c.loop-row.due.ok, c.loop-row-test.false))
    (omega (arith, marks_len c.args.leads.now, c.in_ok-numbers.ensures.len, c.in_ok-numbers.numbers.ok))
    (ap length c.new-path.ensures.items)
    c.loop-row.invariant.sum_is
    (λ k lt. c.loop-row.invariant.steps k (omega (arith, lt, marks_len c.args.leads.now, c.loop-row-test.false)))

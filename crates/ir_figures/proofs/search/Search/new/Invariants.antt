use Rattle.std.proofs.Common.{◌≡◌, ◌+◌, ◌*◌, ◌≤◌, ◌<◌, ℕ, vec_len, sum, slice_index}
use Rattle.ir_figures.specs.Arcs.{marks_of, width_of}
use Rattle.ir_figures.proofs.search.Search.new.Given as goal

abbrev pub invariant-loop-row : goal.invariant-loop-row
invariant-loop-row l = record {
  every : vec_len l.due ≡ l.row-index;
  sum_is : sum l.due.items ≡ l.total;
  light : l.total ≤ 65537 * l.row-index;
  steps : (c : ℕ) → c < l.row-index → slice_index l.due.items c ≡ width_of (marks_of l.leads) c + 2;
}

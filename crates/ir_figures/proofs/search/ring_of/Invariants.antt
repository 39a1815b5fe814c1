use Rattle.std.proofs.Common.{◌≡◌, ◌<◌, ℕ, length, slice_index}
use Rattle.ir_figures.specs.Search.{Searches}
use Rattle.ir_figures.proofs.search.ring_of.Given as goal

abbrev pub invariant-loop-c : goal.invariant-loop-c
invariant-loop-c l = record {
  search : Searches l.first l.leads l.search;
  no_path : length l.search.path.items ≡ 0;
  done : (x : ℕ) → x < l.c → slice_index l.search.due.items x ≡ 0;
}

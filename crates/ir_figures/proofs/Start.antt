-- A search in which each node is fresh.
use Rattle.std.proofs.Common.{◌≡◌, ℕ, ◌+◌, ◌<◌, Bool, List, length, sum, slice_index, arith}
use Rattle.ir_figures.specs.Arcs.{width_of}
use Rattle.ir_figures.specs.Search.{IsSearch}

pub fresh_search : (first : List ℕ) (marks : List (List Bool)) (due numbers path : List ℕ) (total : ℕ) → length due ≡ length marks → length numbers ≡ length marks → length path ≡ 0
    → sum due ≡ total → ((c : ℕ) → c < length marks → slice_index due c ≡ width_of marks c + 2) → IsSearch first marks due numbers path total
fresh_search first marks due numbers path total every numbered none sum_is steps = record {
  due_are = record { every = every; sum_is = sum_is; most = λ c lt. omega (arith, steps c lt) };
  path_is = record {
    opened = λ i lt. absurd (omega (arith, none, lt));
    once = λ i j less lt e. omega (arith, none, lt);
    held = λ c o. absurd (omega (arith, steps c o.node, o.begun));
    arcs = λ i lt. absurd (omega (arith, none, lt));
  };
  passed = λ c q lt within less marked. absurd (omega (arith, steps c lt, less));
  numbered = record {
    every = numbered;
    rises = λ c d lt zero arc. absurd (omega (arith, steps c lt, zero));
    late = λ c lt zero. absurd (omega (arith, steps c lt, zero));
  };
}

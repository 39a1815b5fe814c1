use Rattle.std.proofs.Common.{◌≡◌, ◌≢◌, ◌<◌, ◌≤◌, ◌-◌, ℕ, List, Option, Some, length, slice_index}
use Rattle.ir_model.specs.Compiled.{port_to}
use Rattle.ir_model.specs.Choices.{label_from}
use Rattle.ir_model.proofs.Steps.{Steps, HaveStepPorts}
use Rattle.ir_compile.proofs.round.put_round.Given as goal

abbrev pub invariant-loop-place : goal.invariant-loop-place
invariant-loop-place l = record {
  every : length l.places ≡ length l.fn.places;
  inside : l.place ≤ l.n;
  off : l.place < l.n → label_from l.n l.start l.place ≢ l.own;
  rest : (k : ℕ) (last : List (Option ℕ)) → Steps l.n l.counts l.start l.place k → HaveStepPorts l.n l.own l.counts l.ports l.start l.place k last
      → ((j : ℕ) → j < l.place → label_from l.n l.start j ≢ l.own → port_to last (label_from l.n l.start j) ≡ Some (slice_index l.places j))
      → (all : ℕ) × Steps l.n l.counts l.start 0 all × HaveStepPorts l.n l.own l.counts l.ports l.start 0 all last;
}

abbrev pub decreases-loop-place : goal.decreases-loop-place
decreases-loop-place l = l.n - l.place

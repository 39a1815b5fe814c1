-- The best runs of the first ports of a node, for each label, as one port after the other comes to them.
use Rattle.std.proofs.Common.{◌≡◌, ◌≢◌, ℕ, ◌+◌, ◌<◌, ◌≤◌, Bool, List, length, replicate, ap, ◌∙◌, arith}
use Rattle.std.specs.Prelude.{slice_index}
use Rattle.std.proofs.lemmas.List.{length-replicate}
use Rattle.ir_model.specs.Topology.{Topology, IsTopology, node_count, ports_of}
use Rattle.ir_model.specs.Plan.{AreLabels}
use Rattle.ir_model.proofs.Best.{IsBestBelow, best_more, best_all}
use Rattle.ir_compile.specs.Runs.{IsKeptAt}
use Rattle.ir_plan.specs.CompactRows.{AreLongestRuns, AreTiedMarks, MayTake}
use Rattle.ir_plan.proofs.CompactRows.{best_none, best_same, marks_may, no_port_past}

-- at each label but that of u the longest run of one of the first m ports, by the least of them
pub record AreBestRuns (net : Topology) (order labels : List ℕ) (u m : ℕ) (counts ports : List ℕ) : Type 0 where
  pub counts_len : length counts ≡ node_count net
  pub ports_len : length ports ≡ node_count net
  pub best : (a : ℕ) → a < node_count net → a ≢ slice_index labels u
      → IsBestBelow (node_count net) (slice_index labels u) (MayTake net order (slice_index labels u)) m a (slice_index counts a) (slice_index ports a)

-- before the first port
pub runs_none : (net : Topology) (order labels : List ℕ) (u k : ℕ) (counts ports : List ℕ) → k ≡ node_count net → counts ≡ replicate k 0 → ports ≡ replicate k 0
    → AreBestRuns net order labels u 0 counts ports
runs_none net order labels u k counts ports every none first =
    let n = node_count net in
    let own = slice_index labels u in
    let zeros : replicate k 0 ≡ replicate n 0 = ap (λ (i : ℕ). replicate i 0) every in
    record {
      counts_len = ap (λ (xs : List ℕ). length xs) (none ∙ zeros) ∙ length-replicate n 0;
      ports_len = ap (λ (xs : List ℕ). length xs) (first ∙ zeros) ∙ length-replicate n 0;
      best = λ a l off. best_none n own (MayTake net order own) a counts ports (none ∙ zeros) (first ∙ zeros) l;
    }

module _ (net : Topology) (ok : IsTopology net) (order labels : List ℕ) (named : AreLabels (node_count net) order labels) (u : ℕ) (hu : u < node_count net) where
  -- a port with these marks, where at each label the longer run was kept
  pub runs_more : (p : ℕ) (row : List Bool) (old_counts old_ports counts ports : List ℕ) → AreTiedMarks net order u p row → AreBestRuns net order labels u p old_counts old_ports
      → length counts ≡ node_count net → length ports ≡ node_count net
      → ((a : ℕ) → a < node_count net → IsKeptAt (node_count net) (slice_index labels u) row p old_counts old_ports counts ports a) → AreBestRuns net order labels u (p + 1) counts ports
  runs_more p row old_counts old_ports counts ports tied before counts_len ports_len kept = record {
    counts_len = counts_len;
    ports_len = ports_len;
    best = λ a l off.
        let own = slice_index labels u in
        let k = kept a l in
        best_more (node_count net) own (MayTake net order own) p a (slice_index old_counts a) (slice_index old_ports a) k.run (slice_index counts a) (slice_index ports a) row
        (before.best a l off) k.longest (marks_may net ok order labels named u hu p row tied) k.better;
  }

  -- a port that no label may take
  pub runs_same : (p : ℕ) (counts ports : List ℕ) → ((d : ℕ) → MayTake net order (slice_index labels u) d p → ⊥) → AreBestRuns net order labels u p counts ports
      → AreBestRuns net order labels u (p + 1) counts ports
  runs_same p counts ports none before = record {
    counts_len = before.counts_len;
    ports_len = before.ports_len;
    best = λ a l off.
        let own = slice_index labels u in
        best_same (node_count net) own (MayTake net order own) p a (slice_index counts a) (slice_index ports a) off none (before.best a l off);
  }

  -- after the last port
  pub runs_all : (m : ℕ) (counts ports : List ℕ) → length (ports_of net u) ≤ m → AreBestRuns net order labels u m counts ports → AreLongestRuns net order (slice_index labels u) counts ports
  runs_all m counts ports last runs = λ a l off.
      (let own = slice_index labels u in
      best_all (node_count net) own (MayTake net order own) m a (slice_index counts a) (slice_index ports a) off
      (λ d q past. no_port_past net ok order labels named u hu d q (omega (arith, past, last))) (runs.best a l off))

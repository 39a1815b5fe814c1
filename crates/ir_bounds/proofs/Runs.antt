-- The best runs of the first ports of a node, for each label, as one port after the other comes to them; and the row of
-- the longest.
use Rattle.std.proofs.Common.{◌≡◌, ◌≢◌, ◌↔◌, ℕ, ◌+◌, ◌<◌, ◌≤◌, Bool, List, [], ◌∷◌, length, replicate, Option, None, ap, sym, ◌∙◌, arith}
use Rattle.std.specs.Prelude.{slice_index}
use Rattle.std.proofs.lemmas.List.{length-replicate, get_or-replicate}
use Rattle.ir_model.specs.Topology.{Topology, node_count}
use Rattle.ir_model.specs.Row.{Start}
use Rattle.ir_model.specs.Compiled.{IsCanonical, port_to}
use Rattle.ir_model.specs.Choices.{AreChoices, AreChosen}
use Rattle.ir_model.specs.Within.{MayLead}
use Rattle.ir_model.proofs.Best.{Marks, IsBestBelow, best_more, best_all}
use Rattle.ir_model.proofs.Steps.{AreLongest}
use Rattle.ir_model.proofs.Chosen.{chosen_are_destinations, chosen_fits, chosen_is_fewest}
use Rattle.ir_compile.specs.Runs.{IsKeptAt}
use Rattle.ir_bounds.specs.Rows.{IsRowWithin}

-- at each label but the own the longest run of one of the first m ports, by the least of them
pub record AreBestRuns (n own : ℕ) (may : ℕ → ℕ → Type 0) (m : ℕ) (counts ports : List ℕ) : Type 0 where
  pub counts_len : length counts ≡ n
  pub ports_len : length ports ≡ n
  pub best : (a : ℕ) → a < n → a ≢ own → IsBestBelow n own may m a (slice_index counts a) (slice_index ports a)

module _ (n own : ℕ) (may : ℕ → ℕ → Type 0) where
  -- before the first port
  best_none : (a : ℕ) (counts ports : List ℕ) → counts ≡ replicate n 0 → ports ≡ replicate n 0 → a < n → IsBestBelow n own may 0 a (slice_index counts a) (slice_index ports a)
  best_none a counts ports none first l =
      let count : slice_index counts a ≡ 0 = ap (λ (xs : List ℕ). slice_index xs a) none ∙ get_or-replicate n a 0 0 l in
      let port : slice_index ports a ≡ 0 = ap (λ (xs : List ℕ). slice_index xs a) first ∙ get_or-replicate n a 0 0 l in
      rw (count, port)
      (record {
        within = omega arith;
        serves = λ i lt off. absurd (omega (arith, lt));
        longest = λ q t lt h s. absurd (omega (arith, lt));
        least = λ q lt s. absurd (omega (arith, lt));
        low = omega arith;
      })

  pub runs_none : (k : ℕ) (counts ports : List ℕ) → k ≡ n → counts ≡ replicate k 0 → ports ≡ replicate k 0 → AreBestRuns n own may 0 counts ports
  runs_none k counts ports every none first =
      let zeros : replicate k 0 ≡ replicate n 0 = ap (λ (i : ℕ). replicate i 0) every in
      record {
        counts_len = ap (λ (xs : List ℕ). length xs) (none ∙ zeros) ∙ length-replicate n 0;
        ports_len = ap (λ (xs : List ℕ). length xs) (first ∙ zeros) ∙ length-replicate n 0;
        best = λ a l off. best_none a counts ports (none ∙ zeros) (first ∙ zeros) l;
      }

  -- a port with these marks, where at each label the longer run was kept
  pub runs_more : (p : ℕ) (row : List Bool) (old_counts old_ports counts ports : List ℕ) → ((d : ℕ) → may d p ↔ Marks row d) → AreBestRuns n own may p old_counts old_ports
      → length counts ≡ n → length ports ≡ n → ((a : ℕ) → a < n → IsKeptAt n own row p old_counts old_ports counts ports a) → AreBestRuns n own may (p + 1) counts ports
  runs_more p row old_counts old_ports counts ports tells before counts_len ports_len kept = record {
    counts_len = counts_len;
    ports_len = ports_len;
    best = λ a l off.
        let k = kept a l in
        best_more n own may p a (slice_index old_counts a) (slice_index old_ports a) k.run (slice_index counts a) (slice_index ports a) row (before.best a l off) k.longest tells k.better;
  }

  -- after the last port
  pub runs_all : (m : ℕ) (counts ports : List ℕ) → ((d q : ℕ) → m ≤ q → may d q → ⊥) → AreBestRuns n own may m counts ports → AreLongest n own may counts ports
  runs_all m counts ports last runs = λ a l off. best_all n own may m a (slice_index counts a) (slice_index ports a) off last (runs.best a l off)

  -- where there is one node, no port is chosen
  pub alone_chosen : n ≡ 1 → own < n → AreChosen n own may (None ∷ [])
  alone_chosen one label = record {
    every = sym one;
    none = let first : own ≡ 0 = omega (arith, one, label) in ap (port_to (None ∷ [])) first;
    chosen = λ two. absurd (omega (arith, two, one));
  }

-- the canonical row of the chosen ports
pub row_of_chosen : (net : Topology) (bound : ℕ → ℕ → ℕ → Type 0) (order : List ℕ) (a : ℕ) (ports : List (Option ℕ)) (row : List Start) → AreChoices (node_count net) a (MayLead net bound order a)
    → AreChosen (node_count net) a (MayLead net bound order a) ports → IsCanonical (node_count net) a ports row → IsRowWithin net bound order a row
row_of_chosen net bound order a ports row choices chosen canonical = record {
  ports = ports;
  choices = choices;
  chosen = chosen;
  destinations = chosen_are_destinations (node_count net) a (MayLead net bound order a) choices ports chosen;
  canonical = canonical;
  fits = chosen_fits (node_count net) a (MayLead net bound order a) choices ports chosen row canonical;
  fewest = chosen_is_fewest (node_count net) a (MayLead net bound order a) choices ports chosen row canonical;
}

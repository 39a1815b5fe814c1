-- A network and the labels of its nodes have one compact table.
use Rattle.std.proofs.Common.{◌≡◌, ◌≢◌, ℕ, ◌<◌, List, Option, None, map, get_or, ap, sym, ◌∙◌, subst}
use Rattle.std.specs.Prelude.{slice_index}
use Rattle.std.proofs.lemmas.List.{get_or-map}
use Rattle.ir_model.specs.Topology.{Topology, node_count}
use Rattle.ir_model.specs.Choices.{AreChoices}
use Rattle.ir_model.specs.Compact.{IsTied, IsCompactTable}
use Rattle.ir_model.specs.Plan.{AreLabels}
use Rattle.ir_model.proofs.Chosen.{chosen_same}

module _ (net : Topology) (order labels : List ℕ) (named : AreLabels (node_count net) order labels) where
  tied : (table : ℕ → ℕ → Option ℕ) → IsCompactTable net order table → (a : ℕ) → a < node_count net → AreChoices (node_count net) a (IsTied net order a)
  tied table is a ha = record {
    has_own = ha;
    some = λ d hd ne.
        let other : slice_index order a ≢ slice_index order d = λ e. ne (sym (sym (named.back a ha) ∙ ap (slice_index labels) e ∙ named.back d hd)) in
        let w = is.nearer.port (slice_index order a) (slice_index order d) (named.node a ha) (named.node d hd) other in
        (w.0, w.2);
  }

  -- the port at a label
  at_label : (table : ℕ → ℕ → Option ℕ) (u d : ℕ) → d < node_count net → get_or (map (table u) order) (slice_index labels d) None ≡ table u d
  at_label table u d hd = get_or-map (table u) order (slice_index labels d) 0 None (rw named.every_label (named.label d hd)) ∙ ap (table u) (named.there d hd)

  pub compact_same : (table other : ℕ → ℕ → Option ℕ) → IsCompactTable net order table → IsCompactTable net order other
      → (u d : ℕ) → u < node_count net → d < node_count net → table u d ≡ other u d
  compact_same table other is so u d hu hd =
      let a = slice_index labels u in
      let ha = named.label u hu in
      let same = chosen_same (node_count net) a (IsTied net order a) (tied table is a ha) (map (table (slice_index order a)) order) (map (other (slice_index order a)) order) (is.chosen a ha) (so.chosen a ha) in
      let here : table (slice_index order a) d ≡ other (slice_index order a) d =
      sym (at_label table (slice_index order a) d hd) ∙ ap (λ (ports : List (Option ℕ)). get_or ports (slice_index labels d) None) same ∙ at_label other (slice_index order a) d hd in
      subst (λ (x : ℕ). table x d ≡ other x d) (named.there u hu) here

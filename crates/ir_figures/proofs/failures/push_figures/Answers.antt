use Rattle.std.proofs.Common.{◌∙◌, ◌++◌, List, ℕ, [], ◌∷◌, option_map, flat_map, ap, refl, string_bytes}
use Rattle.ir_model.specs.Topology.{node_count}
use Rattle.ir_trace.specs.Rows.{spaced}
use Rattle.ir_figures.specs.Compared.{ring_word, count_words, stretch_words}
use Rattle.ir_figures.specs.Waits.{Waits}
use Rattle.ir_figures.proofs.Results.{on_ok_then, ring_told}
use Rattle.ir_figures.proofs.Rows.{figures_stretches}
use Rattle.ir_figures.proofs.FailureLines.{figures_told}
use Rattle.ir_figures.proofs.failures.push_figures.Goals as goal

pub returns : goal.returns
returns c =
    let s = c.args.plan.now in
    let n = node_count s.topology in
    let figures = c.in_ok-figures.figures in
    let are = c.in_ok-figures.ensures in
    let worst = option_map (λ p. p.ends) figures.worst in
    let ring = option_map (λ r. r.items) c.in_ok-ring.ring in
    let greatest = c.greatest_row.result in
    let bits = c.bits_of-bits.result in
    let counts : List (List ℕ) = count_words s greatest bits.rows in
    let stretches : List (List ℕ) = stretch_words n are.walk are.distance worst in
    on_ok_then c.push_word.result
    (λ told. (
      counts ++ stretches ++ ring_word ring ∷ [],
      record {
        greatest = greatest;
        greatest_row = c.greatest_row.ensures;
        walk = are.walk;
        walks = are.walks;
        distance = are.distance;
        distances = are.distances;
        worst = worst;
        worst_pair = are.worst_pair;
        rows = bits.rows;
        tables = bits.tables;
        bits = c.bits_of-bits.ensures;
        ring = ring;
        ring_is = ring_told (Waits s) c.in_ok-ring.ring c.in_ok-ring.ensures.acyclic c.in_ok-ring.ensures.ring;
        whole = refl;
      },
      figures_told (string_bytes c.args.text.now) (string_bytes c.push_counts.new.text) (string_bytes c.push_stretches.new.text) (string_bytes c.push_word.new.text) counts stretches (ring_word ring)
          c.in_ok-push_counts.ensures
          (c.in_ok-push_stretches.ensures ∙ ap (λ (t : List (List ℕ)). string_bytes c.push_counts.new.text ++ flat_map spaced t) (figures_stretches s figures are))
          (told ∙ ap (λ (t : List ℕ). string_bytes c.push_stretches.new.text ++ spaced t) c.ring_word.ensures),
    ))
    c.push_word.ensures

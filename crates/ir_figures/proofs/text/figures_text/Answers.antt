use Rattle.std.proofs.Common.{◌++◌, ℕ, List, codes, string_bytes, ap, ◌∙◌}
use Rattle.std.specs.Global.{Vec}
use Rattle.std.specs.Option.{option_map}
use Rattle.ir_model.specs.Graph.{names}
use Rattle.ir_figures.specs.FiguresText.{bits_line, landmarks_text, ring_line}
use Rattle.ir_figures.specs.Waits.{Waits}
use Rattle.ir_figures.proofs.Results.{ring_told}
use Rattle.ir_figures.proofs.text.figures_text.Goals as goal

pub returns : goal.returns
returns c =
    let ring = option_map (λ (nodes : Vec ℕ). nodes.items) c.in_ok-ring.ring in
    let told = c.in_ok-push_landmarks.ensures in
    record {
      figures = string_bytes c.in_ok-text.text;
      stats = c.in_ok-text.ensures;
      most = c.most_intervals.result;
      most_are = c.most_intervals.ensures;
      rows = c.bits_of.result.rows;
      tables = c.bits_of.result.tables;
      bits = c.bits_of.ensures;
      landmarks = told.0;
      landmarks_are = told.1;
      ring = ring;
      ring_is = ring_told (Waits c.args.plan.now) c.in_ok-ring.ring c.in_ok-ring.ensures.acyclic c.in_ok-ring.ensures.ring;
      whole =
          told.2
          ∙ ap (λ (t : List ℕ). t ++ landmarks_text (names c.args.graph.now) c.args.plan.now.kind told.0)
          (c.in_ok-push_ring.ensures ∙ ap (λ (t : List ℕ). t ++ ring_line (codes "dependencies") (names c.args.graph.now) ring)
          (c.in_ok-push_bits.ensures ∙ ap (λ (t : List ℕ). t ++ bits_line c.bits_of.result.rows c.bits_of.result.tables) c.in_ok-push_most.ensures));
    }

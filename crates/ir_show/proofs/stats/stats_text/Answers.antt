use Rattle.std.proofs.Common.{◌∙◌, ◌++◌, ap}
use Rattle.std.specs.Option.{option_map}
use Rattle.ir_model.specs.Graph.{names}
use Rattle.ir_show.specs.StatsText.{rows_text}
use Rattle.ir_show.specs.Figures.{figures_text}
use Rattle.ir_show.proofs.Destinations.{figures_words}
use Rattle.ir_show.proofs.stats.stats_text.Goals as goal

pub returns : goal.returns
returns c =
    let s = c.args.plan.now in
    let nodes = names c.args.graph.now in
    let figures = c.in_ok-figures.figures in
    let are = c.in_ok-figures.ensures in
    let greatest = c.greatest_row-greatest.result in
    record {
      greatest = greatest;
      greatest_row = c.greatest_row-greatest.ensures;
      walk = are.walk;
      walks = are.walks;
      distance = are.distance;
      distances = are.distances;
      worst = option_map (λ p. p.ends) figures.worst;
      worst_pair = are.worst_pair;
      whole = c.in_ok-push_weights.ensures ∙ ap (λ t. t ++ figures_text nodes figures) (c.in_ok-push_rows.ensures ∙ ap (λ t. t ++ rows_text nodes s greatest) c.new-text.ensures.bytes)
          ∙ ap (λ t. rows_text nodes s greatest ++ t) (figures_words nodes s figures are);
    }

use Rattle.std.proofs.Common.{ℕ, string_bytes}
use Rattle.std.specs.Global.{Vec}
use Rattle.std.specs.Option.{option_map}
use Rattle.ir_figures.specs.Waits.{WaitsInEither}
use Rattle.ir_figures.proofs.Results.{ring_told}
use Rattle.ir_figures.proofs.text.figures_text_beside.Goals as goal

pub returns : goal.returns
returns c = record {
  figures = string_bytes c.in_ok-text.text;
  figures_are = c.in_ok-text.ensures;
  ring = option_map (λ (nodes : Vec ℕ). nodes.items) c.in_ok-ring.ring;
  ring_is = ring_told (WaitsInEither c.args.plan.now c.args.second.now) c.in_ok-ring.ring c.in_ok-ring.ensures.acyclic c.in_ok-ring.ensures.ring;
  whole = c.in_ok-push_ring.ensures;
}

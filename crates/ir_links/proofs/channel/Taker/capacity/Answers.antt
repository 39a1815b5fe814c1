use Rattle.std.proofs.Common.{◌∙◌, ap}
use Rattle.crossbeam_queue.specs.Passes.{ruled_capacity}
use Rattle.ir_links.proofs.channel.Taker.capacity.Goals as goal

pub returns : goal.returns
returns g c = c.capacity.ensures ∙ ap (λ s. ruled_capacity s.queue) c.deref.ensures ∙ ap (λ t. t.channel.capacity) c.self.view_is

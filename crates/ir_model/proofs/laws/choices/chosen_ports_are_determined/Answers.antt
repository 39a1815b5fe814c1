use Rattle.std.proofs.Common.{◌≡◌, true}
use Rattle.ir_model.proofs.Chosen.{chosen_same}
use Rattle.ir_model.proofs.laws.choices.chosen_ports_are_determined.Goals as goal

pub returns : goal.returns
returns c n own allowed ports others valid a b = chosen_same n own (λ d p. allowed d p ≡ true) valid ports others a b

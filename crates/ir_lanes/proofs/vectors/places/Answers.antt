use Rattle.std.proofs.Common.{refl}
use Rattle.ir_lanes.proofs.LaneLemmas.{place_bits}
use Rattle.ir_lanes.proofs.vectors.places.Goals as goal

pub returns : goal.returns
returns c = record { long = refl; each = place_bits }

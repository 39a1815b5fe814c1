-- How far ways may go round is given by its two numbers.
use Rattle.std.proofs.Common.{◌≡◌, ◌<◌, ◌≤◌}
use Rattle.std.proofs.Math.Bridge.{le_prop}
use mathlib.Core.HLevel.{is_prop→PathP}
use Rattle.ir_model.specs.declared.Detour.{Detour}

pub same_detour : (s t : Detour) → s.landmarks ≡ t.landmarks → s.stretch ≡ t.stretch → s ≡ t
same_detour s t landmarks stretch = λ i. record {
  landmarks = landmarks i;
  stretch = stretch i;
  some = is_prop→PathP (λ j. 0 < landmarks j) (λ j. le_prop) s.some t.some i;
  least = is_prop→PathP (λ j. 100 ≤ stretch j) (λ j. le_prop) s.least t.least i;
  most = is_prop→PathP (λ j. stretch j ≤ 300) (λ j. le_prop) s.most t.most i;
}

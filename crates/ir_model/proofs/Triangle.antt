-- The triangle whose node 0 is the landmark.
use Rattle.std.proofs.Common.{◌≡◌, ◌≢◌, ℕ, zero, suc, ◌<◌, ◌≤◌, List, [], ◌∷◌, Some, refl, sym, subst, arith, inl, inr, lit<}
use Rattle.std.proofs.lemmas.List.Elements.{All-cons, All-nil}
use Rattle.ir_model.specs.declared.Hop.{Hop}
use Rattle.ir_model.specs.Topology.{port_at}
use Rattle.ir_model.specs.Walk.{link_weight, LeadsTo, IsWalk, weight_from, walk_weight, IsDistance}
use Rattle.ir_model.specs.Interval.{PortInterval, HasLabel}
use Rattle.ir_model.specs.Choices.{FitsChoices}
use Rattle.ir_model.specs.Within.{MayLead}
use Rattle.ir_model.specs.Landmark.{IsLandmarkOf, IsLandmarkBound}
use Rattle.ir_model.specs.Worked.{triangle, one_interval, hop}
use Rattle.ir_model.proofs.Landmarks.{first_landmark}

-- each link weighs 1
step : (u v p : ℕ) (h : Hop) → port_at triangle u p ≡ Some h → h.node ≡ v → 1 ≤ link_weight triangle u v
step zero v zero h at is = let same : 1 ≡ v = cc (at, is) in let P : ℕ → Type 0 = λ x. 1 ≤ link_weight triangle 0 x in subst P same (omega arith)
step zero v (suc zero) h at is = let same : 2 ≡ v = cc (at, is) in let P : ℕ → Type 0 = λ x. 1 ≤ link_weight triangle 0 x in subst P same (omega arith)
step zero v (suc (suc p)) h at is = absurd (cc at)
step (suc zero) v zero h at is = let same : 0 ≡ v = cc (at, is) in let P : ℕ → Type 0 = λ x. 1 ≤ link_weight triangle 1 x in subst P same (omega arith)
step (suc zero) v (suc zero) h at is = let same : 2 ≡ v = cc (at, is) in let P : ℕ → Type 0 = λ x. 1 ≤ link_weight triangle 1 x in subst P same (omega arith)
step (suc zero) v (suc (suc p)) h at is = absurd (cc at)
step (suc (suc zero)) v zero h at is = let same : 0 ≡ v = cc (at, is) in let P : ℕ → Type 0 = λ x. 1 ≤ link_weight triangle 2 x in subst P same (omega arith)
step (suc (suc zero)) v (suc zero) h at is = let same : 1 ≡ v = cc (at, is) in let P : ℕ → Type 0 = λ x. 1 ≤ link_weight triangle 2 x in subst P same (omega arith)
step (suc (suc zero)) v (suc (suc p)) h at is = absurd (cc at)
step (suc (suc (suc u))) v p h at is = absurd (cc at)

-- so two nodes that are linked by one link are at the distance 1
linked_distance : (u v : ℕ) → u ≢ v → LeadsTo triangle u v (v ∷ []) → link_weight triangle u v ≡ 1 → IsDistance triangle u v 1
linked_distance u v other way weighs = record { reached = (u ∷ v ∷ [], (refl, way), omega (arith, weighs)); least = least }
  where
    from : (rest : List ℕ) → LeadsTo triangle u v rest → 1 ≤ weight_from triangle u rest
    from [] end = absurd (other end.0)
    from (x ∷ rest) on = let some : 1 ≤ link_weight triangle u x = step u x on.0.0 on.0.1 on.0.2 on.0.3 in omega (arith, some)

    least : (walk : List ℕ) → IsWalk triangle u v walk → 1 ≤ walk_weight triangle walk
    least [] none = absurd none
    least (x ∷ rest) is =
        let P : ℕ → Type 0 = λ y. 1 ≤ weight_from triangle y rest in
        subst P (sym is.0) (from rest is.1)

from_2_to_1 : IsDistance triangle 2 1 1
from_2_to_1 = linked_distance 2 1 (λ e. omega (arith, e)) ((1, hop 1 2 1, refl, refl), (refl, lit< tt)) refl

from_2_to_0 : IsDistance triangle 2 0 1
from_2_to_0 = linked_distance 2 0 (λ e. omega (arith, e)) ((0, hop 0 1 1, refl, refl), (refl, lit< tt)) refl

from_1_to_0 : IsDistance triangle 1 0 1
from_1_to_0 = linked_distance 1 0 (λ e. omega (arith, e)) ((0, hop 0 0 1, refl, refl), (refl, lit< tt)) refl

from_0_to_1 : IsDistance triangle 0 1 1
from_0_to_1 = linked_distance 0 1 (λ e. omega (arith, e)) ((0, hop 1 0 1, refl, refl), (refl, lit< tt)) refl

at_0 : IsDistance triangle 0 0 0
at_0 = record { reached = (0 ∷ [], (refl, (refl, lit< tt)), refl); least = λ walk is. omega arith }

pub triangle_landmark : IsLandmarkOf triangle (0 ∷ []) 1 0 1
triangle_landmark = first_landmark triangle 1 0 1 from_1_to_0

pub triangle_distance : IsDistance triangle 2 1 1
triangle_distance = from_2_to_1

pub triangle_bound : IsLandmarkBound triangle (0 ∷ []) 300 2 1 2
triangle_bound = record { landmark = 0; radius = 1; away = 1; around = 1; of_end = triangle_landmark; direct = from_2_to_1; to_landmark = from_2_to_0; is = refl }

from_landmark : IsLandmarkBound triangle (0 ∷ []) 300 0 1 1
from_landmark = record { landmark = 0; radius = 1; away = 1; around = 0; of_end = triangle_landmark; direct = from_0_to_1; to_landmark = at_0; is = refl }

to_landmark : IsLandmarkBound triangle (0 ∷ []) 300 2 0 1
to_landmark = record { landmark = 0; radius = 0; away = 1; around = 1; of_end = first_landmark triangle 0 0 0 at_0; direct = from_2_to_0; to_landmark = from_2_to_0; is = refl }

of_landmark : IsLandmarkBound triangle (0 ∷ []) 300 0 0 0
of_landmark = record { landmark = 0; radius = 0; away = 0; around = 0; of_end = first_landmark triangle 0 0 0 at_0; direct = at_0; to_landmark = at_0; is = refl }

abbrev May : ℕ → ℕ → Type 0
May = MayLead triangle (IsLandmarkBound triangle (0 ∷ []) 300) (0 ∷ 1 ∷ 2 ∷ []) 2

may_take : (d : ℕ) → d < 3 → d ≢ 2 → May d 0
may_take zero l other = (hop 0 1 1, 0, 1, refl, of_landmark, to_landmark, omega arith)
may_take (suc zero) l other = (hop 0 1 1, 1, 2, refl, from_landmark, triangle_bound, omega arith)
may_take (suc (suc zero)) l other = absurd (other refl)
may_take (suc (suc (suc d))) l other = absurd (omega (arith, l))

pub triangle_row : FitsChoices 3 2 May (one_interval ∷ [])
triangle_row = record {
  within = All-cons (λ (m : PortInterval). (m.start < 3) × (m.end < 3)) one_interval [] (omega arith, omega arith) (All-nil (λ (m : PortInterval). (m.start < 3) × (m.end < 3)));
  covered = λ d l ne. (0, one_interval, omega arith, refl, inr (omega arith, inl (omega arith, l)));
  agrees = λ d l ne.
      All-cons (λ (m : PortInterval). HasLabel 3 m d → May d m.port) one_interval [] (λ has. may_take d l ne)
      (All-nil (λ (m : PortInterval). HasLabel 3 m d → May d m.port));
}

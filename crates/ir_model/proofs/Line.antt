-- The distance from a to c on the line a-b-c.
use Rattle.std.proofs.Common.{◌≡◌, ℕ, zero, suc, ◌+◌, ◌≤◌, List, [], ◌∷◌, Some, refl, sym, subst, arith, lit<}
use Rattle.ir_model.specs.declared.Hop.{Hop}
use Rattle.ir_model.specs.Topology.{port_at}
use Rattle.ir_model.specs.Walk.{link_weight, LeadsTo, IsWalk, weight_from, walk_weight, IsDistance}
use Rattle.ir_model.specs.Worked.{line, hop}

pub line_walk : IsWalk line 0 2 (0 ∷ 1 ∷ 2 ∷ [])
line_walk = (refl, ((0, hop 1 0 1, refl, refl), ((1, hop 2 1 1, refl, refl), (refl, lit< tt))))

-- each way from b to c weighs at least 1
from_b : (rest : List ℕ) → LeadsTo line 1 2 rest → 1 ≤ weight_from line 1 rest
from_b [] way = absurd (let wrong : 1 ≡ 2 = way.0 in omega (arith, wrong))
from_b (v ∷ rest) way = let some : 1 ≤ link_weight line 1 v = step v way.0.0 way.0.1 way.0.2 way.0.3 in omega (arith, some)
  where
    step : (v p : ℕ) (h : Hop) → port_at line 1 p ≡ Some h → h.node ≡ v → 1 ≤ link_weight line 1 v
    step v zero h at is = let same : 0 ≡ v = cc (at, is) in let P : ℕ → Type 0 = λ x. 1 ≤ link_weight line 1 x in subst P same (omega arith)
    step v (suc zero) h at is = let same : 2 ≡ v = cc (at, is) in let P : ℕ → Type 0 = λ x. 1 ≤ link_weight line 1 x in subst P same (omega arith)
    step v (suc (suc p)) h at is = absurd (cc at)

-- each way from a to c weighs at least 2
from_a : (rest : List ℕ) → LeadsTo line 0 2 rest → 2 ≤ weight_from line 0 rest
from_a [] way = absurd (let wrong : 0 ≡ 2 = way.0 in omega (arith, wrong))
from_a (v ∷ rest) way = step v way.0.0 way.0.1 way.0.2 way.0.3 way.1
  where
    step : (v p : ℕ) (h : Hop) → port_at line 0 p ≡ Some h → h.node ≡ v → LeadsTo line v 2 rest → 2 ≤ weight_from line 0 (v ∷ rest)
    step v zero h at is way =
        let same : 1 ≡ v = cc (at, is) in
        let P : ℕ → Type 0 = λ x. LeadsTo line x 2 rest → 2 ≤ link_weight line 0 x + weight_from line x rest in
        (subst P same (λ on. omega (arith, from_b rest on))) way
    step v (suc p) h at is way = absurd (cc at)

pub line_distance : IsDistance line 0 2 2
line_distance = record { reached = (0 ∷ 1 ∷ 2 ∷ [], line_walk, refl); least = least }
  where
    least : (walk : List ℕ) → IsWalk line 0 2 walk → 2 ≤ walk_weight line walk
    least [] none = absurd none
    least (x ∷ rest) is =
        let P : ℕ → Type 0 = λ y. 2 ≤ weight_from line y rest in
        subst P (sym is.0) (from_a rest is.1)

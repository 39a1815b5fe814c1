-- What the checker computes, step by step.
use Rattle.std.proofs.Common.{◌≡◌, ◌<◌, ◌+◌, ◌-◌, ℕ, suc, true, false, ◌&&◌, List, [], ◌∷◌, ◌++◌, length, take, drop, get_or, nat_lt, Option, None, refl, sym, ap, ◌∙◌, arith}
use Rattle.std.specs.List.{list_all}
use Rattle.std.proofs.lemmas.Bool.{and_parts, ltb-true}
use Rattle.std.proofs.lemmas.List.{take_more}
use Rattle.std.proofs.Math.Seq.{drop-cons}
use Rattle.ir_model.specs.Topology.{Topology, restrict}
use Rattle.ir_model.specs.Plan.{Plan}
use Rattle.ir_core.specs.declared.built.Install.{Install}
use Rattle.ir_plan.specs.Building.{IsPlanBy}
use Rattle.ir_core.specs.Installed.{labelled_by}
use Rattle.ir_core.specs.Sound.{last_of}
use Rattle.ir_trace.specs.Row.{Segment}
use Rattle.ir_trace.specs.Checked.{is_part_over, ArePlansOf}
use Rattle.ir_trace.specs.Inspect.{is_node, next_of, leads_through}

-- a list ends with its last element
pub last_at : (xs : List ℕ) → 0 < length xs → get_or xs (length xs - 1) 0 ≡ last_of xs
last_at [] h = absurd (omega arith)
last_at (x ∷ []) h = refl
last_at (x ∷ y ∷ xs) h =
    let step : suc (suc (length xs)) - 1 ≡ suc (suc (length xs) - 1) = omega arith in
    rw step (last_at (y ∷ xs) (omega arith))

-- the table leads nowhere
pub stops_at : (t : Plan) (d u : ℕ) (rest : List ℕ) (i : ℕ) → i < length rest → None ≡ next_of t u d → false ≡ leads_through t d u (drop i rest)
stops_at t d u rest i lt none = rw (drop-cons rest i 0) (ap (λ (next : Option ℕ). is_node next (get_or rest i 0) && leads_through t d (get_or rest i 0) (drop (suc i) rest)) none)

-- the last of some nodes is one
pub last_within : (n : ℕ) (hops : List ℕ) → list_all (λ u. nat_lt u n) hops ≡ true → 0 < length hops → last_of hops < n
last_within n [] h some = absurd (omega arith)
last_within n (x ∷ []) h some = ltb-true x n (and_parts (nat_lt x n) true h).0
last_within n (x ∷ y ∷ hops) h some = last_within n (y ∷ hops) (and_parts (nat_lt x n) (list_all (λ u. nat_lt u n) (y ∷ hops)) h).1 (omega arith)

pub record PartFacts (n : ℕ) (part : Segment) : Type 0 where
  pub some : 0 < length part.hops
  pub within : list_all (λ u. nat_lt u n) part.hops ≡ true
  pub last : last_of part.hops < n

pub part_facts : (n : ℕ) (part : Segment) → is_part_over n part ≡ true → PartFacts n part
part_facts n part h =
    let both = and_parts (nat_lt 0 (length part.hops)) (list_all (λ u. nat_lt u n) part.hops) h in
    let some : 0 < length part.hops = ltb-true 0 (length part.hops) both.0 in
    record { some = some; within = both.1; last = last_within n part.hops both.1 some }

-- the plan of one install more
plans_push : (net : Topology) (installs : List Install) (plans : List Plan) (install : Install) (t : Plan) → ArePlansOf net installs plans → IsPlanBy (restrict install.up.items net) install.kind (labelled_by install) t
    → ArePlansOf net (installs ++ install ∷ []) (plans ++ t ∷ [])
plans_push net [] [] install t are is = (is, tt)
plans_push net [] (s ∷ plans) install t are is = absurd are
plans_push net (i ∷ installs) [] install t are is = absurd are
plans_push net (i ∷ installs) (s ∷ plans) install t are is = (are.0, plans_push net installs plans install t are.1 is)

pub plans_more : (net : Topology) (installs : List Install) (k : ℕ) (install : Install) (plans : List Plan) (t : Plan) → k < length installs → install ≡ get_or installs k install
    → ArePlansOf net (take k installs) plans → IsPlanBy (restrict install.up.items net) install.kind (labelled_by install) t → ArePlansOf net (take (k + 1) installs) (plans ++ t ∷ [])
plans_more net installs k install plans t lt at are is =
    let more : take (k + 1) installs ≡ take k installs ++ install ∷ [] = take_more installs k install lt ∙ ap (λ (x : Install). take k installs ++ x ∷ []) (sym at) in
    rw more (plans_push net (take k installs) plans install t are is)

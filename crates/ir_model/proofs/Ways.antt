-- Walks the other way round, and one after the other.
use Rattle.std.proofs.Common.{◌≡◌, ℕ, ◌+◌, ◌<◌, ◌≤◌, List, [], ◌∷◌, ◌++◌, refl, sym, subst, ◌∙◌, arith}
use Rattle.ir_model.specs.Topology.{Topology, node_count, port_back, IsTopology}
use Rattle.ir_model.specs.Walk.{Linked, link_weight, LeadsTo, IsWalk, weight_from, walk_weight, IsDistance}
use Rattle.ir_model.proofs.Walks.{link_weight_at, leads_from_node}
use Rattle.ir_model.proofs.Tables.{distance_way}

-- one way after another
pub joined : (net : Topology) (u v d : ℕ) (rest more : List ℕ) → LeadsTo net u v rest → LeadsTo net v d more
    → LeadsTo net u d (rest ++ more) × (weight_from net u (rest ++ more) ≡ weight_from net u rest + weight_from net v more)
joined net u v d [] more way on =
    let P : ℕ → Type 0 = λ x. LeadsTo net x d more × (weight_from net x more ≡ 0 + weight_from net v more) in
    subst P (sym way.0) (on, omega arith)
joined net u v d (x ∷ rest) more way on =
    let later = joined net x v d rest more way.1 on in
    ((way.0, later.0), omega (arith, later.1))

-- a link leads both ways, with one weight
linked_back : (net : Topology) → IsTopology net → (u v : ℕ) → Linked net u v → Linked net v u × (link_weight net v u ≡ link_weight net u v)
linked_back net ok u v step =
    let P : ℕ → Type 0 = λ x. Linked net x u × (link_weight net x u ≡ link_weight net u x) in
    let back = ok.paired u step.0 step.1 step.2 in
    let there : link_weight net u step.1.node ≡ step.1.weight = link_weight_at net ok u step.0 step.1 step.2 in
    let here : link_weight net step.1.node u ≡ step.1.weight = link_weight_at net ok step.1.node back.0 (port_back u step.1) back.1 in
    subst P step.3 ((back.0, port_back u step.1, back.1, refl), here ∙ sym there)

-- each way has a way back of the same weight
way_back : (net : Topology) → IsTopology net → (u d : ℕ) (rest : List ℕ) → LeadsTo net u d rest
    → (back : List ℕ) × LeadsTo net d u back × (weight_from net d back ≡ weight_from net u rest)
way_back net ok u d [] way =
    let u_in : u < node_count net = leads_from_node net ok u d [] way in
    ([], (sym way.0, u_in), refl)
way_back net ok u d (v ∷ rest) way =
    let later = way_back net ok v d rest way.1 in
    let step = linked_back net ok u v way.0 in
    let u_in : u < node_count net = leads_from_node net ok u d (v ∷ rest) way in
    let last : LeadsTo net v u (u ∷ []) = (step.0, (refl, u_in)) in
    let both = joined net d v u later.0 (u ∷ []) later.1 last in
    (later.0 ++ u ∷ [], both.0, omega (arith, both.1, later.2, step.1))

pub symmetric : (net : Topology) → IsTopology net → (u d n : ℕ) → IsDistance net u d n → IsDistance net d u n
symmetric net ok u d n far =
    let way = distance_way net u d n far in
    let back = way_back net ok u d way.0 way.1 in
    record { reached = (d ∷ back.0, (refl, back.1), back.2 ∙ way.2); least = no_lighter }
  where
    no_lighter : (walk : List ℕ) → IsWalk net d u walk → n ≤ walk_weight net walk
    no_lighter [] none = absurd none
    no_lighter (x ∷ rest) is =
        let P : ℕ → Type 0 = λ y. weight_from net y rest ≡ weight_from net d rest in
        let there = way_back net ok d u rest is.1 in
        let le : n ≤ weight_from net u there.0 = far.least (u ∷ there.0) (refl, there.1) in
        omega (arith, le, there.2, subst P (sym is.0) refl)

pub triangle : (net : Topology) → IsTopology net → (u v w a b c : ℕ) → IsDistance net u v a → IsDistance net v w b → IsDistance net u w c → c ≤ a + b
triangle net ok u v w a b c first second whole =
    let one = distance_way net u v a first in
    let two = distance_way net v w b second in
    let both = joined net u v w one.0 two.0 one.1 two.1 in
    let le : c ≤ weight_from net u (one.0 ++ two.0) = whole.least (u ∷ (one.0 ++ two.0)) (refl, both.0) in
    omega (arith, le, both.1, one.2, two.2)

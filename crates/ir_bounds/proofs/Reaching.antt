-- How far nodes are near, and reaches that are raised along links.
use Rattle.std.proofs.Common.{◌≡◌, ◌≢◌, ℕ, ◌+◌, ◌-◌, ◌*◌, ◌/◌, ◌%◌, ◌<◌, ◌≤◌, Bool, true, false, List, length, set, Some, refl, ap, sym, subst, ◌∙◌, arith, ⊎_elim, add-mul, mul_comm, get_or-set_same, get_or-set_other}
use Rattle.std.proofs.lemmas.Bool.{cases_eq, cases_lt, cases_Bool, leb-true}
use Rattle.std.proofs.lemmas.Bool.Decides.{nat_tests}
use Rattle.std.proofs.lemmas.Nat.{mul-le, div-add-mod', mod_below}
use Rattle.ir_model.specs.declared.Hop.{Hop}
use Rattle.ir_model.specs.Topology.{Topology, node_count, port_at, IsTopology}
use Rattle.ir_model.specs.Walk.{IsDistance}
use Rattle.ir_model.specs.Landmark.{is_far}
use Rattle.ir_model.proofs.Walks.{port_facts, PortFacts}
use Rattle.ir_tables.specs.FromNode.{AreFrom}
use Rattle.ir_tables.specs.Relaxation.{at, IsTight}
use Rattle.ir_bounds.specs.Reaches.{AreReaches, AreWithin, IsWithinReach, TellNear, TellsNear}

-- the test for far, as numbers
far_le : (stretch away radius : ℕ) → is_far stretch away radius ≡ true → 100 * away + 200 * radius ≤ stretch * away
far_le stretch away radius far = let le : 100 * (away + 2 * radius) ≤ stretch * away = leb-true (100 * (away + 2 * radius)) (stretch * away) far in omega (arith, le)

near_lt : (stretch away radius : ℕ) → is_far stretch away radius ≡ false → stretch * away < 100 * away + 200 * radius
near_lt stretch away radius near = let lt : stretch * away < 100 * (away + 2 * radius) = grind (arith, nat_tests) in omega (arith, lt)

-- a stretch as what is more than the distance
beyond : (stretch more away : ℕ) → stretch ≡ 100 + more → stretch * away ≡ 100 * away + more * away
beyond stretch more away is = ap (λ (s : ℕ). s * away) is ∙ add-mul 100 more away

-- less than one more than a quotient, in units of the divisor
below_next : (n more q : ℕ) → 0 < more → q ≡ n / more → n < q * more + more
below_next n more q some is =
    let whole : q * more + n % more ≡ n = ap (λ (k : ℕ). k * more + n % more) is ∙ div-add-mod' n more in
    let part : n % more < more = mod_below n more some in
    omega (arith, whole, part)

-- a node that is near is not as far as this
pub near_below : (stretch radius away more reach : ℕ) → stretch ≡ 100 + more → 0 < more → reach ≡ (200 * radius + more - 1) / more → is_far stretch away radius ≡ false → away < reach
near_below stretch radius away more reach is some reach_is near =
    ⊎_elim (λ (lt : away < reach). lt)
    (λ (le : reach ≤ away).
    let next : 200 * radius + more - 1 < reach * more + more = below_next (200 * radius + more - 1) more reach some reach_is in
    let up : reach * more ≤ away * more = mul-le reach more away more le (omega arith) in
    let lt : stretch * away < 100 * away + 200 * radius = near_lt stretch away radius near in
    let split : stretch * away ≡ 100 * away + more * away = beyond stretch more away is in
    let turned : more * away ≡ away * more = mul_comm more away in
    absurd (omega (arith, next, up, lt, split, turned)))
    (cases_lt away reach)

-- what is far stays so farther away
pub far_farther : (stretch more near away radius : ℕ) → stretch ≡ 100 + more → near ≤ away → is_far stretch near radius ≡ true → is_far stretch away radius ≡ true
far_farther stretch more near away radius is le far =
    ⊎_elim (λ (yes : is_far stretch away radius ≡ true). yes)
    (λ (no : is_far stretch away radius ≡ false).
    let lt : stretch * away < 100 * away + 200 * radius = near_lt stretch away radius no in
    let ge : 100 * near + 200 * radius ≤ stretch * near = far_le stretch near radius far in
    let one : stretch * away ≡ 100 * away + more * away = beyond stretch more away is in
    let other : stretch * near ≡ 100 * near + more * near = beyond stretch more near is in
    let up : more * near ≤ more * away = mul-le more near more away (omega arith) le in
    absurd (omega (arith, lt, ge, one, other, up)))
    (cases_Bool (is_far stretch away radius))

-- weights that are distances within the reaches tell which nodes are near
pub within_tells : (net : Topology) (stretch u : ℕ) (radii reaches weights : List ℕ) → 100 < stretch → AreReaches net stretch radii reaches → AreWithin net u reaches weights → TellNear net stretch u radii weights
within_tells net stretch u radii reaches weights more are within = record { every = within.every; each = λ d d_in. tells d d_in (within.each d d_in) }
  where
    tells : (d : ℕ) → d < node_count net → IsWithinReach net u d (at reaches d) (at weights d) → TellsNear net stretch u d (at radii d) (at weights d)
    tells d d_in is =
        ⊎_elim (λ (far : is_far stretch is.away (at radii d) ≡ true). record {
          away = is.away;
          direct = is.direct;
          far = far_farther stretch (stretch - 100) is.away (at weights d) (at radii d) (omega (arith, more)) is.least far ∙ sym far;
          near = λ near. absurd (let bad : true ≡ false = sym far ∙ near in cc bad);
        })
        (λ (near : is_far stretch is.away (at radii d) ≡ false). let same : at weights d ≡ is.away = is.within (are.near d d_in is.away near) in
        record {
          away = is.away;
          direct = is.direct;
          far = ap (λ (n : ℕ). is_far stretch n (at radii d)) same;
          near = λ _. same;
        })
        (cases_Bool (is_far stretch is.away (at radii d)))

-- and so do the distances
pub distances_tell : (net : Topology) (stretch u : ℕ) (radii weights : List ℕ) → AreFrom net u weights → TellNear net stretch u radii weights
distances_tell net stretch u radii weights are = record { every = are.every; each = λ d d_in. record { away = at weights d; direct = are.each d d_in; far = refl; near = λ _. refl } }

-- the reaches of neighbours are raised by way of the first i ports of x
pub record IsRaising (net : Topology) (x own : ℕ) (old reaches : List ℕ) (has_raised : Bool) (i : ℕ) : Type 0 where
  pub every : length reaches ≡ length old
  pub raised : (d : ℕ) → at old d ≤ at reaches d
  pub same : has_raised ≡ false → reaches ≡ old
  pub settled : has_raised ≡ false → (p : ℕ) (hop : Hop) → p < i → port_at net x p ≡ Some hop → own ≤ hop.weight + at old hop.node

-- the reaches along the links of the first i nodes
pub record AreRaising (net : Topology) (old reaches : List ℕ) (has_raised : Bool) (i : ℕ) : Type 0 where
  pub every : length reaches ≡ length old
  pub raised : (d : ℕ) → d < length old → at old d ≤ at reaches d
  pub same : has_raised ≡ false → reaches ≡ old
  pub settled : has_raised ≡ false → (x p : ℕ) (hop : Hop) → x < i → port_at net x p ≡ Some hop → at old x ≤ hop.weight + at old hop.node

-- reaches that are the same everywhere fall nowhere
pub level_tight : (net : Topology) → IsTopology net → (reaches : List ℕ) (n : ℕ) → n ≡ node_count net → ((x y : ℕ) → x < n → y < n → at reaches x ≡ at reaches y) → IsTight net (at reaches)
level_tight net ok reaches n is same x p hop port =
    let facts : PortFacts net x hop = port_facts net ok x p hop port in
    let e : at reaches x ≡ at reaches hop.node = same x hop.node (omega (arith, facts.from, is)) (omega (arith, facts.to, is)) in
    omega (arith, e)

-- reaches that are no less cover what is near too
pub near_stays : (stretch n : ℕ) (radii old reaches : List ℕ) → ((d : ℕ) → d < n → at old d ≤ at reaches d) → ((d : ℕ) → d < n → (away : ℕ) → is_far stretch away (at radii d) ≡ false → away < at old d)
    → (d : ℕ) → d < n → (away : ℕ) → is_far stretch away (at radii d) ≡ false → away < at reaches d
near_stays stretch n radii old reaches up near d d_in away is = (let before = near d d_in away is in let le = up d d_in in omega (arith, before, le))

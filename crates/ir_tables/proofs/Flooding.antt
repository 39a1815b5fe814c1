-- How a port spreads along tight steps.
use Rattle.std.proofs.Common.{◌≡◌, ℕ, zero, suc, get_or, ◌+◌, ◌*◌, ◌<◌, ◌≤◌, List, [], ◌∷◌, ◌++◌, length, replicate, set, Some, refl, ap, sym, subst, ◌∙◌, inl, inr, arith, get_or-set_other, length-set}
use Rattle.std.specs.Prelude.{Bool, true, false, Contains, slice_index_or}
use Rattle.std.proofs.lemmas.Bool.{cases_eq, cases_lt}
use Rattle.std.proofs.lemmas.Option.{slice_get_within}
use Rattle.std.proofs.lemmas.List.{length_push, length-replicate, get_or_append_left}
use Rattle.std.proofs.lemmas.List.Folds.{sum_by-replicate}
use Rattle.std.proofs.lemmas.List.Sums.{sum_by-set}
use Rattle.std.proofs.lemmas.List.Elements.{Contains-append_left, Contains-append_right, Contains-append_cases, Contains-get_or}
use Rattle.std.proofs.lemmas.Grind.{get_or_default_zero}
use Rattle.ir_model.specs.declared.Hop.{Hop}
use Rattle.ir_model.specs.Topology.{Topology, node_count, ports_of, port_at, IsTopology}
use Rattle.ir_model.specs.Table.{LeadsNearer}
use Rattle.ir_model.proofs.Walks.{PortFacts, port_facts}
use Rattle.ir_tables.specs.FromNode.{AreFrom, AreLedBy, AreListed, IsTightStep, HasPassed, IsMarked, IsPassing, IsPassedOn, one_if_unmarked, unmarked}
use Rattle.ir_tables.proofs.Leading.{nearer_start, nearer_step, nearer_all}

-- the one node of a list
only_one : (x y : ℕ) → Contains (x ∷ []) y → y ≡ x
only_one x y has = by has.0 has.1 has.2
  where
    by : (k : ℕ) → k < length (x ∷ []) → get_or (x ∷ []) k y ≡ y → y ≡ x
    by zero lt is = sym is
    by (suc k) lt is = absurd (omega (arith, lt))

has_one : (x : ℕ) → Contains (x ∷ []) x
has_one x = (0, omega arith, refl)

none_in : (y : ℕ) → Contains [] y → ⊥
none_in y has = omega (arith, has.1)

in_place : (led : List ℕ) (y : ℕ) (has : Contains led y) → slice_index_or led has.0 0 ≡ y
in_place led y has = sym (get_or_default_zero led has.0 y has.1) ∙ has.2

still : (led led' : List ℕ) → length led ≤ length led' → ((k : ℕ) → k < length led → slice_index_or led' k 0 ≡ slice_index_or led k 0)
    → (y : ℕ) → Contains led y → Contains led' y
still led led' longer kept y has =
    let inside : has.0 < length led' = omega (arith, has.1, longer) in
    (has.0, inside, get_or_default_zero led' has.0 y inside ∙ kept has.0 has.1 ∙ in_place led y has)

-- no node has a mark
abbrev pub no_marks : ℕ → List Bool
no_marks n = replicate n false

unmarked_all : (n y : ℕ) → IsMarked (no_marks n) y → ⊥
unmarked_all zero y is = cc is
unmarked_all (suc n) zero is = cc is
unmarked_all (suc n) (suc y) is = unmarked_all n y is

all_unmarked : (n : ℕ) → unmarked (no_marks n) ≡ n
all_unmarked n = let e : unmarked (no_marks n) ≡ n * 1 = sum_by-replicate one_if_unmarked n false in omega (arith, e)

-- what a mark more comes to
module _ (marks : List Bool) (led : List ℕ) (y : ℕ) (inside : y < length marks) (bare : slice_index_or marks y false ≡ false) where
  mark_listed : AreListed marks led → AreListed (set marks y true) (led ++ y ∷ [])
  mark_listed listed z is =
      elim (cases_eq z y) [
        | inl e ↦ subst (λ (k : ℕ). Contains (led ++ y ∷ []) k) (sym e) (Contains-append_right led (y ∷ []) y (has_one y))
        | inr ne ↦ Contains-append_left led (y ∷ []) z (listed z (sym (get_or-set_other marks y z true false ne) ∙ is))
      ]

  mark_room : length (led ++ y ∷ []) + unmarked (set marks y true) ≡ length led + unmarked marks
  mark_room =
      let lower : unmarked (set marks y true) + one_if_unmarked (slice_index_or marks y false) ≡ unmarked marks + one_if_unmarked true = sum_by-set one_if_unmarked marks y true false inside in
      let counted : one_if_unmarked (slice_index_or marks y false) ≡ 1 = ap one_if_unmarked bare in
      omega (arith, lower, counted, length_push led y)

-- ---- one node passes the port on

pub passing_start : (net : Topology) (weights : List ℕ) (x : ℕ) (marks : List Bool) (led : List ℕ) → AreListed marks led → IsPassing net weights x 0 marks led marks led
passing_start net weights x marks led listed = record {
  every = refl;
  listed = listed;
  longer = omega arith;
  kept = λ k l. refl;
  new = λ y has. inl has;
  room = omega arith;
  passed = λ q hop lt port_is tight. absurd (omega (arith, lt));
}

module _ (net : Topology) (weights : List ℕ) (x i : ℕ) (old : List Bool) (before : List ℕ) (marks : List Bool) (led : List ℕ)
    (hop : Hop) (port_is : port_at net x i ≡ Some hop) (so_far : IsPassing net weights x i old before marks led) where
  -- the step of the first ports, and of the next one
  passed_next : (now : List ℕ) → ((y : ℕ) → Contains led y → Contains now y) → (IsTightStep weights x hop → Contains now hop.node)
      → (q : ℕ) (h : Hop) → q < i + 1 → port_at net x q ≡ Some h → IsTightStep weights x h → Contains now h.node
  passed_next now more here q h lt at_q tight =
      elim (cases_lt q i) [
        | inl less ↦ more h.node (so_far.passed q h less at_q tight)
        | inr ge ↦
            let same : q ≡ i = omega (arith, lt, ge) in
            let hops : hop ≡ h = cc (port_is, subst (λ (k : ℕ). port_at net x k ≡ Some h) same at_q) in
            subst (λ (z : Hop). Contains now z.node) hops (here (subst (λ (z : Hop). IsTightStep weights x z) (sym hops) tight))
      ]

  -- the next port of x: its node has a mark, or the step isn't tight
  pub passing_keep : (IsTightStep weights x hop → IsMarked marks hop.node) → IsPassing net weights x (i + 1) old before marks led
  passing_keep here = record {
    every = so_far.every;
    listed = so_far.listed;
    longer = so_far.longer;
    kept = so_far.kept;
    new = so_far.new;
    room = so_far.room;
    passed = passed_next led (λ y has. has) (λ tight. so_far.listed hop.node (here tight));
  }

  -- the next port of x: its node gets a mark
  pub passing_write : hop.node < length marks → slice_index_or marks hop.node false ≡ false → IsTightStep weights x hop
      → IsPassing net weights x (i + 1) old before (set marks hop.node true) (led ++ hop.node ∷ [])
  passing_write inside bare tight =
      let y : ℕ = hop.node in
      let more : (z : ℕ) → Contains led z → Contains (led ++ y ∷ []) z = λ z has. Contains-append_left led (y ∷ []) z has in
      record {
        every = length-set marks y true ∙ so_far.every;
        listed = mark_listed marks led y inside bare so_far.listed;
        longer = omega (arith, length_push led y, so_far.longer);
        kept = λ k l. get_or_append_left led (y ∷ []) 0 k (omega (arith, l, so_far.longer)) ∙ so_far.kept k l;
        new = λ z has.
            elim (Contains-append_cases led (y ∷ []) z has) [
              | inl first ↦ so_far.new z first
              | inr last ↦ inr (record { q = i; hop = hop; port_is = port_is; node_is = sym (only_one y z last); tight = tight })
            ];
        room = omega (arith, so_far.room, mark_room marks led y inside bare);
        passed = passed_next (led ++ y ∷ []) more (λ _. Contains-append_right led (y ∷ []) y (has_one y));
      }

-- ---- the port goes on until each node has passed it on

-- the list has nodes to which the port p of u leads nearer, the first step's among them, and the first i of them have passed the port on
pub record IsFlooding (net : Topology) (u : ℕ) (weights : List ℕ) (p start i : ℕ) (marks : List Bool) (led : List ℕ) : Type 0 where
  pub every : length marks ≡ node_count net
  pub listed : AreListed marks led
  pub nearer : (y : ℕ) → Contains led y → (y < node_count net) × LeadsNearer net u y p
  pub within : i ≤ length led
  pub room : length led + unmarked marks ≤ node_count net
  pub passed : (k : ℕ) → k < i → HasPassed net weights led (slice_index_or led k 0)
  pub first : Contains led start

module _ (net : Topology) (ok : IsTopology net) (u : ℕ) (weights : List ℕ) (are : AreFrom net u weights) (p : ℕ) (hop : Hop) (port_is : port_at net u p ≡ Some hop) where
  pub flooding_start : IsTightStep weights u hop → IsFlooding net u weights p hop.node 0 (set (no_marks (node_count net)) hop.node true) (hop.node ∷ [])
  flooding_start tight =
      let n : ℕ = node_count net in
      let y : ℕ = hop.node in
      let facts : PortFacts net u hop = port_facts net ok u p hop port_is in
      let inside : y < length (no_marks n) = omega (arith, facts.to, length-replicate n false) in
      let bare : slice_index_or (no_marks n) y false ≡ false = no_mark (slice_index_or (no_marks n) y false) (unmarked_all n y) in
      record {
        every = length-set (no_marks n) y true ∙ length-replicate n false;
        listed = mark_listed (no_marks n) [] y inside bare (λ z is. absurd (unmarked_all n z is));
        nearer = λ z has. subst (λ (k : ℕ). (k < n) × LeadsNearer net u k p) (sym (only_one y z has)) (facts.to, nearer_start net ok u weights are p hop port_is tight);
        within = omega arith;
        room = omega (arith, mark_room (no_marks n) [] y inside bare, all_unmarked n);
        passed = λ k l. absurd (omega (arith, l));
        first = has_one y;
      }
    where
      no_mark : (b : Bool) → (b ≡ true → ⊥) → b ≡ false
      no_mark true not = absurd (not refl)
      no_mark false not = refl

  -- the next node has passed the port on
  pub flooding_step : (start i x : ℕ) (marks marks' : List Bool) (led led' : List ℕ) → i < length led → x ≡ slice_index_or led i 0
      → IsPassedOn net weights x marks led marks' led' → IsFlooding net u weights p start i marks led → IsFlooding net u weights p start (i + 1) marks' led'
  flooding_step start i x marks marks' led led' l is passing so_far =
      let from = so_far.nearer x (subst (λ (k : ℕ). Contains led k) (sym is) (Contains-get_or led i 0 l)) in
      let more : (y : ℕ) → Contains led y → Contains led' y = still led led' passing.longer passing.kept in
      record {
        every = passing.every ∙ so_far.every;
        listed = passing.listed;
        nearer = λ y has.
            elim (passing.new y has) [
              | inl b ↦ so_far.nearer y b
              | inr g ↦
                  let facts : PortFacts net x g.hop = port_facts net ok x g.q g.hop g.port_is in
                  subst (λ (k : ℕ). (k < node_count net) × LeadsNearer net u k p) g.node_is (facts.to, nearer_step net ok u weights are p x g.q g.hop from.1 g.port_is g.tight)
            ];
        within = omega (arith, l, passing.longer);
        room = omega (arith, passing.room, so_far.room);
        passed = λ k lt q h.
            elim (cases_lt k i) [
              | inl less ↦
                  let old_passed : HasPassed net weights led' (slice_index_or led k 0) = λ q' h' at_q tight. more h'.node (so_far.passed k less q' h' at_q tight) in
                  subst (λ (z : ℕ). HasPassed net weights led' z) (sym (passing.kept k (omega (arith, less, l)))) old_passed q h
              | inr ge ↦
                  let same : k ≡ i = omega (arith, lt, ge) in
                  let here : x ≡ slice_index_or led' k 0 = is ∙ sym (passing.kept i l) ∙ ap (λ (j : ℕ). slice_index_or led' j 0) (sym same) in
                  let x_passed : HasPassed net weights led' x = λ q' h' at_q tight. passing.passed q' h' (slice_get_within (ports_of net x) q' h' at_q) at_q tight in
                  subst (λ (z : ℕ). HasPassed net weights led' z) here x_passed q h
            ];
        first = more start so_far.first;
      }

  -- where each node has passed it on, the list has all nodes to which the port leads nearer
  pub flooding_done : (i : ℕ) (marks : List Bool) (led : List ℕ) → length led ≤ i → IsFlooding net u weights p hop.node i marks led → AreLedBy net u p led
  flooding_done i marks led all so_far = record {
    node = λ d has. (so_far.nearer d has).0;
    each = λ d. (
      (λ has. (so_far.nearer d has).1),
      nearer_all net ok u weights are (λ y. Contains led y) p
          (λ h at_h tight. let same : hop ≡ h = cc (port_is, at_h) in subst (λ (z : Hop). Contains led z.node) same so_far.first)
          (λ x q h has at_h tight.
          let place : slice_index_or led has.0 0 ≡ x = in_place led x has in
          subst (λ (z : ℕ). HasPassed net weights led z) place (so_far.passed has.0 (omega (arith, has.1, all))) q h at_h tight)
          d,
    );
  }

  -- where the first step isn't tight, the port leads nearer to no node
  pub nothing_led : (IsTightStep weights u hop → ⊥) → AreLedBy net u p []
  nothing_led loose = record {
    node = λ d has. absurd (none_in d has);
    each = λ d. (
      (λ has. absurd (none_in d has)),
      nearer_all net ok u weights are (λ y. Contains [] y) p
          (λ h at_h tight. let same : hop ≡ h = cc (port_is, at_h) in absurd (loose (subst (λ (z : Hop). IsTightStep weights u z) (sym same) tight)))
          (λ x q h has at_h tight. absurd (none_in x has))
          d,
    );
  }

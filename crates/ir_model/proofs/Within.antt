-- Laws of tables that keep to a bound.
use Rattle.std.proofs.Common.{◌≡◌, ◌≢◌, ℕ, zero, suc, ◌+◌, ◌<◌, ◌≤◌, false, List, [], ◌∷◌, length, Option, Some, None, map, get_or, refl, ap, sym, ◌∙◌, subst, arith, eqb, ⊎_elim}
use Rattle.std.specs.List.{AllByRecursion, IsDistinct}
use Rattle.std.specs.Prelude.{slice_index}
use Rattle.std.proofs.lemmas.Bool.{cases_eq, ne_eqb}
use Rattle.std.proofs.lemmas.List.{get_or-map}
use Rattle.std.proofs.lemmas.Map.Steps.{length-le_from_distinct_below}
use Rattle.ir_model.specs.declared.Hop.{Hop}
use Rattle.ir_model.specs.Topology.{Topology, node_count, IsTopology}
use Rattle.ir_model.specs.Walk.{link_weight, LeadsTo, IsWalk, weight_from, walk_weight, IsDistance}
use Rattle.ir_model.specs.Table.{LeadsNearer, next_node, Continues, IsPrescribedWalk}
use Rattle.ir_model.specs.Choices.{AreChoices}
use Rattle.ir_model.specs.Compact.{IsTied, IsCompactTable}
use Rattle.ir_model.specs.Plan.{AreLabels}
use Rattle.ir_model.specs.Within.{LeadsWithin, IsOneBound, IsKeepable, KeepsBound, MayLead, IsTableWithin}
use Rattle.ir_model.proofs.Walks.{link_weight_at, PortFacts, port_facts, way_in_range}
use Rattle.ir_model.proofs.Tables.{distance_way, prescribed_unique}
use Rattle.ir_model.proofs.Chosen.{chosen_same, choices_same}

module _ (net : Topology) (ok : IsTopology net) (bound : ℕ → ℕ → ℕ → Type 0) (one : IsOneBound bound) where
  -- the bounds of the nodes of a list fall from b on
  Falls : ℕ → ℕ → List ℕ → Type 0
  Falls d b [] = Unit {0}
  Falls d b (v ∷ rest) = (m : ℕ) × bound v d m × (m < b) × Falls d m rest

  -- so a node with a greater bound is not among them
  falls_apart : (u d b c : ℕ) (rest : List ℕ) → bound u d b → c ≤ b → Falls d c rest → AllByRecursion (λ y. eqb u y ≡ false) rest
  unfolding Falls
  falls_apart u d b c [] is le falls = tt
  falls_apart u d b c (v ∷ rest) is le falls = (
    ne_eqb u v (λ e. let P : ℕ → Type 0 = λ y. bound y d falls.0 in
        let same : b ≡ falls.0 = one u d b falls.0 is (subst P (sym e) falls.1) in
        omega (arith, same, falls.2, le)),
    falls_apart u d b falls.0 rest is (omega (arith, falls.2, le)) falls.3,
  )

  falls_distinct : (u d b : ℕ) (rest : List ℕ) → bound u d b → Falls d b rest → IsDistinct eqb (u ∷ rest)
  unfolding Falls IsDistinct
  falls_distinct u d b [] is falls = (tt, tt)
  falls_distinct u d b (v ∷ rest) is falls = (
    falls_apart u d b b (v ∷ rest) is (omega arith) falls,
    falls_distinct v d falls.0 rest falls.1 falls.3,
  )

  module _ (table : ℕ → ℕ → Option ℕ) (keeps : KeepsBound net bound table) (d : ℕ) (d_in : d < node_count net) where
    -- From u on the table names a way that weighs no more than the bound, along which the bounds fall.
    within_way : (fuel u b : ℕ) → u < node_count net → bound u d b → b ≤ fuel
        → (rest : List ℕ) × Continues net table d u rest × LeadsTo net u d rest × (weight_from net u rest ≤ b) × Falls d b rest
    unfolding Falls
    within_way zero u b u_in is le =
        ⊎_elim (λ e. ([], e, (e, d_in), omega arith, tt))
        (λ other. absurd (let port = keeps.port u d u_in d_in other in
        let hop : Hop = port.2.0 in
        let positive : 1 ≤ hop.weight = (port_facts net ok u port.0 hop port.2.3).positive in
        let same : port.2.2 ≡ b = one u d port.2.2 b port.2.5 is in
        omega (arith, positive, same, port.2.6, le)))
        (cases_eq u d)
    within_way (suc fuel) u b u_in is le =
        ⊎_elim (λ e. ([], e, (e, d_in), omega arith, tt))
        (λ other. step other (λ v m v_in of less. within_way fuel v m v_in of less))
        (cases_eq u d)
      where
        step : u ≢ d
            → ((v m : ℕ) → v < node_count net → bound v d m → m ≤ fuel
            → (rest : List ℕ) × Continues net table d v rest × LeadsTo net v d rest × (weight_from net v rest ≤ m) × Falls d m rest)
            → (rest : List ℕ) × Continues net table d u rest × LeadsTo net u d rest × (weight_from net u rest ≤ b) × Falls d b rest
        step other go =
            let port = keeps.port u d u_in d_in other in
            let hop : Hop = port.2.0 in
            let at = port.2.3 in
            let facts : PortFacts net u hop = port_facts net ok u port.0 hop at in
            let positive : 1 ≤ hop.weight = facts.positive in
            let same : port.2.2 ≡ b = one u d port.2.2 b port.2.5 is in
            let later = go hop.node port.2.1 facts.to port.2.4 (omega (arith, same, positive, port.2.6, le)) in
            let next : next_node net table u d ≡ Some hop.node = rw (port.1, at) refl in
            let weight : link_weight net u hop.node ≡ hop.weight = link_weight_at net ok u port.0 hop at in (
              hop.node ∷ later.0,
              (other, next, later.1),
              ((port.0, hop, at, refl), later.2),
              omega (arith, weight, later.3, same, port.2.6),
              (port.2.1, port.2.4, omega (arith, same, positive, port.2.6), later.4),
            )

    module _ (u b : ℕ) (u_in : u < node_count net) (is : bound u d b) where
      -- So its prescribed walks exist, and have at most as many nodes as the network.
      pub within_walks : (walk : List ℕ) × IsPrescribedWalk net table u d walk × (length walk ≤ node_count net)
      within_walks =
          let way = within_way b u b u_in is (omega arith) in (
            u ∷ way.0,
            (refl, way.1),
            length-le_from_distinct_below (u ∷ way.0) (node_count net) (falls_distinct u d b way.0 is way.4) (way_in_range net ok u d way.0 way.2),
          )

      -- And what it prescribes is a walk that weighs no more than the bound.
      pub prescribed_within : (walk : List ℕ) → IsPrescribedWalk net table u d walk → IsWalk net u d walk × (walk_weight net walk ≤ b)
      prescribed_within walk prescribed =
          let way = within_way b u b u_in is (omega arith) in
          let same : u ∷ way.0 ≡ walk = prescribed_unique net table u d (u ∷ way.0) walk (refl, way.1) prescribed in
          let P : List ℕ → Type 0 = λ w. IsWalk net u d w × (walk_weight net w ≤ b) in
          subst P same ((refl, way.2), way.3)

-- the bound from each place of a table that keeps to one
pub bound_of_table : (net : Topology) (bound : ℕ → ℕ → ℕ → Type 0) → IsKeepable net bound → (u d : ℕ) → u < node_count net → d < node_count net → (b : ℕ) × bound u d b
bound_of_table net bound can u d u_in d_in =
    ⊎_elim (λ e. (0, (let P : ℕ → Type 0 = λ x. bound x d 0 in subst P (sym e) (can.own d d_in))))
    (λ other. let port = can.port u d u_in d_in other in (port.1.2, port.1.5))
    (cases_eq u d)

-- A network, a bound and the labels of the nodes have one such table.
module _ (net : Topology) (bound : ℕ → ℕ → ℕ → Type 0) (order labels : List ℕ) (named : AreLabels (node_count net) order labels) where
  -- to each label but the own some port leads within the bound
  pub kept_choices : (table : ℕ → ℕ → Option ℕ) → KeepsBound net bound table → (a : ℕ) → a < node_count net → AreChoices (node_count net) a (MayLead net bound order a)
  kept_choices table keeps a ha = record {
    has_own = ha;
    some = λ d hd ne.
        let other : slice_index order a ≢ slice_index order d = λ e. ne (sym (sym (named.back a ha) ∙ ap (slice_index labels) e ∙ named.back d hd)) in
        let w = keeps.port (slice_index order a) (slice_index order d) (named.node a ha) (named.node d hd) other in
        (w.0, w.2);
  }

  -- the port at a label
  at_label : (table : ℕ → ℕ → Option ℕ) (u d : ℕ) → d < node_count net → get_or (map (table u) order) (slice_index labels d) None ≡ table u d
  at_label table u d hd = get_or-map (table u) order (slice_index labels d) 0 None (rw named.every_label (named.label d hd)) ∙ ap (table u) (named.there d hd)

  pub within_same : (table other : ℕ → ℕ → Option ℕ) → IsTableWithin net bound order table → IsTableWithin net bound order other
      → (u d : ℕ) → u < node_count net → d < node_count net → table u d ≡ other u d
  within_same table other is so u d hu hd =
      let a = slice_index labels u in
      let ha = named.label u hu in
      let same = chosen_same (node_count net) a (MayLead net bound order a) (kept_choices table is.keeps a ha) (map (table (slice_index order a)) order) (map (other (slice_index order a)) order) (is.chosen a ha) (so.chosen a ha) in
      let here : table (slice_index order a) d ≡ other (slice_index order a) d =
      sym (at_label table (slice_index order a) d hd) ∙ ap (λ (ports : List (Option ℕ)). get_or ports (slice_index labels d) None) same ∙ at_label other (slice_index order a) d hd in
      subst (λ (x : ℕ). table x d ≡ other x d) (named.there u hu) here

-- A port leads within the distance where it leads nearer.
module _ (net : Topology) (ok : IsTopology net) where
  pub within_is_nearer : (u d p : ℕ) → LeadsWithin net (IsDistance net) u d p → LeadsNearer net u d p
  within_is_nearer u d p leads =
      let hop : Hop = leads.0 in
      let way = distance_way net hop.node d leads.1 leads.4 in
      let weight : link_weight net u hop.node ≡ hop.weight = link_weight_at net ok u p hop leads.3 in
      let le : leads.2 ≤ walk_weight net (u ∷ hop.node ∷ way.0) = leads.5.least (u ∷ hop.node ∷ way.0) (refl, ((p, hop, leads.3, refl), way.1)) in
      let P : ℕ → Type 0 = λ n. IsDistance net u d n in
      (hop, leads.1, leads.3, leads.4, subst P (omega (arith, le, weight, way.2, leads.6)) leads.5)

  pub nearer_is_within : (u d p : ℕ) → LeadsNearer net u d p → LeadsWithin net (IsDistance net) u d p
  nearer_is_within u d p leads = (leads.0, leads.1, leads.0.weight + leads.1, leads.2, leads.3, leads.4, omega arith)

  -- So the compact table is the one that keeps to the distances.
  pub compact_is_within : (order : List ℕ) (table : ℕ → ℕ → Option ℕ) → IsCompactTable net order table → IsTableWithin net (IsDistance net) order table
  compact_is_within order table is = record {
    keeps = record {
      own = is.nearer.own;
      port = λ u d u_in d_in other. let w = is.nearer.port u d u_in d_in other in (w.0, w.1, nearer_is_within u d w.0 w.2);
    };
    chosen = λ a ha.
        choices_same (node_count net) a (IsTied net order a) (MayLead net (IsDistance net) order a) ha
        (λ d p hd ne. (nearer_is_within (slice_index order a) (slice_index order d) p, within_is_nearer (slice_index order a) (slice_index order d) p))
        (map (table (slice_index order a)) order) (is.chosen a ha);
  }

  pub within_is_compact : (order : List ℕ) (table : ℕ → ℕ → Option ℕ) → IsTableWithin net (IsDistance net) order table → IsCompactTable net order table
  within_is_compact order table is = record {
    nearer = record {
      own = is.keeps.own;
      port = λ u d u_in d_in other. let w = is.keeps.port u d u_in d_in other in (w.0, w.1, within_is_nearer u d w.0 w.2);
    };
    chosen = λ a ha.
        choices_same (node_count net) a (MayLead net (IsDistance net) order a) (IsTied net order a) ha
        (λ d p hd ne. (within_is_nearer (slice_index order a) (slice_index order d) p, nearer_is_within (slice_index order a) (slice_index order d) p))
        (map (table (slice_index order a)) order) (is.chosen a ha);
  }

-- The hops of a packet are a walk of the opening's network, and no more than there is room for.
use Rattle.std.proofs.Common.{◌≡◌, ℕ, ◌+◌, ◌-◌, ◌<◌, List, [], ◌∷◌, ◌++◌, length, take, drop, slice_get, slice_index, slice_index_or, Some, refl, sym, ap, ◌∙◌, subst, arith, add-one}
use Rattle.std.specs.Prelude.{reverse}
use Rattle.std.specs.List.{AllByRecursion}
use Rattle.std.proofs.lemmas.Option.{same_Some}
use Rattle.std.proofs.lemmas.List.{length-take-le, drop-drop, take-append-drop}
use Rattle.ir_model.specs.Topology.{Topology, IsTopology}
use Rattle.ir_model.specs.Walk.{LeadsTo, IsWalk}
use Rattle.ir_model.specs.Plan.{Plan}
use Rattle.ir_model.proofs.Walks.{port_facts}
use Rattle.ir_core.specs.declared.packet.Restamp.{Restamp}
use Rattle.ir_core.specs.Record.{Record, segments_in, present_in, until}
use Rattle.ir_core.specs.Setting.{Setting, IsPlanFor, nodes_of}
use Rattle.ir_core.specs.Meaning.{plan_of}
use Rattle.ir_core.specs.Sound.{ArePlaces, last_of}
use Rattle.ir_core.specs.World.{IsBeginning, StepsTo, IsStretch, IsRoutedRecord}
use Rattle.ir_core.proofs.Walks.{port_of}
use Rattle.ir_core.proofs.Segments.{places_more, last_drop, last_take}

leads_append : (net : Topology) (u m d : ℕ) (xs ys : List ℕ) → LeadsTo net u m xs → LeadsTo net m d ys → LeadsTo net u d (xs ++ ys)
leads_append net u m d [] ys k l = subst (λ (x : ℕ). LeadsTo net x d ys) (sym k.0) l
leads_append net u m d (v ∷ xs) ys k l = (k.0, leads_append net v m d xs ys k.1 l)

-- a walk goes on
pub walk_append : (net : Topology) (u m d : ℕ) (xs ys : List ℕ) → IsWalk net u m xs → LeadsTo net m d ys → IsWalk net u d (xs ++ ys)
walk_append net u m d [] ys k l = absurd k
walk_append net u m d (x ∷ xs) ys k l = (k.0, leads_append net u m d xs ys k.1 l)

-- what follows the first node of a walk
pub walk_tail : (net : Topology) (u d : ℕ) (hops : List ℕ) → IsWalk net u d hops → LeadsTo net u d (drop 1 hops)
walk_tail net u d [] k = absurd k
walk_tail net u d (x ∷ hops) k = k.1

module _ (o : Setting) (net : IsTopology o.topology) (plans : List Plan) (is_plan : (k : ℕ) → IsPlanFor o (slice_index_or plans k o.first)) where
  -- nodes along which a table leads are linked, each to the next
  hops_lead : (t : Plan) → IsPlanFor o t → (d u : ℕ) (rest : List ℕ) → u < nodes_of o → IsBeginning t d (u ∷ rest) → LeadsTo o.topology u (last_of (u ∷ rest)) rest
  hops_lead t plan d u [] u_in follows = (refl, u_in)
  hops_lead t plan d u (v ∷ rest) u_in follows =
      let step : StepsTo t d u v = follows.1 in
      let from = port_of t u d step.0 step.1 in
      let at = plan.ports u from.0 step.0 from.1 in
      let v_in : v < nodes_of o = subst (λ (x : ℕ). x < nodes_of o) step.2 (port_facts o.topology net u at.0 step.0 at.1).to in
      ((at.0, step.0, at.1, step.2), hops_lead t plan d v rest v_in follows.2)

  hops_walk : (t : Plan) → IsPlanFor o t → (d source : ℕ) (hops : List ℕ) → source < nodes_of o → slice_get hops 0 ≡ Some source → IsBeginning t d hops → IsWalk o.topology source (last_of hops) hops
  hops_walk t plan d source [] source_in begins follows = absurd follows
  hops_walk t plan d source (x ∷ rest) source_in begins follows =
      let same : x ≡ source = same_Some x source begins in
      (same, subst (λ (y : ℕ). LeadsTo o.topology y (last_of (x ∷ rest)) rest) same (hops_lead t plan d x rest (omega arith) follows))

  stretch_walk : (g : Record) → IsStretch o plans g → IsWalk o.topology g.source (last_of g.hops) g.hops
  stretch_walk g k = hops_walk (plan_of o plans g.epoch) (is_plan (g.epoch - 1)) g.dest g.source g.hops k.source_in k.begins k.follows

  walk_in : (latest : List Restamp) (r : Record) → ArePlaces (length r.hops) latest → AllByRecursion (IsStretch o plans) (segments_in latest r) → IsWalk o.topology r.source (last_of r.hops) r.hops
  walk_in [] r places each = stretch_walk (present_in [] r) each.0
  walk_in (s ∷ older) r places each =
      let lt = places.0 in
      let there = length-take-le (s.from + 1) r.hops (omega arith) in
      let within : ArePlaces (length (take (s.from + 1) r.hops)) older = rw there (places_more older s.from (s.from + 1) (omega arith) places.1) in
      let below = walk_in older (until s r) within each.1 in
      let front : IsWalk o.topology r.source (slice_index r.hops s.from) (take (s.from + 1) r.hops) =
      subst (λ (x : ℕ). IsWalk o.topology r.source x (take (s.from + 1) r.hops)) (ap (λ (n : ℕ). last_of (take n r.hops)) (add-one s.from) ∙ last_take s.from r.hops lt) below in
      let here = walk_tail o.topology (slice_index r.hops s.from) (last_of (drop s.from r.hops)) (drop s.from r.hops) (stretch_walk (present_in (s ∷ older) r) each.0) in
      let back : LeadsTo o.topology (slice_index r.hops s.from) (last_of r.hops) (drop (s.from + 1) r.hops) =
      subst (λ (x : ℕ). LeadsTo o.topology (slice_index r.hops s.from) x (drop (s.from + 1) r.hops)) (last_drop s.from r.hops lt)
      (subst (λ (xs : List ℕ). LeadsTo o.topology (slice_index r.hops s.from) (last_of (drop s.from r.hops)) xs) (drop-drop 1 s.from r.hops) here) in
      subst (λ (xs : List ℕ). IsWalk o.topology r.source (last_of r.hops) xs) (take-append-drop (s.from + 1) r.hops)
      (walk_append o.topology r.source (slice_index r.hops s.from) (last_of r.hops) (take (s.from + 1) r.hops) (drop (s.from + 1) r.hops) front back)

  -- a packet's hops, with restamps or without
  pub routed_walk : (r : Record) → IsRoutedRecord o plans r → IsWalk o.topology r.source (last_of r.hops) r.hops
  routed_walk r k = walk_in (reverse r.restamps) r k.places k.each

  source_within : (latest : List Restamp) (r : Record) → AllByRecursion (IsStretch o plans) (segments_in latest r) → r.source < nodes_of o
  source_within [] r each = each.0.source_in
  source_within (s ∷ older) r each = source_within older (until s r) each.1

  pub routed_source : (r : Record) → IsRoutedRecord o plans r → r.source < nodes_of o
  routed_source r k = source_within (reverse r.restamps) r k.each

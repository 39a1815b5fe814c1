-- A way over nodes of which some lack their row is a beginning of the walk, and ends for the cause that is named.
use Rattle.std.proofs.Common.{◌≡◌, ◌≢◌, ℕ, ◌+◌, ◌-◌, ◌<◌, List, [], ◌∷◌, length, Option, Some, None, refl, sym, ap, ◌∙◌, subst, ◌⊎◌, inl, inr, arith}
use Rattle.std.specs.Prelude.{slice_index, IsSome}
use Rattle.std.proofs.lemmas.List.{get_or-map}
use Rattle.std.proofs.lemmas.Option.{none-some}
use Rattle.ir_model.specs.Topology.{node_count}
use Rattle.ir_model.specs.Interval.{PortInterval, HasLabel}
use Rattle.ir_model.specs.Row.{Start, HasPort}
use Rattle.ir_model.specs.Compiled.{port_to}
use Rattle.ir_model.specs.Table.{IsPrescribedWalk}
use Rattle.ir_model.specs.Plan.{Plan, IsPlan, label_in, by_label, row_in, table_port}
use Rattle.ir_model.proofs.Walks.{port_facts}
use Rattle.ir_plan.proofs.Standing.{row_fits}
use Rattle.ir_core.specs.declared.packet.Fate.TheVariants.{Left}
use Rattle.ir_core.specs.Record.{Record}
use Rattle.ir_core.specs.Sound.{IsSound, last_of}
use Rattle.ir_core.specs.World.{IsBeginning, StepsTo}
use Rattle.ir_core.specs.Lacking.{AreWholeRows, LackNone, SendsOn, GoesOver, IsWayOver, EndsWithoutRow, IsFrontOfTheWalk, IsSentOver}
use Rattle.ir_core.proofs.Walks.{walk_of, prefix, whole, port_of, IsWalk, IsWalkFrom}

module _ (t : Plan) (found : ℕ → ℕ → Option (List Start)) (is : IsPlan t) (rows : AreWholeRows t found) (d : ℕ) (d_in : d < node_count t.topology) where
  -- d's label is not that of another node
  apart : (x : ℕ) → x < node_count t.topology → x ≢ d → label_in t d ≢ label_in t x
  apart x x_in ne e = ne (sym (is.labels.there x x_in) ∙ ap (slice_index t.order) (sym e) ∙ is.labels.there d d_in)

  at_label : (x : ℕ) → port_to (by_label t x) (label_in t d) ≡ table_port t x d
  at_label x =
      get_or-map (table_port t x) t.order (label_in t d) 0 None (rw is.labels.every_label (is.labels.label d d_in)) ∙ ap (table_port t x) (is.labels.there d d_in)

  -- the port of the row is that of the table
  row_port : (x port : ℕ) → x < node_count t.topology → x ≢ d → HasPort (node_count t.topology) (row_in t x) (label_in t d) port → table_port t x d ≡ Some port
  row_port x port x_in ne has =
      let P : PortInterval → Type 0 = λ m. HasLabel (node_count t.topology) m (label_in t d) → port_to (by_label t x) (label_in t d) ≡ Some m.port in
      let agrees : P has.1 = subst P has.3 ((row_fits t is x x_in).agrees (label_in t d) (is.labels.label d d_in) (apart x x_in ne) has.0 has.1 has.2) in
      sym (at_label x) ∙ agrees has.4.0 ∙ ap (λ (q : ℕ). Some q) has.4.1

  steps : (k x y : ℕ) (row : List Start) → x < node_count t.topology → x ≢ d → found k x ≡ Some row → SendsOn t row d x y → StepsTo t d x y
  steps k x y row x_in ne is_row (port, hop, has, at, to) =
      let same = row_port x port x_in ne (subst (λ (r : List Start). HasPort (node_count t.topology) r (label_in t d) port) (rows k x row is_row) has) in
      (hop, rw same at, to)

  -- a row that is there sends the packet on
  sends : (x y : ℕ) → x < node_count t.topology → x ≢ d → StepsTo t d x y → SendsOn t (row_in t x) d x y
  sends x y x_in ne (hop, next, to) =
      let fits = row_fits t is x x_in in
      let c = fits.covered (label_in t d) (is.labels.label d d_in) (apart x x_in ne) in
      let has : HasPort (node_count t.topology) (row_in t x) (label_in t d) c.1.port = (c.0, c.1, c.2, c.3, (c.4, refl)) in
      (c.1.port, hop, has, rw (row_port x c.1.port x_in ne has) at next, to)

  next_in : (x y : ℕ) → StepsTo t d x y → y < node_count t.topology
  next_in x y (hop, next, to) =
      let p = port_of t x d hop next in
      subst (λ (v : ℕ). v < node_count t.topology) to (port_facts t.topology is.topology x p.0 hop p.1).to

  begins : (k x : ℕ) (rest : List ℕ) → x < node_count t.topology → GoesOver t found d k x rest → IsBeginning t d (x ∷ rest)
  begins k x [] x_in g = tt
  begins k x (y ∷ rest) x_in g =
      let s = steps k x y g.1.0 x_in g.0 g.1.1 g.1.2 in
      (g.0, s, begins (k + 1) y rest (next_in x y s) g.2)

  -- why it ended, and that it ended at a node
  ends : (k x : ℕ) (rest : List ℕ) → x < node_count t.topology → GoesOver t found d k x rest
      → (last_of (x ∷ rest) < node_count t.topology) × ((last_of (x ∷ rest) ≡ d) ⊎ ((last_of (x ∷ rest) ≢ d) × (found (k + length rest) (last_of (x ∷ rest)) ≡ None)))
  ends k x [] x_in (inl home) = (x_in, inl home)
  ends k x [] x_in (inr none) = let count : k ≡ k + 0 = omega arith in (x_in, inr (none.0, subst (λ (i : ℕ). found i x ≡ None) count none.1))
  ends k x (y ∷ rest) x_in g =
      let s = steps k x y g.1.0 x_in g.0 g.1.1 g.1.2 in
      let e = ends (k + 1) y rest (next_in x y s) g.2 in
      let count : (k + 1) + length rest ≡ k + length (y ∷ rest) = omega arith in
      (e.0, subst (λ (i : ℕ). (last_of (y ∷ rest) ≡ d) ⊎ ((last_of (y ∷ rest) ≢ d) × (found i (last_of (y ∷ rest)) ≡ None))) count e.1)

  -- the way that a packet takes: along the walk, to the first node without a row
  goes : (k x : ℕ) (rest : List ℕ) → x < node_count t.topology → IsWalk t d (x ∷ rest) → (way : List ℕ) × GoesOver t found d k x way
  goes k x [] x_in w = ([], inl w)
  goes k x (y ∷ rest) x_in w = by_row (goes (k + 1) y rest (next_in x y w.1) w.2) (found k x) refl
    where
      by_row : ((way : List ℕ) × GoesOver t found d (k + 1) y way) → (o : Option (List Start)) → found k x ≡ o → (way : List ℕ) × GoesOver t found d k x way
      by_row more None e = ([], inr (w.0, e))
      by_row more (Some row) e =
          let on = subst (λ (r : List Start). SendsOn t r d x y) (sym (rows k x row e)) (sends x y x_in w.0 w.1) in
          (y ∷ more.0, (w.0, (row, e, on), more.1))

  exists_from : (u : ℕ) (walk : List ℕ) → u < node_count t.topology → IsWalkFrom t u d walk → (way : List ℕ) × IsWayOver t found u d way
  exists_from u [] u_in w = absurd w.begins
  exists_from u (x ∷ rest) u_in w =
      let g = goes 0 u rest u_in (subst (λ (v : ℕ). IsWalk t d (v ∷ rest)) w.begins w.steps) in
      (u ∷ g.0, (refl, g.1))

  front_from : (u : ℕ) (way : List ℕ) → u < node_count t.topology → IsWayOver t found u d way → IsFrontOfTheWalk t found u d way
  front_from u [] u_in g = absurd g
  front_from u (x ∷ rest) u_in (same, g) =
      let w = is.walks u d u_in d_in in
      let k = walk_of t u d w.0 w.1 in
      let b = begins 0 u rest u_in g in
      let e = ends 0 u rest u_in g in
      let way_is : u ∷ rest ≡ x ∷ rest = ap (λ (v : ℕ). v ∷ rest) (sym same) in
      let count : 0 + length rest ≡ length (u ∷ rest) - 1 = omega arith in
      let cause : (u ∷ rest ≡ w.0) ⊎ EndsWithoutRow found d (u ∷ rest) =
      elim e.1 [
        | inl home ↦ inl (whole t d (u ∷ rest) w.0 u refl k.begins b k.steps home)
        | inr none ↦ inr (none.0, subst (λ (i : ℕ). found i (last_of (u ∷ rest)) ≡ None) count none.1)
      ] in
      subst (IsFrontOfTheWalk t found u d) way_is (w.0, w.1, prefix t d (u ∷ rest) w.0 u refl k.begins b k.steps, cause)

  -- the way ends at a node
  last_in : (u : ℕ) (way : List ℕ) → u < node_count t.topology → IsWayOver t found u d way → last_of way < node_count t.topology
  last_in u [] u_in g = absurd g
  last_in u (x ∷ rest) u_in (same, g) = subst (λ (v : ℕ). last_of (v ∷ rest) < node_count t.topology) (sym same) (ends 0 u rest u_in g).0

pub exists : (t : Plan) (found : ℕ → ℕ → Option (List Start)) (u d : ℕ) → IsSentOver t found u d → (way : List ℕ) × IsWayOver t found u d way
exists t found u d s =
    let w = s.plan_is.walks u d s.source_in s.dest_in in
    exists_from t found s.plan_is s.whole d s.dest_in u w.0 s.source_in (walk_of t u d w.0 w.1)

pub front : (t : Plan) (found : ℕ → ℕ → Option (List Start)) (u d : ℕ) → IsSentOver t found u d → (way : List ℕ) → IsWayOver t found u d way → IsFrontOfTheWalk t found u d way
front t found u d s way g = front_from t found s.plan_is s.whole d s.dest_in u way s.source_in g

some_is_not_none : (o : Option (List Start)) → IsSome o → o ≡ None → ⊥
some_is_not_none None h e = absurd (cc h)
some_is_not_none (Some row) h e = none-some row (sym e)

-- where no node lacks its row, the way is the whole walk
pub all : (t : Plan) (found : ℕ → ℕ → Option (List Start)) (u d : ℕ) → IsSentOver t found u d → LackNone t found → (way : List ℕ) → IsWayOver t found u d way
    → IsPrescribedWalk t.topology (table_port t) u d way
all t found u d s none way g =
    let f = front t found u d s way g in
    elim f.3 [
      | inl same ↦ subst (IsPrescribedWalk t.topology (table_port t) u d) (sym same) f.1
      | inr ended ↦
          let there : IsSome (found (length way - 1) (last_of way)) = none (length way - 1) (last_of way) (last_in t found s.plan_is s.whole d s.dest_in u way s.source_in g) in
          absurd (some_is_not_none (found (length way - 1) (last_of way)) there ended.1)
    ]

not_empty : (t : Plan) (found : ℕ → ℕ → Option (List Start)) (u d : ℕ) (way : List ℕ) → IsWayOver t found u d way → 0 < length way
not_empty t found u d [] g = absurd g
not_empty t found u d (x ∷ rest) g = omega arith

pub sound : (t : Plan) (found : ℕ → ℕ → Option (List Start)) (r : Record) → IsSentOver t found r.source r.dest → r.fate ≡ Left → IsWayOver t found r.source r.dest r.hops → IsSound t r
sound t found r s left g =
    let f = front t found r.source r.dest s r.hops g in
    record {
      plan = s.plan_is;
      walk = f.0;
      prescribed = f.1;
      not_empty = not_empty t found r.source r.dest r.hops g;
      follows = f.2;
      fate = rw left tt;
    }

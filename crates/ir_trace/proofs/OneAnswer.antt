-- Plans that route alike find the same in rows, and the plans of installs do: a check has one answer, want of memory aside.
use Rattle.std.proofs.Common.{◌≡◌, ◌≢◌, ◌⊎◌, ◌<◌, ◌+◌, ◌-◌, ◌==◌, ◌&&◌, ℕ, zero, suc, Bool, true, false, List, [], ◌∷◌, ◌++◌, length, take, slice_get, nat_lt, Option, Some, Result, Ok, Err, IfOk, IfErr, refl, sym, ap, subst, ◌∙◌, arith, inl, inr}
use Rattle.std.specs.List.{list_all}
use Rattle.std.specs.Prelude.{option_map, option_and_then}
use Rattle.std.proofs.lemmas.Bool.{and_parts, ltb-true, cases_lt}
use Rattle.std.proofs.lemmas.Option.{none-some, same_Some}
use Rattle.ir_model.specs.declared.Hop.{Hop}
use Rattle.ir_model.specs.Topology.{Topology, node_count, port_at}
use Rattle.ir_model.specs.Plan.{Plan, table_port}
use Rattle.ir_core.specs.declared.built.Install.{Install}
use Rattle.ir_core.specs.Sound.{last_of}
use Rattle.ir_trace.specs.declared.finding.Finding.{Finding}
use Rattle.ir_trace.specs.declared.finding.FindingKind.{FindingKind}
use Rattle.ir_trace.specs.declared.finding.FindingKind.TheVariants.{NotTrace, BadRow, UnknownNode, UnknownEpoch, NotAPrefix, NotAtDestination, BadWeight, Repeated, NoMemory}
use Rattle.ir_trace.specs.Row.{Segment, TraceRow}
use Rattle.ir_trace.specs.Checked.{plan_at, last_part, ArePlansOf, IsRowOver, AreRowsOver, IsFindingOf, IsFine, AreFine, IsFirstFinding, Finds}
use Rattle.ir_trace.specs.Inspect.{is_node, next_of, leads_through, follows_from, are_known, are_joined, fits_fate, goes_on, has_arrived, segments_weight, first_of_four, found_of, AreOver, AreOverPlans}
use Rattle.ir_trace.specs.Sound.{IsSoundTrace}
use Rattle.ir_trace.specs.Judged.{RoutesAs, RouteAlike, FindsNothing, IsOnlyFinding}
use Rattle.ir_trace.proofs.Inspecting.{part_facts}
use Rattle.ir_trace.proofs.CheckedRows.{over_plans, last_is, is_found_as, is_fine_as}
use Rattle.ir_trace.proofs.CheckedTrace.{over_from}
use Rattle.ir_trace.proofs.Routing.{plans_alike}

-- ---- what is found of a row alone

-- plans that route alike send on to the same nodes
next_same : (p q : Plan) → RoutesAs p q → (u d : ℕ) → u < node_count p.topology → d < node_count p.topology → next_of p u d ≡ next_of q u d
next_same p q alike u d hu hd =
    ap (λ (x : Option ℕ). option_and_then (λ k. option_map (λ (hop : Hop). hop.node) (port_at p.topology u k)) x) (alike.ports u d hu hd)
    ∙ ap (λ (net : Topology). option_and_then (λ k. option_map (λ (hop : Hop). hop.node) (port_at net u k)) (table_port q u d)) alike.topology

module _ (p q : Plan) (alike : RoutesAs p q) (d : ℕ) (d_in : d < node_count p.topology) where
  leads_same : (u : ℕ) (rest : List ℕ) → u < node_count p.topology → list_all (λ x. nat_lt x (node_count p.topology)) rest ≡ true → leads_through p d u rest ≡ leads_through q d u rest
  leads_same u [] hu within = refl
  leads_same u (v ∷ rest) hu within =
      let both = and_parts (nat_lt v (node_count p.topology)) (list_all (λ x. nat_lt x (node_count p.topology)) rest) within in
      ap (λ (next : Option ℕ). is_node next v && leads_through p d v rest) (next_same p q alike u d hu d_in)
      ∙ ap (λ (b : Bool). is_node (next_of q u d) v && b) (leads_same v rest (ltb-true v (node_count p.topology) both.0) both.1)

  follows_same : (u : ℕ) (hops : List ℕ) → list_all (λ x. nat_lt x (node_count p.topology)) hops ≡ true → follows_from p d u hops ≡ follows_from q d u hops
  follows_same u [] within = refl
  follows_same u (x ∷ rest) within =
      let both = and_parts (nat_lt x (node_count p.topology)) (list_all (λ x. nat_lt x (node_count p.topology)) rest) within in
      ap (λ (b : Bool). (x == u) && b) (leads_same x rest (ltb-true x (node_count p.topology) both.0) both.1)

four_same : (known follows other arrived weighs : Bool) → (known ≡ true → follows ≡ other) → first_of_four known follows arrived weighs ≡ first_of_four known other arrived weighs
four_same false follows other arrived weighs h = refl
four_same true follows other arrived weighs h = ap (λ (b : Bool). first_of_four true b arrived weighs) (h refl)

module _ (plans others : List Plan) (alike : RouteAlike plans others) (d : ℕ) where
  joined_same : (u above : ℕ) (parts : List Segment) → AreOverPlans plans d parts → are_joined plans d u above parts ≡ are_joined others d u above parts
  joined_same u above [] is = refl
  joined_same u above (part ∷ parts) is =
      let here = is 0 part refl in
      let p = plan_at plans part.epoch in
      let q = plan_at others part.epoch in
      let facts = part_facts (node_count p.topology) part here.hops in
      ap (λ (b : Bool). nat_lt above part.epoch && (b && are_joined plans d (last_of part.hops) part.epoch parts)) (follows_same p q (alike.each part.epoch here.above here.within) d here.dest u part.hops facts.within)
      ∙ ap (λ (b : Bool). nat_lt above part.epoch && (follows_from q d u part.hops && b)) (joined_same (last_of part.hops) part.epoch parts (λ i x at. is (suc i) x at))

module _ (net : Topology) (plans others : List Plan) (alike : RouteAlike plans others) (over : AreOver (node_count net) plans) (so : AreOver (node_count net) others) (row : TraceRow) (is : IsRowOver (node_count net) row) where
  follow_same : are_known (length plans) row.parts ≡ true
      → (are_joined plans row.dest row.source 0 row.parts && goes_on plans row.dest row.fate row.parts) ≡ (are_joined others row.dest row.source 0 row.parts && goes_on others row.dest row.fate row.parts)
  follow_same known =
      let each = over_plans (node_count net) plans row.dest row.parts over known is.parts is.dest in
      let last = last_part row.parts in
      let end = each (length row.parts - 1) last (last_is net plans row over is) in
      let p = plan_at plans last.epoch in
      let facts = part_facts (node_count p.topology) last end.hops in
      ap (λ (b : Bool). b && goes_on plans row.dest row.fate row.parts) (joined_same plans others alike row.dest row.source 0 row.parts each)
      ∙ ap (λ (next : Option ℕ). are_joined others row.dest row.source 0 row.parts && fits_fate row.fate (last_of last.hops) next)
      (next_same p (plan_at others last.epoch) (alike.each last.epoch end.above end.within) (last_of last.hops) row.dest facts.last end.dest)

  found_same : found_of net plans row ≡ found_of net others row
  found_same =
      four_same (are_known (length plans) row.parts) (are_joined plans row.dest row.source 0 row.parts && goes_on plans row.dest row.fate row.parts)
      (are_joined others row.dest row.source 0 row.parts && goes_on others row.dest row.fate row.parts) (has_arrived row.dest row.fate row.parts) (segments_weight net row.parts == row.weight) follow_same
      ∙ ap (λ (n : ℕ). first_of_four (are_known n row.parts) (are_joined others row.dest row.source 0 row.parts && goes_on others row.dest row.fate row.parts) (has_arrived row.dest row.fate row.parts) (segments_weight net row.parts == row.weight)) alike.every

  module _ (earlier : List TraceRow) where
    -- a row that is fine by the ones has no finding by the others
    not_both : (kind : FindingKind) → IsFine net plans earlier row → IsFindingOf net others earlier row kind → ⊥
    not_both kind fine finding =
        let none = is_fine_as net plans row over is earlier fine in
        elim (is_found_as net others row so is earlier kind finding) [
          | inl some ↦ none-some kind (sym none ∙ found_same ∙ some)
          | inr repeated ↦ repeated.2 fine.new
        ]

    -- and what is found by both is the same
    same_finding : (kind other : FindingKind) → IsFindingOf net plans earlier row kind → IsFindingOf net others earlier row other → kind ≡ other
    same_finding kind other finding found =
        elim (is_found_as net plans row over is earlier kind finding) [
          | inl mine ↦
              elim (is_found_as net others row so is earlier other found) [
                | inl theirs ↦ same_Some kind other (sym mine ∙ found_same ∙ theirs)
                | inr repeated ↦ absurd (none-some kind (sym repeated.1 ∙ sym found_same ∙ mine))
              ]
          | inr repeated ↦
              elim (is_found_as net others row so is earlier other found) [
                | inl theirs ↦ absurd (none-some other (sym repeated.1 ∙ found_same ∙ theirs))
                | inr again ↦ repeated.0 ∙ sym again.0
              ]
        ]

-- ---- the first finding

-- what is in the front of some rows, and the rows before it
in_front : (good rest : List TraceRow) (k : ℕ) (r : TraceRow) → k < length good → slice_get (good ++ rest) k ≡ Some r → (slice_get good k ≡ Some r) × (take k good ≡ take k (good ++ rest))
in_front [] rest k r lt at = absurd (omega arith)
in_front (x ∷ good) rest zero r lt at = (at, refl)
in_front (x ∷ good) rest (suc k) r lt at =
    let w = in_front good rest k r (omega arith) at in
    (w.0, ap (λ (rows : List TraceRow). x ∷ rows) w.1)

-- what follows it, and the rows before that
behind_front : (good : List TraceRow) (row : TraceRow) (after : List TraceRow) → (slice_get (good ++ row ∷ after) (length good) ≡ Some row) × (take (length good) (good ++ row ∷ after) ≡ good)
behind_front [] row after = (refl, refl)
behind_front (x ∷ good) row after =
    let w = behind_front good row after in
    (w.0, ap (λ (rows : List TraceRow). x ∷ rows) w.1)

-- the row at a place is the first with a finding
record IsFirstAt (net : Topology) (plans : List Plan) (rows : List TraceRow) (kind : FindingKind) (place : ℕ) : Type 0 where
  row : TraceRow
  at : slice_get rows place ≡ Some row
  before : (k : ℕ) (r : TraceRow) → k < place → slice_get rows k ≡ Some r → IsFine net plans (take k rows) r
  finding : IsFindingOf net plans (take place rows) row kind

first_at : (net : Topology) (plans : List Plan) (rows : List TraceRow) (line : ℕ) (kind : FindingKind) (first : IsFirstFinding net plans rows line kind) → IsFirstAt net plans rows kind (length first.good)
first_at net plans rows line kind first =
    subst (λ (all : List TraceRow). IsFirstAt net plans all kind (length first.good)) (sym first.whole)
    (let w = behind_front first.good first.row first.after in
    record {
      row = first.row;
      at = w.0;
      before = λ k r lt at. (let v = in_front first.good (first.row ∷ first.after) k r lt at in subst (λ (earlier : List TraceRow). IsFine net plans earlier r) v.1 (first.before k r v.0));
      finding = subst (λ (earlier : List TraceRow). IsFindingOf net plans earlier first.row kind) (sym w.1) first.finding;
    })

module _ (net : Topology) (plans others : List Plan) (alike : RouteAlike plans others) (over : AreOver (node_count net) plans) (so : AreOver (node_count net) others) (rows : List TraceRow) (rows_over : AreRowsOver (node_count net) rows) where
  not_sound : (kind : FindingKind) (place : ℕ) → AreFine net plans rows → IsFirstAt net others rows kind place → ⊥
  not_sound kind place fine first =
      not_both net plans others alike over so first.row (rows_over place first.row first.at) (take place rows) kind (fine place first.row first.at) first.finding

  -- no row before the first finding by the ones has a finding by the others
  not_before : (kind other : FindingKind) (i j : ℕ) → IsFirstAt net plans rows kind i → IsFirstAt net others rows other j → j < i → ⊥
  not_before kind other i j first second lt =
      not_both net plans others alike over so second.row (rows_over j second.row second.at) (take j rows) other (first.before j second.row lt second.at) second.finding

  same_at : (kind other : FindingKind) (i j : ℕ) → i ≡ j → IsFirstAt net plans rows kind i → IsFirstAt net others rows other j → kind ≡ other
  same_at kind other i j place first moved =
      let second = subst (λ (k : ℕ). IsFirstAt net others rows other k) (sym place) moved in
      let row : second.row ≡ first.row = same_Some second.row first.row (sym second.at ∙ first.at) in
      same_finding net plans others alike over so first.row (rows_over i first.row first.at) (take i rows) kind other first.finding
      (subst (λ (r : TraceRow). IsFindingOf net others (take i rows) r other) row second.finding)

-- ---- checks

-- a finding but want of memory is the first by some plans
record HasPlans (net : Topology) (installs : List Install) (rows : List TraceRow) (line : ℕ) (kind : FindingKind) : Type 0 where
  plans : List Plan
  are : ArePlansOf net installs plans
  first : IsFirstFinding net plans rows line kind

has_plans : (net : Topology) (installs : List Install) (rows : List TraceRow) (line : ℕ) (kind : FindingKind) → kind ≢ NoMemory → Finds net installs rows line kind → HasPlans net installs rows line kind
has_plans net installs rows line NotTrace other h = record { plans = h.0; are = h.1; first = h.2 }
has_plans net installs rows line BadRow other h = record { plans = h.0; are = h.1; first = h.2 }
has_plans net installs rows line UnknownNode other h = record { plans = h.0; are = h.1; first = h.2 }
has_plans net installs rows line UnknownEpoch other h = record { plans = h.0; are = h.1; first = h.2 }
has_plans net installs rows line NotAPrefix other h = record { plans = h.0; are = h.1; first = h.2 }
has_plans net installs rows line NotAtDestination other h = record { plans = h.0; are = h.1; first = h.2 }
has_plans net installs rows line BadWeight other h = record { plans = h.0; are = h.1; first = h.2 }
has_plans net installs rows line Repeated other h = record { plans = h.0; are = h.1; first = h.2 }
has_plans net installs rows line NoMemory other h = absurd (other refl)

memory_or_not : (kind : FindingKind) → (kind ≡ NoMemory) ⊎ (kind ≢ NoMemory)
memory_or_not NotTrace = inr (λ e. cc e)
memory_or_not BadRow = inr (λ e. cc e)
memory_or_not UnknownNode = inr (λ e. cc e)
memory_or_not UnknownEpoch = inr (λ e. cc e)
memory_or_not NotAPrefix = inr (λ e. cc e)
memory_or_not NotAtDestination = inr (λ e. cc e)
memory_or_not BadWeight = inr (λ e. cc e)
memory_or_not Repeated = inr (λ e. cc e)
memory_or_not NoMemory = inl refl

module _ (net : Topology) (installs : List Install) (rows : List TraceRow) (rows_over : AreRowsOver (node_count net) rows) where
  unsound : (line : ℕ) (kind : FindingKind) → kind ≢ NoMemory → Finds net installs rows line kind → IsSoundTrace net installs rows → ⊥
  unsound line kind other h sound =
      let f = has_plans net installs rows line kind other h in
      not_sound net sound.plans f.plans (plans_alike net installs sound.plans f.plans sound.of_installs f.are) (over_from net installs sound.plans sound.of_installs) (over_from net installs f.plans f.are) rows rows_over kind
      (length f.first.good) sound.fine (first_at net f.plans rows line kind f.first)

  pub one_sound : IsSoundTrace net installs rows → FindsNothing net installs rows
  one_sound sound line kind h =
      elim (memory_or_not kind) [
        | inl memory ↦ memory
        | inr other ↦ absurd (unsound line kind other h sound)
      ]

  module _ (line at : ℕ) (kind found : FindingKind) (f : HasPlans net installs rows line kind) (g : HasPlans net installs rows at found) where
    mine : IsFirstAt net f.plans rows kind (length f.first.good)
    mine = first_at net f.plans rows line kind f.first

    theirs : IsFirstAt net g.plans rows found (length g.first.good)
    theirs = first_at net g.plans rows at found g.first

    there : RouteAlike f.plans g.plans
    there = plans_alike net installs f.plans g.plans f.are g.are

    back : RouteAlike g.plans f.plans
    back = plans_alike net installs g.plans f.plans g.are f.are

    place : length f.first.good ≡ length g.first.good
    place =
        elim (cases_lt (length f.first.good) (length g.first.good)) [
          | inl less ↦ absurd (not_before net g.plans f.plans back (over_from net installs g.plans g.are) (over_from net installs f.plans f.are) rows rows_over found kind (length g.first.good) (length f.first.good) theirs mine less)
          | inr le ↦
              elim (cases_lt (length g.first.good) (length f.first.good)) [
                | inl more ↦ absurd (not_before net f.plans g.plans there (over_from net installs f.plans f.are) (over_from net installs g.plans g.are) rows rows_over kind found (length f.first.good) (length g.first.good) mine theirs more)
                | inr ge ↦ omega (arith, le, ge)
              ]
        ]

    same_answer : (at ≡ line) × (found ≡ kind)
    same_answer = (
      g.first.number ∙ ap (λ (n : ℕ). n + 2) (sym place) ∙ sym f.first.number,
      sym (same_at net f.plans g.plans there (over_from net installs f.plans f.are) (over_from net installs g.plans g.are) rows rows_over kind found (length f.first.good) (length g.first.good) place mine theirs),
    )

  pub one_finding : (line : ℕ) (kind : FindingKind) → Finds net installs rows line kind → kind ≢ NoMemory → IsOnlyFinding net installs rows line kind
  one_finding line kind h other = record {
    unsound = unsound line kind other h;
    only = λ at found g apart. same_answer line at kind found (has_plans net installs rows line kind other h) (has_plans net installs rows at found apart g);
  }

  pub nothing_from : {U : Type 0} (r : Result U Finding) → IfOk r (λ _. IsSoundTrace net installs rows) → IfOk r (λ _. FindsNothing net installs rows)
  nothing_from (Ok u) sound = one_sound sound
  nothing_from (Err e) sound = tt

  pub only_from : {U : Type 0} (r : Result U Finding) → IfErr r (λ e. Finds net installs rows e.line e.kind) → IfErr r (λ e. e.kind ≢ NoMemory → IsOnlyFinding net installs rows e.line e.kind)
  only_from (Ok u) finds = tt
  only_from (Err e) finds = one_finding e.line e.kind finds

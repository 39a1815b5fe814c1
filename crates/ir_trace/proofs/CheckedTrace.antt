-- The rows of a trace that are checked so far.
use Rattle.std.proofs.Common.{◌≡◌, ◌<◌, ◌≤◌, ◌+◌, ◌-◌, ◌==◌, ◌||◌, ℕ, zero, suc, Bool, true, false, not, List, [], ◌∷◌, ◌++◌, length, take, drop, get_or, slice_get, slice_index_or, Some, None, Result, Ok, Err, IfOk, IfErr, refl, sym, ap, subst, ◌∙◌, arith, ⊎_elim}
use Rattle.std.specs.List.{list_any}
use Rattle.std.proofs.lemmas.Bool.{both_ways, or_cases, eqb-true, eq-eqb}
use Rattle.std.proofs.lemmas.List.{take_more, drop_more, length-take-le, take-append-drop}
use Rattle.std.proofs.lemmas.List.Folds.{list_any_more}
use Rattle.ir_model.specs.Topology.{Topology, node_count}
use Rattle.ir_model.specs.Plan.{Plan, IsPlan}
use Rattle.ir_model.proofs.Restrict.{node_count-restrict}
use Rattle.ir_core.specs.declared.built.Install.{Install}
use Rattle.ir_core.specs.Setting.{no_plan}
use Rattle.ir_trace.specs.declared.finding.Finding.{Finding}
use Rattle.ir_trace.specs.declared.finding.FindingKind.{FindingKind}
use Rattle.ir_trace.specs.declared.finding.FindingKind.TheVariants.{NotTrace, BadRow, UnknownNode, UnknownEpoch, NotAPrefix, NotAtDestination, BadWeight, Repeated, NoMemory}
use Rattle.ir_trace.specs.Row.{TraceRow}
use Rattle.ir_trace.specs.Checked.{plan_at, ArePlansOf, IsRowOver, AreRowsOver, HasNewId, IsFindingOf, IsFine, AreFine, IsFirstFinding, Finds}
use Rattle.ir_trace.specs.Sound.{IsSoundTrace}
use Rattle.ir_trace.proofs.CheckedSound.{sound_row}
use Rattle.ir_trace.specs.Inspect.{found_of, AreOver, FindsBy}
use Rattle.ir_trace.proofs.CheckedRows.{IsFound, found, shortest, within_stretch}

-- ---- ids

any_there : (test : TraceRow → Bool) (rows : List TraceRow) → list_any test rows ≡ true → (i : ℕ) × (r : TraceRow) × (slice_get rows i ≡ Some r) × (test r ≡ true)
any_there test [] h = absurd (cc h)
any_there test (r ∷ rows) h =
    ⊎_elim (λ (here : test r ≡ true). (0, r, refl, here))
    (λ (later : list_any test rows ≡ true). (let found = any_there test rows later in (suc found.0, found.1, found.2, found.3)))
    (or_cases (test r) (list_any test rows) h)

there_any : (test : TraceRow → Bool) (rows : List TraceRow) (i : ℕ) (r : TraceRow) → slice_get rows i ≡ Some r → test r ≡ true → list_any test rows ≡ true
there_any test [] i r at h = absurd (cc at)
there_any test (x ∷ rows) zero r at h = let same : x ≡ r = cc at in rw (ap test same ∙ h) refl
there_any test (x ∷ rows) (suc i) r at h = by (test x) (there_any test rows i r at h)
  where
    by : (b : Bool) → list_any test rows ≡ true → (b || list_any test rows) ≡ true
    by true e = refl
    by false e = e

-- an earlier row has the id
abbrev pub is_there : List TraceRow → ℕ → Bool
is_there rows q = list_any (λ r. r.id == q) rows

not_new : (earlier : List TraceRow) (row : TraceRow) → is_there earlier row.id ≡ true → HasNewId earlier row → ⊥
not_new earlier row h new = let r = any_there (λ r. r.id == row.id) earlier h in new r.0 r.1 r.2 (eqb-true r.1.id row.id r.3)

is_new : (earlier : List TraceRow) (row : TraceRow) → is_there earlier row.id ≡ false → HasNewId earlier row
is_new earlier row h i r at same = both_ways (is_there earlier row.id) h (there_any (λ r. r.id == row.id) earlier i r at (eq-eqb r.id row.id same))

-- ---- fine rows

get_push : (rows : List TraceRow) (row : TraceRow) (k : ℕ) (r : TraceRow) → slice_get (rows ++ row ∷ []) k ≡ Some r → (P : List TraceRow → TraceRow → Type 0) → P rows row → (slice_get rows k ≡ Some r → P (take k rows) r) → P (take k (rows ++ row ∷ [])) r
get_push [] row zero r at P new old = let same : row ≡ r = cc at in subst (P []) same new
get_push [] row (suc k) r at P new old = absurd (cc at)
get_push (x ∷ rows) row zero r at P new old = old at
get_push (x ∷ rows) row (suc k) r at P new old = get_push rows row k r at (λ earlier q. P (x ∷ earlier) q) new old

module _ (net : Topology) (plans : List Plan) where
  fine_push : (rows : List TraceRow) (row : TraceRow) → AreFine net plans rows → IsFine net plans rows row → AreFine net plans (rows ++ row ∷ [])
  fine_push rows row are is k r at = get_push rows row k r at (λ earlier q. IsFine net plans earlier q) is (λ old. are k r old)

  module _ (rows : List TraceRow) (i : ℕ) (row : TraceRow) (lt : i < length rows) (at : row ≡ get_or rows i row) where
    more : take (i + 1) rows ≡ take i rows ++ row ∷ []
    more = take_more rows i row lt ∙ ap (λ (r : TraceRow). take i rows ++ r ∷ []) (sym at)

    whole : rows ≡ take i rows ++ row ∷ drop (i + 1) rows
    whole = sym (take-append-drop i rows) ∙ ap (λ (rs : List TraceRow). take i rows ++ rs) (drop_more rows i row lt ∙ ap (λ (r : TraceRow). r ∷ drop (i + 1) rows) (sym at))

    module _ (fine : AreFine net plans (take i rows)) where
      first : (kind : FindingKind) → IsFindingOf net plans (take i rows) row kind → IsFirstFinding net plans rows (i + 2) kind
      first kind finding = record { good = take i rows; row = row; after = drop (i + 1) rows; whole = whole; before = fine; number = (let e : length (take i rows) ≡ i = length-take-le i rows (omega arith) in omega arith); finding = finding }

      told : (kind : FindingKind) → IsFindingOf net plans (take i rows) row kind → FindsBy net plans rows (i + 2) kind
      told NotTrace h = absurd h
      told BadRow h = absurd h
      told UnknownNode h = absurd h
      told UnknownEpoch h = first UnknownEpoch h
      told NotAPrefix h = first NotAPrefix h
      told NotAtDestination h = first NotAtDestination h
      told BadWeight h = first BadWeight h
      told Repeated h = first Repeated h
      told NoMemory h = absurd h

      alone : (kind : FindingKind) → IsFound net plans row (Some kind) → IsFindingOf net plans (take i rows) row kind
      alone NotTrace h = absurd h
      alone BadRow h = absurd h
      alone UnknownNode h = absurd h
      alone UnknownEpoch h = h
      alone NotAPrefix h = h
      alone NotAtDestination h = h
      alone BadWeight h = h
      alone Repeated h = absurd h
      alone NoMemory h = absurd h

      module _ (over : AreOver (node_count net) plans) (is : IsRowOver (node_count net) row) where
        -- something is found of the row alone
        pub row_told : (kind : FindingKind) → Some kind ≡ found_of net plans row → FindsBy net plans rows (i + 2) kind
        row_told kind e = told kind (alone kind (subst (IsFound net plans row) (sym e) (found net plans row over is)))

        module _ (none : None ≡ found_of net plans row) where
          nothing : IsFound net plans row None
          nothing = subst (IsFound net plans row) (sym none) (found net plans row over is)

          pub id_told : is_there (take i rows) row.id ≡ true → FindsBy net plans rows (i + 2) Repeated
          id_told there = first Repeated (nothing.0, nothing.1, nothing.2, nothing.3, not_new (take i rows) row there)

          pub fine_more : is_there (take i rows) row.id ≡ false → AreFine net plans (take (i + 1) rows)
          fine_more new = subst (AreFine net plans) (sym more) (fine_push (take i rows) row fine (record { epochs = nothing.0; walks = nothing.1; arrived = nothing.2; weight = nothing.3; new = is_new (take i rows) row new }))

-- ---- the set of the ids

pub was_there : (added had : Bool) → added ≡ not had → added ≡ false → had ≡ true
was_there true had e f = absurd (cc f)
was_there false true e f = refl
was_there false false e f = absurd (cc e)

pub was_not_there : (added had : Bool) → added ≡ not had → added ≡ true → had ≡ false
was_not_there false had e f = absurd (cc f)
was_not_there true true e f = absurd (cc e)
was_not_there true false e f = refl

pub there_more : (rows : List TraceRow) (i : ℕ) (row : TraceRow) (q : ℕ) → i < length rows → row ≡ get_or rows i row → is_there (take (i + 1) rows) q ≡ (is_there (take i rows) q || (row.id == q))
there_more rows i row q lt at = list_any_more (λ (r : TraceRow). r.id == q) rows i row lt ∙ ap (λ (r : TraceRow). is_there (take i rows) q || (r.id == q)) (sym at)

-- ---- the plans of the epochs

minus_one : (e : ℕ) → suc e - 1 ≡ e
minus_one e = omega arith

within_behind : (e n : ℕ) → suc (suc e) ≤ suc n → suc e ≤ n
within_behind e n le = omega arith

some_behind : (e : ℕ) → 0 < suc e
some_behind e = omega arith

-- after the first plan
plan_behind : (t : Plan) (plans : List Plan) (e : ℕ) → plan_at plans (suc e) ≡ plan_at (t ∷ plans) (suc (suc e))
plan_behind t plans e = ap (λ (k : ℕ). slice_index_or plans k no_plan) (minus_one e) ∙ ap (λ (k : ℕ). slice_index_or (t ∷ plans) k no_plan) (sym (minus_one (suc e)))

none_above : (A : Type 0) → 0 < 0 → A
none_above A above = absurd (omega arith)

none_within : (A : Type 0) (e : ℕ) → suc e ≤ 0 → A
none_within A e le = absurd (omega arith)

pub over_from : (net : Topology) (installs : List Install) (plans : List Plan) → ArePlansOf net installs plans → AreOver (node_count net) plans
over_from net installs plans are zero above le = none_above _ above
over_from net [] [] are (suc e) above le = none_within _ e le
over_from net [] (t ∷ plans) are (suc e) above le = absurd are
over_from net (i ∷ installs) [] are (suc e) above le = absurd are
over_from net (i ∷ installs) (t ∷ plans) are (suc zero) above le =
    (are.0.valid, ap (λ (n : Topology). node_count n) are.0.over ∙ node_count-restrict i.up.items net)
over_from net (i ∷ installs) (t ∷ plans) are (suc (suc e)) above le =
    subst (λ (p : Plan). IsPlan p × (node_count p.topology ≡ node_count net)) (plan_behind t plans e) (over_from net installs plans are.1 (suc e) (some_behind e) (within_behind e (length plans) le))

-- the links of each are those of the network
links_from : (net : Topology) (installs : List Install) (plans : List Plan) → ArePlansOf net installs plans → (e : ℕ) → 0 < e → e ≤ length plans → (plan_at plans e).topology.links ≡ net.links
links_from net installs plans are zero above le = none_above _ above
links_from net [] [] are (suc e) above le = none_within _ e le
links_from net [] (t ∷ plans) are (suc e) above le = absurd are
links_from net (i ∷ installs) [] are (suc e) above le = absurd are
links_from net (i ∷ installs) (t ∷ plans) are (suc zero) above le = ap (λ (n : Topology). n.links) are.0.over
links_from net (i ∷ installs) (t ∷ plans) are (suc (suc e)) above le =
    subst (λ (p : Plan). p.topology.links ≡ net.links) (plan_behind t plans e) (links_from net installs plans are.1 (suc e) (some_behind e) (within_behind e (length plans) le))

module _ (net : Topology) (installs : List Install) (plans : List Plan) (are : ArePlansOf net installs plans) (rows : List TraceRow) where
  pub sound_from : {U : Type 0} (r : Result U Finding) → AreRowsOver (node_count net) rows → IfOk r (λ _. AreFine net plans rows) → IfOk r (λ _. IsSoundTrace net installs rows)
  sound_from (Ok u) over fine = record {
    plans = plans;
    of_installs = are;
    fine = fine;
    sound = λ k row at. (let is : IsFine net plans (take k rows) row = fine k row at in sound_row net plans row (over_from net installs plans are) (links_from net installs plans are) (over k row at) is.epochs is.walks is.arrived);
    shortest = λ k row at. (let is : IsFine net plans (take k rows) row = fine k row at in shortest net plans row (over_from net installs plans are) (over k row at) is.epochs is.arrived);
    within = λ k row at. (let is : IsFine net plans (take k rows) row = fine k row at in within_stretch net plans row (over_from net installs plans are) (over k row at) is.epochs is.arrived);
  }
  sound_from (Err e) over fine = tt

  finds : (line : ℕ) (kind : FindingKind) → FindsBy net plans rows line kind → Finds net installs rows line kind
  finds line NotTrace h = (plans, are, h)
  finds line BadRow h = (plans, are, h)
  finds line UnknownNode h = (plans, are, h)
  finds line UnknownEpoch h = (plans, are, h)
  finds line NotAPrefix h = (plans, are, h)
  finds line NotAtDestination h = (plans, are, h)
  finds line BadWeight h = (plans, are, h)
  finds line Repeated h = (plans, are, h)
  finds line NoMemory h = h

  pub finding_from : {U : Type 0} (r : Result U Finding) → IfErr r (λ e. FindsBy net plans rows e.line e.kind) → IfErr r (λ e. Finds net installs rows e.line e.kind)
  finding_from (Ok u) h = tt
  finding_from (Err e) h = finds e.line e.kind h

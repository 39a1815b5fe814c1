-- What is found of a row alone: the causes of its drop.
use Rattle.std.proofs.Common.{◌≡◌, ◌<◌, ◌≤◌, ◌-◌, ◌==◌, ◌&&◌, ◌||◌, ◌⊎◌, ℕ, zero, suc, Bool, true, false, List, [], ◌∷◌, length, count_by, nat_le, nat_lt, slice_get, Option, Some, None, refl, sym, ap, subst, ◌∙◌, arith, inl, inr}
use Rattle.std.specs.Option.{option_map_or}
use Rattle.std.specs.List.{list_all, list_any}
use Rattle.std.proofs.lemmas.Bool.{and_parts, and_from, both_ways, eqb-true, eq-eqb, ltb-true, lt-ltb, leb-true, le-leb, or_cases}
use Rattle.std.proofs.lemmas.Option.{none-some, same_Some}
use Rattle.ir_model.specs.declared.Link.{Link}
use Rattle.ir_model.specs.Topology.{Topology}
use Rattle.ir_core.specs.declared.event.Event.TheVariants as event
use Rattle.ir_core.specs.declared.event.Step.{Step}
use Rattle.ir_core.specs.declared.event.Step.TheVariants as step
use Rattle.ir_trace.specs.declared.row.RowFate.{RowFate}
use Rattle.ir_trace.specs.declared.row.RowFate.TheVariants.{Delivered, Retired, Down, Full, Left}
use Rattle.ir_trace.specs.Row.{Segment, TraceRow}
use Rattle.ir_trace.specs.Checked.{is_part_over, last_part, IsRowOver, AreRowsOver}
use Rattle.ir_trace.proofs.CheckedRows.{Tells}
use Rattle.ir_whole.specs.declared.finding.WholeKind.{WholeKind}
use Rattle.ir_whole.specs.declared.finding.WholeKind.TheVariants.{NeverInjected, NotYetInstalled, NeverDown, NeverRetired, NeverFull, NoMemory}
use Rattle.ir_whole.specs.declared.injecting.Inject.{Inject}
use Rattle.ir_whole.specs.Injects.{HasEnds, IsStampedAt, first_epoch}
use Rattle.ir_whole.specs.Causes.{IsTakenDown, IsRetired, may_pass, HasHops, HaveHops}
use Rattle.ir_whole.specs.Whole.{GivenRun, WasInjected, WasInstalled, HasDownCause, HasRetireCause, HasFullCause, IsAccountedFor, IsWholeFinding}
use Rattle.ir_whole.specs.Judged.{ends_wanted, stamp_wanted, fits, is_between, takes_down, retires_above, none_if, cause_by, cause_of, first_of_three}

-- ---- what a row wants of its inject

pub ends_fit : (row : TraceRow) (inject : Inject) → HasEnds row inject → fits (ends_wanted row) inject ≡ true
ends_fit row inject has = and_from _ _ (eq-eqb row.source inject.source has.0) (and_from _ _ (eq-eqb row.dest inject.dest has.1) (le-leb 0 inject.epochs (omega arith)))

pub fit_ends : (row : TraceRow) (inject : Inject) → fits (ends_wanted row) inject ≡ true → HasEnds row inject
fit_ends row inject h =
    let first = and_parts (row.source == inject.source) ((row.dest == inject.dest) && nat_le 0 inject.epochs) h in
    let second = and_parts (row.dest == inject.dest) (nat_le 0 inject.epochs) first.1 in
    (eqb-true row.source inject.source first.0, eqb-true row.dest inject.dest second.0)

pub stamp_fits : (row : TraceRow) (inject : Inject) → IsStampedAt row inject → fits (stamp_wanted row) inject ≡ true
stamp_fits row inject has = and_from _ _ (eq-eqb row.source inject.source has.0) (and_from _ _ (eq-eqb row.dest inject.dest has.1) (le-leb (first_epoch row) inject.epochs has.2))

pub fit_stamp : (row : TraceRow) (inject : Inject) → fits (stamp_wanted row) inject ≡ true → IsStampedAt row inject
fit_stamp row inject h =
    let first = and_parts (row.source == inject.source) ((row.dest == inject.dest) && nat_le (first_epoch row) inject.epochs) h in
    let second = and_parts (row.dest == inject.dest) (nat_le (first_epoch row) inject.epochs) first.1 in
    (eqb-true row.source inject.source first.0, eqb-true row.dest inject.dest second.0, leb-true (first_epoch row) inject.epochs second.1)

-- ---- lines of the script

any_step : (test : Step → Bool) (steps : List Step) → list_any test steps ≡ true → (k : ℕ) × (s : Step) × (slice_get steps k ≡ Some s) × (test s ≡ true)
any_step test [] h = absurd (cc h)
any_step test (s ∷ steps) h = chosen (or_cases (test s) (list_any test steps) h) (any_step test steps)
  where
    chosen : (test s ≡ true) ⊎ (list_any test steps ≡ true) → (list_any test steps ≡ true → (k : ℕ) × (r : Step) × (slice_get steps k ≡ Some r) × (test r ≡ true))
        → (k : ℕ) × (r : Step) × (slice_get (s ∷ steps) k ≡ Some r) × (test r ≡ true)
    chosen (inl here) further = (0, s, refl, here)
    chosen (inr later) further = let found = further later in (suc found.0, found.1, found.2, found.3)

step_any : (test : Step → Bool) (steps : List Step) (k : ℕ) (s : Step) → slice_get steps k ≡ Some s → test s ≡ true → list_any test steps ≡ true
step_any test [] k s at h = absurd (none-some s at)
step_any test (x ∷ steps) zero s at h = here (test x) (ap test (same_Some x s at) ∙ h)
  where
    here : (b : Bool) → b ≡ true → (b || list_any test steps) ≡ true
    here true e = refl
    here false e = absurd (cc e)
step_any test (x ∷ steps) (suc k) s at h = there (test x) (step_any test steps k s at h)
  where
    there : (b : Bool) → list_any test steps ≡ true → (b || list_any test steps) ≡ true
    there true e = refl
    there false e = e

-- a test of a link that is found at a place
module _ (low high : ℕ) where
  abbrev named_so : Option Link → Bool
  named_so found = option_map_or (λ link. (link.low == low) && (link.high == high)) found false

  found_so : (found : Option Link) → named_so found ≡ true → (link : Link) × (found ≡ Some link) × (link.low ≡ low) × (link.high ≡ high)
  found_so None h = absurd (cc h)
  found_so (Some link) h = let both = and_parts (link.low == low) (link.high == high) h in (link, refl, eqb-true link.low low both.0, eqb-true link.high high both.1)

  so_found : (link : Link) → link.low ≡ low → link.high ≡ high → named_so (Some link) ≡ true
  so_found link l h = and_from (link.low == low) (link.high == high) (eq-eqb link.low low l) (eq-eqb link.high high h)

down_line : (topology : Topology) (low high : ℕ) (s : Step) → takes_down topology low high s ≡ true → (l : ℕ) × (s ≡ step.Event (event.Down l)) × (is_between topology l low high ≡ true)
down_line topology low high (step.Event (event.Down l)) h = (l, refl, h)
down_line topology low high _ h = absurd (cc h)

retire_line : (epoch : ℕ) (s : Step) → retires_above epoch s ≡ true → (floor : ℕ) × (s ≡ step.Event (event.Retire floor)) × (epoch < floor)
retire_line epoch (step.Event (event.Retire floor)) h = (floor, refl, ltb-true epoch floor h)
retire_line epoch _ h = absurd (cc h)

down_tells : (topology : Topology) (steps : List Step) (low high : ℕ) → Tells (list_any (takes_down topology low high) steps) (IsTakenDown topology steps low high)
down_tells topology steps low high = record {
  yes = λ h.
      (let found = any_step (takes_down topology low high) steps h in
      let is = down_line topology low high found.1 found.3 in
      let link = found_so low high (slice_get topology.links is.0) is.2 in
      (found.0, is.0, link.0, found.2 ∙ ap Some is.1, link.1, link.2, link.3));
  back = λ is.
      step_any (takes_down topology low high) steps is.0 (step.Event (event.Down is.1)) is.3
      (ap (named_so low high) is.4 ∙ so_found low high is.2 is.5 is.6);
}

retire_tells : (steps : List Step) (epoch : ℕ) → Tells (list_any (retires_above epoch) steps) (IsRetired steps epoch)
retire_tells steps epoch = record {
  yes = λ h.
      (let found = any_step (retires_above epoch) steps h in
      let is = retire_line epoch found.1 found.3 in
      (found.0, is.0, found.2 ∙ ap Some is.1, is.2));
  back = λ is. step_any (retires_above epoch) steps is.0 (step.Event (event.Retire is.1)) is.2 (lt-ltb epoch is.1 is.3);
}

full_tells : (capacity count : ℕ) → Tells (nat_le capacity count) (capacity ≤ count)
full_tells capacity count = record { yes = leb-true capacity count; back = le-leb capacity count }

-- ---- causes

-- what is found of the causes
abbrev pub IsCause : GivenRun → List TraceRow → TraceRow → Option WholeKind → Type 0
IsCause run rows row None = HasDownCause run row × HasRetireCause run row × HasFullCause run rows row
IsCause run rows row (Some NeverInjected) = ⊥
IsCause run rows row (Some NotYetInstalled) = ⊥
IsCause run rows row (Some NeverDown) = HasDownCause run row → ⊥
IsCause run rows row (Some NeverRetired) = HasDownCause run row × (HasRetireCause run row → ⊥)
IsCause run rows row (Some NeverFull) = HasDownCause run row × HasRetireCause run row × (HasFullCause run rows row → ⊥)
IsCause run rows row (Some NoMemory) = ⊥

module _ (run : GivenRun) (rows : List TraceRow) (row : TraceRow) where
  other_down : (fate : RowFate) → row.fate ≡ fate → ((low high : ℕ) → fate ≡ Down low high → ⊥) → HasDownCause run row
  other_down fate e apart low high d = absurd (apart low high (sym e ∙ d))

  other_retired : (fate : RowFate) → row.fate ≡ fate → (fate ≡ Retired → ⊥) → HasRetireCause run row
  other_retired fate e apart d = absurd (apart (sym e ∙ d))

  other_full : (fate : RowFate) → row.fate ≡ fate → ((from to : ℕ) → fate ≡ Full from to → ⊥) → HasFullCause run rows row
  other_full fate e apart from to d = absurd (apart from to (sym e ∙ d))

  settled : (fate : RowFate) → row.fate ≡ fate → ((low high : ℕ) → fate ≡ Down low high → ⊥) → (fate ≡ Retired → ⊥) → ((from to : ℕ) → fate ≡ Full from to → ⊥) → IsCause run rows row None
  settled fate e d r f = (other_down fate e d, other_retired fate e r, other_full fate e f)

  retired : row.fate ≡ Retired → (b : Bool) → Tells b (IsRetired run.steps (last_part row.parts).epoch) → IsCause run rows row (none_if b NeverRetired)
  retired e true t = (other_down Retired e (λ low high d. absurd (cc d)), (λ d. t.yes refl), other_full Retired e (λ from to d. absurd (cc d)))
  retired e false t = (other_down Retired e (λ low high d. absurd (cc d)), λ has. both_ways false refl (t.back (has e)))

  down : (low high : ℕ) → row.fate ≡ Down low high → (b : Bool) → Tells b (IsTakenDown run.topology run.steps low high) → IsCause run rows row (none_if b NeverDown)
  down low high e true t = (
    (λ x y d. (let same : Down low high ≡ Down x y = sym e ∙ d in let l : low ≡ x = cc same in let h : high ≡ y = cc same in
        subst (IsTakenDown run.topology run.steps x) h (subst (λ (u : ℕ). IsTakenDown run.topology run.steps u high) l (t.yes refl)))),
    other_retired (Down low high) e (λ d. absurd (cc d)),
    other_full (Down low high) e (λ from to d. absurd (cc d)),
  )
  down low high e false t = λ has. both_ways false refl (t.back (has low high e))

  full : (from to : ℕ) → row.fate ≡ Full from to → (b : Bool) → Tells b (run.capacity ≤ count_by (may_pass from to) rows) → IsCause run rows row (none_if b NeverFull)
  full from to e true t = (
    other_down (Full from to) e (λ low high d. absurd (cc d)),
    other_retired (Full from to) e (λ d. absurd (cc d)),
    (λ x y d. (let same : Full from to ≡ Full x y = sym e ∙ d in let l : from ≡ x = cc same in let h : to ≡ y = cc same in
        subst (λ (v : ℕ). run.capacity ≤ count_by (may_pass x v) rows) h (subst (λ (u : ℕ). run.capacity ≤ count_by (may_pass u to) rows) l (t.yes refl)))),
  )
  full from to e false t = (
    other_down (Full from to) e (λ low high d. absurd (cc d)),
    other_retired (Full from to) e (λ d. absurd (cc d)),
    λ has. both_ways false refl (t.back (has from to e)),
  )

  by_fate : (fate : RowFate) → row.fate ≡ fate → IsCause run rows row (cause_by run.topology run.steps run.capacity rows (last_part row.parts).epoch fate)
  by_fate Delivered e = settled Delivered e (λ low high d. absurd (cc d)) (λ d. absurd (cc d)) (λ from to d. absurd (cc d))
  by_fate Retired e = retired e (list_any (retires_above (last_part row.parts).epoch) run.steps) (retire_tells run.steps (last_part row.parts).epoch)
  by_fate (Down low high) e = down low high e (list_any (takes_down run.topology low high) run.steps) (down_tells run.topology run.steps low high)
  by_fate (Full from to) e = full from to e (nat_le run.capacity (count_by (may_pass from to) rows)) (full_tells run.capacity (count_by (may_pass from to) rows))
  by_fate Left e = settled Left e (λ low high d. absurd (cc d)) (λ d. absurd (cc d)) (λ from to d. absurd (cc d))

  pub cause_found : IsCause run rows row (cause_of run.topology run.steps run.capacity rows row)
  cause_found = by_fate row.fate refl

  -- ---- all that is found of a row
  module _ (earlier : List TraceRow) where
    abbrev pub IsFound : Option WholeKind → Type 0
    IsFound None = IsAccountedFor run rows earlier row
    IsFound (Some kind) = IsWholeFinding run rows earlier row kind

    alone : WasInjected run earlier row → WasInstalled run earlier row → (cause : Option WholeKind) → IsCause run rows row cause → IsFound cause
    alone injected installed None is = record { injected = injected; installed = installed; down = is.0; retired = is.1; full = is.2 }
    alone injected installed (Some NeverInjected) is = absurd is
    alone injected installed (Some NotYetInstalled) is = absurd is
    alone injected installed (Some NeverDown) is = (injected, installed, is)
    alone injected installed (Some NeverRetired) is = (injected, installed, is.0, is.1)
    alone injected installed (Some NeverFull) is = (injected, installed, is.0, is.1, is.2)
    alone injected installed (Some NoMemory) is = absurd is

    pub found_first : (injected installed : Bool) (cause : Option WholeKind) → Tells injected (WasInjected run earlier row) → Tells installed (WasInstalled run earlier row) → IsCause run rows row cause
        → IsFound (first_of_three injected installed cause)
    found_first false installed cause i s is = λ has. both_ways false refl (i.back has)
    found_first true false cause i s is = (i.yes refl, λ has. both_ways false refl (s.back has))
    found_first true true cause i s is = alone (i.yes refl) (s.yes refl) cause is

-- ---- hops

last_part_at : (test : Segment → Bool) (parts : List Segment) → 0 < length parts → list_all test parts ≡ true → test (last_part parts) ≡ true
last_part_at test [] some h = absurd (omega arith)
last_part_at test (p ∷ []) some h = (and_parts (test p) true h).0
last_part_at test (p ∷ q ∷ parts) some h =
    let step : suc (suc (length parts)) - 1 ≡ suc (suc (length parts) - 1) = omega arith in
    rw step (last_part_at test (q ∷ parts) (omega arith) (and_parts (test p) (list_all test (q ∷ parts)) h).1)

has_hops : (nodes : ℕ) (row : TraceRow) → IsRowOver nodes row → HasHops row
has_hops nodes row is =
    let last = last_part_at (is_part_over nodes) row.parts is.some is.parts in
    (is.some, ltb-true 0 (length (last_part row.parts).hops) (and_parts (nat_lt 0 (length (last_part row.parts).hops)) (list_all (λ u. nat_lt u nodes) (last_part row.parts).hops) last).0)

pub have_hops : (nodes : ℕ) (rows : List TraceRow) → AreRowsOver nodes rows → HaveHops rows
have_hops nodes rows over i row at = has_hops nodes row (over i row at)

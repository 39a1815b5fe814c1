-- Beside its script a trace has one first finding, or none.
use Rattle.std.proofs.Common.{◌≡◌, ◌≢◌, ◌<◌, ◌+◌, ℕ, List, take, slice_get, Some, refl, sym, ap, subst, ◌∙◌, arith, inl, inr}
use Rattle.std.proofs.lemmas.Bool.{cases_lt}
use Rattle.std.proofs.lemmas.Option.{same_Some}
use Rattle.ir_trace.specs.Row.{TraceRow}
use Rattle.ir_whole.specs.declared.finding.WholeKind.{WholeKind}
use Rattle.ir_whole.specs.declared.finding.WholeKind.TheVariants.{NeverInjected, NotYetInstalled, NeverDown, NeverRetired, NeverFull, NoMemory}
use Rattle.ir_whole.specs.Whole.{GivenRun, IsAccountedFor, AreWhole, IsWholeFinding, IsFirstWholeFinding, FindsWhole}

module _ (run : GivenRun) (rows earlier : List TraceRow) (row : TraceRow) where
  -- a row that is accounted for has no finding
  accounted_found : (kind : WholeKind) → IsAccountedFor run rows earlier row → IsWholeFinding run rows earlier row kind → ⊥
  accounted_found NeverInjected is found = found is.injected
  accounted_found NotYetInstalled is found = found.1 is.installed
  accounted_found NeverDown is found = found.2 is.down
  accounted_found NeverRetired is found = found.3 is.retired
  accounted_found NeverFull is found = found.4 is.full
  accounted_found NoMemory is found = found

  -- a row has one finding
  kinds_same : (kind other : WholeKind) → IsWholeFinding run rows earlier row kind → IsWholeFinding run rows earlier row other → kind ≡ other
  kinds_same NeverInjected NeverInjected a b = refl
  kinds_same NeverInjected NotYetInstalled a b = absurd (a b.0)
  kinds_same NeverInjected NeverDown a b = absurd (a b.0)
  kinds_same NeverInjected NeverRetired a b = absurd (a b.0)
  kinds_same NeverInjected NeverFull a b = absurd (a b.0)
  kinds_same NeverInjected NoMemory a b = absurd b
  kinds_same NotYetInstalled NeverInjected a b = absurd (b a.0)
  kinds_same NotYetInstalled NotYetInstalled a b = refl
  kinds_same NotYetInstalled NeverDown a b = absurd (a.1 b.1)
  kinds_same NotYetInstalled NeverRetired a b = absurd (a.1 b.1)
  kinds_same NotYetInstalled NeverFull a b = absurd (a.1 b.1)
  kinds_same NotYetInstalled NoMemory a b = absurd b
  kinds_same NeverDown NeverInjected a b = absurd (b a.0)
  kinds_same NeverDown NotYetInstalled a b = absurd (b.1 a.1)
  kinds_same NeverDown NeverDown a b = refl
  kinds_same NeverDown NeverRetired a b = absurd (a.2 b.2)
  kinds_same NeverDown NeverFull a b = absurd (a.2 b.2)
  kinds_same NeverDown NoMemory a b = absurd b
  kinds_same NeverRetired NeverInjected a b = absurd (b a.0)
  kinds_same NeverRetired NotYetInstalled a b = absurd (b.1 a.1)
  kinds_same NeverRetired NeverDown a b = absurd (b.2 a.2)
  kinds_same NeverRetired NeverRetired a b = refl
  kinds_same NeverRetired NeverFull a b = absurd (a.3 b.3)
  kinds_same NeverRetired NoMemory a b = absurd b
  kinds_same NeverFull NeverInjected a b = absurd (b a.0)
  kinds_same NeverFull NotYetInstalled a b = absurd (b.1 a.1)
  kinds_same NeverFull NeverDown a b = absurd (b.2 a.2)
  kinds_same NeverFull NeverRetired a b = absurd (b.3 a.3)
  kinds_same NeverFull NeverFull a b = refl
  kinds_same NeverFull NoMemory a b = absurd b
  kinds_same NoMemory other a b = absurd a

-- what is found is a first finding, unless memory is wanted
first_of : (run : GivenRun) (rows : List TraceRow) (line : ℕ) (kind : WholeKind) → kind ≢ NoMemory → FindsWhole run rows line kind → IsFirstWholeFinding run rows line kind
first_of run rows line NeverInjected memory found = found
first_of run rows line NotYetInstalled memory found = found
first_of run rows line NeverDown memory found = found
first_of run rows line NeverRetired memory found = found
first_of run rows line NeverFull memory found = found
first_of run rows line NoMemory memory found = absurd (memory refl)

module _ (run : GivenRun) (rows : List TraceRow) where
  -- rows that a run can have had have none
  pub whole_found : (line : ℕ) (kind : WholeKind) → kind ≢ NoMemory → AreWhole run rows → FindsWhole run rows line kind → ⊥
  whole_found line kind memory whole found =
      let f = first_of run rows line kind memory found in
      accounted_found run rows (take f.place rows) f.row kind (whole f.place f.row f.row_is) f.finding

  -- no first finding is before another
  not_before : (line number : ℕ) (kind other : WholeKind) → (f : IsFirstWholeFinding run rows line kind) → (g : IsFirstWholeFinding run rows number other) → f.place < g.place → ⊥
  not_before line number kind other f g lt =
      accounted_found run rows (take f.place rows) f.row kind (g.before f.place f.row lt f.row_is) f.finding

  places_same : (line number : ℕ) (kind other : WholeKind) → (f : IsFirstWholeFinding run rows line kind) → (g : IsFirstWholeFinding run rows number other) → f.place ≡ g.place
  places_same line number kind other f g =
      elim (cases_lt f.place g.place) [
        | inl lt ↦ absurd (not_before line number kind other f g lt)
        | inr ge ↦
            elim (cases_lt g.place f.place) [
              | inl lt ↦ absurd (not_before number line other kind g f lt)
              | inr le ↦ omega (arith, ge, le)
            ]
      ]

  -- there is one first finding
  pub first_same : (line number : ℕ) (kind other : WholeKind) → kind ≢ NoMemory → other ≢ NoMemory → FindsWhole run rows line kind → FindsWhole run rows number other
      → (line ≡ number) × (kind ≡ other)
  first_same line number kind other memory too a b =
      let f = first_of run rows line kind memory a in
      let g = first_of run rows number other too b in
      let places = places_same line number kind other f g in
      let here : slice_get rows f.place ≡ Some g.row = ap (λ (k : ℕ). slice_get rows k) places ∙ g.row_is in
      let row : g.row ≡ f.row = same_Some g.row f.row (sym here ∙ f.row_is) in
      let there : IsWholeFinding run rows (take f.place rows) g.row other = subst (λ (k : ℕ). IsWholeFinding run rows (take k rows) g.row other) (sym places) g.finding in
      let same : IsWholeFinding run rows (take f.place rows) f.row other = subst (λ (r : TraceRow). IsWholeFinding run rows (take f.place rows) r other) row there in
      (f.number ∙ ap (λ (k : ℕ). k + 2) places ∙ sym g.number, kinds_same run rows (take f.place rows) f.row kind other f.finding same)

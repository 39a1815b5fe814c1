-- The rows that are checked so far, and one more.
use Rattle.std.proofs.Common.{◌≡◌, ◌<◌, ◌≤◌, ◌+◌, ◌⊎◌, ℕ, true, List, [], ◌∷◌, ◌++◌, take, max, set, slice_get, Option, Some, None, refl, sym, ap, subst, ◌∙◌, arith, inl, inr}
use Rattle.std.proofs.lemmas.Bool.{cases_lt}
use Rattle.std.proofs.lemmas.List.{take_more}
use Rattle.std.proofs.lemmas.Option.{same_Some, slice_get_within, get_or_from_slice_get}
use Rattle.ir_trace.specs.Row.{TraceRow}
use Rattle.ir_trace.proofs.CheckedRows.{Tells}
use Rattle.ir_whole.specs.declared.finding.WholeKind.{WholeKind}
use Rattle.ir_whole.specs.declared.finding.WholeKind.TheVariants.{NeverInjected, NotYetInstalled, NeverDown, NeverRetired, NeverFull, NoMemory}
use Rattle.ir_whole.specs.declared.injecting.Inject.{Inject}
use Rattle.ir_whole.specs.declared.injecting.Wanted.{Wanted}
use Rattle.ir_whole.specs.Injects.{inject_lines, HasEnds, IsStampedAt, AreAccepted}
use Rattle.ir_whole.specs.Whole.{GivenRun, HaveOwnIds, IsAccountedFor, IsWholeFinding, IsFirstWholeFinding, FindsWhole}
use Rattle.ir_whole.specs.Judged.{ends_wanted, stamp_wanted, fits, are_placed, cause_of, first_of_three}
use Rattle.ir_whole.proofs.Numbered.{IsTable, table_more, accepted_if, placed_if, not_numbered}
use Rattle.ir_whole.proofs.Judging.{ends_fit, fit_ends, stamp_fits, fit_stamp, cause_found, IsFound, found_first}

module _ (run : GivenRun) (rows : List TraceRow) (place : ℕ) (row : TraceRow) (at : slice_get rows place ≡ Some row) (ids : HaveOwnIds rows)
    (before : (k : ℕ) (other : TraceRow) → k < place → slice_get rows k ≡ Some other → IsAccountedFor run rows (take k rows) other) where
  one_more : take (place + 1) rows ≡ take place rows ++ row ∷ []
  one_more = take_more rows place row (slice_get_within rows place row at) ∙ ap (λ (r : TraceRow). take place rows ++ r ∷ []) (get_or_from_slice_get rows place row row at)

  first_found : (kind : WholeKind) → IsWholeFinding run rows (take place rows) row kind → IsFirstWholeFinding run rows (place + 2) kind
  first_found kind finding = record { place = place; row = row; row_is = at; before = before; number = refl; finding = finding }

  told : (kind : WholeKind) → IsWholeFinding run rows (take place rows) row kind → FindsWhole run rows (place + 2) kind
  told NeverInjected h = first_found NeverInjected h
  told NotYetInstalled h = first_found NotYetInstalled h
  told NeverDown h = first_found NeverDown h
  told NeverRetired h = first_found NeverRetired h
  told NeverFull h = first_found NeverFull h
  told NoMemory h = absurd h

  -- what is reported of the row
  told_as : (kind : WholeKind) → IsWholeFinding run rows (take place rows) row kind → (line : ℕ) (said : WholeKind) → ((line ≡ place + 2) × (said ≡ kind)) ⊎ ((line ≡ 0) × (said ≡ NoMemory)) → FindsWhole run rows line said
  told_as kind h line said (inl p) = subst (λ (n : ℕ). FindsWhole run rows n said) (sym p.0) (subst (FindsWhole run rows (place + 2)) (sym p.1) (told kind h))
  told_as kind h line said (inr p) = subst (FindsWhole run rows line) (sym p.1) p.0

  -- a number that is not below that of the most packets
  pub told_number : run.packets ≤ row.id → (line : ℕ) (said : WholeKind) → ((line ≡ place + 2) × (said ≡ NeverInjected)) ⊎ ((line ≡ 0) × (said ≡ NoMemory)) → FindsWhole run rows line said
  told_number le line said e = told_as NeverInjected (λ are. not_numbered HasEnds run.packets (inject_lines run.steps) (take place rows) row le are) line said e

  module _ (used : ℕ) (lt : row.id < run.packets) where
    -- what one more row wants is in the table too
    table_next : (want : TraceRow → Wanted) (table : List (Option Wanted)) → IsTable want run.packets (take place rows) used table
        → IsTable want run.packets (take (place + 1) rows) (max used (row.id + 1)) (set table row.id (Some (want row)))
    table_next want table is =
        subst (λ (rs : List TraceRow). IsTable want run.packets rs (max used (row.id + 1)) (set table row.id (Some (want row)))) (sym one_more)
        (table_more want run.packets (take place rows) row used table is (ids place row at) lt)

    -- the same by what the code computed
    pub table_step : (want : TraceRow → Wanted) (table : List (Option Wanted)) → IsTable want run.packets (take place rows) used table → (n id : ℕ) (w : Wanted)
        → n ≡ max used (id + 1) → id ≡ row.id → w ≡ want row → IsTable want run.packets (take (place + 1) rows) n (set table id (Some w))
    table_step want table is n id w n_is id_is w_is =
        let last : n ≡ max used (row.id + 1) = n_is ∙ ap (λ (i : ℕ). max used (i + 1)) id_is in
        let all : set table id (Some w) ≡ set table row.id (Some (want row)) = ap (λ (i : ℕ). set table i (Some w)) id_is ∙ ap (λ (v : Wanted). set table row.id (Some v)) w_is in
        subst (λ (m : ℕ). IsTable want run.packets (take (place + 1) rows) m (set table id (Some w))) (sym last)
        (subst (IsTable want run.packets (take (place + 1) rows) (max used (row.id + 1))) (sym all) (table_next want table is))

    tells : (want : TraceRow → Wanted) (is_as : TraceRow → Inject → Type 0) → ((r : TraceRow) (inject : Inject) → is_as r inject → fits (want r) inject ≡ true)
        → ((r : TraceRow) (inject : Inject) → fits (want r) inject ≡ true → is_as r inject) → (table : List (Option Wanted)) → IsTable want run.packets (take place rows) used table
        → Tells (are_placed (take (max used (row.id + 1)) (set table row.id (Some (want row)))) (inject_lines run.steps)) (AreAccepted is_as run.packets (inject_lines run.steps) (take place rows ++ row ∷ []))
    tells want is_as fits_as as_fits table is =
        let next = table_more want run.packets (take place rows) row used table is (ids place row at) lt in
        record {
          yes = accepted_if want is_as fits_as as_fits run.packets (inject_lines run.steps) (take place rows ++ row ∷ []) (max used (row.id + 1)) (set table row.id (Some (want row))) next;
          back = placed_if want is_as fits_as as_fits run.packets (inject_lines run.steps) (take place rows ++ row ∷ []) (max used (row.id + 1)) (set table row.id (Some (want row))) next;
        }

    module _ (ends stamps : List (Option Wanted)) (ends_are : IsTable ends_wanted run.packets (take place rows) used ends) (stamps_are : IsTable stamp_wanted run.packets (take place rows) used stamps) where
      pub row_found : IsFound run rows row (take place rows) (first_of_three
          (are_placed (take (max used (row.id + 1)) (set ends row.id (Some (ends_wanted row)))) (inject_lines run.steps))
          (are_placed (take (max used (row.id + 1)) (set stamps row.id (Some (stamp_wanted row)))) (inject_lines run.steps))
          (cause_of run.topology run.steps run.capacity rows row))
      row_found = found_first run rows row (take place rows)
          (are_placed (take (max used (row.id + 1)) (set ends row.id (Some (ends_wanted row)))) (inject_lines run.steps))
          (are_placed (take (max used (row.id + 1)) (set stamps row.id (Some (stamp_wanted row)))) (inject_lines run.steps))
          (cause_of run.topology run.steps run.capacity rows row)
          (tells ends_wanted HasEnds ends_fit fit_ends ends ends_are) (tells stamp_wanted IsStampedAt stamp_fits fit_stamp stamps stamps_are) (cause_found run rows row)

      abbrev pub of_row : Option WholeKind
      of_row = first_of_three
          (are_placed (take (max used (row.id + 1)) (set ends row.id (Some (ends_wanted row)))) (inject_lines run.steps))
          (are_placed (take (max used (row.id + 1)) (set stamps row.id (Some (stamp_wanted row)))) (inject_lines run.steps))
          (cause_of run.topology run.steps run.capacity rows row)

      -- what the code computed is that
      pub found_is : (found : Option WholeKind) (n id : ℕ) (es ss : List (Option Wanted)) (js : List Inject) (e s : Wanted) (cause : Option WholeKind)
          → found ≡ first_of_three (are_placed (take n es) js) (are_placed (take n ss) js) cause → n ≡ max used (id + 1) → id ≡ row.id
          → es ≡ set ends id (Some e) → e ≡ ends_wanted row → ss ≡ set stamps id (Some s) → s ≡ stamp_wanted row → js ≡ inject_lines run.steps
          → cause ≡ cause_of run.topology run.steps run.capacity rows row → found ≡ of_row
      found_is found n id es ss js e s cause h n_is id_is es_is e_is ss_is s_is js_is cause_is =
          let last : n ≡ max used (row.id + 1) = n_is ∙ ap (λ (i : ℕ). max used (i + 1)) id_is in
          let first : es ≡ set ends row.id (Some (ends_wanted row)) = es_is ∙ ap (λ (i : ℕ). set ends i (Some e)) id_is ∙ ap (λ (v : Wanted). set ends row.id (Some v)) e_is in
          let second : ss ≡ set stamps row.id (Some (stamp_wanted row)) = ss_is ∙ ap (λ (i : ℕ). set stamps i (Some s)) id_is ∙ ap (λ (v : Wanted). set stamps row.id (Some v)) s_is in
          h
          ∙ ap (λ (m : ℕ). first_of_three (are_placed (take m es) js) (are_placed (take m ss) js) cause) last
          ∙ ap (λ (t : List (Option Wanted)). first_of_three (are_placed (take (max used (row.id + 1)) t) js) (are_placed (take (max used (row.id + 1)) ss) js) cause) first
          ∙ ap (λ (t : List (Option Wanted)). first_of_three (are_placed (take (max used (row.id + 1)) (set ends row.id (Some (ends_wanted row)))) js) (are_placed (take (max used (row.id + 1)) t) js) cause) second
          ∙ ap (λ (xs : List Inject). first_of_three (are_placed (take (max used (row.id + 1)) (set ends row.id (Some (ends_wanted row)))) xs)
          (are_placed (take (max used (row.id + 1)) (set stamps row.id (Some (stamp_wanted row)))) xs) cause) js_is
          ∙ ap (λ (o : Option WholeKind). first_of_three (are_placed (take (max used (row.id + 1)) (set ends row.id (Some (ends_wanted row)))) (inject_lines run.steps))
          (are_placed (take (max used (row.id + 1)) (set stamps row.id (Some (stamp_wanted row)))) (inject_lines run.steps)) o) cause_is

      -- something is found of the row
      pub told_row : (kind : WholeKind) → Some kind ≡ of_row → (line : ℕ) (said : WholeKind) → ((line ≡ place + 2) × (said ≡ kind)) ⊎ ((line ≡ 0) × (said ≡ NoMemory)) → FindsWhole run rows line said
      told_row kind e line said is = told_as kind (subst (IsFound run rows row (take place rows)) (sym e) row_found) line said is

      -- nothing is
      pub before_more : None ≡ of_row
          → (k : ℕ) (other : TraceRow) → k < place + 1 → slice_get rows k ≡ Some other → IsAccountedFor run rows (take k rows) other
      before_more e k other below there = chosen (cases_lt k place)
        where
          here : IsAccountedFor run rows (take place rows) row
          here = subst (IsFound run rows row (take place rows)) (sym e) row_found

          chosen : (k < place) ⊎ (place ≤ k) → IsAccountedFor run rows (take k rows) other
          chosen (inl lt) = before k other lt there
          chosen (inr le) =
              let same : place ≡ k = omega arith in
              let row_is : row ≡ other = same_Some row other (sym at ∙ ap (slice_get rows) same ∙ there) in
              subst (λ (n : ℕ). IsAccountedFor run rows (take n rows) other) same (subst (IsAccountedFor run rows (take place rows)) row_is here)

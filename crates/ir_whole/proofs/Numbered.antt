-- Inject lines of which the rows can be the packets, by number.
use Rattle.std.proofs.Common.{◌≡◌, ◌≢◌, ◌<◌, ◌≤◌, ◌+◌, ◌⊎◌, ℕ, zero, suc, Bool, true, false, cond, List, [], ◌∷◌, ◌++◌, length, length-take-le, take, drop, max, set, nat_eq, get_or, slice_get, replicate, Option, Some, None, refl, sym, ap, subst, ◌∙◌, arith, inl, inr}
use Rattle.std.proofs.lemmas.Bool.{both_ways, cases_lt, eqb-true, eq-eqb}
use Rattle.std.proofs.lemmas.List.{length-set, drop_more}
use Rattle.std.proofs.lemmas.Option.{none-some, same_Some, slice_get_within}
use Rattle.ir_core.proofs.Lists.{get_set, get_set_same, get_set_other, get_push, get_push_here, get_push_before}
use Rattle.ir_trace.specs.Row.{TraceRow}
use Rattle.ir_trace.specs.Checked.{HasNewId}
use Rattle.ir_whole.specs.declared.injecting.Inject.{Inject}
use Rattle.ir_whole.specs.declared.injecting.Wanted.{Wanted}
use Rattle.ir_whole.specs.Injects.{AreSomeOf, AreAccepted}
use Rattle.ir_whole.specs.Judged.{fits, fits_any, are_placed}

-- ---- some of the injects

some_more : (some : List Inject) (y : Inject) (all : List Inject) → AreSomeOf some all → AreSomeOf some (y ∷ all)
some_more [] y all h = tt
some_more (x ∷ some) y all h = inr h

some_tail : (x : Inject) (some all : List Inject) → AreSomeOf (x ∷ some) all → AreSomeOf some all
some_tail x some [] h = absurd h
some_tail x some (y ∷ all) (inl p) = some_more some y all p.1
some_tail x some (y ∷ all) (inr q) = some_more some y all (some_tail x some all q)

-- each of what is wanted, in order, has an inject that is so
abbrev pub AreFitting : List (Option Wanted) → List Inject → Type 0
AreFitting [] injects = Unit {0}
AreFitting (wanted ∷ table) [] = ⊥
AreFitting (wanted ∷ table) (inject ∷ injects) = (fits_any wanted inject ≡ true) × AreFitting table injects

taken : (b u v : Bool) → b ≡ true → u ≡ true → cond b u v ≡ true
taken true u v e h = h
taken false u v e h = absurd (cc e)

either : (b u v : Bool) → u ≡ true → v ≡ true → cond b u v ≡ true
either true u v h g = h
either false u v h g = g

-- what some of the injects fit is placed
placed : (table : List (Option Wanted)) (some all : List Inject) → AreSomeOf some all → AreFitting table some → are_placed table all ≡ true
placed [] some all h f = refl
placed (wanted ∷ table) [] all h f = absurd f
placed (wanted ∷ table) (x ∷ some) [] h f = absurd h
placed (wanted ∷ table) (x ∷ some) (y ∷ all) (inl p) f =
    taken (fits_any wanted y) (are_placed table all) (are_placed (wanted ∷ table) all) (ap (fits_any wanted) (sym p.0) ∙ f.0) (placed table some all p.1 f.1)
placed (wanted ∷ table) (x ∷ some) (y ∷ all) (inr q) f =
    either (fits_any wanted y) (are_placed table all) (are_placed (wanted ∷ table) all) (placed table some all (some_tail x some all q) f.1) (placed (wanted ∷ table) (x ∷ some) all q f)

-- what is placed has some of the injects
record IsPlacedBy (table : List (Option Wanted)) (all : List Inject) : Type 0 where
  pub accepted : List Inject
  pub some : AreSomeOf accepted all
  pub fit : AreFitting table accepted
  pub long : length accepted ≡ length table

by_placed : (table : List (Option Wanted)) (all : List Inject) → are_placed table all ≡ true → IsPlacedBy table all
by_placed [] all h = record { accepted = []; some = tt; fit = tt; long = refl }
by_placed (wanted ∷ table) [] h = absurd (cc h)
by_placed (wanted ∷ table) (y ∷ all) h = chosen (fits_any wanted y) refl h (by_placed table all) (by_placed (wanted ∷ table) all)
  where
    chosen : (b : Bool) → fits_any wanted y ≡ b → cond b (are_placed table all) (are_placed (wanted ∷ table) all) ≡ true
        → (are_placed table all ≡ true → IsPlacedBy table all) → (are_placed (wanted ∷ table) all ≡ true → IsPlacedBy (wanted ∷ table) all) → IsPlacedBy (wanted ∷ table) (y ∷ all)
    chosen true e g take_it skip = let is = take_it g in record { accepted = y ∷ is.accepted; some = inl (refl, is.some); fit = (e, is.fit); long = ap suc is.long }
    chosen false e g take_it skip = let is = skip g in record { accepted = is.accepted; some = some_more is.accepted y all is.some; fit = is.fit; long = is.long }

-- ---- the end of the injects

drop_past : {X : Type 0} (xs : List X) (n : ℕ) → length xs ≤ n → drop n xs ≡ []
drop_past [] zero le = refl
drop_past [] (suc n) le = refl
drop_past (x ∷ xs) zero le = absurd (omega arith)
drop_past (x ∷ xs) (suc n) le = drop_past xs n (omega arith)

-- where no inject is left, all is placed just if nothing more is wanted
pub placed_end : (table : List (Option Wanted)) (next : ℕ) (all : List Inject) (n : ℕ) → next ≤ length table → length all ≤ n → nat_eq next (length table) ≡ are_placed (drop next table) (drop n all)
placed_end table next all n le past = by (nat_eq next (length table)) refl
  where
    by : (b : Bool) → nat_eq next (length table) ≡ b → nat_eq next (length table) ≡ are_placed (drop next table) (drop n all)
    by true e =
        let same = eqb-true next (length table) e in
        e ∙ sym (ap (λ (t : List (Option Wanted)). are_placed t (drop n all)) (drop_past table next (omega arith)))
    by false e =
        let lt : next < length table = less (cases_lt next (length table)) e in
        e ∙ sym (ap (λ (t : List (Option Wanted)). are_placed t (drop n all)) (drop_more table next None lt) ∙ ap (are_placed (get_or table next None ∷ drop (next + 1) table)) (drop_past all n past))
      where
        less : (next < length table) ⊎ (length table ≤ next) → nat_eq next (length table) ≡ false → next < length table
        less (inl lt) f = lt
        less (inr ge) f = absurd (both_ways (nat_eq next (length table)) f (eq-eqb next (length table) (omega arith)))

-- ---- pointwise

fitting_at : (table : List (Option Wanted)) (injects : List Inject) → AreFitting table injects → (i : ℕ) (wanted : Option Wanted) → slice_get table i ≡ Some wanted
    → (inject : Inject) × (slice_get injects i ≡ Some inject) × (fits_any wanted inject ≡ true)
fitting_at [] injects f i wanted at = absurd (none-some wanted at)
fitting_at (w ∷ table) [] f i wanted at = absurd f
fitting_at (w ∷ table) (x ∷ injects) f zero wanted at = (x, refl, ap (λ (o : Option Wanted). fits_any o x) (sym (same_Some w wanted at)) ∙ f.0)
fitting_at (w ∷ table) (x ∷ injects) f (suc i) wanted at = fitting_at table injects f.1 i wanted at

fitting_from : (table : List (Option Wanted)) (injects : List Inject) → length table ≤ length injects
    → ((i : ℕ) (wanted : Option Wanted) (inject : Inject) → slice_get table i ≡ Some wanted → slice_get injects i ≡ Some inject → fits_any wanted inject ≡ true) → AreFitting table injects
fitting_from [] injects le h = tt
fitting_from (w ∷ table) [] le h = absurd (omega arith)
fitting_from (w ∷ table) (x ∷ injects) le h = (h 0 w x refl refl, fitting_from table injects (omega arith) (λ i wanted inject at of. h (suc i) wanted inject at of))

-- ---- what is wanted of rows

get_take : {X : Type 0} (xs : List X) (n i : ℕ) → i < n → slice_get (take n xs) i ≡ slice_get xs i
get_take [] n i lt = take_nil n i
  where
    take_nil : {X : Type 0} (n i : ℕ) → slice_get (take {A = X} n []) i ≡ None
    take_nil zero i = refl
    take_nil (suc n) i = refl
get_take (x ∷ xs) zero i lt = absurd (omega arith)
get_take (x ∷ xs) (suc n) zero lt = refl
get_take (x ∷ xs) (suc n) (suc i) lt = get_take xs n i (omega arith)

-- The table has what each row wants, at the place of its id, and nothing else; its used front ends with a row's.
pub record IsTable (want : TraceRow → Wanted) (packets : ℕ) (rows : List TraceRow) (used : ℕ) (table : List (Option Wanted)) : Type 0 where
  pub long : length table ≡ packets
  pub within : used ≤ packets
  pub each : (k : ℕ) (row : TraceRow) → slice_get rows k ≡ Some row → (row.id < used) × (slice_get table row.id ≡ Some (Some (want row)))
  pub only : (i : ℕ) (w : Wanted) → slice_get table i ≡ Some (Some w) → (k : ℕ) × (row : TraceRow) × (slice_get rows k ≡ Some row) × (row.id ≡ i) × (want row ≡ w)
  pub last : (used ≡ 0) ⊎ ((k : ℕ) × (row : TraceRow) × (slice_get rows k ≡ Some row) × (used ≡ row.id + 1))

nothing_in : (n i : ℕ) (w : Wanted) → slice_get (replicate n None) i ≡ Some (Some w) → ⊥
nothing_in zero i w h = none-some (Some w) h
nothing_in (suc n) zero w h = none-some w (same_Some None (Some w) h)
nothing_in (suc n) (suc i) w h = nothing_in n i w h

length_nothing : (n : ℕ) → length (replicate {A = Option Wanted} n None) ≡ n
length_nothing zero = refl
length_nothing (suc n) = ap suc (length_nothing n)

pub table_of_none : (want : TraceRow → Wanted) (packets : ℕ) → IsTable want packets [] 0 (replicate packets None)
table_of_none want packets = record {
  long = length_nothing packets;
  within = omega arith;
  each = λ k row at. absurd (none-some row at);
  only = λ i w at. absurd (nothing_in packets i w at);
  last = inl refl;
}

module _ (want : TraceRow → Wanted) (packets : ℕ) (rows : List TraceRow) (row : TraceRow) (used : ℕ) (table : List (Option Wanted)) (is : IsTable want packets rows used table) (new : HasNewId rows row) (lt : row.id < packets) where
  abbrev pub later : ℕ
  later = max used (row.id + 1)

  in_table : row.id < length table
  in_table = subst (λ (n : ℕ). row.id < n) (sym is.long) lt

  kept : (i : ℕ) → i ≢ row.id → slice_get (set table row.id (Some (want row))) i ≡ slice_get table i
  kept i ne = get_set_other table row.id i (Some (want row)) ne

  each_more : (k : ℕ) (other : TraceRow) → ((k ≡ length rows) × (row ≡ other)) ⊎ ((k < length rows) × (slice_get rows k ≡ Some other))
      → (other.id < later) × (slice_get (set table row.id (Some (want row))) other.id ≡ Some (Some (want other)))
  each_more k other (inl p) =
      subst (λ (r : TraceRow). (r.id < later) × (slice_get (set table row.id (Some (want row))) r.id ≡ Some (Some (want r)))) p.1
      ((omega arith, get_set_same table row.id (Some (want row)) in_table))
  each_more k other (inr p) =
      let old = is.each k other p.1 in
      ((let below = old.0 in omega arith), kept other.id (λ e. new k other p.1 e) ∙ old.1)

  only_more : (i : ℕ) (w : Wanted) → ((i ≡ row.id) × (Some (want row) ≡ Some w)) ⊎ ((i ≢ row.id) × (slice_get table i ≡ Some (Some w)))
      → (k : ℕ) × (other : TraceRow) × (slice_get (rows ++ row ∷ []) k ≡ Some other) × (other.id ≡ i) × (want other ≡ w)
  only_more i w (inl p) = (length rows, row, get_push_here rows row, sym p.0, same_Some (want row) w p.1)
  only_more i w (inr p) =
      let old = is.only i w p.1 in
      (old.0, old.1, get_push_before rows old.0 row (slice_get_within rows old.0 old.1 old.2) ∙ old.2, old.3, old.4)

  last_more : (used ≡ 0) ⊎ ((k : ℕ) × (other : TraceRow) × (slice_get rows k ≡ Some other) × (used ≡ other.id + 1))
      → (row.id + 1 < used) ⊎ (used ≤ row.id + 1)
      → (later ≡ 0) ⊎ ((k : ℕ) × (other : TraceRow) × (slice_get (rows ++ row ∷ []) k ≡ Some other) × (later ≡ other.id + 1))
  last_more before (inr le) = inr (length rows, row, get_push_here rows row, omega arith)
  last_more (inl none) (inl gt) = absurd (omega arith)
  last_more (inr old) (inl gt) =
      let last = old.3 in
      inr (old.0, old.1, get_push_before rows old.0 row (slice_get_within rows old.0 old.1 old.2) ∙ old.2, omega arith)

  pub table_more : IsTable want packets (rows ++ row ∷ []) later (set table row.id (Some (want row)))
  table_more = record {
    long = length-set table row.id (Some (want row)) ∙ is.long;
    within = (let within = is.within in omega arith);
    each = λ k other at. each_more k other (get_push rows k row other at);
    only = λ i w at. only_more i w (get_set table row.id i (Some (want row)) (Some w) at);
    last = last_more is.last (cases_lt (row.id + 1) used);
  }

-- The rows are packets of accepted injects just if what they want is placed.
module _ (want : TraceRow → Wanted) (is_as : TraceRow → Inject → Type 0) (fits_as : (row : TraceRow) (inject : Inject) → is_as row inject → fits (want row) inject ≡ true)
    (as_fits : (row : TraceRow) (inject : Inject) → fits (want row) inject ≡ true → is_as row inject)
    (packets : ℕ) (all : List Inject) (rows : List TraceRow) (used : ℕ) (table : List (Option Wanted)) (is : IsTable want packets rows used table) where
  front : length (take used table) ≡ used
  front = length-take-le used table (let long = is.long in let within = is.within in omega arith)

  pub accepted_if : are_placed (take used table) all ≡ true → AreAccepted is_as packets all rows
  accepted_if h =
      let by = by_placed (take used table) all h in
      record {
        accepted = by.accepted;
        some = by.some;
        few = (let long = by.long in let within = is.within in omega (arith, front));
        each = λ k row at.
            (let its = is.each k row at in
            let found = fitting_at (take used table) by.accepted by.fit row.id (Some (want row)) (get_take table used row.id its.0 ∙ its.1) in
            (found.0, found.1, as_fits row found.0 found.2));
      }

  module _ (are : AreAccepted is_as packets all rows) where
    covers : (used ≡ 0) ⊎ ((k : ℕ) × (row : TraceRow) × (slice_get rows k ≡ Some row) × (used ≡ row.id + 1)) → used ≤ length are.accepted
    covers (inl none) = omega arith
    covers (inr last) =
        let its = are.each last.0 last.1 last.2 in
        let lt = slice_get_within are.accepted last.1.id its.0 its.1 in
        let e = last.3 in
        omega arith

    at_place : (i : ℕ) (wanted : Option Wanted) (inject : Inject) → slice_get (take used table) i ≡ Some wanted → slice_get are.accepted i ≡ Some inject → fits_any wanted inject ≡ true
    at_place i None inject at of = refl
    at_place i (Some w) inject at of =
        let lt = slice_get_within (take used table) i (Some w) at in
        let its = is.only i w (sym (get_take table used i (omega (arith, front))) ∙ at) in
        let has = are.each its.0 its.1 its.2 in
        let same : has.0 ≡ inject = same_Some has.0 inject (sym has.1 ∙ ap (slice_get are.accepted) its.3 ∙ of) in
        ap (λ (v : Wanted). fits v inject) (sym its.4) ∙ fits_as its.1 inject (subst (is_as its.1) same has.2)

    pub placed_if : are_placed (take used table) all ≡ true
    placed_if = placed (take used table) are.accepted all are.some (fitting_from (take used table) are.accepted (let le = covers is.last in omega (arith, front)) at_place)

-- a number that is not below that of the most packets is no packet's
pub not_numbered : (is_as : TraceRow → Inject → Type 0) (packets : ℕ) (all : List Inject) (rows : List TraceRow) (row : TraceRow) → packets ≤ row.id → AreAccepted is_as packets all (rows ++ row ∷ []) → ⊥
not_numbered is_as packets all rows row le are =
    let its = are.each (length rows) row (get_push_here rows row) in
    let lt = slice_get_within are.accepted row.id its.0 its.1 in
    let few = are.few in
    omega arith

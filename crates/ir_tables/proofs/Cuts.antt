-- Rows that lie one after the other: a row is read, and a row is put after the others.
use Rattle.std.proofs.Common.{◌≡◌, ℕ, zero, suc, ◌+◌, ◌-◌, ◌<◌, ◌≤◌, List, [], ◌∷◌, ◌++◌, length, take, drop, refl, ap, sym, ◌∙◌, get_or, arith}
use Rattle.std.proofs.lemmas.List.{take-append-le, drop-append-le, length-append, length-drop, take_all, get_or_read}
use Rattle.std.proofs.Math.Seq.{drop-append_seam}
use Rattle.ir_model.specs.declared.Hop.{Hop}
use Rattle.ir_tables.specs.Rows.{rows_by, rows_in, IsCut, AreCuts}

pub rows_length : (begin : ℕ) (ends : List ℕ) (hops : List Hop) → length (rows_by begin ends hops) ≡ length ends
rows_length begin [] hops = refl
rows_length begin (end ∷ ends) hops = ap suc (rows_length end ends hops)

pub cut_within : (begin : ℕ) (ends : List ℕ) (hops : List Hop) → IsCut begin ends hops → begin ≤ length hops
cut_within begin [] hops is = omega (arith, is)
cut_within begin (end ∷ ends) hops is = let le = cut_within end ends hops is.1 in omega (arith, is.0, le)

-- one row more
pub rows_with : (begin : ℕ) (ends : List ℕ) (hops row : List Hop) (last : ℕ) → last ≡ length hops + length row → IsCut begin ends hops
    → (IsCut begin (ends ++ last ∷ []) (hops ++ row)) × (rows_by begin (ends ++ last ∷ []) (hops ++ row) ≡ rows_by begin ends hops ++ row ∷ [])
rows_with begin [] hops row last at is =
    let whole : last ≡ length (hops ++ row) = at ∙ sym (length-append hops row) in
    let count : last - begin ≡ length row = omega (arith, at, is) in
    let from : drop begin (hops ++ row) ≡ row = ap (λ (k : ℕ). drop k (hops ++ row)) is ∙ drop-append_seam hops row in (
      (omega (arith, at, is), whole),
      ap (λ (xs : List Hop). xs ∷ []) (ap (take (last - begin)) from ∙ take_all (last - begin) row (omega (arith, count))),
    )
rows_with begin (end ∷ ends) hops row last at is =
    let within = cut_within end ends hops is.1 in
    let w = rows_with end ends hops row last at is.1 in
    let first : take (end - begin) (drop begin (hops ++ row)) ≡ take (end - begin) (drop begin hops) =
    ap (take (end - begin)) (drop-append-le begin hops row (omega (arith, is.0, within)))
    ∙ take-append-le (end - begin) (drop begin hops) row (omega (arith, length-drop begin hops, is.0, within)) in (
      (is.0, w.0),
      ap (λ (xs : List Hop). xs ∷ rows_by end (ends ++ last ∷ []) (hops ++ row)) first ∙ ap (λ (rows : List (List Hop)). take (end - begin) (drop begin hops) ∷ rows) w.1,
    )

pub more_cuts : (begins : List ℕ) (hops row : List Hop) (last : ℕ) → last ≡ length hops + length row → AreCuts begins hops
    → AreCuts (begins ++ last ∷ []) (hops ++ row) × (rows_in (begins ++ last ∷ []) (hops ++ row) ≡ rows_in begins hops ++ row ∷ [])
more_cuts [] hops row last at is = absurd is
more_cuts (begin ∷ ends) hops row last at is = rows_with begin ends hops row last at is

pub cuts_length : (begins : List ℕ) (hops : List Hop) → AreCuts begins hops → length begins ≡ length (rows_in begins hops) + 1
cuts_length [] hops is = absurd is
cuts_length (begin ∷ ends) hops is = let e = rows_length begin ends hops in omega (arith, e)

-- a row that is read
row_by : (begin : ℕ) (ends : List ℕ) (hops : List Hop) (u : ℕ) → u < length ends → IsCut begin ends hops
    → (get_or (begin ∷ ends) u 0 ≤ get_or ends u 0) × (get_or ends u 0 ≤ length hops)
    × (get_or (rows_by begin ends hops) u [] ≡ take (get_or ends u 0 - get_or (begin ∷ ends) u 0) (drop (get_or (begin ∷ ends) u 0) hops))
row_by begin [] hops u l is = absurd (omega (arith, l))
row_by begin (end ∷ ends) hops zero l is = (is.0, cut_within end ends hops is.1, refl)
row_by begin (end ∷ ends) hops (suc u) l is = row_by end ends hops u (omega (arith, l)) is.1

pub row_at : (begins : List ℕ) (hops : List Hop) (u : ℕ) → u + 1 < length begins → AreCuts begins hops
    → (get_or begins u 0 ≤ get_or begins (u + 1) 0) × (get_or begins (u + 1) 0 ≤ length hops)
    × (get_or (rows_in begins hops) u [] ≡ take (get_or begins (u + 1) 0 - get_or begins u 0) (drop (get_or begins u 0) hops))
row_at [] hops u l is = absurd is
row_at (begin ∷ ends) hops u l is =
    let e : u + 1 ≡ suc u = omega arith in
    rw e (row_by begin ends hops u (omega (arith, l)) is)

-- there is a place after that of a row
pub place_behind : (begins : List ℕ) (hops : List Hop) (rows : List (List Hop)) (u : ℕ) → AreCuts begins hops → rows_in begins hops ≡ rows → u < length rows → u + 1 < length begins
place_behind begins hops rows u are is l = let few = cuts_length begins hops are in let e = ap (λ (xs : List (List Hop)). length xs) is in omega (arith, few, e, l)

-- the row between two places that are read
pub row_read : (begins : List ℕ) (hops : List Hop) (rows : List (List Hop)) (u from to : ℕ) → AreCuts begins hops → rows_in begins hops ≡ rows → u < length rows
    → from ≡ get_or begins u from → to ≡ get_or begins (u + 1) to → (from ≤ to) × (to ≤ length hops) × (take (to - from) (drop from hops) ≡ get_or rows u [])
row_read begins hops rows u from to are is l at_from at_to =
    let behind = place_behind begins hops rows u are is l in
    let r = row_at begins hops u behind are in
    let f : from ≡ get_or begins u 0 = get_or_read begins u from (omega (arith, behind)) at_from 0 in
    let t : to ≡ get_or begins (u + 1) 0 = get_or_read begins (u + 1) to behind at_to 0 in
    rw (f, t) (r.0, r.1, sym r.2 ∙ ap (λ (xs : List (List Hop)). get_or xs u []) is)

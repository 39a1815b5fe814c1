-- What a number that a parser's matches give is, by its rows, and when they give none.
use Rattle.std.proofs.Common.{◌≡◌, ◌≤◌, ◌<◌, ◌^◌, ◌∙◌, ℕ, List, Option, Some, None, Result, Ok, Err, refl, sym, ap, subst, true≢false, arith}
use Rattle.std.specs.Prelude.{MatchOption, is_some, find, option_and_then, option_map, slice_get}
use Rattle.std.specs.Str.{bytes_eq}
use Rattle.std.specs.Str.Parse.{ParsesUnsigned}
use Rattle.clap.specs.Words.{ReadsOne, Row, Text, first_of, one_of, one_text, read_as, rows_of}
use Rattle.clap.specs.Walk.{row_text}
use Rattle.clap.specs.declared.parser.matches.Found.{Found}
use Rattle.clap.proofs.WalkLemmas.{one_text-rows}
use Rattle.ir_cli.specs.Meaning.{IsNumber}

some≢none : {X : Type 0} (x : X) → Some x ≡ None → ⊥
some≢none x e = true≢false (ap is_some e)

-- a number that was read is that of the option's word
pub number_read : {E : Type 0} (G : Text → Result ℕ E → Type 0) → ((t : Text) (r : Result ℕ E) → G t r → ParsesUnsigned 64 10 t r)
    → (f : Found) (name : Text) (o : Option ℕ) (n least most : ℕ) → (one_text f name ≡ None → o ≡ None)
    → ((t : Text) → one_text f name ≡ Some t → ReadsOne G t o) → o ≡ Some n → least ≤ n → n ≤ most → IsNumber name (rows_of f) least most (Some n)
number_read G only f name o n least most none value is low high = go (one_text f name) refl
  where
    go : (t : Option Text) → one_text f name ≡ t → IsNumber name (rows_of f) least most (Some n)
    go None e = absurd (some≢none n (sym is ∙ none e))
    go (Some t) e =
        let read : ReadsOne G t (Some n) = subst (ReadsOne G t) is (value t e) in
        let parsed = only t (Ok n) read in
        (t, sym (one_text-rows f name) ∙ e, parsed.0.0, parsed.1, low, high)

-- what holds of none
pub is_none_then : {X : Type 0} (o : Option X) (P : Type 0) (Q : X → Type 0) → o ≡ None → P → MatchOption o P Q
is_none_then o P Q e p = subst (λ x. MatchOption x P Q) (sym e) p

-- an option that is given has a text to read
pub given_is_read : (name : Text) (rows : List Row) (t : Text) → first_of name rows ≡ Some t → one_of name rows ≡ None → ⊥
given_is_read name rows t = go (find (λ r. bytes_eq r.id name) rows)
  where
    go : (o : Option Row) → option_and_then (λ (r : Row). slice_get r.values 0) o ≡ Some t → option_and_then row_text o ≡ None → ⊥
    go None e none = some≢none t (sym e)
    go (Some r) e none = some≢none (read_as r.reading t) (sym (ap (option_map (read_as r.reading)) e) ∙ none)

-- a text that is not read is that of no number
pub number_not_read : {E : Type 0} (G : Text → Result ℕ E → Type 0) → ((t : Text) (r : Result ℕ E) → G t r → ParsesUnsigned 64 10 t r)
    → (f : Found) (name : Text) (n least most : ℕ) → most < 2 ^ 64
    → ((t : Text) → one_text f name ≡ Some t → ReadsOne {T = ℕ} {E = E} G t None) → IsNumber name (rows_of f) least most (Some n) → ⊥
number_not_read {E} G only f name n least most small value is =
    let read : (e : E) × G is.0 (Err e) = value is.0 (one_text-rows f name ∙ is.1) in
    only is.0 (Err read.0) read.1 (is.2, omega (arith, small, is.3, is.5))

-- a number that was read is the one
pub number_is : {E : Type 0} (G : Text → Result ℕ E → Type 0) → ((t : Text) (r : Result ℕ E) → G t r → ParsesUnsigned 64 10 t r)
    → (f : Found) (name : Text) (m n least most : ℕ)
    → ((t : Text) → one_text f name ≡ Some t → ReadsOne {T = ℕ} {E = E} G t (Some m)) → IsNumber name (rows_of f) least most (Some n) → n ≡ m
number_is {E} G only f name m n least most value is =
    let parsed = only is.0 (Ok m) (value is.0 (one_text-rows f name ∙ is.1)) in
    is.3 ∙ sym parsed.1

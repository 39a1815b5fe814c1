-- What was written to a text in memory.
use Rattle.std.proofs.Common.{◌≡◌, ◌<◌, ℕ, zero, suc, Bool, true, false, List, [], ◌∷◌, ◌++◌, length, drop, Option, None, Result, Ok, Err, refl, sym, ap, ◌∙◌, subst, inl, inr, arith}
use Rattle.std.proofs.lemmas.List.{append-nil, append_assoc}
use Rattle.std.proofs.Math.Seq.{drop-append_seam}
use Rattle.ir_streams.specs.declared.call.CallError.{CallError}
use Rattle.ir_streams.specs.declared.call.CallError.TheVariants.{Interrupted}
use Rattle.ir_streams.specs.Writing.{AreInterrupted, ComesTo, PutsSome, Flushes, Takes, FailsAt}
use Rattle.ir_cli.specs.Told.{Sends}
use Rattle.page.specs.declared.kept.Kept.{Kept}
use Rattle.page.specs.Kept.{TakesAll, SettlesAll}

-- calls that are never interrupted
module _ {W A : Type 0} (call : W → Result A CallError → W → Type 0) (never : (old new : W) → call old (Err Interrupted) new → ⊥) where
  none_again : (first : W) (again : ℕ) (mid : W) → AreInterrupted call first again mid → mid ≡ first
  none_again first zero mid same = same
  none_again first (suc again) mid (before, are, interrupted) = absurd (never before mid interrupted)

  once : (first : W) (outcome : Result A CallError) (last : W) → ComesTo call first outcome last → call first outcome last
  once first outcome last is = subst (λ (at : W). call at outcome last) (none_again first is.again is.mid is.interrupted) is.done

-- what a write took, and that it took anything
abbrev taken_of : Result ℕ CallError → ℕ
taken_of (Ok n) = n
taken_of (Err e) = 0

abbrev IsOf : {A : Type 0} → Result A CallError → Type 0
IsOf (Ok value) = Unit {0}
IsOf (Err e) = ⊥

put_once : (first : Kept) (bytes : List ℕ) (outcome : Result ℕ CallError) (last : Kept) → PutsSome TakesAll SettlesAll first bytes outcome last → TakesAll first bytes outcome last
put_once first bytes outcome last is =
    once (λ (old : Kept) (taken : Result ℕ CallError) (new : Kept). TakesAll old bytes taken new)
    (λ (old new : Kept) (call : TakesAll old bytes (Err Interrupted) new). subst IsOf (sym call.all) tt) first outcome last is

flush_once : (first : Kept) (outcome : Result (Unit {0}) CallError) (last : Kept) → Flushes TakesAll SettlesAll first outcome last → SettlesAll first outcome last
flush_once first outcome last is =
    once SettlesAll (λ (old new : Kept) (call : SettlesAll old (Err Interrupted) new). subst IsOf (sym call.0) tt) first outcome last is

takes_so : (first : Kept) (text counts : List ℕ) (last : Kept) (rest : List ℕ) → Takes TakesAll SettlesAll first text counts last rest → last.is_short ≡ false
    → (first.is_short ≡ false) × (first.bytes.items ++ text ≡ last.bytes.items ++ rest)
takes_so first text [] last rest (same, all) whole = (
  subst (λ (at : Kept). at.is_short ≡ false) same whole,
  ap (λ (at : Kept). at.bytes.items ++ text) (sym same) ∙ ap (λ (left : List ℕ). last.bytes.items ++ left) (sym all),
)
takes_so first text (n ∷ counts) last rest (mid, left, front, behind, takes, cut, some, few, puts, after) whole =
    let call = put_once mid front (Ok n) last puts in
    let before = takes_so first text counts mid left takes (call.before whole) in
    let count : n ≡ length front = ap taken_of call.all in
    let rest_is : rest ≡ behind = after ∙ ap (drop n) cut ∙ ap (λ (k : ℕ). drop k (front ++ behind)) count ∙ drop-append_seam front behind in (
      before.0,
      before.1 ∙ ap (λ (all : List ℕ). mid.bytes.items ++ all) cut ∙ sym (append_assoc mid.bytes.items front behind)
          ∙ ap (λ (all : List ℕ). all ++ behind) (sym (call.behind whole)) ∙ ap (λ (left : List ℕ). last.bytes.items ++ left) (sym rest_is),
    )

some_taken : (count : ℕ) → 0 ≡ count → 0 < count → ⊥
some_taken count none some = omega (arith, none, some)

never_fails : (mid : Kept) (rest : List ℕ) (last : Kept) → FailsAt TakesAll SettlesAll mid rest last → ⊥
never_fails mid rest last (inl (front, behind, cut, some, inl (e, puts))) = subst IsOf (sym (put_once mid front (Err e) last puts).all) tt
never_fails mid rest last (inl (front, behind, cut, some, inr puts)) = some_taken (length front) (ap taken_of (put_once mid front (Ok 0) last puts).all) some
never_fails mid rest last (inr (none, (e, flushes))) = subst IsOf (sym (flush_once mid (Err e) last flushes).0) tt

-- nothing is said of the bytes but by the calls
abbrev pub unsaid : Kept → Option (List ℕ)
unsaid kept = None

-- a text that was written is all there, where no memory was wanting
pub sent_so : (first last : Kept) (sent : Bool) (text : List ℕ) → Sends unsaid TakesAll SettlesAll first last sent text → last.is_short ≡ false
    → (sent ≡ true) × (last.bytes.items ≡ first.bytes.items ++ text)
sent_so first last true text ((counts, mid, takes, flushes), writes) whole =
    let still = (flush_once mid (Ok tt) last flushes).1 in
    let so = takes_so first text counts mid [] takes (subst (λ (at : Kept). at.is_short ≡ false) still whole) in
    (refl, ap (λ (at : Kept). at.bytes.items) still ∙ sym (so.1 ∙ append-nil mid.bytes.items))
sent_so first last false text ((counts, mid, rest, takes, fails), writes) whole = absurd (never_fails mid rest last fails)

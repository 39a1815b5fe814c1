-- What follows from what is said of an answer that may be none.
use Rattle.std.proofs.Common.{ℕ, List, Option, None, Some, Result, Ok, Err}
use Rattle.std.specs.Prelude.{IfOk, IfNone, IfSome, OnOk}
use Rattle.std.specs.Option.{option_map}
use Rattle.std.specs.Global.{Vec}
use Rattle.ir_figures.specs.Waits.{IsWithoutRing, IsWaitingRing}
use Rattle.ir_figures.specs.FiguresText.{IsRingOf}

pub on_ok_then : {A E : Type 0} {P Q : Type 0} (r : Result A E) → (P → Q) → OnOk r P → OnOk r Q
on_ok_then (Ok a) then holds = then holds
on_ok_then (Err e) then holds = holds

pub ok_none_then : {A E : Type 0} {P Q : Type 0} (r : Result (Option A) E) → (P → Q) → IfOk r (λ found. IfNone found P) → IfOk r (λ found. IfNone found Q)
ok_none_then (Ok None) then holds = then holds
ok_none_then (Ok (Some a)) then holds = holds
ok_none_then (Err e) then holds = holds

pub ok_some_then : {A E : Type 0} {P Q : A → Type 0} (r : Result (Option A) E) → ((a : A) → P a → Q a) → IfOk r (λ found. IfSome found P) → IfOk r (λ found. IfSome found Q)
ok_some_then (Ok None) then holds = holds
ok_some_then (Ok (Some a)) then holds = then a holds
ok_some_then (Err e) then holds = holds

-- the ring that was found, by its nodes
pub ring_told : (waits : ℕ → ℕ → ℕ → ℕ → Type 0) (found : Option (Vec ℕ)) → IfNone found (IsWithoutRing waits)
    → IfSome found (λ nodes. (ports : List ℕ) × IsWaitingRing waits nodes.items ports) → IsRingOf waits (option_map (λ (nodes : Vec ℕ). nodes.items) found)
ring_told waits None without ring = without
ring_told waits (Some nodes) without ring = ring

-- What holds of a value, where there is one.
use Rattle.std.specs.Prelude.{Result, Ok, Err, IfOk}

-- two things that hold of it give a third
pub both_hold : {X E : Type 0} (r : Result X E) (P Q S : X → Type 0) → ((x : X) → P x → Q x → S x) → IfOk r P → IfOk r Q → IfOk r S
both_hold (Ok x) P Q S f p q = f x p q
both_hold (Err e) P Q S f p q = tt

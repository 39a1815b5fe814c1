-- What holds where nothing refuses an act.
use Rattle.std.proofs.Common.{◌≡◌, ℕ, ◌<◌, ◌≤◌, Option, Some, None, refl, arith, true, false, Bool, cond}
use Rattle.std.specs.Prelude.{not, ◌&&◌, nat_lt, nat_le}
use Rattle.std.proofs.lemmas.Grind.{common_steps}
use Rattle.ir_core.specs.declared.TheConstants.{MAX_EPOCHS, MAX_CHANGES}
use Rattle.ir_core.specs.declared.board.Board.{Board}
use Rattle.ir_core.specs.declared.event.Refused.{Refused}
use Rattle.ir_core.specs.declared.event.Refused.TheVariants.{NoNode, NoLink, NoEpoch, LinkDown, Same, EpochsFull, TooManyPackets, TooManyChanges}
use Rattle.ir_core.specs.Refusals.{inject_refused, change_refused, retire_refused, mark_refused, heed_refused, install_refused}

pub none_there : (x : Option Refused) → ((e : Refused) → x ≡ Some e → ⊥) → x ≡ None
none_there (Some e) never = absurd (never e refl)
none_there None never = refl

-- a line that refuses did not hold
passed : (b : Bool) (x : Refused) (rest : Option Refused) → cond b (Some x) rest ≡ None → (b ≡ false) × (rest ≡ None)
passed true x rest e = absurd (cc e)
passed false x rest e = (refl, e)

pub source_in : (n most count source dest : ℕ) → inject_refused n most count source dest ≡ None → source < n
source_in n most count source dest e =
    let p = (passed (not (nat_lt source n && nat_lt dest n)) NoNode (cond (nat_le most count) (Some TooManyPackets) None) e).0 in
    grind (arith, common_steps)

pub version_free : (b : Board) → change_refused b ≡ None → b.version < MAX_CHANGES
version_free b e = let p = (passed _ TooManyChanges None e).0 in grind (arith, common_steps)

pub floor_free : (b : Board) (f : ℕ) → retire_refused b f ≡ None → (f ≤ b.current) × (b.version < MAX_CHANGES)
floor_free b f e =
    let p = passed _ NoEpoch _ e in
    let within = p.0 in
    (grind (arith, common_steps), version_free b (passed _ Same _ p.1).1)

pub mark_free : (links : ℕ) (b : Board) (l : ℕ) (up : Bool) → mark_refused links b l up ≡ None → (l < links) × (b.version < MAX_CHANGES)
mark_free links b l up e =
    let p = passed _ NoLink _ e in
    let within = p.0 in
    (grind (arith, common_steps), version_free b (passed _ Same _ p.1).1)

pub heed_free : (links : ℕ) (b : Board) (l : ℕ) (heed : Bool) → heed_refused links b l heed ≡ None → (l < links) × (b.version < MAX_CHANGES)
heed_free links b l heed e =
    let p = passed _ NoLink _ e in
    let within = p.0 in
    (grind (arith, common_steps), version_free b (passed _ Same _ (passed _ LinkDown _ p.1).1).1)

pub install_free : (nodes epochs : ℕ) (b : Board) (root : ℕ) → install_refused nodes epochs b root ≡ None → (root < nodes) × (epochs < MAX_EPOCHS) × (b.version < MAX_CHANGES)
install_free nodes epochs b root e =
    let p = passed _ NoNode _ e in
    let q = passed _ EpochsFull _ p.1 in
    let within = p.0 in
    let few = q.0 in
    (grind (arith, common_steps), grind (arith, common_steps), version_free b q.1)

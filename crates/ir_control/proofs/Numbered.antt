-- What a change or an install is refused by has a number among those of that call.
use Rattle.std.specs.Prelude.{ℕ, ◌<◌, Bool, true, false, not, ◌&&◌, nat_lt, nat_le, cond, Some, None, IfSome}
use Rattle.std.proofs.Common.{arith}
use Rattle.ir_core.specs.declared.TheConstants.{MAX_EPOCHS, MAX_CHANGES}
use Rattle.ir_core.specs.declared.board.Board.{Board}
use Rattle.ir_core.specs.declared.event.Refused.{Refused}
use Rattle.ir_core.specs.declared.event.Refused.TheVariants.{NoNode, NoLink, NoEpoch, LinkDown, Same, EpochsFull, TooManyChanges}
use Rattle.ir_core.specs.Board.{is_link_up, is_heeded}
use Rattle.ir_core.specs.Codes.{change_number, install_number, refused_of}
use Rattle.ir_core.specs.Refusals.{install_refused, mark_refused, heed_refused, retire_refused}
use Rattle.ir_plan.specs.declared.error.PlanError.{PlanError}
use Rattle.ir_plan.specs.declared.error.PlanError.TheVariants as plan

of_change : (a b c : Bool) (first : Refused) → 0 < change_number first → IfSome (cond a (Some first) (cond b (Some Same) (cond c (Some TooManyChanges) None))) (λ e. 0 < change_number e)
of_change true b c first has = has
of_change false true c first has = omega arith
of_change false false true first has = omega arith
of_change false false false first has = tt

pub retirement : (b : Board) (floor : ℕ) → IfSome (retire_refused b floor) (λ e. 0 < change_number e)
retirement b floor = of_change (nat_lt b.current floor) (nat_le floor b.floor) (nat_le MAX_CHANGES b.version) NoEpoch (omega arith)

pub mark : (links : ℕ) (b : Board) (link : ℕ) (up : Bool) → IfSome (mark_refused links b link up) (λ e. 0 < change_number e)
mark links b link up = of_change (nat_le links link) (cond up (is_link_up b link) (not (is_link_up b link))) (nat_le MAX_CHANGES b.version) NoLink (omega arith)

of_heed : (a b c d : Bool) → IfSome (cond a (Some NoLink) (cond b (Some LinkDown) (cond c (Some Same) (cond d (Some TooManyChanges) None)))) (λ e. 0 < change_number e)
of_heed true b c d = omega arith
of_heed false true c d = omega arith
of_heed false false c d = of_change false c d NoLink (omega arith)

pub heed : (links : ℕ) (b : Board) (link : ℕ) (on : Bool) → IfSome (heed_refused links b link on) (λ e. 0 < change_number e)
heed links b link on =
    of_heed (nat_le links link) (not on && not (is_link_up b link)) (cond on (is_heeded b link) (not (is_heeded b link))) (nat_le MAX_CHANGES b.version)

of_install : (a b c : Bool) → IfSome (cond a (Some NoNode) (cond b (Some EpochsFull) (cond c (Some TooManyChanges) None))) (λ e. 0 < install_number e)
of_install true b c = omega arith
of_install false true c = omega arith
of_install false false true = omega arith
of_install false false false = tt

pub install : (nodes epochs : ℕ) (b : Board) (root : ℕ) → IfSome (install_refused nodes epochs b root) (λ e. 0 < install_number e)
install nodes epochs b root = of_install (nat_le nodes root) (nat_le MAX_EPOCHS epochs) (nat_le MAX_CHANGES b.version)

-- why there is no plan, said of an install
pub no_plan : (e : PlanError) → 0 < install_number (refused_of e)
no_plan plan.NoNode = omega arith
no_plan plan.Empty = omega arith
no_plan plan.Disconnected = omega arith
no_plan plan.NoMemory = omega arith

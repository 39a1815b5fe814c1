-- The numbers of the refusals, and what those of a plan come to.
use Rattle.std.specs.Prelude.{ℕ}
use Rattle.ir_core.specs.declared.event.Refused.{Refused}
use Rattle.ir_core.specs.declared.event.Refused.TheVariants as refused
use Rattle.ir_core.specs.declared.event.OpenError.{OpenError}
use Rattle.ir_core.specs.declared.event.OpenError.TheVariants as open_error
use Rattle.ir_plan.specs.declared.error.PlanError.{PlanError}
use Rattle.ir_plan.specs.declared.error.PlanError.TheVariants as plan_error

-- of all events
abbrev pub refusal_code : Refused → ℕ
refusal_code refused.NoNode = 1
refusal_code refused.NoLink = 2
refusal_code refused.NoChannel = 3
refusal_code refused.NoEpoch = 4
refusal_code refused.HandFull = 5
refusal_code refused.HandEmpty = 6
refusal_code refused.Empty = 7
refusal_code refused.BadView = 8
refusal_code refused.Same = 9
refusal_code refused.EpochsFull = 10
refusal_code refused.Disconnected = 11
refusal_code refused.TooManyPackets = 12
refusal_code refused.NoMemory = 13
refusal_code refused.InboxFull = 14
refusal_code refused.TooManyChanges = 15
refusal_code refused.Used = 16
refusal_code refused.LinkDown = 17

-- of an install, of a retirement or a mark, and of an injection: 0 where none is refused so
abbrev pub install_number : Refused → ℕ
install_number refused.NoNode = 1
install_number refused.EpochsFull = 2
install_number refused.Disconnected = 3
install_number refused.NoMemory = 4
install_number refused.TooManyChanges = 5
install_number refused.Used = 6
install_number _ = 0

abbrev pub change_number : Refused → ℕ
change_number refused.NoEpoch = 1
change_number refused.NoLink = 1
change_number refused.Same = 2
change_number refused.NoMemory = 3
change_number refused.TooManyChanges = 4
change_number refused.LinkDown = 5
change_number _ = 0

abbrev pub inject_number : Refused → ℕ
inject_number refused.NoNode = 1
inject_number refused.TooManyPackets = 2
inject_number refused.NoMemory = 3
inject_number refused.InboxFull = 4
inject_number _ = 0

-- of the opening of a world or a net
abbrev pub open_code : OpenError → ℕ
open_code open_error.NoNode = 1
open_code open_error.Empty = 2
open_code open_error.Disconnected = 3
open_code open_error.TooLarge = 4
open_code open_error.NoMemory = 5
open_code open_error.TooManyReaders = 6
open_code open_error.Used = 7

-- why there is no plan, as an opening says it, and as an event does: without a node there is no root
abbrev pub open_error_of : PlanError → OpenError
open_error_of plan_error.NoNode = open_error.NoNode
open_error_of plan_error.Empty = open_error.Empty
open_error_of plan_error.Disconnected = open_error.Disconnected
open_error_of plan_error.NoMemory = open_error.NoMemory

abbrev pub refused_of : PlanError → Refused
refused_of plan_error.NoNode = refused.NoNode
refused_of plan_error.Empty = refused.NoNode
refused_of plan_error.Disconnected = refused.Disconnected
refused_of plan_error.NoMemory = refused.NoMemory

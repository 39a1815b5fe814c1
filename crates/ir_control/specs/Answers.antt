-- What came of commands: the refusals by place, and the packets that were accepted.
use Rattle.std.specs.Prelude.{ℕ, ◌+◌, List, [], ◌∷◌, ◌++◌, Option, Some, None, Result, Ok, Err, length, nat_lt, cond}
use Rattle.ir_core.specs.declared.event.Refused.{Refused}
use Rattle.ir_core.specs.declared.command.Command.{Command}
use Rattle.ir_core.specs.declared.command.Command.TheVariants.{Inject, Install, Renumber, Retire, Down, Up, Avoid, Heed, Drain}
use Rattle.ir_epochs.specs.declared.registry.Stamp.{Stamp}
use Rattle.ir_control.specs.declared.injector.Accepted.{Accepted}

-- a command was accepted, with the stamp of the epoch that it installed if it did; or it was refused
abbrev pub CommandAnswer : Type 0
CommandAnswer = Result (Option Stamp) Refused

-- the answer of a command that installs nothing, where this is why it was refused if it was
abbrev pub command_answer : Option Refused → CommandAnswer
command_answer None = Ok None
command_answer (Some why) = Err why

-- why a command was refused, if it was
abbrev pub refusal_in : CommandAnswer → Option Refused
refusal_in (Ok installed) = None
refusal_in (Err why) = Some why

-- the refusal of one command, with its place
abbrev pub refusal_at : ℕ → Option Refused → List (ℕ × Refused)
refusal_at k None = []
refusal_at k (Some why) = (k, why) ∷ []

-- the refused commands' places and refusals, where the first answer is that of place k
abbrev pub refusals_from : ℕ → List CommandAnswer → List (ℕ × Refused)
refusals_from k [] = []
refusals_from k (answer ∷ answers) = refusal_at k (refusal_in answer) ++ refusals_from (k + 1) answers

-- the greatest epoch known, once an answer is known
abbrev pub epoch_after : ℕ → CommandAnswer → ℕ
epoch_after epoch (Ok None) = epoch
epoch_after epoch (Ok (Some s)) = cond (nat_lt epoch s.epoch) s.epoch epoch
epoch_after epoch (Err why) = epoch

-- the packet that one command put in, if it did
abbrev pub accepted_by : ℕ → ℕ → Command → CommandAnswer → List Accepted
accepted_by id epoch (Inject source dest) (Ok installed) = record { id = id; epoch = epoch; source = source; dest = dest } ∷ []
accepted_by id epoch (Inject source dest) (Err why) = []
accepted_by id epoch (Install kind root) answer = []
accepted_by id epoch (Renumber kind root) answer = []
accepted_by id epoch (Retire floor) answer = []
accepted_by id epoch (Down link) answer = []
accepted_by id epoch (Up link) answer = []
accepted_by id epoch (Avoid link) answer = []
accepted_by id epoch (Heed link) answer = []
accepted_by id epoch Drain answer = []

-- The packets of the commands that inject and were not refused, in order: numbered from `id` on, each stamped with the
-- greatest epoch among `epoch` and those that were installed before it.
abbrev pub accepted_from : ℕ → ℕ → List Command → List CommandAnswer → List Accepted
accepted_from id epoch [] answers = []
accepted_from id epoch (c ∷ commands) [] = []
accepted_from id epoch (c ∷ commands) (answer ∷ answers) =
    accepted_by id epoch c answer ++ accepted_from (id + length (accepted_by id epoch c answer)) (epoch_after epoch answer) commands answers

-- Why an injector refuses.
use Rattle.std.specs.Prelude.{◌≡◌, ◌⊎◌, ℕ, length, Option, Some, None, Result, MatchResult}
use Rattle.ir_model.specs.Topology.{node_count}
use Rattle.ir_core.specs.declared.event.Refused.{Refused}
use Rattle.ir_core.specs.declared.event.Refused.TheVariants.{NoMemory, InboxFull}
use Rattle.ir_core.specs.Refusals.{inject_refused}
use Rattle.ir_epochs.specs.Stamps.{knows}
use Rattle.ir_links.specs.Ends.{Word}
use Rattle.ir_worker.specs.Seen.{Parcel}
use Rattle.ir_control.specs.declared.injector.Injector.{Injector}
use Rattle.ir_control.specs.Outs.{WasRefusedAt}
use Rattle.ir_control.specs.Accepted.{IsInjected}

abbrev pub IsInjectRefusedAs : Word Parcel → Injector → ℕ → Refused → Option Refused → Type 0
IsInjectRefusedAs was_full injector source error (Some e) = error ≡ e
IsInjectRefusedAs was_full injector source error None = (error ≡ NoMemory) ⊎ ((error ≡ InboxFull) × WasRefusedAt was_full injector.outs.items source)

-- the first refusal, or else want of memory, or that the push into the inbox of the source was refused
abbrev pub IsInjectRefusal : Word Parcel → Injector → ℕ → ℕ → Refused → Type 0
IsInjectRefusal was_full injector source dest error =
    IsInjectRefusedAs was_full injector source error (inject_refused (node_count (knows injector.opening).topology) injector.max_packets (length injector.accepted.items) source dest)

-- nothing was put in
pub record InjectsNothing (before after : Injector) : Type 0 where
  pub outs : after.outs.items ≡ before.outs.items
  pub accepted : after.accepted.items ≡ before.accepted.items

-- what an injector answers to an inject, where the word records refused pushes
abbrev pub IsInjectAnswer : Word Parcel → ℕ → ℕ → Injector → Result ℕ Refused → Injector → Type 0
IsInjectAnswer was_full source dest before answer after = MatchResult answer
    (λ id. (inject_refused (node_count (knows before.opening).topology) before.max_packets (length before.accepted.items) source dest ≡ None)
    × IsInjected before after id source dest)
    (λ e. IsInjectRefusal was_full before source dest e × InjectsNothing before after)

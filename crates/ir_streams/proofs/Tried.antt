-- Calls that are made again where they were interrupted.
use Rattle.std.proofs.Common.{◌≡◌, ℕ, ◌+◌, ◌<◌, List, ◌++◌, take, Option, None, Some, Result, Ok, Err, refl, ap, ◌∙◌, add-one}
use Rattle.std.specs.Io.KnownBytes.{Keeps, WriteAppends}
use Rattle.ir_streams.specs.declared.TheConstants.{MAX_TRIES}
use Rattle.ir_streams.specs.declared.call.CallError.{CallError}
use Rattle.ir_streams.specs.declared.call.CallError.TheVariants.{Interrupted}
use Rattle.ir_streams.specs.Writing.{AreInterrupted, ComesTo}

keeps_none : (o : Option (List ℕ)) → Keeps o o
keeps_none None = record {}
keeps_none (Some xs) = refl

pub keeps_more : (a b c : Option (List ℕ)) → Keeps a b → Keeps b c → Keeps a c
keeps_more None b c h k = record {}
keeps_more (Some a) None c h k = absurd h
keeps_more (Some a) (Some b) None h k = absurd k
keeps_more (Some a) (Some b) (Some c) h k = k ∙ h

-- what is appended to what was kept
pub appends_after : {E : Type 0} (a b c : Option (List ℕ)) (r : Result ℕ E) (bytes : List ℕ) → Keeps a b → WriteAppends b c r bytes → WriteAppends a c r bytes
appends_after None b c (Ok n) bytes h k = record {}
appends_after (Some a) None c (Ok n) bytes h k = absurd h
appends_after (Some a) (Some b) None (Ok n) bytes h k = absurd k
appends_after (Some a) (Some b) (Some c) (Ok n) bytes h k = k ∙ ap (λ bs. bs ++ take n bytes) h
appends_after a b c (Err e) bytes h k = keeps_more a b c h k

module _ {W A : Type 0} (contents : W → Option (List ℕ)) (call : W → Result A CallError → W → Type 0) where
  -- So many calls were interrupted, and the writer holds what it held.
  pub record AreInVain (first : W) (turn : ℕ) (now : W) : Type 0 where
    pub interrupted : AreInterrupted call first turn now
    pub kept : Keeps (contents first) (contents now)

  pub in_vain_none : (first : W) → AreInVain first 0 first
  in_vain_none first = record { interrupted = refl; kept = keeps_none (contents first) }

  module _ (first : W) (turn : ℕ) (now last : W) (are : AreInVain first turn now) where
    pub in_vain_more : call now (Err Interrupted) last → Keeps (contents now) (contents last) → AreInVain first (turn + 1) last
    in_vain_more made kept = record { interrupted = rw add-one (now, are.interrupted, made); kept = keeps_more (contents first) (contents now) (contents last) are.kept kept }

    pub came_to : (outcome : Result A CallError) → call now outcome last → turn < MAX_TRIES → (outcome ≡ Err Interrupted → turn + 1 ≡ MAX_TRIES) → ComesTo call first outcome last
    came_to outcome made few gave_up = record { again = turn; mid = now; interrupted = are.interrupted; done = made; few = few; given_up = gave_up }

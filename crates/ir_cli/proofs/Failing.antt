-- What an error of the words says, from what the parser's error says.
use Rattle.std.proofs.Common.{◌≡◌, ◌≢◌, ◌⊎◌, ◌∙◌, Bool, true, false, List, Result, Ok, Err, IfErr, refl, sym, ap, subst, inl, inr, ⊎_elim, true≢false}
use Rattle.clap.specs.Words.{IsAmong, Kinds, Text}
use Rattle.clap.specs.declared.error.kind.ErrorKind.{ErrorKind}
use Rattle.clap.specs.declared.error.kind.ErrorKind.TheVariants as kinds
use Rattle.ir_cli.specs.declared.help.Called.{Called}
use Rattle.ir_cli.specs.declared.options.Choices.{Choices}
use Rattle.ir_cli.specs.declared.words.WordsError.{WordsError}
use Rattle.ir_cli.specs.declared.words.WordsError.TheVariants as refused
use Rattle.ir_cli.specs.CommandLine.{AreTheirWords}
use Rattle.ir_cli.specs.Meaning.{faults}
use Rattle.ir_cli.specs.Refusals.{AsksForHelpAs, FailsOn, IsMistake, RefusesAs}

-- an error that fails on less fails on more
pub fails_wider : (P Q R S : Type 0) (e : WordsError) → (P → R) → (Q → S) → FailsOn P Q e → FailsOn R S e
fails_wider P Q R S (refused.Usage text) p q h = p h
fails_wider P Q R S (refused.Help text) p q h = q h
fails_wider P Q R S refused.NoMemory p q h = tt

pub each_wider : {T : Type 0} (r : Result T WordsError) (P Q R S : Type 0) → (P → R) → (Q → S) → IfErr r (FailsOn P Q) → IfErr r (FailsOn R S)
each_wider (Ok x) P Q R S p q h = tt
each_wider (Err e) P Q R S p q h = fails_wider P Q R S e p q h

abbrev is_memory : ErrorKind → Bool
is_memory kinds.OutOfMemory = true
is_memory _ = false

other_kind : (k x : ErrorKind) → is_memory x ≡ false → k ≡ x → k ≢ kinds.OutOfMemory
other_kind k x not is memory = true≢false (ap is_memory (sym memory ∙ is) ∙ not)

among : (k x : ErrorKind) (all : Kinds) → is_memory x ≡ false → k ≡ x → ((k ≡ kinds.OutOfMemory) ⊎ IsAmong k all) → IsAmong x all
among k x all not is has = ⊎_elim (λ memory. absurd (other_kind k x not is memory)) (λ h. subst (λ (y : ErrorKind). IsAmong y all) is h) has

module _ (called : Called) (choices : Choices) (are : AreTheirWords choices) (typed : List Text) (k : ErrorKind) (has : (k ≡ kinds.OutOfMemory) ⊎ IsAmong k (faults called choices typed)) where
  -- a mistake that the parser found
  pub found_mistake : IsMistake k × (k ≢ kinds.OutOfMemory) → RefusesAs called typed
  found_mistake is = (choices, are, inl (k, ⊎_elim (λ memory. absurd (is.1 memory)) (λ h. h) has, is.0))

  -- a call for help or the version that it found
  pub found_call : ((k ≡ kinds.DisplayHelp) ⊎ (k ≡ kinds.DisplayVersion)) → AsksForHelpAs called typed
  found_call is = (
    choices,
    are,
    ⊎_elim (λ help. inl (among k kinds.DisplayHelp (faults called choices typed) refl help has))
        (λ version. inr (among k kinds.DisplayVersion (faults called choices typed) refl version has)) is,
  )

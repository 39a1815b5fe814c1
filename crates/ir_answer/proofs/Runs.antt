-- How a run ends.
use Rattle.std.proofs.Common.{◌≡◌, ◌≢◌, ℕ, Bool, List, Result, Ok, Err, inl, inr, refl, sym, subst}
use Rattle.ir_streams.specs.declared.reading.NoInput.{NoInput}
use Rattle.ir_streams.specs.declared.reading.NoInput.TheVariants.{Unreadable, TooLarge, NoMemory}
use Rattle.ir_cli.specs.declared.ending.Ending.{Ending}
use Rattle.ir_cli.specs.declared.ending.Ending.TheVariants as endings
use Rattle.ir_cli.specs.declared.read.Source.{Source}
use Rattle.ir_cli.specs.declared.words.Words.{Words}
use Rattle.ir_cli.specs.declared.words.Sub.{Sub}
use Rattle.ir_cli.specs.declared.words.Sub.TheVariants.{Plan, Walk, Stats, Compare, Diff, Draw, Prefixes, Ranges, Xdp, Sim, Live, Check}
use Rattle.ir_cli.specs.Answer.{Answer, Ran, Found, Refused, NoThread}
use Rattle.ir_cli.specs.Ending.{EndsAs}
use Rattle.ir_cli.specs.Notices.{notice_line}
use Rattle.ir_cli.specs.Replied.{RepliesAs, UnreadAs}
use Rattle.ir_cli.specs.Replies.{answer_of}
use Rattle.ir_cli.specs.declared.reply.RunReply.{RunReply}
use Rattle.ir_cli.specs.Words.{FitsItsKind}
use Rattle.ir_answer.specs.Asked.{PlainBy, AnswersBy, FitsSub, NoThreads}
use Rattle.ir_answer.specs.Formed.{asked_form, InForm}
use Rattle.ir_answer.specs.Runs.{Written, GivenAs}
use Rattle.ir_answer.specs.Stops.{Gives}
use Rattle.ir_answer.specs.declared.asking.AnswerStop.{AnswerStop}
use Rattle.ir_answer.specs.declared.asking.AnswerStop.TheVariants as stops

-- a source that was not read
pub given_up : (answers : List (List ℕ) → Answer → Type 0) (ending : Ending) (read : List (List ℕ) → Type 0) (stops : Source → NoInput → Type 0) (out : Bool → List ℕ → Type 0) (unused : Type 0) (told : List ℕ → Type 0)
    → (source : Source) (why : NoInput) → UnreadAs source ending why told → stops source why → unused → EndsAs answers ending read stops out unused told
given_up answers ending read stops out unused told source Unreadable outcome stopped nothing =
    subst (λ (e : Ending). EndsAs answers e read stops out unused told) (sym outcome.0) (source, stopped, nothing, outcome.1)
given_up answers ending read stops out unused told source TooLarge outcome stopped nothing =
    subst (λ (e : Ending). EndsAs answers e read stops out unused told) (sym outcome.0) (source, stopped, nothing, outcome.1)
given_up answers ending read stops out unused told source NoMemory outcome stopped nothing =
    subst (λ (e : Ending). EndsAs answers e read stops out unused told) (sym outcome.0) (inr (source, stopped), nothing, outcome.1)

-- what was given of an answer is how a run ends
module _ (P : List (List ℕ) → Answer → Type 0) (texts : List (List ℕ)) (out : Bool → List ℕ → Type 0) (unused : Type 0) (told : List ℕ → Type 0) where
  abbrev pub EndsSo : Ending → Type 0
  EndsSo ending = EndsAs P ending (λ read. read ≡ texts) (λ source why. ⊥) out unused told

  pub replied : (ending : Ending) (answer : Answer) → P texts answer → RepliesAs ending answer out unused told → EndsSo ending
  replied endings.Done (Ran text refused) holds given = (texts, text, refused, refl, holds, given.0, given.1)
  replied endings.Unreadable (Ran text refused) holds given = absurd given
  replied endings.TooLarge (Ran text refused) holds given = absurd given
  replied endings.Refused (Ran text refused) holds given = absurd given
  replied endings.Found (Ran text refused) holds given = absurd given
  replied endings.Unwritable (Ran text refused) holds given = (texts, Ran text refused, text, refl, holds, refl, given.0, given.1)
  replied endings.NoMemory (Ran text refused) holds given = (inl (texts, refl), given.0, given.1)
  replied endings.NoThread (Ran text refused) holds given = absurd given
  replied endings.Done (Found line) holds given = absurd given
  replied endings.Unreadable (Found line) holds given = absurd given
  replied endings.TooLarge (Found line) holds given = absurd given
  replied endings.Refused (Found line) holds given = absurd given
  replied endings.Found (Found line) holds given = (texts, line, refl, holds, given.0, given.1)
  replied endings.Unwritable (Found line) holds given = (texts, Found line, line, refl, holds, refl, given.0, given.1)
  replied endings.NoMemory (Found line) holds given = (inl (texts, refl), given.0, given.1)
  replied endings.NoThread (Found line) holds given = absurd given
  replied endings.Done (Refused line) holds given = absurd given
  replied endings.Unreadable (Refused line) holds given = absurd given
  replied endings.TooLarge (Refused line) holds given = absurd given
  replied endings.Refused (Refused line) holds given = (texts, line, refl, holds, given.0, given.1)
  replied endings.Found (Refused line) holds given = absurd given
  replied endings.Unwritable (Refused line) holds given = absurd given
  replied endings.NoMemory (Refused line) holds given = (inl (texts, refl), given.0, given.1)
  replied endings.NoThread (Refused line) holds given = absurd given
  replied endings.Done NoThread holds given = absurd given
  replied endings.Unreadable NoThread holds given = absurd given
  replied endings.TooLarge NoThread holds given = absurd given
  replied endings.Refused NoThread holds given = absurd given
  replied endings.Found NoThread holds given = absurd given
  replied endings.Unwritable NoThread holds given = absurd given
  replied endings.NoMemory NoThread holds given = (inl (texts, refl), given.0, given.1)
  replied endings.NoThread NoThread holds given = (texts, refl, holds, given.0, given.1)

-- what was given of an answer in the form that the words ask for is how a run ends
module _ (P : List (List ℕ) → Answer → Type 0) (sub : Sub) (words : Words) (texts : List (List ℕ)) (to : Written) where
  pub ends_given : (given : Result RunReply AnswerStop) (ending : Ending) → Gives (P texts) given → GivenAs (asked_form sub words) given ending to
      → EndsSo (InForm sub words P) texts to.out to.unused to.told ending
  ends_given (Ok reply) ending holds given =
      replied (InForm sub words P) texts to.out to.unused to.told ending (asked_form sub words (answer_of reply)) (answer_of reply, holds, refl) given
  ends_given (Err (stops.Refused notice)) ending holds given =
      replied (InForm sub words P) texts to.out to.unused to.told ending (Refused (notice_line notice)) (Refused (notice_line notice), holds, refl) given
  ends_given (Err stops.NoMemory) ending holds (same, nothing, line) =
      subst (EndsSo (InForm sub words P) texts to.out to.unused to.told) (sym same) (inl (texts, refl), nothing, line)

-- a run over texts that were read, by what that says
module _ (P : List (List ℕ) → Answer → Type 0) (texts : List (List ℕ)) (read : List (List ℕ) → Type 0) (was_read : read texts)
    (stops : Source → NoInput → Type 0) (out : Bool → List ℕ → Type 0) (unused : Type 0) (told : List ℕ → Type 0) where
  pub ends_read : (ending : Ending) → EndsSo P texts out unused told ending → EndsAs P ending read stops out unused told
  ends_read endings.Done (ts, text, refused, same, answers, wrote, line) = (ts, text, refused, subst read (sym same) was_read, answers, wrote, line)
  ends_read endings.Unreadable (source, none, nothing, was_told) = absurd none
  ends_read endings.TooLarge (source, none, nothing, was_told) = absurd none
  ends_read endings.Refused (ts, line, same, answers, nothing, was_told) = (ts, line, subst read (sym same) was_read, answers, nothing, was_told)
  ends_read endings.Found (ts, line, same, answers, wrote, was_told) = (ts, line, subst read (sym same) was_read, answers, wrote, was_told)
  ends_read endings.Unwritable (ts, answer, text, same, answers, is_printed, wrote, was_told) =
      (ts, answer, text, subst read (sym same) was_read, answers, is_printed, wrote, was_told)
  ends_read endings.NoMemory (inl (ts, same), nothing, line) = (inl (ts, subst read (sym same) was_read), nothing, line)
  ends_read endings.NoMemory (inr (source, none), nothing, line) = absurd none
  ends_read endings.NoThread (ts, same, answers, nothing, was_told) = (ts, subst read (sym same) was_read, answers, nothing, was_told)

-- a run that ends by some answers ends by more
module _ (P Q : List (List ℕ) → Answer → Type 0) (more : (texts : List (List ℕ)) (answer : Answer) → P texts answer → Q texts answer)
    (read : List (List ℕ) → Type 0) (stops : Source → NoInput → Type 0) (out : Bool → List ℕ → Type 0) (unused : Type 0) (told : List ℕ → Type 0) where
  pub ends_as_more : (ending : Ending) → EndsAs P ending read stops out unused told → EndsAs Q ending read stops out unused told
  ends_as_more endings.Done (texts, text, refused, was_read, answers, wrote, line) =
      (texts, text, refused, was_read, more texts (Ran text refused) answers, wrote, line)
  ends_as_more endings.Unreadable holds = holds
  ends_as_more endings.TooLarge holds = holds
  ends_as_more endings.Refused (texts, line, was_read, answers, nothing, was_told) =
      (texts, line, was_read, more texts (Refused line) answers, nothing, was_told)
  ends_as_more endings.Found (texts, line, was_read, answers, wrote, was_told) =
      (texts, line, was_read, more texts (Found line) answers, wrote, was_told)
  ends_as_more endings.Unwritable (texts, answer, text, was_read, answers, is_printed, wrote, was_told) =
      (texts, answer, text, was_read, more texts answer answers, is_printed, wrote, was_told)
  ends_as_more endings.NoMemory holds = holds
  ends_as_more endings.NoThread (texts, was_read, answers, nothing, was_told) = (texts, was_read, more texts NoThread answers, nothing, was_told)

-- what is answered to another subcommand hangs on no answer of `live`
plain_without_live : (live : Words → List (List ℕ) → Answer → Type 0) (sub : Sub) → sub ≢ Live → (words : Words) (texts : List (List ℕ)) (answer : Answer)
    → PlainBy NoThreads sub words texts answer → PlainBy live sub words texts answer
plain_without_live live Plan other words texts answer holds = holds
plain_without_live live Walk other words texts answer holds = holds
plain_without_live live Stats other words texts answer holds = holds
plain_without_live live Compare other words texts answer holds = holds
plain_without_live live Diff other words texts answer holds = holds
plain_without_live live Draw other words texts answer holds = holds
plain_without_live live Prefixes other words texts answer holds = holds
plain_without_live live Ranges other words texts answer holds = holds
plain_without_live live Xdp other words texts answer holds = holds
plain_without_live live Sim other words texts answer holds = holds
plain_without_live live Live other words texts answer holds = absurd (other refl)
plain_without_live live Check other words texts answer holds = holds

pub without_live : (live : Words → List (List ℕ) → Answer → Type 0) (sub : Sub) → sub ≢ Live → (words : Words) (texts : List (List ℕ)) (answer : Answer)
    → AnswersBy NoThreads sub words texts answer → AnswersBy live sub words texts answer
without_live live sub other words texts answer (plain, holds, same) = (plain, plain_without_live live sub other words texts plain holds, same)

-- words that fit their kind fit each subcommand
pub fits_sub : (sub : Sub) (words : Words) → FitsItsKind words → FitsSub sub words
fits_sub Plan words fits = fits
fits_sub Walk words fits = fits
fits_sub Stats words fits = fits
fits_sub Compare words fits = tt
fits_sub Diff words fits = tt
fits_sub Draw words fits = fits
fits_sub Prefixes words fits = fits
fits_sub Ranges words fits = fits
fits_sub Xdp words fits = fits
fits_sub Sim words fits = tt
fits_sub Live words fits = tt
fits_sub Check words fits = tt

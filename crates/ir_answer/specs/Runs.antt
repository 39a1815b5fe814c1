-- How a run of a subcommand ends, by what it did to its readers and its writers.
use Rattle.std.specs.Prelude.{◌≡◌, ℕ, Bool, List, Result, Ok, Err}
use Rattle.ir_streams.specs.declared.reading.Reader as reader
use Rattle.ir_streams.specs.declared.reading.NoInput.{NoInput}
use Rattle.ir_streams.specs.declared.writing.Writer as writer
use Rattle.ir_cli.specs.declared.ending.Ending.{Ending}
use Rattle.ir_cli.specs.declared.ending.Ending.TheVariants as endings
use Rattle.ir_cli.specs.declared.read.Source.{Source}
use Rattle.ir_cli.specs.declared.reply.RunReply.{RunReply}
use Rattle.ir_cli.specs.declared.words.Sub.{Sub}
use Rattle.ir_cli.specs.declared.words.Words.{Words}
use Rattle.ir_cli.specs.Answer.{Answer, Refused}
use Rattle.ir_cli.specs.Ending.{EndsAs, Ends}
use Rattle.ir_cli.specs.Lines.{out_of_memory_line}
use Rattle.ir_cli.specs.Notices.{notice_line}
use Rattle.ir_cli.specs.Reading.{AreRead, IsUnread}
use Rattle.ir_cli.specs.Replied.{RepliesAs}
use Rattle.ir_cli.specs.Replies.{answer_of}
use Rattle.ir_cli.specs.Told.{Sends, Tells}
use Rattle.ir_answer.specs.declared.asking.AnswerStop.{AnswerStop}
use Rattle.ir_answer.specs.declared.asking.AnswerStop.TheVariants as stops
use Rattle.ir_answer.specs.Asked.{sources_by, AnswersBy}

-- What the writers of a run were given. `out` says that the output was given this text, and whether it took all of it, and
-- `unused` that it was given nothing; `told` says that the faults were given these lines.
pub record Written : Type 1 where
  pub out : Bool → List ℕ → Type 0
  pub unused : Type 0
  pub told : List ℕ → Type 0

-- What a run did. `read` says that these are the texts of all inputs, and `stops` that the reading of inputs of these
-- sources stopped at this one, and why.
pub record RunIo : Type 1 where
  pub read : List (List ℕ) → Type 0
  pub stops : List Source → Source → NoInput → Type 0
  pub written : Written

-- the writers of a run, each as it was before and as it is after it
abbrev pub written_of : {W F : Type 0} → writer.Ghosts W → writer.Ghosts F → W → W → F → F → Written
written_of w f output written faults told =
    record {
      out = Sends w.contents w.wrote w.settled output written;
      unused = written ≡ output;
      told = Tells f.contents f.wrote f.settled faults told;
    }

-- the readers and the writers of a run, each as it was before and as it is after it
abbrev pub io_of : {R W F : Type 0} → reader.Ghosts R → writer.Ghosts W → writer.Ghosts F → List R → List R → W → W → F → F → RunIo
io_of r w f inputs read output written faults told =
    record {
      read = λ texts. AreRead r.remaining r.gave inputs texts read;
      stops = λ sources. IsUnread r.remaining r.gave sources inputs read;
      written = written_of w f output written faults told;
    }

-- the writers of a run over texts that were read before it
abbrev pub io_over : List (List ℕ) → Written → RunIo
io_over texts written = record { read = λ read. read ≡ texts; stops = λ sources source why. ⊥; written = written }

-- what the writers were given of an answer in a form or of a refusal, or of want of memory
abbrev pub GivenAs : (Answer → Answer) → Result RunReply AnswerStop → Ending → Written → Type 0
GivenAs form (Ok reply) ending to = RepliesAs ending (form (answer_of reply)) to.out to.unused to.told
GivenAs form (Err (stops.Refused notice)) ending to = RepliesAs ending (Refused (notice_line notice)) to.out to.unused to.told
GivenAs form (Err stops.NoMemory) ending to = (ending ≡ endings.NoMemory) × to.unused × to.told out_of_memory_line

-- of a subcommand by these words, of which the answers of `live` are these
module _ (live : Words → List (List ℕ) → Answer → Type 0) (sub : Sub) (words : Words) where
  -- A run ends so by the answers of the subcommand.
  abbrev pub RunEndsAs : Ending → RunIo → Type 0
  RunEndsAs ending io =
      EndsAs (AnswersBy live sub words) ending io.read (io.stops (sources_by sub words)) io.written.out io.written.unused io.written.told

  -- A run with this exit status ends by the answers of the subcommand.
  abbrev pub RunEnds : ℕ → RunIo → Type 0
  RunEnds status io =
      Ends (AnswersBy live sub words) status io.read (io.stops (sources_by sub words)) io.written.out io.written.unused io.written.told

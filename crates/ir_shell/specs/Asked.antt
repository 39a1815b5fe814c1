-- The answers of `live` to the texts of its inputs.
use Rattle.std.specs.Prelude.{ℕ, List}
use Rattle.ir_model.specs.Text.{lines}
use Rattle.ir_links.specs.declared.moments.Moments as Moments
use Rattle.ir_epochs.specs.declared.looks.Looks as Looks
use Rattle.ir_worker.specs.Seen.{Parcel}
use Rattle.ir_control.specs.declared.starter.Starter as Starter
use Rattle.ir_cli.specs.declared.ending.Ending.{Ending}
use Rattle.ir_cli.specs.declared.words.Sub.TheVariants.{Live}
use Rattle.ir_cli.specs.declared.words.Words.{Words}
use Rattle.ir_cli.specs.Answer.{Answer}
use Rattle.ir_cli.specs.Openings.{AnswersTopology}
use Rattle.ir_answer.specs.Asked.{AreTwo}
use Rattle.ir_answer.specs.Runs.{RunIo, RunEndsAs}
use Rattle.ir_shell.specs.Lives.{AnswersLiveScript}

-- in the words of a runtime
module _ {T Place : Type 0} (moments : Moments.Ghosts T Parcel Place) (looks : Looks.Ghosts T Parcel) (starter : Starter.Ghosts T) (rt : T) where
  -- the answers to the texts of a topology and of a script
  abbrev pub LiveAnswers : Words → List (List ℕ) → Answer → Type 0
  LiveAnswers words texts answer =
      (topology script : List ℕ) × AreTwo texts topology script
      × AnswersTopology words.format (lines topology) (AnswersLiveScript moments looks starter rt words (lines script)) answer

  -- A live run ends so.
  abbrev pub LiveEndsAs : Words → Ending → RunIo → Type 0
  LiveEndsAs words = RunEndsAs LiveAnswers Live words

  -- A run of the subcommand of the words ends so.
  abbrev pub FollowsAs : Words → Ending → RunIo → Type 0
  FollowsAs words = RunEndsAs LiveAnswers words.sub words

-- The program's replies as answers.
use Rattle.std.specs.Prelude.{[], string_bytes}
use Rattle.ir_cli.specs.declared.reply.RunReply.{RunReply}
use Rattle.ir_cli.specs.declared.reply.RunReply.TheVariants as replies
use Rattle.ir_cli.specs.Answer.{Answer, Ran, Found, NoThread}
use Rattle.ir_cli.specs.Lines.{ok_line, steps_text}
use Rattle.ir_cli.specs.Notices.{notice_line}

abbrev pub answer_of : RunReply → Answer
answer_of (replies.Ran text steps) = Ran (string_bytes text) (steps_text steps.items)
answer_of (replies.Bytes bytes) = Ran bytes.items []
answer_of (replies.Plan text) = Ran text []
answer_of (replies.Sound rows) = Ran (ok_line rows) []
answer_of (replies.Found notice) = Found (notice_line notice)
answer_of replies.NoThread = NoThread

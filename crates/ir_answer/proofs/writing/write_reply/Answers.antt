use Rattle.std.proofs.Common.{◌≡◌, ◌∙◌, ℕ, List, [], string_bytes, refl, sym, ap}
use Rattle.ir_cli.specs.Answer.{Ran}
use Rattle.ir_cli.specs.declared.notice.Notice.TheVariants.{Sound}
use Rattle.ir_cli.specs.Lines.{ok_line, steps_text}
use Rattle.ir_cli.specs.declared.reply.RunReply.{RunReply}
use Rattle.ir_cli.specs.Replies.{answer_of}
use Rattle.ir_cli.specs.Notices.{notice_line, told_text}
use Rattle.ir_cli.specs.Told.{Sends, Tells}
use Rattle.ir_answer.specs.Formed.{in_shape, shaped}
use Rattle.ir_answer.proofs.Ended.{told_behind, found_behind, ran_behind, none_behind, finding_behind}
use Rattle.ir_answer.proofs.writing.write_reply.Goals as goal

pub returns-in-Ok-clause-told : goal.returns-in-Ok-clause-told
returns-in-Ok-clause-told g c =
    told_behind c.whole-told.result c.ended.result c.as_bytes.result.now (Tells g.F.Writer.contents g.F.Writer.wrote g.F.Writer.settled c.args.faults.now c.ended.new.faults)
    c.put_text-put.result
    (ap told_text c.whole-told.ensures.told ∙ ap steps_text (sym c.as_slice.ensures.value) ∙ sym c.in-Ok.ensures ∙ sym c.as_bytes.ensures.value) c.ended.ensures

pub returns-in-Bytes-clause-told : goal.returns-in-Bytes-clause-told
returns-in-Bytes-clause-told g c =
    told_behind c.whole-told-in-Bytes.result c.ended-in-Bytes.result _ (Tells g.F.Writer.contents g.F.Writer.wrote g.F.Writer.settled c.args.faults.now c.ended-in-Bytes.new.faults)
    c.put_bytes-put.result (ap told_text c.whole-told-in-Bytes.ensures.told ∙ ap steps_text c.new.ensures.items) c.ended-in-Bytes.ensures

pub returns-in-Plan-clause-told : goal.returns-in-Plan-clause-told
returns-in-Plan-clause-told g c =
    told_behind c.whole-told-in-Plan.result c.ended-in-Plan.result _ (Tells g.F.Writer.contents g.F.Writer.wrote g.F.Writer.settled c.args.faults.now c.ended-in-Plan.new.faults)
    c.put_plan-put.result (ap told_text c.whole-told-in-Plan.ensures.told ∙ ap steps_text c.new-in-Plan.ensures.items) c.ended-in-Plan.ensures

pub returns-in-Sound-clause-told : goal.returns-in-Sound-clause-told
returns-in-Sound-clause-told g c =
    told_behind c.whole-told-in-Sound.result c.ended-in-Sound.result _ (Tells g.F.Writer.contents g.F.Writer.wrote g.F.Writer.settled c.args.faults.now c.ended-in-Sound.new.faults)
    c.put_notice-put.result (ap told_text c.whole-told-in-Sound.ensures.told ∙ ap steps_text c.new-in-Sound.ensures.items) c.ended-in-Sound.ensures

pub returns-in-Sound-clause-found : goal.returns-in-Sound-clause-found
returns-in-Sound-clause-found g c =
    let output = c.args.output.now in
    let new = c.put_notice-put.new.output in
    found_behind c.whole-told-in-Sound.result c.ended-in-Sound.result _ (Tells g.F.Writer.contents g.F.Writer.wrote g.F.Writer.settled c.args.faults.now c.ended-in-Sound.new.faults)
    c.put_notice-put.result (in_shape c.args.form.shape) (shaped c.args.form.shape (notice_line (Sound c.in-Sound.rows)))
    (Sends g.W.Writer.contents g.W.Writer.wrote g.W.Writer.settled output new) (new ≡ output) (Sound c.in-Sound.rows)
    c.whole-told-in-Sound.ensures.found refl c.put_notice-put.ensures c.ended-in-Sound.ensures

pub returns-in-Ok-clause-ends : goal.returns-in-Ok-clause-ends
returns-in-Ok-clause-ends g c =
    let shape = c.args.form.shape in
    ran_behind c.whole-told.result c.ended.result c.as_bytes.result.now (Tells g.F.Writer.contents g.F.Writer.wrote g.F.Writer.settled c.args.faults.now c.ended.new.faults)
    c.put_text-put.result (in_shape shape (answer_of c.args.reply)) (shaped shape (string_bytes c.in-Ran.text)) (steps_text c.in-Ran.steps.items) (Sends g.W.Writer.contents g.W.Writer.wrote g.W.Writer.settled c.args.output.now c.put_text-put.new.output) (c.put_text-put.new.output ≡ c.args.output.now)
    (ap (λ (reply : RunReply). in_shape shape (answer_of reply)) c.in-Ran.is) c.whole-told.ensures.ending (ap steps_text (sym c.as_slice.ensures.value) ∙ sym c.in-Ok.ensures ∙ sym c.as_bytes.ensures.value) c.put_text-put.ensures c.ended.ensures

pub returns-in-Ok-clause-found : goal.returns-in-Ok-clause-found
returns-in-Ok-clause-found g c =
    none_behind c.whole-told.result c.ended.result c.as_bytes.result.now (Tells g.F.Writer.contents g.F.Writer.wrote g.F.Writer.settled c.args.faults.now c.ended.new.faults)
    c.put_text-put.result (in_shape c.args.form.shape) (Sends g.W.Writer.contents g.W.Writer.wrote g.W.Writer.settled c.args.output.now c.put_text-put.new.output) c.whole-told.ensures.ending c.whole-told.ensures.found c.ended.ensures

pub returns-in-Bytes-clause-ends : goal.returns-in-Bytes-clause-ends
returns-in-Bytes-clause-ends g c =
    let shape = c.args.form.shape in
    ran_behind c.whole-told-in-Bytes.result c.ended-in-Bytes.result [] (Tells g.F.Writer.contents g.F.Writer.wrote g.F.Writer.settled c.args.faults.now c.ended-in-Bytes.new.faults)
    c.put_bytes-put.result (in_shape shape (answer_of c.args.reply)) (shaped shape c.as_slice-in-Bytes.result.now) [] (Sends g.W.Writer.contents g.W.Writer.wrote g.W.Writer.settled c.args.output.now c.put_bytes-put.new.output) (c.put_bytes-put.new.output ≡ c.args.output.now)
    (ap (λ (reply : RunReply). in_shape shape (answer_of reply)) c.in-Bytes.is ∙ ap (λ (text : List ℕ). Ran (shaped shape text) []) (sym c.as_slice-in-Bytes.ensures.value)) c.whole-told-in-Bytes.ensures.ending refl c.put_bytes-put.ensures c.ended-in-Bytes.ensures

pub returns-in-Plan-clause-ends : goal.returns-in-Plan-clause-ends
returns-in-Plan-clause-ends g c =
    let shape = c.args.form.shape in
    ran_behind c.whole-told-in-Plan.result c.ended-in-Plan.result [] (Tells g.F.Writer.contents g.F.Writer.wrote g.F.Writer.settled c.args.faults.now c.ended-in-Plan.new.faults)
    c.put_plan-put.result (in_shape shape (answer_of c.args.reply)) (shaped shape c.in-Plan.text) [] (Sends g.W.Writer.contents g.W.Writer.wrote g.W.Writer.settled c.args.output.now c.put_plan-put.new.output) (c.put_plan-put.new.output ≡ c.args.output.now)
    (ap (λ (reply : RunReply). in_shape shape (answer_of reply)) c.in-Plan.is) c.whole-told-in-Plan.ensures.ending refl c.put_plan-put.ensures c.ended-in-Plan.ensures

pub returns-in-Bytes-clause-found : goal.returns-in-Bytes-clause-found
returns-in-Bytes-clause-found g c =
    none_behind c.whole-told-in-Bytes.result c.ended-in-Bytes.result [] (Tells g.F.Writer.contents g.F.Writer.wrote g.F.Writer.settled c.args.faults.now c.ended-in-Bytes.new.faults)
    c.put_bytes-put.result (in_shape c.args.form.shape) (Sends g.W.Writer.contents g.W.Writer.wrote g.W.Writer.settled c.args.output.now c.put_bytes-put.new.output) c.whole-told-in-Bytes.ensures.ending c.whole-told-in-Bytes.ensures.found c.ended-in-Bytes.ensures

pub returns-in-Plan-clause-found : goal.returns-in-Plan-clause-found
returns-in-Plan-clause-found g c =
    none_behind c.whole-told-in-Plan.result c.ended-in-Plan.result [] (Tells g.F.Writer.contents g.F.Writer.wrote g.F.Writer.settled c.args.faults.now c.ended-in-Plan.new.faults)
    c.put_plan-put.result (in_shape c.args.form.shape) (Sends g.W.Writer.contents g.W.Writer.wrote g.W.Writer.settled c.args.output.now c.put_plan-put.new.output) c.whole-told-in-Plan.ensures.ending c.whole-told-in-Plan.ensures.found c.ended-in-Plan.ensures

pub returns-in-Sound-clause-ends : goal.returns-in-Sound-clause-ends
returns-in-Sound-clause-ends g c =
    let shape = c.args.form.shape in
    ran_behind c.whole-told-in-Sound.result c.ended-in-Sound.result [] (Tells g.F.Writer.contents g.F.Writer.wrote g.F.Writer.settled c.args.faults.now c.ended-in-Sound.new.faults)
    c.put_notice-put.result (in_shape shape (answer_of c.args.reply)) (shaped shape (ok_line c.in-Sound.rows)) [] (Sends g.W.Writer.contents g.W.Writer.wrote g.W.Writer.settled c.args.output.now c.put_notice-put.new.output) (c.put_notice-put.new.output ≡ c.args.output.now)
    (ap (λ (reply : RunReply). in_shape shape (answer_of reply)) c.in-Sound.is) c.whole-told-in-Sound.ensures.ending refl c.put_notice-put.ensures c.ended-in-Sound.ensures

pub returns-in-Found-clause-ends : goal.returns-in-Found-clause-ends
returns-in-Found-clause-ends g c =
    let shape = c.args.form.shape in
    finding_behind c.whole-told-in-Found.result c.ended-in-Found.result (Tells g.F.Writer.contents g.F.Writer.wrote g.F.Writer.settled c.args.faults.now c.ended-in-Found.new.faults)
    c.put_notice-put-in-Found.result (in_shape shape (answer_of c.args.reply)) (shaped shape (notice_line c.in-Found.notice)) (Sends g.W.Writer.contents g.W.Writer.wrote g.W.Writer.settled c.args.output.now c.put_notice-put-in-Found.new.output) (c.put_notice-put-in-Found.new.output ≡ c.args.output.now)
    (ap (λ (reply : RunReply). in_shape shape (answer_of reply)) c.in-Found.is) c.whole-told-in-Found.ensures.ending c.put_notice-put-in-Found.ensures c.ended-in-Found.ensures

pub returns-in-Found-clause-told : goal.returns-in-Found-clause-told
returns-in-Found-clause-told g c =
    told_behind c.whole-told-in-Found.result c.ended-in-Found.result _ (Tells g.F.Writer.contents g.F.Writer.wrote g.F.Writer.settled c.args.faults.now c.ended-in-Found.new.faults)
    c.put_notice-put-in-Found.result (ap told_text c.whole-told-in-Found.ensures.told ∙ ap steps_text c.new-in-Found.ensures.items) c.ended-in-Found.ensures

pub returns-in-Found-clause-found : goal.returns-in-Found-clause-found
returns-in-Found-clause-found g c =
    let shape = c.args.form.shape in
    found_behind c.whole-told-in-Found.result c.ended-in-Found.result _ (Tells g.F.Writer.contents g.F.Writer.wrote g.F.Writer.settled c.args.faults.now c.ended-in-Found.new.faults)
    c.put_notice-put-in-Found.result (in_shape shape) (shaped shape (notice_line c.in-Found.notice)) (Sends g.W.Writer.contents g.W.Writer.wrote g.W.Writer.settled c.args.output.now c.put_notice-put-in-Found.new.output) (c.put_notice-put-in-Found.new.output ≡ c.args.output.now) c.in-Found.notice
    c.whole-told-in-Found.ensures.found refl c.put_notice-put-in-Found.ensures c.ended-in-Found.ensures

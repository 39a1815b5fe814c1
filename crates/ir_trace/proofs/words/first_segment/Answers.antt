use Rattle.std.proofs.Common.{◌-◌, [], refl, arith, length, take, drop, get_or}
use Rattle.ir_trace.proofs.ReadParts.{first_begins, head_tail}
use Rattle.ir_trace.proofs.words.first_segment.Goals as goal

pub returns-clause-begins : goal.returns-clause-begins
returns-clause-begins c =
    let words = c.args.words.now in
    let tail = take (length words - 1) (drop 1 words) in
    first_begins words tail (get_or words 0 (record { ref_ptr = (0, 0); now = [] })) c.in_ok-epoch.epoch c.hop_count-count.result (head_tail words (record { ref_ptr = (0, 0); now = [] }) (omega arith))
    (omega arith) c.in_ok-epoch.ensures c.hop_count-count.ensures.count c.hop_count-count.ensures.within (omega (arith, c.if-count-eq0.false)) _ refl

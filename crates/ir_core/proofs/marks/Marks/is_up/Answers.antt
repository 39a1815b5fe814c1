use Rattle.std.proofs.Common.{true, get_or, List, Bool, sym, ap, ◌∙◌, arith, length}
use Rattle.std.proofs.lemmas.List.{get_or_past}
use Rattle.ir_core.specs.MarkLaws.{length-marks_in}
use Rattle.ir_core.proofs.MarkWords.{mark_read}
use Rattle.ir_core.proofs.marks.Marks.is_up.Goals as goal

pub returns-then-link-lt-MAX_LINKS : goal.returns-then-link-lt-MAX_LINKS
returns-then-link-lt-MAX_LINKS c =
    mark_read c.self.inside.words c.args.link c.self.invariant c.if-link-lt-MAX_LINKS.true ∙ ap (λ (marks : List Bool). get_or marks c.args.link true) c.self.view_is

pub returns-else-link-lt-MAX_LINKS : goal.returns-else-link-lt-MAX_LINKS
returns-else-link-lt-MAX_LINKS c =
    let n = ap (λ (marks : List Bool). length marks) c.self.view_is in
    let m = length-marks_in c.self.inside.words in
    sym (get_or_past c.args.self.now c.args.link true (omega (arith, n, m, c.self.invariant.0, c.if-link-lt-MAX_LINKS.false)))

use Rattle.std.proofs.Common.{List, Bool, ap, set, ◌∙◌, inl, inr}
use Rattle.ir_core.proofs.MarkWords.{marked_as}
use Rattle.ir_core.proofs.marks.Marks.mark.Goals as goal
use Rattle.ir_core.proofs.marks.Marks.mark.Goals.{then-up, else-up}

pub invariant_of-self : goal.invariant_of-self
invariant_of-self c =
    (marked_as c.self.inside.words c.args.link c.if-up.self c.args.up c.self.invariant c.requires
    (elim c.if-up.branch [ then-up w ↦ inl (w.if-up.true, w.self-is) | else-up w ↦ inr (w.if-up.false, w.self-is) ])).0

pub returns : goal.returns
returns c =
    (marked_as c.self.inside.words c.args.link c.if-up.self c.args.up c.self.invariant c.requires
    (elim c.if-up.branch [ then-up w ↦ inl (w.if-up.true, w.self-is) | else-up w ↦ inr (w.if-up.false, w.self-is) ])).1
    ∙ ap (λ (marks : List Bool). set marks c.args.link c.args.up) c.self.view_is

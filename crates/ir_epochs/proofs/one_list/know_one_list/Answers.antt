use Rattle.std.proofs.Common.{List, ap, ◌∙◌, subst}
use mathlib.Core.List.{IsPrefix}
use Rattle.ir_epochs.specs.declared.entry.Entry.{Entry}
use Rattle.ir_epochs.proofs.Fronts.{prefix_either}
use Rattle.ir_epochs.proofs.one_list.know_one_list.Goals as goal

pub returns : goal.returns
returns g c =
    let both = c.learn.new.self.log in
    let mine : IsPrefix (g.A.Follows.entries c.args.a.now) both = subst (λ (l : List Entry). IsPrefix l both) (ap (λ s. s.log) c.again-both.ensures ∙ c.front-one.ensures.0) c.learn.ensures.2 in
    let theirs : IsPrefix (g.B.Follows.entries c.args.b.now) both = subst (λ (l : List Entry). IsPrefix l both) c.front-other.ensures.0 c.learn.ensures.3 in
    prefix_either _ _ both mine theirs

use Rattle.std.proofs.Common.{◌≡◌, ◌≤◌, List, length, ap, ◌∙◌, subst, arith}
use mathlib.Core.List.{IsPrefix}
use Rattle.ir_epochs.specs.declared.entry.Entry.{Entry}
use Rattle.ir_epochs.specs.Handles.{published, known}
use Rattle.ir_epochs.proofs.Fronts.{prefix_shorter, prefix_length, prefix_trans}
use Rattle.ir_epochs.proofs.handles.BoardWriter.leads.Goals as goal

pub returns-clause-led : goal.returns-clause-led
returns-clause-led g c =
    let both = c.learn.new.self.log in
    let all = c.bound.new.front.log in
    let mine : IsPrefix (published c.args.self.now) both = subst (λ (l : List Entry). IsPrefix l both) (ap (λ s. s.log) c.again-both.ensures ∙ c.published.ensures.0) c.learn.ensures.2 in
    let theirs : IsPrefix (known c.args.reader.now) both = subst (λ (l : List Entry). IsPrefix l both) c.known.ensures.0 c.learn.ensures.3 in
    let shorter = prefix_length (known c.args.reader.now) both theirs in
    let short = prefix_length both all c.bound.ensures.later in
    let most = c.bound.ensures.most in
    let next = c.args.self.now.next in
    prefix_shorter (known c.args.reader.now) (published c.args.self.now) both theirs mine (omega (arith, shorter, short, most, next))

use Rattle.std.proofs.Common.{◌≤◌, List, length, ap, subst, arith}
use mathlib.Core.List.{IsPrefix}
use Rattle.ir_epochs.specs.declared.entry.Entry.{Entry}
use Rattle.ir_epochs.proofs.Fronts.{prefix_shorter}
use Rattle.ir_epochs.proofs.Rising.{later_of}
use Rattle.ir_epochs.proofs.handles.note.Goals as goal

pub returns-then-version-clause-old : goal.returns-then-version-clause-old
returns-then-version-clause-old c =
    let mine = c.args.newest.now.front.log in
    let both = c.learn.new.self.log in
    let this : IsPrefix mine both = subst (λ (l : List Entry). IsPrefix l both) (ap (λ s. s.log) c.again-both.ensures) c.learn.ensures.2 in
    let less : length mine ≤ length c.args.other.now.front.log = omega (arith, c.args.newest.now.made.version, c.args.other.now.made.version, c.if-version.true) in
    rw c.become_like.ensures (prefix_shorter mine c.args.other.now.front.log both this c.learn.ensures.3 less)

pub returns-then-version-clause-rises : goal.returns-then-version-clause-rises
returns-then-version-clause-rises c =
    let mine = c.args.newest.now.front.log in
    let both = c.learn.new.self.log in
    let this : IsPrefix mine both = subst (λ (l : List Entry). IsPrefix l both) (ap (λ s. s.log) c.again-both.ensures) c.learn.ensures.2 in
    let less : length mine ≤ length c.args.other.now.front.log = omega (arith, c.args.newest.now.made.version, c.args.other.now.made.version, c.if-version.true) in
    rw c.become_like.ensures (later_of mine c.args.other.now.front.log (prefix_shorter mine c.args.other.now.front.log both this c.learn.ensures.3 less) c.args.other.now.made.rising)

pub returns-clause-other : goal.returns-clause-other
returns-clause-other c =
    let mine = c.args.newest.now.front.log in
    let both = c.learn.new.self.log in
    let this : IsPrefix mine both = subst (λ (l : List Entry). IsPrefix l both) (ap (λ s. s.log) c.again-both.ensures) c.learn.ensures.2 in
    let less : length c.args.other.now.front.log ≤ length mine = omega (arith, c.args.newest.now.made.version, c.args.other.now.made.version, c.if-version.false) in
    prefix_shorter c.args.other.now.front.log mine both c.learn.ensures.3 this less

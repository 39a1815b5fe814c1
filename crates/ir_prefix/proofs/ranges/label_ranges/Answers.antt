use Rattle.std.proofs.Common.{◌≡◌, ◌-◌, ◌≤◌, ◌++◌, ◌∙◌, None, List, length, refl, ap, sym, subst, arith, rules}
use Rattle.ir_model.specs.Compiled.{port_to}
use Rattle.ir_prefix.specs.Ranges.{range, ranges_of, TellsPorts, AreRangesApart, IsFewestRanges}
use Rattle.ir_prefix.specs.declared.ranges.LabelRange.{LabelRange}
use Rattle.ir_prefix.proofs.Fewest.{they_are_fewest}
use Rattle.ir_prefix.proofs.Joins.{all_told, loop_more, none_more}
use Rattle.ir_prefix.proofs.RangeLemmas.{they_are_apart, they_are_few, they_tell}
use Rattle.ir_prefix.proofs.ranges.label_ranges.Goals as goal

pub loop-label-preserved : goal.loop-label-preserved
loop-label-preserved c =
    let ports = c.args.ports.now in
    let end = c.run_end-end.result in
    record {
      inside = c.run_end-end.ensures.within;
      told = loop_more ports c.loop-label.set.items c.push.new.self.items c.loop-label.label c.in-Some.port end (range c.loop-label.label (end - 1) c.in-Some.port) (ranges_of ports)
          c.run_end-end.ensures refl c.in-Ok.ensures.items c.loop-label.invariant.told;
    }

pub loop-label-preserved-in-None : goal.loop-label-preserved-in-None
loop-label-preserved-in-None c =
    let ports = c.args.ports.now in
    let none : port_to ports c.loop-label.label ≡ None = search rules in
    record {
      inside = omega arith;
      told = ap (λ (more : List LabelRange). c.loop-label.set.items ++ more) (sym (none_more ports c.loop-label.label c.loop-label-test.true none)) ∙ c.loop-label.invariant.told;
    }

pub returns-clause-ranges : goal.returns-clause-ranges
returns-clause-ranges c = all_told c.args.ports.now c.loop-label.set.items c.loop-label.label c.loop-label-test.false c.loop-label.invariant.told

pub returns-clause-tells : goal.returns-clause-tells
returns-clause-tells c =
    let ports = c.args.ports.now in
    subst (TellsPorts ports) (sym (all_told ports c.loop-label.set.items c.loop-label.label c.loop-label-test.false c.loop-label.invariant.told)) (they_tell ports)

pub returns-clause-apart : goal.returns-clause-apart
returns-clause-apart c =
    let ports = c.args.ports.now in
    subst AreRangesApart (sym (all_told ports c.loop-label.set.items c.loop-label.label c.loop-label-test.false c.loop-label.invariant.told)) (they_are_apart ports)

pub returns-clause-fewest : goal.returns-clause-fewest
returns-clause-fewest c =
    let ports = c.args.ports.now in
    subst (λ (set : List LabelRange). IsFewestRanges ports (length set))
    (sym (all_told ports c.loop-label.set.items c.loop-label.label c.loop-label-test.false c.loop-label.invariant.told)) (they_are_fewest ports)

pub returns-clause-few : goal.returns-clause-few
returns-clause-few c =
    let ports = c.args.ports.now in
    let few = they_are_few 0 ports in
    subst (λ (set : List LabelRange). length set ≤ length ports) (sym (all_told ports c.loop-label.set.items c.loop-label.label c.loop-label-test.false c.loop-label.invariant.told)) few

use Rattle.std.proofs.Common.{[], map, sym, subst}
use Rattle.ir_trace.specs.Spelled.{texts, part_held, row_told, SpellsNothing}
use Rattle.ir_trace.proofs.ReadSpellings.{no_parts_row, parts_row}
use Rattle.ir_trace.proofs.words.spelled.Goals as goal

pub returns-in-Some-2 : goal.returns-in-Some-2
returns-in-Some-2 c =
    let are = rw c.in-Some-2.is at c.in_ok-segments-in-Two.ensures in
    rw c.in-Two.is (parts_row (texts c.args.words.now) (row_told c.in-Some-spelled_head.head []) (texts c.in-Some-spelled_head.rest.now) c.in-Some-spelled_head.ensures (map part_held c.in-Some-2.segments.items) are c.requires)

pub returns-in_default : goal.returns-in_default
returns-in_default c = subst (λ v. SpellsNothing v (texts c.args.words.now)) (sym c.in-One.is) c.in_default.ensures

pub returns-in-None : goal.returns-in-None
returns-in-None c =
    let none = rw c.in-None.is at c.in_ok-segments-in-Two.ensures in
    subst (λ v. SpellsNothing v (texts c.args.words.now)) (sym c.in-Two.is)
    (no_parts_row (texts c.args.words.now) (row_told c.in-Some-spelled_head.head []) (texts c.in-Some-spelled_head.rest.now) c.in-Some-spelled_head.ensures none)

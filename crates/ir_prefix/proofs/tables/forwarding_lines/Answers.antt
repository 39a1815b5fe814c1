use Rattle.std.proofs.Common.{map, length, List, ap, sym, ◌∙◌, subst, arith}
use Rattle.std.proofs.lemmas.Result.{IfOk-weaker}
use Rattle.ir_prefix.specs.Extended.{line_of}
use Rattle.ir_prefix.specs.Forwarding.{AreLongestFirst, IsFewestLines, IsForwardingTable, IsWellFormed, KeepsMatches, NamesPorts}
use Rattle.ir_prefix.specs.declared.line.TableLine.{TableLine}
use Rattle.ir_prefix.proofs.Final.{same_width}
use Rattle.ir_prefix.proofs.TableLemmas.{row_length, lines_forward, lines_are_fewest, lines_in_order, lines_keep_matches, lines_are_well}
use Rattle.ir_prefix.proofs.PortLemmas.{lines_name_ports}
use Rattle.ir_prefix.proofs.tables.forwarding_lines.Goals as goal

pub extended-requires-clause-bits : goal.extended-requires-clause-bits
extended-requires-clause-bits c = c.width-bits.ensures.least 16 (omega arith)

pub table-requires-clause-bits : goal.table-requires-clause-bits
table-requires-clause-bits c = c.width-bits.ensures.least 16 (omega arith)

pub table-requires-clause-every : goal.table-requires-clause-every
table-requires-clause-every c =
    let row = c.as_slice.ensures.value ∙ c.in_ok-row.ensures in
    let h = row_length c.args.n c.args.own c.width-bits.result c.unused_port-unreachable.result c.args.ports.now c.as_slice.result.now c.requires c.unused_port-unreachable.ensures c.width-bits.ensures.enough row in
    omega arith

pub returns-clause-well : goal.returns-clause-well
returns-clause-well c =
    IfOk-weaker c.lines_of.result _ _ (λ lines are. λ b v.
    let u = c.unused_port-unreachable.result in
    let set = c.in_ok-set.set.items in
    let e = are ∙ ap (λ xs. map (line_of u) xs) c.as_slice-2.ensures.value in
    let k = same_width c.args.n c.width-bits.result b c.width-bits.ensures v in
    subst (λ table. IsWellFormed b table) (sym e) (subst (λ w. IsWellFormed w (map (line_of u) set)) k (lines_are_well c.width-bits.result u set c.in_ok-set.ensures.order c.in_ok-set.ensures.values)))
    c.lines_of.ensures

pub returns-clause-forwards : goal.returns-clause-forwards
returns-clause-forwards c =
    IfOk-weaker c.lines_of.result _ _ (λ lines are. λ b v.
    let u = c.unused_port-unreachable.result in
    let set = c.in_ok-set.set.items in
    let row = c.as_slice.ensures.value ∙ c.in_ok-row.ensures in
    let e = are ∙ ap (λ xs. map (line_of u) xs) c.as_slice-2.ensures.value in
    let k = same_width c.args.n c.width-bits.result b c.width-bits.ensures v in
    let h = lines_forward c.args.n c.args.own c.width-bits.result u c.args.ports.now c.as_slice.result.now c.requires c.unused_port-unreachable.ensures c.width-bits.ensures.enough row set c.in_ok-set.ensures.fits in
    subst (λ table. IsForwardingTable c.args.n b c.args.ports.now table) (sym e) (subst (λ w. IsForwardingTable c.args.n w c.args.ports.now (map (line_of u) set)) k h))
    c.lines_of.ensures

pub returns-clause-fewest : goal.returns-clause-fewest
returns-clause-fewest c =
    IfOk-weaker c.lines_of.result _ _ (λ lines are. λ b v.
    let u = c.unused_port-unreachable.result in
    let set = c.in_ok-set.set.items in
    let row = c.as_slice.ensures.value ∙ c.in_ok-row.ensures in
    let e = are ∙ ap (λ xs. map (line_of u) xs) c.as_slice-2.ensures.value in
    let k = same_width c.args.n c.width-bits.result b c.width-bits.ensures v in
    let h = lines_are_fewest c.args.n c.args.own c.width-bits.result u c.args.ports.now c.as_slice.result.now c.requires c.unused_port-unreachable.ensures c.width-bits.ensures.enough row set c.in_ok-set.ensures.fewest in
    subst (λ (table : List TableLine). IsFewestLines c.args.n b c.args.ports.now (length table)) (sym e) (subst (λ w. IsFewestLines c.args.n w c.args.ports.now (length (map (line_of u) set))) k h))
    c.lines_of.ensures

pub returns-clause-order : goal.returns-clause-order
returns-clause-order c =
    IfOk-weaker c.lines_of.result _ _ (λ lines are.
    let u = c.unused_port-unreachable.result in
    let e = are ∙ ap (λ xs. map (line_of u) xs) c.as_slice-2.ensures.value in
    subst AreLongestFirst (sym e) (lines_in_order u c.in_ok-set.set.items c.in_ok-set.ensures.order))
    c.lines_of.ensures

pub returns-clause-loads : goal.returns-clause-loads
returns-clause-loads c =
    IfOk-weaker c.lines_of.result _ _ (λ lines are. λ b.
    let u = c.unused_port-unreachable.result in
    let e = are ∙ ap (λ xs. map (line_of u) xs) c.as_slice-2.ensures.value in
    subst (λ table. KeepsMatches b table) (sym e) (lines_keep_matches u c.in_ok-set.set.items c.in_ok-set.ensures.order b))
    c.lines_of.ensures

pub returns-clause-ports : goal.returns-clause-ports
returns-clause-ports c =
    IfOk-weaker c.lines_of.result _ _ (λ lines are.
    let u = c.unused_port-unreachable.result in
    let set = c.in_ok-set.set.items in
    let row = c.as_slice.ensures.value ∙ c.in_ok-row.ensures in
    let e = are ∙ ap (λ xs. map (line_of u) xs) c.as_slice-2.ensures.value in
    subst (λ table. NamesPorts c.args.ports.now table) (sym e) (lines_name_ports c.args.n c.args.own c.width-bits.result u c.args.ports.now c.as_slice.result.now set c.requires row c.in_ok-set.ensures.ports))
    c.lines_of.ensures

use Rattle.std.proofs.Common.{◌≡◌, map, length, List, ap, sym, ◌∙◌, subst, arith}
use Rattle.std.proofs.lemmas.Grind.{common_steps}
use Rattle.std.proofs.lemmas.Result.{IfOk-weaker}
use Rattle.std.specs.List.Sorted.{IsPermutation}
use Rattle.ir_prefix.specs.Cover.{AreDistinct}
use Rattle.ir_prefix.specs.Extended.{line_of}
use Rattle.ir_prefix.specs.Forwarding.{AreLongestFirst, IsDisjointTable, IsFewestDisjoint, IsWellFormed, NamesPorts}
use Rattle.ir_prefix.specs.Parts.{pieces_of}
use Rattle.ir_prefix.specs.declared.cover.Prefix.{Prefix}
use Rattle.ir_prefix.specs.declared.line.TableLine.{TableLine}
use Rattle.ir_prefix.proofs.DisjointLemmas.{pieces_distinct, pieces_disjoint, set_is_least, pieces_are_fewest}
use Rattle.ir_prefix.proofs.Final.{same_width, width_fits}
use Rattle.ir_prefix.proofs.TableLemmas.{lines_in_order, lines_are_well}
use Rattle.ir_prefix.proofs.PortLemmas.{pieces_name_ports}
use Rattle.ir_prefix.proofs.tables.disjoint_lines.Goals as goal

pub push_pieces-requires-clause-inside : goal.push_pieces-requires-clause-inside
push_pieces-requires-clause-inside c = let h = width_fits c.args.n c.width-bits.result (omega arith) c.width-bits.ensures in omega arith

pub sort_longest_first-requires : goal.sort_longest_first-requires
sort_longest_first-requires c =
    let bits = c.width-bits.result in
    let e : c.push_pieces.new.prefixes.items ≡ pieces_of bits c.in_ok-push_pieces.ensures.0 bits 0 = grind (arith, common_steps, c.in_ok-push_pieces.ensures.2, c.new-set.ensures.items) in
    subst AreDistinct (sym e) (pieces_distinct bits c.args.ports.now c.in_ok-push_pieces.ensures.0 c.in_ok-push_pieces.ensures.1)

pub returns-clause-well : goal.returns-clause-well
returns-clause-well c =
    IfOk-weaker c.lines_of.result _ _ (λ lines are. λ b v.
    let bits = c.width-bits.result in
    let u = c.unused_port.result in
    let set = c.sort_longest_first.new.set.items in
    let t = c.in_ok-push_pieces.ensures.0 in
    let e : c.push_pieces.new.prefixes.items ≡ pieces_of bits t bits 0 = grind (arith, common_steps, c.in_ok-push_pieces.ensures.2, c.new-set.ensures.items) in
    let perm = subst (λ (xs : List Prefix). IsPermutation xs set) e c.sort_longest_first.ensures.permutation in
    let f = are ∙ ap (λ xs. map (line_of u) xs) c.as_slice-2.ensures.value in
    let k = same_width c.args.n bits b c.width-bits.ensures v in
    let least = set_is_least bits c.args.ports.now t c.in_ok-push_pieces.ensures.1 c.args.n u set c.requires.every c.unused_port.ensures c.width-bits.ensures.enough perm in
    subst (λ table. IsWellFormed b table) (sym f) (subst (λ w. IsWellFormed w (map (line_of u) set)) k (lines_are_well bits u set c.in_ok-sort_longest_first.ensures.order least)))
    c.lines_of.ensures

pub returns-clause-disjoint : goal.returns-clause-disjoint
returns-clause-disjoint c =
    IfOk-weaker c.lines_of.result _ _ (λ lines are. λ b v.
    let bits = c.width-bits.result in
    let u = c.unused_port.result in
    let set = c.sort_longest_first.new.set.items in
    let t = c.in_ok-push_pieces.ensures.0 in
    let e : c.push_pieces.new.prefixes.items ≡ pieces_of bits t bits 0 = grind (arith, common_steps, c.in_ok-push_pieces.ensures.2, c.new-set.ensures.items) in
    let perm = subst (λ (xs : List Prefix). IsPermutation xs set) e c.sort_longest_first.ensures.permutation in
    let f = are ∙ ap (λ xs. map (line_of u) xs) c.as_slice-2.ensures.value in
    let k = same_width c.args.n bits b c.width-bits.ensures v in
    let h = pieces_disjoint bits c.args.ports.now t c.in_ok-push_pieces.ensures.1 c.args.n u set c.requires.every c.unused_port.ensures c.width-bits.ensures.enough perm in
    subst (λ table. IsDisjointTable c.args.n b c.args.ports.now table) (sym f) (subst (λ w. IsDisjointTable c.args.n w c.args.ports.now (map (line_of u) set)) k h))
    c.lines_of.ensures

pub returns-clause-fewest : goal.returns-clause-fewest
returns-clause-fewest c =
    IfOk-weaker c.lines_of.result _ _ (λ lines are. λ b v.
    let bits = c.width-bits.result in
    let u = c.unused_port.result in
    let set = c.sort_longest_first.new.set.items in
    let t = c.in_ok-push_pieces.ensures.0 in
    let e : c.push_pieces.new.prefixes.items ≡ pieces_of bits t bits 0 = grind (arith, common_steps, c.in_ok-push_pieces.ensures.2, c.new-set.ensures.items) in
    let perm = subst (λ (xs : List Prefix). IsPermutation xs set) e c.sort_longest_first.ensures.permutation in
    let f = are ∙ ap (λ xs. map (line_of u) xs) c.as_slice-2.ensures.value in
    let k = same_width c.args.n bits b c.width-bits.ensures v in
    let h = pieces_are_fewest bits c.args.n u c.args.ports.now t set c.requires.every c.in_ok-push_pieces.ensures.1 perm in
    subst (λ (table : List TableLine). IsFewestDisjoint c.args.n b c.args.ports.now (length table)) (sym f) (subst (λ w. IsFewestDisjoint c.args.n w c.args.ports.now (length (map (line_of u) set))) k h))
    c.lines_of.ensures

pub returns-clause-order : goal.returns-clause-order
returns-clause-order c =
    IfOk-weaker c.lines_of.result _ _ (λ lines are.
    let u = c.unused_port.result in
    let f = are ∙ ap (λ xs. map (line_of u) xs) c.as_slice-2.ensures.value in
    subst AreLongestFirst (sym f) (lines_in_order u c.sort_longest_first.new.set.items c.in_ok-sort_longest_first.ensures.order))
    c.lines_of.ensures

pub returns-clause-ports : goal.returns-clause-ports
returns-clause-ports c =
    IfOk-weaker c.lines_of.result _ _ (λ lines are.
    let bits = c.width-bits.result in
    let u = c.unused_port.result in
    let set = c.sort_longest_first.new.set.items in
    let t = c.in_ok-push_pieces.ensures.0 in
    let e : c.push_pieces.new.prefixes.items ≡ pieces_of bits t bits 0 = grind (arith, common_steps, c.in_ok-push_pieces.ensures.2, c.new-set.ensures.items) in
    let perm = subst (λ (xs : List Prefix). IsPermutation xs set) e c.sort_longest_first.ensures.permutation in
    let f = are ∙ ap (λ xs. map (line_of u) xs) c.as_slice-2.ensures.value in
    subst (λ table. NamesPorts c.args.ports.now table) (sym f) (pieces_name_ports bits u c.args.ports.now t set c.in_ok-push_pieces.ensures.1 perm))
    c.lines_of.ensures

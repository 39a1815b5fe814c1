use Rattle.std.proofs.Common.{◌≡◌, ◌<◌, ◌∙◌, ℕ, List, length, get_or, refl, sym, ap, subst, arith}
use Rattle.ir_model.specs.Graph.{names}
use Rattle.ir_model.specs.Plan.{label_in, row_in}
use Rattle.ir_model.specs.Topology.{node_count}
use Rattle.ir_patches.specs.Nodes.{numbers_in}
use Rattle.ir_patches.specs.DiffText.{new_leads, old_leads, old_number}
use Rattle.ir_patches.specs.Sides.{plans_of}
use Rattle.ir_patches.proofs.Leads.{changes_are, row_read}
use Rattle.ir_patches.proofs.Numbers.{names_long, numbers_within}
use Rattle.ir_patches.proofs.rows.changes_at.Goals as goal

pub leads_of-requires-clause-node : goal.leads_of-requires-clause-node
leads_of-requires-clause-node c =
    let s = c.args.sides.now in
    let old_names = names s.old_graph.now in
    let new_names = names s.new_graph.now in
    let long = names_long s.old_graph.now in
    let root = c.requires.sides.old.root_in in
    let count = c.requires.sides.old_nodes in
    let some : 0 < length old_names = omega (arith, long, root, count) in
    let numbers = c.as_slice-new_numbers.ensures.value ∙ c.requires.sides.new_numbers in
    let within : get_or (numbers_in old_names new_names) c.args.u 0 < node_count s.old.now.topology = omega (arith, numbers_within old_names new_names c.args.u some, long, count) in
    subst (λ (ns : List ℕ). get_or ns c.args.u 0 < node_count s.old.now.topology) (sym numbers) within

pub label_of-was-requires : goal.label_of-was-requires
label_of-was-requires c =
    let s = c.args.sides.now in
    let old_names = names s.old_graph.now in
    let new_names = names s.new_graph.now in
    let long = names_long s.old_graph.now in
    let root = c.requires.sides.old.root_in in
    let count = c.requires.sides.old_nodes in
    let some : 0 < length old_names = omega (arith, long, root, count) in
    let numbers = c.as_slice-new_numbers.ensures.value ∙ c.requires.sides.new_numbers in
    let within : get_or (numbers_in old_names new_names) c.args.u 0 < node_count s.old.now.topology = omega (arith, numbers_within old_names new_names c.args.u some, long, count) in
    subst (λ (ns : List ℕ). get_or ns c.args.u 0 < node_count s.old.now.topology) (sym numbers) within

pub returns-clause-changes : goal.returns-clause-changes
returns-clause-changes c =
    let s = c.args.sides.now in
    let p = plans_of s in
    let u = c.args.u in
    let old_numbers = c.as_slice-old_numbers.ensures.value ∙ c.requires.sides.old_numbers in
    let new_numbers = c.as_slice-new_numbers.ensures.value ∙ c.requires.sides.new_numbers in
    let number : get_or c.as_slice-new_numbers.result.now u 0 ≡ old_number p u = ap (λ (ns : List ℕ). get_or ns u 0) new_numbers in
    let old : c.as_slice-old_row.result.now ≡ old_leads p u =
    c.as_slice-old_row.ensures.value ∙ row_read _ (numbers_in p.old_nodes p.old_nodes) p.old.topology (row_in p.old) _ (old_number p u) _ c.in_ok-old.ensures.leads old_numbers number in
    let new : c.as_slice-new_row.result.now ≡ new_leads p u =
    c.as_slice-new_row.ensures.value ∙ row_read _ (numbers_in p.old_nodes p.new_nodes) p.new.topology (row_in p.new) u u _ c.in_ok-new.ensures.leads new_numbers refl in
    changes_are p u _ _ _ _ _ _ (c.label_of-was.ensures ∙ ap (label_in p.old) number) c.label_of-label.ensures old new c.in_ok-row.ensures.removed c.in_ok-row.ensures.put

use Rattle.std.proofs.Common.{◌≡◌, ◌<◌, ℕ, length, sym, ap, subst, arith}
use Rattle.std.specs.Prelude.{All, List}
use Rattle.ir_diff.specs.declared.changes.Lead.{Lead}
use Rattle.ir_model.specs.Graph.{names}
use Rattle.ir_patches.specs.DiffText.{NodeChanges}
use Rattle.ir_patches.specs.Sides.{plans_of}
use Rattle.ir_patches.proofs.Leads.{put_within}
use Rattle.ir_patches.proofs.Numbers.{names_long}
use Rattle.ir_patches.proofs.text.push_node.Goals as goal

pub push_line-requires : goal.push_line-requires
push_line-requires c =
    let s = c.args.sides.now in
    let long = names_long s.old_graph.now in
    let root = c.requires.sides.old.root_in in
    let count = c.requires.sides.old_nodes in
    let some : 0 < length (names s.old_graph.now) = omega (arith, long, root, count) in
    let put : c.in_ok-change.change.row.put.items ≡ _ = ap (λ (n : NodeChanges). n.put) c.in_ok-change.ensures.changes in
    subst (λ (n : ℕ). All (λ (m : Lead). m.node < n) c.in_ok-change.change.row.put.items) long
    (subst (λ (ms : List Lead). All (λ (m : Lead). m.node < length (names s.old_graph.now)) ms) (sym put) (put_within (plans_of s) c.args.u some))

use Rattle.std.proofs.Common.{◌≡◌, ◌∙◌, ◌++◌, ◌+◌, ◌*◌, ℕ, List, ap, sym, subst, arith, string_bytes}
use Rattle.ir_patches.specs.declared.counts.Counts.{Counts}
use Rattle.ir_patches.specs.DiffText.{change_line, changes_at}
use Rattle.ir_patches.specs.Sides.{AreAtMost, changes_held, counts_with, plans_of}
use Rattle.ir_show.proofs.PlanLines.{nodes_more}
use Rattle.ir_patches.proofs.Counted.{counts_more, few_more}
use Rattle.ir_patches.proofs.text.push_nodes.Goals as goal

pub counted-counts-requires : goal.counted-counts-requires
counted-counts-requires c =
    let few = c.loop-u.invariant.few in
    let nodes = c.requires.new.topology.few_nodes in
    let a = few.changed in
    let b = few.relabelled in
    let r = few.removed in
    let q = few.put in
    let u_in = c.loop-u-test.true in
    let count = c.nodes-u-end.ensures.count in
    record {
      changed = omega (arith, a, nodes, u_in, count);
      relabelled = omega (arith, b, nodes, u_in, count);
      removed = omega (arith, r, nodes, u_in, count);
      put = omega (arith, q, nodes, u_in, count);
    }

pub loop-u-preserved : goal.loop-u-preserved
loop-u-preserved c =
    let p = plans_of c.args.sides.now in
    let u = c.loop-u.u in
    let inv = c.loop-u.invariant in
    let change = c.in_ok-change.ensures in
    let held = changes_held c.in_ok-change.change in
    let more : c.counted-counts.result ≡ counts_with c.loop-u.counts held = c.counted-counts.ensures in
    record {
      counts = more ∙ ap (counts_with c.loop-u.counts) change.change ∙ ap (λ (n : Counts). counts_with n (changes_at p u)) inv.counts ∙ counts_more p u;
      few = subst (λ (n : Counts). AreAtMost n ((u + 1) * 32768)) (sym more) (few_more c.loop-u.counts held u inv.few change.few.0 change.few.1);
      text = change.text ∙ ap (λ (t : List ℕ). t ++ change_line p u) inv.text ∙ nodes_more (change_line p) u (string_bytes c.args.text.now);
    }

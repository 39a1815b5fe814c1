use Rattle.std.proofs.Common.{◌≡◌, ◌<◌, sym, ap, ◌∙◌, subst, length, List, []}
use Rattle.std.proofs.lemmas.List.{get_or_default}
use Rattle.ir_model.specs.Topology.{node_count}
use Rattle.ir_model.specs.Row.{Start, intervals_of}
use Rattle.ir_model.specs.Compiled.{Fits, IsFewest}
use Rattle.ir_model.specs.Plan.{Plan, by_label, label_in, row_in}
use Rattle.ir_plan.specs.TreeRows.{HasTreeRow}
use Rattle.ir_plan.specs.Views.{plan_view}
use Rattle.ir_plan.proofs.Standing.{row_fits, row_fewest}
use Rattle.ir_plan.specs.CompactRows.{FitsTied, IsFewestOfTied}
use Rattle.ir_plan.specs.LandmarkRows.{FitsWithin, IsFewestWithin}
use Rattle.ir_plan.proofs.LandmarkPlans.{landmark_row_fits, landmark_row_fewest}
use Rattle.ir_plan.proofs.CompactPlans.{compact_row_fits, compact_row_fewest}
use Rattle.ir_plan.proofs.TreePlans.{tree_rows}
use Rattle.ir_plan.proofs.plan.Plan.row.Goals as goal

pub returns-clause-fits : goal.returns-clause-fits
returns-clause-fits c =
    let node = subst (λ (s : Plan). c.args.node < node_count s.topology) (sym c.self.view_is) c.requires in
    let row : row_in (plan_view c.self.inside) c.args.node ≡ c.index.result.now =
    get_or_default c.self.inside.rows.items c.args.node [] c.index.result.now (rw c.self.invariant.row_of_each node) ∙ sym c.index.ensures in
    subst (λ (s : Plan). Fits (node_count s.topology) (label_in s c.args.node) (by_label s c.args.node) (intervals_of c.index.result.now)) c.self.view_is
    (subst (λ (r : List Start). Fits (node_count c.self.inside.topology) (label_in (plan_view c.self.inside) c.args.node) (by_label (plan_view c.self.inside) c.args.node) (intervals_of r)) row
    (row_fits (plan_view c.self.inside) c.self.invariant c.args.node node))

pub returns-clause-fewest : goal.returns-clause-fewest
returns-clause-fewest c =
    let node = subst (λ (s : Plan). c.args.node < node_count s.topology) (sym c.self.view_is) c.requires in
    let row : row_in (plan_view c.self.inside) c.args.node ≡ c.index.result.now =
    get_or_default c.self.inside.rows.items c.args.node [] c.index.result.now (rw c.self.invariant.row_of_each node) ∙ sym c.index.ensures in
    subst (λ (s : Plan). IsFewest (node_count s.topology) (label_in s c.args.node) (by_label s c.args.node) (length c.index.result.now)) c.self.view_is
    (subst (λ (r : List Start). IsFewest (node_count c.self.inside.topology) (label_in (plan_view c.self.inside) c.args.node) (by_label (plan_view c.self.inside) c.args.node) (length r)) row
    (row_fewest (plan_view c.self.inside) c.self.invariant c.args.node node))

pub returns-clause-tree : goal.returns-clause-tree
returns-clause-tree c tree =
    let kind = ap (λ (s : Plan). s.kind) c.self.view_is ∙ tree in
    let node = subst (λ (s : Plan). c.args.node < node_count s.topology) (sym c.self.view_is) c.requires in
    subst (λ (s : Plan). HasTreeRow s c.args.node) c.self.view_is (tree_rows (plan_view c.self.inside) c.self.invariant kind c.args.node node)

pub returns-clause-compact : goal.returns-clause-compact
returns-clause-compact c compact =
    let kind = ap (λ (s : Plan). s.kind) c.self.view_is ∙ compact in
    let node = subst (λ (s : Plan). c.args.node < node_count s.topology) (sym c.self.view_is) c.requires in
    let row : row_in (plan_view c.self.inside) c.args.node ≡ c.index.result.now =
    get_or_default c.self.inside.rows.items c.args.node [] c.index.result.now (rw c.self.invariant.row_of_each node) ∙ sym c.index.ensures in
    subst (λ (s : Plan). IsFewestOfTied s c.args.node (length c.index.result.now)) c.self.view_is
    (subst (λ (r : List Start). IsFewestOfTied (plan_view c.self.inside) c.args.node (length r)) row
    (compact_row_fewest (plan_view c.self.inside) c.self.invariant kind c.args.node node))

pub returns-clause-tied : goal.returns-clause-tied
returns-clause-tied c compact =
    let kind = ap (λ (s : Plan). s.kind) c.self.view_is ∙ compact in
    let node = subst (λ (s : Plan). c.args.node < node_count s.topology) (sym c.self.view_is) c.requires in
    let row : row_in (plan_view c.self.inside) c.args.node ≡ c.index.result.now =
    get_or_default c.self.inside.rows.items c.args.node [] c.index.result.now (rw c.self.invariant.row_of_each node) ∙ sym c.index.ensures in
    subst (λ (s : Plan). FitsTied s c.args.node (intervals_of c.index.result.now)) c.self.view_is
    (subst (λ (r : List Start). FitsTied (plan_view c.self.inside) c.args.node (intervals_of r)) row
    (compact_row_fits (plan_view c.self.inside) c.self.invariant kind c.args.node node))

pub returns-clause-within : goal.returns-clause-within
returns-clause-within c t landmark =
    let kind = ap (λ (s : Plan). s.kind) c.self.view_is ∙ landmark in
    let node = subst (λ (s : Plan). c.args.node < node_count s.topology) (sym c.self.view_is) c.requires in
    let row : row_in (plan_view c.self.inside) c.args.node ≡ c.index.result.now =
    get_or_default c.self.inside.rows.items c.args.node [] c.index.result.now (rw c.self.invariant.row_of_each node) ∙ sym c.index.ensures in
    subst (λ (s : Plan). FitsWithin t s c.args.node (intervals_of c.index.result.now)) c.self.view_is
    (subst (λ (r : List Start). FitsWithin t (plan_view c.self.inside) c.args.node (intervals_of r)) row
    (landmark_row_fits (plan_view c.self.inside) c.self.invariant t kind c.args.node node))

pub returns-clause-landmark : goal.returns-clause-landmark
returns-clause-landmark c t landmark =
    let kind = ap (λ (s : Plan). s.kind) c.self.view_is ∙ landmark in
    let node = subst (λ (s : Plan). c.args.node < node_count s.topology) (sym c.self.view_is) c.requires in
    let row : row_in (plan_view c.self.inside) c.args.node ≡ c.index.result.now =
    get_or_default c.self.inside.rows.items c.args.node [] c.index.result.now (rw c.self.invariant.row_of_each node) ∙ sym c.index.ensures in
    subst (λ (s : Plan). IsFewestWithin t s c.args.node (length c.index.result.now)) c.self.view_is
    (subst (λ (r : List Start). IsFewestWithin t (plan_view c.self.inside) c.args.node (length r)) row
    (landmark_row_fewest (plan_view c.self.inside) c.self.invariant t kind c.args.node node))

use Rattle.std.proofs.Common.{◌≡◌, ◌<◌, ◌∙◌, sym, ap, subst, length, ℕ, List, [], Option, Some}
use Rattle.std.specs.Prelude.{slice_index_or}
use Rattle.std.proofs.lemmas.List.{get_or_default}
use Rattle.ir_model.specs.Row.{Start, IsAscending}
use Rattle.ir_model.specs.Topology.{node_count}
use Rattle.ir_model.specs.Plan.{Plan, table_port, node_in}
use Rattle.ir_plan.specs.Shown.{row_port}
use Rattle.ir_plan.proofs.RowPorts.{shown_has}
use Rattle.ir_plan.proofs.Standing.{port_shown, row_filled}
use Rattle.ir_plan.proofs.plan.Plan.port.Goals as goal

pub find-requires : goal.find-requires
find-requires c =
    let p = c.self.inside in
    let is = c.self.invariant in
    let hu : c.args.node < node_count p.topology = subst (λ (s : Plan). c.args.node < node_count s.topology) (sym c.self.view_is) c.requires.node in
    let ha : c.args.address < node_count p.topology = subst (λ (s : Plan). c.args.address < node_count s.topology) (sym c.self.view_is) c.requires.label in
    let full = row_filled p.kind p.root p.topology p.numbering.order p.numbering.labels p.rows.items is c.args.node c.args.address hu ha (λ e. c.if-address-label_of.false (e ∙ sym c.label_of.ensures)) in
    let row : slice_index_or p.rows.items c.args.node [] ≡ c.index.result.now = get_or_default p.rows.items c.args.node [] c.index.result.now (rw is.row_of_each hu) ∙ sym c.index.ensures in
    subst (λ (r : List Start). 0 < length r) row full

pub returns : goal.returns
returns c =
    let p = c.self.inside in
    let is = c.self.invariant in
    let hu : c.args.node < node_count p.topology = subst (λ (s : Plan). c.args.node < node_count s.topology) (sym c.self.view_is) c.requires.node in
    let ha : c.args.address < node_count p.topology = subst (λ (s : Plan). c.args.address < node_count s.topology) (sym c.self.view_is) c.requires.label in
    let shown = port_shown p.kind p.root p.topology p.numbering.order p.numbering.labels p.rows.items is c.args.node c.args.address hu ha (λ e. c.if-address-label_of.false (e ∙ sym c.label_of.ensures)) in
    let row : slice_index_or p.rows.items c.args.node [] ≡ c.index.result.now = get_or_default p.rows.items c.args.node [] c.index.result.now (rw is.row_of_each hu) ∙ sym c.index.ensures in
    let up : IsAscending c.index.result.now = subst IsAscending row (is.rows c.args.node hu).ascending in
    subst (λ (s : Plan). ◌≡◌ {A = Option ℕ} (Some c.find.result) (table_port s c.args.node (node_in s c.args.address))) c.self.view_is
    (sym (shown ∙ ap (λ (r : List Start). row_port r c.args.address) row ∙ shown_has (node_count p.topology) c.args.address ha c.index.result.now c.find.result up (c.find.ensures (node_count p.topology) ha)))

use Rattle.std.proofs.Common.{◌≡◌, ◌≢◌, ◌∙◌, IfErr, subst, string_bytes, rules}
use Rattle.ir_model.specs.declared.Kind.TheVariants.{Shortest, Compact, Tree}
use Rattle.ir_model.specs.Topology.{Topology}
use Rattle.ir_plan.specs.declared.tour.LabelOrder.TheVariants.{DepthFirst}
use Rattle.ir_plan.specs.declared.error.PlanError.TheVariants.{NoMemory}
use Rattle.ir_plan.specs.Building.{FromRoot, IsPlanBy, RefusesPlan}
use Rattle.ir_show.specs.Words.{line_text}
use Rattle.ir_figures.specs.Compared.{compare_head, column_names, table_words, AreDetourRows, AreTableBits}
use Rattle.ir_figures.proofs.Rows.{rows_by, whole_text}
use Rattle.ir_figures.proofs.compared.compare_text.Goals as goal

pub returns-clause-text : goal.returns-clause-text
returns-clause-text g c =
    let net = c.args.topology in
    let root = c.args.root in
    let shortest = c.in_ok-shortest.ensures.made in
    let over = c.in_ok-network.ensures.back ∙ shortest.over in
    let compact : IsPlanBy net Compact (FromRoot DepthFirst root) c.in_ok-compact.compact = subst (λ (t : Topology). IsPlanBy t Compact (FromRoot DepthFirst root) c.in_ok-compact.compact) over c.in_ok-compact.ensures.made in
    let under = c.in_ok-network-2.ensures.back ∙ compact.over in
    let tree : IsPlanBy net Tree (FromRoot DepthFirst root) c.in_ok-tree.tree = subst (λ (t : Topology). IsPlanBy t Tree (FromRoot DepthFirst root) c.in_ok-tree.tree) under c.in_ok-tree.ensures.made in
    let first = c.in_ok-network.ensures.rows in
    let second = c.in_ok-network-2.ensures.rows in
    let third = c.in_ok-tables.ensures.row in
    let tables = c.in_ok-tables.tables in
    let fourth = c.in_ok-push_landmarks.ensures.rows in
    let over_tree : c.into_topology.result ≡ net = c.into_topology.ensures ∙ tree.over in
    record {
      shortest = first.0;
      shortest_are = rows_by net Shortest root c.in_ok-shortest.shortest first.0 shortest first.1;
      compact = second.0;
      compact_are = rows_by net Compact root c.in_ok-compact.compact second.0 compact second.1;
      tree = third.0;
      tree_are = (c.in_ok-tree.tree, tree, third.1);
      by_landmarks = fourth.0;
      by_landmarks_are = subst (λ (t : Topology). AreDetourRows t root c.args.detours fourth.0) over_tree fourth.1;
      tables = tables;
      tables_are = subst (λ (t : Topology). AreTableBits t tables) tree.over c.in_ok-tables.ensures.tables;
      whole = whole_text (string_bytes c.new-text.result) (string_bytes c.push_head.new.text) (string_bytes c.push_both.new.text) (string_bytes c.push_both-2.new.text)
          (string_bytes c.push_row.new.text) (string_bytes c.push_landmarks.new.text) (string_bytes c.push_tables.new.text) (line_text (compare_head net)) (line_text column_names) first.0 second.0 third.0 fourth.0
          (line_text (table_words tables)) c.new-text.ensures.bytes c.in_ok-push_head.ensures first.2 second.2 third.2 fourth.2 c.in_ok-push_tables.ensures;
    }

pub returns-in_err-compact-clause-refused : goal.returns-in_err-compact-clause-refused
returns-in_err-compact-clause-refused g c =
    subst (λ (t : Topology). IfErr c.from_residual-in_err-compact.result (λ e. e ≢ NoMemory → RefusesPlan t (FromRoot DepthFirst c.args.root) e))
    (c.in_ok-network.ensures.back ∙ c.in_ok-shortest.ensures.made.over) (search rules)

pub returns-in_err-tree-clause-refused : goal.returns-in_err-tree-clause-refused
returns-in_err-tree-clause-refused g c =
    subst (λ (t : Topology). IfErr c.from_residual-in_err-tree.result (λ e. e ≢ NoMemory → RefusesPlan t (FromRoot DepthFirst c.args.root) e))
    (c.in_ok-network-2.ensures.back ∙ c.in_ok-compact.ensures.made.over ∙ c.in_ok-network.ensures.back ∙ c.in_ok-shortest.ensures.made.over) (search rules)

pub returns-in_err-push_landmarks-clause-refused : goal.returns-in_err-push_landmarks-clause-refused
returns-in_err-push_landmarks-clause-refused g c =
    subst (λ (t : Topology). IfErr c.from_residual-in_err-push_landmarks.result (λ e. e ≢ NoMemory → RefusesPlan t (FromRoot DepthFirst c.args.root) e))
    (c.into_topology.ensures ∙ c.in_ok-tree.ensures.made.over ∙ c.in_ok-network-2.ensures.back ∙ c.in_ok-compact.ensures.made.over ∙ c.in_ok-network.ensures.back ∙ c.in_ok-shortest.ensures.made.over) (search rules)

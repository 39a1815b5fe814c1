-- A network has one comparison of its plans from a root.
use Rattle.std.proofs.Common.{◌≡◌, ℕ, ◌<◌, ◌++◌, List, Option, Some, None, sym, ap, subst, ◌∙◌}
use Rattle.ir_model.specs.declared.Detour.{Detour}
use Rattle.ir_model.specs.declared.Kind.{Kind}
use Rattle.ir_model.specs.declared.Kind.TheVariants.{Tree, Shortest, Compact, Landmark}
use Rattle.ir_model.specs.Row.{Start}
use Rattle.ir_model.specs.Topology.{Topology, node_count, IsTopology}
use Rattle.ir_model.specs.Plan.{Plan, table_port}
use Rattle.ir_model.proofs.Walks.{port_facts}
use Rattle.ir_plan.specs.declared.tour.LabelOrder.{LabelOrder}
use Rattle.ir_plan.specs.declared.tour.LabelOrder.TheVariants.{DepthFirst, Tour}
use Rattle.ir_plan.specs.Building.{FromRoot}
use Rattle.ir_plan.proofs.Standing.{same_walk}
use Rattle.ir_trace.specs.Judged.{RoutesAs}
use Rattle.ir_trace.proofs.Routing.{routes_as}
use Rattle.ir_show.specs.Words.{line_text}
use Rattle.ir_figures.specs.Waits.{Waits}
use Rattle.ir_figures.specs.FiguresText.{IsRingOf}
use Rattle.ir_figures.specs.Compared.{IsRowOf, IsRowBy, AreBothRows, AreDetourRows, compare_head, column_names, table_words, IsComparison}
use Rattle.ir_figures.proofs.OneRow.{one_row, one_table_bits}

-- a plan with the table of another one, which agrees with its own on the nodes
abbrev with_table : Plan → Kind → Topology → List (List Start) → Plan
with_table q kind net rows = record {
  kind = kind;
  root = q.root;
  topology = net;
  order = q.order;
  labels = q.labels;
  table = q.table;
  rows = rows;
}

module _ (p q : Plan) (ok : IsTopology p.topology) (ports : (u d : ℕ) → u < node_count p.topology → d < node_count p.topology → table_port p u d ≡ table_port q u d) where
  abbrev moved : Plan
  moved = with_table q p.kind p.topology p.rows

  -- the same links wait
  waits_there : (u port v next : ℕ) → Waits p u port v next → Waits moved u port v next
  waits_there u port v next w = record {
    goal = w.goal;
    hop = w.hop;
    from = w.from;
    to = w.to;
    leaves = sym (ports u w.goal w.from w.to) ∙ w.leaves;
    leads = w.leads;
    there = w.there;
    goes_on = sym (ports v w.goal (subst (λ (x : ℕ). x < node_count p.topology) w.there (port_facts p.topology ok u port w.hop w.leads).to) w.to) ∙ w.goes_on;
  }

  waits_here : (u port v next : ℕ) → Waits moved u port v next → Waits p u port v next
  waits_here u port v next w = record {
    goal = w.goal;
    hop = w.hop;
    from = w.from;
    to = w.to;
    leaves = ports u w.goal w.from w.to ∙ w.leaves;
    leads = w.leads;
    there = w.there;
    goes_on = ports v w.goal (subst (λ (x : ℕ). x < node_count p.topology) w.there (port_facts p.topology ok u port w.hop w.leads).to) w.to ∙ w.goes_on;
  }

  ring_here : (ring : Option (List ℕ)) → IsRingOf (Waits moved) ring → IsRingOf (Waits p) ring
  ring_here None (number, rises) = (number, λ u port v next w. rises u port v next (waits_there u port v next w))
  ring_here (Some nodes) (by, ring) = (
    by,
    record {
      some = ring.some;
      every = ring.every;
      once = ring.once;
      next = λ i within. waits_here _ _ _ _ (ring.next i within);
      closed = waits_here _ _ _ _ ring.closed;
    },
  )

  row_here : (order : LabelOrder) (line : List ℕ) → IsRowOf order moved line → IsRowOf order p line
  row_here order line row = record {
    greatest = row.greatest;
    greatest_row = record { node = row.greatest_row.node; greatest = row.greatest_row.greatest; first = row.greatest_row.first };
    walk = row.walk;
    walks = λ u d hu hd. (let way = row.walks u d hu hd in (way.0, same_walk p.topology ok (table_port q) (table_port p) d (λ x hx. ports x d hx hd) u hu way.0 way.1, way.2));
    distance = row.distance;
    distances = row.distances;
    worst = row.worst;
    worst_pair = row.worst_pair;
    rows = row.rows;
    tables = row.tables;
    bits = λ label port few. row.bits label port (record { labels = few.labels; ports = few.ports });
    ring = row.ring;
    ring_is = ring_here row.ring row.ring_is;
    whole = row.whole;
  }

-- a plan that routes as another one has its row
row_along : (p q : Plan) → IsTopology p.topology → q.kind ≡ p.kind → RoutesAs p q → (order : LabelOrder) (line : List ℕ) → IsRowOf order q line → IsRowOf order p line
row_along p q ok kind alike order line row =
    let of_kind = subst (λ (k : Kind). IsRowOf order (with_table q k q.topology q.rows) line) kind row in
    let over = subst (λ (net : Topology). IsRowOf order (with_table q p.kind net q.rows) line) (sym alike.topology) of_kind in
    let with_rows = subst (λ (rows : List (List Start)). IsRowOf order (with_table q p.kind p.topology rows) line) (sym alike.rows) over in
    row_here p q ok alike.ports order line with_rows

-- a network has one row of each kind and order of labels from a root
one_row_by : (net : Topology) (root : ℕ) (kind : Kind) (order : LabelOrder) (line other : List ℕ) → IsRowBy net root kind order line → IsRowBy net root kind order other → line ≡ other
one_row_by net root kind order line other (p, a, x) (q, b, y) =
    one_row order p line other x (row_along p q a.valid.topology (b.of_kind ∙ sym a.of_kind) (routes_as (FromRoot order root) kind net p q a b) order other y)

both_same : (net : Topology) (root : ℕ) (kind : Kind) (lines others : List ℕ) → AreBothRows net root kind lines → AreBothRows net root kind others → lines ≡ others
both_same net root kind lines others x y =
    x.4 ∙ ap (λ (t : List ℕ). t ++ x.1) (one_row_by net root kind DepthFirst x.0 y.0 x.2 y.2)
    ∙ ap (λ (t : List ℕ). y.0 ++ t) (one_row_by net root kind Tour x.1 y.1 x.3 y.3) ∙ sym y.4

landmarks_same : (net : Topology) (root : ℕ) (detours : Detour × Detour × Detour) (lines others : List ℕ) → AreDetourRows net root detours lines → AreDetourRows net root detours others → lines ≡ others
landmarks_same net root detours lines others x y =
    x.6 ∙ ap (λ (t : List ℕ). (t ++ x.1) ++ x.2) (one_row_by net root (Landmark detours.0) DepthFirst x.0 y.0 x.3 y.3)
    ∙ ap (λ (t : List ℕ). (y.0 ++ t) ++ x.2) (one_row_by net root (Landmark detours.1) DepthFirst x.1 y.1 x.4 y.4)
    ∙ ap (λ (t : List ℕ). (y.0 ++ y.1) ++ t) (one_row_by net root (Landmark detours.2) DepthFirst x.2 y.2 x.5 y.5) ∙ sym y.6

abbrev text_of : Topology → (shortest compact tree by_landmarks : List ℕ) (tables : ℕ) → List ℕ
text_of net shortest compact tree by_landmarks tables =
    (((((line_text (compare_head net) ++ line_text column_names) ++ shortest) ++ compact) ++ tree) ++ by_landmarks) ++ line_text (table_words tables)

pub one_comparison : (net : Topology) (root : ℕ) (detours : Detour × Detour × Detour) (text other : List ℕ) → IsComparison net root detours text → IsComparison net root detours other → text ≡ other
one_comparison net root detours text other x y =
    x.whole
    ∙ ap (λ (t : List ℕ). text_of net t x.compact x.tree x.by_landmarks x.tables) (both_same net root Shortest x.shortest y.shortest x.shortest_are y.shortest_are)
    ∙ ap (λ (t : List ℕ). text_of net y.shortest t x.tree x.by_landmarks x.tables) (both_same net root Compact x.compact y.compact x.compact_are y.compact_are)
    ∙ ap (λ (t : List ℕ). text_of net y.shortest y.compact t x.by_landmarks x.tables) (one_row_by net root Tree DepthFirst x.tree y.tree x.tree_are y.tree_are)
    ∙ ap (λ (t : List ℕ). text_of net y.shortest y.compact y.tree t x.tables) (landmarks_same net root detours x.by_landmarks y.by_landmarks x.by_landmarks_are y.by_landmarks_are)
    ∙ ap (text_of net y.shortest y.compact y.tree y.by_landmarks) (one_table_bits net x.tables y.tables x.tables_are y.tables_are)
    ∙ sym y.whole

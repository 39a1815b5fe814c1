use Rattle.std.proofs.Common.{rules, ◌≡◌, ℕ, ◌<◌, ◌≤◌, Bool, false, List, [], length, replicate, Ok, Err, refl, ◌∷◌, arith, sym, subst, ◌∙◌}
use Rattle.std.specs.Prelude.{IfSome}
use Rattle.std.proofs.lemmas.List.{length-map}
use Rattle.ir_model.specs.Graph.{Adjacency, names}
use Rattle.ir_model.specs.Text.{lines}
use Rattle.ir_numbering.specs.Numbering.{IsListing}
use Rattle.ir_script.specs.declared.order_fault.OrderFault.{OrderFault}
use Rattle.ir_script.specs.Order.{order_fault, OrderTold}
use Rattle.ir_script.specs.Steps.{line_node}
use Rattle.ir_script.proofs.Orders.{IsReading, read_none, read_wrong, read_twice, read_on, read_listing}
use Rattle.ir_script.proofs.order.read_order.Goals as goal

count : (g : Adjacency) → length (names g) ≡ length g
count g = length-map g (λ r. r.0)

none_left : (xs : List ℕ) → length xs ≡ 0 → xs ≡ []
none_left [] e = refl
none_left (x ∷ xs) e = absurd (omega (arith, e))

pub loop-rest-init : goal.loop-rest-init
loop-rest-init c =
    let nodes = names c.args.graph.now in
    let text = c.args.text.now in
    let marks : c.in_ok-placed.placed.items ≡ replicate c.number_of_nodes.result false = c.in_ok-placed.ensures.items_if_clones_equal (λ y h. search rules) in
    let none : c.new-order.result.items ≡ [] = c.new-order.ensures.items in
    let every : c.number_of_nodes.result ≡ length nodes = c.number_of_nodes.ensures.len ∙ sym (count c.args.graph.now) in
    subst (λ (xs : List ℕ). IsReading nodes text xs c.in_ok-placed.placed.items 0 text) (sym none)
    (subst (λ (ms : List Bool). IsReading nodes text [] ms 0 text) (sym marks) (read_none nodes text c.number_of_nodes.result every))

pub returns-in-Err-clause-fault : goal.returns-in-Err-clause-fault
returns-in-Err-clause-fault c =
    let nodes = names c.args.graph.now in
    let text = c.args.text.now in
    let wrong : Err c.in-Err.kind ≡ line_node nodes c.next_line.result.0.now = sym c.in-Err.is ∙ c.line_node.ensures.node in
    subst (λ (f : OrderFault). OrderTold f (order_fault nodes (lines text))) (sym c.fault_at.ensures)
    (read_wrong nodes text c.loop-rest.order.items c.loop-rest.placed.items c.loop-rest.line c.loop-rest.rest.now c.next_line.result.0.now c.next_line.result.1.now c.loop-rest.invariant
    c.next_line.ensures.lines c.next_line.ensures.shorter c.in-Err.kind wrong)

pub returns-in-Err-place-clause-fault : goal.returns-in-Err-place-clause-fault
returns-in-Err-place-clause-fault c =
    let nodes = names c.args.graph.now in
    let text = c.args.text.now in
    let named : Ok c.in-Ok.node ≡ line_node nodes c.next_line.result.0.now = sym c.in-Ok.is ∙ c.line_node.ensures.node in
    subst (λ (f : OrderFault). OrderTold f (order_fault nodes (lines text))) (sym c.fault_at-in-Err-place.ensures)
    (read_twice nodes text c.loop-rest.order.items c.loop-rest.placed.items c.loop-rest.line c.loop-rest.rest.now c.next_line.result.0.now c.next_line.result.1.now c.loop-rest.invariant
    c.next_line.ensures.lines c.next_line.ensures.shorter c.in-Ok.node named c.in-Err-place.kind c.in-Err-place.ensures.twice)

pub loop-rest-preserved : goal.loop-rest-preserved
loop-rest-preserved c =
    let nodes = names c.args.graph.now in
    let text = c.args.text.now in
    let named : Ok c.in-Ok.node ≡ line_node nodes c.next_line.result.0.now = sym c.in-Ok.is ∙ c.line_node.ensures.node in
    let within : IfSome c.in-Ok.node (λ u. u < length nodes) = subst (λ (n : ℕ). IfSome c.in-Ok.node (λ u. u < n)) (sym (count c.args.graph.now)) c.in-Ok.ensures.within in
    read_on nodes text c.loop-rest.order.items c.loop-rest.placed.items c.loop-rest.line c.loop-rest.rest.now c.next_line.result.0.now c.next_line.result.1.now c.loop-rest.invariant
    c.next_line.ensures.lines c.next_line.ensures.shorter c.in-Ok.node named within c.in_default.ensures.free c.place.new.order.items c.place.new.placed.items c.in_default.ensures.order c.in_default.ensures.placed

pub returns-clause-listing : goal.returns-clause-listing
returns-clause-listing c =
    let nodes = names c.args.graph.now in
    let n : length nodes ≡ length c.args.graph.now = count c.args.graph.now in
    let none : length c.loop-rest.rest.now ≡ 0 = search rules in
    let enough : c.number_of_nodes-2.result ≤ c.len.result = search rules in
    subst (λ (k : ℕ). IsListing k c.loop-rest.order.items) n
    (read_listing nodes c.args.text.now c.loop-rest.order.items c.loop-rest.placed.items c.loop-rest.line c.loop-rest.rest.now c.loop-rest.invariant
    (none_left c.loop-rest.rest.now none) (omega (arith, n, enough, c.number_of_nodes-2.ensures.len, c.len.ensures)))

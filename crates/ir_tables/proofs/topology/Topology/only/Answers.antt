use Rattle.std.proofs.Common.{◌≡◌, ◌++◌, ◌∷◌, [], List, Some, slice_get, filter, map, take, refl, arith, ap, sym, subst, ◌∙◌}
use Rattle.std.proofs.lemmas.List.{take_all, map_more}
use Rattle.ir_model.specs.declared.Hop.{Hop}
use Rattle.ir_model.specs.Topology.{Topology, ports_of, is_up}
use Rattle.ir_model.proofs.Walks.{port_facts}
use Rattle.ir_model.proofs.Restrict.{restrict_topology}
use Rattle.ir_tables.proofs.topology.Topology.only.Goals as goal

pub ports_up-requires : goal.ports_up-requires
ports_up-requires c = λ p hop at.
    (let facts = port_facts c.args.self.now c.nodes-u-end.ensures.topology c.loop-u.u p hop (subst (λ (xs : List Hop). slice_get xs p ≡ Some hop) c.ports.ensures at) in
    let marks = c.requires in
    omega (arith, facts.link, marks))

pub loop-u-preserved : goal.loop-u-preserved
loop-u-preserved c =
    let net : Topology = c.args.self.now in
    let up = is_up c.args.up.now in
    let row = c.as_slice-in-loop-u.ensures.value ∙ c.in_ok-row.ensures ∙ ap (filter up) c.ports.ensures in
    let more = map_more (filter up) net.ports c.loop-u.u [] (omega (arith, c.nodes-u-end.ensures.count, c.loop-u-test.true)) in
    c.in_ok-ports-2.ensures ∙ ap (λ (hops : List Hop). c.loop-u.ports ++ hops ∷ []) row ∙ ap (λ (rows : List (List Hop)). rows ++ filter up (ports_of net c.loop-u.u) ∷ []) c.loop-u.invariant ∙ sym more

pub invariant_of-result : goal.invariant_of-result
invariant_of-result c =
    let net : Topology = c.args.self.now in
    let links : c.in_ok-links.links.items ≡ net.links = c.in_ok-links.ensures.items ∙ (c.as_slice.ensures.value ∙ ap (λ (n : Topology). n.links) c.self.view_is) in
    let whole : take c.loop-u.u net.ports ≡ net.ports = take_all c.loop-u.u net.ports (omega (arith, c.nodes-u-end.ensures.count, c.loop-u-test.false)) in
    let ports : c.loop-u.ports ≡ map (filter (is_up c.args.up.now)) net.ports = c.loop-u.invariant ∙ ap (map (filter (is_up c.args.up.now))) whole in
    rw (links, ports) (restrict_topology c.args.up.now net c.nodes-u-end.ensures.topology)

pub returns : goal.returns
returns c =
    let net : Topology = c.args.self.now in
    let links : c.in_ok-links.links.items ≡ net.links = c.in_ok-links.ensures.items ∙ (c.as_slice.ensures.value ∙ ap (λ (n : Topology). n.links) c.self.view_is) in
    let whole : take c.loop-u.u net.ports ≡ net.ports = take_all c.loop-u.u net.ports (omega (arith, c.nodes-u-end.ensures.count, c.loop-u-test.false)) in
    let ports : c.loop-u.ports ≡ map (filter (is_up c.args.up.now)) net.ports = c.loop-u.invariant ∙ ap (map (filter (is_up c.args.up.now))) whole in
    rw (links, ports) refl

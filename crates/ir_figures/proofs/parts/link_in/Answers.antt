use Rattle.std.proofs.Common.{◌≡◌, ◌∙◌, ◌+◌, ◌-◌, ◌<◌, ◌≤◌, ℕ, List, Some, length, get_or, slice_get, slice_index, ap, sym, subst, arith}
use Rattle.std.proofs.lemmas.List.{get_or_read}
use Rattle.std.proofs.lemmas.Option.{slice_get_within, slice_get-get_or}
use Rattle.ir_model.specs.declared.Hop.{Hop}
use Rattle.ir_model.specs.Topology.{node_count, ports_of, port_at}
use Rattle.ir_model.proofs.Walks.{port_facts}
use Rattle.ir_tables.proofs.Rounds.{past}
use Rattle.ir_figures.specs.Exits.{exits_before}
use Rattle.ir_figures.specs.Waits.{whole_number}
use Rattle.ir_figures.proofs.InParts.{ExitAt, exit_at, hop_there, is_numbered, no_number}
use Rattle.ir_figures.proofs.Offsets.{degree_le}
use Rattle.ir_figures.proofs.parts.link_in.Goals as goal

pub offset_bounds-ports-r : goal.offset_bounds-ports-r
offset_bounds-ports-r c =
    let exits = c.args.exits.now in
    let x : ℕ = c.index-x.result.now in
    let b : ℕ = c.index.result.now in
    let x_is : x ≡ slice_index exits.nodes.items c.args.c = get_or_read exits.nodes.items c.args.c x c.requires.link c.index-x.ensures 0 in
    let b_is : b ≡ slice_index exits.first.items x = get_or_read exits.first.items x b (omega (arith, x_is, c.requires.exits.node c.args.c c.requires.link, c.requires.exits.every)) c.index.ensures 0 in
    let at = exit_at c.args.part.now exits.first.items exits.nodes.items c.requires.exits c.args.c x b c.requires.link x_is b_is in
    omega (arith, at.port, degree_le c.args.part.now c.invariant.ensures.topology x, c.invariant.ensures.topology.few_nodes)

pub bounds-ports-r : goal.bounds-ports-r
bounds-ports-r c =
    let exits = c.args.exits.now in
    let x : ℕ = c.index-x.result.now in
    let b : ℕ = c.index.result.now in
    let x_is : x ≡ slice_index exits.nodes.items c.args.c = get_or_read exits.nodes.items c.args.c x c.requires.link c.index-x.ensures 0 in
    let b_is : b ≡ slice_index exits.first.items x = get_or_read exits.first.items x b (omega (arith, x_is, c.requires.exits.node c.args.c c.requires.link, c.requires.exits.every)) c.index.ensures 0 in
    let at = exit_at c.args.part.now exits.first.items exits.nodes.items c.requires.exits c.args.c x b c.requires.link x_is b_is in
    omega (arith, at.port, ap length c.ports.ensures)

pub whole_number-requires : goal.whole_number-requires
whole_number-requires c =
    let exits = c.args.exits.now in
    let net = c.args.part.now in
    let x : ℕ = c.index-x.result.now in
    let b : ℕ = c.index.result.now in
    let r : ℕ = c.args.c - b in
    let x_is : x ≡ slice_index exits.nodes.items c.args.c = get_or_read exits.nodes.items c.args.c x c.requires.link c.index-x.ensures 0 in
    let b_is : b ≡ slice_index exits.first.items x = get_or_read exits.first.items x b (omega (arith, x_is, c.requires.exits.node c.args.c c.requires.link, c.requires.exits.every)) c.index.ensures 0 in
    let at = exit_at net exits.first.items exits.nodes.items c.requires.exits c.args.c x b c.requires.link x_is b_is in
    let hop : Hop = get_or c.ports.result.now r past in
    let leads : port_at net x r ≡ Some hop = ap (λ (xs : List Hop). slice_get xs r) (sym c.ports.ensures) ∙ slice_get-get_or c.ports.result.now r past (omega (arith, at.port, ap length c.ports.ensures)) in
    omega (arith, c.requires.within hop.node (port_facts net c.invariant.ensures.topology x r hop leads).to, c.invariant-2.ensures.topology.few_nodes)

pub returns-in_default : goal.returns-in_default
returns-in_default c =
    let exits = c.args.exits.now in
    let net = c.args.part.now in
    let whole = c.args.whole.now in
    let x : ℕ = c.index-x.result.now in
    let b : ℕ = c.index.result.now in
    let r : ℕ = c.args.c - b in
    let x_is : x ≡ slice_index exits.nodes.items c.args.c = get_or_read exits.nodes.items c.args.c x c.requires.link c.index-x.ensures 0 in
    let b_is : b ≡ slice_index exits.first.items x = get_or_read exits.first.items x b (omega (arith, x_is, c.requires.exits.node c.args.c c.requires.link, c.requires.exits.every)) c.index.ensures 0 in
    let at = exit_at net exits.first.items exits.nodes.items c.requires.exits c.args.c x b c.requires.link x_is b_is in
    let hop : Hop = get_or c.ports.result.now r past in
    let leads : port_at net x r ≡ Some hop = ap (λ (xs : List Hop). slice_get xs r) (sym c.ports.ensures) ∙ slice_get-get_or c.ports.result.now r past (omega (arith, at.port, ap length c.ports.ensures)) in
    let none = rw c.in_default.is at c.port_to.ensures.none in
    let ports : c.ports-2.result.now ≡ ports_of whole (whole_number c.args.without x) = c.ports-2.ensures ∙ ap (ports_of whole) c.whole_number-u.ensures in
    no_number whole net (whole_number c.args.without) x r c.args.c hop at leads
    (λ p other there same. none p other (ap (λ (xs : List Hop). slice_get xs p) ports ∙ there) (same ∙ sym c.whole_number.ensures))

pub overflow_add-result : goal.overflow_add-result
overflow_add-result c =
    let whole = c.args.whole.now in
    let some = rw c.in-Some.is at c.port_to.ensures.some in
    let found = hop_there (slice_get c.ports-2.result.now c.in-Some.p) (λ hop. hop.node ≡ c.whole_number.result) some in
    let within : c.in-Some.p < length c.ports-2.result.now = slice_get_within c.ports-2.result.now c.in-Some.p found.0 found.1 in
    omega (arith, c.type_inv.first c.whole_number-u.result, within, ap length c.ports-2.ensures, degree_le whole c.invariant-2.ensures.topology c.whole_number-u.result, c.invariant-2.ensures.topology.few_nodes)

pub returns : goal.returns
returns c =
    let exits = c.args.exits.now in
    let net = c.args.part.now in
    let whole = c.args.whole.now in
    let number = whole_number c.args.without in
    let x : ℕ = c.index-x.result.now in
    let b : ℕ = c.index.result.now in
    let r : ℕ = c.args.c - b in
    let x_is : x ≡ slice_index exits.nodes.items c.args.c = get_or_read exits.nodes.items c.args.c x c.requires.link c.index-x.ensures 0 in
    let b_is : b ≡ slice_index exits.first.items x = get_or_read exits.first.items x b (omega (arith, x_is, c.requires.exits.node c.args.c c.requires.link, c.requires.exits.every)) c.index.ensures 0 in
    let at = exit_at net exits.first.items exits.nodes.items c.requires.exits c.args.c x b c.requires.link x_is b_is in
    let hop : Hop = get_or c.ports.result.now r past in
    let leads : port_at net x r ≡ Some hop = ap (λ (xs : List Hop). slice_get xs r) (sym c.ports.ensures) ∙ slice_get-get_or c.ports.result.now r past (omega (arith, at.port, ap length c.ports.ensures)) in
    let some = rw c.in-Some.is at c.port_to.ensures.some in
    let found = hop_there (slice_get c.ports-2.result.now c.in-Some.p) (λ other. other.node ≡ c.whole_number.result) some in
    let ports : c.ports-2.result.now ≡ ports_of whole (number x) = c.ports-2.ensures ∙ ap (ports_of whole) c.whole_number-u.ensures in
    let u_in = c.requires.within x at.node in
    let begins : slice_index c.args.first.now (number x) ≡ exits_before whole (number x) = c.requires.first.1.starts (number x) u_in in
    is_numbered whole net number x r c.args.c c.in-Some.p (slice_index c.args.first.now c.whole_number-u.result + c.in-Some.p) found.0 hop at
    (ap (λ (xs : List Hop). slice_get xs c.in-Some.p) (sym ports) ∙ found.1) leads
    (sym c.whole_number.ensures ∙ sym found.2)
    (omega (arith, begins, ap (slice_index c.args.first.now) c.whole_number-u.ensures))

use Rattle.std.specs.Prelude.{◌≡◌, ◌<◌, ℕ, List, Some, length, slice_get}
use Rattle.std.proofs.Common.{arith, refl, ap, sym, subst, ◌∙◌, get_or}
use Rattle.std.proofs.lemmas.List.{get_or_default}
use Rattle.std.proofs.lemmas.Option.{slice_get_read, slice_get_within}
use Rattle.ir_model.specs.declared.Hop.{Hop}
use Rattle.ir_model.specs.Topology.{ports_of, port_back}
use Rattle.ir_control.proofs.channels.port_back.Goals as goal

abbrev no_hop : Hop
no_hop = record { node = 0; link = 0; weight = 0 }

-- the hop of this turn is at its place
hop_read : (row now : List Hop) (q : ℕ) → now ≡ row → q < length now → slice_get row q ≡ Some (get_or now q no_hop)
hop_read row now q e lt =
    subst (λ (r : List Hop). slice_get r q ≡ Some (get_or now q no_hop)) e
    (slice_get_read now (length now) q (get_or now q no_hop) refl lt (sym (get_or_default now q (get_or now q no_hop) no_hop lt)))

pub unreachable-requires : goal.unreachable-requires
unreachable-requires c =
    let port = c.requires.port in
    let back = c.invariant.ensures.topology.paired c.args.u port.0 c.args.hop.now port.1 in
    let row = ports_of c.args.topology.now c.args.hop.now.node in
    let within = slice_get_within row back.0 (port_back c.args.u c.args.hop.now) back.1 in
    let all = ap (λ (r : List Hop). length r) c.ports-other-items.ensures in
    let least = c.loop-q-test.false in
    c.loop-q.invariant back.0 (port_back c.args.u c.args.hop.now) (omega (arith, within, all, least)) back.1 refl

pub loop-q-init : goal.loop-q-init
loop-q-init c = λ k other lt got same. omega (arith, lt)

pub returns-then-other-u : goal.returns-then-other-u
returns-then-other-u c =
    let port = c.requires.port in
    let back = c.invariant.ensures.topology.paired c.args.u port.0 c.args.hop.now port.1 in
    let row = ports_of c.args.topology.now c.args.hop.now.node in
    let now = c.ports-other-items.result.now in
    let here = hop_read row c.ports-other-items.result.now c.loop-q.q c.ports-other-items.ensures c.loop-q-test.true in
    let at = c.invariant.ensures.topology.single c.args.hop.now.node c.loop-q.q back.0 (get_or now c.loop-q.q no_hop) (port_back c.args.u c.args.hop.now) here back.1 c.if-other-u.true in
    ap (slice_get row) at ∙ back.1

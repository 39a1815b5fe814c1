use Rattle.std.proofs.Common.{◌≡◌, ◌≢◌, ℕ, zero, suc, ◌-◌, ◌<◌, List, length, refl, sym, ap, ◌∙◌, get_or, arith}
use Rattle.std.specs.Prelude.{slice_get}
use Rattle.std.proofs.lemmas.Option.{slice_get_read}
use Rattle.ir_model.specs.declared.Hop.{Hop}
use Rattle.ir_core.specs.declared.event.Way.TheVariants.{Link}
use Rattle.ir_worker.specs.Seen.{net_place}
use Rattle.ir_worker.specs.Wires.{In, IsWayAt}
use Rattle.ir_worker.proofs.Ways.{as_many}
use Rattle.ir_worker.proofs.node.Node.way.Goals as goal

-- the way of a port
port_way : (ports : List Hop) (k : ℕ) (mine : Hop) → k ≢ 0 → k - 1 < length ports → mine ≡ get_or ports (k - 1) mine → IsWayAt ports (Link mine.link) k
port_way ports zero mine some lt read = absurd (some refl)
port_way ports (suc j) mine some lt read =
    let same : suc j - 1 ≡ j = omega arith in
    (mine, ap (λ (k : ℕ). slice_get ports k) (sym same) ∙ slice_get_read ports (length ports) (suc j - 1) mine refl lt read, refl)

pub index-requires : goal.index-requires
index-requires c =
    let n = c.args.self.now in
    let many = as_many (λ (t : In). t.channel.place) n.entrances.ports.items (λ (h : Hop). net_place n.opening n.restamps h.node n.index) n.ports.items n.ends.in_places in
    omega (arith, many, n.entrances.next_in, n.ports.ok.0)

pub returns : goal.returns
returns c =
    let n = c.args.self.now in
    let many = as_many (λ (t : In). t.channel.place) n.entrances.ports.items (λ (h : Hop). net_place n.opening n.restamps h.node n.index) n.ports.items n.ends.in_places in
    port_way n.ports.items n.entrances.next c.index.result.now c.if-next-eq0.false (omega (arith, many, n.entrances.next_in)) c.index.ensures

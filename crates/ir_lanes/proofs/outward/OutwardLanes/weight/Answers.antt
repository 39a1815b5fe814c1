use Rattle.std.proofs.Common.{◌≡◌, ◌≢◌, ◌∙◌, ◌/◌, ◌^◌, ◌*◌, ◌+◌, ℕ, List, cond, sym, ap, get_or}
use Rattle.std.proofs.lemmas.Bool.{eq-eqb, ne_eqb}
use Rattle.std.proofs.lemmas.List.{get_or_read}
use Rattle.ir_lanes.specs.Lanes.{in_lane}
use Rattle.ir_lanes.specs.Outward.{OutwardLanes, lane_weight, source_at}
use Rattle.ir_lanes.proofs.outward.OutwardLanes.weight.Goals as goal

weight_own : (ways : OutwardLanes) (k v : ℕ) → v ≡ source_at ways k → 0 ≡ lane_weight ways k v
weight_own ways k v e = sym (ap (λ t. cond t 0 (in_lane ways.keys k v / 2 ^ ways.bits)) (eq-eqb v (source_at ways k) e))

weight_other : (ways : OutwardLanes) (k v : ℕ) → v ≢ source_at ways k → in_lane ways.keys k v / 2 ^ ways.bits ≡ lane_weight ways k v
weight_other ways k v ne = sym (ap (λ t. cond t 0 (in_lane ways.keys k v / 2 ^ ways.bits)) (ne_eqb v (source_at ways k) ne))

pub returns-then-v-index : goal.returns-then-v-index
returns-then-v-index c =
    let ways = c.args.self.now in
    let inside : c.self.inside.sources.items ≡ ways.sources = ap (λ (w : OutwardLanes). w.sources) c.self.view_is in
    let read : c.index.result.now ≡ source_at ways c.args.lane =
    get_or_read ways.sources c.args.lane c.index.result.now c.requires.sources (c.index.ensures ∙ ap (λ (xs : List ℕ). get_or xs c.args.lane c.index.result.now) inside) 0 in
    weight_own ways c.args.lane c.args.v (c.if-v-index.true ∙ read)

pub returns-else-v-index : goal.returns-else-v-index
returns-else-v-index c =
    let ways = c.args.self.now in
    let lane = c.args.lane in
    let v = c.args.v in
    let sources : c.self.inside.sources.items ≡ ways.sources = ap (λ (w : OutwardLanes). w.sources) c.self.view_is in
    let keys : c.self.inside.keys.items ≡ ways.keys = ap (λ (w : OutwardLanes). w.keys) c.self.view_is in
    let bits : c.self.inside.bits ≡ ways.bits = ap (λ (w : OutwardLanes). w.bits) c.self.view_is in
    let read : c.index.result.now ≡ source_at ways lane =
    get_or_read ways.sources lane c.index.result.now c.requires.sources (c.index.ensures ∙ ap (λ (xs : List ℕ). get_or xs lane c.index.result.now) sources) 0 in
    let key : c.index-else-v-index.result.now ≡ in_lane ways.keys lane v =
    get_or_read ways.keys (v * 16 + lane) c.index-else-v-index.result.now c.requires.keys (c.index-else-v-index.ensures ∙ ap (λ (xs : List ℕ). get_or xs (v * 16 + lane) c.index-else-v-index.result.now) keys) 0 in
    rw (key, bits) (weight_other ways lane v (λ e. c.if-v-index.false (e ∙ sym read)))

use Rattle.std.proofs.Common.{◌++◌, ◌∷◌, ◌∙◌, [], ℕ, List, map, take, get_or, refl, ap, sym, arith, length-set}
use Rattle.std.proofs.lemmas.List.{map_push, take_all, take_more, take_more_set}
use Rattle.ir_lanes.specs.Outward.{lane_port}
use Rattle.ir_lanes.proofs.outward.OutwardLanes.put_ports.Goals as goal

pub loop-i-init : goal.loop-i-init
loop-i-init c = record { every = c.requires.every; done = refl }

pub bounds-nodes-i : goal.bounds-nodes-i
bounds-nodes-i c = c.loop-i-test.true

pub bounds-ports-i : goal.bounds-ports-i
bounds-ports-i c = omega (arith, c.loop-i-test.true, c.loop-i.invariant.every)

pub port-requires-clause-keys : goal.port-requires-clause-keys
port-requires-clause-keys c = omega (arith, c.requires.nodes c.loop-i.i c.loop-i-test.true, c.requires.lane, c.requires.ways.every)

pub port-requires-clause-bits : goal.port-requires-clause-bits
port-requires-clause-bits c = c.requires.ways.few_bits

pub loop-i-preserved : goal.loop-i-preserved
loop-i-preserved c =
    let i : ℕ = c.loop-i.i in
    let nodes : List ℕ = c.args.nodes.now in
    let port : ℕ → ℕ = lane_port c.args.self.now c.args.lane in
    let before = c.loop-i.invariant in
    record {
      every = length-set c.loop-i.ports i c.port.result ∙ before.every;
      done = take_more_set c.loop-i.ports i c.port.result (omega (arith, c.loop-i-test.true, before.every))
          ∙ ap (λ (xs : List ℕ). xs ++ c.port.result ∷ []) before.done ∙ ap (λ (p : ℕ). map port (take i nodes) ++ p ∷ []) c.port.ensures
          ∙ sym (map_push port (take i nodes) (get_or nodes i 0)) ∙ ap (λ (xs : List ℕ). map port xs) (sym (take_more nodes i 0 c.loop-i-test.true));
    }

pub returns : goal.returns
returns c =
    let done = c.loop-i.invariant in
    let port : ℕ → ℕ = lane_port c.args.self.now c.args.lane in
    sym (take_all c.loop-i.i c.loop-i.ports (omega (arith, c.loop-i-test.false, done.every))) ∙ done.done
    ∙ ap (λ (xs : List ℕ). map port xs) (take_all c.loop-i.i c.args.nodes.now c.loop-i-test.false)

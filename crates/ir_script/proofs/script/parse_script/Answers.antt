use Rattle.std.proofs.Common.{◌≡◌, ◌∙◌, ℕ, true, List, Result, Ok, Err, IfOk, length, sym, ap}
use Rattle.std.specs.List.{list_all}
use Rattle.std.proofs.lemmas.List.{length-map}
use Rattle.ir_model.specs.declared.Detour.{Detour}
use Rattle.ir_model.specs.Graph.{Name, names}
use Rattle.ir_model.specs.Topology.{Topology, IsTopology, node_count}
use Rattle.ir_model.specs.OfGraph.{topology_of_graph}
use Rattle.ir_model.specs.Text.{lines}
use Rattle.ir_core.specs.declared.event.Step.{Step}
use Rattle.ir_script.specs.declared.script.Script.{Script}
use Rattle.ir_script.specs.Script.{listing_of}
use Rattle.ir_script.specs.Within.{is_step_within}
use Rattle.ir_script.proofs.StepsWithin.{steps_within}
use Rattle.ir_script.proofs.script.parse_script.Goals as goal

all_within : {E : Type 0} (detour : Detour) (nodes : List Name) (net : Topology) → IsTopology net → length nodes ≡ node_count net → (text : List (List ℕ)) (result : Result (Script Step) E)
    → IfOk result (λ s. listing_of detour nodes net text ≡ Ok (record { steps = s.steps.items; lines = s.lines.items })) → IfOk result (λ s. list_all (is_step_within net) s.steps.items ≡ true)
all_within detour nodes net ok count text (Ok s) e = steps_within detour nodes net ok count text _ e
all_within detour nodes net ok count text (Err f) e = e

pub returns-clause-within : goal.returns-clause-within
returns-clause-within c =
    let g = c.args.graph.now in
    let net = c.args.topology.now in
    let same : length (names g) ≡ node_count (topology_of_graph g) = simp length-map in
    let count : length (names g) ≡ node_count net = same ∙ sym (ap node_count c.requires) in
    all_within c.args.detour (names g) net c.invariant.ensures.topology count (lines c.args.text.now) c.parse.result c.parse.ensures.parsed

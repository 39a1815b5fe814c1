-- The stops of a walk, and their lines.
use Rattle.std.specs.Prelude.{◌≡◌, ◌≢◌, ℕ, ◌<◌, Some, List, [], ◌∷◌, ◌++◌, All, map, flat_map, decimal, codes}
use Rattle.ir_model.specs.Graph.{Name}
use Rattle.ir_model.specs.Walk.{walk_weight}
use Rattle.ir_model.specs.Table.{IsPrescribedWalk}
use Rattle.ir_model.specs.Plan.{Plan, label_in, row_in, table_port, next_hop}
use Rattle.ir_trace.specs.Written.{name_at}
use Rattle.ir_show.specs.PlanText.{kind_text}
use Rattle.ir_show.specs.WalkText.{interval_with}
use Rattle.ir_show.specs.Words.{line_text}
use Rattle.ir_show.specs.declared.stops.WalkStop.{WalkStop}
use Rattle.ir_show.specs.declared.stops.Stops.{Stops}

-- what a plan says of a node on the way to b
pub record IsStopOf (plan : Plan) (b : ℕ) (stop : WalkStop) : Type 0 where
  pub before : stop.node ≢ b
  pub label : stop.label ≡ label_in plan stop.node
  pub start : stop.start ≡ (interval_with (row_in plan stop.node) (label_in plan b)).start
  pub end : stop.end ≡ (interval_with (row_in plan stop.node) (label_in plan b)).end
  pub hop : next_hop plan stop.node b ≡ Some stop.hop

-- the nodes of the stops, and b after them
abbrev pub stop_nodes : List WalkStop → ℕ → List ℕ
stop_nodes stops b = map (λ (s : WalkStop). s.node) stops ++ b ∷ []

-- the stops before b of the walk from a to b that a plan prescribes, which has this weight
pub record AreStopsTo (plan : Plan) (a b : ℕ) (stops : List WalkStop) (weight : ℕ) : Type 0 where
  pub prescribed : IsPrescribedWalk plan.topology (table_port plan) a b (stop_nodes stops b)
  pub weighs : walk_weight plan.topology (stop_nodes stops b) ≡ weight
  pub each : All (IsStopOf plan b) stops

-- the walk from a to b that a plan prescribes, by its stops, with the label of b
pub record AreStopsOf (plan : Plan) (a b : ℕ) (walk : Stops) : Type 0 where
  pub from : walk.from ≡ a
  pub to : walk.to ≡ b
  pub kind : walk.kind ≡ plan.kind
  pub label : walk.label ≡ label_in plan b
  pub stops : AreStopsTo plan a b walk.stops.items walk.weight

-- the nodes of the stops, and those that they send on to, are among so many, and so are the ends
pub record AreStopsAmong (n : ℕ) (walk : Stops) : Type 0 where
  pub from : walk.from < n
  pub to : walk.to < n
  pub stops : All (λ (s : WalkStop). (s.node < n) × (s.hop.node < n)) walk.stops.items

-- the words of a stop
abbrev pub stop_line : List Name → WalkStop → List (List ℕ)
stop_line nodes stop = name_at nodes stop.node ∷ decimal stop.label ∷ decimal stop.start ∷ decimal stop.end ∷ name_at nodes stop.hop.node ∷ decimal stop.hop.weight ∷ []

-- the words of the end
abbrev pub end_line : List Name → Stops → List (List ℕ)
end_line nodes walk = name_at nodes walk.to ∷ decimal walk.label ∷ []

-- the words of the first line
abbrev pub head_line : List Name → Stops → List (List ℕ)
head_line nodes walk = codes "walk" ∷ kind_text walk.kind ∷ name_at nodes walk.from ∷ name_at nodes walk.to ∷ decimal walk.label ∷ decimal walk.weight ∷ []

-- the text of a walk by its stops
abbrev pub text_of_stops : List Name → Stops → List ℕ
text_of_stops nodes walk =
    line_text (head_line nodes walk) ++ (flat_map (λ s. line_text (stop_line nodes s)) walk.stops.items ++ line_text (end_line nodes walk))

-- The stops of a walk, one after the other.
use Rattle.std.proofs.Common.{◌≡◌, ◌≢◌, ℕ, ◌+◌, ◌*◌, ◌<◌, ◌≤◌, List, [], ◌∷◌, ◌++◌, map, length, Some, refl, sym, ap, ◌∙◌, subst, arith, flat_map}
use Rattle.std.specs.Prelude.{All}
use Rattle.std.specs.Prelude.{if◌then◌else◌, ◌==◌}
use Rattle.std.specs.Option.{option_map_or}
use Rattle.std.proofs.lemmas.Bool.{eq-eqb, ne_eqb}
use Rattle.std.proofs.lemmas.Grind.{flat_map-append}
use Rattle.std.proofs.lemmas.List.{append-nil, length_push, map_push}
use Rattle.std.proofs.lemmas.List.Elements.{All-head, All-tail, All-push}
use Rattle.ir_model.specs.declared.Kind.{Kind}
use Rattle.ir_model.specs.Graph.{Name}
use Rattle.ir_model.specs.Topology.{Topology, node_count}
use Rattle.ir_model.specs.Walk.{walk_weight}
use Rattle.ir_model.specs.Table.{IsPrescribedWalk}
use Rattle.ir_model.specs.Plan.{Plan, IsPlan, table_port, next_hop, label_in}
use Rattle.ir_model.proofs.Walks.{port_facts}
use Rattle.ir_numbering.specs.Numbering.{Numbering}
use Rattle.ir_tables.proofs.Ways.{next_at}
use Rattle.ir_show.specs.WalkText.{onward_words, stop_words, walk_head, walk_text, IsWalkOf}
use Rattle.ir_show.specs.Words.{line_text}
use Rattle.ir_show.proofs.WalkLines.{IsWalkSoFar, walk_begins, walk_goes_on, walk_whole, interval_to}
use Rattle.ir_show.specs.Plans.{IsPlanOver}
use Rattle.ir_show.specs.Stops.{IsStopOf, stop_nodes, AreStopsTo, AreStopsOf, AreStopsAmong, stop_line, end_line, head_line, text_of_stops}
use Rattle.ir_show.specs.declared.stops.WalkStop.{WalkStop}
use Rattle.ir_show.specs.declared.stops.Stops.{Stops}

-- ---- the walk so far

-- the stops so far on the walk of a plan from a to b
pub record AreStopsAlong (s : Plan) (a b at weight : ℕ) (stops : List WalkStop) : Type 0 where
  pub far : IsWalkSoFar s a b at weight (length stops) (stop_nodes stops at)
  pub each : All (IsStopOf s b) stops

module _ (s : Plan) (valid : IsPlan s) (a b : ℕ) where
  pub along_begins : a < node_count s.topology → b < node_count s.topology → AreStopsAlong s a b a 0 []
  along_begins a_in b_in = record { far = walk_begins s valid a b a_in b_in; each = λ k d lt. absurd (omega (arith, lt)) }

  module _ (at weight : ℕ) (stops : List WalkStop) (so : AreStopsAlong s a b at weight stops) where
    pub along_goes_on : (stop : WalkStop) → stop.node ≡ at → IsStopOf s b stop → AreStopsAlong s a b stop.hop.node (weight + stop.hop.weight) (stops ++ stop ∷ [])
    along_goes_on stop node here =
        let Q : ℕ → Type 0 = λ x. (x ≢ b) × (next_hop s x b ≡ Some stop.hop) in
        let on : Q at = subst Q node (here.before, here.hop) in
        let nodes : stop_nodes stops at ++ stop.hop.node ∷ [] ≡ stop_nodes (stops ++ stop ∷ []) stop.hop.node =
        ap (λ (x : ℕ). (map (λ (t : WalkStop). t.node) stops ++ x ∷ []) ++ stop.hop.node ∷ []) (sym node)
        ∙ ap (λ (xs : List ℕ). xs ++ stop.hop.node ∷ []) (sym (map_push (λ (t : WalkStop). t.node) stops stop)) in
        let len = length_push stops stop in
        let steps : length stops + 1 ≡ length (stops ++ stop ∷ []) = omega (arith, len) in
        let P : ℕ → List ℕ → Type 0 = λ k xs. IsWalkSoFar s a b stop.hop.node (weight + stop.hop.weight) k xs in
        record {
          far = subst (λ (k : ℕ). P k (stop_nodes (stops ++ stop ∷ []) stop.hop.node)) steps
              (subst (λ (xs : List ℕ). P (length stops + 1) xs) nodes (walk_goes_on s valid a b at weight (length stops) (stop_nodes stops at) stop.hop so.far on.0 on.1));
          each = All-push (IsStopOf s b) stops stop so.each here;
        }

    -- at the end the stops are whole
    pub along_whole : at ≡ b → AreStopsTo s a b stops weight
    along_whole end =
        let whole = walk_whole s a b at weight (length stops) (stop_nodes stops at) so.far end in
        let P : ℕ → Type 0 = λ x. IsPrescribedWalk s.topology (table_port s) a b (stop_nodes stops x) × (walk_weight s.topology (stop_nodes stops x) ≡ weight) in
        let all : P b = subst P end whole in
        record { prescribed = all.0; weighs = all.1; each = so.each }

    -- there are fewer stops than nodes
    pub along_light : (weight ≤ 65535 * length stops) × (length stops < node_count s.topology)
    along_light = let left = so.far.left in let light = so.far.light in (light, omega (arith, left))

    -- one step more weighs less than 2^32
    pub along_weighs : (stop : WalkStop) → IsStopOf s b stop → weight + stop.hop.weight < 4294967296
    along_weighs stop here =
        let next = next_at s.topology (table_port s) stop.node b stop.hop here.hop in
        let facts = port_facts s.topology valid.topology stop.node next.port stop.hop next.there in
        let few = valid.topology.few_nodes in
        omega (arith, along_light.0, along_light.1, facts.bounded, few)

-- a plan of these numbers, and its stops so far on the walk from a to b
pub record AreStopsSoFar (net : Topology) (kind : Kind) (numbers : Numbering) (a b at weight : ℕ) (stops : List WalkStop) : Type 0 where
  pub plan : Plan
  pub is : IsPlanOver net kind numbers plan
  pub along : AreStopsAlong plan a b at weight stops

module _ (net : Topology) (kind : Kind) (numbers : Numbering) (a b : ℕ) where
  pub stops_begin : (plan : Plan) → IsPlanOver net kind numbers plan → a < node_count net → b < node_count net → AreStopsSoFar net kind numbers a b a 0 []
  stops_begin plan is a_in b_in =
      let P : Topology → Type 0 = λ over. (a < node_count over) × (b < node_count over) in
      let within : P plan.topology = subst P (sym is.over) (a_in, b_in) in
      record { plan = plan; is = is; along = along_begins plan is.valid a b within.0 within.1 }

  module _ (at weight : ℕ) (stops : List WalkStop) (so : AreStopsSoFar net kind numbers a b at weight stops) where
    pub stops_stand : at < node_count net
    stops_stand = subst (λ (over : Topology). at < node_count over) so.is.over so.along.far.in_net

    pub stops_few : length stops < node_count net
    stops_few = subst (λ (over : Topology). length stops < node_count over) so.is.over (along_light so.plan so.is.valid a b at weight stops so.along).1

    module _ (stop : WalkStop) (says : (plan : Plan) → IsPlanOver net kind numbers plan → IsStopOf plan b stop) where
      pub stops_go_on : stop.node ≡ at → AreStopsSoFar net kind numbers a b stop.hop.node (weight + stop.hop.weight) (stops ++ stop ∷ [])
      stops_go_on node = record { plan = so.plan; is = so.is; along = along_goes_on so.plan so.is.valid a b at weight stops so.along stop node (says so.plan so.is) }

      pub stops_weigh : weight + stop.hop.weight < 4294967296
      stops_weigh = along_weighs so.plan so.is.valid a b at weight stops so.along stop (says so.plan so.is)

-- ---- the text

module _ (nodes : List Name) (s : Plan) (b : ℕ) where
  -- the line of a stop
  stop_same : (stop : WalkStop) → IsStopOf s b stop → stop_line nodes stop ≡ stop_words nodes s b stop.node
  stop_same stop is =
      let u = stop.node in
      let words : (if u == b then [] else option_map_or (onward_words nodes s b u) (next_hop s u b) []) ≡ onward_words nodes s b u stop.hop = rw (ne_eqb u b is.before, is.hop) refl in
      rw (words, is.label, is.start, is.end) refl

  lines_same : (stops : List WalkStop) → All (IsStopOf s b) stops
      → flat_map (λ (t : WalkStop). line_text (stop_line nodes t)) stops ≡ flat_map (λ (u : ℕ). line_text (stop_words nodes s b u)) (map (λ (t : WalkStop). t.node) stops)
  lines_same [] all = refl
  lines_same (stop ∷ stops) all =
      let here = ap line_text (stop_same stop (All-head (IsStopOf s b) stop stops all)) in
      let rest = lines_same stops (All-tail (IsStopOf s b) stop stops all) in
      rw (here, rest) refl

  end_same : (walk : Stops) → walk.to ≡ b → walk.label ≡ label_in s b → end_line nodes walk ≡ stop_words nodes s b b
  end_same walk to label = rw (eq-eqb b b refl, to, label) refl

  pub text_same : (a : ℕ) (walk : Stops) → AreStopsOf s a b walk → text_of_stops nodes walk ≡ walk_text nodes s a b (stop_nodes walk.stops.items b)
  text_same a walk is =
      let line : ℕ → List ℕ = λ u. line_text (stop_words nodes s b u) in
      let passed = map (λ (t : WalkStop). t.node) walk.stops.items in
      let head : head_line nodes walk ≡ walk_head nodes s a b (walk_weight s.topology (stop_nodes walk.stops.items b)) = rw (is.from, is.to, is.kind, is.label, is.stops.weighs) refl in
      let stops = lines_same walk.stops.items is.stops.each in
      let end : line_text (end_line nodes walk) ≡ flat_map line (b ∷ []) = ap line_text (end_same walk is.to is.label) ∙ sym (append-nil (line b)) in
      let all : flat_map (λ (t : WalkStop). line_text (stop_line nodes t)) walk.stops.items ++ line_text (end_line nodes walk) ≡ flat_map line (stop_nodes walk.stops.items b) =
      ap (λ (xs : List ℕ). xs ++ line_text (end_line nodes walk)) stops ∙ ap (λ (xs : List ℕ). flat_map line passed ++ xs) end ∙ sym (flat_map-append line passed (b ∷ [])) in
      ap (λ (ws : List (List ℕ)). line_text ws ++ (flat_map (λ (t : WalkStop). line_text (stop_line nodes t)) walk.stops.items ++ line_text (end_line nodes walk))) head
      ∙ ap (λ (xs : List ℕ). line_text (walk_head nodes s a b (walk_weight s.topology (stop_nodes walk.stops.items b))) ++ xs) all

  pub walk_told : IsPlan s → b < node_count s.topology → (a : ℕ) (walk : Stops) → AreStopsOf s a b walk → (text : List ℕ) → text ≡ text_of_stops nodes walk → IsWalkOf nodes s a b text
  walk_told valid b_in a walk is text told = record {
    walk = stop_nodes walk.stops.items b;
    prescribed = is.stops.prescribed;
    intervals = λ u u_in other. interval_to s valid u b u_in b_in other;
    whole = told ∙ text_same a walk is;
  }

-- the nodes of the stops are nodes
pub stops_among : (s : Plan) → IsPlan s → (a b : ℕ) → a < node_count s.topology → b < node_count s.topology → (walk : Stops) → AreStopsOf s a b walk → AreStopsAmong (node_count s.topology) walk
stops_among s valid a b a_in b_in walk are = record {
  from = omega (arith, are.from, a_in);
  to = omega (arith, are.to, b_in);
  stops = λ k d lt.
      let stop = are.stops.each k d lt in
      let next = next_at s.topology (table_port s) _ b _ stop.hop in
      let facts = port_facts s.topology valid.topology _ next.port _ next.there in
      (facts.from, facts.to);
}

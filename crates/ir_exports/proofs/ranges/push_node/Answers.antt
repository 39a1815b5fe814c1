use Rattle.std.proofs.Common.{◌≡◌, ◌<◌, ◌∙◌, ◌++◌, ℕ, List, ◌∷◌, [], ap, sym, subst, arith, append_assoc, flat_map, length, string_bytes}
use Rattle.std.specs.Prelude.{All, decimal}
use Rattle.ir_model.specs.Graph.{names}
use Rattle.ir_model.specs.Plan.{label_in}
use Rattle.ir_model.specs.Topology.{node_count, ports_of}
use Rattle.ir_prefix.specs.declared.ranges.LabelRange.{LabelRange}
use Rattle.ir_trace.specs.Rows.{spaced}
use Rattle.ir_trace.specs.Written.{name_at}
use Rattle.ir_show.proofs.PlanLines.{node_line}
use Rattle.ir_exports.specs.RangesText.{range_words}
use Rattle.ir_exports.proofs.RangeTexts.{range_ports_in}
use Rattle.ir_exports.proofs.ranges.push_node.Goals as goal

pub push_ranges-requires-clause-ports : goal.push_ranges-requires-clause-ports
push_ranges-requires-clause-ports c =
    let s = c.args.plan.now in
    let u_in : c.args.u < node_count s.topology = omega (arith, c.requires.node, c.requires.nodes) in
    let P : List LabelRange → Type 0 = λ set. All (λ (r : LabelRange). r.port < length (ports_of s.topology c.args.u)) set in
    subst P (sym c.as_slice.ensures.value) (range_ports_in s c.invariant.ensures.plan c.args.u c.in_ok-set.set.items u_in c.in_ok-set.ensures.tells)

pub returns-clause-count : goal.returns-clause-count
returns-clause-count c =
    let same = ap (λ (set : List LabelRange). length set) c.in_ok-set.ensures.ranges in
    omega (arith, c.len.ensures, c.in_ok-set.set.ok, same)

pub returns-clause-few : goal.returns-clause-few
returns-clause-few c =
    let few = c.invariant.ensures.plan.topology.few_nodes in
    omega (arith, c.len.ensures, c.in_ok-set.set.ok, c.in_ok-set.ensures.few, few)

pub returns-clause-text : goal.returns-clause-text
returns-clause-text c =
    let s = c.args.plan.now in
    let u = c.args.u in
    let old = string_bytes c.args.text.now in
    let name = name_at (names c.args.graph.now) u in
    let words : List LabelRange → List (List ℕ) = flat_map (range_words (names c.args.graph.now) s.topology u) in
    let line : List ℕ → ℕ → List LabelRange → List ℕ = λ n l set. old ++ (((n ++ spaced (decimal l)) ++ flat_map spaced (words set)) ++ 10 ∷ []) in
    let all : string_bytes c.push_str-2.new.self ≡ line c.name_of.result.now c.label_of.result c.as_slice.result.now =
    rw (c.in_ok-push_str-2.ensures.bytes, c.in_ok-push_ranges.ensures, c.in_ok-push_next_number.ensures, c.in_ok-push_str.ensures.bytes) (simp append_assoc) in
    all
    ∙ ap (λ (n : List ℕ). line n c.label_of.result c.as_slice.result.now) c.name_of.ensures
    ∙ ap (λ (l : ℕ). line name l c.as_slice.result.now) c.label_of.ensures
    ∙ ap (λ (set : List LabelRange). line name (label_in s u) set) (c.as_slice.ensures.value ∙ c.in_ok-set.ensures.ranges)
    ∙ ap (λ (t : List ℕ). old ++ t) (node_line name (decimal (label_in s u)) _)

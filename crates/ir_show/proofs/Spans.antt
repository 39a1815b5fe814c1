-- The lines of some nodes of a plan, one after another.
use Rattle.std.proofs.Common.{◌≡◌, ◌∙◌, ◌+◌, ◌-◌, ◌*◌, ◌<◌, ◌≤◌, ◌++◌, ℕ, zero, suc, List, [], ◌∷◌, length, take, get_or, flat_map, sum_by, refl, sym, ap, subst, arith, append_assoc}
use Rattle.std.specs.Prelude.{slice_index, string_bytes}
use Rattle.std.specs.List.{range_with_len}
use Rattle.std.proofs.lemmas.List.{get_or-map, length-map}
use Rattle.std.proofs.lemmas.List.Sums.{sum_by_push}
use Rattle.ir_model.specs.declared.Kind.{Kind}
use Rattle.ir_model.specs.Graph.{Name}
use Rattle.ir_model.specs.Topology.{Topology, node_count, ports_of}
use Rattle.ir_model.specs.Compiled.{IsCanonical}
use Rattle.ir_model.specs.Row.{Start, labels, IsAscending}
use Rattle.ir_model.specs.Plan.{Plan, IsPlan, by_label, label_in, row_in}
use Rattle.ir_model.proofs.Rows.{no_start, rises}
use Rattle.ir_numbering.specs.Numbering.{Numbering}
use Rattle.ir_plan.specs.NodeRows.{IsNodeRow}
use Rattle.ir_plan.specs.Starts.{IsOfShortestWays}
use Rattle.ir_trace.specs.Rows.{spaced}
use Rattle.ir_show.specs.Plans.{IsPlanOver}
use Rattle.ir_show.specs.PlanText.{node_words}
use Rattle.ir_show.specs.SpanLines.{AreItsPorts, AreSpanLines, words_of_row, start_at}
use Rattle.ir_show.specs.SpanText.{span_lines, span_starts, text_of_span, span_words}
use Rattle.ir_show.specs.Words.{line_text}
use Rattle.ir_show.specs.declared.span.SpanLines.{SpanLines}
use Rattle.ir_show.proofs.PlanLines.{block_more, leads, range_more, start_within, starts_more}
use Rattle.ir_show.proofs.PlanRows.{plan_row}

-- labels rise by one at least
labels_rise : (row : List Start) → IsAscending row → (k : ℕ) → k < length row → k ≤ slice_index (labels row) k
labels_rise row up zero h = omega arith
labels_rise row up (suc k) h =
    let len : length (labels row) ≡ length row = length-map row (λ (s : Start). s.label) in
    let p = labels_rise row up k (omega arith) in
    let r = rises (labels row) up k (suc k) (omega arith) (omega arith) in
    omega arith

module _ (s : Plan) (is : IsPlan s) (u : ℕ) (u_in : u < node_count s.topology) where
  -- a row has at most as many starts as there are nodes
  pub row_few : length (row_in s u) ≤ node_count s.topology
  row_few = by (length (row_in s u)) refl
    where
      by : (k : ℕ) → length (row_in s u) ≡ k → length (row_in s u) ≤ node_count s.topology
      by zero e = omega (arith, e)
      by (suc k) e =
          let row = row_in s u in
          let canon : IsCanonical (node_count s.topology) (label_in s u) (by_label s u) row = is.rows u u_in in
          let lt : k < length row = omega (arith, e) in
          let within = (start_within s is u k u_in lt).0 in
          let rise = labels_rise row canon.ascending k lt in
          let label : slice_index (labels row) k ≡ (get_or row k no_start).label = get_or-map (λ (t : Start). t.label) row k no_start 0 lt in
          omega (arith, e, within, rise, label)

  -- its ports are those of its node
  pub its_ports : AreItsPorts s.topology u (row_in s u)
  its_ports = λ i lt. (leads s is u i u_in lt).port

-- the same of a row that was made alone
module _ (net : Topology) (kind : Kind) (other : IsOfShortestWays kind) (numbers : Numbering) (s : Plan) (is : IsPlanOver net kind numbers s) (u : ℕ) (u_in : u < node_count net) (row : List Start)
    (made : IsNodeRow kind net numbers.order numbers.parents (slice_index numbers.labels u) row) where
  in_plan : u < node_count s.topology
  in_plan = subst (λ (over : Topology). u < node_count over) (sym is.over) u_in

  same : row ≡ row_in s u
  same = plan_row net kind other numbers s is u u_in row made

  pub alone_few : length row ≤ node_count net
  alone_few =
      let few = row_few s is.valid u in_plan in
      omega (arith, few, ap length same, ap node_count is.over)

  pub alone_ports : AreItsPorts net u row
  alone_ports =
      subst (λ (over : Topology). AreItsPorts over u row) is.over
      (subst (AreItsPorts s.topology u) (sym same) (its_ports s is.valid u in_plan))

  -- its line is that of the plan
  pub alone_words : (nodes : List Name) (label : ℕ) → label ≡ slice_index numbers.labels u → words_of_row nodes net u label row ≡ node_words nodes s u
  alone_words nodes label e =
      ap (λ (over : Topology). words_of_row nodes over u label row) (sym is.over)
      ∙ ap (λ (l : ℕ). words_of_row nodes s.topology u l row) (e ∙ ap (λ (ls : List ℕ). slice_index ls u) (sym is.labels))
      ∙ ap (λ (r : List Start). words_of_row nodes s.topology u (label_in s u) r) same

  pub alone_starts : length row ≡ length (row_in s u)
  alone_starts = ap length same

-- the lines of the nodes from one on, before another
pub record AreSoFar (nodes : List Name) (s : Plan) (first u : ℕ) (told : List ℕ) (count : ℕ) : Type 0 where
  pub text : told ≡ flat_map (λ v. line_text (node_words nodes s v)) (range_with_len first (u - first))
  pub starts : count ≡ sum_by (λ v. length (row_in s v)) (range_with_len first (u - first))

pub none_so_far : (nodes : List Name) (s : Plan) (first : ℕ) (text : List ℕ) → text ≡ [] → AreSoFar nodes s first first text 0
none_so_far nodes s first text empty =
    let none : first - first ≡ 0 = omega arith in
    record {
      text = empty ∙ ap (λ (k : ℕ). flat_map (λ v. line_text (node_words nodes s v)) (range_with_len first k)) (sym none);
      starts = ap (λ (k : ℕ). sum_by (λ v. length (row_in s v)) (range_with_len first k)) (sym none);
    }

-- one node more
pub one_more : (nodes : List Name) (s : Plan) (first u : ℕ) (text : List ℕ) (starts : ℕ) → first ≤ u → AreSoFar nodes s first u text starts
    → (line more : List ℕ) (count : ℕ) → line ≡ line_text (node_words nodes s u) → more ≡ text ++ line → count ≡ length (row_in s u) → AreSoFar nodes s first (u + 1) more (starts + count)
one_more nodes s first u text starts le so line more count is on counts =
    let f : ℕ → ℕ = λ v. length (row_in s v) in
    let last : first + (u - first) ≡ u = omega (arith, le) in
    let next : (u - first) + 1 ≡ u + 1 - first = omega (arith, le) in
    let range : range_with_len first (u - first) ++ u ∷ [] ≡ range_with_len first (u + 1 - first) =
    ap (λ (k : ℕ). range_with_len first (u - first) ++ k ∷ []) (sym last) ∙ sym (range_more first (u - first)) ∙ ap (range_with_len first) next in
    record {
      text = on ∙ ap (λ (t : List ℕ). t ++ line) so.text ∙ ap (λ (t : List ℕ). flat_map (λ v. line_text (node_words nodes s v)) (range_with_len first (u - first)) ++ t) is
          ∙ block_more (λ v. line_text (node_words nodes s v)) first u le;
      starts = ap (λ (n : ℕ). n + count) so.starts ∙ ap (λ (n : ℕ). sum_by f (range_with_len first (u - first)) + n) counts
          ∙ sym (sum_by_push f (range_with_len first (u - first)) u) ∙ ap (sum_by f) range;
    }

-- all of them
pub all_lines : (nodes : List Name) (s : Plan) (first last u : ℕ) (lines : SpanLines) → u - first ≡ last + 1 - first → AreSoFar nodes s first u (string_bytes lines.text) lines.starts → AreSpanLines nodes s first last lines
all_lines nodes s first last u lines end so = record {
  text = so.text ∙ ap (λ (k : ℕ). flat_map (λ v. line_text (node_words nodes s v)) (range_with_len first k)) end;
  starts = so.starts ∙ ap (λ (k : ℕ). sum_by (λ v. length (row_in s v)) (range_with_len first k)) end;
}

-- with the first line they are the text
pub span_whole : (nodes : List Name) (s : Plan) (kind : Kind) (count first last : ℕ) (lines : SpanLines) → kind ≡ s.kind → count ≡ node_count s.topology → AreSpanLines nodes s first last lines
    → line_text (span_words kind count lines.starts first last) ++ string_bytes lines.text ≡ text_of_span nodes s first last
span_whole nodes s kind count first last lines same all are =
    ap (λ (k : Kind). line_text (span_words k count lines.starts first last) ++ string_bytes lines.text) same
    ∙ ap (λ (n : ℕ). line_text (span_words s.kind n lines.starts first last) ++ string_bytes lines.text) all
    ∙ ap (λ (n : ℕ). line_text (span_words s.kind (node_count s.topology) n first last) ++ string_bytes lines.text) are.starts
    ∙ ap (λ (t : List ℕ). line_text (span_words s.kind (node_count s.topology) (span_starts s first last) first last) ++ t) are.text

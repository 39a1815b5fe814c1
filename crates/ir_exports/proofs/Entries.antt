-- The text of lines, node by node.
use Rattle.std.proofs.Common.{◌≡◌, ℕ, suc, ◌+◌, ◌<◌, ◌≤◌, Bool, List, [], ◌∷◌, ◌++◌, length, take, get_or, refl, sym, ap, subst, ◌∙◌, arith, append_assoc, flat_map, sum_by, inl, inr}
use Rattle.std.specs.Prelude.{decimal, slice_index_or}
use Rattle.std.proofs.lemmas.Bool.{cases_lt}
use Rattle.std.proofs.lemmas.List.{append-nil, take_more, length-append, get_or_append_left}
use Rattle.std.proofs.lemmas.List.Sums.{sum_by_push, sum_by-cons}
use Rattle.std.proofs.lemmas.Grind.{flat_map-append}
use Rattle.std.proofs.Math.Seq.{get_or-append_seam}
use Rattle.ir_model.specs.Graph.{Name}
use Rattle.ir_model.specs.Topology.{Topology, node_count}
use Rattle.ir_model.specs.Plan.{Plan, label_in}
use Rattle.ir_prefix.specs.Longest.{IsWidth}
use Rattle.ir_prefix.specs.declared.line.TableLine.{TableLine}
use Rattle.ir_trace.specs.Rows.{spaced}
use Rattle.ir_trace.specs.Written.{name_at}
use Rattle.ir_trace.proofs.WrittenRows.{join_spaced}
use Rattle.ir_show.specs.Words.{line_text}
use Rattle.ir_exports.specs.Tables.{AreLinesOf}
use Rattle.ir_exports.specs.PrefixesText.{entry_words, goal_text, prefix_text, prefix_node_words, nodes_text}
use Rattle.ir_exports.specs.Before.{AreWritten}

-- one more line of a node
pub entries_more : (words : TableLine → List (List ℕ)) (table : List TableLine) (i : ℕ) (e : TableLine) → i < length table
    → (old : List ℕ) → (old ++ flat_map spaced (flat_map words (take i table))) ++ flat_map spaced (words (get_or table i e)) ≡ old ++ flat_map spaced (flat_map words (take (i + 1) table))
entries_more words table i e h old =
    append_assoc old (flat_map spaced (flat_map words (take i table))) (flat_map spaced (words (get_or table i e)))
    ∙ ap (λ t. old ++ t)
    (sym (flat_map-append spaced (flat_map words (take i table)) (words (get_or table i e)))
    ∙ ap (flat_map spaced)
    (ap (λ t. flat_map words (take i table) ++ t) (sym (append-nil (words (get_or table i e))))
    ∙ sym (flat_map-append words (take i table) (get_or table i e ∷ []))
    ∙ ap (flat_map words) (sym (take_more table i e h))))

-- one more node
pub nodes_more : (nodes : List Name) (s : Plan) (u : ℕ) (tables : List (List TableLine)) (table : List TableLine)
    → nodes_text nodes s u (tables ++ table ∷ []) ≡ nodes_text nodes s u tables ++ line_text (prefix_node_words nodes s (u + length tables) table)
nodes_more nodes s u [] table =
    let here : u ≡ u + 0 = omega arith in
    append-nil (line_text (prefix_node_words nodes s u table)) ∙ ap (λ (v : ℕ). line_text (prefix_node_words nodes s v table)) here
nodes_more nodes s u (t ∷ tables) table =
    let sum : (u + 1) + length tables ≡ u + suc (length tables) = omega arith in
    let first = line_text (prefix_node_words nodes s u t) in
    let last : ℕ → List ℕ = λ v. line_text (prefix_node_words nodes s v table) in
    ap (λ (r : List ℕ). first ++ r) (nodes_more nodes s (u + 1) tables table ∙ ap (λ (v : ℕ). nodes_text nodes s (u + 1) tables ++ last v) sum)
    ∙ sym (append_assoc first (nodes_text nodes s (u + 1) tables) (last (u + suc (length tables))))

-- each line has a byte of text
entries_long : (nodes : List Name) (net : Topology) (u : ℕ) (table : List TableLine) → length table ≤ length (flat_map spaced (flat_map (entry_words nodes net u) table))
entries_long nodes net u [] = omega arith
entries_long nodes net u (m ∷ table) =
    let a = spaced (prefix_text m.value m.length) in
    let b = spaced (goal_text nodes net u m.port) in
    let rest = flat_map spaced (flat_map (entry_words nodes net u) table) in
    let below : length table ≤ length rest = entries_long nodes net u table in
    let all : length (a ++ (b ++ rest)) ≡ length a + (length b + length rest) = length-append a (b ++ rest) ∙ ap (λ (k : ℕ). length a + k) (length-append b rest) in
    omega (arith, below, all)

pub node_long : (nodes : List Name) (s : Plan) (u : ℕ) (table : List TableLine) → length table ≤ length (line_text (prefix_node_words nodes s u table))
node_long nodes s u table =
    let name = name_at nodes u in
    let label = decimal (label_in s u) in
    let entries = flat_map (entry_words nodes s.topology u) table in
    let line = name ++ flat_map spaced (label ∷ entries) in
    let whole : length (line_text (prefix_node_words nodes s u table)) ≡ length (line ++ 10 ∷ []) = ap (λ (t : List ℕ). length (t ++ 10 ∷ [])) (join_spaced name (label ∷ entries)) in
    let parts = length-append line (10 ∷ []) in
    let front = length-append name (flat_map spaced (label ∷ entries)) in
    let second : length (flat_map spaced (label ∷ entries)) ≡ length (spaced label) + length (flat_map spaced entries) = length-append (spaced label) (flat_map spaced entries) in
    let long = entries_long nodes s.topology u table in
    omega (arith, whole, parts, front, second, long)

nodes_long : (nodes : List Name) (s : Plan) (u : ℕ) (tables : List (List TableLine)) → sum_by length tables ≤ length (nodes_text nodes s u tables)
nodes_long nodes s u [] = omega arith
nodes_long nodes s u (table ∷ tables) =
    let first = line_text (prefix_node_words nodes s u table) in
    let rest = nodes_text nodes s (u + 1) tables in
    let sum : sum_by length (table ∷ tables) ≡ length table + sum_by length tables = sum_by-cons (λ (t : List TableLine). length t) table tables in
    let here = node_long nodes s u table in
    let below = nodes_long nodes s (u + 1) tables in
    let both : length (first ++ rest) ≡ length first + length rest = length-append first rest in
    omega (arith, sum, here, below, both)

-- ---- the loop over the nodes

pub written_start : (is_disjoint : Bool) (nodes : List Name) (s : Plan) (before : List ℕ) → AreWritten is_disjoint nodes s 0 0 before before
written_start is_disjoint nodes s before = record {
  tables = [];
  every = refl;
  each = λ u u_in. absurd (omega (arith, u_in));
  sum = refl;
  whole = sym (append-nil before);
}

-- the lines so far are no more than the bytes
pub written_long : (is_disjoint : Bool) (nodes : List Name) (s : Plan) (count lines : ℕ) (before after : List ℕ) → AreWritten is_disjoint nodes s count lines before after → lines ≤ length after
written_long is_disjoint nodes s count lines before after w =
    let long = nodes_long nodes s 0 w.tables in
    let both : length after ≡ length before + length (nodes_text nodes s 0 w.tables) = ap length w.whole ∙ length-append before (nodes_text nodes s 0 w.tables) in
    let sum = w.sum in
    omega (arith, long, both, sum)

pub written_more : (is_disjoint : Bool) (nodes : List Name) (s : Plan) (u lines : ℕ) (table : List TableLine) (before middle after : List ℕ) → AreWritten is_disjoint nodes s u lines before middle
    → ((bits : ℕ) → IsWidth (node_count s.topology) bits → AreLinesOf is_disjoint s bits u table) → after ≡ middle ++ line_text (prefix_node_words nodes s u table)
    → AreWritten is_disjoint nodes s (u + 1) (lines + length table) before after
written_more is_disjoint nodes s u lines table before middle after w are more =
    let every : length w.tables ≡ u = w.every in
    let from_first : 0 + length w.tables ≡ u = omega (arith, every) in
    let all = w.tables ++ table ∷ [] in
    let L : ℕ → ℕ → List TableLine → Type 0 = λ bits v t. AreLinesOf is_disjoint s bits v t in
    let text : nodes_text nodes s 0 all ≡ nodes_text nodes s 0 w.tables ++ line_text (prefix_node_words nodes s u table) =
    nodes_more nodes s 0 w.tables table ∙ ap (λ (v : ℕ). nodes_text nodes s 0 w.tables ++ line_text (prefix_node_words nodes s v table)) from_first in
    record {
      tables = all;
      every = length-append w.tables (table ∷ []) ∙ ap (λ (k : ℕ). k + 1) every;
      each = λ v v_in bits width.
          elim (cases_lt v u) [
            | inl lt ↦ subst (L bits v) (sym (get_or_append_left w.tables (table ∷ []) [] v (omega (arith, every, lt)))) (w.each v lt bits width)
            | inr le ↦
                let here : v ≡ u = omega (arith, v_in, le) in
                let seam : slice_index_or all u [] ≡ table = ap (λ (k : ℕ). slice_index_or all k []) (sym every) ∙ get_or-append_seam w.tables table [] [] in
                subst (λ (k : ℕ). L bits k (slice_index_or all k [])) (sym here) (subst (L bits u) (sym seam) (are bits width))
          ];
      sum = sum_by_push (λ (t : List TableLine). length t) w.tables table ∙ ap (λ (k : ℕ). k + length table) w.sum;
      whole = more ∙ ap (λ (t : List ℕ). t ++ line_text (prefix_node_words nodes s u table)) w.whole
          ∙ append_assoc before (nodes_text nodes s 0 w.tables) (line_text (prefix_node_words nodes s u table)) ∙ ap (λ (t : List ℕ). before ++ t) (sym text);
    }

-- Texts of single nodes, made for the numbers of a range, are the lines of all nodes.
use Rattle.std.proofs.Common.{◌≡◌, ℕ, zero, suc, Ok, ◌+◌, ◌<◌, ◌≤◌, Bool, List, [], ◌∷◌, ◌++◌, length, map, refl, sym, ap, subst, ◌∙◌, arith, flat_map, sum_by}
use Rattle.std.specs.Prelude.{slice_index_or, string_bytes, All, IfOk}
use Rattle.std.specs.List.{AllZip, range_with_len}
use Rattle.std.specs.declared.result.Result.{Result}
use Rattle.std.specs.declared.alloc.AllocError.{AllocError}
use Rattle.std.proofs.lemmas.List.Elements.{All-cons, All-nil}
use Rattle.std.proofs.lemmas.List.Sums.{sum_by-cons}
use Rattle.ir_model.specs.Graph.{Name}
use Rattle.ir_model.specs.Topology.{node_count}
use Rattle.ir_model.specs.Plan.{Plan}
use Rattle.ir_prefix.specs.Longest.{IsWidth}
use Rattle.ir_prefix.specs.declared.line.TableLine.{TableLine}
use Rattle.ir_show.specs.Words.{line_text}
use Rattle.ir_plan.specs.declared.crew.NodeText.{NodeText}
use Rattle.ir_exports.specs.Before.{AreWritten}
use Rattle.ir_exports.specs.NodeTexts.{AreNodeTexts, IsNodeText, bytes_of, lines_of}
use Rattle.ir_exports.specs.PrefixesText.{prefix_node_words, nodes_text}
use Rattle.ir_exports.specs.Tables.{AreLinesOf}
use Rattle.ir_exports.proofs.Entries.{node_long}

-- tables by which the texts are those of the nodes from u on
record Told (is_disjoint : Bool) (nodes : List Name) (s : Plan) (u : ℕ) (made : List NodeText) : Type 0 where
  tables : List (List TableLine)
  every : length tables ≡ length made
  each : (i : ℕ) → i < length made → (bits : ℕ) → IsWidth (node_count s.topology) bits → AreLinesOf is_disjoint s bits (u + i) (slice_index_or tables i [])
  sum : sum_by length tables ≡ sum_by lines_of made
  whole : flat_map bytes_of made ≡ nodes_text nodes s u tables

module _ (is_disjoint : Bool) (nodes : List Name) (s : Plan) where
  -- where nothing was refused, the texts are those that were made
  pub texts_made : (u k : ℕ) (made : List NodeText) → AllZip (λ (v : ℕ) (one : Result NodeText AllocError). IfOk one (IsNodeText is_disjoint nodes s v)) (range_with_len u k) (map Ok made)
      → AllZip (IsNodeText is_disjoint nodes s) (range_with_len u k) made
  texts_made u zero [] zipped = zipped
  texts_made u zero (one ∷ made) zipped = zipped
  texts_made u (suc k) [] zipped = zipped
  texts_made u (suc k) (one ∷ made) zipped = (zipped.0, texts_made (u + 1) k made zipped.1)

  told : (u k : ℕ) (made : List NodeText) → AllZip (IsNodeText is_disjoint nodes s) (range_with_len u k) made
      → (length made ≡ k) × Told is_disjoint nodes s u made
  told u zero [] zipped = (refl, record { tables = []; every = refl; each = λ i lt. absurd (omega (arith, lt)); sum = refl; whole = refl })
  told u zero (one ∷ made) zipped = absurd zipped
  told u (suc k) [] zipped = absurd zipped
  told u (suc k) (one ∷ made) zipped =
      let first = zipped.0 in
      let later = told (u + 1) k made zipped.1 in
      let rest = later.1 in (
        ap suc later.0,
        record {
          tables = first.table ∷ rest.tables;
          every = ap suc rest.every;
          each = at first.table first.are rest.tables rest.each;
          sum = sum_by-cons (λ (t : List TableLine). length t) first.table rest.tables ∙ ap (λ (n : ℕ). n + sum_by length rest.tables) first.count
              ∙ ap (λ (n : ℕ). one.lines + n) rest.sum ∙ sym (sum_by-cons lines_of one made);
          whole = ap (λ (t : List ℕ). t ++ flat_map bytes_of made) first.whole ∙ ap (λ (t : List ℕ). line_text (prefix_node_words nodes s u first.table) ++ t) rest.whole;
        },
      )
    where
      at : (table : List TableLine) → ((bits : ℕ) → IsWidth (node_count s.topology) bits → AreLinesOf is_disjoint s bits u table) → (tables : List (List TableLine))
          → ((i : ℕ) → i < length made → (bits : ℕ) → IsWidth (node_count s.topology) bits → AreLinesOf is_disjoint s bits (u + 1 + i) (slice_index_or tables i []))
          → (i : ℕ) → i < suc (length made) → (bits : ℕ) → IsWidth (node_count s.topology) bits → AreLinesOf is_disjoint s bits (u + i) (slice_index_or (table ∷ tables) i [])
      at table are tables later zero lt bits width = let e : u ≡ u + 0 = omega arith in subst (λ (v : ℕ). AreLinesOf is_disjoint s bits v table) e (are bits width)
      at table are tables later (suc i) lt bits width =
          let e : u + 1 + i ≡ u + suc i = omega arith in
          subst (λ (v : ℕ). AreLinesOf is_disjoint s bits v (slice_index_or tables i [])) e (later i (omega (arith, lt)) bits width)

  -- no text has more lines than bytes
  pub texts_short : (u k : ℕ) (made : List NodeText) → AllZip (IsNodeText is_disjoint nodes s) (range_with_len u k) made
      → All (λ (node : NodeText). node.lines ≤ length (string_bytes node.text)) made
  texts_short u zero [] zipped = All-nil (λ (node : NodeText). node.lines ≤ length (string_bytes node.text))
  texts_short u zero (one ∷ made) zipped = absurd zipped
  texts_short u (suc k) [] zipped = absurd zipped
  texts_short u (suc k) (one ∷ made) zipped =
      let first = zipped.0 in
      let long : one.lines ≤ length (string_bytes one.text) = omega (arith, node_long nodes s u first.table, first.count, ap length first.whole) in
      All-cons (λ (node : NodeText). node.lines ≤ length (string_bytes node.text)) one made long (texts_short (u + 1) k made zipped.1)

  -- after a text come the lines of all nodes
  pub texts_written : (k lines : ℕ) (made : List NodeText) (before after : List ℕ)
      → AreNodeTexts is_disjoint nodes s k made
      → lines ≡ sum_by lines_of made → after ≡ before ++ flat_map bytes_of made → AreWritten is_disjoint nodes s k lines before after
  texts_written k lines made before after zipped sum bytes =
      let all = told 0 k made zipped in
      let each = all.1 in
      let same = all.0 in
      record {
        tables = each.tables;
        every = each.every ∙ same;
        each = λ u u_in bits width.
            let e : 0 + u ≡ u = omega arith in
            subst (λ (v : ℕ). AreLinesOf is_disjoint s bits v (slice_index_or each.tables u [])) e (each.each u (omega (arith, u_in, same)) bits width);
        sum = each.sum ∙ sym sum;
        whole = bytes ∙ ap (λ (t : List ℕ). before ++ t) each.whole;
      }

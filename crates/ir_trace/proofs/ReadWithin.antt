-- The nodes of what is read are those of the network, whatever list of names and neighbours the graph is.
use Rattle.std.proofs.Common.{◌≡◌, ◌<◌, ◌≤◌, ◌&&◌, ℕ, zero, suc, true, not, List, [], ◌∷◌, length, map, Some, Result, Ok, Err, IfOk, nat_lt, nat_le, bytes_eq, refl, sym, ap, subst, ◌∙◌, arith}
use Rattle.std.specs.List.{list_all}
use Rattle.std.proofs.lemmas.Bool.{and_parts, and_from, eqb-true, leb-true, lt-ltb}
use Rattle.std.proofs.lemmas.List.{length-map}
use Rattle.std.proofs.lemmas.List.Quantifiers.{position-Some}
use Rattle.ir_model.specs.Graph.{Name, Adjacency, names}
use Rattle.ir_model.specs.Topology.{node_count}
use Rattle.ir_model.specs.OfGraph.{topology_of_graph}
use Rattle.ir_trace.specs.declared.TheConstants.{MAX_SEGMENTS}
use Rattle.ir_trace.specs.declared.row.Version.{Version}
use Rattle.ir_trace.specs.declared.row.Version.TheVariants.{One, Two}
use Rattle.ir_trace.specs.Row.{Segment, TraceRow}
use Rattle.ir_trace.specs.Rows.{PartText, RowText, IsRowText, is_part_text, is_mark, fits_version}
use Rattle.ir_trace.specs.Reading.{node_named, PartsAreReadAs, IsReadAs, AreReadAs, IsTrace}
use Rattle.ir_trace.specs.Checked.{is_part_over, IsRowOver, AreRowsOver}
use Rattle.ir_trace.proofs.ReadSpellings.{part_is}

module _ (g : Adjacency) where
  -- the network of a graph has its nodes
  pub count : node_count (topology_of_graph g) ≡ length g
  count = simp length-map

  named_within : (w : Name) (u : ℕ) → node_named (names g) w ≡ Some u → u < node_count (topology_of_graph g)
  named_within w u e =
      let len : length (names g) ≡ length g = simp length-map in
      omega (arith, (position-Some (bytes_eq w) (names g) u [] e).0, len, count)

  hops_within : (words : List Name) (hops : List ℕ) → map (node_named (names g)) words ≡ map (λ u. Some u) hops → list_all (λ u. nat_lt u (node_count (topology_of_graph g))) hops ≡ true
  hops_within words [] e = refl
  hops_within [] (u ∷ hops) e = absurd (cc e)
  hops_within (w ∷ words) (u ∷ hops) e =
      and_from (nat_lt u (node_count (topology_of_graph g))) (list_all (λ u. nat_lt u (node_count (topology_of_graph g))) hops) (lt-ltb u (node_count (topology_of_graph g)) (named_within w u (cc e))) (hops_within words hops (cc e))

  same_length : (words : List Name) (hops : List ℕ) → map (node_named (names g)) words ≡ map (λ u. Some u) hops → length words ≡ length hops
  same_length words hops e = sym (length-map words (node_named (names g))) ∙ ap length e ∙ length-map hops (λ (u : ℕ). Some u)

  parts_within : (texts : List PartText) (parts : List Segment) → PartsAreReadAs g texts parts → list_all is_part_text texts ≡ true → list_all (is_part_over (node_count (topology_of_graph g))) parts ≡ true
  parts_within [] [] are h = refl
  parts_within [] (p ∷ parts) are h = absurd are
  parts_within (t ∷ texts) [] are h = absurd are
  parts_within (t ∷ texts) (p ∷ parts) are h =
      let both = and_parts (is_part_text t) (list_all is_part_text texts) h in
      let n = node_count (topology_of_graph g) in
      let some : 0 < length p.hops = omega (arith, (part_is t both.0).some, same_length t.hops p.hops are.1) in
      and_from (is_part_over n p) (list_all (is_part_over n) parts) (and_from (nat_lt 0 (length p.hops)) (list_all (λ u. nat_lt u n) p.hops) (lt-ltb 0 (length p.hops) some) (hops_within t.hops p.hops are.1)) (parts_within texts parts are.2 both.1)

  as_many : (texts : List PartText) (parts : List Segment) → PartsAreReadAs g texts parts → length texts ≡ length parts
  as_many [] [] are = refl
  as_many [] (p ∷ parts) are = absurd are
  as_many (t ∷ texts) [] are = absurd are
  as_many (t ∷ texts) (p ∷ parts) are = omega (arith, as_many texts parts are.2)

  few : (v : Version) (parts : List PartText) → fits_version v parts ≡ true → (0 < length parts) × (length parts ≤ MAX_SEGMENTS)
  few One parts h = let one = eqb-true (length parts) 1 h in (omega (arith, one), omega (arith, one))
  few Two parts h =
      let both = and_parts (nat_le 1 (length parts)) (nat_le (length parts) MAX_SEGMENTS && list_all (λ part. list_all (λ w. not (is_mark w)) part.hops) parts) h in
      (leb-true 1 (length parts) both.0, leb-true (length parts) MAX_SEGMENTS (and_parts (nat_le (length parts) MAX_SEGMENTS) (list_all (λ part. list_all (λ w. not (is_mark w)) part.hops) parts) both.1).0)

  row_within : (v : Version) (text : RowText) (row : TraceRow) → IsRowText v text → IsReadAs g text row → IsRowOver (node_count (topology_of_graph g)) row
  row_within v text row is read =
      let some = few v text.parts is.version in
      let same = as_many text.parts row.parts read.parts in
      record {
        source = named_within text.source row.source read.source;
        dest = named_within text.dest row.dest read.dest;
        some = omega (arith, some.0, same);
        few = omega (arith, some.1, same);
        parts = parts_within text.parts row.parts read.parts is.parts;
      }

  rows_within : (v : Version) (texts : List RowText) (rows : List TraceRow) → AreReadAs v g texts rows → AreRowsOver (node_count (topology_of_graph g)) rows
  rows_within v [] [] are i row at = absurd (cc at)
  rows_within v [] (r ∷ rows) are i row at = absurd are
  rows_within v (t ∷ texts) [] are i row at = absurd are
  rows_within v (t ∷ texts) (r ∷ rows) are zero row at = let same : r ≡ row = cc at in subst (IsRowOver (node_count (topology_of_graph g))) same (row_within v t r are.0 are.1)
  rows_within v (t ∷ texts) (r ∷ rows) are (suc i) row at = rows_within v texts rows are.2 i row at

  pub rows_over : (text : List ℕ) (rows : List TraceRow) → IsTrace g text rows → AreRowsOver (node_count (topology_of_graph g)) rows
  rows_over text rows is = rows_within is.0 is.1.0 rows is.1.2

  pub read_within : {E : Type 0} (text : List ℕ) (r : Result (List TraceRow) E) → IfOk r (λ rows. IsTrace g text rows) → IfOk r (λ rows. AreRowsOver (node_count (topology_of_graph g)) rows)
  read_within text (Ok rows) read = rows_over text rows read
  read_within text (Err e) read = tt

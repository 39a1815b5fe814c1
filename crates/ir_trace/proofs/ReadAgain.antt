-- What is written is read again.
use Rattle.std.proofs.Common.{◌≡◌, ◌<◌, ◌≤◌, ◌*◌, ℕ, suc, true, cond, List, [], ◌∷◌, ◌++◌, length, map, Some, slice_get, Result, Ok, Err, IfOk, IfErr, MatchResult, refl, sym, ap, subst, ◌∙◌, arith, ◌⊎◌, inl, inr}
use Rattle.std.specs.List.{list_all}
use Rattle.std.proofs.lemmas.Bool.{and_from, eq-eqb, ne_eqb}
use Rattle.std.proofs.lemmas.List.{length-map, append-nil}
use Rattle.std.proofs.lemmas.List.Folds.{list_all-append}
use Rattle.std.proofs.lemmas.Option.{get_or_from_slice_get, slice_get-get_or}
use Rattle.ir_model.specs.declared.Link.{Link}
use Rattle.ir_model.specs.Graph.{Adjacency, names, IsGraph}
use Rattle.ir_model.specs.Topology.{node_count}
use Rattle.ir_model.specs.OfGraph.{topology_of_graph}
use Rattle.ir_model.specs.Walk.{LeadsTo, IsWalk, weight_from, walk_weight}
use Rattle.ir_model.proofs.Walks.{leads_from_node, step_weight}
use Rattle.ir_core.specs.Record.{Record}
use Rattle.ir_core.specs.declared.packet.Fate.{Fate}
use Rattle.ir_core.specs.declared.packet.Fate.TheVariants as fate
use Rattle.ir_tables.proofs.OfGraph.{graph_topology}
use Rattle.ir_trace.specs.declared.finding.Finding.{Finding}
use Rattle.ir_trace.specs.declared.finding.FindingKind.TheVariants.{NoMemory}
use Rattle.ir_trace.specs.declared.TheConstants.{MAX_NUMBER}
use Rattle.ir_trace.specs.declared.row.Version.TheVariants.{One}
use Rattle.ir_trace.specs.Rows.{IsRowText, fate_names, is_word, is_part_text}
use Rattle.ir_trace.specs.Row.{TraceRow}
use Rattle.ir_trace.specs.Reading.{node_named, AreLinkedAs, FateIsReadAs, IsReadAs, AreReadAs, IsTrace, TellsFinding}
use Rattle.ir_trace.specs.Written.{name_at, link_at, other_end, fate_text, row_of, FateIsIn, IsWritable, AreWritable}
use Rattle.ir_trace.specs.Again.{fate_again, row_again, AreHeldByRows, IsTraceOf}
use Rattle.ir_trace.proofs.ReadSpellings.{is_part}
use Rattle.ir_trace.proofs.ReadLinks.{count, named, word_at, link_names}
use Rattle.ir_trace.proofs.UniqueRows.{trace_same, trace_told}

module _ (g : Adjacency) (graph : IsGraph g) where
  pub node_within : (u : ℕ) → u < node_count (topology_of_graph g) → u < length g
  node_within u h = omega (arith, h, count g graph)

  leads_within : (u d : ℕ) (rest : List ℕ) → LeadsTo (topology_of_graph g) u d rest → u < length g
  leads_within u d rest way = node_within u (leads_from_node (topology_of_graph g) (graph_topology g graph) u d rest way)

  -- ---- hops

  hops_named : (u d : ℕ) (rest : List ℕ) → LeadsTo (topology_of_graph g) u d rest → map (node_named (names g)) (map (name_at (names g)) (u ∷ rest)) ≡ map (λ v. Some v) (u ∷ rest)
  hops_named u d [] way = ap (λ o. o ∷ []) (named g graph u (leads_within u d [] way))
  hops_named u d (v ∷ rest) way = let here = named g graph u (leads_within u d (v ∷ rest) way) in let later = hops_named v d rest way.1 in cc (here, later)

  hops_words : (u d : ℕ) (rest : List ℕ) → LeadsTo (topology_of_graph g) u d rest → list_all is_word (map (name_at (names g)) (u ∷ rest)) ≡ true
  hops_words u d [] way = and_from (is_word (name_at (names g) u)) true (word_at g graph u (leads_within u d [] way)) refl
  hops_words u d (v ∷ rest) way = and_from (is_word (name_at (names g) u)) (list_all is_word (map (name_at (names g)) (v ∷ rest))) (word_at g graph u (leads_within u d (v ∷ rest) way)) (hops_words v d rest way.1)

  hops_weight : (u d : ℕ) (rest : List ℕ) → LeadsTo (topology_of_graph g) u d rest → weight_from (topology_of_graph g) u rest ≤ 65535 * length rest
  hops_weight u d [] way = omega arith
  hops_weight u d (v ∷ rest) way = omega (arith, (step_weight (topology_of_graph g) (graph_topology g graph) u v way.0).1, hops_weight v d rest way.1)

  pub record HopsFacts (hops : List ℕ) : Type 0 where
    pub some : 0 < length hops
    pub are_named : map (node_named (names g)) (map (name_at (names g)) hops) ≡ map (λ v. Some v) hops
    pub are_words : list_all is_word (map (name_at (names g)) hops) ≡ true
    pub light : walk_weight (topology_of_graph g) hops ≤ 65535 * length hops

  pub hops_facts : (first last : ℕ) (hops : List ℕ) → IsWalk (topology_of_graph g) first last hops → HopsFacts hops
  hops_facts first last [] walk = absurd walk
  hops_facts first last (x ∷ rest) walk =
      let way : LeadsTo (topology_of_graph g) x last rest = subst (λ u. LeadsTo (topology_of_graph g) u last rest) (sym walk.0) walk.1 in
      record { some = omega arith; are_named = hops_named x last rest way; are_words = hops_words x last rest way; light = omega (arith, hops_weight x last rest way) }

  -- ---- fates

  pub record FateFacts (f : Fate) : Type 0 where
    pub reads : FateIsReadAs g (fate_text (names g) (topology_of_graph g) f) (fate_again (topology_of_graph g) f)
    pub are_words : list_all is_word (fate_names (fate_text (names g) (topology_of_graph g) f)) ≡ true

  two_words : (u v : ℕ) → u < length g → v < length g → list_all is_word (name_at (names g) u ∷ name_at (names g) v ∷ []) ≡ true
  two_words u v hu hv = and_from (is_word (name_at (names g) u)) _ (word_at g graph u hu) (and_from (is_word (name_at (names g) v)) true (word_at g graph v hv) refl)

  -- the channel from one node to another that it is linked with
  abbrev HasChannel : ℕ → ℕ → Type 0
  HasChannel u v = AreLinkedAs g (name_at (names g) u) (name_at (names g) v) u v × (u < length g) × (v < length g)

  channel_of : (l to : ℕ) (link : Link) → slice_get (topology_of_graph g).links l ≡ Some link → (to ≡ link.low) ⊎ (to ≡ link.high) → HasChannel (other_end link to) to
  channel_of l to link at (inl low) =
      let facts = link_names g graph l link at in
      let other : other_end link to ≡ link.high = ap (λ b. cond b link.high link.low) (eq-eqb link.low to (sym low)) in
      subst (λ u. HasChannel u to) (sym other) (subst (λ v. HasChannel link.high v) (sym low) (facts.back, facts.within, omega (arith, facts.ordered, facts.within)))
  channel_of l to link at (inr high) =
      let facts = link_names g graph l link at in
      let other : other_end link to ≡ link.low = ap (λ b. cond b link.high link.low) (ne_eqb link.low to (λ e. omega (arith, e, high, facts.ordered))) in
      subst (λ u. HasChannel u to) (sym other) (subst (λ v. HasChannel link.low v) (sym high) (facts.forth, omega (arith, facts.ordered, facts.within), facts.within))

  pub fate_facts : (f : Fate) → FateIsIn (topology_of_graph g) f → FateFacts f
  fate_facts fate.Delivered h = record { reads = refl; are_words = refl }
  fate_facts fate.Retired h = record { reads = refl; are_words = refl }
  fate_facts (fate.Down l) h =
      let link = link_at (topology_of_graph g) l in
      let at : slice_get (topology_of_graph g).links l ≡ Some link = slice_get-get_or (topology_of_graph g).links l _ h in
      let facts = link_names g graph l link at in
      record { reads = (link.low, link.high, facts.forth, facts.ordered, refl); are_words = two_words link.low link.high (omega (arith, facts.ordered, facts.within)) facts.within }
  fate_facts (fate.Full l to) h =
      let from = other_end (link_at (topology_of_graph g) l) to in
      let same : link_at (topology_of_graph g) l ≡ h.0 = get_or_from_slice_get (topology_of_graph g).links l h.0 _ h.1 in
      let channel : HasChannel from to = subst (λ link. HasChannel (other_end link to) to) (sym same) (channel_of l to h.0 h.1 h.2) in
      record { reads = (from, to, channel.0, refl); are_words = two_words from to channel.1 channel.2 }
  fate_facts fate.Left h = record { reads = refl; are_words = refl }

  -- ---- rows

  text_is : (r : Record) → IsWritable (topology_of_graph g) r → r.id ≤ MAX_NUMBER → r.epoch ≤ MAX_NUMBER → IsRowText One (row_of (names g) (topology_of_graph g) r)
  text_is r is id epoch =
      let hops = hops_facts is.first is.last r.hops is.hops in
      let fate = fate_facts r.fate is.fate in
      let tail = fate_names (fate_text (names g) (topology_of_graph g) r.fate) in
      let hop_names = map (name_at (names g)) r.hops in
      let end : hop_names ++ [] ≡ hop_names = append-nil hop_names in
      record {
        id = id;
        weight = omega (arith, hops.light, is.few);
        parts = and_from (is_part_text (record { epoch = r.epoch; hops = hop_names })) true (is_part (record { epoch = r.epoch; hops = hop_names }) epoch (omega (arith, hops.some, length-map r.hops (name_at (names g))))) refl;
        version = refl;
        words = and_from (is_word (name_at (names g) r.source)) _ (word_at g graph r.source (node_within r.source is.source))
            (and_from (is_word (name_at (names g) r.dest)) (list_all is_word (tail ++ (hop_names ++ []))) (word_at g graph r.dest (node_within r.dest is.dest))
            (ap (λ t. list_all is_word (tail ++ t)) end ∙ list_all-append is_word tail hop_names ∙ and_from (list_all is_word tail) (list_all is_word hop_names) fate.are_words hops.are_words));
      }

  row_read : (r : Record) → IsWritable (topology_of_graph g) r → IsReadAs g (row_of (names g) (topology_of_graph g) r) (row_again (topology_of_graph g) r)
  row_read r is = record {
    id = refl;
    weight = refl;
    source = named g graph r.source (node_within r.source is.source);
    dest = named g graph r.dest (node_within r.dest is.dest);
    fate = (fate_facts r.fate is.fate).reads;
    parts = (refl, (hops_facts is.first is.last r.hops is.hops).are_named, tt);
  }

  rows_read : (records : List Record) → AreWritable (topology_of_graph g) records → AreHeldByRows records → AreReadAs One g (map (row_of (names g) (topology_of_graph g)) records) (map (row_again (topology_of_graph g)) records)
  rows_read [] are numbered = tt
  rows_read (r ∷ records) are numbered =
      let is : IsWritable (topology_of_graph g) r = are 0 r refl in
      let small = numbered 0 r refl in
      (text_is r is small.0 small.1, row_read r is, rows_read records (λ i q at. are (suc i) q at) (λ i q at. numbered (suc i) q at))

  -- the text of records is a trace
  pub written_trace : (text : List ℕ) (records : List Record) → IsTraceOf g text records → IsTrace g text (map (row_again (topology_of_graph g)) records)
  written_trace text records is = (One, (map (row_of (names g) (topology_of_graph g)) records, is.whole, rows_read records is.writable is.numbered))

  pub read_again : (text : List ℕ) (r : Result (List TraceRow) Finding) → IfOk r (λ rows. IsTrace g text rows) → IfErr r (λ e. TellsFinding g text e.line e.kind) → (records : List Record) → IsTraceOf g text records
      → MatchResult r (λ rows. rows ≡ map (row_again (topology_of_graph g)) records) (λ e. e.kind ≡ NoMemory)
  read_again text (Ok rows) read told records is = trace_same g text rows (map (row_again (topology_of_graph g)) records) read (written_trace text records is)
  read_again text (Err e) read told records is = trace_told g text (map (row_again (topology_of_graph g)) records) (written_trace text records is) e.line e.kind told

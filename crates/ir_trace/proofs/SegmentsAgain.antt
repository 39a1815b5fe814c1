-- What is written in the second version is read again.
use Rattle.std.proofs.Common.{◌≡◌, ◌<◌, ◌≤◌, ◌+◌, ◌-◌, ◌&&◌, ℕ, suc, true, not, List, [], ◌∷◌, ◌++◌, length, take, drop, map, sum_by, nat_le, nat_lt, Some, Result, Ok, Err, IfOk, IfErr, MatchResult, refl, sym, ap, subst, ◌∙◌, arith}
use Rattle.std.specs.List.{list_all}
use Rattle.std.proofs.lemmas.Bool.{and_parts, and_from, le-leb, lt-ltb, ltb-true}
use Rattle.std.proofs.lemmas.List.{length-map, length-drop, length-take-le}
use Rattle.std.proofs.lemmas.List.Folds.{list_all-append}
use Rattle.ir_model.specs.Graph.{Adjacency, names, IsGraph}
use Rattle.ir_model.specs.OfGraph.{topology_of_graph}
use Rattle.ir_model.specs.Walk.{walk_weight}
use Rattle.ir_core.specs.declared.packet.Restamp.{Restamp}
use Rattle.ir_core.specs.Record.{Record}
use Rattle.ir_trace.specs.declared.TheConstants.{MAX_NUMBER, MAX_SEGMENTS}
use Rattle.ir_trace.specs.declared.finding.Finding.{Finding}
use Rattle.ir_trace.specs.declared.finding.FindingKind.TheVariants.{NoMemory}
use Rattle.ir_trace.specs.declared.row.Version.TheVariants.{Two}
use Rattle.ir_trace.specs.Row.{Segment, TraceRow}
use Rattle.ir_trace.specs.Rows.{PartText, IsRowText, fate_names, hop_names, is_word, is_mark, is_part_text}
use Rattle.ir_trace.specs.Reading.{node_named, PartsAreReadAs, IsReadAs, AreReadAs, IsTrace, TellsFinding}
use Rattle.ir_trace.specs.Written.{name_at, fate_text, parts_of, named, segments_row, HasSegments, HaveSegments}
use Rattle.ir_trace.specs.Again.{segments_again, AreSegmentsNumbered, AreSegmentsOf}
use Rattle.ir_trace.specs.Checked.{is_part_over}
use Rattle.ir_trace.specs.Stretches.{parts_from, AreAscending}
use Rattle.ir_trace.proofs.ReadLinks.{count, named as name_back, word_at, plain_at}
use Rattle.ir_trace.proofs.ReadAgain.{hops_facts, fate_facts, node_within}
use Rattle.ir_trace.proofs.WrittenRows.{walk_within}
use Rattle.ir_trace.proofs.Stretched.{all_drop, all_take, ascending, parts_are, parts_weigh}
use Rattle.ir_trace.proofs.UniqueRows.{trace_same, trace_told}

-- the segments of hops have hops, which are among the same nodes
parts_over : (n epoch from : ℕ) (hops : List ℕ) (restamps : List Restamp) → list_all (λ u. nat_lt u n) hops ≡ true → from < length hops → AreAscending from (length hops) restamps
    → list_all (is_part_over n) (parts_from epoch from hops restamps) ≡ true
parts_over n epoch from hops [] within lt up =
    let some : 0 < length (drop from hops) = omega (arith, length-drop from hops, lt) in
    and_from (is_part_over n (record { epoch = epoch; hops = drop from hops })) true
    (and_from (nat_lt 0 (length (drop from hops))) (list_all (λ u. nat_lt u n) (drop from hops)) (lt-ltb 0 (length (drop from hops)) some) (all_drop (λ u. nat_lt u n) from hops within)) refl
parts_over n epoch from hops (s ∷ later) within lt up =
    let a : from ≤ s.from = up.0 in
    let b : s.from < length hops = up.1 in
    let own = take ((s.from + 1) - from) (drop from hops) in
    let long : length own ≡ (s.from + 1) - from = length-take-le ((s.from + 1) - from) (drop from hops) (omega (arith, length-drop from hops)) in
    let some : 0 < length own = omega (arith, long) in
    and_from (is_part_over n (record { epoch = epoch; hops = own })) (list_all (is_part_over n) (parts_from s.epoch s.from hops later))
    (and_from (nat_lt 0 (length own)) (list_all (λ u. nat_lt u n) own) (lt-ltb 0 (length own) some) (all_take (λ u. nat_lt u n) ((s.from + 1) - from) (drop from hops) (all_drop (λ u. nat_lt u n) from hops within)))
    (parts_over n s.epoch s.from hops later within b up.2)

as_many : (epoch from : ℕ) (hops : List ℕ) (restamps : List Restamp) → length (parts_from epoch from hops restamps) ≡ suc (length restamps)
as_many epoch from hops [] = refl
as_many epoch from hops (s ∷ later) = ap (λ n. suc n) (as_many s.epoch s.from hops later)

module _ (g : Adjacency) (graph : IsGraph g) where
  record NamesFacts (hops : List ℕ) : Type 0 where
    words : list_all is_word (map (name_at (names g)) hops) ≡ true
    plain : list_all (λ w. not (is_mark w)) (map (name_at (names g)) hops) ≡ true
    back : map (node_named (names g)) (map (name_at (names g)) hops) ≡ map (λ u. Some u) hops

  names_facts : (hops : List ℕ) → list_all (λ u. nat_lt u (length g)) hops ≡ true → NamesFacts hops
  names_facts [] h = record { words = refl; plain = refl; back = refl }
  names_facts (u ∷ hops) h =
      let both = and_parts (nat_lt u (length g)) (list_all (λ u. nat_lt u (length g)) hops) h in
      let u_in : u < length g = ltb-true u (length g) both.0 in
      let later = names_facts hops both.1 in
      let here : node_named (names g) (name_at (names g) u) ≡ Some u = name_back g graph u u_in in
      let rest : map (node_named (names g)) (map (name_at (names g)) hops) ≡ map (λ u. Some u) hops = later.back in
      record {
        words = and_from (is_word (name_at (names g) u)) (list_all is_word (map (name_at (names g)) hops)) (word_at g graph u u_in) later.words;
        plain = and_from (not (is_mark (name_at (names g) u))) (list_all (λ w. not (is_mark w)) (map (name_at (names g)) hops)) (plain_at g graph u u_in) later.plain;
        back = cc (here, rest);
      }

  record PartsFacts (parts : List Segment) : Type 0 where
    each : list_all is_part_text (map (named (names g)) parts) ≡ true
    plain : list_all (λ part. list_all (λ w. not (is_mark w)) part.hops) (map (named (names g)) parts) ≡ true
    words : list_all is_word (hop_names (map (named (names g)) parts)) ≡ true
    read : PartsAreReadAs g (map (named (names g)) parts) parts

  parts_facts : (parts : List Segment) → list_all (is_part_over (length g)) parts ≡ true → list_all (λ part. nat_le part.epoch MAX_NUMBER) parts ≡ true → PartsFacts parts
  parts_facts [] over small = record { each = refl; plain = refl; words = refl; read = tt }
  parts_facts (part ∷ parts) over small =
      let both = and_parts (is_part_over (length g) part) (list_all (is_part_over (length g)) parts) over in
      let own = and_parts (nat_lt 0 (length part.hops)) (list_all (λ u. nat_lt u (length g)) part.hops) both.0 in
      let epochs = and_parts (nat_le part.epoch MAX_NUMBER) (list_all (λ part. nat_le part.epoch MAX_NUMBER) parts) small in
      let later = parts_facts parts both.1 epochs.1 in
      let facts = names_facts part.hops own.1 in
      let text : PartText = named (names g) part in
      let some : 0 < length text.hops = omega (arith, ltb-true 0 (length part.hops) own.0, length-map part.hops (name_at (names g))) in
      record {
        each = and_from (is_part_text text) (list_all is_part_text (map (named (names g)) parts)) (and_from (nat_le text.epoch MAX_NUMBER) (nat_lt 0 (length text.hops)) epochs.0 (lt-ltb 0 (length text.hops) some)) later.each;
        plain = and_from (list_all (λ w. not (is_mark w)) text.hops) (list_all (λ part. list_all (λ w. not (is_mark w)) part.hops) (map (named (names g)) parts)) facts.plain later.plain;
        words = list_all-append is_word text.hops (hop_names (map (named (names g)) parts)) ∙ and_from (list_all is_word text.hops) (list_all is_word (hop_names (map (named (names g)) parts))) facts.words later.words;
        read = (refl, facts.back, later.read);
      }

  record RowFacts (r : Record) : Type 0 where
    text_is : IsRowText Two (segments_row (names g) (topology_of_graph g) r)
    read : IsReadAs g (segments_row (names g) (topology_of_graph g) r) (segments_again (topology_of_graph g) r)

  row_facts : (r : Record) → HasSegments (topology_of_graph g) r → r.id ≤ MAX_NUMBER → list_all (λ part. nat_le part.epoch MAX_NUMBER) (parts_of r) ≡ true → RowFacts r
  row_facts r has id small =
      let net = topology_of_graph g in
      let is = has.writable in
      let hops = hops_facts g graph is.first is.last r.hops is.hops in
      let fate = fate_facts g graph r.fate is.fate in
      let parts = parts_are r has.places in
      let up = ascending (length r.hops) r.restamps has.places in
      let N : ℕ → Type 0 = λ n. list_all (λ u. nat_lt u n) r.hops ≡ true in
      let within : list_all (λ u. nat_lt u (length g)) r.hops ≡ true = subst N (count g graph) (walk_within net is.first is.last r.hops is.hops) in
      let O : List Segment → Type 0 = λ ps. list_all (is_part_over (length g)) ps ≡ true in
      let over = subst O (sym parts) (parts_over (length g) r.epoch 0 r.hops r.restamps within hops.some up) in
      let facts = parts_facts (parts_of r) over small in
      let weight : sum_by (λ (part : Segment). walk_weight net part.hops) (parts_of r) ≡ walk_weight net r.hops = ap (sum_by (λ (part : Segment). walk_weight net part.hops)) parts ∙ parts_weigh net r.epoch 0 r.hops r.restamps up in
      let many : length (map (named (names g)) (parts_of r)) ≡ suc (length r.restamps) = length-map (parts_of r) (named (names g)) ∙ ap length parts ∙ as_many r.epoch 0 r.hops r.restamps in
      let texts = map (named (names g)) (parts_of r) in
      let tail = fate_names (fate_text (names g) net r.fate) in
      record {
        text_is = record {
          id = id;
          weight = omega (arith, hops.light, is.few, weight);
          parts = facts.each;
          version = and_from (nat_le 1 (length texts)) (nat_le (length texts) MAX_SEGMENTS && list_all (λ part. list_all (λ w. not (is_mark w)) part.hops) texts) (le-leb 1 (length texts) (omega (arith, many)))
              (and_from (nat_le (length texts) MAX_SEGMENTS) (list_all (λ part. list_all (λ w. not (is_mark w)) part.hops) texts) (le-leb (length texts) MAX_SEGMENTS (omega (arith, many, has.few))) facts.plain);
          words = and_from (is_word (name_at (names g) r.source)) _ (word_at g graph r.source (node_within g graph r.source is.source))
              (and_from (is_word (name_at (names g) r.dest)) (list_all is_word (tail ++ hop_names texts)) (word_at g graph r.dest (node_within g graph r.dest is.dest))
              (list_all-append is_word tail (hop_names texts) ∙ and_from (list_all is_word tail) (list_all is_word (hop_names texts)) fate.are_words facts.words));
        };
        read = record {
          id = refl;
          weight = refl;
          source = name_back g graph r.source (node_within g graph r.source is.source);
          dest = name_back g graph r.dest (node_within g graph r.dest is.dest);
          fate = fate.reads;
          parts = facts.read;
        };
      }

  rows_read : (records : List Record) → HaveSegments (topology_of_graph g) records → AreSegmentsNumbered records → AreReadAs Two g (map (segments_row (names g) (topology_of_graph g)) records) (map (segments_again (topology_of_graph g)) records)
  rows_read [] are numbered = tt
  rows_read (r ∷ records) are numbered =
      let small = numbered 0 r refl in
      let facts = row_facts r (are 0 r refl) small.0 small.1 in
      (facts.text_is, facts.read, rows_read records (λ i q at. are (suc i) q at) (λ i q at. numbered (suc i) q at))

  written : (text : List ℕ) (records : List Record) → AreSegmentsOf g text records → IsTrace g text (map (segments_again (topology_of_graph g)) records)
  written text records is = (Two, (map (segments_row (names g) (topology_of_graph g)) records, is.whole, rows_read records is.writable is.numbered))

  pub segments_read : (text : List ℕ) (r : Result (List TraceRow) Finding) → IfOk r (λ rows. IsTrace g text rows) → IfErr r (λ e. TellsFinding g text e.line e.kind) → (records : List Record) → AreSegmentsOf g text records
      → MatchResult r (λ rows. rows ≡ map (segments_again (topology_of_graph g)) records) (λ e. e.kind ≡ NoMemory)
  segments_read text (Ok rows) read told records is = trace_same g text rows (map (segments_again (topology_of_graph g)) records) read (written text records is)
  segments_read text (Err e) read told records is = trace_told g text (map (segments_again (topology_of_graph g)) records) (written text records is) e.line e.kind told

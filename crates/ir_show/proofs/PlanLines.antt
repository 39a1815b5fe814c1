-- The rows of a plan and their text.
use Rattle.std.proofs.Common.{◌≡◌, ◌≢◌, ℕ, zero, suc, ◌+◌, ◌-◌, ◌<◌, ◌≤◌, List, [], ◌∷◌, ◌++◌, length, take, get_or, Option, Some, None, option_map, decimal, slice_index, ⊎_elim, refl, sym, ap, subst, ◌∙◌, arith, append_assoc, flat_map}
use Rattle.std.proofs.lemmas.List.{append-nil, length-map, get_or-map, take_more}
use Rattle.std.proofs.lemmas.Grind.{flat_map-append}
use Rattle.std.proofs.lemmas.Option.{slice_get_within}
use Rattle.std.specs.List.{range_with_len}
use Rattle.std.specs.Option.{option_map_or}
use Rattle.ir_model.specs.declared.Hop.{Hop}
use Rattle.ir_model.specs.Topology.{Topology, node_count, ports_of, port_at}
use Rattle.ir_model.specs.Graph.{Name}
use Rattle.ir_model.specs.Table.{IsPrescribedWalk}
use Rattle.ir_model.specs.Row.{Start, labels}
use Rattle.ir_model.specs.Compiled.{port_to, IsCanonical, IsStart}
use Rattle.ir_model.specs.Plan.{Plan, IsPlan, label_in, row_in, table_port, by_label}
use Rattle.ir_model.proofs.Walks.{port_facts}
use Rattle.ir_model.proofs.Rows.{no_start}
use Rattle.std.proofs.lemmas.List.Elements.{Contains-get_or}
use Rattle.ir_trace.specs.Rows.{spaced}
use Rattle.ir_trace.specs.Written.{name_at}
use Rattle.ir_trace.proofs.WrittenRows.{join_spaced}
use Rattle.ir_show.specs.PlanText.{node_by, start_words}
use Rattle.ir_show.specs.Words.{line_text}

-- the hop that an option holds, from its node
hop_from : (found : Option Hop) (y : ℕ) → option_map (λ hop. hop.node) found ≡ Some y → (hop : Hop) × (found ≡ Some hop)
hop_from None y e = absurd (cc e)
hop_from (Some hop) y e = (hop, refl)

-- the port that a table holds on a prescribed walk leads somewhere
walk_leads : (net : Topology) (table : ℕ → ℕ → Option ℕ) (u d p : ℕ) (walk : List ℕ) → IsPrescribedWalk net table u d walk → u ≢ d → table u d ≡ Some p → (hop : Hop) × (port_at net u p ≡ Some hop)
walk_leads net table u d p [] walk ne port = absurd walk
walk_leads net table u d p (x ∷ []) walk ne port = absurd (ne walk.1)
walk_leads net table u d p (x ∷ y ∷ rest) walk ne port =
    let named : option_map (λ hop. hop.node) (port_at net u p) ≡ Some y = rw port at walk.1.1 in
    hop_from (port_at net u p) y named

-- a label at which a canonical row starts is a label, and not the own
start_label : (n own : ℕ) (ports : List (Option ℕ)) (d : ℕ) → IsStart n own ports d → (d < n) × (d ≢ own)
start_label n own ports d h = ⊎_elim (λ change. (change.0, change.1)) (λ only. (only.0, only.1)) h

-- a start of a node's row is at a label, and not at the node's own
pub start_within : (s : Plan) → IsPlan s → (u k : ℕ) → u < node_count s.topology → k < length (row_in s u)
    → ((get_or (row_in s u) k no_start).label < node_count s.topology) × ((get_or (row_in s u) k no_start).label ≢ label_in s u)
start_within s is u k u_in k_in =
    let n = node_count s.topology in
    let row = row_in s u in
    let canon : IsCanonical n (label_in s u) (by_label s u) row = is.rows u u_in in
    let len : length (labels row) ≡ length row = length-map row (λ (t : Start). t.label) in
    let label : slice_index (labels row) k ≡ (get_or row k no_start).label = get_or-map (λ (t : Start). t.label) row k no_start 0 k_in in
    let L : ℕ → Type 0 = λ d. (d < n) × (d ≢ label_in s u) in
    subst L label (start_label n (label_in s u) (by_label s u) _ ((canon.starts (slice_index (labels row) k)).0 (Contains-get_or (labels row) k 0 (omega arith))))

-- the port of a start of a node's row leads to a node
pub start_leads : (s : Plan) → IsPlan s → (u k : ℕ) → u < node_count s.topology → k < length (row_in s u) → (hop : Hop) × (port_at s.topology u (get_or (row_in s u) k no_start).port ≡ Some hop)
start_leads s is u k u_in k_in =
    let n = node_count s.topology in
    let start = get_or (row_in s u) k no_start in
    let canon : IsCanonical n (label_in s u) (by_label s u) (row_in s u) = is.rows u u_in in
    let within = start_within s is u k u_in k_in in
    let d = slice_index s.order start.label in
    let d_in : d < n = is.labels.node start.label within.0 in
    let back : slice_index s.labels d ≡ start.label = is.labels.back start.label within.0 in
    let other : u ≢ d = λ e. within.1 (sym back ∙ ap (slice_index s.labels) (sym e)) in
    let order_len : length s.order ≡ n = is.labels.every_label in
    let at : port_to (by_label s u) start.label ≡ table_port s u d = get_or-map (table_port s u) s.order start.label 0 None (omega arith) in
    let port : table_port s u d ≡ Some start.port = sym at ∙ canon.their_ports k no_start k_in in
    let walk = is.walks u d u_in d_in in
    walk_leads s.topology (table_port s) u d start.port walk.0 walk.1 other port

-- it is one of the node's ports, and leads to a node
pub record Leads (s : Plan) (u k : ℕ) : Type 0 where
  pub hop : Hop
  pub at : port_at s.topology u (get_or (row_in s u) k no_start).port ≡ Some hop
  pub port : (get_or (row_in s u) k no_start).port < length (ports_of s.topology u)
  pub to : hop.node < node_count s.topology
  pub label : (get_or (row_in s u) k no_start).label < node_count s.topology

pub leads : (s : Plan) → IsPlan s → (u k : ℕ) → u < node_count s.topology → k < length (row_in s u) → Leads s u k
leads s is u k u_in k_in =
    let by = start_leads s is u k u_in k_in in
    record { hop = by.0; at = by.1; port = slice_get_within (ports_of s.topology u) _ by.0 by.1; to = (port_facts s.topology is.topology u _ by.0 by.1).to; label = (start_within s is u k u_in k_in).0 }

-- ---- text

-- words one after another, and as a line
pub ruleset words_of_a_line = (append_assoc, join_spaced)

pieces : (w a b c : List ℕ) → ((w ++ a) ++ b) ++ c ≡ w ++ (a ++ (b ++ (c ++ [])))
pieces w a b c = simp (append_assoc, append-nil)

-- the words of the first line
pub head_line : (w a b c : List ℕ) → (((w ++ spaced a) ++ spaced b) ++ spaced c) ++ 10 ∷ [] ≡ line_text (w ∷ a ∷ b ∷ c ∷ [])
head_line w a b c = ap (λ t. t ++ 10 ∷ []) (pieces w (spaced a) (spaced b) (spaced c) ∙ sym (join_spaced w (a ∷ b ∷ c ∷ [])))

-- the words of a node's line
pub node_line : (w a : List ℕ) (rest : List (List ℕ)) → ((w ++ spaced a) ++ flat_map spaced rest) ++ 10 ∷ [] ≡ line_text (w ∷ a ∷ rest)
node_line w a rest = sym (ap (λ t. t ++ 10 ∷ []) (join_spaced w (a ∷ rest)) ∙ ap (λ t. t ++ 10 ∷ []) (sym (append_assoc w (spaced a) (flat_map spaced rest))))

-- the words of a start
pub start_line : (nodes : List Name) (net : Topology) (u : ℕ) (start : Start) (label port : ℕ) (hop : Hop) (name : List ℕ) → label ≡ start.label → port ≡ start.port → port_at net u port ≡ Some hop → name ≡ name_at nodes hop.node
    → spaced (decimal label) ++ spaced name ≡ flat_map spaced (start_words nodes net u start)
start_line nodes net u start label port hop name its_label its_port leads_to named =
    let at : port_at net u start.port ≡ Some hop = subst (λ (p : ℕ). port_at net u p ≡ Some hop) its_port leads_to in
    let node : node_by net u start.port ≡ hop.node = ap (λ (o : Option Hop). option_map_or (λ h. h.node) o 0) at in
    ap (λ l. spaced (decimal l) ++ spaced name) its_label
    ∙ ap (λ t. spaced (decimal start.label) ++ spaced t) (named ∙ ap (name_at nodes) (sym node))
    ∙ ap (λ t. spaced (decimal start.label) ++ t) (sym (append-nil (spaced (name_at nodes (node_by net u start.port)))))

-- one more start of a row
pub starts_more : (words : Start → List (List ℕ)) (row : List Start) (i : ℕ) → i < length row
    → flat_map spaced (flat_map words (take i row)) ++ flat_map spaced (words (get_or row i no_start)) ≡ flat_map spaced (flat_map words (take (i + 1) row))
starts_more words row i h =
    sym (flat_map-append spaced (flat_map words (take i row)) (words (get_or row i no_start)))
    ∙ ap (flat_map spaced)
    (ap (λ t. flat_map words (take i row) ++ t) (sym (append-nil (words (get_or row i no_start))))
    ∙ sym (flat_map-append words (take i row) (get_or row i no_start ∷ []))
    ∙ ap (flat_map words) (sym (take_more row i no_start h)))

pub range_more : (a n : ℕ) → range_with_len a (n + 1) ≡ range_with_len a n ++ (a + n) ∷ []
range_more a zero = ap (λ (k : ℕ). k ∷ []) (omega arith)
range_more a (suc n) =
    let one : suc n + 1 ≡ suc (n + 1) = omega arith in
    let sum : (a + 1) + n ≡ a + suc n = omega arith in
    ap (range_with_len a) one ∙ ap (λ ks. a ∷ ks) (range_more (a + 1) n ∙ ap (λ k. range_with_len (a + 1) n ++ k ∷ []) sum)

-- two ranges, one after the other
pub range_joined : (a m n : ℕ) → range_with_len a m ++ range_with_len (a + m) n ≡ range_with_len a (m + n)
range_joined a zero n =
    let from : a + zero ≡ a = omega arith in
    let all : zero + n ≡ n = omega arith in
    ap (λ (k : ℕ). range_with_len k n) from ∙ ap (range_with_len a) (sym all)
range_joined a (suc m) n =
    let from : a + suc m ≡ (a + 1) + m = omega arith in
    let all : suc m + n ≡ suc (m + n) = omega arith in
    ap (λ (k : ℕ). a ∷ (range_with_len (a + 1) m ++ range_with_len k n)) from
    ∙ ap (λ (ks : List ℕ). a ∷ ks) (range_joined (a + 1) m n) ∙ ap (range_with_len a) (sym all)

-- one more node
pub nodes_more : (line : ℕ → List ℕ) (n : ℕ) (head : List ℕ) → (head ++ flat_map line (range_with_len 0 n)) ++ line n ≡ head ++ flat_map line (range_with_len 0 (n + 1))
nodes_more line n head =
    let last : 0 + n ≡ n = omega arith in
    append_assoc head (flat_map line (range_with_len 0 n)) (line n)
    ∙ ap (λ t. head ++ t)
    (ap (λ t. flat_map line (range_with_len 0 n) ++ t) (sym (append-nil (line n))) ∙ sym (flat_map-append line (range_with_len 0 n) (n ∷ []))
    ∙ ap (flat_map line) (ap (λ (k : ℕ). range_with_len 0 n ++ k ∷ []) (sym last) ∙ sym (range_more 0 n)))

-- the nodes from one on, to another
pub lines_more : (line : ℕ → List ℕ) (from to : ℕ) (head : List ℕ) → from ≤ to
    → (head ++ flat_map line (range_with_len 0 from)) ++ flat_map line (range_with_len from (to - from)) ≡ head ++ flat_map line (range_with_len 0 to)
lines_more line from to head le =
    let first : 0 + from ≡ from = omega arith in
    let all : from + (to - from) ≡ to = omega (arith, le) in
    append_assoc head (flat_map line (range_with_len 0 from)) (flat_map line (range_with_len from (to - from)))
    ∙ ap (λ t. head ++ t)
    (sym (flat_map-append line (range_with_len 0 from) (range_with_len from (to - from)))
    ∙ ap (flat_map line)
    (ap (λ (k : ℕ). range_with_len 0 from ++ range_with_len k (to - from)) (sym first) ∙ range_joined 0 from (to - from) ∙ ap (range_with_len 0) all))

-- one node more of a block
pub block_more : (line : ℕ → List ℕ) (a u : ℕ) → a ≤ u → flat_map line (range_with_len a (u - a)) ++ line u ≡ flat_map line (range_with_len a (u + 1 - a))
block_more line a u le =
    let last : a + (u - a) ≡ u = omega (arith, le) in
    let more : (u - a) + 1 ≡ u + 1 - a = omega (arith, le) in
    ap (λ t. flat_map line (range_with_len a (u - a)) ++ t) (sym (append-nil (line u)))
    ∙ sym (flat_map-append line (range_with_len a (u - a)) (u ∷ []))
    ∙ ap (flat_map line) (ap (λ (k : ℕ). range_with_len a (u - a) ++ k ∷ []) (sym last) ∙ sym (range_more a (u - a)) ∙ ap (range_with_len a) more)

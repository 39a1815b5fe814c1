-- The words of labels, by the ways round and by the bounds to near nodes.
use Rattle.std.proofs.Common.{◌≡◌, ◌↔◌, ℕ, ◌+◌, ◌*◌, ◌%◌, ◌^◌, ◌<◌, ◌≤◌, List, [], Some, length, set, refl, ap, sym, ◌∙◌, subst, inl, inr, arith, bit_or, w32}
use Rattle.std.specs.Prelude.{slice_index, slice_index_or}
use Rattle.std.specs.Int.{bit_at}
use Rattle.std.proofs.lemmas.Bool.{cases_eq, cases_lt}
use Rattle.std.proofs.lemmas.List.{get_or-set_same, get_or-set_other, get_or_default, length-set}
use Rattle.std.proofs.lemmas.Nat.Bits.{bit_at-zero, bit_at_set_same, bit_at_set_other}
use Rattle.std.proofs.lemmas.Option.{slice_get_within}
use Rattle.ir_model.specs.declared.Hop.{Hop}
use Rattle.ir_model.specs.Topology.{Topology, node_count, ports_of, port_at, IsTopology}
use Rattle.ir_model.specs.Walk.{IsDistance}
use Rattle.ir_model.specs.Plan.{AreLabels}
use Rattle.ir_model.specs.Choices.{AreChoices, label_from}
use Rattle.ir_model.specs.Within.{LeadsWithin, MayLead}
use Rattle.ir_model.specs.Landmark.{IsLandmarkOf, IsLandmarkBound}
use Rattle.ir_model.proofs.Walks.{PortFacts, port_facts}
use Rattle.ir_model.proofs.Tables.{distance_unique}
use Rattle.ir_model.proofs.Ways.{symmetric}
use Rattle.ir_model.proofs.Landmarks.{landmark_unique, landmark_bound_one}
use Rattle.ir_model.proofs.Steps.{AreLongest}
use Rattle.ir_tables.specs.FromNode.{AreFrom}
use Rattle.ir_compile.specs.PortBits.{HasPortBit, MayTakeBit}
use Rattle.ir_compile.proofs.PortBits.{has_some}
use Rattle.ir_bounds.specs.Around.{AreSlots, AreAways}
use Rattle.ir_bounds.specs.Near.{IsWayRound, AreNearBounds}
use Rattle.ir_bounds.specs.Rows.{MayTakePort}
use Rattle.ir_bounds.specs.Words.{LeadsBy, IsLedWord, AreLedWords, IsWordBy, AreSettled, HaveOthers, AreWordsUpTo}

-- a port more in a word
module _ (net : Topology) (away : List ℕ) (radius whole u : ℕ) where
  pub word_none : IsWordBy net away radius whole u 0 0
  word_none p low = ((λ bit. absurd (let bad : 0 ≡ 1 = sym (bit_at-zero p) ∙ bit in omega (arith, bad))), (λ w. absurd (omega (arith, w.0))))

  pub word_set : (m word : ℕ) (hop : Hop) → IsWordBy net away radius whole u m word → port_at net u m ≡ Some hop → hop.weight + (slice_index away hop.node + radius) ≤ whole → m < 32
      → IsWordBy net away radius whole u (m + 1) (bit_or word (1 * 2 ^ m % 4294967296))
  word_set m word hop by at le within p low =
      elim (cases_eq p m) [
        | inl e ↦ (
          (λ bit. (omega (arith, e), (hop, ap (port_at net u) e ∙ at, le))),
          (λ w. ap (λ (q : ℕ). bit_at (bit_or word (1 * 2 ^ m % 4294967296)) q) e ∙ bit_at_set_same w32 word m within),
        )
        | inr ne ↦
            let same = bit_at_set_other w32 word m within p ne in (
              (λ bit. (let w = (by p low).0 (sym same ∙ bit) in (omega (arith, w.0), w.1))),
              (λ w. same ∙ (by p low).1 (omega (arith, w.0, ne), w.1)),
            )
      ]

  pub word_kept : (m word : ℕ) (hop : Hop) → IsWordBy net away radius whole u m word → port_at net u m ≡ Some hop → (hop.weight + (slice_index away hop.node + radius) ≤ whole → ⊥) → IsWordBy net away radius whole u (m + 1) word
  word_kept m word hop by at not p low = (
    (λ bit. (let w = (by p low).0 bit in (omega (arith, w.0), w.1))),
    (λ w.
        elim (cases_eq p m) [
          | inl e ↦
              let same : w.1.0 ≡ hop = cc (w.1.1, ap (port_at net u) e ∙ at) in
              absurd (not (subst (λ (h : Hop). h.weight + (slice_index away h.node + radius) ≤ whole) same w.1.2))
          | inr ne ↦ (by p low).1 (omega (arith, w.0, ne), w.1)
        ]),
  )

-- the words of labels whose nodes are listed, one after the other
module _ (n : ℕ) (order labels : List ℕ) (named : AreLabels n order labels) (node : ℕ → ℕ) (count : ℕ) (P : ℕ → ℕ → Type 0) where
  pub settle : (i label word : ℕ) (words : List ℕ) → AreSettled n order node count i P words → node i < n → label ≡ slice_index labels (node i) → P label word → AreSettled n order node count (i + 1) P (set words label word)
  settle i label word words before inside is holds =
      let there : label < length words = (let l = named.label (node i) inside in omega (arith, l, is, before.every)) in
      record {
        every = length-set words label word ∙ before.every;
        each = λ a ha.
            elim (cases_eq a label) [
              | inl e ↦ inl (subst (λ (x : ℕ). P x (slice_index (set words label word) x)) (sym e) (subst (P label) (sym (get_or-set_same words label word 0 there)) holds))
              | inr ne ↦
                  let other = get_or-set_other words label a word 0 ne in
                  elim (before.each a ha) [
                    | inl w ↦ inl (subst (P a) (sym other) w)
                    | inr w ↦ elim (cases_eq w.0 i) [
                      | inl e ↦ absurd (ne (sym (named.back a ha) ∙ ap (slice_index labels) (sym w.3 ∙ ap node e) ∙ sym is))
                      | inr differ ↦ inr (w.0, omega (arith, w.1, differ), w.2, w.3)
                    ]
                  ]
            ];
      }

  pub settled_all : (i : ℕ) (words : List ℕ) → AreSettled n order node count i P words → count ≤ i → (a : ℕ) → a < n → P a (slice_index words a)
  settled_all i words are all a ha = elim (are.each a ha) [ inl w ↦ w | inr w ↦ absurd (omega (arith, w.1, w.2, all)) ]

-- a word is put for one label, that has the same other bits
pub others_put : (n p : ℕ) (old words : List ℕ) (label word : ℕ) → HaveOthers n p old words → length words ≡ n → label < n → ((q : ℕ) → q < 32 → (q ≡ p → ⊥) → HasPortBit word q ↔ HasPortBit (slice_index words label) q)
    → HaveOthers n p old (set words label word)
others_put n p old words label word before every inside same a q ha low ne =
    elim (cases_eq a label) [
      | inl e ↦
          let now = same q low ne in
          let was = before label q inside low ne in
          subst (λ (x : ℕ). HasPortBit (slice_index (set words label word) x) q ↔ HasPortBit (slice_index old x) q) (sym e)
          (subst (λ (x : ℕ). HasPortBit x q ↔ HasPortBit (slice_index old label) q) (sym (get_or-set_same words label word 0 (omega (arith, inside, every)))) ((λ bit. was.0 (now.0 bit)), (λ bit. now.1 (was.1 bit))))
      | inr differ ↦ subst (λ (x : ℕ). HasPortBit x q ↔ HasPortBit (slice_index old a) q) (sym (get_or-set_other words label a word 0 differ)) (before a q ha low ne)
    ]

-- the distances from the landmark of a node, at its slot
pub owner_from : (net : Topology) (landmarks slots : List ℕ) (lists : List (List ℕ)) → AreSlots landmarks (length landmarks) slots → AreAways net landmarks (length landmarks) lists → (d l radius : ℕ) → IsLandmarkOf net landmarks d l radius
    → (slice_index slots l < length landmarks) × AreFrom net l (slice_index_or lists (slice_index slots l) [])
owner_from net landmarks slots lists placed away d l radius of =
    let k = of.among.0 in
    let at : slice_index landmarks k ≡ l = get_or_default landmarks k 0 l of.among.1 ∙ of.among.2 in
    let slot = placed k of.among.1 in
    subst (λ (x : ℕ). (slice_index slots x < length landmarks) × AreFrom net x (slice_index_or lists (slice_index slots x) [])) at
    (slot.0, subst (λ (x : ℕ). AreFrom net x (slice_index_or lists (slice_index slots (slice_index landmarks k)) [])) slot.1 (away (slice_index slots (slice_index landmarks k)) slot.0))

module _ (net : Topology) (ok : IsTopology net) (landmarks : List ℕ) (stretch : ℕ) where
  abbrev round : ℕ → ℕ → ℕ → Type 0
  round = IsWayRound net landmarks

  abbrev bound : ℕ → ℕ → ℕ → Type 0
  bound = IsLandmarkBound net landmarks stretch

  pub way_one : (u d x y : ℕ) → IsWayRound net landmarks u d x → IsWayRound net landmarks u d y → x ≡ y
  way_one u d x y a b =
      let same = landmark_unique net landmarks d a.landmark b.landmark a.radius b.radius a.of_end b.of_end in
      let far = distance_unique net u a.landmark a.around b.around a.to_landmark (subst (λ (l : ℕ). IsDistance net u l b.around) (sym same.0) b.to_landmark) in
      omega (arith, a.is, b.is, same.1, far)

  -- where the way round is the bound, the bound is a way round
  bound_round : (u d : ℕ) → ((way : ℕ) → round u d way → bound u d way) → (w : ℕ) → bound u d w → round u d w
  bound_round u d f w b =
      let way : ℕ = b.around + b.radius in
      let is : round u d way = record { landmark = b.landmark; radius = b.radius; around = b.around; of_end = b.of_end; to_landmark = b.to_landmark; is = refl } in
      subst (round u d) (landmark_bound_one net ok landmarks stretch u d way w (f way is) b) is

  -- so a port leads by both or by none
  pub whole_same : (u d p : ℕ) → ((way : ℕ) → IsWayRound net landmarks u d way → IsLandmarkBound net landmarks stretch u d way)
      → LeadsBy net (IsWayRound net landmarks) (IsWayRound net landmarks) u d p ↔ LeadsBy net (IsWayRound net landmarks) (IsLandmarkBound net landmarks stretch) u d p
  whole_same u d p f = ((λ l. (l.0, l.1, l.2, l.3, l.4, f l.2 l.5, l.6)), (λ l. (l.0, l.1, l.2, l.3, l.4, bound_round u d f l.2 l.5, l.6)))

  pub rest_same : (u d p : ℕ) (hop : Hop) → port_at net u p ≡ Some hop → ((way : ℕ) → IsWayRound net landmarks hop.node d way → IsLandmarkBound net landmarks stretch hop.node d way)
      → LeadsBy net (IsWayRound net landmarks) (IsLandmarkBound net landmarks stretch) u d p ↔ LeadsBy net (IsLandmarkBound net landmarks stretch) (IsLandmarkBound net landmarks stretch) u d p
  rest_same u d p hop at f = (
    (λ l.
        let same : l.0 ≡ hop = cc (l.3, at) in
        (l.0, l.1, l.2, l.3, subst (λ (h : Hop). round h.node d l.1 → bound h.node d l.1) (sym same) (f l.1) l.4, l.5, l.6)),
    (λ l.
        let same : l.0 ≡ hop = cc (l.3, at) in
        (l.0, l.1, l.2, l.3, subst (λ (h : Hop). bound h.node d l.1 → round h.node d l.1) (sym same) (bound_round hop.node d f l.1) l.4, l.5, l.6)),
  )

  -- a word by the distances from the landmark of d
  pub word_leads : (X : ℕ → ℕ → ℕ → Type 0) (u d l radius whole word : ℕ) (away : List ℕ) → IsLandmarkOf net landmarks d l radius → AreFrom net l away → X u d whole → ((w : ℕ) → X u d w → w ≡ whole)
      → IsWordBy net away radius whole u (length (ports_of net u)) word → IsLedWord net (IsWayRound net landmarks) X u d word
  word_leads X u d l radius whole word away of from own one by p low =
      let way : (hop : Hop) → port_at net u p ≡ Some hop → round hop.node d (slice_index away hop.node + radius) = λ hop at.
      (let facts : PortFacts net u hop = port_facts net ok u p hop at in
      record {
        landmark = l;
        radius = radius;
        around = slice_index away hop.node;
        of_end = of;
        to_landmark = symmetric net ok l hop.node (slice_index away hop.node) (from.each hop.node facts.to);
        is = refl;
      }) in (
        (λ bit. (let w = (by p low).0 bit in (w.1.0, slice_index away w.1.0.node + radius, whole, w.1.1, way w.1.0 w.1.1, own, w.1.2))),
        (λ leads.
            let rest = way_one leads.0.node d leads.1 (slice_index away leads.0.node + radius) leads.4 (way leads.0 leads.3) in
            let all = one leads.2 leads.5 in
            (by p low).1 (slice_get_within (ports_of net u) p leads.0 leads.3, (leads.0, leads.3, omega (arith, leads.6, rest, all)))),
      )

  -- that of a block, for each node of it
  pub block_leads : (u d l radius word : ℕ) (away : List ℕ) → u < node_count net → IsLandmarkOf net landmarks d l radius → AreFrom net l away → IsWordBy net away 0 (slice_index away u) u (length (ports_of net u)) word
      → IsLedWord net (IsWayRound net landmarks) (IsWayRound net landmarks) u d word
  block_leads u d l radius word away hu of from by =
      let whole : ℕ = slice_index away u + radius in
      let own : round u d whole = record { landmark = l; radius = radius; around = slice_index away u; of_end = of; to_landmark = symmetric net ok l u (slice_index away u) (from.each u hu); is = refl } in
      word_leads round u d l radius whole word away of from own (λ w is. way_one u d w whole is own)
      (λ p low. (
        (λ bit. (let w = (by p low).0 bit in (w.0, (w.1.0, w.1.1, omega (arith, w.1.2))))),
        (λ w. (by p low).1 (w.0, (w.1.0, w.1.1, omega (arith, w.1.2)))),
      ))

  -- a port leads within the bounds where their numbers say so
  pub numbers_lead : (u d p rest whole : ℕ) (hop : Hop) → port_at net u p ≡ Some hop → IsLandmarkBound net landmarks stretch hop.node d rest → IsLandmarkBound net landmarks stretch u d whole
      → (hop.weight + (rest + 0) ≤ whole) ↔ LeadsBy net (IsLandmarkBound net landmarks stretch) (IsLandmarkBound net landmarks stretch) u d p
  numbers_lead u d p rest whole hop at there own = (
    (λ le. (hop, rest, whole, at, there, own, omega (arith, le))),
    (λ l.
        let same : l.0 ≡ hop = cc (l.3, at) in
        let of = subst (λ (h : Hop). bound h.node d l.1 × (h.weight + l.1 ≤ l.2)) same (l.4, l.6) in
        let from = landmark_bound_one net ok landmarks stretch hop.node d rest l.1 there of.0 in
        let all = landmark_bound_one net ok landmarks stretch u d whole l.2 own l.5 in
        omega (arith, of.1, from, all)),
  )

  module _ (order labels : List ℕ) (named : AreLabels (node_count net) order labels) (u : ℕ) where
    -- before the first of the near nodes
    pub own_begun : (count : ℕ) (node number : ℕ → ℕ) (words : List ℕ) → AreNearBounds net landmarks stretch u count node number → AreLedWords net (IsWayRound net landmarks) (IsWayRound net landmarks) order u words
        → AreSettled (node_count net) order node count 0 (λ a word. IsLedWord net (IsWayRound net landmarks) (IsLandmarkBound net landmarks stretch) u (slice_index order a) word) words
    own_begun count node number words near led = record {
      every = led.every;
      each = λ a ha.
          elim (near.rest (slice_index order a) (named.node a ha)) [
            | inl f ↦ inl (λ p low.
                let is = led.each a ha p low in
                let same = whole_same u (slice_index order a) p f in
                ((λ bit. same.0 (is.0 bit)), (λ leads. is.1 (same.1 leads))))
            | inr w ↦ inr (w.0, omega arith, w.1, w.2)
          ];
    }

    pub port_begun : (p count : ℕ) (hop : Hop) (node number : ℕ → ℕ) (words : List ℕ) → p < 32 → port_at net u p ≡ Some hop → AreNearBounds net landmarks stretch hop.node count node number
        → AreWordsUpTo net (IsWayRound net landmarks) (IsLandmarkBound net landmarks stretch) order u p words
        → AreSettled (node_count net) order node count 0 (λ a word. HasPortBit word p ↔ LeadsBy net (IsLandmarkBound net landmarks stretch) (IsLandmarkBound net landmarks stretch) u (slice_index order a) p) words
    port_begun p count hop node number words low at near are = record {
      every = are.every;
      each = λ a ha.
          elim (near.rest (slice_index order a) (named.node a ha)) [
            | inl f ↦ inl (
                let is = are.left a p ha low (omega arith) in
                let same = rest_same u (slice_index order a) p hop at f in
                ((λ bit. same.0 (is.0 bit)), (λ leads. is.1 (same.1 leads))))
            | inr w ↦ inr (w.0, omega arith, w.1, w.2)
          ];
    }

    -- one port more
    pub port_done : (p : ℕ) (old words : List ℕ) → AreWordsUpTo net (IsWayRound net landmarks) (IsLandmarkBound net landmarks stretch) order u p old → length words ≡ node_count net → HaveOthers (node_count net) p old words
        → ((a : ℕ) → a < node_count net → HasPortBit (slice_index words a) p ↔ LeadsBy net (IsLandmarkBound net landmarks stretch) (IsLandmarkBound net landmarks stretch) u (slice_index order a) p)
        → AreWordsUpTo net (IsWayRound net landmarks) (IsLandmarkBound net landmarks stretch) order u (p + 1) words
    port_done p old words are every others own = record {
      every = every;
      done = λ a q ha low lt.
          elim (cases_eq q p) [
            | inl e ↦ subst (λ (x : ℕ). HasPortBit (slice_index words a) x ↔ LeadsBy net bound bound u (slice_index order a) x) (sym e) (own a ha)
            | inr ne ↦
                let same = others a q ha low ne in
                let is = are.done a q ha low (omega (arith, lt, ne)) in
                ((λ bit. is.0 (same.0 bit)), (λ leads. same.1 (is.1 leads)))
          ];
      left = λ a q ha low ge.
          let same = others a q ha low (λ e. omega (arith, e, ge)) in
          let is = are.left a q ha low (omega (arith, ge)) in
          ((λ bit. is.0 (same.0 bit)), (λ leads. same.1 (is.1 leads)));
    }

    pub ports_begun : (words : List ℕ) → AreLedWords net (IsWayRound net landmarks) (IsLandmarkBound net landmarks stretch) order u words → AreWordsUpTo net (IsWayRound net landmarks) (IsLandmarkBound net landmarks stretch) order u 0 words
    ports_begun words led = record {
      every = led.every;
      done = λ a q ha low lt. absurd (omega (arith, lt));
      left = λ a q ha low ge. led.each a ha q low;
    }

    -- after the last port
    pub ports_all : (p : ℕ) (words : List ℕ) → length (ports_of net u) ≤ p → AreWordsUpTo net (IsWayRound net landmarks) (IsLandmarkBound net landmarks stretch) order u p words
        → AreLedWords net (IsLandmarkBound net landmarks stretch) (IsLandmarkBound net landmarks stretch) order u words
    ports_all p words last are = record {
      every = are.every;
      each = λ a ha q low.
          elim (cases_lt q p) [
            | inl lt ↦ are.done a q ha low lt
            | inr past ↦
                let is = are.left a q ha low past in (
                  (λ bit. (let l = is.0 bit in absurd (let within = slice_get_within (ports_of net u) q l.0 l.3 in omega (arith, within, past, last)))),
                  (λ l. absurd (let within = slice_get_within (ports_of net u) q l.0 l.3 in omega (arith, within, past, last))),
                )
          ];
    }

    module _ (hu : u < node_count net) (few : length (ports_of net u) ≤ 32) (words : List ℕ) (are : AreLedWords net (IsLandmarkBound net landmarks stretch) (IsLandmarkBound net landmarks stretch) order u words) where
      -- the words say which ports labels may take
      words_may : (d p : ℕ) → MayTakeBit (node_count net) words d p ↔ MayTakePort net (IsLandmarkBound net landmarks stretch) order (slice_index labels u) d p
      words_may d p =
          let there = named.there u hu in (
            (λ may. (may.0, subst (λ (x : ℕ). LeadsWithin net bound x (slice_index order d) p) (sym there) ((are.each d may.0 p may.1).0 may.2))),
            (λ may.
                let leads : LeadsWithin net bound u (slice_index order d) p = subst (λ (x : ℕ). LeadsWithin net bound x (slice_index order d) p) there may.1 in
                let within = slice_get_within (ports_of net u) p leads.0 leads.3 in
                let low : p < 32 = omega (arith, within, few) in
                (may.0, low, (are.each d may.0 p low).1 leads)),
          )

      pub words_some : AreChoices (node_count net) (slice_index labels u) (MayLead net (IsLandmarkBound net landmarks stretch) order (slice_index labels u)) → (d : ℕ) → d < node_count net → (d ≡ slice_index labels u → ⊥) → 0 < slice_index words d
      words_some choices d hd ne = let w = choices.some d hd ne in let may = (words_may d w.0).1 (hd, w.1) in has_some (slice_index words d) w.0 may.2

      -- so the longest runs by the words are those of the ports that lead within the bounds
      pub words_longest : (counts ports : List ℕ) → AreLongest (node_count net) (slice_index labels u) (MayTakeBit (node_count net) words) counts ports
          → AreLongest (node_count net) (slice_index labels u) (MayTakePort net (IsLandmarkBound net landmarks stretch) order (slice_index labels u)) counts ports
      words_longest counts ports longest a l off =
          let run = longest a l off in
          record {
            within = run.within;
            serves = λ i b ne. (words_may (label_from (node_count net) a i) (slice_index ports a)).0 (run.serves i b ne);
            longest = λ p t b serves. run.longest p t b (λ i j ne. (words_may (label_from (node_count net) a i) p).1 (serves i j ne));
            least = λ p serves. run.least p (λ i j ne. (words_may (label_from (node_count net) a i) p).1 (serves i j ne));
          }

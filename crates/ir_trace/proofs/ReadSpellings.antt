-- Rows and the words that spell them.
use Rattle.std.proofs.Common.{◌≡◌, ◌<◌, ◌≤◌, ◌-◌, ◌&&◌, ℕ, true, List, [], ◌∷◌, ◌++◌, length, take, drop, get_or, Option, Some, None, if◌then◌else◌, codes, bytes_eq, decimal, flat_map, nat_le, nat_lt, refl, sym, ap, subst, ◌∙◌, arith}
use Rattle.std.specs.Borrow.{Bor}
use Rattle.std.specs.List.{list_all}
use Rattle.std.proofs.lemmas.Bool.{and_parts, and_from, eqb-true, leb-true, ltb-true, le-leb, lt-ltb}
use Rattle.std.proofs.lemmas.List.{take_rest, append-nil}
use Rattle.std.proofs.lemmas.List.Folds.{list_all-append}
use Rattle.ir_model.specs.Graph.{Name}
use Rattle.ir_trace.specs.declared.TheConstants.{MAX_NUMBER}
use Rattle.ir_trace.specs.declared.row.Version.TheVariants.{One, Two}
use Rattle.ir_trace.specs.Rows.{FateText, Delivered, Retired, Down, Full, Left, PartText, RowText, IsRowText, row_words, part_words, first_part, mark, fate_words, fate_names, hop_names, is_word, is_part_text, fits_version}
use Rattle.ir_trace.specs.Spelled.{texts, Spells, SpellsNothing, IsNoNumber, IsNoFate, row_head, HasHead, HasNoHead, AreParts, AreNoParts}

-- ---- the words of a fate give it

abbrev two : (Name → Name → FateText) → List Name → Option (FateText × List Name)
two make [] = None
two make (x ∷ []) = None
two make (x ∷ y ∷ hops) = Some (make x y, hops)

abbrev told : List Name → Option (FateText × List Name)
told [] = None
told (w ∷ ws) =
    if bytes_eq w (codes "delivered") then Some (Delivered, ws)
    else if bytes_eq w (codes "retired") then Some (Retired, ws)
    else if bytes_eq w (codes "left") then Some (Left, ws)
    else if bytes_eq w (codes "down") then two Down ws
    else if bytes_eq w (codes "full") then two Full ws
    else None

told-fate : (fate : FateText) (hops : List Name) → told (fate_words fate ++ hops) ≡ Some (fate, hops)
told-fate Delivered hops = refl
told-fate Retired hops = refl
told-fate (Down x y) hops = refl
told-fate (Full x y) hops = refl
told-fate Left hops = refl

pub fate_words-same : (f g : FateText) (h k : List Name) → fate_words f ++ h ≡ fate_words g ++ k → (f ≡ g) × (h ≡ k)
fate_words-same f g h k e =
    let same : Some (f, h) ≡ Some (g, k) = sym (told-fate f h) ∙ ap told e ∙ told-fate g k in
    let pair : ◌≡◌ {A = FateText × List Name} (f, h) (g, k) = cc same in
    (ap (λ p. p.0) pair, ap (λ p. p.1) pair)

-- a word that names no fate
pub no_fate : (w : Name) (ws : List Name) → (w ≡ codes "delivered" → ⊥) → (w ≡ codes "retired" → ⊥) → (w ≡ codes "left" → ⊥) → (w ≡ codes "down" → ⊥) → (w ≡ codes "full" → ⊥) → IsNoFate (w ∷ ws)
no_fate w ws delivered retired left down full Delivered hops e = delivered (cc (sym e))
no_fate w ws delivered retired left down full Retired hops e = retired (cc (sym e))
no_fate w ws delivered retired left down full (Down x y) hops e = down (cc (sym e))
no_fate w ws delivered retired left down full (Full x y) hops e = full (cc (sym e))
no_fate w ws delivered retired left down full Left hops e = left (cc (sym e))

-- too few words after the word of a fate with two names
short_two : (make : Name → Name → FateText) (ws : List (Bor (List ℕ))) → length ws < 2 → two make (texts ws) ≡ None
short_two make [] short = refl
short_two make (w ∷ []) short = refl
short_two make (w ∷ v ∷ ws) short = absurd (omega arith)

short_fate : (w : Name) (ws : List Name) → told (w ∷ ws) ≡ None → IsNoFate (w ∷ ws)
short_fate w ws none fate hops e = let same : Some (fate, hops) ≡ None = sym (told-fate fate hops) ∙ ap told e ∙ none in absurd (cc same)

pub no_down : (w : Name) (ws : List (Bor (List ℕ))) → w ≡ codes "down" → length ws < 2 → IsNoFate (w ∷ texts ws)
no_down w ws is short = subst (λ v. IsNoFate (v ∷ texts ws)) (sym is) (short_fate (codes "down") (texts ws) (short_two Down ws short))

pub no_full : (w : Name) (ws : List (Bor (List ℕ))) → w ≡ codes "full" → length ws < 2 → IsNoFate (w ∷ texts ws)
no_full w ws is short = subst (λ v. IsNoFate (v ∷ texts ws)) (sym is) (short_fate (codes "full") (texts ws) (short_two Full ws short))

-- ---- the names of a row

pub first_word : (w : Name) (ws : List Name) → list_all is_word (w ∷ ws) ≡ true → is_word w ≡ true
first_word w ws h = (and_parts (is_word w) (list_all is_word ws) h).0

pub words_behind : (w : Name) (ws : List Name) → list_all is_word (w ∷ ws) ≡ true → list_all is_word ws ≡ true
words_behind w ws h = (and_parts (is_word w) (list_all is_word ws) h).1

tail_words : (fate : FateText) (hops : List Name) → list_all is_word (fate_words fate ++ hops) ≡ true → list_all is_word (fate_names fate ++ hops) ≡ true
tail_words Delivered hops h = h
tail_words Retired hops h = h
tail_words (Down x y) hops h = h
tail_words (Full x y) hops h = h
tail_words Left hops h = h

-- ---- parts

-- a row of the first version has one part
pub one_part : (parts : List PartText) → fits_version One parts ≡ true → parts ≡ first_part parts ∷ []
one_part [] h = absurd (cc h)
one_part (part ∷ []) h = refl
one_part (part ∷ other ∷ parts) h = absurd (omega (arith, eqb-true (length (part ∷ other ∷ parts)) 1 h))

pub record PartIs (part : PartText) : Type 0 where
  pub epoch : part.epoch ≤ MAX_NUMBER
  pub some : 0 < length part.hops

pub part_is : (part : PartText) → is_part_text part ≡ true → PartIs part
part_is part h =
    let both = and_parts (nat_le part.epoch MAX_NUMBER) (nat_lt 0 (length part.hops)) h in
    record { epoch = leb-true part.epoch MAX_NUMBER both.0; some = ltb-true 0 (length part.hops) both.1 }

pub is_part : (part : PartText) → part.epoch ≤ MAX_NUMBER → 0 < length part.hops → is_part_text part ≡ true
is_part part epoch some = and_from (nat_le part.epoch MAX_NUMBER) (nat_lt 0 (length part.hops)) (le-leb part.epoch MAX_NUMBER epoch) (lt-ltb 0 (length part.hops) some)

pub first_is : (text : RowText) → IsRowText One text → PartIs (first_part text.parts)
first_is text is =
    let P : List PartText → Type 0 = λ parts. list_all is_part_text parts ≡ true in
    part_is (first_part text.parts) (and_parts (is_part_text (first_part text.parts)) true (subst P (one_part text.parts is.version) is.parts)).0

-- ---- a word, and those of a head after it

module _ (words : List Name) (first : Name) (tail : List Name) (words_are : words ≡ first ∷ tail) where
  pub no_id : IsNoNumber first → SpellsNothing One words
  no_id other text is = let same : row_words One text ≡ first ∷ tail = is.words_are ∙ words_are in other text.id is.text_is.id (cc same)

  -- after the id of a row comes a head with the epoch for its number
  pub behind_id : (text : RowText) → Spells One words text
      → HasHead tail (record { id = (first_part text.parts).epoch; source = text.source; dest = text.dest; weight = text.weight; fate = text.fate; parts = [] }) (first_part text.parts).hops
  behind_id text is = let same : row_words One text ≡ first ∷ tail = is.words_are ∙ words_are in record { id = (first_is text is.text_is).epoch; weight = is.text_is.weight; whole = cc same }

  pub no_head_behind : HasNoHead tail → SpellsNothing One words
  no_head_behind other text is = other _ _ (behind_id text is)

  module _ (head : RowText) (hops : List Name) (has : HasHead tail head hops) where
    pub no_hops : length hops ≡ 0 → SpellsNothing One words
    no_hops none text is =
        let same = (behind_id text is).whole ∙ sym has.whole in
        let tails = fate_words-same text.fate head.fate (first_part text.parts).hops hops (cc same) in
        absurd (omega (arith, ap length tails.1, (first_is text is.text_is).some))

    pub spells : (id : ℕ) → id ≤ MAX_NUMBER → decimal id ≡ first → 0 < length hops → list_all is_word words ≡ true
        → Spells One words (record { id = id; source = head.source; dest = head.dest; weight = head.weight; fate = head.fate; parts = record { epoch = head.id; hops = hops } ∷ [] })
    spells id small is_id some all = record {
      text_is = record {
        id = small;
        weight = has.weight;
        parts = and_from (is_part_text (record { epoch = head.id; hops = hops })) true (is_part (record { epoch = head.id; hops = hops }) has.id some) refl;
        version = refl;
        words = names;
      };
      words_are = ap (λ w. w ∷ row_head head ++ hops) is_id ∙ ap (λ t. first ∷ t) has.whole ∙ sym words_are;
    }
      where
        all_words : list_all is_word (first ∷ row_head head ++ hops) ≡ true
        all_words = ap (λ t. list_all is_word (first ∷ t)) has.whole ∙ ap (list_all is_word) (sym words_are) ∙ all

        names : list_all is_word (head.source ∷ head.dest ∷ (fate_names head.fate ++ (hops ++ []))) ≡ true
        names =
            let rest = fate_words head.fate ++ hops in
            let from_source = words_behind (decimal head.id) (head.source ∷ head.dest ∷ decimal head.weight ∷ rest) (words_behind first (row_head head ++ hops) all_words) in
            let from_dest = words_behind head.source (head.dest ∷ decimal head.weight ∷ rest) from_source in
            and_from (is_word head.source) _ (first_word head.source (head.dest ∷ decimal head.weight ∷ rest) from_source)
            (and_from (is_word head.dest) _ (first_word head.dest (decimal head.weight ∷ rest) from_dest)
            (ap (λ t. list_all is_word (fate_names head.fate ++ t)) (append-nil hops) ∙ tail_words head.fate hops (words_behind (decimal head.weight) rest (words_behind head.dest (decimal head.weight ∷ rest) from_dest))))

-- ---- five words, and the words after them

abbrev at : List (Bor (List ℕ)) → ℕ → Name
at words k = (get_or words k (record { ref_ptr = (0, 0); now = [] })).now

abbrev after : List (Bor (List ℕ)) → List Name
after words = texts (take (length words - 5) (drop 5 words))

pub five_words : (words : List (Bor (List ℕ))) → 5 ≤ length words → texts words ≡ at words 0 ∷ at words 1 ∷ at words 2 ∷ at words 3 ∷ at words 4 ∷ after words
five_words [] h = absurd (omega arith)
five_words (a ∷ []) h = absurd (omega arith)
five_words (a ∷ b ∷ []) h = absurd (omega arith)
five_words (a ∷ b ∷ c ∷ []) h = absurd (omega arith)
five_words (a ∷ b ∷ c ∷ d ∷ []) h = absurd (omega arith)
five_words (a ∷ b ∷ c ∷ d ∷ e ∷ rest) h = ap (λ t. a.now ∷ b.now ∷ c.now ∷ d.now ∷ e.now ∷ texts t) (sym (take_rest (a ∷ b ∷ c ∷ d ∷ e ∷ rest) 5))

module _ (words : List (Bor (List ℕ))) (long : 5 ≤ length words) where
  same_head : (text : RowText) (rest : List Name) → HasHead (texts words) text rest → row_head text ++ rest ≡ at words 0 ∷ at words 1 ∷ at words 2 ∷ at words 3 ∷ at words 4 ∷ after words
  same_head text rest is = is.whole ∙ five_words words long

  pub no_head_fate : IsNoFate (at words 4 ∷ after words) → HasNoHead (texts words)
  no_head_fate other text rest is = other text.fate rest (cc (same_head text rest is))

  pub no_head_id : IsNoNumber (at words 0) → HasNoHead (texts words)
  no_head_id other text rest is = other text.id is.id (cc (same_head text rest is))

  pub no_head_weight : IsNoNumber (at words 3) → HasNoHead (texts words)
  no_head_weight other text rest is = other text.weight is.weight (cc (same_head text rest is))

  pub has_head : (fate : FateText) (held : List (Bor (List ℕ))) (id weight : ℕ) → fate_words fate ++ texts held ≡ at words 4 ∷ after words → id ≤ MAX_NUMBER → weight ≤ MAX_NUMBER → decimal id ≡ at words 0 → decimal weight ≡ at words 3
      → HasHead (texts words) (record { id = id; source = at words 1; dest = at words 2; weight = weight; fate = fate; parts = [] }) (texts held)
  has_head fate held id weight tail small_id small_weight is_id is_weight = record { id = small_id; weight = small_weight; whole = cc (sym (five_words words long)) }

-- ---- rows of the second version

fate_tail : (fate : FateText) (rest : List Name) → list_all is_word (fate_words fate ++ rest) ≡ true → list_all is_word rest ≡ true
fate_tail Delivered rest h = words_behind (codes "delivered") rest h
fate_tail Retired rest h = words_behind (codes "retired") rest h
fate_tail (Down x y) rest h = words_behind y rest (words_behind x (y ∷ rest) (words_behind (codes "down") (x ∷ y ∷ rest) h))
fate_tail (Full x y) rest h = words_behind y rest (words_behind x (y ∷ rest) (words_behind (codes "full") (x ∷ y ∷ rest) h))
fate_tail Left rest h = words_behind (codes "left") rest h

fate_names_words : (fate : FateText) (rest hops : List Name) → list_all is_word (fate_words fate ++ rest) ≡ true → list_all is_word hops ≡ true → list_all is_word (fate_names fate ++ hops) ≡ true
fate_names_words Delivered rest hops h k = k
fate_names_words Retired rest hops h k = k
fate_names_words (Down x y) rest hops h k =
    let pair = words_behind (codes "down") (x ∷ y ∷ rest) h in
    and_from (is_word x) (is_word y && list_all is_word hops) (first_word x (y ∷ rest) pair) (and_from (is_word y) (list_all is_word hops) (first_word y rest (words_behind x (y ∷ rest) pair)) k)
fate_names_words (Full x y) rest hops h k =
    let pair = words_behind (codes "full") (x ∷ y ∷ rest) h in
    and_from (is_word x) (is_word y && list_all is_word hops) (first_word x (y ∷ rest) pair) (and_from (is_word y) (list_all is_word hops) (first_word y rest (words_behind x (y ∷ rest) pair)) k)
fate_names_words Left rest hops h k = k

hops_words : (parts : List PartText) → list_all is_word (flat_map part_words parts) ≡ true → list_all is_word (hop_names parts) ≡ true
hops_words [] h = refl
hops_words (part ∷ parts) h =
    let both = and_parts (list_all is_word part.hops) (list_all is_word (flat_map part_words parts))
    (sym (list_all-append is_word part.hops (flat_map part_words parts)) ∙ words_behind (mark part.epoch) (part.hops ++ flat_map part_words parts) h) in
    list_all-append is_word part.hops (hop_names parts) ∙ and_from (list_all is_word part.hops) (list_all is_word (hop_names parts)) both.0 (hops_words parts both.1)

module _ (words : List Name) where
  pub no_head_row : HasNoHead words → SpellsNothing Two words
  no_head_row other text is = other text (flat_map part_words text.parts) (record { id = is.text_is.id; weight = is.text_is.weight; whole = is.words_are })

  module _ (head : RowText) (rest : List Name) (has : HasHead words head rest) where
    pub no_parts_row : AreNoParts rest → SpellsNothing Two words
    no_parts_row other text is =
        let same : row_head text ++ flat_map part_words text.parts ≡ row_head head ++ rest = is.words_are ∙ sym has.whole in
        let tails = fate_words-same text.fate head.fate (flat_map part_words text.parts) rest (cc same) in
        other text.parts (record { words_are = tails.1; each = is.text_is.parts; version = is.text_is.version })

    pub parts_row : (parts : List PartText) → AreParts rest parts → list_all is_word words ≡ true
        → Spells Two words (record { id = head.id; source = head.source; dest = head.dest; weight = head.weight; fate = head.fate; parts = parts })
    parts_row parts are all = record {
      text_is = record { id = has.id; weight = has.weight; parts = are.each; version = are.version; words = names };
      words_are = ap (λ t. row_head head ++ t) are.words_are ∙ has.whole;
    }
      where
        all_words : list_all is_word (row_head head ++ rest) ≡ true
        all_words = ap (list_all is_word) has.whole ∙ all

        names : list_all is_word (head.source ∷ head.dest ∷ (fate_names head.fate ++ hop_names parts)) ≡ true
        names =
            let tail = fate_words head.fate ++ rest in
            let from_source = words_behind (decimal head.id) (head.source ∷ head.dest ∷ decimal head.weight ∷ tail) all_words in
            let from_dest = words_behind head.source (head.dest ∷ decimal head.weight ∷ tail) from_source in
            let from_fate = words_behind (decimal head.weight) tail (words_behind head.dest (decimal head.weight ∷ tail) from_dest) in
            let hops = hops_words parts (ap (list_all is_word) are.words_are ∙ fate_tail head.fate rest from_fate) in
            and_from (is_word head.source) _ (first_word head.source (head.dest ∷ decimal head.weight ∷ tail) from_source)
            (and_from (is_word head.dest) _ (first_word head.dest (decimal head.weight ∷ tail) from_dest) (fate_names_words head.fate rest (hop_names parts) from_fate hops))

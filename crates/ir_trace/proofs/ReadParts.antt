-- The parts that words spell, one after another.
use Rattle.std.proofs.Common.{◌≡◌, ◌<◌, ◌≤◌, ◌+◌, ◌-◌, ℕ, zero, suc, Bool, true, false, not, cond, ◌&&◌, List, [], ◌∷◌, ◌++◌, length, take, drop, map, flat_map, get_or, nat_le, refl, sym, ap, subst, ◌∙◌, arith, append_assoc}
use Rattle.std.specs.List.{list_all, prefix_len}
use Rattle.std.specs.Borrow.{Bor}
use Rattle.std.proofs.lemmas.Bool.{and_parts, and_from, leb-true, le-leb}
use Rattle.std.proofs.lemmas.Fmt.{decimal_injective}
use Rattle.std.proofs.lemmas.List.{append-nil, take_rest, length-map, length-take-le, map-append}
use Rattle.std.proofs.lemmas.List.Concat.{flat_map-append}
use Rattle.std.proofs.lemmas.List.Folds.{list_all-append}
use Rattle.ir_model.specs.Graph.{Name}
use Rattle.ir_trace.specs.declared.TheConstants.{MAX_NUMBER, MAX_SEGMENTS}
use Rattle.ir_trace.specs.declared.row.Version.TheVariants.{Two}
use Rattle.ir_trace.specs.declared.words.SegmentSpelling.{SegmentSpelling}
use Rattle.ir_trace.specs.Rows.{PartText, part_words, mark, is_mark, is_part_text, fits_version}
use Rattle.ir_trace.specs.Spelled.{texts, part_held, BeginsWith, BeginsWithNone, AreParts, AreNoParts}
use Rattle.ir_trace.proofs.ReadSpellings.{part_is, is_part}

abbrev pub plain : Name → Bool
plain w = not (is_mark w)

-- no hop begins with `#`
abbrev pub are_plain : List PartText → Bool
are_plain parts = list_all (λ part. list_all (λ w. not (is_mark w)) part.hops) parts

-- the hops of a part end where the next part begins
pub hops_end : (hops : List Name) (more : List PartText) → list_all plain hops ≡ true → prefix_len plain (hops ++ flat_map part_words more) ≡ length hops
hops_end [] [] h = refl
hops_end [] (part ∷ more) h = refl
hops_end (w ∷ hops) more h =
    let both = and_parts (plain w) (list_all plain hops) h in
    let later = hops_end hops more both.1 in
    let one : 1 + prefix_len plain (hops ++ flat_map part_words more) ≡ suc (length hops) = omega (arith, later) in
    ap (λ b. cond b (1 + prefix_len plain (hops ++ flat_map part_words more)) 0) both.0 ∙ one

take_front : (xs ys : List Name) → take (length xs) (xs ++ ys) ≡ xs
take_front [] ys = refl
take_front (x ∷ xs) ys = ap (λ (t : List Name). x ∷ t) (take_front xs ys)

drop_front : (xs ys : List Name) → drop (length xs) (xs ++ ys) ≡ ys
drop_front [] ys = refl
drop_front (x ∷ xs) ys = drop_front xs ys

take_drop : (n : ℕ) (xs : List Name) → take n xs ++ drop n xs ≡ xs
take_drop zero xs = refl
take_drop (suc n) [] = refl
take_drop (suc n) (x ∷ xs) = ap (λ (t : List Name). x ∷ t) (take_drop n xs)

-- the words before the first mark are none
front_plain : (ws : List Name) → list_all plain (take (prefix_len plain ws) ws) ≡ true
front_plain [] = refl
front_plain (w ∷ ws) = by (plain w) refl (front_plain ws)
  where
    by : (b : Bool) → plain w ≡ b → list_all plain (take (prefix_len plain ws) ws) ≡ true → list_all plain (take (cond b (1 + prefix_len plain ws) 0) (w ∷ ws)) ≡ true
    by true e later =
        let one : 1 + prefix_len plain ws ≡ suc (prefix_len plain ws) = omega arith in
        rw one (and_from (plain w) (list_all plain (take (prefix_len plain ws) ws)) e later)
    by false e later = refl

mark_same : (m n : ℕ) → m ≤ MAX_NUMBER → n ≤ MAX_NUMBER → mark m ≡ mark n → m ≡ n
mark_same m n hm hn e = decimal_injective m n (omega (arith, hm)) (omega (arith, hn)) (cc e)

-- these parts are spelled, and then this rest; and whatever parts all the words spell begin with these
pub record AreReadTo (words : List Name) (parts : List PartText) (rest : List Name) : Type 0 where
  pub whole : words ≡ flat_map part_words parts ++ rest
  pub each : list_all is_part_text parts ≡ true
  pub marks : are_plain parts ≡ true
  pub only : (others : List PartText) → AreParts words others → (more : List PartText) × (others ≡ parts ++ more) × (rest ≡ flat_map part_words more)

pub read_none : (words : List Name) → AreReadTo words [] words
read_none words = record { whole = refl; each = refl; marks = refl; only = λ others are. (others, refl, sym are.words_are) }

-- what is true of each part of a list is true of each after a front
behind_front : (test : PartText → Bool) (xs ys zs : List PartText) → zs ≡ xs ++ ys → list_all test zs ≡ true → list_all test ys ≡ true
behind_front test xs ys zs e h = (and_parts (list_all test xs) (list_all test ys) (sym (list_all-append test xs ys) ∙ ap (list_all test) (sym e) ∙ h)).1

plain_parts : (parts : List PartText) → fits_version Two parts ≡ true → are_plain parts ≡ true
plain_parts parts h = (and_parts (nat_le (length parts) MAX_SEGMENTS) (are_plain parts) (and_parts (nat_le 1 (length parts)) (nat_le (length parts) MAX_SEGMENTS && are_plain parts) h).1).1

-- words begin with one part
begins_same : (ws : List Name) (a b : PartText) (r q : List Name) → BeginsWith ws a r → BeginsWith ws b q → (a ≡ b) × (r ≡ q)
begins_same ws a b r q h k =
    let whole : mark a.epoch ∷ h.tail ≡ mark b.epoch ∷ k.tail = sym h.whole ∙ k.whole in
    let marks : mark a.epoch ≡ mark b.epoch = cc whole in
    let tails : h.tail ≡ k.tail = cc whole in
    let epoch : a.epoch ≡ b.epoch = mark_same a.epoch b.epoch h.epoch k.epoch marks in
    let hops : a.hops ≡ b.hops = h.hops ∙ ap (λ (t : List Name). take (prefix_len plain t) t) tails ∙ sym k.hops in
    (λ i. record { epoch = epoch i; hops = hops i }, h.rest_is ∙ ap (λ (t : List Name). drop (prefix_len plain t) t) tails ∙ sym k.rest_is)

-- the words of parts begin with the first
parts_begin : (part : PartText) (more : List PartText) → part.epoch ≤ MAX_NUMBER → 0 < length part.hops → list_all plain part.hops ≡ true → BeginsWith (flat_map part_words (part ∷ more)) part (flat_map part_words more)
parts_begin part more small some hops =
    let count : prefix_len plain (part.hops ++ flat_map part_words more) ≡ length part.hops = hops_end part.hops more hops in
    record {
      tail = part.hops ++ flat_map part_words more;
      whole = refl;
      epoch = small;
      some = some;
      hops = sym (ap (λ n. take n (part.hops ++ flat_map part_words more)) count ∙ take_front part.hops (flat_map part_words more));
      rest_is = sym (ap (λ n. drop n (part.hops ++ flat_map part_words more)) count ∙ drop_front part.hops (flat_map part_words more));
    }

module _ (words : List Name) (parts : List PartText) (ws : List Name) (left : 0 < length ws) (read : AreReadTo words parts ws) where
  -- the next part, whatever parts the words spell
  record NextIs (others : List PartText) : Type 0 where
    part : PartText
    more : List PartText
    all : others ≡ parts ++ part ∷ more
    begins : BeginsWith ws part (flat_map part_words more)

  next_is : (others : List PartText) → AreParts words others → NextIs others
  next_is others are = let found = read.only others are in by found.0 found.1 found.2
    where
      by : (more : List PartText) → others ≡ parts ++ more → ws ≡ flat_map part_words more → NextIs others
      by [] all e = absurd (omega (arith, left, ap length e))
      by (part ∷ more) all e =
          let each = behind_front is_part_text parts (part ∷ more) others all are.each in
          let marks = behind_front (λ p. list_all plain p.hops) parts (part ∷ more) others all (plain_parts others are.version) in
          let is = part_is part (and_parts (is_part_text part) (list_all is_part_text more) each).0 in
          record {
            part = part;
            more = more;
            all = all;
            begins = subst (λ (t : List Name). BeginsWith t part (flat_map part_words more)) (sym e) (parts_begin part more is.epoch is.some (and_parts (list_all plain part.hops) (are_plain more) marks).0);
          }

  pub no_part : BeginsWithNone ws → AreNoParts words
  no_part none others are = let next = next_is others are in none next.part (flat_map part_words next.more) next.begins

  module _ (part : PartText) (rest : List Name) (begins : BeginsWith ws part rest) where
    next_only : (others : List PartText) → AreParts words others → (more : List PartText) × (others ≡ (parts ++ part ∷ []) ++ more) × (rest ≡ flat_map part_words more)
    next_only others are =
        let next = next_is others are in
        let same = begins_same ws next.part part (flat_map part_words next.more) rest next.begins begins in
        (next.more, next.all ∙ ap (λ (p : PartText). parts ++ p ∷ next.more) same.0 ∙ sym (append_assoc parts (part ∷ []) next.more), sym same.1)

    pub read_part : AreReadTo words (parts ++ part ∷ []) rest
    read_part =
        let n = prefix_len plain begins.tail in
        let split : part.hops ++ rest ≡ begins.tail = ap (λ (t : List Name). t ++ rest) begins.hops ∙ ap (λ (t : List Name). take (prefix_len plain begins.tail) begins.tail ++ t) begins.rest_is ∙ take_drop (prefix_len plain begins.tail) begins.tail in
        let shown : ws ≡ part_words part ++ rest = begins.whole ∙ ap (λ (t : List Name). mark part.epoch ∷ t) (sym split) in
        let pushed : flat_map part_words (parts ++ part ∷ []) ≡ flat_map part_words parts ++ part_words part = flat_map-append part_words parts (part ∷ []) ∙ ap (λ (t : List Name). flat_map part_words parts ++ t) (append-nil (part_words part)) in
        record {
          whole = read.whole ∙ ap (λ (t : List Name). flat_map part_words parts ++ t) shown ∙ sym (append_assoc (flat_map part_words parts) (part_words part) rest) ∙ ap (λ (t : List Name). t ++ rest) (sym pushed);
          each = list_all-append is_part_text parts (part ∷ []) ∙ and_from (list_all is_part_text parts) (list_all is_part_text (part ∷ [])) read.each (and_from (is_part_text part) true (is_part part begins.epoch begins.some) refl);
          marks = list_all-append (λ p. list_all plain p.hops) parts (part ∷ []) ∙ and_from (are_plain parts) (are_plain (part ∷ [])) read.marks
              (and_from (list_all plain part.hops) true (ap (list_all plain) begins.hops ∙ front_plain begins.tail) refl);
          only = next_only;
        }

module _ (words : List Name) (parts : List PartText) (read : AreReadTo words parts []) where
  pub all_read : 1 ≤ length parts → length parts ≤ MAX_SEGMENTS → AreParts words parts
  all_read some few = record {
    words_are = sym (read.whole ∙ append-nil (flat_map part_words parts));
    each = read.each;
    version = and_from (nat_le 1 (length parts)) (nat_le (length parts) MAX_SEGMENTS && are_plain parts) (le-leb 1 (length parts) some) (and_from (nat_le (length parts) MAX_SEGMENTS) (are_plain parts) (le-leb (length parts) MAX_SEGMENTS few) read.marks);
  }

  -- as many parts as the words spell
  counted : (others : List PartText) → AreParts words others → length others ≡ length parts
  counted others are = let found = read.only others are in by found.0 found.1 found.2
    where
      by : (more : List PartText) → others ≡ parts ++ more → [] ≡ flat_map part_words more → length others ≡ length parts
      by [] all e = ap length (all ∙ append-nil parts)
      by (part ∷ more) all e = absurd (cc e)

  pub not_so_many : (length parts ≡ 0) → AreNoParts words
  not_so_many none others are =
      let some : 1 ≤ length others = leb-true 1 (length others) (and_parts (nat_le 1 (length others)) (nat_le (length others) MAX_SEGMENTS && are_plain others) are.version).0 in
      omega (arith, some, counted others are, none)

  pub too_many : MAX_SEGMENTS < length parts → AreNoParts words
  too_many many others are =
      let few : length others ≤ MAX_SEGMENTS = leb-true (length others) MAX_SEGMENTS (and_parts (nat_le (length others) MAX_SEGMENTS) (are_plain others) (and_parts (nat_le 1 (length others)) (nat_le (length others) MAX_SEGMENTS && are_plain others) are.version).1).0 in
      omega (arith, few, counted others are, many)

-- ---- what the code holds

texts_take : (n : ℕ) (ws : List (Bor (List ℕ))) → texts (take n ws) ≡ take n (texts ws)
texts_take zero ws = refl
texts_take (suc n) [] = refl
texts_take (suc n) (w ∷ ws) = ap (λ (t : List Name). w.now ∷ t) (texts_take n ws)

texts_drop : (n : ℕ) (ws : List (Bor (List ℕ))) → texts (drop n ws) ≡ drop n (texts ws)
texts_drop zero ws = refl
texts_drop (suc n) [] = refl
texts_drop (suc n) (w ∷ ws) = texts_drop n ws

pub no_texts : (ws : List (Bor (List ℕ))) → length ws ≡ 0 → texts ws ≡ []
no_texts [] h = refl
no_texts (w ∷ ws) h = absurd (omega (arith, h))

pub some_texts : (ws : List (Bor (List ℕ))) → 0 < length ws → 0 < length (texts ws)
some_texts ws h = omega (arith, h, length-map ws (λ w. w.now))

pub first_begins : (words tail : List (Bor (List ℕ))) (w : Bor (List ℕ)) (epoch n : ℕ) → words ≡ w ∷ tail → epoch ≤ MAX_NUMBER → mark epoch ≡ w.now → n ≡ prefix_len plain (texts tail) → n ≤ length tail → 0 < n
    → (hops : List (Bor (List ℕ))) → hops ≡ take n tail → BeginsWith (texts words) (record { epoch = epoch; hops = texts hops }) (texts (drop (n + 1) words))
first_begins words tail w epoch n whole small first count within some hops hops_are =
    let same : texts hops ≡ take n (texts tail) = ap texts hops_are ∙ texts_take n tail in
    let one : n + 1 ≡ suc n = omega arith in
    let behind : texts (drop (n + 1) words) ≡ drop n (texts tail) = ap (λ k. texts (drop k words)) one ∙ ap (λ (ws : List (Bor (List ℕ))). texts (drop (suc n) ws)) whole ∙ texts_drop n tail in
    record {
      tail = texts tail;
      whole = ap texts whole ∙ ap (λ (x : Name). x ∷ texts tail) (sym first);
      epoch = small;
      some = (let long : length (take n (texts tail)) ≡ n = length-take-le n (texts tail) (omega (arith, within, length-map tail (λ w. w.now))) in omega (arith, some, long, ap length same));
      hops = same ∙ ap (λ k. take k (texts tail)) count;
      rest_is = behind ∙ ap (λ k. drop k (texts tail)) count;
    }

pub segments_more : (words rest left : List (Bor (List ℕ))) (segments items : List SegmentSpelling) (segment : SegmentSpelling) (used : ℕ) → items ≡ segments ++ segment ∷ [] → 0 < length rest
    → AreReadTo (texts words) (map part_held segments) (texts rest) → BeginsWith (texts rest) (part_held segment) (texts (drop used rest)) → left ≡ drop used rest
    → AreReadTo (texts words) (map part_held items) (texts left)
segments_more words rest left segments items segment used pushed some read begins behind =
    let held : map part_held items ≡ map part_held segments ++ part_held segment ∷ [] = ap (map part_held) pushed ∙ map-append part_held segments (segment ∷ []) in
    let P : List Name → Type 0 = λ ws. AreReadTo (texts words) (map part_held items) ws in
    let Q : List PartText → Type 0 = λ ps. AreReadTo (texts words) ps (texts (drop used rest)) in
    subst P (sym (ap texts behind)) (subst Q (sym held) (read_part (texts words) (map part_held segments) (texts rest) (some_texts rest some) read (part_held segment) (texts (drop used rest)) begins))

-- a first word, and the words after it
pub head_tail : (words : List (Bor (List ℕ))) (d : Bor (List ℕ)) → 1 ≤ length words → words ≡ get_or words 0 d ∷ take (length words - 1) (drop 1 words)
head_tail [] d h = absurd (omega arith)
head_tail (w ∷ ws) d h = ap (λ (t : List (Bor (List ℕ))). w ∷ t) (sym (take_rest (w ∷ ws) 1))

-- words are those of one list of parts
same_from : (n : ℕ) (words : List Name) (parts others : List PartText) → length parts ≤ n → list_all is_part_text parts ≡ true → are_plain parts ≡ true → list_all is_part_text others ≡ true → are_plain others ≡ true
    → flat_map part_words parts ≡ flat_map part_words others → parts ≡ others
same_from n words [] [] le a b c d e = refl
same_from n words [] (q ∷ others) le a b c d e = absurd (cc e)
same_from n words (p ∷ parts) [] le a b c d e = absurd (cc e)
same_from zero words (p ∷ parts) (q ∷ others) le a b c d e = absurd (omega arith)
same_from (suc n) words (p ∷ parts) (q ∷ others) le a b c d e =
    let pa = and_parts (is_part_text p) (list_all is_part_text parts) a in
    let pb = and_parts (list_all plain p.hops) (are_plain parts) b in
    let qc = and_parts (is_part_text q) (list_all is_part_text others) c in
    let qd = and_parts (list_all plain q.hops) (are_plain others) d in
    let P : List Name → Type 0 = λ ws. BeginsWith ws q (flat_map part_words others) in
    let same = begins_same (flat_map part_words (p ∷ parts)) p q (flat_map part_words parts) (flat_map part_words others)
    (parts_begin p parts (part_is p pa.0).epoch (part_is p pa.0).some pb.0) (subst P (sym e) (parts_begin q others (part_is q qc.0).epoch (part_is q qc.0).some qd.0)) in
    let tails = same_from n words parts others (omega arith) pa.1 pb.1 qc.1 qd.1 same.1 in
    let head : p ≡ q = same.0 in
    cc (head, tails)

pub all_same : (words : List Name) (parts others : List PartText) → AreParts words parts → AreParts words others → parts ≡ others
all_same words parts others are are' =
    same_from (length parts) words parts others (omega arith) are.each (plain_parts parts are.version) are'.each (plain_parts others are'.version) (are.words_are ∙ sym are'.words_are)

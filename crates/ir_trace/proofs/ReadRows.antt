-- The words of a row are words, and a line says one row.
use Rattle.std.proofs.Common.{◌≡◌, ◌<◌, ◌≤◌, ◌&&◌, ℕ, true, List, [], ◌∷◌, ◌++◌, length, flat_map, decimal, nat_le, refl, sym, ap, ◌∙◌, arith}
use Rattle.std.specs.List.{list_all}
use Rattle.std.specs.Int.{IsInRange}
use Rattle.std.specs.Str.Parse.{AllDigits}
use Rattle.std.proofs.lemmas.Bool.{and_parts, and_from, le-leb}
use Rattle.std.proofs.lemmas.List.{append-nil}
use Rattle.std.proofs.lemmas.List.Folds.{list_all-append}
use Rattle.std.proofs.lemmas.Fmt.{decimal_is_IsNumeral, decimal_nonempty}
use Rattle.std.proofs.lemmas.Str.Parse.{digit_from_value}
use Rattle.ir_model.specs.Graph.{Name}
use Rattle.ir_trace.specs.declared.TheConstants.{MAX_NUMBER}
use Rattle.ir_trace.specs.declared.row.Version.{Version}
use Rattle.ir_trace.specs.declared.row.Version.TheVariants.{One, Two}
use Rattle.ir_trace.specs.Rows.{FateText, Delivered, Retired, Down, Full, Left, PartText, RowText, IsRowText, row_words, part_words, first_part, mark, fate_words, fate_names, hop_names, is_word, is_part_text}
use Rattle.ir_trace.specs.Spelled.{HasWords, HasNoWords, SpellsNothing}
use Rattle.ir_trace.specs.Line.{LineSays}
use Rattle.ir_trace.proofs.ReadSpellings.{first_word, words_behind, one_part, part_is, first_is}
use Rattle.ir_trace.proofs.ReadLines.{is_word_byte, is_space, split-joined}
use Rattle.std.specs.List.{slice_split}

digit_bytes : (ds : List ℕ) → AllDigits 10 ds → list_all is_word_byte ds ≡ true
digit_bytes [] h = refl
digit_bytes (d ∷ ds) h =
    let in_range : IsInRange 48 57 d = digit_from_value d h.0 in
    and_from (is_word_byte d) (list_all is_word_byte ds) (and_from (nat_le 33 d) (nat_le d 126) (le-leb 33 d (omega (arith, in_range))) (le-leb d 126 (omega (arith, in_range)))) (digit_bytes ds h.1)

pub decimal_word : (n : ℕ) → n ≤ MAX_NUMBER → is_word (decimal n) ≡ true
decimal_word n h =
    and_from (nat_le 1 (length (decimal n))) (list_all is_word_byte (decimal n)) (le-leb 1 (length (decimal n)) (omega (arith, decimal_nonempty n (omega arith))))
    (digit_bytes (decimal n) (decimal_is_IsNumeral n (omega arith)).0.1)

-- a mark is a word
mark_word : (n : ℕ) → n ≤ MAX_NUMBER → is_word (mark n) ≡ true
mark_word n h = let all = (and_parts (nat_le 1 (length (decimal n))) (list_all is_word_byte (decimal n)) (decimal_word n h)).1 in
    and_from (nat_le 1 (length (mark n))) (list_all is_word_byte (mark n)) (le-leb 1 (length (mark n)) (omega arith)) (and_from (is_word_byte 35) (list_all is_word_byte (decimal n)) refl all)

parts_words : (parts : List PartText) → list_all is_part_text parts ≡ true → list_all is_word (hop_names parts) ≡ true → list_all is_word (flat_map part_words parts) ≡ true
parts_words [] each h = refl
parts_words (part ∷ parts) each h =
    let some = and_parts (is_part_text part) (list_all is_part_text parts) each in
    let both = and_parts (list_all is_word part.hops) (list_all is_word (hop_names parts)) (sym (list_all-append is_word part.hops (hop_names parts)) ∙ h) in
    and_from (is_word (mark part.epoch)) (list_all is_word (part.hops ++ flat_map part_words parts)) (mark_word part.epoch (part_is part some.0).epoch)
    (list_all-append is_word part.hops (flat_map part_words parts) ∙ and_from (list_all is_word part.hops) (list_all is_word (flat_map part_words parts)) both.0 (parts_words parts some.1 both.1))

fate_names_tail : (fate : FateText) (hops : List Name) → list_all is_word (fate_names fate ++ hops) ≡ true → list_all is_word hops ≡ true
fate_names_tail Delivered hops h = h
fate_names_tail Retired hops h = h
fate_names_tail (Down x y) hops h = words_behind y hops (words_behind x (y ∷ hops) h)
fate_names_tail (Full x y) hops h = words_behind y hops (words_behind x (y ∷ hops) h)
fate_names_tail Left hops h = h

-- other words after a fate
fate_other : (fate : FateText) (hops rest : List Name) → list_all is_word (fate_names fate ++ hops) ≡ true → list_all is_word rest ≡ true → list_all is_word (fate_words fate ++ rest) ≡ true
fate_other Delivered hops rest h k = k
fate_other Retired hops rest h k = k
fate_other (Down x y) hops rest h k = and_from (is_word x) (is_word y && list_all is_word rest) (first_word x (y ∷ hops) h) (and_from (is_word y) (list_all is_word rest) (first_word y hops (words_behind x (y ∷ hops) h)) k)
fate_other (Full x y) hops rest h k = and_from (is_word x) (is_word y && list_all is_word rest) (first_word x (y ∷ hops) h) (and_from (is_word y) (list_all is_word rest) (first_word y hops (words_behind x (y ∷ hops) h)) k)
fate_other Left hops rest h k = k

-- each word of a row is a word
pub row_words_all : (v : Version) (text : RowText) → IsRowText v text → list_all is_word (row_words v text) ≡ true
row_words_all One text is =
    let hops = hop_names text.parts in
    let own : hop_names text.parts ≡ (first_part text.parts).hops = ap hop_names (one_part text.parts is.version) ∙ append-nil (first_part text.parts).hops in
    let rest = fate_words text.fate ++ (first_part text.parts).hops in
    let tail = fate_names text.fate ++ hops in
    let from_dest = words_behind text.source (text.dest ∷ tail) is.words in
    let names = words_behind text.dest tail from_dest in
    let behind = fate_other text.fate hops (first_part text.parts).hops names (ap (list_all is_word) (sym own) ∙ fate_names_tail text.fate hops names) in
    and_from (is_word (decimal text.id)) (list_all is_word (decimal (first_part text.parts).epoch ∷ text.source ∷ text.dest ∷ decimal text.weight ∷ rest)) (decimal_word text.id is.id)
    (and_from (is_word (decimal (first_part text.parts).epoch)) (list_all is_word (text.source ∷ text.dest ∷ decimal text.weight ∷ rest)) (decimal_word (first_part text.parts).epoch (first_is text is).epoch)
    (and_from (is_word text.source) (list_all is_word (text.dest ∷ decimal text.weight ∷ rest)) (first_word text.source (text.dest ∷ tail) is.words)
    (and_from (is_word text.dest) (list_all is_word (decimal text.weight ∷ rest)) (first_word text.dest tail from_dest)
    (and_from (is_word (decimal text.weight)) (list_all is_word rest) (decimal_word text.weight is.weight) behind))))
row_words_all Two text is =
    let hops = hop_names text.parts in
    let rest = fate_words text.fate ++ flat_map part_words text.parts in
    let tail = fate_names text.fate ++ hops in
    let from_dest = words_behind text.source (text.dest ∷ tail) is.words in
    let names = words_behind text.dest tail from_dest in
    let behind = fate_other text.fate hops (flat_map part_words text.parts) names (parts_words text.parts is.parts (fate_names_tail text.fate hops names)) in
    and_from (is_word (decimal text.id)) (list_all is_word (text.source ∷ text.dest ∷ decimal text.weight ∷ rest)) (decimal_word text.id is.id)
    (and_from (is_word text.source) (list_all is_word (text.dest ∷ decimal text.weight ∷ rest)) (first_word text.source (text.dest ∷ tail) is.words)
    (and_from (is_word text.dest) (list_all is_word (decimal text.weight ∷ rest)) (first_word text.dest tail from_dest)
    (and_from (is_word (decimal text.weight)) (list_all is_word rest) (decimal_word text.weight is.weight) behind)))

pub says_words : (v : Version) (line : List ℕ) (text : RowText) → LineSays v line text → HasWords line (row_words v text)
says_words v line text is = record { some = some v; whole = is.words_are; each = row_words_all v text is.text_is }
  where
    some : (v : Version) → 0 < length (row_words v text)
    some One = omega arith
    some Two = omega arith

-- a line that is no words says no row
pub no_words_no_row : (v : Version) (line : List ℕ) → HasNoWords line → (text : RowText) → LineSays v line text → ⊥
no_words_no_row v line other text is = other (row_words v text) (says_words v line text is)

-- a line has one list of words
pub words_same : (line : List ℕ) (words more : List Name) → HasWords line words → HasWords line more → words ≡ more
words_same line words more are are_more =
    sym (split-joined words are.some are.each) ∙ ap (slice_split is_space) (sym are.whole ∙ are_more.whole) ∙ split-joined more are_more.some are_more.each

-- a line whose words spell no row says none
pub nothing_no_row : (v : Version) (line : List ℕ) (words : List Name) → HasWords line words → SpellsNothing v words → (text : RowText) → LineSays v line text → ⊥
nothing_no_row v line words are nothing text is = nothing text (record { text_is = is.text_is; words_are = words_same line (row_words v text) words (says_words v line text is) are })

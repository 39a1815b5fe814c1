-- Rows of names that are written are read again.
use Rattle.std.proofs.Common.{◌≡◌, ◌<◌, ◌≤◌, ◌+◌, ◌*◌, ◌-◌, ◌^◌, ℕ, Bool, true, false, not, cond, ◌||◌, ◌&&◌, List, [], ◌∷◌, ◌++◌, map, filter, flat_map, fold, length, take, drop, Some, None, refl, ap, ◌∙◌, arith, rules, ◌==◌, nat_le, append_assoc, append-nil, take_all, decimal}
use Rattle.std.specs.List.{list_all, prefix_len}
use Rattle.std.proofs.lemmas.List.{drop_all}
use Rattle.std.proofs.lemmas.List.Folds.{list_all-append}
use Rattle.std.proofs.lemmas.Bool.{and_parts, and_from, leb-true, le-leb}
use Rattle.std.proofs.lemmas.Bool.Decides.{nat_tests}
use Rattle.std.proofs.lemmas.Str.Parse.{IsNumeralModel, numerals_by_fold}
use Rattle.std.proofs.lemmas.Fmt.{digits_decimal, digits_value-decimal, decimal_nonempty, length-decimal-le}
use Rattle.ir_model.specs.declared.TheConstants.{MAX_NAME_BYTES, MAX_WEIGHT}
use Rattle.ir_model.specs.Graph.{Name, is_name, is_name_byte, is_weight}
use Rattle.ir_model.specs.Text.{lines, pieces, onto_first, is_blank, is_plain, is_empty, content, words_of, words}
use Rattle.ir_model.specs.Edgelist.{is_digit, value_of, is_zero_fraction, whole, fraction, spelled_weight}
use Rattle.ir_adjlist.specs.Written.{row_text}
use Rattle.ir_adjlist.specs.Writing.{spaced_words}
use Rattle.ir_adjlist.proofs.Names.{list_all-imp}
use Rattle.ir_model.proofs.Pieces.{not-false-true}

module _ {X : Type 0} where
  pub prefix_all : (p : X → Bool) (xs : List X) → list_all p xs ≡ true → prefix_len p xs ≡ length xs
  prefix_all p [] h = refl
  prefix_all p (x ∷ xs) h = let a = and_parts (p x) (list_all p xs) h in ap (λ t. cond t (1 + prefix_len p xs) 0) a.0 ∙ omega (arith, prefix_all p xs a.1)

  pub filter_all : (p : X → Bool) (xs : List X) → list_all p xs ≡ true → filter p xs ≡ xs
  filter_all p [] h = refl
  filter_all p (x ∷ xs) h = let a = and_parts (p x) (list_all p xs) h in ap (λ t. cond t (x ∷ filter p xs) (filter p xs)) a.0 ∙ ap (λ t. x ∷ t) (filter_all p xs a.1)

-- ---- bytes

-- a byte of a row of names
abbrev is_row_byte : ℕ → Bool
is_row_byte b = b == 32 || is_name_byte b

name_row_byte : (b : ℕ) → is_name_byte b ≡ true → is_row_byte b ≡ true
name_row_byte b h = by (b == 32) h
  where
    by : (t : Bool) → is_name_byte b ≡ true → (t || is_name_byte b) ≡ true
    by true h = refl
    by false h = h

row_byte_plain : (b : ℕ) → is_row_byte b ≡ true → is_plain b ≡ true
row_byte_plain b h = grind (arith, nat_tests)

row_byte_no_feed : (b : ℕ) → is_row_byte b ≡ true → not (b == 10) ≡ true
row_byte_no_feed b h = grind (arith, nat_tests)

row_byte_no_comment : (b : ℕ) → is_row_byte b ≡ true → not (b == 35) ≡ true
row_byte_no_comment b h = grind (arith, nat_tests)

name_byte_no_blank : (b : ℕ) → is_name_byte b ≡ true → not (is_blank b) ≡ true
name_byte_no_blank b h = grind (arith, nat_tests)

digit_name_byte : (b : ℕ) → is_digit b ≡ true → is_name_byte b ≡ true
digit_name_byte b h = grind (arith, nat_tests)

digit_no_point : (b : ℕ) → is_digit b ≡ true → not (b == 46) ≡ true
digit_no_point b h = grind (arith, nat_tests)

-- ---- a weight in digits

numerals : IsNumeralModel (λ ds. list_all is_digit ds ≡ true) value_of
numerals = numerals_by_fold _ (search rules) (λ n ds. fold (λ v d. v * 10 + (d - 48)) n ds) (search rules)

whole_is : (word : Name) → list_all (λ b. not (b == 46)) word ≡ true → whole word ≡ word
whole_is word h = ap (λ n. take n word) (prefix_all (λ b. not (b == 46)) word h) ∙ take_all (length word) word (omega arith)

fraction_is : (word : Name) → list_all (λ b. not (b == 46)) word ≡ true → fraction word ≡ []
fraction_is word h = ap (λ n. drop n word) (prefix_all (λ b. not (b == 46)) word h) ∙ drop_all (length word) word (omega arith)

filled : (ds : List ℕ) → 0 < length ds → not (is_empty ds) ≡ true
filled [] h = absurd (omega arith)
filled (d ∷ ds) h = refl

weight_in-digits : (ds : List ℕ) → list_all is_digit ds ≡ true → 0 < length ds → is_weight (value_of ds) ≡ true → spelled_weight ds ≡ Some (value_of ds)
weight_in-digits ds digits some weight =
    let pure : list_all (λ b. not (b == 46)) ds ≡ true = list_all-imp is_digit (λ b. not (b == 46)) digit_no_point ds digits in
    ap (λ w. cond (not (is_empty w) && list_all is_digit w && is_zero_fraction (fraction ds) && is_weight (value_of w)) (Some (value_of w)) None) (whole_is ds pure)
    ∙ ap (λ f. cond (not (is_empty ds) && list_all is_digit ds && is_zero_fraction f && is_weight (value_of ds)) (Some (value_of ds)) None) (fraction_is ds pure)
    ∙ ap (λ b. cond b (Some (value_of ds)) None) (and_from _ _ (and_from _ _ (and_from _ _ (filled ds some) digits) refl) weight)

module _ (w : ℕ) (h : is_weight w ≡ true) where
  small : w < 65536
  small = let a = and_parts (nat_le 1 w) (nat_le w MAX_WEIGHT) h in let le : w ≤ MAX_WEIGHT = leb-true w MAX_WEIGHT a.1 in omega arith

  wide : w < 2 ^ 64
  wide = let s = small in omega arith

  digits_of_weight : list_all is_digit (decimal w) ≡ true
  digits_of_weight = digits_decimal numerals w wide

  -- a weight that is written is read again
  pub weight_in-decimal : spelled_weight (decimal w) ≡ Some w
  weight_in-decimal =
      let value : value_of (decimal w) ≡ w = digits_value-decimal numerals w wide in
      weight_in-digits (decimal w) digits_of_weight (decimal_nonempty w wide) (ap is_weight value ∙ h) ∙ ap (λ v. Some v) value

  pub decimal_is_name : is_name (decimal w) ≡ true
  decimal_is_name =
      let s = small in
      let some : 0 < length (decimal w) = decimal_nonempty w wide in
      let few : length (decimal w) ≤ 5 = length-decimal-le 5 w (omega arith) (omega arith) wide in
      and_from _ _ (and_from _ _ (le-leb 1 (length (decimal w)) (omega arith)) (le-leb (length (decimal w)) MAX_NAME_BYTES (omega arith))) (list_all-imp is_digit is_name_byte digit_name_byte (decimal w) digits_of_weight)

-- ---- the words of a row

pieces_word : (w rest : List ℕ) → list_all (λ b. not (is_blank b)) w ≡ true → pieces is_blank (w ++ 32 ∷ rest) ≡ w ∷ pieces is_blank rest
pieces_word [] rest h = refl
pieces_word (b ∷ w) rest h =
    let a = and_parts (not (is_blank b)) (list_all (λ b. not (is_blank b)) w) h in
    ap (λ t. cond t ([] ∷ pieces is_blank (w ++ 32 ∷ rest)) (onto_first b (pieces is_blank (w ++ 32 ∷ rest)))) (not-false-true (is_blank b) a.0) ∙ ap (onto_first b) (pieces_word w rest a.1)

pieces_last : (w : List ℕ) → list_all (λ b. not (is_blank b)) w ≡ true → pieces is_blank w ≡ w ∷ []
pieces_last [] h = refl
pieces_last (b ∷ w) h =
    let a = and_parts (not (is_blank b)) (list_all (λ b. not (is_blank b)) w) h in
    ap (λ t. cond t ([] ∷ pieces is_blank w) (onto_first b (pieces is_blank w))) (not-false-true (is_blank b) a.0) ∙ ap (onto_first b) (pieces_last w a.1)

name_bytes : (x : Name) → is_name x ≡ true → list_all is_name_byte x ≡ true
name_bytes x h = (and_parts (nat_le 1 (length x) && nat_le (length x) MAX_NAME_BYTES) (list_all is_name_byte x) h).1

pub name_len : (x : Name) → is_name x ≡ true → nat_le (length x) MAX_NAME_BYTES ≡ true
name_len x h = (and_parts (nat_le 1 (length x)) (nat_le (length x) MAX_NAME_BYTES) (and_parts (nat_le 1 (length x) && nat_le (length x) MAX_NAME_BYTES) (list_all is_name_byte x) h).0).1

name_filled : (x : Name) → is_name x ≡ true → not (is_empty x) ≡ true
name_filled [] h = cc
name_filled (b ∷ x) h = refl

no_blank : (x : Name) → is_name x ≡ true → list_all (λ b. not (is_blank b)) x ≡ true
no_blank x h = list_all-imp is_name_byte (λ b. not (is_blank b)) name_byte_no_blank x (name_bytes x h)

pieces_row : (x : Name) (ys : List Name) → is_name x ≡ true → list_all is_name ys ≡ true → pieces is_blank (x ++ spaced_words ys) ≡ x ∷ ys
pieces_row x [] hx hs = ap (pieces is_blank) (append-nil x) ∙ pieces_last x (no_blank x hx)
pieces_row x (y ∷ ys) hx hs =
    let a = and_parts (is_name y) (list_all is_name ys) hs in
    pieces_word x (y ++ spaced_words ys) (no_blank x hx) ∙ ap (λ t. x ∷ t) (pieces_row y ys a.0 a.1)

-- a row's bytes
name_row : (x : Name) → is_name x ≡ true → list_all is_row_byte x ≡ true
name_row x h = list_all-imp is_name_byte is_row_byte name_row_byte x (name_bytes x h)

spaced_row : (ys : List Name) → list_all is_name ys ≡ true → list_all is_row_byte (spaced_words ys) ≡ true
spaced_row [] h = refl
spaced_row (y ∷ ys) h =
    let a = and_parts (is_name y) (list_all is_name ys) h in
    list_all-append is_row_byte y (spaced_words ys) ∙ and_from _ _ (name_row y a.0) (spaced_row ys a.1)

module _ (x : Name) (ys : List Name) (hx : is_name x ≡ true) (hs : list_all is_name ys ≡ true) where
  row_bytes : list_all is_row_byte (x ++ spaced_words ys) ≡ true
  row_bytes = list_all-append is_row_byte x (spaced_words ys) ∙ and_from _ _ (name_row x hx) (spaced_row ys hs)

  row_content : content (x ++ spaced_words ys) ≡ x ++ spaced_words ys
  row_content =
      ap (λ n. take n (x ++ spaced_words ys)) (prefix_all (λ b. not (b == 35)) (x ++ spaced_words ys) (list_all-imp is_row_byte (λ b. not (b == 35)) row_byte_no_comment (x ++ spaced_words ys) row_bytes))
      ∙ take_all (length (x ++ spaced_words ys)) (x ++ spaced_words ys) (omega arith)

  pub row_plain : list_all is_plain (content (x ++ spaced_words ys)) ≡ true
  row_plain = ap (list_all is_plain) row_content ∙ list_all-imp is_row_byte is_plain row_byte_plain (x ++ spaced_words ys) row_bytes

  pub row_words : words (x ++ spaced_words ys) ≡ x ∷ ys
  row_words =
      ap words_of row_content ∙ ap (filter (λ w. not (is_empty w))) (pieces_row x ys hx hs)
      ∙ filter_all (λ w. not (is_empty w)) (x ∷ ys) (and_from _ _ (name_filled x hx) (list_all-imp is_name (λ w. not (is_empty w)) name_filled ys hs))

-- ---- the lines of rows

-- a row: its first word, and the others
abbrev pub Row : Type 0
Row = Name × List Name

abbrev pub is_row_of_names : Row → Bool
is_row_of_names r = is_name r.0 && list_all is_name r.1

abbrev pub line_of : Row → List ℕ
line_of r = r.0 ++ spaced_words r.1

abbrev pub text_of : List Row → List ℕ
text_of rows = flat_map (λ r. row_text r.0 r.1) rows

lines_row : (l rest : List ℕ) → list_all (λ b. not (b == 10)) l ≡ true → lines (l ++ 10 ∷ rest) ≡ l ∷ lines rest
lines_row [] rest h = refl
lines_row (b ∷ l) rest h =
    let a = and_parts (not (b == 10)) (list_all (λ b. not (b == 10)) l) h in
    ap (λ t. cond t ([] ∷ lines (l ++ 10 ∷ rest)) (onto_first b (lines (l ++ 10 ∷ rest)))) (not-false-true (b == 10) a.0) ∙ ap (onto_first b) (lines_row l rest a.1)

pub lines_of_rows : (rows : List Row) → list_all is_row_of_names rows ≡ true → lines (text_of rows) ≡ map line_of rows
lines_of_rows [] h = refl
lines_of_rows (r ∷ rows) h =
    let a = and_parts (is_row_of_names r) (list_all is_row_of_names rows) h in
    let n = and_parts (is_name r.0) (list_all is_name r.1) a.0 in
    ap lines (append_assoc (line_of r) (10 ∷ []) (text_of rows))
    ∙ lines_row (line_of r) (text_of rows) (list_all-imp is_row_byte (λ b. not (b == 10)) row_byte_no_feed (line_of r) (row_bytes r.0 r.1 n.0 n.1))
    ∙ ap (λ t. line_of r ∷ t) (lines_of_rows rows a.1)

-- Lines and the words in them.
use Rattle.std.proofs.Common.{◌≡◌, ◌<◌, ◌≤◌, ℕ, Bool, true, false, ◌&&◌, ◌==◌, List, [], ◌∷◌, length, nat_le, nat_lt, refl, sym, ap, ◌∙◌, arith}
use Rattle.std.specs.List.{list_all, slice_split, join_with_byte, All}
use Rattle.std.specs.Borrow.{Bor}
use Rattle.std.specs.Str.{IsUtf8, IsAscii}
use Rattle.std.proofs.lemmas.Bool.{and_parts, and_from, leb-true, lt-ltb, ltb-true, ne_eqb, both_ways}
use Rattle.std.proofs.lemmas.List.Elements.{All-cons, All-nil}
use Rattle.std.proofs.lemmas.List.Folds.{list_all-append, list_all-map}
use Rattle.std.proofs.lemmas.List.Splits.{slice_split_none, slice_split_at, join_with_byte-slice_split, length-slice_split}
use Rattle.std.proofs.lemmas.Str.{IsUtf8-from_ascii}
use Rattle.std.proofs.lemmas.Str.Ascii.{IsAscii-cons, IsAscii-nil}
use Rattle.ir_model.specs.Graph.{Name}
use Rattle.ir_trace.specs.Rows.{is_word}
use Rattle.ir_trace.specs.Spelled.{texts, HasWords, HasNoWords}
use Rattle.ir_trace.proofs.ReadSpellings.{first_word, words_behind}

abbrev pub is_word_byte : ℕ → Bool
is_word_byte b = nat_le 33 b && nat_le b 126

pub word_bytes : (w : Name) → is_word w ≡ true → list_all is_word_byte w ≡ true
word_bytes w h = (and_parts (nat_le 1 (length w)) (list_all is_word_byte w) h).1

-- what holds of each byte of a word and of a space holds of the whole line
module _ (p : ℕ → Bool) (inside : (b : ℕ) → is_word_byte b ≡ true → p b ≡ true) where
  pub word_all : (w : Name) → list_all is_word_byte w ≡ true → list_all p w ≡ true
  word_all [] h = refl
  word_all (b ∷ bs) h =
      let both = and_parts (is_word_byte b) (list_all is_word_byte bs) h in
      and_from (p b) (list_all p bs) (inside b both.0) (word_all bs both.1)

  module _ (between : p 32 ≡ true) where
    pub joined_all : (ws : List Name) → list_all is_word ws ≡ true → list_all p (join_with_byte 32 ws) ≡ true
    joined_all [] h = refl
    joined_all (w ∷ []) h = word_all w (word_bytes w (first_word w [] h))
    joined_all (w ∷ v ∷ vs) h =
        list_all-append p w (32 ∷ join_with_byte 32 (v ∷ vs))
        ∙ and_from (list_all p w) _ (word_all w (word_bytes w (first_word w (v ∷ vs) h))) (and_from (p 32) _ between (joined_all (v ∷ vs) (words_behind w (v ∷ vs) h)))

-- ---- spaces

abbrev pub is_space : ℕ → Bool
is_space b = b == 32

no_space : (w : Name) → list_all is_word_byte w ≡ true → All (λ b. is_space b ≡ false) w
no_space [] h = All-nil (λ b. is_space b ≡ false)
no_space (b ∷ bs) h =
    let both = and_parts (is_word_byte b) (list_all is_word_byte bs) h in
    let above : 33 ≤ b = leb-true 33 b (and_parts (nat_le 33 b) (nat_le b 126) both.0).0 in
    All-cons (λ b. is_space b ≡ false) b bs (ne_eqb b 32 (λ e. omega (arith, e))) (no_space bs both.1)

pub split-joined : (ws : List Name) → 0 < length ws → list_all is_word ws ≡ true → slice_split is_space (join_with_byte 32 ws) ≡ ws
split-joined [] some h = absurd (omega arith)
split-joined (w ∷ []) some h = slice_split_none is_space w (no_space w (word_bytes w (first_word w [] h)))
split-joined (w ∷ v ∷ vs) some h =
    slice_split_at is_space w 32 (join_with_byte 32 (v ∷ vs)) (no_space w (word_bytes w (first_word w (v ∷ vs) h))) refl
    ∙ ap (λ t. w ∷ t) (split-joined (v ∷ vs) (omega arith) (words_behind w (v ∷ vs) h))

-- ---- bytes

ascii : (bs : List ℕ) → list_all (λ b. nat_lt b 128) bs ≡ true → IsAscii bs
ascii [] h = IsAscii-nil
ascii (b ∷ bs) h =
    let both = and_parts (nat_lt b 128) (list_all (λ b. nat_lt b 128) bs) h in
    IsAscii-cons b bs (ltb-true b 128 both.0) (ascii bs both.1)

pub joined_utf8 : (ws : List Name) → list_all is_word ws ≡ true → IsUtf8 (join_with_byte 32 ws)
joined_utf8 ws h = IsUtf8-from_ascii (join_with_byte 32 ws) (ascii (join_with_byte 32 ws) (joined_all (λ b. nat_lt b 128) (λ b k. lt-ltb b 128 (omega (arith, leb-true b 126 (and_parts (nat_le 33 b) (nat_le b 126) k).1))) refl ws h))

-- ---- the words that the code finds

pub found_words : (line text : List ℕ) (words held : List (Bor (List ℕ))) (all : Bool) → text ≡ line → texts words ≡ slice_split is_space text → held ≡ words → all ≡ list_all (λ word. is_word word.now) held
    → (all ≡ true → HasWords line (texts words)) × (all ≡ false → HasNoWords line)
found_words line text words held all same cut held_is test = (yes, other)
  where
    tested : all ≡ list_all is_word (texts words)
    tested = test ∙ ap (list_all (λ word. is_word word.now)) held_is ∙ sym (list_all-map is_word (λ (w : Bor (List ℕ)). w.now) words)

    yes : all ≡ true → HasWords line (texts words)
    yes e = record { some = omega (arith, ap length cut, length-slice_split is_space text); whole = sym (ap (join_with_byte 32) cut ∙ join_with_byte-slice_split 32 text ∙ same); each = sym tested ∙ e }

    other : all ≡ false → HasNoWords line
    other e ws is =
        let are : texts words ≡ ws = cut ∙ ap (slice_split is_space) (same ∙ is.whole) ∙ split-joined ws is.some is.each in
        both_ways all e (tested ∙ ap (list_all is_word) are ∙ is.each)

-- One more word of a text.
use Rattle.std.proofs.Common.{◌≡◌, ℕ, ◌+◌, ◌<◌, List, [], ◌∷◌, ◌++◌, length, get_or, take, drop, flat_map, sym, ap, ◌∙◌}
use Rattle.std.proofs.lemmas.List.{append_assoc, at_drop_more, flat_map_more, take_more}
use Rattle.ir_lines.specs.Texts.{word_text, word_end, text_from, word_bytes}

pub text_more : (text words : List ℕ) (place : ℕ) (now all : List ℕ) → place < length words
    → now ≡ text ++ word_text (get_or words place 0) ++ word_end place → text ++ text_from place (drop place words) ≡ all
    → now ++ text_from (place + 1) (drop (place + 1) words) ≡ all
text_more text words place now all l e h =
    let w = word_text (get_or words place 0) in
    let n = word_end place in
    let rest = text_from (place + 1) (drop (place + 1) words) in
    let step : text_from place (drop place words) ≡ w ++ n ++ rest = at_drop_more (text_from place) words place 0 l in
    ap (λ (t : List ℕ). t ++ rest) e
    ∙ append_assoc (text ++ w) n rest
    ∙ append_assoc text w (n ++ rest)
    ∙ ap (λ (t : List ℕ). text ++ t) (sym (append_assoc w n rest) ∙ sym step)
    ∙ h

pub bytes_more : (bytes words : List ℕ) (place : ℕ) → place < length words → bytes ≡ flat_map word_bytes (take place words)
    → bytes ++ word_bytes (get_or words place 0) ≡ flat_map word_bytes (take (place + 1) words)
bytes_more bytes words place l h =
    let w = get_or words place 0 in
    ap (λ (b : List ℕ). b ++ word_bytes w) h ∙ flat_map_more word_bytes [] (take place words) w ∙ ap (flat_map word_bytes) (sym (take_more words place 0 l))

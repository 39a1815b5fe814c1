-- The labels and ports that words say, by place.
use Rattle.std.proofs.Common.{◌≡◌, ℕ, ◌/◌, ◌%◌, ◌<◌, List, length, get_or, ap, ◌∙◌, sym, arith}
use Rattle.std.proofs.lemmas.List.{get_or-map, length-map, get_or_read}
use Rattle.ir_model.specs.Row.{Start, labels, start_ports}
use Rattle.ir_model.proofs.Rows.{no_start}
use Rattle.ir_lookup.specs.Words.{start_of, starts_of}
use Rattle.ir_lookup.specs.declared.TheConstants.{WORD_BASE}

pub label_of_word : (words : List ℕ) (i : ℕ) → i < length words → get_or (labels (starts_of words)) i 0 ≡ get_or words i 0 / WORD_BASE
label_of_word words i h =
    let l = length-map words start_of in
    get_or-map (λ (s : Start). s.label) (starts_of words) i no_start 0 (omega arith) ∙ ap (λ (s : Start). s.label) (get_or-map start_of words i 0 no_start h)

pub port_of_word : (words : List ℕ) (i : ℕ) → i < length words → get_or (start_ports (starts_of words)) i 0 ≡ get_or words i 0 % WORD_BASE
port_of_word words i h =
    let l = length-map words start_of in
    get_or-map (λ (s : Start). s.port) (starts_of words) i no_start 0 (omega arith) ∙ ap (λ (s : Start). s.port) (get_or-map start_of words i 0 no_start h)

-- what a word that was read says of the row
pub label_read : (words : List ℕ) (row : List Start) (i word : ℕ) → starts_of words ≡ row → i < length row → word ≡ get_or words i word → word / WORD_BASE ≡ get_or (labels row) i 0
label_read words row i word is inside read =
    let l = length-map words start_of in
    let below : i < length words = omega (arith, ap length is) in
    ap (λ (w : ℕ). w / WORD_BASE) (get_or_read words i word below read 0) ∙ sym (label_of_word words i below) ∙ ap (λ (r : List Start). get_or (labels r) i 0) is

pub port_read : (words : List ℕ) (row : List Start) (i word : ℕ) → starts_of words ≡ row → i < length row → word ≡ get_or words i word → word % WORD_BASE ≡ get_or (start_ports row) i 0
port_read words row i word is inside read =
    let l = length-map words start_of in
    let below : i < length words = omega (arith, ap length is) in
    ap (λ (w : ℕ). w % WORD_BASE) (get_or_read words i word below read 0) ∙ sym (port_of_word words i below) ∙ ap (λ (r : List Start). get_or (start_ports r) i 0) is

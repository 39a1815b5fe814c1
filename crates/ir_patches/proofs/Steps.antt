-- The words of what is removed and put, step by step.
use Rattle.std.proofs.Common.{◌≡◌, ◌<◌, ◌≤◌, ◌+◌, ◌∙◌, ℕ, List, [], ◌∷◌, ◌++◌, length, take, drop, get_or, refl, sym, ap, append_assoc, flat_map}
use Rattle.std.proofs.lemmas.Bool.{lt-ltb, le-ltb}
use Rattle.std.proofs.lemmas.List.{append-nil, take_more, drop_more, drop_all}
use Rattle.std.proofs.lemmas.Grind.{flat_map-append}
use Rattle.ir_diff.specs.declared.changes.Lead.{Lead}
use Rattle.ir_model.specs.Graph.{Name}
use Rattle.ir_trace.specs.Rows.{spaced}
use Rattle.ir_trace.proofs.WrittenRows.{join_spaced}
use Rattle.ir_show.specs.Words.{line_text}
use Rattle.ir_patches.specs.DiffText.{put_below, put_from, put_words, removed_words, step_words}

-- no lead, to stand past the end
abbrev pub no_lead : Lead
no_lead = record { start = 0; node = 0 }

-- one more of a list
pub words_more : {X : Type 0} (words : X → List (List ℕ)) (xs : List X) (i : ℕ) (d : X) → i < length xs
    → flat_map spaced (flat_map words (take i xs)) ++ flat_map spaced (words (get_or xs i d)) ≡ flat_map spaced (flat_map words (take (i + 1) xs))
words_more words xs i d h =
    sym (flat_map-append spaced (flat_map words (take i xs)) (words (get_or xs i d)))
    ∙ ap (flat_map spaced)
    (ap (λ t. flat_map words (take i xs) ++ t) (sym (append-nil (words (get_or xs i d))))
    ∙ sym (flat_map-append words (take i xs) (get_or xs i d ∷ []))
    ∙ ap (flat_map words) (sym (take_more xs i d h)))

-- ---- what is put below a start

pub below_on : (start : ℕ) (put : List Lead) (i : ℕ) → i < length put → (get_or put i no_lead).start < start → put_below start (drop i put) ≡ get_or put i no_lead ∷ put_below start (drop (i + 1) put)
below_on start put i within below = ap (put_below start) (drop_more put i no_lead within) ∙ rw (lt-ltb (get_or put i no_lead).start start below) refl

pub from_on : (start : ℕ) (put : List Lead) (i : ℕ) → i < length put → (get_or put i no_lead).start < start → put_from start (drop i put) ≡ put_from start (drop (i + 1) put)
from_on start put i within below = ap (put_from start) (drop_more put i no_lead within) ∙ rw (lt-ltb (get_or put i no_lead).start start below) refl

-- the next one is not below it
pub below_stops : (start : ℕ) (put : List Lead) (i : ℕ) → i < length put → start ≤ (get_or put i no_lead).start → (put_below start (drop i put) ≡ []) × (put_from start (drop i put) ≡ drop i put)
below_stops start put i within above = (
  ap (put_below start) (drop_more put i no_lead within) ∙ rw (le-ltb (get_or put i no_lead).start start above) refl,
  ap (put_from start) (drop_more put i no_lead within) ∙ rw (le-ltb (get_or put i no_lead).start start above) (sym (drop_more put i no_lead within)),
)

-- there is no next one
pub below_ends : (start : ℕ) (put : List Lead) (i : ℕ) → length put ≤ i → (put_below start (drop i put) ≡ []) × (put_from start (drop i put) ≡ drop i put)
below_ends start put i past =
    let none : drop i put ≡ [] = drop_all i put past in
    (ap (put_below start) none, ap (put_from start) none ∙ sym none)

-- what is written and the words that are left make the whole
pub below_written : (nodes : List Name) (start : ℕ) (put : List Lead) (i : ℕ) (text more whole : List ℕ) → i < length put → (get_or put i no_lead).start < start
    → text ++ flat_map spaced (flat_map (put_words nodes) (put_below start (drop i put))) ≡ whole → more ≡ text ++ flat_map spaced (put_words nodes (get_or put i no_lead))
    → more ++ flat_map spaced (flat_map (put_words nodes) (put_below start (drop (i + 1) put))) ≡ whole
below_written nodes start put i text more whole within below so_far written =
    let lead = get_or put i no_lead in
    let rest = flat_map (put_words nodes) (put_below start (drop (i + 1) put)) in
    ap (λ t. t ++ flat_map spaced rest) written
    ∙ append_assoc text (flat_map spaced (put_words nodes lead)) (flat_map spaced rest)
    ∙ ap (λ t. text ++ t) (sym (flat_map-append spaced (put_words nodes lead) rest))
    ∙ ap (λ (ls : List Lead). text ++ flat_map spaced (flat_map (put_words nodes) ls)) (sym (below_on start put i within below))
    ∙ so_far

-- ---- a removed start, with what is put below it

pub steps_on : (nodes : List Name) (removed : List ℕ) (k start : ℕ) (put rest : List Lead) (text middle more whole : List ℕ) → k < length removed → get_or removed k 0 ≡ start
    → text ++ flat_map spaced (step_words nodes (drop k removed) put) ≡ whole → middle ≡ text ++ flat_map spaced (flat_map (put_words nodes) (put_below start put))
    → more ≡ middle ++ flat_map spaced (removed_words start) → rest ≡ put_from start put
    → more ++ flat_map spaced (step_words nodes (drop (k + 1) removed) rest) ≡ whole
steps_on nodes removed k start put rest text middle more whole within here so_far first second rest_is =
    let fs = flat_map spaced in
    let a = flat_map (put_words nodes) (put_below start put) in
    let b = removed_words start in
    let c = step_words nodes (drop (k + 1) removed) (put_from start put) in
    let all : step_words nodes (drop k removed) put ≡ a ++ (b ++ c) =
    ap (λ (rs : List ℕ). step_words nodes rs put) (drop_more removed k 0 within) ∙ ap (λ (s : ℕ). step_words nodes (s ∷ drop (k + 1) removed) put) here in
    let parts : fs (a ++ (b ++ c)) ≡ fs a ++ (fs b ++ fs c) = flat_map-append spaced a (b ++ c) ∙ ap (λ t. fs a ++ t) (flat_map-append spaced b c) in
    ap (λ (ls : List Lead). more ++ fs (step_words nodes (drop (k + 1) removed) ls)) rest_is
    ∙ ap (λ t. t ++ fs c) (second ∙ ap (λ t. t ++ fs b) first)
    ∙ append_assoc (text ++ fs a) (fs b) (fs c)
    ∙ append_assoc text (fs a) (fs b ++ fs c)
    ∙ ap (λ t. text ++ t) (sym parts)
    ∙ ap (λ ws. text ++ fs ws) (sym all)
    ∙ so_far

-- no removed start is left
pub steps_end : (nodes : List Name) (removed : List ℕ) (k : ℕ) (put : List Lead) → length removed ≤ k → step_words nodes (drop k removed) put ≡ flat_map (put_words nodes) put
steps_end nodes removed k put past = ap (λ (rs : List ℕ). step_words nodes rs put) (drop_all k removed past)

-- ---- lines

pub change_line_of : (name a b : List ℕ) (rest : List (List ℕ)) → (((name ++ spaced a) ++ spaced b) ++ flat_map spaced rest) ++ 10 ∷ [] ≡ line_text (name ∷ a ∷ b ∷ rest)
change_line_of name a b rest =
    ap (λ t. t ++ 10 ∷ [])
    (append_assoc (name ++ spaced a) (spaced b) (flat_map spaced rest) ∙ append_assoc name (spaced a) (spaced b ++ flat_map spaced rest) ∙ sym (join_spaced name (a ∷ b ∷ rest)))

pub regroup : (old name a b s e : List ℕ) → ((((old ++ name) ++ a) ++ b) ++ s) ++ e ≡ old ++ ((((name ++ a) ++ b) ++ s) ++ e)
regroup old name a b s e = simp append_assoc

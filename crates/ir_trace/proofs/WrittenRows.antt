-- The text of rows.
use Rattle.std.proofs.Common.{◌≡◌, ℕ, ◌<◌, ◌≤◌, true, List, [], ◌∷◌, ◌++◌, length, flat_map, decimal, nat_lt, Result, Ok, Err, OnOk, is_ok, if◌then◌else◌, arith, ap, sym, subst, ◌∙◌, refl, append_assoc, ⊎_elim}
use Rattle.std.specs.List.{list_all, join_with_byte}
use Rattle.std.proofs.lemmas.Bool.{lt-ltb, cases_lt}
use Rattle.std.proofs.lemmas.List.{append-nil, get_or_past}
use Rattle.std.proofs.lemmas.Option.{slice_get_within}
use Rattle.std.proofs.lemmas.Grind.{flat_map-append}
use Rattle.ir_model.specs.Topology.{Topology, node_count, ports_of}
use Rattle.ir_model.specs.Graph.{Name}
use Rattle.ir_model.specs.Walk.{Linked, LeadsTo, IsWalk, walk_weight}
use Rattle.ir_core.specs.Record.{Record}
use Rattle.ir_trace.specs.Rows.{spaced, fate_words}
use Rattle.ir_trace.specs.Written.{name_at, fate_text}

-- a node with a port is a node
linked_within : (net : Topology) (u v : ℕ) → Linked net u v → u < node_count net
linked_within net u v step =
    let some : step.0 < length (ports_of net u) = slice_get_within (ports_of net u) step.0 step.1 step.2 in
    ⊎_elim (λ (lt : u < node_count net). lt)
    (λ (ge : node_count net ≤ u). let none : ports_of net u ≡ [] = get_or_past net.ports u [] ge in absurd (omega (arith, some, ap length none)))
    (cases_lt u (node_count net))

leads_within : (net : Topology) (u d : ℕ) (rest : List ℕ) → LeadsTo net u d rest → list_all (λ x. nat_lt x (node_count net)) (u ∷ rest) ≡ true
leads_within net u d [] way =
    let within : u < node_count net = omega (arith, way.0, way.1) in rw (lt-ltb u (node_count net) within) refl
leads_within net u d (v ∷ rest) way =
    rw (lt-ltb u (node_count net) (linked_within net u v way.0)) (leads_within net v d rest way.1)

-- each node of a walk is a node
pub walk_within : (net : Topology) (u d : ℕ) (hops : List ℕ) → IsWalk net u d hops → list_all (λ x. nat_lt x (node_count net)) hops ≡ true
walk_within net u d [] walk = absurd walk
walk_within net u d (x ∷ rest) walk =
    let P : ℕ → Type 0 = λ y. list_all (λ z. nat_lt z (node_count net)) (y ∷ rest) ≡ true in
    subst P (sym walk.0) (leads_within net u d rest walk.1)

-- words with one space between: the first, and each other after a space
pub join_spaced : (w : List ℕ) (ws : List (List ℕ)) → join_with_byte 32 (w ∷ ws) ≡ w ++ flat_map spaced ws
join_spaced w [] = sym (append-nil w)
join_spaced w (v ∷ vs) = ap (λ t. w ++ 32 ∷ t) (join_spaced v vs)

-- what is written last ends the whole
pub ended : {T E : Type 0} (r : Result T E) (t0 t1 piece whole : List ℕ) → t1 ≡ (if is_ok r then t0 ++ piece else t0) → t0 ++ piece ≡ whole → OnOk r (t1 ≡ whole)
ended (Ok v) t0 t1 piece whole e same = e ∙ same
ended (Err x) t0 t1 piece whole e same = tt

pieces_of_way : (old a b c d : List ℕ) → (((old ++ a) ++ b) ++ c) ++ d ≡ old ++ (a ++ (b ++ (c ++ d)))
pieces_of_way old a b c d = simp append_assoc

-- the words of a way, put one after another
pub way_pieces : (old a b c : List ℕ) (fate : List (List ℕ)) → (((old ++ spaced a) ++ spaced b) ++ spaced c) ++ flat_map spaced fate ≡ old ++ flat_map spaced (a ∷ b ∷ c ∷ fate)
way_pieces old a b c fate = pieces_of_way old (spaced a) (spaced b) (spaced c) (flat_map spaced fate)

pieces : (old a b c d e : List ℕ) → ((((old ++ a) ++ b) ++ c) ++ d) ++ e ≡ old ++ ((a ++ (b ++ (c ++ d))) ++ e)
pieces old a b c d e = simp append_assoc

-- the words of a row, put one after another
pub row_pieces : (old a b : List ℕ) (way hops : List (List ℕ)) (h : List ℕ)
    → ((((old ++ a) ++ spaced b) ++ flat_map spaced way) ++ flat_map spaced hops) ++ h ≡ old ++ (join_with_byte 32 (a ∷ b ∷ way ++ hops) ++ h)
row_pieces old a b way hops h =
    pieces old a (spaced b) (flat_map spaced way) (flat_map spaced hops) h
    ∙ ap (λ t. old ++ ((a ++ (spaced b ++ t)) ++ h)) (sym (flat_map-append spaced way hops))
    ∙ ap (λ t. old ++ (t ++ h)) (sym (join_spaced a (b ∷ way ++ hops)))

pieces_2 : (old a b c d : List ℕ) → (((old ++ a) ++ b) ++ c) ++ d ≡ old ++ ((a ++ (b ++ c)) ++ d)
pieces_2 old a b c d = simp append_assoc

-- the words of a row of the second version, put one after another
pub segments_pieces : (old a : List ℕ) (way parts : List (List ℕ)) (h : List ℕ)
    → (((old ++ a) ++ flat_map spaced way) ++ flat_map spaced parts) ++ h ≡ old ++ (join_with_byte 32 (a ∷ way ++ parts) ++ h)
segments_pieces old a way parts h =
    pieces_2 old a (flat_map spaced way) (flat_map spaced parts) h
    ∙ ap (λ t. old ++ ((a ++ t) ++ h)) (sym (flat_map-append spaced way parts))
    ∙ ap (λ t. old ++ (t ++ h)) (sym (join_spaced a (way ++ parts)))

-- the words of the ends, the weight and the fate of a record
abbrev pub way_words : List Name → Topology → Record → List (List ℕ)
way_words nodes net r = name_at nodes r.source ∷ name_at nodes r.dest ∷ decimal (walk_weight net r.hops) ∷ fate_words (fate_text nodes net r.fate)

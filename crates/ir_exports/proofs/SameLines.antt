-- Two texts of the tables of one plan have as many lines.
use Rattle.std.proofs.Common.{◌≡◌, ℕ, suc, ◌<◌, ◌≤◌, Bool, true, false, List, [], ◌∷◌, length, map, refl, sym, ap, subst, ◌∙◌, arith}
use Rattle.std.specs.Prelude.{slice_index_or}
use Rattle.ir_model.specs.Graph.{Name}
use Rattle.ir_model.specs.Topology.{node_count}
use Rattle.ir_model.specs.Plan.{Plan}
use Rattle.ir_prefix.proofs.Final.{same_width}
use Rattle.ir_prefix.specs.declared.line.TableLine.{TableLine}
use Rattle.ir_exports.specs.PrefixesText.{IsPrefixesOf, prefixes_text}
use Rattle.ir_exports.specs.Tables.{AreLinesOf, AreTablesOf}

few_enough : (is_disjoint : Bool) (s : Plan) (bits u : ℕ) (a b : List TableLine) → AreLinesOf is_disjoint s bits u a → AreLinesOf is_disjoint s bits u b → length a ≤ length b
few_enough false s bits u a b x y = x.fewest b y.forwards
few_enough true s bits u a b x y = x.fewest b y.disjoint

-- lists whose places have lists of equal lengths
same_lengths : (a b : List (List TableLine)) → length a ≡ length b → ((k : ℕ) → k < length a → length (slice_index_or a k []) ≡ length (slice_index_or b k [])) → map length a ≡ map length b
same_lengths [] [] e same = refl
same_lengths [] (y ∷ ys) e same = absurd (omega (arith, e))
same_lengths (x ∷ xs) [] e same = absurd (omega (arith, e))
same_lengths (x ∷ xs) (y ∷ ys) e same =
    let first : length x ≡ length y = same 0 (omega arith) in
    let rest : map length xs ≡ map length ys = same_lengths xs ys (omega (arith, e)) (λ k h. same (suc k) (omega (arith, h))) in
    ap (λ (n : ℕ). n ∷ map length xs) first ∙ ap (λ (ns : List ℕ). length y ∷ ns) rest

pub same_text : (is_disjoint : Bool) (nodes : List Name) (s : Plan) (text other : List ℕ) (a : IsPrefixesOf is_disjoint nodes s text) (b : IsPrefixesOf is_disjoint nodes s other)
    → (a.bits ≡ b.bits) × (map length a.tables ≡ map length b.tables) × (a.tables ≡ b.tables → text ≡ other)
same_text is_disjoint nodes s text other a b =
    let bits : a.bits ≡ b.bits = same_width (node_count s.topology) a.bits b.bits a.are.width b.are.width in
    let every : length a.tables ≡ length b.tables = a.are.every ∙ sym b.are.every in
    let C : ℕ → Type 0 = λ k. AreTablesOf is_disjoint s k b.tables in
    let there : AreTablesOf is_disjoint s a.bits b.tables = subst C (sym bits) b.are in
    let alike : (k : ℕ) → k < length a.tables → length (slice_index_or a.tables k []) ≡ length (slice_index_or b.tables k []) = λ k h.
    let k_in : k < node_count s.topology = omega (arith, h, a.are.every) in
    let x = a.are.each k k_in in
    let y = there.each k k_in in
    omega (arith, few_enough is_disjoint s a.bits k _ _ x y, few_enough is_disjoint s a.bits k _ _ y x) in
    (bits, same_lengths a.tables b.tables every alike, λ same. a.whole ∙ ap (λ (k : ℕ). prefixes_text nodes s k a.tables) bits ∙ ap (prefixes_text nodes s b.bits) same ∙ sym b.whole)

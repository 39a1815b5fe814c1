-- The numbers that one network has for the nodes of another, and the first node that it has not.
use Rattle.std.proofs.Common.{◌≡◌, ◌<◌, ◌≤◌, ℕ, zero, suc, Bool, true, false, List, [], ◌∷◌, length, Option, Some, None, ◌⊎◌, inl, inr, not, get_or, refl, arith, bytes_eq, unwrap_or}
use Rattle.std.specs.List.{position, position_or_len}
use Rattle.std.proofs.lemmas.Bool.{cases_lt, lt-ltb, le-ltb}
use Rattle.std.proofs.lemmas.List.{length-map}
use Rattle.std.proofs.lemmas.List.Sums.{fails_before_first, list_all-from_AllPass, position_or_len_is}
use Rattle.std.proofs.lemmas.List.Quantifiers.{position-Some}
use Rattle.ir_model.specs.Graph.{Adjacency, Name, names}
use Rattle.ir_model.proofs.Pieces.{not-true-false}
use Rattle.ir_patches.specs.Nodes.{are_there, first_other, is_there, number_named, numbers_in}

-- the first place that passes
pub position_is : {X : Type 0} (p : X → Bool) (xs : List X) (i : ℕ) (d : X) → i < length xs → ((k : ℕ) → k < i → p (get_or xs k d) ≡ false) → p (get_or xs i d) ≡ true → position p xs ≡ Some i
position_is p xs i d within none at =
    let len : position_or_len p xs ≡ i = position_or_len_is p xs i d (omega arith) none (λ _. at) in
    rw (len, lt-ltb i (length xs) within) refl

-- none passes
pub position_none : {X : Type 0} (p : X → Bool) (xs : List X) (i : ℕ) (d : X) → length xs ≤ i → ((k : ℕ) → k < i → p (get_or xs k d) ≡ false) → position p xs ≡ None
position_none p xs i d past none =
    let len : position_or_len p xs ≡ length xs = position_or_len_is p xs (length xs) d (omega arith) (λ k lt. none k (omega arith)) (λ lt. absurd (omega (arith, lt))) in
    rw (len, le-ltb (length xs) (length xs) (omega arith)) refl

-- where none is another one all are there
all_there_by : (others nodes : List Name) → first_other others nodes ≡ None → (position_or_len (λ (name : Name). not (is_there others name)) nodes < length nodes) ⊎ (length nodes ≤ position_or_len (λ (name : Name). not (is_there others name)) nodes)
    → are_there others nodes ≡ true
all_there_by others nodes none (inl lt) =
    let p : Name → Bool = λ name. not (is_there others name) in
    let some : position p nodes ≡ Some (position_or_len p nodes) = rw (lt-ltb (position_or_len p nodes) (length nodes) lt) refl in
    absurd (cc (none, some))
all_there_by others nodes none (inr past) =
    list_all-from_AllPass (is_there others) nodes (λ k d lt. not-true-false (is_there others (get_or nodes k d)) (fails_before_first (λ (name : Name). not (is_there others name)) nodes k d (omega (arith, lt, past))))

pub all_there : (others nodes : List Name) → first_other others nodes ≡ None → are_there others nodes ≡ true
all_there others nodes none = all_there_by others nodes none (cases_lt _ _)

-- ---- numbers

pub names_long : (g : Adjacency) → length (names g) ≡ length g
names_long g = length-map g _

pub numbers_long : (old nodes : List Name) → length (numbers_in old nodes) ≡ length nodes
numbers_long old nodes = length-map nodes (number_named old)

number_by : (old : List Name) (name : Name) (o : Option ℕ) → position (bytes_eq name) old ≡ o → 0 < length old → unwrap_or o 0 < length old
number_by old name None is some = some
number_by old name (Some i) is some = (position-Some (bytes_eq name) old i [] is).0

-- each is a number of a node
pub number_within : (old : List Name) (name : Name) → 0 < length old → number_named old name < length old
number_within old name some = number_by old name (position (bytes_eq name) old) refl some

pub numbers_within : (old nodes : List Name) (v : ℕ) → 0 < length old → get_or (numbers_in old nodes) v 0 < length old
numbers_within old [] v some = some
numbers_within old (x ∷ nodes) zero some = number_within old x some
numbers_within old (x ∷ nodes) (suc v) some = numbers_within old nodes v some

-- Tries that are in a list of nodes.
use Rattle.std.proofs.Common.{◌≡◌, ℕ, ◌+◌, ◌-◌, ◌<◌, ◌≤◌, List, [], ◌++◌, length, get_or, take, drop, refl, ap, sym, ◌∙◌, subst, inl, inr, arith}
use Rattle.std.proofs.Math.ListN.{get_or-append}
use Rattle.std.proofs.Math.Seq.{drop-append_seam, take-append_seam}
use Rattle.std.proofs.lemmas.List.{append_assoc, drop-append-le, take-append-le, length-append, length-drop, append-nil}
use Rattle.std.specs.List.{slice_range}
use Rattle.ir_prefix.specs.Described.{IsFree, IsAlike, IsNodeOfHalves, Trie, Free, Alike, Fork}
use Rattle.ir_prefix.specs.Nodes.{HoldsNode, IsMerged, Stands, Grows}
use Rattle.ir_prefix.specs.declared.trie.TrieNode.{TrieNode}
use Rattle.ir_prefix.specs.declared.trie.TrieNode.TheVariants.{NoPort, OnePort, Several}
use Rattle.ir_prefix.specs.declared.trie.Places.{Places}
use Rattle.ir_prefix.specs.declared.trie.Nodes.{Nodes}

holds_later : (list more : List TrieNode) (place : ℕ) (node : TrieNode) → HoldsNode list place node → HoldsNode (list ++ more) place node
holds_later list more place node h =
    let n = length-append list more in
    (omega (arith, n, h.0), get_or-append list more NoPort place h.0 ∙ h.1)

range_later : (names more : List ℕ) (first end : ℕ) → first ≤ end → end ≤ length names → slice_range (names ++ more) first end ≡ slice_range names first end
range_later names more first end l e =
    let d = drop-append-le first names more (omega arith) in
    let n = length-drop first names in
    ap (λ (xs : List ℕ). take (end - first) xs) d ∙ take-append-le (end - first) (drop first names) more (omega (arith, n))

-- what is in the lists is in longer ones
pub stands_later : (list more : List TrieNode) (names further : List ℕ) (place : ℕ) (t : Trie) → Stands list names place t → Stands (list ++ more) (names ++ further) place t
stands_later list more names further place Free s = holds_later list more place NoPort s
stands_later list more names further place (Alike p) s = holds_later list more place (OnePort p) s
stands_later list more names further place (Fork own l r) s =
    let n = length-append names further in (
      s.0,
      holds_later list more place (Several s.0) s.1,
      s.2,
      omega (arith, n, s.3),
      s.4 ∙ sym (range_later names further s.0.first s.0.end s.2 s.3),
      stands_later list more names further s.0.left l s.5,
      stands_later list more names further s.0.right r s.6,
    )

pub stands_on : (before after : Nodes) → Grows before after → (place : ℕ) (t : Trie) → Stands before.list.items before.names.items place t → Stands after.list.items after.names.items place t
stands_on before after grows place t s =
    subst (λ (xs : List TrieNode). Stands xs after.names.items place t) (sym grows.nodes.1)
    (subst (λ (ys : List ℕ). Stands (before.list.items ++ grows.nodes.0) ys place t) (sym grows.names.1)
    (stands_later before.list.items grows.nodes.0 before.names.items grows.names.0 place t s))

pub grows_twice : (a b c : Nodes) → Grows a b → Grows b c → Grows a c
grows_twice a b c g h = record {
  nodes = (g.nodes.0 ++ h.nodes.0, h.nodes.1 ∙ ap (λ (xs : List TrieNode). xs ++ h.nodes.0) g.nodes.1 ∙ append_assoc a.list.items g.nodes.0 h.nodes.0);
  names = (g.names.0 ++ h.names.0, h.names.1 ∙ ap (λ (xs : List ℕ). xs ++ h.names.0) g.names.1 ∙ append_assoc a.names.items g.names.0 h.names.0);
}

-- a place that a trie is at is one of the list
pub stands_inside : (list : List TrieNode) (names : List ℕ) (place : ℕ) (t : Trie) → Stands list names place t → place < length list
stands_inside list names place Free s = s.0
stands_inside list names place (Alike p) s = s.0
stands_inside list names place (Fork own l r) s = s.1.0

-- the trie by its node
pub stands_free : (list : List TrieNode) (names : List ℕ) (place : ℕ) (t : Trie) → get_or list place NoPort ≡ NoPort → Stands list names place t → t ≡ Free
stands_free list names place Free e s = refl
stands_free list names place (Alike p) e s = let h = s.1 in absurd cc
stands_free list names place (Fork own l r) e s = let h = s.1.1 in absurd cc

pub stands_alike : (list : List TrieNode) (names : List ℕ) (place p : ℕ) (t : Trie) → get_or list place NoPort ≡ OnePort p → Stands list names place t → t ≡ Alike p
stands_alike list names place p Free e s = let h = s.1 in absurd cc
stands_alike list names place p (Alike q) e s = let h = s.1 in cc
stands_alike list names place p (Fork own l r) e s = let h = s.1.1 in absurd cc

-- what the node of several ports says
pub record IsFork (list : List TrieNode) (names : List ℕ) (places : Places) (t : Trie) : Type 0 where
  pub own : List ℕ
  pub left : Trie
  pub right : Trie
  pub is : t ≡ Fork own left right
  pub order : places.first ≤ places.end
  pub inside : places.end ≤ length names
  pub names_are : own ≡ slice_range names places.first places.end
  pub stands_left : Stands list names places.left left
  pub stands_right : Stands list names places.right right

pub stands_fork : (list : List TrieNode) (names : List ℕ) (place : ℕ) (places : Places) (t : Trie) → get_or list place NoPort ≡ Several places → Stands list names place t → IsFork list names places t
stands_fork list names place places Free e s = let h = s.1 in absurd cc
stands_fork list names place places (Alike q) e s = let h = s.1 in absurd cc
stands_fork list names place places (Fork own l r) e s =
    let h = s.1.1 in
    let same : s.0 ≡ places = cc in
    subst (λ (f : Places). IsFork list names f (Fork own l r)) same
    (record { own = own; left = l; right = r; is = refl; order = s.2; inside = s.3; names_are = s.4; stands_left = s.5; stands_right = s.6 })

-- at one place there is one trie
pub one_stands : (list : List TrieNode) (names : List ℕ) (place : ℕ) (t u : Trie) → Stands list names place t → Stands list names place u → t ≡ u
one_stands list names place Free u s v = sym (stands_free list names place u s.1 v)
one_stands list names place (Alike p) u s v = sym (stands_alike list names place p u s.1 v)
one_stands list names place (Fork own l r) u s v =
    let f = stands_fork list names place s.0 u s.1.1 v in
    let a = one_stands list names s.0.left l f.left s.5 f.stands_left in
    let b = one_stands list names s.0.right r f.right s.6 f.stands_right in
    let c : own ≡ f.own = s.4 ∙ sym f.names_are in
    ap (λ (k : List ℕ). Fork k l r) c ∙ ap (λ (x : Trie). Fork f.own x r) a ∙ ap (λ (x : Trie). Fork f.own f.left x) b ∙ sym f.is

pub own_range : (names own : List ℕ) → slice_range (names ++ own) (length names) (length names + length own) ≡ own
own_range names own =
    let e : length names + length own - length names ≡ length own = omega arith in
    let k : take (length own) own ≡ own = ap (λ (xs : List ℕ). take (length own) xs) (sym (append-nil own)) ∙ take-append_seam own [] in
    ap (λ (n : ℕ). take n (drop (length names) (names ++ own))) e ∙ ap (λ (xs : List ℕ). take (length own) xs) (drop-append_seam names own) ∙ k

-- the node of two halves follows them
pub fork_stands : (later : List TrieNode) (names own after : List ℕ) (first end left right place : ℕ) (l r : Trie) → first ≡ length names → end ≡ length after → after ≡ names ++ own
    → HoldsNode later place (Several (record { first = first; end = end; left = left; right = right })) → Stands later after left l → Stands later after right r → Stands later after place (Fork own l r)
fork_stands later names own after first end left right place l r e f whole holds sl sr =
    let n = length-append names own in
    let m : length after ≡ length (names ++ own) = ap (λ (xs : List ℕ). length xs) whole in
    let g : end ≡ length names + length own = f ∙ m ∙ n in
    let range : slice_range after first end ≡ own =
    ap (λ (xs : List ℕ). slice_range xs first end) whole ∙ ap (λ (k : ℕ). slice_range (names ++ own) k end) e ∙ ap (λ (k : ℕ). slice_range (names ++ own) (length names) k) g ∙ own_range names own in
    (record { first = first; end = end; left = left; right = right }, holds, omega (arith, e, g), omega (arith, f), sym range, sl, sr)

-- the node of two halves with no port or one
pub merged_stands : (list later : List TrieNode) (names after : List ℕ) (left right place : ℕ) (a b node : TrieNode) (l r : Trie) → get_or list left NoPort ≡ a → get_or list right NoPort ≡ b → IsMerged a b node
    → Stands list names left l → Stands list names right r → HoldsNode later place node → (t : Trie) × IsNodeOfHalves l r t × Stands later after place t
merged_stands list later names after left right place a b NoPort l r ea eb is sl sr holds =
    let u = stands_free list names left l (ea ∙ is.0) sl in
    let v = stands_free list names right r (eb ∙ is.1) sr in
    (Free, (subst IsFree (sym u) tt, subst IsFree (sym v) tt), holds)
merged_stands list later names after left right place a b (OnePort p) l r ea eb (inl (e, inl f)) sl sr holds =
    let u = stands_alike list names left p l (ea ∙ e) sl in
    let v = stands_free list names right r (eb ∙ f) sr in
    (Alike p, (subst (λ (x : Trie). IsAlike x p) (sym u) refl, subst (λ (x : Trie). IsAlike x p) (sym v) tt, inl u), holds)
merged_stands list later names after left right place a b (OnePort p) l r ea eb (inl (e, inr f)) sl sr holds =
    let u = stands_alike list names left p l (ea ∙ e) sl in
    let v = stands_alike list names right p r (eb ∙ f) sr in
    (Alike p, (subst (λ (x : Trie). IsAlike x p) (sym u) refl, subst (λ (x : Trie). IsAlike x p) (sym v) refl, inl u), holds)
merged_stands list later names after left right place a b (OnePort p) l r ea eb (inr (e, f)) sl sr holds =
    let u = stands_free list names left l (ea ∙ e) sl in
    let v = stands_alike list names right p r (eb ∙ f) sr in
    (Alike p, (subst (λ (x : Trie). IsAlike x p) (sym u) tt, subst (λ (x : Trie). IsAlike x p) (sym v) refl, inr v), holds)
merged_stands list later names after left right place a b (Several f) l r ea eb is sl sr holds = absurd is

-- where no port lies below, the node says so
pub free_stands : (list : List TrieNode) (names : List ℕ) (place : ℕ) (t : Trie) → IsFree t → Stands list names place t → get_or list place NoPort ≡ NoPort
free_stands list names place Free f s = s.1
free_stands list names place (Alike p) f s = absurd f
free_stands list names place (Fork own l r) f s = absurd f

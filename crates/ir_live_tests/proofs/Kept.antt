-- Nodes of a net are its nodes still after one of them turned, was taken away or was brought back.
use Rattle.std.specs.Prelude.{◌≡◌, ℕ, Option, Some, IfSome, Bool, true, false, ◌+◌, ◌<◌, ◌≤◌, ◌==◌, List, [], ◌∷◌, ◌++◌, All, cond, length, sum_by, slice_index_or, slice_set, ltb}
use Rattle.std.specs.List.{remove}
use Rattle.std.proofs.Common.{refl, arith, sym, ap, ◌∙◌, subst, ◌⊎◌, inl, inr, get_or}
use Rattle.std.proofs.lemmas.Bool.{cases_eq, ltb-true, ltb-false}
use Rattle.std.proofs.lemmas.List.Edits.{get_or-remove_below, get_or-remove_above, length-remove}
use Rattle.std.proofs.lemmas.List.Elements.{All-set, All-push}
use Rattle.std.proofs.lemmas.List.Sums.{sum_by-set, sum_by-remove, sum_by_push}
use Rattle.ir_worker.specs.declared.node.Node.{Node}
use Rattle.ir_worker.specs.Same.{IsSameNode}
use Rattle.ir_control.specs.declared.net.Net.{Net}
use Rattle.ir_control.specs.declared.net.Parts.{Parts}
use Rattle.ir_control.specs.Parts.{IsNodeOf, AreNodesOf, node_number}
use Rattle.ir_control.specs.Slots.{hit}
use Rattle.ir_control.proofs.Returned.{node_back}
use Rattle.ir_live_tests.specs.ByHand.{IsAway}
use Rattle.ir_control.proofs.Slotted.{counts_own, counts_no_other}

-- what is true of each stays true of the others
pub all_remove : {X : Type 0} (P : X → Type 0) (xs : List X) (i : ℕ) → i < length xs → All P xs → All P (remove xs i)
all_remove P xs i lt all = λ k d within. go k d within (ltb k i) refl where
  go : (k : ℕ) (d : _) → k < length (remove xs i) → (b : Bool) → ltb k i ≡ b → P (slice_index_or (remove xs i) k d)
  go k d within true e = (let len = length-remove xs i lt in subst P (sym (get_or-remove_below xs i d k (ltb-true k i e) lt)) (all k d (omega (arith, within, len))))
  go k d within false e = (let len = length-remove xs i lt in let below = ltb-false k i e in subst P (sym (get_or-remove_above xs i d k (omega (arith, below)) lt)) (all (k + 1) d (omega (arith, within, len))))

module _ (net : Net) (nodes : List Node) (of : AreNodesOf net nodes) where
  -- a node that is the same but for what it did is at its place
  pub nodes_set : (i : ℕ) (a b : Node) → i < length nodes → a ≡ get_or nodes i a → IsSameNode a b → AreNodesOf net (slice_set nodes i b)
  nodes_set i a b lt read same =
      let was : IsNodeOf net a = subst (λ (n : Node). IsNodeOf net n) (sym read) (of.each i a lt) in
      record {
        each = All-set (λ n. IsNodeOf net n) nodes i b (node_back net a b was same) of.each;
        apart = λ j.
            (let put = sum_by-set (hit node_number j) nodes i b a lt in
            let old : hit node_number j a ≡ hit node_number j (get_or nodes i a) = ap (hit node_number j) read in
            let now : hit node_number j b ≡ hit node_number j a = ap (λ (k : ℕ). cond (k == j) 1 0) same.index in
            let most = of.apart j in
            omega (arith, put, old, now, most));
      }

  pub nodes_remove : (i : ℕ) (d : Node) → i < length nodes → AreNodesOf net (remove nodes i)
  nodes_remove i d lt = record {
    each = all_remove (λ n. IsNodeOf net n) nodes i lt of.each;
    apart = λ j. (let less = sum_by-remove (hit node_number j) nodes i d lt in let most = of.apart j in omega (arith, less, most));
  }

  -- no other node has the number of the one that was taken away
  pub other_numbers : (i : ℕ) (a : Node) → i < length nodes → a ≡ get_or nodes i a → sum_by (hit node_number a.index) (remove nodes i) ≡ 0
  other_numbers i a lt read =
      let less = sum_by-remove (hit node_number a.index) nodes i a lt in
      let own : hit node_number a.index (get_or nodes i a) ≡ 1 = sym (ap (hit node_number a.index) read) ∙ counts_own node_number a a.index refl in
      let most = of.apart a.index in
      omega (arith, less, own, most)

  pub nodes_push : (a : Node) → IsNodeOf net a → sum_by (hit node_number a.index) nodes ≡ 0 → AreNodesOf net (nodes ++ a ∷ [])
  nodes_push a is none = record {
    each = All-push (λ n. IsNodeOf net n) nodes a of.each is;
    apart = λ j. go j (cases_eq a.index j);
  } where
    go : (j : ℕ) → ((a.index ≡ j) ⊎ (a.index ≡ j → ⊥)) → sum_by (hit node_number j) (nodes ++ a ∷ []) ≤ 1
    go j (inl e) =
        let more = sum_by_push (hit node_number j) nodes a in
        let own : hit node_number j a ≡ 1 = counts_own node_number a j e in
        let others : sum_by (hit node_number j) nodes ≡ 0 = ap (λ (k : ℕ). sum_by (hit node_number k) nodes) (sym e) ∙ none in
        omega (arith, more, own, others)
    go j (inr ne) =
        let more = sum_by_push (hit node_number j) nodes a in
        let own : hit node_number j a ≡ 0 = counts_no_other node_number a j ne in
        let most = of.apart j in
        omega (arith, more, own, most)

  -- the same where the node is brought back or is not
  pub nodes_pushed : (a : Node) (b : Bool) (now : List Node) → now ≡ cond b (nodes ++ a ∷ []) nodes → IsNodeOf net a → sum_by (hit node_number a.index) nodes ≡ 0 → AreNodesOf net now
  nodes_pushed a true now e is none = subst (λ (ns : List Node). AreNodesOf net ns) (sym e) (nodes_push a is none)
  nodes_pushed a false now e is none = subst (λ (ns : List Node). AreNodesOf net ns) (sym e) of

pub all_pushed : {X : Type 0} (P : X → Type 0) (xs : List X) (x : X) (b : Bool) (now : List X) → now ≡ cond b (xs ++ x ∷ []) xs → All P xs → P x → All P now
all_pushed {X} P xs x true now e all is = subst (λ (ys : List X). All P ys) (sym e) (All-push P xs x all is)
all_pushed {X} P xs x false now e all is = subst (λ (ys : List X). All P ys) (sym e) all

module _ {B : Type 0} (f : Node → B) (board : B) (nodes : List Node) (i : ℕ) where
  pub board_set : (a b : Node) → i < length nodes → a ≡ get_or nodes i a → f b ≡ f a → All (λ n. f n ≡ board) nodes → All (λ n. f n ≡ board) (slice_set nodes i b)
  board_set a b lt read same all = All-set (λ n. f n ≡ board) nodes i b (same ∙ ap f read ∙ all i a lt) all

  pub boards_left : (now : List Node) → i < length nodes → now ≡ remove nodes i → All (λ n. f n ≡ board) nodes → All (λ n. f n ≡ board) now
  boards_left now lt e all = subst (λ (ns : List Node). All (λ n. f n ≡ board) ns) (sym e) (all_remove (λ n. f n ≡ board) nodes i lt all)

  pub away_board : (a : Node) → i < length nodes → a ≡ get_or nodes i a → All (λ n. f n ≡ board) nodes → f a ≡ board
  away_board a lt read all = ap f read ∙ all i a lt

module _ (net : Net) (nodes : List Node) (of : AreNodesOf net nodes) (i : ℕ) (a : Node) where
  pub nodes_left : (now : List Node) → i < length nodes → now ≡ remove nodes i → AreNodesOf net now
  nodes_left now lt e = subst (λ (ns : List Node). AreNodesOf net ns) (sym e) (nodes_remove net nodes of i a lt)

  pub away_node : i < length nodes → a ≡ get_or nodes i a → IsNodeOf net a
  away_node lt read = subst (λ (n : Node). IsNodeOf net n) (sym read) (of.each i a lt)

  pub away_apart : (now : List Node) → i < length nodes → a ≡ get_or nodes i a → now ≡ remove nodes i → sum_by (hit node_number a.index) now ≡ 0
  away_apart now lt read e = ap (λ (ns : List Node). sum_by (hit node_number a.index) ns) e ∙ other_numbers net nodes of i a lt read

pub if_some : {T : Type 0} (P : T → Type 0) (o : Option T) (x : T) → o ≡ Some x → IfSome o P → P x
if_some P o x e h = subst (λ (o : Option _). IfSome o P) e h

-- a node that is away is so still after it turned
pub away_same : {R : Type 0} (net : Net) (p : Parts R) (a b : Node) → IsAway net p a → IsSameNode a b → IsAway net p b
away_same net p a b away same = record {
  node = node_back net a b away.node same;
  board = same.reader ∙ away.board;
  apart = ap (λ (k : ℕ). sum_by (hit node_number k) p.nodes.items) same.index ∙ away.apart;
}

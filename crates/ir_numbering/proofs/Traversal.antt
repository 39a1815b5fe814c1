-- What a search keeps that has a stack of the places on its way.
use Rattle.std.proofs.Common.{◌≡◌, ◌≢◌, ℕ, zero, suc, ◌<◌, ◌≤◌, List, [], ◌∷◌, ◌++◌, length, get_or, set, replicate, take, refl, ap, sym, ◌∙◌, subst, inl, inr, ◌⊎◌, arith, Bool, true, false}
use Rattle.std.specs.Prelude.{All, AllPairs, Contains, slice_index}
use Rattle.std.specs.Global.{Vec}
use Rattle.std.proofs.lemmas.Bool.{cases_eq, false≢true}
use Rattle.std.proofs.lemmas.List.{length_push, get_or_append_left, get_or_push, take-append-le, take_at, get_or_default, get_or-set_same, get_or-set_other, length-set, length-replicate, get_or-replicate, get_or_read}
use Rattle.std.proofs.lemmas.List.Elements.{Contains-get_or, Contains-append_left, Contains-push, Contains-push_cases, All-push}
use Rattle.std.proofs.lemmas.List.Quantifiers.{all_pairs_push}
use Rattle.ir_model.proofs.Pigeonhole.{length-le_from_places}
use Rattle.ir_model.specs.Topology.{Topology}
use Rattle.ir_model.specs.Numbering.{neighbors_of, IsFirstOutside, NoneOutside, IsNext}
use Rattle.ir_model.specs.Walk.{LeadsTo, IsWalk}
use Rattle.ir_model.specs.Plan.{AreLabels}
use Rattle.ir_numbering.specs.Search.{IsFirstUnmarked, AllMarked, ArePassed, IsClosed}
use Rattle.ir_numbering.specs.Numbering.{IsListing}
use Rattle.ir_numbering.proofs.Neighbors.{neighbor_at}

-- nodes seen so far, the place of each one's parent, and the places on the way from the root to the node where the search is
pub record IsTraversal (adjacent : ℕ → List ℕ) (n root : ℕ) (order parents stack : List ℕ) : Type 0 where
  pub started : 0 < length order
  pub root_first : slice_index order 0 ≡ root
  pub nodes : All (λ v. v < n) order
  pub once : AllPairs (λ u v. u ≢ v) order
  pub parented : length parents ≡ length order
  pub next : (i : ℕ) → 0 < i → i < length order → IsNext adjacent (take i order) (slice_index order i) (slice_index parents i)
  pub rising : (i j : ℕ) → i < j → j < length stack → slice_index stack i < slice_index stack j
  pub places : All (λ k. k < length order) stack
  pub finished : (k : ℕ) → k < length order → (Contains stack k → ⊥) → NoneOutside order (adjacent (slice_index order k))

more_seen : (seen nodes : List ℕ) (x : ℕ) → NoneOutside seen nodes → NoneOutside (seen ++ x ∷ []) nodes
more_seen seen nodes x h k l = Contains-append_left seen (x ∷ []) (get_or nodes k 0) (h k l)

module _ (adjacent : ℕ → List ℕ) (n root : ℕ) (order parents stack : List ℕ) (top : ℕ) (t : IsTraversal adjacent n root order parents (stack ++ top ∷ [])) where
  on_top : (d : ℕ) → get_or (stack ++ top ∷ []) (length stack) d ≡ top
  on_top d = get_or_push stack top d (length stack) refl

  -- the top of the stack is the greatest place on it
  above_top : (k : ℕ) → top < k → Contains (stack ++ top ∷ []) k → ⊥
  above_top k lt w =
      let len = length_push stack top in
      let within = w.1 in
      elim (cases_eq w.0 (length stack)) [
        | inl e ↦ let is : top ≡ k = sym (get_or_push stack top k w.0 (sym e)) ∙ w.2 in omega arith
        | inr ne ↦
            let up = t.rising w.0 (length stack) (omega arith) (omega arith) in
            let a : get_or (stack ++ top ∷ []) w.0 0 ≡ k = get_or_default (stack ++ top ∷ []) w.0 0 k within ∙ w.2 in
            let b = on_top 0 in
            omega arith
      ]

  pub top_below : top < length order
  top_below = let len = length_push stack top in subst (λ (k : ℕ). k < length order) (on_top 0) (t.places (length stack) 0 (omega arith))

  -- with no neighbour outside at the top, the search goes back
  pub popped : NoneOutside order (adjacent (slice_index order top)) → IsTraversal adjacent n root order parents stack
  popped none =
      let len = length_push stack top in
      record {
        started = t.started;
        root_first = t.root_first;
        nodes = t.nodes;
        once = t.once;
        parented = t.parented;
        next = t.next;
        rising = λ i j lt within.
            rw (sym (get_or_append_left stack (top ∷ []) 0 i (omega arith)), sym (get_or_append_left stack (top ∷ []) 0 j within)) (t.rising i j lt (omega arith));
        places = λ k d within. rw (sym (get_or_append_left stack (top ∷ []) d k within)) (t.places k d (omega arith));
        finished = λ k within off.
            elim (cases_eq k top) [
              | inl e ↦ subst (λ (j : ℕ). NoneOutside order (adjacent (slice_index order j))) (sym e) none
              | inr ne ↦
                  t.finished k within (λ w. elim (Contains-push_cases stack top k w) [ inl still ↦ off still | inr e ↦ ne (sym e) ])
            ];
      }

  -- a neighbour outside at the top is the next node
  pub pushed : (x : ℕ) → x < n → IsFirstOutside order (adjacent (slice_index order top)) x
      → IsTraversal adjacent n root (order ++ x ∷ []) (parents ++ top ∷ []) ((stack ++ top ∷ []) ++ length order ∷ [])
  pushed x label first =
      let len = length_push stack top in
      let len' = length_push (stack ++ top ∷ []) (length order) in
      let more = length_push order x in
      let more' = length_push parents top in
      let same = t.parented in
      let below = top_below in
      record {
        started = omega arith;
        root_first = rw (get_or_append_left order (x ∷ []) 0 0 t.started) t.root_first;
        nodes = All-push (λ v. v < n) order x t.nodes label;
        once = all_pairs_push (λ u v. u ≢ v) order x t.once (λ k d within e. first.outside (subst (Contains order) e (Contains-get_or order k d within)));
        parented = omega arith;
        next = λ i from within.
            elim (cases_eq i (length order)) [
              | inl e ↦
                  rw (take_at order (x ∷ []) i (sym e), get_or_push order x 0 i (sym e), get_or_push parents top 0 i (omega arith))
                  (record { below = below; neighbor = first; greatest = λ k lt inside. t.finished k inside (above_top k lt) })
              | inr ne ↦
                  rw (take-append-le i order (x ∷ []) (omega arith), get_or_append_left order (x ∷ []) 0 i (omega arith), get_or_append_left parents (top ∷ []) 0 i (omega arith))
                  (t.next i from (omega arith))
            ];
        rising = λ i j lt within.
            let left = get_or_append_left (stack ++ top ∷ []) (length order ∷ []) 0 i (omega arith) in
            elim (cases_eq j (length (stack ++ top ∷ []))) [
              | inl e ↦
                  let last = get_or_push (stack ++ top ∷ []) (length order) 0 j (sym e) in
                  rw (left, last) (t.places i 0 (omega arith))
              | inr ne ↦
                  rw (left, get_or_append_left (stack ++ top ∷ []) (length order ∷ []) 0 j (omega arith)) (t.rising i j lt (omega arith))
            ];
        places = All-push (λ k. k < length (order ++ x ∷ [])) (stack ++ top ∷ []) (length order) (λ k d within. let p = t.places k d within in omega arith) (omega arith);
        finished = λ k within off.
            elim (cases_eq k (length order)) [
              | inl e ↦ absurd (off (subst (Contains ((stack ++ top ∷ []) ++ length order ∷ [])) (sym e) (Contains-push (stack ++ top ∷ []) (length order))))
              | inr ne ↦
                  let at : get_or (order ++ x ∷ []) k 0 ≡ get_or order k 0 = get_or_append_left order (x ∷ []) 0 k (omega arith) in
                  rw at (more_seen order (adjacent (get_or order k 0)) x (t.finished k (omega arith) (λ w. off (Contains-append_left (stack ++ top ∷ []) (length order ∷ []) k w))))
            ];
      }

-- a search that begins has the root alone
pub begun : (adjacent : ℕ → List ℕ) (n root : ℕ) → root < n → IsTraversal adjacent n root (root ∷ []) (0 ∷ []) (0 ∷ [])
begun adjacent n root label = record {
  started = omega arith;
  root_first = refl;
  nodes = λ k d h. let e : k ≡ 0 = omega arith in rw e label;
  once = λ i j d lt h. absurd (omega arith);
  parented = refl;
  next = λ i from h. absurd (omega arith);
  rising = λ i j lt h. absurd (omega arith);
  places = λ k d h. let e : k ≡ 0 = omega arith in rw e (omega arith);
  finished = λ k h off. let e : 0 ≡ k = omega arith in absurd (off (0, omega arith, e));
}

-- where the stack is empty, the nodes seen are closed
pub all_seen : (adjacent : ℕ → List ℕ) (n root : ℕ) (order parents : List ℕ) → IsTraversal adjacent n root order parents [] → IsClosed adjacent root order
all_seen adjacent n root order parents t = record {
  root_in = (0, t.started, get_or_default order 0 root 0 t.started ∙ t.root_first);
  closed = λ u v h w.
      let is : get_or order h.0 0 ≡ u = get_or_default order h.0 0 u h.1 ∙ h.2 in
      let all : NoneOutside order (adjacent u) = subst (λ (y : ℕ). NoneOutside order (adjacent y)) is (t.finished h.0 h.1 (λ k. omega (arith, k.1))) in
      subst (Contains order) (get_or_default (adjacent u) w.0 0 v w.1 ∙ w.2) (all w.0 w.1);
}

-- what is closed along ports has each node that a walk leads to
module _ (net : Topology) (root : ℕ) (nodes : List ℕ) (c : IsClosed (neighbors_of net) root nodes) where
  closed_along : (u v : ℕ) (rest : List ℕ) → LeadsTo net u v rest → Contains nodes u → Contains nodes v
  closed_along u v [] way h = subst (Contains nodes) way.0 h
  closed_along u v (x ∷ rest) way h =
      let edge = neighbor_at net u way.0.0 way.0.1 way.0.2 in
      let next : Contains (neighbors_of net u) x = (way.0.0, edge.0, get_or_default (neighbors_of net u) way.0.0 x 0 edge.0 ∙ edge.1 ∙ way.0.3) in
      closed_along x v rest way.1 (c.closed u x h next)

  pub walk_is_closed : (v : ℕ) (walk : List ℕ) → IsWalk net root v walk → Contains nodes v
  walk_is_closed v [] walk = absurd walk
  walk_is_closed v (x ∷ rest) walk = let way : LeadsTo net root v rest = walk.1 in closed_along root v rest way c.root_in

-- a number is at one of the first m places, or at none
at_some_place : (xs : List ℕ) (v m : ℕ) → m ≤ length xs → Contains xs v ⊎ ((k : ℕ) → k < m → get_or xs k v ≡ v → ⊥)
at_some_place xs v zero h = inr (λ k l e. omega arith)
at_some_place xs v (suc m) h =
    elim (cases_eq (get_or xs m v) v) [
      | inl e ↦ inl (m, omega arith, e)
      | inr ne ↦
          elim (at_some_place xs v m (omega arith)) [
            | inl w ↦ inl w
            | inr none ↦ inr (λ k l e. elim (cases_eq k m) [ inl f ↦ ne (subst (λ (x : ℕ). get_or xs x v ≡ v) f e) | inr nf ↦ none k (omega arith) e ])
          ]
    ]

cases_contains : (xs : List ℕ) (v : ℕ) → Contains xs v ⊎ (Contains xs v → ⊥)
cases_contains xs v = elim (at_some_place xs v (length xs) (omega arith)) [ inl w ↦ inl w | inr none ↦ inr (λ w. none w.0 w.1 w.2) ]

-- the numbers below n
below_n : ℕ → List ℕ
below_n zero = []
below_n (suc n) = below_n n ++ n ∷ []

length-below_n : (n : ℕ) → length (below_n n) ≡ n
unfolding below_n
length-below_n zero = refl
length-below_n (suc n) = length_push (below_n n) n ∙ omega (arith, length-below_n n)

get_or-below_n : (n k : ℕ) → k < n → get_or (below_n n) k 0 ≡ k
unfolding below_n
get_or-below_n zero k h = absurd (omega arith)
get_or-below_n (suc n) k h =
    let len = length-below_n n in
    elim (cases_eq k n) [
      | inl e ↦ get_or_push (below_n n) n 0 k (omega arith) ∙ sym e
      | inr ne ↦ get_or_append_left (below_n n) (n ∷ []) 0 k (omega arith) ∙ get_or-below_n n k (omega arith)
    ]

unseen_below : (order : List ℕ) (m : ℕ) → ((v : ℕ) × (v < m) × (Contains order v → ⊥)) ⊎ ((v : ℕ) → v < m → Contains order v)
unseen_below order zero = inr (λ v h. absurd (omega arith))
unseen_below order (suc m) =
    elim (unseen_below order m) [
      | inl w ↦ inl (w.0, omega (arith, w.1), w.2)
      | inr all ↦
          elim (cases_contains order m) [
            | inr no_m ↦ inl (m, omega arith, no_m)
            | inl yes_m ↦ inr (λ v h. elim (cases_eq v m) [ inl e ↦ subst (Contains order) (sym e) yes_m | inr ne ↦ all v (omega arith) ])
          ]
    ]

-- some node is not among fewer than n
pub some_unseen : (n : ℕ) (order : List ℕ) → length order < n → (v : ℕ) × (v < n) × (Contains order v → ⊥)
some_unseen n order few =
    elim (unseen_below order n) [
      | inl w ↦ w
      | inr all ↦
          let len = length-below_n n in
          let le : length (below_n n) ≤ length order = length-le_from_places (below_n n) order
          (λ i j lt h e. let a = get_or-below_n n i (omega arith) in let b = get_or-below_n n j (omega arith) in omega arith)
          (λ k h.
          let a = get_or-below_n n k (omega arith) in
          let w = all k (omega arith) in
          (w.0, w.1, get_or_default order w.0 0 k w.1 ∙ w.2 ∙ sym a)) in
          absurd (omega arith)
    ]

-- which nodes the marks show
pub record IsMarked (n : ℕ) (order : List ℕ) (marks : List Bool) : Type 0 where
  pub every : length marks ≡ n
  pub seen : (v : ℕ) → v < n → get_or marks v false ≡ true → Contains order v
  pub told : (v : ℕ) → Contains order v → get_or marks v false ≡ true

pub marked_none : (n : ℕ) (order : List ℕ) (marks : List Bool) → IsMarked n order marks → (nodes : List ℕ) → All (λ v. v < n) nodes → AllMarked marks nodes → NoneOutside order nodes
marked_none n order marks m nodes below all k h = m.seen (get_or nodes k 0) (below k 0 h) (all k h)

pub marked_first : (n : ℕ) (order : List ℕ) (marks : List Bool) → IsMarked n order marks → (nodes : List ℕ) → All (λ v. v < n) nodes → (x : ℕ) → x < n → IsFirstUnmarked marks nodes x → IsFirstOutside order nodes x
marked_first n order marks m nodes below x label f =
    let len = m.every in
    record {
      port = f.port;
      below = f.below;
      is = f.is;
      outside = λ w. let a = m.told x w in let b = get_or_default marks x true false (omega arith) in false≢true (sym f.unmarked ∙ b ∙ a);
      first = λ k h. let p = f.below in m.seen (get_or nodes k 0) (below k 0 (omega arith)) (f.first k h);
    }

pub marks_more : (n : ℕ) (order : List ℕ) (marks : List Bool) → IsMarked n order marks → (x : ℕ) → x < n → IsMarked n (order ++ x ∷ []) (set marks x true)
marks_more n order marks m x label =
    let len = m.every in
    let same : get_or (set marks x true) x false ≡ true = get_or-set_same marks x true false (omega arith) in
    record {
      every = length-set marks x true ∙ len;
      seen = λ v h is. elim (cases_eq v x) [
        | inl e ↦ subst (Contains (order ++ x ∷ [])) (sym e) (Contains-push order x)
        | inr ne ↦ Contains-append_left order (x ∷ []) v (m.seen v h (sym (get_or-set_other marks x v true false ne) ∙ is))
      ];
      told = λ v w. elim (Contains-push_cases order x v w) [
        | inl old ↦ elim (cases_eq v x) [
          | inl e ↦ subst (λ (y : ℕ). get_or (set marks x true) y false ≡ true) (sym e) same
          | inr ne ↦ get_or-set_other marks x v true false ne ∙ m.told v old
        ]
        | inr e ↦ subst (λ (y : ℕ). get_or (set marks x true) y false ≡ true) e same
      ];
    }

pub marks_one : (n root : ℕ) → root < n → IsMarked n (root ∷ []) (set (replicate n false) root true)
marks_one n root label = marks_more n [] (replicate n false) (record { every = length-replicate n false; seen = λ v h is. absurd (false≢true (sym (get_or-replicate n v false false h) ∙ is)); told = λ v w. absurd (omega (arith, w.1)) }) root label

-- a search that begins has passed no neighbour
pub passed_none : (lists : List (Vec ℕ)) (marks : List Bool) → ArePassed lists marks (replicate (length lists) 0)
passed_none lists marks = record {
  every = length-replicate (length lists) 0;
  each = λ u h k lt. let e : slice_index (replicate (length lists) 0) u ≡ 0 = get_or-replicate (length lists) u 0 0 h in absurd (omega arith);
}

-- the node that was read at the top
module _ (adjacent : ℕ → List ℕ) (n root : ℕ) (order parents rest : List ℕ) (marks : List Bool) (stack : List ℕ) (top node : ℕ) (below : (u : ℕ) → u < n → All (λ v. v < n) (adjacent u))
    (t : IsTraversal adjacent n root order parents stack) (m : IsMarked n order marks) (is : stack ≡ rest ++ top ∷ []) (read : node ≡ get_or order top node) where
  here_t : IsTraversal adjacent n root order parents (rest ++ top ∷ [])
  here_t = subst (IsTraversal adjacent n root order parents) is t

  here_below : top < length order
  here_below = top_below adjacent n root order parents rest top here_t

  here_is : node ≡ get_or order top 0
  here_is = get_or_read order top node here_below read 0

  node_below : node < n
  node_below = subst (λ (v : ℕ). v < n) (sym here_is) (t.nodes top 0 here_below)

  pub goes_back : AllMarked marks (adjacent node) → IsTraversal adjacent n root order parents rest
  goes_back all =
      let none = marked_none n order marks m (adjacent node) (below node node_below) all in
      popped adjacent n root order parents rest top here_t (subst (λ (v : ℕ). NoneOutside order (adjacent v)) here_is none)

  pub goes_on : (x : ℕ) → x < n → IsFirstUnmarked marks (adjacent node) x
      → IsTraversal adjacent n root (order ++ x ∷ []) (parents ++ top ∷ []) ((rest ++ top ∷ []) ++ length order ∷ [])
  goes_on x label f =
      let first = marked_first n order marks m (adjacent node) (below node node_below) x label f in
      pushed adjacent n root order parents rest top here_t x label (subst (λ (v : ℕ). IsFirstOutside order (adjacent v) x) here_is first)

-- a listing of n numbers below n has each of them
module _ (n : ℕ) (order : List ℕ) (is : IsListing n order) (v : ℕ) (label : v < n) (off : Contains order v → ⊥) where
  more_apart : (i j : ℕ) → i < j → j < length (v ∷ order) → get_or (v ∷ order) i 0 ≢ get_or (v ∷ order) j 0
  more_apart i zero lt h e = omega arith
  more_apart zero (suc j) lt h e = off (subst (Contains order) (sym e) (Contains-get_or order j 0 (omega arith)))
  more_apart (suc i) (suc j) lt h e = is.once i j 0 (omega arith) (omega arith) e

  more_within : (k : ℕ) → k < length (v ∷ order) → (j : ℕ) × (j < length (below_n n)) × (get_or (below_n n) j 0 ≡ get_or (v ∷ order) k 0)
  more_within zero h = let len = length-below_n n in (v, omega arith, get_or-below_n n v label)
  more_within (suc k) h =
      let len = length-below_n n in
      let b = is.nodes k 0 (omega arith) in
      (get_or order k 0, omega arith, get_or-below_n n (get_or order k 0) b)

  one_too_many : ⊥
  one_too_many =
      let len = length-below_n n in
      let every = is.every in
      let le = length-le_from_places (v ∷ order) (below_n n) more_apart more_within in
      omega arith

pub listing_has : (n : ℕ) (order : List ℕ) → IsListing n order → (v : ℕ) → v < n → Contains order v
listing_has n order is v label = elim (cases_contains order v) [ inl w ↦ w | inr off ↦ absurd (one_too_many n order is v label off) ]

-- what gives each number its place gives each place its number
pub are_labels : (n : ℕ) (order labels : List ℕ) → IsListing n order → length labels ≡ n
    → ((k : ℕ) → k < n → slice_index labels (slice_index order k) ≡ k) → AreLabels n order labels
are_labels n order labels is len told =
    let every = is.every in
    record {
      every_node = len;
      every_label = every;
      node = λ a h. is.nodes a 0 (omega arith);
      label = λ u h.
          let w = listing_has n order is u h in
          let at : get_or order w.0 0 ≡ u = get_or_default order w.0 0 u w.1 ∙ w.2 in
          let e : get_or labels u 0 ≡ w.0 = subst (λ (x : ℕ). get_or labels x 0 ≡ w.0) at (told w.0 (omega (arith, w.1))) in
          omega (arith, w.1);
      there = λ u h.
          let w = listing_has n order is u h in
          let at : get_or order w.0 0 ≡ u = get_or_default order w.0 0 u w.1 ∙ w.2 in
          let e : get_or labels u 0 ≡ w.0 = subst (λ (x : ℕ). get_or labels x 0 ≡ w.0) at (told w.0 (omega (arith, w.1))) in
          ap (λ (k : ℕ). get_or order k 0) e ∙ at;
      back = told;
    }

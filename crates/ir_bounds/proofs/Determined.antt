-- A network, a root and a count have one order of blocks.
use Rattle.std.proofs.Common.{◌≡◌, ℕ, zero, suc, ◌+◌, ◌<◌, ◌≤◌, List, [], ◌∷◌, ◌++◌, length, take, drop, refl, ap, sym, ◌∙◌, subst, inl, inr, ⊎_elim, arith}
use Rattle.std.specs.Prelude.{Contains, All, filter, slice_index, ◌==◌, if◌then◌else◌}
use Rattle.std.proofs.lemmas.Bool.{cases_eq, cases_lt}
use Rattle.std.proofs.lemmas.List.{take_more, take_all}
use Rattle.std.proofs.lemmas.List.Elements.{All-head, All-tail}
use Rattle.ir_model.specs.Topology.{Topology, node_count, IsTopology}
use Rattle.ir_model.specs.Numbering.{neighbors_of}
use Rattle.ir_model.specs.Landmark.{IsMostLinked, AreMostLinked, IsOnTheWay, IsBlockParent, AreBlocks, followers}
use Rattle.ir_model.proofs.Landmarks.{landmark_unique}
use Rattle.ir_model.proofs.Ranked.{order_same}
use Rattle.ir_numbering.proofs.Adjacent.{depth_first_by}
use Rattle.ir_numbering.proofs.Neighbors.{neighbors_below}
use Rattle.ir_bounds.specs.Plans.{AreBlockLabels}

-- there is one most linked node outside
linked_same : (net : Topology) (before : List ℕ) (x y : ℕ) → IsMostLinked net before x → IsMostLinked net before y → x ≡ y
linked_same net before x y a b =
    ⊎_elim (λ less. absurd (⊎_elim (λ more. omega (arith, less, more)) (λ same. omega (arith, less, same.0)) (b.most x a.node a.outside)))
    (λ equal. ⊎_elim (λ more. absurd (omega (arith, equal.0, more))) (λ same. omega (arith, equal.1, same.1)) (b.most x a.node a.outside))
    (a.most y b.node b.outside)

module _ (net : Topology) (root count : ℕ) (xs ys : List ℕ) (a : AreMostLinked net root count xs) (b : AreMostLinked net root count ys) where
  -- they agree on each beginning
  beginnings : (i : ℕ) → i ≤ length xs → i ≤ length ys → take i xs ≡ take i ys
  beginnings zero lx ly = refl
  beginnings (suc i) lx ly =
      let before : take i xs ≡ take i ys = beginnings i (omega (arith, lx)) (omega (arith, ly)) in
      let more : i + 1 ≡ suc i = omega arith in
      let P : ℕ → Type 0 = λ k. take k xs ≡ take k ys in
      subst P more (take_more xs i 0 (omega (arith, lx)) ∙ ap (λ (zs : List ℕ). zs ++ (slice_index xs i ∷ [])) before ∙ ap (λ (x : ℕ). take i ys ++ (x ∷ [])) (here i before lx ly) ∙ sym (take_more ys i 0 (omega (arith, ly))))
    where
      here : (i : ℕ) → take i xs ≡ take i ys → suc i ≤ length xs → suc i ≤ length ys → slice_index xs i ≡ slice_index ys i
      here zero before lx ly = a.root_first ∙ sym b.root_first
      here (suc i) before lx ly =
          let P : List ℕ → Type 0 = λ seen. IsMostLinked net seen (slice_index xs (suc i)) in
          linked_same net (take (suc i) ys) (slice_index xs (suc i)) (slice_index ys (suc i)) (subst P before (a.next (suc i) (omega arith) (omega (arith, lx)))) (b.next (suc i) (omega arith) (omega (arith, ly)))

-- a shorter list has all nodes, so the longer one has no further
not_shorter : (net : Topology) (root count : ℕ) (xs ys : List ℕ) → AreMostLinked net root count xs → AreMostLinked net root count ys → length xs < length ys → ⊥
not_shorter net root count xs ys a b less =
    let next = b.next (length xs) (omega (arith, a.some)) less in
    let same : take (length xs) ys ≡ xs = sym (beginnings net root count xs ys a b (length xs) (omega arith) (omega (arith, less))) ∙ take_all (length xs) xs (omega arith) in
    next.outside (subst (λ (zs : List ℕ). Contains zs (slice_index ys (length xs))) (sym same) (a.fewer (omega (arith, less, b.enough)) (slice_index ys (length xs)) next.node))

pub most_linked_same : (net : Topology) (root count : ℕ) (xs ys : List ℕ) → AreMostLinked net root count xs → AreMostLinked net root count ys → xs ≡ ys
most_linked_same net root count xs ys a b =
    let not_less : length ys ≤ length xs = ⊎_elim (λ less. absurd (not_shorter net root count xs ys a b less)) (λ ge. ge) (cases_lt (length xs) (length ys)) in
    let not_more : length xs ≤ length ys = ⊎_elim (λ less. absurd (not_shorter net root count ys xs b a less)) (λ ge. ge) (cases_lt (length ys) (length xs)) in
    sym (take_all (length xs) xs (omega arith)) ∙ beginnings net root count xs ys a b (length xs) (omega arith) not_more ∙ take_all (length xs) ys not_less

-- a node has one parent in the tree of its block
parent_same : (net : Topology) (landmarks : List ℕ) (v x y : ℕ) → IsBlockParent net landmarks v x → IsBlockParent net landmarks v y → x ≡ y
parent_same net landmarks v x y a b =
    let same : a.landmark ≡ b.landmark = (landmark_unique net landmarks v a.landmark b.landmark a.radius b.radius a.of_node b.of_node).0 in
    elim (cases_eq v a.landmark) [
      | inl own ↦ a.itself own ∙ sym (b.itself (own ∙ same))
      | inr other ↦
          let there : IsOnTheWay net v b.landmark x = subst (λ (l : ℕ). IsOnTheWay net v l x) same (a.on_the_way other) in
          let back : IsOnTheWay net v a.landmark y = subst (λ (l : ℕ). IsOnTheWay net v l y) (sym same) (b.on_the_way (λ e. other (e ∙ sym same))) in
          omega (arith, a.least y back, b.least x there)
    ]

-- nodes with the same parents are the same sons
sons_same : (f g : ℕ → ℕ) (n u : ℕ) (xs : List ℕ) → All (λ v. v < n) xs → ((v : ℕ) → v < n → f v ≡ g v) → filter (λ v. f v == u) xs ≡ filter (λ v. g v == u) xs
sons_same f g n u [] nodes same = refl
sons_same f g n u (v ∷ xs) nodes same =
    let e : f v ≡ g v = same v (All-head (λ x. x < n) v xs nodes) in
    let later : filter (λ x. f x == u) xs ≡ filter (λ x. g x == u) xs = sons_same f g n u xs (All-tail (λ x. x < n) v xs nodes) same in
    rw (e, later) refl

-- A network, a root and a count have one order of blocks.
pub block_labels_same : (net : Topology) → IsTopology net → (root count : ℕ) (order other : List ℕ) → AreBlockLabels net root count order → AreBlockLabels net root count other → order ≡ other
block_labels_same net ok root count order other p q =
    let n : ℕ = node_count net in
    let ls : List ℕ = q.landmarks in
    let a : AreBlocks net ls order = subst (λ (xs : List ℕ). AreBlocks net xs order) (most_linked_same net root count p.landmarks q.landmarks p.chosen q.chosen) p.blocks in
    let b : AreBlocks net ls other = q.blocks in
    let same : (v : ℕ) → v < n → a.parent v ≡ b.parent v = λ v lt. parent_same net ls v (a.parent v) (b.parent v) (a.parents v lt) (b.parents v lt) in
    let followed : (u : ℕ) → u < n → followers net ls a.parent u ≡ followers net ls b.parent u =
    λ u lt. ap (λ (xs : List ℕ). xs ++ (if slice_index ls 0 == u then drop 1 ls else [])) (sons_same a.parent b.parent n u (neighbors_of net u) (neighbors_below net ok u) same) in
    order_same (followers net ls b.parent) n (slice_index ls 0) order a.places other b.places
    (depth_first_by (followers net ls a.parent) (followers net ls b.parent) n (slice_index ls 0) order a.places followed a.depth_first) b.depth_first

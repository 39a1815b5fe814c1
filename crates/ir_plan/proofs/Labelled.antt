-- Which plans are labelled by an order, and that the labels are determined by it, the kind, the root and the network.
use Rattle.std.proofs.Common.{◌≡◌, ◌≢◌, ℕ, ◌<◌, ◌≤◌, ◌⊎◌, List, length, Ok, Err, refl, ap, sym, ◌∙◌, subst, inl, inr, arith}
use Rattle.std.specs.Prelude.{IfOk, slice_index, sum_by}
use Rattle.std.specs.declared.result.Result.{Result}
use Rattle.std.proofs.lemmas.Bool.{cases_lt}
use Rattle.ir_model.specs.declared.Kind.{Kind}
use Rattle.ir_model.specs.declared.Kind.TheVariants.{Tree, Shortest, Compact, Landmark}
use Rattle.ir_model.specs.Topology.{Topology, node_count}
use Rattle.ir_model.specs.Plan.{Plan, IsPlan}
use Rattle.ir_model.specs.Row.{Start}
use Rattle.ir_plan.specs.declared.tour.LabelOrder.{LabelOrder}
use Rattle.ir_plan.specs.declared.tour.LabelOrder.TheVariants.{DepthFirst, Tour}
use Rattle.std.specs.List.Sorted.{IsPermutation}
use Rattle.ir_numbering.specs.Numbering.{IsListing}
use Rattle.ir_plan.specs.Distances.{AreShortestDistances}
use Rattle.ir_plan.specs.Tour.{IsTour, IsNearestOrder, difference, shortened}
use Rattle.ir_plan.specs.Building.{ByList, IsPlanBy}
use Rattle.ir_plan.specs.Starts.{IsFirstPlan, IsLabelledBy, IsOfShortestWays, start_count, IsPlanAs, HasFewerOfTwo, IsToured}
use Rattle.ir_plan.proofs.DepthFirst.{first_order, rows_same, shortest_same}
use Rattle.ir_plan.proofs.Tours.{nearest_moved, nearest_same, shortened_agrees, shortened_first, shortened_permutes, listing_permuted}
use Rattle.ir_plan.proofs.Differences.{difference_same}
use Rattle.ir_plan.proofs.TreeStarts.{tree_plan_starts}

-- ---- plans of one kind, root and network

pub as_itself : (p : Plan) → IsPlan p → IsPlanAs p p
as_itself p is = record { plan = is; kind = refl; root = refl; topology = refl }

pub as_back : (p q : Plan) → IsPlan p → IsPlanAs p q → IsPlanAs q p
as_back p q is like = record { plan = is; kind = sym like.kind; root = sym like.root; topology = sym like.topology }

-- two that are as one are as each other
as_both : (p q r : Plan) → IsPlanAs p q → IsPlanAs p r → IsPlanAs q r
as_both p q r one other = record { plan = other.plan; kind = other.kind ∙ sym one.kind; root = other.root ∙ sym one.root; topology = other.topology ∙ sym one.topology }

as_moved : (p q r : Plan) → IsPlanAs p q → IsPlanAs q r → IsPlanAs p r
as_moved p q r one other = record { plan = other.plan; kind = other.kind ∙ one.kind; root = other.root ∙ one.root; topology = other.topology ∙ one.topology }

tour_moved : (p q : Plan) (order : List ℕ) → IsPlanAs p q → IsTour q.topology q.root order → IsTour p.topology p.root order
tour_moved p q order like is = subst (λ (net : Topology). IsTour net p.root order) like.topology (subst (λ (root : ℕ). IsTour q.topology root order) like.root is)

-- an order by nearest over the differences of the shortest table, shortened, is the tour
pub tour_made : (net : Topology) (root : ℕ) (far : ℕ → ℕ → ℕ) (start tour : List ℕ) → AreShortestDistances net far → root < node_count net → IsNearestOrder (node_count net) far root start → tour ≡ shortened far 16 start
    → IsTour net root tour × IsListing (node_count net) tour × (slice_index tour 0 ≡ root)
tour_made net root far start tour are in_net nearest short =
    let n = node_count net in
    let dis = difference n are.0 in
    let some : 0 < n = omega arith in (
      record {
        table = are.0;
        shortest = are.1;
        start = start;
        nearest = nearest_moved n some far dis are.2 root start nearest;
        short = short ∙ shortened_agrees n some far dis are.2 16 start nearest.listing.nodes;
      },
      listing_permuted n start tour nearest.listing (subst (IsPermutation start) (sym short) (shortened_permutes far 16 start)),
      ap (λ (xs : List ℕ). slice_index xs 0) short ∙ shortened_first far 16 start ∙ nearest.first,
    )

-- a plan of these numbers is one by the list that they came from
pub built_by_list : {E : Type 0} (r : Result Plan E) (net : Topology) (kind : Kind) (order list : List ℕ) → order ≡ list
    → IfOk r (λ p. p.kind ≡ kind) → IfOk r (λ p. p.topology ≡ net) → IfOk r (λ p. p.order ≡ order) → IfOk r IsPlan → IfOk r (IsPlanBy net kind (ByList list))
built_by_list (Ok p) net kind order list same of_kind over by valid = record { valid = valid; over = over; of_kind = of_kind; labelled = by ∙ same }
built_by_list (Err e) net kind order list same of_kind over by valid = tt

-- ---- what a plan has to be

-- a tour is sought for both of two plans of one kind, root and network, or for none
toured_as : (p q : Plan) → IsPlanAs p q → IsToured p → IsToured q
toured_as p q like sought = (subst IsOfShortestWays (sym like.kind) sought.0, omega (arith, sought.1, ap node_count like.topology))

toured_back : (p q : Plan) → IsPlanAs p q → IsToured q → IsToured p
toured_back p q like sought = (subst IsOfShortestWays like.kind sought.0, omega (arith, sought.1, ap node_count like.topology))

-- no tour is sought for a tree
pub no_tree_of_shortest_ways : (k : Kind) → IsOfShortestWays k → k ≢ Tree
no_tree_of_shortest_ways Tree may e = may
no_tree_of_shortest_ways Shortest may e = absurd (cc e)
no_tree_of_shortest_ways Compact may e = absurd (cc e)
no_tree_of_shortest_ways (Landmark t) may e = may

-- where no tour is sought the first plan stays
pub untoured_labelled : (labels : LabelOrder) (p : Plan) → IsFirstPlan p → (labels ≢ DepthFirst → IsToured p → ⊥) → IsLabelledBy labels p
untoured_labelled DepthFirst p numbers none = numbers
untoured_labelled Tour p numbers none = (λ sought. absurd (none (λ e. cc e) sought), λ _. numbers)

module _ (p q : Plan) (is : IsPlan p) (numbers : IsFirstPlan p) (like : IsPlanAs p q) (tour : IsTour p.topology p.root q.order) where
  -- the first plan stays where the plan over the tour has as many starts or more
  pub first_labelled : (labels : LabelOrder) → start_count p ≤ start_count q → IsLabelledBy labels p
  first_labelled DepthFirst le = numbers
  first_labelled Tour le = (
    λ sought. record {
      first = p;
      first_is = as_itself p is;
      numbers = numbers;
      over = q;
      over_is = like;
      tour = tour;
      fewer = λ lt. absurd (omega (arith, lt, le));
      others = λ _. refl;
    },
    λ _. numbers,
  )

  -- the plan over the tour is labelled where it has fewer
  pub over_labelled : (labels : LabelOrder) → labels ≢ DepthFirst → IsToured p → start_count q < start_count p → IsLabelledBy labels q
  over_labelled DepthFirst by sought lt = absurd (by refl)
  over_labelled Tour by sought lt = (
    λ _. record {
      first = p;
      first_is = as_back p q is like;
      numbers = numbers;
      over = q;
      over_is = as_itself q like.plan;
      tour = tour_moved q p q.order (as_back p q is like) tour;
      fewer = λ _. refl;
      others = λ le. absurd (omega (arith, lt, le));
    },
    λ none. absurd (none (toured_as p q like sought)),
  )

-- ---- the labels are determined

-- a network has one tour from a root
pub tour_same : (net : Topology) (root : ℕ) → root < node_count net → (xs ys : List ℕ) → IsTour net root xs → IsTour net root ys → xs ≡ ys
tour_same net root in_net xs ys a b =
    let n = node_count net in
    let some : 0 < n = omega arith in
    let far = difference n a.table in
    let dis = difference n b.table in
    let agree : (u v : ℕ) → u < n → v < n → dis u v ≡ far u v = λ u v hu hv. difference_same n b.table a.table (shortest_same net b.table a.table b.shortest a.shortest) u v hu hv in
    let start : a.start ≡ b.start = nearest_same n far root a.start b.start a.nearest (nearest_moved n some dis far agree root b.start b.nearest) in
    a.short ∙ ap (shortened far 16) start ∙ sym (b.short ∙ shortened_agrees n some dis far agree 16 b.start b.nearest.listing.nodes)

shortest_ways_or_not : (k : Kind) → IsOfShortestWays k ⊎ (IsOfShortestWays k → ⊥)
shortest_ways_or_not Tree = inr (λ may. may)
shortest_ways_or_not Shortest = inl tt
shortest_ways_or_not Compact = inl tt
shortest_ways_or_not (Landmark t) = inr (λ may. may)

toured_or_not : (p : Plan) → IsToured p ⊎ (IsToured p → ⊥)
toured_or_not p =
    elim (shortest_ways_or_not p.kind) [
      | inl may ↦
          elim (cases_lt 4096 (node_count p.topology)) [
            | inl more ↦ inr (λ sought. omega (arith, more, sought.1))
            | inr few ↦ inl (may, few)
          ]
      | inr none ↦ inr (λ sought. none sought.0)
    ]

pub tree_or_not : (k : Kind) → (k ≡ Tree) ⊎ (k ≢ Tree)
tree_or_not Tree = inl refl
tree_or_not Shortest = inr (λ e. cc e)
tree_or_not Compact = inr (λ e. cc e)
tree_or_not (Landmark t) = inr (λ e. cc e)

-- two plans that each have the fewer of two have one order
fewer_same : (p q : Plan) → IsPlan p → p.kind ≢ Tree → IsPlanAs p q → HasFewerOfTwo p → HasFewerOfTwo q → p.order ≡ q.order
fewer_same p q is other like a b =
    let firsts = as_both p a.first b.first a.first_is (as_moved p q b.first like b.first_is) in
    let overs = as_both p a.over b.over a.over_is (as_moved p q b.over like b.over_is) in
    let first : a.first.order ≡ b.first.order = first_order a.first b.first a.numbers firsts b.numbers in
    let over : a.over.order ≡ b.over.order = tour_same p.topology p.root is.root_in a.over.order b.over.order a.tour (tour_moved p q b.over.order like b.tour) in
    let rows : a.first.rows ≡ b.first.rows = rows_same a.first b.first (λ e. other (sym a.first_is.kind ∙ e)) a.first_is.plan firsts first in
    let others : a.over.rows ≡ b.over.rows = rows_same a.over b.over (λ e. other (sym a.over_is.kind ∙ e)) a.over_is.plan overs over in
    let starts : start_count a.first ≡ start_count b.first = ap (λ (r : List (List Start)). sum_by length r) rows in
    let counts : start_count a.over ≡ start_count b.over = ap (λ (r : List (List Start)). sum_by length r) others in
    elim (cases_lt (start_count a.over) (start_count a.first)) [
      | inl lt ↦ a.fewer lt ∙ over ∙ sym (b.fewer (omega (arith, lt, starts, counts)))
      | inr le ↦ a.others le ∙ first ∙ sym (b.others (omega (arith, le, starts, counts)))
    ]

-- Plans of one kind, root and network that are labelled by one order have the same numbers.
pub order_determined : (labels : LabelOrder) (p q : Plan) → IsPlan p → IsPlanAs p q → IsLabelledBy labels p → IsLabelledBy labels q → p.order ≡ q.order
order_determined DepthFirst p q is like a b = first_order p q a like b
order_determined Tour p q is like a b =
    elim (toured_or_not p) [
      | inl sought ↦ fewer_same p q is (no_tree_of_shortest_ways p.kind sought.0) like (a.0 sought) (b.0 (toured_as p q like sought))
      | inr none ↦ first_order p q (a.1 none) like (b.1 (λ sought. none (toured_back p q like sought)))
    ]

-- a plan that is labelled by a tour has no more starts than a first one
pub no_more_starts : (p q : Plan) → IsPlan p → IsPlanAs p q → IsLabelledBy Tour p → IsFirstPlan q → start_count p ≤ start_count q
no_more_starts p q is like by numbers =
    elim (tree_or_not p.kind) [
      | inl tree ↦
          let one = tree_plan_starts p is tree in
          let two = tree_plan_starts q like.plan (like.kind ∙ tree) in
          omega (arith, one, two, ap node_count like.topology)
      | inr other ↦
          elim (toured_or_not p) [
            | inl sought ↦
                let a = by.0 sought in
                let apart : (s : Plan) → IsPlanAs p s → s.kind ≢ Tree = λ s as_p e. other (sym as_p.kind ∙ e) in
                let firsts = as_both p a.first q a.first_is like in
                let first : start_count a.first ≡ start_count q =
                counts a.first q (rows_same a.first q (apart a.first a.first_is) a.first_is.plan firsts (first_order a.first q a.numbers firsts numbers)) in
                elim (cases_lt (start_count a.over) (start_count a.first)) [
                  | inl lt ↦ let mine = counts p a.over (rows_same p a.over other is a.over_is (a.fewer lt)) in omega (arith, lt, mine, first)
                  | inr le ↦ let mine = counts p a.first (rows_same p a.first other is a.first_is (a.others le)) in omega (arith, mine, first)
                ]
            | inr none ↦ let mine = counts p q (rows_same p q other is like (first_order p q (by.1 none) like numbers)) in omega (arith, mine)
          ]
    ]
  where
    counts : (s t : Plan) → s.rows ≡ t.rows → start_count s ≡ start_count t
    counts s t e = ap (λ (r : List (List Start)). sum_by length r) e

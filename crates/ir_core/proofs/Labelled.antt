-- Plans that are labelled by the same, and the order that a plan keeps.
use Rattle.std.proofs.Common.{◌≡◌, ◌≢◌, ℕ, ◌<◌, ◌≤◌, List, length, slice_index, Option, Some, None, Bool, true, false, refl, sym, ap, ◌∙◌, subst, arith}
use Rattle.std.proofs.lemmas.List.{get_or_default}
use Rattle.ir_model.specs.declared.Kind.{Kind}
use Rattle.ir_model.specs.declared.Kind.TheVariants.{Tree, Shortest, Compact, Landmark}
use Rattle.ir_model.specs.Topology.{Topology, node_count}
use Rattle.ir_model.specs.Plan.{Plan, IsPlan}
use Rattle.ir_plan.specs.declared.tour.LabelOrder.{LabelOrder}
use Rattle.ir_plan.specs.declared.tour.LabelOrder.TheVariants.{DepthFirst, Tour}
use Rattle.ir_plan.specs.Tour.{IsTour}
use Rattle.ir_plan.specs.Starts.{IsPlanAs, IsFirstOrder, IsFirstPlan, IsToured, IsOfShortestWays, HasFewerOfTwo, IsLabelledBy, start_count}
use Rattle.ir_plan.specs.Building.{Labelling, FromRoot, ByList, IsLabelled, IsPlanBy, MayLabel, HasRoot, HasNoRoot}
use Rattle.ir_plan.proofs.Labelled.{order_determined}
use Rattle.ir_core.specs.Drafts.{kept_order, labelling_by}

-- two plans of one network, kind, root and order of labels
pub record IsTwin (p q : Plan) : Type 0 where
  pub like : IsPlanAs p q
  pub order : p.order ≡ q.order

first_moved : (p q : Plan) → IsTwin p q → IsFirstPlan p → IsFirstPlan q
first_moved p q is first =
    subst (λ (k : Kind). IsFirstOrder k q.topology q.root q.order) (sym is.like.kind)
    (subst (λ (net : Topology). IsFirstOrder p.kind net q.root q.order) (sym is.like.topology)
    (subst (λ (root : ℕ). IsFirstOrder p.kind p.topology root q.order) (sym is.like.root)
    (subst (λ (order : List ℕ). IsFirstOrder p.kind p.topology p.root order) is.order first)))

as_theirs : (p q r : Plan) → IsPlanAs p q → IsPlanAs p r → IsPlanAs q r
as_theirs p q r one other = record { plan = other.plan; kind = other.kind ∙ sym one.kind; root = other.root ∙ sym one.root; topology = other.topology ∙ sym one.topology }

fewer_moved : (p q : Plan) → IsTwin p q → HasFewerOfTwo p → HasFewerOfTwo q
fewer_moved p q is of = record {
  first = of.first;
  first_is = as_theirs p q of.first is.like of.first_is;
  numbers = of.numbers;
  over = of.over;
  over_is = as_theirs p q of.over is.like of.over_is;
  tour = subst (λ (net : Topology). IsTour net q.root of.over.order) (sym is.like.topology) (subst (λ (root : ℕ). IsTour p.topology root of.over.order) (sym is.like.root) of.tour);
  fewer = λ lt. sym is.order ∙ of.fewer lt;
  others = λ le. sym is.order ∙ of.others le;
}

toured_back : (p q : Plan) → IsTwin p q → IsToured q → IsToured p
toured_back p q is sought = (subst IsOfShortestWays is.like.kind sought.0, omega (arith, sought.1, ap node_count is.like.topology))

toured_moved : (p q : Plan) → IsTwin p q → IsToured p → IsToured q
toured_moved p q is sought = (subst IsOfShortestWays (sym is.like.kind) sought.0, omega (arith, sought.1, ap node_count is.like.topology))

by_moved : (labels : LabelOrder) (p q : Plan) → IsTwin p q → IsLabelledBy labels p → IsLabelledBy labels q
by_moved DepthFirst p q is by = first_moved p q is by
by_moved Tour p q is by = (
  λ sought. fewer_moved p q is (by.0 (toured_back p q is sought)),
  λ none. first_moved p q is (by.1 (λ sought. none (toured_moved p q is sought))),
)

labelled_moved : (labels : Labelling) (p q : Plan) → IsTwin p q → IsLabelled labels p → IsLabelled labels q
labelled_moved (FromRoot order root) p q is by = (by_moved order p q is by.0, is.like.root ∙ by.1)
labelled_moved (ByList list) p q is by = sym is.order ∙ by

-- what one of two such plans is made by, the other is made by
pub made_moved : (net : Topology) (kind : Kind) (labels : Labelling) (p q : Plan) → IsTwin p q → IsPlanBy net kind labels p → IsPlanBy net kind labels q
made_moved net kind labels p q is made = record {
  valid = is.like.plan;
  over = is.like.topology ∙ made.over;
  of_kind = is.like.kind ∙ made.of_kind;
  labelled = labelled_moved labels p q is made.labelled;
}

-- plans that are made by the same are such
pub twins : (net : Topology) (kind : Kind) (labels : Labelling) (p q : Plan) → IsPlanBy net kind labels p → IsPlanBy net kind labels q → IsTwin p q
twins net kind (FromRoot labels root) p q a b =
    let like : IsPlanAs p q = record { plan = b.valid; kind = b.of_kind ∙ sym a.of_kind; root = b.labelled.1 ∙ sym a.labelled.1; topology = b.over ∙ sym a.over } in
    record { like = like; order = order_determined labels p q a.valid like a.labelled.0 b.labelled.0 }
twins net kind (ByList list) p q a b =
    let same : p.order ≡ q.order = a.labelled ∙ sym b.labelled in
    record {
      like = record { plan = b.valid; kind = b.of_kind ∙ sym a.of_kind; root = sym b.valid.first ∙ ap (λ (xs : List ℕ). slice_index xs 0) (sym same) ∙ a.valid.first; topology = b.over ∙ sym a.over };
      order = same;
    }

pub twin_back : (p q : Plan) → IsPlan p → IsTwin p q → IsTwin q p
twin_back p q is twin = record { like = record { plan = is; kind = sym twin.like.kind; root = sym twin.like.root; topology = sym twin.like.topology }; order = sym twin.order }

pub twin_next : (p q r : Plan) → IsTwin p q → IsTwin q r → IsTwin p r
twin_next p q r one other = record {
  like = record { plan = other.like.plan; kind = other.like.kind ∙ one.like.kind; root = other.like.root ∙ one.like.root; topology = other.like.topology ∙ one.like.topology };
  order = one.order ∙ other.order;
}

-- ---- the order that a plan keeps

-- the nodes of a plan by label are a list of all, for any network of so many
pub listed : (net : Topology) (t : Plan) → IsPlan t → node_count t.topology ≡ node_count net → (kind : Kind) → kind ≢ Tree → MayLabel net kind (ByList t.order)
listed net t is same kind other =
    let are = is.labels in (
      other,
      record {
        every = are.every_label ∙ same;
        nodes = λ k d lt.
            let at = get_or_default t.order k d 0 lt in
            let below = are.node k (omega (arith, lt, are.every_label)) in
            omega (arith, at, below, same);
        once = λ i j d lt within e.
            let at = get_or_default t.order i d 0 (omega (arith, lt, within)) in
            let there = get_or_default t.order j d 0 within in
            let labels_same : slice_index t.labels (slice_index t.order i) ≡ slice_index t.labels (slice_index t.order j) = ap (slice_index t.labels) (sym at ∙ e ∙ there) in
            let first = are.back i (omega (arith, lt, within, are.every_label)) in
            let last = are.back j (omega (arith, within, are.every_label)) in
            omega (arith, sym first ∙ labels_same ∙ last, lt);
      },
    )

pub may_keep : (net : Topology) (t : Plan) → IsPlan t → node_count t.topology ≡ node_count net → (labels : LabelOrder) (root : ℕ) (keeps : Bool) (kind : Kind) → MayLabel net kind (labelling_by labels root (kept_order keeps kind t.order))
may_keep net t is same labels root false kind = tt
may_keep net t is same labels root true Tree = tt
may_keep net t is same labels root true Shortest = listed net t is same Shortest (λ e. cc e)
may_keep net t is same labels root true Compact = listed net t is same Compact (λ e. cc e)
may_keep net t is same labels root true (Landmark d) = listed net t is same (Landmark d) (λ e. cc e)

-- a tree keeps none
pub tree_keeps : (keeps : Bool) (kind : Kind) (order : List ℕ) → kind ≡ Tree → kept_order keeps kind order ≡ None
tree_keeps false kind order is = refl
tree_keeps true Tree order is = refl
tree_keeps true Shortest order is = absurd (cc is)
tree_keeps true Compact order is = absurd (cc is)
tree_keeps true (Landmark d) order is = absurd (cc is)

-- with a root that is a node there is a root, and else none is missing
pub has_root : (net : Topology) (labels : LabelOrder) (root : ℕ) (kept : Option (List ℕ)) → root < node_count net → HasRoot net (labelling_by labels root kept)
has_root net labels root None lt = lt
has_root net labels root (Some order) lt = tt

pub lacks_no_root : (net : Topology) (labels : LabelOrder) (root : ℕ) (kept : Option (List ℕ)) → root < node_count net → HasNoRoot net (labelling_by labels root kept) → ⊥
lacks_no_root net labels root None lt none = omega (arith, lt, none)
lacks_no_root net labels root (Some order) lt none = none

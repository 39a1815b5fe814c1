-- By what the plans of epochs are labelled.
use Rattle.std.specs.Prelude.{ℕ, Bool, true, false, Option, Some, None, List}
use Rattle.std.specs.Global.{Vec}
use Rattle.ir_model.specs.declared.Kind.{Kind}
use Rattle.ir_model.specs.declared.Kind.TheVariants.{Tree}
use Rattle.ir_plan.specs.declared.tour.LabelOrder.{LabelOrder}
use Rattle.ir_plan.specs.Building.{Labelling, FromRoot, ByList}
use Rattle.ir_core.specs.declared.planning.Draft.{Draft}

abbrev pub items_of : Option (Vec ℕ) → Option (List ℕ)
items_of None = None
items_of (Some nodes) = Some nodes.items

-- The order that a plan of a kind keeps of this one, where orders are kept. A tree's is depth first, so it keeps none.
abbrev pub kept_order : Bool → Kind → List ℕ → Option (List ℕ)
kept_order false kind order = None
kept_order true Tree order = None
kept_order true _ order = Some order

-- By what a plan is labelled: by the order that it keeps, or else in an order from a root.
abbrev pub labelling_by : LabelOrder → ℕ → Option (List ℕ) → Labelling
labelling_by labels root None = FromRoot labels root
labelling_by labels root (Some order) = ByList order

abbrev pub labelling_of_draft : Draft → Labelling
labelling_of_draft draft = labelling_by draft.labels draft.root (items_of draft.kept)

-- Why there is no plan over a network one of whose nodes is the root.
use Rattle.std.specs.Prelude.{◌≡◌, ◌⊎◌, ℕ, ◌<◌, List, Option, length}
use Rattle.std.proofs.Common.{refl, arith, subst, inl, inr}
use Rattle.ir_model.specs.Topology.{Topology, node_count, restrict}
use Rattle.ir_model.specs.Walk.{IsDisconnected}
use Rattle.ir_model.proofs.Restrict.{node_count-restrict}
use Rattle.ir_plan.specs.declared.error.PlanError.{PlanError}
use Rattle.ir_plan.specs.declared.error.PlanError.TheVariants as plan
use Rattle.ir_plan.specs.declared.tour.LabelOrder.{LabelOrder}
use Rattle.ir_plan.specs.Building.{FromRoot, RefusesPlan}
use Rattle.ir_core.specs.Drafts.{labelling_by}
use Rattle.ir_core.proofs.Labelled.{lacks_no_root}
use Rattle.ir_core.specs.declared.board.Board.{Board}
use Rattle.ir_core.specs.Board.{links_used}
use Rattle.ir_core.specs.declared.event.OpenError.TheVariants as open_error
use Rattle.ir_core.specs.declared.event.Refused.TheVariants as refused
use Rattle.ir_core.specs.Codes.{open_error_of, refused_of}

-- of a net's first epoch, over a copy of its network
pub first_refused : (topology over : Topology) → over ≡ topology → (labels : LabelOrder) (root : ℕ) → root < node_count topology → (e : PlanError) → RefusesPlan over (FromRoot labels root) e →
    ((open_error_of e ≡ open_error.Disconnected) × IsDisconnected topology) ⊎ ((open_error_of e ≡ open_error.NoMemory) ⊎ (open_error_of e ≡ open_error.Used))
first_refused topology over same labels root within e why = from e (subst (λ (net : Topology). RefusesPlan net (FromRoot labels root) e) same why)
  where
    from : (e : PlanError) → RefusesPlan topology (FromRoot labels root) e → ((open_error_of e ≡ open_error.Disconnected) × IsDisconnected topology) ⊎ ((open_error_of e ≡ open_error.NoMemory) ⊎ (open_error_of e ≡ open_error.Used))
    from plan.Disconnected is = inl (refl, is.2)
    from plan.NoMemory is = inr (inl refl)
    from plan.Empty is = absurd (omega (arith, is, within))
    from plan.NoNode is = absurd (omega (arith, is.1, within))

-- a network over the links that are up and heeded in a board
abbrev pub up_in : Topology → Board → Topology
up_in topology board = restrict (links_used board (length topology.links)) topology

-- of a later one, over those links
pub later_refused : (topology net : Topology) (board b : Board) → net ≡ topology → b ≡ board → (labels : LabelOrder) (root : ℕ) (kept : Option (List ℕ)) → root < node_count topology → (e : PlanError) →
    RefusesPlan (restrict (links_used b (length net.links)) net) (labelling_by labels root kept) e →
    ((refused_of e ≡ refused.Disconnected) × IsDisconnected (restrict (links_used board (length topology.links)) topology)) ⊎ (refused_of e ≡ refused.NoMemory)
later_refused topology net board b same is labels root kept within e why =
    from e (subst (λ (x : Board). RefusesPlan (up_in topology x) (labelling_by labels root kept) e) is
    (subst (λ (x : Topology). RefusesPlan (up_in x b) (labelling_by labels root kept) e) same why))
  where
    from : (e : PlanError) → RefusesPlan (up_in topology board) (labelling_by labels root kept) e → ((refused_of e ≡ refused.Disconnected) × IsDisconnected (up_in topology board)) ⊎ (refused_of e ≡ refused.NoMemory)
    from plan.Disconnected is = inl (refl, is.2)
    from plan.NoMemory is = inr refl
    from plan.Empty is = absurd (let count = node_count-restrict (links_used board (length topology.links)) topology in omega (arith, count, is, within))
    from plan.NoNode is = absurd (lacks_no_root (up_in topology board) labels root kept (let count = node_count-restrict (links_used board (length topology.links)) topology in omega (arith, count, within)) is.1)

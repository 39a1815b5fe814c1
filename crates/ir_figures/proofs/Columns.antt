-- The ports of nodes to a label, by the places of their rows.
use Rattle.std.proofs.Common.{◌≡◌, ◌≢◌, ℕ, ◌<◌, List, Option, None, Some, slice_index, refl, ap, sym, ◌∙◌, arith}
use Rattle.std.proofs.lemmas.List.{get_or-map}
use Rattle.ir_model.specs.Row.{labels, start_ports, IsPlaceOf}
use Rattle.ir_model.specs.Topology.{node_count}
use Rattle.ir_model.specs.Plan.{Plan, IsPlan, table_port, node_in, label_in, row_in, by_label}
use Rattle.ir_model.proofs.Canonical.{place_agrees}
use Rattle.ir_plan.proofs.Standing.{row_destinations}
use Rattle.ir_figures.proofs.Onward.{own_none}

-- none at the own label
pub own_port : (s : Plan) → IsPlan s → (u a : ℕ) → u < node_count s.topology → u ≡ node_in s a → table_port s u (node_in s a) ≡ None
own_port s is u a lt e = ap (table_port s u) (sym e) ∙ own_none s is s.kind refl u lt

-- that of the interval's start elsewhere
pub other_port : (s : Plan) → IsPlan s → (u a place : ℕ) → u < node_count s.topology → a < node_count s.topology → u ≢ node_in s a → 1 < node_count s.topology → IsPlaceOf (labels (row_in s u)) a place
    → Some (slice_index (start_ports (row_in s u)) place) ≡ table_port s u (node_in s a)
other_port s is u a place u_in a_in other two at =
    let apart : a ≢ label_in s u = λ e. other (sym (is.labels.there u u_in) ∙ ap (node_in s) (sym e)) in
    let agrees = place_agrees (node_count s.topology) (label_in s u) (by_label s u) (row_destinations s is u u_in) (row_in s u) (is.rows u u_in) place a a_in apart at two in
    sym (agrees) ∙ get_or-map (table_port s u) s.order a 0 None (omega (arith, a_in, is.labels.every_label))

-- The ports of a node's lines lead to nodes.
use Rattle.std.proofs.Common.{◌≡◌, ◌≢◌, ℕ, ◌<◌, List, length, Option, Some, None, refl, sym, ap, subst, ◌∙◌, get_or}
use Rattle.std.specs.Prelude.{All, IfSome}
use Rattle.std.proofs.lemmas.Option.{slice_get_within}
use Rattle.ir_model.specs.Topology.{node_count, ports_of}
use Rattle.ir_model.specs.Compiled.{port_to}
use Rattle.ir_model.specs.Plan.{Plan, IsPlan, label_in, node_in, table_port, by_label}
use Rattle.ir_plan.proofs.Standing.{row_destinations}
use Rattle.ir_prefix.proofs.Upper.{port_inside}
use Rattle.ir_prefix.specs.Forwarding.{NamesPorts}
use Rattle.ir_prefix.specs.declared.line.TableLine.{TableLine}
use Rattle.ir_show.proofs.WalkLines.{plan_next}
use Rattle.ir_exports.proofs.Senders.{port_at_label}

-- a port of the row is a port of the node
pub row_port_in : (s : Plan) → IsPlan s → (u d p : ℕ) → u < node_count s.topology → port_to (by_label s u) d ≡ Some p → p < length (ports_of s.topology u)
row_port_in s is u d p u_in e =
    let n = node_count s.topology in
    let row = row_destinations s is u u_in in
    let d_in : d < n = subst (λ (k : ℕ). d < k) row.every (port_inside (by_label s u) d p e) in
    let to = node_in s d in
    let own : u ≢ to = λ same. (let at : port_to (by_label s u) d ≡ None = ap (port_to (by_label s u)) (sym (is.labels.back d d_in) ∙ ap (label_in s) (sym same)) ∙ row.none in cc (at, e)) in
    let next = plan_next s is u to u_in (is.labels.node d d_in) own in
    let held : table_port s u to ≡ Some p = sym (port_at_label s is u d d_in) ∙ e in
    let same : next.1.port ≡ p = cc (next.1.held, held) in
    subst (λ (q : ℕ). q < length (ports_of s.topology u)) same (slice_get_within (ports_of s.topology u) next.1.port next.0 next.1.there)

pub ports_in : (s : Plan) → IsPlan s → (u : ℕ) (table : List TableLine) → u < node_count s.topology → NamesPorts (by_label s u) table
    → All (λ (m : TableLine). IfSome m.port (λ p. p < length (ports_of s.topology u))) table
ports_in s is u table u_in named = λ k e h. by (get_or table k e).port (named k e h)
  where
    by : (o : Option ℕ) → ((p : ℕ) → o ≡ Some p → (d : ℕ) × (port_to (by_label s u) d ≡ Some p)) → IfSome o (λ p. p < length (ports_of s.topology u))
    by None from = tt
    by (Some p) from = let at = from p refl in row_port_in s is u at.0 p u_in at.1

-- Where the ports of a plan's table lead.
use Rattle.std.proofs.Common.{◌≡◌, ◌≢◌, ℕ, ◌+◌, ◌<◌, Bool, true, false, List, length, set, replicate, Some, None, slice_index_or, refl, ap, sym, ◌∙◌, subst, inl, inr, arith, length-set, get_or-set_same, get_or-set_other}
use Rattle.std.proofs.lemmas.Bool.{cases_eq, cases_lt}
use Rattle.std.proofs.lemmas.List.{get_or_past, length-replicate, get_or-replicate}
use Rattle.std.proofs.lemmas.Option.{slice_get_within}
use Rattle.ir_model.specs.declared.Hop.{Hop}
use Rattle.ir_model.specs.declared.Kind.{Kind}
use Rattle.ir_model.specs.declared.Kind.TheVariants.{Tree, Shortest, Compact, Landmark}
use Rattle.ir_model.specs.Topology.{node_count, ports_of, port_at}
use Rattle.ir_model.specs.Plan.{Plan, IsPlan, IsTableOf, table_port, node_in, label_in}
use Rattle.ir_show.proofs.WalkLines.{plan_next}

-- no port leads from a node to itself
pub own_none : (s : Plan) → IsPlan s → (k : Kind) → s.kind ≡ k → (d : ℕ) → d < node_count s.topology → table_port s d d ≡ None
own_none s is Tree e d lt = (subst (λ (k : Kind). IsTableOf k s.topology s.order is.parents (table_port s)) e is.table).own d lt
own_none s is Shortest e d lt = (subst (λ (k : Kind). IsTableOf k s.topology s.order is.parents (table_port s)) e is.table).own d lt
own_none s is Compact e d lt = (subst (λ (k : Kind). IsTableOf k s.topology s.order is.parents (table_port s)) e is.table).nearer.own d lt
own_none s is (Landmark t) e d lt = (subst (λ (k : Kind). IsTableOf k s.topology s.order is.parents (table_port s)) e is.table).2.keeps.own d lt

pub goes_elsewhere : (s : Plan) → IsPlan s → (u d p : ℕ) → d < node_count s.topology → table_port s u d ≡ Some p → u ≢ d
goes_elsewhere s is u d p lt held e =
    let own : table_port s u d ≡ None = ap (λ (x : ℕ). table_port s x d) e ∙ own_none s is s.kind refl d lt in
    cc (held, own)

-- a port of the table leads somewhere
pub port_leads : (s : Plan) → IsPlan s → (u d p : ℕ) → u < node_count s.topology → d < node_count s.topology → table_port s u d ≡ Some p → (hop : Hop) × (port_at s.topology u p ≡ Some hop)
port_leads s is u d p hu hd held =
    let next = plan_next s is u d hu hd (goes_elsewhere s is u d p hd held) in
    let same : next.1.port ≡ p = cc (next.1.held, held) in
    (next.0, subst (λ (x : ℕ). port_at s.topology u x ≡ Some next.0) same next.1.there)

pub port_below : (s : Plan) → IsPlan s → (u d p : ℕ) → u < node_count s.topology → d < node_count s.topology → table_port s u d ≡ Some p → p < length (ports_of s.topology u)
port_below s is u d p hu hd held =
    let leads = port_leads s is u d p hu hd held in
    slice_get_within (ports_of s.topology u) p leads.0 leads.1

-- a place past the end has no mark
pub mark_within : (marks : List Bool) (q : ℕ) → slice_index_or marks q false ≡ true → q < length marks
mark_within marks q at = elim (cases_lt q (length marks)) [
  | inl l ↦ l
  | inr past ↦ absurd (let none : slice_index_or marks q false ≡ false = get_or_past marks q false past in cc (at, none))
]

-- The tables of a node by the ports of its row.
use Rattle.std.proofs.Common.{◌≡◌, ℕ, ◌+◌, ◌<◌, List, length, take, Option, None, sym, ap, subst, ◌∙◌, ◌++◌, ◌∷◌, []}
use Rattle.std.proofs.lemmas.List.{take_more, length-map}
use Rattle.ir_model.specs.Topology.{node_count}
use Rattle.ir_model.specs.Compiled.{IsDestinations, port_to}
use Rattle.ir_model.specs.Plan.{Plan, IsPlan, label_in, table_port, by_label}
use Rattle.ir_plan.proofs.Standing.{row_destinations}
use Rattle.ir_prefix.specs.Longest.{IsWidth}
use Rattle.ir_prefix.specs.Forwarding.{AreLongestFirst, IsDisjointTable, IsFewestDisjoint, IsFewestLines, IsForwardingTable, IsWellFormed, KeepsMatches, NamesPorts}
use Rattle.ir_prefix.specs.declared.line.TableLine.{TableLine}
use Rattle.ir_exports.specs.Tables.{AreDisjointLines, AreNestedLines}

-- one more port
pub ports_more : (s : Plan) → IsPlan s → (u a : ℕ) (port : Option ℕ) (ports more : List (Option ℕ)) → a < node_count s.topology → ports ≡ take a (by_label s u) → port ≡ port_to (by_label s u) a
    → more ≡ ports ++ port ∷ [] → more ≡ take (a + 1) (by_label s u)
ports_more s is u a port ports more a_in so_far held pushed =
    let len : length (by_label s u) ≡ node_count s.topology = length-map s.order (table_port s u) ∙ is.labels.every_label in
    let next = take_more (by_label s u) a None (subst (λ (k : ℕ). a < k) (sym len) a_in) in
    pushed ∙ ap (λ (ps : List (Option ℕ)). ps ++ port ∷ []) so_far ∙ ap (λ (p : Option ℕ). take a (by_label s u) ++ p ∷ []) held ∙ sym next

-- the ports are a list of destinations
pub are_destinations : (s : Plan) → IsPlan s → (u n own : ℕ) (ports : List (Option ℕ)) → u < node_count s.topology → n ≡ node_count s.topology → own ≡ label_in s u → ports ≡ by_label s u → IsDestinations n own ports
are_destinations s is u n own ports u_in nodes label by =
    subst (λ (k : ℕ). IsDestinations k own ports) (sym nodes)
    (subst (λ (a : ℕ). IsDestinations (node_count s.topology) a ports) (sym label)
    (subst (λ (ps : List (Option ℕ)). IsDestinations (node_count s.topology) (label_in s u) ps) (sym by) (row_destinations s is u u_in)))

pub nested_from : (s : Plan) (u n : ℕ) (ports : List (Option ℕ)) (table : List TableLine) → n ≡ node_count s.topology → ports ≡ by_label s u
    → ((b : ℕ) → IsWidth n b → IsWellFormed b table) → ((b : ℕ) → IsWidth n b → IsForwardingTable n b ports table) → ((b : ℕ) → IsWidth n b → IsFewestLines n b ports (length table))
    → NamesPorts ports table → AreLongestFirst table → ((b : ℕ) → KeepsMatches b table)
    → (b : ℕ) → IsWidth (node_count s.topology) b → AreNestedLines s b u table
nested_from s u n ports table nodes by well forwards fewest named order loads = λ b width.
    let N = node_count s.topology in
    let w : IsWidth n b = subst (λ (k : ℕ). IsWidth k b) (sym nodes) width in
    record {
      well = well b w;
      forwards = subst (λ (ps : List (Option ℕ)). IsForwardingTable N b ps table) by (subst (λ (k : ℕ). IsForwardingTable k b ports table) nodes (forwards b w));
      fewest = subst (λ (ps : List (Option ℕ)). IsFewestLines N b ps (length table)) by (subst (λ (k : ℕ). IsFewestLines k b ports (length table)) nodes (fewest b w));
      ports = subst (λ (ps : List (Option ℕ)). NamesPorts ps table) by named;
      order = order;
      loads = loads b;
    }

pub disjoint_from : (s : Plan) (u n : ℕ) (ports : List (Option ℕ)) (table : List TableLine) → n ≡ node_count s.topology → ports ≡ by_label s u
    → ((b : ℕ) → IsWidth n b → IsWellFormed b table) → ((b : ℕ) → IsWidth n b → IsDisjointTable n b ports table) → ((b : ℕ) → IsWidth n b → IsFewestDisjoint n b ports (length table))
    → NamesPorts ports table → AreLongestFirst table
    → (b : ℕ) → IsWidth (node_count s.topology) b → AreDisjointLines s b u table
disjoint_from s u n ports table nodes by well disjoint fewest named order = λ b width.
    let N = node_count s.topology in
    let w : IsWidth n b = subst (λ (k : ℕ). IsWidth k b) (sym nodes) width in
    record {
      well = well b w;
      disjoint = subst (λ (ps : List (Option ℕ)). IsDisjointTable N b ps table) by (subst (λ (k : ℕ). IsDisjointTable k b ports table) nodes (disjoint b w));
      fewest = subst (λ (ps : List (Option ℕ)). IsFewestDisjoint N b ps (length table)) by (subst (λ (k : ℕ). IsFewestDisjoint k b ports (length table)) nodes (fewest b w));
      ports = subst (λ (ps : List (Option ℕ)). NamesPorts ps table) by named;
      order = order;
    }

-- Where what is sent to a number goes, by lines that name the ports of the table.
use Rattle.std.proofs.Common.{◌≡◌, ◌≢◌, ℕ, ◌<◌, ◌⊎◌, List, [], ◌∷◌, ◌++◌, length, Some, None, refl, sym, ap, subst, ◌∙◌, arith, ⊎_elim}
use Rattle.std.proofs.lemmas.List.{get_or-map}
use Rattle.ir_model.specs.Topology.{node_count}
use Rattle.ir_model.specs.Table.{next_node, Continues, IsPrescribedWalk}
use Rattle.ir_model.specs.Plan.{Plan, IsPlan, label_in, node_in, table_port}
use Rattle.ir_tables.proofs.Ways.{next_of, next_in}
use Rattle.ir_plan.proofs.Standing.{row_destinations}
use Rattle.ir_prefix.specs.Forwarding.{IsMatch}
use Rattle.ir_prefix.specs.declared.line.TableLine.{TableLine}
use Rattle.ir_exports.specs.Sent.{EndsAfter, GoesAllTheWay, IsSentOn, GoesThrough, KeepsToWalk}

-- ---- ways by lines that name the table's ports

module _ (s : Plan) (is : IsPlan s) (bits x d : ℕ) (d_in : d < node_count s.topology) (lines : ℕ → List TableLine) where
  -- each longest match at another node than that of the label names the table's port
  abbrev pub Named : Type 0
  Named = (u : ℕ) (m : TableLine) → u < node_count s.topology → label_in s u ≢ x → IsMatch bits (lines u) x m → m.port ≡ table_port s u d

  -- and there is one
  abbrev pub Covered : Type 0
  Covered = (u : ℕ) → u < node_count s.topology → label_in s u ≢ x → (m : TableLine) × IsMatch bits (lines u) x m

  -- the table has no port at the end
  none_at_end : table_port s d d ≡ None
  none_at_end =
      let row = row_destinations s is d d_in in
      let len : length s.order ≡ node_count s.topology = is.labels.every_label in
      let label = is.labels.label d d_in in
      sym (get_or-map (table_port s d) s.order (label_in s d) 0 None (omega (arith, label, len)) ∙ ap (table_port s d) (is.labels.there d d_in)) ∙ row.none

  -- a step is one of the table
  step_of : Named → (u v : ℕ) → u < node_count s.topology → IsSentOn s bits lines x u v → (u ≢ d) × (next_node s.topology (table_port s) u d ≡ Some v)
  step_of named u v u_in g =
      let held : table_port s u d ≡ Some g.port = sym (named u g.line u_in g.other g.match) ∙ g.by in
      let other : u ≢ d = λ e. (let at : table_port s u d ≡ None = ap (λ (y : ℕ). table_port s y d) e ∙ none_at_end in cc (at, held)) in
      (other, rw held g.to)

  -- a step of the table is one by the lines
  step_by : Named → Covered → (label_in s d ≡ x ⊎ ((y : ℕ) → y < node_count s.topology → label_in s y ≢ x)) → (u v : ℕ) → u < node_count s.topology → u ≢ d → next_node s.topology (table_port s) u d ≡ Some v → IsSentOn s bits lines x u v
  step_by named covered at u v u_in other step =
      let apart : label_in s u ≢ x = λ e. ⊎_elim
      (λ (own : label_in s d ≡ x). other (sym (is.labels.there u u_in) ∙ ap (node_in s) (e ∙ sym own) ∙ is.labels.there d d_in))
      (λ none. none u u_in e) at in
      let next = next_of s.topology (table_port s) u d v step in
      let m = covered u u_in apart in
      record {
        other = apart;
        line = m.0;
        match = m.1;
        port = next.1.port;
        by = named u m.0 u_in apart m.1 ∙ next.1.held;
        to = rw next.1.there (ap Some next.2);
      }

  goes_on : Named → (u : ℕ) (rest ws : List ℕ) → u < node_count s.topology → Continues s.topology (table_port s) d u ws → GoesThrough s bits lines x u rest
      → (more : List ℕ) × Continues s.topology (table_port s) d u (rest ++ more)
  goes_on named u [] ws u_in way goes = (ws, way)
  goes_on named u (v ∷ rest) [] u_in way goes = absurd ((step_of named u v u_in goes.0).0 way)
  goes_on named u (v ∷ rest) (y ∷ ws) u_in way goes =
      let step = step_of named u v u_in goes.0 in
      let same : y ≡ v = cc (way.1, step.1) in
      let v_in = next_in s.topology is.topology (table_port s) u d v step.1 in
      let C : ℕ → Type 0 = λ z. Continues s.topology (table_port s) d z ws in
      let later = goes_on named v rest ws v_in (subst C same way.2) goes.1 in
      (later.0, (step.0, step.1, later.1))

  all_ends : Named → ((u v : ℕ) → u < node_count s.topology → u ≢ d → next_node s.topology (table_port s) u d ≡ Some v → IsSentOn s bits lines x u v)
      → (u : ℕ) (rest ws : List ℕ) → u < node_count s.topology → Continues s.topology (table_port s) d u ws → GoesThrough s bits lines x u rest → EndsAfter s bits lines x u rest
      → Continues s.topology (table_port s) d u rest
  all_ends named ahead u [] [] u_in way goes ends = way
  all_ends named ahead u [] (y ∷ ws) u_in way goes ends = absurd (ends y (ahead u y u_in way.0 way.1))
  all_ends named ahead u (v ∷ rest) [] u_in way goes ends = absurd ((step_of named u v u_in goes.0).0 way)
  all_ends named ahead u (v ∷ rest) (y ∷ ws) u_in way goes ends =
      let step = step_of named u v u_in goes.0 in
      let same : y ≡ v = cc (way.1, step.1) in
      let v_in = next_in s.topology is.topology (table_port s) u d v step.1 in
      let C : ℕ → Type 0 = λ z. Continues s.topology (table_port s) d z ws in
      (step.0, step.1, all_ends named ahead v rest ws v_in (subst C same way.2) goes.1 ends)

  all_goes : ((u v : ℕ) → u < node_count s.topology → u ≢ d → next_node s.topology (table_port s) u d ≡ Some v → IsSentOn s bits lines x u v)
      → (u : ℕ) (rest : List ℕ) → u < node_count s.topology → Continues s.topology (table_port s) d u rest → GoesThrough s bits lines x u rest
  all_goes ahead u [] u_in way = tt
  all_goes ahead u (v ∷ rest) u_in way =
      (ahead u v u_in way.0 way.1, all_goes ahead v rest (next_in s.topology is.topology (table_port s) u d v way.1) way.2)

  -- the walk to the end, from its second node on
  walk_on : (u : ℕ) → u < node_count s.topology → (ws : List ℕ) × Continues s.topology (table_port s) d u ws
  walk_on u u_in =
      let walk = is.walks u d u_in d_in in
      by walk.0 walk.1
    where
      by : (walk : List ℕ) → IsPrescribedWalk s.topology (table_port s) u d walk → (ws : List ℕ) × Continues s.topology (table_port s) d u ws
      by [] p = absurd p
      by (y ∷ ws) p = (ws, p.1)

  pub keeps_to_walk : Named → KeepsToWalk s bits lines x d
  keeps_to_walk named = λ u rest u_in goes.
      let walk = walk_on u u_in in
      let more = goes_on named u rest walk.0 u_in walk.1 goes in
      (more.0, (refl, more.1))

  pub goes_all_the_way : Named → Covered → (label_in s d ≡ x ⊎ ((y : ℕ) → y < node_count s.topology → label_in s y ≢ x)) → GoesAllTheWay s bits lines x d
  goes_all_the_way named covered at =
      let ahead = step_by named covered at in
      record {
        goes = λ u rest u_in walk. all_goes ahead u rest u_in walk.1;
        ends = λ u rest u_in goes ends.
            let walk = walk_on u u_in in
            (refl, all_ends named ahead u rest walk.0 u_in walk.1 goes ends);
      }

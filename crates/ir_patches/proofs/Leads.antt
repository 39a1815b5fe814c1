-- The rows of nodes by starts and neighbours.
use Rattle.std.proofs.Common.{◌≡◌, ◌<◌, ◌==◌, ◌≢◌, ◌⊎◌, ◌↔◌, ◌∙◌, ℕ, zero, suc, Bool, true, false, not, ◌||◌, List, [], ◌∷◌, length, map, get_or, inl, inr, Option, Some, refl, sym, ap, subst, arith, true≢false}
use Rattle.std.specs.Prelude.{All, IsTrue}
use Rattle.std.proofs.lemmas.Bool.{cases_eq, eq-eqb, ne_eqb}
use Rattle.std.proofs.lemmas.List.Elements.{All-filter}
use Rattle.ir_diff.specs.declared.changes.Lead.{Lead}
use Rattle.ir_diff.specs.Changes.{AscendByStart, has_lead, lead_starts, put_leads, removed_starts}
use Rattle.ir_model.specs.Row.{Start, labels}
use Rattle.std.specs.List.Sorted.{IsStrictlyIncreasing}
use Rattle.ir_model.specs.Plan.{IsPlan, Plan, label_in, row_in}
use Rattle.ir_model.specs.declared.Hop.{Hop}
use Rattle.ir_model.specs.Topology.{Topology, node_count, port_at}
use Rattle.ir_show.specs.PlanText.{node_by}
use Rattle.std.specs.Option.{option_map_or}
use Rattle.ir_patches.specs.Nodes.{numbers_in}
use Rattle.ir_patches.specs.DiffText.{AreNamed, NodeChanges, TwoPlans, changes_at, is_changed, lead_of, new_leads, old_leads, old_number}
use Rattle.ir_patches.proofs.Numbers.{numbers_within}

-- they start where the intervals do
pub starts_are : (numbers : List ℕ) (net : Topology) (u : ℕ) (row : List Start) → lead_starts (map (lead_of numbers net u) row) ≡ labels row
starts_are numbers net u [] = refl
starts_are numbers net u (s ∷ row) = ap (λ (ks : List ℕ). s.label ∷ ks) (starts_are numbers net u row)

-- and lead to nodes
nodes_within : (n : ℕ) (numbers : List ℕ) (net : Topology) (u : ℕ) → ((v : ℕ) → get_or numbers v 0 < n) → (row : List Start) → All (λ (m : Lead). m.node < n) (map (lead_of numbers net u) row)
nodes_within n numbers net u within [] k d lt = absurd (omega (arith, lt))
nodes_within n numbers net u within (s ∷ row) zero d lt = within _
nodes_within n numbers net u within (s ∷ row) (suc k) d lt = nodes_within n numbers net u within row k d (omega (arith, lt))

pub put_within : (p : TwoPlans) (u : ℕ) → 0 < length p.old_nodes → All (λ (m : Lead). m.node < length p.old_nodes) (changes_at p u).put
put_within p u some =
    All-filter (λ m. not (has_lead (old_leads p u) m)) (λ (m : Lead). m.node < length p.old_nodes) (new_leads p u)
    (nodes_within (length p.old_nodes) (numbers_in p.old_nodes p.new_nodes) p.new.topology u (λ v. numbers_within p.old_nodes p.new_nodes v some) (row_in p.new u))

-- ---- what changes

none_long : {X : Type 0} (xs : List X) → not (length xs == 0) ≡ false → xs ≡ []
none_long [] is = refl
none_long (x ∷ xs) is =
    let some : (length (x ∷ xs) == 0) ≡ false = ne_eqb (length (x ∷ xs)) 0 (λ e. absurd (omega (arith, e))) in
    absurd (true≢false (sym (ap not some) ∙ is))

by_rows : (removed : List ℕ) (put old new : List Lead) (r p : Bool) → not (length removed == 0) ≡ r → not (length put == 0) ≡ p
    → ((old ≡ new) ↔ ((removed ≡ []) × (put ≡ []))) → ((r || p) ≡ true → old ≢ new) × (old ≢ new → (r || p) ≡ true)
by_rows removed put old new true p r_is p_is same = (λ t e. true≢false (sym r_is ∙ ap (λ (ks : List ℕ). not (length ks == 0)) ((same.0 e).0)), λ ne. refl)
by_rows removed put old new false true r_is p_is same = (λ t e. true≢false (sym p_is ∙ ap (λ (ms : List Lead). not (length ms == 0)) ((same.0 e).1)), λ ne. refl)
by_rows removed put old new false false r_is p_is same = (λ t. absurd (true≢false (sym t)), λ ne. absurd (ne (same.1 (none_long removed r_is, none_long put p_is))))

by_labels : (was label : ℕ) (changed : Bool) (old new : List Lead) → (changed ≡ true → old ≢ new) × (old ≢ new → changed ≡ true) → IsTrue (not (was == label) || changed) ↔ ((was ≢ label) ⊎ (old ≢ new))
by_labels was label changed old new rows =
    elim (cases_eq was label) [
      | inl same ↦ rw (eq-eqb was label same) (
        λ t. inr (rows.0 t),
        λ either. elim either [
          | inl ne ↦ absurd (ne same)
          | inr ne ↦ rows.1 ne
        ],
      )
      | inr other ↦ rw (ne_eqb was label other) (λ t. inl other, λ either. refl)
    ]

-- a node changes where its label or its row is another one
pub differs : (c : NodeChanges) (old new : List Lead) → ((old ≡ new) ↔ ((c.removed ≡ []) × (c.put ≡ []))) → IsTrue (is_changed c) ↔ ((c.was ≢ c.label) ⊎ (old ≢ new))
differs c old new same =
    by_labels c.was c.label (not (length c.removed == 0) || not (length c.put == 0)) old new (by_rows c.removed c.put old new (not (length c.removed == 0)) (not (length c.put == 0)) refl refl same)

-- a start of a row with its neighbour, as it is read
pub lead_is : (numbers : List ℕ) (net : Topology) (u : ℕ) (start : Start) (label port : ℕ) (hop : Hop) (node : ℕ) → label ≡ start.label → port ≡ start.port → port_at net u port ≡ Some hop → node ≡ get_or numbers hop.node 0
    → (let lead : Lead = record { start = label; node = node } in lead) ≡ lead_of numbers net u start
lead_is numbers net u start label port hop node its_label its_port leads_to is =
    let made : ℕ → ℕ → Lead = λ a b. record { start = a; node = b } in
    let at : port_at net u start.port ≡ Some hop = subst (λ (p : ℕ). port_at net u p ≡ Some hop) its_port leads_to in
    let to : node_by net u start.port ≡ hop.node = ap (λ (o : Option Hop). option_map_or (λ h. h.node) o 0) at in
    ap (λ a. made a node) its_label ∙ ap (made start.label) (is ∙ ap (λ (v : ℕ). get_or numbers v 0) (sym to))

-- what changes, of what was read
pub changes_are : (p : TwoPlans) (u was label : ℕ) (removed : List ℕ) (put old new : List Lead) → was ≡ label_in p.old (old_number p u) → label ≡ label_in p.new u → old ≡ old_leads p u → new ≡ new_leads p u
    → removed ≡ removed_starts old new → put ≡ put_leads old new → (let c : NodeChanges = record { was = was; label = label; removed = removed; put = put } in c) ≡ changes_at p u
changes_are p u was label removed put old new was_is label_is old_is new_is removed_is put_is =
    let made : ℕ → ℕ → List ℕ → List Lead → NodeChanges = λ w l r q. record { was = w; label = l; removed = r; put = q } in
    ap (λ w. made w label removed put) was_is
    ∙ ap (λ l. made (changes_at p u).was l removed put) label_is
    ∙ ap (λ r. made (changes_at p u).was (changes_at p u).label r put) (removed_is ∙ ap (λ (o : List Lead). removed_starts o new) old_is ∙ ap (removed_starts (old_leads p u)) new_is)
    ∙ ap (made (changes_at p u).was (changes_at p u).label (changes_at p u).removed) (put_is ∙ ap (λ (o : List Lead). put_leads o new) old_is ∙ ap (put_leads (old_leads p u)) new_is)

-- the row that was read by these numbers
pub row_read : (numbers known : List ℕ) (net : Topology) (rows : ℕ → List Start) (v w : ℕ) (leads : List Lead) → leads ≡ map (lead_of numbers net v) (rows v) → numbers ≡ known → v ≡ w → leads ≡ map (lead_of known net w) (rows w)
row_read numbers known net rows v w leads is numbers_are same =
    is ∙ ap (λ (ns : List ℕ). map (lead_of ns net v) (rows v)) numbers_are ∙ ap (λ (x : ℕ). map (lead_of known net x) (rows x)) same

-- ---- the rows ascend

row_up : (s : Plan) → IsPlan s → (numbers : List ℕ) (u : ℕ) → u < node_count s.topology → AscendByStart (map (lead_of numbers s.topology u) (row_in s u))
row_up s is numbers u u_in = subst (λ (ks : List ℕ). IsStrictlyIncreasing ks) (sym (starts_are numbers s.topology u (row_in s u))) (is.rows u u_in).ascending

pub new_up : (p : TwoPlans) → AreNamed p → (u : ℕ) → u < node_count p.new.topology → AscendByStart (new_leads p u)
new_up p named u u_in = row_up p.new named.new (numbers_in p.old_nodes p.new_nodes) u u_in

pub old_up : (p : TwoPlans) → AreNamed p → (u : ℕ) → AscendByStart (old_leads p u)
old_up p named u =
    let root = named.old.root_in in
    let count = named.old_named in
    let some : 0 < length p.old_nodes = omega (arith, root, count) in
    let within = numbers_within p.old_nodes p.new_nodes u some in
    row_up p.old named.old (numbers_in p.old_nodes p.old_nodes) (old_number p u) (omega (arith, within, count))

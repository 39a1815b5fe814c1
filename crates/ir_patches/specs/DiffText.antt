-- The text of what each node changes between two plans over networks of the same nodes.
use Rattle.std.specs.Prelude.{◌≡◌, ◌≢◌, ◌⊎◌, ℕ, ◌==◌, ◌||◌, Bool, not, if◌then◌else◌, List, [], ◌∷◌, ◌++◌, length, map, flat_map, sum_by, decimal, codes, nat_lt, slice_index}
use Rattle.std.specs.List.{range_with_len}
use Rattle.ir_model.specs.Graph.{Name}
use Rattle.ir_model.specs.Topology.{Topology, node_count}
use Rattle.ir_model.specs.Row.{Start}
use Rattle.ir_model.specs.Plan.{IsPlan, Plan, label_in, row_in}
use Rattle.ir_diff.specs.declared.changes.Lead.{Lead}
use Rattle.ir_diff.specs.Changes.{removed_starts, put_leads}
use Rattle.ir_trace.specs.Written.{name_at}
use Rattle.ir_show.specs.PlanText.{kind_text, node_by}
use Rattle.ir_show.specs.Words.{line_text}
use Rattle.ir_patches.specs.declared.counts.Counts.{Counts}
use Rattle.ir_patches.specs.Nodes.{numbers_in}

-- two plans, and the names of the nodes of their networks, which are the same, in the order of each
pub record TwoPlans : Type 0 where
  pub old_nodes : List Name
  pub old : Plan
  pub new_nodes : List Name
  pub new : Plan

-- each is a plan over a network of as many nodes
pub record AreNamed (p : TwoPlans) : Type 0 where
  pub old : IsPlan p.old
  pub new : IsPlan p.new
  pub old_named : node_count p.old.topology ≡ length p.old_nodes
  pub new_named : node_count p.new.topology ≡ length p.new_nodes

-- A row of a plan by its starts and its neighbours. Ports are numbered anew where a link goes or comes, so a neighbour is
-- known by its name, which stands as the number that the old network has for it.
abbrev pub lead_of : List ℕ → Topology → ℕ → Start → Lead
lead_of numbers topology u s = record { start = s.label; node = slice_index numbers (node_by topology u s.port) }

abbrev pub leads_in : (old_nodes nodes : List Name) → Plan → ℕ → List Lead
leads_in old_nodes nodes plan u = map (lead_of (numbers_in old_nodes nodes) plan.topology u) (row_in plan u)

-- the number in the old network of the node u of the new one
abbrev pub old_number : TwoPlans → ℕ → ℕ
old_number p u = slice_index (numbers_in p.old_nodes p.new_nodes) u

-- the rows of that node
abbrev pub old_leads : TwoPlans → ℕ → List Lead
old_leads p u = leads_in p.old_nodes p.old_nodes p.old (old_number p u)

abbrev pub new_leads : TwoPlans → ℕ → List Lead
new_leads p u = leads_in p.old_nodes p.new_nodes p.new u

-- what a node changes: its labels by both plans, the starts that go, and those that come or lead to another neighbour
pub record NodeChanges : Type 0 where
  pub was : ℕ
  pub label : ℕ
  pub removed : List ℕ
  pub put : List Lead

abbrev pub changes_at : TwoPlans → ℕ → NodeChanges
changes_at p u = record {
  was = label_in p.old (old_number p u);
  label = label_in p.new u;
  removed = removed_starts (old_leads p u) (new_leads p u);
  put = put_leads (old_leads p u) (new_leads p u);
}

-- the label is another one
abbrev pub is_relabelled : NodeChanges → Bool
is_relabelled c = not (c.was == c.label)

-- the label or the row is another one
abbrev pub is_changed : NodeChanges → Bool
is_changed c = is_relabelled c || (not (length c.removed == 0) || not (length c.put == 0))

-- the label of a node of the new network, or its row, is another one than that of the old network's node of the same name
abbrev pub DiffersAt : TwoPlans → ℕ → Type 0
DiffersAt p u = (label_in p.old (old_number p u) ≢ label_in p.new u) ⊎ (old_leads p u ≢ new_leads p u)

-- ---- its text

-- `- START`
abbrev pub removed_words : ℕ → List (List ℕ)
removed_words start = codes "-" ∷ decimal start ∷ []

-- `+ START NEIGHBOUR`
abbrev pub put_words : List Name → Lead → List (List ℕ)
put_words old_nodes lead = codes "+" ∷ decimal lead.start ∷ name_at old_nodes lead.node ∷ []

-- the first ones of what is put whose starts are below one, and those from there on
abbrev pub put_below : ℕ → List Lead → List Lead
put_below start [] = []
put_below start (lead ∷ put) = if nat_lt lead.start start then lead ∷ put_below start put else []

abbrev pub put_from : ℕ → List Lead → List Lead
put_from start [] = []
put_from start (lead ∷ put) = if nat_lt lead.start start then put_from start put else lead ∷ put

-- what is removed and what is put, by ascending starts
abbrev pub step_words : List Name → List ℕ → List Lead → List (List ℕ)
step_words old_nodes [] put = flat_map (put_words old_nodes) put
step_words old_nodes (start ∷ removed) put =
    flat_map (put_words old_nodes) (put_below start put) ++ (removed_words start ++ step_words old_nodes removed (put_from start put))

-- `NODE WAS LABEL`, and what is removed and put
abbrev pub change_words : List Name → Name → NodeChanges → List (List ℕ)
change_words old_nodes name c = name ∷ decimal c.was ∷ decimal c.label ∷ step_words old_nodes c.removed c.put

-- the line of a node whose label or row is another one; none of another node
abbrev pub change_line : TwoPlans → ℕ → List ℕ
change_line p u = if is_changed (changes_at p u) then line_text (change_words p.old_nodes (name_at p.new_nodes u) (changes_at p u)) else []

-- one where it is so
abbrev pub as_count : Bool → ℕ
as_count is = if is then 1 else 0

-- how many of so many first nodes of the new network change, how many of these get another label, and how many starts are
-- removed and put
abbrev pub counts_to : TwoPlans → ℕ → Counts
counts_to p n = record {
  changed = sum_by (λ u. as_count (is_changed (changes_at p u))) (range_with_len 0 n);
  relabelled = sum_by (λ u. as_count (is_relabelled (changes_at p u))) (range_with_len 0 n);
  removed = sum_by (λ u. length (changes_at p u).removed) (range_with_len 0 n);
  put = sum_by (λ u. length (changes_at p u).put) (range_with_len 0 n);
}

-- `diff KIND KIND N CHANGED RELABELLED REMOVED PUT`
abbrev pub diff_head : (old new : Plan) → Counts → List (List ℕ)
diff_head old new counts =
    codes "diff" ∷ kind_text old.kind ∷ kind_text new.kind ∷ decimal (node_count new.topology) ∷ decimal counts.changed ∷ decimal counts.relabelled
    ∷ decimal counts.removed ∷ decimal counts.put ∷ []

-- the first line, and the lines of nodes, in the order of the new network
abbrev pub diff_text : TwoPlans → List ℕ
diff_text p =
    line_text (diff_head p.old p.new (counts_to p (node_count p.new.topology))) ++ flat_map (change_line p) (range_with_len 0 (node_count p.new.topology))

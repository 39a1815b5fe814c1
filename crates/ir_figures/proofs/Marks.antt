-- The marks of each node's block.
use Rattle.std.proofs.Common.{◌≡◌, ℕ, ◌<◌, Bool, List, [], length, get_or, ap, sym, ◌∙◌}
use Rattle.std.specs.Global.{Vec}
use Rattle.std.specs.Prelude.{slice_index_or}
use Rattle.std.proofs.lemmas.List.{length-map, get_or-map}
use Rattle.ir_figures.specs.Arcs.{marks_of, width_of}

pub marks_len : (leads : List (Vec Bool)) → length (marks_of leads) ≡ length leads
marks_len leads = length-map leads (λ row. row.items)

pub marks_at : (leads : List (Vec Bool)) (c : ℕ) (row : Vec Bool) → c < length leads → row ≡ get_or leads c row → slice_index_or (marks_of leads) c [] ≡ row.items
marks_at leads c row lt is = get_or-map (λ r. r.items) leads c row [] lt ∙ ap (λ r. r.items) (sym is)

pub width_at : (leads : List (Vec Bool)) (c : ℕ) (row : Vec Bool) → c < length leads → row ≡ get_or leads c row → width_of (marks_of leads) c ≡ length row.items
width_at leads c row lt is = ap length (marks_at leads c row lt is)

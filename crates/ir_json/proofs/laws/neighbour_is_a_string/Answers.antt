use Rattle.std.proofs.Common.{◌≡◌, Bool, true, false, refl, sym, ap, ◌∙◌, bytes_eq, codes, true≢false}
use Rattle.ir_model.specs.Graph.{Name, is_name}
use Rattle.ir_model.proofs.Names.{same_names}
use Rattle.ir_json.specs.Words.{goal as goal_of, json_string}
use Rattle.ir_json.proofs.laws.neighbour_is_a_string.Goals as goal

as_string : (name : Name) (is_none : Bool) → bytes_eq name (codes "#") ≡ is_none → is_name name ≡ true → goal_of name ≡ json_string name
as_string name true same is = absurd (true≢false (sym is ∙ ap is_name (same_names name (codes "#") same)))
as_string name false other is = rw other refl

pub returns : goal.returns
returns c name is = as_string name (bytes_eq name (codes "#")) refl is

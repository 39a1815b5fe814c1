-- The lines of the commands that were refused, put one after another.
use Rattle.std.proofs.Common.{◌≡◌, ℕ, ◌+◌, ◌<◌, List, [], ◌++◌, length, take, get_or, flat_map, ap, ◌∙◌, sym}
use Rattle.std.proofs.lemmas.List.{flat_map_more, take_more}
use Rattle.ir_core.specs.declared.event.Refused.{Refused}
use Rattle.ir_shell.specs.Lives.{refusal_line}

-- one more refusal of a command
pub refusals_more : (lines : List ℕ) (refusals : List (ℕ × Refused)) (i : ℕ) (d : ℕ × Refused) → i < length refusals
    → flat_map (refusal_line lines) (take i refusals) ++ refusal_line lines (get_or refusals i d) ≡ flat_map (refusal_line lines) (take (i + 1) refusals)
refusals_more lines refusals i d within =
    flat_map_more (refusal_line lines) [] (take i refusals) (get_or refusals i d) ∙ ap (flat_map (refusal_line lines)) (sym (take_more refusals i d within))

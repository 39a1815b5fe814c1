-- What the words of a line point to.
use Rattle.std.specs.Prelude.{ℕ, List, map}
use Rattle.std.specs.Borrow.{Bor}
use Rattle.ir_model.specs.Graph.{Name}

-- the texts that a list of words points to
abbrev pub pointed_texts : List (Bor (List ℕ)) → List Name
pointed_texts found = map (λ word. word.now) found

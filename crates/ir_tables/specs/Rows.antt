-- Rows that lie one after the other in one list.
use Rattle.std.specs.Prelude.{◌≡◌, ◌-◌, ◌≤◌, ℕ, List, [], ◌∷◌, length, take, drop}
use Rattle.ir_model.specs.declared.Hop.{Hop}

-- the rows that end at these places of a list, the first of them beginning at one
abbrev pub rows_by : ℕ → List ℕ → List Hop → List (List Hop)
rows_by begin [] hops = []
rows_by begin (end ∷ ends) hops = take (end - begin) (drop begin hops) ∷ rows_by end ends hops

-- the places ascend, from one on, and the last is the list's end
abbrev pub IsCut : ℕ → List ℕ → List Hop → Type 0
IsCut begin [] hops = begin ≡ length hops
IsCut begin (end ∷ ends) hops = (begin ≤ end) × IsCut end ends hops

-- the rows that begin at these places; the last place is the end of the last row
abbrev pub rows_in : List ℕ → List Hop → List (List Hop)
rows_in [] hops = []
rows_in (begin ∷ ends) hops = rows_by begin ends hops

-- there is a place at least, they ascend, and the last is the list's end
abbrev pub AreCuts : List ℕ → List Hop → Type 0
AreCuts [] hops = ⊥
AreCuts (begin ∷ ends) hops = IsCut begin ends hops

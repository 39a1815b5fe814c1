-- The words of a table: which they are, level by level.
use Rattle.std.specs.Prelude.{ℕ, zero, suc, ◌+◌, ◌-◌, ◌*◌, ◌/◌, List, [], ◌∷◌, ◌++◌, length, map, slice_index, slice_index_or, nat_le, if◌then◌else◌, ◌==◌}
use Rattle.ir_lines.specs.declared.Owner.{Owner}
use Rattle.ir_model.specs.Row.{Start, start_ports}

-- the word of a start: its label and its port
abbrev pub start_word : Start → ℕ
start_word s = s.label * 65536 + s.port

-- where there is no start, a word that is above each key
abbrev pub no_word : ℕ
no_word = 4294967295

-- the starts with one at the label 0: where there is none, the last start's interval goes round, so it has its port
abbrev pub from_zero : List Start → List Start
from_zero [] = []
from_zero (s ∷ rest) =
    if s.label == 0 then s ∷ rest
    else record { label = 0; port = slice_index (start_ports (s ∷ rest)) (length rest) } ∷ s ∷ rest

-- the k-th word
abbrev pub row_word : List Start → ℕ → ℕ
row_word row k = slice_index_or (map start_word (from_zero row)) k no_word

-- so many values of a function, at the multiples of a stride
unfoldable pub level : (ℕ → ℕ) → ℕ → ℕ → List ℕ
level f stride zero = []
level f stride (suc count) = level f stride count ++ f (stride * count) ∷ []

-- how many groups of `size` so many make
abbrev pub groups : ℕ → ℕ → ℕ
groups count size = (count + (size - 1)) / size

-- the head of a table: its epoch, how many labels there are, the own one, the depth, the first line of the lowest level
unfoldable pub table_head : Owner → ℕ → ℕ → List ℕ
table_head owner depth base =
    owner.epoch ∷ owner.labels ∷ owner.own ∷ depth ∷ base ∷ 0 ∷ 0 ∷ 0 ∷ 0 ∷ 0 ∷ 0 ∷ 0 ∷ 0 ∷ 0 ∷ 0 ∷ 0 ∷ []

-- A tree of lines of 32 words. Its first line has the head and the root: all words, where there are 16 of them at most.
abbrev pub root_alone : Owner → (ℕ → ℕ) → List ℕ
root_alone owner f = table_head owner 0 0 ++ level f 1 16

-- a tree of up to 512 words: the root has those at the multiples of 32, and all words are below it, in one run of lines
abbrev pub two_levels : Owner → (ℕ → ℕ) → ℕ → List ℕ
two_levels owner f count = table_head owner 1 1 ++ level f 32 16 ++ level f 1 (32 * groups count 32)

-- a tree of more words: the root has those at the multiples of 1024, the middle level those at the multiples of 32, the
-- lowest one all
abbrev pub three_levels : Owner → (ℕ → ℕ) → ℕ → List ℕ
three_levels owner f count =
    table_head owner 2 (1 + groups count 1024) ++ level f 1024 16 ++ level f 32 (32 * groups count 1024)
    ++ level f 1 (32 * groups count 32)

-- the tree of so many words
abbrev pub tree : Owner → (ℕ → ℕ) → ℕ → List ℕ
tree owner f count =
    if nat_le count 16 then root_alone owner f
    else if nat_le count 512 then two_levels owner f count
    else three_levels owner f count

-- how many lines it has
abbrev pub tree_lines : ℕ → ℕ
tree_lines count =
    if nat_le count 16 then 1 else if nat_le count 512 then 1 + groups count 32
    else 1 + groups count 1024 + groups count 32

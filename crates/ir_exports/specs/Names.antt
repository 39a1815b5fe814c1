-- Names as they are in XML.
use Rattle.std.specs.Prelude.{ℕ, ◌==◌, if◌then◌else◌, nat_lt, List, [], ◌∷◌, ◌++◌, length, take, flat_map, codes}
use Rattle.ir_model.specs.Graph.{Name}

-- `&`, `<` and `>` are written by their names
abbrev pub xml_byte : ℕ → List ℕ
xml_byte b =
    if b == 38 then codes "&amp;" else (if b == 60 then codes "&lt;" else (if b == 62 then codes "&gt;" else b ∷ []))

abbrev pub xml : List ℕ → List ℕ
xml text = flat_map xml_byte text

-- a name of more than sixteen bytes is cut
abbrev pub short_name : Name → List ℕ
short_name name = if nat_lt 16 (length name) then xml (take 14 name) ++ codes ".." else xml name

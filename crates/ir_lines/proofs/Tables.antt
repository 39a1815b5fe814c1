-- A table leads each label to its port.
use Rattle.std.proofs.Common.{◌≡◌, ℕ, suc, ◌+◌, ◌*◌, ◌/◌, ◌%◌, ◌<◌, ◌≤◌, ◌⊎◌, List, ◌++◌, length, replicate, get_or, refl, sym, ap, ◌∙◌, subst, inl, inr, arith, Bool, true, false, cond, leb}
use Rattle.std.proofs.lemmas.Bool.{leb-true}
use Rattle.std.proofs.lemmas.List.{append_assoc, length-append, get_or-append-add}
use Rattle.ir_model.specs.Row.{Start, IsAscending, HasPort}
use Rattle.ir_lines.specs.declared.Owner.{Owner}
use Rattle.ir_lines.specs.Words.{no_word, from_zero, row_word, groups, table_head, tree, root_alone, two_levels, three_levels}
use Rattle.ir_lines.specs.Looks.{IsLed, LinesLeadTo, LeadsByByte, byte_in, byte_of, label_key, table_line, depth_of}
use Rattle.ir_lines.specs.Tables.{IsByteTable}
use Rattle.ir_lines.proofs.Found.{ArePorts, word_found, word_past, word_first}
use Rattle.ir_lines.proofs.Leads.{OfRoot, OfTwo, OfThree, of_root, of_two, of_three, line_word, length-head, depth_in}
use Rattle.ir_lines.proofs.Reaches.{IsReached, root_reaches, root_led, two_reaches, two_led, three_reaches, three_led}

-- which of the three trees it is
abbrev Which : Owner → (ℕ → ℕ) → ℕ → List ℕ → Type 0
Which owner f count words =
    ((count ≤ 16) × (words ≡ root_alone owner f)) ⊎ (((count ≤ 512) × (words ≡ two_levels owner f count)) ⊎ (words ≡ three_levels owner f count))

which_by : (b d : Bool) (owner : Owner) (f : ℕ → ℕ) (count : ℕ) (words : List ℕ) → leb count 16 ≡ b → leb count 512 ≡ d
    → words ≡ cond b (root_alone owner f) (cond d (two_levels owner f count) (three_levels owner f count)) → Which owner f count words
which_by true d owner f count words few more e = inl (leb-true count 16 few, e)
which_by false true owner f count words few more e = inr (inl (leb-true count 512 more, e))
which_by false false owner f count words few more e = inr (inr e)

which : (owner : Owner) (f : ℕ → ℕ) (count : ℕ) (words : List ℕ) → words ≡ tree owner f count → Which owner f count words
which owner f count words e = which_by (leb count 16) (leb count 512) owner f count words refl refl e

module _ (owner : Owner) (row : List Start) (n label : ℕ) (up : IsAscending row) (ports : ArePorts row) (few : length (from_zero row) ≤ 16384)
    (is : label < n) (small : label < 16384) (words : List ℕ) where
  reached_port : (port : ℕ) → IsReached (row_word row) (label_key label) port → HasPort n row label port
  reached_port port r =
      let e : r.k + 1 ≡ suc r.k = omega arith in
      subst (λ (p : ℕ). HasPort n row label p) (sym r.is) (word_found row n label up ports is small r.k (r.k + 1) e r.at_most r.next)

  abbrev count : ℕ
  count = length (from_zero row)

  root_port : (port : ℕ) → count ≤ 16 → OfRoot (row_word row) words → LinesLeadTo words label port → HasPort n row label port
  root_port port fits o lead =
      let d = o.depth in
      elim lead [
        | inl b ↦ let e = b.depth in absurd (omega arith)
        | inr rest ↦ elim rest [
          | inl r ↦ reached_port port (root_reaches (row_word row) count label (λ k past. word_past row label k small past) words o fits port r)
          | inr more ↦ elim more [
            | inl t ↦ let e = t.depth in absurd (omega arith)
            | inr h ↦ let e = h.depth in absurd (omega arith)
          ]
        ]
      ]

  two_port : (port : ℕ) → count ≤ 512 → OfTwo (row_word row) count words → LinesLeadTo words label port → HasPort n row label port
  two_port port fits o lead =
      let d = o.depth in
      elim lead [
        | inl b ↦ let e = b.depth in absurd (omega arith)
        | inr rest ↦ elim rest [
          | inl r ↦ let e = r.depth in absurd (omega arith)
          | inr more ↦ elim more [
            | inl t ↦ reached_port port (two_reaches (row_word row) count label (λ k past. word_past row label k small past) words o fits port t)
            | inr h ↦ let e = h.depth in absurd (omega arith)
          ]
        ]
      ]

  three_port : (port : ℕ) → OfThree (row_word row) count words → LinesLeadTo words label port → HasPort n row label port
  three_port port o lead =
      let d = o.depth in
      elim lead [
        | inl b ↦ let e = b.depth in absurd (omega arith)
        | inr rest ↦ elim rest [
          | inl r ↦ let e = r.depth in absurd (omega arith)
          | inr more ↦ elim more [
            | inl t ↦ let e = t.depth in absurd (omega arith)
            | inr h ↦ reached_port port (three_reaches (row_word row) count label (λ k past. word_past row label k small past) words o few port h)
          ]
        ]
      ]

  pub tree_port : words ≡ tree owner (row_word row) count → (port : ℕ) → LinesLeadTo words label port → HasPort n row label port
  tree_port e port lead =
      elim (which owner (row_word row) count words e) [
        | inl r ↦ root_port port r.0 (of_root owner (row_word row) words r.1) lead
        | inr more ↦ elim more [
          | inl t ↦ two_port port t.0 (of_two owner (row_word row) count words t.1) lead
          | inr h ↦ three_port port (of_three owner (row_word row) count words h) lead
        ]
      ]

  pub tree_led : words ≡ tree owner (row_word row) count → 0 < length row → IsLed words label
  tree_led e some =
      let past : (k : ℕ) → count ≤ k → label_key label < row_word row k = λ k above. word_past row label k small above in
      let start = word_first row label some ports in
      elim (which owner (row_word row) count words e) [
        | inl r ↦ root_led (row_word row) count label past words (of_root owner (row_word row) words r.1) r.0 start
        | inr more ↦ elim more [
          | inl t ↦ two_led (row_word row) count label past words (of_two owner (row_word row) count words t.1) t.0 start
          | inr h ↦ three_led (row_word row) count label past words (of_three owner (row_word row) count words h) few start
        ]
      ]

module _ (owner : Owner) (row : List Start) (words : List ℕ) (t : IsByteTable owner row words) (label : ℕ) (is : label < owner.labels) where
  front : length (table_head owner 255 0 ++ replicate 16 no_word) ≡ 32
  front = let h = length-head owner 255 0 in let a = length-append (table_head owner 255 0) (replicate 16 no_word) in omega arith

  depth : depth_of words ≡ 255
  depth = ap depth_of (t.all ∙ append_assoc (table_head owner 255 0) (replicate 16 no_word) t.bytes) ∙ depth_in owner 255 0 (replicate 16 no_word ++ t.bytes)

  long : length words ≡ 32 + 32 * groups owner.labels 128
  long =
      let a = length-append (table_head owner 255 0 ++ replicate 16 no_word) t.bytes in
      let e : length words ≡ length (table_head owner 255 0 ++ replicate 16 no_word ++ t.bytes) = ap length t.all in
      let b = t.every in
      let f = front in
      omega arith

  word_of_label : get_or (table_line words (1 + label / 128)) (label % 128 / 4) 0 ≡ get_or t.bytes (label / 4) 0
  word_of_label =
      let e : 32 * (1 + label / 128) + label % 128 / 4 ≡ 32 + label / 4 = omega arith in
      line_word words (1 + label / 128) (label % 128 / 4) (omega arith)
      ∙ ap (λ (x : ℕ). get_or words x 0) e
      ∙ ap (λ (ws : List ℕ). get_or ws (32 + label / 4) 0) t.all
      ∙ ap (λ (k : ℕ). get_or (table_head owner 255 0 ++ replicate 16 no_word ++ t.bytes) (k + label / 4) 0) (sym front)
      ∙ get_or-append-add (table_head owner 255 0 ++ replicate 16 no_word) t.bytes (label / 4) 0

  pub byte_port : (port : ℕ) → LinesLeadTo words label port → HasPort owner.labels row label port
  byte_port port lead =
      let d = depth in
      elim lead [
        | inl b ↦
            let m : label % 128 % 4 ≡ label % 4 = omega arith in
            let at : byte_in (table_line words (1 + label / 128)) (label % 128) ≡ byte_in t.bytes label =
            ap (λ (x : ℕ). byte_of x (label % 128 % 4)) word_of_label ∙ ap (λ (x : ℕ). byte_of (get_or t.bytes (label / 4) 0) x) m in
            subst (λ (p : ℕ). HasPort owner.labels row label p) (sym (b.is ∙ at)) (t.hold.ports label is)
        | inr rest ↦ elim rest [
          | inl r ↦ let e = r.depth in absurd (omega arith)
          | inr more ↦ elim more [
            | inl t ↦ let e = t.depth in absurd (omega arith)
            | inr h ↦ let e = h.depth in absurd (omega arith)
          ]
        ]
      ]

  pub byte_led : IsLed words label
  byte_led =
      let d = depth in
      let l = long in
      record {
        there = omega arith;
        depth = inl d;
        bytes = λ _. omega arith;
        first = λ e. absurd (omega (arith, e));
        second = λ e _ p q. absurd (omega (arith, e));
        third = λ e p q a b. absurd (omega (arith, e));
      }

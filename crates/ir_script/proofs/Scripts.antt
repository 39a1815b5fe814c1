-- Steps in front of what the later lines of a script say.
use Rattle.std.proofs.Common.{◌≡◌, ◌<◌, ◌≤◌, ◌+◌, ℕ, List, [], ◌∷◌, ◌++◌, length, Option, None, Some, Result, Ok, Err, refl, sym, ap, subst, ◌∙◌, arith, append_assoc, option_to_list}
use Rattle.std.proofs.lemmas.List.{append-nil, length_push}
use Rattle.ir_model.specs.Graph.{Name}
use Rattle.ir_model.specs.Topology.{Topology}
use Rattle.ir_model.specs.Text.{lines}
use Rattle.ir_script.specs.declared.fault.ScriptFault.{ScriptFault}
use Rattle.ir_script.specs.declared.fault.ScriptFault.TheVariants.{BadByte, BadCommand, BadNumber, UnknownNode, UnknownLink, NoMemory}
use Rattle.ir_script.specs.Script.{Listing, in_front, with_line, listing_from, ScriptTold, told_script, line_of}

in_front-nil : {A : Type 0} (r : Result (Listing A) (ℕ × ScriptFault)) → in_front [] [] r ≡ r
in_front-nil (Ok later) = refl
in_front-nil (Err e) = refl

in_front-more : {A : Type 0} (steps : List A) (numbers : List ℕ) (s : A) (n : ℕ) (r : Result (Listing A) (ℕ × ScriptFault)) → in_front steps numbers (in_front (s ∷ []) (n ∷ []) r) ≡ in_front (steps ++ s ∷ []) (numbers ++ n ∷ []) r
in_front-more steps numbers s n (Ok later) =
    ap (λ xs. Ok (record { steps = xs; lines = numbers ++ n ∷ later.lines })) (sym (append_assoc steps (s ∷ []) later.steps))
    ∙ ap (λ ns. Ok (record { steps = (steps ++ s ∷ []) ++ later.steps; lines = ns })) (sym (append_assoc numbers (n ∷ []) later.lines))
in_front-more steps numbers s n (Err e) = refl

told : {A : Type 0} (line : ℕ) (kind : ScriptFault) (said : Result (Listing A) (ℕ × ScriptFault)) → said ≡ Err (line, kind) → ScriptTold (told_script line kind) said
told line BadByte said e = e
told line BadCommand said e = e
told line BadNumber said e = e
told line UnknownNode said e = e
told line UnknownLink said e = e
told line NoMemory said e = refl

-- What a script says is these steps and lines, and then what the rest says, whose first line follows this one.
pub record IsRead {A : Type 0} (says : List Name → Topology → List ℕ → Result (Option A) ScriptFault) (nodes : List Name) (net : Topology) (text : List ℕ) (steps : List A) (numbers : List ℕ) (line : ℕ) (rest : List ℕ) : Type 0 where
  pub same : listing_from says nodes net 1 (lines text) ≡ in_front steps numbers (listing_from says nodes net (line + 1) (lines rest))
  pub counted : line + length rest ≤ length text
  pub paired : length steps ≡ length numbers

-- nothing is read yet
pub read_none : {A : Type 0} (says : List Name → Topology → List ℕ → Result (Option A) ScriptFault) (nodes : List Name) (net : Topology) (text : List ℕ) → IsRead says nodes net text [] [] 0 text
read_none says nodes net text = record { same = sym (in_front-nil (listing_from says nodes net 1 (lines text))); counted = omega arith; paired = refl }

module _ {A : Type 0} (says : List Name → Topology → List ℕ → Result (Option A) ScriptFault) (nodes : List Name) (net : Topology) (text : List ℕ) (steps : List A) (numbers : List ℕ) (line : ℕ) (rest current after : List ℕ) (is : IsRead says nodes net text steps numbers line rest)
    (split : lines rest ≡ current ∷ lines after) (shorter : length after < length rest) where
  next_said : (said : Result (Option A) ScriptFault) → said ≡ says nodes net current → listing_from says nodes net 1 (lines text) ≡ in_front steps numbers (with_line (line + 1) said (listing_from says nodes net (line + 1 + 1) (lines after)))
  next_said said e =
      is.same ∙ ap (λ ls. in_front steps numbers (listing_from says nodes net (line + 1) ls)) split
      ∙ ap (λ r. in_front steps numbers (with_line (line + 1) r (listing_from says nodes net (line + 1 + 1) (lines after)))) (sym e)

  -- the line has a fault
  pub read_fault : (kind : ScriptFault) → Err kind ≡ says nodes net current → ScriptTold (told_script (line + 1) kind) (listing_from says nodes net 1 (lines text))
  read_fault kind e = told (line + 1) kind _ (next_said (Err kind) e)

  -- one more line is read
  pub read_on : (said : Option A) → Ok said ≡ says nodes net current → (more : List A) (counts : List ℕ) → more ≡ steps ++ option_to_list said → counts ≡ numbers ++ line_of said (line + 1)
      → IsRead says nodes net text more counts (line + 1) after
  read_on said e more counts em ec = let P : List A → Type 0 = λ xs. IsRead says nodes net text xs counts (line + 1) after in
      let Q : List ℕ → Type 0 = λ ns. IsRead says nodes net text (steps ++ option_to_list said) ns (line + 1) after in
      subst P (sym em) (subst Q (sym ec) (on said (next_said (Ok said) e)))
    where
      on : (said : Option A) → listing_from says nodes net 1 (lines text) ≡ in_front steps numbers (with_line (line + 1) (Ok said) (listing_from says nodes net (line + 1 + 1) (lines after))) → IsRead says nodes net text (steps ++ option_to_list said) (numbers ++ line_of said (line + 1)) (line + 1) after
      on None h = record {
        same = h ∙ ap (λ xs. in_front xs numbers (listing_from says nodes net (line + 1 + 1) (lines after))) (sym (append-nil steps)) ∙ ap (λ ns. in_front (steps ++ []) ns (listing_from says nodes net (line + 1 + 1) (lines after))) (sym (append-nil numbers));
        counted = omega (arith, is.counted);
        paired = ap length (append-nil steps) ∙ is.paired ∙ sym (ap length (append-nil numbers));
      }
      on (Some s) h = record {
        same = h ∙ in_front-more steps numbers s (line + 1) (listing_from says nodes net (line + 1 + 1) (lines after));
        counted = omega (arith, is.counted);
        paired = omega (arith, is.paired, length_push steps s, length_push numbers (line + 1));
      }

-- all is read
pub read_all : {A : Type 0} (says : List Name → Topology → List ℕ → Result (Option A) ScriptFault) (nodes : List Name) (net : Topology) (text : List ℕ) (steps : List A) (numbers : List ℕ) (line : ℕ) (rest : List ℕ) → IsRead says nodes net text steps numbers line rest → rest ≡ []
    → listing_from says nodes net 1 (lines text) ≡ Ok (record { steps = steps; lines = numbers })
read_all says nodes net text steps numbers line rest is e =
    is.same ∙ ap (λ bs. in_front steps numbers (listing_from says nodes net (line + 1) (lines bs))) e
    ∙ ap (λ xs. Ok (record { steps = xs; lines = numbers ++ [] })) (append-nil steps) ∙ ap (λ ns. Ok (record { steps = steps; lines = ns })) (append-nil numbers)

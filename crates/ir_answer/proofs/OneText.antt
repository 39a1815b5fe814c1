-- The texts of a topology, a script and a trace are those of their inputs, up to what their lines say.
use Rattle.std.proofs.Common.{◌≡◌, ◌+◌, ◌==◌, ℕ, suc, Bool, true, false, cond, List, [], ◌∷◌, ◌++◌, length, refl, sym, ap, ◌∙◌, arith}
use Rattle.std.proofs.lemmas.List.{length-append}
use Rattle.ir_model.specs.Text.{lines, onto_first}
use Rattle.ir_cli.specs.Cut.{EndsWithBytes}
use Rattle.ir_answer.specs.Asked.{AreThree}

-- ---- an end of a text is given by its lines

-- the bytes of lines, each with a line feed
abbrev size : List (List ℕ) → ℕ
size [] = 0
size (l ∷ ls) = suc (length l) + size ls

-- how many line feeds lack at the end of a text
abbrev lack : List ℕ → ℕ
lack [] = 0
lack (b ∷ []) = cond (b == 10) 0 1
lack (b ∷ c ∷ bs) = lack (c ∷ bs)

line_some : (x : Bool) (b : ℕ) (ls : List (List ℕ)) → cond x ([] ∷ ls) (onto_first b ls) ≡ [] → ⊥
line_some true b ls e = cc e
line_some false b [] e = cc e
line_some false b (l ∷ ls) e = cc e

one_more : (x : Bool) (b : ℕ) (ls : List (List ℕ)) → (ls ≡ [] → ⊥) → size (cond x ([] ∷ ls) (onto_first b ls)) ≡ suc (size ls)
one_more true b ls some = omega arith
one_more false b [] some = absurd (some refl)
one_more false b (l ∷ ls) some = omega arith

last_one : (x : Bool) (b : ℕ) → size (cond x ([] ∷ []) (onto_first b [])) ≡ suc (cond x 0 1)
last_one true b = refl
last_one false b = refl

size_of : (bs : List ℕ) → size (lines bs) ≡ length bs + lack bs
size_of [] = refl
size_of (b ∷ []) = last_one (b == 10) b ∙ omega arith
size_of (b ∷ c ∷ bs) =
    let here = one_more (b == 10) b (lines (c ∷ bs)) (line_some (c == 10) c (lines bs)) in
    let later = size_of (c ∷ bs) in
    omega (arith, here, later)

-- an end of a text lacks what the text lacks
lack_end : (front : List ℕ) (b : ℕ) (bs : List ℕ) → lack (front ++ b ∷ bs) ≡ lack (b ∷ bs)
lack_end [] b bs = refl
lack_end (x ∷ []) b bs = refl
lack_end (x ∷ y ∷ front) b bs = lack_end (y ∷ front) b bs

-- ends of one text that are as long are one
same_end : (front other bs cs : List ℕ) → length front ≡ length other → front ++ bs ≡ other ++ cs → bs ≡ cs
same_end [] [] bs cs same e = e
same_end [] (y ∷ other) bs cs same e = absurd (omega (arith, same))
same_end (x ∷ front) [] bs cs same e = absurd (omega (arith, same))
same_end (x ∷ front) (y ∷ other) bs cs same e = same_end front other bs cs (omega (arith, same)) (cc e)

pub end_told : (input bs cs : List ℕ) → EndsWithBytes input bs → EndsWithBytes input cs → lines bs ≡ lines cs → bs ≡ cs
end_told input [] [] a b same = refl
end_told input [] (c ∷ cs) a b same = absurd (line_some (c == 10) c (lines cs) (sym same))
end_told input (b ∷ bs) [] a c same = absurd (line_some (b == 10) b (lines bs) same)
end_told input (b ∷ bs) (c ∷ cs) x y same =
    let lacks : lack (b ∷ bs) ≡ lack (c ∷ cs) = sym (lack_end x.0 b bs) ∙ ap lack (x.1 ∙ sym y.1) ∙ lack_end y.0 c cs in
    let sizes : length (b ∷ bs) + lack (b ∷ bs) ≡ length (c ∷ cs) + lack (c ∷ cs) = sym (size_of (b ∷ bs)) ∙ ap size same ∙ size_of (c ∷ cs) in
    let long : length x.0 + length (b ∷ bs) ≡ length y.0 + length (c ∷ cs) = sym (length-append x.0 (b ∷ bs)) ∙ ap length (x.1 ∙ sym y.1) ∙ length-append y.0 (c ∷ cs) in
    same_end x.0 y.0 (b ∷ bs) (c ∷ cs) (omega (arith, lacks, sizes, long)) (x.1 ∙ sym y.1)

-- ---- three texts

-- two topologies, scripts and traces of which the lines, the lines and the bytes are the same
pub record AreOne (topology script trace over steps rows : List ℕ) : Type 0 where
  pub topologies : lines topology ≡ lines over
  pub scripts : lines script ≡ lines steps
  pub traces : trace ≡ rows

pub three_same : (texts : List (List ℕ)) (topology script trace over steps rows : List ℕ) → AreThree texts topology script trace → AreThree texts over steps rows → AreOne topology script trace over steps rows
three_same [] topology script trace over steps rows a b = absurd a
three_same (input ∷ []) topology script trace over steps rows a b =
    record { topologies = a.0 ∙ sym b.0; scripts = a.1 ∙ sym b.1; traces = end_told input trace rows a.3 b.3 (a.2 ∙ sym b.2) }
three_same (first ∷ second ∷ []) topology script trace over steps rows a b = absurd a
three_same (first ∷ second ∷ third ∷ []) topology script trace over steps rows a b =
    record { topologies = ap lines (a.0 ∙ sym b.0); scripts = ap lines (a.1 ∙ sym b.1); traces = a.2 ∙ sym b.2 }
three_same (first ∷ second ∷ third ∷ fourth ∷ texts) topology script trace over steps rows a b = absurd a

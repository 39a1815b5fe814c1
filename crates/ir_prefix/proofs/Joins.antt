-- The ranges of the labels from one on, by the port there.
use Rattle.std.proofs.Common.{◌≡◌, ◌≢◌, ◌==◌, ℕ, zero, suc, ◌+◌, ◌-◌, ◌<◌, ◌≤◌, List, [], ◌∷◌, ◌++◌, length, drop, Option, Some, None, Bool, true, false, refl, ap, sym, ◌∙◌, subst, arith, append_assoc}
use Rattle.std.specs.List.{All}
use Rattle.std.proofs.lemmas.Bool.{and_from, eq-eqb}
use Rattle.std.proofs.lemmas.List.{append-nil, drop_more, get_or-drop}
use Rattle.std.proofs.Math.ListN.{drop_of_length-le}
use Rattle.std.proofs.lemmas.List.Elements.{All-head}
use Rattle.ir_model.specs.Compiled.{port_to}
use Rattle.ir_prefix.specs.declared.ranges.LabelRange.{LabelRange}
use Rattle.ir_prefix.specs.Ranges.{range, with_label, ranges_from, ranges_of}
use Rattle.ir_prefix.specs.RangeRuns.{EndsRun}
use Rattle.ir_prefix.proofs.RangeLemmas.{IsOf, joins, joined_is, chosen, all_of}

-- a label without a port begins no range
pub none_more : (ports : List (Option ℕ)) (label : ℕ) → label < length ports → port_to ports label ≡ None
    → ranges_from label (drop label ports) ≡ ranges_from (label + 1) (drop (label + 1) ports)
none_more ports label inside none =
    ap (ranges_from label) (drop_more ports label None inside ∙ ap (λ (o : Option ℕ). o ∷ drop (label + 1) ports) none)

alone_chosen : (label port : ℕ) (ports : List (Option ℕ)) (r : LabelRange) (rest : List LabelRange) (b : Bool) → joins label port r ≡ b
    → IsOf (label + 1) ports r → port_to ports 0 ≢ Some port → chosen b label port r rest ≡ range label label port ∷ r ∷ rest
alone_chosen label port ports r rest true e h other =
    let is = joined_is label port r e in
    let filled = h.filled in
    absurd (other (h.agrees 0 (omega (arith, is.0), omega (arith, is.0, filled)) ∙ ap Some is.1))
alone_chosen label port ports r rest false e h other = refl

alone_with : (label port : ℕ) (ports : List (Option ℕ)) (set : List LabelRange) → All (IsOf (label + 1) ports) set → port_to ports 0 ≢ Some port
    → with_label label port set ≡ range label label port ∷ set
alone_with label port ports [] all other = refl
alone_with label port ports (r ∷ rest) all other = alone_chosen label port ports r rest (joins label port r) refl (All-head (IsOf (label + 1) ports) r rest all) other

-- a label with a port begins the range that a range from the next label with that port is
joined_with : (label port to : ℕ) (rest : List LabelRange) → with_label label port (range (label + 1) to port ∷ rest) ≡ range label to port ∷ rest
joined_with label port to rest =
    ap (λ (b : Bool). chosen b label port (range (label + 1) to port) rest) (and_from (label + 1 == label + 1) (port == port) (eq-eqb (label + 1) (label + 1) refl) (eq-eqb port port refl))

-- the range of so many labels after one
some_more : (ports : List (Option ℕ)) (port : ℕ) (n label : ℕ) → label + n < length ports
    → ((d : ℕ) → label ≤ d → d < (label + n) + 1 → port_to ports d ≡ Some port) → port_to ports ((label + n) + 1) ≢ Some port
    → ranges_from label (drop label ports) ≡ range label (label + n) port ∷ ranges_from ((label + n) + 1) (drop ((label + n) + 1) ports)
some_more ports port zero label inside same other =
    let here = drop_more ports label None (omega (arith, inside)) ∙ ap (λ (o : Option ℕ). o ∷ drop (label + 1) ports) (same label (omega arith) (omega arith)) in
    let behind : (label + 0) + 1 ≡ (label + 1) + 0 = omega arith in
    let next : port_to (drop (label + 1) ports) 0 ≢ Some port = λ e. other (ap (λ (x : ℕ). port_to ports x) behind ∙ (sym (get_or-drop (label + 1) ports 0 None) ∙ e)) in
    let P : ℕ → Type 0 = λ x. ranges_from label (drop label ports) ≡ range label x port ∷ ranges_from (x + 1) (drop (x + 1) ports) in
    let none : label ≡ label + 0 = omega arith in
    subst P none (ap (ranges_from label) here
    ∙ alone_with label port (drop (label + 1) ports) (ranges_from (label + 1) (drop (label + 1) ports)) (all_of (label + 1) (drop (label + 1) ports)) next)
some_more ports port (suc n) label inside same other =
    let here = drop_more ports label None (omega (arith, inside)) ∙ ap (λ (o : Option ℕ). o ∷ drop (label + 1) ports) (same label (omega arith) (omega arith)) in
    let sum : (label + 1) + n ≡ label + suc n = omega arith in
    let rest = some_more ports port n (label + 1) (omega (arith, inside)) (λ d l h. same d (omega (arith, l)) (omega (arith, h))) (subst (λ (x : ℕ). port_to ports (x + 1) ≢ Some port) (sym sum) other) in
    let tail : ℕ → List LabelRange = λ x. ranges_from (x + 1) (drop (x + 1) ports) in
    ap (ranges_from label) here
    ∙ ap (with_label label port) rest
    ∙ joined_with label port ((label + 1) + n) (tail ((label + 1) + n))
    ∙ ap (λ (x : ℕ). range label x port ∷ tail x) sum

-- the range of a run
pub run_more : (ports : List (Option ℕ)) (label port end : ℕ) → EndsRun ports label port end
    → ranges_from label (drop label ports) ≡ range label (end - 1) port ∷ ranges_from end (drop end ports)
run_more ports label port end run =
    let some = run.some in
    let within = run.within in
    let last : label + ((end - label) - 1) ≡ end - 1 = omega (arith, some) in
    let next : (end - 1) + 1 ≡ end = omega (arith, some) in
    let Q : ℕ → Type 0 = λ x. port_to ports x ≢ Some port in
    let tail : ℕ → List LabelRange = λ x. ranges_from x (drop x ports) in
    let is = some_more ports port ((end - label) - 1) label (omega (arith, some, within))
    (λ d l h. run.same d l (omega (arith, some, h))) (subst Q (sym next ∙ ap (λ (x : ℕ). x + 1) (sym last)) run.other) in
    is ∙ ap (λ (x : ℕ). range label x port ∷ tail (x + 1)) last ∙ ap (λ (x : ℕ). range label (end - 1) port ∷ tail x) next

-- what is known after one range more
pub loop_more : (ports : List (Option ℕ)) (set more : List LabelRange) (label port end : ℕ) (r : LabelRange) (all : List LabelRange) → EndsRun ports label port end
    → r ≡ range label (end - 1) port → more ≡ set ++ r ∷ [] → set ++ ranges_from label (drop label ports) ≡ all
    → more ++ ranges_from end (drop end ports) ≡ all
loop_more ports set more label port end r all run is pushed before =
    let rest = ranges_from end (drop end ports) in
    ap (λ (l : List LabelRange). l ++ rest) pushed
    ∙ append_assoc set (r ∷ []) rest ∙ ap (λ (o : LabelRange). set ++ o ∷ rest) is ∙ ap (λ (l : List LabelRange). set ++ l) (sym (run_more ports label port end run)) ∙ before

-- after the last label all ranges are there
pub all_told : (ports : List (Option ℕ)) (set : List LabelRange) (label : ℕ) → length ports ≤ label → set ++ ranges_from label (drop label ports) ≡ ranges_of ports
    → set ≡ ranges_of ports
all_told ports set label past told = sym (append-nil set) ∙ ap (λ (l : List (Option ℕ)). set ++ ranges_from label l) (sym (drop_of_length-le ports past)) ∙ told

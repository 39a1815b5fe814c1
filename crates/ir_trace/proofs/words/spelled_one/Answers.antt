use Rattle.std.proofs.Common.{◌≡◌, ◌∙◌, ◌-◌, ◌≤◌, [], ◌∷◌, List, ℕ, ap, sym, arith, length, take, drop, get_or}
use Rattle.std.specs.Borrow.{Bor}
use Rattle.std.proofs.lemmas.Bool.{eqb-true, eqb-false}
use Rattle.std.proofs.lemmas.List.{length-map}
use Rattle.ir_trace.specs.Spelled.{texts, row_told}
use Rattle.ir_trace.proofs.ReadParts.{head_tail}
use Rattle.ir_trace.proofs.ReadSpellings.{no_id, no_head_behind, no_hops, spells}
use Rattle.ir_trace.proofs.words.spelled_one.Goals as goal

-- the words are the first, and those after it
first_behind : (words : List (Bor (List ℕ))) → 1 ≤ length words → texts words ≡ (get_or words 0 (record { ref_ptr = (0, 0); now = [] })).now ∷ texts (take (length words - 1) (drop 1 words))
first_behind words some = ap texts (head_tail words (record { ref_ptr = (0, 0); now = [] }) some)

pub returns-in_default-spelled_head : goal.returns-in_default-spelled_head
returns-in_default-spelled_head c =
    no_head_behind (texts c.args.words.now) _ _ (first_behind c.args.words.now (omega arith)) c.in_default-spelled_head.ensures

pub returns-then-is_empty : goal.returns-then-is_empty
returns-then-is_empty c =
    no_hops (texts c.args.words.now) _ _ (first_behind c.args.words.now (omega arith)) (row_told c.in-Some.behind []) (texts c.in-Some.hops.now) c.in-Some.ensures
    (length-map c.in-Some.hops.now (λ w. w.now) ∙ eqb-true _ 0 (sym c.is_empty.ensures ∙ c.if-is_empty.true))

pub returns-in_default-number : goal.returns-in_default-number
returns-in_default-number c = no_id (texts c.args.words.now) _ _ (first_behind c.args.words.now (omega arith)) c.in_default-number.ensures

pub returns : goal.returns
returns c =
    spells (texts c.args.words.now) _ _ (first_behind c.args.words.now (omega arith)) (row_told c.in-Some.behind []) (texts c.in-Some.hops.now) c.in-Some.ensures
    c.in-Some-number.id (omega arith) c.in-Some-number.ensures
    (omega (arith, length-map c.in-Some.hops.now (λ w. w.now), eqb-false (length c.in-Some.hops.now) 0 (sym c.is_empty.ensures ∙ c.if-is_empty.false))) c.requires

use Rattle.std.proofs.Common.{◌≡◌, ◌∙◌, ◌<◌, sym, subst, arith, length, vec_len, map, [], ℕ, List}
use Rattle.std.proofs.lemmas.Bool.{eqb-true, eqb-false}
use Rattle.std.proofs.lemmas.List.{take_rest, length-map}
use Rattle.std.specs.Borrow.{Bor}
use Rattle.ir_model.specs.Graph.{Name}
use Rattle.ir_trace.specs.declared.words.SegmentSpelling.{SegmentSpelling}
use Rattle.ir_trace.specs.Rows.{PartText}
use Rattle.ir_trace.specs.Spelled.{texts, part_held}
use Rattle.ir_trace.proofs.ReadParts.{AreReadTo, read_none, no_part, some_texts, no_texts, segments_more, not_so_many, too_many, all_read}
use Rattle.ir_trace.proofs.words.spelled_segments.Goals as goal

pub returns-in_default : goal.returns-in_default
returns-in_default c =
    let rest = c.loop-rest.rest.now in
    let some : 0 < length rest = omega (arith, eqb-false (length rest) 0 (sym c.is_empty.ensures ∙ c.loop-rest-test.true)) in
    no_part (texts c.args.words.now) (map part_held c.loop-rest.segments.items) (texts rest) (some_texts rest some) c.loop-rest.invariant c.in_default.ensures.begins

pub loop-rest-preserved : goal.loop-rest-preserved
loop-rest-preserved c =
    let rest = c.loop-rest.rest.now in
    let some : 0 < length rest = omega (arith, eqb-false (length rest) 0 (sym c.is_empty.ensures ∙ c.loop-rest-test.true)) in
    segments_more c.args.words.now rest _ c.loop-rest.segments.items c.push.new.self.items c.in-Some.segment c.in-Some.used c.in_ok-push.ensures.items some c.loop-rest.invariant c.in-Some.ensures.begins (take_rest rest c.in-Some.used)

pub loop-rest-init : goal.loop-rest-init
loop-rest-init c =
    let words : List Name = texts c.args.words.now in
    subst (λ (segments : List SegmentSpelling). AreReadTo words (map part_held segments) words) (sym c.new-segments.ensures.items) (read_none words)

-- the words are read to their end
read_all : (words : List Name) (parts : List PartText) (rest : List (Bor (List ℕ))) → length rest ≡ 0 → AreReadTo words parts (texts rest) → AreReadTo words parts []
read_all words parts rest none read = subst (AreReadTo words parts) (no_texts rest none) read

pub returns-then-is_empty : goal.returns-then-is_empty
returns-then-is_empty c =
    let rest = c.loop-rest.rest.now in
    let none : length rest ≡ 0 = eqb-true (length rest) 0 (sym c.is_empty.ensures ∙ c.loop-rest-test.false) in
    let none_held : vec_len c.loop-rest.segments ≡ 0 = eqb-true (vec_len c.loop-rest.segments) 0 (sym c.is_empty-2.ensures ∙ c.if-is_empty.true) in
    not_so_many (texts c.args.words.now) (map part_held c.loop-rest.segments.items) (read_all _ _ rest none c.loop-rest.invariant)
    (omega (arith, none_held, length-map c.loop-rest.segments.items part_held, c.loop-rest.segments.ok))

pub returns-then-len-gt-MAX_SEGMENTS : goal.returns-then-len-gt-MAX_SEGMENTS
returns-then-len-gt-MAX_SEGMENTS c =
    let rest = c.loop-rest.rest.now in
    let none : length rest ≡ 0 = eqb-true (length rest) 0 (sym c.is_empty.ensures ∙ c.loop-rest-test.false) in
    too_many (texts c.args.words.now) (map part_held c.loop-rest.segments.items) (read_all _ _ rest none c.loop-rest.invariant)
    (omega (arith, c.len.ensures, length-map c.loop-rest.segments.items part_held, c.loop-rest.segments.ok))

pub returns : goal.returns
returns c =
    let rest = c.loop-rest.rest.now in
    let none : length rest ≡ 0 = eqb-true (length rest) 0 (sym c.is_empty.ensures ∙ c.loop-rest-test.false) in
    let some_held = eqb-false (vec_len c.loop-rest.segments) 0 (sym c.is_empty-2.ensures ∙ c.if-is_empty.false) in
    let held = length-map c.loop-rest.segments.items part_held in
    all_read (texts c.args.words.now) (map part_held c.loop-rest.segments.items) (read_all _ _ rest none c.loop-rest.invariant)
    (omega (arith, some_held, held, c.loop-rest.segments.ok)) (omega (arith, c.len.ensures, held, c.loop-rest.segments.ok))

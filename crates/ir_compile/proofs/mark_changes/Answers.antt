use Rattle.std.proofs.Common.{◌+◌, ◌∷◌, ◌++◌, ◌≡◌, [], ◌∙◌, take, List, ℕ, inl, inr, arith, subst, sym, ap, slice_index, refl}
use Rattle.std.proofs.lemmas.Bool.{both_ways, cases_Bool, iff_false}
use Rattle.ir_lookup.specs.Words.{starts_of}
use Rattle.ir_model.specs.Compiled.{predecessor}
use Rattle.ir_model.proofs.Partial.{IsPartial, partial_skipped}
use Rattle.ir_compile.proofs.MarkedStarts.{change_here, no_change_here, marked_kept, next_last, next_over}
use Rattle.ir_compile.proofs.mark_changes.Goals as goal
use Rattle.ir_compile.proofs.mark_changes.Goals.{then-d-own, else-d-own}

pub loop-d-preserved : goal.loop-d-preserved
loop-d-preserved c =
    let was = c.loop-d.invariant in
    let n = c.args.n in
    let own = c.args.own in
    let d = c.loop-d.d in
    let plain : List ℕ = c.args.plain.now in
    let words : List ℕ = c.put-count.new.words in
    record {
      few = elim (cases_Bool c.is_change.result) [
        | inl kept ↦ let put = c.put-count.ensures.kept kept in omega (arith, was.few, put.0)
        | inr drops ↦ let left = c.put-count.ensures.left (λ w. both_ways _ drops w) in omega (arith, was.few, left.0)
      ];
      room = omega (arith, c.put-count.ensures.length, was.room);
      behind = elim c.if-d-own.branch [
        | then-d-own w ↦ λ on. w.last-is ∙ ap (slice_index plain) (sym (next_last n own d w.if-d-own.true))
        | else-d-own w ↦ λ on.
            let e = w.if-d-own.false in
            w.last-is ∙ was.behind c.loop-d-test.true
            ∙ ap (slice_index plain) (ap (predecessor n own) e ∙ sym (next_over n own (omega (arith, on, e))) ∙ ap (λ (k : ℕ). predecessor n own (k + 1)) (sym e))
      ];
      starts = λ ports stand. elim (cases_Bool c.is_change.result) [
        | inl kept ↦
            let put = c.put-count.ensures.kept kept in
            let change = c.is_change.ensures.0 kept in
            marked_kept n own plain ports stand d (take c.loop-d.count c.loop-d.words) (take c.put-count.result words) (slice_index plain d) c.word.result refl (was.starts ports stand)
            (change_here n own plain ports stand d c.loop-d-test.true change.0 (λ same. change.1 (same ∙ sym (was.behind c.loop-d-test.true))))
            c.word.ensures put.1
        | inr drops ↦
            let left = c.put-count.ensures.left (λ w. both_ways _ drops w) in
            subst (λ (xs : List ℕ). IsPartial n own ports (d + 1) (starts_of xs)) (sym left.1)
            (partial_skipped n own ports d _ (was.starts ports stand) (λ change.
            iff_false c.is_change.ensures drops (change.1, λ same. no_change_here n own plain ports stand d c.loop-d-test.true change.1 (same ∙ was.behind c.loop-d-test.true) change)))
      ];
    }

pub returns-clause-starts : goal.returns-clause-starts
returns-clause-starts c = λ ports stand.
    let all : c.loop-d.d ≡ c.args.n = omega (arith, c.loop-d-test.false, c.loop-d.auto.d-end) in
    subst (λ (d : ℕ). IsPartial c.args.n c.args.own ports d (starts_of (take c.loop-d.count c.loop-d.words))) all (c.loop-d.invariant.starts ports stand)

pub bounds-plain-before : goal.bounds-plain-before
bounds-plain-before c = omega (arith, c.before-2.ensures.label, c.requires.every)

pub bounds-plain-d : goal.bounds-plain-d
bounds-plain-d c = omega (arith, c.loop-d-test.true, c.requires.every)

pub put-count-requires : goal.put-count-requires
put-count-requires c = omega (arith, c.loop-d.invariant.few, c.loop-d.invariant.room, c.loop-d-test.true)

use Rattle.std.proofs.Common.{◌≡◌, ◌∷◌, ◌++◌, [], All, arith, ◌∙◌, subst, sym, List}
use Rattle.std.proofs.lemmas.List.Elements.{All-push}
use Rattle.ir_epochs.specs.declared.handles.BoardReader.{BoardReader}
use Rattle.ir_epochs.specs.Handles.{published, known, writer_board, reader_board}
use Rattle.ir_epochs.proofs.opening.seats.Goals as goal

pub loop-preserved : goal.loop-preserved
loop-preserved g c = let kept = c.loop.invariant in let same = c.reader.ensures.same in let told = c.in-Ok-reader.ensures.reader in
    let P : BoardReader → Type 0 = λ x. (known x ≡ published c.args.writer.now) × (reader_board x ≡ writer_board c.args.writer.now) in
    let all : All P (c.loop.seats.items ++ c.in-Ok-reader.reader ∷ []) = All-push P c.loop.seats.items c.in-Ok-reader.reader kept.4 (told.0 ∙ kept.0, told.1 ∙ kept.1) in
    (same.0 ∙ kept.0, same.1 ∙ kept.1, omega (arith, kept.2, c.push_reserved.ensures.len), omega (arith, kept.3, c.push_reserved.ensures.capacity), subst (λ (xs : List BoardReader). All P xs) (sym c.push_reserved.ensures.items) all)

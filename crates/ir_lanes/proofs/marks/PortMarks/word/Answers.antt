use Rattle.std.proofs.Common.{◌<◌, ◌∙◌, ℕ, List, length, ap, arith}
use Rattle.std.specs.Prelude.{slice_index}
use Rattle.std.proofs.lemmas.List.{get_or_read}
use Rattle.ir_lanes.specs.Marks.{PortMarks}
use Rattle.ir_lanes.proofs.Batches.{words_read}
use Rattle.ir_lanes.proofs.marks.PortMarks.word.Goals as goal

pub index-requires : goal.index-requires
index-requires c =
    let words = c.index-words.result.now in
    let inside = ap (λ (m : PortMarks). m.batches) c.self.view_is in
    let read = words_read c.self.inside.batches.items c.args.self.now.batches inside c.args.batch c.requires.batch words
    c.index-words.ensures in
    omega (arith, words.ok.0, ap (λ (ws : List ℕ). length ws) read, c.requires.place)

pub returns : goal.returns
returns c =
    let words = c.index-words.result.now in
    let inside = ap (λ (m : PortMarks). m.batches) c.self.view_is in
    let read = words_read c.self.inside.batches.items c.args.self.now.batches inside c.args.batch c.requires.batch words
    c.index-words.ensures in
    let place_in : c.args.place < length words.items =
    omega (arith, ap (λ (ws : List ℕ). length ws) read, c.requires.place) in
    get_or_read words.items c.args.place c.index.result.now place_in c.index.ensures 0
    ∙ ap (λ (ws : List ℕ). slice_index ws c.args.place) read

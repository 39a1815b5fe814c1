use Rattle.std.proofs.Common.{◌≡◌, ◌∷◌, [], ◌++◌, ◌∙◌, ℕ, ap, arith, get_or, slice_get, Some}
use Rattle.std.specs.Global.{Vec}
use Rattle.std.proofs.lemmas.List.{length-map, map-append}
use Rattle.std.proofs.lemmas.Option.{slice_get-get_or}
use Rattle.ir_streams.specs.declared.reading.NoInput.TheVariants.{NoMemory}
use Rattle.ir_streams.proofs.Given.{read_in_vain}
use Rattle.ir_cli.specs.declared.read.Source.TheVariants.{Input}
use Rattle.ir_cli.specs.Reading.{texts_of}
use Rattle.ir_cli.proofs.Inputs.{all_read, unread_at, reading_more}
use Rattle.ir_cli.proofs.read.read_inputs.Goals as goal

pub returns-in-Err-clause-unread : goal.returns-in-Err-clause-unread
returns-in-Err-clause-unread g c =
    let sources = c.args.sources.now in
    let i = c.loop-i.i in
    let from : slice_get sources i ≡ Some (get_or sources i Input) = slice_get-get_or sources i Input (omega arith) in
    unread_at g.R.Reader.remaining g.R.Reader.gave c.args.inputs.now c.loop-i.inputs (texts_of c.loop-i.read.items) i c.index-inputs-i.result c.read_text.new.reader c.loop-i.invariant (omega arith)
    sources (get_or sources i Input) from c.in-Err.why c.in-Err.ensures.stopped

pub returns-in_default-clause-unread : goal.returns-in_default-clause-unread
returns-in_default-clause-unread g c =
    let sources = c.args.sources.now in
    let i = c.loop-i.i in
    let from : slice_get sources i ≡ Some (get_or sources i Input) = slice_get-get_or sources i Input (omega arith) in
    unread_at g.R.Reader.remaining g.R.Reader.gave c.args.inputs.now c.loop-i.inputs (texts_of c.loop-i.read.items) i c.index-inputs-i.result c.read_text.new.reader c.loop-i.invariant (omega arith)
    sources (get_or sources i Input) from NoMemory (read_in_vain g.R.Reader.remaining g.R.Reader.gave (get_or c.loop-i.inputs i c.index-inputs-i.result) c.in-Ok.text.items c.read_text.new.reader c.in-Ok.ensures.read)

pub loop-i-preserved : goal.loop-i-preserved
loop-i-preserved g c =
    let more = reading_more g.R.Reader.remaining g.R.Reader.gave c.args.inputs.now c.loop-i.inputs (texts_of c.loop-i.read.items) c.loop-i.i c.index-inputs-i.result c.read_text.new.reader c.loop-i.invariant (omega arith)
    c.in-Ok.text.items c.in-Ok.ensures.read in
    let pushed : texts_of c.push.new.self.items ≡ texts_of c.loop-i.read.items ++ c.in-Ok.text.items ∷ [] = ap texts_of c.in-Ok-push.ensures.items ∙ map-append (λ (t : Vec ℕ). t.items) c.loop-i.read.items (c.in-Ok.text ∷ []) in
    rw pushed more

pub returns-clause-read : goal.returns-clause-read
returns-clause-read g c = all_read g.R.Reader.remaining g.R.Reader.gave c.args.inputs.now c.loop-i.inputs (texts_of c.loop-i.read.items) c.loop-i.i c.loop-i.invariant (omega arith)

pub returns-clause-count : goal.returns-clause-count
returns-clause-count g c =
    let counted = length-map c.loop-i.read.items (λ (t : Vec ℕ). t.items) in
    omega (arith, counted)

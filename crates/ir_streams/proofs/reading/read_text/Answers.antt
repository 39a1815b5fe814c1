use Rattle.std.proofs.Common.{◌≡◌, ◌+◌, ◌<◌, ◌≤◌, ℕ, ◌++◌, length, take, sym, ap, subst, ◌∙◌, arith, length-take}
use Rattle.std.specs.Global.{Vec}
use Rattle.ir_streams.specs.declared.TheConstants.{MAX_INPUT_BYTES}
use Rattle.ir_streams.proofs.Given.{IsReading, reading_more, reading_again, refused}
use Rattle.ir_streams.proofs.reading.read_text.Goals.{in-Ok+in_default, in-Err-Interrupted}
use Rattle.ir_streams.proofs.reading.read_text.Goals as goal

pub returns-in-Err-clause-stopped : goal.returns-in-Err-clause-stopped
returns-in-Err-clause-stopped g c =
    let n = c.in-Ok.n in
    let some : 0 < length (take n c.get.new.room) = omega (arith, c.in-Ok.n-test, c.in-Ok.ensures.bound, length-take n c.get.new.room) in
    refused g.R.Reader.remaining g.R.Reader.gave c.args.reader.now c.loop-turn.text.items c.loop-turn._turn c.loop-turn.reader c.get.new.self c.loop-turn.invariant
    c.in-Err.why (take n c.get.new.room) some c.in-Ok.ensures.call c.in-Ok.ensures.bytes.0 c.in-Err.ensures.refused

pub loop-turn-preserved : goal.loop-turn-preserved
loop-turn-preserved g c = elim c.match-get.branch [
  | in-Ok+in_default w ↦
      (let n = w.in-Ok.n in
      let some : 0 < length (take n c.get.new.room) = omega (arith, w.in-Ok.n-test, w.in-Ok.ensures.bound, length-take n c.get.new.room) in
      let text : c.match-get.text.items ≡ c.loop-turn.text.items ++ take n c.get.new.room = ap (λ (v : Vec ℕ). v.items) w.text-is ∙ w.in_default.ensures.kept in
      let small : length c.match-get.text.items ≤ MAX_INPUT_BYTES = subst (λ (v : Vec ℕ). length v.items ≤ MAX_INPUT_BYTES) (sym w.text-is) w.in_default.ensures.small in
      reading_more g.R.Reader.remaining g.R.Reader.gave c.args.reader.now c.loop-turn.text.items c.loop-turn._turn c.loop-turn.reader c.get.new.self c.loop-turn.invariant
      (take n c.get.new.room) c.match-get.text.items some w.in-Ok.ensures.call w.in-Ok.ensures.bytes.0 text small)
  | in-Err-Interrupted w ↦
      (let P : Vec ℕ → Type 0 = λ v. IsReading g.R.Reader.remaining g.R.Reader.gave c.args.reader.now v.items (c.loop-turn._turn + 1) c.get.new.self in
      subst P (sym w.text-is)
      (reading_again g.R.Reader.remaining g.R.Reader.gave c.args.reader.now c.loop-turn.text.items c.loop-turn._turn c.loop-turn.reader c.get.new.self c.loop-turn.invariant
      (rw w.in-Err-Interrupted.field-0-is at w.in-Err-Interrupted.ensures.call) w.in-Err-Interrupted.ensures.bytes))
]

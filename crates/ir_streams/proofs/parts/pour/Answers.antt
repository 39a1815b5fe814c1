use Rattle.std.proofs.Common.{◌≡◌, ◌++◌, ◌-◌, ◌∙◌, List, ℕ, length, take, ap, arith}
use Rattle.std.proofs.lemmas.List.{take_rest}
use Rattle.ir_streams.specs.declared.TheConstants.{PART_BYTES}
use Rattle.ir_streams.proofs.Poured.{part_taken, part_breaks}
use Rattle.ir_streams.proofs.parts.pour.Goals as goal

pub returns-then-not-put_all-clause-writes : goal.returns-then-not-put_all-clause-writes
returns-then-not-put_all-clause-writes g c =
    let rest : List ℕ = c.loop-rest.rest.now in
    let room : ℕ = PART_BYTES - c.len-room.result in
    let part : c.as_slice.result.now ≡ c.loop-rest.kept.items ++ take room rest = c.as_slice.ensures.value ∙ c.keep.ensures.bytes in
    part_breaks g.W.Writer.contents g.W.Writer.wrote g.W.Writer.settled c.args.writer.now (c.args.kept.now.items ++ c.args.bytes.now) c.loop-rest.writer c.loop-rest.kept.items rest c.loop-rest.invariant.writes
    room c.as_slice.result.now part c.put_all.new.writer c.if-not-put_all.ensures

pub loop-rest-preserved : goal.loop-rest-preserved
loop-rest-preserved g c =
    let rest : List ℕ = c.loop-rest.rest.now in
    let room : ℕ = PART_BYTES - c.len-room.result in
    let part : c.as_slice.result.now ≡ c.loop-rest.kept.items ++ take room rest = c.as_slice.ensures.value ∙ c.keep.ensures.bytes in
    record {
      room = record { few = omega (arith, ap length c.clear.ensures.items); capacity = omega arith };
      writes = part_taken g.W.Writer.contents g.W.Writer.wrote g.W.Writer.settled c.args.writer.now (c.args.kept.now.items ++ c.args.bytes.now) c.loop-rest.writer c.loop-rest.kept.items rest c.loop-rest.invariant.writes
          room c.as_slice.result.now part c.put_all.new.writer c.if-not-put_all.ensures _ _ c.clear.ensures.items (take_rest _ room);
    }

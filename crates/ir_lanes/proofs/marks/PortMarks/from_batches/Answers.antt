use Rattle.std.proofs.Common.{◌≡◌, ◌≤◌, ◌*◌, ℕ, length, arith}
use Rattle.std.specs.Global.{Vec}
use Rattle.std.proofs.lemmas.List.{length-map}
use Rattle.ir_lanes.specs.Marks.{word_lists}
use Rattle.ir_lanes.proofs.Batches.{nearer_in_batches}
use Rattle.ir_lanes.proofs.marks.PortMarks.from_batches.Goals as goal

pub returns : goal.returns
returns c =
    let same : length (word_lists c.args.batches.items) ≡ length c.args.batches.items = length-map c.args.batches.items (λ (w : Vec ℕ). w.items) in
    let enough : length c.args.order.now ≤ length (word_lists c.args.batches.items) * 16 = omega (arith, same, c.requires.enough) in
    record {
      every = c.in_ok-begins.ensures.every;
      begin = c.in_ok-begins.ensures.each;
      enough = enough;
      batch = c.requires.batches;
      nearer = nearer_in_batches c.args.topology.now c.args.order.now (word_lists c.args.batches.items) enough c.requires.batches;
    }

use Rattle.std.proofs.Common.{◌+◌, ◌-◌, length, ◌∙◌, take, List, ℕ, ap, arith}
use borrow.Rule.Slice.PartMut.{put_mid, post_of}
use Rattle.ir_streams.proofs.TextLemmas.{front_put}
use Rattle.ir_streams.proofs.parts.put_front.Goals as goal

pub returns-clause-bytes : goal.returns-clause-bytes
returns-clause-bytes c =
    let kept : List ℕ = c.args.kept.now in
    let k : ℕ = c.args.count + length c.args.bytes.now - c.args.count in
    ap (λ (ys : List ℕ). take (c.args.count + c.args.more) (put_mid c.args.count k kept ys)) c.copy_from_slice.ensures.after
    ∙ front_put c.args.count c.args.more kept c.args.bytes.now (post_of c.args.count k kept) (omega (arith, c.requires.room)) c.requires.more

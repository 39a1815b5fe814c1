use Rattle.std.proofs.Common.{◌≡◌, ◌+◌, List, ◌++◌, length, vec_len, vec_capacity}
use Rattle.ir_links.proofs.channel.settle_into.Given as goal

abbrev pub invariant-loop : goal.invariant-loop
invariant-loop g l = record {
  got : List g.row.T.Denot;
  items : l.into.items ≡ l.fn.into.items ++ got;
  len : vec_len l.into ≡ vec_len l.fn.into + length got;
  capacity : vec_capacity l.into ≡ vec_capacity l.fn.into;
  all : l.initial.remains.left ≡ got ++ l.remains.left;
}

-- What a crew needs to know of what its threads share.
use Prim.Native.Nat.{ℕ}
use denote.Param.Send.{Common}
use Rattle.std.specs.Borrow.{RattleType}

-- Values of the type may be seen by several threads at a time: what a `&` to one holds is of no thread. It is `Sync`, said of
-- what stays the same where a type is handed on as an argument.
abbrev pub MayBeShared : RattleType → Type 0
MayBeShared T = (x : T.Denot) (b o : ℕ) → Common (T.shr_at x b o)

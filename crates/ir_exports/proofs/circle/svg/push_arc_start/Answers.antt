use Rattle.std.proofs.Common.{◌≡◌, ◌++◌, ℕ, List, append_assoc}
use Rattle.std.specs.Prelude.{◌*◌, ◌-◌, codes, decimal}
use Rattle.ir_exports.proofs.circle.svg.push_arc_start.Goals as goal

-- what is written in pieces of three, one and seven parts
pieces : (t0 t1 t2 t3 a b c p d e f g h i j : List ℕ) → t1 ≡ t0 ++ (a ++ b ++ c) → t2 ≡ t1 ++ p → t3 ≡ t2 ++ (d ++ (e ++ (f ++ (g ++ (h ++ (i ++ j))))))
    → t3 ≡ t0 ++ (a ++ b ++ c ++ p ++ d ++ e ++ f ++ g ++ h ++ i ++ j)
pieces t0 t1 t2 t3 a b c p d e f g h i j first paint last = rw (last, paint, first) (simp append_assoc)

pub returns : goal.returns
returns c =
    pieces _ _ _ _ (codes "<circle r=\"") (decimal (113 * c.args.n)) (codes "\" stroke=\"") c.args.paint.now
    (codes "\" stroke-dasharray=\"") (decimal (710 * c.args.count)) (codes " ") (decimal (710 * (c.args.n - c.args.count))) (codes "\" stroke-dashoffset=\"") (decimal (710 * (c.args.n - c.args.start))) (codes "\"><title>")
    c.in_ok-write.ensures.bytes c.in_ok-push_str.ensures.bytes c.in_ok-write-2.ensures.bytes

use Rattle.std.proofs.Common.{◌≡◌, ℕ, ◌++◌, ◌∷◌, [], Bool, true, false, cond, Option, Some, None, sym, ap, ◌∙◌}
use Rattle.ir_core.specs.declared.event.Way.{Way}
use Rattle.ir_core.specs.declared.event.Verdict.{Verdict}
use Rattle.ir_core.specs.declared.packet.Fate.{Fate}
use Rattle.ir_core.specs.Record.{Record}
use Rattle.ir_core.specs.Recorded.{record_of}
use Rattle.ir_core.specs.Entry.{fate_of, is_hop, restamped, ruled}
use Rattle.ir_core.proofs.packet.Record.act.Goals.{in-None+then-is_hop, in-None+else-is_hop, in-Some}
use Rattle.ir_core.proofs.packet.Record.act.Goals as goal

-- With the verdict's fate the record is what the act leaves: where the node is a hop, where it is none, and after a
-- restamp.
by_visit : (u : ℕ) (way : Way) (x : Option ℕ) (v : Verdict) (r s : Record) → x ≡ None → is_hop way v ≡ true → s ≡ record r { hops = r.hops ++ u ∷ [] } → record s { fate = fate_of v } ≡ ruled u way x v r
by_visit u way x v r s none hop made =
    ap (λ (t : Record). record t { fate = fate_of v }) made ∙ ap (λ (b : Bool). record r { hops = cond b (r.hops ++ u ∷ []) r.hops; fate = fate_of v }) (sym hop)
    ∙ ap (λ (y : Option ℕ). ruled u way y v r) (sym none)

by_staying : (u : ℕ) (way : Way) (x : Option ℕ) (v : Verdict) (r s : Record) → x ≡ None → is_hop way v ≡ false → s ≡ r → record s { fate = fate_of v } ≡ ruled u way x v r
by_staying u way x v r s none hop made =
    ap (λ (t : Record). record t { fate = fate_of v }) made ∙ ap (λ (b : Bool). record r { hops = cond b (r.hops ++ u ∷ []) r.hops; fate = fate_of v }) (sym hop)
    ∙ ap (λ (y : Option ℕ). ruled u way y v r) (sym none)

by_restamp : (u : ℕ) (way : Way) (e : ℕ) (x : Option ℕ) (v : Verdict) (r s : Record) → x ≡ Some e → s ≡ restamped u way e r → record s { fate = fate_of v } ≡ ruled u way x v r
by_restamp u way e x v r s some made = ap (λ (t : Record). record t { fate = fate_of v }) made ∙ ap (λ (y : Option ℕ). ruled u way y v r) (sym some)

with_fate : (s t all : Record) (f : Fate) (v : Verdict) → s ≡ t → f ≡ fate_of v → record t { fate = fate_of v } ≡ all → record s { fate = f } ≡ all
with_fate s t all f v seen is made = ap (λ (r : Record). record r { fate = f }) seen ∙ ap (λ (g : Fate). record t { fate = g }) is ∙ made

pub returns : goal.returns
returns c =
    let r = c.args.self.now in
    let x = c.args.ruling.restamp in
    let v = c.args.ruling.verdict in
    let done : record c.match-ruling.self { fate = fate_of v } ≡ ruled c.args.node c.args.way x v r =
    elim c.match-ruling.branch [
      | in-None+then-is_hop w ↦ by_visit c.args.node c.args.way x v r c.match-ruling.self w.in-None.is (sym w.is_hop.ensures ∙ w.if-is_hop.true) (w.self-is ∙ w.visit.ensures)
      | in-None+else-is_hop w ↦ by_staying c.args.node c.args.way x v r c.match-ruling.self w.in-None.is (sym w.is_hop.ensures ∙ w.if-is_hop.false) w.self-is
      | in-Some w ↦ by_restamp c.args.node c.args.way w.in-Some.epoch x v r c.match-ruling.self w.in-Some.is (w.self-is ∙ w.restamp.ensures)
    ] in
    with_fate (record_of c.self.inside) c.match-ruling.self (ruled c.args.node c.args.way x v r) _ v c.self.view_is (cc) done

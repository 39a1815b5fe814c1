use Rattle.std.proofs.Common.{◌≡◌, ◌<◌, ◌↔◌, ◌∙◌, ℕ, length, get_or, ap, sym, subst, arith}
use Rattle.std.specs.Prelude.{slice_index, IsTrue, ◌==◌}
use Rattle.std.proofs.lemmas.Bool.{eqb-true, eq-eqb}
use Rattle.std.proofs.lemmas.List.{get_or_read}
use Rattle.ir_model.specs.Tree.{IsParent}
use Rattle.ir_numbering.specs.Numbering.{Numbering, AreSoundNumbers}
use Rattle.ir_numbering.proofs.numbering.Numbering.has_parent.Goals as goal

-- the places of the parent are one, as it is read and as it is reported
parent_told : (s : Numbering) → AreSoundNumbers s → (node parent place read label : ℕ) → node < length s.order → parent < length s.order → 0 < place → place ≡ slice_index s.labels node
    → read ≡ slice_index s.parents place → label ≡ slice_index s.labels parent → IsTrue (read == label) ↔ IsParent s.order s.parents node parent
parent_told s sound node parent place read label node_in parent_in some is reads labelled =
    let l = sound.labels in (
      (λ same.
          let e : slice_index s.parents place ≡ slice_index s.labels parent = sym reads ∙ eqb-true read label same ∙ labelled in
          (place, some, omega (arith, is, l.label node node_in), ap (slice_index s.order) is ∙ l.there node node_in, ap (slice_index s.order) e ∙ l.there parent parent_in)),
      (λ w.
          let here : place ≡ w.0 = is ∙ ap (slice_index s.labels) (sym w.3) ∙ l.back w.0 w.2 in
          let low = sound.nested.lower w.0 w.1 w.2 in
          let there = l.back (slice_index s.parents w.0) (omega (arith, low, w.2)) in
          eq-eqb read label (reads ∙ ap (slice_index s.parents) here ∙ sym there ∙ ap (slice_index s.labels) w.4 ∙ sym labelled)),
    )

pub label_of-place-requires : goal.label_of-place-requires
label_of-place-requires c = c.requires.node

pub index-requires : goal.index-requires
index-requires c =
    let sound = subst AreSoundNumbers c.self.view_is c.self.invariant.0 in
    let label = sound.labels.label c.args.node c.requires.node in
    let long = ap (λ (s : Numbering). length s.parents) c.self.view_is in
    let ok = c.self.inside.parents.ok in
    omega (arith, label, c.label_of-place.ensures, sound.parented, long, ok)

pub label_of-requires : goal.label_of-requires
label_of-requires c = c.requires.other

pub returns-then-place-gt0 : goal.returns-then-place-gt0
returns-then-place-gt0 c =
    let s = c.args.self.now in
    let sound = subst AreSoundNumbers c.self.view_is c.self.invariant.0 in
    let within : c.label_of-place.result < length s.parents = omega (arith, sound.labels.label c.args.node c.requires.node, c.label_of-place.ensures, sound.parented) in
    let inside = ap (λ (t : Numbering). get_or t.parents c.label_of-place.result c.index.result.now) c.self.view_is in
    parent_told s sound c.args.node c.args.parent c.label_of-place.result c.index.result.now c.label_of.result c.requires.node c.requires.other c.if-place-gt0.true c.label_of-place.ensures
    (get_or_read s.parents c.label_of-place.result c.index.result.now within (c.index.ensures ∙ inside) 0) c.label_of.ensures

use Rattle.std.proofs.Common.{◌≡◌, ◌<◌, ◌∙◌, ℕ, List, [], length, take, drop, refl, sym, subst, arith}
use Rattle.std.specs.Prelude.{slice_index}
use Rattle.std.proofs.lemmas.List.{take_at, take_all, get_or_read}
use Rattle.ir_tables.specs.FromNode.{AreFrom}
use Rattle.ir_bounds.specs.Bounds.{AreOwnersBy, AreKeptNearer}
use Rattle.ir_bounds.proofs.Numbers.{owners_first, owners_more, list_pushed}
use Rattle.ir_bounds.proofs.landmarks.Owners.of.Goals as goal

pub loop-i-init : goal.loop-i-init
loop-i-init c =
    let net = c.args.topology.now in
    let landmarks = c.args.landmarks.items in
    let first = get_or_read landmarks 0 c.index.result.now c.requires.landmarks.some c.index.ensures 0 in
    let again = get_or_read landmarks 0 c.index-2.result.now c.requires.landmarks.some c.index-2.ensures 0 in
    let from : AreFrom net c.index-2.result.now c.in_ok-first.first.weights = subst (λ (l : ℕ). AreFrom net l c.in_ok-first.first.weights) (first ∙ sym again) c.in_ok-first.ensures.distances in
    let first_away = list_pushed (λ i xs. AreFrom net (slice_index landmarks i) xs) 0 [] c.push.new.self.items c.in_ok-from_slice.field-0 refl (λ i lt. absurd (omega (arith, lt))) (rw c.in_ok-away.ensures.items at c.in_ok-push.ensures.items)
    (rw (c.in_ok-from_slice.ensures.items, c.weights-2.ensures) (subst (λ (l : ℕ). AreFrom net l c.in_ok-first.first.weights) first c.in_ok-first.ensures.distances)) in
    record {
      some = omega arith;
      within = c.requires.landmarks.some;
      owners = owners_first net c.nodes.ensures.topology c.index-2.result.now landmarks c.in_ok-nodes.nodes.items c.in_ok-radii.radii.items c.in_ok-first.first.weights c.nodes.result c.requires.landmarks.some again from c.nodes.ensures.count
          (c.in_ok-nodes.ensures.items_if_clones_equal (λ y e. e)) (c.in_ok-radii.ensures.items ∙ c.weights.ensures);
      lists = first_away.0;
      away = first_away.1;
    }

pub loop-i-preserved : goal.loop-i-preserved
loop-i-preserved c =
    let net = c.args.topology.now in
    let landmarks = c.args.landmarks.items in
    let i = c.loop-i.i in
    let inside : i < length landmarks = omega (arith, c.loop-i-test.true, c.len-i-end.ensures, c.args.landmarks.ok.0) in
    let before = c.loop-i.invariant.owners in
    let nodes = c.keep_nearer.new.nodes in
    let radii = c.keep_nearer.new.radii in
    let l = get_or_read landmarks i c.index-in-loop-i.result.now inside c.index-in-loop-i.ensures 0 in
    let again = get_or_read landmarks i c.index-in-loop-i-2.result.now inside c.index-in-loop-i-2.ensures 0 in
    let weights = c.in_ok-ways.ways.weights in
    let from : AreFrom net c.index-in-loop-i-2.result.now weights = subst (λ (x : ℕ). AreFrom net x weights) (l ∙ sym again) c.in_ok-ways.ensures.distances in
    let kept : AreKeptNearer c.index-in-loop-i-2.result.now weights c.loop-i.nodes.items c.loop-i.radii.items nodes radii (length weights) =
    rw (c.weights-in-loop-i.ensures, c.as_mut_slice.ensures.value, c.as_mut_slice-in-loop-i.ensures.value) at c.keep_nearer.ensures in
    let more = owners_more net c.nodes.ensures.topology i c.index-in-loop-i-2.result.now landmarks c.loop-i.nodes.items c.loop-i.radii.items nodes radii weights inside again before from kept in
    let nodes_back = take_at nodes (drop (length nodes) c.loop-i.nodes.items) c.loop-i.nodes.len (omega (arith, more.nodes_len, before.nodes_len, c.loop-i.nodes.ok.0)) in
    let radii_back = take_at radii (drop (length radii) c.loop-i.radii.items) c.loop-i.radii.len (omega (arith, more.radii_len, before.radii_len, c.loop-i.radii.ok.0)) in
    let is : AreFrom net (slice_index landmarks i) c.in_ok-from_slice-2.field-0.items =
    rw (c.in_ok-from_slice-2.ensures.items, c.weights-in-loop-i-2.ensures) (subst (λ (x : ℕ). AreFrom net x weights) l c.in_ok-ways.ensures.distances) in
    let pushed = list_pushed (λ k xs. AreFrom net (slice_index landmarks k) xs) i c.loop-i.away.items c.push-in-loop-i.new.self.items c.in_ok-from_slice-2.field-0 c.loop-i.invariant.lists c.loop-i.invariant.away
    c.in_ok-push-2.ensures.items is in
    record { some = omega arith; within = omega (arith, inside); owners = rw (nodes_back, radii_back) more; lists = pushed.0; away = pushed.1 }

pub returns-clause-owners : goal.returns-clause-owners
returns-clause-owners c =
    let landmarks = c.args.landmarks.items in
    let all : take c.loop-i.i landmarks ≡ landmarks = take_all c.loop-i.i landmarks (omega (arith, c.loop-i-test.false, c.len-i-end.ensures, c.args.landmarks.ok.0)) in
    subst (λ (ls : List ℕ). AreOwnersBy c.args.topology.now ls c.loop-i.nodes.items c.loop-i.radii.items) all c.loop-i.invariant.owners

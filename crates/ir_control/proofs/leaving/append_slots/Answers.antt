use Rattle.std.proofs.Common.{◌≡◌, ◌+◌, ◌++◌, ◌∷◌, length, length-append, [], List, Option, Some, map, map-id, sym, ap, ◌∙◌, rules, arith}
use Rattle.std.proofs.lemmas.Iterator.Adapters.{YieldsList-from_vec}
use Rattle.std.proofs.lemmas.Iterator.Consumers.{YieldsList-turn, YieldsList-end}
use Rattle.std.proofs.lemmas.List.{length-map, map-append, append_assoc}
use Rattle.ir_control.proofs.leaving.append_slots.Goals as goal

-- one more in a slot
one_more : {T : Type 0} (into before after : List (Option T)) (yielded : List T) (item : T) →
    before ≡ into ++ map (λ x. Some x) yielded → after ≡ before ++ Some item ∷ [] → after ≡ into ++ map (λ x. Some x) (yielded ++ item ∷ [])
one_more {T = T} into before after yielded item same more =
    more ∙ ap (λ (xs : List (Option T)). xs ++ Some item ∷ []) same ∙ append_assoc into (map (λ (x : T). Some x) yielded) (Some item ∷ [])
    ∙ ap (λ (xs : List (Option T)). into ++ xs) (sym (map-append (λ (x : T). Some x) yielded (item ∷ [])))

-- how many slots there are
slots_many : {T : Type 0} (into before : List (Option T)) (yielded : List T) → before ≡ into ++ map (λ x. Some x) yielded → length before ≡ length into + length yielded
slots_many {T = T} into before yielded same = omega (arith, ap length same, length-append into (map (λ (x : T). Some x) yielded), length-map yielded (λ (x : T). Some x))

pub push_reserved-requires : goal.push_reserved-requires
push_reserved-requires g c =
    let turn = YieldsList-turn (YieldsList-from_vec {s = c.into_iter-item-iterator.result} c.args.from.items (search rules) (search rules))
    c.loop-item.yielded c.loop-item.item-iterator c.loop-item.yielded_by c.next.result c.next.new.self c.in-Some.item c.in-Some.is c.next.ensures.steps in
    omega (arith, turn.0, slots_many c.args.into.now.items c.loop-item.into.items c.loop-item.yielded c.loop-item.invariant.0, c.loop-item.invariant.1, c.loop-item.into.ok.0, c.args.into.now.ok.0, c.args.from.ok.0, c.requires)

pub loop-item-preserved : goal.loop-item-preserved
loop-item-preserved g c = (
  one_more c.args.into.now.items c.loop-item.into.items c.push_reserved.new.self.items c.loop-item.yielded c.in-Some.item c.loop-item.invariant.0 c.push_reserved.ensures.items,
  c.push_reserved.ensures.capacity ∙ c.loop-item.invariant.1,
)

pub returns-clause-items : goal.returns-clause-items
returns-clause-items g c =
    let end = YieldsList-end (YieldsList-from_vec {s = c.into_iter-item-iterator.result} c.args.from.items (search rules) (search rules))
    c.loop-item.yielded c.loop-item.item-iterator c.loop-item.yielded_by c.next.result c.next.new.self c.in-None.is c.next.ensures.steps in
    c.loop-item.invariant.0 ∙ ap (λ xs. c.args.into.now.items ++ map (λ x. Some x) xs) (sym (map-id c.loop-item.yielded) ∙ end.0)

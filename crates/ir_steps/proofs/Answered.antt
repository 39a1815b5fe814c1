use Rattle.std.proofs.Common.{◌≡◌, ℕ, suc, ◌+◌, ◌*◌, List, [], ◌∷◌, slice_get, None, refl, sym, ap, ◌∙◌, subst, inl, inr}
use Rattle.std.specs.Prelude.{Result, Ok, Err, IfErr}
use Rattle.std.proofs.lemmas.List.{ext_get_or}
use Rattle.std.proofs.lemmas.Option.{same_Some, none-some}
use Rattle.ir_core.specs.declared.event.Event.{Event}
use Rattle.ir_core.specs.declared.event.Reply.{Reply}
use Rattle.ir_core.specs.declared.event.Refused.{Refused}
use Rattle.ir_core.specs.Setting.{Setting, nodes_of, links_of}
use Rattle.ir_core.specs.Entry.{Entry, DidInject, DidLearn, DidTake, DidRead, DidAct, DidChange, DidInstall, reply_of}
use Rattle.ir_core.specs.History as history
use Rattle.ir_core.specs.Meaning.{Sight, ComesTo, sight_after, with_entry}
use Rattle.ir_core.specs.World.{World, IsWorld, IsAnswer, sight_in, after}
use Rattle.ir_core.specs.Shows.{Shows, IsAnswered, MayWantMemory, reply_to}
use Rattle.ir_core.proofs.Shown.{same_sight}
use Rattle.ir_core.proofs.Theorem.{shows_after}
use Rattle.ir_steps.specs.Parts.{HasHistory, IsApplied}

-- ---- what a history shows is one world

-- lists with the same at each place
pub same_places : {X : Type 0} (xs ys : List X) → ((k : ℕ) → slice_get xs k ≡ slice_get ys k) → xs ≡ ys
same_places [] [] h = refl
same_places [] (y ∷ ys) h = absurd (none-some y (h 0))
same_places (x ∷ xs) [] h = absurd (none-some x (sym (h 0)))
same_places {X} (x ∷ xs) (y ∷ ys) h =
    let head : x ≡ y = same_Some x y (h 0) in
    ap (λ (z : X). z ∷ xs) head ∙ ap (λ (zs : List X). y ∷ zs) (same_places xs ys (λ k. h (suc k)))

pub same_world : (s t : World) → IsWorld s → IsWorld t → t.opening ≡ s.opening → (log : List Entry) → Shows log s → Shows log t → t ≡ s
same_world s t ok is over log k m =
    let boards = m.boards ∙ sym k.boards in
    let plans = m.plans ∙ ap (λ (o : Setting). history.plans o log) over ∙ sym k.plans in
    let learnt = m.learnt ∙ sym k.learnt in
    let nodes = ap (λ (o : Setting). nodes_of o) over in
    let channel_count = ap (λ (o : Setting). nodes_of o + 2 * links_of o) over in
    let views = ext_get_or 0 t.views s.views (is.views ∙ nodes ∙ sym ok.views) (λ u lt. m.view u ∙ sym (k.view u)) in
    let hands = ext_get_or None t.hands s.hands (is.hands ∙ nodes ∙ sym ok.hands) (λ u lt. m.hand u ∙ sym (k.hand u)) in
    let channels = ext_get_or [] t.channels s.channels (is.channels ∙ channel_count ∙ sym ok.channels) (λ c lt. m.waiting c ∙ ap (λ (o : Setting). history.waiting o c log) over ∙ sym (k.waiting c)) in
    let records = same_places t.records s.records (λ id. m.packet id ∙ sym (k.packet id)) in
    λ i. record {
      opening = over i;
      boards = boards i;
      plans = plans i;
      learnt = learnt i;
      views = views i;
      hands = hands i;
      channels = channels i;
      records = records i;
    }

after_opening : (s : World) (entry : Entry) → (after s entry).opening ≡ s.opening
after_opening s (DidInject id e source dest room) = refl
after_opening s (DidLearn e) = refl
after_opening s (DidTake u way id) = refl
after_opening s (DidRead u k) = refl
after_opening s (DidAct u id way restamp v) = refl
after_opening s (DidChange b) = refl
after_opening s (DidInstall e t b) = refl

-- ---- the answer to an event of which the history says one thing, and never that it wants memory

module _ (s new : World) (ok : IsWorld s) (has : HasHistory s) (e : Event) (reply : Result Reply Refused) (applied : IsApplied e reply s new) (comes : Sight → Result Entry Refused)
    (means : (x : Sight) (w : Result Entry Refused) → ComesTo s.opening x e w → w ≡ comes x) (meant : (x : Sight) → ComesTo s.opening x e (comes x))
    (free : (x : Sight) → MayWantMemory s.opening x e → ⊥) (kept : (entry : Entry) → comes (sight_in s) ≡ Ok entry → IsWorld (after s entry)) where
  by_wanted : (w : Result Entry Refused) → comes (sight_in s) ≡ w → reply ≡ reply_to w → (later : List Entry) → later ≡ with_entry has.0 w → Shows later new → IsAnswer s new w reply
  by_wanted (Err x) is told later to shows = (told, subst (λ (r : Result Reply Refused). IfErr r (λ _. new ≡ s)) told applied.refused)
  by_wanted (Ok entry) is told later to shows =
      let comes_to : ComesTo s.opening (sight_in s) e (Ok entry) = subst (λ (w : Result Entry Refused). ComesTo s.opening (sight_in s) e w) is (meant (sight_in s)) in
      let there = shows_after has.0 s (after s entry) ok has.1 e (Ok (reply_of entry)) (Ok entry) comes_to (refl, refl) in
      let here : Shows (entry ∷ has.0) new = subst (λ (l : List Entry). Shows l new) to shows in
      (told, same_world (after s entry) new (kept entry is) applied.world (applied.opening ∙ sym (after_opening s entry)) (entry ∷ has.0) there here)

  by_answer : (later : List Entry) → IsAnswered s.opening has.0 e reply later → Shows later new → IsAnswer s new (comes (sight_in s)) reply
  by_answer later (inl a) shows =
      let one : a.0 ≡ comes (sight_in s) = means (sight_after s.opening has.0) a.0 a.1 ∙ ap comes (sym (same_sight has.0 s has.1)) in
      by_wanted (comes (sight_in s)) refl (a.2 ∙ ap (λ (w : Result Entry Refused). reply_to w) one) later (a.3 ∙ ap (λ (w : Result Entry Refused). with_entry has.0 w) one) shows
  by_answer later (inr a) shows = absurd (free (sight_after s.opening has.0) a.0)

  pub answer_of : IsAnswer s new (comes (sight_in s)) reply
  answer_of = let a = applied.history has.0 has.1 in by_answer a.0 a.1 a.2

use Rattle.std.proofs.Common.{◌≡◌, ◌+◌, ◌-◌, ◌<◌, ◌≤◌, ◌∙◌, ◌++◌, ℕ, Bool, true, false, cond, List, [], Option, Some, None, IfSome, length, take, drop, slice_index_or, leb-true, sym, ap, subst, arith}
use Rattle.std.proofs.lemmas.List.{with_items_is, take-take, length-take, length-drop}
use Rattle.std.specs.Global.{Vec}
use Rattle.std.specs.Vec.{with_items}
use Rattle.ir_streams.specs.declared.TheConstants.{PART_BYTES}
use Rattle.ir_streams.specs.Pouring.{Pours}
use Rattle.ir_streams.proofs.Poured.{pours_kept}
use Rattle.ir_streams.proofs.parts.TextParts.push_text.Goals.{then-end-begin-le-SHORT_BYTES, else-end-begin-le-SHORT_BYTES}
use Rattle.ir_streams.proofs.parts.TextParts.push_text.Goals as goal

-- bytes of a slice that has that many
length_front : (begin n : ℕ) (bytes : List ℕ) → n ≤ length bytes - begin → length (take (begin + n - begin) (drop begin bytes)) ≡ n
length_front begin n bytes long = omega (arith, long, length-take (begin + n - begin) (drop begin bytes), length-drop begin bytes)

-- of a front the bytes that count
front_of : (begin n m : ℕ) (bytes : List ℕ) → m ≤ n → take m (take (begin + n - begin) (drop begin bytes)) ≡ take m (drop begin bytes)
front_of begin n m bytes few = take-take m (begin + n - begin) (drop begin bytes) (omega (arith, few))

few_kept : (failed : Bool) (n : ℕ) (kept : List ℕ) → length kept ≤ PART_BYTES → IfSome (cond failed None (Some (take n kept))) (λ front. length front ≤ PART_BYTES)
few_kept true n kept few = tt
few_kept false n kept few = omega (arith, few, length-take n kept)

-- the items that are written over those of a vector
put_in : (v : Vec ℕ) (items : List ℕ) → length items ≡ length v.items → (with_items v items).items ≡ items
put_in v items same = with_items_is v items (same ∙ sym v.ok.0)

-- what has room after the first bytes
room_behind : (count n old len front new : ℕ) → len ≡ old → n ≤ len - count → front ≡ n → new ≡ old → count ≤ old → count + front ≤ new
room_behind count n old len front new measured room is same within = omega (arith, measured, room, is, same, within)

-- so many count of them then
count_within : (count more old len size : ℕ) → len ≡ old → 16 ≤ len - count → more ≤ 16 → count ≤ old → size ≡ count + more → size ≤ old
count_within count more old len size measured room few within is = omega (arith, measured, room, few, within, is)

not_both : (m n : ℕ) → m ≤ n → n < m → ⊥
not_both m n low high = omega (arith, low, high)

pub put_front-self-inside-requires-clause-room : goal.put_front-self-inside-requires-clause-room
put_front-self-inside-requires-clause-room g c =
    let bytes : List ℕ = c.held-begin.result.0.now in
    let begin : ℕ = c.held-begin.result.1 in
    let long : 16 ≤ length bytes - begin = elim c.if-end-begin-le-SHORT_BYTES.branch [
      | then-end-begin-le-SHORT_BYTES w ↦ leb-true 16 (length bytes - begin) (sym w.is_short-is ∙ c.if-is_short.true)
      | else-end-begin-le-SHORT_BYTES w ↦ absurd (not_both (c.held-begin.result.2 - begin) 16 (leb-true (c.held-begin.result.2 - begin) 16 (sym w.is_short-is ∙ c.if-is_short.true)) w.if-end-begin-le-SHORT_BYTES.false)
    ] in
    room_behind c.self.inside.count 16 (length c.self.inside.kept.items) c.len.result _ (length c.as_mut_slice.result.now) (c.len.ensures ∙ c.self.inside.kept.ok.0) c.if-has_room.true (length_front begin 16 bytes long) (ap length c.as_mut_slice.ensures.value) c.self.invariant.count

pub put_front-self-inside-requires-clause-more : goal.put_front-self-inside-requires-clause-more
put_front-self-inside-requires-clause-more g c =
    let bytes : List ℕ = c.held-begin.result.0.now in
    let begin : ℕ = c.held-begin.result.1 in
    let short : c.held-begin.result.2 - begin ≤ 16 = elim c.if-end-begin-le-SHORT_BYTES.branch [
      | then-end-begin-le-SHORT_BYTES w ↦ w.if-end-begin-le-SHORT_BYTES.true
      | else-end-begin-le-SHORT_BYTES w ↦ leb-true (c.held-begin.result.2 - begin) 16 (sym w.is_short-is ∙ c.if-is_short.true)
    ] in
    let long : 16 ≤ length bytes - begin = elim c.if-end-begin-le-SHORT_BYTES.branch [
      | then-end-begin-le-SHORT_BYTES w ↦ leb-true 16 (length bytes - begin) (sym w.is_short-is ∙ c.if-is_short.true)
      | else-end-begin-le-SHORT_BYTES w ↦ absurd (not_both (c.held-begin.result.2 - begin) 16 (leb-true (c.held-begin.result.2 - begin) 16 (sym w.is_short-is ∙ c.if-is_short.true)) w.if-end-begin-le-SHORT_BYTES.false)
    ] in
    omega (arith, short, length_front begin 16 bytes long)

pub invariant_of-self : goal.invariant_of-self
invariant_of-self g c =
    let made = c.put_front-self-inside.ensures in
    let kept : List ℕ = c.self.inside.kept.items in
    let same : length c.put_front-self-inside.new.kept ≡ length kept = made.length ∙ ap length c.as_mut_slice.ensures.value in
    let items = put_in c.self.inside.kept c.put_front-self-inside.new.kept same in
    let begin : ℕ = c.held-begin.result.1 in
    let short : c.held-begin.result.2 - begin ≤ 16 = elim c.if-end-begin-le-SHORT_BYTES.branch [
      | then-end-begin-le-SHORT_BYTES w ↦ w.if-end-begin-le-SHORT_BYTES.true
      | else-end-begin-le-SHORT_BYTES w ↦ leb-true (c.held-begin.result.2 - begin) 16 (sym w.is_short-is ∙ c.if-is_short.true)
    ] in
    record {
      room = record { few = subst (λ (n : ℕ). n ≤ PART_BYTES) (sym (ap length items ∙ same)) c.self.invariant.room.few; capacity = c.self.invariant.room.capacity };
      count = subst (λ (n : ℕ). c.put_front-self-inside.result ≤ n) (sym (ap length items ∙ same))
          (count_within c.self.inside.count _ (length kept) c.len.result c.put_front-self-inside.result (c.len.ensures ∙ c.self.inside.kept.ok.0) c.if-has_room.true (omega (arith, short)) c.self.invariant.count made.count);
    }

pub returns-then-not-self-clause-writes : goal.returns-then-not-self-clause-writes
returns-then-not-self-clause-writes g c =
    let bytes : List ℕ = c.held-begin.result.0.now in
    let begin : ℕ = c.held-begin.result.1 in
    let end : ℕ = c.held-begin.result.2 in
    let kept : List ℕ = c.self.inside.kept.items in
    let made = c.put_front-self-inside.ensures in
    let items = put_in c.self.inside.kept c.put_front-self-inside.new.kept (made.length ∙ ap length c.as_mut_slice.ensures.value) in
    let short : end - begin ≤ 16 = elim c.if-end-begin-le-SHORT_BYTES.branch [
      | then-end-begin-le-SHORT_BYTES w ↦ w.if-end-begin-le-SHORT_BYTES.true
      | else-end-begin-le-SHORT_BYTES w ↦ leb-true (c.held-begin.result.2 - begin) 16 (sym w.is_short-is ∙ c.if-is_short.true)
    ] in
    pours_kept g.W.Writer.contents g.W.Writer.wrote g.W.Writer.settled c.args.writer.now c.self.inside.has_failed (take c.self.inside.count kept) (take c.put_front-self-inside.result (with_items c.self.inside.kept c.put_front-self-inside.new.kept).items)
    (take (end - begin) (take (begin + 16 - begin) (drop begin bytes))) (slice_index_or c.args.texts.now c.args.k []) c.args.self.now
    c.if-not-self.true (c.self.view_is ∙ c.make_room.ensures) (ap (take c.put_front-self-inside.result) items ∙ made.bytes ∙ ap (λ (ks : List ℕ). take c.self.inside.count ks ++ take (end - begin) (take (begin + 16 - begin) (drop begin bytes))) c.as_mut_slice.ensures.value)
    (front_of begin 16 (end - begin) bytes short ∙ c.held-begin.ensures.text)

pub returns-then-not-self-clause-few : goal.returns-then-not-self-clause-few
returns-then-not-self-clause-few g c =
    let same : length c.put_front-self-inside.new.kept ≡ length c.self.inside.kept.items = c.put_front-self-inside.ensures.length ∙ ap length c.as_mut_slice.ensures.value in
    let items = put_in c.self.inside.kept c.put_front-self-inside.new.kept same in
    few_kept c.self.inside.has_failed c.put_front-self-inside.result (with_items c.self.inside.kept c.put_front-self-inside.new.kept).items (subst (λ (n : ℕ). n ≤ PART_BYTES) (sym (ap length items ∙ same)) c.self.invariant.room.few)

pub returns-else-is_short-clause-writes : goal.returns-else-is_short-clause-writes
returns-else-is_short-clause-writes g c =
    subst (λ (o : Option (List ℕ)). Pours g.W.Writer.contents g.W.Writer.wrote g.W.Writer.settled c.args.writer.now o (slice_index_or c.args.texts.now c.args.k []) c.push.new.writer c.push.new.self) c.make_room.ensures
    (subst (λ (t : List ℕ). Pours g.W.Writer.contents g.W.Writer.wrote g.W.Writer.settled c.args.writer.now c.make_room.new.self t c.push.new.writer c.push.new.self) c.held-begin.ensures.text c.push.ensures.writes)

pub returns-else-is_short-clause-few : goal.returns-else-is_short-clause-few
returns-else-is_short-clause-few g c = c.push.ensures.few

-- How the segments of a record change when it has one more hop, another fate, or a restamp.
use Rattle.std.proofs.Common.{◌≡◌, ℕ, suc, ◌+◌, ◌<◌, ◌≤◌, List, [], ◌∷◌, ◌++◌, length, take, drop, slice_index, Bool, true, false, cond, refl, sym, ap, ◌∙◌, arith, zero, add-one}
use Rattle.std.specs.Prelude.{reverse}
use Rattle.std.specs.List.{AllByRecursion}
use Rattle.std.proofs.lemmas.List.{take-append-le, drop-append-le, get_or_append_left, take_all, length_push, length-take-le, drop-drop, take-append-drop, reverse-append}
use Rattle.ir_core.specs.declared.packet.Fate.{Fate}
use Rattle.ir_core.specs.declared.packet.Fate.TheVariants.{Retired}
use Rattle.ir_core.specs.declared.packet.Restamp.{Restamp}
use Rattle.ir_core.specs.Record.{Record, stamp_in, place_in, present_in, until, segments_in, segments, joined, present, stamp_of}
use Rattle.ir_core.specs.Sound.{AreRising, ArePlaces, AreLinked, last_of}

-- the segments before the present one
abbrev pub past_in : List Restamp → Record → List Record
past_in [] r = []
past_in (s ∷ older) r = segments_in older (until s r)

pub segments_split : (latest : List Restamp) (r : Record) → segments_in latest r ≡ present_in latest r ∷ past_in latest r
segments_split [] r = refl
segments_split (s ∷ older) r = refl

-- with one more hop or none, and another fate
abbrev pub gone : Bool → ℕ → Fate → Record → Record
gone b u fate r = record r { hops = cond b (r.hops ++ u ∷ []) r.hops; fate = fate }

pub present_gone : (latest : List Restamp) (b : Bool) (u : ℕ) (fate : Fate) (r : Record) → ArePlaces (length r.hops) latest → present_in latest (gone b u fate r) ≡ gone b u fate (present_in latest r)
present_gone latest false u fate r k = refl
present_gone [] true u fate r k = refl
present_gone (s ∷ older) true u fate r k =
    let lt = k.0 in
    let hops : drop s.from (r.hops ++ u ∷ []) ≡ drop s.from r.hops ++ u ∷ [] = drop-append-le s.from r.hops (u ∷ []) (omega arith) in
    let origin : slice_index (r.hops ++ u ∷ []) s.from ≡ slice_index r.hops s.from = get_or_append_left r.hops (u ∷ []) 0 s.from lt in
    λ i. record { id = r.id; epoch = s.epoch; source = origin i; dest = r.dest; hops = hops i; restamps = []; fate = fate; room = r.room }

pub past_gone : (latest : List Restamp) (b : Bool) (u : ℕ) (fate : Fate) (r : Record) → ArePlaces (length r.hops) latest → past_in latest (gone b u fate r) ≡ past_in latest r
past_gone [] b u fate r k = refl
past_gone (s ∷ older) false u fate r k = refl
past_gone (s ∷ older) true u fate r k =
    let lt = k.0 in
    ap (λ (hops : List ℕ). segments_in older (record r { hops = hops; restamps = []; fate = Retired })) (take-append-le (s.from + 1) r.hops (u ∷ []) (omega arith))

pub segments_gone : (latest : List Restamp) (b : Bool) (u : ℕ) (fate : Fate) (r : Record) → ArePlaces (length r.hops) latest →
    segments_in latest (gone b u fate r) ≡ gone b u fate (present_in latest r) ∷ past_in latest r
segments_gone latest b u fate r k =
    segments_split latest (gone b u fate r) ∙ ap (λ (g : Record). g ∷ past_in latest (gone b u fate r)) (present_gone latest b u fate r k)
    ∙ ap (λ (gs : List Record). gone b u fate (present_in latest r) ∷ gs) (past_gone latest b u fate r k)

-- the restamps themselves are not looked at, once they are given
pub segments_forget : (latest more : List Restamp) (r : Record) → segments_in latest (record r { restamps = more }) ≡ segments_in latest r
segments_forget [] more r = refl
segments_forget (s ∷ older) more r = refl

pub places_more : (latest : List Restamp) (n m : ℕ) → n ≤ m → ArePlaces n latest → ArePlaces m latest
places_more [] n m le k = tt
places_more (s ∷ older) n m le k = (let lt = k.0 in omega arith, k.1)

pub longer : (b : Bool) (u : ℕ) (hops : List ℕ) → length hops ≤ length (cond b (hops ++ u ∷ []) hops)
longer true u hops = rw length_push (omega arith)
longer false u hops = omega arith

pub rising_same : (g h : Record) (rest : List Record) → g.epoch ≡ h.epoch → AreRising (g ∷ rest) → AreRising (h ∷ rest)
rising_same g h [] e k = tt
rising_same g h (x ∷ rest) e k = (let lt = k.0 in omega arith, k.1)

-- what holds of each segment holds of the present one
pub of_present : (P : Record → Type 0) (latest : List Restamp) (r : Record) → AllByRecursion P (segments_in latest r) → P (present_in latest r)
of_present P [] r a = a.0
of_present P (s ∷ older) r a = a.0

pub reverse_push : (xs : List Restamp) (s : Restamp) → reverse (xs ++ s ∷ []) ≡ s ∷ reverse xs
reverse_push xs s = reverse-append xs (s ∷ [])

-- a record whose last hop is this node, with a restamp there
abbrev pub stamped : ℕ → List ℕ → Restamp → Record → Record
stamped u front s r = record r { hops = front ++ u ∷ []; restamps = r.restamps ++ s ∷ [] }

-- a new segment
abbrev pub begun : ℕ → ℕ → Record → Record
begun u e r = record r { epoch = e; source = u; hops = u ∷ []; restamps = [] }

pub drop_front : (front : List ℕ) (u : ℕ) → drop (length front) (front ++ u ∷ []) ≡ u ∷ []
drop_front [] u = refl
drop_front (x ∷ front) u = drop_front front u

pub last_front : (front : List ℕ) (u : ℕ) → slice_index (front ++ u ∷ []) (length front) ≡ u
last_front [] u = refl
last_front (x ∷ front) u = last_front front u

pub rising_begun : (u e : ℕ) (r : Record) (latest : List Restamp) (x : Record) → (present_in latest x).epoch < e → AreRising (segments_in latest x) → AreRising (begun u e r ∷ segments_in latest x)
rising_begun u e r [] x lt k = (lt, k)
rising_begun u e r (s ∷ older) x lt k = (lt, k)

-- the segments after a restamp: a new one, and those so far, the present one of them ended
pub present_stamped : (u e : ℕ) (front : List ℕ) (r : Record) → present (stamped u front (record { epoch = e; from = length front }) r) ≡ begun u e r
present_stamped u e front r =
    let s : Restamp = record { epoch = e; from = length front } in
    let back = reverse_push r.restamps s in
    ap (λ (latest : List Restamp). present_in latest (stamped u front s r)) back
    ∙ (λ i. record { id = r.id; epoch = e; source = last_front front u i; dest = r.dest; hops = drop_front front u i; restamps = []; fate = r.fate; room = r.room })

pub segments_stamped : (u e : ℕ) (front : List ℕ) (r : Record) →
    segments (stamped u front (record { epoch = e; from = length front }) r) ≡ begun u e r ∷ segments (record r { hops = front ++ u ∷ []; fate = Retired })
segments_stamped u e front r =
    let s : Restamp = record { epoch = e; from = length front } in
    let all : take (length front + 1) (front ++ u ∷ []) ≡ front ++ u ∷ [] = take_all (length front + 1) (front ++ u ∷ []) (rw length_push (omega arith)) in
    ap (λ (latest : List Restamp). segments_in latest (stamped u front s r)) (reverse_push r.restamps s)
    ∙ (λ i. record { id = r.id; epoch = e; source = last_front front u i; dest = r.dest; hops = drop_front front u i; restamps = []; fate = r.fate; room = r.room } ∷ segments_in (reverse r.restamps) (record r { hops = all i; restamps = []; fate = Retired }))
    ∙ ap (λ (gs : List Record). begun u e r ∷ gs) (segments_forget (reverse r.restamps) [] (record r { hops = front ++ u ∷ []; fate = Retired }))

pub stamp_stamped : (u e : ℕ) (front : List ℕ) (r : Record) → stamp_of (stamped u front (record { epoch = e; from = length front }) r) ≡ e
stamp_stamped u e front r = ap (λ (latest : List Restamp). stamp_in latest r.epoch) (reverse_push r.restamps (record { epoch = e; from = length front }))

-- the segments joined end to end are the hops
joined_more : (g : Record) (latest : List Restamp) (x : Record) → joined (g ∷ segments_in latest x) ≡ joined (segments_in latest x) ++ drop 1 g.hops
joined_more g [] x = refl
joined_more g (s ∷ older) x = refl

pub joined_in : (latest : List Restamp) (r : Record) → ArePlaces (length r.hops) latest → joined (segments_in latest r) ≡ r.hops
joined_in [] r k = refl
joined_in (s ∷ older) r k =
    let lt = k.0 in
    let there = length-take-le (s.from + 1) r.hops (omega arith) in
    let below = joined_in older (until s r) (rw there (places_more older s.from (s.from + 1) (omega arith) k.1)) in
    joined_more (present_in (s ∷ older) r) older (until s r) ∙ ap (λ (front : List ℕ). front ++ drop 1 (drop s.from r.hops)) below
    ∙ ap (λ (back : List ℕ). take (s.from + 1) r.hops ++ back) (drop-drop 1 s.from r.hops) ∙ take-append-drop (s.from + 1) r.hops

-- each segment begins where the one before it ended
pub last_drop : (k : ℕ) (hops : List ℕ) → k < length hops → last_of (drop k hops) ≡ last_of hops
last_drop zero hops lt = refl
last_drop (suc k) [] lt = absurd (omega arith)
last_drop (suc k) (x ∷ []) lt = absurd (omega arith)
last_drop (suc k) (x ∷ y ∷ hops) lt = last_drop k (y ∷ hops) (omega arith)

pub last_take : (n : ℕ) (hops : List ℕ) → n < length hops → last_of (take (suc n) hops) ≡ slice_index hops n
last_take n [] lt = absurd (omega arith)
last_take zero (x ∷ hops) lt = refl
last_take (suc n) (x ∷ []) lt = absurd (omega arith)
last_take (suc n) (x ∷ y ∷ hops) lt = last_take n (y ∷ hops) (omega arith)

linked_more : (g : Record) (latest : List Restamp) (x : Record) → g.source ≡ last_of (present_in latest x).hops → AreLinked (segments_in latest x) → AreLinked (g ∷ segments_in latest x)
linked_more g [] x e k = (e, k)
linked_more g (s ∷ older) x e k = (e, k)

place_below : (latest : List Restamp) (n : ℕ) → 0 < n → ArePlaces n latest → place_in latest < n
place_below [] n some k = some
place_below (s ∷ older) n some k = k.0

pub linked_in : (latest : List Restamp) (r : Record) → ArePlaces (length r.hops) latest → AreLinked (segments_in latest r)
linked_in [] r k = tt
linked_in (s ∷ older) r k =
    let lt = k.0 in
    let there = length-take-le (s.from + 1) r.hops (omega arith) in
    let places : ArePlaces (length (take (s.from + 1) r.hops)) older = rw there (places_more older s.from (s.from + 1) (omega arith) k.1) in
    let within = place_below older (length (take (s.from + 1) r.hops)) (omega arith) places in
    let at_end : slice_index r.hops s.from ≡ last_of (drop (place_in older) (take (s.from + 1) r.hops)) =
    sym (ap (λ (n : ℕ). last_of (take n r.hops)) (add-one s.from) ∙ last_take s.from r.hops lt) ∙ sym (last_drop (place_in older) (take (s.from + 1) r.hops) within) in
    linked_more (present_in (s ∷ older) r) older (until s r) at_end (linked_in older (until s r) places)

-- The segments of a record, from its hops and restamps in order.
use Rattle.std.proofs.Common.{◌≡◌, ◌<◌, ◌≤◌, ◌+◌, ◌-◌, ℕ, zero, suc, Bool, true, List, [], ◌∷◌, ◌++◌, length, take, drop, map, reverse, sum_by, refl, sym, ap, subst, ◌∙◌, arith}
use Rattle.std.specs.List.{list_all}
use Rattle.std.proofs.lemmas.Bool.{and_parts, and_from}
use Rattle.std.proofs.lemmas.List.{reverse-append, reverse-reverse, drop-drop, length-drop, length-take-le}
use Rattle.std.proofs.lemmas.List.Sums.{sum_by-cons}
use Rattle.ir_model.specs.Topology.{Topology}
use Rattle.ir_model.specs.Walk.{weight_from, walk_weight}
use Rattle.ir_core.specs.declared.packet.Restamp.{Restamp}
use Rattle.ir_core.specs.Record.{Record, present_in, until, segments_in}
use Rattle.ir_core.specs.Sound.{ArePlaces}
use Rattle.ir_trace.specs.Row.{Segment}
use Rattle.ir_trace.specs.Written.{parts_of}
use Rattle.ir_trace.specs.Stretches.{parts_from, AreAscending}

pub all_drop : (p : ℕ → Bool) (n : ℕ) (xs : List ℕ) → list_all p xs ≡ true → list_all p (drop n xs) ≡ true
all_drop p zero xs h = h
all_drop p (suc n) [] h = h
all_drop p (suc n) (x ∷ xs) h = all_drop p n xs (and_parts (p x) (list_all p xs) h).1

pub all_take : (p : ℕ → Bool) (n : ℕ) (xs : List ℕ) → list_all p xs ≡ true → list_all p (take n xs) ≡ true
all_take p zero xs h = refl
all_take p (suc n) [] h = refl
all_take p (suc n) (x ∷ xs) h = let both = and_parts (p x) (list_all p xs) h in and_from (p x) (list_all p (take n xs)) both.0 (all_take p n xs both.1)

-- ---- weights

split_from : (net : Topology) (u : ℕ) (rest : List ℕ) (k : ℕ) → k ≤ length rest → weight_from net u (take k rest) + walk_weight net (drop k (u ∷ rest)) ≡ weight_from net u rest
split_from net u rest zero le = omega arith
split_from net u [] (suc k) le = absurd (omega arith)
split_from net u (v ∷ rest) (suc k) le = omega (arith, split_from net v rest k (omega arith))

-- two parts with one node in common weigh what the whole does
split_weight : (net : Topology) (xs : List ℕ) (k : ℕ) → k < length xs → walk_weight net (take (k + 1) xs) + walk_weight net (drop k xs) ≡ walk_weight net xs
split_weight net [] k lt = absurd (omega arith)
split_weight net (u ∷ rest) k lt =
    let one : k + 1 ≡ suc k = omega arith in
    rw one (split_from net u rest k (omega arith))

abbrev weigh : Topology → Segment → ℕ
weigh net part = walk_weight net part.hops

pub parts_weigh : (net : Topology) (epoch from : ℕ) (hops : List ℕ) (restamps : List Restamp) → AreAscending from (length hops) restamps → sum_by (λ part. walk_weight net part.hops) (parts_from epoch from hops restamps) ≡ walk_weight net (drop from hops)
parts_weigh net epoch from hops [] up = omega (arith, sum_by-cons (weigh net) (record { epoch = epoch; hops = drop from hops }) [])
parts_weigh net epoch from hops (s ∷ later) up =
    let part : Segment = record { epoch = epoch; hops = take ((s.from + 1) - from) (drop from hops) } in
    let here = sum_by-cons (weigh net) part (parts_from s.epoch s.from hops later) in
    let rest = parts_weigh net s.epoch s.from hops later up.2 in
    let k = s.from - from in
    let more : (s.from + 1) - from ≡ (s.from - from) + 1 = (let a : from ≤ s.from = up.0 in omega arith) in
    let on : from + (s.from - from) ≡ s.from = (let a : from ≤ s.from = up.0 in omega arith) in
    let there : drop (s.from - from) (drop from hops) ≡ drop s.from hops = drop-drop (s.from - from) from hops ∙ ap (λ n. drop n hops) on in
    let long : s.from - from < length (drop from hops) = (let a : from ≤ s.from = up.0 in let b : s.from < length hops = up.1 in omega (arith, length-drop from hops)) in
    let split = split_weight net (drop from hops) (s.from - from) long in
    let first : walk_weight net part.hops ≡ walk_weight net (take ((s.from - from) + 1) (drop from hops)) = ap (λ n. walk_weight net (take n (drop from hops))) more in
    let second : walk_weight net (drop (s.from - from) (drop from hops)) ≡ walk_weight net (drop s.from hops) = ap (walk_weight net) there in
    omega (arith, here, rest, split, first, second)

-- ---- places

ascending_push : (from m n : ℕ) (restamps : List Restamp) (s : Restamp) → AreAscending from m restamps → from ≤ m → m ≡ s.from → s.from < n → AreAscending from n (restamps ++ s ∷ [])
ascending_push from m n [] s up le e lt = (omega (arith, le, e), lt, tt)
ascending_push from m n (x ∷ restamps) s up le e lt =
    let a : x.from < m = up.1 in
    (up.0, omega (arith, a, e, lt), ascending_push x.from m n restamps s up.2 (omega arith) e lt)

ascending_from : (n : ℕ) (latest : List Restamp) → ArePlaces n latest → AreAscending 0 n (reverse latest)
ascending_from n [] are = tt
ascending_from n (s ∷ older) are =
    let P : List Restamp → Type 0 = λ rs. AreAscending 0 n rs in
    subst P (sym (reverse-append (s ∷ []) older)) (ascending_push 0 s.from n (reverse older) s (ascending_from s.from older are.1) (omega arith) refl are.0)

pub ascending : (n : ℕ) (restamps : List Restamp) → ArePlaces n (reverse restamps) → AreAscending 0 n restamps
ascending n restamps are =
    let P : List Restamp → Type 0 = λ rs. AreAscending 0 n rs in
    subst P (reverse-reverse restamps) (ascending_from n (reverse restamps) are)

-- ---- segments

take_take : (a b : ℕ) (xs : List ℕ) → a ≤ b → take a (take b xs) ≡ take a xs
take_take zero b xs le = refl
take_take (suc a) zero xs le = absurd (omega arith)
take_take (suc a) (suc b) [] le = refl
take_take (suc a) (suc b) (x ∷ xs) le = ap (λ (t : List ℕ). x ∷ t) (take_take a b xs (omega arith))

take_drop_take : (a f b : ℕ) (xs : List ℕ) → a + f ≤ b → take a (drop f (take b xs)) ≡ take a (drop f xs)
take_drop_take a zero b xs le = take_take a b xs (omega arith)
take_drop_take a (suc f) zero xs le = absurd (omega arith)
take_drop_take a (suc f) (suc b) [] le = refl
take_drop_take a (suc f) (suc b) (x ∷ xs) le = take_drop_take a f b xs (omega arith)

take_none : (n : ℕ) → ◌≡◌ {A = List ℕ} [] (take n [])
take_none zero = refl
take_none (suc n) = refl

drop_take : (f b : ℕ) (xs : List ℕ) → drop f (take b xs) ≡ take (b - f) (drop f xs)
drop_take zero b xs = let e : b - 0 ≡ b = omega arith in rw e refl
drop_take (suc f) zero xs = let e : 0 - suc f ≡ 0 = omega arith in rw e refl
drop_take (suc f) (suc b) [] = take_none (suc b - suc f)
drop_take (suc f) (suc b) (x ∷ xs) = let e : suc b - suc f ≡ b - f = omega arith in rw e (drop_take f b xs)

-- one restamp more
parts_push : (epoch from m : ℕ) (hops : List ℕ) (restamps : List Restamp) (s : Restamp) → AreAscending from m restamps → m ≡ s.from
    → parts_from epoch from hops (restamps ++ s ∷ []) ≡ parts_from epoch from (take (s.from + 1) hops) restamps ++ record { epoch = s.epoch; hops = drop s.from hops } ∷ []
parts_push epoch from m hops [] s up e = ap (λ (xs : List ℕ). record { epoch = epoch; hops = xs } ∷ record { epoch = s.epoch; hops = drop s.from hops } ∷ []) (sym (drop_take from (s.from + 1) hops))
parts_push epoch from m hops (x ∷ restamps) s up e =
    let a : from ≤ x.from = up.0 in
    let b : x.from < m = up.1 in
    let hops_same : take ((x.from + 1) - from) (drop from (take (s.from + 1) hops)) ≡ take ((x.from + 1) - from) (drop from hops) = take_drop_take ((x.from + 1) - from) from (s.from + 1) hops (omega (arith, e)) in
    let later = parts_push x.epoch x.from m hops restamps s up.2 e in
    ap (λ (xs : List ℕ). record { epoch = epoch; hops = xs } ∷ parts_from x.epoch x.from hops (restamps ++ s ∷ [])) (sym hops_same)
    ∙ ap (λ (ps : List Segment). record { epoch = epoch; hops = take ((x.from + 1) - from) (drop from (take (s.from + 1) hops)) } ∷ ps) later

seen : Record → Segment
seen g = record { epoch = g.epoch; hops = g.hops }

segments_are : (latest : List Restamp) (r : Record) → ArePlaces (length r.hops) latest → reverse (map (λ (g : Record). record { epoch = g.epoch; hops = g.hops }) (segments_in latest r)) ≡ parts_from r.epoch 0 r.hops (reverse latest)
segments_are [] r are = refl
segments_are (s ∷ older) r are =
    let f = λ (g : Record). (let part : Segment = record { epoch = g.epoch; hops = g.hops } in part) in
    let lt : s.from < length r.hops = are.0 in
    let long : length (until s r).hops ≡ s.from + 1 = length-take-le (s.from + 1) r.hops (omega arith) in
    let places : ArePlaces (length (until s r).hops) older = wider s.from (length (until s r).hops) older are.1 (omega (arith, long)) in
    let before = segments_are older (until s r) places in
    reverse-append (f (present_in (s ∷ older) r) ∷ []) (map f (segments_in older (until s r)))
    ∙ ap (λ (ps : List Segment). ps ++ record { epoch = s.epoch; hops = drop s.from r.hops } ∷ []) before
    ∙ sym (parts_push r.epoch 0 s.from r.hops (reverse older) s (ascending_from s.from older are.1) refl)
    ∙ ap (parts_from r.epoch 0 r.hops) (sym (reverse-append (s ∷ []) older))
  where
    wider : (m n : ℕ) (rs : List Restamp) → ArePlaces m rs → m ≤ n → ArePlaces n rs
    wider m n [] are le = tt
    wider m n (x ∷ rs) are le = (let a : x.from < m = are.0 in omega arith, are.1)

pub parts_are : (r : Record) → ArePlaces (length r.hops) (reverse r.restamps) → parts_of r ≡ parts_from r.epoch 0 r.hops r.restamps
parts_are r are = segments_are (reverse r.restamps) r are ∙ ap (parts_from r.epoch 0 r.hops) (reverse-reverse r.restamps)

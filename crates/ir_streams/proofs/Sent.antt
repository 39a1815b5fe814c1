-- What a writer took, one call after another.
use Rattle.std.proofs.Common.{◌≡◌, ◌<◌, ◌≤◌, ◌⊎◌, ℕ, true, false, List, [], ◌∷◌, ◌++◌, length, take, drop, Option, None, Some, Result, Ok, Err, is_ok, inl, inr, refl, sym, ap, subst, ◌∙◌, append_assoc, length-append, arith}
use Rattle.std.proofs.lemmas.List.{append-nil, take-append-drop, take_at, drop-append-le}
use Rattle.std.specs.Io.KnownBytes.{Appends, Keeps}
use Rattle.ir_streams.specs.declared.call.CallError.{CallError}
use Rattle.ir_streams.specs.Writing.{AppendsFront, Writes, PutsSome, Flushes, Takes, FailsToPut, Calls}
use Rattle.ir_streams.specs.Pouring.{AppendsAllBut, TakesAllBut, Breaks}

-- ---- bytes

appends_none : (o : Option (List ℕ)) → Appends o o []
appends_none None = tt
appends_none (Some xs) = sym (append-nil xs)

appends_more : (a b c : Option (List ℕ)) (xs ys : List ℕ) → Appends a b xs → Appends b c ys → Appends a c (xs ++ ys)
appends_more None b c xs ys h k = tt
appends_more (Some a) None c xs ys h k = absurd h
appends_more (Some a) (Some b) None xs ys h k = absurd k
appends_more (Some a) (Some b) (Some c) xs ys h k = k ∙ ap (λ bs. bs ++ ys) h ∙ append_assoc a xs ys

appends_kept : (a b c : Option (List ℕ)) (xs : List ℕ) → Appends a b xs → Keeps b c → Appends a c xs
appends_kept None b c xs h k = tt
appends_kept (Some a) None c xs h k = absurd h
appends_kept (Some a) (Some b) None xs h k = absurd k
appends_kept (Some a) (Some b) (Some c) xs h k = k ∙ h

pub appends_nothing : (a b : Option (List ℕ)) → Keeps a b → Appends a b []
appends_nothing a b kept = appends_kept a a b [] (appends_none a) kept

pub but_for_some : (old new : Option (List ℕ)) (text rest : List ℕ) → AppendsAllBut old new text rest → AppendsFront old new text
but_for_some old new text rest is =
    let front : is.0 ≡ take (length is.0) text = sym (ap (take (length is.0)) is.1 ∙ take_at is.0 rest (length is.0) refl) in
    (length is.0, subst (λ (t : List ℕ). Appends old new t) front is.2)

module _ (old mid new : Option (List ℕ)) (text rest : List ℕ) (is : AppendsAllBut old mid text rest) where
  -- and then all that was left
  pub but_for_all : Appends mid new rest → Appends old new text
  but_for_all on = subst (λ (t : List ℕ). Appends old new t) (sym is.1) (appends_more old mid new is.0 rest is.2 on)

  -- and then a front of it
  pub but_for_front : AppendsFront mid new rest → AppendsFront old new text
  but_for_front on =
      let n = on.0 in
      let whole : text ≡ (is.0 ++ take n rest) ++ drop n rest = is.1 ∙ ap (λ t. is.0 ++ t) (sym (take-append-drop n rest)) ∙ sym (append_assoc is.0 (take n rest) (drop n rest)) in
      but_for_some old new text (drop n rest) (is.0 ++ take n rest, whole, appends_more old mid new is.0 (take n rest) is.2 on.1)

  -- of a longer text
  but_for_longer : (more : List ℕ) → AppendsAllBut old mid (text ++ more) (rest ++ more)
  but_for_longer more = (is.0, ap (λ t. t ++ more) is.1 ∙ append_assoc is.0 rest more, is.2)

  -- and then of what was left
  but_for_less : (end : List ℕ) → AppendsAllBut mid new rest end → AppendsAllBut old new text end
  but_for_less end on =
      (is.0 ++ on.0, is.1 ∙ ap (λ t. is.0 ++ t) on.1 ∙ sym (append_assoc is.0 on.0 end), appends_more old mid new is.0 on.0 is.2 on.2)

  but_for_kept : Keeps mid new → AppendsAllBut old new text rest
  but_for_kept kept = (is.0, is.1, appends_kept old mid new is.0 is.2 kept)

but_for_none : (old new : Option (List ℕ)) (text : List ℕ) → AppendsAllBut old new text [] → Appends old new text
but_for_none old new text is = subst (λ (t : List ℕ). Appends old new t) (sym (is.1 ∙ append-nil is.0)) is.2

-- ---- calls

module _ {W : Type 0} (contents : W → Option (List ℕ)) (wrote : W → List ℕ → Result ℕ CallError → W → Type 0) (settled : W → Result (Unit {0}) CallError → W → Type 0) where
  takes_longer : (first : W) (text counts : List ℕ) (last : W) (rest more : List ℕ) → Takes wrote settled first text counts last rest → Takes wrote settled first (text ++ more) counts last (rest ++ more)
  takes_longer first text [] last rest more h = (h.0, ap (λ t. t ++ more) h.1)
  takes_longer first text (n ∷ counts) last rest more h =
      let left = h.1 in
      let front = h.2 in
      let behind = h.3 in
      let within : n ≤ length left = omega (arith, h.7, ap length h.5, length-append front behind) in
      (h.0, left ++ more, front, behind ++ more, takes_longer first text counts h.0 left more h.4, ap (λ t. t ++ more) h.5 ∙ append_assoc front behind more, h.6, h.7, h.8, ap (λ t. t ++ more) h.9 ∙ sym (drop-append-le n left more within))

  pub takes_on : (first : W) (text before : List ℕ) (mid : W) (left counts : List ℕ) (last : W) (rest : List ℕ) → Takes wrote settled first text before mid left → Takes wrote settled mid left counts last rest → Takes wrote settled first text (counts ++ before) last rest
  takes_on first text before mid left [] last rest h k =
      let at_last : Takes wrote settled first text before last left = subst (λ (w : W). Takes wrote settled first text before w left) (sym k.0) h in
      subst (λ (t : List ℕ). Takes wrote settled first text before last t) (sym k.1) at_last
  takes_on first text before mid left (n ∷ counts) last rest h k =
      (k.0, k.1, k.2, k.3, takes_on first text before mid left counts k.0 k.1 h k.4, k.5, k.6, k.7, k.8, k.9)

  fails_longer : (mid : W) (left : List ℕ) (last : W) (more : List ℕ) → FailsToPut wrote settled mid left last → FailsToPut wrote settled mid (left ++ more) last
  fails_longer mid left last more h = (h.0, h.1 ++ more, ap (λ t. t ++ more) h.2 ∙ append_assoc h.0 h.1 more, h.3, h.4)

  pub taken_none : (first : W) (text : List ℕ) → TakesAllBut contents wrote settled first text first text
  taken_none first text = record { counts = []; calls = (refl, refl); bytes = ([], refl, appends_none (contents first)) }

  -- a write of all of a text
  pub taken_some : (mid : W) (text : List ℕ) (last : W) (n : ℕ) → 0 < n → n ≤ length text → PutsSome wrote settled mid text (Ok n) last → Appends (contents mid) (contents last) (take n text)
      → (left : List ℕ) → left ≡ drop n text → TakesAllBut contents wrote settled mid text last left
  taken_some mid text last n some within call took left e = record {
    counts = n ∷ [];
    calls = (mid, text, text, [], (refl, refl), sym (append-nil text), some, within, call, e);
    bytes = (take n text, sym (take-append-drop n text) ∙ ap (λ t. take n text ++ t) (sym e), took);
  }

  -- the same that gave an error, or took none
  pub breaks : (mid : W) (text : List ℕ) (last : W) → 0 < length text → (((e : CallError) × PutsSome wrote settled mid text (Err e) last) ⊎ PutsSome wrote settled mid text (Ok 0) last) → Appends (contents mid) (contents last) []
      → Breaks contents wrote settled mid text last
  breaks mid text last some call none = record {
    counts = [];
    mid = mid;
    left = text;
    calls = (refl, refl);
    failed = (text, [], sym (append-nil text), some, call);
    rest = text;
    bytes = ([], refl, none);
  }

  module _ (first : W) (text : List ℕ) (mid : W) (left : List ℕ) (taken : TakesAllBut contents wrote settled first text mid left) where
    pub taken_longer : (more : List ℕ) → TakesAllBut contents wrote settled first (text ++ more) mid (left ++ more)
    taken_longer more = record {
      counts = taken.counts;
      calls = takes_longer first text taken.counts mid left more taken.calls;
      bytes = but_for_longer (contents first) (contents mid) (contents mid) text left taken.bytes more;
    }

    pub taken_on : (last : W) (rest : List ℕ) → TakesAllBut contents wrote settled mid left last rest → TakesAllBut contents wrote settled first text last rest
    taken_on last rest on = record {
      counts = on.counts ++ taken.counts;
      calls = takes_on first text taken.counts mid left on.counts last rest taken.calls on.calls;
      bytes = but_for_less (contents first) (contents mid) (contents last) text left taken.bytes rest on.bytes;
    }

    pub breaks_on : (last : W) → Breaks contents wrote settled mid left last → Breaks contents wrote settled first text last
    breaks_on last on = record {
      counts = on.counts ++ taken.counts;
      mid = on.mid;
      left = on.left;
      calls = takes_on first text taken.counts mid left on.counts on.mid on.left taken.calls on.calls;
      failed = on.failed;
      rest = on.rest;
      bytes = but_for_less (contents first) (contents mid) (contents last) text left taken.bytes on.rest on.bytes;
    }

  pub breaks_longer : (first : W) (text : List ℕ) (last : W) → Breaks contents wrote settled first text last → (more : List ℕ) → Breaks contents wrote settled first (text ++ more) last
  breaks_longer first text last is more = record {
    counts = is.counts;
    mid = is.mid;
    left = is.left ++ more;
    calls = takes_longer first text is.counts is.mid is.left more is.calls;
    failed = fails_longer is.mid is.left last more is.failed;
    rest = is.rest ++ more;
    bytes = but_for_longer (contents first) (contents last) (contents last) text is.rest is.bytes more;
  }

  -- ---- ends

  module _ (first : W) (text : List ℕ) (mid : W) (taken : TakesAllBut contents wrote settled first text mid []) (last : W) (kept : Keeps (contents mid) (contents last)) where
    ended : Flushes wrote settled mid (Ok tt) last → Calls wrote settled true first text last × Writes true (contents first) (contents last) text
    ended call =
        ((taken.counts, mid, taken.calls, call), but_for_none (contents first) (contents last) text (but_for_kept (contents first) (contents mid) (contents last) text [] taken.bytes kept))

    unsettled : (e : CallError) → Flushes wrote settled mid (Err e) last → Calls wrote settled false first text last × Writes false (contents first) (contents last) text
    unsettled e call =
        ((taken.counts, mid, [], taken.calls, inr (refl, (e, call))), but_for_some (contents first) (contents last) text [] (but_for_kept (contents first) (contents mid) (contents last) text [] taken.bytes kept))

    pub settles : (outcome : Result (Unit {0}) CallError) → Flushes wrote settled mid outcome last → Calls wrote settled (is_ok outcome) first text last × Writes (is_ok outcome) (contents first) (contents last) text
    settles (Ok tt) call = ended call
    settles (Err e) call = unsettled e call

  pub broken : (first : W) (text : List ℕ) (last : W) → Breaks contents wrote settled first text last → Calls wrote settled false first text last × Writes false (contents first) (contents last) text
  broken first text last is =
      ((is.counts, is.mid, is.left, is.calls, inl is.failed), but_for_some (contents first) (contents last) text is.rest is.bytes)

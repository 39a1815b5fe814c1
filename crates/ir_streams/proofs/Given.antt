-- What a reader gave, one call after another.
use Rattle.std.proofs.Common.{◌≡◌, ◌+◌, ◌<◌, ◌≤◌, ℕ, List, [], ◌∷◌, ◌++◌, length, Option, None, Some, Result, Ok, Err, refl, inl, inr, sym, ap, ◌∙◌, append_assoc, arith}
use Rattle.std.proofs.lemmas.List.{append-nil}
use Rattle.std.specs.Io.KnownBytes.{Consumes, IsAtEnd, Keeps}
use Rattle.ir_streams.specs.declared.TheConstants.{MAX_INPUT_BYTES, MAX_READS}
use Rattle.ir_streams.specs.declared.call.CallError.{CallError}
use Rattle.ir_streams.specs.declared.call.CallError.TheVariants.{Interrupted, Failed}
use Rattle.ir_streams.specs.declared.reading.NoInput.{NoInput}
use Rattle.ir_streams.specs.declared.reading.NoInput.TheVariants.{Unreadable, TooLarge, NoMemory}
use Rattle.ir_streams.specs.Reading.{Gives, IsRead, IsStopped, RefusesInput}

consumes_none : (o : Option (List ℕ)) → Consumes o o []
consumes_none None = tt
consumes_none (Some xs) = refl

consumes_more : (a b c : Option (List ℕ)) (xs ys : List ℕ) → Consumes a b xs → Consumes b c ys → Consumes a c (xs ++ ys)
consumes_more None b c xs ys h k = tt
consumes_more (Some a) None c xs ys h k = absurd h
consumes_more (Some a) (Some b) None xs ys h k = absurd k
consumes_more (Some a) (Some b) (Some c) xs ys h k = h ∙ ap (λ bs. xs ++ bs) k ∙ sym (append_assoc xs ys c)

consumes_kept : (a b c : Option (List ℕ)) (xs : List ℕ) → Consumes a b xs → Keeps b c → Consumes a c xs
consumes_kept None b c xs h k = tt
consumes_kept (Some a) None c xs h k = absurd h
consumes_kept (Some a) (Some b) None xs h k = absurd k
consumes_kept (Some a) (Some b) (Some c) xs h k = h ∙ ap (λ bs. xs ++ bs) (sym k)

module _ {R : Type 0} (remaining : R → Option (List ℕ)) (gave : R → Result (List ℕ) CallError → R → Type 0) where
  -- So many calls gave this text, and the reader is called again.
  pub record IsReading (first : R) (text : List ℕ) (turn : ℕ) (now : R) : Type 0 where
    pub calls : List (Result (List ℕ) CallError)
    pub given : Gives remaining gave first calls text now
    pub counted : length calls ≡ turn
    pub consumed : Consumes (remaining first) (remaining now) text
    pub small : length text ≤ MAX_INPUT_BYTES

  pub reading_none : (first : R) → IsReading first [] 0 first
  reading_none first = record { calls = []; given = (refl, refl); counted = refl; consumed = consumes_none (remaining first); small = omega arith }

  module _ (first : R) (text : List ℕ) (turn : ℕ) (now last : R) (is : IsReading first text turn now) where
    -- a call that gave some bytes
    pub reading_more : (bytes after : List ℕ) → 0 < length bytes → gave now (Ok bytes) last → Consumes (remaining now) (remaining last) bytes
        → after ≡ text ++ bytes → length after ≤ MAX_INPUT_BYTES → IsReading first after (turn + 1) last
    reading_more bytes after some call took e small = record {
      calls = Ok bytes ∷ is.calls;
      given = (now, text, is.given, some, call, e);
      counted = omega (arith, is.counted);
      consumed = rw e (consumes_more (remaining first) (remaining now) (remaining last) text bytes is.consumed took);
      small = small;
    }

    -- a call that was interrupted
    pub reading_again : gave now (Err Interrupted) last → Keeps (remaining now) (remaining last) → IsReading first text (turn + 1) last
    reading_again call kept = record {
      calls = Err Interrupted ∷ is.calls;
      given = (now, is.given, call);
      counted = omega (arith, is.counted);
      consumed = consumes_kept (remaining first) (remaining now) (remaining last) text is.consumed kept;
      small = is.small;
    }

    -- a call that gave none
    pub read_all : gave now (Ok []) last → Consumes (remaining now) (remaining last) [] → IsAtEnd (remaining last) → IsRead remaining gave first text last
    read_all call took end = record {
      calls = is.calls;
      end = now;
      given = is.given;
      ended = call;
      small = is.small;
      known = rw append-nil at (consumes_more (remaining first) (remaining now) (remaining last) text [] is.consumed took);
      nothing_left = end;
    }

    pub failed : gave now (Err Failed) last → Keeps (remaining now) (remaining last) → IsStopped remaining gave Unreadable first last
    failed call kept = record {
      calls = is.calls;
      text = text;
      stops = (now, is.given, call);
      known = consumes_kept (remaining first) (remaining now) (remaining last) text is.consumed kept;
    }

    -- bytes that were not kept
    pub refused : (why : NoInput) (bytes : List ℕ) → 0 < length bytes → gave now (Ok bytes) last → Consumes (remaining now) (remaining last) bytes
        → RefusesInput (length (text ++ bytes)) why → IsStopped remaining gave why first last
    refused Unreadable bytes some call took why = absurd why
    refused TooLarge bytes some call took many = record {
      calls = Ok bytes ∷ is.calls;
      text = text ++ bytes;
      stops = ((now, text, is.given, some, call, refl), inl many);
      known = consumes_more (remaining first) (remaining now) (remaining last) text bytes is.consumed took;
    }
    refused NoMemory bytes some call took full = record {
      calls = Ok bytes ∷ is.calls;
      text = text ++ bytes;
      stops = inl (now, text, is.given, some, call, refl);
      known = consumes_more (remaining first) (remaining now) (remaining last) text bytes is.consumed took;
    }

  pub too_often : (first : R) (text : List ℕ) (turn : ℕ) (now : R) → IsReading first text turn now → MAX_READS ≤ turn → turn ≤ MAX_READS → IsStopped remaining gave TooLarge first now
  too_often first text turn now is most few = record {
    calls = is.calls;
    text = text;
    stops = (is.given, inr (omega (arith, is.counted)));
    known = is.consumed;
  }

  -- a text that was read and not kept
  pub read_in_vain : (first : R) (text : List ℕ) (last : R) → IsRead remaining gave first text last → IsStopped remaining gave NoMemory first last
  read_in_vain first text last is = record { calls = is.calls; text = text; stops = inr (is.end, is.given, is.ended); known = is.known }

-- Inputs that are read one after another.
use Rattle.std.proofs.Common.{◌≡◌, ℕ, ◌+◌, ◌<◌, ◌≤◌, List, [], ◌∷◌, ◌++◌, length, take, drop, set, get_or, slice_get, Option, Some, Result, sym, ap, ◌∙◌, subst, arith}
use Rattle.std.proofs.lemmas.List.{length-set, length_push, take_all, take_more, take_more_set, get_or-drop, drop-drop, drop-set-lt, take-set}
use Rattle.std.proofs.lemmas.Option.{slice_get-get_or}
use Rattle.ir_core.proofs.Lists.{get_set_same}
use Rattle.ir_streams.specs.declared.call.CallError.{CallError}
use Rattle.ir_streams.specs.declared.reading.NoInput.{NoInput}
use Rattle.ir_streams.specs.Reading.{IsRead, IsStopped}
use Rattle.ir_cli.specs.declared.read.Source.{Source}
use Rattle.ir_cli.specs.Reading.{AreRead, IsUnread}

module _ {R : Type 0} (remaining : R → Option (List ℕ)) (gave : R → Result (List ℕ) CallError → R → Type 0) where
  -- one more reader
  read_more : (old : List R) (texts : List (List ℕ)) (new : List R) (first : R) (text : List ℕ) (last : R) → AreRead remaining gave old texts new → IsRead remaining gave first text last
      → AreRead remaining gave (old ++ first ∷ []) (texts ++ text ∷ []) (new ++ last ∷ [])
  read_more [] [] [] first text last are is = (is, tt)
  read_more [] [] (b ∷ new) first text last are is = absurd are
  read_more [] (t ∷ texts) new first text last are is = absurd are
  read_more (a ∷ old) [] new first text last are is = absurd are
  read_more (a ∷ old) (t ∷ texts) [] first text last are is = absurd are
  read_more (a ∷ old) (t ∷ texts) (b ∷ new) first text last are is = (are.0, read_more old texts new first text last are.1 is)

  -- So many readers are read, and the rest are as they were.
  pub record IsReading (old now : List R) (read : List (List ℕ)) (i : ℕ) : Type 0 where
    pub counted : length read ≡ i
    pub readers : length now ≡ length old
    pub before : AreRead remaining gave (take i old) read (take i now)
    pub rest : drop i now ≡ drop i old

  -- all of them are read
  pub all_read : (old now : List R) (read : List (List ℕ)) (i : ℕ) → IsReading old now read i → length old ≤ i → AreRead remaining gave old read now
  all_read old now read i is end =
      let behind : length now ≤ i = omega (arith, is.readers) in
      subst (λ (xs : List R). AreRead remaining gave xs read now) (take_all i old end)
      (subst (λ (xs : List R). AreRead remaining gave (take i old) read xs) (take_all i now behind) is.before)

  module _ (old now : List R) (read : List (List ℕ)) (i : ℕ) (d new : R) (is : IsReading old now read i) (within : i < length old) where
    in_now : i < length now
    in_now = omega (arith, is.readers)

    as_before : get_or now i d ≡ get_or old i d
    as_before =
        let zero : i + 0 ≡ i = omega arith in
        ap (λ (k : ℕ). get_or now k d) (sym zero) ∙ sym (get_or-drop i now 0 d) ∙ ap (λ (xs : List R). get_or xs 0 d) is.rest ∙ get_or-drop i old 0 d ∙ ap (λ (k : ℕ). get_or old k d) zero

    behind : drop (i + 1) (set now i new) ≡ drop (i + 1) old
    behind = drop-set-lt (i + 1) now i new (omega arith) ∙ sym (drop-drop 1 i now) ∙ ap (drop 1) is.rest ∙ drop-drop 1 i old

    -- one more reader is read
    pub reading_more : (text : List ℕ) → IsRead remaining gave (get_or now i d) text new → IsReading old (set now i new) (read ++ text ∷ []) (i + 1)
    reading_more text whole =
        let P : R → Type 0 = λ r. IsRead remaining gave r text new in
        record {
          counted = length_push read text ∙ ap (λ (n : ℕ). n + 1) is.counted;
          readers = length-set now i new ∙ is.readers;
          before = rw (take_more old i d within, take_more_set now i new in_now) (read_more (take i old) read (take i now) (get_or old i d) text new is.before (subst P as_before whole));
          rest = behind;
        }

    -- a reader is given up
    pub unread_at : (sources : List Source) (source : Source) → slice_get sources i ≡ Some source → (why : NoInput) → IsStopped remaining gave why (get_or now i d) new
        → IsUnread remaining gave sources old (set now i new) source why
    unread_at sources source from why stopped =
        let P : R → Type 0 = λ r. IsStopped remaining gave why r new in
        record {
          place = i;
          its_source = from;
          texts = read;
          before = rw (take-set now i new) is.before;
          first = get_or old i d;
          its_reader = slice_get-get_or old i d within;
          last = new;
          left_as = get_set_same now i new in_now;
          stopped = subst P as_before stopped;
          behind = behind;
        }

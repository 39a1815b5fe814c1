-- Readers of texts in memory, and what a run over them comes to.
use Rattle.std.proofs.Common.{◌≡◌, ℕ, Bool, true, false, List, [], ◌∷◌, ◌++◌, map, Option, Some, Result, refl, sym, ap, ◌∙◌, subst, inl, inr}
use Rattle.std.specs.Io.KnownBytes.{Consumes, IsAtEnd}
use Rattle.std.proofs.lemmas.List.{append-nil}
use Rattle.ir_streams.specs.declared.call.CallError.{CallError}
use Rattle.ir_streams.specs.declared.reading.NoInput.{NoInput}
use Rattle.ir_streams.specs.declared.reading.NoInput.TheVariants.{Unreadable, TooLarge, NoMemory}
use Rattle.ir_streams.specs.Reading.{IsRead}
use Rattle.ir_cli.specs.declared.read.Source.{Source}
use Rattle.ir_cli.specs.declared.ending.Ending.{Ending}
use Rattle.ir_cli.specs.declared.ending.Ending.TheVariants as endings
use Rattle.ir_cli.specs.Reading.{AreRead}
use Rattle.ir_cli.specs.Answer.{Answer}
use Rattle.ir_cli.specs.Ending.{EndsAs, Ends}
use Rattle.ir_cli.specs.Lines.{unreadable_line, too_large_line, unwritable_line, out_of_memory_line, no_thread_line}

-- readers of which is known what they give
module _ {R : Type 0} (remaining : R → Option (List ℕ)) (gave : R → Result (List ℕ) CallError → R → Type 0) (now : R → List ℕ) (known : (r : R) → remaining r ≡ Some (now r)) where
  text_read : (first : R) (text : List ℕ) (last : R) → IsRead remaining gave first text last → text ≡ now first
  text_read first text last is =
      let front : Consumes (Some (now first)) (remaining last) text = subst (λ (all : Option (List ℕ)). Consumes all (remaining last) text) (known first) is.known in
      let both : Consumes (Some (now first)) (Some (now last)) text = subst (λ (rest : Option (List ℕ)). Consumes (Some (now first)) rest text) (known last) front in
      let nothing : now last ≡ [] = subst IsAtEnd (known last) is.nothing_left in
      sym (both ∙ ap (λ (rest : List ℕ). text ++ rest) nothing ∙ append-nil text)

  -- the texts that were read are what the readers had
  pub texts_read : (old : List R) (texts : List (List ℕ)) (new : List R) → AreRead remaining gave old texts new → texts ≡ map now old
  texts_read [] [] [] are = refl
  texts_read [] [] (b ∷ new) are = absurd are
  texts_read [] (t ∷ texts) new are = absurd are
  texts_read (a ∷ old) [] new are = absurd are
  texts_read (a ∷ old) (t ∷ texts) [] are = absurd are
  texts_read (a ∷ old) (t ∷ texts) (b ∷ new) are =
      ap (λ (text : List ℕ). text ∷ texts) (text_read a t b are.0) ∙ ap (λ (rest : List (List ℕ)). now a ∷ rest) (texts_read old texts new are.1)

-- a run that was read, stopped, written and reported in some ways was so in ways that they lead to
module _ (P : List (List ℕ) → Answer → Type 0) (read read_more : List (List ℕ) → Type 0) (stops stops_more : Source → NoInput → Type 0)
    (out out_more : Bool → List ℕ → Type 0) (unused unused_more : Type 0) (told told_more : List ℕ → Type 0)
    (reads : (texts : List (List ℕ)) → read texts → read_more texts) (stopped : (source : Source) (why : NoInput) → stops source why → stops_more source why)
    (writes : (sent : Bool) (text : List ℕ) → out sent text → out_more sent text) (nothing : unused → unused_more)
    (tells : (line : List ℕ) → told line → told_more line) where
  ends_as_so : (ending : Ending) → EndsAs P ending read stops out unused told → EndsAs P ending read_more stops_more out_more unused_more told_more
  ends_as_so endings.Done (texts, text, refused, was_read, answers, wrote, line) =
      (texts, text, refused, reads texts was_read, answers, writes true text wrote, tells refused line)
  ends_as_so endings.Unreadable (source, stop, none, line) = (source, stopped source Unreadable stop, nothing none, tells (unreadable_line source) line)
  ends_as_so endings.TooLarge (source, stop, none, line) = (source, stopped source TooLarge stop, nothing none, tells (too_large_line source) line)
  ends_as_so endings.Refused (texts, line, was_read, answers, none, was_told) = (texts, line, reads texts was_read, answers, nothing none, tells line was_told)
  ends_as_so endings.Found (texts, line, was_read, answers, wrote, was_told) = (texts, line, reads texts was_read, answers, writes true line wrote, tells [] was_told)
  ends_as_so endings.Unwritable (texts, answer, text, was_read, answers, is_printed, wrote, was_told) =
      (texts, answer, text, reads texts was_read, answers, is_printed, writes false text wrote, tells unwritable_line was_told)
  ends_as_so endings.NoMemory (inl (texts, was_read), none, was_told) = (inl (texts, reads texts was_read), nothing none, tells out_of_memory_line was_told)
  ends_as_so endings.NoMemory (inr (source, stop), none, was_told) = (inr (source, stopped source NoMemory stop), nothing none, tells out_of_memory_line was_told)
  ends_as_so endings.NoThread (texts, was_read, answers, none, was_told) = (texts, reads texts was_read, answers, nothing none, tells no_thread_line was_told)

  pub ends_so : (status : ℕ) → Ends P status read stops out unused told → Ends P status read_more stops_more out_more unused_more told_more
  ends_so status (ending, same, holds) = (ending, same, ends_as_so ending holds)

-- What a run over texts in memory, written to memory, says of its words.
use Rattle.std.proofs.Common.{◌≡◌, ℕ, Bool, true, false, List, [], ◌++◌, map, Option, Some, Result, ap, ◌∙◌, slice_get}
use Rattle.ir_streams.specs.declared.call.CallError.{CallError}
use Rattle.ir_cli.specs.declared.read.Source.{Source}
use Rattle.ir_cli.specs.declared.words.Words.{Words}
use Rattle.ir_cli.specs.Reading.{AreRead, IsUnread}
use Rattle.ir_cli.specs.Ending.{Ends}
use Rattle.ir_cli.specs.Told.{Sends, Tells}
use Rattle.ir_answer.specs.Asked.{sources_of, Answers, NoThreads}
use Rattle.page.specs.declared.kept.Kept.{Kept}
use Rattle.page.specs.Kept.{TakesAll, SettlesAll}
use Rattle.page.specs.Calls.{AreFaults, IsFollowed}
use Rattle.page.proofs.Calls.{texts_read, ends_so}
use Rattle.page.proofs.Written.{unsaid, sent_so}

module _ {R : Type 0} (remaining : R → Option (List ℕ)) (gave : R → Result (List ℕ) CallError → R → Type 0) (now : R → List ℕ) (known : (r : R) → remaining r ≡ Some (now r))
    (words : Words) (text : Source → List ℕ) (old new : List R) (given : map now old ≡ map text (sources_of words))
    (first_output last_output first_faults last_faults : Kept) (no_output : first_output.bytes.items ≡ []) (no_faults : first_faults.bytes.items ≡ [])
    (whole_output : last_output.is_short ≡ false) (whole_faults : last_faults.is_short ≡ false) where
  written : (first last : Kept) → first.bytes.items ≡ [] → last.is_short ≡ false → (sent : Bool) (line : List ℕ)
      → Sends unsaid TakesAll SettlesAll first last sent line → (sent ≡ true) × (last.bytes.items ≡ line)
  written first last empty whole sent line sends =
      let so = sent_so first last sent line sends whole in
      (so.0, so.1 ∙ ap (λ (items : List ℕ). items ++ line) empty)

  pub followed_so : (status : ℕ) (faults sentences : List ℕ) → faults ≡ last_faults.bytes.items ++ sentences → (words.explain ≡ false → sentences ≡ [])
      → Ends (Answers NoThreads words) status (λ texts. AreRead remaining gave old texts new) (IsUnread remaining gave (sources_of words) old new)
      (Sends unsaid TakesAll SettlesAll first_output last_output) (last_output ≡ first_output) (Tells unsaid TakesAll SettlesAll first_faults last_faults)
      → IsFollowed words text status last_output.bytes.items faults
  followed_so status faults sentences is none ends =
      ends_so (Answers NoThreads words)
      (λ texts. AreRead remaining gave old texts new) (λ read. read ≡ map text (sources_of words))
      (IsUnread remaining gave (sources_of words) old new) (λ source why. (place : ℕ) × (slice_get (sources_of words) place ≡ Some source))
      (Sends unsaid TakesAll SettlesAll first_output last_output) (λ sent line. (sent ≡ true) × (last_output.bytes.items ≡ line))
      (last_output ≡ first_output) (last_output.bytes.items ≡ [])
      (Tells unsaid TakesAll SettlesAll first_faults last_faults) (λ lines. AreFaults words lines faults)
      (λ texts are. texts_read remaining gave now known old texts new are ∙ given)
      (λ source why unread. (unread.place, unread.its_source))
      (written first_output last_output no_output whole_output)
      (λ same. ap (λ (kept : Kept). kept.bytes.items) same ∙ no_output)
      (λ line told. (sentences, is ∙ ap (λ (items : List ℕ). items ++ sentences) (written first_faults last_faults no_faults whole_faults told.0 line told.1).1, none))
      status ends

-- How a node's account moves with its ends.
use Rattle.std.specs.Prelude.{◌≡◌, ℕ, zero, suc, ◌+◌, ◌<◌, Bool, ◌++◌, ◌∷◌, [], List, length, slice_set}
use Rattle.std.proofs.Common.{ap, ◌∙◌, get_or, arith}
use Rattle.std.proofs.lemmas.List.Sums.{sum_by-set, sum_by_push}
use Rattle.std.proofs.lemmas.Option.{slice_get_within, get_or_from_slice_get}
use Rattle.ir_model.specs.declared.Hop.{Hop}
use Rattle.ir_worker.specs.declared.parcel.Outcome.{Outcome}
use Rattle.ir_worker.specs.Seen.{Parcel}
use Rattle.ir_core.specs.Record.{Record}
use Rattle.ir_worker.specs.Account.{Head, head_of, one, weigh, weigh_sent, weigh_taken, weigh_settled, IsEven, IsBalanced}
use Rattle.ir_worker.specs.Wires.{In, Out, after_taking, after_sending, TookAt, SentOver}

more : (w : Record → ℕ) (items : List Parcel) (p : Parcel) → weigh w (items ++ p ∷ []) ≡ weigh w items + w p.packet
more w items p = sum_by_push (λ (x : Parcel). w x.packet) items p

pub took_weighs : (w : Record → ℕ) (inbox : In) (ins : List In) (inbox' : In) (ins' : List In) (p : Parcel) (k : ℕ) → TookAt inbox ins inbox' ins' p k →
    weigh w inbox'.taken + weigh_taken w ins' ≡ weigh w inbox.taken + weigh_taken w ins + w p.packet
took_weighs w inbox ins inbox' ins' p zero t =
    let a : weigh w inbox'.taken ≡ weigh w inbox.taken + w p.packet = ap (λ (x : In). weigh w x.taken) t.0 ∙ more w inbox.taken p in
    let b : weigh_taken w ins' ≡ weigh_taken w ins = ap (weigh_taken w) t.1 in
    omega arith
took_weighs w inbox ins inbox' ins' p (suc j) t =
    let was = t.1.0 in
    let lt : j < length ins = slice_get_within ins j was t.1.1 in
    let a : weigh w inbox'.taken ≡ weigh w inbox.taken = ap (λ (x : In). weigh w x.taken) t.0 in
    let b : weigh_taken w ins' ≡ weigh_taken w (slice_set ins j (after_taking was p)) = ap (weigh_taken w) t.1.2 in
    let c : weigh_taken w (slice_set ins j (after_taking was p)) + weigh w (get_or ins j was).taken ≡ weigh_taken w ins + weigh w (was.taken ++ p ∷ []) =
    sum_by-set (λ (x : In). weigh w x.taken) ins j (after_taking was p) was lt in
    let d : weigh w (get_or ins j was).taken ≡ weigh w was.taken = ap (λ (x : In). weigh w x.taken) (get_or_from_slice_get ins j was was t.1.1) in
    let e = more w was.taken p in
    omega arith

pub sent_weighs : (w : Record → ℕ) (ports : List Hop) (outs outs' : List Out) (hop : Hop) (q : Parcel) → SentOver ports outs outs' hop q →
    weigh_sent w outs' ≡ weigh_sent w outs + w q.packet
sent_weighs w ports outs outs' hop q s =
    let j = s.0 in
    let was = s.1 in
    let lt : j < length outs = slice_get_within outs j was s.3 in
    let b : weigh_sent w outs' ≡ weigh_sent w (slice_set outs j (after_sending was q)) = ap (weigh_sent w) s.4 in
    let c : weigh_sent w (slice_set outs j (after_sending was q)) + weigh w (get_or outs j was).sent ≡ weigh_sent w outs + weigh w (was.sent ++ q ∷ []) =
    sum_by-set (λ (x : Out). weigh w x.sent) outs j (after_sending was q) was lt in
    let d : weigh w (get_or outs j was).sent ≡ weigh w was.sent = ap (λ (x : Out). weigh w x.sent) (get_or_from_slice_get outs j was was s.3) in
    let e = more w was.sent q in
    omega arith

-- a parcel that is taken and sent on, and weighs what it weighed, leaves all even
pub even_sent : (w : Record → ℕ) (inbox : In) (ins : List In) (inbox' : In) (ins' : List In) (outs outs' : List Out) (outcomes outcomes' : List Outcome) → IsEven w inbox ins outs outcomes →
    (p q : Parcel) (k : ℕ) → TookAt inbox ins inbox' ins' p k → (ports : List Hop) (hop : Hop) → SentOver ports outs outs' hop q → w q.packet ≡ w p.packet → outcomes' ≡ outcomes →
    IsEven w inbox' ins' outs' outcomes'
even_sent w inbox ins inbox' ins' outs outs' outcomes outcomes' ok p q k took ports hop sent same kept =
    let b = took_weighs w inbox ins inbox' ins' p k took in
    let c = sent_weighs w ports outs outs' hop q sent in
    let e : weigh_settled w outcomes' ≡ weigh_settled w outcomes = ap (weigh_settled w) kept in
    omega arith

-- and so does one that is taken and settled
pub even_settled : (w : Record → ℕ) (inbox : In) (ins : List In) (inbox' : In) (ins' : List In) (outs outs' : List Out) (outcomes outcomes' : List Outcome) → IsEven w inbox ins outs outcomes →
    (p : Parcel) (k : ℕ) → TookAt inbox ins inbox' ins' p k → outs' ≡ outs → (o : Outcome) → outcomes' ≡ outcomes ++ o ∷ [] → w o.packet ≡ w p.packet →
    IsEven w inbox' ins' outs' outcomes'
even_settled w inbox ins inbox' ins' outs outs' outcomes outcomes' ok p k took sent o settled same =
    let b = took_weighs w inbox ins inbox' ins' p k took in
    let c : weigh_sent w outs' ≡ weigh_sent w outs = ap (weigh_sent w) sent in
    let e : weigh_settled w outcomes' ≡ weigh_settled w outcomes + w o.packet = ap (weigh_settled w) settled ∙ sum_by_push (λ (x : Outcome). w x.packet) outcomes o in
    omega arith

pub same_even : (w : Record → ℕ) (inbox inbox' : In) (ins ins' : List In) (outs : List Out) (outcomes outcomes' : List Outcome) → IsEven w inbox ins outs outcomes → inbox' ≡ inbox → ins' ≡ ins → outcomes' ≡ outcomes → IsEven w inbox' ins' outs outcomes'
same_even w inbox inbox' ins ins' outs outcomes outcomes' ok a b c =
    let x : weigh w inbox'.taken ≡ weigh w inbox.taken = ap (λ (i : In). weigh w i.taken) a in
    let y : weigh_taken w ins' ≡ weigh_taken w ins = ap (weigh_taken w) b in
    let z : weigh_settled w outcomes' ≡ weigh_settled w outcomes = ap (weigh_settled w) c in
    omega arith

-- a record weighs 1 where its head passes the test
abbrev pub head_weighs : (Head → Bool) → Record → ℕ
head_weighs h r = one h (head_of r)

-- so the account stays balanced
pub balanced_sent : (inbox : In) (ins : List In) (inbox' : In) (ins' : List In) (outs outs' : List Out) (outcomes outcomes' : List Outcome) → IsBalanced inbox ins outs outcomes →
    (p q : Parcel) (k : ℕ) → TookAt inbox ins inbox' ins' p k → (ports : List Hop) (hop : Hop) → SentOver ports outs outs' hop q → head_of q.packet ≡ head_of p.packet → outcomes' ≡ outcomes →
    IsBalanced inbox' ins' outs' outcomes'
balanced_sent inbox ins inbox' ins' outs outs' outcomes outcomes' ok p q k took ports hop sent same kept h =
    even_sent (head_weighs h) inbox ins inbox' ins' outs outs' outcomes outcomes' (ok h) p q k took ports hop sent (ap (one h) same) kept

pub balanced_settled : (inbox : In) (ins : List In) (inbox' : In) (ins' : List In) (outs outs' : List Out) (outcomes outcomes' : List Outcome) → IsBalanced inbox ins outs outcomes →
    (p : Parcel) (k : ℕ) → TookAt inbox ins inbox' ins' p k → outs' ≡ outs → (o : Outcome) → outcomes' ≡ outcomes ++ o ∷ [] → head_of o.packet ≡ head_of p.packet →
    IsBalanced inbox' ins' outs' outcomes'
balanced_settled inbox ins inbox' ins' outs outs' outcomes outcomes' ok p k took sent o settled same h =
    even_settled (head_weighs h) inbox ins inbox' ins' outs outs' outcomes outcomes' (ok h) p k took sent o settled (ap (one h) same)

pub same_account : (inbox inbox' : In) (ins ins' : List In) (outs : List Out) (outcomes outcomes' : List Outcome) → IsBalanced inbox ins outs outcomes → inbox' ≡ inbox → ins' ≡ ins → outcomes' ≡ outcomes → IsBalanced inbox' ins' outs outcomes'
same_account inbox inbox' ins ins' outs outcomes outcomes' ok a b c h = same_even (head_weighs h) inbox inbox' ins ins' outs outcomes outcomes' (ok h) a b c

-- an outcome after the earlier ones
pub settled_behind : (outcomes reserved after : List Outcome) (o : Outcome) → after ≡ reserved ++ o ∷ [] → reserved ≡ outcomes → after ≡ outcomes ++ o ∷ []
settled_behind outcomes reserved after o e f = e ∙ ap (λ (xs : List Outcome). xs ++ o ∷ []) f

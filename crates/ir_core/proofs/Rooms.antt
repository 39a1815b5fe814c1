-- The queues of a world: what they hold, and the room that they keep.
use Rattle.std.proofs.Common.{◌≡◌, ℕ, ◌<◌, ◌≤◌, List, map, get_or, set, length, sym, ap, subst, ◌∙◌, inl, inr}
use Rattle.std.specs.Prelude.{All}
use Rattle.std.proofs.Math.ListN.{get_or-map, length-map}
use Rattle.std.proofs.lemmas.List.{map-set, set_past, get_or_read}
use Rattle.std.proofs.lemmas.List.Elements.{All-set, All-get_or, All-same}
use Rattle.std.proofs.lemmas.Bool.{cases_lt}
use Rattle.ir_core.specs.declared.queue.Queue.{Queue}
use Rattle.ir_core.specs.Queue.{ids_of, room_of}

-- what a queue that was read holds
pub ids_read : (queues : List Queue) (c : ℕ) (q : Queue) → q ≡ get_or queues c q → ids_of q ≡ get_or (map ids_of queues) c (ids_of q)
ids_read queues c q read = ap ids_of read ∙ sym (get_or-map ids_of queues c q)

-- what the queues hold when one has changed
pub ids_set : (queues : List Queue) (c : ℕ) (q : Queue) → map ids_of (set queues c q) ≡ set (map ids_of queues) c (ids_of q)
ids_set queues c q = map-set ids_of queues c q

-- a queue that was read twice
pub read_twice : (queues : List Queue) (c : ℕ) (p q : Queue) → c < length (map ids_of queues) → p ≡ get_or queues c p → q ≡ get_or queues c q → p ≡ q
read_twice queues c p q lt first second =
    get_or_read queues c p (subst (λ (n : ℕ). c < n) (length-map queues ids_of) lt) first q ∙ sym second

-- a channel is one of the queues
pub is_queue : (queues : List Queue) (c : ℕ) → c < length (map ids_of queues) → c < length queues
is_queue queues c lt = subst (λ (n : ℕ). c < n) (length-map queues ids_of) lt

abbrev pub HaveRoom : ℕ → List Queue → Type 0
HaveRoom capacity queues = All (λ q. capacity ≤ room_of q) queues

-- the room of a queue that was read
pub room_read : (capacity : ℕ) (queues : List Queue) (c : ℕ) (q : Queue) → HaveRoom capacity queues → c < length (map ids_of queues) → q ≡ get_or queues c q → capacity ≤ room_of q
room_read capacity queues c q rooms lt read =
    let inside : c < length queues = subst (λ (n : ℕ). c < n) (length-map queues ids_of) lt in
    subst (λ (x : Queue). capacity ≤ room_of x) (sym read) (All-get_or (λ (x : Queue). capacity ≤ room_of x) queues c q inside rooms)

-- the queues have room when one of them was read and changed, and keeps its room
pub room_set : (capacity : ℕ) (queues : List Queue) (c : ℕ) (q q' : Queue) → HaveRoom capacity queues → q ≡ get_or queues c q → room_of q' ≡ room_of q → HaveRoom capacity (set queues c q')
room_set capacity queues c q q' rooms read same = elim (cases_lt c (length queues)) [
  | inl lt ↦
      let room : capacity ≤ room_of q = subst (λ (x : Queue). capacity ≤ room_of x) (sym read) (All-get_or (λ (x : Queue). capacity ≤ room_of x) queues c q lt rooms) in
      All-set (λ (x : Queue). capacity ≤ room_of x) queues c q' (subst (λ (n : ℕ). capacity ≤ n) (sym same) room) rooms
  | inr past ↦ All-same (λ (x : Queue). capacity ≤ room_of x) (set queues c q') queues (set_past queues c q' past) rooms
]

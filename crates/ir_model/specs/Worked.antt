-- Small networks and texts, worked by hand.
use Rattle.std.specs.Prelude.{ℕ, List, [], ◌∷◌, Option, Some, None, codes, if◌then◌else◌, ◌==◌}
use Rattle.ir_model.specs.declared.Link.{Link}
use Rattle.ir_model.specs.declared.Hop.{Hop}
use Rattle.ir_model.specs.Topology.{Topology}
use Rattle.ir_model.specs.Interval.{PortInterval}

abbrev pub link : ℕ → ℕ → ℕ → Link
link u v w = record { low = u; high = v; weight = w }

abbrev pub hop : ℕ → ℕ → ℕ → Hop
hop v l w = record { node = v; link = l; weight = w }

-- the line a-b-c, its links of weight 1
abbrev pub line : Topology
line = record {
  links = link 0 1 1 ∷ link 1 2 1 ∷ [];
  ports = (hop 1 0 1 ∷ []) ∷ (hop 0 0 1 ∷ hop 2 1 1 ∷ []) ∷ (hop 1 1 1 ∷ []) ∷ [];
}

-- a triangle, its links of weight 1
abbrev pub triangle : Topology
triangle = record {
  links = link 0 1 1 ∷ link 0 2 1 ∷ link 1 2 1 ∷ [];
  ports = (hop 1 0 1 ∷ hop 2 1 1 ∷ []) ∷ (hop 0 0 1 ∷ hop 2 2 1 ∷ []) ∷ (hop 0 1 1 ∷ hop 1 2 1 ∷ []) ∷ [];
}

-- one interval of all labels
abbrev pub one_interval : PortInterval
one_interval = record { start = 0; end = 0; port = 0 }

-- six nodes u p q r t s (0 to 5) and the links u-p, u-q, p-q, p-t, q-r, q-t, q-s (0 to 6)
abbrev pub six : Topology
six = record {
  links = link 0 1 1 ∷ link 0 2 1 ∷ link 1 2 9 ∷ link 1 4 1 ∷ link 2 3 1 ∷ link 2 4 9 ∷ link 2 5 1 ∷ [];
  ports = (hop 1 0 1 ∷ hop 2 1 1 ∷ [])
      ∷ (hop 0 0 1 ∷ hop 2 2 9 ∷ hop 4 3 1 ∷ [])
      ∷ (hop 0 1 1 ∷ hop 1 2 9 ∷ hop 3 4 1 ∷ hop 4 5 9 ∷ hop 5 6 1 ∷ [])
      ∷ (hop 2 4 1 ∷ [])
      ∷ (hop 2 5 9 ∷ hop 1 3 1 ∷ [])
      ∷ (hop 2 6 1 ∷ [])
      ∷ [];
}

-- the ports to t (4) of the tree of its depth-first numbers from u, in which u, p and q are a chain and t is a child of q
abbrev pub by_tree : ℕ → ℕ → Option ℕ
by_tree u d = if u == 4 then None else if u == 0 then Some 0 else if u == 1 then Some 1 else if u == 2 then Some 3 else Some 0

-- an adjacency list with a comment, a self-loop and a last line without its line feed
abbrev pub text : List ℕ
text = codes "a a b\nb c # y\nc"

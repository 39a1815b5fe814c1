-- Links of a part of a network among those of the whole network.
use Rattle.std.proofs.Common.{◌≡◌, ◌⊎◌, ◌∙◌, ℕ, ◌+◌, ◌-◌, ◌<◌, ◌≤◌, Bool, List, [], length, Option, Some, None, slice_index, slice_index_or, refl, ap, sym, subst, inl, inr, arith}
use Rattle.std.specs.Prelude.{IsSomeAnd}
use Rattle.std.proofs.lemmas.Bool.{cases_lt}
use Rattle.std.proofs.lemmas.List.{get_or_past}
use Rattle.std.proofs.lemmas.Option.{slice_get_within}
use Rattle.ir_model.specs.declared.Hop.{Hop}
use Rattle.ir_model.specs.Topology.{Topology, IsTopology, node_count, ports_of, port_at}
use Rattle.ir_model.specs.Plan.{Plan, IsPlan}
use Rattle.ir_model.proofs.Walks.{port_facts}
use Rattle.ir_figures.specs.Arcs.{width_of, IsArcMarked, IsDigraph}
use Rattle.ir_figures.specs.Exits.{exits_before, AreExits, AreLinks}
use Rattle.ir_figures.specs.Parts.{IsNumbered, IsNoLink, IsNumberIn, AreNumbersIn, StandsAt, AreMarkedToo, HavePlaces}
use Rattle.ir_figures.specs.Waits.{whole_number, IsSameLink, Waits, WaitsInPart, WaitsInEither, WaitsBeside, IsWithoutRing, IsWaitingRing}
use Rattle.ir_figures.proofs.Links.{one_link}
use Rattle.ir_figures.proofs.Marked.{marked_row}
use Rattle.ir_figures.proofs.Offsets.{before_more, before_mono}
use Rattle.ir_figures.proofs.Onward.{mark_within, port_below, port_leads}
use Rattle.ir_figures.proofs.Rings.{LinkLeads, waits_leads}

-- a link of the part is one of the whole network alone
same_once : (whole part : Topology) (number : ℕ → ℕ) → IsTopology whole → (u p v q x r : ℕ) → IsSameLink whole number part u p x r → IsSameLink whole number part v q x r → (u ≡ v) × (p ≡ q)
same_once whole part number ok u p v q x r one other =
    let node : u ≡ v = sym one.from ∙ other.from in
    let inner : one.inner ≡ other.inner = cc (one.inner_leads, other.inner_leads) in
    let next : one.hop.node ≡ other.hop.node = sym one.to ∙ ap (λ (h : Hop). number h.node) inner ∙ other.to in
    (node, ok.single v p q one.hop other.hop (subst (λ (y : ℕ). port_at whole y p ≡ Some one.hop) node one.leads) other.leads next)

-- a port's number is below that of all
pub exit_below : (net : Topology) (u p : ℕ) → u < node_count net → p < length (ports_of net u) → exits_before net u + p < exits_before net (node_count net)
exit_below net u p hu hp = omega (arith, hp, before_more net u hu, before_mono net (u + 1) (node_count net) (omega (arith, hu)) (omega arith))

pub same_leads : (whole part : Topology) (number : ℕ → ℕ) → IsTopology whole → (u p x r : ℕ) → (same : IsSameLink whole number part u p x r) → LinkLeads whole u p same.hop.node
same_leads whole part number ok u p x r same = record {
  from = (port_facts whole ok u p same.hop same.leads).from;
  port = slice_get_within (ports_of whole u) p same.hop same.leads;
  hop = same.hop;
  leads = same.leads;
  there = refl;
}

-- a wait of the part, and where the mark of it stands in the rows of the whole network
pub record Placed (whole : Topology) (number : ℕ → ℕ) (t : Plan) (c d : ℕ) : Type 0 where
  pub u : ℕ
  pub p : ℕ
  pub v : ℕ
  pub q : ℕ
  pub leads : LinkLeads whole u p v
  pub node : v < node_count whole
  pub port : q < length (ports_of whole v)
  pub row : exits_before whole u + p ≡ c
  pub target : exits_before whole v + q ≡ d
  pub waits : WaitsInPart whole number t u p v q

module _ (whole : Topology) (ok : IsTopology whole) (t : Plan) (it : IsPlan t) (number : ℕ → ℕ) (inner : List ℕ) (others : List (List Bool)) (theirs : AreLinks t.topology (Waits t) inner others (exits_before t.topology (node_count t.topology))) (numbers : List (Option ℕ)) (numbered : AreNumbersIn whole number t.topology (exits_before t.topology (node_count t.topology)) numbers) where
  part : Topology
  part = t.topology

  -- the number of a link that both have
  number_at : (u p x r : ℕ) → x < node_count part → r < length (ports_of part x) → IsSameLink whole number part u p x r → slice_index_or numbers (exits_before part x + r) None ≡ Some (exits_before whole u + p)
  unfolding part
  number_at u p x r hx hr same = by (slice_index_or numbers (exits_before part x + r) None) refl (numbered.each (exits_before part x + r) (exit_below part x r hx hr))
    where
      by : (o : Option ℕ) → slice_index_or numbers (exits_before part x + r) None ≡ o → IsNumberIn whole number part (exits_before part x + r) o → slice_index_or numbers (exits_before part x + r) None ≡ Some (exits_before whole u + p)
      by None e none = absurd (none u p x r hx hr refl same)
      by (Some d) e is =
          let one = one_link part x r is.x is.r hx is.node hr is.port is.inner in
          let moved = subst (λ (y : ℕ). IsSameLink whole number part is.u is.p y r) one.0 (subst (λ (y : ℕ). IsSameLink whole number part is.u is.p is.x y) one.1 is.same) in
          let alike = same_once whole part number ok is.u is.p u p x r moved same in
          e ∙ ap Some (omega (arith, is.outer, ap (exits_before whole) alike.0, alike.1))

  -- what a number says
  numbered_at : (a c : ℕ) → slice_index_or numbers a None ≡ Some c → IsNumbered whole number part a c
  unfolding part
  numbered_at a c e = elim (cases_lt a (length numbers)) [
    | inl lt ↦ subst (IsNumberIn whole number part a) e (numbered.each a (omega (arith, lt, numbered.every)))
    | inr past ↦ absurd (let none : slice_index_or numbers a None ≡ None = get_or_past numbers a None past in cc (e, none))
  ]

  pub row_below : (a c : ℕ) → slice_index_or numbers a None ≡ Some c → c < exits_before whole (node_count whole)
  unfolding part same_leads
  row_below a c e =
      let is = numbered_at a c e in
      let leads = same_leads whole part number ok is.u is.p is.x is.r is.same in
      omega (arith, is.outer, exit_below whole is.u is.p leads.from leads.port)

  pub placed : (a k c d : ℕ) → IsArcMarked others a k → slice_index_or numbers a None ≡ Some c → slice_index_or numbers (slice_index inner a + k) None ≡ Some d → Placed whole number t c d
  unfolding part same_leads numbered_at
  placed a k c d at row target =
      let one = numbered_at a c row in
      let exit = theirs.each one.x one.r one.node one.port (exit_below part one.x one.r one.node one.port) in
      let marked = subst (λ (y : ℕ). IsArcMarked others y k) (sym one.inner) at in
      let wait = exit.onward.only k marked in
      let y : ℕ = exit.hop.node in
      let y_in : y < node_count part = (port_facts part it.topology one.x one.r exit.hop exit.leads).to in
      let k_in : k < length (ports_of part y) = omega (arith, mark_within (slice_index_or others (exits_before part one.x + one.r) []) k marked, exit.onward.every) in
      let begins : slice_index inner a ≡ exits_before part y = ap (slice_index inner) (sym one.inner) ∙ exit.block in
      let other = numbered_at (slice_index inner a + k) d target in
      let same = one_link part y k other.x other.r y_in other.node k_in other.port (other.inner ∙ ap (λ (z : ℕ). z + k) begins) in
      let moved = subst (λ (z : ℕ). IsSameLink whole number part other.u other.p z k) same.0 (subst (λ (z : ℕ). IsSameLink whole number part other.u other.p other.x z) same.1 other.same) in
      let hop : exit.hop ≡ one.same.inner = cc (exit.leads, one.same.inner_leads) in
      let v : one.same.hop.node ≡ other.u = sym one.same.to ∙ ap (λ (h : Hop). number h.node) (sym hop) ∙ moved.from in
      let leads = same_leads whole part number ok one.u one.p one.x one.r one.same in
      let onward = same_leads whole part number ok other.u other.p y k moved in
      record {
        u = one.u;
        p = one.p;
        v = other.u;
        q = other.p;
        leads = record { from = leads.from; port = leads.port; hop = leads.hop; leads = leads.leads; there = v };
        node = onward.from;
        port = onward.port;
        row = one.outer;
        target = other.outer;
        waits = record { x = one.x; r = one.r; y = y; s = k; wait = wait; first = one.same; next = moved };
      }

  -- where the links of the whole network wait too
  module _ (s : Plan) (over : s.topology ≡ whole) (begins : List ℕ) (marks : List (List Bool)) (mine : AreLinks whole (Waits s) begins marks (exits_before whole (node_count whole))) where
    pub places : IsDigraph inner others → (old : List (List Bool)) → old ≡ marks → HavePlaces begins inner others numbers old
    unfolding part
    places fits old same = record {
      every = numbered.every ∙ sym theirs.every_row;
      every_block = theirs.every_block ∙ sym theirs.every_row;
      every_row = mine.every_block ∙ sym mine.every_row ∙ ap length (sym same);
      block = fits.within;
      row = λ a c e. omega (arith, row_below a c e, mine.every_row, ap length same);
      place = λ a k c d at row target.
          let is = placed a k c d at row target in
          let exit = mine.each is.u is.p is.leads.from is.leads.port (exit_below whole is.u is.p is.leads.from is.leads.port) in
          let hop : exit.hop ≡ is.leads.hop = cc (exit.leads, is.leads.leads) in
          let node : exit.hop.node ≡ is.v = ap (λ (h : Hop). h.node) hop ∙ is.leads.there in
          let block : slice_index begins c ≡ exits_before whole is.v = ap (slice_index begins) (sym is.row) ∙ exit.block ∙ ap (exits_before whole) node in
          let wide : width_of old c ≡ length (ports_of whole is.v) = ap (λ (xs : List (List Bool)). width_of xs c) same ∙ ap (width_of marks) (sym is.row) ∙ exit.onward.every ∙ ap (λ (y : ℕ). length (ports_of whole y)) node in
          (omega (arith, block, is.target), omega (arith, block, wide, is.target, is.port));
    }

    pub links_beside : (rows : List (List Bool)) → AreMarkedToo (StandsAt begins inner others numbers) (λ x k. x < length others) marks rows
        → AreLinks whole (λ u p v q. Waits s u p v q ⊎ WaitsInPart whole number t u p v q) begins rows (exits_before whole (node_count whole))
    unfolding part
    links_beside rows too = record {
      every_block = mine.every_block;
      every_row = too.every ∙ mine.every_row;
      each = λ v r hv hr below.
          let c : ℕ = exits_before whole v + r in
          let exit = mine.each v r hv hr below in
          record {
            hop = exit.hop;
            leads = exit.leads;
            block = exit.block;
            onward = record {
              every = too.wide c ∙ exit.onward.every;
              marked = λ q w. elim w [
                | inl own ↦ too.kept c q (exit.onward.marked q own)
                | inr m ↦
                    let r_in = port_below t it m.x m.wait.goal m.r m.wait.from m.wait.to m.wait.leaves in
                    let below : exits_before part m.x + m.r < exits_before part (node_count part) = exit_below part m.x m.r m.wait.from r_in in
                    let theirs_at = theirs.each m.x m.r m.wait.from r_in below in
                    let hop : theirs_at.hop ≡ m.wait.hop = cc (theirs_at.leads, m.wait.leads) in
                    let node : theirs_at.hop.node ≡ m.y = ap (λ (h : Hop). h.node) hop ∙ m.wait.there in
                    let y_in : m.y < node_count part = omega (arith, node, (port_facts part it.topology m.x m.r theirs_at.hop theirs_at.leads).to) in
                    let s_in = port_below t it m.y m.wait.goal m.s y_in m.wait.to m.wait.goes_on in
                    let block : slice_index inner (exits_before part m.x + m.r) ≡ exits_before part m.y = theirs_at.block ∙ ap (exits_before part) node in
                    let stands : StandsAt begins inner others numbers (exits_before part m.x + m.r) m.s c q = record {
                      marked = theirs_at.onward.marked m.s (subst (λ (y : ℕ). Waits t m.x m.r y m.s) (sym node) m.wait);
                      row = number_at v r m.x m.r m.wait.from r_in m.first;
                      target =
                          ap (λ (z : ℕ). slice_index_or numbers (z + m.s) None) block
                          ∙ number_at exit.hop.node q m.y m.s y_in s_in m.next
                          ∙ ap (λ (z : ℕ). Some (z + q)) (sym exit.block);
                    } in
                    too.too (exits_before part m.x + m.r) m.s c q (omega (arith, below, theirs.every_row)) stands
              ];
              only = λ q at. elim (too.only c q at) [
                | inl old ↦ inl (exit.onward.only q old)
                | inr m ↦
                    let is = placed m.0 m.1 c (slice_index begins c + q) m.2.marked m.2.row m.2.target in
                    let one = one_link whole v r is.u is.p hv is.leads.from hr is.leads.port is.row in
                    let there : port_at whole v r ≡ Some is.leads.hop = subst (λ (y : ℕ). port_at whole y r ≡ Some is.leads.hop) one.0 (subst (λ (y : ℕ). port_at whole is.u y ≡ Some is.leads.hop) one.1 is.leads.leads) in
                    let hop : is.leads.hop ≡ exit.hop = cc (there, exit.leads) in
                    let node : is.v ≡ exit.hop.node = sym is.leads.there ∙ ap (λ (h : Hop). h.node) hop in
                    let port : is.q ≡ q = omega (arith, is.target, exit.block, ap (exits_before whole) node) in
                    inr (subst (λ (y : ℕ). WaitsInPart whole number t y r exit.hop.node q) one.0
                    (subst (λ (y : ℕ). WaitsInPart whole number t is.u y exit.hop.node q) one.1
                    (subst (λ (y : ℕ). WaitsInPart whole number t is.u is.p y q) node
                    (subst (λ (y : ℕ). WaitsInPart whole number t is.u is.p is.v y) port is.waits))))
              ];
            };
          };
    }

-- what waits leads on
pub part_leads : (whole : Topology) → IsTopology whole → (t : Plan) → IsPlan t → (number : ℕ → ℕ) → (u p v q : ℕ) → WaitsInPart whole number t u p v q → LinkLeads whole u p v
unfolding same_leads
part_leads whole ok t it number u p v q w =
    let first = same_leads whole t.topology number ok u p w.x w.r w.first in
    let hop : w.first.inner ≡ w.wait.hop = cc (w.first.inner_leads, w.wait.leads) in
    record {
      from = first.from;
      port = first.port;
      hop = first.hop;
      leads = first.leads;
      there = sym w.first.to ∙ ap (λ (h : Hop). number h.node) hop ∙ ap number w.wait.there ∙ w.next.from;
    }

pub beside_leads : (s t : Plan) → IsPlan s → IsPlan t → (number : ℕ → ℕ) → (u p v q : ℕ) → WaitsBeside s number t u p v q → LinkLeads s.topology u p v
beside_leads s t is it number u p v q (inl w) = waits_leads s is u p v q w
beside_leads s t is it number u p v q (inr w) = part_leads s.topology is.topology t it number u p v q w

-- ---- the numbers of links

-- the link with the number c is that by port r of x
pub record ExitAt (net : Topology) (x r c : ℕ) : Type 0 where
  pub node : x < node_count net
  pub port : r < length (ports_of net x)
  pub number : exits_before net x + r ≡ c

pub exit_at : (net : Topology) (first nodes : List ℕ) → AreExits net (node_count net) first nodes → (c x b : ℕ) → c < length nodes → x ≡ slice_index nodes c → b ≡ slice_index first x → ExitAt net x (c - b) c
exit_at net first nodes exits c x b lt x_is b_is =
    let node : x < node_count net = omega (arith, x_is, exits.node c lt) in
    let begins = exits.starts x node in
    let after : exits_before net x ≤ c = omega (arith, ap (exits_before net) x_is, exits.after c lt) in
    let below : c < exits_before net (x + 1) = omega (arith, ap (λ (y : ℕ). exits_before net (y + 1)) x_is, exits.below c lt) in
    record {
      node = node;
      port = omega (arith, after, below, before_more net x node, begins, b_is);
      number = omega (arith, begins, b_is, after);
    }

pub hop_there : (o : Option Hop) (P : Hop → Type 0) → IsSomeAnd o P → (hop : Hop) × (o ≡ Some hop) × P hop
hop_there (Some hop) P holds = (hop, refl, holds)
hop_there None P holds = absurd holds

pub is_numbered : (whole net : Topology) (number : ℕ → ℕ) (x r c p d : ℕ) (hop inner : Hop) → ExitAt net x r c → port_at whole (number x) p ≡ Some hop → port_at net x r ≡ Some inner
    → number inner.node ≡ hop.node → exits_before whole (number x) + p ≡ d → IsNumbered whole number net c d
is_numbered whole net number x r c p d hop inner at leads inner_leads to outer = record {
  x = x;
  r = r;
  u = number x;
  p = p;
  node = at.node;
  port = at.port;
  inner = at.number;
  same = record { hop = hop; leads = leads; inner = inner; inner_leads = inner_leads; from = refl; to = to };
  outer = outer;
}

pub no_number : (whole net : Topology) (number : ℕ → ℕ) (x r c : ℕ) (inner : Hop) → ExitAt net x r c → port_at net x r ≡ Some inner
    → ((p : ℕ) (hop : Hop) → port_at whole (number x) p ≡ Some hop → hop.node ≡ number inner.node → ⊥) → IsNoLink whole number net c
no_number whole net number x r c inner at inner_leads none = λ u p y q hy hq is same.
    let one = one_link net x r y q at.node hy at.port hq (is ∙ sym at.number) in
    let there : port_at net x r ≡ Some same.inner = subst (λ (z : ℕ). port_at net z r ≡ Some same.inner) one.0 (subst (λ (z : ℕ). port_at net y z ≡ Some same.inner) one.1 same.inner_leads) in
    let alike : same.inner ≡ inner = cc (there, inner_leads) in
    let node : u ≡ number x = sym same.from ∙ ap number one.0 in
    none p same.hop (subst (λ (z : ℕ). port_at whole z p ≡ Some same.hop) node same.leads) (sym same.to ∙ ap (λ (h : Hop). number h.node) alike)

-- ---- two plans over one network

module _ (s t : Plan) (is : IsPlan s) (it : IsPlan t) (same : t.topology ≡ s.topology) where
  own_link : (u p x r : ℕ) → IsSameLink s.topology (whole_number None) t.topology u p x r → (x ≡ u) × (r ≡ p)
  own_link u p x r link =
      let there : port_at s.topology x r ≡ Some link.inner = subst (λ (net : Topology). port_at net x r ≡ Some link.inner) same link.inner_leads in
      (link.from, is.topology.single u r p link.inner link.hop (subst (λ (y : ℕ). port_at s.topology y r ≡ Some link.inner) link.from there) link.leads link.to)

  pub either_of : (u p v q : ℕ) → WaitsBeside s (whole_number None) t u p v q → WaitsInEither s t u p v q
  either_of u p v q (inl w) = inl w
  either_of u p v q (inr w) =
      let one = own_link u p w.x w.r w.first in
      let other = own_link v q w.y w.s w.next in
      inr (subst (λ (y : ℕ). Waits t y p v q) one.0
      (subst (λ (y : ℕ). Waits t w.x y v q) one.1
      (subst (λ (y : ℕ). Waits t w.x w.r y q) other.0 (subst (λ (y : ℕ). Waits t w.x w.r w.y y) other.1 w.wait))))

  link_of : (u p : ℕ) (hop : Hop) → port_at t.topology u p ≡ Some hop → IsSameLink s.topology (whole_number None) t.topology u p u p
  link_of u p hop leads = record {
    hop = hop;
    leads = subst (λ (net : Topology). port_at net u p ≡ Some hop) same leads;
    inner = hop;
    inner_leads = leads;
    from = refl;
    to = refl;
  }

  pub beside_of : (u p v q : ℕ) → WaitsInEither s t u p v q → WaitsBeside s (whole_number None) t u p v q
  beside_of u p v q (inl w) = inl w
  beside_of u p v q (inr w) =
      let v_in : v < node_count t.topology = omega (arith, sym w.there, (port_facts t.topology it.topology u p w.hop w.leads).to) in
      let on = port_leads t it v w.goal q v_in w.to w.goes_on in
      inr (record { x = u; r = p; y = v; s = q; wait = w; first = link_of u p w.hop w.leads; next = link_of v q on.0 on.1 })

-- waits of which each is one of the others have no ring where those have none, and theirs where they have one
pub without_too : (one other : ℕ → ℕ → ℕ → ℕ → Type 0) → ((u p v q : ℕ) → other u p v q → one u p v q) → IsWithoutRing one → IsWithoutRing other
without_too one other from none = (none.0, λ u p v q w. none.1 u p v q (from u p v q w))

pub ring_too : (one other : ℕ → ℕ → ℕ → ℕ → Type 0) → ((u p v q : ℕ) → one u p v q → other u p v q) → (nodes ports : List ℕ) → IsWaitingRing one nodes ports → IsWaitingRing other nodes ports
ring_too one other to nodes ports ring = record {
  some = ring.some;
  every = ring.every;
  once = ring.once;
  next = λ i lt. to _ _ _ _ (ring.next i lt);
  closed = to _ _ _ _ ring.closed;
}

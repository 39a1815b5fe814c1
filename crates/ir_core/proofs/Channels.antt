use Rattle.std.proofs.Common.{◌≡◌, ◌≢◌, ℕ, ◌+◌, ◌*◌, ◌<◌, List, slice_get, Option, Some, None, refl, sym, ap, ◌∙◌, arith, true, false, ◌==◌, ◌⊎◌, inl, inr}
use Rattle.std.proofs.lemmas.Grind.{common_steps}
use Rattle.std.proofs.lemmas.Option.{same_Some, none-some, slice_get_within}
use Rattle.std.proofs.lemmas.Bool.Decides.{eqb_tells}
use Rattle.ir_model.specs.declared.Link.{Link as Edge}
use Rattle.ir_model.specs.declared.Hop.{Hop}
use Rattle.ir_model.specs.Topology.{node_count, IsTopology, Joins}
use Rattle.ir_model.specs.Plan.{Plan, next_hop}
use Rattle.ir_core.specs.declared.event.Way.{Way}
use Rattle.ir_core.specs.declared.event.Way.TheVariants.{Inbox, Link}
use Rattle.ir_core.specs.Setting.{Setting, channel_of, channel_into, nodes_of, links_of, into, IsPlanFor}
use Rattle.ir_core.proofs.Walks.{port_of}

abbrev pub IsEndOf : ℕ → ℕ → ℕ → Edge → Type 0
IsEndOf first u c link = ((c ≡ first) × (link.low ≡ u)) ⊎ ((c ≡ first + 1) × (link.high ≡ u))

into_end : (first u c : ℕ) (link : Edge) → channel_into first u (Some link) ≡ Some c → IsEndOf first u c link
into_end first u c link e = grind (arith, common_steps)

-- what is known of a link's channel
pub link_channel : (o : Setting) (u l c : ℕ) → channel_of o u (Link l) ≡ Some c →
    (link : Edge) × (slice_get o.topology.links l ≡ Some link) × (l < links_of o) × IsEndOf (nodes_of o + 2 * l) u c link
link_channel o u l c e = by_link (slice_get o.topology.links l) refl e
  where
    by_link : (x : Option Edge) → slice_get o.topology.links l ≡ x → channel_into (nodes_of o + 2 * l) u x ≡ Some c →
        (link : Edge) × (slice_get o.topology.links l ≡ Some link) × (l < links_of o) × IsEndOf (nodes_of o + 2 * l) u c link
    by_link None is f = absurd (none-some c f)
    by_link (Some link) is f = (link, is, slice_get_within o.topology.links l link is, into_end (nodes_of o + 2 * l) u c link f)

-- no two ways lead to one channel
pub same_way : (o : Setting) (u v : ℕ) (way other : Way) (c : ℕ) → u < nodes_of o → v < nodes_of o → channel_of o u way ≡ Some c → channel_of o v other ≡ Some c → (u ≡ v) × (way ≡ other)
same_way o u v Inbox Inbox c u_in v_in e f = (same_Some u c e ∙ sym (same_Some v c f), refl)
same_way o u v Inbox (Link l) c u_in v_in e f =
    let s = same_Some u c e in let k = (link_channel o v l c f).3 in
    absurd (grind arith)
same_way o u v (Link l) Inbox c u_in v_in e f =
    let s = same_Some v c f in let k = (link_channel o u l c e).3 in
    absurd (grind arith)
same_way o u v (Link l) (Link k) c u_in v_in e f =
    let p = link_channel o u l c e in let q = link_channel o v k c f in
    same_links p.0 q.0 p.1 q.1 p.3 q.3
  where
    same_links : (link other : Edge) → slice_get o.topology.links l ≡ Some link → slice_get o.topology.links k ≡ Some other →
        IsEndOf (nodes_of o + 2 * l) u c link → IsEndOf (nodes_of o + 2 * k) v c other → (u ≡ v) × (Link l ≡ Link k)
    same_links link other at there (inl a) (inl b) =
        let s : l ≡ k = omega (arith, a.0, b.0) in
        let same : link ≡ other = same_Some link other (sym at ∙ ap (λ (x : ℕ). slice_get o.topology.links x) s ∙ there) in
        (sym a.1 ∙ ap (λ (x : Edge). x.low) same ∙ b.1, ap (λ (x : ℕ). Link x) s)
    same_links link other at there (inl a) (inr b) = absurd (omega (arith, a.0, b.0))
    same_links link other at there (inr a) (inl b) = absurd (omega (arith, a.0, b.0))
    same_links link other at there (inr a) (inr b) =
        let s : l ≡ k = omega (arith, a.0, b.0) in
        let same : link ≡ other = same_Some link other (sym at ∙ ap (λ (x : ℕ). slice_get o.topology.links x) s ∙ there) in
        (sym a.1 ∙ ap (λ (x : Edge). x.high) same ∙ b.1, ap (λ (x : ℕ). Link x) s)

-- a channel's number is within the list of channels
pub channel_within : (o : Setting) (u : ℕ) (way : Way) (c : ℕ) → u < nodes_of o → channel_of o u way ≡ Some c → c < nodes_of o + 2 * links_of o
channel_within o u Inbox c h e = let s = same_Some u c e in omega arith
channel_within o u (Link l) c h e = let k = link_channel o u l c e in let lt = k.2 in let ends = k.3 in grind arith

pub into_is : (o : Setting) (u : ℕ) (way : Way) (c : ℕ) → channel_of o u way ≡ Some c → into o u way ≡ c
into_is o u way c e = rw e refl

-- an end of a link has a channel from it
pub channel_there : (first u : ℕ) (link : Edge) → (link.low ≡ u) ⊎ (link.high ≡ u) → (c : ℕ) × (channel_into first u (Some link) ≡ Some c)
channel_there first u link ends = chosen (eqb_tells link.low u)
  where
    high : (link.low ≢ u) → ((link.low ≡ u) ⊎ (link.high ≡ u)) → link.high ≡ u
    high ne (inl e) = absurd (ne e)
    high ne (inr e) = e

    chosen : (((link.low == u) ≡ true) × (link.low ≡ u)) ⊎ (((link.low == u) ≡ false) × (link.low ≢ u)) → (c : ℕ) × (channel_into first u (Some link) ≡ Some c)
    chosen (inl p) = (first, rw p.0 refl)
    chosen (inr p) = (first + 1, (let h = high p.1 ends in grind (arith, common_steps)))

-- where a plan's hop leads there is a channel
pub hop_leads : (o : Setting) (t : Plan) → IsPlanFor o t → (u d : ℕ) (h : Hop) → next_hop t u d ≡ Some h →
    (h.node < nodes_of o) × ((c : ℕ) × (channel_of o h.node (Link h.link) ≡ Some c))
hop_leads o t is u d h e =
    let net : IsTopology t.topology = is.plan.topology in
    let at = port_of t u d h e in
    let port = net.ports u at.0 h at.1 in
    let link : Edge = port.0 in
    let facts = net.links h.link link port.1 in
    let there : slice_get o.topology.links h.link ≡ Some link = ap (λ (ls : List Edge). slice_get ls h.link) (sym is.links) ∙ port.1 in
    let to = channel_there (nodes_of o + 2 * h.link) h.node link (an_end link port.2) in
    (omega (arith, node_in link port.2 facts.ordered facts.in_range, is.nodes), (to.0, rw there to.1))
  where
    an_end : (link : Edge) → Joins link u h.node → (link.low ≡ h.node) ⊎ (link.high ≡ h.node)
    an_end link (inl p) = inr p.1
    an_end link (inr p) = inl p.0

    node_in : (link : Edge) → Joins link u h.node → link.low < link.high → link.high < node_count t.topology → h.node < node_count t.topology
    node_in link (inl p) lt within = let e = p.1 in omega arith
    node_in link (inr p) lt within = let e = p.0 in omega arith

-- The directed links of a plan's network, one after the other.
use Rattle.std.proofs.Common.{◌≡◌, ℕ, ◌+◌, ◌<◌, Bool, List, [], ◌∷◌, ◌++◌, length, Some, refl, ap, sym, ◌∙◌, subst, inl, inr, arith, length-append}
use Rattle.std.proofs.lemmas.Bool.{cases_lt}
use Rattle.std.proofs.lemmas.List.{get_or_push, get_or_append_left}
use Rattle.std.specs.Global.{Vec}
use Rattle.ir_model.specs.declared.Hop.{Hop}
use Rattle.ir_model.specs.Topology.{Topology, node_count, ports_of, port_at}
use Rattle.ir_figures.specs.Arcs.{marks_of}
use Rattle.ir_figures.specs.Exits.{exits_before, AreAwaited, IsExitAt, AreLinks}
use Rattle.ir_figures.proofs.Offsets.{before_more, one_node}

-- a number is that of one link alone
pub one_link : (net : Topology) (u p v r : ℕ) → u < node_count net → v < node_count net → p < length (ports_of net u) → r < length (ports_of net v)
    → exits_before net v + r ≡ exits_before net u + p → (v ≡ u) × (r ≡ p)
one_link net u p v r hu hv hp hr e =
    let same : v ≡ u = one_node net v u (exits_before net v + r) hv hu (omega arith) (omega (arith, before_more net v hv, hr)) (omega (arith, e)) (omega (arith, e, before_more net u hu, hp)) in
    (same, omega (arith, e, ap (exits_before net) same))

module _ (net : Topology) (waits : ℕ → ℕ → ℕ → ℕ → Type 0) where
  -- what is said of a link's place stays where the lists grow
  exit_kept : (blocks : List ℕ) (marks : List (List Bool)) (block : ℕ) (row : List Bool) (v r c : ℕ) → c < length blocks → c < length marks → IsExitAt net waits blocks marks v r c → IsExitAt net waits (blocks ++ block ∷ []) (marks ++ row ∷ []) v r c
  exit_kept blocks marks block row v r c a b old = record {
    hop = old.hop;
    leads = old.leads;
    block = get_or_append_left blocks (block ∷ []) 0 c a ∙ old.block;
    onward = subst (AreAwaited net waits v r old.hop.node) (sym (get_or_append_left marks (row ∷ []) [] c b)) old.onward;
  }

  -- the next link
  pub links_more : (blocks : List ℕ) (marks : List (List Bool)) (block : ℕ) (row : List Bool) (u p count : ℕ) (hop : Hop) → u < node_count net → p < length (ports_of net u)
      → count ≡ exits_before net u + p → port_at net u p ≡ Some hop → block ≡ exits_before net hop.node → AreAwaited net waits u p hop.node row
      → AreLinks net waits blocks marks count → AreLinks net waits (blocks ++ block ∷ []) (marks ++ row ∷ []) (count + 1)
  links_more blocks marks block row u p count hop hu hp here at begins onward so_far =
      let new : IsExitAt net waits (blocks ++ block ∷ []) (marks ++ row ∷ []) u p count = record {
        hop = hop;
        leads = at;
        block = get_or_push blocks block 0 count so_far.every_block ∙ begins;
        onward = subst (AreAwaited net waits u p hop.node) (sym (get_or_push marks row [] count so_far.every_row)) onward;
      } in
      record {
        every_block = length-append blocks (block ∷ []) ∙ omega (arith, so_far.every_block);
        every_row = length-append marks (row ∷ []) ∙ omega (arith, so_far.every_row);
        each = λ v r hv hr below. elim (cases_lt (exits_before net v + r) count) [
          | inl l ↦
              exit_kept blocks marks block row v r (exits_before net v + r) (omega (arith, l, so_far.every_block)) (omega (arith, l, so_far.every_row)) (so_far.each v r hv hr l)
          | inr g ↦
              let last : exits_before net v + r ≡ count = omega (arith, g, below) in
              let same = one_link net u p v r hu hv hp hr (last ∙ here) in
              subst (IsExitAt net waits (blocks ++ block ∷ []) (marks ++ row ∷ []) v r) (sym last)
              (subst (λ (x : ℕ). IsExitAt net waits (blocks ++ block ∷ []) (marks ++ row ∷ []) x r count) (sym same.0)
              (subst (λ (x : ℕ). IsExitAt net waits (blocks ++ block ∷ []) (marks ++ row ∷ []) u x count) (sym same.1) new))
        ];
      }

  pub no_links : (blocks : List ℕ) (marks : List (List Bool)) → length blocks ≡ 0 → length marks ≡ 0 → AreLinks net waits blocks marks 0
  no_links blocks marks a b = record {
    every_block = a;
    every_row = b;
    each = λ v r hv hr below. absurd (omega (arith, below));
  }

pub marks_push : (rows : List (Vec Bool)) (row : Vec Bool) → marks_of (rows ++ row ∷ []) ≡ marks_of rows ++ row.items ∷ []
marks_push [] row = refl
marks_push (r ∷ rows) row = ap (λ (xs : List (List Bool)). r.items ∷ xs) (marks_push rows row)

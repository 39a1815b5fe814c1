-- The marks of a port, as one label after the other comes to them, and what they say.
use Rattle.std.proofs.Common.{◌≡◌, ◌↔◌, ℕ, ◌+◌, ◌<◌, ◌≤◌, Bool, true, false, List, [], ◌∷◌, ◌++◌, length, Some, Option, ap, sym, ◌∙◌, subst, inl, inr, ◌⊎◌, arith}
use Rattle.std.specs.Prelude.{Contains, slice_index, slice_index_or}
use Rattle.std.proofs.lemmas.Bool.{cases_eq, cases_lt}
use Rattle.std.proofs.lemmas.List.{length_push, get_or_push, get_or_append_left, get_or_past}
use Rattle.std.proofs.lemmas.List.Elements.{Contains-append_left, Contains-push, Contains-push_cases}
use Rattle.std.proofs.lemmas.Option.{slice_get_within}
use Rattle.ir_model.specs.declared.Hop.{Hop}
use Rattle.ir_model.specs.Topology.{Topology, node_count, ports_of, port_at, IsTopology}
use Rattle.ir_model.specs.Plan.{AreLabels}
use Rattle.ir_model.specs.Choices.{AreChoices, AreChosen}
use Rattle.ir_model.specs.Within.{LeadsWithin, MayLead}
use Rattle.ir_model.proofs.Best.{Marks}
use Rattle.ir_model.proofs.Chosen.{choices_same}
use Rattle.ir_model.specs.Landmark.{IsLandmarkBound}
use Rattle.ir_model.proofs.Landmarks.{landmark_bound_one}
use Rattle.ir_bounds.specs.Bounds.{AreBoundsFrom}
use Rattle.ir_bounds.specs.Rows.{MayTakePort, AreMarksWithin}

-- the first i labels have marks where P holds, and those with one are listed
pub record AreMarkedSo (P : ℕ → Type 0) (i : ℕ) (row : List Bool) (marked : List ℕ) : Type 0 where
  pub every : length row ≡ i
  pub marks : (d : ℕ) → d < i → (slice_index_or row d false ≡ true) ↔ P d
  pub label : (d : ℕ) → Contains marked d → d < i
  pub has : (d : ℕ) → d < i → slice_index_or row d false ≡ true → Contains marked d

pub marked_more : (P : ℕ → Type 0) (i : ℕ) (row more : List Bool) (marked grown : List ℕ) (b : Bool) → AreMarkedSo P i row marked → more ≡ row ++ (b ∷ []) → ((b ≡ true) ↔ P i)
    → ((b ≡ true) × (grown ≡ marked ++ (i ∷ []))) ⊎ ((b ≡ false) × (grown ≡ marked)) → AreMarkedSo P (i + 1) more grown
marked_more P i row more marked grown b are is tells put =
    let last : slice_index_or more i false ≡ b = ap (λ (xs : List Bool). slice_index_or xs i false) is ∙ get_or_push row b false i are.every in
    let before : (d : ℕ) → d < i → slice_index_or more d false ≡ slice_index_or row d false = λ d lt. ap (λ (xs : List Bool). slice_index_or xs d false) is ∙ get_or_append_left row (b ∷ []) false d (omega (arith, lt, are.every)) in
    record {
      every = ap (λ (xs : List Bool). length xs) is ∙ length_push row b ∙ ap (λ (k : ℕ). k + 1) are.every;
      marks = λ d lt.
          elim (cases_eq d i) [
            | inl e ↦
                let here : slice_index_or more d false ≡ b = ap (λ (x : ℕ). slice_index_or more x false) e ∙ last in
                ((λ m. subst P (sym e) (tells.0 (sym here ∙ m))), (λ p. here ∙ tells.1 (subst P e p)))
            | inr ne ↦
                let low : d < i = omega (arith, lt, ne) in
                ((λ m. (are.marks d low).0 (sym (before d low) ∙ m)), (λ p. before d low ∙ (are.marks d low).1 p))
          ];
      label = λ d has.
          elim put [
            | inl w ↦ elim (Contains-push_cases marked i d (subst (λ (xs : List ℕ). Contains xs d) w.1 has)) [
              | inl old ↦ let l = are.label d old in omega (arith, l)
              | inr new ↦ omega (arith, new)
            ]
            | inr w ↦ let l = are.label d (subst (λ (xs : List ℕ). Contains xs d) w.1 has) in omega (arith, l)
          ];
      has = λ d lt m.
          elim (cases_eq d i) [
            | inl e ↦
                let here : b ≡ true = sym last ∙ ap (λ (x : ℕ). slice_index_or more x false) (sym e) ∙ m in
                elim put [
                  | inl w ↦ subst (λ (xs : List ℕ). Contains xs d) (sym w.1) (subst (λ (x : ℕ). Contains (marked ++ (i ∷ [])) x) (sym e) (Contains-push marked i))
                  | inr w ↦ absurd (let bad : false ≡ true = sym w.0 ∙ here in cc bad)
                ]
            | inr ne ↦
                let low : d < i = omega (arith, lt, ne) in
                let old = are.has d low (sym (before d low) ∙ m) in
                elim put [
                  | inl w ↦ subst (λ (xs : List ℕ). Contains xs d) (sym w.1) (Contains-append_left marked (i ∷ []) d old)
                  | inr w ↦ subst (λ (xs : List ℕ). Contains xs d) (sym w.1) old
                ]
          ];
    }

module _ (net : Topology) (ok : IsTopology net) (landmarks : List ℕ) (stretch : ℕ) (order labels : List ℕ) (named : AreLabels (node_count net) order labels) (u : ℕ) (hu : u < node_count net) where
  abbrev bound : ℕ → ℕ → ℕ → Type 0
  bound = IsLandmarkBound net landmarks stretch

  -- the marks of a port say which labels may take it
  pub marks_may : (p : ℕ) (hop : Hop) (own theirs : List ℕ) (row : List Bool) → AreBoundsFrom net landmarks stretch u own → AreBoundsFrom net landmarks stretch hop.node theirs → port_at net u p ≡ Some hop
      → AreMarksWithin (node_count net) order hop.weight own theirs row → (d : ℕ) → MayTakePort net (IsLandmarkBound net landmarks stretch) order (slice_index labels u) d p ↔ Marks row d
  marks_may p hop own theirs row whole rest at are d =
      let there = named.there u hu in (
        (λ take.
            let end : ℕ = slice_index order d in
            let hd = named.node d take.0 in
            let leads = subst (λ (x : ℕ). LeadsWithin net bound x end p) there take.1 in
            let same : leads.0 ≡ hop = cc (leads.3, at) in
            let of = subst (λ (h : Hop). bound h.node end leads.1 × (h.weight + leads.1 ≤ leads.2)) same (leads.4, leads.6) in
            let from = landmark_bound_one net ok landmarks stretch hop.node end (slice_index theirs end) leads.1 (rest.each end hd) of.0 in
            let all = landmark_bound_one net ok landmarks stretch u end (slice_index own end) leads.2 (whole.each end hd) leads.5 in
            (are.marks d take.0).1 (omega (arith, of.1, from, all))),
        (λ m.
            elim (cases_lt d (node_count net)) [
              | inl l ↦
                  let hd = named.node d l in
                  let le = (are.marks d l).0 m in (
                    l,
                    subst (λ (x : ℕ). LeadsWithin net bound x (slice_index order d) p) (sym there)
                        (hop, slice_index theirs (slice_index order d), slice_index own (slice_index order d), at, rest.each (slice_index order d) hd, whole.each (slice_index order d) hd, le),
                  )
              | inr past ↦
                  let none : slice_index_or row d false ≡ false = get_or_past row d false (let e = are.every in omega (arith, e, past)) in
                  absurd (let bad : false ≡ true = sym none ∙ m in cc bad)
            ]),
      )

  -- what a label may take is a port of u
  pub no_port_past : (d q : ℕ) → length (ports_of net u) ≤ q → MayTakePort net (IsLandmarkBound net landmarks stretch) order (slice_index labels u) d q → ⊥
  no_port_past d q past take =
      let leads = subst (λ (x : ℕ). LeadsWithin net bound x (slice_index order d) q) (named.there u hu) take.1 in
      let within = slice_get_within (ports_of net u) q leads.0 leads.3 in
      omega (arith, within, past)

-- what a label may take, where it is known to be one
module _ (net : Topology) (bound : ℕ → ℕ → ℕ → Type 0) (order : List ℕ) (a : ℕ) (ha : a < node_count net) where
  pub may_choices : AreChoices (node_count net) a (MayLead net bound order a) → AreChoices (node_count net) a (MayTakePort net bound order a)
  may_choices leads = record {
    has_own = leads.has_own;
    some = λ d hd ne. let w = leads.some d hd ne in (w.0, (hd, w.1));
  }

  pub chosen_of_may : (ports : List (Option ℕ)) → AreChosen (node_count net) a (MayTakePort net bound order a) ports → AreChosen (node_count net) a (MayLead net bound order a) ports
  chosen_of_may ports chosen =
      choices_same (node_count net) a (MayTakePort net bound order a) (MayLead net bound order a) ha
      (λ d p hd ne. ((λ take. take.1), (λ leads. (hd, leads)))) ports chosen

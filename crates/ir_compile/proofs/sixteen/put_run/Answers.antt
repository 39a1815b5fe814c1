use Rattle.std.proofs.Common.{◌≡◌, ◌+◌, ◌-◌, ◌<◌, ◌≤◌, ℕ, List, length, replicate, slice_index, ap, sym, ◌∙◌, inl, inr, arith}
use Rattle.std.specs.Simd.Lanes.{put_chunk}
use Rattle.std.proofs.lemmas.Bool.{cases_lt}
use Rattle.std.proofs.lemmas.Simd.{length-put_chunk, get_or-put_chunk_below, get_or-put_chunk_at, get_or-replicate}
use Rattle.ir_compile.proofs.sixteen.put_run.Goals as goal

pub loop-at-preserved : goal.loop-at-preserved
loop-at-preserved c =
    let v = c.loop-at.invariant in
    let at : ℕ = c.loop-at.at in
    let port : ℕ = c.args.port in
    let places : List ℕ = c.loop-at.places in
    let lanes : List ℕ = replicate 16 port in
    let more = c.loop-at-test.true in
    let every = v.every in
    let further = v.further in
    let room : at + 16 ≤ length places = let r = c.requires.room in omega (arith, r, every, more) in
    record {
      further = omega (arith, further);
      near = omega (arith, more);
      every = length-put_chunk at places lanes ∙ every;
      put = λ k l b.
          elim (cases_lt k at) [
            | inl below ↦ get_or-put_chunk_below at places lanes k 0 below ∙ v.put k l below
            | inr behind ↦
                let j : ℕ = k - at in
                let is : at + j ≡ k = omega (arith, behind) in
                let j_in : j < 16 = omega (arith, b, is) in
                ap (λ (x : ℕ). slice_index (put_chunk at places lanes) x) (sym is) ∙ get_or-put_chunk_at at places lanes j 0 j_in room ∙ get_or-replicate 16 j port 0 j_in
          ];
      kept = λ k l. get_or-put_chunk_below at places lanes k 0 (omega (arith, l, further)) ∙ v.kept k l;
    }

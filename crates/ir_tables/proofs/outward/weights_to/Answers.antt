use Rattle.std.proofs.Common.{◌≤◌, ℕ, List, length, subst, sym}
use Rattle.std.proofs.lemmas.Result.{IfOk-weaker}
use Rattle.ir_tables.specs.Relaxation.{at, IsRelaxed}
use Rattle.ir_tables.specs.Keys.{AreKeys, AreWeightsIn, no_key}
use Rattle.ir_tables.proofs.KeysOut.{keys_relaxed}
use Rattle.ir_tables.proofs.outward.weights_to.Goals as goal

pub weights_in-requires : goal.weights_in-requires
weights_in-requires c =
    subst (λ (ks : List ℕ). (v : ℕ) → at ks v ≤ no_key) (sym c.as_slice.ensures.value) c.in_ok-keys.ensures.ways.below

pub returns : goal.returns
returns c =
    let keys : List ℕ = c.in_ok-keys.keys.items in
    let are : AreKeys c.args.topology.now c.args.d keys = c.in_ok-keys.ensures in
    IfOk-weaker c.weights_in.result (λ weights. AreWeightsIn c.as_slice.result.now weights.items (length c.as_slice.result.now))
    (λ weights. IsRelaxed c.args.topology.now c.args.d weights.items)
    (λ weights in_keys. keys_relaxed c.args.topology.now c.invariant.ensures.topology c.args.d c.requires keys are weights.items
    (subst (λ (ks : List ℕ). AreWeightsIn ks weights.items (length ks)) c.as_slice.ensures.value in_keys)) c.weights_in.ensures

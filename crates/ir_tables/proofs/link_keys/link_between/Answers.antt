use Rattle.std.proofs.Common.{◌≡◌, ◌*◌, ℕ, arith, rules, ltb, min, max}
use Rattle.std.proofs.lemmas.List.Sorted.{IsPartitionPoint-from_clause, IsPartitionedBy-ltb}
use Rattle.ir_tables.specs.Numbered.{ends_key}
use Rattle.ir_tables.proofs.LinkKeys.{link_found, no_link}
use Rattle.ir_tables.proofs.link_keys.link_between.Goals as goal
use Rattle.ir_tables.proofs.link_keys.link_between.Goals.{else-place-keys-via-then-place-keys+else-keys-place, else-place-keys-via-else-place-keys}

pub returns-then-keys-place : goal.returns-then-keys-place
returns-then-keys-place c =
    let ends : c.ends_key-ends.result ≡ ends_key (min c.args.u c.args.v) (max c.args.u c.args.v) = omega (arith, c.ends_key-ends.ensures, c.min.ensures, c.max.ensures) in
    let point = IsPartitionPoint-from_clause (λ y. ltb y (c.ends_key-ends.result * 131072)) c.args.keys.now c.partition_point-place.result c.partition_point-place.ensures.partitioned
    (IsPartitionedBy-ltb (λ (x : ℕ). x) c.args.keys.now (c.ends_key-ends.result * 131072) c.requires.keys.rising) (λ a r q k. search rules) in
    link_found c.args.links.now c.args.keys.now c.requires.few c.requires.ordered c.requires.keys c.args.u c.args.v c.ends_key-ends.result c.partition_point-place.result ends point
    c.ranges.u.fits c.ranges.v.fits c.if-place-keys.true c.if-keys-place.true

pub returns : goal.returns
returns c =
    let ends : c.ends_key-ends.result ≡ ends_key (min c.args.u c.args.v) (max c.args.u c.args.v) = omega (arith, c.ends_key-ends.ensures, c.min.ensures, c.max.ensures) in
    let point = IsPartitionPoint-from_clause (λ y. ltb y (c.ends_key-ends.result * 131072)) c.args.keys.now c.partition_point-place.result c.partition_point-place.ensures.partitioned
    (IsPartitionedBy-ltb (λ (x : ℕ). x) c.args.keys.now (c.ends_key-ends.result * 131072) c.requires.keys.rising) (λ a r q k. search rules) in
    no_link c.args.links.now c.args.keys.now c.requires.few c.requires.ordered c.requires.keys c.args.u c.args.v c.ends_key-ends.result c.partition_point-place.result ends point
    (λ within. elim c.else-place-keys.branch [
      | else-place-keys-via-then-place-keys+else-keys-place w ↦ w.if-keys-place.false
      | else-place-keys-via-else-place-keys w ↦ absurd (omega (arith, within, w.if-place-keys.false))
    ])

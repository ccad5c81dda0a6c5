use Rattle.std.proofs.Common.{◌-◌, ◌^◌, refl, rules, arith}
use Rattle.std.specs.Prelude.{nat_le, nat_lt}
use Rattle.std.proofs.lemmas.Bool.{le-ltb}
use Rattle.std.proofs.lemmas.List.{get_or_default}
use Rattle.std.proofs.lemmas.List.Sums.{count_by-le-length}
use Rattle.quorum_sets.proofs.Quorums.Counts.{count_by-zero}
use Rattle.quorum_sets.proofs.Quorums.CommittedIndex.{IsCommittedOf-alone, IsCommittedOf-committed_of, reached-0}
use Rattle.quorum_sets.proofs.commit.committed_of.Goals as goal

pub tries-init : goal.tries-init
tries-init c =
    let indexes = c.args.indexes.now in
    let above = count_by-zero (nat_lt (2 ^ 64 - 1)) indexes (λ k d within. rw (get_or_default indexes k d 0 within) (le-ltb _ _ (omega (arith, c.type_inv.indexes k)))) in
    record { order = omega arith; reached = reached-0 indexes (search rules); not_passed = omega (arith, above) }

pub returns-clause-index : goal.returns-clause-index
returns-clause-index c =
    let indexes = c.args.indexes.now in
    let between = c.tries.invariant in
    IsCommittedOf-alone indexes _ _ (record {
      of_none = λ none. absurd (omega (arith, none, between.reached, count_by-le-length (nat_le c.tries.least) indexes));
      reached = λ some. between.reached;
      not_passed = λ some. omega (arith, between.not_passed, c.in_default.ensures.none refl);
    }) (IsCommittedOf-committed_of indexes)

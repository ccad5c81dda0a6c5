use Rattle.std.proofs.Common.{◌≡◌, ◌<◌, ◌==◌, ℕ, List, cond, length, rules, nat_lt, ap, arith}
use Rattle.std.specs.List.{Contains}
use Rattle.std.proofs.lemmas.Bool.Decides.{nat_tests}
use Rattle.std.proofs.lemmas.List.Sorted.{IsPartitionPoint-from_clause}
use Rattle.std.proofs.lemmas.Option.{MatchOption-at_none}
use Rattle.quorum_sets.specs.Committed.{Acks, acked_index}
use Rattle.quorum_sets.specs.Chart.{IsRanking, ranked, bar_width}
use Rattle.quorum_sets.proofs.Quorums.ChartBars.{first_id, bar_width-first}
use Rattle.quorum_sets.proofs.Quorums.SortedRows.{rows-partitioned}
use Rattle.quorum_sets.proofs.charts.width_of_bar.Goals as goal
use Rattle.quorum_sets.proofs.charts.width_of_bar.Goals.{After-partition_point-position}

by_first : (c : After-partition_point-position) (ids : List ℕ) (acks : Acks) → IsRanking ids acks c.args.ranking.now → Contains ids c.args.id → c.args.index ≡ acked_index acks c.args.id
    → (c.partition_point-position.result < length c.args.ranking.now)
    × (bar_width ids acks c.args.id ≡ cond (first_id c.args.id acks c.args.ranking.now c.partition_point-position.result == c.args.id) c.partition_point-position.result 0)
by_first c ids acks ranking among is =
    let parted = IsPartitionPoint-from_clause (λ r. nat_lt r.0 c.args.index) _ _ c.partition_point-position.ensures.partitioned (rows-partitioned _ c.args.index ranking.ascends) (λ a r q k. search rules) in
    let within = c.partition_point-position.ensures.bound in
    bar_width-first ids acks _ c.args.id _ ranking among (omega arith) (rw is at parted)

pub returns-in-Some-clause-width : goal.returns-in-Some-clause-width
returns-in-Some-clause-width c ids acks ranking among is =
    let bar = by_first (goal.at.returns-in-Some-clause-width c).After-partition_point-position ids acks ranking among is in
    let here = c.in-Some.ensures.lookup.4 (omega arith) (ranked acks c.args.id) in
    grind (arith, nat_tests, bar.1, ap (λ r. r.1) here, c.if-first-id.true)

pub returns-in_default-clause-width : goal.returns-in_default-clause-width
returns-in_default-clause-width c ids acks ranking among is =
    let bar = by_first (goal.at.returns-in_default-clause-width c).After-partition_point-position ids acks ranking among is in
    let here = c.in-Some.ensures.lookup.4 (omega arith) (ranked acks c.args.id) in
    grind (arith, nat_tests, bar.1, ap (λ r. r.1) here, c.if-first-id.false)

pub returns-in_default-2-clause-width : goal.returns-in_default-2-clause-width
returns-in_default-2-clause-width c ids acks ranking among is =
    let bar = by_first (goal.at.returns-in_default-2-clause-width c).After-partition_point-position ids acks ranking among is in
    absurd (omega (arith, bar.0, MatchOption-at_none _ _ c.in_default.is c.get.ensures.lookup.3))

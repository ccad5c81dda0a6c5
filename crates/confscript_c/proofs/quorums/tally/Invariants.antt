use Rattle.std.proofs.Common.{◌≡◌, ◌≤◌, false, true, map, take}
use Rattle.std.specs.Prelude.{count_by, unwrap_or}
use Rattle.confscript_c.specs.Quorums.{ballot}
use Rattle.confscript_c.proofs.quorums.tally.Given as goal

abbrev pub invariant-loop-byte : goal.invariant-loop-byte
invariant-loop-byte l = record {
  yes : l.yes_votes ≡ count_by (λ vote. unwrap_or vote false) (map ballot (take l.byte-index l.votes));
  possible : l.possible_yes_votes ≡ count_by (λ vote. unwrap_or vote true) (map ballot (take l.byte-index l.votes));
  few_yes : l.yes_votes ≤ l.byte-index;
  few_possible : l.possible_yes_votes ≤ l.byte-index;
}

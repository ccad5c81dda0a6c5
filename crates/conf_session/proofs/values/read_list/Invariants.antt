use Rattle.std.proofs.Common.{◌≡◌, ◌++◌, filter_map, length}
use Rattle.conf_session.specs.Parameter.{all_read}
use Rattle.conf_session.proofs.values.read_list.Given as goal

-- what is read so far, and the values that are left
abbrev pub invariant-loop-value : goal.invariant-loop-value
invariant-loop-value g l = record {
  all : all_read g.T.Listed.reads l.values ≡ all_read g.T.Listed.reads l.argument.values;
  list : l.list.items ++ filter_map g.T.Listed.reads l.values ≡ l.initial.list.items ++ filter_map g.T.Listed.reads l.argument.values;
}

abbrev pub decreases-loop-value : goal.decreases-loop-value
decreases-loop-value g l = length l.values

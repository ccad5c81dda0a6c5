use Rattle.std.proofs.Common.{◌≡◌, false, [], ◌++◌, drop, option_map}
use Rattle.serde_json.specs.View.{items_view}
use Rattle.raft_json.specs.MemberListJson.{conf_state_of_members, learners_among, members_from, voters_among}
use Rattle.raft_json.proofs.member_list_json.conf_state_of_member_list.Given as goal

-- the voters and learners so far are before those of the other items
abbrev pub invariant-loop-item : goal.invariant-loop-item
invariant-loop-item l =
    option_map conf_state_of_members (members_from (items_view l.item-items)) ≡ option_map (λ more. record {
      voters = l.voters.items ++ voters_among more;
      voters_outgoing = [];
      learners = l.learners.items ++ learners_among more;
      learners_next = [];
      auto_leave = false;
    }) (members_from (items_view (drop l.item-index l.item-items)))

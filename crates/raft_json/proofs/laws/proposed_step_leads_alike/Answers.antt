use Rattle.std.proofs.Common.{refl, ◌∙◌}
use Rattle.raft_json.proofs.Proposals.{simple-proposed, enter-proposed, simple-named, enter-named}
use Rattle.raft_json.proofs.laws.proposed_step_leads_alike.Goals as goal

pub returns : goal.returns
returns c = record {
  simple = simple-proposed;
  one = λ before change. refl;
  enter = λ before after auto_leave changes e. enter-proposed before auto_leave changes ∙ e;
  leave = λ before. refl;
  simple_named = simple-named;
  enter_named = enter-named;
}

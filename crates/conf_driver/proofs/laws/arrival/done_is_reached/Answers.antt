use Rattle.std.proofs.Common.{refl}
use Rattle.conf_driver.specs.Next.{next_of, situation}
use Rattle.conf_driver.proofs.Chains.{hopeful-answered, hopeful-last, last-answer}
use Rattle.conf_driver.proofs.Hopes.{stuck-not}
use Rattle.conf_driver.proofs.StuckBy.{IsStuckBy-from_answer}
use Rattle.conf_driver.proofs.Ways.{steps_to}
use Rattle.conf_driver.proofs.Moments.{AreKept}
use Rattle.conf_driver.proofs.laws.arrival.done_is_reached.Goals as goal

pub returns-clause-never_stuck : goal.returns-clause-never_stuck
returns-clause-never_stuck c strategy target down now why ids moment hopeful is =
    let kept : AreKept = record {
      counted = record { fits = c.most_down_by_counting.ensures.fits; commits = c.most_down_by_counting.ensures.commits; fewer = c.fewer_uncounted_tolerate_more.ensures };
      anew = record { shorter = c.next_path_is_shorter.ensures.shorter; has_path = c.next_path_is_shorter.ensures.has_path; valid = c.next_path_is_shorter.ensures.valid };
      leads = c.one_change_each_leads.ensures;
      promises = c.paths_keep_promises.ensures.promises;
    } in
    stuck-not kept strategy target down now why ids moment hopeful (IsStuckBy-from_answer (situation strategy target down now.view) (steps_to strategy target down now.view.conf_state) why ids is)

pub returns-clause-goes_on : goal.returns-clause-goes_on
returns-clause-goes_on c = hopeful-answered (record {
  counted = record { fits = c.most_down_by_counting.ensures.fits; commits = c.most_down_by_counting.ensures.commits; fewer = c.fewer_uncounted_tolerate_more.ensures };
  anew = record { shorter = c.next_path_is_shorter.ensures.shorter; has_path = c.next_path_is_shorter.ensures.has_path; valid = c.next_path_is_shorter.ensures.valid };
  leads = c.one_change_each_leads.ensures;
  promises = c.paths_keep_promises.ensures.promises;
})

pub returns-clause-ends : goal.returns-clause-ends
returns-clause-ends c strategy target down now last answers moment hopeful are end =
    let kept : AreKept = record {
      counted = record { fits = c.most_down_by_counting.ensures.fits; commits = c.most_down_by_counting.ensures.commits; fewer = c.fewer_uncounted_tolerate_more.ensures };
      anew = record { shorter = c.next_path_is_shorter.ensures.shorter; has_path = c.next_path_is_shorter.ensures.has_path; valid = c.next_path_is_shorter.ensures.valid };
      leads = c.one_change_each_leads.ensures;
      promises = c.paths_keep_promises.ensures.promises;
    } in
    let there = hopeful-last kept strategy target down now last answers moment hopeful are in
    last-answer kept strategy target down last (next_of strategy target down last.view) there.0 there.1 refl end

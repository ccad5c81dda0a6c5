use Rattle.std.proofs.Common.{◌≡◌, ℕ, ◌<◌, true, [], ◌∷◌, arith}
use Rattle.quorum_sets.specs.Ids.{Ids, has, size}
use Rattle.quorum_sets.proofs.Offered.{has-ids_of}
use Rattle.conf_driver.specs.IdSets.{◌∖◌, just}
use Rattle.conf_driver.specs.declared.action.WaitReason.TheVariants.{Heard}
use Rattle.conf_driver.proofs.Chains.{at_most, moment-answered, nearer-answered}
use Rattle.conf_driver.proofs.IdsByMember.{has-without, in-without}
use Rattle.conf_driver.proofs.Possible.{possible}
use Rattle.conf_driver.proofs.Said.{said}
use Rattle.conf_driver.proofs.Sizes.{size-less}
use Rattle.conf_driver.proofs.Moments.{AreKept}
use Rattle.conf_driver.proofs.laws.arrival.answers_bring_done_nearer.Goals as goal

pub returns-clause-moment : goal.returns-clause-moment
returns-clause-moment c = moment-answered (record {
  counted = record { fits = c.most_down_by_counting.ensures.fits; commits = c.most_down_by_counting.ensures.commits; fewer = c.fewer_uncounted_tolerate_more.ensures };
  anew = record { shorter = c.next_path_is_shorter.ensures.shorter; has_path = c.next_path_is_shorter.ensures.has_path; valid = c.next_path_is_shorter.ensures.valid };
  leads = c.one_change_each_leads.ensures;
  promises = c.paths_keep_promises.ensures.promises;
})

pub returns-clause-nearer : goal.returns-clause-nearer
returns-clause-nearer c = nearer-answered (record {
  counted = record { fits = c.most_down_by_counting.ensures.fits; commits = c.most_down_by_counting.ensures.commits; fewer = c.fewer_uncounted_tolerate_more.ensures };
  anew = record { shorter = c.next_path_is_shorter.ensures.shorter; has_path = c.next_path_is_shorter.ensures.has_path; valid = c.next_path_is_shorter.ensures.valid };
  leads = c.one_change_each_leads.ensures;
  promises = c.paths_keep_promises.ensures.promises;
})

pub returns-clause-at_most : goal.returns-clause-at_most
returns-clause-at_most c = at_most (record {
  counted = record { fits = c.most_down_by_counting.ensures.fits; commits = c.most_down_by_counting.ensures.commits; fewer = c.fewer_uncounted_tolerate_more.ensures };
  anew = record { shorter = c.next_path_is_shorter.ensures.shorter; has_path = c.next_path_is_shorter.ensures.has_path; valid = c.next_path_is_shorter.ensures.valid };
  leads = c.one_change_each_leads.ensures;
  promises = c.paths_keep_promises.ensures.promises;
})

pub returns-clause-possible : goal.returns-clause-possible
returns-clause-possible c strategy target down now answer moment is not_done not_stuck not_heard =
    let kept : AreKept = record {
      counted = record { fits = c.most_down_by_counting.ensures.fits; commits = c.most_down_by_counting.ensures.commits; fewer = c.fewer_uncounted_tolerate_more.ensures };
      anew = record { shorter = c.next_path_is_shorter.ensures.shorter; has_path = c.next_path_is_shorter.ensures.has_path; valid = c.next_path_is_shorter.ensures.valid };
      leads = c.one_change_each_leads.ensures;
      promises = c.paths_keep_promises.ensures.promises;
    } in
    possible kept strategy target down now answer moment (said kept strategy target down now.view answer moment.can is) not_done not_stuck not_heard

-- a set is smaller without one of its ids
less-without : (ids : Ids) (id : ℕ) → has ids id ≡ true → size (ids ∖ just id) < size ids
less-without ids id here = size-less (ids ∖ just id) ids id (λ q given. (in-without ids (just id) q given).0) here (grind (arith, has-without ids (just id) id, has-ids_of (id ∷ []) id))

pub returns-clause-heard : goal.returns-clause-heard
returns-clause-heard c strategy target down view ids id is here = less-without down id (c.waits_name_who_lacks_what.ensures.named strategy target down view Heard ids id is here).0

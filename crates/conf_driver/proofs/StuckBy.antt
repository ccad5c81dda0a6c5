-- Why an answer says that the target is not reached.
use Rattle.std.proofs.Common.{◌≡◌, true, false, not, List, [], ◌∷◌, sym, ap, ◌∙◌}
use Rattle.std.proofs.lemmas.Bool.{not-true}
use Rattle.quorum_sets.specs.Ids.{Ids, is_empty}
use Rattle.quorum_sets.specs.Voters.{is_quorum}
use Rattle.conf_change.specs.Configuration.{member_ids, voters_of}
use Rattle.conf_change.specs.declared.step.Step.{Step}
use Rattle.conf_driver.specs.IdSets.{◌∪◌, ◌∩◌, ◌∖◌}
use Rattle.conf_driver.specs.Next.{answer_in, propose_first}
use Rattle.conf_driver.specs.View.{voter_ids}
use Rattle.conf_driver.specs.declared.action.Action.TheVariants.{Stuck}
use Rattle.conf_driver.specs.declared.action.StuckReason.{StuckReason}
use Rattle.conf_driver.specs.declared.action.StuckReason.TheVariants.{QuorumLost, Stalls, Reused}
use Rattle.conf_driver.specs.Situation.{Situation}
use Rattle.conf_driver.proofs.FirstRow.{by_rows}
use Rattle.conf_driver.proofs.RowAnswers.{if_any-some, when-some}
use Rattle.conf_driver.proofs.RowsPassed.{quorum-passed}

-- the row that says so
pub data IsStuckBy (s : Situation) (why : StuckReason) (ids : Ids) : Type 0 where
  ByQuorum : why ≡ QuorumLost → is_quorum (voters_of s.before) (s.voters ∖ s.down) ≡ false → (s.voters ∩ s.down) ≡ ids → IsStuckBy s why ids
  ByStall : why ≡ Stalls → is_quorum (voters_of s.before) (s.voters ∖ s.down) ≡ true → s.stalls ≡ true → IsStuckBy s why ids
  ByReuse : why ≡ Reused → is_empty ids ≡ false → ((member_ids s.target ∖ s.voters) ∩ s.retired) ≡ ids → IsStuckBy s why ids

stuck_not_last : {P : Type 0} (steps : List Step) (why : StuckReason) (ids : Ids) → propose_first steps ≡ Stuck why ids → P
stuck_not_last [] why ids is = absurd (cc)
stuck_not_last (step ∷ steps) why ids is = absurd (cc)

same_stuck : (a b : StuckReason) (x y : Ids) → Stuck a x ≡ Stuck b y → (a ≡ b) × (x ≡ y)
same_stuck a b x y is = (cc, cc)

pub IsStuckBy-from_answer : (s : Situation) (steps : List Step) (why : StuckReason) (ids : Ids) → answer_in s steps ≡ Stuck why ids → IsStuckBy s why ids
IsStuckBy-from_answer s steps why ids is = by_rows (IsStuckBy s why ids) s steps (Stuck why ids) (
  λ here.
      let given = when-some (not (is_quorum (voters_of s.before) (s.voters ∖ s.down))) (Stuck QuorumLost (s.voters ∩ s.down)) (Stuck why ids) here in
      let same = same_stuck QuorumLost why (s.voters ∩ s.down) ids given.1 in
      ByQuorum (sym same.0) (not-true _ given.0) same.1,
  λ counts heard leaderless nonvoter dropped pending. (
    λ here.
        let given = when-some s.stalls (Stuck Stalls (s.down ∩ (s.voters ∪ voter_ids s.target))) (Stuck why ids) here in
        let same = same_stuck Stalls why _ ids given.1 in
        ByStall (sym same.0) (quorum-passed s counts) given.0,
    λ stalls. (
      λ here.
          let set = (member_ids s.target ∖ s.voters) ∩ s.retired in
          let given = if_any-some set (Stuck Reused) (Stuck why ids) here in
          let same = same_stuck Reused why set ids given.1 in
          ByReuse (sym same.0) (ap is_empty (sym same.1) ∙ given.0) same.1,
      λ reused started stopped leaving leads lags target new behind quorum silent last. stuck_not_last steps why ids last,
    ),
  ),
) is

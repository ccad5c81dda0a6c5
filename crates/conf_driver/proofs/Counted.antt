-- What is said of counting, in one, and a quorum of which no voter is lost.
use Rattle.std.proofs.Common.{◌≡◌, ℕ, true, sym, ◌∙◌, inl, inr}
use Rattle.std.proofs.lemmas.Bool.{both_ways, cases_Bool}
use Rattle.quorum_sets.specs.Ids.{Ids, has}
use Rattle.quorum_sets.specs.Voters.{is_quorum}
use Rattle.conf_change.specs.Configuration.{Configuration, voters_of}
use Rattle.conf_driver.specs.IdSets.{◌∖◌}
use Rattle.conf_driver.specs.View.{voter_ids}
use Rattle.conf_driver.proofs.Counting.{Commits, FewerTolerateMore, Fits, Tolerates-from_commits, commits-from_Tolerates, is_quorum-up}
use Rattle.conf_driver.proofs.IdsByMember.{has-without-is, in-without}

pub record IsCounted : Type 0 where
  pub fits : Fits
  pub commits : Commits
  pub fewer : FewerTolerateMore

pub quorum-of_more : IsCounted → (c : Configuration) (some more : Ids) → ((q : ℕ) → has (voter_ids c) q ≡ true → has some q ≡ true → has more q ≡ true)
    → is_quorum (voters_of c) some ≡ true → is_quorum (voters_of c) more ≡ true
quorum-of_more counted c some more stays quorum =
    is_quorum-up c more ∙ commits-from_Tolerates counted.fits counted.commits (voters_of c) (voter_ids c ∖ more)
    (counted.fewer (voters_of c) (voter_ids c ∖ more) (voter_ids c ∖ some) 0 (λ q voter here.
    let parts = in-without (voter_ids c) more q here in
    has-without-is (voter_ids c) some q parts.0 (elim (cases_Bool (has some q)) [
      | inl counts ↦ absurd (both_ways _ parts.1 (stays q parts.0 counts))
      | inr other ↦ other
    ]))
    (Tolerates-from_commits counted.fits counted.commits (voters_of c) (voter_ids c ∖ some) (sym (is_quorum-up c some) ∙ quorum)))

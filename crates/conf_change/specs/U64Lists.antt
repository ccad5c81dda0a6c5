-- Configurations whose ids are numbers of 64 bits, as all are that a program reads or makes.
use Rattle.std.specs.Prelude.{◌<◌, ◌^◌, All}
use Rattle.quorum_sets.specs.Ids.{ascending}
use Rattle.conf_change.specs.Configuration.{Configuration}

-- the ids of a configuration are numbers of 64 bits
pub record HasU64Lists (c : Configuration) : Type 0 where
  pub incoming : All (λ id. id < 2 ^ 64) (ascending c.incoming)
  pub outgoing : All (λ id. id < 2 ^ 64) (ascending c.outgoing)
  pub learners : All (λ id. id < 2 ^ 64) (ascending c.learners)
  pub learners_next : All (λ id. id < 2 ^ 64) (ascending c.learners_next)

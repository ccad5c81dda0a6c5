-- The printed texts of configurations, progress and refusals, as etcd's packages `tracker` and `confchange` print them.
use Rattle.std.specs.Prelude.{ℕ, Bool, not, List, [], ◌++◌, map, codes, decimal, if◌then◌else◌}
use Rattle.std.specs.List.{join_with_byte}
pub use Rattle.ascii_text.specs.Append.{Extends}
use Rattle.quorum_sets.specs.Ids.{Ids, ascending, is_empty}
use Rattle.conf_change.specs.Configuration.{Configuration, is_joint}
use Rattle.conf_change.specs.ChangeList.{BadToken, unknown_token, unknown_input, bad_number}
use Rattle.conf_change.specs.declared.progress.Progress.{Progress}
use Rattle.conf_change.specs.declared.refused.Refused.{Refused}
use Rattle.conf_change.specs.declared.refused.Refused.TheVariants.{AlreadyJoint, ZeroVoterJoint, NotJoint, SimpleInJoint, RemovedAllVoters, MoreThanOneVoter, NoMemory}

-- a part of a text that may be left out
abbrev pub text_if : Bool → List ℕ → List ℕ
text_if there text = if there then text else []

-- numbers, separated by one space
abbrev pub spaced_numbers : List ℕ → List ℕ
spaced_numbers numbers = join_with_byte 32 (map decimal numbers)

-- a set, as (1 2 3)
abbrev pub set_text : Ids → List ℕ
set_text ids = codes "(" ++ spaced_numbers (ascending ids) ++ codes ")"

-- a configuration, in one line, as voters=(2 3)&&(1 2) learners=(4)
abbrev pub config_text : Configuration → List ℕ
config_text c =
    codes "voters=" ++ set_text c.incoming
    ++ text_if (is_joint c) (codes "&&" ++ set_text c.outgoing)
    ++ text_if (not (is_empty c.learners)) (codes " learners=" ++ set_text c.learners)
    ++ text_if (not (is_empty c.learners_next)) (codes " learners_next=" ++ set_text c.learners_next)
    ++ text_if c.auto_leave (codes " autoleave")

-- a member and its progress, in one line, as 4: StateProbe match=0 next=1 learner
abbrev pub progress_text : ℕ → Progress → List ℕ
progress_text id p =
    decimal id ++ codes ": StateProbe match=" ++ decimal p.matched ++ codes " next=" ++ decimal p.next
    ++ text_if p.learner (codes " learner")

-- the message of a refusal (that of NoMemory is own)
abbrev pub refused_text : Refused → List ℕ
refused_text AlreadyJoint = codes "config is already joint"
refused_text ZeroVoterJoint = codes "can't make a zero-voter config joint"
refused_text NotJoint = codes "can't leave a non-joint config"
refused_text SimpleInJoint = codes "can't apply simple config change in joint config"
refused_text RemovedAllVoters = codes "removed all voters"
refused_text MoreThanOneVoter = codes "more than one voter changed without entering joint config"
refused_text NoMemory = codes "out of memory"

-- the message of a bad token (that of a bad number is own)
abbrev pub bad_token_text : BadToken → List ℕ
bad_token_text (unknown_token token) = codes "unknown token " ++ token
bad_token_text (unknown_input token) = codes "unknown input: " ++ token
bad_token_text (bad_number token) = codes "bad number: " ++ token

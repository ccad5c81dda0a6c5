use Rattle.std.proofs.Common.{subst}
use Rattle.conf_change.specs.ConfState.{Describes, lists_of}
use Rattle.conf_change.proofs.Configurations.DescribedByLists.{Describes-lists_of, Describes-same}
use Rattle.conf_change.proofs.Texts.PrintedConfig.{config_in-ok, DenotesConfig-from_some, DenotesConfig-same}
use Rattle.conf_change.proofs.Texts.PrintedText.{DenotesConfig-printed}
use Rattle.conf_change.proofs.laws.one_config_per_text.Goals as goal

pub returns-clause-some : goal.returns-clause-some
returns-clause-some c = λ text saved. (config_in-ok text saved, DenotesConfig-from_some text saved)

pub returns-clause-one : goal.returns-clause-one
returns-clause-one c = DenotesConfig-same

pub returns-clause-printed : goal.returns-clause-printed
returns-clause-printed c = DenotesConfig-printed

pub returns-clause-no_other : goal.returns-clause-no_other
returns-clause-no_other c = λ printed other saved small denotes described.
    let same = DenotesConfig-same _ saved (lists_of printed) denotes (DenotesConfig-printed printed small) in
    Describes-same (lists_of printed) other printed (subst (λ lists. Describes lists other) same described) (Describes-lists_of printed)

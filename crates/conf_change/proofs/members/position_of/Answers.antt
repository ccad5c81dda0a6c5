use Rattle.std.proofs.Common.{rules}
use Rattle.std.proofs.lemmas.List.Sorted.{answers_always}
use Rattle.conf_change.proofs.MemberProgress.Entries.{search-in_entries}
use Rattle.conf_change.proofs.members.position_of.Goals as goal

pub returns : goal.returns
returns g c =
    search-in_entries c.args.members.now c.args.id c.binary_search_by_key.result c.requires c.binary_search_by_key.ensures.bound
    (c.binary_search_by_key.ensures.position (λ m. m.0) (answers_always _ _ _ (λ f a r next called. search rules)))

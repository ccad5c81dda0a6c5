use Rattle.std.proofs.Common.{◌≡◌, ℕ, List, Bor, ap, sym, ◌∙◌, slice_get, arith}
use Rattle.std.specs.Prelude.{Option, Some, None}
use Rattle.std.specs.Option.{option_copied}
use Rattle.std.specs.Slice.{IsItemAt}
use Rattle.std.proofs.lemmas.Option.{slice_get_past, slice_get-get_or}
use Rattle.quorum_sets.proofs.KeptSets.AscendingList.{list-at}
use Rattle.quorum_sets.proofs.inline_ids.InlineIdsMemberSet.at.Goals as goal

copied_item : (xs : List ℕ) (i : ℕ) (r : Option (Bor ℕ)) → IsItemAt xs i r → option_copied r ≡ slice_get xs i
copied_item xs i None item = sym (slice_get_past xs i item.3)
copied_item xs i (Some x) item = ap Some (item.3.1 0) ∙ sym (slice_get-get_or xs i 0 item.3.0)

pub returns : goal.returns
returns c = grind (arith, c.copied.ensures, copied_item _ c.args.position _ c.get.ensures.lookup, c.as_slice.ensures, list-at c.self.inside.list.items c.args.position c.self.invariant.ascends, c.self.view_is)

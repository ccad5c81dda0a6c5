use Rattle.std.proofs.Common.{◌≡◌, sym, ap, ◌∙◌}
use Rattle.std.specs.Prelude.{Some, None, option_copied, slice_get}
use Rattle.conf_change.proofs.Offered.{item-copied}
use Rattle.conf_session.specs.Quorum.{known}
use Rattle.conf_session.proofs.QuorumValues.{value-here, value-nowhere}
use Rattle.conf_session.proofs.values_by_id.ValuesById.value_of.Goals as goal

pub returns-in-Some : goal.returns-in-Some
returns-in-Some g c =
    let s = c.args.self.now in
    let there : slice_get c.deref.result.now c.in-Ok.position ≡ Some c.in-Some.value.now = sym (item-copied c.deref.result.now c.in-Ok.position c.get.result c.get.ensures.lookup) ∙ ap option_copied c.in-Some.is in
    c.unwrap_or.ensures ∙ sym (value-here s.ids.items c.as_slice.result.now s.values.items c.deref.result.now c.args.id c.in-Ok.position _ s.ascends c.as_slice.ensures.value c.deref.ensures.value c.in-Ok.ensures there)

pub returns-in-None : goal.returns-in-None
returns-in-None g c =
    let s = c.args.self.now in
    let none : slice_get c.deref.result.now c.in-Ok.position ≡ None = sym (item-copied c.deref.result.now c.in-Ok.position c.get.result c.get.ensures.lookup) ∙ ap option_copied c.in-None.is in
    sym (value-here s.ids.items c.as_slice.result.now s.values.items c.deref.result.now c.args.id c.in-Ok.position _ s.ascends c.as_slice.ensures.value c.deref.ensures.value c.in-Ok.ensures none)

pub returns-in-Err : goal.returns-in-Err
returns-in-Err g c =
    let s = c.args.self.now in sym (value-nowhere s.ids.items c.as_slice.result.now (known s.values.items) c.args.id c.in-Err.field-0 c.as_slice.ensures.value c.in-Err.ensures)

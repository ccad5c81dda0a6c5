use Rattle.std.proofs.Common.{◌≡◌, sym, ap, subst, ◌∙◌}
use Rattle.conf_change.specs.ConfState.{ConfStateLists, Describes, lists_of}
use Rattle.conf_change.proofs.Configurations.DescribedByLists.{Describes-lists_of}
use Rattle.conf_change.proofs.saved_configuration.conf_state.Goals as goal

pub returns-clause-describes : goal.returns-clause-describes
returns-clause-describes g c =
    let state : ConfStateLists = record {
      voters = c.in_ok-list_of.field-0.items;
      voters_outgoing = c.in_ok-list_of-2.field-0.items;
      learners = c.in_ok-list_of-3.field-0.items;
      learners_next = c.in_ok-list_of-4.field-0.items;
      auto_leave = c.config.inside.auto_leave;
    } in
    let is : state ≡ lists_of c.args.config.now =
    (λ i. record {
      voters = c.in_ok-list_of.ensures i;
      voters_outgoing = c.in_ok-list_of-2.ensures i;
      learners = c.in_ok-list_of-3.ensures i;
      learners_next = c.in_ok-list_of-4.ensures i;
      auto_leave = c.config.inside.auto_leave;
    }) ∙ ap lists_of c.config.view_is in
    let Described : ConfStateLists → Type 0 = λ s. Describes s c.args.config.now in
    subst Described (sym is) (Describes-lists_of c.args.config.now)

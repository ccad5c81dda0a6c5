use Rattle.std.proofs.Common.{◌≡◌, refl, subst}
use Rattle.conf_change.specs.Configuration.{Configuration}
use Rattle.conf_change.specs.Change.{result_of}
use Rattle.conf_change.specs.Edits.{with_voters_out}
use Rattle.conf_change.proofs.ListsOfChanges.EditedTracker.{configuration-edited}
use Rattle.conf_change.proofs.config.Config.become_edited.Goals as goal

pub returns : goal.returns
returns g c = λ changes are.
    let own = g.S.MemberSet.ids in
    let out = own c.args.outgoing.now in
    let made : Configuration = record {
      incoming = own c.try_clone_edited.new.self;
      outgoing = own c.try_clone_from.new.self;
      learners = own c.try_clone_edited-2.new.self;
      learners_next = own c.try_clone_edited-3.new.self;
      auto_leave = c.args.auto_leave;
    } in
    let before : Configuration = record {
      incoming = own c.before-2.inside.incoming;
      outgoing = own c.before-2.inside.outgoing;
      learners = own c.before-2.inside.learners;
      learners_next = own c.before-2.inside.learners_next;
      auto_leave = c.before-2.inside.auto_leave;
    } in
    let P : Configuration → Type 0 = λ b. made ≡ result_of (with_voters_out b out c.args.auto_leave) changes in
    subst P c.before-2.view_is
    (configuration-edited before made out c.args.auto_leave changes c.args.edits.now are c.in_ok-try_clone_edited.ensures c.in_ok-try_clone_from.ensures.ok
    c.in_ok-try_clone_edited-2.ensures c.in_ok-try_clone_edited-3.ensures refl)

use Rattle.std.proofs.Common.{◌≡◌, sym, subst, ◌∙◌, ap, arith, true, ◌&&◌, Result, Ok, Err, None, IsErrAnd, MatchResult}
use Rattle.std.proofs.lemmas.Grind.{common_steps}
use Rattle.conf_change.specs.ConfState.{restored}
use Rattle.conf_change.specs.declared.restore.RestoreFault.{RestoreFault}
use Rattle.conf_change.specs.declared.restore.RestoreFault.TheVariants.{NotAConfiguration}
use Rattle.conf_change.proofs.Configurations.DescribedByLists.{restored-none}
use Rattle.conf_change.specs.Configuration.{is_valid, is_restorable}
use Rattle.conf_change.specs.Changer.{IsSound, TrackerState, begun_with, tracker_of}
use Rattle.conf_change.specs.Progress.{all_fresh}
use Rattle.conf_change.proofs.Steps.Soundness.{begun_with-is_sound}
use Rattle.conf_change.proofs.changer.Changer.restore_with_floor.Goals as goal

pub begin-requires-2 : goal.begin-requires-2
begin-requires-2 g c =
    let valid : is_valid c.in_ok-config.config ≡ true = c.check.ensures.valid.0 (grind (arith, common_steps)) in
    let voter = sym c.has_voter_or_is_empty.ensures ∙ c.if-not-has_voter_or_is_empty.false in
    let restorable : is_restorable c.in_ok-config.config ≡ true = λ i. valid i && voter i in
    let begun : c.begin.result ≡ (begun_with c.args.floor c.args.last_index c.in_ok-config.config).tracker =
    c.begin.ensures ∙ ap (tracker_of c.args.floor c.in_ok-config.config) (c.in_ok-progress.ensures.fresh ∙ ap (λ next. all_fresh next c.in_ok-config.config) c.fresh_next.ensures) in
    let P : TrackerState → Type 0 = IsSound in
    subst P (sym begun) (begun_with-is_sound c.args.floor c.args.last_index c.in_ok-config.config restorable)

refused : {A : Type 0} (r : Result A RestoreFault) (fault : RestoreFault) (P : A → Type 0) (Q : RestoreFault → Type 0) → IsErrAnd r (λ e. e ≡ fault) → Q fault → MatchResult r P Q
refused (Ok x) fault P Q h q = absurd h
refused (Err e) fault P Q h q = subst Q (sym h) q

pub returns-in_err-config-clause-as_function : goal.returns-in_err-config-clause-as_function
returns-in_err-config-clause-as_function g c =
    refused c.from_residual.result c.in_err-config.field-0.0 _ (λ fault. fault ≡ NotAConfiguration → restored c.args.state.now ≡ None) c.from_residual.ensures.1
    (λ e. restored-none c.args.state.now (λ d described _. c.in_err-config.ensures.refused (ap Err e) d described))

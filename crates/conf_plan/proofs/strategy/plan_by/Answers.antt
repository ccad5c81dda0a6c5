use Rattle.std.proofs.Common.{◌≡◌, ℕ, true, refl, sym, ap, subst, ◌∙◌, arith}
use Rattle.std.proofs.lemmas.Grind.{common_steps}
use Rattle.std.proofs.lemmas.Bool.{cond-true}
use Rattle.std.specs.Prelude.{option_copied, option_map}
use Rattle.quorum_sets.specs.Ids.{Ids, no_ids, size}
use Rattle.conf_change.specs.Configuration.{Configuration, is_same, is_valid}
use Rattle.conf_plan.specs.PathBy.{has_path, ids_down, KeepsPromises}
use Rattle.conf_plan.specs.Run.{IsValidWithVoter}
use Rattle.conf_plan.specs.declared.strategy.Strategy.{Strategy}
use Rattle.conf_plan.specs.declared.strategy.Strategy.TheVariants.{Shortest, LearnersFirst, OneAtATime}
use Rattle.conf_plan.proofs.OnTheWay.EachStrategy.{path_by-keeps_promises}
use Rattle.conf_plan.proofs.PlannedSteps.Cases.{has_voter-from_count}
use Rattle.conf_plan.proofs.strategy.plan_by.Goals as goal

valid_with_voter : (c : Configuration) (incoming : Ids) (count : ℕ) → is_valid c ≡ true → incoming ≡ c.incoming → count ≡ size incoming → (count ≡ 0 → ⊥) → IsValidWithVoter c
valid_with_voter c incoming count valid is counted some = record { valid = valid; voter = has_voter-from_count c count (counted ∙ ap size is) some }

-- a configuration has a path to itself
stays : (strategy : Strategy) (now target : Configuration) → is_same now target ≡ true → has_path strategy now target ≡ true
stays Shortest now target same = refl
stays LearnersFirst now target same = refl
stays OneAtATime now target same = rw same refl

pub returns-then-same-clause-promises : goal.returns-then-same-clause-promises
returns-then-same-clause-promises g c =
    let now = c.args.now.now in
    let target = c.args.target.now in
    let down = ids_down (option_map g.S.MemberSet.ids (option_copied c.args.down)) in
    let same = sym c.same.ensures.same ∙ c.if-same.true in
    subst (λ path. KeepsPromises c.args.strategy down now path target) (cond-true (is_same now target) _ _ same ∙ sym (c.of_steps.ensures ∙ c.new.ensures.items))
    (path_by-keeps_promises c.args.strategy down now target
    (valid_with_voter now _ c.len.result c.requires.valid_now (ap (λ d. d.incoming) c.now.view_is) c.len.ensures c.if-len-eq0.false)
    (valid_with_voter target _ c.len-2.result c.requires.valid_target (ap (λ d. d.incoming) c.target.view_is) c.len-2.ensures c.if-len-eq0-2.false)
    (stays c.args.strategy now target same))

pub returns-in_ok-path_to-in-Some-clause-promises : goal.returns-in_ok-path_to-in-Some-clause-promises
returns-in_ok-path_to-in-Some-clause-promises g c =
    let now = c.args.now.now in
    let target = c.args.target.now in
    rw (c.in_ok-path_to-in-Some.ensures, c.in-Some.is)
    (path_by-keeps_promises c.args.strategy (g.S.MemberSet.ids c.in-Some.down.now) now target
    (valid_with_voter now _ c.len.result c.requires.valid_now (ap (λ d. d.incoming) c.now.view_is) c.len.ensures c.if-len-eq0.false)
    (valid_with_voter target _ c.len-2.result c.requires.valid_target (ap (λ d. d.incoming) c.target.view_is) c.len-2.ensures c.if-len-eq0-2.false)
    (grind (arith, common_steps)))

pub returns-in_ok-path_to-in-None-clause-promises : goal.returns-in_ok-path_to-in-None-clause-promises
returns-in_ok-path_to-in-None-clause-promises g c =
    let now = c.args.now.now in
    let target = c.args.target.now in
    rw (c.in_ok-path_to-in-None.ensures, c.empty.ensures, c.in-None.is)
    (path_by-keeps_promises c.args.strategy no_ids now target
    (valid_with_voter now _ c.len.result c.requires.valid_now (ap (λ d. d.incoming) c.now.view_is) c.len.ensures c.if-len-eq0.false)
    (valid_with_voter target _ c.len-2.result c.requires.valid_target (ap (λ d. d.incoming) c.target.view_is) c.len-2.ensures c.if-len-eq0-2.false)
    (grind (arith, common_steps)))

use Rattle.std.proofs.Common.{◌≡◌, ℕ, List, refl, sym, ap, ◌∙◌, inr}
use Rattle.std.proofs.lemmas.Result.{err_from_is_err_and}
use Rattle.std.specs.Prelude.{Some, Ok, Err}
use Rattle.conf_change.specs.Configuration.{Configuration}
use Rattle.plan_input.specs.Input.{target_in}
use Rattle.plan_input.specs.Nonmember.{first_nonmember}
use Rattle.conf_tool.specs.Pairs.{not_member, of_members, paired, pair_between, pair_from, written_at}
use Rattle.conf_tool.specs.declared.origin.Origin.{Origin}
use Rattle.conf_tool.specs.declared.pair.Current.{Current}
use Rattle.conf_tool.specs.declared.plan_options.PlanOptions.{PlanOptions}
use Rattle.conf_tool.proofs.Modes.Plan.{pair-bad}
use Rattle.conf_tool.proofs.pair_reading.target_of.Goals as goal

pub returns-in_err-target-clause-fault : goal.returns-in_err-target-clause-fault
returns-in_err-target-clause-fault c =
    let p = err_from_is_err_and c.from_residual.result c.from_residual.ensures.1 in
    rw (p.1, p.2) (pair-bad c.args.options.now c.args.origin c.args.text.now c.args.current.now _ c.in_err-target.ensures.fault)

-- an id that is down and not a member is an error of the pair
has-nonmember : (options : PlanOptions) (origin : Origin) (text : List ℕ) (current : Current) (target : Configuration) (id : ℕ) → written_at origin (target_in current.config text) ≡ Ok target
    → first_nonmember options.down current.config target ≡ Some id → pair_from options origin text current ≡ Err (not_member origin id)
has-nonmember options origin text current target id read is =
    ap (paired options origin current) read
    ∙ ap (λ nonmember. of_members origin nonmember (pair_between current target)) is

pub returns-in-Some-clause-fault : goal.returns-in-Some-clause-fault
returns-in-Some-clause-fault c =
    let current = c.args.current.now in
    let target = c.in_ok-target.target in
    let is = ap (λ down. first_nonmember down current.config target) (sym c.as_ref.ensures.value) ∙ sym c.first_nonmember.ensures ∙ c.in-Some.is in
    inr (c.not_member.result, refl, has-nonmember c.args.options.now c.args.origin c.args.text.now current target c.in-Some.id c.in_ok-target.ensures.configuration is ∙ ap Err (sym c.not_member.ensures))

use Rattle.std.proofs.Common.{◌≡◌, ℕ, rules, tests, refl, sym, ap, ◌∙◌}
use Rattle.std.specs.Prelude.{Option, Some, None, find, option_copied, option_map}
use Rattle.std.proofs.lemmas.Iterator.{YieldsList-from_slice}
use Rattle.std.proofs.lemmas.Iterator.Consumers.{YieldsList-from_copied}
use Rattle.std.proofs.lemmas.Iterator.Search.{find_from_yields_List}
use Rattle.plan_input.specs.Nonmember.{is_nonmember, first_nonmember}
use Rattle.plan_input.proofs.nonmember.first_nonmember.Goals as goal

same : (id : Option ℕ) → id ≡ option_map (λ x. x) id
same None = refl
same (Some id) = refl

pub returns-in-Some : goal.returns-in-Some
returns-in-Some c =
    let is = is_nonmember c.args.now.now c.args.target.now in
    same c.find.result
    ∙ find_from_yields_List is _ _ c.find.result c.find.ensures.ran (YieldsList-from_copied (YieldsList-from_slice c.as_slice.result.now (cc))) (λ x b q k. search (rules, tests))
    ∙ ap (find is) c.as_slice.ensures.ids ∙ ap (λ down. first_nonmember (option_copied down) c.args.now.now c.args.target.now) (sym c.in-Some.is)

-- Rows that do not answer.
use Rattle.std.proofs.Common.{◌≡◌, Bool, true, false, List, [], ◌∷◌, ◌++◌, refl, ap, ◌∙◌}
use Rattle.std.specs.Prelude.{Option, Some, None, if◌then◌else◌}
use Rattle.std.proofs.lemmas.Bool.{cond-false, cond-true}
use Rattle.quorum_sets.specs.Ids.{Ids, is_empty}
use Rattle.conf_driver.specs.Rows.{first_of, if_any, when}
use Rattle.conf_driver.specs.declared.action.Action.{Action}

pub if-none : (test : Bool) (given : Option Action) → test ≡ false → (if test then given else None) ≡ None
if-none test given fails = cond-false test given None fails

pub unless-none : (test : Bool) (given : Option Action) → test ≡ true → (if test then None else given) ≡ None
unless-none test given holds = cond-true test None given holds

pub if-both_none : (test : Bool) (given : Option Action) → given ≡ None → (if test then given else None) ≡ None
if-both_none true given is = is
if-both_none false given is = refl

pub when-false : (test : Bool) (a : Action) → test ≡ false → when test a ≡ None
when-false test a fails = if-none test (Some a) fails

pub if_any-empty : (ids : Ids) (answer : Ids → Action) → is_empty ids ≡ true → if_any ids answer ≡ None
if_any-empty ids answer none_left = unless-none (is_empty ids) (Some (answer ids)) none_left

-- rows that do not answer are left out
abbrev pub AllNone : List (Option Action) → Type 0
AllNone [] = Unit {0}
AllNone (given ∷ rows) = (given ≡ None) × AllNone rows

pub left_out : (before after : List (Option Action)) → AllNone before → first_of (before ++ after) ≡ first_of after
left_out [] after none = refl
left_out (given ∷ before) after none = ap (λ r. first_of (r ∷ before ++ after)) none.0 ∙ left_out before after none.1

pub none-answers : (rows : List (Option Action)) → AllNone rows → first_of rows ≡ None
none-answers [] none = refl
none-answers (given ∷ rows) none = ap (λ r. first_of (r ∷ rows)) none.0 ∙ none-answers rows none.1

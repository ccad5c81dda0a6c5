-- Changes that are read one after another.
use Rattle.std.proofs.Common.{◌≡◌, ℕ, ◌+◌, ◌<◌, List, [], ◌∷◌, ◌++◌, length, drop, get_or, refl, sym, ap, ◌∙◌, append_assoc}
use Rattle.std.specs.Prelude.{Some, None, Result, Ok, Err}
use Rattle.std.proofs.lemmas.List.{drop_more}
use Rattle.conf_change.specs.declared.change.Change.{Change}
use Rattle.conf_change.specs.declared.change.Kind.{Kind}
use Rattle.confscript_c.specs.Answer.{status_answer}
use Rattle.confscript_c.specs.Stepped.{change_before, changes_from, kind_of_number}
use Rattle.confscript_c.specs.declared.answer.Answer.{Answer}
use Rattle.confscript_c.specs.declared.stepping.NumberedChange.{NumberedChange}
use Rattle.confscript_c.specs.declared.status.Status.TheVariants.{BadChange}

-- changes, and those after them
abbrev pub joined : List Change → Result (List Change) Answer → Result (List Change) Answer
joined first (Ok rest) = Ok (first ++ rest)
joined first (Err why) = Err why

one_more : (position id : ℕ) (kind : Kind) (first : List Change) (rest : Result (List Change) Answer)
    → joined first (change_before position id (Some kind) rest) ≡ joined (first ++ record { kind = kind; id = id } ∷ []) rest
one_more position id kind first (Ok rest) = ap Ok (sym (append_assoc first (record { kind = kind; id = id } ∷ []) rest))
one_more position id kind first (Err why) = refl

-- the change at an index has a kind
pub joined-kind : (numbered : List NumberedChange) (k : ℕ) (d : NumberedChange) (kind : Kind) (first : List Change) → k < length numbered → kind_of_number (get_or numbered k d).kind ≡ Some kind
    → joined first (changes_from (k + 1) (drop k numbered)) ≡ joined (first ++ record { kind = kind; id = (get_or numbered k d).id } ∷ []) (changes_from (k + 1 + 1) (drop (k + 1) numbered))
joined-kind numbered k d kind first within is =
    let rest = changes_from (k + 1 + 1) (drop (k + 1) numbered) in
    ap (λ xs. joined first (changes_from (k + 1) xs)) (drop_more numbered k d within)
    ∙ ap (λ o. joined first (change_before (k + 1) (get_or numbered k d).id o rest)) is ∙ one_more (k + 1) (get_or numbered k d).id kind first rest

-- it has none
pub joined-no_kind : (numbered : List NumberedChange) (k : ℕ) (d : NumberedChange) (first : List Change) → k < length numbered → kind_of_number (get_or numbered k d).kind ≡ None
    → joined first (changes_from (k + 1) (drop k numbered)) ≡ Err (status_answer BadChange (k + 1))
joined-no_kind numbered k d first within none =
    ap (λ xs. joined first (changes_from (k + 1) xs)) (drop_more numbered k d within)
    ∙ ap (λ o. joined first (change_before (k + 1) (get_or numbered k d).id o (changes_from (k + 1 + 1) (drop (k + 1) numbered)))) none

-- The rows of a table, stage by stage.
use Rattle.std.proofs.Common.{◌≡◌, ℕ, ◌+◌, ◌<◌, ◌||◌, ◌==◌, List, [], ◌∷◌, ◌++◌, length, take, drop, get_or, sym, ap, ◌∙◌, append_assoc}
use Rattle.std.specs.Prelude.{Option, flat_map}
use Rattle.std.specs.List.{list_any}
use Rattle.std.proofs.lemmas.List.{drop_more, take_more, append-nil}
use Rattle.std.proofs.lemmas.List.Concat.{flat_map-append}
use Rattle.std.proofs.lemmas.List.Folds.{list_any-append}
use Rattle.quorum_sets.specs.Ids.{Ids, has, union}
use Rattle.quorum_sets.proofs.Offered.{has-ids_of, has-same_ids, has-union}
use Rattle.conf_change.specs.Configuration.{members}
use Rattle.conf_change.specs.declared.step.Step.{Step}
use Rattle.conf_change.proofs.Offered.{any-members, has-all_members}
use Rattle.plan_output.specs.Stages.{StageState}
use Rattle.plan_output.specs.Table.{row, rows_of, stage_name, ids_on_the_way}

-- one more row, and those after it
pub rows_of-next : (name : ℕ → List ℕ) (ids : List ℕ) (down : Option Ids) (steps : List Step) (i : ℕ) (stage : StageState) (all : List StageState)
    (so_far : List (List (List ℕ))) → i < length all → stage ≡ get_or all i stage
    → (so_far ++ row name ids down (stage_name name steps i) stage ∷ []) ++ rows_of name ids down steps (i + 1) (drop (i + 1) all)
    ≡ so_far ++ rows_of name ids down steps i (drop i all)
rows_of-next name ids down steps i stage all so_far within is =
    append_assoc so_far _ _
    ∙ sym (ap (λ more. so_far ++ rows_of name ids down steps i more) (drop_more all i stage within ∙ ap (λ s. s ∷ drop (i + 1) all) (sym is)))

-- the members of one more stage
pub ids_on_the_way-one_more : (all : List StageState) (i : ℕ) (stage : StageState) (so_far : Ids) → i < length all → stage ≡ get_or all i stage → so_far ≡ ids_on_the_way (take i all)
    → union so_far (union (union stage.config.incoming stage.config.outgoing) stage.config.learners) ≡ ids_on_the_way (take (i + 1) all)
ids_on_the_way-one_more all i stage so_far within is so_far_is =
    let of = λ (s : StageState). members s.config in
    let added = union (union stage.config.incoming stage.config.outgoing) stage.config.learners in
    let listed : flat_map of (take (i + 1) all) ≡ flat_map of (take i all) ++ members stage.config =
    ap (flat_map of) (take_more all i stage within ∙ ap (λ s. take i all ++ s ∷ []) (sym is)) ∙ flat_map-append of (take i all) (stage ∷ [])
    ∙ ap (λ more. flat_map of (take i all) ++ more) (append-nil (members stage.config)) in
    has-same_ids _ _ (λ q.
    has-union so_far added q
    ∙ (λ k. (ap (λ s. has s q) so_far_is ∙ has-ids_of (flat_map of (take i all)) q) k || (has-all_members stage.config q ∙ sym (any-members stage.config q)) k)
    ∙ sym (list_any-append (λ x. q == x) (flat_map of (take i all)) (members stage.config))
    ∙ sym (ap (list_any (λ x. q == x)) listed)
    ∙ sym (has-ids_of (flat_map of (take (i + 1) all)) q))

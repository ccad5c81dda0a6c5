-- Items that a session runs, and that are appended with their actual outputs.
use Rattle.std.proofs.Common.{◌≡◌, ℕ, ◌+◌, ◌≤◌, List, [], ◌∷◌, ◌++◌, map, take, length, refl, sym, ◌∙◌, ap, arith}
use Rattle.std.specs.Prelude.{Result, Ok, Err, OnOk, Some, slice_get, codes}
use Rattle.std.proofs.lemmas.List.{append_assoc, append-nil, take_all}
use Rattle.dd_file.specs.Rewritten.{entry_text}
use Rattle.dd_file.specs.Items.{Item}
use Rattle.conf_change.specs.declared.step.Step.{Step}
use Rattle.quorum_sets.proofs.Offered.{take-one_more}
use Rattle.conf_session.specs.SessionState.{SessionState}
use Rattle.conf_tool.specs.Reports.{session_after_all, actual_for, session_after, answered_text}
use Rattle.conf_tool.specs.UndoScript.{step_directive, comment, step_items}

pub ok-by : {T E P Q : Type 0} (r : Result T E) → (P → Q) → OnOk r P → OnOk r Q
ok-by (Ok x) f p = f p
ok-by (Err e) f p = tt

pub session-append : (s : SessionState) (xs ys : List Item) → session_after_all s (xs ++ ys) ≡ session_after_all (session_after_all s xs) ys
session-append s [] ys = refl
session-append s (x ∷ xs) ys = session-append (session_after s x) xs ys

pub text-append : (s : SessionState) (xs ys : List Item) → answered_text s (xs ++ ys) ≡ answered_text s xs ++ answered_text (session_after_all s xs) ys
text-append s [] ys = refl
text-append s (x ∷ xs) ys =
    ap (λ t. entry_text x (actual_for s x) ++ t) (text-append (session_after s x) xs ys)
    ∙ sym (append_assoc (entry_text x (actual_for s x)) (answered_text (session_after s x) xs) (answered_text (session_after_all (session_after s x) xs) ys))

-- the session ran these items, and appended them
pub record Appended (s now : SessionState) (old new : List ℕ) (items : List Item) : Type 0 where
  pub session : now ≡ session_after_all s items
  pub text : new ≡ old ++ answered_text s items

pub appended-nothing : (s : SessionState) (old : List ℕ) → Appended s s old old []
appended-nothing s old = record { session = refl; text = sym (append-nil old) }

-- some items, and then more
pub appended-more : (s mid now : SessionState) (old between new : List ℕ) (xs ys : List Item) → Appended s mid old between xs → now ≡ session_after_all mid ys → new ≡ between ++ answered_text mid ys → Appended s now old new (xs ++ ys)
appended-more s mid now old between new xs ys first session text = record {
  session = session ∙ ap (λ u. session_after_all u ys) first.session ∙ sym (session-append s xs ys);
  text = text ∙ ap (λ t. t ++ answered_text mid ys) first.text ∙ append_assoc old (answered_text s xs) (answered_text mid ys)
      ∙ ap (λ u. old ++ (answered_text s xs ++ answered_text u ys)) first.session ∙ ap (λ t. old ++ t) (sym (text-append s xs ys));
}

-- ---- the directives of steps
-- the directives of the steps up to a position
abbrev pub directives : List Step → ℕ → List Item
directives plan index = map step_directive (take index plan)

map-append : (xs ys : List Step) → map step_directive (xs ++ ys) ≡ map step_directive xs ++ map step_directive ys
map-append [] ys = refl
map-append (x ∷ xs) ys = ap (λ t. step_directive x ∷ t) (map-append xs ys)

pub directives-more : (plan : List Step) (index : ℕ) (step : Step) → slice_get plan index ≡ Some step → directives plan (index + 1) ≡ directives plan index ++ step_directive step ∷ []
directives-more plan index step here = ap (map step_directive) (take-one_more plan index step here) ∙ map-append (take index plan) (step ∷ [])

pub no-steps : (plan : List Step) → length plan ≡ 0 → step_items plan ≡ comment (codes "nothing to do") ∷ []
no-steps plan none = grind arith

some-steps : (plan : List Step) → (length plan ≡ 0 → ⊥) → step_items plan ≡ map step_directive plan
some-steps plan some = grind arith

pub all-steps : (plan : List Step) (index : ℕ) → (length plan ≡ 0 → ⊥) → length plan ≤ index → directives plan index ≡ step_items plan
all-steps plan index some past = ap (map step_directive) (take_all index plan past) ∙ sym (some-steps plan some)

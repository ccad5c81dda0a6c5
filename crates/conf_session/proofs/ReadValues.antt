-- What one more argument adds to the values that are read.
use Rattle.std.proofs.Common.{◌≡◌, ℕ, ◌+◌, ◌≤◌, take, drop, Bool, true, false, cond, List, [], ◌∷◌, ◌++◌, filter_map, refl, sym, ap, ◌∙◌, subst, arith}
use Rattle.std.specs.Prelude.{Option, Some, None, option_map, option_and_then, unwrap_or, IsSomeAnd, Ok, bytes_eq, slice_get}
use Rattle.std.specs.Option.{option_or}
use Rattle.std.specs.List.{find, list_any}
use Rattle.std.proofs.lemmas.Bool.Decides.{nat_tests}
use Rattle.std.proofs.lemmas.List.Folds.{find-append}
use Rattle.std.proofs.lemmas.Slice.Eq.{bytes_eq-Decides}
use Rattle.ascii_text.specs.Number.{number_in}
use Rattle.dd_file.specs.DirectiveLine.{ArgumentText}
use Rattle.quorum_sets.proofs.Offered.{take-one_more}
use Rattle.conf_change.specs.declared.transition.Transition.TheVariants.{Auto}
use Rattle.conf_session.proofs.QuorumValues.{drop-here}
use Rattle.conf_session.specs.Arguments.{parameter_of, has_key, is_good, first_bad, bad_argument, missing_argument, argument_of}
use Rattle.conf_session.specs.Parameter.{key_of, at_least, flag_in, transition_in, number_from, id_in, index_in, vote_in}
use Rattle.conf_session.specs.Values.{Values, values_in, with_more, HasMore, values_read, read_arguments}
use Rattle.conf_session.specs.declared.parameter.Parameter.{Parameter}
use Rattle.conf_session.specs.declared.parameter.Parameter.TheVariants.{AutoLeave, Transition as TransitionAsked, Steps, Id, Index, Incoming, Outgoing, Indexes, Votes}

-- ---- what is found
find-none : {X : Type 0} (p : X → Bool) (xs : List X) → list_any p xs ≡ false → find p xs ≡ None
find-none p [] e = refl
find-none p (x ∷ xs) e = grind (arith, find-none p xs)

find-some : {X : Type 0} (p : X → Bool) (xs : List X) (x : X) → find p xs ≡ Some x → p x ≡ true
find-some p [] x e = cc
find-some p (y ∷ ys) x e = grind (arith, find-some p ys x)

or-none : {X : Type 0} (o : Option X) → option_or o None ≡ o
or-none o = grind arith

-- ---- one more argument, whose key is new
-- the values, by the argument of each parameter
abbrev values_by : (Parameter → Option ArgumentText) → Values
values_by argument = record {
  auto_leave = unwrap_or (option_and_then (λ a. flag_in a.values) (argument AutoLeave)) false;
  transition = unwrap_or (option_and_then (λ a. transition_in a.values) (argument TransitionAsked)) Auto;
  steps = unwrap_or (option_and_then (λ a. number_from 1 a.values) (argument Steps)) 1;
  id = unwrap_or (option_and_then (λ a. number_from 1 a.values) (argument Id)) 0;
  index = unwrap_or (option_and_then (λ a. number_from 0 a.values) (argument Index)) 0;
  incoming = unwrap_or (option_map (λ a. filter_map id_in a.values) (argument Incoming)) [];
  outgoing = unwrap_or (option_map (λ a. filter_map id_in a.values) (argument Outgoing)) [];
  indexes = unwrap_or (option_map (λ a. filter_map index_in a.values) (argument Indexes)) [];
  votes = unwrap_or (option_map (λ a. filter_map vote_in a.values) (argument Votes)) [];
}

-- the argument of each parameter, where that of `p` is this one
abbrev with_own : Parameter → Option ArgumentText → (Parameter → Option ArgumentText) → Parameter → Option ArgumentText
with_own p own argument q = cond (bytes_eq (key_of p) (key_of q)) own (argument q)

own-more : (p : Parameter) (argument : Parameter → Option ArgumentText) (a : ArgumentText) → values_by (with_own p (Some a) argument) ≡ with_more (values_by (with_own p None argument)) p a.values
own-more p argument a = grind arith

none-before : (p q : Parameter) (before : List ArgumentText) (a : ArgumentText) → a.key ≡ key_of p → has_key before a.key ≡ false → bytes_eq (key_of p) (key_of q) ≡ true → argument_of q before ≡ None
none-before p q before a key new same =
    find-none _ before (ap (has_key before) (sym (key ∙ (bytes_eq-Decides (key_of p) (key_of q)).0 same)) ∙ new)

argument-before : (p q : Parameter) (before : List ArgumentText) (a : ArgumentText) → a.key ≡ key_of p → has_key before a.key ≡ false → argument_of q before ≡ with_own p None (λ r. argument_of r before) q
argument-before p q before a key new = at (bytes_eq (key_of p) (key_of q)) refl where
  at : (b : Bool) → bytes_eq (key_of p) (key_of q) ≡ b → argument_of q before ≡ cond b None (argument_of q before)
  at true is = none-before p q before a key new is
  at false is = refl

argument-after : (p q : Parameter) (before : List ArgumentText) (a : ArgumentText) → a.key ≡ key_of p → has_key before a.key ≡ false → argument_of q (before ++ a ∷ []) ≡ with_own p (Some a) (λ r. argument_of r before) q
argument-after p q before a key new =
    find-append (λ x. bytes_eq x.key (key_of q)) before (a ∷ [])
    ∙ ap (λ k. option_or (argument_of q before) (cond (bytes_eq k (key_of q)) (Some a) None)) key
    ∙ at (bytes_eq (key_of p) (key_of q)) refl
  where
    at : (b : Bool) → bytes_eq (key_of p) (key_of q) ≡ b → option_or (argument_of q before) (cond b (Some a) None) ≡ cond b (Some a) (argument_of q before)
    at true is = ap (λ o. option_or o (Some a)) (none-before p q before a key new is)
    at false is = or-none (argument_of q before)

values-more : (p : Parameter) (before : List ArgumentText) (a : ArgumentText) → a.key ≡ key_of p → has_key before a.key ≡ false → values_in (before ++ a ∷ []) ≡ with_more (values_in before) p a.values
values-more p before a key new =
    (λ i. values_by (λ q. argument-after p q before a key new i))
    ∙ own-more p (λ q. argument_of q before) a
    ∙ sym (λ i. with_more (values_by (λ q. argument-before p q before a key new i)) p a.values)

pub HasMore-values : (ps : List Parameter) (args : List ArgumentText) (i : ℕ) (a : ArgumentText) (old new : Values) → slice_get args i ≡ Some a → old ≡ values_in (take i args) → has_key (take i args) a.key ≡ false →
    HasMore old ps a new → new ≡ values_in (take (i + 1) args)
HasMore-values ps args i a old new here same fresh more = at (parameter_of ps a) refl more ∙ ap values_in (sym (take-one_more args i a here)) where
  at : (o : Option Parameter) → parameter_of ps a ≡ o → IsSomeAnd o (λ p. new ≡ with_more old p a.values) → new ≡ values_in (take i args ++ a ∷ [])
  at None e h = absurd h
  at (Some p) e h =
      h ∙ ap (λ v. with_more v p a.values) same
      ∙ sym (values-more p (take i args) a ((bytes_eq-Decides a.key (key_of p)).0 (find-some (λ p. bytes_eq a.key (key_of p)) ps p e)) fresh)

-- ---- an argument is good, or bad
pub bad-here : (ps : List Parameter) (args : List ArgumentText) (i : ℕ) (a : ArgumentText) → slice_get args i ≡ Some a → first_bad ps (take i args) (drop i args) ≡ bad_argument ps args →
    is_good ps (take i args) a ≡ false → Some a.key ≡ bad_argument ps args
bad-here ps args i a here so_far bad = grind (arith, drop-here)

pub good-here : (ps : List Parameter) (args : List ArgumentText) (i : ℕ) (a : ArgumentText) → slice_get args i ≡ Some a → first_bad ps (take i args) (drop i args) ≡ bad_argument ps args →
    is_good ps (take i args) a ≡ true → first_bad ps (take (i + 1) args) (drop (i + 1) args) ≡ bad_argument ps args
good-here ps args i a here so_far good =
    ap (λ before. first_bad ps before (drop (i + 1) args)) (take-one_more args i a here)
    ∙ sym (ap (first_bad ps (take i args)) (drop-here args i a here) ∙ ap (λ b. cond b (first_bad ps (take i args ++ a ∷ []) (drop (i + 1) args)) (Some a.key)) good) ∙ so_far

-- ---- at least one change is undone
some-read : (read : Option ℕ) → 1 ≤ unwrap_or (option_and_then (at_least 1) read) 1
some-read read = grind (arith, nat_tests)

some-values : (values : List (List ℕ)) → 1 ≤ unwrap_or (number_from 1 values) 1
some-values [] = omega arith
some-values (first ∷ []) = some-read (number_in first)
some-values (first ∷ second ∷ values) = omega arith

some-argument : (argument : Option ArgumentText) → 1 ≤ unwrap_or (option_and_then (λ argument. number_from 1 argument.values) argument) 1
some-argument None = omega arith
some-argument (Some argument) = some-values argument.values

pub steps-some : (ps : Option (List Parameter)) (arguments : List ArgumentText) (values : Values) → read_arguments ps arguments ≡ Ok values → 1 ≤ values.steps
steps-some None arguments values e = grind arith
steps-some (Some ps) arguments values e = at (bad_argument ps arguments) (missing_argument ps arguments) e where
  at : (bad : Option (List ℕ)) (missing : Option Parameter) → values_read bad missing (values_in arguments) ≡ Ok values → 1 ≤ values.steps
  at (Some key) missing e = cc
  at None (Some parameter) e = cc
  at None None e =
      let same : values_in arguments ≡ values = cc in let AtLeastOne : Values → Type 0 = λ v. 1 ≤ v.steps in subst AtLeastOne same (some-argument (argument_of Steps arguments))

-- That the line after the first steps goes in with the rest of them.
use Rattle.std.proofs.Common.{◌≡◌, ℕ, ◌+◌, ◌<◌, ◌^◌, true, ◌||◌, ◌⊎◌, inl, inr, List, [], ◌∷◌, ◌++◌, Option, Some, None, Ok, Err, refl, sym, ap, subst, ◌∙◌, arith}
use Rattle.std.specs.Prelude.{◌↔◌, ◌==◌, count_by}
use Rattle.std.specs.List.{All, AllZip, list_any}
use Rattle.std.proofs.lemmas.Bool.{cases_lt, or_cases, or_left, or_right, eqb-true}
use Rattle.std.proofs.lemmas.Cmp.{nat_eq_equiv}
use Rattle.std.proofs.lemmas.List.Elements.{All-head, All-tail}
use Rattle.std.proofs.lemmas.List.Sums.{sum_by-cons}
use Rattle.std.proofs.lemmas.Map.Views.{All-from_any}
use Rattle.quorum_sets.specs.Ids.{Ids, has, ascending}
use Rattle.quorum_sets.proofs.Offered.{has-ascending, has-ids_of}
use Rattle.conf_change.specs.Change.{names}
use Rattle.conf_change.specs.Configuration.{Configuration, is_restorable}
use Rattle.conf_change.specs.ConfState.{ConfStateLists, Describes, Lists, lists_of, restored}
use Rattle.conf_change.specs.ConfStateLine.{ParsesToNumbers, conf_state_in, conf_state_text}
use Rattle.conf_change.specs.Outcome.{Outcome, outcome}
use Rattle.conf_change.specs.Step.{changes_of}
use Rattle.conf_change.specs.declared.change.Change.{Change}
use Rattle.conf_change.specs.declared.step.Step.{Step}
use Rattle.conf_change.proofs.Offered.{DenotesConfState-from_some, DenotesConfState-printed, ParsesToNumbers-spaced, conf_state_in-ok}
use Rattle.conf_plan.specs.Best.{times_named, is_in}
use Rattle.conf_plan.specs.PlanCode.{path_in}
use Rattle.conf_plan.specs.PlanSteps.{HasU64Ids}
use Rattle.conf_plan.specs.Run.{IsRun}
use Rattle.confscript_c.specs.Applied.{applied, apply_result, restored_of, restored_one, steps_result, then_result}
use Rattle.confscript_c.specs.InputLines.{read_as}
use Rattle.confscript_c.specs.Written.{OutResult}
use Rattle.confscript_c.proofs.PlanLeads.{steps_result-run}

-- ---- numbers of 64 bits
abbrev IsU64 : ℕ → Type 0
IsU64 id = id < 2 ^ 64

u64-listed : {R : List ℕ → ℕ → Type 0} (tokens : List (List ℕ)) (numbers : List ℕ) (q : ℕ) → AllZip R tokens numbers → ((token : List ℕ) (n : ℕ) → R token n → IsU64 n)
    → list_any (λ x. q == x) numbers ≡ true → IsU64 q
u64-listed [] [] q h small is = absurd cc
u64-listed [] (n ∷ ns) q h small is = absurd h
u64-listed (token ∷ tokens) [] q h small is = absurd h
u64-listed (token ∷ tokens) (n ∷ ns) q h small is = elim (or_cases (q == n) (list_any (λ x. q == x) ns) is) [
  | inl same ↦ subst IsU64 (sym (eqb-true q n same)) (small token n h.0)
  | inr later ↦ u64-listed tokens ns q h.1 small later
]

u64-of_list : (text list : List ℕ) (ids : Ids) (q : ℕ) → ParsesToNumbers text list → Lists list ids → has ids q ≡ true → IsU64 q
u64-of_list text list ids q parsed lists is =
    u64-listed parsed.tokens list q parsed.parsed (λ token n is_number. is_number.in_range) (sym (has-ids_of list q) ∙ ap (λ s. has s q) lists.same ∙ is)

-- the ids of a configuration that is described by a line
u64-of_line : (text : List ℕ) (saved : ConfStateLists) (c : Configuration) (q : ℕ) → conf_state_in text ≡ Some saved → Describes saved c → is_in c q ≡ true → IsU64 q
u64-of_line text saved c q read described is =
    let line = DenotesConfState-from_some text saved read in
    elim (or_cases (has c.incoming q || has c.outgoing q) (has c.learners q || has c.learners_next q) is) [
      | inl votes ↦ elim (or_cases (has c.incoming q) (has c.outgoing q) votes) [
        | inl here ↦ u64-of_list _ _ c.incoming q line.parsed_voters described.incoming here
        | inr here ↦ u64-of_list _ _ c.outgoing q line.parsed_voters_outgoing described.outgoing here
      ]
      | inr learns ↦ elim (or_cases (has c.learners q) (has c.learners_next q) learns) [
        | inl here ↦ u64-of_list _ _ c.learners q line.parsed_learners described.learners here
        | inr here ↦ u64-of_list _ _ c.learners_next q line.parsed_learners_next described.learners_next here
      ]
    ]

-- an id that is named by steps
u64-of_change : (q : ℕ) (changes : List Change) → All (λ change. change.id < 2 ^ 64) changes → 0 < count_by (names q) changes → IsU64 q
u64-of_change q [] small some = absurd (omega arith)
u64-of_change q (change ∷ changes) small some =
    grind (arith, All-head (λ c. c.id < 2 ^ 64) change changes small, eqb-true change.id q, u64-of_change q changes (All-tail (λ c. c.id < 2 ^ 64) change changes small))

u64-of_steps : (q : ℕ) (steps : List Step) → All HasU64Ids steps → 0 < times_named q steps → IsU64 q
u64-of_steps q [] small some = absurd (omega arith)
u64-of_steps q (step ∷ steps) small some = elim (cases_lt 0 (count_by (names q) (changes_of step))) [
  | inl named ↦ u64-of_change q (changes_of step) (All-head HasU64Ids step steps small) named
  | inr none ↦ u64-of_steps q steps (All-tail HasU64Ids step steps small) (omega (arith, none, some, sum_by-cons (λ s. count_by (names q) (changes_of s)) step steps))
]

-- ---- what is known of configurations by the laws of the crates below
pub record Known : Type 0 where
  pub is_restored : (saved : ConfStateLists) (c : Configuration) → ((restored saved ≡ Some c) ↔ (Describes saved c × (is_restorable c ≡ true)))
  pub own : (c : Configuration) → Describes (lists_of c) c
  pub stays : (before after : Configuration) (step : Step) → is_restorable before ≡ true → outcome before step ≡ Ok after → is_restorable after ≡ true
  pub named : (before after : Configuration) (steps : List Step) (id : ℕ) → IsRun before steps after → is_in after id ≡ true → (is_in before id ≡ true) ⊎ (0 < times_named id steps)

restorable-run : Known → (c d : Configuration) (steps : List Step) → is_restorable c ≡ true → IsRun c steps d → is_restorable d ≡ true
restorable-run known c d [] ok run = ap is_restorable (sym run) ∙ ok
restorable-run known c d (step ∷ steps) ok run = restorable-run known run.0 d steps (known.stays c run.0 step ok run.1) run.2

-- ---- results
same_out : (a b : List ℕ) → ◌≡◌ {A = OutResult} (Ok a) (Ok b) → a ≡ b
same_out a b e = cc

-- the configuration to which steps lead that give a line
record LeadsToLine (c : Configuration) (steps : List Step) (line : List ℕ) : Type 0 where
  end : Configuration
  run : IsRun c steps end
  is : line ≡ conf_state_text (lists_of end)

LeadsToLine-from_ok : (number : ℕ) (c : Configuration) (steps : List Step) (line : List ℕ) → steps_result number c steps ≡ Ok line → LeadsToLine c steps line
LeadsToLine-from_ok number c [] line e = record { end = c; run = refl; is = sym (same_out _ _ e) }
LeadsToLine-from_ok number c (step ∷ steps) line e = go (outcome c step) refl (λ next. LeadsToLine-from_ok (number + 1) next steps line) where
  go : (given : Outcome) → outcome c step ≡ given → ((next : Configuration) → steps_result (number + 1) next steps ≡ Ok line → LeadsToLine next steps line)
      → LeadsToLine c (step ∷ steps) line
  go (Ok next) is later =
      let rest = later next (ap (λ o. then_result number o (λ d. steps_result (number + 1) d steps)) (sym is) ∙ e) in
      record { end = rest.end; run = (next, is, rest.run); is = rest.is }
  go (Err why) is later = let no = ap (λ o. then_result number o (λ d. steps_result (number + 1) d steps)) (sym is) ∙ e in absurd cc

-- where applied steps began, and where they led
record IsApplied (state : List ℕ) (steps : List Step) (line : List ℕ) : Type 0 where
  saved : ConfStateLists
  begin : Configuration
  read : conf_state_in state ≡ Some saved
  made : restored saved ≡ Some begin
  leads : LeadsToLine begin steps line

IsApplied-from_ok : (state : List ℕ) (steps : List Step) (line : List ℕ) → applied (restored_of (read_as 1 (conf_state_in state))) (Ok steps) ≡ Ok line → IsApplied state steps line
IsApplied-from_ok state steps line e = go (conf_state_in state) refl e where
  restores : (saved : ConfStateLists) → conf_state_in state ≡ Some saved → (given : Option Configuration) → restored saved ≡ given → applied (restored_one given) (Ok steps) ≡ Ok line → IsApplied state steps line
  restores saved read (Some c) made f = record { saved = saved; begin = c; read = read; made = made; leads = LeadsToLine-from_ok 1 c steps line f }
  restores saved read None made f = absurd cc

  go : (given : Option ConfStateLists) → conf_state_in state ≡ given → applied (restored_of (read_as 1 given)) (Ok steps) ≡ Ok line → IsApplied state steps line
  go (Some saved) read f = restores saved read (restored saved) refl f
  go None read f = absurd cc

-- the line of the configuration after applied steps is read as that configuration
line_again : Known → (state line : List ℕ) (steps : List Step) (is : IsApplied state steps line) → All HasU64Ids steps → restored_of (read_as 1 (conf_state_in line)) ≡ Ok is.leads.end
line_again known state line steps is small =
    ap (λ read. restored_of (read_as 1 read)) (ap conf_state_in is.leads.is ∙ conf_state_in-ok (conf_state_text (lists_of d)) (lists_of d) (DenotesConfState-printed (lists_of d)
    (ParsesToNumbers-spaced _ (set_u64 d.incoming (λ q has_q. or_left _ (has d.learners q || has d.learners_next q) (or_left _ (has d.outgoing q) has_q))))
    (ParsesToNumbers-spaced _ (set_u64 d.outgoing (λ q has_q. or_left _ (has d.learners q || has d.learners_next q) (or_right (has d.incoming q) _ has_q))))
    (ParsesToNumbers-spaced _ (set_u64 d.learners (λ q has_q. or_right (has d.incoming q || has d.outgoing q) _ (or_left _ (has d.learners_next q) has_q))))
    (ParsesToNumbers-spaced _ (set_u64 d.learners_next (λ q has_q. or_right (has d.incoming q || has d.outgoing q) _ (or_right (has d.learners q) _ has_q))))))
    ∙ ap restored_one ((known.is_restored (lists_of d) d).1 (known.own d, restorable-run known is.begin d steps described.1 is.leads.run))
  where
    d : Configuration
    d = is.leads.end

    described : Describes is.saved is.begin × (is_restorable is.begin ≡ true)
    described = (known.is_restored is.saved is.begin).0 is.made

    set_u64 : (ids : Ids) → ((q : ℕ) → has ids q ≡ true → is_in d q ≡ true) → All IsU64 (ascending ids)
    set_u64 ids within = All-from_any nat_eq_equiv IsU64 (ascending ids) (λ q listed. elim (known.named is.begin d steps q is.leads.run (within q (has-ascending ids q ∙ listed))) [
      | inl was ↦ u64-of_line state is.saved is.begin q is.read described.0 was
      | inr named ↦ u64-of_steps q steps small named
    ])

-- a line does not depend on the number of the first step
renumbered : (m n : ℕ) (c : Configuration) (steps : List Step) (out : List ℕ) → steps_result m c steps ≡ Ok out → steps_result n c steps ≡ Ok out
renumbered m n c steps out e =
    let leads = LeadsToLine-from_ok m c steps out e in
    steps_result-run n c leads.end steps leads.run ∙ sym (ap Ok leads.is)

-- the steps after those that lead somewhere
after_run : (m n : ℕ) (c d : Configuration) (xs ys : List Step) (out : List ℕ) → IsRun c xs d → (steps_result m c (xs ++ ys) ≡ Ok out) ↔ (steps_result n d ys ≡ Ok out)
after_run m n c d [] ys out run = subst (λ e. (steps_result m c ys ≡ Ok out) ↔ (steps_result n e ys ≡ Ok out)) run (renumbered m n c ys out, renumbered n m c ys out)
after_run m n c d (x ∷ xs) ys out run =
    let rest = after_run (m + 1) n run.0 d xs ys out run.2 in
    let step = ap (λ o. then_result m o (λ e. steps_result (m + 1) e (xs ++ ys))) run.1 in
    (λ made. rest.0 (sym step ∙ made), λ made. step ∙ rest.1 made)

pub parts-apply : Known → (state line first rest all : List ℕ) (before after : List Step) → All HasU64Ids before
    → path_in first ≡ Ok before → path_in rest ≡ Ok after → path_in all ≡ Ok (before ++ after) → apply_result state first ≡ Ok line
    → (out : List ℕ) → (apply_result state all ≡ Ok out) ↔ (apply_result line rest ≡ Ok out)
parts-apply known state line first rest all before after small first_is rest_is all_is e out =
    (λ made. part ∙ later.0 (sym whole ∙ made), λ made. whole ∙ later.1 (sym part ∙ made))
  where
    is : IsApplied state before line
    is = IsApplied-from_ok state before line (ap (applied (restored_of (read_as 1 (conf_state_in state)))) (sym first_is) ∙ e)

    whole : apply_result state all ≡ steps_result 1 is.begin (before ++ after)
    whole = ap (λ read. applied (restored_of (read_as 1 read)) (path_in all)) is.read ∙ (λ i. applied (restored_one (is.made i)) (all_is i))

    part : apply_result line rest ≡ steps_result 1 is.leads.end after
    part = λ i. applied (line_again known state line before is small i) (rest_is i)

    later : (steps_result 1 is.begin (before ++ after) ≡ Ok out) ↔ (steps_result 1 is.leads.end after ≡ Ok out)
    later = after_run 1 1 is.begin is.leads.end before after out is.leads.run

-- The mode `check` between two items.
use Rattle.std.proofs.Common.{◌≡◌, ℕ, ◌+◌, ◌≤◌, Bool, true, false, cond, ◌||◌, List, [], ◌∷◌, ◌++◌, flat_map, refl, sym, ◌∙◌, ap, arith, rules}
use Rattle.std.specs.Prelude.{count_by, nat_lt, Option, Some, None, Ok}
use Rattle.std.specs.List.{list_any}
use Rattle.std.proofs.lemmas.List.{append_assoc}
use Rattle.std.proofs.lemmas.List.Sums.{sum_by-cons}
use Rattle.dd_file.specs.Grammar.{Script}
use Rattle.dd_file.specs.Rewritten.{Entry, entry, is_directive}
use Rattle.dd_file.specs.Items.{Item}
use Rattle.dd_file.specs.declared.fault.FileFault.{FileFault}
use Rattle.conf_change.specs.declared.floor.Floor.{Floor}
use Rattle.conf_session.specs.SessionState.{SessionState, new_session}
use Rattle.conf_tool.specs.Reports.{actual_for, session_after, answered_entries, differs, report, counts_line}
use Rattle.conf_tool.specs.Outputs.{Output, check_status, checked_entries, checked_script}
use Rattle.conf_tool.specs.Answered.{script, prepended, with_prefix, rest_checked, check_left}
use Rattle.std.proofs.Math.Bool.{or-false}

-- one mismatch more
positive : (mismatches : ℕ) (c d : Bool) → (nat_lt 0 mismatches || (c || d)) ≡ (nat_lt 0 (mismatches + cond c 1 0) || d)
positive mismatches true d = let some : nat_lt 0 (mismatches + 1) ≡ true = search (rules, arith) in rw some (at (nat_lt 0 mismatches)) where
  at : (b : Bool) → (b || true) ≡ true
  at b = grind arith
positive mismatches false d = let same : mismatches + 0 ≡ mismatches = omega arith in rw same refl

-- an entry before the others
rest-first : (directives mismatches : ℕ) (e : Entry) (entries : List Entry) (fault : Option FileFault) →
    rest_checked directives mismatches (e ∷ entries) fault
    ≡ with_prefix (report e) (rest_checked (directives + cond (is_directive e.item) 1 0) (mismatches + cond (differs e) 1 0) entries fault)
rest-first directives mismatches e entries (Some fault) = refl
rest-first directives mismatches e entries None =
    let n : ℕ = cond (is_directive e.item) 1 0 in
    let m : ℕ = cond (differs e) 1 0 in
    let ns = count_by (λ (entry : Entry). is_directive entry.item) entries in
    let ms = count_by differs entries in
    let n_first : count_by (λ (entry : Entry). is_directive entry.item) (e ∷ entries) ≡ n + ns = sum_by-cons (λ (entry : Entry). cond (is_directive entry.item) 1 0) e entries in
    let m_first : count_by differs (e ∷ entries) ≡ m + ms = sum_by-cons (λ entry. cond (differs entry) 1 0) e entries in
    let n_sum : directives + count_by (λ (entry : Entry). is_directive entry.item) (e ∷ entries) ≡ directives + n + ns = omega (arith, n_first) in
    let m_sum : mismatches + count_by differs (e ∷ entries) ≡ mismatches + m + ms = omega (arith, m_first) in
    let output : ℕ → ℕ → Bool → Output = λ k j b. record { text = flat_map report (e ∷ entries) ++ counts_line k j; outcome = Ok (check_status b) } in
    ap (λ k. output k (mismatches + count_by differs (e ∷ entries)) (nat_lt 0 mismatches || (differs e || list_any differs entries))) n_sum
    ∙ ap (λ j. output (directives + n + ns) j (nat_lt 0 mismatches || (differs e || list_any differs entries))) m_sum
    ∙ ap (output (directives + n + ns) (mismatches + m + ms)) (positive mismatches (differs e) (list_any differs entries))
    ∙ ap (λ t. record { text = t; outcome = Ok (check_status (nat_lt 0 (mismatches + m) || list_any differs entries)) })
    (append_assoc (report e) (flat_map report entries) (counts_line (directives + n + ns) (mismatches + m + ms)))

-- the same states are left with the same
same-left : (s t : SessionState) (d e m n : ℕ) (rest : Script Item) → s ≡ t → d ≡ e → m ≡ n → check_left s d m rest ≡ check_left t e n rest
same-left s t d e m n rest st de mn = ap (λ x. check_left x d m rest) st ∙ ap (λ x. check_left t x m rest) de ∙ ap (λ x. check_left t e x rest) mn

-- the start: no item was answered yet
checked-rest : (entries : List Entry) (fault : Option FileFault) → checked_entries entries fault ≡ with_prefix [] (rest_checked 0 0 entries fault)
checked-rest entries None =
    let n = count_by (λ (entry : Entry). is_directive entry.item) entries in
    let m = count_by differs entries in
    let n_same : n ≡ 0 + n = omega arith in
    let m_same : m ≡ 0 + m = omega arith in
    λ i. record { text = flat_map report entries ++ counts_line (n_same i) (m_same i); outcome = Ok (check_status (list_any differs entries)) }
checked-rest entries (Some fault) = refl

pub checked-nothing : (history : ℕ) (floor : Floor) (session : SessionState) (directives mismatches : ℕ) → session ≡ new_session history floor → directives ≡ 0 → mismatches ≡ 0 →
    (rest : Script Item) → check_left session directives mismatches rest ≡ checked_script history floor rest
checked-nothing history floor session directives mismatches is_new no_directive no_mismatch rest =
    same-left session (new_session history floor) directives 0 mismatches 0 rest is_new no_directive no_mismatch ∙ sym (checked-rest (answered_entries (new_session history floor) rest.items) rest.fault)

-- what an item leaves
pub check-item : (s t : SessionState) (d e m n : ℕ) (item : Item) → t ≡ session_after s item → e ≡ d + cond (is_directive item) 1 0 → n ≡ m + cond (differs (entry item (actual_for s item))) 1 0 →
    (rest : Script Item) → check_left s d m (prepended (item ∷ []) rest) ≡ with_prefix (report (entry item (actual_for s item))) (check_left t e n rest)
check-item s t d e m n item session directives mismatches rest =
    rest-first d m (entry item (actual_for s item)) (answered_entries (session_after s item) rest.items) rest.fault
    ∙ ap (with_prefix (report (entry item (actual_for s item)))) (sym (same-left t _ e _ n _ rest session directives mismatches))

pub few-more : (directives more count : ℕ) (c : Bool) → directives ≤ count → more ≡ directives + cond c 1 0 → more ≤ count + 1
few-more directives more count true few is = omega (arith, few, is)
few-more directives more count false few is = omega (arith, few, is)

-- the end of the input
pub check-over : (session : SessionState) (directives mismatches : ℕ) →
    check_left session directives mismatches (script [] None) ≡ record { text = counts_line directives mismatches; outcome = Ok (check_status (nat_lt 0 mismatches)) }
check-over session directives mismatches =
    let d : directives + 0 ≡ directives = omega arith in
    let m : mismatches + 0 ≡ mismatches = omega arith in
    ap (λ k. record { text = counts_line k (mismatches + 0); outcome = Ok (check_status (nat_lt 0 mismatches || false)) }) d
    ∙ ap (λ k. record { text = counts_line directives k; outcome = Ok (check_status (nat_lt 0 mismatches || false)) }) m
    ∙ ap (λ b. record { text = counts_line directives mismatches; outcome = Ok (check_status b) }) (or-false (nat_lt 0 mismatches))

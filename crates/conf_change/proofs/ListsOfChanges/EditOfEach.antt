-- The edit of each id, one more change at a time.
use Rattle.std.proofs.lemmas.Grind.{common_steps}
use Rattle.std.proofs.Common.{◌≡◌, ℕ, ◌+◌, ◌<◌, Bool, true, false, cond, not, ◌&&◌, ◌||◌, ◌==◌, List, [], ◌∷◌, ◌++◌, length, map, take, get_or, reverse, refl, sym, ap, ◌∙◌, eqb-true, arith}
use Rattle.std.specs.Prelude.{Option, Some, None, IfSome, option_map, is_some, find as first}
use Rattle.std.specs.List.{list_any}
use Rattle.std.specs.Ordering.{nat_cmp}
use Rattle.std.specs.FinMap.{find}
use Rattle.std.specs.List.Sorted.{IsStableByKey}
use Rattle.std.proofs.lemmas.Bool.Decides.{nat_tests}
use Rattle.std.proofs.lemmas.List.{take_more}
use Rattle.quorum_sets.specs.Ids.{Ids, has}
use Rattle.quorum_sets.specs.AscendingLists.{IsAscending}
use Rattle.conf_change.specs.Change.{names, is_update, is_removal, last_effective, removes}
use Rattle.conf_change.specs.Edits.{Adds, AreEdits, edit_of, with_change}
use Rattle.conf_change.specs.declared.change.Change.{Change}
use Rattle.conf_change.specs.declared.change.Kind.{Kind}
use Rattle.conf_change.specs.declared.edit_list.Edit.{Edit}
use Rattle.conf_change.proofs.ListsOfChanges.ResultOfEach.{is_some-last_effective, last_effective-push, last_effective-zero, option_map-cond, removes-push}
use Rattle.conf_change.proofs.ListsOfChanges.SortedById.{last_effective-sorted, removes-sorted}

-- ---- what the changes make of an id
-- an update is never the last effective change
abbrev pub IsEffective : Option Kind → Type 0
IsEffective last = IfSome last (λ kind. is_update kind ≡ false)

effective_one : (b : Bool) (kind : Kind) (rest : Option Kind) → IsEffective rest → IsEffective (cond (b && not (is_update kind)) (Some kind) rest)
effective_one b kind rest h = grind arith

first-effective : (xs : List Change) (q : ℕ) → IsEffective (option_map (λ change. change.kind) (first (names q) xs))
first-effective [] q = tt
first-effective (x ∷ xs) q = grind (arith, option_map-cond, effective_one, first-effective xs q)

pub last-effective : (xs : List Change) (q : ℕ) → IsEffective (last_effective xs q)
last-effective xs q = first-effective (reverse xs) q

-- a removal is an effective change, but of the id 0
removal-named : (xs : List Change) (q : ℕ) → (q == 0) ≡ false → removes xs q ≡ true → list_any (names q) xs ≡ true
removal-named [] q apart e = e
removal-named (x ∷ xs) q apart e = grind (arith, removal-named xs q apart)

named_not_removed : (some removed : Bool) (last : Option Kind) → is_some last ≡ some → (removed ≡ true → some ≡ true) → last ≡ None → removed ≡ false
named_not_removed some removed last e f none = grind arith

pub removes-none : (xs : List Change) (q : ℕ) → (q == 0) ≡ false → last_effective xs q ≡ None → removes xs q ≡ false
removes-none xs q apart none = named_not_removed (list_any (names q) xs) (removes xs q) (last_effective xs q) (is_some-last_effective xs q) (removal-named xs q apart) none

-- ---- one more change
abbrev pub edit_with : Bool → Bool → Option Kind → Option Edit
edit_with removed outgoing last = option_map (λ kind. record { kind = kind; removed = removed; outgoing = outgoing }) last

edit-more : (outgoing removed named zero : Bool) (kind : Kind) (last : Option Kind) → (zero ≡ true → last ≡ None) → (zero ≡ false → last ≡ None → removed ≡ false)
    → (let says = named && not zero && not (is_update kind) in
    edit_with (removed || (named && is_removal kind)) outgoing (cond says (Some kind) last) ≡ cond says (Some (with_change (edit_with removed outgoing last) kind outgoing)) (edit_with removed outgoing last))
edit-more outgoing removed named zero kind last none apart = grind arith

pub edit_of-push : (xs : List Change) (x : Change) (outgoing : Ids) (q : ℕ)
    → edit_of (xs ++ x ∷ []) outgoing q ≡ cond (names q x) (Some (with_change (edit_of xs outgoing q) x.kind (has outgoing q))) (edit_of xs outgoing q)
edit_of-push xs x outgoing q = grind (arith, removes-push, last_effective-push, edit-more, eqb-true, last_effective-zero, removes-none)

names-effective : (x : Change) (q : ℕ) → (not (x.id == 0) && not (is_update x.kind)) ≡ true → names q x ≡ (q == x.id)
names-effective x q e = grind (arith, nat_tests)

names-ineffective : (x : Change) (q : ℕ) → (not (x.id == 0) && not (is_update x.kind)) ≡ false → names q x ≡ false
names-ineffective x q e = grind (arith, nat_tests)

pub AreEdits-none : (outgoing : Ids) → AreEdits [] outgoing []
AreEdits-none outgoing = record { ascends = λ i j lt within. absurd (omega arith); each = λ q. refl }

pub AreEdits-added : (changes : List Change) (k : ℕ) (d : Change) (outgoing : Ids) (is_outgoing : Bool) (before after : List (ℕ × Edit)) → k < length changes
    → (let x = get_or changes k d in
    (not (x.id == 0) && not (is_update x.kind)) ≡ true → is_outgoing ≡ has outgoing x.id → AreEdits (take k changes) outgoing before → IsAscending (map (λ e. e.0) after) → Adds x is_outgoing before after
    → AreEdits (take (k + 1) changes) outgoing after)
AreEdits-added changes k d outgoing is_outgoing before after within effective is so_far up adds =
    rw (take_more changes k d within) (record { ascends = up; each = λ q. adds q ∙ by q (q == x.id) refl ∙ sym (edit_of-push xs x outgoing q) })
  where
    x : Change
    x = get_or changes k d

    xs : List Change
    xs = take k changes

    by : (q : ℕ) (b : Bool) → (q == x.id) ≡ b → cond b (Some (with_change (find nat_cmp x.id before) x.kind is_outgoing)) (find nat_cmp q before)
        ≡ cond (names q x) (Some (with_change (edit_of xs outgoing q) x.kind (has outgoing q))) (edit_of xs outgoing q)
    by q true e = grind (arith, eqb-true, names-effective)
    by q false e = so_far.each q ∙ ap (λ b. cond b (Some (with_change (edit_of xs outgoing q) x.kind (has outgoing q))) (edit_of xs outgoing q)) (sym (names-effective x q effective ∙ e))

pub AreEdits-passed : (changes : List Change) (k : ℕ) (d : Change) (outgoing : Ids) (edits : List (ℕ × Edit)) → k < length changes
    → (let x = get_or changes k d in
    (not (x.id == 0) && not (is_update x.kind)) ≡ false → AreEdits (take k changes) outgoing edits → AreEdits (take (k + 1) changes) outgoing edits)
AreEdits-passed changes k d outgoing edits within ineffective so_far = grind (arith, common_steps, take_more, names-ineffective, edit_of-push)

-- a stable sort by id leaves the edits
pub AreEdits-sorted : (changes sorted : List Change) (outgoing : Ids) (edits : List (ℕ × Edit)) → IsStableByKey (λ x. x.id) nat_cmp changes sorted → AreEdits sorted outgoing edits → AreEdits changes outgoing edits
AreEdits-sorted changes sorted outgoing edits stable are = grind (arith, removes-sorted, last_effective-sorted)

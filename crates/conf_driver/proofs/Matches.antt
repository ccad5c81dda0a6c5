-- The matches of ids in a list of members.
use Rattle.std.proofs.Common.{◌≡◌, ℕ, ◌-◌, ◌<◌, ◌≤◌, cond, List, ◌∷◌, drop, map, set, replicate, length, get_or, sym, ap, ◌∙◌, ◌==◌, arith}
use Rattle.std.specs.Prelude.{find, option_map, unwrap_or}
use Rattle.std.proofs.lemmas.Bool.Decides.{nat_tests}
use Rattle.std.proofs.lemmas.List.{drop_all, drop_more, ext_get_or, get_or-map, get_or-set_other, length-map, length-set}
use Rattle.std.specs.List.{refill}
use Rattle.std.proofs.lemmas.Grind.{common_steps, get_or-set_at}
use Rattle.std.proofs.lemmas.Simd.{splat_is_map}
use Rattle.quorum_sets.specs.AscendingLists.{IsAscending, IsAtPosition, IsInsertionPoint}
use Rattle.conf_driver.specs.declared.view.MemberView.{MemberView}

-- the match of the first member with the id, or 0
abbrev pub match_in : List MemberView → ℕ → ℕ
match_in members id = unwrap_or (option_map (λ (m : MemberView). m.matched) (find (λ (m : MemberView). m.id == id) members)) 0

-- of one more member before the others
match_in-cons : (member : MemberView) (members : List MemberView) (id : ℕ) → match_in (member ∷ members) id ≡ cond (member.id == id) member.matched (match_in members id)
match_in-cons member members id = grind arith

-- no member
pub matches-none : (members : List MemberView) (ids : List ℕ) (i n : ℕ) → length members ≡ i → length ids ≡ n → replicate n 0 ≡ map (match_in (drop i members)) ids
matches-none members ids i n all long = splat_is_map ids n 0 long ∙ ap (λ (ms : List MemberView). map (match_in ms) ids) (sym (drop_all i members (omega (arith, all))))

-- one more member, which is one of the ids
matches-there : (member : MemberView) (members : List MemberView) (ids : List ℕ) (k : ℕ) → IsAscending ids → IsAtPosition ids member.id k
    → set (map (match_in members) ids) k member.matched ≡ map (match_in (member ∷ members)) ids
matches-there member members ids k ascends at =
    let old = map (match_in members) ids in
    ext_get_or 0 _ _ (length-set old k member.matched ∙ length-map ids _ ∙ sym (length-map ids _)) (λ i within.
    let inside : i < length ids = omega (arith, within, length-set old k member.matched, length-map ids (match_in members)) in
    grind (arith, nat_tests, inside, at.within, at.there, ascends i k, ascends k i, length-map ids (match_in members), match_in-cons member members (get_or ids i 0), get_or-map (match_in (member ∷ members)) ids i 0 0 inside, get_or-map (match_in members) ids i 0 0 inside, get_or-set_at old k i member.matched 0, get_or-set_other old k i member.matched 0))

-- one that is none of them
matches-absent : (member : MemberView) (members : List MemberView) (ids : List ℕ) (k : ℕ) → IsInsertionPoint ids member.id k
    → map (match_in members) ids ≡ map (match_in (member ∷ members)) ids
matches-absent member members ids k absent = ext_get_or 0 _ _ (length-map ids _ ∙ sym (length-map ids _)) (λ i within.
    let inside : i < length ids = omega (arith, within, length-map ids (match_in members)) in
    grind (arith, nat_tests, inside, absent.below i, absent.above i, match_in-cons member members (get_or ids i 0), get_or-map (match_in (member ∷ members)) ids i 0 0 inside, get_or-map (match_in members) ids i 0 0 inside))

-- the member before a part of the members
drop_one_less : (members : List MemberView) (i : ℕ) (member : MemberView) → 0 < i → i ≤ length members → member ≡ get_or members (i - 1) member → drop (i - 1) members ≡ member ∷ drop i members
drop_one_less members i member some within here = grind (arith, drop_more, get_or, drop)

-- the matches once this member is read too, by what the search for its id says
pub matches-one_more : (members : List MemberView) (ids matches : List ℕ) (i k : ℕ) (member : MemberView) → 0 < i → i ≤ length members → member ≡ get_or members (i - 1) member
    → matches ≡ map (match_in (drop i members)) ids → IsAscending ids → IsAtPosition ids member.id k
    → set matches k member.matched ≡ map (match_in (drop (i - 1) members)) ids
matches-one_more members ids matches i k member some within here so_far ascends at = grind (arith, set, matches-there, drop, map, drop_one_less)

pub matches-one_other : (members : List MemberView) (ids matches : List ℕ) (i k : ℕ) (member : MemberView) → 0 < i → i ≤ length members → member ≡ get_or members (i - 1) member
    → matches ≡ map (match_in (drop i members)) ids → IsInsertionPoint ids member.id k
    → matches ≡ map (match_in (drop (i - 1) members)) ids
matches-one_other members ids matches i k member some within here so_far absent =
    so_far ∙ matches-absent member (drop i members) ids k absent
    ∙ ap (λ (ms : List MemberView). map (match_in ms) ids) (sym (drop_one_less members i member some within here))

-- a list that is written through a slice of it
pub refill-set : (xs ys : List ℕ) (k x : ℕ) → ys ≡ xs → refill (length xs) xs (set ys k x) ≡ set xs k x
refill-set xs ys k x same =
    let long : length (set ys k x) ≡ length xs = length-set ys k x ∙ ap length same in
    grind (arith, common_steps, long, same)

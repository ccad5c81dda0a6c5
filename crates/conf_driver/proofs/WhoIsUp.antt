-- Who is up and has caught up, by member.
use Rattle.std.proofs.Common.{◌≡◌, ℕ, ◌≤◌, ◌<◌, true, false, not, ◌&&◌, sym, ap, ◌∙◌, arith, inl, inr}
use Rattle.std.specs.Prelude.{nat_le}
use Rattle.std.proofs.lemmas.Bool.{and_from, both_ways, cases_Bool, leb-true, leb-false}
use Rattle.quorum_sets.specs.Ids.{Ids, ascending, has, is_empty}
use Rattle.quorum_sets.proofs.Offered.{has-ascending, has-ids_where}
use Rattle.conf_change.specs.Configuration.{is_member}
use Rattle.conf_change.proofs.Offered.{has-all_members, has-none_in_empty}
use Rattle.conf_driver.specs.View.{ViewState, caught_up_index, having, heard_from, lacking, match_of, up_and_caught_up}
use Rattle.conf_driver.proofs.IdsByMember.{has-common, has-without, in-without}

pub has-having : (view : ViewState) (index : ℕ) (ids : Ids) (id : ℕ) → has (having view index ids) id ≡ (nat_le index (match_of view id) && has ids id)
has-having view index ids id = has-ids_where (λ x. nat_le index (match_of view x)) (ascending ids) id ∙ ap (λ b. nat_le index (match_of view id) && b) (sym (has-ascending ids id))

-- none of the ids lacks the index, so each has it
pub having-all : (view : ViewState) (index : ℕ) (ids : Ids) (id : ℕ) → is_empty (lacking view index ids) ≡ true → has ids id ≡ true → index ≤ match_of view id
having-all view index ids id none here =
    let lacks_not = has-none_in_empty (lacking view index ids) none id in
    let test : nat_le index (match_of view id) ≡ true = grind (arith, lacks_not, here, has-without ids (having view index ids) id, has-having view index ids id) in
    leb-true _ _ test

-- an id that is up: a member that is heard from, is not down, and has what is committed
pub has-up : (down : Ids) (view : ViewState) (id : ℕ)
    → has (up_and_caught_up down view) id ≡ (nat_le (caught_up_index view) (match_of view id) && (is_member view.conf_state id && has (heard_from view) id && not (has down id)))
has-up down view id = grind (arith, has-having, has-without, not, has-common, has-all_members)

pub up-not_down : (down : Ids) (view : ViewState) (id : ℕ) → has (up_and_caught_up down view) id ≡ true → has down id ≡ false
up-not_down down view id up = grind (arith, up, has-up down view id)

-- a member that is heard from and not down, and is not up, lacks what is committed
pub lacks-not_up : (down : Ids) (view : ViewState) (id : ℕ) → is_member view.conf_state id ≡ true → has (heard_from view) id ≡ true → has down id ≡ false
    → has (up_and_caught_up down view) id ≡ false → match_of view id < caught_up_index view
lacks-not_up down view id member heard not_down not_up =
    let test : nat_le (caught_up_index view) (match_of view id) ≡ false = grind (arith, member, heard, not_down, not_up, has-up down view id) in
    leb-false _ _ test

-- an id that lacks an index has less
pub less-lacking : (view : ViewState) (index : ℕ) (ids : Ids) (id : ℕ) → has (lacking view index ids) id ≡ true → (has ids id ≡ true) × (match_of view id < index)
less-lacking view index ids id here =
    let parts = in-without ids (having view index ids) id here in
    let less : nat_le index (match_of view id) ≡ false = elim (cases_Bool (nat_le index (match_of view id))) [
      | inl has_it ↦ absurd (both_ways _ parts.1 (has-having view index ids id ∙ and_from _ _ has_it parts.0))
      | inr less ↦ less
    ] in
    (parts.0, leb-false index (match_of view id) less)

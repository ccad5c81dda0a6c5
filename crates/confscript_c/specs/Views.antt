-- Views in numbers: five numbers, three counts, and what they count. That is three numbers for each member, and ids.
use Rattle.std.specs.Prelude.{ℕ, ◌+◌, ◌*◌, Bool, not, ◌==◌, ◌&&◌, List, length, map, nat_eq, nat_le, Result, Ok, Err, if◌then◌else◌}
use Rattle.std.specs.List.{list_all, range_with_len, slice_index, slice_range}
use Rattle.quorum_sets.specs.Ids.{Ids, has, ids_of}
use Rattle.conf_change.specs.Configuration.{Configuration}
use Rattle.conf_driver.specs.View.{ViewState}
use Rattle.conf_driver.specs.declared.view.MemberView.{MemberView}
use Rattle.confscript_c.specs.Answer.{status_answer}
use Rattle.confscript_c.specs.declared.answer.Answer.{Answer}
use Rattle.confscript_c.specs.declared.status.Status.TheVariants.{ZeroId, DifferentLengths}

-- ---- the form
-- the index of the first number of a member, counted from 0
abbrev pub member_at : ℕ → ℕ
member_at member = 8 + 3 * member

-- the index of the first id that runs, and so on, as far as there are any
abbrev pub running_at : List ℕ → ℕ
running_at numbers = member_at (slice_index numbers 5)

abbrev pub retired_at : List ℕ → ℕ
retired_at numbers = running_at numbers + slice_index numbers 6

-- whether the array has five numbers, three counts, and as many numbers as they count
abbrev pub has_length : List ℕ → Bool
has_length numbers = nat_le 8 (length numbers) && nat_eq (length numbers) (retired_at numbers + slice_index numbers 7)

-- the members that are counted, from 0
abbrev pub member_indices : List ℕ → List ℕ
member_indices numbers = range_with_len 0 (slice_index numbers 5)

-- whether the third number of a member is a flag
abbrev pub has_flag : List ℕ → ℕ → Bool
has_flag numbers member = nat_le (slice_index numbers (member_at member + 2)) 1

-- whether each member has one
abbrev pub have_flags : List ℕ → Bool
have_flags numbers = list_all (has_flag numbers) (member_indices numbers)

-- whether the id of a member is not 0, which is no id
abbrev pub has_id : List ℕ → ℕ → Bool
has_id numbers member = not (nat_eq (slice_index numbers (member_at member)) 0)

-- whether that of each member is not
abbrev pub have_ids : List ℕ → Bool
have_ids numbers = list_all (has_id numbers) (member_indices numbers)

-- whether the array has that length, and each member a flag
abbrev pub has_view_form : List ℕ → Bool
has_view_form numbers = has_length numbers && have_flags numbers

-- ---- the parts
-- a member: its id, the last index at which it is known to have the leader's log, and whether it was heard from
abbrev pub member_in : List ℕ → ℕ → MemberView
member_in numbers member = record {
  id = slice_index numbers (member_at member);
  matched = slice_index numbers (member_at member + 1);
  recent_active = slice_index numbers (member_at member + 2) == 1;
}

-- the members, in the order of the array
abbrev pub members_in : List ℕ → List MemberView
members_in numbers = map (member_in numbers) (member_indices numbers)

-- a set of ids; 0 is not an id
abbrev pub ids_or_answer : List ℕ → Result Ids Answer
ids_or_answer ids = if has (ids_of ids) 0 then Err (status_answer ZeroId 0) else Ok (ids_of ids)

-- the view of these parts, or the answer for the first that is wrong
abbrev pub view_of : Configuration → List ℕ → Result Ids Answer → Result Ids Answer → Result ViewState Answer
view_of now numbers (Err why) retired = Err why
view_of now numbers (Ok running) (Err why) = Err why
view_of now numbers (Ok running) (Ok retired) = Ok (record {
  conf_state = now;
  conf_index = slice_index numbers 0;
  lead = slice_index numbers 1;
  commit = slice_index numbers 2;
  pending_conf_index = slice_index numbers 3;
  progress = members_in numbers;
  running = running;
  retired = retired;
  max_lag = slice_index numbers 4;
})

-- the view of an array, in which this configuration is applied, or the answer if it has none
abbrev pub view_in : Configuration → List ℕ → Result ViewState Answer
view_in now numbers =
    if has_view_form numbers then
    (if have_ids numbers then
    view_of now numbers (ids_or_answer (slice_range numbers (running_at numbers) (retired_at numbers)))
    (ids_or_answer (slice_range numbers (retired_at numbers) (length numbers)))
    else Err (status_answer ZeroId 0))
    else Err (status_answer DifferentLengths 0)

-- Small cases, worked out by hand.
use Rattle.std.proofs.Common.{◌≡◌, ℕ, Bool, true, false, List, [], ◌∷◌, refl}
use Rattle.std.specs.Prelude.{Some, None, codes, Err}
use Rattle.quorum_sets.specs.Ids.{ids_of}
use Rattle.quorum_sets.proofs.Offered.{written_out}
use Rattle.conf_change.specs.Configuration.{Configuration, empty_configuration}
use Rattle.conf_change.specs.ConfState.{ConfStateLists, lists_of}
use Rattle.conf_change.specs.declared.change.Change.{Change}
use Rattle.conf_change.specs.declared.change.Kind.{Kind}
use Rattle.conf_change.specs.declared.change.Kind.TheVariants.{Voter, Learner, Remove, Update}
use Rattle.plan_input.specs.Changed.{after_changes, when_left}
use Rattle.plan_input.specs.Form.{form_of}
use Rattle.plan_input.specs.HexadecimalId.{from_bracket, hexadecimal_id_in, id_hint}
use Rattle.plan_input.specs.Input.{current_in, target_in}
use Rattle.plan_input.specs.Refusal.{list_refusal}
use Rattle.plan_input.specs.ShortToken.{short_token}
use Rattle.plan_input.specs.declared.form.Form.TheVariants.{Json, ConfStateLine, Printed, Other}
use Rattle.plan_input.specs.declared.text_fault.TextFault.TheVariants.{UnknownForm, BadConfState, BadPrinted, CommasBetween, BadChange, BareId, Empty, NotAMember, AddedAgain}

-- ---- forms
forms : (form_of (codes " \t{}") ≡ Json) × (form_of (codes "Voters:[") ≡ ConfStateLine) × (form_of (codes "voters = ") ≡ Printed) × (form_of (codes "v4 r1") ≡ Other) × (form_of [] ≡ Other)
forms = (refl, refl, refl, refl, refl)

-- ---- changes
abbrev change : Kind → ℕ → Change
change kind id = record { kind = kind; id = id }

abbrev config : List ℕ → List ℕ → List ℕ → List ℕ → Bool → Configuration
config incoming outgoing learners next auto_leave =
    record { incoming = ids_of incoming; outgoing = ids_of outgoing; learners = ids_of learners; learners_next = ids_of next; auto_leave = auto_leave }

abbrev saved : List ℕ → List ℕ → ConfStateLists
saved voters learners = record { voters = voters; voters_outgoing = []; learners = learners; learners_next = []; auto_leave = false }

replaced : lists_of (after_changes (config (1 ∷ 2 ∷ 3 ∷ []) [] [] [] false) (change Remove 1 ∷ change Voter 4 ∷ change Learner 2 ∷ [])) ≡ saved (3 ∷ 4 ∷ []) (2 ∷ [])
replaced = simp written_out refl

-- a joint configuration is left first: 1 is no member any more, and 3 learns
left : when_left (config (2 ∷ []) (1 ∷ 3 ∷ []) [] (3 ∷ []) true) ≡ config (2 ∷ []) [] (3 ∷ []) [] false
left = simp written_out refl

-- changes that change nothing, that leave no voter, and that name an id twice
no_effect : lists_of (after_changes (config (1 ∷ []) [] [] [] false) (change Update 1 ∷ change Remove 9 ∷ change Voter 0 ∷ [])) ≡ saved (1 ∷ []) []
no_effect = simp written_out refl

no_voter : lists_of (after_changes (config (1 ∷ 2 ∷ []) [] (3 ∷ []) [] false) (change Remove 1 ∷ change Learner 2 ∷ [])) ≡ saved [] []
no_voter = simp written_out refl

named_twice : lists_of (after_changes (config (1 ∷ []) [] [] [] false) (change Voter 2 ∷ change Learner 2 ∷ [])) ≡ saved (1 ∷ []) (2 ∷ [])
named_twice = simp written_out refl

-- ---- changes that are refused
abbrev three : Configuration
three = config (1 ∷ 2 ∷ 3 ∷ []) [] [] [] false

not_members : (list_refusal three (change Remove 7 ∷ []) ≡ Some (NotAMember 7)) × (list_refusal three (change Voter 7 ∷ change Remove 7 ∷ []) ≡ Some (NotAMember 7))
not_members = (simp written_out refl, simp written_out refl)

added_again : (list_refusal three (change Remove 3 ∷ change Voter 3 ∷ []) ≡ Some (AddedAgain 3)) × (list_refusal three (change Remove 3 ∷ change Learner 3 ∷ []) ≡ Some (AddedAgain 3))
added_again = (simp written_out refl, simp written_out refl)

-- the first one that is refused
first_refused : list_refusal three (change Remove 3 ∷ change Remove 9 ∷ change Voter 3 ∷ []) ≡ Some (NotAMember 9)
first_refused = simp written_out refl

-- of a joint configuration, as it is before it is left, 3 is a member
outgoing_removed : list_refusal (config (1 ∷ 2 ∷ []) (2 ∷ 3 ∷ []) [] [] false) (change Remove 3 ∷ []) ≡ None
outgoing_removed = simp written_out refl

-- changes without effect, and a removal after the other changes of the id
accepted : list_refusal three (change Voter 3 ∷ change Update 7 ∷ change Learner 4 ∷ change Learner 3 ∷ change Remove 3 ∷ change Update 3 ∷ []) ≡ None
accepted = simp written_out refl

blank : target_in three (codes " ") ≡ Err Empty
blank = refl

-- ---- texts
unknown : current_in (codes "r1 v4") ≡ Err UnknownForm
unknown = refl

bad_printed : current_in (codes "voters=(1 2") ≡ Err (BadPrinted (id_hint []))
bad_printed = refl

with_commas : current_in (codes "voters=(1,2)") ≡ Err (CommasBetween (id_hint []))
with_commas = refl

bad_change : target_in empty_configuration (codes "v1 x5") ≡ Err (BadChange (short_token (codes "x5")) (id_hint []))
bad_change = refl

bare_id : target_in empty_configuration (codes "1 2 4") ≡ Err (BareId (short_token (codes "1")))
bare_id = refl

-- ---- hexadecimal ids
hexadecimal : (hexadecimal_id_in (codes "r8e9e05c52164694d") ≡ Some (codes "8e9e05c52164694d")) × (hexadecimal_id_in (codes "voters=(7 0xFD422379FDA50E48)") ≡ Some (codes "FD422379FDA50E48"))
hexadecimal = (refl, refl)

-- a decimal id, a number that is too long, and a short one
not_hexadecimal : (hexadecimal_id_in (codes "r1027665774393297") ≡ None) × (hexadecimal_id_in (codes "8e9e05c52164694d0") ≡ None) × (hexadecimal_id_in (codes "8e9e05c52164") ≡ None)
not_hexadecimal = (refl, refl, refl)

hexadecimal_line : current_in (codes "Voters:[8e9e05c52164694d]") ≡ Err (BadConfState (record { id = Some (short_token (codes "8e9e05c52164694d")) }))
hexadecimal_line = refl

in_json : from_bracket (codes "{\"id\":\"cdf818194e3a8c32\",\"voters\":[8e9e05c52164694d]}") ≡ codes "[8e9e05c52164694d]}"
in_json = refl

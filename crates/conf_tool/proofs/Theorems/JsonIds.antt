-- That the ids of a saved configuration in JSON are numbers of 64 bits.
use Rattle.std.proofs.Common.{ℕ, ◌<◌, ◌^◌, Bool, true, false, cond, not, List, [], ◌∷◌, map, refl, ltb-true, arith}
use Rattle.std.specs.Prelude.{◌≡◌, Option, Some, None, IfSome, option_map, option_and_then, filter, codes, ⊤, if◌then◌else◌}
use Rattle.std.specs.List.{All}
use Rattle.std.specs.Ordering.{nat_cmp, match_ordering}
use Rattle.std.specs.declared.cmp.Ordering.{Ordering}
use Rattle.std.specs.declared.cmp.Ordering.TheVariants.{Less, Equal, Greater}
use Rattle.std.specs.Cmp.Lexicographic.{slice_cmp}
use Rattle.std.specs.Str.{is_utf8}
use Rattle.std.proofs.lemmas.List.Elements.{All-nil, All-cons, All-head}
use Rattle.json.specs.Json as json
use Rattle.json.specs.Lex.{tokens}
use Rattle.serde_json.specs.Data.{Num, unsigned, negative, float, Data, null, boolean, number, string, array, object, Items, no_items, item, Members, no_members, member, put}
use Rattle.serde_json.specs.Find.{as_array, as_object, get, get_member}
use Rattle.serde_json.specs.Read.{max_depth, number_of, of_items, of_json, of_members, read}
use Rattle.raft_json.specs.ConfStateJson.{boolean_in, conf_state_of_json, has_only_keys, lists_in}
use Rattle.raft_json.specs.IdsJson.{id_from, ids_from, ids_in}
use Rattle.raft_json.specs.JsonText.{json_in}
use Rattle.raft_json.specs.MemberListJson.{conf_state_of_member_list, conf_state_of_members, member_of_json, members_from}
use Rattle.raft_json.specs.SavedJson.{by_members, saved_in_json, saved_of_json}
use Rattle.conf_session.proofs.Offered.{HasU64Saved, IsU64}

-- ---- of an option
of_any : {A : Type 0} (o : Option A) → IfSome o (λ a. ⊤)
of_any None = tt
of_any (Some a) = tt

of_map : {A B : Type 0} (P : A → Type 0) (Q : B → Type 0) (f : A → B) → ((a : A) → P a → Q (f a)) → (o : Option A) → IfSome o P → IfSome (option_map f o) Q
of_map P Q f each None h = tt
of_map P Q f each (Some a) h = each a h

of_and_then : {A B : Type 0} (P : A → Type 0) (Q : B → Type 0) (f : A → Option B) → ((a : A) → P a → IfSome (f a) Q) → (o : Option A) → IfSome o P → IfSome (option_and_then f o) Q
of_and_then P Q f each None h = tt
of_and_then P Q f each (Some a) h = each a h

-- ---- the numbers of a value
-- a number without a sign, a fraction or an exponent is one of 64 bits
abbrev IsU64Num : Num → Type 0
IsU64Num (unsigned n) = n < 2 ^ 64
IsU64Num (negative z) = ⊤
IsU64Num (float x) = ⊤

-- and so is each of a value
abbrev mutual
  HasU64 : Data → Type 0
  HasU64 null = ⊤
  HasU64 (boolean b) = ⊤
  HasU64 (number n) = IsU64Num n
  HasU64 (string s) = ⊤
  HasU64 (array ds) = HaveU64 ds
  HasU64 (object ms) = MembersHaveU64 ms

  HaveU64 : Items → Type 0
  HaveU64 no_items = ⊤
  HaveU64 (item d ds) = HasU64 d × HaveU64 ds

  MembersHaveU64 : Members → Type 0
  MembersHaveU64 no_members = ⊤
  MembersHaveU64 (member k d ms) = HasU64 d × MembersHaveU64 ms

-- ---- of what is read
unsigned-u64 : (s : List ℕ) (n : ℕ) → number_of s ≡ Some (unsigned n) → n < 2 ^ 64
unfolding number_of
unsigned-u64 s n e = grind (arith, ltb-true)

number_of-u64 : (s : List ℕ) → IfSome (number_of s) IsU64Num
number_of-u64 s = by (number_of s) refl
  where
    by : (read : Option Num) → number_of s ≡ read → IfSome read IsU64Num
    by None is = tt
    by (Some (unsigned n)) is = unsigned-u64 s n is
    by (Some (negative z)) is = tt
    by (Some (float x)) is = tt

put-u64 : (k : List ℕ) (d : Data) (ms : Members) → HasU64 d → MembersHaveU64 ms → MembersHaveU64 (put k d ms)
put-u64 k d no_members is small = (is, tt)
put-u64 k d (member l e ms) is small = by (slice_cmp nat_cmp k l) (put-u64 k d ms is small.1)
  where
    by : (o : Ordering) → MembersHaveU64 (put k d ms) → MembersHaveU64 (match_ordering o (member k d (member l e ms)) (member l d ms) (member l e (put k d ms)))
    by Less rest = (is, small)
    by Equal rest = (is, small.1)
    by Greater rest = (small.0, rest)

mutual
  of_json-u64 : (j : json.Json) → IfSome (of_json j) HasU64
  of_json-u64 json.null = tt
  of_json-u64 (json.boolean b) = tt
  of_json-u64 (json.number s) = of_map IsU64Num HasU64 number (λ n is. is) (number_of s) (number_of-u64 s)
  of_json-u64 (json.string s) = tt
  of_json-u64 (json.array js) = of_map HaveU64 HasU64 array (λ ds are. are) (of_items js) (of_items-u64 js)
  of_json-u64 (json.object ms) = of_map MembersHaveU64 HasU64 object (λ ms are. are) (of_members ms no_members) (of_members-u64 ms no_members tt)

  of_items-u64 : (js : json.Items) → IfSome (of_items js) HaveU64
  of_items-u64 json.no_items = tt
  of_items-u64 (json.item j js) =
      of_and_then HasU64 HaveU64 (λ d. option_map (item d) (of_items js)) (λ d is. of_map HaveU64 HaveU64 (item d) (λ ds are. (is, are)) (of_items js) (of_items-u64 js)) (of_json j) (of_json-u64 j)

  of_members-u64 : (ms : json.Members) (found : Members) → MembersHaveU64 found → IfSome (of_members ms found) MembersHaveU64
  of_members-u64 json.no_members found small = small
  of_members-u64 (json.member k j ms) found small =
      of_and_then HasU64 MembersHaveU64 (λ d. of_members ms (put k d found)) (λ d is. of_members-u64 ms (put k d found) (put-u64 k d found is small)) (of_json j) (of_json-u64 j)

json_in-u64 : (text : List ℕ) → IfSome (json_in text) HasU64
json_in-u64 text = by (is_utf8 text)
  where
    by : (test : Bool) → IfSome (if test then read text else None) HasU64
    by true = of_and_then (λ j. ⊤) HasU64 of_json (λ j any. of_json-u64 j) (option_and_then (λ p. json.if_last p.0 p.1) (json.value max_depth (tokens text))) (of_any _)
    by false = tt

-- ---- of the values at keys
get_member-u64 : (k : List ℕ) (ms : Members) → MembersHaveU64 ms → IfSome (get_member k ms) HasU64
get_member-u64 k no_members small = tt
get_member-u64 k (member l e ms) small = by (slice_cmp nat_cmp k l) (get_member-u64 k ms small.1)
  where
    by : (o : Ordering) → IfSome (get_member k ms) HasU64 → IfSome (match_ordering o (get_member k ms) (Some e) (get_member k ms)) HasU64
    by Less rest = rest
    by Equal rest = small.0
    by Greater rest = rest

get-u64 : (k : List ℕ) (d : Data) → HasU64 d → IfSome (get k d) HasU64
get-u64 k (object ms) small = get_member-u64 k ms small
get-u64 k null small = tt
get-u64 k (boolean b) small = tt
get-u64 k (number n) small = tt
get-u64 k (string s) small = tt
get-u64 k (array ds) small = tt

id_from-u64 : (d : Data) → HasU64 d → IfSome (id_from d) IsU64
id_from-u64 (number (unsigned n)) small = small
id_from-u64 (number (negative z)) small = tt
id_from-u64 (number (float x)) small = tt
id_from-u64 null small = tt
id_from-u64 (boolean b) small = tt
id_from-u64 (string s) small = tt
id_from-u64 (array ds) small = tt
id_from-u64 (object ms) small = tt

ids_from-u64 : (ds : Items) → HaveU64 ds → IfSome (ids_from ds) (All IsU64)
ids_from-u64 no_items small = All-nil IsU64
ids_from-u64 (item d ds) small =
    of_and_then IsU64 (All IsU64) (λ id. option_map (λ ids. id ∷ ids) (ids_from ds))
    (λ id is. of_map (All IsU64) (All IsU64) (λ ids. id ∷ ids) (λ ids are. All-cons IsU64 id ids is are) (ids_from ds) (ids_from-u64 ds small.1)) (id_from d) (id_from-u64 d small.0)

ids_in-u64 : (found : Option Data) → IfSome found HasU64 → IfSome (ids_in found) (All IsU64)
ids_in-u64 None small = All-nil IsU64
ids_in-u64 (Some null) small = All-nil IsU64
ids_in-u64 (Some (array ds)) small = ids_from-u64 ds small
ids_in-u64 (Some (boolean b)) small = tt
ids_in-u64 (Some (number n)) small = tt
ids_in-u64 (Some (string s)) small = tt
ids_in-u64 (Some (object ms)) small = tt

-- ---- in the form of a ConfState
lists_in-u64 : (d : Data) → HasU64 d → IfSome (lists_in d) HasU64Saved
lists_in-u64 d small =
    of_and_then (All IsU64) HasU64Saved _ (λ voters a.
    of_and_then (All IsU64) HasU64Saved _ (λ voters_outgoing b.
    of_and_then (All IsU64) HasU64Saved _ (λ learners c.
    of_and_then (All IsU64) HasU64Saved _ (λ learners_next e.
    of_map (λ auto_leave. ⊤) HasU64Saved _ (λ auto_leave any. record { voters = a; voters_outgoing = b; learners = c; learners_next = e })
    (boolean_in (get (codes "auto_leave") d)) (of_any _))
    (ids_in (get (codes "learners_next") d)) (ids_at (codes "learners_next")))
    (ids_in (get (codes "learners") d)) (ids_at (codes "learners")))
    (ids_in (get (codes "voters_outgoing") d)) (ids_at (codes "voters_outgoing")))
    (ids_in (get (codes "voters") d)) (ids_at (codes "voters"))
  where
    ids_at : (key : List ℕ) → IfSome (ids_in (get key d)) (All IsU64)
    ids_at key = ids_in-u64 (get key d) (get-u64 key d small)

conf_state-u64 : (d : Data) → HasU64 d → IfSome (conf_state_of_json d) HasU64Saved
conf_state-u64 d small = of_and_then (λ ms. ⊤) HasU64Saved (λ ms. if has_only_keys ms then lists_in d else None) (λ ms any. by (has_only_keys ms)) (as_object d) (of_any _)
  where
    by : (test : Bool) → IfSome (if test then lists_in d else None) HasU64Saved
    by true = lists_in-u64 d small
    by false = tt

-- ---- as the members of a cluster
-- the ids of a list of members, of which there is one more
one_more-u64 : {A : Type 0} (x : A) (xs : List A) (id : A → ℕ) (test : A → Bool) → All IsU64 (map id (filter test (x ∷ []))) → All IsU64 (map id (filter test xs)) → All IsU64 (map id (filter test (x ∷ xs)))
one_more-u64 x xs id test first rest = by (test x) first
  where
    by : (passes : Bool) → All IsU64 (map id (cond passes (x ∷ []) [])) → All IsU64 (map id (cond passes (x ∷ filter test xs) (filter test xs)))
    by true first = All-cons IsU64 (id x) (map id (filter test xs)) (All-head IsU64 (id x) [] first) rest
    by false first = rest

member-u64 : (d : Data) → HasU64 d → IfSome (member_of_json d) (λ member. HasU64Saved (conf_state_of_members (member ∷ [])))
member-u64 d small =
    of_and_then IsU64 (λ member. HasU64Saved (conf_state_of_members (member ∷ []))) _ (λ id is.
    of_map (λ is_learner. ⊤) (λ member. HasU64Saved (conf_state_of_members (member ∷ []))) _ (λ is_learner any. by id is is_learner) (boolean_in (get (codes "isLearner") d)) (of_any _))
    (option_and_then id_from (get (codes "ID") d)) (of_and_then HasU64 IsU64 id_from id_from-u64 (get (codes "ID") d) (get-u64 (codes "ID") d small))
  where
    by : (id : ℕ) → IsU64 id → (is_learner : Bool) → HasU64Saved (conf_state_of_members (record { id = id; is_learner = is_learner } ∷ []))
    by id is true = record { voters = All-nil IsU64; voters_outgoing = All-nil IsU64; learners = All-cons IsU64 id [] is (All-nil IsU64); learners_next = All-nil IsU64 }
    by id is false = record { voters = All-cons IsU64 id [] is (All-nil IsU64); voters_outgoing = All-nil IsU64; learners = All-nil IsU64; learners_next = All-nil IsU64 }

members-u64 : (ds : Items) → HaveU64 ds → IfSome (members_from ds) (λ members. HasU64Saved (conf_state_of_members members))
members-u64 no_items small = record { voters = All-nil IsU64; voters_outgoing = All-nil IsU64; learners = All-nil IsU64; learners_next = All-nil IsU64 }
members-u64 (item d ds) small =
    of_and_then (λ member. HasU64Saved (conf_state_of_members (member ∷ []))) (λ members. HasU64Saved (conf_state_of_members members)) _ (λ member is.
    of_map (λ members. HasU64Saved (conf_state_of_members members)) (λ members. HasU64Saved (conf_state_of_members members)) _ (λ members are. record {
      voters = one_more-u64 member members (λ m. m.id) (λ m. not m.is_learner) is.voters are.voters;
      voters_outgoing = All-nil IsU64;
      learners = one_more-u64 member members (λ m. m.id) (λ m. m.is_learner) is.learners are.learners;
      learners_next = All-nil IsU64;
    }) (members_from ds) (members-u64 ds small.1))
    (member_of_json d) (member-u64 d small.0)

as_array-u64 : (d : Data) → HasU64 d → IfSome (as_array d) HaveU64
as_array-u64 (array ds) small = small
as_array-u64 null small = tt
as_array-u64 (boolean b) small = tt
as_array-u64 (number n) small = tt
as_array-u64 (string s) small = tt
as_array-u64 (object ms) small = tt

member_list-u64 : (d : Data) → HasU64 d → IfSome (conf_state_of_member_list d) HasU64Saved
member_list-u64 d small =
    of_map (λ members. HasU64Saved (conf_state_of_members members)) HasU64Saved conf_state_of_members (λ members are. are) (option_and_then members_from (as_array d))
    (of_and_then HaveU64 (λ members. HasU64Saved (conf_state_of_members members)) members_from members-u64 (as_array d) (as_array-u64 d small))

-- ---- in either form
by_members-u64 : (found : Option Data) (d : Data) → IfSome found HasU64 → HasU64 d → IfSome (by_members found d) HasU64Saved
by_members-u64 None d there small = conf_state-u64 d small
by_members-u64 (Some members) d there small = member_list-u64 members there

pub json-u64 : (text : List ℕ) → IfSome (saved_in_json text) HasU64Saved
json-u64 text = of_and_then HasU64 HasU64Saved saved_of_json (λ d small. by_members-u64 (get (codes "members") d) d (get-u64 (codes "members") d small) small) (json_in text) (json_in-u64 text)

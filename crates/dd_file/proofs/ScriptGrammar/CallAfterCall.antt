-- What calls that read on one after another say of the whole input.
use Rattle.std.proofs.Common.{◌≡◌, ℕ, zero, suc, ◌<◌, true, List, [], ◌∷◌, ◌++◌, length, refl, sym, ◌∙◌, ap, arith, inl, inr}
use Rattle.std.specs.Prelude.{◌⊎◌, Option, Some, None}
use Rattle.std.specs.Io.KnownBytes.{Consumes, IsAtEnd}
use Rattle.std.proofs.lemmas.List.{append_assoc, append_cancel_right}
use Rattle.dd_file.specs.Position.{Position}
use Rattle.dd_file.specs.Device.{LosesPrefix}
use Rattle.dd_file.specs.Grammar.{Next, Over, Parsed, Faulty, Script, followed, with_first, first_items, script_from}
use Rattle.dd_file.specs.ReaderState.{ReaderState}
use Rattle.dd_file.specs.Answer.{AgreesWith, Agrees}
use Rattle.dd_file.specs.InOrder.{TakesBytes}

-- the same rest after what comes next
followed-same : {A : Type 0} (rest other : Position → List ℕ → Script A) (found : Next A) → ((item : A) (suffix : Position) (left : List ℕ) → found ≡ Parsed item suffix left → rest suffix left ≡ other suffix left) →
    followed rest found ≡ followed other found
followed-same rest other Over same = refl
followed-same rest other (Parsed item suffix left) same = ap (with_first item) (same item suffix left refl)
followed-same rest other (Faulty fault) same = refl

-- the items are the same at any fuel above the number of bytes
pub first_items-fuel : {A : Type 0} (next : Position → List ℕ → Next A) → TakesBytes next → (n m : ℕ) (position : Position) (bytes : List ℕ) → length bytes < n → length bytes < m →
    first_items next n position bytes ≡ first_items next m position bytes
first_items-fuel next takes zero m position bytes hn hm = absurd (omega (arith, hn))
first_items-fuel next takes (suc n) zero position bytes hn hm = absurd (omega (arith, hm))
first_items-fuel next takes (suc n) (suc m) position bytes hn hm =
    followed-same (first_items next n) (first_items next m) (next position bytes) (λ item suffix left e.
    let shorter = takes position suffix bytes left item e in first_items-fuel next takes n m suffix left (omega (arith, shorter, hn)) (omega (arith, shorter, hm)))

-- what is read from a position on is what comes next, and then what is read after it
pub script_from-followed : {A : Type 0} (next : Position → List ℕ → Next A) → TakesBytes next → (position : Position) (bytes : List ℕ) →
    script_from next position bytes ≡ followed (script_from next) (next position bytes)
script_from-followed next takes position bytes = grind (arith, followed-same, first_items-fuel)

-- what is consumed in two steps
pub consumes-append : (old mid new : Option (List ℕ)) (xs ys : List ℕ) → Consumes old mid xs → Consumes mid new ys → Consumes old new (xs ++ ys)
consumes-append None mid new xs ys a b = tt
consumes-append (Some o) None new xs ys a b = absurd a
consumes-append (Some o) (Some m) None xs ys a b = absurd b
consumes-append (Some o) (Some m) (Some n) xs ys a b = a ∙ ap (λ t. xs ++ t) b ∙ sym (append_assoc xs ys n)

pub no-prefix : (xs ys : List ℕ) → xs ++ ys ≡ [] → (xs ≡ []) × (ys ≡ [])
no-prefix [] ys none = (refl, none)
no-prefix (x ∷ xs) ys none = cc

-- An input that agrees with two calls, one after the other: it agrees with what the first one read; and what is
-- buffered after that, followed by the rest of the input, agrees with what the second one read.
pub record AgreesInTurn (old mid : ReaderState) (before between after : Option (List ℕ)) (input more : List ℕ) : Type 0 where
  pub suffix : List ℕ
  pub first : Agrees old before between input suffix
  pub second : Agrees mid between after (mid.buffered ++ suffix) more

in-turn : (old mid : ReaderState) (before between after input more one two : List ℕ) → before ≡ one ++ between → between ≡ two ++ after →
    (mid.is_ended ≡ true → (old.is_ended ≡ true) ⊎ (between ≡ [])) → AgreesWith old before after input more → AgreesInTurn old mid (Some before) (Some between) (Some after) input more
in-turn old mid before between after input more one two first second met agrees =
    let given : agrees.bytes_read ≡ one ++ two = append_cancel_right _ _ _ (sym agrees.consumed ∙ first ∙ ap (λ t. one ++ t) second ∙ sym (append_assoc one two after)) in
    let ended : old.is_ended ≡ true → one ++ (two ++ more) ≡ [] = λ e. sym (append_assoc one two more) ∙ ap (λ t. t ++ more) (sym given) ∙ agrees.met e in
    let last : between ≡ [] → two ++ more ≡ [] = λ none.
    let parts = no-prefix two after (sym second ∙ none) in ap (λ t. t ++ more) parts.0 ∙ agrees.last parts.1 in
    record {
      suffix = two ++ more;
      first = record {
        bytes_read = one;
        consumed = first;
        whole = agrees.whole ∙ ap (λ t. (old.buffered ++ t) ++ more) given ∙ ap (λ t. t ++ more) (sym (append_assoc old.buffered one two)) ∙ append_assoc (old.buffered ++ one) two more;
        met = ended;
        last = last;
      };
      second = record {
        bytes_read = two;
        consumed = second;
        whole = sym (append_assoc mid.buffered two more);
        met = λ e. elim (met e) [ inl was ↦ (no-prefix one (two ++ more) (ended was)).1 | inr none ↦ last none ];
        last = agrees.last;
      };
    }

pub agrees-in_turn : (old mid : ReaderState) (before between after : Option (List ℕ)) (input more : List ℕ) → LosesPrefix before between → LosesPrefix between after →
    (mid.is_ended ≡ true → (old.is_ended ≡ true) ⊎ IsAtEnd between) → Agrees old before after input more → AgreesInTurn old mid before between after input more
agrees-in_turn old mid (Some before) (Some between) (Some after) input more first second met agrees = grind (arith, in-turn, first, second)
agrees-in_turn old mid (Some before) (Some between) None input more first second met agrees = absurd agrees
agrees-in_turn old mid (Some before) None after input more first second met agrees = absurd first.1
agrees-in_turn old mid None between after input more first second met agrees = absurd agrees

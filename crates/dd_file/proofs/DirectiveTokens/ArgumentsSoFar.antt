-- The arguments of a text, while they are read from left to right.
use Rattle.std.proofs.Common.{◌≡◌, ℕ, zero, suc, ◌≤◌, ◌<◌, List, [], ◌∷◌, ◌++◌, length, refl, sym, ◌∙◌, ap, arith}
use Rattle.std.specs.Prelude.{Option, Some, None, option_map}
use Rattle.std.proofs.lemmas.List.{append_assoc, append-nil}
use Rattle.ascii_text.specs.WhiteSpace.{without_leading_space}
use Rattle.dd_file.specs.DirectiveLine.{ArgumentText, Leading, argument_at, before_others, from_token, arguments_within, arguments_of}
use Rattle.ascii_text.proofs.Offered.{length-without_leading_space}

-- the arguments so far, and those of the text that is left, which has at most `count`
pub record IsParsed (text : List ℕ) (arguments : List ArgumentText) (rest : List ℕ) : Type 0 where
  pub count : ℕ
  pub enough : length rest ≤ count
  pub is : option_map (λ others. arguments ++ others) (arguments_within count rest) ≡ arguments_of text

pub parsed-none : (text : List ℕ) → IsParsed text [] text
parsed-none text = record { count = length text; enough = omega arith; is = at (arguments_of text) } where
  at : (found : Option (List ArgumentText)) → option_map (λ others. [] ++ others) found ≡ found
  at found = grind arith

module _ (text : List ℕ) (arguments : List ArgumentText) (rest begun : List ℕ) (parsed : IsParsed text arguments rest) (begins : begun ≡ without_leading_space rest) where
  -- nothing is left
  pub parsed-all : begun ≡ [] → Some arguments ≡ arguments_of text
  parsed-all none = ap Some (sym (append-nil arguments)) ∙ sym (ap (option_map (λ others. arguments ++ others)) (at parsed.count)) ∙ parsed.is where
    at : (count : ℕ) → arguments_within count rest ≡ Some []
    at zero = refl
    at (suc count) = ap (from_token (arguments_within count)) (sym begins ∙ none)

  -- another argument, or none, is there
  step : 0 < length begun → (count : ℕ) → length rest ≤ count → (left : ℕ) × (count ≡ suc left) × (arguments_within count rest ≡ before_others (arguments_within left) (argument_at begun))
  step some zero enough = let fewer = length-without_leading_space rest in let same = ap length begins in absurd (omega (arith, some, enough, fewer, same))
  step some (suc left) enough = (left, refl, ap (from_token (arguments_within left)) (sym begins) ∙ at begun some) where
    at : (bytes : List ℕ) → 0 < length bytes → from_token (arguments_within left) bytes ≡ before_others (arguments_within left) (argument_at bytes)
    at bytes none = grind arith

  pub parsed-bad : 0 < length begun → None ≡ argument_at begun → None ≡ arguments_of text
  parsed-bad some bad =
      let more = step some parsed.count parsed.enough in
      sym (ap (option_map (λ others. arguments ++ others)) (more.2 ∙ ap (before_others (arguments_within more.0)) (sym bad))) ∙ parsed.is

  pub parsed-more : 0 < length begun → (found : Leading ArgumentText) → Some found ≡ argument_at begun → length found.rest < length begun → IsParsed text (arguments ++ found.value ∷ []) found.rest
  parsed-more some found is shorter =
      let more = step some parsed.count parsed.enough in
      let fewer = length-without_leading_space rest in
      let same = ap length begins in
      let enough = parsed.enough in
      let count = more.1 in
      record {
        count = more.0;
        enough = omega (arith, shorter, fewer, same, enough, count);
        is = at (arguments_within more.0 found.rest) ∙ ap (option_map (λ others. arguments ++ others)) (ap (before_others (arguments_within more.0)) is ∙ sym more.2) ∙ parsed.is;
      } where
        at : (others : Option (List ArgumentText)) → option_map (λ rest. (arguments ++ found.value ∷ []) ++ rest) others ≡ option_map (λ rest. arguments ++ rest) (option_map (λ rest. found.value ∷ rest) others)
        at None = refl
        at (Some others) = ap Some (append_assoc arguments (found.value ∷ []) others)

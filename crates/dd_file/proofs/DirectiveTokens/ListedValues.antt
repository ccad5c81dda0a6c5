-- The values of a list, one by one.
use Rattle.std.proofs.Common.{◌≡◌, ℕ, ◌+◌, suc, Bool, true, false, not, cond, List, [], ◌∷◌, take, drop, refl, sym, ◌∙◌, ap, arith}
use Rattle.std.specs.List.{position_or_len}
use Rattle.dd_file.specs.DirectiveLine.{is_comma, split_or_prepend, split_at_commas}

-- the first value, and what is after it
record FirstValue (text : List ℕ) (n : ℕ) : Type 0 where
  last : drop n text ≡ [] → split_at_commas text ≡ take n text ∷ []
  comma : (b : ℕ) (rest : List ℕ) → drop n text ≡ b ∷ rest → split_at_commas text ≡ take n text ∷ split_at_commas rest

first-value : (text : List ℕ) → FirstValue text (position_or_len is_comma text)
first-value [] = record { last = λ none. refl; comma = λ b rest none. cc }
first-value (x ∷ xs) = at (is_comma x) refl (first-value xs) where
  n : ℕ
  n = position_or_len is_comma xs

  one : 1 + n ≡ suc n
  one = omega arith

  at : (c : Bool) → is_comma x ≡ c → FirstValue xs n → FirstValue (x ∷ xs) (cond (not c) (1 + n) 0)
  at true c ih = record {
    last = λ none. cc;
    comma = λ b rest is. let same : xs ≡ rest = cc in ap (λ d. split_or_prepend d x (split_at_commas xs)) c ∙ ap (λ t. [] ∷ split_at_commas t) same;
  }
  at false c ih = record {
    last = λ none.
        ap (λ d. split_or_prepend d x (split_at_commas xs)) c ∙ ap (split_or_prepend false x) (ih.last (sym (ap (λ m. drop m (x ∷ xs)) one) ∙ none)) ∙ sym (ap (λ m. take m (x ∷ xs) ∷ []) one);
    comma = λ b rest is.
        ap (λ d. split_or_prepend d x (split_at_commas xs)) c ∙ ap (split_or_prepend false x) (ih.comma b rest (sym (ap (λ m. drop m (x ∷ xs)) one) ∙ is)) ∙ sym (ap (λ m. take m (x ∷ xs) ∷ split_at_commas rest) one);
  }

pub split_at_commas-last : (text : List ℕ) → drop (position_or_len is_comma text) text ≡ [] → split_at_commas text ≡ take (position_or_len is_comma text) text ∷ []
split_at_commas-last text = (first-value text).last

pub split_at_commas-comma : (text : List ℕ) (b : ℕ) (rest : List ℕ) → drop (position_or_len is_comma text) text ≡ b ∷ rest →
    split_at_commas text ≡ take (position_or_len is_comma text) text ∷ split_at_commas rest
split_at_commas-comma text = (first-value text).comma

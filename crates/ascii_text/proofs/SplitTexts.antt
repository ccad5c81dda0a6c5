-- The first part of a text that is split where a test passes, and the other parts.
use Rattle.std.proofs.Common.{◌≡◌, ℕ, ◌+◌, ◌<◌, Bool, List, [], ◌∷◌, take, drop, length, ap, ◌∙◌, arith}
use Rattle.std.specs.List.{slice_split, position_or_len}
use Rattle.std.proofs.lemmas.List.{take_all, drop-drop, length-drop}
use Rattle.std.proofs.lemmas.List.Splits.{slice_split_none, slice_split_first}
use Rattle.std.proofs.lemmas.List.Sums.{fails_before_first}

pub slice_split-last : (test : ℕ → Bool) (text part suffix : List ℕ) (n : ℕ) → n ≡ position_or_len test text → part ≡ take n text → suffix ≡ drop n text → length suffix ≡ 0 → slice_split test text ≡ part ∷ []
slice_split-last test text part suffix n n_is part_is suffix_is none = grind (arith, length, length-drop, slice_split_none, fails_before_first, take_all)

pub slice_split-more : (test : ℕ → Bool) (text part suffix : List ℕ) (n : ℕ) → n ≡ position_or_len test text → part ≡ take n text → suffix ≡ drop n text → 0 < length suffix → slice_split test text ≡ part ∷ slice_split test (drop 1 suffix)
slice_split-more test text part suffix n n_is part_is suffix_is some =
    let within : n < length text = omega (arith, ap length suffix_is, length-drop n text) in
    let next : drop 1 suffix ≡ drop (n + 1) text = ap (drop 1) suffix_is ∙ drop-drop 1 n text in
    rw (part_is, next, n_is) (slice_split_first test text 0 (omega arith))

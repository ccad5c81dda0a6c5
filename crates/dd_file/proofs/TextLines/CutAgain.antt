-- Lines that are written and cut again, and the lines of an output.
use Rattle.std.proofs.Common.{◌≡◌, ℕ, Bool, true, false, not, cond, ◌&&◌, ◌||◌, List, [], ◌∷◌, ◌++◌, inl, inr, ◌<◌, length, map, refl, sym, ◌∙◌, ap, arith, rules}
use Rattle.std.proofs.lemmas.Bool.{and_parts}
use Rattle.std.proofs.lemmas.Bool.Decides.{nat_tests}
use Rattle.std.proofs.lemmas.List.Concat.{flat_map-append}
use Rattle.std.specs.Prelude.{◌==◌, nat_eq}
use Rattle.std.specs.List.{list_all, list_any, ends_with}
use Rattle.std.proofs.lemmas.List.{append_assoc, append-nil, length-append}
use Rattle.ascii_text.specs.Lines.{newline, full_lines, line_of, lines_of, text_of, without_last}
use Rattle.ascii_text.specs.WhiteSpace.{is_blank}
use Rattle.dd_file.specs.Script.{is_dashes}
use Rattle.dd_file.specs.Laws.{is_line}
use Rattle.dd_file.specs.Rewritten.{is_output, is_output_line, has_blank_line}
use Rattle.dd_file.specs.Buffered.{is_whole_text}
use Rattle.dd_file.proofs.TextLines.CarriageReturns.{without_return, without_returns}
use Rattle.dd_file.proofs.TextLines.TextAfter.{whole-after}
use Rattle.ascii_text.proofs.Offered.{list-by_last, without_last-push}
use Rattle.dd_file.proofs.TextLines.LastNewlines.{ends_with-append}

-- a line with its newline is a full line
pub full_lines-line : (line rest : List ℕ) → is_line line ≡ true → full_lines ((line ++ newline) ++ rest) ≡ (line ++ newline) ∷ full_lines rest
full_lines-line [] rest h = refl
full_lines-line (b ∷ line) rest h = grind (arith, full_lines-line line rest)

-- lines that are written
full_lines-text_of : (lines : List (List ℕ)) → list_all is_line lines ≡ true → full_lines (text_of lines) ≡ map (λ line. line ++ newline) lines
full_lines-text_of [] h = refl
full_lines-text_of (line ∷ lines) h = let k = and_parts (is_line line) (list_all is_line lines) h in
    full_lines-line line (text_of lines) k.0 ∙ ap (λ ps. (line ++ newline) ∷ ps) (full_lines-text_of lines k.1)

without_last-newline : (line : List ℕ) → without_last 10 (line ++ newline) ≡ line
without_last-newline line = without_last-push 10 10 line

-- lines that are written are those lines again, but for a carriage return at each end
pub lines_of-text_of : (lines : List (List ℕ)) → list_all is_line lines ≡ true → lines_of (text_of lines) ≡ without_returns lines
lines_of-text_of lines h = ap (map line_of) (full_lines-text_of lines h) ∙ each lines where
  each : (ls : List (List ℕ)) → map line_of (map (λ line. line ++ newline) ls) ≡ without_returns ls
  each [] = refl
  each (line ∷ ls) = ap (λ t. without_last 13 t ∷ map line_of (map (λ l. l ++ newline) ls)) (without_last-newline line) ∙ ap (λ ts. without_return line ∷ ts) (each ls)

pub text_of-append : (xs ys : List (List ℕ)) → text_of (xs ++ ys) ≡ text_of xs ++ text_of ys
text_of-append xs ys = flat_map-append (λ line. line ++ newline) xs ys

-- a text of lines has a newline at its end
pub text_of-end : (line : List ℕ) (lines : List (List ℕ)) → (part : List ℕ) × (text_of (line ∷ lines) ≡ part ++ newline)
text_of-end line [] = (line, append-nil (line ++ newline))
text_of-end line (next ∷ lines) = let more = text_of-end next lines in ((line ++ newline) ++ more.0, ap (λ t. (line ++ newline) ++ t) more.1 ∙ sym (append_assoc (line ++ newline) more.0 newline))

pub text_of-whole : (lines : List (List ℕ)) → is_whole_text (text_of lines) ≡ true
text_of-whole [] = refl
text_of-whole (line ∷ lines) = let end = text_of-end line lines in ap is_whole_text end.1 ∙ whole-after end.0 10 []

-- a text that ends in a newline is lines, each with its newline
abbrev LinesOf : List ℕ → Type 0
LinesOf text = (line : List ℕ) × (lines : List (List ℕ)) × (text ≡ text_of (line ∷ lines)) × (list_all is_line (line ∷ lines) ≡ true)

lines-text : (prefix : List ℕ) → LinesOf (prefix ++ newline)
lines-text [] = ([], [], refl, refl)
lines-text (b ∷ prefix) = at (b == 10) refl (lines-text prefix) where
  at : (c : Bool) → (b == 10) ≡ c → LinesOf (prefix ++ newline) → LinesOf (b ∷ prefix ++ newline)
  at true e is = let newline_is : b ≡ 10 = search rules in ([], is.0 ∷ is.1, ap (λ x. x ∷ prefix ++ newline) newline_is ∙ ap (λ t. 10 ∷ t) is.2, is.3)
  at false e is = (b ∷ is.0, is.1, ap (λ t. b ∷ t) is.2, ap (λ c. (not c && is_line is.0) && list_all is_line is.1) e ∙ is.3)

-- an output is lines
pub record IsOutputOf (lines : List (List ℕ)) (found : List ℕ) : Type 0 where
  pub text : found ≡ text_of lines
  pub are_lines : list_all is_line lines ≡ true
  pub are_output : list_all is_output_line lines ≡ true

pub full_lines-output : (lines : List (List ℕ)) → list_all is_line lines ≡ true → list_all (λ full_line. is_output_line (without_last 10 full_line)) (full_lines (text_of lines)) ≡ list_all is_output_line lines
full_lines-output lines h = ap (list_all (λ full_line. is_output_line (without_last 10 full_line))) (full_lines-text_of lines h) ∙ each lines where
  each : (ls : List (List ℕ)) → list_all (λ full_line. is_output_line (without_last 10 full_line)) (map (λ line. line ++ newline) ls) ≡ list_all is_output_line ls
  each [] = refl
  each (line ∷ ls) = ap (λ t. is_output_line t && list_all (λ full_line. is_output_line (without_last 10 full_line)) (map (λ l. l ++ newline) ls)) (without_last-newline line) ∙ ap (λ b. is_output_line line && b) (each ls)

last-newline : (n b : ℕ) → 0 < n → ((n == 0) || (nat_eq 10 b && true)) ≡ true → b ≡ 10
last-newline n b some h = grind (arith, nat_tests)

pub output-lines : (found : List ℕ) → is_output found ≡ true → (lines : List (List ℕ)) × IsOutputOf lines found
output-lines found h = elim (list-by_last found) [
  | inl none ↦ ([], record { text = none; are_lines = refl; are_output = refl })
  | inr p ↦
      let k = and_parts (length found == 0 || ends_with nat_eq found newline) _ h in
      let ended : ((length found == 0) || (nat_eq 10 p.1 && true)) ≡ true =
      ap (λ b. (length found == 0) || b) (sym (ap (λ t. ends_with nat_eq t newline) p.2 ∙ ends_with-append p.0 (p.1 ∷ []) newline refl)) ∙ k.0 in
      let whole : found ≡ p.0 ++ newline = p.2 ∙ ap (λ b. p.0 ++ b ∷ []) (last-newline (length found) p.1 (omega (arith, ap length p.2, length-append p.0 (p.1 ∷ []))) ended) in
      let ls = lines-text p.0 in
      let text : found ≡ text_of (ls.0 ∷ ls.1) = whole ∙ ls.2 in (
        ls.0 ∷ ls.1,
        record {
          text = text;
          are_lines = ls.3;
          are_output = sym (ap (λ t. list_all (λ full_line. is_output_line (without_last 10 full_line)) (full_lines t)) text ∙ full_lines-output (ls.0 ∷ ls.1) ls.3) ∙ k.1;
        },
      )
]

-- no carriage return ends a line of an output
output_line-return : (line : List ℕ) → is_output_line line ≡ true → without_return line ≡ line
output_line-return line h = elim (list-by_last line) [
  | inl none ↦ rw none refl
  | inr p ↦
      let last : ends_with nat_eq line (13 ∷ []) ≡ (nat_eq 13 p.1 && true) = ap (λ t. ends_with nat_eq t (13 ∷ [])) p.2 ∙ ends_with-append p.0 (p.1 ∷ []) (13 ∷ []) refl in
      let k : not (is_dashes line || (nat_eq 13 p.1 && true)) ≡ true = ap (λ b. not (is_dashes line || b)) (sym last) ∙ h in
      ap without_return p.2 ∙ without_last-push 13 p.1 p.0 ∙ ap (λ c. cond c p.0 (p.0 ++ p.1 ∷ [])) (other p.1 (is_dashes line) k) ∙ sym p.2
] where
  other : (b : ℕ) (d : Bool) → not (d || (nat_eq 13 b && true)) ≡ true → (b == 13) ≡ false
  other b d k = grind (arith, nat_tests)

pub output-returns : (lines : List (List ℕ)) → list_all is_output_line lines ≡ true → without_returns lines ≡ lines
output-returns [] h = refl
output-returns (line ∷ lines) h = let k = and_parts (is_output_line line) (list_all is_output_line lines) h in
    ap (λ t. t ∷ without_returns lines) (output_line-return line k.0) ∙ ap (λ ts. line ∷ ts) (output-returns lines k.1)

-- whether an output has a blank line
pub has_blank_line-lines : (lines : List (List ℕ)) (found : List ℕ) → IsOutputOf lines found → has_blank_line found ≡ list_any is_blank lines
has_blank_line-lines lines found is = ap (list_any is_blank) (ap lines_of is.text ∙ lines_of-text_of lines is.are_lines ∙ output-returns lines is.are_output)

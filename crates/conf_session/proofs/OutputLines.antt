-- A text of reply lines is a valid output.
use Rattle.std.proofs.Common.{◌≡◌, ℕ, ◌<◌, true, false, not, ◌&&◌, ◌||◌, List, [], ◌∷◌, length, refl, sym, ap, ◌∙◌, arith, inl, inr}
use Rattle.std.specs.Prelude.{◌==◌, nat_eq}
use Rattle.std.specs.List.{list_all, list_any, ends_with}
use Rattle.std.proofs.lemmas.Bool.{not-true, or_right, or_parts}
use Rattle.std.proofs.lemmas.Bool.Decides.{nat_tests}
use Rattle.std.proofs.lemmas.List.Folds.{list_all-append}
use Rattle.ascii_text.specs.Lines.{newline, full_lines, text_of, without_last}
use Rattle.ascii_text.specs.WhiteSpace.{is_blank}
use Rattle.ascii_text.proofs.Offered.{list-by_last}
use Rattle.dd_file.specs.Laws.{is_line}
use Rattle.dd_file.specs.Script.{is_dashes}
use Rattle.dd_file.specs.Rewritten.{is_output_line}
use Rattle.dd_file.proofs.Offered.{ends_with-append, text_of-end, IsOutputOf, full_lines-output, has_blank_line-lines}
use Rattle.conf_session.specs.ReplyLines.{is_line_byte, is_reply_line, IsReplyText, IsValidOutput}
use Rattle.conf_session.proofs.ReplyLines.{and-first, and-second, and-both, all-weaker, reply_line-bytes}

-- ---- each line
other_byte : (x : ℕ) → not (x == 13) ≡ true → (nat_eq 13 x && true) ≡ false
other_byte x h = grind (arith, nat_tests)

no_return_at_end : (bytes : List ℕ) → list_all is_line_byte bytes ≡ true → ends_with nat_eq bytes (13 ∷ []) ≡ false
no_return_at_end bytes h = elim (list-by_last bytes) [
  | inl none ↦ ap (λ t. ends_with nat_eq t (13 ∷ [])) none
  | inr p ↦
      let last = and-second (list_all is_line_byte p.0) _ (sym (list_all-append is_line_byte p.0 (p.1 ∷ [])) ∙ ap (list_all is_line_byte) (sym p.2) ∙ h) in
      ap (λ t. ends_with nat_eq t (13 ∷ [])) p.2 ∙ ends_with-append p.0 (p.1 ∷ []) (13 ∷ []) refl ∙ other_byte p.1 (and-second _ _ (and-first _ _ last))
]

is_none : (bytes : List ℕ) → is_reply_line bytes ≡ true → (is_blank bytes ≡ false) × (is_dashes bytes ≡ false)
is_none bytes h = or_parts _ _ (not-true (is_blank bytes || is_dashes bytes) (and-first _ _ h))

output-line : (bytes : List ℕ) → is_reply_line bytes ≡ true → is_output_line bytes ≡ true
output-line bytes h = ap not (ap (λ t. t || ends_with nat_eq bytes (13 ∷ [])) (is_none bytes h).1 ∙ no_return_at_end bytes (reply_line-bytes bytes h))

line-alone : (bytes : List ℕ) → is_reply_line bytes ≡ true → is_line bytes ≡ true
line-alone bytes h = all-weaker is_line_byte (λ b. not (b == 10)) (λ b k. and-first _ _ k) bytes (reply_line-bytes bytes h)

no_blank-lines : (lines : List (List ℕ)) → list_all is_reply_line lines ≡ true → list_any is_blank lines ≡ false
no_blank-lines [] h = refl
no_blank-lines (bytes ∷ lines) h = ap (λ t. t || list_any is_blank lines) (is_none bytes (and-first _ _ h)).0 ∙ no_blank-lines lines (and-second _ _ h)

-- ---- the text
text-ends : (lines : List (List ℕ)) → 0 < length lines → ends_with nat_eq (text_of lines) newline ≡ true
text-ends [] some = absurd (omega arith)
text-ends (bytes ∷ lines) some = let end = text_of-end bytes lines in ap (λ t. ends_with nat_eq t newline) end.1 ∙ ends_with-append end.0 newline newline refl

pub reply_text-valid_output : (text : List ℕ) → IsReplyText text → IsValidOutput text
reply_text-valid_output text t =
    let is : IsOutputOf t.lines text = record {
      text = t.whole;
      are_lines = all-weaker is_reply_line is_line line-alone t.lines t.valid;
      are_output = all-weaker is_reply_line is_output_line output-line t.lines t.valid;
    } in
    let ends = ap (λ x. ends_with nat_eq x newline) t.whole ∙ text-ends t.lines t.some in
    record {
      output = and-both _ _ (or_right _ _ ends) (ap (λ x. list_all (λ part. is_output_line (without_last 10 part)) (full_lines x)) t.whole ∙ full_lines-output t.lines is.are_lines ∙ is.are_output);
      ended = ends;
      full = has_blank_line-lines t.lines text is ∙ no_blank-lines t.lines t.valid;
    }

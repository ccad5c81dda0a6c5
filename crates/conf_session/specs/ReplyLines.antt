-- Which texts can be the reply to a directive.
use Rattle.std.specs.Prelude.{◌≡◌, ℕ, ◌<◌, Bool, true, false, not, ◌&&◌, ◌||◌, ◌==◌, List, length, nat_eq}
use Rattle.std.specs.List.{list_all, ends_with}
use Rattle.ascii_text.specs.Lines.{newline, text_of}
use Rattle.ascii_text.specs.WhiteSpace.{is_blank}
use Rattle.dd_file.specs.Script.{is_dashes}
use Rattle.dd_file.specs.Rewritten.{is_output, has_blank_line}

-- a byte that is neither a newline nor a carriage return
abbrev pub is_line_byte : ℕ → Bool
is_line_byte b = not (b == 10) && not (b == 13)

-- a line of such bytes that is neither blank nor four dashes
abbrev pub is_reply_line : List ℕ → Bool
is_reply_line bytes = not (is_blank bytes || is_dashes bytes) && list_all is_line_byte bytes

-- the text is one such line or more, each with its newline
pub record IsReplyText (text : List ℕ) : Type 0 where
  pub lines : List (List ℕ)
  pub some : 0 < length lines
  pub whole : text ≡ text_of lines
  pub valid : list_all is_reply_line lines ≡ true

-- The text can be written as the output of a directive, and is read back unchanged: whole lines, one at least, none of
-- which is blank, is four dashes or ends in a carriage return.
pub record IsValidOutput (text : List ℕ) : Type 0 where
  pub output : is_output text ≡ true
  pub ended : ends_with nat_eq text newline ≡ true
  pub full : has_blank_line text ≡ false

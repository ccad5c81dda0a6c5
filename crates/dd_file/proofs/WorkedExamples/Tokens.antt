-- Worked examples of lines and of directives' texts.
use Rattle.std.specs.Prelude.{◌≡◌, ℕ, List, [], ◌∷◌, ◌++◌, Option, Some, None, codes, refl}
use Rattle.ascii_text.specs.Lines.{newline, lines_of}
use Rattle.ascii_text.specs.WhiteSpace.{trimmed}
use Rattle.dd_file.specs.Script.{joined}
use Rattle.dd_file.specs.DirectiveLine.{ArgumentText, CommandText, leading, argument_at, command_of}

-- what follows the last newline is a line only if it is not empty; one carriage return goes
pub cut : lines_of (((codes "ab" ++ newline) ++ newline) ++ codes "c\r\r") ≡ codes "ab" ∷ [] ∷ codes "c\r" ∷ []
cut = refl

pub cut_at_end : lines_of (codes "ab\r" ++ newline) ≡ codes "ab" ∷ []
cut_at_end = refl

pub trim : trimmed (codes " \t a b \r") ≡ codes "a b"
trim = refl

-- a key `a` with these values, and `simple` with it
abbrev a_with : List (List ℕ) → ArgumentText
a_with values = record { key = codes "a"; values = values }

abbrev simple_with : List ArgumentText → Option CommandText
simple_with arguments = Some (record { name = codes "simple"; arguments = arguments })

-- white space ends an argument, but not between parentheses, which do not nest
pub first_of_two : argument_at (codes "a=b a=c") ≡ Some (leading (a_with (codes "b" ∷ [])) (codes " a=c"))
first_of_two = refl

pub space_in_list : argument_at (codes "a=(c d)\te") ≡ Some (leading (a_with (codes "c d" ∷ [])) (codes "\te"))
space_in_list = refl

pub not_nested : argument_at (codes "a=((g )h i)") ≡ None
not_nested = refl

-- a key alone, an empty list and a list of white space have no values
pub key_alone : argument_at (codes "a") ≡ Some (leading (a_with []) [])
key_alone = refl

pub empty_list : argument_at (codes "a=()") ≡ Some (leading (a_with []) [])
empty_list = refl

pub blank_list : argument_at (codes "a=( \t)") ≡ Some (leading (a_with []) [])
blank_list = refl

-- a plain value is one value, empty or not; a comma in it separates nothing
pub empty_value : argument_at (codes "a=") ≡ Some (leading (a_with ([] ∷ [])) [])
empty_value = refl

pub comma_alone : argument_at (codes "a=,") ≡ Some (leading (a_with (codes "," ∷ [])) [])
comma_alone = refl

pub second_equals : argument_at (codes "a==1") ≡ Some (leading (a_with (codes "=1" ∷ [])) [])
second_equals = refl

-- in a list each part between commas is a value, and is trimmed
pub empty_values : argument_at (codes "a=(,)") ≡ Some (leading (a_with ([] ∷ [] ∷ [])) [])
empty_values = refl

pub trimmed_values : argument_at (codes "a=( 1 , 2 3 )") ≡ Some (leading (a_with (codes "1" ∷ codes "2 3" ∷ [])) [])
trimmed_values = refl

pub opening_in_list : argument_at (codes "a=((1)") ≡ Some (leading (a_with (codes "(1" ∷ [])) [])
opening_in_list = refl

pub any_bytes_in_list : argument_at (codes "a=(#=\\)") ≡ Some (leading (a_with (codes "#=\\" ∷ [])) [])
any_bytes_in_list = refl

-- parentheses that do not close, or do not stand round the whole value, are refused
pub unclosed : argument_at (codes "a=(") ≡ None
unclosed = refl

pub unclosed_text : command_of (codes "simple a=(1, 2 b") ≡ None
unclosed_text = refl

pub glued : command_of (codes "simple a=(1, 2)b") ≡ None
glued = refl

pub glued_list : argument_at (codes "a=(1)(2)") ≡ None
glued_list = refl

pub list_after_value : command_of (codes "simple a=b(c d)") ≡ None
list_after_value = refl

pub closing_alone : argument_at (codes "a=1)") ≡ None
closing_alone = refl

-- bytes above 127 may stand in values, and not in keys and commands
pub high_value : argument_at (codes "a=" ++ 233 ∷ []) ≡ Some (leading (a_with ((233 ∷ []) ∷ [])) [])
high_value = refl

pub high_listed : argument_at (codes "a=(" ++ 233 ∷ codes ")") ≡ Some (leading (a_with ((233 ∷ []) ∷ [])) [])
high_listed = refl

pub high_key : argument_at (233 ∷ codes "=1") ≡ None
high_key = refl

pub high_command : command_of (233 ∷ []) ≡ None
high_command = refl

-- every byte that a key may have besides letters and digits
pub key_bytes : argument_at (codes "-_/,.aZ09") ≡ Some (leading (record { key = codes "-_/,.aZ09"; values = [] }) [])
key_bytes = refl

pub no_key : argument_at (codes "=1") ≡ None
no_key = refl

-- a command is a key, and `subtest` alone is refused
pub nothing : command_of (codes " \t") ≡ None
nothing = refl

pub command_alone : command_of (codes "simple") ≡ simple_with []
command_alone = refl

pub command_with_value : command_of (codes "simple=1") ≡ None
command_with_value = refl

pub subtest : command_of (codes "subtest a") ≡ None
subtest = refl

pub subtests : command_of (codes "subtests") ≡ Some (record { name = codes "subtests"; arguments = [] })
subtests = refl

pub one_bad_argument : command_of (codes "simple a=() \\") ≡ None
one_bad_argument = refl

pub arguments_in_order : command_of (codes "\tsimple a=(1, 2)  b a ") ≡
    simple_with (a_with (codes "1" ∷ codes "2" ∷ []) ∷ record { key = codes "b"; values = [] } ∷ a_with [] ∷ [])
arguments_in_order = refl

-- a line that ends in a backslash, continued by a blank line: the backslash becomes a space, and `a` has one empty value
pub continued : joined (codes "simple a=\\" ∷ [] ∷ []) ≡ codes "simple a= "
continued = refl

pub empty_continued : command_of (codes "simple a= ") ≡ simple_with (a_with ([] ∷ []) ∷ [])
empty_continued = refl

-- a line that ends in two backslashes, continued so: the value is one backslash
pub continued_twice : joined (codes "simple a=\\\\" ∷ [] ∷ []) ≡ codes "simple a=\\ "
continued_twice = refl

pub backslash_value : command_of (codes "simple a=\\ ") ≡ simple_with (a_with (codes "\\" ∷ []) ∷ [])
backslash_value = refl

-- The reply of the mode `next` to each line of its input.
use Rattle.std.specs.Prelude.{ℕ, Bool, not, ◌&&◌, List, [], is_err, if◌then◌else◌}
use Rattle.plan_output.specs.Json.{value_line}
use Rattle.driver_json.specs.Answer.{answer_json, answer_to}
use Rattle.conf_tool.specs.Pairs.{is_skipped}

-- the reply to a line: nothing if it is skipped, or else the answer, with a newline
abbrev pub next_reply : List ℕ → List ℕ
next_reply line = if is_skipped line then [] else value_line (answer_json (answer_to line))

-- whether a line is refused
abbrev pub is_refused : List ℕ → Bool
is_refused line = not (is_skipped line) && is_err (answer_to line)

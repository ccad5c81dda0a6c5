-- Texts that are read as JSON.
use Rattle.std.proofs.Common.{◌≡◌, ℕ, cond, List, ap, ◌∙◌, arith}
use Rattle.std.specs.Prelude.{Some, None, IsUtf8}
use Rattle.std.proofs.lemmas.Bool.{cases_Bool}
use Rattle.std.proofs.lemmas.Str.{IsUtf8-from_is_utf8, is_utf8-from_IsUtf8}
use Rattle.serde_json.specs.Data.{Data}
use Rattle.serde_json.specs.Read.{read}
use Rattle.raft_json.specs.JsonText.{json_in}

pub json_in-some : (text : List ℕ) (d : Data) → IsUtf8 text → read text ≡ Some d → json_in text ≡ Some d
json_in-some text d utf8 is = ap (λ b. cond b (read text) None) (is_utf8-from_IsUtf8 text utf8) ∙ is

pub json_in-none : (text : List ℕ) → (IsUtf8 text → read text ≡ None) → json_in text ≡ None
json_in-none text none = grind (arith, cases_Bool, IsUtf8-from_is_utf8)

-- The items of a complete script, two newlines and any text.
use Rattle.std.proofs.Common.{◌≡◌, ℕ, ◌+◌, ◌-◌, ◌≤◌, Bool, true, false, List, [], ◌∷◌, ◌++◌, ◌⊎◌, inl, inr, length, map, refl, sym, ◌∙◌, ap, subst, length-append, arith}
use Rattle.std.specs.Prelude.{Some, option_map, Ok}
use Rattle.std.proofs.lemmas.List.{append_assoc, append-nil}
use Rattle.ascii_text.specs.Lines.{newline, lines_of}
use Rattle.dd_file.specs.Script.{FirstItem, NoItem, Ended, Open, result_of, lines_left, first_of, at_line}
use Rattle.dd_file.specs.Position.{longest_input}
use Rattle.dd_file.specs.Grammar.{Script, script_of, with_first}
use Rattle.dd_file.specs.Laws.{has_separator, IsComplete, Done, More, directive_in, directives_of, moved, moved_fault}
use Rattle.dd_file.specs.Items.{Item, Blank}
use Rattle.dd_file.specs.Buffered.{is_whole_text}
use Rattle.dd_file.proofs.TextLines.TextAfter.{lines-append, whole-after, lines-newline}
use Rattle.dd_file.proofs.ScriptGrammar.MoreLines.{first_of-local, first_of-left, first_of-closes}
use Rattle.dd_file.proofs.ScriptGrammar.AllItems.{no_items, items_of, items_of-first, moved_item, items_of-moved, moved_script, script_of-lines}

-- the lines of a script and two newlines are its lines, an empty one, and perhaps another
record IsFollowed (script : List ℕ) : Type 0 where
  more : List (List ℕ)
  is_more : (more ≡ []) ⊎ (more ≡ [] ∷ [])
  lines : (text : List ℕ) → lines_of (((script ++ newline) ++ newline) ++ text) ≡ lines_of script ++ [] ∷ (more ++ lines_of text)

followed_by : (script : List ℕ) → IsFollowed script
followed_by script = at (is_whole_text script) refl where
  at : (c : Bool) → is_whole_text script ≡ c → IsFollowed script
  at true whole =
      record { more = [] ∷ []; is_more = inr refl; lines = λ text. ap lines_of (append_assoc (script ++ newline) newline text ∙ append_assoc script newline (newline ++ text)) ∙ lines-append script (newline ++ (newline ++ text)) whole }
  at false open_end = record {
    more = [];
    is_more = inl refl;
    lines = λ text. ap lines_of (append_assoc (script ++ newline) newline text) ∙ lines-append (script ++ newline) (newline ++ text) (whole-after script 10 []) ∙ ap (λ ls. ls ++ [] ∷ lines_of text) (lines-newline script open_end);
  }

-- the directives of one script and then of another, and the fault of the other
record AreJoined (joined before suffix : Script Item) : Type 0 where
  directives : directives_of joined.items ≡ directives_of before.items ++ directives_of suffix.items
  fault : joined.fault ≡ suffix.fault

-- an empty line is a blank item
items_of-blank : (before : ℕ) (lines : List (List ℕ)) → AreJoined (items_of before ([] ∷ lines)) no_items (items_of (before + 1) lines)
items_of-blank before lines =
    let count : length ([] ∷ lines) - length lines ≡ 1 = omega arith in
    let first = items_of-first before ([] ∷ lines) (Ended (Ok (Blank ([] ∷ []))) lines) (Blank ([] ∷ [])) refl refl ∙ ap (λ (k : ℕ). with_first (Blank ([] ∷ [])) (items_of (before + k) lines)) count in
    record { directives = ap (λ (s : Script Item). directives_of s.items) first; fault = ap (λ (s : Script Item). s.fault) first }

-- one item more before the others
joined-first : (joined before suffix joined' before' : Script Item) (item : Item) → joined' ≡ with_first item joined → before' ≡ with_first item before →
    AreJoined joined before suffix → AreJoined joined' before' suffix
joined-first joined before suffix joined' before' item ej eb are = record {
  directives = ap (λ (s : Script Item). directives_of s.items) ej ∙ ap (λ ds. directive_in item ++ ds) are.directives
      ∙ sym (append_assoc (directive_in item) (directives_of before.items) (directives_of suffix.items)) ∙ ap (λ (s : Script Item). directives_of s.items ++ directives_of suffix.items) (sym eb);
  fault = ap (λ (s : Script Item). s.fault) ej ∙ are.fault;
}

-- the items of complete lines, an empty line and any lines
items_of-joined : (before : ℕ) (lines more : List (List ℕ)) → IsComplete lines → AreJoined (items_of before (lines ++ [] ∷ more)) (items_of before lines) (items_of (before + length lines + 1) more)
items_of-joined before lines more Done = grind (arith, items_of, more, no_items, items_of-blank)
items_of-joined before lines more (More ls item first separated rest) = at (first_of ls) refl first separated (λ m. items_of-joined m (lines_left (first_of ls)) more rest) where
  at : (f : FirstItem Item) → first_of ls ≡ f → result_of f ≡ Some (Ok item) → has_separator item (length (lines_left f)) (length ls) ≡ true →
      ((m : ℕ) → AreJoined (items_of m (lines_left f ++ [] ∷ more)) (items_of m (lines_left f)) (items_of (m + length (lines_left f) + 1) more)) →
      AreJoined (items_of before (ls ++ [] ∷ more)) (items_of before ls) (items_of (before + length ls + 1) more)
  at NoItem e is sep ih = cc
  at (Ended r left) e is sep ih =
      let same : r ≡ Ok item = cc in
      let ended = e ∙ ap (λ x. Ended x left) same in
      let own = first_of-left ls left (Ok item) ended in
      let all = ap length own.is in
      let len = length-append own.own left in
      let m = before + (length ls - length left) in
      let longer = length-append ls ([] ∷ more) in
      let after = length-append left ([] ∷ more) in
      let count : length (ls ++ [] ∷ more) - length (left ++ [] ∷ more) ≡ length ls - length left = omega (arith, longer, after, all, len) in
      let sum : m + length left + 1 ≡ before + length ls + 1 = omega (arith, all, len) in
      let whole : items_of before (ls ++ [] ∷ more) ≡ with_first (at_line (before + 1) item) (items_of m (left ++ [] ∷ more)) =
      items_of-first before (ls ++ [] ∷ more) (Ended (Ok item) (left ++ [] ∷ more)) item (first_of-local ls left ([] ∷ more) (Ok item) ended) refl
      ∙ ap (λ (k : ℕ). with_first (at_line (before + 1) item) (items_of (before + k) (left ++ [] ∷ more))) count in
      subst (λ (k : ℕ). AreJoined (items_of before (ls ++ [] ∷ more)) (items_of before ls) (items_of k more)) sum
      (joined-first _ _ _ _ _ (at_line (before + 1) item) whole (items_of-first before ls (Ended (Ok item) left) item ended refl) (ih m))
  at (Open r) e is sep ih =
      let same : r ≡ Ok item = cc in
      let open_end = e ∙ ap Open same in
      let longer = length-append ls ([] ∷ more) in
      let sum : before + (length (ls ++ [] ∷ more) - length more) ≡ before + length ls + 1 = omega (arith, longer) in
      let whole : items_of before (ls ++ [] ∷ more) ≡ with_first (at_line (before + 1) item) (items_of (before + length ls + 1) more) =
      items_of-first before (ls ++ [] ∷ more) (Ended (Ok item) more) item (first_of-closes ls more item open_end sep) refl ∙ ap (λ (k : ℕ). with_first (at_line (before + 1) item) (items_of k more)) sum in
      joined-first (items_of (before + length ls + 1) more) no_items _ _ _ (at_line (before + 1) item) whole (items_of-first before ls (Open (Ok item)) item open_end refl) (record { directives = refl; fault = refl })

-- the directives of the same items further down
directives_of-moved : (k : ℕ) (items : List Item) → directives_of (map (moved_item k) items) ≡ map (moved k) (directives_of items)
directives_of-moved k [] = refl
directives_of-moved k (item ∷ items) = grind (arith, directives_of-moved k items)

-- the second empty line, where there is one
second-line : (n : ℕ) (more lines : List (List ℕ)) → (more ≡ []) ⊎ (more ≡ [] ∷ []) → AreJoined (items_of n (more ++ lines)) no_items (items_of (n + length more) lines)
second-line n more lines (inl e) =
    let sum : n + 0 ≡ n = omega arith in
    rw (e, sum) (record { directives = refl; fault = refl })
second-line n more lines (inr e) = rw e (items_of-blank n lines)

-- all of it
pub script-joined : (script text : List ℕ) → IsComplete (lines_of script) → length (((script ++ newline) ++ newline) ++ text) ≤ longest_input →
    (directives_of (script_of (((script ++ newline) ++ newline) ++ text)).items ≡
    directives_of (script_of script).items ++ map (moved (length (lines_of ((script ++ newline) ++ newline)))) (directives_of (script_of text).items))
    × ((script_of (((script ++ newline) ++ newline) ++ text)).fault ≡ option_map (moved_fault (length (lines_of ((script ++ newline) ++ newline)))) (script_of text).fault)
script-joined script text complete fits =
    let closed = (script ++ newline) ++ newline in
    let is = followed_by script in
    let L = lines_of script in
    let T = lines_of text in
    let k = length (lines_of closed) in
    let count : k ≡ length L + 1 + length is.more =
    ap (λ (t : List ℕ). length (lines_of t)) (sym (append-nil closed)) ∙ ap (λ (ls : List (List ℕ)). length ls) (is.lines [])
    ∙ ap (λ (t : List (List ℕ)). length (L ++ [] ∷ t)) (append-nil is.more) ∙ length-append L ([] ∷ is.more) ∙ (let sum : length L + length ([] ∷ is.more) ≡ length L + 1 + length is.more = omega arith in sum) in
    let all = length-append closed text in
    let prefix = length-append script newline in
    let two = length-append (script ++ newline) newline in
    let first = items_of-joined 0 L (is.more ++ T) complete in
    let second = second-line (0 + length L + 1) is.more T is.is_more in
    let sum : 0 + length L + 1 + length is.more ≡ k = omega (arith, count) in
    let joined_is : script_of (closed ++ text) ≡ items_of 0 (L ++ [] ∷ (is.more ++ T)) = script_of-lines (closed ++ text) fits ∙ ap (items_of 0) (is.lines text) in
    let script_is : script_of script ≡ items_of 0 L = script_of-lines script (omega (arith, fits, all, prefix, two)) in
    let text_is : script_of text ≡ items_of 0 T = script_of-lines text (omega (arith, fits, all)) in
    let rest : items_of (0 + length L + 1 + length is.more) T ≡ moved_script k (script_of text) =
    ap (λ (m : ℕ). items_of m T) sum ∙ items_of-moved k T ∙ ap (moved_script k) (sym text_is) in (
      ap (λ (s : Script Item). directives_of s.items) joined_is ∙ first.directives ∙ ap (λ ds. directives_of (items_of 0 L).items ++ ds) second.directives
          ∙ ap (λ (s : Script Item). directives_of s.items ++ directives_of (items_of (0 + length L + 1 + length is.more) T).items) (sym script_is)
          ∙ ap (λ (s : Script Item). directives_of (script_of script).items ++ directives_of s.items) rest ∙ ap (λ ds. directives_of (script_of script).items ++ ds) (directives_of-moved k (script_of text).items),
      ap (λ (s : Script Item). s.fault) joined_is ∙ first.fault ∙ second.fault ∙ ap (λ (s : Script Item). s.fault) rest,
    )

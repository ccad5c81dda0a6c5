-- The mode `rewrite` between two items.
use Rattle.std.proofs.Common.{◌≡◌, ℕ, ◌-◌, List, [], ◌∷◌, ◌++◌, length, take, drop, sym, ◌∙◌, ap, refl, arith, length-append}
use Rattle.std.proofs.Math.Seq.{drop-append_seam}
use Rattle.std.proofs.lemmas.List.{append-nil, take_all}
use Rattle.ascii_text.specs.Lines.{without_last}
use Rattle.dd_file.specs.Grammar.{Script}
use Rattle.dd_file.specs.Rewritten.{newlines_at_end, pending_newline, rest_of_script, without_double_end}
use Rattle.dd_file.specs.Items.{Item}
use Rattle.dd_file.proofs.Offered.{rest-more}
use Rattle.conf_change.specs.declared.floor.Floor.{Floor}
use Rattle.conf_session.specs.SessionState.{SessionState, new_session}
use Rattle.conf_tool.specs.Reports.{session_after, answered_text}
use Rattle.conf_tool.specs.Outputs.{rewritten_script, clean_unless, output}
use Rattle.conf_tool.specs.Answered.{prepended, with_prefix, rewrite_left}

-- before the first item
rest-whole : (text : List ℕ) → rest_of_script 0 text ≡ without_double_end text
rest-whole [] = refl
rest-whole (byte ∷ text) = refl

pub rewritten-nothing : (history : ℕ) (floor : Floor) (session : SessionState) (newlines : ℕ) → session ≡ new_session history floor → newlines ≡ 0 →
    (rest : Script Item) → rewrite_left session newlines rest ≡ rewritten_script history floor rest
rewritten-nothing history floor session newlines is_new none rest =
    ap (λ s. rewrite_left s newlines rest) is_new ∙ ap (λ n. rewrite_left (new_session history floor) n rest) none
    ∙ ap (λ t. output t (clean_unless rest.fault)) (rest-whole (answered_text (new_session history floor) rest.items))

-- what an item leaves
pub rewrite-item : (s t : SessionState) (newlines after : ℕ) (item : Item) (text : List ℕ) → t ≡ session_after s item → newlines ≡ newlines_at_end text → after ≡ newlines_at_end (text ++ answered_text s (item ∷ [])) →
    (rest : Script Item) → rewrite_left s newlines (prepended (item ∷ []) rest) ≡ with_prefix (without_last 10 (pending_newline newlines ++ answered_text s (item ∷ []))) (rewrite_left t after rest)
rewrite-item s t newlines after item text is counted counts rest =
    let more = answered_text s (item ∷ []) in
    ap (λ u. output (rest_of_script newlines (u ++ answered_text (session_after s item) rest.items)) (clean_unless rest.fault)) (sym (append-nil _))
    ∙ ap (λ x. output (rest_of_script newlines (more ++ answered_text x rest.items)) (clean_unless rest.fault)) (sym is)
    ∙ ap (λ t. output t (clean_unless rest.fault)) (rest-more newlines after text more (answered_text t rest.items) counted counts)

-- the bytes that were appended
pub added : (start : ℕ) (before more whole : List ℕ) → start ≡ length before → whole ≡ before ++ more → take (length whole - start) (drop start whole) ≡ more
added start before more whole at is =
    let count : length (before ++ more) - length before ≡ length more = rw (length-append before more) (omega arith) in
    ap (λ w. take (length w - start) (drop start w)) is ∙ ap (λ n. take (length (before ++ more) - n) (drop n (before ++ more))) at
    ∙ ap (take (length (before ++ more) - length before)) (drop-append_seam before more) ∙ ap (λ n. take n more) count ∙ take_all (length more) more (omega arith)

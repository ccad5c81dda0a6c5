use Rattle.std.proofs.Common.{◌≡◌, ◌∷◌, [], ◌++◌, List, ℕ, sym, ap, ◌∙◌, arith}
use Rattle.std.specs.Prelude.{Option, option_map}
use Rattle.std.proofs.lemmas.List.{append_assoc}
use Rattle.dd_file.specs.Rewritten.{without_double_end}
use Rattle.conf_session.specs.SessionState.{SessionState}
use Rattle.conf_tool.specs.PlanScript.{note_items, script_items, restore_directive, script_text}
use Rattle.conf_tool.specs.Reports.{session_after_all, answered_text}
use Rattle.conf_tool.specs.UndoScript.{step_items}
use Rattle.conf_tool.proofs.ModeOutput.AppendedItems.{appended-nothing, appended-more}
use Rattle.conf_tool.proofs.run.plan_script.script_text.Goals as goal

-- a note changes no session
after-note : (s : SessionState) (note : Option (List ℕ)) → session_after_all s (note_items note) ≡ s
after-note s note = grind arith

pub returns : goal.returns
unfolding script_text
returns c =
    let note = option_map (λ note. note.now.items) c.args.note in
    let restored = c.in_ok-rewrite_item.ensures in
    let steps = c.in_ok-append_steps.ensures in
    let noted = appended-more c.args.session.now _ _ [] _ _ [] (note_items note) (appended-nothing _ []) (c.in_ok-append_note.ensures.session ∙ sym (after-note c.args.session.now note))
    (c.in_ok-append_note.ensures.text ∙ ap (λ t. t ++ answered_text c.args.session.now (note_items note)) c.new-text.ensures.items) in
    let whole = appended-more _ _ _ _ _ _ _ _ (appended-more _ _ _ _ _ _ _ (c.in_ok-restore.restore ∷ []) noted restored.session restored.text) steps.session steps.text in
    let items : (note_items note ++ c.in_ok-restore.restore ∷ []) ++ step_items c.as_slice.result.now ≡ script_items note c.args.now.now c.args.path.now =
    append_assoc (note_items note) (c.in_ok-restore.restore ∷ []) (step_items c.as_slice.result.now)
    ∙ ap (λ item. note_items note ++ item ∷ step_items c.as_slice.result.now) c.in_ok-restore.ensures
    ∙ ap (λ taken. note_items note ++ restore_directive c.args.now.now ∷ step_items taken) c.as_slice.ensures.steps in
    record {
      text = c.end_script.ensures ∙ ap without_double_end (whole.text ∙ ap (answered_text c.args.session.now) items);
      session = whole.session ∙ ap (session_after_all c.args.session.now) items;
    }

-- That a member's entry after an edit is that of its id.
use Rattle.std.specs.Prelude.{◌≡◌, ℕ, Option, Some, None, option_map, IfSome, refl}
use Rattle.conf_change.specs.Edits.{member_after, entry_after}
use Rattle.conf_change.specs.declared.edit_list.Edit.{Edit}
use Rattle.conf_change.specs.declared.progress.Progress.{Progress}

pub member_after-has_id : (edit : Edit) (next_index id : ℕ) (had : Option (ℕ × Progress)) → IfSome (member_after edit next_index id had) (λ m. m.0 ≡ id)
member_after-has_id edit next_index id had = of_entry (entry_after edit next_index (option_map (λ m. m.1) had))
  where
    of_entry : (o : Option Progress) → IfSome (option_map (λ p. (id, p)) o) (λ (m : ℕ × Progress). m.0 ≡ id)
    of_entry None = tt
    of_entry (Some p) = refl

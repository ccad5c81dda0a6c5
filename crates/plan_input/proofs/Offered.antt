-- The lemmas of this crate that the proofs of the crates above cite. No other module of its proofs is public.

pub use Rattle.plan_input.proofs.ValidTargets.{IsChangedBy, IsReadFrom, IsSavedIn, current_in-read, current_in-valid, target_in-read, target_in-valid}

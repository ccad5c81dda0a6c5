-- The lemmas of this crate that the proofs of the crates above cite. No other module of its proofs is public.

pub use Rattle.conf_plan.proofs.PlanText.PrintedStep.{line-parts}

-- The ends of a run: how it begins in a joint configuration, and how it ends in one.
use Rattle.std.proofs.Common.{arith}
use Rattle.std.proofs.Common.{◌≡◌, not, true, false, List, [], ◌∷◌, ◌++◌, refl, sym, ap, subst, ◌∙◌, inl, inr}
use Rattle.std.specs.Prelude.{Ok}
use Rattle.std.proofs.lemmas.Bool.{true≢false}
use Rattle.quorum_sets.specs.Ids.{no_ids, is_empty}
use Rattle.conf_change.specs.Configuration.{Configuration, is_joint}
use Rattle.conf_change.specs.Outcome.{outcome, after_leave}
use Rattle.conf_change.specs.declared.step.Step.{Step}
use Rattle.conf_change.specs.declared.step.Step.TheVariants.{Simple, EnterJoint, LeaveJoint}
use Rattle.conf_change.proofs.Offered.{SimpleTaken-from_outcome, EnterTaken-from_outcome, LeaveTaken-from_outcome, outcome-are_neighbours, is_empty-no_ids}
use Rattle.conf_plan.specs.Run.{Gives, IsChain, IsRun}

pub is_joint-from_no_outgoing : (c : Configuration) → c.outgoing ≡ no_ids → is_joint c ≡ false
is_joint-from_no_outgoing c none = ap (λ s. not (is_empty s)) none ∙ ap not is_empty-no_ids

pub is_joint-not_both : {P : Type 0} (c : Configuration) → is_joint c ≡ true → is_joint c ≡ false → P
is_joint-not_both c joint single = absurd (true≢false (sym joint ∙ single))

-- ---- the first step
-- only leaving is accepted in a joint configuration
pub record LeavesFirst (Leads : Configuration → Step → Configuration → Type 0) (now target : Configuration) (steps : List Step) : Type 0 where
  pub rest : List Step
  pub whole : steps ≡ LeaveJoint ∷ rest
  pub run : IsChain Leads (after_leave now) rest target

pub LeavesFirst-from_chain : (Leads : Configuration → Step → Configuration → Type 0) → ((a b : Configuration) (step : Step) → Leads a step b → Gives a step b)
    → (now target : Configuration) (steps : List Step) → is_joint now ≡ true → (now ≡ target → ⊥) → IsChain Leads now steps target → LeavesFirst Leads now target steps
LeavesFirst-from_chain Leads gives now target [] joint differs run = absurd (differs run)
LeavesFirst-from_chain Leads gives now target (Simple changes ∷ steps) joint differs run = grind (arith, is_joint-not_both, SimpleTaken-from_outcome, run)
LeavesFirst-from_chain Leads gives now target (EnterJoint auto_leave changes ∷ steps) joint differs run =
    is_joint-not_both now joint (EnterTaken-from_outcome now run.0 auto_leave changes (gives _ _ _ run.1)).single
LeavesFirst-from_chain Leads gives now target (LeaveJoint ∷ steps) joint differs run =
    let P : Configuration → Type 0 = λ d. IsChain Leads d steps target in
    record { rest = steps; whole = refl; run = subst P (sym (LeaveTaken-from_outcome now run.0 (gives _ _ _ run.1)).made) run.2 }

pub LeavesFirst-from_IsRun : (now target : Configuration) (steps : List Step) → is_joint now ≡ true → (now ≡ target → ⊥) → IsRun now steps target → LeavesFirst Gives now target steps
LeavesFirst-from_IsRun = LeavesFirst-from_chain Gives (λ a b step gives. gives)

-- ---- the last step
pub record LastStep (before after : Configuration) (steps : List Step) : Type 0 where
  pub prefix : List Step
  pub last : Step
  pub middle : Configuration
  pub whole : steps ≡ prefix ++ last ∷ []
  pub run : IsRun before prefix middle
  pub reaches : outcome middle last ≡ Ok after

-- a run that is not empty, opened at its last step
last_step : (before after : Configuration) (step : Step) (steps : List Step) → IsRun before (step ∷ steps) after → LastStep before after (step ∷ steps)
last_step before after step [] run = record { prefix = []; last = step; middle = before; whole = refl; run = refl; reaches = run.1 ∙ ap Ok run.2 }
last_step before after step (next ∷ steps) run =
    let rest = last_step run.0 after next steps run.2 in
    record {
      prefix = step ∷ rest.prefix;
      last = rest.last;
      middle = rest.middle;
      whole = ap (λ ys. step ∷ ys) rest.whole;
      run = (run.0, run.1, rest.run);
      reaches = rest.reaches;
    }

-- a run into a joint configuration ends by entering it from one that is not joint, whose incoming voters are its outgoing ones
pub record EntersLast (before target : Configuration) (steps : List Step) : Type 0 where
  pub opened : LastStep before target steps
  pub single : is_joint opened.middle ≡ false
  pub voters : opened.middle.incoming ≡ target.outgoing

pub EntersLast-from_IsRun : (before target : Configuration) (steps : List Step) → is_joint before ≡ false → is_joint target ≡ true → IsRun before steps target → EntersLast before target steps
EntersLast-from_IsRun before target [] single joint run = is_joint-not_both target joint (ap is_joint (sym run) ∙ single)
EntersLast-from_IsRun before target (step ∷ steps) single joint run =
    let opened = last_step before target step steps run in
    elim (outcome-are_neighbours opened.middle target opened.last opened.reaches) [
      | inl differ ↦ is_joint-not_both target joint (is_joint-from_no_outgoing target differ.after_single)
      | inr (inl goes) ↦ record { opened = opened; single = is_joint-from_no_outgoing opened.middle goes.before_single; voters = sym goes.outgoing }
      | inr (inr leaves) ↦ is_joint-not_both target joint (is_joint-from_no_outgoing target leaves.after_single)
    ]

use Rattle.std.proofs.Common.{ℕ, List, refl, inl, inr}
use Rattle.std.specs.Prelude.{Option, Some, None}
use Rattle.std.specs.Io.KnownBytes.{Keeps}
use Rattle.confscript.proofs.run_arguments.Goals as goal

-- bytes that stay as they are, known or not
keeps-still : (buffered : Option (List ℕ)) → Keeps buffered buffered
keeps-still None = tt
keeps-still (Some bytes) = refl

pub returns-in-Ok-clause-ends : goal.returns-in-Ok-clause-ends
returns-in-Ok-clause-ends g c =
    inl (record { invocation = c.in-Ok.invocation; taken = c.in-Ok.ensures.refused; asked = c.in-Ok.ensures.asked; ends = c.run_invocation.ensures.ends })

pub returns-in-Err-clause-ends : goal.returns-in-Err-clause-ends
returns-in-Err-clause-ends g c = inr (record { fault = c.in-Err.fault; reason = c.in-Err.ensures.refused; ends = c.refuse.ensures; unwritten = keeps-still _ })

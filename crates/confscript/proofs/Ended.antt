-- What the clauses of `plan_to` and `run_to` mean for the writer below the blocks.
use Rattle.std.proofs.Common.{Bor, true, false, bytes_eq, codes, ◌≡◌, ◌≢◌, ℕ, List, [], ◌++◌, refl, sym, ◌∙◌, ap, subst}
use Rattle.std.specs.Prelude.{Option, Some, None, IfSome, is_some, Result, Ok, Err, option_map, unwrap_or, if◌then◌else◌}
use Rattle.std.specs.Io.KnownBytes.{Appends, append_known}
use Rattle.std.specs.Process.{exit_status}
use Rattle.std.specs.declared.process.ExitCode.{ExitCode}
use Rattle.std.proofs.lemmas.Bool.{false≢true}
use Rattle.std.proofs.lemmas.List.{append-nil, append_assoc}
use Rattle.dd_file.specs.Device.{AppendsPart, LosesPrefix}
use Rattle.dd_file.specs.Gathered.{buffered_output, buffered_writer, gathered_bytes, NothingBuffered}
use Rattle.dd_file.specs.declared.blocks.Blocks.{Blocks}
use Rattle.conf_tool.specs.ExitStatus.{exit_status_of, ExitsWith, PlansWith}
use Rattle.conf_tool.specs.Outputs.{Output, output_of, planned_texts}
use Rattle.conf_tool.specs.Run.{Means, Wrote}
use Rattle.conf_tool.specs.declared.invocation.Invocation.{Invocation}
use Rattle.conf_tool.specs.declared.pair_arguments.PairArguments.{PairArguments}
use Rattle.conf_tool.specs.declared.status.Status.{Status}
use Rattle.conf_tool.specs.declared.tool_fault.ToolFault.{ToolFault}
use Rattle.conf_tool.specs.declared.tool_fault.ToolFault.TheVariants.{Script, Configurations, Read, Write, NoMemory}
use Rattle.confscript.specs.Asked.{bytes_named, output_over, output_with}
use Rattle.confscript.specs.Ending.{AppendsAtMost, EndsAs, EndsFor}

-- bytes with none buffered after them
known-nil : (known : Option (List ℕ)) (buffered : List ℕ) → buffered ≡ [] → append_known known buffered ≡ known
known-nil None buffered nothing = refl
known-nil (Some xs) buffered nothing = ap (λ t. Some (xs ++ t)) nothing ∙ ap (λ t. Some t) (append-nil xs)

-- a text was written, of which some bytes may still be buffered
whole-at-most : (before after : Option (List ℕ)) (buffered text : List ℕ) → Appends before (append_known after buffered) text → AppendsAtMost before after text
whole-at-most None after buffered text all = tt
whole-at-most (Some xs) None buffered text all = absurd all
whole-at-most (Some xs) (Some ys) buffered text all = (buffered, sym all)

-- a prefix of a text was written, of which some bytes may still be buffered
part-at-most : (before after : Option (List ℕ)) (buffered text : List ℕ) → AppendsPart before (append_known after buffered) text → AppendsAtMost before after text
part-at-most None after buffered text part = tt
part-at-most (Some xs) None buffered text part = absurd part
part-at-most (Some xs) (Some ys) buffered text part =
    (buffered ++ part.1, ap (λ t. xs ++ t) part.2 ∙ sym (append_assoc xs part.0 part.1) ∙ ap (λ t. t ++ part.1) (sym part.3) ∙ append_assoc ys buffered part.1)

-- whatever the result, what the writer below has is a prefix of the output
means-at-most : (output : Output) (result : Result Status ToolFault) (before after : Option (List ℕ)) (buffered : List ℕ) →
    Means output result before (append_known after buffered) → AppendsAtMost before after output.text
means-at-most output (Ok status) before after buffered wrote = whole-at-most before after buffered output.text wrote.1
means-at-most output (Err (Script fault)) before after buffered wrote = whole-at-most before after buffered output.text wrote.1
means-at-most output (Err (Configurations fault)) before after buffered wrote = whole-at-most before after buffered output.text wrote.1
means-at-most output (Err Read) before after buffered part = part-at-most before after buffered output.text part
means-at-most output (Err Write) before after buffered part = part-at-most before after buffered output.text part
means-at-most output (Err NoMemory) before after buffered part = part-at-most before after buffered output.text part

-- a result whose exit status is not 3 means that the whole output was written
means-whole : (output : Output) (result : Result Status ToolFault) (before after : Option (List ℕ)) → exit_status_of result ≢ 3 → Means output result before after → Wrote output result before after
means-whole output (Ok status) before after other wrote = wrote
means-whole output (Err (Script fault)) before after other wrote = wrote
means-whole output (Err (Configurations fault)) before after other wrote = wrote
means-whole output (Err Read) before after other part = absurd (other refl)
means-whole output (Err Write) before after other part = absurd (other refl)
means-whole output (Err NoMemory) before after other part = absurd (other refl)

-- unless the exit status is 3, the whole output was written, and the status is that of its outcome
plans-whole : (output : Output) (before after : Option (List ℕ)) (code : ExitCode) → exit_status code ≢ 3 → PlansWith output before after code →
    (exit_status code ≡ exit_status_of output.outcome) × Appends before after output.text
plans-whole output before after code other plans =
    let wrote = means-whole output plans.0 before after (λ e. other (plans.2 ∙ e)) plans.1 in
    (plans.2 ∙ ap exit_status_of (sym wrote.0), wrote.1)

-- what a run ends as, by what it wrote to blocks and by what their writer has
plans-as : (output : Output) (before after : Option (List ℕ)) (buffered : List ℕ) (code : ExitCode) →
    PlansWith output before (append_known after buffered) code → (exit_status code ≢ 3 → PlansWith output before after code) → EndsAs output before after code
plans-as output before after buffered code part given = record {
  status = λ other. (plans-whole output before after code other (given other)).0;
  whole = λ other. (plans-whole output before after code other (given other)).1;
  part = means-at-most output part.0 before after buffered part.1;
}

-- the bytes that a reader has left are an input that agrees with what was read
exits-known : (output : List ℕ → Output) (input : List ℕ) (left before after : Option (List ℕ)) (code : ExitCode) → LosesPrefix (Some input) left →
    ExitsWith output (Some input) left before after code → PlansWith (output input) before after code
exits-known output input None before after code loses exits = absurd loses.1
exits-known output input (Some more) before after code loses exits =
    (exits.0, exits.1 input more (record { bytes_read = loses.0; consumed = loses.1; whole = loses.1; met = λ e. absurd (false≢true e); last = λ e. e }), exits.2)

-- the same of a run over a reader, if its bytes are known
exits-as : (output : List ℕ → Output) (input left before after : Option (List ℕ)) (buffered : List ℕ) (code : ExitCode) → LosesPrefix input left →
    ExitsWith output input left before (append_known after buffered) code → (exit_status code ≢ 3 → ExitsWith output input left before after code) →
    IfSome (option_map output input) (λ asked. EndsAs asked before after code)
exits-as output None left before after buffered code loses part given = tt
exits-as output (Some input) left before after buffered code loses part given =
    plans-as (output input) before after buffered code (exits-known output input left before _ code loses part) (λ other. exits-known output input left before after code loses (given other))

-- FILE is left out, or it is `-`
pub named-standard : (files : List ℕ → Option (List ℕ)) (standard : Option (List ℕ)) (file : Option (Bor (List ℕ))) (name default : Bor (List ℕ)) →
    name ≡ unwrap_or file default → bytes_eq name.now (codes "-") ≡ true → standard ≡ bytes_named files standard (option_map (λ given. given.now) file)
named-standard files standard None name default is dash = refl
named-standard files standard (Some given) name default is dash =
    ap (λ b. if b then standard else files given.now) (sym dash ∙ ap (λ (it : Bor (List ℕ)). bytes_eq it.now (codes "-")) is)

-- FILE is the name of a file
pub named-file : (files : List ℕ → Option (List ℕ)) (standard : Option (List ℕ)) (file : Option (Bor (List ℕ))) (name default : Bor (List ℕ)) →
    name ≡ unwrap_or file default → default.now ≡ codes "-" → bytes_eq name.now (codes "-") ≡ false →
    files name.now ≡ bytes_named files standard (option_map (λ given. given.now) file)
named-file files standard None name default is dash other =
    absurd (false≢true (sym other ∙ ap (λ (it : Bor (List ℕ)). bytes_eq it.now (codes "-")) is ∙ ap (λ it. bytes_eq it (codes "-")) dash))
named-file files standard (Some given) name default is dash other =
    ap (λ (it : Bor (List ℕ)). files it.now) is ∙ ap (λ b. if b then standard else files given.now) (sym other ∙ ap (λ (it : Bor (List ℕ)). bytes_eq it.now (codes "-")) is)

-- a run over the bytes that are named is what the arguments ask for
pub named-ends : (known : Option (List ℕ)) (files : List ℕ → Option (List ℕ)) (standard before after : Option (List ℕ)) (invocation : Invocation) (code : ExitCode) →
    known ≡ bytes_named files standard (option_map (λ name. name.now) invocation.file) →
    IfSome (option_map (output_of invocation.mode invocation.options) known) (λ asked. EndsAs asked before after code) →
    IfSome (output_over files standard invocation) (λ asked. EndsAs asked before after code)
named-ends known files standard before after invocation code is ends =
    subst (λ it. IfSome (option_map (output_of invocation.mode invocation.options) it) (λ asked. EndsAs asked before after code)) is ends

-- a run that writes to empty blocks ends as is stated for a plan with this output
pub plan-ends : {W : Type 0} (contents : W → Option (List ℕ)) (output : Output) (before after : Blocks W) (code : ExitCode) → NothingBuffered before →
    PlansWith output (gathered_bytes contents before) (gathered_bytes contents after) code →
    (exit_status code ≢ 3 → PlansWith output (contents (buffered_writer before)) (contents (buffered_writer after)) code) →
    EndsAs output (contents (buffered_writer before)) (contents (buffered_writer after)) code
plan-ends contents output before after code nothing gathered given =
    plans-as output (contents (buffered_writer before)) (contents (buffered_writer after)) (buffered_output after) code
    (subst (λ known. PlansWith output known (gathered_bytes contents after) code) (known-nil (contents (buffered_writer before)) (buffered_output before) nothing) gathered)
    given

-- the same of a run over a reader
pub run-ends : {W : Type 0} (contents : W → Option (List ℕ)) (output : List ℕ → Output) (input left : Option (List ℕ)) (before after : Blocks W) (code : ExitCode) → NothingBuffered before →
    LosesPrefix input left → ExitsWith output input left (gathered_bytes contents before) (gathered_bytes contents after) code →
    (exit_status code ≢ 3 → ExitsWith output input left (contents (buffered_writer before)) (contents (buffered_writer after)) code) →
    IfSome (option_map output input) (λ asked. EndsAs asked (contents (buffered_writer before)) (contents (buffered_writer after)) code)
run-ends contents output input left before after code nothing loses gathered given =
    exits-as output input left (contents (buffered_writer before)) (contents (buffered_writer after)) (buffered_output after) code loses
    (subst (λ known. ExitsWith output input left known (gathered_bytes contents after) code) (known-nil (contents (buffered_writer before)) (buffered_output before) nothing) gathered)
    given

-- a plan for the pair of the arguments is what they ask for
pub pair-ends : (files : List ℕ → Option (List ℕ)) (standard before after : Option (List ℕ)) (invocation : Invocation) (texts : PairArguments) (code : ExitCode) → invocation.pair ≡ Some texts →
    EndsAs (planned_texts invocation.options.plan texts.from.now texts.to.now) before after code → EndsFor files standard before after invocation code
pair-ends files standard before after invocation texts code is ends = record {
  output = subst (λ (pair : Option PairArguments). IfSome (output_with files standard invocation pair) (λ output. EndsAs output before after code)) (sym is) ends;
  kinds = λ none. absurd (false≢true (ap is_some (sym none ∙ is)));
}

-- Laws of the modes' outputs: what a user can rely on, when one mode reads what another printed.
use Rattle.std.specs.Prelude.{◌≡◌, ◌≤◌, ◌+◌, ◌-◌, ◌||◌, ℕ, ⊤, true, false, List, ◌++◌, [], ◌∷◌, length, slice_get, codes, Result, Ok, Err, Some, None}
use Rattle.ascii_text.specs.Lines.{newline, lines_of}
use Rattle.dd_file.specs.Laws.{ends_in_long_blank, directives_of, IsComplete}
use Rattle.dd_file.specs.DirectiveText.{DirectiveText}
use Rattle.dd_file.specs.Position.{longest_input}
use Rattle.dd_file.specs.Grammar.{Script, script_of, listing_of}
use Rattle.dd_file.specs.Items.{Item}
use Rattle.conf_change.specs.declared.floor.Floor.{Floor}
use Rattle.conf_change.specs.declared.floor.Floor.TheVariants.{One}
use Rattle.quorum_sets.specs.Ids.{has}
use Rattle.conf_change.specs.Configuration.{Configuration, has_voter, is_member}
use Rattle.conf_change.specs.declared.step.Step.{Step}
use Rattle.conf_plan.specs.Best.{IsBest}
use Rattle.conf_plan.specs.OneChangeEach.{one_change_each, LeadsChangeByChange}
use Rattle.conf_plan.specs.PathBy.{has_path, ids_down, KeepsPromises}
use Rattle.conf_session.specs.SessionState.{SessionState, new_session, current}
use Rattle.conf_session.specs.Commands.{answer, after_answers}
use Rattle.conf_session.specs.Undo.{undo_plan_of}
use Rattle.plan_output.specs.CarriedOut.{LinesLead}
use Rattle.plan_output.specs.Json.{path_json}
use Rattle.plan_output.specs.Stages.{AreOnTheWay, stages}
use Rattle.plan_input.specs.MemberList.{is_member_list}
use Rattle.conf_tool.specs.Pairs.{Pair, NumberedLine, numbered, configuration_lines, strategy_from, pair_at, pair_of_texts}
use Rattle.conf_tool.specs.declared.plan_input_fault.PlanInputFault.{PlanInputFault}
use Rattle.conf_tool.specs.PlanScript.{default_session}
use Rattle.conf_tool.specs.PlanAnswer.{path_text, path_between, plan_text_between, session_between}
use Rattle.conf_tool.specs.declared.plan_options.PlanOptions.{PlanOptions}
use Rattle.conf_tool.specs.declared.plan_options.PlanOutput.TheVariants.{Script as ScriptOutput}
use Rattle.conf_plan.specs.declared.strategy.Strategy.TheVariants.{Shortest}
use Rattle.conf_tool.specs.Reports.{session_after_all}
use Rattle.conf_tool.specs.Outputs.{checked, rewritten, undone_output, planned_output, planned_texts, separator}
use Rattle.conf_tool.specs.UndoScript.{TakesSteps}
use Rattle.conf_tool.specs.declared.status.Status.TheVariants.{Clean}

-- A rewritten script checks clean, and so does what is written of one with an error. (If that ends in a blank of
-- several lines, the newline that is dropped may leave a lone backslash on the last line.)
abbrev pub RewrittenClean : Type 0
RewrittenClean = (input : List ℕ) (history : ℕ) (floor : Floor) →
    ends_in_long_blank (script_of input).items ≡ false → length (rewritten input history floor).text ≤ longest_input →
    (checked (rewritten input history floor).text history floor).outcome ≡ Ok Clean

-- A complete script that checks clean, two newlines, and the script that undoes its last changes, together check clean;
-- also if there is nothing to do, or no plan.
abbrev pub JoinedClean : Type 0
JoinedClean = (script : List ℕ) (history : ℕ) (floor : Floor) (count : ℕ) →
    IsComplete (lines_of script) → (checked script history floor).outcome ≡ Ok Clean →
    let joined = (script ++ newline ++ newline) ++ (undone_output script history floor count).text in
    length joined ≤ longest_input → (checked joined history floor).outcome ≡ Ok Clean

-- A script is read without an error, and a session that runs it takes the steps, one for each directive, and returns to
-- the configuration before its last `count` changes. There are at most four steps, or three if one change is undone.
pub record LeadsBackBy (session : SessionState) (count : ℕ) (steps : List Step) (script : Script Item) : Type 0 where
  pub whole : script.fault ≡ None
  pub taken : TakesSteps session (directives_of script.items) steps
  pub at_most_four : length steps ≤ 4
  pub at_most_three : count ≡ 1 → length steps ≤ 3
  pub back : slice_get session.kept (count - 1) ≡ Some (current (session_after_all session script.items))

-- A session that ran a script without an error, and then runs what `undo` prints for it, takes the steps of the plan
-- and comes back.
abbrev pub UndoScriptLeadsBack : Type 0
UndoScriptLeadsBack = (script : List ℕ) (history : ℕ) (floor : Floor) (count : ℕ) (steps : List Step) →
    let session = session_after_all (new_session history floor) (script_of script).items in
    let printed = (undone_output script history floor count).text in
    (script_of script).fault ≡ None → 1 ≤ count → undo_plan_of session count ≡ Ok steps → length printed ≤ longest_input →
    LeadsBackBy session count steps (script_of printed)

-- pairs with one more before them, if it was read; else no pairs
abbrev pub pair_before : Result Pair PlanInputFault → List Pair → List Pair
pair_before (Err bad) pairs = []
pair_before (Ok pair) pairs = pair ∷ pairs

-- the pairs that lines denote, up to the first line with an error
abbrev pub named_pairs : PlanOptions → List NumberedLine → List Pair
named_pairs options [] = []
named_pairs options (line ∷ []) = []
named_pairs options (first ∷ second ∷ lines) = pair_before (pair_at options first second) (named_pairs options lines)

-- the pairs that an input denotes, up to the first line with an error
abbrev pub pairs_in : PlanOptions → List ℕ → List Pair
pairs_in options input = named_pairs options (configuration_lines (numbered 1 (listing_of input).items))

-- the pair that the values of --from and --to denote, if they denote one
abbrev pub pairs_in_texts : PlanOptions → List ℕ → List ℕ → List Pair
pairs_in_texts options from to = pair_before (pair_of_texts options from to) []

-- What a pair that is read is: its strategy is the one for the text of its current configuration, and each id that is
-- down is a member of one of its configurations.
pub record IsAsked (options : PlanOptions) (from : List ℕ) (pair : Pair) : Type 0 where
  pub strategy : pair.strategy ≡ strategy_from options.strategy (is_member_list from)
  pub members : (id : ℕ) → has (ids_down options.down) id ≡ true →
      (is_member pair.current id || is_member pair.target id) ≡ true

-- This is so of the pair of two lines, and of that of the values of --from and --to.
pub record PairsAreAsked : Type 0 where
  pub lines : (options : PlanOptions) (first second : NumberedLine) (pair : Pair) →
      pair_at options first second ≡ Ok pair → IsAsked options first.text pair
  pub texts : (options : PlanOptions) (from to : List ℕ) (pair : Pair) →
      pair_of_texts options from to ≡ Ok pair → IsAsked options from pair

-- the replies of `plan` to pairs in turn, the first of which has this number and is answered in this session
abbrev pub texts_from : PlanOptions → SessionState → ℕ → List Pair → List (List ℕ)
texts_from options session number [] = []
texts_from options session number (pair ∷ pairs) =
    plan_text_between options session number pair ∷ texts_from options (session_between options session pair) (number + 1) pairs

-- texts with a separator between each two
abbrev pub separated_by : List ℕ → List (List ℕ) → List ℕ
separated_by part [] = []
separated_by part (text ∷ []) = text
separated_by part (text ∷ next ∷ texts) = text ++ (part ++ separated_by part (next ∷ texts))

-- Texts for pairs in turn, the first of which has this number and is answered in this session. Holds is true of each
-- pair and its text.
abbrev pub EachInTurn : PlanOptions → (SessionState → ℕ → Pair → List ℕ → Type 0) → SessionState → ℕ → List Pair → List (List ℕ) → Type 0
EachInTurn options Holds session number [] [] = ⊤
EachInTurn options Holds session number [] (text ∷ texts) = ⊥
EachInTurn options Holds session number (pair ∷ pairs) [] = ⊥
EachInTurn options Holds session number (pair ∷ pairs) (text ∷ texts) =
    Holds session number pair text × EachInTurn options Holds (session_between options session pair) (number + 1) pairs texts

-- `plan` prints texts for the pairs of the input with a separator between each two, and Holds is true of each.
abbrev pub PrintsEach : PlanOptions → List ℕ → (SessionState → ℕ → Pair → List ℕ → Type 0) → Type 0
PrintsEach options input Holds =
    (texts : List (List ℕ)) × ((planned_output options input).text ≡ separated_by (separator options.output) texts) × EachInTurn options Holds default_session 1 (pairs_in options input) texts

-- If the values of --from and --to denote a pair, Holds is true of it and of the text that `plan` prints for them.
abbrev pub PrintsPair : PlanOptions → List ℕ → List ℕ → (SessionState → ℕ → Pair → List ℕ → Type 0) → Type 0
PrintsPair options from to Holds = (pair : Pair) → pair_of_texts options from to ≡ Ok pair → Holds default_session 1 pair (planned_texts options from to).text

-- if the strategy of a pair is shortest and both configurations have a voter, the text is that of the best plan from
-- the one to the other
abbrev pub IsBestPlan : PlanOptions → SessionState → ℕ → Pair → List ℕ → Type 0
IsBestPlan options session number pair text =
    pair.strategy ≡ Shortest → has_voter pair.current ≡ true → has_voter pair.target ≡ true → (steps : List Step) × (text ≡ path_text options session number pair.current steps) × IsBest pair.current steps pair.target

-- In each form of the output, `plan` prints the best plan of each pair whose strategy is shortest, those of an input
-- and that of --from and --to. For an input of one pair nothing else is printed, and the run ends clean if no ids are
-- down.
pub record PrintedPlanIsBest : Type 0 where
  pub each : (options : PlanOptions) (input : List ℕ) → PrintsEach options input (IsBestPlan options)
  pub texts : (options : PlanOptions) (from to : List ℕ) → PrintsPair options from to (IsBestPlan options)
  pub alone : (options : PlanOptions) (input : List ℕ) (first second : NumberedLine) (pair : Pair) →
      options.down ≡ None → (listing_of input).fault ≡ None →
      configuration_lines (numbered 1 (listing_of input).items) ≡ first ∷ second ∷ [] →
      pair_at options first second ≡ Ok pair →
      pair.strategy ≡ Shortest → has_voter pair.current ≡ true → has_voter pair.target ≡ true → (steps : List Step) ×
      (planned_output options input ≡
      record { text = path_text options default_session 1 pair.current steps; outcome = Ok Clean }) ×
      IsBest pair.current steps pair.target

-- Steps that keep what the strategy promises. The stages, of which a table shows each, are the configurations on the
-- way, so no step is refused, and the last one is the target. So are those of the steps of one change each, which JSON
-- shows: they have voters of configurations on the way, so what the path keeps of quorums and tolerance, they keep. The
-- lines of JSON lead etcd's raft to the target.
pub record LeadsAsPromised (options : PlanOptions) (number : ℕ) (pair : Pair) (steps : List Step) : Type 0 where
  pub promised : KeepsPromises pair.strategy (ids_down options.down) pair.current steps pair.target
  pub on_the_way : AreOnTheWay (stages pair.current steps) steps pair.target
  pub change_by_change : LeadsChangeByChange pair.current steps pair.target
  pub single_changes : AreOnTheWay (stages pair.current (one_change_each steps)) (one_change_each steps) pair.target
  pub lines : LinesLead pair.current pair.current (path_json number pair.current steps options.down) pair.target

-- The text is that of the path between the configurations of a pair, which leads as its strategy promises, if both have
-- a voter and the strategy has a path.
abbrev pub IsPromisedPath : PlanOptions → SessionState → ℕ → Pair → List ℕ → Type 0
IsPromisedPath options session number pair text =
    has_voter pair.current ≡ true → has_voter pair.target ≡ true → has_path pair.strategy pair.current pair.target ≡ true →
    (steps : List Step) × (path_between options pair ≡ Ok steps) × (text ≡ path_text options session number pair.current steps) × LeadsAsPromised options number pair steps

-- In each form of the output, `plan` prints for each pair, those of an input and that of --from and --to, a path that
-- keeps what the strategy of the pair promises.
pub record PrintedPathKeepsPromises : Type 0 where
  pub each : (options : PlanOptions) (input : List ℕ) → PrintsEach options input (IsPromisedPath options)
  pub texts : (options : PlanOptions) (from to : List ℕ) → PrintsPair options from to (IsPromisedPath options)

-- A session that runs these directives restores a configuration by the first, takes steps by the others, one by each,
-- and is in another configuration then.
pub record RestoresAndTakes (session : SessionState) (first : DirectiveText) (others : List DirectiveText) (now : Configuration) (steps : List Step) (target : Configuration) : Type 0 where
  pub command : first.command ≡ codes "restore"
  pub restored : current (answer session first).session ≡ now
  pub taken : TakesSteps (answer session first).session others steps
  pub there : current (after_answers session (first ∷ others)) ≡ target

-- Directives that lead a session through pairs: for each pair that has a path, some restore its first configuration and
-- take the steps of the path to the second one. A pair without a path has no directive.
pub data LeadsThrough (options : PlanOptions) : SessionState → List DirectiveText → List Pair → Type 0 where
  NoPair : (session : SessionState) → LeadsThrough options session [] []
  WithPath : (session : SessionState) (first : DirectiveText) (others more : List DirectiveText) (pair : Pair) (pairs : List Pair) (steps : List Step) →
      path_between options pair ≡ Ok steps → RestoresAndTakes session first others pair.current steps pair.target →
      LeadsThrough options (after_answers session (first ∷ others)) more pairs → LeadsThrough options session (first ∷ others ++ more) (pair ∷ pairs)
  WithoutPath : (session : SessionState) (directives : List DirectiveText) (pair : Pair) (pairs : List Pair) (why : List ℕ) →
      path_between options pair ≡ Err why → LeadsThrough options session directives pairs → LeadsThrough options session directives (pair ∷ pairs)

-- The text is a script that checks clean without options, and a session that runs it takes the steps of the path of each
-- pair, from its first configuration to the second.
pub record IsScriptOf (options : PlanOptions) (pairs : List Pair) (text : List ℕ) : Type 0 where
  pub clean : (checked text 100 One).outcome ≡ Ok Clean
  pub leads : LeadsThrough options default_session (directives_of (script_of text).items) pairs

-- The scripts that `plan` prints for the pairs of an input are one script, which leads through the pairs. So does what it
-- prints for the values of --from and --to.
pub record PlanScriptLeads : Type 0 where
  pub each : (options : PlanOptions) (input : List ℕ) → options.output ≡ ScriptOutput → length (planned_output options input).text ≤ longest_input →
      IsScriptOf options (pairs_in options input) (planned_output options input).text
  pub texts : (options : PlanOptions) (from to : List ℕ) → options.output ≡ ScriptOutput → length (planned_texts options from to).text ≤ longest_input →
      IsScriptOf options (pairs_in_texts options from to) (planned_texts options from to).text

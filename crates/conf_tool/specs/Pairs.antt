-- The pairs that the mode `plan` reads: the first text of a pair is the current configuration, the second the target.
-- They are two lines of the input, or the values of --from and --to. The first one also decides the strategy.
use Rattle.std.specs.Prelude.{◌≡◌, ◌⊎◌, ℕ, ◌+◌, Bool, not, ◌||◌, List, [], ◌∷◌, filter, Option, Some, None, Result, Ok, Err, if◌then◌else◌}
use Rattle.ascii_text.specs.WhiteSpace.{is_blank}
use Rattle.dd_file.specs.Script.{is_comment}
use Rattle.conf_change.specs.Configuration.{Configuration}
use Rattle.conf_plan.specs.declared.strategy.Strategy.{Strategy}
use Rattle.conf_plan.specs.declared.strategy.Strategy.TheVariants.{Shortest, OneAtATime}
use Rattle.plan_input.specs.Input.{current_in, target_in}
use Rattle.plan_input.specs.MemberList.{is_member_list}
use Rattle.plan_input.specs.Nonmember.{first_nonmember}
use Rattle.plan_input.specs.declared.text_fault.TextFault.{TextFault}
use Rattle.conf_tool.specs.declared.origin.Origin.{Origin}
use Rattle.conf_tool.specs.declared.origin.Origin.TheVariants.{Line, From, To}
use Rattle.conf_tool.specs.declared.pair.Current.{Current}
use Rattle.conf_tool.specs.declared.plan_input_fault.PlanInputFault.{PlanInputFault}
use Rattle.conf_tool.specs.declared.plan_input_fault.PlanInputFault.TheVariants.{BadText, NotAMember, NotAMemberAt}
use Rattle.conf_tool.specs.declared.plan_options.PlanOptions.{PlanOptions}
use Rattle.conf_tool.specs.declared.tool_fault.ToolFault.{ToolFault}
use Rattle.conf_tool.specs.declared.tool_fault.ToolFault.TheVariants.{Configurations, NoMemory}

-- ---- lines
-- a line with its number in the input, counted from 1
pub record NumberedLine : Type 0 where
  pub number : ℕ
  pub text : List ℕ

-- lines with their numbers, the first of which is this one
abbrev pub numbered : ℕ → List (List ℕ) → List NumberedLine
numbered number [] = []
numbered number (line ∷ lines) = record { number = number; text = line } ∷ numbered (number + 1) lines

-- whether a line is skipped: it is blank or a comment, as in a script
abbrev pub is_skipped : List ℕ → Bool
is_skipped line = is_blank line || is_comment line

-- the lines that are not skipped
abbrev pub configuration_lines : List NumberedLine → List NumberedLine
configuration_lines lines = filter (λ line. not (is_skipped line.text)) lines

-- a configuration, or what is wrong with the text that is written there
abbrev pub written_at : Origin → Result Configuration TextFault → Result Configuration PlanInputFault
written_at origin (Ok c) = Ok c
written_at origin (Err fault) = Err (BadText origin fault)

-- ---- the current configuration
-- The strategy of the plan from a configuration. If none is given, it is one-at-a-time for a list of members as etcdctl
-- prints it, since etcd's server makes one change at a time, and shortest otherwise.
abbrev pub strategy_from : Option Strategy → Bool → Strategy
strategy_from (Some strategy) is_member_list = strategy
strategy_from None is_member_list = if is_member_list then OneAtATime else Shortest

-- a current configuration that was read there, with the strategy of the plan from it
abbrev pub begun : Origin → Strategy → Result Configuration PlanInputFault → Result Current PlanInputFault
begun origin strategy (Ok c) = Ok (record { origin = origin; config = c; strategy = strategy })
begun origin strategy (Err fault) = Err fault

-- the current configuration that is written there, with the strategy of the plan from it
abbrev pub current_written : PlanOptions → Origin → List ℕ → Result Current PlanInputFault
current_written options origin text =
    begun origin (strategy_from options.strategy (is_member_list text)) (written_at origin (current_in text))

-- the current configuration that a line denotes
abbrev pub current_at : PlanOptions → NumberedLine → Result Current PlanInputFault
current_at options line = current_written options (Line line.number) line.text

-- ---- the pair
-- what is planned: the current configuration, the target, and the strategy of the plan from the one to the other
pub record Pair : Type 0 where
  pub current : Configuration
  pub target : Configuration
  pub strategy : Strategy

-- the pair of a current configuration and a target
abbrev pub pair_between : Current → Configuration → Pair
pair_between current target = record { current = current.config; target = target; strategy = current.strategy }

-- the error that an id is down and not a member: in the line of the target, or on the command line
abbrev pub not_member : Origin → ℕ → PlanInputFault
not_member (Line number) id = NotAMemberAt number id
not_member From id = NotAMember id
not_member To id = NotAMember id

-- a pair, unless this id is down and not a member of either configuration
abbrev pub of_members : Origin → Option ℕ → Pair → Result Pair PlanInputFault
of_members origin None pair = Ok pair
of_members origin (Some id) pair = Err (not_member origin id)

-- The pair of a current configuration and the target that was read there, or what is wrong: with the text, or with the
-- ids that are down, of which the least one that is a member of neither configuration is reported.
abbrev pub paired : PlanOptions → Origin → Current → Result Configuration PlanInputFault → Result Pair PlanInputFault
paired options origin current (Ok target) =
    of_members origin (first_nonmember options.down current.config target) (pair_between current target)
paired options origin current (Err fault) = Err fault

-- the pair of a current configuration and the target that is written there
abbrev pub pair_from : PlanOptions → Origin → List ℕ → Current → Result Pair PlanInputFault
pair_from options origin text current =
    paired options origin current (written_at origin (target_in current.config text))

-- the pair that follows from a current configuration, or what is wrong with that
abbrev pub with_target : (Current → Result Pair PlanInputFault) → Result Current PlanInputFault → Result Pair PlanInputFault
with_target target (Ok current) = target current
with_target target (Err fault) = Err fault

-- the pair of two texts that are written there, or what is wrong with the first of them that is not right
abbrev pub pair_written : PlanOptions → Origin → List ℕ → Origin → List ℕ → Result Pair PlanInputFault
pair_written options from first to second =
    with_target (pair_from options to second) (current_written options from first)

-- the pair of a current configuration and the target that a line denotes
abbrev pub pair_to : PlanOptions → NumberedLine → Current → Result Pair PlanInputFault
pair_to options line current = pair_from options (Line line.number) line.text current

-- the pair of two lines
abbrev pub pair_at : PlanOptions → NumberedLine → NumberedLine → Result Pair PlanInputFault
pair_at options first second = pair_written options (Line first.number) first.text (Line second.number) second.text

-- the pair of the values of --from and --to
abbrev pub pair_of_texts : PlanOptions → List ℕ → List ℕ → Result Pair PlanInputFault
pair_of_texts options from to = pair_written options From from To to

-- the error of a text that was read: what is wrong with it, or that memory ran out
abbrev pub IsFaultOf : {A : Type 0} → Result A PlanInputFault → ToolFault → Type 0
IsFaultOf read fault = (fault ≡ NoMemory) ⊎ ((bad : PlanInputFault) × (fault ≡ Configurations bad) × (read ≡ Err bad))

-- Outputs of which the first parts were written.
use Rattle.std.proofs.Common.{◌≡◌, ℕ, true, false, List, [], ◌∷◌, ◌++◌, refl, sym, ◌∙◌, ap, subst, arith}
use Rattle.std.specs.Prelude.{Option, Some, None, Result, Ok, Err}
use Rattle.std.specs.Io.KnownBytes.{Appends, Keeps}
use Rattle.std.proofs.lemmas.List.{append_assoc, append-nil}
use Rattle.dd_file.specs.Device.{AppendsPart}
use Rattle.dd_file.specs.Grammar.{Script}
use Rattle.dd_file.specs.declared.fault.FileFault.{FileFault}
use Rattle.dd_file.proofs.Offered.{appends-append, part-part, append-part, part-append}
use Rattle.conf_tool.specs.Answered.{script, prepended, with_prefix, WrotePrefix}
use Rattle.conf_tool.specs.Outputs.{Output, ends, output}
use Rattle.conf_tool.specs.Run.{Wrote, Means, CanAnswer, IsStop, is_read_failure, is_write_failure, is_whole_output}
use Rattle.conf_tool.specs.declared.mode.Mode.{Mode}
use Rattle.conf_tool.specs.declared.tool_fault.ToolFault.{ToolFault}
use Rattle.conf_tool.specs.declared.tool_fault.ToolFault.TheVariants.{Script as ScriptFault, Configurations, Read, Write, NoMemory}
use Rattle.conf_tool.specs.declared.status.Status.{Status}

-- ---- known bytes
pub appends-nothing : (before : Option (List ℕ)) → Appends before before []
appends-nothing None = tt
appends-nothing (Some bytes) = sym (append-nil bytes)

pub part-nothing : (before : Option (List ℕ)) (text : List ℕ) → AppendsPart before before text
part-nothing None text = tt
part-nothing (Some bytes) text = ([], text, refl, sym (append-nil bytes))

-- bytes, or a part of them, are appended, and a flush changes nothing
kept-appends : (old mid new : Option (List ℕ)) (bytes : List ℕ) → Appends old mid bytes → Keeps mid new → Appends old new bytes
kept-appends None mid new bytes a k = tt
kept-appends (Some o) None new bytes a k = absurd a
kept-appends (Some o) (Some m) None bytes a k = absurd k
kept-appends (Some o) (Some m) (Some n) bytes a k = k ∙ a

pub kept-part : (old mid new : Option (List ℕ)) (bytes : List ℕ) → AppendsPart old mid bytes → Keeps mid new → AppendsPart old new bytes
kept-part None mid new bytes a k = tt
kept-part (Some o) None new bytes a k = absurd a
kept-part (Some o) (Some m) None bytes a k = absurd k
kept-part (Some o) (Some m) (Some n) bytes a k = (a.0, a.1, a.2, k ∙ a.3)

-- ---- what was written, and what is left
pub wrote-nothing : {A : Type 0} (total left : Script A → Output) (before : Option (List ℕ)) → ((rest : Script A) → left rest ≡ total rest) → WrotePrefix total left [] before before
wrote-nothing total left before all = record { text = []; wrote = appends-nothing before; is = λ rest. sym (all rest) }

pub wrote-kept : {A : Type 0} (total left : Script A → Output) (parts : List A) (before mid new : Option (List ℕ)) → WrotePrefix total left parts before mid → Keeps mid new → WrotePrefix total left parts before new
wrote-kept total left parts before mid new prefix k = record { text = prefix.text; wrote = kept-appends before mid new prefix.text prefix.wrote k; is = prefix.is }

-- it is a prefix of the output, whatever input follows
pub wrote-prefix : {A : Type 0} (total left : Script A → Output) (parts : List A) (before mid : Option (List ℕ)) → WrotePrefix total left parts before mid → (rest : Script A) → AppendsPart before mid (total (prepended parts rest)).text
wrote-prefix total left parts before mid prefix rest =
    subst (λ (o : Output). AppendsPart before mid o.text) (sym (prefix.is rest)) (part-append before mid prefix.text (left rest).text prefix.wrote)

with_prefix-append : (xs ys : List ℕ) (output : Output) → with_prefix xs (with_prefix ys output) ≡ with_prefix (xs ++ ys) output
with_prefix-append xs ys output = ap (λ t. record { text = t; outcome = output.outcome }) (sym (append_assoc xs ys output.text))

-- the reply to a part, by what was left before it and is left after it
abbrev Replies : {A : Type 0} → (Script A → Output) → (Script A → Output) → A → List ℕ → Type 0
Replies {A} left next part text = (rest : Script A) → left (prepended (part ∷ []) rest) ≡ with_prefix text (next rest)

replied : {A : Type 0} (total left next : Script A → Output) (parts : List A) (part : A) (text : List ℕ) (before mid : Option (List ℕ)) →
    (prefix : WrotePrefix total left parts before mid) → Replies left next part text → (rest : Script A) → total (prepended parts (prepended (part ∷ []) rest)) ≡ with_prefix (prefix.text ++ text) (next rest)
replied total left next parts part text before mid prefix gives rest =
    prefix.is (prepended (part ∷ []) rest) ∙ ap (with_prefix prefix.text) (gives rest) ∙ with_prefix-append prefix.text text (next rest)

pub wrote-part : {A : Type 0} (total left next : Script A → Output) (parts : List A) (part : A) (text : List ℕ) (before mid new : Option (List ℕ)) →
    WrotePrefix total left parts before mid → Replies left next part text → Appends mid new text → WrotePrefix total next (parts ++ part ∷ []) before new
wrote-part total left next parts part text before mid new prefix gives appends = record {
  text = prefix.text ++ text;
  wrote = appends-append before mid new prefix.text text prefix.wrote appends;
  is = λ rest.
      ap (λ items. total (script items rest.fault)) (append_assoc parts (part ∷ []) rest.items)
      ∙ replied total left next parts part text before mid prefix gives rest;
}

-- .. of which a part was written
pub wrote-cut : {A : Type 0} (total left next : Script A → Output) (parts : List A) (part : A) (text : List ℕ) (before mid new : Option (List ℕ)) →
    WrotePrefix total left parts before mid → Replies left next part text → AppendsPart mid new text → (rest : Script A) → AppendsPart before new (total (prepended parts (prepended (part ∷ []) rest))).text
wrote-cut total left next parts part text before mid new prefix gives cut rest =
    subst (λ (o : Output). AppendsPart before new o.text) (sym (replied total left next parts part text before mid prefix gives rest))
    (part-part before new (prefix.text ++ text) (next rest).text (append-part before mid new prefix.text text prefix.wrote cut))

-- ---- what stops a mode
pub stop-means : {A : Type 0} (mode : Mode) (stop : ToolFault) (total left : Script A → Output) (parts : List A) (part : A) (before mid : Option (List ℕ)) → WrotePrefix total left parts before mid →
    IsStop mode stop ((rest : Script A) → left (prepended (part ∷ []) rest) ≡ ends (Err stop)) → (rest : Script A) → Means (total (prepended parts (prepended (part ∷ []) rest))) (Err stop) before mid
stop-means mode (ScriptFault fault) total left parts part before mid prefix is rest = absurd is
stop-means mode (Configurations fault) total left parts part before mid prefix is rest =
    let whole = prefix.is (prepended (part ∷ []) rest) ∙ ap (with_prefix prefix.text) (is.1 rest) in
    (ap (λ o. o.outcome) whole, subst (λ t. Appends before mid t) (sym (ap (λ o. o.text) whole ∙ append-nil prefix.text)) prefix.wrote)
stop-means mode Read total left parts part before mid prefix is rest = absurd is
stop-means mode Write total left parts part before mid prefix is rest = absurd is
stop-means mode NoMemory total left parts part before mid prefix is rest = wrote-prefix total left parts before mid prefix (prepended (part ∷ []) rest)

pub means-of : {A : Type 0} (total : Script A → Output) (read written : Script A) (stop : ToolFault) (before after : Option (List ℕ)) → read ≡ written → Means (total written) (Err stop) before after → Means (total read) (Err stop) before after
means-of total read written stop before after same means = subst (λ s. Means (total s) (Err stop) before after) (sym same) means

-- .. which is an error of that mode, and none of a reader or writer
pub record IsOfMode (X : Type 0) (mode : Mode) (stop : ToolFault) : Type 0 where
  pub kind : CanAnswer mode (Err stop)
  pub unread : is_read_failure {X = X} (Err stop) ≡ false
  pub unwritten : is_write_failure {X = X} (Err stop) ≡ false

pub stop-kind : (Ends X : Type 0) (mode : Mode) (stop : ToolFault) → IsStop mode stop Ends → IsOfMode X mode stop
stop-kind Ends X mode (ScriptFault fault) is = absurd is
stop-kind Ends X mode (Configurations fault) is = record { kind = is.0; unread = refl; unwritten = refl }
stop-kind Ends X mode Read is = absurd is
stop-kind Ends X mode Write is = absurd is
stop-kind Ends X mode NoMemory is = record { kind = tt; unread = refl; unwritten = refl }

-- ---- the end
ended : {A : Type 0} (total left : Script A → Output) (parts : List A) (fault : Option FileFault) (text : List ℕ) (outcome : Result Status ToolFault) (before mid : Option (List ℕ)) →
    (prefix : WrotePrefix total left parts before mid) → left (script [] fault) ≡ output text outcome → total (script parts fault) ≡ output (prefix.text ++ text) outcome
ended total left parts fault text outcome before mid prefix is =
    ap (λ items. total (script items fault)) (sym (append-nil parts)) ∙ prefix.is (script [] fault) ∙ ap (with_prefix prefix.text) is

whole-means : (output : Output) (outcome : Result Status ToolFault) (before after : Option (List ℕ)) → is_whole_output outcome ≡ true → Wrote output outcome before after → Means output outcome before after
whole-means output (Ok status) before after whole wrote = wrote
whole-means output (Err (ScriptFault fault)) before after whole wrote = wrote
whole-means output (Err (Configurations fault)) before after whole wrote = wrote
whole-means output (Err Read) before after whole wrote = cc
whole-means output (Err Write) before after whole wrote = cc
whole-means output (Err NoMemory) before after whole wrote = cc

pub whole-unfailed : (outcome : Result Status ToolFault) → is_whole_output outcome ≡ true → (is_read_failure outcome ≡ false) × (is_write_failure outcome ≡ false)
whole-unfailed outcome whole = (grind arith, grind arith)

pub wrote-end : {A : Type 0} (total left : Script A → Output) (parts : List A) (fault : Option FileFault) (text : List ℕ) (outcome : Result Status ToolFault) (before mid new : Option (List ℕ)) →
    WrotePrefix total left parts before mid → left (script [] fault) ≡ output text outcome → is_whole_output outcome ≡ true → Appends mid new text → Means (total (script parts fault)) outcome before new
wrote-end total left parts fault text outcome before mid new prefix ends whole appends =
    let is = ended total left parts fault text outcome before mid prefix ends in
    whole-means _ outcome before new whole
    (ap (λ o. o.outcome) is, subst (λ t. Appends before new t) (sym (ap (λ o. o.text) is)) (appends-append before mid new prefix.text text prefix.wrote appends))

-- .. of which a part was written
pub wrote-end_part : {A : Type 0} (total left : Script A → Output) (parts : List A) (fault : Option FileFault) (text : List ℕ) (outcome : Result Status ToolFault) (before mid new : Option (List ℕ)) →
    WrotePrefix total left parts before mid → left (script [] fault) ≡ output text outcome → AppendsPart mid new text → AppendsPart before new (total (script parts fault)).text
wrote-end_part total left parts fault text outcome before mid new prefix ends cut =
    subst (λ (o : Output). AppendsPart before new o.text) (sym (ended total left parts fault text outcome before mid prefix ends)) (append-part before mid new prefix.text text prefix.wrote cut)

-- .. or nothing
pub wrote-no_end : {A : Type 0} (total left : Script A → Output) (parts : List A) (fault : Option FileFault) (before mid : Option (List ℕ)) → WrotePrefix total left parts before mid → AppendsPart before mid (total (script parts fault)).text
wrote-no_end total left parts fault before mid prefix =
    subst (λ items. AppendsPart before mid (total (script items fault)).text) (append-nil parts) (wrote-prefix total left parts before mid prefix (script [] fault))

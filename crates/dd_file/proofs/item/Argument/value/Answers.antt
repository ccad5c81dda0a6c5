use Rattle.std.proofs.Common.{◌≡◌, ◌+◌, ◌≤◌, ℕ, List, [], ◌∷◌, length, drop, get_or, Some, None, sym, ap, ◌∙◌, arith}
use Rattle.std.specs.Prelude.{Option, option_map, slice_get, MatchOption}
use Rattle.std.proofs.lemmas.List.{length-drop, get_or-drop, drop-drop}
use Rattle.std.proofs.lemmas.Option.{slice_get-get_or, slice_get_past}
use Rattle.dd_file.proofs.item.Argument.value.Goals as goal

-- none is left after the last one
past : (values left : List (List ℕ)) (k i : ℕ) → left ≡ drop k values → left ≡ [] → k ≤ i → slice_get values i ≡ None
past values left k i is none within = slice_get_past values i (omega (arith, within, length-drop k values, ap length (sym is ∙ none)))

-- the first one that is left
next : (values left : List (List ℕ)) (value : List ℕ) (i : ℕ) → value ∷ left ≡ drop i values → slice_get values i ≡ Some value
next values left value i is =
    slice_get-get_or values i value (omega (arith, length-drop i values, ap length is))
    ∙ (let same : i ≡ i + 0 = omega arith in ap Some (ap (λ k. get_or values k value) same ∙ sym (get_or-drop i values 0 value) ∙ ap (λ l. get_or l 0 value) (sym is)))

pub returns-in_err-next : goal.returns-in_err-next
returns-in_err-next c = grind (arith, past, c.from_residual.ensures, c.loop-passed.invariant, c.in_err-next.ensures.0)

pub loop-passed-preserved : goal.loop-passed-preserved
loop-passed-preserved c =
    let is = sym c.loop-passed.invariant ∙ c.in_ok-next.ensures in
    sym (sym (drop-drop 1 c.loop-passed._passed c.args.self.now.values) ∙ ap (drop 1) is)

-- the first one that is left, if one is
found : {B : Type 0} (now : B → List ℕ) (value : Option B) (values left rest : List (List ℕ)) (i : ℕ) → left ≡ drop i values →
    MatchOption value ((left ≡ []) × (rest ≡ [])) (λ one. left ≡ now one ∷ rest) → option_map now value ≡ slice_get values i
found now None values left rest i is none = sym (past values left i i is none.0 (omega arith))
found now (Some one) values left rest i is first = sym (next values rest (now one) i (sym first ∙ is))

pub returns : goal.returns
returns c =
    let values = c.args.self.now.values in
    let end : c.loop-passed._passed ≡ c.args.i = omega arith in
    found (λ value. value.now) c.next-2.result values c.loop-passed.values c.next-2.new.self c.args.i (c.loop-passed.invariant ∙ ap (λ k. drop k values) end) c.next-2.ensures

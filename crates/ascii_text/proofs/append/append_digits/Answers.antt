use Rattle.std.proofs.Common.{◌≡◌, ◌+◌, ◌++◌, length, take, drop, codes, ap, sym, ◌∙◌, refl, arith, length-append}
use Rattle.std.specs.Fmt.{decimal}
use Rattle.std.proofs.lemmas.List.{append_assoc, take-append-drop, take_at, length-drop}
use Rattle.ascii_text.proofs.Digits.{length-between_powers}
use Rattle.ascii_text.proofs.append.append_digits.Goals as goal

pub write_digits-requires : goal.write_digits-requires
write_digits-requires c = grind (arith, length-between_powers, c.len.ensures, c.ilog10.ensures.power_le, c.ilog10.ensures.next_power_gt, c.ilog10.ensures.bound, c.as_mut_slice.ensures.len, c.in_ok-extend_from_slice.ensures.len)

pub returns-clause-ok : goal.returns-clause-ok
returns-clause-ok c =
    let prefix = c.args.text.now.items in
    let digits = decimal c.args.number in
    let items = c.as_mut_slice.result.now in
    let buf = c.write_digits.new.buf in
    let end = c.len.result + c.ilog10.result + 1 in
    let start = c.write_digits.result in
    let digits_len = length-between_powers c.ilog10.result c.args.number c.ilog10.ensures.power_le c.ilog10.ensures.next_power_gt c.ranges.number.fits in
    let wrote = c.write_digits.ensures in
    let few = c.ilog10.ensures.bound in
    let len = c.len.ensures in
    let whole : items ≡ prefix ++ codes "00000000000000000000" = c.as_mut_slice.ensures.value ∙ c.in_ok-extend_from_slice.ensures.items in
    let items_len = ap length whole ∙ length-append prefix (codes "00000000000000000000") in
    let at : length prefix ≡ start = omega arith in
    let parts : buf ≡ (prefix ++ digits) ++ drop end items =
    sym (take-append-drop start buf) ∙ (λ i. wrote.before i ++ wrote.written i)
    ∙ ap (λ xs. xs ++ (digits ++ drop end items)) (ap (take start) whole ∙ take_at prefix (codes "00000000000000000000") start at) ∙ sym (append_assoc prefix digits (drop end items)) in
    let prefix_len = length-append prefix digits in
    let buf_len = ap length parts ∙ length-append (prefix ++ digits) (drop end items) in
    let rest_len = length-drop end items in
    let all = c.as_mut_slice.ensures.len in
    let same : length buf ≡ c.extend_from_slice.new.self.len = omega arith in
    c.truncate.ensures.items ∙ ap (take end) (take_at buf (drop (length buf) c.extend_from_slice.new.self.items) c.extend_from_slice.new.self.len same ∙ parts)
    ∙ take_at (prefix ++ digits) (drop end items) end (omega arith)

pub returns-clause-extends : goal.returns-clause-extends
returns-clause-extends c =
    let prefix = c.args.text.now.items in
    ap (take (length prefix)) (returns-clause-ok c) ∙ take_at prefix (decimal c.args.number) (length prefix) refl

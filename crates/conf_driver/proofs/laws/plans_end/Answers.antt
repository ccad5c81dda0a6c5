use Rattle.std.proofs.Common.{◌≡◌, ◌∷◌, length, refl, ap, arith}
use Rattle.conf_driver.proofs.Ways.{AreMadeAnew, along-can, arrived, at_most, proposed-first, steps_to}
use Rattle.conf_driver.proofs.laws.plans_end.Goals as goal

pub returns-clause-shorter : goal.returns-clause-shorter
returns-clause-shorter c strategy target down view step after can is gives =
    let now = view.conf_state in
    let first = proposed-first strategy target down now step after (record { view = view; before_is = refl; answer = is; gives = gives }) in
    let fewer = c.next_path_is_shorter.ensures.shorter strategy down now after target step first.0 can.valid_now can.valid_target can.path first.1 gives in
    let all : length (steps_to strategy target down now) ≡ length (step ∷ first.0) = ap length first.1 in
    omega (arith, fewer, all)

pub returns-clause-at_most : goal.returns-clause-at_most
returns-clause-at_most c = at_most (record {
  shorter = c.next_path_is_shorter.ensures.shorter;
  has_path = c.next_path_is_shorter.ensures.has_path;
  valid = c.next_path_is_shorter.ensures.valid;
})

pub returns-clause-arrives : goal.returns-clause-arrives
returns-clause-arrives c strategy target down now after steps valid valid_target path way whole =
    let anew : AreMadeAnew = record { shorter = c.next_path_is_shorter.ensures.shorter; has_path = c.next_path_is_shorter.ensures.has_path; valid = c.next_path_is_shorter.ensures.valid } in
    let can = along-can anew strategy target down now after steps valid valid_target path way in
    arrived anew strategy target down now after steps valid valid_target path way (c.one_change_each_leads.ensures strategy down after target can.0 valid_target can.1).run whole

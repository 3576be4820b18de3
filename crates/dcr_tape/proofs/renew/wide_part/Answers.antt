use Rattle.std.proofs.Common.{rules, ◌<◌, ◌≤◌, ◌∙◌, ◌++◌, [], ◌∷◌, length, take, ap}
use Rattle.dcr_tape.specs.Tape.{header_bytes}
use Rattle.dcr_tape.proofs.RenewLemmas.{header_put, next_record, whole_part}
use Rattle.dcr_tape.proofs.renew.wide_part.Goals as goal

pub loop-number-init : goal.loop-number-init
loop-number-init c =
    header_put c.new-part.result.items c.extend_from_slice.new.self.items c.extend_from_slice-2.new.self.items c.extend_from_slice-3.new.self.items c.args.digest.now c.args.entries.now
    c.new-part.ensures.items c.in_ok-extend_from_slice.ensures.items c.in_ok-extend_from_slice-2.ensures.items c.in_ok-extend_from_slice-3.ensures.items

pub loop-number-preserved : goal.loop-number-preserved
loop-number-preserved c =
    let before = c.loop-number.part.items in
    let within : c.loop-number.number < length c.args.entries.now = search rules in
    next_record before c.extend_from_slice-in-loop-number.new.self.items (header_bytes c.args.digest.now) c.args.entries.now c.loop-number.number within _ (search rules) c.loop-number.invariant
    (c.in_ok-extend_from_slice-4.ensures.items ∙ ap (λ h. h ++ take 11 c.payload.result) c.in_ok-push.ensures.items ∙ ap (λ p. (before ++ 1 ∷ []) ++ take 11 p) c.payload.ensures)

pub returns : goal.returns
returns c =
    let all : length c.args.entries.now ≤ c.loop-number.number = search rules in
    c.in_ok-push-2.ensures.items ∙ whole_part c.loop-number.part.items c.args.digest.now c.args.entries.now c.loop-number.number all c.loop-number.invariant

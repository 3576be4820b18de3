use Rattle.std.proofs.Common.{length, ap, ◌∙◌}
use Rattle.dcr_serving.proofs.DeskLemmas.{whole_again}
use Rattle.dcr_serving.proofs.gather.part.Goals as goal

pub returns-clause-seats : goal.returns-clause-seats
returns-clause-seats g c =
    whole_again c.args.left.len c.meet_none.new.left c.args.left.items c.args.left.ok.0 (ap (λ l. length l) (c.meet_none.ensures.seats ∙ c.as_mut_slice.ensures.value))
    ∙ c.meet_none.ensures.seats ∙ c.as_mut_slice.ensures.value

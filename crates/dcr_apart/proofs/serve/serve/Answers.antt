use Rattle.std.proofs.Common.{◌+◌, refl, sym, subst, ◌∙◌}
use Rattle.dcr_apart.specs.Served.{IsServed}
use Rattle.dcr_apart.proofs.ServedLemmas.{served_more, served_none}
use Rattle.dcr_apart.proofs.serve.serve.Goals as goal

pub loop-number-init : goal.loop-number-init
loop-number-init g c = record { served = λ W is text. served_none g.P.Porter.tells W c.args.key.now c.args.porter; faults = refl }

pub loop-number-preserved : goal.loop-number-preserved
loop-number-preserved g c =
    let tells = g.P.Porter.tells in
    let number = c.loop-number.number in
    record {
      served = λ W is text.
          served_more tells W c.args.key.now c.args.porter c.loop-number.porter c.next_link.new.porter c.take_back.new.self number (number + 1) c.in-Ok-Some.link c.answer-rest.result.0 refl
          (c.loop-number.invariant.served W is text) (rw c.in-Ok-Some.field-0-is at c.in-Ok-Some.ensures.given) c.next_link.ensures.back
          (subst (λ each. IsServed W c.args.key.now each c.in-Ok-Some.link c.answer-rest.result.0) (sym g.met.P.Porter.each_is) (c.answer-rest.ensures W (c.begun_anew-part.ensures W is text)))
          c.take_back.ensures.links c.take_back.ensures.back;
      faults = c.take_back.ensures.faults ∙ c.in-Ok-Some.ensures.counts ∙ c.loop-number.invariant.faults;
    }

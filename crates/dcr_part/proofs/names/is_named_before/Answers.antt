use Rattle.std.proofs.Common.{◌≡◌, None, get_or, sym, ap, ◌∙◌, below_more, arith}
use Rattle.std.specs.Option.{is_some}
use Rattle.dcr_set.proofs.LeastLemmas.{least-from, least-none_from}
use Rattle.dcr_part.specs.Told.{is_text}
use Rattle.dcr_part.proofs.NameLemmas.{text_seen}
use Rattle.dcr_part.proofs.names.is_named_before.Goals as goal
use Rattle.dcr_part.proofs.names.is_named_before.Goals.{After-is_text}

compared : (c : After-is_text) → is_text (get_or c.args.names.now c.loop-k.k None) c.args.name.now ≡ c.is_text.result
compared c = text_seen c.args.names.now c.loop-k.k c.index-names-k.result c.text-text.result.now c.args.name.now c.is_text.result (omega arith) c.index-names-k.is c.text-text.ensures.text c.is_text.ensures

pub returns-then-is_text-clause-before : goal.returns-then-is_text-clause-before
returns-then-is_text-clause-before c = sym (ap is_some (least-from c.args.i (λ k. is_text (get_or c.args.names.now k None) c.args.name.now) c.loop-k.k (record {
  below = omega arith;
  passes = compared (goal.at.returns-then-is_text-clause-before c).After-is_text ∙ c.if-is_text.true;
  none_before = c.loop-k.invariant;
})))

pub loop-k-preserved : goal.loop-k-preserved
loop-k-preserved c = below_more _ _ c.loop-k.invariant (compared (goal.at.loop-k-preserved c).After-is_text ∙ c.if-is_text.false)

pub returns-clause-before : goal.returns-clause-before
returns-clause-before c = sym (ap is_some (least-none_from c.args.i (λ k. is_text (get_or c.args.names.now k None) c.args.name.now) (λ k below. c.loop-k.invariant k (omega arith))))

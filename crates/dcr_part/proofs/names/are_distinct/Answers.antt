use Rattle.std.proofs.Common.{sym, ◌∙◌, below_more, arith}
use Rattle.std.proofs.lemmas.Bool.{false≢true}
use Rattle.dcr_part.proofs.NameLemmas.{is_one, is_none}
use Rattle.dcr_part.proofs.names.are_distinct.Goals as goal

pub returns-then-is_repeated-clause-distinct : goal.returns-then-is_repeated-clause-distinct
returns-then-is_repeated-clause-distinct c =
    (λ wrong. absurd (false≢true wrong), λ distinct. absurd (is_one c.args.names.now c.loop-i.i (sym c.is_repeated.ensures.repeated ∙ c.if-is_repeated.true) (omega arith) distinct))

pub loop-i-preserved : goal.loop-i-preserved
loop-i-preserved c = record {
  distinct = below_more _ _ c.loop-i.invariant.distinct (is_none c.args.names.now c.loop-i.i (sym c.is_repeated.ensures.repeated ∙ c.if-is_repeated.false));
  are_names = below_more _ _ c.loop-i.invariant.are_names c.is_repeated.ensures.name;
}

use Rattle.std.proofs.Common.{refl, subst}
use Rattle.std.specs.Prelude.{MatchBool}
use Rattle.dcr.specs.Exit.{answered, IsSite}
use Rattle.dcr.proofs.answer.Goals as goal

-- the end is that of the call
pub returns : goal.returns
returns g c =
    let it = c.dcr-end.ensures in let words = c.args.words.now in
    answered (subst (λ is. MatchBool is (IsSite words) (IsSite words → ⊥)) c.if-is_site.false c.is_site.ensures) c.dcr-end.result refl c.exit_of.ensures
    (record {
      headline = it.headline;
      answers = it.answers;
      says = it.says;
      converse = it.converse;
      ends = it.ends;
      input = it.input;
      output = it.output;
      disk = it.disk;
      door = it.door;
    })

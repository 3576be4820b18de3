use Rattle.std.proofs.Common.{length, sym, ap, subst, arith}
use Rattle.dcr_log.specs.Gathered.{AreNoted, names_of}
use Rattle.dcr_log.proofs.gathering.Gathering.new.Goals as goal

pub returns-clause-gathers : goal.returns-clause-gathers
returns-clause-gathers c =
    let none = ap names_of c.new-2.ensures.items in
    record {
      distinct = λ i j less within. absurd (omega (arith, ap length none));
      noted = subst (AreNoted c.in_ok-places.places) (sym none) c.in_ok-places.ensures;
    }

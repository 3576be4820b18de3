use Rattle.std.proofs.Common.{ap, ◌∙◌, length, rules}
use Rattle.dcr_proj.proofs.ProjectionLemmas.{cut_rooms}
use Rattle.dcr_site.proofs.SiteLemmas.{stands_open}
use Rattle.dcr_site.proofs.site.Site.open.Goals as goal

pub invariant_of-result : goal.invariant_of-result
invariant_of-result c =
    let rooms = cut_rooms c.args.projection c.args.start.now c.requires in (
      record {
        executed = ap (λ m. length m.executed) c.start-mark.ensures.cut ∙ rooms.0;
        pending = ap (λ m. length m.pending) c.start-mark.ensures.cut ∙ rooms.1;
        included = ap (λ m. length m.included) c.start-mark.ensures.cut ∙ rooms.2;
      },
      search rules,
      c.new-can.ensures.room ∙ c.room.ensures.room ∙ ap (λ s. length s) c.own.ensures.own,
      search rules,
    )

pub returns-clause-stands : goal.returns-clause-stands
returns-clause-stands c = λ G S same.
    stands_open G S c.args.start.now c.args.projection c.start-mark.result same c.start-mark.ensures.rooms.tracked_in c.requires c.start-mark.ensures.cut

use Rattle.std.proofs.Common.{◌≡◌, length, subst, ◌∙◌}
use Rattle.std.proofs.lemmas.List.Elements.{All-weaker}
use Rattle.dcr_format.specs.Texts.{AreAllNames}
use Rattle.dcr_cover_json.specs.Sites.{atom_count}
use Rattle.dcr_cover_json.proofs.MeaningLemmas.{many_names}
use Rattle.dcr_cover_json.proofs.accepted.see_cover.Goals as goal

pub returns : goal.returns
returns c =
    let N = c.args.nested.now in let names = c.args.graph.now.names in
    record {
      is_cover = c.site_names.ensures.cover;
      names = subst AreAllNames c.site_names.ensures.names c.see_site_names.ensures;
      rooms = All-weaker (λ set. length set ≡ length names) (λ set. length set ≡ atom_count N) (λ set room. room ∙ many_names N c.args.graph.now c.requires.flat) c.args.cover.now.owned c.requires.rooms;
    }

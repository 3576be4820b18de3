use Rattle.std.proofs.Common.{subst}
use Rattle.dcr_nest.specs.Nest.{Nest}
use Rattle.dcr_proj.specs.CoverValue.{Owners}
use Rattle.dcr_graph_json.specs.Accepted.{IsAcceptedGraph}
use Rattle.dcr_cover_json.specs.Accepted.{IsAcceptedCover}
use Rattle.dcr_cover_json.specs.Laws.{AreReadBack}
use Rattle.dcr_json.specs.Spelling.{IsSpelled, AcceptedIsSpelled}
use Rattle.dcr_json.proofs.SpelledLemmas.{accepted_spelled, one_site, one_site_accepted}
use Rattle.dcr_json.proofs.AcceptedLemmas.{given_accepted}
use Rattle.dcr_json.proofs.laws.accepted_is_spelled.Goals as goal

-- a nested graph and a cover that some case file spells are accepted
spelled_accepted : AreReadBack → (N : Nest) (cover : Owners) → IsSpelled N cover → IsAcceptedGraph N.version N × IsAcceptedCover N cover
spelled_accepted law N cover s =
    let given = given_accepted law s.bytes s.case s.read in
    let owned = subst (λ (C : Owners). IsAcceptedGraph s.case.nested.version s.case.nested × IsAcceptedCover s.case.nested C) s.owners given in
    subst (λ (M : Nest). IsAcceptedGraph M.version M × IsAcceptedCover M cover) s.nested owned

spelled : AreReadBack → AcceptedIsSpelled
spelled law = record {
  both = λ N cover. ((λ accepted. accepted_spelled N cover accepted.0 accepted.1), spelled_accepted law N cover);
  graph = λ N. ((λ graph. (one_site N, accepted_spelled N (one_site N) graph (one_site_accepted N))), (λ found. (spelled_accepted law N found.0 found.1).0));
}

pub returns : goal.returns
returns c = spelled c.covers_are_read_back.ensures

use Rattle.std.proofs.Common.{◌≡◌, ◌<◌, ◌+◌, [], ◌∷◌, ◌++◌, length, sym, ap, subst, ◌∙◌, arith}
use Rattle.std.proofs.lemmas.List.{get_or_read, map_push}
use Rattle.std.proofs.lemmas.List.Elements.{All-get_or}
use Rattle.dcr_set.proofs.SetLemmas.{length-those}
use Rattle.dcr_graph.specs.GraphValue.{rules_of}
use Rattle.dcr_graph.specs.Rows.{row}
use Rattle.dcr_proj.specs.Local.{projection_of}
use Rattle.dcr_site.specs.Seen.{Seen, StandsAt}
use Rattle.dcr_site.specs.Together.{AreOver, IsOver}
use Rattle.dcr_run.specs.SitesModel.{alphabets_in}
use Rattle.dcr_site.proofs.TogetherLemmas.{StandBefore, stand_more, over_more}
use Rattle.dcr_run.proofs.sites.open_each.Goals as goal

pub loop-own-preserved : goal.loop-own-preserved
loop-own-preserved c =
    let G = rules_of c.args.graph.now in let i = c.loop-own.own-index in let n = length c.args.graph.now.names in let site = c.open.result in
    let within : i < length c.args.owned.now = omega arith in
    let own : c.own-item.result ≡ row c.args.owned.now i = get_or_read c.args.owned.now i c.own-item.result within c.own-item.is [] in
    let made : site.projection ≡ projection_of G (row c.args.owned.now i) = c.open.ensures.projection ∙ c.in_ok-projection.ensures ∙ ap (projection_of G) own in
    let at : StandsAt G (row c.args.owned.now i) c.args.opening.now site = c.open.ensures.stands G (row c.args.owned.now i) (c.in_ok-projection.ensures ∙ ap (projection_of G) own) in
    let over : IsOver n site = record {
      own = ap (λ P. length P.own) made ∙ All-get_or (λ set. length set ≡ n) c.args.owned.now i [] within c.requires.owned;
      alphabet = ap (λ P. length P.alphabet) made ∙ length-those n _;
    } in
    let heard : c.copy-heard.result ≡ site.projection.alphabet = c.copy-heard.ensures ∙ c.alphabet.ensures.alphabet ∙ ap (λ P. P.alphabet) (sym c.open.ensures.projection) in (
      subst (StandBefore G c.args.owned.now c.args.opening.now (i + 1)) (sym c.in_ok-push-2.ensures.items)
          (stand_more G c.args.owned.now c.args.opening.now i c.loop-own.members.items site (c.loop-own.invariant.0) at),
      subst (AreOver n) (sym c.in_ok-push-2.ensures.items) (over_more n c.loop-own.members.items site (c.loop-own.invariant.1) over),
      c.in_ok-push.ensures.items ∙ ap (λ sets. sets ++ c.copy-heard.result ∷ []) c.loop-own.invariant.2 ∙ ap (λ set. alphabets_in c.loop-own.members.items ++ set ∷ []) heard
          ∙ sym (map_push (λ (s : Seen). s.projection.alphabet) c.loop-own.members.items site) ∙ ap alphabets_in (sym c.in_ok-push-2.ensures.items),
    )

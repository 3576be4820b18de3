use Rattle.std.proofs.Common.{◌≡◌, ◌∙◌, ℕ, List, [], Some, is_some, sym, ap, below_more, arith}
use Rattle.std.specs.Option.{option_map}
use Rattle.std.proofs.lemmas.Option.{get_or_from_slice_get}
use Rattle.dcr_nest.specs.Nest.{parents_of}
use Rattle.dcr_nest.specs.Tree.{atoms_below}
use Rattle.dcr_cover_json.specs.Sites.{node_named, owned_at}
use Rattle.dcr_cover_json.proofs.MeaningLemmas.{found_below, set_more}
use Rattle.dcr_cover_json.proofs.sites.read_owned.Goals as goal

pub loop-j-preserved : goal.loop-j-preserved
loop-j-preserved g c =
    let N = c.args.index.now.nested.now in
    let site = g.S.AsSiteText.written c.args.site.now in
    let meant = λ (text : List ℕ). option_map (atoms_below (parents_of N.nodes)) (node_named N text) in
    let here : Some c.in-Some.events.now ≡ meant (owned_at site c.loop-j.j) =
    ◌∙◌ {b = meant c.owned_text.result.now} c.in-Some.ensures.meaning (ap meant (sym (get_or_from_slice_get site.1 c.loop-j.j c.owned_text.result.now [] c.owned_text.ensures))) in
    record {
      set_is = set_more N site.1 c.loop-j.j c.loop-j.set c.in-Some.events.now _ (omega arith) c.loop-j.invariant.set_is c.loop-j.invariant.room here c.union_with.ensures.joined;
      room = c.union_with.ensures.room ∙ c.loop-j.invariant.room;
      known = below_more _ _ c.loop-j.invariant.known (ap is_some (found_below N (owned_at site c.loop-j.j) c.in-Some.events.now here).1);
    }

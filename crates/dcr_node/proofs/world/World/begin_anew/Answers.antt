use Rattle.std.proofs.Common.{◌≡◌, ℕ, ◌<◌, List, [], length, set, refl, sym, ap, subst, ◌∙◌, arith}
use Rattle.std.proofs.lemmas.List.{get_or_read}
use Rattle.dcr_set.specs.EventSet.{Set}
use Rattle.dcr_graph.specs.GraphValue.{rules_of}
use Rattle.dcr_graph.specs.Rows.{row}
use Rattle.dcr_graph.specs.declared.marking.Marking.{Marking}
use Rattle.dcr_proj.specs.Local.{projection_of}
use Rattle.dcr_site.specs.Seen.{StandsAt}
use Rattle.dcr_node.specs.SiteState.{new_site}
use Rattle.dcr_node.specs.WorldState.{WorldState, site_at}
use Rattle.dcr_node.specs.WorldModel.{world_of}
use Rattle.dcr_node.specs.Machine.{with_site, begins_anew, begun_anew}
use Rattle.dcr_node.specs.Right.{IsRight}
use Rattle.dcr_node.proofs.LawLemmas.{right_comes}
use Rattle.dcr_node.proofs.WorldLemmas.{stands_is}
use Rattle.dcr_node.proofs.world.World.begin_anew.Goals as goal

pub invariant_of-self : goal.invariant_of-self
invariant_of-self c =
    let w = world_of c.self.inside in
    let G = rules_of c.args.graph.now in let C = c.args.cover.now.owned in let M = c.self.inside.opening in
    let i = c.args.site in
    let opening : c.args.self.now.opening ≡ M = ap (λ (v : WorldState). v.opening) (sym c.self.view_is) in
    let right : IsRight G C M w = subst (λ (N : Marking). IsRight G C N w) opening (subst (IsRight G C c.args.self.now.opening) (sym c.self.view_is) c.requires.right) in
    let from : c.from.result ≡ i = c.from.ensures ∙ c.site.view_is in
    let within : c.from.result < length c.owned_sets.result.now =
    (let sites : length c.args.self.now.sites ≡ length C = c.requires.right.as_many in let sets = ap (λ (x : List Set). length x) c.owned_sets.ensures.owned in let below = c.requires.site in omega arith) in
    let own : c.index-owned_sets-from.result ≡ row C i =
    get_or_read c.owned_sets.result.now c.from.result c.index-owned_sets-from.result within c.index-owned_sets-from.is []
    ∙ ap (λ (x : List Set). row x c.from.result) c.owned_sets.ensures.owned ∙ ap (row C) from in
    let at : StandsAt G (row C i) M c.open-opened.result = c.open-opened.ensures.stands G (row C i) (c.in_ok-projection.ensures ∙ ap (projection_of G) own) in
    let node : c.new.result ≡ site_at G C M i = c.new.ensures ∙ stands_is G C M i (new_site i c.open-opened.result) at refl refl in
    let from-2 : c.from-2.result ≡ i = c.from-2.ensures ∙ c.site-2.view_is in
    let next : record w { sites = set w.sites c.from-2.result c.new.result } ≡ begun_anew G C w i =
    ap (λ (n : ℕ). record w { sites = set w.sites n c.new.result }) from-2 ∙ ap (with_site w i) node in
    let below : i < length w.sites = (let sites = ap (λ (v : WorldState). length v.sites) c.self.view_is in let is = c.requires.site in omega arith) in
    (G, C, subst (IsRight G C M) (sym next) (right_comes G C M w right (begins_anew i) below))

pub returns-clause-begun : goal.returns-clause-begun
returns-clause-begun c =
    let w = world_of c.self.inside in
    let G = rules_of c.args.graph.now in let C = c.args.cover.now.owned in let M = c.self.inside.opening in
    let i = c.args.site in
    let from : c.from.result ≡ i = c.from.ensures ∙ c.site.view_is in
    let within : c.from.result < length c.owned_sets.result.now =
    (let sites : length c.args.self.now.sites ≡ length C = c.requires.right.as_many in let sets = ap (λ (x : List Set). length x) c.owned_sets.ensures.owned in let below = c.requires.site in omega arith) in
    let own : c.index-owned_sets-from.result ≡ row C i =
    get_or_read c.owned_sets.result.now c.from.result c.index-owned_sets-from.result within c.index-owned_sets-from.is []
    ∙ ap (λ (x : List Set). row x c.from.result) c.owned_sets.ensures.owned ∙ ap (row C) from in
    let at : StandsAt G (row C i) M c.open-opened.result = c.open-opened.ensures.stands G (row C i) (c.in_ok-projection.ensures ∙ ap (projection_of G) own) in
    let node : c.new.result ≡ site_at G C M i = c.new.ensures ∙ stands_is G C M i (new_site i c.open-opened.result) at refl refl in
    let from-2 : c.from-2.result ≡ i = c.from-2.ensures ∙ c.site-2.view_is in
    ap (λ (n : ℕ). record w { sites = set w.sites n c.new.result }) from-2 ∙ ap (with_site w i) node ∙ ap (λ (v : WorldState). begun_anew G C v i) c.self.view_is

pub returns-clause-right : goal.returns-clause-right
returns-clause-right c =
    let w = world_of c.self.inside in
    let G = rules_of c.args.graph.now in let C = c.args.cover.now.owned in let M = c.self.inside.opening in
    let i = c.args.site in
    let opening : c.args.self.now.opening ≡ M = ap (λ (v : WorldState). v.opening) (sym c.self.view_is) in
    let right : IsRight G C M w = subst (λ (N : Marking). IsRight G C N w) opening (subst (IsRight G C c.args.self.now.opening) (sym c.self.view_is) c.requires.right) in
    let from : c.from.result ≡ i = c.from.ensures ∙ c.site.view_is in
    let within : c.from.result < length c.owned_sets.result.now =
    (let sites : length c.args.self.now.sites ≡ length C = c.requires.right.as_many in let sets = ap (λ (x : List Set). length x) c.owned_sets.ensures.owned in let below = c.requires.site in omega arith) in
    let own : c.index-owned_sets-from.result ≡ row C i =
    get_or_read c.owned_sets.result.now c.from.result c.index-owned_sets-from.result within c.index-owned_sets-from.is []
    ∙ ap (λ (x : List Set). row x c.from.result) c.owned_sets.ensures.owned ∙ ap (row C) from in
    let at : StandsAt G (row C i) M c.open-opened.result = c.open-opened.ensures.stands G (row C i) (c.in_ok-projection.ensures ∙ ap (projection_of G) own) in
    let node : c.new.result ≡ site_at G C M i = c.new.ensures ∙ stands_is G C M i (new_site i c.open-opened.result) at refl refl in
    let from-2 : c.from-2.result ≡ i = c.from-2.ensures ∙ c.site-2.view_is in
    let next : record w { sites = set w.sites c.from-2.result c.new.result } ≡ begun_anew G C w i =
    ap (λ (n : ℕ). record w { sites = set w.sites n c.new.result }) from-2 ∙ ap (with_site w i) node in
    let below : i < length w.sites = (let sites = ap (λ (v : WorldState). length v.sites) c.self.view_is in let is = c.requires.site in omega arith) in
    subst (λ (N : Marking). IsRight G C N (record w { sites = set w.sites c.from-2.result c.new.result })) (sym opening) (subst (IsRight G C M) (sym next) (right_comes G C M w right (begins_anew i) below))

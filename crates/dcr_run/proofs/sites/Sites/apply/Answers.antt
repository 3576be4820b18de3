use Rattle.std.proofs.Common.{◌≡◌, ◌<◌, length, sym, ap, subst, ◌∙◌}
use Rattle.std.specs.Vec.{with_items}
use Rattle.std.proofs.lemmas.List.{with_items_is}
use Rattle.dcr_proj.specs.CoverValue.{atoms_of}
use Rattle.dcr_site.specs.Together.{AreOver}
use Rattle.dcr_run.specs.SitesModel.{alphabets_in}
use Rattle.dcr_run.proofs.SitesLemmas.{heard_over, heard_alphabets}
use Rattle.dcr_run.proofs.sites.Sites.apply.Goals as goal

pub hear_each-requires-clause-over : goal.hear_each-requires-clause-over
hear_each-requires-clause-over c = (
  atoms_of c.self.inside.network,
  subst (λ E. c.args.e < E.atoms) (sym c.self.view_is) c.requires,
  subst (AreOver (atoms_of c.self.inside.network)) (sym c.deref_mut.ensures.value) c.self.invariant.over,
)

pub invariant_of-self : goal.invariant_of-self
invariant_of-self c =
    let n = atoms_of c.self.inside.network in let members = c.hear_each.new.members in
    let room : length members ≡ length c.self.inside.members.items = c.hear_each.ensures.as_many ∙ ap (λ s. length s) c.deref_mut.ensures.value in
    let is : (with_items c.self.inside.members members).items ≡ members = with_items_is c.self.inside.members members (room ∙ sym c.self.inside.members.ok.0) in
    record {
      over = subst (AreOver n) (sym is)
          (heard_over n c.args.e c.deref_mut.result.now members c.hear_each.ensures (subst (AreOver n) (sym c.deref_mut.ensures.value) c.self.invariant.over));
      alphabets = c.self.invariant.alphabets ∙ ap alphabets_in (sym c.deref_mut.ensures.value) ∙ sym (heard_alphabets c.args.e c.deref_mut.result.now members c.hear_each.ensures)
          ∙ ap alphabets_in (sym is);
    }

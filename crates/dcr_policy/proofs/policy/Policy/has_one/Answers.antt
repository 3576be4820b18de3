use Rattle.std.proofs.Common.{◌<◌, [], length, get_or, ap, sym, ◌∙◌, arith}
use Rattle.std.specs.List.{slice_get}
use Rattle.std.proofs.lemmas.List.{length-map}
use Rattle.dcr_set.specs.EventSet.{has}
use Rattle.dcr_policy.specs.Deny.{shares_role}
use Rattle.dcr_policy.specs.Numbered.{named}
use Rattle.dcr_policy.specs.Roles.{Roles}
use Rattle.dcr_policy.specs.Upward.{upward}
use Rattle.dcr_policy.proofs.PolicyLemmas.{has_none, has_user}
use Rattle.dcr_policy.proofs.policy.Policy.has_one.Goals as goal

pub returns-in-Some : goal.returns-in-Some
returns-in-Some c =
    let x = c.self.inside in
    let e = c.args.e in
    let many = length-map x.nodes.items (λ node. named x.names.items (upward x.parents.items x.own.items node)) in
    let inside : e < length x.nodes.items = omega (arith, c.requires, ap (λ (P : Roles). length P.atoms) c.self.view_is, many) in
    c.contains.ensures
    ∙ ap (λ set. has set e) c.index.ensures
    ∙ has_user x c.self.invariant c.args.session c.in-Some.user e c.index.result.now (ap (λ by. slice_get by c.args.session) (sym c.deref.ensures.value) ∙ sym c.user_of.ensures ∙ c.in-Some.is) inside
    ∙ ap (λ (P : Roles). shares_role (get_or P.atoms e []) (get_or P.sessions c.args.session [])) c.self.view_is

pub returns-in-None : goal.returns-in-None
returns-in-None c =
    let x = c.self.inside in
    has_none x c.self.invariant c.args.session (get_or c.args.self.now.atoms c.args.e []) (ap (λ by. slice_get by c.args.session) (sym c.deref.ensures.value) ∙ sym c.user_of.ensures ∙ c.in-None.is)
    ∙ ap (λ (P : Roles). shares_role (get_or c.args.self.now.atoms c.args.e []) (get_or P.sessions c.args.session [])) c.self.view_is

use Rattle.std.proofs.Common.{◌≡◌, ◌<◌, [], length, get_or, Some, ap, sym, ◌∙◌, arith}
use Rattle.std.specs.List.{slice_get}
use Rattle.std.specs.Option.{option_map}
use Rattle.std.proofs.lemmas.List.{get_or_read, length-map}
use Rattle.dcr_policy.specs.Numbered.{named}
use Rattle.dcr_policy.specs.Roles.{Roles}
use Rattle.dcr_policy.specs.Upward.{upward}
use Rattle.dcr_policy.proofs.PolicyLemmas.{first_below, first_seen}
use Rattle.dcr_policy.proofs.policy.Policy.first.Goals as goal
use Rattle.dcr_policy.proofs.policy.Policy.first.Goals.{In_ok-role}

-- the role that was found is the first upwards of the atom's node
found : (c : In_ok-role) → Some c.in_ok-role.role ≡ slice_get (upward c.self.inside.parents.items c.self.inside.own.items c.index.result.now) 0
found c =
    sym c.in_ok-role.was
    ∙ c.first_upward.ensures
    ∙ ap (λ parents. slice_get (upward parents c.deref-2.result.now c.index.result.now) 0) c.deref.ensures.value
    ∙ ap (λ own. slice_get (upward c.self.inside.parents.items own c.index.result.now) 0) c.deref-2.ensures.value

pub index-requires-2 : goal.index-requires-2
index-requires-2 c = omega (arith, first_below c.self.inside c.self.invariant c.index.result.now c.in_ok-role.role (found c), c.self.inside.names.ok.0)

pub returns : goal.returns
returns c =
    let s = (goal.at.returns c).In_ok-role in
    let x = c.self.inside in
    let e = c.args.e in
    let role = c.in_ok-role.role in
    let many = length-map x.nodes.items (λ node. named x.names.items (upward x.parents.items x.own.items node)) in
    let inside : e < length x.nodes.items = omega (arith, c.requires, ap (λ (P : Roles). length P.atoms) c.self.view_is, many) in
    let within : c.from.result < length x.nodes.items = omega (arith, c.from.ensures) in
    let node = get_or_read x.nodes.items c.from.result c.index.result.now within c.index.ensures 0 ∙ ap (λ k. get_or x.nodes.items k 0) c.from.ensures in
    let below = first_below x c.self.invariant c.index.result.now role (found s) in
    ap Some (get_or_read x.names.items role c.index-2.result.now below c.index-2.ensures [])
    ∙ ap (option_map (λ number. get_or x.names.items number [])) (found s ∙ ap (λ n. slice_get (upward x.parents.items x.own.items n) 0) node)
    ∙ first_seen x c.self.invariant e inside
    ∙ ap (λ (P : Roles). slice_get (get_or P.atoms e []) 0) c.self.view_is

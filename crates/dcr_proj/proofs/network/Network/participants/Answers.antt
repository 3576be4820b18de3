use Rattle.std.proofs.Common.{◌∙◌, ◌<◌, ap, arith}
use Rattle.dcr_proj.specs.CoverValue.{atoms_of}
use Rattle.dcr_proj.specs.NetworkValue.{participants_of}
use Rattle.dcr_proj.proofs.NetworkLemmas.{many_lists, lent_list}
use Rattle.dcr_proj.proofs.network.Network.participants.Goals as goal

pub index-requires : goal.index-requires
index-requires c =
    let many = many_lists (λ list. list.items) c.self.inside.participants.items c.self.inside.alphabets.items c.self.invariant.listed in
    let atoms = ap atoms_of c.self.view_is in
    omega (arith, c.from.ensures, c.e.view_is, c.requires)

pub returns-clause-participants : goal.returns-clause-participants
returns-clause-participants c =
    let within : c.args.e < atoms_of c.self.inside.alphabets.items = omega (arith, c.requires, ap atoms_of c.self.view_is) in
    c.deref.ensures.value
    ∙ lent_list (λ list. list.items) c.self.inside.participants.items c.self.inside.alphabets.items c.from.result c.args.e c.index.result.now
    c.self.invariant.listed (c.from.ensures ∙ c.e.view_is) within c.index.ensures
    ∙ ap (λ a. participants_of a c.args.e) c.self.view_is

use Rattle.std.proofs.Common.{◌≡◌, List, length, ap, sym, subst, ◌∙◌}
use Rattle.std.specs.List.{All}
use Rattle.serde_json.specs.Data.{Data}
use Rattle.serde_json.specs.View.{view}
use Rattle.dcr_nest.specs.Nest.{parents_of}
use Rattle.dcr_journal.specs.declared.call.Call.{Call}
use Rattle.dcr_policy.specs.Deny.{IsOfAtoms}
use Rattle.dcr_roles.proofs.EventLemmas.{events_same}
use Rattle.dcr_roles.proofs.ReadLemmas.{calls_of_atoms, flat_atoms, told_atoms}
use Rattle.dcr_roles.proofs.read.policy_of.Goals as goal

pub told-requires-clause-as_many : goal.told-requires-clause-as_many
told-requires-clause-as_many c =
    let is = c.requires.spelled in
    let opens = c.opening_is_written.ensures is.bytes _ _ is.json is.spells in
    ap (λ (ds : List Data). length ds) (sym (events_same (view c.args.value.now))) ∙ opens.as_many

pub try_sessions-requires-clause-atoms : goal.try_sessions-requires-clause-atoms
try_sessions-requires-clause-atoms c =
    let case = c.args.case.now in
    let many : length case.graph.names ≡ length c.in_ok-policy.policy.atoms =
    flat_atoms case.nested case.graph c.requires.fits.flat ∙ sym (told_atoms (view c.args.value.now) (parents_of case.nested.nodes) c.in_ok-policy.policy c.in_ok-policy.ensures) in
    subst (λ (sessions : List (List Call)). All (λ calls. All (IsOfAtoms (length c.in_ok-policy.policy.atoms)) calls) sessions) (sym c.all.ensures)
    (calls_of_atoms (length case.cover.names) (length case.graph.names) (length c.in_ok-policy.policy.atoms) case.sessions many c.requires.fits.calls_in_range)

pub returns-clause-atoms : goal.returns-clause-atoms
returns-clause-atoms c =
    let case = c.args.case.now in
    told_atoms (view c.args.value.now) (parents_of case.nested.nodes) c.in_ok-policy.policy c.in_ok-policy.ensures ∙ sym (flat_atoms case.nested case.graph c.requires.fits.flat)

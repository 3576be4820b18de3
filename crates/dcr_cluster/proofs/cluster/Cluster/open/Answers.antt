use Rattle.std.proofs.Common.{◌≡◌, ◌<◌, List, length, refl, sym, ap, subst, ◌∙◌}
use Rattle.std.specs.Prelude.{Err, Ok, OnOk, Result}
use Rattle.dcr_graph.specs.declared.marking.Marking.{Marking}
use Rattle.dcr_site.specs.Together.{AllStand, IsOver}
use Rattle.dcr_tape.specs.declared.entry.TapeEntry.{TapeEntry}
use Rattle.dcr_cell.specs.ClusterId.{ClusterId}
use Rattle.dcr_cell.specs.Stored.{MayBegin}
use Rattle.dcr_cluster.proofs.OpenLemmas.{opens}
use Rattle.dcr_cluster.proofs.StoreLemmas.{left_alone}
use Rattle.dcr_cluster.proofs.cluster.Cluster.open.Goals as goal

-- what holds, holds where a call succeeded
where_ok : {T E : Type 0} (result : Result T E) {P : Type 0} → P → OnOk result P
where_ok (Ok x) p = p
where_ok (Err x) p = record {}

pub of-sites-requires-clause-network : goal.of-sites-requires-clause-network
of-sites-requires-clause-network g c =
    let C : ClusterId = g.N.ClusterName.cluster in
    let o = opens C g.N.TurnName.turn c.blank.inside.turn c.args.sites.items c.blank.inside.network c.args.opening.now c.requires.named (let v = c.blank.view_is in let t = c.requires.turn in cc)
    c.blank.invariant c.requires.opening c.requires.sites in
    o.alphabets

pub of-sites-requires-clause-over : goal.of-sites-requires-clause-over
of-sites-requires-clause-over g c =
    let C : ClusterId = g.N.ClusterName.cluster in
    let o = opens C g.N.TurnName.turn c.blank.inside.turn c.args.sites.items c.blank.inside.network c.args.opening.now c.requires.named (let v = c.blank.view_is in let t = c.requires.turn in cc)
    c.blank.invariant c.requires.opening c.requires.sites in
    λ i site is. subst (λ n. IsOver n site) (sym o.atoms) (o.over i site is)

pub go_on-requires-clause-atoms : goal.go_on-requires-clause-atoms
go_on-requires-clause-atoms g c =
    let C : ClusterId = g.N.ClusterName.cluster in
    let o = opens C g.N.TurnName.turn c.blank.inside.turn c.args.sites.items c.blank.inside.network c.args.opening.now c.requires.named (let v = c.blank.view_is in let t = c.requires.turn in cc)
    c.blank.invariant c.requires.opening c.requires.sites in
    c.room-atoms.ensures.room ∙ ap (λ (M : Marking). length M.executed) c.requires.opening ∙ c.requires.named.opening.executed ∙ sym o.atoms ∙ sym c.of-sites.ensures.atoms

pub returns-in-Some-clause-refused : goal.returns-in-Some-clause-refused
returns-in-Some-clause-refused g c =
    let C : ClusterId = g.N.ClusterName.cluster in
    let o = opens C g.N.TurnName.turn c.blank.inside.turn c.args.sites.items c.blank.inside.network c.args.opening.now c.requires.named (let v = c.blank.view_is in let t = c.requires.turn in cc)
    c.blank.invariant c.requires.opening c.requires.sites in
    let here : AllStand C.rules C.owned C.opening c.of-sites.result.sites = subst (AllStand C.rules C.owned C.opening) (sym c.of-sites.ensures.sites) o.stand in
    record { stands = c.in-Some.ensures.bad C here c.requires.named.covered (c.of-sites.ensures.atoms ∙ o.atoms) (sym c.requires.old); leaves = refl }

pub prepare-prepared-requires-clause-same : goal.prepare-prepared-requires-clause-same
prepare-prepared-requires-clause-same g c =
    let C : ClusterId = g.N.ClusterName.cluster in
    let o = opens C g.N.TurnName.turn c.blank.inside.turn c.args.sites.items c.blank.inside.network c.args.opening.now c.requires.named (let v = c.blank.view_is in let t = c.requires.turn in cc)
    c.blank.invariant c.requires.opening c.requires.sites in
    let opening : c.room-atoms.result ≡ C.rules.atoms = c.room-atoms.ensures.room ∙ ap (λ (M : Marking). length M.executed) c.requires.opening ∙ c.requires.named.opening.executed in
    c.go_on.ensures.atoms ∙ c.of-sites.ensures.atoms ∙ o.atoms ∙ sym opening

pub prepare-prepared-requires-clause-stand : goal.prepare-prepared-requires-clause-stand
prepare-prepared-requires-clause-stand g c =
    let C : ClusterId = g.N.ClusterName.cluster in
    let o = opens C g.N.TurnName.turn c.blank.inside.turn c.args.sites.items c.blank.inside.network c.args.opening.now c.requires.named (let v = c.blank.view_is in let t = c.requires.turn in cc)
    c.blank.invariant c.requires.opening c.requires.sites in
    let here : AllStand C.rules C.owned C.opening c.of-sites.result.sites = subst (AllStand C.rules C.owned C.opening) (sym c.of-sites.ensures.sites) o.stand in
    (c.in_default.ensures.all C here c.requires.named.covered (c.of-sites.ensures.atoms ∙ o.atoms) (sym c.requires.old)).0

pub returns-in_default-prepared-clause-refused : goal.returns-in_default-prepared-clause-refused
returns-in_default-prepared-clause-refused g c =
    record {
      stands = record {};
      leaves = left_alone g.D.Disk.view g.D.Disk.faults g.N.ClusterName.cluster.old c.args.store (subst (λ (old : List TapeEntry). MayBegin g.D.Disk.view old c.args.store) c.requires.old c.requires.begins);
    }

pub begin-requires-clause-possible : goal.begin-requires-clause-possible
begin-requires-clause-possible g c =
    let C : ClusterId = g.N.ClusterName.cluster in
    let o = opens C g.N.TurnName.turn c.blank.inside.turn c.args.sites.items c.blank.inside.network c.args.opening.now c.requires.named (let v = c.blank.view_is in let t = c.requires.turn in cc)
    c.blank.invariant c.requires.opening c.requires.sites in
    let here : AllStand C.rules C.owned C.opening c.of-sites.result.sites = subst (AllStand C.rules C.owned C.opening) (sym c.of-sites.ensures.sites) o.stand in
    (c.in_default.ensures.all C here c.requires.named.covered (c.of-sites.ensures.atoms ∙ o.atoms) (sym c.requires.old)).1

pub returns-clause-possible : goal.returns-clause-possible
returns-clause-possible g c =
    let C : ClusterId = g.N.ClusterName.cluster in
    let o = opens C g.N.TurnName.turn c.blank.inside.turn c.args.sites.items c.blank.inside.network c.args.opening.now c.requires.named (let v = c.blank.view_is in let t = c.requires.turn in cc)
    c.blank.invariant c.requires.opening c.requires.sites in
    let here : AllStand C.rules C.owned C.opening c.of-sites.result.sites = subst (AllStand C.rules C.owned C.opening) (sym c.of-sites.ensures.sites) o.stand in
    let possible = (c.in_default.ensures.all C here c.requires.named.covered (c.of-sites.ensures.atoms ∙ o.atoms) (sym c.requires.old)).1 in
    where_ok c.begin.result (λ place x below is. possible place x (subst (λ n. place < n) (sym (ap (λ (l : List TapeEntry). length l) (sym c.requires.old))) below) is)

use Rattle.std.proofs.Common.{◌≡◌, ◌∷◌, [], length, ap, ◌∙◌, arith}
use Rattle.std.specs.Prelude.{slice_index_or}
use Rattle.dcr_cluster.proofs.NeededLemmas.{event_within, all_count, participants_within, all_within, one_within, one_is, one_site, one_all}
use Rattle.dcr_cluster.proofs.cluster.Cluster.needed.Goals as goal

pub participants-requires : goal.participants-requires
participants-requires g c =
    event_within g.N.ClusterName.cluster g.N.TurnName.turn c.self.inside.network c.args.call.now c.in-Exec.i c.in-Exec.e c.self.invariant.0.named c.self.invariant.0.alphabets c.requires c.in-Exec.is

pub returns-then-contains-clause-within : goal.returns-then-contains-clause-within
returns-then-contains-clause-within g c =
    participants_within g.N.ClusterName.cluster g.N.TurnName.turn c.self.inside.network c.participants.result.now c.in-Exec.e c.self.invariant.0.named c.self.invariant.0.alphabets c.participants.ensures.participants

pub returns-in-Accepting-clause-within : goal.returns-in-Accepting-clause-within
returns-in-Accepting-clause-within g c =
    all_within (length g.N.ClusterName.cluster.owned) c.as_slice.result.now (c.as_slice.ensures.value ∙ c.self.invariant.0.every_site)

pub index-requires-in-Look : goal.index-requires-in-Look
index-requires-in-Look g c =
    let within = one_within g.N.ClusterName.cluster c.args.call.now c.in-Look.i c.requires c.in-Look.is in
    let place : c.from-in-Look.result ≡ c.in-Look.i = c.from-in-Look.ensures ∙ c.i-in-Look.view_is in
    let all : length c.self.inside.every.items ≡ length g.N.ClusterName.cluster.owned = all_count (length g.N.ClusterName.cluster.owned) c.self.inside.every.items c.self.invariant.0.every_site in
    omega arith

pub returns-in-Look-clause-sites : goal.returns-in-Look-clause-sites
returns-in-Look-clause-sites g c =
    let place : c.from-in-Look.result ≡ c.in-Look.i = c.from-in-Look.ensures ∙ c.i-in-Look.view_is in
    let number : c.index-in-Look.result.now ≡ c.in-Look.i =
    one_is c.self.inside.every.items (length g.N.ClusterName.cluster.owned) c.in-Look.i c.index-in-Look.result.now c.index-in-Look.result.now c.self.invariant.0.every_site
    (one_within g.N.ClusterName.cluster c.args.call.now c.in-Look.i c.requires c.in-Look.is)
    (c.index-in-Look.ensures ∙ ap (λ k. slice_index_or c.self.inside.every.items k c.index-in-Look.result.now) place) in
    one_site g.N.ClusterName.cluster g.N.TurnName.turn c.args.call.now c.in-Look.i c.from_ref.result.now c.in-Look.is (c.from_ref.ensures.value ∙ ap (λ k. k ∷ []) number)

pub returns-in-Look-clause-within : goal.returns-in-Look-clause-within
returns-in-Look-clause-within g c =
    let place : c.from-in-Look.result ≡ c.in-Look.i = c.from-in-Look.ensures ∙ c.i-in-Look.view_is in
    let within = one_within g.N.ClusterName.cluster c.args.call.now c.in-Look.i c.requires c.in-Look.is in
    let number : c.index-in-Look.result.now ≡ c.in-Look.i =
    one_is c.self.inside.every.items (length g.N.ClusterName.cluster.owned) c.in-Look.i c.index-in-Look.result.now c.index-in-Look.result.now c.self.invariant.0.every_site within
    (c.index-in-Look.ensures ∙ ap (λ k. slice_index_or c.self.inside.every.items k c.index-in-Look.result.now) place) in
    one_all (length g.N.ClusterName.cluster.owned) c.in-Look.i c.from_ref.result.now (c.from_ref.ensures.value ∙ ap (λ k. k ∷ []) number) within

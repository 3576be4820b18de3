use Rattle.std.proofs.Common.{rules, ◌≡◌, ◌≢◌, ◌<◌, length, map, Ok, Err, ap, sym, subst, ◌∙◌}
use Rattle.std.specs.List.{All}
use Rattle.serde_json.specs.View.{view}
use Rattle.dcr_nest.specs.Nest.{parents_of}
use Rattle.dcr_roles.specs.Policy.{policy_if_fit}
use Rattle.dcr_roles.specs.declared.stop.PolicyStop.TheVariants.{NoMemory}
use Rattle.dcr_roles.proofs.ReadLemmas.{fit_from, parts_as, policy_as}
use Rattle.dcr_roles.proofs.RoleLemmas.{roles_below, roles_kept, roles_many, sessions_below}
use Rattle.dcr_roles.proofs.read.written.Goals as goal

pub returns-in_err-by : goal.returns-in_err-by
returns-in_err-by c =
    let d = view c.args.value.now in let parents = parents_of c.args.nested.now.nodes in
    let stopped : c.in_err-by.field-0.0 ≢ NoMemory → policy_if_fit d parents ≡ Err c.in_err-by.field-0.0 = λ want.
    fit_from d parents (Err c.in_err-by.field-0.0)
    (parts_as d (map view c.events_of.result.now) (map view c.in-Some.users.now) (map view c.in-Some-array_or_none.items.now) c.in_ok-users.users.numbers c.events_of.ensures.events c.in-Some.ensures.value c.in-Some-array_or_none.ensures.value
    c.in_ok-own.ensures.says c.in_ok-users.ensures.says c.in_ok-users.ensures.called c.in_ok-users.ensures.users ∙ c.in_err-by.ensures.says want) in
    search rules

pub new-requires-clause-as_many : goal.new-requires-clause-as_many
new-requires-clause-as_many c =
    roles_many c.read_events.new.names.names.items (map view c.events_of.result.now) c.in_ok-own.own.items c.in_ok-own.ensures.roles
    ∙ ap (λ ds. length ds) c.events_of.ensures.events ∙ c.requires.as_many

pub new-requires-clause-own : goal.new-requires-clause-own
new-requires-clause-own c =
    let old = c.read_events.new.names.names.items in let new = c.read_users.new.names.names.items in let events = map view c.events_of.result.now in
    roles_below new events c.in_ok-own.own.items (roles_kept old new events c.in_ok-own.own.items c.in_ok-users.ensures.goes_on c.in_ok-own.ensures.roles)

pub new-requires-clause-users : goal.new-requires-clause-users
new-requires-clause-users c = roles_below c.read_users.new.names.names.items (map view c.in-Some.users.now) c.in_ok-users.users.roles.items c.in_ok-users.ensures.roles

pub new-requires-clause-by : goal.new-requires-clause-by
new-requires-clause-by c =
    let users = map view c.in-Some.users.now in let roles = c.in_ok-users.users.roles.items in
    let many = roles_many c.read_users.new.names.names.items users roles c.in_ok-users.ensures.roles in
    subst (λ n. All (λ user. user < n) c.in_ok-by.by.items) (sym many)
    (sessions_below c.in_ok-users.users.numbers users c.in_ok-users.ensures.called c.in_ok-users.ensures.users (map view c.in-Some-array_or_none.items.now) c.in_ok-by.by.items c.in_ok-by.ensures.by)

pub returns : goal.returns
returns c =
    let d = view c.args.value.now in let parents = parents_of c.args.nested.now.nodes in
    let events = map view c.events_of.result.now in let users = map view c.in-Some.users.now in let items = map view c.in-Some-array_or_none.items.now in
    let old = c.read_events.new.names.names.items in let names = c.read_users.new.names.names.items in
    let own = c.in_ok-own.own.items in let roles = c.in_ok-users.users.roles.items in let numbers = c.in_ok-users.users.numbers in
    fit_from d parents (Ok tt)
    (parts_as d events users items numbers c.events_of.ensures.events c.in-Some.ensures.value c.in-Some-array_or_none.ensures.value c.in_ok-own.ensures.says c.in_ok-users.ensures.says c.in_ok-users.ensures.called
    c.in_ok-users.ensures.users ∙ c.in_ok-by.ensures.says)
    ∙ ap Ok (sym (c.in_ok-policy.ensures
    ∙ policy_as d parents events users items names own roles c.in_ok-by.by.items numbers c.events_of.ensures.events c.in-Some.ensures.value c.in-Some-array_or_none.ensures.value
    (roles_kept old names events own c.in_ok-users.ensures.goes_on c.in_ok-own.ensures.roles) c.in_ok-users.ensures.roles c.in_ok-users.ensures.called c.in_ok-users.ensures.users c.in_ok-by.ensures.by))

use Rattle.std.proofs.Common.{◌≡◌, ℕ, ◌+◌, ◌<◌, ◌++◌, ◌∷◌, [], List, true, false, is_none, length, map, take, ap, subst, sym, ◌∙◌, arith}
use Rattle.std.specs.List.{All}
use Rattle.std.proofs.lemmas.List.{length-map, map_push, take_all}
use Rattle.std.proofs.lemmas.List.Elements.{All-nil, All-push}
use Rattle.serde_json.specs.View.{view}
use Rattle.dcr_graph.specs.IndexModel.{number_at}
use Rattle.dcr_format.proofs.SizeLemmas.{length-items}
use Rattle.dcr_roles.specs.Numbering.{name_of, AreNumbers, HasName}
use Rattle.dcr_roles.specs.Parts.{failing}
use Rattle.dcr_roles.specs.Written.{fits_user}
use Rattle.dcr_roles.specs.declared.stop.PolicyPart.TheVariants as part
use Rattle.dcr_roles.proofs.NumberLemmas.{are_more, goes_on_none, goes_on_twice, none_numbered}
use Rattle.dcr_roles.proofs.RoleLemmas.{HaveRoles, roles_many, roles_next}
use Rattle.dcr_roles.proofs.UserLemmas.{fits_named, fits_next, names_in}
use Rattle.dcr_roles.proofs.WordLemmas.{and_next, is_wrong, none_found, right_found, seen_at, seen_more, wrong_found}
use Rattle.dcr_roles.proofs.users.read_users.Goals as goal

pub loop-i-init : goal.loop-i-init
loop-i-init c =
    let names = c.args.names.now.names.items in
    record {
      numbered = c.requires.numbered;
      goes_on = goes_on_none names;
      right = λ j below. absurd (omega arith);
      called = All-nil HasName;
      users = none_numbered c.new.result c.new.ensures.empty;
      roles = subst (λ (roles : List (List ℕ)). HaveRoles names [] roles) (sym c.in_ok-with_capacity.ensures.items) tt;
    }

pub overflow_cast-result : goal.overflow_cast-result
overflow_cast-result c = omega (arith, c.requires.few, c.loop-i-test.true, length-items c.args.values.now)

pub returns-then-not-branch-clause-says : goal.returns-then-not-branch-clause-says
returns-then-not-branch-clause-says c = λ _.
    let values = c.args.values.now in let users = map view values in let i = c.loop-i.i in let value = c.index-values-i.result in
    ap (failing part.User) (wrong_found (fits_user users) users i (view value) (seen_at view values i value (omega arith) c.index-values-i.is)
    (fits_next c.loop-i.users.numbers values i (view value) c.loop-i.invariant.called c.loop-i.invariant.users ∙ sym c.in_ok-read_user.ensures.read ∙ c.if-not-branch.true) c.loop-i.invariant.right)

pub loop-i-preserved : goal.loop-i-preserved
loop-i-preserved c =
    let values = c.args.values.now in let users = map view values in let i = c.loop-i.i in let value = c.index-values-i.result in
    let old = c.loop-i.names.names.items in let new = c.read_user.new.names.names.items in
    let before = map view (take i values) in
    let within : i < length values = omega arith in
    let is : c.in_ok-read_user.field-0 ≡ true = c.if-not-branch.false in
    let added = c.in_ok-read_user.ensures.added is in
    let fits = sym c.in_ok-read_user.ensures.read ∙ is in
    let more = seen_more view values i value within c.index-values-i.is in
    let named : names_in (map view (take (i + 1) values)) ≡ names_in before ++ name_of (view value) ∷ [] = ap (map name_of) more ∙ map_push name_of before (view value) in
    let many : length c.loop-i.users.roles.items ≡ length (names_in before) = roles_many old before c.loop-i.users.roles.items c.loop-i.invariant.roles ∙ sym (length-map before name_of) in
    record {
      numbered = c.in_ok-read_user.ensures.numbered;
      goes_on = goes_on_twice c.args.names.now.names.items old new c.loop-i.invariant.goes_on c.in_ok-read_user.ensures.goes_on;
      right = and_next (λ j. is_wrong (fits_user users) users j ≡ false) i c.loop-i.invariant.right
          (right_found (fits_user users) users i (view value) (seen_at view values i value within c.index-values-i.is)
          (fits_next c.loop-i.users.numbers values i (view value) c.loop-i.invariant.called c.loop-i.invariant.users ∙ fits));
      called = subst (All HasName) (sym more) (All-push HasName before (view value) c.loop-i.invariant.called (fits_named (λ name. is_none (number_at c.loop-i.users.numbers name)) (view value) fits));
      users = subst (AreNumbers c.read_user.new.users.numbers) (sym named)
          (are_more c.loop-i.users.numbers c.read_user.new.users.numbers (names_in before) (name_of (view value)) (length c.loop-i.users.roles.items) c.loop-i.invariant.users many added.numbers);
      roles = roles_next old new before _ c.loop-i.users.roles.items _ (view value) added.roles c.in_ok-read_user.ensures.goes_on c.loop-i.invariant.roles added.are more added.added;
    }

pub returns-clause-says : goal.returns-clause-says
returns-clause-says c =
    let values = c.args.values.now in let users = map view values in
    ap (failing part.User) (none_found (fits_user users) users (λ j below. c.loop-i.invariant.right j (omega (arith, below, length-map values view))))

pub returns-clause-called : goal.returns-clause-called
returns-clause-called c =
    let values = c.args.values.now in
    subst (λ vs. All HasName (map view vs)) (take_all c.loop-i.i values (omega arith)) c.loop-i.invariant.called

use Rattle.std.proofs.Common.{◌≡◌, ◌<◌, false, length, map, take, ap, arith}
use Rattle.std.proofs.lemmas.List.{length-map}
use Rattle.std.proofs.lemmas.Option.{MatchOption-at_none, MatchOption-at_some}
use Rattle.serde_json.specs.Data.{Data}
use Rattle.serde_json.specs.View.{view}
use Rattle.dcr_format.proofs.SizeLemmas.{length-items}
use Rattle.dcr_roles.specs.Parts.{failing}
use Rattle.dcr_roles.specs.Written.{fits_event}
use Rattle.dcr_roles.specs.declared.stop.PolicyPart.TheVariants as part
use Rattle.dcr_roles.proofs.NumberLemmas.{goes_on_twice}
use Rattle.dcr_roles.proofs.RoleLemmas.{roles_next}
use Rattle.dcr_roles.proofs.WordLemmas.{and_next, is_wrong, none_found, right_found, seen_at, seen_more, wrong_found}
use Rattle.dcr_roles.proofs.events.read_events.Goals as goal

pub overflow_cast-result : goal.overflow_cast-result
overflow_cast-result c = omega (arith, c.requires.few, c.loop-i-test.true, length-items c.args.events.now)

pub returns-in_default-clause-says : goal.returns-in_default-clause-says
returns-in_default-clause-says c = λ _.
    let events = c.args.events.now in let i = c.loop-i.i in let event = c.index-events-i.result in
    ap (failing part.Event) (wrong_found (λ _ (d : Data). fits_event d) (map view events) i (view event) (seen_at view events i event (omega arith) c.index-events-i.is)
    (MatchOption-at_none _ _ c.in_default.is c.in_ok-roles.ensures.read) c.loop-i.invariant.right)

pub loop-i-preserved : goal.loop-i-preserved
loop-i-preserved c =
    let events = c.args.events.now in let i = c.loop-i.i in let event = c.index-events-i.result in
    let old = c.loop-i.names.names.items in let new = c.roles_if_there.new.names.names.items in
    let within : i < length events = omega arith in
    let read = MatchOption-at_some _ _ c.in-Some.roles c.in-Some.is c.in_ok-roles.ensures.read in
    record {
      numbered = c.in_ok-roles.ensures.numbered;
      goes_on = goes_on_twice c.args.names.now.names.items old new c.loop-i.invariant.goes_on c.in_ok-roles.ensures.goes_on;
      right = and_next (λ j. is_wrong (λ _ (d : Data). fits_event d) (map view events) j ≡ false) i c.loop-i.invariant.right
          (right_found (λ _ (d : Data). fits_event d) (map view events) i (view event) (seen_at view events i event within c.index-events-i.is) read.0);
      roles = roles_next old new (map view (take i events)) _ c.loop-i.own.items _ (view event) c.in-Some.roles c.in_ok-roles.ensures.goes_on c.loop-i.invariant.roles read.1
          (seen_more view events i event within c.index-events-i.is) c.in_ok-push.ensures.items;
    }

pub returns-clause-says : goal.returns-clause-says
returns-clause-says c =
    let events = c.args.events.now in
    ap (failing part.Event) (none_found (λ _ (d : Data). fits_event d) (map view events) (λ j below. c.loop-i.invariant.right j (omega (arith, below, length-map events view))))

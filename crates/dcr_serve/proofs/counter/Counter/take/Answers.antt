use Rattle.std.proofs.Common.{◌≡◌, ◌+◌, sym, ◌∙◌, ap, arith}
use Rattle.dcr_serve.specs.DeskValue.{DeskValue}
use Rattle.dcr_serve.proofs.Giving.{first_is_next, gives_its_number}
use Rattle.dcr_serve.proofs.counter.Counter.take.Goals as goal

pub invariant_of-self-in-Ok-Some : goal.invariant_of-self-in-Ok-Some
invariant_of-self-in-Ok-Some g c =
    let before = c.self.invariant in
    let total : c.self.inside.book.total + 1 ≡ c.add.new.self.total = sym (c.add.ensures.total ∙ ap (λ n. n + 1) c.audit.ensures.total) in
    let item = first_is_next g.P.Numbered.number _ _ _ _ _ before.items c.in-Some.ensures.items in
    let link = gives_its_number _ _ _ _ _ before.left (rw c.in-Ok-Some.field-0-is at c.in-Ok-Some.ensures.given) in
    let same = c.in-Ok-Some.ensures.counts ∙ (rw c.in-Open.is at before.stands) in
    record {
      items = rw (← total) item.2;
      within = (let some = item.1 in omega (arith, total));
      left = rw (← total) link.0;
      stands = rw c.in-Open.is same;
    }

pub returns-in-Some-clause-number : goal.returns-in-Some-clause-number
returns-in-Some-clause-number g c =
    let item = first_is_next g.P.Numbered.number _ _ _ _ _ c.self.invariant.items c.in-Some.ensures.items in
    item.0 ∙ ap (λ (desk : DeskValue _ _). desk.taken) c.self.view_is

pub returns-in-Some-clause-named : goal.returns-in-Some-clause-named
returns-in-Some-clause-named g c =
    let item = first_is_next g.P.Numbered.number _ _ _ _ _ c.self.invariant.items c.in-Some.ensures.items in rw item.0 item.1

pub returns-in-Some-clause-link : goal.returns-in-Some-clause-link
returns-in-Some-clause-link g c =
    let item = first_is_next g.P.Numbered.number _ _ _ _ _ c.self.invariant.items c.in-Some.ensures.items in
    let link = gives_its_number _ _ _ _ _ c.self.invariant.left (rw c.in-Ok-Some.field-0-is at c.in-Ok-Some.ensures.given) in rw item.0 link.1

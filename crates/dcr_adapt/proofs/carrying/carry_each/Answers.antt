use Rattle.std.proofs.Common.{◌≡◌, ◌<◌, ◌&&◌, ℕ, Bool, length, ltb, ap, ◌∙◌, arith}
use Rattle.dcr_set.specs.EventSet.{Set}
use Rattle.dcr_set.proofs.SetLemmas.{length-those}
use Rattle.dcr_set.proofs.ToldLemmas.{filled, filled_all}
use Rattle.dcr_adapt.specs.Carried.{is_carried, keeps_executed, keeps_included, keeps_pending}
use Rattle.dcr_adapt.proofs.CarriedLemmas.{filled_next}
use Rattle.dcr_adapt.proofs.carrying.carry_each.Goals as goal

-- a set that is filled has its room
room_of : (n i : ℕ) (p : ℕ → Bool) (s : Set) → s ≡ filled n p i → i < n → i < length s
room_of n i p s e below = let room = ap (λ t. length t) e ∙ length-those n (λ k. p k && ltb k i) in omega (arith, room, below)

pub put-requires : goal.put-requires
put-requires c =
    room_of (length c.args.next.now.graph.names) c.loop-number.number
    (is_carried c.args.names.now (keeps_executed c.args.owned.now c.args.marks.now) c.args.next.now.graph.names c.args.next.now.opening.executed)
    c.loop-number.executed c.loop-number.invariant.executed (omega (arith, c.atoms-atoms.ensures.atoms))

pub put-requires-in-loop-number : goal.put-requires-in-loop-number
put-requires-in-loop-number c =
    room_of (length c.args.next.now.graph.names) c.loop-number.number
    (is_carried c.args.names.now (keeps_pending c.args.owned.now c.args.marks.now) c.args.next.now.graph.names c.args.next.now.opening.pending)
    c.loop-number.pending c.loop-number.invariant.pending (omega (arith, c.atoms-atoms.ensures.atoms))

pub put-requires-in-loop-number-2 : goal.put-requires-in-loop-number-2
put-requires-in-loop-number-2 c =
    room_of (length c.args.next.now.graph.names) c.loop-number.number
    (is_carried c.args.names.now (keeps_included c.args.owned.now c.args.marks.now) c.args.next.now.graph.names c.args.next.now.opening.included)
    c.loop-number.included c.loop-number.invariant.included (omega (arith, c.atoms-atoms.ensures.atoms))

pub loop-number-preserved : goal.loop-number-preserved
loop-number-preserved c =
    let names = c.args.names.now in let C = c.args.owned.now in let marks = c.args.marks.now in
    let next = c.args.next.now.graph.names in let opening = c.args.next.now.opening in
    let n = length next in let b = c.loop-number.number in
    record {
      executed = c.put.ensures.put ∙ filled_next n b (is_carried names (keeps_executed C marks) next opening.executed) c.loop-number.executed c.carry_atom-found.result.executed c.loop-number.invariant.executed c.carry_atom-found.ensures.executed;
      pending = c.put-in-loop-number.ensures.put
          ∙ filled_next n b (is_carried names (keeps_pending C marks) next opening.pending) c.loop-number.pending c.carry_atom-found.result.pending c.loop-number.invariant.pending c.carry_atom-found.ensures.pending;
      included = c.put-in-loop-number-2.ensures.put
          ∙ filled_next n b (is_carried names (keeps_included C marks) next opening.included) c.loop-number.included c.carry_atom-found.result.included c.loop-number.invariant.included c.carry_atom-found.ensures.included;
    }

pub returns-clause-executed : goal.returns-clause-executed
returns-clause-executed c =
    c.loop-number.invariant.executed
    ∙ filled_all (length c.args.next.now.graph.names) c.loop-number.number
    (is_carried c.args.names.now (keeps_executed c.args.owned.now c.args.marks.now) c.args.next.now.graph.names c.args.next.now.opening.executed) (omega (arith, c.atoms-atoms.ensures.atoms))

pub returns-clause-pending : goal.returns-clause-pending
returns-clause-pending c =
    c.loop-number.invariant.pending
    ∙ filled_all (length c.args.next.now.graph.names) c.loop-number.number
    (is_carried c.args.names.now (keeps_pending c.args.owned.now c.args.marks.now) c.args.next.now.graph.names c.args.next.now.opening.pending) (omega (arith, c.atoms-atoms.ensures.atoms))

pub returns-clause-included : goal.returns-clause-included
returns-clause-included c =
    c.loop-number.invariant.included
    ∙ filled_all (length c.args.next.now.graph.names) c.loop-number.number
    (is_carried c.args.names.now (keeps_included c.args.owned.now c.args.marks.now) c.args.next.now.graph.names c.args.next.now.opening.included) (omega (arith, c.atoms-atoms.ensures.atoms))

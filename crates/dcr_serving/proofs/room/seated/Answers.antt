use Rattle.std.proofs.Common.{◌≡◌, ◌+◌, ◌++◌, List, [], ◌∷◌, length, reverse, ap, subst, sym, ◌∙◌, append_assoc, arith, rules}
use Rattle.std.specs.List.{All}
use Rattle.std.proofs.lemmas.List.{append-nil, length-append, reverse-append}
use Rattle.std.proofs.lemmas.List.Elements.{All-contains}
use Rattle.dcr_turn.specs.PassValue.{PassValue}
use Rattle.dcr_serving.specs.Serving.{new_pass}
use Rattle.dcr_serving.proofs.GatherLemmas.{last_of}
use Rattle.dcr_serving.proofs.ServingLemmas.{new_each}
use Rattle.dcr_serving.proofs.room.seated.Goals as goal

pub loop-pass-init : goal.loop-pass-init
loop-pass-init g c = record {
  parts = sym (append-nil c.args.passes.items) ∙ ap (λ (l : List PassValue). c.args.passes.items ++ reverse l) (sym c.requires.room.0);
  room = (let none : length c.args.seats.items ≡ 0 = ap (λ (l : List PassValue). length l) c.requires.room.0 in let room = c.requires.room.1 in omega (arith, none, room));
}

pub new-requires : goal.new-requires
new-requires g c =
    let last = last_of c.args.passes.items c.loop-pass.passes.items c.pop.new.self.items (reverse c.loop-pass.seats.items) c.in-Some.pass c.loop-pass.invariant.parts c.in-Some.ensures.items in
    All-contains (λ (p : PassValue). p ≡ new_pass p.session) c.args.passes.items c.in-Some.pass
    (subst (All (λ (p : PassValue). p ≡ new_pass p.session)) (sym c.requires.new) (new_each (length c.args.passes.items))) last.there

pub push_reserved-requires : goal.push_reserved-requires
push_reserved-requires g c =
    let longer : length c.loop-pass.passes.items ≡ length c.pop.new.self.items + 1 = ap (λ (l : List PassValue). length l) c.in-Some.ensures.items ∙ length-append c.pop.new.self.items (c.in-Some.pass ∷ []) in
    let room = c.loop-pass.invariant.room in
    let same = c.loop-pass.seats.ok.0 in
    omega (arith, longer, room, same)

pub loop-pass-preserved : goal.loop-pass-preserved
loop-pass-preserved g c =
    let rest = c.pop.new.self.items in
    let seats = c.loop-pass.seats.items in
    let longer : length c.loop-pass.passes.items ≡ length rest + 1 = ap (λ (l : List PassValue). length l) c.in-Some.ensures.items ∙ length-append rest (c.in-Some.pass ∷ []) in
    let more : length c.push_reserved.new.self.items ≡ length seats + 1 = ap (λ (l : List PassValue). length l) c.push_reserved.ensures.items ∙ length-append seats (c.new.result ∷ []) in
    record {
      parts =
          c.loop-pass.invariant.parts
          ∙ ap (λ (l : List PassValue). l ++ reverse seats) c.in-Some.ensures.items
          ∙ append_assoc rest (c.in-Some.pass ∷ []) (reverse seats)
          ∙ ap (λ (p : PassValue). rest ++ p ∷ reverse seats) (sym c.new.ensures)
          ∙ ap (λ (l : List PassValue). rest ++ l) (sym (reverse-append seats (c.new.result ∷ [])))
          ∙ ap (λ (l : List PassValue). rest ++ reverse l) (sym c.push_reserved.ensures.items);
      room = (let room = c.loop-pass.invariant.room in let same = c.push_reserved.ensures.capacity in omega (arith, longer, more, room, same));
    }

pub returns : goal.returns
returns g c =
    let none : c.loop-pass.passes.items ≡ [] = search rules in
    c.reverse.ensures.items ∙ sym (c.loop-pass.invariant.parts ∙ ap (λ (l : List PassValue). l ++ reverse c.loop-pass.seats.items) none)

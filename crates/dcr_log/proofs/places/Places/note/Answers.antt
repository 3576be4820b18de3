use Rattle.std.proofs.Common.{◌≡◌, ℕ, List, Some, ◌+◌, length, get_or, set, refl, ◌∙◌, sym, ap}
use Rattle.std.specs.Ordering.{nat_cmp}
use Rattle.std.specs.Cmp.Lexicographic.{slice_cmp}
use Rattle.std.specs.BTreeMap as tree
use Rattle.std.proofs.lemmas.Grind.{get_or_default_zero}
use Rattle.dcr_graph.specs.IndexModel.{place_among}
use Rattle.dcr_log.specs.Gathered.{Others, held_in}
use Rattle.dcr_log.proofs.GatheredLemmas.{noted_in_map, noted_in_slot}
use Rattle.dcr_log.proofs.places.Places.note.Goals as goal
use Rattle.dcr_log.proofs.places.Places.note.Goals.{After-index}

-- what the name's slot holds
held : (c : After-index) → held_in c.args.self.now c.args.name.now ≡ c.index.result.now
held c =
    let slots = c.args.self.now.slots.items in
    sym (c.index.ensures ∙ (get_or_default_zero slots c.slot_of-slot.result c.index.result.now c.slot_of-slot.ensures.within ∙ ap (λ n. get_or slots n 0) c.slot_of-slot.ensures.slot))

pub returns-then-index-eq0 : goal.returns-then-index-eq0
returns-then-index-eq0 c = λ names noted none last.
    let slots = c.args.self.now.slots.items in
    noted_in_slot c.args.self.now _ names c.args.name.now noted none (held (goal.at.returns-then-index-eq0 c).After-index ∙ c.if-index-eq0.true)
    (ap (λ n. set slots n (c.args.place + 1)) c.slot_of-slot.ensures.slot ∙ ap (λ n. set slots (place_among (length slots) c.args.self.now.start c.args.name.now) (n + 1)) last) refl refl

updated : (old new : Others) (key name : List ℕ) (n m : ℕ) → key ≡ name → n ≡ m → tree.Updates (slice_cmp nat_cmp) old new key (Some n) → tree.Updates (slice_cmp nat_cmp) old new name (Some m)
updated old new key name n m e f h = rw (← e, ← f) h

pub returns : goal.returns
returns c = λ names noted none last.
    noted_in_map c.args.self.now _ names c.args.name.now noted none (λ empty. c.if-index-eq0.false (sym (held (goal.at.returns c).After-index) ∙ empty)) refl refl
    (updated c.args.self.now.others c.insert.new.self c.copy.result c.args.name.now c.args.place (length names) c.copy.ensures last c.in_ok-insert.ensures.updates)

use Rattle.std.proofs.Common.{ℕ, ◌++◌, List, length, take, refl, ap, ◌∙◌, arith, length-append, length-take}
use Rattle.std.proofs.lemmas.List.{take_at}
use Rattle.dcr_set.specs.Kept.{set_at, words_needed}
use Rattle.dcr_set.proofs.KeptLemmas.{set_at-end}
use Rattle.dcr_set.proofs.StandsLemmas.{stands}
use Rattle.dcr_set.proofs.set.EventSet.put_words.Goals as goal

pub put-requires-clause-reserved : goal.put-requires-clause-reserved
put-requires-clause-reserved c =
    let before = stands c.self.inside _ c.self.invariant c.self.view_is in omega (arith, before.room_is, c.requires)

pub returns-clause-set : goal.returns-clause-set
returns-clause-set c =
    let before = stands c.self.inside _ c.self.invariant c.self.view_is in
    ap (λ (row : List ℕ). set_at row (length c.args.row.now.items) (length c.args.self.now)) c.put.ensures.row
    ∙ ap (set_at (c.args.row.now.items ++ take (words_needed c.self.inside.room) c.self.inside.words) (length c.args.row.now.items)) before.room_is
    ∙ set_at-end c.args.row.now.items c.self.inside.words c.self.inside.room c.args.self.now before

pub returns-clause-before : goal.returns-clause-before
returns-clause-before c =
    ap (take (length c.args.row.now.items)) c.put.ensures.row ∙ take_at c.args.row.now.items (take (words_needed c.self.inside.room) c.self.inside.words) (length c.args.row.now.items) refl

pub returns-clause-len : goal.returns-clause-len
returns-clause-len c =
    let before = stands c.self.inside _ c.self.invariant c.self.view_is in
    let more = take (words_needed c.self.inside.room) c.self.inside.words in
    let longer = ap (length {A = ℕ}) c.put.ensures.row ∙ length-append c.args.row.now.items more in
    let many = length-take (words_needed c.self.inside.room) c.self.inside.words in
    omega (arith, before.room_is, before.most, c.self.told)

use Rattle.std.proofs.Common.{◌≡◌, ℕ, ◌+◌, drop, length, List, [], ◌∷◌, ◌++◌, Option, Some, None, sym, ap, ◌∙◌, append_assoc, append-nil, arith}
use Rattle.std.specs.Prelude.{MatchOption}
use Rattle.std.specs.Vec.Iter.{into_iter_items, into_iter_len}
use Rattle.std.proofs.lemmas.List.{nil_from_length}
use Rattle.dcr.proofs.behind_first.Goals as goal

-- what the first step of an iterator leaves
after_first : {X : Type 0} (old new : List X) (n m : ℕ) (r : Option X) → n ≡ length old → m ≡ length new
    → MatchOption r ((n ≡ 0) × (m ≡ 0)) (λ x. (old ≡ x ∷ new) × (m + 1 ≡ n)) → new ≡ drop 1 old
after_first old new n m None old_len new_len ended =
    nil_from_length new (sym new_len ∙ ended.1) ∙ sym (ap (drop 1) (nil_from_length old (sym old_len ∙ ended.0)))
after_first old new n m (Some x) old_len new_len went = sym (ap (drop 1) went.0)

-- src/main.rt:47:5
pub loop-word-init : goal.loop-word-init
loop-word-init c =
    ap (λ items. items ++ into_iter_items c.next.new.self) c.new-behind.ensures.items
    ∙ after_first (into_iter_items c.args.words) (into_iter_items c.next.new.self) (into_iter_len c.args.words) (into_iter_len c.next.new.self)
    c.next.result c.args.words.rest.ok.0 c.next.new.self.rest.ok.0 c.next.ensures.cases

-- src/main.rt:47:5
pub loop-word-smaller : goal.loop-word-smaller
loop-word-smaller c = let went = c.in-Some.ensures.len in omega arith

-- src/main.rt:47:5
pub loop-word-preserved : goal.loop-word-preserved
loop-word-preserved c =
    let behind = c.loop-word.behind.items in
    let left = into_iter_items c.next-in-loop-word.new.self in
    ap (λ items. items ++ left) c.in_ok-push.ensures.items
    ∙ append_assoc behind (c.in-Some.word ∷ []) left
    ∙ ap (λ rest. behind ++ rest) (sym c.in-Some.ensures.items)
    ∙ c.loop-word.invariant

-- src/main.rt:41:1
pub returns : goal.returns
returns c =
    let behind = c.loop-word.behind.items in
    let rest = into_iter_items c.loop-word.words in
    let none : rest ≡ [] = nil_from_length rest (sym c.loop-word.words.rest.ok.0 ∙ c.in_default.ensures.cases.0) in
    sym (append-nil behind) ∙ ap (λ left. behind ++ left) (sym none) ∙ c.loop-word.invariant

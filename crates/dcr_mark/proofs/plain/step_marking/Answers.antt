use Rattle.std.proofs.Common.{◌≡◌, not, ◌&&◌, ◌||◌, eqb, length, ap, ◌∙◌}
use Rattle.dcr_set.specs.EventSet.{Set, has, those}
use Rattle.dcr_set.proofs.ToldLemmas.{joined_told, told_by_members}
use Rattle.dcr_graph.specs.GraphValue.{rules_of}
use Rattle.dcr_graph.specs.declared.kind.Kind.TheVariants as kind
use Rattle.dcr_graph.specs.declared.marking.Marking.{Marking}
use Rattle.dcr_mark.proofs.plain.step_marking.Goals as goal

-- markings with the same sets are the same
same_marking : (ex ex' re re' inc inc' : Set) → ex ≡ ex' → re ≡ re' → inc ≡ inc'
    → (let m : Marking = record { executed = ex; pending = re; included = inc } in m) ≡ record { executed = ex'; pending = re'; included = inc' }
same_marking ex ex' re re' inc inc' p q r = cc

pub returns-clause-stepped : goal.returns-clause-stepped
returns-clause-stepped c =
    let n = length c.args.graph.now.names in let G = rules_of c.args.graph.now in let M = c.args.marking.now in let e = c.args.e in
    same_marking _ _ _ _ _ _
    (c.insert.ensures.added ∙ ap (λ m. those m (λ k. eqb k e || has M.executed k)) c.requires.room.executed)
    (c.union_with.ensures.joined
    ∙ joined_told n c.minus_with.new.self (λ k. (has M.pending k && not (eqb k e)) && not (G.related kind.Cancel e k))
    (c.minus_with.ensures.left
    ∙ joined_told n c.remove.new.self (λ k. has M.pending k && not (eqb k e))
    (c.remove.ensures.removed ∙ ap (λ m. those m (λ k. has M.pending k && not (eqb k e))) c.requires.room.pending)
    c.targets.result.now (λ k. G.related kind.Cancel e k) c.targets.ensures.targets (λ a b. a && not b))
    c.targets-2.result.now (λ k. G.related kind.Response e k) c.targets-2.ensures.targets (λ a b. a || b))
    (c.minus_with-2.ensures.left
    ∙ joined_told n c.union_with-2.new.self (λ k. has M.included k || G.related kind.Include e k)
    (c.union_with-2.ensures.joined
    ∙ joined_told n M.included (has M.included) (told_by_members n M.included c.requires.room.included)
    c.targets-3.result.now (λ k. G.related kind.Include e k) c.targets-3.ensures.targets (λ a b. a || b))
    c.targets-4.result.now (λ k. G.related kind.Exclude e k) c.targets-4.ensures.targets (λ a b. a && not b))

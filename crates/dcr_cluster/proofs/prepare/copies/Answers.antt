use Rattle.std.proofs.Common.{◌≡◌, ℕ, ◌+◌, ◌<◌, List, [], ◌∷◌, ◌++◌, length, get_or, take, sym, ap, ◌∙◌}
use Rattle.std.proofs.lemmas.List.{take_more}
use Rattle.dcr_set.specs.EventSet.{Set}
use Rattle.dcr_cluster.proofs.prepare.copies.Goals as goal

one_more : (sets copies more : List Set) (i : ℕ) (set copy : Set) → copies ≡ take i sets → more ≡ copies ++ copy ∷ [] → copy ≡ set → set ≡ get_or sets i set → i < length sets → more ≡ take (i + 1) sets
one_more sets copies more i set copy so_far pushed same at within =
    pushed ∙ ap (λ l. l ++ copy ∷ []) so_far ∙ ap (λ (s : Set). take i sets ++ s ∷ []) (same ∙ at) ∙ sym (take_more sets i set within)

pub loop-set-preserved : goal.loop-set-preserved
loop-set-preserved c =
    one_more c.args.sets.now c.loop-set.copies.items c.push.new.self.items c.loop-set.set-index c.set-item.result c.copy.result c.loop-set.invariant c.in_ok-push.ensures.items c.copy.ensures c.set-item.is c.loop-set-test.true

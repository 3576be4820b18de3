use Rattle.std.proofs.Common.{◌≡◌, ℕ, ◌<◌, [], ◌∷◌, length, replicate, sym, ap, subst, ◌∙◌, arith}
use Rattle.std.specs.List.{All}
use Rattle.std.proofs.lemmas.List.{length-append, length-replicate}
use Rattle.std.proofs.lemmas.List.Elements.{All-replicate}
use Rattle.dcr_proj.proofs.once.Once.of.Goals as goal
use Rattle.dcr_proj.proofs.once.Once.of.Goals.{In_ok-slots}

zeros : (g : _) (c : In_ok-slots g) → c.in_ok-slots.slots.items ≡ replicate 4096 0
zeros g c = c.in_ok-slots.ensures.items_if_clones_equal (λ y same. same)

pub invariant_of-result : goal.invariant_of-result
invariant_of-result g c = record {
  known = record {
    as_many = ap (λ (slots : _). length slots) (zeros g c) ∙ length-replicate {A = ℕ} 4096 0;
    within = subst (All (λ n. n < length c.push.new.self.items)) (sym (zeros g c))
        (All-replicate (λ n. n < length c.push.new.self.items) 4096 0 (let one = ap (λ l. length l) c.in_ok-push.ensures.items ∙ length-append c.new-items.result.items (c.args.first ∷ []) in omega arith));
  };
}

-- Runs of calls that change nothing.
use Rattle.std.proofs.Common.{inl, inr, ⊎_elim, IsTrue, sym, ◌∙◌, arith}
use Rattle.dcr_base.specs.Disk.{DiskView, Stays, LeavesOnly, Durable, IsSteady}
use Rattle.dcr_tape.proofs.DurableLemmas.{honest_as}

-- two such calls, one after the other
pub stays_trans : (old mid new : DiskView) → Stays old mid → Stays mid new → Stays old new
stays_trans old mid new first second = record {
  told = λ told. let here = first.told told in let there = second.told here.0 in (there.0, there.1 ∙ here.1);
  honest = second.honest ∙ first.honest;
  no_more = λ honest c left. first.no_more honest c (second.no_more (honest_as old mid first.honest honest) c left);
  elapses = λ honest. let before = first.elapses honest in let after = second.elapses (honest_as old mid first.honest honest) in record {
    later = omega (arith, before.later, after.later);
    nothing_else = λ t c le left. ⊎_elim
        (λ was. ⊎_elim (λ x. inl x) (λ now. inl (old.counts_now t c le (first.no_more honest c now))) (before.nothing_else t c le was))
        (λ now. inr now)
        (after.nothing_else t c (omega (arith, le, before.later)) left);
    keeps = λ t c le was. after.keeps t c (omega (arith, le, before.later)) (before.keeps t c le was);
  };
}

-- at any moment of such a run a crash leaves what it might have left before
pub stays_leaves : (old new : DiskView) → Stays old new → IsTrue old.honest → LeavesOnly old new old.may_leave
stays_leaves old new stays honest = let time = stays.elapses honest in record {
  later = time.later;
  each = λ c left. ⊎_elim (old.only_now c) (stays.no_more honest c) (time.nothing_else old.moment c (omega arith) left);
  before = λ t c le left. ⊎_elim (λ was. inl was) (λ now. inr (stays.no_more honest c now)) (time.nothing_else t c le left);
}

-- nothing is pending after a sync and such calls
pub stays_steady : (mid new : DiskView) → Durable mid → Stays mid new → IsTrue mid.honest → IsSteady new
stays_steady mid new durable stays honest = record {
  honest = honest_as mid new stays.honest honest;
  only = λ c left. durable.only honest c (stays.no_more honest c left) ∙ sym ((stays.told durable.told).1);
}

-- and where nothing was pending before such calls
pub steady_stays : (old new : DiskView) → Stays old new → IsSteady old → IsSteady new
steady_stays old new stays steady = record {
  honest = honest_as old new stays.honest steady.honest;
  only = λ c left. steady.only c (stays.no_more steady.honest c left) ∙ sym ((stays.told (old.honest_tells steady.honest)).1);
}

use Rattle.std.proofs.Common.{◌≡◌, ◌∙◌, ◌%◌, ℕ, List, length, refl, sym, ap, subst}
use Rattle.std.specs.Prelude.{vec_len, slice_index_or}
use Rattle.std.specs.List.{All, Contains, range_with_len}
use Rattle.dcr_turn.specs.PassValue.{PassValue}
use Rattle.dcr_work.specs.Dealing.{AreDealt, Hand, IsNew}
use Rattle.dcr_work.specs.Working.{AllHands}
use Rattle.dcr_work.proofs.RunLemmas.{all_worked, count_of, new_by_count}
use Rattle.dcr_work.proofs.run.run_sessions.Goals as goal

pub deal-requires-clause-passes : goal.deal-requires-clause-passes
deal-requires-clause-passes g c = new_by_count g.N.TurnName.turn.sessions c.args.passes c.requires.passes

pub at_work-requires-clause-new : goal.at_work-requires-clause-new
at_work-requires-clause-new g c κs within =
    subst (λ (n : ℕ). All (λ (hand : Hand). All (IsNew n) hand.items) c.deal.new.hands) (count_of g.N.TurnName.turn.sessions c.args.passes c.requires.passes ∙ sym c.requires.as_many) c.deal.ensures.dealt.new

pub returns-clause-worked : goal.returns-clause-worked
returns-clause-worked g c =
    let n : ℕ = vec_len c.args.passes in
    let count : n ≡ length c.args.sessions.now = count_of g.N.TurnName.turn.sessions c.args.passes c.requires.passes ∙ sym c.requires.as_many in
    let many : length c.as_mut_slice-dealt.result.now ≡ c.args.workers = ap (λ (l : List Hand). length l) c.as_mut_slice-dealt.ensures.value ∙ c.in-Ok.ensures.as_many in
    let dealt_many : length c.deal.new.hands ≡ c.args.workers = c.deal.ensures.as_many ∙ many in
    let worked_many : length c.at_work.new.hands ≡ c.args.workers = c.at_work.ensures.as_many ∙ dealt_many in
    all_worked g.N.ClusterName.cluster g.N.StoreName.first g.N.TurnName.capacity c.args.workers n c.args.sessions.now c.deal.new.hands c.at_work.new.hands c.gather.new.passes.items
    c.requires.workers.0 dealt_many worked_many count
    (subst (λ (W : ℕ). AreDealt W n n c.deal.new.hands) many c.deal.ensures.dealt) c.at_work.ensures.worked
    (c.gather.ensures.sessions ∙ ap (range_with_len 0) c.len-count.ensures)
    (subst (λ (W : ℕ). All (λ (pass : PassValue). (d : Hand) → Contains (slice_index_or c.at_work.new.hands (pass.session % W) d).items pass) c.gather.new.passes.items) worked_many c.gather.ensures.from_hands)
    c.args.passes

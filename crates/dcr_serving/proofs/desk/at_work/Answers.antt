use Rattle.std.proofs.Common.{◌≡◌, ◌<◌, length, ap, subst, sym, ◌∙◌}
use Rattle.std.specs.List.{All}
use Rattle.dcr_serving.specs.Hands.{HasServed}
use Rattle.dcr_serving.proofs.DeskLemmas.{whole_again}
use Rattle.dcr_serving.proofs.desk.at_work.Goals as goal

pub returns-clause-as_many : goal.returns-clause-as_many
returns-clause-as_many g c =
    let as_many : length c.each_at_work.new.hands ≡ length c.args.hands.now.items = c.each_at_work.ensures.as_many ∙ ap (λ l. length l) c.as_mut_slice.ensures.value in
    ap (λ l. length l) (whole_again c.args.hands.now.len c.each_at_work.new.hands c.args.hands.now.items c.args.hands.now.ok.0 as_many) ∙ as_many

pub returns-clause-served : goal.returns-clause-served
returns-clause-served g c =
    let as_many : length c.each_at_work.new.hands ≡ length c.args.hands.now.items = c.each_at_work.ensures.as_many ∙ ap (λ l. length l) c.as_mut_slice.ensures.value in
    subst (All (HasServed g.B.Door.tells.each
    g.N.StoreName.first g.N.TurnName.capacity c.args.scene.now g.M.DeskName.links g.M.DeskName.items))
    (sym (whole_again c.args.hands.now.len c.each_at_work.new.hands c.args.hands.now.items c.args.hands.now.ok.0 as_many))
    (λ k d within. c.each_at_work.ensures.served k d (subst (λ n. k < n) c.each_at_work.ensures.as_many within))

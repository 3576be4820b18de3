use Rattle.std.proofs.Common.{◌≡◌, false, true, is_some, refl, rules, ◌∙◌}
use Rattle.std.specs.declared.io.Error.{Error}
use Rattle.dcr_net.specs.ListenPorter.{listened}
use Rattle.dcr_net.proofs.PorterLemmas.{begins_failed, begins_well, the_none, the_some}
use Rattle.dcr_net.proofs.listen_porter.ListenPorterPorter.begin.Goals as goal

pub returns-then-is_some-clause-begins : goal.returns-then-is_some-clause-begins
returns-then-is_some-clause-begins g c =
    let is : is_some c.args.self.now.listener ≡ true = search rules in
    let some = the_some c.args.self.now.listener is in
    listened some.0 some.1 refl refl

pub returns-in-Ok-clause-begins : goal.returns-in-Ok-clause-begins
returns-in-Ok-clause-begins g c =
    let is : is_some c.args.self.now.listener ≡ false = search rules in
    begins_well g.R.Listen.answered g.R.Listener.Unwaiting.told c.args.self.now Error c.in-Ok.listener _ c.listen.new.self _ (the_none c.args.self.now.listener is) refl refl refl c.in-Ok.ensures.listened

pub returns-in-Err-clause-begins : goal.returns-in-Err-clause-begins
returns-in-Err-clause-begins g c =
    let is : is_some c.args.self.now.listener ≡ false = search rules in
    let none = the_none c.args.self.now.listener is in
    begins_failed g.R.Listen.answered g.R.Listener.Unwaiting.told c.args.self.now c.in-Err.field-0 _ c.listen.new.self _ none refl (c.listen.ensures.listener ∙ none) refl c.in-Err.ensures.listened

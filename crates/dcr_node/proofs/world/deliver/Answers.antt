use Rattle.std.proofs.Common.{◌≡◌, Some, length, sym, ap, subst, ◌∙◌, arith}
use Rattle.std.specs.Prelude.{slice_get}
use Rattle.std.proofs.lemmas.Option.{slice_get-get_or}
use Rattle.dcr_journal.specs.JournalValue.{History}
use Rattle.dcr_wire.specs.declared.message.Message.TheVariants.{Ask, Apply}
use Rattle.dcr_node.specs.JournalState.{journal_step}
use Rattle.dcr_node.specs.Machine.{with_journal, delivered_if}
use Rattle.dcr_node.specs.Parts.{world_with, Reached}
use Rattle.dcr_node.specs.Right.{IsTrueAt}
use Rattle.dcr_node.proofs.PartsLemmas.{site_may_take, journal_may_take, asked_site, item_site, reached_is}
use Rattle.dcr_node.proofs.world.deliver.Goals as goal
use Rattle.dcr_node.proofs.world.deliver.Goals.{After-message-message}

-- the message that was sent
sent : (c : After-message-message) → slice_get c.args.sent.now c.args.number ≡ Some c.message-message.result
sent c =
    let found = c.in_ok-packet.ensures.lookup in
    slice_get-get_or c.args.sent.now c.args.number c.in_ok-packet.packet.now found.3.0 ∙ ap Some (sym found.1 ∙ sym c.message-message.ensures)

true_message : (c : After-message-message) → IsTrueAt c.requires.rules c.requires.owned c.requires.opening c.args.journal.now c.message-message.result
true_message c = c.requires.right.sent c.args.number c.message-message.result (sent c)

pub reach-requires-clause-site : goal.reach-requires-clause-site
reach-requires-clause-site c =
    let b = (goal.at.reach-requires-clause-site c).After-message-message in
    let is = c.requires in
    asked_site is.rules is.owned is.opening (world_with is.opening c.args.journal.now c.args.sites.now c.args.sent.now is.questions is.answers) is.right c.in-Ask.number c.in-Ask.site c.in-Ask.event c.in-Ask.count
    (subst (IsTrueAt is.rules is.owned is.opening c.args.journal.now) c.in-Ask.is (true_message b))

pub reach-requires-clause-message : goal.reach-requires-clause-message
reach-requires-clause-message c = λ node found.
    let b = (goal.at.reach-requires-clause-message c).After-message-message in
    let is = c.requires in
    site_may_take is.rules is.owned is.opening (world_with is.opening c.args.journal.now c.args.sites.now c.args.sent.now is.questions is.answers) is.right c.message-message.result (true_message b)
    (let entries = ap (λ (h : History). length h.entries) c.journal-entries.ensures.journal in let within = c.journal-entries.ensures.within in let most = c.journal-entries.ensures.most in omega arith)
    c.in-Ask.site node found

pub step-requires : goal.step-requires
step-requires c =
    let b = (goal.at.step-requires c).After-message-message in
    let is = c.requires in
    journal_may_take is.rules is.owned is.opening (world_with is.opening c.args.journal.now c.args.sites.now c.args.sent.now is.questions is.answers) is.right c.message-message.result (true_message b)

pub reach-requires-in-Apply-clause-site : goal.reach-requires-in-Apply-clause-site
reach-requires-in-Apply-clause-site c =
    let b = (goal.at.reach-requires-in-Apply-clause-site c).After-message-message in
    let is = c.requires in
    item_site is.rules is.owned is.opening (world_with is.opening c.args.journal.now c.args.sites.now c.args.sent.now is.questions is.answers) is.right c.in-Apply.site c.in-Apply.index c.in-Apply.event
    (subst (IsTrueAt is.rules is.owned is.opening c.args.journal.now) c.in-Apply.is (true_message b))

pub reach-requires-in-Apply-clause-message : goal.reach-requires-in-Apply-clause-message
reach-requires-in-Apply-clause-message c = λ node found.
    let b = (goal.at.reach-requires-in-Apply-clause-message c).After-message-message in
    let is = c.requires in
    site_may_take is.rules is.owned is.opening (world_with is.opening c.args.journal.now c.args.sites.now c.args.sent.now is.questions is.answers) is.right c.message-message.result (true_message b)
    (let entries = ap (λ (h : History). length h.entries) c.journal-entries.ensures.journal in let within = c.journal-entries.ensures.within in let most = c.journal-entries.ensures.most in omega arith)
    c.in-Apply.site node found

pub returns-in-Ask : goal.returns-in-Ask
returns-in-Ask c = λ G C M questions answers right.
    let b = (goal.at.returns-in-Ask c).After-message-message in
    let w = world_with M c.args.journal.now c.args.sites.now c.args.sent.now questions answers in
    let told = subst (IsTrueAt G C M c.args.journal.now) c.in-Ask.is (right.sent c.args.number c.message-message.result (sent b)) in
    let m = Ask c.in-Ask.number c.in-Ask.site c.in-Ask.event c.in-Ask.count in
    ap (delivered_if G C w) (sent b ∙ ap Some c.in-Ask.is)
    ∙ reached_is G C M w right c.in-Ask.site m c.reach.new.sites c.reach.result (asked_site G C M w right c.in-Ask.number c.in-Ask.site c.in-Ask.event c.in-Ask.count told)
    (subst (λ x. Reached c.args.sites.now c.in-Ask.site x c.reach.new.sites c.reach.result) c.in-Ask.is c.reach.ensures)

pub returns-in-Vote : goal.returns-in-Vote
returns-in-Vote c = λ G C M questions answers right.
    let b = (goal.at.returns-in-Vote c).After-message-message in
    let w = world_with M c.args.journal.now c.args.sites.now c.args.sent.now questions answers in
    ap (delivered_if G C w) (sent b ∙ ap Some c.in-Vote.is)
    ∙ ap (with_journal w) (sym (c.step.ensures ∙ ap (journal_step c.args.journal.now) c.in-Vote.is))

pub returns-in-Apply : goal.returns-in-Apply
returns-in-Apply c = λ G C M questions answers right.
    let b = (goal.at.returns-in-Apply c).After-message-message in
    let w = world_with M c.args.journal.now c.args.sites.now c.args.sent.now questions answers in
    let told = subst (IsTrueAt G C M c.args.journal.now) c.in-Apply.is (right.sent c.args.number c.message-message.result (sent b)) in
    let m = Apply c.in-Apply.site c.in-Apply.index c.in-Apply.event in
    ap (delivered_if G C w) (sent b ∙ ap Some c.in-Apply.is)
    ∙ reached_is G C M w right c.in-Apply.site m c.reach-in-Apply.new.sites c.reach-in-Apply.result (item_site G C M w right c.in-Apply.site c.in-Apply.index c.in-Apply.event told)
    (subst (λ x. Reached c.args.sites.now c.in-Apply.site x c.reach-in-Apply.new.sites c.reach-in-Apply.result) c.in-Apply.is c.reach-in-Apply.ensures)

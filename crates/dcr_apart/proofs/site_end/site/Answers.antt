use Rattle.std.proofs.Common.{◌≡◌, ◌≤◌, List, ℕ, [], length, Err, refl, sym, subst, ap, ◌∙◌, arith}
use Rattle.std.proofs.lemmas.Bool.{eqb-true}
use Rattle.std.proofs.lemmas.List.{nil_from_length}
use Rattle.dcr_app.specs.Outside.{LeavesInput}
use Rattle.dcr_apart.specs.SiteAnswer.{limit_of, most_part, read, unread}
use Rattle.dcr_apart.proofs.SiteLemmas.{left_are, read_input}
use Rattle.dcr_apart.proofs.site_end.site.Goals as goal

pub returns-in-Ok-clause-answers : goal.returns-in-Ok-clause-answers
returns-in-Ok-clause-answers g c =
    let none : c.args.words.now ≡ [] = nil_from_length c.args.words.now (eqb-true (length c.args.words.now) 0 (sym c.is_empty.ensures ∙ c.if-not-is_empty.false)) in
    let few : length c.deref.result.now ≤ most_part = (let within = c.in-Ok.ensures.within in let many = c.in-Ok.bytes.ok in let same = ap (λ (l : List ℕ). length l) c.deref.ensures.value in omega (arith, within, many, same)) in
    read none c.deref.result.now (left_are (g.I.Source.gives c.args.input.now).bytes c.in-Ok.bytes.items c.deref.result.now c.deref.ensures.value c.in-Ok.ensures.all) few c.in-Ok.ensures.has_ended c.site_of.ensures.answers

pub returns-in-Ok-clause-input : goal.returns-in-Ok-clause-input
returns-in-Ok-clause-input g c =
    let none : c.args.words.now ≡ [] = nil_from_length c.args.words.now (eqb-true (length c.args.words.now) 0 (sym c.is_empty.ensures ∙ c.if-not-is_empty.false)) in
    let left = g.I.Source.gives c.args.input.now in let rest = g.I.Source.gives c.read_all.new.source in let has_ended = g.I.Source.has_ended c.read_all.new.source in
    let few : length c.in-Ok.bytes.items ≤ most_part = (let within = c.in-Ok.ensures.within in let many = c.in-Ok.bytes.ok in omega (arith, within, many)) in
    subst (λ words. LeavesInput (limit_of words) left rest has_ended c.site_of.result.status) (sym none)
    (read_input g.P.Porter.tells c.in-Ok.bytes.items _ _ _ _ _ _ _ c.site_of.ensures.answers left rest has_ended few c.in-Ok.ensures.all c.in-Ok.ensures.told c.in-Ok.ensures.has_ended c.in-Ok.ensures.ended c.in-Ok.ensures.counts)

pub returns-in-Err-clause-answers : goal.returns-in-Err-clause-answers
returns-in-Err-clause-answers g c =
    let none : c.args.words.now ≡ [] = nil_from_length c.args.words.now (eqb-true (length c.args.words.now) 0 (sym c.is_empty.ensures ∙ c.if-not-is_empty.false)) in
    unread none c.in-Err.stop (λ long. c.read_all.ensures.too_long (c.in-Err.is ∙ ap Err long)) c.unread.ensures refl

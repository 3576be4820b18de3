use Rattle.std.proofs.Common.{◌≡◌, ◌<◌, Some, length, ◌∙◌, arith}
use Rattle.std.specs.Prelude.{slice_get}
use Rattle.std.proofs.lemmas.Option.{slice_get_read}
use Rattle.std.proofs.Common.{refl}
use Rattle.dcr_graph.specs.Rows.{row}
use Rattle.dcr_site.specs.Seen.{StandsAt}
use Rattle.dcr_site.proofs.TogetherLemmas.{waits_none, waits_more, waits_all}
use Rattle.dcr_run.proofs.sites.first_of_each.Goals as goal

pub loop-member-init : goal.loop-member-init
loop-member-init c = λ G C M stand. waits_none G.atoms C M

pub loop-member-preserved : goal.loop-member-preserved
loop-member-preserved c = λ G C M stand.
    let i = c.loop-member.member-index in
    let within : i < length c.args.members.now = omega arith in
    let here : slice_get c.args.members.now i ≡ Some c.member-item.result = slice_get_read c.args.members.now (length c.args.members.now) i c.member-item.result refl within c.member-item.is in
    let at : StandsAt G (row C i) M c.member-item.result = stand.each i c.member-item.result here in
    c.lesser-first.ensures ∙ waits_more G C M i c.loop-member.first c.first_waiting.result (let room = stand.as_many in omega arith) (c.loop-member.invariant G C M stand) (c.first_waiting.ensures G (row C i) M at)

pub returns : goal.returns
returns c = λ G C M stand. waits_all G C M c.loop-member.member-index c.loop-member.first (let room = stand.as_many in omega arith) (c.loop-member.invariant G C M stand)

use Rattle.std.proofs.Common.{◌≡◌, length, IfOk, ap, subst, ◌∙◌}
use Rattle.hex.specs.Hex.{IsBytes}
use Rattle.dcr_json.specs.Built.{case_of}
use Rattle.dcr_part.specs.Whole.{IsWhole}
use Rattle.dcr_app.specs.Parted.{whole_at}
use Rattle.dcr_app.proofs.PartLemmas.{each_ok, is_whole, owned_room, text_is}
use Rattle.dcr_app.proofs.part.text_of.Goals as goal

pub part_text-requires-clause-own : goal.part_text-requires-clause-own
part_text-requires-clause-own c = ap length c.owned.ensures.owned ∙ owned_room c.args.case.now c.requires.case c.args.site c.requires.site

pub returns-clause-text : goal.returns-clause-text
returns-clause-text c =
    subst (λ written. IfOk c.part_text.result (λ text. text.items ≡ written))
    (text_is c.args.case.now c.requires.case c.args.site c.requires.site c.in_ok-digest.digest c.in_ok-name.name c.owned.result.now c.in_ok-digest.ensures.digest (c.in_ok-name.ensures ∙ c.name.ensures) c.owned.ensures.owned)
    c.part_text.ensures

pub returns-clause-whole : goal.returns-clause-whole
returns-clause-whole c =
    each_ok c.part_text.result (IsWhole (whole_at (case_of c.args.case.now) c.args.site))
    (is_whole c.args.case.now c.requires.case c.args.site c.requires.site (subst IsBytes c.in_ok-digest.ensures.digest c.in_ok-digest.ensures.bytes))

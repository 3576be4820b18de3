use Rattle.std.proofs.Common.{codes, Some, sym, ap, ◌∙◌}
use Rattle.std.proofs.lemmas.Option.{none-some, same_Some}
use Rattle.serde_json.specs.View.{view}
use Rattle.hex.specs.Hex.{encode_lower}
use Rattle.dcr_part.proofs.MemberLemmas.{digest_in, number_in, site_in, text_in, name_found, same_head}
use Rattle.dcr_part.proofs.fields.read_head.Goals as goal

pub returns-in_default-clause-read : goal.returns-in_default-clause-read
returns-in_default-clause-read c = λ P it is.
    let d = view c.args.value.now in
    absurd (none-some (encode_lower P.head.digest) (c.in_default.ensures ∙ text_in (codes "digest") d (encode_lower P.head.digest) (digest_in P d is)))

pub returns-in_default-read_digest-clause-read : goal.returns-in_default-read_digest-clause-read
returns-in_default-read_digest-clause-read c = λ P it is.
    let d = view c.args.value.now in
    absurd (none-some P.head.digest (c.in_default-read_digest.ensures.read P.head.digest it.digest it.bytes
    (same_Some _ _ (c.in-Some.ensures ∙ text_in (codes "digest") d (encode_lower P.head.digest) (digest_in P d is)))))

pub returns-in_default-member_number-clause-read : goal.returns-in_default-member_number-clause-read
returns-in_default-member_number-clause-read c = λ P it is.
    absurd (none-some P.head.site (c.in_default-member_number.ensures.read P.head.site it.site (number_in P (view c.args.value.now) is)))

pub returns-in_default-member_text-clause-read : goal.returns-in_default-member_text-clause-read
returns-in_default-member_text-clause-read c = λ P it is.
    let d = view c.args.value.now in
    absurd (none-some P.head.name (c.in_default-member_text.ensures ∙ text_in (codes "site") d P.head.name (site_in P d is)))

pub returns-in_default-2-clause-read : goal.returns-in_default-2-clause-read
returns-in_default-2-clause-read c = λ P it is.
    let d = view c.args.value.now in
    let same = same_Some _ _ (c.in-Some-member_text.ensures ∙ text_in (codes "site") d P.head.name (site_in P d is)) in
    absurd (none-some P.head.name (sym c.in_default-2.is ∙ c.in_ok-name.ensures ∙ name_found c.in-Some-member_text.text.now P.head.name same it.site_name))

pub returns-clause-read : goal.returns-clause-read
returns-clause-read c = λ P it is.
    let d = view c.args.value.now in
    let digits = same_Some _ _ (c.in-Some.ensures ∙ text_in (codes "digest") d (encode_lower P.head.digest) (digest_in P d is)) in
    let text = same_Some _ _ (c.in-Some-member_text.ensures ∙ text_in (codes "site") d P.head.name (site_in P d is)) in
    ap Some (same_head P.head c.in-Some-read_digest.digest c.in-Some-2.name c.in-Some-member_number.site
    (same_Some _ _ (c.in-Some-read_digest.ensures.read P.head.digest it.digest it.bytes digits))
    (same_Some _ _ (c.in-Some-member_number.ensures.read P.head.site it.site (number_in P d is)))
    (same_Some _ _ (sym c.in-Some-2.is ∙ c.in_ok-name.ensures ∙ name_found c.in-Some-member_text.text.now P.head.name text it.site_name)))

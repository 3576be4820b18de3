-- The bytes of a message mean that message.
use Rattle.std.proofs.Common.{◌≡◌, ℕ, List, length, refl, sym, ap, ◌∙◌}
use Rattle.std.proofs.lemmas.Nat.{from_be_bytes-to_be_bytes_2, from_be_bytes-to_be_bytes_4}
use Rattle.dcr_graph.specs.declared.kind.Cause.TheVariants.{Excluded, Condition, Milestone}
use Rattle.dcr_site.specs.declared.site.Decision.{Decision}
use Rattle.dcr_site.specs.declared.site.Decision.TheVariants.{NotHere, Blocked, Enabled}
use Rattle.dcr_wire.specs.Form.{decision_number, decision_event, fields_of, bytes_of, HaveWidths, Spell}
use Rattle.dcr_wire.specs.PacketModel.{decision_meant, two_at, four_at, meant}
use Rattle.dcr_wire.specs.Laws.{HaveFourteen, SpellOneMessage}
use Rattle.dcr_wire.specs.declared.fields.Fields.{Fields}
use Rattle.dcr_wire.specs.declared.message.Message.{Message}
use Rattle.dcr_wire.specs.declared.message.Message.TheVariants.{Ask, Vote, Apply}

-- the numbers at the places of the fields
site_at : (f : Fields) → HaveWidths f → two_at (bytes_of f) 1 ≡ f.site
site_at f fits = from_be_bytes-to_be_bytes_2 f.site fits.site

number_at : (f : Fields) → HaveWidths f → four_at (bytes_of f) 3 ≡ f.number
number_at f fits = from_be_bytes-to_be_bytes_4 f.number fits.number

event_at : (f : Fields) → HaveWidths f → two_at (bytes_of f) 7 ≡ f.event
event_at f fits = from_be_bytes-to_be_bytes_2 f.event fits.event

count_at : (f : Fields) → HaveWidths f → four_at (bytes_of f) 9 ≡ f.count
count_at f fits = from_be_bytes-to_be_bytes_4 f.count fits.count

decision_back : (d : Decision) → decision_meant (decision_number d) (decision_event d) ≡ d
decision_back Enabled = refl
decision_back NotHere = refl
decision_back (Blocked Excluded) = refl
decision_back (Blocked (Condition c)) = refl
decision_back (Blocked (Milestone m)) = refl

-- the bytes of a message mean it
pub means : (m : Message) → HaveWidths (fields_of m) → meant (bytes_of (fields_of m)) ≡ m
means (Ask number site event count) fits =
    let f = fields_of (Ask number site event count) in
    ap (λ n. Ask n (two_at (bytes_of f) 1) (two_at (bytes_of f) 7) (four_at (bytes_of f) 9)) (number_at f fits)
    ∙ ap (λ s. Ask number s (two_at (bytes_of f) 7) (four_at (bytes_of f) 9)) (site_at f fits)
    ∙ ap (λ e. Ask number site e (four_at (bytes_of f) 9)) (event_at f fits)
    ∙ ap (λ c. Ask number site event c) (count_at f fits)
means (Vote number site decision) fits =
    let f = fields_of (Vote number site decision) in
    ap (λ n. Vote n (two_at (bytes_of f) 1) (decision_meant (decision_number decision) (two_at (bytes_of f) 7))) (number_at f fits)
    ∙ ap (λ s. Vote number s (decision_meant (decision_number decision) (two_at (bytes_of f) 7))) (site_at f fits)
    ∙ ap (λ e. Vote number site (decision_meant (decision_number decision) e)) (event_at f fits)
    ∙ ap (λ d. Vote number site d) (decision_back decision)
means (Apply site index event) fits =
    let f = fields_of (Apply site index event) in
    ap (λ s. Apply s (four_at (bytes_of f) 3) (two_at (bytes_of f) 7)) (site_at f fits)
    ∙ ap (λ n. Apply site n (two_at (bytes_of f) 7)) (number_at f fits)
    ∙ ap (λ e. Apply site index e) (event_at f fits)

-- and so where bytes are a message's
pub means_spelled : (bytes : List ℕ) (m : Message) → Spell bytes m → meant bytes ≡ m
means_spelled bytes m spelled = ap meant spelled.same ∙ means m spelled.fits

pub have_fourteen : HaveFourteen
have_fourteen bytes m spelled = ap (λ xs. length xs) spelled.same

pub spell_one : SpellOneMessage
spell_one bytes one other first second = sym (means_spelled bytes one first) ∙ means_spelled bytes other second

-- What `part` answers: the part that a site of the case has, or why none is told.
use Rattle.std.specs.Prelude.{◌≡◌, ◌⊎◌, ℕ, List, [], ◌++◌, codes, slice_index_or, Option, Some, None, Result, Ok, Err}
use Rattle.dcr_base.specs.Side.{Side}
use Rattle.dcr_base.specs.declared.status.Status.{Status}
use Rattle.dcr_base.specs.declared.status.Status.TheVariants.{Done, Refused, NoMemory}
use Rattle.dcr_graph.specs.Names.{number_of}
use Rattle.dcr_json.specs.Written.{Spelled}
use Rattle.dcr_part.specs.Whole.{Whole, IsWhole, part_text, whole}
use Rattle.dcr_roles.specs.Accepted.{HadMemory, case_accepted}
use Rattle.dcr_roles.specs.Laws.{AcceptsCase}
use Rattle.dcr_roles.specs.declared.accepted.AcceptStop.{AcceptStop}
use Rattle.dcr_app.specs.Headline.{digest_of, rules_in}
use Rattle.dcr_app.specs.Outside.{Wrote}
use Rattle.dcr_app.specs.Refusal.{refusal_line}
use Rattle.dcr_app.specs.Telling.{atoms_in}

-- a case at its site of this number, with the digest that names the case on its tape
abbrev pub whole_at : Spelled → ℕ → Whole
whole_at case number =
    whole (record { digest = digest_of case; site = number; name = slice_index_or case.cover.names number [] }) (atoms_in case) (rules_in case)
    (slice_index_or case.cover.owned number []) case.opening

-- ---- refusals

-- the line that tells that a case has no site of this name
abbrev pub no_site_line : List ℕ → List ℕ
no_site_line site = codes "refused 18 no-site " ++ site ++ codes "\n"

-- this is the line of the first refusal: the bytes are not accepted, or no site of their case has this name
pub data RefusesPart (site bytes line : List ℕ) : Type 0 where
  refuses_case : (why : AcceptStop) → case_accepted bytes ≡ Err why → HadMemory why → line ≡ refusal_line why → RefusesPart site bytes line
  refuses_site : (case : Spelled) → case_accepted bytes ≡ Ok case → number_of case.cover.names site ≡ None → line ≡ no_site_line site → RefusesPart site bytes line

-- ---- answers

-- The bytes are accepted as a case, one of its sites has this name, and the text of that site's part was due. It is one that
-- `read_part` reads, as the part of this case at this site.
pub record TellsPart (site bytes : List ℕ) (had took : Side) (status : Status) : Type 0 where
  pub case : Spelled
  pub accepts : AcceptsCase bytes case
  pub number : ℕ
  pub named : number_of case.cover.names site ≡ Some number
  pub is : IsWhole (whole_at case number)
  pub wrote : Wrote Done (part_text (whole_at case number)) status had took

-- what an input and an output that don't fail end with: a case that has a site of this name is done, and others are refused
abbrev pub EndsSite : Option ℕ → Status → Type 0
EndsSite (Some number) status = (status ≡ Done) ⊎ (status ≡ NoMemory)
EndsSite None status = (status ≡ Refused) ⊎ (status ≡ NoMemory)

abbrev pub EndsPart : List ℕ → Result Spelled AcceptStop → Status → Type 0
EndsPart site (Err why) status = (status ≡ Refused) ⊎ (status ≡ NoMemory)
EndsPart site (Ok case) status = EndsSite (number_of case.cover.names site) status

-- What `part` answers.
use Rattle.std.proofs.Common.{◌≡◌, ◌⊎◌, ℕ, ◌<◌, arith, Bool, true, false, List, [], length, get_or, Option, Some, None, Result, Ok, Err, OnOk, cond, inl, inr, refl, sym, ap, subst, ◌∙◌}
use Rattle.std.specs.Str.{bytes_eq}
use Rattle.std.proofs.lemmas.Bool.{cases_lt}
use Rattle.std.proofs.lemmas.List.{get_or_past}
use Rattle.std.proofs.lemmas.List.Elements.{All-get_or}
use Rattle.std.proofs.lemmas.List.FromFn.{length-map-range_with_len}
use Rattle.hex.specs.Hex.{IsBytes}
use Rattle.sha2.proofs.Facts256.{length-sha256}
use Rattle.dcr_base.specs.Disk.{DiskView}
use Rattle.dcr_base.specs.Side.{Side}
use Rattle.dcr_base.specs.declared.status.Status.{Status}
use Rattle.dcr_base.specs.declared.status.Status.TheVariants.{Done, Refused, NoMemory}
use Rattle.dcr_set.specs.EventSet.{Set, has}
use Rattle.dcr_set.proofs.LeastLemmas.{least-some}
use Rattle.dcr_set.proofs.SetLemmas.{length-those}
use Rattle.dcr_graph.specs.GraphValue.{rules_of}
use Rattle.dcr_graph.specs.Names.{is_name, number_of}
use Rattle.dcr_graph.specs.Projection.{HasRoom}
use Rattle.dcr_graph.specs.Rules.{Rules}
use Rattle.dcr_journal.specs.declared.closed.Closed.{Closed}
use Rattle.dcr_line.specs.Known.{AreNames}
use Rattle.dcr_json.specs.Built.{IsCase, case_of}
use Rattle.dcr_json.specs.Written.{Spelled}
use Rattle.dcr_json.specs.declared.case.Case.{Case}
use Rattle.dcr_part.specs.Told.{AreDistinct, are_one, told_names}
use Rattle.dcr_part.specs.Whole.{AreToldNames, IsWhole, alphabet_of, part_text, whole}
use Rattle.dcr_part.proofs.WholeLemmas.{names_at}
use Rattle.dcr_replay.proofs.NextLemmas.{atoms_named, many_atoms}
use Rattle.dcr_roles.specs.Accepted.{case_accepted}
use Rattle.dcr_roles.specs.declared.accepted.AcceptStop.{AcceptStop}
use Rattle.dcr_app.specs.Answers.{AnswersPlain, IsOr, bytes_starved, bytes_told}
use Rattle.dcr_app.specs.Headline.{digest_of, rules_in}
use Rattle.dcr_app.specs.Outside.{IsStarved, Wrote}
use Rattle.dcr_app.specs.Parted.{EndsPart, EndsSite, RefusesPart, TellsPart, refuses_case, refuses_site, whole_at}
use Rattle.dcr_app.specs.Telling.{atoms_in}
use Rattle.dcr_app.specs.declared.command.Command.TheVariants.{Read}
use Rattle.dcr_app.specs.declared.command.Reading.TheVariants.{Part}
use Rattle.dcr_app.proofs.OutsideLemmas.{IsEnded, ended_with}
use Rattle.dcr_app.proofs.RunLemmas.{CasesAreAccepted}
use Rattle.dcr_app.proofs.SaysLemmas.{SaysAt}

-- what holds anyway holds where there is a value
pub each_ok : {V E : Type 0} (r : Result V E) (P : Type 0) → P → OnOk r P
each_ok (Ok v) P it = it
each_ok (Err e) P it = tt

-- ---- the names that are told

-- those of a set are names, and no two are one, where all are so
module _ (set : Set) (names : List (List ℕ)) (many : length set ≡ length names) (are : AreNames names) where
  abbrev all_told : List (Option (List ℕ))
  all_told = told_names set names

  length-told : length all_told ≡ length set
  length-told = length-map-range_with_len _ 0 (length set)

  one_is : (b : Bool) (text name : List ℕ) → is_name text ≡ true → cond b (Some text) None ≡ Some name → is_name name ≡ true
  one_is true text name is same = let equal : text ≡ name = cc in subst (λ (t : List ℕ). is_name t ≡ true) equal is
  one_is false text name is same = absurd cc

  each_is : (e : ℕ) (name : List ℕ) → get_or all_told e None ≡ Some name → is_name name ≡ true
  each_is e name is = elim (cases_lt e (length set)) [
    | inl within ↦ one_is (has set e) (get_or names e []) name (All-get_or (λ (text : List ℕ). is_name text ≡ true) names e [] (omega (arith, within, many)) are.names) (sym (names_at set names e within) ∙ is)
    | inr past ↦ absurd (let wrong : None ≡ Some name = sym (get_or_past all_told e None (let l = length-told in omega (arith, past, l))) ∙ is in cc)
  ]

  two_are : (a b : Bool) (x y : List ℕ) → bytes_eq x y ≡ false → are_one (cond a (Some x) None) (cond b (Some y) None) ≡ false
  two_are true true x y apart = apart
  two_are false true x y apart = refl
  two_are true false x y apart = refl
  two_are false false x y apart = refl

  are_apart : AreDistinct all_told
  are_apart d e before l =
      let within : e < length set = (let many_told = length-told in omega (arith, l, many_told)) in let lower : d < length set = omega (arith, before, within) in
      ap (λ (o : Option (List ℕ)). are_one o (get_or all_told e None)) (names_at set names d lower)
      ∙ (ap (λ (o : Option (List ℕ)). are_one (cond (has set d) (Some (get_or names d [])) None) o) (names_at set names e within)
      ∙ two_are (has set d) (has set e) (get_or names d []) (get_or names e []) (are.distinct d e before (omega (arith, within, many))))

  pub told_are_names : AreToldNames all_told
  told_are_names = record { are_names = each_is; distinct = are_apart }

-- ---- a case at one of its sites

-- the site of this name is one of the case's
pub site_within : (names : List (List ℕ)) (text : List ℕ) (number : ℕ) → number_of names text ≡ Some number → number < length names
site_within names text number is = (least-some (length names) (λ k. bytes_eq (get_or names k []) text) number is).below

module _ (case : Case) (is : IsCase case) (number : ℕ) (within : number < length case.cover.names) where
  abbrev own : Set
  own = get_or case.cover.owned number []

  many_owned : number < length case.cover.owned
  many_owned = let many = is.accepted_cover.is_cover.as_many in omega (arith, within, many)

  -- what it owns are atoms of the graph
  pub owned_room : length own ≡ length case.graph.names
  owned_room = All-get_or (λ (set : Set). length set ≡ length case.graph.names) case.cover.owned number [] many_owned is.rooms

  -- its text, in the words of the case
  pub text_is : (digest name : List ℕ) (owned : Set) → digest ≡ digest_of (case_of case) → name ≡ get_or case.cover.names number [] → owned ≡ own
      → part_text (whole (record { digest = digest; site = number; name = name }) case.graph.names (rules_of case.graph) owned case.opening) ≡ part_text (whole_at (case_of case) number)
  text_is digest name owned digest_is name_is owned_is =
      ap (λ (d : List ℕ). part_text (whole (record { digest = d; site = number; name = name }) case.graph.names (rules_of case.graph) owned case.opening)) digest_is
      ∙ (ap (λ (n : List ℕ). part_text (whole (record { digest = digest_of (case_of case); site = number; name = n }) case.graph.names (rules_of case.graph) owned case.opening)) name_is
      ∙ (ap (λ (o : Set). part_text (whole (record { digest = digest_of (case_of case); site = number; name = get_or case.cover.names number [] }) case.graph.names (rules_of case.graph) o case.opening)) owned_is
      ∙ (ap (λ (l : List (List ℕ)). part_text (whole (record { digest = digest_of (case_of case); site = number; name = get_or case.cover.names number [] }) l (rules_of case.graph) own case.opening)) is.flat.names
      ∙ ap (λ (R : Rules). part_text (whole (record { digest = digest_of (case_of case); site = number; name = get_or case.cover.names number [] }) (atoms_in (case_of case)) R own case.opening)) is.flat.related)))

  -- it is within the limits of a case file, so that its text is one that is read
  pub is_whole : IsBytes (digest_of (case_of case)) → IsWhole (whole_at (case_of case) number)
  is_whole bytes =
      let N = case.nested in let atoms : length case.graph.names ≡ (rules_in (case_of case)).atoms = ap length is.flat.names ∙ many_atoms N in record {
        atoms = is.accepted_graph.nested.most_atoms;
        own = owned_room ∙ atoms;
        opening = subst (λ n. HasRoom n case.opening) atoms is.opening;
        digest = length-sha256 _;
        bytes = bytes;
        site = (let most = is.accepted_cover.is_cover.most_sites in omega (arith, within, most));
        site_name = All-get_or (λ (text : List ℕ). is_name text ≡ true) case.cover.names number [] within is.accepted_cover.names;
        named = told_are_names (alphabet_of (whole_at (case_of case) number)) (atoms_in (case_of case)) (length-those _ _ ∙ sym (many_atoms N)) (atoms_named N is.accepted_graph);
        unclashed = is.accepted_graph.unclashed;
      }

-- ---- answers

-- the text of the part was due
pub told_part : CasesAreAccepted → (site bytes : List ℕ) (case : Spelled) (number : ℕ) (had took : Side) (status : Status) → case_accepted bytes ≡ Ok case → number_of case.cover.names site ≡ Some number
    → IsStarved status had took ⊎ (IsWhole (whole_at case number) × Wrote Done (part_text (whole_at case number)) status had took)
    → AnswersPlain (Part site) bytes had took (record { 0 = status; 1 = None; 2 = None })
told_part law site bytes case number had took status spelled named (inl starved) = bytes_starved (refl, refl) starved
told_part law site bytes case number had took status spelled named (inr it) =
    bytes_told ((refl, refl), record { case = case; accepts = (law bytes case).0 spelled; number = number; named = named; is = it.0; wrote = it.1 })

-- ---- how it ended

pub part_ended : CasesAreAccepted → (site : List ℕ) (before after : DiskView) (left : Option (List ℕ)) (bytes : List ℕ) (had took : Side) (closed_run : Option Closed) (status : Status)
    → TellsPart site bytes had took status → IsEnded ⊥ (SaysAt (Some (Read (Part site))) before after left had took closed_run) (EndsPart site (case_accepted bytes) status) status had took
part_ended law site before after left bytes had took closed_run status it =
    ended_with ⊥ (SaysAt (Some (Read (Part site))) before after left had took closed_run) (EndsPart site (case_accepted bytes) status) tt tt tt it.wrote (λ adds. tt)
    (λ _ _ or. subst (λ (r : Result Spelled AcceptStop). EndsPart site r status) (sym ((law bytes it.case).1 it.accepts)) (subst (λ (found : Option ℕ). EndsSite found status) (sym it.named) or))

-- what an input and an output that don't fail end with
pub starved_part : (site : List ℕ) (r : Result Spelled AcceptStop) (status : Status) → status ≡ NoMemory → EndsPart site r status
starved_part site (Err why) status is = inr is
starved_part site (Ok case) status is = by_site (number_of case.cover.names site)
  where
    by_site : (found : Option ℕ) → EndsSite found status
    by_site (Some number) = inr is
    by_site None = inr is

pub refused_part : (site bytes line : List ℕ) (status : Status) → RefusesPart site bytes line → IsOr Refused status → EndsPart site (case_accepted bytes) status
refused_part site bytes line status (refuses_case why is had same) or = subst (λ (r : Result Spelled AcceptStop). EndsPart site r status) (sym is) or
refused_part site bytes line status (refuses_site case is none same) or =
    subst (λ (r : Result Spelled AcceptStop). EndsPart site r status) (sym is) (subst (λ (found : Option ℕ). EndsSite found status) (sym none) or)

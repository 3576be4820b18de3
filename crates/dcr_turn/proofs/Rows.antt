-- A row of fronts and the records that it has, and the row beside the journal.
use Rattle.std.proofs.Common.{◌≡◌, ℕ, ◌-◌, List, [], ◌∷◌, ◌++◌, length, map, take, drop, refl, sym, ap, ◌∙◌, subst, arith, length-append}
use Rattle.std.specs.List.{All}
use Rattle.std.proofs.lemmas.List.{length-map, map-append, take_at, drop_at}
use Rattle.std.proofs.lemmas.List.Elements.{All-nil, All-cons, All-head, All-tail}
use Rattle.dcr_journal.specs.declared.call.Entry.{Entry}
use Rattle.dcr_turn.specs.FrontRowModel.{front_in, record_of}
use Rattle.dcr_turn.specs.FrontValue.{FrontValue, HasMissedNone, fronts_at}
use Rattle.dcr_turn.specs.Records.{knowing, told, first_seen, all_know}
use Rattle.dcr_turn.specs.Rule.{IsRight}
use Rattle.dcr_turn.specs.Steps.{Stand, joined}
use Rattle.dcr_turn.specs.TurnId.{TurnId}
use Rattle.dcr_turn.specs.declared.record.Holder.TheVariants.{Journal, Site}
use Rattle.dcr_turn.specs.declared.record.Record.{Record}
use Rattle.dcr_turn.proofs.Visiting.{sites_know, sites_told}

read_back : (fronts : List FrontValue) → map front_in (map record_of fronts) ≡ fronts
read_back [] = refl
read_back (f ∷ fronts) = ap (λ (l : List FrontValue). f ∷ l) (read_back fronts)

-- what records of fronts stand for
pub reads_as : (records : List Record) (fronts : List FrontValue) → records ≡ map record_of fronts → map front_in records ≡ fronts
reads_as records fronts are = ap (map front_in) are ∙ read_back fronts

-- each is a site's
pub row_again : (records : List Record) (fronts : List FrontValue) → records ≡ map record_of fronts → records ≡ map record_of (map front_in records)
row_again records fronts are = are ∙ ap (map record_of) (sym (reads_as records fronts are))

-- the records of a row
pub records_are : (records : List Record) (fronts : List FrontValue) → records ≡ map record_of (map front_in records) → map front_in records ≡ fronts → records ≡ map record_of fronts
records_are records fronts again reads = again ∙ ap (map record_of) reads

-- with others behind them
pub with_more : (records others now : List Record) (fronts more : List FrontValue) → records ≡ map record_of fronts → others ≡ map record_of more → now ≡ records ++ others
    → now ≡ map record_of (fronts ++ more)
with_more records others now fronts more are others_are is =
    is ∙ ap (λ (l : List Record). l ++ others) are ∙ ap (λ (l : List Record). map record_of fronts ++ l) others_are ∙ sym (map-append record_of fronts more)

-- the row without its last front
module _ (records : List Record) (fronts rest : List FrontValue) (f : FrontValue) (are : records ≡ map record_of fronts) (ends : fronts ≡ rest ++ f ∷ []) where
  before_last : length (map record_of rest) ≡ length records - 1
  before_last =
      let r = ap length are in
      let s = length-map fronts record_of in
      let a = ap length ends in
      let b = length-append rest (f ∷ []) in
      let c = length-map rest record_of in omega arith

  seam : records ≡ map record_of rest ++ record_of f ∷ []
  seam = are ∙ ap (map record_of) ends ∙ map-append record_of rest (f ∷ [])

  pub others_left : (now : List Record) → now ≡ take (length records - 1) records → now ≡ map record_of rest
  others_left now is = is ∙ ap (take (length records - 1)) seam ∙ take_at (map record_of rest) (record_of f ∷ []) (length records - 1) before_last

  pub last_alone : (now : List Record) → now ≡ drop (length records - 1) records → now ≡ record_of f ∷ []
  last_alone now is = is ∙ ap (drop (length records - 1)) seam ∙ drop_at (map record_of rest) (record_of f ∷ []) (length records - 1) before_last

-- ---- beside the journal

sites_in_row : (J : List Entry) (fronts : List FrontValue) (L : List ℕ) → map (told J) (map record_of fronts ++ sites_know J L) ≡ sites_know J (map (λ (f : FrontValue). f.site) fronts ++ L)
sites_in_row J [] L = sites_told J J L
sites_in_row J (f ∷ fronts) L = ap (λ (l : List Record). knowing J (Site f.site) ∷ l) (sites_in_row J fronts L)

-- the records of the row come behind the journal's, and hear of its list
module _ (H : List Entry) (L : List ℕ) (fronts : List FrontValue) (records others came now : List Record) where
  pub row_joined : records ≡ all_know H L → others ≡ map record_of fronts → came ≡ joined records others → came ≡ knowing H Journal ∷ (map record_of fronts ++ sites_know H L)
  row_joined are others_are is = is ∙ ap (λ (v : List Record). joined v others) are ∙ ap (joined (all_know H L)) others_are

  pub row_heard : came ≡ knowing H Journal ∷ (map record_of fronts ++ sites_know H L) → now ≡ map (told (first_seen came)) came → now ≡ all_know H (map (λ (f : FrontValue). f.site) fronts ++ L)
  row_heard is heard =
      heard ∙ ap (λ (v : List Record). map (told (first_seen v)) v) is ∙ ap (λ (l : List Record). knowing H Journal ∷ l) (sites_in_row H fronts L)

-- each front had missed nothing
row_right : (turn : TurnId) (H : List Entry) (fronts : List FrontValue) (others : List Record) → All (IsRight turn.alphabets H) (map record_of fronts ++ others)
    → All (λ front. HasMissedNone turn front H) fronts
row_right turn H [] others all = All-nil (λ front. HasMissedNone turn front H)
row_right turn H (f ∷ fronts) others all =
    All-cons (λ front. HasMissedNone turn front H) f fronts
    (All-head (IsRight turn.alphabets H) (record_of f) (map record_of fronts ++ others) all)
    (row_right turn H fronts others (All-tail (IsRight turn.alphabets H) (record_of f) (map record_of fronts ++ others) all))

pub row_missed_none : (turn : TurnId) (H : List Entry) (L : List ℕ) (fronts : List FrontValue) (came : List Record) → came ≡ knowing H Journal ∷ (map record_of fronts ++ sites_know H L)
    → Stand turn.alphabets turn.sessions came (first_seen came) → All (λ front. HasMissedNone turn front H) fronts
row_missed_none turn H L fronts came is stand =
    let s = subst (λ (v : List Record). Stand turn.alphabets turn.sessions v (first_seen v)) is stand in
    row_right turn H fronts (sites_know H L) (All-tail (IsRight turn.alphabets H) (knowing H Journal) (map record_of fronts ++ sites_know H L) s.right)

-- those of the sites go, and the journal's is left
know_fronts : (H : List Entry) (L : List ℕ) → sites_know H L ≡ map record_of (fronts_at H L)
know_fronts H [] = refl
know_fronts H (i ∷ L) = ap (λ (l : List Record). knowing H (Site i) ∷ l) (know_fronts H L)

module _ (H : List Entry) (L : List ℕ) (records now : List Record) (are : records ≡ all_know H L) where
  pub row_gone : now ≡ take 1 records → now ≡ all_know H []
  row_gone is = is ∙ ap (take 1) are

  pub row_taken : now ≡ drop 1 records → now ≡ map record_of (fronts_at H L)
  row_taken is = is ∙ ap (drop 1) are ∙ know_fronts H L

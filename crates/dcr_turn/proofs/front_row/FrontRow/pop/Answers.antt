use Rattle.std.proofs.Common.{◌≡◌, List, [], ◌∷◌, ◌++◌, map, take, drop, ◌-◌, length, sym, ap, ◌∙◌}
use Rattle.dcr_journal.specs.declared.call.Entry.{Entry}
use Rattle.dcr_turn.specs.FrontRowModel.{front_in, record_of}
use Rattle.dcr_turn.specs.FrontValue.{FrontValue}
use Rattle.dcr_turn.specs.Records.{first_seen, knowing}
use Rattle.dcr_turn.specs.declared.record.Holder.TheVariants.{Site}
use Rattle.dcr_turn.specs.declared.record.Record.{Record}
use Rattle.dcr_turn.proofs.Rows.{records_are, row_again, reads_as, others_left, last_alone}
use Rattle.dcr_turn.proofs.front_row.FrontRow.pop.Goals as goal

-- the record that went
went : (records out : List Record) (fronts rest : List FrontValue) (f : FrontValue) → records ≡ map record_of (map front_in records) → map front_in records ≡ fronts → fronts ≡ rest ++ f ∷ []
    → out ≡ drop (length records - 1) records → out ≡ record_of f ∷ []
went records out fronts rest f again reads ends is = last_alone records fronts rest f (records_are records fronts again reads) ends out is

-- those that are left
left : (records now : List Record) (fronts rest : List FrontValue) (f : FrontValue) → records ≡ map record_of (map front_in records) → map front_in records ≡ fronts → fronts ≡ rest ++ f ∷ []
    → now ≡ take (length records - 1) records → now ≡ map record_of rest
left records now fronts rest f again reads ends is = others_left records fronts rest f (records_are records fronts again reads) ends now is

pub new-requires-clause-records : goal.new-requires-clause-records
new-requires-clause-records g c =
    let f : FrontValue = record { site = c.args.site; front = c.args.pass.now.front } in
    let out = went c.self.inside.records c.part.result c.args.self.now c.requires.0 f c.self.invariant c.self.view_is c.requires.1 c.part.ensures.parted in
    out ∙ ap (λ (J : List Entry). knowing J (Site c.args.site) ∷ []) (sym (ap first_seen out))

pub new-requires-clause-seen : goal.new-requires-clause-seen
new-requires-clause-seen g c =
    let f : FrontValue = record { site = c.args.site; front = c.args.pass.now.front } in
    let out = went c.self.inside.records c.part.result c.args.self.now c.requires.0 f c.self.invariant c.self.view_is c.requires.1 c.part.ensures.parted in
    c.seen.ensures ∙ sym (ap (λ (v : List Record). length (first_seen v)) out)

pub invariant_of-self : goal.invariant_of-self
invariant_of-self g c =
    let f : FrontValue = record { site = c.args.site; front = c.args.pass.now.front } in
    row_again c.part.new.self c.requires.0
    (left c.self.inside.records c.part.new.self c.args.self.now c.requires.0 f c.self.invariant c.self.view_is c.requires.1 c.part.ensures.kept)

-- the front that comes back
back_is : (out : List Record) (back f : FrontValue) → out ≡ record_of f ∷ [] → back.site ≡ f.site → back.front ≡ first_seen out → back ≡ f
back_is out back f out_is site front =
    ap (λ s. record { site = s; front = back.front }) site ∙ ap (λ (l : List Entry). record { site = f.site; front = l }) (front ∙ ap first_seen out_is)

pub returns-clause-front : goal.returns-clause-front
returns-clause-front g c =
    let f : FrontValue = record { site = c.args.site; front = c.args.pass.now.front } in
    back_is c.part.result c.new.result f
    (went c.self.inside.records c.part.result c.args.self.now c.requires.0 f c.self.invariant c.self.view_is c.requires.1 c.part.ensures.parted)
    c.new.ensures.site c.new.ensures.front

pub returns-clause-rest : goal.returns-clause-rest
returns-clause-rest g c =
    let f : FrontValue = record { site = c.args.site; front = c.args.pass.now.front } in
    let out = went c.self.inside.records c.part.result c.args.self.now c.requires.0 f c.self.invariant c.self.view_is c.requires.1 c.part.ensures.parted in
    let rest = left c.self.inside.records c.part.new.self c.args.self.now c.requires.0 f c.self.invariant c.self.view_is c.requires.1 c.part.ensures.kept in
    c.requires.1
    ∙ ap (λ (l : List FrontValue). l ++ f ∷ []) (sym (reads_as c.part.new.self c.requires.0 rest))
    ∙ ap (λ (x : FrontValue). map front_in c.part.new.self ++ x ∷ []) (sym (back_is c.part.result c.new.result f out c.new.ensures.site c.new.ensures.front))

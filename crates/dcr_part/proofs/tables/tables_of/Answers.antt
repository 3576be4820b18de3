use Rattle.std.proofs.Common.{◌≡◌, ◌++◌, ◌∷◌, [], List, length, Option, subst, arith}
use Rattle.std.specs.Option.{IfSome}
use Rattle.std.proofs.lemmas.List.Elements.{All-nil, All-push, All-same}
use Rattle.std.proofs.lemmas.Option.{MatchOption-at_none, MatchOption-at_some}
use Rattle.dcr_set.specs.EventSet.{Set}
use Rattle.dcr_part.proofs.PairLemmas.{kind_small, tables_grown}
use Rattle.dcr_part.proofs.tables.tables_of.Goals as goal

pub loop-number-init : goal.loop-number-init
loop-number-init c = record {
  many = c.in_ok-tables.ensures.len;
  rows = All-same (λ (table : List Set). length table ≡ c.args.atoms) c.in_ok-tables.tables.items [] c.in_ok-tables.ensures.items (All-nil (λ (table : List Set). length table ≡ c.args.atoms));
  read = λ R atoms is kind below. absurd (omega arith);
}

pub returns-in_default-clause-read : goal.returns-in_default-clause-read
returns-in_default-clause-read c = λ R atoms is. MatchOption-at_none _ _ c.in_default.is (c.in_ok-table.ensures.read R atoms is)

pub loop-number-preserved : goal.loop-number-preserved
loop-number-preserved c =
    let before = c.loop-number.invariant.many in let pushed = c.in_ok-push.ensures.len in
    record {
      many = omega arith;
      rows = All-same (λ (table : List Set). length table ≡ c.args.atoms) c.push.new.self.items (c.loop-number.tables.items ++ c.in-Some.table ∷ []) c.in_ok-push.ensures.items
          (All-push (λ (table : List Set). length table ≡ c.args.atoms) c.loop-number.tables.items c.in-Some.table c.loop-number.invariant.rows
          (subst (λ (found : Option (List Set)). IfSome found (λ table. length table ≡ c.args.atoms)) c.in-Some.is c.in_ok-table.ensures.rows));
      read = λ R atoms is.
          tables_grown R c.loop-number.number c.kind_of.result c.loop-number.tables.items c.push.new.self.items c.in-Some.table (omega (arith, c.loop-number.tables.ok.0)) c.kind_of.ensures
          c.in_ok-push.ensures.items (MatchOption-at_some _ _ c.in-Some.table c.in-Some.is (c.in_ok-table.ensures.read R atoms is)) (c.loop-number.invariant.read R atoms is);
    }

pub returns-clause-read : goal.returns-clause-read
returns-clause-read c = λ R atoms is kind. c.loop-number.invariant.read R atoms is kind (omega (arith, kind_small kind))

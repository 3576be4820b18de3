use Rattle.std.proofs.Common.{◌≡◌, ℕ, ◌+◌, ◌≤◌, Bool, List, arith, cond, drop, length, sym, ap, ◌∙◌}
use Rattle.std.proofs.lemmas.List.{drop_all}
use Rattle.dcr_journal.specs.declared.call.Entry.{Entry}
use Rattle.dcr_replay.specs.EntryLines.{is_done}
use Rattle.dcr_app.specs.Loaded.{count_done}
use Rattle.dcr_app.proofs.LoadLemmas.{all_counted, counted_next}
use Rattle.dcr_app.proofs.load.count_done.Goals as goal
use Rattle.dcr_app.proofs.load.count_done.Goals.{then-is_done, else-is_done}

-- the next entry was counted, where it is an execution that was done
next : (c : goal.Joined-is_done) (more : ℕ) → cond c.is_done.result 1 0 ≡ more → c.if-is_done.done ≡ c.loop-place.done + more
    → c.if-is_done.done + count_done (drop (c.loop-place.place + 1) c.args.history.now.entries) ≡ count_done c.args.history.now.entries
next c more one is =
    let entries = c.args.history.now.entries in let entry = c.unwrap-entry.result in
    let here = sym c.get.ensures ∙ c.unwrap-entry.ensures in
    let split = counted_next entries c.loop-place.place entry here in
    let added : cond (is_done entry.outcome) 1 0 ≡ more = ap (λ (b : Bool). cond b 1 0) (sym c.is_done.ensures) ∙ one in
    let all = c.loop-place.invariant.counted in omega (arith, is, split, added, all)

pub loop-place-preserved : goal.loop-place-preserved
loop-place-preserved c = elim c.if-is_done.branch [
  | then-is_done w ↦ record {
    counted = next c 1 (ap (λ (b : Bool). cond b 1 0) w.if-is_done.true) w.done-is;
    few = let few = c.loop-place.invariant.few in let is = w.done-is in omega arith;
  }
  | else-is_done w ↦ record {
    counted = next c 0 (ap (λ (b : Bool). cond b 1 0) w.if-is_done.false) (let is = w.done-is in omega arith);
    few = let few = c.loop-place.invariant.few in let is = w.done-is in omega arith;
  }
]

pub returns-clause-others : goal.returns-clause-others
returns-clause-others c =
    let entries = c.args.history.now.entries in let place = c.loop-place.place in
    let past : length entries ≤ place = (let end = c.loop-place-test.false in let len = c.len-place-end.ensures.len in omega arith) in
    let none : count_done (drop place entries) ≡ 0 = ap (λ (rest : List Entry). count_done rest) (drop_all place entries past) in
    let counted = c.loop-place.invariant.counted in let all = all_counted (λ (x : Entry). is_done x.outcome) entries in omega (arith, none, counted, all)

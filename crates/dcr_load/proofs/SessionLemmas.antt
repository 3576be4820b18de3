-- The sessions of a load: how many calls they have, and that each is in range.
use Rattle.std.proofs.Common.{◌≡◌, ℕ, ◌+◌, ◌*◌, ◌%◌, ◌<◌, Bool, true, false, cond, eqb, List, length, sym, subst, arith}
use Rattle.std.specs.List.{All, sum_by}
use Rattle.dcr_journal.specs.Run.{IsInRange}
use Rattle.dcr_journal.specs.declared.call.Call.{Call}
use Rattle.dcr_journal.specs.declared.call.Call.TheVariants.{Exec, Look, Enabled, Accepting}
use Rattle.dcr_load.specs.Words.{picked}
use Rattle.dcr_load.specs.LoadSessions.{drawn_call, call_at, session_at, load_sessions}
use Rattle.dcr_load.proofs.EachLemmas.{length-each_below, All-each_below, sum_by-each_below}
use Rattle.dcr_load.proofs.LoadLemmas.{picked_below}

pub session_count : (number : ℕ) → length (load_sessions number) ≡ 8
session_count number = length-each_below 8 (session_at number)

pub call_count : (number : ℕ) → sum_by length (load_sessions number) ≡ 20000
call_count number = sum_by-each_below length 8 (session_at number) 2500 (λ k. length-each_below 2500 (λ i. call_at number (8 * i + k)))

-- the calls that may be drawn of an atom and a site
module _ (atom site : ℕ) (known : atom < 200) (there : site < 12) where
  chosen : (zeroth one two three : Bool)
      → IsInRange 12 200 (cond zeroth (Look site) (cond one (Enabled site) (cond two Accepting (cond three (Exec site atom) (Exec (atom % 12) atom)))))
  chosen true one two three = there
  chosen false true two three = there
  chosen false false true three = tt
  chosen false false false true = (there, known)
  chosen false false false false = (omega arith, known)

  drawn_in_range : (r : ℕ) → IsInRange 12 200 (drawn_call r atom site)
  unfolding drawn_call
  drawn_in_range r = chosen (eqb r 0) (eqb r 1) (eqb r 2) (eqb r 3)

pub calls_in_range : (number sites atoms : ℕ) → sites ≡ 12 → atoms ≡ 200 → All (λ (calls : List Call). All (IsInRange sites atoms) calls) (load_sessions number)
calls_in_range number sites atoms all every =
    let P : ℕ → ℕ → Type 0 = λ m n. All (λ (calls : List Call). All (IsInRange m n) calls) (load_sessions number) in
    subst (λ m. P m atoms) (sym all) (subst (P 12) (sym every) (
    All-each_below (λ (calls : List Call). All (IsInRange 12 200) calls) 8 (session_at number) (λ k _.
    All-each_below (IsInRange 12 200) 2500 (λ i. call_at number (8 * i + k)) (λ i _.
    let j = 8 * i + k in
    drawn_in_range (picked number (2001 + 3 * j) 200) (picked number (2002 + 3 * j) 12) (picked_below number (2001 + 3 * j) 200 (omega arith)) (picked_below number (2002 + 3 * j) 12 (omega arith)) (picked number (2000 + 3 * j) 20)))))

use Rattle.std.proofs.Common.{◌≡◌, ◌≤◌, List, length, get_or, take, Some, sym, ap, subst, ◌∙◌, arith}
use Rattle.std.specs.Prelude.{slice_get}
use Rattle.std.proofs.lemmas.Bool.{false≢true}
use Rattle.std.proofs.lemmas.Option.{slice_get-get_or}
use Rattle.dcr_site.specs.Together.{AllStand}
use Rattle.dcr_tape.specs.declared.entry.TapeEntry.{TapeEntry}
use Rattle.dcr_cell.specs.ClusterId.{marking_by}
use Rattle.dcr_cluster.specs.Opening.{IsFirstBad}
use Rattle.dcr_cluster.proofs.OpeningLemmas.{marking_all, marking_more, possible_all, possible_more}
use Rattle.dcr_cluster.proofs.going_on.go_on.Goals as goal

abbrev none : TapeEntry
none = record { event = 0; site = 0 }

pub returns-then-not-execute-clause-bad : goal.returns-then-not-execute-clause-bad
returns-then-not-execute-clause-bad c = λ C stand covered atoms old.
    let k = c.loop-x.x-index in
    let x : TapeEntry = get_or c.args.old.now k none in
    let so_far = c.loop-x.invariant.2 C stand covered atoms old in
    let here : slice_get c.args.old.now k ≡ Some x = slice_get-get_or c.args.old.now k none (omega arith) in
    subst (IsFirstBad C) (sym c.loop-x.invariant.0) (record {
      before = so_far.1;
      execution = x;
      there = ap (λ (l : List TapeEntry). slice_get l k) old ∙ here;
      impossible = λ possible.
          let done = (c.execute.ensures.possible C (marking_by C (take k C.old)) so_far.0 covered (c.loop-x.invariant.1 ∙ atoms)).1 possible in
          absurd (false≢true (sym c.if-not-execute.true ∙ done));
    })

pub loop-x-preserved : goal.loop-x-preserved
loop-x-preserved c = (
  (let before = c.loop-x.invariant.0 in omega arith),
  c.execute.ensures.atoms ∙ c.loop-x.invariant.1,
  λ C stand covered atoms old.
      let k = c.loop-x.x-index in
      let x : TapeEntry = get_or c.args.old.now k none in
      let so_far = c.loop-x.invariant.2 C stand covered atoms old in
      let here : slice_get c.args.old.now k ≡ Some x = slice_get-get_or c.args.old.now k none (omega arith) in
      let there : slice_get C.old k ≡ Some x = ap (λ (l : List TapeEntry). slice_get l k) old ∙ here in
      let possible = (c.execute.ensures.possible C (marking_by C (take k C.old)) so_far.0 covered (c.loop-x.invariant.1 ∙ atoms)).0 c.if-not-execute.false in
      let stepped = c.execute.ensures.stepped C.rules C.owned (marking_by C (take k C.old)) so_far.0 c.if-not-execute.false in (
        subst (λ M. AllStand C.rules C.owned M c.execute.new.sites.sites) (sym (marking_more C k x there)) stepped,
        possible_more C k x so_far.1 there possible,
      ),
)

pub returns-clause-all : goal.returns-clause-all
returns-clause-all c = λ C stand covered atoms old.
    let k = c.loop-x.x-index in
    let so_far = c.loop-x.invariant.2 C stand covered atoms old in
    let all : length C.old ≤ k = (let same = ap (λ (l : List TapeEntry). length l) old in omega arith) in (
      subst (λ M. AllStand C.rules C.owned M c.loop-x.sites.sites) (marking_all C k all) so_far.0,
      possible_all C k all so_far.1,
    )

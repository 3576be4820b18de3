use Rattle.std.proofs.Common.{◌≡◌, ◌+◌, false, [], ◌∷◌, ◌++◌, drop, length, option_map, refl, sym, ap, subst, ◌∙◌, arith}
use Rattle.std.specs.Prelude.{IfSome}
use Rattle.std.proofs.lemmas.Result.{IfOk-weaker}
use Rattle.dcr_report.specs.Report.{entry_lines}
use Rattle.dcr_text.specs.Lines.{line_of}
use Rattle.dcr_replay.specs.EntryLines.{first_is_digit, names_in}
use Rattle.dcr_replay.specs.ReportLines.{ended, head_of}
use Rattle.dcr_replay.specs.Stands.{Takes}
use Rattle.dcr_replay.specs.declared.entries.Run.{Run}
use Rattle.dcr_replay.specs.declared.lines.Line.{Line}
use Rattle.dcr_replay.proofs.EndLemmas.{ends_told}
use Rattle.dcr_replay.proofs.WrongLemmas.{entry_more, first_cut, first_none, wrong_next}
use Rattle.dcr_replay.proofs.check.check_run.Goals as goal
use Rattle.dcr_replay.proofs.check.check_run.Goals.{in-Some+then-not-begins_with_digit, in_default}

pub loop-line-init : goal.loop-line-init
unfolding entry_lines
loop-line-init c = (c.in_ok-run.ensures.sound, λ S over opening. ([], c.in_ok-run.ensures.stands S over opening, refl))

pub returns-in-Some-2 : goal.returns-in-Some-2
returns-in-Some-2 c = λ S over opening no_ends one bytes cut.
    let at = c.loop-line.invariant.1 S over opening in let J = at.0 in let stands = at.1 in
    let line = line_of c.in-Some.line.text.now c.in-Some.line.ended in let kind = c.in-Some-2.kind in
    let told = subst (λ w. Takes S J line w c.take.new.self) c.in-Some-2.is (c.in_ok-kind.ensures.taken S J stands) in
    let kept : c.take.new.self ≡ c.loop-line.run = subst (λ o. IfSome o (λ _. c.take.new.self ≡ c.loop-line.run)) c.in-Some-2.is c.in_ok-kind.ensures.kept in
    let number : c.take.new.self.len + 5 ≡ 5 + length J = omega (arith, ap (λ (run : Run). run.len) kept, stands.counted) in
    wrong_next no_ends one S J stands.legal bytes line (drop 1 c.loop-line.lines)
    (cut ∙ ap (λ l. ended (head_of S) ++ l) (at.2 ∙ ap (λ l. ended (entry_lines S.cover.names (names_in S) 0 J) ++ l) (first_cut c.loop-line.lines line (sym c.in-Some.ensures))))
    (sym c.begins_with_digit.ensures ∙ c.if-not-begins_with_digit.false) (c.take.new.self.len + 5) kind number told

pub loop-line-preserved : goal.loop-line-preserved
loop-line-preserved c = (
  c.in_ok-kind.ensures.sound,
  λ S over opening.
      let at = c.loop-line.invariant.1 S over opening in let J = at.0 in let stands = at.1 in
      let line = line_of c.in-Some.line.text.now c.in-Some.line.ended in
      let told = subst (λ w. Takes S J line w c.take.new.self) c.in_default-2.is (c.in_ok-kind.ensures.taken S J stands) in (
        J ++ told.0 ∷ [],
        told.3,
        entry_more S J told.0 c.args.lines.now _ (at.2 ∙ ap (λ l. ended (entry_lines S.cover.names (names_in S) 0 J) ++ l)
            (first_cut c.loop-line.lines line (sym c.in-Some.ensures) ∙ ap (λ l. l ∷ drop 1 c.loop-line.lines) told.1.1))
            ∙ ap (λ l. ended (entry_lines S.cover.names (names_in S) 0 (J ++ told.0 ∷ [])) ++ l) (sym c.pass.ensures),
      ),
)

pub returns : goal.returns
returns c =
    let bare : first_is_digit c.loop-line.lines ≡ false = elim c.match-first.branch [
      | in-Some+then-not-begins_with_digit w ↦
          ap first_is_digit (first_cut c.loop-line.lines (line_of w.in-Some.line.text.now w.in-Some.line.ended) (sym w.in-Some.ensures)) ∙ sym w.begins_with_digit.ensures ∙ w.if-not-begins_with_digit.true
      | in_default w ↦ first_none c.loop-line.lines (sym c.first.ensures ∙ ap (option_map (λ (line : Line). line_of line.text.now line.ended)) w.in_default.is)
    ] in
    IfOk-weaker c.check_ends.result _ _ (λ verdict told S over opening no_ends one bytes cut.
    let at = c.loop-line.invariant.1 S over opening in
    ends_told no_ends one S at.0 c.loop-line.run at.1 bytes c.loop-line.lines (cut ∙ ap (λ l. ended (head_of S) ++ l) at.2) bare verdict told) c.check_ends.ensures

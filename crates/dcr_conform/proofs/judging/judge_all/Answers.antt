use Rattle.std.proofs.Common.{◌≡◌, List, [], ◌∷◌, length, map, sym, ap, subst, ◌∙◌}
use Rattle.std.specs.List.{All, AllZip}
use Rattle.std.specs.Borrow.{Bor}
use Rattle.rayon.proofs.ListFacts.{AllZip-weaken}
use Rattle.rayon.proofs.ToStd.{slice-AllZip}
use Rattle.std.proofs.lemmas.List.Elements.{All-cons, All-nil}
use Rattle.std.proofs.lemmas.Slice.Zip.{AllZip-long}
use Rattle.dcr_graph.specs.GraphValue.{Flat}
use Rattle.dcr_graph.specs.declared.marking.Marking.{Marking}
use Rattle.dcr_log.specs.declared.trace.Trace.{Trace}
use Rattle.dcr_conform.specs.Judge.{IsJudged, FitsJudged}
use Rattle.dcr_conform.specs.declared.judged.Judged.{Judged}
use Rattle.dcr_conform.proofs.judging.judge_all.Goals as goal
use Rattle.dcr_conform.proofs.judging.judge_all.Given as given
use Rattle.dcr_conform.proofs.judging.judge_all.Goals.{In_ok-answers}

-- a trace is judged so, and the answer names atoms of the graph
abbrev IsWalked : Flat → Marking → Trace → Judged → Type 0
IsWalked graph start trace answer = IsJudged graph start trace.events answer × FitsJudged (length graph.names) answer

walked_all : (g : given.Over) (c : In_ok-answers g) → AllZip (IsWalked c.args.graph.now c.args.start.now) c.args.traces.now c.in_ok-answers.answers.items
walked_all g c =
    let told = c.in_ok-answers.ensures in
    let graph = c.args.graph.now in
    let start = c.args.start.now in
    let shown : map (λ (z : Bor Trace). z.now) told.1.0 ≡ c.args.traces.now =
    told.1.1 ∙ ap (λ it. it.base.slice.now) c.map.ensures.base ∙ ap (λ it. it.slice.now) c.with_min_len.ensures.base ∙ c.par_iter.ensures in
    subst (AllZip (IsWalked graph start) c.args.traces.now) (sym told.2)
    (slice-AllZip told.1.0 c.args.traces.now shown (IsWalked graph start) told.0
    (AllZip-weaken _ (λ (z : Bor Trace) answer. IsWalked graph start z.now answer) (λ z answer p. rw c.map.ensures.f at p) told.1.0 told.0 told.1.2))

pub returns-clause-judged : goal.returns-clause-judged
returns-clause-judged g c =
    AllZip-weaken (IsWalked c.args.graph.now c.args.start.now) (λ (trace : Trace) answer. IsJudged c.args.graph.now c.args.start.now trace.events answer) (λ trace answer p. p.0) c.args.traces.now c.in_ok-answers.answers.items
    (walked_all g (goal.at.returns-clause-judged g c).In_ok-answers)

pub returns-clause-as_many : goal.returns-clause-as_many
returns-clause-as_many g c =
    AllZip-long (IsWalked c.args.graph.now c.args.start.now) c.args.traces.now c.in_ok-answers.answers.items (walked_all g (goal.at.returns-clause-as_many g c).In_ok-answers)

each_fits : (graph : Flat) (start : Marking) (traces : List Trace) (answers : List Judged) → AllZip (IsWalked graph start) traces answers → All (FitsJudged (length graph.names)) answers
each_fits graph start [] [] h = All-nil (FitsJudged (length graph.names))
each_fits graph start [] (answer ∷ answers) h = absurd h
each_fits graph start (trace ∷ traces) [] h = absurd h
each_fits graph start (trace ∷ traces) (answer ∷ answers) h = All-cons (FitsJudged (length graph.names)) answer answers h.0.1 (each_fits graph start traces answers h.1)

pub returns-clause-fits : goal.returns-clause-fits
returns-clause-fits g c =
    each_fits c.args.graph.now c.args.start.now c.args.traces.now c.in_ok-answers.answers.items (walked_all g (goal.at.returns-clause-fits g c).In_ok-answers)

-- The parts of the lines.
use Rattle.std.proofs.Common.{◌≡◌, ℕ, zero, suc, ◌<◌, List, [], ◌∷◌, ◌++◌, codes, decimal, length, get_or, Some, refl, ap, arith}
use Rattle.dcr_graph.specs.declared.kind.Cause.{Cause}
use Rattle.dcr_graph.specs.declared.kind.Cause.TheVariants as why
use Rattle.dcr_journal.specs.Answer.{outcome_of}
use Rattle.dcr_line.specs.Line.{outcome_text, spaced}
use Rattle.dcr_log.specs.declared.trace.Trace.{Trace}
use Rattle.dcr_conform.specs.Lines.{judged_line, judged_lines, judged_words}
use Rattle.dcr_conform.specs.declared.judged.Judged.{Judged}
use Rattle.dcr_conform.specs.declared.judged.Judged.TheVariants.{Unknown, Refused, Waits, Accepting}

-- a name, a space and the other words are the line
pub line_parts : (names : List (List ℕ)) (trace : Trace) (answer : Judged) → trace.name ++ (codes " " ++ spaced (judged_words names answer)) ≡ judged_line names trace answer
line_parts names trace (Unknown place) = refl
line_parts names trace (Refused place why) = refl
line_parts names trace (Waits a count) = refl
line_parts names trace (Accepting count) = refl

-- behind a place stands the cause
pub refused_parts : (names : List (List ℕ)) (place : ℕ) (told : Cause)
    → codes " refused " ++ decimal place ++ (codes " " ++ outcome_text names (outcome_of (Some told))) ≡ codes " " ++ spaced (judged_words names (Refused place told))
refused_parts names place why.Excluded = refl
refused_parts names place (why.Condition c) = refl
refused_parts names place (why.Milestone m) = refl

-- the line of a trace
pub line_at : (names : List (List ℕ)) (traces : List Trace) (answers : List Judged) (i : ℕ) (d : Trace) (e : Judged) → i < length traces → length answers ≡ length traces
    → get_or (judged_lines names traces answers) i [] ≡ judged_line names (get_or traces i d) (get_or answers i e)
unfolding judged_lines
line_at names [] answers i d e h many = absurd (omega arith)
line_at names (trace ∷ traces) [] i d e h many = absurd (omega arith)
line_at names (trace ∷ traces) (answer ∷ answers) zero d e h many = refl
line_at names (trace ∷ traces) (answer ∷ answers) (suc i) d e h many = line_at names traces answers i d e (omega arith) (omega arith)

pub length-judged_lines : (names : List (List ℕ)) (traces : List Trace) (answers : List Judged) → length answers ≡ length traces → length (judged_lines names traces answers) ≡ length traces
unfolding judged_lines
length-judged_lines names [] answers many = refl
length-judged_lines names (trace ∷ traces) [] many = absurd (omega arith)
length-judged_lines names (trace ∷ traces) (answer ∷ answers) many = let more : length answers ≡ length traces = omega arith in ap suc (length-judged_lines names traces answers more)

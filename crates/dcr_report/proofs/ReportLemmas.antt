-- Where the lines of a report stand, and when what a closed run tells is its report.
use Rattle.std.proofs.Common.{◌≡◌, ℕ, zero, suc, ◌+◌, ◌<◌, List, [], ◌∷◌, ◌++◌, Result, OnOk, codes, decimal, length, get_or, refl, sym, ap, subst, ◌∙◌, append_assoc, arith}
use Rattle.std.specs.List.{All}
use Rattle.std.proofs.lemmas.List.{get_or-append-add, get_or_append_left, length-append, length-map}
use Rattle.std.proofs.lemmas.List.Elements.{All-map}
use Rattle.std.proofs.lemmas.Result.{on_ok_weaker}
use Rattle.dcr_set.specs.EventSet.{Set}
use Rattle.dcr_graph.specs.Cause.{waits}
use Rattle.dcr_graph.specs.GraphValue.{Flat, rules_of}
use Rattle.dcr_graph.specs.Projection.{project, HasRoom, FitsAtoms}
use Rattle.dcr_graph.specs.Rules.{Rules}
use Rattle.dcr_graph.specs.declared.marking.Marking.{Marking}
use Rattle.dcr_graph.specs.declared.marking.SiteMark.{SiteMark}
use Rattle.dcr_nest.specs.Nest.{Nest, names_of, parents_of}
use Rattle.dcr_nest.specs.FlatRelation.{IsFlattening, flat_relation, of_atoms}
use Rattle.dcr_proj.specs.CoverValue.{Owners, IsCover}
use Rattle.dcr_journal.specs.Run.{IsLegal, after, marks_at}
use Rattle.dcr_journal.specs.declared.call.Entry.{Entry}
use Rattle.dcr_journal.specs.declared.closed.Closed.{Closed}
use Rattle.dcr_line.specs.Fits.{FitsEntry}
use Rattle.dcr_line.specs.Line.{entry_text}
use Rattle.dcr_report.specs.FitsClosed.{FitsCase, FitsReport, FitsTold}
use Rattle.dcr_report.specs.Report.{line, lines_text, head_lines, entry_lines, site_text, site_lines, verdict_text, end_lines, report_lines, report_text, told_lines, told_text}
use Rattle.dcr_report.proofs.LegalLemmas.{legal_entries, marks_fit, waits-below}

-- a text is added, and its line end
pub line_put : {T E : Type 0} (r : Result T E) (t0 t1 t2 text here : List ℕ) → t1 ≡ t0 ++ text → here ≡ text → OnOk r (t2 ≡ t1 ++ codes "\n") → OnOk r (t2 ≡ t0 ++ line here)
line_put r t0 t1 t2 text here added is ended =
    on_ok_weaker r (λ e. e ∙ ap (λ t. t ++ codes "\n") added ∙ append_assoc t0 text (codes "\n") ∙ ap (λ t. t0 ++ line t) (sym is)) ended

-- the line of an entry
pub entry_at : (sites names : List (List ℕ)) (from : ℕ) (J : List Entry) (i place : ℕ) (d : Entry) → place ≡ from + i → i < length J
    → get_or (entry_lines sites names from J) i [] ≡ entry_text sites names place (get_or J i d)
unfolding entry_lines
entry_at sites names from [] i place d e h = absurd (omega arith)
entry_at sites names from (entry ∷ J) zero place d e h = let here : from ≡ place = omega arith in ap (λ p. entry_text sites names p entry) here
entry_at sites names from (entry ∷ J) (suc i) place d e h = entry_at sites names (from + 1) J i place d (omega arith) (omega arith)

pub length-entry_lines : (sites names : List (List ℕ)) (from : ℕ) (J : List Entry) → length (entry_lines sites names from J) ≡ length J
unfolding entry_lines
length-entry_lines sites names from [] = refl
length-entry_lines sites names from (entry ∷ J) = ap suc (length-entry_lines sites names (from + 1) J)

-- the line of a site
pub site_at : (names sites : List (List ℕ)) (marks : List SiteMark) (i : ℕ) (site : List ℕ) (mark : SiteMark) → i < length sites → length marks ≡ length sites
    → get_or (site_lines names sites marks) i [] ≡ site_text names (get_or sites i site) (get_or marks i mark)
unfolding site_lines
site_at names [] marks i site mark h many = absurd (omega arith)
site_at names (first ∷ sites) [] i site mark h many = absurd (omega arith)
site_at names (first ∷ sites) (here ∷ marks) zero site mark h many = refl
site_at names (first ∷ sites) (here ∷ marks) (suc i) site mark h many = site_at names sites marks i site mark (omega arith) (omega arith)

pub length-site_lines : (names sites : List (List ℕ)) (marks : List SiteMark) → length marks ≡ length sites → length (site_lines names sites marks) ≡ length sites
unfolding site_lines
length-site_lines names [] marks many = refl
length-site_lines names (site ∷ sites) [] many = absurd (omega arith)
length-site_lines names (site ∷ sites) (mark ∷ marks) many = let more : length marks ≡ length sites = omega arith in ap suc (length-site_lines names sites marks more)

-- where the lines of a report stand
pub record AreParts (N : Nest) (C : Owners) (names sites : List (List ℕ)) (closed : Closed) : Type 0 where
  pub count : length (told_lines N C names closed) ≡ 4 + length closed.history.entries + length sites + 2
  pub head : (place : ℕ) → place < 4 → get_or (told_lines N C names closed) place [] ≡ get_or (head_lines N C names closed.opening) place []
  pub entry : (place i : ℕ) → place ≡ 4 + i → i < length closed.history.entries → get_or (told_lines N C names closed) place [] ≡ get_or (entry_lines C.names names 0 closed.history.entries) i []
  pub site : (place i : ℕ) → place ≡ 4 + length closed.history.entries + i → i < length sites → get_or (told_lines N C names closed) place [] ≡ get_or (site_lines names sites closed.marks) i []
  pub verdict : (place : ℕ) → place ≡ 4 + length closed.history.entries + length sites → get_or (told_lines N C names closed) place [] ≡ verdict_text names closed.waits
  pub ending : (place : ℕ) → place ≡ 4 + length closed.history.entries + length sites + 1 → get_or (told_lines N C names closed) place [] ≡ codes "end " ++ decimal (length closed.history.entries)

pub are_parts : (N : Nest) (C : Owners) (names sites : List (List ℕ)) (closed : Closed) → sites ≡ C.names → length closed.marks ≡ length sites → AreParts N C names sites closed
are_parts N C names sites closed named many =
    let J = closed.history.entries in
    let head = head_lines N C names closed.opening in
    let entries = entry_lines C.names names 0 J in
    let marks = site_lines names sites closed.marks in
    let ending = end_lines names closed.waits (length J) in
    let told : told_lines N C names closed ≡ head ++ (entries ++ (marks ++ ending)) = ap (λ ns. head ++ (entries ++ (site_lines names ns closed.marks ++ ending))) (sym named) in
    let some = length-entry_lines C.names names 0 J in
    let as_many = length-site_lines names sites closed.marks many in
    let at : (place i : ℕ) → place ≡ 4 + i → get_or (told_lines N C names closed) place [] ≡ get_or (entries ++ (marks ++ ending)) i [] =
    λ place i e. ap (λ l. get_or l place []) told ∙ ap (λ p. get_or (head ++ (entries ++ (marks ++ ending))) p []) e ∙ get_or-append-add head (entries ++ (marks ++ ending)) i [] in
    let behind : (place i : ℕ) → place ≡ 4 + length J + i → get_or (told_lines N C names closed) place [] ≡ get_or (marks ++ ending) i [] =
    λ place i e. at place (length entries + i) (omega (arith, e, some)) ∙ get_or-append-add entries (marks ++ ending) i [] in
    let last : (place i : ℕ) → place ≡ 4 + length J + length sites + i → get_or (told_lines N C names closed) place [] ≡ get_or ending i [] =
    λ place i e. behind place (length marks + i) (omega (arith, e, as_many)) ∙ get_or-append-add marks ending i [] in
    record {
      count = ap length told ∙ length-append head (entries ++ (marks ++ ending)) ∙ omega (arith, some, as_many, length-append entries (marks ++ ending), length-append marks ending);
      head = λ place h. ap (λ l. get_or l place []) told ∙ get_or_append_left head (entries ++ (marks ++ ending)) [] place h;
      entry = λ place i e h. at place i e ∙ get_or_append_left entries (marks ++ ending) [] i (omega (arith, h, some));
      site = λ place i e h. behind place i e ∙ get_or_append_left marks ending [] i (omega (arith, h, as_many));
      verdict = λ place e. last place 0 (omega (arith, e));
      ending = λ place e. last place 1 e;
    }

-- the atoms have the names of their nodes
pub told_by_names : (N : Nest) (graph : Flat) (C : Owners) (closed : Closed) → IsFlattening N graph → lines_text (told_lines N C graph.names closed) ≡ told_text N C closed
told_by_names N graph C closed flat = ap (λ (texts : List (List ℕ)). lines_text (told_lines N C texts closed)) flat.names

-- what a closed run tells is its report, where the marks and the verdict are those after its entries
pub told_is_report : (N : Nest) (graph : Flat) (C : Owners) (closed : Closed) → IsFlattening N graph
    → closed.marks ≡ marks_at (rules_of graph) C.owned (after (rules_of graph) closed.opening closed.history.entries)
    → closed.waits ≡ waits (length graph.names) (after (rules_of graph) closed.opening closed.history.entries)
    → told_text N C closed ≡ report_text N C closed.opening closed.history.entries
unfolding report_text
told_is_report N graph C closed flat marks waited =
    let M = closed.opening in
    let J = closed.history.entries in
    let names = of_atoms (parents_of N.nodes) (names_of N.nodes) in
    let to_marks = ap (λ (ms : List SiteMark). lines_text (report_lines N C names M J ms closed.waits)) (marks ∙ ap (λ (G : Rules). marks_at G C.owned (after G M J)) flat.related) in
    let last : Marking = after (flat_relation N) M J in
    let to_waits = ap (λ w. lines_text (report_lines N C names M J (marks_at (flat_relation N) C.owned last) w)) (waited ∙ ap (λ (G : Rules). waits G.atoms (after G M J)) flat.related) in
    to_marks ∙ to_waits

-- a case whose sets have room for its atoms has lines
pub cover_fits : (C : Owners) (n : ℕ) (M : Marking) → IsCover C → All (λ (set : Set). length set ≡ n) C.owned → HasRoom n M → FitsCase n C M
cover_fits C n M cover rooms opening = record {
  rooms = let some = cover.some_site in let as_many = cover.as_many in rooms 0 _ (omega arith);
  marks = record { executed = opening.executed; pending = opening.pending; included = opening.included };
}

-- what has lines of a report has them over this cover
pub told_fits : (n : ℕ) (C : Owners) (sites : List (List ℕ)) (closed : Closed) → IsCover C → sites ≡ C.names → All (λ (set : Set). length set ≡ n) C.owned
    → FitsTold n C closed → FitsReport n C sites closed
told_fits n C sites closed cover named rooms told =
    let as_many : length sites ≡ length C.names = ap length named in
    let most = cover.most_sites in
    record {
      begins = cover_fits C n closed.opening cover rooms told.opening;
      entries = subst (λ (m : ℕ). All (FitsEntry m n) closed.history.entries) cover.as_many told.entries;
      named = named;
      few_sites = omega arith;
      as_many_marks = told.as_many_marks ∙ cover.as_many ∙ sym as_many;
      marks = told.marks;
      waits = told.waits;
    }

-- a legal run that is closed with the marks and the verdict after it has lines
pub legal_told : (graph : Flat) (C : Owners) (closed : Closed) → HasRoom (length graph.names) closed.opening
    → IsLegal (rules_of graph) C.owned closed.opening closed.history.entries
    → closed.marks ≡ marks_at (rules_of graph) C.owned (after (rules_of graph) closed.opening closed.history.entries)
    → closed.waits ≡ waits (length graph.names) (after (rules_of graph) closed.opening closed.history.entries)
    → FitsTold (length graph.names) C closed
legal_told graph C closed opening legal marks waited =
    let G = rules_of graph in
    let n = length graph.names in
    let last : Marking = after G closed.opening closed.history.entries in
    let MarkFits : SiteMark → Type 0 = λ mark. FitsAtoms n mark.executed mark.pending mark.included in
    let each : All MarkFits (marks_at G C.owned last) = All-map MarkFits (λ (S : Set). project G S last) C.owned (λ k d within. marks_fit G _ last) in
    record {
      opening = opening;
      entries = legal_entries G C.owned closed.opening closed.history.entries legal;
      as_many_marks = ap length marks ∙ length-map C.owned (λ (S : Set). project G S last);
      marks = subst (All MarkFits) (sym marks) each;
      waits = λ e told. waits-below n last e (sym waited ∙ told);
    }

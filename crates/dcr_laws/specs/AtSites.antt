-- What sites tell by their own marks. A marking of the whole graph is never read here, and the relations only as a
-- site's projection has them: its local rules, its alphabet and what it tracks.
use Rattle.std.specs.Prelude.{ℕ, ◌&&◌, List, [], map, fold, Option, None, if◌then◌else◌, slice_index_or}
use Rattle.std.specs.List.{zip}
use Rattle.dcr_set.specs.Least.{least, lesser}
use Rattle.dcr_set.specs.EventSet.{Set, has}
use Rattle.dcr_graph.specs.Rules.{Rules}
use Rattle.dcr_graph.specs.Cause.{cause, enabled_in}
use Rattle.dcr_graph.specs.Projection.{local_rules, in_alphabet, as_marking, local_step}
use Rattle.dcr_graph.specs.declared.kind.Cause.{Cause}
use Rattle.dcr_graph.specs.declared.marking.SiteMark.{SiteMark}

-- a site: the set that it owns, and its marks
abbrev pub Site : Type 0
Site = Set × SiteMark

-- no mark at all
abbrev pub no_mark : SiteMark
no_mark = record { executed = []; pending = []; included = [] }

-- the marks of the site with this number
abbrev pub mark_of : List SiteMark → ℕ → SiteMark
mark_of marks i = slice_index_or marks i no_mark

-- the cause that blocks e, by a site's marks and its local rules
abbrev pub cause_at : Rules → Set → SiteMark → ℕ → Option Cause
cause_at G S m e = cause (local_rules G S) (as_marking m) e

-- the owned atoms that no such cause blocks
abbrev pub enabled_at : Rules → Set → SiteMark → Set
enabled_at G S m = enabled_in (local_rules G S) S (as_marking m)

-- the least owned atom that is included and pending by a site's marks
abbrev pub waits_at : ℕ → Set → SiteMark → Option ℕ
waits_at atoms S m = least atoms (λ a. has S a && (has m.included a && has m.pending a))

-- the least of the numbers that are there
abbrev pub least_of : List (Option ℕ) → Option ℕ
least_of numbers = fold lesser None numbers

-- the least of what the sites wait for, each by its own marks
abbrev pub waits_over : ℕ → List Set → List SiteMark → Option ℕ
waits_over atoms C marks = least_of (map (λ (site : Site). waits_at atoms site.0 site.1) (zip C marks))

-- a site's marks after e: the local step where its alphabet has e, else as they were
abbrev pub stepped_at : Rules → ℕ → Site → SiteMark
stepped_at G e site = if in_alphabet G site.0 e then local_step G site.0 site.1 e else site.1

-- the marks of all sites after e
abbrev pub stepped_over : Rules → List Set → List SiteMark → ℕ → List SiteMark
stepped_over G C marks e = map (stepped_at G e) (zip C marks)

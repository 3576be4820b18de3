-- The line that tells a refusal.
use Rattle.std.specs.Prelude.{ℕ, List, [], ◌++◌, codes, decimal}
use Rattle.dcr_format.specs.declared.stop.Part.{Part}
use Rattle.dcr_format.specs.declared.stop.Part.TheVariants.{Top, Graph, Event, Relation, Cover, Site, Sessions, Session}
use Rattle.dcr_format.specs.declared.stop.LimitKind.{LimitKind}
use Rattle.dcr_format.specs.declared.stop.LimitKind.TheVariants as kind
use Rattle.dcr_format.specs.declared.stop.CaseStop.{CaseStop}
use Rattle.dcr_format.specs.declared.stop.CaseStop.TheVariants.{TooLong, NotJson, Shape, Limit, EventName, Parent, MarkOnNest, RelationEnd, Clash, SiteName, Owned, Uncovered, CallLine, NoMemory}
use Rattle.dcr_roles.specs.declared.accepted.AcceptStop.{AcceptStop}
use Rattle.dcr_roles.specs.declared.accepted.AcceptStop.TheVariants as accept
use Rattle.dcr_roles.specs.declared.stop.PolicyPart.{PolicyPart}
use Rattle.dcr_roles.specs.declared.stop.PolicyPart.TheVariants as part
use Rattle.dcr_roles.specs.declared.stop.PolicyStop.{PolicyStop}
use Rattle.dcr_roles.specs.declared.stop.PolicyStop.TheVariants as policy

-- the word of a part of a file
abbrev pub part_text : Part → List ℕ
part_text Top = codes "top"
part_text Graph = codes "graph"
part_text Event = codes "event"
part_text Relation = codes "relation"
part_text Cover = codes "cover"
part_text Site = codes "site"
part_text Sessions = codes "sessions"
part_text Session = codes "session"

-- the word of what a limit counts
abbrev pub limit_text : LimitKind → List ℕ
limit_text kind.Nodes = codes "nodes"
limit_text kind.Atoms = codes "atoms"
limit_text kind.Relations = codes "relations"
limit_text kind.Label = codes "label"
limit_text kind.Sites = codes "sites"
limit_text kind.Sessions = codes "sessions"
limit_text kind.Calls = codes "calls"

-- ---- why bytes are no case

-- its number and its name, and then what it names, with one space between; want of memory has no line
abbrev pub case_line : CaseStop → List ℕ
case_line TooLong = codes "refused 1 too-long\n"
case_line NotJson = codes "refused 2 not-json\n"
case_line (Shape part i) = codes "refused 3 shape " ++ part_text part ++ codes " " ++ decimal i ++ codes "\n"
case_line (Limit kind count) = codes "refused 4 limit " ++ limit_text kind ++ codes " " ++ decimal count ++ codes "\n"
case_line (EventName i) = codes "refused 5 event-name " ++ decimal i ++ codes "\n"
case_line (Parent i) = codes "refused 6 parent " ++ decimal i ++ codes "\n"
case_line (MarkOnNest i) = codes "refused 7 mark-on-nest " ++ decimal i ++ codes "\n"
case_line (RelationEnd i) = codes "refused 8 relation-end " ++ decimal i ++ codes "\n"
case_line (Clash a b) = codes "refused 9 clash " ++ a ++ codes " " ++ b ++ codes "\n"
case_line (SiteName i) = codes "refused 10 site-name " ++ decimal i ++ codes "\n"
case_line (Owned i j) = codes "refused 10 owned " ++ decimal i ++ codes " " ++ decimal j ++ codes "\n"
case_line (Uncovered a) = codes "refused 11 uncovered " ++ a ++ codes "\n"
case_line (CallLine k j) = codes "refused 12 call-line " ++ decimal k ++ codes " " ++ decimal j ++ codes "\n"
case_line NoMemory = []

-- ---- why a policy is refused

-- the word of a part of a policy
abbrev pub policy_text : PolicyPart → List ℕ
policy_text part.Event = codes "event"
policy_text part.Users = codes "users"
policy_text part.User = codes "user"
policy_text part.By = codes "by"

abbrev pub policy_line : PolicyStop → List ℕ
policy_line (policy.Policy part i) = codes "refused 16 policy " ++ policy_text part ++ codes " " ++ decimal i ++ codes "\n"
policy_line (policy.Denied k j role) = codes "refused 17 denied " ++ decimal k ++ codes " " ++ decimal j ++ codes " " ++ role ++ codes "\n"
policy_line policy.NoMemory = []

-- ---- either

abbrev pub refusal_line : AcceptStop → List ℕ
refusal_line (accept.Case why) = case_line why
refusal_line (accept.Policy why) = policy_line why

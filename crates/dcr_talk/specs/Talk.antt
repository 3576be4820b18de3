-- What the machine of a site answers to a list of messages and questions, and what a link gave and took that such a machine
-- could have had.
use Rattle.std.specs.Prelude.{◌≡◌, ℕ, List, [], ◌∷◌, ◌++◌, fold, map, option_to_list}
use Rattle.dcr_set.specs.EventSet.{Set}
use Rattle.dcr_graph.specs.Rows.{row}
use Rattle.dcr_graph.specs.Rules.{Rules}
use Rattle.dcr_graph.specs.declared.marking.Marking.{Marking}
use Rattle.dcr_wire.specs.Laws.{Sent, sent_message, sent_question, sent_answer}
use Rattle.dcr_node.specs.SiteState.{SiteState, replied, answered, site_step}
use Rattle.dcr_node.specs.WorldState.{site_at}
use Rattle.dcr_talk.specs.Frames.{SpellAll}

-- what the site that owns S answers to one of these: to a message its reply and to a question its answer, where there is one
abbrev pub told_to : Rules → Set → SiteState → Sent → List Sent
told_to G S node (sent_message message) = map sent_message (option_to_list (replied G S node message))
told_to G S node (sent_question question) = map sent_answer (option_to_list (answered G S node question))
told_to G S node (sent_answer answer) = []

-- its state after one of these: only a message changes it
abbrev pub stepped : Rules → Set → SiteState → Sent → SiteState
stepped G S node (sent_message message) = site_step G S node message
stepped G S node (sent_question question) = node
stepped G S node (sent_answer answer) = node

-- its state after all of these
abbrev pub after_all : Rules → Set → SiteState → List Sent → SiteState
after_all G S node asked = fold (stepped G S) node asked

-- what it answers to these, one after the other
unfoldable pub told_by : Rules → Set → SiteState → List Sent → List Sent
told_by G S node [] = []
told_by G S node (one ∷ more) = told_to G S node one ++ told_by G S (stepped G S node one) more

-- What a link gave is a beginning of what the machine of site i, begun at the opening, answers to a beginning of what the link
-- took.
pub record CouldSay (G : Rules) (C : List Set) (M : Marking) (i : ℕ) (given taken : List ℕ) : Type 0 where
  pub asked : List Sent
  pub heard : List ℕ
  pub unheard : List ℕ
  pub took : taken ≡ heard ++ unheard
  pub frames : SpellAll heard asked
  pub said : List ℕ
  pub unsaid : List ℕ
  pub answers : SpellAll said (told_by G (row C i) (site_at G C M i) asked)
  pub gave : said ≡ given ++ unsaid

-- How a site has served the links that a porter brought.
use Rattle.std.specs.Prelude.{◌≡◌, ℕ, List, ◌++◌, map, Option, Some, None, ⊤}
use Rattle.std.specs.List.{All, enumerate_from}
use Rattle.std.specs.Io.KnownBytes.{IsAtEnd}
use Rattle.dcr_base.specs.Link.{Links}
use Rattle.dcr_graph.specs.Projection.{project}
use Rattle.dcr_proj.specs.Local.{projection_of}
use Rattle.dcr_site.specs.Seen.{Seen}
use Rattle.dcr_node.specs.SiteState.{SiteState, new_site}
use Rattle.dcr_part.specs.Whole.{Whole}
use Rattle.dcr_porter.specs.Porter.{Porters}
use Rattle.dcr_answer.specs.Greeted.{AnswersBy}
use Rattle.dcr_answer.specs.declared.end.AnswerEnd.{AnswerEnd}

-- the site of a case before it has heard of any execution
abbrev pub site_of : Whole → SiteState
site_of W =
    let site : Seen = record { projection = projection_of W.rules W.own; mark = project W.rules W.own W.opening } in
    new_site W.head.site site

-- what a link told at its beginning and what it told at its end are how this site answers, begun at the opening, by this key
pub record IsServed {L R : Type 0} (W : Whole) (key : Option (List ℕ)) (tells : Links L R) (link : L) (rest : R) : Type 0 where
  pub end : AnswerEnd
  pub answers :
      AnswersBy W.rules W.own (site_of W) W.head.site W.head.digest key (IsAtEnd (tells.unread rest).bytes) (tells.gives link) (tells.unread rest) (tells.takes link) (tells.sent rest) end

-- where it is told which links are left, these were the first, and the others stay
abbrev pub HasBrought : {L : Type 0} → Option (List L) → Option (List L) → List L → Type 0
HasBrought None after links = after ≡ None
HasBrought (Some before) after links = (rest : List _) × (before ≡ links ++ rest) × (after ≡ Some rest)

-- Where it is told what was handed back, it is these behind what had been, numbered from 0 on; or it is told no more.
abbrev pub WereHandedBack : {R : Type 0} → Option (List (ℕ × R)) → Option (List (ℕ × R)) → List R → Type 0
WereHandedBack before None rests = ⊤
WereHandedBack None (Some after) rests = ⊥
WereHandedBack (Some before) (Some after) rests = after ≡ before ++ enumerate_from 0 rests

-- The porter brought these links and no others, what stays of each was handed back to it in order, and each was served.
pub record HasServedLinks {P L R : Type 0} (tells : Porters P L R) (W : Whole) (key : Option (List ℕ)) (before after : P) : Type 0 where
  pub served : List (L × R)
  pub brought : HasBrought (tells.links before) (tells.links after) (map (λ (one : L × R). one.0) served)
  pub back : WereHandedBack (tells.back before) (tells.back after) (map (λ (one : L × R). one.1) served)
  pub each : All (λ (one : L × R). IsServed W key tells.each one.0 one.1) served

-- Links that a porter brought and was handed back, one more of them, and how each was served.
use Rattle.std.proofs.Common.{◌≡◌, ℕ, ◌+◌, List, [], ◌∷◌, ◌++◌, length, Option, Some, None, Ok, Err, inl, inr, refl, sym, ap, subst, ◌∙◌, append_assoc, append-nil, arith}
use Rattle.std.specs.Prelude.{map}
use Rattle.std.specs.List.{enumerate_from}
use Rattle.std.specs.Io.KnownBytes.{IsAtEnd}
use Rattle.std.proofs.lemmas.List.{map-append, length-append, length-map}
use Rattle.std.proofs.lemmas.List.Elements.{All-nil, All-cons, All-append}
use Rattle.dcr_base.specs.Door.{GivesNext}
use Rattle.dcr_base.specs.Link.{Links}
use Rattle.dcr_base.specs.Side.{Side}
use Rattle.dcr_base.specs.declared.failed.Failed.{Failed}
use Rattle.dcr_set.specs.EventSet.{Set}
use Rattle.dcr_graph.specs.Rules.{Rules}
use Rattle.dcr_proj.specs.Local.{projection_of}
use Rattle.dcr_site.specs.Seen.{Seen}
use Rattle.dcr_wire.specs.Laws.{Sent}
use Rattle.dcr_node.specs.SiteState.{SiteState, new_site}
use Rattle.dcr_part.specs.PartOf.{IsPartOf}
use Rattle.dcr_part.specs.Whole.{Whole}
use Rattle.dcr_part.specs.declared.head.PartHead.{PartHead}
use Rattle.dcr_part.specs.declared.part.Part.{Part}
use Rattle.dcr_porter.specs.Porter.{Porters, BringsNext, HasBack}
use Rattle.dcr_porter.specs.declared.brought.Brought.TheVariants.{Link, Nobody, Shut}
use Rattle.dcr_answer.specs.Answering.{EndsBy}
use Rattle.dcr_answer.specs.Greeted.{AnswersBy, IsUnchallenged}
use Rattle.dcr_answer.specs.declared.end.AnswerEnd.{AnswerEnd}
use Rattle.dcr_answer.specs.declared.end.AnswerEnd.TheVariants.{Ended, Torn, NotOurs, LinkFault, Full}
use Rattle.dcr_apart.specs.Served.{HasBrought, HasServedLinks, IsServed, WereHandedBack, site_of}

-- ---- what a porter brings, as what a door gives

pub gives_link : {L : Type 0} (before after : Option (List L)) (link : L) → BringsNext before after (Ok (Link link)) → GivesNext before after (Ok (Some link))
gives_link None after link brings = brings
gives_link (Some before) after link brings = brings

pub gives_none : {L : Type 0} (before after : Option (List L)) → BringsNext before after (Ok Shut) → GivesNext before after (Ok None)
gives_none None after brings = brings
gives_none (Some before) after brings = brings

pub gives_failed : {L : Type 0} (before after : Option (List L)) (failed : Failed) → BringsNext before after (Err failed) → GivesNext before after (Err failed)
gives_failed None after failed brings = brings
gives_failed (Some before) after failed brings = brings

-- where nobody is there no link is lost
pub nobody_stays : {L : Type 0} (before after : Option (List L)) → BringsNext before after (Ok Nobody) → after ≡ before
nobody_stays None after brings = brings
nobody_stays (Some before) after brings = brings

-- nor where it is shut or has failed
pub none_stays : {L : Type 0} (before after : Option (List L)) → GivesNext before after (Ok None) → after ≡ before
none_stays None after gives = gives
none_stays (Some before) after gives = gives.1 ∙ ap Some (sym gives.0)

pub failed_stays : {L : Type 0} (before after : Option (List L)) (failed : Failed) → GivesNext before after (Err failed) → after ≡ before
failed_stays None after failed gives = gives
failed_stays (Some before) after failed gives = gives

-- ---- one more

-- one link more was brought
brought_more : {L : Type 0} (before mid after : Option (List L)) (links : List L) (link : L) → HasBrought before mid links → GivesNext mid after (Ok (Some link))
    → HasBrought before after (links ++ link ∷ [])
brought_more None mid after links link brought gives = subst (λ m. GivesNext m after (Ok (Some link))) brought gives
brought_more {L} (Some before) mid after links link brought gives =
    let next : (rest : List L) × (brought.0 ≡ link ∷ rest) × (after ≡ Some rest) = subst (λ m. GivesNext m after (Ok (Some link))) brought.2 gives in (
      next.0,
      brought.1 ∙ ap (λ r. links ++ r) next.1 ∙ sym (append_assoc links (link ∷ []) next.0),
      next.2,
    )

-- numbers go on where one comes behind
enumerate_more : {R : Type 0} (n : ℕ) (rests : List R) (rest : R) → enumerate_from n (rests ++ rest ∷ []) ≡ enumerate_from n rests ++ (n + length rests, rest) ∷ []
enumerate_more n [] rest = let same : n ≡ n + 0 = omega arith in ap (λ k. (k, rest) ∷ []) same
enumerate_more n (first ∷ rests) rest =
    let same : (n + 1) + length rests ≡ n + length (first ∷ rests) = omega arith in
    ap (λ t. (n, first) ∷ t) (enumerate_more (n + 1) rests rest ∙ ap (λ k. enumerate_from (n + 1) rests ++ (k, rest) ∷ []) same)

-- one more was handed back
back_more : {R : Type 0} (before mid after : Option (List (ℕ × R))) (rests : List R) (number : ℕ) (rest : R) → number ≡ length rests
    → WereHandedBack before mid rests → HasBack mid number rest after → WereHandedBack before after (rests ++ rest ∷ [])
back_more before mid None rests number rest many were has = tt
back_more before None (Some after) rests number rest many were has = absurd has
back_more None (Some mid) (Some after) rests number rest many were has = absurd were
back_more (Some before) (Some mid) (Some after) rests number rest many were has =
    let same : number ≡ 0 + length rests = omega (arith, many) in
    has ∙ ap (λ m. m ++ (number, rest) ∷ []) were ∙ append_assoc before (enumerate_from 0 rests) ((number, rest) ∷ [])
    ∙ ap (λ k. before ++ (enumerate_from 0 rests ++ (k, rest) ∷ [])) same ∙ ap (λ t. before ++ t) (sym (enumerate_more 0 rests rest))

nothing_back : {R : Type 0} (back : Option (List (ℕ × R))) → WereHandedBack back back []
nothing_back None = tt
nothing_back (Some back) = sym (append-nil back)

nothing_brought : {L : Type 0} (links : Option (List L)) → HasBrought links links []
nothing_brought None = refl
nothing_brought (Some links) = (links, refl, refl)

-- so many links were served
pub record HasServed {P L R : Type 0} (tells : Porters P L R) (W : Whole) (key : Option (List ℕ)) (before after : P) (count : ℕ) : Type 0 where
  pub links : HasServedLinks tells W key before after
  pub many : length links.served ≡ count

module _ {P L R : Type 0} (tells : Porters P L R) (W : Whole) (key : Option (List ℕ)) where
  pub served_none : (porter : P) → HasServed tells W key porter porter 0
  served_none porter = record {
    links = record {
      served = [];
      brought = nothing_brought (tells.links porter);
      back = nothing_back (tells.back porter);
      each = All-nil (λ (one : L × R). IsServed W key tells.each one.0 one.1);
    };
    many = refl;
  }

  -- no link came since
  pub served_still : (before mid after : P) (count : ℕ) → HasServed tells W key before mid count → tells.links after ≡ tells.links mid → tells.back after ≡ tells.back mid
      → HasServed tells W key before after count
  served_still before mid after count sofar links back = record {
    links = record {
      served = sofar.links.served;
      brought = subst (λ left. HasBrought (tells.links before) left (map (λ (one : L × R). one.0) sofar.links.served)) (sym links) sofar.links.brought;
      back = subst (λ b. WereHandedBack (tells.back before) b (map (λ (one : L × R). one.1) sofar.links.served)) (sym back) sofar.links.back;
      each = sofar.links.each;
    };
    many = sofar.many;
  }

  -- one more came, was served and was handed back
  pub served_more : (before mid given after : P) (count is : ℕ) (link : L) (rest : R) → is ≡ count + 1 → HasServed tells W key before mid count
      → GivesNext (tells.links mid) (tells.links given) (Ok (Some link)) → tells.back given ≡ tells.back mid → IsServed W key tells.each link rest
      → tells.links after ≡ tells.links given → HasBack (tells.back given) count rest (tells.back after) → HasServed tells W key before after is
  served_more before mid given after count is link rest one_more sofar gives same served links back =
      let old = sofar.links.served in
      let one : L × R = (link, rest) in
      let rests = map (λ (o : L × R). o.1) old in
      let many : count ≡ length rests = (let all = sofar.many in let kept = length-map old (λ (o : L × R). o.1) in omega arith) in
      record {
        links = record {
          served = old ++ one ∷ [];
          brought =
              subst (HasBrought (tells.links before) (tells.links after)) (sym (map-append (λ (o : L × R). o.0) old (one ∷ [])))
              (subst (λ left. HasBrought (tells.links before) left (map (λ (o : L × R). o.0) old ++ link ∷ [])) (sym links)
              (brought_more (tells.links before) (tells.links mid) (tells.links given) (map (λ (o : L × R). o.0) old) link sofar.links.brought gives));
          back =
              subst (WereHandedBack (tells.back before) (tells.back after)) (sym (map-append (λ (o : L × R). o.1) old (one ∷ [])))
              (back_more (tells.back before) (tells.back given) (tells.back after) rests count rest many
              (subst (λ b. WereHandedBack (tells.back before) b rests) (sym same) sofar.links.back) back);
          each = All-append (λ (o : L × R). IsServed W key tells.each o.0 o.1) old (one ∷ []) sofar.links.each
              (All-cons (λ (o : L × R). IsServed W key tells.each o.0 o.1) one [] served (All-nil (λ (o : L × R). IsServed W key tells.each o.0 o.1)));
        };
        many = (let all = length-append old (one ∷ []) in let few = sofar.many in omega arith);
      }

-- ---- one link

-- what is true where a link has ended may stand in the place of that
ends_weaker : (A B : Type 0) → (A → B) → (node : SiteState) (end : AnswerEnd) (asked : List Sent) (behind due : List ℕ) (gave left had took : Side)
    → EndsBy node A end asked behind due gave left had took → EndsBy node B end asked behind due gave left had took
ends_weaker A B so node Ended asked behind due gave left had took ends = (ends.0, so ends.1, ends.2, ends.3)
ends_weaker A B so node Torn asked behind due gave left had took ends = (ends.0, ends.1, so ends.2, ends.3, ends.4)
ends_weaker A B so node NotOurs asked behind due gave left had took ends = ends
ends_weaker A B so node LinkFault asked behind due gave left had took ends = ends
ends_weaker A B so node Full asked behind due gave left had took ends = ends

unchallenged_weaker : (A B : Type 0) → (A → B) → (end : AnswerEnd) (got : List ℕ) (gave left : Side) → IsUnchallenged A end got gave left → IsUnchallenged B end got gave left
unchallenged_weaker A B so Ended got gave left why = (why.0, so why.1, why.2)
unchallenged_weaker A B so Torn got gave left why = (why.0, why.1, so why.2, why.3)
unchallenged_weaker A B so NotOurs got gave left why = why
unchallenged_weaker A B so LinkFault got gave left why = why
unchallenged_weaker A B so Full got gave left why = why

answers_weaker : (A B : Type 0) → (A → B) → (G : Rules) (S : Set) (node : SiteState) (site : ℕ) (digest : List ℕ) (key : Option (List ℕ)) (gave left had took : Side) (end : AnswerEnd)
    → AnswersBy G S node site digest key A gave left had took end → AnswersBy G S node site digest key B gave left had took end
answers_weaker A B so G S node site digest key gave left had took end (inl greeted) =
    inl (record {
      challenge = greeted.challenge;
      first = greeted.first;
      spelled = greeted.spelled;
      got = greeted.got;
      read = greeted.read;
      asked = greeted.asked;
      behind = greeted.behind;
      frames = greeted.frames;
      ours = greeted.ours;
      said = greeted.said;
      answers = greeted.answers;
      ends = ends_weaker A B so node end greeted.asked greeted.behind _ gave left had took greeted.ends;
    })
answers_weaker A B so G S node site digest key gave left had took end (inr ungreeted) =
    inr (record { got = ungreeted.got; read = ungreeted.read; why = unchallenged_weaker A B so end ungreeted.got gave left ungreeted.why; silent = ungreeted.silent })

-- the node of a part's site is that of the case's
pub node_is : (W : Whole) (part : Part) → IsPartOf W part → new_site part.head.site part.site ≡ site_of W
node_is W part it =
    ap (λ (h : PartHead). new_site h.site part.site) it.head
    ∙ ap (λ P. let site : Seen = record { projection = P; mark = part.site.mark } in new_site W.head.site site) it.site.projection
    ∙ ap (λ m. let site : Seen = record { projection = projection_of W.rules W.own; mark = m } in new_site W.head.site site) it.site.mark

-- a link over which the part's site has answered was served
pub served_link : {L R : Type 0} (tells : Links L R) (W : Whole) (part : Part) (key : Option (List ℕ)) (node : SiteState) (has_ended : Type 0) (link : L) (left took : Side) (rest : R) (end : AnswerEnd)
    → IsPartOf W part → node ≡ new_site part.head.site part.site → (has_ended → IsAtEnd left.bytes) → tells.unread rest ≡ left → tells.sent rest ≡ took
    → AnswersBy W.rules W.own node part.head.site part.head.digest key has_ended (tells.gives link) left (tells.takes link) took end → IsServed W key tells link rest
served_link tells W part key node has_ended link left took rest end it is over unread sent answers =
    let at_end : AnswersBy W.rules W.own node part.head.site part.head.digest key (IsAtEnd left.bytes) (tells.gives link) left (tells.takes link) took end
    = answers_weaker has_ended (IsAtEnd left.bytes) over W.rules W.own node part.head.site part.head.digest key (tells.gives link) left (tells.takes link) took end answers in
    let of_site = subst (λ (n : SiteState). AnswersBy W.rules W.own n part.head.site part.head.digest key (IsAtEnd left.bytes) (tells.gives link) left (tells.takes link) took end) (is ∙ node_is W part it) at_end in
    let of_head = subst (λ (h : PartHead). AnswersBy W.rules W.own (site_of W) h.site h.digest key (IsAtEnd left.bytes) (tells.gives link) left (tells.takes link) took end) it.head of_site in
    let of_rest = subst (λ (s : Side). AnswersBy W.rules W.own (site_of W) W.head.site W.head.digest key (IsAtEnd s.bytes) (tells.gives link) s (tells.takes link) took end) (sym unread) of_head in
    record {
      end = end;
      answers = subst (λ (s : Side). AnswersBy W.rules W.own (site_of W) W.head.site W.head.digest key (IsAtEnd (tells.unread rest).bytes) (tells.gives link) (tells.unread rest) (tells.takes link) s end) (sym sent) of_rest;
    }

use Rattle.std.proofs.Common.{rules, ◌≡◌, zero, suc, List, [], ◌∷◌, length, refl, sym, ap, subst, ◌∙◌, arith}
use Rattle.std.proofs.lemmas.List.Elements.{All-cons, All-nil}
use Rattle.dcr_set.specs.EventSet.{Set, those, no_event, with_event}
use Rattle.dcr_proj.specs.CoverValue.{IsCover, IsCovered, owners}
use Rattle.dcr_graph_rows.proofs.build.hospital_cover.Goals as goal

abbrev doctors : Set
doctors = with_event (with_event (no_event 4) 0) 1

abbrev nurses : Set
nurses = with_event (with_event (no_event 4) 2) 3

all_owned : IsCovered 4 (doctors ∷ nurses ∷ [])
unfolding those
all_owned zero below = refl
all_owned (suc zero) below = refl
all_owned (suc (suc zero)) below = refl
all_owned (suc (suc (suc zero))) below = refl
all_owned (suc (suc (suc (suc k)))) below = absurd (omega arith)

pub new-requires : goal.new-requires
unfolding those
new-requires c =
    let first : c.insert-2.new.self ≡ doctors = c.insert-2.ensures.added ∙ ap (λ s. with_event s 1) (c.insert.ensures.added ∙ ap (λ s. with_event s 0) c.new-first.ensures.empty) in
    let second : c.insert-4.new.self ≡ nurses = c.insert-4.ensures.added ∙ ap (λ s. with_event s 3) (c.insert-3.ensures.added ∙ ap (λ s. with_event s 2) c.new-second.ensures.empty) in
    let owned : c.in_ok-owned.owned.items ≡ doctors ∷ nurses ∷ [] =
    c.in_ok-owned.ensures.items ∙ ap (λ s. s ∷ c.insert-4.new.self ∷ []) first ∙ ap (λ s. doctors ∷ s ∷ []) second in
    subst (λ (sets : List Set). IsCover (owners c.in_ok-names.names.items sets)) (sym owned)
    (record {
      some_site = search rules;
      most_sites = search rules;
      as_many = search rules;
      distinct = search rules;
      rooms = All-cons (λ (set : Set). length set ≡ 4) doctors (nurses ∷ []) refl
          (All-cons (λ (set : Set). length set ≡ 4) nurses [] refl (All-nil (λ (set : Set). length set ≡ 4)));
      covered = all_owned;
    })

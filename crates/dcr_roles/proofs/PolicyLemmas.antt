-- The policy of a value, or its first refusal, stage by stage and both ways.
use Rattle.std.proofs.Common.{◌≡◌, Bool, true, false, cond, Result, Ok, Err, refl, sym, ap, subst, ◌∙◌}
use Rattle.std.proofs.lemmas.Bool.{false≢true}
use Rattle.serde_json.specs.Data.{Data}
use Rattle.dcr_nest.specs.Nest.{parents_of}
use Rattle.dcr_nest.specs.Tree.{Parents}
use Rattle.dcr_policy.specs.Roles.{Roles}
use Rattle.dcr_json.specs.Written.{Spelled}
use Rattle.dcr_roles.specs.Stages.{next_stage}
use Rattle.dcr_roles.specs.Allowed.{denial, unless}
use Rattle.dcr_roles.specs.Laws.{IsGranted, PolicyComes, WritesPolicy, PoliciesAreTheFormats}
use Rattle.dcr_roles.specs.Parts.{parts_fit}
use Rattle.dcr_roles.specs.Policy.{nothing_asked, policy_told, policy_written}
use Rattle.dcr_roles.specs.Read.{policy_in}
use Rattle.dcr_roles.specs.Written.{is_third}
use Rattle.dcr_roles.specs.declared.stop.PolicyStop.{PolicyStop}
use Rattle.dcr_roles.specs.declared.stop.PolicyStop.TheVariants.{Policy, Denied, NoMemory}
use Rattle.dcr_roles.proofs.AllowedLemmas.{allowed, denied, denial_ends, denial_none, denial_some, DenialEnds}
use Rattle.dcr_roles.proofs.PartLemmas.{parts_law}

-- ---- what is left to try

abbrev parents_in : Spelled → Parents
parents_in case = parents_of case.nested.nodes

told_third : (d : Data) (parents : Parents) → is_third d ≡ true → policy_told d parents ≡ next_stage (λ _. Ok (policy_written d parents)) (parts_fit d)
unfolding policy_told
told_third d parents e = ap (λ b. cond b (next_stage (λ _. Ok (policy_written d parents)) (parts_fit d)) (Ok (nothing_asked parents))) e

told_other : (d : Data) (parents : Parents) → is_third d ≡ false → policy_told d parents ≡ Ok (nothing_asked parents)
unfolding policy_told
told_other d parents e = ap (λ b. cond b (next_stage (λ _. Ok (policy_written d parents)) (parts_fit d)) (Ok (nothing_asked parents))) e

policy_so : (d : Data) (case : Spelled) (r : Result Roles PolicyStop) → policy_told d (parents_in case) ≡ r → policy_in d case ≡ next_stage (λ P. unless (denial P case.sessions) P) r
unfolding policy_in
policy_so d case r e = ap (next_stage (λ P. unless (denial P case.sessions) P)) e

-- the policy that is written is told
told_from : (d : Data) (case : Spelled) (P : Roles) → WritesPolicy d case P → policy_told d (parents_in case) ≡ Ok P
told_from d case P h = at (is_third d) refl
  where
    at : (b : Bool) → is_third d ≡ b → policy_told d (parents_in case) ≡ Ok P
    at true e =
        told_third d (parents_in case) e
        ∙ ap (next_stage (λ _. Ok (policy_written d (parents_in case)))) ((parts_law d).given.1 (h.parts e)).1
        ∙ ap Ok (sym (h.written e))
    at false e = told_other d (parents_in case) e ∙ ap Ok (sym (h.nothing e))

-- ---- both ways

comes : (d : Data) (case : Spelled) (stop : PolicyStop) → PolicyComes d case stop → policy_in d case ≡ Err stop
comes d case (Policy part i) h =
    policy_so d case (Err (Policy part i))
    (told_third d (parents_in case) h.third ∙ ap (next_stage (λ _. Ok (policy_written d (parents_in case)))) (((parts_law d).refused part i).1 h.first))
comes d case (Denied k j role) h = policy_so d case (Ok h.0) (told_from d case h.0 h.1) ∙ ap (λ o. unless o h.0) (denial_some h.0 case.sessions k j role h.2)
comes d case NoMemory h = absurd h

grants : (d : Data) (case : Spelled) (P : Roles) → IsGranted d case P → policy_in d case ≡ Ok P
grants d case P h = policy_so d case (Ok P) (told_from d case P h.writes) ∙ ap (λ o. unless o P) (denial_none P case.sessions h.allowed)

pub data Verdict (d : Data) (case : Spelled) : Type 0 where
  granted : (P : Roles) → policy_in d case ≡ Ok P → IsGranted d case P → Verdict d case
  refused : (stop : PolicyStop) → policy_in d case ≡ Err stop → PolicyComes d case stop → Verdict d case

judge : (d : Data) (case : Spelled) (P : Roles) → WritesPolicy d case P → Verdict d case
judge d case P writes = at (denial_ends P case.sessions)
  where
    at : DenialEnds P case.sessions → Verdict d case
    at (allowed e all) = let is : IsGranted d case P = record { writes = writes; allowed = all } in granted P (grants d case P is) is
    at (denied k j role first) = let is : PolicyComes d case (Denied k j role) = (P, writes, first) in refused (Denied k j role) (comes d case (Denied k j role) is) is

pub verdict : (d : Data) (case : Spelled) → Verdict d case
verdict d case = at (is_third d) refl
  where
    by_parts : is_third d ≡ true → (r : Result (Unit {0}) PolicyStop) → parts_fit d ≡ r → Verdict d case
    by_parts third (Ok done) e = judge d case (policy_written d (parents_in case)) (record {
      parts = λ _. (parts_law d).given.0 (done, e);
      written = λ _. refl;
      nothing = λ other. absurd (false≢true (sym other ∙ third));
    })
    by_parts third (Err stop) e =
        let found = (parts_law d).no_other stop e in
        let is : PolicyComes d case (Policy found.0 found.1) = record { third = third; first = ((parts_law d).refused found.0 found.1).0 (e ∙ ap Err found.2) } in
        refused (Policy found.0 found.1) (comes d case (Policy found.0 found.1) is) is

    at : (b : Bool) → is_third d ≡ b → Verdict d case
    at true e = by_parts e (parts_fit d) refl
    at false e = judge d case (nothing_asked (parents_in case)) (record {
      parts = λ third. absurd (false≢true (sym e ∙ third));
      written = λ third. absurd (false≢true (sym e ∙ third));
      nothing = λ _. refl;
    })

-- ---- the law

refusal_comes : (d : Data) (case : Spelled) (stop : PolicyStop) → policy_in d case ≡ Err stop → PolicyComes d case stop
refusal_comes d case stop e = at (verdict d case)
  where
    at : Verdict d case → PolicyComes d case stop
    at (granted P is h) = absurd (let bad = sym is ∙ e in cc)
    at (refused other is h) = let same : other ≡ stop = let whole = sym is ∙ e in cc in subst (PolicyComes d case) same h

policy_granted : (d : Data) (case : Spelled) (P : Roles) → policy_in d case ≡ Ok P → IsGranted d case P
policy_granted d case P e = at (verdict d case)
  where
    at : Verdict d case → IsGranted d case P
    at (granted Q is h) = let same : Q ≡ P = let whole = sym is ∙ e in cc in subst (IsGranted d case) same h
    at (refused stop is h) = absurd (let bad = sym is ∙ e in cc)

pub policies_law : PoliciesAreTheFormats
policies_law = record {
  refused = λ d case stop. (refusal_comes d case stop, comes d case stop);
  given = λ d case P. (policy_granted d case P, grants d case P);
}

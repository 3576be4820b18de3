-- In the other versions everything is allowed.
use Rattle.std.proofs.Common.{◌≡◌, ℕ, [], None, refl, sym, ◌∙◌, arith}
use Rattle.std.proofs.lemmas.Bool.{false≢true}
use Rattle.dcr_journal.specs.declared.call.Call.{Call}
use Rattle.dcr_nest.specs.Nest.{parents_of}
use Rattle.dcr_policy.specs.Deny.{deny}
use Rattle.dcr_policy.specs.Roles.{Roles}
use Rattle.dcr_policy.proofs.LawLemmas.{nothing_law}
use Rattle.dcr_json.specs.Written.{Spelled}
use Rattle.dcr_roles.specs.Laws.{OthersAllowAll}
use Rattle.dcr_roles.specs.Policy.{nothing_asked}
use Rattle.dcr_roles.proofs.PolicyLemmas.{policies_law}

all_allowed : (case : Spelled) (session : ℕ) (call : Call) → deny (nothing_asked (parents_of case.nested.nodes)) session call ≡ None
all_allowed case session call = nothing_law (parents_of case.nested.nodes) [] [] [] session call (λ k d within. absurd (omega arith))

pub others_law : OthersAllowAll
others_law d case other =
    let P : Roles = nothing_asked (parents_of case.nested.nodes) in (
      P,
      (policies_law.given d case P).1 (record {
        writes = record {
          parts = λ third. absurd (false≢true (sym other ∙ third));
          written = λ third. absurd (false≢true (sym other ∙ third));
          nothing = λ _. refl;
        };
        allowed = λ k calls here j call at. all_allowed case k call;
      }),
      all_allowed case,
    )

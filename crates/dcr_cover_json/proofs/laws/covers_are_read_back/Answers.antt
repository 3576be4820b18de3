use Rattle.std.proofs.Common.{◌++◌, Some, sym, ap, ◌∙◌, arith}
use Rattle.std.proofs.lemmas.Option.{same_Some}
use Rattle.serde_json.specs.Read.{read}
use Rattle.dcr_format.proofs.FactLemmas.{append_none}
use Rattle.dcr_format.proofs.LineLemmas.{one_line}
use Rattle.dcr_format.proofs.PlainLemmas.{read_plain}
use Rattle.dcr_graph_json.specs.Build.{atom_names}
use Rattle.dcr_cover_json.specs.Build.{build_facts}
use Rattle.dcr_cover_json.specs.Limits.{limit_facts}
use Rattle.dcr_cover_json.specs.Shape.{shape_facts, sites_in}
use Rattle.dcr_cover_json.specs.Sites.{cover_in}
use Rattle.dcr_cover_json.specs.Text.{cover_text, cover_value}
use Rattle.dcr_cover_json.proofs.BuildLemmas.{cover_accepted, sites_kept}
use Rattle.dcr_cover_json.proofs.ReadLemmas.{atoms_named}
use Rattle.dcr_cover_json.proofs.RoundLemmas.{all_hold, cover_back}
use Rattle.dcr_cover_json.proofs.ValueLemmas.{plain_cover, text_json}
use Rattle.dcr_cover_json.proofs.laws.covers_are_read_back.Goals as goal

pub returns : goal.returns
unfolding cover_text
returns c = record {
  facts = λ N C nested ok. all_hold N nested C ok;
  cover = λ N C nested ok. cover_back N nested C ok;
  accepted = λ N d hold.
      let sites = sites_in d in
      let later = append_none (limit_facts sites) (build_facts N sites) (append_none (shape_facts d) (limit_facts sites ++ build_facts N sites) hold).1 in
      let kept = sites_kept sites later.0 in cover_accepted N sites kept.0 kept.1 later.1;
  text = λ atoms C. read_plain 3 (cover_value atoms C) (plain_cover atoms C) (omega arith);
  json = λ N C named ok. text_json (atom_names N) C (atoms_named N named) ok.names;
  one_line = λ atoms C. one_line (cover_value atoms C);
  one = λ N C D nested a b same.
      let atoms = atom_names N in
      let value = same_Some _ _ (sym (read_plain 3 (cover_value atoms C) (plain_cover atoms C) (omega arith)) ∙ (ap read same ∙ read_plain 3 (cover_value atoms D) (plain_cover atoms D) (omega arith))) in
      sym (cover_back N nested C a) ∙ ap (λ d. cover_in N (sites_in (Some d))) value ∙ cover_back N nested D b;
}

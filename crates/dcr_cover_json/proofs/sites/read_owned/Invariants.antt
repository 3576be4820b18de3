use Rattle.std.proofs.Common.{◌≡◌, ℕ, ◌<◌, true, is_some, take, length}
use Rattle.dcr_cover_json.specs.Sites.{atom_count, node_named, owned_at, set_meant}
use Rattle.dcr_cover_json.proofs.sites.read_owned.Given as goal

-- what the texts before j mean, each of which names a node
abbrev pub invariant-loop-j : goal.invariant-loop-j
invariant-loop-j g l = record {
  set_is : l.set ≡ set_meant l.index.nested.now (take l.j (g.S.AsSiteText.written l.site).1);
  room : length l.set ≡ atom_count l.index.nested.now;
  known : (k : ℕ) → k < l.j → is_some (node_named l.index.nested.now (owned_at (g.S.AsSiteText.written l.site) k)) ≡ true;
}

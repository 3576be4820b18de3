-- The steps of a renewal as runs of calls.
use Rattle.std.proofs.Common.{◌≡◌, ⊎_elim, IsTrue, ℕ, ◌+◌, ◌*◌, ◌^◌, ◌≤◌, List, [], ◌∷◌, ◌++◌, length, refl, sym, ◌∙◌, ap, subst, arith}
use Rattle.std.specs.Int.{w64, to_be_bytes}
use Rattle.std.proofs.lemmas.List.{length-append}
use Rattle.dcr_base.specs.Disk.{DiskView, Torn, Stays, Writes, Wrote, Durable, IsSteady, LeavesOnly, bytes_at, written}
use Rattle.dcr_base.proofs.DiskLemmas.{goes_on, joined, weaker, torn_behind, torn_written, written_there}
use Rattle.dcr_base.proofs.FileLemmas.{torn_same}
use Rattle.dcr_tape.specs.Renewing.{TornTwice, WroteTwice}
use Rattle.dcr_tape.specs.Tape.{Part, Holds, StandsFor, header_bytes, name_text, part_bytes, records_from, zeros}
use Rattle.dcr_tape.specs.declared.entry.TapeEntry.{TapeEntry}
use Rattle.dcr_tape.specs.declared.width.Width.TheVariants.{Eight, Twelve}
use Rattle.dcr_tape.proofs.DurableLemmas.{honest_as, write_leaves}
use Rattle.dcr_tape.proofs.RenewLemmas.{digest_long, length-records_from, switched, torn_switch, twice_keeps}

-- ---- two writes and a sync

module _ (old first : DiskView) (start : ℕ) (part : List ℕ) (steady : IsSteady old) (writes : Writes start part old first) where
  abbrev pub Twice : List ℕ → Type 0
  Twice c = TornTwice start (length part) old.content c

  once : (c : List ℕ) → Torn start (length part) old.content c → Twice c
  once c torn = record { between = c; part = torn; pointer = torn_same 41 8 c }

  pub first_leaves : LeavesOnly old first Twice
  first_leaves = weaker old first (λ c. Torn start (length part) old.content c) Twice once (write_leaves old first first start part steady writes)

  honest_first : IsTrue first.honest
  honest_first = honest_as old first writes.honest steady.honest

  module _ (second : DiskView) (pointer : List ℕ) (eight : length pointer ≡ 8) (points : Writes 41 pointer first second) where
    after : (c : List ℕ) → second.may_leave c → Twice c
    after c left =
        let from = points.torn honest_first c left in
        let before = writes.torn steady.honest from.0 from.1 in
        record {
          between = from.0;
          part = subst (λ d. Torn start (length part) d from.0) (steady.only before.0 before.1) before.2;
          pointer = subst (λ n. Torn 41 n from.0 c) eight from.2;
        }

    pub second_leaves : LeavesOnly old second Twice
    second_leaves = goes_on old first second Twice first_leaves (points.elapses honest_first) after

    honest_second : IsTrue second.honest
    honest_second = honest_as first second points.honest honest_first

    module _ (new : DiskView) (stays : Stays second new) where
      pub sync_leaves : LeavesOnly old new Twice
      sync_leaves = goes_on old second new Twice second_leaves (stays.elapses honest_second) (λ c left. after c (stays.no_more honest_second c left))

      pub sync_steady : Durable new → IsSteady new
      sync_steady durable =
          let honest : IsTrue new.honest = honest_as second new stays.honest honest_second in
          record { honest = honest; only = durable.only honest }

pub wrote_twice : (old first second new : DiskView) (start : ℕ) (part : List ℕ) → Wrote start part old first
    → Wrote 41 (to_be_bytes w64 start) first second → Stays second new → WroteTwice start part old new
wrote_twice old first second new start part one two stays =
    let kept = stays.told two.told in
    let between : two.content ≡ written start part one.content = sym (two.was one.told) ∙ one.holds in
    record {
      content = one.content;
      was = one.was;
      told = kept.0;
      within = one.within;
      pointer_within = subst (λ c. 41 ≤ length c) between two.within;
      holds = kept.1 ∙ two.holds ∙ ap (written 41 (to_be_bytes w64 start)) between;
    }

-- ---- what the tape stands for

module _ (old : DiskView) (part : Part) (entries : List TapeEntry) (told : IsTrue old.told) (holds : Holds old.content part entries)
    (narrow : part.width ≡ Eight) (start : ℕ) (is : start ≡ 65 + 8 * length entries) (near : start ≤ 2 ^ 62)
    (bytes : List ℕ) (are : bytes ≡ part_bytes part.digest entries) where
  abbrev Same : List ℕ → Type 0
  Same = StandsFor part.digest entries

  pub before_switch : (mid : DiskView) → LeavesOnly old mid (TornTwice start (length bytes) old.content) → LeavesOnly old mid Same
  before_switch mid run =
      weaker old mid (TornTwice start (length bytes) old.content) Same
      (λ c twice. record { part = part; same_case = refl; holds = twice_keeps old.content c part entries start (length bytes) narrow holds is twice })
      run

  long : length bytes ≡ 65 + 12 * length entries
  long =
      ap length are
      ∙ omega (
        arith,
        length-append (header_bytes part.digest) (records_from Twelve 0 entries ++ 0 ∷ []),
        length-append (name_text 2) (part.digest ++ zeros 24),
        length-append part.digest (zeros 24),
        digest_long old.content part entries narrow holds,
        length-append (records_from Twelve 0 entries) (0 ∷ []),
        length-records_from Twelve 0 entries,
      )

  module _ (mid : DiskView) (wrote : WroteTwice start bytes old mid) where
    between : List ℕ
    between = written start bytes wrote.content

    tears : Torn start (length bytes) old.content (written start bytes wrote.content)
    tears = subst (λ c. Torn start (length bytes) c (written start bytes wrote.content)) (sym (wrote.was told)) (torn_written start bytes wrote.content (length bytes) wrote.within (omega arith))

    points : Torn 41 8 (written start bytes wrote.content) mid.content
    points = subst (λ c. Torn 41 8 (written start bytes wrote.content) c) (sym wrote.holds) (torn_written 41 (to_be_bytes w64 start) (written start bytes wrote.content) 8 wrote.pointer_within (omega arith))

    pub mid_holds : Holds mid.content part entries
    mid_holds = twice_keeps old.content mid.content part entries start (length bytes) narrow holds is (record { between = written start bytes wrote.content; part = tears; pointer = points })

    pointer_there : bytes_at mid.content 41 8 ≡ to_be_bytes w64 start
    pointer_there = ap (λ (c : List ℕ). bytes_at c 41 8) wrote.holds ∙ written_there 41 (to_be_bytes w64 start) (written start bytes wrote.content) wrote.pointer_within

    part_there : bytes_at mid.content start (65 + 12 * length entries) ≡ part_bytes part.digest entries
    part_there =
        torn_behind 41 8 (written start bytes wrote.content) mid.content points start (65 + 12 * length entries) (omega (arith, is))
        ∙ ap (bytes_at (written start bytes wrote.content) start) (sym long)
        ∙ written_there start bytes wrote.content wrote.within
        ∙ are

    switch_torn : (c : List ℕ) → Torn 40 1 mid.content c → Same c
    switch_torn c torn = ⊎_elim
        (λ (as_before : Holds c part entries). record { part = part; same_case = refl; holds = as_before })
        (λ (on : Holds c (record { start = start; width = Twelve; digest = part.digest }) entries). record { part = record { start = start; width = Twelve; digest = part.digest }; same_case = refl; holds = on })
        (torn_switch mid.content part entries narrow mid_holds start is near pointer_there part_there c torn)

    pub all_leave : (new : DiskView) → LeavesOnly old mid (TornTwice start (length bytes) old.content) → LeavesOnly mid new (Torn 40 1 mid.content) → LeavesOnly old new Same
    all_leave new first second = joined old mid new Same (before_switch mid first) (weaker mid new (Torn 40 1 mid.content) Same switch_torn second)

    pub new_holds : (new : DiskView) → Wrote 40 (1 ∷ []) mid new → Holds new.content (record { start = start; width = Twelve; digest = part.digest }) entries
    new_holds new last =
        let was : mid.content ≡ last.content = last.was wrote.told in
        let torn : Torn 40 1 mid.content new.content = subst (λ c. Torn 40 1 c new.content) (sym was) (subst (λ c. Torn 40 1 last.content c) (sym last.holds) (torn_written 40 (1 ∷ []) last.content 1 last.within (omega arith))) in
        switched mid.content part entries narrow mid_holds start is near pointer_there part_there new.content torn
        (ap (λ (c : List ℕ). bytes_at c 40 1) last.holds ∙ written_there 40 (1 ∷ []) last.content last.within)

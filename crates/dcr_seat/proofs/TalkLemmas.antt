-- A talk goes on: more is asked, more is answered, and bytes come behind.
use Rattle.std.proofs.Common.{◌≡◌, ℕ, List, [], ◌∷◌, ◌++◌, Option, sym, ap, subst, ◌∙◌, append_assoc}
use Rattle.std.specs.Io.KnownBytes.{Appends, Consumes}
use Rattle.std.proofs.KnownBytes.{Consumes-nil, Consumes-trans, Appends-nil, Appends-trans}
use Rattle.std.proofs.lemmas.List.{append-nil}
use Rattle.dcr_base.specs.Link.{Links}
use Rattle.dcr_base.specs.Side.{Side}
use Rattle.dcr_wire.specs.Laws.{Sent, SpellSent}
use Rattle.dcr_talk.proofs.FrameLemmas.{one_spelled, spell_append}
use Rattle.dcr_seat.specs.Asking.{Writes}
use Rattle.dcr_seat.specs.Exchange.{Exchange, Talk}
use Rattle.dcr_seat.specs.InStep.{AreInStep}

module _ {L R : Type 0} (tells : Links L R) (links : Option (List L)) (greets : ℕ → List ℕ → List ℕ → Type 0) (number i : ℕ) where
  -- more bytes
  exchange_further : (read written more_read more_written : List ℕ) (unread sent left took : Side) → Exchange tells links number read written unread sent
      → Consumes unread.bytes left.bytes more_read → Appends sent.bytes took.bytes more_written → Exchange tells links number (read ++ more_read) (written ++ more_written) left took
  exchange_further read written more_read more_written unread sent left took went reads writes = record {
    link = went.link;
    numbered = went.numbered;
    gave = Consumes-trans (tells.gives went.link).bytes unread.bytes left.bytes read more_read went.gave reads;
    took = Appends-trans (tells.takes went.link).bytes sent.bytes took.bytes written more_written went.took writes;
  }

  -- behind what was asked and answered
  pub talk_further : (asked answers : List Sent) (unheard unasked more_read more_written : List ℕ) (unread sent left took : Side)
      → Talk tells links greets number i asked answers unheard unasked unread sent → Consumes unread.bytes left.bytes more_read → Appends sent.bytes took.bytes more_written
      → Talk tells links greets number i asked answers (unheard ++ more_read) (unasked ++ more_written) left took
  talk_further asked answers unheard unasked more_read more_written unread sent left took talk reads writes =
      let read = talk.hello ++ (talk.given ++ unheard) in
      let written = talk.challenge ++ (talk.taken ++ unasked) in
      let reading : read ++ more_read ≡ talk.hello ++ (talk.given ++ (unheard ++ more_read)) =
      append_assoc talk.hello (talk.given ++ unheard) more_read ∙ ap (λ t. talk.hello ++ t) (append_assoc talk.given unheard more_read) in
      let writing : written ++ more_written ≡ talk.challenge ++ (talk.taken ++ (unasked ++ more_written)) =
      append_assoc talk.challenge (talk.taken ++ unasked) more_written ∙ ap (λ t. talk.challenge ++ t) (append_assoc talk.taken unasked more_written) in
      record {
        challenge = talk.challenge;
        hello = talk.hello;
        greeted = talk.greeted;
        taken = talk.taken;
        spelled = talk.spelled;
        given = talk.given;
        answered = talk.answered;
        went = subst (λ w. Exchange tells links number (talk.hello ++ (talk.given ++ (unheard ++ more_read))) w left took) writing
            (subst (λ r. Exchange tells links number r (written ++ more_written) left took) reading
            (exchange_further read written more_read more_written unread sent left took talk.went reads writes));
        in_step = talk.in_step;
      }

  -- more was asked, and all of it written
  pub talk_asked : (asked answers more : List Sent) (unread sent took : Side) → Talk tells links greets number i asked answers [] [] unread sent → AreInStep i (asked ++ more)
      → Writes more sent took → Talk tells links greets number i (asked ++ more) answers [] [] unread took
  talk_asked asked answers more unread sent took talk in_step writes =
      let text = writes.0 in
      let read = talk.hello ++ (talk.given ++ []) in
      let written = talk.challenge ++ (talk.taken ++ []) in
      let reading : read ++ [] ≡ read = append-nil read in
      let writing : written ++ text ≡ talk.challenge ++ ((talk.taken ++ text) ++ []) =
      append_assoc talk.challenge (talk.taken ++ []) text ∙ ap (λ t. talk.challenge ++ (t ++ text)) (append-nil talk.taken) ∙ ap (λ t. talk.challenge ++ t) (sym (append-nil (talk.taken ++ text))) in
      record {
        challenge = talk.challenge;
        hello = talk.hello;
        greeted = talk.greeted;
        taken = talk.taken ++ text;
        spelled = spell_append talk.taken text asked more talk.spelled writes.1;
        given = talk.given;
        answered = talk.answered;
        went = subst (λ w. Exchange tells links number read w unread took) writing
            (subst (λ r. Exchange tells links number r (written ++ text) unread took) reading
            (exchange_further read written [] text unread sent unread took talk.went (Consumes-nil unread.bytes) writes.2.0));
        in_step = in_step;
      }

  -- one more was answered
  pub talk_heard : (asked answers : List Sent) (one : Sent) (bytes : List ℕ) (unread sent left : Side) → Talk tells links greets number i asked answers [] [] unread sent
      → SpellSent bytes one → Consumes unread.bytes left.bytes bytes → Talk tells links greets number i asked (answers ++ one ∷ []) [] [] left sent
  talk_heard asked answers one bytes unread sent left talk spelled reads =
      let read = talk.hello ++ (talk.given ++ []) in
      let written = talk.challenge ++ (talk.taken ++ []) in
      let writing : written ++ [] ≡ written = append-nil written in
      let reading : read ++ bytes ≡ talk.hello ++ ((talk.given ++ bytes) ++ []) =
      append_assoc talk.hello (talk.given ++ []) bytes ∙ ap (λ t. talk.hello ++ (t ++ bytes)) (append-nil talk.given) ∙ ap (λ t. talk.hello ++ t) (sym (append-nil (talk.given ++ bytes))) in
      record {
        challenge = talk.challenge;
        hello = talk.hello;
        greeted = talk.greeted;
        taken = talk.taken;
        spelled = talk.spelled;
        given = talk.given ++ bytes;
        answered = spell_append talk.given bytes answers (one ∷ []) talk.answered (one_spelled bytes one spelled);
        went = subst (λ r. Exchange tells links number r written left sent) reading
            (subst (λ w. Exchange tells links number (read ++ bytes) w left sent) writing
            (exchange_further read written bytes [] unread sent left sent talk.went reads (Appends-nil sent.bytes)));
        in_step = talk.in_step;
      }

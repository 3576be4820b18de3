-- Answers that are passed over, one after the other, and what a door tells of what its listener answered.
use Rattle.std.proofs.Common.{◌≡◌, ◌≢◌, ◌⊎◌, ℕ, ◌+◌, ◌-◌, ◌<◌, ◌≤◌, ◌^◌, true, List, [], ◌∷◌, length, Result, Ok, Err, refl, sym, ◌∙◌, subst, arith}
use Rattle.std.specs.Prelude.{IsErr}
use Rattle.std.specs.IoError.{error_kind}
use Rattle.std.proofs.lemmas.Bool.{false≢true}
use Rattle.std.specs.declared.io.Error.{Error}
use Rattle.std.specs.declared.io.ErrorKind.TheVariants.{Interrupted}
use Rattle.std.specs.declared.net.socket_addr.SocketAddr.{SocketAddr}
use Rattle.std.specs.declared.net.tcp.TcpStream.{TcpStream}
use Rattle.dcr_serve.specs.Listening.{Accepts, Asks, GaveUp, IsPassedAs, Passed, Took, WerePassed, began, by_error, interrupted, is_lost, lost, lost_in, most_lost, no_port, tired, went_on}
use Rattle.dcr_serve.specs.declared.tcp_door.TcpDoor.{TcpDoor}

-- ---- one listener

module _ {L : Type 0} (answered : L → Result TcpStream Error → L → Type 0) where
  none_passed : (l : L) → WerePassed answered [] l l
  unfolding WerePassed
  none_passed l = refl

  one_more : (how : Passed) (passed : List Passed) (before between after : L) (e : Error) → WerePassed answered passed before between → answered between (Err e) after → IsPassedAs how e
      → WerePassed answered (how ∷ passed) before after
  unfolding WerePassed
  one_more how passed before between after e were asked is = (between, e, were, asked, is)

  -- so many answers were passed over, of which so many said that a connection was lost
  pub record SoFar (before now : L) (times many : ℕ) : Type 0 where
    pub passed : List Passed
    pub were : WerePassed answered passed before now
    pub as_many : length passed ≡ times
    pub of_lost : lost_in passed ≡ many
    pub few : many ≤ most_lost

  pub at_first : (l : L) → SoFar l l 0 0
  at_first l = record { passed = []; were = none_passed l; as_many = refl; of_lost = refl; few = omega arith }

  pub after_interruption : (before now after : L) (times many : ℕ) (e : Error) → SoFar before now times many → answered now (Err e) after → error_kind e ≡ Interrupted → SoFar before after (times + 1) many
  after_interruption before now after times many e so asked is = record {
    passed = interrupted ∷ so.passed;
    were = one_more interrupted so.passed before now after e so.were asked is;
    as_many = (let many = so.as_many in omega arith);
    of_lost = so.of_lost;
    few = so.few;
  }

  pub after_loss : (before now after : L) (times many : ℕ) (e : Error) → SoFar before now times many → answered now (Err e) after → is_lost e ≡ true → many < most_lost → SoFar before after (times + 1) (many + 1)
  after_loss before now after times many e so asked is less = record {
    passed = lost ∷ so.passed;
    were = one_more lost so.passed before now after e so.were asked is;
    as_many = (let many = so.as_many in omega arith);
    of_lost = (let many = so.of_lost in omega arith);
    few = omega (arith, less);
  }

  pub took : (before now after : L) (times many : ℕ) (stream : TcpStream) → SoFar before now times many → answered now (Ok stream) after → Took answered before stream after
  took before now after times many stream so asked = (so.passed, record { between = now; were_passed = so.were; few = (let few = so.few in let same = so.of_lost in omega arith); asked = asked })

  pub gave_up : (before now after : L) (times many : ℕ) (e : Error) → SoFar before now times many → answered now (Err e) after → error_kind e ≢ Interrupted → (is_lost e ≡ true → many ≡ most_lost)
      → GaveUp answered before after
  gave_up before now after times many e so asked other full =
      by_error so.passed e (record { between = now; were_passed = so.were; few = (let few = so.few in let same = so.of_lost in omega arith); asked = asked }) other (λ is. so.of_lost ∙ full is)

  pub grew_tired : (before now : L) (times many : ℕ) → SoFar before now times many → times ≡ 2 ^ 64 - 1 → GaveUp answered before now
  grew_tired before now times many so all = tired so.passed so.were (so.as_many ∙ all)

  -- a listener that failed, or whose connection was closed, is told as a failure
  pub accepts_failed : {T E : Type 0} (before after : L) (r : Result T E) → IsErr r → GaveUp answered before after ⊎ ((stream : TcpStream) × Took answered before stream after) → Accepts answered before r after
  accepts_failed before after (Ok x) failed why = absurd (false≢true failed)
  accepts_failed before after (Err e) failed why = why

-- ---- a door

module _ {R L : Type 0} (bound : R → SocketAddr → Result L Error → R → Type 0) (answered : L → Result TcpStream Error → L → Type 0) (old : TcpDoor R L) where
  -- what was taken is given in other words
  pub asks_given : {T U E F : Type 0} (x : T) (y : U) (new : TcpDoor R L) → Asks bound answered old (let r : Result T E = Ok x in r) new → Asks bound answered old (let r : Result U F = Ok y in r) new
  asks_given x y new (no_port e none listens is failed) = absurd (false≢true failed)
  asks_given x y new (began first last none listens is accepts) = began first last none listens is accepts
  asks_given x y new (went_on first last some same is accepts) = went_on first last some same is accepts

  -- a failure is told in other words, by a door that has the same handle and the same listener
  pub asks_failed : {T U E F : Type 0} (x : E) (y : F) (between new : TcpDoor R L) → new.rt ≡ between.rt → new.listener ≡ between.listener
      → Asks bound answered old (let r : Result T E = Err x in r) between → Asks bound answered old (let r : Result U F = Err y in r) new
  asks_failed x y between new handle listener (no_port e none listens is failed) =
      no_port e none (listens.0, listens.1, subst (λ rt. bound old.rt listens.0 (Err e) rt) (sym handle) listens.2) (listener ∙ is) refl
  asks_failed x y between new handle listener (began first last none listens is accepts) =
      began first last none (listens.0, listens.1, subst (λ rt. bound old.rt listens.0 (Ok first) rt) (sym handle) listens.2) (listener ∙ is) accepts
  asks_failed x y between new handle listener (went_on first last some same is accepts) = went_on first last some (handle ∙ same) (listener ∙ is) accepts

-- What one connection sealed: no nonce twice, each under a number that was drawn at the place of a turn of its own.
use Rattle.std.proofs.Common.{◌≡◌, ℕ, ◌+◌, ◌≤◌, Bool, true, List, [], ◌∷◌, ◌++◌, slice_get, Option, Some, None, Ok, Err}
use Rattle.std.proofs.Common.{refl, sym, ap, subst, ◌∙◌, arith, append-nil, append_assoc}
use Rattle.std.specs.Prelude.{Result}
use Rattle.spec_exchange.specs.State as model
use Rattle.spec_exchange.specs.Table.{put}
use Rattle.spec_world.specs.Answering.{Seal}
use Rattle.spec_world.specs.Connection.{Going, answered}
use Rattle.spec_world.specs.Ends as world
use Rattle.spec_world.specs.Ends.{ServerEnd, Logons}
use Rattle.spec_world.specs.Given.{Given, GivenStep, dealt_of, dealt_step, given_of}
use Rattle.spec_world.specs.Hearing.{Frame, check_frame}
use Rattle.spec_world.specs.Settings.{ServerSettings}
use Rattle.law_nonces.specs.server_nonces.Numbering.{NonceNumbered, Sealer, sealer_of}
use Rattle.law_nonces.proofs.event_nonces.Seals.{EndFrom, SealsFrom, answered_along, answered_from, joined_from}
use Rattle.law_nonces.proofs.negotiation.Tables.{put_same}
use Rattle.law_nonces.proofs.server_nonces.Serving.{FrameSame, SameSealing, frame_same, sealer_same}
use Rattle.conn_core.specs.frame_events.Shared.{first_dealt}
use Rattle.serve_turns.specs.connection_turns.Frames.{Answers, AnswersAll, AreAsked, AreGiven}
use Rattle.serve_turns.specs.declared.event_book.turn.Answer.{Answer}
use Rattle.serve_turns.specs.declared.event_book.turn.Turn.{Turn}
use Rattle.serve_turns.specs.declared.shared_book.view.Entry.{Entry}
use Rattle.serve_turns.specs.event_book.History.{Course, Placed}
use Rattle.serve_command.proofs.nonces.Tables.{Mids, TablesAt, drawn_at, drawn_entry}
use Rattle.serve_command.proofs.nonces.Turns.{Along, DrawnHere, GoOn, all_out, go_back, go_front, past}

ended_apart : (why : world.ConnEnd) → Some why ≡ None → ⊥
ended_apart why e = absurd (cc)

module _ (z : ServerSettings) (h : Course) (log : List (Entry Turn Answer)) (mids : Mids z h log) (seat : ℕ)
    (grows : (n m : ℕ) (x : ℕ) → drawn_at z mids.at log n x ≤ drawn_at z mids.at log (n + m) x)
    (tables : (n : ℕ) (e : Entry Turn Answer) → slice_get log n ≡ Some e → TablesAt (mids.at n) (drawn_at z mids.at log n))
    (next_is : (n : ℕ) (e : Entry Turn Answer) → slice_get log n ≡ Some e
    → drawn_at z mids.at log (n + 1) ≡ drawn_entry z (mids.at n) (Some e) (drawn_at z mids.at log n)) where
  -- ---- what holds of the seals so far, of the connection's end and of the place behind its last turn

  pub record Sealed (us : List Seal) (f : ServerEnd) (place : ℕ) : Type 0 where
    pub ends : ℕ → Sealer
    pub is : ends 0 ≡ sealer_of true f
    pub numbered : NonceNumbered us ends (drawn_at z mids.at log place)
    pub from : SealsFrom (DrawnHere z h log mids seat) us
    pub end : EndFrom (DrawnHere z h log mids seat) f

  -- ---- a frame that was answered

  step_sealed : (us : List Seal) (f : ServerEnd) (place behind : ℕ) (sealed : Bool) (g : Going) (i : Sealed us f place)
      → Along z h log mids seat (drawn_at z mids.at log place) behind g.replies → (answered f sealed g).ends ≡ None
      → Sealed (us ++ (answered f sealed g).sealings) (answered f sealed g).server_end behind
  step_sealed us f place behind sealed g i a none =
      let S = answered f sealed g in
      let o = answered_from (DrawnHere z h log mids seat) f sealed g i.end a.from none in
      record {
        ends = put i.ends 0 (sealer_of true S.server_end);
        is = put_same i.ends 0 (sealer_of true S.server_end);
        numbered = answered_along f sealed g us i.ends 0 (drawn_at z mids.at log place) (drawn_at z mids.at log behind) i.is a.along i.numbered none;
        from = joined_from (DrawnHere z h log mids seat) us S.sealings i.from o.0;
        end = o.1;
      }

  same_end : (us : List Seal) (f g : ServerEnd) (place : ℕ) → SameSealing f g → Sealed us f place → Sealed us g place
  same_end us f g place same i = record {
    ends = i.ends;
    is = i.is ∙ sealer_same f g same;
    numbered = i.numbered;
    from = i.from;
    end = λ keys is. subst (λ (n : ℕ). DrawnHere z h log mids seat keys.session n) (sym same.1) (i.end keys (sym same.0 ∙ is));
  }

  -- the end that the definitions make of its messages
  by_stop : (us : List Seal) (f : ServerEnd) (place behind : ℕ) (sealed : Bool) (g : Going) (stopped : Option ℕ) → Sealed us f place
      → Along z h log mids seat (drawn_at z mids.at log place) behind g.replies → (dealt_step f sealed g stopped).ends ≡ None
      → Sealed (us ++ (dealt_step f sealed g stopped).sealings) (dealt_step f sealed g stopped).server_end behind
  by_stop us f place behind sealed g None i a none = step_sealed us f place behind sealed g i a none
  by_stop us f place behind sealed g (Some count) i a none = absurd (ended_apart (world.Stopped count) none)

  by_frame : (us : List Seal) (f : ServerEnd) (k now : ℕ) (fresh : List ℕ) (before : ℕ) (s : model.Server) (L : Logons)
      (given : List Given) (r : Result Frame world.ConnEnd) (turns : List Placed) (place : ℕ) → FrameSame f r → Sealed us f place
      → AreGiven h turns given → AreAsked z k now fresh before s L given r turns → GoOn z h log mids seat place turns
      → (given_of z k now fresh before s L f given r).step.ends ≡ None
      → Sealed (us ++ (given_of z k now fresh before s L f given r).step.sealings)
      (given_of z k now fresh before s L f given r).step.server_end (past z h log mids seat place turns)
  by_frame us f k now fresh before s L given (Err why) turns place same i are asked on none = absurd (ended_apart why none)
  by_frame us f k now fresh before s L given (Ok x) turns place same i are asked on none =
      let d = dealt_of z k now fresh before s L given x in
      let first : (n : ℕ) → drawn_at z mids.at log place n ≤ drawn_at z mids.at log place n = λ n. omega arith in
      let a = all_out z h log mids seat grows tables next_is k now fresh x.server_end (drawn_at z mids.at log place) x.messages
      (first_dealt s L x.server_end before given) turns place asked are on (record { along = first; from = tt }) in
      by_stop us x.server_end place (past z h log mids seat place turns) x.sealed d.going d.stopped (same_end us f x.server_end place same i) a none

  one_sealed : (us : List Seal) (k before : ℕ) (f : ServerEnd) (frame : List ℕ) (turns : List Placed) (bytes : List ℕ) (f' : ServerEnd)
      (before' : ℕ) (seals : List Seal) (place : ℕ) → Answers z h k f before frame turns bytes f' before' seals → Sealed us f place
      → GoOn z h log mids seat place turns → Sealed (us ++ seals) f' (past z h log mids seat place turns)
  one_sealed us k before f frame turns bytes f' before' seals place a i on =
      let t = a.takes in
      let G = given_of z k t.now t.fresh before t.server t.logons f t.given (check_frame f frame) in
      let ends : G.step.ends ≡ None = sym (ap (λ (g : GivenStep). g.step.ends) t.is) ∙ a.goes_on in
      let made = by_frame us f k t.now t.fresh before t.server t.logons t.given (check_frame f frame) turns place (frame_same f frame) i
      t.are t.asked on ends in
      let sealings : G.step.sealings ≡ seals = sym (ap (λ (g : GivenStep). g.step.sealings) t.is) ∙ sym a.seals_are in
      let end : G.step.server_end ≡ f' = sym (ap (λ (g : GivenStep). g.step.server_end) t.is) ∙ sym a.behind in
      subst (λ (e : ServerEnd). Sealed (us ++ seals) e (past z h log mids seat place turns)) end
      (subst (λ (vs : List Seal). Sealed (us ++ vs) G.step.server_end (past z h log mids seat place turns)) sealings made)

  -- ---- frames that were answered, one after the other

  past_both : (place : ℕ) (xs ys : List Placed)
      → past z h log mids seat place (xs ++ ys) ≡ past z h log mids seat (past z h log mids seat place xs) ys
  past_both place [] ys = refl
  past_both place (x ∷ xs) ys = past_both (x.0 + 1) xs ys

  pub all_sealed : (us : List Seal) (k : ℕ) (f : ServerEnd) (before : ℕ) (frames : List (List ℕ)) (turns : List Placed) (bytes : List ℕ)
      (f' : ServerEnd) (before' : ℕ) (seals : List Seal) (place : ℕ) → AnswersAll z h k f before frames turns bytes f' before' seals
      → Sealed us f place → GoOn z h log mids seat place turns → Sealed (us ++ seals) f' (past z h log mids seat place turns)
  unfolding AnswersAll
  all_sealed us k f before [] turns bytes f' before' seals place a i on =
      subst (λ (xs : List Placed). Sealed (us ++ seals) f' (past z h log mids seat place xs)) (sym a.0)
      (subst (λ (vs : List Seal). Sealed (us ++ vs) f' place) (sym a.4)
      (subst (λ (vs : List Seal). Sealed vs f' place) (sym (append-nil us))
      (subst (λ (e : ServerEnd). Sealed us e place) (sym a.2) i)))
  all_sealed us k f before (frame ∷ frames) turns bytes f' before' seals place a i on =
      let own = a.0 in
      let later = a.1 in
      let made = a.6 in
      let more = a.7 in
      let on_both : GoOn z h log mids seat place (own ++ later) = subst (λ (xs : List Placed). GoOn z h log mids seat place xs) a.10 on in
      let one = one_sealed us k before f frame own a.2 a.4 a.5 made place a.8 i (go_front z h log mids seat place own later on_both) in
      let rest = all_sealed (us ++ made) k a.4 a.5 frames later a.3 f' before' more (past z h log mids seat place own) a.9 one
      (go_back z h log mids seat place own later on_both) in
      let seals_are : (us ++ made) ++ more ≡ us ++ seals = append_assoc us made more ∙ ap (λ (vs : List Seal). us ++ vs) (sym a.12) in
      let places : past z h log mids seat (past z h log mids seat place own) later ≡ past z h log mids seat place turns =
      sym (past_both place own later) ∙ ap (λ (xs : List Placed). past z h log mids seat place xs) (sym a.10) in
      subst (λ (n : ℕ). Sealed (us ++ seals) f' n) places
      (subst (λ (vs : List Seal). Sealed vs f' (past z h log mids seat (past z h log mids seat place own) later)) seals_are rest)

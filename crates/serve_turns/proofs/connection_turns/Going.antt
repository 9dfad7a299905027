-- Frames of a connection that were answered, one run of them behind another, and how they end.
use Rattle.std.proofs.Common.{◌≡◌, ◌≤◌, ℕ, Bool, true, List, [], ◌∷◌, ◌++◌, Option, None, Some, inl, inr, refl, sym, ap, subst, ◌∙◌}
use Rattle.std.proofs.Common.{append_assoc, ◌⊎◌}
use Rattle.std.proofs.lemmas.List.{append-nil}
use Rattle.base_outside.specs.streams.Faults.{Rose}
use Rattle.spec_crypto.specs.sessions.Nonces.{last_counter}
use Rattle.spec_wire.specs.messages.Frames.{Frames, Waits, Whole, front}
use Rattle.spec_world.specs.Answering.{Seal}
use Rattle.spec_world.specs.Ends as world
use Rattle.spec_world.specs.Ends.{ServerEnd}
use Rattle.spec_world.specs.Settings.{ServerSettings}
use Rattle.conn_core.specs.Shown.{ShowsEnd}
use Rattle.conn_core.specs.declared.end.ConnEnd.{ConnEnd}
use Rattle.conn_core.specs.declared.end.ConnEnd.TheVariants as ends
use Rattle.conn_core.specs.reply_frames.Replying.{EndsAs}
use Rattle.serve_turns.specs.connection_turns.Frames.{Answers, AnswersAll, StopsFrame}
use Rattle.serve_turns.specs.connection_turns.Passing.{CannotRead, FramesGo, FramesStop, HasFailedReading, HasFailedWriting, StopsBy}
use Rattle.serve_turns.specs.declared.connection_turns.state.ConnectionState.{ConnectionState}
use Rattle.serve_turns.specs.event_book.History.{Course, Placed}
use Rattle.serve_turns.proofs.connection_turns.Chains.{answers_none, answers_on, answers_one, frames_on}

module _ (z : ServerSettings) (h : Course) (k : ℕ) where
  -- ---- an end behind further answers

  abbrev By : ServerEnd → ℕ → (rest wrote said : List ℕ) → List Placed → (faults faults' : ℕ) → Bool → Option ConnEnd → Type 0
  By = StopsBy z h k

  by_on : (f : ServerEnd) (before : ℕ) (rest x y said : List ℕ) (last : List Placed) (p q : ℕ) (ended : Bool) (why : Option ConnEnd)
      → By f before rest y said last p q ended why → By f before rest (x ++ y) (x ++ said) last p q ended why
  by_on f before rest x y said last p q ended None b = record {
    ends = b.ends;
    waits = b.waits;
    wrote_is = ap (λ l. x ++ l) b.wrote_is;
    none_more = b.none_more;
    calm = b.calm;
  }
  by_on f before rest x y said last p q ended (Some (ends.LinkFault count)) b = (
    b.0,
    record { rose = b.1.rose; none_more = b.1.none_more },
  )
  by_on f before rest x y said last p q ended (Some ends.Memory) b = record {
    here = b.here;
    wrote_is = ap (λ l. x ++ l) b.wrote_is;
    calm = b.calm;
  }
  by_on f before rest x y said last p q ended (Some ends.Full) b = record {
    frame = b.frame;
    later = b.later;
    here = b.here;
    ends = b.ends;
    wrote_is = ap (λ l. x ++ l) b.wrote_is;
    calm = b.calm;
  }
  by_on f before rest x y said last p q ended (Some ends.BadFrame) (inl b) = inl (record {
    refusal = b.refusal;
    breaks = b.breaks;
    wrote_is = ap (λ l. x ++ l) b.wrote_is;
    none_more = b.none_more;
    calm = b.calm;
  })
  by_on f before rest x y said last p q ended (Some ends.BadFrame) (inr b) = inr (record {
    frame = b.frame;
    later = b.later;
    here = b.here;
    ends = b.ends;
    wrote_is = ap (λ l. x ++ l) b.wrote_is;
    calm = b.calm;
  })
  by_on f before rest x y said last p q ended (Some (ends.OutsideWindow id)) b = record {
    frame = b.frame;
    later = b.later;
    here = b.here;
    ends = b.ends;
    wrote_is = ap (λ l. x ++ l) b.wrote_is;
    calm = b.calm;
  }
  by_on f before rest x y said last p q ended (Some ends.SecondNegotiate) b = record {
    frame = b.frame;
    later = b.later;
    here = b.here;
    ends = b.ends;
    wrote_is = ap (λ l. x ++ l) b.wrote_is;
    calm = b.calm;
  }
  by_on f before rest x y said last p q ended (Some ends.Unsealable) b = record {
    frame = b.frame;
    later = b.later;
    here = b.here;
    ends = b.ends;
    wrote_is = ap (λ l. x ++ l) b.wrote_is;
    calm = b.calm;
  }
  by_on f before rest x y said last p q ended (Some ends.Spent) b = record {
    frame = b.frame;
    later = b.later;
    here = b.here;
    ends = b.ends;
    wrote_is = ap (λ l. x ++ l) b.wrote_is;
    calm = b.calm;
  }
  by_on f before rest x y said last p q ended (Some (ends.Stopped count)) b = record {
    frame = b.frame;
    later = b.later;
    here = b.here;
    ends = b.ends;
    wrote_is = ap (λ l. x ++ l) b.wrote_is;
    calm = b.calm;
  }

  -- how the link failed, behind further answers
  abbrev Fails : ServerEnd → ℕ → List (List ℕ) → List Placed → (rest wrote said : List ℕ) → ServerEnd → ℕ → List Seal → Type 0
  Fails f before frames turns rest wrote said behind setups seals =
      HasFailedReading rest wrote said ⊎ HasFailedWriting z h k f before frames turns wrote said behind setups seals

  fails_on : (f g e : ServerEnd) (before between after : ℕ) (ms ns : List (List ℕ)) (xs ys : List Placed) (x y said rest : List ℕ)
      (made more : List Seal) → AnswersAll z h k f before ms xs x g between made → Fails g between ns ys rest y said e after more
      → Fails f before (ms ++ ns) (xs ++ ys) rest (x ++ y) (x ++ said) e after (made ++ more)
  fails_on f g e before between after ms ns xs ys x y said rest made more all (inl b) =
      inl (record { waits = b.waits; wrote_is = ap (λ (l : List ℕ). x ++ l) b.wrote_is })
  fails_on f g e before between after ms ns xs ys x y said rest made more all (inr b) = inr (record {
    early = ms ++ b.early;
    frame = b.frame;
    frames_are = ap (λ (l : List (List ℕ)). ms ++ l) b.frames_are ∙ sym (append_assoc ms b.early (b.frame ∷ []));
    turns_early = xs ++ b.turns_early;
    own = b.own;
    turns_are = ap (λ (l : List Placed). xs ++ l) b.turns_are ∙ sym (append_assoc xs b.turns_early b.own);
    whole = x ++ b.whole;
    part = b.part;
    lost = b.lost;
    wrote_is = ap (λ (l : List ℕ). x ++ l) b.wrote_is ∙ sym (append_assoc x b.whole b.part);
    said_is = ap (λ (l : List ℕ). x ++ l) b.said_is ∙ sym (append_assoc x b.whole (b.part ++ b.lost));
    middle = b.middle;
    between = b.between;
    made = made ++ b.made;
    more = b.more;
    seals_are = ap (λ (l : List Seal). made ++ l) b.seals_are ∙ sym (append_assoc made b.made b.more);
    answered = answers_on z h k f g b.middle before between b.between ms b.early xs b.turns_early x b.whole made b.made all b.answered;
    answer = b.answer;
  })

  -- ---- one run behind another

  pub goes_on : (f : ServerEnd) (before : ℕ) (xs ys : List Placed) (s a b r q x y : List ℕ) (v w : ConnectionState)
      (m : FramesGo z h k f before xs s a x r v) → FramesGo z h k m.behind v.setups ys r b y q w
      → FramesGo z h k f before (xs ++ ys) s (a ++ b) (x ++ y) q w
  goes_on f before xs ys s a b r q x y v w m n = record {
    frames = m.frames ++ n.frames;
    framed = frames_on s a b m.frames n.frames r q m.framed n.framed;
    behind = n.behind;
    seals = m.seals ++ n.seals;
    answers = answers_on z h k f m.behind n.behind before v.setups w.setups m.frames n.frames xs ys x y m.seals n.seals m.answers n.answers;
    shows = n.shows;
    bound = n.bound;
  }

  pub stops_on : (f : ServerEnd) (before : ℕ) (xs ys : List Placed) (s a b r x y : List ℕ) (v : ConnectionState) (p q : ℕ) (ended : Bool)
      (why : Option ConnEnd) (more : List Seal) (m : FramesGo z h k f before xs s a x r v)
      → FramesStop z h k m.behind v.setups ys r b y p q ended why more
      → FramesStop z h k f before (xs ++ ys) s (a ++ b) (x ++ y) p q ended why (m.seals ++ more)
  stops_on f before xs ys s a b r x y v p q ended why more m n = record {
    answered = xs ++ n.answered;
    last = n.last;
    turns_are = ap (λ (l : List Placed). xs ++ l) n.turns_are ∙ sym (append_assoc xs n.answered n.last);
    frames = m.frames ++ n.frames;
    rest = n.rest;
    framed = frames_on s a b m.frames n.frames r n.rest m.framed n.framed;
    said = x ++ n.said;
    behind = n.behind;
    setups = n.setups;
    answers = answers_on z h k f m.behind n.behind before v.setups n.setups m.frames n.frames xs n.answered x n.said m.seals more m.answers
        n.answers;
    stops = by_on n.behind n.setups n.rest x y n.said n.last p q ended why n.stops;
    failed = λ count e. fails_on f m.behind n.behind before v.setups n.setups m.frames n.frames xs n.answered x y n.said n.rest m.seals more
        m.answers (n.failed count e);
  }

  -- bytes came, and nothing was taken yet
  pub came_goes : (f : ServerEnd) (s a : List ℕ) (v : ConnectionState) → ShowsEnd k z.guid v.conn f → f.counter ≤ last_counter
      → FramesGo z h k f v.setups [] s a [] (s ++ a) v
  came_goes f s a v shows bound = record {
    frames = [];
    framed = refl;
    behind = f;
    seals = [];
    answers = answers_none z h k f v.setups;
    shows = shows;
    bound = bound;
  }

  -- a frame that was answered
  pub frame_goes : (f : ServerEnd) (before : ℕ) (xs : List Placed) (s r m bytes : List ℕ) (w : ConnectionState) (behind : ServerEnd)
      (seals : List Seal) → front s ≡ Whole m r → Answers z h k f before m xs bytes behind w.setups seals
      → ShowsEnd k z.guid w.conn behind → behind.counter ≤ last_counter → FramesGo z h k f before xs s [] bytes r w
  frame_goes f before xs s r m bytes w behind seals whole one shows bound = record {
    frames = m ∷ [];
    framed = (r, ap front (append-nil s) ∙ whole, refl);
    behind = behind;
    seals = seals;
    answers = answers_one z h k f behind before w.setups m xs bytes seals one;
    shows = shows;
    bound = bound;
  }

  -- ---- nothing was taken, and this is the end

  ends_here : (f : ServerEnd) (before : ℕ) (s a : List ℕ) (p q : ℕ) (ended : Bool) (why : Option ConnEnd)
      → By f before (s ++ a) [] [] [] p q ended why → ((count : ℕ) → why ≡ Some (ends.LinkFault count) → HasFailedReading (s ++ a) [] [])
      → FramesStop z h k f before [] s a [] p q ended why []
  ends_here f before s a p q ended why by failed = record {
    answered = [];
    last = [];
    turns_are = refl;
    frames = [];
    rest = s ++ a;
    framed = refl;
    said = [];
    behind = f;
    setups = before;
    answers = answers_none z h k f before;
    stops = by;
    failed = λ count e. inl (failed count e);
  }

  -- no fault of a link
  not_none : (count : ℕ) → (let none : Option ConnEnd = None in none) ≡ Some (ends.LinkFault count) → ⊥
  not_none count e = absurd (let q = e in cc)

  not_memory : (count : ℕ) → Some ends.Memory ≡ Some (ends.LinkFault count) → ⊥
  not_memory count e = absurd (let q = e in cc)

  not_bad : (count : ℕ) → Some ends.BadFrame ≡ Some (ends.LinkFault count) → ⊥
  not_bad count e = absurd (let q = e in cc)

  pub peer_closed : (f : ServerEnd) (before : ℕ) (s : List ℕ) (p q : ℕ) (ended : Bool) → front s ≡ Waits → ended ≡ true → q ≡ p
      → FramesStop z h k f before [] s [] [] p q ended None []
  peer_closed f before s p q ended waits end calm =
      ends_here f before s [] p q ended None (record {
        ends = end;
        waits = ap front (append-nil s) ∙ waits;
        wrote_is = refl;
        none_more = refl;
        calm = calm;
      }) (λ count e. absurd (not_none count e))

  pub link_failed : (f : ServerEnd) (before : ℕ) (s a : List ℕ) (p q : ℕ) (ended : Bool) (why : ConnEnd) → why ≡ ends.LinkFault q → Rose p q
      → front s ≡ Waits → a ≡ [] → FramesStop z h k f before [] s a [] p q ended (Some why) []
  link_failed f before s a p q ended why is rose waits none =
      subst (λ (e : ConnEnd). FramesStop z h k f before [] s a [] p q ended (Some e) []) (sym is)
      (ends_here f before s a p q ended (Some (ends.LinkFault q))
      (refl, record { rose = rose; none_more = refl })
      (λ count e. record { waits = ap (λ (l : List ℕ). front (s ++ l)) none ∙ (ap front (append-nil s) ∙ waits); wrote_is = refl }))

  pub lacked : (f : ServerEnd) (before : ℕ) (s a : List ℕ) (p q : ℕ) (ended : Bool) → q ≡ p
      → FramesStop z h k f before [] s a [] p q ended (Some ends.Memory) []
  lacked f before s a p q ended calm =
      ends_here f before s a p q ended (Some ends.Memory) (record { here = inl refl; wrote_is = refl; calm = calm })
      (λ count e. absurd (not_memory count e))

  pub not_read : (f : ServerEnd) (before : ℕ) (s a : List ℕ) (p q : ℕ) (ended : Bool) (why : ConnEnd) → CannotRead (s ++ a) why → q ≡ p
      → FramesStop z h k f before [] s a [] p q ended (Some why) []
  not_read f before s a p q ended why (inl (bad, (refusal, breaks))) calm =
      subst (λ (e : ConnEnd). FramesStop z h k f before [] s a [] p q ended (Some e) []) (sym bad)
      (ends_here f before s a p q ended (Some ends.BadFrame) (inl (record {
        refusal = refusal;
        breaks = breaks;
        wrote_is = refl;
        none_more = refl;
        calm = calm;
      })) (λ count e. absurd (not_bad count e)))
  not_read f before s a p q ended why (inr memory) calm =
      subst (λ (e : ConnEnd). FramesStop z h k f before [] s a [] p q ended (Some e) []) (sym memory) (lacked f before s a p q ended calm)

  -- ---- a frame whose answer was not written whole

  pub frame_lost : (f : ServerEnd) (before : ℕ) (xs : List Placed) (s r m wrote lost : List ℕ) (w : ConnectionState) (behind : ServerEnd)
      (seals : List Seal) (p q : ℕ) (ended : Bool) (why : ConnEnd) → front s ≡ Whole m r
      → Answers z h k f before m xs (wrote ++ lost) behind w.setups seals → why ≡ ends.LinkFault q → Rose p q
      → FramesStop z h k f before xs s [] wrote p q ended (Some why) seals
  frame_lost f before xs s r m wrote lost w behind seals p q ended why whole one is rose =
      subst (λ (e : ConnEnd). FramesStop z h k f before xs s [] wrote p q ended (Some e) seals) (sym is) (record {
        answered = xs;
        last = [];
        turns_are = sym (append-nil xs);
        frames = m ∷ [];
        rest = r;
        framed = (r, ap front (append-nil s) ∙ whole, refl);
        said = wrote ++ lost;
        behind = behind;
        setups = w.setups;
        answers = answers_one z h k f behind before w.setups m xs (wrote ++ lost) seals one;
        stops = (refl, record { rose = rose; none_more = refl });
        failed = λ count e. inr (record {
          early = [];
          frame = m;
          frames_are = refl;
          turns_early = [];
          own = xs;
          turns_are = refl;
          whole = [];
          part = wrote;
          lost = lost;
          wrote_is = refl;
          said_is = refl;
          middle = f;
          between = before;
          made = [];
          more = seals;
          seals_are = refl;
          answered = answers_none z h k f before;
          answer = one;
        });
      })

  -- ---- a frame that was not answered

  pub frame_ends : (f : ServerEnd) (before : ℕ) (xs : List Placed) (s r m : List ℕ) (p : ℕ) (ended : Bool) (why : ConnEnd)
      → front s ≡ Whole m r → StopsFrame z h k f before m xs why → FramesStop z h k f before xs s [] [] p p ended (Some why) []
  frame_ends f before xs s r m p ended why whole stops = record {
    answered = [];
    last = xs;
    turns_are = refl;
    frames = [];
    rest = s ++ [];
    framed = refl;
    said = [];
    behind = f;
    setups = before;
    answers = answers_none z h k f before;
    stops = by why stops;
    failed = λ count e. absurd (not_failed count e);
  }
    where
      here : Frames (s ++ []) (m ∷ []) r
      here = (r, ap front (append-nil s) ∙ whole, refl)

      -- no frame ends its connection so
      no_fault : (count : ℕ) (o : Option world.ConnEnd) → EndsAs (ends.LinkFault count) o → ⊥
      no_fault count None is = is
      no_fault count (Some e) is = is

      not_failed : (count : ℕ) → Some why ≡ Some (ends.LinkFault count) → ⊥
      not_failed count e =
          let is : why ≡ ends.LinkFault count = (let q = e in cc) in
          let b : StopsFrame z h k f before m xs (ends.LinkFault count) =
          subst (λ (x : ConnEnd). StopsFrame z h k f before m xs x) is stops in
          no_fault count b.step.step.ends b.cause

      by : (e : ConnEnd) → StopsFrame z h k f before m xs e → By f before (s ++ []) [] [] xs p p ended (Some e)
      by ends.Memory b = record { here = inr (m, r, here, b); wrote_is = refl; calm = refl }
      by (ends.LinkFault count) b = absurd (no_fault count b.step.step.ends b.cause)
      by ends.Full b = record { frame = m; later = r; here = here; ends = b; wrote_is = refl; calm = refl }
      by ends.BadFrame b = inr (record { frame = m; later = r; here = here; ends = b; wrote_is = refl; calm = refl })
      by (ends.OutsideWindow id) b = record { frame = m; later = r; here = here; ends = b; wrote_is = refl; calm = refl }
      by ends.SecondNegotiate b = record { frame = m; later = r; here = here; ends = b; wrote_is = refl; calm = refl }
      by ends.Unsealable b = record { frame = m; later = r; here = here; ends = b; wrote_is = refl; calm = refl }
      by ends.Spent b = record { frame = m; later = r; here = here; ends = b; wrote_is = refl; calm = refl }
      by (ends.Stopped count) b = record { frame = m; later = r; here = here; ends = b; wrote_is = refl; calm = refl }

-- One frame of a connection: what was checked of it, the turns of its messages, and its answer, as one step of what was given.
use Rattle.std.proofs.Common.{◌≡◌, ◌≤◌, ℕ, Bool, true, false, not, ◌&&◌, List, [], ◌∷◌, length, take, Option, Some, None, Result, Ok, Err}
use Rattle.std.proofs.Common.{Vec, Global, inl, inr, refl, sym, ap, subst, ◌∙◌, append-nil, arith}
use Rattle.std.specs.Prelude.{is_some}
use Rattle.spec_exchange.specs.State as model
use Rattle.spec_exchange.specs.Fold.{nothing_yet}
use Rattle.spec_exchange.specs.Table.{is_filled}
use Rattle.spec_crypto.specs.sessions.Nonces.{last_counter}
use Rattle.spec_wire.specs.credits.Window.{HeldIds}
use Rattle.spec_world.specs.Answering as answering
use Rattle.spec_world.specs.Ends as world
use Rattle.spec_world.specs.Ends.{Logons, ServerEnd, no_logons}
use Rattle.spec_world.specs.Given as gives
use Rattle.spec_world.specs.Given.{GivenStep, dealt_step, given_of}
use Rattle.spec_world.specs.Hearing as hearing
use Rattle.spec_world.specs.Hearing.{Frame, FrameText, check_frame, checked_text}
use Rattle.spec_world.specs.Settings.{ServerSettings}
use Rattle.conn_core.specs.Shown.{MaySeal, ShowsEnd}
use Rattle.conn_core.specs.declared.conn.Conn.{Conn}
use Rattle.conn_core.specs.declared.end.ConnEnd.{ConnEnd}
use Rattle.conn_core.specs.declared.end.ConnEnd.TheVariants as ends
use Rattle.conn_core.specs.declared.frame_messages.checked.CheckedFrame.{CheckedFrame}
use Rattle.conn_core.specs.frame_messages.Checking.{CheckGoesOn, EndsAll, GreetsFirst, ShowsFrame}
use Rattle.conn_core.specs.declared.frame_events.handing.Dealt.{Dealt}
use Rattle.conn_core.specs.frame_events.Dealing.{Alone, GoesThrough}
use Rattle.conn_core.specs.frame_events.Shared.{asked_all, first_dealt}
use Rattle.conn_core.specs.message_replies.Replying.{AreAsked}
use Rattle.conn_core.specs.reply_frames.Replying.{AreAnswers, EndsAs, WalkGoes, WalkReplies, walk_replied}
use Rattle.conn_core.proofs.Asked.{alone_by, kept_by}
use Rattle.conn_core.proofs.Composed.{alike_due, answers_of, ends_alike, goes_alike}
use Rattle.conn_core.proofs.frame_events.Ending.{take_past}
use Rattle.conn_core.proofs.frame_events.Sharing.{alone}
use Rattle.serve_turns.specs.connection_turns.Frames.{AreAsked as AskedBy, AreAtOnce, AreFor, EndsFrame, FindsFirst, LacksFrame}
use Rattle.serve_turns.specs.connection_turns.Frames.{StopsFrame, TakesFrame}
use Rattle.serve_turns.specs.connection_turns.Messages.{DealtBy, MessagesEnd, MessagesLack}
use Rattle.serve_turns.specs.connection_turns.Passing.{FrameComes}
use Rattle.serve_turns.specs.declared.connection_turns.state.ConnectionState.{ConnectionState}
use Rattle.serve_turns.specs.event_book.History.{Course, Off, On, Placed, Stand, Standing}

-- ---- what the first of some turns found

pub record FirstFound (h : Course) (turns : List Placed) : Type 0 where
  pub stand : Stand
  pub is : FindsFirst h turns stand.server stand.logons

abbrev nothing_found : Stand
nothing_found = record { server = nothing_yet; logons = no_logons; records = [] }

on_same : (a b : Stand) → On a ≡ On b → (b.server ≡ a.server) × (b.logons ≡ a.logons)
on_same a b e =
    let same : b ≡ a = cc in (ap (λ (s : Stand). s.server) same, ap (λ (s : Stand). s.logons) same)

off_on : (count : ℕ) (b : Stand) → Off count ≡ On b → ⊥
off_on count b e = absurd (cc)

found_at : (h : Course) (x : Placed) (xs : List Placed) (s : Standing) → h.found x.0 ≡ s → FirstFound h (x ∷ xs)
found_at h x xs (On st) is = record { stand = st; is = λ b e. on_same st b (sym is ∙ e) }
found_at h x xs (Off count) is = record { stand = nothing_found; is = λ b e. absurd (off_on count b (sym is ∙ e)) }

pub first_found : (h : Course) (turns : List Placed) → FirstFound h turns
first_found h [] = record { stand = nothing_found; is = tt }
first_found h (x ∷ xs) = found_at h x xs (h.found x.0) refl

-- what these messages left, as a step
abbrev given_frame : Frame → gives.Dealt → GivenStep
given_frame F d = record {
  step = dealt_step F.server_end F.sealed d.going d.stopped;
  lacked = d.lacked;
  setups = d.setups;
  matches = not d.missing && not (is_filled d.left);
}

matching : (missing : Bool) (xs : List gives.Given) → missing ≡ false → xs ≡ [] → (not missing && not (is_filled xs)) ≡ true
unfolding is_filled
matching missing xs e f = ap (λ (b : Bool). not b && not (is_filled xs)) e ∙ ap (λ (l : List gives.Given). not (is_filled l)) f

module _ (z : ServerSettings) (h : Course) (k : ℕ) (f : ServerEnd) (before : ℕ) (frame : List ℕ) (turns : List Placed) where
  -- ---- a frame that was checked

  module _ (F : Frame) (heard : check_frame f frame ≡ Ok F) (now : ℕ) (fresh : List ℕ) (server : model.Server) (logons : Logons)
      (at_once : AreAtOnce now fresh turns) (first : FindsFirst h turns server logons) where
    took : (d : gives.Dealt) → DealtBy z h k now fresh server logons F.server_end before F.messages turns d
        → TakesFrame z h k f before frame turns (given_frame F d)
    took d by = record {
      now = now;
      fresh = fresh;
      server = server;
      logons = logons;
      at_once = at_once;
      first = first;
      given = by.given;
      are = by.are;
      is = ap (λ (v : gives.Dealt). given_frame F v) by.is
          ∙ ap (λ (r : Result Frame world.ConnEnd). given_of z k now fresh before server logons f by.given r) (sym heard);
      matches = matching d.missing d.left by.none_missing by.none_left;
      asked = subst (λ (r : Result Frame world.ConnEnd). AskedBy z k now fresh before server logons by.given r turns) (sym heard)
          by.asked;
    }

    -- the server stopped
    stopped : (d : gives.Dealt) (count : ℕ) → DealtBy z h k now fresh server logons F.server_end before F.messages turns d
        → d.stopped ≡ Some count
        → EndsFrame z h k f before frame turns (ends.Stopped count)
    stopped d count by is = record {
      step = given_frame F d;
      takes = took d by;
      cause = subst (λ (o : Option ℕ). EndsAs (ends.Stopped count) (dealt_step F.server_end F.sealed d.going o).ends) (sym is) refl;
    }

    -- memory ran out between its messages
    lacked : MessagesLack z h k now fresh server logons F.server_end before F.messages turns → LacksFrame z h k f before frame turns
    lacked lack = record {
      now = now;
      fresh = fresh;
      server = server;
      logons = logons;
      at_once = at_once;
      first = first;
      given = lack.given;
      answered = lack.answered;
      lost = lack.lost;
      turns_are = lack.turns_are;
      one = lack.one;
      are = lack.are;
      asked = inr (F, lack.count, heard, lack.asked);
    }

    -- or behind the last
    lacked_last : (d : gives.Dealt) → DealtBy z h k now fresh server logons F.server_end before F.messages turns d
        → LacksFrame z h k f before frame turns
    lacked_last d by =
        let all : take (length F.messages) F.messages ≡ F.messages = take_past F.messages (length F.messages) (omega arith) in
        record {
          now = now;
          fresh = fresh;
          server = server;
          logons = logons;
          at_once = at_once;
          first = first;
          given = by.given;
          answered = turns;
          lost = [];
          turns_are = sym (append-nil turns);
          one = omega arith;
          are = by.are;
          asked = inr (
            F,
            length F.messages,
            heard,
            subst (λ (l : List hearing.Checked). AreFor k F.server_end (asked_all z k now fresh F.server_end
                (first_dealt server logons F.server_end before by.given) l) turns) (sym all) by.asked,
          );
        }

    -- ---- its answer

    -- what the messages left is a step of the answer's frames
    walked : (d : gives.Dealt) (sealed : Bool) (new : Conn) (bytes : List ℕ) → d.stopped ≡ None → F.sealed ≡ sealed
        → WalkGoes k z.guid (walk_replied d.going.server d.going.logons F.server_end sealed d.going.window d.going.replies) bytes new
        → WalkGoes k z.guid (given_frame F d).step bytes new
    walked d sealed new bytes goes is w =
        goes_alike k z.guid (walk_replied d.going.server d.going.logons F.server_end sealed d.going.window d.going.replies)
        (given_frame F d).step bytes new (alike_due F (alone d) sealed goes is) w

    unsaid : (d : gives.Dealt) (sealed : Bool) (why : ConnEnd) → DealtBy z h k now fresh server logons F.server_end before F.messages
        turns d
        → d.stopped ≡ None → F.sealed ≡ sealed
        → EndsAs why (walk_replied d.going.server d.going.logons F.server_end sealed d.going.window d.going.replies).ends
        → EndsFrame z h k f before frame turns why
    unsaid d sealed why by goes is cause = record {
      step = given_frame F d;
      takes = took d by;
      cause = ends_alike (walk_replied d.going.server d.going.logons F.server_end sealed d.going.window d.going.replies)
          (given_frame F d).step why (alike_due F (alone d) sealed goes is) cause;
    }

    said : (d : gives.Dealt) (sealed : Bool) (new : ConnectionState) (result : Result (Vec ℕ Global) ConnEnd)
        → DealtBy z h k now fresh server logons F.server_end before F.messages turns d → new.setups ≡ d.setups → d.stopped ≡ None
        → F.sealed ≡ sealed
        → WalkReplies k z.guid (walk_replied d.going.server d.going.logons F.server_end sealed d.going.window d.going.replies) new.conn result
        → FrameComes z h k f before frame turns result new
    said d sealed new (Ok v) by count goes is w =
        let on = walked d sealed new.conn v.items goes is w in (
          (given_frame F d).step.server_end,
          (given_frame F d).step.sealings,
          record {
            step = given_frame F d;
            takes = took d by;
            goes_on = on.goes_on;
            bytes_are = on.frames;
            behind = refl;
            setups = count;
            seals_are = refl;
          },
          on.behind,
          on.bound,
        )
    said d sealed new (Err ends.Memory) by count goes is w = lacked_last d by
    said d sealed new (Err ends.BadFrame) by count goes is w = unsaid d sealed ends.BadFrame by goes is w
    said d sealed new (Err (ends.OutsideWindow id)) by count goes is w = unsaid d sealed (ends.OutsideWindow id) by goes is w
    said d sealed new (Err ends.SecondNegotiate) by count goes is w = unsaid d sealed ends.SecondNegotiate by goes is w
    said d sealed new (Err ends.Unsealable) by count goes is w = unsaid d sealed ends.Unsealable by goes is w
    said d sealed new (Err ends.Spent) by count goes is w = unsaid d sealed ends.Spent by goes is w
    said d sealed new (Err ends.Full) by count goes is w = unsaid d sealed ends.Full by goes is w
    said d sealed new (Err (ends.LinkFault at)) by count goes is w = unsaid d sealed (ends.LinkFault at) by goes is w
    said d sealed new (Err (ends.Stopped at)) by count goes is w = unsaid d sealed (ends.Stopped at) by goes is w

    -- its messages were not all answered
    stops_so : (old new : ConnectionState) (x : CheckedFrame) (e : Dealt) (why : ConnEnd) → old.setups ≡ before
        → MessagesEnd z h k now fresh server logons F.server_end old F.messages turns new x e (Err why)
        → StopsFrame z h k f before frame turns why
    stops_so old new x e ends.Memory same end =
        lacked (subst (λ (n : ℕ). MessagesLack z h k now fresh server logons F.server_end n F.messages turns) same end)
    stops_so old new x e (ends.Stopped count) same (d, by, is) =
        stopped d count (subst (λ (n : ℕ). DealtBy z h k now fresh server logons F.server_end n F.messages turns d) same by) is
    stops_so old new x e ends.BadFrame same end = absurd end
    stops_so old new x e (ends.OutsideWindow id) same end = absurd end
    stops_so old new x e ends.SecondNegotiate same end = absurd end
    stops_so old new x e ends.Unsealable same end = absurd end
    stops_so old new x e ends.Spent same end = absurd end
    stops_so old new x e ends.Full same end = absurd end
    stops_so old new x e (ends.LinkFault count) same end = absurd end

    pub frame_stops : (j : ℕ) (old new : ConnectionState) (x : CheckedFrame) (e : Dealt) (why : ConnEnd) → j ≡ k → old.setups ≡ before
        → MessagesEnd z h j now fresh server logons F.server_end old F.messages turns new x e (Err why)
        → StopsFrame z h k f before frame turns why
    frame_stops j old new x e why number same end =
        stops_so old new x e why same
        (subst (λ (i : ℕ). MessagesEnd z h i now fresh server logons F.server_end old F.messages turns new x e (Err why)) number end)

    -- they were, and here is what came of the answer
    pub frame_comes : (j : ℕ) (old mid new : ConnectionState) (at x : CheckedFrame) (e : Dealt)
        (result : Result (Vec ℕ Global) ConnEnd) → j ≡ k → old.setups ≡ before → new.setups ≡ mid.setups → F.sealed ≡ at.sealed
        → (x.sealed ≡ at.sealed) × (x.moment ≡ at.moment) → at.moment ≡ now → (at.sealed ≡ true → MaySeal F.server_end.keys) → GreetsFirst F.messages
        → AreAsked F.server_end.asked F.messages → F.server_end.counter ≤ last_counter → ShowsEnd k z.guid mid.conn F.server_end
        → MessagesEnd z h j now fresh server logons F.server_end old F.messages turns mid x e (Ok tt)
        → ((s : model.Server) (L : Logons) (cs : List hearing.Checked) (ss : List answering.SaidReply) (w : HeldIds)
        → ShowsEnd mid.conn.id z.guid mid.conn F.server_end → AreAnswers z F.server_end cs ss w x e.replies.items.items
        → WalkReplies mid.conn.id z.guid (walk_replied s L F.server_end x.sealed w ss) new.conn result)
        → FrameComes z h k f before frame turns result new
    frame_comes j old mid new at x e result number same stays is kept time seals greets asked bound shows end answers =
        let all : MessagesEnd z h k now fresh server logons F.server_end old F.messages turns mid x e (Ok tt) =
        subst (λ (i : ℕ). MessagesEnd z h i now fresh server logons F.server_end old F.messages turns mid x e (Ok tt)) number end in
        let d = all.0 in
        let went = all.3 in
        let on : GoesThrough z now F.server_end F.messages x e (alone d) = record {
          taken = went.taken;
          shows = went.shows;
          commands = went.commands;
          fails = went.fails;
          said = went.said;
        } in
        let mine : ShowsEnd mid.conn.id z.guid mid.conn F.server_end =
        subst (λ (i : ℕ). ShowsEnd i z.guid mid.conn F.server_end) (sym shows.number) shows in
        said d x.sealed new result (subst (λ (n : ℕ). DealtBy z h k now fresh server logons F.server_end n F.messages turns d) same
        all.1) (stays ∙ all.2)
        went.goes (is ∙ sym kept.0)
        (subst (λ (i : ℕ). WalkReplies i z.guid (walk_replied d.going.server d.going.logons F.server_end x.sealed d.going.window
        d.going.replies) new.conn result) shows.number
        (answers d.going.server d.going.logons went.taken d.going.replies d.going.window mine
        (answers_of z now F x at e (alone d) on kept.0 kept.1 time seals greets asked bound)))

-- ---- a frame that can't be checked; no turn was taken

pub frame_lacks : (z : ServerSettings) (h : Course) (k : ℕ) (f : ServerEnd) (before : ℕ) (frame : List ℕ)
    → LacksFrame z h k f before frame []
frame_lacks z h k f before frame = record {
  now = 0;
  fresh = [];
  server = nothing_yet;
  logons = no_logons;
  at_once = tt;
  first = tt;
  given = [];
  answered = [];
  lost = [];
  turns_are = refl;
  one = omega arith;
  are = tt;
  asked = inl refl;
}

frame_ends : (z : ServerSettings) (h : Course) (k : ℕ) (f : ServerEnd) (before : ℕ) (frame : List ℕ) (cause : world.ConnEnd) (why : ConnEnd)
    → check_frame f frame ≡ Err cause → EndsAs why (Some cause) → EndsFrame z h k f before frame [] why
unfolding is_filled
frame_ends z h k f before frame cause why heard is = record {
  step = given_of z k 0 [] before nothing_yet no_logons f [] (Err cause);
  takes = record {
    now = 0;
    fresh = [];
    server = nothing_yet;
    logons = no_logons;
    at_once = tt;
    first = tt;
    given = [];
    are = tt;
    is = ap (λ (r : Result Frame world.ConnEnd). given_of z k 0 [] before nothing_yet no_logons f [] r) (sym heard);
    matches = refl;
    asked = subst (λ (r : Result Frame world.ConnEnd). AskedBy z k 0 [] before nothing_yet no_logons [] r []) (sym heard) refl;
  };
  cause = is;
}

fails_by : (z : ServerSettings) (h : Course) (k : ℕ) (f : ServerEnd) (before : ℕ) (frame : List ℕ) (heard : Result Frame world.ConnEnd)
    (why : ConnEnd) → check_frame f frame ≡ heard → EndsAll heard why → StopsFrame z h k f before frame [] why
fails_by z h k f before frame heard ends.Memory is e = frame_lacks z h k f before frame
fails_by z h k f before frame (Err cause) ends.BadFrame is e = frame_ends z h k f before frame cause ends.BadFrame is e
fails_by z h k f before frame (Err cause) (ends.OutsideWindow id) is e =
    frame_ends z h k f before frame cause (ends.OutsideWindow id) is e
fails_by z h k f before frame (Err cause) ends.SecondNegotiate is e = frame_ends z h k f before frame cause ends.SecondNegotiate is e
fails_by z h k f before frame (Err cause) ends.Unsealable is e = frame_ends z h k f before frame cause ends.Unsealable is e
fails_by z h k f before frame (Err cause) ends.Spent is e = frame_ends z h k f before frame cause ends.Spent is e
fails_by z h k f before frame (Err cause) ends.Full is e = frame_ends z h k f before frame cause ends.Full is e
fails_by z h k f before frame (Err cause) (ends.Stopped count) is e = frame_ends z h k f before frame cause (ends.Stopped count) is e
fails_by z h k f before frame (Err cause) (ends.LinkFault count) is e = absurd e
fails_by z h k f before frame (Ok F) ends.BadFrame is e = absurd e
fails_by z h k f before frame (Ok F) (ends.OutsideWindow id) is e = absurd e
fails_by z h k f before frame (Ok F) ends.SecondNegotiate is e = absurd e
fails_by z h k f before frame (Ok F) ends.Unsealable is e = absurd e
fails_by z h k f before frame (Ok F) ends.Spent is e = absurd e
fails_by z h k f before frame (Ok F) ends.Full is e = absurd e
fails_by z h k f before frame (Ok F) (ends.Stopped count) is e = absurd e
fails_by z h k f before frame (Ok F) (ends.LinkFault count) is e = absurd e

pub frame_fails : (z : ServerSettings) (h : Course) (k : ℕ) (f : ServerEnd) (before : ℕ) (frame : List ℕ) (why : ConnEnd)
    → EndsAll (check_frame f frame) why → StopsFrame z h k f before frame [] why
frame_fails z h k f before frame why e = fails_by z h k f before frame (check_frame f frame) why refl e

-- ---- what was checked, as the rest of the frame takes it

pub record IsChecked (z : ServerSettings) (k now : ℕ) (f : ServerEnd) (frame : List ℕ) (conn : Conn) (x : CheckedFrame) : Type 0 where
  pub F : Frame
  pub heard : check_frame f frame ≡ Ok F
  pub shows : ShowsEnd k z.guid conn F.server_end
  pub frames : ShowsFrame x F
  pub time : x.moment ≡ now
  pub seals : x.sealed ≡ true → MaySeal F.server_end.keys
  pub greets : GreetsFirst F.messages
  pub alone : Alone F.messages
  pub asked : AreAsked F.server_end.asked F.messages
  pub bound : F.server_end.counter ≤ last_counter

checked_by : (z : ServerSettings) (k now : ℕ) (f : ServerEnd) (frame : List ℕ) (text : Result FrameText world.ConnEnd)
    (heard : Result Frame world.ConnEnd) (conn : Conn) (x : CheckedFrame) → check_frame f frame ≡ heard → checked_text f text ≡ heard
    → (is_some f.greeting ≡ true → f.asked ≡ true) → f.counter ≤ last_counter → CheckGoesOn k z.guid heard now conn x
    → IsChecked z k now f frame conn x
checked_by z k now f frame text (Ok F) conn x is e met bound g =
    let kept = kept_by f text F e in
    record {
      F = F;
      heard = is;
      shows = g.0;
      frames = g.1;
      time = g.2;
      seals = g.3;
      greets = g.4;
      alone = alone_by f text F met e;
      asked = kept.asked;
      bound = subst (λ (n : ℕ). n ≤ last_counter) (sym kept.counter) bound;
    }
checked_by z k now f frame text (Err why) conn x is e met bound g = absurd g

pub checked_so : (z : ServerSettings) (k now : ℕ) (f : ServerEnd) (frame : List ℕ) (conn : Conn) (x : CheckedFrame)
    → (is_some f.greeting ≡ true → f.asked ≡ true) → f.counter ≤ last_counter → CheckGoesOn k z.guid (check_frame f frame) now conn x
    → IsChecked z k now f frame conn x
checked_so z k now f frame conn x met bound g =
    checked_by z k now f frame (hearing.text_of f.keys frame) (check_frame f frame) conn x refl refl met bound g

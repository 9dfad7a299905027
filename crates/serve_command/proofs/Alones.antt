-- A frame whose events stand in a row in a history: each is given what the step gives at the state that the one before it left.
use Rattle.std.proofs.Common.{◌≡◌, ℕ, ◌+◌, ◌==◌, ◌≤◌, nat_le, Bool, true, false, not, ◌&&◌, if◌then◌else◌, List, [], ◌∷◌, ◌++◌}
use Rattle.std.proofs.Common.{length, Option, Some, None, Result, Ok, Err, refl, sym, ap, subst, ◌∙◌, arith}
use Rattle.std.specs.Prelude.{is_some, option_map, ⊤, ◌⊎◌}
use Rattle.std.proofs.Common.{inl, inr, suc}
use Rattle.std.proofs.lemmas.Bool.Decides.{nat_tests}
use Rattle.spec_exchange.specs.Commands.{Command, Aside, Setup}
use Rattle.spec_exchange.specs.Network.{answer_to}
use Rattle.spec_exchange.specs.State as model
use Rattle.spec_exchange.specs.Status.{insufficient_resources}
use Rattle.spec_wire.specs.declared.messages.header.Header.{Header}
use Rattle.spec_commands.specs.CommandOf as commands
use Rattle.spec_commands.specs.CommandOf.{command_of, heard_as, message_of, named_command}
use Rattle.spec_exchange.specs.Table.{is_filled}
use Rattle.spec_world.specs.Connection.{ConnectionStep, Going, answered, answered_with, ended_by, heard_message, misplaced, misplaced_command}
use Rattle.spec_world.specs.Connection.{placed, told_of, went_heard}
use Rattle.spec_world.specs.Lacking.{IsAsBefore}
use Rattle.spec_world.specs.Ends as world
use Rattle.spec_world.specs.Ends.{ServerEnd, Logons}
use Rattle.spec_world.specs.Given.{Dealt, Given, GivenStep, Answered, NoMemory, Stops, dealt_by, dealt_heard, dealt_next, dealt_turn, given_of}
use Rattle.spec_world.specs.Given.{dealt_step, has_event, is_past_setups, went_answered, went_refused}
use Rattle.spec_world.specs.Hearing.{Checked, Frame, is_misplaced, is_setup}
use Rattle.spec_world.specs.Logon.{Progress, Stays, logons_behind, progress}
use Rattle.spec_world.specs.Mishaps.{Mishap, Lacks, Halts, Owned, own_given, owned_aside, owned_heard, owned_next, owned_of, owned_turn, owning}
use Rattle.spec_world.specs.Mishaps.{AreLeft, LeaveAll, LeavesHeard, LeavesIt, LeavesNext, LeavesTurn, owned_all}
use Rattle.spec_world.specs.Related.{Turn, Fails, Goes, turn_of}
use Rattle.spec_world.specs.Settings.{ServerSettings}
use Rattle.law_ties.specs.lone_server.Single.{SingleEvents, given_heard, given_next, given_turn, single_givens, singles}
use Rattle.conn_core.specs.declared.frame_messages.checked.Checked as code
use Rattle.conn_core.specs.frame_messages.Checking.{message_in}
use Rattle.conn_core.specs.declared.served.error.ServeError.TheVariants as errors
use Rattle.conn_core.specs.frame_events.Dealing.{EventAnswer}
use Rattle.conn_core.specs.frame_events.Shared.{asked_all, asked_in, asks_it, first_dealt}
use Rattle.conn_core.specs.frame_events.Telling.{ToldIf}
use Rattle.conn_core.specs.requests.Telling.{told_logons, told_message}
use Rattle.conn_core.proofs.requests.Asked.{greeting_told, told_behind, told_is}
use Rattle.conn_core.proofs.requests.Plain.{is_setup_command, other_number}
use Rattle.serve_turns.specs.connection_turns.Frames.{AreAsked, AreAtOnce, AreFor, AreGiven, FindsFirst, HasBytes, IsFor, IsTurnFor}
use Rattle.serve_turns.specs.declared.event_book.turn.Answer.{Answer}
use Rattle.serve_turns.specs.declared.event_book.turn.Asks.{Asks}
use Rattle.serve_turns.specs.declared.event_book.turn.What.{What}
use Rattle.serve_turns.specs.declared.event_book.turn.What.TheVariants.{Accept, Message, End}
use Rattle.serve_turns.specs.event_book.History.{Course, GivenIf, MeetsFrom, On, Off, Placed, Stand, Standing}
use Rattle.serve_turns.specs.event_book.History.{StandsAt}
use Rattle.conn_core.specs.served.Serving.{LeftBy}
use Rattle.serve_command.specs.Alone.{AllAsFound, AloneFrames, FindsBehind, InARow}

some_same : {X : Type 0} (a b : X) → Some a ≡ Some b → a ≡ b
some_same a b e = cc

none_some : {X : Type 0} (a : X) → None ≡ Some a → ⊥
none_some a e = absurd (cc)

-- where no memory was found the server is as before, or behind one expiry alone
as_before : (s : model.Server) (now : ℕ) (e : model.ServerEvent) (t : model.Server) (more : List model.Record) → LeftBy s now e t more
    → IsAsBefore s now e t
as_before s now e t more (inl x) = inl x.0
as_before s now e t more (inr x) = inr (x.0, x.1)

-- an event leaves whether nothing was given for one
missing_by : (z : ServerSettings) (k : ℕ) (f : ServerEnd) (d : Dealt) (c : Checked) (g : Given) → (dealt_by z k f d c g).missing ≡ d.missing
missing_by z k f d c (Answered moment fresh L A) = refl
missing_by z k f d c (NoMemory s) = refl
missing_by z k f d c (Stops count) = refl

-- ---- turns in a row, of one moment and with the same random bytes

abbrev Row : ℕ → List ℕ → ℕ → List Placed → Type 0
Row now fresh place [] = ⊤
Row now fresh place (x ∷ xs) = (x.0 ≡ place) × (x.1.event.now ≡ now) × HasBytes fresh x.1.event.what × Row now fresh (place + 1) xs

row_of : (now : ℕ) (fresh : List ℕ) (place : ℕ) (turns : List Placed) → InARow place turns → AreAtOnce now fresh turns
    → Row now fresh place turns
row_of now fresh place [] row once = tt
row_of now fresh place (x ∷ xs) row once = (row.0, once.0, once.1, row_of now fresh (place + 1) xs row.1 once.2)

-- ---- a message that is no SESSION_SETUP draws no number and changes no logon

stays_by : (c : Command) (r : model.Reply) → is_setup_command c ≡ false → progress c r ≡ Stays
stays_by (Setup q) r e = absurd (let h : true ≡ false = e in cc)
stays_by c r e = refl

misplaced_kind : (fault : Option ℕ) (c : Command) → is_setup_command (misplaced_command fault c) ≡ is_setup_command c
misplaced_kind (Some fault) c = refl
misplaced_kind None (Aside status) = refl
misplaced_kind None (Setup request) = refl
misplaced_kind None c = refl

placed_kind : (broken : Bool) (o : Option model.Message) (m : model.Message)
    → ((n : model.Message) → o ≡ Some n → is_setup_command n.command ≡ false) → placed broken o ≡ Some m
    → is_setup_command m.command ≡ false
placed_kind false o m none e = none m e
placed_kind true None m none e = absurd (none_some m e)
placed_kind true (Some n) m none e =
    let same : misplaced n ≡ m = some_same (misplaced n) m e in
    sym (ap (λ (y : model.Message). is_setup_command y.command) same) ∙ (misplaced_kind n.fault n.command ∙ none n refl)

mapped_kind : (t : commands.Told) (h : Header) (o : Option Command) (n : model.Message)
    → ((c : Command) → o ≡ Some c → is_setup_command c ≡ false) → option_map (heard_as t h) o ≡ Some n
    → is_setup_command n.command ≡ false
mapped_kind t h None n none e = absurd (none_some n e)
mapped_kind t h (Some c) n none e =
    let same : heard_as t h c ≡ n = some_same (heard_as t h c) n e in
    sym (ap (λ (y : model.Message). is_setup_command y.command) same) ∙ none c refl

command_kind : (cancel : Bool) (c d : Command) → is_setup_command d ≡ false → (if cancel then None else Some d) ≡ Some c
    → is_setup_command c ≡ false
command_kind true c d none e = absurd (none_some c e)
command_kind false c d none e = sym (ap (λ (y : Command). is_setup_command y) (some_same d c e)) ∙ none

heard_stays : (z : ServerSettings) (L : Logons) (k : ℕ) (f : ServerEnd) (c : Checked) (m : model.Message) (r : model.Reply)
    → heard_message z L k f c ≡ Some m → is_setup c.header ≡ false → progress m.command r ≡ Stays
unfolding message_of command_of
heard_stays z L k f c m r heard other =
    let t = told_of z L k f c in
    stays_by m.command r
    (placed_kind (is_misplaced c) (message_of t c.header c.bytes) m
    (λ n here. mapped_kind t c.header (command_of t c.header c.bytes) n
    (λ d is. command_kind (c.header.command == 12) d (named_command c.header.command t c.header c.bytes)
    (other_number c.header.command t c.header c.bytes other) is) here) heard)

-- ---- what is dealt, with what is still given and how many setups there were

abbrev dealt_with : Dealt → List Given → ℕ → Dealt
dealt_with d l n = record d { left = l; setups = n }

abbrev setups_behind : Bool → ℕ → ℕ
setups_behind b n = if b then n + 1 else n

few_behind : (b : Bool) (n : ℕ) → setups_behind b n ≤ n + 1
few_behind true n = omega arith
few_behind false n = omega arith

in_time : (n : ℕ) (b : Bool) → n + 1 ≤ 4096 → (b && nat_le 4096 n) ≡ false
in_time n true less = below n less
  where
    below : (n : ℕ) → n + 1 ≤ 4096 → nat_le 4096 n ≡ false
    below n less = grind (arith, nat_tests)
in_time n false less = refl

counted : (d : Dealt) (l : List Given) (n : ℕ) (b : Bool)
    → (if b then record (dealt_with d l n) { setups = n + 1 } else dealt_with d l n) ≡ dealt_with d l (setups_behind b n)
counted d l n true = refl
counted d l n false = refl

by_given : (z : ServerSettings) (k now : ℕ) (fresh : List ℕ) (f : ServerEnd) (d : Dealt) (c : Checked) (m : model.Message)
    (x : Option Mishap) (l : List Given) (n : ℕ) → dealt_by z k f (dealt_with d l n) c (own_given now fresh d.going m x)
    ≡ dealt_with (dealt_by z k f d c (own_given now fresh d.going m x)) l n
by_given z k now fresh f d c m None l n = refl
by_given z k now fresh f d c m (Some (Lacks t)) l n = refl
by_given z k now fresh f d c m (Some (Halts count)) l n = refl

module _ (z : ServerSettings) (h : Course) (k now : ℕ) (fresh : List ℕ) (f : ServerEnd) where
  -- a place found what these messages so far left
  abbrev FoundAs : ℕ → Going → Type 0
  FoundAs place g = (s : Stand) × (h.found place ≡ On s) × (s.server ≡ g.server) × (s.logons ≡ g.logons)

  -- ---- an event: what befell it, and what is behind it

  record Befell (place : ℕ) (d : Dealt) (c : Checked) (m : model.Message) (g : Given) : Type 0 where
    mishap : Option Mishap
    is : g ≡ own_given now fresh d.going m mishap
    left : LeavesIt d.going.server now m mishap
    next : (dealt_by z k f d c (own_given now fresh d.going m mishap)).stopped ≡ None
        → FoundAs (place + 1) (dealt_by z k f d c (own_given now fresh d.going m mishap)).going

  abbrev stand_in : Stand → Standing → Stand
  stand_in s (On t) = t
  stand_in s (Off count) = s

  logons_told : (L : Logons) (c : Checked) (m : model.Message) (n : code.Checked) (bytes : List ℕ) (a : Asks) (shown : IsFor k f c a)
      (r : model.Reply) → n ≡ shown.message → bytes ≡ a.frame.bytes.items → heard_message z L k f c ≡ Some m
      → told_logons z.users L a.told n (message_in bytes n) now (progress m.command r)
      ≡ logons_behind z.users L k f c a.told.fresh now (progress m.command r)
  logons_told L c m n bytes a shown r same are heard =
      let p = progress m.command r in
      let at : told_logons z.users L a.told n (message_in bytes n) now p
      ≡ told_logons z.users L a.told shown.message (message_in a.frame.bytes.items shown.message) now p =
      (λ i. told_logons z.users L a.told (same i) (message_in (are i) (same i)) now p) in
      let number : logons_behind z.users L a.told.connection f c a.told.fresh now p ≡ logons_behind z.users L k f c a.told.fresh now p =
      ap (λ (j : ℕ). logons_behind z.users L j f c a.told.fresh now p) shown.connection in
      at ∙ (by_setup (is_setup c.header) refl ∙ number)
    where
      by_setup : (b : Bool) → is_setup c.header ≡ b
          → told_logons z.users L a.told shown.message (message_in a.frame.bytes.items shown.message) now (progress m.command r)
          ≡ logons_behind z.users L a.told.connection f c a.told.fresh now (progress m.command r)
      by_setup true e = sym (told_behind z.users L f shown.message a.frame.bytes.items c a.told now (progress m.command r) shown.shows
          shown.told e)
      by_setup false e =
          subst (λ (p : Progress). told_logons z.users L a.told shown.message (message_in a.frame.bytes.items shown.message) now p
          ≡ logons_behind z.users L a.told.connection f c a.told.fresh now p) (sym (heard_stays z L k f c m r heard e)) refl

  -- by the reply, of a place that found just this state
  befell_by : (place : ℕ) (d : Dealt) (c : Checked) (m : model.Message) (g : Given) (o : Option Given) (records : List model.Record)
      (a : Asks) (n : code.Checked) (shown : IsFor k f c a) (reply : EventAnswer) (to : Standing) → a.told.fresh ≡ fresh
      → n ≡ shown.message → heard_message z d.going.logons k f c ≡ Some m → h.found (place + 1) ≡ to → o ≡ Some g
      → ToldIf (StandsAt to) z now d.going.server d.going.logons records a.told n a.frame.bytes.items (Some m) reply
      → GivenIf now a.told (record { server = d.going.server; logons = d.going.logons; records = records }) (Some m) reply to o
      → Befell place d c m g
  befell_by place d c m g o records a n shown None to bytes same heard there some gives given =
      absurd (none_some g (sym given ∙ some))
  befell_by place d c m g o records a n shown (Some (Ok r)) to bytes same heard there some gives given =
      let s = d.going.server in
      let L = d.going.logons in
      let A = answer_to s now m m.command in
      let is : Answered now a.told.fresh L A ≡ g = some_same (Answered now a.told.fresh L A) g (sym given ∙ some) in
      let logons : told_logons z.users L a.told n (message_in a.frame.bytes.items n) now (progress m.command A.reply)
      ≡ logons_behind z.users L k f c fresh now (progress m.command A.reply) =
      logons_told L c m n a.frame.bytes.items a shown A.reply same refl heard
      ∙ ap (λ (b : List ℕ). logons_behind z.users L k f c b now (progress m.command A.reply)) bytes in
      record {
        mishap = None;
        is = sym is ∙ ap (λ (b : List ℕ). Answered now b L A) bytes;
        left = tt;
        next = λ none. subst (λ (o : Option model.Message).
            FoundAs (place + 1) (went_answered z k now fresh f (record d.going { logons = L }) c o A)) (sym heard) (
              record {
                server = A.server;
                logons = told_logons z.users L a.told n (message_in a.frame.bytes.items n) now (progress m.command A.reply);
                records = records ++ A.records;
              },
              there ∙ gives.1.state,
              refl,
              logons,
            );
      }
  befell_by place d c m g o records a n shown (Some (Err errors.Memory)) to bytes same heard there some gives given =
      let is : NoMemory given.0.server ≡ g = some_same (NoMemory given.0.server) g (sym given.2 ∙ some) in
      let both = ap (stand_in given.0) (sym given.1 ∙ gives.1.3) in
      record {
        mishap = Some (Lacks given.0.server);
        is = sym is;
        left = subst (λ (t : model.Server). IsAsBefore d.going.server now (model.Heard m) t) (sym (ap (λ (s : Stand). s.server) both))
            (as_before d.going.server now (model.Heard m) gives.1.0 gives.1.1 gives.1.2);
        next = λ none. (given.0, there ∙ given.1, refl, ap (λ (s : Stand). s.logons) both);
      }
  befell_by place d c m g o records a n shown (Some (Err (errors.Unanswered acted))) to bytes same heard there some gives given =
      absurd (none_some g (sym given ∙ some))
  befell_by place d c m g o records a n shown (Some (Err (errors.Stopped count))) to bytes same heard there some gives given =
      let is : Stops count ≡ g = some_same (Stops count) g (sym given.1 ∙ some) in
      record { mishap = Some (Halts count); is = sym is; left = tt; next = λ none. absurd (let q : Some count ≡ None = none in cc) }

  befell_at : (place : ℕ) (d : Dealt) (c : Checked) (m : model.Message) (g : Given) (o : Option Given) (old : Stand) (told_at : ℕ)
      (what : What) (t : Answer) (to : Standing) → old.server ≡ d.going.server → old.logons ≡ d.going.logons → told_at ≡ now
      → HasBytes fresh what → IsTurnFor k f c what → heard_message z d.going.logons k f c ≡ Some m → h.found (place + 1) ≡ to
      → o ≡ Some g → MeetsFrom z (On old) (record { seat = 0; event = record { now = told_at; what = what }; reply = t }) o to
      → Befell place d c m g
  befell_at place d c m g o old told_at (Accept j) t to servers logons moment bytes shown heard there some meets = absurd shown
  befell_at place d c m g o old told_at (Message a) t to servers logons moment bytes shown heard there some meets =
      let same : meets.message ≡ shown.message = some_same meets.message shown.message (sym meets.here ∙ shown.here) in
      let s : Stand = record { server = d.going.server; logons = d.going.logons; records = old.records } in
      let told : told_message z d.going.logons a.told meets.message (message_in a.frame.bytes.items meets.message) ≡ Some m =
      ap (λ (v : code.Checked). told_message z d.going.logons a.told v (message_in a.frame.bytes.items v)) same
      ∙ (sym (told_is z d.going.logons f shown.message a.frame.bytes.items c a.told shown.shows (greeting_told f c a.told shown.told))
      ∙ (ap (λ (j : ℕ). heard_message z d.going.logons j f c) shown.connection ∙ heard)) in
      befell_by place d c m g o old.records a meets.message shown t.reply to bytes same heard there some
      (subst (λ (q : Option model.Message).
      ToldIf (StandsAt to) z now s.server s.logons old.records a.told meets.message a.frame.bytes.items q t.reply) told
      (found_gives a meets.message meets.gives))
      (subst (λ (q : Option model.Message). GivenIf now a.told s q t.reply to o) told (found_given a meets.message meets.given))
    where
      found_gives : (a : Asks) (n : code.Checked)
          → ToldIf (StandsAt to) z told_at old.server old.logons old.records a.told n a.frame.bytes.items
          (told_message z old.logons a.told n (message_in a.frame.bytes.items n)) t.reply
          → ToldIf (StandsAt to) z now d.going.server d.going.logons old.records a.told n a.frame.bytes.items
          (told_message z d.going.logons a.told n (message_in a.frame.bytes.items n)) t.reply
      found_gives a n gives =
          subst (λ (s : model.Server). ToldIf (StandsAt to) z now s d.going.logons old.records a.told n a.frame.bytes.items
          (told_message z d.going.logons a.told n (message_in a.frame.bytes.items n)) t.reply) servers
          (subst (λ (L : Logons). ToldIf (StandsAt to) z now old.server L old.records a.told n a.frame.bytes.items
          (told_message z L a.told n (message_in a.frame.bytes.items n)) t.reply) logons
          (subst (λ (j : ℕ). ToldIf (StandsAt to) z j old.server old.logons old.records a.told n a.frame.bytes.items
          (told_message z old.logons a.told n (message_in a.frame.bytes.items n)) t.reply) moment gives))

      found_given : (a : Asks) (n : code.Checked)
          → GivenIf told_at a.told old (told_message z old.logons a.told n (message_in a.frame.bytes.items n)) t.reply to o
          → GivenIf now a.told (record { server = d.going.server; logons = d.going.logons; records = old.records })
          (told_message z d.going.logons a.told n (message_in a.frame.bytes.items n)) t.reply to o
      found_given a n given =
          subst (λ (s : model.Server). GivenIf now a.told (record { server = s; logons = d.going.logons; records = old.records })
          (told_message z d.going.logons a.told n (message_in a.frame.bytes.items n)) t.reply to o) servers
          (subst (λ (L : Logons). GivenIf now a.told (record { server = old.server; logons = L; records = old.records })
          (told_message z L a.told n (message_in a.frame.bytes.items n)) t.reply to o) logons
          (subst (λ (j : ℕ). GivenIf j a.told old (told_message z old.logons a.told n (message_in a.frame.bytes.items n)) t.reply to o)
          moment given))
  befell_at place d c m g o old told_at (End j) t to servers logons moment bytes shown heard there some meets = absurd shown

  -- the turn at a place that found what the messages so far left
  befell : (place : ℕ) (d : Dealt) (c : Checked) (m : model.Message) (g : Given) (x : Placed) → FoundAs place d.going → x.0 ≡ place
      → x.1.event.now ≡ now → HasBytes fresh x.1.event.what → IsTurnFor k f c x.1.event.what → h.given x.0 ≡ Some g
      → MeetsFrom z (h.found x.0) x.1 (h.given x.0) (h.found (x.0 + 1))
      → heard_message z d.going.logons k f c ≡ Some m → Befell place d c m g
  befell place d c m g x found is moment bytes shown some meets heard =
      befell_at place d c m g (h.given x.0) found.0 x.1.event.now x.1.event.what x.1.reply (h.found (x.0 + 1)) found.2 found.3 moment bytes
      shown heard (ap (λ (n : ℕ). h.found (n + 1)) (sym is)) some
      (subst (λ (s : Standing). MeetsFrom z s x.1 (h.given x.0) (h.found (x.0 + 1))) (ap h.found is ∙ found.1) meets)

  -- ---- all messages

  -- just as much befell as there are events, and unless the server stopped the last place found what they left
  record Ends (last : ℕ) (w : Owned) : Type 0 where
    exact : w.mishaps ≡ []
    whole : w.dealt.missing ≡ false
    behind : w.dealt.stopped ≡ None → FoundAs last w.dealt.going

  record Single (last : ℕ) (given : List Given) (w : Owned) (cs : List Checked) : Type 0 where
    mishaps : List (Option Mishap)
    is : given ≡ single_givens z k now fresh f (record w { mishaps = mishaps }) cs
    ends : Ends last (owned_all z k now fresh f (record w { mishaps = mishaps }) cs)
    left : LeaveAll z k now fresh f (record w { mishaps = mishaps }) cs

  abbrev Found : ℕ → Dealt → Type 0
  Found place d = d.stopped ≡ None → FoundAs place d.going

  abbrev Rest : List Checked → Type 0
  Rest cs = (w : Owned) (n : ℕ) (given : List Given) (turns : List Placed) (place last : ℕ) → last ≡ place + length turns
      → w.dealt.missing ≡ false → n + length cs ≤ 4096
      → AreFor k f (asked_all z k now fresh f (dealt_with w.dealt given n) cs) turns → AreGiven h turns given → AllAsFound z h turns
      → Row now fresh place turns → Found place w.dealt → Single last given w cs

  none_given : (turns : List Placed) (given : List Given) → AreFor k f [] turns → AreGiven h turns given → given ≡ []
  none_given [] [] fors are = refl
  none_given [] (g ∷ gs) fors are = absurd are
  none_given (x ∷ xs) given fors are = absurd fors

  no_turns : (turns : List Placed) (place last : ℕ) → AreFor k f [] turns → last ≡ place + length turns → last ≡ place
  no_turns [] place last fors is = omega (arith, is)
  no_turns (x ∷ xs) place last fors is = absurd fors

  one_on : (place n last : ℕ) → last ≡ place + suc n → last ≡ place + 1 + n
  one_on place n last is = omega (arith, is)

  -- of no mishaps nothing is asked
  leaves_none : (w : Owned) (t : Turn) → w.mishaps ≡ [] → LeavesTurn z k now f w t
  leaves_none w (Fails status) none = tt
  leaves_none w (Goes c) none = heard (heard_message z w.dealt.going.logons k f c)
    where
      heard : (o : Option model.Message) → LeavesHeard w now o
      heard None = tt
      heard (Some m) = λ event. subst (λ (xs : List (Option Mishap)). LeavesNext w now m xs) (sym none) tt

  next_none : (w : Owned) (c : Checked) (m : model.Message) (xs : List (Option Mishap)) → xs ≡ [] → w.mishaps ≡ []
      → (owned_next z k now fresh f w c m xs).mishaps ≡ []
  next_none w c m [] is none = none
  next_none w c m (x ∷ xs) is none = absurd (cc)

  turned_none : (w : Owned) (c : Checked) (t : Turn) → w.mishaps ≡ [] → (owned_turn z k now fresh f w c t).mishaps ≡ []
  turned_none w c (Fails status) none = none
  turned_none w c (Goes e) none = heard (heard_message z w.dealt.going.logons k f e)
    where
      by : (b : Bool) (m : model.Message)
          → (if b then owned_next z k now fresh f w e m w.mishaps else owned_aside z k now fresh f w e (Some m)).mishaps ≡ []
      by true m = next_none w e m w.mishaps none none
      by false m = none

      heard : (o : Option model.Message) → (owned_heard z k now fresh f w e o).mishaps ≡ []
      heard None = none
      heard (Some m) = by (has_event m.command) m

  all_none : (cs : List Checked) (w : Owned) → w.mishaps ≡ [] → LeaveAll z k now fresh f w cs
  unfolding LeaveAll
  all_none [] w none = tt
  all_none (c ∷ cs) w none = (
    leaves_none w (turn_of w.dealt.going.carried c) none,
    all_none cs (owned_turn z k now fresh f w c (turn_of w.dealt.going.carried c)) (turned_none w c (turn_of w.dealt.going.carried c) none),
  )

  -- what a message gave, and behind it the rest
  record SingleHere (last : ℕ) (given : List Given) (w : Owned) (c : Checked) (o : Option model.Message) (cs : List Checked) : Type 0 where
    mishaps : List (Option Mishap)
    is : given ≡ given_heard now fresh (record w { mishaps = mishaps }) o
        ++ single_givens z k now fresh f (owned_heard z k now fresh f (record w { mishaps = mishaps }) c o) cs
    ends : Ends last (owned_all z k now fresh f (owned_heard z k now fresh f (record w { mishaps = mishaps }) c o) cs)
    left : LeavesHeard (record w { mishaps = mishaps }) now o
        × LeaveAll z k now fresh f (owned_heard z k now fresh f (record w { mishaps = mishaps }) c o) cs

  abbrev owned_if : Bool → Owned → Checked → model.Message → List (Option Mishap) → Owned
  owned_if event w c m mishaps = if event then owned_next z k now fresh f (record w { mishaps = mishaps }) c m mishaps
      else owned_aside z k now fresh f (record w { mishaps = mishaps }) c (Some m)

  record SingleEvent (last : ℕ) (given : List Given) (w : Owned) (c : Checked) (m : model.Message) (cs : List Checked) (event : Bool)
      : Type 0 where
    mishaps : List (Option Mishap)
    is : given ≡ (if event then given_next now fresh (record w { mishaps = mishaps }) m mishaps else [])
        ++ single_givens z k now fresh f (if event then owned_next z k now fresh f (record w { mishaps = mishaps }) c m mishaps
        else owned_aside z k now fresh f (record w { mishaps = mishaps }) c (Some m)) cs
    ends : Ends last (owned_all z k now fresh f (owned_if event w c m mishaps) cs)
    left : (event ≡ true → LeavesNext (record w { mishaps = mishaps }) now m mishaps)
        × LeaveAll z k now fresh f (owned_if event w c m mishaps) cs

  event_rows : (cs : List Checked) (rest : Rest cs) (w : Owned) (c : Checked) (m : model.Message) (n : ℕ) (given : List Given)
      (turns : List Placed) (place last : ℕ) → last ≡ place + length turns → w.dealt.missing ≡ false → n + length (c ∷ cs) ≤ 4096
      → heard_message z w.dealt.going.logons k f c ≡ Some m
      → AreFor k f (c ∷ asked_all z k now fresh f (dealt_next z k f (dealt_with w.dealt given n) c given) cs) turns → AreGiven h turns given
      → AllAsFound z h turns → Row now fresh place turns → FoundAs place w.dealt.going → SingleEvent last given w c m cs true
  event_rows cs rest w c m n given [] place last end full room heard fors are meet row found = absurd fors
  event_rows cs rest w c m n [] (x ∷ xs) place last end full room heard fors are meet row found = absurd are
  event_rows cs rest w c m n (g ∷ gs) (x ∷ xs) place last end full room heard fors are meet row found =
      let e = befell place w.dealt c m g x found row.0 row.1 row.2 fors.0 are.0 meet.0 heard in
      let b = is_setup c.header in
      let d = dealt_by z k f w.dealt c (own_given now fresh w.dealt.going m e.mishap) in
      let dealt : dealt_next z k f (dealt_with w.dealt (g ∷ gs) n) c (g ∷ gs) ≡ dealt_with d gs (setups_behind b n) =
      ap (λ (u : Dealt). dealt_by z k f u c g) (counted w.dealt gs n b)
      ∙ (ap (λ (y : Given). dealt_by z k f (dealt_with w.dealt gs (setups_behind b n)) c y) e.is
      ∙ by_given z k now fresh f w.dealt c m e.mishap gs (setups_behind b n)) in
      let few = few_behind b n in
      let less : setups_behind b n + length cs ≤ 4096 = omega (arith, room, few) in
      let r = rest (record { dealt = d; mishaps = [] }) (setups_behind b n) gs xs (place + 1) last (one_on place (length xs) last end)
      (missing_by z k f w.dealt c (own_given now fresh w.dealt.going m e.mishap) ∙ full) less
      (subst (λ (u : Dealt). AreFor k f (asked_all z k now fresh f u cs) xs) dealt fors.1) are.1 meet.1 row.3 e.next in
      record { mishaps = e.mishap ∷ r.mishaps; is = λ i. e.is i ∷ r.is i; ends = r.ends; left = ((λ event. e.left), r.left) }

  -- NEGOTIATE and ECHO leave the server and its logons
  aside_found : (place : ℕ) (g : Going) (c : Checked) (m : model.Message) (command : Command) → has_event command ≡ false
      → FoundAs place g
      → (s : Stand) × (h.found place ≡ On s) × (s.server ≡ (answer_to g.server now m command).server)
      × (s.logons ≡ logons_behind z.users g.logons k f c fresh now (progress command (answer_to g.server now m command).reply))
  aside_found place g c m (Aside status) none found = found
  aside_found place g c m command none found = absurd (let q : true ≡ false = none in cc)

  by_event : (cs : List Checked) (rest : Rest cs) (w : Owned) (c : Checked) (m : model.Message) (n : ℕ) (given : List Given)
      (turns : List Placed) (place last : ℕ) (event beyond : Bool) → last ≡ place + length turns → w.dealt.missing ≡ false
      → has_event m.command ≡ event → beyond ≡ false → n + length (c ∷ cs) ≤ 4096
      → heard_message z w.dealt.going.logons k f c ≡ Some m
      → AreFor k f ((if (if event then not beyond else false) then c ∷ [] else [])
      ++ asked_all z k now fresh f (if not event
      then record (dealt_with w.dealt given n) { going = went_heard z k now fresh f w.dealt.going c (Some m) }
      else if beyond then record (dealt_with w.dealt given n) { going = went_refused f w.dealt.going c insufficient_resources }
      else dealt_next z k f (dealt_with w.dealt given n) c given) cs) turns → AreGiven h turns given → AllAsFound z h turns
      → Row now fresh place turns → FoundAs place w.dealt.going → SingleEvent last given w c m cs event
  by_event cs rest w c m n given turns place last false beyond end full is early room heard fors are meet row found =
      let less : n + length cs ≤ 4096 = omega (arith, room) in
      let r = rest (owned_aside z k now fresh f w c (Some m)) n given turns place last end full less fors are meet row
      (λ none. aside_found place w.dealt.going c m m.command is found) in
      record { mishaps = r.mishaps; is = r.is; ends = r.ends; left = ((λ event. absurd (let q : false ≡ true = event in cc)), r.left) }
  by_event cs rest w c m n given turns place last true true end full is early room heard fors are meet row found = absurd (cc)
  by_event cs rest w c m n given turns place last true false end full is early room heard fors are meet row found =
      event_rows cs rest w c m n given turns place last end full room heard fors are meet row found

  heard_rows : (cs : List Checked) (rest : Rest cs) (w : Owned) (c : Checked) (o : Option model.Message) (n : ℕ) (given : List Given)
      (turns : List Placed) (place last : ℕ) → last ≡ place + length turns → w.dealt.missing ≡ false → n + length (c ∷ cs) ≤ 4096
      → heard_message z w.dealt.going.logons k f c ≡ o
      → AreFor k f ((if asks_it (dealt_with w.dealt given n) c o then c ∷ [] else [])
      ++ asked_all z k now fresh f (dealt_heard z k now fresh f (dealt_with w.dealt given n) c o) cs) turns → AreGiven h turns given
      → AllAsFound z h turns → Row now fresh place turns → FoundAs place w.dealt.going → SingleHere last given w c o cs
  heard_rows cs rest w c None n given turns place last end full room heard fors are meet row found =
      let less : n + length cs ≤ 4096 = omega (arith, room) in
      let r = rest (owned_aside z k now fresh f w c None) n given turns place last end full less fors are meet row (λ none. found) in
      record { mishaps = r.mishaps; is = r.is; ends = r.ends; left = (tt, r.left) }
  heard_rows cs rest w c (Some m) n given turns place last end full room heard fors are meet row found =
      let more : n + 1 ≤ 4096 = omega (arith, room) in
      let r = by_event cs rest w c m n given turns place last (has_event m.command) (is_past_setups n c.header) end full refl
      (in_time n (is_setup c.header) more) room heard fors are meet row found in
      record { mishaps = r.mishaps; is = r.is; ends = r.ends; left = r.left }

  record SingleTurn (last : ℕ) (given : List Given) (w : Owned) (c : Checked) (t : Turn) (cs : List Checked) : Type 0 where
    mishaps : List (Option Mishap)
    is : given ≡ given_turn z k now fresh f (record w { mishaps = mishaps }) t
        ++ single_givens z k now fresh f (owned_turn z k now fresh f (record w { mishaps = mishaps }) c t) cs
    ends : Ends last (owned_all z k now fresh f (owned_turn z k now fresh f (record w { mishaps = mishaps }) c t) cs)
    left : LeavesTurn z k now f (record w { mishaps = mishaps }) t
        × LeaveAll z k now fresh f (owned_turn z k now fresh f (record w { mishaps = mishaps }) c t) cs

  turn_rows : (cs : List Checked) (rest : Rest cs) (w : Owned) (c : Checked) (t : Turn) (n : ℕ) (given : List Given)
      (turns : List Placed) (place last : ℕ) → last ≡ place + length turns → w.dealt.missing ≡ false → n + length (c ∷ cs) ≤ 4096
      → AreFor k f (asked_in z k f (dealt_with w.dealt given n) t
      ++ asked_all z k now fresh f (dealt_turn z k now fresh f (dealt_with w.dealt given n) c t) cs) turns → AreGiven h turns given
      → AllAsFound z h turns → Row now fresh place turns → FoundAs place w.dealt.going → SingleTurn last given w c t cs
  turn_rows cs rest w c (Goes e) n given turns place last end full room fors are meet row found =
      let r = heard_rows cs rest w e (heard_message z w.dealt.going.logons k f e) n given turns place last end full room refl fors are meet
      row
      found in
      record { mishaps = r.mishaps; is = r.is; ends = r.ends; left = r.left }
  turn_rows cs rest w c (Fails status) n given turns place last end full room fors are meet row found =
      let less : n + length cs ≤ 4096 = omega (arith, room) in
      let r = rest (owned_turn z k now fresh f w c (Fails status)) n given turns place last end full less fors are meet row
      (λ none. found) in
      record { mishaps = r.mishaps; is = r.is; ends = r.ends; left = (tt, r.left) }

  stopped_not : (o : Option ℕ) → is_some o ≡ false → o ≡ None
  stopped_not None e = refl
  stopped_not (Some count) e = absurd (let q : true ≡ false = e in cc)

  -- whether the server had stopped
  record SingleIf (last : ℕ) (given : List Given) (w : Owned) (c : Checked) (cs : List Checked) (stopped : Bool) : Type 0 where
    mishaps : List (Option Mishap)
    is : given ≡ (if stopped then []
        else given_turn z k now fresh f (record w { mishaps = mishaps }) (turn_of w.dealt.going.carried c)
        ++ single_givens z k now fresh f (owned_turn z k now fresh f (record w { mishaps = mishaps }) c (turn_of w.dealt.going.carried c)) cs)
    ends : Ends last (if stopped then record w { mishaps = mishaps }
        else owned_all z k now fresh f (owned_turn z k now fresh f (record w { mishaps = mishaps }) c (turn_of w.dealt.going.carried c)) cs)
    left : LeavesTurn z k now f (record w { mishaps = mishaps }) (turn_of w.dealt.going.carried c)
        × LeaveAll z k now fresh f (owned_turn z k now fresh f (record w { mishaps = mishaps }) c (turn_of w.dealt.going.carried c)) cs

  -- a server that has stopped doesn't go on
  not_stopped : (o : Option ℕ) → is_some o ≡ true → o ≡ None → ⊥
  not_stopped None e none = absurd (let q : false ≡ true = e in cc)
  not_stopped (Some count) e none = absurd (let q : Some count ≡ None = none in cc)

  stop_rows : (cs : List Checked) (rest : Rest cs) (w : Owned) (c : Checked) (n : ℕ) (given : List Given) (turns : List Placed)
      (place last : ℕ) (stopped : Bool) → last ≡ place + length turns → w.dealt.missing ≡ false → is_some w.dealt.stopped ≡ stopped
      → n + length (c ∷ cs) ≤ 4096
      → AreFor k f (if stopped then [] else asked_in z k f (dealt_with w.dealt given n) (turn_of w.dealt.going.carried c)
      ++ asked_all z k now fresh f (dealt_turn z k now fresh f (dealt_with w.dealt given n) c (turn_of w.dealt.going.carried c)) cs) turns
      → AreGiven h turns given → AllAsFound z h turns → Row now fresh place turns → Found place w.dealt → SingleIf last given w c cs stopped
  stop_rows cs rest w c n given turns place last true end full is room fors are meet row found =
      let u : Owned = record w { mishaps = [] } in
      let t = turn_of w.dealt.going.carried c in
      record {
        mishaps = [];
        is = none_given turns given fors are;
        ends = record { exact = refl; whole = full; behind = λ none. absurd (not_stopped w.dealt.stopped is none) };
        left = (leaves_none u t refl, all_none cs (owned_turn z k now fresh f u c t) (turned_none u c t refl));
      }
  stop_rows cs rest w c n given turns place last false end full is room fors are meet row found =
      let r = turn_rows cs rest w c (turn_of w.dealt.going.carried c) n given turns place last end full room fors are meet row
      (found (stopped_not w.dealt.stopped is)) in
      record { mishaps = r.mishaps; is = r.is; ends = r.ends; left = r.left }

  all_rows : (cs : List Checked) → Rest cs
  unfolding asked_all single_givens owned_all LeaveAll
  all_rows [] w n given turns place last end full room fors are meet row found = record {
    mishaps = [];
    is = none_given turns given fors are;
    ends = record {
      exact = refl;
      whole = full;
      behind = λ none. subst (λ (at : ℕ). FoundAs at w.dealt.going) (sym (no_turns turns place last fors end)) (found none);
    };
    left = tt;
  }
  all_rows (c ∷ cs) w n given turns place last end full room fors are meet row found =
      let r = stop_rows cs (all_rows cs) w c n given turns place last (is_some w.dealt.stopped) end full refl room fors are meet row found
      in
      record { mishaps = r.mishaps; is = r.is; ends = r.ends; left = r.left }

-- ---- the frame

are_none : (h g : Course) (given : List Given) → AreGiven h [] given → AreGiven g [] given
are_none h g [] are = tt
are_none h g (x ∷ xs) are = absurd are

-- what befell the events of a frame, and what is behind it
record Alone (z : ServerSettings) (h : Course) (k now : ℕ) (fresh : List ℕ) (f : ServerEnd) (given : List Given) (server : model.Server)
    (logons : Logons) (cs : List Checked) (place : ℕ) (turns : List Placed) : Type 0 where
  mishaps : List (Option Mishap)
  is : given ≡ single_givens z k now fresh f (owning server logons f mishaps) cs
  exact : (owned_all z k now fresh f (owning server logons f mishaps) cs).mishaps ≡ []
  whole : (owned_all z k now fresh f (owning server logons f mishaps) cs).dealt.missing ≡ false
  left : LeaveAll z k now fresh f (owning server logons f mishaps) cs
  behind : (turns ≡ [])
      ⊎ ((owned_all z k now fresh f (owning server logons f mishaps) cs).dealt.stopped ≡ None
      → FoundAs z h k now fresh f (place + length turns) (owned_all z k now fresh f (owning server logons f mishaps) cs).dealt.going)

-- from what the first of its turns found; whatever that is, where it has none
rows_of : (z : ServerSettings) (h : Course) (k now : ℕ) (fresh : List ℕ) (f : ServerEnd) (cs : List Checked) (server : model.Server)
    (logons : Logons) (before : ℕ) (given : List Given) (turns : List Placed) (place : ℕ) (s : Stand) → before + length cs ≤ 4096
    → AreFor k f (asked_all z k now fresh f (dealt_with (owning server logons f []).dealt given before) cs) turns → AreGiven h turns given
    → AllAsFound z h turns → InARow place turns → AreAtOnce now fresh turns → FindsFirst h turns server logons → h.found place ≡ On s
    → Alone z h k now fresh f given server logons cs place turns
rows_of z h k now fresh f cs server logons before given [] place s room fors are meet row once first found =
    let any : Stand = record { server = server; logons = logons; records = [] } in
    let g : Course = record { found = λ (n : ℕ). On any; given = h.given } in
    let r = all_rows z g k now fresh f cs (owning server logons f []) before given [] place (place + 0) refl refl room fors
    (are_none h g given are) tt tt (λ none. (any, refl, refl, refl)) in
    record { mishaps = r.mishaps; is = r.is; exact = r.ends.exact; whole = r.ends.whole; left = r.left; behind = inl refl }
rows_of z h k now fresh f cs server logons before given (x ∷ xs) place s room fors are meet row once first found =
    let q = first s (ap h.found row.0 ∙ found) in
    let r = all_rows z h k now fresh f cs (owning server logons f []) before given (x ∷ xs) place (place + length (x ∷ xs)) refl refl room
    fors are meet (row_of now fresh place (x ∷ xs) row once) (λ none. (s, found, q.0, q.1)) in
    record { mishaps = r.mishaps; is = r.is; exact = r.ends.exact; whole = r.ends.whole; left = r.left; behind = inr r.ends.behind }

-- ---- what the frame's step leaves

answered_leaves : (P : ConnectionStep → Type 0) (f : ServerEnd) (sealed : Bool) (g : Going)
    → ((why : world.ConnEnd) → P (ended_by g.server g.logons f g.taken why))
    → ((rows : List (List (List ℕ))) (texts : List (List ℕ)) → P (answered_with f sealed g rows texts)) → P (answered f sealed g)
answered_leaves P f sealed g spent said = by_room _ _ _
  where
    by_room : (spent_up : Bool) (rows : List (List (List ℕ))) (texts : List (List ℕ))
        → P (if spent_up then ended_by g.server g.logons f g.taken world.Spent else answered_with f sealed g rows texts)
    by_room true rows texts = spent world.Spent
    by_room false rows texts = said rows texts

-- unless the server stopped, the place behind the turns found it
finds_behind : (z : ServerSettings) (h : Course) (k now : ℕ) (fresh : List ℕ) (f e : ServerEnd) (sealed : Bool) (place : ℕ)
    (turns : List Placed) (g : Going) (stopped : Option ℕ) (step : ConnectionStep) → step ≡ dealt_step e sealed g stopped
    → ((turns ≡ []) ⊎ (stopped ≡ None → FoundAs z h k now fresh f (place + length turns) g)) → FindsBehind h place turns step
finds_behind z h k now fresh f e sealed place [] g stopped step is behind = tt
finds_behind z h k now fresh f e sealed place (x ∷ xs) g stopped step is (inl none) = absurd (let q : x ∷ xs ≡ [] = none in cc)
finds_behind z h k now fresh f e sealed place (x ∷ xs) g (Some count) step is (inr behind) =
    λ goes. absurd (goes count (ap (λ (y : ConnectionStep). y.ends) is))
finds_behind z h k now fresh f e sealed place (x ∷ xs) g None step is (inr behind) = λ goes.
    (let found = behind refl in
    let server : (answered e sealed g).server ≡ g.server =
    answered_leaves (λ (y : ConnectionStep). y.server ≡ g.server) e sealed g (λ why. refl) (λ rows texts. refl) in
    let logons : (answered e sealed g).logons ≡ g.logons =
    answered_leaves (λ (y : ConnectionStep). y.logons ≡ g.logons) e sealed g (λ why. refl) (λ rows texts. refl) in (
      found.0,
      found.1,
      found.2 ∙ sym (ap (λ (y : ConnectionStep). y.server) is ∙ server),
      found.3 ∙ sym (ap (λ (y : ConnectionStep). y.logons) is ∙ logons),
    ))

matches_of : (missing : Bool) (mishaps : List (Option Mishap)) → missing ≡ false → mishaps ≡ []
    → (not missing && not (is_filled mishaps)) ≡ true
unfolding is_filled
matches_of false [] whole exact = refl
matches_of false (x ∷ xs) whole exact = absurd (cc)
matches_of true mishaps whole exact = absurd (cc)

pub alone_frames : SingleEvents → AloneFrames
alone_frames single z h k f before frame turns G t x place s meet checked room row found =
    let asked : AreFor k x.server_end (asked_all z k t.now t.fresh x.server_end (first_dealt t.server t.logons x.server_end before t.given)
    x.messages) turns = subst (λ (r : Result Frame world.ConnEnd). AreAsked z k t.now t.fresh before t.server t.logons t.given r turns) checked t.asked in
    let r = rows_of z h k t.now t.fresh x.server_end x.messages t.server t.logons before t.given turns place s room asked t.are meet row
    t.at_once t.first found in
    let w = owned_all z k t.now t.fresh x.server_end (owning t.server t.logons x.server_end r.mishaps) x.messages in
    let one = (single z k t.now t.fresh before t.server t.logons f r.mishaps x room).0 in
    let step : G ≡ given_of z k t.now t.fresh before t.server t.logons f t.given (Ok x) =
    t.is ∙ ap (λ (y : Result Frame world.ConnEnd). given_of z k t.now t.fresh before t.server t.logons f t.given y) checked in
    let given : G.step ≡ (given_of z k t.now t.fresh before t.server t.logons f
    (singles z k t.now t.fresh t.server t.logons r.mishaps x) (Ok x)).step =
    ap (λ (y : GivenStep). y.step) step
    ∙ ap (λ (gs : List Given). (given_of z k t.now t.fresh before t.server t.logons f gs (Ok x)).step) r.is in
    let frame_is : (y : Result Frame world.ConnEnd) → y ≡ Ok x
    → (owned_of z k t.now t.fresh t.server t.logons f r.mishaps y) ≡ owned_of z k t.now t.fresh t.server t.logons f r.mishaps (Ok x) =
    λ y is. ap (λ (y : Result Frame world.ConnEnd). owned_of z k t.now t.fresh t.server t.logons f r.mishaps y) is in
    record {
      mishaps = r.mishaps;
      step_is = given ∙ (one ∙ ap (λ (y : GivenStep). y.step) (sym (frame_is _ checked)));
      matches = ap (λ (y : GivenStep). y.matches) (frame_is _ checked) ∙ matches_of w.dealt.missing w.mishaps r.whole r.exact;
      left = subst (λ (y : Result Frame world.ConnEnd). AreLeft z k t.now t.fresh t.server t.logons r.mishaps y) (sym checked) r.left;
      behind = finds_behind z h k t.now t.fresh x.server_end x.server_end x.sealed place turns w.dealt.going w.dealt.stopped G.step
          (given ∙ one) r.behind;
    }

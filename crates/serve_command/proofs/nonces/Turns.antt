-- The replies to one frame's messages: each final one tells a number that was drawn at the place of its own turn.
use Rattle.std.proofs.Common.{◌≡◌, ℕ, ◌+◌, ◌-◌, ◌≤◌, ◌<◌, Bool, true, false, not, if◌then◌else◌, List, [], ◌∷◌, ◌++◌}
use Rattle.std.proofs.Common.{slice_get, Option, Some, None, Ok, Err, refl, sym, ap, subst, ◌∙◌, arith}
use Rattle.std.specs.Prelude.{is_some}
use Rattle.spec_exchange.specs.Commands.{Command, Setup}
use Rattle.spec_exchange.specs.Network.{answer_to}
use Rattle.spec_exchange.specs.State as model
use Rattle.spec_exchange.specs.Status.{insufficient_resources, no_memory}
use Rattle.spec_exchange.specs.Table.{put}
use Rattle.spec_world.specs.Answering.{SaidReply}
use Rattle.spec_world.specs.Connection.{Going, heard_message, said_failed, said_to, went_heard, went_turn}
use Rattle.spec_world.specs.Ends.{ServerEnd, Logons}
use Rattle.spec_world.specs.Given as gives
use Rattle.spec_world.specs.Given.{Given, Answered, NoMemory, Stops, dealt_all, dealt_by, dealt_heard, dealt_next, dealt_turn}
use Rattle.spec_world.specs.Given.{has_event, is_past_setups, went_answered, went_refused}
use Rattle.spec_world.specs.Hearing.{Checked, is_setup}
use Rattle.spec_world.specs.Logon.{Progress, Stays, Interim, Final, progress}
use Rattle.spec_world.specs.Related.{Turn, Fails, Goes, failed_as, turn_of}
use Rattle.spec_world.specs.Settings.{ServerSettings}
use Rattle.law_server.proofs.tables.Logic.{either}
use Rattle.law_nonces.specs.event_nonces.Events.{DrawsAlong}
use Rattle.law_nonces.specs.server_nonces.Numbering.{DrawsOn, IsKeyed, key_sessions, next_drawn}
use Rattle.law_nonces.proofs.event_nonces.Seals.{RepliesFrom, ReplyFrom}
use Rattle.law_nonces.proofs.server_nonces.Going.{IsAt, drawn_at as drawn_same, draws_at, heard_session, said_at}
use Rattle.conn_core.specs.declared.frame_messages.checked.Checked as code
use Rattle.conn_core.specs.frame_messages.Checking.{message_in}
use Rattle.conn_core.specs.declared.served.error.ServeError.TheVariants as errors
use Rattle.conn_core.specs.frame_events.Dealing.{EventAnswer}
use Rattle.conn_core.specs.frame_events.Shared.{asked_all, asked_in, asks_it}
use Rattle.conn_core.specs.requests.Telling.{told_message}
use Rattle.conn_core.proofs.requests.Asked.{greeting_told, told_is}
use Rattle.serve_turns.specs.connection_turns.Frames.{AreFor, AreGiven, IsFor, IsTurnFor}
use Rattle.serve_turns.specs.declared.event_book.turn.Answer.{Answer}
use Rattle.serve_turns.specs.declared.event_book.turn.Asks.{Asks}
use Rattle.serve_turns.specs.declared.event_book.turn.Turn as events
use Rattle.serve_turns.specs.declared.event_book.turn.What.{What}
use Rattle.serve_turns.specs.declared.event_book.turn.What.TheVariants.{Accept, Message, End}
use Rattle.serve_turns.specs.declared.shared_book.view.Entry.{Entry}
use Rattle.serve_turns.specs.event_book.History.{Course, GivenIf, MeetsFrom, MeetsMessage, Off, On, Placed, Stand, Standing}
use Rattle.serve_command.proofs.nonces.Tables.{Mids, TablesAt, due_at, drawn_at, drawn_entry, drawn_if, drawn_what, has_drawn, took}
use Rattle.serve_command.proofs.nonces.Tables.{asked_denied}

-- ---- what one turn drew, by what was given there

-- of a message that was answered: its number, and the keys that name its session
pub record FinalDraws (L : Logons) (x : ℕ) (p : Progress) (drawn behind : ℕ → ℕ) : Type 0 where
  pub on : DrawsOn drawn x p
  pub keyed : IsKeyed (key_sessions L) x p
  pub next : behind ≡ next_drawn drawn x p

abbrev pub TurnDraws : ServerSettings → ℕ → ServerEnd → Checked → Given → (ℕ → ℕ) → (ℕ → ℕ) → Type 0
TurnDraws z k f c (Answered moment fresh L A) drawn behind = (m : model.Message) → heard_message z L k f c ≡ Some m
    → FinalDraws L m.session_id (progress m.command A.reply) drawn behind
TurnDraws z k f c (NoMemory s) drawn behind = Unit {0}
TurnDraws z k f c (Stops count) drawn behind = Unit {0}

some_same : {X : Type 0} (a b : X) → Some a ≡ Some b → a ≡ b
some_same a b e = cc

none_some : {X : Type 0} (a : X) → None ≡ Some a → ⊥
none_some a e = absurd (cc)

module _ (z : ServerSettings) (k : ℕ) (f : ServerEnd) (c : Checked) where
  -- the message that the event heard is the one that is told of
  answered_draws : (old : Stand) (now : ℕ) (a : Asks) (m : code.Checked) (shown : IsFor k f c a) (x : model.Message) (drawn behind : ℕ → ℕ)
      → shown.message ≡ m → TablesAt (On old) drawn → slice_get a.frame.messages.items a.at ≡ Some m
      → told_message z old.logons a.told m (message_in a.frame.bytes.items m) ≡ Some x
      → behind ≡ next_drawn drawn x.session_id (progress x.command (answer_to old.server now x x.command).reply)
      → TurnDraws z k f c (Answered now a.told.fresh old.logons (answer_to old.server now x x.command)) drawn behind
  answered_draws old now a m shown x drawn behind same tables here due next n heard =
      let told : heard_message z old.logons a.told.connection f c
      ≡ told_message z old.logons a.told shown.message (message_in a.frame.bytes.items shown.message) =
      told_is z old.logons f shown.message a.frame.bytes.items c a.told shown.shows (greeting_told f c a.told shown.told) in
      let whole : heard_message z old.logons k f c ≡ Some x =
      ap (λ (j : ℕ). heard_message z old.logons j f c) (sym shown.connection) ∙ (told
      ∙ (ap (λ (v : code.Checked). told_message z old.logons a.told v (message_in a.frame.bytes.items v)) same ∙ due)) in
      let is : x ≡ n = some_same x n (sym whole ∙ heard) in
      let d = has_drawn z old now a.told m a.frame.bytes.items x drawn tables (asked_denied z a m here) due in
      subst (λ (v : model.Message).
      FinalDraws old.logons v.session_id (progress v.command (answer_to old.server now x x.command).reply) drawn behind) is
      (record { on = d.on; keyed = d.keyed; next = next })

  by_reply : (old : Stand) (now : ℕ) (a : Asks) (m : code.Checked) (shown : IsFor k f c a) (due : Option model.Message) (reply : EventAnswer)
      (g : Option Given) (given : Given) (to : Standing) (drawn behind : ℕ → ℕ) → shown.message ≡ m → TablesAt (On old) drawn
      → slice_get a.frame.messages.items a.at ≡ Some m
      → told_message z old.logons a.told m (message_in a.frame.bytes.items m) ≡ due → GivenIf now a.told old due reply to g
      → g ≡ Some given → behind ≡ drawn_if (took reply) old now due drawn → TurnDraws z k f c given drawn behind
  by_reply old now a m shown None None g given to drawn behind same tables here is none some next =
      absurd (none_some given (sym none ∙ some))
  by_reply old now a m shown None (Some r) g given to drawn behind same tables here is none some next = absurd none
  by_reply old now a m shown (Some x) None g given to drawn behind same tables here is none some next =
      absurd (none_some given (sym none ∙ some))
  by_reply old now a m shown (Some x) (Some (Ok r)) g given to drawn behind same tables here is here_given some next =
      subst (λ (v : Given). TurnDraws z k f c v drawn behind) (some_same _ given (sym here_given ∙ some))
      (answered_draws old now a m shown x drawn behind same tables here is next)
  by_reply old now a m shown (Some x) (Some (Err errors.Memory)) g given to drawn behind same tables here is here_given some next =
      subst (λ (v : Given). TurnDraws z k f c v drawn behind) (some_same _ given (sym here_given.2 ∙ some)) tt
  by_reply old now a m shown (Some x) (Some (Err (errors.Unanswered acted))) g given to drawn behind same tables here is none some next =
      absurd (none_some given (sym none ∙ some))
  by_reply old now a m shown (Some x) (Some (Err (errors.Stopped count))) g given to drawn behind same tables here is here_given some next =
      subst (λ (v : Given). TurnDraws z k f c v drawn behind) (some_same _ given (sym here_given.1 ∙ some)) tt

  asks_draw : (old : Stand) (now : ℕ) (a : Asks) (t : Answer) (g : Option Given) (given : Given) (to : Standing) (drawn behind : ℕ → ℕ)
      → MeetsMessage z old now a t g to → IsFor k f c a → g ≡ Some given → TablesAt (On old) drawn
      → behind ≡ drawn_what z old now (Message a) t.reply drawn → TurnDraws z k f c given drawn behind
  asks_draw old now a t g given to drawn behind m shown some tables next =
      let same : shown.message ≡ m.message = some_same shown.message m.message (sym shown.here ∙ m.here) in
      by_reply old now a m.message shown (told_message z old.logons a.told m.message (message_in a.frame.bytes.items m.message)) t.reply g
      given to drawn behind same tables m.here refl m.given some
      (next ∙ ap (λ (o : Option code.Checked). drawn_if (took t.reply) old now (due_at z old a o) drawn) m.here)

  what_draws : (from : Standing) (e : Entry events.Turn Answer) (what : What) (g : Option Given) (given : Given) (to : Standing)
      (drawn behind : ℕ → ℕ) → e.event.what ≡ what → MeetsFrom z from e g to → IsTurnFor k f c what → g ≡ Some given → TablesAt from drawn
      → behind ≡ drawn_entry z from (Some e) drawn → TurnDraws z k f c given drawn behind
  what_draws (On old) e (Accept j) g given to drawn behind is meets shown some tables next = absurd shown
  what_draws (On old) e (Message a) g given to drawn behind is meets shown some tables next =
      asks_draw old e.event.now a e.reply g given to drawn behind
      (subst (λ (w : What). MeetsFrom z (On old) (record { seat = e.seat; event = record { now = e.event.now; what = w }; reply = e.reply }) g to)
      is meets) shown some tables
      (next ∙ ap (λ (w : What). drawn_what z old e.event.now w e.reply.reply drawn) is)
  what_draws (On old) e (End j) g given to drawn behind is meets shown some tables next = absurd shown
  what_draws (Off count) e what g given to drawn behind is meets shown some tables next =
      subst (λ (v : Given). TurnDraws z k f c v drawn behind) (some_same _ given (sym meets.given ∙ some)) tt

-- ---- turns of one seat, in the order of their places

module _ (z : ServerSettings) (h : Course) (log : List (Entry events.Turn Answer)) (mids : Mids z h log) (seat : ℕ) where
  abbrev pub GoOn : ℕ → List Placed → Type 0
  GoOn place [] = Unit {0}
  GoOn place (x ∷ xs) = (place ≤ x.0) × (slice_get log x.0 ≡ Some x.1) × (x.1.seat ≡ seat) × GoOn (x.0 + 1) xs

  abbrev pub past : ℕ → List Placed → ℕ
  past place [] = place
  past place (x ∷ xs) = past (x.0 + 1) xs

  pub go_front : (place : ℕ) (xs ys : List Placed) → GoOn place (xs ++ ys) → GoOn place xs
  go_front place [] ys on = tt
  go_front place (x ∷ xs) ys on = (on.0, on.1, on.2, go_front (x.0 + 1) xs ys on.3)

  pub go_back : (place : ℕ) (xs ys : List Placed) → GoOn place (xs ++ ys) → GoOn (past place xs) ys
  go_back place [] ys on = on
  go_back place (x ∷ xs) ys on = go_back (x.0 + 1) xs ys on.3

  -- a number of a session that was drawn at a place of this seat
  pub record DrawnHere (x n : ℕ) : Type 0 where
    pub place : ℕ
    pub entry : Entry events.Turn Answer
    pub here : slice_get log place ≡ Some entry
    pub mine : entry.seat ≡ seat
    pub above : drawn_at z mids.at log place x < n
    pub below : n ≤ drawn_at z mids.at log (place + 1) x

  -- ---- the replies so far

  pub record Along (first : ℕ → ℕ) (place : ℕ) (rs : List SaidReply) : Type 0 where
    pub along : DrawsAlong first rs (drawn_at z mids.at log place)
    pub from : RepliesFrom DrawnHere rs

  along_grown : (first mid behind : ℕ → ℕ) (rs : List SaidReply) → DrawsAlong first rs mid → ((x : ℕ) → mid x ≤ behind x)
      → DrawsAlong first rs behind
  along_grown first mid behind [] along grown = λ x. (let a = along x in let b = grown x in omega (arith, a, b))
  along_grown first mid behind (r ∷ rs) along grown =
      (along.0, along.1, along.2, along_grown (next_drawn along.0 r.keys.session r.progress) mid behind rs along.3 grown)

  along_with : (first mid behind : ℕ → ℕ) (rs : List SaidReply) (r : SaidReply) → DrawsAlong first rs mid
      → DrawsOn mid r.keys.session r.progress → ((x : ℕ) → next_drawn mid r.keys.session r.progress x ≤ behind x)
      → DrawsAlong first (rs ++ r ∷ []) behind
  along_with first mid behind [] r along on grown = (mid, along, on, grown)
  along_with first mid behind (y ∷ rs) r along on grown =
      (along.0, along.1, along.2, along_with (next_drawn along.0 y.keys.session y.progress) mid behind rs r along.3 on grown)

  from_with : (rs : List SaidReply) (r : SaidReply) → RepliesFrom DrawnHere rs → ReplyFrom DrawnHere r.keys.session r.progress
      → RepliesFrom DrawnHere (rs ++ r ∷ [])
  from_with [] r from one = (one, tt)
  from_with (y ∷ rs) r from one = (from.0, from_with rs r from.1 one)

  -- a reply that tells no number
  quiet_with : (first : ℕ → ℕ) (place : ℕ) (rs : List SaidReply) (r : SaidReply) → r.progress ≡ Stays → Along first place rs
      → Along first place (rs ++ r ∷ [])
  quiet_with first place rs r quiet i =
      let d = drawn_at z mids.at log place in
      let on : DrawsOn d r.keys.session r.progress = subst (λ (p : Progress). DrawsOn d r.keys.session p) (sym quiet) tt in
      let more : (x : ℕ) → next_drawn d r.keys.session r.progress x ≤ d x =
      subst (λ (p : Progress). (x : ℕ) → next_drawn d r.keys.session p x ≤ d x) (sym quiet) (λ x. omega arith) in
      record {
        along = along_with first d d rs r i.along on more;
        from = from_with rs r i.from (subst (λ (p : Progress). ReplyFrom DrawnHere r.keys.session p) (sym quiet) tt);
      }

  further : (first : ℕ → ℕ) (place later : ℕ) (rs : List SaidReply)
      → ((x : ℕ) → drawn_at z mids.at log place x ≤ drawn_at z mids.at log later x) → Along first place rs → Along first later rs
  further first place later rs grown i =
      record { along = along_grown first (drawn_at z mids.at log place) (drawn_at z mids.at log later) rs i.along grown; from = i.from }

  -- one that tells the number drawn at this place
  here_from : (e : Entry events.Turn Answer) (place x : ℕ) (p : Progress) → slice_get log place ≡ Some e → e.seat ≡ seat
      → DrawsOn (drawn_at z mids.at log place) x p → drawn_at z mids.at log (place + 1) ≡ next_drawn (drawn_at z mids.at log place) x p
      → ReplyFrom DrawnHere x p
  here_from e place x Stays here mine on next = tt
  here_from e place x (Interim binding) here mine on next = tt
  here_from e place x (Final binding channel encrypts) here mine on next =
      let at : drawn_at z mids.at log (place + 1) x ≡ channel = ap (λ (d : ℕ → ℕ). d x) next ∙ put_here (drawn_at z mids.at log place) x channel in
      record { place = place; entry = e; here = here; mine = mine; above = on.0; below = omega (arith, at) }
    where
      put_here : (d : ℕ → ℕ) (y n : ℕ) → put d y n y ≡ n
      put_here d y n = grind arith

  final_with : (first : ℕ → ℕ) (e : Entry events.Turn Answer) (place : ℕ) (rs : List SaidReply) (r : SaidReply)
      → slice_get log place ≡ Some e → e.seat ≡ seat → DrawsOn (drawn_at z mids.at log place) r.keys.session r.progress
      → drawn_at z mids.at log (place + 1) ≡ next_drawn (drawn_at z mids.at log place) r.keys.session r.progress → Along first place rs
      → Along first (place + 1) (rs ++ r ∷ [])
  final_with first e place rs r here mine on next i =
      record {
        along = along_with first (drawn_at z mids.at log place) (drawn_at z mids.at log (place + 1)) rs r i.along on
            (λ x. subst (λ (d : ℕ → ℕ). next_drawn (drawn_at z mids.at log place) r.keys.session r.progress x ≤ d x) (sym next) (omega arith));
        from = from_with rs r i.from (here_from e place r.keys.session r.progress here mine on next);
      }

  -- ---- what an event gives

  module _ (grows : (n m : ℕ) (x : ℕ) → drawn_at z mids.at log n x ≤ drawn_at z mids.at log (n + m) x)
      (tables : (n : ℕ) (e : Entry events.Turn Answer) → slice_get log n ≡ Some e → TablesAt (mids.at n) (drawn_at z mids.at log n))
      (next_drawn_is : (n : ℕ) (e : Entry events.Turn Answer) → slice_get log n ≡ Some e
      → drawn_at z mids.at log (n + 1) ≡ drawn_entry z (mids.at n) (Some e) (drawn_at z mids.at log n)) where
    one_on : (n : ℕ) (x : ℕ) → drawn_at z mids.at log n x ≤ drawn_at z mids.at log (n + 1) x
    one_on n x = grows n 1 x

    up_to : (place later : ℕ) → place ≤ later → (x : ℕ) → drawn_at z mids.at log place x ≤ drawn_at z mids.at log later x
    up_to place later le x =
        subst (λ (n : ℕ). drawn_at z mids.at log place x ≤ drawn_at z mids.at log n x) (let q : place + (later - place) ≡ later = omega (arith, le) in q)
        (grows place (later - place) x)

    answered_with : (first : ℕ → ℕ) (k : ℕ) (f : ServerEnd) (c : Checked) (moment : ℕ) (fresh : List ℕ) (L : Logons) (A : model.Answer)
        (e : Entry events.Turn Answer) (place : ℕ) (g : Going) (o : Option model.Message) → heard_message z L k f c ≡ o
        → slice_get log place ≡ Some e → e.seat ≡ seat
        → TurnDraws z k f c (Answered moment fresh L A) (drawn_at z mids.at log place) (drawn_at z mids.at log (place + 1))
        → Along first place g.replies
        → Along first (place + 1) (went_answered z k moment fresh f (record g { logons = L }) c o A).replies
    answered_with first k f c moment fresh L A e place g None is here mine draws i =
        further first place (place + 1) g.replies (one_on place) i
    answered_with first k f c moment fresh L A e place g (Some m) is here mine draws i =
        let d = draws m is in
        let drawn = drawn_at z mids.at log place in
        let p = progress m.command A.reply in
        let r = said_to z k moment fresh f L g.window c m.command A in
        let session : m.session_id ≡ c.header.session = heard_session z L k f c m is in
        let keyed : IsKeyed (key_sessions L) c.header.session p = subst (λ (n : ℕ). IsKeyed (key_sessions L) n p) session d.keyed in
        let named : IsAt p r.keys.session c.header.session = said_at z L k f c p keyed in
        let on : DrawsOn drawn r.keys.session p =
        draws_at drawn p r.keys.session c.header.session named (subst (λ (n : ℕ). DrawsOn drawn n p) session d.on) in
        let next : drawn_at z mids.at log (place + 1) ≡ next_drawn drawn r.keys.session p =
        d.next ∙ (ap (λ (n : ℕ). next_drawn drawn n p) session ∙ sym (drawn_same drawn p r.keys.session c.header.session named)) in
        final_with first e place g.replies r here mine on next i

    -- ---- the turns that are left behind a message, and the replies up to there

    module _ (k now : ℕ) (fresh : List ℕ) (f : ServerEnd) (first : ℕ → ℕ) where
      record Left (rest : List Checked) (turns : List Placed) (place : ℕ) (d : gives.Dealt) : Type 0 where
        later : List Placed
        next : ℕ
        fors : AreFor k f rest later
        given : AreGiven h later d.left
        on : GoOn next later
        end : past next later ≡ past place turns
        replies : Along first next d.going.replies

      given_out : (d : gives.Dealt) (c : Checked) (rest : List Checked) (x : Placed) (xs : List Placed) (g : Given) (place : ℕ)
          → AreFor k f rest xs → AreGiven h xs d.left → GoOn place (x ∷ xs)
          → TurnDraws z k f c g (drawn_at z mids.at log x.0) (drawn_at z mids.at log (x.0 + 1)) → Along first place d.going.replies
          → Left rest (x ∷ xs) place (dealt_by z k f d c g)
      given_out d c rest x xs (Answered moment fresh L A) place fors given on draws i = record {
        later = xs;
        next = x.0 + 1;
        fors = fors;
        given = given;
        on = on.3;
        end = refl;
        replies = answered_with first k f c moment fresh L A x.1 x.0 d.going (heard_message z L k f c) refl on.1 on.2 draws
            (further first place x.0 d.going.replies (up_to place x.0 on.0) i);
      }
      given_out d c rest x xs (NoMemory s) place fors given on draws i = record {
        later = xs;
        next = x.0 + 1;
        fors = fors;
        given = given;
        on = on.3;
        end = refl;
        replies = quiet_with first (x.0 + 1) d.going.replies (said_failed f d.going.window c no_memory) refl
            (further first place (x.0 + 1) d.going.replies (up_to place (x.0 + 1) (let le = on.0 in omega (arith, le))) i);
      }
      given_out d c rest x xs (Stops count) place fors given on draws i = record {
        later = xs;
        next = x.0 + 1;
        fors = fors;
        given = given;
        on = on.3;
        end = refl;
        replies = further first place (x.0 + 1) d.going.replies (up_to place (x.0 + 1) (let le = on.0 in omega (arith, le))) i;
      }

      next_out : (d : gives.Dealt) (c : Checked) (rest : List Checked) (turns : List Placed) (place : ℕ) (l : List Given)
          → AreFor k f (c ∷ rest) turns → AreGiven h turns l → GoOn place turns → Along first place d.going.replies
          → Left rest turns place (dealt_next z k f d c l)
      next_out d c rest [] place l fors given on i = absurd fors
      next_out d c rest (x ∷ xs) place [] fors given on i = absurd given
      next_out d c rest (x ∷ xs) place (g ∷ gs) fors given on i =
          let one = record d { left = gs } in
          let draws : TurnDraws z k f c g (drawn_at z mids.at log x.0) (drawn_at z mids.at log (x.0 + 1)) =
          what_draws z k f c (mids.at x.0) x.1 x.1.event.what (h.given x.0) g (h.found (x.0 + 1)) (drawn_at z mids.at log x.0)
          (drawn_at z mids.at log (x.0 + 1)) refl (mids.meets x.0 x.1 on.1) fors.0 given.0 (tables x.0 x.1 on.1) (next_drawn_is x.0 x.1 on.1) in
          either (λ (e : gives.Dealt). Left rest (x ∷ xs) place (dealt_by z k f e c g)) (is_setup c.header)
          (record one { setups = one.setups + 1 }) one
          (λ _. given_out (record one { setups = one.setups + 1 }) c rest x xs g place fors.1 given.1 on draws i)
          (λ _. given_out one c rest x xs g place fors.1 given.1 on draws i)

      -- ---- a message

      stays : (rest : List Checked) (turns : List Placed) (place : ℕ) (d : gives.Dealt) → AreFor k f rest turns → AreGiven h turns d.left
          → GoOn place turns → Along first place d.going.replies → Left rest turns place d
      stays rest turns place d fors given on i =
          record { later = turns; next = place; fors = fors; given = given; on = on; end = refl; replies = i }

      aside_stays : (c : Command) (r : model.Reply) → has_event c ≡ false → progress c r ≡ Stays
      aside_stays (Setup q) r e = absurd (let q : true ≡ false = e in cc)
      aside_stays c r e = refl

      tests_out : (d : gives.Dealt) (c : Checked) (m : model.Message) (rest : List Checked) (turns : List Placed) (place : ℕ)
          (event beyond : Bool) → has_event m.command ≡ event
          → AreFor k f ((if (if event then not beyond else false) then c ∷ [] else []) ++ rest) turns → AreGiven h turns d.left
          → GoOn place turns → Along first place d.going.replies
          → Left rest turns place (if not event then record d { going = went_heard z k now fresh f d.going c (Some m) }
          else if beyond then record d { going = went_refused f d.going c insufficient_resources } else dealt_next z k f d c d.left)
      tests_out d c m rest turns place false beyond is fors given on i =
          let A = answer_to d.going.server now m m.command in
          let r = said_to z k now fresh f d.going.logons d.going.window c m.command A in
          stays rest turns place (record d { going = went_heard z k now fresh f d.going c (Some m) }) fors given on
          (quiet_with first place d.going.replies r (aside_stays m.command A.reply is) i)
      tests_out d c m rest turns place true true is fors given on i =
          stays rest turns place (record d { going = went_refused f d.going c insufficient_resources }) fors given on
          (quiet_with first place d.going.replies (said_failed f d.going.window c insufficient_resources) refl i)
      tests_out d c m rest turns place true false is fors given on i = next_out d c rest turns place d.left fors given on i

      heard_out : (d : gives.Dealt) (c : Checked) (o : Option model.Message) (rest : List Checked) (turns : List Placed) (place : ℕ)
          → AreFor k f ((if asks_it d c o then c ∷ [] else []) ++ rest) turns → AreGiven h turns d.left → GoOn place turns
          → Along first place d.going.replies → Left rest turns place (dealt_heard z k now fresh f d c o)
      heard_out d c None rest turns place fors given on i =
          stays rest turns place (record d { going = went_heard z k now fresh f d.going c None }) fors given on i
      heard_out d c (Some m) rest turns place fors given on i =
          tests_out d c m rest turns place (has_event m.command) (is_past_setups d.setups c.header) refl fors given on i

      turn_out : (d : gives.Dealt) (c : Checked) (t : Turn) (rest : List Checked) (turns : List Placed) (place : ℕ)
          → AreFor k f (asked_in z k f d t ++ rest) turns → AreGiven h turns d.left → GoOn place turns → Along first place d.going.replies
          → Left rest turns place (dealt_turn z k now fresh f d c t)
      turn_out d c (Goes e) rest turns place fors given on i =
          heard_out d e (heard_message z d.going.logons k f e) rest turns place fors given on i
      turn_out d c (Fails status) rest turns place fors given on i =
          stays rest turns place (record d { going = went_turn z k now fresh f d.going c (Fails status) }) fors given on
          (quiet_with first place d.going.replies (said_failed f d.going.window (failed_as d.going.carried c) status) refl i)

      none_left : (turns : List Placed) (place : ℕ) (rs : List SaidReply) → AreFor k f [] turns → Along first place rs
          → Along first (past place turns) rs
      none_left [] place rs fors i = i
      none_left (x ∷ xs) place rs fors i = absurd fors

      pub all_out : (cs : List Checked) (d : gives.Dealt) (turns : List Placed) (place : ℕ)
          → AreFor k f (asked_all z k now fresh f d cs) turns → AreGiven h turns d.left → GoOn place turns → Along first place d.going.replies
          → Along first (past place turns) (dealt_all z k now fresh f d cs).going.replies
      unfolding asked_all dealt_all
      all_out [] d turns place fors given on i = none_left turns place d.going.replies fors i
      all_out (c ∷ cs) d turns place fors given on i =
          let t = turn_of d.going.carried c in
          let e = dealt_turn z k now fresh f d c t in
          elim (is_some d.stopped) as (λ b. AreFor k f (if b then [] else asked_in z k f d t ++ asked_all z k now fresh f e cs) turns
          → Along first (past place turns) (if b then d else dealt_all z k now fresh f e cs).going.replies) [
            | true ↦ λ fors. none_left turns place d.going.replies fors i
            | false ↦ λ fors. (let l = turn_out d c t (asked_all z k now fresh f e cs) turns place fors given on i in
                subst (λ (n : ℕ). Along first n (dealt_all z k now fresh f e cs).going.replies) l.end
                (all_out cs e l.later l.next l.fors l.given l.on l.replies))
          ] fors

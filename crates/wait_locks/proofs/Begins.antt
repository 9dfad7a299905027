-- What an event itself comes to.
use Rattle.std.proofs.Common.{◌≡◌, ℕ, Bool, true, false, not, ◌&&◌, if◌then◌else◌, List, [], ◌∷◌, ◌++◌, map, length, nat_le, Option, Some, None, Result, Ok, Err}
use Rattle.std.proofs.Common.{refl, ap, sym, subst, ◌∙◌, inl, inr}
use Rattle.std.proofs.lemmas.List.{append-nil}
use Rattle.std.specs.Prelude.{is_some}
use Rattle.spec_exchange.specs.State as model
use Rattle.spec_exchange.specs.Step.{step}
use Rattle.spec_crypto.specs.tokens.Tokens.{Users}
use Rattle.spec_world.specs.Ends.{Logons}
use Rattle.spec_world.specs.Lacking.{alone_records}
use Rattle.spec_wire.specs.journal.Moments.{LeavesOnly}
use Rattle.law_waiting.specs.held.Held.{would_wait}
use Rattle.law_waiting.specs.wait_steps.WaitStep.{Begun, Fails, Lacks, MadeStep, StepMishap, WaitState, begun, cancelling, own_reply, served, staying_waiters, waiter_named}
use Rattle.law_waiting.specs.wait_steps.WaitStep as waits
use Rattle.server_checks.specs.event_heard.Heard.{heard_event, without_token}
use Rattle.wire_commands.specs.declared.values.command.Command.{Command}
use Rattle.wire_commands.specs.declared.values.command.Command.TheVariants.{Setup}
use Rattle.server_checks.specs.setups.Setups.{progress_of}
use Rattle.server_checks.specs.declared.event_heard.event.ServerEvent.{ServerEvent}
use Rattle.server_checks.specs.declared.event_heard.event.ServerEvent.TheVariants as events
use Rattle.server_checks.specs.declared.setups.error.EventError.{EventError}
use Rattle.server_checks.specs.declared.setups.error.EventError.TheVariants as errors
use Rattle.server_core.specs.Shown.{config_of, disk_of, state_of, stopped_of}
use Rattle.server_core.specs.declared.server.Server.{Server}
use Rattle.server_core.specs.journaled_tables.Beside.{BesideReply, logons_behind}
use Rattle.server_core.specs.journaled_tables.Holds.{EventAnswers, EventLeavesBodies, EventRefused, JournaledGoesOn, JournaledHolds, StepAnswers, uncounted}
use Rattle.server_effects.specs.declared.answering.Answer.{Answer}
use Rattle.wait_locks.specs.Begun.{BegunBy, CancelIs, LetInIs, ServedBy, ShowsBegun, came_of, turn_of}
use Rattle.wait_locks.specs.Kept.{kept_message, waiter_of}
use Rattle.wait_locks.specs.declared.waiter.Waiter.{Waiter}
use Rattle.wait_locks.specs.Shown.{FaultIs, HoldsWaiting, own_acted, target_of}
use Rattle.wait_locks.specs.Stepping.{Befell, HoldsTill, StepGoes, Steps}
use Rattle.wait_locks.specs.Told.{response_of}
use Rattle.wait_locks.specs.declared.later.Later.{Later}
use Rattle.wait_locks.specs.declared.later.OwnAnswer.{OwnAnswer}
use Rattle.wait_locks.specs.declared.wait_server.CancelTarget.{CancelTarget}
use Rattle.wait_locks.specs.declared.wait_server.WaitServer.{WaitServer}
use Rattle.server_checks.specs.setups.Setups.{setup_message}
use Rattle.server_checks.specs.declared.setups.setup.SetupHeard.{SetupHeard}
use Rattle.wire_commands.specs.declared.values.request.Message.{Message}
use Rattle.wire_commands.specs.values.Meaning.{command_of, message_of, reply_of}
use Rattle.server_checks.specs.declared.tables.Config.{Config}
use Rattle.wait_locks.proofs.Never.{never}
use Rattle.wait_locks.proofs.Sends.{heard_so, till}

-- ---- a CANCEL

cancelling_rest : (w : WaitState) (k : ℕ) (target : waits.Target) (rest : List (Option StepMishap)) (o : Option waits.Waiter)
    → cancelling w k target rest o ≡ record (cancelling w k target [] o) { mishaps = rest }
cancelling_rest w k target rest None = refl
cancelling_rest w k target rest (Some old) = refl

module _ {D : Type 0} (told : Type 0) (seen : D → List ℕ) (may_leave : D → List ℕ → Type 0) (moment : D → ℕ) (left_since : D → ℕ → List ℕ → Type 0) (faults : D → ℕ) (old new : WaitServer D)
    (after : List Later) (w : WaitState) (L : Logons) (records : List model.Record) (now : ℕ) (at_once : Bool) (k : ℕ) (target : CancelTarget)
    (h : HoldsWaiting told seen may_leave old w L records) (none : stopped_of old.server ≡ None)
    (rest : new ≡ record old { waiters = new.waiters }) where
  abbrev came : Option waits.Waiter → Begun
  came o = cancelling w k (target_of target) [] o

  held : HoldsTill told seen may_leave (state_of new.server) w.server L (records ++ [])
  held =
      let P : Server D → Type 0 = λ z. HoldsTill told seen may_leave (state_of z) w.server L (records ++ []) in
      let Q : List model.Record → Type 0 = λ z. HoldsTill told seen may_leave (state_of old.server) w.server L z in
      subst P (sym (ap (λ (z : WaitServer D). z.server) rest)) (subst Q (sym (append-nil records)) h.server)

  cancelled_so : (o : Option waits.Waiter) → waiter_named k (target_of target) w.waiters ≡ o → CancelIs k (target_of target) o old new [] after
      → BegunBy told seen may_leave moment left_since faults old.server new after w L records now at_once events.Stop (waits.Cancels k (target_of target)) (Ok None)
  cancelled_so None e c =
      record {
        front = [];
        came = came None;
        is = λ r. ap (cancelling w k (target_of target) r) e ∙ cancelling_rest w k (target_of target) r None;
        logons = L;
        written = [];
        steps = (ap (λ (z : WaitServer D). state_of z.server) rest, refl, refl);
        holds = record {
          server = held;
          waiters = ap (map waiter_of) c.0 ∙ h.waiters;
          ids_given = ap (λ (z : WaitServer D). z.ids_given) rest ∙ h.ids_given;
          starved = ap (λ (z : WaitServer D). z.starved) rest ∙ h.starved;
          stopped = ap (λ (z : WaitServer D). stopped_of z.server) rest ∙ h.stopped;
        };
        shows = (refl, sym h.stopped ∙ none, refl, ap (map response_of) c.1);
        goes = tt;
        fault = tt;
      }
  cancelled_so (Some x) e c =
      record {
        front = [];
        came = came (Some x);
        is = λ r. ap (cancelling w k (target_of target) r) e ∙ cancelling_rest w k (target_of target) r (Some x);
        logons = L;
        written = [];
        steps = (ap (λ (z : WaitServer D). state_of z.server) rest, refl, refl);
        holds = record {
          server = held;
          waiters = c.0 ∙ ap (waits.without_named k (target_of target)) h.waiters;
          ids_given = ap (λ (z : WaitServer D). z.ids_given) rest ∙ h.ids_given;
          starved = ap (λ (z : WaitServer D). z.starved) rest ∙ h.starved;
          stopped = ap (λ (z : WaitServer D). stopped_of z.server) rest ∙ h.stopped;
        };
        shows = (refl, sym h.stopped ∙ none, refl, c.1);
        goes = tt;
        fault = tt;
      }

  pub cancelled : (before : List Later) → before ≡ []
      → CancelIs k (target_of target) (waiter_named k (target_of target) (map waiter_of old.waiters.items)) old new before after
      → BegunBy told seen may_leave moment left_since faults old.server new after w L records now at_once events.Stop (waits.Cancels k (target_of target)) (Ok None)
  cancelled before b c =
      let P : List Later → Type 0 = λ z. CancelIs k (target_of target) (waiter_named k (target_of target) (map waiter_of old.waiters.items)) old new z
      after in
      let Q : List waits.Waiter → Type 0 = λ z. CancelIs k (target_of target) (waiter_named k (target_of target) z) old new [] after in
      cancelled_so (waiter_named k (target_of target) w.waiters) refl (subst Q h.waiters (subst P b c))

-- ---- the server's own step

served_rest : (w : WaitState) (now : ℕ) (e : model.ServerEvent) (ws : List waits.Waiter) (rest : List (Option StepMishap)) (x : Option StepMishap)
    → served w now e ws rest x ≡ record (served w now e ws [] x) { mishaps = rest }
served_rest w now e ws rest None = refl
served_rest w now e ws rest (Some (Lacks t)) = refl
served_rest w now e ws rest (Some (Fails t count)) = refl

lets_none : {A : Type 0} (b c : Bool) (x y : A) → c ≡ false → (if not b && c then x else y) ≡ y
lets_none true c x y h = refl
lets_none false true x y h = absurd (cc)
lets_none false false x y h = refl

no_setup_waits : (users : Users) (L : Logons) (s : model.Server) (h : SetupHeard) → would_wait s (setup_message users L s h) ≡ None
no_setup_waits users L s h = never s (setup_message users L s h) refl

taken : {A : Type 0} (b : Bool) (x y : A) → b ≡ true → (if b then x else y) ≡ x
taken true x y h = refl
taken false x y h = absurd (cc)

both_true : (a b : Bool) → a ≡ false → b ≡ true → (not a && b) ≡ true
both_true false b h i = i
both_true true b h i = absurd (cc)

pub at_once_none : (a b : Bool) → a ≡ true → (not a && b) ≡ false
at_once_none true b h = refl
at_once_none false b h = absurd (cc)

-- ---- a LOCK that begins to wait, or is turned away

rest_if : (b : Bool) (F G : List (Option StepMishap) → Begun) → ((r : List (Option StepMishap)) → F r ≡ record (F []) { mishaps = r })
    → ((r : List (Option StepMishap)) → G r ≡ record (G []) { mishaps = r }) → (r : List (Option StepMishap))
    → (if b then F r else G r) ≡ record (if b then F [] else G []) { mishaps = r }
rest_if true F G f g r = f r
rest_if false F G f g r = g r

taken_rest : (w : WaitState) (m : model.Message) (o : Option waits.Waiter) (r : List (Option StepMishap))
    → waits.taken_in w m r o ≡ record (waits.taken_in w m [] o) { mishaps = r }
taken_rest w m (Some old) r = refl
taken_rest w m None r = rest_if (nat_le waits.max_waiters (length w.waiters)) (waits.turned_away w m) (waits.taken_behind w m) (λ z. refl) (λ z. refl) r

lets_rest : (w : WaitState) (m : model.Message) (r : List (Option StepMishap)) → waits.let_in w m r ≡ record (waits.let_in w m []) { mishaps = r }
lets_rest w m r =
    rest_if (nat_le waits.last_async_id w.ids_given) (waits.turned_away w m) (λ z. waits.taken_in w m z (waits.sent_before m w.waiters)) (λ z. refl)
    (taken_rest w m (waits.sent_before m w.waiters)) r

record KeepsAll (w : WaitState) (b : Begun) : Type 0 where
  made : b.made ≡ []
  refusal : b.refusal ≡ None
  server : b.waiting.server ≡ w.server
  starved : b.waiting.starved ≡ w.starved
  stopped : b.waiting.stopped ≡ w.stopped

keep_if : (w : WaitState) (b : Bool) (x y : Begun) → KeepsAll w x → KeepsAll w y → KeepsAll w (if b then x else y)
keep_if w true x y h i = h
keep_if w false x y h i = i

taken_keep : (w : WaitState) (m : model.Message) (o : Option waits.Waiter) → KeepsAll w (waits.taken_in w m [] o)
taken_keep w m (Some old) = record { made = refl; refusal = refl; server = refl; starved = refl; stopped = refl }
taken_keep w m None =
    keep_if w (nat_le waits.max_waiters (length w.waiters)) (waits.turned_away w m []) (waits.taken_behind w m [])
    (record { made = refl; refusal = refl; server = refl; starved = refl; stopped = refl })
    (record { made = refl; refusal = refl; server = refl; starved = refl; stopped = refl })

lets_keep : (w : WaitState) (m : model.Message) → KeepsAll w (waits.let_in w m [])
lets_keep w m =
    keep_if w (nat_le waits.last_async_id w.ids_given) (waits.turned_away w m []) (waits.taken_in w m [] (waits.sent_before m w.waiters))
    (record { made = refl; refusal = refl; server = refl; starved = refl; stopped = refl }) (taken_keep w m (waits.sent_before m w.waiters))

pub chosen : {A : Type 0} (b : Bool) (x y : A) → b ≡ false → (if b then x else y) ≡ y
chosen true x y h = absurd (cc)
chosen false x y h = refl

-- the message as the server's step hears it
abbrev pub as_heard : Message → model.Message
as_heard m = record (message_of m) { command = without_token (command_of m.command) }

heard_by : (s : model.Server) (m : Message) (c : Command) → would_wait s (record (message_of m) { command = command_of c }) ≡ None
    → would_wait s (record (message_of m) { command = without_token (command_of c) }) ≡ None
heard_by s m (Setup r) h = never s (record (message_of m) { command = without_token (command_of (Setup r)) }) refl
heard_by s m _ h = h

pub not_heard : (b : Bool) (s : model.Server) (m : Message) → would_wait s (message_of m) ≡ None
    → (not b && is_some (would_wait s (as_heard m))) ≡ false
not_heard true s m h = refl
not_heard false s m h = ap is_some (heard_by s m m.command h)

module _ {D : Type 0} (told : Type 0) (seen : D → List ℕ) (may_leave : D → List ℕ → Type 0) (moment : D → ℕ) (left_since : D → ℕ → List ℕ → Type 0) (faults : D → ℕ) where
  module _ (from : Server D) (new : WaitServer D) (finals : List Later) (w : WaitState) (L : Logons) (records : List model.Record) (now : ℕ)
      (at_once : Bool) where
    goes_there : (e : ServerEvent) (x : Option StepMishap) (rest : List (Option StepMishap)) → ((m : Message) → e ≡ events.Message m → ⊥)
        → begun w (turn_of now at_once (waits.Serves (heard_event (config_of from).users L w.server e)) (x ∷ rest))
        (waits.Serves (heard_event (config_of from).users L w.server e))
        ≡ served w now (heard_event (config_of from).users L w.server e)
        (staying_waiters w.waiters (waits.Serves (heard_event (config_of from).users L w.server e))) rest x
    goes_there (events.Accept k) x rest apart = refl
    goes_there (events.Message m) x rest apart = absurd (apart m refl)
    goes_there (events.Setup setup) x rest apart =
        let m = setup_message (config_of from).users L w.server setup in
        lets_none at_once (is_some (would_wait w.server m)) (waits.let_in w m (x ∷ rest))
        (served w now (model.Heard m) (staying_waiters w.waiters (waits.Serves (model.Heard m))) rest x)
        (ap is_some (no_setup_waits (config_of from).users L w.server setup))
    goes_there (events.End k) x rest apart = refl
    goes_there events.Stop x rest apart = refl

    pub served_begun : (e : ServerEvent) (result : Result (Option OwnAnswer) EventError) → finals ≡ [] → ((m : Message) → e ≡ events.Message m → ⊥)
        → ServedBy told seen may_leave moment left_since faults from new w L records now e result
        → BegunBy told seen may_leave moment left_since faults from new finals w L records now at_once e (waits.Serves (heard_event (config_of from).users L w.server e))
        result
    served_begun e result f apart s =
        let P : List Later → Type 0 = λ z. ShowsBegun result z (came_of (config_of from).users w L now e s.mishap) in
        record {
          front = s.mishap ∷ [];
          came = came_of (config_of from).users w L now e s.mishap;
          is = λ rest.
              goes_there e s.mishap rest apart
              ∙ served_rest w now (heard_event (config_of from).users L w.server e)
              (staying_waiters w.waiters (waits.Serves (heard_event (config_of from).users L w.server e))) rest s.mishap;
          logons = s.logons;
          written = s.written;
          steps = s.steps;
          holds = s.holds;
          shows = subst P (sym f) s.shows;
          goes = s.goes;
          fault = s.fault;
        }

    -- a request that isn't to wait
    pub message_begun : (m : Message) (result : Result (Option OwnAnswer) EventError) → finals ≡ []
        → (not at_once && is_some (would_wait w.server (as_heard m))) ≡ false
        → ServedBy told seen may_leave moment left_since faults from new w L records now (events.Message m) result
        → BegunBy told seen may_leave moment left_since faults from new finals w L records now at_once (events.Message m)
        (waits.Serves (heard_event (config_of from).users L w.server (events.Message m))) result
    message_begun m result f test s =
        let P : List Later → Type 0 = λ z. ShowsBegun result z (came_of (config_of from).users w L now (events.Message m) s.mishap) in
        let h : model.Message = as_heard m in
        record {
          front = s.mishap ∷ [];
          came = came_of (config_of from).users w L now (events.Message m) s.mishap;
          is = λ rest.
              chosen (not at_once && is_some (would_wait w.server h)) (waits.let_in w h (s.mishap ∷ rest))
              (served w now (model.Heard h) w.waiters rest s.mishap) test
              ∙ served_rest w now (model.Heard h) w.waiters rest s.mishap;
          logons = s.logons;
          written = s.written;
          steps = s.steps;
          holds = s.holds;
          shows = subst P (sym f) s.shows;
          goes = s.goes;
          fault = s.fault;
        }

    -- one that begins to wait
    pub waits_begun : (old : WaitServer D) (m : Message) (k : Waiter) (before : List Later) (l : OwnAnswer) → from ≡ old.server → at_once ≡ false
        → message_of m ≡ kept_message k → is_some (would_wait w.server (kept_message k)) ≡ true
        → HoldsWaiting told seen may_leave old w L records → stopped_of old.server ≡ None → before ≡ []
        → new ≡ record old { waiters = new.waiters; ids_given = new.ids_given }
        → LetInIs (waits.let_in w (kept_message k) []) new before finals l
        → BegunBy told seen may_leave moment left_since faults from new finals w L records now at_once (events.Message m)
        (waits.Serves (heard_event (config_of from).users L w.server (events.Message m))) (Ok (Some l))
    waits_begun old m k before l same once is test h none b rest lists =
        let K : model.Message = kept_message k in let c : Begun = waits.let_in w K [] in
        let keeps : KeepsAll w c = lets_keep w K in
        let E : model.ServerEvent → Type 0 = λ z. BegunBy told seen may_leave moment left_since faults from new finals w L records now at_once (events.Message m)
        (waits.Serves z) (Ok (Some l)) in
        let es : new.server ≡ old.server = ap (λ (z : WaitServer D). z.server) rest in
        let P : Server D → Type 0 = λ z. HoldsTill told seen may_leave (state_of z) w.server L (records ++ []) in
        let Q : List model.Record → Type 0 = λ z. HoldsTill told seen may_leave (state_of old.server) w.server L z in
        let R : model.Server → Type 0 = λ z. HoldsTill told seen may_leave (state_of new.server) z L (records ++ []) in
        let S : List MadeStep → Type 0 = λ z. Steps told seen may_leave moment left_since faults (config_of from).users now (events.Message m) (state_of from)
        (state_of new.server) L records z L [] in
        let F : List Later → Type 0 = λ z. map response_of finals ≡ map response_of z ++ c.replies.finals in
        subst E (sym (heard_so (config_of from).users L w.server m k is))
        (record {
          front = [];
          came = c;
          is = λ r.
              taken (not at_once && is_some (would_wait w.server K)) (waits.let_in w K r)
              (waits.to_server w (turn_of now at_once (waits.Serves (model.Heard K)) r) (model.Heard K)) (both_true at_once (is_some (would_wait w.server K)) once test)
              ∙ lets_rest w K r;
          logons = L;
          written = [];
          steps = subst S (sym keeps.made) (ap state_of es ∙ ap state_of (sym same), refl, refl);
          holds = record {
            server = subst R (sym keeps.server) (subst P (sym es) (subst Q (sym (append-nil records)) h.server));
            waiters = lists.waiters;
            ids_given = lists.ids_given;
            starved = ap (λ (z : WaitServer D). z.starved) rest ∙ h.starved ∙ sym keeps.starved;
            stopped = ap stopped_of es ∙ h.stopped ∙ sym keeps.stopped;
          };
          shows = (keeps.refusal, keeps.stopped ∙ (sym h.stopped ∙ none), lists.own, subst F b lists.finals);
          goes = record {
            acted = lists.alone.acted ∙ sym (ap own_acted keeps.made);
            beside = (lists.alone.token, lists.alone.keys, lists.alone.channel);
          };
          fault = tt;
        })

  module _ (old new : WaitServer D) (w : WaitState) (L : Logons) (records : List model.Record) (now : ℕ) (own : ServerEvent)
      (h : HoldsWaiting told seen may_leave old w L records) (none : stopped_of old.server ≡ None) where
    abbrev e : model.ServerEvent
    e = heard_event (config_of old.server).users L w.server own

    abbrev A : model.Answer
    A = step w.server now e

    abbrev M : Logons
    M = logons_behind (config_of old.server).users L own now (progress_of e A.reply)

    goes_on : w.stopped ≡ None
    goes_on = sym h.stopped ∙ none

    module _ (lists : map waiter_of new.waiters.items ≡ staying_waiters (map waiter_of old.waiters.items) (waits.Serves e))
        (ids : new.ids_given ≡ old.ids_given)
        (leaves : told → (bodies : List (List ℕ)) → JournaledGoesOn seen may_leave [] (state_of old.server) w.server records bodies
        → LeavesOnly moment left_since (disk_of old.server) (disk_of new.server) (EventLeavesBodies w.server now e bodies)) where
      asked : (r : Result Answer EventError) (y : Option StepMishap) (N : Logons) (front : List model.Record)
          → EventAnswers told seen may_leave [] faults (state_of old.server) (state_of new.server) (config_of old.server).users w.server L records now own r
          → Befell now r (waits.own_step w.server now e y) e L M N front
          → StepGoes told seen may_leave moment left_since faults (config_of old.server).users now own (state_of old.server) (state_of new.server) L records
          (waits.own_step w.server now e y) N front
      asked r y N front a b = (
        h.server.holds none,
        none,
        inl (record { event = own; heard = refl; result = r; answers = a; answer = refl; befell = b; any_moment = leaves }),
      )

      stay : map waiter_of new.waiters.items ≡ staying_waiters w.waiters (waits.Serves e)
      stay = lists ∙ ap (λ us. staying_waiters us (waits.Serves e)) h.waiters

      pub served_well : (r : Answer) (l : OwnAnswer) → l.answer ≡ r
          → ((q : model.Reply) → own_reply e q ≡ record { connection = l.connection; message = l.message; async_id = l.async_id; reply = q })
          → new.starved ≡ old.starved → config_of new.server ≡ config_of old.server → StepAnswers told seen may_leave [] (state_of new.server) w.server L records now own r A
          → ServedBy told seen may_leave moment left_since faults old.server new w L records now own (Ok (Some l))
      served_well r l same asker starved config a =
          let R : Config → Type 0 = λ z. BesideReply z.users L own now (progress_of (heard_event z.users L w.server own) A.reply) r.token r.keys r.channel in
          let S : Answer → Type 0 = λ z. BesideReply (config_of old.server).users L own now (progress_of e A.reply) z.token z.keys z.channel in
          let P : List model.Record → Type 0 = λ z. JournaledHolds told seen may_leave (state_of new.server) A.server M (records ++ z) in
          let Q : Config → Type 0 = λ z. JournaledHolds told seen may_leave (state_of new.server) A.server
          (logons_behind z.users L own now (progress_of (heard_event z.users L w.server own) A.reply)) (records ++ A.records) in
          record {
            mishap = None;
            logons = M;
            written = A.records ++ [];
            steps = (
              state_of new.server,
              M,
              A.records,
              [],
              asked (Ok r) None M A.records a (refl, refl, refl),
              (refl, refl, refl),
              refl,
            );
            holds = record {
              server = till told seen may_leave (state_of new.server) A.server M (records ++ (A.records ++ []))
                  (subst P (sym (append-nil A.records)) (subst Q config a.4));
              waiters = stay;
              ids_given = ids ∙ h.ids_given;
              starved = starved ∙ h.starved;
              stopped = a.0 ∙ sym goes_on;
            };
            shows = (
              refl,
              goes_on,
              ap Some
                  (ap (λ z. record { connection = l.connection; message = l.message; async_id = l.async_id; reply = z })
                  (ap (λ (z : Answer). reply_of z.reply) same ∙ a.1)
                  ∙ sym (asker A.reply)),
              refl,
            );
            goes = record { acted = ap (λ (z : Answer). z.acted) same ∙ a.2; beside = subst S (sym same) (subst R config a.3) };
            fault = tt;
          }

      ill : (x : EventError) (y : StepMishap) (t : model.Server) (N : Logons) (front : List model.Record) (stopped : Option ℕ)
          → came_of (config_of old.server).users w L now own (Some y)
          ≡ record {
            waiting = record w { server = t; waiters = staying_waiters w.waiters (waits.Serves e); starved = true; stopped = stopped };
            began = None;
            replies = waits.no_responses;
            made = waits.own_step w.server now e (Some y) ∷ [];
            mishaps = [];
            refusal = (came_of (config_of old.server).users w L now own (Some y)).refusal;
          }
          → new.starved ≡ true → stopped_of new.server ≡ stopped
          → StepGoes told seen may_leave moment left_since faults (config_of old.server).users now own (state_of old.server) (state_of new.server) L records
          (waits.own_step w.server now e (Some y)) N front
          → HoldsTill told seen may_leave (state_of new.server) t N (records ++ (front ++ []))
          → ShowsBegun (Err x) [] (came_of (config_of old.server).users w L now own (Some y)) → FaultIs {T = Option OwnAnswer} faults new.server (Err x)
          → ServedBy told seen may_leave moment left_since faults old.server new w L records now own (Err x)
      ill x y t N front stopped same starved stops goes holds shows fault =
          let P : Begun → Type 0 = λ z. Steps told seen may_leave moment left_since faults (config_of old.server).users now own (state_of old.server) (state_of new.server) L
          records z.made N (front ++ []) in
          let Q : Begun → Type 0 = λ z. HoldsWaiting told seen may_leave new z.waiting N (records ++ (front ++ [])) in
          record {
            mishap = Some y;
            logons = N;
            written = front ++ [];
            steps = subst P (sym same) (state_of new.server, N, front, [], goes, (refl, refl, refl), refl);
            holds = subst Q (sym same)
                (record { server = holds; waiters = stay; ids_given = ids ∙ h.ids_given; starved = starved; stopped = stops });
            shows = shows;
            goes = tt;
            fault = fault;
          }

      none_left : (s : model.Server) (N : Logons) (front : List model.Record) → HoldsTill told seen may_leave (state_of new.server) s N (records ++ front)
          → HoldsTill told seen may_leave (state_of new.server) s N (records ++ (front ++ []))
      none_left s N front i =
          let P : List model.Record → Type 0 = λ z. HoldsTill told seen may_leave (state_of new.server) s N (records ++ z) in
          subst P (sym (append-nil front)) i

      pub served_ill : new.starved ≡ true → (x : EventError)
          → EventRefused told seen may_leave [] faults x (state_of old.server) (state_of new.server) w.server L records now e M
          → ServedBy told seen may_leave moment left_since faults old.server new w L records now own (Err x)
      served_ill starved errors.Memory a =
          let P : List model.Record → Type 0 = λ z. HoldsTill told seen may_leave (state_of new.server) w.server L z in
          elim (a.1) [
            | inl i ↦
                ill errors.Memory (Lacks w.server) w.server L [] w.stopped refl starved (a.0 ∙ sym goes_on)
                (asked (Err errors.Memory) (Some (Lacks w.server)) L [] (a.0, inl i) (refl, inl (refl, refl)))
                (none_left w.server L []
                (subst P (sym (append-nil records)) (till told seen may_leave (state_of new.server) w.server L records i))) refl tt
            | inr i ↦
                ill errors.Memory (Lacks i.1) i.1 L (alone_records w.server now e i.0) w.stopped refl starved (a.0 ∙ sym goes_on)
                (asked (Err errors.Memory) (Some (Lacks i.1)) L (alone_records w.server now e i.0) (a.0, inr i)
                (refl, inr (i.0, i.1, i.2, refl, refl)))
                (none_left i.1 L (alone_records w.server now e i.0)
                (till told seen may_leave (state_of new.server) i.1 L (records ++ alone_records w.server now e i.0) i.3)) refl tt
          ]
      served_ill starved (errors.DiskFault count) a =
          elim (a.4) [
            | inl i ↦
                ill (errors.DiskFault count) (Fails (uncounted w.server A.server) count) (uncounted w.server A.server) M [] (Some count) refl starved a.1
                (asked (Err (errors.DiskFault count)) (Some (Fails (uncounted w.server A.server) count)) M [] (a.0, a.1, a.2, a.3, inl i)
                (refl, inl (refl, refl)))
                (none_left (uncounted w.server A.server) M []
                (record { shown = i; holds = λ z. absurd (let q : Some count ≡ None = sym a.1 ∙ z in cc) })) refl (a.1, a.3)
            | inr i ↦
                ill (errors.DiskFault count) (Fails (uncounted w.server i.1) count) (uncounted w.server i.1) L [] (Some count) refl starved a.1
                (asked (Err (errors.DiskFault count)) (Some (Fails (uncounted w.server i.1) count)) L [] (a.0, a.1, a.2, a.3, inr i)
                (refl, inr (i.0, i.1, i.2, refl, refl)))
                (none_left (uncounted w.server i.1) L []
                (record { shown = i.3; holds = λ z. absurd (let q : Some count ≡ None = sym a.1 ∙ z in cc) })) refl (a.1, a.3)
          ]
      served_ill starved (errors.Stopped count) a = absurd (let q : Some count ≡ None = sym a.0 ∙ none in cc)

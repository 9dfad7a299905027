-- One event: what it itself came to, and then those that it lets go.
use Rattle.std.proofs.Common.{◌≡◌, ℕ, Bool, true, List, [], ◌∷◌, ◌++◌, map, length, Option, Some, None, Result, Ok, Err}
use Rattle.std.proofs.Common.{refl, ap, sym, subst, ◌∙◌, append_assoc}
use Rattle.std.proofs.lemmas.List.{append-nil}
use Rattle.std.specs.Prelude.{IfOk, IfSome, false, option_map}
use Rattle.spec_exchange.specs.State as model
use Rattle.spec_crypto.specs.tokens.Tokens.{Users}
use Rattle.spec_world.specs.Ends.{Logons}
use Rattle.law_waiting.specs.wait_steps.WaitStep.{Begun, MadeStep, StepMishap, Tried, WaitAnswer, WaitRefusal, WaitState, WaitTurn, begun, lacking, then_tried}
use Rattle.law_waiting.specs.wait_steps.WaitStep.{result_of, standing_step, staying_waiters, step_unless, tried, tried_behind, wait_step}
use Rattle.law_waiting.specs.wait_steps.WaitStep as waits
use Rattle.server_checks.specs.declared.event_heard.event.ServerEvent.{ServerEvent}
use Rattle.server_core.specs.declared.journaled_tables.state.ServerState.{ServerState}
use Rattle.server_core.specs.Shown.{config_of, state_of, stopped_of}
use Rattle.server_core.specs.declared.server.Server.{Server}
use Rattle.wait_locks.specs.Begun.{BegunBy, turn_of}
use Rattle.wait_locks.specs.Kept.{waiter_of}
use Rattle.wait_locks.specs.Told.{own_response, response_of}
use Rattle.wait_locks.specs.declared.later.Later.{Later}
use Rattle.wait_locks.specs.declared.later.OwnAnswer.{OwnAnswer}
use Rattle.wait_locks.specs.Shown.{FaultIs, HoldsWaiting, OwnGoes, ShowsTurn, TurnAnswers, own_acted, own_event, wait_event}
use Rattle.wait_locks.proofs.Lasting.{none_acted, own_behind, turn_last}
use Rattle.wait_locks.proofs.Leaving.{Stands, all_left}
use Rattle.wait_locks.specs.Rounds.{AllTried, TriedBy, users_of}
use Rattle.wait_locks.specs.Stepping.{HoldsTill, Steps}
use Rattle.wait_locks.specs.declared.later.LaterList.{LaterList}
use Rattle.wait_locks.specs.declared.wait_server.WaitEvent.{WaitEvent}
use Rattle.wait_locks.specs.declared.wait_server.WaitServer.{WaitServer}
use Rattle.server_checks.specs.declared.setups.error.EventError.{EventError}
use Rattle.server_checks.specs.declared.setups.error.EventError.TheVariants as errors

-- ---- the model's step, by what stands

pub stopped_step : (w : WaitState) (t : WaitTurn) (count : ℕ) → w.stopped ≡ Some count
    → wait_step w t ≡ record { waiting = w; began = None; result = Err (waits.Stopped count); made = [] }
unfolding wait_step
stopped_step w t count e = ap (step_unless w t) e

pub going_step : (w : WaitState) (t : WaitTurn) → w.stopped ≡ None → wait_step w t ≡ standing_step w t
unfolding wait_step
going_step w t e = ap (step_unless w t) e

pub begun_step : (w : WaitState) (now : ℕ) (at_once : Bool) (e : waits.WaitEvent) (ms : List (Option StepMishap)) (b : Begun) → w.stopped ≡ None
    → begun w (turn_of now at_once e ms) e ≡ b → wait_step w (turn_of now at_once e ms) ≡ then_tried now b b.refusal
begun_step w now at_once e ms b none is =
    going_step w (turn_of now at_once e ms) none ∙ ap (λ (z : Begun). then_tried now z z.refusal) is

-- ---- steps behind steps

module _ {D : Type 0} (told : Type 0) (seen : D → List ℕ) (may_leave : D → List ℕ → Type 0) (moment : D → ℕ) (left_since : D → ℕ → List ℕ → Type 0) (faults : D → ℕ) (users : Users) (now : ℕ)
    (own : ServerEvent) where
  abbrev All : ServerState D → ServerState D → Logons → List model.Record → List MadeStep → Logons → List model.Record → Type 0
  All = Steps told seen may_leave moment left_since faults users now own

  pub joined : (xs ys : List MadeStep) (c b d : ServerState D) (L N M : Logons) (records front rest : List model.Record) → All c b L records xs N front
      → All b d N (records ++ front) ys M rest → All c d L records (xs ++ ys) M (front ++ rest)
  joined [] ys c b d L N M records front rest h g =
      let P : ServerState D → Type 0 = λ z. All z d N (records ++ front) ys M rest in
      let Q : Logons → Type 0 = λ z. All c d z (records ++ front) ys M rest in
      let R : List model.Record → Type 0 = λ z. All c d L (records ++ z) ys M rest in
      let S : List model.Record → Type 0 = λ z. All c d L z ys M rest in
      let T : List model.Record → Type 0 = λ z. All c d L records ys M (z ++ rest) in
      subst T (sym h.2) (subst S (append-nil records) (subst R h.2 (subst Q h.1 (subst P h.0 g))))
  joined (x ∷ xs) ys c b d L N M records front rest h g =
      let P : List model.Record → Type 0 = λ z. All b d N (records ++ z) ys M rest in
      let Q : List model.Record → Type 0 = λ z. All b d N z ys M rest in (
        h.0,
        h.1,
        h.2,
        h.3 ++ rest,
        h.4,
        joined xs ys h.0 b d h.1 N M (records ++ h.2) h.3 rest h.5 (subst Q (sym (append_assoc records h.2 h.3)) (subst P h.6 g)),
        ap (λ z. z ++ rest) h.6 ∙ append_assoc h.2 h.3 rest,
      )

pub moved : {D : Type 0} (told : Type 0) (seen : D → List ℕ) (may_leave : D → List ℕ → Type 0) (old mid : WaitServer D) (w : WaitState) (L : Logons)
    (records : List model.Record) → mid.waiters.items ≡ old.waiters.items → mid ≡ record old { waiters = mid.waiters }
    → HoldsWaiting told seen may_leave old w L records → HoldsWaiting told seen may_leave mid w L records
moved {D} told seen may_leave old mid w L records items e h =
    let es : mid.server ≡ old.server = ap (λ (z : WaitServer D). z.server) e in
    let P : Server D → Type 0 = λ z. HoldsTill told seen may_leave (state_of z) w.server L records in
    record {
      server = subst P (sym es) h.server;
      waiters = ap (map waiter_of) items ∙ h.waiters;
      ids_given = ap (λ (z : WaitServer D). z.ids_given) e ∙ h.ids_given;
      starved = ap (λ (z : WaitServer D). z.starved) e ∙ h.starved;
      stopped = ap stopped_of es ∙ h.stopped;
    }

-- ---- the whole turn

module _ {D : Type 0} (told : Type 0) (seen : D → List ℕ) (may_leave : D → List ℕ → Type 0) (moment : D → ℕ) (left_since : D → ℕ → List ℕ → Type 0) (faults : D → ℕ) (from : Server D) (w : WaitState)
    (L : Logons) (records : List model.Record) (now : ℕ) (at_once : Bool) (event : WaitEvent)
    (only_now : (disk : D) (c : List ℕ) → left_since disk (moment disk) c → may_leave disk c)
    (stands : told → stopped_of from ≡ None → Stands seen may_leave (state_of from) records) where
  abbrev ev : waits.WaitEvent
  ev = wait_event (config_of from).users L w.server event

  abbrev Own : ServerState D → List MadeStep → Logons → List model.Record → Type 0
  Own d made M written = Steps told seen may_leave moment left_since faults (config_of from).users now (own_event event) (state_of from) d L records made M written

  -- by what the model's step comes to
  answered : (t : WaitTurn) (A : WaitAnswer) (new : WaitServer D) (M : Logons) (written : List model.Record) (R : Result LaterList EventError)
      → t.now ≡ now → t.at_once ≡ at_once → t.event ≡ ev → wait_step w t ≡ A → Own (state_of new.server) A.made M written → ShowsTurn R A.result
      → IfOk R (λ l. IfSome l.own (OwnGoes (config_of from).users L w.server now (own_event event) A.made)) → FaultIs faults new.server R
      → HoldsWaiting told seen may_leave new A.waiting M (records ++ written)
      → TurnAnswers told seen may_leave moment left_since faults from new w L records now at_once event R
  answered t A new M written R n o v e steps shows goes fault holds =
      let P : WaitAnswer → Type 0 = λ z. Own (state_of new.server) z.made M written in let Q : WaitAnswer → Type 0 = λ z. ShowsTurn R z.result in
      let S : WaitAnswer → Type 0 = λ z. HoldsWaiting told seen may_leave new z.waiting M (records ++ written) in
      let T : WaitAnswer → Type 0 = λ z. IfOk R (λ l. IfSome l.own (OwnGoes (config_of from).users L w.server now (own_event event) z.made)) in
      record {
        turn = t;
        now_is = n;
        at_once_is = o;
        event_is = v;
        logons = M;
        written = written;
        steps = subst P (sym e) steps;
        result_is = subst Q (sym e) shows;
        goes = subst T (sym e) goes;
        fault = fault;
        any_moment = λ tells none.
            all_left told seen may_leave moment left_since faults (config_of from).users now (own_event event) only_now tells (wait_step w t).made
            (state_of from) (state_of new.server) L M records written (turn_last w t) (stands tells none) (subst P (sym e) steps);
        holds = subst S (sym e) holds;
      }

  -- the waiters' steps behind it change nothing of its own answer
  goes_behind : (o : Option OwnAnswer) (xs ys : List MadeStep)
      → IfSome o (OwnGoes (config_of from).users L w.server now (own_event event) xs) → own_acted ys ≡ false
      → IfSome o (OwnGoes (config_of from).users L w.server now (own_event event) (xs ++ ys))
  goes_behind None xs ys h e = tt
  goes_behind (Some a) xs ys h e = record { acted = h.acted ∙ sym (own_behind xs ys e); beside = h.beside }

  none_more : (new : WaitServer D) (v : WaitState) → HoldsWaiting told seen may_leave new v L records
      → HoldsWaiting told seen may_leave new v L (records ++ [])
  none_more new v h = let P : List model.Record → Type 0 = λ z. HoldsWaiting told seen may_leave new v L z in subst P (sym (append-nil records)) h

  -- a server that has stopped
  pub stops : (count : ℕ) (old : WaitServer D) → from ≡ old.server → HoldsWaiting told seen may_leave old w L records
      → stopped_of old.server ≡ Some count → TurnAnswers told seen may_leave moment left_since faults from old w L records now at_once event (Err (errors.Stopped count))
  stops count old same h s =
      answered (turn_of now at_once ev []) (record { waiting = w; began = None; result = Err (waits.Stopped count); made = [] }) old L []
      (Err (errors.Stopped count)) refl refl refl (stopped_step w (turn_of now at_once ev []) count (sym h.stopped ∙ s))
      (ap state_of (sym same), refl, refl) refl tt tt (none_more old w h)

  -- no memory before any step
  lacking_turn : WaitTurn
  lacking_turn = record { now = now; at_once = at_once; event = ev; lacks = true; mishaps = [] }

  pub lacks_all : (old new : WaitServer D) → from ≡ old.server → HoldsWaiting told seen may_leave old w L records → stopped_of old.server ≡ None
      → new.server ≡ old.server → new.ids_given ≡ old.ids_given → new.starved ≡ true
      → map waiter_of new.waiters.items ≡ staying_waiters (map waiter_of old.waiters.items) ev
      → TurnAnswers told seen may_leave moment left_since faults from new w L records now at_once event (Err errors.Memory)
  lacks_all old new same h none server ids starved lists =
      let t : WaitTurn = record { now = now; at_once = at_once; event = ev; lacks = true; mishaps = [] } in
      let P : ServerState D → Type 0 = λ z. HoldsTill told seen may_leave z w.server L records in
      answered t (lacking w t) new L [] (Err errors.Memory) refl refl refl (going_step w t (sym h.stopped ∙ none))
      (ap state_of server ∙ ap state_of (sym same), refl, refl) refl tt tt
      (none_more new (lacking w t).waiting
      (record {
        server = subst P (sym (ap state_of server)) h.server;
        waiters = lists ∙ ap (λ us. staying_waiters us ev) h.waiters;
        ids_given = ids ∙ h.ids_given;
        starved = starved;
        stopped = ap stopped_of server ∙ h.stopped;
      }))

  -- the event itself was refused
  module _ (mid : WaitServer D) (finals : List Later) (none : w.stopped ≡ None) where
    refused_as : (x : EventError) (r : WaitRefusal)
        → (h : BegunBy told seen may_leave moment left_since faults from mid finals w L records now at_once (own_event event) ev (Err x))
        → h.came.refusal ≡ Some r → ShowsTurn (Err x) (Err r)
        → TurnAnswers told seen may_leave moment left_since faults from mid w L records now at_once event (Err x)
    refused_as x r h e shows =
        let b : Begun = record h.came { mishaps = [] } in
        answered (turn_of now at_once ev (h.front ++ []))
        (record { waiting = h.came.waiting; began = h.came.began; result = Err r; made = h.came.made }) mid h.logons h.written (Err x) refl refl refl
        (begun_step w now at_once ev (h.front ++ []) b none (h.is []) ∙ ap (then_tried now b) e) h.steps shows tt h.fault h.holds

    pub refused : (x : EventError) → BegunBy told seen may_leave moment left_since faults from mid finals w L records now at_once (own_event event) ev (Err x)
        → TurnAnswers told seen may_leave moment left_since faults from mid w L records now at_once event (Err x)
    refused errors.Memory h = refused_as errors.Memory waits.NoMemory h h.shows refl
    refused (errors.DiskFault count) h = refused_as (errors.DiskFault count) (waits.DiskFault count) h h.shows refl
    refused (errors.Stopped count) h = absurd h.shows

    -- or it was begun, and then all were tried
    module _ (own : Option OwnAnswer) (h : BegunBy told seen may_leave moment left_since faults from mid finals w L records now at_once (own_event event) ev (Ok own))
        (new : WaitServer D) (after : List Later) (users : users_of mid ≡ (config_of from).users) (ids : new.ids_given ≡ mid.ids_given) where
      abbrev all : List (Option StepMishap) → Tried
      all ms = tried now h.came.waiting.server (map waiter_of mid.waiters.items) ms (length (map waiter_of mid.waiters.items))

      ended : (ms : List (Option StepMishap)) (R : Result LaterList EventError)
          → TriedBy told seen may_leave moment left_since faults now (own_event event) mid new finals after h.logons (records ++ h.written) (all ms)
          → ShowsTurn R (result_of h.came.replies (all ms).finals (all ms).failed)
          → IfOk R (λ l. IfSome l.own (OwnGoes (config_of from).users L w.server now (own_event event) (h.came.made ++ (all ms).made)))
          → FaultIs faults new.server R
          → TurnAnswers told seen may_leave moment left_since faults from new w L records now at_once event R
      ended ms R a shows goes fault =
          let b : Begun = record h.came { mishaps = ms } in
          let P : Users → Type 0 = λ u. Steps told seen may_leave moment left_since faults u now (own_event event) (state_of mid.server) (state_of new.server) h.logons
          (records ++ h.written) (all ms).made h.logons a.written in
          let Q : List model.Record → Type 0 = λ z. HoldsTill told seen may_leave (state_of new.server) (all ms).server h.logons z in
          answered (turn_of now at_once ev (h.front ++ ms)) (tried_behind b (all ms)) new h.logons (h.written ++ a.written) R refl refl refl
          (begun_step w now at_once ev (h.front ++ ms) b none (h.is ms) ∙ ap (then_tried now b) h.shows.0
          ∙ ap (λ us. tried_behind b (tried now h.came.waiting.server us ms (length us))) (sym h.holds.waiters))
          (joined told seen may_leave moment left_since faults (config_of from).users now (own_event event) h.came.made (all ms).made (state_of from) (state_of mid.server)
          (state_of new.server) L h.logons h.logons records h.written a.written h.steps (subst P users a.steps)) shows goes fault
          (record {
            server = subst Q (append_assoc records h.written a.written) a.holds;
            waiters = a.waiters;
            ids_given = ids ∙ h.holds.ids_given;
            starved = a.starved;
            stopped = a.stopped;
          })

      pub goes_well : (u : Unit {0}) (l : LaterList) → l.own ≡ own → l.finals.items ≡ after
          → AllTried {T = Unit {0}} told seen may_leave moment left_since faults now (own_event event) mid new finals after (Ok u) h.came.waiting.server h.logons
          (records ++ h.written)
          → TurnAnswers told seen may_leave moment left_since faults from new w L records now at_once event (Ok l)
      goes_well u l o f a =
          let P : Option ℕ → Type 0 = λ z. ShowsTurn (Ok l) (result_of h.came.replies (all a.0).finals z) in
          let G : Option OwnAnswer → Type 0 = λ z. IfSome z
          (OwnGoes (config_of from).users L w.server now (own_event event) (h.came.made ++ (all a.0).made)) in
          ended a.0 (Ok l) a.1
          (subst P (sym a.3) (
            ap (option_map own_response) o ∙ h.shows.2,
            ap (map response_of) f ∙ a.1.finals a.3 ∙ ap (λ z. z ++ (all a.0).finals) h.shows.3,
          ))
          (subst G (sym o)
          (goes_behind own h.came.made (all a.0).made h.goes
          (none_acted now h.came.waiting.server (map waiter_of mid.waiters.items) a.0 (length (map waiter_of mid.waiters.items))))) tt

      pub goes_ill : (x : EventError)
          → AllTried {T = Unit {0}} told seen may_leave moment left_since faults now (own_event event) mid new finals after (Err x) h.came.waiting.server h.logons
          (records ++ h.written)
          → TurnAnswers told seen may_leave moment left_since faults from new w L records now at_once event (Err x)
      goes_ill errors.Memory a = absurd a.3
      goes_ill (errors.DiskFault count) a =
          let P : Option ℕ → Type 0 = λ z. result_of h.came.replies (all a.0).finals z ≡ Err (waits.DiskFault count) in
          ended a.0 (Err (errors.DiskFault count)) a.1 (subst P (sym a.3) refl) tt a.2
      goes_ill (errors.Stopped count) a = absurd a.3

-- A waiter goes to the server.
use Rattle.server_core.specs.Shown.{disk_of, state_of, stopped_of}
use Rattle.std.proofs.Common.{◌≡◌, ℕ, zero, suc, ◌+◌, ◌<◌, List, [], ◌∷◌, ◌++◌, map, length, take, drop, slice_index_or, Option, Some, None}
use Rattle.std.proofs.Common.{Result, Ok, Err, refl, ap, sym, subst, ◌∙◌, inl, inr, arith}
use Rattle.std.proofs.lemmas.List.{append-nil}
use Rattle.std.specs.Prelude.{is_some, option_map, false}
use Rattle.law_waiting.specs.held.Held.{would_wait}
use Rattle.store_opens.specs.declared.share_modes.lists.Range.{Range}
use Rattle.store_opens.specs.share_modes.Locking.{range_of}
use Rattle.spec_exchange.specs.State as model
use Rattle.spec_exchange.specs.Step.{step}
use Rattle.spec_crypto.specs.tokens.Tokens.{Users}
use Rattle.spec_world.specs.Ends.{Logons}
use Rattle.spec_world.specs.Lacking.{alone_records}
use Rattle.spec_wire.specs.journal.Moments.{LeavesOnly}
use Rattle.law_waiting.specs.wait_steps.WaitStep.{Fails, Lacks, StepMishap, later_to, trial}
use Rattle.law_waiting.specs.wait_steps.WaitStep as waits
use Rattle.server_checks.specs.event_heard.Heard.{heard_event, without_token}
use Rattle.server_checks.specs.declared.event_heard.event.ServerEvent.{ServerEvent}
use Rattle.server_checks.specs.declared.event_heard.event.ServerEvent.TheVariants as events
use Rattle.server_checks.specs.declared.setups.error.EventError.{EventError}
use Rattle.server_checks.specs.declared.setups.error.EventError.TheVariants.{Memory, DiskFault, Stopped}
use Rattle.server_core.specs.journaled_tables.Holds.{EventAnswers, EventLeavesBodies, EventRefused, JournaledGoesOn, JournaledHolds, StepAnswers, uncounted}
use Rattle.server_core.specs.journaled_tables.Shown.{ServerShown}
use Rattle.server_effects.specs.declared.answering.Answer.{Answer}
use Rattle.server_core.specs.declared.journaled_tables.state.ServerState.{ServerState}
use Rattle.wait_locks.specs.Kept.{kept_message, waiter_of}
use Rattle.wait_locks.specs.Rounds.{FreeIs, NextIs, RoundIs, SameLists, users_of}
use Rattle.wait_locks.specs.Stepping.{Befell, HoldsTill, StepGoes}
use Rattle.wait_locks.specs.Told.{FirstIs, response_of}
use Rattle.wait_locks.specs.declared.later.Later.{Later}
use Rattle.wait_locks.specs.declared.trying.Round.{Round}
use Rattle.wait_locks.specs.declared.trying.Round.TheVariants as rounds
use Rattle.wait_locks.specs.declared.wait_server.WaitServer.{WaitServer}
use Rattle.wait_locks.specs.declared.waiter.Waiter.{Waiter}
use Rattle.wire_commands.specs.declared.values.request.Message.{Message}
use Rattle.wire_commands.specs.values.Meaning.{message_of, reply_of}

-- ---- lists

pub index_any : {A : Type 0} (xs : List A) (i : ℕ) → i < length xs → (d e : A) → slice_index_or xs i d ≡ slice_index_or xs i e
index_any [] i l d e = absurd (omega arith)
index_any (x ∷ xs) zero l d e = refl
index_any (x ∷ xs) (suc i) l d e = index_any xs i (omega arith) d e

map_behind : {A B : Type 0} (f : A → B) (xs ys : List A) → map f (xs ++ ys) ≡ map f xs ++ map f ys
map_behind f [] ys = refl
map_behind f (x ∷ xs) ys = ap (λ l. f x ∷ l) (map_behind f xs ys)

pub without_one : (old new : List Waiter) (i : ℕ) → new ≡ take i old ++ drop (i + 1) old
    → map waiter_of new ≡ map waiter_of (take i old) ++ map waiter_of (drop (i + 1) old)
without_one old new i e = ap (map waiter_of) e ∙ map_behind waiter_of (take i old) (drop (i + 1) old)

pub told_behind : (before after : List Later) (l : Later) (r : waits.Response) → after ≡ before ++ l ∷ [] → response_of l ≡ r
    → map response_of after ≡ map response_of before ++ r ∷ []
told_behind before after l r e h = ap (map response_of) e ∙ map_behind response_of before (l ∷ []) ∙ ap (λ x. map response_of before ++ x ∷ []) h

-- ---- what the server then heard

as_it_is : model.Message → model.ServerEvent
as_it_is m = model.Heard (record m { command = without_token m.command })

pub heard_so : (users : Users) (L : Logons) (s : model.Server) (m : Message) (k : Waiter) → message_of m ≡ kept_message k
    → heard_event users L s (events.Message m) ≡ model.Heard (kept_message k)
heard_so users L s m k e = ap (λ (x : model.Message). model.Heard (record x { command = without_token x.command })) e

never_both : {T : Type 0} (o : Option ℕ) (count : ℕ) → o ≡ Some count → o ≡ None → T
never_both o count e f = absurd (let h : Some count ≡ None = sym e ∙ f in cc)

module _ {D : Type 0} (told : Type 0) (seen : D → List ℕ) (may_leave : D → List ℕ → Type 0) where
  pub till : (c : ServerState D) (s : model.Server) (L : Logons) (records : List model.Record) → JournaledHolds told seen may_leave c s L records
      → HoldsTill told seen may_leave c s L records
  till c s L records h = record { shown = h.shown; holds = λ e. h }

  till_none : (c : ServerState D) (s : model.Server) (L : Logons) (records : List model.Record) → JournaledHolds told seen may_leave c s L records
      → HoldsTill told seen may_leave c s L (records ++ [])
  till_none c s L records h =
      let P : List model.Record → Type 0 = λ z. HoldsTill told seen may_leave c s L z in
      subst P (sym (append-nil records)) (till c s L records h)

module _ {D : Type 0} (told : Type 0) (seen : D → List ℕ) (may_leave : D → List ℕ → Type 0) (moment : D → ℕ) (left_since : D → ℕ → List ℕ → Type 0) (faults : D → ℕ) (now : ℕ) (own : ServerEvent)
    (old new : WaitServer D) (before after : List Later) (s : model.Server) (L : Logons) (records : List model.Record) (es ls : List waits.Waiter)
    (k : Waiter) where
  -- there was no memory for its copy or its response
  pub not_asked : (stopped_of old.server) ≡ None → JournaledHolds told seen may_leave (state_of old.server) s L records → new.server ≡ old.server
      → SameLists old new before after
      → RoundIs told seen may_leave moment left_since faults now own old new before after rounds.Lacks s L records es (waiter_of k) ls
  not_asked none h same lists =
      let P : ServerState D → Type 0 = λ z. HoldsTill told seen may_leave z s L (records ++ []) in (
        ap stopped_of same ∙ none,
        (
          s,
          record {
            front = [];
            goes = (h, none, inr (record { same = ap state_of same; mishap = refl; logons = refl; none = refl }));
            holds = subst P (sym (ap state_of same)) (till_none told seen may_leave (state_of old.server) s L records h);
            lists = lists;
          },
        ),
      )

  -- one that the server stopped at an earlier fault never comes
  pub never_stopped : (count : ℕ) → (stopped_of old.server) ≡ Some count → (stopped_of old.server) ≡ None
      → RoundIs told seen may_leave moment left_since faults now own old new before after (rounds.Fails count) s L records es (waiter_of k) ls
  never_stopped count e none = never_both (stopped_of old.server) count e none

  module _ (m : Message) (is : message_of m ≡ kept_message k) (h : JournaledHolds told seen may_leave (state_of old.server) s L records)
      (none : stopped_of old.server ≡ None)
      (leaves : told → (bodies : List (List ℕ)) → JournaledGoesOn seen may_leave [] (state_of old.server) s records bodies
      → LeavesOnly moment left_since (disk_of old.server) (disk_of new.server) (EventLeavesBodies s now (heard_event (users_of old) L s (events.Message m)) bodies)) where
    so : heard_event (users_of old) L s (events.Message m) ≡ model.Heard (kept_message k)
    so = heard_so (users_of old) L s m k is

    asked : (o : Option StepMishap) (N : Logons) (front : List model.Record) (r : Result Answer EventError)
        → EventAnswers told seen may_leave [] faults (state_of old.server) (state_of new.server) (users_of old) s L records now (events.Message m) r
        → Befell now r (trial s now es (waiter_of k) o) (heard_event (users_of old) L s (events.Message m)) L L N front
        → StepGoes told seen may_leave moment left_since faults (users_of old) now own (state_of old.server) (state_of new.server) L records
        (trial s now es (waiter_of k) o) N front
    asked o N front r a b = (
      h,
      none,
      inl (record {
        event = events.Message m;
        heard = (m, refl, is);
        result = r;
        answers = a;
        answer = ap (step s now) (sym so);
        befell = b;
        any_moment = leaves;
      }),
    )

    pub went : (r : Answer) (l : Later)
        → StepAnswers told seen may_leave [] (state_of new.server) s L records now (events.Message m) r
        (step s now (heard_event (users_of old) L s (events.Message m)))
        → map waiter_of new.waiters.items ≡ es ++ ls → response_of l ≡ later_to (waiter_of k) (reply_of r.reply) → after ≡ before ++ l ∷ []
        → RoundIs told seen may_leave moment left_since faults now own old new before after rounds.Went s L records es (waiter_of k) ls
    went r l a waiters response added =
        let P : model.ServerEvent → Type 0 = λ z. JournaledHolds told seen may_leave (state_of new.server) (step s now z).server L
        (records ++ (step s now z).records) in (
          a.0,
          record {
            front = (step s now (model.Heard (kept_message k))).records;
            goes = asked None L (step s now (model.Heard (kept_message k))).records (Ok r) a (refl, refl, refl);
            holds = subst P so a.4;
            waiters = waiters;
            finals = told_behind before after l (later_to (waiter_of k) (step s now (model.Heard (kept_message k))).reply) added
                (response ∙ ap (later_to (waiter_of k)) (a.1 ∙ ap (λ z. (step s now z).reply) so));
          },
        )

    pub lacks : EventRefused told seen may_leave [] faults Memory (state_of old.server) (state_of new.server) s L records now
        (heard_event (users_of old) L s (events.Message m)) L
        → SameLists old new before after
        → RoundIs told seen may_leave moment left_since faults now own old new before after rounds.Lacks s L records es (waiter_of k) ls
    lacks a lists = (
      a.0,
      elim (a.1) [
        | inl i ↦ (
          s,
          record {
            front = [];
            goes = asked (Some (Lacks s)) L [] (Err Memory) (a.0, inl i) (refl, inl (refl, refl));
            holds = till_none told seen may_leave (state_of new.server) s L records i;
            lists = lists;
          },
        )
        | inr i ↦ (
          i.1,
          record {
            front = alone_records s now (heard_event (users_of old) L s (events.Message m)) i.0;
            goes = asked (Some (Lacks i.1)) L (alone_records s now (heard_event (users_of old) L s (events.Message m)) i.0) (Err Memory)
                (a.0, inr i) (refl, inr (i.0, i.1, i.2, refl, refl));
            holds = till told seen may_leave (state_of new.server) i.1 L
                (records ++ alone_records s now (heard_event (users_of old) L s (events.Message m)) i.0) i.3;
            lists = lists;
          },
        )
      ],
    )

    pub fails : (count : ℕ) → EventRefused told seen may_leave [] faults (DiskFault count) (state_of old.server) (state_of new.server) s L records now
        (heard_event (users_of old) L s (events.Message m)) L
        → SameLists old new before after
        → RoundIs told seen may_leave moment left_since faults now own old new before after (rounds.Fails count) s L records es (waiter_of k) ls
    fails count a lists = (
      a.1,
      elim (a.4) [
        | inl i ↦
            (let P : model.ServerEvent → Type 0 = λ z. ServerShown (state_of new.server).tables (uncounted s (step s now z).server) L in (
              uncounted s (step s now (model.Heard (kept_message k))).server,
              record {
                front = [];
                goes = asked (Some (Fails (uncounted s (step s now (model.Heard (kept_message k))).server) count)) L [] (Err (DiskFault count))
                    (a.0, a.1, a.2, a.3, inl i) (refl, inl (refl, refl));
                holds = record { shown = subst P so i; holds = λ e. never_both (stopped_of new.server) count a.1 e };
                lists = lists;
              },
            ))
        | inr i ↦ (
          uncounted s i.1,
          record {
            front = [];
            goes = asked (Some (Fails (uncounted s i.1) count)) L [] (Err (DiskFault count)) (a.0, a.1, a.2, a.3, inr i)
                (refl, inr (i.0, i.1, i.2, refl, refl));
            holds = record { shown = i.3; holds = λ e. never_both (stopped_of new.server) count a.1 e };
            lists = lists;
          },
        )
      ],
      a.3,
    )

    pub lacks_as : (x : EventError) → x ≡ Memory
        → EventRefused told seen may_leave [] faults x (state_of old.server) (state_of new.server) s L records now
        (heard_event (users_of old) L s (events.Message m)) L
        → SameLists old new before after
        → RoundIs told seen may_leave moment left_since faults now own old new before after rounds.Lacks s L records es (waiter_of k) ls
    lacks_as x e a lists =
        let P : EventError → Type 0 = λ z. EventRefused told seen may_leave [] faults z (state_of old.server) (state_of new.server) s L records now
        (heard_event (users_of old) L s (events.Message m)) L in lacks (subst P e a) lists

    pub fails_as : (x : EventError) (count : ℕ) → x ≡ DiskFault count
        → EventRefused told seen may_leave [] faults x (state_of old.server) (state_of new.server) s L records now
        (heard_event (users_of old) L s (events.Message m)) L
        → SameLists old new before after
        → RoundIs told seen may_leave moment left_since faults now own old new before after (rounds.Fails count) s L records es (waiter_of k) ls
    fails_as x count e a lists =
        let P : EventError → Type 0 = λ z. EventRefused told seen may_leave [] faults z (state_of old.server) (state_of new.server) s L records now
        (heard_event (users_of old) L s (events.Message m)) L in fails count (subst P e a) lists

    pub never_as : (x : EventError) (count : ℕ) → x ≡ Stopped count
        → EventRefused told seen may_leave [] faults x (state_of old.server) (state_of new.server) s L records now
        (heard_event (users_of old) L s (events.Message m)) L
        → (stopped_of old.server) ≡ None
        → RoundIs told seen may_leave moment left_since faults now own old new before after (rounds.Fails count) s L records es (waiter_of k) ls
    never_as x count e a none =
        let P : EventError → Type 0 = λ z. EventRefused told seen may_leave [] faults z (state_of old.server) (state_of new.server) s L records now
        (heard_event (users_of old) L s (events.Message m)) L in never_stopped count (subst P e a).0 none

-- ---- of whom the first is told

pub free_any : (s : model.Server) (ws : List Waiter) (i : ℕ) (d : Waiter) (o : Option Range) → i < length ws
    → option_map range_of o ≡ would_wait s (kept_message (slice_index_or ws i d)) → is_some o ≡ false
    → (e : Waiter) → is_some (would_wait s (kept_message (slice_index_or ws i e))) ≡ false
free_any s ws i d o l h none e =
    let P : Waiter → Type 0 = λ k. is_some (would_wait s (kept_message k)) ≡ false in
    subst P (index_any ws i l d e) (ap is_some (sym h) ∙ mapped o ∙ none)
  where
    mapped : (o : Option Range) → is_some (option_map range_of o) ≡ is_some o
    mapped None = refl
    mapped (Some r) = refl

pub there : {A : Type 0} (xs : List A) (i : ℕ) → i < length xs → A
there [] i l = absurd (omega arith)
there (x ∷ xs) zero l = x
there (x ∷ xs) (suc i) l = there xs i (omega arith)

module _ {D : Type 0} (told : Type 0) (seen : D → List ℕ) (may_leave : D → List ℕ → Type 0) (moment : D → ℕ) (left_since : D → ℕ → List ℕ → Type 0) (faults : D → ℕ) (now : ℕ) (own : ServerEvent)
    (old new : WaitServer D) (before after : List Later) (s : model.Server) (L : Logons) (records : List model.Record) where
  free_next : (r : Round) → FreeIs told seen may_leave moment left_since faults now own old new before after r s L records
      → NextIs told seen may_leave moment left_since faults now own old new before after r s L records
  free_next rounds.AllHeld h = absurd h.4
  free_next rounds.Went h = h
  free_next rounds.Lacks h = h
  free_next (rounds.Fails count) h = h

  pub next_is : (r : Round) (ws : List Waiter) (place : ℕ) → ws ≡ old.waiters.items → FirstIs s ws (Some place)
      → ((d : Waiter) → RoundIs told seen may_leave moment left_since faults now own old new before after r s L records (map waiter_of (take place old.waiters.items))
      (waiter_of (slice_index_or old.waiters.items place d)) (map waiter_of (drop (place + 1) old.waiters.items)))
      → NextIs told seen may_leave moment left_since faults now own old new before after r s L records
  next_is r ws place e f h =
      let P : List Waiter → Type 0 = λ l. FirstIs s l (Some place) in let g : FirstIs s old.waiters.items (Some place) = subst P e f in
      let d : Waiter = there old.waiters.items place g.0 in
      free_next r (
        map waiter_of (take place old.waiters.items),
        waiter_of (slice_index_or old.waiters.items place d),
        map waiter_of (drop (place + 1) old.waiters.items),
        g.1 d,
        h d,
      )

  pub all_rest : (ws : List Waiter) → ws ≡ old.waiters.items → FirstIs s ws None → new ≡ old → after ≡ before
      → NextIs told seen may_leave moment left_since faults now own old new before after rounds.AllHeld s L records
  all_rest ws e f n a = let P : List Waiter → Type 0 = λ l. FirstIs s l None in (subst P e f, n, a)

-- All are tried: what became of those so far, in front of the rest.
use Rattle.server_core.specs.Shown.{state_of, stopped_of}
use Rattle.std.proofs.Common.{◌≡◌, ℕ, ◌+◌, false, true, List, [], ◌∷◌, ◌++◌, map, length, Option, Some, None, Ok, Err}
use Rattle.std.proofs.Common.{refl, ap, sym, subst, ◌∙◌, append_assoc}
use Rattle.std.proofs.lemmas.List.{append-nil}
use Rattle.spec_exchange.specs.State as model
use Rattle.spec_exchange.specs.Step.{step}
use Rattle.spec_crypto.specs.tokens.Tokens.{Users}
use Rattle.spec_world.specs.Ends.{Logons}
use Rattle.law_waiting.specs.wait_steps.WaitStep.{AllHeld, Fails, Free, Lacks, MadeStep, Response, StepMishap, Tried, at_rest, first_free, kept_waiting}
use Rattle.law_waiting.specs.wait_steps.WaitStep.{later_to, trial, tried}
use Rattle.law_waiting.specs.wait_steps.WaitStep as waits
use Rattle.server_checks.specs.declared.event_heard.event.ServerEvent.{ServerEvent}
use Rattle.server_checks.specs.declared.setups.error.EventError.TheVariants.{DiskFault}
use Rattle.server_core.specs.journaled_tables.Holds.{JournaledHolds}
use Rattle.wait_locks.specs.Kept.{waiter_of}
use Rattle.wait_locks.specs.Rounds.{AllTried, NextIs, RoundMet, TriedBy, users_of}
use Rattle.wait_locks.specs.SoFar.{SoFar, in_front, nones}
use Rattle.wait_locks.specs.Stepping.{HoldsTill, StepGoes, Steps}
use Rattle.wait_locks.specs.Told.{response_of}
use Rattle.wait_locks.specs.declared.later.Later.{Later}
use Rattle.wait_locks.specs.declared.trying.Round.TheVariants as rounds
use Rattle.wait_locks.specs.declared.wait_server.WaitServer.{WaitServer}
use Rattle.wait_locks.proofs.Chains.{one_more}
use Rattle.wait_locks.proofs.Going as going
use Rattle.wait_locks.proofs.Sends.{till}

module _ {D : Type 0} (told : Type 0) (seen : D → List ℕ) (may_leave : D → List ℕ → Type 0) (moment : D → ℕ) (left_since : D → ℕ → List ℕ → Type 0) (faults : D → ℕ) (now : ℕ) (own : ServerEvent)
    (first : WaitServer D) (before : List Later) (s : model.Server) (L : Logons) (records : List model.Record) where
  -- so far each that was tried went
  pub record TriedSo (c : WaitServer D) (after : List Later) : Type 0 where
    pub state : model.Server
    pub finals : List Response
    pub made : List MadeStep
    pub written : List model.Record
    pub going : (stopped_of c.server) ≡ None
    pub so_far : SoFar now s (map waiter_of first.waiters.items) state (map waiter_of c.waiters.items) finals made
    pub steps : Steps told seen may_leave moment left_since faults (users_of first) now own (state_of first.server) (state_of c.server) L records made L written
    pub holds : JournaledHolds told seen may_leave (state_of c.server) state L (records ++ written)
    pub told_are : map response_of after ≡ map response_of before ++ finals

  abbrev whole : List (Option StepMishap) → Tried
  whole ms = tried now s (map waiter_of first.waiters.items) ms (length (map waiter_of first.waiters.items))

  pub begins : (stopped_of first.server) ≡ None → JournaledHolds told seen may_leave (state_of first.server) s L records → TriedSo first before
  begins none h =
      let P : List model.Record → Type 0 = λ z. JournaledHolds told seen may_leave (state_of first.server) s L z in
      record {
        state = s;
        finals = [];
        made = [];
        written = [];
        going = none;
        so_far = going.begins now s (map waiter_of first.waiters.items);
        steps = (refl, refl, refl);
        holds = subst P (sym (append-nil records)) h;
        told_are = sym (append-nil (map response_of before));
      }

  module _ (c d : WaitServer D) (after behind : List Later) (so : TriedSo c after) (config : users_of c ≡ users_of first) where
    abbrev ws : List waits.Waiter
    ws = map waiter_of c.waiters.items

    step_on : (x : MadeStep) (front : List model.Record)
        → StepGoes told seen may_leave moment left_since faults (users_of c) now own (state_of c.server) (state_of d.server) L (records ++ so.written) x L front
        → Steps told seen may_leave moment left_since faults (users_of first) now own (state_of first.server) (state_of d.server) L records (so.made ++ x ∷ []) L
        (so.written ++ front)
    step_on x front g =
        let P : Users → Type 0 = λ u. StepGoes told seen may_leave moment left_since faults u now own (state_of c.server) (state_of d.server) L (records ++ so.written) x L front in
        one_more told seen may_leave moment left_since faults (users_of first) now own so.made x (state_of first.server) (state_of c.server) (state_of d.server) L L L records so.written
        front so.steps (subst P config g)

    pub goes_on : NextIs told seen may_leave moment left_since faults now own c d after behind rounds.Went so.state L (records ++ so.written) → TriedSo d behind
    goes_on h =
        let w = h.1 in let r = h.4.1 in
        let t : model.Server = (step so.state now (model.Heard w.message)).server in
        let x : MadeStep = trial so.state now h.0 w None in
        let f : Response = later_to w (step so.state now (model.Heard w.message)).reply in
        let P : List model.Record → Type 0 = λ z. JournaledHolds told seen may_leave (state_of d.server) t L z in
        let Q : List waits.Waiter → Type 0 = λ z. SoFar now s (map waiter_of first.waiters.items) t z (so.finals ++ f ∷ []) (so.made ++ x ∷ []) in
        record {
          state = t;
          finals = so.finals ++ f ∷ [];
          made = so.made ++ x ∷ [];
          written = so.written ++ r.front;
          going = h.4.0;
          so_far = subst Q (sym r.waiters)
              (going.one_went now s (map waiter_of first.waiters.items) so.state (map waiter_of c.waiters.items) so.finals so.made so.so_far h.0 w h.2 h.3);
          steps = step_on x r.front r.goes;
          holds = subst P (append_assoc records so.written r.front) r.holds;
          told_are = r.finals ∙ ap (λ z. z ++ f ∷ []) so.told_are ∙ append_assoc (map response_of before) so.finals (f ∷ []);
        }

    -- nobody else goes
    rests_here : {T : Type 0} (u : T) → first_free so.state ws ≡ AllHeld
        → AllTried told seen may_leave moment left_since faults now own first (record c { starved = false }) before after (Ok u) s L records
    rests_here u free =
        let ms : List (Option StepMishap) = nones (length so.made) ++ [] in
        let T : Tried = in_front so.finals so.made (at_rest so.state ws false) in
        let e : whole ms ≡ T = going.ends now s (map waiter_of first.waiters.items) so.state ws so.finals so.made so.so_far free in
        let P : Tried → Type 0 = λ z. TriedBy told seen may_leave moment left_since faults now own first (record c { starved = false }) before after L records z in
        let Q : List MadeStep → Type 0 = λ z. Steps told seen may_leave moment left_since faults (users_of first) now own (state_of first.server) (state_of c.server) L records z L
        so.written in
        let t : P T = record {
          written = so.written;
          steps = subst Q (sym (append-nil so.made)) so.steps;
          holds = till told seen may_leave (state_of c.server) so.state L (records ++ so.written) so.holds;
          waiters = refl;
          starved = refl;
          stopped = so.going;
          finals = λ n. so.told_are ∙ ap (λ z. map response_of before ++ z) (sym (append-nil so.finals));
        } in (ms, subst P (sym e) t, tt, ap (λ (z : Tried). z.failed) e)

    pub rests : {T : Type 0} (u : T)
        → NextIs told seen may_leave moment left_since faults now own c d after behind rounds.AllHeld so.state L (records ++ so.written)
        → AllTried told seen may_leave moment left_since faults now own first (record d { starved = false }) before behind (Ok u) s L records
    rests {T} u h =
        let P : WaitServer D → Type 0 = λ z. AllTried {T = T} told seen may_leave moment left_since faults now own first (record z { starved = false }) before after (Ok u) s L
        records in
        let Q : List Later → Type 0 = λ z. AllTried {T = T} told seen may_leave moment left_since faults now own first (record d { starved = false }) before z (Ok u) s L
        records in
        subst Q (sym h.2) (subst P (sym h.1) (rests_here u h.0))

    -- the next one's step met this
    module _ (es : List waits.Waiter) (w : waits.Waiter) (ls : List waits.Waiter) (free : first_free so.state ws ≡ Free es w ls) where
      met : (x : StepMishap) (t : model.Server) (failed : Option ℕ)
          → kept_waiting ws (trial so.state now es w (Some x)) x
          ≡ record { server = t; waiters = ws; starved = true; failed = failed; finals = []; made = trial so.state now es w (Some x) ∷ [] }
          → (stopped_of d.server) ≡ failed → RoundMet told seen may_leave moment left_since faults now own c d after behind so.state L (records ++ so.written) es w x t
          → (mishaps : List (Option StepMishap))
          × TriedBy told seen may_leave moment left_since faults now own first (record d { starved = true }) before behind L records (whole mishaps)
          × ((whole mishaps).failed ≡ failed)
      met x t failed kept stopped r =
          let ms : List (Option StepMishap) = nones (length so.made) ++ Some x ∷ [] in
          let y : MadeStep = trial so.state now es w (Some x) in
          let K : Tried = record { server = t; waiters = ws; starved = true; failed = failed; finals = []; made = y ∷ [] } in
          let T : Tried = in_front so.finals so.made K in
          let e : whole ms ≡ T = going.breaks now s (map waiter_of first.waiters.items) so.state ws so.finals so.made so.so_far es w ls x free
          ∙ ap (in_front so.finals so.made) kept in
          let P : Tried → Type 0 = λ z. TriedBy told seen may_leave moment left_since faults now own first (record d { starved = true }) before behind L records z in
          let Q : List model.Record → Type 0 = λ z. HoldsTill told seen may_leave (state_of d.server) t L z in
          let b : P T = record {
            written = so.written ++ r.front;
            steps = step_on y r.front r.goes;
            holds = subst Q (append_assoc records so.written r.front) r.holds;
            waiters = ap (map waiter_of) r.lists.waiters;
            starved = refl;
            stopped = stopped;
            finals = λ n.
                ap (map response_of) r.lists.finals ∙ so.told_are ∙ ap (λ z. map response_of before ++ z) (sym (append-nil so.finals));
          } in (ms, subst P (sym e) b, ap (λ (z : Tried). z.failed) e)

    pub lacks : {T : Type 0} (u : T)
        → NextIs told seen may_leave moment left_since faults now own c d after behind rounds.Lacks so.state L (records ++ so.written)
        → AllTried told seen may_leave moment left_since faults now own first (record d { starved = true }) before behind (Ok u) s L records
    lacks u h = let m = met h.0 h.1 h.2 h.3 (Lacks h.4.1.0) h.4.1.0 None refl h.4.0 h.4.1.1 in (m.0, m.1, tt, m.2)

    pub fails : (T : Type 0) (count : ℕ)
        → NextIs told seen may_leave moment left_since faults now own c d after behind (rounds.Fails count) so.state L (records ++ so.written)
        → AllTried {T = T} told seen may_leave moment left_since faults now own first (record d { starved = true }) before behind (Err (DiskFault count)) s L records
    fails T count h = let m = met h.0 h.1 h.2 h.3 (Fails h.4.1.0 count) h.4.1.0 (Some count) refl h.4.0 h.4.1.1 in (m.0, m.1, (h.4.0, h.4.2), m.2)

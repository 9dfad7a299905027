-- A book's history runs in the model.
use Rattle.std.proofs.Common.{◌≡◌, ◌≤◌, ℕ, zero, suc, List, [], ◌∷◌, length, take, Option, Some, inl, inr}
use Rattle.std.proofs.Common.{refl, sym, ap, subst, ◌∙◌, arith}
use Rattle.spec_crypto.specs.tokens.Tokens.{Users}
use Rattle.spec_exchange.specs.State as model
use Rattle.spec_world.specs.Ends.{Logons}
use Rattle.spec_world.specs.Given.{Given, Stops}
use Rattle.spec_world.specs.Settings.{ServerSettings}
use Rattle.serve_turns.specs.declared.event_book.book.EventBook.{EventBook}
use Rattle.serve_turns.specs.declared.event_book.turn.Answer.{Answer}
use Rattle.serve_turns.specs.declared.event_book.turn.Turn.{Turn}
use Rattle.serve_turns.specs.declared.event_book.turn.What.{What}
use Rattle.serve_turns.specs.declared.event_book.turn.What.TheVariants.{Accept, Message, End}
use Rattle.serve_turns.specs.declared.shared_book.view.Entry.{Entry}
use Rattle.serve_turns.specs.event_book.History.{IsRenewed, Meets, MeetsFrom, MeetsOn, Off, On, Runs, Stand, Standing}
use Rattle.serve_turns.specs.event_book.Renewing.{RenewedTo}
use Rattle.serve_turns.specs.event_book.Steps.{EventSteps, EventStepsFor, GoesOn, RenewsBook, ShowsStanding, StaysHalted}
use Rattle.serve_turns.specs.shared_book.Histories.{Replays}
use Rattle.serve_turns.proofs.event_book.Courses.{found_by}
use Rattle.serve_turns.proofs.event_book.Settling.{Settles, asks_settles, lost_settles, made_settles}

module _ {S : Type 0} (shows : S → Users → model.Server → Logons → List model.Record → Type 0) (stopped : S → Option ℕ) (faults : S → ℕ)
    (z : ServerSettings) where
  -- of a server that goes on
  on_by : (old : Stand) (b c : EventBook S) (e : Turn) (t : Answer) (what : What) → EventStepsFor shows stopped faults what b e t c
      → ShowsStanding shows stopped faults z.users b (On old)
      → Settles (ShowsStanding shows stopped faults z.users c) (λ to g. MeetsOn z old e.now what t g to)
  on_by old b c e t (Accept k) steps stands = made_settles shows stopped faults z old e.now k t b c steps stands
  on_by old b c e t (Message a) steps stands = asks_settles shows stopped faults z old e.now a t b c steps stands
  on_by old b c e t (End k) steps stands = lost_settles shows stopped faults z old e.now k t b c steps stands

  -- and of one that had stopped
  halted_by : (b c : EventBook S) (e : Turn) (t : Answer) (what : What) → EventStepsFor shows stopped faults what b e t c
      → StaysHalted shows stopped faults b t.reply c
  halted_by b c e t (Accept k) steps = steps.halted
  halted_by b c e t (Message a) steps = steps.answers.halted
  halted_by b c e t (End k) steps = steps.halted

  -- what comes in front of the event
  record Prepares (from : Standing) (m : EventBook S) : Type 0 where
    mid : Standing
    renewed : IsRenewed from mid
    stands : ShowsStanding shows stopped faults z.users m mid

  renewed_by : (old : Stand) (b m : EventBook S) → RenewsBook shows stopped faults b m
      → GoesOn shows stopped faults b z.users old.server old.logons old.records
      → RenewedTo (shows m.server z.users) (stopped m.server) old.server old.logons old.records → Prepares (On old) m
  renewed_by old b m renews goes (inl so) = record { mid = On old; renewed = inl refl; stands = (so.1, so.0) }
  renewed_by old b m renews goes (inr (inl so)) =
      record {
        mid = On (record { server = record old.server { journal = so.1 }; logons = old.logons; records = [] });
        renewed = inr (so.1, refl);
        stands = (so.2, so.0);
      }
  renewed_by old b m renews goes (inr (inr stop)) =
      record {
        mid = Off stop.0;
        renewed = tt;
        stands = (stop.1, (renews.fault z.users old.server old.logons old.records goes stop.0 stop.1).1);
      }

  prepared : (from : Standing) (b m : EventBook S) → RenewsBook shows stopped faults b m
      → ShowsStanding shows stopped faults z.users b from → Prepares from m
  prepared (On old) b m renews stands =
      renewed_by old b m renews stands (renews.renewed z.users old.server old.logons old.records stands)
  prepared (Off count) b m renews stands =
      let same = renews.stays count stands.0 in
      record {
        mid = Off count;
        renewed = refl;
        stands = (ap stopped same ∙ stands.0, stands.1 ∙ sym (ap faults same));
      }

  -- the event itself
  settles_from : (from : Standing) (b c : EventBook S) (e : Entry Turn Answer)
      → EventStepsFor shows stopped faults e.event.what b e.event e.reply c → ShowsStanding shows stopped faults z.users b from
      → Settles (ShowsStanding shows stopped faults z.users c) (λ to g. MeetsFrom z from e g to)
  settles_from (On old) b c e steps stands = on_by old b c e.event e.reply e.event.what steps stands
  settles_from (Off count) b c e steps stands =
      let stays = halted_by b c e.event e.reply e.event.what steps count stands.0 in
      record {
        to = Off count;
        given = Some (Stops count);
        told = record { reply = stays.0; given = refl; stays = refl };
        stands = (ap stopped stays.1 ∙ stands.0, stands.1 ∙ sym (ap faults stays.1));
      }

  pub event_settles : (from : Standing) (b c : EventBook S) (e : Entry Turn Answer) → EventSteps shows stopped faults b e.event e.reply c
      → ShowsStanding shows stopped faults z.users b from
      → Settles (ShowsStanding shows stopped faults z.users c) (λ to g. Meets z from e g to)
  event_settles from b c e steps stands =
      let first = prepared from b steps.0 steps.1 stands in
      let event = settles_from first.mid steps.0 c e steps.2 first.stands in
      record {
        to = event.to;
        given = event.given;
        told = (first.mid, first.renewed, event.told);
        stands = event.stands;
      }

  -- From a book that stands somewhere on: the history's course, and at each place the book that stands for what that place found.
  pub record RunsOn (from : Standing) (opening : EventBook S) (log : List (Entry Turn Answer)) (last : EventBook S) : Type 0 where
    pub all : List (Option Given)
    pub to : Standing
    pub runs : Runs z from log all to
    pub stands : ShowsStanding shows stopped faults z.users last to
    pub each : (place : ℕ) → place ≤ length log → (book : EventBook S)
        × Replays (EventSteps shows stopped faults) opening (take place log) book
        × ShowsStanding shows stopped faults z.users book (found_by z from log all to runs place)

  runs_more : (from next to : Standing) (e : Entry Turn Answer) (es : List (Entry Turn Answer)) (g : Option Given)
      (gs : List (Option Given)) → Meets z from e g next → Runs z next es gs to → Runs z from (e ∷ es) (g ∷ gs) to
  unfolding Runs
  runs_more from next to e es g gs meets runs = (next, meets, runs)

  -- behind one event more
  each_more : (from : Standing) (opening next last : EventBook S) (e : Entry Turn Answer) (es : List (Entry Turn Answer))
      (one : Settles (ShowsStanding shows stopped faults z.users next) (λ to g. Meets z from e g to)) (rest : RunsOn one.to next es last)
      → EventSteps shows stopped faults opening e.event e.reply next → ShowsStanding shows stopped faults z.users opening from → (place : ℕ)
      → place ≤ length (e ∷ es) → (book : EventBook S) × Replays (EventSteps shows stopped faults) opening (take place (e ∷ es)) book
      × ShowsStanding shows stopped faults z.users book
      (found_by z from (e ∷ es) (one.given ∷ rest.all) rest.to
      (runs_more from one.to rest.to e es one.given rest.all one.told rest.runs) place)
  unfolding Runs found_by runs_more
  each_more from opening next last e es one rest step stands zero within = (opening, refl, stands)
  each_more from opening next last e es one rest step stands (suc n) within =
      let there = rest.each n (omega (arith, within)) in (there.0, (next, step, there.1), there.2)

  pub history_runs : (from : Standing) (opening last : EventBook S) (log : List (Entry Turn Answer))
      → Replays (EventSteps shows stopped faults) opening log last → ShowsStanding shows stopped faults z.users opening from
      → RunsOn from opening log last
  unfolding Runs found_by
  history_runs from opening last [] replays stands = record {
    all = [];
    to = from;
    runs = refl;
    stands = subst (λ (b : EventBook S). ShowsStanding shows stopped faults z.users b from) replays stands;
    each = λ place within. (
      opening,
      subst (λ (l : List (Entry Turn Answer)). Replays (EventSteps shows stopped faults) opening l opening) (sym (take_none place)) refl,
      stands,
    );
  }
    where
      take_none : (n : ℕ) → take {A = Entry Turn Answer} n [] ≡ []
      take_none zero = refl
      take_none (suc n) = refl
  history_runs from opening last (e ∷ es) replays stands =
      let one = event_settles from opening replays.0 e replays.1 stands in
      let rest = history_runs one.to replays.0 last es replays.2 one.stands in
      record {
        all = one.given ∷ rest.all;
        to = rest.to;
        runs = runs_more from one.to rest.to e es one.given rest.all one.told rest.runs;
        stands = rest.stands;
        each = λ place within. each_more from opening replays.0 last e es one rest replays.1 stands place within;
      }

-- What an event of a book comes to in the model.
use Rattle.std.proofs.Common.{◌≡◌, ℕ, List, ◌++◌, Option, Some, None, Result, Ok, Err, refl}
use Rattle.spec_crypto.specs.tokens.Tokens.{Users}
use Rattle.spec_exchange.specs.Network.{answer_to}
use Rattle.spec_exchange.specs.State as model
use Rattle.spec_exchange.specs.Step.{step}
use Rattle.spec_world.specs.Ends.{Logons}
use Rattle.spec_world.specs.Given.{Given, Answered, NoMemory, Stops}
use Rattle.spec_world.specs.Logon.{progress}
use Rattle.spec_world.specs.Settings.{ServerSettings}
use Rattle.server_checks.specs.declared.event_heard.event.ServerEvent.TheVariants as events
use Rattle.conn_core.specs.declared.frame_messages.checked.Checked.{Checked}
use Rattle.conn_core.specs.frame_messages.Checking.{message_in}
use Rattle.conn_core.specs.declared.requests.hearing.Told.{Told}
use Rattle.conn_core.specs.declared.served.error.ServeError.{ServeError}
use Rattle.conn_core.specs.declared.served.error.ServeError.TheVariants as errors
use Rattle.conn_core.specs.declared.served.serve.Reply.{Reply}
use Rattle.conn_core.specs.frame_events.Dealing.{EventAnswer, stop_in}
use Rattle.conn_core.specs.frame_events.Telling.{ToldIf}
use Rattle.conn_core.specs.requests.Telling.{told_logons}
use Rattle.conn_core.specs.served.Serving.{Halts, ServerServes}
use Rattle.serve_turns.specs.declared.event_book.book.EventBook.{EventBook}
use Rattle.serve_turns.specs.declared.event_book.turn.Answer.{Answer}
use Rattle.serve_turns.specs.declared.event_book.turn.Asks.{Asks}
use Rattle.serve_turns.specs.event_book.History.{GivenIf, MeetsMessage, MeetsOther, Off, On, Stand, Standing, StandsAt, StopsAt}
use Rattle.serve_turns.specs.event_book.Steps.{AsksEvent, GoesOn, HearsEvent, ShowsStanding}
use Rattle.serve_turns.proofs.event_book.Places.{asked_is}

-- how an event that a server took is told of it: what it stands at, and what was given
pub record Settles (shows : Standing → Type 0) (tells : Standing → Option Given → Type 0) : Type 0 where
  pub to : Standing
  pub given : Option Given
  pub told : tells to given
  pub stands : shows to

module _ {S : Type 0} (shows : S → Users → model.Server → Logons → List model.Record → Type 0) (stopped : S → Option ℕ)
    (faults : S → ℕ) where
  -- ---- a message

  message_settles : (z : ServerSettings) (now : ℕ) (s : model.Server) (L : Logons) (records : List model.Record) (t : Told) (m : Checked)
      (bytes : List ℕ) (due : Option model.Message) (reply : EventAnswer) (b : EventBook S)
      → ToldIf (GoesOn shows stopped faults b z.users) z now s L records t m bytes due reply
      → ((count : ℕ) → stop_in reply ≡ Some count → stopped b.server ≡ Some count)
      → ((count : ℕ) → stop_in reply ≡ Some count → count ≡ faults b.server)
      → Settles (ShowsStanding shows stopped faults z.users b) (λ to g. ToldIf (StandsAt to) z now s L records t m bytes due reply
      × GivenIf now t (record { server = s; logons = L; records = records }) due reply to g)
  message_settles z now s L records t m bytes None None b gives stops counts =
      record { to = On (record { server = s; logons = L; records = records }); given = None; told = (refl, refl); stands = gives }
  message_settles z now s L records t m bytes None (Some r) b gives stops counts = absurd gives
  message_settles z now s L records t m bytes (Some x) None b gives stops counts =
      record {
        to = On (record { server = s; logons = L; records = records });
        given = None;
        told = ((gives.0, refl), refl);
        stands = gives.1;
      }
  message_settles z now s L records t m bytes (Some x) (Some (Ok r)) b gives stops counts =
      let A = answer_to s now x x.command in
      let M = told_logons z.users L t m (message_in bytes m) now (progress x.command A.reply) in
      record {
        to = On (record { server = A.server; logons = M; records = records ++ A.records });
        given = Some (Answered now t.fresh L A);
        told = (
          (
            gives.0,
            record {
              state = refl;
              named = gives.1.named;
              body = gives.1.body;
              acted = gives.1.acted;
              said = gives.1.said;
            },
          ),
          refl,
        );
        stands = gives.1.state;
      }
  message_settles z now s L records t m bytes (Some x) (Some (Err errors.Memory)) b gives stops counts =
      let to : Stand = record { server = gives.1.0; logons = L; records = records ++ gives.1.1 } in
      record {
        to = On to;
        given = Some (NoMemory gives.1.0);
        told = ((gives.0, (gives.1.0, gives.1.1, gives.1.2, refl)), (to, refl, refl));
        stands = gives.1.3;
      }
  message_settles z now s L records t m bytes (Some x) (Some (Err (errors.Unanswered acted))) b gives stops counts =
      let A = answer_to s now x x.command in
      let M = told_logons z.users L t m (message_in bytes m) now (progress x.command A.reply) in
      record {
        to = On (record { server = A.server; logons = M; records = records ++ A.records });
        given = None;
        told = ((gives.0, record { state = refl; acted_is = gives.1.acted_is }), refl);
        stands = gives.1.state;
      }
  message_settles z now s L records t m bytes (Some x) (Some (Err (errors.Stopped count))) b gives stops counts =
      record {
        to = Off count;
        given = Some (Stops count);
        told = ((gives.0, tt), (refl, refl));
        stands =
            (stops count refl, counts count refl);
      }

  pub asks_settles : (z : ServerSettings) (old : Stand) (now : ℕ) (a : Asks) (t : Answer) (b c : EventBook S)
      → AsksEvent shows stopped faults b now a t c → ShowsStanding shows stopped faults z.users b (On old)
      → Settles (ShowsStanding shows stopped faults z.users c) (λ to g. MeetsMessage z old now a t g to)
  asks_settles z old now a t b c asks stands =
      let is = asked_is a.frame a.at a.asked in
      let m = is.message in
      let r = message_settles z now old.server old.logons old.records a.told m a.frame.bytes.items _ t.reply c
      (asks.answers.gives z old.server old.logons old.records m stands is.here) asks.answers.stops
      (λ count stop. (asks.answers.fault z.users old.server old.logons old.records stands count stop).1) in
      record {
        to = r.to;
        given = r.given;
        told = record {
          message = m;
          here = is.here;
          back = asks.frame;
          gives = r.told.0;
          given = r.told.1;
        };
        stands = r.stands;
      }

  -- ---- a connection that is made or lost

  accept_settles : (users : Users) (s : model.Server) (L : Logons) (records : List model.Record) (now k : ℕ) (reply : Result Reply ServeError)
      (b c : EventBook S) → ServerServes (shows c.server users) users s L records now (events.Accept k) reply
      → Halts (stopped b.server) (stopped c.server) reply
      → ((count : ℕ) → reply ≡ Err (errors.Stopped count) → count ≡ faults c.server)
      → Settles (ShowsStanding shows stopped faults users c) (λ to g. (g ≡ None) × ServerServes (StandsAt to) users s L records now
      (events.Accept k) reply × StopsAt reply to)
  accept_settles users s L records now k (Ok r) b c serves halts counts =
      let A = step s now (model.Accept k) in
      record {
        to = On (record { server = A.server; logons = L; records = records ++ A.records });
        given = None;
        told = (refl, (serves.0, serves.1, refl), tt);
        stands = (serves.2, halts.1);
      }
  accept_settles users s L records now k (Err errors.Memory) b c serves halts counts =
      record {
        to = On (record { server = serves.0; logons = L; records = records ++ serves.1 });
        given = None;
        told = (refl, (serves.0, serves.1, serves.2, refl), tt);
        stands = (serves.3, halts.1);
      }
  accept_settles users s L records now k (Err (errors.Unanswered acted)) b c serves halts counts =
      let A = step s now (model.Accept k) in
      record {
        to = On (record { server = A.server; logons = L; records = records ++ A.records });
        given = None;
        told = (refl, (serves.0, refl), tt);
        stands = (serves.1, halts.1);
      }
  accept_settles users s L records now k (Err (errors.Stopped count)) b c serves halts counts =
      record { to = Off count; given = None; told = (refl, tt, refl); stands = (halts.0, counts count refl) }

  end_settles : (users : Users) (s : model.Server) (L : Logons) (records : List model.Record) (now k : ℕ) (reply : Result Reply ServeError)
      (b c : EventBook S) → ServerServes (shows c.server users) users s L records now (events.End k) reply
      → Halts (stopped b.server) (stopped c.server) reply
      → ((count : ℕ) → reply ≡ Err (errors.Stopped count) → count ≡ faults c.server)
      → Settles (ShowsStanding shows stopped faults users c) (λ to g. (g ≡ None) × ServerServes (StandsAt to) users s L records now
      (events.End k) reply × StopsAt reply to)
  end_settles users s L records now k (Ok r) b c serves halts counts =
      let A = step s now (model.End k) in
      record {
        to = On (record { server = A.server; logons = L; records = records ++ A.records });
        given = None;
        told = (refl, (serves.0, serves.1, refl), tt);
        stands = (serves.2, halts.1);
      }
  end_settles users s L records now k (Err errors.Memory) b c serves halts counts =
      record {
        to = On (record { server = serves.0; logons = L; records = records ++ serves.1 });
        given = None;
        told = (refl, (serves.0, serves.1, serves.2, refl), tt);
        stands = (serves.3, halts.1);
      }
  end_settles users s L records now k (Err (errors.Unanswered acted)) b c serves halts counts =
      let A = step s now (model.End k) in
      record {
        to = On (record { server = A.server; logons = L; records = records ++ A.records });
        given = None;
        told = (refl, (serves.0, refl), tt);
        stands = (serves.1, halts.1);
      }
  end_settles users s L records now k (Err (errors.Stopped count)) b c serves halts counts =
      record { to = Off count; given = None; told = (refl, tt, refl); stands = (halts.0, counts count refl) }

  pub made_settles : (z : ServerSettings) (old : Stand) (now k : ℕ) (t : Answer) (b c : EventBook S)
      → HearsEvent shows stopped faults b now (events.Accept k) t c → ShowsStanding shows stopped faults z.users b (On old)
      → Settles (ShowsStanding shows stopped faults z.users c) (λ to g. MeetsOther z old now (events.Accept k) t g to)
  made_settles z old now k t b c hears stands =
      let r = accept_settles z.users old.server old.logons old.records now k hears.reply b c
      (hears.serves z.users old.server old.logons old.records stands.0) (hears.halts z.users old.server old.logons old.records stands.0)
      (λ count stop. (hears.fault z.users old.server old.logons old.records stands count stop).1) in
      record {
        to = r.to;
        given = r.given;
        told = record { reply = hears.reply; is = hears.is; none_given = r.told.0; serves = r.told.1; stops = r.told.2 };
        stands = r.stands;
      }

  pub lost_settles : (z : ServerSettings) (old : Stand) (now k : ℕ) (t : Answer) (b c : EventBook S)
      → HearsEvent shows stopped faults b now (events.End k) t c → ShowsStanding shows stopped faults z.users b (On old)
      → Settles (ShowsStanding shows stopped faults z.users c) (λ to g. MeetsOther z old now (events.End k) t g to)
  lost_settles z old now k t b c hears stands =
      let r = end_settles z.users old.server old.logons old.records now k hears.reply b c
      (hears.serves z.users old.server old.logons old.records stands.0) (hears.halts z.users old.server old.logons old.records stands.0)
      (λ count stop. (hears.fault z.users old.server old.logons old.records stands count stop).1) in
      record {
        to = r.to;
        given = r.given;
        told = record { reply = hears.reply; is = hears.is; none_given = r.told.0; serves = r.told.1; stops = r.told.2 };
        stands = r.stands;
      }

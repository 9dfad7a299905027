-- What is known of every run, and the statements.
use Rattle.std.proofs.Common.{◌≡◌, ℕ, ◌+◌, ◌*◌, ◌<◌, false, List, [], ◌∷◌, ◌++◌, inl, inr, refl, arith, sym, subst, ◌∙◌, ap}
use Rattle.spec_exchange.specs.Operations.{is_unsettled}
use Rattle.spec_exchange.specs.Schedules.{Course, Line, Does, Pushes, Links as LinksLine, Settles, course, go, went, link}
use Rattle.spec_exchange.specs.Network.{World, Event, Open, Settings, happens, run, start}
use Rattle.law_sessions.proofs.messages.Run.{connections}
use Rattle.law_sessions.proofs.messages.Reached.{on_every_run, run_more}
use Rattle.law_sessions.proofs.messages.Stays.{settled_stays, beyond}
use Rattle.law_sessions.specs.sessions.Dialogs.{Channels}
use Rattle.law_sessions.proofs.sessions.DialogFacts.{dialogs}
use Rattle.law_sessions.proofs.sessions.Always.{sessions}
use Rattle.law_answers.specs.completeness.Completeness.{begun, course_of, DrainSuffices, LinkSuffices, AllSettled}
use Rattle.law_answers.specs.completeness.Completeness.{FindsSession, SettleSettles}
use Rattle.law_answers.proofs.completeness.Facts.{Facts, Rises, Always, AllPresent}
use Rattle.law_answers.proofs.completeness.Columns.{count_none, Counted, counted_on, taken_on, number_on, Limits, limits_on}
use Rattle.law_answers.proofs.completeness.Waits.{CreateOk, waits_on}
use Rattle.law_answers.proofs.completeness.Carried.{Carried, carried_on, Low, low_on}
use Rattle.law_answers.proofs.completeness.Server.{accepted}
use Rattle.law_answers.proofs.completeness.Links.{Links, links_on, room_for, bit, tally, none_folded}
use Rattle.law_answers.proofs.completeness.Rising.{Rising, ReplyAbove, rising_on}
use Rattle.law_answers.proofs.completeness.Interim.{reply_on}
use Rattle.law_answers.proofs.completeness.Seats.{Seats, IsPast, shut_seat}
use Rattle.law_answers.proofs.completeness.Seated.{seats_on}
use Rattle.law_answers.proofs.completeness.Past.{PlainOp, onward, past_on, plain_on}
use Rattle.law_answers.proofs.completeness.Present.{FairWorld, fair_first, fair_on, finds}
use Rattle.law_sessions.proofs.sessions.Waiting.{AllUp}
use Rattle.law_answers.proofs.completeness.Drain.{drains_all}
use Rattle.law_answers.proofs.completeness.Link.{links_all}
use Rattle.law_answers.proofs.completeness.Later.{push_later, link_later}
use Rattle.law_answers.proofs.completeness.Rounds.{Done}
use Rattle.law_answers.proofs.completeness.Settling.{settles, settle_later}

pub record Known (w : World) : Type 0 where
  pub counted : Counted w.client
  pub low : Low w.conns
  pub carried : Carried w.client w.conns
  pub links : Links w.server w.conns
  pub create_ok : CreateOk w.client
  pub limits : Limits w.client

begins : (z : Settings) → Known (start z)
unfolding bit tally
begins z =
    record {
      counted = record { counted = sym (count_none (λ k. false) 256 (λ j. refl)); live = λ l. absurd (cc) };
      low = record { client = λ k o. absurd (cc); server = λ k o. absurd (cc) };
      carried = λ g k on. absurd (cc);
      links = λ k. ap (λ xs. tally k xs) (none_folded _);
      create_ok = λ g low high. absurd (omega (arith, low, high));
      limits = λ g low high. absurd (omega (arith, low, high));
    }

known : (z : Settings) (es : List Event) → Known (run es (start z))
known z es =
    on_every_run (λ w a. Known w) z (begins z)
    (λ xs e h. let w = run xs (start z) in let fit = connections z xs in let d = dialogs z xs in
    record {
      counted = counted_on w e _ fit d.channels h.low.client h.counted;
      low = low_on w e h.low;
      carried = carried_on w e _ fit h.carried;
      links = links_on w e h.low h.links;
      create_ok = waits_on w e _ fit h.create_ok;
      limits = limits_on w e h.limits;
    }) es

-- a world of a run
pub record OfRun (z : Settings) (w : World) : Type 0 where
  pub events : List Event
  pub is : run events (start z) ≡ w

facts_at : (z : Settings) (es : List Event) → Facts (run es (start z))
facts_at z es =
    let w = run es (start z) in let k = known z es in let d = dialogs z es in let s = sessions z es in
    record {
      acted = _;
      fit = connections z es;
      channels = d.channels;
      making_talks = d.making_talks;
      making = s.making;
      live_alone = λ l. (s.live_accepted l).2;
      counted = k.counted.counted;
      live_channels = k.counted.live;
      client_low = k.low.client;
      server_low = k.low.server;
      carried = k.carried;
      accepts = λ q low off. (accepted w.server w.moment q (room_for w.server w.conns q k.links k.low low off)).status;
      create_ok = k.create_ok;
      limits = k.limits;
      beyond = (beyond z es 0 refl).1;
    }

-- each session's id is above that of the one before it
pub record RisesAt (w : World) : Type 0 where
  pub rising : Rising w.client
  pub reply : ReplyAbove w.client w.conns

rises_first : (z : Settings) → RisesAt (start z)
rises_first z = record {
  rising = record {
    zero_session = λ e. refl;
    second = λ k e. absurd (cc);
    asked = λ k e. absurd (cc);
  };
  reply = λ k y rest at. absurd (cc);
}

rises_known : (z : Settings) (es : List Event) → RisesAt (run es (start z))
rises_known z es =
    on_every_run (λ w a. RisesAt w) z (rises_first z)
    (λ xs e h. let w = run xs (start z) in let s = sessions z xs in
    record {
      rising = rising_on w e s.making h.reply h.rising;
      reply = reply_on w e (facts_at z xs) s (subst (λ (v : World). Channels v.client v.conns) (run_more xs e (start z))
          (dialogs z (xs ++ e ∷ [])).channels) h.rising h.reply;
    }) es

rises_always : (z : Settings) (es : List Event) → Rises (run es (start z))
rises_always z es = (rises_known z es).rising.asked

still : (z : Settings) (es : List Event) (e : Event) (g : ℕ) → is_unsettled ((run es (start z)).client.outcome g)
    ≡ false → is_unsettled ((happens (run es (start z)) e).client.outcome g) ≡ false
still z es e g s = ap (λ (w : World). is_unsettled (w.client.outcome g)) (sym (run_more es e (start z)))
    ∙ ap is_unsettled (settled_stays z es (e ∷ []) g s) ∙ s

pub always : (z : Settings) → Always (OfRun z)
always z =
    record {
      step = λ w e h. record { events = h.events ++ e ∷ []; is = run_more h.events e (start z) ∙ ap (λ v. happens v e) h.is };
      facts = λ w h. subst Facts h.is (facts_at z h.events);
      stays = λ w e g h. subst (λ (v : World). is_unsettled (v.client.outcome g) ≡ false
          → is_unsettled ((happens v e).client.outcome g) ≡ false) h.is (still z h.events e g);
      taken = λ w e n. (taken_on w e n).taken;
      number = number_on;
    }

-- ---- the server holds the client's session

pub record Held (w : World) : Type 0 where
  pub seats : Seats w.client w.conns w.server
  pub past : AllUp (IsPast w.client) w.conns
  pub last : 0 < w.client.accepted → 0 < w.client.rank w.client.accepted
  pub plain : AllUp PlainOp w.conns
  pub fair : FairWorld w

held_first : (z : Settings) → Held (start z)
held_first z =
    record {
      seats = λ q. shut_seat _ _ _ _ _ _ refl;
      past = λ k n x is. absurd (grind arith);
      last = λ low. absurd (omega (arith, low));
      plain = λ k n x is. absurd (grind arith);
      fair = fair_first z;
    }

held : (z : Settings) (es : List Event) → Held (run es (start z))
held z es =
    on_every_run (λ w a. Held w) z (held_first z)
    (λ xs e h. let w = run xs (start z) in let s = sessions z xs in
    record {
      seats = seats_on w e _ (connections z xs) s (dialogs z xs).channels (known z xs).links h.past h.seats;
      past = past_on w e s h.last h.past;
      last = (onward w e s).last h.last;
      plain = plain_on w e h.plain;
      fair = fair_on w e h.fair;
    }) es

pub session_found : (z : Settings) (es : List Event) → FindsSession (run es (start z))
session_found z es = let h = held z es in finds (run es (start z)) _ (connections z es) (sessions z es) h.seats h.plain h.fair.0

pub present : (z : Settings) → AllPresent (OfRun z)
present z = record {
  present = λ w o. subst FindsSession o.is (session_found z o.events);
  rise = λ w o. subst Rises o.is (rises_always z o.events);
}

-- ---- scripts

went_of : (z : Settings) → (c : Course) (e : Event) → OfRun z c.world → OfRun z (went c e).world
unfolding went
went_of z c e h = (always z).step c.world e h

goes : (z : Settings) → (c : Course) (l : Line) → OfRun z c.world → OfRun z (go 256 c l).world
unfolding go
goes z c (Does e) h = went_of z c e h
goes z c (Pushes k) h = (push_later (OfRun z) (always z) c k h).known
goes z c (LinksLine k) h = (link_later (OfRun z) (always z) c k h).known
goes z c Settles h = (settle_later (OfRun z) (always z) c (8 * (c.world.client.taken + 256 + 1)) h).known

courses : (z : Settings) → (ls : List Line) (c : Course) → OfRun z c.world → OfRun z (course 256 ls c).world
unfolding course
courses z [] c h = h
courses z (l ∷ ls) c h = courses z ls (go 256 c l) (goes z c l h)

at_end : (ls : List Line) (c : Course) → course 256 (ls ++ Settles ∷ []) c ≡ go 256 (course 256 ls c) Settles
unfolding course
at_end [] c = refl
at_end (l ∷ ls) c = at_end ls (go 256 c l)

at_first : (z : Settings) → OfRun z (begun z).world
unfolding run
at_first z = record { events = []; is = refl }

pub drain_suffices : DrainSuffices
drain_suffices z ls k = (drains_all (OfRun z) (always z) (course_of z ls) k (courses z ls (begun z) (at_first z))).done

pub link_suffices : LinkSuffices
unfolding link
link_suffices z ls k =
    let c = course_of z ls in let v = went c (Open k) in
    (links_all (OfRun z) (always z) v k (went_of z c (Open k) (courses z ls (begun z) (at_first z)))).done

pub settle_settles : SettleSettles
settle_settles z ls few =
    let c = course_of z ls in let h = courses z ls (begun z) (at_first z) in let e = at_end ls (begun z) in
    by (subst (λ (d : Course). Done d.world) (sym e) (settles (OfRun z) (always z) (present z) c h))
  where
    by : Done (course_of z (ls ++ Settles ∷ [])).world → AllSettled (course_of z (ls ++ Settles ∷ [])).world.client
    by (inl s) = s
    by (inr n) = absurd (omega (arith, n, few))

use Rattle.std.proofs.Common.{◌≡◌, Some, refl, sym, subst, ◌∙◌}
use Rattle.conn_core.specs.declared.served.error.ServeError.TheVariants.{Memory}
use Rattle.conn_core.specs.served.Serving.{Onward}
use Rattle.conn_core.proofs.served.Going.{serves_on}
use Rattle.conn_core.proofs.frame_events.Stops.{stopped_is}
use Rattle.spec_world.specs.Connection.{heard_message}
use Rattle.conn_core.specs.declared.frame_messages.checked.Checked.{Checked}
use Rattle.conn_core.specs.frame_messages.Checking.{IsDenied, ShowsGoing, message_in}
use Rattle.conn_core.specs.requests.Asking.{IsGreetingTold, IsRequestEvent}
use Rattle.conn_core.specs.requests.Telling.{told_checked, told_end, told_message}
use Rattle.conn_core.specs.frame_events.Dealing.{GivesIf}
use Rattle.conn_core.proofs.message_replies.Parts.{part_long}
use Rattle.conn_core.proofs.requests.Asked.{greeting_told, told_is}
use Rattle.conn_core.proofs.frame_events.Gives.{lacks_here, none_asked, answered_here, is_served}
use Rattle.conn_core.proofs.frame_events.Tellings.{IsWhole, answered_told, lack_told, none_told, shows_itself}
use Rattle.conn_core.proofs.frame_events.Lists.{one_message}
use Rattle.conn_core.proofs.frame_events.Shorts.{short_lack, short_one}
use Rattle.conn_core.proofs.frame_events.asking.ask.Goals as goal

pub returns-in-Err-clause-gives : goal.returns-in-Err-clause-gives
returns-in-Err-clause-gives g c = λ z before s L records f m k shows told here going on.
    let t = c.args.told.now in
    lacks_here (Onward (g.S.Serve.shows c.args.server.now z.users) before (g.S.Serve.stopped c.args.server.now)) z
    t.connection c.args.now t.fresh s L records f m k shows going.header on

pub returns-in-Err-clause-tells : goal.returns-in-Err-clause-tells
returns-in-Err-clause-tells g c = λ z before s L records m shows here denied on.
    let t = c.args.told.now in
    let bytes = c.args.frame.now.bytes.items in
    let shown = Onward (g.S.Serve.shows c.args.server.now z.users) before (g.S.Serve.stopped c.args.server.now) in
    let f = told_end t in
    let k = told_checked m (message_in bytes m) in
    lack_told shown z c.args.now s L records t m bytes f k (told_message z L t m (message_in bytes m))
    (lacks_here shown z t.connection c.args.now t.fresh s L records f m k shows refl on)

pub returns-in-Err-clause-short : goal.returns-in-Err-clause-short
returns-in-Err-clause-short g c = short_lack Memory

pub returns-in-Ok-None-clause-gives : goal.returns-in-Ok-None-clause-gives
returns-in-Ok-None-clause-gives g c = λ z before s L records f m k shows told here going on.
    let t = c.args.told.now in
    none_asked (Onward (g.S.Serve.shows c.args.server.now z.users) before (g.S.Serve.stopped c.args.server.now)) z
    t.connection c.args.now t.fresh s L records f k t shows refl
    (subst (λ o. IsRequestEvent z.users L t k (heard_message z L t.connection f k) o) c.in-Ok-None.field-0-is
    (c.in-Ok-None.ensures z L f m k here going (greeting_told f k t told)))

pub returns-in-Ok-None-clause-tells : goal.returns-in-Ok-None-clause-tells
returns-in-Ok-None-clause-tells g c = λ z before s L records m shows here denied on.
    let t = c.args.told.now in
    let bytes = c.args.frame.now.bytes.items in
    let shown = Onward (g.S.Serve.shows c.args.server.now z.users) before (g.S.Serve.stopped c.args.server.now) in
    let f = told_end t in
    let k = told_checked m (message_in bytes m) in
    let same : c.requires.0 ≡ m = one_message c.requires.0 m (sym c.requires.1 ∙ here) in
    let going : ShowsGoing bytes m k = subst (λ (n : Checked). ShowsGoing bytes n (told_checked n (message_in bytes n))) same
    (shows_itself bytes c.requires.0 c.requires.2 c.requires.3 (subst (λ (n : Checked). IsDenied n.fault) (sym same) denied)) in
    let greeting : IsGreetingTold f t = record { client = refl; chosen = refl } in
    none_told shown z c.args.now s L records t m bytes f k (told_message z L t m (message_in bytes m))
    (none_asked shown z t.connection c.args.now t.fresh s L records f k t shows refl
    (subst (λ o. IsRequestEvent z.users L t k (heard_message z L t.connection f k) o) c.in-Ok-None.field-0-is
    (c.in-Ok-None.ensures z L f m k here going greeting)))

pub returns-in-Ok-Some-clause-gives : goal.returns-in-Ok-Some-clause-gives
returns-in-Ok-Some-clause-gives g c = λ z before s L records f m k shows told here going on.
    let t = c.args.told.now in
    let asks = subst (λ o. IsRequestEvent z.users L t k (heard_message z L t.connection f k) o) c.in-Ok-Some.field-0-is
    (c.in-Ok-Some.ensures z L f m k here going (greeting_told f k t told)) in
    answered_here (Onward (g.S.Serve.shows c.event-in-Ok-Some.new.self z.users) before (g.S.Serve.stopped c.event-in-Ok-Some.new.self)) z
    t.connection c.args.now t.fresh
    s L records f m k t c.in-Ok-Some.event c.event-in-Ok-Some.result c.args.frame.now.bytes.items going on refl refl told asks
    (serves_on (g.S.Serve.shows c.event-in-Ok-Some.new.self z.users) before (g.S.Serve.stopped c.args.server.now)
    (g.S.Serve.stopped c.event-in-Ok-Some.new.self) z.users s L records c.args.now c.in-Ok-Some.event
    c.event-in-Ok-Some.result shows.1 (c.event-in-Ok-Some.ensures.halts z.users s L records shows.0)
    (c.event-in-Ok-Some.ensures.serves z.users s L records shows.0
    (is_served z.users L t k (heard_message z L t.connection f k) c.in-Ok-Some.event asks)))

pub returns-in-Ok-Some-clause-tells : goal.returns-in-Ok-Some-clause-tells
returns-in-Ok-Some-clause-tells g c = λ z before s L records m shows here denied on.
    let t = c.args.told.now in
    let bytes = c.args.frame.now.bytes.items in
    let shown = Onward (g.S.Serve.shows c.event-in-Ok-Some.new.self z.users) before (g.S.Serve.stopped c.event-in-Ok-Some.new.self) in
    let e = c.in-Ok-Some.event in
    let r = c.event-in-Ok-Some.result in
    let f = told_end t in
    let k = told_checked m (message_in bytes m) in
    let same : c.requires.0 ≡ m = one_message c.requires.0 m (sym c.requires.1 ∙ here) in
    let going : ShowsGoing bytes m k = subst (λ (n : Checked). ShowsGoing bytes n (told_checked n (message_in bytes n))) same
    (shows_itself bytes c.requires.0 c.requires.2 c.requires.3 (subst (λ (n : Checked). IsDenied n.fault) (sym same) denied)) in
    let greeting : IsGreetingTold f t = record { client = refl; chosen = refl } in
    let asks = subst (λ o. IsRequestEvent z.users L t k (heard_message z L t.connection f k) o) c.in-Ok-Some.field-0-is
    (c.in-Ok-Some.ensures z L f m k here going greeting) in
    let serves = serves_on (g.S.Serve.shows c.event-in-Ok-Some.new.self z.users) before (g.S.Serve.stopped c.args.server.now)
    (g.S.Serve.stopped c.event-in-Ok-Some.new.self) z.users s L records c.args.now e r shows.1
    (c.event-in-Ok-Some.ensures.halts z.users s L records shows.0)
    (c.event-in-Ok-Some.ensures.serves z.users s L records shows.0
    (is_served z.users L t k (heard_message z L t.connection f k) e asks)) in
    let whole : IsWhole m bytes = record { long = part_long m.span.start m.span.end bytes going.whole going.inside } in
    answered_told shown z c.args.now s L records t m bytes (told_message z L t m (message_in bytes m)) e r whole asks serves
    (λ h j shows_it tells.
    subst (λ o. GivesIf shown z t.connection c.args.now t.fresh s L records h j o (Some r))
    (told_is z L h m bytes j t shows_it (greeting_told h j t tells))
    (answered_here shown z t.connection c.args.now t.fresh s L records h m j t e r bytes shows_it on refl refl tells
    (subst (λ o. IsRequestEvent z.users L t j (heard_message z L t.connection h j) o) c.in-Ok-Some.field-0-is
    (c.in-Ok-Some.ensures z L h m j here shows_it (greeting_told h j t tells))) serves))

pub returns-in-Ok-Some-clause-stops : goal.returns-in-Ok-Some-clause-stops
returns-in-Ok-Some-clause-stops g c = λ count stop.
    c.event-in-Ok-Some.ensures.stops count (stopped_is c.event-in-Ok-Some.result count stop)

pub returns-in-Ok-Some-clause-fault : goal.returns-in-Ok-Some-clause-fault
returns-in-Ok-Some-clause-fault g c = λ users s L records shows goes count stop.
    c.event-in-Ok-Some.ensures.fault users s L records shows goes count (stopped_is c.event-in-Ok-Some.result count stop)

pub returns-in-Ok-Some-clause-short : goal.returns-in-Ok-Some-clause-short
returns-in-Ok-Some-clause-short g c = short_one c.event-in-Ok-Some.result c.event-in-Ok-Some.ensures.short

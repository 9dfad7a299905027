use Rattle.std.proofs.Common.{◌≡◌, ℕ, List, ◌∙◌, true, false, sym, ap, subst}
use Rattle.conn_core.specs.served.Serving.{Onward}
use Rattle.conn_core.specs.declared.frame_messages.checked.Checked.{Checked}
use Rattle.conn_core.specs.message_replies.Replying as replying
use Rattle.conn_core.specs.frame_events.Dealing.{GivesFor}
use Rattle.conn_core.proofs.frame_events.Gives.{none_here}
use Rattle.conn_core.proofs.frame_events.Lists.{one_message}
use Rattle.conn_core.proofs.frame_events.dealing.answer_of.Goals as goal

pub returns-then-not-has_event-clause-gives : goal.returns-then-not-has_event-clause-gives
returns-then-not-has_event-clause-gives g c = λ z before s L records f m k shows conn here going goes.
    let a = c.checked.result.now in
    let e : a ≡ m = one_message a m (sym c.checked.ensures ∙ here) in
    let off : replying.has_message_event m ≡ false =
    ap (λ (q : Checked). replying.has_message_event q) (sym e) ∙ (sym c.has_event.ensures ∙ c.if-not-has_event.true) in
    none_here (Onward (g.S.Serve.shows c.args.server.now z.users) before (g.S.Serve.stopped c.args.server.now)) z
    c.args.conn.now.id c.args.moment.now.time c.args.moment.now.fresh s L
    records f m k
    shows going.header goes off

pub returns-clause-gives : goal.returns-clause-gives
returns-clause-gives g c = λ z before s L records f m k shows conn here going goes.
    let a = c.checked.result.now in
    let e : a ≡ m = one_message a m (sym c.checked.ensures ∙ here) in
    let on : replying.has_message_event m ≡ true =
    ap (λ (q : Checked). replying.has_message_event q) (sym e) ∙ (sym c.has_event.ensures ∙ c.if-not-has_event.false) in
    let t = c.told_of-told.result in
    let told = c.told_of-told.ensures.told z.guid f m k conn here going in
    let now = c.args.moment.now.time in
    let shown = Onward (g.S.Serve.shows c.ask.new.server z.users) before (g.S.Serve.stopped c.ask.new.server) in
    subst (λ (n : ℕ). GivesFor shown z n now c.args.moment.now.fresh s L records f k c.ask.result) c.told_of-told.ensures.connection
    (subst (λ (random : List ℕ). GivesFor shown z t.connection now random s L records f k c.ask.result) c.told_of-told.ensures.fresh
    (c.ask.ensures.gives z before s L records f m k shows told here going on))

-- What an event of a message gives, by what it asks of the server.
use Rattle.std.proofs.Common.{◌≡◌, ℕ, ◌==◌, Bool, true, false, not, ◌&&◌, List, [], ◌++◌}
use Rattle.std.proofs.Common.{Option, Some, None, Result, Err, ◌⊎◌, inl, inr, refl, sym, ap, subst, ◌∙◌}
use Rattle.std.specs.Prelude.{is_some}
use Rattle.std.proofs.lemmas.List.{append-nil}
use Rattle.spec_wire.specs.declared.messages.header.Header.{Header}
use Rattle.spec_exchange.specs.Commands as asks
use Rattle.spec_exchange.specs.State as model
use Rattle.spec_crypto.specs.tokens.Tokens.{Users}
use Rattle.spec_world.specs.Settings.{ServerSettings}
use Rattle.spec_world.specs.Ends.{ServerEnd, Logons}
use Rattle.spec_world.specs.Hearing as hearing
use Rattle.spec_world.specs.Connection.{heard_message}
use Rattle.spec_world.specs.Given.{has_event}
use Rattle.conn_core.specs.declared.served.error.ServeError.{ServeError}
use Rattle.conn_core.specs.declared.served.error.ServeError.TheVariants as errors
use Rattle.server_checks.specs.declared.event_heard.event.ServerEvent.{ServerEvent}
use Rattle.server_checks.specs.declared.event_heard.event.ServerEvent.TheVariants as events
use Rattle.conn_core.specs.declared.frame_messages.checked.Checked.{Checked}
use Rattle.conn_core.specs.frame_messages.Checking.{ShowsGoing}
use Rattle.conn_core.specs.served.Serving.{IsServerServed, ServerServes, Showing}
use Rattle.conn_core.specs.declared.served.serve.Reply.{Reply}
use Rattle.conn_core.specs.message_replies.Replying as replying
use Rattle.conn_core.specs.requests.Asking.{IsRequestEvent, IsRequestOwn, IsRequestTold}
use Rattle.conn_core.specs.declared.requests.hearing.Told.{Told}
use Rattle.conn_core.proofs.requests.Events.{with_event, of_cancel, of_negotiate, of_echo}
use Rattle.conn_core.specs.frame_events.Dealing.{GivesFor, GivesIf}
use Rattle.conn_core.proofs.frame_events.Plainly.{plain_gives}
use Rattle.conn_core.proofs.frame_events.Setting.{setup_gives}

-- ---- a message without an event

which : (fails : Option ℕ) (a b d : Bool) → fails ≡ None → (not (is_some fails) && (not a && (not b && not d))) ≡ false
    → (a ≡ true) ⊎ ((b ≡ true) ⊎ (d ≡ true))
which (Some status) a b d none e = absurd cc
which None true b d none e = inl refl
which None false true d none e = inr (inl refl)
which None false false true none e = inr (inr refl)
which None false false false none e = absurd cc

in_header : (m : Checked) (c : hearing.Checked) (k : ℕ) (b : Bool) → c.header ≡ m.header → (m.header.command == k) ≡ b
    → (c.header.command == k) ≡ b
in_header m c k b same e = ap (λ (h : Header). h.command == k) same ∙ e

no_events : (shown : Showing) (z : ServerSettings) (k now : ℕ) (fresh : List ℕ) (s : model.Server) (L : Logons)
    (records : List model.Record) (f : ServerEnd) (c : hearing.Checked) → shown s L records
    → (c.header.command == 0) ≡ true ⊎ ((c.header.command == 13) ≡ true ⊎ (c.header.command == 12) ≡ true)
    → GivesFor shown z k now fresh s L records f c None
no_events shown z k now fresh s L records f c shows (inl zero) =
    subst (λ (o : Option model.Message). GivesIf shown z k now fresh s L records f c o None) (sym (of_negotiate z L k f c zero)) (
      refl,
      shows,
    )
no_events shown z k now fresh s L records f c shows (inr (inl echo)) =
    subst (λ (o : Option model.Message). GivesIf shown z k now fresh s L records f c o None) (sym (of_echo z L k f c echo)) (refl, shows)
no_events shown z k now fresh s L records f c shows (inr (inr cancel)) =
    subst (λ (o : Option model.Message). GivesIf shown z k now fresh s L records f c o None) (sym (of_cancel z L k f c cancel)) shows

pass_on : (m : Checked) (c : hearing.Checked) → c.header ≡ m.header
    → (m.header.command == 0) ≡ true ⊎ ((m.header.command == 13) ≡ true ⊎ (m.header.command == 12) ≡ true)
    → (c.header.command == 0) ≡ true ⊎ ((c.header.command == 13) ≡ true ⊎ (c.header.command == 12) ≡ true)
pass_on m c same (inl e) = inl (in_header m c 0 true same e)
pass_on m c same (inr (inl e)) = inr (inl (in_header m c 13 true same e))
pass_on m c same (inr (inr e)) = inr (inr (in_header m c 12 true same e))

pub none_here : (shown : Showing) (z : ServerSettings) (k now : ℕ) (fresh : List ℕ) (s : model.Server) (L : Logons)
    (records : List model.Record) (f : ServerEnd) (m : Checked) (c : hearing.Checked) → shown s L records → c.header ≡ m.header
    → m.fails ≡ None → replying.has_message_event m ≡ false → GivesFor shown z k now fresh s L records f c None
none_here shown z k now fresh s L records f m c shows same goes none =
    no_events shown z k now fresh s L records f c shows (pass_on m c same
    (which m.fails (m.header.command == 0) (m.header.command == 13) (m.header.command == 12) goes none))

-- ---- one that has an event

front_true : (a b : Bool) → (a && b) ≡ true → b ≡ true
front_true true b e = e
front_true false b e = absurd cc

first_true : (a b : Bool) → (a && b) ≡ true → a ≡ true
first_true true b e = refl
first_true false b e = absurd cc

not_true : (a : Bool) → not a ≡ true → a ≡ false
not_true true e = absurd cc
not_true false e = refl

-- the commands that it isn't
pub record IsOther (c : hearing.Checked) : Type 0 where
  pub negotiate : (c.header.command == 0) ≡ false
  pub echo : (c.header.command == 13) ≡ false
  pub cancel : (c.header.command == 12) ≡ false

pub is_other : (m : Checked) (c : hearing.Checked) → c.header ≡ m.header → replying.has_message_event m ≡ true → IsOther c
is_other m c same e =
    let a = not (is_some m.fails) in
    let n = not (m.header.command == 0) in
    let o = not (m.header.command == 13) in
    let l = not (m.header.command == 12) in
    let one : (n && (o && l)) ≡ true = front_true a (n && (o && l)) e in
    let two : (o && l) ≡ true = front_true n (o && l) one in
    record {
      negotiate = in_header m c 0 false same (not_true (m.header.command == 0) (first_true n (o && l) one));
      echo = in_header m c 13 false same (not_true (m.header.command == 13) (first_true o l two));
      cancel = in_header m c 12 false same (not_true (m.header.command == 12) (front_true o l two));
    }

nothing_more : (shown : Showing) (s : model.Server) (L : Logons) (records : List model.Record) → shown s L records
    → shown s L (records ++ [])
nothing_more shown s L records shows =
    subst (λ (l : List model.Record). shown s L l) (sym (append-nil records)) shows

-- no memory for what it asks
pub lacks_here : (shown : Showing) (z : ServerSettings) (k now : ℕ) (fresh : List ℕ) (s : model.Server) (L : Logons)
    (records : List model.Record) (f : ServerEnd) (m : Checked) (c : hearing.Checked) → shown s L records → c.header ≡ m.header
    → replying.has_message_event m ≡ true → GivesFor shown z k now fresh s L records f c (Some (Err errors.Memory))
lacks_here shown z k now fresh s L records f m c shows same event =
    let o = is_other m c same event in
    let heard = with_event z L k f c o.negotiate o.echo o.cancel in
    subst (λ (x : Option model.Message). GivesIf shown z k now fresh s L records f c x (Some (Err errors.Memory))) (sym heard.1)
    (heard.2, (s, [], inl (refl, refl), nothing_more shown s L records shows))

own_none : (c : asks.Command) → IsRequestOwn c → has_event c ≡ false
own_none (asks.Unreadable status) p = absurd p
own_none (asks.Aside status) p = refl
own_none (asks.Setup request) p = absurd p
own_none asks.Logoff p = absurd p
own_none (asks.TreeConnect share) p = absurd p
own_none asks.TreeDisconnect p = absurd p
own_none (asks.Create request) p = absurd p
own_none (asks.Close file query) p = absurd p
own_none (asks.Flush file) p = absurd p
own_none (asks.Read file at size minimum channel) p = absurd p
own_none (asks.Write file at bytes channel) p = absurd p
own_none (asks.Lock file index number elements) p = absurd p
own_none (asks.Ioctl file code room) p = absurd p
own_none (asks.ListDirectory file class restart single pattern room) p = absurd p
own_none (asks.QueryFile file class room) p = absurd p
own_none (asks.QueryVolume file class room) p = absurd p
own_none (asks.SetInfo file setting) p = absurd p

asked_none : (shown : Showing) (z : ServerSettings) (k now : ℕ) (fresh : List ℕ) (s : model.Server) (L : Logons)
    (records : List model.Record) (f : ServerEnd) (c : hearing.Checked) (t : Told) (due : Option model.Message) → shown s L records
    → IsRequestEvent z.users L t c due None → GivesIf shown z k now fresh s L records f c due None
asked_none shown z k now fresh s L records f c t None shows own = shows
asked_none shown z k now fresh s L records f c t (Some m) shows own = (own_none m.command own, shows)

-- it asks nothing
pub none_asked : (shown : Showing) (z : ServerSettings) (k now : ℕ) (fresh : List ℕ) (s : model.Server) (L : Logons)
    (records : List model.Record) (f : ServerEnd) (c : hearing.Checked) (t : Told) → shown s L records → t.connection ≡ k
    → IsRequestEvent z.users L t c (heard_message z L t.connection f c) None → GivesFor shown z k now fresh s L records f c None
none_asked shown z k now fresh s L records f c t shows same event =
    asked_none shown z k now fresh s L records f c t (heard_message z L k f c) shows
    (subst (λ (n : ℕ). IsRequestEvent z.users L t c (heard_message z L n f c) None) same event)

asked_some : (shown : Showing) (z : ServerSettings) (k now : ℕ) (fresh : List ℕ) (s : model.Server) (L : Logons)
    (records : List model.Record) (f : ServerEnd) (m : Checked) (c : hearing.Checked) (t : Told) (due : Option model.Message)
    (e : ServerEvent) (r : Result Reply ServeError) → (bytes : List ℕ) → ShowsGoing bytes m c → IsOther c → t.connection ≡ k
    → t.fresh ≡ fresh → IsRequestTold f c t → IsRequestEvent z.users L t c due (Some e) → ServerServes shown z.users s L records now e r
    → GivesIf shown z k now fresh s L records f c due (Some r)
asked_some shown z k now fresh s L records f m c t None e r bytes shows other same random told event serves = absurd event
asked_some shown z k now fresh s L records f m c t (Some x) (events.Message message) r bytes shows other same random told event serves =
    plain_gives shown z k now fresh s L records f c message x r other.negotiate other.echo event.0 event.1 serves
asked_some shown z k now fresh s L records f m c t (Some x) (events.Setup q) r bytes shows other same random told event serves =
    setup_gives shown z k now fresh s L records f m c t q x r bytes shows other.negotiate same random told event.0 event.1 serves
asked_some shown z k now fresh s L records f m c t (Some x) (events.Accept connection) r bytes shows other same random told event serves =
    absurd event.1
asked_some shown z k now fresh s L records f m c t (Some x) (events.End connection) r bytes shows other same random told event serves =
    absurd event.1
asked_some shown z k now fresh s L records f m c t (Some x) events.Stop r bytes shows other same random told event serves = absurd event.1

-- the server's answer to what it asks
pub answered_here : (shown : Showing) (z : ServerSettings) (k now : ℕ) (fresh : List ℕ) (s : model.Server) (L : Logons)
    (records : List model.Record) (f : ServerEnd) (m : Checked) (c : hearing.Checked) (t : Told) (e : ServerEvent)
    (r : Result Reply ServeError) (bytes : List ℕ) → ShowsGoing bytes m c → replying.has_message_event m ≡ true → t.connection ≡ k
    → t.fresh ≡ fresh → IsRequestTold f c t → IsRequestEvent z.users L t c (heard_message z L t.connection f c) (Some e)
    → ServerServes shown z.users s L records now e r → GivesFor shown z k now fresh s L records f c (Some r)
answered_here shown z k now fresh s L records f m c t e r bytes shows event same random told asks serves =
    asked_some shown z k now fresh s L records f m c t (heard_message z L k f c) e r bytes shows (is_other m c shows.header event) same
    random told
    (subst (λ (n : ℕ). IsRequestEvent z.users L t c (heard_message z L n f c) (Some e)) same asks) serves

-- what is served is what is asked
pub is_served : (users : Users) (L : Logons) (t : Told) (c : hearing.Checked) (due : Option model.Message) (e : ServerEvent)
    → IsRequestEvent users L t c due (Some e) → IsServerServed e
is_served users L t c None e event = absurd event
is_served users L t c (Some m) e event = event.0

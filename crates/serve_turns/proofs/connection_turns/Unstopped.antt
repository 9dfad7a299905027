-- A frame that was answered was given no stop, and behind an event that was given none the server goes on.
use Rattle.std.proofs.Common.{◌≡◌, ℕ, ◌+◌, Bool, true, false, not, ◌&&◌, List, [], ◌∷◌, Option, None, Some, Result, Ok, Err}
use Rattle.std.proofs.Common.{inl, inr, ◌⊎◌, refl, sym, ap, subst, ◌∙◌, is_some}
use Rattle.std.specs.Prelude.{if◌then◌else◌, ⊤}
use Rattle.conn_core.specs.frame_events.Dealing.{EventAnswer}
use Rattle.conn_core.specs.frame_events.Telling.{ToldIf}
use Rattle.conn_core.specs.declared.requests.hearing.Told.{Told}
use Rattle.conn_core.specs.requests.Telling.{told_message}
use Rattle.conn_core.specs.declared.served.error.ServeError.{ServeError}
use Rattle.conn_core.specs.declared.served.error.ServeError.TheVariants as errors
use Rattle.conn_core.specs.declared.served.serve.Reply.{Reply}
use Rattle.conn_core.specs.served.Serving.{ServerServes}
use Rattle.server_checks.specs.declared.event_heard.event.ServerEvent.TheVariants as events
use Rattle.conn_core.specs.declared.frame_messages.checked.Checked as code
use Rattle.conn_core.specs.frame_messages.Checking.{message_in}
use Rattle.spec_exchange.specs.State as model
use Rattle.spec_exchange.specs.Table.{is_filled}
use Rattle.spec_world.specs.Ends.{ConnEnd, Logons, ServerEnd}
use Rattle.spec_world.specs.Given.{Answered, Dealt, Given, NoMemory, Stops, counted_setups, dealt_all, dealt_heard, dealt_next}
use Rattle.spec_world.specs.Given.{dealt_of, dealt_step, dealt_turn, given_of, given_step, has_event, is_past_setups}
use Rattle.spec_world.specs.Hearing.{Checked, Frame, check_frame, is_setup}
use Rattle.spec_world.specs.Related.{Fails, Goes, Turn, turn_of}
use Rattle.spec_world.specs.Settings.{ServerSettings}
use Rattle.serve_turns.specs.declared.event_book.turn.Answer.{Answer}
use Rattle.serve_turns.specs.declared.event_book.turn.Turn as event
use Rattle.serve_turns.specs.declared.event_book.turn.What.{What}
use Rattle.serve_turns.specs.declared.event_book.turn.What.TheVariants.{Accept, End, Message}
use Rattle.serve_turns.specs.declared.shared_book.view.Entry.{Entry}
use Rattle.serve_turns.specs.connection_turns.Ending.{refusal_of}
use Rattle.serve_turns.specs.event_book.History.{GivenIf, Meets, MeetsFrom, MeetsOn, MeetsOther, Off, On, Stand, Standing}
use Rattle.serve_turns.specs.event_book.History.{StandsAt}

-- it is no stop
abbrev pub Continues : Given → Type 0
Continues (Answered moment fresh L A) = ⊤
Continues (NoMemory s) = ⊤
Continues (Stops count) = ⊥

abbrev pub AllContinue : List Given → Type 0
AllContinue [] = ⊤
AllContinue (g ∷ gs) = Continues g × AllContinue gs

-- ---- one message

-- it stopped; or it did not, and what it took of what was given is no stop
abbrev Steps : Dealt → Dealt → Type 0
Steps d d' = ((count : ℕ) × (d'.stopped ≡ Some count)) ⊎ ((d'.stopped ≡ None) × (AllContinue d'.left → AllContinue d.left))

pick : (P : Dealt → Type 0) (b : Bool) (x y : Dealt) → P x → P y → P (if b then x else y)
pick P true x y p q = p
pick P false x y p q = q

counted_left : (d : Dealt) (c : Checked) → (counted_setups d c).left ≡ d.left
counted_left d c = pick (λ x. x.left ≡ d.left) (is_setup c.header) (record d { setups = d.setups + 1 }) d refl refl

counted_stopped : (d : Dealt) (c : Checked) → (counted_setups d c).stopped ≡ d.stopped
counted_stopped d c = pick (λ x. x.stopped ≡ d.stopped) (is_setup c.header) (record d { setups = d.setups + 1 }) d refl refl

module _ (z : ServerSettings) (k now : ℕ) (fresh : List ℕ) (f : ServerEnd) where
  next_steps : (d : Dealt) (c : Checked) (given : List Given) → d.stopped ≡ None → d.left ≡ given → Steps d (dealt_next z k f d c given)
  next_steps d c [] none is = inr (none, λ all. all)
  next_steps d c (Answered moment fresh' L A ∷ gs) none is = inr (
    counted_stopped (record d { left = gs }) c ∙ none,
    λ all. subst AllContinue (sym is) (tt, subst AllContinue (counted_left (record d { left = gs }) c) all),
  )
  next_steps d c (NoMemory s ∷ gs) none is = inr (
    counted_stopped (record d { left = gs }) c ∙ none,
    λ all. subst AllContinue (sym is) (tt, subst AllContinue (counted_left (record d { left = gs }) c) all),
  )
  next_steps d c (Stops count ∷ gs) none is = inl (count, refl)

  heard_steps : (d : Dealt) (c : Checked) (m : Option model.Message) → d.stopped ≡ None → Steps d (dealt_heard z k now fresh f d c m)
  heard_steps d c None none = inr (none, λ all. all)
  heard_steps d c (Some m) none =
      pick (Steps d) (not (has_event m.command)) _ _ (inr (none, λ all. all))
      (pick (Steps d) (is_past_setups d.setups c.header) _ _ (inr (none, λ all. all)) (next_steps d c d.left none refl))

  turn_steps : (d : Dealt) (old : Checked) (t : Turn) → d.stopped ≡ None → Steps d (dealt_turn z k now fresh f d old t)
  turn_steps d old (Goes c) none = heard_steps d c _ none
  turn_steps d old (Fails status) none = inr (none, λ all. all)

  -- ---- all messages of a frame

  if_true : (b : Bool) (x y : Dealt) → b ≡ true → (if b then x else y) ≡ x
  if_true b x y is = ap (λ c. if c then x else y) is

  if_false : (b : Bool) (x y : Dealt) → b ≡ false → (if b then x else y) ≡ y
  if_false b x y is = ap (λ c. if c then x else y) is

  stays_stopped : (d : Dealt) (cs : List Checked) (count : ℕ) → d.stopped ≡ Some count → dealt_all z k now fresh f d cs ≡ d
  unfolding dealt_all
  stays_stopped d [] count is = refl
  stays_stopped d (c ∷ cs) count is = if_true (is_some d.stopped) d _ (ap is_some is)

  all_continue : (d : Dealt) (cs : List Checked) → d.stopped ≡ None → (dealt_all z k now fresh f d cs).stopped ≡ None
      → (dealt_all z k now fresh f d cs).left ≡ [] → AllContinue d.left
  unfolding dealt_all
  all_continue d [] none goes all = subst AllContinue (sym all) tt
  all_continue d (c ∷ cs) none goes all =
      let e : Dealt = dealt_turn z k now fresh f d c (turn_of d.going.carried c) in
      let rest : Dealt = dealt_all z k now fresh f e cs in
      let same = if_false (is_some d.stopped) d rest (ap is_some none) in
      let goes_on : rest.stopped ≡ None = sym (ap (λ x. x.stopped) same) ∙ goes in
      let taken : rest.left ≡ [] = sym (ap (λ x. x.left) same) ∙ all in
      by_step e rest goes_on (turn_steps d c (turn_of d.going.carried c) none)
      (λ count is. stays_stopped e cs count is) (λ still. all_continue e cs still goes_on taken)
    where
      apart : (x : Option ℕ) (count : ℕ) → x ≡ Some count → x ≡ None → ⊥
      apart x count is none = absurd (cc (is, none))

      by_step : (e rest : Dealt) → rest.stopped ≡ None → Steps d e → ((count : ℕ) → e.stopped ≡ Some count → rest ≡ e)
          → (e.stopped ≡ None → AllContinue e.left) → AllContinue d.left
      by_step e rest goes_on (inl (count, is)) stays more =
          absurd (apart e.stopped count is (sym (ap (λ x. x.stopped) (stays count is)) ∙ goes_on))
      by_step e rest goes_on (inr (still, back)) stays more = back (more still)

-- ---- a frame that ended no connection was given no stop

none_left : (gs : List Given) → is_filled gs ≡ false → gs ≡ []
unfolding is_filled
none_left [] e = refl
none_left (g ∷ gs) e = absurd (cc e)

left_none : (missing : Bool) (gs : List Given) → (not missing && not (is_filled gs)) ≡ true → gs ≡ []
left_none missing gs e = none_left gs (by_test missing (is_filled gs) e)
  where
    by_test : (m l : Bool) → (not m && not l) ≡ true → l ≡ false
    by_test true l e = absurd (cc e)
    by_test false true e = absurd (cc e)
    by_test false false e = refl

module _ (z : ServerSettings) (k now : ℕ) (fresh : List ℕ) (before : ℕ) (s : model.Server) (L : Logons) (given : List Given) where
  unstopped : (f : ServerEnd) (d : Dealt) (sealed : Bool) (x : Option ℕ) → (dealt_step f sealed d.going x).ends ≡ None → x ≡ None
  unstopped f d sealed None e = refl
  unstopped f d sealed (Some count) e = absurd (cc e)

  by_check : (f : ServerEnd) (r : Result Frame ConnEnd) → (given_of z k now fresh before s L f given r).step.ends ≡ None
      → (given_of z k now fresh before s L f given r).matches ≡ true → AllContinue given
  by_check f (Err why) goes matches = absurd (cc goes)
  by_check f (Ok x) goes matches =
      let d : Dealt = dealt_of z k now fresh before s L given x in
      all_continue z k now fresh x.server_end _ x.messages refl (unstopped x.server_end d x.sealed d.stopped goes)
      (left_none d.missing d.left matches)

  pub frame_continues : (f : ServerEnd) (frame : List ℕ) → (given_step z k now fresh before s L f given frame).step.ends ≡ None
      → (given_step z k now fresh before s L f given frame).matches ≡ true → AllContinue given
  frame_continues f frame goes matches = by_check f (check_frame f frame) goes matches

-- ---- behind an event that was given no stop

abbrev IsOn : Standing → Type 0
IsOn to = (s : Stand) × (to ≡ On s)

given_apart : (g : Option Given) (y : Given) → g ≡ Some y → g ≡ None → ⊥
given_apart g y is none = absurd (cc (is, none))

not_stop : (g : Option Given) (y : Given) (count : ℕ) → g ≡ Some y → g ≡ Some (Stops count) → Continues y → ⊥
not_stop g y count is stop goes = subst Continues (one y (Stops count) (sym is ∙ stop)) goes
  where
    one : (a b : Given) → Some a ≡ Some b → a ≡ b
    one a b e = cc

on_at : (to : Standing) (s : model.Server) (L : Logons) (records : List model.Record) → StandsAt to s L records → IsOn to
on_at to s L records is = (record { server = s; logons = L; records = records }, is)

module _ (z : ServerSettings) (old : Stand) (now : ℕ) (to : Standing) (g : Option Given) (y : Given) (is : g ≡ Some y) (goes : Continues y) where
  by_reply : (t : Told) (m : code.Checked) (bytes : List ℕ) (x : Option model.Message) (reply : EventAnswer)
      → ToldIf (StandsAt to) z now old.server old.logons old.records t m bytes x reply → GivenIf now t old x reply to g → IsOn to
  by_reply t m bytes None None told given = absurd (given_apart g y is given)
  by_reply t m bytes (Some x) None told given = absurd (given_apart g y is given)
  by_reply t m bytes None (Some r) told given = absurd given
  by_reply t m bytes (Some x) (Some (Ok r)) told given = on_at to _ _ _ told.1.state
  by_reply t m bytes (Some x) (Some (Err errors.Memory)) told given = (given.0, given.1)
  by_reply t m bytes (Some x) (Some (Err (errors.Unanswered acted))) told given = absurd (given_apart g y is given)
  by_reply t m bytes (Some x) (Some (Err (errors.Stopped count))) told given = absurd (not_stop g y count is given.1 goes)

  by_what : (what : What) (t : Answer) → MeetsOn z old now what t g to → IsOn to
  by_what (Accept k) t meets = absurd (given_apart g y is meets.none_given)
  by_what (End k) t meets = absurd (given_apart g y is meets.none_given)
  by_what (Message a) t meets =
      by_reply a.told meets.message a.frame.bytes.items
      (told_message z old.logons a.told meets.message (message_in a.frame.bytes.items meets.message)) t.reply meets.gives meets.given

-- behind an event of which something else than a stop was given
goes_from : (z : ServerSettings) (mid to : Standing) (e : Entry event.Turn Answer) (g : Option Given) (y : Given) → MeetsFrom z mid e g to
    → g ≡ Some y → Continues y → (s : Stand) × (to ≡ On s)
goes_from z (On old) to e g y meets is goes = by_what z old e.event.now to g y is goes e.event.what e.reply meets
goes_from z (Off count) to e g y meets is goes = absurd (not_stop g y count is meets.given goes)

pub goes_behind : (z : ServerSettings) (found to : Standing) (e : Entry event.Turn Answer) (g : Option Given) (y : Given) → Meets z found e g to
    → g ≡ Some y → Continues y → (s : Stand) × (to ≡ On s)
goes_behind z found to e g y meets is goes = goes_from z meets.0 to e g y meets.2 is goes

-- behind one that took a connection in
taken_reply : (z : ServerSettings) (old : Stand) (now k : ℕ) (to : Standing) (reply : Result Reply ServeError)
    → ServerServes (StandsAt to) z.users old.server old.logons old.records now (events.Accept k) reply → refusal_of (Some reply) ≡ None → IsOn to
taken_reply z old now k to (Ok r) serves none = on_at to _ _ _ serves.2
taken_reply z old now k to (Err errors.Memory) serves none = absurd (cc none)
taken_reply z old now k to (Err (errors.Unanswered acted)) serves none = absurd (cc none)
taken_reply z old now k to (Err (errors.Stopped count)) serves none = absurd (cc none)

taken_on : (z : ServerSettings) (old : Stand) (k now : ℕ) (what : What) (t : Answer) (g : Option Given) (to : Standing) → what ≡ Accept k
    → refusal_of t.reply ≡ None → MeetsOn z old now what t g to → IsOn to
taken_on z old k now what t g to is none meets =
    let m : MeetsOther z old now (events.Accept k) t g to = subst (λ w. MeetsOn z old now w t g to) is meets in
    taken_reply z old now k to m.reply m.serves (sym (ap refusal_of m.is) ∙ none)

stop_refuses : (t : EventAnswer) (count : ℕ) → t ≡ Some (Err (errors.Stopped count)) → refusal_of t ≡ None → ⊥
stop_refuses t count is none = absurd (let h = sym (ap refusal_of is) ∙ none in cc h)

taken_from : (z : ServerSettings) (mid to : Standing) (e : Entry event.Turn Answer) (g : Option Given) (k : ℕ) → MeetsFrom z mid e g to
    → e.event.what ≡ Accept k → refusal_of e.reply.reply ≡ None → (s : Stand) × (to ≡ On s)
taken_from z (On old) to e g k meets is none = taken_on z old k e.event.now e.event.what e.reply g to is none meets
taken_from z (Off count) to e g k meets is none = absurd (stop_refuses e.reply.reply count meets.reply none)

pub taken_behind : (z : ServerSettings) (found to : Standing) (e : Entry event.Turn Answer) (g : Option Given) (k : ℕ) → Meets z found e g to
    → e.event.what ≡ Accept k → refusal_of e.reply.reply ≡ None → (s : Stand) × (to ≡ On s)
taken_behind z found to e g k meets is none = taken_from z meets.0 to e g k meets.2 is none

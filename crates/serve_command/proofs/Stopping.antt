-- A connection that is told to have ended because the server stopped tells the count at which it did.
use Rattle.std.proofs.Common.{◌≡◌, ◌⊎◌, inl, inr, ℕ, zero, suc, ◌+◌, ◌-◌, ◌==◌, ◌<◌, Bool, true, false, not, List, [], ◌∷◌, ◌++◌}
use Rattle.std.proofs.Common.{length, slice_get, Option, Some, None, is_some, Result, Ok, Err, refl, sym, ap, subst, ◌∙◌, arith}
use Rattle.std.specs.Prelude.{if◌then◌else◌, ⊤}
use Rattle.spec_exchange.specs.State as model
use Rattle.spec_world.specs.Answering as answering
use Rattle.spec_world.specs.Connection.{Going, answered, answered_with, ended_by as step_ends}
use Rattle.spec_world.specs.Ends as world
use Rattle.spec_world.specs.Ends.{Logons, ServerEnd}
use Rattle.spec_world.specs.Given.{Answered, Dealt, Given, NoMemory, Stops, counted_setups, dealt_all, dealt_heard, dealt_next}
use Rattle.spec_world.specs.Given.{dealt_of, dealt_step, dealt_turn, given_of, given_step, has_event, is_past_setups}
use Rattle.spec_world.specs.Hearing.{Checked, Frame, check_frame, is_setup}
use Rattle.spec_world.specs.Related.{Fails, Goes, Turn, turn_of}
use Rattle.spec_world.specs.Settings.{ServerSettings}
use Rattle.conn_core.specs.declared.end.ConnEnd.{ConnEnd}
use Rattle.conn_core.specs.declared.end.ConnEnd.TheVariants as ends
use Rattle.conn_core.specs.declared.requests.hearing.Told.{Told}
use Rattle.conn_core.specs.declared.served.error.ServeError.{ServeError}
use Rattle.conn_core.specs.declared.served.error.ServeError.TheVariants as errors
use Rattle.conn_core.specs.declared.served.serve.Reply.{Reply}
use Rattle.conn_core.specs.frame_events.Dealing.{EventAnswer}
use Rattle.conn_core.specs.frame_messages.Checking.{EndsAll, message_in}
use Rattle.conn_core.specs.reply_frames.Replying.{EndsAs}
use Rattle.conn_core.specs.requests.Telling.{told_message}
use Rattle.conn_core.proofs.Going.{check_goes}
use Rattle.serve_turns.specs.connection_turns.Ending.{closed_by, ended_by, ended_of, failure_of, refusal_of, told_end}
use Rattle.serve_turns.specs.connection_turns.Frames.{AreGiven, EndsFrame}
use Rattle.serve_turns.specs.connection_turns.Passing.{FramesStop, StopsBy}
use Rattle.serve_turns.specs.connection_turns.Serving.{WasRefused, WasServedBy, WasTakenIn}
use Rattle.serve_turns.specs.declared.event_book.turn.Answer.{Answer}
use Rattle.serve_turns.specs.declared.event_book.turn.Turn as event
use Rattle.serve_turns.specs.declared.event_book.turn.What.{What}
use Rattle.serve_turns.specs.declared.event_book.turn.What.TheVariants.{Accept, End, Message}
use Rattle.serve_turns.specs.declared.link_serving.ended.ConnEnd as tells
use Rattle.serve_turns.specs.declared.link_serving.ended.ConnEnd.TheVariants as told
use Rattle.serve_turns.specs.declared.link_serving.ended.Ended.{Ended}
use Rattle.serve_turns.specs.declared.link_serving.ended.Ended.TheVariants.{By, Closed}
use Rattle.serve_turns.specs.declared.shared_book.view.Entry.{Entry}
use Rattle.serve_turns.specs.event_book.History.{Course, GivenIf, IsRenewed, Meets, MeetsFrom, MeetsOn, Off, On, Placed, RunsBy, Stand}
use Rattle.serve_turns.specs.event_book.History.{Standing}
use Rattle.serve_turns.specs.event_book.History.{StopsAt}
use Rattle.serve_turns.specs.shared_book.Histories.{entries_of, entry_if}

-- ---- a frame that stopped was given that stop

abbrev HasStop : ℕ → List Given → Type 0
HasStop count [] = ⊥
HasStop count (g ∷ gs) = (g ≡ Stops count) ⊎ HasStop count gs

-- one that stopped in a message was given that, and what is left was given too
abbrev Steps : Dealt → Dealt → Type 0
Steps d e = ((count : ℕ) → e.stopped ≡ Some count → HasStop count d.left) × ((count : ℕ) → HasStop count e.left → HasStop count d.left)

apart : (o : Option ℕ) (count : ℕ) → o ≡ Some count → o ≡ None → ⊥
apart o count is none = absurd (cc (is, none))

one_count : (n count : ℕ) → Some n ≡ Some count → n ≡ count
one_count n count e = cc

pick : (P : Dealt → Type 0) (b : Bool) (x y : Dealt) → P x → P y → P (if b then x else y)
pick P true x y p q = p
pick P false x y p q = q

counted_left : (d : Dealt) (c : Checked) → (counted_setups d c).left ≡ d.left
counted_left d c = pick (λ x. x.left ≡ d.left) (is_setup c.header) (record d { setups = d.setups + 1 }) d refl refl

counted_stopped : (d : Dealt) (c : Checked) → (counted_setups d c).stopped ≡ d.stopped
counted_stopped d c = pick (λ x. x.stopped ≡ d.stopped) (is_setup c.header) (record d { setups = d.setups + 1 }) d refl refl

-- what didn't stop left all that it didn't take
goes_past : (d e : Dealt) → d.stopped ≡ None → e.stopped ≡ None → ((count : ℕ) → HasStop count e.left → HasStop count d.left) → Steps d e
goes_past d e none still back = (λ count is. absurd (apart e.stopped count is still), back)

behind_one : (d : Dealt) (c : Checked) (g : Given) (gs : List Given) → d.left ≡ g ∷ gs → (count : ℕ)
    → HasStop count (counted_setups (record d { left = gs }) c).left → HasStop count d.left
behind_one d c g gs is count has =
    subst (HasStop count) (sym is) (inr (subst (HasStop count) (counted_left (record d { left = gs }) c) has))

module _ (z : ServerSettings) (k now : ℕ) (fresh : List ℕ) (f : ServerEnd) where
  next_steps : (d : Dealt) (c : Checked) (given : List Given) → d.stopped ≡ None → d.left ≡ given → Steps d (dealt_next z k f d c given)
  next_steps d c [] none is = goes_past d (record d { missing = true }) none none (λ count has. has)
  next_steps d c (Answered moment fresh' L A ∷ gs) none is = (
    λ count stop. absurd (apart (counted_setups (record d { left = gs }) c).stopped count stop
        (counted_stopped (record d { left = gs }) c ∙ none)),
    behind_one d c (Answered moment fresh' L A) gs is,
  )
  next_steps d c (NoMemory s ∷ gs) none is = (
    λ count stop. absurd (apart (counted_setups (record d { left = gs }) c).stopped count stop
        (counted_stopped (record d { left = gs }) c ∙ none)),
    behind_one d c (NoMemory s) gs is,
  )
  next_steps d c (Stops n ∷ gs) none is = (
    λ count stop. subst (HasStop count) (sym is) (inl (ap Stops (one_count n count stop))),
    behind_one d c (Stops n) gs is,
  )

  heard_steps : (d : Dealt) (c : Checked) (m : Option model.Message) → d.stopped ≡ None → Steps d (dealt_heard z k now fresh f d c m)
  heard_steps d c None none = goes_past d (dealt_heard z k now fresh f d c None) none none (λ count has. has)
  heard_steps d c (Some m) none =
      pick (Steps d) (not (has_event m.command)) _ _ (λ count is. absurd (apart d.stopped count is none), λ count has. has)
      (pick (Steps d) (is_past_setups d.setups c.header) _ _ (λ count is. absurd (apart d.stopped count is none), λ count has. has)
      (next_steps d c d.left none refl))

  turn_steps : (d : Dealt) (old : Checked) (t : Turn) → d.stopped ≡ None → Steps d (dealt_turn z k now fresh f d old t)
  turn_steps d old (Goes c) none = heard_steps d c _ none
  turn_steps d old (Fails status) none = goes_past d (dealt_turn z k now fresh f d old (Fails status)) none none (λ count has. has)

  if_true : (b : Bool) (x y : Dealt) → b ≡ true → (if b then x else y) ≡ x
  if_true b x y is = ap (λ c. if c then x else y) is

  if_false : (b : Bool) (x y : Dealt) → b ≡ false → (if b then x else y) ≡ y
  if_false b x y is = ap (λ c. if c then x else y) is

  stays_stopped : (d : Dealt) (cs : List Checked) (count : ℕ) → d.stopped ≡ Some count → dealt_all z k now fresh f d cs ≡ d
  unfolding dealt_all
  stays_stopped d [] count is = refl
  stays_stopped d (c ∷ cs) count is = if_true (is_some d.stopped) d _ (ap is_some is)

  all_stops : (d : Dealt) (cs : List Checked) (count : ℕ) → d.stopped ≡ None → (dealt_all z k now fresh f d cs).stopped ≡ Some count
      → HasStop count d.left
  unfolding dealt_all
  all_stops d [] count none stop = absurd (apart d.stopped count stop none)
  all_stops d (c ∷ cs) count none stop =
      let e : Dealt = dealt_turn z k now fresh f d c (turn_of d.going.carried c) in
      let rest : Dealt = dealt_all z k now fresh f e cs in
      let same = if_false (is_some d.stopped) d rest (ap is_some none) in
      by_step e rest (sym (ap (λ x. x.stopped) same) ∙ stop) (turn_steps d c (turn_of d.going.carried c) none)
      (λ n is. stays_stopped e cs n is) (λ still later. all_stops e cs count still later) e.stopped refl
    where
      by_step : (e rest : Dealt) → rest.stopped ≡ Some count → Steps d e → ((n : ℕ) → e.stopped ≡ Some n → rest ≡ e)
          → (e.stopped ≡ None → rest.stopped ≡ Some count → HasStop count e.left) → (o : Option ℕ) → e.stopped ≡ o → HasStop count d.left
      by_step e rest later steps stays more None is = steps.1 count (more is later)
      by_step e rest later steps stays more (Some n) is = steps.0 count (sym (ap (λ x. x.stopped) (stays n is)) ∙ later)

-- an answer ends no connection but where no nonce is left
answers_on : (f : ServerEnd) (sealed : Bool) (g : Going) (count : ℕ) → (answered f sealed g).ends ≡ Some (world.Stopped count) → ⊥
answers_on f sealed g count e = by_room _ _ _ e
  where
    by_room : (spent : Bool) (rows : List (List (List ℕ))) (texts : List (List ℕ))
        → (if spent then step_ends g.server g.logons f g.taken world.Spent else answered_with f sealed g rows texts).ends
        ≡ Some (world.Stopped count) → ⊥
    by_room true rows texts e = absurd (cc e)
    by_room false rows texts e = absurd (cc e)

one_end : (a b : world.ConnEnd) → Some a ≡ Some b → a ≡ b
one_end a b e = cc

stopped_at : (f : ServerEnd) (sealed : Bool) (g : Going) (o : Option ℕ) (count : ℕ)
    → (dealt_step f sealed g o).ends ≡ Some (world.Stopped count) → o ≡ Some count
stopped_at f sealed g None count e = absurd (answers_on f sealed g count e)
stopped_at f sealed g (Some n) count e = ap (λ (x : world.ConnEnd). count_of x) (one_end (world.Stopped n) (world.Stopped count) e)
  where
    count_of : world.ConnEnd → Option ℕ
    count_of (world.Stopped m) = Some m
    count_of x = None

module _ (z : ServerSettings) (k now : ℕ) (fresh : List ℕ) (before : ℕ) (s : model.Server) (L : Logons) (given : List Given) (f : ServerEnd)
    (count : ℕ) where
  by_check : (r : Result Frame world.ConnEnd) → ((why : world.ConnEnd) → r ≡ Err why → why ≡ world.Stopped count → ⊥)
      → (given_of z k now fresh before s L f given r).step.ends ≡ Some (world.Stopped count) → HasStop count given
  by_check (Err why) never e = absurd (never why refl (one_end why (world.Stopped count) e))
  by_check (Ok x) never e =
      let d : Dealt = dealt_of z k now fresh before s L given x in
      all_stops z k now fresh x.server_end _ x.messages count refl (stopped_at x.server_end x.sealed d.going d.stopped count e)

  frame_stops : (frame : List ℕ) → (given_step z k now fresh before s L f given frame).step.ends ≡ Some (world.Stopped count)
      → HasStop count given
  frame_stops frame e = by_check (check_frame f frame)
      (λ why is stop. check_goes f frame count (subst (λ (r : Result Frame world.ConnEnd). EndsAll r (ends.Stopped count)) (sym is) stop)) e

-- ---- behind it the server has stopped, and stays so

none_given : (g : Option Given) (y : Given) → g ≡ Some y → g ≡ None → ⊥
none_given g y is none = absurd (cc (is, none))

one_stop : (g : Option Given) (n count : ℕ) → g ≡ Some (Stops n) → g ≡ Some (Stops count) → n ≡ count
one_stop g n count is stop = ap (λ (o : Option Given). count_of o) (sym is ∙ stop)
  where
    count_of : Option Given → ℕ
    count_of (Some (Stops m)) = m
    count_of o = 0

other_given : (g : Option Given) (y : Given) (count : ℕ) → g ≡ Some y → g ≡ Some (Stops count) → (y ≡ Stops count → ⊥) → ⊥
other_given g y count is stop other = other (one y (Stops count) (sym is ∙ stop))
  where
    one : (a b : Given) → Some a ≡ Some b → a ≡ b
    one a b e = cc

answer_apart : (moment : ℕ) (fresh : List ℕ) (L : Logons) (A : model.Answer) (count : ℕ) → Answered moment fresh L A ≡ Stops count → ⊥
answer_apart moment fresh L A count e = absurd cc

memory_apart : (s : model.Server) (count : ℕ) → NoMemory s ≡ Stops count → ⊥
memory_apart s count e = absurd cc

module _ (old : Stand) (now : ℕ) (t : Told) (to : Standing) (g : Option Given) (count : ℕ) (stop : g ≡ Some (Stops count)) where
  by_reply : (due : Option model.Message) (reply : EventAnswer) → GivenIf now t old due reply to g → to ≡ Off count
  by_reply None None given = absurd (none_given g (Stops count) stop given)
  by_reply (Some x) None given = absurd (none_given g (Stops count) stop given)
  by_reply None (Some r) given = absurd given
  by_reply (Some x) (Some (Ok r)) given = absurd (other_given g _ count given stop (answer_apart _ _ _ _ count))
  by_reply (Some x) (Some (Err errors.Memory)) given = absurd (other_given g _ count given.2 stop (memory_apart _ count))
  by_reply (Some x) (Some (Err (errors.Unanswered acted))) given = absurd (none_given g (Stops count) stop given)
  by_reply (Some x) (Some (Err (errors.Stopped n))) given = given.0 ∙ ap Off (one_stop g n count given.1 stop)

one_reply : (o : EventAnswer) (n count : ℕ) → o ≡ Some (Err (errors.Stopped n)) → o ≡ Some (Err (errors.Stopped count)) → n ≡ count
one_reply o n count is stop = ap (λ (x : EventAnswer). count_of x) (sym is ∙ stop)
  where
    count_of : EventAnswer → ℕ
    count_of (Some (Err (errors.Stopped m))) = m
    count_of x = 0

module _ (z : ServerSettings) (to : Standing) where
  by_what : (old : Stand) (now : ℕ) (what : What) (t : Answer) (g : Option Given) (count : ℕ) → MeetsOn z old now what t g to
      → g ≡ Some (Stops count) → to ≡ Off count
  by_what old now (Accept k) t g count meets stop = absurd (none_given g (Stops count) stop meets.none_given)
  by_what old now (End k) t g count meets stop = absurd (none_given g (Stops count) stop meets.none_given)
  by_what old now (Message a) t g count meets stop =
      by_reply old now a.told to g count stop
      (told_message z old.logons a.told meets.message (message_in a.frame.bytes.items meets.message)) t.reply meets.given

  -- of a message that was given a stop
  given_from : (mid : Standing) (e : Entry event.Turn Answer) (g : Option Given) (count : ℕ) → MeetsFrom z mid e g to
      → g ≡ Some (Stops count) → to ≡ Off count
  given_from (On old) e g count meets stop = by_what old e.event.now e.event.what e.reply g count meets stop
  given_from (Off n) e g count meets stop = meets.stays ∙ ap Off (one_stop g n count meets.given stop)

  off_given : (found : Standing) (e : Entry event.Turn Answer) (g : Option Given) (count : ℕ) → Meets z found e g to → g ≡ Some (Stops count)
      → to ≡ Off count
  off_given found e g count meets stop = given_from meets.0 e g count meets.2 stop

  -- of one that finds a server that has stopped
  off_stays : (mid : Standing) (e : Entry event.Turn Answer) (g : Option Given) (count : ℕ) → IsRenewed (Off count) mid
      → MeetsFrom z mid e g to → to ≡ Off count
  off_stays (On s) e g count renewed meets = absurd renewed
  off_stays (Off n) e g count renewed meets = meets.stays ∙ ap Off (sym renewed)

  stops_at : (r : Result Reply ServeError) (reply : EventAnswer) (count : ℕ) → reply ≡ Some r → StopsAt r to
      → reply ≡ Some (Err (errors.Stopped count)) → to ≡ Off count
  stops_at r reply count is stops stop = subst (λ (x : Result Reply ServeError). StopsAt x to) (one r _ (sym is ∙ stop)) stops
    where
      one : (a b : Result Reply ServeError) → Some a ≡ Some b → a ≡ b
      one a b e = cc

  -- of a connection that is made or lost, which was answered so
  made_from : (mid : Standing) (e : Entry event.Turn Answer) (g : Option Given) (k count : ℕ) → MeetsFrom z mid e g to
      → e.event.what ≡ Accept k → e.reply.reply ≡ Some (Err (errors.Stopped count)) → to ≡ Off count
  made_from (Off n) e g k count meets is stop = meets.stays ∙ ap Off (one_reply e.reply.reply n count meets.reply stop)
  made_from (On old) e g k count meets is stop =
      let m : MeetsOn z old e.event.now (Accept k) e.reply g to = subst (λ (w : What). MeetsOn z old e.event.now w e.reply g to) is meets in
      stops_at m.reply e.reply.reply count m.is m.stops stop

  off_made : (found : Standing) (e : Entry event.Turn Answer) (g : Option Given) (k count : ℕ) → Meets z found e g to
      → e.event.what ≡ Accept k → e.reply.reply ≡ Some (Err (errors.Stopped count)) → to ≡ Off count
  off_made found e g k count meets is stop = made_from meets.0 e g k count meets.2 is stop

  lost_from : (mid : Standing) (e : Entry event.Turn Answer) (g : Option Given) (k count : ℕ) → MeetsFrom z mid e g to
      → e.event.what ≡ End k → e.reply.reply ≡ Some (Err (errors.Stopped count)) → to ≡ Off count
  lost_from (Off n) e g k count meets is stop = meets.stays ∙ ap Off (one_reply e.reply.reply n count meets.reply stop)
  lost_from (On old) e g k count meets is stop =
      let m : MeetsOn z old e.event.now (End k) e.reply g to = subst (λ (w : What). MeetsOn z old e.event.now w e.reply g to) is meets in
      stops_at m.reply e.reply.reply count m.is m.stops stop

  off_lost : (found : Standing) (e : Entry event.Turn Answer) (g : Option Given) (k count : ℕ) → Meets z found e g to
      → e.event.what ≡ End k → e.reply.reply ≡ Some (Err (errors.Stopped count)) → to ≡ Off count
  off_lost found e g k count meets is stop = lost_from meets.0 e g k count meets.2 is stop

-- ---- how ends are told

same_end : (w : ConnEnd) (count : ℕ) → ended_by w ≡ By (told.Stopped count) → w ≡ ends.Stopped count
same_end w count e = by_end w (ap (λ (x : Ended). end_of x) e)
  where
    end_of : Ended → tells.ConnEnd
    end_of (By x) = x
    end_of Closed = told.Memory

    count_of : tells.ConnEnd → ℕ
    count_of (told.Stopped n) = n
    count_of x = 0

    by_end : (w : ConnEnd) → told_end w ≡ told.Stopped count → w ≡ ends.Stopped count
    by_end ends.BadFrame e = absurd (cc e)
    by_end (ends.OutsideWindow id) e = absurd (cc e)
    by_end ends.SecondNegotiate e = absurd (cc e)
    by_end ends.Unsealable e = absurd (cc e)
    by_end ends.Spent e = absurd (cc e)
    by_end ends.Full e = absurd (cc e)
    by_end (ends.LinkFault n) e = absurd (cc e)
    by_end (ends.Stopped n) e = ap (λ (x : tells.ConnEnd). ends.Stopped (count_of x)) e
    by_end ends.Memory e = absurd (cc e)

last_end : (o : Option ConnEnd) (count : ℕ) → closed_by o ≡ By (told.Stopped count) → o ≡ Some (ends.Stopped count)
last_end None count e = absurd (cc e)
last_end (Some w) count e = ap Some (same_end w count e)

count_in : Option ConnEnd → ℕ
count_in (Some (ends.Stopped n)) = n
count_in o = 0

failed_so : (reply : EventAnswer) (count : ℕ) → failure_of reply ≡ Some (ends.Stopped count) → reply ≡ Some (Err (errors.Stopped count))
unfolding count_in
failed_so None count e = absurd (cc e)
failed_so (Some (Ok r)) count e = absurd (cc e)
failed_so (Some (Err errors.Memory)) count e = absurd (cc e)
failed_so (Some (Err (errors.Unanswered acted))) count e = absurd (cc e)
failed_so (Some (Err (errors.Stopped n))) count e = ap (λ (o : Option ConnEnd). Some (Err (errors.Stopped (count_in o)))) e

refused_so : (reply : EventAnswer) (count : ℕ) → refusal_of reply ≡ Some (ends.Stopped count) → reply ≡ Some (Err (errors.Stopped count))
unfolding count_in
refused_so None count e = absurd (cc e)
refused_so (Some (Ok r)) count e = absurd (full (r.status == 0) e)
  where
    full : (b : Bool) → (if b then None else Some ends.Full) ≡ Some (ends.Stopped count) → ⊥
    full true e = absurd (cc e)
    full false e = absurd (cc e)
refused_so (Some (Err errors.Memory)) count e = absurd (cc e)
refused_so (Some (Err (errors.Unanswered acted))) count e = absurd (cc e)
refused_so (Some (Err (errors.Stopped n))) count e = ap (λ (o : Option ConnEnd). Some (Err (errors.Stopped (count_in o)))) e

cause_is : (o : Option world.ConnEnd) (count : ℕ) → EndsAs (ends.Stopped count) o → o ≡ Some (world.Stopped count)
cause_is None count h = absurd h
cause_is (Some why) count h = ap (λ (x : world.ConnEnd). Some x) h

-- ---- over a history

module _ (z : ServerSettings) (h : Course) (log : List (Entry event.Turn Answer)) (from to : Standing) (runs : RunsBy z from log h to) where
  entry_at : (es : List (Entry event.Turn Answer)) (i : ℕ) → i < length es → (e : Entry event.Turn Answer) × (slice_get es i ≡ Some e)
  entry_at [] i within = absurd (omega (arith, within))
  entry_at (e ∷ es) zero within = (e, refl)
  entry_at (e ∷ es) (suc i) within = entry_at es i (omega (arith, within))

  within : (es : List (Entry event.Turn Answer)) (i : ℕ) (e : Entry event.Turn Answer) → slice_get es i ≡ Some e → i < length es
  within [] zero e here = absurd (let q : None ≡ Some e = here in cc)
  within [] (suc i) e here = absurd (let q : None ≡ Some e = here in cc)
  within (x ∷ es) zero e here = omega arith
  within (x ∷ es) (suc i) e here = let less = within es i e here in omega (arith, less)

  -- where it had stopped at a place, it had at the end
  stays_off : (rest place count : ℕ) → place + rest ≡ length log → h.found place ≡ Off count → to ≡ Off count
  stays_off zero place count all off = sym runs.ends ∙ (ap h.found (let q : length log ≡ place = omega (arith, all) in q) ∙ off)
  stays_off (suc rest) place count all off =
      let at = entry_at log place (omega (arith, all)) in
      let meets = subst (λ (s : Standing). Meets z s at.0 (h.given place) (h.found (place + 1))) off (runs.meets place at.0 at.1) in
      stays_off rest (place + 1) count (omega (arith, all))
      (off_stays z (h.found (place + 1)) meets.0 at.0 (h.given place) count meets.1 meets.2)

  ends_off : (place count : ℕ) (e : Entry event.Turn Answer) → slice_get log place ≡ Some e → h.found (place + 1) ≡ Off count → to ≡ Off count
  ends_off place count e here off =
      let less = within log place e here in
      stays_off (length log - (place + 1)) (place + 1) count (omega (arith, less)) off

  -- ---- turns that stand in the history

  abbrev AllHere : List Placed → Type 0
  AllHere [] = ⊤
  AllHere (x ∷ xs) = (slice_get log x.0 ≡ Some x.1) × AllHere xs

  own_here : (seat place : ℕ) (es : List (Entry event.Turn Answer)) → ((i : ℕ) → slice_get log (place + i) ≡ slice_get es i)
      → AllHere (entries_of seat place es)
  own_here seat place [] same = tt
  own_here seat place (e ∷ es) same =
      let here : slice_get log place ≡ Some e = ap (slice_get log) (let q : place ≡ place + 0 = omega arith in q) ∙ same 0 in
      let rest = own_here seat (place + 1) es
      (λ i. ap (slice_get log) (let q : (place + 1) + i ≡ place + suc i = omega arith in q) ∙ same (suc i)) in
      elim (e.seat == seat) as (λ b. AllHere (entry_if b place e ++ entries_of seat (place + 1) es)) [
        | true ↦ (here, rest)
        | false ↦ rest
      ]

  front_here : (xs ys : List Placed) → AllHere (xs ++ ys) → AllHere xs
  front_here [] ys all = tt
  front_here (x ∷ xs) ys all = (all.0, front_here xs ys all.1)

  back_here : (xs ys : List Placed) → AllHere (xs ++ ys) → AllHere ys
  back_here [] ys all = all
  back_here (x ∷ xs) ys all = back_here xs ys all.1

  given_off : (turns : List Placed) (given : List Given) (count : ℕ) → AllHere turns → AreGiven h turns given → HasStop count given
      → to ≡ Off count
  given_off [] [] count here are has = absurd has
  given_off [] (g ∷ gs) count here are has = absurd are
  given_off (x ∷ xs) [] count here are has = absurd are
  given_off (x ∷ xs) (g ∷ gs) count here are (inl is) =
      ends_off x.0 count x.1 here.0
      (off_given z (h.found (x.0 + 1)) (h.found x.0) x.1 (h.given x.0) count (runs.meets x.0 x.1 here.0) (are.0 ∙ ap Some is))
  given_off (x ∷ xs) (g ∷ gs) count here are (inr has) = given_off xs gs count here.1 are.1 has

  frame_off : (k : ℕ) (f : ServerEnd) (before : ℕ) (frame : List ℕ) (turns : List Placed) (count : ℕ) → AllHere turns
      → EndsFrame z h k f before frame turns (ends.Stopped count) → to ≡ Off count
  frame_off k f before frame turns count here e =
      let t = e.takes in
      given_off turns t.given count here t.are
      (frame_stops z k t.now t.fresh before t.server t.logons t.given f count frame
      (sym (ap (λ x. x.step.ends) t.is) ∙ cause_is e.step.step.ends count e.cause))

  -- ---- a connection

  taken_off : (k : ℕ) (own : List Placed) (came wrote : List ℕ) (faults faults' : ℕ) (ended : Bool) (end : Ended)
      (seals : List answering.Seal) (count : ℕ) → AllHere own → WasTakenIn z h k own came wrote faults faults' ended end seals
      → end ≡ By (told.Stopped count) → to ≡ Off count
  taken_off k own came wrote faults faults' ended end seals count here w is =
      let all = subst AllHere w.own_are here in
      let lost = back_here w.turns (w.lost ∷ []) all.1 in
      by_why w.why w.frames (front_here w.turns (w.lost ∷ []) all.1) lost.0 (sym w.end_is ∙ is)
    where
      by_why : (why : Option ConnEnd)
          → FramesStop z h k (world.first_server_end w.salt) 0 w.turns [] came wrote faults faults' ended why seals → AllHere w.turns
          → slice_get log w.lost.0 ≡ Some w.lost.1 → ended_of why w.lost.1.reply.reply ≡ By (told.Stopped count) → to ≡ Off count
      by_why None frames turns lost e =
          ends_off w.lost.0 count w.lost.1 lost
          (off_lost z (h.found (w.lost.0 + 1)) (h.found w.lost.0) w.lost.1 (h.given w.lost.0) k count (runs.meets w.lost.0 w.lost.1 lost) w.is_lost
          (failed_so w.lost.1.reply.reply count (last_end (failure_of w.lost.1.reply.reply) count e)))
      by_why (Some why) frames turns lost e =
          let stops = subst (λ (x : ConnEnd). StopsBy z h k frames.behind frames.setups frames.rest wrote frames.said frames.last faults faults'
          ended (Some x)) (same_end why count e) frames.stops in
          frame_off k frames.behind frames.setups stops.frame frames.last count
          (back_here frames.answered frames.last (subst AllHere frames.turns_are turns)) stops.ends

  refused_off : (k : ℕ) (own : List Placed) (came wrote : List ℕ) (faults faults' : ℕ) (end : Ended)
      (seals : List answering.Seal) (count : ℕ) → AllHere own → WasRefused k own came wrote faults faults' end seals
      → end ≡ By (told.Stopped count) → to ≡ Off count
  refused_off k own came wrote faults faults' end seals count here w is =
      let all = subst AllHere w.own_are here in
      let why = same_end w.why count (sym w.end_is ∙ is) in
      ends_off w.made.0 count w.made.1 all.0
      (off_made z (h.found (w.made.0 + 1)) (h.found w.made.0) w.made.1 (h.given w.made.0) k count (runs.meets w.made.0 w.made.1 all.0) w.is_made
      (refused_so w.made.1.reply.reply count (w.refused ∙ ap Some why)))

  memory_told : (end : Ended) (count : ℕ) → end ≡ ended_by ends.Memory → end ≡ By (told.Stopped count) → ⊥
  memory_told end count is stop = absurd (let q = sym is ∙ stop in cc q)

  pub served_off : (k seat : ℕ) (came wrote : List ℕ) (faults faults' : ℕ) (ended : Bool) (end : Ended) (seals : List answering.Seal)
      (count : ℕ) → WasServedBy z h k (entries_of seat 0 log) came wrote faults faults' ended end seals → end ≡ By (told.Stopped count)
      → to ≡ Off count
  served_off k seat came wrote faults faults' ended end seals count (inl w) is =
      taken_off k (entries_of seat 0 log) came wrote faults faults' ended end seals count
      (own_here seat 0 log (λ i. ap (slice_get log) (let q : 0 + i ≡ i = omega arith in q))) w is
  served_off k seat came wrote faults faults' ended end seals count (inr (inl w)) is = absurd (memory_told end count w.end_is is)
  served_off k seat came wrote faults faults' ended end seals count (inr (inr (inl w))) is =
      refused_off k (entries_of seat 0 log) came wrote faults faults' end seals count
      (own_here seat 0 log (λ i. ap (slice_get log) (let q : 0 + i ≡ i = omega arith in q))) w is
  served_off k seat came wrote faults faults' ended end seals count (inr (inr (inr w))) is = absurd (memory_told end count w.end_is is)

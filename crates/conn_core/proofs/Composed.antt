-- The events of a frame and its answer, as one step.
use Rattle.std.proofs.Common.{◌≡◌, ◌==◌, ◌≤◌, ℕ, Bool, true, false, not, ◌&&◌, if◌then◌else◌, List, [], ◌∷◌, ◌++◌, length}
use Rattle.std.proofs.Common.{Option, Some, None, Result, Ok, Err, inl, inr, refl, sym, ap, subst, ◌∙◌}
use Rattle.std.specs.Prelude.{is_some}
use Rattle.std.proofs.lemmas.List.{append-nil}
use Rattle.spec_exchange.specs.State as model
use Rattle.spec_exchange.specs.Status.{no_memory}
use Rattle.spec_exchange.specs.Table.{is_filled}
use Rattle.spec_crypto.specs.sessions.Nonces.{last_counter}
use Rattle.spec_wire.specs.credits.Window.{HeldIds}
use Rattle.spec_world.specs.Settings.{ServerSettings}
use Rattle.spec_world.specs.Ends as ends
use Rattle.spec_world.specs.Ends.{Logons, ServerEnd}
use Rattle.spec_world.specs.Hearing as hearing
use Rattle.spec_world.specs.Hearing.{Frame, FrameText, check_frame, checked_text}
use Rattle.spec_world.specs.Answering as answering
use Rattle.spec_world.specs.Connection.{ConnectionStep, Going, answered, answered_with, ended_by}
use Rattle.spec_world.specs.Given.{GivenStep, dealt_step}
use Rattle.spec_world.specs.Mishaps.{Mishap, Owned}
use Rattle.spec_world.specs.Notes as notes
use Rattle.conn_core.specs.declared.conn.Conn.{Conn}
use Rattle.conn_core.specs.declared.end.ConnEnd.{ConnEnd}
use Rattle.conn_core.specs.declared.end.ConnEnd.TheVariants.{BadFrame, OutsideWindow, SecondNegotiate, Unsealable}
use Rattle.conn_core.specs.declared.end.ConnEnd.TheVariants.{Spent, Full, LinkFault, Stopped, Memory}
use Rattle.conn_core.specs.Shown.{IsEnd, MaySeal, ShowsEnd}
use Rattle.conn_core.specs.declared.frame_messages.checked.CheckedFrame.{CheckedFrame}
use Rattle.conn_core.specs.frame_messages.Checking.{EndsAll, CheckGoesOn, GreetsFirst, NoneGreets, ShowsFrame}
use Rattle.conn_core.specs.reply_sealing.Saying.{all_framed}
use Rattle.conn_core.specs.served.Replies.{some_acted, some_lacked}
use Rattle.conn_core.specs.served.Serving.{Showing}
use Rattle.conn_core.specs.message_replies.Replying.{AreAsked, AreMessagesSaid}
use Rattle.conn_core.specs.frame_events.Dealing.{Alone, Deals, Dealing, GoesThrough, EventLeaves, SameCommands, taken_records}
use Rattle.conn_core.specs.frame_events.Written.{AreWritten}
use Rattle.conn_core.specs.declared.frame_events.handing.Dealt.{Dealt}
use Rattle.conn_core.specs.declared.reply_frames.answering.Answered.{Answered}
use Rattle.conn_core.specs.reply_frames.Joined.{AreAtMost}
use Rattle.conn_core.specs.reply_frames.Replying.{AnswersWith, AreAnswers, EndsAs, WalkGoes, walk_replied}
use Rattle.conn_core.specs.declared.end.Ended.{Ended}
use Rattle.conn_core.proofs.Asked.{alone_by, kept_by}
use Rattle.conn_core.proofs.Going.{check_goes, replied_goes}
use Rattle.conn_core.specs.declared.taking.Taken.{Taken}
use Rattle.conn_core.specs.Taking.{FrameEndsAt, FrameEndsBy, FailsWith, FrameFinishes, FinishesWith, HaltsAt, IsEnded}
use Rattle.conn_core.specs.Taking.{IsFrameLeft, IsOwned, IsFrameTold}
use Rattle.conn_core.specs.Taking.{FrameServes, TakesBy, first_of}

-- ---- the messages with what they took over are of the same commands

same_none : (xs ys : List hearing.Checked) → SameCommands xs ys → NoneGreets ys → NoneGreets xs
same_none [] [] same none = tt
same_none (x ∷ xs) (y ∷ ys) same none = (
  ap (λ (n : ℕ). n == 0) same.0 ∙ none.0,
  same_none xs ys same.1 none.1,
)
same_none [] (y ∷ ys) same none = absurd same
same_none (x ∷ xs) [] same none = absurd same

pub same_greets : (xs ys : List hearing.Checked) → SameCommands xs ys → GreetsFirst ys → GreetsFirst xs
same_greets [] [] same first = tt
same_greets (x ∷ xs) (y ∷ ys) same first = same_none xs ys same.1 first
same_greets [] (y ∷ ys) same first = absurd same
same_greets (x ∷ xs) [] same first = absurd same

pub same_asked : (asked : Bool) (xs ys : List hearing.Checked) → SameCommands xs ys → AreAsked asked ys → AreAsked asked xs
unfolding AreAsked
same_asked asked [] [] same a = tt
same_asked asked (x ∷ xs) (y ∷ ys) same a = (
  λ greets. a.0 (sym (ap (λ (n : ℕ). n == 0) same.0) ∙ greets),
  same_asked asked xs ys same.1 a.1,
)
same_asked asked [] (y ∷ ys) same a = absurd same
same_asked asked (x ∷ xs) [] same a = absurd same

-- ---- what is owned

abbrev pub given_by : Frame → Owned → GivenStep
given_by F w = record {
  step = dealt_step F.server_end F.sealed w.dealt.going w.dealt.stopped;
  lacked = w.dealt.lacked;
  setups = w.dealt.setups;
  matches = not w.dealt.missing && not (is_filled w.mishaps);
}

pub none_left : (missing : Bool) (xs : List (Option Mishap)) → missing ≡ false → xs ≡ [] → (not missing && not (is_filled xs)) ≡ true
unfolding is_filled
none_left missing xs e f = ap (λ (b : Bool). not b && not (is_filled xs)) e ∙ ap (λ (l : List (Option Mishap)). not (is_filled l)) f

abbrev owned_by : (z : ServerSettings) (k now : ℕ) (fresh : List ℕ) (s : model.Server) (L : Logons) (f : ServerEnd) (F : Frame) (d : Dealt)
    (w : Owned) → Dealing z k now fresh s L F.server_end F.messages d w → IsOwned z k now fresh s L f (Ok F) (given_by F w)
owned_by z k now fresh s L f F d w deal = record {
  mishaps = deal.mishaps;
  is = ap (λ (x : Owned). given_by F x) deal.is;
  matches = none_left w.dealt.missing w.mishaps deal.none_missing deal.none_left;
  left = deal.left;
}

-- ---- the step of the answer is that of the messages that went

pub record IsAlike (S T : ConnectionStep) : Type 0 where
  pub ends_are : T.ends ≡ S.ends
  pub frames_are : T.frames ≡ S.frames
  pub status_is : T.status ≡ S.status
  pub end_is : T.server_end ≡ S.server_end

alike_by : (b : Bool) (f : ServerEnd) (sealed : Bool) (g : Going) (rows : List (List (List ℕ)))
    → IsAlike (if b then ended_by g.server g.logons f None ends.Spent
    else answered_with f sealed (record g { carried = None; taken = None }) rows (answering.each_joined rows))
    (if b then ended_by g.server g.logons f g.taken ends.Spent else answered_with f sealed g rows (answering.each_joined rows))
alike_by true f sealed g rows = record { ends_are = refl; frames_are = refl; status_is = refl; end_is = refl }
alike_by false f sealed g rows = record { ends_are = refl; frames_are = refl; status_is = refl; end_is = refl }

rows_of : Bool → List answering.SaidReply → List (List (List ℕ))
rows_of sealed rs = answering.all_texts sealed (answering.joined_in (answering.text_limit sealed) rs)

alike_step : (f : ServerEnd) (sealed : Bool) (g : Going)
    → IsAlike (walk_replied g.server g.logons f sealed g.window g.replies) (answered f sealed g)
unfolding rows_of
alike_step f sealed g =
    alike_by (sealed && not (answering.has_nonces f (length (rows_of sealed g.replies)))) f sealed g (rows_of sealed g.replies)

left_by : (b : Bool) (f : ServerEnd) (sealed : Bool) (g : Going) (rows : List (List (List ℕ)))
    → let S = (if b then ended_by g.server g.logons f g.taken ends.Spent else answered_with f sealed g rows (answering.each_joined rows)) in
    (S.server ≡ g.server) × (S.logons ≡ g.logons) × (S.taken ≡ g.taken)
left_by true f sealed g rows = (refl, refl, refl)
left_by false f sealed g rows = (refl, refl, refl)

left_step : (f : ServerEnd) (sealed : Bool) (g : Going)
    → ((answered f sealed g).server ≡ g.server) × ((answered f sealed g).logons ≡ g.logons) × ((answered f sealed g).taken ≡ g.taken)
unfolding rows_of
left_step f sealed g =
    left_by (sealed && not (answering.has_nonces f (length (rows_of sealed g.replies)))) f sealed g (rows_of sealed g.replies)

-- ---- all went on

went_step : (F : Frame) (w : Owned) → w.dealt.stopped ≡ None → (given_by F w).step ≡ answered F.server_end F.sealed w.dealt.going
went_step F w e = ap (λ (o : Option ℕ). dealt_step F.server_end F.sealed w.dealt.going o) e

-- what stands behind it
pub left_is : (shown : Showing) (z : ServerSettings) (k now : ℕ) (fresh : List ℕ) (s : model.Server) (L : Logons)
    (records : List model.Record) (F : Frame) (mishaps : List (Option Mishap)) (w : Owned)
    → EventLeaves shown z k now fresh s L records F.server_end F.messages mishaps w
    → IsFrameLeft shown (AreWritten z k now fresh s L mishaps (Ok F)) records (given_by F w)
left_is shown z k now fresh s L records F mishaps w t =
    let step = went_step F w t.goes in
    let left = left_step F.server_end F.sealed w.dealt.going in
    record {
      more = t.more;
      records_are = λ e. t.records_are e
          ∙ ap (λ o. taken_records o) (sym (ap (λ (S : ConnectionStep). S.taken) step ∙ left.2));
      wrote = t.written;
      state = subst (λ (u : model.Server). shown u (given_by F w).step.logons (records ++ t.more))
          (sym (ap (λ (S : ConnectionStep). S.server) step ∙ left.0))
          (subst (λ (l : Logons). shown w.dealt.going.server l (records ++ t.more))
          (sym (ap (λ (S : ConnectionStep). S.logons) step ∙ left.1)) t.state);
    }

taken_went : (F : Frame) (w : Owned) → w.dealt.stopped ≡ None → (given_by F w).step.taken ≡ w.dealt.going.taken
taken_went F w e =
    ap (λ (S : ConnectionStep). S.taken) (went_step F w e) ∙ (left_step F.server_end F.sealed w.dealt.going).2

taken_stopped : (F : Frame) (w : Owned) (count : ℕ) → w.dealt.stopped ≡ Some count → (given_by F w).step.taken ≡ w.dealt.going.taken
taken_stopped F w count e = ap (λ (o : Option ℕ). (dealt_step F.server_end F.sealed w.dealt.going o).taken) e

pub told_by : (z : ServerSettings) (k now : ℕ) (fresh : List ℕ) (s : model.Server) (L : Logons) (F : Frame) (d : Dealt) (w : Owned)
    (acted took lacked : Bool) → Dealing z k now fresh s L F.server_end F.messages d w
    → (given_by F w).step.taken ≡ w.dealt.going.taken → acted ≡ some_acted d.replies.items.items → took ≡ d.took
    → lacked ≡ some_lacked d.replies.items.items → IsFrameTold acted took lacked (given_by F w)
told_by z k now fresh s L F d w acted took lacked deal taken a t l = record {
  acted_is = a ∙ (sym deal.acted ∙ sym (ap (λ o. notes.has_acted o) taken));
  took_is = t ∙ (sym deal.took ∙ sym (ap (λ o. is_some o) taken));
  lacked_is = l ∙ sym deal.lacked;
}

pub answers_of : (z : ServerSettings) (now : ℕ) (F : Frame) (x old : CheckedFrame)
    (d : Dealt) (w : Owned) (t : GoesThrough z now F.server_end F.messages x d w)
    → x.sealed ≡ old.sealed → x.moment ≡ old.moment → old.moment ≡ now → (old.sealed ≡ true → MaySeal F.server_end.keys)
    → GreetsFirst F.messages → AreAsked F.server_end.asked F.messages → F.server_end.counter ≤ last_counter
    → AreAnswers z F.server_end t.taken w.dealt.going.replies w.dealt.going.window x d.replies.items.items
answers_of z now F x old d w t sealed moment time seals greets asked bound = record {
  seals = λ s. seals (sym sealed ∙ s);
  shows = t.shows;
  rightly = t.fails;
  greets = same_greets t.taken F.messages t.commands greets;
  heard = same_asked F.server_end.asked t.taken F.messages t.commands asked;
  said = subst (λ (n : ℕ). AreMessagesSaid z n F.server_end x.messages.items t.taken d.replies.items.items
      F.server_end.window w.dealt.going.replies
      w.dealt.going.window) (sym (moment ∙ time)) t.said;
  bound = bound;
}

-- ---- the answer

abbrev step_due : Frame → Owned → Bool → ConnectionStep
step_due F w sealed = walk_replied w.dealt.going.server w.dealt.going.logons F.server_end sealed w.dealt.going.window w.dealt.going.replies

pub alike_due : (F : Frame) (w : Owned) (sealed : Bool) → w.dealt.stopped ≡ None → F.sealed ≡ sealed
    → IsAlike (step_due F w sealed) (given_by F w).step
alike_due F w sealed goes is =
    subst (λ (S : ConnectionStep). IsAlike (step_due F w sealed) S) (sym (went_step F w goes))
    (subst (λ (b : Bool). IsAlike (step_due F w b) (answered F.server_end F.sealed w.dealt.going)) is
    (alike_step F.server_end F.sealed w.dealt.going))

pub goes_alike : (k : ℕ) (guid : List ℕ) (S T : ConnectionStep) (bytes : List ℕ) (new : Conn) → IsAlike S T → WalkGoes k guid S bytes new
    → WalkGoes k guid T bytes new
goes_alike k guid S T bytes new a g = record {
  goes_on = a.ends_are ∙ g.goes_on;
  frames = g.frames ∙ sym (ap (λ (fs : List (List ℕ)). all_framed fs) a.frames_are);
  behind = subst (λ (e : ServerEnd). ShowsEnd k guid new e) (sym a.end_is) g.behind;
  bound = subst (λ (e : ServerEnd). e.counter ≤ last_counter) (sym a.end_is) g.bound;
  short = subst (λ (fs : List (List ℕ)). AreAtMost 1114112 fs) (sym a.frames_are) g.short;
}

abbrev note_with : Option ℕ → Bool → notes.StepNote
note_with o b = record { status = o; acted = b }

pub taken_on : (shown : Showing) (z : ServerSettings) (k now : ℕ) (fresh : List ℕ) (s : model.Server) (L : Logons)
    (records : List model.Record) (f : ServerEnd) (F : Frame) (x : CheckedFrame) (d : Dealt) (w : Owned) (sealed : Bool) (new : Conn)
    (t : Taken) (deal : Dealing z k now fresh s L F.server_end F.messages d w)
    → EventLeaves shown z k now fresh s L records F.server_end F.messages deal.mishaps w
    → F.sealed ≡ sealed → FinishesWith k z.guid (step_due F w sealed) d new t
    → FrameServes shown z k now fresh s L records f F new (Ok t)
taken_on shown z k now fresh s L records f F x d w sealed new t deal left is done =
    let alike = alike_due F w sealed left.goes is in
    let told = told_by z k now fresh s L F d w t.note.acted t.took t.lacked deal (taken_went F w left.goes) done.acted
    done.took done.lacked in
    let status : t.note.status ≡ (if w.dealt.lacked then Some no_memory else (given_by F w).step.status) =
    done.status
    ∙ (ap (λ (o : Option ℕ). if some_lacked d.replies.items.items then Some no_memory else o) (sym alike.status_is)
    ∙ ap (λ (b : Bool). if b then Some no_memory else (given_by F w).step.status) (sym deal.lacked)) in (
      given_by F w,
      owned_by z k now fresh s L f F d w deal,
      record {
        goes = goes_alike k z.guid (step_due F w sealed) (given_by F w).step t.bytes new alike done.goes;
        note = ap (λ (o : Option ℕ). note_with o t.note.acted) status
            ∙ ap (λ (b : Bool). note_with (if w.dealt.lacked then Some no_memory else (given_by F w).step.status) b) told.acted_is;
        told = told;
        left = left_is shown z k now fresh s L records F deal.mishaps w left;
      },
    )

-- ---- an end

pub ends_alike : (S T : ConnectionStep) (why : ConnEnd) → IsAlike S T → EndsAs why S.ends → EndsAs why T.ends
ends_alike S T why a h = subst (λ (o : Option ends.ConnEnd). EndsAs why o) (sym a.ends_are) h

at_end : (shown : Showing) (written : List model.Record → Type 0) (records : List model.Record) (e : Ended) (G : GivenStep) (why : ConnEnd)
    → why ≡ e.why → IsFrameTold e.acted e.took e.lacked G → IsFrameLeft shown written records G → EndsAs why G.step.ends
    → FrameEndsAt shown written records e G
at_end shown written records e G why is told left h = record {
  told = told;
  left = left;
  why = subst (λ (x : ConnEnd). EndsAs x G.step.ends) is h;
}

stop_of : (o : Option ends.ConnEnd) (count : ℕ) → EndsAs (Stopped count) o → o ≡ Some (ends.Stopped count)
stop_of None count h = absurd h
stop_of (Some why) count h = ap (λ (x : ends.ConnEnd). Some x) h

ended_other : (shown : Showing) (z : ServerSettings) (k now : ℕ) (fresh : List ℕ) (s : model.Server) (L : Logons)
    (records : List model.Record) (f : ServerEnd) (F : Frame) (w : Owned) (e : Ended) (S : ConnectionStep) (why : ConnEnd)
    → e.why ≡ why → (owned : IsOwned z k now fresh s L f (Ok F) (given_by F w)) → IsFrameTold e.acted e.took e.lacked (given_by F w)
    → IsFrameLeft shown (AreWritten z k now fresh s L owned.mishaps (Ok F)) records (given_by F w) → IsAlike S (given_by F w).step
    → FailsWith S why
    → FrameEndsBy shown z k now fresh s L records f (Ok F) e why
ended_other shown z k now fresh s L records f F w e S Memory is owned told left alike h =
    inr (inl (given_by F w, owned, record { told = told; left = left }))
ended_other shown z k now fresh s L records f F w e S (Stopped count) is owned told left alike h = (
  given_by F w,
  owned,
  record {
    told = told;
    why = stop_of (given_by F w).step.ends count (ends_alike S (given_by F w).step (Stopped count) alike h);
  },
)
ended_other shown z k now fresh s L records f F w e S BadFrame is owned told left alike h = (
  given_by F w,
  owned,
  at_end shown (AreWritten z k now fresh s L owned.mishaps (Ok F)) records e (given_by F w)
      BadFrame (sym is) told left (ends_alike S (given_by F w).step BadFrame alike h),
)
ended_other shown z k now fresh s L records f F w e S (OutsideWindow id) is owned told left alike h = (
  given_by F w,
  owned,
  at_end shown (AreWritten z k now fresh s L owned.mishaps (Ok F)) records e (given_by F w)
      (OutsideWindow id) (sym is) told left (ends_alike S (given_by F w).step (OutsideWindow id) alike h),
)
ended_other shown z k now fresh s L records f F w e S SecondNegotiate is owned told left alike h = (
  given_by F w,
  owned,
  at_end shown (AreWritten z k now fresh s L owned.mishaps (Ok F)) records e (given_by F w)
      SecondNegotiate (sym is) told left (ends_alike S (given_by F w).step SecondNegotiate alike h),
)
ended_other shown z k now fresh s L records f F w e S Unsealable is owned told left alike h = (
  given_by F w,
  owned,
  at_end shown (AreWritten z k now fresh s L owned.mishaps (Ok F)) records e (given_by F w)
      Unsealable (sym is) told left (ends_alike S (given_by F w).step Unsealable alike h),
)
ended_other shown z k now fresh s L records f F w e S Spent is owned told left alike h = (
  given_by F w,
  owned,
  at_end shown (AreWritten z k now fresh s L owned.mishaps (Ok F)) records e (given_by F w)
      Spent (sym is) told left (ends_alike S (given_by F w).step Spent alike h),
)
ended_other shown z k now fresh s L records f F w e S Full is owned told left alike h = (
  given_by F w,
  owned,
  at_end shown (AreWritten z k now fresh s L owned.mishaps (Ok F)) records e (given_by F w) Full
      (sym is) told left (ends_alike S (given_by F w).step Full alike h),
)
ended_other shown z k now fresh s L records f F w e S (LinkFault count) is owned told left alike h = (
  given_by F w,
  owned,
  at_end shown (AreWritten z k now fresh s L owned.mishaps (Ok F)) records e (given_by F w)
      (LinkFault count) (sym is) told left (ends_alike S (given_by F w).step (LinkFault count) alike h),
)

pub ended_on : (shown : Showing) (z : ServerSettings) (k now : ℕ) (fresh : List ℕ) (s : model.Server) (L : Logons)
    (records : List model.Record) (f : ServerEnd) (F : Frame) (x : CheckedFrame) (d : Dealt) (w : Owned) (sealed : Bool) (new : Conn)
    (e : Ended) (deal : Dealing z k now fresh s L F.server_end F.messages d w)
    → EventLeaves shown z k now fresh s L records F.server_end F.messages deal.mishaps w
    → F.sealed ≡ sealed → IsEnded e.why d e → FailsWith (step_due F w sealed) e.why
    → FrameServes shown z k now fresh s L records f F new (Err e)
ended_on shown z k now fresh s L records f F x d w sealed new e deal left is ended h =
    ended_other shown z k now fresh s L records f F w e (step_due F w sealed) e.why refl (owned_by z k now fresh s L f F d w deal)
    (told_by z k now fresh s L F d w e.acted e.took e.lacked deal (taken_went F w left.goes) ended.acted ended.took ended.lacked)
    (left_is shown z k now fresh s L records F deal.mishaps w left) (alike_due F w sealed left.goes is) h

-- a server that stopped, or a reply that is lost
pub stopped_on : (shown : Showing) (z : ServerSettings) (k now : ℕ) (fresh : List ℕ) (s : model.Server) (L : Logons)
    (records : List model.Record) (f : ServerEnd) (F : Frame) (x : CheckedFrame) (d : Dealt) (new : Conn) (why : ConnEnd) (e : Ended)
    → IsEnded why d e → Deals shown z k now fresh s L records F.server_end F.messages x d (Err why)
    → FrameServes shown z k now fresh s L records f F new (Err e)
stopped_on shown z k now fresh s L records f F x d new (Stopped count) e ended h =
    let w = h.0 in
    subst (λ (y : ConnEnd). FrameEndsBy shown z k now fresh s L records f (Ok F) e y) (sym ended.why_is) (
      given_by F w,
      owned_by z k now fresh s L f F d w h.1,
      record {
        told = told_by z k now fresh s L F d w e.acted e.took e.lacked h.1 (taken_stopped F w count h.2) ended.acted
            ended.took ended.lacked;
        why = ap (λ (o : Option ℕ). (dealt_step F.server_end F.sealed w.dealt.going o).ends) h.2;
      },
    )
stopped_on shown z k now fresh s L records f F x d new Memory e ended h =
    let front = first_of h.count F in
    subst (λ (y : ConnEnd). FrameEndsBy shown z k now fresh s L records f (Ok F) e y) (sym ended.why_is) (inr (inr (record {
      frame = F;
      heard_is = refl;
      count = h.count;
      first = h.first;
      given = given_by front h.w;
      owned = owned_by z k now fresh s L f front d h.w h.deal;
      told = told_by z k now fresh s L front d h.w e.acted e.took e.lacked h.deal (taken_went front h.w h.leaves.goes)
          ended.acted ended.took
          ended.lacked;
      left = left_is shown z k now fresh s L records front h.deal.mishaps h.w h.leaves;
    })))
stopped_on shown z k now fresh s L records f F x d new BadFrame e ended h = absurd h
stopped_on shown z k now fresh s L records f F x d new (OutsideWindow id) e ended h = absurd h
stopped_on shown z k now fresh s L records f F x d new SecondNegotiate e ended h = absurd h
stopped_on shown z k now fresh s L records f F x d new Unsealable e ended h = absurd h
stopped_on shown z k now fresh s L records f F x d new Spent e ended h = absurd h
stopped_on shown z k now fresh s L records f F x d new Full e ended h = absurd h
stopped_on shown z k now fresh s L records f F x d new (LinkFault count) e ended h = absurd h

-- ---- nothing was carried out

abbrev pub at_once : ConnEnd → Ended
at_once why = record { why = why; acted = false; took = false; lacked = false }

abbrev ended_now : model.Server → Logons → ServerEnd → ends.ConnEnd → GivenStep
ended_now s L f why = record {
  step = ended_by s L f None why;
  lacked = false;
  setups = 0;
  matches = not (is_filled {X = Option Mishap} []);
}

none_matches : (s : model.Server) (L : Logons) (f : ServerEnd) (why : ends.ConnEnd) → (ended_now s L f why).matches ≡ true
unfolding is_filled
none_matches s L f why = refl

abbrev owned_none : (z : ServerSettings) (k now : ℕ) (fresh : List ℕ) (s : model.Server) (L : Logons) (f : ServerEnd) (why : ends.ConnEnd)
    → IsOwned z k now fresh s L f (Err why) (ended_now s L f why)
owned_none z k now fresh s L f why = record { mishaps = []; is = refl; matches = none_matches s L f why; left = tt }

told_none : (s : model.Server) (L : Logons) (f : ServerEnd) (why : ends.ConnEnd) → IsFrameTold false false false (ended_now s L f why)
told_none s L f why = record { acted_is = refl; took_is = refl; lacked_is = refl }

left_none : (shown : Showing) (s : model.Server) (L : Logons) (records : List model.Record) (f : ServerEnd) (why : ends.ConnEnd)
    → shown s L records → IsFrameLeft shown (λ more. more ≡ []) records (ended_now s L f why)
left_none shown s L records f why state = record {
  more = [];
  records_are = λ e. refl;
  wrote = refl;
  state = subst (λ (rs : List model.Record). shown s L rs) (sym (append-nil records)) state;
}

none_other : (shown : Showing) (z : ServerSettings) (k now : ℕ) (fresh : List ℕ) (s : model.Server) (L : Logons)
    (records : List model.Record) (f : ServerEnd) (why : ends.ConnEnd) (e : ConnEnd) → shown s L records → IsEnd e why
    → FrameEndsBy shown z k now fresh s L records f (Err why) (at_once e) e
none_other shown z k now fresh s L records f why Memory state h = absurd h
none_other shown z k now fresh s L records f why (LinkFault count) state h = absurd h
none_other shown z k now fresh s L records f why (Stopped count) state h = (
  ended_now s L f why,
  owned_none z k now fresh s L f why,
  record { told = told_none s L f why; why = ap (λ (x : ends.ConnEnd). Some x) h },
)
none_other shown z k now fresh s L records f why BadFrame state h = (
  ended_now s L f why,
  owned_none z k now fresh s L f why,
  record { told = told_none s L f why; left = left_none shown s L records f why state; why = h },
)
none_other shown z k now fresh s L records f why (OutsideWindow id) state h = (
  ended_now s L f why,
  owned_none z k now fresh s L f why,
  record { told = told_none s L f why; left = left_none shown s L records f why state; why = h },
)
none_other shown z k now fresh s L records f why SecondNegotiate state h = (
  ended_now s L f why,
  owned_none z k now fresh s L f why,
  record { told = told_none s L f why; left = left_none shown s L records f why state; why = h },
)
none_other shown z k now fresh s L records f why Unsealable state h = (
  ended_now s L f why,
  owned_none z k now fresh s L f why,
  record { told = told_none s L f why; left = left_none shown s L records f why state; why = h },
)
none_other shown z k now fresh s L records f why Spent state h = (
  ended_now s L f why,
  owned_none z k now fresh s L f why,
  record { told = told_none s L f why; left = left_none shown s L records f why state; why = h },
)
none_other shown z k now fresh s L records f why Full state h = (
  ended_now s L f why,
  owned_none z k now fresh s L f why,
  record { told = told_none s L f why; left = left_none shown s L records f why state; why = h },
)

pub lacks_all : (shown : Showing) (z : ServerSettings) (k now : ℕ) (fresh : List ℕ) (s : model.Server) (L : Logons)
    (records : List model.Record) (f : ServerEnd) (heard : Result Frame ends.ConnEnd) (new : Conn) → shown s L records
    → TakesBy shown z k now fresh s L records f heard new (Err (at_once Memory))
lacks_all shown z k now fresh s L records f heard new state = inl (record { told = (refl, refl, refl); state = state })

pub fails_checked : (shown : Showing) (z : ServerSettings) (k now : ℕ) (fresh : List ℕ) (s : model.Server) (L : Logons)
    (records : List model.Record) (f : ServerEnd) (heard : Result Frame ends.ConnEnd) (new : Conn) (e : ConnEnd) → shown s L records
    → EndsAll heard e → TakesBy shown z k now fresh s L records f heard new (Err (at_once e))
fails_checked shown z k now fresh s L records f heard new Memory state h = lacks_all shown z k now fresh s L records f heard new state
fails_checked shown z k now fresh s L records f (Err why) new BadFrame state h = none_other shown z k now fresh s L
    records f why BadFrame state h
fails_checked shown z k now fresh s L records f (Err why) new (OutsideWindow id) state h =
    none_other shown z k now fresh s L records f why (OutsideWindow id) state h
fails_checked shown z k now fresh s L records f (Err why) new SecondNegotiate state h =
    none_other shown z k now fresh s L records f why SecondNegotiate state h
fails_checked shown z k now fresh s L records f (Err why) new Unsealable state h = none_other shown z k now fresh s L
    records f why Unsealable state h
fails_checked shown z k now fresh s L records f (Err why) new Spent state h = none_other shown z k now fresh s L records f why Spent state h
fails_checked shown z k now fresh s L records f (Err why) new Full state h = none_other shown z k now fresh s L records f why Full state h
fails_checked shown z k now fresh s L records f (Err why) new (Stopped count) state h =
    none_other shown z k now fresh s L records f why (Stopped count) state h
fails_checked shown z k now fresh s L records f (Err why) new (LinkFault count) state h = absurd h
fails_checked shown z k now fresh s L records f (Ok F) new BadFrame state h = absurd h
fails_checked shown z k now fresh s L records f (Ok F) new (OutsideWindow id) state h = absurd h
fails_checked shown z k now fresh s L records f (Ok F) new SecondNegotiate state h = absurd h
fails_checked shown z k now fresh s L records f (Ok F) new Unsealable state h = absurd h
fails_checked shown z k now fresh s L records f (Ok F) new Spent state h = absurd h
fails_checked shown z k now fresh s L records f (Ok F) new Full state h = absurd h
fails_checked shown z k now fresh s L records f (Ok F) new (Stopped count) state h = absurd h
fails_checked shown z k now fresh s L records f (Ok F) new (LinkFault count) state h = absurd h

-- ---- as the code comes to it

abbrev fails_as : ConnEnd → Result Unit ConnEnd
fails_as why = Err why

pub stop_as : (why end : ConnEnd) (count : ℕ) → end ≡ why → end ≡ Stopped count → fails_as why ≡ fails_as (Stopped count)
stop_as why end count is stop = ap (λ (e : ConnEnd). fails_as e) (sym is ∙ stop)

fails_with : (k : ℕ) (guid : List ℕ) (S : ConnectionStep) (new : Conn) (why : ConnEnd) → AnswersWith k guid S new
    (Err why) → FailsWith S why
fails_with k guid S new Memory h = tt
fails_with k guid S new Spent h = h
fails_with k guid S new Unsealable h = h
fails_with k guid S new BadFrame h = h
fails_with k guid S new (OutsideWindow id) h = h
fails_with k guid S new SecondNegotiate h = h
fails_with k guid S new Full h = h
fails_with k guid S new (LinkFault count) h = h
fails_with k guid S new (Stopped count) h = h

pub finish_not : (k : ℕ) (guid : List ℕ) (S : ConnectionStep) (d : Dealt) (new : Conn) (why : ConnEnd) (e : Ended) → IsEnded why d e
    → AnswersWith k guid S new (Err why) → FrameFinishes k guid S d new (Err e)
finish_not k guid S d new why e ended h = (
  record { why_is = refl; acted = ended.acted; took = ended.took; lacked = ended.lacked },
  subst (λ (x : ConnEnd). FailsWith S x) (sym ended.why_is) (fails_with k guid S new why h),
)

pub finish_with : (k : ℕ) (guid : List ℕ) (S : ConnectionStep) (d : Dealt) (new : Conn) (a : Answered) (t : Taken)
    → (t.bytes ≡ a.bytes.items) × (t.note.status ≡ (if some_lacked d.replies.items.items then Some no_memory else a.status))
    × (t.note.acted ≡ some_acted d.replies.items.items) × (t.took ≡ d.took) × (t.lacked ≡ some_lacked d.replies.items.items)
    → AnswersWith k guid S new (Ok a) → FrameFinishes k guid S d new (Ok t)
finish_with k guid S d new a t is h = record {
  goes = subst (λ (b : List ℕ). WalkGoes k guid S b new) (sym is.0) h.0;
  status = is.1 ∙ ap (λ (o : Option ℕ). if some_lacked d.replies.items.items then Some no_memory else o) h.1;
  acted = is.2;
  took = is.3;
  lacked = is.4;
}

finish_halts : (k : ℕ) (guid : List ℕ) (s : model.Server) (L : Logons) (f : ServerEnd) (sealed : Bool) (w : HeldIds)
    (ss : List answering.SaidReply) (d : Dealt) (new : Conn) (after : Option ℕ) (result : Result Taken Ended)
    → FrameFinishes k guid (walk_replied s L f sealed w ss) d new result → HaltsAt after result
finish_halts k guid s L f sealed w ss d new after (Ok t) h = tt
finish_halts k guid s L f sealed w ss d new after (Err e) h = λ count is.
    absurd (replied_goes s L f sealed w ss count (subst (λ (y : ConnEnd). FailsWith (walk_replied s L f sealed w ss) y) is h.1))

served_by : (shown : Showing) (z : ServerSettings) (k now : ℕ) (fresh : List ℕ) (s : model.Server) (L : Logons)
    (records : List model.Record) (f : ServerEnd) (F : Frame) (x : CheckedFrame) (d : Dealt) (w : Owned) (sealed : Bool) (new : Conn)
    (result : Result Taken Ended) (deal : Dealing z k now fresh s L F.server_end F.messages d w)
    → EventLeaves shown z k now fresh s L records F.server_end F.messages deal.mishaps w → F.sealed ≡ sealed
    → FrameFinishes k z.guid (step_due F w sealed) d new result → FrameServes shown z k now fresh s L records f F new result
served_by shown z k now fresh s L records f F x d w sealed new (Ok t) deal left is h =
    taken_on shown z k now fresh s L records f F x d w sealed new t deal left is h
served_by shown z k now fresh s L records f F x d w sealed new (Err e) deal left is h =
    ended_on shown z k now fresh s L records f F x d w sealed new e deal left is h.0 h.1

pub served : (shown : Showing) (z : ServerSettings) (now : ℕ) (fresh : List ℕ) (s : model.Server) (L : Logons)
    (records : List model.Record) (f : ServerEnd) (F : Frame) (old x : CheckedFrame) (d : Dealt) (conn new : Conn)
    (result : Result Taken Ended) → Deals shown z conn.id now fresh s L records F.server_end F.messages x d (Ok tt)
    → ShowsEnd conn.id z.guid conn F.server_end → F.sealed ≡ old.sealed
    → (x.sealed ≡ old.sealed) × (x.moment ≡ old.moment) → old.moment ≡ now → (old.sealed ≡ true → MaySeal F.server_end.keys)
    → GreetsFirst F.messages → AreAsked F.server_end.asked F.messages → F.server_end.counter ≤ last_counter
    → ((u : model.Server) (l : Logons) (cs : List hearing.Checked) (ss : List answering.SaidReply) (w : HeldIds)
    → ShowsEnd conn.id z.guid conn F.server_end → AreAnswers z F.server_end cs ss w x d.replies.items.items
    → FrameFinishes conn.id z.guid (walk_replied u l F.server_end x.sealed w ss) d new result)
    → (after : Option ℕ) → FrameServes shown z conn.id now fresh s L records f F new result × HaltsAt after result
served shown z now fresh s L records f F old x d conn new result deals shows is same time seals greets asked bound finishes after =
    let w = deals.0 in
    let went = deals.3 in
    let done = finishes w.dealt.going.server w.dealt.going.logons went.taken w.dealt.going.replies w.dealt.going.window shows
    (answers_of z now F x old d w went same.0 same.1 time seals greets asked bound) in (
      served_by shown z conn.id now fresh s L records f F x d w x.sealed new result deals.1 deals.2 (is ∙ sym same.0) done,
      finish_halts conn.id z.guid w.dealt.going.server w.dealt.going.logons F.server_end x.sealed w.dealt.going.window
          w.dealt.going.replies d new after result done,
    )

-- the check of a frame stops no server
pub once_halts : (f : ServerEnd) (frame : List ℕ) (after : Option ℕ) (e : ConnEnd) (end : Ended) → end ≡ at_once e
    → EndsAll (check_frame f frame) e → HaltsAt after (Err end)
once_halts f frame after e end is h = λ count why.
    let same : e ≡ Stopped count = sym (ap (λ (x : Ended). x.why) is) ∙ why in
    absurd (check_goes f frame count (subst (λ (y : ConnEnd). EndsAll (check_frame f frame) y) same h))

-- nor does memory that runs out
memory_apart : (count : ℕ) → Memory ≡ Stopped count → ⊥
memory_apart count e = absurd cc

pub memory_halts : (after : Option ℕ) (end : Ended) → end ≡ at_once Memory → HaltsAt after (Err end)
memory_halts after end is = λ count why. absurd (memory_apart count (sym (ap (λ (x : Ended). x.why) is) ∙ why))

pub ended_once : (shown : Showing) (z : ServerSettings) (k now : ℕ) (fresh : List ℕ) (s : model.Server) (L : Logons)
    (records : List model.Record) (f : ServerEnd) (heard : Result Frame ends.ConnEnd) (new : Conn) (e : ConnEnd) (end : Ended)
    → end ≡ at_once e → TakesBy shown z k now fresh s L records f heard new (Err (at_once e))
    → TakesBy shown z k now fresh s L records f heard new (Err end)
ended_once shown z k now fresh s L records f heard new e end is h =
    subst (λ (x : Ended). TakesBy shown z k now fresh s L records f heard new (Err x)) (sym is) h

take_by : (shown : Showing) (z : ServerSettings) (k now : ℕ) (fresh : List ℕ) (s : model.Server) (L : Logons)
    (records : List model.Record) (f : ServerEnd) (text : Result FrameText ends.ConnEnd) (heard : Result Frame ends.ConnEnd)
    (mid new : Conn) (x : CheckedFrame) (after : Option ℕ) (result : Result Taken Ended) → checked_text f text ≡ heard
    → (is_some f.greeting ≡ true → f.asked ≡ true) → f.counter ≤ last_counter → CheckGoesOn k z.guid heard now mid x
    → ((F : Frame) → ShowsEnd mid.id z.guid mid F.server_end → ShowsFrame x F
    → (x.sealed ≡ true → MaySeal F.server_end.keys) → x.moment ≡ now
    → GreetsFirst F.messages → Alone F.messages → AreAsked F.server_end.asked F.messages → F.server_end.counter ≤ last_counter
    → FrameServes shown z mid.id now fresh s L records f F new result × HaltsAt after result)
    → TakesBy shown z k now fresh s L records f heard new result × HaltsAt after result
take_by shown z k now fresh s L records f text (Ok F) mid new x after result e met bound g serves =
    let kept = kept_by f text F e in
    let number : mid.id ≡ k = g.0.number in
    subst (λ (n : ℕ). FrameServes shown z n now fresh s L records f F new result × HaltsAt after result) number
    (serves F (subst (λ (n : ℕ). ShowsEnd n z.guid mid F.server_end) (sym number) g.0) g.1 g.3 g.2 g.4 (alone_by f text F met e) kept.asked
    (subst (λ (n : ℕ). n ≤ last_counter) (sym kept.counter) bound))
take_by shown z k now fresh s L records f text (Err why) mid new x after result e met bound g serves = absurd g

pub takes : (shown : Showing) (z : ServerSettings) (k now : ℕ) (fresh : List ℕ) (s : model.Server) (L : Logons)
    (records : List model.Record) (f : ServerEnd) (text : Result FrameText ends.ConnEnd) (mid new : Conn) (x : CheckedFrame)
    (after : Option ℕ) (result : Result Taken Ended) → (is_some f.greeting ≡ true → f.asked ≡ true) → f.counter ≤ last_counter
    → CheckGoesOn k z.guid (checked_text f text) now mid x
    → ((F : Frame) → ShowsEnd mid.id z.guid mid F.server_end → ShowsFrame x F
    → (x.sealed ≡ true → MaySeal F.server_end.keys) → x.moment ≡ now
    → GreetsFirst F.messages → Alone F.messages → AreAsked F.server_end.asked F.messages → F.server_end.counter ≤ last_counter
    → FrameServes shown z mid.id now fresh s L records f F new result × HaltsAt after result)
    → TakesBy shown z k now fresh s L records f (checked_text f text) new result × HaltsAt after result
takes shown z k now fresh s L records f text mid new x after result met bound g serves =
    take_by shown z k now fresh s L records f text (checked_text f text) mid new x after result refl met bound g serves

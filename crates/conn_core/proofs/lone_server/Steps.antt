-- What take_frame tells, where the step is the connection's own.
use Rattle.std.proofs.Common.{◌≡◌, ℕ, Bool, true, false, not, ◌&&◌, if◌then◌else◌, List, ◌++◌}
use Rattle.std.proofs.Common.{Option, Some, None, Result, Ok, Err}
use Rattle.std.proofs.Common.{refl, sym, ap, subst, ◌∙◌}
use Rattle.std.specs.Prelude.{is_some}
use Rattle.spec_exchange.specs.State as model
use Rattle.spec_exchange.specs.Status.{no_memory}
use Rattle.spec_world.specs.Settings.{ServerSettings}
use Rattle.spec_world.specs.Ends as ends
use Rattle.spec_world.specs.Ends.{ServerEnd, Logons}
use Rattle.spec_world.specs.Hearing.{check_frame}
use Rattle.spec_world.specs.Connection.{ConnectionStep, connection_step}
use Rattle.spec_world.specs.Given.{GivenStep}
use Rattle.spec_world.specs.Mishaps.{owned_step}
use Rattle.spec_world.specs.Notes as notes
use Rattle.law_ties.specs.lone_server.Own.{NothingBefell, OwnStep}
use Rattle.conn_core.specs.declared.conn.Conn.{Conn}
use Rattle.conn_core.specs.declared.end.ConnEnd.{ConnEnd}
use Rattle.conn_core.specs.declared.end.ConnEnd.TheVariants as causes
use Rattle.conn_core.specs.served.Serving.{Showing}
use Rattle.conn_core.specs.frame_events.Dealing.{taken_records}
use Rattle.conn_core.specs.frame_events.Written.{AreWritten}
use Rattle.conn_core.specs.reply_frames.Replying.{EndsAs, WalkGoes}
use Rattle.conn_core.specs.declared.end.Ended.{Ended}
use Rattle.conn_core.specs.declared.taking.Taken.{Taken}
use Rattle.conn_core.specs.Taking.{FrameEndsAt, FrameEndsBy, IsFrameLeft, IsOwned, FrameTakes}
use Rattle.conn_core.specs.lone_server.Own.{IsOwnEnd, TakesOwn, goes_by, is_own_end, is_own_result}

-- ---- the step

-- it is the connection's own where no event found no memory and the server goes on
own_step : OwnStep → NothingBefell → (z : ServerSettings) (k now : ℕ) (fresh : List ℕ) (s : model.Server) (L : Logons) (f : ServerEnd)
    (frame : List ℕ) (G : GivenStep) → IsOwned z k now fresh s L f (check_frame f frame) G → G.lacked ≡ false
    → ((count : ℕ) → G.step.ends ≡ Some (ends.Stopped count) → ⊥) → G.step ≡ connection_step z k now fresh s L f frame
own_step own none z k now fresh s L f frame G o lacked goes =
    let H = owned_step z k now fresh s L f o.mishaps frame in
    let same : H ≡ G = sym o.is in
    let matches : H.matches ≡ true = ap (λ (x : GivenStep). x.matches) same ∙ o.matches in
    let lacks : H.lacked ≡ false = ap (λ (x : GivenStep). x.lacked) same ∙ lacked in
    let befell = none z k now fresh s L f o.mishaps frame matches lacks
    (λ count e. goes count (sym (ap (λ (x : GivenStep). x.step.ends) same) ∙ e)) in
    ap (λ (x : GivenStep). x.step) o.is ∙ own z k now fresh s L f o.mishaps frame befell matches

-- the records that it leaves
left_own : (shown : Showing) (written : List model.Record → Type 0) (records : List model.Record) (G : GivenStep) (S : ConnectionStep)
    → IsFrameLeft shown written records G → G.lacked ≡ false → G.step ≡ S → shown S.server S.logons (records ++ taken_records S.taken)
left_own shown written records G S left lacked same =
    let more : left.more ≡ taken_records G.step.taken = left.records_are lacked in
    subst (λ (x : ConnectionStep). shown x.server x.logons (records ++ taken_records x.taken)) same
    (subst (λ (l : List model.Record). shown G.step.server G.step.logons (records ++ l)) more left.state)

-- ---- an answer

abbrev noted : Bool → ConnectionStep → notes.StepNote
noted b S = record { status = if b then Some no_memory else S.status; acted = notes.has_acted S.taken }

some_none : (why : ends.ConnEnd) → None ≡ Some why → ⊥
some_none why e = absurd cc

own_answer : OwnStep → NothingBefell → (shown : Showing) (z : ServerSettings) (k now : ℕ) (fresh : List ℕ) (s : model.Server)
    (L : Logons) (records : List model.Record) (f : ServerEnd) (frame : List ℕ) (new : Conn) (t : Taken) → t.lacked ≡ false
    → FrameTakes shown z k now fresh s L records f frame new (Ok t)
    → TakesOwn shown z k now fresh s L records f frame new (Some (Ok t))
own_answer own none shown z k now fresh s L records f frame new t lacked takes =
    let G = takes.0 in
    let on = takes.2 in
    let S = connection_step z k now fresh s L f frame in
    let lacks : G.lacked ≡ false = sym on.told.lacked_is ∙ lacked in
    let same : G.step ≡ S = own_step own none z k now fresh s L f frame G takes.1 lacks
    (λ count e. some_none (ends.Stopped count) (sym on.goes.goes_on ∙ e)) in
    record {
      goes = subst (λ (x : ConnectionStep). WalkGoes k z.guid x t.bytes new) same on.goes;
      note = on.note ∙ (ap (λ (b : Bool). noted b G.step) lacks ∙ ap (λ (x : ConnectionStep). notes.note_of_step x) same);
      took = on.told.took_is ∙ ap (λ (x : ConnectionStep). is_some x.taken) same;
      state = left_own shown _ records G S on.left lacks same;
    }

-- ---- an end

both_true : (a b : Bool) → (a && b) ≡ true → (a ≡ true) × (b ≡ true)
both_true true b e = (refl, e)
both_true false b e = absurd cc

not_lacking : (a : Bool) → not a ≡ true → a ≡ false
not_lacking true e = absurd cc
not_lacking false e = refl

-- an end that isn't a stop is no stop's
no_stop : (why : ConnEnd) (o : Option ends.ConnEnd) → goes_by why ≡ true → EndsAs why o → (count : ℕ) → o ≡ Some (ends.Stopped count) → ⊥
no_stop why None goes e count is = absurd e
no_stop causes.BadFrame (Some x) goes e count is = absurd (let same : Some ends.BadFrame ≡ Some (ends.Stopped count) = ap (λ (y :
    ends.ConnEnd). Some y) (sym e) ∙ is in cc)
no_stop (causes.OutsideWindow id) (Some x) goes e count is = absurd (let same : Some (ends.OutsideWindow id) ≡ Some (ends.Stopped
    count) = ap (λ (y : ends.ConnEnd). Some y) (sym e) ∙ is in cc)
no_stop causes.SecondNegotiate (Some x) goes e count is = absurd (let same : Some ends.SecondNegotiate ≡ Some (ends.Stopped count) = ap
    (λ (y : ends.ConnEnd). Some y) (sym e) ∙ is in cc)
no_stop causes.Unsealable (Some x) goes e count is = absurd (let same : Some ends.Unsealable ≡ Some (ends.Stopped count) = ap (λ (y :
    ends.ConnEnd). Some y) (sym e) ∙ is in cc)
no_stop causes.Spent (Some x) goes e count is = absurd (let same : Some ends.Spent ≡ Some (ends.Stopped count) = ap (λ (y :
    ends.ConnEnd). Some y) (sym e) ∙ is in cc)
no_stop causes.Full (Some x) goes e count is = absurd (let same : Some ends.Full ≡ Some (ends.Stopped count) = ap (λ (y :
    ends.ConnEnd). Some y) (sym e) ∙ is in cc)
no_stop (causes.LinkFault q) (Some x) goes e count is = absurd e
no_stop (causes.Stopped q) (Some x) goes e count is = absurd cc
no_stop causes.Memory (Some x) goes e count is = absurd cc

end_of : OwnStep → NothingBefell → (shown : Showing) (written : List model.Record → Type 0) (z : ServerSettings) (k now : ℕ)
    (fresh : List ℕ) (s : model.Server)
    (L : Logons) (records : List model.Record) (f : ServerEnd) (frame : List ℕ) (e : Ended) (G : GivenStep) → e.lacked ≡ false
    → goes_by e.why ≡ true → IsOwned z k now fresh s L f (check_frame f frame) G → FrameEndsAt shown written records e G
    → IsOwnEnd shown records e (connection_step z k now fresh s L f frame)
end_of own none shown written z k now fresh s L records f frame e G lacked goes owned at =
    let S = connection_step z k now fresh s L f frame in
    let lacks : G.lacked ≡ false = sym at.told.lacked_is ∙ lacked in
    let same : G.step ≡ S = own_step own none z k now fresh s L f frame G owned lacks (no_stop e.why G.step.ends goes at.why) in
    record {
      why = subst (λ (x : ConnectionStep). EndsAs e.why x.ends) same at.why;
      acted = at.told.acted_is ∙ ap (λ (x : ConnectionStep). notes.has_acted x.taken) same;
      took = at.told.took_is ∙ ap (λ (x : ConnectionStep). is_some x.taken) same;
      state = left_own shown written records G S at.left lacks same;
    }

ends_at : (shown : Showing) (z : ServerSettings) (k now : ℕ) (fresh : List ℕ) (s : model.Server) (L : Logons)
    (records : List model.Record) (f : ServerEnd) (frame : List ℕ) (e : Ended) (why : ConnEnd) → goes_by why ≡ true
    → FrameEndsBy shown z k now fresh s L records f (check_frame f frame) e why
    → (G : GivenStep) × (own : IsOwned z k now fresh s L f (check_frame f frame) G)
    × FrameEndsAt shown (AreWritten z k now fresh s L own.mishaps (check_frame f frame)) records e G
ends_at shown z k now fresh s L records f frame e causes.BadFrame goes p = p
ends_at shown z k now fresh s L records f frame e (causes.OutsideWindow id) goes p = p
ends_at shown z k now fresh s L records f frame e causes.SecondNegotiate goes p = p
ends_at shown z k now fresh s L records f frame e causes.Unsealable goes p = p
ends_at shown z k now fresh s L records f frame e causes.Spent goes p = p
ends_at shown z k now fresh s L records f frame e causes.Full goes p = p
ends_at shown z k now fresh s L records f frame e (causes.LinkFault count) goes p = p
ends_at shown z k now fresh s L records f frame e (causes.Stopped count) goes p = absurd cc
ends_at shown z k now fresh s L records f frame e causes.Memory goes p = absurd cc

own_end : OwnStep → NothingBefell → (shown : Showing) (z : ServerSettings) (k now : ℕ) (fresh : List ℕ) (s : model.Server)
    (L : Logons) (records : List model.Record) (f : ServerEnd) (frame : List ℕ) (new : Conn) (e : Ended) → is_own_end e ≡ true
    → FrameTakes shown z k now fresh s L records f frame new (Err e)
    → TakesOwn shown z k now fresh s L records f frame new (Some (Err e))
own_end own none shown z k now fresh s L records f frame new e is takes =
    let parts = both_true (not e.lacked) (goes_by e.why) is in
    let p = ends_at shown z k now fresh s L records f frame e e.why parts.1 takes in
    end_of own none shown (AreWritten z k now fresh s L p.1.mishaps (check_frame f frame)) z k now fresh s L records f frame e p.0
    (not_lacking e.lacked parts.0) parts.1 p.1 p.2

pub own_result : OwnStep → NothingBefell → (shown : Showing) (z : ServerSettings) (k now : ℕ) (fresh : List ℕ) (s : model.Server)
    (L : Logons) (records : List model.Record) (f : ServerEnd) (frame : List ℕ) (new : Conn) (r : Result Taken Ended)
    → is_own_result r ≡ true → FrameTakes shown z k now fresh s L records f frame new r
    → TakesOwn shown z k now fresh s L records f frame new (Some r)
own_result own none shown z k now fresh s L records f frame new (Ok t) is takes =
    own_answer own none shown z k now fresh s L records f frame new t (not_lacking t.lacked is) takes
own_result own none shown z k now fresh s L records f frame new (Err e) is takes =
    own_end own none shown z k now fresh s L records f frame new e is takes

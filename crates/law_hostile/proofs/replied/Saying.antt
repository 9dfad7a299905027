-- Along a run each reply that the server signs is what an end says to one message that it heard without a fault.
use Rattle.std.proofs.Common.{◌≡◌, ℕ, true, false, List, [], ◌∷◌, ◌++◌, ◌⊎◌, inl, inr, refl, sym, ◌∙◌, ap}
use Rattle.std.proofs.Common.{subst, take, Option, Some, None, slice_get, Result, Ok, Err}
use Rattle.std.specs.Prelude.{is_some}
use Rattle.law_server.proofs.tables.Logic.{either}
use Rattle.spec_crypto.specs.declared.sessions.material.Signer.{Signer}
use Rattle.spec_exchange.specs.State.{Server, Message}
use Rattle.spec_exchange.specs.Network.{answer_to}
use Rattle.spec_world.specs.Settings.{WorldSettings, ServerSettings, draw}
use Rattle.spec_world.specs.Ends.{ServerEnd, ConnEnd, Logons}
use Rattle.spec_world.specs.Logon.{Progress, Stays, Interim, Final, progress, signer_by, unless_faulty}
use Rattle.spec_world.specs.Answering.{SaidReply, said_text, gathered, all_texts, texts_of, concatenated}
use Rattle.spec_world.specs.Connection.{went_all, went_heard, beginning, heard_message, said_to}
use Rattle.spec_world.specs.Hearing.{Checked, Frame, check_frame, begins_sealed}
use Rattle.spec_world.specs.World.{Wires, step_at}
use Rattle.spec_hostile.specs.RepeatRuns.{RepeatWorld, RepeatEvent, Same, Give, UpFrame, is_served, loaded_up, own_connection}
use Rattle.spec_hostile.specs.RepeatRuns.{repeat_happens, repeat_start}
use Rattle.spec_hostile.specs.SignedFor.{Watched, SignedEntry, InSession, opening_of, binds_to, entry_by, entries_said, entry_up}
use Rattle.spec_hostile.specs.SignedFor.{entries_up, carries_signature, put_since, client_secret, went_at, texts_said, signed_in, said_in}
use Rattle.spec_hostile.specs.SignedFor.{watching, watched_up, watched_served, watched_happens, watched_run}
use Rattle.law_hostile.specs.ids.OwnIds.{BearsOne}
use Rattle.law_hostile.specs.replied.Replies.{answer_said, IsAnswer, WasAnswered, SignedRepliesAnswer}
use Rattle.law_hostile.proofs.puts.Growing.{none_in}
use Rattle.law_hostile.proofs.puts.Requests.{AllOf, none_of_all, all_with, all_joined}
use Rattle.law_hostile.proofs.puts.Replies.{wires_loaded, entry_asks, said_message}
use Rattle.law_hostile.proofs.finals.Replying.{Lone, IsLone, lone_frame}
use Rattle.law_hostile.proofs.finals.Signing.{Holds, event_holds, start_holds, fine_of, plain_signed}

-- ---- what is said to the one message of a frame

pub record SaidBy (z : ServerSettings) (k now : ℕ) (fresh : List ℕ) (f : ServerEnd) (s : Server) (L : Logons) (c : Checked) (rs : List SaidReply)
    : Type 0 where
  pub message : Message
  pub heard : heard_message z L k f c ≡ Some message
  pub is : rs ≡ said_to z k now fresh f L f.window c message.command (answer_to s now message message.command) ∷ []

said_heard : (z : ServerSettings) (k now : ℕ) (fresh : List ℕ) (f : ServerEnd) (s : Server) (L : Logons) (c : Checked) (o : Option Message)
    → heard_message z L k f c ≡ o
    → ((went_heard z k now fresh f (beginning s L f) c o).replies ≡ [])
    ⊎ SaidBy z k now fresh f s L c (went_heard z k now fresh f (beginning s L f) c o).replies
said_heard z k now fresh f s L c None e = inl refl
said_heard z k now fresh f s L c (Some m) e = inr (record { message = m; heard = e; is = refl })

pub said_all : (z : ServerSettings) (k now : ℕ) (fresh : List ℕ) (f : ServerEnd) (s : Server) (L : Logons) (cs : List Checked) (c : Checked)
    → cs ≡ c ∷ []
    → ((went_all z k now fresh f (beginning s L f) cs).replies ≡ [])
    ⊎ SaidBy z k now fresh f s L c (went_all z k now fresh f (beginning s L f) cs).replies
unfolding went_all
said_all z k now fresh f s L cs c e =
    subst (λ ds. ((went_all z k now fresh f (beginning s L f) ds).replies ≡ [])
    ⊎ SaidBy z k now fresh f s L c (went_all z k now fresh f (beginning s L f) ds).replies) (sym e)
    (said_heard z k now fresh f s L c (heard_message z L k f c) refl)

-- ---- its entry

one_text : (r : SaidReply) → texts_said (r ∷ []) ≡ said_text false false r ∷ []
unfolding gathered all_texts texts_of concatenated
one_text r = refl

-- only what has no fault is answered with a signature
fine_if : (o : Option ℕ) (s : Option Signer) → is_some (unless_faulty o s) ≡ true → o ≡ None
fine_if None s e = refl
fine_if (Some status) s e = absurd (let q : false ≡ true = e in cc)

entry_place : (t : Watched) (k : ℕ) (s : Server) (f : ServerEnd) (r : SaidReply) (m : List ℕ) (p : Progress)
    → ((entry_by t k s f r m p).place ≡ opening_of t.repeating k) ⊎ ((entry_by t k s f r m p).place ≡ InSession r.request.header.session)
entry_place t k s f r m (Final binding channel encrypts) = inl refl
entry_place t k s f r m (Interim binding) = inr refl
entry_place t k s f r m Stays =
    either (λ (e : SignedEntry). (e.place ≡ opening_of t.repeating k) ⊎ (e.place ≡ InSession r.request.header.session))
    (binds_to s r.request) _ _ (λ _. inr refl) (λ _. inl refl)

no_entry : (P : SignedEntry → Type 0) (t : Watched) (k : ℕ) (s : Server) (f : ServerEnd) (ms : List (List ℕ))
    → AllOf P (entries_said t k s f [] ms)
unfolding entries_said
no_entry P t k s f ms = none_of_all P

one_entry : (P : SignedEntry → Type 0) (t : Watched) (k : ℕ) (s : Server) (f : ServerEnd) (r : SaidReply) (m : List ℕ)
    → (is_some r.signer ≡ true → P (entry_by t k s f r m r.progress)) → AllOf P (entries_said t k s f (r ∷ []) (m ∷ []))
unfolding entries_said
one_entry P t k s f r m p =
    let e = entry_by t k s f r m r.progress in
    either (λ es. AllOf P es) (is_some r.signer) (e ∷ []) [] (λ on. all_with P e [] (p on) (none_of_all P)) (λ _. none_of_all P)

-- ---- Give up

-- of this entry: it was signed before, or it is the answer at this event
abbrev Known : WorldSettings → Watched → ℕ → ℕ → SignedEntry → Type 0
Known z t k place e = e.to_server ≡ false → ((i : ℕ) × (slice_get t.signed i ≡ Some e)) ⊎ IsAnswer z t k place e

-- what is given
record Gives (t : Watched) (k place : ℕ) (u : UpFrame) : Type 0 where
  at : slice_get t.repeating.ups place ≡ Some u
  served : is_served t.repeating.world k ≡ true

same_end : (r : RepeatWorld) (k : ℕ) (u : UpFrame) → ((loaded_up r k u).wires k).server_end ≡ (r.world.wires k).server_end
same_end r k u = ap (λ (v : Wires). v.server_end) (wires_loaded r k u)

entry_known : (z : WorldSettings) (t : Watched) (k place : ℕ) (u : UpFrame) (x : Frame) (c : Checked) (m : Message) (s : Server)
    → Gives t k place u → check_frame (t.repeating.world.wires k).server_end u.frame ≡ Ok x → x.messages ≡ c ∷ []
    → heard_message z.server t.repeating.world.logons k x.server_end c ≡ Some m
    → (let r = answer_said z t.repeating.world k x c m in is_some r.signer ≡ true
    → Known z t k place (entry_by t k s x.server_end r (said_text false false r) r.progress))
entry_known z t k place u x c m s g checks alone heard on way =
    let w = t.repeating.world in
    let A = answer_to w.values.server w.values.moment m m.command in
    let r = answer_said z w k x c m in
    inr (record {
      put = u;
      at = g.at;
      served = g.served;
      frame = x;
      checks = checks;
      checked = c;
      alone = alone;
      fine = fine_if c.fault
          (signer_by A.server z.server.users w.logons k x.server_end c m.command A.reply.status (progress m.command A.reply)) on;
      message = m;
      heard = heard;
      text = said_message t k s x.server_end r (said_text false false r) r.progress;
      place_is = entry_place t k s x.server_end r (said_text false false r) r.progress;
    })

abbrev RepliesKnown : WorldSettings → Watched → ℕ → ℕ → Server → ServerEnd → List SaidReply → Type 0
RepliesKnown z t k place s f rs = AllOf (Known z t k place) (entries_said t k s f rs (texts_said rs))

reply_known : (z : WorldSettings) (t : Watched) (k place : ℕ) (u : UpFrame) (x : Frame) (c : Checked) (m : Message) (s : Server)
    → Gives t k place u → check_frame (t.repeating.world.wires k).server_end u.frame ≡ Ok x → x.messages ≡ c ∷ []
    → heard_message z.server t.repeating.world.logons k x.server_end c ≡ Some m
    → RepliesKnown z t k place s x.server_end (answer_said z t.repeating.world k x c m ∷ [])
reply_known z t k place u x c m s g checks alone heard =
    let r = answer_said z t.repeating.world k x c m in
    subst (λ ts. AllOf (Known z t k place) (entries_said t k s x.server_end (r ∷ []) ts)) (sym (one_text r))
    (one_entry (Known z t k place) t k s x.server_end r (said_text false false r)
    (entry_known z t k place u x c m s g checks alone heard))

replies_known : (z : WorldSettings) (t : Watched) (k place : ℕ) (u : UpFrame) (x : Frame) (c : Checked) (s : Server) (rs : List SaidReply)
    → Gives t k place u → check_frame (t.repeating.world.wires k).server_end u.frame ≡ Ok x → x.messages ≡ c ∷ []
    → (rs ≡ []) ⊎ SaidBy z.server k t.repeating.world.values.moment (take 8 (draw z.seed t.repeating.world.draws)) x.server_end
    t.repeating.world.values.server t.repeating.world.logons c rs
    → RepliesKnown z t k place s x.server_end rs
replies_known z t k place u x c s rs g checks alone (inl none) =
    subst (RepliesKnown z t k place s x.server_end) (sym none) (no_entry (Known z t k place) t k s x.server_end (texts_said []))
replies_known z t k place u x c s rs g checks alone (inr b) =
    subst (RepliesKnown z t k place s x.server_end) (sym b.is) (reply_known z t k place u x c b.message s g checks alone b.heard)

frame_known : (z : WorldSettings) (t : Watched) (k place : ℕ) (u : UpFrame) (x : Frame) → Gives t k place u
    → check_frame ((loaded_up t.repeating k u).wires k).server_end u.frame ≡ Ok x → IsLone x
    → AllOf (Known z t k place) (signed_in z t k (loaded_up t.repeating k u) x)
frame_known z t k place u x g ok one =
    let w = loaded_up t.repeating k u in
    let y = went_at z w k x in
    let checks : check_frame (t.repeating.world.wires k).server_end u.frame ≡ Ok x =
    ap (λ f. check_frame f u.frame) (sym (same_end t.repeating k u)) ∙ ok in
    subst (AllOf (Known z t k place)) (sym (plain_signed z t k w x one.sealed))
    (replies_known z t k place u x one.message y.server y.replies g checks one.messages
    (said_all z.server k w.values.moment (take 8 (draw z.seed w.draws)) x.server_end w.values.server w.logons x.messages one.message one.messages))

old_known : (z : WorldSettings) (t : Watched) (k place : ℕ) → AllOf (Known z t k place) t.signed
old_known z t k place i e at way = inl (i, at)

said_known : (z : WorldSettings) (t : Watched) (k place : ℕ) (u : UpFrame) (o : Option ConnEnd) (r : Result Frame ConnEnd)
    → Gives t k place u → check_frame ((loaded_up t.repeating k u).wires k).server_end u.frame ≡ r → Lone r
    → AllOf (Known z t k place) (said_in z t k (loaded_up t.repeating k u) o r).signed
said_known z t k place u (Some why) r g e one = old_known z t k place
said_known z t k place u None (Err why) g e one = old_known z t k place
said_known z t k place u None (Ok x) g e one =
    all_joined (Known z t k place) t.signed (signed_in z t k (loaded_up t.repeating k u) x) (old_known z t k place)
    (frame_known z t k place u x g e one)

served_known : (z : WorldSettings) (t : Watched) (k place : ℕ) (o : Option UpFrame) (e : RepeatEvent) → slice_get t.repeating.ups place ≡ o
    → ((u : UpFrame) → o ≡ Some u → (begins_sealed u.frame ≡ false) × BearsOne u.frame u.sent.message.message_id)
    → AllOf (Known z t k place) (watched_served z t k o e).signed
served_known z t k place None e at fine = old_known z t k place
served_known z t k place (Some u) e at fine =
    either (λ (v : Watched). AllOf (Known z t k place) v.signed) (is_served t.repeating.world k) (watched_up z t k u e) t
    (λ on. (
    let w = loaded_up t.repeating k u in
    let f = fine u refl in
    let one = f.1 in
    said_known z t k place u (step_at z w k u.frame).ends (check_frame (w.wires k).server_end u.frame) (record { at = at; served = on }) refl
    (lone_frame (w.wires k).server_end u.frame f.0 one.alone)))
    (λ _. old_known z t k place)

-- ---- one event

abbrev AnswersIn : WorldSettings → Watched → RepeatEvent → SignedEntry → Type 0
AnswersIn z t v e = (k : ℕ) × (place : ℕ) × (v ≡ Give k true place) × IsAnswer z t k place e

abbrev Told : WorldSettings → Watched → RepeatEvent → SignedEntry → Type 0
Told z t v e = e.to_server ≡ false → ((i : ℕ) × (slice_get t.signed i ≡ Some e)) ⊎ AnswersIn z t v e

asks_not : (z : WorldSettings) (t : Watched) (v : RepeatEvent) (e : SignedEntry) → e.to_server ≡ true → Told z t v e
asks_not z t v e on off = absurd (cc)

asked_told : (z : WorldSettings) (t : Watched) (v : RepeatEvent) (b : Watched) (k : ℕ) (r : RepeatWorld) (us : List UpFrame)
    → AllOf (Told z t v) (entries_up b k r us)
unfolding entries_up
asked_told z t v b k r [] = none_of_all (Told z t v)
asked_told z t v b k r (u ∷ us) =
    let rest = asked_told z t v b k r us in
    either (λ es. AllOf (Told z t v) es) (carries_signature u.frame) (entry_up b k r u.frame ∷ entries_up b k r us) (entries_up b k r us)
    (λ _. all_with (Told z t v) (entry_up b k r u.frame) (entries_up b k r us)
    (asks_not z t v (entry_up b k r u.frame) (entry_asks b k r u.frame)) rest) (λ _. rest)

old_told : (z : WorldSettings) (t : Watched) (v : RepeatEvent) → AllOf (Told z t v) t.signed
old_told z t v i e at way = inl (i, at)

told_of_known : (z : WorldSettings) (t : Watched) (k place : ℕ) (e : SignedEntry) → Known z t k place e → Told z t (Give k true place) e
told_of_known z t k place e h way = by (h way)
  where
    by : ((i : ℕ) × (slice_get t.signed i ≡ Some e)) ⊎ IsAnswer z t k place e
        → ((i : ℕ) × (slice_get t.signed i ≡ Some e)) ⊎ AnswersIn z t (Give k true place) e
    by (inl old) = inl old
    by (inr a) = inr (k, place, refl, a)

event_told : (z : WorldSettings) (t : Watched) (v : RepeatEvent) → Holds z t → AllOf (Told z t v) (watched_happens z t v).signed
event_told z t (Same e) h =
    let r = repeat_happens z t.repeating (Same e) in
    let k = own_connection e in
    all_joined (Told z t (Same e)) t.signed (entries_up t k r (put_since t.repeating r)) (old_told z t (Same e))
    (asked_told z t (Same e) t k r (put_since t.repeating r))
event_told z t (Give k true place) h =
    λ i e at. told_of_known z t k place e
    (served_known z t k place (slice_get t.repeating.ups place) (Give k true place) refl (fine_of z t h place) i e at)
event_told z t (Give k false place) h =
    let v = Give k false place in
    let r = repeat_happens z t.repeating v in
    let b : Watched = record t { repeating = r; of_client = client_secret t r } in
    all_joined (Told z t v) t.signed (entries_up b k r (put_since t.repeating r)) (old_told z t v)
    (asked_told z t v b k r (put_since t.repeating r))

-- ---- a run

record AnsweredFrom (z : WorldSettings) (t : Watched) (es : List RepeatEvent) (e : SignedEntry) : Type 0 where
  before : List RepeatEvent
  k : ℕ
  place : ℕ
  after : List RepeatEvent
  run : es ≡ before ++ Give k true place ∷ after
  answer : IsAnswer z (watched_run z before t) k place e

abbrev ToldFrom : WorldSettings → Watched → List RepeatEvent → SignedEntry → Type 0
ToldFrom z t es e = ((i : ℕ) × (slice_get t.signed i ≡ Some e)) ⊎ AnsweredFrom z t es e

answered_later : (z : WorldSettings) (t : Watched) (v : RepeatEvent) (es : List RepeatEvent) (e : SignedEntry)
    → AnsweredFrom z (watched_happens z t v) es e → AnsweredFrom z t (v ∷ es) e
unfolding watched_run
answered_later z t v es e a =
    record { before = v ∷ a.before; k = a.k; place = a.place; after = a.after; run = ap (λ l. v ∷ l) a.run; answer = a.answer }

answered_now : (z : WorldSettings) (t : Watched) (v : RepeatEvent) (es : List RepeatEvent) (e : SignedEntry) → AnswersIn z t v e
    → AnsweredFrom z t (v ∷ es) e
unfolding watched_run
answered_now z t v es e a =
    record { before = []; k = a.0; place = a.1; after = es; run = ap (λ x. x ∷ es) a.2; answer = a.3 }

by_event : (z : WorldSettings) (t : Watched) (v : RepeatEvent) (es : List RepeatEvent) (e : SignedEntry)
    → ((i : ℕ) × (slice_get t.signed i ≡ Some e)) ⊎ AnswersIn z t v e → ToldFrom z t (v ∷ es) e
by_event z t v es e (inl old) = inl old
by_event z t v es e (inr a) = inr (answered_now z t v es e a)

by_rest : (z : WorldSettings) (t : Watched) (v : RepeatEvent) (es : List RepeatEvent) (e : SignedEntry) → Holds z t → e.to_server ≡ false
    → ToldFrom z (watched_happens z t v) es e → ToldFrom z t (v ∷ es) e
by_rest z t v es e h way (inl old) = by_event z t v es e (event_told z t v h old.0 e old.1 way)
by_rest z t v es e h way (inr a) = inr (answered_later z t v es e a)

run_told : (z : WorldSettings) (es : List RepeatEvent) (t : Watched) → z.client.ciphers ≡ [] → Holds z t → (i : ℕ) (e : SignedEntry)
    → slice_get (watched_run z es t).signed i ≡ Some e → e.to_server ≡ false → ToldFrom z t es e
unfolding watched_run
run_told z [] t c h i e at way = inl (i, at)
run_told z (v ∷ es) t c h i e at way =
    by_rest z t v es e h way (run_told z es (watched_happens z t v) c (event_holds z t v c h) i e at way)

pub signed_replies_answer : SignedRepliesAnswer
signed_replies_answer z es i e alone at way =
    by (run_told z es (watching (repeat_start z)) alone.offered (start_holds z) i e at way)
  where
    by : ToldFrom z (watching (repeat_start z)) es e → WasAnswered z es e
    by (inl old) = absurd (none_in [] old.0 e refl old.1)
    by (inr a) = record { before = a.before; k = a.k; place = a.place; after = a.after; run = a.run; answer = a.answer }

-- Along a run the secrets that are remembered, and those that the server signed with, are those of final responses that it made.
use Rattle.std.proofs.Common.{◌≡◌, ℕ, Bool, true, false, if◌then◌else◌, List, [], ◌∷◌, ◌++◌, ◌⊎◌, inl, inr, refl}
use Rattle.std.proofs.Common.{sym, ◌∙◌, ap, subst, Option, Some, None, slice_get, Result, Ok, Err}
use Rattle.std.specs.Prelude.{is_some}
use Rattle.law_server.proofs.tables.Logic.{either}
use Rattle.law_nonces.proofs.negotiation.Tables.{by_key}
use Rattle.spec_exchange.specs.State.{Server}
use Rattle.spec_exchange.specs.Network.{Conn, Event, Serve}
use Rattle.spec_world.specs.Settings.{WorldSettings}
use Rattle.spec_world.specs.Ends.{ServerEnd, ConnEnd}
use Rattle.spec_world.specs.Logon.{Progress, Stays, Interim, Final}
use Rattle.spec_world.specs.Answering.{Ending, SaidReply, told_each}
use Rattle.spec_world.specs.Connection.{ConnectionStep, Going, counted_on}
use Rattle.spec_world.specs.Hearing.{Frame, check_frame, begins_sealed}
use Rattle.spec_world.specs.World.{World, Wires, step_at, served_by, serve_frame}
use Rattle.spec_world.specs.Events.{bytes_changed, bytes_later}
use Rattle.spec_hostile.specs.RepeatRuns.{RepeatWorld, RepeatEvent, Same, Give, UpFrame, DownFrame, is_served, is_heard, loaded_up, sents}
use Rattle.spec_hostile.specs.RepeatRuns.{up_frames, own_connection, uses_no_list, same_done, given_up, given_down, give_up, give_down}
use Rattle.spec_hostile.specs.RepeatRuns.{repeat_happens, repeat_start}
use Rattle.spec_hostile.specs.SignedFor.{Watched, SignedEntry, Secret, no_secret, entry_up, entries_up, put_since, carries_signature, entry_by}
use Rattle.spec_hostile.specs.SignedFor.{entries_said, binds_to, secret_made, noted_final, noted_each, noted_in, signed_in, said_in, went_at}
use Rattle.spec_hostile.specs.SignedFor.{texts_said, watching, client_secret, watched_up, watched_served, watched_happens, watched_run}
use Rattle.law_hostile.specs.ids.OwnIds.{BearsOne}
use Rattle.law_hostile.specs.finals.Finals.{WasMade, SignedWasMade}
use Rattle.law_hostile.proofs.puts.Growing.{in_front, event_watched}
use Rattle.law_hostile.proofs.puts.Requests.{AllOf, none_of_all, all_with, all_joined}
use Rattle.law_hostile.proofs.puts.Replies.{conn_loaded, wires_loaded, may_serve_loaded, in_back, entry_asks}
use Rattle.law_hostile.proofs.ids.Bearing.{bears_one}
use Rattle.law_hostile.proofs.ids.Frames as frames
use Rattle.law_hostile.proofs.ids.PlainRuns as plains
use Rattle.law_hostile.proofs.finals.Recalling.{same_recalls, down_takes}
use Rattle.law_hostile.proofs.finals.Replying.{Lone, IsLone, Few, Made, lone_frame, few_replies, made_one, made_are}

-- ---- what is kept

abbrev pub By : List Ending → Secret → Type 0
By made s = (s ≡ no_secret) ⊎ WasMade made s

abbrev IsBy : List Ending → SignedEntry → Type 0
IsBy made x = x.to_server ≡ false → By made x.secret

abbrev pub Kept : Watched → List Ending → Type 0
Kept t made = ((k : ℕ) → By made (t.on_connection k)) × ((x : ℕ) → By made (t.in_session x)) × AllOf (IsBy made) t.signed

by_more : (made more : List Ending) (s : Secret) → By made s → By (made ++ more) s
by_more made more s (inl e) = inl e
by_more made more s (inr w) =
    inr (record { index = w.index; ending = w.ending; at = in_front made more w.index w.ending w.at; is = w.is })

kept_more : (t : Watched) (made more : List Ending) → Kept t made → Kept t (made ++ more)
kept_more t made more h = (
  λ k. by_more made more (t.on_connection k) (h.0 k),
  λ x. by_more made more (t.in_session x) (h.1 x),
  λ n x at way. by_more made more x.secret (h.2 n x at way),
)

by_made : (made more : List Ending) (s : Secret) → Made more s → By (made ++ more) s
by_made made more s m =
    let i = in_back made more 0 m.0 m.1 in
    inr (record { index = i.0; ending = m.0; at = i.1; is = m.2 })

-- ---- the replies to a frame of one message

-- where a reply is final, its secret was made
abbrev FinalMade : List Ending → ServerEnd → SaidReply → Progress → Type 0
FinalMade made f r p = (binding : Bool) (channel : ℕ) (encrypts : Bool) → p ≡ Final binding channel encrypts → By made (secret_made f r)

final_kept : (t : Watched) (made : List Ending) (k : ℕ) (f : ServerEnd) (r : SaidReply) (p : Progress) → FinalMade made f r p → Kept t made
    → ((j : ℕ) → By made ((noted_final t k f r p).on_connection j)) × ((x : ℕ) → By made ((noted_final t k f r p).in_session x))
final_kept t made k f r Stays m h = (h.0, h.1)
final_kept t made k f r (Interim binding) m h = (h.0, h.1)
final_kept t made k f r (Final true channel encrypts) m h =
    (by_key (λ j (s : Secret). By made s) t.on_connection k (secret_made f r) (m true channel encrypts refl) (λ j off. h.0 j), h.1)
final_kept t made k f r (Final false channel encrypts) m h =
    let s = m false channel encrypts refl in (
      by_key (λ j (v : Secret). By made v) t.on_connection k (secret_made f r) s (λ j off. h.0 j),
      by_key (λ j (v : Secret). By made v) t.in_session r.request.header.session (secret_made f r) s (λ j off. h.1 j),
    )

entry_kept : (t : Watched) (made : List Ending) (k : ℕ) (s : Server) (f : ServerEnd) (r : SaidReply) (m : List ℕ) (p : Progress)
    → FinalMade made f r p → Kept t made → By made (entry_by t k s f r m p).secret
entry_kept t made k s f r m (Final binding channel encrypts) q h = q binding channel encrypts refl
entry_kept t made k s f r m (Interim binding) q h = h.1 r.request.header.session
entry_kept t made k s f r m Stays q h =
    either (λ (e : SignedEntry). By made e.secret) (binds_to s r.request) _ _ (λ _. h.1 r.request.header.session) (λ _. h.0 k)

one_said : (t : Watched) (made : List Ending) (k : ℕ) (s : Server) (f : ServerEnd) (r : SaidReply) (ms : List (List ℕ))
    → FinalMade made f r r.progress → Kept t made → AllOf (IsBy made) (entries_said t k s f (r ∷ []) ms)
unfolding entries_said
one_said t made k s f r [] q h = none_of_all (IsBy made)
one_said t made k s f r (m ∷ ms) q h =
    let e = entry_by t k s f r m r.progress in
    either (λ es. AllOf (IsBy made) es) (is_some r.signer) (e ∷ []) []
    (λ _. all_with (IsBy made) e [] (λ way. entry_kept t made k s f r m r.progress q h) (none_of_all (IsBy made)))
    (λ _. none_of_all (IsBy made))

-- what is noted of these replies
abbrev Noted : Watched → List Ending → ℕ → Server → ServerEnd → List SaidReply → List (List ℕ) → Type 0
Noted t made k s f rs ms =
    ((j : ℕ) → By made ((noted_each t k f rs).on_connection j)) × ((x : ℕ) → By made ((noted_each t k f rs).in_session x))
    × AllOf (IsBy made) (entries_said t k s f rs ms)

none_noted : (t : Watched) (made : List Ending) (k : ℕ) (s : Server) (f : ServerEnd) (ms : List (List ℕ)) → Kept t made
    → Noted t made k s f [] ms
unfolding noted_each entries_said
none_noted t made k s f ms h = (h.0, h.1, none_of_all (IsBy made))

one_noted : (t : Watched) (made : List Ending) (k : ℕ) (s : Server) (f : ServerEnd) (r : SaidReply) (ms : List (List ℕ))
    → FinalMade made f r r.progress → Kept t made → Noted t made k s f (r ∷ []) ms
unfolding noted_each
one_noted t made k s f r ms q h =
    let n = final_kept t made k f r r.progress q h in (n.0, n.1, one_said t made k s f r ms q h)

few_noted : (t : Watched) (old : List Ending) (k : ℕ) (s : Server) (f : ServerEnd) (g : Going) (n : ℕ) (texts : List (List ℕ))
    (rs : List SaidReply) (ms : List (List ℕ)) → Few rs → Kept t old
    → Noted t (old ++ (told_each false (counted_on f false g n) rs texts).endings) k s f rs ms
few_noted t old k s f g n texts rs ms (inl none) h =
    subst (λ l. Noted t (old ++ (told_each false (counted_on f false g n) l texts).endings) k s f l ms) (sym none)
    (none_noted t (old ++ (told_each false (counted_on f false g n) [] texts).endings) k s f ms
    (kept_more t old (told_each false (counted_on f false g n) [] texts).endings h))
few_noted t old k s f g n texts rs ms (inr q) h =
    let r = q.0 in
    let more = (told_each false (counted_on f false g n) (r ∷ []) texts).endings in
    subst (λ l. Noted t (old ++ (told_each false (counted_on f false g n) l texts).endings) k s f l ms) (sym q.1)
    (one_noted t (old ++ more) k s f r ms
    (λ binding channel encrypts is. by_made old more (secret_made f r) (made_one f g n r texts binding channel encrypts is))
    (kept_more t old more h))

-- ---- Give up

-- the entries of a frame that isn't sealed
pub plain_signed : (z : WorldSettings) (t : Watched) (k : ℕ) (w : World) (x : Frame) → x.sealed ≡ false
    → signed_in z t k w x ≡ entries_said t k (went_at z w k x).server x.server_end (went_at z w k x).replies (texts_said (went_at z w k x).replies)
plain_signed z t k w x e =
    ap (λ b. if b then [] else entries_said t k (went_at z w k x).server x.server_end (went_at z w k x).replies
    (texts_said (went_at z w k x).replies)) e

noted_kept : (z : WorldSettings) (t : Watched) (k : ℕ) (w : World) (frame : List ℕ) (x : Frame) (old : List Ending)
    → check_frame (w.wires k).server_end frame ≡ Ok x → IsLone x → Kept t old → Kept (noted_in z t k w x) (old ++ (step_at z w k frame).made)
noted_kept z t k w frame x old ok one h =
    let g = went_at z w k x in
    let m = made_are z w k frame x ok one.sealed in
    let more = (told_each false (counted_on x.server_end false g m.0) g.replies m.1).endings in
    let q : Noted t (old ++ more) k g.server x.server_end g.replies (texts_said g.replies) =
    few_noted t old k g.server x.server_end g m.0 m.1 g.replies (texts_said g.replies) (few_replies z w k x one) h in
    let b = kept_more t old more h in
    subst (λ es. Kept (noted_in z t k w x) (old ++ es)) (sym m.2) (
      q.0,
      q.1,
      all_joined (IsBy (old ++ more)) t.signed (signed_in z t k w x) b.2
          (subst (AllOf (IsBy (old ++ more))) (sym (plain_signed z t k w x one.sealed)) q.2),
    )

-- what the world remembers behind it
abbrev pub made_behind : List Ending → ConnectionStep → Option ConnEnd → List Ending
made_behind old S None = old ++ S.made
made_behind old S (Some why) = old

said_kept : (z : WorldSettings) (t : Watched) (k : ℕ) (w : World) (frame : List ℕ) (o : Option ConnEnd) (r : Result Frame ConnEnd)
    (old : List Ending) → check_frame (w.wires k).server_end frame ≡ r → Lone r → Kept t old
    → Kept (said_in z t k w o r) (made_behind old (step_at z w k frame) o)
said_kept z t k w frame (Some why) r old e one h = h
said_kept z t k w frame None (Err why) old e one h = kept_more t old (step_at z w k frame).made h
said_kept z t k w frame None (Ok x) old e one h = noted_kept z t k w frame x old e one h

by_end_made : (w : World) (k : ℕ) (u : UpFrame) (S : ConnectionStep) (o : Option ConnEnd)
    → (served_by w k [] [] u.sent.token S o).made ≡ made_behind w.made S o
by_end_made w k u S None = refl
by_end_made w k u S (Some why) = refl

loaded_made : (z : WorldSettings) (r : RepeatWorld) (k : ℕ) (u : UpFrame) → (bytes_changed z (loaded_up r k u) (Serve k)).made
    ≡ made_behind r.world.made (step_at z (loaded_up r k u) k u.frame) (step_at z (loaded_up r k u) k u.frame).ends
unfolding sents up_frames
loaded_made z r k u =
    let w = loaded_up r k u in
    let S = step_at z w k u.frame in
    let bs : (w.wires k).up ≡ u.frame ∷ [] = ap (λ (x : Wires). x.up) (wires_loaded r k u) in
    let xs : (w.values.conns k).up ≡ u.sent ∷ [] = ap (λ (c : Conn). c.up) (conn_loaded r k u) in
    ap (λ l. (serve_frame z w k l (w.values.conns k).up).made) bs
    ∙ (ap (λ l. (serve_frame z w k (u.frame ∷ []) l).made) xs ∙ by_end_made w k u S S.ends)

pub given_made : (z : WorldSettings) (r : RepeatWorld) (k : ℕ) (u : UpFrame) → is_served r.world k ≡ true
    → (given_up z r k u).world.made
    ≡ made_behind r.world.made (step_at z (loaded_up r k u) k u.frame) (step_at z (loaded_up r k u) k u.frame).ends
given_made z r k u on =
    let w = loaded_up r k u in
    ap (λ b. (if b then bytes_later (bytes_changed z w (Serve k)) 1 else w).made) (may_serve_loaded r k u on) ∙ loaded_made z r k u

up_kept : (z : WorldSettings) (t : Watched) (k : ℕ) (u : UpFrame) (e : RepeatEvent) → is_served t.repeating.world k ≡ true
    → begins_sealed u.frame ≡ false → BearsOne u.frame u.sent.message.message_id → Kept t t.repeating.world.made
    → Kept (watched_up z t k u e) (given_up z t.repeating k u).world.made
up_kept z t k u e on bare one h =
    let r = t.repeating in
    let w = loaded_up r k u in
    let S = step_at z w k u.frame in
    subst (λ made. Kept (watched_up z t k u e) made) (sym (given_made z r k u on))
    (said_kept z t k w u.frame S.ends (check_frame (w.wires k).server_end u.frame) r.world.made refl
    (lone_frame (w.wires k).server_end u.frame bare one.alone) h)

served_kept : (z : WorldSettings) (t : Watched) (k : ℕ) (e : RepeatEvent) (o : Option UpFrame)
    → ((u : UpFrame) → o ≡ Some u → (begins_sealed u.frame ≡ false) × BearsOne u.frame u.sent.message.message_id)
    → Kept t t.repeating.world.made → Kept (watched_served z t k o e) (give_up z t.repeating k o).world.made
served_kept z t k e None fine h = h
served_kept z t k e (Some u) fine h = by_served (is_served t.repeating.world k) refl
  where
    by_served : (b : Bool) → is_served t.repeating.world k ≡ b
        → Kept (if b then watched_up z t k u e else t) (if b then given_up z t.repeating k u else t.repeating).world.made
    by_served true on = let f = fine u refl in up_kept z t k u e on f.0 f.1 h
    by_served false on = h

-- ---- the other events

asks_not : (made : List Ending) (x : SignedEntry) → x.to_server ≡ true → IsBy made x
asks_not made x on off = absurd (cc)

asked_kept : (made : List Ending) (t : Watched) (k : ℕ) (r : RepeatWorld) (us : List UpFrame) → AllOf (IsBy made) (entries_up t k r us)
unfolding entries_up
asked_kept made t k r [] = none_of_all (IsBy made)
asked_kept made t k r (u ∷ us) =
    let rest = asked_kept made t k r us in
    either (λ es. AllOf (IsBy made) es) (carries_signature u.frame) (entry_up t k r u.frame ∷ entries_up t k r us) (entries_up t k r us)
    (λ _. all_with (IsBy made) (entry_up t k r u.frame) (entries_up t k r us)
    (asks_not made (entry_up t k r u.frame) (entry_asks t k r u.frame)) rest) (λ _. rest)

with_asked : (made : List Ending) (t v : Watched) (k : ℕ) (r : RepeatWorld) (us : List UpFrame) → Kept t made
    → AllOf (IsBy made) (t.signed ++ entries_up v k r us)
with_asked made t v k r us h = all_joined (IsBy made) t.signed (entries_up v k r us) h.2 (asked_kept made v k r us)

pub same_made : (z : WorldSettings) (r : RepeatWorld) (e : Event)
    → (repeat_happens z r (Same e)).world.made ≡ r.world.made
same_made z r e =
    either (λ (v : RepeatWorld). v.world.made ≡ r.world.made) (uses_no_list e) (same_done z r e) r
    (λ s. (same_recalls z r.world e s).0) (λ _. refl)

pub down_made : (z : WorldSettings) (r : RepeatWorld) (k : ℕ) (o : Option DownFrame) → (give_down z r k o).world.made ≡ r.world.made
down_made z r k None = refl
down_made z r k (Some d) =
    either (λ (v : RepeatWorld). v.world.made ≡ r.world.made) (is_heard r.world k) (given_down z r k d) r
    (λ _. (down_takes z r k d).0) (λ _. refl)

-- ---- one event, and a run

pub record Holds (z : WorldSettings) (t : Watched) : Type 0 where
  pub kept : Kept t t.repeating.world.made
  pub bear : frames.Holds z t.repeating
  pub plain : plains.Holds t.repeating

pub fine_of : (z : WorldSettings) (t : Watched) → Holds z t → (place : ℕ) (u : UpFrame) → slice_get t.repeating.ups place ≡ Some u
    → (begins_sealed u.frame ≡ false) × BearsOne u.frame u.sent.message.message_id
fine_of z t h place u at =
    let bare = h.plain.ups place u at in (bare, bears_one z u.connection u.frame u.sent.message bare (h.bear.bear place u at))

kept_in_event : (z : WorldSettings) (t : Watched) (e : RepeatEvent) → Holds z t
    → Kept (watched_happens z t e) (repeat_happens z t.repeating e).world.made
kept_in_event z t (Same e) h =
    let r = repeat_happens z t.repeating (Same e) in
    let k = own_connection e in
    subst (λ made. Kept (watched_happens z t (Same e)) made) (sym (same_made z t.repeating e))
    (h.kept.0, h.kept.1, with_asked t.repeating.world.made t t k r (put_since t.repeating r) h.kept)
kept_in_event z t (Give k true place) h =
    served_kept z t k (Give k true place) (slice_get t.repeating.ups place) (fine_of z t h place) h.kept
kept_in_event z t (Give k false place) h =
    let r = repeat_happens z t.repeating (Give k false place) in
    let v : Watched = record t { repeating = r; of_client = client_secret t r } in
    subst (λ made. Kept (watched_happens z t (Give k false place)) made) (sym (down_made z t.repeating k (slice_get t.repeating.downs place)))
    (h.kept.0, h.kept.1, with_asked t.repeating.world.made t v k r (put_since t.repeating r) h.kept)

pub event_holds : (z : WorldSettings) (t : Watched) (e : RepeatEvent) → z.client.ciphers ≡ [] → Holds z t → Holds z (watched_happens z t e)
event_holds z t e c h =
    let is = event_watched z t e in
    record {
      kept = subst (λ (r : RepeatWorld). Kept (watched_happens z t e) r.world.made) (sym is) (kept_in_event z t e h);
      bear = subst (frames.Holds z) (sym is) (frames.event_holds z t.repeating e h.bear);
      plain = subst plains.Holds (sym is) (plains.event_holds z t.repeating e c h.plain);
    }

run_holds : (z : WorldSettings) (es : List RepeatEvent) (t : Watched) → z.client.ciphers ≡ [] → Holds z t → Holds z (watched_run z es t)
unfolding watched_run
run_holds z [] t c h = h
run_holds z (e ∷ es) t c h = run_holds z es (watched_happens z t e) c (event_holds z t e c h)

pub start_holds : (z : WorldSettings) → Holds z (watching (repeat_start z))
start_holds z =
    record {
      kept = (λ k. inl refl, λ x. inl refl, none_of_all (IsBy []));
      bear = frames.start_holds z;
      plain = plains.start_holds z;
    }

pub signed_was_made : SignedWasMade
signed_was_made z es i x alone at way =
    (run_holds z es (watching (repeat_start z)) alone.offered (start_holds z)).kept.2 i x at way

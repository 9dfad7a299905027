-- Along a run each final response that the server made was signed with its secret.
use Rattle.std.proofs.Common.{◌≡◌, ℕ, zero, suc, Bool, true, false, if◌then◌else◌, List, [], ◌∷◌, ◌++◌, ◌⊎◌, inl, inr, refl, sym, ◌∙◌, ap}
use Rattle.std.proofs.Common.{subst, length, take, Option, Some, None, slice_get, Result, Ok, Err}
use Rattle.std.specs.Prelude.{is_some}
use Rattle.spec_exchange.specs.Status.{access_denied}
use Rattle.spec_exchange.specs.State.{Server, Message}
use Rattle.spec_exchange.specs.Network.{answer_to}
use Rattle.spec_world.specs.Settings.{WorldSettings, ServerSettings, draw}
use Rattle.spec_world.specs.Ends.{ServerEnd, ConnEnd, Logons}
use Rattle.spec_wire.specs.credits.Window.{HeldIds}
use Rattle.spec_world.specs.Logon.{Progress, Stays, Interim, Final, progress, signer_by, unless_faulty}
use Rattle.spec_world.specs.Answering.{Ending, SaidReply, told_each, ending_of, ending_by, said_text, gathered, all_texts, texts_of, joined_in}
use Rattle.spec_world.specs.Answering.{text_limit, concatenated, each_joined}
use Rattle.spec_world.specs.Connection.{Going, went_all, went_heard, beginning, heard_message, step_of, answered}
use Rattle.spec_world.specs.Connection.{counted_on, said_to}
use Rattle.spec_world.specs.Hearing.{Checked, Frame, check_frame, begins_sealed}
use Rattle.spec_world.specs.World.{World, step_at}
use Rattle.spec_hostile.specs.RepeatRuns.{RepeatWorld, RepeatEvent, Same, Give, UpFrame, is_served, loaded_up, given_up, give_up}
use Rattle.spec_hostile.specs.RepeatRuns.{own_connection, repeat_happens, repeat_start}
use Rattle.spec_hostile.specs.SignedFor.{Watched, SignedEntry, by_opening, secret_made, entry_by, entries_said, signed_in, said_in, went_at}
use Rattle.spec_hostile.specs.SignedFor.{entries_up, put_since, client_secret, texts_said, watching, watched_up, watched_served, watched_happens, watched_run}
use Rattle.law_hostile.specs.ids.OwnIds.{BearsOne}
use Rattle.law_hostile.specs.finals.Finals.{IsSignedFor, MadeWasSigned}
use Rattle.law_hostile.proofs.puts.Growing.{in_front, none_in, event_watched, watches_run}
use Rattle.law_hostile.proofs.puts.Replies.{in_either, in_back}
use Rattle.law_hostile.proofs.finals.Replying.{Lone, IsLone, lone_frame}
use Rattle.law_hostile.proofs.finals.Fine.{faulty_stays, heard_fault}
use Rattle.law_hostile.proofs.finals.Signing.{Holds, event_holds, start_holds, fine_of, plain_signed, made_behind, given_made, same_made, down_made}

-- ---- the one reply to a frame of one message is signed where it is final

abbrev Signs : SaidReply → Type 0
Signs r = (binding : Bool) (channel : ℕ) (encrypts : Bool) → r.progress ≡ Final binding channel encrypts → is_some r.signer ≡ true

record OneReply (rs : List SaidReply) : Type 0 where
  reply : SaidReply
  is : rs ≡ reply ∷ []
  signs : Signs reply

never_final : (p : Progress) (binding : Bool) (channel : ℕ) (encrypts : Bool) → p ≡ Stays → p ≡ Final binding channel encrypts → ⊥
never_final Stays binding channel encrypts e f = absurd (cc)
never_final (Interim b) binding channel encrypts e f = absurd (cc)
never_final (Final b c n) binding channel encrypts e f = absurd (cc)

fine_signs : (s : Server) (z : ServerSettings) (L : Logons) (k : ℕ) (f : ServerEnd) (c : Checked) (m : Message) (status : ℕ) (p : Progress)
    (binding : Bool) (channel : ℕ) (encrypts : Bool) → c.fault ≡ None → p ≡ Final binding channel encrypts
    → is_some (unless_faulty c.fault (signer_by s z.users L k f c m.command status p)) ≡ true
fine_signs s z L k f c m status p binding channel encrypts none is =
    subst (λ o. is_some (unless_faulty o (signer_by s z.users L k f c m.command status p)) ≡ true) (sym none)
    (subst (λ q. is_some (signer_by s z.users L k f c m.command status q) ≡ true) (sym is) refl)

said_signs : (z : ServerSettings) (k now : ℕ) (fresh : List ℕ) (f : ServerEnd) (L : Logons) (w : HeldIds) (s : Server) (c : Checked) (m : Message)
    → (c.fault ≡ None) ⊎ (c.fault ≡ Some access_denied) → c.fault ≡ m.fault
    → Signs (said_to z k now fresh f L w c m.command (answer_to s now m m.command))
said_signs z k now fresh f L w s c m (inl none) same binding channel encrypts is =
    let A = answer_to s now m m.command in
    fine_signs A.server z L k f c m A.reply.status (progress m.command A.reply) binding channel encrypts none is
said_signs z k now fresh f L w s c m (inr denied) same binding channel encrypts is =
    absurd (never_final (progress m.command (answer_to s now m m.command).reply) binding channel encrypts
    (faulty_stays s now m (sym same ∙ denied)) is)

heard_one : (z : ServerSettings) (k now : ℕ) (fresh : List ℕ) (f : ServerEnd) (g : Going) (c : Checked) (o : Option Message)
    → heard_message z g.logons k f c ≡ o → (c.fault ≡ None) ⊎ (c.fault ≡ Some access_denied) → g.replies ≡ []
    → ((went_heard z k now fresh f g c o).replies ≡ []) ⊎ OneReply (went_heard z k now fresh f g c o).replies
heard_one z k now fresh f g c None e fault none = inl none
heard_one z k now fresh f g c (Some m) e fault none =
    let r = said_to z k now fresh f g.logons g.window c m.command (answer_to g.server now m m.command) in
    inr (record {
      reply = r;
      is = ap (λ l. l ++ r ∷ []) none;
      signs = said_signs z k now fresh f g.logons g.window g.server c m fault (heard_fault z g.logons k f c m e);
    })

all_one : (z : ServerSettings) (k now : ℕ) (fresh : List ℕ) (f : ServerEnd) (s : Server) (L : Logons) (cs : List Checked) (c : Checked)
    → cs ≡ c ∷ [] → (c.fault ≡ None) ⊎ (c.fault ≡ Some access_denied)
    → ((went_all z k now fresh f (beginning s L f) cs).replies ≡ []) ⊎ OneReply (went_all z k now fresh f (beginning s L f) cs).replies
unfolding went_all
all_one z k now fresh f s L cs c e fault =
    let g = beginning s L f in
    subst (λ ds. ((went_all z k now fresh f g ds).replies ≡ []) ⊎ OneReply (went_all z k now fresh f g ds).replies) (sym e)
    (heard_one z k now fresh f g c (heard_message z g.logons k f c) refl fault refl)

one_reply : (z : WorldSettings) (w : World) (k : ℕ) (x : Frame) → IsLone x
    → ((went_at z w k x).replies ≡ []) ⊎ OneReply (went_at z w k x).replies
one_reply z w k x one =
    all_one z.server k w.values.moment (take 8 (draw z.seed w.draws)) x.server_end w.values.server w.logons x.messages one.message
    one.messages one.fault

-- ---- its text

one_text : (r : SaidReply) → texts_said (r ∷ []) ≡ said_text false false r ∷ []
unfolding gathered all_texts texts_of concatenated
one_text r = refl

-- ---- what is made of it is signed

abbrev AllSignedFor : List SignedEntry → List Ending → Type 0
AllSignedFor signed made = (i : ℕ) (e : Ending) → slice_get made i ≡ Some e → IsSignedFor signed e

none_signed : (signed : List SignedEntry) → AllSignedFor signed []
none_signed signed i e h = absurd (none_in [] i e refl h)

signed_more : (signed more : List SignedEntry) (made : List Ending) → AllSignedFor signed made → AllSignedFor (signed ++ more) made
signed_more signed more made all i e h =
    let s = all i e h in
    record {
      index = s.index;
      entry = s.entry;
      at = in_front signed more s.index s.entry s.at;
      way = s.way;
      secret = s.secret;
      message = s.message;
      connection = s.connection;
      opening = s.opening;
      place = s.place;
    }

signed_behind : (signed more : List SignedEntry) (made : List Ending) → AllSignedFor more made → AllSignedFor (signed ++ more) made
signed_behind signed more made all i e h =
    let s = all i e h in
    let m = in_back signed more s.index s.entry s.at in
    record {
      index = m.0;
      entry = s.entry;
      at = m.1;
      way = s.way;
      secret = s.secret;
      message = s.message;
      connection = s.connection;
      opening = s.opening;
      place = s.place;
    }

joined_signed : (signed : List SignedEntry) (made more : List Ending) → AllSignedFor signed made → AllSignedFor signed more
    → AllSignedFor signed (made ++ more)
joined_signed signed made more a b i e h = by (in_either made more i e h)
  where
    by : ((m : ℕ) × (slice_get made m ≡ Some e)) ⊎ ((m : ℕ) × (slice_get more m ≡ Some e)) → IsSignedFor signed e
    by (inl m) = a m.0 e m.1
    by (inr m) = b m.0 e m.1

same_ending : (a b : Ending) → Some a ≡ Some b → a ≡ b
same_ending a b h = cc

one_ending : (t : Watched) (k : ℕ) (f : ServerEnd) (g : Going) (n : ℕ) (r : SaidReply) (m : List ℕ)
    → AllSignedFor (by_opening t k (secret_made f r) m ∷ []) (ending_of (counted_on f false g n) r m ∷ [])
one_ending t k f g n r m zero e h =
    let first = ending_of (counted_on f false g n) r m in
    subst (λ (x : Ending). IsSignedFor (by_opening t k (secret_made f r) m ∷ []) x) (same_ending first e h) (record {
      index = 0;
      entry = by_opening t k (secret_made f r) m;
      at = refl;
      way = refl;
      secret = refl;
      message = refl;
      connection = k;
      opening = t.repeating.openings k;
      place = refl;
    })
one_ending t k f g n r m (suc i) e h = absurd (none_in [] i e refl h)

-- the entries and the endings of a reply with its text
abbrev entries_of : Watched → ℕ → Server → ServerEnd → SaidReply → List ℕ → Bool → Progress → List SignedEntry
entries_of t k s f r m b p = if b then entry_by t k s f r m p ∷ [] else []

by_progress : (t : Watched) (k : ℕ) (s : Server) (f : ServerEnd) (g : Going) (n : ℕ) (r : SaidReply) (m : List ℕ) → Signs r → (p : Progress)
    → r.progress ≡ p
    → AllSignedFor (entries_of t k s f r m (is_some r.signer) r.progress) (ending_by false (counted_on f false g n) r m r.progress ++ [])
by_progress t k s f g n r m signs Stays is =
    let h = counted_on f false g n in
    let es = entries_of t k s f r m (is_some r.signer) r.progress in
    subst (λ q. AllSignedFor es (ending_by false h r m q ++ [])) (sym is) (none_signed es)
by_progress t k s f g n r m signs (Interim binding) is =
    let h = counted_on f false g n in
    let es = entries_of t k s f r m (is_some r.signer) r.progress in
    subst (λ q. AllSignedFor es (ending_by false h r m q ++ [])) (sym is) (none_signed es)
by_progress t k s f g n r m signs (Final binding channel encrypts) is =
    let h = counted_on f false g n in
    let es = entries_of t k s f r m (is_some r.signer) r.progress in
    let one : es ≡ by_opening t k (secret_made f r) m ∷ [] =
    ap (λ b. entries_of t k s f r m b r.progress) (signs binding channel encrypts is) ∙ ap (entries_of t k s f r m true) is in
    subst (λ q. AllSignedFor es (ending_by false h r m q ++ [])) (sym is)
    (subst (λ l. AllSignedFor l (ending_of h r m ∷ [])) (sym one) (one_ending t k f g n r m))

abbrev RepliesSigned : Watched → ℕ → Server → ServerEnd → Going → ℕ → List SaidReply → List (List ℕ) → Type 0
RepliesSigned t k s f g n rs ts =
    AllSignedFor (entries_said t k s f rs ts) (told_each false (counted_on f false g n) rs ts).endings

reply_signed : (t : Watched) (k : ℕ) (s : Server) (f : ServerEnd) (g : Going) (n : ℕ) (r : SaidReply) (m : List ℕ) → Signs r
    → RepliesSigned t k s f g n (r ∷ []) (m ∷ [])
unfolding entries_said told_each
reply_signed t k s f g n r m signs = by_progress t k s f g n r m signs r.progress refl

no_reply : (t : Watched) (k : ℕ) (s : Server) (f : ServerEnd) (g : Going) (n : ℕ) (ts : List (List ℕ)) → RepliesSigned t k s f g n [] ts
unfolding entries_said told_each
no_reply t k s f g n ts = none_signed []

replies_signed : (t : Watched) (k : ℕ) (s : Server) (f : ServerEnd) (g : Going) (n : ℕ) (rs : List SaidReply) → (rs ≡ []) ⊎ OneReply rs
    → RepliesSigned t k s f g n rs (texts_said rs)
replies_signed t k s f g n rs (inl none) =
    subst (λ l. RepliesSigned t k s f g n l (texts_said l)) (sym none) (no_reply t k s f g n (texts_said []))
replies_signed t k s f g n rs (inr o) =
    let r = o.reply in
    subst (λ l. RepliesSigned t k s f g n l (texts_said l)) (sym o.is)
    (subst (λ ts. RepliesSigned t k s f g n (r ∷ []) ts) (sym (one_text r)) (reply_signed t k s f g n r (said_text false false r) o.signs))

made_texts : (z : WorldSettings) (w : World) (k : ℕ) (frame : List ℕ) (x : Frame) → check_frame (w.wires k).server_end frame ≡ Ok x
    → x.sealed ≡ false → (step_at z w k frame).made ≡ (told_each false (counted_on x.server_end false (went_at z w k x)
    (length (each_joined (all_texts false (joined_in (text_limit false) (went_at z w k x).replies))))) (went_at z w k x).replies
    (texts_said (went_at z w k x).replies)).endings
made_texts z w k frame x ok plain =
    ap (λ r. (step_of z.server k w.values.moment (take 8 (draw z.seed w.draws)) w.values.server w.logons (w.wires k).server_end r).made) ok
    ∙ ap (λ b. (answered x.server_end b (went_at z w k x)).made) plain

lone_signed : (z : WorldSettings) (t : Watched) (k : ℕ) (w : World) (frame : List ℕ) (x : Frame)
    → check_frame (w.wires k).server_end frame ≡ Ok x → IsLone x → AllSignedFor (signed_in z t k w x) (step_at z w k frame).made
lone_signed z t k w frame x ok one =
    let g = went_at z w k x in
    let n = length (each_joined (all_texts false (joined_in (text_limit false) g.replies))) in
    subst (λ es. AllSignedFor es (step_at z w k frame).made) (sym (plain_signed z t k w x one.sealed))
    (subst (AllSignedFor (entries_said t k g.server x.server_end g.replies (texts_said g.replies))) (sym (made_texts z w k frame x ok one.sealed))
    (replies_signed t k g.server x.server_end g n g.replies (one_reply z w k x one)))

-- a frame that isn't heard makes nothing
none_made : (z : WorldSettings) (w : World) (k : ℕ) (frame : List ℕ) (why : ConnEnd) → check_frame (w.wires k).server_end frame ≡ Err why
    → (step_at z w k frame).made ≡ []
none_made z w k frame why e =
    ap (λ r. (step_of z.server k w.values.moment (take 8 (draw z.seed w.draws)) w.values.server w.logons (w.wires k).server_end r).made) e

said_signed : (z : WorldSettings) (t : Watched) (k : ℕ) (w : World) (frame : List ℕ) (o : Option ConnEnd) (r : Result Frame ConnEnd)
    (old : List Ending) → check_frame (w.wires k).server_end frame ≡ r → Lone r → AllSignedFor t.signed old
    → AllSignedFor (said_in z t k w o r).signed (made_behind old (step_at z w k frame) o)
said_signed z t k w frame (Some why) r old e one h = h
said_signed z t k w frame None (Err why) old e one h =
    joined_signed t.signed old (step_at z w k frame).made h
    (subst (AllSignedFor t.signed) (sym (none_made z w k frame why e)) (none_signed t.signed))
said_signed z t k w frame None (Ok x) old e one h =
    joined_signed (t.signed ++ signed_in z t k w x) old (step_at z w k frame).made (signed_more t.signed (signed_in z t k w x) old h)
    (signed_behind t.signed (signed_in z t k w x) (step_at z w k frame).made (lone_signed z t k w frame x e one))

up_signed : (z : WorldSettings) (t : Watched) (k : ℕ) (u : UpFrame) (e : RepeatEvent) → is_served t.repeating.world k ≡ true
    → begins_sealed u.frame ≡ false → BearsOne u.frame u.sent.message.message_id → AllSignedFor t.signed t.repeating.world.made
    → AllSignedFor (watched_up z t k u e).signed (given_up z t.repeating k u).world.made
up_signed z t k u e on bare one h =
    let r = t.repeating in
    let w = loaded_up r k u in
    let S = step_at z w k u.frame in
    subst (AllSignedFor (watched_up z t k u e).signed) (sym (given_made z r k u on))
    (said_signed z t k w u.frame S.ends (check_frame (w.wires k).server_end u.frame) r.world.made refl
    (lone_frame (w.wires k).server_end u.frame bare one.alone) h)

served_signed : (z : WorldSettings) (t : Watched) (k : ℕ) (e : RepeatEvent) (o : Option UpFrame)
    → ((u : UpFrame) → o ≡ Some u → (begins_sealed u.frame ≡ false) × BearsOne u.frame u.sent.message.message_id)
    → AllSignedFor t.signed t.repeating.world.made
    → AllSignedFor (watched_served z t k o e).signed (give_up z t.repeating k o).world.made
served_signed z t k e None fine h = h
served_signed z t k e (Some u) fine h = by_served (is_served t.repeating.world k) refl
  where
    by_served : (b : Bool) → is_served t.repeating.world k ≡ b → AllSignedFor (if b then watched_up z t k u e else t).signed
        (if b then given_up z t.repeating k u else t.repeating).world.made
    by_served true on = let f = fine u refl in up_signed z t k u e on f.0 f.1 h
    by_served false on = h

-- ---- one event, and a run

record Signed (z : WorldSettings) (t : Watched) : Type 0 where
  holds : Holds z t
  made : AllSignedFor t.signed t.repeating.world.made

made_in_event : (z : WorldSettings) (t : Watched) (e : RepeatEvent) → Signed z t
    → AllSignedFor (watched_happens z t e).signed (repeat_happens z t.repeating e).world.made
made_in_event z t (Same e) h =
    let r = repeat_happens z t.repeating (Same e) in
    let k = own_connection e in
    subst (AllSignedFor (watched_happens z t (Same e)).signed) (sym (same_made z t.repeating e))
    (signed_more t.signed (entries_up t k r (put_since t.repeating r)) t.repeating.world.made h.made)
made_in_event z t (Give k true place) h =
    served_signed z t k (Give k true place) (slice_get t.repeating.ups place) (fine_of z t h.holds place) h.made
made_in_event z t (Give k false place) h =
    let r = repeat_happens z t.repeating (Give k false place) in
    let v : Watched = record t { repeating = r; of_client = client_secret t r } in
    subst (AllSignedFor (watched_happens z t (Give k false place)).signed)
    (sym (down_made z t.repeating k (slice_get t.repeating.downs place)))
    (signed_more t.signed (entries_up v k r (put_since t.repeating r)) t.repeating.world.made h.made)

event_signed : (z : WorldSettings) (t : Watched) (e : RepeatEvent) → z.client.ciphers ≡ [] → Signed z t → Signed z (watched_happens z t e)
event_signed z t e c h =
    record {
      holds = event_holds z t e c h.holds;
      made = subst (λ (r : RepeatWorld). AllSignedFor (watched_happens z t e).signed r.world.made) (sym (event_watched z t e))
          (made_in_event z t e h);
    }

run_signed : (z : WorldSettings) (es : List RepeatEvent) (t : Watched) → z.client.ciphers ≡ [] → Signed z t → Signed z (watched_run z es t)
unfolding watched_run
run_signed z [] t c h = h
run_signed z (e ∷ es) t c h = run_signed z es (watched_happens z t e) c (event_signed z t e c h)

pub made_was_signed : MadeWasSigned
made_was_signed z es i e alone at =
    let t = watching (repeat_start z) in
    let h = run_signed z es t alone.offered (record { holds = start_holds z; made = none_signed [] }) in
    subst (λ (r : RepeatWorld). AllSignedFor (watched_run z es t).signed r.world.made) (watches_run z es t) h.made i e at

-- Along a repeat run each frame that goes up is one that the model's client sends at an event of the run.
use Rattle.std.proofs.Common.{◌≡◌, ℕ, Bool, true, false, if◌then◌else◌, List, [], ◌∷◌, ◌++◌, ◌⊎◌, inl, inr}
use Rattle.std.proofs.Common.{refl, sym, ◌∙◌, ap, subst, length, ◌<◌, Option, Some, None, slice_get}
use Rattle.law_server.proofs.tables.Logic.{either}
use Rattle.law_records.proofs.recovery.Lists.{put_here}
use Rattle.spec_exchange.specs.Client.{SaidNegotiate}
use Rattle.spec_exchange.specs.Dialogs.{dialog_message}
use Rattle.spec_exchange.specs.Network.{Conn, Sent, ForDialog, Event, Serve, Take}
use Rattle.spec_exchange.specs.Network.{is_possible}
use Rattle.spec_world.specs.Settings.{WorldSettings}
use Rattle.spec_world.specs.World.{Wires}
use Rattle.spec_world.specs.Events.{Plain, bytes_happen}
use Rattle.spec_hostile.specs.RepeatRuns.{RepeatWorld, RepeatEvent, Same, Give, UpFrame, DownFrame, puts_up, new_ups, is_heard, is_served}
use Rattle.spec_hostile.specs.RepeatRuns.{uses_no_list, own_connection, with_opening, same_done, loaded_up, loaded_down}
use Rattle.spec_hostile.specs.RepeatRuns.{down_frames, sents, given_up, given_down, give_up, give_down, repeat_happens, repeat_run, repeat_start}
use Rattle.law_hostile.specs.empties.Empties.{HasEmptyLists}
use Rattle.law_hostile.specs.sends.OwnSends.{SendsAt, AtOpen, AtPush, AtResponse, WasSent, OwnSends}
use Rattle.law_hostile.proofs.empties.Runs.{event_empties, start_empties}
use Rattle.law_hostile.proofs.puts.Growing.{none_in}
use Rattle.law_hostile.proofs.placed.Requests.{opening_ups}
use Rattle.law_hostile.proofs.ids.Served.{serve_empties, lists_ids}
use Rattle.law_hostile.proofs.ids.Rising.{last_get, put_none, nothing_more, never_apart}
use Rattle.law_hostile.proofs.sends.Sending.{NoneOr, PutsBy, SendsBy, SendsOf, frame_sends, happen_sends, still_sends, sends_alike}

-- ---- what is collected

abbrev put_frame : ℕ → ℕ → List ℕ → Sent → UpFrame
put_frame k n b x = record { frame = b; sent = x; connection = k; opening = n }

put_one : (k n : ℕ) (bs : List (List ℕ)) (x : Sent)
    → (puts_up k n bs (x ∷ []) ≡ []) ⊎ ((b : List ℕ) × (puts_up k n bs (x ∷ []) ≡ put_frame k n b x ∷ []))
unfolding puts_up
put_one k n [] x = inl refl
put_one k n (b ∷ bs) x = inr (b, ap (λ l. put_frame k n b x ∷ l) (put_none k n bs))

-- it stood there before, or it is put on this connection, for this opening
abbrev OldOr : List UpFrame → ℕ → ℕ → (Sent → Type 0) → UpFrame → Type 0
OldOr us k n P u = ((i : ℕ) × (slice_get us i ≡ Some u)) ⊎ ((u.connection ≡ k) × (u.opening ≡ n) × P u.sent)

abbrev AllOldOr : List UpFrame → ℕ → ℕ → (Sent → Type 0) → List UpFrame → Type 0
AllOldOr us k n P all = (i : ℕ) (u : UpFrame) → slice_get all i ≡ Some u → OldOr us k n P u

all_old : (us all : List UpFrame) (k n : ℕ) (P : Sent → Type 0) → all ≡ us → AllOldOr us k n P all
all_old us all k n P e i u h = inl (i, subst (λ l. slice_get l i ≡ Some u) e h)

one_new : (us all : List UpFrame) (k n : ℕ) (b : List ℕ) (x : Sent) (P : Sent → Type 0) → P x → all ≡ us ++ put_frame k n b x ∷ []
    → AllOldOr us k n P all
one_new us all k n b x P p e i u h = by (last_get us (put_frame k n b x) i u (subst (λ l. slice_get l i ≡ Some u) e h))
  where
    by : ((i < length us) × (slice_get us i ≡ Some u))
        ⊎ ((i ≡ length us) × (put_frame k n b x ≡ u)) → OldOr us k n P u
    by (inl q) = inl (i, q.1)
    by (inr q) = subst (OldOr us k n P) q.1 (inr (refl, refl, p))

joined : (us : List UpFrame) (k n : ℕ) (bs : List (List ℕ)) (xs : List Sent) (P : Sent → Type 0) → NoneOr P xs
    → AllOldOr us k n P (us ++ puts_up k n bs xs)
joined us k n bs xs P (inl none) =
    all_old us (us ++ puts_up k n bs xs) k n P
    (ap (λ l. us ++ l) (ap (λ ys. puts_up k n bs ys) none ∙ put_none k n bs) ∙ nothing_more us)
joined us k n bs xs P (inr o) = by (put_one k n bs o.0)
  where
    by : (puts_up k n bs (o.0 ∷ []) ≡ []) ⊎ ((b : List ℕ) × (puts_up k n bs (o.0 ∷ []) ≡ put_frame k n b o.0 ∷ []))
        → AllOldOr us k n P (us ++ puts_up k n bs xs)
    by (inl none) =
        all_old us (us ++ puts_up k n bs xs) k n P (ap (λ l. us ++ l) (ap (λ ys. puts_up k n bs ys) o.1 ∙ none) ∙ nothing_more us)
    by (inr q) =
        one_new us (us ++ puts_up k n bs xs) k n q.0 o.0 P o.2 (ap (λ l. us ++ l) (ap (λ ys. puts_up k n bs ys) o.1 ∙ q.1))

-- ---- one event

abbrev Sending : WorldSettings → RepeatWorld → RepeatEvent → UpFrame → Type 0
Sending z r e u =
    ((i : ℕ) × (slice_get r.ups i ≡ Some u))
    ⊎ (SendsAt z r u.connection u.sent e × (u.opening ≡ (repeat_happens z r e).openings u.connection))

abbrev AllSending : WorldSettings → RepeatWorld → RepeatEvent → List UpFrame → Type 0
AllSending z r e us = (i : ℕ) (u : UpFrame) → slice_get us i ≡ Some u → Sending z r e u

-- of the connection that the event is on
all_sending : (z : WorldSettings) (r : RepeatWorld) (e : RepeatEvent) (k n : ℕ) (us : List UpFrame)
    → n ≡ (repeat_happens z r e).openings k → AllOldOr r.ups k n (λ x. SendsAt z r k x e) us → AllSending z r e us
all_sending z r e k n us o all i u h = by (all i u h)
  where
    by : OldOr r.ups k n (λ x. SendsAt z r k x e) u → Sending z r e u
    by (inl old) = inl old
    by (inr q) =
        inr (
          subst (λ j. SendsAt z r j u.sent e) (sym q.0) q.2,
          q.1 ∙ (o ∙ ap (λ j. (repeat_happens z r e).openings j) (sym q.0)),
        )

old_sending : (z : WorldSettings) (r : RepeatWorld) (e : RepeatEvent) → AllSending z r e r.ups
old_sending z r e i u h = inl (i, h)

abbrev At : WorldSettings → RepeatWorld → RepeatEvent → ℕ → Sent → Type 0
At z r e k x = SendsAt z r k x e

own_sends_of : (z : WorldSettings) (r : RepeatWorld) (e : Event) → SendsOf (At z r (Same e)) r.world e
own_sends_of z r e =
    let c = r.world.values.client in
    record {
      opens = λ k is may. subst (λ v. At z r (Same v) k (record { token = ForDialog; message = dialog_message c k 0 (SaidNegotiate c.live) }))
          (sym is)
          (AtOpen (subst (λ v. is_possible r.world.values v ≡ true) is may) refl);
      pushes = λ k slotless pick is may x h. subst (λ v. At z r (Same v) k x) (sym is)
          (AtPush slotless pick (subst (λ v. is_possible r.world.values v ≡ true) is may) h);
    }

same_sending : (z : WorldSettings) (r : RepeatWorld) (e : Event) → uses_no_list e ≡ true → HasEmptyLists r.world
    → repeat_happens z r (Same e) ≡ same_done z r e → AllSending z r (Same e) (same_done z r e).ups
same_sending z r e s i is =
    let k = own_connection e in
    let w = bytes_happen z r.world (Plain e) in
    let n = (with_opening r e).openings k in
    let P = At z r (Same e) in
    let puts : PutsBy P r.world.values.conns w.values.conns =
    happen_sends P z r.world e (λ may. still_sends P z r.world e s (own_sends_of z r e) may) in
    all_sending z r (Same e) k n (same_done z r e).ups (ap (λ (v : RepeatWorld). v.openings k) (sym is))
    (subst (λ us. AllOldOr r.ups k n (P k) (us ++ new_ups w k n)) (sym (opening_ups r e))
    (joined r.ups k n (w.wires k).up (w.values.conns k).up (P k) (puts k (i.sent k))))

-- ---- Give

down_sending : (z : WorldSettings) (r : RepeatWorld) (k place : ℕ) (d : DownFrame) → slice_get r.downs place ≡ Some d
    → is_heard r.world k ≡ true → repeat_happens z r (Give k false place) ≡ given_down z r k d
    → AllSending z r (Give k false place) (given_down z r k d).ups
unfolding down_frames sents
down_sending z r k place d at on is =
    let v = loaded_down r k d in
    let w = bytes_happen z v (Plain (Take k)) in
    let P = At z r (Give k false place) in
    let n = (r.world.wires k).client_end in
    let same : (v.wires k).client_end ≡ n = ap (λ (u : Wires). u.client_end) (put_here r.world.wires k _) in
    let next : (v.values.conns k).next_id ≡ (r.world.values.conns k).next_id = lists_ids r.world k [] (d ∷ []) true k in
    let frames : (v.wires k).down ≡ d.frame ∷ [] = ap (λ (u : Wires). u.down) (put_here r.world.wires k _) in
    let none : (v.values.conns k).up ≡ [] = ap (λ (c : Conn). c.up) (put_here r.world.values.conns k _) in
    let sends : SendsBy P z.client k (v.wires k).client_end (v.values.conns k).next_id v.values.client (v.wires k).client_end.stage d.frame =
    sends_alike P z.client k n (v.wires k).client_end (r.world.values.conns k).next_id (v.values.conns k).next_id v.values.client d.frame same next
    (λ y x heard fine h. AtResponse place d y at on heard fine h) in
    let puts : PutsBy P v.values.conns w.values.conns =
    happen_sends P z v (Take k) (λ may. frame_sends P z v k (v.wires k).down (v.values.conns k).down d.frame frames sends) in
    all_sending z r (Give k false place) k (r.openings k) (given_down z r k d).ups (ap (λ (v : RepeatWorld). v.openings k) (sym is))
    (joined r.ups k (r.openings k) (w.wires k).up (w.values.conns k).up (P k) (puts k none))

give_down_sending : (z : WorldSettings) (r : RepeatWorld) (k place : ℕ) (o : Option DownFrame) → slice_get r.downs place ≡ o
    → AllSending z r (Give k false place) (repeat_happens z r (Give k false place)).ups
give_down_sending z r k place None at =
    subst (λ (v : RepeatWorld). AllSending z r (Give k false place) v.ups) (sym (ap (λ o. give_down z r k o) at))
    (old_sending z r (Give k false place))
give_down_sending z r k place (Some d) at = by (is_heard r.world k) refl
  where
    by : (b : Bool) → is_heard r.world k ≡ b → AllSending z r (Give k false place) (repeat_happens z r (Give k false place)).ups
    by true on =
        let is : repeat_happens z r (Give k false place) ≡ given_down z r k d =
        ap (λ o. give_down z r k o) at ∙ ap (λ b. if b then given_down z r k d else r) on in
        subst (λ (v : RepeatWorld). AllSending z r (Give k false place) v.ups) (sym is) (down_sending z r k place d at on is)
    by false off =
        let is : repeat_happens z r (Give k false place) ≡ r =
        ap (λ o. give_down z r k o) at ∙ ap (λ b. if b then given_down z r k d else r) off in
        subst (λ (v : RepeatWorld). AllSending z r (Give k false place) v.ups) (sym is) (old_sending z r (Give k false place))

-- a server's end puts nothing up
up_same : (z : WorldSettings) (r : RepeatWorld) (k : ℕ) (u : UpFrame) → is_served r.world k ≡ true → (given_up z r k u).ups ≡ r.ups
up_same z r k u on =
    let w = bytes_happen z (loaded_up r k u) (Plain (Serve k)) in
    let q = serve_empties z r k u on in
    ap (λ us. r.ups ++ us)
    (ap (λ ys. puts_up k (r.openings k) (w.wires k).up ys) ((q k).1 (λ off. never_apart k _ off)) ∙ put_none k (r.openings k) (w.wires k).up)
    ∙ nothing_more r.ups

give_up_sending : (z : WorldSettings) (r : RepeatWorld) (k : ℕ) (e : RepeatEvent) (o : Option UpFrame) → AllSending z r e (give_up z r k o).ups
give_up_sending z r k e None = old_sending z r e
give_up_sending z r k e (Some u) =
    either (λ (v : RepeatWorld). AllSending z r e v.ups) (is_served r.world k) (given_up z r k u) r
    (λ on. subst (AllSending z r e) (sym (up_same z r k u on)) (old_sending z r e)) (λ _. old_sending z r e)

same_event_sending : (z : WorldSettings) (r : RepeatWorld) (e : Event) → HasEmptyLists r.world
    → AllSending z r (Same e) (repeat_happens z r (Same e)).ups
same_event_sending z r e i = by (uses_no_list e) refl
  where
    by : (b : Bool) → uses_no_list e ≡ b → AllSending z r (Same e) (repeat_happens z r (Same e)).ups
    by true on =
        let is : repeat_happens z r (Same e) ≡ same_done z r e = ap (λ b. if b then same_done z r e else r) on in
        subst (λ (v : RepeatWorld). AllSending z r (Same e) v.ups) (sym is) (same_sending z r e on i is)
    by false off =
        let is : repeat_happens z r (Same e) ≡ r = ap (λ b. if b then same_done z r e else r) off in
        subst (λ (v : RepeatWorld). AllSending z r (Same e) v.ups) (sym is) (old_sending z r (Same e))

pub event_sending : (z : WorldSettings) (r : RepeatWorld) (e : RepeatEvent) → HasEmptyLists r.world
    → AllSending z r e (repeat_happens z r e).ups
event_sending z r (Same e) i = same_event_sending z r e i
event_sending z r (Give k true place) i = give_up_sending z r k (Give k true place) (slice_get r.ups place)
event_sending z r (Give k false place) i = give_down_sending z r k place (slice_get r.downs place) refl

-- ---- a run, from any world of it

record SentFrom (z : WorldSettings) (r : RepeatWorld) (es : List RepeatEvent) (u : UpFrame) : Type 0 where
  before : List RepeatEvent
  event : RepeatEvent
  after : List RepeatEvent
  run : es ≡ before ++ event ∷ after
  sends : SendsAt z (repeat_run z before r) u.connection u.sent event
  opening : u.opening ≡ (repeat_happens z (repeat_run z before r) event).openings u.connection

abbrev OldOrSent : WorldSettings → RepeatWorld → List RepeatEvent → UpFrame → Type 0
OldOrSent z r es u = ((i : ℕ) × (slice_get r.ups i ≡ Some u)) ⊎ SentFrom z r es u

sent_later : (z : WorldSettings) (r : RepeatWorld) (e : RepeatEvent) (es : List RepeatEvent) (u : UpFrame)
    → SentFrom z (repeat_happens z r e) es u → SentFrom z r (e ∷ es) u
unfolding repeat_run
sent_later z r e es u s =
    record {
      before = e ∷ s.before;
      event = s.event;
      after = s.after;
      run = ap (λ l. e ∷ l) s.run;
      sends = s.sends;
      opening = s.opening;
    }

by_event : (z : WorldSettings) (r : RepeatWorld) (e : RepeatEvent) (es : List RepeatEvent) (u : UpFrame) → Sending z r e u
    → OldOrSent z r (e ∷ es) u
unfolding repeat_run
by_event z r e es u (inl old) = inl old
by_event z r e es u (inr s) = inr (record { before = []; event = e; after = es; run = refl; sends = s.0; opening = s.1 })

by_rest : (z : WorldSettings) (r : RepeatWorld) (e : RepeatEvent) (es : List RepeatEvent) (u : UpFrame) → HasEmptyLists r.world
    → OldOrSent z (repeat_happens z r e) es u → OldOrSent z r (e ∷ es) u
by_rest z r e es u i (inl old) = by_event z r e es u (event_sending z r e i old.0 u old.1)
by_rest z r e es u i (inr s) = inr (sent_later z r e es u s)

run_sends : (z : WorldSettings) (es : List RepeatEvent) (r : RepeatWorld) → HasEmptyLists r.world → (i : ℕ) (u : UpFrame)
    → slice_get (repeat_run z es r).ups i ≡ Some u → OldOrSent z r es u
unfolding repeat_run
run_sends z [] r h i u at = inl (i, at)
run_sends z (e ∷ es) r h i u at =
    by_rest z r e es u h (run_sends z es (repeat_happens z r e) (event_empties z r e h) i u at)

pub own_sends : OwnSends
own_sends z es i u at = by (run_sends z es (repeat_start z) (start_empties z) i u at)
  where
    by : OldOrSent z (repeat_start z) es u → WasSent z es u
    by (inl old) = absurd (none_in [] old.0 u refl old.1)
    by (inr s) =
        record {
          before = s.before;
          event = s.event;
          after = s.after;
          run = s.run;
          sends = s.sends;
          opening = s.opening;
        }

-- At each event each message that an end takes is looked up among those that were signed.
use Rattle.std.proofs.Common.{◌≡◌, ℕ, zero, suc, ◌+◌, ◌==◌, Bool, true, false, ◌&&◌, List, [], ◌∷◌, ◌⊎◌, inl, inr, refl, sym}
use Rattle.std.proofs.Common.{◌∙◌, ap, subst, Option, Some, None, slice_get, Result, Ok, Err, add-one, eqb-true, eq-eqb}
use Rattle.std.specs.Prelude.{is_some, is_none}
use Rattle.law_server.proofs.tables.Logic.{front_of, back_of, both}
use Rattle.spec_exchange.specs.Commands.{has_bit}
use Rattle.spec_exchange.specs.Client.{Stage, Apart, SaidNegotiate, SaidFirst, SaidSecond, AskedTree}
use Rattle.spec_exchange.specs.Network.{Event}
use Rattle.spec_crypto.specs.sessions.Signing.{verifies}
use Rattle.spec_world.specs.Settings.{WorldSettings}
use Rattle.spec_world.specs.Messages.{HeardMessage}
use Rattle.spec_world.specs.Ends.{ClientEnd, ServerEnd, ConnEnd}
use Rattle.spec_world.specs.Hearing.{Checked, Frame, check_frame, signed_by, is_setup}
use Rattle.spec_world.specs.Dialog.{line_response, dialog_response, status_due, dialog_fault}
use Rattle.spec_hostile.specs.RepeatRuns.{RepeatEvent, Same, Give, UpFrame, DownFrame, is_heard, is_served}
use Rattle.spec_hostile.specs.SignedFor.{Watched, SignedEntry, Secret, KeyPlace, InSession, opening_of, own_secret, TakenUp, VerifiesUp}
use Rattle.spec_hostile.specs.SignedFor.{TakenDown, Passes, Takes, TakesUp, TakesDown, WasSigned, HasForged, Forges, Later}
use Rattle.spec_hostile.specs.SignedFor.{watched_happens}
use Rattle.law_hostile.specs.unforged.Unforged.{EventSigned, AllSigned, ForgedApart, ForgedOrSigned}
use Rattle.law_hostile.proofs.unforged.Entries.{among, entry_made}

-- an entry that an end takes in this event, and that isn't signed
abbrev Unsigned : WorldSettings → Watched → RepeatEvent → Type 0
Unsigned z t e = (x : SignedEntry) × Takes z t x e × (WasSigned t x → ⊥)

abbrev Decides : WorldSettings → Watched → RepeatEvent → Type 0
Decides z t e = Unsigned z t e ⊎ EventSigned z t e

-- ---- a message that a server's end hears: whether it is taken, and then the one entry that it is taken for

abbrev pub by_setup : {X : Type 0} → Bool → X → X → X
by_setup true x y = x
by_setup false x y = y

abbrev pub up_secret : Watched → ℕ → Checked → Secret
up_secret t k c = by_setup (is_setup c.header) (t.in_session c.header.session) (t.on_connection k)

abbrev pub up_place : Watched → ℕ → Checked → KeyPlace
up_place t k c = by_setup (is_setup c.header) (InSession c.header.session) (opening_of t.repeating k)

abbrev pub up_entry : Watched → ℕ → Checked → SignedEntry
up_entry t k c = record { to_server = true; secret = up_secret t k c; place = up_place t k c; message = c.raw }

abbrev pub up_verifies : Watched → ServerEnd → Checked → Bool → Bool
up_verifies t f c true =
    t.repeating.world.values.server.present c.header.session
    && verifies (t.repeating.world.logons.keys c.header.session).signing c.raw
up_verifies t f c false = signed_by f.keys c.raw

abbrev pub is_taken_up : Watched → ServerEnd → Checked → Bool
is_taken_up t f c = has_bit c.header.flags 8 && (is_none c.fault && up_verifies t f c (is_setup c.header))

none_is : {X : Type 0} (o : Option X) → is_none o ≡ true → o ≡ None
none_is None e = refl
none_is (Some x) e = absurd (let t : false ≡ true = e in cc)

pub is_none_of : {X : Type 0} (o : Option X) → o ≡ None → is_none o ≡ true
is_none_of o e = ap is_none e

verified_up : (t : Watched) (k : ℕ) (f : ServerEnd) (c : Checked) (b : Bool) (m : List ℕ) → up_verifies t f c b ≡ true
    → VerifiesUp t k f c (record {
      to_server = true;
      secret = by_setup b (t.in_session c.header.session) (t.on_connection k);
      place = by_setup b (InSession c.header.session) (opening_of t.repeating k);
      message = m;
    }) b
verified_up t k f c true m e =
    let x = t.repeating.world.values.server.present c.header.session in
    let y = verifies (t.repeating.world.logons.keys c.header.session).signing c.raw in
    (front_of x y e, back_of x y e, refl, refl)
verified_up t k f c false m e = (e, refl, refl)

pub taken_up : (t : Watched) (k : ℕ) (f : ServerEnd) (c : Checked) → is_taken_up t f c ≡ true → TakenUp t k f c (up_entry t k c)
taken_up t k f c e =
    let b = has_bit c.header.flags 8 in
    let n = is_none c.fault in
    let v = up_verifies t f c (is_setup c.header) in
    let r = back_of b (n && v) e in (
      front_of b (n && v) e,
      none_is c.fault (front_of n v r),
      refl,
      refl,
      verified_up t k f c (is_setup c.header) c.raw (back_of n v r),
    )

verifies_of : (t : Watched) (k : ℕ) (f : ServerEnd) (c : Checked) (x : SignedEntry) (b : Bool) → VerifiesUp t k f c x b
    → up_verifies t f c b ≡ true
verifies_of t k f c x true h =
    both (t.repeating.world.values.server.present c.header.session)
    (verifies (t.repeating.world.logons.keys c.header.session).signing c.raw) h.0 h.1
verifies_of t k f c x false h = h.0

secret_in : (t : Watched) (k : ℕ) (f : ServerEnd) (c : Checked) (x : SignedEntry) (b : Bool) → VerifiesUp t k f c x b
    → x.secret ≡ by_setup b (t.in_session c.header.session) (t.on_connection k)
secret_in t k f c x true h = h.2
secret_in t k f c x false h = h.1

place_in : (t : Watched) (k : ℕ) (f : ServerEnd) (c : Checked) (x : SignedEntry) (b : Bool) → VerifiesUp t k f c x b
    → x.place ≡ by_setup b (InSession c.header.session) (opening_of t.repeating k)
place_in t k f c x true h = h.3
place_in t k f c x false h = h.2

is_taken : (t : Watched) (k : ℕ) (f : ServerEnd) (c : Checked) (x : SignedEntry) → TakenUp t k f c x → is_taken_up t f c ≡ true
is_taken t k f c x h =
    both (has_bit c.header.flags 8) (is_none c.fault && up_verifies t f c (is_setup c.header)) h.0
    (both (is_none c.fault) (up_verifies t f c (is_setup c.header)) (is_none_of c.fault h.1)
    (verifies_of t k f c x (is_setup c.header) h.4))

entry_taken : (t : Watched) (k : ℕ) (f : ServerEnd) (c : Checked) (x : SignedEntry) → TakenUp t k f c x → x ≡ up_entry t k c
entry_taken t k f c x h =
    entry_made x true (up_secret t k c) (up_place t k c) c.raw h.2 (secret_in t k f c x (is_setup c.header) h.4)
    (place_in t k f c x (is_setup c.header) h.4) h.3

-- ---- all messages of a frame

-- one of them is taken, and its entry isn't signed
abbrev LacksOne : Watched → ℕ → ServerEnd → List Checked → Type 0
LacksOne t k f cs =
    (i : ℕ) × (c : Checked) × (slice_get cs i ≡ Some c) × (is_taken_up t f c ≡ true) × (WasSigned t (up_entry t k c) → ⊥)

abbrev HasAll : Watched → ℕ → ServerEnd → List Checked → Type 0
HasAll t k f cs = (i : ℕ) (c : Checked) → slice_get cs i ≡ Some c → is_taken_up t f c ≡ true → WasSigned t (up_entry t k c)

none_there : (t : Watched) (k : ℕ) (f : ServerEnd) → HasAll t k f []
none_there t k f zero c h e = absurd (let q : None ≡ Some c = h in cc)
none_there t k f (suc i) c h e = absurd (let q : None ≡ Some c = h in cc)

first_has : (t : Watched) (k : ℕ) (f : ServerEnd) (c : Checked) (b : Bool) → is_taken_up t f c ≡ b
    → (WasSigned t (up_entry t k c) → ⊥) ⊎ WasSigned t (up_entry t k c)
    → ((is_taken_up t f c ≡ true) × (WasSigned t (up_entry t k c) → ⊥)) ⊎ (is_taken_up t f c ≡ true → WasSigned t (up_entry t k c))
first_has t k f c true e (inl h) = inl (e, h)
first_has t k f c true e (inr h) = inr (λ _. h)
first_has t k f c false e h = inr (λ q. absurd (cc))

swapped : {X Y : Type 0} → X ⊎ Y → Y ⊎ X
swapped (inl x) = inr x
swapped (inr y) = inl y

more_has : (t : Watched) (k : ℕ) (f : ServerEnd) (c : Checked) (cs : List Checked)
    → (is_taken_up t f c ≡ true → WasSigned t (up_entry t k c)) → HasAll t k f cs → HasAll t k f (c ∷ cs)
more_has t k f c cs one all zero d h e =
    let q : Some c ≡ Some d = h in
    let r : c ≡ d = cc in
    subst (λ v. is_taken_up t f v ≡ true → WasSigned t (up_entry t k v)) r one e
more_has t k f c cs one all (suc i) d h e = all i d h e

more_lacks : (t : Watched) (k : ℕ) (f : ServerEnd) (c : Checked) (cs : List Checked) → LacksOne t k f cs → LacksOne t k f (c ∷ cs)
more_lacks t k f c cs h = (h.0 + 1, h.1, rw (add-one) h.2, h.3, h.4)

with_first : (t : Watched) (k : ℕ) (f : ServerEnd) (c : Checked) (cs : List Checked)
    → ((is_taken_up t f c ≡ true) × (WasSigned t (up_entry t k c) → ⊥)) ⊎ (is_taken_up t f c ≡ true → WasSigned t (up_entry t k c))
    → LacksOne t k f cs ⊎ HasAll t k f cs → LacksOne t k f (c ∷ cs) ⊎ HasAll t k f (c ∷ cs)
with_first t k f c cs (inl h) rest = inl (0, c, refl, h.0, h.1)
with_first t k f c cs (inr h) (inl r) = inl (more_lacks t k f c cs r)
with_first t k f c cs (inr h) (inr r) = inr (more_has t k f c cs h r)

searched : (t : Watched) (k : ℕ) (f : ServerEnd) (cs : List Checked) → LacksOne t k f cs ⊎ HasAll t k f cs
searched t k f [] = inr (none_there t k f)
searched t k f (c ∷ cs) =
    with_first t k f c cs (first_has t k f c (is_taken_up t f c) refl (swapped (among (up_entry t k c) t.signed))) (searched t k f cs)

-- ---- Give up

no_such : {X : Type 0} (x : X) (o : Option X) → o ≡ None → o ≡ Some x → ⊥
no_such x o e f = absurd (cc)

same_some : {X : Type 0} (x y : X) (o : Option X) → o ≡ Some x → o ≡ Some y → x ≡ y
same_some x y o e f = let q : Some x ≡ Some y = sym e ∙ f in cc

same_frame : (x y : Frame) (r : Result Frame ConnEnd) → r ≡ Ok x → r ≡ Ok y → x ≡ y
same_frame x y r e f = cc

not_frame : (x : Frame) (why : ConnEnd) (r : Result Frame ConnEnd) → r ≡ Err why → r ≡ Ok x → ⊥
not_frame x why r e f = absurd (cc)

-- where no frame is there, or none is heard, nothing is taken
none_put : (z : WorldSettings) (t : Watched) (k place : ℕ) → slice_get t.repeating.ups place ≡ None → EventSigned z t (Give k true place)
none_put z t k place e x (TakesUp j p i u y c at served heard on taken) = absurd (no_such u (slice_get t.repeating.ups place) e at)

not_served : (z : WorldSettings) (t : Watched) (k place : ℕ) → is_served t.repeating.world k ≡ false → EventSigned z t (Give k true place)
not_served z t k place e x (TakesUp j p i u y c at served heard on taken) = absurd (cc)

none_heard : (z : WorldSettings) (t : Watched) (k place : ℕ) (u : UpFrame) (why : ConnEnd) → slice_get t.repeating.ups place ≡ Some u
    → check_frame (t.repeating.world.wires k).server_end u.frame ≡ Err why → EventSigned z t (Give k true place)
none_heard z t k place u why is off x (TakesUp j p i v y c at served heard on taken) =
    absurd (not_frame y why (check_frame (t.repeating.world.wires k).server_end u.frame) off
    (subst (λ (w : UpFrame). check_frame (t.repeating.world.wires k).server_end w.frame ≡ Ok y)
    (same_some v u (slice_get t.repeating.ups place) at is) heard))

all_heard : (z : WorldSettings) (t : Watched) (k place : ℕ) (u : UpFrame) (y : Frame) → slice_get t.repeating.ups place ≡ Some u
    → check_frame (t.repeating.world.wires k).server_end u.frame ≡ Ok y → HasAll t k y.server_end y.messages
    → EventSigned z t (Give k true place)
all_heard z t k place u y is ok all x (TakesUp j p i v w c at served heard on taken) =
    let same : w ≡ y = same_frame w y (check_frame (t.repeating.world.wires k).server_end u.frame)
    (subst (λ (f : UpFrame). check_frame (t.repeating.world.wires k).server_end f.frame ≡ Ok w)
    (same_some v u (slice_get t.repeating.ups place) at is) heard) ok in
    let here : slice_get y.messages i ≡ Some c = subst (λ (f : Frame). slice_get f.messages i ≡ Some c) same on in
    let took : TakenUp t k y.server_end c x = subst (λ (f : Frame). TakenUp t k f.server_end c x) same taken in
    subst (λ v. WasSigned t v) (sym (entry_taken t k y.server_end c x took))
    (all i c here (is_taken t k y.server_end c x took))

one_lacks : (z : WorldSettings) (t : Watched) (k place : ℕ) (u : UpFrame) (y : Frame) → slice_get t.repeating.ups place ≡ Some u
    → is_served t.repeating.world k ≡ true → check_frame (t.repeating.world.wires k).server_end u.frame ≡ Ok y
    → LacksOne t k y.server_end y.messages → Unsigned z t (Give k true place)
one_lacks z t k place u y is served ok h =
    (up_entry t k h.1, TakesUp k place h.0 u y h.1 is served ok h.2 (taken_up t k y.server_end h.1 h.3), h.4)

up_searched : (z : WorldSettings) (t : Watched) (k place : ℕ) (u : UpFrame) (y : Frame) → slice_get t.repeating.ups place ≡ Some u
    → is_served t.repeating.world k ≡ true → check_frame (t.repeating.world.wires k).server_end u.frame ≡ Ok y
    → LacksOne t k y.server_end y.messages ⊎ HasAll t k y.server_end y.messages → Decides z t (Give k true place)
up_searched z t k place u y is served ok (inl h) = inl (one_lacks z t k place u y is served ok h)
up_searched z t k place u y is served ok (inr h) = inr (all_heard z t k place u y is ok h)

up_heard : (z : WorldSettings) (t : Watched) (k place : ℕ) (u : UpFrame) → slice_get t.repeating.ups place ≡ Some u
    → is_served t.repeating.world k ≡ true → (r : Result Frame ConnEnd)
    → check_frame (t.repeating.world.wires k).server_end u.frame ≡ r → Decides z t (Give k true place)
up_heard z t k place u is served (Ok y) e =
    up_searched z t k place u y is served e (searched t k y.server_end y.messages)
up_heard z t k place u is served (Err why) e = inr (none_heard z t k place u why is e)

up_served : (z : WorldSettings) (t : Watched) (k place : ℕ) (u : UpFrame) → slice_get t.repeating.ups place ≡ Some u → (b : Bool)
    → is_served t.repeating.world k ≡ b → Decides z t (Give k true place)
up_served z t k place u is true e =
    up_heard z t k place u is e (check_frame (t.repeating.world.wires k).server_end u.frame) refl
up_served z t k place u is false e = inr (not_served z t k place e)

up_put : (z : WorldSettings) (t : Watched) (k place : ℕ) (o : Option UpFrame) → slice_get t.repeating.ups place ≡ o
    → Decides z t (Give k true place)
up_put z t k place (Some u) e = up_served z t k place u e (is_served t.repeating.world k) refl
up_put z t k place None e = inr (none_put z t k place e)

-- ---- a frame that a client's end hears

abbrev down_secret : Watched → ClientEnd → Stage → Secret
down_secret t n (SaidFirst bound) = t.of_client
down_secret t n _ = own_secret n

abbrev down_place : Watched → ℕ → Stage → KeyPlace
down_place t k (SaidFirst bound) = InSession t.repeating.world.values.client.session
down_place t k _ = opening_of t.repeating k

abbrev down_entry : Watched → ℕ → ClientEnd → List ℕ → SignedEntry
down_entry t k n m = record {
  to_server = false;
  secret = down_secret t n n.stage;
  place = down_place t k n.stage;
  message = m;
}

abbrev passes : WorldSettings → ClientEnd → Stage → Option HeardMessage → Bool
passes z n stage None = false
passes z n stage (Some x) = (x.header.status == status_due stage) && is_none (dialog_fault z.client n stage x)

abbrev is_taken_down : WorldSettings → ClientEnd → List ℕ → Stage → Bool
is_taken_down z n m Apart = is_some (line_response n m)
is_taken_down z n m (SaidNegotiate bound) = false
is_taken_down z n m (SaidFirst bound) = bound && passes z n (SaidFirst bound) (dialog_response n (SaidFirst bound) m)
is_taken_down z n m (SaidSecond bound) = passes z n (SaidSecond bound) (dialog_response n (SaidSecond bound) m)
is_taken_down z n m AskedTree = passes z n AskedTree (dialog_response n AskedTree m)

passes_of : (z : WorldSettings) (n : ClientEnd) (stage : Stage) (o : Option HeardMessage) → passes z n stage o ≡ true → Passes z n stage o
passes_of z n stage None e = absurd (let t : false ≡ true = e in cc)
passes_of z n stage (Some x) e =
    let a = x.header.status == status_due stage in
    let b = is_none (dialog_fault z.client n stage x) in
    (eqb-true x.header.status (status_due stage) (front_of a b e), none_is (dialog_fault z.client n stage x) (back_of a b e))

of_passes : (z : WorldSettings) (n : ClientEnd) (stage : Stage) (o : Option HeardMessage) → Passes z n stage o → passes z n stage o ≡ true
of_passes z n stage None h = absurd h
of_passes z n stage (Some x) h =
    both (x.header.status == status_due stage) (is_none (dialog_fault z.client n stage x))
    (eq-eqb x.header.status (status_due stage) h.0) (is_none_of (dialog_fault z.client n stage x) h.1)

taken_down : (z : WorldSettings) (t : Watched) (k : ℕ) (n : ClientEnd) (m : List ℕ) (stage : Stage) → is_taken_down z n m stage ≡ true
    → TakenDown z t k n m (record {
      to_server = false;
      secret = down_secret t n stage;
      place = down_place t k stage;
      message = m;
    }) stage
taken_down z t k n m Apart e = (e, refl, refl)
taken_down z t k n m (SaidNegotiate bound) e = absurd (let q : false ≡ true = e in cc)
taken_down z t k n m (SaidFirst bound) e =
    let p = passes z n (SaidFirst bound) (dialog_response n (SaidFirst bound) m) in
    (front_of bound p e, passes_of z n (SaidFirst bound) (dialog_response n (SaidFirst bound) m) (back_of bound p e), refl, refl)
taken_down z t k n m (SaidSecond bound) e = (passes_of z n (SaidSecond bound) (dialog_response n (SaidSecond bound) m) e, refl, refl)
taken_down z t k n m AskedTree e = (passes_of z n AskedTree (dialog_response n AskedTree m) e, refl, refl)

is_down : (z : WorldSettings) (t : Watched) (k : ℕ) (n : ClientEnd) (m : List ℕ) (x : SignedEntry) (stage : Stage)
    → TakenDown z t k n m x stage
    → (is_taken_down z n m stage ≡ true) × (x.secret ≡ down_secret t n stage) × (x.place ≡ down_place t k stage)
is_down z t k n m x Apart h = h
is_down z t k n m x (SaidNegotiate bound) h = absurd h
is_down z t k n m x (SaidFirst bound) h =
    let o = dialog_response n (SaidFirst bound) m in
    (both bound (passes z n (SaidFirst bound) o) h.0 (of_passes z n (SaidFirst bound) o h.1), h.2, h.3)
is_down z t k n m x (SaidSecond bound) h =
    (of_passes z n (SaidSecond bound) (dialog_response n (SaidSecond bound) m) h.0, h.1, h.2)
is_down z t k n m x AskedTree h = (of_passes z n AskedTree (dialog_response n AskedTree m) h.0, h.1, h.2)

-- ---- Give down

none_told : (z : WorldSettings) (t : Watched) (k place : ℕ) → slice_get t.repeating.downs place ≡ None → EventSigned z t (Give k false place)
none_told z t k place e x (TakesDown j p d at open_ way is taken) = absurd (no_such d (slice_get t.repeating.downs place) e at)

not_heard : (z : WorldSettings) (t : Watched) (k place : ℕ) → is_heard t.repeating.world k ≡ false → EventSigned z t (Give k false place)
not_heard z t k place e x (TakesDown j p d at open_ way is taken) = absurd (cc)

not_taken : (z : WorldSettings) (t : Watched) (k place : ℕ) (d : DownFrame) → slice_get t.repeating.downs place ≡ Some d
    → is_taken_down z (t.repeating.world.wires k).client_end d.frame (t.repeating.world.wires k).client_end.stage ≡ false
    → EventSigned z t (Give k false place)
not_taken z t k place d it off x (TakesDown j p e at open_ way is taken) =
    let n = (t.repeating.world.wires k).client_end in
    let same = same_some e d (slice_get t.repeating.downs place) at it in
    let h = subst (λ (f : DownFrame). TakenDown z t k n f.frame x n.stage) same taken in
    let q = (is_down z t k n d.frame x n.stage h).0 in
    absurd (cc)

down_has : (z : WorldSettings) (t : Watched) (k place : ℕ) (d : DownFrame) → slice_get t.repeating.downs place ≡ Some d
    → WasSigned t (down_entry t k (t.repeating.world.wires k).client_end d.frame) → EventSigned z t (Give k false place)
down_has z t k place d it has x (TakesDown j p e at open_ way is taken) =
    let n = (t.repeating.world.wires k).client_end in
    let same = same_some e d (slice_get t.repeating.downs place) at it in
    let h = is_down z t k n d.frame x n.stage (subst (λ (f : DownFrame). TakenDown z t k n f.frame x n.stage) same taken) in
    subst (λ v. WasSigned t v)
    (sym (entry_made x false (down_secret t n n.stage) (down_place t k n.stage) d.frame way h.1 h.2
    (is ∙ ap (λ (f : DownFrame). f.frame) same))) has

down_lacks : (z : WorldSettings) (t : Watched) (k place : ℕ) (d : DownFrame) → slice_get t.repeating.downs place ≡ Some d
    → is_heard t.repeating.world k ≡ true
    → is_taken_down z (t.repeating.world.wires k).client_end d.frame (t.repeating.world.wires k).client_end.stage ≡ true
    → (WasSigned t (down_entry t k (t.repeating.world.wires k).client_end d.frame) → ⊥) → Unsigned z t (Give k false place)
down_lacks z t k place d it heard e off =
    let n = (t.repeating.world.wires k).client_end in
    (down_entry t k n d.frame, TakesDown k place d it heard refl refl (taken_down z t k n d.frame n.stage e), off)

down_searched : (z : WorldSettings) (t : Watched) (k place : ℕ) (d : DownFrame) → slice_get t.repeating.downs place ≡ Some d
    → is_heard t.repeating.world k ≡ true
    → is_taken_down z (t.repeating.world.wires k).client_end d.frame (t.repeating.world.wires k).client_end.stage ≡ true
    → WasSigned t (down_entry t k (t.repeating.world.wires k).client_end d.frame)
    ⊎ (WasSigned t (down_entry t k (t.repeating.world.wires k).client_end d.frame) → ⊥) → Decides z t (Give k false place)
down_searched z t k place d it heard e (inl h) = inr (down_has z t k place d it h)
down_searched z t k place d it heard e (inr h) = inl (down_lacks z t k place d it heard e h)

down_taken : (z : WorldSettings) (t : Watched) (k place : ℕ) (d : DownFrame) → slice_get t.repeating.downs place ≡ Some d
    → is_heard t.repeating.world k ≡ true → (b : Bool)
    → is_taken_down z (t.repeating.world.wires k).client_end d.frame (t.repeating.world.wires k).client_end.stage ≡ b
    → Decides z t (Give k false place)
down_taken z t k place d it heard true e =
    down_searched z t k place d it heard e (among (down_entry t k (t.repeating.world.wires k).client_end d.frame) t.signed)
down_taken z t k place d it heard false e = inr (not_taken z t k place d it e)

down_heard : (z : WorldSettings) (t : Watched) (k place : ℕ) (d : DownFrame) → slice_get t.repeating.downs place ≡ Some d → (b : Bool)
    → is_heard t.repeating.world k ≡ b → Decides z t (Give k false place)
down_heard z t k place d it true e = down_taken z t k place d it e _ refl
down_heard z t k place d it false e = inr (not_heard z t k place e)

down_put : (z : WorldSettings) (t : Watched) (k place : ℕ) (o : Option DownFrame) → slice_get t.repeating.downs place ≡ o
    → Decides z t (Give k false place)
down_put z t k place (Some d) e = down_heard z t k place d e (is_heard t.repeating.world k) refl
down_put z t k place None e = inr (none_told z t k place e)

-- ---- each event, and each run

nothing_taken : (z : WorldSettings) (t : Watched) (e : Event) → EventSigned z t (Same e)
nothing_taken z t e x h = elim h [ ]

decided : (z : WorldSettings) (t : Watched) (e : RepeatEvent) → Decides z t e
decided z t (Same e) = inr (nothing_taken z t e)
decided z t (Give k true place) = up_put z t k place (slice_get t.repeating.ups place) refl
decided z t (Give k false place) = down_put z t k place (slice_get t.repeating.downs place) refl

with_event : (z : WorldSettings) (e : RepeatEvent) (es : List RepeatEvent) (t : Watched) → Decides z t e
    → HasForged z es (watched_happens z t e) ⊎ AllSigned z es (watched_happens z t e) → HasForged z (e ∷ es) t ⊎ AllSigned z (e ∷ es) t
with_event z e es t (inl h) rest = inl (Forges e es t h.0 h.1 h.2)
with_event z e es t (inr h) (inl r) = inl (Later e es t r)
with_event z e es t (inr h) (inr r) = inr (h, r)

pub forged_or_signed : ForgedOrSigned
forged_or_signed z [] t = inr tt
forged_or_signed z (e ∷ es) t = with_event z e es t (decided z t e) (forged_or_signed z es (watched_happens z t e))

pub forged_apart : ForgedApart
forged_apart z [] t h all = elim h [ ]
forged_apart z (e ∷ es) t (Forges _ _ _ x takes off) all = off (all.0 x takes)
forged_apart z (e ∷ es) t (Later _ _ _ h) all = forged_apart z es (watched_happens z t e) h all.1

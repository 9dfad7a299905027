-- The replies of a frame, one message after the other.
use Rattle.std.proofs.Common.{◌≡◌, ℕ, zero, suc, ◌+◌, Bool, true, false, if◌then◌else◌, List, [], ◌∷◌, length, drop}
use Rattle.std.proofs.Common.{Option, Some, None, refl, sym, ap, subst, ◌∙◌, arith}
use Rattle.std.specs.Prelude.{slice_get, option_copied}
use Rattle.std.proofs.lemmas.List.{drop-drop}
use Rattle.spec_crypto.specs.sessions.Nonces.{NonceState}
use Rattle.spec_wire.specs.credits.Window.{HeldIds}
use Rattle.spec_world.specs.Settings.{ServerSettings}
use Rattle.spec_world.specs.Ends.{ServerEnd}
use Rattle.spec_world.specs.Hearing as hearing
use Rattle.spec_world.specs.Answering as answering
use Rattle.spec_world.specs.Connection.{last_status}
use Rattle.conn_core.specs.declared.conn.Conn.{Conn}
use Rattle.conn_core.specs.declared.conn.Logon.{Logon}
use Rattle.conn_core.specs.declared.frame_messages.checked.Checked.{Checked}
use Rattle.conn_core.specs.frame_messages.Checking.{ShowsGoing}
use Rattle.conn_core.specs.declared.reply_sealing.said.Said.{Said}
use Rattle.conn_core.specs.reply_sealing.Saying.{IsReplySaid}
use Rattle.conn_core.specs.declared.message_replies.saying.Answers.{Answers}
use Rattle.conn_core.specs.message_replies.Replying.{AreMessagesSaid, AreSound, HelloFor, IsShown, IsSound, SaysNext}
use Rattle.conn_core.specs.message_replies.Replying.{ShowsTaken, has_message_event}
use Rattle.conn_core.specs.declared.reply_frames.adding.Joining.{Joining}
use Rattle.conn_core.specs.declared.reply_frames.adding.Walk.{Walk}
use Rattle.conn_core.specs.reply_frames.Adding.{IsReply}
use Rattle.conn_core.specs.reply_frames.Joined.{AnswerJoins, with_waiting}
use Rattle.conn_core.specs.reply_frames.Walking.{HelloEach, Walks, place_behind}

-- ---- lists

front_of : {X : Type 0} (xs : List X) (at : ℕ) (x : X) → slice_get xs at ≡ Some x → (rest : List X) × (drop at xs ≡ x ∷ rest)
front_of [] at x e = absurd (cc)
front_of {X} (y ∷ ys) zero x e = (ys, (let same : y ≡ x = cc in ap (λ (v : X). v ∷ ys) same))
front_of (y ∷ ys) (suc at) x e = front_of ys at x e

pub get_of : {X : Type 0} (xs : List X) (at : ℕ) (x : X) → slice_get xs at ≡ Some x → drop at xs ≡ x ∷ drop (at + 1) xs
get_of {X} xs at x e =
    let front = front_of xs at x e in
    let rest : drop (at + 1) xs ≡ front.0 = sym (drop-drop 1 at xs) ∙ ap (λ (l : List X). drop 1 l) front.1 in
    front.1 ∙ ap (λ (l : List X). x ∷ l) (sym rest)

pub none_left : {X : Type 0} (xs : List X) → drop (length xs) xs ≡ []
none_left [] = refl
none_left (x ∷ xs) = none_left xs

-- ---- the message at a place

pub record Opens (z : ServerSettings) (f : ServerEnd) (all_rest : List answering.SaidReply) (w : HeldIds) (answers : Answers) (at : ℕ)
    (conn : Conn) (walk : Walk) (m : Checked) : Type 0 where
  pub c : hearing.Checked
  pub left : List hearing.Checked
  pub going : ShowsGoing answers.asked.now.bytes.items m c
  pub hello : HelloFor z.guid f.salt answers.asked.now.moment c (option_copied answers.hello)
  pub shows : ShowsTaken answers.asked.now.bytes.items (drop (at + 1) answers.asked.now.messages.items) left
  pub hellos : HelloEach z.guid f.salt answers.asked.now.moment left (option_copied answers.hello)
  pub said : AreMessagesSaid z answers.asked.now.moment f (m ∷ drop (at + 1) answers.asked.now.messages.items) (c ∷ left)
      (drop walk.place answers.replies.now.items.items) conn.window all_rest w

opens_by : (z : ServerSettings) (f : ServerEnd) (rest : List answering.SaidReply) (w : HeldIds) (answers : Answers) (at : ℕ) (conn : Conn)
    (walk : Walk) (m : Checked) (left : List hearing.Checked)
    → ShowsTaken answers.asked.now.bytes.items (m ∷ drop (at + 1) answers.asked.now.messages.items) left
    → HelloEach z.guid f.salt answers.asked.now.moment left (option_copied answers.hello)
    → AreMessagesSaid z answers.asked.now.moment f (m ∷ drop (at + 1) answers.asked.now.messages.items) left
    (drop walk.place answers.replies.now.items.items) conn.window rest w
    → Opens z f rest w answers at conn walk m
unfolding HelloEach
opens_by z f rest w answers at conn walk m (c ∷ cs) shows hellos said = record {
  c = c;
  left = cs;
  going = shows.0;
  hello = hellos.0;
  shows = shows.1;
  hellos = hellos.1;
  said = said;
}
opens_by z f rest w answers at conn walk m [] shows hellos said = absurd shows

pub opens : (z : ServerSettings) (first counted : NonceState) (f g : ServerEnd) (all : List answering.SaidReply) (w : HeldIds)
    (answers : Answers) (at : ℕ) (conn : Conn) (joining : Joining) (walk : Walk) (m : Checked)
    → (s : Walks z first counted f g all w answers at conn joining walk)
    → slice_get answers.asked.now.messages.items at ≡ Some m → Opens z f s.rest w answers at conn walk m
opens z first counted f g all w answers at conn joining walk m s e =
    let is : drop at answers.asked.now.messages.items ≡ m ∷ drop (at + 1) answers.asked.now.messages.items =
    get_of answers.asked.now.messages.items at m e in
    opens_by z f s.rest w answers at conn walk m s.left
    (subst (λ (ms : List Checked). ShowsTaken answers.asked.now.bytes.items ms s.left) is s.shows) s.hellos
    (subst (λ (ms : List Checked). AreMessagesSaid z answers.asked.now.moment f ms s.left (drop walk.place answers.replies.now.items.items)
    conn.window s.rest w) is s.said)

pub shown_by : (answers : Answers) (m : Checked) (c : hearing.Checked) → ShowsGoing answers.asked.now.bytes.items m c
    → IsShown answers.asked.now m c
shown_by answers m c going = record {
  like = record { header = going.header; related = going.related; fault = going.fault };
  bytes = going.bytes_are;
}

pub place_is : (ms : List Checked) (at place behind : ℕ) (m : Checked) → slice_get ms at ≡ Some m
    → behind ≡ place_behind (slice_get ms at) place → place + (if has_message_event m then 1 else 0) ≡ behind
place_is ms at place behind m e is = sym (is ∙ ap (λ (o : Option Checked). place_behind o place) e)

pub place_then : (o : Option Checked) (m : Checked) (b : Bool) (place : ℕ) → o ≡ Some m → b ≡ has_message_event m → b ≡ true
    → place + 1 ≡ place_behind o place
place_then o m b place e h t =
    ap (λ (x : Bool). place + (if x then 1 else 0)) (sym t ∙ h) ∙ sym (ap (λ (x : Option Checked). place_behind x place) e)

pub place_else : (o : Option Checked) (m : Checked) (b : Bool) (place : ℕ) → o ≡ Some m → b ≡ has_message_event m → b ≡ false
    → place ≡ place_behind o place
place_else o m b place e h f =
    let none : place ≡ place + 0 = omega arith in
    none ∙ (ap (λ (x : Bool). place + (if x then 1 else 0)) (sym f ∙ h) ∙ sym (ap (λ (x : Option Checked). place_behind x place) e))

-- ---- the waiting reply and those behind it

sound_behind : (waits : Option answering.SaidReply) (s : answering.SaidReply) (rest : List answering.SaidReply)
    → AreSound (with_waiting waits (s ∷ rest))
    → AreSound (s ∷ rest)
unfolding AreSound
sound_behind None s rest h = h
sound_behind (Some r) s rest h = h.1

sound_first : (s : answering.SaidReply) (rest : List answering.SaidReply) → AreSound (s ∷ rest) → IsSound s
unfolding AreSound
sound_first s rest h = h.0

last_behind : (waits : Option answering.SaidReply) (s : answering.SaidReply) (rest : List answering.SaidReply)
    → last_status (with_waiting waits (s ∷ rest)) ≡ last_status (s ∷ rest)
unfolding last_status
last_behind None s rest = refl
last_behind (Some r) s rest = refl

-- a CANCEL has no reply
pub walks_past : (z : ServerSettings) (first counted : NonceState) (f g : ServerEnd) (all : List answering.SaidReply) (w : HeldIds)
    (answers : Answers) (at : ℕ) (old new : Conn) (joining : Joining) (walk : Walk) (place : ℕ) (m : Checked)
    → (s : Walks z first counted f g all w answers at old joining walk) → (o : Opens z f s.rest w answers at old walk m)
    → new.logon ≡ old.logon → new.nonces ≡ old.nonces → walk.place + (if has_message_event m then 1 else 0) ≡ place
    → SaysNext z answers.asked.now.moment f o.c (drop (at + 1) answers.asked.now.messages.items) o.left
    (drop (walk.place + (if has_message_event m then 1 else 0)) answers.replies.now.items.items) new s.rest w at None
    → Walks z first counted f g all w answers (at + 1) new joining (record { place = place; waiting = walk.waiting })
walks_past z first counted f g all w answers at old new joining walk place m s o logon nonces is said = record {
  left = o.left;
  rest = s.rest;
  waits = s.waits;
  shows = o.shows;
  hellos = o.hellos;
  said = subst (λ (n : ℕ). AreMessagesSaid z answers.asked.now.moment f (drop (at + 1) answers.asked.now.messages.items) o.left
      (drop n answers.replies.now.items.items) new.window s.rest w) is said;
  sound = s.sound;
  waits_is = s.waits_is;
  keys = s.keys ∙ ap (λ (l : Logon). l.keys) (sym logon);
  joins = subst (λ (n : NonceState). AnswerJoins f.keys first counted answers.asked.now.sealed g all joining.frames n
      joining.behind s.waits s.rest)
      (sym nonces) s.joins;
  last = s.last;
}

-- any other message has one, which waits now
pub reply_is : (z : ServerSettings) (f : ServerEnd) (answers : Answers) (at : ℕ) (m : Checked) (said : Said) (s : answering.SaidReply)
    (c : hearing.Checked) → slice_get answers.asked.now.messages.items at ≡ Some m → ShowsGoing answers.asked.now.bytes.items m c
    → HelloFor z.guid f.salt answers.asked.now.moment c (option_copied answers.hello) → IsReplySaid said s → s.request
    ≡ c → said.at ≡ at → IsSound s
    → IsReply z.guid f.salt answers m said s
reply_is z f answers at m said s c e going hello is request place sound = record {
  said_is = is;
  sound = sound;
  message = ap (λ (n : ℕ). slice_get answers.asked.now.messages.items n) place ∙ e;
  going = subst (λ (x : hearing.Checked). ShowsGoing answers.asked.now.bytes.items m x) (sym request) going;
  hello = subst (λ (x : hearing.Checked). HelloFor z.guid f.salt answers.asked.now.moment x
      (option_copied answers.hello)) (sym request) hello;
}

pub walks_on : (z : ServerSettings) (first counted : NonceState) (f g : ServerEnd) (all : List answering.SaidReply) (w : HeldIds)
    (answers : Answers) (at : ℕ) (old new : Conn) (x y : Joining) (walk : Walk) (place : ℕ) (m : Checked) (said : Said) (window : HeldIds)
    (ss : answering.SaidReply) (rest : List answering.SaidReply)
    → (s : Walks z first counted f g all w answers at old x walk) → (o : Opens z f s.rest w answers at old walk m)
    → slice_get answers.asked.now.messages.items at ≡ Some m
    → new.logon ≡ old.logon → walk.place + (if has_message_event m then 1 else 0) ≡ place
    → s.rest ≡ ss ∷ rest → IsReplySaid said ss → ss.request ≡ o.c → said.at ≡ at
    → AreMessagesSaid z answers.asked.now.moment f (drop (at + 1) answers.asked.now.messages.items) o.left
    (drop (walk.place + (if has_message_event m then 1 else 0)) answers.replies.now.items.items) window rest w
    → new.window ≡ window
    → AnswerJoins f.keys first counted answers.asked.now.sealed g all y.frames new.nonces y.behind (Some ss) rest
    → Walks z first counted f g all w answers (at + 1) new y (record { place = place; waiting = Some said })
walks_on z first counted f g all w answers at old new x y walk place m said window ss rest s o e logon is next said_is request at_is later
    win joins =
    let sound : AreSound (ss ∷ rest) =
    sound_behind s.waits ss rest (subst (λ (rs : List answering.SaidReply). AreSound (with_waiting s.waits rs)) next s.sound) in
    record {
      left = o.left;
      rest = rest;
      waits = Some ss;
      shows = o.shows;
      hellos = o.hellos;
      said = subst (λ (n : ℕ). AreMessagesSaid z answers.asked.now.moment f (drop (at + 1) answers.asked.now.messages.items) o.left
          (drop n answers.replies.now.items.items) new.window rest w) is
          (subst (λ (u : HeldIds). AreMessagesSaid z answers.asked.now.moment f (drop (at + 1) answers.asked.now.messages.items) o.left
          (drop (walk.place + (if has_message_event m then 1 else 0)) answers.replies.now.items.items) u rest w) (sym win) later);
      sound = sound;
      waits_is = (m, reply_is z f answers at m said ss o.c e o.going o.hello said_is request at_is (sound_first ss rest sound));
      keys = s.keys ∙ ap (λ (l : Logon). l.keys) (sym logon);
      joins = joins;
      last = s.last ∙ (ap (λ (rs : List answering.SaidReply). last_status (with_waiting s.waits rs)) next ∙ last_behind s.waits ss rest);
    }

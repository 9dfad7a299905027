-- All replies are in frames: what is answered, and the connection behind it.
use Rattle.std.proofs.Common.{◌≡◌, ℕ, suc, ◌+◌, ◌≤◌, nat_le, Bool, true, false, not, ◌&&◌, if◌then◌else◌, List, [], ◌∷◌, ◌++◌}
use Rattle.std.proofs.Common.{length, Option, Some, None, Result, Ok, Err, refl, sym, ap, subst, ◌∙◌, arith}
use Rattle.std.specs.Prelude.{is_some, option_copied}
use Rattle.std.proofs.lemmas.List.{append-nil}
use Rattle.std.proofs.lemmas.Bool.Decides.{nat_tests}
use Rattle.spec_exchange.specs.State as model
use Rattle.spec_crypto.specs.declared.sessions.material.Keys.{Keys}
use Rattle.spec_crypto.specs.sessions.Nonces.{NonceState, last_counter}
use Rattle.spec_wire.specs.credits.Window.{HeldIds}
use Rattle.spec_world.specs.Settings.{ServerSettings}
use Rattle.spec_world.specs.Ends as ends
use Rattle.spec_world.specs.Ends.{Logons, ServerEnd}
use Rattle.spec_world.specs.Hearing as hearing
use Rattle.spec_world.specs.Answering as answering
use Rattle.spec_world.specs.Answering.{SaidReply, concatenated, each_joined, frames_by, has_nonces, sealed_each, told_each}
use Rattle.spec_world.specs.Connection.{ConnectionStep, Going, answered_in, answered_with, ended_by, last_status}
use Rattle.conn_core.specs.declared.conn.Conn.{Conn}
use Rattle.conn_core.specs.declared.conn.Logon.{Logon}
use Rattle.conn_core.specs.declared.end.ConnEnd.{ConnEnd}
use Rattle.conn_core.specs.declared.end.ConnEnd.TheVariants.{BadFrame, OutsideWindow, SecondNegotiate, Unsealable}
use Rattle.conn_core.specs.declared.end.ConnEnd.TheVariants.{Spent, Full, LinkFault, Stopped, Memory}
use Rattle.conn_core.specs.Shown.{ShowsEnd}
use Rattle.conn_core.specs.declared.reply_sealing.frames.Frames.{Frames}
use Rattle.conn_core.specs.reply_sealing.Saying.{all_framed}
use Rattle.conn_core.specs.reply_sealing.Joining.{frames_of, nonces_behind, open_part, reply_rows}
use Rattle.law_ties.proofs.wire_facts.Ciphers.{short}
use Rattle.conn_core.proofs.reply_sealing.Gathering.{rows_are}
use Rattle.conn_core.specs.declared.message_replies.saying.Answers.{Answers}
use Rattle.conn_core.specs.message_replies.Replying.{AreMessagesSaid, HelloOf}
use Rattle.conn_core.specs.declared.logon_state.behind.Behind.{Behind}
use Rattle.conn_core.specs.logon_state.Behind.{NoncesBehind, ShowsBehind, ShowsLogon}
use Rattle.conn_core.specs.declared.reply_frames.adding.Joining.{Joining}
use Rattle.conn_core.specs.declared.reply_frames.answering.Answered.{Answered}
use Rattle.conn_core.specs.reply_frames.Joined.{AreAtMost, AnswerJoins, end_behind, texts_left}
use Rattle.conn_core.specs.reply_frames.Replying.{AnswersWith, AreAnswers, EndsAs, WalkGoes, WalkReplies, walk_replied}
use Rattle.conn_core.specs.reply_frames.Walking.{AddsBy, IsAlike, IsWalkDue, LacksNonce}
use Rattle.conn_core.proofs.reply_frames.Heard.{all_ask, heard_all}

-- ---- the frames that are due, the nonces behind them, and the end before the replies, of which they are counted

abbrev pub rows_due : Bool → List SaidReply → List (List (List ℕ))
rows_due sealed ss = reply_rows sealed [] 0 ss

abbrev pub counted_by : Bool → NonceState → List SaidReply → NonceState
counted_by sealed first ss = nonces_behind sealed first (length (each_joined (rows_due sealed ss)))

abbrev pub end_counted : Bool → ServerEnd → List SaidReply → HeldIds → ServerEnd
end_counted sealed f ss w = record f {
  window = w;
  counter = if sealed then f.counter + length (each_joined (rows_due sealed ss)) else f.counter;
}

counted_end : (sealed : Bool) (first : NonceState) (f : ServerEnd) (ss : List SaidReply) (w : HeldIds) → f.channel ≡ first.channel
    → f.counter ≡ first.counter → NoncesBehind (counted_by sealed first ss) None (end_counted sealed f ss w)
counted_end true first f ss w c n = (c, ap (λ (k : ℕ). k + length (each_joined (rows_due true ss))) n)
counted_end false first f ss w c n = (c, n)

pub due_of : (z : ServerSettings) (f : ServerEnd) (cs : List hearing.Checked) (ss : List SaidReply) (w : HeldIds) (answers : Answers)
    (conn : Conn) (j : Joining) → ShowsEnd conn.id z.guid conn f
    → AreAnswers z f cs ss w answers.asked.now answers.replies.now.items.items
    → HelloOf z.guid f.salt answers.asked.now.moment cs (option_copied answers.hello) → j.behind ≡ record {
      logon = conn.logon;
      channel = None;
    }
    → IsWalkDue z (counted_by answers.asked.now.sealed conn.nonces ss) f (end_counted answers.asked.now.sealed f ss w)
    cs ss w answers conn j
due_of z f cs ss w answers conn j shows a hello is =
    let sealed : Bool = answers.asked.now.sealed in
    let counted : NonceState = counted_by sealed conn.nonces ss in
    let g : ServerEnd = end_counted sealed f ss w in
    let logon : ShowsLogon conn.logon g = record {
      greeting = shows.greeting;
      making = shows.making;
      keys = shows.keys;
      known = shows.known;
      encrypts = shows.encrypts;
    } in
    let behind : ShowsBehind counted (record { logon = conn.logon; channel = None }) g =
    record { logon = logon; nonces_are = counted_end sealed conn.nonces f ss w shows.channel shows.counter } in
    record {
      shows = a.shows;
      rightly = a.rightly;
      greets = a.greets;
      hello = hello;
      said = subst (λ (u : HeldIds). AreMessagesSaid z answers.asked.now.moment f answers.asked.now.messages.items cs
          answers.replies.now.items.items u ss w) shows.window a.said;
      keys = shows.keys;
      salt = refl;
      behind_is = subst (λ (b : Behind). ShowsBehind counted b g) (sym is) behind;
      bound = subst (λ (n : ℕ). n ≤ last_counter) shows.counter a.bound;
    }

-- ---- the step

abbrev going_of : model.Server → Logons → HeldIds → List SaidReply → Going
going_of s L w ss = record { server = s; logons = L; window = w; carried = None; taken = None; replies = ss }

step_is : (s : model.Server) (L : Logons) (f : ServerEnd) (sealed : Bool) (w : HeldIds) (ss : List SaidReply)
    → walk_replied s L f sealed w ss ≡ answered_in f sealed (going_of s L w ss) (rows_due sealed ss)
step_is s L f sealed w ss = ap (λ (r : List (List (List ℕ))). answered_in f sealed (going_of s L w ss) r) (rows_are sealed ss)

picked : (b : Bool) (x y : ConnectionStep) → b ≡ true → (if b then x else y) ≡ x
picked true x y e = refl
picked false x y e = absurd (cc)

passed : (b : Bool) (x y : ConnectionStep) → b ≡ false → (if b then x else y) ≡ y
passed true x y e = absurd (cc)
passed false x y e = refl

lacks : (s n : Bool) → s ≡ true → n ≡ false → (s && not n) ≡ true
lacks true false e h = refl
lacks true true e h = absurd (cc)
lacks false n e h = absurd (cc)

suffices : (s n : Bool) → (s ≡ true → n ≡ true) → (s && not n) ≡ false
suffices true true h = refl
suffices true false h = (let e = h refl in absurd (cc))
suffices false n h = refl

spent : (s : model.Server) (L : Logons) (f : ServerEnd) (sealed : Bool) (w : HeldIds) (ss : List SaidReply) (first : NonceState)
    → f.counter ≡ first.counter → LacksNonce first sealed ss → EndsAs Spent (walk_replied s L f sealed w ss).ends
spent s L f sealed w ss first counter h =
    let rs : List (List (List ℕ)) = rows_due sealed ss in
    let none : has_nonces f (length rs) ≡ false = ap (λ (n : ℕ). nat_le (n + length rs) last_counter) counter ∙ h.1 in
    let is : walk_replied s L f sealed w ss ≡ ended_by s L f None ends.Spent =
    step_is s L f sealed w ss
    ∙ picked (sealed && not (has_nonces f (length rs))) (ended_by s L f None ends.Spent)
    (answered_with f sealed (going_of s L w ss) rs (each_joined rs)) (lacks sealed (has_nonces f (length rs)) h.0 none) in
    subst (λ (x : ConnectionStep). EndsAs Spent x.ends) (sym is) refl

within : (n most : ℕ) → n ≤ most → nat_le n most ≡ true
within n most few = grind (arith, nat_tests)

most_of : (n most : ℕ) → nat_le n most ≡ true → n ≤ most
most_of n most e = grind (arith, nat_tests)

row_none : (sealed : Bool) (front : List (List ℕ)) (size : ℕ) → reply_rows sealed front size [] ≡ []
unfolding reply_rows
row_none sealed front size = refl

frames_same : (sealed : Bool) (keys : Option Keys) (first : NonceState) (f : ServerEnd) (texts : List (List ℕ)) → f.channel ≡ first.channel
    → f.counter ≡ first.counter → frames_of sealed keys first texts ≡ (if sealed then frames_by keys f texts else texts)
frames_same false keys first f texts c n = refl
frames_same true None first f texts c n = refl
frames_same true (Some k) first f texts c n =
    ap (λ (m : ℕ). sealed_each k m first.counter texts) (sym c) ∙ ap (λ (m : ℕ). sealed_each k f.channel m texts) (sym n)

none_told : (sealed : Bool) (f : ServerEnd) (texts : List (List ℕ)) → end_behind sealed f [] texts ≡ f
unfolding told_each
none_told sealed f texts = refl

each_length : (xs : List (List (List ℕ))) → length (each_joined xs) ≡ length xs
unfolding each_joined
each_length [] = refl
each_length (x ∷ xs) = ap suc (each_length xs)

-- what is kept where all are joined
pub record Joined (f : ServerEnd) (sealed : Bool) (ss : List SaidReply) (w : HeldIds) (first : NonceState) (frames : Frames)
    (nonces : NonceState)
    (behind : Behind) : Type 0 where
  pub enough : sealed ≡ true → nat_le (f.counter + length (rows_due sealed ss)) last_counter ≡ true
  pub out : frames.out.items ≡ all_framed (if sealed then frames_by f.keys f (each_joined (rows_due sealed ss)) else
      each_joined (rows_due sealed ss))
  pub short : AreAtMost (answering.text_limit sealed) (each_joined (rows_due sealed ss))
  pub nonces_are : nonces ≡ counted_by sealed first ss
  pub server_end : ServerEnd
  pub is_end : end_behind sealed (end_counted sealed f ss w) ss (concatenated (rows_due sealed ss)) ≡ server_end
  pub salt : server_end.salt ≡ f.salt
  pub window : server_end.window ≡ w
  pub asked : server_end.asked ≡ f.asked
  pub shows : ShowsBehind nonces behind server_end

open_none : (s : Bool) (front : List (List ℕ)) (xs : List ℕ) → front ≡ [] → xs ++ open_part s front ≡ xs
open_none s front xs e = ap (λ (ts : List (List ℕ)). xs ++ open_part s ts) e ∙ append-nil xs

pub joined : (f : ServerEnd) (sealed : Bool) (ss : List SaidReply) (w : HeldIds) (first : NonceState) (frames : Frames)
    (nonces : NonceState)
    (behind : Behind) → f.channel ≡ first.channel → f.counter ≡ first.counter
    → AnswerJoins f.keys first (counted_by sealed first ss) sealed (end_counted sealed f ss w) ss frames nonces behind None []
    → Joined f sealed ss w first frames nonces behind
joined f sealed ss w first frames nonces behind channel counter j =
    let rs : List (List (List ℕ)) = rows_due sealed ss in
    let same : rs ≡ j.before =
    j.rows_are
    ∙ (ap (λ (xs : List (List (List ℕ))). j.before ++ xs) (row_none sealed j.front (length (concatenated j.front)))
    ∙ append-nil j.before) in
    let texts : List (List ℕ) = each_joined rs in
    let nonces_are : nonces ≡ counted_by sealed first ss =
    j.written.nonces_are
    ∙ (ap (λ (b : Bool). nonces_behind b first (length (each_joined j.before))) j.sealed_is
    ∙ ap (λ (xs : List (List (List ℕ))). nonces_behind sealed first (length (each_joined xs))) (sym same)) in
    record {
      enough = λ s. (
          within (f.counter + length rs) last_counter
          (subst (λ (n : ℕ). n + length rs ≤ last_counter) (sym counter)
          (subst (λ (xs : List (List (List ℕ))). first.counter + length xs ≤ last_counter) (sym same) (j.counts s)))
          );
      out = j.written.out
          ∙ (open_none frames.sealed j.front (all_framed (frames_of frames.sealed f.keys first (each_joined j.before))) j.idle
          ∙ (ap (λ (b : Bool). all_framed (frames_of b f.keys first (each_joined j.before))) j.sealed_is
          ∙ (ap (λ (xs : List (List (List ℕ))). all_framed (frames_of sealed f.keys first (each_joined xs))) (sym same)
          ∙ ap all_framed (frames_same sealed f.keys first f texts channel counter))));
      short = subst (λ (xs : List (List (List ℕ))). AreAtMost (answering.text_limit sealed) (each_joined xs)) (sym same) j.short;
      nonces_are = nonces_are;
      server_end = j.server_end;
      is_end = j.told ∙ none_told sealed j.server_end (texts_left sealed j.front []);
      salt = j.same.salt;
      window = j.same.window;
      asked = j.same.asked;
      shows = subst (λ (n : NonceState). ShowsBehind n behind j.server_end) (sym nonces_are) j.shows;
    }

-- sealed ones have 52 bytes more
sealed_short : (k : Keys) (channel counter : ℕ) (texts : List (List ℕ)) → AreAtMost 1114060 texts
    → AreAtMost 1114112 (sealed_each k channel counter texts)
unfolding AreAtMost sealed_each
sealed_short k channel counter [] h = tt
sealed_short k channel counter (t ∷ ts) h = (short k false channel counter t h.0, sealed_short k channel (counter + 1) ts h.1)

none_short : AreAtMost 1114112 []
unfolding AreAtMost
none_short = tt

frames_short : (sealed : Bool) (keys : Option Keys) (f : ServerEnd) (texts : List (List ℕ)) → AreAtMost (answering.text_limit sealed) texts
    → AreAtMost 1114112 (if sealed then frames_by keys f texts else texts)
frames_short false keys f texts h = h
frames_short true None f texts h = none_short
frames_short true (Some k) f texts h = sealed_short k f.channel f.counter texts h

-- the counter of the end behind all
few_by : (nonces : NonceState) (channel : Option ℕ) (e : ServerEnd) → NoncesBehind nonces channel e → nonces.counter ≤ last_counter
    → e.counter ≤ last_counter
few_by nonces None e h few = subst (λ (n : ℕ). n ≤ last_counter) (sym h.1) few
few_by nonces (Some channel) e h few = subst (λ (n : ℕ). n ≤ last_counter) (sym h.1) (omega arith)

few_nonces : (sealed : Bool) (first : NonceState) (ss : List SaidReply) (f : ServerEnd) → f.counter ≡ first.counter
    → f.counter ≤ last_counter
    → (sealed ≡ true → nat_le (f.counter + length (rows_due sealed ss)) last_counter ≡ true)
    → (counted_by sealed first ss).counter ≤ last_counter
few_nonces false first ss f e few h = subst (λ (n : ℕ). n ≤ last_counter) e few
few_nonces true first ss f e few h =
    let most = most_of (f.counter + length (rows_due true ss)) last_counter (h refl) in
    let long = each_length (rows_due true ss) in
    omega (arith, most, long, e)

-- the connection in code behind it
pub record GoesOn (old new : Conn) (nonces : NonceState) (behind : Behind) (w : HeldIds) : Type 0 where
  pub id : new.id ≡ old.id
  pub guid : new.guid ≡ old.guid
  pub salt : new.salt ≡ old.salt
  pub window : new.window ≡ w
  pub asked : new.asked ≡ old.asked
  pub logon : new.logon ≡ behind.logon
  pub nonces_are : (f : ServerEnd) → NoncesBehind nonces behind.channel f
      → (f.channel ≡ new.nonces.channel) × (f.counter ≡ new.nonces.counter)

shows_end : (guid : List ℕ) (f e : ServerEnd) (w : HeldIds) (old new : Conn) (nonces : NonceState) (behind : Behind)
    → ShowsEnd old.id guid old f → GoesOn old new nonces behind w → ShowsBehind nonces behind e → e.salt ≡ f.salt → e.window ≡ w
    → e.asked ≡ f.asked → (is_some e.greeting ≡ true → e.asked ≡ true) → ShowsEnd old.id guid new e
shows_end guid f e w old new nonces behind shows goes b salt window asked heard =
    let nonces_of = goes.nonces_are e b.nonces_are in
    let logon : ShowsLogon new.logon e = subst (λ (l : Logon). ShowsLogon l e) (sym goes.logon) b.logon in
    record {
      number = goes.id;
      server = goes.guid ∙ shows.server;
      salt = salt ∙ (shows.salt ∙ sym goes.salt);
      window = window ∙ sym goes.window;
      asked = asked ∙ (shows.asked ∙ sym goes.asked);
      heard = heard;
      greeting = logon.greeting;
      making = logon.making;
      keys = logon.keys;
      known = logon.known;
      encrypts = logon.encrypts;
      channel = nonces_of.0;
      counter = nonces_of.1;
    }

pub goes_by : (z : ServerSettings) (s : model.Server) (L : Logons) (f : ServerEnd) (cs : List hearing.Checked)
    (ss : List SaidReply) (w : HeldIds)
    (answers : Answers) (old new : Conn) (frames : Frames) (nonces : NonceState) (behind : Behind)
    → ShowsEnd old.id z.guid old f → AreAnswers z f cs ss w answers.asked.now answers.replies.now.items.items
    → Joined f answers.asked.now.sealed ss w old.nonces frames nonces behind → GoesOn old new nonces behind w
    → WalkGoes old.id z.guid (walk_replied s L f answers.asked.now.sealed w ss) frames.out.items new
goes_by z s L f cs ss w answers old new frames nonces behind shows a j goes =
    let sealed : Bool = answers.asked.now.sealed in
    let rs : List (List (List ℕ)) = rows_due sealed ss in
    let on : ConnectionStep = answered_with f sealed (going_of s L w ss) rs (each_joined rs) in
    let is : walk_replied s L f sealed w ss ≡ on =
    step_is s L f sealed w ss
    ∙ passed (sealed && not (has_nonces f (length rs))) (ended_by s L f None ends.Spent) on
    (suffices sealed (has_nonces f (length rs)) j.enough) in
    let g : ServerEnd = end_counted sealed f ss w in
    let heard : is_some j.server_end.greeting ≡ true → j.server_end.asked ≡ true =
    subst (λ (e : ServerEnd). is_some e.greeting ≡ true → e.asked ≡ true) j.is_end
    (heard_all sealed g ss (concatenated rs)
    (all_ask f.asked z answers.asked.now.moment f answers.asked.now.messages.items cs answers.replies.now.items.items
    f.window ss w a.heard a.said)
    shows.heard) in
    let behind_is : ShowsEnd old.id z.guid new j.server_end =
    shows_end z.guid f j.server_end w old new nonces behind shows goes j.shows j.salt j.window j.asked heard in
    let few : nonces.counter ≤ last_counter =
    subst (λ (n : NonceState). n.counter ≤ last_counter) (sym j.nonces_are)
    (few_nonces sealed old.nonces ss f shows.counter a.bound j.enough) in
    let bound : j.server_end.counter ≤ last_counter = few_by nonces behind.channel j.server_end j.shows.nonces_are few in
    subst (λ (x : ConnectionStep). WalkGoes old.id z.guid x frames.out.items new) (sym is) (record {
      goes_on = refl;
      frames = j.out;
      behind = subst (λ (e : ServerEnd). ShowsEnd old.id z.guid new e) (sym j.is_end) behind_is;
      bound = subst (λ (e : ServerEnd). e.counter ≤ last_counter) (sym j.is_end) bound;
      short = frames_short sealed f.keys f (each_joined rs) j.short;
    })

pub status_by : (s : model.Server) (L : Logons) (f : ServerEnd) (sealed : Bool) (w : HeldIds) (ss : List SaidReply)
    → (sealed ≡ true → nat_le (f.counter + length (rows_due sealed ss)) last_counter ≡ true)
    → (walk_replied s L f sealed w ss).status ≡ last_status ss
status_by s L f sealed w ss enough =
    let rs : List (List (List ℕ)) = rows_due sealed ss in
    ap (λ (x : ConnectionStep). x.status)
    (step_is s L f sealed w ss
    ∙ passed (sealed && not (has_nonces f (length rs))) (ended_by s L f None ends.Spent)
    (answered_with f sealed (going_of s L w ss) rs (each_joined rs)) (suffices sealed (has_nonces f (length rs)) enough))

-- it ends in place of an answer
pub fails_by : (z : ServerSettings) (s : model.Server) (L : Logons) (f g : ServerEnd) (cs : List hearing.Checked) (ss : List SaidReply)
    (w : HeldIds) (answers : Answers) (first counted : NonceState) (x new : Conn) (j : Joining) (k : ℕ) (guid : List ℕ) (e : ConnEnd)
    → f.counter ≡ first.counter → AreAnswers z f cs ss w answers.asked.now answers.replies.now.items.items
    → AddsBy first counted answers.asked.now.sealed f g ss w x j (Err e)
    → AnswersWith k guid (walk_replied s L f answers.asked.now.sealed w ss) new (Err e)
fails_by z s L f g cs ss w answers first counted x new j k guid Memory counter a h = tt
fails_by z s L f g cs ss w answers first counted x new j k guid Spent counter a h =
    spent s L f answers.asked.now.sealed w ss first counter h
fails_by z s L f g cs ss w answers first counted x new j k guid Unsealable counter a h = absurd (h.1 (a.seals h.0))
fails_by z s L f g cs ss w answers first counted x new j k guid BadFrame counter a h = absurd h
fails_by z s L f g cs ss w answers first counted x new j k guid (OutsideWindow id) counter a h = absurd h
fails_by z s L f g cs ss w answers first counted x new j k guid SecondNegotiate counter a h = absurd h
fails_by z s L f g cs ss w answers first counted x new j k guid Full counter a h = absurd h
fails_by z s L f g cs ss w answers first counted x new j k guid (LinkFault count) counter a h = absurd h
fails_by z s L f g cs ss w answers first counted x new j k guid (Stopped count) counter a h = absurd h

-- ---- as the code comes to it

pub begins_anew : (nonces : NonceState) (channel : ℕ) (f : ServerEnd) (made : NonceState) → made ≡ record { channel = channel; counter = 0 }
    → NoncesBehind nonces (Some channel) f → (f.channel ≡ made.channel) × (f.counter ≡ made.counter)
begins_anew nonces channel f made is h = (
  h.0 ∙ sym (ap (λ (n : NonceState). n.channel) is),
  h.1 ∙ sym (ap (λ (n : NonceState). n.counter) is),
)

pub goes_of : (old mid new : Conn) (behind : Behind) (w : HeldIds) → IsAlike old mid → mid.window ≡ w
    → (new.id ≡ mid.id) × (new.guid ≡ mid.guid) × (new.salt ≡ mid.salt) × (new.window ≡ mid.window) × (new.asked ≡ mid.asked)
    × (new.logon ≡ behind.logon)
    → ((f : ServerEnd) → NoncesBehind mid.nonces behind.channel f → (f.channel ≡ new.nonces.channel) × (f.counter ≡ new.nonces.counter))
    → GoesOn old new mid.nonces behind w
goes_of old mid new behind w alike window same nonces = record {
  id = same.0 ∙ alike.id;
  guid = same.1 ∙ alike.guid;
  salt = same.2 ∙ alike.salt;
  window = same.3 ∙ window;
  asked = same.4 ∙ alike.asked;
  logon = same.5;
  nonces_are = nonces;
}

pub goes_with : (z : ServerSettings) (s : model.Server) (L : Logons) (f : ServerEnd) (cs : List hearing.Checked) (ss : List SaidReply)
    (w : HeldIds) (answers : Answers) (old new : Conn) (frames : Frames) (nonces : NonceState) (behind : Behind)
    (answered : Answered) → ShowsEnd old.id z.guid old f → AreAnswers z f cs ss w answers.asked.now answers.replies.now.items.items
    → Joined f answers.asked.now.sealed ss w old.nonces frames nonces behind → GoesOn old new nonces behind w
    → answered.bytes.items ≡ frames.out.items → answered.status ≡ last_status ss
    → AnswersWith old.id z.guid (walk_replied s L f answers.asked.now.sealed w ss) new (Ok answered)
goes_with z s L f cs ss w answers old new frames nonces behind answered shows a j goes is told = (
  subst (λ (b : List ℕ). WalkGoes old.id z.guid (walk_replied s L f answers.asked.now.sealed w ss) b new) (sym is)
      (goes_by z s L f cs ss w answers old new frames nonces behind shows a j goes),
  told ∙ sym (status_by s L f answers.asked.now.sealed w ss j.enough),
)

-- with another room to write in
pub shows_room : (k : ℕ) (guid : List ℕ) (old new : Conn) (f : ServerEnd)
    → (new.id ≡ old.id) × (new.guid ≡ old.guid) × (new.salt ≡ old.salt) × (new.window ≡ old.window) × (new.asked ≡ old.asked)
    × (new.logon ≡ old.logon) × (new.nonces ≡ old.nonces) → ShowsEnd k guid old f → ShowsEnd k guid new f
shows_room k guid old new f same shows =
    let logon : ShowsLogon new.logon f = subst (λ (l : Logon). ShowsLogon l f) (sym same.5) (record {
      greeting = shows.greeting;
      making = shows.making;
      keys = shows.keys;
      known = shows.known;
      encrypts = shows.encrypts;
    }) in
    record {
      number = same.0 ∙ shows.number;
      server = same.1 ∙ shows.server;
      salt = shows.salt ∙ sym same.2;
      window = shows.window ∙ sym same.3;
      asked = shows.asked ∙ sym same.4;
      heard = shows.heard;
      greeting = logon.greeting;
      making = logon.making;
      keys = logon.keys;
      known = logon.known;
      encrypts = logon.encrypts;
      channel = shows.channel ∙ sym (ap (λ (n : NonceState). n.channel) same.6);
      counter = shows.counter ∙ sym (ap (λ (n : NonceState). n.counter) same.6);
    }

pub answers_same : (k l : ℕ) (guid : List ℕ) (S : ConnectionStep) (new : Conn) (result : Result Answered ConnEnd) → l ≡ k
    → AnswersWith l guid S new result → AnswersWith k guid S new result
answers_same k l guid S new result e h = subst (λ (n : ℕ). AnswersWith n guid S new result) e h

pub replies_err : (k : ℕ) (guid : List ℕ) (S : ConnectionStep) (new : Conn) (e : ConnEnd) → AnswersWith k guid S new (Err e)
    → WalkReplies k guid S new (Err e)
replies_err k guid S new Memory h = tt
replies_err k guid S new Spent h = h
replies_err k guid S new Unsealable h = h
replies_err k guid S new BadFrame h = h
replies_err k guid S new (OutsideWindow id) h = h
replies_err k guid S new SecondNegotiate h = h
replies_err k guid S new Full h = h
replies_err k guid S new (LinkFault count) h = h
replies_err k guid S new (Stopped count) h = h

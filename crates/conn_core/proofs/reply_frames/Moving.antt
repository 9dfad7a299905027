-- One reply more: the frames, and the connection behind it.
use Rattle.std.proofs.Common.{◌≡◌, ℕ, suc, ◌+◌, ◌<◌, ◌≤◌, nat_le, Bool, true, false, List, [], ◌∷◌, ◌++◌, append_assoc}
use Rattle.std.proofs.Common.{length, length-append}
use Rattle.std.proofs.Common.{drop, Option, Some, None, Result, Ok, Err, refl, sym, ap, subst, ◌∙◌, arith}
use Rattle.std.proofs.lemmas.List.{drop_at}
use Rattle.std.proofs.lemmas.Bool.Decides.{nat_tests}
use Rattle.spec_crypto.specs.declared.sessions.material.Keys.{Keys}
use Rattle.spec_crypto.specs.sessions.Nonces.{NonceState, last_counter}
use Rattle.spec_world.specs.Ends.{ServerEnd}
use Rattle.spec_world.specs.Logon as logon
use Rattle.spec_world.specs.Answering as answering
use Rattle.spec_world.specs.Answering.{SaidReply, concatenated, each_joined, said_text, server_end_behind, text_limit}
use Rattle.spec_world.specs.Answering.{told_each, whole_size}
use Rattle.conn_core.specs.declared.end.ConnEnd.{ConnEnd}
use Rattle.conn_core.specs.declared.end.ConnEnd.TheVariants.{BadFrame, OutsideWindow, SecondNegotiate, Unsealable}
use Rattle.conn_core.specs.declared.end.ConnEnd.TheVariants.{Spent, Full, LinkFault, Stopped, Memory}
use Rattle.conn_core.specs.declared.frame_messages.checked.Checked.{Checked}
use Rattle.conn_core.specs.declared.reply_sealing.frames.Frames.{Frames}
use Rattle.conn_core.specs.declared.reply_sealing.said.Said as code
use Rattle.conn_core.specs.declared.message_replies.saying.Answers.{Answers}
use Rattle.conn_core.specs.reply_sealing.Joining.{IsWritten, joins_next, nonces_behind, reply_rows}
use Rattle.conn_core.proofs.reply_sealing.Placing.{concatenated_more}
use Rattle.conn_core.specs.declared.logon_state.behind.Behind.{Behind}
use Rattle.conn_core.specs.logon_state.Behind.{ShowsBehind}
use Rattle.conn_core.specs.reply_frames.Adding.{Added, AddsWith, IsReply, IsWaiting}
use Rattle.conn_core.specs.reply_frames.Joined.{AreAtMost, IsAnswerIdle, IsSameEnd, AnswerJoins, JoinsBy, end_behind}
use Rattle.conn_core.specs.reply_frames.Joined.{next_of, texts_left, with_waiting}
use Rattle.conn_core.proofs.reply_frames.Stepping.{begin_with, each_more, one_row_more, rows_behind}

-- ---- lists

abbrev size_of : List (List ℕ) → ℕ
size_of ts = length (concatenated ts)

pub size_more : (front : List (List ℕ)) (t : List ℕ) (n : ℕ) → length t ≡ n → size_of (front ++ t ∷ []) ≡ size_of front + n
size_more front t n e =
    ap (λ (l : List ℕ). length l) (concatenated_more front t) ∙ (length-append (concatenated front) t ∙ ap (λ (k : ℕ). size_of front + k) e)

length_more : {X : Type 0} (xs : List X) (x : X) → length (xs ++ x ∷ []) ≡ length xs + 1
length_more xs x = length-append xs (x ∷ [])

each_length : (xs : List (List (List ℕ))) → length (each_joined xs) ≡ length xs
unfolding each_joined
each_length [] = refl
each_length (x ∷ xs) = ap suc (each_length xs)

pub most_more : (limit : ℕ) (ts : List (List ℕ)) (t : List ℕ) → AreAtMost limit ts → length t ≤ limit → AreAtMost limit (ts ++ t ∷ [])
unfolding AreAtMost
most_more limit [] t h few = (few, tt)
most_more limit (x ∷ xs) t h few = (h.0, most_more limit xs t h.1 few)

drop_front : (front : List (List ℕ)) (t : List ℕ) (rest : List (List ℕ)) → drop (length front) ((front ++ t ∷ []) ++ rest) ≡ t ∷ rest
drop_front front t rest =
    ap (λ (l : List (List ℕ)). drop (length front) l) (append_assoc front (t ∷ []) rest) ∙ drop_at front (t ∷ rest) (length front) refl

-- ---- the connection

told_one : (sealed : Bool) (f : ServerEnd) (r : SaidReply) (rs : List SaidReply) (t : List ℕ) (ts : List (List ℕ))
    → end_behind sealed f (r ∷ rs) (t ∷ ts) ≡ end_behind sealed (server_end_behind f r t) rs ts
unfolding told_each
told_one sealed f r rs t ts = refl

moved_same : (f : ServerEnd) (r : SaidReply) (t : List ℕ) (p : logon.Progress) → IsSameEnd f (answering.server_end_moved f r t p)
moved_same f r t logon.Stays = record { salt = refl; window = refl; asked = refl }
moved_same f r t (logon.Interim binding) = record { salt = refl; window = refl; asked = refl }
moved_same f r t (logon.Final binding channel encrypts) = record { salt = refl; window = refl; asked = refl }

behind_same : (f g : ServerEnd) (r : SaidReply) (t : List ℕ) → IsSameEnd f g → IsSameEnd f (server_end_behind g r t)
behind_same f g r t same =
    let moved : IsSameEnd g (answering.server_end_moved g r t r.progress) = moved_same g r t r.progress in
    record { salt = moved.salt ∙ same.salt; window = moved.window ∙ same.window; asked = moved.asked ∙ same.asked }

-- ---- the nonces

counter_is : (sealed : Bool) (first nonces : NonceState) (n : ℕ) → sealed ≡ true → nonces ≡ nonces_behind sealed first n
    → nonces.counter ≡ first.counter + n
counter_is true first nonces n e is = ap (λ (x : NonceState). x.counter) is
counter_is false first nonces n e is = absurd (cc)

-- a reply has a row at least
some_by : (more sealed : Bool) (front : List (List ℕ)) (size : ℕ) (r : SaidReply) (rs : List SaidReply)
    → 0 < length (reply_rows sealed (front ++ said_text sealed true r ∷ []) (size + whole_size r) rs)
    → 0 < length (rows_behind more sealed front size r rs)
some_by true sealed front size r rs h = h
some_by false sealed front size r rs h = omega arith

rows_some : (sealed : Bool) (front : List (List ℕ)) (size : ℕ) (r : SaidReply) (rs : List SaidReply)
    → 0 < length (reply_rows sealed front size (r ∷ rs))
unfolding reply_rows
rows_some sealed front size r [] = omega arith
rows_some sealed front size r (n ∷ rs) =
    subst (λ (xs : List (List (List ℕ))). 0 < length xs) (sym (one_row_more sealed front size r (n ∷ rs)))
    (some_by (joins_next sealed size r (Some n)) sealed front size r (n ∷ rs)
    (rows_some sealed (front ++ said_text sealed true r ∷ []) (size + whole_size r) n rs))

not_true : (b : Bool) → (b ≡ true → ⊥) → b ≡ false
not_true true h = absurd (h refl)
not_true false h = refl

within : (n most : ℕ) → nat_le n most ≡ true → n ≤ most
within n most e = grind (arith, nat_tests)

not_within : (n most : ℕ) → most < n → nat_le n most ≡ false
not_within n most more = not_true (nat_le n most) (λ e. (let few : n ≤ most = within n most e in omega arith))

-- where no nonce is left for the next frame there are too few of them for all
spent_for : (keys : Option Keys) (first counted : NonceState) (sealed : Bool) (f : ServerEnd) (all : List SaidReply) (frames : Frames)
    (nonces : NonceState) (behind : Behind) (r : SaidReply) (rest : List SaidReply)
    → AnswerJoins keys first counted sealed f all frames nonces behind (Some r) rest → sealed ≡ true → nonces.counter ≡ last_counter
    → nat_le (first.counter + length (reply_rows sealed [] 0 all)) last_counter ≡ false
spent_for keys first counted sealed f all frames nonces behind r rest j seals spent =
    let n : ℕ = length (each_joined j.before) in
    let at : nonces.counter ≡ first.counter + n =
    counter_is sealed first nonces n seals
    (j.written.nonces_are ∙ ap (λ (b : Bool). nonces_behind b first n) j.sealed_is) in
    let long : length (reply_rows sealed [] 0 all) ≡ length j.before + length (reply_rows sealed j.front (size_of j.front) (r ∷ rest)) =
    ap (λ (xs : List (List (List ℕ))). length xs) j.rows_are ∙ length-append j.before
    (reply_rows sealed j.front (size_of j.front) (r ∷ rest)) in
    let more : 0 < length (reply_rows sealed j.front (size_of j.front) (r ∷ rest)) = rows_some sealed j.front (size_of j.front) r rest in
    let same : n ≡ length j.before = each_length j.before in
    not_within (first.counter + length (reply_rows sealed [] 0 all)) last_counter (omega (arith, at, long, more, same, spent))

-- ---- the next reply goes on in the frame

texts_on : (sealed : Bool) (front : List (List ℕ)) (r n : SaidReply) (rs : List SaidReply) → (row : List (List (List ℕ)))
    → row ≡ reply_rows sealed (front ++ said_text sealed true r ∷ []) (size_of (front ++ said_text sealed true r ∷ [])) (n ∷ rs)
    → drop (length front) (concatenated row) ≡ said_text sealed true r ∷ texts_left sealed (front ++ said_text sealed true r ∷ []) (n ∷ rs)
texts_on sealed front r n rs row is =
    let t : List ℕ = said_text sealed true r in
    let more : List (List ℕ) = front ++ t ∷ [] in
    ap (λ (xs : List (List (List ℕ))). drop (length front) (concatenated xs)) is
    ∙ (ap (λ (l : List (List ℕ)). drop (length front) l) (begin_with sealed more (size_of more) n rs)
    ∙ drop_front front t (texts_left sealed more (n ∷ rs)))

row_on : (sealed : Bool) (front : List (List ℕ)) (r n : SaidReply) (rs : List SaidReply)
    → joins_next sealed (size_of front) r (Some n) ≡ true
    → length (said_text sealed true r) ≡ whole_size r
    → reply_rows sealed front (size_of front) (r ∷ n ∷ rs)
    ≡ reply_rows sealed (front ++ said_text sealed true r ∷ []) (size_of (front ++ said_text sealed true r ∷ [])) (n ∷ rs)
row_on sealed front r n rs e long =
    one_row_more sealed front (size_of front) r (n ∷ rs)
    ∙ (ap (λ (b : Bool). rows_behind b sealed front (size_of front) r (n ∷ rs)) e
    ∙ ap (λ (k : ℕ). reply_rows sealed (front ++ said_text sealed true r ∷ []) k (n ∷ rs))
    (sym (size_more front (said_text sealed true r) (whole_size r) long)))

pub joins_on : (keys : Option Keys) (first counted : NonceState) (sealed : Bool) (f : ServerEnd) (all : List SaidReply) (x y : Frames)
    (nonces after : NonceState) (b d : Behind) (r n : SaidReply) (rest : List SaidReply)
    → (j : AnswerJoins keys first counted sealed f all x nonces b (Some r) (n ∷ rest))
    → joins_next sealed (size_of j.front) r (Some n) ≡ true
    → Added keys first counted sealed nonces (each_joined j.before) j.front j.server_end r true y after d
    → AnswerJoins keys first counted sealed f all y after d (Some n) rest
joins_on keys first counted sealed f all x y nonces after b d r n rest j e a =
    let t : List ℕ = said_text sealed true r in
    let row = row_on sealed j.front r n rest e (a.size refl) in
    record {
      before = j.before;
      front = j.front ++ t ∷ [];
      idle = tt;
      rows_are = j.rows_are ∙ ap (λ (xs : List (List (List ℕ))). j.before ++ xs) row;
      sealed_is = a.sealed_is;
      written = a.adds;
      counts = j.counts;
      short = j.short;
      server_end = server_end_behind j.server_end r t;
      same = behind_same f j.server_end r t j.same;
      shows = a.behind_is;
      told = j.told
          ∙ (ap (λ (ts : List (List ℕ)). end_behind sealed j.server_end (r ∷ n ∷ rest) ts)
          (texts_on sealed j.front r n rest (reply_rows sealed j.front (size_of j.front) (r ∷ n ∷ rest)) row)
          ∙ told_one sealed j.server_end r (n ∷ rest) t (texts_left sealed (j.front ++ t ∷ []) (n ∷ rest)));
    }

-- ---- its frame ends

idle_nil : (n : Option SaidReply) → IsAnswerIdle n []
idle_nil None = refl
idle_nil (Some r) = tt

nothing : size_of [] ≡ 0
unfolding concatenated
nothing = refl

row_off : (sealed : Bool) (front : List (List ℕ)) (r : SaidReply) (rs : List SaidReply)
    → joins_next sealed (size_of front) r (next_of rs) ≡ false
    → reply_rows sealed front (size_of front) (r ∷ rs) ≡ (front ++ said_text sealed false r ∷ []) ∷ reply_rows sealed [] (size_of []) rs
row_off sealed front r rs e =
    one_row_more sealed front (size_of front) r rs
    ∙ (ap (λ (b : Bool). rows_behind b sealed front (size_of front) r rs) e
    ∙ ap (λ (k : ℕ). (front ++ said_text sealed false r ∷ []) ∷ reply_rows sealed [] k rs) (sym nothing))

texts_off : (front : List (List ℕ)) (t : List ℕ) (row more : List (List (List ℕ))) → row ≡ (front ++ t ∷ []) ∷ more
    → drop (length front) (concatenated row) ≡ t ∷ concatenated more
unfolding concatenated
texts_off front t row more is =
    ap (λ (xs : List (List (List ℕ))). drop (length front) (concatenated xs)) is ∙ drop_front front t (concatenated more)

counts_one : (sealed : Bool) (first nonces : NonceState) (before : List (List (List ℕ))) (ts : List (List ℕ))
    → nonces ≡ nonces_behind sealed first (length (each_joined before)) → (sealed ≡ true → nonces.counter < last_counter) → sealed ≡ true
    → first.counter + length (before ++ ts ∷ []) ≤ last_counter
counts_one sealed first nonces before ts is counted seals =
    let at = counter_is sealed first nonces (length (each_joined before)) seals is in
    let few = counted seals in
    let same = each_length before in
    let more = length_more before ts in
    omega (arith, at, few, same, more)

pub joins_off : (keys : Option Keys) (first counted : NonceState) (sealed : Bool) (f : ServerEnd) (all : List SaidReply) (x y : Frames)
    (nonces after : NonceState) (b d : Behind) (r : SaidReply) (n : Option SaidReply) (rest : List SaidReply)
    → (j : AnswerJoins keys first counted sealed f all x nonces b (Some r) (with_waiting n rest))
    → joins_next sealed (size_of j.front) r (next_of (with_waiting n rest)) ≡ false
    → Added keys first counted sealed nonces (each_joined j.before) j.front j.server_end r false y after d
    → AnswerJoins keys first counted sealed f all y after d n rest
joins_off keys first counted sealed f all x y nonces after b d r n rest j e a =
    let t : List ℕ = said_text sealed false r in
    let rs : List SaidReply = with_waiting n rest in
    let whole : List (List ℕ) = j.front ++ t ∷ [] in
    let row = row_off sealed j.front r rs e in
    record {
      before = j.before ++ whole ∷ [];
      front = [];
      idle = idle_nil n;
      rows_are = j.rows_are
          ∙ (ap (λ (xs : List (List (List ℕ))). j.before ++ xs) row
          ∙ sym (append_assoc j.before (whole ∷ []) (reply_rows sealed [] (size_of []) rs)));
      sealed_is = a.sealed_is;
      written = subst (λ (done : List (List ℕ)). IsWritten keys first y after done []) (sym (each_more j.before whole)) a.adds;
      counts = counts_one sealed first nonces j.before whole
          (j.written.nonces_are ∙ ap (λ (s : Bool). nonces_behind s first (length (each_joined j.before))) j.sealed_is)
          (a.counted_one refl);
      short = subst (λ (done : List (List ℕ)). AreAtMost (text_limit sealed) done) (sym (each_more j.before whole))
          (most_more (text_limit sealed) (each_joined j.before) (concatenated whole) j.short (a.short refl));
      server_end = server_end_behind j.server_end r t;
      same = behind_same f j.server_end r t j.same;
      shows = a.behind_is;
      told = j.told
          ∙ (ap (λ (ts : List (List ℕ)). end_behind sealed j.server_end (r ∷ rs) ts)
          (texts_off j.front t (reply_rows sealed j.front (size_of j.front) (r ∷ rs)) (reply_rows sealed [] (size_of []) rs) row)
          ∙ told_one sealed j.server_end r rs t (concatenated (reply_rows sealed [] (size_of []) rs)));
    }

-- ---- either

joins_more : (keys : Option Keys) (first counted : NonceState) (sealed : Bool) (f : ServerEnd) (all : List SaidReply) (x y : Frames)
    (nonces after : NonceState) (b d : Behind) (r : SaidReply) (n : Option SaidReply) (rest : List SaidReply) (more : Bool)
    → next_of (with_waiting n rest) ≡ n
    → (j : AnswerJoins keys first counted sealed f all x nonces b (Some r) (with_waiting n rest))
    → joins_next sealed (size_of j.front) r n ≡ more
    → Added keys first counted sealed nonces (each_joined j.before) j.front j.server_end r more y after d
    → AnswerJoins keys first counted sealed f all y after d n rest
joins_more keys first counted sealed f all x y nonces after b d r n rest false next j e a =
    joins_off keys first counted sealed f all x y nonces after b d r n rest j
    (ap (λ (o : Option SaidReply). joins_next sealed (size_of j.front) r o) next ∙ e) a
joins_more keys first counted sealed f all x y nonces after b d r (Some n) rest true next j e a =
    joins_on keys first counted sealed f all x y nonces after b d r n rest j e a
joins_more keys first counted sealed f all x y nonces after b d r None rest true next j e a = absurd (cc)

pub joins_by : (keys : Option Keys) (first counted : NonceState) (sealed : Bool) (f : ServerEnd) (all : List SaidReply) (x y : Frames)
    (nonces after : NonceState) (b d : Behind) (r : SaidReply) (n : Option SaidReply) (rest : List SaidReply) (result : Result Unit ConnEnd)
    → next_of (with_waiting n rest) ≡ n
    → (j : AnswerJoins keys first counted sealed f all x nonces b (Some r) (with_waiting n rest))
    → AddsWith keys first counted sealed nonces (each_joined j.before) j.front j.server_end r
    (joins_next sealed (size_of j.front) r n) y after d
    result
    → JoinsBy keys first counted sealed f all y after d n rest result
joins_by keys first counted sealed f all x y nonces after b d r n rest (Ok u) next j a =
    joins_more keys first counted sealed f all x y nonces after b d r n rest (joins_next sealed (size_of j.front) r n) next j refl a
joins_by keys first counted sealed f all x y nonces after b d r n rest (Err Memory) next j a = tt
joins_by keys first counted sealed f all x y nonces after b d r n rest (Err Spent) next j a =
    (a.0, spent_for keys first counted sealed f all x nonces b r (with_waiting n rest) j a.0 a.1)
joins_by keys first counted sealed f all x y nonces after b d r n rest (Err Unsealable) next j a = a
joins_by keys first counted sealed f all x y nonces after b d r n rest (Err BadFrame) next j a = absurd a
joins_by keys first counted sealed f all x y nonces after b d r n rest (Err (OutsideWindow id)) next j a = absurd a
joins_by keys first counted sealed f all x y nonces after b d r n rest (Err SecondNegotiate) next j a = absurd a
joins_by keys first counted sealed f all x y nonces after b d r n rest (Err Full) next j a = absurd a
joins_by keys first counted sealed f all x y nonces after b d r n rest (Err (LinkFault count)) next j a = absurd a
joins_by keys first counted sealed f all x y nonces after b d r n rest (Err (Stopped count)) next j a = absurd a

idle_by : (n : Option SaidReply) (front : List (List ℕ)) → front ≡ [] → IsAnswerIdle n front
idle_by None front e = e
idle_by (Some r) front e = tt

-- where none waits the next one does, and nothing else changes
pub joins_idle : (keys : Option Keys) (first counted : NonceState) (sealed : Bool) (f : ServerEnd) (all : List SaidReply) (x : Frames)
    (nonces : NonceState) (b : Behind) (n : Option SaidReply) (rest : List SaidReply)
    → AnswerJoins keys first counted sealed f all x nonces b None (with_waiting n rest) → AnswerJoins keys first counted
    sealed f all x nonces b n rest
joins_idle keys first counted sealed f all x nonces b n rest j = record {
  before = j.before;
  front = j.front;
  idle = idle_by n j.front j.idle;
  rows_are = j.rows_are;
  sealed_is = j.sealed_is;
  written = j.written;
  counts = j.counts;
  short = j.short;
  server_end = j.server_end;
  same = j.same;
  shows = j.shows;
  told = j.told;
}

-- ---- the reply that waits, or none

pub waiting_by : (keys : Option Keys) (first counted : NonceState) (sealed : Bool) (f : ServerEnd) (all : List SaidReply) (x y : Frames)
    (nonces after : NonceState) (b d : Behind) (guid salt : List ℕ) (answers : Answers) (said : code.Said) (waits n : Option SaidReply)
    (rest : List SaidReply) (result : Result Unit ConnEnd)
    → IsWaiting guid salt answers (Some said) waits → next_of (with_waiting n rest) ≡ n
    → AnswerJoins keys first counted sealed f all x nonces b waits (with_waiting n rest)
    → ((done front : List (List ℕ)) (g : ServerEnd) (m : Checked) (r : SaidReply) → IsReply guid salt answers m said r
    → IsWritten keys first x nonces done front → ShowsBehind counted b g
    → AddsWith keys first counted x.sealed nonces done front g r (joins_next x.sealed (size_of front) r n) y after d result)
    → JoinsBy keys first counted sealed f all y after d n rest result
waiting_by keys first counted sealed f all x y nonces after b d guid salt answers said (Some r) n rest result w next j add =
    joins_by keys first counted sealed f all x y nonces after b d r n rest result next j
    (subst (λ (s : Bool). AddsWith keys first counted s nonces (each_joined j.before) j.front j.server_end r
    (joins_next s (size_of j.front) r n) y after d result) j.sealed_is
    (add (each_joined j.before) j.front j.server_end w.0 r w.1 j.written j.shows))
waiting_by keys first counted sealed f all x y nonces after b d guid salt answers said None n rest result w next j add = absurd w

pub waiting_none : (keys : Option Keys) (first counted : NonceState) (sealed : Bool) (f : ServerEnd) (all : List SaidReply) (x : Frames)
    (nonces : NonceState) (b : Behind) (guid salt : List ℕ) (answers : Answers) (waits n : Option SaidReply) (rest : List SaidReply)
    → IsWaiting guid salt answers None waits → AnswerJoins keys first counted sealed f all x nonces b waits (with_waiting n rest)
    → AnswerJoins keys first counted sealed f all x nonces b n rest
waiting_none keys first counted sealed f all x nonces b guid salt answers None n rest w j =
    joins_idle keys first counted sealed f all x nonces b n rest j
waiting_none keys first counted sealed f all x nonces b guid salt answers (Some r) n rest w j = absurd w

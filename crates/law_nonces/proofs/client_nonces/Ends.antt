-- What each kind of change of a world leaves of it.
use Rattle.std.proofs.Common.{◌≡◌, ℕ, ◌+◌, ◌==◌, ◌≤◌, ◌<◌, ◌^◌, Bool, true, false, not, ◌||◌, ◌++◌}
use Rattle.std.proofs.Common.{refl, sym, ◌∙◌, ap, subst, arith, ◌⊎◌, inl, inr, List, Some, slice_get}
use Rattle.spec_exchange.specs.Table.{put}
use Rattle.spec_exchange.specs.State.{Message}
use Rattle.spec_exchange.specs.Client.{Stage, Apart, SaidNegotiate, SaidFirst, SaidSecond, AskedTree}
use Rattle.spec_exchange.specs.Network.{Token}
use Rattle.spec_world.specs.Ends.{ClientEnd}
use Rattle.spec_world.specs.Dialog.{is_asked}
use Rattle.spec_world.specs.Answering.{Seal}
use Rattle.spec_world.specs.Sending.{seal_sent}
use Rattle.spec_world.specs.World.{World, Wires}
use Rattle.law_nonces.proofs.negotiation.Tables.{by_key as by_entry}
use Rattle.law_ties.specs.channel_numbers.Counted.{makes_new, binds, Counted}
use Rattle.law_ties.proofs.channel_numbers.Moves.{by_key, put_same, put_other, same_key, not_both, Unmoved}
use Rattle.law_nonces.specs.server_nonces.Numbering.{Sealer, ToClient, NonceNumbered}
use Rattle.law_nonces.proofs.server_nonces.Numbers.{alike, fresh_keeps}
use Rattle.law_nonces.specs.client_nonces.Sent.{may_send, sender_of, senders, has_keys, all_turned, SealingSends}
use Rattle.law_nonces.proofs.client_nonces.Seals.{turned_append, found_back, fewer, renewed, line_end, line_numbered, sent_found}

-- ---- sessions that were accepted

rank_moves : (f g : ℕ → ℕ) (a b : ℕ) → g ≡ f → b ≡ a → 0 < f a → 0 < g b
rank_moves f g a b e s h = subst (λ (r : ℕ → ℕ). 0 < r b) (sym e) (subst (λ y. 0 < f y) (sym s) h)

same_ranked : (w v : World) → v.values.client.rank ≡ w.values.client.rank → v.sealings ≡ w.sealings → SealingSends w
    → (i : ℕ) (u : Seal) → slice_get v.sealings i ≡ Some u → u.to_server ≡ true → 0 < v.values.client.rank u.session
same_ranked w v rank seals s i u e up =
    subst (λ (r : ℕ → ℕ). 0 < r u.session) (sym rank) (s.ranked i u (sym (ap (λ us. slice_get us i) seals) ∙ e) up)

-- the session of the client's keys
key_ranked : (w v : World) → v.values.client.rank ≡ w.values.client.rank → v.keys.session ≡ w.keys.session
    → 0 < w.values.client.rank w.keys.session → 0 < v.values.client.rank v.keys.session
key_ranked w v rank keys h =
    rank_moves w.values.client.rank v.values.client.rank w.keys.session v.keys.session rank keys h

ranked_by : (f : ℕ → ℕ) (us : List Seal) (y : Seal) (s : ℕ)
    → ((i : ℕ) (u : Seal) → slice_get us i ≡ Some u → u.to_server ≡ true → 0 < f u.session) → 0 < f s → y.to_server ≡ true
    → ((j : ℕ) × (slice_get us j ≡ Some y)) ⊎ (y.session ≡ s) → 0 < f y.session
ranked_by f us y s old new up (inl r) = old r.0 y r.1 up
ranked_by f us y s old new up (inr e) = subst (λ x. 0 < f x) (sym e) new

-- ---- nothing of it changes, but for what servers seal

pub record Untouched (w v : World) : Type 0 where
  pub unmoved : Unmoved w v
  pub session : (k : ℕ) → (v.wires k).client_end.keys.session ≡ (w.wires k).client_end.keys.session
  pub counter : (k : ℕ) → (v.wires k).client_end.counter ≡ (w.wires k).client_end.counter
  pub keys : v.keys.session ≡ w.keys.session
  pub seals : (ends : ℕ → Sealer) (drawn : ℕ → ℕ) → NonceNumbered (all_turned w.sealings) ends drawn
      → NonceNumbered (all_turned v.sealings) ends drawn
  pub rank : v.values.client.rank ≡ w.values.client.rank
  pub ups : (i : ℕ) (u : Seal) → slice_get v.sealings i ≡ Some u → u.to_server ≡ true → (j : ℕ) × (slice_get w.sealings j ≡ Some u)

-- the sealings are the same
pub same_seals : (w v : World) → v.sealings ≡ w.sealings → (ends : ℕ → Sealer) (drawn : ℕ → ℕ)
    → NonceNumbered (all_turned w.sealings) ends drawn → NonceNumbered (all_turned v.sealings) ends drawn
same_seals w v e ends drawn i = subst (λ us. NonceNumbered (all_turned us) ends drawn) (sym e) i

sends_alike : (w v : World) → Unmoved w v → (k : ℕ) → may_send v.values.client k ≡ may_send w.values.client k
sends_alike w v u k = λ t. u.ready k t || is_asked (u.stage k t)

holds_alike : (w v : World) → Unmoved w v → (k : ℕ) → has_keys v.values.client k ≡ has_keys w.values.client k
holds_alike w v u k = λ t. (u.ready k t || is_asked (u.stage k t)) || binds (u.stage k t)

pub untouched : (w v : World) → Untouched w v → SealingSends w → SealingSends v
untouched w v u i =
    let m = u.unmoved in record {
      drawn = i.drawn;
      numbered = alike (all_turned v.sealings) (senders w) (senders v) i.drawn (λ k t. record {
        is_on = sends_alike w v m k t;
        session = u.session k t;
        channel = m.channel k t;
        counter = u.counter k t;
      }) (u.seals (senders w) i.drawn i.numbered);
      highest = (let g = i.highest in let d : i.drawn v.keys.session ≡ i.drawn w.keys.session = ap i.drawn u.keys in
          let n = m.numbers in omega (arith, g, d, n));
      own = λ k h. u.session k ∙ (i.own k (sym (holds_alike w v m k) ∙ h) ∙ sym u.keys);
      ranked = λ a y e up. (let f = u.ups a y e up in
          subst (λ (r : ℕ → ℕ). 0 < r y.session) (sym u.rank) (i.ranked f.0 y f.1 up));
      sending = λ k h. key_ranked w v u.rank u.keys (i.sending k (sym (sends_alike w v m k) ∙ h));
      alive = λ h. key_ranked w v u.rank u.keys (i.alive (sym m.live ∙ h));
    }

-- ---- one connection changes, and the others stay as they are

pub record Beside (w v : World) (k : ℕ) : Type 0 where
  pub ready : (j : ℕ) → (j == k) ≡ false → v.values.client.ready j ≡ w.values.client.ready j
  pub stage : (j : ℕ) → (j == k) ≡ false → v.values.client.stage j ≡ w.values.client.stage j
  pub ends : (j : ℕ) → (j == k) ≡ false → sender_of true (v.wires j).client_end ≡ sender_of true (w.wires j).client_end

pub sender_beside : (w v : World) (k j : ℕ) → Beside w v k → (j == k) ≡ false → senders v j ≡ senders w j
sender_beside w v k j b q = λ t. record {
  is_on = (b.ready j q t || is_asked (b.stage j q t));
  session = (b.ends j q t).session;
  channel = (b.ends j q t).channel;
  counter = (b.ends j q t).counter;
}

send_beside : (w v : World) (k j : ℕ) → Beside w v k → (j == k) ≡ false → may_send v.values.client j ≡ true
    → may_send w.values.client j ≡ true
send_beside w v k j b q h = sym (ap (λ (s : Sealer). s.is_on) (sender_beside w v k j b q)) ∙ h

holds_beside : (w v : World) (k j : ℕ) → Beside w v k → (j == k) ≡ false → has_keys v.values.client j ≡ has_keys w.values.client j
holds_beside w v k j b q = λ t. (b.ready j q t || is_asked (b.stage j q t)) || binds (b.stage j q t)

own_beside : (w v : World) (k j : ℕ) → Beside w v k → (j == k) ≡ false → v.keys.session ≡ w.keys.session → SealingSends w
    → has_keys v.values.client j ≡ true → (v.wires j).client_end.keys.session ≡ v.keys.session
own_beside w v k j b q keys i h =
    ap (λ (s : Sealer). s.session) (b.ends j q) ∙ (i.own j (sym (holds_beside w v k j b q) ∙ h) ∙ sym keys)

or_last : (a b : Bool) → a ≡ false → (a || b) ≡ true → b ≡ true
or_last true b e h = not_both true refl e
or_last false b e h = h

pub second_true : (a b : Bool) → b ≡ true → (a || b) ≡ true
second_true true b e = refl
second_true false b e = e

-- ---- it doesn't seal behind that

pub record IsOff (w v : World) (k : ℕ) : Type 0 where
  pub beside : Beside w v k
  pub off : may_send v.values.client k ≡ false
  pub bound : binds (v.values.client.stage k) ≡ true → (v.wires k).client_end.keys.session ≡ w.keys.session
  pub keys : v.keys ≡ w.keys
  pub numbers : v.numbers ≡ w.numbers
  pub seals : v.sealings ≡ w.sealings
  pub rank : v.values.client.rank ≡ w.values.client.rank
  pub live : v.values.client.live ≡ w.values.client.live

pub off_at : (w v : World) (k : ℕ) → IsOff w v k → SealingSends w → SealingSends v
off_at w v k u i =
    let keys : v.keys.session ≡ w.keys.session = ap (λ y. y.session) u.keys in record {
      drawn = i.drawn;
      numbered = fewer (all_turned v.sealings) (senders w) (senders v) i.drawn
          (by_key (λ j. (senders v j).is_on ≡ true → senders v j ≡ senders w j) k
          (λ o. not_both (may_send v.values.client k) o u.off) (λ j q o. sender_beside w v k j u.beside q))
          (same_seals w v u.seals (senders w) i.drawn i.numbered);
      highest = (let g = i.highest in let d : i.drawn v.keys.session ≡ i.drawn w.keys.session = ap i.drawn keys in
          let n = u.numbers in omega (arith, g, d, n));
      own = by_key (λ j. has_keys v.values.client j ≡ true → (v.wires j).client_end.keys.session ≡ v.keys.session) k
          (λ h. u.bound (or_last (may_send v.values.client k) (binds (v.values.client.stage k)) u.off h) ∙ sym keys)
          (λ j q h. own_beside w v k j u.beside q keys i h);
      ranked = same_ranked w v u.rank u.seals i;
      sending = by_key (λ j. may_send v.values.client j ≡ true → 0 < v.values.client.rank v.keys.session) k
          (λ h. not_both (may_send v.values.client k) h u.off)
          (λ j q h. key_ranked w v u.rank keys (i.sending j (send_beside w v k j u.beside q h)));
      alive = λ h. key_ranked w v u.rank keys (i.alive (sym u.live ∙ h));
    }

-- ---- no end seals any more

pub record AllOff (w v : World) : Type 0 where
  pub off : (k : ℕ) → may_send v.values.client k ≡ false
  pub apart : (k : ℕ) → binds (v.values.client.stage k) ≡ false
  pub keys : v.keys ≡ w.keys
  pub numbers : v.numbers ≡ w.numbers
  pub seals : v.sealings ≡ w.sealings
  pub rank : v.values.client.rank ≡ w.values.client.rank
  pub dead : v.values.client.live ≡ false

pub all_off : (w v : World) → AllOff w v → SealingSends w → SealingSends v
all_off w v u i =
    let keys : v.keys.session ≡ w.keys.session = ap (λ y. y.session) u.keys in record {
      drawn = i.drawn;
      numbered = fewer (all_turned v.sealings) (senders w) (senders v) i.drawn
          (λ k o. not_both (may_send v.values.client k) o (u.off k))
          (same_seals w v u.seals (senders w) i.drawn i.numbered);
      highest = (let g = i.highest in let d : i.drawn v.keys.session ≡ i.drawn w.keys.session = ap i.drawn keys in
          let n = u.numbers in omega (arith, g, d, n));
      own = λ k h. not_both (binds (v.values.client.stage k))
          (or_last (may_send v.values.client k) (binds (v.values.client.stage k)) (u.off k) h) (u.apart k);
      ranked = same_ranked w v u.rank u.seals i;
      sending = λ k h. not_both (may_send v.values.client k) h (u.off k);
      alive = λ h. not_both v.values.client.live h u.dead;
    }

-- ---- it seals as before

pub record GoesOn (w v : World) (k : ℕ) : Type 0 where
  pub beside : Beside w v k
  pub before : may_send w.values.client k ≡ true
  pub on : may_send v.values.client k ≡ true
  pub end : sender_of true (v.wires k).client_end ≡ sender_of true (w.wires k).client_end
  pub keys : v.keys ≡ w.keys
  pub numbers : v.numbers ≡ w.numbers
  pub seals : v.sealings ≡ w.sealings
  pub rank : v.values.client.rank ≡ w.values.client.rank

pub first_true : (a b : Bool) → a ≡ true → (a || b) ≡ true
first_true true b e = refl
first_true false b e = not_both false e refl

pub goes_on : (w v : World) (k : ℕ) → GoesOn w v k → SealingSends w → SealingSends v
goes_on w v k u i =
    let keys : v.keys.session ≡ w.keys.session = ap (λ y. y.session) u.keys in
    let sends : may_send v.values.client k ≡ may_send w.values.client k = u.on ∙ sym u.before in
    let here : senders v k ≡ senders w k =
    λ t. record { is_on = sends t; session = (u.end t).session; channel = (u.end t).channel; counter = (u.end t).counter } in record {
      drawn = i.drawn;
      numbered = alike (all_turned v.sealings) (senders w) (senders v) i.drawn
          (by_key (λ j. senders v j ≡ senders w j) k here (λ j q. sender_beside w v k j u.beside q))
          (same_seals w v u.seals (senders w) i.drawn i.numbered);
      highest = (let g = i.highest in let d : i.drawn v.keys.session ≡ i.drawn w.keys.session = ap i.drawn keys in
          let n = u.numbers in omega (arith, g, d, n));
      own = by_key (λ j. has_keys v.values.client j ≡ true → (v.wires j).client_end.keys.session ≡ v.keys.session) k
          (λ h. ap (λ (s : Sealer). s.session) u.end
          ∙ (i.own k (first_true (may_send w.values.client k) (binds (w.values.client.stage k)) u.before) ∙ sym keys))
          (λ j q h. own_beside w v k j u.beside q keys i h);
      ranked = same_ranked w v u.rank u.seals i;
      sending = λ j h. key_ranked w v u.rank keys (i.sending k u.before);
      alive = λ h. key_ranked w v u.rank keys (i.sending k u.before);
    }

-- ---- a request goes up on a line

pub record IsSent (w v : World) (k : ℕ) (m : Message) (count : ℕ) (token : Token) : Type 0 where
  pub unmoved : Unmoved w v
  pub on : may_send w.values.client k ≡ true
  pub bound : (w.wires k).client_end.encrypts ≡ true → (w.wires k).client_end.counter < 2 ^ 64
  pub u : Wires
  pub end : u.client_end ≡ line_end (w.wires k).client_end count token
  pub wires : v.wires ≡ put w.wires k u
  pub keys : v.keys ≡ w.keys
  pub seals : v.sealings ≡ w.sealings ++ seal_sent (w.wires k).client_end m count
  pub rank : v.values.client.rank ≡ w.values.client.rank

pub sent : (w v : World) (k : ℕ) (m : Message) (count : ℕ) (token : Token) → IsSent w v k m count token → SealingSends w → SealingSends v
sent w v k m count token s i =
    let n = (w.wires k).client_end in
    let next = line_end n count token in
    let us = all_turned w.sealings in
    let keys : v.keys.session ≡ w.keys.session = ap (λ y. y.session) s.keys in
    let on_v : may_send v.values.client k ≡ true = sends_alike w v s.unmoved k ∙ s.on in
    let here : senders w k ≡ sender_of true n =
    λ t. record { is_on = s.on t; session = n.keys.session; channel = n.channel; counter = n.counter } in
    let done = line_numbered us (senders w) i.drawn k n m count token here s.bound i.numbered in
    let all : us ++ all_turned (seal_sent n m count) ≡ all_turned v.sealings =
    sym (turned_append w.sealings (seal_sent n m count)) ∙ ap all_turned (sym s.seals) in
    let mine : n.keys.session ≡ w.keys.session =
    i.own k (first_true (may_send w.values.client k) (binds (w.values.client.stage k)) s.on) in
    let up_k : 0 < v.values.client.rank n.keys.session =
    rank_moves w.values.client.rank v.values.client.rank w.keys.session n.keys.session s.rank mine (i.sending k s.on) in
    let at_k : (v.wires k).client_end ≡ next = ap (λ (f : ℕ → Wires). (f k).client_end) s.wires
    ∙ (ap (λ (x : Wires). x.client_end) (put_same w.wires k s.u) ∙ s.end) in
    let off_k : (j : ℕ) → (j == k) ≡ false → (v.wires j).client_end ≡ (w.wires j).client_end =
    (λ j q. ap (λ (f : ℕ → Wires). (f j).client_end) s.wires
    ∙ ap (λ (x : Wires). x.client_end) (put_other w.wires k j s.u q)) in
    let ends : (j : ℕ) → senders v j ≡ put (senders w) k (sender_of true next) j =
    (by_entry (λ j x. senders v j ≡ x) (senders w) k (sender_of true next) (λ t. sender_of (on_v t) (at_k t))
    (λ j q t. sender_of (sends_alike w v s.unmoved j t) (off_k j q t))) in record {
      drawn = i.drawn;
      numbered = alike (all_turned v.sealings) (put (senders w) k (sender_of true next)) (senders v) i.drawn ends
          (subst (λ l. NonceNumbered l (put (senders w) k (sender_of true next)) i.drawn) all done);
      highest = (let g = i.highest in let d : i.drawn v.keys.session ≡ i.drawn w.keys.session = ap i.drawn keys in
          let o = s.unmoved in let e = o.numbers in omega (arith, g, d, e));
      own = by_key (λ j. has_keys v.values.client j ≡ true → (v.wires j).client_end.keys.session ≡ v.keys.session) k
          (λ h. ap (λ y. y.keys.session) at_k ∙ (i.own k (sym (holds_alike w v s.unmoved k) ∙ h) ∙ sym keys))
          (λ j q h. ap (λ y. y.keys.session) (off_k j q) ∙ (i.own j (sym (holds_alike w v s.unmoved j) ∙ h) ∙ sym keys));
      ranked = λ a y e up. ranked_by v.values.client.rank w.sealings y n.keys.session
          (λ b x f g. subst (λ (r : ℕ → ℕ). 0 < r x.session) (sym s.rank) (i.ranked b x f g)) up_k up
          (sent_found w.sealings n m count a y (sym (ap (λ us. slice_get us a) s.seals) ∙ e));
      sending = λ j h. key_ranked w v s.rank keys (i.sending j (sym (sends_alike w v s.unmoved j) ∙ h));
      alive = λ h. key_ranked w v s.rank keys (i.alive (let o = s.unmoved in sym o.live ∙ h));
    }

-- ---- a new session is accepted, and its TREE_CONNECT goes up

pub record IsAccepted (w v : World) (k : ℕ) (n : ClientEnd) (m : Message) (token : Token) : Type 0 where
  pub beside : Beside w v k
  pub makes : makes_new (w.values.client.stage k) ≡ true
  pub waits : may_send w.values.client k ≡ false
  pub on : may_send v.values.client k ≡ true
  pub channel : n.channel ≡ 1
  pub counter : n.counter ≡ 0
  pub end : (v.wires k).client_end ≡ line_end n 1 token
  pub keys : v.keys.session ≡ n.keys.session
  pub numbers : v.numbers ≡ 1
  pub seals : v.sealings ≡ w.sealings ++ seal_sent n m 1
  pub y : ℕ
  pub count : ℕ
  pub session : n.keys.session ≡ y
  pub unranked : w.values.client.rank y ≡ 0
  pub rank : v.values.client.rank ≡ put w.values.client.rank y (count + 1)

-- no other dialog makes a session, none is live, and so no other end seals or binds
none_holds : (w : World) (k j : ℕ) → Counted w → makes_new (w.values.client.stage k) ≡ true → (j == k) ≡ false
    → has_keys w.values.client j ≡ false
none_holds w k j i makes q =
    let mine = i.making k makes in
    let dead = i.not_live k mine in
    by_stage (w.values.client.stage j) refl (i.none_ready dead j) (i.none_binds dead j)
  where
    other : w.values.client.stage j ≡ AskedTree → ⊥
    other e =
        let one : w.values.client.making ≡ Some j = i.making j (ap makes_new e) in
        let same : Some j ≡ Some k = sym one ∙ i.making k makes in
        let is : j ≡ k = (cc) in
        let h : true ≡ false = sym (same_key j k is) ∙ q in cc

    by_stage : (s : Stage) → w.values.client.stage j ≡ s → w.values.client.ready j ≡ false → binds (w.values.client.stage j) ≡ false
        → has_keys w.values.client j ≡ false
    by_stage Apart e idle apart = λ t. (idle t || is_asked (e t)) || apart t
    by_stage (SaidNegotiate bound) e idle apart = λ t. (idle t || is_asked (e t)) || apart t
    by_stage (SaidFirst bound) e idle apart = λ t. (idle t || is_asked (e t)) || apart t
    by_stage (SaidSecond bound) e idle apart = λ t. (idle t || is_asked (e t)) || apart t
    by_stage AskedTree e idle apart = absurd (other e)

pub accepts : (w v : World) (k : ℕ) (n : ClientEnd) (m : Message) (token : Token) → IsAccepted w v k n m token → Counted w → SealingSends w
    → SealingSends v
accepts w v k n m token a c i =
    let us = all_turned w.sealings in
    let y = n.keys.session in
    let e : Sealer = sender_of true n in
    let next : Sealer = sender_of true (line_end n 1 token) in
    let ends = put (senders w) k e in
    let drawn = put (put i.drawn y 0) y n.channel in
    let new = renewed us (senders w) i.drawn y none_sealed (λ j o. not_both (may_send w.values.client j) o (off j)) i.numbered in
    let zero_is : put i.drawn y 0 y ≡ 0 = put_same i.drawn y 0 in
    let begun : NonceNumbered us ends drawn = fresh_keeps us (senders w) (put i.drawn y 0) k e
    (let f = a.channel in omega (arith, zero_is, f)) (let f = a.channel in omega (arith, f)) new in
    let done = line_numbered us ends drawn k n m 1 token (put_same (senders w) k e) (λ h. let f = a.counter in omega (arith, f)) begun in
    let all : us ++ all_turned (seal_sent n m 1) ≡ all_turned v.sealings =
    sym (turned_append w.sealings (seal_sent n m 1)) ∙ ap all_turned (sym a.seals) in
    let here : senders v k ≡ next = (λ t. sender_of (a.on t) (a.end t)) in
    let each : (j : ℕ) → senders v j ≡ put ends k next j =
    (by_key (λ j. senders v j ≡ put ends k next j) k (here ∙ sym (put_same ends k next))
    (λ j q. sender_beside w v k j a.beside q ∙ sym (put_other ends k j next q ∙ put_other (senders w) k j e q))) in record {
      drawn = drawn;
      numbered = alike (all_turned v.sealings) (put ends k next) (senders v) drawn each
          (subst (λ l. NonceNumbered l (put ends k next) drawn) all done);
      highest = (let d : drawn v.keys.session ≡ n.channel = ap drawn a.keys ∙ put_same (put i.drawn y 0) y n.channel in
          let f = a.channel in let g = a.numbers in omega (arith, d, f, g));
      own = by_key (λ j. has_keys v.values.client j ≡ true → (v.wires j).client_end.keys.session ≡ v.keys.session) k
          (λ h. ap (λ x. x.keys.session) a.end ∙ sym a.keys)
          (λ j q h. not_both (has_keys v.values.client j) h (holds_beside w v k j a.beside q ∙ none_holds w k j c a.makes q));
      ranked = λ b x f up. ranked_by v.values.client.rank w.sealings x n.keys.session older mine up
          (sent_found w.sealings n m 1 b x (sym (ap (λ us. slice_get us b) a.seals) ∙ f));
      sending = λ j h. rank_moves v.values.client.rank v.values.client.rank n.keys.session v.keys.session refl a.keys mine;
      alive = λ h. rank_moves v.values.client.rank v.values.client.rank n.keys.session v.keys.session refl a.keys mine;
    }
  where
    mine : 0 < v.values.client.rank n.keys.session
    mine = rank_moves (put w.values.client.rank a.y (a.count + 1)) v.values.client.rank a.y n.keys.session a.rank a.session
        (subst (λ m. 0 < m) (sym (put_same w.values.client.rank a.y (a.count + 1))) (omega arith))

    older : (b : ℕ) (x : Seal) → slice_get w.sealings b ≡ Some x → x.to_server ≡ true → 0 < v.values.client.rank x.session
    older b x f up = subst (λ (r : ℕ → ℕ). 0 < r x.session) (sym a.rank)
        (by_entry (λ q m. 0 < w.values.client.rank q → 0 < m) w.values.client.rank a.y (a.count + 1) (λ h. omega arith) (λ q away h. h)
        x.session (i.ranked b x f up))

    was_true : (b : Bool) → not b ≡ false → b ≡ true
    was_true true e = refl
    was_true false e = not_both true refl e

    none_sealed : (b : ℕ) (u : Seal) → ToClient (all_turned w.sealings) b u → u.session ≡ n.keys.session → ⊥
    none_sealed b u h same =
        let f = found_back w.sealings b u h.0 in
        let up : f.0.to_server ≡ true = was_true f.0.to_server (ap (λ (x : Seal). x.to_server) f.2 ∙ h.1) in
        let more = i.ranked b f.0 f.1 up in
        let none : w.values.client.rank f.0.session ≡ 0 =
        ap w.values.client.rank (ap (λ (x : Seal). x.session) f.2 ∙ (same ∙ a.session)) ∙ a.unranked in
        absurd (omega (arith, more, none))

    first_false : (x z : Bool) → (x || z) ≡ false → x ≡ false
    first_false true z e = e
    first_false false z e = refl

    off : (j : ℕ) → may_send w.values.client j ≡ false
    off = by_key (λ j. may_send w.values.client j ≡ false) k a.waits
        (λ j q. first_false (may_send w.values.client j) (binds (w.values.client.stage j)) (none_holds w k j c a.makes q))

-- ---- a further channel is bound, under the next number

pub record IsBound (w v : World) (k : ℕ) : Type 0 where
  pub beside : Beside w v k
  pub binding : binds (w.values.client.stage k) ≡ true
  pub on : may_send v.values.client k ≡ true
  pub session : (v.wires k).client_end.keys.session ≡ (w.wires k).client_end.keys.session
  pub channel : (v.wires k).client_end.channel ≡ w.numbers + 1
  pub keys : v.keys ≡ w.keys
  pub numbers : v.numbers ≡ w.numbers + 1
  pub seals : v.sealings ≡ w.sealings
  pub room : w.numbers < 65535
  pub rank : v.values.client.rank ≡ w.values.client.rank
  pub alive : w.values.client.live ≡ true

pub bound : (w v : World) (k : ℕ) → IsBound w v k → SealingSends w → SealingSends v
bound w v k b i =
    let keys : v.keys.session ≡ w.keys.session = ap (λ y. y.session) b.keys in
    let n = (v.wires k).client_end in
    let e : Sealer = sender_of true n in
    let mine : n.keys.session ≡ w.keys.session =
    b.session ∙ i.own k (second_true (may_send w.values.client k) (binds (w.values.client.stage k)) b.binding) in
    let drawn = put i.drawn n.keys.session n.channel in
    let most : i.drawn n.keys.session ≤ w.numbers = subst (λ y. i.drawn y ≤ w.numbers) (sym mine) i.highest in
    let number = b.channel in
    let room = b.room in
    let begun : NonceNumbered (all_turned w.sealings) (put (senders w) k e) drawn =
    fresh_keeps (all_turned w.sealings) (senders w) i.drawn k e (omega (arith, most, number)) (omega (arith, number, room)) i.numbered in
    let here : senders v k ≡ e =
    (λ t. record { is_on = b.on t; session = n.keys.session; channel = n.channel; counter = n.counter }) in
    let each : (j : ℕ) → senders v j ≡ put (senders w) k e j =
    (by_entry (λ j x. senders v j ≡ x) (senders w) k e here (λ j q. sender_beside w v k j b.beside q)) in record {
      drawn = drawn;
      numbered = alike (all_turned v.sealings) (put (senders w) k e) (senders v) drawn each
          (same_seals w v b.seals (put (senders w) k e) drawn begun);
      highest = (let d : drawn v.keys.session ≡ n.channel = ap drawn (keys ∙ sym mine) ∙ put_same i.drawn n.keys.session n.channel in
          let g = b.numbers in omega (arith, d, number, g));
      own = by_key (λ j. has_keys v.values.client j ≡ true → (v.wires j).client_end.keys.session ≡ v.keys.session) k
          (λ h. mine ∙ sym keys) (λ j q h. own_beside w v k j b.beside q keys i h);
      ranked = same_ranked w v b.rank b.seals i;
      sending = λ j h. key_ranked w v b.rank keys (i.alive b.alive);
      alive = λ h. key_ranked w v b.rank keys (i.alive b.alive);
    }

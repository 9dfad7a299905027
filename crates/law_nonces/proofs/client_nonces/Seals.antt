-- What is sealed, turned around; and what further steps of ends keep of their numbers.
use Rattle.std.proofs.Common.{◌≡◌, ℕ, zero, suc, ◌+◌, ◌≤◌, ◌<◌, ◌^◌, Bool, true, false, not, if◌then◌else◌, List, [], ◌∷◌, ◌++◌}
use Rattle.std.proofs.Common.{◌⊎◌, inl, inr, append_assoc, refl, sym, ap, ◌∙◌, subst, Option, Some, None, slice_get}
use Rattle.std.proofs.lemmas.List.{append-nil}
use Rattle.spec_exchange.specs.Table.{put}
use Rattle.spec_exchange.specs.State.{Message}
use Rattle.spec_exchange.specs.Network.{Token}
use Rattle.spec_crypto.specs.declared.sessions.material.Keys.{Keys}
use Rattle.spec_world.specs.Ends.{ClientEnd, ServerEnd}
use Rattle.spec_world.specs.Answering.{Seal, seals_of, seals_by}
use Rattle.spec_world.specs.Sending.{spent, sealed_on, seal_sent, seal_to_server, request_text}
use Rattle.law_nonces.proofs.negotiation.Tables.{by_key}
use Rattle.law_nonces.specs.server_nonces.Numbering.{Sealer, ToClient, NonceNumbered}
use Rattle.law_nonces.proofs.server_nonces.Numbers.{alike, sent_keeps, seal_keeps, counted}
use Rattle.law_nonces.specs.client_nonces.Sent.{sender_of, turned_around, all_turned}

-- ---- turned around

pub turned_append : (us vs : List Seal) → all_turned (us ++ vs) ≡ all_turned us ++ all_turned vs
turned_append [] vs = refl
turned_append (u ∷ us) vs = ap (λ l. turned_around u ∷ l) (turned_append us vs)

pub turned_found : (us : List Seal) (i : ℕ) (u : Seal) → slice_get us i ≡ Some u → slice_get (all_turned us) i ≡ Some (turned_around u)
turned_found [] zero u e = absurd (let q : None ≡ Some u = e in cc)
turned_found [] (suc i) u e = absurd (let q : None ≡ Some u = e in cc)
turned_found (x ∷ us) zero u e = (let q : Some x ≡ Some u = e in let is : x ≡ u = (cc) in ap (λ v. Some (turned_around v)) is)
turned_found (x ∷ us) (suc i) u e = turned_found us i u e

pub found_back : (us : List Seal) (i : ℕ) (v : Seal) → slice_get (all_turned us) i ≡ Some v
    → (u : Seal) × (slice_get us i ≡ Some u) × (turned_around u ≡ v)
found_back [] zero v e = absurd (let q : None ≡ Some v = e in cc)
found_back [] (suc i) v e = absurd (let q : None ≡ Some v = e in cc)
found_back (x ∷ us) zero v e = (let q : Some (turned_around x) ≡ Some v = e in let is : turned_around x ≡ v = (cc) in (x, refl, is))
found_back (x ∷ us) (suc i) v e = found_back us i v e

-- ---- what servers seal doesn't count

abbrev pub AllDown : List Seal → Type 0
AllDown [] = Unit {0}
AllDown (v ∷ vs) = (v.to_server ≡ false) × AllDown vs

pub down_keeps : (us vs : List Seal) (ends : ℕ → Sealer) (drawn : ℕ → ℕ) → AllDown vs → NonceNumbered us ends drawn
    → NonceNumbered (us ++ all_turned vs) ends drawn
down_keeps us [] ends drawn down i = subst (λ l. NonceNumbered l ends drawn) (sym (append-nil us)) i
down_keeps us (v ∷ vs) ends drawn (first, rest) i =
    subst (λ l. NonceNumbered l ends drawn) (append_assoc us (turned_around v ∷ []) (all_turned vs))
    (down_keeps (us ++ turned_around v ∷ []) vs ends drawn rest (sent_keeps us (turned_around v) ends drawn (ap not first) i))

pub seals_down : (keys : Keys) (channel counter : ℕ) (texts : List (List ℕ)) → AllDown (seals_of keys channel counter texts)
unfolding seals_of
seals_down keys channel counter [] = tt
seals_down keys channel counter (t ∷ ts) = (refl, seals_down keys channel (counter + 1) ts)

pub by_down : (o : Option Keys) (f : ServerEnd) (texts : List (List ℕ)) → AllDown (seals_by o f texts)
by_down None f texts = tt
by_down (Some keys) f texts = seals_down keys f.channel f.counter texts

-- ---- ends that are on are as they were; others may be off

pub fewer : (us : List Seal) (ends new : ℕ → Sealer) (drawn : ℕ → ℕ) → ((k : ℕ) → (new k).is_on ≡ true → new k ≡ ends k)
    → NonceNumbered us ends drawn → NonceNumbered us new drawn
fewer us ends new drawn same i =
    record {
      once = i.once;
      below = λ a k u h o. subst (λ (e : Sealer). e.is_on ≡ true → u.session ≡ e.session → u.channel ≡ e.channel
          → u.counter < e.counter) (sym (same k o)) (i.below a k u h) o;
      apart = λ j k oj ok. subst (λ (e : Sealer). e.is_on ≡ true → (new k).is_on ≡ true → e.session ≡ (new k).session
          → e.channel ≡ (new k).channel → j ≡ k) (sym (same j oj))
          (subst (λ (e : Sealer). (ends j).is_on ≡ true → e.is_on ≡ true → (ends j).session ≡ e.session
          → (ends j).channel ≡ e.channel → j ≡ k) (sym (same k ok)) (i.apart j k)) oj ok;
      used = i.used;
      held = λ k o. subst (λ (e : Sealer). e.is_on ≡ true → e.channel ≤ drawn e.session) (sym (same k o)) (i.held k) o;
      bounds = i.bounds;
      end_bounds = λ k o. subst (λ (e : Sealer). e.is_on ≡ true → e.channel < 2 ^ 16) (sym (same k o)) (i.end_bounds k) o;
    }

-- ---- the numbers of a session for which nothing was sealed begin anew, while no end is on

pub renewed : (us : List Seal) (ends : ℕ → Sealer) (drawn : ℕ → ℕ) (y : ℕ)
    → ((a : ℕ) (u : Seal) → ToClient us a u → u.session ≡ y → ⊥) → ((k : ℕ) → (ends k).is_on ≡ true → ⊥)
    → NonceNumbered us ends drawn → NonceNumbered us ends (put drawn y 0)
renewed us ends drawn y none off i =
    record {
      once = i.once;
      below = i.below;
      apart = i.apart;
      used = λ a u h. by_key (λ q m. u.session ≡ q → u.channel ≤ m) drawn y 0 (λ e. absurd (none a u h e))
          (λ q away e. subst (λ s. u.channel ≤ drawn s) e (i.used a u h)) u.session refl;
      held = λ k o. absurd (off k o);
      bounds = i.bounds;
      end_bounds = i.end_bounds;
    }

-- ---- a request on a line

abbrev pub next_sender : Bool → ClientEnd → Sealer
next_sender b n = record {
  is_on = true;
  session = n.keys.session;
  channel = n.channel;
  counter = if b then n.counter + 1 else n.counter;
}

line_by : (us : List Seal) (ends : ℕ → Sealer) (drawn : ℕ → ℕ) (k : ℕ) (n : ClientEnd) (text : List ℕ) (b : Bool)
    → ends k ≡ sender_of true n → (b ≡ true → n.counter < 2 ^ 64) → NonceNumbered us ends drawn
    → NonceNumbered (us ++ all_turned (if b then seal_to_server n text ∷ [] else [])) (put ends k (next_sender b n)) drawn
line_by us ends drawn k n text true e bound i =
    subst (λ x. NonceNumbered (us ++ turned_around (seal_to_server n text) ∷ []) (put ends k x) drawn) (ap counted e)
    (seal_keeps us ends drawn k (turned_around (seal_to_server n text)) (ap (λ (x : Sealer). x.is_on) e)
    (sym (ap (λ (x : Sealer). x.session) e)) (sym (ap (λ (x : Sealer). x.channel) e)) (sym (ap (λ (x : Sealer). x.counter) e))
    (subst (λ (x : Sealer). x.counter < 2 ^ 64) (sym e) (bound refl)) i)
line_by us ends drawn k n text false e bound i =
    subst (λ l. NonceNumbered l (put ends k (next_sender false n)) drawn) (sym (append-nil us))
    (alike us ends (put ends k (next_sender false n)) drawn
    (by_key (λ q x. x ≡ ends q) ends k (next_sender false n) (sym e) (λ q off. refl)) i)

-- the end behind it
abbrev pub line_end : ClientEnd → ℕ → Token → ClientEnd
line_end n count token = sealed_on (spent n count token)

pub line_numbered : (us : List Seal) (ends : ℕ → Sealer) (drawn : ℕ → ℕ) (k : ℕ) (n : ClientEnd) (m : Message) (count : ℕ) (token : Token)
    → ends k ≡ sender_of true n → (n.encrypts ≡ true → n.counter < 2 ^ 64) → NonceNumbered us ends drawn
    → NonceNumbered (us ++ all_turned (seal_sent n m count)) (put ends k (sender_of true (line_end n count token))) drawn
line_numbered us ends drawn k n m count token e bound i =
    line_by us ends drawn k n (request_text m count false) n.encrypts e bound i

-- ---- where what is sealed was found

pub append_found : (us vs : List Seal) (i : ℕ) (u : Seal) → slice_get (us ++ vs) i ≡ Some u
    → ((j : ℕ) × (slice_get us j ≡ Some u)) ⊎ ((j : ℕ) × (slice_get vs j ≡ Some u))
append_found [] vs i u e = inr (i, e)
append_found (x ∷ us) vs zero u e = inl (zero, e)
append_found (x ∷ us) vs (suc i) u e = shifted (append_found us vs i u e)
  where
    shifted : ((j : ℕ) × (slice_get us j ≡ Some u)) ⊎ ((j : ℕ) × (slice_get vs j ≡ Some u))
        → ((j : ℕ) × (slice_get (x ∷ us) j ≡ Some u)) ⊎ ((j : ℕ) × (slice_get vs j ≡ Some u))
    shifted (inl r) = inl (suc r.0, r.1)
    shifted (inr r) = inr r

no_up : (vs : List Seal) (j : ℕ) (u : Seal) → AllDown vs → slice_get vs j ≡ Some u → u.to_server ≡ true → ⊥
no_up [] zero u down e up = absurd (let q : None ≡ Some u = e in cc)
no_up [] (suc j) u down e up = absurd (let q : None ≡ Some u = e in cc)
no_up (v ∷ vs) zero u (first, rest) e up =
    let q : Some v ≡ Some u = e in
    let is : v ≡ u = (cc) in
    let h : true ≡ false = sym up ∙ (sym (ap (λ (x : Seal). x.to_server) is) ∙ first) in
    absurd (cc)
no_up (v ∷ vs) (suc j) u (first, rest) e up = no_up vs j u rest e up

-- what goes up was there before what servers seal
pub up_found : (us vs : List Seal) (i : ℕ) (u : Seal) → AllDown vs → slice_get (us ++ vs) i ≡ Some u → u.to_server ≡ true
    → (j : ℕ) × (slice_get us j ≡ Some u)
up_found us vs i u down e up = by_place (append_found us vs i u e)
  where
    by_place : ((j : ℕ) × (slice_get us j ≡ Some u)) ⊎ ((j : ℕ) × (slice_get vs j ≡ Some u)) → (j : ℕ) × (slice_get us j ≡ Some u)
    by_place (inl r) = r
    by_place (inr r) = absurd (no_up vs r.0 u down r.1 up)

one_found : (b : Bool) (s u : Seal) (j : ℕ) → slice_get (if b then s ∷ [] else []) j ≡ Some u → u.session ≡ s.session
one_found true s u zero e = (let q : Some s ≡ Some u = e in let is : s ≡ u = (cc) in sym (ap (λ (x : Seal). x.session) is))
one_found true s u (suc j) e = absurd (let q : None ≡ Some u = e in cc)
one_found false s u zero e = absurd (let q : None ≡ Some u = e in cc)
one_found false s u (suc j) e = absurd (let q : None ≡ Some u = e in cc)

-- a request's seal is of its end's session
pub sent_found : (us : List Seal) (n : ClientEnd) (m : Message) (count i : ℕ) (u : Seal)
    → slice_get (us ++ seal_sent n m count) i ≡ Some u → ((j : ℕ) × (slice_get us j ≡ Some u)) ⊎ (u.session ≡ n.keys.session)
sent_found us n m count i u e = by_place (append_found us (seal_sent n m count) i u e)
  where
    by_place : ((j : ℕ) × (slice_get us j ≡ Some u)) ⊎ ((j : ℕ) × (slice_get (seal_sent n m count) j ≡ Some u))
        → ((j : ℕ) × (slice_get us j ≡ Some u)) ⊎ (u.session ≡ n.keys.session)
    by_place (inl r) = inl r
    by_place (inr r) = inr (one_found n.encrypts (seal_to_server n (request_text m count false)) u r.0 r.1)

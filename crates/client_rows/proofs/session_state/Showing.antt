-- What a session shows behind each change.
use Rattle.std.proofs.Common.{◌≡◌, ℕ, ◌+◌, ◌-◌, ◌<◌, ◌≤◌, ◌==◌, ◌&&◌, ◌||◌, nat_le, nat_lt, Bool, true, false, if◌then◌else◌}
use Rattle.std.proofs.Common.{List, [], ◌∷◌, length, get_or, set, replicate, refl, ap, sym, ◌∙◌, subst, arith, ◌⊎◌, inl, inr, lit≤}
use Rattle.std.proofs.Math.ListN.{length-set, length-replicate}
use Rattle.std.specs.List.{sum_by}
use Rattle.std.proofs.lemmas.List.{get_or-replicate, get_or_past, get_or-set_same, get_or-set_other}
use Rattle.std.proofs.lemmas.List.Sums.{sum_by-set, sum_by-cons, get_or-le-sum_by}
use Rattle.std.proofs.lemmas.List.Folds.{sum_by-replicate}
use Rattle.spec_exchange.specs.Table.{put}
use Rattle.spec_exchange.specs.Client.{Client, begin_session, bind_channel, cut_channel, end_session, ends_at_cut, leave_dialog}
use Rattle.spec_exchange.specs.ClientStep.{becomes_ready, cut_after, ready_after}
use Rattle.spec_exchange.specs.Network.{Settings, start}
use Rattle.client_rows.specs.declared.session_state.session.Session.{Session}
use Rattle.client_rows.specs.declared.session_state.session.Cut.{Cut}
use Rattle.client_rows.specs.declared.session_state.session.Cut.TheVariants as cuts
use Rattle.client_rows.specs.session_state.Shown.{ClientShowsSession, cut_told, one, ready_at}
use Rattle.client_rows.specs.session_state.Changes.{session_begun, bound, session_ended, session_lost}

-- ---- tests

pub no_both : (b : Bool) → b ≡ true → b ≡ false → ⊥
no_both b e f = absurd (cc)

pick_yes : (s : Session) (x y : Client) (b : Bool) → b ≡ true → ClientShowsSession s x → ClientShowsSession s (if b then x else y)
pick_yes s x y true e h = h
pick_yes s x y false e h = absurd (no_both false e refl)

pick_no : (s : Session) (x y : Client) (b : Bool) → b ≡ false → ClientShowsSession s y → ClientShowsSession s (if b then x else y)
pick_no s x y true e h = absurd (no_both true refl e)
pick_no s x y false e h = h

told_yes : (x y : Cut) (b : Bool) → b ≡ true → x ≡ (if b then x else y)
told_yes x y true e = refl
told_yes x y false e = absurd (no_both false e refl)

told_no : (x y : Cut) (b : Bool) → b ≡ false → y ≡ (if b then x else y)
told_no x y true e = absurd (no_both true refl e)
told_no x y false e = refl

below_or_past : (k n : ℕ) → (k < n) ⊎ (n ≤ k)
below_or_past k n = grind arith

same_or_other : (j k : ℕ) → (j ≡ k) ⊎ (j ≡ k → ⊥)
same_or_other j k = grind arith

-- ---- channels

ready_none : (n k : ℕ) → get_or (replicate n false) k false ≡ false
ready_none n k =
    elim (below_or_past k n) as (λ _. get_or (replicate n false) k false ≡ false) [
      | inl l ↦ get_or-replicate n k false false l
      | inr l ↦ get_or_past (replicate n false) k false (let e = length-replicate n false in omega arith)
    ]

put_at : (f : ℕ → Bool) (k j : ℕ) (v : Bool) → j ≡ k → put f k v j ≡ v
put_at f k j v e = by_test (j == k) (test j k e)
  where
    test : (j k : ℕ) → j ≡ k → (j == k) ≡ true
    test j k e = grind arith

    by_test : (b : Bool) → b ≡ true → (if b then v else f j) ≡ v
    by_test true e = refl
    by_test false e = absurd (no_both false e refl)

put_past : (f : ℕ → Bool) (k j : ℕ) (v : Bool) → (j ≡ k → ⊥) → put f k v j ≡ f j
put_past f k j v n = by_test (j == k) (test j k n)
  where
    test : (j k : ℕ) → (j ≡ k → ⊥) → (j == k) ≡ false
    test j k n = grind arith

    by_test : (b : Bool) → b ≡ false → (if b then v else f j) ≡ f j
    by_test true e = absurd (no_both true refl e)
    by_test false e = refl

put_set : (f : ℕ → Bool) (rs : List Bool) (k : ℕ) (v : Bool) → k < length rs → ((j : ℕ) → f j ≡ get_or rs j false)
    → (j : ℕ) → put f k v j ≡ get_or (set rs k v) j false
put_set f rs k v l h j =
    elim (same_or_other j k) as (λ _. put f k v j ≡ get_or (set rs k v) j false) [
      | inl e ↦ put_at f k j v e ∙ sym (subst (λ i. get_or (set rs k v) i false ≡ v) (sym e) (get_or-set_same rs k v false l))
      | inr n ↦ put_past f k j v n ∙ h j ∙ sym (get_or-set_other rs k j v false n)
    ]

one_most : (b : Bool) → one b ≤ 1
one_most true = lit≤ tt
one_most false = lit≤ tt

sum_most : (rs : List Bool) → sum_by one rs ≤ length rs
sum_most [] = lit≤ tt
sum_most (b ∷ bs) = let e = sum_by-cons one b bs in let i = sum_most bs in let o = one_most b in omega arith

one_less : (x y z n : ℕ) → x + y ≡ z + 0 → y ≡ 1 → z ≡ n → x ≡ n - 1
one_less x y z n a b c = omega arith

one_more : (x y z n : ℕ) → x + y ≡ z + 1 → y ≡ 0 → z ≡ n → x ≡ n + 1
one_more x y z n a b c = omega arith

sum_less : (rs : List Bool) (k n : ℕ) → k < length rs → get_or rs k false ≡ true → sum_by one rs ≡ n → sum_by one (set rs k false) ≡ n - 1
sum_less rs k n l r e =
    one_less (sum_by one (set rs k false)) (one (get_or rs k false)) (sum_by one rs) n
    (sum_by-set one rs k false false l) (ap one r) e

sum_more : (rs : List Bool) (k n : ℕ) → k < length rs → get_or rs k false ≡ false → sum_by one rs ≡ n → sum_by one (set rs k true) ≡ n + 1
sum_more rs k n l r e =
    one_more (sum_by one (set rs k true)) (one (get_or rs k false)) (sum_by one rs) n
    (sum_by-set one rs k true false l) (ap one r) e

past_test : (k : ℕ) → 256 ≤ k → nat_lt k 256 ≡ false
past_test k l = grind arith

pub past_ready : (s : Session) (c : Client) (k : ℕ) → ClientShowsSession s c → 256 ≤ k → nat_lt k 256 ≡ c.ready k
past_ready s c k h l =
    let z = h.sized in past_test k l ∙ sym (h.ready k ∙ get_or_past s.ready k false (omega arith))

-- ---- the beginning and the end

pub starts : (settings : Settings) → ClientShowsSession (record {
  live = false;
  id = 0;
  number = 0;
  tree = 0;
  sequence = 0;
  ready = replicate 256 false;
  channels = 0;
}) (start settings).client
starts settings =
    record {
      live = refl;
      session = refl;
      number = refl;
      tree = refl;
      sequence = refl;
      channels = refl;
      ready = λ k. sym (ready_none 256 k);
      counted = sum_by-replicate one 256 false;
      apart = λ e. refl;
      sized = length-replicate 256 false;
      within = lit≤ tt;
    }

pub ends : (s : Session) (c : Client) → ClientShowsSession s c → ClientShowsSession (session_ended s) (end_session c)
ends s c h =
    record {
      live = refl;
      session = h.session;
      number = h.number;
      tree = h.tree;
      sequence = h.sequence;
      channels = refl;
      ready = λ k. sym (ready_none 256 k);
      counted = sum_by-replicate one 256 false;
      apart = λ e. refl;
      sized = length-replicate 256 false;
      within = h.within;
    }

-- ---- a cut

loses : (s : Session) (c : Client) (k : ℕ) → k < 256 → ready_at s k ≡ true → 1 < s.channels → s.sequence < 32767
    → ClientShowsSession s c → ClientShowsSession (session_lost s k) (cut_channel c k)
loses s c k l r m b h =
    let z = h.sized in
    record {
      live = h.live;
      session = h.session;
      number = h.number;
      tree = h.tree;
      sequence = ap (λ n. n + 1) h.sequence;
      channels = ap (λ n. n - 1) h.channels;
      ready = put_set c.ready s.ready k false (omega arith) h.ready;
      counted = sum_less s.ready k s.channels (omega arith) r h.counted;
      apart = λ e. ap (λ n. n - 1) (h.apart e);
      sized = length-set s.ready k false ∙ z;
      within = omega arith;
    }

last_is : (n q : ℕ) → 0 < n → q ≤ 32767 → (nat_le n 1 || nat_le 32767 q) ≡ ((n == 1) || (q == 32767))
last_is n q a b = (λ t. (first n a t) || (second q b t))
  where
    first : (n : ℕ) → 0 < n → nat_le n 1 ≡ (n == 1)
    first n a = grind arith

    second : (q : ℕ) → q ≤ 32767 → nat_le 32767 q ≡ (q == 32767)
    second q b = grind arith

-- some channel is ready
some_ready : (s : Session) (c : Client) (k : ℕ) → k < 256 → ready_at s k ≡ true → ClientShowsSession s c → 0 < s.channels
some_ready s c k l r h =
    let z = h.sized in
    let e : one (get_or s.ready k false) ≡ 1 = ap one r in
    let m : one (get_or s.ready k false) ≤ sum_by one s.ready = get_or-le-sum_by one s.ready k false (omega arith) in
    let n = h.counted in omega arith

is_last_so : (s : Session) (c : Client) (k : ℕ) → ClientShowsSession s c → k < 256 → ready_at s k ≡ true
    → (nat_le s.channels 1 || nat_le 32767 s.sequence) ≡ ends_at_cut c
is_last_so s c k h l r =
    last_is s.channels s.sequence (some_ready s c k l r h) h.within
    ∙ (λ t. (sym h.channels t == 1) || (sym h.sequence t == 32767))

left_same : (a b : Bool) → a ≡ true → a ≡ (a || b)
left_same a b e = grind arith

at_most_one : (n : ℕ) → n ≤ 1 → nat_le n 1 ≡ true
at_most_one n l = grind arith

right_same : (a b : Bool) → a ≡ false → b ≡ (a || b)
right_same a b e = grind arith

more_than_one : (n : ℕ) → 1 < n → nat_le n 1 ≡ false
more_than_one n l = grind arith

pub last_channel : (s : Session) (c : Client) (k : ℕ) → ClientShowsSession s c → k < 256 → ready_at s k ≡ true → s.channels ≤ 1
    → nat_le s.channels 1 ≡ ends_at_cut c
last_channel s c k h l r m =
    left_same (nat_le s.channels 1) (nat_le 32767 s.sequence) (at_most_one s.channels m) ∙ is_last_so s c k h l r

pub last_sequence : (s : Session) (c : Client) (k : ℕ) → ClientShowsSession s c → k < 256 → ready_at s k ≡ true → 1 < s.channels
    → nat_le 32767 s.sequence ≡ ends_at_cut c
last_sequence s c k h l r m =
    right_same (nat_le s.channels 1) (nat_le 32767 s.sequence) (more_than_one s.channels m) ∙ is_last_so s c k h l r

module _ (s : Session) (c : Client) (k : ℕ) (h : ClientShowsSession s c) where
  pub cut_nothing : c.ready k ≡ false → ClientShowsSession s (cut_after c k)
  cut_nothing e = pick_no s (if ends_at_cut c then end_session c else cut_channel c k) c (c.ready k) e h

  pub nothing_told : c.ready k ≡ false → cuts.Nothing ≡ cut_told c k
  nothing_told e = told_no (if ends_at_cut c then cuts.Ends else cuts.Lost) cuts.Nothing (c.ready k) e

  pub cut_ends : c.ready k ≡ true → ends_at_cut c ≡ true → ClientShowsSession (session_ended s) (cut_after c k)
  cut_ends e f =
      pick_yes (session_ended s) (if ends_at_cut c then end_session c else cut_channel c k) c (c.ready k) e
      (pick_yes (session_ended s) (end_session c) (cut_channel c k) (ends_at_cut c) f (ends s c h))

  pub ends_told : c.ready k ≡ true → ends_at_cut c ≡ true → cuts.Ends ≡ cut_told c k
  ends_told e f =
      told_yes cuts.Ends cuts.Lost (ends_at_cut c) f
      ∙ told_yes (if ends_at_cut c then cuts.Ends else cuts.Lost) cuts.Nothing (c.ready k) e

  pub cut_loses : k < 256 → ready_at s k ≡ true → 1 < s.channels → s.sequence < 32767 → c.ready k ≡ true
      → ends_at_cut c ≡ false → ClientShowsSession (session_lost s k) (cut_after c k)
  cut_loses l r m b e f =
      pick_yes (session_lost s k) (if ends_at_cut c then end_session c else cut_channel c k) c (c.ready k) e
      (pick_no (session_lost s k) (end_session c) (cut_channel c k) (ends_at_cut c) f (loses s c k l r m b h))

  pub lost_told : c.ready k ≡ true → ends_at_cut c ≡ false → cuts.Lost ≡ cut_told c k
  lost_told e f =
      told_no cuts.Ends cuts.Lost (ends_at_cut c) f
      ∙ told_yes (if ends_at_cut c then cuts.Ends else cuts.Lost) cuts.Nothing (c.ready k) e

-- ---- a channel that becomes ready

pub takes_so : (s : Session) (c : Client) (session : ℕ) → ClientShowsSession s c
    → (if s.live then (session == s.id) else (nat_lt s.id session && nat_lt s.number 4294967295)) ≡ becomes_ready c session
takes_so s c session h =
    λ t. if sym h.live t then (session == sym h.session t) else (nat_lt (sym h.session t) session && nat_lt (sym h.number t) 4294967295)

both_below : (b : Bool) (n : ℕ) → (b && nat_lt n 4294967295) ≡ true → n < 4294967295
both_below b n e = grind arith

-- there is a number for one session more
pub has_room : (live a b : Bool) (n : ℕ) (r : Bool) → r ≡ (if live then a else (b && nat_lt n 4294967295)) → r ≡ true
    → live ≡ false → n < 4294967295
has_room true a b n r e f g = absurd (no_both true refl g)
has_room false a b n r e f g = both_below b n (sym e ∙ f)

leaves : (s : Session) (c : Client) (k : ℕ) → ClientShowsSession s c → ClientShowsSession s (leave_dialog c k)
leaves s c k h =
    record {
      live = h.live;
      session = h.session;
      number = h.number;
      tree = h.tree;
      sequence = h.sequence;
      channels = h.channels;
      ready = h.ready;
      counted = h.counted;
      apart = h.apart;
      sized = h.sized;
      within = h.within;
    }

binds : (s : Session) (c : Client) (k n : ℕ) → k < 256 → ready_at s k ≡ false → s.live ≡ true → n ≡ s.channels + 1
    → ClientShowsSession s c → ClientShowsSession (bound s k n) (bind_channel c k)
binds s c k n l r live e h =
    let z = h.sized in
    record {
      live = h.live;
      session = h.session;
      number = h.number;
      tree = h.tree;
      sequence = h.sequence;
      channels = ap (λ m. m + 1) h.channels ∙ sym e;
      ready = put_set c.ready s.ready k true (omega arith) h.ready;
      counted = sum_more s.ready k s.channels (omega arith) r h.counted ∙ sym e;
      apart = λ f. absurd (no_both s.live live f);
      sized = length-set s.ready k true ∙ z;
      within = h.within;
    }

begins : (s : Session) (c : Client) (k session tree : ℕ) → k < 256 → ready_at s k ≡ false → s.live ≡ false → ClientShowsSession s c
    → ClientShowsSession (session_begun s k session tree) (begin_session c k session tree)
begins s c k session tree l r live h =
    let z = h.sized in
    record {
      live = refl;
      session = refl;
      number = ap (λ n. n + 1) h.number;
      tree = refl;
      sequence = refl;
      channels = refl;
      ready = put_set c.ready s.ready k true (omega arith) h.ready;
      counted = sum_more s.ready k 0 (omega arith) r (h.counted ∙ h.apart live);
      apart = λ f. absurd (no_both true refl f);
      sized = length-set s.ready k true ∙ z;
      within = lit≤ tt;
    }

-- there is room for one channel more
room : (rs : List Bool) (k n : ℕ) → k < length rs → get_or rs k false ≡ false → sum_by one rs ≡ n → n < length rs
room rs k n l r e =
    let m = sum_more rs k n l r e in
    let o = sum_most (set rs k true) in
    let z = length-set rs k true in omega arith

module _ (s : Session) (c : Client) (k session tree : ℕ) (h : ClientShowsSession s c) where
  pub ready_refused : becomes_ready c session ≡ false → ClientShowsSession s (ready_after c k session tree)
  ready_refused e =
      pick_no s (if c.live then bind_channel c k else begin_session c k session tree) (leave_dialog c k)
      (becomes_ready c session) e (leaves s c k h)

  pub ready_bound : (n : ℕ) → k < 256 → ready_at s k ≡ false → s.live ≡ true → becomes_ready c session ≡ true
      → (s.channels < 256 → n ≡ s.channels + 1) → ClientShowsSession (bound s k n) (ready_after c k session tree)
  ready_bound n l r live e more =
      let z = h.sized in
      let few : s.channels < length s.ready = room s.ready k s.channels (omega arith) r h.counted in
      pick_yes (bound s k n) (if c.live then bind_channel c k else begin_session c k session tree) (leave_dialog c k)
      (becomes_ready c session) e
      (pick_yes (bound s k n) (bind_channel c k) (begin_session c k session tree) c.live (h.live ∙ live)
      (binds s c k n l r live (more (omega arith)) h))

  pub ready_begun : k < 256 → ready_at s k ≡ false → s.live ≡ false → becomes_ready c session ≡ true
      → ClientShowsSession (session_begun s k session tree) (ready_after c k session tree)
  ready_begun l r live e =
      pick_yes (session_begun s k session tree) (if c.live then bind_channel c k else begin_session c k session tree) (leave_dialog c k)
      (becomes_ready c session) e
      (pick_no (session_begun s k session tree) (bind_channel c k) (begin_session c k session tree) c.live (h.live ∙ live)
      (begins s c k session tree l r live h))

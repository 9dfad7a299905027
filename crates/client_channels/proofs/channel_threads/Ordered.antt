-- A channel's sealings in their order, each behind the turn in which the channel had its key and its number.
use Rattle.std.proofs.Common.{◌≡◌, ◌⊎◌, ℕ, zero, suc, ◌+◌, ◌≤◌, ◌<◌, Bool, true, false, List, [], ◌∷◌, ◌++◌, Some, None}
use Rattle.std.proofs.Common.{inl, inr, refl, sym, ap, subst, ◌∙◌, arith, length, length-append}
use Rattle.std.proofs.lemmas.Option.{slice_get_within}
use Rattle.std.specs.Prelude.{is_some, slice_get, unwrap_or, Option as Perhaps}
use Rattle.spec_crypto.specs.declared.sessions.material.Keys.{Keys}
use Rattle.client_ends.specs.declared.ends.config.Bound.{Bound}
use Rattle.client_ends.specs.declared.ends.config.ClientConfig.{ClientConfig}
use Rattle.client_ends.specs.declared.ends.dialog.Dialog.{Dialog}
use Rattle.client_ends.specs.dialog_calls.Opening.{AreKeysOf, DialogBegins, opened_end}
use Rattle.client_ends.specs.declared.ends.config.Fresh.{Fresh}
use Rattle.client_book.specs.Steps.{is_nothing}
use Rattle.client_book.specs.declared.turn.Told.{Told}
use Rattle.client_book.specs.declared.turn.Told.TheVariants as tells
use Rattle.client_book.specs.declared.turn.Turn.TheVariants as turns
use Rattle.client_channels.specs.channel_turns.Links.{on}
use Rattle.client_channels.specs.channel_turns.Rounds.{Been, Connects, Fails, Lacks, Rests, RoundBy, RoundKind, RoundsIn}
use Rattle.client_channels.specs.channel_turns.Rounds.{AsksOnce, bound_in, previous_in}
use Rattle.client_channels.specs.channel_turns.Asides.{TellsLack}
use Rattle.client_channels.specs.channel_turns.Sealings.{Sealing, sealed_in_round, sealed_in_rounds, sealed_on_link}
use Rattle.client_channels.specs.channel_turns.Sides.{Ends, Says, Talks, aim_of}
use Rattle.client_channels.specs.channel_turns.Turning.{Placed}
use Rattle.client_channels.specs.declared.channel_turns.starting.Aim.{Aim}
use Rattle.client_channels.specs.declared.channel_turns.starting.Aim.TheVariants as aims
use Rattle.client_channels.proofs.channel_turns.Sealed.{Early, Mark, Rises}
use Rattle.client_channels.proofs.channel_turns.Sealing.{Grown, Went, get_last, get_on, grown_length, grown_none, grown_on, link_stands}

-- ---- the turn behind a sealing

-- it told the client of the session, of whose first channel the number is 1; or it was told to be bound under the number
abbrev pub Origin : Placed → Sealing → Type 0
Origin p a =
    ((session : ℕ) × (keys : Keys) × (p.1.event ≡ turns.Accept session keys) × (a.key ≡ keys.to_server) × (a.nonce.channel ≡ 1))
    ⊎ ((bound : Bound) × (p.1.reply ≡ tells.Bind bound a.nonce.channel) × (a.key ≡ bound.keys.to_server) × (1 ≤ bound.keys.cipher))

abbrev pub HasOrigin : List Placed → ℕ → Sealing → Type 0
HasOrigin own j a = (p : Placed) × (slice_get own j ≡ Some p) × Origin p a

-- Their turns stand in order, and the counts behind one turn rise.
abbrev pub Ordered : List Placed → ℕ → ℕ → ℕ → List Sealing → Type 0
Ordered own i c h [] = Unit {0}
Ordered own i c h (a ∷ bs) =
    (j : ℕ) × (i ≤ j) × (i ≡ j → c ≤ a.nonce.counter) × (j < h) × HasOrigin own j a × Ordered own j (a.nonce.counter + 1) h bs

ordered_block : (own : List Placed) (i c h j : ℕ) (m : Mark) (low high : ℕ) (xs : List Sealing) → i ≤ j → (i ≡ j → c ≤ low) → j < h
    → ((a : Sealing) → a.key ≡ m.key → a.nonce.channel ≡ m.number → 1 ≤ m.cipher → HasOrigin own j a) → Rises m low high xs
    → Ordered own i c h xs
ordered_block own i c h j m low high [] below at top origin rises = tt
ordered_block own i c h j m low high (a ∷ bs) below at top origin (k, n, s, more, rest) = (
  j,
  below,
  (λ e. let less = at e in omega (arith, less, more)),
  top,
  origin a k n s,
  ordered_block own j (a.nonce.counter + 1) h j m (a.nonce.counter + 1) high bs (omega arith) (λ e. omega arith) top origin rest,
)

ordered_grown : (own own' : List Placed) (i c h : ℕ) (xs : List Sealing) → Grown own own' → Ordered own i c h xs → Ordered own' i c h xs
ordered_grown own own' i c h [] g t = tt
ordered_grown own own' i c h (a ∷ bs) (more, is) (j, below, at, top, (p, stands, origin), rest) = (
  j,
  below,
  at,
  top,
  (p, subst (λ (ys : List Placed). slice_get ys j ≡ Some p) (sym is) (get_on own more j p stands), origin),
  ordered_grown own own' j (a.nonce.counter + 1) h bs (more, is) rest,
)

ordered_on : (own : List Placed) (i c h h' : ℕ) (xs ys : List Sealing) → (i < h) ⊎ ((i ≤ h) × (c ≡ 0)) → h ≤ h' → Ordered own i c h xs
    → Ordered own h 0 h' ys → Ordered own i c h' (xs ++ ys)
ordered_on own i c h h' [] [] start low t g = tt
ordered_on own i c h h' [] (b ∷ bs) (inl less) low t (j, below, at, top, origin, rest) =
    (j, omega (arith, less, below), (λ e. absurd (omega (arith, less, below, e))), top, origin, rest)
ordered_on own i c h h' [] (b ∷ bs) (inr (most, none)) low t (j, below, at, top, origin, rest) =
    (j, omega (arith, most, below), (λ e. omega (arith, none)), top, origin, rest)
ordered_on own i c h h' (a ∷ bs) ys start low (j, below, at, top, origin, rest) g =
    (j, below, at, omega (arith, top, low), origin, ordered_on own j (a.nonce.counter + 1) h h' bs ys (inl top) low rest g)

-- ---- of a link

abbrev told_of : Perhaps Aim → Told
told_of (Some (aims.Bind bound number)) = tells.Bind bound number
told_of (Some (aims.Make previous)) = tells.Nothing
told_of None = tells.Nothing

other_aim : (b : Bound) (n : ℕ) (o : Perhaps Aim) → is_nothing (told_of o) ≡ true → Some (aims.Bind b n) ≡ o → ⊥
other_aim b n o nothing e = let both : false ≡ true = ap (λ (x : Perhaps Aim). is_nothing (told_of x)) e ∙ nothing in absurd (cc)

aim_told : (t : Told) (b : Bound) (n : ℕ) → Some (aims.Bind b n) ≡ aim_of t → t ≡ tells.Bind b n
aim_told (tells.Bind bound number) b n e = sym (ap told_of e)
aim_told tells.Nothing b n e = absurd (other_aim b n None refl e)
aim_told (tells.Make previous) b n e = absurd (other_aim b n (Some (aims.Make previous)) refl e)
aim_told (tells.Send request) b n e = absurd (other_aim b n None refl e)
aim_told tells.Close b n e = absurd (other_aim b n None refl e)
aim_told tells.Done b n e = absurd (other_aim b n None refl e)
aim_told tells.Stop b n e = absurd (other_aim b n None refl e)

abbrev keys_for : Perhaps Bound → Keys → Keys
keys_for None k = k
keys_for (Some b) k = b.keys

keys_fit : (o : Perhaps Bound) (k : Keys) → AreKeysOf o (keys_for o k)
keys_fit None k = tt
keys_fit (Some b) k = refl

begins_early : (a : Aim) (c : ClientConfig) (fresh : Fresh) (d : Dialog) (greeting : List ℕ)
    → DialogBegins c fresh (previous_in a) (bound_in a) d greeting → Early a d
begins_early a c fresh d greeting h =
    let keys = keys_for (bound_in a) d.line.keys in (
      opened_end fresh (is_some (bound_in a)) keys false greeting,
      h.shown keys false (keys_fit (bound_in a) d.line.keys),
      refl,
      keys_fit (bound_in a) d.line.keys,
      h.bound,
    )

-- behind the turn that asked, these are a link's
link_ordered : (a : Aim) (before own own' : List Placed) (asked : Placed) (xs : List Sealing) → own ≡ before ++ asked ∷ []
    → Some a ≡ aim_of asked.1.reply → Grown own own' → Went a own own' xs Ends → Ordered own' (length before) 0 (length own') xs
link_ordered a before own own' asked xs is aim g (inl (front, none)) =
    subst (λ (ys : List Sealing). Ordered own' (length before) 0 (length own') ys) (sym none) tt
link_ordered a before own own' asked xs is aim g (inr (inl (m, h, none))) = absurd h
link_ordered (aims.Make previous) before own own' asked xs is aim g (inr (inr (m, c, late, rises, s))) =
    let long : length own ≡ length before + 1 = ap (λ (ys : List Placed). length ys) is ∙ length-append before (asked ∷ []) in
    let behind = s.among.behind in
    ordered_block own' (length before) 0 (length own') s.among.place m 0 c xs (omega (arith, long, behind)) (λ e. omega arith)
    (slice_get_within own' s.among.place s.turn s.among.stands)
    (λ x k n i. (s.turn, s.among.stands, inl (s.session, s.keys, s.event, k ∙ s.key, n ∙ s.number))) rises
link_ordered (aims.Bind b number) before own own' asked xs is aim g (inr (inr (m, c, late, rises, (key, of_number, cipher)))) =
    let first : slice_get own (length before) ≡ Some asked =
    subst (λ (ys : List Placed). slice_get ys (length before) ≡ Some asked) (sym is) (get_last before asked) in
    let stands : slice_get own' (length before) ≡ Some asked =
    subst (λ (ys : List Placed). slice_get ys (length before) ≡ Some asked) (sym g.1) (get_on own g.0 (length before) asked first) in
    ordered_block own' (length before) 0 (length own') (length before) m 0 c xs (omega arith) (λ e. omega arith)
    (slice_get_within own' (length before) asked stands)
    (λ x k n i. (
      asked,
      stands,
      inr (
        b,
        subst (λ (v : ℕ). asked.1.reply ≡ tells.Bind b v) (sym (n ∙ of_number)) (aim_told asked.1.reply b number aim),
        k ∙ key,
        subst (λ (v : ℕ). 1 ≤ v) cipher i,
      ),
    )) rises

-- ---- of a round, and of all

module _ {K : Type 0} (told : Type 0) (given left written : K → List ℕ) (faults : K → ℕ) (ended : K → Bool) (bars : ℕ → ℕ → Type 0)
    (config : ClientConfig) (seed : List ℕ) (channel : ℕ) {N : Type 0} (net_faults : N → ℕ) where
  abbrev Goes : Been → Been → List Sealing → Type 0
  Goes x y xs = Grown x.own y.own × Ordered y.own (length x.own) 0 (length y.own) xs

  lacks_grown : (a b c : List Placed) → (b ≡ a) ⊎ ((aim : Aim) × AsksOnce channel a b (Some aim)) → TellsLack b Ends c → Grown a c
  lacks_grown a b c (inl is) h = (h.placed ∷ [], h.own_is ∙ ap (λ (ys : List Placed). ys ++ h.placed ∷ []) is)
  lacks_grown a b c (inr (aim, asks)) h = grown_on a b c (asks.placed ∷ [], asks.own_is) (h.placed ∷ [], h.own_is)

  round_goes : (kind : RoundKind) (x y : Been)
      → (round : RoundBy told given left written faults ended bars config seed channel net_faults kind x y)
      → Goes x y (sealed_in_round told given left written faults ended bars config seed channel net_faults kind x y round)
  round_goes Rests x y round = ((round.asks.placed ∷ [], round.asks.own_is), tt)
  round_goes Fails x y round =
      (grown_on x.own round.own y.own (round.asks.placed ∷ [], round.asks.own_is) (round.fails.placed ∷ [], round.fails.own_is), tt)
  round_goes Lacks x y round = (lacks_grown x.own round.own y.own round.before round.lacks, tt)
  round_goes Connects x y round =
      let u = round.uses in
      let stands = link_stands told given left written faults ended bars round.aim channel round.own u.passes.count
      (on (Says u.greeting (Talks u.dialog)) [] round.link round.own) (on Ends u.stream u.link' y.own) u.passes.steps
      (grown_none round.own, inl (begins_early round.aim config u.fresh u.dialog u.greeting u.begins, refl)) in (
        grown_on x.own round.own y.own (round.asks.placed ∷ [], round.asks.own_is) stands.0,
        link_ordered round.aim x.own round.own y.own round.asks.placed
            (sealed_on_link told given left written faults ended bars round.aim channel u.passes.count
            (on (Says u.greeting (Talks u.dialog)) [] round.link round.own) (on Ends u.stream u.link' y.own) u.passes.steps)
            round.asks.own_is round.asks.aims stands.0 stands.1,
      )

  pub rounds_go : (n : ℕ) (x y : Been) → (rounds : RoundsIn told given left written faults ended bars config seed channel net_faults n x y)
      → Goes x y (sealed_in_rounds told given left written faults ended bars config seed channel net_faults n x y rounds)
  rounds_go zero x y rounds = (subst (λ (z : Been). Grown x.own z.own) (sym rounds) (grown_none x.own), tt)
  rounds_go (suc n) x y (z, rounds, (kind, round)) =
      let h = rounds_go n x z rounds in
      let g = round_goes kind z y round in
      let low = grown_length x.own z.own h.0 in
      let high = grown_length z.own y.own g.0 in
      let xs : List Sealing = sealed_in_rounds told given left written faults ended bars config seed channel net_faults n x z rounds in
      let ys : List Sealing = sealed_in_round told given left written faults ended bars config seed channel net_faults kind z y round in (
        grown_on x.own z.own y.own h.0 g.0,
        ordered_on y.own (length x.own) 0 (length z.own) (length y.own) xs ys (inr (low, refl)) high
            (ordered_grown z.own y.own (length x.own) 0 (length z.own) xs g.0 h.1) g.1,
      )

-- ---- two of them

pub less_or_same : (m n : ℕ) → m ≤ n → (m < n) ⊎ (m ≡ n)
less_or_same zero zero h = inr refl
less_or_same zero (suc n) h = inl (omega arith)
less_or_same (suc m) zero h = absurd (omega (arith, h))
less_or_same (suc m) (suc n) h = by (less_or_same m n (omega (arith, h)))
  where
    by : (m < n) ⊎ (m ≡ n) → (suc m < suc n) ⊎ (suc m ≡ suc n)
    by (inl less) = inl (omega (arith, less))
    by (inr same) = inr (ap (λ (i : ℕ). suc i) same)

or_less : (m n : ℕ) → (m < n) ⊎ (m ≡ n) → (m ≡ n → ⊥) → m < n
or_less m n (inl less) f = less
or_less m n (inr same) f = absurd (f same)

pub record At (own : List Placed) (i c : ℕ) (a : Sealing) : Type 0 where
  pub place : ℕ
  pub behind : i ≤ place
  pub counts : i ≡ place → c ≤ a.nonce.counter
  pub origin : HasOrigin own place a

first_of : (a b : Sealing) → Some a ≡ Some b → a ≡ b
first_of a b e = ap (λ (o : Perhaps Sealing). unwrap_or o a) e

none_at : (a : Sealing) → None ≡ Some a → ⊥
none_at a e = let both : false ≡ true = ap (λ (o : Perhaps Sealing). is_some o) e in absurd (cc)

pub ordered_at : (own : List Placed) (i c h : ℕ) (xs : List Sealing) (p : ℕ) (a : Sealing) → Ordered own i c h xs
    → slice_get xs p ≡ Some a → At own i c a
ordered_at own i c h [] p a t e = absurd (none_at a e)
ordered_at own i c h (x ∷ xs) zero a (j, below, at, top, origin, rest) e =
    subst (λ (y : Sealing). At own i c y) (first_of x a e) (record { place = j; behind = below; counts = at; origin = origin })
ordered_at own i c h (x ∷ xs) (suc p) a (j, below, at, top, origin, rest) e =
    let later = ordered_at own j (x.nonce.counter + 1) h xs p a rest e in
    let behind = later.behind in record {
      place = later.place;
      behind = omega (arith, below, behind);
      counts = λ same. counted later at below same;
      origin = later.origin;
    }
  where
    counted : (l : At own j (x.nonce.counter + 1) a) → (i ≡ j → c ≤ x.nonce.counter) → i ≤ j → i ≡ l.place → c ≤ a.nonce.counter
    counted l at below same =
        let behind = l.behind in
        let first : i ≡ j = omega (arith, below, behind, same) in
        let low = at first in
        let high = l.counts (omega (arith, below, behind, same)) in omega (arith, low, high)

-- The later of two with one count stands behind a later turn.
pub ordered_two : (own : List Placed) (i c h : ℕ) (xs : List Sealing) (p q : ℕ) (a b : Sealing) → Ordered own i c h xs → p < q
    → slice_get xs p ≡ Some a → slice_get xs q ≡ Some b → a.nonce.counter ≡ b.nonce.counter
    → (j : ℕ) × (k : ℕ) × (j < k) × HasOrigin own j a × HasOrigin own k b
ordered_two own i c h [] p q a b t less e f same = absurd (none_at a e)
ordered_two own i c h (x ∷ xs) zero zero a b t less e f same = absurd (omega (arith, less))
ordered_two own i c h (x ∷ xs) (suc p) zero a b t less e f same = absurd (omega (arith, less))
ordered_two own i c h (x ∷ xs) zero (suc q) a b (j, below, at, top, origin, rest) less e f same =
    let later = ordered_at own j (x.nonce.counter + 1) h xs q b rest f in
    let is : x.nonce.counter ≡ a.nonce.counter = ap (λ (y : Sealing). y.nonce.counter) (first_of x a e) in
    (j, later.place, apart later is same, subst (λ (y : Sealing). HasOrigin own j y) (first_of x a e) origin, later.origin)
  where
    apart : (l : At own j (x.nonce.counter + 1) b) → x.nonce.counter ≡ a.nonce.counter → a.nonce.counter ≡ b.nonce.counter → j < l.place
    apart l is same =
        or_less j l.place (less_or_same j l.place l.behind) (λ at. let high = l.counts at in omega (arith, high, is, same))
ordered_two own i c h (x ∷ xs) (suc p) (suc q) a b (j, below, at, top, origin, rest) less e f same =
    ordered_two own j (x.nonce.counter + 1) h xs p q a b rest (omega (arith, less)) e f same

-- Numbers that bound channels are given, in the order of the history.
use Rattle.std.proofs.Common.{◌≡◌, ◌⊎◌, ◌<◌, ◌≤◌, ℕ, zero, suc, ◌+◌, Bool, true, false, List, [], ◌∷◌, Some, None, if◌then◌else◌, arith}
use Rattle.std.proofs.Common.{inl, inr, refl, sym, ap, subst, ◌∙◌}
use Rattle.std.specs.Prelude.{is_some, nat_lt, slice_get, unwrap_or, Option as Perhaps}
use Rattle.client_ends.specs.declared.ends.config.Bound.{Bound}
use Rattle.client_events.specs.declared.event_calls.steps.Act.{Act}
use Rattle.client_events.specs.declared.event_calls.steps.Act.TheVariants as acts
use Rattle.client_events.specs.declared.event_calls.steps.Event.{Event}
use Rattle.client_steps.specs.declared.whole_client.client.Client.{Client as Core}
use Rattle.serve_turns.specs.declared.shared_book.view.Entry.{Entry}
use Rattle.serve_turns.specs.shared_book.Histories.{Replays}
use Rattle.spec_crypto.specs.declared.sessions.material.Keys.{Keys}
use Rattle.client_book.specs.Beginning.{IsNextIn, Shared, behind_begun}
use Rattle.client_book.specs.Steps.{FailsBy, Goes, Happens, TellsAct, ended_on, failing, is_nothing, shared_of}
use Rattle.client_book.specs.declared.book.ClientBook.{ClientBook}
use Rattle.client_book.specs.declared.turn.Told.{Told}
use Rattle.client_book.specs.declared.turn.Told.TheVariants as tells
use Rattle.client_book.specs.declared.turn.Turn.{Turn}
use Rattle.client_book.specs.declared.turn.Turn.TheVariants as turns
use Rattle.client_channels.specs.channel_threads.Numbers.{GivesAt, AcceptsAt, AcceptsSession, NoneAccepted, BoundNumbersRise}
use Rattle.client_channels.specs.channel_turns.Sharing.{TurnSteps}
use Rattle.client_channels.specs.declared.channel_turns.shared_client.ClientTurns.{ClientTurns}

-- ---- what is told

abbrev binds : Told → Bool
binds (tells.Bind bound number) = true
binds _ = false

-- it is told to be bound to nothing, where something else is told
not_both : (told other : Told) → binds other ≡ false → told ≡ other → (b : Bound) (n : ℕ) → told ≡ tells.Bind b n → ⊥
not_both told other unbound is b n e = let both : false ≡ true = sym unbound ∙ ap binds (sym is ∙ e) in cc

not_by_act : (act : Act) (client : Core) (salt : ℕ) (told : Told) → TellsAct act client salt told → (b : Bound) (n : ℕ)
    → told ≡ tells.Bind b n → ⊥
not_by_act acts.Nothing client salt told is b n e = not_both told tells.Nothing refl is b n e
not_by_act (acts.Sends g) client salt told h b n e = not_both told (tells.Send h.request) refl h.is b n e
not_by_act (acts.Asks g) client salt told h b n e = not_both told (tells.Send h.request) refl h.is b n e
not_by_act acts.CloseChannel client salt told is b n e = not_both told tells.Close refl is b n e
not_by_act acts.CloseChannels client salt told is b n e = not_both told tells.Close refl is b n e
not_by_act acts.AllSettled client salt told is b n e = not_both told tells.Done refl is b n e

not_by_event : (old new : ClientBook) (x : Event) (told : Told) → Happens old x told new → (b : Bound) (n : ℕ) → told ≡ tells.Bind b n → ⊥
not_by_event old new x told h b n e = not_by_act h.act new.client old.salt told h.tells b n e

not_by_failing : (few : Bool) (old new : ClientBook) (s : Shared) (told : Told) → FailsBy few old s told new → (b : Bound) (n : ℕ)
    → told ≡ tells.Bind b n → ⊥
not_by_failing true old new s told (rests, shared, is) b n e = not_both told tells.Nothing refl is b n e
not_by_failing false old new s told (inl (h, shared, dead)) b n e = not_by_event old new _ told h b n e
not_by_failing false old new s told (inr (rests, shared, is, live)) b n e = not_both told tells.Close refl is b n e

-- the next number, which is then the highest, with the keys of the session that was accepted last
abbrev IsNext : ClientBook → ClientBook → Bound → ℕ → Type 0
IsNext old new b n = (n ≡ old.numbers + 1) × (new.numbers ≡ n) × (b.keys ≡ old.keys) × (n < 65536)

next_begun : (old new : ClientBook) (told : Told) (b : Bound) (n : ℕ) → told ≡ tells.Bind b n → shared_of new ≡ behind_begun told
    (shared_of old)
    → IsNextIn told (shared_of old) → IsNext old new b n
next_begun old new told b n e shared next =
    let given : IsNextIn (tells.Bind b n) (shared_of old) = subst (λ (t : Told). IsNextIn t (shared_of old)) e next in
    let behind : shared_of new ≡ behind_begun (tells.Bind b n) (shared_of old) =
    subst (λ (t : Told). shared_of new ≡ behind_begun t (shared_of old)) e shared in
    (given.1, ap (λ (s : Shared). s.numbers) behind, given.0, given.2)

next_of : (old new : ClientBook) (turn : Turn) (told : Told) → Goes old turn told new → (b : Bound) (n : ℕ) → told ≡ tells.Bind b n
    → IsNext old new b n
next_of old new (turns.Submit number kind) told (h, shared) b n e = absurd (not_by_event old new _ told h b n e)
next_of old new (turns.Begin channel first shuns) told (rests, shared, next, is) b n e = next_begun old new told b n e shared next
next_of old new (turns.Failed channel) told h b n e = absurd
    (not_by_failing (nat_lt (failing channel (shared_of old)).failed 8) old new (failing channel (shared_of old)) told h b n e)
next_of old new (turns.Accept session keys) told (rests, is, shared) b n e = absurd (not_both told tells.Nothing refl is b n e)
next_of old new (turns.Ready channel session tree) told (h, shared) b n e = absurd (not_by_event old new _ told h b n e)
next_of old new (turns.Refused channel why) told (h, shared) b n e = absurd (not_by_event old new _ told h b n e)
next_of old new (turns.Leave channel) told (rests, is, shared) b n e = absurd (not_both told tells.Nothing refl is b n e)
next_of old new (turns.Finish why) told (h, shared) b n e = absurd (not_by_event old new _ told h b n e)
next_of old new (turns.Push channel credits) told (h, shared) b n e = absurd (not_by_event old new _ told h b n e)
next_of old new (turns.Hear channel answer) told h b n e = absurd (not_by_event old new _ told h.happens b n e)
next_of old new (turns.Cut channel) told (h, shared) b n e = absurd (not_by_event old new _ told h b n e)
next_of old new turns.Lack told h b n e = absurd h

-- ---- which numbers stay

same_numbers : (new : ClientBook) (s : Shared) → shared_of new ≡ s → new.numbers ≡ s.numbers
same_numbers new s e = ap (λ (x : Shared). x.numbers) e

behind_told : (told : Told) (s : Shared) → IsNextIn told s → s.numbers ≤ (behind_begun told s).numbers
behind_told tells.Nothing s next = omega arith
behind_told (tells.Make previous) s next = omega arith
behind_told (tells.Bind bound number) s next = let more = next.1 in omega arith
behind_told (tells.Send request) s next = omega arith
behind_told tells.Close s next = omega arith
behind_told tells.Done s next = omega arith
behind_told tells.Stop s next = omega arith

behind_dialog : (nothing : Bool) (channel : ℕ) (s : Shared) → (if nothing then ended_on channel s else s).numbers ≡ s.numbers
behind_dialog true channel s = refl
behind_dialog false channel s = refl

behind_failing : (few : Bool) (old new : ClientBook) (s : Shared) (told : Told) → FailsBy few old s told new → new.numbers ≡ s.numbers
behind_failing true old new s told (rests, shared, is) = same_numbers new s shared
behind_failing false old new s told (inl (h, shared, dead)) = same_numbers new _ shared
behind_failing false old new s told (inr (rests, shared, is, live)) = same_numbers new s shared

from_same : (a b : ℕ) → b ≡ a → a ≤ b
from_same a b e = omega arith

stays : (old new : ClientBook) (turn : Turn) (told : Told) → (AcceptsSession turn → ⊥) → Goes old turn told new → old.numbers ≤ new.numbers
stays old new (turns.Submit number kind) told other (h, shared) = from_same old.numbers new.numbers (same_numbers new _ shared)
stays old new (turns.Begin channel first shuns) told other (rests, shared, next, is) =
    let same = same_numbers new _ shared in let more = behind_told told (shared_of old) next in omega arith
stays old new (turns.Failed channel) told other h = from_same old.numbers new.numbers
    (behind_failing (nat_lt (failing channel (shared_of old)).failed 8) old new (failing channel (shared_of old)) told h)
stays old new (turns.Accept session keys) told other h = absurd (other tt)
stays old new (turns.Ready channel session tree) told other (h, shared) =
    from_same old.numbers new.numbers (same_numbers new _ shared ∙ behind_dialog (is_nothing told) channel (shared_of old))
stays old new (turns.Refused channel why) told other (h, shared) = from_same old.numbers new.numbers (same_numbers new _ shared)
stays old new (turns.Leave channel) told other (rests, is, shared) = from_same old.numbers new.numbers (same_numbers new _ shared)
stays old new (turns.Finish why) told other (h, shared) = from_same old.numbers new.numbers (same_numbers new _ shared)
stays old new (turns.Push channel credits) told other (h, shared) = from_same old.numbers new.numbers (same_numbers new _ shared)
stays old new (turns.Hear channel answer) told other h = from_same old.numbers new.numbers (same_numbers new _ h.rest)
stays old new (turns.Cut channel) told other (h, shared) = from_same old.numbers new.numbers (same_numbers new _ shared)
stays old new turns.Lack told other h = absurd h

-- ---- over a history

-- memory ran out, or a number not below this one was given in the session that was accepted last
abbrev Has : ℕ → ClientTurns → Type 0
Has m b = (b.book.stopped ≡ true) ⊎ (m ≤ b.book.numbers)

has_on : (m : ℕ) (old new : ClientTurns) (turn : Turn) (told : Told) → TurnSteps old turn told new → (AcceptsSession turn → ⊥)
    → Has m old → Has m new
has_on m old new turn told (inl stops) other h = inl stops.stopped
has_on m old new turn told (inr (going, goes)) other (inl stopped) = absurd (let both : true ≡ false = sym stopped ∙ going in cc)
has_on m old new turn told (inr (going, goes)) other (inr low) =
    let more = stays old.book new.book turn told other goes in inr (omega arith)

-- a number that is given is the next one
given : (old new : ClientTurns) (turn : Turn) (told : Told) (b : Bound) (n : ℕ) → TurnSteps old turn told new → told ≡ tells.Bind b n
    → (old.book.stopped ≡ false) × IsNext old.book new.book b n
given old new turn told b n (inl stops) e = absurd (not_both told tells.Stop refl stops.is b n e)
given old new turn told b n (inr (going, goes)) e = (going, next_of old.book new.book turn told goes b n e)

above_given : (m n : ℕ) (b : Bound) (old new : ClientTurns) → (old.book.stopped ≡ false) × IsNext old.book new.book b n → Has m old → m < n
above_given m n b old new (going, next) (inl stopped) = absurd (let both : true ≡ false = sym stopped ∙ going in cc)
above_given m n b old new (going, next) (inr low) = let more = next.0 in omega arith

first_of : {X : Type 0} (x y : X) → Some x ≡ Some y → x ≡ y
first_of {X} x y e = ap (λ (o : Perhaps X). unwrap_or o x) e

none_at : {X : Type 0} (x : X) → None ≡ Some x → ⊥
none_at {X} x e = let both : false ≡ true = ap (λ (o : Perhaps X). is_some o) e in absurd (cc)

abbrev Log : Type 0
Log = List (Entry Turn Told)

-- what the first turn of a history gives
at_first : (e : Entry Turn Told) (es : Log) (n : ℕ) (from next : ClientTurns) → TurnSteps from e.event e.reply next → (g : GivesAt (e ∷ es) 0 n)
    → (from.book.stopped ≡ false) × IsNext from.book next.book g.bound n
at_first e es n from next step g =
    given from next e.event e.reply g.bound n step (ap (λ (x : Entry Turn Told). x.reply) (first_of e g.entry g.stands) ∙ g.gives)

-- and a later one
at_later : (e : Entry Turn Told) (es : Log) (place n : ℕ) → GivesAt (e ∷ es) (suc place) n → GivesAt es place n
at_later e es place n g = record { entry = g.entry; bound = g.bound; stands = g.stands; gives = g.gives }

-- a number that is given while no further session is accepted
above_from : (m n : ℕ) (from to : ClientTurns) (log : Log) (j : ℕ) → Replays TurnSteps from log to → Has m from → GivesAt log j n
    → ((k : ℕ) (e : Entry Turn Told) → k < j → slice_get log k ≡ Some e → AcceptsSession e.event → ⊥) → m < n
above_from m n from to [] j replays h g none = absurd (none_at g.entry g.stands)
above_from m n from to (e ∷ es) zero (next, step, rest) h g none = above_given m n g.bound from next (at_first e es n from next step g) h
above_from m n from to (e ∷ es) (suc j) (next, step, rest) h g none =
    above_from m n next to es j rest (has_on m from next e.event e.reply step (none 0 e (omega arith) refl) h) (at_later e es j n g)
    (λ k x lt at. none (suc k) x (omega (arith, lt)) at)

above_none : (n : ℕ) (from to : ClientTurns) (log : Log) (i : ℕ) → Replays TurnSteps from log to → GivesAt log i n → 0 < n
above_none n from to [] i replays g = absurd (none_at g.entry g.stands)
above_none n from to (e ∷ es) zero (next, step, rest) g = let more = (at_first e es n from next step g).1.0 in omega arith
above_none n from to (e ∷ es) (suc i) (next, step, rest) g = above_none n next to es i rest (at_later e es i n g)

below_given : (n : ℕ) (from to : ClientTurns) (log : Log) (i : ℕ) → Replays TurnSteps from log to → GivesAt log i n → n < 65536
below_given n from to [] i replays g = absurd (none_at g.entry g.stands)
below_given n from to (e ∷ es) zero (next, step, rest) g = (at_first e es n from next step g).1.3
below_given n from to (e ∷ es) (suc i) (next, step, rest) g = below_given n next to es i rest (at_later e es i n g)

above_both : (m n : ℕ) (from to : ClientTurns) (log : Log) (i j : ℕ) → Replays TurnSteps from log to → i < j → GivesAt log i m
    → GivesAt log j n
    → NoneAccepted log i j → m < n
above_both m n from to [] i j replays lt g h none = absurd (none_at g.entry g.stands)
above_both m n from to (e ∷ es) i zero (next, step, rest) lt g h none = absurd (omega (arith, lt))
above_both m n from to (e ∷ es) zero (suc j) (next, step, rest) lt g h none =
    let is = (at_first e es m from next step g).1.1 in
    above_from m n next to es j rest (inr (from_same m next.book.numbers is)) (at_later e es j n h)
    (λ k x less at. none (suc k) x (omega arith) (omega (arith, less)) at)
above_both m n from to (e ∷ es) (suc i) (suc j) (next, step, rest) lt g h none =
    above_both m n next to es i j rest (omega (arith, lt)) (at_later e es i m g) (at_later e es j n h)
    (λ k x low less at. none (suc k) x (omega (arith, low)) (omega (arith, less)) at)

-- ---- the keys of a session

same_keys : (new : ClientBook) (s : Shared) → shared_of new ≡ s → new.keys ≡ s.keys
same_keys new s e = ap (λ (x : Shared). x.keys) e

keys_told : (told : Told) (s : Shared) → (behind_begun told s).keys ≡ s.keys
keys_told tells.Nothing s = refl
keys_told (tells.Make previous) s = refl
keys_told (tells.Bind bound number) s = refl
keys_told (tells.Send request) s = refl
keys_told tells.Close s = refl
keys_told tells.Done s = refl
keys_told tells.Stop s = refl

keys_behind : (nothing : Bool) (channel : ℕ) (s : Shared) → (if nothing then ended_on channel s else s).keys ≡ s.keys
keys_behind true channel s = refl
keys_behind false channel s = refl

keys_failing : (few : Bool) (old new : ClientBook) (s : Shared) (told : Told) → FailsBy few old s told new → new.keys ≡ s.keys
keys_failing true old new s told (rests, shared, is) = same_keys new s shared
keys_failing false old new s told (inl (h, shared, dead)) = same_keys new _ shared
keys_failing false old new s told (inr (rests, shared, is, live)) = same_keys new s shared

keys_stay : (old new : ClientBook) (turn : Turn) (told : Told) → (AcceptsSession turn → ⊥) → Goes old turn told new → new.keys ≡ old.keys
keys_stay old new (turns.Submit number kind) told other (h, shared) = same_keys new _ shared
keys_stay old new (turns.Begin channel first shuns) told other (rests, shared, next, is) =
    same_keys new _ shared ∙ keys_told told (shared_of old)
keys_stay old new (turns.Failed channel) told other h =
    keys_failing (nat_lt (failing channel (shared_of old)).failed 8) old new (failing channel (shared_of old)) told h
keys_stay old new (turns.Accept session keys) told other h = absurd (other tt)
keys_stay old new (turns.Ready channel session tree) told other (h, shared) =
    same_keys new _ shared ∙ keys_behind (is_nothing told) channel (shared_of old)
keys_stay old new (turns.Refused channel why) told other (h, shared) = same_keys new _ shared
keys_stay old new (turns.Leave channel) told other (rests, is, shared) = same_keys new _ shared
keys_stay old new (turns.Finish why) told other (h, shared) = same_keys new _ shared
keys_stay old new (turns.Push channel credits) told other (h, shared) = same_keys new _ shared
keys_stay old new (turns.Hear channel answer) told other h = same_keys new _ h.rest
keys_stay old new (turns.Cut channel) told other (h, shared) = same_keys new _ shared
keys_stay old new turns.Lack told other h = absurd h

-- memory ran out, or the session that was accepted last has these keys
abbrev HasKeys : Keys → ClientTurns → Type 0
HasKeys k b = (b.book.stopped ≡ true) ⊎ ((1 ≤ b.book.numbers) × (b.book.keys ≡ k))

keyed_on : (k : Keys) (old new : ClientTurns) (turn : Turn) (told : Told) → TurnSteps old turn told new → (AcceptsSession turn → ⊥)
    → HasKeys k old → HasKeys k new
keyed_on k old new turn told (inl stops) other h = inl stops.stopped
keyed_on k old new turn told (inr (going, goes)) other (inl stopped) = absurd (let both : true ≡ false = sym stopped ∙ going in cc)
keyed_on k old new turn told (inr (going, goes)) other (inr (low, same)) =
    let more = stays old.book new.book turn told other goes in
    inr (omega (arith, low), keys_stay old.book new.book turn told other goes ∙ same)

accepted : (k : Keys) (session : ℕ) (old new : ClientTurns) (told : Told) → TurnSteps old (turns.Accept session k) told new → HasKeys k new
accepted k session old new told (inl stops) = inl stops.stopped
accepted k session old new told (inr (going, (rests, is, shared))) =
    inr (from_same 1 new.book.numbers (same_numbers new.book _ shared), same_keys new.book _ shared)

keyed_given : (k : Keys) (n : ℕ) (b : Bound) (old new : ClientTurns) → (old.book.stopped ≡ false) × IsNext old.book new.book b n
    → HasKeys k old → (1 < n) × (b.keys ≡ k)
keyed_given k n b old new (going, next) (inl stopped) = absurd (let both : true ≡ false = sym stopped ∙ going in cc)
keyed_given k n b old new (going, next) (inr (low, same)) = let more = next.0 in (omega (arith, low), next.2 ∙ same)

keyed_from : (k : Keys) (n : ℕ) (from to : ClientTurns) (log : Log) (j : ℕ) → Replays TurnSteps from log to → HasKeys k from
    → (g : GivesAt log j n) → ((i : ℕ) (e : Entry Turn Told) → i < j → slice_get log i ≡ Some e → AcceptsSession e.event → ⊥)
    → (1 < n) × (g.bound.keys ≡ k)
unfolding at_later
keyed_from k n from to [] j replays h g none = absurd (none_at g.entry g.stands)
keyed_from k n from to (e ∷ es) zero (next, step, rest) h g none = keyed_given k n g.bound from next (at_first e es n from next step g) h
keyed_from k n from to (e ∷ es) (suc j) (next, step, rest) h g none =
    keyed_from k n next to es j rest (keyed_on k from next e.event e.reply step (none 0 e (omega arith) refl) h) (at_later e es j n g)
    (λ i x lt at. none (suc i) x (omega (arith, lt)) at)

-- the first turn of a history accepts a session
first_accepted : (e : Entry Turn Told) (es : Log) (k : Keys) (from next : ClientTurns) → TurnSteps from e.event e.reply next
    → AcceptsAt (e ∷ es) 0 k → HasKeys k next
first_accepted e es k from next step a =
    let is : e.event ≡ turns.Accept a.session k = ap (λ (x : Entry Turn Told). x.event) (first_of e a.entry a.stands) ∙ a.accepts in
    accepted k a.session from next e.reply (subst (λ (t : Turn). TurnSteps from t e.reply next) is step)

keyed_both : (k : Keys) (n : ℕ) (from to : ClientTurns) (log : Log) (i j : ℕ) → Replays TurnSteps from log to → i < j → AcceptsAt log i k
    → (g : GivesAt log j n) → NoneAccepted log i j → (1 < n) × (g.bound.keys ≡ k)
unfolding at_later
keyed_both k n from to [] i j replays lt a g none = absurd (none_at g.entry g.stands)
keyed_both k n from to (e ∷ es) i zero (next, step, rest) lt a g none = absurd (omega (arith, lt))
keyed_both k n from to (e ∷ es) zero (suc j) (next, step, rest) lt a g none =
    keyed_from k n next to es j rest (first_accepted e es k from next step a) (at_later e es j n g)
    (λ i x less at. none (suc i) x (omega arith) (omega (arith, less)) at)
keyed_both k n from to (e ∷ es) (suc i) (suc j) (next, step, rest) lt a g none =
    keyed_both k n next to es i j rest (omega (arith, lt))
    (record { entry = a.entry; session = a.session; stands = a.stands; accepts = a.accepts }) (at_later e es j n g)
    (λ h x low less at. none (suc h) x (omega (arith, low)) (omega (arith, less)) at)

-- ---- no session was accepted

-- memory ran out, or the keys are of none
abbrev IsBare : ClientTurns → Type 0
IsBare b = (b.book.stopped ≡ true) ⊎ (b.book.keys.cipher ≡ 0)

bare_on : (old new : ClientTurns) (turn : Turn) (told : Told) → TurnSteps old turn told new → (AcceptsSession turn → ⊥) → IsBare old
    → IsBare new
bare_on old new turn told (inl stops) other h = inl stops.stopped
bare_on old new turn told (inr (going, goes)) other (inl stopped) = absurd (let both : true ≡ false = sym stopped ∙ going in cc)
bare_on old new turn told (inr (going, goes)) other (inr zero_is) =
    inr (ap (λ (k : Keys). k.cipher) (keys_stay old.book new.book turn told other goes) ∙ zero_is)

bare_given : (n : ℕ) (b : Bound) (old new : ClientTurns) → (old.book.stopped ≡ false) × IsNext old.book new.book b n → IsBare old
    → b.keys.cipher ≡ 0
bare_given n b old new (going, next) (inl stopped) = absurd (let both : true ≡ false = sym stopped ∙ going in cc)
bare_given n b old new (going, next) (inr zero_is) = ap (λ (k : Keys). k.cipher) next.2 ∙ zero_is

-- one that was bound is bound with these
pub bare_from : (n : ℕ) (from to : ClientTurns) (log : Log) (j : ℕ) → Replays TurnSteps from log to → IsBare from → (g : GivesAt log j n)
    → ((i : ℕ) (e : Entry Turn Told) → i < j → slice_get log i ≡ Some e → AcceptsSession e.event → ⊥) → g.bound.keys.cipher ≡ 0
unfolding at_later
bare_from n from to [] j replays h g none = absurd (none_at g.entry g.stands)
bare_from n from to (e ∷ es) zero (next, step, rest) h g none = bare_given n g.bound from next (at_first e es n from next step g) h
bare_from n from to (e ∷ es) (suc j) (next, step, rest) h g none =
    bare_from n next to es j rest (bare_on from next e.event e.reply step (none 0 e (omega arith) refl) h) (at_later e es j n g)
    (λ i x lt at. none (suc i) x (omega (arith, lt)) at)

pub numbers_rise : (from to : ClientTurns) (log : List (Entry Turn Told)) → Replays TurnSteps from log to → BoundNumbersRise log
numbers_rise from to log replays = record {
  above = λ i n g. above_none n from to log i replays g;
  below = λ i n g. below_given n from to log i replays g;
  rise = λ i j m n lt g h none. above_both m n from to log i j replays lt g h none;
  of_session = λ i j n keys lt a g none. keyed_both keys n from to log i j replays lt a g none;
}

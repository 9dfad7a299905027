-- Along a repeat run in which nothing is forged the client accepts no session twice, or SHA-512 collides.
use Rattle.std.proofs.Common.{◌≡◌, ◌≢◌, ℕ, zero, suc, ◌+◌, ◌≤◌, ◌<◌, ◌^◌, ◌==◌, Bool, true, false, if◌then◌else◌, List, [], ◌∷◌, ◌++◌, ◌⊎◌, inl, inr}
use Rattle.std.proofs.Common.{refl, sym, ap, ◌∙◌, subst, arith, Option, Some, None, slice_get, eqb-true, eq-eqb}
use Rattle.law_server.proofs.tables.Logic.{either}
use Rattle.spec_wire.proofs.messages.Numbers.{number_of-le}
use Rattle.spec_exchange.specs.Table.{put}
use Rattle.spec_exchange.specs.State.{Server}
use Rattle.spec_exchange.specs.CheckSetup.{is_new}
use Rattle.spec_exchange.specs.Client.{Client}
use Rattle.spec_exchange.specs.Network.{Event}
use Rattle.spec_world.specs.Settings.{WorldSettings}
use Rattle.spec_world.specs.Hearing.{begins_sealed}
use Rattle.spec_world.specs.World.{World, step_at}
use Rattle.spec_hostile.specs.RepeatRuns.{RepeatWorld, RepeatEvent, Same, Give, UpFrame, DownFrame, is_served, is_heard, uses_no_list, same_done}
use Rattle.spec_hostile.specs.RepeatRuns.{own_connection, loaded_up, given_up, given_down, give_up, give_down, repeat_happens, repeat_start}
use Rattle.spec_hostile.specs.SignedFor.{Watched, watching, watched_happens, watched_run}
use Rattle.spec_hostile.specs.HostileNetwork.{HasCollided, repeated}
use Rattle.law_nonces.specs.negotiation.Keeping.{NegotiationKeeps}
use Rattle.law_ties.specs.wire_facts.Fitting.{IsFitting}
use Rattle.law_hostile.specs.unforged.Unforged.{EventSigned, AllSigned}
use Rattle.law_hostile.specs.loosely.LooseSessions.{NoMoreMade}
use Rattle.law_hostile.specs.ended.Requests.{AsksSession, session_named, previous_named}
use Rattle.law_hostile.specs.ended.Orders.{AcceptedAreGiven, AcceptsNew, AcceptedIsNew}
use Rattle.law_hostile.proofs.negotiating.Keeping.{happens_keeps}
use Rattle.law_hostile.proofs.puts.Growing.{none_in, event_watched, watches_run}
use Rattle.law_hostile.proofs.puts.Replies.{in_either}
use Rattle.law_hostile.proofs.greeted.Greeting.{AllFine}
use Rattle.law_hostile.proofs.setups.Tokens.{RespReads}
use Rattle.law_hostile.proofs.dialogs.Lined.{AllPut}
use Rattle.law_hostile.proofs.loosely.Over.{KeepsOver, Stands, never}
use Rattle.law_hostile.proofs.ended.Ranks.{SameRanks}
use Rattle.law_hostile.proofs.ended.Turns.{Rests, Ends, Turn, IsStill, GoesOnTo, IsAccepted}
use Rattle.law_hostile.proofs.ended.Naming.{NamesLast, PutsMore, same_rests, up_rests, down_turns}
use Rattle.law_hostile.proofs.ended.Given.{HearsOne, StepsUp, steps_up}
use Rattle.law_hostile.proofs.ended.Moving.{event_moves}
use Rattle.law_hostile.proofs.ended.Begun.{new_is}
use Rattle.law_hostile.proofs.finals.Recalling.{same_recalls, down_takes}
use Rattle.law_hostile.proofs.ended.Beginning.{AllLast, FinalHas, none_last, both_last, heard_last, final_new, ended_made, heard_made}
use Rattle.law_hostile.proofs.ended.Accepted.{Grounds, Firm, FirmAt, Waited, fine_of, grounds_on, start_grounds, run_grounds, firm_on}
use Rattle.law_hostile.proofs.ended.Accepted.{event_collided, passes_waited, no_ups, signed_before}

-- ---- what is kept

-- of a request for a session, by the ranks of the sessions that it names: the one before it was accepted or is none, and its own wasn't yet,
-- or was later
pub record RankedBy (rank : ℕ → ℕ) (m : List ℕ) : Type 0 where
  pub positive : 0 < session_named m
  pub apart : previous_named m ≢ session_named m
  pub before : (previous_named m ≡ 0) ⊎ (0 < rank (previous_named m))
  pub later : (rank (session_named m) ≡ 0) ⊎ (rank (previous_named m) < rank (session_named m))

abbrev PreviousRanked : (ℕ → ℕ) → UpFrame → Type 0
PreviousRanked rank u =
    begins_sealed u.frame ≡ false → AsksSession u.frame → (previous_named u.frame ≡ 0) ⊎ (0 < rank (previous_named u.frame))

abbrev Given : Server → (ℕ → ℕ) → Type 0
Given s rank = (x : ℕ) → 0 < rank x → (0 < x) × NoMoreMade s x

pub record Ordered (r : RepeatWorld) : Type 0 where
  pub ranks : (x : ℕ) → r.world.values.client.rank x ≤ r.world.values.client.accepted_count
  pub last :
      0 < r.world.values.client.accepted_count
      → r.world.values.client.rank r.world.values.client.accepted ≡ r.world.values.client.accepted_count
  pub accepted : (r.world.values.client.accepted ≡ 0) ⊎ (0 < r.world.values.client.rank r.world.values.client.accepted)
  pub given : Given r.world.values.server r.world.values.client.rank
  pub made : AllLast (RankedBy r.world.values.client.rank) r.world.made
  pub ups : AllPut (PreviousRanked r.world.values.client.rank) r.ups

given_kept : (s u : Server) (rank : ℕ → ℕ) → KeepsOver s u → Given s rank → Given u rank
given_kept s u rank k g x on = let q = g x on in (q.0, k.made x q.1)

-- ---- what goes up names the session that was accepted last

both_put : (P : UpFrame → Type 0) (us vs : List UpFrame) → AllPut P us → AllPut P vs → AllPut P (us ++ vs)
both_put P us vs a b i u at = by (in_either us vs i u at)
  where
    by : ((m : ℕ) × (slice_get us m ≡ Some u)) ⊎ ((m : ℕ) × (slice_get vs m ≡ Some u)) → P u
    by (inl e) = a e.0 u e.1
    by (inr e) = b e.0 u e.1

more_ranked : (c : Client) (u : UpFrame) → c.accepted < 256 ^ 8 → (c.accepted ≡ 0) ⊎ (0 < c.rank c.accepted) → NamesLast c u
    → PreviousRanked c.rank u
more_ranked c u low known names bare asks =
    let e : previous_named u.frame ≡ c.accepted = names bare asks ∙ number_of-le 8 c.accepted low in
    subst (λ x. (x ≡ 0) ⊎ (0 < c.rank x)) (sym e) known

ups_ranked : (z : WorldSettings) (r s : RepeatWorld) → PutsMore r s → r.world.values.client.accepted < 256 ^ 8 → Ordered r
    → AllPut (PreviousRanked r.world.values.client.rank) s.ups
ups_ranked z r s p low o =
    let c = r.world.values.client in
    subst (AllPut (PreviousRanked c.rank)) (sym p.ups)
    (both_put (PreviousRanked c.rank) r.ups p.more o.ups (λ i u at. more_ranked c u low o.accepted (p.named i u at)))

-- ---- a step by which nothing is accepted

rests_ordered : (r s : RepeatWorld) → SameRanks r.world.values.client s.world.values.client
    → s.world.values.client.accepted ≡ r.world.values.client.accepted → KeepsOver r.world.values.server s.world.values.server
    → AllLast (RankedBy r.world.values.client.rank) s.world.made → AllPut (PreviousRanked r.world.values.client.rank) s.ups → Ordered r → Ordered s
rests_ordered r s same accepted over made ups o =
    let c = r.world.values.client in
    let d = s.world.values.client in
    record {
      ranks = λ x. subst (λ (f : ℕ → ℕ). f x ≤ d.accepted_count) (sym same.rank) (subst (λ n. c.rank x ≤ n) (sym same.count) (o.ranks x));
      last = λ on. ap (λ (f : ℕ → ℕ). f d.accepted) same.rank
          ∙ (ap c.rank accepted ∙ (o.last (subst (λ n. 0 < n) same.count on) ∙ sym same.count));
      accepted = subst (λ (f : ℕ → ℕ). (d.accepted ≡ 0) ⊎ (0 < f d.accepted)) (sym same.rank)
          (subst (λ x. (x ≡ 0) ⊎ (0 < c.rank x)) (sym accepted) o.accepted);
      given = subst (Given s.world.values.server) (sym same.rank) (given_kept r.world.values.server s.world.values.server c.rank over o.given);
      made = subst (λ f. AllLast (RankedBy f) s.world.made) (sym same.rank) made;
      ups = subst (λ f. AllPut (PreviousRanked f) s.ups) (sym same.rank) ups;
    }

-- ---- a session is made

not_ranked : (s : Server) (rank : ℕ → ℕ) (x k : ℕ) → Given s rank → is_new x (s.making k) ≡ true → rank x ≡ 0
not_ranked s rank x k g new = by (rank x) refl
  where
    by : (n : ℕ) → rank x ≡ n → rank x ≡ 0
    by zero e = e
    by (suc n) e =
        let q = g x (subst (λ m. 0 < m) (sym e) (omega arith)) in
        let made = q.1 in
        never (is_new x (s.making k)) (made.unmade k) new _

apart_of : (rank : ℕ → ℕ) (p x : ℕ) → 0 < x → rank x ≡ 0 → (p ≡ 0) ⊎ (0 < rank p) → p ≢ x
apart_of rank p x above none (inl zero_) e = absurd (omega (arith, above, zero_, e))
apart_of rank p x above none (inr on) e = absurd (let q : rank p ≡ 0 = ap rank e ∙ none in omega (arith, on, q))

-- a final response of a new session
final_ranked : RespReads → (z : WorldSettings) (r : RepeatWorld) (k i : ℕ) (u : UpFrame) → IsFitting z → AllFine z r → Stands r.world.values
    → slice_get r.ups i ≡ Some u → Ordered r → (h : HearsOne z r k u)
    → (let m = h.message in
    FinalHas (RankedBy r.world.values.client.rank) r.world.values.server r.world.values.moment m u.frame)
final_ranked reads z r k i u fitting fine stands at o h binding channel encrypts is a =
    let s = r.world.values.server in
    let m = h.message in
    let rank = r.world.values.client.rank in
    let x = session_named u.frame in
    let new = final_new reads z r k i u fitting fine at h binding channel encrypts is a in
    let fits = stands.fits.0 in
    let ids = fits.making_ids m.connection x (new_is x (s.making m.connection) new) in
    let none = not_ranked s rank x m.connection o.given new in
    let before = o.ups i u at (fine.1.ups i u at) a in
    record {
      positive = ids.0;
      apart = apart_of rank (previous_named u.frame) x ids.0 none before;
      before = before;
      later = inl none;
    }

up_made : RespReads → (z : WorldSettings) (r : RepeatWorld) (k i : ℕ) (u : UpFrame) → IsFitting z → AllFine z r → Stands r.world.values
    → slice_get r.ups i ≡ Some u → is_served r.world k ≡ true → Ordered r
    → AllLast (RankedBy r.world.values.client.rank) (given_up z r k u).world.made
up_made reads z r k i u fitting fine stands at on o = by (steps_up z r k i u fine at on)
  where
    by : StepsUp z r k u → AllLast (RankedBy r.world.values.client.rank) (given_up z r k u).world.made
    by (inl q) = subst (AllLast (RankedBy r.world.values.client.rank)) (sym (ended_made z r k u q.0 on q.1)) o.made
    by (inr h) =
        let rank = r.world.values.client.rank in
        let S = step_at z (loaded_up r k u) k u.frame in
        subst (AllLast (RankedBy rank)) (sym (heard_made z r k u on h))
        (both_last (RankedBy rank) r.world.made S.made o.made
        (heard_last (RankedBy rank) z r k u h (final_ranked reads z r k i u fitting fine stands at o h)))

-- ---- a session is accepted

same_count : (n : ℕ) → n ≤ n + 1
same_count n = omega arith

low_count : (a n : ℕ) → a ≤ n → a ≤ n + 1
low_count a n l = omega (arith, l)

more_count : (a n : ℕ) → a ≤ n → a < n + 1
more_count a n l = omega (arith, l)

none_before : (rank : ℕ → ℕ) (count p x : ℕ) → ((y : ℕ) → rank y ≤ count) → (0 < count → rank p ≡ count)
    → (rank x ≡ 0) ⊎ (rank p < rank x) → rank x ≡ 0
none_before rank count p x low last (inl e) = e
none_before rank count p x low last (inr l) =
    let a = low x in
    let e = last (omega (arith, a, l)) in
    absurd (omega (arith, a, l, e))

-- the ranks behind it
put_rank : (rank : ℕ → ℕ) (x n y : ℕ) (b : Bool) → (y == x) ≡ b → put rank x n y ≡ (if b then n else rank y)
put_rank rank x n y b e = ap (λ c. if c then n else rank y) e

positive_put : (rank : ℕ → ℕ) (x n y : ℕ) → 0 < rank y → 0 < put rank x (n + 1) y
positive_put rank x n y on = either (λ m. 0 < m) (y == x) (n + 1) (rank y) (λ _. omega arith) (λ _. on)

named_put : (rank : ℕ → ℕ) (count x : ℕ) (m : List ℕ) → ((y : ℕ) → rank y ≤ count) → rank x ≡ 0 → 0 < x → RankedBy rank m
    → RankedBy (put rank x (count + 1)) m
named_put rank count x m low none above h =
    record {
      positive = h.positive;
      apart = h.apart;
      before = before h.before;
      later = session (session_named m == x) refl;
    }
  where
    p : ℕ
    p = previous_named m

    before : (previous_named m ≡ 0) ⊎ (0 < rank (previous_named m))
        → (previous_named m ≡ 0) ⊎ (0 < put rank x (count + 1) (previous_named m))
    before (inl e) = inl e
    before (inr on) = inr (positive_put rank x count (previous_named m) on)

    -- the one before isn't x, where x is another session's
    other : (b : Bool) → (previous_named m == x) ≡ b → (b ≡ true → ⊥) → put rank x (count + 1) (previous_named m) ≡ rank (previous_named m)
    other true e no_ = absurd (no_ refl)
    other false e no_ = put_rank rank x (count + 1) (previous_named m) false e

    never_x : (previous_named m ≡ 0) ⊎ (0 < rank (previous_named m)) → previous_named m ≡ x → ⊥
    never_x (inl e) f = absurd (omega (arith, e, f, above))
    never_x (inr on) f = absurd (let q : rank (previous_named m) ≡ 0 = ap rank f ∙ none in omega (arith, on, q))

    kept : (rank (session_named m) ≡ 0) ⊎ (rank (previous_named m) < rank (session_named m)) → (session_named m == x) ≡ false
        → (put rank x (count + 1) (session_named m) ≡ 0)
        ⊎ (put rank x (count + 1) (previous_named m) < put rank x (count + 1) (session_named m))
    kept (inl e) off = inl (put_rank rank x (count + 1) (session_named m) false off ∙ e)
    kept (inr l) off =
        let a = other (previous_named m == x) refl (λ e. never_x h.before (eqb-true (previous_named m) x e)) in
        inr (subst (λ n. n < put rank x (count + 1) (session_named m)) (sym a)
        (subst (λ n. rank (previous_named m) < n) (sym (put_rank rank x (count + 1) (session_named m) false off)) l))

    session : (b : Bool) → (session_named m == x) ≡ b
        → (put rank x (count + 1) (session_named m) ≡ 0)
        ⊎ (put rank x (count + 1) (previous_named m) < put rank x (count + 1) (session_named m))
    session false off = kept h.later off
    session true on =
        let s = eqb-true (session_named m) x on in
        let a = other (previous_named m == x) refl (λ e. h.apart (eqb-true (previous_named m) x e ∙ sym s)) in
        inr (subst (λ n. n < put rank x (count + 1) (session_named m)) (sym a)
        (subst (λ n. rank (previous_named m) < n) (sym (put_rank rank x (count + 1) (session_named m) true on))
        (more_count (rank (previous_named m)) count (low (previous_named m)))))

ends_ordered : (z : WorldSettings) (r s : RepeatWorld) (k : ℕ) (frame : List ℕ) → KeepsOver r.world.values.server s.world.values.server
    → PutsMore r s → Ends z r.world s.world k frame → s.world.made ≡ r.world.made → r.world.values.client.accepted < 256 ^ 8
    → Waited z r.world.values.server r.world.made r.world.values.client.pending r.world.values.client.accepted → Ordered r
    → Ordered s × AcceptsNew r.world s.world
ends_ordered z r s k frame over p g same low w o =
    let c = r.world.values.client in
    let d = s.world.values.client in
    let x = c.pending in
    let count = c.accepted_count in
    let rank = put c.rank x (count + 1) in
    let e = w.entry in
    let named : RankedBy c.rank e.last = o.made e.index e.ending e.at e.front e.last e.texts e.asks in
    let above : 0 < x = subst (λ y. 0 < y) e.session named.positive in
    let later : (c.rank x ≡ 0) ⊎ (c.rank c.accepted < c.rank x) =
    subst (λ y. (c.rank x ≡ 0) ⊎ (c.rank y < c.rank x)) e.previous
    (subst (λ y. (c.rank y ≡ 0) ⊎ (c.rank (previous_named e.last) < c.rank y)) e.session named.later) in
    let none : c.rank x ≡ 0 = none_before c.rank count c.accepted x o.ranks o.last later in
    let here : rank x ≡ count + 1 = ap (λ b. if b then count + 1 else c.rank x) (eq-eqb x x refl) in
    let at : d.rank d.accepted ≡ count + 1 = ap (λ (f : ℕ → ℕ). f d.accepted) g.rank ∙ (ap rank g.accepted ∙ here) in (
      record {
        ranks = λ y. subst (λ (f : ℕ → ℕ). f y ≤ d.accepted_count) (sym g.rank)
            (subst (λ n. rank y ≤ n) (sym g.count)
            (either (λ m. m ≤ count + 1) (y == x) (count + 1) (c.rank y) (λ _. omega arith) (λ _. low_count (c.rank y) count (o.ranks y))));
        last = λ _. at ∙ sym g.count;
        accepted = inr (subst (λ n. 0 < n) (sym at) (omega arith));
        given = subst (Given s.world.values.server) (sym g.rank) (λ y on. given_at y (y == x) refl on);
        made = subst (λ f. AllLast (RankedBy f) s.world.made) (sym g.rank)
            (subst (AllLast (RankedBy rank)) (sym same)
            (λ i y at_ front last texts asks. named_put c.rank count x last o.ranks none above (o.made i y at_ front last texts asks)));
        ups = subst (λ f. AllPut (PreviousRanked f) s.ups) (sym g.rank)
            (λ i u at_ bare asks. wider u (ups_ranked z r s p low o i u at_ bare asks));
      },
      record {
        next = g.count;
        unranked = ap c.rank g.accepted ∙ none;
        positive = subst (λ y. 0 < y) (sym g.accepted) above;
      },
    )
  where
    wider : (u : UpFrame) → (let c = r.world.values.client in
        (previous_named u.frame ≡ 0) ⊎ (0 < c.rank (previous_named u.frame))
        → (previous_named u.frame ≡ 0) ⊎ (0 < put c.rank c.pending (c.accepted_count + 1) (previous_named u.frame)))
    wider u (inl e) = inl e
    wider u (inr on) =
        let c = r.world.values.client in inr (positive_put c.rank c.pending c.accepted_count (previous_named u.frame) on)

    given_at : (y : ℕ) (b : Bool) → (let c = r.world.values.client in
        (y == c.pending) ≡ b → 0 < put c.rank c.pending (c.accepted_count + 1) y → (0 < y) × NoMoreMade s.world.values.server y)
    given_at y true e on =
        let c = r.world.values.client in
        let q : y ≡ c.pending = eqb-true y c.pending e in
        let entry = w.entry in
        let named = o.made entry.index entry.ending entry.at entry.front entry.last entry.texts entry.asks in
        let begun = w.session in
        subst (λ i. (0 < i) × NoMoreMade s.world.values.server i) (sym q)
        (subst (λ i. 0 < i) entry.session named.positive, over.made c.pending begun.made)
    given_at y false e on =
        let c = r.world.values.client in
        given_kept r.world.values.server s.world.values.server c.rank over o.given y
        (subst (λ n. 0 < n) (put_rank c.rank c.pending (c.accepted_count + 1) y false e) on)

-- ---- each event

abbrev NewOr : World → World → Type 0
NewOr w v = (v.values.client.accepted_count ≡ w.values.client.accepted_count) ⊎ AcceptsNew w v

abbrev OrderedOn : RepeatWorld → RepeatWorld → Type 0
OrderedOn r s = HasCollided s.world ⊎ (Ordered s × NewOr r.world s.world)

still_ordered : (z : WorldSettings) (r s : RepeatWorld) (k : ℕ) → KeepsOver r.world.values.server s.world.values.server → Rests r.world s.world k
    → PutsMore r s → r.world.values.client.accepted < 256 ^ 8 → AllLast (RankedBy r.world.values.client.rank) s.world.made → Ordered r
    → OrderedOn r s
still_ordered z r s k over e p low made o =
    let n = e.names in
    let ranks = n.ranks in
    inr (rests_ordered r s ranks n.accepted over made (ups_ranked z r s p low o) o, inl ranks.count)

same_ordered : (z : WorldSettings) (t : Watched) (e : Event) → Grounds z t → Firm z t.repeating → Ordered t.repeating
    → (let v = repeat_happens z t.repeating (Same e) in KeepsOver t.repeating.world.values.server v.world.values.server → OrderedOn t.repeating v)
same_ordered z t e g f o over = by (uses_no_list e) refl over
  where
    by : (b : Bool) → uses_no_list e ≡ b
        → (let v = if b then same_done z t.repeating e else t.repeating in
        KeepsOver t.repeating.world.values.server v.world.values.server → OrderedOn t.repeating v)
    by true s keeps =
        let c = g.empties in
        let k = f.knows in
        let q = same_rests z t.repeating e s (c.up (own_connection e)) in
        let made : (same_done z t.repeating e).world.made ≡ t.repeating.world.made = (same_recalls z t.repeating.world e s).0 in
        still_ordered z t.repeating (same_done z t.repeating e) (own_connection e) keeps q.0 q.1 k.low
        (subst (AllLast (RankedBy t.repeating.world.values.client.rank)) (sym made) o.made) o
    by false s keeps = inr (o, inl refl)

up_ordered : RespReads → (z : WorldSettings) (t : Watched) (k place : ℕ) (q : Option UpFrame) → slice_get t.repeating.ups place ≡ q → IsFitting z
    → Grounds z t → Firm z t.repeating → Ordered t.repeating
    → (let v = give_up z t.repeating k q in KeepsOver t.repeating.world.values.server v.world.values.server → OrderedOn t.repeating v)
up_ordered reads z t k place None at fitting g f o over = inr (o, inl refl)
up_ordered reads z t k place (Some u) at fitting g f o over = by (is_served t.repeating.world k) refl over
  where
    by : (b : Bool) → is_served t.repeating.world k ≡ b
        → (let v = if b then given_up z t.repeating k u else t.repeating in
        KeepsOver t.repeating.world.values.server v.world.values.server → OrderedOn t.repeating v)
    by true on keeps =
        let h = f.knows in
        let q = up_rests z t.repeating k u on in
        still_ordered z t.repeating (given_up z t.repeating k u) k keeps q.0 q.1 h.low
        (up_made reads z t.repeating k place u fitting (fine_of z t g) g.stands at on o) o
    by false on keeps = inr (o, inl refl)

down_ordered : (z : WorldSettings) (t : Watched) (k place : ℕ) (d : DownFrame) → slice_get t.repeating.downs place ≡ Some d
    → is_heard t.repeating.world k ≡ true → EventSigned z t (Give k false place) → Grounds z t → Firm z t.repeating → Ordered t.repeating
    → (let v = given_down z t.repeating k d in NegotiationKeeps v.world → KeepsOver t.repeating.world.values.server v.world.values.server
    → OrderedOn t.repeating v)
down_ordered z t k place d at on all g f o keeps over = (let q = down_turns z t.repeating k d in by q.1 q.0)
  where
    same : (given_down z t.repeating k d).world.made ≡ t.repeating.world.made
    same = (down_takes z t.repeating k d).0

    made : AllLast (RankedBy t.repeating.world.values.client.rank) (given_down z t.repeating k d).world.made
    made = subst (AllLast (RankedBy t.repeating.world.values.client.rank)) (sym ((down_takes z t.repeating k d).0)) o.made

    waited : (let v = given_down z t.repeating k d in PutsMore t.repeating v → Ends z t.repeating.world v.world k d.frame
        → HasCollided v.world
        ⊎ Waited z t.repeating.world.values.server t.repeating.world.made t.repeating.world.values.client.pending
        t.repeating.world.values.client.accepted
        → OrderedOn t.repeating v)
    waited p e (inl c) = inl c
    waited p e (inr w) =
        let h = f.knows in
        let q = ends_ordered z t.repeating (given_down z t.repeating k d) k d.frame over p e ((down_takes z t.repeating k d).0) h.low w o in
        inr (q.0, inr q.1)

    by : (let v = given_down z t.repeating k d in PutsMore t.repeating v → Turn z t.repeating.world v.world k d.frame → OrderedOn t.repeating v)
    by p (IsStill e) = (let h = f.knows in still_ordered z t.repeating (given_down z t.repeating k d) k over e p h.low made o)
    by p (GoesOnTo e) =
        let h = f.knows in
        let v = given_down z t.repeating k d in
        let ranks = e.ranks in
        inr (rests_ordered t.repeating v ranks e.accepted over made (ups_ranked z t.repeating v p h.low o) o, inl ranks.count)
    by p (IsAccepted e) = waited p e (passes_waited z t k place d at on all g f keeps e)

give_down_ordered : (z : WorldSettings) (t : Watched) (k place : ℕ) (q : Option DownFrame) → slice_get t.repeating.downs place ≡ q
    → EventSigned z t (Give k false place) → Grounds z t → Firm z t.repeating → Ordered t.repeating
    → (let v = give_down z t.repeating k q in NegotiationKeeps v.world → KeepsOver t.repeating.world.values.server v.world.values.server
    → OrderedOn t.repeating v)
give_down_ordered z t k place None at all g f o keeps over = inr (o, inl refl)
give_down_ordered z t k place (Some d) at all g f o keeps over = by (is_heard t.repeating.world k) refl keeps over
  where
    by : (b : Bool) → is_heard t.repeating.world k ≡ b
        → (let v = if b then given_down z t.repeating k d else t.repeating in NegotiationKeeps v.world
        → KeepsOver t.repeating.world.values.server v.world.values.server → OrderedOn t.repeating v)
    by true on kept more = down_ordered z t k place d at on all g f o kept more
    by false on kept more = inr (o, inl refl)

event_ordered : RespReads → (z : WorldSettings) (t : Watched) (e : RepeatEvent) → IsFitting z → EventSigned z t e → Grounds z t
    → Firm z t.repeating → Ordered t.repeating → OrderedOn t.repeating (repeat_happens z t.repeating e)
event_ordered reads z t e fitting all g f o =
    let r = t.repeating in
    let m = event_moves z r e (fine_of z t g) g.stands in
    by e all (happens_keeps z r e g.keeps) m.over
  where
    by : (e : RepeatEvent) → EventSigned z t e
        → (let v = repeat_happens z t.repeating e in NegotiationKeeps v.world → KeepsOver t.repeating.world.values.server v.world.values.server
        → OrderedOn t.repeating v)
    by (Same e) all keeps over = same_ordered z t e g f o over
    by (Give k true place) all keeps over = up_ordered reads z t k place (slice_get t.repeating.ups place) refl fitting g f o over
    by (Give k false place) all keeps over = give_down_ordered z t k place (slice_get t.repeating.downs place) refl all g f o keeps over

-- ---- a run

abbrev BothAt : WorldSettings → RepeatWorld → Type 0
BothAt z r = HasCollided r.world ⊎ (Firm z r × Ordered r)

both_on : RespReads → (z : WorldSettings) (t : Watched) (e : RepeatEvent) → IsFitting z → EventSigned z t e → Grounds z t
    → BothAt z t.repeating → BothAt z (repeat_happens z t.repeating e)
both_on reads z t e fitting all g (inl c) = inl (event_collided z t.repeating e c)
both_on reads z t e fitting all g (inr q) =
    by (firm_on reads z t e fitting all g (inr q.0)) (event_ordered reads z t e fitting all g q.0 q.1)
  where
    by : FirmAt z (repeat_happens z t.repeating e) → OrderedOn t.repeating (repeat_happens z t.repeating e)
        → BothAt z (repeat_happens z t.repeating e)
    by (inl c) o = inl c
    by (inr f) (inl c) = inl c
    by (inr f) (inr o) = inr (f, o.0)

run_both : RespReads → (z : WorldSettings) (es : List RepeatEvent) (t : Watched) → IsFitting z → z.client.ciphers ≡ [] → AllSigned z es t
    → Grounds z t → BothAt z t.repeating → BothAt z (watched_run z es t).repeating
unfolding watched_run
run_both reads z [] t fitting c all g b = b
run_both reads z (e ∷ es) t fitting c all g b =
    run_both reads z es (watched_happens z t e) fitting c all.1 (grounds_on z t e c g)
    (subst (BothAt z) (sym (event_watched z t e)) (both_on reads z t e fitting all.0 g b))

start_ordered : (z : WorldSettings) → Ordered (repeat_start z)
start_ordered z =
    record {
      ranks = λ x. omega arith;
      last = λ on. refl;
      accepted = inl refl;
      given = λ x on. absurd (omega (arith, on));
      made = none_last (RankedBy (repeat_start z).world.values.client.rank);
      ups = λ i u at. absurd (none_in [] i u refl at);
    }

both_start : (z : WorldSettings) → BothAt z (repeat_start z)
both_start z = inr (no_ups z, start_ordered z)

pub accepted_given : RespReads → AcceptedAreGiven
accepted_given reads z es fitting alone all =
    let t = watching (repeat_start z) in
    by (subst (BothAt z) (watches_run z es t) (run_both reads z es t fitting alone.offered all (start_grounds z) (both_start z)))
  where
    by : BothAt z (repeated z es) → HasCollided (repeated z es).world
        ⊎ ((x : ℕ) → 0 < (repeated z es).world.values.client.rank x → (0 < x) × NoMoreMade (repeated z es).world.values.server x)
    by (inl c) = inl c
    by (inr q) = let o = q.1 in inr o.given

abbrev NewBehind : WorldSettings → RepeatWorld → RepeatEvent → Type 0
NewBehind z r e =
    (repeat_happens z r e).world.values.client.accepted_count ≢ r.world.values.client.accepted_count
    → HasCollided (repeat_happens z r e).world ⊎ AcceptsNew r.world (repeat_happens z r e).world

behind_event : RespReads → (z : WorldSettings) (t : Watched) (e : RepeatEvent) → IsFitting z → EventSigned z t e → Grounds z t
    → BothAt z t.repeating → NewBehind z t.repeating e
behind_event reads z t e fitting all g (inl c) other = inl (event_collided z t.repeating e c)
behind_event reads z t e fitting all g (inr q) other = by (event_ordered reads z t e fitting all g q.0 q.1)
  where
    next : NewOr t.repeating.world (repeat_happens z t.repeating e).world
        → HasCollided (repeat_happens z t.repeating e).world ⊎ AcceptsNew t.repeating.world (repeat_happens z t.repeating e).world
    next (inl same) = absurd (other same)
    next (inr a) = inr a

    by : OrderedOn t.repeating (repeat_happens z t.repeating e)
        → HasCollided (repeat_happens z t.repeating e).world ⊎ AcceptsNew t.repeating.world (repeat_happens z t.repeating e).world
    by (inl c) = inl c
    by (inr o) = next o.1

pub accepted_new : RespReads → AcceptedIsNew
accepted_new reads z es e fitting alone all =
    let t = watching (repeat_start z) in
    let q = signed_before z es e t all in
    subst (λ (r : RepeatWorld). NewBehind z r e) (watches_run z es t)
    (behind_event reads z (watched_run z es t) e fitting q.1 (run_grounds z es t alone.offered (start_grounds z))
    (run_both reads z es t fitting alone.offered q.0 (start_grounds z) (both_start z)))

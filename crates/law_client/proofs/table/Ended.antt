-- The session ends, or its last channel is cut.
use Rattle.std.proofs.Common.{◌≡◌, ℕ, ◌==◌, ◌&&◌, ◌||◌, not, Bool, true, false, if◌then◌else◌, arith}
use Rattle.std.proofs.Common.{◌⊎◌, inl, inr, refl, Option, Some, None, is_some}
use Rattle.spec_exchange.specs.Operations.{Outcome, Unsettled, WasOk, WasRefused, NoSlot, NoOpen, Unknown}
use Rattle.spec_exchange.specs.Operations.{Why, SessionLost, is_create, is_ok, is_unsettled, persists}
use Rattle.spec_exchange.specs.Client.{Client, create_for, is_gone_after, end_session, outcome_after_end}
use Rattle.spec_exchange.specs.Client.{unsent_after_end, on_after_cut, cut_channel, ends_at_cut}
use Rattle.spec_exchange.specs.ClientStep.{cut_after}
use Rattle.law_client.specs.table.Columns.{ops_of, standing_of}
use Rattle.law_client.specs.table.Kept.{TableKept}
use Rattle.law_client.proofs.table.Moves.{clash}
use Rattle.law_client.proofs.table.Ending.{ended_stands}
use Rattle.law_client.proofs.table.Sending.{sent_stands}
use Rattle.law_client.proofs.table.Heard.{ok_is_settled}
use Rattle.law_client.proofs.table.Chosen.{in_both}

-- ---- one operation's outcome: persist, sent, create, and its create's outcome and whether that went out

abbrev after_end : ℕ → Why → (persist sent create create_sent : Bool) → Outcome → Outcome
after_end x why persist sent create create_sent r = if persist then Unsettled else if sent then Unknown why else
    if create then Unsettled else unsent_after_end x create_sent r

abbrev IsLostBy : (sent create create_sent : Bool) → Outcome → Type 0
IsLostBy sent create create_sent r = (sent ≡ true) ⊎ ((create ≡ false) × ((is_unsettled r ≡ false) ⊎ (create_sent ≡ true)))

unsent_why : (x : ℕ) (create_sent : Bool) (r : Outcome) → is_unsettled (unsent_after_end x create_sent r) ≡ false
    → (is_unsettled r ≡ false) ⊎ (create_sent ≡ true)
unsent_why x true Unsettled h = inr refl
unsent_why x false Unsettled h = absurd (cc)
unsent_why x create_sent (WasOk reply) h = inl refl
unsent_why x create_sent (WasRefused status) h = inl refl
unsent_why x create_sent (NoSlot create) h = inl refl
unsent_why x create_sent (NoOpen create) h = inl refl
unsent_why x create_sent (Unknown why) h = inl refl

unsent_is : (x : ℕ) (create_sent : Bool) (r : Outcome) → (is_unsettled r ≡ false) ⊎ (create_sent ≡ true)
    → is_unsettled (unsent_after_end x create_sent r) ≡ false
unsent_is x true Unsettled h = refl
unsent_is x false Unsettled (inl e) = absurd (cc)
unsent_is x false Unsettled (inr e) = absurd (cc)
unsent_is x create_sent (WasOk reply) h = refl
unsent_is x create_sent (WasRefused status) h = refl
unsent_is x create_sent (NoSlot create) h = refl
unsent_is x create_sent (NoOpen create) h = refl
unsent_is x create_sent (Unknown why) h = refl

why_lost : (x : ℕ) (why : Why) (persist sent create create_sent : Bool) (r : Outcome)
    → is_unsettled (after_end x why persist sent create create_sent r) ≡ false → (persist ≡ false)
    × IsLostBy sent create create_sent r
why_lost x why true sent create create_sent r h = absurd (cc)
why_lost x why false true create create_sent r h = (refl, inl refl)
why_lost x why false false true create_sent r h = absurd (cc)
why_lost x why false false false create_sent r h = (refl, inr (refl, unsent_why x create_sent r h))

is_lost : (x : ℕ) (why : Why) (persist sent create create_sent : Bool) (r : Outcome) → persist ≡ false
    → IsLostBy sent create create_sent r → is_unsettled (after_end x why persist sent create create_sent r) ≡ false
is_lost x why true sent create create_sent r p h = absurd (cc)
is_lost x why false true create create_sent r p h = refl
is_lost x why false false true create_sent r p (inl e) = absurd (cc)
is_lost x why false false true create_sent r p (inr e) = absurd (clash true refl e.0)
is_lost x why false false false create_sent r p (inl e) = absurd (cc)
is_lost x why false false false create_sent r p (inr e) = unsent_is x create_sent r e.1

not_ok_by : (x : ℕ) (why : Why) (persist sent create create_sent : Bool) (r : Outcome)
    → is_ok (after_end x why persist sent create create_sent r) ≡ false
not_ok_by x why true sent create create_sent r = refl
not_ok_by x why false true create create_sent r = refl
not_ok_by x why false false true create_sent r = refl
not_ok_by x why false false false true Unsettled = refl
not_ok_by x why false false false false Unsettled = refl
not_ok_by x why false false false create_sent (WasOk reply) = refl
not_ok_by x why false false false create_sent (WasRefused status) = refl
not_ok_by x why false false false create_sent (NoSlot create) = refl
not_ok_by x why false false false create_sent (NoOpen create) = refl
not_ok_by x why false false false create_sent (Unknown w) = refl

-- ---- over the whole outcome

module _ (c : Client) (g : ℕ) where
  abbrev lost_by : Type 0
  lost_by = IsLostBy (c.sent g) (is_create (c.op g)) (c.sent (create_for c g)) (c.outcome (create_for c g))

  fewer : (r : Outcome) → is_unsettled (outcome_after_end c g r) ≡ true → is_unsettled r ≡ true
  fewer Unsettled h = refl
  fewer (WasOk reply) h = h
  fewer (WasRefused status) h = h
  fewer (NoSlot create) h = h
  fewer (NoOpen create) h = h
  fewer (Unknown why) h = h

  lost : (r : Outcome) → is_unsettled (outcome_after_end c g r) ≡ false → is_unsettled r ≡ true
      → (persists (c.op (create_for c g)) ≡ false) × lost_by
  lost Unsettled h e = why_lost (create_for c g) (SessionLost c.session_number) (persists (c.op (create_for c g)))
      (c.sent g) (is_create (c.op g)) (c.sent (create_for c g)) (c.outcome (create_for c g)) h
  lost (WasOk reply) h e = absurd (cc)
  lost (WasRefused status) h e = absurd (cc)
  lost (NoSlot create) h e = absurd (cc)
  lost (NoOpen create) h e = absurd (cc)
  lost (Unknown why) h e = absurd (cc)

  loses : (r : Outcome) → persists (c.op (create_for c g)) ≡ false → lost_by → is_unsettled (outcome_after_end c g r) ≡ false
  loses Unsettled p h = is_lost (create_for c g) (SessionLost c.session_number) (persists (c.op (create_for c g)))
      (c.sent g) (is_create (c.op g)) (c.sent (create_for c g)) (c.outcome (create_for c g)) p h
  loses (WasOk reply) p h = refl
  loses (WasRefused status) p h = refl
  loses (NoSlot create) p h = refl
  loses (NoOpen create) p h = refl
  loses (Unknown why) p h = refl

  same_ok : (r : Outcome) → is_ok (outcome_after_end c g r) ≡ is_ok r
  same_ok Unsettled = not_ok_by (create_for c g) (SessionLost c.session_number) (persists (c.op (create_for c g)))
      (c.sent g) (is_create (c.op g)) (c.sent (create_for c g)) (c.outcome (create_for c g))
  same_ok (WasOk reply) = refl
  same_ok (WasRefused status) = refl
  same_ok (NoSlot create) = refl
  same_ok (NoOpen create) = refl
  same_ok (Unknown why) = refl

-- ---- which opens are gone

gone_settled : (c : Client) (x : ℕ) (r : Outcome) → is_gone_after c x r ≡ true → is_unsettled r ≡ false
gone_settled c x Unsettled h = absurd (cc)
gone_settled c x (WasOk reply) h = refl
gone_settled c x (WasRefused status) h = refl
gone_settled c x (NoSlot create) h = refl
gone_settled c x (NoOpen create) h = refl
gone_settled c x (Unknown why) h = refl

-- it was gone, or it is plain, or it was unsettled
was_gone : (c : Client) (x : ℕ) (r : Outcome) → is_gone_after (end_session c) x (outcome_after_end c x r) ≡ true
    → (is_gone_after c x r ≡ true) ⊎ ((is_unsettled r ≡ true) ⊎ (persists (c.op x) ≡ false))
was_gone c x Unsettled h = inr (inl refl)
was_gone c x (WasOk reply) h = plain (c.closed_ok x) (persists (c.op x)) (c.live && (c.attached x == c.session_number)) h
  where
    plain : (closed persist attached : Bool) → (closed || (not persist && not false)) ≡ true
        → ((closed || (not persist && not attached)) ≡ true) ⊎ ((false ≡ true) ⊎ (persist ≡ false))
    plain true persist attached h = inl refl
    plain false true attached h = absurd (cc)
    plain false false attached h = inr (inr refl)
was_gone c x (WasRefused status) h = inl refl
was_gone c x (NoSlot create) h = inl refl
was_gone c x (NoOpen create) h = inl refl
was_gone c x (Unknown why) h = inl refl

pub end_keeps : (c : Client) → TableKept c → TableKept (end_session c)
end_keeps c i =
    record {
      ordered = i.ordered;
      ready = λ k h. absurd (cc);
      stands =
          ended_stands (ops_of c) (standing_of c) (standing_of (end_session c)) i.ordered i.stands (λ g h. ok_is_settled _ h) (record {
            fewer = λ g h. fewer c g (c.outcome g) h;
            lost = λ g h e. lost c g (c.outcome g) h e;
            loses = λ g p h. loses c g (c.outcome g) p h;
            ok = λ g. same_ok c g (c.outcome g);
            sent = λ g. refl;
            out = λ g h. absurd (cc);
            gone = λ g e h. (gone_settled (end_session c) g (outcome_after_end c g (c.outcome g)) h, was_gone c g (c.outcome g) h);
          });
    }

-- ---- a cut

cut_some : (k : ℕ) (o : Option ℕ) → is_some (on_after_cut k o) ≡ true → is_some o ≡ true
cut_some k None h = h
cut_some k (Some j) h = refl

put_ready : (f : ℕ → Bool) (k q : ℕ) → (if q == k then false else f q) ≡ true → f q ≡ true
put_ready f k q h = grind arith

channel_keeps : (c : Client) (k : ℕ) → TableKept c → TableKept (cut_channel c k)
channel_keeps c k i =
    record {
      ordered = i.ordered;
      ready = λ q h. i.ready q (put_ready c.ready k q h);
      stands =
          sent_stands (ops_of c) (standing_of c) (standing_of (cut_channel c k)) i.ordered i.stands (record {
            unsettled = λ x. refl;
            ok = λ x. refl;
            sent = λ x h. inl h;
            out = λ x h. inl (cut_some k (c.outstanding_on x) h);
            live = λ x h. i.stands.out_live x (cut_some k (c.outstanding_on x) h);
            gone = λ x h. h;
          });
    }

pub cut_keeps : (c : Client) (k : ℕ) → TableKept c → TableKept (cut_after c k)
cut_keeps c k i = in_both TableKept (c.ready k) _ c (λ h. in_both TableKept (ends_at_cut c) _ _ (λ e. end_keeps c i)
    (λ e. channel_keeps c k i)) (λ h. i)

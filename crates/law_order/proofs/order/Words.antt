-- Small facts of the client's table and of what waits.
use Rattle.std.proofs.lemmas.Bool.{eqb-false}
use Rattle.std.proofs.Common.{eqb-true, ◌≡◌, ◌≢◌, ℕ, ◌+◌, ◌<◌, ◌≤◌, ◌==◌, Bool, true, false, if◌then◌else◌, [], ◌∷◌}
use Rattle.std.proofs.Common.{◌++◌, ◌⊎◌, inl, inr, slice_get, is_some, refl, arith, sym, subst, Option, Some, None, ap}
use Rattle.std.proofs.Common.{◌∙◌}
use Rattle.spec_exchange.specs.Table.{put, is_at}
use Rattle.spec_exchange.specs.Operations.{Op, Outcome, Unsettled, WasOk, WasRefused, NoSlot, NoOpen, Unknown, Why}
use Rattle.spec_exchange.specs.Operations.{is_unsettled, is_firm, is_ok, is_create, persists}
use Rattle.spec_exchange.specs.Client.{Client, create_for, outcome_after_end, given_up_after_end, unsent_after_end}
use Rattle.spec_exchange.specs.Client.{outcome_after_finish, given_up_after_finish}
use Rattle.spec_exchange.specs.Content.{is_change}
use Rattle.spec_exchange.specs.State.{Message}
use Rattle.spec_exchange.specs.Network.{Token, ForOp, ForAttach, Conn, Sent, Received, send_up}
use Rattle.law_sessions.specs.messages.Connections.{makes_open}
use Rattle.law_sessions.proofs.messages.Lists.{get-push}
use Rattle.law_order.specs.order.Contents.{edits}
use Rattle.law_server.proofs.tables.Logic.{either}
use Rattle.law_sessions.specs.sessions.Sessions.{is_ops}

pub ops_of : (t : Token) (p : ℕ) → t ≡ ForOp p → is_ops t ≡ true
ops_of t p e = ap is_ops e

pub attach_of : (t : Token) (p : ℕ) → t ≡ ForAttach p → is_ops t ≡ true
attach_of t p e = ap is_ops e

-- ---- tables

pub put_other : {X : Type 0} (f : ℕ → X) (k : ℕ) (v : X) (q : ℕ) → q ≢ k → put f k v q ≡ f q
put_other f k v q n = grind arith

pub put_self : {X : Type 0} (f : ℕ → X) (k : ℕ) (v : X) → put f k v k ≡ v
put_self f k v = grind arith

-- a new number is above those that were taken
pub apart_new : (p g taken o : ℕ) → o ≡ p → o ≤ taken → g ≡ taken + 1 → p ≢ g
apart_new p g taken o e l n z = absurd (omega (arith, e, l, n, z))

pub below_new : (p g taken : ℕ) → p ≤ taken → g ≡ taken + 1 → p ≢ g
below_new p g taken l n z = absurd (omega (arith, l, n, z))

-- ---- outcomes that change without a reply

abbrev pub may_act : Outcome → Bool → Bool
may_act o lost = if is_unsettled o then true else lost

unsettled_of : (o : Outcome) → is_unsettled o ≡ true → o ≡ Unsettled
unsettled_of Unsettled e = refl
unsettled_of (WasOk reply) e = absurd (cc)
unsettled_of (WasRefused status) e = absurd (cc)
unsettled_of (NoSlot n) e = absurd (cc)
unsettled_of (NoOpen n) e = absurd (cc)
unsettled_of (Unknown why) e = absurd (cc)

pub outcomes_back : (new old : Outcome) (lost : Bool) → (is_unsettled old ≡ false → new ≡ old) → may_act new lost ≡ true
    → may_act old lost ≡ true
outcomes_back new old lost same e = by_test (is_unsettled old) refl
  where
    by_test : (b : Bool) → is_unsettled old ≡ b → may_act old lost ≡ true
    by_test true u = rw u refl
    by_test false u = subst (λ o. may_act o lost ≡ true) (same u) e

pub outcomes_on : (new old : Outcome) (lost : Bool) → (is_unsettled old ≡ false → new ≡ old)
    → (is_unsettled old ≡ true → is_unsettled new ≡ false → ⊥) → may_act old lost ≡ true → may_act new lost ≡ true
outcomes_on new old lost same never e = by_test (is_unsettled old) refl (is_unsettled new) refl
  where
    by_test : (b : Bool) → is_unsettled old ≡ b → (d : Bool) → is_unsettled new ≡ d → may_act new lost ≡ true
    by_test b u true v = rw v refl
    by_test true u false v = absurd (never u v)
    by_test false u false v = subst (λ o. may_act o lost ≡ true) (sym (same u)) e

-- ---- the session ends: o is the operation's outcome, v the session with which it was given up

by_persist : {X : Type 0} (P : X → Outcome → Type 0) (b s k : Bool) (a d : X) (u n : Outcome)
    → (b ≡ true → P a Unsettled) → (s ≡ true → P d u) → (s ≡ false → k ≡ true → P a Unsettled) → (s ≡ false → P a n)
    → P (if b then a else if s then d else a) (if b then Unsettled else if s then u else if k then Unsettled else n)
by_persist P true s k a d u n f g h m = f refl
by_persist P false true k a d u n f g h m = g refl
by_persist P false false true a d u n f g h m = h refl refl
by_persist P false false false a d u n f g h m = m refl

pub left_lost : (c : Client) (p z : ℕ) (o : Outcome) (v : Option ℕ) → (v ≡ Some z → is_unsettled o ≡ false × is_firm o
    ≡ false) → given_up_after_end c p o v ≡ Some z → is_unsettled (outcome_after_end c p o) ≡ false
    × is_firm (outcome_after_end c p o) ≡ false
left_lost c p z Unsettled v f =
    by_persist (λ w r. w ≡ Some z → is_unsettled r ≡ false × is_firm r ≡ false) (persists (c.op (create_for c p)))
    (c.sent p) (is_create (c.op p)) v (Some c.session) (Unknown _)
    (unsent_after_end (create_for c p) (c.sent (create_for c p)) (c.outcome (create_for c p)))
    (λ b e. absurd (let w = f e in cc)) (λ s e. (refl, refl)) (λ s k e. absurd (let w = f e in cc)) (λ s e. absurd (let w = f e in cc))
left_lost c p z (WasOk reply) v f = f
left_lost c p z (WasRefused status) v f = f
left_lost c p z (NoSlot n) v f = f
left_lost c p z (NoOpen n) v f = f
left_lost c p z (Unknown why) v f = f

unsent_ok : (n : ℕ) (b : Bool) (o : Outcome) → is_firm (unsent_after_end n b o) ≡ false × is_ok (unsent_after_end n b o) ≡ false
unsent_ok n b Unsettled = either (λ (r : Outcome). is_firm r ≡ false × is_ok r ≡ false) b _ _ (λ _. (refl, refl)) (λ _. (refl, refl))
unsent_ok n b (WasOk reply) = (refl, refl)
unsent_ok n b (WasRefused status) = (refl, refl)
unsent_ok n b (NoSlot m) = (refl, refl)
unsent_ok n b (NoOpen m) = (refl, refl)
unsent_ok n b (Unknown why) = (refl, refl)

-- it settles no operation as Ok or Refused
pub left_firm : (c : Client) (p : ℕ) (o : Outcome) → (is_firm (outcome_after_end c p o) ≡ true → is_firm o ≡ true)
    × (is_ok (outcome_after_end c p o) ≡ true → is_ok o ≡ true)
left_firm c p Unsettled =
    by_persist (λ (w : ℕ) r. (is_firm r ≡ true → false ≡ true) × (is_ok r ≡ true → false ≡ true))
    (persists (c.op (create_for c p))) (c.sent p) (is_create (c.op p)) 0 0 (Unknown _)
    (unsent_after_end (create_for c p) (c.sent (create_for c p)) (c.outcome (create_for c p)))
    (λ _. (λ e. e, λ e. e)) (λ _. (λ e. e, λ e. e)) (λ _ _. (λ e. e, λ e. e))
    (λ _. let u = unsent_ok (create_for c p) (c.sent (create_for c p)) (c.outcome (create_for c p)) in
    (λ e. sym u.0 ∙ e, λ e. sym u.1 ∙ e))
left_firm c p (WasOk reply) = (λ e. e, λ e. e)
left_firm c p (WasRefused status) = (λ e. e, λ e. e)
left_firm c p (NoSlot n) = (λ e. e, λ e. e)
left_firm c p (NoOpen n) = (λ e. e, λ e. e)
left_firm c p (Unknown why) = (λ e. e, λ e. e)

-- what went out and could act still can
pub left_on : (c : Client) (p : ℕ) (o : Outcome) (v : Option ℕ) → c.sent p ≡ true → may_act o (is_at c.session v) ≡ true
    → may_act (outcome_after_end c p o) (is_at c.session (given_up_after_end c p o v)) ≡ true
left_on c p Unsettled v s e =
    by_persist (λ w r. may_act r (is_at c.session w) ≡ true) (persists (c.op (create_for c p))) (c.sent p)
    (is_create (c.op p)) v (Some c.session) (Unknown _) (unsent_after_end (create_for c p) (c.sent (create_for c p))
    (c.outcome (create_for c p)))
    (λ _. refl) (λ _. at_self c.session) (λ t _. absurd (let u = s in cc)) (λ t. absurd (let u = s in cc))
  where
    at_self : (n : ℕ) → is_at n (Some n) ≡ true
    at_self n = grind arith
left_on c p (WasOk reply) v s e = e
left_on c p (WasRefused status) v s e = e
left_on c p (NoSlot n) v s e = e
left_on c p (NoOpen n) v s e = e
left_on c p (Unknown why) v s e = e

-- and what can act still could
pub left_was : (c : Client) (p : ℕ) (o : Outcome) (v : Option ℕ) → may_act (outcome_after_end c p o)
    (is_at c.session (given_up_after_end c p o v)) ≡ true → may_act o (is_at c.session v) ≡ true
left_was c p Unsettled v e = refl
left_was c p (WasOk reply) v e = e
left_was c p (WasRefused status) v e = e
left_was c p (NoSlot n) v e = e
left_was c p (NoOpen n) v e = e
left_was c p (Unknown why) v e = e

pub finished_was : (t : Bool) (why : Why) (session : ℕ) (o : Outcome) (v : Option ℕ)
    → may_act (if t then outcome_after_finish why o else o)
    (is_at session (if t then given_up_after_finish session o v else v)) ≡ true → may_act o (is_at session v) ≡ true
finished_was t why session Unsettled v e = refl
finished_was true why session (WasOk reply) v e = e
finished_was true why session (WasRefused status) v e = e
finished_was true why session (NoSlot n) v e = e
finished_was true why session (NoOpen n) v e = e
finished_was true why session (Unknown w) v e = e
finished_was false why session (WasOk reply) v e = e
finished_was false why session (WasRefused status) v e = e
finished_was false why session (NoSlot n) v e = e
finished_was false why session (NoOpen n) v e = e
finished_was false why session (Unknown w) v e = e

-- ---- opens

pub still_gone : (a b : Bool) → (a ≡ true → b ≡ true) → b ≡ false → a ≡ false
still_gone true b f e = let z = f refl in absurd (cc)
still_gone false b f e = refl

-- ---- what is found in tables and options

pub unput : {X : Type 0} (f : ℕ → X) (k : ℕ) (v : X) (j : ℕ) (w : X) → v ≢ w → put f k v j ≡ w → j ≢ k × f j ≡ w
unput f k v j w n e = elim (j == k) as (λ b. j == k ≡ b → j ≢ k × f j ≡ w) [
  | true ↦ λ z. absurd (n (sym (put_self f k v) ∙ (ap (put f k v) (sym (eqb-true j k z)) ∙ e)))
  | false ↦ λ z. (eqb-false j k z, sym (put_other f k v j (eqb-false j k z)) ∙ e)
] refl

pub some_of : (x : Option ℕ) → is_some x ≡ true → (o : ℕ) × (x ≡ Some o)
some_of None e = absurd (cc)
some_of (Some o) e = (o, refl)

pub sent_of : (b : Bool) (x : Option ℕ) → (b ≡ false → x ≡ None) → is_some x ≡ true → b ≡ true
sent_of true x f e = refl
sent_of false x f e = absurd (let z = f refl in grind arith)

-- at the start of a session nothing that was given up may act
pub begun_was : (o : Outcome) (v : Option ℕ) (z : ℕ) (lost : Bool) → (v ≡ Some z → ⊥) → may_act o (is_at z v) ≡ true → may_act o lost ≡ true
begun_was o None z lost n e = grind arith
begun_was o (Some x) z lost n e = by_test (is_at z (Some x)) refl
  where
    by_test : (b : Bool) → is_at z (Some x) ≡ b → may_act o lost ≡ true
    by_test true t = absurd (n (ap Some (eqb-true x z t)))
    by_test false t = still (ap (may_act o) (sym t) ∙ e)
      where
        still : may_act o false ≡ true → may_act o lost ≡ true
        still f = grind arith

pub live_pends : (o : Outcome) (v : Option ℕ) (session : ℕ) (live : Bool) → (v ≡ Some session → live ≡ false) → live
    ≡ true → may_act o (is_at session v) ≡ true → is_unsettled o ≡ true
live_pends o v session live f l e = by_test (is_unsettled o) refl
  where
    at_some : (x : Option ℕ) → is_at session x ≡ true → x ≡ Some session
    at_some None e = absurd (cc)
    at_some (Some y) e = ap Some (eqb-true y session e)

    by_test : (b : Bool) → is_unsettled o ≡ b → is_unsettled o ≡ true
    by_test true u = u
    by_test false u = absurd (let z = f (at_some v (ap (λ b. if b then true else is_at session v) (sym u) ∙ e)) in grind arith)

pub firm_settled : (o : Outcome) → is_firm o ≡ true → is_unsettled o ≡ false
firm_settled Unsettled e = absurd (cc)
firm_settled (WasOk reply) e = refl
firm_settled (WasRefused status) e = refl
firm_settled (NoSlot n) e = absurd (cc)
firm_settled (NoOpen n) e = absurd (cc)
firm_settled (Unknown why) e = absurd (cc)

pub ok_settled : (o : Outcome) → is_ok o ≡ true → is_unsettled o ≡ false
ok_settled Unsettled e = absurd (cc)
ok_settled (WasOk reply) e = refl
ok_settled (WasRefused status) e = absurd (cc)
ok_settled (NoSlot n) e = absurd (cc)
ok_settled (NoOpen n) e = absurd (cc)
ok_settled (Unknown why) e = absurd (cc)

-- an edit makes no open
pub edits_other : (op : Op) → edits op ≡ true → makes_open op ≡ false
unfolding edits makes_open is_change
edits_other op e = grind arith

-- what waits behind a push is what waited, or what was pushed
pub sent_up : (conns : ℕ → Conn) (k : ℕ) (t : Token) (m : Message) (n0 j n : ℕ) (x : Sent)
    → slice_get (put conns k (send_up (conns k) t m n0) j).up n ≡ Some x
    → (slice_get (conns j).up n ≡ Some x) ⊎ (x ≡ record { token = t; message = m })
sent_up conns k t m n0 j n x h = elim (j == k) as (λ b. j == k ≡ b → (slice_get (conns j).up n ≡ Some x) ⊎ (x ≡ record {
  token = t;
  message = m;
})) [
  | true ↦ λ e. let z = eqb-true j k e in by_push (get-push (conns k).up (record { token = t; message = m }) n).1
      (subst (λ i. slice_get (put conns k (send_up (conns k) t m n0) i).up n ≡ Some x) z h) z
  | false ↦ λ e. inl (subst (λ c. slice_get c.up n ≡ Some x) (put_other conns k (send_up (conns k) t m n0) j (eqb-false j k e)) h)
] refl
  where
    by_push : (slice_get ((conns k).up ++ record { token = t; message = m } ∷ []) n ≡ slice_get (conns k).up n)
        ⊎ (slice_get ((conns k).up ++ record { token = t; message = m } ∷ []) n ≡ Some (record {
          token = t;
          message = m;
        }))
        → slice_get (put conns k (send_up (conns k) t m n0) k).up n ≡ Some x → j ≡ k
        → (slice_get (conns j).up n ≡ Some x) ⊎ (x ≡ record { token = t; message = m })
    by_push (inl e) h z = inl (subst (λ i. slice_get (conns i).up n ≡ Some x) (sym z)
        (sym e ∙ (ap (λ c. slice_get c.up n) (sym (put_self conns k (send_up (conns k) t m n0))) ∙ h)))
    by_push (inr e) h z =
        inr (some_same x (record {
          token = t;
          message = m;
        }) (sym h ∙ (ap (λ c. slice_get c.up n) (put_self conns k (send_up (conns k) t m n0)) ∙ e)))
      where
        some_same : (x y : Sent) → Some x ≡ Some y → x ≡ y
        some_same x y e = grind arith

-- and the same of replies
pub sent_down : (conns : ℕ → Conn) (k : ℕ) (y0 : Received) (j n : ℕ) (x : Received)
    → slice_get (put conns k (record (conns k) { down = (conns k).down ++ y0 ∷ [] }) j).down n ≡ Some x
    → (slice_get (conns j).down n ≡ Some x) ⊎ (x ≡ y0)
sent_down conns k y0 j n x h = elim (j == k) as (λ b. j == k ≡ b → (slice_get (conns j).down n ≡ Some x) ⊎ (x ≡ y0)) [
  | true ↦ λ e. let z = eqb-true j k e in by_push (get-push (conns k).down y0 n).1
      (subst (λ i. slice_get (put conns k (record (conns k) { down = (conns k).down ++ y0 ∷ [] }) i).down n ≡ Some x) z
      h) z
  | false ↦ λ e. inl (subst (λ c. slice_get c.down n ≡ Some x) (put_other conns k (record (conns k) {
    down = (conns k).down ++ y0 ∷ [];
  }) j (eqb-false j k e)) h)
] refl
  where
    by_push : (slice_get ((conns k).down ++ y0 ∷ []) n ≡ slice_get (conns k).down n) ⊎ (slice_get ((conns k).down ++ y0 ∷ []) n ≡ Some y0)
        → slice_get (put conns k (record (conns k) { down = (conns k).down ++ y0 ∷ [] }) k).down n ≡ Some x → j ≡ k
        → (slice_get (conns j).down n ≡ Some x) ⊎ (x ≡ y0)
    by_push (inl e) h z = inl (subst (λ i. slice_get (conns i).down n ≡ Some x) (sym z)
        (sym e ∙ (ap (λ c. slice_get c.down n)
        (sym (put_self conns k (record (conns k) { down = (conns k).down ++ y0 ∷ [] }))) ∙ h)))
    by_push (inr e) h z =
        inr (some_same x y0 (sym h
        ∙ (ap (λ c. slice_get c.down n) (put_self conns k (record (conns k) { down = (conns k).down ++ y0 ∷ [] }))
        ∙ e)))
      where
        some_same : (x y : Received) → Some x ≡ Some y → x ≡ y
        some_same x y e = grind arith

pub or_else : {A B P : Type 0} → A ⊎ B → (A → P) → (B → P) → P
or_else (inl a) f g = f a
or_else (inr b) f g = g b

-- ---- places

pub split : (P : ℕ → Type 0) (n i : ℕ) → i < n + 1 → (i < n → P i) → P n → P i
split P n i l f p = elim (i == n) as (λ b. i == n ≡ b → P i) [
  | true ↦ λ e. subst P (sym (eqb-true i n e)) p
  | false ↦ λ e. let z = eqb-false i n e in f (omega (arith, l, z))
] refl

pub put_old : {X : Type 0} (f : ℕ → X) (n : ℕ) (v : X) (i : ℕ) → i < n → put f n v i ≡ f i
put_old f n v i l = let d : i ≢ n = omega arith in grind arith

-- Push: locks for which there is no slot settle, and an operation goes out, or a request to attach in its place.
use Rattle.std.proofs.Common.{◌≡◌, ℕ, Bool, true, false, if◌then◌else◌, List}
use Rattle.std.proofs.Common.{[], ◌∷◌, arith, ◌⊎◌, inl, inr, sym, ◌∙◌, ap, refl, Option, Some, None, is_some}
use Rattle.spec_exchange.specs.Table.{put}
use Rattle.spec_exchange.specs.Operations.{Op, Outcome, NoSlot, is_create, is_ok, is_unsettled, is_lock}
use Rattle.spec_exchange.specs.Client.{Client, create_for, is_gone_after, may_push}
use Rattle.spec_exchange.specs.Client.{goes_itself, has_its_slot, lacks_slot, settle_no_slot}
use Rattle.spec_exchange.specs.Client.{settle_no_slots, begin, again, outstanding, asked}
use Rattle.spec_exchange.specs.ClientStep.{Pick, itself_after, op_after, pick_after, push_after}
use Rattle.law_client.specs.table.Columns.{ops_of, standing_of}
use Rattle.law_client.specs.table.Kept.{TableKept, TableStands}
use Rattle.law_client.proofs.table.Moves.{Goes, clash}
use Rattle.law_client.proofs.table.Sending.{sent_stands, dropped_stands}
use Rattle.law_client.proofs.table.Waiting.{waits_not}
use Rattle.law_client.proofs.table.Chosen.{in_both, put_here, put_there, and_left, and_right, or_cases, not_true, is_positive}
use Rattle.law_client.proofs.table.Chosen.{is_at_most, none_is_out, put_is_some, put_is_true}

-- what a push asks of an operation
pub record MayGo (c : Client) (k g : ℕ) : Type 0 where
  pub goes : Goes (ops_of c) (standing_of c) g
  pub unsettled : is_unsettled (c.outcome g) ≡ true
  pub not_out : is_some (c.outstanding_on g) ≡ false
  pub live : c.live ≡ true

has_its_create : (create ok : Bool) → (if create then true else ok) ≡ true → create ≡ false → ok ≡ true
has_its_create create ok h e = grind arith

or_else : (a b : Bool) → (if a then true else b) ≡ true → a ≡ false → b ≡ true
or_else a b h e = grind arith

pub may_go : (c : Client) (k g : ℕ) → TableKept c → may_push c k g ≡ true → MayGo c k g
may_go c k g i h =
    let ready = and_left _ _ h in
    let a = and_right _ _ h in
    let taken = and_left _ _ a in
    let b = and_right _ _ a in
    let unsettled = and_left _ _ b in
    let d = and_right _ _ b in
    let none = and_left _ _ d in
    let e = and_right _ _ d in
    let has = and_left _ _ e in
    let free = not_true _ (and_right _ _ e) in
    record {
      goes = record {
        above = is_positive g (and_left _ _ taken);
        within = is_at_most g c.taken (and_right _ _ taken);
        has_open = λ n. elim (or_cases (is_create (c.op g)) (is_ok (c.outcome (create_for c g))) has) as
            (λ _. is_ok (c.outcome (create_for c g)) ≡ true)
            [ inl q ↦ absurd (clash (is_create (c.op g)) q n) | inr q ↦ q ];
        first = waits_not c g free;
      };
      unsettled = unsettled;
      not_out = none_is_out (c.outstanding_on g) none;
      live = i.ready k ready;
    }

-- ---- a lock without a slot

lock_is_other : (op : Op) → is_lock op ≡ true → is_create op ≡ false
lock_is_other op h = grind arith

no_slot_keeps : (c : Client) (k g : ℕ) → TableKept c → lacks_slot c k g ≡ true → TableKept (record c {
  outcome = put c.outcome g (NoSlot (create_for c g));
})
no_slot_keeps c k g i h =
    let m = may_go c k g i (and_left _ _ h) in
    let lock : is_lock (c.op g) ≡ true = and_left _ _ (and_left _ _ (and_right _ _ (and_right _ _ h))) in
    let r : Outcome = NoSlot (create_for c g) in
    let there = put_here c.outcome g r in
    let elsewhere = put_there c.outcome g r in
    record {
      ordered = i.ordered;
      ready = i.ready;
      stands =
          dropped_stands i.ordered i.stands m.goes.first (record {
            there = ap (λ n. is_unsettled n) (there g refl);
            other = lock_is_other (c.op g) lock;
            not_out = m.not_out;
            unsettled = λ x e. ap (λ n. is_unsettled n) (elsewhere x e);
            ok = λ x e. ap (λ n. is_ok n) (elsewhere x e);
            not_ok = λ e. clash _ e (ap (λ n. is_ok n) (there g refl));
            was = m.unsettled;
            sent = λ x. refl;
            out = λ x. refl;
            live = refl;
            gone = λ x e q. ap (λ n. is_gone_after c x n) (sym (elsewhere x e)) ∙ q;
          });
    }

settle_one_keeps : (c : Client) (k g : ℕ) → TableKept c → TableKept (settle_no_slot c k g)
settle_one_keeps c k g i = in_both TableKept (lacks_slot c k g) _ c (λ h. no_slot_keeps c k g i h) (λ h. i)

pub settle_all_keeps : (c : Client) (k : ℕ) (gs : List ℕ) → TableKept c → TableKept (settle_no_slots c k gs)
unfolding settle_no_slots
settle_all_keeps c k [] i = i
settle_all_keeps c k (g ∷ gs) i = settle_all_keeps (settle_no_slot c k g) k gs (settle_one_keeps c k g i)

-- ---- it goes out

-- sent and outstanding alone change, both at g
out_at : (c : Client) (k g : ℕ) → TableKept c → may_push c k g ≡ true → (on : ℕ → Option ℕ) (sent : ℕ → Bool)
    → ((x : ℕ) → is_some (on x) ≡ true → (is_some (c.outstanding_on x) ≡ true) ⊎ (x ≡ g))
    → ((x : ℕ) → sent x ≡ true → (c.sent x ≡ true) ⊎ (x ≡ g))
    → TableStands (ops_of c) (record (standing_of c) { sent = sent; out = λ x. is_some (on x) })
out_at c k g i h on sent f s =
    let m = may_go c k g i h in
    sent_stands (ops_of c) (standing_of c) _ i.ordered i.stands (record {
      unsettled = λ x. refl;
      ok = λ x. refl;
      sent = λ x e. elim (s x e) [ inl q ↦ inl q | inr q ↦ inr (rw q m.goes) ];
      out = λ x e. elim (f x e) [ inl q ↦ inl q | inr q ↦ inr (rw q (m.goes, m.unsettled)) ];
      live = λ x e. m.live;
      gone = λ x e. e;
    })

again_keeps : (c : Client) (k g : ℕ) → TableKept c → may_push c k g ≡ true → TableKept (outstanding (again c g) k g)
again_keeps c k g i h =
    let s = out_at c k g i h (put c.outstanding_on g (Some k)) c.sent (put_is_some c.outstanding_on g (Some k)) (λ x e. inl e) in
    in_both (λ d. TableKept (outstanding d k g)) (is_lock (c.op g)) _ c
    (λ e. record { ordered = i.ordered; stands = s; ready = i.ready }) (λ e. record { ordered = i.ordered; stands = s; ready = i.ready })

begin_keeps : (c : Client) (k g slot : ℕ) → TableKept c → may_push c k g ≡ true → TableKept (outstanding (begin c g slot) k g)
begin_keeps c k g slot i h =
    let s = out_at c k g i h (put c.outstanding_on g (Some k)) (put c.sent g true)
    (put_is_some c.outstanding_on g (Some k)) (put_is_true c.sent g) in
    in_both (λ d. TableKept (outstanding d k g)) (is_lock (c.op g)) _ _
    (λ e. record { ordered = i.ordered; stands = s; ready = i.ready }) (λ e. record { ordered = i.ordered; stands = s; ready = i.ready })

itself_keeps : (c : Client) (k g slot : ℕ) → TableKept c → may_push c k g ≡ true → TableKept (itself_after c k g slot)
itself_keeps c k g slot i h =
    in_both TableKept (has_its_slot c g slot) _ c
    (λ e. in_both (λ d. TableKept (outstanding d k g)) (c.sent g) _ _ (λ q. again_keeps c k g i h)
    (λ q. begin_keeps c k g slot i h)) (λ e. i)

asked_keeps : (c : Client) (k g : ℕ) → TableKept c → may_push c k g ≡ true → TableKept (asked c k g)
asked_keeps c k g i h =
    let s = out_at c k g i h (put c.outstanding_on g (Some k)) c.sent (put_is_some c.outstanding_on g (Some k)) (λ x e. inl e) in
    record { ordered = i.ordered; stands = s; ready = i.ready }

op_keeps : (c : Client) (k g slot : ℕ) → TableKept c → TableKept (op_after c k g slot)
op_keeps c k g slot i =
    in_both TableKept (may_push c k g) _ c (λ h. in_both TableKept (goes_itself c g) _ _ (λ e. itself_keeps c k g slot i h)
    (λ e. asked_keeps c k g i h)) (λ h. i)

pick_keeps : (c : Client) (k : ℕ) (pick : Option Pick) → TableKept c → TableKept (pick_after c k pick)
pick_keeps c k None i = i
pick_keeps c k (Some p) i = op_keeps c k p.op p.slot i

pub push_keeps : (c : Client) (k : ℕ) (slotless : List ℕ) (pick : Option Pick) → TableKept c → TableKept (push_after c k slotless pick)
push_keeps c k slotless pick i = in_both TableKept (c.ready k) _ c (λ h. pick_keeps (settle_no_slots c k slotless) k pick
    (settle_all_keeps c k slotless i)) (λ h. i)

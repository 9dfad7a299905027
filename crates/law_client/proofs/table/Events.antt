-- Each event keeps what is kept, and it holds at the beginning.
use Rattle.std.proofs.Common.{◌≡◌, ℕ, ◌+◌, ◌<◌, ◌≤◌, ◌==◌, ◌&&◌, ◌||◌, not, nat_le, nat_lt, Bool, true, false}
use Rattle.std.proofs.Common.{if◌then◌else◌, arith, inl, inr, sym, ◌∙◌, ap, refl, is_some}
use Rattle.spec_exchange.specs.Table.{put}
use Rattle.spec_exchange.specs.Operations.{Op, Outcome, Unsettled, WasOk, WasRefused, NoSlot, NoOpen, Unknown}
use Rattle.spec_exchange.specs.Operations.{Why, create_of, is_create, is_ok, is_unsettled, persists, holds_up}
use Rattle.spec_exchange.specs.Client.{Client, create_for, is_gone, is_gone_after, may_take, take_op, outcome_at_first}
use Rattle.spec_exchange.specs.Client.{is_taken, outcome_after_finish, finish, bind_channel, begin_session}
use Rattle.spec_exchange.specs.Client.{leave_dialog, note_refusal}
use Rattle.spec_exchange.specs.ClientStep.{ClientEvent, TakesOp, Pushes, Hears, IsCut, IsReady, IsRefused, Finishes}
use Rattle.spec_exchange.specs.ClientStep.{client_after, ready_after, becomes_ready}
use Rattle.spec_exchange.specs.Network.{Settings, start}
use Rattle.law_client.specs.table.Columns.{ops_of, standing_of}
use Rattle.law_client.specs.table.Kept.{TableKept, Ordered, IsTimely}
use Rattle.law_client.proofs.table.Moves.{moved, clash, whole_first}
use Rattle.law_client.proofs.table.Sending.{sent_stands}
use Rattle.law_client.proofs.table.Taking.{taken_stands}
use Rattle.law_client.proofs.table.Heard.{ok_is_settled}
use Rattle.law_client.proofs.table.Ended.{cut_keeps}
use Rattle.law_client.proofs.table.Pushed.{push_keeps}
use Rattle.law_client.proofs.table.Replies.{hear_keeps}
use Rattle.law_client.proofs.table.Chosen.{in_both, put_here, put_there, and_left, and_right, or_cases, is_same}
use Rattle.law_client.proofs.table.Chosen.{is_positive, is_less, same_or_other}

-- ---- a channel becomes ready, or its dialog is refused

put_true : (f : ℕ → Bool) (live : Bool) (k q : ℕ) → live ≡ true → (f q ≡ true → live ≡ true)
    → (if q == k then true else f q) ≡ true → live ≡ true
put_true f live k q h l e = h

bind_keeps : (c : Client) (k : ℕ) → c.live ≡ true → TableKept c → TableKept (bind_channel c k)
bind_keeps c k live i = record { ordered = i.ordered; stands = i.stands; ready = λ q h. live }

begun_gone : (c : Client) (k session tree x : ℕ) (r : Outcome) → c.live ≡ false
    → is_gone_after (begin_session c k session tree) x r ≡ true → is_gone_after c x r ≡ true
begun_gone c k session tree x Unsettled l h = h
begun_gone c k session tree x (WasOk reply) l h = less (c.closed_ok x) (persists (c.op x)) c.live
    (c.attached x == (c.session_number + 1)) (c.attached x == c.session_number) l h
  where
    less : (closed persist live a b : Bool) → live ≡ false → (closed || (not persist && not (true && a))) ≡ true
        → (closed || (not persist && not (live && b))) ≡ true
    less closed persist live a b l h = grind arith
begun_gone c k session tree x (WasRefused status) l h = h
begun_gone c k session tree x (NoSlot create) l h = h
begun_gone c k session tree x (NoOpen create) l h = h
begun_gone c k session tree x (Unknown why) l h = h

begin_keeps : (c : Client) (k session tree : ℕ) → c.live ≡ false → TableKept c → TableKept (begin_session c k session tree)
begin_keeps c k session tree dead i =
    record {
      ordered = i.ordered;
      ready = λ q h. refl;
      stands =
          sent_stands (ops_of c) (standing_of c) (standing_of (begin_session c k session tree)) i.ordered i.stands (record {
            unsettled = λ x. refl;
            ok = λ x. refl;
            sent = λ x h. inl h;
            out = λ x h. inl h;
            live = λ x h. refl;
            gone = λ x h. begun_gone c k session tree x (c.outcome x) dead h;
          });
    }

ready_keeps : (c : Client) (k session tree : ℕ) → TableKept c → TableKept (ready_after c k session tree)
ready_keeps c k session tree i =
    in_both TableKept (becomes_ready c session) _ (leave_dialog c k)
    (λ h. in_both TableKept c.live (bind_channel c k) (begin_session c k session tree) (λ e. bind_keeps c k e i)
    (λ e. begin_keeps c k session tree e i))
    (λ h. record { ordered = i.ordered; stands = i.stands; ready = i.ready })

refused_keeps : (c : Client) (k : ℕ) (why : _) → TableKept c → TableKept (note_refusal c k why)
refused_keeps c k why i = record { ordered = i.ordered; stands = i.stands; ready = i.ready }

-- ---- all is given up

unsettled_after : (why : Why) (r : Outcome) → is_unsettled (outcome_after_finish why r) ≡ false
unsettled_after why Unsettled = refl
unsettled_after why (WasOk reply) = refl
unsettled_after why (WasRefused status) = refl
unsettled_after why (NoSlot create) = refl
unsettled_after why (NoOpen create) = refl
unsettled_after why (Unknown w) = refl

same_ok : (why : Why) (r : Outcome) → is_ok (outcome_after_finish why r) ≡ is_ok r
same_ok why Unsettled = refl
same_ok why (WasOk reply) = refl
same_ok why (WasRefused status) = refl
same_ok why (NoSlot create) = refl
same_ok why (NoOpen create) = refl
same_ok why (Unknown w) = refl

if_ok : (b : Bool) (why : Why) (r : Outcome) → is_ok (if b then outcome_after_finish why r else r) ≡ is_ok r
if_ok true why r = same_ok why r
if_ok false why r = refl

if_settled : (b : Bool) (why : Why) (r : Outcome) → b ≡ true → is_unsettled (if b then outcome_after_finish why r else r) ≡ false
if_settled true why r e = unsettled_after why r
if_settled false why r e = absurd (cc)

if_fewer : (b : Bool) (why : Why) (r : Outcome) → is_unsettled (if b then outcome_after_finish why r else r) ≡ true → is_unsettled r ≡ true
if_fewer true why r h = absurd (clash _ h (unsettled_after why r))
if_fewer false why r h = h

taken_is : (g n : ℕ) → 0 < g → g ≤ n → (nat_lt 0 g && nat_le g n) ≡ true
taken_is g n a b = grind arith

finish_keeps : (c : Client) (why : Why) → c.live ≡ false → TableKept c → TableKept (finish c why)
finish_keeps c why dead i =
    let d = finish c why in
    let settled : (g : ℕ) → 0 < g → g ≤ c.taken → is_unsettled (d.outcome g) ≡ false =
    (λ g a b. if_settled (is_taken c g) why (c.outcome g) (taken_is g c.taken a b)) in
    let none : (g : ℕ) → is_some (c.outstanding_on g) ≡ true → ⊥ = (λ g h. clash c.live (i.stands.out_live g h) dead) in
    record {
      ordered = i.ordered;
      ready = i.ready;
      stands =
          moved (ops_of c) (standing_of c) (standing_of d) i.stands (record {
            fewer = λ g h. if_fewer (is_taken c g) why (c.outcome g) h;
            ok_stays = λ g h. if_ok (is_taken c g) why (c.outcome g) ∙ h;
            ok_settled = λ g h. ok_is_settled (d.outcome g) h;
            opens = λ g a b e h q w. absurd (clash _ h (settled g a b));
            sends = λ g h. inl h;
            puts_out = λ g h. inl h;
            out_unsettled = λ g h. absurd (none g h);
            out_live = λ g h. absurd (none g h);
            settles = λ g a b h w. whole_first (ops_of c) (standing_of d) g i.ordered b (λ x l m n s. settled x l m);
            gone = λ g a b e h. settled g a b;
          });
    }

-- ---- an operation is taken

first_outcome : (create gone : Bool) (x : ℕ) → is_unsettled (if create then Unsettled else if gone then NoOpen x else
    Unsettled) ≡ false → create ≡ false × gone ≡ true
first_outcome true gone x h = absurd (cc)
first_outcome false true x h = (refl, refl)
first_outcome false false x h = absurd (cc)

gone_at_first : (create gone : Bool) (x : ℕ) → create ≡ false → gone ≡ true
    → is_unsettled (if create then Unsettled else if gone then NoOpen x else Unsettled) ≡ false
gone_at_first create gone x e h = rw (e, h) refl

not_gone_at_first : (create gone : Bool) (x : ℕ) → create ≡ false
    → is_unsettled (if create then Unsettled else if gone then NoOpen x else Unsettled) ≡ true → gone ≡ false
not_gone_at_first true gone x e h = absurd (cc)
not_gone_at_first false true x e h = absurd (cc)
not_gone_at_first false false x e h = refl

not_ok_at_first : (create gone : Bool) (x : ℕ) → is_ok (if create then Unsettled else if gone then NoOpen x else Unsettled) ≡ true → ⊥
not_ok_at_first true gone x h = clash false h refl
not_ok_at_first false true x h = clash false h refl
not_ok_at_first false false x h = clash false h refl

ok_unless_gone : (c : Client) (x : ℕ) (r : Outcome) → is_gone_after c x r ≡ false → is_unsettled r ≡ false → is_ok r ≡ true
ok_unless_gone c x Unsettled h e = absurd (cc)
ok_unless_gone c x (WasOk reply) h e = refl
ok_unless_gone c x (WasRefused status) h e = absurd (cc)
ok_unless_gone c x (NoSlot create) h e = absurd (cc)
ok_unless_gone c x (NoOpen create) h e = absurd (cc)
ok_unless_gone c x (Unknown why) h e = absurd (cc)

its_own : (g : ℕ) (op : Op) → is_create op ≡ true → create_of g op ≡ g
its_own g op e = grind arith

no_hold : (a b : Op) → is_create a ≡ true → holds_up a b ≡ false
no_hold a b e = grind arith

taken_ordered : (c : Client) (g : ℕ) (op : Op) → TableKept c → g ≡ c.taken + 1
    → (is_create op ≡ false → 0 < create_of g op × create_of g op < g × is_create (c.op (create_of g op)) ≡ true)
    → Ordered (ops_of (take_op c g op))
taken_ordered c g op i next its =
    record {
      nought = (let e : put c.op g op 0 ≡ c.op 0 = put_there c.op g op 0 (λ q. omega arith) in ap (λ o. create_of 0 o) e
          ∙ i.ordered.nought);
      itself = λ x e. its_own x (put c.op g op x) e;
      passes = λ h x e. no_hold (put c.op g op h) (put c.op g op x) e;
      owned = λ x above within other. (
          elim (same_or_other x g) as (λ _. 0 < create_of x (put c.op g op x) × create_of x (put c.op g op x) < x
          × is_create (put c.op g op (create_of x (put c.op g op x))) ≡ true) [
            | inl e ↦ (
                let p = put_here c.op g op x e in
                let w = its (ap (λ o. is_create o) (sym p) ∙ other) in
                let q : create_of x (put c.op g op x) ≡ create_of g op = (λ t. create_of (e t) (p t)) in
                let s : put c.op g op (create_of x (put c.op g op x)) ≡ c.op (create_of g op) =
                ap (λ n. put c.op g op n) q ∙ put_there c.op g op (create_of g op) (λ k. omega arith) in
                (omega arith, omega arith, ap (λ o. is_create o) s ∙ w.2)
                )
            | inr e ↦ (
                let p = put_there c.op g op x e in
                let w = i.ordered.owned x above (omega arith) (ap (λ o. is_create o) (sym p) ∙ other) in
                let q : create_of x (put c.op g op x) ≡ create_of x (c.op x) = ap (λ o. create_of x o) p in
                let s : put c.op g op (create_of x (put c.op g op x)) ≡ c.op (create_of x (c.op x)) =
                ap (λ n. put c.op g op n) q ∙ put_there c.op g op (create_of x (c.op x)) (λ k. omega arith) in
                (omega arith, omega arith, ap (λ o. is_create o) s ∙ w.2)
                )
          ]
          );
    }

take_keeps : (c : Client) (g : ℕ) (op : Op) → TableKept c → g ≡ c.taken + 1
    → (is_create op ≡ false → 0 < create_of g op × create_of g op < g × is_create (c.op (create_of g op)) ≡ true)
    → TableKept (take_op c g op)
take_keeps c g op i next its =
    let d = take_op c g op in
    let r : Outcome = outcome_at_first c g op in
    let here = put_here c.outcome g r g refl in
    let same = put_here c.op g op g refl in
    let its_of : create_for d g ≡ create_of g op = ap (λ o. create_of g o) same in
    record {
      ordered = taken_ordered c g op i next its;
      ready = i.ready;
      stands =
          taken_stands i.ordered i.stands (record {
            next = next;
            taken = refl;
            create = λ x e. ap (λ o. is_create o) (put_there c.op g op x e);
            of = λ x e. ap (λ o. create_of x o) (put_there c.op g op x e);
            holds = λ x y e h. (λ t. holds_up (put_there c.op g op x e t) (put_there c.op g op y h t));
            unsettled = λ x e. ap (λ o. is_unsettled o) (put_there c.outcome g r x e);
            ok = λ x e. ap (λ o. is_ok o) (put_there c.outcome g r x e);
            not_ok = λ h. not_ok_at_first (is_create op) (is_gone c (create_of g op)) (create_of g op) (ap (λ o. is_ok o) (sym here) ∙ h);
            sent = λ x. refl;
            out = λ x. refl;
            live = refl;
            gone = λ x e. other_gone x e;
            ordered = taken_ordered c g op i next its;
            new_open = λ e h s. (
                let n : is_create op ≡ false = ap (λ o. is_create o) (sym same) ∙ e in
                let q = not_gone_at_first (is_create op) (is_gone c (create_of g op)) (create_of g op) n
                (ap (λ o. is_unsettled o) (sym here) ∙ h) in
                ap (λ x. is_ok (c.outcome x)) its_of ∙ ok_unless_gone c (create_of g op) (c.outcome (create_of g op)) q
                (ap (λ x. is_unsettled (c.outcome x)) (sym its_of) ∙ s)
                );
            new_gone = λ e h. (
                let n : is_create op ≡ false = ap (λ o. is_create o) (sym same) ∙ e in
                ap (λ o. is_unsettled o) here ∙ gone_at_first (is_create op) (is_gone c (create_of g op))
                (create_of g op) n (ap (λ x. is_gone c x) (sym its_of) ∙ h)
                );
            new_settled = λ h. (
                let w = first_outcome (is_create op) (is_gone c (create_of g op)) (create_of g op)
                (ap (λ o. is_unsettled o) (sym here) ∙ h) in
                (ap (λ o. is_create o) same ∙ w.0, ap (λ x. is_gone c x) its_of ∙ w.1)
                );
          });
    }
  where
    gone_by : (x : ℕ) (a b : Op) (r s : Outcome) → a ≡ b → r ≡ s → is_gone_after (record c { op = put c.op g op }) x r
        ≡ is_gone_after (record c { op = put c.op g op }) x s
    gone_by x a b r s e h = ap (λ o. is_gone_after (record c { op = put c.op g op }) x o) h

    op_gone : (x : ℕ) (s : Outcome) → put c.op g op x ≡ c.op x → is_gone_after (record c { op = put c.op g op }) x s ≡ is_gone_after c x s
    op_gone x Unsettled e = refl
    op_gone x (WasOk reply) e = λ t. c.closed_ok x || (not (persists (e t)) && not (c.live && (c.attached x == c.session_number)))
    op_gone x (WasRefused status) e = refl
    op_gone x (NoSlot create) e = refl
    op_gone x (NoOpen create) e = refl
    op_gone x (Unknown why) e = refl

    other_gone : (x : ℕ) → (x ≡ g → ⊥) → is_gone (take_op c g op) x ≡ is_gone c x
    other_gone x e = ap (λ o. is_gone_after (take_op c g op) x o) (put_there c.outcome g (outcome_at_first c g op) x e)
        ∙ op_gone x (c.outcome x) (put_there c.op g op x e)

submit_keeps : (c : Client) (g : ℕ) (op : Op) → TableKept c → TableKept (if may_take c g op then take_op c g op else c)
submit_keeps c g op i =
    in_both TableKept (may_take c g op) (take_op c g op) c
    (λ h.
    let a = is_same g (c.taken + 1) (and_left _ _ h) in
    let b = and_right _ _ (and_right _ _ h) in
    take_keeps c g op i a (λ n.
    elim (or_cases (is_create op) (nat_lt 0 (create_of g op)
    && (nat_lt (create_of g op) g && is_create (c.op (create_of g op)))) b) as (λ _. 0 < create_of g op
    × create_of g op < g × is_create (c.op (create_of g op)) ≡ true) [
      | inl e ↦ absurd (clash (is_create op) e n)
      | inr e ↦ (
        is_positive (create_of g op) (and_left _ _ e),
        is_less (create_of g op) g
            (and_left _ _ (and_right _ _ e)),
        and_right _ _ (and_right _ _ e),
      )
    ]))
    (λ h. i)

-- ---- all events

pub keeps : (c : Client) (e : ClientEvent) → TableKept c → IsTimely c e → TableKept (client_after c e)
keeps c (TakesOp g op) i t = submit_keeps c g op i
keeps c (Pushes k slotless pick) i t = push_keeps c k slotless pick i
keeps c (Hears k g asking reply place) i t = hear_keeps c k g asking reply place i
keeps c (IsCut k) i t = cut_keeps c k i
keeps c (IsReady k session tree) i t = ready_keeps c k session tree i
keeps c (IsRefused k why) i t = refused_keeps c k why i
keeps c (Finishes why) i t = finish_keeps c why t i

-- ---- the beginning

pub begins : (z : Settings) → TableKept (start z).client
begins z =
    record {
      ordered = record {
        nought = refl;
        owned = λ g a b e. absurd (omega arith);
        itself = λ g e. absurd (cc);
        passes = λ h g e. absurd (cc);
      };
      ready = λ k h. absurd (cc);
      stands = record {
        opened = λ g a b e h s. absurd (omega arith);
        ok_settled = λ g h. absurd (cc);
        out_unsettled = λ g h. refl;
        out_taken = λ g h. absurd (cc);
        out_open = λ g h e. absurd (cc);
        out_first = λ g h. absurd (cc);
        out_live = λ g h. absurd (cc);
        sent_taken = λ g h. absurd (cc);
        sent_open = λ g h e. absurd (cc);
        sent_first = λ g h. absurd (cc);
        settled_first = λ g a b h. absurd (omega arith);
        gone_settled = λ g a b e h. absurd (omega arith);
      };
    }

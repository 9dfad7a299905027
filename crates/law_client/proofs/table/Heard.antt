-- A reply is heard: its operation settles, goes out again, attaches its open, or the session ends.
use Rattle.std.proofs.Common.{◌≡◌, ℕ, ◌==◌, ◌&&◌, ◌||◌, not, Bool, true, false, if◌then◌else◌}
use Rattle.std.proofs.Common.{arith, ◌⊎◌, inl, inr, sym, ◌∙◌, ap, refl, is_some}
use Rattle.spec_exchange.specs.Table.{put}
use Rattle.spec_exchange.specs.Operations.{Op, Outcome, Unsettled, WasOk, WasRefused}
use Rattle.spec_exchange.specs.Operations.{NoSlot, NoOpen, Unknown, is_create, is_close, is_ok}
use Rattle.spec_exchange.specs.Operations.{is_unsettled, persists, holds_up}
use Rattle.spec_exchange.specs.Client.{Client, create_for, is_gone, is_gone_after}
use Rattle.spec_exchange.specs.Settling.{without_open}
use Rattle.spec_exchange.specs.Settling.{with_no_opens, settled}
use Rattle.law_client.specs.table.Columns.{ops_of, standing_of, ClientAllSettled}
use Rattle.law_client.specs.table.Kept.{TableKept}
use Rattle.law_client.proofs.table.Moves.{true_or_false, clash}
use Rattle.law_client.proofs.table.Settling.{settled_stands, create_whole, create_none_out, close_whole, close_none_out}
use Rattle.law_client.proofs.table.Chosen.{put_here, put_there, and_left, and_right, not_true, is_same, same_or_other, put_none}

-- ---- what an operation of an open that is gone comes to

same_without : (names sent gone : Bool) (x : ℕ) (r : Outcome) → names ≡ false → without_open names sent gone x r ≡ r
same_without names sent gone x Unsettled e = rw e refl
same_without names sent gone x (WasOk reply) e = refl
same_without names sent gone x (WasRefused status) e = refl
same_without names sent gone x (NoSlot create) e = refl
same_without names sent gone x (NoOpen create) e = refl
same_without names sent gone x (Unknown why) e = refl

still_settled : (names sent gone : Bool) (x : ℕ) (r : Outcome) → is_unsettled r ≡ false
    → is_unsettled (without_open names sent gone x r) ≡ false
still_settled names sent gone x Unsettled e = absurd (cc)
still_settled names sent gone x (WasOk reply) e = refl
still_settled names sent gone x (WasRefused status) e = refl
still_settled names sent gone x (NoSlot create) e = refl
still_settled names sent gone x (NoOpen create) e = refl
still_settled names sent gone x (Unknown why) e = refl

still_ok : (names sent gone : Bool) (x : ℕ) (r : Outcome) → is_ok r ≡ true → is_ok (without_open names sent gone x r) ≡ true
still_ok names sent gone x Unsettled e = absurd (cc)
still_ok names sent gone x (WasOk reply) e = refl
still_ok names sent gone x (WasRefused status) e = absurd (cc)
still_ok names sent gone x (NoSlot create) e = absurd (cc)
still_ok names sent gone x (NoOpen create) e = absurd (cc)
still_ok names sent gone x (Unknown why) e = absurd (cc)

if_given : (names sent gone : Bool) (x : ℕ) → is_unsettled (if names && (not sent && gone) then NoOpen x else Unsettled)
    ≡ false → names ≡ true × sent ≡ false × gone ≡ true
if_given true true true x e = absurd (cc)
if_given true true false x e = absurd (cc)
if_given true false true x e = (refl, refl, refl)
if_given true false false x e = absurd (cc)
if_given false sent gone x e = absurd (cc)

why_given : (names sent gone : Bool) (x : ℕ) (r : Outcome) → is_unsettled (without_open names sent gone x r) ≡ false
    → is_unsettled r ≡ true → names ≡ true × sent ≡ false × gone ≡ true
why_given names sent gone x Unsettled e h = if_given names sent gone x e
why_given names sent gone x (WasOk reply) e h = absurd (cc)
why_given names sent gone x (WasRefused status) e h = absurd (cc)
why_given names sent gone x (NoSlot create) e h = absurd (cc)
why_given names sent gone x (NoOpen create) e h = absurd (cc)
why_given names sent gone x (Unknown why) e h = absurd (cc)

is_given : (names sent gone : Bool) (x : ℕ) (r : Outcome) → names ≡ true → sent ≡ false → gone ≡ true
    → is_unsettled (without_open names sent gone x r) ≡ false
is_given names sent gone x Unsettled a b c = rw (a, b, c) refl
is_given names sent gone x (WasOk reply) a b c = refl
is_given names sent gone x (WasRefused status) a b c = refl
is_given names sent gone x (NoSlot create) a b c = refl
is_given names sent gone x (NoOpen create) a b c = refl
is_given names sent gone x (Unknown why) a b c = refl

pub ok_is_settled : (r : Outcome) → is_ok r ≡ true → is_unsettled r ≡ false
ok_is_settled Unsettled e = absurd (cc)
ok_is_settled (WasOk reply) e = refl
ok_is_settled (WasRefused status) e = refl
ok_is_settled (NoSlot create) e = refl
ok_is_settled (NoOpen create) e = refl
ok_is_settled (Unknown why) e = refl

gives_by : (c : Client) (x : ℕ) (r : Outcome) → is_unsettled r ≡ false → is_gone_after c x r ≡ false → is_ok r ≡ true
gives_by c x Unsettled e h = absurd (cc)
gives_by c x (WasOk reply) e h = refl
gives_by c x (WasRefused status) e h = absurd (cc)
gives_by c x (NoSlot create) e h = absurd (cc)
gives_by c x (NoOpen create) e h = absurd (cc)
gives_by c x (Unknown why) e h = absurd (cc)

abbrev pub noted_by : Client → (ℕ → ℕ) → (ℕ → ℕ) → (ℕ → Bool) → (ℕ → ℕ → Bool) → Client
noted_by c file attached closed full = record c { file = file; attached = attached; closed_ok = closed; full = full }

-- of an open whose columns stayed
gone_same : (c : Client) (file attached : ℕ → ℕ) (closed : ℕ → Bool) (full : ℕ → ℕ → Bool) (x : ℕ) (r : Outcome)
    → attached x ≡ c.attached x → closed x ≡ c.closed_ok x → is_gone_after (noted_by c file attached closed full) x r
    ≡ is_gone_after c x r
gone_same c file attached closed full x Unsettled a b = refl
gone_same c file attached closed full x (WasOk reply) a b = λ t. b t
    || (not (persists (c.op x)) && not (c.live && (a t == c.session_number)))
gone_same c file attached closed full x (WasRefused status) a b = refl
gone_same c file attached closed full x (NoSlot create) a b = refl
gone_same c file attached closed full x (NoOpen create) a b = refl
gone_same c file attached closed full x (Unknown why) a b = refl

names_not : (same create : Bool) → create ≡ true → (same && not create) ≡ false
names_not true create e = rw e refl
names_not false create e = refl

names_it : (same create : Bool) → same ≡ true → create ≡ false → (same && not create) ≡ true
names_it same create a b = rw (a, b) refl

equal : (x y : ℕ) → x ≡ y → (x == y) ≡ true
equal x y e = grind arith

pub out_is_put : (c : Client) (g : ℕ) (o : Outcome) (x : ℕ) → is_unsettled o ≡ false → is_unsettled (put c.outcome g o x)
    ≡ true → is_unsettled (c.outcome x) ≡ true
out_is_put c g o x s h =
    elim (same_or_other x g) as (λ _. is_unsettled (c.outcome x) ≡ true) [
      | inl e ↦ absurd (clash (is_unsettled o) (ap (λ n. is_unsettled n) (sym (put_here c.outcome g o x e)) ∙ h) s)
      | inr e ↦ ap (λ n. is_unsettled n) (sym (put_there c.outcome g o x e)) ∙ h
    ]

close_under : (a b : Op) → is_create a ≡ false → is_close b ≡ true → holds_up a b ≡ true
close_under a b h k = grind arith

close_over : (a b : Op) → is_close a ≡ true → holds_up a b ≡ true
close_over a b h = grind arith

-- ---- a create or a close settles

module _ (c : Client) (g place : ℕ) (o : Outcome) (file attached : ℕ → ℕ) (closed : ℕ → Bool) (full : ℕ → ℕ → Bool) (x0 : ℕ) where
  abbrev behind : Client
  behind = settled (noted_by c file attached closed full) g o place

  abbrev after : Client
  after = with_no_opens behind x0

  gone_stays : (x : ℕ) → is_create (c.op x) ≡ true → is_gone after x ≡ is_gone behind x
  gone_stays x e = ap (λ n. is_gone_after behind x n) (same_without _ (c.sent x) _ x0 (put c.outcome g o x)
      (names_not (create_for c x == x0) (is_create (c.op x)) e))

  pub opening_keeps : TableKept c → is_some (c.outstanding_on g) ≡ true → is_unsettled o ≡ false → x0 ≡ create_for c g
      → is_create (c.op x0) ≡ true
      → ((x : ℕ) → (x ≡ x0 → ⊥) → attached x ≡ c.attached x) → ((x : ℕ) → (x ≡ x0 → ⊥) → closed x ≡ c.closed_ok x)
      → ((is_create (c.op g) ≡ true) ⊎ ((is_create (c.op g) ≡ false) × (is_close (c.op g) ≡ true)))
      → TableKept after
  opening_keeps i out settles own first a b kind =
      let there : is_unsettled (after.outcome g) ≡ false = still_settled _ (c.sent g) _ x0 (put c.outcome g o g)
      (ap (λ n. is_unsettled n) (put_here c.outcome g o g refl) ∙ settles) in
      let was = i.stands.out_unsettled g out in
      let fewer : (x : ℕ) → is_unsettled (after.outcome x) ≡ true → is_unsettled (c.outcome x) ≡ true = (λ x h.
      elim (true_or_false (is_unsettled (put c.outcome g o x))) as (λ _. is_unsettled (c.outcome x) ≡ true) [
        | inl e ↦ out_is_put c g o x settles e
        | inr e ↦ absurd (clash _ h (still_settled _ (c.sent x) _ x0 (put c.outcome g o x) e))
      ]) in
      let given : is_gone after x0 ≡ true → (x : ℕ) → is_create (c.op x) ≡ false → create_for c x ≡ x0 → c.sent x
      ≡ false → is_unsettled (after.outcome x) ≡ false = (λ q x e s h.
      is_given _ (c.sent x) _ x0 (put c.outcome g o x) (names_it (create_for c x == x0) (is_create (c.op x))
      (equal _ _ s) e) h (sym (gone_stays x0 first) ∙ q)) in
      record {
        ordered = i.ordered;
        ready = i.ready;
        stands =
            settled_stands (ops_of c) (standing_of c) (standing_of after) g i.ordered i.stands out (record {
              there = there;
              fewer = fewer;
              given_up = λ x n h before. (
                  let same = put_there c.outcome g o x n in
                  let w = why_given _ (c.sent x) _ x0 (put c.outcome g o x) h (ap (λ m. is_unsettled m) same ∙ before) in (
                    not_true _ (and_right _ _ w.0),
                    is_same _ _ (and_left _ _ w.0) ∙ own,
                    ap (λ m. is_gone after m)
                        (sym own) ∙ gone_stays x0 first ∙ w.2,
                  )
                  );
              ok_stays = λ x h. still_ok _ (c.sent x) _ x0 (put c.outcome g o x) (
                  elim (same_or_other x g) as (λ _. is_ok (put c.outcome g o x) ≡ true) [
                    | inl e ↦ absurd (clash (is_unsettled (c.outcome g)) was
                        (ok_is_settled (c.outcome g) (ap (λ n. is_ok (c.outcome n)) (sym e) ∙ h)))
                    | inr e ↦ ap (λ n. is_ok n) (put_there c.outcome g o x e) ∙ h
                  ]
                  );
              ok_settled = λ x h. ok_is_settled (after.outcome x) h;
              gives = λ e h. gives_by behind g (after.outcome g) there h;
              sent = λ x h. h;
              out = λ x h. put_none c.outstanding_on g x h;
              live = λ h. h;
              gone_other = λ x n e h. (
                  let m : x ≡ x0 → ⊥ = (λ q. n (q ∙ own)) in
                  let l : x ≡ g → ⊥ = (λ q. n (q ∙ sym (i.ordered.itself g (ap (λ v. is_create (c.op v)) (sym q) ∙ e)))) in
                  sym (gone_same c file attached closed full x (c.outcome x) (a x m) (b x m))
                  ∙ ap (λ r. is_gone_after behind x r) (sym (put_there c.outcome g o x l)) ∙ sym (gone_stays x e) ∙ h
                  );
              whole = λ q. whole i out there fewer (given (ap (λ n. is_gone after n) own ∙ q)) own kind;
              none_out = λ x n e s q h. none i out kind x n e s h;
            });
      }
    where
      whole : TableKept c → is_some (c.outstanding_on g) ≡ true → is_unsettled (after.outcome g) ≡ false
          → ((x : ℕ) → is_unsettled (after.outcome x) ≡ true → is_unsettled (c.outcome x) ≡ true)
          → ((x : ℕ) → is_create (c.op x) ≡ false → create_for c x ≡ x0 → c.sent x ≡ false
          → is_unsettled (after.outcome x) ≡ false) → x0 ≡ create_for c g
          → ((is_create (c.op g) ≡ true) ⊎ ((is_create (c.op g) ≡ false) × (is_close (c.op g) ≡ true)))
          → ClientAllSettled (ops_of c) (standing_of after) (create_for c g)
      whole i out there fewer given own (inl e) =
          let s = i.ordered.itself g e in
          create_whole (ops_of c) (standing_of c) (standing_of after) g i.stands out s fewer (λ x n q h. given x n (q ∙ sym s ∙ sym own) h)
      whole i out there fewer given own (inr e) =
          close_whole (ops_of c) (standing_of c) (standing_of after) g i.stands out
          (λ x n. close_under (c.op x) (c.op g) n e.1) (λ x. close_over (c.op g) (c.op x) e.1) there fewer
          (λ x n q h. given x n (q ∙ sym own) h)

      none : TableKept c → is_some (c.outstanding_on g) ≡ true
          → ((is_create (c.op g) ≡ true) ⊎ ((is_create (c.op g) ≡ false) × (is_close (c.op g) ≡ true))) → (x : ℕ)
          → (x ≡ g → ⊥) → is_create (c.op x) ≡ false → create_for c x ≡ create_for c g → is_some (c.outstanding_on x)
          ≡ true → ⊥
      none i out (inl e) x n q s h = create_none_out (ops_of c) (standing_of c) g i.stands out (i.ordered.itself g e) x q s h
      none i out (inr e) x n q s h = close_none_out (ops_of c) (standing_of c) g i.stands out
          (λ y m. close_under (c.op y) (c.op g) m e.1) (λ y. close_over (c.op g) (c.op y) e.1) x n q s h

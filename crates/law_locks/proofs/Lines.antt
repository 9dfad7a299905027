-- What the lines of the settling table say of the reply that they settle by.
use Rattle.std.proofs.lemmas.Bool.{eqb-false}
use Rattle.std.proofs.Common.{eqb-true, ◌≡◌, ◌≢◌, ℕ, ◌==◌, Bool, true, false, not, ◌&&◌, ◌||◌, if◌then◌else◌, refl}
use Rattle.std.proofs.Common.{arith, sym, ◌∙◌, ap, Option, Some, None}
use Rattle.spec_exchange.specs.Status.{success, user_session_deleted, file_closed, object_name_not_found, disk_full}
use Rattle.spec_exchange.specs.State.{Reply}
use Rattle.spec_exchange.specs.Operations.{Op, OpReply, Outcome, Unsettled, WasOk, WasRefused, Unknown, WithStatus}
use Rattle.spec_exchange.specs.Operations.{IsDone, is_unsettled, is_ok, is_close, is_lock, value_in}
use Rattle.spec_exchange.specs.Client.{Client}
use Rattle.spec_exchange.specs.Settling.{Heard as Hearing, Settles, GoesAgain, Attaches, EndsSession, heard}
use Rattle.spec_exchange.specs.Settling.{ok_or_unknown, was_closed, may_have_acted, refuses_all, goes_again}
use Rattle.law_server.proofs.tables.Logic.{either}
use Rattle.law_locks.specs.Locks.{is_unsent, refused_for_good, locking}

abbrev pub outcome_in : Hearing → Outcome
outcome_in (Settles o) = o
outcome_in GoesAgain = Unsettled
outcome_in Attaches = Unsettled
outcome_in EndsSession = Unsettled

pub record Tells (op : Op) (asking before : Bool) (status : ℕ) (h : Hearing) : Type 0 where
  pub real : is_unsent (outcome_in h) ≡ false
  pub ok : is_ok (outcome_in h) ≡ true → is_close op ≡ false → asking ≡ false × status ≡ success
  pub refuses : refused_for_good (outcome_in h) ≡ true → status ≢ success × status ≢ user_session_deleted
  pub refused_all : refused_for_good (outcome_in h) ≡ true → before ≡ true → locking op ≡ true
      → (asking && (status == object_name_not_found)) ≡ false × status ≢ disk_full
  pub close : is_close op ≡ true → asking ≡ false → before ≡ true → is_unsettled (outcome_in h) ≡ false
      → is_ok (outcome_in h) ≡ false → status ≢ user_session_deleted × status ≢ file_closed

unsettled_tells : (op : Op) (asking before : Bool) (status : ℕ) (h : Hearing) → outcome_in h ≡ Unsettled → Tells op asking before status h
unfolding is_unsent refused_for_good
unsettled_tells op asking before status h e =
    record {
      real = ap is_unsent e;
      ok = λ f. absurd (grind arith);
      refuses = λ f. absurd (grind arith);
      refused_all = λ f. absurd (grind arith);
      close = λ c n b u. absurd (grind arith);
    }

ok_tells : (op : Op) (before : Bool) (status : ℕ) → status ≡ success → (v : Option OpReply) → Tells op false before status (ok_or_unknown v)
unfolding is_unsent refused_for_good
ok_tells op before status e None =
    record {
      real = refl;
      ok = λ f. absurd (cc);
      refuses = λ f. absurd (cc);
      refused_all = λ f. absurd (cc);
      close = λ c n b u o. (other status user_session_deleted e refl, other status file_closed e refl);
    }
  where
    other : (st n : ℕ) → st ≡ success → (success == n) ≡ false → st ≢ n
    other st n e f = λ h. eqb-false success n f (sym e ∙ h)
ok_tells op before status e (Some reply) =
    record {
      real = refl;
      ok = λ f c. (refl, e);
      refuses = λ f. absurd (cc);
      refused_all = λ f. absurd (cc);
      close = λ c n b u o. absurd (cc);
    }

abbrev line_of : Bool → Bool → Bool → Bool → ℕ → Hearing
line_of before closed may all status =
    if not before then Settles (WasRefused status)
    else if closed then Settles (WasOk IsDone)
    else if may then Settles (Unknown (WithStatus status))
    else if all then Settles (WasRefused status)
    else Settles (Unknown (WithStatus status))

line_tells : (op : Op) (asking before closed may all : Bool) (status : ℕ) → (closed ≡ true → is_close op ≡ true)
    → (is_close op ≡ true → asking ≡ false → closed ≡ false → status ≢ file_closed)
    → (may ≡ false → locking op ≡ true → (asking && (status == object_name_not_found)) ≡ false)
    → (all ≡ true → locking op ≡ true → status ≢ disk_full)
    → status ≢ user_session_deleted → status ≢ success → Tells op asking before status (line_of before closed may all status)
unfolding is_unsent refused_for_good
line_tells op asking before closed may all status c1 c2 m1 a1 d s =
    let P : Hearing → Type 0 = λ h. Tells op asking before status h in
    either P (not before) _ _
    (λ n. record {
      real = refl;
      ok = λ f. absurd (cc);
      refuses = λ f. (s, d);
      refused_all = λ f b. absurd (grind arith);
      close = λ c n2 b u o. absurd (grind arith);
    })
    (λ n. either P closed _ _
    (λ c. record {
      real = refl;
      ok = λ f g. absurd (let x = c1 c in grind arith);
      refuses = λ f. absurd (cc);
      refused_all = λ f. absurd (cc);
      close = λ q n2 b u o. absurd (cc);
    })
    (λ c. either P may _ _
    (λ m. record {
      real = refl;
      ok = λ f. absurd (cc);
      refuses = λ f. absurd (cc);
      refused_all = λ f. absurd (cc);
      close = λ q n2 b u o. (d, c2 q n2 c);
    })
    (λ m. either P all _ _
    (λ al. record {
      real = refl;
      ok = λ f. absurd (cc);
      refuses = λ f. (s, d);
      refused_all = λ f b l. (m1 m l, a1 al l);
      close = λ q n2 b u o. (d, c2 q n2 c);
    })
    (λ al. record {
      real = refl;
      ok = λ f. absurd (cc);
      refuses = λ f. absurd (cc);
      refused_all = λ f. absurd (cc);
      close = λ q n2 b u o. (d, c2 q n2 c);
    }))))

closed_if : (op : Op) (asking : Bool) (status : ℕ) → was_closed op asking status ≡ true → is_close op ≡ true
closed_if op asking status e = grind arith

not_closed : (op : Op) (asking : Bool) (status : ℕ) → is_close op ≡ true → asking ≡ false → was_closed op asking status
    ≡ false → status ≢ file_closed
not_closed op asking status c n e = eqb-false status file_closed (by_bools (is_close op) asking (status == file_closed)
    (status == object_name_not_found) c n e)
  where
    by_bools : (x y z v : Bool) → x ≡ true → y ≡ false → (x && ((not y && z) || (y && v))) ≡ false → z ≡ false
    by_bools x y z v c n e = grind arith

may_not : (op : Op) (asking : Bool) (status : ℕ) → may_have_acted op asking status ≡ false → locking op ≡ true
    → (asking && (status == object_name_not_found)) ≡ false
may_not op asking status e l = grind arith

all_not : (op : Op) (status : ℕ) → refuses_all op status ≡ true → locking op ≡ true → status ≢ disk_full
unfolding locking
all_not op status e l = eqb-false status disk_full (by_op op status e l)
  where
    by_op : (op : Op) (status : ℕ) → refuses_all op status ≡ true → is_lock op ≡ true → (status == disk_full) ≡ false
    by_op op status e l = grind arith

pub heard_tells : (c : Client) (g : ℕ) (asking : Bool) (r : Reply) → Tells (c.op g) asking (c.unanswered g) r.status (heard c g asking r)
heard_tells c g asking r =
    let P : Hearing → Type 0 = λ h. Tells (c.op g) asking (c.unanswered g) r.status h in
    either P (r.status == user_session_deleted) _ _ (λ _. unsettled_tells (c.op g) asking (c.unanswered g) r.status EndsSession refl)
    (λ d. either P (r.status == success) _ _ (λ s. by_asking asking s)
    (λ s. either P (goes_again c g asking r.status) _ _ (λ _. unsettled_tells (c.op g) asking (c.unanswered g) r.status GoesAgain refl)
    (λ _. line_tells (c.op g) asking (c.unanswered g) (was_closed (c.op g) asking r.status)
    (may_have_acted (c.op g) asking r.status) (refuses_all (c.op g) r.status) r.status
    (closed_if (c.op g) asking r.status) (not_closed (c.op g) asking r.status) (may_not (c.op g) asking r.status)
    (all_not (c.op g) r.status) (eqb-false r.status user_session_deleted d) (eqb-false r.status success s))))
  where
    by_asking : (b : Bool) → (r.status == success) ≡ true → Tells (c.op g) b (c.unanswered g) r.status
        (if b then Attaches else ok_or_unknown (value_in (c.op g) r.body))
    by_asking true s = unsettled_tells (c.op g) true (c.unanswered g) r.status Attaches refl
    by_asking false s = ok_tells (c.op g) (c.unanswered g) r.status (eqb-true r.status success s) (value_in (c.op g) r.body)

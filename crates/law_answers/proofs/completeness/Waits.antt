-- What waits for a create that settled waits for one that is Ok.
use Rattle.std.proofs.lemmas.Bool.{eqb-false}
use Rattle.std.proofs.lemmas.Bool.Decides.{nat_tests}
use Rattle.std.proofs.Common.{eqb-true, ◌≡◌, ◌≢◌, ℕ, ◌+◌, ◌≤◌, ◌<◌, ◌==◌, nat_lt, Bool, true, false, not, ◌&&◌, ◌||◌}
use Rattle.std.proofs.Common.{if◌then◌else◌, refl, arith, sym, subst, ◌∙◌, ap, Option, Some, None}
use Rattle.spec_exchange.specs.Table.{put, put2}
use Rattle.spec_exchange.specs.State.{Reply, Body}
use Rattle.spec_exchange.specs.Status.{disk_full}
use Rattle.spec_exchange.specs.Operations.{is_close, id_in}
use Rattle.spec_exchange.specs.Operations.{Op, keeps_limits, Outcome, Unsettled, WasOk, WasRefused, NoSlot, NoOpen}
use Rattle.spec_exchange.specs.Operations.{Unknown, Why, SessionLost, is_unsettled, is_ok, is_create, is_lock}
use Rattle.spec_exchange.specs.Operations.{create_of, persists}
use Rattle.spec_exchange.specs.Client.{Client, create_for, may_take, take_op, is_gone, is_gone_after, outcome_at_first}
use Rattle.spec_exchange.specs.Client.{may_push, goes_itself, lacks_slot, needs_slot, begun, outstanding, begin, again}
use Rattle.spec_exchange.specs.Client.{take_slot, end_session, outcome_after_end, plain_after_end, unsent_after_end}
use Rattle.spec_exchange.specs.Client.{finish, outcome_after_finish, is_taken}
use Rattle.spec_exchange.specs.Settling.{settle, settled, noted, noted_full, settles_open, with_no_opens, give_up_on}
use Rattle.spec_exchange.specs.Settling.{without_open, answered}
use Rattle.spec_exchange.specs.Network.{World, Event, Submit, Open, Push, Serve, Take, Cut, Drop, Restart, Crash, Wait, Finish, happens}
use Rattle.law_sessions.specs.messages.Connections.{Connections, makes_open, its_create}
use Rattle.law_server.proofs.tables.Logic.{either, front_of, back_of}
use Rattle.law_answers.proofs.completeness.Client.{Small, client_keeps}
use Rattle.law_answers.proofs.completeness.Columns.{rows_noted, rows_full}
use Rattle.law_answers.proofs.completeness.Events.{put_at, put_off}
use Rattle.law_answers.proofs.completeness.Tidy.{creates_known}

abbrev pub CreateOk : Client → Type 0
CreateOk c = (g : ℕ) → 0 < g → g ≤ c.taken → is_unsettled (c.outcome g) ≡ true → is_create (c.op g) ≡ false
    → is_unsettled (c.outcome (create_for c g)) ≡ false → is_ok (c.outcome (create_for c g)) ≡ true

absent : (b : Bool) (P : Type 0) → b ≡ true → b ≡ false → P
absent b P e f = absurd (cc)

-- ---- Submit

not_gone_ok : (c : Client) (create : ℕ) (o : Outcome) → is_unsettled o ≡ false → is_gone_after c create o ≡ false → is_ok o ≡ true
not_gone_ok c create Unsettled s g = absurd (cc)
not_gone_ok c create (WasOk reply) s g = refl
not_gone_ok c create (WasRefused status) s g = absurd (cc)
not_gone_ok c create (NoSlot n) s g = absurd (cc)
not_gone_ok c create (NoOpen n) s g = absurd (cc)
not_gone_ok c create (Unknown why) s g = absurd (cc)

first_gone : (a b : Bool) (n : ℕ) → a ≡ false → is_unsettled (if a then Unsettled else if b then NoOpen n else Unsettled) ≡ true → b ≡ false
first_gone a b n e u = grind arith

create_lower : (g create taken : ℕ) (a b c k : Bool) → k ≡ false
    → ((g == taken + 1) && (a && (k || (b && (nat_lt create g && c))))) ≡ true → g ≡ taken + 1 × create < g
create_lower g create taken a b c k n e = (grind (arith, nat_tests), grind (arith, nat_tests))

abbrev At : Client → ℕ → Type 0
At c g = is_unsettled (c.outcome g) ≡ true → is_create (c.op g) ≡ false → is_unsettled (c.outcome (create_for c g))
    ≡ false → is_ok (c.outcome (create_for c g)) ≡ true

-- the new operation
new_at : (c : Client) (g : ℕ) (op : Op) → may_take c g op ≡ true → At (take_op c g op) g
new_at c g op m pending kind shut =
    let o = put_at c.op g op in let first = outcome_at_first c g op in
    let k : is_create op ≡ false = ap is_create (sym o) ∙ kind in
    let l = create_lower g (create_of g op) c.taken (keeps_limits op) (nat_lt 0 (create_of g op))
    (is_create (c.op (create_of g op))) (is_create op) k m in
    let same : put c.outcome g first (create_for (take_op c g op) g) ≡ c.outcome (create_of g op) =
    ap (λ p. put c.outcome g first (create_of g p)) o ∙ put_off c.outcome g first (create_of g op) (less l.1) in
    let gone = first_gone (is_create op) (is_gone c (create_of g op)) (create_of g op) k
    (ap is_unsettled (sym (put_at c.outcome g first)) ∙ pending) in
    ap is_ok same ∙ not_gone_ok c (create_of g op) (c.outcome (create_of g op)) (ap is_unsettled (sym same) ∙ shut) gone
  where
    less : {x : ℕ} → x < g → x ≢ g
    less {x} l e = absurd (omega (arith, l, e))

-- an older one
old_at : (c : Client) (g x : ℕ) (op : Op) → x ≢ g → create_for c x ≢ g → At c x → At (take_op c g op) x
old_at c g x op n m h pending kind shut =
    let o = put_off c.op g op x n in let first = outcome_at_first c g op in
    let same : put c.outcome g first (create_for (take_op c g op) x) ≡ c.outcome (create_for c x) =
    ap (λ p. put c.outcome g first (create_of x p)) o ∙ put_off c.outcome g first (create_for c x) m in
    ap is_ok same ∙ h (ap is_unsettled (sym (put_off c.outcome g first x n)) ∙ pending) (ap is_create (sym o) ∙ kind)
    (ap is_unsettled (sym same) ∙ shut)

own_create : (op : Op) (g : ℕ) → is_create op ≡ true → create_of g op ≡ g
own_create op g e = grind arith

submits : (c : Client) (g : ℕ) (op : Op) → ((x : ℕ) → 0 < x → x ≤ c.taken → create_for c x ≤ x) → may_take c g op ≡ true
    → CreateOk c → CreateOk (take_op c g op)
submits c g op below m h x low high =
    elim (x == g) as (λ b. x == g ≡ b → At (take_op c g op) x) [
      | true ↦ λ q. subst (λ y. At (take_op c g op) y) (sym (eqb-true x g q)) (new_at c g op m)
      | false ↦ λ q. let d = eqb-false x g q in let e = eqb-true g (c.taken + 1) (front_of (g == c.taken + 1) _ m) in
          let l : x ≤ c.taken = omega (arith, d, e, high) in let b = below x low l in
          old_at c g x op d (λ z. too_high z e l b) (h x low l)
    ] refl
  where
    too_high : {y : ℕ} → y ≡ g → g ≡ c.taken + 1 → x ≤ c.taken → y ≤ x → ⊥
    too_high {y} z e l b = absurd (omega (arith, z, e, l, b))

-- ---- the other steps, from a client w whose creates are known

pub record Ok (w c : Client) : Type 0 where
  pub op : c.op ≡ w.op
  pub taken : c.taken ≡ w.taken
  pub ok : CreateOk c

-- each operation's create is one
abbrev pub Kinds : Client → Type 0
Kinds w = (g : ℕ) → 0 < g → g ≤ w.taken → is_create (w.op g) ≡ false → create_for w g < g × is_create (w.op (create_for w g)) ≡ true

lock_kind : (op : Op) → is_lock op ≡ true → is_create op ≡ false
lock_kind op e = grind arith

lacks_lock : (c : Client) (k g : ℕ) → lacks_slot c k g ≡ true → is_lock (c.op g) ≡ true
lacks_lock c k g e = front_of (is_lock (c.op g)) _
    (front_of (needs_slot c g) _ (back_of (goes_itself c g) _ (back_of (may_push c k g) _ e)))

slotless_ok : (w c : Client) (k g : ℕ) → Kinds w → lacks_slot c k g ≡ true → Ok w c → Ok w (record c {
  outcome = put c.outcome g (NoSlot (create_for c g));
})
slotless_ok w c k g kinds lacks i =
    record {
      op = i.op;
      taken = i.taken;
      ok = λ x low high pending kind shut.
          let p = kinds x low (subst (λ n. x ≤ n) i.taken high) (ap (λ f. is_create (f x)) (sym i.op) ∙ kind) in
          let n = not_that x (ap (λ f. is_create (f (create_of x (w.op x)))) i.op ∙ p.1) in
          let same = put_off c.outcome g (NoSlot (create_for c g)) (create_for c x) n in
          ap is_ok same ∙ i.ok x low high (still (x == g) (c.outcome x) (NoSlot (create_for c g)) refl pending) kind
          (ap is_unsettled (sym same) ∙ shut);
    }
  where
    still : (b : Bool) (o p : Outcome) → is_unsettled p ≡ false → is_unsettled (if b then p else o) ≡ true → is_unsettled o ≡ true
    still true o p s u = absurd (grind arith)
    still false o p s u = u

    not_that : (x : ℕ) → is_create (c.op (create_of x (w.op x))) ≡ true → create_for c x ≢ g
    not_that x e z = absent (is_create (c.op g)) _
        (ap (λ n. is_create (c.op n)) (sym z ∙ ap (λ f. create_of x (f x)) i.op) ∙ e)
        (lock_kind (c.op g) (lacks_lock c k g lacks))

-- a step that leaves outcomes, operations and their number as they are
ok_same : (w c d : Client) → d.op ≡ c.op → d.taken ≡ c.taken → d.outcome ≡ c.outcome → Ok w c → Ok w d
ok_same w c d op taken outcome i =
    record {
      op = op ∙ i.op;
      taken = taken ∙ i.taken;
      ok = subst (λ n. (g : ℕ) → 0 < g → g ≤ n → is_unsettled (d.outcome g) ≡ true → is_create (d.op g) ≡ false
          → is_unsettled (d.outcome (create_for d g)) ≡ false → is_ok (d.outcome (create_for d g)) ≡ true) (sym taken)
          (subst (λ f. (g : ℕ) → 0 < g → g ≤ c.taken → is_unsettled (d.outcome g) ≡ true → is_create (f g) ≡ false
          → is_unsettled (d.outcome (create_of g (f g))) ≡ false → is_ok (d.outcome (create_of g (f g))) ≡ true)
          (sym op)
          (subst (λ o. (g : ℕ) → 0 < g → g ≤ c.taken → is_unsettled (o g) ≡ true → is_create (c.op g) ≡ false
          → is_unsettled (o (create_for c g)) ≡ false → is_ok (o (create_for c g)) ≡ true) (sym outcome) i.ok));
    }

ok_begun : (w c : Client) (k g i : ℕ) → Ok w c → Ok w (outstanding (begun c g i) k g)
ok_begun w c k g i j =
    let P : Client → Type 0 = λ d. Ok w (outstanding d k g) in
    either P (c.sent g) (again c g) (begin c g i)
    (λ _. either P (is_lock (c.op g)) (record c {
      retried = put2 c.retried (create_for c g) (c.slot_of g) c.session_number;
    }) c
    (λ _. ok_same w c _ refl refl refl j) (λ _. ok_same w c _ refl refl refl j))
    (λ _. either P (is_lock (c.op g)) (record (take_slot c g i) { sent = put c.sent g true }) (record c {
      sent = put c.sent g true;
    }) (λ _. ok_same w c _ refl refl refl j) (λ _. ok_same w c _ refl refl refl j))

-- ---- an operation settles

still_put : (b : Bool) (o p : Outcome) → is_unsettled p ≡ false → is_unsettled (if b then p else o) ≡ true → b ≡ false
    × is_unsettled o ≡ true
still_put true o p s u = absurd (grind arith)
still_put false o p s u = (refl, u)

-- what a create that settled leaves unsettled went out, or the create is Ok
left_over : (names sent gone : Bool) (create : ℕ) (o : Outcome) → is_unsettled (without_open names sent gone create o)
    ≡ true → is_unsettled o ≡ true × (names ≡ true → sent ≡ false → gone ≡ false)
left_over names sent gone create Unsettled e = (refl, λ a b. grind arith)
left_over names sent gone create (WasOk reply) e = absurd (cc)
left_over names sent gone create (WasRefused status) e = absurd (cc)
left_over names sent gone create (NoSlot n) e = absurd (cc)
left_over names sent gone create (NoOpen n) e = absurd (cc)
left_over names sent gone create (Unknown why) e = absurd (cc)

not_named : (names sent gone : Bool) (create : ℕ) (o : Outcome) → names ≡ false → without_open names sent gone create o ≡ o
not_named names sent gone create Unsettled e = grind arith
not_named names sent gone create (WasOk reply) e = refl
not_named names sent gone create (WasRefused status) e = refl
not_named names sent gone create (NoSlot n) e = refl
not_named names sent gone create (NoOpen n) e = refl
not_named names sent gone create (Unknown why) e = refl

-- what is known where operation g settles with o: nothing that waits for it went out
pub record Settling (c : Client) (g : ℕ) : Type 0 where
  pub pending : is_unsettled (c.outcome g) ≡ true
  pub has_open : (x : ℕ) → c.sent x ≡ true → is_create (c.op x) ≡ false → is_ok (c.outcome (create_for c x)) ≡ true

ok_settled : (o : Outcome) → is_ok o ≡ true → is_unsettled o ≡ false
ok_settled o e = grind arith

unsent_by : (c : Client) (g x : ℕ) → Settling c g → create_for c x ≡ g → is_create (c.op x) ≡ false → c.sent x ≡ false
unsent_by c g x s e kind = by (c.sent x) refl
  where
    by : (b : Bool) → c.sent x ≡ b → c.sent x ≡ false
    by true q = absent (is_unsettled (c.outcome g)) _ s.pending
        (ok_settled (c.outcome g) (ap (λ n. is_ok (c.outcome n)) (sym e) ∙ s.has_open x q kind))
    by false q = q

opens_settle : (op : Op) → is_create op ≡ true → settles_open op ≡ true
opens_settle op e = grind arith

-- the client behind the settling, by its rows
pub record Behind (c d : Client) (g : ℕ) (o : Outcome) : Type 0 where
  pub op : d.op ≡ c.op
  pub sent : d.sent ≡ c.sent
  pub outcome : d.outcome ≡ put c.outcome g o

given_up : (c d : Client) (g : ℕ) (o : Outcome) → Kinds c → CreateOk c → Settling c g → is_unsettled o ≡ false
    → Behind c d g o → settles_open (c.op g) ≡ true → (x : ℕ) → 0 < x → x ≤ c.taken
    → is_unsettled (give_up_on d (create_for c g) x) ≡ true → is_create (c.op x) ≡ false
    → is_unsettled (give_up_on d (create_for c g) (create_for c x)) ≡ false
    → is_ok (give_up_on d (create_for c g) (create_for c x)) ≡ true
given_up c d g o kinds h s firm b so x low high pending kind shut =
    let y = create_for c x in let p = kinds x low high kind in
    let l = left_over ((create_for d x == create_for c g) && not (is_create (d.op x))) (d.sent x)
    (is_gone_after d (create_for c g) (d.outcome (create_for c g))) (create_for c g) (d.outcome x) pending in
    let same : give_up_on d (create_for c g) y ≡ d.outcome y = not_named ((create_for d y == create_for c g)
    && not (is_create (d.op y))) (d.sent y) (is_gone_after d (create_for c g) (d.outcome (create_for c g)))
    (create_for c g) (d.outcome y)
    (no_name (create_for d y == create_for c g) (is_create (d.op y)) (ap (λ f. is_create (f y)) b.op ∙ p.1)) in
    let at : d.outcome y ≡ put c.outcome g o y = ap (λ f. f y) b.outcome in
    let u = still_put (x == g) (c.outcome x) o firm (ap (λ f. is_unsettled (f x)) (sym b.outcome) ∙ l.0) in
    ap is_ok (same ∙ at) ∙ elim (y == g) as (λ q. y == g ≡ q → is_ok (if q then o else c.outcome y) ≡ true) [
      | true ↦ λ q. let e = eqb-true y g q in let own = ap (λ n. is_create (c.op n)) (sym e) ∙ p.1 in let cg = own_create (c.op g) g own in
          let gone = l.1 (named (create_for d x) (create_for c g) (is_create (d.op x)) (ap (λ f. create_of x (f x)) b.op
          ∙ e ∙ sym cg) (ap (λ f. is_create (f x)) b.op ∙ kind)) (ap (λ f. f x) b.sent ∙ unsent_by c g x s e kind)
          in
          not_gone_ok d g o firm (subst (λ r. is_gone_after d g r ≡ false) (ap (λ f. f g) b.outcome
          ∙ put_at c.outcome g o) (subst (λ n. is_gone_after d n (d.outcome n) ≡ false) cg gone))
      | false ↦ λ q. let e = eqb-false y g q in h x low high u.1 kind (ap is_unsettled (sym (put_off c.outcome g o y e))
          ∙ ap is_unsettled (sym at) ∙ ap is_unsettled (sym same) ∙ shut)
    ] refl
  where
    no_name : (a b : Bool) → b ≡ true → (a && not b) ≡ false
    no_name a b e = grind arith

    named : (n m : ℕ) (k : Bool) → n ≡ m → k ≡ false → ((n == m) && not k) ≡ true
    named n m k e f = grind (arith, nat_tests)

not_given_up : (c d : Client) (g : ℕ) (o : Outcome) → Kinds c → CreateOk c → is_unsettled o ≡ false → Behind c d g o
    → settles_open (c.op g) ≡ false → (x : ℕ) → 0 < x → x ≤ c.taken
    → is_unsettled (d.outcome x) ≡ true → is_create (c.op x) ≡ false → is_unsettled (d.outcome (create_for c x)) ≡ false
    → is_ok (d.outcome (create_for c x)) ≡ true
not_given_up c d g o kinds h firm b so x low high pending kind shut =
    let y = create_for c x in let p = kinds x low high kind in
    let n = λ (z : y ≡ g). absent (settles_open (c.op g)) ⊥ (opens_settle (c.op g) (ap (λ m. is_create (c.op m)) (sym z) ∙ p.1)) so in
    let at : d.outcome y ≡ c.outcome y = ap (λ f. f y) b.outcome ∙ put_off c.outcome g o y n in
    let u = still_put (x == g) (c.outcome x) o firm (ap (λ f. is_unsettled (f x)) (sym b.outcome) ∙ pending) in
    ap is_ok at ∙ h x low high u.1 kind (ap is_unsettled (sym at) ∙ shut)

noted_outcome : (c : Client) (g : ℕ) (o : Outcome) (body : Body) → (noted c g o body).outcome ≡ c.outcome
noted_outcome c g (WasOk reply) body =
    either (λ (d : Client). d.outcome ≡ c.outcome) (is_create (c.op g)) (record c {
      file = put c.file g (id_in body);
      attached = put c.attached g c.session_number;
    }) (if is_close (c.op g) then record c {
      closed_ok = put c.closed_ok (create_for c g) true;
    } else c) (λ _. refl)
    (λ _. either (λ (d : Client). d.outcome ≡ c.outcome) (is_close (c.op g)) (record c {
      closed_ok = put c.closed_ok (create_for c g) true;
    }) c (λ _. refl) (λ _. refl))
noted_outcome c g Unsettled body = refl
noted_outcome c g (WasRefused status) body = refl
noted_outcome c g (NoSlot create) body = refl
noted_outcome c g (NoOpen create) body = refl
noted_outcome c g (Unknown why) body = refl

full_outcome : (c : Client) (g : ℕ) (asking : Bool) (status : ℕ) → (noted_full c g asking status).outcome ≡ c.outcome
full_outcome c g asking status = either (λ (d : Client). d.outcome ≡ c.outcome) (is_lock (c.op g)
    && (not asking && (status == disk_full))) (record c { full = put2 c.full (create_for c g) (c.slot_of g) true }) c
    (λ _. refl) (λ _. refl)

from_rows : (c e : Client) → e.op ≡ c.op → e.taken ≡ c.taken
    → ((x : ℕ) → 0 < x → x ≤ c.taken → is_unsettled (e.outcome x) ≡ true → is_create (c.op x) ≡ false
    → is_unsettled (e.outcome (create_for c x)) ≡ false → is_ok (e.outcome (create_for c x)) ≡ true) → Ok c e
from_rows c e op taken h =
    record {
      op = op;
      taken = taken;
      ok = subst (λ n. (g : ℕ) → 0 < g → g ≤ n → is_unsettled (e.outcome g) ≡ true → is_create (e.op g) ≡ false
          → is_unsettled (e.outcome (create_for e g)) ≡ false → is_ok (e.outcome (create_for e g)) ≡ true) (sym taken)
          (subst (λ f. (g : ℕ) → 0 < g → g ≤ c.taken → is_unsettled (e.outcome g) ≡ true → is_create (f g) ≡ false
          → is_unsettled (e.outcome (create_of g (f g))) ≡ false → is_ok (e.outcome (create_of g (f g))) ≡ true)
          (sym op) h);
    }

settles_ok : (c : Client) (g : ℕ) (asking : Bool) (r : Reply) (place : ℕ) (o : Outcome) → Kinds c → Settling c g
    → is_unsettled o ≡ false → CreateOk c → Ok c (settle c g asking r place o)
settles_ok c g asking r place o kinds s firm i =
    let n = noted c g o r.body in let f = noted_full n g asking r.status in let d = settled f g o place in
    let rn = rows_noted c g o r.body in let rf = rows_full n g asking r.status in
    let b : Behind c d g o = record {
      op = rf.op ∙ rn.op;
      sent = rf.sent ∙ rn.sent;
      outcome = ap (λ h. put h g o) (full_outcome n g asking r.status ∙ noted_outcome c g o r.body);
    } in
    either (λ e. Ok c e) (settles_open (c.op g)) (with_no_opens d (create_for c g)) d
    (λ so. from_rows c (with_no_opens d (create_for c g)) (rf.op ∙ rn.op) (rf.taken ∙ rn.taken) (given_up c d g o kinds i s firm b so))
    (λ so. from_rows c d (rf.op ∙ rn.op) (rf.taken ∙ rn.taken) (not_given_up c d g o kinds i firm b so))

-- ---- a session ends, or all is given up

end_pending : (c : Client) (g : ℕ) (o : Outcome) → is_unsettled (outcome_after_end c g o) ≡ true → is_unsettled o ≡ true
end_pending c g Unsettled e = refl
end_pending c g (WasOk reply) e = absurd (cc)
end_pending c g (WasRefused status) e = absurd (cc)
end_pending c g (NoSlot n) e = absurd (cc)
end_pending c g (NoOpen n) e = absurd (cc)
end_pending c g (Unknown why) e = absurd (cc)

end_firm : (c : Client) (g : ℕ) (o : Outcome) → is_unsettled o ≡ false → outcome_after_end c g o ≡ o
end_firm c g Unsettled e = absurd (cc)
end_firm c g (WasOk reply) e = refl
end_firm c g (WasRefused status) e = refl
end_firm c g (NoSlot n) e = refl
end_firm c g (NoOpen n) e = refl
end_firm c g (Unknown why) e = refl

unsettled_is : (o : Outcome) → is_unsettled o ≡ true → o ≡ Unsettled
unsettled_is Unsettled e = refl
unsettled_is (WasOk reply) e = absurd (cc)
unsettled_is (WasRefused status) e = absurd (cc)
unsettled_is (NoSlot n) e = absurd (cc)
unsettled_is (NoOpen n) e = absurd (cc)
unsettled_is (Unknown why) e = absurd (cc)

-- an operation of a plain open that stays unsettled waits for a create that never went out
plain_pending : (number : ℕ) (sent create create_sent : Bool) (n : ℕ) (o : Outcome) → create ≡ false
    → is_unsettled (if sent then Unknown (SessionLost number) else if create then Unsettled else unsent_after_end n
    create_sent o) ≡ true → is_unsettled o ≡ true × create_sent ≡ false
plain_pending number sent create create_sent n Unsettled k e = (refl, grind arith)
plain_pending number sent create create_sent n (WasOk reply) k e = absurd (grind arith)
plain_pending number sent create create_sent n (WasRefused status) k e = absurd (grind arith)
plain_pending number sent create create_sent n (NoSlot m) k e = absurd (grind arith)
plain_pending number sent create create_sent n (NoOpen m) k e = absurd (grind arith)
plain_pending number sent create create_sent n (Unknown why) k e = absurd (grind arith)

end_by : (c : Client) (g : ℕ) (o : Outcome) (persist : Bool) → o ≡ Unsettled → persists (c.op (create_for c g))
    ≡ persist → outcome_after_end c g o ≡ (if persist then Unsettled else plain_after_end c g (create_for c g))
end_by c g o persist e f = ap (λ x. outcome_after_end c g x) e ∙ ap (λ b. if b then Unsettled else plain_after_end c g (create_for c g)) f

end_at : (c : Client) (x : ℕ) → create_for c (create_for c x) ≡ create_for c x → is_create (c.op (create_for c x))
    ≡ true → is_create (c.op x) ≡ false → (is_unsettled (c.outcome x) ≡ true → is_unsettled (c.outcome (create_for c x))
    ≡ false → is_ok (c.outcome (create_for c x)) ≡ true)
    → is_unsettled (outcome_after_end c x (c.outcome x)) ≡ true
    → is_unsettled (outcome_after_end c (create_for c x) (c.outcome (create_for c x))) ≡ false
    → is_ok (outcome_after_end c (create_for c x) (c.outcome (create_for c x))) ≡ true
end_at c x own is_one kind h pending shut = by (is_unsettled (c.outcome y)) refl
  where
    y : ℕ
    y = create_for c x

    un : is_unsettled (c.outcome x) ≡ true
    un = end_pending c x (c.outcome x) pending

    still_open : (b : Bool) → persists (c.op (create_for c x)) ≡ b → is_unsettled (c.outcome (create_for c x)) ≡ true
        → is_unsettled (outcome_after_end c (create_for c x) (c.outcome (create_for c x))) ≡ true
    still_open true p u = ap is_unsettled (end_by c (create_for c x) (c.outcome (create_for c x)) true
        (unsettled_is (c.outcome (create_for c x)) u) (ap (λ n. persists (c.op n)) own ∙ p))
    still_open false p u =
        let e = end_by c x (c.outcome x) false (unsettled_is (c.outcome x) un) p in
        let q = plain_pending c.session_number (c.sent x) (is_create (c.op x)) (c.sent (create_for c x))
        (create_for c x) (c.outcome (create_for c x)) kind (ap is_unsettled (sym e) ∙ pending) in
        ap is_unsettled (end_by c (create_for c x) (c.outcome (create_for c x)) false
        (unsettled_is (c.outcome (create_for c x)) u) (ap (λ n. persists (c.op n)) own ∙ p))
        ∙ unsent_create (c.sent (create_for c x)) (is_create (c.op (create_for c x))) c.session_number
        (unsent_after_end (create_for c (create_for c x)) (c.sent (create_for c (create_for c x)))
        (c.outcome (create_for c (create_for c x)))) q.1 is_one
      where
        unsent_create : (s k : Bool) (n : ℕ) (o : Outcome) → s ≡ false → k ≡ true
            → is_unsettled (if s then Unknown (SessionLost n) else if k then Unsettled else o) ≡ true
        unsent_create s k n o e f = grind arith

    by : (b : Bool) → is_unsettled (c.outcome (create_for c x)) ≡ b
        → is_ok (outcome_after_end c (create_for c x) (c.outcome (create_for c x))) ≡ true
    by true u = absent (is_unsettled (outcome_after_end c (create_for c x) (c.outcome (create_for c x)))) _
        (still_open (persists (c.op (create_for c x))) refl u) shut
    by false s = ap is_ok (end_firm c (create_for c x) (c.outcome (create_for c x)) s) ∙ h un s

ends_ok : (c : Client) → Kinds c → CreateOk c → Ok c (end_session c)
ends_ok c kinds h =
    from_rows c (end_session c) refl refl
    (λ x low high pending kind shut. let p = kinds x low high kind in
    end_at c x (own_create (c.op (create_for c x)) (create_for c x) p.1) p.1 kind (λ u s. h x low high u kind s)
    pending shut)

finish_ok : (c : Client) (why : Why) → Ok c (finish c why)
finish_ok c why = from_rows c (finish c why) refl refl (λ x low high pending kind shut.
    absent (is_unsettled ((finish c why).outcome x)) _ pending (finished x low high))
  where
    firm : (o : Outcome) → is_unsettled (outcome_after_finish why o) ≡ false
    firm Unsettled = refl
    firm (WasOk reply) = refl
    firm (WasRefused status) = refl
    firm (NoSlot n) = refl
    firm (NoOpen n) = refl
    firm (Unknown w) = refl

    finished : (x : ℕ) → 0 < x → x ≤ c.taken → is_unsettled ((finish c why).outcome x) ≡ false
    finished x low high = either (λ o. is_unsettled o ≡ false) (is_taken c x) (outcome_after_finish why (c.outcome x))
        (c.outcome x) (λ _. firm (c.outcome x)) (λ off. absent (is_taken c x) _ (taken_now low high) off)
      where
        taken_now : 0 < x → x ≤ c.taken → is_taken c x ≡ true
        taken_now low high = grind (arith, nat_tests)

-- ---- every event

kinds_of : (w : World) (a : ℕ → ℕ) → Connections w.client w.conns a → Kinds w.client
kinds_of w a fit g low high kind = (creates_known w.client g (fit.creates g low high) low).1 kind

settling_of : (w : World) (a : ℕ → ℕ) (g k : ℕ) → Connections w.client w.conns a → w.client.outstanding_on g ≡ Some k → Settling w.client g
unfolding makes_open its_create
settling_of w a g k fit on =
    record {
      pending = by (is_unsettled (w.client.outcome g)) refl;
      has_open = λ x sent kind. or_else (is_create (w.client.op x)) (is_ok (w.client.outcome (create_for w.client x)))
          (fit.has_open x sent) kind;
    }
  where
    none_some : (o : Option ℕ) → o ≡ None → o ≡ Some k → ⊥
    none_some o e f = absurd (grind arith)

    by : (b : Bool) → is_unsettled (w.client.outcome g) ≡ b → is_unsettled (w.client.outcome g) ≡ true
    by true e = e
    by false e = absurd (none_some (w.client.outstanding_on g) (fit.settled g e) on)

    or_else : (x y : Bool) → (x || y) ≡ true → x ≡ false → y ≡ true
    or_else x y e f = grind arith

waits_small : (w : World) (e : Event) (a : ℕ → ℕ) → Connections w.client w.conns a → CreateOk w.client → Small (Ok w.client) w e
waits_small w e a fit h =
    let c = w.client in let i : Ok c c = record { op = refl; taken = refl; ok = h } in let k = kinds_of w a fit in
    record {
      opens = λ q. ok_same c c _ refl refl refl i;
      slotless = λ d q g l _ j. slotless_ok c d q g k l j;
      begins_op = λ d q g s m _ j. ok_begun c d q g s j;
      asks = λ d q g m _ j. ok_same c d _ refl refl refl j;
      settles = λ q g asking r place o on firm t. settles_ok c g asking r place o k (settling_of w a g q fit on) firm h;
      answers = λ g. ok_same c c _ refl refl refl i;
      joins = λ q g on. ok_same c c _ refl refl refl i;
      ends = λ g _. ok_same c (end_session c) (end_session (answered c g)) refl refl refl (ends_ok c k h);
      cut_ends = λ q on _. ends_ok c k h;
      cuts = λ q on more _. ok_same c c _ refl refl refl i;
      goes = λ q te s y rest is token d. ok_same c c _ refl refl refl i;
      accepts = λ q r d. ok_same c c _ refl refl refl i;
      binds = λ q talks o live. ok_same c c _ refl refl refl i;
      begins = λ q tree at o dead. ok_same c c _ refl refl refl i;
      leaves = λ q rs. ok_same c c _ refl refl refl i;
      finishes = λ why _. finish_ok c why;
    }

pub waits_on : (w : World) (e : Event) (a : ℕ → ℕ) → Connections w.client w.conns a → CreateOk w.client → CreateOk (happens w e).client
waits_on w e a fit h = by e
  where
    others : (e : Event) → ((g : ℕ) (op : Op) → e ≡ Submit g op → ⊥) → CreateOk (happens w e).client
    others e n = (client_keeps (Ok w.client) w e (λ g op is m. absurd (n g op is)) (waits_small w e a fit h) (record {
      op = refl;
      taken = refl;
      ok = h;
    })).ok

    lower : (x : ℕ) → 0 < x → x ≤ w.client.taken → create_for w.client x ≤ x
    lower x low high =
        elim (is_create (w.client.op x)) as (λ b. is_create (w.client.op x) ≡ b → create_for w.client x ≤ x) [
          | true ↦ λ k. let e = own_create (w.client.op x) x k in omega (arith, e)
          | false ↦ λ k. let p = kinds_of w a fit x low high k in omega (arith, p.0)
        ] refl

    by : (e : Event) → CreateOk (happens w e).client
    by (Submit g op) = either CreateOk (may_take w.client g op) (take_op w.client g op) w.client
        (λ m. submits w.client g op lower m h) (λ _. h)
    by (Open k) = others (Open k) (λ g op is. absurd (cc))
    by (Push k slotless pick) = others (Push k slotless pick) (λ g op is. absurd (cc))
    by (Serve k) = others (Serve k) (λ g op is. absurd (cc))
    by (Take k) = others (Take k) (λ g op is. absurd (cc))
    by (Cut k) = others (Cut k) (λ g op is. absurd (cc))
    by (Drop k) = others (Drop k) (λ g op is. absurd (cc))
    by Restart = others Restart (λ g op is. absurd (cc))
    by (Crash k kept) = others (Crash k kept) (λ g op is. absurd (cc))
    by (Wait n) = others (Wait n) (λ g op is. absurd (cc))
    by (Finish refusal) = others (Finish refusal) (λ g op is. absurd (cc))

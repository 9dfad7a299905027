-- What a reply comes to, for each line of the settling table.
use Rattle.std.proofs.Common.{◌≡◌, ℕ, ◌==◌, ◌&&◌, ◌||◌, not, Bool, true, false, if◌then◌else◌}
use Rattle.std.proofs.Common.{arith, ◌⊎◌, inl, inr, sym, ◌∙◌, ap, subst, refl, Option, Some, None}
use Rattle.std.proofs.Common.{is_some}
use Rattle.spec_exchange.specs.Table.{put, put2, is_at}
use Rattle.spec_exchange.specs.Status.{success, user_session_deleted, disk_full}
use Rattle.spec_exchange.specs.State.{Reply, Body}
use Rattle.spec_exchange.specs.Operations.{Op, OpReply, Outcome, Unsettled, WasOk, WasRefused, NoSlot, NoOpen, Unknown}
use Rattle.spec_exchange.specs.Operations.{is_create, is_close, is_lock, is_ok}
use Rattle.spec_exchange.specs.Operations.{is_unsettled, persists, value_in, id_in}
use Rattle.spec_exchange.specs.Client.{Client, create_for, is_gone, is_gone_after}
use Rattle.spec_exchange.specs.Settling.{Heard, Settles as SettlesAs, GoesAgain, Attaches, EndsSession, with_no_opens}
use Rattle.spec_exchange.specs.Settling.{settled, answered, joined, settle, hear, heard, noted, noted_ok, noted_full}
use Rattle.spec_exchange.specs.Settling.{settles_open, ok_or_unknown, refused, was_closed, may_have_acted, refuses_all}
use Rattle.spec_exchange.specs.Settling.{goes_again, is_awaited}
use Rattle.spec_exchange.specs.ClientStep.{hear_after}
use Rattle.law_client.specs.table.Columns.{ops_of, standing_of}
use Rattle.law_client.specs.table.Kept.{TableKept}
use Rattle.law_client.proofs.table.Moves.{true_or_false, clash}
use Rattle.law_client.proofs.table.Settling.{settled_stands}
use Rattle.law_client.proofs.table.Sending.{sent_stands}
use Rattle.law_client.proofs.table.Heard.{noted_by, opening_keeps, ok_is_settled, out_is_put}
use Rattle.law_client.proofs.table.Ended.{end_keeps}
use Rattle.law_client.proofs.table.Chosen.{in_both, put_here, put_there, and_left}
use Rattle.law_client.proofs.table.Chosen.{same_or_other, put_none}

-- ---- an operation that is no create and no close settles

pub other_keeps : (c : Client) (g place : ℕ) (o : Outcome) (full : ℕ → ℕ → Bool) → TableKept c → is_some (c.outstanding_on g)
    ≡ true → is_unsettled o ≡ false → is_create (c.op g) ≡ false
    → TableKept (settled (noted_by c c.file c.attached c.closed_ok full) g o place)
other_keeps c g place o full i out settles other =
    let d = settled (noted_by c c.file c.attached c.closed_ok full) g o place in
    let was = i.stands.out_unsettled g out in
    let there = put_here c.outcome g o g refl in
    let t = i.stands.out_taken g out in
    let w = i.ordered.owned g t.0 t.1 other in
    let apart : create_for c g ≡ g → ⊥ = (λ e. omega arith) in
    let gone : is_gone d (create_for c g) ≡ true → ⊥ = (λ h.
    clash (is_unsettled (c.outcome g)) was
    (i.stands.gone_settled g t.0 t.1 other (ap (λ r. is_gone_after c (create_for c g) r)
    (sym (put_there c.outcome g o (create_for c g) apart)) ∙ h))) in
    record {
      ordered = i.ordered;
      ready = i.ready;
      stands =
          settled_stands (ops_of c) (standing_of c) (standing_of d) g i.ordered i.stands out (record {
            there = ap (λ n. is_unsettled n) there ∙ settles;
            fewer = λ x h. out_is_put c g o x settles h;
            given_up = λ x n h before.
                absurd (clash (is_unsettled (c.outcome x)) before
                (ap (λ m. is_unsettled m) (sym (put_there c.outcome g o x n)) ∙ h));
            ok_stays = λ x h. elim (same_or_other x g) as (λ _. is_ok (put c.outcome g o x) ≡ true) [
              | inl e ↦ absurd (clash (is_unsettled (c.outcome g)) was
                  (ok_is_settled (c.outcome g) (ap (λ n. is_ok (c.outcome n)) (sym e) ∙ h)))
              | inr e ↦ ap (λ n. is_ok n) (put_there c.outcome g o x e) ∙ h
            ];
            ok_settled = λ x h. ok_is_settled (d.outcome x) h;
            gives = λ e h. absurd (clash (is_create (c.op g)) e other);
            sent = λ x h. h;
            out = λ x h. put_none c.outstanding_on g x h;
            live = λ h. h;
            gone_other = λ x n e h. (
                let l : x ≡ g → ⊥ = (λ q. clash (is_create (c.op g)) (ap (λ v. is_create (c.op v)) (sym q) ∙ e) other) in
                ap (λ r. is_gone_after c x r) (sym (put_there c.outcome g o x l)) ∙ h
                );
            whole = λ h. absurd (gone h);
            none_out = λ x n e s h q. gone h;
          });
    }

-- ---- what settles is settled

abbrev IsSettling : Heard → Type 0
IsSettling (SettlesAs o) = is_unsettled o ≡ false
IsSettling _ = Unit {0}

in_either : (P : Heard → Type 0) (b : Bool) (x y : Heard) → P x → P y → P (if b then x else y)
in_either P true x y f g = f
in_either P false x y f g = g

value_settles : (v : Option OpReply) → IsSettling (ok_or_unknown v)
value_settles None = refl
value_settles (Some reply) = refl

refusal_settles : (op : Op) (asking unanswered : Bool) (status : ℕ) → IsSettling (refused op asking unanswered status)
refusal_settles op asking unanswered status =
    in_either IsSettling (not unanswered) _ _ refl (in_either IsSettling (was_closed op asking status) _ _ refl
    (in_either IsSettling (may_have_acted op asking status) _ _ refl (in_either IsSettling (refuses_all op status) _
    _ refl refl)))

heard_settles : (c : Client) (g : ℕ) (asking : Bool) (r : Reply) → IsSettling (heard c g asking r)
heard_settles c g asking r =
    in_either IsSettling (r.status == user_session_deleted) _ _ tt
    (in_either IsSettling (r.status == success) _ _ (in_either IsSettling asking _ _ tt (value_settles (value_in (c.op g) r.body)))
    (in_either IsSettling (goes_again c g asking r.status) _ _ tt (refusal_settles (c.op g) asking (c.unanswered g) r.status)))

-- ---- the dispatch

opens_or_not : (op : Op) → settles_open op ≡ true → (is_create op ≡ true) ⊎ ((is_create op ≡ false) × (is_close op ≡ true))
opens_or_not op h = elim (true_or_false (is_create op)) [ inl e ↦ inl e | inr e ↦ inr (e, close (is_create op) (is_close op) h e) ]
  where
    close : (a b : Bool) → (a || b) ≡ true → a ≡ false → b ≡ true
    close a b h e = grind arith

no_create : (op : Op) → settles_open op ≡ false → is_create op ≡ false
no_create op h = left (is_create op) (is_close op) h
  where
    left : (a b : Bool) → (a || b) ≡ false → a ≡ false
    left a b h = grind arith

its_open : (c : Client) (g : ℕ) → TableKept c → is_some (c.outstanding_on g) ≡ true → is_create (c.op (create_for c g)) ≡ true
its_open c g i out =
    elim (true_or_false (is_create (c.op g))) as (λ _. is_create (c.op (create_for c g)) ≡ true) [
      | inl e ↦ ap (λ n. is_create (c.op n)) (i.ordered.itself g e) ∙ e
      | inr e ↦ (let t = i.stands.out_taken g out in (i.ordered.owned g t.0 t.1 e).2)
    ]

pub record IsNote (c : Client) (g : ℕ) (n : Client) : Type 0 where
  pub file : ℕ → ℕ
  pub attached : ℕ → ℕ
  pub closed : ℕ → Bool
  pub full : ℕ → ℕ → Bool
  pub is : n ≡ noted_by c file attached closed full
  pub attached_other : (x : ℕ) → (x ≡ create_for c g → ⊥) → attached x ≡ c.attached x
  pub closed_other : (x : ℕ) → (x ≡ create_for c g → ⊥) → closed x ≡ c.closed_ok x
  pub same : settles_open (c.op g) ≡ false → n ≡ noted_by c c.file c.attached c.closed_ok full

plain_note : (c : Client) (g : ℕ) → IsNote c g c
plain_note c g = record {
  file = c.file;
  attached = c.attached;
  closed = c.closed_ok;
  full = c.full;
  is = refl;
  attached_other = λ x e. refl;
  closed_other = λ x e. refl;
  same = λ e. refl;
}

no_close : (op : Op) → settles_open op ≡ false → is_close op ≡ false
no_close op h = right (is_create op) (is_close op) h
  where
    right : (a b : Bool) → (a || b) ≡ false → b ≡ false
    right a b h = grind arith

own_other : {X : Type 0} (c : Client) (g : ℕ) (f : ℕ → X) (v : X) → create_for c g ≡ g → (x : ℕ)
    → (x ≡ create_for c g → ⊥) → put f g v x ≡ f x
own_other c g f v e x n = put_there f g v x (λ q. n (q ∙ sym e))

note_if : (c : Client) (g : ℕ) (b : Bool) (x y : Client) → (b ≡ true → IsNote c g x) → (b ≡ false → IsNote c g y)
    → IsNote c g (if b then x else y)
note_if c g true x y f h = f refl
note_if c g false x y f h = h refl

ok_note : (c : Client) (g : ℕ) (body : Body) → TableKept c → IsNote c g (noted_ok c g body)
ok_note c g body i =
    note_if c g (is_create (c.op g)) _ _
    (λ e. record {
      file = put c.file g (id_in body);
      attached = put c.attached g c.session_number;
      closed = c.closed_ok;
      full = c.full;
      is = refl;
      attached_other = own_other c g c.attached c.session_number (i.ordered.itself g e);
      closed_other = λ x n. refl;
      same = λ h. absurd (clash (is_create (c.op g)) e (no_create (c.op g) h));
    })
    (λ e.
    note_if c g (is_close (c.op g)) _ _
    (λ q. record {
      file = c.file;
      attached = c.attached;
      closed = put c.closed_ok (create_for c g) true;
      full = c.full;
      is = refl;
      attached_other = λ x n. refl;
      closed_other = put_there c.closed_ok (create_for c g) true;
      same = λ h. absurd (clash (is_close (c.op g)) q (no_close (c.op g) h));
    })
    (λ q. plain_note c g))

any_note : (c : Client) (g : ℕ) (o : Outcome) (body : Body) → TableKept c → IsNote c g (noted c g o body)
any_note c g Unsettled body i = plain_note c g
any_note c g (WasOk reply) body i = ok_note c g body i
any_note c g (WasRefused status) body i = plain_note c g
any_note c g (NoSlot create) body i = plain_note c g
any_note c g (NoOpen create) body i = plain_note c g
any_note c g (Unknown why) body i = plain_note c g

-- a slot that met DISK_FULL
abbrev filled : ℕ → Client → Client
filled g m = record m { full = put2 m.full (create_for m g) (m.slot_of g) true }

full_note : (c n : Client) (g : ℕ) (asking : Bool) (status : ℕ) → IsNote c g n → IsNote c g (noted_full n g asking status)
full_note c n g asking status w =
    note_if c g (is_lock (n.op g) && (not asking && (status == disk_full))) (filled g n) n
    (λ e. record {
      file = w.file;
      attached = w.attached;
      closed = w.closed;
      full = put2 w.full (create_for c g) (c.slot_of g) true;
      is = ap (λ (m : Client). filled g m) w.is;
      attached_other = w.attached_other;
      closed_other = w.closed_other;
      same = λ h. ap (λ (m : Client). filled g m) (w.same h);
    })
    (λ e. w)

settle_noted : (c n : Client) (g place : ℕ) (o : Outcome) → TableKept c → is_some (c.outstanding_on g) ≡ true
    → is_unsettled o ≡ false → IsNote c g n
    → TableKept (if settles_open (c.op g) then with_no_opens (settled n g o place) (create_for c g) else settled n g o place)
settle_noted c n g place o i out settles w =
    in_both TableKept (settles_open (c.op g)) (with_no_opens (settled n g o place) (create_for c g)) (settled n g o place)
    (λ h. subst (λ (m : Client). TableKept (with_no_opens (settled m g o place) (create_for c g))) (sym w.is)
    (opening_keeps c g place o w.file w.attached w.closed w.full (create_for c g) i out settles refl
    (its_open c g i out) w.attached_other w.closed_other (opens_or_not (c.op g) h)))
    (λ h. subst (λ (m : Client). TableKept (settled m g o place)) (sym (w.same h))
    (other_keeps c g place o w.full i out settles (no_create (c.op g) h)))

settle_keeps : (c : Client) (g : ℕ) (asking : Bool) (r : Reply) (place : ℕ) (o : Outcome) → TableKept c
    → is_some (c.outstanding_on g) ≡ true → is_unsettled o ≡ false → TableKept (settle c g asking r place o)
settle_keeps c g asking r place o i out settles = settle_noted c (noted_full (noted c g o r.body) g asking r.status) g
    place o i out settles (full_note c (noted c g o r.body) g asking r.status (any_note c g o r.body i))

-- ---- it is answered, and settles nothing

-- what is outstanding shrinks, and no open goes
fewer_out : (c : Client) (g : ℕ) (attached : ℕ → ℕ) → TableKept c
    → ((x : ℕ) → is_gone (record c { outstanding_on = put c.outstanding_on g None; attached = attached }) x ≡ true → is_gone c x ≡ true)
    → TableKept (record c { outstanding_on = put c.outstanding_on g None; attached = attached })
fewer_out c g attached i gone =
    record {
      ordered = i.ordered;
      ready = i.ready;
      stands =
          sent_stands (ops_of c) (standing_of c) _ i.ordered i.stands (record {
            unsettled = λ x. refl;
            ok = λ x. refl;
            sent = λ x h. inl h;
            out = λ x h. inl (put_none c.outstanding_on g x h).0;
            live = λ x h. i.stands.out_live x (put_none c.outstanding_on g x h).0;
            gone = gone;
          });
    }

pub answered_keeps : (c : Client) (g : ℕ) → TableKept c → TableKept (answered c g)
answered_keeps c g i = fewer_out c g c.attached i (λ x h. h)

-- an open that is attached now is gone no more than before
attached_gone : (c : Client) (x0 x : ℕ) (r : Outcome) → is_gone_after (record c {
  attached = put c.attached x0 c.session_number;
}) x r ≡ true → is_gone_after c x r ≡ true
attached_gone c x0 x Unsettled h = h
attached_gone c x0 x (WasOk reply) h = less (c.closed_ok x) (persists (c.op x)) c.live x x0 (c.attached x) c.session_number h
  where
    less : (closed persist live : Bool) (x x0 a n : ℕ)
        → (closed || (not persist && not (live && ((if x == x0 then n else a) == n)))) ≡ true
        → (closed || (not persist && not (live && (a == n)))) ≡ true
    less closed persist live x x0 a n h = grind arith
attached_gone c x0 x (WasRefused status) h = h
attached_gone c x0 x (NoSlot create) h = h
attached_gone c x0 x (NoOpen create) h = h
attached_gone c x0 x (Unknown why) h = h

joined_keeps : (c : Client) (g : ℕ) → TableKept c → TableKept (joined c g)
joined_keeps c g i = fewer_out c g (put c.attached (create_for c g) c.session_number) i
    (λ x h. attached_gone c (create_for c g) x (c.outcome x) h)

-- ---- the dispatch

dispatch : (c : Client) (g : ℕ) (asking : Bool) (r : Reply) (place : ℕ) (h : Heard) → TableKept c
    → is_some (c.outstanding_on g) ≡ true → IsSettling h → TableKept (hear c g asking r place h)
dispatch c g asking r place (SettlesAs o) i out settles = settle_keeps c g asking r place o i out settles
dispatch c g asking r place GoesAgain i out settles = answered_keeps c g i
dispatch c g asking r place Attaches i out settles = joined_keeps c g i
dispatch c g asking r place EndsSession i out settles = end_keeps (answered c g) (answered_keeps c g i)

at_some : (k : ℕ) (o : Option ℕ) → is_at k o ≡ true → is_some o ≡ true
at_some k None h = absurd (cc)
at_some k (Some j) h = refl

pub hear_keeps : (c : Client) (k g : ℕ) (asking : Bool) (r : Reply) (place : ℕ) → TableKept c → TableKept (hear_after c k g asking r place)
hear_keeps c k g asking r place i =
    in_both TableKept (is_awaited c k g asking) (hear c g asking r place (heard c g asking r)) c
    (λ h. dispatch c g asking r place (heard c g asking r) i (at_some k (c.outstanding_on g) (and_left _ _ h))
    (heard_settles c g asking r)) (λ h. i)

-- What never went out settles with its open, from below.
use Rattle.std.proofs.Common.{◌≡◌, ℕ, zero, suc, ◌+◌, ◌<◌, ◌≤◌, ◌==◌, ◌&&◌, nat_lt, not, Bool, true, false, if◌then◌else◌}
use Rattle.std.proofs.Common.{List, length, refl, ap, sym, ◌∙◌, arith, ◌⊎◌, inl, inr}
use Rattle.base_lists.specs.declared.watch_lists.Link.{Link as Watch}
use Rattle.spec_exchange.specs.Table.{put}
use Rattle.spec_exchange.specs.Operations.{Op, OpCreate, OpWrite, OpRead, OpEnd, OpTime, OpRename, OpRemove, OpLock, OpUnlock, OpFlush}
use Rattle.spec_exchange.specs.Operations.{OpStat, OpList, OpClose, is_create, is_firm, is_unsettled}
use Rattle.spec_exchange.specs.Operations.{Outcome, NoOpen, NoSlot, Unknown, Unsettled, WasOk, WasRefused}
use Rattle.spec_exchange.specs.Client.{Client, create_for, is_gone}
use Rattle.spec_exchange.specs.Settling.{give_up_on, with_no_opens, without_open}
use Rattle.law_client.specs.table.Kept.{TableKept}
use Rattle.law_client.specs.table.Columns.{IsClientFirst, ops_of, standing_of}
use Rattle.client_values.specs.declared.operations.values.OpKind.{OpKind}
use Rattle.client_values.specs.operations.Waiting.{kind_of}
use Rattle.client_rows.specs.declared.operation_rows.row.Row.{Row}
use Rattle.client_rows.specs.operation_rows.Rows.{row_at, stands, owner, kind}
use Rattle.client_rows.proofs.operation_rows.Walking.{put_at, put_off}
use Rattle.client_values.specs.declared.outcomes.outcome.Outcome.{Outcome as Settled}
use Rattle.client_values.specs.declared.outcomes.outcome.RefusedDialog.{RefusedDialog as Refused}
use Rattle.client_rows.specs.declared.session_state.session.Session.{Session}
use Rattle.client_tables.specs.whole_table.Shown.{ShowsParts}
use Rattle.client_rows.specs.open_marks.Marks.{is_create_kind}
use Rattle.client_steps.specs.unsent.GivenUp.{given_below}

ways : (x y : ℕ) → (x ≡ y) ⊎ (x ≡ y → ⊥)
ways x y = grind arith

below_or_past : (k n : ℕ) → (k < n) ⊎ (n ≤ k)
below_or_past k n = grind arith

true_or_false : (b : Bool) → (b ≡ true) ⊎ (b ≡ false)
true_or_false true = inl refl
true_or_false false = inr refl

test_other : (x y : ℕ) → (x ≡ y → ⊥) → (x == y) ≡ false
test_other x y e = grind arith

test_here : (g n : ℕ) → g ≡ n → nat_lt g (n + 1) ≡ true
test_here g n e = grind arith

test_there : (g n : ℕ) → (g ≡ n → ⊥) → nat_lt g (n + 1) ≡ nat_lt g n
test_there g n e = grind arith

test_itself : (n : ℕ) → nat_lt n n ≡ false
test_itself n = grind arith

test_below : (g n : ℕ) → g < n → nat_lt g n ≡ true
test_below g n l = grind arith

test_past : (g n : ℕ) → n ≤ g → nat_lt g n ≡ false
test_past g n l = grind arith

create_kind : (op : Op) → is_create op ≡ is_create_kind (kind_of op)
create_kind (OpCreate path access share disposition persist directory) = refl
create_kind (OpWrite create at bytes) = refl
create_kind (OpRead create at size) = refl
create_kind (OpEnd create size) = refl
create_kind (OpTime create time) = refl
create_kind (OpRename create path) = refl
create_kind (OpRemove create) = refl
create_kind (OpLock create at n exclusive) = refl
create_kind (OpUnlock create at n) = refl
create_kind (OpFlush create) = refl
create_kind (OpStat create) = refl
create_kind (OpList create) = refl
create_kind (OpClose create) = refl

-- ---- what becomes of one outcome, by the tests

-- it settles
settles_by : (names sent gone : Bool) (create : ℕ) (o : Outcome) → is_unsettled o ≡ true → (not sent && names) ≡ true → gone ≡ true
    → without_open names sent gone create o ≡ NoOpen create
settles_by true false true create Unsettled u t g = refl
settles_by true false false create Unsettled u t g = absurd (cc)
settles_by true true gone create Unsettled u t g = absurd (cc)
settles_by false true gone create Unsettled u t g = absurd (cc)
settles_by false false gone create Unsettled u t g = absurd (cc)
settles_by names sent gone create (WasOk reply) u t g = absurd (cc)
settles_by names sent gone create (WasRefused status) u t g = absurd (cc)
settles_by names sent gone create (NoSlot x) u t g = absurd (cc)
settles_by names sent gone create (NoOpen x) u t g = absurd (cc)
settles_by names sent gone create (Unknown why) u t g = absurd (cc)

-- or it stays
stays_by : (names sent gone : Bool) (create : ℕ) (o : Outcome) → ((is_unsettled o && not sent) && names) ≡ false
    → without_open names sent gone create o ≡ o
stays_by true true gone create Unsettled t = refl
stays_by true false gone create Unsettled t = absurd (cc)
stays_by false sent gone create Unsettled t = refl
stays_by names sent gone create (WasOk reply) t = refl
stays_by names sent gone create (WasRefused status) t = refl
stays_by names sent gone create (NoSlot x) t = refl
stays_by names sent gone create (NoOpen x) t = refl
stays_by names sent gone create (Unknown why) t = refl

-- an operation that isn't of the open stays
not_of : (sent gone : Bool) (create : ℕ) (o : Outcome) → without_open false sent gone create o ≡ o
not_of sent gone create Unsettled = refl
not_of sent gone create (WasOk reply) = refl
not_of sent gone create (WasRefused status) = refl
not_of sent gone create (NoSlot x) = refl
not_of sent gone create (NoOpen x) = refl
not_of sent gone create (Unknown why) = refl

-- ---- one more number

module _ (c : Client) (create : ℕ) where
  abbrev by : ℕ → Bool → Outcome
  by g b = if b then give_up_on c create g else c.outcome g

  pub given_next : (x : ℕ) (v : Outcome) → give_up_on c create x ≡ v
      → (g : ℕ) → put (given_below c create x).outcome x v g ≡ (given_below c create (x + 1)).outcome g
  given_next x v e g =
      elim (ways g x) as (λ _. put (given_below c create x).outcome x v g ≡ (given_below c create (x + 1)).outcome g) [
        | inl q ↦ put_at (given_below c create x).outcome x v g q ∙ sym e ∙ ap (λ y. give_up_on c create y) (sym q)
            ∙ sym (ap (λ b. by g b) (test_here g x q))
        | inr q ↦ put_off (given_below c create x).outcome x v g q ∙ ap (λ b. by g b) (sym (test_there g x q))
      ]

  pub given_kept : (x : ℕ) → give_up_on c create x ≡ c.outcome x
      → (g : ℕ) → (given_below c create x).outcome g ≡ (given_below c create (x + 1)).outcome g
  given_kept x e g =
      elim (ways g x) as (λ _. (given_below c create x).outcome g ≡ (given_below c create (x + 1)).outcome g) [
        | inl q ↦ ap (λ b. by g b) (ap (λ y. nat_lt y x) q ∙ test_itself x)
            ∙ sym (ap (λ b. by g b) (test_here g x q) ∙ ap (λ y. give_up_on c create y) q ∙ e ∙ ap c.outcome (sym q))
        | inr q ↦ ap (λ b. by g b) (sym (test_there g x q))
      ]

  pub given_itself : (x : ℕ) → (given_below c create x).outcome x ≡ c.outcome x
  given_itself x = ap (λ b. by x b) (test_itself x)

  given_at : (x y : ℕ) → y < x → (given_below c create x).outcome y ≡ give_up_on c create y
  given_at x y l = ap (λ b. by y b) (test_below y x l)

  stays_off : (g : ℕ) → (create_for c g ≡ create → ⊥) → give_up_on c create g ≡ c.outcome g
  stays_off g e =
      ap (λ b. without_open (b && not (is_create (c.op g))) (c.sent g) (is_gone c create) create (c.outcome g))
      (test_other (create_for c g) create e) ∙ not_of (c.sent g) (is_gone c create) create (c.outcome g)

  -- where none is of the open, nothing settles
  pub given_skip : (x m : ℕ) → x ≤ m → ((g : ℕ) → 0 < g → g ≤ c.taken → x ≤ g → g < m → create_for c g ≡ create → ⊥)
      → (g : ℕ) → 0 < g → g ≤ c.taken → (given_below c create x).outcome g ≡ (given_below c create m).outcome g
  given_skip x m l n g p t =
      elim (below_or_past g x) as (λ _. (given_below c create x).outcome g ≡ (given_below c create m).outcome g) [
        | inl a ↦ given_at x g a ∙ sym (given_at m g (higher g x m a l))
        | inr a ↦ (
            elim (below_or_past g m) as (λ _. (given_below c create x).outcome g ≡ (given_below c create m).outcome g) [
              | inl b ↦ ap (λ z. by g z) (test_past g x a) ∙ sym (given_at m g b ∙ stays_off g (λ e. n g p t a b e))
              | inr b ↦ ap (λ z. by g z) (test_past g x a) ∙ sym (ap (λ z. by g z) (test_past g m b))
            ]
            )
      ]
    where
      higher : (g x m : ℕ) → g < x → x ≤ m → g < m
      higher g x m a k = omega arith

  -- below the create none is of its open
  pub given_begun : ((g : ℕ) → 0 < g → g ≤ c.taken → create_for c g ≤ g)
      → (g : ℕ) → 0 < g → g ≤ c.taken → c.outcome g ≡ (given_below c create create).outcome g
  given_begun o g p l =
      elim (below_or_past g create) as (λ _. c.outcome g ≡ (given_below c create create).outcome g) [
        | inl m ↦ sym (given_at create g m ∙ stays_off g (λ e. apart (create_for c g) g create (o g p l) m e))
        | inr m ↦ sym (ap (λ b. by g b) (test_past g create m))
      ]
    where
      apart : (a g x : ℕ) → a ≤ g → g < x → a ≡ x → ⊥
      apart a g x l m e = omega arith

  pub given_whole : (n : ℕ) → c.taken < n → (g : ℕ) → 0 < g → g ≤ c.taken
      → (given_below c create n).outcome g ≡ (with_no_opens c create).outcome g
  given_whole n l g p m = given_at n g (higher g c.taken n m l)
    where
      higher : (g m n : ℕ) → g ≤ m → m < n → g < n
      higher g m n a k = omega arith

  -- a create is on its own open, and others on that of a lower create
  pub lower_so : TableKept (with_no_opens c create) → (g : ℕ) → 0 < g → g ≤ c.taken → create_for c g ≤ g
  lower_so k g p l =
      elim (true_or_false (is_create (c.op g))) as (λ _. create_for c g ≤ g) [
        | inl e ↦ same_at_most (create_for c g) g (k.ordered.itself g e)
        | inr e ↦ less_at_most (create_for c g) g (k.ordered.owned g p l e).1
      ]
    where
      same_at_most : (x y : ℕ) → x ≡ y → x ≤ y
      same_at_most x y e = omega arith

      less_at_most : (x y : ℕ) → x < y → x ≤ y
      less_at_most x y l = omega arith

  -- what settles so waits for nothing: behind the whole of it each lower one that held it up is settled
  pub given_first : (x : ℕ) (v : Outcome) → TableKept (with_no_opens c create) → 0 < x → x ≤ c.taken → give_up_on c create x ≡ v
      → is_unsettled v ≡ false → IsClientFirst (ops_of (given_below c create x)) (standing_of (given_below c create x)) x
  given_first x v k p t e u = λ h a l same holds.
      ap (λ o. is_unsettled o) (given_at x h l) ∙ k.stands.settled_first x p t (ap (λ o. is_unsettled o) e ∙ u) h a l same holds

-- ---- by rows

module _ (z : Session) (rows : List Row) (holders prices : List ℕ) (watchers : List Watch) (ops : List OpKind) (settled : List Settled)
    (order : List ℕ) (dialogs : List Refused) (c : Client) (create x : ℕ) (p : 0 < x) (l : x < length rows)
    (s : ShowsParts z rows holders prices watchers ops settled order dialogs (given_below c create x)) where
  pub taken_so : x ≤ c.taken
  taken_so = s.rows.places.is_taken x p l

  unsettled_so : stands rows x ≡ is_unsettled (c.outcome x)
  unsettled_so = sym (s.rows.places.unsettled x p taken_so) ∙ ap (λ o. is_unsettled o) (given_itself c create x)

  names_so : ((owner rows x == create) && not (is_create_kind (kind rows x)))
      ≡ ((create_for c x == create) && not (is_create (c.op x)))
  names_so = λ t. ((sym (s.rows.places.creates x p taken_so)) t == create)
      && not ((sym (create_kind (c.op x) ∙ ap (λ k. is_create_kind k) (s.rows.places.kinds x p taken_so))) t)

  tests_so : ((stands rows x && not (row_at rows x).sent) && ((owner rows x == create) && not (is_create_kind (kind rows x))))
      ≡ ((is_unsettled (c.outcome x) && not (c.sent x)) && ((create_for c x == create) && not (is_create (c.op x))))
  tests_so = λ t. ((unsettled_so t) && not ((sym (s.rows.sends.sent_is x)) t)) && (names_so t)

  both : (a b : Bool) → (a && b) ≡ true → (a ≡ true) × (b ≡ true)
  both true true e = (refl, refl)
  both true false e = absurd (cc)
  both false b e = absurd (cc)

  joined : (a b : Bool) → a ≡ true → b ≡ true → (a && b) ≡ true
  joined true true e f = refl
  joined true false e f = absurd (cc)
  joined false b e f = absurd (cc)

  pub given_up : ((stands rows x && not (row_at rows x).sent) && ((owner rows x == create) && not (is_create_kind (kind rows x)))) ≡ true
      → is_gone c create ≡ true → give_up_on c create x ≡ NoOpen create
  given_up t g =
      let w = both (is_unsettled (c.outcome x) && not (c.sent x)) ((create_for c x == create) && not (is_create (c.op x)))
      (sym tests_so ∙ t) in
      let u = both (is_unsettled (c.outcome x)) (not (c.sent x)) w.0 in
      settles_by ((create_for c x == create) && not (is_create (c.op x))) (c.sent x) (is_gone c create) create (c.outcome x) u.0
      (joined (not (c.sent x)) ((create_for c x == create) && not (is_create (c.op x))) u.1 w.1) g

  pub stays_so : ((stands rows x && not (row_at rows x).sent) && ((owner rows x == create) && not (is_create_kind (kind rows x)))) ≡ false
      → give_up_on c create x ≡ c.outcome x
  stays_so t =
      stays_by ((create_for c x == create) && not (is_create (c.op x))) (c.sent x) (is_gone c create) create (c.outcome x)
      (sym tests_so ∙ t)

-- ---- the relation, where outcomes are alike

pub table_alike : (z : Session) (rows : List Row) (holders prices : List ℕ) (watchers : List Watch) (ops : List OpKind)
    (settled : List Settled) (order : List ℕ) (dialogs : List Refused) (c : Client) (old new : ℕ → Outcome)
    → ((g : ℕ) → 0 < g → g ≤ c.taken → old g ≡ new g)
    → ShowsParts z rows holders prices watchers ops settled order dialogs (record c { outcome = old })
    → ShowsParts z rows holders prices watchers ops settled order dialogs (record c { outcome = new })
table_alike z rows holders prices watchers ops settled order dialogs c old new e s =
    let p = s.rows.places in
    record {
      rows = record {
        places = record {
          has_row = p.has_row;
          is_taken = p.is_taken;
          creates = p.creates;
          kinds = p.kinds;
          charges = p.charges;
          unsettled = λ g a l. ap (λ o. is_unsettled o) (sym (e g a l)) ∙ p.unsettled g a l;
          firm_is = λ g a l. ap (λ o. is_firm o) (sym (e g a l)) ∙ p.firm_is g a l;
          pays = p.pays;
        };
        sends = s.rows.sends;
        stand = s.rows.stand;
      };
      session = record {
        live = s.session.live;
        session = s.session.session;
        number = s.session.number;
        tree = s.session.tree;
        sequence = s.session.sequence;
        channels = s.session.channels;
        ready = s.session.ready;
        counted = s.session.counted;
        apart = s.session.apart;
        sized = s.session.sized;
        within = s.session.within;
      };
      values = record {
        ops_counted = s.values.ops_counted;
        settled_counted = s.values.settled_counted;
        op_is = s.values.op_is;
        outcome_is = λ g a l. sym (e g a l) ∙ s.values.outcome_is g a l;
      };
      order = s.order;
      refusals = s.refusals;
      bounds = record {
        attached = s.bounds.attached;
        counted = s.bounds.counted;
        limits = s.bounds.limits;
        slotted = s.bounds.slotted;
        users = s.bounds.users;
      };
    }

-- the client with its own outcomes
pub table_itself : (z : Session) (rows : List Row) (holders prices : List ℕ) (watchers : List Watch) (ops : List OpKind)
    (settled : List Settled) (order : List ℕ) (dialogs : List Refused) (c : Client)
    → ShowsParts z rows holders prices watchers ops settled order dialogs c
    → ShowsParts z rows holders prices watchers ops settled order dialogs (record c { outcome = c.outcome })
table_itself z rows holders prices watchers ops settled order dialogs c s =
    record {
      rows = record { places = s.rows.places; sends = s.rows.sends; stand = s.rows.stand };
      session = record {
        live = s.session.live;
        session = s.session.session;
        number = s.session.number;
        tree = s.session.tree;
        sequence = s.session.sequence;
        channels = s.session.channels;
        ready = s.session.ready;
        counted = s.session.counted;
        apart = s.session.apart;
        sized = s.session.sized;
        within = s.session.within;
      };
      values = s.values;
      order = s.order;
      refusals = s.refusals;
      bounds = record {
        attached = s.bounds.attached;
        counted = s.bounds.counted;
        limits = s.bounds.limits;
        slotted = s.bounds.slotted;
        users = s.bounds.users;
      };
    }

pub last_row : (taken m n : ℕ) → ((g : ℕ) → 0 < g → g ≤ taken → g < m) → m ≤ n → 0 < n → taken < n
last_row zero m n h l p = p
last_row (suc t) m n h l p = let w = h (suc t) (omega arith) (omega arith) in omega arith

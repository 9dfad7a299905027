-- What noting leaves of the client.
use Rattle.std.proofs.Common.{◌≡◌, ℕ, ◌<◌, ◌≤◌, ◌==◌, ◌&&◌, not, Bool, true, false, List, [], ◌∷◌, ◌++◌, length, slice_index, None}
use Rattle.std.proofs.Common.{refl, ap, sym, ◌∙◌, subst, arith, ◌⊎◌, inl, inr}
use Rattle.base_lists.specs.declared.watch_lists.Link.{Link as Watch}
use Rattle.spec_exchange.specs.Table.{put}
use Rattle.spec_exchange.specs.State.{Body}
use Rattle.spec_exchange.specs.Status.{disk_full}
use Rattle.spec_exchange.specs.Operations.{Outcome, NoOpen, NoSlot, Unknown, Unsettled, WasOk, WasRefused, is_close}
use Rattle.spec_exchange.specs.Operations.{is_create, is_lock, is_ok}
use Rattle.spec_exchange.specs.Operations.{is_unsettled}
use Rattle.spec_exchange.specs.Client.{Client, create_for, is_gone, is_gone_after}
use Rattle.spec_exchange.specs.Settling.{give_up_on, noted, noted_full, noted_ok, settled, without_open}
use Rattle.law_client.specs.table.Kept.{TableKept}
use Rattle.law_client.proofs.table.Chosen.{in_both}
use Rattle.client_values.specs.declared.operations.shapes.Kind.{Kind}
use Rattle.client_values.specs.declared.operations.values.OpKind.{OpKind}
use Rattle.client_rows.specs.declared.operation_rows.row.Row.{Row}
use Rattle.client_rows.specs.operation_rows.Rows.{kind}
use Rattle.client_rows.proofs.operation_rows.Walking.{put_at, put_off}
use Rattle.client_rows.specs.open_marks.Marks.{is_lock_kind}
use Rattle.client_values.specs.declared.outcomes.outcome.Outcome.{Outcome as Settled}
use Rattle.client_values.specs.declared.outcomes.outcome.RefusedDialog.{RefusedDialog as Refused}
use Rattle.client_rows.specs.Shown.{ShowsRows}
use Rattle.client_tables.proofs.pushes.Picked.{lock_kind}
use Rattle.client_rows.specs.declared.session_state.session.Session.{Session}
use Rattle.client_tables.specs.whole_table.Shown.{ShowsParts}
use Rattle.client_tables.specs.attached_opens.Places.{KeepsPlaces}
use Rattle.client_steps.specs.unsent.Ascending.{Ascends}

ways : (x y : ℕ) → (x ≡ y) ⊎ (x ≡ y → ⊥)
ways x y = grind arith

-- what holds of a client whatever its opens' columns holds of one that noted a response
ok_any : (P : Client → Type 0) (c : Client) (g : ℕ) (body : Body) → P c
    → ((file attached : ℕ → ℕ) → P (record c { file = file; attached = attached }))
    → ((closed : ℕ → Bool) → P (record c { closed_ok = closed })) → P (noted_ok c g body)
ok_any P c g body p f h =
    in_both P (is_create (c.op g)) _ _ (λ e. f _ _) (λ e. in_both P (is_close (c.op g)) _ _ (λ q. h _) (λ q. p))

noted_any : (P : Client → Type 0) (c : Client) (g : ℕ) (o : Outcome) (body : Body) → P c
    → ((file attached : ℕ → ℕ) → P (record c { file = file; attached = attached }))
    → ((closed : ℕ → Bool) → P (record c { closed_ok = closed }))
    → P (noted c g o body)
noted_any P c g (WasOk reply) body p f h = ok_any P c g body p f h
noted_any P c g Unsettled body p f h = p
noted_any P c g (WasRefused status) body p f h = p
noted_any P c g (NoSlot create) body p f h = p
noted_any P c g (NoOpen create) body p f h = p
noted_any P c g (Unknown why) body p f h = p

pub note_any : (P : Client → Type 0) → ((n : Client) (full : ℕ → ℕ → Bool) → P n → P (record n { full = full }))
    → (c : Client) (g : ℕ) (o : Outcome) (body : Body) (asking : Bool) (status : ℕ) → P c
    → ((file attached : ℕ → ℕ) → P (record c { file = file; attached = attached }))
    → ((closed : ℕ → Bool) → P (record c { closed_ok = closed }))
    → P (noted_full (noted c g o body) g asking status)
note_any P u c g o body asking status p f h =
    let n = noted c g o body in
    let q : P n = noted_any P c g o body p f h in
    in_both P (is_lock (n.op g) && (not asking && (status == disk_full))) _ _ (λ e. u n _ q) (λ e. q)

-- of an outcome that is none of a success
pub notes_nothing : (c : Client) (g : ℕ) (o : Outcome) (body : Body) → is_ok o ≡ false → noted c g o body ≡ c
notes_nothing c g (WasOk reply) body e = absurd (cc)
notes_nothing c g Unsettled body e = refl
notes_nothing c g (WasRefused status) body e = refl
notes_nothing c g (NoSlot create) body e = refl
notes_nothing c g (NoOpen create) body e = refl
notes_nothing c g (Unknown why) body e = refl

pub notes_success : (c : Client) (g : ℕ) (o : Outcome) (body : Body) → is_ok o ≡ true → noted c g o body ≡ noted_ok c g body
notes_success c g (WasOk reply) body e = refl
notes_success c g Unsettled body e = absurd (cc)
notes_success c g (WasRefused status) body e = absurd (cc)
notes_success c g (NoSlot create) body e = absurd (cc)
notes_success c g (NoOpen create) body e = absurd (cc)
notes_success c g (Unknown why) body e = absurd (cc)

-- ---- it settles

put_same : {X : Type 0} (f : ℕ → X) (g : ℕ) (v : X) (x : ℕ) → f g ≡ v → put f g v x ≡ f x
put_same f g v x e =
    elim (ways x g) as (λ _. put f g v x ≡ f x) [
      | inl q ↦ put_at f g v x q ∙ sym e ∙ ap f (sym q)
      | inr q ↦ put_off f g v x q
    ]

-- where nothing was outstanding of it
pub table_settled : (z : Session) (rows : List Row) (holders prices : List ℕ) (watchers : List Watch) (ops : List OpKind)
    (values : List Settled) (order : List ℕ) (dialogs : List Refused) (n : Client) (g place : ℕ) (o : Outcome) → n.outstanding_on g ≡ None
    → ShowsParts z rows holders prices watchers ops values order dialogs (record n {
      outcome = put n.outcome g o;
      order = n.order ++ g ∷ [];
    })
    → ShowsParts z rows holders prices watchers ops values order dialogs (settled n g o place)
table_settled z rows holders prices watchers ops values order dialogs n g place o e s =
    record {
      rows = record {
        places = s.rows.places;
        sends = record {
          sent_is = s.rows.sends.sent_is;
          out_is = λ x. put_same n.outstanding_on g None x e ∙ s.rows.sends.out_is x;
          asks_is = s.rows.sends.asks_is;
          unanswered_is = s.rows.sends.unanswered_is;
          sequence_is = s.rows.sends.sequence_is;
          slot_is = s.rows.sends.slot_is;
          number_is = s.rows.sends.number_is;
        };
        stand = s.rows.stand;
      };
      session = record {
        live = s.session.live;
        session = s.session.session;
        number = s.session.number;
        tree = s.session.tree;
        sequence = s.session.sequence;
        channels = s.session.channels;
        ready = s.session.ready;
        counted = s.session.counted;
        apart = s.session.apart;
        sized = s.session.sized;
        within = s.session.within;
      };
      values = s.values;
      order = s.order;
      refusals = s.refusals;
      bounds = record {
        attached = s.bounds.attached;
        counted = s.bounds.counted;
        limits = s.bounds.limits;
        slotted = s.bounds.slotted;
        users = s.bounds.users;
      };
    }

-- ---- an open that isn't gone

stays_by : (names sent : Bool) (create : ℕ) (o : Outcome) → without_open names sent false create o ≡ o
stays_by true true create Unsettled = refl
stays_by true false create Unsettled = refl
stays_by false sent create Unsettled = refl
stays_by names sent create (WasOk reply) = refl
stays_by names sent create (WasRefused status) = refl
stays_by names sent create (NoSlot x) = refl
stays_by names sent create (NoOpen x) = refl
stays_by names sent create (Unknown why) = refl

pub none_gives_up : (c : Client) (create g : ℕ) → is_gone c create ≡ false → c.outcome g ≡ give_up_on c create g
none_gives_up c create g e =
    sym (ap (λ b. without_open ((create_for c g == create) && not (is_create (c.op g))) (c.sent g) b create (c.outcome g)) e
    ∙ stays_by ((create_for c g == create) && not (is_create (c.op g))) (c.sent g) create (c.outcome g))

-- an unsettled create isn't gone
pub stands_yet : (c : Client) (create : ℕ) (o : Outcome) → is_unsettled o ≡ true → is_gone_after c create o ≡ false
stands_yet c create Unsettled e = refl
stands_yet c create (WasOk reply) e = absurd (cc)
stands_yet c create (WasRefused status) e = absurd (cc)
stands_yet c create (NoSlot x) e = absurd (cc)
stands_yet c create (NoOpen x) e = absurd (cc)
stands_yet c create (Unknown why) e = absurd (cc)

-- ---- what rows tell

pub lock_at : (rows : List Row) (holders prices : List ℕ) (watchers : List Watch) (c : Client) (g : ℕ) → 0 < g → g < length rows
    → ShowsRows rows holders prices watchers c → is_lock (c.op g) ≡ is_lock_kind (kind rows g)
lock_at rows holders prices watchers c g p l s =
    lock_kind (c.op g) ∙ ap (λ (z : Kind). is_lock_kind z) (s.places.kinds g p (s.places.is_taken g p l))

true_or_false : (b : Bool) → (b ≡ true) ⊎ (b ≡ false)
true_or_false true = inl refl
true_or_false false = inr refl

pub its_create : (c : Client) (g : ℕ) → TableKept c → 0 < g → g ≤ c.taken → is_create (c.op (create_for c g)) ≡ true
its_create c g k p l =
    elim (true_or_false (is_create (c.op g))) as (λ _. is_create (c.op (create_for c g)) ≡ true) [
      | inl e ↦ ap (λ y. is_create (c.op y)) (k.ordered.itself g e) ∙ e
      | inr e ↦ (k.ordered.owned g p l e).2
    ]

pub ascends_moved : (rows new : List Row) (later : List ℕ) → KeepsPlaces rows new → Ascends rows later → Ascends new later
ascends_moved rows new later m a =
    record {
      counted = a.counted ∙ sym m.count;
      within = λ g p l. subst (λ n. slice_index later g < n) (sym m.count) (a.within g p (subst (λ n. g < n) m.count l));
      higher = λ g p l. a.higher g p (subst (λ n. g < n) m.count l);
      own = λ g p l s. m.create (slice_index later g) ∙ a.own g p (subst (λ n. g < n) m.count l) s ∙ sym (m.create g);
      next = λ g h p l k e. a.next g h p l (subst (λ n. h < n) m.count k) (sym (m.create h) ∙ e ∙ m.create g);
    }

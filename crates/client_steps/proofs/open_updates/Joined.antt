-- An open is attached: rows and opens show it.
use Rattle.std.proofs.Common.{◌≡◌, ℕ, ◌+◌, ◌<◌, ◌≤◌, true, false, List, length, is_some, refl, ap, sym, ◌∙◌, subst, arith, ◌⊎◌, inl, inr}
use Rattle.std.proofs.lemmas.List.{get_or_past}
use Rattle.base_lists.specs.declared.watch_lists.Link.{Link as Watch}
use Rattle.spec_exchange.specs.Table.{put}
use Rattle.spec_exchange.specs.Client.{Client, create_for}
use Rattle.base_lists.specs.declared.number_set.Members.{Members}
use Rattle.client_values.specs.declared.operations.values.OpKind.{OpKind}
use Rattle.client_rows.specs.declared.operation_rows.row.Row.{Row}
use Rattle.client_rows.specs.operation_rows.Rows.{no_row, owner, stands}
use Rattle.client_rows.proofs.operation_rows.Walking.{put_at, put_off}
use Rattle.client_values.specs.declared.outcomes.outcome.Outcome.{Outcome as Settled}
use Rattle.client_values.specs.declared.outcomes.outcome.RefusedDialog.{RefusedDialog as Refused}
use Rattle.client_rows.specs.open_marks.Marks.{IsHighest}
use Rattle.client_rows.specs.Shown.{KeepsRow, ShowsRows}
use Rattle.client_rows.specs.declared.session_state.session.Session.{Session}
use Rattle.client_tables.specs.outstanding.Shown.{HoldsOut}
use Rattle.client_tables.proofs.settling.Settled.{values_moved}
use Rattle.client_tables.specs.whole_table.Shown.{ShowsParts}
use Rattle.client_tables.specs.attached_opens.Opens.{KeepsOthers}
use Rattle.client_steps.specs.open_updates.Columns.{attached_now}

ways : (x y : ℕ) → (x ≡ y) ⊎ (x ≡ y → ⊥)
ways x y = grind arith

below_or_past : (k n : ℕ) → (k < n) ⊎ (n ≤ k)
below_or_past k n = grind arith

apart_from_next : (g : ℕ) → g ≡ g + 1 → ⊥
apart_from_next g e = omega arith

-- nothing goes out, and nothing comes back
pub out_kept : (rows new : List Row) (out : Members) → ((x : ℕ) → KeepsRow rows new x) → HoldsOut rows out → HoldsOut new out
out_kept rows new out k h =
    record {
      fits = h.fits;
      sized = h.sized ∙ sym (k 0).count;
      out_is = λ g l. h.out_is g (subst (λ n. g < n) (k 0).count l) ∙ ap (λ o. is_some o) (sym ((k (g + 1)).others g (apart_from_next g)));
    }

put_at_most : (f : ℕ → ℕ) (y n x : ℕ) → ((z : ℕ) → f z ≤ n) → put f y n x ≤ n
put_at_most f y n x h =
    elim (ways x y) as (λ _. put f y n x ≤ n) [
      | inl q ↦ subst (λ v. v ≤ n) (sym (put_at f y n x q)) (same_at_most n)
      | inr q ↦ subst (λ v. v ≤ n) (sym (put_off f y n x q)) (h x)
    ]
  where
    same_at_most : (n : ℕ) → n ≤ n
    same_at_most n = omega arith

pub joined_shown : (z : Session) (rows new : List Row) (holders prices after : List ℕ) (watchers : List Watch) (ops : List OpKind)
    (settled : List Settled) (order : List ℕ) (dialogs : List Refused) (c : Client) (y : ℕ) → ((g : ℕ) → stands new g ≡ stands rows g)
    → ShowsParts z rows holders prices watchers ops settled order dialogs c
    → ShowsRows new holders after watchers (record c { attached = put c.attached y c.session_number })
    → ShowsParts z new holders after watchers ops settled order dialogs (record c { attached = put c.attached y c.session_number })
joined_shown z rows new holders prices after watchers ops settled order dialogs c y u s h =
    record {
      rows = h;
      session = record {
        live = s.session.live;
        session = s.session.session;
        number = s.session.number;
        tree = s.session.tree;
        sequence = s.session.sequence;
        channels = s.session.channels;
        ready = s.session.ready;
        counted = s.session.counted;
        apart = s.session.apart;
        sized = s.session.sized;
        within = s.session.within;
      };
      values = values_moved rows new ops settled c.taken c.op c.outcome u s.values;
      order = s.order;
      refusals = s.refusals;
      bounds = record {
        attached = λ x. put_at_most c.attached y c.session_number x s.bounds.attached;
        counted = s.bounds.counted;
        limits = s.bounds.limits;
        slotted = s.bounds.slotted;
        users = s.bounds.users;
      };
    }

-- ---- the highest operation of an open

no_false : true ≡ false → ⊥
no_false e = absurd (cc)

positive : (x y : ℕ) → 0 < x → x ≤ y → 0 < y
positive x y p l = omega arith

module _ (rows : List Row) (index last : ℕ) (p : 0 < index) (l : index < length rows)
    (i : IsHighest (owner rows) (λ h. true) (owner rows index) (length rows) last) where
  pub last_above : 0 < last
  last_above =
      elim (below_or_past last index) as (λ _. 0 < last) [
        | inl k ↦ absurd (no_false (i.none index k l refl))
        | inr k ↦ positive index last p k
      ]

  pub last_within : last < length rows
  last_within = i.below last_above

  pub last_own : owner rows last ≡ owner rows index
  last_own = i.own last_above

  -- none above it is unsettled
  pub none_above : (h : ℕ) → last < h → owner rows h ≡ owner rows last → stands rows h ≡ false
  none_above h k e =
      elim (below_or_past h (length rows)) as (λ _. stands rows h ≡ false) [
        | inl b ↦ absurd (no_false (i.none h k b (e ∙ last_own)))
        | inr b ↦ ap (λ (r : Row). r.unsettled) (get_or_past rows h no_row b)
      ]

-- ---- the columns of opens

pub others_joined : (c : Client) (g : ℕ)
    → KeepsOthers (create_for c g) c.attached (attached_now c g).attached c.slot_user (attached_now c g).slot_user c.retried
    (attached_now c g).retried c.full (attached_now c g).full
others_joined c g =
    record {
      session_is = λ y e. put_off c.attached (create_for c g) c.session_number y e;
      user_is = λ y e i. refl;
      retried_is = λ y e i. refl;
      full_is = λ y e i. refl;
    }

-- A table with one operation more.
use Rattle.std.proofs.Common.{◌≡◌, ℕ, ◌+◌, ◌-◌, ◌<◌, ◌≤◌, Bool, true, false, List, [], ◌∷◌, ◌++◌, length, get_or, is_some}
use Rattle.std.proofs.Common.{ap, sym, ◌∙◌, subst, arith, ◌⊎◌, inl, inr}
use Rattle.std.proofs.lemmas.Grind.{common_steps}
use Rattle.std.proofs.lemmas.List.{get_or_past, length_push}
use Rattle.std.specs.List.{sum_by}
use Rattle.std.proofs.lemmas.List.Sums.{sum_by_push}
use Rattle.base_lists.specs.declared.watch_lists.Link.{Link as Watch}
use Rattle.spec_exchange.specs.Table.{put}
use Rattle.spec_exchange.specs.Operations.{Op, create_of, is_lock, keeps_limits}
use Rattle.spec_exchange.specs.Client.{Client, outcome_at_first, take_op}
use Rattle.base_lists.specs.declared.number_set.Members.{Members}
use Rattle.base_lists.specs.number_set.Members.{MembersFit as FitsSet, has, size}
use Rattle.client_values.specs.declared.operations.values.OpKind.{OpKind}
use Rattle.client_values.specs.declared.operations.values.OpKind.TheVariants as kinds
use Rattle.client_values.specs.operations.Meaning.{op_of}
use Rattle.client_rows.specs.declared.operation_rows.row.Row.{Row}
use Rattle.client_rows.specs.operation_rows.Rows.{is_out, no_row, owner, row_at, stands}
use Rattle.client_rows.specs.operation_rows.Holding.{IsSafe}
use Rattle.client_rows.specs.operation_rows.Choosing.{RowCounts}
use Rattle.client_rows.proofs.operation_rows.Adding.{at_new, at_old}
use Rattle.client_rows.proofs.operation_rows.Walking.{put_at, put_off}
use Rattle.client_values.specs.declared.outcomes.outcome.Outcome.{Outcome as Settled}
use Rattle.client_values.specs.declared.outcomes.outcome.Outcome.TheVariants as outcomes
use Rattle.client_values.specs.declared.outcomes.outcome.RefusedDialog.{RefusedDialog as Refused}
use Rattle.client_rows.specs.Shown.{ShowsRows}
use Rattle.client_rows.specs.declared.session_state.session.Session.{Session}
use Rattle.client_tables.specs.outstanding.Shown.{HoldsOut}
use Rattle.client_tables.specs.settling.Shown.{ShowsValues, op_at, outcome_at, outcome_by}
use Rattle.client_tables.specs.whole_table.Shown.{TableBounds, FitsParts, ShowsParts, one_left}
use Rattle.client_steps.proofs.taking.Roomed.{one_at_most}

ways : (x y : ℕ) → (x ≡ y) ⊎ (x ≡ y → ⊥)
ways x y = grind arith

last_of : {X : Type 0} (xs : List X) (x d : X) (i : ℕ) → i ≡ length xs → get_or (xs ++ x ∷ []) i d ≡ x
last_of xs x d i e = grind (arith, common_steps)

front_of : {X : Type 0} (xs : List X) (x d : X) (i : ℕ) → i < length xs → get_or (xs ++ x ∷ []) i d ≡ get_or xs i d
front_of xs x d i l = grind (arith, common_steps)

-- ---- what fits

below_last : (g low n : ℕ) → g < low → (low ≤ 1) ⊎ (low ≤ n) → 0 < n → g ≡ n → ⊥
below_last g low n l (inl h) p e = omega arith
below_last g low n l (inr h) p e = omega arith

still_inside : (low n m : ℕ) → (low ≤ 1) ⊎ (low ≤ n) → m ≡ n + 1 → (low ≤ 1) ⊎ (low ≤ m)
still_inside low n m (inl h) e = inl h
still_inside low n m (inr h) e = inr (omega arith)

before_last : (g n m : ℕ) → g < m → m ≡ n + 1 → (g ≡ n → ⊥) → g < n
before_last g n m l e q = omega arith

one_less : (k n m : ℕ) → k ≡ n - 1 → 0 < n → m ≡ n + 1 → k + 1 ≡ m - 1
one_less k n m e p f = omega arith

room_for_one : (replies left more x room : ℕ) → x ≡ left + more → more ≤ 1 → (replies + left) + 1 ≤ room → replies + x ≤ room
room_for_one replies left more x room e l h = omega arith

higher : (x n m : ℕ) → x < n → m ≡ n + 1 → x < m
higher x n m l e = omega arith

module _ (rows : List Row) (r : Row) where
  abbrev pub grown : List Row
  grown = rows ++ r ∷ []

  pub grown_count : length grown ≡ length rows + 1
  grown_count = length_push rows r

  own_of : (0 < r.create) → (r.create < length rows + 1) → ((g : ℕ) → 0 < g → g < length rows → (0 < owner rows g)
      × (owner rows g < length rows))
      → (g : ℕ) → 0 < g → g < length grown → (0 < owner grown g) × (owner grown g < length grown)
  own_of p l o g a b =
      elim (ways g (length rows)) as (λ _. (0 < owner grown g) × (owner grown g < length grown)) [
        | inl e ↦ (
            let q : owner grown g ≡ r.create = ap (λ x. owner grown x) e ∙ ap (λ (w : Row). w.create) (at_new rows r) in (
              subst (λ x. 0 < x) (sym q) p,
              subst (λ x. x < length grown) (sym q) (subst (λ x. r.create < x) (sym grown_count) l),
            )
            )
        | inr e ↦ (
            let q : owner grown g ≡ owner rows g = ap (λ (w : Row). w.create) (at_old rows r g e) in
            let w = o g a (before_last g (length rows) (length grown) b grown_count e) in (
              subst (λ x. 0 < x) (sym q) w.0,
              subst (λ x. x < length grown) (sym q) (higher (owner rows g) (length rows) (length grown) w.1 grown_count),
            )
            )
      ]

  pub grown_out : (out made : Members) → FitsSet made → size made ≡ size out + 1 → ((h : ℕ) → h < size out → has made h ≡ has out h)
      → has made (size out) ≡ false → is_some r.outstanding_on ≡ false → HoldsOut rows out → HoldsOut grown made
  grown_out out made f n h a u o =
      record {
        fits = f;
        sized = n ∙ ap (λ x. x + 1) o.sized ∙ sym grown_count;
        out_is = λ g l.
            elim (ways g (length rows)) as (λ _. has made g ≡ is_out grown g) [
              | inl e ↦ ap (λ x. has made x) (e ∙ sym o.sized) ∙ a ∙ sym u
                  ∙ sym (ap (λ x. is_out grown x) e ∙ ap (λ (w : Row). is_some w.outstanding_on) (at_new rows r))
              | inr e ↦ (
                  let k = before_last g (length rows) (length grown) l grown_count e in
                  h g (subst (λ x. g < x) (sym o.sized) k) ∙ o.out_is g k
                  ∙ sym (ap (λ (w : Row). is_some w.outstanding_on) (at_old rows r g e))
                  )
            ];
      }

  pub grown_fits : (holders holders2 prices after : List ℕ) (watchers watching : List Watch) (out made : Members)
      (low operations settled replies room : ℕ) → IsSafe grown holders2 → RowCounts grown after watching → HoldsOut grown made
      → 0 < length rows → 0 < r.create → r.create < length rows + 1 → (replies + sum_by one_left rows) + 1 ≤ room
      → FitsParts rows holders prices watchers out low operations settled replies room
      → FitsParts grown holders2 after watching made low (operations + 1) (settled + 1) replies room
  grown_fits holders holders2 prices after watchers watching out made low operations settled replies room s u o p a b h f =
      record {
        safe = s;
        counts = u;
        out = o;
        above = f.above;
        lowest = λ g l. ap (λ (w : Row). w.unsettled) (at_old rows r g (below_last g low (length rows) l f.inside p)) ∙ f.lowest g l;
        inside = still_inside low (length rows) (length grown) f.inside grown_count;
        owned = own_of a b f.owned;
        ops_counted = one_less operations (length rows) (length grown) f.ops_counted p grown_count;
        settled_counted = one_less settled (length rows) (length grown) f.settled_counted p grown_count;
        roomy = room_for_one replies (sum_by one_left rows) (one_left r) (sum_by one_left grown) room (sum_by_push one_left rows r)
            (one_at_most r.unsettled) h;
      }

-- ---- what shows

up_to : (g n t : ℕ) → g ≤ n → n ≡ t + 1 → (g ≡ n → ⊥) → g ≤ t
up_to g n t l e q = omega arith

last_place : (g n t : ℕ) → g ≡ n → n ≡ t + 1 → g - 1 ≡ t
last_place g n t e f = omega arith

front_place : (g n t : ℕ) → 0 < g → g ≤ n → n ≡ t + 1 → (g ≡ n → ⊥) → g - 1 < t
front_place g n t p l e q = omega arith

module _ (rows : List Row) (r : Row) (c : Client) (op : Op) (next : length rows ≡ c.taken + 1) where
  pub grown_values : (ops : List OpKind) (settled : List Settled) (k : OpKind) (o : Settled) → op ≡ op_of k
      → outcome_at_first c (length rows) op ≡ outcome_by r.unsettled o → ShowsValues rows ops settled c.taken c.op c.outcome
      → ShowsValues (rows ++ r ∷ []) (ops ++ k ∷ []) (settled ++ o ∷ []) (length rows) (put c.op (length rows) op)
      (put c.outcome (length rows) (outcome_at_first c (length rows) op))
  grown_values ops settled k o is first s =
      record {
        ops_counted = length_push ops k ∙ ap (λ x. x + 1) s.ops_counted ∙ sym next;
        settled_counted = length_push settled o ∙ ap (λ x. x + 1) s.settled_counted ∙ sym next;
        op_is = λ g p l.
            elim (ways g (length rows)) as (λ _. put c.op (length rows) op g ≡ op_at (ops ++ k ∷ []) g) [
              | inl e ↦ put_at c.op (length rows) op g e ∙ is
                  ∙ sym (ap op_of (last_of ops k (kinds.Close 0) (g - 1) (last_place g (length rows) c.taken e next ∙ sym s.ops_counted)))
              | inr e ↦ put_off c.op (length rows) op g e ∙ s.op_is g p (up_to g (length rows) c.taken l next e)
                  ∙ sym (ap op_of (front_of ops k (kinds.Close 0) (g - 1)
                  (subst (λ x. g - 1 < x) (sym s.ops_counted) (front_place g (length rows) c.taken p l next e))))
            ];
        outcome_is = λ g p l.
            elim (ways g (length rows)) as (λ _. put c.outcome (length rows) (outcome_at_first c (length rows) op) g
            ≡ outcome_at (rows ++ r ∷ []) (settled ++ o ∷ []) g) [
              | inl e ↦ put_at c.outcome (length rows) (outcome_at_first c (length rows) op) g e ∙ first
                  ∙ ap (λ b. outcome_by b o) (sym (ap (λ x. stands (rows ++ r ∷ []) x) e ∙ ap (λ (w : Row). w.unsettled) (at_new rows r)))
                  ∙ ap (λ z. outcome_by (stands (rows ++ r ∷ []) g) z) (sym (last_of settled o (outcomes.NoOpen 0) (g - 1)
                  (last_place g (length rows) c.taken e next ∙ sym s.settled_counted)))
              | inr e ↦ put_off c.outcome (length rows) (outcome_at_first c (length rows) op) g e
                  ∙ s.outcome_is g p (up_to g (length rows) c.taken l next e)
                  ∙ ap (λ b. outcome_by b (get_or settled (g - 1) (outcomes.NoOpen 0)))
                  (sym (ap (λ (w : Row). w.unsettled) (at_old rows r g e)))
                  ∙ ap (λ z. outcome_by (stands (rows ++ r ∷ []) g) z) (sym (front_of settled o (outcomes.NoOpen 0) (g - 1)
                  (subst (λ x. g - 1 < x) (sym s.settled_counted) (front_place g (length rows) c.taken p l next e))))
            ];
      }

  reads_nothing : row_at rows (length rows) ≡ no_row
  reads_nothing = get_or_past rows (length rows) no_row (least (length rows))
    where
      least : (x : ℕ) → x ≤ x
      least x = omega arith

  pub grown_bounds : keeps_limits op ≡ true → c.sent (length rows) ≡ false → TableBounds c → TableBounds (take_op c (length rows) op)
  grown_bounds limits unsent b =
      record {
        attached = b.attached;
        counted = b.counted;
        limits = λ g p l.
            elim (ways g (length rows)) as (λ _. keeps_limits (put c.op (length rows) op g) ≡ true) [
              | inl e ↦ ap (λ x. keeps_limits x) (put_at c.op (length rows) op g e) ∙ limits
              | inr e ↦ ap (λ x. keeps_limits x) (put_off c.op (length rows) op g e)
                  ∙ b.limits g p (up_to g (length rows) c.taken l next e)
            ];
        slotted = λ g p l sent lock.
            elim (ways g (length rows)) as (λ _. (0 < c.slot_of g)
            × (is_some (c.slot_user (create_of g (put c.op (length rows) op g)) (c.slot_of g)) ≡ true)) [
              | inl e ↦ absurd (no (c.sent g) sent (ap c.sent e ∙ unsent))
              | inr e ↦ (
                  let q = put_off c.op (length rows) op g e in
                  let w = b.slotted g p (up_to g (length rows) c.taken l next e) sent (sym (ap (λ x. is_lock x) q) ∙ lock) in
                  (w.0, ap (λ x. is_some (c.slot_user (create_of g x) (c.slot_of g))) q ∙ w.1)
                  )
            ];
        users = λ x i g e. (
            let u = b.users x i g e in
            let q = put_off c.op (length rows) op g (λ h. no (c.sent g) u.3 (ap c.sent h ∙ unsent)) in (
              ap (λ y. is_lock y) q ∙ u.0,
              ap (λ y. create_of g y) q ∙ u.1,
              u.2,
              u.3,
            )
            );
      }
    where
      no : (b : Bool) → b ≡ true → b ≡ false → ⊥
      no true e f = absurd (cc)
      no false e f = absurd (cc)

  pub grown_shown : (z : Session) (holders holders2 prices after : List ℕ) (watchers watching : List Watch) (ops : List OpKind)
      (settled : List Settled) (order : List ℕ) (dialogs : List Refused) (k : OpKind) (o : Settled) → op ≡ op_of k
      → outcome_at_first c (length rows) op ≡ outcome_by r.unsettled o → keeps_limits op ≡ true
      → ShowsParts z rows holders prices watchers ops settled order dialogs c
      → ShowsRows (rows ++ r ∷ []) holders2 after watching (take_op c (length rows) op)
      → ShowsParts z (rows ++ r ∷ []) holders2 after watching (ops ++ k ∷ []) (settled ++ o ∷ []) order dialogs
      (take_op c (length rows) op)
  grown_shown z holders holders2 prices after watchers watching ops settled order dialogs k o is first limits s w =
      record {
        rows = w;
        session = record {
          live = s.session.live;
          session = s.session.session;
          number = s.session.number;
          tree = s.session.tree;
          sequence = s.session.sequence;
          channels = s.session.channels;
          ready = s.session.ready;
          counted = s.session.counted;
          apart = s.session.apart;
          sized = s.session.sized;
          within = s.session.within;
        };
        values = grown_values ops settled k o is first s.values;
        order = s.order;
        refusals = s.refusals;
        bounds = grown_bounds limits (s.rows.sends.sent_is (length rows) ∙ ap (λ (x : Row). x.sent) reads_nothing) s.bounds;
      }

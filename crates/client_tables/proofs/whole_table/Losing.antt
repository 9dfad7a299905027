-- A channel is lost.
use Rattle.std.proofs.Common.{◌≡◌, ℕ, suc, ◌+◌, ◌-◌, ◌<◌, ◌≤◌, Bool, true, false, if◌then◌else◌}
use Rattle.std.proofs.Common.{List, [], ◌∷◌, ◌++◌, length, take, drop, refl, ap, sym, ◌∙◌, subst, arith, append-nil, ◌⊎◌}
use Rattle.std.specs.List.{sum_by}
use Rattle.std.proofs.lemmas.List.{drop_all, take_all}
use Rattle.std.proofs.lemmas.List.Sums.{sum_by-cons}
use Rattle.base_lists.specs.declared.watch_lists.Link.{Link as Watch}
use Rattle.spec_exchange.specs.Client.{Client, cut_channel}
use Rattle.base_lists.specs.declared.number_set.Members.{Members}
use Rattle.client_values.specs.declared.operations.values.OpKind.{OpKind}
use Rattle.client_rows.specs.declared.operation_rows.row.Row.{Row}
use Rattle.client_rows.specs.operation_rows.Rows.{stands, owner}
use Rattle.client_rows.specs.operation_rows.Holding.{IsSafe}
use Rattle.client_rows.specs.operation_rows.Choosing.{RowCounts}
use Rattle.client_values.specs.declared.outcomes.outcome.Outcome.{Outcome as Settled}
use Rattle.client_values.specs.declared.outcomes.outcome.RefusedDialog.{RefusedDialog as Refused}
use Rattle.client_rows.specs.Shown.{ShowsRows}
use Rattle.client_tables.specs.cuts.Cutting.{CutLoses}
use Rattle.client_rows.specs.declared.session_state.session.Session.{Session}
use Rattle.client_rows.specs.session_state.Shown.{ClientShowsSession}
use Rattle.client_tables.specs.outstanding.Shown.{HoldsOut}
use Rattle.client_tables.proofs.settling.Settled.{values_moved}
use Rattle.client_tables.specs.whole_table.Shown.{AreRowsOwned, FitsParts, ShowsParts, one_left}

fewer : (a b : ℕ) → suc a ≡ suc b → a ≡ b
fewer a b e = omega arith

no_one : (n : ℕ) → suc n ≡ 0 → ⊥
no_one n e = omega arith

-- how many are left
pub left_same : (xs ys : List Row) → length ys ≡ length xs → ((g : ℕ) → stands ys g ≡ stands xs g) → sum_by one_left ys ≡ sum_by one_left xs
left_same [] [] n u = refl
left_same [] (y ∷ ys) n u = absurd (no_one (length ys) n)
left_same (x ∷ xs) [] n u = absurd (no_one (length xs) (sym n))
left_same (x ∷ xs) (y ∷ ys) n u =
    let a : one_left y ≡ one_left x = ap (λ b. if b then 1 else 0) (u 0) in
    let r = left_same xs ys (fewer (length ys) (length xs) n) (λ g. u (suc g)) in
    sum_by-cons one_left y ys ∙ (λ t. a t + r t) ∙ sym (sum_by-cons one_left x xs)

abbrev one_by : Bool → ℕ
one_by b = if b then 1 else 0

zero_least : (n : ℕ) → 0 ≤ n
zero_least n = omega arith

same_least : (n : ℕ) → n ≤ n
same_least n = omega arith

less_by : (a b : Bool) → (b ≡ false → a ≡ false) → one_by a ≤ one_by b
less_by true true h = same_least (one_by true)
less_by true false h = absurd (let t = h refl in cc)
less_by false b h = zero_least (one_by b)

both_less : (a b m n x y : ℕ) → a ≤ b → m ≤ n → x ≡ a + m → y ≡ b + n → x ≤ y
both_less a b m n x y h k e f = omega arith

pub left_fewer : (xs ys : List Row) → length ys ≡ length xs → ((g : ℕ) → stands xs g ≡ false → stands ys g ≡ false)
    → sum_by one_left ys ≤ sum_by one_left xs
left_fewer [] [] n u = same_least (sum_by one_left [])
left_fewer [] (y ∷ ys) n u = absurd (no_one (length ys) n)
left_fewer (x ∷ xs) [] n u = absurd (no_one (length xs) (sym n))
left_fewer (x ∷ xs) (y ∷ ys) n u =
    both_less (one_left y) (one_left x) (sum_by one_left ys) (sum_by one_left xs) (sum_by one_left (y ∷ ys)) (sum_by one_left (x ∷ xs))
    (less_by y.unsettled x.unsettled (u 0)) (left_fewer xs ys (fewer (length ys) (length xs) n) (λ g. u (suc g)))
    (sum_by-cons one_left y ys) (sum_by-cons one_left x xs)

pub owned_moved : (rows new : List Row) → length new ≡ length rows → ((g : ℕ) → owner new g ≡ owner rows g)
    → AreRowsOwned rows → AreRowsOwned new
owned_moved rows new n e o g p l =
    let w = o g p (subst (λ m. g < m) n l) in
    (subst (λ y. 0 < y) (sym (e g)) w.0, subst (λ y. y < length new) (sym (e g)) (subst (λ m. owner rows g < m) (sym n) w.1))

-- ---- what was outstanding on the channel is lost

module _ (rows new : List Row) (m : CutLoses rows new) where
  pub cut_fits : (holders prices after : List ℕ) (watchers : List Watch) (out swept : Members) (lowest operations settled replies room : ℕ)
      → IsSafe new holders → RowCounts new after watchers → HoldsOut new swept
      → FitsParts rows holders prices watchers out lowest operations settled replies room
      → FitsParts new holders after watchers swept lowest operations settled replies room
  cut_fits holders prices after watchers out swept lowest operations settled replies room s u o f =
      record {
        safe = s;
        counts = u;
        out = o;
        above = f.above;
        lowest = λ g l. m.unsettled g ∙ f.lowest g l;
        inside = subst (λ n. (lowest ≤ 1) ⊎ (lowest ≤ n)) (sym m.count) f.inside;
        owned = owned_moved rows new m.count m.create f.owned;
        ops_counted = f.ops_counted ∙ ap (λ n. n - 1) (sym m.count);
        settled_counted = f.settled_counted ∙ ap (λ n. n - 1) (sym m.count);
        roomy = subst (λ n. replies + n ≤ room) (sym (left_same rows new m.count m.unsettled)) f.roomy;
      }

  pub cut_shown : (was z : Session) (holders prices after : List ℕ) (watchers : List Watch) (ops : List OpKind) (settled : List Settled)
      (order : List ℕ) (dialogs : List Refused) (c : Client) (k : ℕ)
      → ShowsParts was rows holders prices watchers ops settled order dialogs c → ClientShowsSession z (cut_channel c k)
      → ShowsRows new holders after watchers (cut_channel c k)
      → ShowsParts z new holders after watchers ops settled order dialogs (cut_channel c k)
  cut_shown was z holders prices after watchers ops settled order dialogs c k s h r =
      record {
        rows = r;
        session = h;
        values = values_moved rows new ops settled c.taken c.op c.outcome m.unsettled s.values;
        order = s.order;
        refusals = s.refusals;
        bounds = record {
          attached = s.bounds.attached;
          counted = s.bounds.counted;
          limits = s.bounds.limits;
          slotted = s.bounds.slotted;
          users = s.bounds.users;
        };
      }

-- a list that was lent as a slice comes back as it was left
pub whole : {X : Type 0} (n : ℕ) (old new : List X) → length old ≡ n → length new ≡ length old
    → take n (new ++ drop (length new) old) ≡ new
whole n old new e f =
    ap (λ xs. take n (new ++ xs)) (drop_all (length new) old (omega arith)) ∙ ap (λ xs. take n xs) (append-nil new)
    ∙ take_all n new (omega arith)

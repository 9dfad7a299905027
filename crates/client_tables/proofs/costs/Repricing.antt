-- The walk down an open that gives each of its operations its price.
use Rattle.std.proofs.Common.{◌≡◌, ℕ, ◌<◌, ◌≤◌, ◌==◌, ◌&&◌, ◌||◌, nat_lt, Bool, true, false, if◌then◌else◌, List, length, set}
use Rattle.std.proofs.Common.{refl, ap, sym, ◌∙◌, arith, subst, ◌⊎◌, inl, inr}
use Rattle.std.proofs.lemmas.Bool.Decides.{nat_tests}
use Rattle.base_lists.specs.declared.watch_lists.Link.{Link as Watch}
use Rattle.spec_exchange.specs.Table.{put}
use Rattle.spec_exchange.specs.Operations.{charge, create_of, is_create, weight}
use Rattle.spec_exchange.specs.Client.{Client}
use Rattle.spec_exchange.specs.Schedules.{cost}
use Rattle.client_rows.specs.declared.operation_rows.row.Row.{Row}
use Rattle.client_rows.specs.declared.operation_rows.chains.Chain.TheVariants as chains
use Rattle.client_rows.specs.operation_rows.Rows.{row_at, stands, owner, kind, links}
use Rattle.client_rows.specs.operation_rows.Chains.{Chained, Descends, Reaches, SameBut}
use Rattle.client_rows.specs.operation_rows.Choosing.{RowCounts}
use Rattle.client_rows.specs.operation_rows.Holding.{IsSafe, holding_on_open}
use Rattle.client_rows.specs.operation_rows.Moves.{StandsRows}
use Rattle.client_rows.proofs.operation_rows.Columns.{alike_link, safe_link}
use Rattle.client_rows.proofs.operation_rows.Holding.{descend_all, same_of}
use Rattle.client_rows.proofs.operation_rows.Finding.{finds_counts}
use Rattle.client_rows.proofs.operation_rows.Changing.{col_kept}
use Rattle.client_rows.proofs.operation_rows.Walking.{count_same, put_at, put_off}
use Rattle.client_rows.specs.Shown.{KeepsRow, ShowsRows, fills_by, waits_by}
use Rattle.client_tables.specs.costs.Costs.{ShowsPaid, cost_where, paid_above, paid_where, priced_row}
use Rattle.client_tables.proofs.costs.Paid.{paid_link, paid_one, paid_to}

ways : (x y : ℕ) → (x ≡ y) ⊎ (x ≡ y → ⊥)
ways x y = grind arith

three : (x y : ℕ) → (x < y) ⊎ ((x ≡ y) ⊎ (y < x))
three x y = grind arith

below_or_not : (i n : ℕ) → (i < n) ⊎ (n ≤ i)
below_or_not i n = grind arith

clash : (b : Bool) → b ≡ true → b ≡ false → ⊥
clash b h k = absurd (cc)

then_is : (b : Bool) (x y : ℕ) → b ≡ true → (if b then x else y) ≡ x
then_is b x y e = ap (λ (t : Bool). if t then x else y) e

else_is : (b : Bool) (x y : ℕ) → b ≡ false → (if b then x else y) ≡ y
else_is b x y e = ap (λ (t : Bool). if t then x else y) e

both : (o l at g : ℕ) → o ≡ l → at < g → ((o == l) && nat_lt at g) ≡ true
both o l at g e k = grind (arith, nat_tests)

other : (o l at g : ℕ) → (o ≡ l → ⊥) → ((o == l) && nat_lt at g) ≡ false
other o l at g e = grind (arith, nat_tests)

lower : (o l at g : ℕ) → g ≤ at → ((o == l) && nat_lt at g) ≡ false
lower o l at g k = grind (arith, nat_tests)

same_open : (o l : ℕ) → o ≡ l → (o == l) ≡ true
same_open o l e = grind arith

other_open : (o l : ℕ) → (o ≡ l → ⊥) → (o == l) ≡ false
other_open o l e = grind arith

on_same : (owner : ℕ → ℕ) (h g : ℕ) → owner h ≡ owner g → holding_on_open owner h g ≡ true
on_same owner h g e = ap (λ (b : Bool). b && true) (same_open (owner h) (owner g) e)

-- ---- between one and the next that is unsettled none of the open is

between : (link : ℕ → ℕ) (o : ℕ → ℕ) (u : ℕ → Bool) (at next : ℕ) → Chained link (holding_on_open o) u
    → Reaches (holding_on_open o) u (link at) next
    → (h : ℕ) → next < h → h < at → o h ≡ o at → u h ≡ false
between link o u at next c r h a b e =
    elim (three h (link at)) as (λ _. u h ≡ false) [
      | inl k ↦ (
          let p : 0 < link at = omega arith in
          r.passed h a k (c.same at p h ∙ on_same o h at e)
          )
      | inr (inl k) ↦ ap u k ∙ r.left (subst (λ z. next < z) k a)
      | inr (inr k) ↦ c.gap at h k b (on_same o h at e)
    ]

next_open : (link : ℕ → ℕ) (o : ℕ → ℕ) (u : ℕ → Bool) (at next : ℕ) → Chained link (holding_on_open o) u
    → Reaches (holding_on_open o) u (link at) next
    → next ≤ link at → 0 < next → o next ≡ o at
next_open link o u at next c r l p =
    elim (three next (link at)) as (λ _. o next ≡ o at) [
      | inl k ↦ same_of (o next) (o (link at)) true (r.is p k) ∙ same_of (o (link at)) (o at) true (c.is at (omega arith))
      | inr (inl k) ↦ ap o k ∙ same_of (o (link at)) (o at) true (c.is at (subst (λ z. 0 < z) k p))
      | inr (inr k) ↦ absurd (omega arith)
    ]

-- ---- the walk

-- nothing of an open that is above its last one is unsettled
abbrev pub Tops : List Row → ℕ → Type 0
Tops rows last = (h : ℕ) → last < h → owner rows h ≡ owner rows last → stands rows h ≡ false

pub record Reprices (old : List Row) (oldp : List ℕ) (watchers : List Watch) (attached : Bool) (last : ℕ) (rows : List Row)
    (prices : List ℕ) (at : ℕ) : Type 0 where
  pub count : length rows ≡ length old
  pub within : at < length rows
  pub counts : RowCounts rows prices watchers
  pub descends : Descends (links chains.All rows)
  pub safe : (holders : List ℕ) → IsSafe old holders → IsSafe rows holders
  pub owners : (g : ℕ) → owner rows g ≡ owner old g
  pub kinds : (g : ℕ) → kind rows g ≡ kind old g
  pub charges : (g : ℕ) → (row_at rows g).charge ≡ (row_at old g).charge
  pub standing : (g : ℕ) → stands rows g ≡ stands old g
  pub opens : (g : ℕ) → (row_at rows g).«open» ≡ (row_at old g).«open»
  pub firms : (g : ℕ) → (row_at rows g).firm ≡ (row_at old g).firm
  pub outs : (g : ℕ) → (row_at rows g).outstanding_on ≡ (row_at old g).outstanding_on
  pub shown : (c : Client) (holders : List ℕ) (paid : ℕ → ℕ) → ShowsPaid old holders oldp watchers c paid → Tops old last
      → ShowsPaid rows holders prices watchers c (paid_above old attached last at paid) × (0 < at → owner old at ≡ owner old last)

col_link : {X : Type 0} (f : Row → X) (old new : List Row) → SameBut chains.All old new
    → ((r : Row) (n : ℕ) → f (record r { lower = n }) ≡ f r) → (g : ℕ) → f (row_at new g) ≡ f (row_at old g)
col_link f old new s e g = ap f (s.row g) ∙ e (row_at old g) (links chains.All new g)

safe_next : (rows two : List Row) (holders : List ℕ) → SameBut chains.All rows two → Descends (links chains.All two)
    → IsSafe rows holders → IsSafe two holders
safe_next rows two holders s d i = safe_link chains.All rows two holders s (descend_all rows two s d i.descend) i

module _ (old : List Row) (oldp : List ℕ) (watchers : List Watch) (attached : Bool) (last : ℕ) where
  abbrev price_at : ℕ → ℕ
  price_at g = cost_where attached (kind old g) (row_at old g).charge

  -- the first step: from the last one down
  pub reprices_begins : (two : List Row) (at : ℕ) → last < length old → RowCounts old oldp watchers → SameBut chains.All old two
      → Descends (links chains.All two) → at ≤ last
      → ((on : ℕ → ℕ → Bool) → Chained (links chains.All old) on (stands old) → Reaches on (stands old) last at)
      → ((on : ℕ → ℕ → Bool) → Chained (links chains.All old) on (stands old) → Chained (links chains.All two) on (stands two))
      → Reprices old oldp watchers attached last two oldp at
  reprices_begins two at h k s d l reaches chained =
      let n = s.count in
      record {
        count = s.count;
        within = omega arith;
        counts = finds_counts old two oldp watchers k (alike_link chains.All old two s);
        descends = d;
        safe = λ holders i. safe_next old two holders s d i;
        owners = col_link (λ (r : Row). r.create) old two s (λ r n. refl);
        kinds = col_link (λ (r : Row). r.kind) old two s (λ r n. refl);
        charges = col_link (λ (r : Row). r.charge) old two s (λ r n. refl);
        standing = col_link (λ (r : Row). r.unsettled) old two s (λ r n. refl);
        opens = col_link (λ (r : Row). r.«open») old two s (λ r n. refl);
        firms = col_link (λ (r : Row). r.firm) old two s (λ r n. refl);
        outs = col_link (λ (r : Row). r.outstanding_on) old two s (λ r n. refl);
        shown = λ c holders paid p top. (
            let r = reaches (holding_on_open (owner old)) p.stand.fits.opens in (
              paid_to two holders oldp watchers c paid (paid_above old attached last at paid)
                  (λ g z u. first_paid at paid r top g (sym (col_link (λ (w : Row). w.unsettled) old two s (λ w n. refl) g) ∙ u))
                  (paid_link old two s holders oldp watchers c paid chained p),
              λ q. first_open at r q l,
            )
            );
      }
    where
      gone : (at : ℕ) → Reaches (holding_on_open (owner old)) (stands old) last at → Tops old last → (g : ℕ) → at < g
          → owner old g ≡ owner old last → stands old g ≡ false
      gone at r top g k e =
          elim (three g last) as (λ _. stands old g ≡ false) [
            | inl a ↦ r.passed g k a (on_same (owner old) g last e)
            | inr (inl a) ↦ ap (λ z. stands old z) a ∙ r.left (subst (λ z. at < z) a k)
            | inr (inr a) ↦ top g a e
          ]

      first_paid : (at : ℕ) (paid : ℕ → ℕ) → Reaches (holding_on_open (owner old)) (stands old) last at → Tops old last → (g : ℕ)
          → stands old g ≡ true → paid_above old attached last at paid g ≡ paid g
      first_paid at paid r top g u =
          elim (ways (owner old g) (owner old last)) as (λ _. paid_above old attached last at paid g ≡ paid g) [
            | inr e ↦ else_is ((owner old g == owner old last) && nat_lt at g) (price_at g) (paid g)
                (other (owner old g) (owner old last) at g e)
            | inl e ↦ (
                elim (below_or_not at g) as (λ _. paid_above old attached last at paid g ≡ paid g) [
                  | inr k ↦ else_is ((owner old g == owner old last) && nat_lt at g) (price_at g) (paid g)
                      (lower (owner old g) (owner old last) at g k)
                  | inl k ↦ absurd (clash (stands old g) u (gone at r top g k e))
                ]
                )
          ]

      first_open : (at : ℕ) → Reaches (holding_on_open (owner old)) (stands old) last at → 0 < at → at ≤ last
          → owner old at ≡ owner old last
      first_open at r q l =
          elim (three at last) as (λ _. owner old at ≡ owner old last) [
            | inl a ↦ same_of (owner old at) (owner old last) true (r.is q a)
            | inr (inl a) ↦ ap (λ z. owner old z) a
            | inr (inr a) ↦ absurd (omega arith)
          ]

  -- what is told of prices from one on is told from the next one on
  next_paid : (paid : ℕ → ℕ) (at next v g : ℕ) → next < at → owner old at ≡ owner old last → v ≡ price_at at
      → (next < g → g < at → owner old g ≡ owner old last → ⊥)
      → paid_above old attached last next paid g ≡ put (paid_above old attached last at paid) at v g
  next_paid paid at next v g lt own is gone =
      elim (ways g at) as (λ _. paid_above old attached last next paid g ≡ put (paid_above old attached last at paid) at v g) [
        | inl e ↦ then_is ((owner old g == owner old last) && nat_lt next g) (price_at g) (paid g)
            (both (owner old g) (owner old last) next g (ap (λ z. owner old z) e ∙ own) (subst (λ z. next < z) (sym e) lt))
            ∙ ap (λ z. price_at z) e ∙ sym is ∙ sym (put_at (paid_above old attached last at paid) at v g e)
        | inr e ↦ off_paid paid at next g lt e gone ∙ sym (put_off (paid_above old attached last at paid) at v g e)
      ]
    where
      off_paid : (paid : ℕ → ℕ) (at next g : ℕ) → next < at → (g ≡ at → ⊥)
          → (next < g → g < at → owner old g ≡ owner old last → ⊥)
          → paid_above old attached last next paid g ≡ paid_above old attached last at paid g
      off_paid paid at next g lt e gone =
          elim (ways (owner old g) (owner old last))
          as (λ _. paid_above old attached last next paid g ≡ paid_above old attached last at paid g) [
            | inr o ↦ else_is ((owner old g == owner old last) && nat_lt next g) (price_at g) (paid g)
                (other (owner old g) (owner old last) next g o)
                ∙ sym (else_is ((owner old g == owner old last) && nat_lt at g) (price_at g) (paid g)
                (other (owner old g) (owner old last) at g o))
            | inl o ↦ (
                elim (three at g) as (λ _. paid_above old attached last next paid g ≡ paid_above old attached last at paid g) [
                  | inl k ↦ then_is ((owner old g == owner old last) && nat_lt next g) (price_at g) (paid g)
                      (both (owner old g) (owner old last) next g o (omega arith))
                      ∙ sym (then_is ((owner old g == owner old last) && nat_lt at g) (price_at g) (paid g)
                      (both (owner old g) (owner old last) at g o k))
                  | inr (inl k) ↦ absurd (e (sym k))
                  | inr (inr k) ↦ (
                      elim (below_or_not next g)
                      as (λ _. paid_above old attached last next paid g ≡ paid_above old attached last at paid g) [
                        | inl m ↦ absurd (gone m k o)
                        | inr m ↦ else_is ((owner old g == owner old last) && nat_lt next g) (price_at g) (paid g)
                            (lower (owner old g) (owner old last) next g m)
                            ∙ sym (else_is ((owner old g == owner old last) && nat_lt at g) (price_at g) (paid g)
                            (lower (owner old g) (owner old last) at g (omega arith)))
                      ]
                      )
                ]
                )
          ]

  module _ (rows : List Row) (at : ℕ) where
    abbrev mid : List Row
    mid = set rows at (priced_row attached (row_at rows at))

    kept : {X : Type 0} (f : Row → X) → at < length rows → f (priced_row attached (row_at rows at)) ≡ f (row_at rows at) → (g : ℕ)
        → f (row_at mid g) ≡ f (row_at rows g)
    kept f h e g = sym (λ t. (col_kept f rows at (priced_row attached (row_at rows at)) h e t) g)

    -- one gets its price, and the walk goes on below it
    pub reprices_one : (two : List Row) (prices prices2 : List ℕ) (next below : ℕ)
        → Reprices old oldp watchers attached last rows prices at → 0 < at → RowCounts mid prices2 watchers
        → ((holds : ℕ → ℕ → Bool) (fills : ℕ → Bool) (holders : List ℕ) → StandsRows holds fills rows holders prices watchers
        → StandsRows holds fills mid holders prices2 watchers)
        → ((holders : List ℕ) → IsSafe rows holders → IsSafe mid holders)
        → below ≡ links chains.All mid at → SameBut chains.All mid two → Descends (links chains.All two) → next ≤ below
        → ((on : ℕ → ℕ → Bool) → Chained (links chains.All mid) on (stands mid) → Reaches on (stands mid) below next)
        → ((on : ℕ → ℕ → Bool) → Chained (links chains.All mid) on (stands mid) → Chained (links chains.All two) on (stands two))
        → Reprices old oldp watchers attached last two prices2 next
    reprices_one two prices prices2 next below v q k stay safe b s d l reaches chained =
        let n : length mid ≡ length rows = count_same rows at (priced_row attached (row_at rows at)) in
        let m = s.count in
        let f = v.count in
        let w = v.within in
        let e : links chains.All mid at ≡ links chains.All rows at = kept (λ (z : Row). z.lower) v.within refl at in
        let u = v.descends at in
        let lt : next < at = omega arith in
        record {
          count = omega arith;
          within = omega arith;
          counts = finds_counts mid two prices2 watchers k (alike_link chains.All mid two s);
          descends = d;
          safe = λ holders i. safe_next mid two holders s d (safe holders (v.safe holders i));
          owners = λ g. col_link (λ (z : Row). z.create) mid two s (λ z x. refl) g ∙ kept (λ (z : Row). z.create)
              v.within refl g ∙ v.owners g;
          kinds = λ g. col_link (λ (z : Row). z.kind) mid two s (λ z x. refl) g ∙ kept (λ (z : Row). z.kind) v.within refl g ∙ v.kinds g;
          charges = λ g. col_link (λ (z : Row). z.charge) mid two s (λ z x. refl) g ∙ kept (λ (z : Row). z.charge) v.within refl g
              ∙ v.charges g;
          standing = λ g. col_link (λ (z : Row). z.unsettled) mid two s (λ z x. refl) g
              ∙ kept (λ (z : Row). z.unsettled) v.within refl g ∙ v.standing g;
          opens = λ g. col_link (λ (z : Row). z.«open») mid two s (λ z x. refl) g ∙ kept (λ (z : Row). z.«open»)
              v.within refl g ∙ v.opens g;
          firms = λ g. col_link (λ (z : Row). z.firm) mid two s (λ z x. refl) g ∙ kept (λ (z : Row). z.firm) v.within refl g ∙ v.firms g;
          outs = λ g. col_link (λ (z : Row). z.outstanding_on) mid two s (λ z x. refl) g
              ∙ kept (λ (z : Row). z.outstanding_on) v.within refl g ∙ v.outs g;
          shown = λ c holders paid p top. (
              let y = v.shown c holders paid p top in
              let x = paid_one rows at attached holders prices prices2 watchers c (paid_above old attached last at paid) v.within y.0
              (stay (waits_by c.op) (fills_by c.op) holders y.0.stand) in
              let chain = x.stand.fits.opens in
              let t = subst (λ z. Reaches (holding_on_open (owner mid)) (stands mid) z next) b
              (reaches (holding_on_open (owner mid)) chain) in
              let low : next ≤ links chains.All mid at = subst (λ z. next ≤ z) b l in
              let own = y.1 q in (
                paid_to two holders prices2 watchers c
                    (put (paid_above old attached last at paid) at (cost_where attached (kind rows at) (row_at rows at).charge))
                    (paid_above old attached last next paid)
                    (λ g z a. next_paid paid at next (cost_where attached (kind rows at) (row_at rows at).charge) g lt own
                    (λ i. cost_where attached (v.kinds at i) (v.charges at i))
                    (λ h j o. clash (stands two g) a (col_link (λ (i : Row). i.unsettled) mid two s (λ i x. refl) g
                    ∙ between (links chains.All mid) (owner mid) (stands mid) at next chain t g h j
                    (kept (λ (i : Row). i.create) v.within refl g ∙ v.owners g ∙ o ∙ sym own ∙ sym (v.owners at)
                    ∙ sym (kept (λ (i : Row). i.create) v.within refl at)))))
                    (paid_link mid two s holders prices2 watchers c
                    (put (paid_above old attached last at paid) at (cost_where attached (kind rows at) (row_at rows at).charge)) chained x),
                λ z. sym (v.owners next) ∙ sym (kept (λ (i : Row). i.create) v.within refl next)
                    ∙ next_open (links chains.All mid) (owner mid) (stands mid) at next chain t low z
                    ∙ kept (λ (i : Row). i.create) v.within refl at ∙ v.owners at ∙ own,
              )
              );
        }

  -- at the end of the walk
  pub reprices_ends : (rows : List Row) (prices : List ℕ) (at : ℕ) → Reprices old oldp watchers attached last rows prices at → at ≡ 0
      → (c : Client) (holders : List ℕ) (paid : ℕ → ℕ) → ShowsPaid old holders oldp watchers c paid → Tops old last
      → ShowsPaid rows holders prices watchers c (paid_where old attached last paid)
  reprices_ends rows prices at v z c holders paid p top = paid_to rows holders prices watchers c
      (paid_above old attached last at paid) (paid_where old attached last paid) (λ g q u. all_paid g at paid (omega arith))
      (v.shown c holders paid p top).0
    where
      all_paid : (g at : ℕ) (paid : ℕ → ℕ) → at < g
          → paid_where old attached last paid g ≡ paid_above old attached last at paid g
      all_paid g at paid k =
          elim (ways (owner old g) (owner old last))
          as (λ _. paid_where old attached last paid g ≡ paid_above old attached last at paid g) [
            | inl e ↦ then_is (owner old g == owner old last) (price_at g) (paid g) (same_open (owner old g) (owner old last) e)
                ∙ sym (then_is ((owner old g == owner old last) && nat_lt at g) (price_at g) (paid g)
                (both (owner old g) (owner old last) at g e k))
            | inr e ↦ else_is (owner old g == owner old last) (price_at g) (paid g) (other_open (owner old g) (owner old last) e)
                ∙ sym (else_is ((owner old g == owner old last) && nat_lt at g) (price_at g) (paid g)
                (other (owner old g) (owner old last) at g e))
          ]

-- where each stands stays, and what is outstanding
pub reprices_keeps : (old : List Row) (oldp : List ℕ) (watchers : List Watch) (attached : Bool) (last : ℕ) (rows : List Row)
    (prices : List ℕ) (at : ℕ) → Reprices old oldp watchers attached last rows prices at → (x : ℕ) → KeepsRow old rows x
reprices_keeps old oldp watchers attached last rows prices at v x =
    record {
      count = v.count;
      create = v.owners;
      opens = v.opens;
      kinds = v.kinds;
      unsettled = v.standing;
      firms = v.firms;
      charges = v.charges;
      others = λ g e. v.outs g;
    }

-- ---- an open that is attached

or_true : (a : Bool) → (a || true) ≡ true
or_true true = refl
or_true false = refl

-- what an operation costs, by whether its open is attached
by_attached : (create live : Bool) (at number dear : ℕ) → live ≡ true → at ≡ number
    → (if create || (live && (at == number)) then dear else 1) ≡ dear
by_attached create live at number dear e f = then_is (create || (live && (at == number))) dear 1
    ((λ t. create || (e t && (f t == number))) ∙ ap (λ (b : Bool). create || (true && b)) (same_open number number refl) ∙ or_true create)

pub attached_shown : (old rows : List Row) (last : ℕ) (holders oldp prices : List ℕ) (watchers : List Watch) (c : Client) → c.live ≡ true
    → ShowsRows old holders oldp watchers c
    → ShowsPaid rows holders prices watchers c (paid_where old true last (λ g. cost c g))
    → ShowsRows rows holders prices watchers (record c { attached = put c.attached (owner old last) c.session_number })
attached_shown old rows last holders oldp prices watchers c live s p =
    let w = p.places in
    record {
      places = record {
        has_row = w.has_row;
        is_taken = w.is_taken;
        creates = w.creates;
        kinds = w.kinds;
        charges = w.charges;
        unsettled = w.unsettled;
        firm_is = w.firm_is;
        pays = λ g a b u. (
            elim (ways (owner old g) (owner old last))
            as (λ _. cost (record c { attached = put c.attached (owner old last) c.session_number }) g ≡ (row_at rows g).cost) [
              | inl e ↦ by_attached (is_create (c.op g)) c.live (put c.attached (owner old last) c.session_number (create_of g (c.op g)))
                  c.session_number (charge (weight (c.op g))) live
                  (put_at c.attached (owner old last) c.session_number (create_of g (c.op g)) (s.places.creates g a b ∙ e))
                  ∙ s.places.charges g a b
                  ∙ sym (then_is (owner old g == owner old last) (row_at old g).charge (cost c g)
                  (same_open (owner old g) (owner old last) e))
                  ∙ w.pays g a b u
              | inr e ↦ (λ t. if is_create (c.op g) || (c.live
                  && (put_off c.attached (owner old last) c.session_number (create_of g (c.op g))
                  (λ q. e (sym (s.places.creates g a b) ∙ q)) t == c.session_number)) then charge (weight (c.op g)) else 1)
                  ∙ sym (else_is (owner old g == owner old last) (row_at old g).charge (cost c g)
                  (other_open (owner old g) (owner old last) e))
                  ∙ w.pays g a b u
            ]
            );
      };
      sends = p.sends;
      stand = p.stand;
    }

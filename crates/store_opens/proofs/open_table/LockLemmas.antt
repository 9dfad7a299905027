-- What is held of a file in the model's words, and the table behind new ranges of a file.
use Rattle.std.proofs.Common.{◌≡◌, ℕ, ◌==◌, nat_eq, nat_lt, Bool, true, false, not, if◌then◌else◌, List, [], ◌∷◌}
use Rattle.std.proofs.Common.{length, map, Option, Some, None, is_some, Result, Ok, Err, MatchResult, refl, sym, ap}
use Rattle.std.proofs.Common.{subst, ◌∙◌, arith, eqb-true, Vec}
use Rattle.std.specs.HashMap.{get}
use Rattle.spec_exchange.specs.Table.{is_filled}
use Rattle.spec_exchange.specs.State as model
use Rattle.spec_exchange.specs.Opens.{file_has_open}
use Rattle.spec_exchange.specs.Ranges.{RangeAnswer, Stands, lock_ranges}
use Rattle.spec_exchange.specs.Effects.{set_ranges}
use Rattle.store_opens.specs.declared.share_modes.lists.Range.{Range}
use Rattle.store_opens.specs.declared.share_modes.lists.Open.{Open}
use Rattle.store_opens.specs.declared.share_modes.ranges.RangeError.{RangeError}
use Rattle.store_opens.specs.declared.share_modes.ranges.RangeError.TheVariants.{Memory, NotGranted, NotLocked, Conflict, BadRange, TooMany}
use Rattle.store_opens.specs.share_modes.Locking.{LockingOutcome, range_of, lock_outcome, RefusedBy, IsConflict}
use Rattle.store_opens.specs.share_modes.Locking as outcomes
use Rattle.store_opens.specs.share_modes.Answers.{AllOf, answer_of}
use Rattle.store_opens.specs.declared.open_index.held.FileOpens.{FileOpens}
use Rattle.store_opens.specs.open_index.Held.{HeldShown, sharing_in}
use Rattle.store_opens.proofs.open_index.HeldLemmas.{open_is}
use Rattle.store_opens.specs.declared.open_table.row.Row.{Row}
use Rattle.store_opens.specs.declared.open_table.table.Opens.{Opens}
use Rattle.store_opens.specs.open_table.Rows.{OpenRowShown}
use Rattle.store_opens.specs.open_table.Locks.{DeniedBy, StandsWith, ranges_in, held_of, file_at, held_by, with_ranges}
use Rattle.store_opens.specs.open_table.Shown.{ShowsOpens}

-- ---- what is held

pub held_is : (t : Opens) (s : model.Server) (f : ℕ) → ShowsOpens t s → s.ranges f ≡ map range_of (held_of t f)
held_is t s f h = by (get nat_eq t.files f) (sharing_in s.opened s.opens f) (s.ranges f) (h.files_are f)
  where
    by : (r : Option FileOpens) (os : List Open) (ranges : List model.Range) → HeldShown r os ranges → ranges ≡ map range_of (ranges_in r)
    by None os ranges k = k.1
    by (Some r) os ranges k = k.ranges_are

pub file_is : (t : Opens) (s : model.Server) (o : ℕ) → ShowsOpens t s → s.standing o ≡ true
    → file_at (get nat_eq t.rows o) ≡ (s.opened o).file
file_is t s o h st = by (get nat_eq t.rows o) (h.rows_are o)
  where
    by : (r : Option Row) → OpenRowShown r (s.standing o) (s.opened o) (s.session_of_open o) (s.sequence o) (s.deadline o)
        (s.enumeration_location o, s.current_byte_offset o) (s.lock_sequences o) → file_at r ≡ (s.opened o).file
    by None e = absurd (cc)
    by (Some r) e = ap (λ (w : model.Open). w.file) (sym e.1.opened_is)

pub held_of_open : (t : Opens) (s : model.Server) (o : ℕ) → ShowsOpens t s → s.standing o ≡ true
    → s.ranges (s.opened o).file ≡ map range_of (held_by t o)
held_of_open t s o h st = held_is t s (s.opened o).file h ∙ ap (λ (f : ℕ). map range_of (held_of t f)) (sym (file_is t s o h st))

pub row_of_file : (t : Opens) (s : model.Server) (f : ℕ) → ShowsOpens t s → file_has_open s f ≡ true → is_some (get nat_eq t.files f) ≡ true
unfolding file_has_open
row_of_file t s f h e = by (get nat_eq t.files f) (sharing_in s.opened s.opens f) (s.ranges f) (h.files_are f)
    (sym (open_is s.opened s.opens f) ∙ e)
  where
    by : (r : Option FileOpens) (os : List Open) (ranges : List model.Range) → HeldShown r os ranges
        → nat_lt 0 (length os) ≡ true → is_some r ≡ true
    by None os ranges k l = absurd (let m = ap (λ (v : List Open). nat_lt 0 (length v)) k.0 in cc)
    by (Some r) os ranges k l = refl

-- ---- answers

denied : (e : RangeError) (o : LockingOutcome) (a : RangeAnswer) → a ≡ answer_of o → RefusedBy e o → DeniedBy e a
denied Memory o a h r = tt
denied (NotGranted x) o a h r = h ∙ ap answer_of r
denied (NotLocked x) o a h r = h ∙ ap answer_of r
denied (Conflict x) o a h r = h ∙ ap answer_of r
denied (BadRange x) o a h r = h ∙ ap answer_of r
denied TooMany o a h r = h ∙ ap answer_of r

pub answered : {Z : Type 0} (r : Result (Vec Range Z) RangeError) (o : LockingOutcome) (a : RangeAnswer) → a ≡ answer_of o
    → MatchResult r (λ v. o ≡ outcomes.Stands v.items) (λ e. RefusedBy e o)
    → MatchResult r (λ v. a ≡ Stands (map range_of v.items)) (λ e. DeniedBy e a)
answered (Ok v) o a h k = h ∙ ap answer_of k
answered (Err e) o a h k = denied e o a h k

pub locked_answer : (rs ws : List Range) (o : ℕ) (ranges : List model.Range)
    → ((rs : List Range) (o : ℕ) (w : Range) (ws : List Range) → AllOf o (w ∷ ws) → lock_ranges (map range_of rs) o
    (map range_of (w ∷ ws)) ≡ answer_of (lock_outcome rs (w ∷ ws)))
    → ranges ≡ map range_of rs → is_filled ws ≡ true → AllOf o ws → lock_ranges ranges o (map range_of ws) ≡ answer_of (lock_outcome rs ws)
unfolding is_filled
locked_answer rs [] o ranges law e f a = absurd (cc)
locked_answer rs (w ∷ ws) o ranges law e f a = rw e (law rs o w ws a)

pub read_answer : {T : Type 0} (r : Result T RangeError) (c : Option Range) (may : Bool) → may ≡ not (is_some c)
    → MatchResult r (λ _. c ≡ None) (λ e. IsConflict e c) → MatchResult r (λ _. may ≡ true) (λ _. may ≡ false)
read_answer (Ok x) c may e k = e ∙ ap (λ (v : Option Range). not (is_some v)) k
read_answer (Err (Conflict x)) c may e k = e ∙ ap (λ (v : Option Range). not (is_some v)) k
read_answer (Err Memory) c may e k = absurd (k)
read_answer (Err (NotGranted x)) c may e k = absurd (k)
read_answer (Err (NotLocked x)) c may e k = absurd (k)
read_answer (Err (BadRange x)) c may e k = absurd (k)
read_answer (Err TooMany) c may e k = absurd (k)

-- ---- new ranges

held_put : (b : Bool) (r : Option FileOpens) (os : List Open) (old : List model.Range) (rs : List Range)
    → (b ≡ true → nat_lt 0 (length os) ≡ true) → HeldShown r os old
    → HeldShown (if b then with_ranges rs r else r) os (if b then map range_of rs else old)
held_put true None os old rs f h = absurd (let m = ap (λ (v : List Open). nat_lt 0 (length v)) h.0 in let k = f refl in cc)
held_put true (Some r) os old rs f h = record { count_is = h.count_is; shares_are = h.shares_are; ranges_are = refl }
held_put false r os old rs f h = h

pub shows_ranges : (t u : Opens) (s : model.Server) (f : ℕ) (rs : List Range) → u ≡ record t { files = u.files }
    → ((q : ℕ) → get nat_eq u.files q ≡ (if q == f then with_ranges rs (get nat_eq t.files q) else get nat_eq t.files q))
    → ShowsOpens t s → file_has_open s f ≡ true → ShowsOpens u (set_ranges s f (map range_of rs))
unfolding file_has_open
shows_ranges t u s f rs e files h there =
    subst (λ (v : Opens). ShowsOpens v (set_ranges s f (map range_of rs))) (sym e) (record {
      epoch_is = h.epoch_is;
      given_is = h.given_is;
      count_is = h.count_is;
      rows_are = h.rows_are;
      trees_are = h.trees_are;
      guids_are = h.guids_are;
      files_are = λ g. rw (files g) (held_put (g == f) (get nat_eq t.files g) (sharing_in s.opened s.opens g)
          (s.ranges g) rs (filled g) (h.files_are g));
      sessions_are = h.sessions_are;
      listed = h.listed;
      plain_listed = h.plain_listed;
      named = h.named;
      expired_are = h.expired_are;
      expired_count_is = h.expired_count_is;
      indexed = h.indexed;
      undated = h.undated;
    })
  where
    filled : (g : ℕ) → (g == f) ≡ true → nat_lt 0 (length (sharing_in s.opened s.opens g)) ≡ true
    filled g q = subst (λ (z : ℕ). nat_lt 0 (length (sharing_in s.opened s.opens z)) ≡ true) (sym (eqb-true g f q))
        (sym (open_is s.opened s.opens f) ∙ there)

pub held_behind : (t u : Opens) (f : ℕ) (rs : List Range)
    → ((q : ℕ) → get nat_eq u.files q ≡ (if q == f then with_ranges rs (get nat_eq t.files q) else get nat_eq t.files
    q))
    → is_some (get nat_eq t.files f) ≡ true → held_of u f ≡ rs
held_behind t u f rs files there = ap ranges_in (files f ∙ here f) ∙ by (get nat_eq t.files f) there
  where
    here : (g : ℕ) → (if g == g then with_ranges rs (get nat_eq t.files g) else get nat_eq t.files g)
        ≡ with_ranges rs (get nat_eq t.files g)
    here g = grind arith

    by : (r : Option FileOpens) → is_some r ≡ true → ranges_in (with_ranges rs r) ≡ rs
    by None k = absurd (cc)
    by (Some r) k = refl

-- ---- a lock that stands

pub stands_with : (a : RangeAnswer) (rs : List model.Range) (P : List model.Range → Type 0) → a ≡ Stands rs → P rs → StandsWith a P
stands_with a rs P e p = subst (λ (v : RangeAnswer). StandsWith v P) (sym e) p

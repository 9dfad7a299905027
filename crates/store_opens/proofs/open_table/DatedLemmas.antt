-- The table behind the first deadlines, and the open that is due by its index.
use Rattle.store_opens.proofs.open_table.RowLemmas.{tree_dated}
use Rattle.std.proofs.Common.{◌≡◌, ◌<◌, ◌^◌, vec_len, vec_capacity, ◌≤◌, ℕ, ◌==◌, nat_eq, nat_le}
use Rattle.std.proofs.Common.{Bool, true, false, not, ◌&&◌, if◌then◌else◌, ◌⊎◌, inl, inr, List, [], ◌∷◌, length, Option}
use Rattle.std.proofs.Common.{Some, None, is_some, refl, sym, ap, subst, ◌∙◌, arith, eqb-true}
use Rattle.std.proofs.lemmas.Bool.Decides.{nat_tests}
use Rattle.std.specs.HashMap.{get, hash_map_len, spare}
use Rattle.std.specs.HashSet as set
use Rattle.std.specs.BTreeSet.{contains}
use Rattle.std.specs.Ordering.{nat_cmp}
use Rattle.spec_exchange.specs.Table.{has}
use Rattle.spec_exchange.specs.State as model
use Rattle.spec_exchange.specs.Effects.{deadline_behind}
use Rattle.spec_exchange.specs.Step.{first_deadline, with_deadlines, is_past, due_in, due}
use Rattle.law_server.specs.tables.Fits.{Fits, is_ascending}
use Rattle.store_opens.specs.declared.open_table.row.Row.{Row}
use Rattle.store_opens.specs.declared.open_table.table.Opens.{Opens}
use Rattle.store_opens.specs.open_table.Rows.{OpenPlace, OpenRowShown, open_of}
use Rattle.store_opens.specs.open_index.Held.{HeldShown, sharing_in}
use Rattle.store_opens.specs.open_index.Keep.{SessionShown, HasKeepPlace, keep_lists, lists_plain, keep_names}
use Rattle.store_opens.specs.open_index.Index.{indexes}
use Rattle.store_opens.specs.open_table.Due.{deadline_at, dated_row, with_deadline, first_of, IndexGrows}
use Rattle.store_opens.specs.declared.open_index.index.Deadlines.{Deadlines}
use Rattle.store_opens.specs.open_table.Shown.{pair_eq, ShowsOpens, HasPlainPlace, HasOpensRoom, HasRoomIn, HasOpensSessionRoom}
use Rattle.store_opens.specs.declared.open_index.keep.SessionOpens.{SessionOpens}
use Rattle.store_opens.proofs.open_table.RowLemmas.{row_dated}
use Rattle.store_opens.proofs.open_index.SetLemmas.{contains_has}
use Rattle.store_opens.proofs.open_table.DueLemmas.{due_same}
use Rattle.store_opens.proofs.open_table.Moved.{deadline_of}

-- ---- first deadlines

pub record Dated (t u : Opens) (now : ℕ) : Type 0 where
  pub rows : (q : ℕ) → get nat_eq u.rows q ≡ (if has q t.undated.items then dated_row now (get nat_eq t.rows q) else get nat_eq t.rows q)
  pub len : hash_map_len u.rows ≡ hash_map_len t.rows
  pub index : IndexGrows (λ q. get nat_eq t.rows q) (λ q. get nat_eq u.rows q) t.deadlines u.deadlines
  pub sessions : u.sessions ≡ t.sessions
  pub guids : u.guids ≡ t.guids
  pub files : u.files ≡ t.files
  pub epoch : u.epoch ≡ t.epoch
  pub given : u.given ≡ t.given
  pub expired : u.expired ≡ t.expired
  pub expired_count : u.expired_count ≡ t.expired_count

-- one that has a deadline, or a session, keeps what it has
stays_dated : (stands : Bool) (session deadline : Option ℕ) (row : model.Open) (now : ℕ) (N : Bool)
    → (stands ≡ true → session ≡ None → deadline ≡ None → N ≡ true) → N ≡ false → first_deadline now stands session row
    deadline ≡ deadline
stays_dated true None None row now N h e = let k = h refl refl refl in absurd (cc)
stays_dated true None (Some d) row now N h e = refl
stays_dated true (Some x) deadline row now N h e = refl
stays_dated false session deadline row now N h e = refl

row_first : (b : Bool) (r : Option Row) (stands : Bool) (opened : model.Open) (session : Option ℕ) (sequence : ℕ)
    (deadline : Option ℕ) (location : OpenPlace) (locks : ℕ → Option model.Kept) (now : ℕ)
    → (stands ≡ true → session ≡ None → deadline ≡ None → b ≡ true) → OpenRowShown r stands opened session sequence deadline location locks
    → OpenRowShown (if b then dated_row now r else r) stands opened session sequence
    (first_deadline now stands session opened deadline) location locks
row_first true r stands opened session sequence deadline location locks now n h = row_dated r stands opened session
    sequence deadline location locks now h
row_first false r stands opened session sequence deadline location locks now n h =
    subst (λ (d : Option ℕ). OpenRowShown r stands opened session sequence d location locks)
    (sym (stays_dated stands session deadline opened now false n refl)) h

never_undated : (session deadline : Option ℕ) (row : model.Open) (now : ℕ) (N : Bool) → session ≡ None
    → first_deadline now true session row deadline ≡ None → N ≡ true
never_undated None None row now N a b = absurd (cc)
never_undated None (Some d) row now N a b = absurd (cc)
never_undated (Some x) deadline row now N a b = absurd (cc)

plain_first : (stands : Bool) (session deadline : Option ℕ) (row : model.Open) (now d : ℕ) → stands ≡ false
    → first_deadline now stands session row deadline ≡ Some d → deadline ≡ Some d
plain_first true session deadline row now d e h = absurd (cc)
plain_first false session deadline row now d e h = h

pub open_dated : (t u : Opens) (now : ℕ) (s : model.Server) → Dated t u now → ShowsOpens t s → ShowsOpens u (with_deadlines s now)
open_dated t u now s a h =
    record {
      epoch_is = h.epoch_is ∙ sym a.epoch;
      given_is = h.given_is ∙ sym a.given;
      count_is = h.count_is ∙ sym a.len;
      rows_are = λ q. rows_at q;
      trees_are = λ q. rw (a.rows q) (tree_dated (has q t.undated.items) (get nat_eq t.rows q) _ now (h.trees_are q));
      guids_are = λ c g. subst (λ (m : _). s.by_guid c g ≡ get pair_eq m (c, g)) (sym a.guids) (h.guids_are c g);
      files_are = λ f. subst (λ (m : _). HeldShown (get nat_eq m f) (sharing_in s.opened s.opens f) (s.ranges f))
          (sym a.files) (h.files_are f);
      sessions_are = λ x. subst (λ (m : _). SessionShown (get nat_eq m x) (s.closed x) (s.refused x) (s.guids x))
          (sym a.sessions) (h.sessions_are x);
      listed = λ o x e. subst (λ (m : _). keep_lists (get nat_eq m x) o ≡ true) (sym a.sessions) (h.listed o x e);
      plain_listed = λ o x e k. subst (λ (m : _). lists_plain (get nat_eq m x) o ≡ true) (sym a.sessions) (h.plain_listed o x e k);
      named = λ o x g e k. subst (λ (m : _). keep_names (get nat_eq m x) g ≡ true) (sym a.sessions) (h.named o x g e k);
      expired_are = λ c g. subst (λ (v : _). s.expired_guids c g ≡ set.contains pair_eq v (c, g)) (sym a.expired) (h.expired_are c g);
      expired_count_is = h.expired_count_is ∙ sym a.expired_count;
      indexed = λ w o d e. indexed_at w o d (s.standing o) refl e;
      undated = λ o st e k. never_undated (s.session_of_open o) (s.deadline o) (s.opened o) now (has o u.undated.items)
          e (subst (λ (b : Bool). first_deadline now b (s.session_of_open o) (s.opened o) (s.deadline o) ≡ None) st k);
    }
  where
    rows_at : (q : ℕ) → OpenRowShown (get nat_eq u.rows q) (s.standing q) (s.opened q) (s.session_of_open q) (s.sequence q)
        (first_deadline now (s.standing q) (s.session_of_open q) (s.opened q) (s.deadline q)) (s.enumeration_location q, s.current_byte_offset q)
        (s.lock_sequences q)
    rows_at q = rw (a.rows q) (row_first (has q t.undated.items) (get nat_eq t.rows q) _ _ _ _ _ _ _ now (h.undated q) (h.rows_are q))

    indexed_at : u.deadlines.is_whole ≡ true → (o d : ℕ) (b : Bool) → s.standing o ≡ b
        → first_deadline now (s.standing o) (s.session_of_open o) (s.opened o) (s.deadline o) ≡ Some d
        → indexes u.deadlines d o ≡ true
    indexed_at w o d true st e = pick (a.index.here w o d (row_deadline (get nat_eq u.rows o) (rows_at o)))
      where
        row_deadline : (r : Option Row) → OpenRowShown r (s.standing o) (s.opened o) (s.session_of_open o) (s.sequence o)
            (first_deadline now (s.standing o) (s.session_of_open o) (s.opened o) (s.deadline o))
            (s.enumeration_location o, s.current_byte_offset o) (s.lock_sequences o) → deadline_at r ≡ Some d
        row_deadline None k = absurd (cc)
        row_deadline (Some r) k = sym k.1.deadline_is ∙ e

        pick : (deadline_at (get nat_eq t.rows o) ≡ Some d) ⊎ (indexes u.deadlines d o ≡ true) → indexes u.deadlines d o ≡ true
        pick (inl k) = a.index.kept o d (h.indexed (a.index.whole w) o d (sym (deadline_of t s o h st) ∙ k))
        pick (inr k) = k
    indexed_at w o d false st e = a.index.kept o d
        (h.indexed (a.index.whole w) o d (plain_first (s.standing o) (s.session_of_open o) (s.deadline o) (s.opened o)
        now d st e))

-- ---- due

pub due_congr : (f g : ℕ → Option ℕ) (now : ℕ) (xs : List ℕ) → ((o : ℕ) → has o xs ≡ true → f o ≡ g o) → due_in f xs now ≡ due_in g xs now
unfolding due_in
due_congr f g now [] h = refl
due_congr f g now (x ∷ xs) h =
    let e = due_congr f g now xs (λ o k. h o (later o k)) in
    let c : f x ≡ g x = h x (first x) in
    rw (c, e) refl
  where
    later : (o : ℕ) → has o xs ≡ true → has o (x ∷ xs) ≡ true
    later o k = grind arith

    first : (y : ℕ) → has y (y ∷ xs) ≡ true
    first y = grind arith

pub past_of : (now : ℕ) (deadline : Option ℕ) → is_past now deadline ≡ true → (d : ℕ) × (deadline ≡ Some d) × (d ≤ now)
past_of now None h = absurd (cc)
past_of now (Some d) h = (d, refl, le h)
  where
    le : nat_le d now ≡ true → d ≤ now
    le h = grind (arith, nat_tests)

pub stands_past : (t : Opens) (s : model.Server) (q d : ℕ) → ShowsOpens t s → deadline_at (get nat_eq t.rows q) ≡ Some d
    → s.standing q ≡ true
stands_past t s q d h = by (get nat_eq t.rows q) (h.rows_are q)
  where
    by : (r : Option Row) → OpenRowShown r (s.standing q) (s.opened q) (s.session_of_open q) (s.sequence q) (s.deadline q)
        (s.enumeration_location q, s.current_byte_offset q) (s.lock_sequences q) → deadline_at r ≡ Some d → s.standing q ≡ true
    by None e k = absurd (cc)
    by (Some r) e k = e.0

-- the first of those that went over, in a whole index
pub due_indexed : (t : Opens) (s : model.Server) (now : ℕ) → ShowsOpens t s → Fits s → is_ascending t.deadlines.overdue.keys ≡ true
    → ((o d : ℕ) → s.deadline o ≡ Some d → d ≤ now → contains nat_cmp t.deadlines.overdue o ≡ true)
    → due_in (λ o. deadline_at (get nat_eq t.rows o)) t.deadlines.overdue.keys now ≡ due s now
due_indexed t s now h i asc over =
    sym (due_congr s.deadline (λ o. deadline_at (get nat_eq t.rows o)) now s.opens (λ o k. sym (deadline_of t s o h (sym (i.listed o) ∙ k)))
    ∙ due_same (λ o. deadline_at (get nat_eq t.rows o)) now s.opens t.deadlines.overdue.keys i.ascending asc (λ q k. same q k))
  where
    same : (q : ℕ) → is_past now (deadline_at (get nat_eq t.rows q)) ≡ true → has q s.opens ≡ has q t.deadlines.overdue.keys
    same q k =
        let p = past_of now (deadline_at (get nat_eq t.rows q)) k in
        let st = stands_past t s q p.0 h p.1 in
        i.listed q ∙ st ∙ sym (sym (contains_has q t.deadlines.overdue.keys) ∙ over q p.0 (sym (deadline_of t s q h st) ∙ p.1) p.2)

-- ---- one row

with_is_dated : (now d : ℕ) (r : Option Row) → Some d ≡ first_of now r → with_deadline d r ≡ dated_row now r
with_is_dated now d None e = refl
with_is_dated now d (Some r) e = by r.session r.deadline e
  where
    by : (session deadline : Option ℕ) → Some d
        ≡ (if not (is_some session) && not (is_some deadline) then Some (deadline_behind now r.timeout) else None)
        → Some (record r { deadline = Some d }) ≡ Some (record r { deadline = first_deadline now true session (open_of r) deadline })
    by None None e = rw e refl
    by None (Some k) e = absurd (cc)
    by (Some x) deadline e = absurd (cc)

none_is_dated : (now : ℕ) (r : Option Row) → None ≡ first_of now r → r ≡ dated_row now r
none_is_dated now None e = refl
none_is_dated now (Some r) e = by r.session r.deadline e
  where
    by : (session deadline : Option ℕ) → None
        ≡ (if not (is_some session) && not (is_some deadline) then Some (deadline_behind now r.timeout) else None)
        → Some (record r { deadline = deadline }) ≡ Some (record r { deadline = first_deadline now true session (open_of r) deadline })
    by None None e = absurd (cc)
    by None (Some k) e = refl
    by (Some x) deadline e = refl

pub dated_with : (now q id d : ℕ) (rows : ℕ → Option Row) → Some d ≡ first_of now (rows id)
    → (if q == id then with_deadline d (rows q) else rows q) ≡ (if q == id then dated_row now (rows q) else rows q)
dated_with now q id d rows e = by (q == id) refl
  where
    by : (b : Bool) → (q == id) ≡ b → (if b then with_deadline d (rows q) else rows q) ≡ (if b then dated_row now (rows q) else rows q)
    by true f = with_is_dated now d (rows q) (subst (λ (z : ℕ). Some d ≡ first_of now (rows z)) (sym (eqb-true q id f)) e)
    by false f = refl

pub dated_none : (now q id : ℕ) (rows : ℕ → Option Row) → None ≡ first_of now (rows id) → rows q
    ≡ (if q == id then dated_row now (rows q) else rows q)
dated_none now q id rows e = by (q == id) refl
  where
    by : (b : Bool) → (q == id) ≡ b → rows q ≡ (if b then dated_row now (rows q) else rows q)
    by true f = none_is_dated now (rows q) (subst (λ (z : ℕ). None ≡ first_of now (rows z)) (sym (eqb-true q id f)) e)
    by false f = refl

pub grows_with : (a b : ℕ → Option Row) (id d0 : ℕ) (t u : Deadlines) → (u.is_whole ≡ true → t.is_whole ≡ true)
    → ((o d : ℕ) → indexes t d o ≡ true → indexes u d o ≡ true)
    → (u.is_whole ≡ true → indexes u d0 id ≡ true) → ((q : ℕ) → b q ≡ (if q == id then with_deadline d0 (a q) else a q))
    → IndexGrows a b t u
grows_with a b id d0 t u whole others here rows =
    record { whole = whole; kept = others; here = λ w o d e. by w o d (o == id) refl (ap deadline_at (sym (rows o)) ∙ e) }
  where
    at_row : (d : ℕ) (r : Option Row) → deadline_at (with_deadline d0 r) ≡ Some d → d0 ≡ d
    at_row d None e = absurd (cc)
    at_row d (Some r) e = cc

    by : u.is_whole ≡ true → (o d : ℕ) (v : Bool) → (o == id) ≡ v
        → deadline_at (if v then with_deadline d0 (a o) else a o) ≡ Some d → (deadline_at (a o) ≡ Some d)
        ⊎ (indexes u d o ≡ true)
    by w o d true f e = inr (subst (λ (z : ℕ). indexes u z o ≡ true) (at_row d (a o) e)
        (subst (λ (z : ℕ). indexes u d0 z ≡ true) (sym (eqb-true o id f)) (here w)))
    by w o d false f e = inl e

-- the list of those that wait was taken out of t, and gone through
pub dated_each : (t u : Opens) (waiting : List ℕ) (now : ℕ) → waiting ≡ t.undated.items
    → ((q : ℕ) → get nat_eq u.rows q ≡ (if has q waiting then dated_row now (get nat_eq t.rows q) else get nat_eq t.rows
    q)) → hash_map_len u.rows ≡ hash_map_len t.rows
    → IndexGrows (λ q. get nat_eq t.rows q) (λ q. get nat_eq u.rows q) t.deadlines u.deadlines → u ≡ record t {
      rows = u.rows;
      deadlines = u.deadlines;
      undated = u.undated;
    } → Dated t u now
dated_each t u waiting now list rows len index rest =
    record {
      rows = λ q. subst (λ (os : List ℕ). get nat_eq u.rows q
          ≡ (if has q os then dated_row now (get nat_eq t.rows q) else get nat_eq t.rows q)) list (rows q);
      len = len;
      index = index;
      sessions = ap (λ (w : Opens). w.sessions) rest;
      guids = ap (λ (w : Opens). w.guids) rest;
      files = ap (λ (w : Opens). w.files) rest;
      epoch = ap (λ (w : Opens). w.epoch) rest;
      given = ap (λ (w : Opens). w.given) rest;
      expired = ap (λ (w : Opens). w.expired) rest;
      expired_count = ap (λ (w : Opens). w.expired_count) rest;
    }

-- where none waits there is nothing to date
pub dated_empty : (t : Opens) (now : ℕ) → t.undated.items ≡ [] → Dated t t now
dated_empty t now none =
    dated_each t t [] now (sym none) (λ q. refl) refl (record { whole = λ w. w; kept = λ o d k. k; here = λ w o d k. inl k }) refl

-- a row that is dated keeps what makes its place among the plain ones
pub plain_dated : (r new : Option Row) (b listed : Bool) (now : ℕ) → new ≡ (if b then dated_row now r else r)
    → HasPlainPlace r listed → HasPlainPlace new listed
plain_dated None new true listed now e h = subst (λ (v : Option Row). HasPlainPlace v listed) (sym e) h
plain_dated (Some r) new true listed now e h = subst (λ (v : Option Row). HasPlainPlace v listed) (sym e) h
plain_dated r new false listed now e h = subst (λ (v : Option Row). HasPlainPlace v listed) (sym e) h

pub none_waits : (xs : List ℕ) → length xs ≡ 0 → xs ≡ []
none_waits [] e = refl
none_waits (x ∷ xs) e = absurd (grind arith)

-- ---- room, behind first deadlines

pub room_dated : (t u : Opens) → spare u.rows ≡ spare t.rows → hash_map_len u.rows ≡ hash_map_len t.rows → u
    ≡ record t { rows = u.rows; deadlines = u.deadlines; undated = u.undated } → HasOpensRoom t → HasOpensRoom u
room_dated t u a b e r = (
  subst (λ (n : ℕ). 0 < n) (sym a) r.0,
  subst (λ (w : Opens). 0 < spare w.guids) (sym e) r.1,
  subst (λ (w : Opens). 0 < spare w.files) (sym e) r.2,
  subst (λ (n : ℕ). n < 2 ^ 63) (sym b) r.3,
)

pub session_dated : (t u : Opens) (x o now : ℕ) (waits : Bool) → u ≡ record t {
  rows = u.rows;
  deadlines = u.deadlines;
  undated = u.undated;
}
    → get nat_eq u.rows o ≡ (if waits then dated_row now (get nat_eq t.rows o) else get nat_eq t.rows o)
    → HasOpensSessionRoom t x o → HasOpensSessionRoom u x o
session_dated t u x o now waits e row r =
    let same = ap (λ (w : Opens). get nat_eq w.sessions x) e in (
      subst (λ (v : Option SessionOpens). HasKeepPlace v) (sym same) r.0,
      subst (λ (v : Option SessionOpens). keep_lists v o ≡ true) (sym same) r.1,
      subst (λ (v : Option SessionOpens). HasPlainPlace (get nat_eq u.rows o) (lists_plain v o)) (sym same)
          (plain_dated (get nat_eq t.rows o) (get nat_eq u.rows o) waits (lists_plain (get nat_eq t.sessions x) o) now
          row r.2),
    )

pub new_dated : (t u : Opens) (session : Option ℕ) (o : ℕ) (p : Bool) → u ≡ record t {
  rows = u.rows;
  deadlines = u.deadlines;
  undated = u.undated;
} → vec_len u.undated ≡ 0 → vec_capacity u.undated
    ≡ vec_capacity t.undated
    → HasRoomIn t session o p → HasRoomIn u session o p
new_dated t u None o p e len cap r = few (vec_len t.undated) (vec_len u.undated) (vec_capacity t.undated) (vec_capacity u.undated) len cap r
  where
    few : (a b c d : ℕ) → b ≡ 0 → d ≡ c → a < c → b < d
    few a b c d e f l = omega (arith, e, f, l)
new_dated t u (Some x) o p e len cap r =
    let same = ap (λ (w : Opens). get nat_eq w.sessions x) e in (
      subst (λ (v : Option SessionOpens). HasKeepPlace v) (sym same) r.0,
      subst (λ (v : Option SessionOpens). keep_lists v o ≡ true) (sym same) r.1,
      λ q. subst (λ (v : Option SessionOpens). lists_plain v o ≡ true) (sym same) (r.2 q),
    )

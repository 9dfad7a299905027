-- The table behind an open that is attached or comes back, a session's end and the first deadlines.
use Rattle.store_opens.proofs.open_table.RowLemmas.{tree_attached, tree_detached}
use Rattle.std.proofs.Common.{◌≡◌, ℕ, ◌==◌, nat_eq, Bool, true, false, not, ◌&&◌, if◌then◌else◌}
use Rattle.std.proofs.Common.{◌⊎◌, inl, inr, Option, Some, None, is_some, refl, sym, ap}
use Rattle.std.proofs.Common.{subst, ◌∙◌, arith, eqb-true}
use Rattle.std.specs.HashMap.{get, hash_map_len}
use Rattle.std.specs.HashSet as set
use Rattle.spec_exchange.specs.Table.{has, is_at}
use Rattle.spec_exchange.specs.State as model
use Rattle.spec_exchange.specs.Effects.{cleared, dated, deadline_behind}
use Rattle.law_server.specs.tables.Fits.{Fits}
use Rattle.store_opens.specs.declared.open_table.row.Row.{Row}
use Rattle.store_opens.specs.declared.open_table.table.Opens.{Opens}
use Rattle.store_opens.specs.declared.open_index.index.Deadlines.{Deadlines}
use Rattle.store_opens.specs.declared.open_index.keep.SessionOpens.{SessionOpens}
use Rattle.store_opens.specs.open_table.Rows.{OpenPlace, OpenRowShown, attached_row, detached_row, guid_at}
use Rattle.store_opens.specs.open_index.Held.{HeldShown, sharing_in}
use Rattle.store_opens.specs.open_index.Keep.{SessionShown, SessionsCount, one_more, keep_lists, lists_plain, keep_names}
use Rattle.store_opens.specs.open_index.Index.{indexes}
use Rattle.store_opens.specs.open_table.Due.{deadline_at, IndexGrows}
use Rattle.store_opens.specs.open_table.Shown.{pair_eq, ShowsOpens, HasPlainPlace}
use Rattle.store_opens.specs.open_table.Changes.{attached_to, attached_if, detached, HasNoPlain}
use Rattle.law_server.proofs.tables.Logic.{either}
use Rattle.store_opens.proofs.open_table.RowLemmas.{row_detached}

-- ---- the index

pub index_same : (a : ℕ → Option Row) (t : Deadlines) → IndexGrows a a t t
index_same a t = record { whole = λ w. w; kept = λ o d h. h; here = λ w o d h. inl h }

pub index_then : (a b c : ℕ → Option Row) (t u v : Deadlines) → IndexGrows a b t u → IndexGrows b c u v → IndexGrows a c t v
index_then a b c t u v f g =
    record {
      whole = λ w. f.whole (g.whole w);
      kept = λ o d h. g.kept o d (f.kept o d h);
      here = λ w o d h. step o d (g.here w o d h) (λ k. f.here (g.whole w) o d k) (λ k. g.kept o d k);
    }
  where
    step : (o d : ℕ) → (deadline_at (b o) ≡ Some d) ⊎ (indexes v d o ≡ true)
        → (deadline_at (b o) ≡ Some d → (deadline_at (a o) ≡ Some d) ⊎ (indexes u d o ≡ true))
        → (indexes u d o ≡ true → indexes v d o ≡ true)
        → (deadline_at (a o) ≡ Some d) ⊎ (indexes v d o ≡ true)
    step o d (inr i) m n = inr i
    step o d (inl e) m n = elim (m e) [ inl x ↦ inl x | inr y ↦ inr (n y) ]

pub deadline_of : (t : Opens) (s : model.Server) (o : ℕ) → ShowsOpens t s → s.standing o ≡ true
    → deadline_at (get nat_eq t.rows o) ≡ s.deadline o
deadline_of t s o h st = by (get nat_eq t.rows o) (h.rows_are o)
  where
    by : (r : Option Row) → OpenRowShown r (s.standing o) (s.opened o) (s.session_of_open o) (s.sequence o) (s.deadline o)
        (s.enumeration_location o, s.current_byte_offset o) (s.lock_sequences o) → deadline_at r ≡ s.deadline o
    by None e = absurd (cc)
    by (Some r) e = sym e.1.deadline_is

-- ---- attached

row_attached : (b : Bool) (r : Option Row) (stands : Bool) (opened : model.Open) (session : Option ℕ) (sequence : ℕ)
    (deadline : Option ℕ) (location : OpenPlace) (locks : ℕ → Option model.Kept) (x tree n : ℕ)
    → OpenRowShown r stands opened session sequence deadline location locks
    → OpenRowShown (if b then attached_row x tree n r else r) stands opened (if b then Some x else session)
    (if b then n else sequence) (if b then None else deadline) location locks
row_attached true None stands opened session sequence deadline location locks x tree n h = h
row_attached true (Some r) stands opened session sequence deadline location locks x tree n h = (
  h.0,
  record {
    opened_is = h.1.opened_is;
    session_is = refl;
    sequence_is = refl;
    deadline_is = refl;
    location_is = h.1.location_is;
    position_is = h.1.position_is;
    slots_are = h.1.slots_are;
  },
)
row_attached false r stands opened session sequence deadline location locks x tree n h = h

pub record Attached (t u : Opens) (o x tree n : ℕ) : Type 0 where
  pub rows : (q : ℕ) → get nat_eq u.rows q ≡ (if q == o then attached_row x tree n (get nat_eq t.rows q) else get nat_eq t.rows q)
  pub len : hash_map_len u.rows ≡ hash_map_len t.rows
  pub counted : SessionsCount (λ q. get nat_eq t.sessions q) (λ q. get nat_eq u.sessions q) (one_more x)
  pub here : (g : ℕ) → guid_at (get nat_eq t.rows o) ≡ Some g → keep_names (get nat_eq u.sessions x) g ≡ true
  pub listed : keep_lists (get nat_eq u.sessions x) o ≡ true
  pub plain : HasPlainPlace (get nat_eq t.rows o) (lists_plain (get nat_eq u.sessions x) o)
  pub guids : u.guids ≡ t.guids
  pub files : u.files ≡ t.files
  pub undated : u.undated ≡ t.undated
  pub epoch : u.epoch ≡ t.epoch
  pub given : u.given ≡ t.given
  pub expired : u.expired ≡ t.expired
  pub expired_count : u.expired_count ≡ t.expired_count
  pub whole : u.deadlines.is_whole ≡ t.deadlines.is_whole
  pub index : (q d : ℕ) → (q == o) ≡ false → indexes t.deadlines d q ≡ true → indexes u.deadlines d q ≡ true

guid_of : (t : Opens) (s : model.Server) (o : ℕ) → ShowsOpens t s → s.standing o ≡ true → guid_at (get nat_eq t.rows o)
    ≡ (s.opened o).create_guid
guid_of t s o h st = by (get nat_eq t.rows o) (h.rows_are o)
  where
    by : (r : Option Row) → OpenRowShown r (s.standing o) (s.opened o) (s.session_of_open o) (s.sequence o) (s.deadline o)
        (s.enumeration_location o, s.current_byte_offset o) (s.lock_sequences o) → guid_at r ≡ (s.opened o).create_guid
    by None e = absurd (cc)
    by (Some r) e = ap (λ (w : model.Open). w.create_guid) (sym e.1.opened_is)

pub some_same : (x y : ℕ) → Some x ≡ Some y → x ≡ y
some_same x y e = cc

pub open_attached : (t u : Opens) (o x tree n : ℕ) (s : model.Server) → Attached t u o x tree n → ShowsOpens t s → s.standing o
    ≡ true → ShowsOpens u (attached_to s o x tree n)
open_attached t u o x tree n s a h st =
    record {
      epoch_is = h.epoch_is ∙ sym a.epoch;
      given_is = h.given_is ∙ sym a.given;
      count_is = h.count_is ∙ sym a.len;
      rows_are = λ q. rw (a.rows q) (row_attached (q == o) _ _ _ _ _ _ _ _ x tree n (h.rows_are q));
      trees_are = λ q. rw (a.rows q) (tree_attached (q == o) _ _ x tree n (h.trees_are q));
      guids_are = λ c g. subst (λ (m : _). s.by_guid c g ≡ get pair_eq m (c, g)) (sym a.guids) (h.guids_are c g);
      files_are = λ f. subst (λ (m : _). HeldShown (get nat_eq m f) (sharing_in s.opened s.opens f) (s.ranges f))
          (sym a.files) (h.files_are f);
      sessions_are = a.counted.shown s.closed s.refused s.guids h.sessions_are;
      listed = λ q y e. listed_at q y (q == o) refl e;
      plain_listed = λ q y e f. plain_at q y (q == o) refl e f;
      named = λ q y g e k. named_at q y g (q == o) refl e k;
      expired_are = λ c g. subst (λ (v : _). s.expired_guids c g ≡ set.contains pair_eq v (c, g)) (sym a.expired) (h.expired_are c g);
      expired_count_is = h.expired_count_is ∙ sym a.expired_count;
      indexed = λ w q d. indexed_at w q d (q == o) refl;
      undated = λ q p e k. undated_at q p (q == o) refl e k;
    }
  where
    listed_at : (q y : ℕ) (b : Bool) → (q == o) ≡ b → (if b then Some x else s.session_of_open q) ≡ Some y
        → keep_lists (get nat_eq u.sessions y) q ≡ true
    listed_at q y true e k = subst (λ (z : ℕ). keep_lists (get nat_eq u.sessions z) q ≡ true) (some_same x y k)
        (subst (λ (z : ℕ). keep_lists (get nat_eq u.sessions x) z ≡ true) (sym (eqb-true q o e)) a.listed)
    listed_at q y false e k = a.counted.listed y q (h.listed q y k)

    -- a plain open that stands has its place
    plain_of : (r : Option Row) (b : Bool) → OpenRowShown r (s.standing o) (s.opened o) (s.session_of_open o) (s.sequence o) (s.deadline o)
        (s.enumeration_location o, s.current_byte_offset o) (s.lock_sequences o) → HasPlainPlace r b → (s.opened o).persistent ≡ false → b ≡ true
    plain_of None b e p f = absurd (cc)
    plain_of (Some r) b e p f = p (ap (λ (w : model.Open). w.persistent) (sym e.1.opened_is) ∙ f)

    plain_at : (q y : ℕ) (b : Bool) → (q == o) ≡ b → (if b then Some x else s.session_of_open q) ≡ Some y → (s.opened q).persistent ≡ false
        → lists_plain (get nat_eq u.sessions y) q ≡ true
    plain_at q y true e k f = subst (λ (z : ℕ). lists_plain (get nat_eq u.sessions z) q ≡ true) (some_same x y k)
        (subst (λ (z : ℕ). lists_plain (get nat_eq u.sessions x) z ≡ true) (sym (eqb-true q o e))
        (plain_of (get nat_eq t.rows o) _ (h.rows_are o) a.plain (ap (λ (z : ℕ). (s.opened z).persistent) (sym (eqb-true q o e)) ∙ f)))
    plain_at q y false e k f = a.counted.plain y q (h.plain_listed q y k f)

    named_at : (q y g : ℕ) (b : Bool) → (q == o) ≡ b → (if b then Some x else s.session_of_open q) ≡ Some y
        → (s.opened q).create_guid ≡ Some g → keep_names (get nat_eq u.sessions y) g ≡ true
    named_at q y g true e k l = subst (λ (z : ℕ). keep_names (get nat_eq u.sessions z) g ≡ true) (some_same x y k)
        (a.here g (guid_of t s o h st ∙ ap (λ (z : ℕ). (s.opened z).create_guid) (sym (eqb-true q o e)) ∙ l))
    named_at q y g false e k l = a.counted.named y g (h.named q y g k l)

    indexed_at : u.deadlines.is_whole ≡ true → (q d : ℕ) (b : Bool) → (q == o) ≡ b → (if b then None else s.deadline q)
        ≡ Some d → indexes u.deadlines d q ≡ true
    indexed_at w q d true e k = absurd (cc)
    indexed_at w q d false e k = a.index q d e (h.indexed (sym a.whole ∙ w) q d k)

    undated_at : (q : ℕ) → s.standing q ≡ true → (b : Bool) → (q == o) ≡ b → (if b then Some x else s.session_of_open q)
        ≡ None → (if b then None else s.deadline q) ≡ None → has q u.undated.items ≡ true
    undated_at q p true e k l = absurd (cc)
    undated_at q p false e k l = subst (λ (v : _). has q v.items ≡ true) (sym a.undated) (h.undated q p k l)

-- ---- a session's end

pub record Detached (t u : Opens) (x now : ℕ) : Type 0 where
  pub rows : (q : ℕ) → get nat_eq u.rows q ≡ detached_row x now (get nat_eq t.rows q)
  pub len : hash_map_len u.rows ≡ hash_map_len t.rows
  pub index : IndexGrows (λ q. get nat_eq t.rows q) (λ q. get nat_eq u.rows q) t.deadlines u.deadlines
  pub sessions : (q : ℕ) → get nat_eq u.sessions q ≡ (if q == x then None else get nat_eq t.sessions q)
  pub guids : u.guids ≡ t.guids
  pub files : u.files ≡ t.files
  pub undated : u.undated ≡ t.undated
  pub epoch : u.epoch ≡ t.epoch
  pub given : u.given ≡ t.given
  pub expired : u.expired ≡ t.expired
  pub expired_count : u.expired_count ≡ t.expired_count

kept_detached : (b : Bool) (old : Option SessionOpens) (closed : ℕ → Bool) (refused : ℕ → Option ℕ) (guids : ℕ)
    → SessionShown old closed refused guids
    → SessionShown (if b then None else old) (if b then (λ g. false) else closed) (if b then (λ g. None) else refused)
    (if b then 0 else guids)
kept_detached true old closed refused guids h = record { none_closed = λ g. refl; none_refused = λ g. refl; no_guids = refl }
kept_detached false old closed refused guids h = h

other_session : (x y : ℕ) (session : Option ℕ) → cleared x session ≡ Some y → (session ≡ Some y) × ((y == x) ≡ false)
other_session x y None e = absurd (cc)
other_session x y (Some z) e = by (z == x) refl e
  where
    by : (b : Bool) → (z == x) ≡ b → (if b then None else Some z) ≡ Some y → (Some z ≡ Some y) × ((y == x) ≡ false)
    by true q e = absurd (cc)
    by false q e = (e, subst (λ (v : ℕ). (v == x) ≡ false) (some_same z y e) q)

if_other : (b : Bool) (old : Option SessionOpens) (P : Option SessionOpens → Type 0) → b ≡ false → P old → P (if b then None else old)
if_other true old P e h = absurd (cc)
if_other false old P e h = h

undated_detached : (x now : ℕ) (row : model.Open) (session deadline : Option ℕ) (N : Bool)
    → (is_at x session && not row.persistent) ≡ false → (session ≡ None → deadline ≡ None → N ≡ true)
    → cleared x session ≡ None → dated x now row session deadline ≡ None → N ≡ true
undated_detached x now row None deadline N l was a b = was refl b
undated_detached x now row (Some z) deadline N l was a b = absurd (step (z == x) row.persistent l a b)
  where
    step : (v p : Bool) → (v && not p) ≡ false → (if v then None else Some z) ≡ None
        → (if v then (if p then Some (deadline_behind now row.timeout) else None) else deadline) ≡ None → ⊥
    step true true l a b = cc
    step true false l a b = cc
    step false p l a b = cc

indexed_detached : (x now o d : ℕ) (t u : Opens) (s : model.Server) → Detached t u x now → ShowsOpens t s → Fits s
    → u.deadlines.is_whole ≡ true → (stands : Bool) → s.standing o ≡ stands
    → dated x now (s.opened o) (s.session_of_open o) (s.deadline o) ≡ Some d → indexes u.deadlines d o ≡ true
indexed_detached x now o d t u s a h i w true st e =
    pick (a.index.here w o d (row_deadline (get nat_eq u.rows o) shown))
  where
    shown : OpenRowShown (get nat_eq u.rows o) true (s.opened o) (cleared x (s.session_of_open o)) (s.sequence o)
        (dated x now (s.opened o) (s.session_of_open o) (s.deadline o)) (s.enumeration_location o, s.current_byte_offset o) (s.lock_sequences o)
    shown = rw (a.rows o) (row_detached (get nat_eq t.rows o) true _ _ _ _ _ _ x now (rw st at (h.rows_are o)))

    row_deadline : (r : Option Row) → OpenRowShown r true (s.opened o) (cleared x (s.session_of_open o)) (s.sequence o)
        (dated x now (s.opened o) (s.session_of_open o) (s.deadline o)) (s.enumeration_location o, s.current_byte_offset o) (s.lock_sequences o)
        → deadline_at r ≡ Some d
    row_deadline None k = absurd (cc)
    row_deadline (Some r) k = sym k.1.deadline_is ∙ e

    pick : (deadline_at (get nat_eq t.rows o) ≡ Some d) ⊎ (indexes u.deadlines d o ≡ true) → indexes u.deadlines d o ≡ true
    pick (inl k) = a.index.kept o d (h.indexed (a.index.whole w) o d (sym (deadline_of t s o h st) ∙ k))
    pick (inr k) = k
indexed_detached x now o d t u s a h i w false st e = a.index.kept o d
    (h.indexed (a.index.whole w) o d (plain (s.session_of_open o) (λ y q. i.attached o y q) e))
  where
    plain : (session : Option ℕ) → ((y : ℕ) → session ≡ Some y → s.standing o ≡ true × s.present y ≡ true)
        → dated x now (s.opened o) session (s.deadline o) ≡ Some d → s.deadline o ≡ Some d
    plain None at k = k
    plain (Some y) at k = let c = (at y refl).0 in absurd (cc)

pub open_detached : (t u : Opens) (x now : ℕ) (s : model.Server) → Detached t u x now → ShowsOpens t s → Fits s
    → ((o : ℕ) → s.standing o ≡ true → (is_at x (s.session_of_open o) && not (s.opened o).persistent) ≡ false)
    → ShowsOpens u (detached s x now)
open_detached t u x now s a h i none =
    record {
      epoch_is = h.epoch_is ∙ sym a.epoch;
      given_is = h.given_is ∙ sym a.given;
      count_is = h.count_is ∙ sym a.len;
      rows_are = λ q. rw (a.rows q) (row_detached (get nat_eq t.rows q) _ _ _ _ _ _ _ x now (h.rows_are q));
      trees_are = λ q. rw (a.rows q) (tree_detached (get nat_eq t.rows q) _ x now (h.trees_are q));
      guids_are = λ c g. subst (λ (m : _). s.by_guid c g ≡ get pair_eq m (c, g)) (sym a.guids) (h.guids_are c g);
      files_are = λ f. subst (λ (m : _). HeldShown (get nat_eq m f) (sharing_in s.opened s.opens f) (s.ranges f))
          (sym a.files) (h.files_are f);
      sessions_are = λ y. rw (a.sessions y) (kept_detached (y == x) _ _ _ _ (h.sessions_are y));
      listed = λ q y e. let k = other_session x y (s.session_of_open q) e in
          rw (a.sessions y) (if_other (y == x) _ (λ r. keep_lists r q ≡ true) k.1 (h.listed q y k.0));
      plain_listed = λ q y e f. let k = other_session x y (s.session_of_open q) e in
          rw (a.sessions y) (if_other (y == x) _ (λ r. lists_plain r q ≡ true) k.1 (h.plain_listed q y k.0 f));
      named = λ q y g e f. let k = other_session x y (s.session_of_open q) e in
          rw (a.sessions y) (if_other (y == x) _ (λ r. keep_names r g ≡ true) k.1 (h.named q y g k.0 f));
      expired_are = λ c g. subst (λ (v : _). s.expired_guids c g ≡ set.contains pair_eq v (c, g)) (sym a.expired) (h.expired_are c g);
      expired_count_is = h.expired_count_is ∙ sym a.expired_count;
      indexed = λ w q d. indexed_detached x now q d t u s a h i w (s.standing q) refl;
      undated = λ q st e k. subst (λ (v : _). has q v.items ≡ true) (sym a.undated)
          (undated_detached x now (s.opened q) (s.session_of_open q) (s.deadline q) (has q t.undated.items) (none q st)
          (h.undated q st) e k);
    }

-- ---- one that has a session stays

pub attached_fresh : (u : Opens) (s : model.Server) (o x tree n : ℕ) (b : Bool) → b ≡ not (is_some (s.session_of_open o)) → b
    ≡ true → ShowsOpens u (attached_to s o x tree n) → ShowsOpens u (attached_if s o x tree n)
attached_fresh u s o x tree n b e t h = either (λ (v : model.Server). ShowsOpens u v) (is_some (s.session_of_open o)) s
    (attached_to s o x tree n) (λ q. absurd (grind arith)) (λ q. h)

pub attached_stays : (u : Opens) (s : model.Server) (o x tree n : ℕ) (b : Bool) → b ≡ not (is_some (s.session_of_open o)) → b
    ≡ false → ShowsOpens u s → ShowsOpens u (attached_if s o x tree n)
attached_stays u s o x tree n b e t h = either (λ (v : model.Server). ShowsOpens u v) (is_some (s.session_of_open o)) s
    (attached_to s o x tree n) (λ q. h) (λ q. absurd (grind arith))

-- ---- a session's end, from what the calls ensure

-- a row of the session is listed, so one that isn't stays
pub detached_unlisted : (t : Opens) (s : model.Server) (x now q : ℕ) → ShowsOpens t s → keep_lists (get nat_eq t.sessions x)
    q ≡ false → detached_row x now (get nat_eq t.rows q) ≡ get nat_eq t.rows q
detached_unlisted t s x now q h none = by (get nat_eq t.rows q) (h.rows_are q)
  where
    by_session : (session : Option ℕ) → s.session_of_open q ≡ session → is_at x session ≡ false
    by_session None e = refl
    by_session (Some y) e = at_other (y == x) refl
      where
        at_other : (b : Bool) → (y == x) ≡ b → (y == x) ≡ false
        at_other true f = absurd (let k = h.listed q y e in let l = subst (λ (z : ℕ). keep_lists (get nat_eq t.sessions z) q
            ≡ true) (eqb-true y x f) k in cc)
        at_other false f = f

    by : (r : Option Row) → OpenRowShown r (s.standing q) (s.opened q) (s.session_of_open q) (s.sequence q) (s.deadline q)
        (s.enumeration_location q, s.current_byte_offset q) (s.lock_sequences q) → detached_row x now r ≡ r
    by None e = refl
    by (Some r) e = rw (by_session r.session e.1.session_is) refl

no_plain : (s : model.Server) (x : ℕ) → HasNoPlain s x → (o : ℕ) → s.standing o ≡ true
    → (is_at x (s.session_of_open o) && not (s.opened o).persistent) ≡ false
no_plain s x f o st = f o st

-- u has the rows of t's list behind the end, and the session has no row any more
pub shows_detached : (t u : Opens) (s : model.Server) (x now : ℕ) (listed : ℕ → Bool) → ShowsOpens t s → Fits s → HasNoPlain s x
    → ((q : ℕ) → keep_lists (get nat_eq t.sessions x) q ≡ listed q)
    → ((q : ℕ) → get nat_eq u.rows q ≡ (if listed q then detached_row x now (get nat_eq t.rows q) else get nat_eq t.rows
    q)) → hash_map_len u.rows ≡ hash_map_len t.rows
    → IndexGrows (λ q. get nat_eq t.rows q) (λ q. get nat_eq u.rows q) t.deadlines u.deadlines
    → ((q : ℕ) → get nat_eq u.sessions q ≡ (if q == x then None else get nat_eq t.sessions q))
    → u ≡ record t { rows = u.rows; sessions = u.sessions; deadlines = u.deadlines } → ShowsOpens u (detached s x now)
shows_detached t u s x now listed h i none same rows len index sessions rest =
    open_detached t u x now s (record {
      rows = λ q. rows q ∙ pick (listed q) q (λ e. detached_unlisted t s x now q h (same q ∙ e));
      len = len;
      index = index;
      sessions = sessions;
      guids = ap (λ (w : Opens). w.guids) rest;
      files = ap (λ (w : Opens). w.files) rest;
      undated = ap (λ (w : Opens). w.undated) rest;
      epoch = ap (λ (w : Opens). w.epoch) rest;
      given = ap (λ (w : Opens). w.given) rest;
      expired = ap (λ (w : Opens). w.expired) rest;
      expired_count = ap (λ (w : Opens). w.expired_count) rest;
    }) h i (no_plain s x none)
  where
    pick : (b : Bool) (q : ℕ) → (b ≡ false → detached_row x now (get nat_eq t.rows q) ≡ get nat_eq t.rows q)
        → (if b then detached_row x now (get nat_eq t.rows q) else get nat_eq t.rows q) ≡ detached_row x now (get nat_eq t.rows q)
    pick true q f = refl
    pick false q f = sym (f refl)

-- the row at an id changed; what deadline it has was there, or is told
pub grows_told : (a b : ℕ → Option Row) (id : ℕ) (f : Option Row → Option Row) (told : Option ℕ) (t u : Deadlines)
    → (u.is_whole ≡ true → t.is_whole ≡ true) → ((o d : ℕ) → indexes t d o ≡ true → indexes u d o ≡ true)
    → ((d : ℕ) → u.is_whole ≡ true → told ≡ Some d → indexes u d id ≡ true)
    → ((d : ℕ) → deadline_at (b id) ≡ Some d → (deadline_at (a id) ≡ Some d) ⊎ (told ≡ Some d))
    → ((q : ℕ) → b q ≡ (if q == id then f (a q) else a q)) → IndexGrows a b t u
grows_told a b id f told t u whole others here was rows =
    record { whole = whole; kept = others; here = λ w o d e. by w o d (o == id) refl e }
  where
    pick : (v : Bool) (o : ℕ) → v ≡ false → (if v then f (a o) else a o) ≡ a o
    pick true o e = absurd (cc)
    pick false o e = refl

    same : (o : ℕ) → (o == id) ≡ false → b o ≡ a o
    same o e = rows o ∙ pick (o == id) o e

    by : u.is_whole ≡ true → (o d : ℕ) (v : Bool) → (o == id) ≡ v → deadline_at (b o) ≡ Some d
        → (deadline_at (a o) ≡ Some d) ⊎ (indexes u d o ≡ true)
    by w o d true g e = subst (λ (z : ℕ). (deadline_at (a z) ≡ Some d) ⊎ (indexes u d z ≡ true)) (sym (eqb-true o id g))
        (elim (was d (subst (λ (z : ℕ). deadline_at (b z) ≡ Some d) (eqb-true o id g) e)) [ inl x ↦ inl x | inr y ↦ inr (here d w y) ])
    by w o d false g e = inl (ap deadline_at (sym (same o g)) ∙ e)

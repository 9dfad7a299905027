-- The table behind an open that leaves.
use Rattle.store_opens.proofs.open_table.RowLemmas.{tree_dropped}
use Rattle.std.proofs.Common.{◌≡◌, ℕ, ◌+◌, ◌==◌, nat_eq, Bool, true, false, if◌then◌else◌, ◌∷◌, length}
use Rattle.std.proofs.Common.{Option, Some, None, is_some, IfSome, refl, sym, ap, subst, ◌∙◌, arith, eqb-true}
use Rattle.std.specs.HashMap.{get, hash_map_len}
use Rattle.std.specs.HashSet as set
use Rattle.spec_exchange.specs.Table.{put, has, without}
use Rattle.spec_exchange.specs.State as model
use Rattle.spec_exchange.specs.Opens.{drop_open, with_guid}
use Rattle.spec_exchange.specs.Ranges.{without_owner}
use Rattle.law_server.specs.tables.Fits.{Fits}
use Rattle.store_opens.specs.share_modes.Sharing.{count_of}
use Rattle.store_opens.specs.declared.open_table.row.Row.{Row}
use Rattle.store_opens.specs.declared.open_table.table.Opens.{Opens}
use Rattle.store_opens.specs.open_table.Rows.{OpenRowShown, OpenRowFound, open_of}
use Rattle.store_opens.specs.open_index.Held.{HeldShown, sharing_in, sharing_of}
use Rattle.store_opens.specs.open_index.Keep.{SessionShown, ClosesGuid, keep_lists, lists_plain, keep_names, closed_with}
use Rattle.store_opens.specs.open_index.Index.{indexes}
use Rattle.store_opens.specs.open_table.Shown.{pair_eq, ShowsOpens}
use Rattle.store_opens.specs.open_table.Changes.{open_closed, closed_in}
use Rattle.store_opens.specs.open_table.Left.{Left}
use Rattle.store_opens.proofs.open_index.Lists.{length_without}
use Rattle.store_opens.proofs.open_table.Keys.{guid_put}
use Rattle.store_opens.proofs.open_table.RowLemmas.{row_dropped}
use Rattle.store_opens.proofs.open_index.HeldLemmas.{held_same, counts_split, sharing_without}

row_of : (t : Opens) (o : ℕ) (row : Row) (s : model.Server) → ShowsOpens t s → get nat_eq t.rows o ≡ Some row → s.opened o ≡ open_of row
row_of t o row s h was =
    (subst (λ (r : Option Row). OpenRowShown r (s.standing o) (s.opened o) (s.session_of_open o) (s.sequence o)
    (s.deadline o) (s.enumeration_location o, s.current_byte_offset o) (s.lock_sequences o)) was (h.rows_are o)).1.opened_is

turned : (a b : ℕ) → (a == b) ≡ false → (b == a) ≡ false
turned a b e = grind arith

file_left : (t u : Opens) (o f : ℕ) (row : Row) (s : model.Server) → Left t u o row → Fits s → ShowsOpens t s
    → s.standing o ≡ true → s.opened o ≡ open_of row → (b : Bool) → (f == row.file) ≡ b
    → HeldShown (get nat_eq u.files f) (sharing_in s.opened (without o s.opens) f)
    (if b then without_owner o (s.ranges row.file) else s.ranges f)
file_left t u o f row s l i h st e false q =
    rw (
      l.files f q,
      sharing_without s.opened o f s.opens (subst (λ (w : model.Open). (w.file == f) ≡ false) (sym e)
          (turned f row.file q)),
    ) (h.files_are f)
file_left t u o f row s l i h st e true q =
    subst (λ (z : ℕ). HeldShown (get nat_eq u.files z) (sharing_in s.opened (without o s.opens) z)
    (without_owner o (s.ranges row.file))) (sym (eqb-true f row.file q))
    (l.file (sharing_in s.opened (without o s.opens) row.file) (s.ranges row.file)
    (held_same (get nat_eq t.files row.file) (sharing_in s.opened s.opens row.file)
    (sharing_of o (open_of row) ∷ sharing_in s.opened (without o s.opens) row.file) (s.ranges row.file)
    (λ p. subst (λ (w : model.Open). count_of p (sharing_in s.opened s.opens w.file)
    ≡ count_of p (sharing_of o w ∷ sharing_in s.opened (without o s.opens) w.file)) e
    (counts_split s.opened o s.opens i.ascending (i.listed o ∙ st) p)) (h.files_are row.file)))

session_none : (b : Bool) (old : Option ℕ) (x : ℕ) → (if b then None else old) ≡ Some x → old ≡ Some x
session_none true old x e = absurd (cc)
session_none false old x e = e

index_left : (o q d : ℕ) (deadline : ℕ → Option ℕ) (P Q : ℕ → ℕ → Bool) → ((p e : ℕ) → deadline p ≡ Some e → P e p
    ≡ true) → ((p e : ℕ) → (p == o) ≡ false → P e p ≡ true → Q e p ≡ true) → (b : Bool) → (q == o) ≡ b
    → (if b then None else deadline q) ≡ Some d → Q d q ≡ true
index_left o q d deadline P Q was step true e h = absurd (cc)
index_left o q d deadline P Q was step false e h = step q d e (was q d h)

undated_left : (b stands : Bool) (old deadline : Option ℕ) (N : Bool) → (stands ≡ true → old ≡ None → deadline ≡ None
    → N ≡ true) → (if b then false else stands) ≡ true → (if b then None else old) ≡ None
    → (if b then None else deadline) ≡ None → N ≡ true
undated_left true stands old deadline N was x y z = absurd (cc)
undated_left false stands old deadline N was x y z = was x y z

-- with a part that says what is kept for the sessions
pub record Sessions (u : Opens) (s : model.Server) (closed : ℕ → ℕ → Bool) : Type 0 where
  pub shown : (x : ℕ) → SessionShown (get nat_eq u.sessions x) (closed x) (s.refused x) (s.guids x)
  pub listed : (o x : ℕ) → s.session_of_open o ≡ Some x → keep_lists (get nat_eq u.sessions x) o ≡ true
  pub plain : (o x : ℕ) → s.session_of_open o ≡ Some x → (s.opened o).persistent ≡ false → lists_plain (get nat_eq u.sessions x) o ≡ true
  pub named : (o x g : ℕ) → s.session_of_open o ≡ Some x → (s.opened o).create_guid ≡ Some g → keep_names (get nat_eq u.sessions x) g ≡ true

pub open_left : (t u : Opens) (o : ℕ) (row : Row) (s : model.Server) (closed : ℕ → ℕ → Bool) → Left t u o row → Fits s
    → ShowsOpens t s → s.standing o ≡ true → Sessions u s closed
    → ShowsOpens u (record (drop_open s o) { closed = closed })
open_left t u o row s closed l i h st k =
    let e = row_of t o row s h l.was in
    record {
      epoch_is = h.epoch_is ∙ sym l.epoch;
      given_is = h.given_is ∙ sym l.given;
      count_is = less_one (length (without o s.opens)) (length s.opens) (hash_map_len u.rows) (hash_map_len t.rows)
          (length_without o s.opens i.ascending (i.listed o ∙ st)) h.count_is l.len;
      rows_are = λ q. rw (l.rows q) (row_dropped (q == o) _ _ _ _ _ _ _ _ (h.rows_are q));
      trees_are = λ q. rw (l.rows q) (tree_dropped (q == o) _ _ (h.trees_are q));
      guids_are = λ c g. rw (ap (λ (w : model.Open). w.client_guid) e, ap (λ (w : model.Open). w.create_guid) e)
          (guid_put _ _ row.client row.guid None h.guids_are c g ∙ sym (l.guids c g));
      files_are = λ f. subst (λ (w : model.Open). HeldShown (get nat_eq u.files f)
          (sharing_in s.opened (without o s.opens) f) (put s.ranges w.file (without_owner o (s.ranges w.file)) f))
          (sym e) (file_left t u o f row s l i h st e (f == row.file) refl);
      sessions_are = k.shown;
      listed = λ q x d. k.listed q x (session_none (q == o) (s.session_of_open q) x d);
      plain_listed = λ q x d. k.plain q x (session_none (q == o) (s.session_of_open q) x d);
      named = λ q x g d. k.named q x g (session_none (q == o) (s.session_of_open q) x d);
      expired_are = λ c g. subst (λ (v : _). s.expired_guids c g ≡ set.contains pair_eq v (c, g)) (sym l.expired) (h.expired_are c g);
      expired_count_is = h.expired_count_is ∙ sym l.expired_count;
      indexed = λ w q d. index_left o q d s.deadline (λ a z. indexes t.deadlines a z) (λ a z. indexes u.deadlines a z)
          (h.indexed (sym l.whole ∙ w)) (λ p a. l.index p a) (q == o) refl;
      undated = λ q. subst (λ (v : _). put s.standing o false q ≡ true → put s.session_of_open o None q ≡ None
          → put s.deadline o None q ≡ None → has q v.items ≡ true) (sym l.undated)
          (undated_left (q == o) (s.standing q) (s.session_of_open q) (s.deadline q) (has q t.undated.items) (h.undated q));
    }
  where
    less_one : (a b c d : ℕ) → a + 1 ≡ b → b ≡ d → c + 1 ≡ d → a ≡ c
    less_one a b c d x y z = grind arith

-- the sessions as they were
pub sessions_same : (t u : Opens) (s : model.Server) → ShowsOpens t s → u.sessions ≡ t.sessions → Sessions u s s.closed
sessions_same t u s h e =
    record {
      shown = λ x. subst (λ (m : _). SessionShown (get nat_eq m x) (s.closed x) (s.refused x) (s.guids x)) (sym e) (h.sessions_are x);
      listed = λ o x d. subst (λ (m : _). keep_lists (get nat_eq m x) o ≡ true) (sym e) (h.listed o x d);
      plain = λ o x d f. subst (λ (m : _). lists_plain (get nat_eq m x) o ≡ true) (sym e) (h.plain_listed o x d f);
      named = λ o x g d f. subst (λ (m : _). keep_names (get nat_eq m x) g ≡ true) (sym e) (h.named o x g d f);
    }

-- the session keeps the guid as closed
pub sessions_closed : (t u : Opens) (o : ℕ) (row : Row) (s : model.Server) → ShowsOpens t s → s.opened o ≡ open_of row
    → s.session_of_open o ≡ row.session → ClosesGuid (λ q. get nat_eq t.sessions q) (λ q. get nat_eq u.sessions q)
    row.session row.guid
    → Sessions u s (closed_with row.session row.guid s.closed)
sessions_closed t u o row s h e f c =
    record {
      shown = c.shown s.closed s.refused s.guids
          (λ x g a b. h.named o x g (f ∙ a) (ap (λ (w : model.Open). w.create_guid) e ∙ b)) h.sessions_are;
      listed = λ q x d. c.listed x q ∙ h.listed q x d;
      plain = λ q x d f. c.plain x q ∙ h.plain_listed q x d f;
      named = λ q x g d k. c.named x g ∙ h.named q x g d k;
    }

-- what a close leaves, by its session and guid
pub closed_is : (s : model.Server) (o : ℕ) (session guid : Option ℕ) → s.session_of_open o ≡ session
    → (s.opened o).create_guid ≡ guid → record (drop_open s o) { closed = closed_with session guid s.closed }
    ≡ open_closed s o
closed_is s o session guid a b =
    subst (λ (x : Option ℕ). record (drop_open s o) { closed = closed_with x guid s.closed } ≡ open_closed s o) a
    (subst (λ (g : Option ℕ). record (drop_open s o) { closed = closed_with (s.session_of_open o) g s.closed }
    ≡ open_closed s o) b (by (s.session_of_open o) (s.opened o).create_guid refl refl))
  where
    by : (x g : Option ℕ) → s.session_of_open o ≡ x → (s.opened o).create_guid ≡ g → record (drop_open s o) {
      closed = closed_with (s.session_of_open o) (s.opened o).create_guid s.closed;
    }
        ≡ closed_in s o (s.session_of_open o)
    by None g a b = rw a refl
    by (Some x) None a b = rw (a, b) refl
    by (Some x) (Some g) a b = rw (a, b) refl

-- ---- as calls make it

if_here : (o : ℕ) (v : Option ℕ) (f : ℕ → Option ℕ) → put f o v o ≡ v
if_here o v f = grind arith

pub detached_drop : (s : model.Server) (o : ℕ) → (drop_open s o).session_of_open o ≡ None
detached_drop s o = if_here o None s.session_of_open

pub detached_close : (s : model.Server) (o : ℕ) → (open_closed s o).session_of_open o ≡ None
detached_close s o = by (s.session_of_open o) (s.opened o).create_guid refl refl
  where
    by : (x g : Option ℕ) → s.session_of_open o ≡ x → (s.opened o).create_guid ≡ g
        → (closed_in s o (s.session_of_open o)).session_of_open o ≡ None
    by None g a b = rw a (if_here o None s.session_of_open)
    by (Some x) None a b = rw (a, b) (if_here o None s.session_of_open)
    by (Some x) (Some g) a b = rw (a, b) (if_here o None s.session_of_open)

row_session : (t : Opens) (o : ℕ) (row : Row) (s : model.Server) → ShowsOpens t s → get nat_eq t.rows o ≡ Some row
    → s.session_of_open o ≡ row.session
row_session t o row s h was =
    (subst (λ (r : Option Row). OpenRowShown r (s.standing o) (s.opened o) (s.session_of_open o) (s.sequence o)
    (s.deadline o) (s.enumeration_location o, s.current_byte_offset o) (s.lock_sequences o)) was (h.rows_are o)).1.session_is

-- it left, and its session has its guid as closed: u is the table without it, v the one with the guid
pub close_left : (t u v : Opens) (o : ℕ) (row : Row) (s : model.Server) → Left t u o row → u.sessions ≡ t.sessions
    → ClosesGuid (λ q. get nat_eq u.sessions q) (λ q. get nat_eq v.sessions q) row.session row.guid → v ≡ record u { sessions = v.sessions }
    → Fits s → ShowsOpens t s → s.standing o ≡ true → ShowsOpens v (open_closed s o)
close_left t u v o row s l same c rest i h st =
    subst (λ (w : model.Server). ShowsOpens v w) (closed_is s o row.session row.guid a (ap (λ (w : model.Open). w.create_guid) e))
    (open_left t v o row s (closed_with row.session row.guid s.closed) left i h st
    (sessions_closed t v o row s h e a
    (subst (λ (m : _). ClosesGuid (λ q. get nat_eq m q) (λ q. get nat_eq v.sessions q) row.session row.guid) same
    c)))
  where
    e : s.opened o ≡ open_of row
    e = row_of t o row s h l.was

    a : s.session_of_open o ≡ row.session
    a = row_session t o row s h l.was

    left : Left t v o row
    left = subst (λ (w : Opens). Left t w o row) (sym rest) (record {
      was = l.was;
      rows = l.rows;
      len = l.len;
      guids = l.guids;
      file = l.file;
      files = l.files;
      undated = l.undated;
      epoch = l.epoch;
      given = l.given;
      expired = l.expired;
      expired_count = l.expired_count;
      whole = l.whole;
      index = l.index;
    })

pub drop_left : (t u : Opens) (o : ℕ) (row : Row) (s : model.Server) → Left t u o row → u.sessions ≡ t.sessions → Fits s
    → ShowsOpens t s → s.standing o ≡ true → ShowsOpens u (drop_open s o)
drop_left t u o row s l same i h st = open_left t u o row s s.closed l i h st (sessions_same t u s h same)

-- whether the row is there tells whether the open stands
pub told_left : (t : Opens) (o : ℕ) (s : model.Server) (r : Option Row) → r ≡ get nat_eq t.rows o → ShowsOpens t s
    → is_some r ≡ s.standing o
told_left t o s r e h =
    by r (subst (λ (v : Option Row). OpenRowShown v (s.standing o) (s.opened o) (s.session_of_open o) (s.sequence o)
    (s.deadline o) (s.enumeration_location o, s.current_byte_offset o) (s.lock_sequences o)) (sym e) (h.rows_are o))
  where
    by : (r : Option Row) → OpenRowShown r (s.standing o) (s.opened o) (s.session_of_open o) (s.sequence o) (s.deadline o)
        (s.enumeration_location o, s.current_byte_offset o) (s.lock_sequences o) → is_some r ≡ s.standing o
    by None k = sym k
    by (Some r) k = sym k.0

-- the index before it changed nothing else
pub left_later : (t u v : Opens) (o : ℕ) (row : Row) → u ≡ record t { deadlines = u.deadlines } → u.deadlines.is_whole
    ≡ t.deadlines.is_whole
    → ((q d : ℕ) → (q == o) ≡ false → indexes t.deadlines d q ≡ true → indexes u.deadlines d q ≡ true) → Left u v o row → Left t v o row
left_later t u v o row e whole index l =
    record {
      was = ap (λ (w : Opens). get nat_eq w.rows o) (sym e) ∙ l.was;
      rows = λ q. subst (λ (w : Opens). get nat_eq v.rows q ≡ (if q == o then None else get nat_eq w.rows q)) e (l.rows q);
      len = subst (λ (w : Opens). hash_map_len v.rows + 1 ≡ hash_map_len w.rows) e l.len;
      guids = λ c g. subst (λ (w : Opens). get pair_eq v.guids (c, g) ≡ with_guid (λ d h. get pair_eq w.guids (d, h))
          row.client row.guid None c g) e (l.guids c g);
      file = λ os ranges. subst (λ (w : Opens). HeldShown (get nat_eq w.files row.file)
          (sharing_of o (open_of row) ∷ os) ranges → HeldShown (get nat_eq v.files row.file) os
          (without_owner o ranges)) e (l.file os ranges);
      files = λ q n. subst (λ (w : Opens). get nat_eq v.files q ≡ get nat_eq w.files q) e (l.files q n);
      undated = subst (λ (w : Opens). v.undated ≡ w.undated) e l.undated;
      epoch = subst (λ (w : Opens). v.epoch ≡ w.epoch) e l.epoch;
      given = subst (λ (w : Opens). v.given ≡ w.given) e l.given;
      expired = subst (λ (w : Opens). v.expired ≡ w.expired) e l.expired;
      expired_count = subst (λ (w : Opens). v.expired_count ≡ w.expired_count) e l.expired_count;
      whole = l.whole ∙ whole;
      index = λ q d n h. l.index q d n (index q d n h);
    }

-- the row of an open that stands is what the state has of it
pub row_found : (t : Opens) (s : model.Server) (o : ℕ) (row : Row) → ShowsOpens t s → get nat_eq t.rows o ≡ Some row
    → OpenRowFound (Some row) s o
row_found t s o row h was = subst (λ (r : Option Row). OpenRowFound r s o) was (h.rows_are o)

pub left_if : (t u v : Opens) (o : ℕ) (r : Option Row) → u ≡ record t { deadlines = u.deadlines } → u.deadlines.is_whole
    ≡ t.deadlines.is_whole
    → ((q d : ℕ) → (q == o) ≡ false → indexes t.deadlines d q ≡ true → indexes u.deadlines d q ≡ true)
    → IfSome r (λ w. Left u v o w) → IfSome r (λ w. Left t v o w)
left_if t u v o None e whole index l = l
left_if t u v o (Some r) e whole index l = left_later t u v o r e whole index l

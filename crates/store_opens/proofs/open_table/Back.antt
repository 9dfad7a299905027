-- The table behind an open that comes back as it was.
use Rattle.store_opens.specs.open_table.Rows.{OpenTreeShown}
use Rattle.store_opens.proofs.open_table.RowLemmas.{tree_back}
use Rattle.std.proofs.Common.{◌≡◌, ◌<◌, ◌^◌, ℕ, ◌+◌, ◌==◌, nat_eq, Bool, true, false, if◌then◌else◌, List, [], ◌∷◌}
use Rattle.std.proofs.Common.{length, Option, Some, None, refl, sym, ap, subst, ◌∙◌, arith, eqb-true}
use Rattle.std.specs.HashMap.{get, hash_map_len}
use Rattle.std.specs.HashSet as set
use Rattle.spec_exchange.specs.Table.{put, has, without, is_filled}
use Rattle.spec_exchange.specs.State as model
use Rattle.spec_exchange.specs.Opens.{drop_open, with_guid, opens_in, file_has_open}
use Rattle.spec_exchange.specs.Effects.{set_ranges}
use Rattle.spec_exchange.specs.Ranges.{without_owner}
use Rattle.law_server.specs.tables.Fits.{Fits}
use Rattle.store_opens.specs.declared.share_modes.lists.Open.{Open}
use Rattle.store_opens.specs.share_modes.Sharing.{count_of}
use Rattle.store_opens.specs.declared.open_table.row.Row.{Row}
use Rattle.store_opens.specs.declared.open_table.table.Opens.{Opens}
use Rattle.store_opens.specs.open_table.Rows.{OpenRowFound, open_of}
use Rattle.store_opens.specs.open_index.Held.{HeldShown, sharing_in, sharing_of}
use Rattle.store_opens.specs.open_index.Keep.{SessionShown, keep_lists, lists_plain, keep_names}
use Rattle.store_opens.specs.open_index.Index.{indexes}
use Rattle.store_opens.specs.open_table.Shown.{pair_eq, ShowsOpens}
use Rattle.store_opens.proofs.open_index.Lists.{length_without}
use Rattle.store_opens.proofs.open_table.Keys.{guid_back}
use Rattle.store_opens.proofs.open_table.RowLemmas.{row_back}
use Rattle.store_opens.proofs.open_index.HeldLemmas.{held_same, counts_split, sharing_without, sharing_few}
use Rattle.store_opens.proofs.open_table.Added.{few_of, row_absent}

-- what the maps of the new table say of the old one's
pub record Back (t u : Opens) (o : ℕ) (row : Row) : Type 0 where
  pub rows : (q : ℕ) → get nat_eq u.rows q ≡ (if q == o then Some row else get nat_eq t.rows q)
  pub len : hash_map_len u.rows ≡ hash_map_len t.rows + 1
  pub guids : (c g : ℕ) → get pair_eq u.guids (c, g) ≡ with_guid (λ d h. get pair_eq t.guids (d, h)) row.client row.guid (Some o) c g
  pub file : (os : List Open) (ranges : List model.Range) → length os + 1 < 2 ^ 64
      → HeldShown (get nat_eq t.files row.file) os ranges → HeldShown (get nat_eq u.files row.file)
      (sharing_of o (open_of row) ∷ os) ranges
  pub files : (q : ℕ) → (q == row.file) ≡ false → get nat_eq u.files q ≡ get nat_eq t.files q
  pub sessions : u.sessions ≡ t.sessions
  pub undated : u.undated ≡ t.undated
  pub epoch : u.epoch ≡ t.epoch
  pub given : u.given ≡ t.given
  pub expired : u.expired ≡ t.expired
  pub expired_count : u.expired_count ≡ t.expired_count
  pub whole : u.deadlines.is_whole ≡ true → t.deadlines.is_whole ≡ true
  pub index : (q d : ℕ) → indexes t.deadlines d q ≡ true → indexes u.deadlines d q ≡ true
  pub here : u.deadlines.is_whole ≡ true → (d : ℕ) → row.deadline ≡ Some d → indexes u.deadlines d o ≡ true

-- the state but for the ranges that the open held
abbrev pub unranged : model.Server → ℕ → model.Server
unranged s o = record s { ranges = put s.ranges (s.opened o).file (without_owner o (s.ranges (s.opened o).file)) }

file_back : (t u : Opens) (o f : ℕ) (row : Row) (s : model.Server) → Back t u o row → hash_map_len t.rows < 2 ^ 63
    → Fits s → ShowsOpens t (drop_open s o) → s.standing o ≡ true → s.opened o ≡ open_of row → (b : Bool)
    → (f == row.file) ≡ b
    → HeldShown (get nat_eq u.files f) (sharing_in s.opened s.opens f)
    (put s.ranges (s.opened o).file (without_owner o (s.ranges (s.opened o).file)) f)
file_back t u o f row s l few i h st e true q =
    subst (λ (z : ℕ). HeldShown (get nat_eq u.files z) (sharing_in s.opened s.opens z)
    (put s.ranges (s.opened o).file (without_owner o (s.ranges (s.opened o).file)) z)) (sym (eqb-true f row.file q))
    (held_same (get nat_eq u.files row.file) (sharing_of o (open_of row) ∷ sharing_in s.opened (without o s.opens)
    row.file) (sharing_in s.opened s.opens row.file) _
    (λ p. sym (subst (λ (w : model.Open). count_of p (sharing_in s.opened s.opens w.file)
    ≡ count_of p (sharing_of o w ∷ sharing_in s.opened (without o s.opens) w.file)) e
    (counts_split s.opened o s.opens i.ascending (i.listed o ∙ st) p)))
    (l.file (sharing_in s.opened (without o s.opens) row.file)
    (put s.ranges (s.opened o).file (without_owner o (s.ranges (s.opened o).file)) row.file)
    (few_of _ _ _ (sharing_few s.opened (without o s.opens) row.file) h.count_is few) (h.files_are row.file)))
file_back t u o f row s l few i h st e false q =
    rw (l.files f q) (subst (λ (os : List _). HeldShown (get nat_eq t.files f) os
    (put s.ranges (s.opened o).file (without_owner o (s.ranges (s.opened o).file)) f))
    (sharing_without s.opened o f s.opens (subst (λ (w : model.Open). (w.file == f) ≡ false) (sym e)
    (turned f row.file q))) (h.files_are f))
  where
    turned : (a b : ℕ) → (a == b) ≡ false → (b == a) ≡ false
    turned a b e = grind arith

index_back : (o q d : ℕ) (deadline : ℕ → Option ℕ) (P Q : ℕ → ℕ → Bool)
    → ((p e : ℕ) → (if p == o then None else deadline p) ≡ Some e → P e p ≡ true)
    → ((p e : ℕ) → P e p ≡ true → Q e p ≡ true)
    → (deadline o ≡ Some d → Q d o ≡ true) → (b : Bool) → (q == o) ≡ b → deadline q ≡ Some d → Q d q ≡ true
index_back o q d deadline P Q was step here true e h = subst (λ (z : ℕ). Q d z ≡ true) (sym (eqb-true q o e))
    (here (ap deadline (sym (eqb-true q o e)) ∙ h))
index_back o q d deadline P Q was step here false e h = step q d (was q d (rw e h))

pub open_back : (t u : Opens) (o : ℕ) (row : Row) (s : model.Server) → Back t u o row → hash_map_len t.rows < 2 ^ 63
    → Fits s → ShowsOpens t (drop_open s o) → s.standing o ≡ true → s.session_of_open o ≡ None
    → (s.deadline o ≡ None → has o t.undated.items ≡ true) → OpenRowFound (Some row) s o → ShowsOpens u (unranged s o)
open_back t u o row s l few i h st free waits r =
    let e = r.1.opened_is in
    record {
      epoch_is = h.epoch_is ∙ sym l.epoch;
      given_is = h.given_is ∙ sym l.given;
      count_is = more_one (length (without o s.opens)) (length s.opens) (hash_map_len t.rows) (hash_map_len u.rows)
          (length_without o s.opens i.ascending (i.listed o ∙ st)) h.count_is l.len;
      rows_are = λ q. rw (l.rows q) (row_back (λ (q : ℕ) (x : Option Row). OpenRowFound x s q) q o _ row r (λ ne. rw ne at (h.rows_are q)));
      trees_are = λ q. rw (l.rows q) (tree_back (λ (x : Option Row). OpenTreeShown x (s.tree_of_open q)) (q == o) _ row
          (λ x k. absurd (let e2 = r.1.session_is in cc)) (λ ne. h.trees_are q));
      guids_are = λ c g. guid_back s.by_guid (λ a b. get pair_eq t.guids (a, b)) (s.opened o).client_guid
          (s.opened o).create_guid o (λ n k. i.open_guid o n st k) c g (h.guids_are c g)
          ∙ sym (rw (ap (λ (x : model.Open). x.client_guid) e, ap (λ (x : model.Open). x.create_guid) e) (l.guids c g));
      files_are = λ f. file_back t u o f row s l few i h st e (f == row.file) refl;
      sessions_are = λ x. subst (λ (m : _). SessionShown (get nat_eq m x) (s.closed x) (s.refused x) (s.guids x))
          (sym l.sessions) (h.sessions_are x);
      listed = λ q x k. subst (λ (m : _). keep_lists (get nat_eq m x) q ≡ true) (sym l.sessions)
          (h.listed q x (attached_at q x (q == o) refl k));
      plain_listed = λ q x k f. subst (λ (m : _). lists_plain (get nat_eq m x) q ≡ true) (sym l.sessions)
          (h.plain_listed q x (attached_at q x (q == o) refl k) f);
      named = λ q x g k f. subst (λ (m : _). keep_names (get nat_eq m x) g ≡ true) (sym l.sessions)
          (h.named q x g (attached_at q x (q == o) refl k) f);
      expired_are = λ c g. subst (λ (v : _). s.expired_guids c g ≡ set.contains pair_eq v (c, g)) (sym l.expired) (h.expired_are c g);
      expired_count_is = h.expired_count_is ∙ sym l.expired_count;
      indexed = λ w q z. index_back o q z s.deadline (λ a p. indexes t.deadlines a p) (λ a p. indexes u.deadlines a p)
          (h.indexed (l.whole w)) (λ p a. l.index p a) (λ k. l.here w z (sym r.1.deadline_is ∙ k)) (q == o) refl;
      undated = λ q a b c. undated_at q (q == o) refl a b c;
    }
  where
    more_one : (a b c k : ℕ) → a + 1 ≡ b → a ≡ c → k ≡ c + 1 → b ≡ k
    more_one a b c k x y z = grind arith

    attached_at : (q x : ℕ) (b : Bool) → (q == o) ≡ b → s.session_of_open q ≡ Some x
        → (if q == o then None else s.session_of_open q) ≡ Some x
    attached_at q x true e k = let g = ap s.session_of_open (eqb-true q o e) in absurd (cc)
    attached_at q x false e k = rw e k

    undated_at : (q : ℕ) (b : Bool) → (q == o) ≡ b → s.standing q ≡ true → s.session_of_open q ≡ None → s.deadline q
        ≡ None → has q u.undated.items ≡ true
    undated_at q true e a b c = subst (λ (z : ℕ). has z u.undated.items ≡ true) (sym (eqb-true q o e))
        (subst (λ (v : _). has o v.items ≡ true) (sym l.undated) (waits (ap s.deadline (sym (eqb-true q o e)) ∙ c)))
    undated_at q false e a b c = subst (λ (v : _). has q v.items ≡ true) (sym l.undated) (h.undated q (rw e a) (rw e b) (rw e c))

-- ---- its ranges come back too

pub has_open_of : (opened : ℕ → model.Open) (o : ℕ) (os : List ℕ) → has o os ≡ true → is_filled (opens_in opened os (opened o).file) ≡ true
unfolding opens_in is_filled
has_open_of opened o [] h = absurd (cc)
has_open_of opened o (x ∷ xs) h = by (x == o) refl ((opened x).file == (opened o).file) refl (has_open_of opened o xs)
  where
    by : (b : Bool) → (x == o) ≡ b → (c : Bool) → ((opened x).file == (opened o).file) ≡ c
        → (has o xs ≡ true → is_filled (opens_in opened xs (opened o).file) ≡ true)
        → is_filled (if c then x ∷ opens_in opened xs (opened o).file else opens_in opened xs (opened o).file) ≡ true
    by b e true f rest = refl
    by true e false f rest = absurd (let k = eqb-true x o e in grind arith)
    by false e false f rest = rest (grind arith)

pub file_opened : (s : model.Server) (o : ℕ) → Fits s → s.standing o ≡ true → file_has_open s (s.opened o).file ≡ true
unfolding file_has_open
file_opened s o i st = has_open_of s.opened o s.opens (i.listed o ∙ st)

put_twice : (f g : ℕ) (old : ℕ → List model.Range) (x : List model.Range) → put (put old f x) f (old f) g ≡ old g
put_twice f g old x = by (g == f) refl
  where
    by : (b : Bool) → (g == f) ≡ b → (if b then old f else (if b then x else old g)) ≡ old g
    by true e = ap old (sym (eqb-true g f e))
    by false e = refl

pub ranges_back : (u : Opens) (s : model.Server) (o f : ℕ) (ranges : List model.Range) → f ≡ (s.opened o).file → ranges
    ≡ s.ranges (s.opened o).file
    → ShowsOpens u (set_ranges (unranged s o) f ranges) → ShowsOpens u s
ranges_back u s o f ranges e r h =
    subst (λ (m : ℕ → List model.Range). ShowsOpens u (record s { ranges = m })) same
    (subst (λ (v : List model.Range). ShowsOpens u (set_ranges (unranged s o) (s.opened o).file v)) r
    (subst (λ (z : ℕ). ShowsOpens u (set_ranges (unranged s o) z ranges)) e h))
  where
    same : put (put s.ranges (s.opened o).file (without_owner o (s.ranges (s.opened o).file))) (s.opened o).file
        (s.ranges (s.opened o).file) ≡ s.ranges
    same = λ t g. put_twice (s.opened o).file g s.ranges (without_owner o (s.ranges (s.opened o).file)) t

-- the row was placed in t, which made p, and its deadline put into the index, which made u
pub placed_back : (t p u : Opens) (o : ℕ) (row : Row) (s : model.Server) → ShowsOpens t (drop_open s o)
    → ((q : ℕ) → get nat_eq p.rows q ≡ (if q == o then Some row else get nat_eq t.rows q))
    → (get nat_eq t.rows o ≡ None → hash_map_len p.rows ≡ hash_map_len t.rows + 1)
    → ((c g : ℕ) → get pair_eq p.guids (c, g) ≡ with_guid (λ d h. get pair_eq t.guids (d, h)) row.client row.guid (Some o) c g)
    → ((os : List Open) (ranges : List model.Range) → length os + 1 < 2 ^ 64 → HeldShown (get nat_eq t.files row.file)
    os ranges → HeldShown (get nat_eq p.files row.file) (sharing_of o (open_of row) ∷ os) ranges)
    → ((q : ℕ) → (q == row.file) ≡ false → get nat_eq p.files q ≡ get nat_eq t.files q)
    → p ≡ record t { rows = p.rows; guids = p.guids; files = p.files }
    → (u.deadlines.is_whole ≡ true → p.deadlines.is_whole ≡ true)
    → ((q d : ℕ) → indexes p.deadlines d q ≡ true → indexes u.deadlines d q ≡ true)
    → (u.deadlines.is_whole ≡ true → (d : ℕ) → row.deadline ≡ Some d → indexes u.deadlines d o ≡ true)
    → u ≡ record p { deadlines = u.deadlines } → Back t u o row
placed_back t p u o row s h rows len guids file files rest whole kept here again =
    record {
      rows = λ q. ap (λ (w : Opens). get nat_eq w.rows q) again ∙ rows q;
      len = ap (λ (w : Opens). hash_map_len w.rows) again ∙ len (row_absent t (drop_open s o) o h (gone o s.standing));
      guids = λ c g. ap (λ (w : Opens). get pair_eq w.guids (c, g)) again ∙ guids c g;
      file = λ os ranges b k.
          subst (λ (w : Opens). HeldShown (get nat_eq w.files row.file) (sharing_of o (open_of row) ∷ os) ranges)
          (sym again) (file os ranges b k);
      files = λ q ne. ap (λ (w : Opens). get nat_eq w.files q) again ∙ files q ne;
      sessions = ap (λ (w : Opens). w.sessions) again ∙ ap (λ (w : Opens). w.sessions) rest;
      undated = ap (λ (w : Opens). w.undated) again ∙ ap (λ (w : Opens). w.undated) rest;
      epoch = ap (λ (w : Opens). w.epoch) again ∙ ap (λ (w : Opens). w.epoch) rest;
      given = ap (λ (w : Opens). w.given) again ∙ ap (λ (w : Opens). w.given) rest;
      expired = ap (λ (w : Opens). w.expired) again ∙ ap (λ (w : Opens). w.expired) rest;
      expired_count = ap (λ (w : Opens). w.expired_count) again ∙ ap (λ (w : Opens). w.expired_count) rest;
      whole = λ w. ap (λ (v : Opens). v.deadlines.is_whole) (sym rest) ∙ whole w;
      index = λ q d k. kept q d (ap (λ (v : Opens). indexes v.deadlines d q) rest ∙ k);
      here = here;
    }
  where
    gone : (o : ℕ) (f : ℕ → Bool) → put f o false o ≡ false
    gone o f = grind arith

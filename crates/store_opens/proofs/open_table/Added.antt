-- The table behind an open that comes: what each map then says makes the whole.
use Rattle.std.proofs.Common.{◌≡◌, ◌<◌, ◌≤◌, ◌^◌, ℕ, ◌+◌, ◌%◌, ◌==◌, max, nat_eq, Bool, true, false, if◌then◌else◌}
use Rattle.std.proofs.Common.{List, [], ◌∷◌, ◌++◌, length, vec_len, vec_capacity, Result, Ok, Err, IsOk, is_ok, Option}
use Rattle.std.proofs.Common.{Some, None, refl, sym, ap, subst, ◌∙◌, arith, eqb-true}
use Rattle.std.proofs.lemmas.Grind.{common_steps}
use Rattle.std.specs.HashMap.{get, hash_map_len}
use Rattle.std.specs.HashSet as set
use Rattle.spec_exchange.specs.Table.{put, has, placed_in}
use Rattle.spec_exchange.specs.State as model
use Rattle.spec_exchange.specs.Opens.{id_of, add_open, with_guid}
use Rattle.spec_exchange.specs.Effects.{next_open}
use Rattle.law_server.specs.tables.Fits.{Fits}
use Rattle.store_opens.specs.declared.share_modes.lists.Open.{Open}
use Rattle.store_opens.specs.lock_replay.Shown.{SlotsShown}
use Rattle.store_opens.specs.declared.open_table.row.Row.{Row}
use Rattle.store_opens.specs.declared.open_table.table.Opens.{Opens}
use Rattle.store_opens.specs.declared.open_table.row.OpenParts.{OpenParts}
use Rattle.store_opens.specs.open_table.Rows.{OpenRowShown, OpenTreeShown, IsOpenNewRow, IsRestoredRow, open_of, parts_of}
use Rattle.store_opens.specs.open_table.Changes.{created, restored, restore_refusal}
use Rattle.law_server.proofs.tables.Logic.{front_off}
use Rattle.store_opens.specs.declared.open_index.keep.SessionOpens.{SessionOpens}
use Rattle.store_opens.specs.open_index.Held.{HeldShown, sharing_in, sharing_of}
use Rattle.store_opens.specs.open_index.Keep.{SessionShown, SessionsCount, guids_with, keep_lists, lists_plain, keep_names, HasPlaceIn}
use Rattle.store_opens.specs.open_index.Index.{IsOpenIndexed, indexes}
use Rattle.store_opens.specs.open_table.Shown.{pair_eq, ShowsOpens, HasRoomIn, next_of}
use Rattle.store_opens.proofs.open_index.Lists.{length_placed}
use Rattle.store_opens.proofs.open_table.Keys.{guid_put}
use Rattle.store_opens.proofs.open_table.RowLemmas.{row_added}
use Rattle.store_opens.proofs.open_index.HeldLemmas.{held_same, counts_added, sharing_added, sharing_few}

-- what the maps of the new table say of the old one's
pub record Placed (t u : Opens) (o : ℕ) (row : Row) (n : ℕ) : Type 0 where
  pub rows : (q : ℕ) → get nat_eq u.rows q ≡ (if q == o then Some row else get nat_eq t.rows q)
  pub len : hash_map_len u.rows ≡ hash_map_len t.rows + 1
  pub guids : (c g : ℕ) → get pair_eq u.guids (c, g) ≡ with_guid (λ d h. get pair_eq t.guids (d, h)) row.client row.guid (Some o) c g
  pub file : (os : List Open) (ranges : List model.Range) → length os + 1 < 2 ^ 64
      → HeldShown (get nat_eq t.files row.file) os ranges → HeldShown (get nat_eq u.files row.file)
      (sharing_of o (open_of row) ∷ os) ranges
  pub files : (q : ℕ) → (q == row.file) ≡ false → get nat_eq u.files q ≡ get nat_eq t.files q
  pub counted : SessionsCount (λ q. get nat_eq t.sessions q) (λ q. get nat_eq u.sessions q) (guids_with row.session row.guid)
  pub here : (x g : ℕ) → row.session ≡ Some x → row.guid ≡ Some g → keep_names (get nat_eq u.sessions x) g ≡ true
  pub listed : (x : ℕ) → row.session ≡ Some x → keep_lists (get nat_eq u.sessions x) o ≡ true
  pub plain : (x : ℕ) → row.session ≡ Some x → row.persistent ≡ false → lists_plain (get nat_eq u.sessions x) o ≡ true
  pub noted : row.session ≡ None → has o u.undated.items ≡ true
  pub undated : (q : ℕ) → has q t.undated.items ≡ true → has q u.undated.items ≡ true
  pub epoch : u.epoch ≡ t.epoch
  pub given : u.given ≡ n
  pub expired : u.expired ≡ t.expired
  pub expired_count : u.expired_count ≡ t.expired_count
  pub deadlines : u.deadlines ≡ t.deadlines

-- few enough for a count
pub few_of : (a b c : ℕ) → a ≤ b → b ≡ c → c < 2 ^ 63 → a + 1 < 2 ^ 64
few_of a b c l e f = omega (arith, l, e, f)

file_added : (t u : Opens) (o f : ℕ) (row : Row) (n : ℕ) (s : model.Server) → Placed t u o row n
    → hash_map_len t.rows < 2 ^ 63 → Fits s → ShowsOpens t s → s.standing o ≡ false → (b : Bool) → (f == row.file) ≡ b
    → HeldShown (get nat_eq u.files f) (sharing_in (put s.opened o (open_of row)) (placed_in o s.opens) f) (s.ranges f)
file_added t u o f row n s p few i h st true e =
    subst (λ (z : ℕ). HeldShown (get nat_eq u.files z) (sharing_in (put s.opened o (open_of row)) (placed_in o s.opens)
    z) (s.ranges z)) (sym (eqb-true f row.file e))
    (held_same (get nat_eq u.files row.file) (sharing_of o (open_of row) ∷ sharing_in s.opened s.opens row.file)
    (sharing_in (put s.opened o (open_of row)) (placed_in o s.opens) row.file) (s.ranges row.file)
    (counts_added s.opened o (open_of row) s.opens i.ascending (i.listed o ∙ st))
    (p.file (sharing_in s.opened s.opens row.file) (s.ranges row.file)
    (few_of _ _ _ (sharing_few s.opened s.opens row.file) h.count_is few) (h.files_are row.file)))
file_added t u o f row n s p few i h st false e =
    rw (p.files f e, sharing_added s.opened o f (open_of row) s.opens (i.listed o ∙ st) (turned f row.file e)) (h.files_are f)
  where
    turned : (a b : ℕ) → (a == b) ≡ false → (b == a) ≡ false
    turned a b e = grind arith

listed_added : (o q x : ℕ) (session : Option ℕ) (old : ℕ → Option ℕ) (P : ℕ → Bool) → (session ≡ Some x → P o ≡ true)
    → (old q ≡ Some x → P q ≡ true) → (b : Bool) → (q == o) ≡ b → (if b then session else old q) ≡ Some x → P q ≡ true
listed_added o q x session old P new was true e h = subst (λ (z : ℕ). P z ≡ true) (sym (eqb-true q o e)) (new h)
listed_added o q x session old P new was false e h = was h

plain_added : (o q x : ℕ) (session : Option ℕ) (persistent : Bool) (old : ℕ → Option ℕ) (olds : ℕ → Bool) (P : ℕ → Bool)
    → (session ≡ Some x → persistent ≡ false → P o ≡ true) → (old q ≡ Some x → olds q ≡ false → P q ≡ true) → (b : Bool) → (q == o) ≡ b
    → (if b then session else old q) ≡ Some x → (if b then persistent else olds q) ≡ false → P q ≡ true
plain_added o q x session persistent old olds P new was true e h k = subst (λ (z : ℕ). P z ≡ true) (sym (eqb-true q o e)) (new h k)
plain_added o q x session persistent old olds P new was false e h k = was h k

persistent_if : (b : Bool) (a c : model.Open) → (if b then a else c).persistent ≡ (if b then a.persistent else c.persistent)
persistent_if true a c = refl
persistent_if false a c = refl

named_added : (o q x g : ℕ) (session guid : Option ℕ) (old : Option ℕ) (old_guid : Option ℕ) (N : Bool)
    → (session ≡ Some x → guid ≡ Some g → N ≡ true) → (old ≡ Some x → old_guid ≡ Some g → N ≡ true) → (b : Bool)
    → (if b then session else old) ≡ Some x → (if b then guid else old_guid) ≡ Some g → N ≡ true
named_added o q x g session guid old old_guid N new was true h k = new h k
named_added o q x g session guid old old_guid N new was false h k = was h k

guid_if : (b : Bool) (a c : model.Open) → (if b then a else c).create_guid ≡ (if b then a.create_guid else c.create_guid)
guid_if true a c = refl
guid_if false a c = refl

undated_added : (o q : ℕ) (session : Option ℕ) (stands : Bool) (old deadline : Option ℕ) (P : ℕ → Bool)
    → (session ≡ None → P o ≡ true) → (stands ≡ true → old ≡ None → deadline ≡ None → P q ≡ true) → (b : Bool)
    → (q == o) ≡ b
    → (if b then true else stands) ≡ true → (if b then session else old) ≡ None → (if b then None else deadline) ≡ None → P q ≡ true
undated_added o q session stands old deadline P new was true e h k l = subst (λ (z : ℕ). P z ≡ true) (sym (eqb-true q o e)) (new k)
undated_added o q session stands old deadline P new was false e h k l = was h k l

index_added : (o q d : ℕ) (deadline : ℕ → Option ℕ) (P : ℕ → ℕ → Bool) → ((p e : ℕ) → deadline p ≡ Some e → P e p
    ≡ true) → (b : Bool) → (if b then None else deadline q) ≡ Some d → P d q ≡ true
index_added o q d deadline P was true h = absurd (cc)
index_added o q d deadline P was false h = was q d h

pub open_added : (t u : Opens) (o : ℕ) (row : Row) (n : ℕ) (trees : ℕ → ℕ) (s : model.Server) → Placed t u o row n
    → ((q : ℕ) → OpenTreeShown (if q == o then Some row else get nat_eq t.rows q) (trees q))
    → hash_map_len t.rows < 2 ^ 63 → Fits s → ShowsOpens t s → s.standing o ≡ false → row.deadline ≡ None → row.location ≡ None → row.position ≡ 0
    → SlotsShown row.slots (λ i. None)
    → ShowsOpens u (record (add_open s o (open_of row) row.session row.sequence) {
      open_ids_given = n;
      tree_of_open = trees;
      guids = guids_with row.session row.guid s.guids;
    })
open_added t u o row n trees s p shown few i h st no_deadline no_location no_position no_slots =
    record {
      epoch_is = h.epoch_is ∙ sym p.epoch;
      given_is = sym p.given;
      count_is = length_placed o s.opens ∙ ap (λ (v : ℕ). v + 1) h.count_is ∙ sym p.len;
      rows_are = λ q. rw (p.rows q) (row_added (q == o) _ row _ _ _ _ _ _ _ _ _ _ _ _ _ _ _ (h.rows_are q)
          (record {
            opened_is = refl;
            session_is = refl;
            sequence_is = refl;
            deadline_is = sym no_deadline;
            location_is = sym no_location;
            position_is = sym no_position;
            slots_are = no_slots;
          }));
      trees_are = λ q. rw (p.rows q) (shown q);
      guids_are = λ c g. guid_put _ _ row.client row.guid (Some o) h.guids_are c g ∙ sym (p.guids c g);
      files_are = λ f. file_added t u o f row n s p few i h st (f == row.file) refl;
      sessions_are = p.counted.shown s.closed s.refused s.guids h.sessions_are;
      listed = λ q x. listed_added o q x row.session s.session_of_open (λ z. keep_lists (get nat_eq u.sessions x) z)
          (p.listed x) (λ e. p.counted.listed x q (h.listed q x e)) (q == o) refl;
      plain_listed = λ q x e k. plain_added o q x row.session row.persistent s.session_of_open (λ z. (s.opened z).persistent)
          (λ z. lists_plain (get nat_eq u.sessions x) z) (p.plain x) (λ a b. p.counted.plain x q (h.plain_listed q x a b)) (q == o) refl e
          (sym (persistent_if (q == o) (open_of row) (s.opened q)) ∙ k);
      named = λ q x g e k. named_added o q x g row.session row.guid (s.session_of_open q) (s.opened q).create_guid
          (keep_names (get nat_eq u.sessions x) g) (p.here x g) (λ a b. p.counted.named x g (h.named q x g a b)) (q == o) e
          (sym (guid_if (q == o) (open_of row) (s.opened q)) ∙ k);
      expired_are = λ c g. subst (λ (v : _). s.expired_guids c g ≡ set.contains pair_eq v (c, g)) (sym p.expired) (h.expired_are c g);
      expired_count_is = h.expired_count_is ∙ sym p.expired_count;
      indexed = subst (λ (v : _). IsOpenIndexed v (put s.deadline o None)) (sym p.deadlines)
          (λ w q d. index_added o q d s.deadline (λ e z. indexes t.deadlines e z) (h.indexed w) (q == o));
      undated = λ q a b c. undated_added o q row.session (s.standing q) (s.session_of_open q) (s.deadline q)
          (λ z. has z u.undated.items) p.noted (λ x y z. p.undated q (h.undated q x y z)) (q == o) refl a b c;
    }

-- ---- as a create and the journal make it

pub next_free : (s : model.Server) → Fits s → s.standing (next_open s) ≡ false
next_free s i = by (s.standing (next_open s)) (λ e. i.open_ids (next_open s) e)
  where
    by : (b : Bool) → (b ≡ true → 0 < next_open s × next_open s ≤ id_of s.epoch s.open_ids_given) → b ≡ false
    by true f = let g = (f refl).1 in absurd (omega arith)
    by false f = refl

pub created_is : (u : Opens) (s : model.Server) (row : Row) (p : OpenParts) (o : ℕ) → o ≡ next_open s → parts_of row ≡ p
    → ShowsOpens u (record (add_open s o (open_of row) row.session row.sequence) {
      open_ids_given = s.open_ids_given + 1;
      tree_of_open = put s.tree_of_open o row.tree;
      guids = guids_with row.session row.guid s.guids;
    })
    → ShowsOpens u (created s p row.user)
created_is u s row p o e f h =
    subst (λ (q : OpenParts). ShowsOpens u (created s q row.user)) f
    (subst (λ (z : ℕ). ShowsOpens u (record (add_open s z (open_of row) row.session row.sequence) {
      open_ids_given = s.open_ids_given + 1;
      tree_of_open = put s.tree_of_open z row.tree;
      guids = guids_with row.session row.guid s.guids;
    })) e h)

-- ---- from what the calls ensure

pub row_absent : (t : Opens) (s : model.Server) (o : ℕ) → ShowsOpens t s → s.standing o ≡ false → get nat_eq t.rows o ≡ None
row_absent t s o h st = by (get nat_eq t.rows o) (h.rows_are o)
  where
    by : (r : Option Row) → OpenRowShown r (s.standing o) (s.opened o) (s.session_of_open o) (s.sequence o) (s.deadline o)
        (s.enumeration_location o, s.current_byte_offset o) (s.lock_sequences o) → r ≡ None
    by None k = refl
    by (Some r) k = absurd (let e = k.0 in cc)

-- t's sessions became u's, and then the row was placed; v counts one more id
pub placed_new : (t u v : Opens) (o : ℕ) (row : Row) (n : ℕ) (s : model.Server) → ShowsOpens t s → s.standing o ≡ false
    → SessionsCount (λ q. get nat_eq t.sessions q) (λ q. get nat_eq u.sessions q) (guids_with row.session row.guid)
    → ((x g : ℕ) → row.session ≡ Some x → row.guid ≡ Some g → keep_names (get nat_eq u.sessions x) g ≡ true)
    → ((x : ℕ) → row.session ≡ Some x → keep_lists (get nat_eq u.sessions x) o ≡ true)
    → ((x : ℕ) → row.session ≡ Some x → row.persistent ≡ false → lists_plain (get nat_eq u.sessions x) o ≡ true)
    → (row.session ≡ None → has o u.undated.items ≡ true) → ((q : ℕ) → has q t.undated.items ≡ true → has q u.undated.items ≡ true)
    → u ≡ record t { sessions = u.sessions; undated = u.undated; given = n }
    → ((q : ℕ) → get nat_eq v.rows q ≡ (if q == o then Some row else get nat_eq u.rows q))
    → (get nat_eq u.rows o ≡ None → hash_map_len v.rows ≡ hash_map_len u.rows + 1)
    → ((c g : ℕ) → get pair_eq v.guids (c, g) ≡ with_guid (λ d h. get pair_eq u.guids (d, h)) row.client row.guid (Some o) c g)
    → ((os : List Open) (ranges : List model.Range) → length os + 1 < 2 ^ 64 → HeldShown (get nat_eq u.files row.file)
    os ranges → HeldShown (get nat_eq v.files row.file) (sharing_of o (open_of row) ∷ os) ranges)
    → ((q : ℕ) → (q == row.file) ≡ false → get nat_eq v.files q ≡ get nat_eq u.files q)
    → v ≡ record u { rows = v.rows; guids = v.guids; files = v.files } → Placed t v o row n
placed_new t u v o row n s h st counted here listed plain noted undated first rows len guids file files rest =
    record {
      rows = λ q. rows q ∙ ap (λ (w : Opens). if q == o then Some row else get nat_eq w.rows q) first;
      len = len (ap (λ (w : Opens). get nat_eq w.rows o) first ∙ row_absent t s o h st) ∙ ap (λ (w : Opens). hash_map_len w.rows + 1) first;
      guids = λ c g. guids c g ∙ ap (λ (w : Opens). with_guid (λ d h. get pair_eq w.guids (d, h)) row.client row.guid (Some o) c g) first;
      file = λ os ranges b k. file os ranges b (subst (λ (w : Opens). HeldShown (get nat_eq w.files row.file) os ranges) (sym first) k);
      files = λ q ne. files q ne ∙ ap (λ (w : Opens). get nat_eq w.files q) first;
      counted = subst (λ (w : Opens). SessionsCount (λ q. get nat_eq t.sessions q) (λ q. get nat_eq w.sessions q)
          (guids_with row.session row.guid)) (sym rest) counted;
      here = λ x g a b. ap (λ (w : Opens). keep_names (get nat_eq w.sessions x) g) rest ∙ here x g a b;
      listed = λ x a. ap (λ (w : Opens). keep_lists (get nat_eq w.sessions x) o) rest ∙ listed x a;
      plain = λ x a b. ap (λ (w : Opens). lists_plain (get nat_eq w.sessions x) o) rest ∙ plain x a b;
      noted = λ a. ap (λ (w : Opens). has o w.undated.items) rest ∙ noted a;
      undated = λ q a. ap (λ (w : Opens). has q w.undated.items) rest ∙ undated q a;
      epoch = ap (λ (w : Opens). w.epoch) rest ∙ ap (λ (w : Opens). w.epoch) first;
      given = ap (λ (w : Opens). w.given) rest ∙ ap (λ (w : Opens). w.given) first;
      expired = ap (λ (w : Opens). w.expired) rest ∙ ap (λ (w : Opens). w.expired) first;
      expired_count = ap (λ (w : Opens). w.expired_count) rest ∙ ap (λ (w : Opens). w.expired_count) first;
      deadlines = ap (λ (w : Opens). w.deadlines) rest ∙ ap (λ (w : Opens). w.deadlines) first;
    }

-- ---- the row of the new open's session

some_number : (x y : ℕ) → Some x ≡ Some y → x ≡ y
some_number x y e = cc

pub next_is : (t : Opens) (s : model.Server) → ShowsOpens t s → next_of t ≡ next_open s
next_is t s h = rw (h.epoch_is, h.given_is) refl

pub place_of_room : (t : Opens) (session : Option ℕ) (o : ℕ) (p : Bool) → HasRoomIn t session o p
    → HasPlaceIn (λ q. get nat_eq t.sessions q) session
place_of_room t None o p r = tt
place_of_room t (Some x) o p r = r.0

pub room_lists : (t : Opens) (session : Option ℕ) (o x : ℕ) (p : Bool) → HasRoomIn t session o p → session ≡ Some x
    → keep_lists (get nat_eq t.sessions x) o ≡ true
room_lists t None o x p r e = absurd (cc)
room_lists t (Some y) o x p r e = subst (λ (z : ℕ). keep_lists (get nat_eq t.sessions z) o ≡ true) (some_number y x e) r.1

pub room_lists_plain : (t : Opens) (session : Option ℕ) (o x : ℕ) (p : Bool) → HasRoomIn t session o p → session
    ≡ Some x → p ≡ false → lists_plain (get nat_eq t.sessions x) o ≡ true
room_lists_plain t None o x p r e f = absurd (cc)
room_lists_plain t (Some y) o x p r e f = subst (λ (z : ℕ). lists_plain (get nat_eq t.sessions z) o ≡ true) (some_number y x e) (r.2 f)

pub room_notes : (t : Opens) (session : Option ℕ) (o : ℕ) (p : Bool) → HasRoomIn t session o p → session ≡ None
    → vec_len t.undated < vec_capacity t.undated
room_notes t None o p r e = r
room_notes t (Some x) o p r e = absurd (cc)

-- ---- a list with one more at its end

pub has_end : (o q : ℕ) (xs : List ℕ) → has q (xs ++ o ∷ []) ≡ (if o == q then true else has q xs)
has_end o q [] = refl
has_end o q (x ∷ xs) = let e = has_end o q xs in grind (arith, common_steps)

pub noted_end : (o : ℕ) (xs : List ℕ) → has o (xs ++ o ∷ []) ≡ true
noted_end o xs = has_end o o xs ∙ grind arith

pub kept_end : (o q : ℕ) (xs : List ℕ) → has q xs ≡ true → has q (xs ++ o ∷ []) ≡ true
kept_end o q xs h = has_end o q xs ∙ by (o == q)
  where
    by : (b : Bool) → (if b then true else has q xs) ≡ true
    by true = refl
    by false = h

pub pushed_is : {T E : Type 0} (r : Result T E) (old new : List ℕ) (o : ℕ) → new
    ≡ (if is_ok r then old ++ o ∷ [] else old) → IsOk r → new ≡ old ++ o ∷ []
pushed_is (Ok x) old new o e k = e
pushed_is (Err x) old new o e k = absurd (cc)

-- ---- an open that the journal tells

-- a row of these parts, without its session
pub restored_row : (row w : Row) (p : OpenParts) (user : List ℕ) → IsOpenNewRow row p user → w ≡ record row {
  session = None;
} → IsRestoredRow w p user
restored_row row w p user new e =
    subst (λ (v : Row). IsRestoredRow v p user) (sym e) (record {
      parts_are = ap (λ (x : Option ℕ). parts_of (record row { session = x }))
          (sym (ap (λ (q : OpenParts). q.session) new.parts_are)) ∙ new.parts_are;
      user_is = new.user_is;
      no_session = refl;
      no_deadline = new.no_deadline;
      no_location = new.no_location;
      no_position = new.no_position;
      no_slots = new.no_slots;
    })

pub restored_is : (u : Opens) (s : model.Server) (w : Row) (p : OpenParts) (o : ℕ) (user : List ℕ) (n : ℕ)
    → IsRestoredRow w p user → n ≡ max s.open_ids_given (o % 0x1_0000_0000)
    → ShowsOpens u (record (add_open s o (open_of w) w.session w.sequence) {
      open_ids_given = n;
      guids = guids_with w.session w.guid s.guids;
    }) → ShowsOpens u (restored s o p user)
restored_is u s w p o user n new count h =
    subst (λ (q : OpenParts). ShowsOpens u (restored s o q user)) new.parts_are
    (subst (λ (z : List ℕ). ShowsOpens u (restored s o (parts_of (record w { session = p.session })) z)) new.user_is
    (subst (λ (k : ℕ). ShowsOpens u (record (add_open s o (open_of w) None w.sequence) { open_ids_given = k })) count
    (subst (λ (v : Option ℕ). ShowsOpens u (record (add_open s o (open_of w) v w.sequence) {
      open_ids_given = n;
      guids = guids_with v w.guid s.guids;
    })) new.no_session h)))

restore_free_by : (a b : Bool) (n m : ℕ) → (if a then Some n else if b then Some m else None) ≡ None → b ≡ false
restore_free_by true b n m e = absurd (cc)
restore_free_by false true n m e = absurd (cc)
restore_free_by false false n m e = refl

pub restore_free : (s : model.Server) (o : ℕ) → restore_refusal s o ≡ None → s.standing o ≡ false
restore_free s o e = front_off (s.standing o) _ (restore_free_by _ _ _ _ e)

pub count_same : (a b : ℕ → Option SessionOpens) (n : Option ℕ) → ((q : ℕ) → b q ≡ a q) → SessionsCount a b (guids_with None n)
count_same a b n same =
    record {
      shown = λ c r g h x. subst (λ (v : Option SessionOpens). SessionShown v (c x) (r x) (g x)) (sym (same x)) (h x);
      listed = λ q o e. ap (λ (v : Option SessionOpens). keep_lists v o) (same q) ∙ e;
      plain = λ q o e. ap (λ (v : Option SessionOpens). lists_plain v o) (same q) ∙ e;
      named = λ q g e. ap (λ (v : Option SessionOpens). keep_names v g) (same q) ∙ e;
    }

-- more of them wait for a deadline
pub shows_noted : (t u : Opens) (s : model.Server) → u ≡ record t {
  undated = u.undated;
} → ((o : ℕ) → has o t.undated.items ≡ true → has o u.undated.items ≡ true) → ShowsOpens t s
    → ShowsOpens u s
shows_noted t u s e more h =
    subst (λ (v : Opens). ShowsOpens v s) (sym e) (record {
      epoch_is = h.epoch_is;
      given_is = h.given_is;
      count_is = h.count_is;
      rows_are = h.rows_are;
      trees_are = h.trees_are;
      guids_are = h.guids_are;
      files_are = h.files_are;
      sessions_are = h.sessions_are;
      listed = h.listed;
      plain_listed = h.plain_listed;
      named = h.named;
      expired_are = h.expired_are;
      expired_count_is = h.expired_count_is;
      indexed = h.indexed;
      undated = λ o a b c. more o (h.undated o a b c);
    })

-- A table whose maps say the same shows the same.
use Rattle.std.proofs.Common.{◌≡◌, ℕ, nat_eq, Bool, true, false}
use Rattle.std.proofs.Common.{Option, Some, None, Result, Ok, Err, OnOk, refl, sym, subst, ◌∙◌}
use Rattle.std.specs.HashMap.{get, hash_map_len}
use Rattle.std.specs.HashSet as set
use Rattle.spec_exchange.specs.Table.{has}
use Rattle.spec_exchange.specs.State as model
use Rattle.store_opens.specs.declared.open_table.table.Opens.{Opens}
use Rattle.store_opens.specs.declared.open_index.index.Deadlines.{Deadlines}
use Rattle.store_opens.specs.open_index.Keep.{SessionsGrow}
use Rattle.store_opens.specs.open_index.Index.{indexes}
use Rattle.store_opens.specs.open_table.Shown.{pair_eq, ShowsOpens, HasPlainPlace}
use Rattle.store_opens.specs.declared.open_table.row.Row.{Row}
use Rattle.store_opens.proofs.open_index.SessionLemmas.{grows_same}

-- an index that has as much
pub record IndexKeeps (t u : Deadlines) : Type 0 where
  pub whole : u.is_whole ≡ true → t.is_whole ≡ true
  pub kept : u.is_whole ≡ true → (o d : ℕ) → indexes t d o ≡ true → indexes u d o ≡ true

pub index_keeps_same : (t : Deadlines) → IndexKeeps t t
index_keeps_same t = record { whole = λ w. w; kept = λ w o d h. h }

pub record SameMaps (t u : Opens) : Type 0 where
  pub rows : (q : ℕ) → get nat_eq u.rows q ≡ get nat_eq t.rows q
  pub len : hash_map_len u.rows ≡ hash_map_len t.rows
  pub guids : (c g : ℕ) → get pair_eq u.guids (c, g) ≡ get pair_eq t.guids (c, g)
  pub files : (q : ℕ) → get nat_eq u.files q ≡ get nat_eq t.files q
  pub sessions : SessionsGrow (λ q. get nat_eq t.sessions q) (λ q. get nat_eq u.sessions q)
  pub expired : (c g : ℕ) → set.contains pair_eq u.expired (c, g) ≡ set.contains pair_eq t.expired (c, g)
  pub expired_count : u.expired_count ≡ t.expired_count
  pub epoch : u.epoch ≡ t.epoch
  pub given : u.given ≡ t.given
  pub index : IndexKeeps t.deadlines u.deadlines
  pub undated : u.undated ≡ t.undated

pub same_all : (t : Opens) → SameMaps t t
same_all t =
    record {
      rows = λ q. refl;
      len = refl;
      guids = λ c g. refl;
      files = λ q. refl;
      sessions = grows_same _;
      expired = λ c g. refl;
      expired_count = refl;
      epoch = refl;
      given = refl;
      index = index_keeps_same t.deadlines;
      undated = refl;
    }

pub shows_same : (t u : Opens) (s : model.Server) → SameMaps t u → ShowsOpens t s → ShowsOpens u s
shows_same t u s m h =
    record {
      epoch_is = h.epoch_is ∙ sym m.epoch;
      given_is = h.given_is ∙ sym m.given;
      count_is = h.count_is ∙ sym m.len;
      rows_are = λ o. rw (m.rows o) (h.rows_are o);
      trees_are = λ o. rw (m.rows o) (h.trees_are o);
      guids_are = λ c g. h.guids_are c g ∙ sym (m.guids c g);
      files_are = λ f. rw (m.files f) (h.files_are f);
      sessions_are = λ x. m.sessions.shown x (s.closed x) (s.refused x) (s.guids x) (h.sessions_are x);
      listed = λ o x e. m.sessions.listed x o (h.listed o x e);
      plain_listed = λ o x e k. m.sessions.plain x o (h.plain_listed o x e k);
      named = λ o x g e k. m.sessions.named x g (h.named o x g e k);
      expired_are = λ c g. h.expired_are c g ∙ sym (m.expired c g);
      expired_count_is = h.expired_count_is ∙ sym m.expired_count;
      indexed = λ w o d e. m.index.kept w o d (h.indexed (m.index.whole w) o d e);
      undated = λ o a b c. subst (λ (v : _). has o v.items ≡ true) (sym m.undated) (h.undated o a b c);
    }

-- ---- room that was made

pub same_sessions : (t u : Opens) → u ≡ record t { sessions = u.sessions } → SessionsGrow (λ q. get nat_eq t.sessions q)
    (λ q. get nat_eq u.sessions q) → (s : model.Server) → ShowsOpens t s → ShowsOpens u s
same_sessions t u e g s h =
    subst (λ (v : Opens). ShowsOpens v s) (sym e) (shows_same t (record t { sessions = u.sessions }) s (record {
      rows = λ q. refl;
      len = refl;
      guids = λ c g. refl;
      files = λ q. refl;
      sessions = g;
      expired = λ c g. refl;
      expired_count = refl;
      epoch = refl;
      given = refl;
      index = index_keeps_same t.deadlines;
      undated = refl;
    }) h)

pub same_rooms : (t u : Opens) → u ≡ record t {
  rows = u.rows;
  guids = u.guids;
  files = u.files;
} → ((q : ℕ) → get nat_eq u.rows q ≡ get nat_eq t.rows q) → hash_map_len u.rows
    ≡ hash_map_len t.rows
    → ((c g : ℕ) → get pair_eq u.guids (c, g) ≡ get pair_eq t.guids (c, g))
    → ((q : ℕ) → get nat_eq u.files q ≡ get nat_eq t.files q) → (s : model.Server) → ShowsOpens t s → ShowsOpens u s
same_rooms t u e rows len guids files s h =
    subst (λ (v : Opens). ShowsOpens v s) (sym e) (shows_same t (record t { rows = u.rows; guids = u.guids; files = u.files }) s (record {
      rows = rows;
      len = len;
      guids = guids;
      files = files;
      sessions = grows_same _;
      expired = λ c g. refl;
      expired_count = refl;
      epoch = refl;
      given = refl;
      index = index_keeps_same t.deadlines;
      undated = refl;
    }) h)

pub same_index : (t u : Opens) → u ≡ record t { deadlines = u.deadlines } → IndexKeeps t.deadlines u.deadlines
    → (s : model.Server) → ShowsOpens t s → ShowsOpens u s
same_index t u e k s h =
    subst (λ (v : Opens). ShowsOpens v s) (sym e) (shows_same t (record t { deadlines = u.deadlines }) s (record {
      rows = λ q. refl;
      len = refl;
      guids = λ c g. refl;
      files = λ q. refl;
      sessions = grows_same _;
      expired = λ c g. refl;
      expired_count = refl;
      epoch = refl;
      given = refl;
      index = k;
      undated = refl;
    }) h)

-- ---- what holds where a result is Ok

pub on_ok : {T E : Type 0} (P Q : Type 0) (r : Result T E) → (P → Q) → OnOk r P → OnOk r Q
on_ok P Q (Ok x) f p = f p
on_ok P Q (Err e) f p = tt

-- a plain open has its place, where the row's list of plain ones has it
pub plain_place : (r : Option Row) (plain there : Bool) → (plain ≡ false → HasPlainPlace r false)
    → (plain ≡ true → there ≡ true) → HasPlainPlace r there
plain_place None plain there f g = tt
plain_place (Some r) true there f g = λ e. g refl
plain_place (Some r) false there f g = λ e. absurd (let k = f refl e in cc)

pub plain_more : (r : Option Row) (b c : Bool) → (b ≡ true → c ≡ true) → HasPlainPlace r b → HasPlainPlace r c
plain_more None b c f h = tt
plain_more (Some r) b c f h = λ e. f (h e)

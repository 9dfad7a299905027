-- A start over a snapshot and records behind it stands where the server stood for which they stand.
use Rattle.std.proofs.Common.{◌≡◌, ℕ, ◌+◌, ◌≤◌, Bool, true, false, not, ◌&&◌, if◌then◌else◌, List, [], ◌∷◌, ◌++◌, refl, arith, sym, subst, ◌∙◌, ap}
use Rattle.std.proofs.Common.{Option, Some, None, eqb-true, ◌==◌, ◌||◌}
use Rattle.spec_exchange.specs.Table.{has, is_filled}
use Rattle.spec_exchange.specs.State.{Server, Entry, Open, Range, Record}
use Rattle.spec_exchange.specs.Files.{root, exists, exists_in, path_in}
use Rattle.spec_exchange.specs.Opens.{opens_in, file_has_open}
use Rattle.spec_exchange.specs.Records.{entry_bytes}
use Rattle.spec_exchange.specs.Fold.{Configuration, fold_from, full_room, persistent_in, ranges_that_stay, stays, stays_by_guid}
use Rattle.spec_exchange.specs.Fold.{epoch_records, opening_records, unmark_records, recovered}
use Rattle.law_server.specs.tables.Fits.{Fits, Listed, all_sound}
use Rattle.law_server.proofs.tables.Logic.{both, front_of, back_of}
use Rattle.law_server.proofs.tables.Folded.{folded_keeps, sound_more, sound_recovery}
use Rattle.law_server.proofs.tables.SessionEffects.{configured_keeps}
use Rattle.law_records.specs.recovery.Restarted.{Bare, EntriesLeft}
use Rattle.law_records.proofs.recovery.Leaves.{fold_append}
use Rattle.law_records.proofs.recovery.Lists.{has_file, has_persistent}
use Rattle.law_records.proofs.recovery.Marks.{Unmarked, opened_same, pending_opened, unmarked_from, unmarked_itself}
use Rattle.law_records.proofs.recovery.Sweeps.{held_behind, left_behind}
use Rattle.law_snapshots.specs.behind.Found.{FoundFor, found}
use Rattle.law_snapshots.specs.restarts.Reopened.{RestartKept, reopened, reopening_records}
use Rattle.law_snapshots.specs.snapshots.Kept.{Keeps, OpensKept}
use Rattle.law_snapshots.specs.snapshots.Pieces.{SnapshotPiece, unfolded, with_pieces}
use Rattle.law_snapshots.proofs.restarts.Openings.{Begins, IsOpened, begins, opened}
use Rattle.law_snapshots.proofs.restarts.Sessionless.{bare_found}

-- ---- the state behind what a start writes

behind : (base : List SnapshotPiece) (stored : ℕ → List ℕ) (since : List Record)
    → found base stored (since ++ reopening_records base stored since)
    ≡ fold_from (found base stored since) (reopening_records base stored since)
behind base stored since = fold_append (unfolded base stored) since (reopening_records base stored since)

-- marks that a start leaves were there, and those of files with an open stay
marks : (d : Server) → Unmarked (fold_from d (epoch_records d)) (fold_from d (opening_records d))
marks d =
    let b : Server = fold_from d (epoch_records d) in
    subst (λ (x : Server). Unmarked b x) (sym (fold_append d (epoch_records d) (unmark_records b b.entries)))
    (unmarked_from b b b.entries (unmarked_itself b))

-- behind the epoch nothing is delete pending that wasn't
begun_pending : (d : Server) → (fold_from d (epoch_records d)).delete_pending ≡ d.delete_pending
begun_pending d = let b : Begins d (d.epoch + 1) (fold_from d (epoch_records d)) = begins d in ap (λ (x : Server). x.delete_pending) b.2

module _ (d s : Server) (k : Keeps d s) where
  there : (f : ℕ) → exists_in s.entries f ≡ true → exists_in d.entries f ≡ true
  there f h = ap (λ (es : List Entry). exists_in es f) k.files.entries ∙ h

  kept_pending : (x : Server) → (f : ℕ) → x ≡ fold_from d (opening_records d) → exists_in s.entries f ≡ true → x.delete_pending f ≡ true
      → s.delete_pending f ≡ true
  kept_pending x f e h p =
      let m : Unmarked (fold_from d (epoch_records d)) (fold_from d (opening_records d)) = marks d in
      let was : (fold_from d (epoch_records d)).delete_pending f ≡ true =
      m.fewer f (sym (ap (λ (y : Server). y.delete_pending f) e) ∙ p) in
      sym (k.files.delete_pending f h) ∙ (sym (ap (λ (t : ℕ → Bool). t f) (begun_pending d)) ∙ was)

  -- of any state that is what a start makes of d
  pub restart_kept : (x : Server) → x ≡ fold_from d (opening_records d) → Bare d → RestartKept s x
  restart_kept x e b =
      let o : IsOpened d (fold_from d (opening_records d)) = opened d in
      let same : x ≡ record d {
        version = o.0;
        entries = o.1;
        epoch = d.epoch + 1;
        open_ids_given = 0;
        session_ids_given = 0;
        delete_pending = o.2;
      } = e ∙ o.3 in
      record {
        epoch = ap (λ (y : Server). y.epoch) same ∙ ap (λ (n : ℕ). n + 1) k.counts.epoch;
        open_ids_given = ap (λ (y : Server). y.open_ids_given) same;
        session_ids_given = ap (λ (y : Server). y.session_ids_given) same;
        opens = ap (λ (y : Server). y.opens) same ∙ k.opens.opens;
        standing = λ p. ap (λ (y : Server). y.standing p) same ∙ k.opens.standing p;
        opened = λ p h. ap (λ (y : Server). y.opened p) same ∙ k.opens.opened p h;
        lock_sequences = λ p i h l m. ap (λ (y : Server). y.lock_sequences p i) same ∙ k.opens.lock_sequences p i h l m;
        by_guid = λ c g. ap (λ (y : Server). y.by_guid c g) same ∙ k.opens.by_guid c g;
        ranges = λ f. ap (λ (y : Server). y.ranges f) same ∙ k.opens.ranges f;
        next_file = ap (λ (y : Server). y.next_file) same ∙ k.files.next_file;
        root_times = ap (λ (y : Server). y.basic root) same ∙ k.files.root_times;
        directory = λ f h. ap (λ (y : Server). y.directory f) same ∙ k.files.directory f h;
        delete_pending = λ f h p. kept_pending x f e h p;
        basic = λ f h. ap (λ (y : Server). y.basic f) same ∙ k.files.basic f h;
        content = λ f h. ap (λ (y : Server). y.content f) same ∙ k.files.content f h;
        expired_guids = λ c g. ap (λ (y : Server). y.expired_guids c g) same ∙ k.counts.expired_guids c g;
        expired_count = ap (λ (y : Server). y.expired_count) same ∙ k.counts.expired_count;
        bare = subst (λ (y : Server). Bare y) (sym same) b;
      }

pub stands : (z : Configuration) (bytes : ℕ) (base : List SnapshotPiece) (stored : ℕ → List ℕ) (since : List Record) (s : Server)
    → FoundFor base stored since s → RestartKept s (reopened z bytes base stored since)
stands z bytes base stored since s k =
    let d : Server = found base stored since in
    let x : Server = found base stored (since ++ reopening_records base stored since) in
    let r : RestartKept s x = restart_kept d s k x (behind base stored since) (bare_found base stored since) in
    record {
      epoch = r.epoch;
      open_ids_given = r.open_ids_given;
      session_ids_given = r.session_ids_given;
      opens = r.opens;
      standing = r.standing;
      opened = r.opened;
      lock_sequences = r.lock_sequences;
      by_guid = r.by_guid;
      ranges = r.ranges;
      next_file = r.next_file;
      root_times = r.root_times;
      directory = r.directory;
      delete_pending = r.delete_pending;
      basic = r.basic;
      content = r.content;
      expired_guids = r.expired_guids;
      expired_count = r.expired_count;
      bare = r.bare;
    }

-- ---- what fits together

pub fits_found : (base : List SnapshotPiece) (stored : ℕ → List ℕ) (since : List Record) → Fits (unfolded base stored)
    → all_sound since ≡ true
    → Fits (found base stored since)
fits_found base stored since i sound = folded_keeps (unfolded base stored) since sound i

fits_behind : (base : List SnapshotPiece) (stored : ℕ → List ℕ) (since : List Record) → Fits (unfolded base stored) → all_sound since ≡ true
    → Fits (found base stored (since ++ reopening_records base stored since))
fits_behind base stored since i sound =
    fits_found base stored (since ++ reopening_records base stored since) i
    (sound_more since (reopening_records base stored since) sound (sound_recovery (found base stored since)))

pub fits : (z : Configuration) (bytes : ℕ) (base : List SnapshotPiece) (stored : ℕ → List ℕ) (since : List Record) → z.room ≤ full_room
    → Fits (unfolded base stored) → all_sound since ≡ true → Fits (reopened z bytes base stored since)
fits z bytes base stored since small i sound =
    configured_keeps (found base stored (since ++ reopening_records base stored since)) z.share z.room z.encrypts z.address
    (bytes + entry_bytes (reopening_records base stored since)) small (fits_behind base stored since i sound)

-- ---- its entries

both_of : (x y : Bool) → (x && y) ≡ true → x ≡ true × y ≡ true
both_of x y e = (grind arith, grind arith)

open_there : (d s : Server) (o : ℕ) → Listed s → OpensKept d s → stays s o ≡ true → file_has_open d (s.opened o).file ≡ true
unfolding file_has_open
open_there d s o l h stay =
    let t = both_of (s.standing o) (s.opened o).persistent stay in
    let there : has o d.opens ≡ true = ap (λ (os : List ℕ). has o os) h.opens ∙ has_persistent s.opened o s.opens
    ∙ both (has o s.opens) (s.opened o).persistent (l o ∙ t.0) t.1 in
    subst (λ (r : Open). is_filled (opens_in d.opened d.opens r.file) ≡ true) (h.opened o stay) (has_file d.opened o d.opens there)

same_opened : (x y : Server) (f : ℕ) → x.opened ≡ y.opened → x.opens ≡ y.opens → file_has_open x f ≡ file_has_open y f
unfolding file_has_open
same_opened x y f p q = λ k. is_filled (opens_in (p k) (q k) f)

stays_not_pending : (m o : Bool) → m ≡ false → (m && not o) ≡ false
stays_not_pending m o e = grind arith

stays_opened : (m o : Bool) → o ≡ true → (m && not o) ≡ false
stays_opened m o e = grind arith

clash : (b : Bool) → b ≡ false → b ≡ true → ⊥
clash b e f = cc

module _ (d s x : Server) (k : Keeps d s) (e : x ≡ fold_from d (opening_records d)) (i : Fits d) (fit : Fits x) (l : Fits s) where
  begun : Server
  begun = fold_from d (epoch_records d)

  its_entries : x.entries ≡ (fold_from d (epoch_records d)).entries
  its_entries = ap (λ (y : Server). y.entries) e ∙ ap (λ (y : Server). y.entries) (opened_same d)

  were_there : (f : ℕ) → exists_in x.entries f ≡ true → exists_in s.entries f ≡ true × path_in x.entries f ≡ path_in s.entries f
  were_there f h =
      let t = left_behind d d f (sym (ap (λ (es : List Entry). exists_in es f) its_entries) ∙ h) in (
        sym (ap (λ (es : List Entry). exists_in es f) k.files.entries) ∙ t.0,
        ap (λ (es : List Entry). path_in es f) its_entries ∙ (t.1 ∙ ap (λ (es : List Entry). path_in es f) k.files.entries),
      )

  -- a file that goes with no epoch
  still_there : (f : ℕ) → (d.delete_pending f && not (file_has_open d f)) ≡ false → exists_in x.entries f ≡ exists_in s.entries f
  still_there f h =
      ap (λ (es : List Entry). exists_in es f) its_entries ∙ held_behind d d f h ∙ ap (λ (es : List Entry). exists_in es f) k.files.entries

  not_marked : (f : ℕ) → s.delete_pending f ≡ false → exists_in x.entries f ≡ exists_in s.entries f
  not_marked f m = by (exists_in s.entries f) refl (exists_in x.entries f) refl
    where
      by : (b : Bool) → exists_in s.entries f ≡ b → (c : Bool) → exists_in x.entries f ≡ c → exists_in x.entries f ≡ exists_in s.entries f
      by true p c q = still_there f (stays_not_pending (d.delete_pending f) (file_has_open d f) (k.files.delete_pending f p ∙ m))
      by false p false q = q ∙ sym p
      by false p true q = absurd (clash (exists_in s.entries f) p (were_there f q).0)

  held_there : (o : ℕ) → stays s o ≡ true → exists_in x.entries (s.opened o).file ≡ exists_in s.entries (s.opened o).file
  held_there o stay = still_there (s.opened o).file
      (stays_opened (d.delete_pending (s.opened o).file) (file_has_open d (s.opened o).file) (open_there d s o l.listed k.opens stay))

  -- the opens are those of d
  its_opened : x.opened ≡ d.opened
  its_opened = let o : IsOpened d (fold_from d (opening_records d)) = opened d in ap (λ (y : Server). y.opened) (e ∙ o.3)

  its_opens : x.opens ≡ d.opens
  its_opens = let o : IsOpened d (fold_from d (opening_records d)) = opened d in ap (λ (y : Server). y.opens) (e ∙ o.3)

  begun_opened : (fold_from d (epoch_records d)).opened ≡ d.opened
  begun_opened = let b : Begins d (d.epoch + 1) (fold_from d (epoch_records d)) = begins d in ap (λ (y : Server). y.opened) b.2

  begun_opens : (fold_from d (epoch_records d)).opens ≡ d.opens
  begun_opens = let b : Begins d (d.epoch + 1) (fold_from d (epoch_records d)) = begins d in ap (λ (y : Server). y.opens) b.2

  -- the root is never delete pending, and of other files the mark is what it was
  held_mark : (o : ℕ) → stays s o ≡ true → x.delete_pending (s.opened o).file ≡ s.delete_pending (s.opened o).file
  unfolding exists
  held_mark o stay = by ((s.opened o).file == root) refl (l.open_files o (front_of (s.standing o) (s.opened o).persistent stay))
    where
      by : (b : Bool) → ((s.opened o).file == root) ≡ b → (b || exists_in s.entries (s.opened o).file) ≡ true
          → x.delete_pending (s.opened o).file ≡ s.delete_pending (s.opened o).file
      by true q h =
          subst (λ (f : ℕ). x.delete_pending f ≡ s.delete_pending f) (sym (eqb-true (s.opened o).file root q)) (fit.root_stays
          ∙ sym l.root_stays)
      by false q h =
          let f : ℕ = (s.opened o).file in
          let m : Unmarked (fold_from d (epoch_records d)) (fold_from d (opening_records d)) = marks d in
          let has_open : file_has_open (fold_from d (epoch_records d)) f ≡ true =
          same_opened (fold_from d (epoch_records d)) d f begun_opened begun_opens ∙ open_there d s o l.listed k.opens stay in
          ap (λ (y : Server). y.delete_pending f) e ∙ m.held f has_open ∙ ap (λ (t : ℕ → Bool). t f) (begun_pending d)
          ∙ k.files.delete_pending f h

  marked_opened : (f : ℕ) → exists_in x.entries f ≡ true → x.delete_pending f ≡ true → file_has_open x f ≡ true
  marked_opened f h p =
      let b : Server = fold_from d (epoch_records d) in
      let off : b.delete_pending root ≡ false = ap (λ (t : ℕ → Bool). t root) (begun_pending d) ∙ i.root_stays in
      let stands : exists_in b.entries f ≡ true = sym (ap (λ (es : List Entry). exists_in es f) its_entries) ∙ h in
      let marked : (fold_from b (unmark_records b b.entries)).delete_pending f ≡ true =
      sym (ap (λ (y : Server). y.delete_pending f) (e ∙ fold_append d (epoch_records d) (unmark_records b b.entries))) ∙ p in
      same_opened x b f (its_opened ∙ sym begun_opened) (its_opens ∙ sym begun_opens) ∙ pending_opened b f off stands marked

  pub entries_left : EntriesLeft s x
  entries_left = record {
    were = were_there;
    not_pending = not_marked;
    held = held_there;
    held_pending = held_mark;
    opened = marked_opened;
  }

pub entries : (z : Configuration) (bytes : ℕ) (base : List SnapshotPiece) (stored : ℕ → List ℕ) (since : List Record) (s : Server)
    → Fits (unfolded base stored) → all_sound since ≡ true → Fits s → FoundFor base stored since s
    → EntriesLeft s (reopened z bytes base stored since)
unfolding file_has_open
entries z bytes base stored since s i sound l k =
    let d : Server = found base stored since in
    let x : Server = found base stored (since ++ reopening_records base stored since) in
    let t : EntriesLeft s x = entries_left d s x k (behind base stored since) (fits_found base stored since i sound)
    (fits_behind base stored since i sound) l in
    record { were = t.were; not_pending = t.not_pending; held = t.held; held_pending = t.held_pending; opened = t.opened }

-- ---- what goes on standing

-- of opens that are all persistent none is left out
all_persist : (opened : ℕ → Open) (os : List ℕ) → ((o : ℕ) → has o os ≡ true → (opened o).persistent ≡ true) → persistent_in opened os ≡ os
unfolding persistent_in
all_persist opened [] h = refl
all_persist opened (o ∷ os) h =
    let here : (opened o).persistent ≡ true = h o (grind arith) in
    let rest : persistent_in opened os ≡ os = all_persist opened os (λ p q. h p (grind arith)) in
    rw (here, rest) refl

-- nor is a range of one that stays
all_stay : (t s : Server) (rs : List Range) → ((o : ℕ) → stays s o ≡ true → stays t o ≡ true)
    → ranges_that_stay t (ranges_that_stay s rs) ≡ ranges_that_stay s rs
unfolding ranges_that_stay
all_stay t s [] h = refl
all_stay t s (r ∷ rs) h = by (stays s r.owner) refl (all_stay t s rs h)
  where
    by : (b : Bool) → stays s r.owner ≡ b → ranges_that_stay t (ranges_that_stay s rs) ≡ ranges_that_stay s rs
        → ranges_that_stay t (if b then r ∷ ranges_that_stay s rs else ranges_that_stay s rs)
        ≡ (if b then r ∷ ranges_that_stay s rs else ranges_that_stay s rs)
    by true e rest = rw (h r.owner e, rest) refl
    by false e rest = rest

named_stays : (t s : Server) (v : Option ℕ) → ((o : ℕ) → stays s o ≡ true → stays t o ≡ true)
    → stays_by_guid s v ≡ stays_by_guid t (stays_by_guid s v)
named_stays t s None h = refl
named_stays t s (Some o) h = by (stays s o) refl
  where
    by : (b : Bool) → stays s o ≡ b → (if b then Some o else None) ≡ stays_by_guid t (if b then Some o else None)
    by true e = rw (h o e) refl
    by false e = refl

-- a state under another's configuration
abbrev told_to : Server → Server → Server
told_to x u = record x {
  share = u.share;
  room = u.room;
  encrypts = u.encrypts;
  address = u.address;
  journal = u.journal;
}

same_ranges : (x u : Server) (rs : List Range) → ranges_that_stay x rs ≡ ranges_that_stay (told_to x u) rs
unfolding ranges_that_stay
same_ranges x u [] = refl
same_ranges x u (r ∷ rs) = ap (λ (v : List Range). if stays x r.owner then r ∷ v else v) (same_ranges x u rs)

same_guid : (x u : Server) (v : Option ℕ) → stays_by_guid x v ≡ stays_by_guid (told_to x u) v
same_guid x u None = refl
same_guid x u (Some o) = refl

no_more : (n : ℕ) → n ≤ n
no_more n = omega arith

-- what is kept of a state keeps itself, under whatever configuration
module _ (s x u : Server) (r : RestartKept s x) (l : Listed s) where
  again : (o : ℕ) → stays s o ≡ true → stays x o ≡ true
  again o h =
      let t = both_of (s.standing o) (s.opened o).persistent h in
      both (x.standing o) (x.opened o).persistent (r.standing o ∙ h) (ap (λ (w : Open). w.persistent) (r.opened o h) ∙ t.1)

  standing_again : (o : ℕ) → x.standing o ≡ stays x o
  standing_again o = by (x.standing o) refl
    where
      by : (b : Bool) → x.standing o ≡ b → x.standing o ≡ stays x o
      by true e = e ∙ sym (again o (sym (r.standing o) ∙ e))
      by false e = e ∙ sym (ap (λ (c : Bool). c && (x.opened o).persistent) e)

  persists : (o : ℕ) → has o x.opens ≡ true → (x.opened o).persistent ≡ true
  persists o h =
      let listed : (has o s.opens && (s.opened o).persistent) ≡ true =
      sym (has_persistent s.opened o s.opens) ∙ (sym (ap (λ (os : List ℕ). has o os) r.opens) ∙ h) in
      let t = both_of (has o s.opens) (s.opened o).persistent listed in
      back_of (x.standing o) (x.opened o).persistent (again o (both (s.standing o) (s.opened o).persistent (sym (l o) ∙ t.0) t.1))

  pub keeps_itself : x.room ≡ full_room → u.room ≤ full_room → Keeps x (told_to x u)
  keeps_itself full small =
      let opens : persistent_in x.opened x.opens ≡ x.opens = all_persist x.opened x.opens persists in
      record {
        files = record {
          entries = refl;
          next_file = refl;
          root_times = refl;
          directory = λ f h. refl;
          delete_pending = λ f h. refl;
          basic = λ f h. refl;
          content = λ f h. refl;
        };
        opens = record {
          opens = sym opens;
          standing = standing_again;
          opened = λ o h. refl;
          lock_sequences = λ o i h a b. refl;
          by_guid = λ c g. r.by_guid c g ∙ named_stays x s (s.by_guid c g) again
              ∙ ap (λ (v : Option ℕ). stays_by_guid x v) (sym (r.by_guid c g)) ∙ same_guid x u (x.by_guid c g);
          ranges = λ f. r.ranges f ∙ sym (all_stay x s (s.ranges f) again)
              ∙ ap (λ (v : List Range). ranges_that_stay x v) (sym (r.ranges f)) ∙ same_ranges x u (x.ranges f);
        };
        counts = record {
          version = refl;
          epoch = refl;
          open_ids_given = no_more x.open_ids_given;
          full = full;
          room = small;
          expired_guids = λ c g. refl;
          expired_count = refl;
        };
      }

pub goes_on : (z : Configuration) (bytes : ℕ) (base : List SnapshotPiece) (stored : ℕ → List ℕ) (since : List Record) (s : Server)
    → z.room ≤ full_room → Fits s → FoundFor base stored since s
    → FoundFor base stored (since ++ reopening_records base stored since) (reopened z bytes base stored since)
goes_on z bytes base stored since s small i k =
    let d : Server = found base stored since in
    let x : Server = found base stored (since ++ reopening_records base stored since) in
    let o : IsOpened d (fold_from d (opening_records d)) = opened d in
    let full : x.room ≡ full_room = ap (λ (y : Server). y.room) (behind base stored since ∙ o.3) ∙ k.counts.full in
    keeps_itself s x (reopened z bytes base stored since) (restart_kept d s k x (behind base stored since) (bare_found base stored since))
    i.listed full small

-- ---- without a snapshot

pub plain : (z : Configuration) (bytes : ℕ) (rs : List Record) → reopened z bytes [] (λ f. []) rs ≡ recovered z bytes rs
unfolding with_pieces
plain z bytes rs = refl

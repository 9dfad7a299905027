-- Opens that leave, with their files where those go, and expiry.
use Rattle.std.proofs.Common.{◌≡◌, ◌≢◌, ℕ, ◌+◌, ◌==◌, nat_lt, Bool, true, false, not, ◌&&◌, if◌then◌else◌, List, []}
use Rattle.std.proofs.Common.{◌∷◌, ◌++◌, refl, arith, sym, subst, ◌∙◌, ap, Option, Some, None, slice_get}
use Rattle.spec_exchange.specs.Table.{put2}
use Rattle.spec_exchange.specs.Commands.{deletes_on_close}
use Rattle.spec_exchange.specs.State.{Server, Open, Range, Record, Origin, DeleteRecord, RemoveRecord, CloseRecord, ExpireRecord}
use Rattle.spec_exchange.specs.Files.{root, exists, is_full_directory, set_delete_pending, remove_file}
use Rattle.spec_exchange.specs.Opens.{file_has_open, drop_open, goes, without_gone, pending_behind, leave_open}
use Rattle.spec_exchange.specs.Opens.{is_kept_back, left_file, left_file_records}
use Rattle.spec_exchange.specs.Opens.{pending_records, shut_records, gone_records, leave_records}
use Rattle.spec_exchange.specs.Step.{add_expired_guid, expire, expire_records, max_expired_guids}
use Rattle.spec_exchange.specs.Fold.{with_record, fold_from, may_remove, shut_recorded}
use Rattle.law_records.specs.recovery.Recovers.{staying, Mirrors}
use Rattle.law_records.proofs.recovery.Lists.{has_without}
use Rattle.law_server.specs.tables.Fits.{Listed}
use Rattle.law_records.proofs.recovery.Guards.{same_exists, same_full, none_open}
use Rattle.law_records.proofs.recovery.Files.{sets_pending, pending_again, removes_file}
use Rattle.law_records.proofs.recovery.Opens.{drops_plain, drops_persistent}

pub fold_append : (s : Server) (rs more : List Record) → fold_from s (rs ++ more) ≡ fold_from (fold_from s rs) more
unfolding fold_from
fold_append s [] more = refl
fold_append s (r ∷ rs) more = fold_append (with_record s r) rs more

-- ---- a file that goes

goes_gives : (m r e o u : Bool) → (m && (not r && (e && (not o && not u)))) ≡ true → r ≡ false × e ≡ true × o ≡ false × u ≡ false
goes_gives m r e o u h = (grind arith, grind arith, grind arith, grind arith)

removes_by : (e r o u : Bool) → e ≡ true → r ≡ false → o ≡ false → u ≡ false → (e && (not r && (not o && not u))) ≡ true
removes_by e r o u a b c d = grind arith

pub removable : (d s : Server) (f : ℕ) → d.entries ≡ s.entries → d.directory ≡ s.directory
    → (file_has_open s f ≡ false → file_has_open d f ≡ false) → goes s f ≡ true → may_remove d f ≡ true
unfolding goes may_remove
removable d s f e dir none g =
    let facts = goes_gives (s.delete_pending f) (f == root) (exists s f) (file_has_open s f) (is_full_directory s f) g in
    removes_by (exists d f) (f == root) (file_has_open d f) (is_full_directory d f) (same_exists d s e f ∙ facts.1)
    facts.0 (none facts.2) (same_full d s e dir f ∙ facts.3)

pub removed : (d : Server) (origin : Origin) (f : ℕ) → may_remove d f ≡ true → with_record d (RemoveRecord origin f) ≡ remove_file d f
removed d origin f may = rw may refl

pub gone_recorded : (d s : Server) (origin : Origin) (f : ℕ) → Mirrors d s → Listed s
    → Mirrors (fold_from d (gone_records s origin f)) (without_gone s f)
unfolding gone_records fold_from
gone_recorded d s origin f h l =
    elim (goes s f) as (λ b. goes s f ≡ b → Mirrors (fold_from d (if b then RemoveRecord origin f ∷ [] else []))
    (if b then remove_file s f else s)) [
      | true ↦ λ g. subst (λ x. Mirrors x (remove_file s f))
          (sym (removed d origin f (removable d s f h.0.entries h.0.directory (none_open d s f h.1 l) g)))
          (removes_file d s f h)
      | false ↦ λ g. h
    ] refl

-- ---- a directory that can't go loses its mark

kept_gives : (m r e o u : Bool) → (m && (not r && (e && (not o && u)))) ≡ true → r ≡ false × e ≡ true
kept_gives m r e o u h = (grind arith, grind arith)

clears_by : (e r : Bool) → e ≡ true → r ≡ false → (e && not r) ≡ true
clears_by e r a b = grind arith

pub may_clear : (d s : Server) (f : ℕ) → d.entries ≡ s.entries → is_kept_back s f ≡ true → (exists d f && not (f == root)) ≡ true
unfolding is_kept_back
may_clear d s f e k =
    let facts = kept_gives (s.delete_pending f) (f == root) (exists s f) (file_has_open s f) (is_full_directory s f) k in
    clears_by (exists d f) (f == root) (same_exists d s e f ∙ facts.1) facts.0

pub pending_record : (d : Server) (origin : Origin) (f : ℕ) (flag : Bool) → (exists d f && not (f == root)) ≡ true
    → with_record d (DeleteRecord origin f flag) ≡ set_delete_pending d f flag
pending_record d origin f flag may = rw may refl

pub settled_recorded : (d s : Server) (origin : Origin) (f : ℕ) → Mirrors d s → Listed s
    → Mirrors (fold_from d (left_file_records s origin f)) (left_file s f)
unfolding left_file_records fold_from
settled_recorded d s origin f h l =
    elim (is_kept_back s f) as (λ b. is_kept_back s f ≡ b
    → Mirrors (fold_from d (if b then DeleteRecord origin f false ∷ [] else gone_records s origin f))
    (if b then set_delete_pending s f false else without_gone s f)) [
      | true ↦ λ k. subst (λ x. Mirrors x (set_delete_pending s f false))
          (sym (pending_record d origin f false (may_clear d s f h.0.entries k))) (sets_pending d s f false h)
      | false ↦ λ k. gone_recorded d s origin f h l
    ] refl

-- ---- what holds of an open that leaves

pub record Leaver (s : Server) (o : ℕ) : Type 0 where
  pub stands : s.standing o ≡ true
  pub own : (g : ℕ) → (s.opened o).create_guid ≡ Some g → s.by_guid (s.opened o).client_guid g ≡ Some o
  pub guids : (c g : ℕ) → s.by_guid c g ≡ Some o → c ≡ (s.opened o).client_guid × (s.opened o).create_guid ≡ Some g
  pub ranges : (k n : ℕ) (r : Range) → slice_get (s.ranges k) n ≡ Some r → r.owner ≡ o → k ≡ (s.opened o).file
  pub there : exists s (s.opened o).file ≡ true
  pub not_root : deletes_on_close (s.opened o).options ≡ true → (s.opened o).file ≢ 0

-- the file delete pending where the open deletes on close
abbrev pub pending_if : Server → ℕ → Bool → Server
pending_if s f b = if b then set_delete_pending s f true else s

listed_after : (s : Server) (o f : ℕ) (b : Bool) → Listed s → Listed (drop_open (pending_if s f b) o)
listed_after s o f true l = λ p. let old = l p in let cut = has_without o p s.opens in grind arith
listed_after s o f false l = λ p. let old = l p in let cut = has_without o p s.opens in grind arith

-- ---- a persistent open leaves

shuts_by : (d s : Server) (o f : ℕ) (b : Bool) → Leaver s o → staying s.standing s.opened o ≡ true → Mirrors d s
    → Mirrors (drop_open (pending_if d f b) o) (drop_open (pending_if s f b) o)
shuts_by d s o f true leaver stays h = ((sets_pending d s f true h).0, drops_persistent d s o stays leaver.guids leaver.ranges h.1, h.2)
shuts_by d s o f false leaver stays h = (h.0, drops_persistent d s o stays leaver.guids leaver.ranges h.1, h.2)

pub shuts : (d s : Server) (o : ℕ) → Leaver s o → staying s.standing s.opened o ≡ true → Mirrors d s
    → Mirrors (shut_recorded d o) (drop_open (pending_behind s o) o)
shuts d s o leaver stays h =
    subst (λ (r : Open). Mirrors (drop_open (pending_if d r.file (deletes_on_close r.options)) o)
    (drop_open (pending_behind s o) o)) (sym (h.1.opened o stays))
    (shuts_by d s o (s.opened o).file (deletes_on_close (s.opened o).options) leaver stays h)

-- ---- a plain open leaves

plain_by : (d s : Server) (o f : ℕ) (b : Bool) → Leaver s o → (s.opened o).persistent ≡ false
    → Mirrors d (pending_if s f b) → Mirrors d (drop_open (pending_if s f b) o)
plain_by d s o f true leaver plain h = (h.0, drops_plain d s o plain leaver.own h.1, h.2)
plain_by d s o f false leaver plain h = (h.0, drops_plain d s o plain leaver.own h.1, h.2)

pub may_set_pending : (d s : Server) (f : ℕ) → d.entries ≡ s.entries → exists s f ≡ true → f ≢ 0 → (exists d f && not (f == root)) ≡ true
may_set_pending d s f e there n = let same = same_exists d s e f in grind arith

pending_by : (d s : Server) (origin : Origin) (f : ℕ) (b c : Bool) → s.delete_pending f ≡ c → exists s f ≡ true
    → (b ≡ true → f ≢ 0) → Mirrors d s
    → Mirrors (fold_from d (if b && not c then DeleteRecord origin f true ∷ [] else [])) (pending_if s f b)
unfolding fold_from
pending_by d s origin f true true m there n h = pending_again d s f m h
pending_by d s origin f true false m there n h =
    subst (λ x. Mirrors x (set_delete_pending s f true))
    (sym (pending_record d origin f true (may_set_pending d s f h.0.entries there (n refl))))
    (sets_pending d s f true h)
pending_by d s origin f false c m there n h = h

pub plain_records : (d s : Server) (origin : Origin) (o : ℕ) → (s.opened o).persistent ≡ false
    → pending_records s origin o ++ shut_records s origin o ≡ (if deletes_on_close (s.opened o).options
    && not (s.delete_pending (s.opened o).file) then DeleteRecord origin (s.opened o).file true ∷ [] else [])
unfolding pending_records shut_records
plain_records d s origin o plain =
    rw plain (either_nil (deletes_on_close (s.opened o).options && not (s.delete_pending (s.opened o).file))
    (DeleteRecord origin (s.opened o).file true))
  where
    either_nil : (b : Bool) (r : Record) → (if b then r ∷ [] else []) ++ [] ≡ (if b then r ∷ [] else [])
    either_nil true r = refl
    either_nil false r = refl

kept_records : (s : Server) (origin : Origin) (o : ℕ) → (s.opened o).persistent ≡ true → pending_records s origin o
    ++ shut_records s origin o ≡ CloseRecord origin o ∷ []
unfolding pending_records shut_records
kept_records s origin o kept = rw kept refl

stays_if : (s : Server) (o : ℕ) → s.standing o ≡ true → (s.opened o).persistent ≡ true → staying s.standing s.opened o ≡ true
stays_if s o a b = grind arith

shut_record : (d : Server) (origin : Origin) (o : ℕ) → d.standing o ≡ true → with_record d (CloseRecord origin o) ≡ shut_recorded d o
shut_record d origin o stands = rw stands refl

-- it is out of both, and its file stands still
pub left_recorded : (d s : Server) (origin : Origin) (o : ℕ) → Leaver s o → Mirrors d s
    → Mirrors (fold_from d (pending_records s origin o ++ shut_records s origin o)) (drop_open (pending_behind s o) o)
unfolding fold_from
left_recorded d s origin o leaver h =
    elim (s.opened o).persistent as (λ b. (s.opened o).persistent ≡ b
    → Mirrors (fold_from d (pending_records s origin o ++ shut_records s origin o))
    (drop_open (pending_behind s o) o)) [
      | true ↦ λ kept.
          let stays = stays_if s o leaver.stands kept in
          subst (λ x. Mirrors (fold_from d x) (drop_open (pending_behind s o) o)) (sym (kept_records s origin o kept))
          (subst (λ x. Mirrors x (drop_open (pending_behind s o) o))
          (sym (shut_record d origin o (h.1.standing o ∙ stays))) (shuts d s o leaver stays h))
      | false ↦ λ plain.
          subst (λ x. Mirrors (fold_from d x) (drop_open (pending_behind s o) o)) (sym (plain_records d s origin o plain))
          (plain_by (fold_from d (if deletes_on_close (s.opened o).options && not (s.delete_pending (s.opened o).file)
          then DeleteRecord origin (s.opened o).file true ∷ [] else [])) s o (s.opened o).file
          (deletes_on_close (s.opened o).options) leaver plain
          (pending_by d s origin (s.opened o).file (deletes_on_close (s.opened o).options)
          (s.delete_pending (s.opened o).file) refl leaver.there leaver.not_root h))
    ] refl

pub records_apart : (a b c : List Record) → a ++ (b ++ c) ≡ (a ++ b) ++ c
records_apart [] b c = refl
records_apart (r ∷ a) b c = ap (λ x. r ∷ x) (records_apart a b c)

pub leaves_recorded : (d s : Server) (origin : Origin) (o : ℕ) → Leaver s o → Listed s → Mirrors d s
    → Mirrors (fold_from d (leave_records s origin o)) (leave_open s o)
unfolding leave_records
leaves_recorded d s origin o leaver l h =
    let behind = drop_open (pending_behind s o) o in let gone = left_file_records behind origin (s.opened o).file in
    subst (λ x. Mirrors x (leave_open s o))
    (sym (ap (fold_from d) (records_apart (pending_records s origin o) (shut_records s origin o) gone)
    ∙ fold_append d (pending_records s origin o ++ shut_records s origin o) gone))
    (settled_recorded (fold_from d (pending_records s origin o ++ shut_records s origin o)) behind origin (s.opened o).file
    (left_recorded d s origin o leaver h)
    (listed_after s o (s.opened o).file (deletes_on_close (s.opened o).options) l))

-- ---- expiry

adds_expired_guid : (d s : Server) (client : ℕ) (guid : Option ℕ) → Mirrors d s
    → Mirrors (add_expired_guid d client guid) (add_expired_guid s client guid)
adds_expired_guid d s client None h = h
adds_expired_guid d s client (Some g) h = (
  h.0,
  h.1,
  record {
    version = h.2.version;
    epoch = h.2.epoch;
    open_ids_given = h.2.open_ids_given;
    full = h.2.full;
    room = h.2.room;
    expired_guids = ap (λ x. put2 x client g true) h.2.expired_guids;
    expired_count = ap (λ x. x + 1) h.2.expired_count;
  },
)

gone_expired : (d s : Server) (origin : Origin) (f client : ℕ) (guid : Option ℕ) → Mirrors d s → Listed s
    → Mirrors (fold_from (add_expired_guid d client guid) (gone_records s origin f))
    (add_expired_guid (without_gone s f) client guid)
unfolding gone_records fold_from
gone_expired d s origin f client None h l = gone_recorded d s origin f h l
gone_expired d s origin f client (Some g) h l =
    let e = add_expired_guid d client (Some g) in let t = add_expired_guid s client (Some g) in let h2 =
    adds_expired_guid d s client (Some g) h in
    elim (goes s f) as (λ b. goes s f ≡ b → Mirrors (fold_from e (if b then RemoveRecord origin f ∷ [] else []))
    (add_expired_guid (if b then remove_file s f else s) client (Some g))) [
      | true ↦ λ q. subst (λ x. Mirrors x (remove_file t f))
          (sym (removed e origin f (removable e s f h.0.entries h.0.directory (none_open e s f h.1 l) q)))
          (removes_file e t f h2)
      | false ↦ λ q. h2
    ] refl

settled_expired : (d s : Server) (origin : Origin) (f client : ℕ) (guid : Option ℕ) → Mirrors d s → Listed s
    → Mirrors (fold_from (add_expired_guid d client guid) (left_file_records s origin f))
    (add_expired_guid (left_file s f) client guid)
unfolding left_file_records fold_from
settled_expired d s origin f client None h l = settled_recorded d s origin f h l
settled_expired d s origin f client (Some g) h l =
    let e = add_expired_guid d client (Some g) in let t = add_expired_guid s client (Some g) in
    elim (is_kept_back s f) as (λ b. is_kept_back s f ≡ b
    → Mirrors (fold_from e (if b then DeleteRecord origin f false ∷ [] else gone_records s origin f))
    (add_expired_guid (if b then set_delete_pending s f false else without_gone s f) client (Some g))) [
      | true ↦ λ k. subst (λ x. Mirrors x (set_delete_pending t f false))
          (sym (pending_record e origin f false (may_clear e s f h.0.entries k)))
          (sets_pending e t f false (adds_expired_guid d s client (Some g) h))
      | false ↦ λ k. gone_expired d s origin f client (Some g) h l
    ] refl

expire_record : (d : Server) (origin : Origin) (o : ℕ) → d.standing o ≡ true → nat_lt d.expired_count max_expired_guids
    ≡ true → with_record d (ExpireRecord origin o) ≡ add_expired_guid (shut_recorded d o) (d.opened o).client_guid
    (d.opened o).create_guid
expire_record d origin o stands few = rw (stands, few) refl

pub expires_recorded : (d s : Server) (origin : Origin) (o : ℕ) → Leaver s o → (s.opened o).persistent ≡ true
    → nat_lt s.expired_count max_expired_guids ≡ true → Listed s → Mirrors d s
    → Mirrors (fold_from d (expire_records s origin o)) (expire s o)
unfolding expire_records fold_from
expires_recorded d s origin o leaver kept few l h =
    let stays = stays_if s o leaver.stands kept in let behind = drop_open (pending_behind s o) o in
    let row = h.1.opened o stays in
    let first = expire_record d origin o (h.1.standing o ∙ stays)
    (ap (λ n. nat_lt n max_expired_guids) h.2.expired_count ∙ few)
    ∙ ap (λ (r : Open). add_expired_guid (shut_recorded d o) r.client_guid r.create_guid) row in
    subst (λ x. Mirrors (fold_from x (left_file_records behind origin (s.opened o).file)) (expire s o)) (sym first)
    (settled_expired (shut_recorded d o) behind origin (s.opened o).file (s.opened o).client_guid (s.opened o).create_guid
    (shuts d s o leaver stays h)
    (listed_after s o (s.opened o).file (deletes_on_close (s.opened o).options) l))

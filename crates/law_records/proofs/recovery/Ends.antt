-- A session that ends: its plain opens leave one after the other, and of that the fold sees the files alone.
use Rattle.std.proofs.Common.{eqb-true, ◌≡◌, ◌≢◌, ℕ, ◌<◌, ◌==◌, nat_lt, Bool, true, false, not, ◌&&◌, if◌then◌else◌}
use Rattle.std.proofs.Common.{List, [], ◌∷◌, ◌++◌, refl, arith, sym, subst, ◌∙◌, ap, Option, Some, None}
use Rattle.std.proofs.lemmas.Bool.Decides.{nat_tests}
use Rattle.spec_exchange.specs.Table.{put, has, without, is_at, is_filled}
use Rattle.spec_exchange.specs.Commands.{deletes_on_close}
use Rattle.spec_exchange.specs.State.{Server, Open, Origin, Entry, DeleteRecord, RemoveRecord}
use Rattle.spec_exchange.specs.Files.{exists, exists_in, set_delete_pending, remove_file, without_file}
use Rattle.spec_exchange.specs.Opens.{opens_in, file_has_open, drop_open, goes, without_gone, pending_behind}
use Rattle.spec_exchange.specs.Opens.{is_kept_back, left_file, left_file_records}
use Rattle.law_server.proofs.tables.Closing.{left_beside}
use Rattle.spec_exchange.specs.Opens.{leave_open, pending_records, shut_records, gone_records, leave_records}
use Rattle.spec_exchange.specs.Effects.{leaves, plain_in, plain_of, leave_all, leave_all_records, guid_staying}
use Rattle.spec_exchange.specs.Effects.{ranges_staying, end_session, end_records, end_if_named, records_if_named}
use Rattle.spec_exchange.specs.Fold.{fold_from}
use Rattle.law_server.specs.tables.Fits.{Listed, OpenFiles, Ascending, is_ascending}
use Rattle.law_records.specs.recovery.Recovers.{staying, kept_ranges, kept_guid, FilesAgree, RecordOpens, RecordCounts, Mirrors}
use Rattle.law_records.proofs.recovery.Lists.{ext, has_without, has_file, at_head, in_tail, persistent_staying, has_persistent}
use Rattle.law_records.proofs.recovery.Ranges.{kept_ranges_staying}
use Rattle.law_records.proofs.recovery.Files.{put_same_bool}
use Rattle.law_records.proofs.recovery.Leaves.{pending_if, fold_append, removable, removed, may_set_pending, pending_record, may_clear}
use Rattle.law_records.proofs.recovery.Leaves.{plain_records, records_apart}
use Rattle.law_server.proofs.tables.Logic.{back_of, both}

-- ---- the session's opens, each once

abbrev distinct : List ℕ → Bool
distinct [] = true
distinct (x ∷ xs) = not (has x xs) && distinct xs

above_first : (x : ℕ) (xs : List ℕ) → is_ascending (x ∷ xs) ≡ true → (p : ℕ) → has p xs ≡ true → x < p
unfolding is_ascending
above_first x [] h p e = absurd (cc)
above_first x (y ∷ ys) h p e =
    let parts = parts_of (nat_lt x y) (is_ascending (y ∷ ys)) h in let low = less x y parts.0 in
    let rest = above_first y ys parts.1 p in
    elim (y == p) as (λ b. y == p ≡ b → x < p) [
      | true ↦ λ q. let same = eqb-true y p q in omega arith
      | false ↦ λ q. let more = rest (tail_of y p ys q e) in omega arith
    ] refl
  where
    parts_of : (a b : Bool) → (a && b) ≡ true → a ≡ true × b ≡ true
    parts_of a b q = (grind arith, grind arith)

    less : (a b : ℕ) → nat_lt a b ≡ true → a < b
    less a b q = grind (arith, nat_tests)

    tail_of : (y p : ℕ) (ys : List ℕ) → (y == p) ≡ false → has p (y ∷ ys) ≡ true → has p ys ≡ true
    tail_of y p ys q e = grind arith

ascending_tail : (x : ℕ) (xs : List ℕ) → is_ascending (x ∷ xs) ≡ true → is_ascending xs ≡ true
unfolding is_ascending
ascending_tail x [] h = refl
ascending_tail x (y ∷ ys) h = back_of (nat_lt x y) (is_ascending (y ∷ ys)) h

absent_by : (x : ℕ) (b : Bool) → (b ≡ true → x < x) → b ≡ false
absent_by x true h = let l = h refl in absurd (omega arith)
absent_by x false h = refl

all_distinct : (os : List ℕ) → is_ascending os ≡ true → distinct os ≡ true
all_distinct [] h = refl
all_distinct (x ∷ xs) h =
    let new = absent_by x (has x xs) (above_first x xs h x) in let rest = all_distinct xs (ascending_tail x xs h) in grind arith

plain_facts : (s : Server) (session : ℕ) (os : List ℕ) (p : ℕ) → has p (plain_in s session os) ≡ true → has p os ≡ true
    × leaves s session p ≡ true
unfolding plain_in
plain_facts s session [] p e = absurd (cc)
plain_facts s session (x ∷ xs) p e =
    let rest = plain_facts s session xs p in
    elim (leaves s session x) as (λ b. leaves s session x ≡ b
    → has p (if b then x ∷ plain_in s session xs else plain_in s session xs) ≡ true → has p (x ∷ xs) ≡ true
    × leaves s session p ≡ true) [
      | true ↦ λ q i. elim (x == p) as (λ b. x == p ≡ b → has p (x ∷ xs) ≡ true × leaves s session p ≡ true) [
        | true ↦ λ t. let same = eqb-true x p t in (grind arith, subst (λ y. leaves s session y ≡ true) same q)
        | false ↦ λ t. let more = rest (tail_of x p (plain_in s session xs) t i) in (in_tail p x xs more.0, more.1)
      ] refl
      | false ↦ λ q i. let more = rest i in (in_tail p x xs more.0, more.1)
    ] refl e
  where
    tail_of : (y p : ℕ) (ys : List ℕ) → (y == p) ≡ false → has p (y ∷ ys) ≡ true → has p ys ≡ true
    tail_of y p ys q e = grind arith

plain_distinct : (s : Server) (session : ℕ) (os : List ℕ) → distinct os ≡ true → distinct (plain_in s session os) ≡ true
unfolding plain_in
plain_distinct s session [] h = refl
plain_distinct s session (x ∷ xs) h =
    let parts = parts_of (has x xs) (distinct xs) h in let rest = plain_distinct s session xs parts.1 in
    let new = absent (has x (plain_in s session xs)) (has x xs) parts.0 (λ e. (plain_facts s session xs x e).0) in
    elim (leaves s session x) as (λ b. distinct (if b then x ∷ plain_in s session xs else plain_in s session xs) ≡ true) [
      | true ↦ joined (has x (plain_in s session xs)) (distinct (plain_in s session xs)) new rest
      | false ↦ rest
    ]
  where
    parts_of : (a b : Bool) → (not a && b) ≡ true → a ≡ false × b ≡ true
    parts_of a b q = (grind arith, grind arith)

    absent : (a b : Bool) → b ≡ false → (a ≡ true → b ≡ true) → a ≡ false
    absent true b e f = absurd (cc (f refl, e))
    absent false b e f = refl

    joined : (a b : Bool) → a ≡ false → b ≡ true → (not a && b) ≡ true
    joined a b e f = grind arith

-- ---- along the way: the fold's files are those of the state on the way, its opens those of the state at the start

pub record Chain (s0 d s : Server) : Type 0 where
  pub files : FilesAgree d.entries s.entries d.next_file s0.next_file d.directory s0.directory d.delete_pending
      s.delete_pending d.basic s0.basic d.content s0.content
  pub opens : RecordOpens d s0
  pub counts : RecordCounts d s0
  pub directory : s.directory ≡ s0.directory
  pub subset : (p : ℕ) → has p d.opens ≡ true → has p s.opens ≡ true × d.opened p ≡ s.opened p × (s.opened p).persistent ≡ true
  pub there : (p : ℕ) → has p s.opens ≡ true → exists s (s.opened p).file ≡ true
  pub not_root : (p : ℕ) → has p s.opens ≡ true → deletes_on_close (s.opened p).options ≡ true → (s.opened p).file ≢ 0

none_within : (rows opened : ℕ → Open) (ds os : List ℕ) (f : ℕ) → ((p : ℕ) → has p ds ≡ true → has p os ≡ true × rows p
    ≡ opened p) → is_filled (opens_in opened os f) ≡ false → is_filled (opens_in rows ds f) ≡ false
unfolding opens_in is_filled
none_within rows opened [] os f h none = refl
none_within rows opened (x ∷ ds) os f h none =
    let here = h x (at_head x ds) in let rest = none_within rows opened ds os f (λ p e. h p (in_tail p x ds e)) none in
    let filled = has_file opened x os here.0 in let row = here.1 in
    elim ((rows x).file == f) as (λ b. (rows x).file == f ≡ b
    → is_filled (if b then x ∷ opens_in rows ds f else opens_in rows ds f) ≡ false) [
      | true ↦ λ e. let same = eqb-true (rows x).file f e in
          absurd (clash (is_filled (opens_in opened os f)) none (subst (λ g. is_filled (opens_in opened os g) ≡ true)
          (sym (ap (λ (r : Open). r.file) row) ∙ same) filled))
      | false ↦ λ e. rest
    ] refl
  where
    clash : (b : Bool) → b ≡ false → b ≡ true → ⊥
    clash b e f = cc

chain_none : (s0 d s : Server) (f : ℕ) → Chain s0 d s → file_has_open s f ≡ false → file_has_open d f ≡ false
unfolding file_has_open
chain_none s0 d s f h none = none_within d.opened s.opened d.opens s.opens f (λ p e. let t = h.subset p e in (t.0, t.1)) none

-- the file is delete pending from here on
chain_pending : (s0 d s : Server) (origin : Origin) (o f : ℕ) (b c : Bool) → s.delete_pending f ≡ c → exists s f ≡ true
    → (b ≡ true → f ≢ 0) → Chain s0 d s
    → Chain s0 (fold_from d (if b && not c then DeleteRecord origin f true ∷ [] else [])) (pending_if s f b)
unfolding fold_from exists
chain_pending s0 d s origin o f true true m there n h =
    record {
      files = record {
        entries = h.files.entries;
        next_file = h.files.next_file;
        directory = h.files.directory;
        delete_pending = h.files.delete_pending ∙ ext s.delete_pending (put s.delete_pending f true)
            (put_same_bool s.delete_pending f m);
        basic = h.files.basic;
        content = h.files.content;
      };
      opens = h.opens;
      counts = h.counts;
      directory = h.directory;
      subset = h.subset;
      there = h.there;
      not_root = h.not_root;
    }
chain_pending s0 d s origin o f true false m there n h =
    subst (λ x. Chain s0 x (set_delete_pending s f true))
    (sym (pending_record d origin f true (may_set_pending d s f h.files.entries there (n refl))))
    (record {
      files = record {
        entries = h.files.entries;
        next_file = h.files.next_file;
        directory = h.files.directory;
        delete_pending = ap (λ x. put x f true) h.files.delete_pending;
        basic = h.files.basic;
        content = h.files.content;
      };
      opens = h.opens;
      counts = h.counts;
      directory = h.directory;
      subset = h.subset;
      there = h.there;
      not_root = h.not_root;
    })
chain_pending s0 d s origin o f false c m there n h = h

still_has : (p o : ℕ) (os : List ℕ) → p ≢ o → has p os ≡ true → has p (without o os) ≡ true
still_has p o os n e = let cut = has_without o p os in grind arith

had : (p o : ℕ) (os : List ℕ) → has p (without o os) ≡ true → has p os ≡ true
had p o os e = let cut = has_without o p os in grind arith

kept_apart : (opened : ℕ → Open) (o p : ℕ) → (opened o).persistent ≡ false → (opened p).persistent ≡ true → p ≢ o
kept_apart opened o p a b e = cc (ap (λ x. (opened x).persistent) e)

chain_drops : (s0 d s : Server) (o : ℕ) → (s.opened o).persistent ≡ false → Chain s0 d s → Chain s0 d (drop_open s o)
unfolding exists
chain_drops s0 d s o plain h =
    record {
      files = h.files;
      opens = h.opens;
      counts = h.counts;
      directory = h.directory;
      subset = λ p e. let t = h.subset p e in (still_has p o s.opens (kept_apart s.opened o p plain t.2) t.0, t.1, t.2);
      there = λ p e. h.there p (had p o s.opens e);
      not_root = λ p e. h.not_root p (had p o s.opens e);
    }

exists_without : (es : List Entry) (f g : ℕ) → g ≢ f → exists_in (without_file f es) g ≡ exists_in es g
unfolding exists_in without_file
exists_without [] f g n = refl
exists_without (e ∷ es) f g n = let rest = exists_without es f g n in grind arith

none_of : (m r e o u : Bool) → (m && (not r && (e && (not o && not u)))) ≡ true → o ≡ false
none_of m r e o u q = grind arith

goes_none : (s : Server) (f : ℕ) → goes s f ≡ true → file_has_open s f ≡ false
unfolding goes
goes_none s f g = none_of _ _ _ _ _ g

open_apart : (s : Server) (f p : ℕ) → file_has_open s f ≡ false → has p s.opens ≡ true → (s.opened p).file ≢ f
unfolding file_has_open
open_apart s f p none e q = cc (none, subst (λ g. is_filled (opens_in s.opened s.opens g) ≡ true) q (has_file s.opened p s.opens e))

there_still : (s : Server) (f p : ℕ) → goes s f ≡ true → has p s.opens ≡ true → exists s (s.opened p).file ≡ true
    → exists (remove_file s f) (s.opened p).file ≡ true
unfolding exists
there_still s f p g e t = rw (exists_without s.entries f (s.opened p).file (open_apart s f p (goes_none s f g) e)) t

chain_gone : (s0 d s : Server) (origin : Origin) (f : ℕ) → Chain s0 d s
    → Chain s0 (fold_from d (gone_records s origin f)) (without_gone s f)
unfolding gone_records fold_from
chain_gone s0 d s origin f h =
    elim (goes s f) as (λ b. goes s f ≡ b → Chain s0 (fold_from d (if b then RemoveRecord origin f ∷ [] else []))
    (if b then remove_file s f else s)) [
      | true ↦ λ g.
          subst (λ x. Chain s0 x (remove_file s f))
          (sym (removed d origin f (removable d s f h.files.entries (h.files.directory ∙ sym h.directory)
          (chain_none s0 d s f h) g)))
          (record {
            files = record {
              entries = ap (without_file f) h.files.entries;
              next_file = h.files.next_file;
              directory = h.files.directory;
              delete_pending = h.files.delete_pending;
              basic = h.files.basic;
              content = h.files.content;
            };
            opens = h.opens;
            counts = h.counts;
            directory = h.directory;
            subset = h.subset;
            there = λ p e. there_still s f p g e (h.there p e);
            not_root = h.not_root;
          })
      | false ↦ λ g. h
    ] refl

chain_settled : (s0 d s : Server) (origin : Origin) (f : ℕ) → Chain s0 d s
    → Chain s0 (fold_from d (left_file_records s origin f)) (left_file s f)
unfolding left_file_records fold_from exists
chain_settled s0 d s origin f h =
    elim (is_kept_back s f) as (λ b. is_kept_back s f ≡ b → Chain s0 (fold_from d (if b then DeleteRecord origin f false ∷ [] else gone_records s origin f))
    (if b then set_delete_pending s f false else without_gone s f)) [
      | true ↦ λ k.
          subst (λ x. Chain s0 x (set_delete_pending s f false))
          (sym (pending_record d origin f false (may_clear d s f h.files.entries k)))
          (record {
            files = record {
              entries = h.files.entries;
              next_file = h.files.next_file;
              directory = h.files.directory;
              delete_pending = ap (λ x. put x f false) h.files.delete_pending;
              basic = h.files.basic;
              content = h.files.content;
            };
            opens = h.opens;
            counts = h.counts;
            directory = h.directory;
            subset = h.subset;
            there = h.there;
            not_root = h.not_root;
          })
      | false ↦ λ k. chain_gone s0 d s origin f h
    ] refl

gone_opens : (s : Server) (f : ℕ) → (without_gone s f).opens ≡ s.opens
gone_opens s f = elim (goes s f) as (λ b. (if b then remove_file s f else s).opens ≡ s.opens) [ true ↦ refl | false ↦ refl ]

left_file_opens : (s : Server) (f : ℕ) → (left_file s f).opens ≡ s.opens
left_file_opens s f = elim (is_kept_back s f) as (λ b. (if b then set_delete_pending s f false else without_gone s f).opens ≡ s.opens)
    [ true ↦ refl | false ↦ gone_opens s f ]

pending_opens : (s : Server) (f : ℕ) (b : Bool) → (pending_if s f b).opens ≡ s.opens
pending_opens s f true = refl
pending_opens s f false = refl

pending_rows : (s : Server) (f : ℕ) (b : Bool) → (pending_if s f b).opened ≡ s.opened
pending_rows s f true = refl
pending_rows s f false = refl

pub leave_opens : (s : Server) (o : ℕ) → (leave_open s o).opens ≡ without o s.opens
leave_opens s o = left_file_opens (drop_open (pending_behind s o) o) (s.opened o).file
    ∙ ap (without o) (pending_opens s (s.opened o).file (deletes_on_close (s.opened o).options))

pub leave_rows : (s : Server) (o : ℕ) → (leave_open s o).opened ≡ s.opened
leave_rows s o = (left_beside s o).opened

chain_leaves : (s0 d s : Server) (origin : Origin) (o : ℕ) → has o s.opens ≡ true → (s.opened o).persistent ≡ false
    → Chain s0 d s → Chain s0 (fold_from d (leave_records s origin o)) (leave_open s o)
unfolding leave_records
chain_leaves s0 d s origin o in_it plain h =
    let f = (s.opened o).file in let b = deletes_on_close (s.opened o).options in let behind =
    drop_open (pending_behind s o) o in let gone = left_file_records behind origin f in
    let first = if b && not (s.delete_pending f) then DeleteRecord origin f true ∷ [] else [] in
    let pended = chain_pending s0 d s origin o f b (s.delete_pending f) refl (h.there o in_it) (h.not_root o in_it) h in
    let drops = chain_drops s0 (fold_from d first) (pending_if s f b) o (ap (λ (rows : ℕ → Open). (rows o).persistent)
    (pending_rows s f b) ∙ plain) pended in
    let all = records_apart (pending_records s origin o) (shut_records s origin o) gone
    ∙ ap (λ rs. rs ++ gone) (plain_records d s origin o plain) in
    subst (λ x. Chain s0 x (leave_open s o)) (sym (ap (fold_from d) all ∙ fold_append d first gone))
    (chain_settled s0 (fold_from d first) behind origin f drops)

first_apart : (o p : ℕ) (os : List ℕ) → distinct (o ∷ os) ≡ true → has p os ≡ true → p ≢ o
first_apart o p os h e q = cc (front (has o os) (distinct os) h, subst (λ x. has x os ≡ true) q e)
  where
    front : (a b : Bool) → (not a && b) ≡ true → a ≡ false
    front a b t = grind arith

rest_distinct : (o : ℕ) (os : List ℕ) → distinct (o ∷ os) ≡ true → distinct os ≡ true
rest_distinct o os h = back (has o os) (distinct os) h
  where
    back : (a b : Bool) → (not a && b) ≡ true → b ≡ true
    back a b t = grind arith

chain_all : (s0 d s : Server) (origin : Origin) (os : List ℕ) → distinct os ≡ true
    → ((p : ℕ) → has p os ≡ true → has p s.opens ≡ true × (s.opened p).persistent ≡ false) → Chain s0 d s
    → Chain s0 (fold_from d (leave_all_records s origin os)) (leave_all s os)
unfolding leave_all leave_all_records fold_from
chain_all s0 d s origin [] apart each h = h
chain_all s0 d s origin (o ∷ os) apart each h =
    let head = each o (at_head o os) in
    subst (λ x. Chain s0 x (leave_all (leave_open s o) os))
    (sym (fold_append d (leave_records s origin o) (leave_all_records (leave_open s o) origin os)))
    (chain_all s0 (fold_from d (leave_records s origin o)) (leave_open s o) origin os (rest_distinct o os apart)
    (λ p e. let old = each p (in_tail p o os e) in (
      ap (has p) (leave_opens s o) ∙ still_has p o s.opens (first_apart o p os apart e) old.0,
      ap (λ (rows : ℕ → Open). (rows p).persistent) (leave_rows s o) ∙ old.1,
    ))
    (chain_leaves s0 d s origin o head.0 head.1 h))

-- ---- the end

plain_of_facts : (s : Server) (session : ℕ) (p : ℕ) → has p (plain_of s session) ≡ true → has p s.opens ≡ true
    × (s.opened p).persistent ≡ false
plain_of_facts s session p e = let t = plain_facts s session s.opens p e in
    (t.0, back (is_at session (s.session_of_open p)) (s.opened p).persistent t.1)
  where
    back : (a b : Bool) → (a && not b) ≡ true → b ≡ false
    back a b q = grind arith

-- what a session's end needs of the server
pub record Ender (s : Server) : Type 0 where
  pub listed : Listed s
  pub ascending : Ascending s
  pub files : OpenFiles s
  pub not_root : (o : ℕ) → s.standing o ≡ true → deletes_on_close (s.opened o).options ≡ true → (s.opened o).file ≢ 0

chain_begins : (d s : Server) → Ender s → Mirrors d s → Chain s d s
unfolding exists
chain_begins d s e h =
    record {
      files = h.0;
      opens = h.1;
      counts = h.2;
      directory = refl;
      subset = λ p i.
          let t = both_of (has p s.opens) (s.opened p).persistent (sym (has_persistent s.opened p s.opens)
          ∙ ap (has p) (sym h.1.opens) ∙ i) in
          (t.0, h.1.opened p (both (s.standing p) (s.opened p).persistent (sym (e.listed p) ∙ t.0) t.1), t.1);
      there = λ p i. e.files p (sym (e.listed p) ∙ i);
      not_root = λ p i. e.not_root p (sym (e.listed p) ∙ i);
    }
  where
    both_of : (a b : Bool) → (a && b) ≡ true → a ≡ true × b ≡ true
    both_of a b q = (grind arith, grind arith)

end_stays : (standing : Bool) (persistent at : Bool) → ((standing && not (at && not persistent)) && persistent) ≡ (standing && persistent)
end_stays standing persistent at = grind arith

kept_staying : (s : Server) (p : ℕ → Bool) (session : ℕ) (x : Option ℕ) → ((o : ℕ) → leaves s session o ≡ true → p o
    ≡ false) → kept_guid p (guid_staying s session x) ≡ kept_guid p x
kept_staying s p session None h = refl
kept_staying s p session (Some o) h = let here = h o in grind arith

leaves_plain : (s : Server) (session o : ℕ) → leaves s session o ≡ true → staying s.standing s.opened o ≡ false
leaves_plain s session o e = by (is_at session (s.session_of_open o)) (s.opened o).persistent (s.standing o) e
  where
    by : (a b c : Bool) → (a && not b) ≡ true → (c && b) ≡ false
    by a b c q = grind arith

ended_opens : (d s : Server) (session now : ℕ) (is_quiet : Bool) → RecordOpens d s → RecordOpens d (end_session s session now is_quiet)
ended_opens d s session now is_quiet h =
    let p = staying s.standing s.opened in let q = staying (λ o. s.standing o && not (leaves s session o)) s.opened in
    let each = λ (o : ℕ). end_stays (s.standing o) (s.opened o).persistent (is_at session (s.session_of_open o)) in
    let same = ext q p each in
    record {
      opens = h.opens ∙ sym (persistent_staying s session s.opens);
      standing = λ o. h.standing o ∙ sym (each o);
      opened = λ o e. h.opened o (sym (each o) ∙ e);
      lock_sequences = λ o i e. h.lock_sequences o i (sym (each o) ∙ e);
      by_guid = subst (λ (t : ℕ → Bool). (c g : ℕ) → d.by_guid c g ≡ kept_guid t (guid_staying s session (s.by_guid c g))) (sym same)
          (λ c g. h.by_guid c g ∙ sym (kept_staying s p session (s.by_guid c g) (leaves_plain s session)));
      ranges = subst (λ (t : ℕ → Bool). (f : ℕ) → d.ranges f ≡ kept_ranges t (ranges_staying s session (s.ranges f))) (sym same)
          (λ f. h.ranges f ∙ sym (kept_ranges_staying s p session (s.ranges f) (leaves_plain s session)));
    }

pub ends : (d s : Server) (origin : Origin) (session now : ℕ) (is_quiet : Bool) → Ender s → Mirrors d s
    → Mirrors (fold_from d (end_records s origin session is_quiet)) (end_session s session now is_quiet)
unfolding end_records fold_from
ends d s origin session now true e h = (h.0, ended_opens d s session now true h.1, h.2)
ends d s origin session now false e h =
    let c = chain_all s d s origin (plain_of s session)
    (plain_distinct s session s.opens (all_distinct s.opens e.ascending)) (plain_of_facts s session)
    (chain_begins d s e h) in
    (c.files, ended_opens (fold_from d (leave_all_records s origin (plain_of s session))) s session now false c.opens, c.counts)

pub ends_if_named : (d s : Server) (origin : Origin) (session : Option ℕ) (now : ℕ) (is_quiet : Bool) → Ender s
    → Mirrors d s → Mirrors (fold_from d (records_if_named s origin session is_quiet))
    (end_if_named s now session is_quiet)
unfolding fold_from
ends_if_named d s origin None now is_quiet e h = h
ends_if_named d s origin (Some session) now is_quiet e h = ends d s origin session now is_quiet e h

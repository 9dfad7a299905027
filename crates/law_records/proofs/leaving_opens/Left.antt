-- One more open that leaves.
use Rattle.std.proofs.Common.{◌≡◌, ℕ, ◌+◌, ◌==◌, Bool, true, false, not, ◌&&◌, ◌||◌, if◌then◌else◌, List, [], ◌∷◌, ◌++◌, length}
use Rattle.std.proofs.Common.{◌≤◌, refl, sym, ap, subst, ◌∙◌, arith, eqb-true}
use Rattle.spec_exchange.specs.Table.{put, without, is_filled}
use Rattle.spec_exchange.specs.Commands.{deletes_on_close}
use Rattle.spec_exchange.specs.State.{Server, Entry, Open, Origin, CloseRecord, DeleteRecord, RemoveRecord}
use Rattle.spec_exchange.specs.Files.{root, exists, exists_in, is_full_directory, is_directory, path_of, set_delete_pending, without_file}
use Rattle.spec_exchange.specs.Opens.{opens_in, opens_of, file_has_open, drop_open, goes, without_gone, pending_behind}
use Rattle.spec_exchange.specs.Opens.{leave_open, leave_records, pending_records, shut_records, gone_records}
use Rattle.spec_exchange.specs.Opens.{is_kept_back, left_file, left_file_records}
use Rattle.law_server.specs.tables.Fits.{Fits}
use Rattle.law_server.proofs.tables.Logic.{either}
use Rattle.law_server.proofs.tables.Lists.{exists-without}
use Rattle.law_server.proofs.tables.Leaving.{leave_open_keeps, unopened_of}
use Rattle.law_records.specs.leaving_opens.Since.{LeftSince, LeftBehind, entries_left, was_pending, deletes_at_close}
use Rattle.law_records.specs.leaving_opens.Since.{is_last, is_last_full, goes_with, goes_alone, is_kept_alone, is_kept_with, parted_records}
use Rattle.law_records.specs.leaving_opens.Since.{left_records, records_behind}
use Rattle.law_records.proofs.leaving_opens.Opens.{one_less, same_others, last_by_count}
use Rattle.law_records.proofs.leaving_opens.Entries.{none_gone, maybe_gone, there_before}

pub begun : (left : ℕ → ℕ) (marked went : ℕ → Bool) (s : Server) → ((f : ℕ) → left f ≡ 0) → ((f : ℕ) → marked f ≡ false)
    → ((f : ℕ) → went f ≡ false) → Fits s → LeftSince left marked went s s
begun left marked went s l m w i = record {
  fits = i;
  stood = λ o e. e;
  opens = λ f e. no_more (length (opens_of s f)) (left f) (l f);
  pending = λ f e h. unmarked (s.delete_pending f) (marked f) (m f);
  entries = sym (none_gone went s.entries w);
  directory = refl;
  opened = refl;
}
  where
    no_more : (n k : ℕ) → k ≡ 0 → n ≡ n + k
    no_more n k e = omega (arith, e)

    unmarked : (b c : Bool) → c ≡ false → b ≡ (b || c)
    unmarked true c e = refl
    unmarked false c e = sym e

-- ---- the state behind an open that left

abbrev dropped : Server → ℕ → Server
dropped u o = drop_open (pending_behind u o) o

gone_opens : (s : Server) (f : ℕ) → (without_gone s f).opens ≡ s.opens
gone_opens s f = either (λ (t : Server). t.opens ≡ s.opens) (goes s f) _ _ (λ _. refl) (λ _. refl)

gone_opened : (s : Server) (f : ℕ) → (without_gone s f).opened ≡ s.opened
gone_opened s f = either (λ (t : Server). t.opened ≡ s.opened) (goes s f) _ _ (λ _. refl) (λ _. refl)

gone_directory : (s : Server) (f : ℕ) → (without_gone s f).directory ≡ s.directory
gone_directory s f = either (λ (t : Server). t.directory ≡ s.directory) (goes s f) _ _ (λ _. refl) (λ _. refl)

gone_pending : (s : Server) (f : ℕ) → (without_gone s f).delete_pending ≡ s.delete_pending
gone_pending s f = either (λ (t : Server). t.delete_pending ≡ s.delete_pending) (goes s f) _ _ (λ _. refl) (λ _. refl)

gone_entries : (s : Server) (f : ℕ) → (without_gone s f).entries ≡ (if goes s f then without_file f s.entries else s.entries)
gone_entries s f = by (goes s f)
  where
    by : (b : Bool) → (if b then record s { entries = without_file f s.entries } else s).entries
        ≡ (if b then without_file f s.entries else s.entries)
    by true = refl
    by false = refl

-- the file's mark is cleared, or the file goes
parted_opens : (s : Server) (f : ℕ) → (left_file s f).opens ≡ s.opens
parted_opens s f = either (λ (t : Server). t.opens ≡ s.opens) (is_kept_back s f) _ _ (λ _. refl) (λ _. gone_opens s f)

parted_opened : (s : Server) (f : ℕ) → (left_file s f).opened ≡ s.opened
parted_opened s f = either (λ (t : Server). t.opened ≡ s.opened) (is_kept_back s f) _ _ (λ _. refl) (λ _. gone_opened s f)

parted_directory : (s : Server) (f : ℕ) → (left_file s f).directory ≡ s.directory
parted_directory s f = either (λ (t : Server). t.directory ≡ s.directory) (is_kept_back s f) _ _ (λ _. refl) (λ _. gone_directory s f)

kept_facts : (m r e o u : Bool) → (m && (not r && (e && (not o && u)))) ≡ true → o ≡ false × u ≡ true
kept_facts m r e o u h = (grind arith, grind arith)

kept_unopened : (s : Server) (f : ℕ) → is_kept_back s f ≡ true → file_has_open s f ≡ false
unfolding is_kept_back
kept_unopened s f k = (kept_facts (s.delete_pending f) (f == root) (exists s f) (file_has_open s f) (is_full_directory s f) k).0

kept_full : (s : Server) (f : ℕ) → is_kept_back s f ≡ true → is_full_directory s f ≡ true
unfolding is_kept_back
kept_full s f k = (kept_facts (s.delete_pending f) (f == root) (exists s f) (file_has_open s f) (is_full_directory s f) k).1

full_stays : (m r e o u : Bool) → u ≡ true → (m && (not r && (e && (not o && not u)))) ≡ false
full_stays m r e o u h = grind arith

-- a full directory doesn't go
full_kept : (s : Server) (f : ℕ) → is_full_directory s f ≡ true → goes s f ≡ false
unfolding goes
full_kept s f h = full_stays (s.delete_pending f) (f == root) (exists s f) (file_has_open s f) (is_full_directory s f) h

parted_entries : (s : Server) (f : ℕ) → (left_file s f).entries ≡ (if goes s f then without_file f s.entries else s.entries)
parted_entries s f = by (is_kept_back s f) refl
  where
    by : (b : Bool) → is_kept_back s f ≡ b → (if b then set_delete_pending s f false else without_gone s f).entries
        ≡ (if goes s f then without_file f s.entries else s.entries)
    by true k = rw (full_kept s f (kept_full s f k)) refl
    by false k = gone_entries s f

-- a file that has an open is delete pending as before
parted_pending : (s : Server) (f q : ℕ) → file_has_open s q ≡ true → (left_file s f).delete_pending q ≡ s.delete_pending q
parted_pending s f q h = by (is_kept_back s f) refl
  where
    other : (c : Bool) → (q == f) ≡ c → is_kept_back s f ≡ true → put s.delete_pending f false q ≡ s.delete_pending q
    other true e k = absurd (let n = subst (λ (z : ℕ). file_has_open s z ≡ false) (sym (eqb-true q f e)) (kept_unopened s f k) in cc)
    other false e k = rw e refl

    by : (b : Bool) → is_kept_back s f ≡ b → (if b then set_delete_pending s f false else without_gone s f).delete_pending q
        ≡ s.delete_pending q
    by true k = other (q == f) refl k
    by false k = ap (λ (p : ℕ → Bool). p q) (gone_pending s f)

-- what marking the file leaves alone
marked_opens : (u : Server) (o : ℕ) → (dropped u o).opens ≡ without o u.opens
marked_opens u o = either (λ (t : Server). (drop_open t o).opens ≡ without o u.opens)
    (deletes_on_close (u.opened o).options) _ _ (λ _. refl) (λ _. refl)

marked_opened : (u : Server) (o : ℕ) → (dropped u o).opened ≡ u.opened
marked_opened u o = either (λ (t : Server). (drop_open t o).opened ≡ u.opened) (deletes_on_close (u.opened o).options) _
    _ (λ _. refl) (λ _. refl)

marked_directory : (u : Server) (o : ℕ) → (dropped u o).directory ≡ u.directory
marked_directory u o = either (λ (t : Server). (drop_open t o).directory ≡ u.directory)
    (deletes_on_close (u.opened o).options) _ _ (λ _. refl) (λ _. refl)

marked_entries : (u : Server) (o : ℕ) → (dropped u o).entries ≡ u.entries
marked_entries u o = either (λ (t : Server). (drop_open t o).entries ≡ u.entries)
    (deletes_on_close (u.opened o).options) _ _ (λ _. refl) (λ _. refl)

marked_pending : (u : Server) (o : ℕ) → (dropped u o).delete_pending
    ≡ (if deletes_on_close (u.opened o).options then put u.delete_pending (u.opened o).file true else u.delete_pending)
marked_pending u o = by (deletes_on_close (u.opened o).options)
  where
    by : (b : Bool) → (drop_open (if b then set_delete_pending u (u.opened o).file true else u) o).delete_pending
        ≡ (if b then put u.delete_pending (u.opened o).file true else u.delete_pending)
    by true = refl
    by false = refl

pub left_opens : (u : Server) (o : ℕ) → (leave_open u o).opens ≡ without o u.opens
left_opens u o = parted_opens (dropped u o) (u.opened o).file ∙ marked_opens u o

pub left_opened : (u : Server) (o : ℕ) → (leave_open u o).opened ≡ u.opened
left_opened u o = parted_opened (dropped u o) (u.opened o).file ∙ marked_opened u o

pub left_directory : (u : Server) (o : ℕ) → (leave_open u o).directory ≡ u.directory
left_directory u o = parted_directory (dropped u o) (u.opened o).file ∙ marked_directory u o

gone_standing : (s : Server) (f : ℕ) → (without_gone s f).standing ≡ s.standing
gone_standing s f = either (λ (t : Server). t.standing ≡ s.standing) (goes s f) _ _ (λ _. refl) (λ _. refl)

parted_standing : (s : Server) (f : ℕ) → (left_file s f).standing ≡ s.standing
parted_standing s f = either (λ (t : Server). t.standing ≡ s.standing) (is_kept_back s f) _ _ (λ _. refl) (λ _. gone_standing s f)

marked_standing : (u : Server) (o : ℕ) → (dropped u o).standing ≡ put u.standing o false
marked_standing u o = either (λ (t : Server). (drop_open t o).standing ≡ put u.standing o false)
    (deletes_on_close (u.opened o).options) _ _ (λ _. refl) (λ _. refl)

pub left_standing : (u : Server) (o : ℕ) → (leave_open u o).standing ≡ put u.standing o false
left_standing u o = parted_standing (dropped u o) (u.opened o).file ∙ marked_standing u o

stood_before : (u : Server) (o p : ℕ) → (leave_open u o).standing p ≡ true → u.standing p ≡ true
stood_before u o p e = by (p == o) (subst (λ (f : ℕ → Bool). f p ≡ true) (left_standing u o) e)
  where
    by : (b : Bool) → (if b then false else u.standing p) ≡ true → u.standing p ≡ true
    by true i = absurd (cc)
    by false i = i

-- ---- whether its file goes

pending_at : (d : Bool) (f : ℕ) (p : ℕ → Bool) → (if d then put p f true else p) f ≡ (p f || d)
pending_at true f p = let e : (f == f) ≡ true = grind arith in rw e (turned (p f))
  where
    turned : (b : Bool) → true ≡ (b || true)
    turned true = refl
    turned false = refl
pending_at false f p = turned (p f)
  where
    turned : (b : Bool) → b ≡ (b || false)
    turned true = refl
    turned false = refl

pending_other : (d : Bool) (f q : ℕ) (p : ℕ → Bool) → (q == f) ≡ false → (if d then put p f true else p) q ≡ p q
pending_other true f q p e = rw e refl
pending_other false f q p e = refl

full_same : (s t : Server) (f : ℕ) → t.entries ≡ s.entries → t.directory ≡ s.directory → is_full_directory t f ≡ is_full_directory s f
unfolding is_full_directory is_directory path_of
full_same s t f e d = rw (e, d) refl

pub exists_same : (s t : Server) (f : ℕ) → t.entries ≡ s.entries → exists t f ≡ exists s f
unfolding exists
exists_same s t f e = ap (λ (v : List Entry). (f == root) || exists_in v f) e

pub held : (s : Server) (f : ℕ) (opened : ℕ → Open) (os : List ℕ) → s.opened ≡ opened → s.opens ≡ os → opens_of s f ≡ opens_in opened os f
held s f opened os e h = rw (e, h) refl

-- each test of whether a file goes, as one told before
tests : (p r x h d : Bool) (p2 n d2 : Bool) → p ≡ p2 → x ≡ true → not h ≡ n → d ≡ d2
    → (p && (r && (x && (not h && not d)))) ≡ (p2 && (r && (n && not d2)))
tests p r x h d p2 n d2 a b c e = rw (a, b, c, e) refl

-- a file of an open that stands has one
open_has : (u : Server) (o : ℕ) → Fits u → u.standing o ≡ true → file_has_open u (u.opened o).file ≡ true
open_has u o i stands = by (file_has_open u (u.opened o).file) refl
  where
    by : (b : Bool) → file_has_open u (u.opened o).file ≡ b → b ≡ true
    by true e = refl
    by false e = absurd (let n = unopened_of u (u.opened o).file e i.listed o stands in grind arith)

full_tests : (p r x h d : Bool) (p2 n d2 : Bool) → p ≡ p2 → x ≡ true → not h ≡ n → d ≡ d2
    → (p && (r && (x && (not h && d)))) ≡ (p2 && (r && (n && d2)))
full_tests p r x h d p2 n d2 a b c e = rw (a, b, c, e) refl

goes_is : (left : ℕ → ℕ) (marked went : ℕ → Bool) (s u : Server) (o : ℕ) → LeftSince left marked went s u → u.standing o
    ≡ true → exists s (u.opened o).file ≡ true
    → goes (dropped u o) (u.opened o).file ≡ goes_with left marked s u (u.opened o)
unfolding goes file_has_open
goes_is left marked went s u o a stands there =
    let f = (u.opened o).file in
    let w = dropped u o in
    let in_u : exists u f ≡ true = a.fits.open_files o stands in
    let fewer : opens_of w f ≡ opens_in u.opened (without o u.opens) f = held w f u.opened (without o u.opens)
    (marked_opened u o) (marked_opens u o) in
    tests (w.delete_pending f) (not (f == root)) (exists w f) _ (is_full_directory w f) (was_pending marked s f
    || deletes_at_close (u.opened o)) _ (is_full_directory u f)
    (ap (λ (p : ℕ → Bool). p f) (marked_pending u o) ∙ pending_at (deletes_at_close (u.opened o)) f u.delete_pending
    ∙ ap (λ (b : Bool). b || deletes_at_close (u.opened o)) (a.pending f in_u (open_has u o a.fits stands)))
    (exists_same u w f (marked_entries u o) ∙ in_u)
    (last_by_count (opens_of w f) (length (opens_of s f)) (left f)
    (a.opens f there ∙ ap (λ (n : ℕ). n + left f) (one_less u.opened o u.opens a.fits.ascending (a.fits.listed o
    ∙ stands) ∙ ap (λ (v : List ℕ). length v + 1) (sym fewer))))
    (full_same u w f (marked_entries u o) (marked_directory u o))

kept_is : (left : ℕ → ℕ) (marked went : ℕ → Bool) (s u : Server) (o : ℕ) → LeftSince left marked went s u → u.standing o
    ≡ true → exists s (u.opened o).file ≡ true
    → is_kept_back (dropped u o) (u.opened o).file ≡ is_kept_with left marked s u (u.opened o)
unfolding is_kept_back file_has_open
kept_is left marked went s u o a stands there =
    let f = (u.opened o).file in
    let w = dropped u o in
    let in_u : exists u f ≡ true = a.fits.open_files o stands in
    let fewer : opens_of w f ≡ opens_in u.opened (without o u.opens) f = held w f u.opened (without o u.opens)
    (marked_opened u o) (marked_opens u o) in
    full_tests (w.delete_pending f) (not (f == root)) (exists w f) _ (is_full_directory w f) (was_pending marked s f
    || deletes_at_close (u.opened o)) _ (is_full_directory u f)
    (ap (λ (p : ℕ → Bool). p f) (marked_pending u o) ∙ pending_at (deletes_at_close (u.opened o)) f u.delete_pending
    ∙ ap (λ (b : Bool). b || deletes_at_close (u.opened o)) (a.pending f in_u (open_has u o a.fits stands)))
    (exists_same u w f (marked_entries u o) ∙ in_u)
    (last_by_count (opens_of w f) (length (opens_of s f)) (left f)
    (a.opens f there ∙ ap (λ (n : ℕ). n + left f) (one_less u.opened o u.opens a.fits.ascending (a.fits.listed o
    ∙ stands) ∙ ap (λ (v : List ℕ). length v + 1) (sym fewer))))
    (full_same u w f (marked_entries u o) (marked_directory u o))

-- ---- what is there behind it was there before

was_there : (s u : Server) (went : ℕ → Bool) (f : ℕ) → u.entries ≡ entries_left went s.entries → exists u f ≡ true → exists s f ≡ true
unfolding exists
was_there s u went f e h = by (f == root) (subst (λ (v : List Entry). ((f == root) || exists_in v f) ≡ true) e h)
  where
    by : (b : Bool) → (b || exists_in (entries_left went s.entries) f) ≡ true → (b || exists_in s.entries f) ≡ true
    by true i = refl
    by false i = there_before went f s.entries i

stayed : (u v : Server) (goes : Bool) (f q : ℕ) → v.entries ≡ (if goes then without_file f u.entries else u.entries)
    → exists v q ≡ true → exists u q ≡ true
unfolding exists
stayed u v goes f q e h = by goes (q == root) (subst (λ (es : List Entry). ((q == root) || exists_in es q) ≡ true) e h)
  where
    less : (b c : Bool) → (if b then false else c) ≡ true → c ≡ true
    less true c i = absurd (cc)
    less false c i = i

    by : (b c : Bool) → (c || exists_in (if b then without_file f u.entries else u.entries) q) ≡ true → (c || exists_in u.entries q) ≡ true
    by b true i = refl
    by true false i = less (f == q) (exists_in u.entries q) (sym (exists-without f u.entries q) ∙ i)
    by false false i = i

-- ---- its records

record_parts : (persistent deletes_at_close was was2 kept kept2 goes goes2 : Bool) (origin : Origin) (o f : ℕ) → was ≡ was2
    → kept ≡ kept2 → goes ≡ goes2
    → ((if not persistent && (deletes_at_close && not was) then DeleteRecord origin f true ∷ [] else [])
    ++ ((if persistent then CloseRecord origin o ∷ [] else []) ++ (if kept then DeleteRecord origin f false ∷ []
    else (if goes then RemoveRecord origin f ∷ [] else []))))
    ≡ left_records persistent origin o f (deletes_at_close && not was2) ++ parted_records kept2 goes2 origin f
record_parts true deletes_at_close was was2 kept kept2 goes goes2 origin o f e k g = rw (k, g) refl
record_parts false deletes_at_close was was2 kept kept2 goes goes2 origin o f e k g = rw (e, k, g) refl

records_told : (u : Server) (o : ℕ) (origin : Origin) (was kept2 goes2 : Bool) → u.delete_pending (u.opened o).file ≡ was
    → is_kept_back (dropped u o) (u.opened o).file ≡ kept2 → goes (dropped u o) (u.opened o).file ≡ goes2
    → leave_records u origin o ≡ left_records (u.opened o).persistent origin o (u.opened o).file (deletes_at_close (u.opened o)
    && not was) ++ parted_records kept2 goes2 origin (u.opened o).file
unfolding leave_records pending_records shut_records left_file_records gone_records
records_told u o origin was kept2 goes2 e k g =
    record_parts (u.opened o).persistent (deletes_at_close (u.opened o)) (u.delete_pending (u.opened o).file) was
    (is_kept_back (dropped u o) (u.opened o).file) kept2 (goes (dropped u o) (u.opened o).file) goes2 origin o (u.opened o).file e k g

-- ---- a file that has an open

pub has_same : (s t : Server) (q : ℕ) → t.opens ≡ s.opens → t.opened ≡ s.opened → file_has_open s q ≡ file_has_open t q
unfolding file_has_open
has_same s t q a b = rw (a, b) refl

has_other : (u v : Server) (o q : ℕ) → v.opens ≡ without o u.opens → v.opened ≡ u.opened → ((u.opened o).file == q) ≡ false
    → file_has_open v q ≡ true → file_has_open u q ≡ true
unfolding file_has_open
has_other u v o q a b n h = ap is_filled (sym (same_others u.opened o q u.opens n))
    ∙ (ap is_filled (sym (held v q u.opened (without o u.opens) b a)) ∙ h)

-- ---- all of it

absorbed : (a b d : Bool) → ((a || b) || d) ≡ (a || ((a || b) || d))
absorbed true b d = refl
absorbed false b d = refl

moved : (m n k l : ℕ) → k ≡ l + 1 → m ≡ k + n → m ≡ l + (n + 1)
moved m n k l e h = omega (arith, e, h)

at_row : (left more : ℕ → ℕ) (marked went marks gone : ℕ → Bool) (s u : Server) (o : ℕ) (origin : Origin)
    → LeftSince left marked went s u → u.standing o ≡ true
    → LeftBehind left marked went more marks gone s u (u.opened o)
    → LeftSince more marks gone s (leave_open u o) × (leave_records u origin o ≡ records_behind left marked s u origin o (u.opened o))
at_row left more marked went marks gone s u o origin a stands b = (
  record {
    fits = leave_open_keeps u o stands a.fits;
    stood = λ p e. a.stood p (stood_before u o p e);
    opens = λ q e. opens_at q (q == f) refl e;
    pending = λ q e has. pending_to q (q == f) refl has
        (stayed u v (goes w f) f q (parted_entries w f ∙ ap (λ (es : List Entry). if goes w f then without_file f es else
        es) (marked_entries u o)) e);
    entries =
        parted_entries w f ∙ ap (λ (es : List Entry). if goes w f then without_file f es else es) (marked_entries u o ∙ a.entries)
        ∙ ap (λ (g : Bool). if g then without_file f (entries_left went s.entries) else entries_left went s.entries) goes_told
        ∙ maybe_gone went gone f (goes_with left marked s u row) s.entries b.gone_is;
    directory = left_directory u o ∙ a.directory;
    opened = left_opened u o ∙ a.opened;
  },
  records,
)
  where
    row : Open
    row = u.opened o

    f : ℕ
    f = (u.opened o).file

    w : Server
    w = dropped u o

    v : Server
    v = leave_open u o

    in_u : exists u f ≡ true
    in_u = a.fits.open_files o stands

    in_s : exists s f ≡ true
    in_s = was_there s u went f a.entries in_u

    goes_told : goes w f ≡ goes_with left marked s u row
    goes_told = goes_is left marked went s u o a stands in_s

    kept_told : is_kept_back w f ≡ is_kept_with left marked s u row
    kept_told = kept_is left marked went s u o a stands in_s

    opens_left : (q : ℕ) → opens_of v q ≡ opens_in u.opened (without o u.opens) q
    opens_left q = held v q u.opened (without o u.opens) (left_opened u o) (left_opens u o)

    opens_at : (q : ℕ) (c : Bool) → (q == f) ≡ c → exists s q ≡ true → length (opens_of s q) ≡ length (opens_of v q) + more q
    opens_at q true e h =
        rw (opens_left q, b.more_is q, e)
        (moved (length (opens_of s q)) (left q) (length (opens_of u q)) _
        (subst (λ (z : ℕ). length (opens_of u z) ≡ length (opens_in u.opened (without o u.opens) z) + 1) (sym (eqb-true q f e))
        (one_less u.opened o u.opens a.fits.ascending (a.fits.listed o ∙ stands))) (a.opens q h))
    opens_at q false e h =
        let other : ((u.opened o).file == q) ≡ false = grind arith in
        rw (opens_left q, b.more_is q, e, same_others u.opened o q u.opens other) (a.opens q h)

    -- a file that has an open behind it had one before
    has_w : (q : ℕ) → file_has_open v q ≡ true → file_has_open w q ≡ true
    has_w q h = has_same w v q (parted_opens w f) (parted_opened w f) ∙ h

    has_u : (q : ℕ) (c : Bool) → (q == f) ≡ c → file_has_open v q ≡ true → file_has_open u q ≡ true
    has_u q true e h = subst (λ (z : ℕ). file_has_open u z ≡ true) (sym (eqb-true q f e)) (open_has u o a.fits stands)
    has_u q false e h = has_other u v o q (left_opens u o) (left_opened u o) (grind arith) h

    pending_to : (q : ℕ) (c : Bool) → (q == f) ≡ c → file_has_open v q ≡ true → exists u q ≡ true
        → v.delete_pending q ≡ (s.delete_pending q || marks q)
    pending_to q true e has h =
        rw (b.marks_is q, e)
        (parted_pending w f q (has_w q has) ∙ ap (λ (p : ℕ → Bool). p q) (marked_pending u o)
        ∙ subst (λ (z : ℕ). (if deletes_at_close row then put u.delete_pending f true else u.delete_pending) z
        ≡ (u.delete_pending z || deletes_at_close row)) (sym (eqb-true q f e)) (pending_at (deletes_at_close row) f u.delete_pending)
        ∙ ap (λ (p : Bool). p || deletes_at_close row) (a.pending q h (has_u q true e has))
        ∙ absorbed (s.delete_pending q) (marked q) (deletes_at_close row))
    pending_to q false e has h =
        rw (b.marks_is q, e)
        (parted_pending w f q (has_w q has) ∙ ap (λ (p : ℕ → Bool). p q) (marked_pending u o) ∙ pending_other (deletes_at_close row) f q
        u.delete_pending e ∙ a.pending q h (has_u q false e has))

    records : leave_records u origin o ≡ records_behind left marked s u origin o row
    records = records_told u o origin (was_pending marked s f) (is_kept_with left marked s u row) (goes_with left marked s u row)
        (a.pending f in_u (open_has u o a.fits stands)) kept_told goes_told

pub left_one : (left more : ℕ → ℕ) (marked went marks gone : ℕ → Bool) (s u : Server) (o : ℕ) (origin : Origin)
    → LeftSince left marked went s u → u.standing o ≡ true
    → LeftBehind left marked went more marks gone s u (s.opened o)
    → LeftSince more marks gone s (leave_open u o) × (leave_records u origin o ≡ records_behind left marked s u origin o (s.opened o))
left_one left more marked went marks gone s u o origin a stands =
    subst (λ (r : Open). LeftBehind left marked went more marks gone s u r → LeftSince more marks gone s
    (leave_open u o) × (leave_records u origin o ≡ records_behind left marked s u origin o r))
    (ap (λ (g : ℕ → Open). g o) a.opened) (at_row left more marked went marks gone s u o origin a stands)

pub file_there : (left : ℕ → ℕ) (marked went : ℕ → Bool) (s u : Server) (o : ℕ) → LeftSince left marked went s u → u.standing o ≡ true
    → (exists u (s.opened o).file ≡ true) × (exists s (s.opened o).file ≡ true)
    × (left (s.opened o).file + 1 ≤ length (opens_of s (s.opened o).file))
file_there left marked went s u o a stands =
    subst (λ (r : Open). (exists u r.file ≡ true) × (exists s r.file ≡ true) × (left r.file + 1 ≤ length (opens_of s r.file)))
    (ap (λ (g : ℕ → Open). g o) a.opened) (
      in_u,
      in_s,
      at_least (length (opens_of s (u.opened o).file)) (length (opens_of u (u.opened o).file))
          (length (opens_in u.opened (without o u.opens) (u.opened o).file))
          (left (u.opened o).file) (a.opens (u.opened o).file in_s) (one_less u.opened o u.opens a.fits.ascending
          (a.fits.listed o ∙ stands)),
    )
  where
    in_u : exists u (u.opened o).file ≡ true
    in_u = a.fits.open_files o stands

    in_s : exists s (u.opened o).file ≡ true
    in_s = was_there s u went (u.opened o).file a.entries in_u

    at_least : (m n l k : ℕ) → m ≡ n + k → n ≡ l + 1 → k + 1 ≤ m
    at_least m n l k e h = omega (arith, e, h)

-- ---- an open that leaves alone

pub alone : (s : Server) (o : ℕ) → Fits s → s.standing o ≡ true → goes (drop_open (pending_behind s o) o) (s.opened o).file
    ≡ goes_alone s (s.opened o)
alone s o i stands =
    goes_is (λ f. 0) (λ f. false) (λ f. false) s s o (begun (λ f. 0) (λ f. false) (λ f. false) s (λ f. refl) (λ f. refl)
    (λ f. refl) i) stands (i.open_files o stands)
    ∙ ap (λ (b : Bool). (b || deletes_at_close (s.opened o)) && is_last (λ f. 0) s s (s.opened o).file)
    (no_mark (s.delete_pending (s.opened o).file))
  where
    no_mark : (b : Bool) → (b || false) ≡ b
    no_mark true = refl
    no_mark false = refl

pub kept_alone : (s : Server) (o : ℕ) → Fits s → s.standing o ≡ true
    → is_kept_back (drop_open (pending_behind s o) o) (s.opened o).file ≡ is_kept_alone s (s.opened o)
kept_alone s o i stands =
    kept_is (λ f. 0) (λ f. false) (λ f. false) s s o (begun (λ f. 0) (λ f. false) (λ f. false) s (λ f. refl) (λ f. refl)
    (λ f. refl) i) stands (i.open_files o stands)
    ∙ ap (λ (b : Bool). (b || deletes_at_close (s.opened o)) && is_last_full (λ f. 0) s s (s.opened o).file)
    (no_mark (s.delete_pending (s.opened o).file))
  where
    no_mark : (b : Bool) → (b || false) ≡ b
    no_mark true = refl
    no_mark false = refl

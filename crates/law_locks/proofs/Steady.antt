-- On a full journal an answer whose records fit there owes none, or no more than that an open left or a file went. So an open
-- that can't leave, since it owes a record of its file, goes on being such a one.
use Rattle.spec_exchange.specs.Effects.{opens_of_tree}
use Rattle.std.proofs.Common.{eqb-true, ◌≡◌, inl, inr, ℕ, ◌+◌, ◌==◌, ◌≤◌, ◌<◌, Bool, true, false, not, ◌&&◌, ◌||◌, List, [], ◌∷◌, ◌++◌}
use Rattle.std.proofs.Common.{Option, Some, None, refl, arith, sym, ◌∙◌, ap, subst}
use Rattle.spec_exchange.specs.Table.{has, is_filled, without}
use Rattle.spec_exchange.specs.Commands.{CreateRequest, deletes_on_close, Element}
use Rattle.spec_exchange.specs.State.{Server, Message, Open, Record, Origin, Entry, DeleteRecord}
use Rattle.spec_exchange.specs.Files.{root, exists, exists_in, is_directory, is_full_directory, has_below, path_of, path_in}
use Rattle.spec_exchange.specs.Opens.{is_kept_back, drop_open, leave_open, pending_behind, file_has_open, opens_in}
use Rattle.spec_exchange.specs.Opens.{leave_records, pending_records, shut_records, gone_records, left_file_records}
use Rattle.spec_exchange.specs.CheckOpen.{file_of}
use Rattle.spec_exchange.specs.Records.{fits, entry_bytes, records_size, record_size, lower_limit, origin_of}
use Rattle.spec_exchange.specs.Effects.{apply, change_records, create_records, lock_records, leave_all_records}
use Rattle.spec_exchange.specs.Effects.{end_records, records_if_named, plain_of}
use Rattle.spec_exchange.specs.Verdict.{Verdict, Refuse, Give, KeepRefusal, Repeat, Attach, Make, TurnDown, Tell, Show}
use Rattle.spec_exchange.specs.Verdict.{KeepSlot, PutRanges, Alter, CloseOpen, Challenge, ChallengeBinding, Begin, Join}
use Rattle.spec_exchange.specs.Verdict.{EndSession, AddTree, DropTree, Change, PutBytes, PutEnd, PutBasic}
use Rattle.spec_exchange.specs.Verdict.{PutDeletePending, PutPath, PutNothing}
use Rattle.law_server.specs.tables.Fits.{Limit}
use Rattle.law_server.proofs.tables.Logic.{either, both, front_of, back_of, other_off}
use Rattle.law_server.proofs.tables.Lists.{has-without, none-open}
use Rattle.law_locks.specs.Locks.{kept_with, is_alone, is_stuck}
use Rattle.law_locks.proofs.Calm.{Steady, Calm, Steadies, Ending, calm_of, calm_either, is_end, all_ends}
use Rattle.law_locks.proofs.Rooms.{is_big, big_size, mark_size, more_bytes, fits_bytes, filled_behind, Why, stuck_why, stuck_near, stuck_kept, alone_of_kept}

-- ---- records are big

unfoldable pub all_big : List Record → Bool
all_big [] = true
all_big (r ∷ rs) = is_big r && all_big rs

all_sizes : (rs : List Record) → all_big rs ≡ true → all_ends rs ≡ false → 30 ≤ records_size rs
unfolding all_big all_ends records_size
all_sizes [] b e = absurd (cc)
all_sizes (r ∷ rs) b e = by (is_end r) refl
    (λ q. all_sizes rs (back_of (is_big r) (all_big rs) b) (other_off (is_end r) (all_ends rs) e q))
  where
    by : (c : Bool) → is_end r ≡ c → (is_end r ≡ true → 30 ≤ records_size rs) → 30 ≤ record_size r + records_size rs
    by true q more = let rest = more q in omega (arith, rest)
    by false q more = let one = mark_size r (front_of (is_big r) (all_big rs) b) q in omega (arith, one)

-- on a full journal at most an end fits
pub ends_of : (s : Server) (front rs : List Record) → Limit s → all_big rs ≡ true → fits s (front ++ rs) ≡ true
    → lower_limit < s.journal + 35 → Ending rs (front ++ rs)
unfolding all_big records_size
ends_of s front [] whole big e l = inl refl
ends_of s front (r ∷ rs) whole big e l = by (all_ends (r ∷ rs)) refl
  where
    room : s.journal + entry_bytes (front ++ r ∷ rs) ≤ lower_limit
    room = fits_bytes s (front ++ r ∷ rs) whole (filled_behind front rs r) e

    by : (c : Bool) → all_ends (r ∷ rs) ≡ c → Ending (r ∷ rs) (front ++ r ∷ rs)
    by true q = let m = more_bytes front rs r in let one = big_size r (front_of (is_big r) (all_big rs) big) in
        inr (q, omega (arith, m, one))
    by false q = let m = more_bytes front rs r in let z = all_sizes (r ∷ rs) big q in absurd (omega (arith, room, m, z, l))

big_more : (xs ys : List Record) → all_big xs ≡ true → all_big ys ≡ true → all_big (xs ++ ys) ≡ true
unfolding all_big
big_more [] ys f g = g
big_more (x ∷ xs) ys f g = both (is_big x) (all_big (xs ++ ys)) (front_of (is_big x) (all_big xs) f)
    (big_more xs ys (back_of (is_big x) (all_big xs) f) g)

big_create : (s : Server) (m : Message) (r : CreateRequest) (found : Option ℕ) (action now : ℕ)
    → all_big (create_records s m r found action now) ≡ true
unfolding create_records all_big is_big
big_create s m r found action now = grind arith

big_lock : (s : Server) (m : Message) (o index number status : ℕ) (es : List Element)
    → all_big (lock_records s m o index number status es) ≡ true
unfolding lock_records all_big is_big
big_lock s m o index number status es = grind arith

big_change : (m : Message) (f now : ℕ) (change : Change) → all_big (change_records m f now change) ≡ true
unfolding change_records all_big is_big
big_change m f now (PutBytes at bytes) = refl
big_change m f now (PutEnd size) = refl
big_change m f now (PutBasic basic) = refl
big_change m f now (PutDeletePending flag) = refl
big_change m f now (PutPath replaced path) = refl
big_change m f now PutNothing = refl

big_pending : (s : Server) (origin : Origin) (o : ℕ) → all_big (pending_records s origin o) ≡ true
unfolding pending_records all_big is_big
big_pending s origin o = grind arith

big_shut : (s : Server) (origin : Origin) (o : ℕ) → all_big (shut_records s origin o) ≡ true
unfolding shut_records all_big is_big
big_shut s origin o = grind arith

big_gone : (s : Server) (origin : Origin) (f : ℕ) → all_big (gone_records s origin f) ≡ true
unfolding gone_records all_big is_big
big_gone s origin f = grind arith

big_left : (s : Server) (origin : Origin) (f : ℕ) → all_big (left_file_records s origin f) ≡ true
unfolding left_file_records all_big is_big
big_left s origin f = either (λ rs. all_big rs ≡ true) (is_kept_back s f) (DeleteRecord origin f false ∷ []) (gone_records s origin f)
    (λ _. refl) (λ _. big_gone s origin f)

pub big_leave : (s : Server) (origin : Origin) (o : ℕ) → all_big (leave_records s origin o) ≡ true
unfolding leave_records
big_leave s origin o = big_more (pending_records s origin o) _ (big_pending s origin o)
    (big_more (shut_records s origin o) _ (big_shut s origin o) (big_left (drop_open (pending_behind s o) o)
    origin (s.opened o).file))

big_all : (s : Server) (origin : Origin) (os : List ℕ) → all_big (leave_all_records s origin os) ≡ true
unfolding leave_all_records all_big
big_all s origin [] = refl
big_all s origin (o ∷ os) = big_more (leave_records s origin o) _ (big_leave s origin o) (big_all (leave_open s o) origin os)

big_end : (s : Server) (origin : Origin) (session : ℕ) (quiet : Bool) → all_big (end_records s origin session quiet) ≡ true
unfolding end_records all_big
big_end s origin session true = refl
big_end s origin session false = big_all s origin (plain_of s session)

pub big_named : (s : Server) (origin : Origin) (named : Option ℕ) (quiet : Bool) → all_big (records_if_named s origin named quiet) ≡ true
unfolding all_big
big_named s origin None quiet = refl
big_named s origin (Some session) quiet = big_end s origin session quiet

pub big_apply : (t : Server) (m : Message) (now : ℕ) (v : Verdict) → all_big (apply t m now v).records ≡ true
unfolding all_big
big_apply t m now (Refuse status) = refl
big_apply t m now (Give body) = refl
big_apply t m now (KeepRefusal guid status) = refl
big_apply t m now (Repeat o r) = refl
big_apply t m now (Attach o r) = refl
big_apply t m now (Make r found action) = big_create t m r found action now
big_apply t m now (TurnDown o status) = refl
big_apply t m now (Tell o body) = refl
big_apply t m now (Show o last body) = refl
big_apply t m now (KeepSlot o index number status elements) = big_lock t m o index number status elements
big_apply t m now (PutRanges o index number ranges elements) = big_lock t m o index number 0 elements
big_apply t m now (Alter o change body) = big_change m (file_of t o) now change
big_apply t m now (CloseOpen o body) = big_leave t (origin_of m) o
big_apply t m now Challenge = refl
big_apply t m now (ChallengeBinding session) = refl
big_apply t m now (Begin session user previous r is_quiet) = big_named t (origin_of m) previous is_quiet
big_apply t m now (Join session) = refl
big_apply t m now (EndSession session is_quiet) = big_end t (origin_of m) session is_quiet
big_apply t m now (AddTree pipes) = refl
big_apply t m now DropTree = big_all t (origin_of m) (opens_of_tree t m.session_id m.tree_id)

-- ---- an open that is stuck stays so

abbrev kept_by : (ℕ → Bool) → List Entry → (ℕ → Bool) → (ℕ → Open) → List ℕ → ℕ → ℕ → Bool
kept_by delete_pending entries directory opened opens o f =
    delete_pending f && (not (f == root)
    && (((f == root) || exists_in entries f) && (not (is_filled (opens_in opened (without o opens) f))
    && (((f == root) || directory f) && has_below entries (path_in entries f)))))

kept_is : (s : Server) (o : ℕ) → deletes_on_close (s.opened o).options ≡ false → kept_with s o
    ≡ kept_by s.delete_pending s.entries s.directory s.opened s.opens o (s.opened o).file
unfolding kept_with is_kept_back exists file_has_open is_full_directory is_directory path_of
kept_is s o d = either (λ z. is_kept_back (drop_open z o) (s.opened o).file ≡ kept_by s.delete_pending s.entries s.directory
    s.opened s.opens o (s.opened o).file) (deletes_on_close (s.opened o).options) _ _ (λ e. absurd (grind arith))
    (λ _. refl)

none_filled : (opened : ℕ → Open) (os : List ℕ) (f : ℕ) → ((p : ℕ) → has p os ≡ true → ((opened p).file == f) ≡ false)
    → is_filled (opens_in opened os f) ≡ false
unfolding opens_in is_filled
none_filled opened [] f none = refl
none_filled opened (o ∷ os) f none =
    let h = none o (grind arith) in let r = none_filled opened os f (λ p e. none p (grind arith)) in grind arith

parts5 : (a b c d e : Bool) → (a && (b && (c && (not d && e)))) ≡ true → a ≡ true × b ≡ true × c ≡ true × d ≡ false × e ≡ true
parts5 a b c d e h = (grind arith, grind arith, grind arith, grind arith, grind arith)

all5 : (a b c d e : Bool) → a ≡ true → b ≡ true → c ≡ true → d ≡ false → e ≡ true → (a && (b && (c && (not d && e)))) ≡ true
all5 a b c d e p q r s t = grind arith

parts3 : (a b d : Bool) → (a && (b && not d)) ≡ true → a ≡ true × b ≡ true × d ≡ false
parts3 a b d h = (grind arith, grind arith, grind arith)

all3 : (a b d : Bool) → a ≡ true → b ≡ true → d ≡ false → (a && (b && not d)) ≡ true
all3 a b d p q r = grind arith

not_file : (x f : ℕ) → ((x ≡ f) → true ≡ false) → (x == f) ≡ false
not_file x f no1 = elim (x == f) as (λ b. x == f ≡ b → (x == f) ≡ false) [
  | true ↦ λ e. e ∙ no1 (eqb-true x f e)
  | false ↦ λ e. e
] refl

lone : (t u : Server) (o : ℕ) → Calm t u → (u.opened o).file ≡ (t.opened o).file → t.delete_pending (t.opened o).file
    ≡ true → is_filled (opens_in t.opened (without o t.opens) (t.opened o).file) ≡ false
    → is_filled (opens_in u.opened (without o u.opens) (t.opened o).file) ≡ false
lone t u o st row mk none =
    none_filled u.opened (without o u.opens) (t.opened o).file (λ p h.
    not_file (u.opened p).file (t.opened o).file (λ same.
    let hw = has-without p o u.opens in
    let hu : has p u.opens ≡ true = grind arith in
    let apart : (o == p) ≡ false = grind arith in
    let x = st.others p (t.opened o).file hu same mk in
    let hv = has-without p o t.opens in
    let ht : has p (without o t.opens) ≡ true = grind arith in
    let n = none-open t.opened (without o t.opens) (t.opened o).file p none ht in grind arith))

alone_on : (t u : Server) (o : ℕ) → Calm t u → u.opened o ≡ t.opened o → is_alone t o ≡ true → is_alone u o ≡ true
unfolding is_alone
alone_on t u o c row a =
    let f = (t.opened o).file in
    let p3 = parts3 (t.delete_pending f) (not (f == root)) (is_filled (opens_in t.opened (without o t.opens) f)) a in
    let rowf : (u.opened o).file ≡ f = ap (λ r. r.file) row in
    subst (λ z. (u.delete_pending z && (not (z == root) && not (is_filled (opens_in u.opened (without o u.opens) z)))) ≡ true) (sym rowf)
    (all3 (u.delete_pending f) (not (f == root)) (is_filled (opens_in u.opened (without o u.opens) f))
    (c.delete_pending f p3.0) p3.1 (lone t u o c rowf p3.0 p3.2))

kept_on : (t u : Server) (o : ℕ) → Steady t u → u.opened o ≡ t.opened o → deletes_on_close (t.opened o).options
    ≡ false → kept_with t o ≡ true → kept_with u o ≡ true
kept_on t u o st row d g =
    let f = (t.opened o).file in
    let gt : kept_by t.delete_pending t.entries t.directory t.opened t.opens o f ≡ true = sym (kept_is t o d) ∙ g in
    let p5 = parts5 (t.delete_pending f) (not (f == root)) ((f == root) || exists_in t.entries f)
    (is_filled (opens_in t.opened (without o t.opens) f))
    (((f == root) || t.directory f) && has_below t.entries (path_in t.entries f)) gt in
    let rowf : (u.opened o).file ≡ f = ap (λ r. r.file) row in
    let du : deletes_on_close (u.opened o).options ≡ false = subst (λ r. deletes_on_close r.options ≡ false) (sym row) d in
    kept_is u o du ∙ subst (λ z. kept_by u.delete_pending u.entries u.directory u.opened u.opens o z ≡ true) (sym rowf)
    (all5 (u.delete_pending f) (not (f == root)) ((f == root) || exists_in u.entries f)
    (is_filled (opens_in u.opened (without o u.opens) f))
    (((f == root) || u.directory f) && has_below u.entries (path_in u.entries f))
    (st.delete_pending f ∙ p5.0) p5.1 (subst (λ z. ((f == root) || exists_in z f) ≡ true) (sym st.entries) p5.2)
    (lone t u o (calm_of t u st) rowf p5.0 p5.3)
    (subst (λ z. (((f == root) || u.directory f) && has_below z (path_in z f)) ≡ true) (sym st.entries)
    (subst (λ z. (((f == root) || z) && has_below t.entries (path_in t.entries f)) ≡ true)
    (sym (st.directory f)) p5.4)))

pub stuck_on : (t u : Server) (o : ℕ) → t.journal ≤ u.journal → (lower_limit < t.journal + 35 → Steadies t u)
    → u.opened o ≡ t.opened o → deletes_on_close (t.opened o).options ≡ false → is_stuck t o ≡ true → is_stuck u o ≡ true
stuck_on t u o grown steadies row d e = by (stuck_why t o e)
  where
    wider : (n : ℕ) → lower_limit < n + 34 → lower_limit < n + 35
    wider n l = omega (arith, l)

    more : (n m k : ℕ) → n ≤ m → lower_limit < n + k → lower_limit < m + k
    more n m k g l = omega (arith, g, l)

    kept : kept_with t o ≡ true → lower_limit < t.journal + 35 → Steadies t u → is_stuck u o ≡ true
    kept k l (inl st) = stuck_kept u o (more t.journal u.journal 35 grown l) (kept_on t u o st row d k)
    kept k l (inr c) = stuck_near u o c.1 (alone_on t u o c.0 row (alone_of_kept t o d k))

    by : Why t o → is_stuck u o ≡ true
    by (inl x) = stuck_near u o (more t.journal u.journal 34 grown x.0)
        (alone_on t u o (calm_either t u (steadies (wider t.journal x.0))) row x.1)
    by (inr x) = kept x.1 x.0 (steadies x.0)

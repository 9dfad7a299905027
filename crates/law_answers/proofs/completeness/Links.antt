-- On every run the server's connections are those whose ends it holds, each once.
use Rattle.std.proofs.lemmas.Bool.{eqb-false}
use Rattle.std.proofs.lemmas.Bool.Decides.{nat_tests}
use Rattle.std.proofs.Common.{eqb-true, ◌≡◌, ◌≢◌, ℕ, ◌+◌, ◌≤◌, ◌<◌, ◌==◌, nat_lt, Bool, true, false, not, ◌&&◌, ◌||◌}
use Rattle.std.proofs.Common.{if◌then◌else◌, List, [], ◌∷◌, ◌++◌, length, refl, arith, sym, subst, ◌∙◌, ap, Option}
use Rattle.std.proofs.Common.{Some, None, zero, suc}
use Rattle.spec_exchange.specs.Table.{put, without}
use Rattle.spec_exchange.specs.Status.{success}
use Rattle.spec_exchange.specs.Commands.{all_lock, all_unlock}
use Rattle.spec_exchange.specs.State.{Server, Accept, Answer, Record, Entry, NewOpen, EpochRecord, VersionRecord}
use Rattle.spec_exchange.specs.State.{CreateRecord, WriteRecord, EndRecord, BasicRecord, DeleteRecord, RenameRecord}
use Rattle.spec_exchange.specs.State.{RemoveRecord, LockRecord, CloseRecord, ExpireRecord}
use Rattle.spec_exchange.specs.Ranges.{RangeAnswer, Stands, Denied}
use Rattle.spec_exchange.specs.Fold.{fold, fold_from, with_record, sweep, restore, created_file, lock_granted}
use Rattle.spec_exchange.specs.Fold.{lock_recorded, shut_recorded, nothing_yet}
use Rattle.spec_exchange.specs.Opens.{without_gone, pending_behind}
use Rattle.spec_exchange.specs.Step.{step, add_expired_guid, max_expired_guids}
use Rattle.spec_exchange.specs.Client.{Client}
use Rattle.spec_exchange.specs.State.{Reply}
use Rattle.spec_exchange.specs.Dialogs.{DialogStep, GoesOn, Accepts, Binds, Readies, Refuses, dialog_step}
use Rattle.spec_exchange.specs.Network.{Token, ForDialog, ForOp, ForAttach, may_take_reply, closed_by, take_reply}
use Rattle.spec_exchange.specs.Network.{took_by, dialog_took, behind_reply, max_channel}
use Rattle.spec_exchange.specs.ClientStep.{client_after, act, Pushes, Act, Nothing, Sends, Asks, CloseChannel, CloseChannels, AllSettled}
use Rattle.spec_exchange.specs.Network.{World, Event, Submit, Open, Push, Serve, Take, Cut, Drop, Restart, Crash, Wait}
use Rattle.spec_exchange.specs.Network.{Finish, Conn, Sent, Received, happens, changed, later, may_open, may_serve}
use Rattle.spec_exchange.specs.Network.{fresh, opened_by, server_off, client_off, say_down, behind_front, pushed_by}
use Rattle.spec_exchange.specs.Network.{answer, serve_front, absorb_front, cut_by, restarted}
use Rattle.law_server.proofs.tables.Logic.{either, front_of, back_of, not_true}
use Rattle.law_answers.proofs.completeness.Events.{take_server}
use Rattle.law_answers.proofs.completeness.Carried.{Low}
use Rattle.law_answers.proofs.completeness.Server.{Same, same_so, pending_set, gone, slotted, answered, accepted, left_by}

-- ---- a fold holds no connection

swept : (s : Server) (es : List Entry) → Same s (sweep s es)
unfolding sweep
swept s [] = record { connections = refl }
swept s (e ∷ es) = let i = swept (without_gone s e.file) es in same_so s (without_gone s e.file)
    (sweep (without_gone s e.file) es) (gone s e.file) i

unchanged : (s : Server) → Same s s
unchanged s = record { connections = refl }

restored : (s : Server) (f action : ℕ) (n : Option NewOpen) → Same s (restore s f action n)
restored s f action None = record { connections = refl }
restored s f action (Some n) = record { connections = refl }

created : (s : Server) (action f : ℕ) (path : List ℕ) (attributes : ℕ) (is_dir : Bool) (time : ℕ)
    → Same s (created_file s action f path attributes is_dir time)
created s action f path attributes is_dir time =
    either (λ t. Same s t) (action == 2) _ _ (λ _. record { connections = refl })
    (λ _. either (λ t. Same s t) (action == 1) s _ (λ _. unchanged s) (λ _. record { connections = refl }))

shut : (s : Server) (o : ℕ) → Same s (shut_recorded s o)
shut s o = same_so s (pending_behind s o) (shut_recorded s o) (pending_set s o) (record { connections = refl })

granted : (s : Server) (o index number : ℕ) (a : RangeAnswer) → Same s (lock_granted s o index number a)
granted s o index number (Denied status) = record { connections = refl }
granted s o index number (Stands ranges) = same_so s _ (lock_granted s o index number (Stands ranges)) (record {
  connections = refl;
}) (slotted _ o index number success)

locked : (s : Server) (o index number status : ℕ) (elements : _) → Same s (lock_recorded s o index number status elements)
locked s o index number status elements =
    either (λ t. Same s t) (not (all_lock elements || all_unlock elements)) s _ (λ _. unchanged s)
    (λ _. either (λ t. Same s t) (status == success) _ _ (λ _. granted s o index number _)
    (λ _. slotted s o index number status))

expired_added : (s : Server) (client : ℕ) (g : Option ℕ) → Same s (add_expired_guid s client g)
expired_added s client None = record { connections = refl }
expired_added s client (Some g) = record { connections = refl }

by_record : (s : Server) (r : Record) → (with_record s r).connections ≡ s.connections
by_record s (EpochRecord number) = either (λ (t : Server). t.connections ≡ s.connections) (number == s.epoch + 1) _ s
    (λ _. (swept s s.entries).connections) (λ _. refl)
by_record s (VersionRecord number) = either (λ (t : Server). t.connections ≡ s.connections)
    ((number == 2) && (s.version == 1)) _ s (λ _. refl) (λ _. refl)
by_record s (CreateRecord origin action f path attributes is_dir time opened) =
    either (λ (t : Server). t.connections ≡ s.connections) _ _ s
    (λ _. (restored (created_file s action f path attributes is_dir time) f action opened).connections
    ∙ (created s action f path attributes is_dir time).connections) (λ _. refl)
by_record s (WriteRecord origin f at time bytes) = either (λ (t : Server). t.connections ≡ s.connections) _ _ s (λ _. refl) (λ _. refl)
by_record s (EndRecord origin f size time) = either (λ (t : Server). t.connections ≡ s.connections) _ _ s (λ _. refl) (λ _. refl)
by_record s (BasicRecord origin f basic) = either (λ (t : Server). t.connections ≡ s.connections) _ _ s (λ _. refl) (λ _. refl)
by_record s (DeleteRecord origin f flag) = either (λ (t : Server). t.connections ≡ s.connections) _ _ s (λ _. refl) (λ _. refl)
by_record s (RenameRecord origin f replaced path) = either (λ (t : Server). t.connections ≡ s.connections) _ _ s (λ _. refl) (λ _. refl)
by_record s (RemoveRecord origin f) = either (λ (t : Server). t.connections ≡ s.connections) _ _ s (λ _. refl) (λ _. refl)
by_record s (LockRecord origin o index number status elements) = either (λ (t : Server). t.connections ≡ s.connections)
    _ _ s (λ _. (locked s o index number status elements).connections) (λ _. refl)
by_record s (CloseRecord origin o) = either (λ (t : Server). t.connections ≡ s.connections) (s.standing o) _ s
    (λ _. (shut s o).connections) (λ _. refl)
by_record s (ExpireRecord origin o) =
    either (λ (t : Server). t.connections ≡ s.connections) (s.standing o && nat_lt s.expired_count max_expired_guids) _ s
    (λ _. (expired_added (shut_recorded s o) (s.opened o).client_guid (s.opened o).create_guid).connections
    ∙ (shut s o).connections) (λ _. refl)

folds : (s : Server) (rs : List Record) → (fold_from s rs).connections ≡ s.connections
unfolding fold_from
folds s [] = refl
folds s (r ∷ rs) = folds (with_record s r) rs ∙ by_record s r

pub none_folded : (rs : List Record) → (fold rs).connections ≡ []
none_folded rs = folds nothing_yet rs

-- ---- how often a number stands in a list

unfoldable pub bit : Bool → ℕ
bit true = 1
bit false = 0

unfoldable pub tally : ℕ → List ℕ → ℕ
tally k [] = 0
tally k (x ∷ xs) = bit (x == k) + tally k xs

tally_push : (q : ℕ) (xs : List ℕ) (k : ℕ) → tally q (xs ++ k ∷ []) ≡ tally q xs + bit (k == q)
unfolding tally
tally_push q [] k = omega arith
tally_push q (x ∷ xs) k = let i = tally_push q xs k in omega (arith, i)

tally_without : (q k : ℕ) (xs : List ℕ) → tally q (without k xs) ≡ (if q == k then 0 else tally q xs)
unfolding tally bit
tally_without q k [] = either (λ n. 0 ≡ n) (q == k) 0 0 (λ _. refl) (λ _. refl)
tally_without q k (x ∷ xs) = let i = tally_without q k xs in grind (arith, nat_tests)

sum : (ℕ → ℕ) → ℕ → ℕ
sum f zero = 0
sum f (suc n) = f n + sum f n

sum_none : (n x : ℕ) → n ≤ x → sum (λ k. bit (x == k)) n ≡ 0
unfolding sum bit
sum_none zero x l = refl
sum_none (suc n) x l = let i = sum_none n x (omega (arith, l)) in zero_more (x == n) (sum (λ k. bit (x == k)) n) (apart l) i
  where
    apart : suc n ≤ x → x == n ≡ false
    apart l = grind (arith, nat_tests)

    zero_more : (b : Bool) (m : ℕ) → b ≡ false → m ≡ 0 → bit b + m ≡ 0
    zero_more b m e i = grind arith

sum_one : (n x : ℕ) → x < n → sum (λ k. bit (x == k)) n ≡ 1
unfolding sum bit
sum_one zero x l = absurd (omega (arith, l))
sum_one (suc n) x l =
    let more = λ (h : x < n). sum_one n x h in
    elim (x == n) as (λ b. x == n ≡ b → sum (λ k. bit (x == k)) (suc n) ≡ 1) [
      | true ↦ λ e. one (x == n) (sum (λ k. bit (x == k)) n) e (sum_none n x (same (eqb-true x n e)))
      | false ↦ λ e. let d = eqb-false x n e in none (x == n) (sum (λ k. bit (x == k)) n) e (more (omega (arith, d, l)))
    ] refl
  where
    same : x ≡ n → n ≤ x
    same e = omega (arith, e)

    one : (b : Bool) (m : ℕ) → b ≡ true → m ≡ 0 → bit b + m ≡ 1
    one b m e i = grind arith

    none : (b : Bool) (m : ℕ) → b ≡ false → m ≡ 1 → bit b + m ≡ 1
    none b m e i = grind arith

sum_more : (f g : ℕ → ℕ) (n : ℕ) → sum (λ k. f k + g k) n ≡ sum f n + sum g n
unfolding sum
sum_more f g zero = refl
sum_more f g (suc n) = let i = sum_more f g n in omega (arith, i)

sum_nothing : (n : ℕ) → sum (λ k. 0) n ≡ 0
unfolding sum
sum_nothing zero = refl
sum_nothing (suc n) = let i = sum_nothing n in omega (arith, i)

itself_there : (x m : ℕ) → 1 ≤ bit (x == x) + m
unfolding bit
itself_there x m = grind (arith, nat_tests)

sum_length : (xs : List ℕ) (n : ℕ) → ((k : ℕ) → 1 ≤ tally k xs → k < n) → sum (λ k. tally k xs) n ≡ length xs
unfolding tally
sum_length [] n h = sum_nothing n
sum_length (x ∷ xs) n h =
    let i = sum_length xs n (λ k l. h k (omega (arith, l))) in let a = sum_more (λ k. bit (x == k)) (λ k. tally k xs) n
    in let b = sum_one n x (h x (itself_there x (tally x xs))) in
    total (sum (λ k. bit (x == k) + tally k xs) n) (sum (λ k. bit (x == k)) n) (sum (λ k. tally k xs) n) (length xs) a b i
  where
    total : (s a b n : ℕ) → s ≡ a + b → a ≡ 1 → b ≡ n → s ≡ suc n
    total s a b n e f g = omega (arith, e, f, g)

sum_most : (f : ℕ → ℕ) (n : ℕ) → ((k : ℕ) → f k ≤ 1) → sum f n ≤ n
unfolding sum
sum_most f zero h = omega arith
sum_most f (suc n) h = let i = sum_most f n h in let l = h n in omega (arith, i, l)

sum_below : (f : ℕ → ℕ) (n j : ℕ) → ((k : ℕ) → f k ≤ 1) → j < n → f j ≡ 0 → sum f n < n
unfolding sum
sum_below f zero j h l e = absurd (omega (arith, l))
sum_below f (suc n) j h l e =
    let more = λ (m : j < n). sum_below f n j h m e in
    elim (j == n) as (λ b. j == n ≡ b → sum f (suc n) < suc n) [
      | true ↦ λ q. here (f n) (sum f n) (ap f (sym (eqb-true j n q)) ∙ e) (sum_most f n h)
      | false ↦ λ q. let d = eqb-false j n q in there (f n) (sum f n) (h n) (more (omega (arith, d, l)))
    ] refl
  where
    here : (a s : ℕ) → a ≡ 0 → s ≤ n → a + s < suc n
    here a s e l = omega (arith, e, l)

    there : (a s : ℕ) → a ≤ 1 → s < n → a + s < suc n
    there a s e l = omega (arith, e, l)

-- ---- the connections of a world

abbrev pub Links : Server → (ℕ → Conn) → Type 0
Links s f = (k : ℕ) → tally k s.connections ≡ bit (f k).server_open

bit_low : (b : Bool) → bit b ≤ 1
unfolding bit
bit_low true = omega arith
bit_low false = omega arith

bit_on : (b : Bool) → 1 ≤ bit b → b ≡ true
unfolding bit
bit_on true l = refl
bit_on false l = absurd (omega (arith, l))

pub room_for : (s : Server) (f : ℕ → Conn) (k : ℕ) → Links s f → Low f → k < 256 → (f k).server_open ≡ false → length s.connections < 256
unfolding bit
room_for s f k h low l off =
    let n = sum_length s.connections 256 (λ q m. low.server q (bit_on (f q).server_open (subst (λ x. 1 ≤ x) (h q) m))) in
    let b = sum_below (λ q. tally q s.connections) 256 k
    (λ q. subst (λ x. x ≤ 1) (sym (h q)) (bit_low (f q).server_open)) l (h k ∙ ap bit off) in omega (arith, n, b)

-- ---- every event

links_same : (s t : Server) (f g : ℕ → Conn) → t.connections ≡ s.connections
    → ((q : ℕ) → (g q).server_open ≡ (f q).server_open) → Links s f → Links t g
links_same s t f g e same h q = ap (λ xs. tally q xs) e ∙ h q ∙ ap bit (sym (same q))

put_server : (f : ℕ → Conn) (k : ℕ) (d : Conn) → d.server_open ≡ (f k).server_open → (q : ℕ) → (put f k d q).server_open ≡ (f q).server_open
put_server f k d e q = grind arith

opens_link : (w : World) (k : ℕ) (A : Answer) → Links w.server w.conns → (w.conns k).server_open ≡ false
    → A.reply.status ≡ success → A.server.connections ≡ w.server.connections ++ k ∷ [] → Links (opened_by w k A).server
    (opened_by w k A).conns
unfolding bit
opens_link w k A h off status e q =
    ap (λ xs. tally q xs) e ∙ tally_push q w.server.connections k
    ∙ elim (q == k) as (λ b. q == k ≡ b → tally q w.server.connections + bit (k == q)
    ≡ bit (if b then fresh w.client k (A.reply.status == success) else w.conns q).server_open) [
      | true ↦ λ t. here (tally q w.server.connections) (A.reply.status == success) (k == q)
          (h q ∙ ap (λ n. bit (w.conns n).server_open) (eqb-true q k t) ∙ ap bit off) (is A.reply.status status)
          (other q k (eqb-true q k t))
      | false ↦ λ t. there (tally q w.server.connections) (k == q) (bit (w.conns q).server_open) (h q) (apart q k (eqb-false q k t))
    ] refl
  where
    here : (n : ℕ) (a b : Bool) → n ≡ bit false → a ≡ true → b ≡ true → n + bit b ≡ bit a
    here n a b e f g = grind arith

    there : (n : ℕ) (b : Bool) (m : ℕ) → n ≡ m → b ≡ false → n + bit b ≡ m
    there n b m e f = grind arith

    is : (n : ℕ) → n ≡ success → (n == success) ≡ true
    is n e = grind (arith, nat_tests)

    other : (q k : ℕ) → q ≡ k → (k == q) ≡ true
    other q k e = grind (arith, nat_tests)

    apart : (q k : ℕ) → q ≢ k → (k == q) ≡ false
    apart q k e = by (k == q) refl
      where
        by : (b : Bool) → k == q ≡ b → (k == q) ≡ false
        by true t = absurd (e (sym (eqb-true k q t)))
        by false t = t

served_link : (w : World) (k : ℕ) (xs : List Sent) → Links w.server w.conns → Links (serve_front w k xs).server (serve_front w k xs).conns
served_link w k [] h = h
served_link w k (x ∷ rest) h =
    let f = put w.conns k (behind_front (w.conns k) rest) in let y : Received = record {
      token = x.token;
      reply = (answer w x).reply;
      place = w.log.places;
    } in
    links_same w.server (answer w x).server w.conns (put f k (say_down (f k) y)) (answered w.server w.moment x.message x.message.command)
    (λ q. put_server f k (say_down (f k) y) (said (f k) y) q ∙ put_server w.conns k (behind_front (w.conns k) rest) refl q) h
  where
    said : (c : Conn) (y : Received) → (say_down c y).server_open ≡ c.server_open
    said c y = either (λ (d : Conn). d.server_open ≡ c.server_open) c.client_open (record c { down = c.down ++ y ∷ [] })
        c (λ _. refl) (λ _. refl)

pushed_server : (w : World) (k : ℕ) (c : Client) (x : Act) (q : ℕ) → ((pushed_by w k c x).conns q).server_open ≡ (w.conns q).server_open
pushed_server w k c Nothing q = refl
pushed_server w k c (Sends g) q = put_server w.conns k _ refl q
pushed_server w k c (Asks g) q = put_server w.conns k _ refl q
pushed_server w k c CloseChannel q = refl
pushed_server w k c CloseChannels q = refl
pushed_server w k c AllSettled q = refl

pushed_same : (w : World) (k : ℕ) (c : Client) (x : Act) → (pushed_by w k c x).server ≡ w.server
pushed_same w k c Nothing = refl
pushed_same w k c (Sends g) = refl
pushed_same w k c (Asks g) = refl
pushed_same w k c CloseChannel = refl
pushed_same w k c CloseChannels = refl
pushed_same w k c AllSettled = refl

cut_server : (w : World) (k q : ℕ) (x : Act) → ((cut_by w k x).conns q).server_open ≡ (w.conns q).server_open
cut_server w k q Nothing = put_server w.conns k _ refl q
cut_server w k q (Sends g) = put_server w.conns k _ refl q
cut_server w k q (Asks g) = put_server w.conns k _ refl q
cut_server w k q CloseChannel = put_server w.conns k _ refl q
cut_server w k q CloseChannels = refl
cut_server w k q AllSettled = put_server w.conns k _ refl q

dropped_link : (w : World) (k : ℕ) → Links w.server w.conns → Links (changed w (Drop k)).server (changed w (Drop k)).conns
unfolding bit
dropped_link w k h q =
    ap (λ xs. tally q xs) (left_by w.server w.moment k) ∙ tally_without q k w.server.connections
    ∙ elim (q == k) as (λ b. q == k ≡ b → (if b then 0 else tally q w.server.connections)
    ≡ bit (if b then server_off (w.conns k) else w.conns q).server_open) [ true ↦ λ t. refl | false ↦ λ t. h q ]
    refl

nothing_linked : (rs : List Record) (f : ℕ → Conn) → Links (fold rs) (λ q. server_off (f q))
unfolding bit tally
nothing_linked rs f q = ap (λ xs. tally q xs) (none_folded rs)

absorbed_off : (w : World) (k : ℕ) (xs : List Sent) → Links (restarted (absorb_front w k xs)).server (restarted (absorb_front w k xs)).conns
unfolding bit tally
absorbed_off w k [] q = ap (λ ys. tally q ys) (none_folded _)
absorbed_off w k (x ∷ rest) q = ap (λ ys. tally q ys) (none_folded _)

crashed_off : (w : World) (k : ℕ) (kept : Bool) → Links (changed w (Crash k kept)).server (changed w (Crash k kept)).conns
crashed_off w k true = absorbed_off w k (w.conns k).up
crashed_off w k false = absorbed_off w k []

take_same : (w : World) (k : ℕ) → (happens w (Take k)).server ≡ w.server
take_same w k = either (λ (v : World). v.server ≡ w.server) (may_take_reply w k) (later (changed w (Take k)) 1) w
    (λ _. list_same w k (w.conns k).down) (λ _. refl)
  where
    act_same : (w : World) (k : ℕ) (x : Act) → (closed_by w k x).server ≡ w.server
    act_same w k Nothing = refl
    act_same w k (Sends g) = refl
    act_same w k (Asks g) = refl
    act_same w k CloseChannel = refl
    act_same w k CloseChannels = refl
    act_same w k AllSettled = refl

    dialog_same : (w : World) (k : ℕ) (r : Reply) (d : DialogStep) → (dialog_took w k r d).server ≡ w.server
    dialog_same w k r (GoesOn s) = refl
    dialog_same w k r Accepts = refl
    dialog_same w k r Binds = act_same w k _
    dialog_same w k r Readies = act_same w k _
    dialog_same w k r (Refuses status) = act_same w k CloseChannel

    list_same : (w : World) (k : ℕ) (ys : List Received) → (take_reply w k ys).server ≡ w.server
    list_same w k [] = refl
    list_same w k (y ∷ rest) = by y.token
      where
        by : (t : Token) → (took_by (behind_reply w k rest) k y.reply y.place t).server ≡ w.server
        by ForDialog = dialog_same (behind_reply w k rest) k y.reply (dialog_step (w.client.stage k) y.reply.status)
        by (ForOp g) = act_same (behind_reply w k rest) k _
        by (ForAttach g) = act_same (behind_reply w k rest) k _

cut_same : (w : World) (k : ℕ) (x : Act) → (cut_by w k x).server ≡ w.server
cut_same w k Nothing = refl
cut_same w k (Sends g) = refl
cut_same w k (Asks g) = refl
cut_same w k CloseChannel = refl
cut_same w k CloseChannels = refl
cut_same w k AllSettled = refl

Linked : World → Type 0
Linked w = Links w.server w.conns

off_of : (w : World) (k : ℕ) → may_open w k ≡ true → k < 256 × (w.conns k).server_open ≡ false
off_of w k m = (
  grind (arith, nat_tests),
  not_true (w.conns k).server_open (front_of (not (w.conns k).server_open) _
      (back_of (not (w.conns k).client_open) _ (back_of (nat_lt k max_channel) _ m))),
)

pub links_on : (w : World) (e : Event) → Low w.conns → Links w.server w.conns → Links (happens w e).server (happens w e).conns
unfolding Linked
links_on w (Submit g op) low h = h
links_on w (Open k) low h =
    either Linked (may_open w k) (later (changed w (Open k)) 1) w
    (λ m. let o = off_of w k m in let a = accepted w.server w.moment k (room_for w.server w.conns k h low o.0 o.1) in
    opens_link w k (step w.server w.moment (Accept k)) h o.1 a.status a.connections) (λ _. h)
links_on w (Push k slotless pick) low h =
    either Linked (w.client.ready k) (later (changed w (Push k slotless pick)) 1) w
    (λ _. let c = client_after w.client (Pushes k slotless pick) in let x = act w.client (Pushes k slotless pick) in
    links_same w.server (pushed_by w k c x).server w.conns (pushed_by w k c x).conns
    (ap (λ (s : Server). s.connections) (pushed_same w k c x)) (pushed_server w k c x) h) (λ _. h)
links_on w (Serve k) low h = either Linked (may_serve w k) (later (serve_front w k (w.conns k).up) 1) w
    (λ _. served_link w k (w.conns k).up h) (λ _. h)
links_on w (Take k) low h = links_same w.server (happens w (Take k)).server w.conns (happens w (Take k)).conns
    (ap (λ (s : Server). s.connections) (take_same w k)) (take_server w k) h
links_on w (Cut k) low h =
    either Linked (w.conns k).client_open (later (changed w (Cut k)) 1) w
    (λ _. either Linked (w.client.ready k) _ _ (λ _. links_same w.server (cut_by w k _).server w.conns
    (cut_by w k _).conns (ap (λ (s : Server). s.connections) (cut_same w k _)) (λ q. cut_server w k q _) h)
    (λ _. links_same w.server w.server w.conns (put w.conns k (client_off (w.conns k))) refl
    (λ q. put_server w.conns k (client_off (w.conns k)) refl q) h)) (λ _. h)
links_on w (Drop k) low h = either Linked (w.conns k).server_open (later (changed w (Drop k)) 1) w (λ _. dropped_link w k h) (λ _. h)
links_on w Restart low h = absorbed_off w 0 []
links_on w (Crash k kept) low h = either Linked (may_serve w k) (later (changed w (Crash k kept)) 1) w (λ _. crashed_off w k kept) (λ _. h)
links_on w (Wait n) low h = h
links_on w (Finish refusal) low h = either Linked (not w.client.live) (later (changed w (Finish refusal)) 1) w (λ _. h) (λ _. h)

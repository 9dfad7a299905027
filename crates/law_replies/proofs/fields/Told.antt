-- What is told of the server's rows fits, since they do.
use Rattle.law_server.proofs.tables.Closing.{left_beside}
use Rattle.std.proofs.Common.{◌≡◌, ℕ, ◌+◌, ◌<◌, ◌≤◌, ◌^◌, nat_le, nat_lt, Bool, true, false, not, ◌&&◌, ◌||◌, if◌then◌else◌}
use Rattle.std.specs.Prelude.{◌==◌}
use Rattle.std.proofs.Common.{List, [], ◌∷◌, length, refl, sym, subst, arith, inl, inr, Option, Some, None, is_some}
use Rattle.std.proofs.lemmas.Bool.Decides.{nat_tests}
use Rattle.spec_exchange.specs.Table.{is_at}
use Rattle.spec_exchange.specs.Status.{user_session_deleted, sharing_violation, insufficient_resources, disk_full}
use Rattle.spec_exchange.specs.Status.{invalid_parameter}
use Rattle.spec_exchange.specs.Texts.{same_name}
use Rattle.spec_exchange.specs.Commands.{Command, Unreadable, Aside, Setup, Logoff, TreeConnect, TreeDisconnect, Create}
use Rattle.spec_exchange.specs.Commands.{Close, Flush, Read, Write, Lock, Ioctl, ListDirectory, QueryFile, QueryVolume, SetInfo}
use Rattle.spec_exchange.specs.Commands.{CreateRequest, Durable, Reconnect, deletes_on_close, form, is_setup}
use Rattle.spec_exchange.specs.State.{Server, Message, Heard, Named, Record, Listing}
use Rattle.spec_exchange.specs.Files.{find, path_of, is_directory, info_of}
use Rattle.spec_exchange.specs.Opens.{id_of, max_ids, deletes, mapped, is_of_tree}
use Rattle.spec_exchange.specs.Opens.{leave_open}
use Rattle.spec_exchange.specs.CheckCreate.{last_file, keeps_guid, max_guids, is_counted_out, action_of, names, shares, refused_by}
use Rattle.spec_exchange.specs.CheckCreate.{refused_create, after_names, new_check, live_check, refusal_check, guid_check, has_guid}
use Rattle.spec_exchange.specs.CheckCreate.{reconnect_check, durable_check, reconnect_or_create, create_check}
use Rattle.spec_exchange.specs.CheckOpen.{file_of, has_access, needs_attributes, file_query_check, begins_at, listing_of, list_check}
use Rattle.spec_exchange.specs.Listing.{all_named, wanted, fitting, one_or_all, file_info_size}
use Rattle.spec_exchange.specs.CheckSetup.{tree_in}
use Rattle.spec_exchange.specs.Check.{check, owed, formed, command_check, with_tree, in_tree, tree_command, on_open, has_session}
use Rattle.spec_exchange.specs.Effects.{apply, create_reply, make_open, next_open}
use Rattle.spec_exchange.specs.Verdict.{Verdict, Refuse, Give, KeepRefusal, Repeat, Attach, Make, TurnDown, Tell, Show}
use Rattle.spec_exchange.specs.Verdict.{KeepSlot, PutRanges, Alter, CloseOpen, Challenge, ChallengeBinding, Begin, Join}
use Rattle.spec_exchange.specs.Verdict.{EndSession, AddTree, DropTree}
use Rattle.spec_exchange.specs.Fold.{full_room}
use Rattle.spec_exchange.specs.Step.{step, without_room, with_deadlines, add_expired_guid}
use Rattle.spec_exchange.specs.Network.{answer_to, run, start}
use Rattle.law_server.specs.tables.Fits.{Fits}
use Rattle.law_server.proofs.tables.Logic.{either}
use Rattle.law_server.proofs.tables.Doors.{Before, Finds, by_verdict, recorded}
use Rattle.law_server.proofs.tables.Found.{Facts}
use Rattle.law_server.proofs.tables.Checked.{checked, found}
use Rattle.law_server.proofs.tables.SessionEffects.{deadlines_keeps}
use Rattle.law_server.proofs.tables.Applied.{expired_keeps}
use Rattle.law_server.proofs.tables.Run.{fitting as fits_always}
use Rattle.law_commands.specs.commands.Fitting.{IsInfo, IsFittingTimeout, AreFittingNames}
use Rattle.spec_commands.specs.Infos.{listing_bytes}
use Rattle.law_commands.proofs.lengths.Listings.{listings_are_short}
use Rattle.law_replies.proofs.counters.Fits.{operations_fit}
use Rattle.law_replies.specs.fields.Rows.{RowsFit}
use Rattle.law_replies.specs.fields.Bodies.{FitsBody, asks_rows, BodiesFit}
use Rattle.law_replies.proofs.fields.Paths.{off}
use Rattle.law_replies.proofs.fields.Changes.{Keeps, open_made, expired}
use Rattle.law_replies.proofs.fields.Verdicts.{AsksFit, keeps, keeps_full}
use Rattle.law_replies.proofs.fields.Requests.{asks_fit}
use Rattle.law_replies.proofs.fields.Runs.{moment_fits, rows_always_fit}
use Rattle.law_replies.proofs.fields.Names.{all_names, wanted_names, some_names, texts_of}

-- of the verdicts on these requests
abbrev pub Tells : ℕ → Verdict → Type 0
Tells n (Refuse status) = Unit {0}
Tells n (KeepRefusal guid status) = Unit {0}
Tells n (Repeat o r) = Unit {0}
Tells n (Attach o r) = Unit {0}
Tells n (Make r found action) = Unit {0}
Tells n (TurnDown o status) = Unit {0}
Tells n (Tell o body) = FitsBody n body
Tells n (Show o last body) = FitsBody n body
Tells n _ = ⊥

-- ---- a row as it is told

low_file : (f : ℕ) → f ≤ last_file → f < 256 ^ 8
low_file f l = omega (arith, l)

low_size : (n : ℕ) → n ≤ full_room → n + 4095 < 256 ^ 8
low_size n l = omega (arith, l)

info_fits : (s : Server) (f : ℕ) → f ≤ last_file → RowsFit s → IsInfo (info_of s f)
unfolding info_of
info_fits s f l h = record { file = low_file f l; size = low_size (length (s.content f)) (h.sizes f); times = h.basics f }

low_wait : (t : ℕ) → t ≤ 300000 → t < 256 ^ 4
low_wait t l = omega (arith, l)

create_fits : (n : ℕ) (s : Server) (o : ℕ) (r : CreateRequest) (action : ℕ) → RowsFit s → o ≤ id_of n max_ids → action ≤ 3
    → FitsBody n (create_reply s o r action)
create_fits n s o r action h l d =
    let row = h.opens o in
    record {
      low = l;
      done = d;
      told = info_fits s (s.opened o).file row.number h;
      wait = either IsFittingTimeout ((s.opened o).persistent && is_some r.durable) (Some (s.opened o).timeout) None
          (λ _. low_wait (s.opened o).timeout row.wait) (λ _. tt);
    }

-- ---- the checks

told_query : (n : ℕ) (s : Server) (o class room : ℕ) → RowsFit s → Tells n (file_query_check s o class room)
told_query n s o class room h =
    let row = h.opens o in
    either (Tells n) (needs_attributes class && not (has_access s o 0x80)) _ _ (λ _. tt)
    (λ _. either (Tells n) (class == 21) _ _ (λ _. tt)
    (λ _. either (Tells n) (nat_lt room (file_info_size class (is_directory s (file_of s o)) (path_of s (file_of s o)))) _ _ (λ _. tt)
    (λ _. info_fits s (file_of s o) row.number h)))

told_listing : (n o class : ℕ) (last : Option (List ℕ)) (all fit : List Named) → FitsBody n (Listing class fit)
    → Tells n (listing_of o class last all fit)
unfolding listing_of
told_listing n o class last [] fit f = tt
told_listing n o class last (x ∷ xs) [] f = tt
told_listing n o class last (x ∷ xs) (y ∷ ys) f = f

few_bytes : (n room : ℕ) → n ≤ room + 7 → room ≤ 1048576 → n ≤ 1048583
few_bytes n room l h = omega (arith, l, h)

told_list : (n : ℕ) (s : Server) (o class : ℕ) (restart single : Bool) (pattern : List ℕ) (room : ℕ) → room ≤ 1048576 → RowsFit s
    → Tells n (list_check s o class restart single pattern room)
told_list n s o class restart single pattern room few h =
    let last : Option (List ℕ) = begins_at restart (s.enumeration_location o) in
    let all : List Named = wanted last pattern (all_named s (file_of s o)) in
    let fit : List Named = one_or_all single (fitting class room 0 all) in
    let told : AreFittingNames fit =
    some_names single class room all
    (wanted_names last pattern (all_named s (file_of s o)) (all_names s (file_of s o) h.places)) in
    let short = few_bytes (length (listing_bytes class fit)) room (listings_are_short single class room all (texts_of fit told)) few in
    either (Tells n) (not (has_access s o 0x1)) _ _ (λ _. tt)
    (λ _. either (Tells n) (not (is_directory s (file_of s o))) _ _ (λ _. tt)
    (λ _. told_listing n o class last all fit (told, short)))

told_refused : (n : ℕ) (u : Option Durable) (status : ℕ) → Tells n (refused_by u status)
told_refused n None status = tt
told_refused n (Some d) status = tt

told_after : (n : ℕ) (s : Server) (r : CreateRequest) (found u : Option ℕ) → Tells n (after_names s r found u)
told_after n s r found (Some status) = told_refused n r.durable status
told_after n s r found None =
    either (Tells n) (shares s r found) (Make r found (action_of r found)) (refused_create r sharing_violation) (λ _. tt)
    (λ _. told_refused n r.durable sharing_violation)

told_new : (n : ℕ) (s : Server) (m : Message) (r : CreateRequest) (found : Option ℕ) → Tells n (new_check s m r found)
told_new n s m r found =
    either (Tells n) (deletes_on_close r.options && not (deletes (mapped r.access))) _ _ (λ _. tt)
    (λ _. either (Tells n) (keeps_guid r && nat_le max_guids (s.guids m.session_id)) _ _ (λ _. tt)
    (λ _. either (Tells n) (is_counted_out s r found) _ _ (λ _. told_refused n r.durable insufficient_resources)
    (λ _. told_after n s r found (names s r found))))

told_live : (n : ℕ) (s : Server) (m : Message) (r : CreateRequest) (o : ℕ) → Tells n (live_check s m r o)
told_live n s m r o =
    either (Tells n) (not m.replay) _ _ (λ _. tt)
    (λ _. either (Tells n) (is_at m.session_id (s.session_of_open o)) _ _ (λ _. tt)
    (λ _. either (Tells n) (is_some (s.session_of_open o) || not (s.opened o).persistent) _ _ (λ _. tt)
    (λ _. either (Tells n) (same_name (s.opened o).user (s.user m.session_id)) _ _ (λ _. tt) (λ _. tt))))

told_refusal : (n : ℕ) (s : Server) (m : Message) (r : CreateRequest) (u : Option ℕ) → Tells n (refusal_check s m r u)
told_refusal n s m r (Some status) = tt
told_refusal n s m r None = told_new n s m r (find s r.path)

told_guid : (n : ℕ) (s : Server) (m : Message) (r : CreateRequest) (d : Durable) (u : Option ℕ) → Tells n (guid_check s m r d u)
told_guid n s m r d (Some o) = told_live n s m r o
told_guid n s m r d None =
    either (Tells n) (s.closed m.session_id d.guid) _ _ (λ _. tt)
    (λ _. either (Tells n) (s.expired_guids m.client_guid d.guid) _ _ (λ _. tt)
    (λ _. told_refusal n s m r (s.refused m.session_id d.guid)))

told_durable : (n : ℕ) (s : Server) (m : Message) (r : CreateRequest) (u : Option Durable) → Tells n (durable_check s m r u)
told_durable n s m r None = told_new n s m r (find s r.path)
told_durable n s m r (Some d) = told_guid n s m r d (s.by_guid m.client_guid d.guid)

told_reconnect : (n : ℕ) (s : Server) (m : Message) (r : CreateRequest) (c : Reconnect) → Tells n (reconnect_check s m r c)
told_reconnect n s m r c =
    either (Tells n) (not (s.standing c.file && has_guid c.guid (s.opened c.file).create_guid)) _ _ (λ _. tt)
    (λ _. either (Tells n) (not (same_name (s.opened c.file).user (s.user m.session_id))) _ _ (λ _. tt)
    (λ _. either (Tells n) (is_some (s.session_of_open c.file) && not (is_at m.session_id (s.session_of_open c.file))) _ _
    (λ _. tt) (λ _. tt)))

told_connect_or : (n : ℕ) (s : Server) (m : Message) (r : CreateRequest) (u : Option Reconnect) → Tells n (reconnect_or_create s m r u)
told_connect_or n s m r (Some c) = told_reconnect n s m r c
told_connect_or n s m r None = told_durable n s m r r.durable

told_create : (n : ℕ) (s : Server) (m : Message) (r : CreateRequest) (pipes : Bool) → Tells n (create_check s m r pipes)
told_create n s m r true = tt
told_create n s m r false = told_connect_or n s m r r.reconnect

-- ---- the ordered checks

told_open : (n : ℕ) (s : Server) (m : Message) (o : ℕ) (v : Verdict) → Tells n v → Tells n (on_open s m o v)
told_open n s m o v e = either (Tells n) (is_of_tree s o m.session_id m.tree_id) v _ (λ _. e) (λ _. tt)

walk : (n : ℕ) (s : Server) (m : Message) (c : Command) → m.command ≡ c → command_check s m c ≡ with_tree s m
    → (form c ≡ None → (pipes : Bool) → Tells n (tree_command s m pipes c)) → Tells n (check s m)
walk n s m c e at deep =
    either (Tells n) (is_setup m.command || has_session s m) (owed s m m.fault) (Refuse user_session_deleted)
    (λ _. by_fault m.fault) (λ _. tt)
  where
    in_trees : (u : Option Bool) → form c ≡ None → Tells n (in_tree s m u)
    in_trees None k = tt
    in_trees (Some pipes) k = subst (λ (d : Command). Tells n (tree_command s m pipes d)) (sym e) (deep k pipes)

    by_form : (u : Option ℕ) → form m.command ≡ u → Tells n (formed s m u)
    by_form (Some status) k = tt
    by_form None k =
        let good : form c ≡ None = subst (λ (d : Command). form d ≡ None) e k in
        subst (λ (d : Command). Tells n (command_check s m d)) (sym e)
        (subst (Tells n) (sym at) (in_trees (tree_in (s.trees m.session_id) m.tree_id) good))

    by_fault : (u : Option ℕ) → Tells n (owed s m u)
    by_fault (Some status) = tt
    by_fault None = by_form (form m.command) refl

first_kept : (b : Bool) (x : ℕ) (u : Option ℕ) → (if b then Some x else u) ≡ None → b ≡ false
first_kept true x u e = absurd cc
first_kept false x u e = refl

in_room : (n : ℕ) → nat_lt 1048576 n ≡ false → n ≤ 1048576
in_room n e = grind (arith, nat_tests)

told_check : (n : ℕ) (s : Server) (m : Message) (c : Command) → m.command ≡ c → asks_rows c ≡ true → RowsFit s → Tells n (check s m)
told_check n s m (Create r) e a h = walk n s m (Create r) e refl (λ _ pipes. told_create n s m r pipes)
told_check n s m (QueryFile o class room) e a h =
    walk n s m (QueryFile o class room) e refl
    (λ _ pipes. told_open n s m o (file_query_check s o class room) (told_query n s o class room h))
told_check n s m (ListDirectory o class restart single pattern room) e a h =
    walk n s m (ListDirectory o class restart single pattern room) e refl
    (λ k pipes. told_open n s m o (list_check s o class restart single pattern room)
    (told_list n s o class restart single pattern room (in_room room (first_kept (nat_lt 1048576 room) invalid_parameter _ k)) h))
told_check n s m (Unreadable status) e a h = off a
told_check n s m (Aside status) e a h = off a
told_check n s m (Setup request) e a h = off a
told_check n s m Logoff e a h = off a
told_check n s m (TreeConnect share) e a h = off a
told_check n s m TreeDisconnect e a h = off a
told_check n s m (Close file query) e a h = off a
told_check n s m (Flush file) e a h = off a
told_check n s m (Read file at size minimum channel) e a h = off a
told_check n s m (Write file at bytes channel) e a h = off a
told_check n s m (Lock file index number elements) e a h = off a
told_check n s m (Ioctl file code room) e a h = off a
told_check n s m (QueryVolume file class room) e a h = off a
told_check n s m (SetInfo file setting) e a h = off a

told_full : (n : ℕ) (v : Verdict) → Tells n v → Tells n (without_room v)
told_full n (Refuse status) e = tt
told_full n (KeepRefusal guid status) e = tt
told_full n (Repeat o r) e = tt
told_full n (Attach o r) e = tt
told_full n (Make r found action) e = told_refused n r.durable disk_full
told_full n (TurnDown o status) e = tt
told_full n (Tell o body) e = e
told_full n (Show o last body) e = e
told_full n (Give body) e = absurd e
told_full n (KeepSlot o index number status elements) e = absurd e
told_full n (PutRanges o index number ranges elements) e = absurd e
told_full n (Alter o change body) e = absurd e
told_full n (CloseOpen o body) e = absurd e
told_full n Challenge e = absurd e
told_full n (ChallengeBinding session) e = absurd e
told_full n (Begin session user previous r is_quiet) e = absurd e
told_full n (Join session) e = absurd e
told_full n (EndSession session is_quiet) e = absurd e
told_full n (AddTree pipes) e = absurd e
told_full n DropTree e = absurd e

finds_told : (n : ℕ) (t : Server) (m : Message) (v : Verdict) → asks_rows m.command ≡ true → RowsFit t → Finds t m v → Tells n v
finds_told n t m v a h (inl is) = subst (Tells n) (sym is) (told_check n t m m.command refl a h)
finds_told n t m v a h (inr is) =
    subst (Tells n) (sym is) (told_full n (check t m) (told_check n t m m.command refl a h))

finds_keep : (t : Server) (m : Message) (v : Verdict) → Fits t → AsksFit m.command → RowsFit t → Finds t m v → Keeps t v
finds_keep t m v i g h (inl is) = subst (λ (u : Verdict). Keeps t u) (sym is) (keeps t m (check t m) i h g (checked t m))
finds_keep t m v i g h (inr is) = subst (λ (u : Verdict). Keeps t u) (sym is) (keeps_full t (check t m))

-- ---- the answer

given_id : (o e g n : ℕ) → o ≤ id_of e g → e ≤ n → g ≤ max_ids → o ≤ id_of n max_ids
given_id o e g n l k h = omega (arith, l, k, h)

next_id : (e g n : ℕ) → e ≤ n → g < max_ids → id_of e (g + 1) ≤ id_of n max_ids
next_id e g n k h = omega (arith, k, h)

one_low : 1 ≤ 3
one_low = omega arith

body_fits : (n : ℕ) (t : Server) (m : Message) (now : ℕ) (records : List Record) (v : Verdict) → t.epoch ≤ n → now < 256 ^ 8 → Fits t
    → RowsFit t → Keeps t v → Facts t m v → Tells n v → FitsBody n (recorded (apply t m now v) records).reply.body
body_fits n t m now records (Refuse status) k w i h e f told = tt
body_fits n t m now records (KeepRefusal guid status) k w i h e f told = tt
body_fits n t m now records (TurnDown o status) k w i h e f told = tt
body_fits n t m now records (Tell o body) k w i h e f told = told
body_fits n t m now records (Show o last body) k w i h e f told = told
body_fits n t m now records (Repeat o r) k w i h e f told =
    let named = i.guid_open m.client_guid f.durable.guid o f.named in
    let id = i.open_ids o named.0 in
    let row = h.opens o in
    create_fits n t o r (t.opened o).action h (given_id o t.epoch t.open_ids_given n id.1 k i.given) row.done
body_fits n t m now records (Attach o r) k w i h e f told =
    let id = i.open_ids o f.standing in
    create_fits n t o r 1 h (given_id o t.epoch t.open_ids_given n id.1 k i.given) one_low
body_fits n t m now records (Make r found action) k w i h e f told =
    create_fits n (make_open t m r found action now) (next_open t) r action (open_made t m r found action now w e h)
    (next_id t.epoch t.open_ids_given n k f.given) e.done
body_fits n t m now records (Give body) k w i h e f told = absurd told
body_fits n t m now records (KeepSlot o index number status elements) k w i h e f told = absurd told
body_fits n t m now records (PutRanges o index number ranges elements) k w i h e f told = absurd told
body_fits n t m now records (Alter o change body) k w i h e f told = absurd told
body_fits n t m now records (CloseOpen o body) k w i h e f told = absurd told
body_fits n t m now records Challenge k w i h e f told = absurd told
body_fits n t m now records (ChallengeBinding session) k w i h e f told = absurd told
body_fits n t m now records (Begin session user previous r is_quiet) k w i h e f told = absurd told
body_fits n t m now records (Join session) k w i h e f told = absurd told
body_fits n t m now records (EndSession session is_quiet) k w i h e f told = absurd told
body_fits n t m now records (AddTree pipes) k w i h e f told = absurd told
body_fits n t m now records DropTree k w i h e f told = absurd told

-- ---- the state that the checks see

epoch_left : (n : ℕ) (s : Server) (o : ℕ) → s.epoch ≤ n → (leave_open s o).epoch ≤ n
epoch_left n s o l = subst (λ (k : ℕ). k ≤ n) (sym (left_beside s o).epoch) l

epoch_added : (n : ℕ) (s : Server) (client : ℕ) (g : Option ℕ) → s.epoch ≤ n → (add_expired_guid s client g).epoch ≤ n
epoch_added n s client None l = l
epoch_added n s client (Some g) l = l

record Seen (n : ℕ) (t : Server) : Type 0 where
  pub fits : Fits t
  pub rows : RowsFit t
  pub epoch : t.epoch ≤ n

seen_by : (n : ℕ) (s : Server) (now : ℕ) (t : Server) → Before s now t → Fits s → RowsFit s → s.epoch ≤ n → Seen n t
seen_by n s now t (inl q) i h l =
    subst (λ (u : Server). Seen n u) (sym q) (record { fits = deadlines_keeps s now i; rows = h; epoch = l })
seen_by n s now t (inr q) i h l =
    let d = with_deadlines s now in
    let o = q.0 in
    subst (λ (u : Server). Seen n u) (sym q.2)
    (record {
      fits = expired_keeps d now o q.1 (deadlines_keeps s now i);
      rows = expired d o h;
      epoch = epoch_added n (leave_open d o) (d.opened o).client_guid (d.opened o).create_guid (epoch_left n d o l);
    })

stepped : (n : ℕ) (s : Server) (now : ℕ) (m : Message) → s.epoch ≤ n → now < 256 ^ 8 → Fits s → RowsFit s → AsksFit m.command
    → asks_rows m.command ≡ true → FitsBody n (step s now (Heard m)).reply.body
stepped n s now m l w i h g a =
    by_verdict (λ A. FitsBody n A.reply.body) s now m
    (λ t v records b f. (let c = seen_by n s now t b i h l in
    body_fits n t m now records v c.epoch w c.fits c.rows (finds_keep t m v c.fits g c.rows f) (found t m v f)
    (finds_told n t m v a c.rows f)))

answered : (n : ℕ) (s : Server) (now : ℕ) (m : Message) (c : Command) → asks_rows c ≡ true → s.epoch ≤ n → now < 256 ^ 8 → Fits s
    → RowsFit s → AsksFit m.command → asks_rows m.command ≡ true → FitsBody n (answer_to s now m c).reply.body
answered n s now m (Create r) b l w i h g a = stepped n s now m l w i h g a
answered n s now m (QueryFile o class room) b l w i h g a = stepped n s now m l w i h g a
answered n s now m (ListDirectory o class restart single pattern room) b l w i h g a = stepped n s now m l w i h g a
answered n s now m (Unreadable status) b l w i h g a = off b
answered n s now m (Aside status) b l w i h g a = off b
answered n s now m (Setup request) b l w i h g a = off b
answered n s now m Logoff b l w i h g a = off b
answered n s now m (TreeConnect share) b l w i h g a = off b
answered n s now m TreeDisconnect b l w i h g a = off b
answered n s now m (Close file query) b l w i h g a = off b
answered n s now m (Flush file) b l w i h g a = off b
answered n s now m (Read file at size minimum channel) b l w i h g a = off b
answered n s now m (Write file at bytes channel) b l w i h g a = off b
answered n s now m (Lock file index number elements) b l w i h g a = off b
answered n s now m (Ioctl file code room) b l w i h g a = off b
answered n s now m (QueryVolume file class room) b l w i h g a = off b
answered n s now m (SetInfo file setting) b l w i h g a = off b

same_epoch : (n : ℕ) → n ≤ n
same_epoch n = omega arith

pub bodies_fit : BodiesFit
bodies_fit z es k x xs h a =
    let w = run es (start z) in
    let fit = operations_fit z es in
    answered w.server.epoch w.server w.moment x.message x.message.command a (same_epoch w.server.epoch) (moment_fits w.moment fit.moment)
    (fits_always z es) (rows_always_fit z es) (asks_fit z es k x xs h) a

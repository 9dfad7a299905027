-- What a verdict owes, and opens that leave from the state that the tables show.
use Rattle.std.proofs.Common.{◌≡◌, ◌≤◌, ◌<◌, ℕ, ◌+◌, ◌/◌, ◌^◌, ◌==◌, Bool, true, false, not, ◌&&◌, if◌then◌else◌, nat_le, zero, suc}
use Rattle.std.proofs.Common.{List, [], ◌∷◌, ◌++◌, length, drop, get_or, Option, Some, None, Vec, Global, Bor}
use Rattle.std.proofs.Common.{Result, Ok, Err, IfOk, refl, sym, ap, subst, ◌∙◌, arith}
use Rattle.std.specs.Int.{to_le_bytes, w128}
use Rattle.std.proofs.lemmas.Bool.Decides.{nat_tests}
use Rattle.std.proofs.lemmas.List.{at_drop_more, at_drop_all}
use Rattle.spec_exchange.specs.Commands as asks
use Rattle.spec_exchange.specs.Commands.{Element, asks_directory}
use Rattle.spec_exchange.specs.State as model
use Rattle.spec_exchange.specs.CheckOpen.{is_slot}
use Rattle.spec_exchange.specs.Table.{has, is_at}
use Rattle.spec_exchange.specs.Opens.{is_of_session, granted}
use Rattle.spec_exchange.specs.Records.{origin_of}
use Rattle.spec_exchange.specs.Effects.{leaves, opens_of_tree, plain_of, apply, create_records, is_persistent, new_file, new_open, next_open, timeout_of}
use Rattle.spec_exchange.specs.Effects.{lock_records, recorded_index, end_records, leave_all_records}
use Rattle.spec_exchange.specs.Effects.{final_attributes}
use Rattle.law_server.specs.tables.Fits.{Fits, is_ascending}
use Rattle.law_server.proofs.tables.Closing.{of_tree}
use Rattle.law_server.proofs.tables.Lists.{ascending-tree}
use Rattle.law_server.proofs.tables.Logic.{front_of, back_of}
use Rattle.law_records.specs.leaving_opens.Since.{AllStand}
use Rattle.law_records.proofs.leaving_opens.Ended.{has_plain}
use Rattle.spec_wire.specs.messages.Places.{number, number_of}
use Rattle.spec_wire.proofs.messages.Numbers.{number_of-le}
use Rattle.wire_bytes.proofs.byte_lists.Endian.{le_is}
use Rattle.spec_commands.specs.CommandOf.{elements_in as elements_told}
use Rattle.law_commands.specs.commands.Fitting.{IsElement, AreElements}
use Rattle.law_commands.proofs.commands.Elements.{all_bytes, elements_again, length-elements}
use Rattle.wire_commands.specs.values.Meaning.{command_of, setting_of}
use Rattle.wire_commands.specs.declared.values.command.Command.{Command}
use Rattle.wire_commands.specs.declared.values.command.Command.TheVariants as commands
use Rattle.wire_commands.specs.declared.values.command.CreateRequest.{CreateRequest}
use Rattle.wire_commands.specs.declared.values.command.Setting.{Setting}
use Rattle.wire_commands.specs.declared.values.command.Setting.TheVariants as settings
use Rattle.wire_commands.specs.declared.values.reply.Body.{Body}
use Rattle.journal_bytes.specs.record_bytes.Meaning.{elements_in as elements_kept}
use Rattle.journal_bytes.specs.record_bytes.Meaning.{record_of, records_of}
use Rattle.journal_bytes.specs.declared.record_bytes.value.Record.{Record}
use Rattle.server_checks.specs.verdicts.Views.{bytes_in, elements_in, path_in, path_in_setting, verdict_of}
use Rattle.server_checks.specs.declared.verdicts.verdict.Change.{Change}
use Rattle.server_checks.specs.declared.verdicts.verdict.Verdict.{Verdict}
use Rattle.server_checks.specs.declared.verdicts.verdict.Verdict.TheVariants as codes
use Rattle.store_opens.specs.declared.share_modes.lists.Range.{Range}
use Rattle.server_plan.specs.owed_records.Owing.{IsOwedCreate}

-- where it can't

pub true_not : true ≡ false → ⊥
true_not h = cc

pub not_quiet : (q : Bool) → q ≡ false → not q ≡ false → ⊥
not_quiet true e h = cc
not_quiet false e h = cc

-- where memory may run out
pub if_ok_by : {X Y : Type 0} {P Q : X → Type 0} (r : Result X Y) → IfOk r P → ((x : X) → P x → Q x) → IfOk r Q
if_ok_by (Ok x) p f = f x p
if_ok_by (Err y) p f = tt

-- ---- lists of records

pub one_of : (old new : List Record) (r : Record) → old ≡ [] → new ≡ old ++ r ∷ [] → records_of new ≡ record_of r ∷ []
one_of old new r e h = ap (λ (v : List Record). records_of v) (h ∙ ap (λ (v : List Record). v ++ r ∷ []) e)

-- all that begins with no record
pub behind_none : (none all rs : List model.Record) → none ≡ [] → all ≡ none ++ rs → all ≡ rs
behind_none none all rs e h = h ∙ ap (λ (v : List model.Record). v ++ rs) e

-- a session's plain opens stand
pub plain_stand : (s : model.Server) (x : ℕ) → Fits s → AllStand s (plain_of s x)
plain_stand s x i = λ o h. sym (i.listed o) ∙ front_of (has o s.opens) (leaves s x o) (sym (has_plain s x o s.opens) ∙ h)

-- so do a tree's, in the order of their ids
pub tree_stand : (s : model.Server) (x n : ℕ) → Fits s → AllStand s (opens_of_tree s x n)
tree_stand s x n i = λ o h. front_of (s.standing o) (is_at x (s.session_of_open o))
    (front_of (is_of_session s o x) (s.tree_of_open o == n) (of_tree s x n o s.opens h))

pub tree_in_order : (s : model.Server) (x n : ℕ) → Fits s → is_ascending (opens_of_tree s x n) ≡ true
tree_in_order s x n i = ascending-tree s x n s.opens i.ascending

-- the records of a session that ends, where they fit
pub ended_records : (s : model.Server) (origin : model.Origin) (x : ℕ) (quiet : Bool) (rs : List model.Record) → quiet ≡ false
    → rs ≡ leave_all_records s origin (plain_of s x) → rs ≡ end_records s origin x quiet
unfolding end_records
ended_records s origin x true rs e h = absurd (cc)
ended_records s origin x false rs e h = h

-- ---- what a request carries, of one that carries it not

pub other_bytes : (c : Command) → ((file at : ℕ) (bytes : Bor (List ℕ)) (channel : ℕ) → c ≡ commands.Write file at bytes channel → ⊥)
    → [] ≡ bytes_in (command_of c)
other_bytes (commands.Write file at bytes channel) h = absurd (h file at bytes channel refl)
other_bytes _ h = refl

pub other_elements : (c : Command)
    → ((file index number : ℕ) (elements : Vec Element Global) → c ≡ commands.Lock file index number elements → ⊥)
    → [] ≡ elements_in (command_of c)
other_elements (commands.Lock file index number elements) h = absurd (h file index number elements refl)
other_elements _ h = refl

pub other_path : (c : Command) → ((file : ℕ) (setting : Setting) → c ≡ commands.SetInfo file setting → ⊥) → [] ≡ path_in (command_of c)
other_path (commands.SetInfo file setting) h = absurd (h file setting refl)
other_path _ h = refl

pub other_setting : (t : Setting) → ((replace : Bool) (path : List ℕ) → t ≡ settings.Rename replace path → ⊥)
    → [] ≡ path_in_setting (setting_of t)
other_setting (settings.Rename replace path) h = absurd (h replace path refl)
other_setting _ h = refl

pub no_create : (c : Command) → ((r : CreateRequest) → c ≡ commands.Create r → ⊥) → IsOwedCreate (command_of c) → ⊥
no_create (commands.Create r) h i = h r refl
no_create _ h i = i

-- ---- creates

pub created_none : (s : model.Server) (m : model.Message) (r : asks.CreateRequest) (found : Option ℕ) (action now : ℕ) (b : Bool)
    (rs : List model.Record)
    → b ≡ ((action == 1) && not (is_persistent r.durable)) → b ≡ true → rs ≡ [] → rs ≡ create_records s m r found action now
unfolding create_records
created_none s m r found action now b rs e h none =
    none ∙ ap (λ (v : Bool). if v then [] else model.CreateRecord (origin_of m) action (new_file s found) r.path (final_attributes s r found)
    (asks_directory r) now (new_open s m r (granted s (new_file s found) r.access) r.durable) ∷ []) (sym h ∙ e)

pub created_one : (s : model.Server) (m : model.Message) (r : asks.CreateRequest) (found : Option ℕ) (action now : ℕ) (b : Bool)
    (one : model.Record) (n : Option model.NewOpen) (rs : List model.Record)
    → b ≡ ((action == 1) && not (is_persistent r.durable)) → b ≡ false → rs ≡ one ∷ []
    → one ≡ model.CreateRecord (origin_of m) action (new_file s found) r.path (final_attributes s r found) (asks_directory r) now n
    → n ≡ new_open s m r (granted s (new_file s found) r.access) r.durable → rs ≡ create_records s m r found action now
unfolding create_records
created_one s m r found action now b one n rs e h all is new =
    all ∙ ap (λ (v : model.Record). v ∷ []) is
    ∙ ap (λ (v : Option model.NewOpen). model.CreateRecord (origin_of m) action (new_file s found) r.path (final_attributes s r found)
    (asks_directory r) now v ∷ []) new
    ∙ ap (λ (v : Bool). if v then [] else model.CreateRecord (origin_of m) action (new_file s found) r.path (final_attributes s r found)
    (asks_directory r) now (new_open s m r (granted s (new_file s found) r.access) r.durable) ∷ []) (sym h ∙ e)

pub opened_with : (s : model.Server) (m : model.Message) (r : asks.CreateRequest) (found : Option ℕ) (access : ℕ) (n : Option model.NewOpen)
    (u : Option asks.Durable) → access ≡ granted s (new_file s found) r.access → n ≡ new_open s m r access u
    → n ≡ new_open s m r (granted s (new_file s found) r.access) u
opened_with s m r found access n u e h = h ∙ ap (λ (a : ℕ). new_open s m r a u) e

pub told_create : (m : model.Message) (action now : ℕ) (origin : model.Origin) (file file2 : ℕ) (path : List ℕ)
    (attributes attributes2 : ℕ) (directory directory2 : Bool) (n : Option model.NewOpen) (path2 : List ℕ) → origin ≡ origin_of m
    → file ≡ file2 → path ≡ path2 → attributes ≡ attributes2 → directory ≡ directory2
    → model.CreateRecord origin action file path attributes directory now n
    ≡ model.CreateRecord (origin_of m) action file2 path2 attributes2 directory2 now n
told_create m action now origin file file2 path attributes attributes2 directory directory2 n path2 o f p a d = rw (o, f, p, a, d) refl

abbrev open_made : ℕ → ℕ → ℕ → List ℕ → ℕ → ℕ → ℕ → ℕ → Option model.NewOpen
open_made id client guid user access share options timeout = Some (record {
  id = id;
  client_guid = client;
  create_guid = guid;
  user = user;
  access = access;
  share = share;
  options = options;
  timeout = timeout;
})

same_open : (id id2 client client2 guid guid2 : ℕ) (user user2 : List ℕ) (access access2 share share2 options options2 timeout timeout2 : ℕ)
    → id ≡ id2 → client ≡ client2 → guid ≡ guid2 → user ≡ user2 → access ≡ access2 → share ≡ share2 → options ≡ options2
    → timeout ≡ timeout2
    → open_made id client guid user access share options timeout ≡ open_made id2 client2 guid2 user2 access2 share2 options2 timeout2
same_open id id2 client client2 guid guid2 user user2 access access2 share share2 options options2 timeout timeout2 a b c d e f g h =
    rw (a, b, c, d, e, f, g, h) refl

pub not_persistent : (s : model.Server) (m : model.Message) (r : asks.CreateRequest) (access : ℕ) (d : asks.Durable)
    → d.persistent ≡ false → None ≡ new_open s m r access (Some d)
unfolding new_open
not_persistent s m r access d e =
    ap (λ (v : Bool). if v then open_made (next_open s) m.client_guid d.guid (s.user m.session_id) access r.share r.options
    (timeout_of d.timeout) else None) (sym e)

pub persistent : (s : model.Server) (m : model.Message) (r : asks.CreateRequest) (d : asks.Durable)
    (id client guid : ℕ) (user : List ℕ) (access share options timeout : ℕ)
    → d.persistent ≡ true → id ≡ next_open s → client ≡ m.client_guid → guid ≡ d.guid → user ≡ s.user m.session_id
    → share ≡ r.share → options ≡ r.options → timeout ≡ timeout_of d.timeout
    → open_made id client guid user access share options timeout ≡ new_open s m r access (Some d)
unfolding new_open
persistent s m r d id client guid user access share options timeout p a b c e g h i =
    same_open id (next_open s) client m.client_guid guid d.guid user (s.user m.session_id) access access share r.share
    options r.options timeout (timeout_of d.timeout) a b c e refl g h i
    ∙ ap (λ (v : Bool). if v then open_made (next_open s) m.client_guid d.guid (s.user m.session_id) access r.share
    r.options (timeout_of d.timeout) else None) (sym p)

pub no_open : (s : model.Server) (m : model.Message) (r : asks.CreateRequest) (access : ℕ) → None ≡ new_open s m r access None
unfolding new_open
no_open s m r access = refl

pub an_id : (limit : Bool) (id next : ℕ) → limit ≡ false → Some id ≡ (if limit then None else Some next) → id ≡ next
an_id true id next e h = absurd (cc)
an_id false id next e h = some_is id next h
  where
    value : Option ℕ → ℕ
    value None = 0
    value (Some n) = n

    some_is : (id next : ℕ) → Some id ≡ Some next → id ≡ next
    some_is id next h = ap value h

pub no_id : (limit : Bool) (next : ℕ) → limit ≡ false → None ≡ (if limit then None else Some next) → ⊥
no_id true next e h = absurd (cc)
no_id false next e h = absurd (cc)

pub guid_again : (v : ℕ) → v < 2 ^ 128 → number_of (to_le_bytes w128 v) ≡ v
guid_again v l = ap number_of (sym (le_is 16 v)) ∙ number_of-le 16 v (omega arith)

-- ---- locks

pub not_recorded : (s : model.Server) (m : model.Message) (o index number status : ℕ) (es : List Element) (row : model.Open)
    (rs : List model.Record) → s.opened o ≡ row → row.persistent ≡ false → rs ≡ [] → rs ≡ lock_records s m o index number status es
unfolding lock_records
not_recorded s m o index number status es row rs e h none =
    none ∙ ap (λ (b : Bool). if b then model.LockRecord (origin_of m) o (recorded_index index) number status es ∷ [] else [])
    (sym h ∙ ap (λ (r : model.Open). r.persistent) (sym e))

pub recorded : (s : model.Server) (m : model.Message) (o index number status : ℕ) (es : List Element) (row : model.Open)
    (one : model.Record) (rs : List model.Record) → s.opened o ≡ row → row.persistent ≡ true → rs ≡ one ∷ []
    → one ≡ model.LockRecord (origin_of m) o (recorded_index index) number status es → rs ≡ lock_records s m o index number status es
unfolding lock_records
recorded s m o index number status es row one rs e h all is =
    all ∙ ap (λ (v : model.Record). v ∷ []) is
    ∙ ap (λ (b : Bool). if b then model.LockRecord (origin_of m) o (recorded_index index) number status es ∷ [] else [])
    (sym h ∙ ap (λ (r : model.Open). r.persistent) (sym e))

pub slot_small : (i : ℕ) → is_slot i ≡ true → i ≤ 64
slot_small i e = let l = back_of (nat_le 1 i) (nat_le i 64) e in grind (arith, nat_tests)

-- the journal's elements are those of a request
abbrev first_of : List ℕ → Element
first_of b = record { at = number 8 b 0; length = number 8 b 8; flags = number 4 b 16 }

same_elements : (n : ℕ) (b : List ℕ) → elements_kept n b ≡ elements_told n b
unfolding elements_kept elements_told
same_elements zero b = refl
same_elements (suc n) b = ap (λ (v : List Element). first_of b ∷ v) (same_elements n (drop 24 b))

pub read_again : (es : List Element) (b : List ℕ) → AreElements es → b ≡ all_bytes es → elements_kept (length b / 24) b ≡ es
read_again es b are e =
    let n : length (all_bytes es) / 24 ≡ length es = omega (arith, length-elements es are) in
    ap (λ (v : List ℕ). elements_kept (length v / 24) v) e ∙ ap (λ (k : ℕ). elements_kept k (all_bytes es)) n
    ∙ same_elements (length es) (all_bytes es) ∙ elements_again es are

-- each element that was read
pub more_elements : (es : List Element) (i : ℕ) (d : Element) → i < length es → (AreElements (drop i es) → AreElements es)
    → IsElement (get_or es i d) → AreElements (drop (i + 1) es) → AreElements es
more_elements es i d l before one rest =
    before (subst (λ (v : List Element). AreElements v) (sym (at_drop_more (λ (v : List Element). v) es i d l)) (one, rest))

pub all_elements : (es : List Element) (i : ℕ) → length es ≤ i → (AreElements (drop i es) → AreElements es) → AreElements es
all_elements es i l before = before (subst (λ (v : List Element). AreElements v) (sym (at_drop_all (λ (v : List Element). v) es i l)) tt)

-- ---- verdicts that owe nothing

pub none_owed : (s : model.Server) (m : model.Message) (now : ℕ) (c : asks.Command) (v : Verdict)
    → ((found : Option ℕ) (action : ℕ) → v ≡ codes.Make found action → ⊥)
    → ((id index number status : ℕ) → v ≡ codes.KeepSlot id index number status → ⊥)
    → ((id index number : ℕ) (ranges : Vec Range Global) → v ≡ codes.PutRanges id index number ranges → ⊥)
    → ((id : ℕ) (change : Change) (body : Body) → v ≡ codes.Alter id change body → ⊥)
    → ((id : ℕ) (body : Body) → v ≡ codes.CloseOpen id body → ⊥)
    → ((session : ℕ) (previous : Option ℕ) (quiet : Bool) → v ≡ codes.Begin session previous quiet → ⊥)
    → ((session : ℕ) (quiet : Bool) → v ≡ codes.EndSession session quiet → ⊥)
    → (v ≡ codes.DropTree → ⊥)
    → [] ≡ (apply s m now (verdict_of c v)).records
none_owed s m now c (codes.Make found action) h1 h2 h3 h4 h5 h6 h7 h8 = absurd (h1 found action refl)
none_owed s m now c (codes.KeepSlot id index number status) h1 h2 h3 h4 h5 h6 h7 h8 = absurd (h2 id index number status refl)
none_owed s m now c (codes.PutRanges id index number ranges) h1 h2 h3 h4 h5 h6 h7 h8 = absurd (h3 id index number ranges refl)
none_owed s m now c (codes.Alter id change body) h1 h2 h3 h4 h5 h6 h7 h8 = absurd (h4 id change body refl)
none_owed s m now c (codes.CloseOpen id body) h1 h2 h3 h4 h5 h6 h7 h8 = absurd (h5 id body refl)
none_owed s m now c (codes.Begin session previous quiet) h1 h2 h3 h4 h5 h6 h7 h8 = absurd (h6 session previous quiet refl)
none_owed s m now c (codes.EndSession session quiet) h1 h2 h3 h4 h5 h6 h7 h8 = absurd (h7 session quiet refl)
none_owed s m now c codes.DropTree h1 h2 h3 h4 h5 h6 h7 h8 = absurd (h8 refl)
none_owed s m now c _ h1 h2 h3 h4 h5 h6 h7 h8 = refl

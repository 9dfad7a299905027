-- A create that makes an open: the file first, then the open.
use Rattle.std.proofs.Common.{eqb-true, ◌≡◌, ℕ, ◌+◌, ◌/◌, ◌%◌, ◌≤◌, ◌<◌, ◌==◌, nat_lt, nat_le, max, Bool, true, false}
use Rattle.std.proofs.Common.{not, ◌&&◌, ◌||◌, if◌then◌else◌, List, [], ◌∷◌, length, refl, arith, sym, subst, ◌∙◌, ap}
use Rattle.std.proofs.Common.{Option, Some, None, is_some, slice_get}
use Rattle.std.proofs.lemmas.Bool.Decides.{nat_tests}
use Rattle.spec_exchange.specs.Table.{put, has, number_or_zero}
use Rattle.spec_exchange.specs.Texts.{is_path}
use Rattle.spec_exchange.specs.Commands.{CreateRequest, Durable, asks_directory}
use Rattle.spec_exchange.specs.State.{Server, Message, Open, Range, Origin, CreateRecord, NewOpen}
use Rattle.spec_exchange.specs.Files.{find, exists, is_directory, has_parent, empty_file}
use Rattle.spec_exchange.specs.Files.{file_attributes}
use Rattle.spec_exchange.specs.Opens.{id_of, max_ids, granted, add_open}
use Rattle.spec_exchange.specs.CheckCreate.{max_opens, max_files, last_file, empties, action_of}
use Rattle.spec_exchange.specs.Records.{origin_of}
use Rattle.spec_exchange.specs.Effects.{guid_of, is_persistent, timeout_asked, new_file, file_made, open_row, next_open}
use Rattle.spec_exchange.specs.Effects.{guids_after, make_open, new_open, create_records}
use Rattle.spec_exchange.specs.Effects.{made_attributes, final_attributes}
use Rattle.spec_exchange.specs.Fold.{with_record, fold_from, may_make, may_restore, may_have_open, may_create}
use Rattle.spec_exchange.specs.Fold.{restored_row, restore, created_file}
use Rattle.law_server.specs.tables.Fits.{Listed, GuidOpen, RangeOwners, OpenIds}
use Rattle.law_server.proofs.tables.Found.{MakeFacts, ThereFacts}
use Rattle.law_server.proofs.tables.Logic.{both}
use Rattle.law_records.specs.recovery.Recovers.{staying, kept_guid, Files, Mirrors}
use Rattle.law_records.proofs.recovery.Lists.{length_persistent}
use Rattle.law_records.proofs.recovery.Guards.{same_exists, same_directory, same_find, same_parent}
use Rattle.law_records.proofs.recovery.Files.{empties_file, makes_file}
use Rattle.law_records.proofs.recovery.Opens.{adds_plain, adds_persistent}

-- ---- the file

created_by : (d s : Server) (f attributes old now : ℕ) (path : List ℕ) (is_dir : Bool) (x y : Bool) → Mirrors d s
    → Mirrors (created_file d (if x then 0 else if y then 3 else 1) f path (if x || y then attributes else old) is_dir now)
    (if x || y then empty_file s f attributes now else s)
created_by d s f attributes old now path is_dir true y h = empties_file d s f attributes now h
created_by d s f attributes old now path is_dir false true h = empties_file d s f attributes now h
created_by d s f attributes old now path is_dir false false h = h

pub creates_file : (d s : Server) (r : CreateRequest) (found : Option ℕ) (now : ℕ) → Mirrors d s
    → Mirrors (created_file d (action_of r found) (new_file s found) r.path (final_attributes s r found) (asks_directory r) now) (file_made s r found now)
creates_file d s r None now h = makes_file d s r.path (asks_directory r) (made_attributes r) now h
creates_file d s r (Some f) now h = created_by d s f (file_attributes r.attributes) (s.basic f).attributes now r.path
    (asks_directory r) (r.disposition == 0) (nat_le 4 r.disposition) h

all_of : (a b c e f g : Bool) → a ≡ true → b ≡ true → c ≡ true → e ≡ true → f ≡ true → g ≡ true
    → (a && (b && (c && (e && (f && g))))) ≡ true
all_of a b c e f g ha hb hc he hf hg = grind arith

same_test : (n m : ℕ) → n ≡ m → (n == m) ≡ true
same_test n m e = grind arith

less : (n m : ℕ) → n < m → nat_lt n m ≡ true
less n m e = grind (arith, nat_tests)

at_most : (n m : ℕ) → n ≤ m → nat_le n m ≡ true
at_most n m e = grind (arith, nat_tests)

none_found : (x : Option ℕ) → x ≡ None → not (is_some x) ≡ true
none_found x e = rw e refl

may_by : (d : Server) (f : ℕ) (path : List ℕ) (x y : Bool) → exists d f ≡ true
    → (x || y ≡ true → is_directory d f ≡ false) → may_create d (if x then 0 else if y then 3 else 1) f path ≡ true
unfolding may_create
may_by d f path true y there plain = let p = plain refl in grind arith
may_by d f path false true there plain = let p = plain refl in grind arith
may_by d f path false false there plain = there

pub creates : (d s : Server) (m : Message) (r : CreateRequest) (found : Option ℕ) (action : ℕ)
    → MakeFacts s m r found action → Files d s → may_create d (action_of r found) (new_file s found) r.path ≡ true
unfolding may_create may_make
creates d s m r None action facts h =
    let miss = facts.missing refl in
    all_of (s.next_file == d.next_file) (is_path r.path) (not (is_some (find d r.path))) (has_parent d r.path)
    (nat_lt (length d.entries) max_files) (nat_le d.next_file last_file)
    (same_test s.next_file d.next_file (sym h.next_file)) facts.path
    (none_found (find d r.path) (same_find d s h.entries r.path ∙ sym facts.found_is))
    (same_parent d s h.entries h.directory r.path ∙ miss.parent)
    (less (length d.entries) max_files (subst (λ es. length es < max_files) (sym h.entries) miss.files))
    (at_most d.next_file last_file (subst (λ n. n ≤ last_file) (sym h.next_file) miss.number))
creates d s m r (Some f) action facts h =
    let there = facts.there f refl in
    may_by d f r.path (r.disposition == 0) (nat_le 4 r.disposition) (same_exists d s h.entries f ∙ there.there)
    (λ e. same_directory d s h.directory f ∙ emptied there e)
  where
    emptied : ThereFacts s r f → ((r.disposition == 0) || nat_le 4 r.disposition) ≡ true → is_directory s f ≡ false
    emptied there e = there.emptied e

-- ---- the id

-- what a new id is above
pub record NewId (s : Server) (o : ℕ) : Type 0 where
  pub new : s.standing o ≡ false
  pub absent : has o s.opens ≡ false
  pub above : (p : ℕ) → has p s.opens ≡ true → p < o
  pub guids : (c g p : ℕ) → s.by_guid c g ≡ Some p → s.standing p ≡ true
  pub owners : (f n : ℕ) (r : Range) → slice_get (s.ranges f) n ≡ Some r → s.standing r.owner ≡ true

not_standing : (b : Bool) (o last : ℕ) → (b ≡ true → 0 < o × o ≤ last) → last < o → b ≡ false
not_standing true o last h l = let k = (h refl).1 in absurd (omega arith)
not_standing false o last h l = refl

next_above : (epoch given : ℕ) → id_of epoch given < id_of epoch (given + 1)
next_above epoch given = omega arith

pub next_id : (s : Server) → Listed s → GuidOpen s → RangeOwners s → OpenIds s → NewId s (next_open s)
next_id s listed guids owners ids =
    let up = next_above s.epoch s.open_ids_given in
    let new = not_standing (s.standing (next_open s)) (next_open s) (id_of s.epoch s.open_ids_given) (ids (next_open s)) up in
    record {
      new = new;
      absent = listed (next_open s) ∙ new;
      above = λ p e. let low = (ids p (sym (listed p) ∙ e)).1 in omega arith;
      guids = λ c g p e. (guids c g p e).0;
      owners = λ f n r e. (owners f n r e).0;
    }

owners_made : (ranges : ℕ → List Range) (standing : ℕ → Bool) (k : ℕ) → ((f n : ℕ) (r : Range) → slice_get (ranges f) n
    ≡ Some r → standing r.owner ≡ true)
    → (f n : ℕ) (r : Range) → slice_get (put ranges k [] f) n ≡ Some r → standing r.owner ≡ true
owners_made ranges standing k h f n r e = elim (f == k) as (λ b. f == k ≡ b → standing r.owner ≡ true) [
  | true ↦ λ q. absurd (grind arith)
  | false ↦ λ q. h f n r (grind arith)
] refl

new_id_if : (s : Server) (o f attributes now : ℕ) (b : Bool) → NewId s o → NewId (if b then empty_file s f attributes now else s) o
new_id_if s o f attributes now true i = record { new = i.new; absent = i.absent; above = i.above; guids = i.guids; owners = i.owners }
new_id_if s o f attributes now false i = i

new_id_made : (s : Server) (o : ℕ) (r : CreateRequest) (found : Option ℕ) (now : ℕ) → NewId s o → NewId (file_made s r found now) o
new_id_made s o r None now i = record {
  new = i.new;
  absent = i.absent;
  above = i.above;
  guids = i.guids;
  owners = owners_made s.ranges s.standing s.next_file i.owners;
}
new_id_made s o r (Some f) now i = new_id_if s o f (file_attributes r.attributes) now (empties r.disposition) i

-- ---- the open

opens_persistent : (d s : Server) (o : ℕ) (row : Open) (session : Option ℕ) (sequence fold_given given : ℕ)
    (guids : ℕ → ℕ) → row.persistent ≡ true → NewId s o → fold_given ≤ given → Mirrors d s
    → Mirrors (record (add_open d o row None 0) { open_ids_given = fold_given })
    (record (add_open s o row session sequence) { open_ids_given = given; guids = guids })
opens_persistent d s o row session sequence fold_given given guids kept i few h = (
  h.0,
  adds_persistent d s o row session sequence i.new kept i.above i.guids i.owners h.1,
  record {
    version = h.2.version;
    epoch = h.2.epoch;
    open_ids_given = few;
    full = h.2.full;
    room = h.2.room;
    expired_guids = h.2.expired_guids;
    expired_count = h.2.expired_count;
  },
)

opens_plain : (d s : Server) (o : ℕ) (row : Open) (session : Option ℕ) (sequence given : ℕ) (guids : ℕ → ℕ)
    → row.persistent ≡ false → NewId s o → ((g : ℕ) → row.create_guid ≡ Some g → s.by_guid row.client_guid g ≡ None)
    → d.open_ids_given ≤ given → Mirrors d s
    → Mirrors d (record (add_open s o row session sequence) { open_ids_given = given; guids = guids })
opens_plain d s o row session sequence given guids plain i free few h = (
  h.0,
  adds_plain d s o row session sequence i.new i.absent plain free h.1,
  record {
    version = h.2.version;
    epoch = h.2.epoch;
    open_ids_given = few;
    full = h.2.full;
    room = h.2.room;
    expired_guids = h.2.expired_guids;
    expired_count = h.2.expired_count;
  },
)

-- ---- the row of the record

abbrev row_kept : Server → Message → CreateRequest → ℕ → Option Durable → NewOpen
row_kept s m r access asked =
    record {
      id = next_open s;
      client_guid = m.client_guid;
      create_guid = number_or_zero (guid_of asked);
      user = s.user m.session_id;
      access = access;
      share = r.share;
      options = r.options;
      timeout = timeout_asked asked;
    }

new_open_is : (s : Server) (m : Message) (r : CreateRequest) (access : ℕ) (asked : Option Durable) → is_persistent asked ≡ true
    → new_open s m r access asked ≡ Some (row_kept s m r access asked)
unfolding new_open
new_open_is s m r access None e = absurd (cc)
new_open_is s m r access (Some x) e = rw e refl

no_open_is : (s : Server) (m : Message) (r : CreateRequest) (access : ℕ) (asked : Option Durable) → is_persistent asked ≡ false
    → new_open s m r access asked ≡ None
unfolding new_open
no_open_is s m r access None e = refl
no_open_is s m r access (Some x) e = rw e refl

guid_some : (asked : Option Durable) → is_persistent asked ≡ true → Some (number_or_zero (guid_of asked)) ≡ guid_of asked
guid_some None e = absurd (cc)
guid_some (Some x) e = refl

same_row : (s : Server) (m : Message) (r : CreateRequest) (f action : ℕ) → is_persistent r.durable ≡ true
    → restored_row (row_kept s m r (granted s f r.access) r.durable) f action ≡ open_row s m r f action
same_row s m r f action e =
    let g = guid_some r.durable e in
    λ t. record {
      file = f;
      access = granted s f r.access;
      share = r.share;
      options = r.options;
      action = action;
      persistent = sym e t;
      client_guid = m.client_guid;
      create_guid = g t;
      user = s.user m.session_id;
      timeout = timeout_asked r.durable;
    }

-- ---- the guard of the open

id_parts : (epoch counter : ℕ) → counter ≤ max_ids → id_of epoch counter / 0x1_0000_0000 ≡ epoch
    × id_of epoch counter % 0x1_0000_0000 ≡ counter
id_parts epoch counter l = (omega arith, omega arith)

guid_free : (s : Server) (m : Message) (asked : Option Durable)
    → ((x : Durable) → asked ≡ Some x → s.by_guid m.client_guid x.guid ≡ None) → is_persistent asked ≡ true
    → s.by_guid m.client_guid (number_or_zero (guid_of asked)) ≡ None
guid_free s m None h e = absurd (cc)
guid_free s m (Some x) h e = h x refl

kept_none : (p : ℕ → Bool) (x : Option ℕ) → x ≡ None → kept_guid p x ≡ None
kept_none p x e = rw e refl

not_stays : (x y : Bool) → x ≡ false → not (x && y) ≡ true
not_stays x y e = rw e refl

pub restores : (d s : Server) (m : Message) (r : CreateRequest) (found : Option ℕ) (action : ℕ)
    → MakeFacts s m r found action → NewId s (next_open s) → Mirrors d s → is_persistent r.durable ≡ true
    → may_restore d (row_kept s m r (granted s (new_file s found) r.access) r.durable) ≡ true
unfolding may_restore
restores d s m r found action facts i h kept =
    let lim = facts.given in let few = h.2.open_ids_given in let parts = id_parts s.epoch (s.open_ids_given + 1)
    (omega arith) in let o = next_open s in
    let room = length_persistent s.opened s.opens in let most = facts.opens in
    all_of (o / 0x1_0000_0000 == d.epoch) (nat_lt 0 (o % 0x1_0000_0000)) (nat_lt d.open_ids_given max_ids)
    (not (d.standing o)) (not (is_some (d.by_guid m.client_guid (number_or_zero (guid_of r.durable)))))
    (nat_lt (length d.opens) max_opens)
    (same_test (o / 0x1_0000_0000) d.epoch (parts.0 ∙ sym h.2.epoch))
    (less 0 (o % 0x1_0000_0000) (rw (parts.1) (omega arith)))
    (less d.open_ids_given max_ids (omega arith))
    (ap not (h.1.standing o) ∙ not_stays (s.standing o) (s.opened o).persistent i.new)
    (none_found _ (h.1.by_guid m.client_guid (number_or_zero (guid_of r.durable))
    ∙ kept_none (staying s.standing s.opened) _ (guid_free s m r.durable facts.new.no_open kept)))
    (less (length d.opens) max_opens (subst (λ (os : List ℕ). length os < max_opens) (sym h.1.opens) (omega arith)))

-- ---- both

create_record : (d : Server) (origin : Origin) (action f : ℕ) (path : List ℕ) (attributes : ℕ) (is_dir : Bool)
    (time : ℕ) (opened : Option NewOpen) → may_create d action f path ≡ true → may_have_open d opened ≡ true
    → with_record d (CreateRecord origin action f path attributes is_dir time opened)
    ≡ restore (created_file d action f path attributes is_dir time) f action opened
create_record d origin action f path attributes is_dir time opened a b =
    rw (both (may_create d action f path) (may_have_open d opened) a b) refl

given_more : (fg given counter : ℕ) → fg ≤ given → counter ≡ given + 1 → max fg counter ≤ given + 1
given_more fg given counter l e = omega arith

and_off : {X : Type 0} (x : Bool) (a b : X) → (if x && false then a else b) ≡ b
and_off true a b = refl
and_off false a b = refl

given_if : (s : Server) (f attributes now : ℕ) (b : Bool)
    → (if b then empty_file s f attributes now else s).open_ids_given ≡ s.open_ids_given
given_if s f attributes now true = refl
given_if s f attributes now false = refl

given_made : (s : Server) (r : CreateRequest) (found : Option ℕ) (now : ℕ) → (file_made s r found now).open_ids_given ≡ s.open_ids_given
given_made s r None now = refl
given_made s r (Some f) now = given_if s f (file_attributes r.attributes) now (empties r.disposition)

guids_if : (s : Server) (f attributes now : ℕ) (b : Bool) → (if b then empty_file s f attributes now else s).by_guid ≡ s.by_guid
guids_if s f attributes now true = refl
guids_if s f attributes now false = refl

guids_made : (s : Server) (r : CreateRequest) (found : Option ℕ) (now : ℕ) → (file_made s r found now).by_guid ≡ s.by_guid
guids_made s r None now = refl
guids_made s r (Some f) now = guids_if s f (file_attributes r.attributes) now (empties r.disposition)

kept_create : (s : Server) (m : Message) (r : CreateRequest) (found : Option ℕ) (action now : ℕ) → is_persistent r.durable ≡ true
    → create_records s m r found action now ≡ CreateRecord (origin_of m) action (new_file s found) r.path (final_attributes s r found)
    (asks_directory r) now (Some (row_kept s m r (granted s (new_file s found) r.access) r.durable)) ∷ []
unfolding create_records
kept_create s m r found action now kept = rw (new_open_is s m r (granted s (new_file s found) r.access) r.durable kept, kept) (and_off (action == 1) _ _)

plain_create : (s : Server) (m : Message) (r : CreateRequest) (found : Option ℕ) (action now : ℕ) → is_persistent r.durable ≡ false
    → create_records s m r found action now
    ≡ (if action == 1 then [] else CreateRecord (origin_of m) action (new_file s found) r.path (final_attributes s r found)
    (asks_directory r) now None ∷ [])
unfolding create_records
plain_create s m r found action now plain = rw (no_open_is s m r (granted s (new_file s found) r.access) r.durable plain, plain) (and_on (action == 1) _ _)
  where
    and_on : {X : Type 0} (x : Bool) (a b : X) → (if x && true then a else b) ≡ (if x then a else b)
    and_on true a b = refl
    and_on false a b = refl

abbrev file_created : Server → Server → CreateRequest → Option ℕ → ℕ → Server
file_created d s r found now = created_file d (action_of r found) (new_file s found) r.path (final_attributes s r found) (asks_directory r) now

few_of : (fold_given s_given t_given : ℕ) → fold_given ≤ t_given → t_given ≡ s_given → fold_given ≤ s_given
few_of a b c h e = omega arith

persistent_at : (d s : Server) (m : Message) (r : CreateRequest) (found : Option ℕ) (action now : ℕ)
    → MakeFacts s m r found action → NewId s (next_open s) → Mirrors d s → is_persistent r.durable ≡ true
    → Mirrors (fold_from d (create_records s m r found (action_of r found) now)) (make_open s m r found (action_of r found) now)
unfolding fold_from may_have_open
persistent_at d s m r found action now facts i h kept =
    let a = action_of r found in let f = new_file s found in let o = next_open s in let c = file_created d s r found now
    in let u = file_made s r found now in let n = row_kept s m r (granted s (new_file s found) r.access) r.durable in
    let both_files = creates_file d s r found now h in
    let lim = facts.given in
    let parts = id_parts s.epoch (s.open_ids_given + 1) (omega arith) in
    let e = create_record d (origin_of m) a f r.path (final_attributes s r found) (asks_directory r) now (Some n)
    (creates d s m r found action facts h.0) (restores d s m r found action facts i h kept) in
    subst (λ rs. Mirrors (fold_from d rs) (make_open s m r found a now)) (sym (kept_create s m r found a now kept))
    (subst (λ x. Mirrors x (make_open s m r found a now)) (sym e)
    (subst (λ row. Mirrors (record (add_open c o row None 0) {
      open_ids_given = max c.open_ids_given (o % 0x1_0000_0000);
    }) (make_open s m r found a now))
    (sym (same_row s m r f a kept))
    (opens_persistent c u o (open_row s m r f a) (Some m.session_id) m.channel_sequence
    (max c.open_ids_given (o % 0x1_0000_0000)) (s.open_ids_given + 1) (guids_after s m.session_id r.durable) kept
    (new_id_made s o r found now i)
    (given_more c.open_ids_given s.open_ids_given (o % 0x1_0000_0000) (few_of c.open_ids_given s.open_ids_given
    u.open_ids_given both_files.2.open_ids_given (given_made s r found now)) parts.1) both_files)))

pub makes_persistent : (d s : Server) (m : Message) (r : CreateRequest) (found : Option ℕ) (action now : ℕ)
    → MakeFacts s m r found action → NewId s (next_open s) → Mirrors d s → is_persistent r.durable ≡ true
    → Mirrors (fold_from d (create_records s m r found action now)) (make_open s m r found action now)
makes_persistent d s m r found action now facts i h kept =
    subst (λ a. Mirrors (fold_from d (create_records s m r found a now)) (make_open s m r found a now))
    (sym facts.action_is) (persistent_at d s m r found action now facts i h kept)

guid_of_row : (by : ℕ → ℕ → Option ℕ) (client : ℕ) (asked : Option Durable)
    → ((x : Durable) → asked ≡ Some x → by client x.guid ≡ None) → (g : ℕ) → guid_of asked ≡ Some g → by client g ≡ None
guid_of_row by client None h g e = absurd (cc)
guid_of_row by client (Some x) h g e = let old = h x refl in grind arith

plain_file : (d s : Server) (m : Message) (r : CreateRequest) (found : Option ℕ) (action now : ℕ) (b : Bool)
    → MakeFacts s m r found action → Files d s → (action_of r found == 1) ≡ b
    → fold_from d (if b then [] else CreateRecord (origin_of m) (action_of r found) (new_file s found) r.path
    (final_attributes s r found) (asks_directory r) now None ∷ []) ≡ file_created d s r found now
unfolding fold_from may_have_open
plain_file d s m r found action now true facts h e =
    sym (ap (λ a. created_file d a (new_file s found) r.path (final_attributes s r found) (asks_directory r) now) (eqb-true (action_of r found) 1 e))
plain_file d s m r found action now false facts h e =
    create_record d (origin_of m) (action_of r found) (new_file s found) r.path (final_attributes s r found) (asks_directory r) now None
    (creates d s m r found action facts h) refl

plain_at : (d s : Server) (m : Message) (r : CreateRequest) (found : Option ℕ) (action now : ℕ)
    → MakeFacts s m r found action → NewId s (next_open s) → Mirrors d s → is_persistent r.durable ≡ false
    → Mirrors (fold_from d (create_records s m r found (action_of r found) now)) (make_open s m r found (action_of r found) now)
plain_at d s m r found action now facts i h plain =
    let a = action_of r found in let f = new_file s found in let o = next_open s in let c = file_created d s r found now
    in let u = file_made s r found now in
    let both_files = creates_file d s r found now h in
    let few = few_of c.open_ids_given s.open_ids_given u.open_ids_given both_files.2.open_ids_given (given_made s r found now) in
    subst (λ x. Mirrors x (make_open s m r found a now)) (sym (ap (fold_from d) (plain_create s m r found a now plain)
    ∙ plain_file d s m r found action now (a == 1) facts h.0 refl))
    (opens_plain c u o (open_row s m r f a) (Some m.session_id) m.channel_sequence (s.open_ids_given + 1)
    (guids_after s m.session_id r.durable) plain (new_id_made s o r found now i)
    (subst (λ (by : ℕ → ℕ → Option ℕ). (g : ℕ) → guid_of r.durable ≡ Some g → by m.client_guid g ≡ None)
    (sym (guids_made s r found now)) (guid_of_row s.by_guid m.client_guid r.durable facts.new.no_open))
    (omega arith) both_files)

pub makes_plain : (d s : Server) (m : Message) (r : CreateRequest) (found : Option ℕ) (action now : ℕ)
    → MakeFacts s m r found action → NewId s (next_open s) → Mirrors d s → is_persistent r.durable ≡ false
    → Mirrors (fold_from d (create_records s m r found action now)) (make_open s m r found action now)
makes_plain d s m r found action now facts i h plain =
    subst (λ a. Mirrors (fold_from d (create_records s m r found a now)) (make_open s m r found a now))
    (sym facts.action_is) (plain_at d s m r found action now facts i h plain)

pub makes : (d s : Server) (m : Message) (r : CreateRequest) (found : Option ℕ) (action now : ℕ)
    → MakeFacts s m r found action → NewId s (next_open s) → Mirrors d s
    → Mirrors (fold_from d (create_records s m r found action now)) (make_open s m r found action now)
makes d s m r found action now facts i h =
    elim (is_persistent r.durable) as (λ b. is_persistent r.durable ≡ b
    → Mirrors (fold_from d (create_records s m r found action now)) (make_open s m r found action now)) [
      | true ↦ λ e. makes_persistent d s m r found action now facts i h e
      | false ↦ λ e. makes_plain d s m r found action now facts i h e
    ] refl

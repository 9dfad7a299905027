-- The opens of a tree, closed one after the other: what stays as it is, and that what fits together does still.
use Rattle.std.proofs.Common.{◌≡◌, ℕ, ◌==◌, Bool, true, false, List, [], ◌∷◌, refl, arith, subst, ◌∙◌, ap, Option, Some, None}
use Rattle.spec_exchange.specs.Table.{put, has}
use Rattle.spec_exchange.specs.Commands.{deletes_on_close}
use Rattle.spec_exchange.specs.State.{Server, Tree}
use Rattle.spec_exchange.specs.Files.{set_delete_pending}
use Rattle.spec_exchange.specs.Opens.{drop_open, with_guid, goes, without_gone, is_kept_back, left_file, leave_open, is_of_session, is_of_tree}
use Rattle.spec_exchange.specs.Effects.{leave_all, keep_closed, keep_all_closed, close_all, tree_opens_in, opens_of_tree}
use Rattle.spec_exchange.specs.Effects.{without_tree, drop_tree}
use Rattle.law_server.specs.tables.Fits.{Fits, is_ascending}
use Rattle.law_server.proofs.tables.Logic.{either, front_of}
use Rattle.law_server.proofs.tables.Lists.{ascending-rest, ascending-other, ascending-tree}
use Rattle.law_server.proofs.tables.Leaving.{leave_open_keeps}
use Rattle.law_server.proofs.tables.SessionEffects.{close_guid_keeps, less_tree_keeps}

-- ---- what no open that leaves changes

pub record Beside (s t : Server) : Type 0 where
  pub share : t.share ≡ s.share
  pub room : t.room ≡ s.room
  pub encrypts : t.encrypts ≡ s.encrypts
  pub address : t.address ≡ s.address
  pub version : t.version ≡ s.version
  pub epoch : t.epoch ≡ s.epoch
  pub journal : t.journal ≡ s.journal
  pub limit : t.limit ≡ s.limit
  pub next_file : t.next_file ≡ s.next_file
  pub directory : t.directory ≡ s.directory
  pub basic : t.basic ≡ s.basic
  pub content : t.content ≡ s.content
  pub stored : t.stored ≡ s.stored
  pub open_ids_given : t.open_ids_given ≡ s.open_ids_given
  pub opened : t.opened ≡ s.opened
  pub tree_of_open : t.tree_of_open ≡ s.tree_of_open
  pub sequence : t.sequence ≡ s.sequence
  pub enumeration_location : t.enumeration_location ≡ s.enumeration_location
  pub current_byte_offset : t.current_byte_offset ≡ s.current_byte_offset
  pub lock_sequences : t.lock_sequences ≡ s.lock_sequences
  pub expired_guids : t.expired_guids ≡ s.expired_guids
  pub expired_count : t.expired_count ≡ s.expired_count
  pub present : t.present ≡ s.present
  pub sessions : t.sessions ≡ s.sessions
  pub session_ids_given : t.session_ids_given ≡ s.session_ids_given
  pub user : t.user ≡ s.user
  pub client : t.client ≡ s.client
  pub cipher : t.cipher ≡ s.cipher
  pub signing : t.signing ≡ s.signing
  pub channel_numbers_drawn : t.channel_numbers_drawn ≡ s.channel_numbers_drawn
  pub trees : t.trees ≡ s.trees
  pub next_tree : t.next_tree ≡ s.next_tree
  pub refused : t.refused ≡ s.refused
  pub guids : t.guids ≡ s.guids
  pub connections : t.connections ≡ s.connections
  pub session_on : t.session_on ≡ s.session_on
  pub making : t.making ≡ s.making

pub beside_none : (s : Server) → Beside s s
beside_none s = record {
  share = refl;
  room = refl;
  encrypts = refl;
  address = refl;
  version = refl;
  epoch = refl;
  journal = refl;
  limit = refl;
  next_file = refl;
  directory = refl;
  basic = refl;
  content = refl;
  stored = refl;
  open_ids_given = refl;
  opened = refl;
  tree_of_open = refl;
  sequence = refl;
  enumeration_location = refl;
  current_byte_offset = refl;
  lock_sequences = refl;
  expired_guids = refl;
  expired_count = refl;
  present = refl;
  sessions = refl;
  session_ids_given = refl;
  user = refl;
  client = refl;
  cipher = refl;
  signing = refl;
  channel_numbers_drawn = refl;
  trees = refl;
  next_tree = refl;
  refused = refl;
  guids = refl;
  connections = refl;
  session_on = refl;
  making = refl;
}

pub beside_both : (s t u : Server) → Beside s t → Beside t u → Beside s u
beside_both s t u a b = record {
  share = b.share ∙ a.share;
  room = b.room ∙ a.room;
  encrypts = b.encrypts ∙ a.encrypts;
  address = b.address ∙ a.address;
  version = b.version ∙ a.version;
  epoch = b.epoch ∙ a.epoch;
  journal = b.journal ∙ a.journal;
  limit = b.limit ∙ a.limit;
  next_file = b.next_file ∙ a.next_file;
  directory = b.directory ∙ a.directory;
  basic = b.basic ∙ a.basic;
  content = b.content ∙ a.content;
  stored = b.stored ∙ a.stored;
  open_ids_given = b.open_ids_given ∙ a.open_ids_given;
  opened = b.opened ∙ a.opened;
  tree_of_open = b.tree_of_open ∙ a.tree_of_open;
  sequence = b.sequence ∙ a.sequence;
  enumeration_location = b.enumeration_location ∙ a.enumeration_location;
  current_byte_offset = b.current_byte_offset ∙ a.current_byte_offset;
  lock_sequences = b.lock_sequences ∙ a.lock_sequences;
  expired_guids = b.expired_guids ∙ a.expired_guids;
  expired_count = b.expired_count ∙ a.expired_count;
  present = b.present ∙ a.present;
  sessions = b.sessions ∙ a.sessions;
  session_ids_given = b.session_ids_given ∙ a.session_ids_given;
  user = b.user ∙ a.user;
  client = b.client ∙ a.client;
  cipher = b.cipher ∙ a.cipher;
  signing = b.signing ∙ a.signing;
  channel_numbers_drawn = b.channel_numbers_drawn ∙ a.channel_numbers_drawn;
  trees = b.trees ∙ a.trees;
  next_tree = b.next_tree ∙ a.next_tree;
  refused = b.refused ∙ a.refused;
  guids = b.guids ∙ a.guids;
  connections = b.connections ∙ a.connections;
  session_on = b.session_on ∙ a.session_on;
  making = b.making ∙ a.making;
}

dropped : (s : Server) (o : ℕ) → Beside s (drop_open s o)
dropped s o = record {
  share = refl;
  room = refl;
  encrypts = refl;
  address = refl;
  version = refl;
  epoch = refl;
  journal = refl;
  limit = refl;
  next_file = refl;
  directory = refl;
  basic = refl;
  content = refl;
  stored = refl;
  open_ids_given = refl;
  opened = refl;
  tree_of_open = refl;
  sequence = refl;
  enumeration_location = refl;
  current_byte_offset = refl;
  lock_sequences = refl;
  expired_guids = refl;
  expired_count = refl;
  present = refl;
  sessions = refl;
  session_ids_given = refl;
  user = refl;
  client = refl;
  cipher = refl;
  signing = refl;
  channel_numbers_drawn = refl;
  trees = refl;
  next_tree = refl;
  refused = refl;
  guids = refl;
  connections = refl;
  session_on = refl;
  making = refl;
}

gone : (s t : Server) (f : ℕ) → Beside s t → Beside s (without_gone t f)
gone s t f a = either (λ u. Beside s u) (goes t f) _ _ (λ _. record {
  share = a.share;
  room = a.room;
  encrypts = a.encrypts;
  address = a.address;
  version = a.version;
  epoch = a.epoch;
  journal = a.journal;
  limit = a.limit;
  next_file = a.next_file;
  directory = a.directory;
  basic = a.basic;
  content = a.content;
  stored = a.stored;
  open_ids_given = a.open_ids_given;
  opened = a.opened;
  tree_of_open = a.tree_of_open;
  sequence = a.sequence;
  enumeration_location = a.enumeration_location;
  current_byte_offset = a.current_byte_offset;
  lock_sequences = a.lock_sequences;
  expired_guids = a.expired_guids;
  expired_count = a.expired_count;
  present = a.present;
  sessions = a.sessions;
  session_ids_given = a.session_ids_given;
  user = a.user;
  client = a.client;
  cipher = a.cipher;
  signing = a.signing;
  channel_numbers_drawn = a.channel_numbers_drawn;
  trees = a.trees;
  next_tree = a.next_tree;
  refused = a.refused;
  guids = a.guids;
  connections = a.connections;
  session_on = a.session_on;
  making = a.making;
}) (λ _. a)

settled : (s t : Server) (f : ℕ) → Beside s t → Beside s (left_file t f)
settled s t f a = either (λ u. Beside s u) (is_kept_back t f) _ _ (λ _. record {
  share = a.share;
  room = a.room;
  encrypts = a.encrypts;
  address = a.address;
  version = a.version;
  epoch = a.epoch;
  journal = a.journal;
  limit = a.limit;
  next_file = a.next_file;
  directory = a.directory;
  basic = a.basic;
  content = a.content;
  stored = a.stored;
  open_ids_given = a.open_ids_given;
  opened = a.opened;
  tree_of_open = a.tree_of_open;
  sequence = a.sequence;
  enumeration_location = a.enumeration_location;
  current_byte_offset = a.current_byte_offset;
  lock_sequences = a.lock_sequences;
  expired_guids = a.expired_guids;
  expired_count = a.expired_count;
  present = a.present;
  sessions = a.sessions;
  session_ids_given = a.session_ids_given;
  user = a.user;
  client = a.client;
  cipher = a.cipher;
  signing = a.signing;
  channel_numbers_drawn = a.channel_numbers_drawn;
  trees = a.trees;
  next_tree = a.next_tree;
  refused = a.refused;
  guids = a.guids;
  connections = a.connections;
  session_on = a.session_on;
  making = a.making;
}) (λ _. gone s t f a)

pending_too : (s : Server) (f : ℕ) (t : Server) → Beside (set_delete_pending s f true) t → Beside s t
pending_too s f t a = record {
  share = a.share;
  room = a.room;
  encrypts = a.encrypts;
  address = a.address;
  version = a.version;
  epoch = a.epoch;
  journal = a.journal;
  limit = a.limit;
  next_file = a.next_file;
  directory = a.directory;
  basic = a.basic;
  content = a.content;
  stored = a.stored;
  open_ids_given = a.open_ids_given;
  opened = a.opened;
  tree_of_open = a.tree_of_open;
  sequence = a.sequence;
  enumeration_location = a.enumeration_location;
  current_byte_offset = a.current_byte_offset;
  lock_sequences = a.lock_sequences;
  expired_guids = a.expired_guids;
  expired_count = a.expired_count;
  present = a.present;
  sessions = a.sessions;
  session_ids_given = a.session_ids_given;
  user = a.user;
  client = a.client;
  cipher = a.cipher;
  signing = a.signing;
  channel_numbers_drawn = a.channel_numbers_drawn;
  trees = a.trees;
  next_tree = a.next_tree;
  refused = a.refused;
  guids = a.guids;
  connections = a.connections;
  session_on = a.session_on;
  making = a.making;
}

pub left_beside : (s : Server) (o : ℕ) → Beside s (leave_open s o)
left_beside s o =
    either (λ (t : Server). Beside s (left_file (drop_open t o) (s.opened o).file)) (deletes_on_close (s.opened o).options) _ _
    (λ _. settled s _ (s.opened o).file (pending_too s (s.opened o).file _ (dropped (set_delete_pending s (s.opened o).file true) o)))
    (λ _. settled s _ (s.opened o).file (dropped s o))

pub all_left_beside : (s : Server) (os : List ℕ) → Beside s (leave_all s os)
unfolding leave_all
all_left_beside s [] = beside_none s
all_left_beside s (o ∷ os) = beside_both s (leave_open s o) _ (left_beside s o) (all_left_beside (leave_open s o) os)

guid_beside : (s : Server) (session : ℕ) (guid : Option ℕ) → Beside s (keep_closed s session guid)
guid_beside s session None = beside_none s
guid_beside s session (Some g) = record {
  share = refl;
  room = refl;
  encrypts = refl;
  address = refl;
  version = refl;
  epoch = refl;
  journal = refl;
  limit = refl;
  next_file = refl;
  directory = refl;
  basic = refl;
  content = refl;
  stored = refl;
  open_ids_given = refl;
  opened = refl;
  tree_of_open = refl;
  sequence = refl;
  enumeration_location = refl;
  current_byte_offset = refl;
  lock_sequences = refl;
  expired_guids = refl;
  expired_count = refl;
  present = refl;
  sessions = refl;
  session_ids_given = refl;
  user = refl;
  client = refl;
  cipher = refl;
  signing = refl;
  channel_numbers_drawn = refl;
  trees = refl;
  next_tree = refl;
  refused = refl;
  guids = refl;
  connections = refl;
  session_on = refl;
  making = refl;
}

pub all_kept_beside : (s : Server) (session : ℕ) (os : List ℕ) → Beside s (keep_all_closed s session os)
unfolding keep_all_closed
all_kept_beside s session [] = beside_none s
all_kept_beside s session (o ∷ os) = beside_both s (keep_closed s session (s.opened o).create_guid) _
    (guid_beside s session (s.opened o).create_guid)
    (all_kept_beside (keep_closed s session (s.opened o).create_guid) session os)

pub closed_beside : (s : Server) (session : ℕ) (os : List ℕ) → Beside s (close_all s session os)
closed_beside s session os = beside_both s (leave_all s os) _ (all_left_beside s os) (all_kept_beside (leave_all s os) session os)

pub left_present : (s : Server) (o : ℕ) → (leave_open s o).present ≡ s.present
left_present s o = (left_beside s o).present

-- ---- what each open that leaves takes away, and no more

pub record Fewer (s t : Server) : Type 0 where
  pub standing : (p : ℕ) → t.standing p ≡ true → s.standing p ≡ true
  pub session_of_open : (p x : ℕ) → t.session_of_open p ≡ Some x → s.session_of_open p ≡ Some x
  pub by_guid : (c g p : ℕ) → t.by_guid c g ≡ Some p → s.by_guid c g ≡ Some p

fewer_none : (s : Server) → Fewer s s
fewer_none s = record { standing = λ p h. h; session_of_open = λ p x h. h; by_guid = λ c g p h. h }

fewer_both : (s t u : Server) → Fewer s t → Fewer t u → Fewer s u
fewer_both s t u a b = record {
  standing = λ p h. a.standing p (b.standing p h);
  session_of_open = λ p x h. a.session_of_open p x (b.session_of_open p x h);
  by_guid = λ c g p h. a.by_guid c g p (b.by_guid c g p h);
}

fewer_guid : (by : ℕ → ℕ → Option ℕ) (client : ℕ) (guid : Option ℕ) (c g p : ℕ) → with_guid by client guid None c g ≡ Some p
    → by c g ≡ Some p
fewer_guid by client None c g p h = h
fewer_guid by client (Some x) c g p h = grind arith

fewer_dropped : (s : Server) (o : ℕ) → Fewer s (drop_open s o)
fewer_dropped s o = record {
  standing = λ p h. grind arith;
  session_of_open = λ p x h. grind arith;
  by_guid = λ c g p h. fewer_guid s.by_guid (s.opened o).client_guid (s.opened o).create_guid c g p h;
}

fewer_gone : (s t : Server) (f : ℕ) → Fewer s t → Fewer s (without_gone t f)
fewer_gone s t f a = either (λ u. Fewer s u) (goes t f) _ _
    (λ _. record { standing = a.standing; session_of_open = a.session_of_open; by_guid = a.by_guid }) (λ _. a)

fewer_settled : (s t : Server) (f : ℕ) → Fewer s t → Fewer s (left_file t f)
fewer_settled s t f a = either (λ u. Fewer s u) (is_kept_back t f) _ _
    (λ _. record { standing = a.standing; session_of_open = a.session_of_open; by_guid = a.by_guid }) (λ _. fewer_gone s t f a)

fewer_pending : (s : Server) (f : ℕ) (t : Server) → Fewer (set_delete_pending s f true) t → Fewer s t
fewer_pending s f t a = record { standing = a.standing; session_of_open = a.session_of_open; by_guid = a.by_guid }

pub left_fewer : (s : Server) (o : ℕ) → Fewer s (leave_open s o)
left_fewer s o =
    either (λ (t : Server). Fewer s (left_file (drop_open t o) (s.opened o).file)) (deletes_on_close (s.opened o).options) _ _
    (λ _. fewer_settled s _ (s.opened o).file (fewer_pending s (s.opened o).file _
    (fewer_dropped (set_delete_pending s (s.opened o).file true) o)))
    (λ _. fewer_settled s _ (s.opened o).file (fewer_dropped s o))

all_left_fewer : (s : Server) (os : List ℕ) → Fewer s (leave_all s os)
unfolding leave_all
all_left_fewer s [] = fewer_none s
all_left_fewer s (o ∷ os) = fewer_both s (leave_open s o) _ (left_fewer s o) (all_left_fewer (leave_open s o) os)

guid_fewer : (s : Server) (session : ℕ) (guid : Option ℕ) → Fewer s (keep_closed s session guid)
guid_fewer s session None = fewer_none s
guid_fewer s session (Some g) = record { standing = λ p h. h; session_of_open = λ p x h. h; by_guid = λ c g p h. h }

all_kept_fewer : (s : Server) (session : ℕ) (os : List ℕ) → Fewer s (keep_all_closed s session os)
unfolding keep_all_closed
all_kept_fewer s session [] = fewer_none s
all_kept_fewer s session (o ∷ os) = fewer_both s (keep_closed s session (s.opened o).create_guid) _
    (guid_fewer s session (s.opened o).create_guid)
    (all_kept_fewer (keep_closed s session (s.opened o).create_guid) session os)

pub closed_fewer : (s : Server) (session : ℕ) (os : List ℕ) → Fewer s (close_all s session os)
closed_fewer s session os = fewer_both s (leave_all s os) _ (all_left_fewer s os) (all_kept_fewer (leave_all s os) session os)

-- ---- each stands where it leaves

abbrev pub StandInTurn : Server → List ℕ → Type 0
StandInTurn s [] = Unit {0}
StandInTurn s (o ∷ os) = (s.standing o ≡ true) × StandInTurn (leave_open s o) os

gone_standing : (s : Server) (f : ℕ) → (without_gone s f).standing ≡ s.standing
gone_standing s f = either (λ (t : Server). t.standing ≡ s.standing) (goes s f) _ _ (λ _. refl) (λ _. refl)

settled_standing : (s : Server) (f : ℕ) → (left_file s f).standing ≡ s.standing
settled_standing s f = either (λ (t : Server). t.standing ≡ s.standing) (is_kept_back s f) _ _ (λ _. refl) (λ _. gone_standing s f)

pub left_standing : (s : Server) (o : ℕ) → (leave_open s o).standing ≡ put s.standing o false
left_standing s o =
    either (λ (t : Server). (left_file (drop_open t o) (s.opened o).file).standing ≡ put s.standing o false)
    (deletes_on_close (s.opened o).options) _ _
    (λ _. settled_standing (drop_open (set_delete_pending s (s.opened o).file true) o) (s.opened o).file)
    (λ _. settled_standing (drop_open s o) (s.opened o).file)

other_stands : (s : Server) (o p : ℕ) → (o == p) ≡ false → s.standing p ≡ true → (leave_open s o).standing p ≡ true
other_stands s o p n h = ap (λ (f : ℕ → Bool). f p) (left_standing s o) ∙ by (o == p) n
  where
    by : (b : Bool) → b ≡ false → put s.standing o false p ≡ true
    by b e = grind arith

head_has : (o : ℕ) (os : List ℕ) → has o (o ∷ os) ≡ true
head_has o os = grind arith

tail_has : (o p : ℕ) (os : List ℕ) → has p os ≡ true → has p (o ∷ os) ≡ true
tail_has o p os h = grind arith

pub in_turn : (s : Server) (os : List ℕ) → is_ascending os ≡ true → ((p : ℕ) → has p os ≡ true → s.standing p ≡ true) → StandInTurn s os
in_turn s [] a each = tt
in_turn s (o ∷ os) a each = (
  each o (head_has o os),
  in_turn (leave_open s o) os (ascending-rest o os a)
      (λ p h. other_stands s o p (ascending-other o p os a h) (each p (tail_has o p os h))),
)

pub of_tree : (s : Server) (session tree p : ℕ) (os : List ℕ) → has p (tree_opens_in s session tree os) ≡ true → is_of_tree s p session tree ≡ true
unfolding tree_opens_in
of_tree s session tree p [] h = absurd (cc)
of_tree s session tree p (x ∷ xs) h = let old = of_tree s session tree p xs in grind arith

pub tree_stands : (s : Server) (session tree : ℕ) → Fits s → StandInTurn s (opens_of_tree s session tree)
tree_stands s session tree i = in_turn s (opens_of_tree s session tree) (ascending-tree s session tree s.opens i.ascending)
    (λ p h. front_of (s.standing p) _ (front_of (is_of_session s p session) _ (of_tree s session tree p s.opens h)))

-- ---- what fits together does still

pub leave_all_keeps : (s : Server) (os : List ℕ) → StandInTurn s os → Fits s → Fits (leave_all s os)
unfolding leave_all
leave_all_keeps s [] a i = i
leave_all_keeps s (o ∷ os) a i = leave_all_keeps (leave_open s o) os a.1 (leave_open_keeps s o a.0 i)

guid_keeps : (s : Server) (session : ℕ) (guid : Option ℕ) → s.present session ≡ true → Fits s → Fits (keep_closed s session guid)
guid_keeps s session None present i = i
guid_keeps s session (Some g) present i = close_guid_keeps s session g present i

guid_present : (s : Server) (session : ℕ) (guid : Option ℕ) → (keep_closed s session guid).present ≡ s.present
guid_present s session None = refl
guid_present s session (Some g) = refl

all_closed_keeps : (s : Server) (session : ℕ) (os : List ℕ) → s.present session ≡ true → Fits s → Fits (keep_all_closed s session os)
unfolding keep_all_closed
all_closed_keeps s session [] present i = i
all_closed_keeps s session (o ∷ os) present i =
    let guid = (s.opened o).create_guid in
    all_closed_keeps (keep_closed s session guid) session os
    (ap (λ (f : ℕ → Bool). f session) (guid_present s session guid) ∙ present) (guid_keeps s session guid present i)

close_all_keeps : (s : Server) (session : ℕ) (os : List ℕ) → s.present session ≡ true → StandInTurn s os → Fits s → Fits (close_all s session os)
close_all_keeps s session os present a i = all_closed_keeps (leave_all s os) session os
    (ap (λ (f : ℕ → Bool). f session) (all_left_beside s os).present ∙ present) (leave_all_keeps s os a i)

pub drop_tree_keeps : (s : Server) (session tree : ℕ) → s.present session ≡ true → Fits s → Fits (drop_tree s session tree)
drop_tree_keeps s session tree present i =
    let t = close_all s session (opens_of_tree s session tree) in
    subst (λ (f : ℕ → List Tree). Fits (record t { trees = put f session (without_tree tree (f session)) }))
    (closed_beside s session (opens_of_tree s session tree)).trees
    (less_tree_keeps t session tree (close_all_keeps s session (opens_of_tree s session tree) present (tree_stands s session tree i) i))

-- Commands whose replies have the same bodies.
use Rattle.std.proofs.Common.{◌≡◌, ℕ, Bool, List, refl, ap, if◌then◌else◌}
use Rattle.spec_wire.specs.messages.Error.{error_response_spelling}
use Rattle.spec_exchange.specs.Commands.{Setup, TreeConnect, Create, Lock, ListDirectory, SetInfo, SetupRequest, CreateRequest}
use Rattle.spec_exchange.specs.Commands.{Element, Setting}
use Rattle.spec_exchange.specs.State.{Body, Empty, Created, Closed, Content, Count, Interfaces, Listing, FileInfo, VolumeInfo}
use Rattle.spec_exchange.specs.State.{ObjectId, SetUp, Connected, Reply}
use Rattle.spec_commands.specs.ReplyBody.{reply_body, success_body, is_told}

tree_success : (token : List ℕ) (p q : List ℕ) (b : Body) → success_body token (TreeConnect p) b ≡ success_body token (TreeConnect q) b
tree_success token p q Empty = refl
tree_success token p q (Created reply) = refl
tree_success token p q (Closed info) = refl
tree_success token p q (Content bytes) = refl
tree_success token p q (Count count) = refl
tree_success token p q (Interfaces address) = refl
tree_success token p q (ObjectId number) = refl
tree_success token p q (Listing told entries) = refl
tree_success token p q (FileInfo told path info access options position) = refl
tree_success token p q (VolumeInfo told size used) = refl
tree_success token p q (SetUp sealed number) = refl
tree_success token p q (Connected kind capabilities access) = refl

pub tree : (token : List ℕ) (p q : List ℕ) (r : Reply) → reply_body token (TreeConnect p) r ≡ reply_body token (TreeConnect q) r
unfolding reply_body
tree token p q r =
    ap (λ (bs : List ℕ). if is_told (TreeConnect p) r.status then bs
    else error_response_spelling (record { error_context_count = 0; byte_count = 0 })) (tree_success token p q r.body)

create_success : (token : List ℕ) (p q : CreateRequest) (b : Body) → success_body token (Create p) b ≡ success_body token (Create q) b
create_success token p q Empty = refl
create_success token p q (Created reply) = refl
create_success token p q (Closed info) = refl
create_success token p q (Content bytes) = refl
create_success token p q (Count count) = refl
create_success token p q (Interfaces address) = refl
create_success token p q (ObjectId number) = refl
create_success token p q (Listing told entries) = refl
create_success token p q (FileInfo told path info access options position) = refl
create_success token p q (VolumeInfo told size used) = refl
create_success token p q (SetUp sealed number) = refl
create_success token p q (Connected kind capabilities access) = refl

pub create : (token : List ℕ) (p q : CreateRequest) (r : Reply) → reply_body token (Create p) r ≡ reply_body token (Create q) r
unfolding reply_body
create token p q r =
    ap (λ (bs : List ℕ). if is_told (Create p) r.status then bs
    else error_response_spelling (record { error_context_count = 0; byte_count = 0 })) (create_success token p q r.body)

list_success : (token : List ℕ) (file class : ℕ) (restart single : Bool) (p q : List ℕ) (room : ℕ) (b : Body)
    → success_body token (ListDirectory file class restart single p room) b
    ≡ success_body token (ListDirectory file class restart single q room) b
list_success token file class restart single p q room Empty = refl
list_success token file class restart single p q room (Created reply) = refl
list_success token file class restart single p q room (Closed info) = refl
list_success token file class restart single p q room (Content bytes) = refl
list_success token file class restart single p q room (Count count) = refl
list_success token file class restart single p q room (Interfaces address) = refl
list_success token file class restart single p q room (ObjectId number) = refl
list_success token file class restart single p q room (Listing told entries) = refl
list_success token file class restart single p q room (FileInfo told path info access options position) = refl
list_success token file class restart single p q room (VolumeInfo told size used) = refl
list_success token file class restart single p q room (SetUp sealed number) = refl
list_success token file class restart single p q room (Connected kind capabilities access) = refl

pub list : (token : List ℕ) (file class : ℕ) (restart single : Bool) (p q : List ℕ) (room : ℕ) (r : Reply)
    → reply_body token (ListDirectory file class restart single p room) r
    ≡ reply_body token (ListDirectory file class restart single q room) r
unfolding reply_body
list token file class restart single p q room r =
    ap (λ (bs : List ℕ). if is_told (ListDirectory file class restart single p room) r.status then bs
    else error_response_spelling (record { error_context_count = 0; byte_count = 0 }))
    (list_success token file class restart single p q room r.body)

pub setup : (token : List ℕ) (p q : SetupRequest) (r : Reply) → reply_body token (Setup p) r ≡ reply_body token (Setup q) r
unfolding reply_body
setup token p q r = refl

pub lock : (token : List ℕ) (file index number : ℕ) (p q : List Element) (r : Reply)
    → reply_body token (Lock file index number p) r ≡ reply_body token (Lock file index number q) r
unfolding reply_body
lock token file index number p q r = refl

pub set : (token : List ℕ) (file : ℕ) (p q : Setting) (r : Reply) → reply_body token (SetInfo file p) r
    ≡ reply_body token (SetInfo file q) r
unfolding reply_body
set token file p q r = refl

-- What a message hands on, by its header and its bytes in code.
use Rattle.std.proofs.Common.{◌≡◌, ◌∙◌, ◌==◌, ℕ, Bool, true, false, if◌then◌else◌, List, Option, Some, None, option_map, refl, sym, ap}
use Rattle.spec_wire.specs.declared.messages.header.Header.{Header}
use Rattle.spec_exchange.specs.Status.{success}
use Rattle.spec_world.specs.Hearing as hearing
use Rattle.spec_world.specs.Related as related
use Rattle.conn_core.specs.declared.frame_messages.checked.Checked.{Checked}
use Rattle.conn_core.specs.declared.related.related.Carry.{Carry}
use Rattle.conn_core.specs.related.Carrying.{carry_of, file_told, handed_before, status_before, IsCarried}
use Rattle.conn_core.proofs.message_replies.Parts.{differs}
use Rattle.conn_core.specs.served.Serving.{IsNamed, created_in}
use Rattle.conn_core.specs.declared.served.serve.Reply.{Reply}
use Rattle.spec_exchange.specs.State as model

-- ---- the FileId that a message hands on: the one that it names, or the one that was handed to it

place_is : (o : Option ℕ) (m : Checked) (bytes : List ℕ) (c : hearing.Checked) → IsCarried m bytes c
    → o ≡ related.file_place m.header.command → o ≡ related.file_place c.header.command
place_is o m bytes c x e = e ∙ ap (λ (h : Header). related.file_place h.command) (sym x.header)

pub named : (before : Option related.Carry) (m : Checked) (bytes : List ℕ) (c : hearing.Checked) (place : ℕ) → IsCarried m bytes c
    → Some place ≡ related.file_place m.header.command
    → related.handed_on (related.file_at place bytes) ≡ related.file_past before c
unfolding related.file_past
named before m bytes c place x e =
    ap (λ (b : List ℕ). related.handed_on (related.file_at place b)) (sym x.bytes_are)
    ∙ ap (λ (o : Option ℕ). related.file_from o before c) (place_is (Some place) m bytes c x e)

handed : (o : Option Carry) (m : Checked) (bytes : List ℕ) (c : hearing.Checked) → IsCarried m bytes c
    → handed_before o m ≡ related.file_before (option_map carry_of o) c
handed None m bytes c x = refl
handed (Some y) m bytes c x = ap (λ (b : Bool). if b then y.file else related.no_file_id) (sym x.related)

pub unnamed : (o : Option Carry) (m : Checked) (bytes : List ℕ) (c : hearing.Checked) → IsCarried m bytes c
    → None ≡ related.file_place m.header.command → handed_before o m ≡ related.file_past (option_map carry_of o) c
unfolding related.file_past
unnamed o m bytes c x e =
    handed o m bytes c x
    ∙ ap (λ (p : Option ℕ). related.file_from p (option_map carry_of o) c) (place_is None m bytes c x e)

pub past : (before : Option related.Carry) (m : Checked) (bytes : List ℕ) (c : hearing.Checked) (status : ℕ) (y : Carry)
    → IsCarried m bytes c → y.status ≡ related.create_behind before c status → y.session ≡ m.header.session → y.tree ≡ m.header.tree
    → y.file ≡ related.file_past before c → carry_of y ≡ related.carried_past before c status
past before m bytes c status y x told session tree file =
    let h : m.header ≡ c.header = sym x.header in
    let s : y.session ≡ c.header.session = session ∙ ap (λ (x : Header). x.session) h in
    let t : y.tree ≡ c.header.tree = tree ∙ ap (λ (x : Header). x.tree) h in
    λ i. record { status = told i; session = s i; tree = t i; file = file i }

-- ---- the last CREATE

pub before_is : (o : Option Carry) (m : Checked) (bytes : List ℕ) (c : hearing.Checked) → IsCarried m bytes c
    → status_before o m ≡ related.create_before (option_map carry_of o) c
before_is None m bytes c x = refl
before_is (Some y) m bytes c x = ap (λ (b : Bool). if b then y.status else success) (sym x.related)

pub is_create : (m : Checked) (bytes : List ℕ) (c : hearing.Checked) → IsCarried m bytes c → m.header.command ≡ 5
    → (c.header.command == 5) ≡ true
is_create m bytes c x e = ap (λ (h : Header). h.command == 5) x.header ∙ ap (λ (n : ℕ). n == 5) e

pub no_create : (m : Checked) (bytes : List ℕ) (c : hearing.Checked) → IsCarried m bytes c → (m.header.command ≡ 5 → ⊥)
    → (c.header.command == 5) ≡ false
no_create m bytes c x e = ap (λ (h : Header). h.command == 5) x.header ∙ differs m.header.command 5 e

-- ---- behind an answer

file_same : (before : Option related.Carry) (c : hearing.Checked) (b : model.Body)
    → related.file_behind before c b ≡ file_told before c (created_in b)
file_same before c model.Empty = refl
file_same before c (model.Created reply) = refl
file_same before c (model.Closed info) = refl
file_same before c (model.Content bytes) = refl
file_same before c (model.Count count) = refl
file_same before c (model.Interfaces address) = refl
file_same before c (model.ObjectId file) = refl
file_same before c (model.Listing class entries) = refl
file_same before c (model.FileInfo class path info access options position) = refl
file_same before c (model.VolumeInfo class room used) = refl
file_same before c (model.SetUp sealed channel) = refl
file_same before c (model.Connected kind capabilities access) = refl

pub answered : (before : Option related.Carry) (c : hearing.Checked) (r : Reply) (due : model.Reply) (y : Carry) → IsNamed r due
    → y.status ≡ related.create_behind before c r.status → y.session ≡ r.session → y.tree ≡ r.tree → y.file ≡ file_told before c r.file
    → carry_of y ≡ related.carried_behind before c due
answered before c r due y named told session tree file =
    let a : y.status ≡ related.create_behind before c due.status =
    told ∙ ap (λ (n : ℕ). related.create_behind before c n) (sym named.status) in
    let s : y.session ≡ due.session_id = session ∙ sym named.session in
    let t : y.tree ≡ due.tree_id = tree ∙ sym named.tree in
    let f : y.file ≡ related.file_behind before c due.body =
    file ∙ (ap (λ (o : Option ℕ). file_told before c o) (sym named.file) ∙ sym (file_same before c due.body)) in
    λ i. record { status = a i; session = s i; tree = t i; file = f i }

-- What the checks have looked at for a read, a write or an end, and for a request to attach an open.
use Rattle.std.proofs.Common.{◌≡◌, ◌≢◌, ℕ, ◌==◌, ◌+◌, nat_lt, Bool, true, false, not, ◌&&◌, ◌||◌, if◌then◌else◌, List}
use Rattle.std.proofs.Common.{refl, sym, subst, ◌∙◌, ap, arith, Option, Some, None, is_some, length, take, drop}
use Rattle.std.proofs.lemmas.Bool.Decides.{nat_tests}
use Rattle.spec_exchange.specs.Table.{is_at}
use Rattle.spec_exchange.specs.Texts.{same_name}
use Rattle.spec_exchange.specs.Status.{success, user_session_deleted, file_closed, file_not_available, end_of_file}
use Rattle.spec_exchange.specs.Status.{access_denied, invalid_device_request, file_lock_conflict, disk_full}
use Rattle.spec_exchange.specs.Content.{ContentOp, Write as Writes, Read as Reads, SetEnd as Ends, Still, Counted}
use Rattle.spec_exchange.specs.Content.{Gives, Done, is_change, effect, value, past_end, written, ended, is_empty}
use Rattle.spec_exchange.specs.Content.{same_bytes}
use Rattle.spec_exchange.proofs.Content.{same_bytes-true, same_bytes-refl, written-empty}
use Rattle.spec_exchange.specs.Commands.{Command, Read, Write, SetInfo, SetEnd, Create, CreateRequest, Reconnect, form, is_setup}
use Rattle.spec_exchange.specs.State.{Server, Message, Body, Empty, Count}
use Rattle.spec_exchange.specs.Files.{is_directory, passes_room}
use Rattle.spec_exchange.specs.Ranges.{may_read, may_write}
use Rattle.spec_exchange.specs.Opens.{is_of_session, is_of_tree}
use Rattle.spec_exchange.specs.Verdict.{Verdict, Refuse, Give, KeepRefusal, Repeat, Attach, Make, TurnDown, Tell, Show}
use Rattle.spec_exchange.specs.Verdict.{KeepSlot, PutRanges, Alter, CloseOpen, Challenge, ChallengeBinding, Begin, Join}
use Rattle.spec_exchange.specs.Verdict.{EndSession, AddTree, DropTree, Change, PutBytes, PutEnd, PutNothing}
use Rattle.spec_exchange.specs.CheckCreate.{has_guid, reconnect_check, reconnect_or_create}
use Rattle.spec_exchange.specs.CheckOpen.{is_late, file_of, has_access, changes_nothing, bytes_change, write_check}
use Rattle.spec_exchange.specs.CheckOpen.{read_check, there, set_check, is_repeated}
use Rattle.spec_exchange.specs.CheckSetup.{tree_in}
use Rattle.spec_exchange.specs.Check.{has_session, tree_command, in_tree, with_tree, command_check, formed, owed, check}
use Rattle.spec_exchange.specs.Step.{without_room}
use Rattle.spec_exchange.specs.Network.{content_reply}
use Rattle.law_server.proofs.tables.Logic.{either, front_of, back_of, other_off}
use Rattle.law_order.specs.order.Contents.{is_final}

-- the request of a read, a write or an end
abbrev pub asks : ContentOp → ℕ → Command
asks (Writes at bytes) o = Write o at bytes 0
asks (Reads at size) o = Read o at size 0 0
asks (Ends size) o = SetInfo o (SetEnd size)
asks Still o = Read o 0 0 0 0

-- the bytes behind a change
abbrev pub changed_by : Change → List ℕ → List ℕ
changed_by (PutBytes at bytes) c = written at bytes c
changed_by (PutEnd size) c = ended size c
changed_by _ c = c

abbrev pub On : Server → Message → ℕ → Type 0
On s m o = is_of_session s o m.session_id ≡ true

abbrev bytes_of : Server → ℕ → List ℕ
bytes_of s o = s.content (file_of s o)

pub record Refused (s : Server) (m : Message) (op : ContentOp) (o status : ℕ) : Type 0 where
  pub ok : (status == success) ≡ false
  pub end : (status == end_of_file) ≡ false
  pub final : form m.command ≡ None → is_final status ≡ false
  pub closed : (status == file_closed) ≡ true → is_of_session s o m.session_id ≡ false × has_session s m ≡ true
  pub stale : (status == file_not_available) ≡ true → is_of_session s o m.session_id ≡ true × is_late s m o ≡ true

pub record Turned (s : Server) (m : Message) (op : ContentOp) (o p status : ℕ) : Type 0 where
  pub its : p ≡ o
  pub on : On s m o
  pub in_time : is_change op ≡ true → is_late s m o ≡ false
  pub ok : (status == success) ≡ false
  pub end : (status == end_of_file) ≡ true → past_end op (s.content (file_of s o)) ≡ true
  pub closed : (status == file_closed) ≡ false
  pub stale : (status == file_not_available) ≡ false

pub record BytesTold (s : Server) (m : Message) (op : ContentOp) (o p : ℕ) (body : Body) : Type 0 where
  pub its : p ≡ o
  pub on : On s m o
  pub in_time : is_change op ≡ true → is_late s m o ≡ false
  pub reply : value op (s.content (file_of s o)) ≡ content_reply body
  pub same : effect op (s.content (file_of s o)) ≡ s.content (file_of s o)
  pub before : past_end op (s.content (file_of s o)) ≡ false

pub record Changed (s : Server) (m : Message) (op : ContentOp) (o p : ℕ) (change : Change) (body : Body) : Type 0 where
  pub its : p ≡ o
  pub on : On s m o
  pub late : is_late s m o ≡ false
  pub form : form m.command ≡ None
  pub edit : is_change op ≡ true
  pub reply : value op (s.content (file_of s o)) ≡ content_reply body
  pub after : changed_by change (s.content (file_of s o)) ≡ effect op (s.content (file_of s o))
  pub again : m.replay ≡ true → effect op (s.content (file_of s o)) ≢ s.content (file_of s o)
  pub before : past_end op (s.content (file_of s o)) ≡ false

abbrev pub ListedBy : Server → Message → ContentOp → ℕ → Verdict → Type 0
ListedBy s m op o (Refuse status) = Refused s m op o status
ListedBy s m op o (TurnDown p status) = Turned s m op o p status
ListedBy s m op o (Tell p body) = BytesTold s m op o p body
ListedBy s m op o (Alter p change body) = Changed s m op o p change body
ListedBy s m op o _ = ⊥

pub record Listed (s : Server) (m : Message) (op : ContentOp) (o : ℕ) (v : Verdict) : Type 0 where
  pub is : ListedBy s m op o v

of_not : (a : Bool) → a ≡ false → not a ≡ true
of_not a e = grind arith

-- ---- a change

-- a replayed one that would change nothing
repeated : (s : Server) (m : Message) (op : ContentOp) (o : ℕ) (change : Change) (body : Body) → On s m o
    → is_late s m o ≡ false → value op (bytes_of s o) ≡ content_reply body
    → changes_nothing s (file_of s o) change ≡ same_bytes (effect op (bytes_of s o)) (bytes_of s o)
    → past_end op (bytes_of s o) ≡ false → is_repeated s m o change ≡ true → Listed s m op o (Tell o body)
repeated s m op o change body on late reply nothing before e =
    record {
      is = record {
        its = refl;
        on = on;
        in_time = λ z. late;
        reply = reply;
        same = same_bytes-true (effect op (bytes_of s o)) (bytes_of s o) (sym nothing ∙ back_of m.replay _ e);
        before = before;
      };
    }

altered : (s : Server) (m : Message) (op : ContentOp) (o : ℕ) (change : Change) (body : Body) → form m.command ≡ None
    → On s m o → is_late s m o ≡ false → is_change op ≡ true → value op (bytes_of s o) ≡ content_reply body
    → changed_by change (bytes_of s o) ≡ effect op (bytes_of s o) → changes_nothing s (file_of s o) change
    ≡ same_bytes (effect op (bytes_of s o)) (bytes_of s o) → past_end op (bytes_of s o) ≡ false
    → is_repeated s m o change ≡ false → Listed s m op o (Alter o change body)
altered s m op o change body fm on late ed reply after nothing before e =
    record {
      is = record {
        its = refl;
        on = on;
        late = late;
        form = fm;
        edit = ed;
        reply = reply;
        after = after;
        before = before;
        again = λ r. differs (sym nothing ∙ other_off m.replay _ e r);
      };
    }
  where
    differs : same_bytes (effect op (bytes_of s o)) (bytes_of s o) ≡ false → effect op (bytes_of s o) ≡ bytes_of s o → ⊥
    differs f e = absurd (let z = subst (λ b. same_bytes b (bytes_of s o) ≡ true) (sym e) (same_bytes-refl (bytes_of s o)) in grind arith)

-- a write of no bytes changes none
write_after : (s : Server) (o at : ℕ) (bytes : List ℕ) (b : Bool) → is_empty bytes ≡ b
    → changed_by (if b then PutNothing else PutBytes at bytes) (bytes_of s o) ≡ effect (Writes at bytes) (bytes_of s o)
unfolding effect
write_after s o at bytes true e = sym (written-empty at bytes (bytes_of s o) e)
write_after s o at bytes false e = refl

pub write_nothing : (s : Server) (o at : ℕ) (bytes : List ℕ) (b : Bool) → is_empty bytes ≡ b
    → changes_nothing s (file_of s o) (if b then PutNothing else PutBytes at bytes)
    ≡ same_bytes (effect (Writes at bytes) (bytes_of s o)) (bytes_of s o)
unfolding effect
write_nothing s o at bytes true e =
    sym (subst (λ c. same_bytes c (bytes_of s o) ≡ true) (sym (written-empty at bytes (bytes_of s o) e))
    (same_bytes-refl (bytes_of s o)))
write_nothing s o at bytes false e = refl

down : (s : Server) (m : Message) (op : ContentOp) (o status : ℕ) → On s m o
    → (is_change op ≡ true → is_late s m o ≡ false) → (status == success) ≡ false → (status == end_of_file) ≡ false
    → (status == file_closed) ≡ false → (status == file_not_available) ≡ false → Listed s m op o (TurnDown o status)
down s m op o status on late a b c d = record {
  is = record {
    its = refl;
    on = on;
    in_time = late;
    ok = a;
    end = λ e. absurd (let z = b in grind arith);
    closed = c;
    stale = d;
  };
}

too_late : (s : Server) (m : Message) (op : ContentOp) (o : ℕ) → On s m o → is_late s m o ≡ true
    → Listed s m op o (Refuse file_not_available)
too_late s m op o on late = record {
  is = record {
    ok = refl;
    end = refl;
    final = λ f. refl;
    closed = λ e. absurd (cc);
    stale = λ e. (on, late);
  };
}

is_write_change : (at : ℕ) (bytes : List ℕ) → is_change (Writes at bytes) ≡ true
unfolding is_change
is_write_change at bytes = refl

is_end_change : (n : ℕ) → is_change (Ends n) ≡ true
unfolding is_change
is_end_change n = refl

write_value : (at : ℕ) (bytes c : List ℕ) → value (Writes at bytes) c ≡ Counted (length bytes) × past_end (Writes at bytes) c ≡ false
unfolding value past_end
write_value at bytes c = (refl, refl)

end_value : (n : ℕ) (c : List ℕ) → value (Ends n) c ≡ Done × past_end (Ends n) c ≡ false × effect (Ends n) c ≡ ended n c
unfolding value past_end effect
end_value n c = (refl, refl, refl)

listed_write : (s : Server) (m : Message) (o at : ℕ) (bytes : List ℕ) → form m.command ≡ None → On s m o
    → Listed s m (Writes at bytes) o (write_check s m o at bytes)
listed_write s m o at bytes fm on =
    either (Listed s m (Writes at bytes) o) (is_late s m o) _ _ (λ l. too_late s m (Writes at bytes) o on l)
    (λ l. either (Listed s m (Writes at bytes) o) (not (has_access s o 0x2)) _ _
    (λ _. down s m (Writes at bytes) o access_denied on (λ _. l) refl refl refl refl)
    (λ _. either (Listed s m (Writes at bytes) o) (is_directory s (file_of s o)) _ _
    (λ _. down s m (Writes at bytes) o invalid_device_request on (λ _. l) refl refl refl refl)
    (λ _. either (Listed s m (Writes at bytes) o) (is_repeated s m o (bytes_change at bytes)) _ _
    (λ e. repeated s m (Writes at bytes) o (bytes_change at bytes) (Count (length bytes)) on l
    (write_value at bytes (bytes_of s o)).0 (write_nothing s o at bytes (is_empty bytes) refl)
    (write_value at bytes (bytes_of s o)).1 e)
    (λ e. either (Listed s m (Writes at bytes) o) (not (may_write (s.ranges (file_of s o)) o at (length bytes))) _ _
    (λ _. down s m (Writes at bytes) o file_lock_conflict on (λ _. l) refl refl refl refl)
    (λ _. either (Listed s m (Writes at bytes) o) (not (is_empty bytes) && passes_room s (file_of s o)
    (at + length bytes)) _ _ (λ _. down s m (Writes at bytes) o disk_full on (λ _. l) refl refl refl refl)
    (λ _. altered s m (Writes at bytes) o (bytes_change at bytes) (Count (length bytes)) fm on l
    (is_write_change at bytes) (write_value at bytes (bytes_of s o)).0 (write_after s o at bytes (is_empty bytes)
    refl) (write_nothing s o at bytes (is_empty bytes) refl) (write_value at bytes (bytes_of s o)).1 e))))))

end_nothing : (s : Server) (o n : ℕ) → changes_nothing s (file_of s o) (PutEnd n)
    ≡ same_bytes (effect (Ends n) (bytes_of s o)) (bytes_of s o)
unfolding effect
end_nothing s o n = refl

listed_end : (s : Server) (m : Message) (o n : ℕ) → form m.command ≡ None → On s m o → Listed s m (Ends n) o (set_check s m o (SetEnd n))
listed_end s m o n fm on =
    either (Listed s m (Ends n) o) (is_late s m o) _ _ (λ l. too_late s m (Ends n) o on l)
    (λ l. either (Listed s m (Ends n) o) (not (has_access s o 0x2)) _ _ (λ _. down s m (Ends n) o access_denied on
    (λ _. l) refl refl refl refl)
    (λ _. either (Listed s m (Ends n) o) (is_directory s (file_of s o)) _ _
    (λ _. down s m (Ends n) o invalid_device_request on (λ _. l) refl refl refl refl)
    (λ _. either (Listed s m (Ends n) o) (is_repeated s m o (PutEnd n)) _ _
    (λ e. repeated s m (Ends n) o (PutEnd n) Empty on l (end_value n (bytes_of s o)).0 (end_nothing s o n) (end_value n (bytes_of s o)).1 e)
    (λ e. either (Listed s m (Ends n) o) (passes_room s (file_of s o) n) _ _
    (λ _. down s m (Ends n) o disk_full on (λ _. l) refl refl refl refl)
    (λ _. altered s m (Ends n) o (PutEnd n) Empty fm on l (is_end_change n) (end_value n (bytes_of s o)).0
    (sym (end_value n (bytes_of s o)).2) (end_nothing s o n) (end_value n (bytes_of s o)).1 e)))))

-- ---- a read

read_change : (at n : ℕ) → is_change (Reads at n) ≡ false
unfolding is_change
read_change at n = refl

read_facts : (at n : ℕ) (c : List ℕ) → value (Reads at n) c ≡ Gives (take n (drop at c)) × effect (Reads at n) c ≡ c
    × past_end (Reads at n) c ≡ (not (n == 0) && not (nat_lt at (length c)))
unfolding value effect past_end
read_facts at n c = (refl, refl, refl)

no_less : (n : ℕ) → nat_lt n 0 ≡ true → ⊥
no_less n e = absurd (grind (arith, nat_tests))

listed_read : (s : Server) (m : Message) (o at n : ℕ) → On s m o → Listed s m (Reads at n) o (read_check s o at n 0)
listed_read s m o at n on =
    let op = Reads at n in let r = read_facts at n (bytes_of s o) in
    let idle : is_change (Reads at n) ≡ true → is_late s m o ≡ false = λ z. absurd (let w = read_change at n in grind arith) in
    either (Listed s m (Reads at n) o) (not (has_access s o 0x1 || has_access s o 0x20)) _ _
    (λ _. down s m (Reads at n) o access_denied on idle refl refl refl refl)
    (λ _. either (Listed s m (Reads at n) o) (is_directory s (file_of s o)) _ _
    (λ _. down s m (Reads at n) o invalid_device_request on idle refl refl refl refl)
    (λ _. either (Listed s m (Reads at n) o) (not (may_read (s.ranges (file_of s o)) o at n)) _ _
    (λ _. down s m (Reads at n) o file_lock_conflict on idle refl refl refl refl)
    (λ _. either (Listed s m (Reads at n) o) (not (n == 0) && not (nat_lt at (length (s.content (file_of s o))))) _ _
    (λ e. record { is = record { its = refl; on = on; in_time = idle; ok = refl; end = λ z. r.2 ∙ e; closed = refl; stale = refl } })
    (λ e. either (Listed s m (Reads at n) o) (nat_lt (there s (file_of s o) at n) 0) _ _
    (λ z. absurd (no_less (there s (file_of s o) at n) z))
    (λ _. record { is = record { its = refl; on = on; in_time = idle; reply = r.0; same = r.1; before = r.2 ∙ e } })))))

-- ---- whatever comes before an open is looked at

-- its open, where it is one of the message's session, is one of its tree
abbrev pub OwnTree : Server → Message → ℕ → Type 0
OwnTree s m o = is_of_session s o m.session_id ≡ true → s.tree_of_open o ≡ m.tree_id

off_session : (a b : Bool) → (a && b) ≡ false → (a ≡ true → b ≡ true) → a ≡ false
off_session true b e f = absurd (let h = f refl in cc)
off_session false b e f = refl

same_tree : (x y : ℕ) → x ≡ y → (x == y) ≡ true
same_tree x y e = grind arith

not_open : (s : Server) (m : Message) (op : ContentOp) (o : ℕ) → has_session s m ≡ true → OwnTree s m o
    → is_of_tree s o m.session_id m.tree_id ≡ false → Listed s m op o (Refuse file_closed)
not_open s m op o hs own apart =
    record {
      is = record {
        ok = refl;
        end = refl;
        final = λ f. refl;
        closed = λ e. (
          off_session (is_of_session s o m.session_id) (s.tree_of_open o == m.tree_id) apart
              (λ on. same_tree (s.tree_of_open o) m.tree_id (own on)),
          hs,
        );
        stale = λ e. absurd (cc);
      };
    }

-- one of a form that isn't kept
bad_form : (s : Server) (m : Message) (op : ContentOp) (o status : ℕ) → form m.command ≡ Some status → form m.command
    ≡ form (asks op o) → Listed s m op o (Refuse status)
bad_form s m op o status e k =
    let z = form_status op o status (sym k ∙ e) in
    record {
      is = record {
        ok = ap (λ n. n == success) z;
        end = ap (λ n. n == end_of_file) z;
        final = λ f. absurd (let w = f in grind arith);
        closed = λ w. absurd (let y = ap (λ n. n == file_closed) z in grind arith);
        stale = λ w. absurd (let y = ap (λ n. n == file_not_available) z in grind arith);
      };
    }
  where
    transfer : (a b c : Bool) (status : ℕ) → (if a then Some 0xc000_000d else if b then Some 0xc000_000d else if c then
        None else Some 0xc000_000d) ≡ Some status → status ≡ 0xc000_000d
    transfer a b c status e = grind arith

    form_status : (op : ContentOp) (o status : ℕ) → form (asks op o) ≡ Some status → status ≡ 0xc000_000d
    form_status (Writes at bytes) o status e = transfer (nat_lt 1048576 (length bytes)) (not (0 == 0))
        (nat_lt (at + length bytes) 0x8000_0000_0000_0000) status e
    form_status (Reads at n) o status e = transfer (nat_lt 1048576 n) (not (0 == 0)) (nat_lt (at + n) 0x8000_0000_0000_0000) status e
    form_status (Ends n) o status e = absurd (cc)
    form_status Still o status e = transfer (nat_lt 1048576 0) (not (0 == 0)) (nat_lt (0 + 0) 0x8000_0000_0000_0000) status e

-- the request of an operation that stands in its open's order
abbrev pub is_asked : ContentOp → Bool
is_asked (Writes at bytes) = true
is_asked (Reads at n) = true
is_asked (Ends n) = true
is_asked Still = false

listed_open : (s : Server) (m : Message) (pipes : Bool) (op : ContentOp) (o : ℕ) → has_session s m ≡ true
    → OwnTree s m o → form m.command ≡ None → is_asked op ≡ true → Listed s m op o (tree_command s m pipes (asks op o))
listed_open s m pipes (Writes at bytes) o hs own fm a = either (Listed s m (Writes at bytes) o)
    (is_of_tree s o m.session_id m.tree_id) _ _
    (λ on. listed_write s m o at bytes fm (front_of (is_of_session s o m.session_id) _ on))
    (λ off. not_open s m (Writes at bytes) o hs own off)
listed_open s m pipes (Reads at n) o hs own fm a = either (Listed s m (Reads at n) o)
    (is_of_tree s o m.session_id m.tree_id) _ _
    (λ on. listed_read s m o at n (front_of (is_of_session s o m.session_id) _ on))
    (λ off. not_open s m (Reads at n) o hs own off)
listed_open s m pipes (Ends n) o hs own fm a = either (Listed s m (Ends n) o) (is_of_tree s o m.session_id m.tree_id) _ _
    (λ on. listed_end s m o n fm (front_of (is_of_session s o m.session_id) _ on))
    (λ off. not_open s m (Ends n) o hs own off)
listed_open s m pipes Still o hs own fm a = absurd (cc)

listed_tree : (s : Server) (m : Message) (op : ContentOp) (o : ℕ) → has_session s m ≡ true → OwnTree s m o → form m.command ≡ None
    → is_asked op ≡ true → m.command ≡ asks op o → (t : Option Bool) → is_some t ≡ true
    → Listed s m op o (in_tree s m t)
listed_tree s m op o hs own fm a e None t = absurd (cc)
listed_tree s m op o hs own fm a e (Some pipes) t = subst (λ c. Listed s m op o (tree_command s m pipes c)) (sym e)
    (listed_open s m pipes op o hs own fm a)

command_tree : (s : Server) (m : Message) (op : ContentOp) (o : ℕ) → is_asked op ≡ true → command_check s m (asks op o) ≡ with_tree s m
command_tree s m (Writes at bytes) o a = refl
command_tree s m (Reads at n) o a = refl
command_tree s m (Ends n) o a = refl
command_tree s m Still o a = refl

listed_command : (s : Server) (m : Message) (op : ContentOp) (o : ℕ) → has_session s m ≡ true → OwnTree s m o → is_asked op ≡ true
    → m.command ≡ asks op o → is_some (tree_in (s.trees m.session_id) m.tree_id) ≡ true → (f : Option ℕ)
    → form m.command ≡ f → Listed s m op o (formed s m f)
listed_command s m op o hs own a e t (Some status) f = bad_form s m op o status f (ap form e)
listed_command s m op o hs own a e t None f = subst (λ c. Listed s m op o (command_check s m c)) (sym e)
    (subst (Listed s m op o) (sym (command_tree s m op o a))
    (listed_tree s m op o hs own f a e (tree_in (s.trees m.session_id) m.tree_id) t))

gone_session : (s : Server) (m : Message) (op : ContentOp) (o : ℕ) → Listed s m op o (Refuse user_session_deleted)
gone_session s m op o = record {
  is = record {
    ok = refl;
    end = refl;
    final = λ f. refl;
    closed = λ e. absurd (cc);
    stale = λ e. absurd (cc);
  };
}

no_setup : (op : ContentOp) (o : ℕ) → is_setup (asks op o) ≡ false
no_setup (Writes at bytes) o = refl
no_setup (Reads at n) o = refl
no_setup (Ends n) o = refl
no_setup Still o = refl

session_of : (a b : Bool) → a ≡ false → (a || b) ≡ true → b ≡ true
session_of a b e f = grind arith

pub listed : (s : Server) (m : Message) (op : ContentOp) (o : ℕ) → is_asked op ≡ true → m.command ≡ asks op o → m.fault
    ≡ None → (has_session s m ≡ true → is_some (tree_in (s.trees m.session_id) m.tree_id) ≡ true) → OwnTree s m o
    → Listed s m op o (check s m)
listed s m op o a e f t own =
    either (Listed s m op o) (is_setup m.command || has_session s m) _ _
    (λ z. subst (λ x. Listed s m op o (owed s m x)) (sym f) (let hs = session_of (is_setup m.command) (has_session s m)
    (ap is_setup e ∙ no_setup op o) z in listed_command s m op o hs own a e (t hs) (form m.command) refl))
    (λ _. gone_session s m op o)

pub listed_without_room : (s : Server) (m : Message) (op : ContentOp) (o : ℕ) (v : Verdict) → Listed s m op o v
    → Listed s m op o (without_room v)
listed_without_room s m op o (Refuse status) h = h
listed_without_room s m op o (TurnDown p status) h = h
listed_without_room s m op o (Tell p body) h = h
listed_without_room s m op o (Alter p change body) h =
    record {
      is = record {
        its = h.is.its;
        on = h.is.on;
        in_time = λ _. h.is.late;
        ok = refl;
        end = λ e. absurd (cc);
        closed = refl;
        stale = refl;
      };
    }
listed_without_room s m op o (Give body) h = absurd (h.is)
listed_without_room s m op o (KeepRefusal guid status) h = absurd (h.is)
listed_without_room s m op o (Repeat p r) h = absurd (h.is)
listed_without_room s m op o (Attach p r) h = absurd (h.is)
listed_without_room s m op o (Make r found action) h = absurd (h.is)
listed_without_room s m op o (Show p last body) h = absurd (h.is)
listed_without_room s m op o (KeepSlot p index number status elements) h = absurd (h.is)
listed_without_room s m op o (PutRanges p index number ranges elements) h = absurd (h.is)
listed_without_room s m op o (CloseOpen p body) h = absurd (h.is)
listed_without_room s m op o Challenge h = absurd (h.is)
listed_without_room s m op o (ChallengeBinding session) h = absurd (h.is)
listed_without_room s m op o (Begin session user previous r is_quiet) h = absurd (h.is)
listed_without_room s m op o (Join session) h = absurd (h.is)
listed_without_room s m op o (EndSession session is_quiet) h = absurd (h.is)
listed_without_room s m op o (AddTree pipes) h = absurd (h.is)
listed_without_room s m op o DropTree h = absurd (h.is)

-- ---- a request to attach an open

pub record AttachRefused (s : Server) (m : Message) (c : Reconnect) (status : ℕ) : Type 0 where
  pub ok : (status == success) ≡ false
  pub end : (status == end_of_file) ≡ false
  pub gone : (status == user_session_deleted) ≡ false → form m.command ≡ None → s.standing c.file ≡ true
      → has_guid c.guid (s.opened c.file).create_guid ≡ true
      → (has_session s m ≡ true → same_name (s.opened c.file).user (s.user m.session_id) ≡ true)
      → (is_some (s.session_of_open c.file) && not (is_at m.session_id (s.session_of_open c.file))) ≡ true

abbrev pub AskedBy : Server → Message → Reconnect → Verdict → Type 0
AskedBy s m c (Refuse status) = AttachRefused s m c status
AskedBy s m c (Attach p r) = p ≡ c.file
    × (is_some (s.session_of_open c.file) && not (is_at m.session_id (s.session_of_open c.file))) ≡ false
AskedBy s m c _ = ⊥

pub record Asked (s : Server) (m : Message) (c : Reconnect) (v : Verdict) : Type 0 where
  pub is : AskedBy s m c v

no_name : (a : Bool) → not a ≡ true → a ≡ true → ⊥
no_name a e f = absurd (grind arith)

no_test : (a b : Bool) → not (a && b) ≡ true → a ≡ true → b ≡ true → ⊥
no_test a b e f g = absurd (grind arith)

asked_open : (s : Server) (m : Message) (r : CreateRequest) (c : Reconnect) → has_session s m ≡ true → Asked s m c (reconnect_check s m r c)
asked_open s m r c hs =
    either (Asked s m c) (not (s.standing c.file && has_guid c.guid (s.opened c.file).create_guid)) _ _ (λ e. record {
      is = record {
        ok = refl;
        end = refl;
        gone = λ u f st gd us. absurd (no_test (s.standing c.file) (has_guid c.guid (s.opened c.file).create_guid) e st
            gd);
      };
    })
    (λ _. either (Asked s m c) (not (same_name (s.opened c.file).user (s.user m.session_id))) _ _ (λ e. record {
      is = record {
        ok = refl;
        end = refl;
        gone = λ u f st gd us. absurd (no_name (same_name (s.opened c.file).user (s.user m.session_id)) e (us hs));
      };
    })
    (λ _. either (Asked s m c) (is_some (s.session_of_open c.file)
    && not (is_at m.session_id (s.session_of_open c.file))) _ _ (λ e. record {
      is = record { ok = refl; end = refl; gone = λ u f st gd us. e };
    })
    (λ e. record { is = (refl, e) })))

asked_tree : (s : Server) (m : Message) (r : CreateRequest) (c : Reconnect) → has_session s m ≡ true → m.command
    ≡ Create r → r.reconnect ≡ Some c → (t : Option Bool) → is_some t ≡ true → (t ≡ Some true → s.standing c.file ≡ true
    → ⊥) → Asked s m c (in_tree s m t)
asked_tree s m r c hs e k None t d = absurd (cc)
asked_tree s m r c hs e k (Some true) t d =
    subst (λ x. Asked s m c (tree_command s m true x)) (sym e) (record {
      is = record { ok = refl; end = refl; gone = λ u f st gd us. absurd (d refl st) };
    })
asked_tree s m r c hs e k (Some false) t d = subst (λ x. Asked s m c (tree_command s m false x)) (sym e)
    (subst (λ x. Asked s m c (reconnect_or_create s m r x)) (sym k) (asked_open s m r c hs))

asked_form : (s : Server) (m : Message) (r : CreateRequest) (c : Reconnect) → has_session s m ≡ true → m.command
    ≡ Create r → r.reconnect ≡ Some c → is_some (tree_in (s.trees m.session_id) m.tree_id) ≡ true
    → (tree_in (s.trees m.session_id) m.tree_id ≡ Some true → s.standing c.file ≡ true → ⊥)
    → form m.command ≡ None → (f : Option ℕ) → form m.command ≡ f → Asked s m c (formed s m f)
asked_form s m r c hs e k t d n (Some status) f = absurd (grind arith)
asked_form s m r c hs e k t d n None f = subst (λ x. Asked s m c (command_check s m x)) (sym e)
    (asked_tree s m r c hs e k (tree_in (s.trees m.session_id) m.tree_id) t d)

pub asked : (s : Server) (m : Message) (r : CreateRequest) (c : Reconnect) → m.command ≡ Create r → r.reconnect ≡ Some c
    → m.fault ≡ None → (has_session s m ≡ true → is_some (tree_in (s.trees m.session_id) m.tree_id) ≡ true)
    → (tree_in (s.trees m.session_id) m.tree_id ≡ Some true → s.standing c.file ≡ true → ⊥) → form m.command ≡ None
    → Asked s m c (check s m)
asked s m r c e k f t d n =
    either (Asked s m c) (is_setup m.command || has_session s m) _ _
    (λ z. subst (λ x. Asked s m c (owed s m x)) (sym f) (let hs = session_of (is_setup m.command) (has_session s m)
    (ap is_setup e) z in asked_form s m r c hs e k (t hs) d n (form m.command) refl)) (λ _. record {
      is = record { ok = refl; end = refl; gone = λ u. absurd (cc) };
    })

pub asked_without_room : (s : Server) (m : Message) (c : Reconnect) (v : Verdict) → Asked s m c v → Asked s m c (without_room v)
asked_without_room s m c (Refuse status) h = h
asked_without_room s m c (Attach p r) h = h
asked_without_room s m c (Give body) h = absurd (h.is)
asked_without_room s m c (KeepRefusal guid status) h = absurd (h.is)
asked_without_room s m c (Repeat p r) h = absurd (h.is)
asked_without_room s m c (TurnDown p status) h = absurd (h.is)
asked_without_room s m c (Tell p body) h = absurd (h.is)
asked_without_room s m c (Alter p change body) h = absurd (h.is)
asked_without_room s m c (Make r found action) h = absurd (h.is)
asked_without_room s m c (Show p last body) h = absurd (h.is)
asked_without_room s m c (KeepSlot p index number status elements) h = absurd (h.is)
asked_without_room s m c (PutRanges p index number ranges elements) h = absurd (h.is)
asked_without_room s m c (CloseOpen p body) h = absurd (h.is)
asked_without_room s m c Challenge h = absurd (h.is)
asked_without_room s m c (ChallengeBinding session) h = absurd (h.is)
asked_without_room s m c (Begin session user previous r is_quiet) h = absurd (h.is)
asked_without_room s m c (Join session) h = absurd (h.is)
asked_without_room s m c (EndSession session is_quiet) h = absurd (h.is)
asked_without_room s m c (AddTree pipes) h = absurd (h.is)
asked_without_room s m c DropTree h = absurd (h.is)

-- What the checks found of a request that fits is what its effect wants.
use Rattle.std.proofs.Common.{◌≡◌, ℕ, ◌+◌, ◌<◌, ◌≤◌, ◌^◌, ◌==◌, nat_le, nat_lt, true, false, not, ◌&&◌}
use Rattle.std.proofs.Common.{if◌then◌else◌, List, [], ◌∷◌, ◌⊎◌, inl, inr, length, refl, sym, subst, arith, eqb-true, Option, Some, None}
use Rattle.std.proofs.lemmas.Bool.Decides.{nat_tests}
use Rattle.spec_exchange.specs.Content.{is_empty}
use Rattle.spec_exchange.specs.Commands.{Command, Create, SetInfo, Basic, Setting, SetBasic, Rename, SetDelete, SetAllocation, SetEnd}
use Rattle.spec_exchange.specs.Commands.{SetPosition, SetMode}
use Rattle.spec_exchange.specs.Commands.{CreateRequest, Durable}
use Rattle.spec_exchange.specs.State.{Server, Message, Body}
use Rattle.spec_exchange.specs.Files.{root, find, is_directory, set_time, set_basic, passes_room}
use Rattle.spec_exchange.specs.Files.{set_attributes}
use Rattle.spec_exchange.specs.CheckCreate.{action_of, refused_by}
use Rattle.spec_exchange.specs.CheckOpen.{file_of, bytes_change, target_of, target_refused}
use Rattle.spec_exchange.specs.Verdict.{Verdict, Refuse, Give, KeepRefusal, Repeat, Attach, Make, TurnDown, Tell, Show}
use Rattle.spec_exchange.specs.Verdict.{KeepSlot, PutRanges, Alter, CloseOpen, Challenge, ChallengeBinding, Begin, Join}
use Rattle.spec_exchange.specs.Verdict.{EndSession, AddTree, DropTree, Change, PutBytes, PutEnd, PutNothing}
use Rattle.spec_exchange.specs.Status.{disk_full}
use Rattle.spec_exchange.specs.Fold.{full_room}
use Rattle.spec_exchange.specs.Step.{without_room}
use Rattle.law_server.specs.tables.Fits.{Fits}
use Rattle.law_server.proofs.tables.Logic.{either}
use Rattle.law_server.proofs.tables.Found.{Facts, MakeFacts, ThereFacts, MissingFacts, OpenFacts, WriteFacts, SettingFacts}
use Rattle.law_server.proofs.tables.Found.{setting_change, SettingSays}
use Rattle.law_commands.specs.commands.Fitting.{IsBasic}
use Rattle.law_replies.specs.fields.Rows.{is_below_root, IsLeaf, RowsFit}
use Rattle.law_replies.proofs.fields.Paths.{exists_low, exists_named}
use Rattle.law_replies.proofs.fields.Changes.{Changes, FileIn, Makes, Keeps}
use Rattle.law_replies.proofs.fields.Written.{size_few, ended_few, written_few}
use Rattle.std.specs.Prelude.{nat_le}

-- ---- a request that fits

abbrev pub SetsFit : Setting → Type 0
SetsFit (SetBasic basic) = IsBasic basic
SetsFit (Rename replace path) = IsLeaf path
SetsFit _ = Unit {0}

abbrev pub AsksFit : Command → Type 0
AsksFit (Create r) = (r.reconnect ≡ None → IsLeaf r.path) × (r.attributes < 256 ^ 4)
AsksFit (SetInfo file setting) = SetsFit setting
AsksFit _ = Unit {0}

-- ---- a create

two_low : 2 ≤ 3
two_low = omega arith

action_low : (r : CreateRequest) (found : Option ℕ) → action_of r found ≤ 3
action_low r None = two_low
action_low r (Some f) =
    either (λ (n : ℕ). n ≤ 3) (r.disposition == 0) 0 _ (λ _. omega arith)
    (λ _. either (λ (n : ℕ). n ≤ 3) (nat_le 4 r.disposition) 3 1 (λ _. omega arith) (λ _. omega arith))

not_found : (s : Server) (path : List ℕ) → find s path ≡ None → is_below_root path ≡ true
unfolding find
not_found s [] e = absurd (let h : Some root ≡ None = e in cc)
not_found s (c ∷ cs) e = refl

file_in : (s : Server) (r : CreateRequest) (found : Option ℕ) → IsLeaf r.path → RowsFit s → found ≡ find s r.path
    → ((f : ℕ) → found ≡ Some f → ThereFacts s r f) → (found ≡ None → MissingFacts s r) → FileIn s.next_file r found
file_in s r None leaf h is there missing =
    let k = missing refl in (record { named = not_found s r.path (sym is); leaf = leaf }, k.number)
file_in s r (Some x) leaf h is there missing = let k = there x refl in exists_low s x h.places k.there

make_keeps : (s : Server) (m : Message) (r : CreateRequest) (found : Option ℕ) (action : ℕ) → RowsFit s → AsksFit (Create r)
    → MakeFacts s m r found action → Makes s.next_file r found action
make_keeps s m r found action h g f =
    record {
      leaf = g.0 f.new.new;
      set = g.1;
      done = subst (λ a. a ≤ 3) (sym f.action_is) (action_low r found);
      file = file_in s r found (g.0 f.new.new) h f.found_is f.there f.missing;
    }

-- ---- a write or a set-info

bytes_keep : (s : Server) (f at : ℕ) (bytes : List ℕ) → RowsFit s
    → (not (is_empty bytes) && passes_room s f (at + length bytes)) ≡ false → Changes s.content s.entries f (bytes_change at bytes)
bytes_keep s f at bytes h e =
    either (λ (c : Change). Changes s.content s.entries f c) (is_empty bytes) PutNothing (PutBytes at bytes) (λ _. tt)
    (λ _. written_few s f at bytes h e)

time_fits : (old t : ℕ) → old < 256 ^ 8 → t < 256 ^ 8 → set_time old t < 256 ^ 8
unfolding set_time
time_fits old t h i =
    either (λ (n : ℕ). n < 256 ^ 8) (t == 0) old _ (λ _. h)
    (λ _. either (λ (n : ℕ). n < 256 ^ 8) (nat_le 0xffff_ffff_ffff_fffe t) old t (λ _. h) (λ _. i))

attributes_fit : (old asked : ℕ) → old < 256 ^ 4 → asked < 256 ^ 4 → set_attributes old asked < 256 ^ 4
unfolding set_attributes
attributes_fit old asked h i =
    either (λ (n : ℕ). n < 256 ^ 4) (asked == 0) old _ (λ _. h)
    (λ _. either (λ (n : ℕ). n < 256 ^ 4) (asked == 0x80) 0 asked (λ _. omega arith) (λ _. i))

set_fits : (old b : Basic) → IsBasic old → IsBasic b → IsBasic (set_basic old b)
unfolding set_basic
set_fits old b h i =
    record {
      created = time_fits old.created b.created h.created i.created;
      accessed = time_fits old.accessed b.accessed h.accessed i.accessed;
      written = time_fits old.written b.written h.written i.written;
      changed = time_fits old.changed b.changed h.changed i.changed;
      attributes = attributes_fit old.attributes b.attributes h.attributes i.attributes;
    }

-- the root is replaced by none
target_named : (s : Server) (f : ℕ) (path : List ℕ) → (f == root) ≡ false → target_refused s (target_of f (find s path)) ≡ false
    → is_below_root path ≡ true
unfolding find target_refused is_directory
target_named s f (c ∷ cs) no_root free = refl
target_named s f [] no_root free =
    elim (root == f) as (λ b. root == f ≡ b → target_refused s (if b then None else Some root) ≡ false → is_below_root [] ≡ true) [
      | true ↦ λ q g. absurd (let k : true ≡ false = subst (λ n. (n == root) ≡ false) (sym (eqb-true root f q)) no_root in cc)
      | false ↦ λ q g. absurd (let k : true ≡ false = g in cc)
    ] refl free

below_it : (a n : ℕ) → nat_lt a n ≡ true → n ≤ full_room → a ≤ full_room
below_it a n e l = let k = less a n e in omega (arith, k, l)
  where
    less : (a n : ℕ) → nat_lt a n ≡ true → a < n
    less a n e = grind (arith, nat_tests)

setting_keeps : (s : Server) (m : Message) (o : ℕ) (setting : Setting) → Fits s → OpenFacts s m o → RowsFit s → SetsFit setting
    → SettingSays s o setting → Changes s.content s.entries (file_of s o) (setting_change s o setting)
setting_keeps s m o (SetBasic basic) i op h g says = set_fits (s.basic (file_of s o)) basic (h.basics (file_of s o)) g
setting_keeps s m o (Rename replace path) i op h g says = (
  record { named = target_named s (file_of s o) path says.no_root says.target; leaf = g },
  exists_named s (file_of s o) h.places (i.open_files o op.standing) says.no_root,
)
setting_keeps s m o (SetDelete flag) i op h g says = tt
setting_keeps s m o (SetAllocation size) i op h g says =
    let c = s.content (file_of s o) in
    either (λ (x : Change). Changes s.content s.entries (file_of s o) x) (nat_lt size (length c)) (PutEnd size) PutNothing
    (λ e. ended_few size c (below_it size (length c) e (h.sizes (file_of s o)))) (λ _. tt)
setting_keeps s m o (SetEnd size) i op h g says =
    ended_few size (s.content (file_of s o)) (size_few s (file_of s o) size h says.room)
setting_keeps s m o (SetPosition position) i op h g says = tt
setting_keeps s m o SetMode i op h g says = tt

alter_keeps : (s : Server) (m : Message) (o : ℕ) (change : Change) (body : Body) → Fits s → RowsFit s → AsksFit m.command
    → OpenFacts s m o → WriteFacts s m o change body ⊎ SettingFacts s m o change body
    → Changes s.content s.entries (file_of s o) change
alter_keeps s m o change body i h g op (inl f) =
    subst (λ (c : Change). Changes s.content s.entries (file_of s o) c) (sym f.change_is)
    (bytes_keep s (file_of s o) f.at f.bytes h f.room)
alter_keeps s m o change body i h g op (inr f) =
    subst (λ (c : Change). Changes s.content s.entries (file_of s o) c) (sym f.change_is)
    (setting_keeps s m o f.setting i op h (subst AsksFit f.command g) f.says)

-- ---- every verdict

pub keeps : (s : Server) (m : Message) (v : Verdict) → Fits s → RowsFit s → AsksFit m.command → Facts s m v → Keeps s v
keeps s m (Refuse status) i h g f = tt
keeps s m (Give body) i h g f = tt
keeps s m (KeepRefusal guid status) i h g f = tt
keeps s m (Repeat o r) i h g f = tt
keeps s m (Attach o r) i h g f = tt
keeps s m (Make r found action) i h g f = make_keeps s m r found action h (subst AsksFit f.new.create.command g) f
keeps s m (TurnDown o status) i h g f = tt
keeps s m (Tell o body) i h g f = tt
keeps s m (Show o last body) i h g f = tt
keeps s m (KeepSlot o index number status elements) i h g f = tt
keeps s m (PutRanges o index number ranges elements) i h g f = tt
keeps s m (Alter o change body) i h g f = alter_keeps s m o change body i h g f.opened f.asked
keeps s m (CloseOpen o body) i h g f = tt
keeps s m Challenge i h g f = tt
keeps s m (ChallengeBinding session) i h g f = tt
keeps s m (Begin session user previous r is_quiet) i h g f = tt
keeps s m (Join session) i h g f = tt
keeps s m (EndSession session is_quiet) i h g f = tt
keeps s m (AddTree pipes) i h g f = tt
keeps s m DropTree i h g f = tt

refused_keeps : (s : Server) (u : Option Durable) (status : ℕ) → Keeps s (refused_by u status)
refused_keeps s None status = tt
refused_keeps s (Some d) status = tt

pub keeps_full : (s : Server) (v : Verdict) → Keeps s (without_room v)
keeps_full s (Refuse status) = tt
keeps_full s (Give body) = tt
keeps_full s (KeepRefusal guid status) = tt
keeps_full s (Repeat o r) = tt
keeps_full s (Attach o r) = tt
keeps_full s (Make r found action) = refused_keeps s r.durable disk_full
keeps_full s (TurnDown o status) = tt
keeps_full s (Tell o body) = tt
keeps_full s (Show o last body) = tt
keeps_full s (KeepSlot o index number status elements) = tt
keeps_full s (PutRanges o index number ranges elements) = tt
keeps_full s (Alter o change body) = tt
keeps_full s (CloseOpen o body) = tt
keeps_full s Challenge = tt
keeps_full s (ChallengeBinding session) = tt
keeps_full s (Begin session user previous r is_quiet) = tt
keeps_full s (Join session) = tt
keeps_full s (EndSession session is_quiet) = tt
keeps_full s (AddTree pipes) = tt
keeps_full s DropTree = tt

-- Which check a command comes to.
use Rattle.std.proofs.Common.{◌≡◌, ℕ, ◌==◌, Bool, true, false, if◌then◌else◌, List, None, Bor, refl, sym, ap, ◌∙◌}
use Rattle.wire_commands.specs.values.Meaning.{command_of}
use Rattle.wire_commands.specs.declared.values.command.Command.{Command}
use Rattle.wire_commands.specs.declared.values.command.Command.TheVariants.{Unreadable, Aside, Setup, Logoff, TreeConnect}
use Rattle.wire_commands.specs.declared.values.command.Command.TheVariants.{TreeDisconnect, Create, Close, Flush, Read, Write, Lock}
use Rattle.wire_commands.specs.declared.values.command.Command.TheVariants.{Ioctl, ListDirectory, QueryFile, QueryVolume, SetInfo}
use Rattle.wire_commands.specs.declared.values.command.CreateRequest.{CreateRequest}
use Rattle.wire_commands.specs.declared.values.setup.SetupRequest.{SetupRequest}
use Rattle.spec_exchange.specs.Check.{command_check, on_open, tree_command, with_tree}
use Rattle.spec_exchange.specs.CheckOpen.{free_ioctl_check, ioctl_check}
use Rattle.spec_exchange.specs.Commands as asks
use Rattle.spec_exchange.specs.Commands.{form, is_setup, no_file}
use Rattle.spec_exchange.specs.Opens.{is_of_tree}
use Rattle.spec_exchange.specs.State.{Server, Message}
use Rattle.spec_exchange.specs.Status.{file_closed}
use Rattle.spec_exchange.specs.Verdict.{Verdict, Refuse}
use Rattle.server_checks.proofs.Commands.{short_write}
use Rattle.server_checks.proofs.Passed.{then_is}
use Rattle.server_checks.specs.Looks.{IsOnOpen, IsListingShort}

-- ---- on a tree

pub record IsOnTree (c : Command) : Type 0 where
  pub unreadable : (status : ℕ) → c ≡ Unreadable status → ⊥
  pub aside : (status : ℕ) → c ≡ Aside status → ⊥
  pub setup : (request : SetupRequest) → c ≡ Setup request → ⊥
  pub logoff : c ≡ Logoff → ⊥
  pub tree_connect : (share : List ℕ) → c ≡ TreeConnect share → ⊥

pub no_setup : (c : Command) → IsOnTree c → is_setup (command_of c) ≡ false
no_setup (Unreadable status) n = refl
no_setup (Aside status) n = refl
no_setup (Setup request) n = absurd (n.setup request refl)
no_setup Logoff n = refl
no_setup (TreeConnect share) n = refl
no_setup TreeDisconnect n = refl
no_setup (Create request) n = refl
no_setup (Close file query) n = refl
no_setup (Flush file) n = refl
no_setup (Read file at size minimum channel) n = refl
no_setup (Write file at bytes channel) n = refl
no_setup (Lock file index number elements) n = refl
no_setup (Ioctl file code room) n = refl
no_setup (ListDirectory file class restart single pattern room) n = refl
no_setup (QueryFile file class room) n = refl
no_setup (QueryVolume file class room) n = refl
no_setup (SetInfo file setting) n = refl

pub on_tree : (s : Server) (m : Message) (c : Command) → IsOnTree c → with_tree s m ≡ command_check s m (command_of c)
on_tree s m (Unreadable status) n = absurd (n.unreadable status refl)
on_tree s m (Aside status) n = absurd (n.aside status refl)
on_tree s m (Setup request) n = absurd (n.setup request refl)
on_tree s m Logoff n = absurd (n.logoff refl)
on_tree s m (TreeConnect share) n = absurd (n.tree_connect share refl)
on_tree s m TreeDisconnect n = refl
on_tree s m (Create request) n = refl
on_tree s m (Close file query) n = refl
on_tree s m (Flush file) n = refl
on_tree s m (Read file at size minimum channel) n = refl
on_tree s m (Write file at bytes channel) n = refl
on_tree s m (Lock file index number elements) n = refl
on_tree s m (Ioctl file code room) n = refl
on_tree s m (ListDirectory file class restart single pattern room) n = refl
on_tree s m (QueryFile file class room) n = refl
on_tree s m (QueryVolume file class room) n = refl
on_tree s m (SetInfo file setting) n = refl

-- ---- on an open

pub record IsNamed (c : Command) : Type 0 where
  pub unreadable : (status : ℕ) → c ≡ Unreadable status → ⊥
  pub tree_disconnect : c ≡ TreeDisconnect → ⊥
  pub create : (request : CreateRequest) → c ≡ Create request → ⊥
  pub ioctl : (file code room : ℕ) → c ≡ Ioctl file code room → ⊥

pub is_on_open : (c : Command) → IsNamed c → IsOnOpen (command_of c)
is_on_open (Unreadable status) n = n.unreadable status refl
is_on_open (Aside status) n = tt
is_on_open (Setup request) n = tt
is_on_open Logoff n = tt
is_on_open (TreeConnect share) n = tt
is_on_open TreeDisconnect n = n.tree_disconnect refl
is_on_open (Create request) n = n.create request refl
is_on_open (Close file query) n = tt
is_on_open (Flush file) n = tt
is_on_open (Read file at size minimum channel) n = tt
is_on_open (Write file at bytes channel) n = tt
is_on_open (Lock file index number elements) n = tt
is_on_open (Ioctl file code room) n = absurd (n.ioctl file code room refl)
is_on_open (ListDirectory file class restart single pattern room) n = tt
is_on_open (QueryFile file class room) n = tt
is_on_open (QueryVolume file class room) n = tt
is_on_open (SetInfo file setting) n = tt

pub free_is : (s : Server) (m : Message) (pipes : Bool) (o code room : ℕ) → (o == no_file) ≡ true
    → free_ioctl_check s code room ≡ tree_command s m pipes (asks.Ioctl o code room)
free_is s m pipes o code room e = then_is (o == no_file) (free_ioctl_check s code room) (on_open s m o (ioctl_check s m o code room)) e

-- a write that keeps its form
pub short_of : (c : Command) (f p : ℕ) (bytes : Bor (List ℕ)) (channel : ℕ) → c ≡ Write f p bytes channel → form (command_of c) ≡ None
    → IsListingShort p bytes.now
short_of c f p bytes channel e g = short_write p bytes.now channel (sym (ap (λ (z : Command). form (command_of z)) e) ∙ g)

pub on_this : (s : Server) (m : Message) (o : ℕ) (v : Verdict) → is_of_tree s o m.session_id m.tree_id ≡ true → v ≡ on_open s m o v
on_this s m o v e = ap (λ (z : Bool). if z then v else Refuse file_closed) (sym e)

pub not_this : (s : Server) (m : Message) (o : ℕ) (v : Verdict) → is_of_tree s o m.session_id m.tree_id ≡ false
    → Refuse file_closed ≡ on_open s m o v
not_this s m o v e = ap (λ (z : Bool). if z then v else Refuse file_closed) (sym e)

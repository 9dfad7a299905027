use Rattle.std.proofs.Common.{◌≡◌, ℕ, ◌^◌, ◌<◌, Bool, true, false, List, ◌++◌, Option, Some, refl, ap, ◌∙◌, arith}
use Rattle.spec_wire.specs.messages.SessionSetup.{SessionSetupResponseValue, SpellsSessionSetupResponse}
use Rattle.spec_wire.specs.messages.SessionSetup.{session_setup_response_fault, session_setup_response_in}
use Rattle.spec_wire.specs.messages.SessionSetup.{session_setup_response_spelling}
use Rattle.spec_wire.specs.messages.TreeConnect.{SpellsTreeConnectResponse, tree_connect_response_fault}
use Rattle.spec_wire.specs.messages.TreeConnect.{tree_connect_response_in, tree_connect_response_spelling}
use Rattle.spec_wire.specs.declared.messages.session_message.TreeConnectResponse.{TreeConnectResponse}
use Rattle.spec_exchange.specs.Commands.{has_bit}
use Rattle.spec_exchange.specs.State.{Body, SetUp, Connected, Empty}
use Rattle.spec_wire.specs.messages.Bare.{bare_fault, bare_spelling}
use Rattle.spec_commands.specs.Tables.{bit_if}
use Rattle.spec_commands.specs.ReplyBody.{connected_value}
use Rattle.spec_commands.specs.ReplyOf.{body_in}
use Rattle.law_commands.proofs.commands.ReadBack.{found}
use Rattle.law_commands.proofs.commands.HeardBack.{heard_as, unbroken}
use Rattle.law_commands.proofs.commands.dialog.dialog_reply_law.Goals as goal

abbrev set_up : SessionSetupResponseValue → Option Body
set_up v = Some (SetUp (has_bit v.session_flags 4) 0)

abbrev connected : TreeConnectResponse → Option Body
connected v = Some (Connected v.share_type v.capabilities v.maximal_access)

seals_again : (b : Bool) → has_bit (bit_if b 4) 4 ≡ b
unfolding has_bit bit_if
seals_again true = refl
seals_again false = refl

seals_small : (b : Bool) → bit_if b 4 < 256 ^ 2
unfolding bit_if
seals_small true = omega arith
seals_small false = omega arith

pub returns-clause-setup : goal.returns-clause-setup
unfolding body_in
returns-clause-setup c = λ header rest token request sealed channel len few.
    let law = c.session_setup_response_law.ensures in
    let v : SessionSetupResponseValue = record { session_flags = bit_if sealed 4; security = token } in
    let m : List ℕ = header ++ (session_setup_response_spelling v ++ rest) in
    heard_as session_setup_response_fault session_setup_response_in set_up m v
    (found SpellsSessionSetupResponse session_setup_response_fault session_setup_response_in law.one law.whole
    law.given m v (law.again header rest v len (
      omega arith,
      (
        seals_small sealed,
        (
          omega arith,
          (
            few,
            (
              refl,
              tt,
            ),
          ),
        ),
      ),
    )))
    ∙ ap (λ (b : Bool). Some (SetUp b 0)) (seals_again sealed)

pub returns-clause-tree : goal.returns-clause-tree
unfolding body_in
returns-clause-tree c = λ header rest token share kind capabilities access len small few fits.
    let law = c.tree_connect_response_law.ensures in
    let v : TreeConnectResponse = connected_value kind capabilities access in
    let m : List ℕ = header ++ (tree_connect_response_spelling v ++ rest) in
    heard_as tree_connect_response_fault tree_connect_response_in connected m v
    (found SpellsTreeConnectResponse tree_connect_response_fault tree_connect_response_in law.one law.whole law.given
    m v (law.again header rest v len (omega arith, (small, (omega arith, (few, (fits, tt)))))))

pub returns-clause-logoff : goal.returns-clause-logoff
unfolding body_in
returns-clause-logoff c = λ header rest token len.
    let m : List ℕ = header ++ (bare_spelling ++ rest) in
    unbroken (bare_fault m) (Some Empty) (c.bare_law.ensures.whole m (c.bare_law.ensures.again header rest len))

pub returns-clause-disconnect : goal.returns-clause-disconnect
unfolding body_in
returns-clause-disconnect c = λ header rest token len.
    let m : List ℕ = header ++ (bare_spelling ++ rest) in
    unbroken (bare_fault m) (Some Empty) (c.bare_law.ensures.whole m (c.bare_law.ensures.again header rest len))
